-- The payloads before unit i are laid over the output, and those from it on are accepted by what is left of it.
use Rattle.std.proofs.Common.{◌≡◌, ℕ, ◌+◌, ◌-◌, ◌/◌, ◌≤◌, List, ◌++◌, length, drop}
use Rattle.lists.specs.Room.{over}
use Rattle.refusal.specs.Verdict.{Accepted}
use Rattle.line21.specs.Lent.{run_in}
use Rattle.reel.specs.Writing.{reel, reel_layout, reel_verdict}
use Rattle.line21_writer.proofs.reels.put_reel.Given as goal

pub record Placed (flags size : ℕ) (s begun out : List ℕ) (at i : ℕ) : Type 0 where
  pub inside : i ≤ length s / 7
  pub front : List ℕ
  pub long : length front ≡ at
  pub fits : at ≤ length begun
  pub stands : out ≡ over front begun
  pub whole : reel_layout (reel flags size (run_in s)) ≡ front ++ reel_layout (reel flags size (drop i (run_in s)))
  pub rest : reel_verdict (reel flags size (drop i (run_in s))) (length begun - at) ≡ Accepted

abbrev pub invariant-loop-left : goal.invariant-loop-left
invariant-loop-left l = (l.i + l.left ≡ length l.units / 7) × Placed l.flags l.size l.units l.initial.out l.out l.at l.i

abbrev pub decreases-loop-left : goal.decreases-loop-left
decreases-loop-left l = l.left
