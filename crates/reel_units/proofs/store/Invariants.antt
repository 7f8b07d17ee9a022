-- The payloads before are laid over the output, and those that are left are accepted by what is left of it.
use Rattle.std.proofs.Common.{◌≡◌, ℕ, ◌-◌, ◌≤◌, List, ◌++◌, length}
use Rattle.std.specs.Slice.Iter.{chunks_rest, chunks_size}
use Rattle.lists.specs.Room.{over}
use Rattle.refusal.specs.Verdict.{Accepted}
use Rattle.line21.specs.declared.AccessUnit.{AccessUnit}
use Rattle.reel.specs.Writing.{reel, reel_layout, reel_verdict}
use Rattle.reel_units.proofs.store.Given as goal

pub record Placed (flags size : ℕ) (all rest : List AccessUnit) (begun out : List ℕ) (at : ℕ) : Type 0 where
  pub front : List ℕ
  pub long : length front ≡ at
  pub fits : at ≤ length begun
  pub stands : out ≡ over front begun
  pub whole : reel_layout (reel flags size all) ≡ front ++ reel_layout (reel flags size rest)
  pub others : reel_verdict (reel flags size rest) (length begun - at) ≡ Accepted

abbrev pub invariant-loop-payload : goal.invariant-loop-payload
invariant-loop-payload l =
    (chunks_size l.payload-iterator ≡ l.size) × Placed l.flags l.size l.units (chunks_rest l.payload-iterator) l.initial.out l.out l.at
