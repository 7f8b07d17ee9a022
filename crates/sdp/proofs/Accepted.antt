-- What user bytes satisfy that the rules accept, part by part.
-- Assumes nothing.
use Prim.Native.Nat.{ℕ, ◌+◌, ◌-◌, ◌%◌, ◌≤◌}
use mathlib.Core.Path.{◌≡◌}
use mathlib.Core.List.{List}
use lib.ListN.{length, get_or, drop}
use Rattle.lists.specs.Sum.{sum}
use Rattle.refusal.specs.Verdict.{Accepted}
use Rattle.refusal.proofs.Checks.{accepted-and_then, accepted-equal, accepted-within}
use Rattle.sdp.specs.Layout.{user_length}
use Rattle.sdp.specs.User.{descriptors_in, descriptors_verdict, structures_in, structures_verdict, head_verdict, tail_verdict}

-- what stands before the structures
pub record Head (dc : ℕ) (u : List ℕ) : Type 0 where
  pub long : 13 ≤ length u
  pub first : get_or u 0 0 ≡ 0x51
  pub second : get_or u 1 0 ≡ 0x15
  pub counted : get_or u 2 0 ≡ length u
  pub format : get_or u 3 0 ≡ 0x02
  pub lines : descriptors_verdict (dc + 5) (descriptors_in u) ≡ Accepted
  pub whole : length u ≡ user_length (structures_in u)

pub accepted-head : (dc : ℕ) (u : List ℕ) → head_verdict dc u ≡ Accepted → Head dc u
unfolding head_verdict
accepted-head dc u e =
    let long = accepted-and_then _ _ e in
    let first = accepted-and_then _ _ long.1 in
    let second = accepted-and_then _ _ first.1 in
    let counted = accepted-and_then _ _ second.1 in
    let format = accepted-and_then _ _ counted.1 in
    let lines = accepted-and_then _ _ format.1 in
    let whole = accepted-and_then _ _ lines.1 in
    record {
      long = accepted-within _ _ _ _ long.0;
      first = accepted-equal _ _ _ _ first.0;
      second = accepted-equal _ _ _ _ second.0;
      counted = accepted-equal _ _ _ _ counted.0;
      format = accepted-equal _ _ _ _ format.0;
      lines = lines.0;
      whole = accepted-equal _ _ _ _ whole.0;
    }

-- the structures and what stands behind them
pub record Tail (dc : ℕ) (u : List ℕ) : Type 0 where
  pub fixed : structures_verdict (dc + 10) (structures_in u) (drop 9 u) ≡ Accepted
  pub footer : get_or u (length u - 4) 0 ≡ 0x74
  pub total : sum u % 256 ≡ 0

pub accepted-tail : (dc : ℕ) (u : List ℕ) → tail_verdict dc u ≡ Accepted → Tail dc u
unfolding tail_verdict
accepted-tail dc u e =
    let fixed = accepted-and_then _ _ e in
    let footer = accepted-and_then _ _ fixed.1 in
    let total = accepted-and_then _ _ footer.1 in
    record { fixed = fixed.0; footer = accepted-equal _ _ _ _ footer.0; total = accepted-equal _ _ _ _ total.0 }
