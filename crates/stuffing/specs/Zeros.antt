-- 19: bits that must be zero, as those of the alignment and of the stuffing. RULES, "Picture area" and "Order of
-- checks".
use Rattle.std.specs.Prelude.{ℕ, suc, ◌≤◌, ◌<◌, ◌≡◌, not, List, [], ◌∷◌, eqb, get_or}
use Rattle.refusal.specs.Verdict.{Verdict}
use Rattle.refusal.specs.Verdict.{Accepted}
use Rattle.refusal.specs.declared.Reason.TheVariants.{Unfixed}
use Rattle.refusal.specs.declared.Fixed.{Fixed}
use Rattle.refusal.specs.declared.Item.TheVariants.{Bit}
use Rattle.refusal.specs.Checks.{refuse_if, and_then}

-- the bits, of which the first is bit `at`, are all zero, or the first that is not is refused
abbrev pub zero_verdict : Fixed → ℕ → List ℕ → Verdict
zero_verdict which at [] = Accepted
zero_verdict which at (b ∷ bs) =
    and_then (refuse_if (not (eqb b 0)) (Unfixed which) (Bit at)) (zero_verdict which (suc at) bs)

-- the same as a list of checks, one for each bit
abbrev pub zero_checks : Fixed → ℕ → List ℕ → List Verdict
zero_checks which at [] = []
zero_checks which at (b ∷ bs) = refuse_if (not (eqb b 0)) (Unfixed which) (Bit at) ∷ zero_checks which (suc at) bs

-- the first of the bits from bit `from` on that is not 0
pub record FirstOne (xs : List ℕ) (from bit : ℕ) : Type 0 where
  pub behind : from ≤ bit
  pub zeros : (i : ℕ) → from ≤ i → i < bit → get_or xs i 0 ≡ 0
  pub one : get_or xs bit 0 ≡ 1
