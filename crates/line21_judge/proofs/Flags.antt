-- A flags byte as a number of any size: where it is let through, a byte holds it.
-- Assumes nothing.
use Rattle.std.proofs.Common.{◌≡◌, refl, ℕ, ◌<◌, Bool, true, false, cond, ltb, Result, Ok, Err, arith}
use borrow.Author.Tests.{ltb-true, ltb-false}
use Rattle.refusal.specs.declared.Reason.{Reason}
use Rattle.refusal.specs.declared.Reason.TheVariants.{Unholdable}
use Rattle.refusal.specs.declared.Excess.TheVariants.{FlagsByte}
use Rattle.refusal.specs.declared.Item.{Item}
use Rattle.refusal.specs.declared.Item.TheVariants.{Whole}
use Rattle.line21_judge.specs.Judging.{flags_judged}

told : Bool → ℕ → Result ℕ (Reason × Item)
told t n = cond t (Ok n) (Err (Unholdable FlagsByte, Whole))

held : (t : Bool) (n byte : ℕ) → told t n ≡ Ok byte → (t ≡ true) × (n ≡ byte)
unfolding told
held true n byte e = (refl, cc)
held false n byte e = absurd (cc)

not-held : (t : Bool) (n : ℕ) (why : Reason × Item) → told t n ≡ Err why → (t ≡ false) × ((Unholdable FlagsByte, Whole) ≡ why)
unfolding told
not-held true n why e = absurd (cc)
not-held false n why e = (refl, cc)

pub flags-fit : (flags byte : ℕ) → flags_judged flags ≡ Ok byte → (flags < 256) × (flags ≡ byte)
unfolding told
flags-fit flags byte e = let h = held (ltb flags 256) flags byte e in (ltb-true _ _ h.0, h.1)

pub flags-wide : (flags : ℕ) (why : Reason × Item) → flags_judged flags ≡ Err why → (255 < flags) × ((Unholdable FlagsByte, Whole) ≡ why)
unfolding told
flags-wide flags why e =
    let h = not-held (ltb flags 256) flags why e in
    let wide = ltb-false _ _ h.0 in
    (omega arith, h.1)
