-- What the promise of a call says.
-- Assumes nothing.
use Prim.Native.Nat.{ℕ, ◌≤◌, ◌<◌}
use native.Mathlib.Omega.{arith}
use mathlib.Core.Path.{◌≡◌, ap, refl}
use mathlib.Core.Bool.{Bool, true, false}
use mathlib.Core.Logic.{◌↔◌}
use mathlib.Core.List.{List}
use borrow.Author.Tests.{ltb-true, ltb-false}
use lib.Dec.{ltb}
use lib.ListN.{length}
use Rattle.lists.specs.Each.{Each}
use Rattle.refusal.specs.declared.Written.{Written}
use Rattle.refusal.specs.Answers.{refused}
use Rattle.refusal.proofs.Outputs.{wrote-determined}
use Rattle.line21.specs.declared.AccessUnit.{AccessUnit}
use Rattle.line21.specs.Value.{LegalAccessUnit}
use Rattle.reel.specs.Writing.{WritesReel, reel, reel_layout}
use Rattle.reel.proofs.Theorems as reels
use Rattle.reel_units.specs.Calls.{ReelWrites}

module _ (flags size : ℕ) (us : List AccessUnit) (out : List ℕ) (r : Written) (exit : List ℕ) where
  module _ (kept : ReelWrites flags size us out r exit) where
    pub as-reel : flags < 256 → WritesReel flags size us out r exit
    as-reel = kept.within

    pub wide-flags-refused : 255 < flags → (r.refusal ≡ refused 15 0) × (r.len ≡ 0) × (exit ≡ out)
    wide-flags-refused high =
        let wrote = kept.beyond high in
        (ap (λ (w : Written). w.refusal) wrote.counted, ap (λ (w : Written). w.len) wrote.counted, wrote.left)

    -- a success had flags that a byte holds
    pub reel-units-exactly : r.refusal.number ≡ 0
        ↔ ((flags < 256) × (1 ≤ size) × (size ≤ 291) × Each LegalAccessUnit us × (length (reel_layout (reel flags size us)) ≤ length out))
    reel-units-exactly = (
      λ e.
          let low = byte (ltb 255 flags) refl e in
          let fits = (reels.writes-exactly flags size us out r exit (kept.within low)).0 e in
          (low, fits.0, fits.1, fits.2, fits.3),
      λ h. (reels.writes-exactly flags size us out r exit (kept.within h.0)).1 (h.1, h.2, h.3, h.4),
    )
      where
        byte : (t : Bool) → ltb 255 flags ≡ t → r.refusal.number ≡ 0 → flags < 256
        byte true high e = let f : ⊥ = omega (arith, ap (λ (w : Written). w.refusal.number) (kept.beyond (ltb-true 255 flags high)).counted) in absurd f
        byte false low e = omega (arith, ltb-false 255 flags low)

-- one of the two holds, and each fixes the answer
pub reel-units-determined : (flags size : ℕ) (us : List AccessUnit) (out : List ℕ) (a : Written) (exit : List ℕ) (b : Written) (end : List ℕ)
    → ReelWrites flags size us out a exit → ReelWrites flags size us out b end → (a ≡ b) × (exit ≡ end)
reel-units-determined flags size us out a exit b end kept other = by_flags (ltb 255 flags) refl
  where
    by_flags : (t : Bool) → ltb 255 flags ≡ t → (a ≡ b) × (exit ≡ end)
    by_flags true e =
        let high = ltb-true 255 flags e in
        wrote-determined _ _ out a exit (kept.beyond high) b end (other.beyond high)
    by_flags false e =
        let low : flags < 256 = omega (arith, ltb-false 255 flags e) in
        wrote-determined _ _ out a exit (kept.within low).wrote b end (other.within low).wrote
