-- The calls that write a reel: when each succeeds, what flags that no byte holds come to, and its one answer.
-- Assumes nothing.
use Prim.Native.Nat.{ℕ, ◌%◌, ◌<◌}
use native.Mathlib.Omega.{arith}
use mathlib.Core.Path.{◌≡◌, ap, refl}
use mathlib.Core.Logic.{◌↔◌, ⊎_elim}
use mathlib.Core.Bool.{Bool, true, false}
use mathlib.Core.List.{List}
use borrow.Author.Tests.{eqb-true, eqb-false}
use lib.Dec.{eqb}
use lib.ListN.{length}
use Rattle.refusal.specs.declared.Written.{Written}
use Rattle.refusal.specs.Answers.{refused}
use Rattle.refusal.proofs.Outputs.{wrote-determined}
use Rattle.line21.specs.Lent.{run_in}
use Rattle.reel.specs.Lent.{WritesRun}
use Rattle.reel.proofs.Theorems as reels
use Rattle.line21_writer.specs.Calls.{RunWrites}
use Rattle.captions.specs.Arguments.{FitsRun}
use Rattle.captions.proofs.Numbers.{byte-or-wide}

module _ (flags size : ℕ) (s out : List ℕ) (r : Written) (exit : List ℕ) (w : RunWrites flags size s out r exit) where
  pub as-run : flags < 256 → WritesRun flags size s out r exit
  as-run h = w.within h

  pub reel-flags-refused : 255 < flags → (r ≡ record { refusal = refused 15 0; len = 0 }) × (exit ≡ out)
  reel-flags-refused h = let wrote = w.beyond h in (wrote.counted, wrote.left)

  -- a success had flags that a byte holds, and a run of whole units
  flags_byte : r.refusal.number ≡ 0 → flags < 256
  flags_byte e =
      ⊎_elim (λ h. h)
      (λ h. let f : ⊥ = omega (arith, ap (λ (x : Written). x.refusal.number) (w.beyond h).counted) in absurd f)
      (byte-or-wide flags)

  whole-units : r.refusal.number ≡ 0 → length s % 7 ≡ 0
  whole-units e = decide (eqb (length s % 7) 0) refl
    where
      decide : (t : Bool) → eqb (length s % 7) 0 ≡ t → length s % 7 ≡ 0
      decide true found = eqb-true (length s % 7) 0 found
      decide false found =
          let part = (w.within (flags_byte e)).cut_off (eqb-false (length s % 7) 0 found) in
          let f : ⊥ = omega (arith, ap (λ (x : Written). x.refusal.number) part.counted) in
          absurd f

  pub reel-bytes-exactly : r.refusal.number ≡ 0 ↔ FitsRun flags size s out
  reel-bytes-exactly = (
    λ e.
        let byte = flags_byte e in
        let whole = whole-units e in
        let fits = (reels.writes-exactly flags size (run_in s) out r exit ((w.within byte).whole whole)).0 e in
        (byte, whole, fits.0, fits.1, fits.2, fits.3),
    λ h. (reels.writes-exactly flags size (run_in s) out r exit ((w.within h.0).whole h.1)).1 (h.2, h.3, h.4, h.5),
  )

pub reel-bytes-determined : (flags size : ℕ) (s out : List ℕ) (a : Written) (exit : List ℕ) (b : Written) (end : List ℕ)
    → RunWrites flags size s out a exit → RunWrites flags size s out b end → (a ≡ b) × (exit ≡ end)
reel-bytes-determined flags size s out a exit b end p q = ⊎_elim small large (byte-or-wide flags)
  where
    small : flags < 256 → (a ≡ b) × (exit ≡ end)
    small h = reels.run-determined flags size s out a exit b end (p.within h) (q.within h)

    large : 255 < flags → (a ≡ b) × (exit ≡ end)
    large h = wrote-determined _ _ _ _ _ (p.beyond h) b end (q.beyond h)
