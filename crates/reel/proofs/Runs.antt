-- Runs that are lent as bytes, and the one answer that each promise leaves.
-- Assumes nothing.
use Prim.Native.Nat.{ℕ, ◌-◌, ◌*◌, ◌/◌, ◌%◌}
use native.Mathlib.Omega.{arith}
use mathlib.Core.Path.{◌≡◌, ◌∙◌, sym, refl}
use mathlib.Core.Bool.{Bool, true, false}
use mathlib.Core.List.{List, ◌++◌}
use borrow.Author.Tests.{eqb-true, eqb-false}
use lib.Dec.{eqb}
use lib.ListN.{length}
use Rattle.lists.proofs.Flat.{length-flat, flat-whole}
use Rattle.refusal.specs.Verdict.{Verdict}
use Rattle.refusal.specs.declared.Written.{Written}
use Rattle.refusal.specs.Answers.{refused}
use Rattle.refusal.proofs.Outputs.{wrote-determined}
use Rattle.line21.specs.declared.AccessUnit.{AccessUnit}
use Rattle.line21.specs.Lent.{access_unit_bytes, access_units_bytes, access_unit_in, run_in}
use Rattle.line21.specs.Writing.{unit_verdict}
use Rattle.line21_judge.specs.Judging.{lent_verdict}
use Rattle.reel.specs.Writing.{size_verdict, WritesReel}
use Rattle.reel.specs.Lent.{run_verdict, WritesRun}

length-bytes : (us : List AccessUnit) → length (access_units_bytes us) ≡ 7 * length us
length-bytes = length-flat access_unit_bytes 7 (λ u. refl)

bytes-unit : (u : AccessUnit) (rest : List ℕ) → access_unit_in (access_unit_bytes u ++ rest) ≡ u
unfolding access_unit_in
bytes-unit u rest = refl

pub run-whole : (us : List AccessUnit) → length (access_units_bytes us) % 7 ≡ 0
run-whole us = omega (arith, length-bytes us)

pub run-units : (us : List AccessUnit) → run_in (access_units_bytes us) ≡ us
run-units us =
    let count : length us ≡ length (access_units_bytes us) / 7 = omega (arith, length-bytes us) in
    flat-whole access_unit_bytes 7 (λ u. refl) access_unit_in bytes-unit us (length (access_units_bytes us) / 7) count

pub cut-off-refused : (flags size : ℕ) (s out : List ℕ) (r : Written) (exit : List ℕ) → WritesRun flags size s out r exit
    → (length s % 7 ≡ 0 → ⊥) → (r ≡ record { refusal = refused 15 0; len = 0 }) × (exit ≡ out)
cut-off-refused flags size s out r exit w h = let wrote = w.cut_off h in (wrote.counted, wrote.left)

pub reel-determined : (flags size : ℕ) (us : List AccessUnit) (out : List ℕ) (a : Written) (exit : List ℕ) (b : Written) (end : List ℕ)
    → WritesReel flags size us out a exit → WritesReel flags size us out b end → (a ≡ b) × (exit ≡ end)
reel-determined flags size us out a exit b end wa wb = wrote-determined _ _ _ _ _ wa.wrote b end wb.wrote

pub run-determined : (flags size : ℕ) (s out : List ℕ) (a : Written) (exit : List ℕ) (b : Written) (end : List ℕ)
    → WritesRun flags size s out a exit → WritesRun flags size s out b end → (a ≡ b) × (exit ≡ end)
run-determined flags size s out a exit b end wa wb = decide (eqb (length s % 7) 0) refl
  where
    decide : (t : Bool) → eqb (length s % 7) 0 ≡ t → (a ≡ b) × (exit ≡ end)
    decide true e =
        let whole = eqb-true (length s % 7) 0 e in
        reel-determined flags size (run_in s) out a exit b end (wa.whole whole) (wb.whole whole)
    decide false e =
        let part = eqb-false (length s % 7) 0 e in
        wrote-determined _ _ _ _ _ (wa.cut_off part) b end (wb.cut_off part)

-- the functions that judge
pub judge-size-determined : (size : ℕ) (a b : Verdict) → a ≡ size_verdict size → b ≡ size_verdict size → a ≡ b
judge-size-determined size a b ra rb = ra ∙ sym rb

pub judge-reel-determined : (size : ℕ) (s : List ℕ) (room : ℕ) (a b : Verdict)
    → a ≡ run_verdict 0 size s room → b ≡ run_verdict 0 size s room → a ≡ b
judge-reel-determined size s room a b ra rb = ra ∙ sym rb

pub least-determined : (a b r q : ℕ) → r ≡ a - (a - b) → q ≡ a - (a - b) → r ≡ q
least-determined a b r q ra rb = ra ∙ sym rb

pub judge-value-determined : (m : ℕ) (s : List ℕ) (room : ℕ) (a b : Verdict)
    → a ≡ lent_verdict m s room → b ≡ lent_verdict m s room → a ≡ b
judge-value-determined m s room a b ra rb = ra ∙ sym rb

pub judge-unit-determined : (u : AccessUnit) (a b : Verdict) → a ≡ unit_verdict u → b ≡ unit_verdict u → a ≡ b
judge-unit-determined u a b ra rb = ra ∙ sym rb
