-- Numbers that a byte cannot hold are refused with 15, and are not cut.
-- Assumes nothing.
use Prim.Native.Nat.{ℕ, ◌<◌}
use native.Mathlib.Omega.{arith}
use mathlib.Core.Path.{◌≡◌}
use mathlib.Core.Logic.{◌⊎◌, ⊎_elim}
use mathlib.Core.List.{List}
use Rattle.refusal.specs.Verdict.{Accepted}
use Rattle.refusal.specs.declared.Written.{Written}
use Rattle.refusal.specs.Answers.{refused}
use Rattle.kind.specs.declared.Kind.TheVariants.{Scte20}
use Rattle.scte20.specs.declared.Numbers.{Numbers}
use Rattle.scte20.specs.Lent.{unit_in}
use Rattle.scte20.specs.Writing.{whole_verdict}
use Rattle.scte20.proofs.Holding.{accepted-whole}
use Rattle.picture.specs.Writing.{Writes}
use Rattle.picture.proofs.Theorems as picture
use Rattle.line21.specs.Lent.{payload_in}
use Rattle.line21.specs.Writing as payload
use Rattle.captions.specs.Calls.{numbers_in}
use Rattle.line21_writer.specs.Calls.{PayloadWrites}
use Rattle.captions.proofs.Numbers.{numbers-wide}

pub wide-refused : (reserved flag n z : ℕ) (lent out : List ℕ) (r : Written) (exit : List ℕ)
    → Writes Scte20 (unit_in (numbers_in reserved flag n z) lent) out r exit
    → (127 < reserved) ⊎ (1 < flag) → r.refusal ≡ refused 15 0
wide-refused reserved flag n z lent out r exit w wide = picture.write-15 Scte20 (unit_in v lent) out r exit w (λ e. ⊎_elim (high e) (set e) wide)
  where
    v : Numbers
    v = numbers_in reserved flag n z

    high : whole_verdict (unit_in v lent) ≡ Accepted → 127 < reserved → ⊥
    high e h = omega (arith, (accepted-whole (unit_in v lent) e).reserved, (numbers-wide reserved flag n z).0 h)

    set : whole_verdict (unit_in v lent) ≡ Accepted → 1 < flag → ⊥
    set e h = omega (arith, (accepted-whole (unit_in v lent) e).flag, (numbers-wide reserved flag n z).1 h)

pub as_written : (flags m : ℕ) (lent out : List ℕ) (r : Written) (exit : List ℕ) → PayloadWrites flags m lent out r exit
    → flags < 256 → payload.Writes (payload_in flags m lent) out r exit
as_written flags m lent out r exit w h = w.within h

pub flags-refused : (flags m : ℕ) (lent out : List ℕ) (r : Written) (exit : List ℕ)
    → PayloadWrites flags m lent out r exit → 255 < flags
    → (r ≡ record { refusal = refused 15 0; len = 0 }) × (exit ≡ out)
flags-refused flags m lent out r exit w h = ((w.beyond h).counted, (w.beyond h).left)
