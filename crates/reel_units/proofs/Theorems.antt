-- The theorems of writing a reel of a slice of access unit structs (docs/RULES.md, "Reel"). How to read it:
-- docs/NOTATION.md.
--
-- The contract of `write_units`, and of `captions_reel_write`, which hands on to it, is the promise `ReelWrites`: the
-- flags, the size, the units and the output at entry, the answer r, and the output at exit.
-- Assumes nothing.
use Prim.Native.Nat.{ℕ, ◌≤◌, ◌<◌}
use mathlib.Core.Path.{◌≡◌}
use mathlib.Core.Logic.{◌↔◌}
use mathlib.Core.List.{List}
use lib.ListN.{length}
use Rattle.lists.specs.Each.{Each}
use Rattle.refusal.specs.declared.Written.{Written}
use Rattle.refusal.specs.Answers.{refused}
use Rattle.line21.specs.declared.AccessUnit.{AccessUnit}
use Rattle.line21.specs.Value.{LegalAccessUnit}
use Rattle.reel.specs.Writing.{reel, reel_layout, WritesReel}
use Rattle.reel_units.specs.Calls.{ReelWrites}
use Rattle.reel_units.proofs.Calling as calling

-- With flags that a byte holds it writes a reel: so the theorems over reels (crate `reel`) speak of this call too.
pub as-reel : (flags size : ℕ) (us : List AccessUnit) (out : List ℕ) (r : Written) (exit : List ℕ)
    → ReelWrites flags size us out r exit → flags < 256 → WritesReel flags size us out r exit
as-reel = calling.as-reel

-- It succeeds exactly when the flags fit a byte, the size is a payload's, the units are legal and all payloads fit.
pub reel-units-exactly : (flags size : ℕ) (us : List AccessUnit) (out : List ℕ) (r : Written) (exit : List ℕ)
    → ReelWrites flags size us out r exit → r.refusal.number ≡ 0
    ↔ ((flags < 256) × (1 ≤ size) × (size ≤ 291) × Each LegalAccessUnit us
    × (length (reel_layout (reel flags size us)) ≤ length out))
reel-units-exactly = calling.reel-units-exactly

-- Other flags are refused with 15, and nothing is counted or changed.
pub wide-flags-refused : (flags size : ℕ) (us : List AccessUnit) (out : List ℕ) (r : Written) (exit : List ℕ)
    → ReelWrites flags size us out r exit → 255 < flags
    → (r.refusal ≡ refused 15 0) × (r.len ≡ 0) × (exit ≡ out)
wide-flags-refused = calling.wide-flags-refused

-- Two answers that keep the promise are equal, lent memory too.
pub reel-units-determined : (flags size : ℕ) (us : List AccessUnit) (out : List ℕ)
    → (a : Written) (exit : List ℕ) (b : Written) (end : List ℕ)
    → ReelWrites flags size us out a exit → ReelWrites flags size us out b end → (a ≡ b) × (exit ≡ end)
reel-units-determined = calling.reel-units-determined
