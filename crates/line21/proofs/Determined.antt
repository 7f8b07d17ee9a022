-- Each function's promise fixes its answer and what lent memory holds.
-- Assumes nothing.
use Prim.Native.Nat.{ℕ}
use mathlib.Core.Path.{◌≡◌, ◌∙◌, sym}
use mathlib.Core.List.{List}
use lib.ListN.{get_or}
use Rattle.refusal.specs.declared.Written.{Written}
use Rattle.refusal.proofs.Outputs.{wrote-determined}
use Rattle.line21.specs.declared.AccessUnit.{AccessUnit}
use Rattle.line21.specs.declared.Payload.{Payload}
use Rattle.line21.specs.declared.Answer.{Answer}
use Rattle.line21.specs.declared.Head.{Head}
use Rattle.line21.specs.Value.{blank}
use Rattle.line21.specs.Reading.{Reads, ReadsHead, ReadsUnit, One}
use Rattle.line21.specs.Writing.{Writes}
use Rattle.line21.specs.Lent.{access_units_bytes, run_in, ReadsInto}
use Rattle.line21.proofs.Answers.{shown-one}

pub read-determined : (s : List ℕ) (a b : Answer) → Reads s a → Reads s b → a ≡ b
read-determined s a b ra rb = ra.answer ∙ sym rb.answer

pub read-head-determined : (s : List ℕ) (a b : Head) → ReadsHead s a → ReadsHead s b → a ≡ b
read-head-determined s a b ra rb = ra ∙ sym rb

pub read-unit-determined : (s : List ℕ) (i : ℕ) (a b : One) → ReadsUnit s i a → ReadsUnit s i b → a ≡ b
read-unit-determined s i a b ra rb = shown-one a b (ra ∙ sym rb)

pub read-into-determined : (s lent : List ℕ) (a : Head) (exit : List ℕ) (b : Head) (end : List ℕ)
    → ReadsInto s lent a exit → ReadsInto s lent b end → (a ≡ b) × (exit ≡ end)
read-into-determined s lent a exit b end ra rb = (ra.answer ∙ sym rb.answer, ra.left ∙ sym rb.left)

pub unit-in-determined : (units : List ℕ) (i : ℕ) (a b : AccessUnit)
    → a ≡ get_or (run_in units) i blank → b ≡ get_or (run_in units) i blank → a ≡ b
unit-in-determined units i a b ra rb = ra ∙ sym rb

pub bytes-of-determined : (p : Payload) (a b : List ℕ) → a ≡ access_units_bytes p.units → b ≡ access_units_bytes p.units → a ≡ b
bytes-of-determined p a b ra rb = ra ∙ sym rb

pub write-determined : (p : Payload) (out : List ℕ) (a : Written) (exit : List ℕ) (b : Written) (end : List ℕ)
    → Writes p out a exit → Writes p out b end → (a ≡ b) × (exit ≡ end)
write-determined p out a exit b end wa wb = wrote-determined _ _ _ _ _ wa.wrote b end wb.wrote
