-- For each function, two answers that keep its promise are equal, lent memory too.
-- Assumes nothing.
use Prim.Native.Nat.{ℕ}
use mathlib.Core.Path.{◌≡◌, ◌∙◌, ap₂, sym}
use mathlib.Core.List.{List}
use Rattle.refusal.specs.Verdict.{Verdict}
use Rattle.refusal.specs.declared.Written.{Written}
use Rattle.refusal.proofs.Outputs.{wrote-determined}
use Rattle.kind.specs.declared.Kind.{Kind}
use Rattle.picture.specs.declared.Old.{Old}
use Rattle.picture.specs.declared.Spot.{Spot}
use Rattle.picture.specs.Kinds.{CaptionUnit}
use Rattle.picture.specs.Reading.{Answer, Reads}
use Rattle.picture.specs.Lent.{Head, ReadsInto}
use Rattle.picture.specs.Inside.{ReadsOld}
use Rattle.picture.specs.Writing.{Writes, Replaces}

module _ (k : Kind) where
  pub read-determined : (s : List ℕ) (a b : Answer k) → Reads k s a → Reads k s b → a ≡ b
  read-determined s a b p q = p.answer ∙ sym q.answer

  pub read-into-determined : (s lent : List ℕ) (a : Head k) (exit : List ℕ) (b : Head k) (end : List ℕ)
      → ReadsInto k s lent a exit → ReadsInto k s lent b end → (a ≡ b) × (exit ≡ end)
  read-into-determined s lent a exit b end p q = (p.answer ∙ sym q.answer, p.left ∙ sym q.left)

  pub read-old-determined : (s : List ℕ) (a b : Old) → ReadsOld k s a → ReadsOld k s b → a ≡ b
  read-old-determined s a b p q =
      ap₂ (λ (verdict : Verdict) (spot : Spot). record { verdict = verdict; spot = spot }) (p.verdict ∙ sym q.verdict) (p.place ∙ sym q.place)

  pub write-determined : (u : CaptionUnit k) (out : List ℕ) (a : Written) (exit : List ℕ) (b : Written) (end : List ℕ)
      → Writes k u out a exit → Writes k u out b end → (a ≡ b) × (exit ≡ end)
  write-determined u out a exit b end p q = wrote-determined _ _ _ _ _ p.wrote b end q.wrote

  pub replace-determined : (s : List ℕ) (u : CaptionUnit k) (out : List ℕ) (a : Written) (exit : List ℕ) (b : Written) (end : List ℕ)
      → Replaces k s u out a exit → Replaces k s u out b end → (a ≡ b) × (exit ≡ end)
  replace-determined s u out a exit b end p q = wrote-determined _ _ _ _ _ p.wrote b end q.wrote
