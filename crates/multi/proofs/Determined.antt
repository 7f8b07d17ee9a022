-- For each function, two answers that keep its promise are equal, lent memory too.
-- Assumes nothing.
use Prim.Native.Nat.{ℕ}
use mathlib.Core.Path.{◌≡◌, ◌∙◌, sym}
use mathlib.Core.Bool.{Bool}
use mathlib.Core.List.{List}
use lib.ListN.{length}
use Rattle.refusal.specs.Verdict.{Verdict}
use Rattle.refusal.specs.declared.Written.{Written}
use Rattle.refusal.proofs.Outputs.{wrote-determined}
use Rattle.multi.specs.declared.Answer.{Answer}
use Rattle.multi.specs.Layout.{layout}
use Rattle.multi.specs.Order.{subtitling_id, unplaced}
use Rattle.multi.specs.Reading.{multi_verdict}
use Rattle.multi.specs.Lent.{Told, held, ReadsInto, Hands}
use Rattle.multi.specs.Writing.{value_verdict, Writes}

pub read-into-determined : (s : List ℕ) (lent : List (List ℕ)) (a : Answer) (exit : List (List ℕ)) (b : Answer) (end : List (List ℕ))
    → ReadsInto s lent a exit → ReadsInto s lent b end → (a ≡ b) × (exit ≡ end)
read-into-determined s lent a exit b end p q = (p.answer ∙ sym q.answer, p.left ∙ sym q.left)

pub inner-determined : (s : List ℕ) (i : ℕ) (a b : List ℕ) → Hands s i a → Hands s i b → a ≡ b
inner-determined s i a b p q = p ∙ sym q

pub write-determined : (t : Told) (out : List ℕ) (a : Written) (exit : List ℕ) (b : Written) (end : List ℕ)
    → Writes t out a exit → Writes t out b end → (a ≡ b) × (exit ≡ end)
write-determined t out a exit b end p q = wrote-determined (value_verdict t (length out)) (layout (held t)) out a exit p b end q

pub judge-determined : (s : List ℕ) (a b : Verdict) → a ≡ multi_verdict s → b ≡ multi_verdict s → a ≡ b
judge-determined s a b p q = p ∙ sym q

pub is-subtitling-determined : (did sdid : ℕ) (a b : Bool) → a ≡ subtitling_id did sdid → b ≡ subtitling_id did sdid → a ≡ b
is-subtitling-determined did sdid a b p q = p ∙ sym q

pub unplaced-determined : (verdict a b : Verdict) → a ≡ unplaced verdict → b ≡ unplaced verdict → a ≡ b
unplaced-determined verdict a b p q = p ∙ sym q
