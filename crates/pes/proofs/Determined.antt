-- For each function, two answers that keep its promise are equal, lent memory too.
-- Assumes nothing.
use Prim.Native.Nat.{ℕ}
use mathlib.Core.Path.{◌≡◌, ◌∙◌, sym}
use mathlib.Core.Bool.{Bool}
use mathlib.Core.List.{List}
use lib.ListN.{length}
use Rattle.refusal.specs.declared.Item.{Item}
use Rattle.refusal.specs.Verdict.{Verdict}
use Rattle.refusal.specs.declared.Written.{Written}
use Rattle.refusal.proofs.Outputs.{wrote-determined}
use Rattle.pes.specs.declared.Head.{Head}
use Rattle.pes.specs.Value.{Told, held}
use Rattle.pes.specs.Layout.{layout}
use Rattle.pes.specs.Order.{teletext_id, known_id}
use Rattle.pes.specs.Reading.{field_verdict, line_verdict}
use Rattle.pes.specs.Writing.{value_verdict, Writes}
use Rattle.pes.specs.Lent.{ReadsInto}

pub read-into-determined : (s lent : List ℕ) (a : Head) (exit : List ℕ) (b : Head) (end : List ℕ)
    → ReadsInto s lent a exit → ReadsInto s lent b end → (a ≡ b) × (exit ≡ end)
read-into-determined s lent a exit b end p q = (p.answer ∙ sym q.answer, p.left ∙ sym q.left)

pub write-determined : (t : Told) (out : List ℕ) (a : Written) (exit : List ℕ) (b : Written) (end : List ℕ)
    → Writes t out a exit → Writes t out b end → (a ≡ b) × (exit ≡ end)
write-determined t out a exit b end p q = wrote-determined (value_verdict t (length out)) (layout (held t)) out a exit p.wrote b end q.wrote

pub judge-determined : (s : List ℕ) (a b : Verdict) → a ≡ field_verdict s → b ≡ field_verdict s → a ≡ b
judge-determined s a b p q = p ∙ sym q

pub is-teletext-determined : (id : ℕ) (a b : Bool) → a ≡ teletext_id id → b ≡ teletext_id id → a ≡ b
is-teletext-determined id a b p q = p ∙ sym q

pub is-known-determined : (id : ℕ) (a b : Bool) → a ≡ known_id id → b ≡ known_id id → a ≡ b
is-known-determined id a b p q = p ∙ sym q

pub judge-line-determined : (item : Item) (line : ℕ) (a b : Verdict) → a ≡ line_verdict item line → b ≡ line_verdict item line → a ≡ b
judge-line-determined item line a b p q = p ∙ sym q
