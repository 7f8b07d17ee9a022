-- For each function, two answers that keep its promise are equal, lent memory too.
-- Assumes nothing.
use Rattle.ga94.specs.declared.Numbers.{Numbers}
use Rattle.refusal.specs.Answers.{Judged}
use Prim.Native.Nat.{ℕ}
use mathlib.Core.Path.{◌≡◌, ◌∙◌, sym}
use mathlib.Core.List.{List}
use lib.ListN.{get_or}
use Rattle.ga94.specs.declared.Record.{Record}
use Rattle.ga94.specs.Value.{CaptionUnit, blank}
use Rattle.ga94.specs.Writing.{Writes}
use Rattle.ga94.specs.Lent.{lent_records, stored_at, ReadsInto}

pub read-into-determined : (body lent : List ℕ) (a : Judged Numbers) (exit : List ℕ) (b : Judged Numbers) (end : List ℕ) → ReadsInto body lent a exit → ReadsInto body lent b end
    → (a ≡ b) × (exit ≡ end)
read-into-determined body lent a exit b end p q = (p.answer ∙ sym q.answer, p.left ∙ sym q.left)

pub write-determined : (u : CaptionUnit) (before after : ℕ) (out : List ℕ) (a : Judged ℕ) (exit : List ℕ) (b : Judged ℕ) (end : List ℕ)
    → Writes u before after out a exit → Writes u before after out b end → (a ≡ b) × (exit ≡ end)
write-determined u before after out a exit b end p q = (p.counted ∙ sym q.counted, p.left ∙ sym q.left)

-- RECORDS IN A LENT ARRAY

pub record-in-determined : (s : List ℕ) (i : ℕ) (a b : Record) → a ≡ get_or (lent_records s) i blank → b ≡ get_or (lent_records s) i blank → a ≡ b
record-in-determined s i a b p q = p ∙ sym q

pub put-record-determined : (i : ℕ) (r : Record) (s exit end : List ℕ) → exit ≡ stored_at i r s → end ≡ stored_at i r s → exit ≡ end
put-record-determined i r s exit end p q = p ∙ sym q
