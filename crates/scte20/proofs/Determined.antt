-- For each function, two answers that keep its promise are equal, lent memory too.
-- Assumes nothing.
use Rattle.refusal.specs.Answers.{Judged}
use Prim.Native.Nat.{ℕ, min}
use mathlib.Core.Path.{◌≡◌, ◌∙◌, sym}
use mathlib.Core.List.{List, []}
use lib.ListN.{get_or}
use Rattle.refusal.specs.Verdict.{Verdict}
use Rattle.scte20.specs.declared.Record.{Record}
use Rattle.scte20.specs.declared.Last.{Last}
use Rattle.scte20.specs.declared.Numbers.{Numbers}
use Rattle.scte20.specs.declared.CaptionUnit.{CaptionUnit}
use Rattle.scte20.specs.Value.{blank, none, stored}
use Rattle.scte20.specs.Writing.{value_verdict, Writes}
use Rattle.scte20.specs.Lent.{records_bytes, lent_records, stored_at, unit_in, numbers_of, ReadsInto}
use Rattle.scte20.specs.Inside.{last_of, last_verdict, last_after}

pub read-into-determined : (body lent : List ℕ) (a : Judged Numbers) (exit : List ℕ) (b : Judged Numbers) (end : List ℕ) → ReadsInto body lent a exit → ReadsInto body lent b end
    → (a ≡ b) × (exit ≡ end)
read-into-determined body lent a exit b end p q = (p.answer ∙ sym q.answer, p.left ∙ sym q.left)

pub write-determined : (u : CaptionUnit) (before after : ℕ) (out : List ℕ) (a : Judged ℕ) (exit : List ℕ) (b : Judged ℕ) (end : List ℕ)
    → Writes u before after out a exit → Writes u before after out b end → (a ≡ b) × (exit ≡ end)
write-determined u before after out a exit b end p q = (p.counted ∙ sym q.counted, p.left ∙ sym q.left)

-- RECORDS IN A LENT ARRAY

pub record-in-determined : (s : List ℕ) (i : ℕ) (a b : Record) → a ≡ get_or (lent_records s) i blank → b ≡ get_or (lent_records s) i blank → a ≡ b
record-in-determined s i a b p q = p ∙ sym q

pub put-record-determined : (i : ℕ) (r : Record) (s exit end : List ℕ) → exit ≡ stored_at i r s → end ≡ stored_at i r s → exit ≡ end
put-record-determined i r s exit end p q = p ∙ sym q

pub unit-of-determined : (v : Numbers) (s : List ℕ) (a b : CaptionUnit) → a ≡ unit_in v s → b ≡ unit_in v s → a ≡ b
unit-of-determined v s a b p q = p ∙ sym q

pub numbers-of-determined : (u : CaptionUnit) (a b : Numbers) → a ≡ numbers_of u → b ≡ numbers_of u → a ≡ b
numbers-of-determined u a b p q = p ∙ sym q

pub bytes-of-determined : (u : CaptionUnit) (a b : List ℕ) → a ≡ records_bytes u.records → b ≡ records_bytes u.records → a ≡ b
bytes-of-determined u a b p q = p ∙ sym q

pub narrow-determined : (n a b : ℕ) → a ≡ min n 255 → b ≡ min n 255 → a ≡ b
narrow-determined n a b p q = p ∙ sym q

pub nothing-determined : (a b : CaptionUnit) → a ≡ stored none → b ≡ stored none → a ≡ b
nothing-determined a b p q = p ∙ sym q

-- RULES

pub judge-value-determined : (v : Numbers) (s : List ℕ) (a b : Verdict) → a ≡ value_verdict (unit_in v s) → b ≡ value_verdict (unit_in v s) → a ≡ b
judge-value-determined v s a b p q = p ∙ sym q

pub none-yet-determined : (a b : Last) → a ≡ last_of [] → b ≡ last_of [] → a ≡ b
none-yet-determined a b p q = p ∙ sym q

pub judge-record-determined : (at : ℕ) (last : Last) (r : Record) (a b : Verdict) → a ≡ last_verdict at last r → b ≡ last_verdict at last r → a ≡ b
judge-record-determined at last r a b p q = p ∙ sym q

pub after-determined : (last : Last) (r : Record) (a b : Last) → a ≡ last_after last r → b ≡ last_after last r → a ≡ b
after-determined last r a b p q = p ∙ sym q
