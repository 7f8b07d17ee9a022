-- Which bytes are accepted, and with which answer.
-- Assumes nothing.
use Prim.Native.Nat.{ℕ}
use native.Mathlib.Omega.{arith}
use mathlib.Core.Path.{◌≡◌, ◌∙◌, ap, sym, subst, refl}
use mathlib.Core.Logic.{◌↔◌}
use mathlib.Core.List.{List, ◌∷◌, ◌++◌}
use lib.ListN.{length, length-append}
use lib.Seq.{take_at}
use Rattle.lists.specs.Bytes.{Bytes}
use Rattle.lists.proofs.Each.{each_append, append-each}
use Rattle.refusal.specs.declared.Refusal.{Refusal}
use Rattle.refusal.specs.Verdict.{Verdict}
use Rattle.refusal.specs.Verdict.{Accepted, Refused}
use Rattle.refusal.specs.Checks.{first}
use Rattle.refusal.specs.Numbers.{refusal_of}
use Rattle.refusal.specs.Answers.{accepted, lent_of}
use Rattle.refusal.proofs.Acceptance.{told-accepted}
use Rattle.pes.specs.declared.Head.{Head}
use Rattle.pes.specs.Value.{Teletext, DataUnit, DataField, with_row, LegalTeletext, LegalUnit, Legal, LegalTold, stored, held}
use Rattle.pes.specs.Layout.{layout}
use Rattle.pes.specs.Order.{reading_checks}
use Rattle.pes.specs.Reading.{field_verdict, value_of}
use Rattle.pes.specs.Lent.{units_bytes, head_of, ReadsInto}
use Rattle.pes.proofs.Field.{field-accepted, value-back, accepted-field}

-- A VALUE AS IT IS TOLD

pub stored-held : (v : DataField) → held (stored v) ≡ v
stored-held v =
    ap (λ (us : List DataUnit). record { data_identifier = v.data_identifier; units = us }) (take_at v.units _ (length v.units) refl)

pub stored-legal : (v : DataField) → Legal v → LegalTold (stored v)
stored-legal v h = record { few = h.few; value = subst Legal (sym (stored-held v)) h }

pub any-row : (t : Teletext) (row : List ℕ) → length row ≡ 42 → Bytes row → LegalTeletext t → LegalTeletext (with_row t row)
any-row t row long bytes h = record { id = h.id; parity = h.parity; line = h.line; places = long; bytes = bytes }

pub any_order : (identifier : ℕ) (before after : List DataUnit) (x y : DataUnit)
    → Legal (record { data_identifier = identifier; units = before ++ (x ∷ y ∷ after) })
    → Legal (record { data_identifier = identifier; units = before ++ (y ∷ x ∷ after) })
any_order identifier before after x y h =
    let both = append-each LegalUnit before (x ∷ y ∷ after) h.each in
    record {
      low = h.low;
      high = h.high;
      few = omega (arith, h.few, length-append before (x ∷ y ∷ after), length-append before (y ∷ x ∷ after));
      each = each_append LegalUnit before (y ∷ x ∷ after) both.0 (both.1.1.0, (both.1.0, both.1.1.1));
    }

-- THE ANSWER, BY ITS VERDICT

head-refusal : (verdict : Verdict) (v : DataField) → (head_of verdict v).refusal ≡ refusal_of verdict
head-refusal Accepted v = refl
head-refusal (Refused reason item) v = refl

pub reading-order : (s : List ℕ) → field_verdict s ≡ first (reading_checks s)
unfolding field_verdict
reading-order s = refl

module _ (s lent : List ℕ) (r : Head) (exit : List ℕ) (reads : ReadsInto s lent r exit) where
  pub told : r.refusal ≡ refusal_of (field_verdict s)
  told = ap (λ (h : Head). h.refusal) reads.answer ∙ head-refusal (field_verdict s) (value_of s)

  pub verdict-accepted : r.refusal.number ≡ 0 → field_verdict s ≡ Accepted
  verdict-accepted e = told-accepted (field_verdict s) (sym (ap (λ (x : Refusal). x.number) told) ∙ e)

  pub accepted-number : field_verdict s ≡ Accepted → r.refusal.number ≡ 0
  accepted-number e = ap (λ (x : Refusal). x.number) told ∙ ap (λ (v : Verdict). (refusal_of v).number) e

  -- an acceptance answers the value
  pub answered : field_verdict s ≡ Accepted → (r ≡ head_of Accepted (value_of s)) × (exit ≡ units_bytes (stored (value_of s)).units)
  answered e = (
    reads.answer ∙ ap (λ (v : Verdict). head_of v (value_of s)) e,
    reads.left ∙ ap (λ (v : Verdict). lent_of v (units_bytes (stored (value_of s)).units) lent) e,
  )

  pub accepted-exactly : r.refusal.number ≡ 0 ↔ ((v : DataField) × Legal v × (layout v ≡ s))
  accepted-exactly = (
    λ e. let h = accepted-field s reads.bytes (verdict-accepted e) in (value_of s, h.legal, h.same),
    λ w. accepted-number (ap field_verdict (sym w.2) ∙ field-accepted w.0 w.1),
  )

  pub read_first : r.refusal ≡ refusal_of (first (reading_checks s))
  read_first = told ∙ ap refusal_of (reading-order s)

  refused-by : (verdict : Verdict) → field_verdict s ≡ verdict → ((refusal_of verdict).number ≡ 0 → ⊥) → (r.data_identifier ≡ 0) × (r.n ≡ 0) × (exit ≡ lent)
  refused-by Accepted e h = absurd (h refl)
  refused-by (Refused reason item) e h = (
    ap (λ (x : Head). x.data_identifier) reads.answer ∙ ap (λ (v : Verdict). (head_of v (value_of s)).data_identifier) e,
    ap (λ (x : Head). x.n) reads.answer ∙ ap (λ (v : Verdict). (head_of v (value_of s)).n) e,
    reads.left ∙ ap (λ (v : Verdict). lent_of v (units_bytes (stored (value_of s)).units) lent) e,
  )

  pub refused-zero : (r.refusal.number ≡ 0 → ⊥) → (r.data_identifier ≡ 0) × (r.n ≡ 0) × (exit ≡ lent)
  refused-zero h = refused-by (field_verdict s) refl (λ e. h (ap (λ (x : Refusal). x.number) told ∙ e))

pub the-answer : (v : DataField) → Legal v → (lent : List ℕ) (r : Head) (exit : List ℕ) → ReadsInto (layout v) lent r exit
    → (r ≡ record { refusal = accepted; data_identifier = v.data_identifier; n = length v.units })
    × (exit ≡ units_bytes (stored v).units)
the-answer v h lent r exit reads =
    let both = answered (layout v) lent r exit reads (field-accepted v h) in
    (both.0 ∙ ap (head_of Accepted) (value-back v h), both.1 ∙ ap (λ (w : DataField). units_bytes (stored w).units) (value-back v h))

pub only_one : (v w : DataField) → Legal v → Legal w → layout v ≡ layout w → v ≡ w
only_one v w h g e = sym (value-back v h) ∙ ap value_of e ∙ value-back w g
