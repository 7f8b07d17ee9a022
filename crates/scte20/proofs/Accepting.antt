-- Reading a body into a lent array: a legal value's bytes are accepted and no others, what the answer and the array then hold, and what a refusal tells.
-- Assumes nothing.
use Rattle.scte20.specs.declared.Numbers.{Numbers}
use Rattle.std.specs.Prelude.{Ok}
use Prim.Native.Nat.{ℕ, ◌*◌, ◌≤◌, ◌<◌}
use mathlib.Core.Path.{◌≡◌, ◌∙◌, ap, ap₂, sym, subst, refl}
use mathlib.Core.Logic.{◌↔◌}
use mathlib.Core.List.{List}
use lib.ListN.{length}
use lib.Seq.{take-append_seam}
use Rattle.refusal.specs.declared.Reason.{Reason}
use Rattle.refusal.specs.declared.Item.{Item}
use Rattle.refusal.specs.Verdict.{Verdict}
use Rattle.refusal.specs.Verdict.{Accepted, Refused}
use Rattle.refusal.specs.Checks.{first}
use Rattle.refusal.specs.Answers.{lent_of, AtBit, Judged, verdict_of}
use Rattle.refusal.proofs.Outputs.{judged-verdict, refused-lent}
use Rattle.bits.specs.Bits.{bits_of}
use Rattle.scte20.specs.declared.Record.{Record}
use Rattle.scte20.specs.declared.CaptionUnit.{CaptionUnit}
use Rattle.scte20.specs.Value.{Content, with_data, LegalRecord, Legal, LegalCaptionUnit, Typed, none, stored, held}
use Rattle.scte20.specs.Layout.{layout}
use Rattle.scte20.specs.Reading.{content_verdict, value_of}
use Rattle.scte20.specs.Order.{reading_checks}
use Rattle.scte20.specs.Places.{Stands}
use Rattle.scte20.specs.Lent.{records_bytes, unit_in, numbers_of, numbers_in, head_of, ReadsInto}
use Rattle.scte20.proofs.Contents.{accepted-content, value-legal, value-layout}
use Rattle.scte20.proofs.Layouts.{layout-accepted, layout-value}
use Rattle.scte20.proofs.Lending.{lent-unit}
use Rattle.scte20.proofs.Placed.{content-placed}
use Rattle.scte20.proofs.Sequence.{reading-order}

-- THE VALUE

-- legality asks of the data bytes that they are bytes, and no more
pub any-data : (r : Record) (a b : ℕ) → a < 256 → b < 256 → LegalRecord r → LegalRecord (with_data r a b)
any-data r a b ha hb h =
    let ranged = h.ranged in
    record {
      ranged =
          record {
            priority = ranged.priority;
            field = ranged.field;
            line = ranged.line;
            bytes = record { data-1 = ha; data-2 = hb };
          };
      allowed = h.allowed;
    }

pub only_one : (c d : Content) → Legal c → Legal d → layout c ≡ layout d → c ≡ d
only_one c d hc hd e = sym (layout-value c hc) ∙ ap value_of e ∙ layout-value d hd

-- a struct holds a value, and gives it back
pub stored-held : (c : Content) → held (stored c) ≡ c
stored-held c = ap (λ (rs : List Record). record { reserved = c.reserved; flag = c.flag; records = rs; z = c.z }) (take-append_seam c.records _)

pub stored-legal : (c : Content) → Legal c → LegalCaptionUnit (stored c)
stored-legal c h = record { few = h.few; value = subst Legal (sym (stored-held c)) h }

-- and is told again by its numbers and its records' bytes
pub lent-held : (u : CaptionUnit) → Typed u → unit_in (numbers_of u) (records_bytes u.records) ≡ u
lent-held u h = lent-unit u h.places

-- READING

pub the-answer : (c : Content) → Legal c → length (layout c) ≤ 16384 → (lent : List ℕ) (r : Judged Numbers) (exit : List ℕ) → ReadsInto (layout c) lent r exit
    → (r ≡ Ok (numbers_of (stored c))) × (exit ≡ records_bytes (stored c).records)
the-answer c h short lent r exit p = (
  p.answer ∙ ap₂ head_of (layout-accepted c h short) (layout-value c h),
  p.left ∙ ap₂ (λ (v : Verdict) (d : Content). lent_of v (records_bytes (stored d).records) lent) (layout-accepted c h short) (layout-value c h),
)

refused-head : (verdict : Verdict) (c : Content) → (verdict ≡ Accepted → ⊥) → numbers_in (head_of verdict c) ≡ numbers_of (stored none)
refused-head Accepted c g = absurd (g refl)
refused-head (Refused reason item) c g = refl

module _ (body lent : List ℕ) (r : Judged Numbers) (exit : List ℕ) (p : ReadsInto body lent r exit) where
  pub refused-in-order : verdict_of r ≡ content_verdict body
  refused-in-order = ap verdict_of p.answer ∙ judged-verdict (content_verdict body) (numbers_of (stored (value_of body)))

  pub read_first : verdict_of r ≡ first (reading_checks body)
  read_first = refused-in-order ∙ reading-order body

  pub accepted-exactly : verdict_of r ≡ Accepted ↔ ((c : Content) × Legal c × (length body ≤ 16384) × (layout c ≡ body))
  accepted-exactly = (
    λ e.
        let ok : content_verdict body ≡ Accepted = sym refused-in-order ∙ e in
        (value_of body, value-legal body p.bytes ok, (accepted-content body ok).0.short, value-layout body p.bytes ok),
    λ w.
        let short : length (layout w.0) ≤ 16384 = subst (λ (s : List ℕ). length s ≤ 16384) (sym w.3) w.2 in
        refused-in-order ∙ ap content_verdict (sym w.3) ∙ layout-accepted w.0 w.1 short,
  )

  pub refused-at : length body ≤ 16384 → (reason : Reason) (item : Item) → verdict_of r ≡ Refused reason item → AtBit (8 * length body) (Stands (bits_of body)) reason item
  refused-at short reason item e = content-placed body short reason item (sym refused-in-order ∙ e)

  pub refused-zero : (verdict_of r ≡ Accepted → ⊥) → (numbers_in r ≡ numbers_of (stored none)) × (exit ≡ lent)
  refused-zero h =
      let refuses : content_verdict body ≡ Accepted → ⊥ = λ e. h (refused-in-order ∙ e) in (
        ap numbers_in p.answer ∙ refused-head (content_verdict body) (value_of body) refuses,
        p.left ∙ refused-lent (content_verdict body) (records_bytes (stored (value_of body)).records) lent refuses,
      )
