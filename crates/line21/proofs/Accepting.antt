-- Reading accepts exactly the layouts of legal values, each the layout of one value only.
-- Assumes nothing.
use Prim.Native.Nat.{ℕ, ◌<◌}
use mathlib.Core.Path.{◌≡◌, ◌∙◌, ap, sym, subst}
use mathlib.Core.Logic.{◌↔◌}
use mathlib.Core.List.{List}
use Rattle.refusal.specs.Answers.{accepted}
use Rattle.line21.specs.declared.AccessUnit.{AccessUnit}
use Rattle.line21.specs.declared.Answer.{Answer}
use Rattle.line21.specs.Value.{Line21, with_data, LegalAccessUnit, Legal, stored}
use Rattle.line21.specs.Layout.{layout}
use Rattle.line21.specs.Reading.{value_of, Reads}
use Rattle.line21.proofs.Back.{layout-value, layout-read, read-legal}

pub the-answer : (v : Line21) → Legal v → (r : Answer) → Reads (layout v) r
    → r ≡ record { refusal = accepted; payload = stored v }
the-answer v h r p = p.answer ∙ layout-read v h

pub accepted-exactly : (s : List ℕ) (r : Answer) → Reads s r
    → r.refusal.number ≡ 0 ↔ ((v : Line21) × Legal v × (layout v ≡ s))
accepted-exactly s r p = (
  λ e. let back = read-legal s p.bytes (sym (ap (λ (a : Answer). a.refusal.number) p.answer) ∙ e) in (value_of s, back.legal, back.same),
  λ w. ap (λ (a : Answer). a.refusal.number) (the-answer w.0 w.1 r (subst (λ (t : List ℕ). Reads t r) (sym w.2) p)),
)

-- legality asks of the data bytes that they are bytes, and no more
pub any-data : (u : AccessUnit) (a b c d : ℕ) → a < 256 → b < 256 → c < 256 → d < 256
    → LegalAccessUnit u → LegalAccessUnit (with_data u a b c d)
any-data u a b c d ha hb hc hd h =
    let numbers = h.numbers in
    record {
      numbers = record { valid_1 = numbers.valid_1; valid_2 = numbers.valid_2; pad = numbers.pad };
      bytes = record { field1-data1 = ha; field1-data2 = hb; field2-data1 = hc; field2-data2 = hd };
    }

pub only_one : (v w : Line21) → Legal v → Legal w → layout v ≡ layout w → v ≡ w
only_one v w hv hw e = sym (layout-value v hv) ∙ ap value_of e ∙ layout-value w hw
