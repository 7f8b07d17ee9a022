-- `picture::area::read_unit` meets its contract: the body that was found lies within the area, and what it answers and leaves is the area's.
use Prim.Native.Nat.{ℕ, ◌+◌, ◌<◌}
use native.Mathlib.Omega.{arith}
use mathlib.Core.Path.{◌≡◌, ◌∙◌, ap, ap₂}
use mathlib.Core.Bool.{true}
use mathlib.Core.List.{[]}
use borrow.Author.Rules.{rules}
use Rattle.lists.specs.Bytes.{Bytes}
use Rattle.lists.specs.Part.{part}
use Rattle.lists.proofs.Each.{each-of}
use Rattle.refusal.specs.declared.Refusal.{Refusal}
use Rattle.refusal.specs.declared.Item.{Item}
use Rattle.refusal.specs.Verdict.{Accepted, Refused}
use Rattle.refusal.specs.Answers.{verdict_of}
use Rattle.kind.specs.declared.Kind.{Kind}
use Rattle.picture.specs.Kinds.{Numbers, content_verdict}
use Rattle.picture.specs.Reading.{answer_of}
use Rattle.picture.specs.Lent.{Head, head_of}
use Rattle.picture.specs.Inside.{told_as}
use Rattle.picture.proofs.Placing.{unit-within, body_near}
use Rattle.picture.proofs.Lending.{body-into, content-told, content-value}
use Rattle.picture.proofs.area.read_unit.Goals as goal

-- the unit was found within the area, which is a list of bytes by its type
pub overflow_add-body : goal.overflow_add-body
overflow_add-body g c =
    let w = unit-within g.C.Content.KIND c.args.s.now c.args.unit c.args.end c.requires in
    omega (arith, w.0, w.1, w.2)

pub slice_bounds-read_into-count : goal.slice_bounds-read_into-count
slice_bounds-read_into-count g c = (unit-within g.C.Content.KIND c.args.s.now c.args.unit c.args.end c.requires).0

pub slice_bounds-read_into-start : goal.slice_bounds-read_into-start
slice_bounds-read_into-start g c = let w = unit-within g.C.Content.KIND c.args.s.now c.args.unit c.args.end c.requires in search rules

pub slice_bounds-read_into-end : goal.slice_bounds-read_into-end
slice_bounds-read_into-end g c = let w = unit-within g.C.Content.KIND c.args.s.now c.args.unit c.args.end c.requires in search rules

-- the content is refused
pub placed-requires : goal.placed-requires
placed-requires g c =
    let s = c.args.s.now in
    let k = g.C.Content.KIND in
    let w = unit-within k s c.args.unit c.args.end c.requires in
    let bytes : Bytes s = each-of (λ (b : ℕ). b < 256) 0 s (λ i h. omega (arith, c.type_inv.s i)) in
    record {
      unit_bound = omega (arith, w.0, w.1, w.2);
      near = body_near k s c.args.unit c.args.end c.requires bytes _ _ (content-told k c.read_into.ensures ∙ ap verdict_of (ap (told_as g.C.Content.told) c.in-Err.is));
    }

pub returns-in-Err : goal.returns-in-Err
returns-in-Err g c =
    let s = c.args.s.now in
    let k = g.C.Content.KIND in
    let bytes : Bytes s = each-of (λ (b : ℕ). b < 256) 0 s (λ i h. omega (arith, c.type_inv.s i)) in
    let reason = c.in-Err.reason in
    let item = c.in-Err.item in
    body-into k s c.args.records.now bytes c.args.unit c.args.end c.requires
    _ c.read_into.ensures.left (Refused reason item) (content-told k c.read_into.ensures ∙ ap verdict_of (ap (told_as g.C.Content.told) c.in-Err.is))
    _ (c.nothing.ensures ∙ ap (λ (i : Item). head_of k (answer_of k (Refused reason i) [])) c.placed.ensures)

-- the content is accepted
made : (k : Kind) → Refusal → Numbers k → Head k
made k refusal numbers = record { refusal = refusal; present = true; numbers = numbers }

pub returns-in-Ok : goal.returns-in-Ok
unfolding made
returns-in-Ok g c =
    let s = c.args.s.now in
    let k = g.C.Content.KIND in
    let bytes : Bytes s = each-of (λ (b : ℕ). b < 256) 0 s (λ i h. omega (arith, c.type_inv.s i)) in
    let told = ap (told_as g.C.Content.told) c.in-Ok.is in
    let ok : content_verdict k (part (c.args.unit + 4) c.args.end s) ≡ Accepted = content-told k c.read_into.ensures ∙ ap verdict_of told in
    body-into k s c.args.records.now bytes c.args.unit c.args.end c.requires
    _ c.read_into.ensures.left Accepted ok _ (ap₂ (made k) c.from.ensures (content-value k c.read_into.ensures _ told))
