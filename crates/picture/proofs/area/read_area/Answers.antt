-- `picture::area::read_area` meets its contract: each arm answers and leaves what was found.
use Prim.Native.Nat.{ℕ, ◌*◌, ◌<◌}
use native.Mathlib.Omega.{arith}
use mathlib.Core.Path.{◌≡◌, ◌∙◌, ap, sym, refl}
use lib.ListN.{replicate}
use Rattle.lists.specs.Bytes.{Bytes}
use Rattle.lists.proofs.Each.{each-of}
use Rattle.kind.specs.declared.Kind.{Kind}
use Rattle.units.specs.declared.Found.TheVariants as found
use Rattle.picture.specs.Reading.{captions_in}
use Rattle.picture.proofs.Contents.{cleared, places-few}
use Rattle.picture.proofs.Lending.{found-into}
use Rattle.picture.proofs.area.read_area.Goals as goal

pub returns-in-NotUnits : goal.returns-in-NotUnits
returns-in-NotUnits g c =
    let s = c.args.s.now in
    let seen : captions_in g.C.Content.KIND s ≡ c.scan-found.result = ap (λ (k : Kind). captions_in k s) (sym c.KIND.ensures) ∙ sym c.scan-found.ensures in
    let bytes : Bytes s = each-of (λ (b : ℕ). b < 256) 0 s (λ i h. omega (arith, c.type_inv.s i)) in
    found-into g.C.Content.KIND s c.args.records.now bytes (found.NotUnits c.in-NotUnits.reason c.in-NotUnits.item)
    (seen ∙ c.in-NotUnits.is)
    _ c.nothing.ensures _ refl

pub returns-in-Nowhere : goal.returns-in-Nowhere
returns-in-Nowhere g c =
    let k = g.C.Content.KIND in
    let s = c.args.s.now in
    let seen : captions_in g.C.Content.KIND s ≡ c.scan-found.result = ap (λ (k : Kind). captions_in k s) (sym c.KIND.ensures) ∙ sym c.scan-found.ensures in
    let bytes : Bytes s = each-of (λ (b : ℕ). b < 256) 0 s (λ i h. omega (arith, c.type_inv.s i)) in
    found-into k s c.args.records.now bytes found.Nowhere (seen ∙ c.in-Nowhere.is)
    _ c.nothing-in-Nowhere.ensures _ (c.clear.ensures ∙ ap (λ (n : ℕ). replicate n 0) (c.told-records ∙ g.met.C.Content.wide) ∙ sym (cleared k))

pub read_unit-requires : goal.read_unit-requires
read_unit-requires g c =
    let s = c.args.s.now in
    let seen : captions_in g.C.Content.KIND s ≡ c.scan-found.result = ap (λ (k : Kind). captions_in k s) (sym c.KIND.ensures) ∙ sym c.scan-found.ensures in
    let short : g.row.N * 1 < 9223372036854775808 = omega (arith, g.met.C.Content.wide, places-few g.C.Content.KIND) in
    (short, seen ∙ c.in-At.is)

pub returns-in-Many : goal.returns-in-Many
returns-in-Many g c =
    let s = c.args.s.now in
    let seen : captions_in g.C.Content.KIND s ≡ c.scan-found.result = ap (λ (k : Kind). captions_in k s) (sym c.KIND.ensures) ∙ sym c.scan-found.ensures in
    let bytes : Bytes s = each-of (λ (b : ℕ). b < 256) 0 s (λ i h. omega (arith, c.type_inv.s i)) in
    found-into g.C.Content.KIND s c.args.records.now bytes (found.Many c.in-Many.field-0)
    (seen ∙ c.in-Many.is)
    _ c.nothing-in-Many.ensures _ refl
