-- `ga94_writer::put_constructs` meets its contract. The loop's invariant: the first i constructs are laid behind seven bytes.
use Prim.Native.Nat.{ℕ, suc, ◌+◌, ◌*◌, ◌≤◌, ◌<◌}
use native.Mathlib.Omega.{arith}
use mathlib.Core.Path.{◌≡◌, ◌∙◌, ap₂, sym, subst, refl}
use mathlib.Core.List.{List, [], ◌∷◌}
use lib.ListN.{length, get_or, set}
use lib.Seq.{get_or-take, sets}
use Rattle.lists.specs.Room.{over_at}
use Rattle.lists.proofs.Each.{each_at}
use Rattle.lists.proofs.Flat.{flat-next-at}
use Rattle.lists.proofs.Lay.{sets-over_at}
use Rattle.ga94.specs.declared.Record.{Record}
use Rattle.ga94.specs.Value.{CaptionUnit, blank, held}
use Rattle.ga94.specs.Layout.{construct_bytes}
use Rattle.ga94.specs.Lent.{unit_in}
use Rattle.ga94.proofs.Lending.{lent_length}
use Rattle.ga94.proofs.Holding.{value-whole, length-held}
use Rattle.ga94.proofs.Writable.{InRange, value-ranged}
use Rattle.ga94_writer.proofs.put_constructs.Goals as goal

three : (s : List ℕ) (at a b c : ℕ) → sets s at (a ∷ b ∷ c ∷ []) ≡ set (set (set s at a) (at + 1) b) (at + 2) c
three s at a b c =
    let one : suc at ≡ at + 1 = omega arith in
    let two : suc (suc at) ≡ at + 2 = omega arith in
    ap₂ (λ (i j : ℕ). set (set (set s at a) i b) j c) one two

pub loop-i-preserved : goal.loop-i-preserved
loop-i-preserved c =
    let out : List ℕ = c.args.out.now in
    let unit : CaptionUnit = unit_in c.args.v c.args.records.now in
    let rs : List Record = (held unit).records in
    let few : unit.n ≤ 31 = (value-whole unit c.requires.records_value).few in
    let counted : length rs ≡ unit.n = length-held unit (lent_length c.args.records.now) few in
    let i : ℕ = c.loop-i.i in
    let inside : i < length rs = omega (arith, counted, c.loop-i-test.true) in
    let room : 7 + 3 * i + 3 ≤ length c.loop-i.out = omega arith in
    let here : get_or rs i blank ≡ c.record_in-r.result = get_or-take unit.n unit.records i blank c.loop-i-test.true ∙ sym c.record_in-r.ensures in
    let k = i in
    let r = c.record_in-r.result in
    let s = c.loop-i.out in
    sym (three s (7 + 3 * k) _ _ _)
    ∙ sets-over_at (7 + 3 * k) (construct_bytes r) s room
    ∙ ap₂ (λ (x : Record) (ys : List ℕ). over_at (7 + 3 * k) (construct_bytes x) ys) (sym here) c.loop-i.invariant
    ∙ flat-next-at construct_bytes 3 (λ x. refl) blank rs out k 7 (7 + 3 * k) inside (omega (arith, c.requires.n_in_bounds)) refl

pub overflow_mul-out : goal.overflow_mul-out
overflow_mul-out c =
    let unit : CaptionUnit = unit_in c.args.v c.args.records.now in
    let rs : List Record = (held unit).records in
    let few : unit.n ≤ 31 = (value-whole unit c.requires.records_value).few in
    let counted : length rs ≡ unit.n = length-held unit (lent_length c.args.records.now) few in
    let i : ℕ = c.loop-i.i in
    let inside : i < length rs = omega (arith, counted, c.loop-i-test.true) in
    let here : get_or rs i blank ≡ c.record_in-r.result = get_or-take unit.n unit.records i blank c.loop-i-test.true ∙ sym c.record_in-r.ensures in
    let ranged : InRange c.record_in-r.result = subst InRange here (each_at InRange blank rs (value-ranged unit c.requires.records_value) i inside) in
    omega (arith, ranged.0)

pub overflow_add-out : goal.overflow_add-out
overflow_add-out c =
    let unit : CaptionUnit = unit_in c.args.v c.args.records.now in
    let rs : List Record = (held unit).records in
    let few : unit.n ≤ 31 = (value-whole unit c.requires.records_value).few in
    let counted : length rs ≡ unit.n = length-held unit (lent_length c.args.records.now) few in
    let i : ℕ = c.loop-i.i in
    let inside : i < length rs = omega (arith, counted, c.loop-i-test.true) in
    let here : get_or rs i blank ≡ c.record_in-r.result = get_or-take unit.n unit.records i blank c.loop-i-test.true ∙ sym c.record_in-r.ensures in
    let ranged : InRange c.record_in-r.result = subst InRange here (each_at InRange blank rs (value-ranged unit c.requires.records_value) i inside) in
    omega (arith, ranged.0)

pub overflow_add-out-in-loop-i : goal.overflow_add-out-in-loop-i
overflow_add-out-in-loop-i c =
    let unit : CaptionUnit = unit_in c.args.v c.args.records.now in
    let rs : List Record = (held unit).records in
    let few : unit.n ≤ 31 = (value-whole unit c.requires.records_value).few in
    let counted : length rs ≡ unit.n = length-held unit (lent_length c.args.records.now) few in
    let i : ℕ = c.loop-i.i in
    let inside : i < length rs = omega (arith, counted, c.loop-i-test.true) in
    let here : get_or rs i blank ≡ c.record_in-r.result = get_or-take unit.n unit.records i blank c.loop-i-test.true ∙ sym c.record_in-r.ensures in
    let ranged : InRange c.record_in-r.result = subst InRange here (each_at InRange blank rs (value-ranged unit c.requires.records_value) i inside) in
    omega (arith, ranged.0, ranged.1)
