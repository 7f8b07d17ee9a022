-- `pes_writer::put_unit` meets its contract: what is stored one by one and the bytes behind it are those of the unit that is told, as the stream has them.
use Prim.Native.Nat.{ℕ, ◌+◌, ◌*◌, ◌≤◌, ◌<◌}
use native.Mathlib.Omega.{arith}
use mathlib.Core.Path.{◌≡◌, ◌∙◌, ap, sym, refl}
use mathlib.Core.List.{List, [], ◌∷◌, ◌++◌, map}
use lib.ListN.{length, get_or, drop, set, length-map, length-drop}
use lib.Seq.{length-take-le}
use Rattle.lists.specs.Bytes.{Bytes}
use Rattle.lists.specs.Part.{part}
use Rattle.lists.specs.Room.{over}
use Rattle.lists.proofs.Each.{each-of, each_take, each-drop}
use Rattle.lists.proofs.Lay.{length_over, sets-over_at, laid-fitting}
use Rattle.bits.specs.Bits.{reversed}
use Rattle.bits.specs.Table.{Reverses, found}
use Rattle.bits.proofs.Table.{found-reversed}
use Rattle.refusal.specs.Verdict.{Accepted}
use Rattle.pes.specs.Writing.{written_verdict}
use Rattle.pes.specs.Lent.{unit_in}
use Rattle.pes.proofs.Lending.{in-teletext, told-stuffing, told-teletext}
use Rattle.pes.proofs.Writable.{written_small}
use Rattle.pes_writer.proofs.put_unit.Goals as goal

-- what is lent
module _ (u out : List ℕ) (whole : 45 ≤ length u) (room : 46 ≤ length out) where
  -- behind the id and the length
  abbrev two : List ℕ
  two = set (set out 0 (get_or u 0 0)) 1 0x2C

  abbrev id : List ℕ
  id = get_or u 0 0 ∷ 0x2C ∷ []

  two-laid : two ≡ over id out
  two-laid = sets-over_at 0 id out (omega arith)

  stuffed : length (part 1 45 u) ≡ 44
  stuffed = length-take-le 44 (drop 1 u) (omega (arith, length-drop 1 u))

  -- and behind the line and the framing code
  abbrev four : List ℕ
  four = set (set two 2 (192 + 32 * get_or u 1 0 + get_or u 2 0)) 3 0xE4

  abbrev head : List ℕ
  head = get_or u 0 0 ∷ 0x2C ∷ (192 + 32 * get_or u 1 0 + get_or u 2 0) ∷ 0xE4 ∷ []

  four-laid : four ≡ over head out
  four-laid = sets-over_at 0 head out (omega arith)

  row-long : length (part 3 45 u) ≡ 42
  row-long = length-take-le 42 (drop 3 u) (omega (arith, length-drop 3 u))

  turned : (table : List ℕ) → Reverses table → Bytes u → map (found table) (part 3 45 u) ≡ map reversed (part 3 45 u)
  turned table reverses bytes =
      let row : Bytes (part 3 45 u) = each_take (λ (b : ℕ). b < 256) 42 (drop 3 u) (each-drop (λ (b : ℕ). b < 256) 3 u bytes) in
      found-reversed table (part 3 45 u) reverses row

-- what was judged of teletext: its numbers fit the byte
small : (u : List ℕ) → (get_or u 0 0 ≡ 255 → ⊥) → written_verdict (unit_in u) ≡ Accepted → (get_or u 1 0 ≤ 1) × (get_or u 2 0 ≤ 31)
small u other right = written_small _ _ _ _ (ap written_verdict (sym (in-teletext u other)) ∙ right)

pub overflow_mul-out : goal.overflow_mul-out
overflow_mul-out c = omega (arith, small c.args.u.now c.if-u.false c.requires.u_value)

pub overflow_add-out : goal.overflow_add-out
overflow_add-out c = omega (arith, small c.args.u.now c.if-u.false c.requires.u_value)

pub overflow_add-out-2 : goal.overflow_add-out-2
overflow_add-out-2 c = omega (arith, small c.args.u.now c.if-u.false c.requires.u_value)

pub returns-then-u : goal.returns-then-u
returns-then-u c =
    let u = c.args.u.now in
    let out = c.args.out.now in
    let whole : 45 ≤ length u = c.requires.in_bounds in
    let room : 46 ≤ length out = c.requires.in_bounds_2 in
    let fits : 2 + 44 ≤ length (two u out whole room) =
    omega (arith, ap length (two-laid u out whole room), length_over (id u out whole room) out (omega arith)) in
    laid-fitting (id u out whole room) (part 1 45 u) out (two u out whole room) c.copy.new.out 2 44 (two-laid u out whole room) refl (stuffed u out whole room) fits c.copy.ensures
    ∙ ap (λ (xs : List ℕ). over xs out) (sym (told-stuffing u c.if-u.true))

pub returns : goal.returns
returns c =
    let u = c.args.u.now in
    let out = c.args.out.now in
    let whole : 45 ≤ length u = c.requires.in_bounds in
    let room : 46 ≤ length out = c.requires.in_bounds_2 in
    let bytes : Bytes u = each-of (λ (b : ℕ). b < 256) 0 u (λ i h. omega (arith, c.type_inv.u i)) in
    let row = part 3 45 u in
    let all = map (found c.args.table.now) row in
    let long : length all ≡ 42 = length-map row (found c.args.table.now) ∙ row-long u out whole room in
    let fits : 4 + 42 ≤ length (four u out whole room) =
    omega (arith, ap length (four-laid u out whole room), length_over (head u out whole room) out (omega arith)) in
    laid-fitting (head u out whole room) all out (four u out whole room) c.look_up.new.out 4 42 (four-laid u out whole room) refl long fits c.look_up.ensures
    ∙ ap (λ (xs : List ℕ). over (head u out whole room ++ xs) out) (turned u out whole room c.args.table.now c.requires.reverses bytes)
    ∙ ap (λ (xs : List ℕ). over xs out) (sym (told-teletext u c.if-u.false))
