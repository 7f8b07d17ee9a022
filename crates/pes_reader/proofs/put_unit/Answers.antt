-- `pes_reader::put_unit` meets its contract: what is stored one by one and the bytes behind it are those of the unit that is read.
use Prim.Native.Nat.{ℕ, ◌+◌, ◌/◌, ◌%◌, ◌≤◌, ◌<◌}
use native.Mathlib.Omega.{arith}
use mathlib.Core.Path.{◌≡◌, ◌∙◌, ap, sym, refl}
use mathlib.Core.List.{List, [], ◌∷◌, ◌++◌, map}
use lib.ListN.{length, get_or, drop, set, length-map, length-set, length-drop}
use lib.Seq.{length-take-le}
use Rattle.lists.specs.Bytes.{Bytes}
use Rattle.lists.specs.Part.{part}
use Rattle.lists.specs.Room.{over}
use Rattle.lists.proofs.Each.{each-of, each_take, each-drop}
use Rattle.lists.proofs.Lay.{length_over, sets-over_at, laid-fitting}
use Rattle.bits.specs.Bits.{reversed}
use Rattle.bits.specs.Table.{Reverses, found}
use Rattle.bits.proofs.Table.{found-reversed}
use Rattle.pes.proofs.Lending.{read-stuffing, read-teletext}
use Rattle.pes_reader.proofs.put_unit.Goals as goal

-- what is lent
module _ (u out : List ℕ) (whole : 46 ≤ length u) (room : 45 ≤ length out) where
  -- behind the id
  abbrev one : List ℕ
  one = set out 0 (get_or u 0 0)

  one-laid : one ≡ over (get_or u 0 0 ∷ []) out
  one-laid = sets-over_at 0 (get_or u 0 0 ∷ []) out (omega arith)

  stuffed : length (part 2 46 u) ≡ 44
  stuffed = length-take-le 44 (drop 2 u) (omega (arith, length-drop 2 u))

  -- and behind parity and line
  abbrev three : List ℕ
  three = set (set one 1 (get_or u 2 0 / 32 % 2)) 2 (get_or u 2 0 % 32)

  abbrev head : List ℕ
  head = get_or u 0 0 ∷ get_or u 2 0 / 32 % 2 ∷ get_or u 2 0 % 32 ∷ []

  three-laid : three ≡ over head out
  three-laid = sets-over_at 0 head out (omega arith)

  row-long : length (part 4 46 u) ≡ 42
  row-long = length-take-le 42 (drop 4 u) (omega (arith, length-drop 4 u))

  turned : (table : List ℕ) → Reverses table → Bytes u → map (found table) (part 4 46 u) ≡ map reversed (part 4 46 u)
  turned table reverses bytes =
      let row : Bytes (part 4 46 u) = each_take (λ (b : ℕ). b < 256) 42 (drop 4 u) (each-drop (λ (b : ℕ). b < 256) 4 u bytes) in
      found-reversed table (part 4 46 u) reverses row

pub returns-then-u : goal.returns-then-u
returns-then-u c =
    let u = c.args.u.now in
    let out = c.args.out.now in
    let whole : 46 ≤ length u = c.requires.in_bounds in
    let room : 45 ≤ length out = c.requires.in_bounds_2 in
    let fits : 1 + 44 ≤ length (one u out whole room) = omega (arith, length-set out 0 (get_or u 0 0)) in
    laid-fitting (get_or u 0 0 ∷ []) (part 2 46 u) out (one u out whole room) c.copy.new.out 1 44 (one-laid u out whole room) refl (stuffed u out whole room) fits c.copy.ensures
    ∙ ap (λ (xs : List ℕ). over xs out) (sym (read-stuffing u c.if-u.true))

pub returns : goal.returns
returns c =
    let u = c.args.u.now in
    let out = c.args.out.now in
    let whole : 46 ≤ length u = c.requires.in_bounds in
    let room : 45 ≤ length out = c.requires.in_bounds_2 in
    let bytes : Bytes u = each-of (λ (b : ℕ). b < 256) 0 u (λ i h. omega (arith, c.type_inv.u i)) in
    let row = part 4 46 u in
    let all = map (found c.args.table.now) row in
    let long : length all ≡ 42 = length-map row (found c.args.table.now) ∙ row-long u out whole room in
    let fits : 3 + 42 ≤ length (three u out whole room) =
    omega (arith, ap length (three-laid u out whole room), length_over (head u out whole room) out (omega arith)) in
    laid-fitting (head u out whole room) all out (three u out whole room) c.look_up.new.out 3 42 (three-laid u out whole room) refl long fits c.look_up.ensures
    ∙ ap (λ (xs : List ℕ). over (head u out whole room ++ xs) out) (turned u out whole room c.args.table.now c.requires.reverses bytes)
    ∙ ap (λ (xs : List ℕ). over xs out) (sym (read-teletext u c.if-u.false))
