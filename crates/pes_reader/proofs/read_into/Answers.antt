-- `pes_reader::read_into` meets its contract: the checks refuse, or the units are stored and counted.
use Prim.Native.Nat.{ℕ, ◌≤◌, ◌<◌}
use native.Mathlib.Omega.{arith}
use Rattle.std.proofs.Common.{◌≡◌, Fits, w8, get_or, rules}
use mathlib.Core.Path.{◌∙◌, ap, sym}
use mathlib.Core.List.{List}
use lib.ListN.{length, drop}
use Rattle.lists.specs.Bytes.{Bytes}
use Rattle.lists.specs.Flat.{taken}
use Rattle.lists.specs.Room.{filled}
use Rattle.lists.proofs.Each.{each-of}
use Rattle.lists.proofs.FlatOf.{length_taken}
use Rattle.lists.proofs.Lay.{rest-whole, length_rest}
use Rattle.refusal.specs.Verdict.{Accepted}
use Rattle.pes.specs.Value.{blank}
use Rattle.pes.specs.Reading.{read_unit, unit_count}
use Rattle.pes.specs.Lent.{units_bytes}
use Rattle.pes.proofs.Field.{Accepts, accepted-field}
use Rattle.pes.proofs.Answers.{refused-into, accepted-into}
use Rattle.pes_reader.proofs.read_into.Goals.{Else-is_err}
use Rattle.pes_reader.proofs.read_into.Goals as goal

-- the input is a list of bytes by its type
bytes : (s : List ℕ) → ((i : ℕ) → Fits w8 (get_or s i 0)) → Bytes s
bytes s fits = each-of (λ (b : ℕ). b < 256) 0 s (λ i h. omega (arith, fits i))

pub returns-then-is_err : goal.returns-then-is_err
returns-then-is_err c =
    let s = c.args.s.now in
    refused-into s c.args.units.now (bytes s c.type_inv.s) _ c.judge-verdict.ensures _ c.from-refusal.ensures (search rules)

-- they accept
module _ (c : Else-is_err) where
  abbrev s : List ℕ
  s = c.args.s.now

  accepted : c.judge-verdict.result ≡ Accepted
  accepted = search rules

  accepts : Accepts s
  accepts = accepted-field s (bytes s c.type_inv.s) (sym c.judge-verdict.ensures ∙ accepted)

  abbrev n : ℕ
  n = unit_count (length s)

  few : n ≤ 31
  few = omega (arith, accepts.legal.few, length_taken read_unit 46 n (drop 1 s))

pub overflow_sub-n : goal.overflow_sub-n
overflow_sub-n c = omega (arith, (accepts (goal.at.overflow_sub-n c).Else-is_err).some)

pub slice_bounds-store-start : goal.slice_bounds-store-start
slice_bounds-store-start c = omega (arith, (accepts (goal.at.slice_bounds-store-start c).Else-is_err).some)

pub slice_bounds-store-count : goal.slice_bounds-store-count
slice_bounds-store-count c = omega (arith, (accepts (goal.at.slice_bounds-store-count c).Else-is_err).some)

pub store-requires : goal.store-requires
store-requires c =
    let told = (goal.at.store-requires c).Else-is_err in
    record { n_bound = few told; n_in_bounds = omega (arith, length_rest c.args.s.now 1, (accepts told).whole) }

pub bounds-s-0 : goal.bounds-s-0
bounds-s-0 c = omega (arith, (accepts (goal.at.bounds-s-0 c).Else-is_err).some)

pub returns : goal.returns
returns c =
    let s = c.args.s.now in
    accepted-into s c.args.units.now (bytes s c.type_inv.s) _ c.judge-verdict.ensures _ c.from-refusal.ensures _ (accepted (goal.at.returns c).Else-is_err)
    (c.store.ensures ∙ ap (λ (u : List ℕ). units_bytes (filled (taken read_unit 46 (unit_count (length s)) u) 31 blank)) (rest-whole s 1))
