-- `scte20_reader::put_records` meets its contract. The loop's invariant: the bytes of i records are laid over the front of the array.
use Prim.Native.Nat.{ℕ, ◌+◌, ◌*◌, ◌≤◌, ◌<◌}
use native.Mathlib.Omega.{arith}
use mathlib.Core.Path.{◌≡◌, ◌∙◌, ap, ap₂, sym}
use mathlib.Core.List.{List}
use lib.ListN.{length, get_or, take}
use lib.Seq.{length-take-le, take_all}
use Rattle.lists.specs.Room.{over, over_at}
use Rattle.scte20.specs.declared.Record.{Record}
use Rattle.scte20.specs.Lent.{record_bytes, records_bytes, stored_at}
use Rattle.scte20.specs.Inside.{construct_of}
use Rattle.scte20.proofs.Lending.{stored-laid, lent-next, lent-room}
use Rattle.scte20_gather.specs.Inside.{records_of}
use Rattle.scte20_gather.proofs.Numbering.{length-records_of, get_d-records_of}
use Rattle.scte20_reader.proofs.put_records.Goals as goal

-- one record more
laid_next : (n : ℕ) (found lent records exit : List ℕ) (i : ℕ) (r : Record) → n ≤ 31 → i < n → length lent ≡ 155
    → records ≡ over (records_bytes (take i (records_of n 0 found))) lent → r ≡ construct_of (get_or found i 0) → exit ≡ stored_at i r records
    → exit ≡ over (records_bytes (take (i + 1) (records_of n 0 found))) lent
laid_next n found lent records exit i r few below room before told stored =
    let rs = records_of n 0 found in
    let count = length-records_of n 0 found in
    let front : length (take i rs) ≤ 31 = omega (arith, length-take-le i rs (omega (arith, count))) in
    let long : length records ≡ 155 = ap length before ∙ lent-room (take i rs) lent front room in
    stored
    ∙ stored-laid i r records (omega arith) long
    ∙ ap₂ (λ (s : Record) (bytes : List ℕ). over_at (5 * i) (record_bytes s) bytes) (told ∙ sym (get_d-records_of n i found below)) before
    ∙ lent-next rs lent i (omega (arith, count))

pub loop-i-preserved : goal.loop-i-preserved
loop-i-preserved c =
    let at = c.loop-i in
    laid_next c.args.n c.args.found.now c.args.records.now at.records _ at.i c.record_of.result c.requires.n_bound c.loop-i-test.true (omega arith)
    at.invariant c.record_of.ensures c.put_record.ensures

pub returns : goal.returns
returns c =
    let rs = records_of c.args.n 0 c.args.found.now in
    let at = c.loop-i in
    let all : take at.i rs ≡ rs = take_all at.i rs (omega (arith, length-records_of c.args.n 0 c.args.found.now)) in
    at.invariant ∙ ap (λ (front : List Record). over (records_bytes front) c.args.records.now) all
