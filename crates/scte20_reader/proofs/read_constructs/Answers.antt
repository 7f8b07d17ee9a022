-- `scte20_reader::read_constructs` meets its contract. The loop's invariant: i constructs are read and accepted, `last` is what counts of their
-- records, and the records' bytes are laid over the front of the array.
use Prim.Native.Nat.{ℕ, ◌+◌, ◌-◌, ◌*◌, ◌%◌, ◌≤◌, ◌<◌}
use native.Mathlib.Omega.{arith}
use mathlib.Core.Path.{◌≡◌, ◌∙◌, ap, sym, subst, refl}
use mathlib.Core.List.{List, [], ◌∷◌}
use borrow.Author.Rules.{rules}
use lib.ListN.{length}
use Rattle.lists.specs.Room.{over_at}
use Rattle.refusal.specs.declared.Reason.{Reason}
use Rattle.refusal.specs.declared.Item.{Item}
use Rattle.refusal.specs.Verdict.{Verdict}
use Rattle.refusal.specs.Verdict.{Accepted, Refused}
use Rattle.refusal.specs.Checks.{and_then}
use Rattle.refusal.proofs.Checks.{refused-not-accepted, refused-first, accepted-first}
use Rattle.bits.specs.Bits.{bits_of, field}
use Rattle.bits.specs.Peek.{peek_of}
use Rattle.bits.proofs.Stream.{length-bits_of, bits_of-are}
use Rattle.bits.proofs.Beyond.{peek-inside, peek-lt}
use Rattle.scte20.specs.declared.Record.{Record}
use Rattle.scte20.specs.declared.Last.{Last}
use Rattle.scte20.specs.Reading.{missing, construct_at, marker_verdict, constructs_verdict}
use Rattle.scte20.specs.Lent.{record_bytes, stored_at}
use Rattle.scte20.specs.Inside.{construct_of, last_verdict, last_after, Runs}
use Rattle.scte20.proofs.Bytewise.{missing-some, missing-none}
use Rattle.scte20.proofs.Lending.{stored-laid}
use Rattle.scte20.proofs.Stepwise.{construct-at, marker-one, marker-other, behind, Going, going-first, going-room, constructs-here, going_next, going-accepted, going-laid}
use Rattle.scte20_reader.proofs.read_constructs.Goals.{In-loop-i}
use Rattle.scte20_reader.proofs.read_constructs.Goals as goal

pub loop-i-init : goal.loop-i-init
loop-i-init c =
    let body = c.args.body.now in
    let lent = c.args.records.now in
    subst (λ (last : Last). Going (bits_of body) c.args.n lent lent last 0) (sym c.none_yet-last.ensures) (going-first (bits_of body) c.args.n lent)

-- what is left to judge in a turn of the loop
here : (c : In-loop-i)
    → let xs = bits_of c.args.body.now in
    let at = 21 + 26 * c.loop-i.i in
    let r = construct_at at xs in
    constructs_verdict [] c.args.n 21 xs
    ≡ and_then (missing at 26 xs)
    (and_then (last_verdict at c.loop-i.last r)
    (and_then (marker_verdict at xs) (and_then (constructs_verdict (r ∷ behind c.loop-i.i xs) (c.args.n - (c.loop-i.i + 1)) (at + 26) xs) Accepted)))
here c = constructs-here (bits_of c.args.body.now) c.args.n c.args.records.now c.loop-i.records c.loop-i.last c.loop-i.i c.loop-i.invariant c.loop-i-test.true

-- a refusal, and whatever is in the array
refused-run : (body : List ℕ) (n : ℕ) (lent : List ℕ) (verdict : Verdict) (exit : List ℕ) (reason : Reason) (item : Item) → verdict ≡ Refused reason item
    → verdict ≡ constructs_verdict [] n 21 (bits_of body) → Runs body n lent verdict exit
refused-run body n lent verdict exit reason item told e = record { verdict = e; left = λ accepted. refused-not-accepted reason item (sym told ∙ accepted) }

pub returns-then-body-at : goal.returns-then-body-at
returns-then-body-at c =
    let body = c.args.body.now in
    let xs = bits_of body in
    let n = c.args.n in
    let lent = c.args.records.now in
    let i = c.loop-i.i in
    let at = 21 + 26 * i in
    let short : 8 * length body < at + 26 = omega arith in
    refused-run body n lent _ _ _ _ refl (refused-first _ (sym (missing-some body at 26 short)) refl ∙ sym (here (goal.at.returns-then-body-at c).In-loop-i))

-- the whole construct is there
module _ (body : List ℕ) (at : ℕ) (long : at + 26 ≤ 8 * length body) (construct : ℕ) (told : construct ≡ peek_of body at 26) where
  seen : construct ≡ field (bits_of body) at 26
  seen = told ∙ peek-inside body at 26 long

  fits : at + 26 ≤ length (bits_of body)
  fits = omega (arith, long, length-bits_of body)

  -- and its record is judged as the one that stands there
  taken : (r : Record) → r ≡ construct_of construct → r ≡ construct_at at (bits_of body)
  taken r of = of ∙ ap construct_of seen ∙ construct-at (bits_of body) at (bits_of-are body) fits

  whole : missing at 26 (bits_of body) ≡ Accepted
  whole = missing-none body at 26 long

pub returns-in_err-judge_record : goal.returns-in_err-judge_record
returns-in_err-judge_record c =
    let body = c.args.body.now in
    let xs = bits_of body in
    let n = c.args.n in
    let lent = c.args.records.now in
    let i = c.loop-i.i in
    let at = 21 + 26 * i in
    let long : at + 26 ≤ 8 * length body = omega arith in
    let construct = c.peek-construct.result in
    let told = c.peek-construct.ensures in
    let record_is = taken body at long construct told c.record_of-record.result c.record_of-record.ensures in
    let judged : c.judge_record.result ≡ last_verdict at c.loop-i.last (construct_at at xs) = c.judge_record.ensures ∙ ap (last_verdict at c.loop-i.last) record_is in
    let there = whole body at long construct told in
    let same : c.from_residual.result ≡ c.judge_record.result = search rules in
    refused-run body n lent _ _ _ _ (same ∙ c.in_err-judge_record.was)
    (refused-first _ (same ∙ judged) (same ∙ c.in_err-judge_record.was) ∙ sym (here (goal.at.returns-in_err-judge_record c).In-loop-i ∙ accepted-first _ (sym there) refl))

pub returns-then-construct-ne1 : goal.returns-then-construct-ne1
returns-then-construct-ne1 c =
    let body = c.args.body.now in
    let xs = bits_of body in
    let n = c.args.n in
    let lent = c.args.records.now in
    let i = c.loop-i.i in
    let at = 21 + 26 * i in
    let long : at + 26 ≤ 8 * length body = omega arith in
    let construct = c.peek-construct.result in
    let told = c.peek-construct.ensures in
    let record_is = taken body at long construct told c.record_of-record.result c.record_of-record.ensures in
    let judged : c.judge_record.result ≡ last_verdict at c.loop-i.last (construct_at at xs) = c.judge_record.ensures ∙ ap (last_verdict at c.loop-i.last) record_is in
    let there = whole body at long construct told in
    let other = marker-other xs at (bits_of-are body) (fits body at long construct told) (λ e. c.if-construct-ne1.true (ap (λ (k : ℕ). k % 2) (seen body at long construct told) ∙ e)) in
    refused-run body n lent _ _ _ _ refl
    (refused-first _ (sym other) refl
    ∙ sym (here (goal.at.returns-then-construct-ne1 c).In-loop-i ∙ accepted-first _ (sym there) refl ∙ accepted-first _ judged c.in_ok-judge_record.was))

pub loop-i-preserved : goal.loop-i-preserved
loop-i-preserved c =
    let body = c.args.body.now in
    let xs = bits_of body in
    let n = c.args.n in
    let lent = c.args.records.now in
    let i = c.loop-i.i in
    let at = 21 + 26 * i in
    let long : at + 26 ≤ 8 * length body = omega arith in
    let construct = c.peek-construct.result in
    let told = c.peek-construct.ensures in
    let record_is = taken body at long construct told c.record_of-record.result c.record_of-record.ensures in
    let judged : c.judge_record.result ≡ last_verdict at c.loop-i.last (construct_at at xs) = c.judge_record.ensures ∙ ap (last_verdict at c.loop-i.last) record_is in
    let there = whole body at long construct told in
    let r = construct_at at xs in
    let kept = c.loop-i.records in
    let legal = sym judged ∙ c.in_ok-judge_record.was in
    let marked = marker-one xs at (bits_of-are body) (fits body at long construct told) (ap (λ (k : ℕ). k % 2) (sym (seen body at long construct told)) ∙ c.if-construct-ne1.false) in
    let after : c.after-last.result ≡ last_after c.loop-i.last r = c.after-last.ensures ∙ ap (last_after c.loop-i.last) record_is in
    let room = going-room xs n lent kept c.loop-i.last i c.loop-i.invariant c.loop-i-test.true c.requires.n_bound (omega arith) in
    let laid : c.put_record.new.records ≡ over_at (5 * i) (record_bytes r) kept =
    c.put_record.ensures ∙ ap (λ (s : Record). stored_at i s kept) record_is ∙ stored-laid i r kept (omega arith) room
    in
    subst (λ (last : Last). Going xs n lent c.put_record.new.records last (i + 1)) (sym after)
    (subst (λ (records : List ℕ). Going xs n lent records (last_after c.loop-i.last r) (i + 1)) (sym laid)
    (going_next xs n lent kept c.loop-i.last i c.loop-i.invariant c.loop-i-test.true there legal marked))

pub returns : goal.returns
returns c =
    let at = c.loop-i in
    let xs = bits_of c.args.body.now in
    let lent = c.args.records.now in
    record {
      verdict = sym (going-accepted xs c.args.n lent at.records at.last at.i at.invariant (omega arith));
      left = λ e. going-laid xs c.args.n lent at.records at.last at.i at.invariant (omega arith);
    }

pub record_of-record-requires-clause-construct_bound : goal.record_of-record-requires-clause-construct_bound
record_of-record-requires-clause-construct_bound c =
    subst (λ (k : ℕ). k < 67108864) (sym c.peek-construct.ensures) (peek-lt c.args.body.now _ 26)
