-- `notation::records::entries_from` meets its contract.
use mathlib.Core.Bool.{Bool}
use mathlib.Core.Logic.{inl, inr}
use mathlib.Core.Path.{◌∙◌, ap, sym}
use Rattle.std.proofs.Common.{Some}
use lib.ListN.{drop, length, take}
use Rattle.lists.specs.Room.{filled}
use Rattle.scte20.specs.Value.{blank}
use Rattle.notation.specs.Inside.{told_if}
use Rattle.notation.specs.Value.{records_of}
use Rattle.notation.specs.Words.{words_of}
use Rattle.notation.proofs.Gathering.{gathered-all, gathered-count, gathered-held, gathered-more, gathered-other}
use Rattle.notation.proofs.records.entries_from.Goals.{then-n-lt-MAX_RECORDS, else-n-lt-MAX_RECORDS}
use Rattle.notation.proofs.records.entries_from.Goals as goal

pub returns-in_err-record : goal.returns-in_err-record
returns-in_err-record c =
    let at = c.loop-at in
    let words = words_of (drop c.args.from c.args.text.now) in
    rw c.from_residual.ensures
    (sym
    (ap (λ (t : Bool). told_if t (record { n = length (records_of words); records = filled (take 31 (records_of words)) 31 blank }))
    (gathered-other c.args.text.now words at.records at.n at.at at.invariant c.in_err-record.ensures c.loop-at-test.true)))

pub loop-at-preserved : goal.loop-at-preserved
loop-at-preserved c =
    let at = c.loop-at in
    gathered-more c.args.text.now (words_of (drop c.args.from c.args.text.now)) at.records at.n at.at at.invariant
    (c.in_ok-record.«record», c.in_ok-record.end) c.in_ok-record.ensures c.loop-at-test.true c.skipped-at-in-loop-at.result c.if-n-lt-MAX_RECORDS.records
    c.skipped-at-in-loop-at.ensures
    (elim c.if-n-lt-MAX_RECORDS.branch [
      | then-n-lt-MAX_RECORDS w ↦ inl (w.if-n-lt-MAX_RECORDS.true, w.records-is)
      | else-n-lt-MAX_RECORDS w ↦ inr (w.if-n-lt-MAX_RECORDS.false, w.records-is)
    ])

pub returns : goal.returns
returns c =
    let at = c.loop-at in
    let text = c.args.text.now in
    let words = words_of (drop c.args.from text) in
    let n = gathered-count text words at.records at.n at.at at.invariant c.loop-at-test.false in
    let held = gathered-held text words at.records at.n at.at at.invariant c.loop-at-test.false in
    (λ i. Some (record { n = n i; records = held i }))
    ∙ sym
    (ap (λ (t : Bool). told_if t (record { n = length (records_of words); records = filled (take 31 (records_of words)) 31 blank }))
    (gathered-all text words at.records at.n at.at at.invariant c.loop-at-test.false))
