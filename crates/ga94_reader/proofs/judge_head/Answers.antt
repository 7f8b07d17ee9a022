-- `ga94_reader::judge_head` meets its contract: at each return the tests that led there pick that check of `head_verdict`.
use Prim.Native.Nat.{ℕ, ◌≤◌}
use mathlib.Core.Path.{◌≡◌, ◌∙◌, sym}
use mathlib.Core.Bool.{true}
use mathlib.Core.List.{List}
use lib.ListN.{length}
use Rattle.ga94.specs.Reading.{identifier_in}
use Rattle.ga94.proofs.Heads.{head-long, head-empty, head-other, head-untyped, head-other-type, head-unflagged, head-additional, head-ends, head-accepted}
use Rattle.ga94_reader.proofs.judge_head.Goals as goal

pub returns-then-body-gt-MAX_BYTES : goal.returns-then-body-gt-MAX_BYTES
returns-then-body-gt-MAX_BYTES c = sym (head-long c.args.body.now c.if-body-gt-MAX_BYTES.true)

pub returns-then-body-lt4 : goal.returns-then-body-lt4
returns-then-body-lt4 c = sym (head-empty c.args.body.now c.if-body-gt-MAX_BYTES.false c.if-body-lt4.true)

pub returns-then-not-has_identifier : goal.returns-then-not-has_identifier
returns-then-not-has_identifier c =
    let body_of : List ℕ = c.args.body.now in
    let short : length body_of ≤ 16384 = c.if-body-gt-MAX_BYTES.false in
    let four : 4 ≤ length body_of = c.if-body-lt4.false in
    sym (head-other body_of short four (sym c.has_identifier.ensures ∙ c.if-not-has_identifier.true))

pub returns-then-body-lt5 : goal.returns-then-body-lt5
returns-then-body-lt5 c =
    let body_of : List ℕ = c.args.body.now in
    let short : length body_of ≤ 16384 = c.if-body-gt-MAX_BYTES.false in
    let four : 4 ≤ length body_of = c.if-body-lt4.false in
    let is-there : identifier_in body_of ≡ true = sym c.has_identifier.ensures ∙ c.if-not-has_identifier.false in
    sym (head-untyped body_of short four is-there c.if-body-lt5.true)

pub returns-then-body-ne3 : goal.returns-then-body-ne3
returns-then-body-ne3 c =
    let body_of : List ℕ = c.args.body.now in
    let short : length body_of ≤ 16384 = c.if-body-gt-MAX_BYTES.false in
    let four : 4 ≤ length body_of = c.if-body-lt4.false in
    let is-there : identifier_in body_of ≡ true = sym c.has_identifier.ensures ∙ c.if-not-has_identifier.false in
    sym (head-other-type body_of short four is-there c.if-body-lt5.false c.if-body-ne3.true)

pub returns-then-body-lt6 : goal.returns-then-body-lt6
returns-then-body-lt6 c =
    let body_of : List ℕ = c.args.body.now in
    let short : length body_of ≤ 16384 = c.if-body-gt-MAX_BYTES.false in
    let four : 4 ≤ length body_of = c.if-body-lt4.false in
    let is-there : identifier_in body_of ≡ true = sym c.has_identifier.ensures ∙ c.if-not-has_identifier.false in
    sym (head-unflagged body_of short four is-there c.if-body-lt5.false c.if-body-ne3.false c.if-body-lt6.true)

pub returns-then-body-ne0 : goal.returns-then-body-ne0
returns-then-body-ne0 c =
    let body_of : List ℕ = c.args.body.now in
    let short : length body_of ≤ 16384 = c.if-body-gt-MAX_BYTES.false in
    let four : 4 ≤ length body_of = c.if-body-lt4.false in
    let is-there : identifier_in body_of ≡ true = sym c.has_identifier.ensures ∙ c.if-not-has_identifier.false in
    sym
    (head-additional body_of short four is-there c.if-body-lt5.false c.if-body-ne3.false c.if-body-lt6.false c.if-body-ne0.true)

pub returns-then-body-lt7 : goal.returns-then-body-lt7
returns-then-body-lt7 c =
    let body_of : List ℕ = c.args.body.now in
    let short : length body_of ≤ 16384 = c.if-body-gt-MAX_BYTES.false in
    let four : 4 ≤ length body_of = c.if-body-lt4.false in
    let is-there : identifier_in body_of ≡ true = sym c.has_identifier.ensures ∙ c.if-not-has_identifier.false in
    sym
    (head-ends body_of short four is-there c.if-body-lt5.false c.if-body-ne3.false c.if-body-lt6.false c.if-body-ne0.false c.if-body-lt7.true)

pub returns : goal.returns
returns c =
    let body_of : List ℕ = c.args.body.now in
    let short : length body_of ≤ 16384 = c.if-body-gt-MAX_BYTES.false in
    let four : 4 ≤ length body_of = c.if-body-lt4.false in
    let is-there : identifier_in body_of ≡ true = sym c.has_identifier.ensures ∙ c.if-not-has_identifier.false in
    sym
    (head-accepted body_of short four is-there c.if-body-lt5.false c.if-body-ne3.false c.if-body-lt6.false c.if-body-ne0.false c.if-body-lt7.false)
