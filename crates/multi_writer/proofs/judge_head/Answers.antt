-- At each return the tests that led there pick that check of `head_verdict`.
use Rattle.std.proofs.Common.{◌≡◌, ℕ, Bool, List, map, get_or, sym, ap, ◌∙◌, rules}
use Rattle.refusal.specs.Verdict.{Verdict}
use Rattle.refusal.specs.Checks.{and_then}
use Rattle.refusal.proofs.Checks.{refused-first, accepted-first}
use Rattle.anc.specs.Words.{byte_of, words_verdict}
use Rattle.sdp.specs.User.{user_verdict}
use Rattle.multi.specs.Order.{subtitling_id, only_if, unplaced}
use Rattle.multi.specs.Lent.{user_of}
use Rattle.multi.specs.Writing.{head_verdict}
use Rattle.multi.proofs.Judged.{head-line, head-field, head-did, head-sdid, head-part, head-user}
use Rattle.multi_writer.proofs.judge_head.Goals.{After-unplaced, In_ok-unplaced}
use Rattle.multi_writer.proofs.judge_head.Goals as goal

pub returns-then-head-gt31 : goal.returns-then-head-gt31
returns-then-head-gt31 c = sym (head-line c.args.words.now c.args.head c.if-head-gt31.true)

pub returns-then-head-gt1 : goal.returns-then-head-gt1
returns-then-head-gt1 c = sym (head-field c.args.words.now c.args.head c.if-head-gt31.false c.if-head-gt1.true)

pub returns-then-head-gt255 : goal.returns-then-head-gt255
returns-then-head-gt255 c = sym (head-did c.args.words.now c.args.head c.if-head-gt31.false c.if-head-gt1.false c.if-head-gt255.true)

pub returns-then-head-gt255-2 : goal.returns-then-head-gt255-2
returns-then-head-gt255-2 c =
    sym (head-sdid c.args.words.now c.args.head c.if-head-gt31.false c.if-head-gt1.false c.if-head-gt255.false c.if-head-gt255-2.true)

pub returns-then-words-end : goal.returns-then-words-end
returns-then-words-end c =
    sym
    (head-part c.args.words.now c.args.head c.if-head-gt31.false c.if-head-gt1.false c.if-head-gt255.false c.if-head-gt255-2.false c.if-words-end.true)

-- what the rules of subtitles say of the user words
abbrev own : List ℕ → List ℕ → Verdict
own words h = only_if (subtitling_id (get_or h 2 0) (get_or h 3 0)) (user_verdict 0 (map byte_of (user_of words h)))

-- the numbers can be held, and the user words are among those that are lent
module _ (c : After-unplaced) where
  abbrev h : List ℕ
  h = c.args.head

  abbrev words : List ℕ
  words = c.args.words.now

  judged : c.unplaced.result ≡ unplaced (words_verdict 0 (user_of words h))
  judged = c.unplaced.ensures ∙ ap unplaced c.judge_part.ensures

  here : head_verdict words h ≡ and_then (unplaced (words_verdict 0 (user_of words h))) (unplaced (own words h))
  here = head-user words h c.if-head-gt31.false c.if-head-gt1.false c.if-head-gt255.false c.if-head-gt255-2.false c.if-words-end.false

pub returns-in_err-unplaced : goal.returns-in_err-unplaced
returns-in_err-unplaced c =
    let call = (goal.at.returns-in_err-unplaced c).After-unplaced in
    let same : c.from_residual.result ≡ c.unplaced.result = search rules in
    refused-first _ (same ∙ judged call) (same ∙ c.in_err-unplaced.was) ∙ sym (here call)

-- words of bytes: the rules of subtitles decide
pub returns-then-is_subtitling : goal.returns-then-is_subtitling
returns-then-is_subtitling c =
    let call = (goal.at.returns-then-is_subtitling c).After-unplaced in
    let w = c.args.words.now in
    let h = c.args.head in
    c.unplaced-then-is_subtitling.ensures
    ∙ ap unplaced
    (c.judge_user.ensures
    ∙ sym (ap (λ (t : Bool). only_if t (user_verdict 0 (map byte_of (user_of w h)))) (sym c.is_subtitling.ensures ∙ c.if-is_subtitling.true)))
    ∙ sym (here call ∙ accepted-first _ (judged call) c.in_ok-unplaced.was)

pub returns : goal.returns
returns c =
    let call = (goal.at.returns c).After-unplaced in
    let w = c.args.words.now in
    let h = c.args.head in
    sym
    (here call
    ∙ accepted-first _ (judged call) c.in_ok-unplaced.was
    ∙ ap (λ (t : Bool). unplaced (only_if t (user_verdict 0 (map byte_of (user_of w h))))) (sym c.is_subtitling.ensures ∙ c.if-is_subtitling.false))
