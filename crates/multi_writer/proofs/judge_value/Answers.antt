-- Each return is a check of `value_verdict`, behind those that let through.
use Rattle.std.proofs.Common.{◌≡◌, ℕ, ◌+◌, ◌<◌, ◌≤◌, [], length, get_or, drop, sym, ap, ◌∙◌, ⊎_elim, arith, rules, drop_of_length-le}
use borrow.Author.Tests.{eqb-false}
use Rattle.refusal.specs.Verdict.{Accepted}
use Rattle.refusal.specs.Checks.{and_then}
use Rattle.refusal.proofs.Checks.{refused-first, accepted-first}
use Rattle.multi.specs.Lent.{Told, held}
use Rattle.multi.specs.Writing.{head_verdict, heads_verdict}
use Rattle.multi.specs.Inside.{heads_words, CountsUser}
use Rattle.multi.proofs.Whole.{length-user, length-multi}
use Rattle.multi.proofs.Writable.{user-count, laid, heads-from, value-priority, value_none, value-heads, value-many, value-no-room, value-fits}
use Rattle.multi.proofs.Laid.{heads-words}
use Rattle.multi_writer.proofs.judge_value.Goals.{Start, Else-is_empty, In-loop-i, After-user_words-user}
use Rattle.multi_writer.proofs.judge_value.Goals as goal

-- what is told
abbrev told : Start → Told
told c = record { priority = c.args.priority; heads = c.args.heads.now; words = c.args.words.now }

pub returns-then-priority-gt255 : goal.returns-then-priority-gt255
returns-then-priority-gt255 c = sym (value-priority (told (goal.at.returns-then-priority-gt255 c).Start) c.args.room c.if-priority-gt255.true)

pub returns-then-is_empty : goal.returns-then-is_empty
returns-then-is_empty c = sym (value_none (told (goal.at.returns-then-is_empty c).Start) c.args.room c.if-priority-gt255.false (search rules))

not-empty : (c : Else-is_empty) → length c.args.heads.now ≡ 0 → ⊥
not-empty c e = eqb-false (length c.args.heads.now) 0 (sym c.is_empty.ensures ∙ c.if-is_empty.false) e

-- a turn of the loop: the head at i decides first
decided : (c : In-loop-i)
    → let words = c.args.words.now in
    let heads = c.args.heads.now in
    heads_verdict words heads ≡ and_then (head_verdict words (get_or heads c.loop-i.i [])) (heads_verdict words (drop (c.loop-i.i + 1) heads))
decided c = c.loop-i.invariant ∙ heads-from c.args.words.now c.args.heads.now c.loop-i.i c.loop-i-test.true

pub returns-in_err-judge_head : goal.returns-in_err-judge_head
returns-in_err-judge_head c =
    let here = decided (goal.at.returns-in_err-judge_head c).In-loop-i in
    let same : c.from_residual.result ≡ c.judge_head.result = search rules in
    let err = same ∙ c.in_err-judge_head.was in
    refused-first _ (refused-first _ (same ∙ c.judge_head.ensures) err ∙ sym here) err
    ∙ sym (value-heads (told (goal.at.returns-in_err-judge_head c).Start) c.args.room c.if-priority-gt255.false (not-empty (goal.at.returns-in_err-judge_head c).Else-is_empty))

pub loop-i-preserved : goal.loop-i-preserved
loop-i-preserved c =
    decided (goal.at.loop-i-preserved c).In-loop-i ∙ accepted-first _ c.judge_head.ensures c.in_ok-judge_head.was

-- all heads are accepted, and the words counted
module _ (t : Told) (room : ℕ) (accepted : heads_verdict t.words t.heads ≡ Accepted) (n : ℕ) (count : CountsUser t.heads n) where
  counted : user-count t room ≡ 1 + heads_words t.heads
  counted = length-user (held t) ∙ ap (λ (k : ℕ). 1 + k) (heads-words t.words t.heads accepted)

  sized : laid t room ≡ 7 + (1 + heads_words t.heads)
  sized = length-multi (held t) ∙ ap (λ (k : ℕ). 7 + (1 + k)) (heads-words t.words t.heads accepted)

  -- where the count is not above 255, it is that
  exact : n ≤ 255 → n ≡ 1 + heads_words t.heads
  exact h = ⊎_elim (λ e. e) (λ w. let f : ⊥ = omega (arith, h, w.0) in absurd f) count

  above : 255 < n → 255 < user-count t room
  above h = ⊎_elim (λ e. omega (arith, h, e, counted)) (λ w. omega (arith, w.1, counted)) count

whole : (c : After-user_words-user) → heads_verdict c.args.words.now c.args.heads.now ≡ Accepted
whole c = c.loop-i.invariant ∙ ap (heads_verdict c.args.words.now) (drop_of_length-le c.args.heads.now c.loop-i-test.false)

pub returns-then-user-gt-MAX_USER_WORDS : goal.returns-then-user-gt-MAX_USER_WORDS
returns-then-user-gt-MAX_USER_WORDS c =
    let t = told (goal.at.returns-then-user-gt-MAX_USER_WORDS c).Start in
    let accepted = whole (goal.at.returns-then-user-gt-MAX_USER_WORDS c).After-user_words-user in
    sym
    (value-many t c.args.room c.if-priority-gt255.false (not-empty (goal.at.returns-then-user-gt-MAX_USER_WORDS c).Else-is_empty) accepted
    (above t c.args.room accepted c.user_words-user.result c.user_words-user.ensures c.if-user-gt-MAX_USER_WORDS.true))

pub returns-then-room-user : goal.returns-then-room-user
returns-then-room-user c =
    let t = told (goal.at.returns-then-room-user c).Start in
    let accepted = whole (goal.at.returns-then-room-user c).After-user_words-user in
    let few = c.if-user-gt-MAX_USER_WORDS.false in
    let n = exact t c.args.room accepted c.user_words-user.result c.user_words-user.ensures few in
    let count = counted t c.args.room accepted c.user_words-user.result c.user_words-user.ensures in
    let size = sized t c.args.room accepted c.user_words-user.result c.user_words-user.ensures in
    sym
    (value-no-room t c.args.room c.if-priority-gt255.false (not-empty (goal.at.returns-then-room-user c).Else-is_empty) accepted (omega (arith, count, n, few))
    (omega (arith, size, n, c.if-room-user.true)))

pub returns : goal.returns
returns c =
    let t = told (goal.at.returns c).Start in
    let accepted = whole (goal.at.returns c).After-user_words-user in
    let few = c.if-user-gt-MAX_USER_WORDS.false in
    let n = exact t c.args.room accepted c.user_words-user.result c.user_words-user.ensures few in
    let count = counted t c.args.room accepted c.user_words-user.result c.user_words-user.ensures in
    let size = sized t c.args.room accepted c.user_words-user.result c.user_words-user.ensures in
    sym
    (value-fits t c.args.room c.if-priority-gt255.false (not-empty (goal.at.returns c).Else-is_empty) accepted (omega (arith, count, n, few))
    (omega (arith, size, n, c.if-room-user.false)))
