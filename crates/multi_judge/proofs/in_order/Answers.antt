-- `multi_judge::in_order` meets its contract: the four parts of `multi_verdict`, one behind the other.
use Rattle.std.proofs.Common.{rules}
use Prim.Native.Nat.{ℕ, ◌-◌}
use native.Mathlib.Omega.{arith}
use mathlib.Core.Path.{◌≡◌, ◌∙◌, ap, sym}
use mathlib.Core.List.{List}
use borrow.Author.Tests.{eq-eqb, ne_eqb}
use lib.ListN.{length}
use Rattle.lists.proofs.Part.{length_part}
use Rattle.refusal.specs.Verdict.{Verdict}
use Rattle.refusal.specs.Verdict.{Accepted}
use Rattle.refusal.specs.Checks.{and_then}
use Rattle.refusal.proofs.Checks.{refused-first, accepted-first, and_then-accepted, and_then-assoc}
use Rattle.multi.specs.Order.{inners_in}
use Rattle.multi.specs.Reading.{inners_verdict, multi_verdict}
use Rattle.multi.specs.Inside.{outer_form, outer_header}
use Rattle.multi.proofs.Whole.{sum_check, outer-halves, multi-parts, Outer, accepted-outer, form-short}
use Rattle.multi_judge.proofs.in_order.Goals.{After-judge_header, In_ok-judge_header}
use Rattle.multi_judge.proofs.in_order.Goals as goal

-- all parts
split : (s : List ℕ) → multi_verdict s ≡ and_then (outer_form s) (and_then (outer_header s) (and_then (inners_verdict 7 (inners_in s)) (sum_check s)))
split s =
    multi-parts s
    ∙ ap (λ (v : Verdict). and_then v (and_then (inners_verdict 7 (inners_in s)) (sum_check s))) (outer-halves s)
    ∙ and_then-assoc (outer_form s) (outer_header s) (and_then (inners_verdict 7 (inners_in s)) (sum_check s))

pub returns-in_err-judge_form : goal.returns-in_err-judge_form
returns-in_err-judge_form c = (let same : c.from_residual.result ≡ c.judge_form.result = search rules in refused-first _ (same ∙ c.judge_form.ensures) (same ∙ c.in_err-judge_form.was)) ∙ sym (split c.args.words.now)

pub judge_header-requires : goal.judge_header-requires
judge_header-requires c = form-short c.args.words.now (sym c.judge_form.ensures ∙ c.in_ok-judge_form.was)

-- the form is accepted, and the header is judged
module _ (c : After-judge_header) where
  abbrev s : List ℕ
  s = c.args.words.now

  abbrev formed : outer_form s ≡ Accepted
  formed = sym c.judge_form.ensures ∙ c.in_ok-judge_form.was

  headed : multi_verdict s ≡ and_then (outer_header s) (and_then (inners_verdict 7 (inners_in s)) (sum_check s))
  headed = split s ∙ accepted-first _ c.judge_form.ensures c.in_ok-judge_form.was

pub returns-in_err-judge_header : goal.returns-in_err-judge_header
returns-in_err-judge_header c =
    (let same : c.from_residual-in_err-judge_header.result ≡ c.judge_header.result = search rules in refused-first _ (same ∙ c.judge_header.ensures) (same ∙ c.in_err-judge_header.was)) ∙ sym (headed (goal.at.returns-in_err-judge_header c).After-judge_header)

-- both are accepted
module _ (c : In_ok-judge_header) where
  abbrev words : List ℕ
  words = c.args.words.now

  abbrev first : outer_form words ≡ Accepted
  first = sym c.judge_form.ensures ∙ c.in_ok-judge_form.was

  abbrev second : outer_header words ≡ Accepted
  second = sym c.judge_header.ensures ∙ c.in_ok-judge_header.was

  outer : Outer words
  outer = accepted-outer words (outer-halves words ∙ and_then-accepted (outer_form words) (outer_header words) first second)

  left : multi_verdict words ≡ and_then (inners_verdict 7 (inners_in words)) (sum_check words)
  left =
      split words ∙ accepted-first _ c.judge_form.ensures c.in_ok-judge_form.was ∙ accepted-first _ c.judge_header.ensures c.in_ok-judge_header.was

pub judge_inners-requires : goal.judge_inners-requires
judge_inners-requires c =
    let all = outer (goal.at.judge_inners-requires c).In_ok-judge_header in
    let s = c.args.words.now in
    omega (arith, length_part s 7 (length s - 1) (omega (arith, all.short)), all.long)

pub returns-in_err-judge_inners : goal.returns-in_err-judge_inners
returns-in_err-judge_inners c =
    (let same : c.from_residual-in_err-judge_inners.result ≡ c.judge_inners.result = search rules in refused-first _ (same ∙ c.judge_inners.ensures) (same ∙ c.in_err-judge_inners.was)) ∙ sym (left (goal.at.returns-in_err-judge_inners c).In_ok-judge_header)

-- and so are the inner packets: CS decides
pub returns-then-words-n : goal.returns-then-words-n
returns-then-words-n c =
    sym
    (left (goal.at.returns-then-words-n c).In_ok-judge_header
    ∙ accepted-first _ c.judge_inners.ensures c.in_ok-judge_inners.was
    ∙ simp (ne_eqb _ _ (λ e. c.if-words-n.true (e ∙ sym c.checksum.ensures))))

pub returns : goal.returns
returns c =
    sym
    (left (goal.at.returns c).In_ok-judge_header
    ∙ accepted-first _ c.judge_inners.ensures c.in_ok-judge_inners.was
    ∙ simp (eq-eqb _ _ (c.if-words-n.false ∙ c.checksum.ensures)))

-- there are eight words and more
pub overflow_sub-n : goal.overflow_sub-n
overflow_sub-n c = omega (arith, (outer (goal.at.overflow_sub-n c).In_ok-judge_header).short)

pub slice_bounds-judge_inners-count : goal.slice_bounds-judge_inners-count
slice_bounds-judge_inners-count c = omega (arith, (outer (goal.at.slice_bounds-judge_inners-count c).In_ok-judge_header).short)

pub slice_bounds-judge_inners-start : goal.slice_bounds-judge_inners-start
slice_bounds-judge_inners-start c = omega (arith, (outer (goal.at.slice_bounds-judge_inners-start c).In_ok-judge_header).short)

pub slice_bounds-judge_inners-end : goal.slice_bounds-judge_inners-end
slice_bounds-judge_inners-end c = omega (arith, (outer (goal.at.slice_bounds-judge_inners-end c).In_ok-judge_header).short)

pub overflow_sub-n-2 : goal.overflow_sub-n-2
overflow_sub-n-2 c = omega (arith, (outer (goal.at.overflow_sub-n-2 c).In_ok-judge_header).short)

pub offset_bounds-words-n : goal.offset_bounds-words-n
offset_bounds-words-n c = omega (arith, (outer (goal.at.offset_bounds-words-n c).In_ok-judge_header).short)

pub bounds-words-n : goal.bounds-words-n
bounds-words-n c = omega (arith, (outer (goal.at.bounds-words-n c).In_ok-judge_header).short)

pub overflow_sub-n-3 : goal.overflow_sub-n-3
overflow_sub-n-3 c = omega (arith, (outer (goal.at.overflow_sub-n-3 c).In_ok-judge_header).short)

pub slice_bounds-checksum-count : goal.slice_bounds-checksum-count
slice_bounds-checksum-count c = omega (arith, (outer (goal.at.slice_bounds-checksum-count c).In_ok-judge_header).short)

pub slice_bounds-checksum-start : goal.slice_bounds-checksum-start
slice_bounds-checksum-start c = omega (arith, (outer (goal.at.slice_bounds-checksum-start c).In_ok-judge_header).short)

pub slice_bounds-checksum-end : goal.slice_bounds-checksum-end
slice_bounds-checksum-end c = omega (arith, (outer (goal.at.slice_bounds-checksum-end c).In_ok-judge_header).short)

pub overflow_sub-result : goal.overflow_sub-result
overflow_sub-result c = omega (arith, (outer (goal.at.overflow_sub-result c).In_ok-judge_header).short)
