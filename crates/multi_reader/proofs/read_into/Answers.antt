-- The array is cleared, and the heads are laid over its front.
use Prim.Native.Nat.{ℕ, ◌-◌, ◌≤◌}
use native.Mathlib.Omega.{arith}
use mathlib.Core.Path.{◌≡◌, ◌∙◌, sym, refl}
use mathlib.Core.List.{List}
use lib.ListN.{length}
use Rattle.std.proofs.Common.{rules}
use Rattle.lists.proofs.Lay.{over-blank}
use Rattle.lists.proofs.Part.{length_part}
use Rattle.refusal.specs.Verdict.{Accepted}
use Rattle.multi.specs.Reading.{multi_verdict, value_of}
use Rattle.multi.specs.Order.{inners_in}
use Rattle.multi.specs.Lent.{heads_of, no_head}
use Rattle.multi.proofs.Whole.{Passed, passed}
use Rattle.multi.proofs.Inners.{inners-few}
use Rattle.multi.proofs.Lending.{length-heads}
use Rattle.multi.proofs.Answers.{refused-into, accepted-into}
use Rattle.multi_reader.proofs.read_into.Goals.{Else-is_err}
use Rattle.multi_reader.proofs.read_into.Goals as goal

pub returns-then-is_err : goal.returns-then-is_err
returns-then-is_err c =
    let args = c.args in
    refused-into args.words.now args.heads.now c.judge-verdict.result c.judge-verdict.ensures c.from-refusal.result c.from-refusal.ensures (search rules)

-- all checks accept
module _ (c : Else-is_err) where
  abbrev s : List ℕ
  s = c.args.words.now

  accepted : multi_verdict s ≡ Accepted
  accepted = sym c.judge-verdict.ensures ∙ search rules

  parts : Passed s
  parts = passed s accepted

  count : length (inners_in s) ≡ length s - 1 - 7
  count = length_part s 7 (length s - 1) (omega arith)

  few : length (value_of s).inners ≤ 50
  few = inners-few 7 (inners_in s) parts.own (omega (arith, count, parts.outer.long))

pub put_heads-n-requires : goal.put_heads-n-requires
put_heads-n-requires c =
    let past = (goal.at.put_heads-n-requires c).Else-is_err in
    let all = parts past in
    record {
      words_len_bound = (all.outer.long, omega (arith, all.outer.short, all.outer.some));
      words_value = all.own;
      heads_len = (refl, omega (arith, few past));
    }

pub bounds-words-6 : goal.bounds-words-6
bounds-words-6 c = omega (arith, (parts (goal.at.bounds-words-6 c).Else-is_err).outer.short)

pub returns : goal.returns
returns c =
    let past = (goal.at.returns c).Else-is_err in
    let args = c.args in
    let s = args.words.now in
    let heads = heads_of 7 (value_of s).inners in
    let fits : length heads ≤ 50 = omega (arith, few past, length-heads 7 (value_of s).inners) in
    let n : c.put_heads-n.result ≡ length (value_of s).inners = omega (arith, c.put_heads-n.ensures.value) in
    accepted-into s args.heads.now c.judge-verdict.result c.judge-verdict.ensures c.from-refusal.result c.from-refusal.ensures c.put_heads-n.result _ (c.judge-verdict.ensures ∙ accepted past) n
    (c.put_heads-n.ensures.heads_after ∙ over-blank heads 50 no_head fits)
