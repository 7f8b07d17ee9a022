-- Of what is refused nothing is handed out, and of what is accepted the part that `hand` finds.
use native.Mathlib.Omega.{arith}
use mathlib.Core.Path.{◌≡◌, ◌∙◌, ap, sym, refl}
use Prim.Native.Nat.{ℕ}
use mathlib.Core.Bool.{true}
use mathlib.Core.List.{List, []}
use Rattle.std.specs.Result.{is_err}
use Rattle.std.proofs.Common.{rules}
use Rattle.std.proofs.lemmas.Bool.{false≢true}
use Rattle.refusal.specs.Verdict.{Verdict}
use Rattle.refusal.specs.Verdict.{Accepted, Refused}
use Rattle.multi.specs.Reading.{multi_verdict}
use Rattle.multi.specs.Lent.{handed_of}
use Rattle.multi.proofs.Whole.{Passed, passed}
use Rattle.multi_reader.proofs.inner.Goals.{Else-is_err}
use Rattle.multi_reader.proofs.inner.Goals as goal

nothing : (v : Verdict) (i : ℕ) (s : List ℕ) → is_err v ≡ true → [] ≡ handed_of v i s
nothing Accepted i s e = absurd (false≢true e)
nothing (Refused reason item) i s e = refl

pub returns-then-is_err : goal.returns-then-is_err
returns-then-is_err c =
    let args = c.args in
    nothing c.judge.result args.i args.words.now (search rules) ∙ ap (λ (v : Verdict). handed_of v args.i args.words.now) c.judge.ensures

accepted : (c : Else-is_err) → multi_verdict c.args.words.now ≡ Accepted
accepted c = sym c.judge.ensures ∙ search rules

parts : (c : Else-is_err) → Passed c.args.words.now
parts c = passed c.args.words.now (accepted c)

pub overflow_sub-words : goal.overflow_sub-words
overflow_sub-words c = omega (arith, (parts (goal.at.overflow_sub-words c).Else-is_err).outer.short)

pub slice_bounds-hand-count : goal.slice_bounds-hand-count
slice_bounds-hand-count c = omega (arith, (parts (goal.at.slice_bounds-hand-count c).Else-is_err).outer.short)

pub slice_bounds-hand-start : goal.slice_bounds-hand-start
slice_bounds-hand-start c = omega (arith, (parts (goal.at.slice_bounds-hand-start c).Else-is_err).outer.short)

pub hand-requires : goal.hand-requires
hand-requires c = (7, (parts (goal.at.hand-requires c).Else-is_err).own)

pub returns : goal.returns
returns c =
    let args = c.args in
    c.hand.ensures ∙ ap (λ (v : Verdict). handed_of v args.i args.words.now) (sym (accepted (goal.at.returns c).Else-is_err))
