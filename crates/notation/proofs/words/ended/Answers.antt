-- `notation::words::ended` meets its contract.
use Prim.Native.Nat.{ℕ, ◌≤◌, ◌<◌}
use native.Mathlib.Omega.{arith}
use mathlib.Core.Bool.{true, false}
use mathlib.Core.List.{List}
use mathlib.Core.Path.{◌≡◌, ◌∙◌, sym}
use lib.ListN.{length, get_or}
use Rattle.notation.specs.Inside.{EndsWord}
use Rattle.notation.specs.Words.{is_space}
use Rattle.notation.proofs.Cutting.{words-passed}
use Rattle.notation.proofs.words.ended.Goals as goal

ends : (text : List ℕ) (at i : ℕ) → at ≤ i → i ≤ length text → ((k : ℕ) → at ≤ k → k < i → is_space (get_or text k 0) ≡ false)
    → (i < length text → is_space (get_or text i 0) ≡ true) → EndsWord text at i
ends text at i from inside word stops = record { from = from; inside = inside; passed = words-passed text at i from inside word stops; stops = stops }

pub returns-then-is_space : goal.returns-then-is_space
returns-then-is_space c =
    ends c.args.text.now c.args.at c.loop-i.i (omega arith) (omega arith) c.loop-i.invariant (λ h. sym c.is_space.ensures ∙ c.if-is_space.true)

pub returns : goal.returns
returns c =
    let text = c.args.text.now in
    ends text c.args.at (length text) (omega arith) (omega arith) (λ k from below. c.loop-i.invariant k from (omega arith))
    (λ h. let f : ⊥ = omega arith in absurd f)
