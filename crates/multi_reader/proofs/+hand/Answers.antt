-- The first inner packet is the words up to its size, and the others are those of what is behind it.
use Prim.Native.Nat.{ℕ, suc, ◌+◌, ◌-◌}
use native.Mathlib.Nat.{pos_of_ne-zero}
use native.Mathlib.Omega.{arith}
use mathlib.Core.Path.{◌≡◌, ◌∙◌, ap, ap₂, sym}
use mathlib.Core.List.{List, []}
use lib.ListN.{length, get_or, take}
use Rattle.lists.proofs.Lay.{rest-whole, length_rest}
use Rattle.multi.specs.Order.{size_in}
use Rattle.multi.specs.Reading.{inners_verdict, cut}
use Rattle.multi.proofs.Inners.{cut-none, cut-next, next_inner}
use Rattle.multi_reader.proofs.+hand.Goals as goal

pub returns-then-n-eq0 : goal.returns-then-n-eq0
returns-then-n-eq0 t c = sym (ap (λ (ps : List (List ℕ)). get_or ps c.args.i []) (cut-none c.args.rest.now c.if-n-eq0.true))

pub returns-then-i-eq0 : goal.returns-then-i-eq0
returns-then-i-eq0 t c =
    let u = c.args.rest.now in
    let same : size_in u - 0 ≡ size_in u = omega arith in
    ap (λ (k : ℕ). take k u) same
    ∙ sym (ap₂ (λ (ps : List (List ℕ)) (j : ℕ). get_or ps j []) (cut-next u (pos_of_ne-zero c.if-n-eq0.false)) c.if-i-eq0.true)

pub bounds-rest-3 : goal.bounds-rest-3
bounds-rest-3 t c = omega (arith, (next_inner c.requires.0 c.args.rest.now c.if-n-eq0.false c.requires.1).header)

pub slice_bounds-result-end-then-i-eq0 : goal.slice_bounds-result-end-then-i-eq0
slice_bounds-result-end-then-i-eq0 t c = omega (arith, (next_inner c.requires.0 c.args.rest.now c.if-n-eq0.false c.requires.1).long)

pub slice_bounds-hand-count : goal.slice_bounds-hand-count
slice_bounds-hand-count t c = omega (arith, (next_inner c.requires.0 c.args.rest.now c.if-n-eq0.false c.requires.1).long)

pub slice_bounds-hand-start : goal.slice_bounds-hand-start
slice_bounds-hand-start t c = omega (arith, (next_inner c.requires.0 c.args.rest.now c.if-n-eq0.false c.requires.1).long)

pub hand-requires : goal.hand-requires
hand-requires t c =
    let u = c.args.rest.now in
    let at = c.requires.0 in
    let next = next_inner at u c.if-n-eq0.false c.requires.1 in (
      omega (arith, c.decreases, next.header, next.long, length_rest u (size_in u)),
      (at + size_in u, ap (inners_verdict (at + size_in u)) (rest-whole u (size_in u)) ∙ next.rest),
    )

pub returns : goal.returns
returns t c =
    let i = c.args.i in
    let u = c.args.rest.now in
    let index : suc (i - 1) ≡ i = omega (arith, pos_of_ne-zero c.if-i-eq0.false) in
    c.hand.ensures
    ∙ ap (λ (ws : List ℕ). get_or (cut (length ws) ws) (i - 1) []) (rest-whole u (size_in u))
    ∙ sym (ap₂ (λ (ps : List (List ℕ)) (j : ℕ). get_or ps j []) (cut-next u (pos_of_ne-zero c.if-n-eq0.false)) (sym index))
