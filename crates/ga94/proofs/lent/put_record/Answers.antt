-- `ga94::lent::put_record` meets its contract: within the array the four stores, one behind the other, lay the record's bytes.
use Prim.Native.Nat.{ℕ, suc, ◌+◌, ◌*◌}
use native.Mathlib.Omega.{arith}
use mathlib.Core.Path.{◌≡◌, ◌∙◌, ap, ap₂, sym}
use mathlib.Core.Bool.{Bool}
use mathlib.Core.List.{List, [], ◌∷◌}
use borrow.Author.Tests.{lt-ltb, le-ltb}
use lib.ListN.{set}
use lib.Seq.{sets}
use Rattle.ga94.specs.Lent.{stored_if, stored_at}
use Rattle.ga94.proofs.lent.put_record.Goals as goal

four : (s : List ℕ) (at a b c d : ℕ) → sets s at (a ∷ b ∷ c ∷ d ∷ []) ≡ set (set (set (set s at a) (at + 1) b) (at + 2) c) (at + 3) d
four s at a b c d =
    let one : suc at ≡ at + 1 = omega arith in
    let two : suc (suc at) ≡ at + 2 = omega arith in
    let three : suc (suc (suc at)) ≡ at + 3 = omega arith in
    ap₂ (λ (i j : ℕ). set (set (set (set s at a) i b) j c) (suc (suc (suc at))) d) one two
    ∙ ap (λ (i : ℕ). set (set (set (set s at a) (at + 1) b) (at + 2) c) i d) three

pub returns-then-i-ge-MAX_RECORDS : goal.returns-then-i-ge-MAX_RECORDS
unfolding stored_at
returns-then-i-ge-MAX_RECORDS c = ap (λ (t : Bool). stored_if t c.args.i c.args.r c.args.records.now) (sym (le-ltb c.args.i 31 c.if-i-ge-MAX_RECORDS.true))

pub returns : goal.returns
unfolding stored_at
returns c =
    let args = c.args in
    let s = args.records.now in
    sym (four s (4 * args.i) _ _ _ _)
    ∙ ap (λ (t : Bool). stored_if t args.i args.r s) (sym (lt-ltb args.i 31 (omega (arith, c.if-i-ge-MAX_RECORDS.false))))
