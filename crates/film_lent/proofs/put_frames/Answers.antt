-- `film_lent::put_frames` meets its contract: the four ways to show a picture, each with and without a slot that waits.
use mathlib.Core.Path.{◌∙◌, ap, sym}
use mathlib.Core.Bool.{true}
use Prim.Native.Nat.{ℕ}
use mathlib.Core.List.{List, ◌∷◌}
use lib.ListN.{get_or}
use Rattle.film.specs.declared.Half.{Half}
use Rattle.film_lent.specs.Lent.{half_bytes}
use Rattle.film_lent.specs.Inside.{half_in}
use Rattle.film_lent.proofs.Halves.{leaves-odd-three, leaves-as}
use Rattle.film_lent.proofs.put_frames.Goals as goal

pub returns-in-true-true : goal.returns-in-true-true
returns-in-true-true h s a b c is one two three =
    leaves-as s a b c _ _ _ true true _ _ h.in-true-true.is-0 h.in-true-true.is-1
    (leaves-odd-three s a b c _ _ _ (h.put_odd_first.ensures s a b (ap (λ (l : List ℕ). get_or l 0 0) (sym is)) (ap half_in (sym is)) one two)
    (h.waiting_bytes.ensures ∙ ap (λ (x : Half). 1 ∷ half_bytes x) three))
