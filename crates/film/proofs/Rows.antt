-- The rule over a row of events: cut in two it sends the same, and every slot of the row goes out once or waits.
-- Assumes nothing.
use mathlib.Core.Path.{◌≡◌, ◌∙◌, ap, refl}
use mathlib.Core.List.{List, [], ◌∷◌, ◌++◌, map}
use Rattle.line21.specs.declared.AccessUnit.{AccessUnit}
use Rattle.film.specs.State.{State}
use Rattle.film.specs.State.{Nothing, Waiting}
use Rattle.film.specs.Display.{Event, odd, even, closing}
use Rattle.film.specs.Frames.{Frame, both, odd_alone, even_alone, frames_of, waiting_of, pending, unit_of, units_of, slots_sent, slots_of}

-- what waits at the cut goes before what comes after it
pub frames-cut : (row more : List Event) → frames_of (row ++ more) ≡ frames_of row ++ frames_of (pending (waiting_of row) ++ more)
frames-cut [] more = refl
frames-cut (odd a ∷ []) more = refl
frames-cut (odd a ∷ even b ∷ rest) more = ap (λ (fs : List Frame). both a b ∷ fs) (frames-cut rest more)
frames-cut (odd a ∷ odd b ∷ rest) more = ap (λ (fs : List Frame). odd_alone a ∷ fs) (frames-cut (odd b ∷ rest) more)
frames-cut (odd a ∷ closing ∷ rest) more = ap (λ (fs : List Frame). odd_alone a ∷ fs) (frames-cut rest more)
frames-cut (even b ∷ rest) more = ap (λ (fs : List Frame). even_alone b ∷ fs) (frames-cut rest more)
frames-cut (closing ∷ rest) more = frames-cut rest more

pub waiting-cut : (row more : List Event) → waiting_of (row ++ more) ≡ waiting_of (pending (waiting_of row) ++ more)
waiting-cut [] more = refl
waiting-cut (odd a ∷ []) more = refl
waiting-cut (odd a ∷ even b ∷ rest) more = waiting-cut rest more
waiting-cut (odd a ∷ odd b ∷ rest) more = waiting-cut (odd b ∷ rest) more
waiting-cut (odd a ∷ closing ∷ rest) more = waiting-cut rest more
waiting-cut (even b ∷ rest) more = waiting-cut rest more
waiting-cut (closing ∷ rest) more = waiting-cut rest more

map-append : (f : Frame → AccessUnit) (xs ys : List Frame) → map f (xs ++ ys) ≡ map f xs ++ map f ys
map-append f [] ys = refl
map-append f (x ∷ xs) ys = ap (λ (us : List AccessUnit). f x ∷ us) (map-append f xs ys)

pub units-cut : (row more : List Event) → units_of (row ++ more) ≡ units_of row ++ units_of (pending (waiting_of row) ++ more)
units-cut row more =
    ap (map unit_of) (frames-cut row more) ∙ map-append unit_of (frames_of row) (frames_of (pending (waiting_of row) ++ more))

-- nothing comes, and nothing goes
pub units-none : (s : State) → units_of (pending s ++ []) ≡ []
units-none Nothing = refl
units-none (Waiting a) = refl

pub waiting_none : (s : State) → waiting_of (pending s ++ []) ≡ s
waiting_none Nothing = refl
waiting_none (Waiting a) = refl

-- each slot goes out once, in order and on its side, or waits
pub slots_kept : (row : List Event) → slots_sent (frames_of row) ++ pending (waiting_of row) ≡ slots_of row
slots_kept [] = refl
slots_kept (odd a ∷ []) = refl
slots_kept (odd a ∷ even b ∷ rest) = ap (λ (es : List Event). odd a ∷ even b ∷ es) (slots_kept rest)
slots_kept (odd a ∷ odd b ∷ rest) = ap (λ (es : List Event). odd a ∷ es) (slots_kept (odd b ∷ rest))
slots_kept (odd a ∷ closing ∷ rest) = ap (λ (es : List Event). odd a ∷ es) (slots_kept rest)
slots_kept (even b ∷ rest) = ap (λ (es : List Event). even b ∷ es) (slots_kept rest)
slots_kept (closing ∷ rest) = slots_kept rest

pub slots-append : (xs ys : List Event) → slots_of (xs ++ ys) ≡ slots_of xs ++ slots_of ys
slots-append [] ys = refl
slots-append (odd a ∷ xs) ys = ap (λ (es : List Event). odd a ∷ es) (slots-append xs ys)
slots-append (even b ∷ xs) ys = ap (λ (es : List Event). even b ∷ es) (slots-append xs ys)
slots-append (closing ∷ xs) ys = slots-append xs ys
