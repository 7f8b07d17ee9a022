-- What a frame is as an access unit.
-- Assumes nothing.
use mathlib.Core.Path.{◌≡◌, refl}
use Rattle.film.specs.Slot.{Slot}
use Rattle.film.specs.Frames.{Frame, both, odd_alone, even_alone, half_of, unit_of, field_one, field_two, blank}

pub frame-both : (a b : Slot) → (field_one (unit_of (both a b)) ≡ half_of a) × (field_two (unit_of (both a b)) ≡ half_of b)
frame-both a b = (refl, refl)

pub frame-odd : (a : Slot) → (field_one (unit_of (odd_alone a)) ≡ half_of a) × (field_two (unit_of (odd_alone a)) ≡ blank)
frame-odd a = (refl, refl)

pub frame-even : (b : Slot) → (field_one (unit_of (even_alone b)) ≡ blank) × (field_two (unit_of (even_alone b)) ≡ half_of b)
frame-even b = (refl, refl)

pub frame-padding : (f : Frame) → (unit_of f).padding ≡ 0
frame-padding (both a b) = refl
frame-padding (odd_alone a) = refl
frame-padding (even_alone b) = refl
