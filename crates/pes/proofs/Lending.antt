-- Units as bytes in a lent array: what is laid is told again, and an array of bytes tells units as its type has them.
-- Assumes nothing.
use Prim.Native.Nat.{ℕ, ◌+◌, ◌-◌, ◌*◌, ◌/◌, ◌%◌, ◌≤◌, ◌<◌}
use native.Mathlib.Omega.{arith}
use mathlib.Core.Path.{◌≡◌, ◌∙◌, ap, ap₂, sym, subst, refl}
use mathlib.Core.Logic.{⊎_elim}
use mathlib.Core.Bool.{Bool, true, false}
use mathlib.Core.List.{List, [], ◌∷◌, ◌++◌, map}
use borrow.Author.Tests.{eq-eqb, ne_eqb, eqb-true, eqb-false}
use borrow.Rule.Slice.PartMut.{put_mid}
use lib.Dec.{eqb}
use lib.ListN.{length, get_or, take, drop, replicate, length-map, length-drop}
use lib.Seq.{length-take-le, take_at}
use Rattle.lists.specs.Each.{Each}
use Rattle.lists.specs.Bytes.{Bytes}
use Rattle.lists.specs.Part.{part}
use Rattle.lists.specs.Room.{filled, over, over_at}
use Rattle.lists.specs.Flat.{taken}
use Rattle.lists.proofs.Each.{each-of, each_take, each-drop, each_map, each_append, each-replicate}
use Rattle.lists.proofs.Fill.{length-filled}
use Rattle.lists.proofs.Lay.{take-over, drop-over, over-over}
use Rattle.lists.proofs.FlatOf.{length_taken, get_d-taken, length-flat, flat-taken, flat-whole, flat-filled, flat-over, taken-take, taken-flat, taken-each}
use Rattle.bits.specs.Bits.{reversed}
use Rattle.pes.specs.Value.{Teletext, DataUnit, DataField, teletext, stuffing, LegalUnit, Legal, Told, TypedUnit, Typed, blank, stored, held}
use Rattle.pes.specs.Layout.{layout_unit, layout_units, layout}
use Rattle.pes.specs.Reading.{unit_of, read_unit}
use Rattle.pes.specs.Lent.{unit_bytes, units_bytes, told_unit, unit_in, units_in, field_in}
use Rattle.pes.proofs.Unit.{Sized, length-layout}

-- a piece that fills a part of just its length, right behind what is laid at the front, is laid behind it
pub laid-behind : (front piece out xs part : List ℕ) (a n : ℕ) → xs ≡ over front out → length front ≡ a → length piece ≡ n → part ≡ piece
    → put_mid a n xs part ≡ over (front ++ piece) out
laid-behind front piece out xs part a n e before long same =
    ap₂ (λ (p : List ℕ) (k : ℕ). take a xs ++ (p ++ drop k (drop a xs))) same (sym long)
    ∙ ap (over_at a piece) e
    ∙ ap₂ (λ (f r : List ℕ). f ++ over piece r) (take-over front out a before) (drop-over front out a before)
    ∙ over-over front piece out

-- ONE UNIT

pub length-lent : (x : DataUnit) → Sized x → length (unit_bytes x) ≡ 45
length-lent (teletext t) h = omega arith
length-lent (stuffing bytes) h = omega arith

pub typed-sized : (x : DataUnit) → TypedUnit x → Sized x
typed-sized (teletext t) h = h.places
typed-sized (stuffing bytes) h = h.places

in-back : (x : DataUnit) (rest : List ℕ) → TypedUnit x → unit_in (unit_bytes x ++ rest) ≡ x
unfolding unit_in
in-back (teletext t) rest h =
    ap (λ (k : Bool). told_unit k (unit_bytes (teletext t) ++ rest)) (ne_eqb t.data_unit_id 0xFF h.other)
    ∙ ap (λ (row : List ℕ). teletext (record { data_unit_id = t.data_unit_id; field_parity = t.field_parity; line_offset = t.line_offset; row = row }))
    (take_at t.row rest 42 h.places)
in-back (stuffing bytes) rest h = ap stuffing (take_at bytes rest 44 h.places)

-- 45 bytes tell a unit that has them,
told_same : (k : Bool) (s : List ℕ) → 45 ≤ length s → eqb (get_or s 0 0) 0xFF ≡ k → unit_bytes (told_unit k s) ≡ take 45 s
told_same k [] h e = let f : ⊥ = omega arith in absurd f
told_same true (a ∷ s) h e = ap (λ (x : ℕ). x ∷ take 44 s) (sym (eqb-true a 0xFF e))
told_same false (a ∷ []) h e = let f : ⊥ = omega arith in absurd f
told_same false (a ∷ b ∷ []) h e = let f : ⊥ = omega arith in absurd f
told_same false (a ∷ b ∷ c ∷ s) h e = refl

in-same : (s : List ℕ) → 45 ≤ length s → unit_bytes (unit_in s) ≡ take 45 s
unfolding unit_in
in-same s h = told_same (eqb (get_or s 0 0) 0xFF) s h refl

-- as its type has it
told_typed : (k : Bool) (s : List ℕ) → Bytes s → 45 ≤ length s → eqb (get_or s 0 0) 0xFF ≡ k → TypedUnit (told_unit k s)
told_typed k [] bytes h e = let f : ⊥ = omega arith in absurd f
told_typed true (a ∷ s) bytes h e = record { places = length-take-le 44 s (omega arith); carried = each_take (λ (x : ℕ). x < 256) 44 s bytes.1 }
told_typed false (a ∷ []) bytes h e = let f : ⊥ = omega arith in absurd f
told_typed false (a ∷ b ∷ []) bytes h e = let f : ⊥ = omega arith in absurd f
told_typed false (a ∷ b ∷ c ∷ s) bytes h e =
    record {
      other = eqb-false a 0xFF e;
      places = length-take-le 42 s (omega arith);
      bytes = each_take (λ (x : ℕ). x < 256) 42 s bytes.1.1.1;
    }

pub in-typed : (s : List ℕ) → Bytes s → 45 ≤ length s → TypedUnit (unit_in s)
unfolding unit_in
in-typed s bytes h = told_typed (eqb (get_or s 0 0) 0xFF) s bytes h refl

-- and so is what is read, in its size
read-sized : (k : Bool) (u : List ℕ) → 46 ≤ length u → Sized (unit_of k u)
read-sized true u h = length-take-le 44 (drop 2 u) (omega (arith, length-drop 2 u))
read-sized false u h = length-map (take 42 (drop 4 u)) reversed ∙ length-take-le 42 (drop 4 u) (omega (arith, length-drop 4 u))

pub unit-sized : (u : List ℕ) → 46 ≤ length u → Sized (read_unit u)
unfolding read_unit
unit-sized u h = read-sized (eqb (get_or u 0 0) 0xFF) u h

-- the bytes of what is read, by its kind
pub read-stuffing : (u : List ℕ) → get_or u 0 0 ≡ 0xFF → unit_bytes (read_unit u) ≡ get_or u 0 0 ∷ part 2 46 u
unfolding read_unit
read-stuffing u e = ap (λ (k : Bool). unit_bytes (unit_of k u)) (eq-eqb (get_or u 0 0) 0xFF e) ∙ ap (λ (id : ℕ). id ∷ part 2 46 u) (sym e)

pub read-teletext : (u : List ℕ) → (get_or u 0 0 ≡ 0xFF → ⊥)
    → unit_bytes (read_unit u) ≡ get_or u 0 0 ∷ get_or u 2 0 / 32 % 2 ∷ get_or u 2 0 % 32 ∷ map reversed (part 4 46 u)
unfolding read_unit
read-teletext u other = ap (λ (k : Bool). unit_bytes (unit_of k u)) (ne_eqb (get_or u 0 0) 0xFF other)

-- units that are read, laid one behind the other
pub each_read : (n : ℕ) (s : List ℕ) → 46 * n ≤ length s → Each Sized (taken read_unit 46 n s)
each_read n s long = taken-each read_unit 46 Sized unit-sized n s long

pub length-read : (n : ℕ) (s : List ℕ) → 46 * n ≤ length s → length (units_bytes (taken read_unit 46 n s)) ≡ 45 * n
length-read n s long =
    length-flat unit_bytes 45 Sized length-lent (taken read_unit 46 n s) (each_read n s long) ∙ ap (λ (k : ℕ). 45 * k) (length_taken read_unit 46 n s)

-- and units that are told, as the stream has them
told-sized : (k : Bool) (s : List ℕ) → 45 ≤ length s → Sized (told_unit k s)
told-sized true s h = length-take-le 44 (drop 1 s) (omega (arith, length-drop 1 s))
told-sized false s h = length-take-le 42 (drop 3 s) (omega (arith, length-drop 3 s))

pub in-sized : (s : List ℕ) → 45 ≤ length s → Sized (unit_in s)
unfolding unit_in
in-sized s h = told-sized (eqb (get_or s 0 0) 0xFF) s h

pub each-told : (n : ℕ) (s : List ℕ) → 45 * n ≤ length s → Each Sized (taken unit_in 45 n s)
each-told n s long = taken-each unit_in 45 Sized in-sized n s long

pub length-told : (n : ℕ) (s : List ℕ) → 45 * n ≤ length s → length (layout_units (taken unit_in 45 n s)) ≡ 46 * n
length-told n s long =
    length-flat layout_unit 46 Sized length-layout (taken unit_in 45 n s) (each-told n s long) ∙ ap (λ (k : ℕ). 46 * k) (length_taken unit_in 45 n s)

-- what is told, by its kind
pub in-stuffing : (s : List ℕ) → get_or s 0 0 ≡ 0xFF → unit_in s ≡ stuffing (part 1 45 s)
unfolding unit_in
in-stuffing s e = ap (λ (k : Bool). told_unit k s) (eq-eqb (get_or s 0 0) 0xFF e)

abbrev pub teletext_in : List ℕ → Teletext
teletext_in s = record { data_unit_id = get_or s 0 0; field_parity = get_or s 1 0; line_offset = get_or s 2 0; row = part 3 45 s }

pub in-teletext : (s : List ℕ) → (get_or s 0 0 ≡ 0xFF → ⊥) → unit_in s ≡ teletext (teletext_in s)
unfolding unit_in
in-teletext s other = ap (λ (k : Bool). told_unit k s) (ne_eqb (get_or s 0 0) 0xFF other)

-- and its bytes in the stream
pub told-stuffing : (s : List ℕ) → get_or s 0 0 ≡ 0xFF → layout_unit (unit_in s) ≡ get_or s 0 0 ∷ 0x2C ∷ part 1 45 s
told-stuffing s e = ap layout_unit (in-stuffing s e) ∙ ap (λ (id : ℕ). id ∷ 0x2C ∷ part 1 45 s) (sym e)

pub told-teletext : (s : List ℕ) → (get_or s 0 0 ≡ 0xFF → ⊥)
    → layout_unit (unit_in s) ≡ get_or s 0 0 ∷ 0x2C ∷ (192 + 32 * get_or s 1 0 + get_or s 2 0) ∷ 0xE4 ∷ map reversed (part 3 45 s)
told-teletext s other = ap layout_unit (in-teletext s other)

-- ALL PLACES OF AN ARRAY

pub places : (s : List ℕ) → length (units_in s) ≡ 31
places s = length_taken unit_in 45 31 s

each_typed : (s : List ℕ) → Bytes s → length s ≡ 1395 → Each TypedUnit (units_in s)
each_typed s bytes e =
    each-of TypedUnit blank (units_in s)
    (λ i below.
    let place : i < 31 = omega (arith, below, places s) in
    subst TypedUnit (sym (get_d-taken unit_in 45 blank 31 i s place))
    (in-typed (drop (45 * i) s) (each-drop (λ (x : ℕ). x < 256) (45 * i) s bytes) (omega (arith, length-drop (45 * i) s))))

pub lent-typed : (identifier n : ℕ) (s : List ℕ) → Bytes s → length s ≡ 1395 → Typed (field_in identifier n s)
lent-typed identifier n s bytes e = record { places = places s; units = each_typed s bytes e }

-- units that fill the array are told again
pub lent-units : (us : List DataUnit) → Each TypedUnit us → length us ≡ 31 → units_in (units_bytes us) ≡ us
lent-units us h e = flat-whole unit_bytes 45 TypedUnit (λ x t. length-lent x (typed-sized x t)) unit_in in-back us h 31 e

-- and so are those at its front, whatever stands behind them
pub lent-first : (us : List DataUnit) → Each TypedUnit us → (rest : List ℕ) → taken unit_in 45 (length us) (units_bytes us ++ rest) ≡ us
lent-first us h rest = flat-taken unit_bytes 45 TypedUnit (λ x t. length-lent x (typed-sized x t)) unit_in in-back us h rest

pub lent-held : (t : Told) → Typed t → field_in t.data_identifier t.n (units_bytes t.units) ≡ t
lent-held t h =
    ap (λ (us : List DataUnit). record { data_identifier = t.data_identifier; n = t.n; units = us }) (lent-units t.units h.units h.places)

-- room beyond the units is zeros
pub lent-filled : (us : List DataUnit) → Each Sized us → length us ≤ 31 → units_bytes (filled us 31 blank) ≡ filled (units_bytes us) 1395 0
lent-filled us h few = flat-filled unit_bytes 45 Sized length-lent blank refl us h 31 few

-- units laid over an array of zeros
pub lent-over : (us : List DataUnit) → Each Sized us → length us ≤ 31 → over (units_bytes us) (replicate 1395 0) ≡ units_bytes (filled us 31 blank)
lent-over us h few = flat-over unit_bytes 45 Sized length-lent blank refl us h 31 few

-- the first n units of an array, stored again: their bytes, and zeros behind them
pub lent-front : (identifier n : ℕ) (s : List ℕ) → n ≤ 31 → length s ≡ 1395 → Each Sized (take n (units_in s))
    → units_bytes (stored (held (field_in identifier n s))).units ≡ filled (take (45 * n) s) 1395 0
lent-front identifier n s few e h =
    let count = length-take-le n (units_in s) (omega (arith, places s)) in
    lent-filled (take n (units_in s)) h (omega (arith, count))
    ∙ ap (λ (front : List ℕ). filled front 1395 0) (taken-flat unit_bytes 45 unit_in in-same 31 n s few (omega arith))

-- they are those that are taken one by one, and have their bytes in the stream
pub front-taken : (n : ℕ) (s : List ℕ) → n ≤ 31 → take n (units_in s) ≡ taken unit_in 45 n s
front-taken n s few = taken-take unit_in 45 n 31 s few

pub length_front : (identifier n : ℕ) (s : List ℕ) → n ≤ 31 → length s ≡ 1395 → length (layout (held (field_in identifier n s))) ≡ 1 + 46 * n
length_front identifier n s few e =
    omega (arith, ap (λ (us : List DataUnit). length (layout_units us)) (front-taken n s few), length-told n s (omega arith))

-- a legal value as it is told is one as the type of a lent array has it
legal-typed : (x : DataUnit) → LegalUnit x → TypedUnit x
legal-typed (teletext t) h = record { other = ⊎_elim (λ e f. omega (arith, e, f)) (λ e f. omega (arith, e, f)) h.id; places = h.places; bytes = h.bytes }
legal-typed (stuffing bytes) h = h

blank-typed : TypedUnit blank
blank-typed = record { other = λ e. omega (arith, e); places = refl; bytes = each-replicate (λ (b : ℕ). b < 256) 42 0 (omega arith) }

pub stored-typed : (v : DataField) → Legal v → Typed (stored v)
stored-typed v h =
    let us = v.units in
    let rest = 31 - length us in
    record {
      places = length-filled us 31 blank h.few;
      units = each_append TypedUnit us (replicate rest blank) (each_map LegalUnit TypedUnit legal-typed us h.each) (each-replicate TypedUnit rest blank blank-typed);
    }
