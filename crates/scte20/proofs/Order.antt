-- What the code keeps of the records before (the latest's field and line, and how many of that field have priority 0) tells the same as the records do.
-- Assumes nothing.
use Prim.Native.Nat.{ℕ, ◌+◌, ◌≤◌, ◌<◌, min}
use native.Mathlib.Omega.{arith}
use mathlib.Core.Path.{◌≡◌, ◌∙◌, ap, ap₂, sym, refl}
use mathlib.Core.Bool.{Bool, true, false, ◌&&◌}
use mathlib.Core.List.{List, [], ◌∷◌}
use lib.Dec.{eqb, ltb}
use borrow.Author.Tests.{eqb-true, eqb-false, ltb-true, ltb-false, eq-eqb, ne_eqb, lt-ltb, le-ltb}
use Rattle.lists.specs.Each.{Each}
use Rattle.refusal.specs.declared.Reason.{Reason}
use Rattle.refusal.specs.declared.Reason.TheVariants.{FieldNumberZero, FieldFalls, LineDoesNotRise, FifthPriority}
use Rattle.refusal.specs.declared.Item.{Item}
use Rattle.refusal.specs.declared.Item.TheVariants.{Bit}
use Rattle.refusal.specs.Verdict.{Verdict}
use Rattle.refusal.specs.Verdict.{Accepted}
use Rattle.refusal.specs.Checks.{refuse_if, and_then, first}
use Rattle.refusal.proofs.Checks.{refused-not-accepted}
use Rattle.scte20.specs.declared.Record.{Record}
use Rattle.scte20.specs.Value.{field_of, count_if, urgent}
use Rattle.scte20.specs.Rules.{falls, not_rising, record_verdict}
use Rattle.scte20.specs.Inside.{last_of, FieldsDescend, last_verdict, kept, last_after}

-- a field that no record is of has none of priority 0
pub urgent-none : (f : ℕ) (before : List Record) → Each (λ (r : Record). field_of r < f) before → urgent f before ≡ 0
urgent-none f [] h = refl
urgent-none f (r ∷ rs) h =
    let below : field_of r < f = h.0 in
    let other : field_of r ≡ f → ⊥ = λ e. omega arith in
    ap₂ ◌+◌ (ap (λ (t : Bool). count_if (t && eqb r.cc_priority 0)) (ne_eqb (field_of r) f other)) (urgent-none f rs h.1)

-- behind a latest record of a lower field, all are of lower fields
pub descend-below : (f : ℕ) (r : Record) (before : List Record) → FieldsDescend (r ∷ before) → field_of r < f → Each (λ (s : Record). field_of s < f) (r ∷ before)
descend-below f r [] b below = (below, tt)
descend-below f r (s ∷ rs) b below =
    let h : field_of s ≤ field_of r = b.0 in
    let next : field_of s < f = omega arith in
    (below, descend-below f s rs b.1 next)

-- a check that comes later need be the same only where those before it accept
later : (t : Bool) (reason : Reason) (item : Item) (v w : Verdict) → (t ≡ false → v ≡ w) → and_then (refuse_if t reason item) v ≡ and_then (refuse_if t reason item) w
later true reason item v w h = refl
later false reason item v w h = h refl

-- how many of the latest's field have priority 0, and how many of the next record's field have
kept-urgent : (f : ℕ) (last : Record) (earlier : List Record) (t : Bool) → eqb (field_of last) f ≡ t → FieldsDescend (last ∷ earlier) → field_of last ≤ f
    → kept t (urgent (field_of last) (last ∷ earlier)) ≡ urgent f (last ∷ earlier)
kept-urgent f last earlier true e b h = ap (λ (g : ℕ). urgent g (last ∷ earlier)) (eqb-true (field_of last) f e)
kept-urgent f last earlier false e b h =
    let other : field_of last ≡ f → ⊥ = eqb-false (field_of last) f e in
    let below : field_of last < f = omega (arith, other) in
    sym (urgent-none f (last ∷ earlier) (descend-below f last earlier b below))

-- four are as good as more
four-enough : (k : ℕ) → ltb 3 (min k 4) ≡ ltb 3 k
four-enough k = by-four (ltb 3 k) refl
  where
    by-four : (t : Bool) → ltb 3 k ≡ t → ltb 3 (min k 4) ≡ t
    by-four true e = let many : 3 < k = ltb-true 3 k e in lt-ltb 3 (min k 4) (omega arith)
    by-four false e = let few : k ≤ 3 = ltb-false 3 k e in le-ltb 3 (min k 4) (omega arith)

kept-four : (t : Bool) (k : ℕ) → (t && ltb 3 (min k 4)) ≡ ltb 3 (kept t k)
kept-four true k = four-enough k
kept-four false k = refl

-- counted on, too
kept_more : (t : Bool) (n k : ℕ) → min (n + kept t (min k 4)) 4 ≡ min (n + kept t k) 4
kept_more true n k = omega arith
kept_more false n k = refl

-- no record before: a `last` of field 0 is the same as none, since field 0 is refused first
none-field : (f : ℕ) → eqb f 0 ≡ false → eqb 0 f ≡ false
none-field f e = ne_eqb 0 f (λ q. eqb-false f 0 e (sym q))

none-falls : (f : ℕ) → ltb f 0 ≡ false
none-falls f = let h : 0 ≤ f = omega arith in le-ltb f 0 h

-- the last of the checks, where there is no record before
none-four : (t : Bool) → (t && (false && ltb 3 0)) ≡ (t && ltb 3 0)
none-four true = refl
none-four false = refl

pub last-record : (at : ℕ) (before : List Record) (r : Record) → FieldsDescend before → last_verdict at (last_of before) r ≡ record_verdict at before r
unfolding last_verdict record_verdict
last-record at [] r b =
    later (eqb (field_of r) 0) _ _ _ _ (λ allowed. rw (none-falls (field_of r), none-field (field_of r) allowed, none-four (eqb r.cc_priority 0)))
last-record at (last ∷ earlier) r b =
    later (eqb (field_of r) 0) _ _ _ _ (λ allowed.
    later (ltb (field_of r) (field_of last)) _ _ _ _ (λ rises.
    later (not_rising (last ∷ earlier) r) _ _ _ _ (λ moves.
    ap (λ (t : Bool). and_then (refuse_if (eqb r.cc_priority 0 && t) FifthPriority (Bit at)) Accepted)
    (kept-four (eqb (field_of last) (field_of r)) (urgent (field_of last) (last ∷ earlier))
    ∙ ap (ltb 3) (kept-urgent (field_of r) last earlier (eqb (field_of last) (field_of r)) refl b (ltb-false (field_of r) (field_of last) rises))))))

-- four checks accept where each test finds no fault
four-accepted : (a b c d : Bool) (p q s t : Reason) (i j k l : Item) → first (refuse_if a p i ∷ refuse_if b q j ∷ refuse_if c s k ∷ refuse_if d t l ∷ []) ≡ Accepted
    → (a ≡ false) × (b ≡ false) × (c ≡ false) × (d ≡ false)
four-accepted true b c d p q s t i j k l e = refused-not-accepted p i e
four-accepted false true c d p q s t i j k l e = refused-not-accepted q j e
four-accepted false false true d p q s t i j k l e = refused-not-accepted s k e
four-accepted false false false true p q s t i j k l e = refused-not-accepted t l e
four-accepted false false false false p q s t i j k l e = (refl, refl, refl, refl)

-- what an accepted record's checks found: its field is not 0, its field does not fall, its line rises, and it is no fifth of priority 0
pub record-checks : (at : ℕ) (before : List Record) (r : Record) → record_verdict at before r ≡ Accepted
    → (eqb (field_of r) 0 ≡ false) × (falls before r ≡ false) × (not_rising before r ≡ false) × ((eqb r.cc_priority 0 && ltb 3 (urgent (field_of r) before)) ≡ false)
unfolding record_verdict
record-checks at before r e =
    four-accepted (eqb (field_of r) 0) (falls before r) (not_rising before r) (eqb r.cc_priority 0 && ltb 3 (urgent (field_of r) before))
    FieldNumberZero FieldFalls LineDoesNotRise FifthPriority (Bit (at + 2)) (Bit (at + 2)) (Bit (at + 4)) (Bit at) e

accepted-rises : (at : ℕ) (last : Record) (earlier : List Record) (r : Record) → record_verdict at (last ∷ earlier) r ≡ Accepted → field_of last ≤ field_of r
accepted-rises at last earlier r e = ltb-false (field_of r) (field_of last) (record-checks at (last ∷ earlier) r e).1

pub record-descend : (at : ℕ) (before : List Record) (r : Record) → FieldsDescend before → record_verdict at before r ≡ Accepted → FieldsDescend (r ∷ before)
record-descend at [] r b e = tt
record-descend at (last ∷ earlier) r b e = (accepted-rises at last earlier r e, b)

-- how many count on for the record, of which n more are of priority 0
counts-on : (at : ℕ) (before : List Record) (r : Record) (n : ℕ) → FieldsDescend before → record_verdict at before r ≡ Accepted
    → min (n + kept (eqb (last_of before).field_number.0 (field_of r)) (last_of before).urgent) 4 ≡ min (n + urgent (field_of r) before) 4
counts-on at [] r n b e = ap (λ (t : Bool). min (n + kept t 0) 4) (none-field (field_of r) (record-checks at [] r e).0)
counts-on at (last ∷ earlier) r n b e =
    kept_more (eqb (field_of last) (field_of r)) n (urgent (field_of last) (last ∷ earlier))
    ∙ ap (λ (k : ℕ). min (n + k) 4)
    (kept-urgent (field_of r) last earlier (eqb (field_of last) (field_of r)) refl b (accepted-rises at last earlier r e))

pub last-after : (at : ℕ) (before : List Record) (r : Record) → FieldsDescend before → record_verdict at before r ≡ Accepted → last_after (last_of before) r ≡ last_of (r ∷ before)
unfolding last_after
last-after at before r b e =
    ap (λ (k : ℕ). record { field_number = r.field_number; line_offset = r.line_offset; urgent = k })
    (counts-on at before r (count_if (eqb r.cc_priority 0)) b e
    ∙ ap (λ (t : Bool). min (count_if (t && eqb r.cc_priority 0) + urgent (field_of r) before) 4) (sym (eq-eqb (field_of r) (field_of r) refl)))
