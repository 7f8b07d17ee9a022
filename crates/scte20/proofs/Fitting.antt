-- Records that the checks accept one after the other are exactly those in order, of no field 0, and with at most four of priority 0 in one field.
-- Assumes nothing.
use Prim.Native.Nat.{ℕ, ◌+◌, ◌≤◌, ◌<◌}
use native.Mathlib.Omega.{arith}
use mathlib.Core.Path.{◌≡◌, ap, subst, refl}
use mathlib.Core.Logic.{◌⊎◌, inl, inr, ⊎_elim}
use mathlib.Core.Bool.{Bool, true, false, not, ◌&&◌}
use mathlib.Core.List.{List, [], ◌∷◌}
use lib.Dec.{T, eqb, ltb}
use borrow.Author.Tests.{eqb-true, eqb-false, ltb-true, ltb-false, eq-eqb, ne_eqb, lt-ltb, le-ltb}
use Rattle.lists.specs.Each.{Each}
use Rattle.refusal.specs.Verdict.{Accepted}
use Rattle.scte20.specs.declared.Record.{Record}
use Rattle.scte20.specs.Value.{field_of, count_if, urgent, Follows, InOrder}
use Rattle.scte20.specs.Rules.{falls, not_rising, record_verdict}
use Rattle.scte20.proofs.Order.{record-checks}

-- a record that fits behind these, the latest first: the checks find no fault
pub record Fits (before : List Record) (r : Record) : Type 0 where
  pub allowed : 1 ≤ field_of r
  pub rises : falls before r ≡ false
  pub moves : not_rising before r ≡ false
  pub four : (eqb r.cc_priority 0 && ltb 3 (urgent (field_of r) before)) ≡ false

-- each of the records fits behind those before it
abbrev pub AllFit : List Record → List Record → Type 0
AllFit before [] = Unit {0}
AllFit before (r ∷ rs) = Fits before r × AllFit (r ∷ before) rs

pub record-fits : (at : ℕ) (before : List Record) (r : Record) → record_verdict at before r ≡ Accepted → Fits before r
record-fits at before r e =
    let checks = record-checks at before r e in
    let nonzero : field_of r ≡ 0 → ⊥ = eqb-false (field_of r) 0 checks.0 in
    let allowed : 1 ≤ field_of r = omega (arith, nonzero) in
    record { allowed = allowed; rises = checks.1; moves = checks.2; four = checks.3 }

pub fits-record : (at : ℕ) (before : List Record) (r : Record) → Fits before r → record_verdict at before r ≡ Accepted
unfolding record_verdict
fits-record at before r h =
    let allowed : 1 ≤ field_of r = h.allowed in
    let nonzero : field_of r ≡ 0 → ⊥ = λ e. omega arith in
    rw (ne_eqb (field_of r) 0 nonzero, h.rises, h.moves, h.four)

allowed-from : (before rs : List Record) → AllFit before rs → Each (λ (r : Record). 1 ≤ field_of r) rs
allowed-from before [] h = tt
allowed-from before (r ∷ rs) h = (h.0.allowed, allowed-from (r ∷ before) rs h.1)

pub fit-allowed : (rs : List Record) → AllFit [] rs → Each (λ (r : Record). 1 ≤ field_of r) rs
fit-allowed rs h = allowed-from [] rs h

-- a field that does not fall, and a line that rises where the field stays, are what `Follows` says
follows-from : (f g l m : ℕ) (t u : Bool) → eqb f g ≡ t → ltb l m ≡ u → f ≤ g → (t && not u) ≡ false → (f < g) ⊎ (f ≡ g × l < m)
follows-from f g l m true true e h le n = inr (eqb-true f g e, ltb-true l m h)
follows-from f g l m true false e h le n = absurd (subst T n tt)
follows-from f g l m false u e h le n = let other : f ≡ g → ⊥ = eqb-false f g e in let below : f < g = omega (arith, other) in inl below

fits-follows : (last : Record) (earlier : List Record) (r : Record) → Fits (last ∷ earlier) r → Follows last r
fits-follows last earlier r h =
    follows-from (field_of last) (field_of r) last.line_offset r.line_offset _ _ refl refl (ltb-false (field_of r) (field_of last) h.rises) h.moves

follows-rises : (last : Record) (earlier : List Record) (r : Record) → Follows last r → falls (last ∷ earlier) r ≡ false
follows-rises last earlier r h =
    le-ltb (field_of r) (field_of last) (⊎_elim (λ (p : field_of last < field_of r). omega arith) (λ (p : field_of last ≡ field_of r × _). let e = p.0 in omega arith) h)

-- where the field stays, the line rises
follows-line : (f g l m : ℕ) (t : Bool) → eqb f g ≡ t → (f < g) ⊎ (f ≡ g × l < m) → (t && not (ltb l m)) ≡ false
follows-line f g l m true e h =
    let same : f ≡ g = eqb-true f g e in
    let rises : l < m = ⊎_elim (λ (p : f < g). let x : ⊥ = omega arith in absurd x) (λ (p : f ≡ g × l < m). p.1) h in
    ap not (lt-ltb l m rises)
follows-line f g l m false e h = refl

follows-moves : (last : Record) (earlier : List Record) (r : Record) → Follows last r → not_rising (last ∷ earlier) r ≡ false
follows-moves last earlier r h = follows-line (field_of last) (field_of r) last.line_offset r.line_offset (eqb (field_of last) (field_of r)) refl h

order_from : (before rs : List Record) → AllFit before rs → InOrder rs
order_from before [] h = tt
order_from before (r ∷ []) h = tt
order_from before (r ∷ s ∷ rs) h = (fits-follows r before s h.1.0, order_from (r ∷ before) (s ∷ rs) h.1)

pub fit-order : (rs : List Record) → AllFit [] rs → InOrder rs
fit-order rs h = order_from [] rs h

-- one record more that fits makes no fifth of priority 0, in whichever field
one-more : (f : ℕ) (before : List Record) (r : Record) (t u : Bool) → eqb (field_of r) f ≡ t → (u && ltb 3 (urgent (field_of r) before)) ≡ false → urgent f before ≤ 4
    → count_if (t && u) + urgent f before ≤ 4
one-more f before r true true e n h =
    let same : field_of r ≡ f = eqb-true (field_of r) f e in
    let few : urgent (field_of r) before ≤ 3 = ltb-false 3 (urgent (field_of r) before) n in
    let moved : urgent f before ≤ 3 = subst (λ (g : ℕ). urgent g before ≤ 3) same few in
    omega arith
one-more f before r true false e n h = omega arith
one-more f before r false u e n h = omega arith

four-from : (f : ℕ) (before rs : List Record) → AllFit before rs → urgent f before ≤ 4 → urgent f before + urgent f rs ≤ 4
four-from f before [] h few = omega arith
four-from f before (r ∷ rs) h few =
    let next : urgent f (r ∷ before) ≤ 4 = one-more f before r (eqb (field_of r) f) (eqb r.cc_priority 0) refl h.0.four few in
    let all : urgent f (r ∷ before) + urgent f rs ≤ 4 = four-from f (r ∷ before) rs h.1 next in
    omega arith

pub fit-four : (rs : List Record) → AllFit [] rs → (f : ℕ) → urgent f rs ≤ 4
fit-four rs h f =
    let none : 0 ≤ 4 = omega arith in
    let all : 0 + urgent f rs ≤ 4 = four-from f [] rs h none in
    omega arith

-- the records before and those that come are in order where they meet
abbrev Meets : List Record → List Record → Type 0
Meets [] rs = InOrder rs
Meets (last ∷ earlier) rs = InOrder (last ∷ rs)

meets-rises : (before : List Record) (r : Record) (rs : List Record) → Meets before (r ∷ rs) → falls before r ≡ false
meets-rises [] r rs h = refl
meets-rises (last ∷ earlier) r rs h = follows-rises last earlier r h.0

meets-moves : (before : List Record) (r : Record) (rs : List Record) → Meets before (r ∷ rs) → not_rising before r ≡ false
meets-moves [] r rs h = refl
meets-moves (last ∷ earlier) r rs h = follows-moves last earlier r h.0

meets-next : (before : List Record) (r : Record) (rs : List Record) → Meets before (r ∷ rs) → InOrder (r ∷ rs)
meets-next [] r rs h = h
meets-next (last ∷ earlier) r rs h = h.1

-- with no five of a field in all, a record of priority 0 has at most three before it
no-fifth : (before : List Record) (r : Record) (rs : List Record) (u : Bool) → eqb r.cc_priority 0 ≡ u → urgent (field_of r) before + urgent (field_of r) (r ∷ rs) ≤ 4
    → (u && ltb 3 (urgent (field_of r) before)) ≡ false
no-fifth before r rs true e h =
    let counts : count_if (eqb (field_of r) (field_of r) && eqb r.cc_priority 0) ≡ 1 = rw (eq-eqb (field_of r) (field_of r) refl, e) in
    let few : urgent (field_of r) before ≤ 3 = omega (arith, counts) in
    le-ltb 3 (urgent (field_of r) before) few
no-fifth before r rs false e h = refl

fit-from : (before rs : List Record) → Each (λ (r : Record). 1 ≤ field_of r) rs → Meets before rs → ((f : ℕ) → urgent f before + urgent f rs ≤ 4) → AllFit before rs
fit-from before [] allowed order four = tt
fit-from before (r ∷ rs) allowed order four = (
  record {
    allowed = allowed.0;
    rises = meets-rises before r rs order;
    moves = meets-moves before r rs order;
    four = no-fifth before r rs (eqb r.cc_priority 0) refl (four (field_of r));
  },
  fit-from (r ∷ before) rs allowed.1 (meets-next before r rs order)
      (λ f. let h : urgent f before + urgent f (r ∷ rs) ≤ 4 = four f in omega arith),
)

pub legal-fit : (rs : List Record) → Each (λ (r : Record). 1 ≤ field_of r) rs → InOrder rs → ((f : ℕ) → urgent f rs ≤ 4) → AllFit [] rs
legal-fit rs allowed order four = fit-from [] rs allowed order (λ f. let h : urgent f rs ≤ 4 = four f in omega arith)
