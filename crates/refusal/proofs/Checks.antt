-- An order of checks accepts exactly where each of its checks does.
-- Assumes nothing.
use Prim.Native.Nat.{ℕ, ◌≤◌, ◌<◌}
use native.Mathlib.Omega.{arith}
use mathlib.Core.Path.{◌≡◌, ◌∙◌, ap, sym, refl}
use mathlib.Core.Bool.{Bool, true, false, not, ◌&&◌, true≢false}
use mathlib.Core.List.{List, [], ◌∷◌, map}
use borrow.Author.Tests.{eqb-true, ltb-false, lt-ltb, le-ltb, not-false}
use lib.Dec.{eqb, ltb}
use Rattle.lists.specs.Each.{Each}
use Rattle.refusal.specs.declared.Reason.{Reason}
use Rattle.refusal.specs.declared.Reason.TheVariants.{TooLong, NoRoom}
use Rattle.refusal.specs.declared.Item.{Item}
use Rattle.refusal.specs.declared.Item.TheVariants.{Whole}
use Rattle.refusal.specs.Verdict.{Verdict}
use Rattle.refusal.specs.Verdict.{Accepted, Refused}
use Rattle.refusal.specs.Checks.{refuse_if, and_then, first, fit_verdict}

-- a refusal is no acceptance
pub refused-not-accepted : {P : Type 0} (reason : Reason) (item : Item) → Refused reason item ≡ Accepted → P
refused-not-accepted reason item e = let z : ◌≡◌ {A = ℕ} 0 1 = cc in let f : ⊥ = omega arith in absurd f

pub accepted-refuse_if : (fault : Bool) (reason : Reason) (item : Item) → refuse_if fault reason item ≡ Accepted → fault ≡ false
accepted-refuse_if true reason item e = refused-not-accepted reason item e
accepted-refuse_if false reason item e = refl

-- a test of two tests: both hold
pub both_hold : (a b : Bool) → (a && b) ≡ true → (a ≡ true) × (b ≡ true)
both_hold true b e = (refl, e)
both_hold false b e = absurd (true≢false (sym e))

-- a check that two numbers are equal, and one that a number is not above its limit
pub accepted-equal : (a b : ℕ) (reason : Reason) (item : Item) → refuse_if (not (eqb a b)) reason item ≡ Accepted → a ≡ b
accepted-equal a b reason item e = eqb-true a b (not-false (eqb a b) (accepted-refuse_if (not (eqb a b)) reason item e))

pub accepted-within : (limit n : ℕ) (reason : Reason) (item : Item) → refuse_if (ltb limit n) reason item ≡ Accepted → n ≤ limit
accepted-within limit n reason item e = ltb-false limit n (accepted-refuse_if (ltb limit n) reason item e)

pub refuse_if-accepted : (fault : Bool) (reason : Reason) (item : Item) → fault ≡ false → refuse_if fault reason item ≡ Accepted
refuse_if-accepted fault reason item e = ap (λ (t : Bool). refuse_if t reason item) e

pub accepted-and_then : (check next : Verdict) → and_then check next ≡ Accepted → (check ≡ Accepted) × (next ≡ Accepted)
accepted-and_then Accepted next e = (refl, e)
accepted-and_then (Refused reason item) next e = refused-not-accepted reason item e

pub and_then-accepted : (check next : Verdict) → check ≡ Accepted → next ≡ Accepted → and_then check next ≡ Accepted
and_then-accepted check next e f = ap (λ (v : Verdict). and_then v next) e ∙ f

-- one check of each element, in order, accepts where it accepts each
pub accepted-each : {A : Type 0} (check : A → Verdict) (xs : List A) → first (map check xs) ≡ Accepted → Each (λ (x : A). check x ≡ Accepted) xs
accepted-each check [] e = tt
accepted-each check (x ∷ xs) e =
    let both = accepted-and_then (check x) (first (map check xs)) e in
    (both.0, accepted-each check xs both.1)

pub each-accepted : {A : Type 0} (check : A → Verdict) (xs : List A) → Each (λ (x : A). check x ≡ Accepted) xs → first (map check xs) ≡ Accepted
each-accepted check [] h = refl
each-accepted check (x ∷ xs) h = and_then-accepted (check x) (first (map check xs)) h.0 (each-accepted check xs h.1)

-- and a list of checks where each does
pub accepted-all : (checks : List Verdict) → first checks ≡ Accepted → Each (λ (v : Verdict). v ≡ Accepted) checks
accepted-all [] e = tt
accepted-all (check ∷ checks) e = let both = accepted-and_then check (first checks) e in (both.0, accepted-all checks both.1)

pub all-accepted : (checks : List Verdict) → Each (λ (v : Verdict). v ≡ Accepted) checks → first checks ≡ Accepted
all-accepted [] h = refl
all-accepted (check ∷ checks) h = and_then-accepted check (first checks) h.0 (all-accepted checks h.1)

-- nothing after it: the check decides
pub and_then-last : (check : Verdict) → and_then check Accepted ≡ check
and_then-last Accepted = refl
and_then-last (Refused reason item) = refl

pub and_then-assoc : (a b c : Verdict) → and_then (and_then a b) c ≡ and_then a (and_then b c)
and_then-assoc Accepted b c = refl
and_then-assoc (Refused reason item) b c = refl

-- what comes after a check that refuses is not reached
pub and_then-refused : (check next : Verdict) → (check ≡ Accepted → ⊥) → and_then check next ≡ check
and_then-refused Accepted next h = absurd (h refl)
and_then-refused (Refused reason item) next h = refl

-- once the answer to a check is known: a refusal decides,
pub refused-first : {answer check : Verdict} {reason : Reason} {item : Item} (next : Verdict) → answer ≡ check → answer ≡ Refused reason item → answer ≡ and_then check next
refused-first next e told = told ∙ ap (λ (v : Verdict). and_then v next) (sym told ∙ e)

-- and an acceptance leaves it to the next check
pub accepted-first : {answer check : Verdict} (next : Verdict) → answer ≡ check → answer ≡ Accepted → and_then check next ≡ next
accepted-first next e told = ap (λ (v : Verdict). and_then v next) (sym e ∙ told)

-- the last checks of writing accept exactly the sizes within the limit and the room,
pub accepted-fit : (limit size room : ℕ) → fit_verdict limit size room ≡ Accepted → (size ≤ limit) × (size ≤ room)
accepted-fit limit size room e =
    let one = accepted-and_then (refuse_if (ltb limit size) TooLong Whole) (first (refuse_if (ltb room size) NoRoom Whole ∷ [])) e in
    let two = accepted-and_then (refuse_if (ltb room size) NoRoom Whole) Accepted one.1 in
    (accepted-within limit size TooLong Whole one.0, accepted-within room size NoRoom Whole two.0)

pub fit-accepted : (limit size room : ℕ) → size ≤ limit → size ≤ room → fit_verdict limit size room ≡ Accepted
fit-accepted limit size room short fits = rw (le-ltb limit size short, le-ltb room size fits)

-- refuse a size above the limit whatever the room is,
pub fit-long : (limit size room : ℕ) → limit < size → fit_verdict limit size room ≡ Refused TooLong Whole
fit-long limit size room long = rw (lt-ltb limit size long)

-- and one within it where the room is too short
pub fit-no-room : (limit size room : ℕ) → size ≤ limit → room < size → fit_verdict limit size room ≡ Refused NoRoom Whole
fit-no-room limit size room short long = rw (le-ltb limit size short, lt-ltb room size long)
