-- What an answer holds, and what of it the answer about one unit shows.
-- Assumes nothing.
use Prim.Native.Nat.{ℕ, ◌≤◌, ◌<◌}
use native.Mathlib.Omega.{arith}
use mathlib.Core.Path.{◌≡◌, ◌∙◌, ap, sym, subst, refl}
use mathlib.Core.List.{List, [], ◌∷◌}
use Rattle.std.specs.Prelude.{Ok, Err}
use lib.ListN.{length, take, drop, get_or, drop_of_length-le}
use lib.Seq.{drop-cons, drop-nil, take_at}
use Rattle.refusal.specs.declared.Refusal.{Refusal}
use Rattle.refusal.specs.declared.Reason.{Reason}
use Rattle.refusal.specs.declared.Item.{Item}
use Rattle.refusal.specs.Verdict.{Verdict}
use Rattle.refusal.specs.Verdict.{Accepted, Refused}
use Rattle.refusal.specs.Numbers.{refusal_of}
use Rattle.line21.specs.declared.AccessUnit.{AccessUnit}
use Rattle.line21.specs.Value.{Line21, Legal, LegalPayload, blank, none, stored, held}
use Rattle.refusal.proofs.Acceptance.{told-accepted}
use Rattle.line21.specs.Reading.{length_verdict, value_of, answer_of, read_of, One, values_of}
use Rattle.line21.proofs.Length.{WholeUnits, accepted-whole}

-- a struct holds the value that was stored in it
pub stored-units : (v : Line21) → (held (stored v)).units ≡ v.units
stored-units v = take_at v.units _ (length v.units) refl

pub stored-held : (v : Line21) → held (stored v) ≡ v
stored-held v = ap (λ (us : List AccessUnit). line21 v.flags us) (stored-units v)
  where
    line21 : ℕ → List AccessUnit → Line21
    line21 flags units = record { flags = flags; units = units }

pub stored-legal : (v : Line21) → Legal v → LegalPayload (stored v)
stored-legal v h = record { few = h.count; value = subst Legal (sym (stored-held v)) h }

-- what `values_of` of an answer about unit i is to be
abbrev pub one_of : Verdict → Line21 → ℕ → Refusal × List AccessUnit
one_of verdict v i = ((answer_of verdict v).refusal, take 1 (drop i (held (answer_of verdict v).payload).units))

one-accepted : (v : Line21) (i : ℕ) (us : List AccessUnit) → take 1 (drop i v.units) ≡ us → one_of Accepted v i ≡ (refusal_of Accepted, us)
one-accepted v i us e = ap (λ (rest : List AccessUnit). (refusal_of Accepted, rest)) (ap (λ (all : List AccessUnit). take 1 (drop i all)) (stored-units v) ∙ e)

pub one-there : (v : Line21) (i : ℕ) → i < length v.units → one_of Accepted v i ≡ (refusal_of Accepted, get_or v.units i blank ∷ [])
one-there v i h = one-accepted v i (get_or v.units i blank ∷ []) (ap (λ (rest : List AccessUnit). take 1 rest) (drop-cons v.units i blank h))

pub one-beyond : (v : Line21) (i : ℕ) → length v.units ≤ i → one_of Accepted v i ≡ (refusal_of Accepted, [])
one-beyond v i h = one-accepted v i [] (ap (λ (rest : List AccessUnit). take 1 rest) (drop_of_length-le v.units h))

pub one-refused : (v : Line21) (i : ℕ) (reason : Reason) (item : Item) → one_of (Refused reason item) v i ≡ (refusal_of (Refused reason item), [])
one-refused v i reason item = ap (λ (rest : List AccessUnit). (refusal_of (Refused reason item), take 1 rest)) (drop-nil i)

-- the refusal in an answer is what the verdict tells
pub answer-refusal : (verdict : Verdict) (v : Line21) → (answer_of verdict v).refusal ≡ refusal_of verdict
answer-refusal Accepted v = refl
answer-refusal (Refused reason item) v = refl

-- an answer of number 0 is an acceptance
pub accepted-verdict : (s : List ℕ) → (read_of s).refusal.number ≡ 0 → length_verdict (length s) ≡ Accepted
accepted-verdict s e =
    told-accepted (length_verdict (length s)) (sym (ap (λ (r : Refusal). r.number) (answer-refusal (length_verdict (length s)) (value_of s))) ∙ e)

pub accepted-length : (s : List ℕ) → (read_of s).refusal.number ≡ 0 → WholeUnits (length s)
accepted-length s e = accepted-whole (length s) (accepted-verdict s e)

pub accepted-answer : (s : List ℕ) → (read_of s).refusal.number ≡ 0 → read_of s ≡ answer_of Accepted (value_of s)
accepted-answer s e = ap (λ (v : Verdict). answer_of v (value_of s)) (accepted-verdict s e)

-- a refusal holds nothing
pub refused-nothing : (verdict : Verdict) (v : Line21) → ((answer_of verdict v).refusal.number ≡ 0 → ⊥) → (answer_of verdict v).payload ≡ stored none
refused-nothing Accepted v h = absurd (h refl)
refused-nothing (Refused reason item) v h = refl

-- answers about one unit that show the same are the same
units-shown : (a b : One) → values_of a ≡ values_of b → (values_of a).1 ≡ (values_of b).1
units-shown a b e = ap (λ (x : Refusal × List AccessUnit). x.1) e

pub shown-one : (a b : One) → values_of a ≡ values_of b → a ≡ b
shown-one (Ok u) (Ok w) e = let us : u ∷ [] ≡ w ∷ [] = units-shown (Ok u) (Ok w) e in cc
shown-one (Ok u) (Err r) e =
    let us : u ∷ [] ≡ [] = units-shown (Ok u) (Err r) e in
    let z : ◌≡◌ {A = ℕ} 0 1 = cc in
    let f : ⊥ = omega arith in
    absurd f
shown-one (Err q) (Ok w) e =
    let us : [] ≡ w ∷ [] = units-shown (Err q) (Ok w) e in
    let z : ◌≡◌ {A = ℕ} 0 1 = cc in
    let f : ⊥ = omega arith in
    absurd f
shown-one (Err q) (Err r) e = ap Err (ap (λ (x : Refusal × List AccessUnit). x.0) e)
