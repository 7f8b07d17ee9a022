-- RULES, "Refusals": what a call answers, and what a writer's lent output then holds. A success changes only what it
-- counts as written, at the front; a refusal leaves the output as it was and counts nothing.
use Rattle.std.specs.Prelude.{ℕ, ◌≤◌, ◌≡◌, List, length, Result, Ok, Err}
use Rattle.lists.specs.Room.{over, over_at}
use Rattle.refusal.specs.declared.Reason.{Reason}
use Rattle.refusal.specs.declared.Item.{Item}
use Rattle.refusal.specs.declared.Item.TheVariants.{Bit}
use Rattle.refusal.specs.Verdict.{Verdict}
use Rattle.refusal.specs.Verdict.{Accepted, Refused}
use Rattle.refusal.specs.declared.Refusal.{Refusal}
use Rattle.refusal.specs.declared.Written.{Written}
use Rattle.refusal.specs.Numbers.{number_of, refusal_of}

-- accepted: number and place 0
abbrev pub accepted : Refusal
accepted = record { number = 0; place = 0 }

-- refused with a number, at a place
abbrev pub refused : ℕ → ℕ → Refusal
refused number place = record { number = number; place = place }

-- accepted, and so many bytes or words counted
abbrev pub written : ℕ → Written
written n = record { refusal = accepted; len = n }

abbrev pub counted_of : Verdict → List ℕ → Written
counted_of Accepted laid = written (length laid)
counted_of (Refused reason item) laid = record { refusal = refusal_of (Refused reason item); len = 0 }

abbrev pub left_of : Verdict → List ℕ → List ℕ → List ℕ
left_of Accepted laid out = over laid out
left_of (Refused reason item) laid out = out

-- what the answer and the output at exit are, from the verdict, what is laid out, and the output at entry
pub record Wrote (verdict : Verdict) (laid out : List ℕ) (answer : Written) (exit : List ℕ) : Type 0 where
  pub counted : answer ≡ counted_of verdict laid
  pub left : exit ≡ left_of verdict laid out

-- what a reader leaves in a lent array: all of it anew where it accepts, and as it was in a refusal
abbrev pub lent_of : {A : Type 0} → Verdict → List A → List A → List A
lent_of Accepted new lent = new
lent_of (Refused reason item) new lent = lent

-- what a call answers that may refuse: its value, or why it refuses and what failed
abbrev pub Judged : Type 0 → Type 0
Judged A = Result A (Reason × Item)

-- the verdict that such an answer tells
abbrev pub verdict_of : {A : Type 0} → Judged A → Verdict
verdict_of (Ok value) = Accepted
verdict_of (Err why) = Err why

-- and how many bytes it counts: none where it refuses
abbrev pub len_of : Judged ℕ → ℕ
len_of (Ok len) = len
len_of (Err why) = 0

-- what a writer tells of it
abbrev pub written_of : Judged ℕ → Written
written_of judged = record { refusal = refusal_of (verdict_of judged); len = len_of judged }

-- the answer of a call that has this verdict, and this value where it accepts
abbrev pub judged_as : {A : Type 0} → Verdict → A → Judged A
judged_as Accepted value = Ok value
judged_as (Refused reason item) value = Err ((reason, item))

-- what a writer of a unit's body answers, and what it leaves in the output, from index `at` on: a refusal counts
-- nothing and leaves the output as it was
abbrev pub laid_of : Verdict → List ℕ → Judged ℕ
laid_of verdict laid = judged_as verdict (length laid)

abbrev pub body_left : Verdict → ℕ → List ℕ → List ℕ → List ℕ
body_left Accepted at laid out = over_at at laid out
body_left (Refused reason item) at laid out = out

-- a refusal at a bit that is at most `limit`, and what stands there: P of its number and the bit
pub record AtBit (limit : ℕ) (P : ℕ → ℕ → Type 0) (reason : Reason) (item : Item) : Type 0 where
  pub bit : ℕ
  pub here : item ≡ Bit bit
  pub within : bit ≤ limit
  pub stands : P (number_of reason) bit
