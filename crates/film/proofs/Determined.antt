-- Each function's promise fixes its answer.
-- Assumes nothing.
use Prim.Native.Nat.{ℕ}
use mathlib.Core.Path.{◌≡◌, ◌∙◌, ap, sym, refl}
use mathlib.Core.List.{List, [], ◌∷◌}
use Rattle.refusal.specs.Verdict.{Verdict}
use Rattle.scte20.specs.declared.CaptionUnit.{CaptionUnit}
use Rattle.line21.specs.declared.AccessUnit.{AccessUnit}
use Rattle.film.specs.Slot.{Slot}
use Rattle.film.specs.State.{State}
use Rattle.film.specs.declared.Shown.{Shown}
use Rattle.film.specs.declared.Sent.{Sent}
use Rattle.film.specs.declared.Sent.TheVariants as sent
use Rattle.film.specs.declared.Half.{Half}
use Rattle.film.specs.declared.Passing.{Passing}
use Rattle.film.specs.declared.Answer.{Answer}
use Rattle.film.specs.Frames.{half_of, access_unit}
use Rattle.film.specs.Calls.{picture_verdict, units_sent, Told, told, Shows, Closes}
use Rattle.film.specs.Inside.{passed}

-- units tell in which way they were sent
sent_as : List AccessUnit → Sent
sent_as [] = sent.None
sent_as (a ∷ []) = sent.One a
sent_as (a ∷ b ∷ us) = sent.Two a b

sent_back : (x : Sent) → sent_as (units_sent x) ≡ x
unfolding sent_as
sent_back sent.None = refl
sent_back (sent.One a) = refl
sent_back (sent.Two a b) = refl

answer_as : Told → Answer
answer_as t = record { refusal = t.refusal; sent = sent_as t.units; state = t.state }

answer_back : (r : Answer) → answer_as (told r) ≡ r
unfolding answer_as
answer_back r = ap (λ (x : Sent). record { refusal = r.refusal; sent = x; state = r.state }) (sent_back r.sent)

-- what an answer says is all of it
pub told_same : (a b : Answer) → told a ≡ told b → a ≡ b
told_same a b e = sym (answer_back a) ∙ ap answer_as e ∙ answer_back b

pub picture-determined : (s : State) (how : Shown) (u : CaptionUnit) (a b : Answer) → Shows s how u a → Shows s how u b → a ≡ b
picture-determined s how u a b ra rb = told_same a b (ra.answer ∙ sym rb.answer)

pub close-determined : (s : State) (a b : Answer) → Closes s a → Closes s b → a ≡ b
close-determined s a b ra rb = told_same a b (ra ∙ sym rb)

pub judge-determined : (how : Shown) (u : CaptionUnit) (a b : Verdict) → a ≡ picture_verdict how u → b ≡ picture_verdict how u → a ≡ b
judge-determined how u a b ra rb = ra ∙ sym rb

pub pass-determined : (s : State) (side : ℕ) (slot : Slot) (a b : Passing) → a ≡ passed s side slot → b ≡ passed s side slot → a ≡ b
pass-determined s side slot a b ra rb = ra ∙ sym rb

pub frame-determined : (odd even : Slot) (a b : AccessUnit) → a ≡ access_unit odd even → b ≡ access_unit odd even → a ≡ b
frame-determined odd even a b ra rb = ra ∙ sym rb

pub half-of-determined : (slot : Slot) (a b : Half) → a ≡ half_of slot → b ≡ half_of slot → a ≡ b
half-of-determined slot a b ra rb = ra ∙ sym rb
