-- What a call leaves, as the code has it.
-- Assumes nothing.
use Prim.Native.Nat.{ℕ, ◌≤◌, ◌<◌}
use mathlib.Core.Path.{◌≡◌, ◌∙◌, ap, sym}
use mathlib.Core.List.{List}
use borrow.Author.Tests.{lt-ltb, le-ltb}
use lib.ListN.{length}
use Rattle.refusal.specs.declared.Reason.{Reason}
use Rattle.refusal.specs.declared.Item.{Item}
use Rattle.refusal.specs.Verdict.{Verdict}
use Rattle.refusal.specs.Verdict.{Accepted, Refused}
use Rattle.refusal.specs.declared.Reason.TheVariants.{Unholdable}
use Rattle.refusal.specs.declared.Excess.TheVariants.{FilmState, PictureFlag}
use Rattle.refusal.specs.declared.Item.TheVariants.{Whole}
use Rattle.refusal.specs.declared.Refusal.{Refusal}
use Rattle.refusal.specs.Numbers.{refusal_of}
use Rattle.refusal.proofs.Checks.{refused-not-accepted, and_then-last}
use Rattle.refusal.proofs.Acceptance.{told-accepted}
use Rattle.scte20.specs.declared.CaptionUnit.{CaptionUnit}
use Rattle.film.specs.State.{State}
use Rattle.film.specs.declared.Answer.{Answer}
use Rattle.film.specs.Display.{Event}
use Rattle.film.specs.Calls.{picture_verdict, Told, told, told_of}
use Rattle.film_lent.specs.declared.Head.{Head}
use Rattle.film_lent.specs.Kept.{Kept}
use Rattle.film_lent.specs.Kept as kept
use Rattle.film_lent.specs.Lent.{state_bytes, sent_bytes, shown_in, kept_verdict, kept_state, into_verdict, Left, left_of}
use Rattle.film_lent.specs.Inside.{refused_head, Stores}

-- a refusal before film is asked
pub refused-left : (verdict told-as : Verdict) (reason : Reason) (item : Item) (t : Told) (film lent : List ℕ) (head : Head)
    → verdict ≡ told-as → told-as ≡ Refused reason item → head ≡ refused_head told-as
    → ◌≡◌ {A = Left} (record { head = head; film = film; units = lent }) (left_of verdict t film lent)
refused-left verdict told-as reason item t film lent head e r h =
    ap (λ (h : Head). record { head = h; film = film; units = lent }) (h ∙ ap refused_head r)
    ∙ ap (λ (v : Verdict). left_of v t film lent) (sym (e ∙ r))

-- all of an answer
stored : Told → Left
stored t = record { head = record { refusal = t.refusal; m = length t.units }; film = state_bytes t.state; units = sent_bytes t.units }

-- film's answer, stored
pub stores-left : (verdict : Verdict) (s : State) (es : List Event) (answer : Answer) (film lent : List ℕ) (r : Head) (exit end : List ℕ)
    → told answer ≡ told_of verdict s es → Stores answer film lent r exit end
    → ◌≡◌ {A = Left} (record { head = r; film = exit; units = end }) (left_of verdict (told_of Accepted s es) film lent)
unfolding stored
stores-left Accepted s es answer film lent r exit end e stores =
    stores.accepted (ap (λ (t : Told). t.refusal.number) e) ∙ ap stored e
stores-left (Refused reason item) s es answer film lent r exit end e stores =
    let refusal : answer.refusal ≡ refusal_of (Refused reason item) = ap (λ (t : Told). t.refusal) e in
    stores.refused
    (λ zero. refused-not-accepted reason item (told-accepted (Refused reason item) (ap (λ (q : Refusal). q.number) (sym refusal) ∙ zero)))
    ∙ ap (λ (q : Refusal). record { head = record { refusal = q; m = 0 }; film = film; units = lent }) refusal

-- the state that is kept
pub kept-left : (k : Kept) (s : State) → k ≡ kept.State s → (X : Verdict → State → Left) → X Accepted s ≡ X (kept_verdict k) (kept_state k)
kept-left k s e X = ap (λ (k : Kept). X (kept_verdict k) (kept_state k)) (sym e)

-- the checks of the arguments
module _ (k : Kept) (top repeat line : ℕ) (u : CaptionUnit) where
  pub into-none : k ≡ kept.None → into_verdict k top repeat line u ≡ Refused (Unholdable FilmState) Whole
  unfolding into_verdict
  into-none e = simp e

  module _ (s : State) (e : k ≡ kept.State s) where
    pub into-top : 1 < top → into_verdict k top repeat line u ≡ Refused (Unholdable PictureFlag) Whole
    unfolding into_verdict
    into-top h = simp (e, lt-ltb 1 top h)

    pub into-repeat : top ≤ 1 → 1 < repeat → into_verdict k top repeat line u ≡ Refused (Unholdable PictureFlag) Whole
    unfolding into_verdict
    into-repeat t h = simp (e, le-ltb 1 top t, lt-ltb 1 repeat h)

    pub into-picture : top ≤ 1 → repeat ≤ 1 → into_verdict k top repeat line u ≡ picture_verdict (shown_in top repeat line) u
    unfolding into_verdict
    into-picture t h = simp (e, le-ltb 1 top t, le-ltb 1 repeat h, and_then-last)
