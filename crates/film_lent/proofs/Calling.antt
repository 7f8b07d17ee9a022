-- What the calls over lent memory answer and leave, from their promises.
-- Assumes nothing.
use Prim.Native.Nat.{ℕ, ◌≤◌}
use mathlib.Core.Path.{◌≡◌, ◌∙◌, ap, sym, refl}
use mathlib.Core.Logic.{◌↔◌}
use mathlib.Core.List.{List, [], ◌∷◌}
use lib.ListN.{length}
use Rattle.refusal.specs.Verdict.{Verdict}
use Rattle.refusal.specs.Verdict.{Accepted, Refused}
use Rattle.refusal.specs.declared.Refusal.{Refusal}
use Rattle.refusal.specs.Numbers.{refusal_of}
use Rattle.refusal.proofs.Acceptance.{told-accepted}
use Rattle.refusal.proofs.Checks.{accepted-and_then, accepted-within, refused-not-accepted}
use Rattle.scte20.specs.declared.CaptionUnit.{CaptionUnit}
use Rattle.scte20.specs.Value.{held}
use Rattle.film.specs.State.{State}
use Rattle.film.specs.declared.Answer.{Answer}
use Rattle.film.specs.Display.{closing, picture_events}
use Rattle.film.specs.Calls.{picture_verdict, units_sent, Told, told, told_of, Shows, Closes}
use Rattle.film.specs.Order.{Carried}
use Rattle.film.proofs.Answering.{told-refusal, told-verdict}
use Rattle.film.proofs.Carrying.{accepted-carried, carried-accepted}
use Rattle.film_lent.specs.declared.Head.{Head}
use Rattle.film_lent.specs.Kept.{Kept}
use Rattle.film_lent.specs.Kept as kept
use Rattle.film_lent.specs.Lent.{state_bytes, sent_bytes, state_in, shown_in, kept_verdict, kept_state, into_verdict, Left, left_of, PictureInto, CloseInto}
use Rattle.film_lent.proofs.Left.{into-picture}

-- whatever the call
module _ (verdict : Verdict) (t : Told) (film lent : List ℕ) (r : Head) (exit end : List ℕ)
    (left : ◌≡◌ {A = Left} (record { head = r; film = exit; units = end }) (left_of verdict t film lent)) where
  refusal-of : (v : Verdict) → (left_of v t film lent).head.refusal ≡ refusal_of v
  refusal-of Accepted = refl
  refusal-of (Refused reason item) = refl

  pub left-refusal : r.refusal ≡ refusal_of verdict
  left-refusal = ap (λ (l : Left). l.head.refusal) left ∙ refusal-of verdict

  pub left-verdict : r.refusal.number ≡ 0 → verdict ≡ Accepted
  left-verdict e = told-accepted verdict (ap (λ (q : Refusal). q.number) (sym left-refusal) ∙ e)

  pub verdict-left : verdict ≡ Accepted → r.refusal.number ≡ 0
  verdict-left e = ap (λ (q : Refusal). q.number) (left-refusal ∙ ap refusal_of e)

  untouched : (v : Verdict) → ((refusal_of v).number ≡ 0 → ⊥)
      → ((left_of v t film lent).head.m ≡ 0) × ((left_of v t film lent).film ≡ film) × ((left_of v t film lent).units ≡ lent)
  untouched Accepted n = absurd (n refl)
  untouched (Refused reason item) n = (refl, refl, refl)

  pub left-untouched : (r.refusal.number ≡ 0 → ⊥) → (r.m ≡ 0) × (exit ≡ film) × (end ≡ lent)
  left-untouched n =
      let same = untouched verdict (λ zero. n (ap (λ (q : Refusal). q.number) left-refusal ∙ zero)) in
      (ap (λ (l : Left). l.head.m) left ∙ same.0, ap (λ (l : Left). l.film) left ∙ same.1, ap (λ (l : Left). l.units) left ∙ same.2)

  pub left-stored : verdict ≡ Accepted → (r.m ≡ length t.units) × (exit ≡ state_bytes t.state) × (end ≡ sent_bytes t.units)
  left-stored e =
      let all = left ∙ ap (λ (v : Verdict). left_of v t film lent) e in
      (ap (λ (l : Left). l.head.m) all, ap (λ (l : Left). l.film) all, ap (λ (l : Left). l.units) all)

-- a state that is told
kept-accepted : (k : Kept) → kept_verdict k ≡ Accepted → (s : State) × (k ≡ kept.State s)
kept-accepted (kept.State s) e = (s, refl)
kept-accepted kept.None e = refused-not-accepted _ _ e

-- a picture
module _ (film : List ℕ) (top repeat line : ℕ) (u : CaptionUnit) (lent : List ℕ) (r : Head) (exit end : List ℕ) (into : PictureInto film top repeat line u lent r exit end) where
  abbrev asked : Verdict
  asked = into_verdict (state_in film) top repeat line u

  abbrev would : Told
  would = told_of Accepted (kept_state (state_in film)) (picture_events (shown_in top repeat line) (held u).records)

  passes : asked ≡ Accepted → ((s : State) × (state_in film ≡ kept.State s)) × (top ≤ 1) × (repeat ≤ 1) × (picture_verdict (shown_in top repeat line) u ≡ Accepted)
  unfolding into_verdict
  passes e =
      let state = accepted-and_then _ _ e in
      let flags = accepted-and_then _ _ state.1 in
      let one = accepted-and_then _ _ flags.0 in
      let two = accepted-and_then _ _ one.1 in
      (kept-accepted (state_in film) state.0, accepted-within 1 top _ _ one.0, accepted-within 1 repeat _ _ two.0, (accepted-and_then _ _ flags.1).0)

  pub picture-into-exactly : r.refusal.number ≡ 0
      ↔ (((s : State) × (state_in film ≡ kept.State s)) × (top ≤ 1) × (repeat ≤ 1) × Carried (shown_in top repeat line) u)
  picture-into-exactly = (
    λ e. let passed = passes (left-verdict asked would film lent r exit end into.left e) in
        (passed.0, passed.1, passed.2, accepted-carried (shown_in top repeat line) u into.typed passed.3),
    λ h. verdict-left asked would film lent r exit end into.left
        (into-picture (state_in film) top repeat line u h.0.0 h.0.1 h.1 h.2 ∙ carried-accepted (shown_in top repeat line) u into.typed h.3),
  )

  pub picture-untouched : (r.refusal.number ≡ 0 → ⊥) → (r.m ≡ 0) × (exit ≡ film) × (end ≡ lent)
  picture-untouched = left-untouched asked would film lent r exit end into.left

  pub picture-into-as-picture : (s : State) → state_in film ≡ kept.State s → top ≤ 1 → repeat ≤ 1 → (a : Answer) → Shows s (shown_in top repeat line) u a
      → (r.refusal ≡ a.refusal)
      × (a.refusal.number ≡ 0 → (r.m ≡ length (units_sent a.sent)) × (exit ≡ state_bytes a.state) × (end ≡ sent_bytes (units_sent a.sent)))
  picture-into-as-picture s is one two a shows =
      let row = picture_events (shown_in top repeat line) (held u).records in
      let own = picture_verdict (shown_in top repeat line) u in
      let same = into-picture (state_in film) top repeat line u s is one two in (
        left-refusal asked would film lent r exit end into.left ∙ ap refusal_of same ∙ sym (told-refusal own s row a shows.answer),
        λ zero.
            let ok = told-verdict own s row a shows.answer zero in
            let stored = left-stored asked would film lent r exit end into.left (same ∙ ok) in
            let answer : would ≡ told a = ap (λ (k : Kept). told_of Accepted (kept_state k) row) is ∙ ap (λ (v : Verdict). told_of v s row) (sym ok) ∙ sym shows.answer in
            (stored.0 ∙ ap (λ (t : Told). length t.units) answer, stored.1 ∙ ap (λ (t : Told). state_bytes t.state) answer, stored.2 ∙ ap (λ (t : Told). sent_bytes t.units) answer),
      )

-- a closing
module _ (film lent : List ℕ) (r : Head) (exit end : List ℕ) (into : CloseInto film lent r exit end) where
  abbrev closes-would : Told
  closes-would = told_of Accepted (kept_state (state_in film)) (closing ∷ [])

  pub close-into-exactly : r.refusal.number ≡ 0 ↔ ((s : State) × (state_in film ≡ kept.State s))
  close-into-exactly = (
    λ e. kept-accepted (state_in film) (left-verdict (kept_verdict (state_in film)) closes-would film lent r exit end into e),
    λ h. verdict-left (kept_verdict (state_in film)) closes-would film lent r exit end into (ap kept_verdict h.1),
  )

  pub close-untouched : (r.refusal.number ≡ 0 → ⊥) → (r.m ≡ 0) × (exit ≡ film) × (end ≡ lent)
  close-untouched = left-untouched (kept_verdict (state_in film)) closes-would film lent r exit end into

  pub close-into-as-close : (s : State) → state_in film ≡ kept.State s → (a : Answer) → Closes s a
      → (r.refusal ≡ a.refusal)
      × (r.m ≡ length (units_sent a.sent)) × (exit ≡ state_bytes a.state) × (end ≡ sent_bytes (units_sent a.sent))
  close-into-as-close s is a closes =
      let ok = ap kept_verdict is in
      let stored = left-stored (kept_verdict (state_in film)) closes-would film lent r exit end into ok in
      let answer : closes-would ≡ told a = ap (λ (k : Kept). told_of Accepted (kept_state k) (closing ∷ [])) is ∙ sym closes in (
        left-refusal (kept_verdict (state_in film)) closes-would film lent r exit end into ∙ ap refusal_of ok ∙ sym (told-refusal Accepted s (closing ∷ []) a closes),
        stored.0 ∙ ap (λ (t : Told). length t.units) answer,
        stored.1 ∙ ap (λ (t : Told). state_bytes t.state) answer,
        stored.2 ∙ ap (λ (t : Told). sent_bytes t.units) answer,
      )

-- one answer
pub picture-into-determined : (film : List ℕ) (top repeat line : ℕ) (u : CaptionUnit) (lent : List ℕ) (a : Head) (exit end : List ℕ) (b : Head) (out fin : List ℕ)
    → PictureInto film top repeat line u lent a exit end → PictureInto film top repeat line u lent b out fin → (a ≡ b) × (exit ≡ out) × (end ≡ fin)
picture-into-determined film top repeat line u lent a exit end b out fin p q =
    let same = p.left ∙ sym q.left in
    (ap (λ (l : Left). l.head) same, ap (λ (l : Left). l.film) same, ap (λ (l : Left). l.units) same)

pub close-into-determined : (film lent : List ℕ) (a : Head) (exit end : List ℕ) (b : Head) (out fin : List ℕ)
    → CloseInto film lent a exit end → CloseInto film lent b out fin → (a ≡ b) × (exit ≡ out) × (end ≡ fin)
close-into-determined film lent a exit end b out fin p q =
    let same = p ∙ sym q in
    (ap (λ (l : Left). l.head) same, ap (λ (l : Left). l.film) same, ap (λ (l : Left). l.units) same)
