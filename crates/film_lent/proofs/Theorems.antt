-- The theorems of film over lent memory, as the C interface has it (docs/RULES.md, "Film"). What they speak of is
-- defined in specs/Lent: a state as four bytes, the access units of a call in an array of two places, and what a call
-- leaves of both. How to read it: docs/NOTATION.md.
--
-- The contracts of `picture_into` and `close_into` are the promises `PictureInto` and `CloseInto`: the bytes `film` and
-- the array `lent` at entry, what is asked, the answer r, and the bytes `exit` and the array `end` at exit.
-- Assumes nothing.
use Prim.Native.Nat.{ℕ, ◌≤◌}
use mathlib.Core.Path.{◌≡◌}
use mathlib.Core.Logic.{◌↔◌}
use mathlib.Core.List.{List}
use lib.ListN.{length}
use Rattle.scte20.specs.declared.CaptionUnit.{CaptionUnit}
use Rattle.film.specs.State.{State}
use Rattle.film.specs.declared.Answer.{Answer}
use Rattle.film.specs.Calls.{units_sent, Shows, Closes}
use Rattle.film.specs.Order.{Carried}
use Rattle.film_lent.specs.declared.Head.{Head}
use Rattle.film_lent.specs.Kept as kept
use Rattle.film_lent.specs.Lent.{state_bytes, sent_bytes, state_in, shown_in, PictureInto, CloseInto}
use Rattle.film_lent.proofs.States as states
use Rattle.film_lent.proofs.Calling as calling

-- THE STATE

-- The bytes of a state tell that state,
pub state-back : (s : State) → state_in (state_bytes s) ≡ kept.State s
state-back = states.state-back

-- four bytes that tell a state are that state's,
pub state-only : (s : State) (bytes : List ℕ) → length bytes ≡ 4 → state_in bytes ≡ kept.State s → state_bytes s ≡ bytes
state-only = states.state-only

-- and those that tell none are no state's.
pub state-none : (bytes : List ℕ) → state_in bytes ≡ kept.None → (s : State) → state_bytes s ≡ bytes → ⊥
state-none = states.state-none

-- A PICTURE

-- A call is accepted exactly when the bytes are a state's, the flags are bits, and the picture can be carried.
pub picture-into-exactly : (film : List ℕ) (top repeat line : ℕ) (u : CaptionUnit) (lent : List ℕ)
    → (r : Head) (exit end : List ℕ) → PictureInto film top repeat line u lent r exit end
    → r.refusal.number ≡ 0
    ↔ (((s : State) × (state_in film ≡ kept.State s)) × (top ≤ 1) × (repeat ≤ 1) × Carried (shown_in top repeat line) u)
picture-into-exactly = calling.picture-into-exactly

-- Where the bytes are a state's and the flags are bits it answers as `picture` does, and stores that answer: its units
-- and zeros behind them, and its state. So the theorems over runs (crate `film`) speak of these calls too.
pub picture-into-as-picture : (film : List ℕ) (top repeat line : ℕ) (u : CaptionUnit) (lent : List ℕ)
    → (r : Head) (exit end : List ℕ) → PictureInto film top repeat line u lent r exit end
    → (s : State) → state_in film ≡ kept.State s → top ≤ 1 → repeat ≤ 1
    → (a : Answer) → Shows s (shown_in top repeat line) u a
    → (r.refusal ≡ a.refusal)
    × (a.refusal.number ≡ 0
    → (r.m ≡ length (units_sent a.sent)) × (exit ≡ state_bytes a.state) × (end ≡ sent_bytes (units_sent a.sent)))
picture-into-as-picture = calling.picture-into-as-picture

-- A refused call counts nothing and changes neither the state nor the array.
pub picture-untouched : (film : List ℕ) (top repeat line : ℕ) (u : CaptionUnit) (lent : List ℕ)
    → (r : Head) (exit end : List ℕ) → PictureInto film top repeat line u lent r exit end
    → (r.refusal.number ≡ 0 → ⊥) → (r.m ≡ 0) × (exit ≡ film) × (end ≡ lent)
picture-untouched = calling.picture-untouched

-- A CLOSING

-- It is refused only where the bytes are no state's,
pub close-into-exactly : (film lent : List ℕ) (r : Head) (exit end : List ℕ) → CloseInto film lent r exit end
    → r.refusal.number ≡ 0 ↔ ((s : State) × (state_in film ≡ kept.State s))
close-into-exactly = calling.close-into-exactly

-- and else answers as `close` does, and stores that answer.
pub close-into-as-close : (film lent : List ℕ) (r : Head) (exit end : List ℕ) → CloseInto film lent r exit end
    → (s : State) → state_in film ≡ kept.State s → (a : Answer) → Closes s a
    → (r.refusal ≡ a.refusal)
    × (r.m ≡ length (units_sent a.sent)) × (exit ≡ state_bytes a.state) × (end ≡ sent_bytes (units_sent a.sent))
close-into-as-close = calling.close-into-as-close

-- A refused one changes nothing.
pub close-untouched : (film lent : List ℕ) (r : Head) (exit end : List ℕ) → CloseInto film lent r exit end
    → (r.refusal.number ≡ 0 → ⊥) → (r.m ≡ 0) × (exit ≡ film) × (end ≡ lent)
close-untouched = calling.close-untouched

-- ONE ANSWER

-- Two answers that keep a promise are equal, lent memory too.
pub picture-into-determined : (film : List ℕ) (top repeat line : ℕ) (u : CaptionUnit) (lent : List ℕ)
    → (a : Head) (exit end : List ℕ) (b : Head) (out fin : List ℕ)
    → PictureInto film top repeat line u lent a exit end → PictureInto film top repeat line u lent b out fin
    → (a ≡ b) × (exit ≡ out) × (end ≡ fin)
picture-into-determined = calling.picture-into-determined

pub close-into-determined : (film lent : List ℕ) (a : Head) (exit end : List ℕ) (b : Head) (out fin : List ℕ)
    → CloseInto film lent a exit end → CloseInto film lent b out fin → (a ≡ b) × (exit ≡ out) × (end ≡ fin)
close-into-determined = calling.close-into-determined
