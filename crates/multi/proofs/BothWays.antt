-- Reading what was written, and writing what was read.
-- Assumes nothing.
use Prim.Native.Nat.{ℕ, ◌≤◌}
use mathlib.Core.Path.{◌≡◌, ◌∙◌, ap, ap₂, sym, subst, refl}
use mathlib.Core.List.{List}
use lib.ListN.{length, take, length-map}
use Rattle.lists.specs.Room.{filled, over}
use Rattle.lists.proofs.Lay.{take-over}
use Rattle.refusal.specs.declared.Written.{Written}
use Rattle.refusal.specs.Answers.{accepted, written}
use Rattle.multi.specs.declared.Answer.{Answer}
use Rattle.multi.specs.Layout.{layout}
use Rattle.multi.specs.Reading.{value_of}
use Rattle.multi.specs.Lent.{heads_of, no_head, Told, inner_of, stored, held, ReadsInto}
use Rattle.multi.specs.Writing.{Writes}
use Rattle.multi.proofs.Whole.{accepted-multi}
use Rattle.multi.proofs.Lending.{heads-front, stored-held, stored-legal}
use Rattle.multi.proofs.Accepting.{the-answer, answered, verdict-accepted}
use Rattle.multi.proofs.Writing.{writes-exactly, written-front}

pub written_read : (t : Told) (out : List ℕ) (w : Written) (end : List ℕ) → Writes t out w end → w.refusal.number ≡ 0
    → (lent : List (List ℕ)) (r : Answer) (exit : List (List ℕ)) → ReadsInto (take w.len end) lent r exit
    → (r ≡ record { refusal = accepted; priority = t.priority; n = length t.heads })
    × (exit ≡ filled (heads_of 7 (held t).inners) 50 no_head)
written_read t out w end writes zero lent r exit reads =
    let v = held t in
    let legal = ((writes-exactly t out w end writes).0 zero).0 in
    let front = written-front t out w end writes zero in
    let words : take w.len end ≡ layout v =
    ap₂ (λ (k : ℕ) (s : List ℕ). take k s) (ap (λ (x : Written). x.len) front.0) front.1 ∙ take-over (layout v) out (length (layout v)) refl in
    let answer = the-answer v legal.value lent r exit (subst (λ (s : List ℕ). ReadsInto s lent r exit) words reads) in
    (answer.0 ∙ ap (λ (k : ℕ). record { refusal = accepted; priority = t.priority; n = k }) (length-map t.heads (inner_of t.words)), answer.1)

pub read-written : (s : List ℕ) (lent : List (List ℕ)) (a : Answer) (exit : List (List ℕ)) → ReadsInto s lent a exit → a.refusal.number ≡ 0
    → (out : List ℕ) (r : Written) (end : List ℕ) → Writes (record { priority = a.priority; heads = take a.n exit; words = s }) out r end
    → length s ≤ length out → (r ≡ written (length s)) × (end ≡ over s out)
read-written s lent a exit reads zero out r end writes fits =
    let e = verdict-accepted s lent a exit reads zero in
    let h = accepted-multi s e in
    let v = value_of s in
    let both = answered s lent a exit reads e in
    let heads : take a.n exit ≡ heads_of 7 v.inners =
    ap₂ (λ (k : ℕ) (xs : List (List ℕ)). take k xs) (ap (λ (x : Answer). x.n) both.0) both.1 ∙ heads-front 7 v.inners (length v.inners) refl in
    let same : ◌≡◌ {A = Told} (record { priority = a.priority; heads = take a.n exit; words = s }) (stored v) =
    ap₂ (λ (p : ℕ) (xs : List (List ℕ)). record { priority = p; heads = xs; words = s }) (ap (λ (x : Answer). x.priority) both.0) heads
    ∙ ap (λ (ws : List ℕ). record { priority = v.priority; heads = heads_of 7 v.inners; words = ws }) (sym h.same) in
    let again = subst (λ (t : Told). Writes t out r end) same writes in
    let laid : layout (held (stored v)) ≡ s = ap layout (stored-held v h.legal) ∙ h.same in
    let room : length (layout (held (stored v))) ≤ length out = subst (λ (xs : List ℕ). length xs ≤ length out) (sym laid) fits in
    let front = written-front (stored v) out r end again ((writes-exactly (stored v) out r end again).1 (stored-legal v h.legal, room)) in
    (front.0 ∙ ap (λ (xs : List ℕ). written (length xs)) laid, front.1 ∙ ap (λ (xs : List ℕ). over xs out) laid)
