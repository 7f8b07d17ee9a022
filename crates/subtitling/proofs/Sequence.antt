-- The definitions of reading and writing check in the order of RULES.
-- Assumes nothing.
use Prim.Native.Nat.{ℕ, ◌+◌, ◌-◌, ◌≤◌}
use native.Mathlib.Omega.{arith}
use mathlib.Core.Path.{◌≡◌, ◌∙◌, ap, sym, subst}
use mathlib.Core.List.{List, ◌∷◌}
use borrow.Author.Tests.{le-ltb}
use lib.ListN.{length, get_or, length-map}
use Rattle.lists.specs.Each.{Each}
use Rattle.lists.specs.Part.{part}
use Rattle.lists.proofs.Each.{each_map, append-each}
use Rattle.lists.proofs.Part.{length_part}
use Rattle.refusal.specs.Verdict.{Verdict}
use Rattle.refusal.specs.Verdict.{Accepted}
use Rattle.refusal.specs.Checks.{and_then, first}
use Rattle.refusal.proofs.Checks.{and_then-assoc, and_then-last, accepted-and_then, and_then-refused}
use Rattle.refusal.proofs.Sequence.{first-append, and_then-agree, first-refused}
use Rattle.anc.specs.Words.{byte_of}
use Rattle.anc.proofs.Sequence.{words-order, sum-order}
use Rattle.sdp.specs.declared.Packet.{Packet}
use Rattle.sdp.specs.Value.{SlotRow, Sdp, LegalSlot, held, Row, Typed}
use Rattle.sdp.specs.User.{head_verdict, tail_verdict, user_verdict}
use Rattle.sdp.specs.SlotVerdict.{slot_verdict, slots_verdict}
use Rattle.sdp.proofs.Numbers.{slot-accepted, RowSlot, beside-each}
use Rattle.sdp.proofs.Sequence.{descriptors-order, structures-order, slots-order}
use Rattle.subtitling.specs.Reading.{user_in, form_verdict, header_verdict, checksum_verdict, packet_verdict}
use Rattle.subtitling.specs.Writing.{value_verdict}
use Rattle.subtitling.specs.Order.{outer_checks, inner_checks, reading_checks, writing_checks, Reached}
use Rattle.subtitling.proofs.Accepted.{accepted-form, accepted-header}

-- READING

-- the packet around the user words
outer-order : (s : List ℕ) → and_then (form_verdict s) (header_verdict s) ≡ first (outer_checks s)
unfolding form_verdict header_verdict
outer-order s = simp (words-order, sum-order, first-append, and_then-assoc, and_then-last)

-- where it is accepted there are as many user words as DC says, at least 13
pub length-user_in : (s : List ℕ) → 20 ≤ length s → length (user_in s) ≡ length s - 7
length-user_in s long = length-map (part 6 (length s - 1) s) byte_of ∙ length_part s 6 (length s - 1) (omega arith) ∙ omega arith

inner-order : (s : List ℕ) → 20 ≤ length s → byte_of (get_or s 5 0) ≡ length s - 7 → and_then (user_verdict 5 (user_in s)) (checksum_verdict s) ≡ first (inner_checks s)
unfolding head_verdict tail_verdict checksum_verdict
inner-order s long dc =
    let n = length s - 7 in
    let some : 13 ≤ n = omega arith in
    let footer : n - 4 ≡ length s - 11 = omega arith in
    let place : 5 + (n - 3) ≡ length s - 5 = omega arith in
    let last : 5 + n ≡ length s - 2 = omega arith in
    simp (length-user_in s long, dc, le-ltb n 13 some, footer, place, last, descriptors-order, structures-order, first-append, and_then-assoc, and_then-last)

pub reading-order : (s : List ℕ) → packet_verdict s ≡ first (reading_checks s)
unfolding packet_verdict
reading-order s =
    let outer = and_then (form_verdict s) (header_verdict s) in
    let inner = and_then (user_verdict 5 (user_in s)) (checksum_verdict s) in
    simp and_then-last (sym (and_then-assoc (form_verdict s) (header_verdict s) inner))
    ∙ and_then-agree outer inner (first (inner_checks s)) (λ e. reached (accepted-and_then (form_verdict s) (header_verdict s) e))
    ∙ ap (λ (v : Verdict). and_then v (first (inner_checks s))) (outer-order s)
    ∙ sym (first-append (outer_checks s) (inner_checks s))
  where
    reached : (form_verdict s ≡ Accepted) × (header_verdict s ≡ Accepted) → and_then (user_verdict 5 (user_in s)) (checksum_verdict s) ≡ first (inner_checks s)
    reached both = inner-order s (accepted-form s both.0).long (accepted-header s both.1).dc

-- WRITING

pub writing-order : (v : Sdp) (room : ℕ) → value_verdict v room ≡ first (writing_checks v room)
unfolding value_verdict
writing-order v room = simp (slots-order, first-append, and_then-last)

-- a slot that is reached and does not pass decides
pub slot_next : (v : Sdp) (room : ℕ) (x : SlotRow) → Reached v x → (slot_verdict x ≡ Accepted → ⊥) → value_verdict v room ≡ slot_verdict x
unfolding value_verdict
slot_next v room x at refused =
    let passed = each_map LegalSlot (λ (y : SlotRow). slot_verdict y ≡ Accepted) slot-accepted at.before at.passed in
    let here : slots_verdict v.slots ≡ slot_verdict x = ap slots_verdict at.here ∙ first-refused slot_verdict at.before x at.after passed refused in
    simp (le-ltb 65535 v.counter at.few, here) (and_then-refused (slot_verdict x) _ refused)

-- its row is one
pub slot_row : (p : Packet) (rows : List (List ℕ)) → Typed p rows → (x : SlotRow) → Reached (held p rows) x → Row x.row
slot_row p rows t x at =
    (append-each RowSlot at.before (x ∷ at.after) (subst (λ (xs : List SlotRow). Each RowSlot xs) at.here (beside-each p.slots rows t.each))).1.0
