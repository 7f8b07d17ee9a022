-- The slots that were judged one after the other, and what is left of a value's verdict behind them.
-- Assumes nothing.
use Rattle.std.proofs.Common.{◌≡◌, ℕ, ◌+◌, ◌*◌, ◌<◌, ◌≤◌, ltb, List, [], map, length, get_or, take, drop, ap, ◌∙◌, arith, drop_of_length-le, take_all, le-ltb, lt-ltb, Err}
use lib.ListN.{length-map, get_or-map}
use Rattle.lists.proofs.Each.{each_at}
use Rattle.refusal.specs.declared.Reason.{Reason}
use Rattle.refusal.specs.declared.Reason.TheVariants.{NoRoom, Unholdable}
use Rattle.refusal.specs.declared.Excess.TheVariants.{Counter}
use Rattle.refusal.specs.declared.Item.{Item}
use Rattle.refusal.specs.declared.Item.TheVariants.{Whole}
use Rattle.refusal.specs.Verdict.{Verdict}
use Rattle.refusal.specs.Verdict.{Accepted, Refused}
use Rattle.refusal.specs.Checks.{refuse_if, and_then}
use Rattle.sdp.specs.declared.Packet.{Packet}
use Rattle.sdp.specs.Value.{Row, Typed, descriptor, empty_slot, together, held}
use Rattle.sdp.specs.Layout.{count}
use Rattle.sdp.specs.User.{mark_of}
use Rattle.sdp.specs.SlotVerdict.{slot_verdict, slots_verdict}
use Rattle.sdp.proofs.Numbers.{accepted-slot, length-held}
use Rattle.sdp.proofs.Descriptors.{count-front, count-more}
use Rattle.sdp.proofs.Vouched.{legal-mark}
use Rattle.subtitling.specs.Writing.{value_verdict}
use Rattle.subtitling.proofs.Held.{held-from, verdict-few, few-structures}

-- what is left of the slots' verdict from slot i on
abbrev pub slots_left : Packet → List (List ℕ) → ℕ → Verdict
slots_left p rows i = slots_verdict (drop i (held p rows).slots)

-- how many of the first i slots have a descriptor that is not 0
abbrev pub count_to : Packet → ℕ → ℕ
count_to p i = count (take i (map descriptor p.slots))

-- the check of the room
abbrev pub room_for : ℕ → ℕ → Verdict
room_for room k = refuse_if (ltb room (20 + 45 * k)) NoRoom Whole

pub counter-refused : (p : Packet) (rows : List (List ℕ)) (room : ℕ) → 65535 < p.counter → value_verdict (held p rows) room ≡ Refused (Unholdable Counter) Whole
unfolding value_verdict
counter-refused p rows room h = simp (lt-ltb _ _ h)

module _ (p : Packet) (rows : List (List ℕ)) (t : Typed p rows) where
  pub count_to-few : (i : ℕ) → count_to p i ≤ 5
  count_to-few i = omega (arith, count-front (map descriptor p.slots) i, few-structures p rows t)

  module _ (i : ℕ) (h : i < 5) where
    abbrev here : Verdict
    here = slot_verdict (together (get_or p.slots i empty_slot) (get_or rows i []))

    -- slot i decides first
    pub left-passed : here ≡ Accepted → slots_left p rows i ≡ slots_left p rows (i + 1)
    left-passed e = held-from p rows t i h ∙ ap (λ (v : Verdict). and_then v (slots_left p rows (i + 1))) e

    pub left-stopped : {why : Reason × Item} → here ≡ Err why → slots_left p rows i ≡ Err why
    left-stopped e = held-from p rows t i h ∙ ap (λ (v : Verdict). and_then v (slots_left p rows (i + 1))) e

    -- and where it is accepted, its mark counts it
    pub count_to-more : here ≡ Accepted → count_to p (i + 1) ≡ count_to p i + (get_or p.slots i empty_slot).full
    count_to-more e =
        let slot = get_or p.slots i empty_slot in
        let row = get_or rows i [] in
        let ds = map descriptor p.slots in
        let inside : i < length ds = omega (arith, length-map p.slots descriptor, t.slots) in
        let within : i < length rows = omega (arith, t.five) in
        let next = count-more ds i inside ∙ ap (λ (d : ℕ). count (take i ds) + mark_of d) (get_or-map descriptor p.slots i empty_slot) in
        let mark = legal-mark (together slot row) (accepted-slot (together slot row) (each_at Row [] rows t.each i within) e) in
        omega (arith, next, mark)

  -- behind the last slot there is nothing left
  pub left-none : slots_left p rows 5 ≡ Accepted
  left-none = let past : length (held p rows).slots ≤ 5 = omega (arith, length-held p rows t) in ap slots_verdict (drop_of_length-le (held p rows).slots past)

  pub count_to-all : count_to p 5 ≡ count (map descriptor p.slots)
  count_to-all =
      let ds = map descriptor p.slots in
      let all : length ds ≤ 5 = omega (arith, length-map p.slots descriptor, t.slots) in
      ap count (take_all 5 ds all)

  module _ (few : p.counter ≤ 65535) (room : ℕ) where
    -- the slots decide, then the room
    decided : value_verdict (held p rows) room ≡ and_then (slots_left p rows 0) (room_for room (count (map descriptor p.slots)))
    decided = verdict-few p rows t few room

    pub value-stopped : {why : Reason × Item} → slots_left p rows 0 ≡ Err why → value_verdict (held p rows) room ≡ Err why
    value-stopped e = decided ∙ ap (λ (v : Verdict). and_then v (room_for room (count (map descriptor p.slots)))) e

    pub value-passed : slots_left p rows 0 ≡ slots_left p rows 5 → value_verdict (held p rows) room ≡ room_for room (count (map descriptor p.slots))
    value-passed e = decided ∙ ap (λ (v : Verdict). and_then v (room_for room (count (map descriptor p.slots)))) (e ∙ left-none)

    pub value-fits : slots_left p rows 0 ≡ slots_left p rows 5 → 20 + 45 * count (map descriptor p.slots) ≤ room → value_verdict (held p rows) room ≡ Accepted
    value-fits e fits = value-passed e ∙ simp (le-ltb _ _ fits)

    pub value-short : slots_left p rows 0 ≡ slots_left p rows 5 → room < 20 + 45 * count (map descriptor p.slots) → value_verdict (held p rows) room ≡ Refused NoRoom Whole
    value-short e short = value-passed e ∙ simp (lt-ltb _ _ short)

-- for a function's tactics
pub ruleset judging = (counter-refused, left-passed, left-stopped, value-stopped, value-fits, value-short, few-structures)
