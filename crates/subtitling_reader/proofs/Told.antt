-- What an accepted packet tells of its user words, the slots and rows that they hold, and the bytes of a row.
-- Assumes nothing.
use Rattle.std.proofs.Common.{◌≡◌, ℕ, ◌+◌, ◌-◌, ◌*◌, ◌≤◌, ◌<◌, List, map, length, get_or, take, drop, sym, ap, ap₂, ◌∙◌, ◌%◌, set, arith}
use lib.ListN.{length-map, length-drop}
use lib.Seq.{length-take-le, get_or-take}
use Rattle.lists.specs.Part.{part}
use Rattle.lists.specs.Room.{filled}
use Rattle.lists.proofs.Fill.{filled_next, filled-all}
use Rattle.refusal.specs.Verdict.{Accepted}
use Rattle.anc.specs.Words.{byte_of}
use Rattle.sdp.specs.declared.Slot.{Slot}
use Rattle.sdp.specs.declared.Packet.{Packet}
use Rattle.sdp.specs.Layout.{user_length}
use Rattle.sdp.specs.User.{descriptors_in, structures_in, slot_of, counter_in}
use Rattle.sdp.proofs.Bytes.{byte_at, byte-from}
use Rattle.sdp.proofs.Descriptors.{length-descriptors}
use Rattle.subtitling.specs.Reading.{packet_verdict}
use Rattle.subtitling.proofs.Accepted.{accepted-packet}
use Rattle.subtitling.proofs.Rows.{rows_in}

module _ (s : List ℕ) (e : packet_verdict s ≡ Accepted) where
  pub told-long : 20 ≤ length s
  told-long = (accepted-packet s e).form.long

  pub told-user : 13 ≤ length (part 6 (length s - 1) s)
  told-user = omega (arith, (accepted-packet s e).head.long, length-map (part 6 (length s - 1) s) byte_of)

  pub told-whole : length (part 6 (length s - 1) s) ≡ user_length (structures_in (map byte_of (part 6 (length s - 1) s)))
  told-whole = sym (length-map (part 6 (length s - 1) s) byte_of) ∙ (accepted-packet s e).head.whole

-- for a function's tactics
pub ruleset telling = (told-long, told-user, told-whole)

-- the slots of the five descriptors, and their rows
abbrev pub all_slots : List ℕ → List Slot
all_slots user = map slot_of (descriptors_in (map byte_of user))

pub length-all_slots : (user : List ℕ) → 13 ≤ length user → length (all_slots user) ≡ 5
length-all_slots user h = length-map (descriptors_in (map byte_of user)) slot_of ∙ length-descriptors user (omega arith)

abbrev pub descriptors : List ℕ → List ℕ
descriptors user = descriptors_in (map byte_of user)

abbrev pub all_rows : List ℕ → List (List ℕ)
all_rows user = rows_in (descriptors user) (drop 9 (map byte_of user))

-- the two words before the last
pub counter-words : (user : List ℕ) → 256 * byte_of (get_or user (length user - 3) 0) + byte_of (get_or user (length user - 2) 0) ≡ counter_in (map byte_of user)
unfolding counter_in
counter-words user =
    let u = map byte_of user in
    sym
    (ap (λ (n : ℕ). 256 * get_or u (n - 3) 0 + get_or u (n - 2) 0) (length-map user byte_of)
    ∙ ap₂ (λ (high low : ℕ). 256 * high + low) (byte_at user (length user - 3)) (byte_at user (length user - 2)))

unfoldable pub made : ℕ → List Slot → Packet
made counter slots = record { counter = counter; slots = slots }

-- the 42 bytes from an index on
abbrev pub row_bytes : List ℕ → ℕ → List ℕ
row_bytes user at = take 42 (drop at (map byte_of user))

module _ (user : List ℕ) (at : ℕ) (inside : at + 42 ≤ length user) where
  length-row_bytes : length (row_bytes user at) ≡ 42
  length-row_bytes =
      let rest = drop at (map byte_of user) in
      let fits : 42 ≤ length rest = omega (arith, length-drop at (map byte_of user), length-map user byte_of) in
      length-take-le 42 rest fits

  -- one byte more
  pub row-more : (row : List ℕ) (j : ℕ) → j < 42 → row ≡ filled (take j (row_bytes user at)) 42 0 → set row j (get_or user (at + j) 0 % 256) ≡ filled (take (j + 1) (row_bytes user at)) 42 0
  row-more row j below e =
      let there : j < length (row_bytes user at) = omega (arith, length-row_bytes) in
      let byte = get_or-take 42 (drop at (map byte_of user)) j 0 below ∙ byte-from user at j in
      filled_next (row_bytes user at) 42 0 j below there row (byte_of (get_or user (at + j) 0)) e (sym byte)

  pub row-all : (row : List ℕ) → row ≡ filled (take 42 (row_bytes user at)) 42 0 → row ≡ row_bytes user at
  row-all row e = e ∙ filled-all (row_bytes user at) 42 0 length-row_bytes 42 (omega arith)

-- for a function's tactics
pub ruleset rowing = (row-more, row-all)
