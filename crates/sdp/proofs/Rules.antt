-- The rules over user bytes let through exactly the user bytes of legal values, and the value that they hold is the one that was laid.
-- Assumes nothing.
use Prim.Native.Nat.{ℕ, ◌+◌, ◌-◌, ◌*◌, ◌/◌, ◌%◌, ◌≤◌, ◌<◌}
use native.Mathlib.Omega.{arith}
use mathlib.Core.Path.{◌≡◌, ◌∙◌, ap, ap₂, sym}
use mathlib.Core.List.{List, [], ◌∷◌, ◌++◌, append_assoc}
use borrow.Author.Tests.{eq-eqb, le-ltb}
use lib.ListN.{length, get_or, drop, length-append, length-map, length-drop, take-append-drop, drop_of_length-le}
use lib.Seq.{get_or-append-add, get_or-drop, take_at, drop_at, drop-drop, drop-cons}
use Rattle.lists.specs.Bytes.{Bytes}
use Rattle.lists.specs.Sum.{sum}
use Rattle.lists.proofs.Each.{each_at, each_take, each-drop}
use Rattle.lists.proofs.Part.{length_part}
use Rattle.lists.proofs.Sum.{sum-append}
use Rattle.refusal.specs.Verdict.{Accepted}
use Rattle.refusal.proofs.Checks.{and_then-accepted}
use Rattle.sdp.specs.Value.{SlotRow, Sdp, descriptor, Legal}
use Rattle.sdp.specs.Layout.{descriptors_of, count, structures, user_length, footer, body, sdp_checksum, user_bytes}
use Rattle.sdp.specs.User.{descriptors_verdict, structures_verdict, descriptors_in, structures_in, head_verdict, tail_verdict, user_verdict, slots_in, counter_in, user_value}
use Rattle.sdp.proofs.Slots.{lines-accepted}
use Rattle.sdp.proofs.Structures.{Laid, structures-accepted, structures-slots, structures-laid}
use Rattle.sdp.proofs.Accepted.{Head, Tail}
use Rattle.sdp.proofs.Numbers.{user-size}

-- LAID, THEN READ

-- the descriptors stand at bytes 4 to 8, and the structures behind them
five-in : (ds rest : List ℕ) (a b c d : ℕ) → length ds ≡ 5 → descriptors_in (a ∷ b ∷ c ∷ d ∷ (ds ++ rest)) ≡ ds
five-in ds rest a b c d e = take_at ds rest 5 e

behind-in : (ds rest : List ℕ) (a b c d : ℕ) → length ds ≡ 5 → drop 9 (a ∷ b ∷ c ∷ d ∷ (ds ++ rest)) ≡ rest
behind-in ds rest a b c d e = drop_at ds rest 5 e

-- a legal value's user bytes, up to the footer and from it on
module _ (v : Sdp) (h : Legal v) where
  abbrev ds : List ℕ
  ds = descriptors_of v.slots

  abbrev last : List ℕ
  last = 0x74 ∷ v.counter / 256 ∷ v.counter % 256 ∷ sdp_checksum (body v) ∷ []

  abbrev front : List ℕ
  front = 0x51 ∷ 0x15 ∷ user_length (count ds) ∷ 0x02 ∷ (ds ++ structures v.slots)

  five : length ds ≡ 5
  five = length-map v.slots _ ∙ h.five

  -- the same bytes with the descriptors at their front, and with the footer at their end
  parted : user_bytes v ≡ 0x51 ∷ 0x15 ∷ user_length (count ds) ∷ 0x02 ∷ (ds ++ (structures v.slots ++ last))
  parted =
      ap (λ (r : List ℕ). 0x51 ∷ 0x15 ∷ user_length (count ds) ∷ 0x02 ∷ r)
      (append_assoc ds (structures v.slots ++ footer v.counter) (sdp_checksum (body v) ∷ [])
      ∙ ap (λ (r : List ℕ). ds ++ r) (append_assoc (structures v.slots) (footer v.counter) (sdp_checksum (body v) ∷ [])))

  ended : user_bytes v ≡ front ++ last
  ended = parted ∙ ap (λ (r : List ℕ). 0x51 ∷ 0x15 ∷ user_length (count ds) ∷ 0x02 ∷ r) (sym (append_assoc ds (structures v.slots) last))

  user-descriptors : descriptors_in (user_bytes v) ≡ ds
  user-descriptors = ap descriptors_in parted ∙ five-in ds (structures v.slots ++ last) 0x51 0x15 (user_length (count ds)) 0x02 five

  user-behind : drop 9 (user_bytes v) ≡ structures v.slots ++ last
  user-behind = ap (λ (u : List ℕ). drop 9 u) parted ∙ behind-in ds (structures v.slots ++ last) 0x51 0x15 (user_length (count ds)) 0x02 five

  length_front : length front + 4 ≡ length (user_bytes v)
  length_front = sym (ap length ended ∙ length-append front last)

  -- the byte i of the footer
  user-last : (i : ℕ) → get_or (user_bytes v) (length front + i) 0 ≡ get_or last i 0
  user-last i = ap (λ (u : List ℕ). get_or u (length front + i) 0) ended ∙ get_or-append-add front last i 0

  at_front : (k : ℕ) → k ≤ 4 → length (user_bytes v) - k ≡ length front + (4 - k)
  at_front k few = omega (arith, length_front)

  pub user-sum : sum (user_bytes v) % 256 ≡ 0
  unfolding sdp_checksum
  user-sum = omega (arith, sum-append (body v) (sdp_checksum (body v) ∷ []))

  user-counter : counter_in (user_bytes v) ≡ v.counter
  unfolding counter_in
  user-counter =
      let three : 3 ≤ 4 = omega arith in
      let two : 2 ≤ 4 = omega arith in
      let high = ap (λ (i : ℕ). get_or (user_bytes v) i 0) (at_front 3 three) ∙ user-last 1 in
      let low = ap (λ (i : ℕ). get_or (user_bytes v) i 0) (at_front 2 two) ∙ user-last 2 in
      omega (arith, high, low)

  user-head : (dc : ℕ) → head_verdict dc (user_bytes v) ≡ Accepted
  unfolding head_verdict
  user-head dc =
      let long : 13 ≤ length (user_bytes v) = omega (arith, user-size v h) in
      let lines = ap (descriptors_verdict (dc + 5)) user-descriptors ∙ lines-accepted (dc + 5) v.slots h.each in
      let fits : length (user_bytes v) ≡ user_length (structures_in (user_bytes v)) = user-size v h ∙ ap (λ (d : List ℕ). user_length (count d)) (sym user-descriptors) in
      simp (le-ltb (length (user_bytes v)) 13 long, eq-eqb (user_length (count ds)) (length (user_bytes v)) (sym (user-size v h)), lines, eq-eqb (length (user_bytes v)) (user_length (structures_in (user_bytes v))) fits)

  user-tail : (dc : ℕ) → tail_verdict dc (user_bytes v) ≡ Accepted
  unfolding tail_verdict
  user-tail dc =
      let fixed = ap₂ (λ (d r : List ℕ). structures_verdict (dc + 10) (count d) r) user-descriptors user-behind ∙ structures-accepted (dc + 10) v.slots h.each last in
      let four : 4 ≤ 4 = omega arith in
      let foot = ap (λ (i : ℕ). get_or (user_bytes v) i 0) (at_front 4 four) ∙ user-last 0 in
      simp (fixed, eq-eqb (get_or (user_bytes v) (length (user_bytes v) - 4) 0) 0x74 foot, eq-eqb (sum (user_bytes v) % 256) 0 user-sum)

  -- they are let through,
  pub user-accepted : (dc : ℕ) → user_verdict dc (user_bytes v) ≡ Accepted
  user-accepted dc = and_then-accepted (head_verdict dc (user_bytes v)) (tail_verdict dc (user_bytes v)) (user-head dc) (user-tail dc)

  -- and hold the value
  pub user-value : user_value (user_bytes v) ≡ v
  user-value =
      let slots = ap₂ slots_in user-descriptors user-behind ∙ structures-slots v.slots h.each last in
      λ i. record { counter = user-counter i; slots = slots i }

-- READ, THEN LAID

begun : (u : List ℕ) → 4 ≤ length u → u ≡ get_or u 0 0 ∷ get_or u 1 0 ∷ get_or u 2 0 ∷ get_or u 3 0 ∷ drop 4 u
begun u h =
    drop-cons u 0 0 (omega arith)
    ∙ ap (λ (r : List ℕ). get_or u 0 0 ∷ r)
    (drop-cons u 1 0 (omega arith)
    ∙ ap (λ (r : List ℕ). get_or u 1 0 ∷ r)
    (drop-cons u 2 0 (omega arith) ∙ ap (λ (r : List ℕ). get_or u 2 0 ∷ r) (drop-cons u 3 0 (omega arith))))

four : (w : List ℕ) → length w ≡ 4 → w ≡ get_or w 0 0 ∷ get_or w 1 0 ∷ get_or w 2 0 ∷ get_or w 3 0 ∷ []
four w e =
    let long : 4 ≤ length w = omega arith in
    let past : length w ≤ 4 = omega arith in
    let none : drop 4 w ≡ [] = drop_of_length-le w past in
    begun w long ∙ ap (λ (r : List ℕ). get_or w 0 0 ∷ get_or w 1 0 ∷ get_or w 2 0 ∷ get_or w 3 0 ∷ r) none

-- what the accepted user bytes hold is legal, and they are its layout
pub record Users (u : List ℕ) : Type 0 where
  pub same : user_bytes (user_value u) ≡ u
  pub legal : Legal (user_value u)

module _ (dc : ℕ) (u : List ℕ) (bytes : Bytes u) (head : Head dc u) (tail : Tail dc u) where
  abbrev k : ℕ
  k = structures_in u

  abbrev xs : List SlotRow
  xs = slots_in (descriptors_in u) (drop 9 u)

  laid : Laid (descriptors_in u) (drop 9 u)
  laid =
      let room : 45 * k ≤ length (drop 9 u) = omega (arith, length-drop 9 u, head.whole) in
      structures-laid (dc + 10) (dc + 5) (descriptors_in u) (drop 9 u)
      (each_take (λ (b : ℕ). b < 256) 5 (drop 4 u) (each-drop (λ (b : ℕ). b < 256) 4 u bytes))
      (each-drop (λ (b : ℕ). b < 256) 9 u bytes)
      head.lines
      tail.fixed
      room

  byte_at : (i : ℕ) → i < length u → get_or u i 0 < 256
  byte_at i h = each_at (λ (b : ℕ). b < 256) 0 u bytes i h

  abbrev high : ℕ
  high = get_or u (length u - 3) 0

  abbrev low : ℕ
  low = get_or u (length u - 2) 0

  abbrev check : ℕ
  check = get_or u (length u - 1) 0

  end-at : (j n : ℕ) → 9 + (45 * k + j) ≡ n → get_or (drop (45 * k) (drop 9 u)) j 0 ≡ get_or u n 0
  end-at j n e = get_or-drop (45 * k) (drop 9 u) j 0 ∙ get_or-drop 9 u (45 * k + j) 0 ∙ ap (λ (i : ℕ). get_or u i 0) e

  -- the last four bytes
  end : drop (45 * k) (drop 9 u) ≡ 0x74 ∷ high ∷ low ∷ check ∷ []
  end =
      let rest = drop (45 * k) (drop 9 u) in
      let sized : length rest ≡ 4 = omega (arith, length-drop (45 * k) (drop 9 u), length-drop 9 u, head.whole) in
      let a : get_or rest 0 0 ≡ 0x74 = end-at 0 (length u - 4) (omega (arith, head.whole)) ∙ tail.footer in
      let b : get_or rest 1 0 ≡ high = end-at 1 (length u - 3) (omega (arith, head.whole)) in
      let c : get_or rest 2 0 ≡ low = end-at 2 (length u - 2) (omega (arith, head.whole)) in
      let d : get_or rest 3 0 ≡ check = end-at 3 (length u - 1) (omega (arith, head.whole)) in
      four rest sized ∙ (λ i. a i ∷ b i ∷ c i ∷ d i ∷ [])

  counter-below : counter_in u < 65536
  unfolding counter_in
  counter-below =
      let h : high < 256 = byte_at (length u - 3) (omega (arith, head.long)) in
      let l : low < 256 = byte_at (length u - 2) (omega (arith, head.long)) in
      omega arith

  footer-back : footer (counter_in u) ++ (check ∷ []) ≡ 0x74 ∷ high ∷ low ∷ check ∷ []
  unfolding counter_in
  footer-back =
      let l : low < 256 = byte_at (length u - 2) (omega (arith, head.long)) in
      let a : (256 * high + low) / 256 ≡ high = omega arith in
      let b : (256 * high + low) % 256 ≡ low = omega arith in
      λ i. 0x74 ∷ a i ∷ b i ∷ check ∷ []

  -- what was read, laid out again up to the checksum
  body_back : body (user_value u) ++ (check ∷ []) ≡ u
  body_back =
      let ds = descriptors_in u in
      let made : ℕ → List ℕ → List ℕ = λ n r. 0x51 ∷ 0x15 ∷ n ∷ 0x02 ∷ r in
      let long : 4 ≤ length u = omega (arith, head.long) in
      let counted : user_length (count ds) ≡ get_or u 2 0 = sym (head.counted ∙ head.whole) in
      let behind : drop 5 (drop 4 u) ≡ drop 9 u = drop-drop 5 4 u in
      ap (λ (d : List ℕ). made (user_length (count d)) ((d ++ (structures xs ++ footer (counter_in u))) ++ (check ∷ []))) laid.told
      ∙ ap (made (user_length (count ds)))
      (append_assoc ds (structures xs ++ footer (counter_in u)) (check ∷ [])
      ∙ ap (λ (r : List ℕ). ds ++ r)
      (append_assoc (structures xs) (footer (counter_in u)) (check ∷ [])
      ∙ ap (λ (r : List ℕ). structures xs ++ r) (footer-back ∙ sym end)
      ∙ laid.same
      ∙ sym behind)
      ∙ take-append-drop 5 (drop 4 u))
      ∙ (λ i. sym head.first i ∷ sym head.second i ∷ counted i ∷ sym head.format i ∷ drop 4 u)
      ∙ sym (begun u long)

  check-right : check ≡ sdp_checksum (body (user_value u))
  unfolding sdp_checksum
  check-right =
      let c : check < 256 = byte_at (length u - 1) (omega (arith, head.long)) in
      omega (arith, sum-append (body (user_value u)) (check ∷ []), ap sum body_back, tail.total)

  pub user-back : Users u
  user-back =
      let told = ap length laid.told in
      let five : length xs ≡ 5 = sym (length-map xs (λ (x : SlotRow). descriptor x.slot)) ∙ told ∙ length_part u 4 9 (omega (arith, head.long)) in
      record {
        same = ap (λ (c : ℕ). body (user_value u) ++ (c ∷ [])) (sym check-right) ∙ body_back;
        legal = record { count = counter-below; five = five; each = laid.legal };
      }
