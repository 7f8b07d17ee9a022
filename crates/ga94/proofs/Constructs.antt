-- Constructs in a body: what is read of three bytes is laid as these three bytes, and what is laid is read again.
-- Assumes nothing.
use Prim.Native.Nat.{ℕ, zero, suc, ◌+◌, ◌*◌, ◌/◌, ◌%◌, ◌≤◌, ◌<◌}
use native.Mathlib.Nat.{add-zero}
use native.Mathlib.Omega.{arith}
use mathlib.Core.Path.{◌≡◌, ◌∙◌, ap, ap₂, sym, refl}
use mathlib.Core.Bool.{Bool, not}
use mathlib.Core.List.{List, [], ◌∷◌, ◌++◌}
use borrow.Author.Tests.{eq-eqb, ne_eqb, lt-ltb, le-ltb}
use lib.Dec.{eqb, ltb}
use lib.ListN.{length, get_or, drop, length-drop}
use lib.Seq.{drop-cons, drop-drop, get_or-drop}
use Rattle.lists.specs.Bytes.{Bytes}
use Rattle.lists.specs.Each.{Each}
use Rattle.lists.specs.Flat.{flat}
use Rattle.lists.proofs.Each.{each_at}
use Rattle.refusal.specs.Verdict.{Accepted, Refused}
use Rattle.refusal.specs.declared.Reason.TheVariants.{Ends, Unfixed}
use Rattle.refusal.specs.declared.Fixed.TheVariants.{Marker}
use Rattle.refusal.specs.declared.Item.TheVariants.{Bit}
use Rattle.refusal.specs.Checks.{refuse_if, first}
use Rattle.refusal.proofs.Checks.{accepted-and_then, and_then-accepted, accepted-within, accepted-equal, refuse_if-accepted}
use Rattle.ga94.specs.declared.Record.{Record}
use Rattle.ga94.specs.Value.{LegalRecord}
use Rattle.ga94.specs.Layout.{construct_bytes}
use Rattle.ga94.specs.Reading.{missing, construct_at, marker_verdict, constructs_verdict, records_at}

-- ---- whether an item is all there

module _ (i k : ℕ) (body : List ℕ) where
  pub accepted-missing : missing i k body ≡ Accepted → i + k ≤ length body
  unfolding missing
  accepted-missing e = accepted-within (length body) (i + k) Ends (Bit (8 * i)) e

  pub missing-none : i + k ≤ length body → missing i k body ≡ Accepted
  unfolding missing
  missing-none h = refuse_if-accepted (ltb (length body) (i + k)) Ends (Bit (8 * i)) (le-ltb (length body) (i + k) h)

  pub missing-some : length body < i + k → missing i k body ≡ Refused Ends (Bit (8 * i))
  unfolding missing
  missing-some h = ap (λ (t : Bool). refuse_if t Ends (Bit (8 * i))) (lt-ltb (length body) (i + k) h)

-- ---- one construct

-- the three bytes at an index
three : (i : ℕ) (s : List ℕ) → i + 3 ≤ length s → drop i s ≡ get_or s i 0 ∷ get_or s (i + 1) 0 ∷ get_or s (i + 2) 0 ∷ drop (i + 3) s
three i s h =
    let one : suc i ≡ i + 1 = omega arith in
    let two : suc (i + 1) ≡ i + 2 = omega arith in
    let last : suc (i + 2) ≡ i + 3 = omega arith in
    drop-cons s i 0 (omega arith)
    ∙ ap (λ (k : ℕ). get_or s i 0 ∷ drop k s) one
    ∙ ap (λ (t : List ℕ). get_or s i 0 ∷ t) (drop-cons s (i + 1) 0 (omega arith) ∙ ap (λ (k : ℕ). get_or s (i + 1) 0 ∷ drop k s) two)
    ∙ ap (λ (t : List ℕ). get_or s i 0 ∷ get_or s (i + 1) 0 ∷ t) (drop-cons s (i + 2) 0 (omega arith) ∙ ap (λ (k : ℕ). get_or s (i + 2) 0 ∷ drop k s) last)

-- five ones, and three bits below them
marked : (b : ℕ) → b / 8 ≡ 31 → 0xF8 + 4 * (b / 4 % 2) + b % 4 ≡ b
marked b e = omega arith

pub accepted-marker : (i : ℕ) (body : List ℕ) → marker_verdict i body ≡ Accepted → get_or body i 0 / 8 ≡ 31
unfolding marker_verdict
accepted-marker i body e = accepted-equal (get_or body i 0 / 8) 31 (Unfixed Marker) (Bit (8 * i)) e

pub marker-accepted : (i : ℕ) (body : List ℕ) → get_or body i 0 / 8 ≡ 31 → marker_verdict i body ≡ Accepted
unfolding marker_verdict
marker-accepted i body e = refuse_if-accepted (not (eqb (get_or body i 0 / 8) 31)) (Unfixed Marker) (Bit (8 * i)) (ap not (eq-eqb (get_or body i 0 / 8) 31 e))

pub marker-other : (i : ℕ) (body : List ℕ) → (get_or body i 0 / 8 ≡ 31 → ⊥) → marker_verdict i body ≡ Refused (Unfixed Marker) (Bit (8 * i))
unfolding marker_verdict
marker-other i body h = simp (ne_eqb (get_or body i 0 / 8) 31 h)

construct-again : (i : ℕ) (body : List ℕ) → i + 3 ≤ length body → get_or body i 0 / 8 ≡ 31 → drop i body ≡ construct_bytes (construct_at i body) ++ drop (i + 3) body
unfolding construct_at
construct-again i body h e =
    three i body h ∙ ap (λ (b : ℕ). b ∷ get_or body (i + 1) 0 ∷ get_or body (i + 2) 0 ∷ drop (i + 3) body) (sym (marked (get_or body i 0) e))

-- ---- constructs as they stand

pub length-records : (k i : ℕ) (body : List ℕ) → length (records_at k i body) ≡ k
length-records zero i body = refl
length-records (suc k) i body = ap suc (length-records k (i + 3) body)

-- what the checks of k + 1 constructs tell
record Step (k i : ℕ) (body : List ℕ) : Type 0 where
  here : i + 3 ≤ length body
  marker : get_or body i 0 / 8 ≡ 31
  later : constructs_verdict k (i + 3) body ≡ Accepted

accepted-constructs : (k i : ℕ) (body : List ℕ) → constructs_verdict (suc k) i body ≡ Accepted → Step k i body
accepted-constructs k i body e =
    let rest = constructs_verdict k (i + 3) body in
    let one = accepted-and_then (missing i 3 body) (first (marker_verdict i body ∷ rest ∷ [])) e in
    let two = accepted-and_then (marker_verdict i body) (first (rest ∷ [])) one.1 in
    let last = accepted-and_then rest Accepted two.1 in
    record { here = accepted-missing i 3 body one.0; marker = accepted-marker i body two.0; later = last.0 }

-- they are laid again as they stand
pub constructs-again : (k i : ℕ) (body : List ℕ) → constructs_verdict k i body ≡ Accepted → drop i body ≡ flat construct_bytes (records_at k i body) ++ drop (i + 3 * k) body
constructs-again zero i body e = let none : i ≡ i + 3 * 0 = omega arith in ap (λ (n : ℕ). drop n body) none
constructs-again (suc k) i body e =
    let known = accepted-constructs k i body e in
    let far : i + 3 + 3 * k ≡ i + 3 * suc k = omega arith in
    construct-again i body known.here known.marker
    ∙ ap (λ (t : List ℕ). construct_bytes (construct_at i body) ++ t)
    (constructs-again k (i + 3) body known.later ∙ ap (λ (n : ℕ). flat construct_bytes (records_at k (i + 3) body) ++ drop n body) far)

-- and are all there
pub constructs-within : (k i : ℕ) (body : List ℕ) → i ≤ length body → constructs_verdict k i body ≡ Accepted → i + 3 * k ≤ length body
constructs-within zero i body h e = omega arith
constructs-within (suc k) i body h e =
    let known = accepted-constructs k i body e in
    omega (arith, constructs-within k (i + 3) body known.here known.later)

-- a record that is read is legal
record-legal : (i : ℕ) (body : List ℕ) → Bytes body → i + 3 ≤ length body → LegalRecord (construct_at i body)
unfolding construct_at
record-legal i body h fits =
    record {
      valid = omega arith;
      type = omega arith;
      bytes =
          record {
            data-1 = each_at (λ (b : ℕ). b < 256) 0 body h (i + 1) (omega arith);
            data-2 = each_at (λ (b : ℕ). b < 256) 0 body h (i + 2) (omega arith);
          };
    }

pub records-legal : (k i : ℕ) (body : List ℕ) → Bytes body → constructs_verdict k i body ≡ Accepted → Each LegalRecord (records_at k i body)
records-legal zero i body h e = tt
records-legal (suc k) i body h e =
    let known = accepted-constructs k i body e in
    (record-legal i body h known.here, records-legal k (i + 3) body h known.later)

-- ---- constructs as they are laid

-- what stands at an index, of a list that begins with three bytes there
module _ (i a b c : ℕ) (body rest : List ℕ) (e : drop i body ≡ a ∷ b ∷ c ∷ rest) where
  at-0 : get_or body i 0 ≡ a
  at-0 = ap (λ (k : ℕ). get_or body k 0) (sym (add-zero i)) ∙ sym (get_or-drop i body 0 0) ∙ ap (λ (s : List ℕ). get_or s 0 0) e

  at_1 : get_or body (i + 1) 0 ≡ b
  at_1 = sym (get_or-drop i body 1 0) ∙ ap (λ (s : List ℕ). get_or s 1 0) e

  at-2 : get_or body (i + 2) 0 ≡ c
  at-2 = sym (get_or-drop i body 2 0) ∙ ap (λ (s : List ℕ). get_or s 2 0) e

  behind : drop (i + 3) body ≡ rest
  behind = sym (drop-drop 3 i body) ∙ ap (drop 3) e

  inside : i + 3 ≤ length body
  inside = omega (arith, length-drop i body, ap length e)

module _ (i : ℕ) (r : Record) (body rest : List ℕ) (legal : LegalRecord r) (e : drop i body ≡ construct_bytes r ++ rest) where
  abbrev head_byte : ℕ
  head_byte = 0xF8 + 4 * r.cc_valid + r.cc_type

  first_byte : get_or body i 0 ≡ head_byte
  first_byte = at-0 i head_byte r.cc_data_1 r.cc_data_2 body rest e

  record-back : construct_at i body ≡ r
  unfolding construct_at
  record-back =
      let small : r.cc_valid < 2 = legal.valid in
      let narrow : r.cc_type < 4 = legal.type in
      let valid : get_or body i 0 / 4 % 2 ≡ r.cc_valid = omega (arith, first_byte) in
      let type : get_or body i 0 % 4 ≡ r.cc_type = omega (arith, first_byte) in
      let one = at_1 i head_byte r.cc_data_1 r.cc_data_2 body rest e in
      let two = at-2 i head_byte r.cc_data_1 r.cc_data_2 body rest e in
      λ t. record { cc_valid = valid t; cc_type = type t; cc_data_1 = one t; cc_data_2 = two t }

  marker-back : get_or body i 0 / 8 ≡ 31
  marker-back =
      let small : r.cc_valid < 2 = legal.valid in
      let narrow : r.cc_type < 4 = legal.type in
      omega (arith, first_byte)

-- records that are laid at byte i are read there,
pub records-back : (rs : List Record) (i : ℕ) (body rest : List ℕ) → Each LegalRecord rs → drop i body ≡ flat construct_bytes rs ++ rest → records_at (length rs) i body ≡ rs
records-back [] i body rest legal e = refl
records-back (r ∷ rs) i body rest legal e =
    let tail = flat construct_bytes rs ++ rest in
    let next = behind i _ _ _ body tail e in
    ap₂ (λ (s : Record) (ss : List Record). s ∷ ss) (record-back i r body tail legal.0 e) (records-back rs (i + 3) body rest legal.1 next)

-- and accepted
pub constructs-accepted : (rs : List Record) (i : ℕ) (body rest : List ℕ) → Each LegalRecord rs → drop i body ≡ flat construct_bytes rs ++ rest
    → constructs_verdict (length rs) i body ≡ Accepted
constructs-accepted [] i body rest legal e = refl
constructs-accepted (r ∷ rs) i body rest legal e =
    let tail = flat construct_bytes rs ++ rest in
    let next = behind i _ _ _ body tail e in
    let later = constructs_verdict (length rs) (i + 3) body in
    and_then-accepted (missing i 3 body) (first (marker_verdict i body ∷ later ∷ [])) (missing-none i 3 body (inside i _ _ _ body tail e))
    (and_then-accepted (marker_verdict i body) (first (later ∷ [])) (marker-accepted i body (marker-back i r body tail legal.0 e))
    (and_then-accepted later Accepted (constructs-accepted rs (i + 3) body rest legal.1 next) refl))

-- what follows them
pub constructs-behind : (rs : List Record) (i : ℕ) (body rest : List ℕ) → drop i body ≡ flat construct_bytes rs ++ rest → drop (i + 3 * length rs) body ≡ rest
constructs-behind [] i body rest e = let none : i + 3 * 0 ≡ i = omega arith in ap (λ (n : ℕ). drop n body) none ∙ e
constructs-behind (r ∷ rs) i body rest e =
    let far : i + 3 * suc (length rs) ≡ i + 3 + 3 * length rs = omega arith in
    ap (λ (n : ℕ). drop n body) far ∙ constructs-behind rs (i + 3) body rest (behind i _ _ _ body (flat construct_bytes rs ++ rest) e)
