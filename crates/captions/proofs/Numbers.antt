-- The numbers that C passes are the value's, wherever they can be held.
-- Assumes nothing.
use Prim.Native.Nat.{ℕ, ◌-◌, ◌≤◌, ◌<◌, min}
use native.Mathlib.Nat.{eq-zero-or-pos}
use native.Mathlib.Omega.{arith}
use mathlib.Core.Path.{◌≡◌, ◌∙◌, ap, ap₂, sym, subst, refl}
use mathlib.Core.Logic.{◌⊎◌, inl, inr, ⊎_elim, ◌↔◌}
use mathlib.Core.List.{List, [], ◌∷◌, ◌++◌, append-nil}
use lib.ListN.{length, take}
use lib.Seq.{take_all}
use Rattle.lists.specs.Flat.{flat, taken}
use Rattle.lists.proofs.Flat.{length_taken, flat-taken, taken-flat}
use Rattle.kind.specs.declared.Kind.TheVariants.{Scte20}
use Rattle.scte20.specs.declared.Numbers.{Numbers}
use Rattle.scte20.specs.Value.{LegalCaptionUnit}
use Rattle.scte20.specs.Lent.{unit_in}
use Rattle.picture.specs.Lent.{Head}
use Rattle.sdp.specs.declared.Slot.{Slot}
use Rattle.sdp.specs.declared.Packet.{Packet}
use Rattle.captions.specs.declared.UnitHead.{UnitHead}
use Rattle.captions.specs.Calls.{numbers_in, slot_in, packet_in}
use Rattle.captions.specs.Arguments.{plain, slot_bytes}

-- A UNIT'S NUMBERS

-- an answer of an area, with its numbers in it
abbrev pub apart : Head Scte20 → UnitHead
apart h =
    record {
      refusal = h.refusal;
      present = h.present;
      reserved = h.numbers.reserved;
      vbi_data_flag = h.numbers.vbi_data_flag;
      n = h.numbers.n;
      z = h.numbers.z;
    }

module _ (reserved flag n z : ℕ) where
  pub numbers-told : reserved < 256 → flag < 256 → numbers_in reserved flag n z ≡ plain reserved flag n z
  unfolding numbers_in
  numbers-told r f =
      let same : min reserved 255 ≡ reserved = omega arith in
      let set : min flag 255 ≡ flag = omega arith in
      ap₂ (λ (a b : ℕ). plain a b n z) same set

  -- a larger one stays above what the reserved bits and the flag hold
  pub numbers-wide : (127 < reserved → 127 < (numbers_in reserved flag n z).reserved) × (1 < flag → 1 < (numbers_in reserved flag n z).vbi_data_flag)
  unfolding numbers_in
  numbers-wide = (λ h. omega arith, λ h. omega arith)

  -- those of a legal value are passed as they are
  pub legal-same : (records : List ℕ) → LegalCaptionUnit (unit_in (numbers_in reserved flag n z) records) → numbers_in reserved flag n z ≡ plain reserved flag n z
  unfolding numbers_in
  legal-same records h = numbers-told (omega (arith, h.value.reserved)) (omega (arith, h.value.flag))

  pub plain-same : (records : List ℕ) → LegalCaptionUnit (unit_in (plain reserved flag n z) records) → numbers_in reserved flag n z ≡ plain reserved flag n z
  plain-same records h = numbers-told (omega (arith, h.value.reserved)) (omega (arith, h.value.flag))

  -- so that a statement which holds of legal values alone is one of the numbers as they are passed
  pub plain-exactly : (records : List ℕ) (P : Numbers → Type 0) → ((v : Numbers) → P v → LegalCaptionUnit (unit_in v records)) → {Q : Type 0}
      → Q ↔ P (numbers_in reserved flag n z) → Q ↔ P (plain reserved flag n z)
  plain-exactly records P legal both = (
    λ q. let p = both.0 q in subst P (legal-same records (legal (numbers_in reserved flag n z) p)) p,
    λ p. both.1 (subst P (sym (plain-same records (legal (plain reserved flag n z) p))) p),
  )

-- SLOTS

slot-told : (s : Slot) (rest : List ℕ) → slot_in (slot_bytes s ++ rest) ≡ s
unfolding slot_in
slot-told s rest = refl

slot_same : (s : List ℕ) → 4 ≤ length s → slot_bytes (slot_in s) ≡ take 4 s
unfolding slot_in
slot_same [] h = let f : ⊥ = omega arith in absurd f
slot_same (a ∷ []) h = let f : ⊥ = omega arith in absurd f
slot_same (a ∷ b ∷ []) h = let f : ⊥ = omega arith in absurd f
slot_same (a ∷ b ∷ c ∷ []) h = let f : ⊥ = omega arith in absurd f
slot_same (a ∷ b ∷ c ∷ d ∷ s) h = refl

pub packet-told : (p : Packet) → length p.slots ≡ 5 → packet_in p.counter (flat slot_bytes p.slots) ≡ p
packet-told p five =
    let whole = flat-taken slot_bytes 4 (λ s. refl) slot_in slot-told p.slots [] in
    ap (λ (slots : List Slot). record { counter = p.counter; slots = slots })
    (ap₂ (λ (k : ℕ) (s : List ℕ). taken slot_in 4 k s) (sym five) (sym (append-nil (flat slot_bytes p.slots))) ∙ whole)

-- and the bytes that were passed are those of the slots
pub slots_same : (counter : ℕ) (slots : List ℕ) → length slots ≡ 20 → flat slot_bytes (packet_in counter slots).slots ≡ slots
slots_same counter slots e =
    ap (flat slot_bytes) (sym (take_all 5 (taken slot_in 4 5 slots) (omega (arith, length_taken slot_in 4 5 slots))))
    ∙ taken-flat slot_bytes 4 (λ s. refl) slot_in slot_same 5 5 slots (omega arith) (omega arith)
    ∙ take_all 20 slots (omega arith)

-- THE FLAGS BYTE

pub byte-or-wide : (f : ℕ) → (f < 256) ⊎ (255 < f)
byte-or-wide f = ⊎_elim (λ e. inl (let low : f < 256 = omega arith in low)) (λ h. inr (let high : 255 < f = omega arith in high)) (eq-zero-or-pos (f - 255))
