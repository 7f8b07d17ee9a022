-- One unit: which bytes the checks let through, what is read from those of a legal unit, and that what is read lays them
-- again.
-- Assumes nothing.
use Prim.Native.Nat.{ℕ, ◌+◌, ◌*◌, ◌/◌, ◌%◌, ◌≤◌, ◌<◌}
use native.Mathlib.Omega.{arith}
use mathlib.Core.Path.{◌≡◌, ◌∙◌, ap, ap₂, sym, subst, refl}
use mathlib.Core.Logic.{◌⊎◌, inl, inr, ⊎_elim}
use mathlib.Core.Bool.{Bool, true, false, not, ◌||◌, true≢false}
use mathlib.Core.List.{List, [], ◌∷◌, ◌++◌, map}
use borrow.Author.Tests.{eq-eqb, ne_eqb, eqb-true, le-ltb, not-false}
use lib.Dec.{eqb}
use lib.ListN.{length, get_or, take, length-map, length-append}
use lib.Seq.{length-take-le, take_at}
use Rattle.lists.specs.Each.{Each}
use Rattle.lists.specs.Bytes.{Bytes}
use Rattle.lists.proofs.Each.{each_take}
use Rattle.refusal.specs.Verdict.{Verdict}
use Rattle.refusal.specs.Verdict.{Accepted}
use Rattle.refusal.specs.declared.Item.{Item}
use Rattle.refusal.proofs.Checks.{accepted-refuse_if, refuse_if-accepted, accepted-all, all-accepted, accepted-equal, accepted-within}
use Rattle.refusal.proofs.Lines.{not-outside, among-inside}
use Rattle.bits.specs.Bits.{reversed}
use Rattle.bits.proofs.Turn.{reversed-lt, reversed-reversed}
use Rattle.pes.specs.Value.{DataUnit, teletext, stuffing, TeletextId, LegalLine, LegalUnit}
use Rattle.pes.specs.Layout.{layout_unit}
use Rattle.pes.specs.Order.{teletext_id, known_id, body_checks, unit_checks}
use Rattle.pes.specs.Reading.{line_verdict, unit_verdict, unit_of, read_unit}

-- A ROW TURNED ROUND

pub turned-bytes : (row : List ℕ) → Bytes row → Bytes (map reversed row)
turned-bytes [] h = tt
turned-bytes (b ∷ row) h = (reversed-lt b h.0, turned-bytes row h.1)

-- twice, it is what it was
pub turned-twice : (row : List ℕ) → Bytes row → map reversed (map reversed row) ≡ row
turned-twice [] h = refl
turned-twice (b ∷ row) h = ap₂ (λ (x : ℕ) (xs : List ℕ). x ∷ xs) (reversed-reversed b h.0) (turned-twice row h.1)

-- LINES AND IDS

pub accepted-line : (item : Item) (l : ℕ) → line_verdict item l ≡ Accepted → LegalLine l
unfolding line_verdict
accepted-line item l e = not-outside 7 l (accepted-refuse_if _ _ _ e)

pub line-accepted : (item : Item) (l : ℕ) → LegalLine l → line_verdict item l ≡ Accepted
unfolding line_verdict
line-accepted item l h = refuse_if-accepted _ _ _ (among-inside 7 l h)

pub line-below : (l : ℕ) → LegalLine l → l < 32
line-below l h = ⊎_elim (λ e. omega arith) (λ w. omega (arith, w.1)) h

either : (a b : Bool) → (a || b) ≡ true → (a ≡ true) ⊎ (b ≡ true)
either true b e = inl refl
either false b e = inr e

second : (a b : Bool) → b ≡ true → (a || b) ≡ true
second true b e = refl
second false b e = e

pub teletext-id : (id : ℕ) → teletext_id id ≡ true → TeletextId id
teletext-id id e = ⊎_elim (λ t. inl (eqb-true id 0x02 t)) (λ t. inr (eqb-true id 0x03 t)) (either (eqb id 0x02) (eqb id 0x03) e)

pub id-teletext : (id : ℕ) → TeletextId id → teletext_id id ≡ true
id-teletext id h =
    ⊎_elim (λ e. ap (λ (t : Bool). t || eqb id 0x03) (eq-eqb id 0x02 e)) (λ e. second (eqb id 0x02) (eqb id 0x03) (eq-eqb id 0x03 e)) h

pub not-stuffing : (id : ℕ) → TeletextId id → eqb id 0xFF ≡ false
not-stuffing id h = ne_eqb id 0xFF (λ f. ⊎_elim (λ e. omega (arith, e, f)) (λ e. omega (arith, e, f)) h)

-- WHAT THE CHECKS LET THROUGH

-- behind data_unit_length, by whether the unit is stuffing
pub record RightBody (u : List ℕ) : Type 0 where
  pub reserved : get_or u 2 0 / 64 ≡ 3
  pub line : LegalLine (get_or u 2 0 % 32)
  pub framing : get_or u 3 0 ≡ 0xE4

abbrev pub Body : Bool → List ℕ → Type 0
Body true u = Unit {0}
Body false u = RightBody u

pub record Whole (u : List ℕ) : Type 0 where
  pub known : known_id (get_or u 0 0) ≡ true
  pub long : 46 ≤ length u
  pub size : get_or u 1 0 ≡ 0x2C
  pub body : Body (eqb (get_or u 0 0) 0xFF) u

abbrev Accepts : List Verdict → Type 0
Accepts checks = Each (λ (v : Verdict). v ≡ Accepted) checks

body-accepted : (stuffed : Bool) (at : ℕ) (u : List ℕ) → 46 ≤ length u → Body stuffed u → Accepts (body_checks stuffed at u)
body-accepted true at u long h = (refuse_if-accepted _ _ _ (le-ltb (length u) 46 long), tt)
body-accepted false at u long h =
    let three-there : 3 ≤ length u = omega arith in
    let four-there : 4 ≤ length u = omega arith in
    let reserved = refuse_if-accepted _ _ _ (ap not (eq-eqb (get_or u 2 0 / 64) 3 h.reserved)) in
    let framing = refuse_if-accepted _ _ _ (ap not (eq-eqb (get_or u 3 0) 0xE4 h.framing)) in
    let row = refuse_if-accepted _ _ _ (le-ltb (length u) 46 long) in
    let three = refuse_if-accepted _ _ _ (le-ltb (length u) 3 three-there) in
    let four = refuse_if-accepted _ _ _ (le-ltb (length u) 4 four-there) in
    (three, (reserved, (refuse_if-accepted _ _ _ (among-inside 7 _ h.line), (four, (framing, (row, tt))))))

pub whole-accepted : (at : ℕ) (u : List ℕ) → Whole u → unit_verdict at u ≡ Accepted
unfolding unit_verdict
whole-accepted at u h =
    let long = h.long in
    let two = refuse_if-accepted _ _ _ (le-ltb (length u) 2 (omega arith)) in
    let size = refuse_if-accepted _ _ _ (ap not (eq-eqb (get_or u 1 0) 0x2C h.size)) in
    all-accepted (unit_checks at u) (refuse_if-accepted _ _ _ (ap not h.known), (two, (size, body-accepted (eqb (get_or u 0 0) 0xFF) at u long h.body)))

accepted-body : (stuffed : Bool) (at : ℕ) (u : List ℕ) → Accepts (body_checks stuffed at u) → (46 ≤ length u) × Body stuffed u
accepted-body true at u h = (accepted-within (length u) 46 _ _ h.0, tt)
accepted-body false at u h = (
  accepted-within (length u) 46 _ _ h.1.1.1.1.1.0,
  record {
    reserved = accepted-equal (get_or u 2 0 / 64) 3 _ _ h.1.0;
    line = not-outside 7 _ (accepted-refuse_if _ _ _ h.1.1.0);
    framing = accepted-equal (get_or u 3 0) 0xE4 _ _ h.1.1.1.1.0;
  },
)

pub accepted-whole : (at : ℕ) (u : List ℕ) → unit_verdict at u ≡ Accepted → Whole u
unfolding unit_verdict
accepted-whole at u e =
    let h = accepted-all (unit_checks at u) e in
    let both = accepted-body (eqb (get_or u 0 0) 0xFF) at u h.1.1.1 in
    record {
      known = not-false (known_id (get_or u 0 0)) (accepted-refuse_if _ _ _ h.0);
      long = both.0;
      size = accepted-equal (get_or u 1 0) 0x2C _ _ h.1.1.0;
      body = both.1;
    }

-- SIZES

-- a unit with as many bytes as the stream has for it
abbrev pub Sized : DataUnit → Type 0
Sized (teletext t) = length t.row ≡ 42
Sized (stuffing bytes) = length bytes ≡ 44

pub legal-sized : (x : DataUnit) → LegalUnit x → Sized x
legal-sized (teletext t) h = h.places
legal-sized (stuffing bytes) h = h.places

pub length-layout : (x : DataUnit) → Sized x → length (layout_unit x) ≡ 46
length-layout (teletext t) h = omega (arith, length-map t.row reversed)
length-layout (stuffing bytes) h = omega arith

-- READING WHAT WAS LAID

-- the byte of parity and line tells both, behind two ones
module _ (parity line : ℕ) (bit : parity < 2) (low : line < 32) where
  pub line-byte : 192 + 32 * parity + line < 256
  line-byte = omega arith

  ones : (192 + 32 * parity + line) / 64 ≡ 3
  ones = omega arith

  parity-told : (192 + 32 * parity + line) / 32 % 2 ≡ parity
  parity-told = omega arith

  line-told : (192 + 32 * parity + line) % 32 ≡ line
  line-told = omega arith

pub read_back : (x : DataUnit) (rest : List ℕ) → LegalUnit x → read_unit (layout_unit x ++ rest) ≡ x
unfolding read_unit
read_back (teletext t) rest h =
    let low = line-below t.line_offset h.line in
    let size : length (map reversed t.row) ≡ 42 = length-map t.row reversed ∙ h.places in
    ap (λ (k : Bool). unit_of k (layout_unit (teletext t) ++ rest)) (not-stuffing t.data_unit_id h.id)
    ∙ (λ i.
    teletext
    (record {
      data_unit_id = t.data_unit_id;
      field_parity = parity-told t.field_parity t.line_offset h.parity low i;
      line_offset = line-told t.field_parity t.line_offset h.parity low i;
      row = (ap (map reversed) (take_at (map reversed t.row) rest 42 size) ∙ turned-twice t.row h.bytes) i;
    }))
read_back (stuffing bytes) rest h = ap stuffing (take_at bytes rest 44 h.places)

legal-whole : (x : DataUnit) (rest : List ℕ) → LegalUnit x → Whole (layout_unit x ++ rest)
legal-whole (teletext t) rest h =
    let low = line-below t.line_offset h.line in
    let size : length (map reversed t.row ++ rest) ≡ 42 + length rest =
    length-append (map reversed t.row) rest ∙ ap (λ (k : ℕ). k + length rest) (length-map t.row reversed ∙ h.places) in
    record {
      known = ap (λ (k : Bool). k || eqb t.data_unit_id 0xFF) (id-teletext t.data_unit_id h.id);
      long = omega (arith, size);
      size = refl;
      body =
          subst (λ (k : Bool). Body k (layout_unit (teletext t) ++ rest)) (sym (not-stuffing t.data_unit_id h.id))
          (record {
            reserved = ones t.field_parity t.line_offset h.parity low;
            line = subst LegalLine (sym (line-told t.field_parity t.line_offset h.parity low)) h.line;
            framing = refl;
          });
    }
legal-whole (stuffing bytes) rest h =
    record {
      known = refl;
      long = omega (arith, length-append bytes rest, h.places);
      size = refl;
      body = tt;
    }

pub unit-accepted : (at : ℕ) (x : DataUnit) (rest : List ℕ) → LegalUnit x → unit_verdict at (layout_unit x ++ rest) ≡ Accepted
unit-accepted at x rest h = whole-accepted at (layout_unit x ++ rest) (legal-whole x rest h)

-- LAYING WHAT WAS READ

-- the byte is put together again
line-again : (b : ℕ) → b / 64 ≡ 3 → 192 + 32 * (b / 32 % 2) + b % 32 ≡ b
line-again b e = omega arith

again : (stuffed : Bool) (u : List ℕ) → Bytes u → Whole u → Body stuffed u → eqb (get_or u 0 0) 0xFF ≡ stuffed
    → (layout_unit (unit_of stuffed u) ≡ take 46 u) × LegalUnit (unit_of stuffed u)
again stuffed [] bytes h body e = let f : ⊥ = omega (arith, h.long) in absurd f
again stuffed (a ∷ []) bytes h body e = let f : ⊥ = omega (arith, h.long) in absurd f
again true (a ∷ b ∷ u) bytes h body e =
    let long : 44 ≤ length u = omega (arith, h.long) in (
      ap₂ (λ (x y : ℕ). x ∷ y ∷ take 44 u) (sym (eqb-true a 0xFF e)) (sym h.size),
      record { places = length-take-le 44 u long; carried = each_take (λ (x : ℕ). x < 256) 44 u bytes.1.1 },
    )
again false (a ∷ b ∷ []) bytes h body e = let f : ⊥ = omega (arith, h.long) in absurd f
again false (a ∷ b ∷ c ∷ []) bytes h body e = let f : ⊥ = omega (arith, h.long) in absurd f
again false (a ∷ b ∷ c ∷ d ∷ u) bytes h body e =
    let long : 42 ≤ length u = omega (arith, h.long) in
    let row = each_take (λ (x : ℕ). x < 256) 42 u bytes.1.1.1.1 in
    let known : TeletextId a = teletext-id a (⊎_elim (λ t. t) (λ t. absurd (true≢false (sym t ∙ e))) (either (teletext_id a) (eqb a 0xFF) h.known)) in (
      (λ i. a ∷ sym h.size i ∷ line-again c body.reserved i ∷ sym body.framing i ∷ turned-twice (take 42 u) row i),
      record {
        id = known;
        parity = omega arith;
        line = body.line;
        places = length-map (take 42 u) reversed ∙ length-take-le 42 u long;
        bytes = turned-bytes (take 42 u) row;
      },
    )

pub laid-again : (at : ℕ) (u : List ℕ) → Bytes u → unit_verdict at u ≡ Accepted → (layout_unit (read_unit u) ≡ take 46 u) × LegalUnit (read_unit u)
unfolding read_unit
laid-again at u bytes e =
    let h = accepted-whole at u e in
    again (eqb (get_or u 0 0) 0xFF) u bytes h h.body refl
