-- One inner packet: what is legal is accepted and read as what it is, and words that are accepted are those of a legal one.
-- Assumes nothing.
use Prim.Native.Nat.{ℕ, ◌+◌, ◌-◌, ◌*◌, ◌/◌, ◌%◌, ◌≤◌, ◌<◌}
use native.Mathlib.Omega.{arith}
use mathlib.Core.Path.{◌≡◌, ◌∙◌, ap, ap₂, sym, subst, refl}
use mathlib.Core.Bool.{Bool, true, false, not, ◌&&◌}
use mathlib.Core.List.{List, [], ◌∷◌, ◌++◌, map}
use borrow.Author.Tests.{eq-eqb, eqb-true, le-ltb}
use lib.Dec.{eqb}
use lib.ListN.{length, get_or, take, drop, length-append, length-map}
use Rattle.lists.specs.Bytes.{Bytes}
use Rattle.lists.specs.Part.{part}
use Rattle.lists.proofs.Part.{length_part}
use Rattle.refusal.specs.Verdict.{Accepted}
use Rattle.refusal.specs.Checks.{and_then, first}
use Rattle.refusal.proofs.Checks.{both_hold, refuse_if-accepted, accepted-all, all-accepted, accepted-equal, accepted-within, accepted-and_then, and_then-assoc}
use Rattle.anc.specs.Words.{word_of, byte_of, words_verdict, sum_verdict, checksum_of}
use Rattle.anc.proofs.Words.{word_byte, words-bytes, bytes-bytes, words-accepted, accepted-words, sum-accepted}
use Rattle.sdp.specs.User.{user_verdict}
use Rattle.sdp.proofs.Accepting.{accepted-exactly}
use Rattle.multi.specs.Value.{Inner, LegalInner, Subtitles, inner_words}
use Rattle.multi.specs.Layout.{line_field, covered_inner, layout_inner}
use Rattle.multi.specs.Order.{subtitling_id, only_if, ncs_at, size_in, bytes_in, inner_checks}
use Rattle.multi.specs.Reading.{inner_verdict, read_inner}
use Rattle.multi.specs.Inside.{inner_form, inner_rules}
use Rattle.multi.proofs.Shape.{shaped, shaped-front, shaped-user, shaped-cover, shaped-ncs, shaped-whole, shaped-behind, shaped-length, shape}

-- the checks in two halves
pub inner-halves : (at : ℕ) (u : List ℕ) → inner_verdict at u ≡ and_then (inner_form at u) (inner_rules at u)
unfolding inner_verdict inner_form inner_rules
inner-halves at u = simp (and_then-assoc)

-- an inner packet that is accepted is all there
pub inner-long : (at : ℕ) (u : List ℕ) → inner_verdict at u ≡ Accepted → (4 ≤ length u) × (size_in u ≤ length u)
unfolding inner_verdict
inner-long at u e =
    let each = accepted-all (inner_checks at u) e in
    (accepted-within (length u) 4 _ _ each.0, accepted-within (length u) (size_in u) _ _ each.1.0)

-- and so is one whose form is
pub form-long : (at : ℕ) (u : List ℕ) → inner_form at u ≡ Accepted → (4 ≤ length u) × (size_in u ≤ length u)
unfolding inner_form
form-long at u e =
    let one = accepted-and_then _ _ e in
    let two = accepted-and_then _ _ one.1 in
    (accepted-within (length u) 4 _ _ one.0, accepted-within (length u) (size_in u) _ _ two.0)

-- NDC counts the user words of one that is all there
pub bytes_count : (u : List ℕ) → size_in u ≤ length u → length (bytes_in u) ≡ byte_of (get_or u 3 0)
bytes_count u long =
    let fits : ncs_at u ≤ length u = omega (arith, long) in
    length-map (part 4 (ncs_at u) u) byte_of ∙ length_part u 4 (ncs_at u) fits ∙ (let same : 4 + byte_of (get_or u 3 0) - 4 ≡ byte_of (get_or u 3 0) = omega arith in same)

pub inner-count : (u : List ℕ) → size_in u ≤ length u → inner_words (read_inner u) ≡ size_in u
unfolding read_inner
inner-count u long = ap (λ (n : ℕ). 5 + n) (bytes_count u long)

-- THE RULES OF SUBTITLES

-- the identifiers of a subtitling packet
pub id-subtitling : (did sdid : ℕ) → did ≡ 0x43 → sdid ≡ 0x02 → subtitling_id did sdid ≡ true
id-subtitling did sdid e f = ap₂ (λ (p q : Bool). p && q) (eq-eqb did 0x43 e) (eq-eqb sdid 0x02 f)

pub subtitling-id : (did sdid : ℕ) → subtitling_id did sdid ≡ true → (did ≡ 0x43) × (sdid ≡ 0x02)
subtitling-id did sdid e =
    let both = both_hold (eqb did 0x43) (eqb sdid 0x02) e in
    (eqb-true did 0x43 both.0, eqb-true sdid 0x02 both.1)

-- the rules that are asked for where the identifiers are theirs accept exactly what is legal there
abbrev pub Fitting : ℕ → ℕ → List ℕ → Type 0
Fitting did sdid bytes = did ≡ 0x43 → sdid ≡ 0x02 → Subtitles bytes

pub own-accepted : (dc did sdid : ℕ) (bytes : List ℕ) → Bytes bytes → Fitting did sdid bytes → only_if (subtitling_id did sdid) (user_verdict dc bytes) ≡ Accepted
own-accepted dc did sdid bytes h fits = go (subtitling_id did sdid) refl
  where
    go : (t : Bool) → subtitling_id did sdid ≡ t → only_if t (user_verdict dc bytes) ≡ Accepted
    go true e = let ids = subtitling-id did sdid e in (accepted-exactly dc bytes h).1 (fits ids.0 ids.1)
    go false e = refl

pub accepted-own : (dc did sdid : ℕ) (bytes : List ℕ) → Bytes bytes → only_if (subtitling_id did sdid) (user_verdict dc bytes) ≡ Accepted → Fitting did sdid bytes
accepted-own dc did sdid bytes h e two one =
    (accepted-exactly dc bytes h).0 (sym (ap (λ (t : Bool). only_if t (user_verdict dc bytes)) (id-subtitling did sdid two one)) ∙ e)

-- LINE/FIELD

line-back : (l f : ℕ) → l < 32 → (l + 32 * f) % 32 ≡ l
line-back l f h = omega (arith, h)

field_back : (l f : ℕ) → l < 32 → f < 2 → (l + 32 * f) / 32 % 2 ≡ f
field_back l f h g = let q : (l + 32 * f) / 32 ≡ f = omega (arith, h) in ap (λ (k : ℕ). k % 2) q ∙ (let low : f % 2 ≡ f = omega (arith, g) in low)

both-back : (b : ℕ) → b / 64 ≡ 0 → b % 32 + 32 * (b / 32 % 2) ≡ b
both-back b e = let low : b / 32 < 2 = omega (arith, e) in let same : b / 32 % 2 ≡ b / 32 = omega (arith, low) in omega (arith, same)

-- LEGAL INNER PACKETS

pub length-inner : (x : Inner) → length (layout_inner x) ≡ inner_words x
length-inner x = omega (arith, length-append (covered_inner x) (checksum_of (covered_inner x) ∷ []), length-map x.bytes word_of)

module _ (x : Inner) (h : LegalInner x) (short : length x.bytes < 256) (rest : List ℕ) where
  abbrev cs : ℕ
  cs = checksum_of (covered_inner x)

  abbrev laid : List ℕ
  laid = shaped (word_of (line_field x)) (word_of x.did) (word_of x.sdid) (word_of (length x.bytes)) (map word_of x.bytes) cs rest

  -- the layout, with something behind it
  pub inner-shaped : layout_inner x ++ rest ≡ laid
  inner-shaped =
      ap (λ (ys : List ℕ). word_of (line_field x) ∷ word_of x.did ∷ word_of x.sdid ∷ word_of (length x.bytes) ∷ ys) (go (map word_of x.bytes))
    where
      go : (ys : List ℕ) → (ys ++ (cs ∷ [])) ++ rest ≡ ys ++ (cs ∷ rest)
      go [] = refl
      go (y ∷ ys) = ap (λ (zs : List ℕ). y ∷ zs) (go ys)

  low : line_field x < 64
  low = omega (arith, h.line, h.field)

  count : byte_of (word_of (length x.bytes)) ≡ length x.bytes
  count = word_byte (length x.bytes) short

  counted : length (map word_of x.bytes) ≡ byte_of (word_of (length x.bytes))
  counted = length-map x.bytes word_of ∙ sym count

  -- the bytes of the words that NCS covers, with LINE/FIELD before them
  whole : Bytes (line_field x ∷ x.did ∷ x.sdid ∷ length x.bytes ∷ x.bytes)
  whole = (omega (arith, low), (h.did, (h.sdid, (short, h.bytes))))

  user : bytes_in laid ≡ x.bytes
  user = ap (map byte_of) (shaped-user (word_of (line_field x)) (word_of x.did) (word_of x.sdid) (word_of (length x.bytes)) (map word_of x.bytes) cs rest counted) ∙ words-bytes x.bytes h.bytes

  pub inner-accepted : (at : ℕ) → inner_verdict at (layout_inner x ++ rest) ≡ Accepted
  unfolding inner_verdict
  inner-accepted at =
      ap (λ (u : List ℕ). first (inner_checks at u)) inner-shaped
      ∙ all-accepted (inner_checks at laid) (
        refuse_if-accepted _ _ _ (le-ltb (length laid) 4 (omega (arith, long))),
        (
          refuse_if-accepted _ _ _ (le-ltb (length laid) (size_in laid) (omega (arith, long))),
          (
            ap (words_verdict at) (shaped-front (word_of (line_field x)) (word_of x.did) (word_of x.sdid) (word_of (length x.bytes)) (map word_of x.bytes) cs rest counted) ∙ words-accepted at (line_field x ∷ x.did ∷ x.sdid ∷ length x.bytes ∷ x.bytes) whole,
            (
              ap (sum_verdict (at + ncs_at laid)) (shaped-ncs (word_of (line_field x)) (word_of x.did) (word_of x.sdid) (word_of (length x.bytes)) (map word_of x.bytes) cs rest counted) ∙ sum-accepted (at + ncs_at laid) (covered_inner x),
              (
                refuse_if-accepted _ _ _ (ap not (eq-eqb (byte_of (word_of (line_field x)) / 64) 0 upper)),
                (
                  own,
                  (
                    refuse_if-accepted _ _ _
                        (ap not (eq-eqb (get_or laid (ncs_at laid) 0) (checksum_of (part 1 (ncs_at laid) laid))
                        (shaped-ncs (word_of (line_field x)) (word_of x.did) (word_of x.sdid) (word_of (length x.bytes)) (map word_of x.bytes) cs rest counted ∙ ap checksum_of (sym (shaped-cover (word_of (line_field x)) (word_of x.did) (word_of x.sdid) (word_of (length x.bytes)) (map word_of x.bytes) cs rest counted))))),
                    tt,
                  ),
                ),
              ),
            ),
          ),
        ),
      )
    where
      long : length laid ≡ size_in laid + length rest
      long = shaped-length (word_of (line_field x)) (word_of x.did) (word_of x.sdid) (word_of (length x.bytes)) (map word_of x.bytes) cs rest counted

      line_byte : byte_of (word_of (line_field x)) ≡ line_field x
      line_byte = word_byte (line_field x) (omega (arith, low))

      upper : byte_of (word_of (line_field x)) / 64 ≡ 0
      upper = omega (arith, line_byte, low)

      own : only_if (subtitling_id (byte_of (word_of x.did)) (byte_of (word_of x.sdid))) (user_verdict (at + 3) (bytes_in laid)) ≡ Accepted
      own =
          ap₂ (λ (p q : ℕ). only_if (subtitling_id p q) (user_verdict (at + 3) (bytes_in laid))) (word_byte x.did h.did) (word_byte x.sdid h.sdid)
          ∙ ap (λ (bs : List ℕ). only_if (subtitling_id x.did x.sdid) (user_verdict (at + 3) bs)) user
          ∙ own-accepted (at + 3) x.did x.sdid x.bytes h.bytes h.subtitles

  pub inner-size : size_in (layout_inner x ++ rest) ≡ inner_words x
  inner-size = ap (λ (n : ℕ). 5 + n) count

  pub inner-behind : drop (size_in (layout_inner x ++ rest)) (layout_inner x ++ rest) ≡ rest
  inner-behind = ap (λ (u : List ℕ). drop (size_in u) u) inner-shaped ∙ shaped-behind (word_of (line_field x)) (word_of x.did) (word_of x.sdid) (word_of (length x.bytes)) (map word_of x.bytes) cs rest counted

  pub inner-taken : take (size_in (layout_inner x ++ rest)) (layout_inner x ++ rest) ≡ layout_inner x
  inner-taken = ap (λ (u : List ℕ). take (size_in u) u) inner-shaped ∙ shaped-whole (word_of (line_field x)) (word_of x.did) (word_of x.sdid) (word_of (length x.bytes)) (map word_of x.bytes) cs rest counted

  pub inner_back : read_inner (layout_inner x ++ rest) ≡ x
  unfolding read_inner
  inner_back =
      let byte : byte_of (word_of (line_field x)) ≡ line_field x = word_byte (line_field x) (omega (arith, low)) in
      ap (λ (u : List ℕ). read_inner u) inner-shaped
      ∙ made (ap (λ (b : ℕ). b % 32) byte ∙ line-back x.line x.field.0 h.line) (ap (λ (b : ℕ). b / 32 % 2) byte ∙ field_back x.line x.field.0 h.line h.field)
    where
      made : byte_of (word_of (line_field x)) % 32 ≡ x.line → byte_of (word_of (line_field x)) / 32 % 2 ≡ x.field.0 → read_inner laid ≡ x
      made e f =
          ap₂ (λ (l k : ℕ). record { line = l; field = record { 0 = k }; did = byte_of (word_of x.did); sdid = byte_of (word_of x.sdid); bytes = bytes_in laid }) e f
          ∙ ap₂ (λ (p q : ℕ). record { line = x.line; field = x.field; did = p; sdid = q; bytes = bytes_in laid }) (word_byte x.did h.did) (word_byte x.sdid h.sdid)
          ∙ ap (λ (bs : List ℕ). record { line = x.line; field = x.field; did = x.did; sdid = x.sdid; bytes = bs }) user

-- WORDS THAT ARE ACCEPTED

pub record Accepts (u : List ℕ) : Type 0 where
  pub long : size_in u ≤ length u
  pub legal : LegalInner (read_inner u)
  pub same : layout_inner (read_inner u) ≡ take (size_in u) u

-- what the checks of words that are an inner packet and a rest let through
module _ (at a b c d : ℕ) (us : List ℕ) (x : ℕ) (rest : List ℕ) (counted : length us ≡ byte_of d) where
  abbrev u : List ℕ
  u = shaped a b c d us x rest

  accepted-shaped : inner_verdict at u ≡ Accepted → Accepts u
  unfolding inner_verdict read_inner
  accepted-shaped e =
      let each = accepted-all (inner_checks at u) e in
      let words : map word_of (map byte_of (a ∷ b ∷ c ∷ d ∷ us)) ≡ a ∷ b ∷ c ∷ d ∷ us =
      accepted-words at (a ∷ b ∷ c ∷ d ∷ us) (ap (words_verdict at) (sym (shaped-front a b c d us x rest counted)) ∙ each.1.1.0) in
      let upper : byte_of a / 64 ≡ 0 = accepted-equal (byte_of a / 64) 0 _ _ each.1.1.1.1.0 in
      let user : bytes_in u ≡ map byte_of us = ap (map byte_of) (shaped-user a b c d us x rest counted) in
      let bytes : Bytes (bytes_in u) = bytes-bytes (part 4 (ncs_at u) u) in
      let count : length (bytes_in u) ≡ byte_of d = ap length user ∙ length-map us byte_of ∙ counted in
      let ncs : x ≡ checksum_of (b ∷ c ∷ d ∷ us) =
      sym (shaped-ncs a b c d us x rest counted)
      ∙ accepted-equal (get_or u (ncs_at u) 0) (checksum_of (part 1 (ncs_at u) u)) _ _ each.1.1.1.1.1.1.0
      ∙ ap checksum_of (shaped-cover a b c d us x rest counted) in
      record {
        long = accepted-within (length u) (size_in u) _ _ each.1.0;
        legal =
            record {
              line = omega arith;
              field = omega arith;
              did = omega arith;
              sdid = omega arith;
              bytes = bytes;
              subtitles = accepted-own (at + 3) (byte_of b) (byte_of c) (bytes_in u) bytes each.1.1.1.1.1.0;
            };
        same = laid words upper user count ncs;
      }
    where
      laid : map word_of (map byte_of (a ∷ b ∷ c ∷ d ∷ us)) ≡ a ∷ b ∷ c ∷ d ∷ us → byte_of a / 64 ≡ 0 → bytes_in u ≡ map byte_of us → length (bytes_in u) ≡ byte_of d
          → x ≡ checksum_of (b ∷ c ∷ d ∷ us) → layout_inner (read_inner u) ≡ take (size_in u) u
      laid words upper user count ncs =
          let first : word_of (byte_of a % 32 + 32 * (byte_of a / 32 % 2)) ≡ a = ap word_of (both-back (byte_of a) upper) ∙ ap (λ (ws : List ℕ). get_or ws 0 0) words in
          let covers : map word_of (byte_of b ∷ byte_of c ∷ length (bytes_in u) ∷ bytes_in u) ≡ b ∷ c ∷ d ∷ us =
          ap₂ (λ (n : ℕ) (bs : List ℕ). map word_of (byte_of b ∷ byte_of c ∷ n ∷ bs)) count user ∙ ap (drop 1) words in
          ap₂ (λ (w : ℕ) (ws : List ℕ). w ∷ (ws ++ (checksum_of ws ∷ []))) first covers
          ∙ ap (λ (y : ℕ). a ∷ b ∷ c ∷ d ∷ (us ++ (y ∷ []))) (sym ncs)
          ∙ sym (shaped-whole a b c d us x rest counted)

pub accepted-inner : (at : ℕ) (u : List ℕ) → inner_verdict at u ≡ Accepted → Accepts u
accepted-inner at u e =
    let s = shape u fits.0 fits.1 in
    subst Accepts (sym s.same) (accepted-shaped at s.a s.b s.c s.d s.us s.x s.rest s.counted (sym (ap (inner_verdict at) s.same) ∙ e))
  where
    fits : (4 ≤ length u) × (size_in u ≤ length u)
    fits = inner-long at u e
