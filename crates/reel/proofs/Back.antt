-- A reel that was written is read back, payload after payload.
-- Assumes nothing.
use Prim.Native.Nat.{ℕ, ◌+◌, ◌*◌, ◌≤◌, ◌<◌}
use native.Mathlib.Omega.{arith}
use mathlib.Core.Path.{◌≡◌, ◌∙◌, ap, ap₂, sym, subst, subst₂, refl}
use mathlib.Core.List.{List, [], ◌∷◌, ◌++◌, map}
use lib.ListN.{length, take, drop}
use lib.Seq.{take-append_seam}
use Rattle.lists.specs.Each.{Each}
use Rattle.lists.specs.Bytes.{Bytes}
use Rattle.lists.proofs.Each.{each_append}
use Rattle.refusal.specs.declared.Written.{Written}
use Rattle.refusal.specs.Answers.{accepted}
use Rattle.line21.specs.declared.AccessUnit.{AccessUnit}
use Rattle.line21.specs.declared.Answer.{Answer}
use Rattle.line21.specs.Value.{LegalAccessUnit, Legal, stored, held}
use Rattle.line21.specs.Layout.{layout, layout_access_unit, layout_access_units}
use Rattle.line21.specs.Reading.{Reads}
use Rattle.line21.proofs.Answers.{stored-units}
use Rattle.line21.proofs.Back.{layout-read}
use Rattle.line21.proofs.Layouts.{length-layout_units}
use Rattle.line21.proofs.Determined.{read-determined}
use Rattle.reel.specs.Cut.{cut, joined, Sized}
use Rattle.reel.specs.Writing.{payload, reel, reel_layout, WritesReel}
use Rattle.reel.specs.OneByOne.{ReadOneByOne, done, more}
use Rattle.reel.proofs.Cutting.{cut-joined, cut-sized, cut-only, sized-few, joined-each}
use Rattle.reel.proofs.Writing.{fits-exactly, written-front}

-- a legal payload is bytes
byte-unit : (u : AccessUnit) → LegalAccessUnit u → Bytes (layout_access_unit u)
byte-unit u h =
    let numbers = h.numbers in
    let bytes = h.bytes in
    (omega (arith, numbers.valid_1, numbers.valid_2, numbers.pad), (bytes.field1-data1, (bytes.field1-data2, (bytes.field2-data1, (bytes.field2-data2, tt)))))

byte-units : (us : List AccessUnit) → Each LegalAccessUnit us → Bytes (layout_access_units us)
byte-units [] h = tt
byte-units (u ∷ us) h = each_append (λ (b : ℕ). b < 256) (layout_access_unit u) (layout_access_units us) (byte-unit u h.0) (byte-units us h.1)

module _ (flags size : ℕ) (byte : flags < 256) (few : size ≤ 291) where
  abbrev bytes_of : List AccessUnit → List ℕ
  bytes_of us = layout (payload flags us)

  -- the bytes of full payloads are of one length, and those of the last are not longer
  sized-bytes : (ps : List (List AccessUnit)) → Sized size ps → Sized (1 + 5 * size) (map bytes_of ps)
  sized-bytes [] h = tt
  sized-bytes (us ∷ []) h = (omega (arith, length-layout_units us), omega (arith, length-layout_units us, h.1))
  sized-bytes (us ∷ vs ∷ ps) h = (omega (arith, length-layout_units us, h.0), sized-bytes (vs ∷ ps) h.1)

  joined_bytes : (ps : List (List AccessUnit)) → joined (map bytes_of ps) ≡ reel_layout (map (payload flags) ps)
  joined_bytes [] = refl
  joined_bytes (us ∷ ps) = ap (λ (rest : List ℕ). bytes_of us ++ rest) (joined_bytes ps)

  -- each is read whole
  read-each : (ps : List (List AccessUnit)) → Each (λ (us : List AccessUnit). length us ≤ size) ps → Each (λ (us : List AccessUnit). Each LegalAccessUnit us) ps
      → ReadOneByOne flags (map bytes_of ps) (joined ps)
  read-each [] short legal = done
  read-each (us ∷ ps) short legal =
      let value : Legal (payload flags us) = record { byte = byte; count = omega (arith, short.0); each = legal.0 } in
      let answer : Answer = record { refusal = accepted; payload = stored (payload flags us) } in
      let reads : Reads (bytes_of us) answer = record { bytes = (byte, byte-units us legal.0); answer = sym (layout-read (payload flags us) value) } in
      subst (λ (vs : List AccessUnit). ReadOneByOne flags (bytes_of us ∷ map bytes_of ps) (vs ++ joined ps)) (stored-units (payload flags us))
      (more reads refl refl (read-each ps short.1 legal.1))

-- the units that reading gives are fixed
pub read_only : {f g : ℕ} {ss : List (List ℕ)} {us vs : List AccessUnit} → ReadOneByOne f ss us → ReadOneByOne g ss vs → us ≡ vs
read_only done done = refl
read_only (more {s} {ss} {a} {us} ra ea fa rest) (more {a = b} {us = vs} rb eb fb others) =
    ap₂ (λ (x y : List AccessUnit). x ++ y) (ap (λ (x : Answer). (held x.payload).units) (read-determined s a b ra rb)) (read_only rest others)

pub read_back : (flags size : ℕ) (us : List AccessUnit) (out : List ℕ) (r : Written) (exit : List ℕ)
    → WritesReel flags size us out r exit → r.refusal.number ≡ 0
    → ReadOneByOne flags (cut (1 + 5 * size) (take r.len exit)) us
read_back flags size us out r exit w e =
    let fits = (fits-exactly flags size us out r exit w).0 e in
    let wrote = written-front flags size us out r exit w e in
    let some = fits.some in
    let ps = cut size us in
    let bytes = map (bytes_of flags size w.byte fits.few) ps in
    let front : take r.len exit ≡ joined bytes =
    ap₂ (λ (n : ℕ) (xs : List ℕ). take n xs) (ap (λ (x : Written). x.len) wrote.0) wrote.1
    ∙ take-append_seam (reel_layout (reel flags size us)) (drop (length (reel_layout (reel flags size us))) out)
    ∙ sym (joined_bytes flags size w.byte fits.few ps)
    in
    let pieces : cut (1 + 5 * size) (take r.len exit) ≡ bytes =
    ap (cut (1 + 5 * size)) front ∙ cut-only (1 + 5 * size) (omega arith) bytes (sized-bytes flags size w.byte fits.few ps (cut-sized size some us))
    in
    let legal = joined-each LegalAccessUnit ps (subst (λ (xs : List AccessUnit). Each LegalAccessUnit xs) (sym (cut-joined size some us)) fits.legal) in
    subst₂ (λ (ss : List (List ℕ)) (xs : List AccessUnit). ReadOneByOne flags ss xs) (sym pieces) (cut-joined size some us)
    (read-each flags size w.byte fits.few ps (sized-few size some ps (cut-sized size some us)) legal)
