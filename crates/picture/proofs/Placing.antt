-- What the code needs to know of the caption unit that was found: where it lies, and that what its content refuses is not far behind it.
-- Assumes nothing.
use Prim.Native.Nat.{ℕ, ◌+◌, ◌≤◌}
use native.Mathlib.Omega.{arith}
use mathlib.Core.Path.{◌≡◌, ◌∙◌, ap, sym, subst}
use mathlib.Core.List.{List}
use lib.ListN.{length}
use Rattle.lists.specs.Bytes.{Bytes}
use Rattle.lists.specs.Part.{part}
use Rattle.lists.proofs.Part.{length_part}
use Rattle.refusal.specs.declared.Reason.{Reason}
use Rattle.refusal.specs.declared.Item.{Item}
use Rattle.refusal.specs.Verdict.{Verdict}
use Rattle.refusal.specs.Verdict.{Accepted, Refused}
use Rattle.units.specs.declared.Found.TheVariants as found
use Rattle.units.proofs.Splits.{length-around}
use Rattle.units.proofs.Spans.{Alone, found_at}
use Rattle.kind.specs.declared.Kind.{Kind}
use Rattle.kind.specs.Ours.{ours}
use Rattle.picture.specs.Kinds.{content_verdict}
use Rattle.picture.specs.Reading.{captions_in}
use Rattle.picture.specs.Inside.{Near, NearVerdict}
use Rattle.picture.proofs.Contents.{content-placed}
use Rattle.picture.proofs.Areas.{alone-foreign}

module _ (k : Kind) where
  module _ (s : List ℕ) (unit end : ℕ) (e : captions_in k s ≡ found.At unit end) where
    pub unit-within : (unit + 4 ≤ end) × (end ≤ length s) × (length s ≤ 16384)
    unit-within =
        let w : Alone (ours k) s unit end = found_at (ours k) s unit end e in
        let all = sym (ap length w.whole) ∙ length-around w.before w.body w.after in
        (omega (arith, w.ends), omega (arith, all, w.starts, w.ends), w.short)

    body-short : length (part (unit + 4) end s) ≤ 16384
    body-short = omega (arith, length_part s (unit + 4) end unit-within.1, unit-within.1, unit-within.2)

    pub body_near : Bytes s → (reason : Reason) (item : Item) → content_verdict k (part (unit + 4) end s) ≡ Refused reason item → Near item
    body_near bytes reason item refused =
        let w : Alone (ours k) s unit end = found_at (ours k) s unit end e in
        let mine : Bytes (part (unit + 4) end s) = subst Bytes (sym w.lies) (alone-foreign k s bytes unit end w).1 in
        let bit = content-placed k (part (unit + 4) end s) mine body-short reason item refused in
        let within : bit.bit ≤ 1048576 = omega (arith, bit.within, body-short) in
        subst Near (sym bit.here) within

    pub verdict-near : Bytes s → (v : Verdict) → v ≡ content_verdict k (part (unit + 4) end s) → NearVerdict v
    verdict-near bytes Accepted judged = tt
    verdict-near bytes (Refused reason item) judged = body_near bytes reason item (sym judged)
