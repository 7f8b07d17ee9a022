-- A result with a body in it is judged as the body is with so many bytes before and after it; and where that accepts, how many bytes the body has
-- and where it stands.
-- Assumes nothing.
use Rattle.std.specs.Prelude.{Ok, Err}
use Prim.Native.Nat.{ℕ, ◌+◌, ◌-◌, ◌≤◌}
use native.Mathlib.Omega.{arith}
use mathlib.Core.Path.{◌≡◌, ◌∙◌, ap, ap₂, sym, subst}
use mathlib.Core.List.{List}
use lib.ListN.{length}
use Rattle.lists.specs.Room.{over, over_at}
use Rattle.refusal.specs.declared.Reason.{Reason}
use Rattle.refusal.specs.declared.Item.{Item}
use Rattle.refusal.specs.declared.Refusal.{Refusal}
use Rattle.refusal.specs.declared.Written.{Written}
use Rattle.refusal.specs.Verdict.{Verdict}
use Rattle.refusal.specs.Verdict.{Accepted}
use Rattle.refusal.specs.Numbers.{refusal_of}
use Rattle.refusal.specs.Answers.{Judged, Wrote, accepted, counted_of, left_of, verdict_of, len_of, laid_of, body_left}
use Rattle.refusal.proofs.Outputs.{laid-verdict}
use Rattle.kind.specs.declared.Kind.{Kind}
use Rattle.units.specs.Layout.{started}
use Rattle.around.specs.Around.{exchanged, surrounded}
use Rattle.around.proofs.Laying.{started-over}
use Rattle.around.proofs.Surrounding.{length_exchanged, surrounded-body}
use Rattle.picture.specs.Kinds.{Content, body_of, CaptionUnit, held, write_verdict}
use Rattle.picture.specs.Writing.{unit_bytes, Writes}
use Rattle.picture.specs.Inside.{WritesBody, Exchanges}
use Rattle.picture.proofs.Contents.{accepted-write}

-- a body was written
module _ (k : Kind) {u : CaptionUnit k} {before after : ℕ} {out : List ℕ} {laid : Judged ℕ} {exit : List ℕ} (j : WritesBody k u before after out laid exit) where
  abbrev judged : Verdict
  judged = write_verdict k u (before + length (body_of k (held k u)) + after) (length out)

  verdict-told : judged ≡ verdict_of laid
  verdict-told = sym (ap verdict_of j.counted ∙ laid-verdict judged (body_of k (held k u)))

  passed : (n : ℕ) → laid ≡ Ok n → judged ≡ Accepted
  passed n e = verdict-told ∙ ap verdict_of e

  -- where it is not refused, it stands there
  pub body-there : (n : ℕ) → laid ≡ Ok n → (n ≡ length (body_of k (held k u))) × (exit ≡ over_at before (body_of k (held k u)) out)
  body-there n e = (
    ap len_of (sym e ∙ j.counted ∙ ap (λ (v : Verdict). laid_of v (body_of k (held k u))) (passed n e)),
    j.left ∙ ap (λ (v : Verdict). body_left v before (body_of k (held k u)) out) (passed n e),
  )

  -- and this is the whole with it
  module _ (whole : List ℕ) (size : before + length (body_of k (held k u)) + after ≡ length whole) where
    -- the verdict is the whole's
    whole-told : write_verdict k u (length whole) (length out) ≡ verdict_of laid
    whole-told = ap (λ (n : ℕ). write_verdict k u n (length out)) (sym size) ∙ verdict-told

    -- where it refuses, nothing was stored
    pub whole-refused : (why : Reason × Item) → laid ≡ Err why → (answer : Written) → answer ≡ record { refusal = refusal_of (Err why); len = 0 }
        → Wrote (write_verdict k u (length whole) (length out)) whole out answer exit
    whole-refused (reason, item) e answer refused =
        let told = whole-told ∙ ap verdict_of e in
        let same : exit ≡ out = j.left ∙ ap (λ (v : Verdict). body_left v before (body_of k (held k u)) out) (verdict-told ∙ ap verdict_of e) in
        record {
          counted = refused ∙ ap (λ (v : Verdict). counted_of v whole) (sym told);
          left = same ∙ ap (λ (v : Verdict). left_of v whole out) (sym told);
        }

    module _ (n : ℕ) (e : laid ≡ Ok n) where
      -- where it does not, the whole fits,
      pub whole-fits : (length whole ≤ 16384) × (length whole ≤ length out)
      whole-fits =
          let fits = accepted-write k u _ _ j.typed (passed n e) in
          subst (λ (n : ℕ). (n ≤ 16384) × (n ≤ length out)) size (fits.1, fits.2)

      -- and once it is laid the promise is kept
      pub whole-laid : (refusal : Refusal) → refusal ≡ accepted → (m : ℕ) (end : List ℕ) → length whole ≡ m → end ≡ over whole out
          → Wrote (write_verdict k u (length whole) (length out)) whole out (record { refusal = refusal; len = m }) end
      whole-laid refusal right m end long there =
          let told = whole-told ∙ ap verdict_of e in
          record {
            counted = ap₂ (λ (r : Refusal) (m : ℕ). record { refusal = r; len = m }) right (sym long) ∙ ap (λ (v : Verdict). counted_of v whole) (sym told);
            left = there ∙ ap (λ (v : Verdict). left_of v whole out) (sym told);
          }

-- A UNIT ALONE

unit-size : (k : Kind) (c : Content k) → 4 + length (body_of k c) + 0 ≡ length (unit_bytes k c)
unit-size k c = omega arith

module _ (k : Kind) {u : CaptionUnit k} {out : List ℕ} {laid : Judged ℕ} {exit : List ℕ} (j : WritesBody k u 4 0 out laid exit) where
  pub unit-refused : (why : Reason × Item) → laid ≡ Err why → (answer : Written) → answer ≡ record { refusal = refusal_of (Err why); len = 0 }
      → Writes k u out answer exit
  unit-refused why e answer refused = record { typed = j.typed; wrote = whole-refused k j (unit_bytes k (held k u)) (unit-size k (held k u)) why e answer refused }

  module _ (n : ℕ) (e : laid ≡ Ok n) where
    pub unit-short : 4 + n ≤ 16384
    unit-short =
        let size = unit-size k (held k u) in
        omega (arith, (whole-fits k j (unit_bytes k (held k u)) size n e).0, (body-there k j n e).0)

    -- before the body that was written the start code makes the unit
    pub unit-laid : (refusal : Refusal) → refusal ≡ accepted → (end : List ℕ) → end ≡ started exit
        → Writes k u out (record { refusal = refusal; len = 4 + n }) end
    unit-laid refusal right end code =
        let size = unit-size k (held k u) in
        let there = body-there k j n e in
        let fits : 4 + length (body_of k (held k u)) ≤ length out = omega (arith, (whole-fits k j (unit_bytes k (held k u)) size n e).1) in
        record {
          typed = j.typed;
          wrote = whole-laid k j (unit_bytes k (held k u)) size n e refusal right _ _ (omega (arith, there.0)) (code ∙ ap started there.1 ∙ started-over (body_of k (held k u)) out fits);
        }

-- A UNIT IN AN AREA

module _ (k : Kind) (s : List ℕ) (start end : ℕ) (forward : start ≤ end) (inside : end ≤ length s)
    {u : CaptionUnit k} {out : List ℕ} {laid : Judged ℕ} {exit : List ℕ} (j : WritesBody k u (start + 4) (length s - end) out laid exit) where
  abbrev new : List ℕ
  new = exchanged s start end (unit_bytes k (held k u))

  area-size : start + 4 + length (body_of k (held k u)) + (length s - end) ≡ length new
  area-size = length_exchanged s start end (body_of k (held k u)) forward inside

  pub area-refused : (why : Reason × Item) → laid ≡ Err why → (answer : Written) → answer ≡ record { refusal = refusal_of (Err why); len = 0 }
      → Exchanges k s start end u out answer exit
  area-refused why e answer refused = record { typed = j.typed; wrote = whole-refused k j new area-size why e answer refused }

  module _ (n : ℕ) (e : laid ≡ Ok n) where
    room : (start + 4 + n + (length s - end) ≤ 16384) × (start + 4 + n + (length s - end) ≤ length out)
    room =
        let whole = whole-fits k j new area-size n e in
        let there = (body-there k j n e).0 in
        (omega (arith, area-size, whole.0, there), omega (arith, area-size, whole.1, there))

    pub area-short : start + 4 + n + (length s - end) ≤ 16384
    area-short = room.0

    -- around the body that was written the area's bytes and the start code make the new area
    pub area-laid : (refusal : Refusal) → refusal ≡ accepted → (last : List ℕ) → last ≡ surrounded s start end n exit
        → Exchanges k s start end u out (record { refusal = refusal; len = start + 4 + n + (length s - end) }) last
    area-laid refusal right last around =
        let there = body-there k j n e in
        let body = body_of k (held k u) in
        let size = sym area-size ∙ ap (λ (n : ℕ). start + 4 + n + (length s - end)) (sym there.0) in
        record {
          typed = j.typed;
          wrote =
              whole-laid k j new area-size n e refusal right _ _ size
              (around
              ∙ ap (λ (n : ℕ). surrounded s start end n exit) there.0
              ∙ surrounded-body s start end body exit out forward inside (omega (arith, room.1, there.0)) there.1);
        }
