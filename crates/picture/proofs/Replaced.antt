-- The bytes that replacing gives are the layout of the area's value with the other caption unit, and that value is legal.
-- Assumes nothing.
use Prim.Native.Nat.{ℕ, ◌+◌, ◌≤◌}
use native.Mathlib.Omega.{arith}
use mathlib.Core.Path.{◌≡◌, ◌∙◌, ap, ap₂, sym, refl}
use mathlib.Core.List.{List, [], ◌∷◌, ◌++◌, append-nil, append_assoc}
use lib.ListN.{length, take, drop, length-append}
use lib.Seq.{take_at, drop_at, take-append_seam}
use Rattle.lists.specs.Room.{over}
use Rattle.refusal.specs.Verdict.{Verdict}
use Rattle.refusal.specs.declared.Written.{Written}
use Rattle.refusal.specs.Checks.{and_then}
use Rattle.refusal.specs.Answers.{written}
use Rattle.units.specs.declared.Found.{Found}
use Rattle.units.specs.Layout.{layout_unit}
use Rattle.units.specs.Layout as units
use Rattle.units.proofs.Splits.{layout-append, length-around}
use Rattle.kind.specs.declared.Kind.{Kind}
use Rattle.picture.specs.Kinds.{Content, LegalContent, body_of, CaptionUnit, held, write_verdict}
use Rattle.picture.specs.Value.{Area, uncaptioned, captioned, layout, LegalBodies, Legal, replaced, foreign_of}
use Rattle.around.specs.Around.{exchanged}
use Rattle.picture.specs.Writing.{unit_bytes, replaced_in, replaced_of, replace_verdict}
use Rattle.picture.proofs.Areas.{found_in, legal-found, legal-verdict}

-- the bytes of units around one
around : (before : List (List ℕ)) (body : List ℕ) (after : List (List ℕ))
    → units.layout (before ++ (body ∷ after)) ≡ units.layout before ++ (layout_unit body ++ units.layout after)
around before body after = layout-append before (body ∷ after)

exchanged-around : (before : List (List ℕ)) (old : List ℕ) (after : List (List ℕ)) (new : List ℕ)
    → exchanged (units.layout (before ++ (old ∷ after))) (length (units.layout before)) (length (units.layout before) + 4 + length old) (layout_unit new)
    ≡ units.layout (before ++ (new ∷ after))
exchanged-around before old after new =
    let front = units.layout before in
    let rest = layout_unit old ++ units.layout after in
    let whole = around before old after in
    let reach : length (front ++ layout_unit old) ≡ length front + 4 + length old = omega (arith, length-append front (layout_unit old)) in
    let taken : take (length front) (units.layout (before ++ (old ∷ after))) ≡ front = ap (take (length front)) whole ∙ take_at front rest (length front) refl in
    let left : drop (length front + 4 + length old) (units.layout (before ++ (old ∷ after))) ≡ units.layout after =
    ap (drop (length front + 4 + length old)) (whole ∙ sym (append_assoc front (layout_unit old) (units.layout after)))
    ∙ drop_at (front ++ layout_unit old) (units.layout after) (length front + 4 + length old) reach in
    ap₂ (λ (f r : List ℕ). f ++ (layout_unit new ++ r)) taken left ∙ sym (around before new after)

-- what was counted as written, as it then stands
pub written-bytes : (laid out : List ℕ) (r : Written) (exit : List ℕ) → (r ≡ written (length laid)) × (exit ≡ over laid out) → take r.len exit ≡ laid
written-bytes laid out r exit w =
    ap₂ (λ (n : ℕ) (bytes : List ℕ). take n bytes) (ap (λ (x : Written). x.len) w.0) w.1 ∙ take-append_seam laid (drop (length laid) out)

module _ (k : Kind) where
  replaced-found : (v : Area k) (c : Content k) → replaced_in (found_in k v) (layout k v) (unit_bytes k c) ≡ layout k (replaced k v c)
  replaced-found (uncaptioned us) c = ap (λ (r : List ℕ). units.layout us ++ r) (sym (append-nil (unit_bytes k c))) ∙ sym (around us (body_of k c) [])
  replaced-found (captioned before old after) c = exchanged-around before (body_of k old) after (body_of k c)

  pub replaced-layout : (v : Area k) (c : Content k) → Legal k v → replaced_of k (layout k v) c ≡ layout k (replaced k v c)
  replaced-layout v c h = ap (λ (f : Found). replaced_in f (layout k v) (unit_bytes k c)) (legal-found k v h) ∙ replaced-found v c

  replaced-units : (v : Area k) (c : Content k) → LegalBodies k v → LegalContent k c → LegalBodies k (replaced k v c)
  replaced-units (uncaptioned us) c h legal = (h, legal, tt)
  replaced-units (captioned before old after) c h legal = (h.0, legal, h.2)

  pub replaced-legal : (v : Area k) (c : Content k) → Legal k v → LegalContent k c → length (layout k (replaced k v c)) ≤ 16384 → Legal k (replaced k v c)
  replaced-legal v c h legal short = record { units = replaced-units v c h.units legal; short = short }

  -- the new unit's body is a part of the new area
  pub replaced-long : (v : Area k) (c : Content k) → length (body_of k c) ≤ length (layout k (replaced k v c))
  replaced-long (uncaptioned us) c = omega (arith, length-around us (body_of k c) [])
  replaced-long (captioned before old after) c = omega (arith, length-around before (body_of k c) after)

  -- the foreign units are the same, in the same order
  pub foreign_kept : (v : Area k) (c : Content k) → foreign_of k (replaced k v c) ≡ foreign_of k v
  foreign_kept (uncaptioned us) c = append-nil us
  foreign_kept (captioned before old after) c = refl

  -- once the area is accepted, the value decides
  pub value-next : (v : Area k) → Legal k v → (u : CaptionUnit k) (room : ℕ) → replace_verdict k (layout k v) u room ≡ write_verdict k u (length (layout k (replaced k v (held k u)))) room
  value-next v h u room =
      ap (λ (verdict : Verdict). and_then verdict (write_verdict k u (length (replaced_of k (layout k v) (held k u))) room)) (legal-verdict k v h)
      ∙ ap (λ (t : List ℕ). write_verdict k u (length t) room) (replaced-layout v (held k u) h)
