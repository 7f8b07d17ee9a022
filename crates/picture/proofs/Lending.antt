-- What `read_into` answers and leaves in the lent array, by what was found; and that `read`'s answer is made of it.
-- Assumes nothing.
use Rattle.std.specs.Prelude.{Ok, Err}
use Prim.Native.Nat.{ℕ, ◌+◌}
use mathlib.Core.Path.{◌≡◌, ◌∙◌, ap, ap₂, sym, refl}
use mathlib.Core.Bool.{false}
use mathlib.Core.List.{List, [], ◌∷◌}
use lib.ListN.{replicate}
use Rattle.lists.specs.Bytes.{Bytes}
use Rattle.lists.specs.Part.{part}
use Rattle.refusal.specs.Verdict.{Verdict}
use Rattle.refusal.specs.Verdict.{Accepted, Refused}
use Rattle.refusal.specs.Answers.{Judged, verdict_of, judged_as, lent_of}
use Rattle.refusal.proofs.Outputs.{judged-verdict}
use Rattle.refusal.specs.Numbers.{refusal_of}
use Rattle.units.specs.declared.Found.{Found}
use Rattle.units.specs.declared.Found.TheVariants as found
use Rattle.kind.specs.declared.Kind.{Kind}
use Rattle.picture.specs.Kinds.{Content, Numbers, none, content_verdict, value_of, CaptionUnit, stored, places, unit_in, numbers_of, bytes_of}
use Rattle.picture.specs.Value.{Area, uncaptioned, captioned, Legal}
use Rattle.picture.specs.Reading.{placed, captions_in, found_verdict, area_verdict, found_content, Answer, answer_of, read_of, shown}
use Rattle.picture.specs.Inside.{ReadsContent}
use Rattle.picture.specs.Lent.{Head, head_of, ReadsInto}
use Rattle.picture.proofs.Contents.{room_of, stored-room, none-room, cleared, lent-unit}
use Rattle.picture.proofs.Areas.{accepted-back}

-- WHAT A KIND'S READER ANSWERS

module _ (k : Kind) {body lent : List ℕ} {r : Judged (Numbers k)} {exit : List ℕ} (p : ReadsContent k body lent r exit) where
  pub content-told : content_verdict k body ≡ verdict_of r
  content-told = sym (ap verdict_of p.answer ∙ judged-verdict (content_verdict k body) (numbers_of k (stored k (value_of k body))))

  pub content-value : (v : Numbers k) → r ≡ Ok v → v ≡ numbers_of k (stored k (value_of k body))
  content-value v e =
      let numbers = numbers_of k (stored k (value_of k body)) in
      let placed : Judged (Numbers k) → Numbers k = elim [ Ok x ↦ x | Err why ↦ v ] in
      ap placed (sym e ∙ p.answer ∙ ap (λ (w : Verdict). judged_as w numbers) (content-told ∙ ap verdict_of e))

module _ (k : Kind) where
  -- an answer without a caption unit
  pub nothing-head : (verdict : Verdict) → record { refusal = refusal_of verdict; present = false; numbers = numbers_of k (stored k (none k)) } ≡ head_of k (answer_of k verdict [])
  nothing-head Accepted = refl
  nothing-head (Refused reason item) = refl

  -- BY WHAT WAS FOUND

  module _ (s lent : List ℕ) (bytes : Bytes s) where
    pub found-into : (f : Found) → captions_in k s ≡ f → (r : Head k) → r ≡ head_of k (answer_of k (found_verdict k f s) (found_content k f s))
        → (exit : List ℕ) → exit ≡ lent_of (found_verdict k f s) (bytes_of k (answer_of k (found_verdict k f s) (found_content k f s)).unit) lent
        → ReadsInto k s lent r exit
    found-into f e r answer exit left =
        record {
          bytes = bytes;
          answer = answer ∙ ap (λ (f : Found). head_of k (answer_of k (found_verdict k f s) (found_content k f s))) (sym e);
          left =
              left
              ∙ ap (λ (f : Found). lent_of (found_verdict k f s) (bytes_of k (answer_of k (found_verdict k f s) (found_content k f s)).unit) lent) (sym e);
        }

    -- the caption unit's body leaves in the array what the area does
    placed-left : (unit : ℕ) (verdict : Verdict) (c : Content k)
        → lent_of verdict (bytes_of k (stored k c)) lent
        ≡ lent_of (placed unit verdict) (bytes_of k (answer_of k (placed unit verdict) (c ∷ [])).unit) lent
    placed-left unit Accepted c = refl
    placed-left unit (Refused reason item) c = refl

    pub body-into : (unit end : ℕ) → captions_in k s ≡ found.At unit end → (let body = part (unit + 4) end s in
        (exit : List ℕ) → exit ≡ lent_of (content_verdict k body) (bytes_of k (stored k (value_of k body))) lent
        → (verdict : Verdict) → content_verdict k body ≡ verdict → (r : Head k) → r ≡ head_of k (answer_of k (placed unit verdict) (value_of k body ∷ [])) → ReadsInto k s lent r exit)
    body-into unit end e exit into verdict judged r answer =
        let body = part (unit + 4) end s in
        found-into (found.At unit end) e r (answer ∙ ap (λ (v : Verdict). head_of k (answer_of k (placed unit v) (value_of k body ∷ []))) (sym judged))
        exit (into ∙ placed-left unit (content_verdict k body) (value_of k body))

  -- FROM AN ARRAY OF ZEROS

  -- then the array holds the records of `read`'s answer, whatever the verdict
  all_there : (verdict : Verdict) (cs : List (Content k))
      → lent_of verdict (bytes_of k (answer_of k verdict cs).unit) (replicate (places k) 0) ≡ bytes_of k (answer_of k verdict cs).unit
  all_there Accepted cs = refl
  all_there (Refused reason item) cs = sym (cleared k)

  shown-places : (v : Area k) → Legal k v → room_of k (shown k v).unit ≡ 31
  shown-places (uncaptioned us) h = none-room k
  shown-places (captioned before c after) h = stored-room k c h.units.1

  pub answer-places : (s : List ℕ) → Bytes s → (verdict : Verdict) → area_verdict k s ≡ verdict → room_of k (read_of k s).unit ≡ 31
  answer-places s bytes Accepted e =
      let back = accepted-back k s bytes e in
      ap (λ (a : Answer k). room_of k a.unit) back.told ∙ shown-places back.value back.legal
  answer-places s bytes (Refused reason item) e = ap (λ (v : Verdict). room_of k (answer_of k v (found_content k (captions_in k s) s)).unit) e ∙ none-room k

  pub into-read : (s : List ℕ) (r : Head k) (exit : List ℕ) → ReadsInto k s (replicate (places k) 0) r exit
      → record { refusal = r.refusal; present = r.present; unit = unit_in k r.numbers exit } ≡ read_of k s
  into-read s r exit p =
      let there : exit ≡ bytes_of k (read_of k s).unit = p.left ∙ all_there (area_verdict k s) (found_content k (captions_in k s) s) in
      ap₂ (λ (h : Head k) (xs : List ℕ). record { refusal = h.refusal; present = h.present; unit = unit_in k h.numbers xs }) p.answer there
      ∙ ap (λ (u : CaptionUnit k). record { refusal = (read_of k s).refusal; present = (read_of k s).present; unit = u })
      (lent-unit k (read_of k s).unit (answer-places s p.bytes (area_verdict k s) refl))
