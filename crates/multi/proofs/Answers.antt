-- The answer of reading, by its verdict.
-- Assumes nothing.
use Prim.Native.Nat.{ℕ}
use mathlib.Core.Path.{◌≡◌, ◌∙◌, ap, ap₂, sym, refl}
use mathlib.Core.Bool.{true}
use mathlib.Core.List.{List}
use lib.ListN.{length, get_or}
use Rattle.std.specs.Result.{is_err}
use Rattle.std.proofs.lemmas.Bool.{false≢true}
use Rattle.lists.specs.Room.{filled}
use Rattle.refusal.specs.declared.Refusal.{Refusal}
use Rattle.refusal.specs.Verdict.{Verdict}
use Rattle.refusal.specs.Verdict.{Accepted, Refused}
use Rattle.refusal.specs.Numbers.{refusal_of}
use Rattle.refusal.specs.Answers.{lent_of}
use Rattle.anc.specs.Words.{byte_of}
use Rattle.multi.specs.declared.Answer.{Answer}
use Rattle.multi.specs.Value.{Multi}
use Rattle.multi.specs.Reading.{multi_verdict, value_of}
use Rattle.multi.specs.Lent.{heads_of, no_head, answer_of, ReadsInto}

-- an answer of a refusal and two numbers
abbrev answer_with : ℕ → ℕ → Refusal → Answer
answer_with priority n refusal = record { refusal = refusal; priority = priority; n = n }

refused-answer : (v : Verdict) (found : Multi) → is_err v ≡ true → answer_of v found ≡ answer_with 0 0 (refusal_of v)
refused-answer Accepted found e = absurd (false≢true e)
refused-answer (Refused reason item) found e = refl

refused-lent : (v : Verdict) (new lent : List (List ℕ)) → is_err v ≡ true → lent_of v new lent ≡ lent
refused-lent Accepted new lent e = absurd (false≢true e)
refused-lent (Refused reason item) new lent e = refl

module _ (s : List ℕ) (lent : List (List ℕ)) (verdict : Verdict) (same : verdict ≡ multi_verdict s) (refusal : Refusal) (told : refusal ≡ refusal_of verdict) where
  -- a refusal answers zeros, and leaves the array as it was
  pub refused-into : is_err verdict ≡ true → ReadsInto s lent (answer_with 0 0 refusal) lent
  refused-into e =
      record {
        answer = ap (answer_with 0 0) told ∙ sym (refused-answer verdict (value_of s) e) ∙ ap (λ (v : Verdict). answer_of v (value_of s)) same;
        left =
            let new = filled (heads_of 7 (value_of s).inners) 50 no_head in
            sym (refused-lent verdict new lent e) ∙ ap (λ (v : Verdict). lent_of v new lent) same;
      }

  -- else all of it is the value's heads, and zeros
  pub accepted-into : (n : ℕ) (found : List (List ℕ)) → verdict ≡ Accepted → n ≡ length (value_of s).inners → found ≡ filled (heads_of 7 (value_of s).inners) 50 no_head
      → ReadsInto s lent (answer_with (byte_of (get_or s 6 0)) n refusal) found
  accepted-into n found e count laid =
      record {
        answer =
            ap₂ (λ (r : Refusal) (k : ℕ). answer_with (byte_of (get_or s 6 0)) k r) (told ∙ ap refusal_of e) count
            ∙ ap (λ (v : Verdict). answer_of v (value_of s)) (sym e ∙ same);
        left = laid ∙ ap (λ (v : Verdict). lent_of v (filled (heads_of 7 (value_of s).inners) 50 no_head) lent) (sym e ∙ same);
      }
