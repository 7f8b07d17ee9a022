-- The answer of reading, by how far reading came: the head refused, flag 0, or flag 1.
-- Assumes nothing.
use Rattle.std.specs.Prelude.{Ok, Err}
use Prim.Native.Nat.{ℕ, ◌+◌, ◌-◌, ◌*◌, ◌/◌, ◌≤◌}
use native.Mathlib.Omega.{arith}
use mathlib.Core.Path.{◌≡◌, ◌∙◌, ap, ap₂, sym}
use mathlib.Core.List.{List, [], ◌∷◌}
use lib.ListN.{length, get_or}
use Rattle.lists.specs.Bytes.{Bytes}
use Rattle.refusal.specs.declared.Reason.{Reason}
use Rattle.refusal.specs.declared.Item.{Item}
use Rattle.refusal.specs.Verdict.{Verdict}
use Rattle.refusal.specs.Verdict.{Accepted, Refused}
use Rattle.refusal.specs.Checks.{and_then, first}
use Rattle.refusal.specs.Answers.{lent_of}
use Rattle.refusal.proofs.Checks.{accepted-and_then, and_then-last}
use Rattle.bits.specs.Bits.{bits_of}
use Rattle.bits.proofs.Stream.{length-bits_of}
use Rattle.scte20.specs.Value.{Content, stored}
use Rattle.scte20.specs.Reading.{missing, head_verdict, flag_in, count_in, flag_verdict, rest_verdict, constructs_verdict, records_at, sampled_verdict, content_verdict, value_of}
use Rattle.scte20.specs.Lent.{records_bytes, numbers_of, head_of, ReadsInto}
use Rattle.scte20.proofs.Constructs.{accepted-missing}
use Rattle.scte20.proofs.Contents.{accepted-head}
use Rattle.scte20.proofs.Bytewise.{reserved-in}

-- reading into a lent array, by the verdict: a refusal leaves the array as it was
module _ (body lent : List ℕ) (bytes : Bytes body) where
  pub refused-into : (why : Reason × Item) → content_verdict body ≡ Err why → ReadsInto body lent (Err why) lent
  refused-into (reason, item) told =
      record {
        bytes = bytes;
        answer = ap (λ (v : Verdict). head_of v (value_of body)) (sym told);
        left = ap (λ (v : Verdict). lent_of v (records_bytes (stored (value_of body)).records) lent) (sym told);
      }

  -- and else all of it is the value's records
  pub accepted-into : (c : Content) (found : List ℕ) → content_verdict body ≡ Accepted → value_of body ≡ c → found ≡ records_bytes (stored c).records
      → ReadsInto body lent (Ok (numbers_of (stored c))) found
  accepted-into c found told value laid =
      record {
        bytes = bytes;
        answer = ap₂ head_of (sym told) (sym value);
        left = laid ∙ ap₂ (λ (v : Verdict) (d : Content). lent_of v (records_bytes (stored d).records) lent) (sym told) (sym value);
      }

-- what an accepted check has shown of the length
pub sampled-long : (at : ℕ) (s : List ℕ) → sampled_verdict at (bits_of s) ≡ Accepted → at + 4 ≤ 8 * length s
unfolding sampled_verdict
sampled-long at s e = omega (arith, accepted-missing at 4 (bits_of s) (accepted-and_then (missing at 4 (bits_of s)) _ e).0, length-bits_of s)

pub head-long : (body : List ℕ) → head_verdict body ≡ Accepted → 2 ≤ length body
head-long body e = omega (arith, (accepted-head body e).complete, length-bits_of body)

-- the head refuses
pub head-refused : (body : List ℕ) (reason : Reason) (item : Item) → head_verdict body ≡ Refused reason item → content_verdict body ≡ head_verdict body
unfolding content_verdict
head-refused body reason item e =
    ap (λ (v : Verdict). and_then v (flag_verdict (flag_in (bits_of body)) (bits_of body))) e ∙ sym e

-- the head is accepted
module _ (body : List ℕ) (head : head_verdict body ≡ Accepted) where
  past_head : (f : ℕ) → flag_in (bits_of body) ≡ f → content_verdict body ≡ flag_verdict f (bits_of body)
  unfolding content_verdict
  past_head f e =
      ap (λ (v : Verdict). and_then v (flag_verdict (flag_in (bits_of body)) (bits_of body))) head
      ∙ ap (λ (k : ℕ). flag_verdict k (bits_of body)) e

  pub bare-verdict : flag_in (bits_of body) ≡ 0 → content_verdict body ≡ rest_verdict 16 (bits_of body)
  bare-verdict e = past_head 0 e

  -- n as the code counts it
  pub flagged-verdict : (n : ℕ) → n ≡ count_in (bits_of body) → flag_in (bits_of body) ≡ 1
      → let xs = bits_of body in
      content_verdict body ≡ and_then (missing 16 5 xs) (and_then (constructs_verdict [] n 21 xs) (and_then (sampled_verdict (21 + 26 * n) xs) (rest_verdict (25 + 26 * n) xs)))
  flagged-verdict n count e =
      let xs = bits_of body in
      past_head 1 e
      ∙ ap (λ (k : ℕ). first (missing 16 5 xs ∷ constructs_verdict [] k 21 xs ∷ sampled_verdict (21 + 26 * k) xs ∷ rest_verdict (25 + 26 * k) xs ∷ [])) (sym count)
      ∙ ap (λ (v : Verdict). and_then (missing 16 5 xs) (and_then (constructs_verdict [] n 21 xs) (and_then (sampled_verdict (21 + 26 * n) xs) v)))
      (and_then-last (rest_verdict (25 + 26 * n) xs))

module _ (body : List ℕ) (h : Bytes body) (long : 2 ≤ length body) where
  pub bare-value : flag_in (bits_of body) ≡ 0 → value_of body ≡ record { reserved = get_or body 1 0 / 2; flag = 0; records = []; z = length body - 2 }
  unfolding value_of
  bare-value e = simp (e, reserved-in body h long)

  pub flagged-value : (n : ℕ) → n ≡ count_in (bits_of body) → flag_in (bits_of body) ≡ 1
      → value_of body ≡ record { reserved = get_or body 1 0 / 2; flag = 1; records = records_at n 21 (bits_of body); z = length body - (25 + 26 * n + 7) / 8 }
  unfolding value_of
  flagged-value n count e = simp (e, reserved-in body h long, ← count)
