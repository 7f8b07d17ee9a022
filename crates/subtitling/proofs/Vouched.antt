-- A packet that passes each check, in whatever order they are made, is accepted.
-- Assumes nothing.
use Prim.Native.Nat.{ℕ, ◌+◌, ◌-◌, ◌%◌, ◌≤◌, ◌<◌}
use native.Mathlib.Omega.{arith}
use mathlib.Core.Path.{◌≡◌, ◌∙◌, ap}
use mathlib.Core.List.{List}
use borrow.Author.Tests.{eq-eqb, le-ltb}
use lib.ListN.{length, get_or}
use Rattle.lists.specs.Part.{part}
use Rattle.lists.specs.Sum.{sum}
use Rattle.refusal.specs.Verdict.{Accepted}
use Rattle.anc.specs.Words.{words_verdict, sum_verdict, checksum_of}
use Rattle.anc.specs.Inside.{cs_of}
use Rattle.anc.proofs.Words.{sum-accepted, checksum-sum}
use Rattle.sdp.specs.User.{user_verdict}
use Rattle.subtitling.specs.Reading.{covered_in, user_in, last_word, form_verdict, header_verdict, checksum_verdict, packet_verdict}
use Rattle.subtitling.specs.Inside.{Surround}
use Rattle.subtitling.proofs.Accepted.{accepted-form}
use Rattle.std.proofs.Common.{Err}
use Rattle.refusal.specs.Verdict.{Verdict}
use Rattle.refusal.specs.declared.Reason.{Reason}
use Rattle.refusal.specs.declared.Item.{Item}
use Rattle.refusal.specs.Checks.{and_then}
use Rattle.refusal.proofs.Checks.{and_then-last}
use Rattle.subtitling.proofs.Packets.{covered-cons}

-- with the frame, the words, CS and the user words right, the packet is
module _ (s : List ℕ) (all : ℕ) (frame : Surround s) (words : words_verdict 3 (covered_in s) ≡ Accepted) (total : all ≡ sum (covered_in s) % 65536) where
  right : last_word s ≡ cs_of all → last_word s ≡ checksum_of (covered_in s)
  right last = rw (checksum-sum (covered_in s)) (last ∙ ap cs_of total)

  form : last_word s ≡ cs_of all → form_verdict s ≡ Accepted
  unfolding form_verdict
  form last =
      let cs = ap (sum_verdict (length s - 1)) (right last) ∙ sum-accepted (length s - 1) (covered_in s) in
      simp (
        le-ltb 245 (length s) frame.short,
        le-ltb (length s) 20 frame.long,
        eq-eqb _ _ frame.flag0,
        eq-eqb _ _ frame.flag1,
        eq-eqb _ _ frame.flag2,
        words,
        cs,
      )

  header : header_verdict s ≡ Accepted
  unfolding header_verdict
  header = simp (eq-eqb _ _ frame.did, eq-eqb _ _ frame.sdid, eq-eqb _ _ frame.dc)

  checksum : last_word s ≡ cs_of all → checksum_verdict s ≡ Accepted
  unfolding checksum_verdict
  checksum last = simp (eq-eqb _ _ (right last))

  pub found-accepted : last_word s ≡ cs_of all → user_verdict 5 (user_in s) ≡ Accepted → packet_verdict s ≡ Accepted
  unfolding packet_verdict
  found-accepted last user = simp (form last, header, user, checksum last)

  -- what is left of the sum of all, with DID, SDID and DC taken off, is that of the user words, modulo 256
  pub found-user : get_or s 5 0 < 65536 → ((all + (65536 - 0x245)) % 65536 + (65536 - get_or s 5 0)) % 65536 % 256 ≡ sum (part 6 (length s - 1) s) % 256
  found-user low = omega (arith, total, ap sum (covered-cons s frame.long), frame.did, frame.sdid)

-- THE CHECKS IN THEIR ORDER

-- past the flag, the words decide, then CS
module _ (s : List ℕ) (long : 20 ≤ length s) (short : length s ≤ 245) (flag0 : get_or s 0 0 ≡ 0x000) (flag1 : get_or s 1 0 ≡ 0x3FF) (flag2 : get_or s 2 0 ≡ 0x3FF) where
  flagged : form_verdict s ≡ and_then (words_verdict 3 (covered_in s)) (and_then (sum_verdict (length s - 1) (last_word s)) Accepted)
  unfolding form_verdict
  flagged =
      simp (le-ltb 245 (length s) short, le-ltb (length s) 20 long, eq-eqb _ _ flag0, eq-eqb _ _ flag1, eq-eqb _ _ flag2)

  pub form-stopped : {why : Reason × Item} → words_verdict 3 (covered_in s) ≡ Err why → form_verdict s ≡ Err why
  form-stopped wrong = flagged ∙ ap (λ (v : Verdict). and_then v (and_then (sum_verdict (length s - 1) (last_word s)) Accepted)) wrong

  pub form-passed : words_verdict 3 (covered_in s) ≡ Accepted → form_verdict s ≡ sum_verdict (length s - 1) (last_word s)
  form-passed ok = flagged ∙ ap (λ (v : Verdict). and_then v (and_then (sum_verdict (length s - 1) (last_word s)) Accepted)) ok ∙ and_then-last _

-- an accepted form tells that there are words enough
pub form-long : (s : List ℕ) → form_verdict s ≡ Accepted → 20 ≤ length s
form-long s e = (accepted-form s e).long

-- for a function's tactics
pub ruleset ordering = (form-stopped, form-passed, form-long)
