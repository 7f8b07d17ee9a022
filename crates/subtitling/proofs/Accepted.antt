-- What a packet satisfies that the checks of reading accept, part by part.
-- Assumes nothing.
use Prim.Native.Nat.{ℕ, ◌-◌, ◌%◌, ◌≤◌}
use mathlib.Core.Path.{◌≡◌}
use mathlib.Core.List.{List}
use lib.ListN.{length, get_or}
use Rattle.refusal.specs.Verdict.{Accepted}
use Rattle.refusal.proofs.Checks.{accepted-and_then, accepted-equal, accepted-within}
use Rattle.anc.specs.Words.{words_verdict, sum_verdict, checksum_of}
use Rattle.sdp.specs.User.{head_verdict, tail_verdict, user_verdict}
use Rattle.sdp.proofs.Accepted.{Head, accepted-head, Tail, accepted-tail}
use Rattle.subtitling.specs.Reading.{covered_in, user_in, last_word, form_verdict, header_verdict, checksum_verdict, packet_verdict}

-- the length, the flag, and that each word is one
pub record Form (s : List ℕ) : Type 0 where
  pub short : length s ≤ 245
  pub long : 20 ≤ length s
  pub flag0 : get_or s 0 0 ≡ 0x000
  pub flag1 : get_or s 1 0 ≡ 0x3FF
  pub flag2 : get_or s 2 0 ≡ 0x3FF
  pub words : words_verdict 3 (covered_in s) ≡ Accepted
  pub last : sum_verdict (length s - 1) (last_word s) ≡ Accepted

pub accepted-form : (s : List ℕ) → form_verdict s ≡ Accepted → Form s
unfolding form_verdict
accepted-form s e =
    let short = accepted-and_then _ _ e in
    let long = accepted-and_then _ _ short.1 in
    let flag0 = accepted-and_then _ _ long.1 in
    let flag1 = accepted-and_then _ _ flag0.1 in
    let flag2 = accepted-and_then _ _ flag1.1 in
    let words = accepted-and_then _ _ flag2.1 in
    let last = accepted-and_then _ _ words.1 in
    record {
      short = accepted-within _ _ _ _ short.0;
      long = accepted-within _ _ _ _ long.0;
      flag0 = accepted-equal _ _ _ _ flag0.0;
      flag1 = accepted-equal _ _ _ _ flag1.0;
      flag2 = accepted-equal _ _ _ _ flag2.0;
      words = words.0;
      last = last.0;
    }

-- DID, SDID, DC
pub record Header (s : List ℕ) : Type 0 where
  pub did : get_or s 3 0 ≡ 0x143
  pub sdid : get_or s 4 0 ≡ 0x102
  pub dc : get_or s 5 0 % 256 ≡ length s - 7

pub accepted-header : (s : List ℕ) → header_verdict s ≡ Accepted → Header s
unfolding header_verdict
accepted-header s e =
    let did = accepted-and_then _ _ e in
    let sdid = accepted-and_then _ _ did.1 in
    let dc = accepted-and_then _ _ sdid.1 in
    record { did = accepted-equal _ _ _ _ did.0; sdid = accepted-equal _ _ _ _ sdid.0; dc = accepted-equal _ _ _ _ dc.0 }

pub accepted-checksum : (s : List ℕ) → checksum_verdict s ≡ Accepted → last_word s ≡ checksum_of (covered_in s)
unfolding checksum_verdict
accepted-checksum s e = accepted-equal _ _ _ _ e

-- the whole packet
pub record Whole (s : List ℕ) : Type 0 where
  pub form : Form s
  pub header : Header s
  pub user : user_verdict 5 (user_in s) ≡ Accepted
  pub head : Head 5 (user_in s)
  pub tail : Tail 5 (user_in s)
  pub checksum : last_word s ≡ checksum_of (covered_in s)

pub accepted-packet : (s : List ℕ) → packet_verdict s ≡ Accepted → Whole s
unfolding packet_verdict
accepted-packet s e =
    let form = accepted-and_then _ _ e in
    let header = accepted-and_then _ _ form.1 in
    let user = accepted-and_then _ _ header.1 in
    let checksum = accepted-and_then _ _ user.1 in
    let both = accepted-and_then (head_verdict 5 (user_in s)) (tail_verdict 5 (user_in s)) user.0 in
    record {
      form = accepted-form s form.0;
      header = accepted-header s header.0;
      user = user.0;
      head = accepted-head 5 (user_in s) both.0;
      tail = accepted-tail 5 (user_in s) both.1;
      checksum = accepted-checksum s checksum.0;
    }
