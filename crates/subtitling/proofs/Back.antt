-- Layout and reading undo each other, for the whole packet.
-- Assumes nothing.
use Prim.Native.Nat.{ℕ, ◌-◌}
use mathlib.Core.Path.{◌≡◌, ◌∙◌, ap}
use mathlib.Core.List.{List}
use lib.ListN.{length}
use Rattle.lists.specs.Part.{part}
use Rattle.refusal.specs.Verdict.{Accepted}
use Rattle.anc.proofs.Words.{bytes-bytes}
use Rattle.sdp.specs.Value.{Sdp, Legal}
use Rattle.sdp.specs.Layout.{user_bytes}
use Rattle.subtitling.specs.Layout.{packet, layout}
use Rattle.sdp.specs.User.{user_value}
use Rattle.subtitling.specs.Reading.{user_in, packet_verdict, value_of}
use Rattle.subtitling.proofs.Accepted.{accepted-packet}
use Rattle.sdp.proofs.LegalBytes.{user-bytes, user-long, user-short}
use Rattle.sdp.proofs.Rules.{user-accepted, user-value, user-back}
use Rattle.subtitling.proofs.Packets.{packet-user, packet-accepted, packet-back}

module _ (v : Sdp) (h : Legal v) where
  -- reading a legal value's words finds that value
  pub layout-accepted : packet_verdict (layout v) ≡ Accepted
  layout-accepted = packet-accepted (user_bytes v) (user-bytes v h) (user-long v h) (user-short v h) (user-accepted v h 5)

  pub layout-value : value_of (layout v) ≡ v
  layout-value = ap user_value (packet-user (user_bytes v) (user-bytes v h) (user-long v h) (user-short v h)) ∙ user-value v h

-- what is accepted holds a legal value, whose layout it is
pub record Packets (s : List ℕ) : Type 0 where
  pub same : layout (value_of s) ≡ s
  pub legal : Legal (value_of s)

pub accepted-legal : (s : List ℕ) → packet_verdict s ≡ Accepted → Packets s
accepted-legal s e =
    let whole = accepted-packet s e in
    let users = user-back 5 (user_in s) (bytes-bytes (part 6 (length s - 1) s)) whole.head whole.tail in
    record { same = ap packet users.same ∙ packet-back s whole; legal = users.legal }
