-- How long a layout is, and what the checks of writing let through.
-- Assumes nothing.
use Prim.Native.Nat.{ℕ, ◌+◌, ◌*◌, ◌≤◌}
use native.Mathlib.Omega.{arith}
use mathlib.Core.Path.{◌≡◌}
use mathlib.Core.List.{List}
use borrow.Author.Tests.{le-ltb}
use lib.ListN.{length, length-append, length-map}
use Rattle.refusal.specs.Verdict.{Accepted}
use Rattle.refusal.proofs.Checks.{accepted-and_then, accepted-within, accepted-fit}
use Rattle.sdp.specs.Value.{Sdp, Legal}
use Rattle.sdp.specs.Layout.{descriptors_of, count, user_bytes}
use Rattle.sdp.proofs.Numbers.{Shaped, legal-shaped, length-user-shaped}
use Rattle.subtitling.specs.Layout.{packet, layout}
use Rattle.sdp.specs.SlotVerdict.{slots_verdict}
use Rattle.subtitling.specs.Writing.{value_verdict}

-- the flag, DID, SDID, DC and CS are seven words
pub length-packet : (bytes : List ℕ) → length (packet bytes) ≡ 7 + length bytes
length-packet bytes = simp (length-append, length-map) (omega arith)

pub length-shaped : (v : Sdp) → Shaped v → length (layout v) ≡ 20 + 45 * count (descriptors_of v.slots)
length-shaped v h = omega (arith, length-packet (user_bytes v), length-user-shaped v h)

pub length-layout : (v : Sdp) → Legal v → length (layout v) ≡ 20 + 45 * count (descriptors_of v.slots)
length-layout v h = length-shaped v (legal-shaped v h)

-- THE VALUE

pub record Writable (v : Sdp) (room : ℕ) : Type 0 where
  pub few : v.counter ≤ 65535
  pub each : slots_verdict v.slots ≡ Accepted
  pub short : length (layout v) ≤ 245
  pub fits : length (layout v) ≤ room

pub accepted-value : (v : Sdp) (room : ℕ) → value_verdict v room ≡ Accepted → Writable v room
unfolding value_verdict
accepted-value v room e =
    let count = accepted-and_then _ _ e in
    let slots = accepted-and_then _ _ count.1 in
    let fit = accepted-fit 245 (length (layout v)) room (accepted-and_then _ _ slots.1).0 in
    record {
      few = accepted-within 65535 v.counter _ _ count.0;
      each = slots.0;
      short = fit.0;
      fits = fit.1;
    }

pub value-accepted : (v : Sdp) (room : ℕ) → Writable v room → value_verdict v room ≡ Accepted
unfolding value_verdict
value-accepted v room w =
    simp (le-ltb 65535 v.counter w.few, w.each, le-ltb 245 (length (layout v)) w.short, le-ltb room (length (layout v)) w.fits)
