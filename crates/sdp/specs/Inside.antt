-- What functions promise each other. No theorem for a signer speaks of it.
use Rattle.std.specs.Prelude.{◌≡◌, Bool, true}
use Rattle.refusal.specs.Verdict.{Accepted}
use Rattle.sdp.specs.Value.{SlotRow}
use Rattle.sdp.specs.SlotVerdict.{slot_verdict}

-- a yes vouches for a slot and its row; a no says nothing
abbrev pub SlotVouches : SlotRow → Bool → Type 0
SlotVouches x r = r ≡ true → slot_verdict x ≡ Accepted
