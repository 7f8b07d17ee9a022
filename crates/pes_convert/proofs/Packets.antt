-- The packet's checks and the others: a packet that is refused decides, and one that is accepted has a legal value, which leaves it to the
-- lines and the room.
-- Assumes nothing.
use Prim.Native.Nat.{ℕ}
use native.Mathlib.Omega.{arith}
use mathlib.Core.Path.{◌≡◌, ◌∙◌, ap, ap₂}
use mathlib.Core.List.{List}
use Rattle.refusal.specs.Verdict.{Verdict}
use Rattle.refusal.specs.Verdict.{Accepted}
use Rattle.refusal.specs.Answers.{lent_of}
use Rattle.refusal.proofs.Checks.{and_then-refused}
use Rattle.sdp.specs.Value.{Sdp, Legal, held, numbers_of, rows_of}
use Rattle.sdp.proofs.Beside.{held-together}
use Rattle.sdp.proofs.Numbers.{slots-accepted}
use Rattle.subtitling.specs.declared.Answer.{Answer}
use Rattle.subtitling.specs.Reading.{packet_verdict, value_of, found, ReadsInto}
use Rattle.subtitling.proofs.Numbers.{value-accepted}
use Rattle.subtitling.proofs.Writing.{legal-short}
use Rattle.pes_convert.specs.Converting.{convert_verdict, own_verdict}

pub packet-decides : (packet : Verdict) (v : Sdp) (room : ℕ) → (packet ≡ Accepted → ⊥) → convert_verdict packet v room ≡ packet
unfolding convert_verdict
packet-decides packet v room refused = and_then-refused packet _ refused

-- a legal value is accepted where any packet has room
pub own-accepted : (v : Sdp) → Legal v → own_verdict v ≡ Accepted
own-accepted v h =
    let short = legal-short v h in
    value-accepted v 245 (record { few = omega (arith, h.count); each = slots-accepted v.slots h.each; short = short; fits = short })

-- what is read of a packet that is accepted is its value
pub read_held : (s : List ℕ) (lent : List (List ℕ)) (r : Answer) (exit : List (List ℕ)) → ReadsInto s lent r exit → packet_verdict s ≡ Accepted
    → held r.packet exit ≡ value_of s
read_held s lent r exit i ok =
    ap₂ held
    (ap (λ (a : Answer). a.packet) i.answer ∙ ap (λ (verdict : Verdict). numbers_of (found verdict (value_of s))) ok)
    (i.left ∙ ap (λ (verdict : Verdict). lent_of verdict (rows_of (found verdict (value_of s))) lent) ok)
    ∙ held-together (value_of s)
