-- `pes_convert::convert` meets its contract: it writes the slots where the refusal's number is 0, which is where the packet is accepted.
use mathlib.Core.Path.{◌≡◌, ◌∙◌, ap, sym, subst₂}
use lib.ListN.{length}
use Rattle.refusal.specs.declared.Refusal.{Refusal}
use Rattle.refusal.specs.Verdict.{Verdict}
use Rattle.refusal.specs.Verdict.{Accepted}
use Rattle.refusal.specs.Numbers.{refusal_of}
use Rattle.refusal.specs.Answers.{Wrote}
use Rattle.refusal.proofs.Acceptance.{told-accepted}
use Rattle.refusal.proofs.Outputs.{wrote_nothing}
use Rattle.sdp.specs.Value.{Sdp, held}
use Rattle.subtitling.specs.declared.Answer.{Answer}
use Rattle.subtitling.specs.Reading.{packet_verdict, value_of}
use Rattle.subtitling.proofs.Back.{accepted-legal}
use Rattle.pes.specs.Layout.{layout}
use Rattle.pes_convert.specs.Converting.{converted, convert_verdict, own_verdict}
use Rattle.pes_convert.proofs.Packets.{packet-decides, own-accepted, read_held}
use Rattle.pes_convert.proofs.convert.Goals.{After-read_into-answer, Else-refusal-ne0}
use Rattle.pes_convert.proofs.convert.Goals as goal

told : (c : After-read_into-answer) → c.read_into-answer.result.refusal ≡ refusal_of (packet_verdict c.args.words.now)
told c = ap (λ (a : Answer). a.refusal) c.read_into-answer.ensures.answer

module _ (c : Else-refusal-ne0) where
  accepted : packet_verdict c.args.words.now ≡ Accepted
  accepted =
      let answered = ap (λ (a : Answer). a.refusal) c.read_into-answer.ensures.answer in
      told-accepted (packet_verdict c.args.words.now) (sym (ap (λ (r : Refusal). r.number) answered) ∙ c.if-refusal-ne0.false)

  same : held c.read_into-answer.result.packet c.read_into-answer.new.rows ≡ value_of c.args.words.now
  same = read_held c.args.words.now _ _ _ c.read_into-answer.ensures accepted

pub returns-then-refusal-ne0 : goal.returns-then-refusal-ne0
returns-then-refusal-ne0 c =
    let read = (goal.at.returns-then-refusal-ne0 c).After-read_into-answer in
    let s = c.args.words.now in
    let out = c.args.out.now in
    let laid = layout (converted (value_of s)) in
    let refused : (refusal_of (packet_verdict s)).number ≡ 0 → ⊥ = λ e. c.if-refusal-ne0.true (ap (λ (r : Refusal). r.number) (told read) ∙ e) in
    subst₂ (λ (verdict : Verdict) (r : Refusal). Wrote verdict laid out (record { refusal = r; len = 0 }) out)
    (sym (packet-decides (packet_verdict s) (value_of s) (length out) (λ e. refused (ap (λ (v : Verdict). (refusal_of v).number) e))))
    (sym (told read))
    (wrote_nothing (packet_verdict s) laid out refused)

pub write_slots-requires : goal.write_slots-requires
write_slots-requires c =
    let past = (goal.at.write_slots-requires c).Else-refusal-ne0 in
    let s = c.args.words.now in
    ap own_verdict (same past) ∙ own-accepted (value_of s) (accepted-legal s (accepted past)).legal

pub returns : goal.returns
returns c =
    let past = (goal.at.returns c).Else-refusal-ne0 in
    let out = c.args.out.now in
    subst₂ (λ (packet : Verdict) (v : Sdp). Wrote (convert_verdict packet v (length out)) (layout (converted v)) out c.write_slots.result c.write_slots.new.out)
    (sym (accepted past))
    (same past)
    c.write_slots.ensures
