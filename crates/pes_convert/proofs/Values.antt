-- `convert_value`: the same of a packet's value, and that it answers as `convert` does to its words.
-- Assumes nothing.
use Prim.Native.Nat.{ℕ, ◌≤◌}
use native.Mathlib.Omega.{arith}
use mathlib.Core.Path.{◌≡◌, ◌∙◌, ap, sym, subst, refl}
use mathlib.Core.Logic.{◌⊎◌, ◌↔◌, ⊎_elim}
use mathlib.Core.List.{List}
use lib.Dec.{ltb}
use lib.ListN.{length}
use Rattle.refusal.specs.declared.Refusal.{Refusal}
use Rattle.refusal.specs.Verdict.{Verdict}
use Rattle.refusal.specs.Verdict.{Accepted, Refused}
use Rattle.refusal.specs.declared.Reason.TheVariants.{Unholdable}
use Rattle.refusal.specs.declared.Excess.TheVariants.{Counter}
use Rattle.refusal.specs.declared.Item.TheVariants.{Whole}
use Rattle.refusal.specs.declared.Written.{Written}
use Rattle.refusal.specs.Checks.{refuse_if, and_then, first}
use Rattle.refusal.specs.Numbers.{refusal_of}
use Rattle.refusal.specs.Answers.{refused, Wrote}
use Rattle.refusal.proofs.Checks.{refused-not-accepted, fit-accepted}
use Rattle.refusal.proofs.Gives.{Unplaced, refused-unplaced}
use Rattle.refusal.proofs.Outputs.{wrote-refusal, wrote-accepted, refusal-left, wrote-determined}
use Rattle.sdp.specs.declared.Packet.{Packet}
use Rattle.sdp.specs.Value.{Legal, Typed, held}
use Rattle.sdp.specs.SlotVerdict.{slots_verdict}
use Rattle.sdp.proofs.Numbers.{checked-legal}
use Rattle.subtitling.specs.declared.Answer.{Answer}
use Rattle.subtitling.specs.Layout.{layout as packetLayout}
use Rattle.subtitling.specs.Reading.{value_of, ReadsInto}
use Rattle.subtitling.specs.Writing.{value_verdict, Writes}
use Rattle.subtitling.specs.Order.{writing_checks}
use Rattle.subtitling.proofs.Numbers.{accepted-value}
use Rattle.subtitling.proofs.Held.{length-layout-held, few-structures}
use Rattle.subtitling.proofs.Back.{accepted-legal}
use Rattle.subtitling.proofs.Accepting.{accepted-verdict}
use Rattle.subtitling.proofs.Sequence.{writing-order}
use Rattle.subtitling.proofs.Illegal.{illegal-15-or-7}
use Rattle.pes.specs.Layout.{layout}
use Rattle.pes_convert.specs.Converting.{converted, convert_verdict, own_verdict, Converts, ConvertsValue}
use Rattle.pes_convert.specs.Order.{convert_checks, Carried}
use Rattle.pes_convert.proofs.Packets.{packet-decides, own-accepted, read_held}
use Rattle.pes_convert.proofs.Carrying.{carried-exactly}
use Rattle.pes_convert.proofs.Words.{order, accepted-packet, refusals, of-legal}

-- THE VALUE'S OWN CHECKS

own-legal : (p : Packet) (rows : List (List ℕ)) → Typed p rows → own_verdict (held p rows) ≡ Accepted → Legal (held p rows)
own-legal p rows t e = let ok = accepted-value (held p rows) 245 e in checked-legal p rows t ok.few ok.each

-- they are those of writing it, wherever a packet has room
any-room : (p : Packet) (rows : List (List ℕ)) → Typed p rows → (room : ℕ) → 245 ≤ room → value_verdict (held p rows) room ≡ own_verdict (held p rows)
unfolding value_verdict
any-room p rows t room enough =
    let v = held p rows in
    let n = length (packetLayout v) in
    let short : n ≤ 245 = omega (arith, length-layout-held p rows t, few-structures p rows t) in
    let fits : n ≤ room = omega arith in
    ap (λ (fit : Verdict). and_then (refuse_if (ltb 65535 v.counter) (Unholdable Counter) Whole) (and_then (slots_verdict v.slots) (and_then fit Accepted)))
    (fit-accepted 245 n room short fits ∙ sym (fit-accepted 245 n 245 short short))

pub of-value : (p : Packet) (rows : List (List ℕ)) (out : List ℕ) (r : Written) (exit : List ℕ) → ConvertsValue p rows out r exit → Legal (held p rows)
    → Wrote (convert_verdict Accepted (held p rows) (length out)) (layout (converted (held p rows))) out r exit
of-value p rows out r exit c h =
    let v = held p rows in
    subst (λ (packet : Verdict). Wrote (convert_verdict packet v (length out)) (layout (converted v)) out r exit) (own-accepted v h) c.wrote

module _ (p : Packet) (rows : List (List ℕ)) (out : List ℕ) (r : Written) (exit : List ℕ) (c : ConvertsValue p rows out r exit) where
  abbrev own : Verdict
  own = own_verdict (held p rows)

  abbrev verdict : Verdict
  verdict = convert_verdict own (held p rows) (length out)

  told : r.refusal ≡ refusal_of verdict
  told = wrote-refusal _ _ _ _ _ c.wrote

  illegal : (own ≡ Accepted → ⊥) → Legal (held p rows) → ⊥
  illegal none h = none (own-accepted (held p rows) h)

  decides : (own ≡ Accepted → ⊥) → r.refusal ≡ refusal_of own
  decides none = told ∙ ap refusal_of (packet-decides own (held p rows) (length out) none)

  pub value-first : r.refusal ≡ refusal_of (first (convert_checks (writing_checks (held p rows) 245) (held p rows) (length out)))
  value-first =
      told
      ∙ ap (λ (packet : Verdict). refusal_of (convert_verdict packet (held p rows) (length out))) (writing-order (held p rows) 245)
      ∙ ap refusal_of (order (writing_checks (held p rows) 245) (held p rows) (length out))

  pub value-exactly : r.refusal.number ≡ 0 ↔ Carried (held p rows) (length out)
  value-exactly = (
    λ e.
        let h = own-legal p rows c.typed (accepted-packet own (held p rows) (length out) (wrote-accepted _ _ _ _ _ c.wrote e)) in
        let both = (carried-exactly (held p rows) h out r exit (of-value p rows out r exit c h)).0 e in
        record { legal = h; lines = both.0; fits = both.1 },
    λ h. (carried-exactly (held p rows) h.legal out r exit (of-value p rows out r exit c h.legal)).1 (h.lines, h.fits),
  )

  pub illegal-refused : (Legal (held p rows) → ⊥) → (r.refusal ≡ refused 15 0) ⊎ (r.refusal ≡ refused 7 0)
  illegal-refused h =
      subst (λ (x : Refusal). (x ≡ refused 15 0) ⊎ (x ≡ refused 7 0)) (sym (decides (λ e. h (own-legal p rows c.typed e))))
      (illegal-15-or-7 p rows 245 c.typed h)

  pub as_written : (words : List ℕ) (w : Written) (end : List ℕ) → Writes p rows words w end → 245 ≤ length words → (w.refusal.number ≡ 0 → ⊥)
      → r.refusal ≡ w.refusal
  as_written words w end writes enough h =
      let same : w.refusal ≡ refusal_of own = wrote-refusal _ _ _ _ _ writes.wrote ∙ ap refusal_of (any-room p rows c.typed (length words) enough) in
      decides (λ e. h (ap (λ (x : Refusal). x.number) same ∙ ap (λ (v : Verdict). (refusal_of v).number) e)) ∙ sym same

  -- no refusal has a place: those of the value's own checks are 15 or 7
  placed : (known : Verdict) → verdict ≡ known → Unplaced (refusal_of verdict)
  placed Accepted e = ap (λ (v : Verdict). (refusal_of v).place) e
  placed (Refused reason item) e =
      ⊎_elim
      (λ w.
      ap (λ (x : Refusal). x.place) w.1
      ∙ ⊎_elim (refused-unplaced 15 (refusal_of own)) (refused-unplaced 7 (refusal_of own)) (illegal-15-or-7 p rows 245 c.typed (illegal w.0)))
      (λ w. ⊎_elim (refused-unplaced 7 (refusal_of verdict)) (refused-unplaced 14 (refusal_of verdict)) w)
      (refusals own (held p rows) (length out) (λ a. refused-not-accepted reason item (sym e ∙ a)))

  pub value-place : r.refusal.place ≡ 0
  value-place = ap (λ (x : Refusal). x.place) told ∙ placed verdict refl

  pub value-untouched : (r.refusal.number ≡ 0 → ⊥) → (r.len ≡ 0) × (exit ≡ out)
  value-untouched h = refusal-left _ _ _ _ _ c.wrote h

-- BOTH WAYS

pub value-as-words : (p : Packet) (rows : List (List ℕ)) → Legal (held p rows)
    → (out : List ℕ) (a : Written) (exit : List ℕ) (b : Written) (end : List ℕ)
    → Converts (packetLayout (held p rows)) out a exit → ConvertsValue p rows out b end → (a ≡ b) × (exit ≡ end)
value-as-words p rows h out a exit b end ca cb =
    wrote-determined _ _ _ _ _ (of-legal (held p rows) h out a exit ca) b end (of-value p rows out b end cb h)

pub words-as-value : (s : List ℕ) (lent : List (List ℕ)) (read : Answer) (rows : List (List ℕ)) → ReadsInto s lent read rows → read.refusal.number ≡ 0
    → (out : List ℕ) (a : Written) (exit : List ℕ) (b : Written) (end : List ℕ)
    → Converts s out a exit → ConvertsValue read.packet rows out b end → (a ≡ b) × (exit ≡ end)
words-as-value s lent read rows i e out a exit b end ca cb =
    let ok = accepted-verdict s read i.answer e in
    let back = accepted-legal s ok in
    let same : held read.packet rows ≡ value_of s = read_held s lent read rows i ok in
    let words : packetLayout (held read.packet rows) ≡ s = ap packetLayout same ∙ back.same in
    value-as-words read.packet rows (subst Legal (sym same) back.legal) out a exit b end
    (subst (λ (t : List ℕ). Converts t out a exit) (sym words) ca) cb
