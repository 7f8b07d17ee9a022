-- `convert`: when it succeeds, what it refuses with, and that what has no place in a data field does not matter to it.
-- Assumes nothing.
use Prim.Native.Nat.{ℕ}
use mathlib.Core.Path.{◌≡◌, ◌∙◌, ap, ap₂, sym, subst, subst₂, refl}
use mathlib.Core.Logic.{◌⊎◌, ◌↔◌, inl, inr, ⊎_elim}
use mathlib.Core.List.{List, [], ◌∷◌, ◌++◌, map}
use lib.Dec.{ltb}
use lib.ListN.{length}
use Rattle.refusal.specs.declared.Refusal.{Refusal}
use Rattle.refusal.specs.Verdict.{Verdict}
use Rattle.refusal.specs.Verdict.{Accepted, Refused}
use Rattle.refusal.specs.declared.Reason.TheVariants.{NoRoom}
use Rattle.refusal.specs.declared.Item.TheVariants.{Whole}
use Rattle.refusal.specs.declared.Written.{Written}
use Rattle.refusal.specs.Checks.{refuse_if, and_then, first}
use Rattle.refusal.specs.Numbers.{refusal_of}
use Rattle.refusal.specs.Answers.{refused, Wrote}
use Rattle.refusal.proofs.Checks.{accepted-and_then, refused-not-accepted}
use Rattle.refusal.proofs.Sequence.{first-append}
use Rattle.refusal.proofs.Gives.{Gives, refuse_if-gives, and_then-gives, gives_as}
use Rattle.refusal.proofs.Outputs.{wrote-refusal, wrote-accepted, refusal-left, wrote-determined}
use Rattle.sdp.specs.Value.{Sdp, Legal}
use Rattle.subtitling.specs.declared.Answer.{Answer}
use Rattle.subtitling.specs.Layout.{layout as packetLayout}
use Rattle.subtitling.specs.Reading.{packet_verdict, value_of, Reads}
use Rattle.subtitling.specs.Order.{reading_checks}
use Rattle.subtitling.proofs.Back.{layout-accepted, layout-value, accepted-legal}
use Rattle.subtitling.proofs.Sequence.{reading-order}
use Rattle.pes.specs.Value.{DataField}
use Rattle.pes.specs.Layout.{layout}
use Rattle.pes_convert.specs.Converting.{converted, lines_checks, convert_verdict, Converts}
use Rattle.pes_convert.specs.Order.{convert_checks, Carried, unreserved}
use Rattle.pes_convert.proofs.Packets.{packet-decides}
use Rattle.pes_convert.proofs.Units.{same_lines, same-converted}
use Rattle.pes_convert.proofs.Lines.{Is7, lines-gives}
use Rattle.pes_convert.proofs.Carrying.{carried-exactly}

-- THE VERDICT

abbrev room_check : Sdp → ℕ → Verdict
room_check v room = refuse_if (ltb room (length (layout (converted v)))) NoRoom Whole

-- one list of checks
pub order : (packet : List Verdict) (v : Sdp) (room : ℕ) → convert_verdict (first packet) v room ≡ first (convert_checks packet v room)
unfolding convert_verdict
order packet v room =
    sym
    (first-append packet (lines_checks v.slots ++ (room_check v room ∷ []))
    ∙ ap (and_then (first packet)) (first-append (lines_checks v.slots) (room_check v room ∷ [])))

pub accepted-packet : (packet : Verdict) (v : Sdp) (room : ℕ) → convert_verdict packet v room ≡ Accepted → packet ≡ Accepted
unfolding convert_verdict
accepted-packet packet v room e = (accepted-and_then packet _ e).0

-- behind the packet's checks there are 7 and 14
abbrev pub Is7or14 : Refusal → Type 0
Is7or14 r = (r ≡ refused 7 0) ⊎ (r ≡ refused 14 0)

lines-room : (v : Sdp) (room : ℕ) → Gives Is7or14 (convert_verdict Accepted v room)
unfolding convert_verdict
lines-room v room =
    and_then-gives Is7or14 (first (lines_checks v.slots)) (first (room_check v room ∷ []))
    (gives_as Is7 Is7or14 (λ r e. inl e) (first (lines_checks v.slots)) (lines-gives v.slots))
    (and_then-gives Is7or14 (room_check v room) Accepted (refuse_if-gives Is7or14 (ltb room (length (layout (converted v)))) NoRoom Whole (inr refl)) (inl refl))

pub refusals : (packet : Verdict) (v : Sdp) (room : ℕ) → (convert_verdict packet v room ≡ Accepted → ⊥)
    → ((packet ≡ Accepted → ⊥) × (refusal_of (convert_verdict packet v room) ≡ refusal_of packet)) ⊎ Is7or14 (refusal_of (convert_verdict packet v room))
refusals Accepted v room h = ⊎_elim (λ e. absurd (h e)) inr (lines-room v room)
refusals (Refused reason item) v room h =
    let none : Refused reason item ≡ Accepted → ⊥ = λ e. refused-not-accepted reason item e in
    inl (none, ap refusal_of (packet-decides (Refused reason item) v room none))

-- A LEGAL VALUE'S WORDS

pub of-legal : (v : Sdp) → Legal v → (out : List ℕ) (r : Written) (exit : List ℕ) → Converts (packetLayout v) out r exit
    → Wrote (convert_verdict Accepted v (length out)) (layout (converted v)) out r exit
of-legal v h out r exit c =
    subst₂ (λ (packet : Verdict) (w : Sdp). Wrote (convert_verdict packet w (length out)) (layout (converted w)) out r exit) (layout-accepted v h) (layout-value v h) c

pub reserved-dropped : (v w : Sdp) → Legal v → Legal w → map unreserved v.slots ≡ map unreserved w.slots
    → (out : List ℕ) (a : Written) (exit : List ℕ) (b : Written) (end : List ℕ)
    → Converts (packetLayout v) out a exit → Converts (packetLayout w) out b end → (a ≡ b) × (exit ≡ end)
unfolding convert_verdict
reserved-dropped v w h g same out a exit b end ca cb =
    let fields : converted v ≡ converted w = same-converted v w same in
    let verdicts : convert_verdict Accepted v (length out) ≡ convert_verdict Accepted w (length out) =
    ap₂ (λ (lines : List Verdict) (field : DataField). and_then (first lines) (and_then (refuse_if (ltb (length out) (length (layout field))) NoRoom Whole) Accepted))
    (same_lines v.slots w.slots same) fields in
    wrote-determined _ _ _ _ _ (of-legal v h out a exit ca) b end
    (subst₂ (λ (verdict : Verdict) (laid : List ℕ). Wrote verdict laid out b end) (sym verdicts) (ap layout (sym fields)) (of-legal w g out b end cb))

-- ANY WORDS

module _ (s out : List ℕ) (r : Written) (exit : List ℕ) (c : Converts s out r exit) where
  abbrev verdict : Verdict
  verdict = convert_verdict (packet_verdict s) (value_of s) (length out)

  told : r.refusal ≡ refusal_of verdict
  told = wrote-refusal _ _ _ _ _ c

  refuses : (r.refusal.number ≡ 0 → ⊥) → verdict ≡ Accepted → ⊥
  refuses h e = h (ap (λ (x : Refusal). x.number) told ∙ ap (λ (v : Verdict). (refusal_of v).number) e)

  pub convert-first : r.refusal ≡ refusal_of (first (convert_checks (reading_checks s) (value_of s) (length out)))
  convert-first =
      told
      ∙ ap (λ (packet : Verdict). refusal_of (convert_verdict packet (value_of s) (length out))) (reading-order s)
      ∙ ap refusal_of (order (reading_checks s) (value_of s) (length out))

  pub converts-exactly : r.refusal.number ≡ 0 ↔ ((v : Sdp) × (packetLayout v ≡ s) × Carried v (length out))
  converts-exactly = (
    λ e.
        let back = accepted-legal s (accepted-packet (packet_verdict s) (value_of s) (length out) (wrote-accepted _ _ _ _ _ c e)) in
        let v = value_of s in
        let wrote = of-legal v back.legal out r exit (subst (λ (t : List ℕ). Converts t out r exit) (sym back.same) c) in
        let both = (carried-exactly v back.legal out r exit wrote).0 e in
        (v, back.same, record { legal = back.legal; lines = both.0; fits = both.1 }),
    λ w.
        let v = w.0 in
        let h = w.2 in
        let wrote = of-legal v h.legal out r exit (subst (λ (t : List ℕ). Converts t out r exit) (sym w.1) c) in
        (carried-exactly v h.legal out r exit wrote).1 (h.lines, h.fits),
  )

  pub packet-refused : (a : Answer) → Reads s a → (a.refusal.number ≡ 0 → ⊥) → r.refusal ≡ a.refusal
  packet-refused a read h =
      let same : a.refusal ≡ refusal_of (packet_verdict s) = ap (λ (x : Answer). x.refusal) read in
      let none : packet_verdict s ≡ Accepted → ⊥ =
      λ e. h (ap (λ (x : Refusal). x.number) same ∙ ap (λ (v : Verdict). (refusal_of v).number) e) in
      told ∙ ap refusal_of (packet-decides (packet_verdict s) (value_of s) (length out) none) ∙ sym same

  pub refused-only : (r.refusal.number ≡ 0 → ⊥)
      → (r.refusal ≡ refusal_of (packet_verdict s)) ⊎ ((r.refusal ≡ refused 7 0) ⊎ (r.refusal ≡ refused 14 0))
  refused-only h =
      ⊎_elim (λ w. inl (told ∙ w.1)) (λ w. inr (⊎_elim (λ e. inl (told ∙ e)) (λ e. inr (told ∙ e)) w))
      (refusals (packet_verdict s) (value_of s) (length out) (refuses h))

  pub refused-untouched : (r.refusal.number ≡ 0 → ⊥) → (r.len ≡ 0) × (exit ≡ out)
  refused-untouched h = refusal-left _ _ _ _ _ c h
