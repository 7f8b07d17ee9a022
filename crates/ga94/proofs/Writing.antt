-- Writing a body into an output: when it succeeds, what the output then holds, and what a refusal tells and leaves.
-- Assumes nothing.
use Rattle.std.specs.Prelude.{Ok}
use Prim.Native.Nat.{ℕ, ◌+◌, ◌≤◌}
use native.Mathlib.Omega.{arith}
use mathlib.Core.Path.{◌≡◌, ◌∙◌, ap, sym}
use mathlib.Core.Logic.{◌↔◌}
use mathlib.Core.List.{List}
use lib.ListN.{length}
use Rattle.lists.specs.Room.{over_at}
use Rattle.refusal.specs.Verdict.{Verdict}
use Rattle.refusal.specs.Verdict.{Accepted}
use Rattle.refusal.specs.Numbers.{refusal_of}
use Rattle.refusal.specs.Checks.{first}
use Rattle.refusal.specs.Answers.{refused, laid_of, body_left, Judged, verdict_of, len_of}
use Rattle.refusal.proofs.Outputs.{laid-verdict, refused-laid}
use Rattle.ga94.specs.Value.{CaptionUnit, LegalCaptionUnit, held}
use Rattle.ga94.specs.Layout.{layout}
use Rattle.ga94.specs.Writing.{whole_verdict, body_verdict, Writes}
use Rattle.ga94.specs.Order.{writing_checks}
use Rattle.ga94.proofs.Writable.{accepted-write, write-accepted, flag-16}
use Rattle.ga94.proofs.Sequence.{writing-order}

module _ (u : CaptionUnit) (before after : ℕ) (out : List ℕ) (r : Judged ℕ) (exit : List ℕ) (w : Writes u before after out r exit) where
  pub write-in-order : verdict_of r ≡ body_verdict u before after (length out)
  write-in-order = ap verdict_of w.counted ∙ laid-verdict (body_verdict u before after (length out)) (layout (held u))

  pub write-first : verdict_of r ≡ first (writing_checks u (before + length (layout (held u)) + after) (length out))
  write-first = write-in-order ∙ writing-order u (before + length (layout (held u)) + after) (length out)

  pub writes-exactly : verdict_of r ≡ Accepted
      ↔ (LegalCaptionUnit u × (before + length (layout (held u)) + after ≤ 16384) × (before + length (layout (held u)) + after ≤ length out))
  writes-exactly =
      let size = before + length (layout (held u)) + after in
      let within : length (layout (held u)) ≤ size = omega arith in (
        λ e. accepted-write u size (length out) w.typed (sym write-in-order ∙ e),
        λ h. write-in-order ∙ write-accepted u size (length out) w.typed h.0 within h.1 h.2,
      )

  pub written-there : verdict_of r ≡ Accepted → (r ≡ Ok (length (layout (held u)))) × (exit ≡ over_at before (layout (held u)) out)
  written-there e =
      let ok : body_verdict u before after (length out) ≡ Accepted = sym write-in-order ∙ e in (
        w.counted ∙ ap (λ (v : Verdict). laid_of v (layout (held u))) ok,
        w.left ∙ ap (λ (v : Verdict). body_left v before (layout (held u)) out) ok,
      )

  -- with the third flag set, and nothing else that its layout cannot hold
  pub write-16 : whole_verdict u ≡ Accepted → (u.additional_data_flag ≡ 0 → ⊥) → refusal_of (verdict_of r) ≡ refused 16 0
  write-16 whole set =
      ap refusal_of write-in-order ∙ flag-16 u (before + length (layout (held u)) + after) (length out) whole set

  pub refused-untouched : (verdict_of r ≡ Accepted → ⊥) → (len_of r ≡ 0) × (exit ≡ out)
  refused-untouched h =
      let same = refused-laid (body_verdict u before after (length out)) before (layout (held u)) out (λ e. h (write-in-order ∙ e)) in
      (ap len_of w.counted ∙ same.0, w.left ∙ same.1)
