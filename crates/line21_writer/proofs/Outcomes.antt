-- What a verdict makes of the answer and of the output.
-- Assumes nothing.
use Prim.Native.Nat.{ℕ}
use mathlib.Core.Path.{◌≡◌, ◌∙◌, ap, sym}
use mathlib.Core.List.{List, []}
use lib.ListN.{length}
use Rattle.std.specs.Prelude.{Err}
use Rattle.lists.specs.Room.{over}
use Rattle.refusal.specs.Verdict.{Verdict}
use Rattle.refusal.specs.Verdict.{Accepted}
use Rattle.refusal.specs.declared.Reason.{Reason}
use Rattle.refusal.specs.declared.Item.{Item}
use Rattle.refusal.specs.declared.Written.{Written}
use Rattle.refusal.specs.Answers.{Wrote, counted_of, left_of, written}

module _ (verdict : Verdict) (laid out : List ℕ) (answer : Written) where
  pub wrote-refused : (why : Reason × Item) → verdict ≡ Err why → answer ≡ counted_of (Err why) [] → Wrote verdict laid out answer out
  wrote-refused why e told =
      record { counted = told ∙ ap (λ (v : Verdict). counted_of v laid) (sym e); left = ap (λ (v : Verdict). left_of v laid out) (sym e) }

  pub wrote-all : (n : ℕ) (exit : List ℕ) → verdict ≡ Accepted → answer ≡ written n → n ≡ length laid → exit ≡ over laid out → Wrote verdict laid out answer exit
  wrote-all n exit e told count stored =
      record {
        counted = told ∙ ap written count ∙ ap (λ (v : Verdict). counted_of v laid) (sym e);
        left = stored ∙ ap (λ (v : Verdict). left_of v laid out) (sym e);
      }
