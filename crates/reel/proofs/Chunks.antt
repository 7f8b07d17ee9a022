-- A reel payload by payload, as a run is cut into chunks: what the first of them and those behind it say and lay.
-- Assumes nothing.
use Prim.Native.Nat.{ℕ, ◌+◌, ◌-◌, ◌*◌, ◌≤◌, ◌<◌, min}
use native.Mathlib.Omega.{arith}
use mathlib.Core.Path.{◌≡◌, ◌∙◌, ap, ap₂, refl}
use mathlib.Core.List.{List, ◌∷◌, ◌++◌, map}
use lib.Dec.{ltb}
use lib.ListN.{length}
use lib.Seq.{take_at, drop_at}
use Rattle.lists.proofs.Fill.{length-filled}
use Rattle.refusal.specs.Verdict.{Verdict}
use Rattle.refusal.specs.declared.Reason.TheVariants.{NoRoom}
use Rattle.refusal.specs.declared.Item.TheVariants.{Whole}
use Rattle.refusal.specs.Checks.{refuse_if, and_then}
use Rattle.refusal.proofs.Checks.{and_then-assoc}
use Rattle.line21.specs.declared.AccessUnit.{AccessUnit}
use Rattle.line21.specs.Value.{blank, stored}
use Rattle.line21.specs.Layout.{layout}
use Rattle.line21.specs.Writing.{units_verdict, value_verdict}
use Rattle.line21.proofs.Answers.{stored-units}
use Rattle.line21.proofs.Layouts.{length-layout_units}
use Rattle.line21.proofs.Numbers.{verdict-few}
use Rattle.reel.specs.Cut.{cut}
use Rattle.reel.specs.Writing.{payload, reel, reel_layout, reel_verdict}
use Rattle.reel.proofs.Cutting.{cut-least}

-- the check of the room for what is laid
abbrev pub room_verdict : ℕ → ℕ → Verdict
room_verdict room n = refuse_if (ltb room n) NoRoom Whole

-- what the writer of one payload says of at most 291 units
few-verdict : (flags : ℕ) (us : List AccessUnit) (room : ℕ) → length us ≤ 291
    → value_verdict (stored (payload flags us)) room ≡ and_then (units_verdict us) (room_verdict room (1 + 5 * length us))
few-verdict flags us room few =
    verdict-few (stored (payload flags us)) (length-filled us 291 blank few) few room
    ∙ ap (λ (vs : List AccessUnit). and_then (units_verdict vs) (room_verdict room (1 + 5 * length us))) (stored-units (payload flags us))

pub length-one : (flags : ℕ) (us : List AccessUnit) → length (layout (payload flags us)) ≡ 1 + 5 * length us
length-one flags us = omega (arith, length-layout_units us)

-- a chunk of a run: of its size, or all that is left
pub record Chunk (size : ℕ) (us rest : List AccessUnit) : Type 0 where
  pub some : 1 ≤ size
  pub few : size ≤ 291
  pub more : 0 < length (us ++ rest)
  pub first : length us ≡ min size (length (us ++ rest))

module _ (flags size : ℕ) (us rest : List AccessUnit) (chunk : Chunk size us rest) where
  pieces : cut size (us ++ rest) ≡ us ∷ cut size rest
  pieces =
      cut-least size chunk.some (us ++ rest) (length us) chunk.more chunk.first
      ∙ ap₂ (λ (piece left : List AccessUnit). piece ∷ cut size left) (take_at us rest (length us) refl) (drop_at us rest (length us) refl)

  pub chunk-few : length us ≤ 291
  chunk-few = let few = chunk.few in let first = chunk.first in omega arith

  -- the checks: those of this payload, then those of the others
  pub value-chunk : (room : ℕ) → reel_verdict (reel flags size (us ++ rest)) room
      ≡ and_then (value_verdict (stored (payload flags us)) room) (reel_verdict (reel flags size rest) (room - (1 + 5 * length us)))
  value-chunk room =
      ap (λ (ps : List (List AccessUnit)). reel_verdict (map (payload flags) ps) room) pieces
      ∙ ap (λ (n : ℕ). and_then (value_verdict (stored (payload flags us)) room) (reel_verdict (reel flags size rest) (room - n))) (length-one flags us)

  -- those of its units, that of its room, then those of the others
  pub verdict-chunk : (room : ℕ) → reel_verdict (reel flags size (us ++ rest)) room
      ≡ and_then (units_verdict us) (and_then (room_verdict room (1 + 5 * length us)) (reel_verdict (reel flags size rest) (room - (1 + 5 * length us))))
  verdict-chunk room =
      value-chunk room
      ∙ ap (λ (v : Verdict). and_then v (reel_verdict (reel flags size rest) (room - (1 + 5 * length us)))) (few-verdict flags us room chunk-few)
      ∙ and_then-assoc (units_verdict us) (room_verdict room (1 + 5 * length us)) (reel_verdict (reel flags size rest) (room - (1 + 5 * length us)))

  -- the bytes: its own, then those of the others
  pub layout-chunk : reel_layout (reel flags size (us ++ rest)) ≡ layout (payload flags us) ++ reel_layout (reel flags size rest)
  layout-chunk = ap (λ (ps : List (List AccessUnit)). reel_layout (map (payload flags) ps)) pieces

-- what a step of `chunks` says
pub chunk-of : (size n : ℕ) (all us rest : List AccessUnit) → 1 ≤ size → size ≤ 291 → n ≡ size → all ≡ us ++ rest → length us ≡ min n (length all) → 0 < length all → Chunk size us rest
chunk-of size n all us rest some few same split first more =
    let long = ap length split in
    record {
      some = some;
      few = few;
      more = omega (arith, long);
      first = first ∙ ap₂ min same long;
    }
