-- The theorems on which units are ours (docs/RULES.md, "Picture area" and "GA94"). What they speak of is defined in
-- specs/Ours. How to read it: docs/NOTATION.md. Assumes nothing.
use Prim.Native.Nat.{ℕ, ◌≤◌, ◌<◌}
use mathlib.Core.Path.{◌≡◌}
use mathlib.Core.Logic.{◌↔◌, ◌⊎◌}
use mathlib.Core.Bool.{Bool, true, false, not, ◌&&◌}
use mathlib.Core.List.{List, [], ◌∷◌}
use lib.Dec.{eqb}
use lib.ListN.{length, get_or, drop}
use Rattle.kind.specs.declared.Kind.{Kind}
use Rattle.kind.specs.declared.Kind.TheVariants.{Scte20, Ga94}
use Rattle.kind.specs.Ours.{group_type, grouped, typed_or_ends, ours}
use Rattle.kind.proofs.First as first

-- A unit without a body is foreign.
pub ours-nothing : (kind : Kind) → ours kind [] ≡ false
ours-nothing = first.ours-nothing

-- A body of one byte is SCTE 20's exactly where that is 03.
pub scte20-alone : (b : ℕ) → ours Scte20 (b ∷ []) ≡ eqb b 3
scte20-alone = first.scte20-alone

-- Of a longer one the first two bytes decide: 03, and not the type of a data group,
pub scte20-first : (body : List ℕ) → 2 ≤ length body
    → ours Scte20 body ≡ eqb (get_or body 0 0) 3 && not (group_type (get_or body 1 0))
scte20-first = first.scte20-first

-- which is 09 or 0A.
pub group-types : (b : ℕ) → group_type b ≡ true ↔ ((b ≡ 0x09) ⊎ (b ≡ 0x0A))
group-types = first.group-types

-- A data group is foreign to both kinds.
pub group-foreign : (kind : Kind) (body : List ℕ) → grouped body ≡ true → ours kind body ≡ false
group-foreign = first.group-foreign

-- GA94's is a body that begins 47 41 39 34, and goes on with 03 or ends there.
pub ga94-first : (body : List ℕ) → 4 ≤ length body
    → ours Ga94 body
    ≡ eqb (get_or body 0 0) 0x47
    && (eqb (get_or body 1 0) 0x41
    && (eqb (get_or body 2 0) 0x39 && (eqb (get_or body 3 0) 0x34 && typed_or_ends (drop 4 body))))
ga94-first = first.ga94-first

-- Where the identifier is cut short, the unit is foreign.
pub ga94-short : (body : List ℕ) → length body < 4 → ours Ga94 body ≡ false
ga94-short = first.ga94-short

-- What is ours of one kind is foreign to the other.
pub kinds-apart : (kind other : Kind) (body : List ℕ) → (kind ≡ other → ⊥)
    → ours kind body ≡ true → ours other body ≡ false
kinds-apart = first.kinds-apart

-- Two answers that keep the promise of `ours` are equal, and of `group_type`.
pub ours-determined : (kind : Kind) (body : List ℕ) (a b : Bool) → a ≡ ours kind body → b ≡ ours kind body → a ≡ b
ours-determined = first.ours-determined

pub group-type-determined : (b : ℕ) (x y : Bool) → x ≡ group_type b → y ≡ group_type b → x ≡ y
group-type-determined = first.group-type-determined
