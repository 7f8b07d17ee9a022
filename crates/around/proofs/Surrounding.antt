-- What is laid around a body: the whole is over the output's front, whatever the output held before the body.
-- Assumes nothing.
use Prim.Native.Nat.{ℕ, ◌+◌, ◌-◌, ◌≤◌, ◌<◌}
use native.Mathlib.Omega.{arith}
use mathlib.Core.Path.{◌≡◌, ◌∙◌, ap, sym}
use mathlib.Core.Bool.{Bool, true, false}
use mathlib.Core.List.{List, ◌++◌}
use borrow.Author.Tests.{le-leb, lt-leb}
use lib.ListN.{length, take, drop, length-drop, length-append, take-append-drop}
use lib.Seq.{length-take-le, take-append_seam}
use Rattle.lists.specs.Room.{over, over_at}
use Rattle.lists.proofs.Lay.{drop-over_at, length-over_at, over-over_at}
use Rattle.units.specs.Layout.{layout_unit}
use Rattle.around.specs.Around.{exchanged, fits, surrounded_if, surrounded, Surrounds}

-- how long the whole is
pub length_exchanged : (s : List ℕ) (start end : ℕ) (body : List ℕ) → start ≤ end → end ≤ length s
    → start + 4 + length body + (length s - end) ≡ length (exchanged s start end (layout_unit body))
length_exchanged s start end body forward inside =
    omega (
      arith,
      length-append (take start s) (layout_unit body ++ drop end s),
      length-append (layout_unit body) (drop end s),
      length-take-le start s (omega arith),
      length-drop end s,
    )

-- an output with a part of it laid where it stands
kept : (at len : ℕ) (out : List ℕ) → at + len ≤ length out → out ≡ over_at at (take len (drop at out)) out
kept at len out room =
    let long : length (take len (drop at out)) ≡ len = length-take-le len (drop at out) (omega (arith, length-drop at out)) in
    sym
    (ap (λ (n : ℕ). take at out ++ (take len (drop at out) ++ drop n (drop at out))) long
    ∙ ap (λ (xs : List ℕ). take at out ++ xs) (take-append-drop len (drop at out))
    ∙ take-append-drop at out)

module _ (s : List ℕ) (start end len : ℕ) (out : List ℕ) where
  refused : fits s start end len out ≡ false → surrounded s start end len out ≡ out
  unfolding surrounded
  refused e = ap (λ (t : Bool). surrounded_if t s start end len out) e

  -- where it does not fit, nothing changes
  pub backward : end < start → surrounded s start end len out ≡ out
  backward h = refused (simp (lt-leb start end h))

  pub beyond : start ≤ end → length s < end → surrounded s start end len out ≡ out
  beyond forward h = refused (simp (le-leb start end forward, lt-leb end (length s) h))

  module _ (forward : start ≤ end) (inside : end ≤ length s) where
    pub no_room : length out < start + 4 + len + (length s - end) → surrounded s start end len out ≡ out
    no_room h = refused (simp (le-leb start end forward, le-leb end (length s) inside, lt-leb (start + 4 + len + (length s - end)) (length out) h))

    module _ (room : start + 4 + len + (length s - end) ≤ length out) where
      fitting : surrounded s start end len out ≡ over (exchanged s start end (layout_unit (take len (drop (start + 4) out)))) out
      unfolding surrounded
      fitting =
          let e : fits s start end len out ≡ true =
          simp (le-leb start end forward, le-leb end (length s) inside, le-leb (start + 4 + len + (length s - end)) (length out) room) in
          ap (λ (t : Bool). surrounded_if t s start end len out) e

      -- what was laid around each body that stands there is that
      pub laid-surrounded : (exit : List ℕ) → Surrounds s start end len out exit → exit ≡ surrounded s start end len out
      laid-surrounded exit h =
          let piece = take len (drop (start + 4) out) in
          let long : length piece ≡ len = length-take-le len (drop (start + 4) out) (omega (arith, length-drop (start + 4) out)) in
          h piece out long (omega arith) (kept (start + 4) len out (omega arith)) ∙ sym fitting

-- around a body that was laid in an output, the whole is over that output's front
pub surrounded-body : (s : List ℕ) (start end : ℕ) (body out first : List ℕ) → start ≤ end → end ≤ length s
    → start + 4 + length body + (length s - end) ≤ length first → out ≡ over_at (start + 4) body first
    → surrounded s start end (length body) out ≡ over (exchanged s start end (layout_unit body)) first
surrounded-body s start end body out first forward inside room there =
    let at = start + 4 in
    let within : at + length body ≤ length first = omega arith in
    let same : length out ≡ length first = ap length there ∙ length-over_at at body first within in
    let stands : take (length body) (drop at out) ≡ body =
    ap (λ (xs : List ℕ). take (length body) (drop at xs)) there ∙ ap (take (length body)) (drop-over_at at body first within)
    ∙ take-append_seam body (drop (length body) (drop at first)) in
    let whole = exchanged s start end (layout_unit body) in
    let size : at + length body ≤ length whole = omega (arith, length_exchanged s start end body forward inside) in
    fitting s start end (length body) out forward inside (omega (arith, same))
    ∙ ap (λ (b : List ℕ). over (exchanged s start end (layout_unit b)) out) stands
    ∙ ap (λ (xs : List ℕ). over whole xs) there
    ∙ over-over_at at body first within whole size

-- Two answers that keep the promise of `surround` are equal.
pub surround-determined : (s : List ℕ) (start end len : ℕ) (out a b : List ℕ)
    → a ≡ surrounded s start end len out → b ≡ surrounded s start end len out → a ≡ b
surround-determined s start end len out a b p q = p ∙ sym q
