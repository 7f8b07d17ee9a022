-- An output in which a body stands, and what is laid around it: the bytes before its unit, the start code, and the bytes after it. Together they
-- are laid over the output's front.
-- Assumes nothing.
use Prim.Native.Nat.{ℕ, ◌+◌, ◌-◌, ◌≤◌}
use native.Mathlib.Omega.{arith}
use mathlib.Core.Path.{◌≡◌, ◌∙◌, ap, sym}
use mathlib.Core.List.{List, ◌++◌, append_assoc}
use borrow.Rule.Slice.PartMut.{put_mid}
use lib.ListN.{length, take, drop, length-append}
use lib.Seq.{drop-append_seam, drop-drop}
use Rattle.lists.specs.Room.{over, over_at}
use Rattle.lists.proofs.Lay.{length_over, drop-over, laid_more, rest-whole, length_rest, length-over_at, drop-over_at, over-over_at}
use Rattle.units.specs.Layout.{started, layout_unit}
use Rattle.units.proofs.Started.{started-long}

-- THE START CODE

-- before a body it makes a unit
started-body : (body rest xs : List ℕ) → 4 ≤ length xs → drop 4 xs ≡ body ++ rest → started xs ≡ over (layout_unit body) xs
started-body body rest xs h e =
    let far : length (layout_unit body) ≡ 4 + length body = omega arith in
    let left : drop (length (layout_unit body)) xs ≡ rest =
    ap (λ (k : ℕ). drop k xs) far ∙ sym (drop-drop (length body) 4 xs) ∙ ap (drop (length body)) e ∙ drop-append_seam body rest in
    started-long xs h ∙ ap layout_unit (e ∙ ap (λ (r : List ℕ). body ++ r) (sym left))

-- a body behind the first four bytes of an output, and the start code over them
pub started-over : (body out : List ℕ) → 4 + length body ≤ length out → started (over_at 4 body out) ≡ over (layout_unit body) out
started-over body out fits =
    let long : 4 ≤ length (over_at 4 body out) = omega (arith, length-over_at 4 body out fits) in
    started-body body (drop (length body) (drop 4 out)) (over_at 4 body out) long (drop-over_at 4 body out fits)
    ∙ over-over_at 4 body out fits (layout_unit body) (omega arith)

-- AROUND THE BODY

module _ (front body back out : List ℕ) (start : ℕ) (e : length front ≡ start) (fits : start + 4 + length body + length back ≤ length out) where
  within : start + 4 + length body ≤ length out
  within = omega arith

  -- the front is laid
  pub length-fronted : length (over front (over_at (start + 4) body out)) ≡ length out
  length-fronted =
      let same = length-over_at (start + 4) body out within in
      length_over front (over_at (start + 4) body out) (omega arith) ∙ same

  -- then the start code
  length-unit : length (front ++ layout_unit body) ≡ start + 4 + length body
  length-unit = omega (arith, length-append front (layout_unit body))

  pub length-opened : length (over (front ++ layout_unit body) (over_at (start + 4) body out)) ≡ length out
  length-opened =
      let same = length-over_at (start + 4) body out within in
      length_over (front ++ layout_unit body) (over_at (start + 4) body out) (omega (arith, length-unit)) ∙ same

  pub opened : (xs part : List ℕ) → xs ≡ over front (over_at (start + 4) body out) → part ≡ started (take (length xs - start) (drop start xs))
      → put_mid start (length xs - start) xs part ≡ over (front ++ layout_unit body) (over_at (start + 4) body out)
  opened xs part laid code =
      let all = over_at (start + 4) body out in
      let rest : List ℕ = take (length xs - start) (drop start xs) in
      let long : 4 ≤ length rest = omega (arith, length_rest xs start, ap length laid, length-fronted) in
      let there : rest ≡ drop start all =
      rest-whole xs start ∙ ap (λ (ys : List ℕ). drop start ys) laid ∙ drop-over front all start e ∙ ap (λ (k : ℕ). drop k all) e in
      let body-there : drop 4 rest ≡ over body (drop (start + 4) out) =
      ap (λ (ys : List ℕ). drop 4 ys) there ∙ drop-drop 4 start all ∙ drop-over_at (start + 4) body out within in
      laid_more front (layout_unit body) all xs part start laid e (code ∙ started-body body (drop (length body) (drop (start + 4) out)) rest long body-there)

  -- then what comes after the unit
  pub closed : (xs part : List ℕ) (behind : ℕ) → xs ≡ over (front ++ layout_unit body) (over_at (start + 4) body out) → start + 4 + length body ≡ behind
      → part ≡ over back (take (length xs - behind) (drop behind xs))
      → put_mid behind (length xs - behind) xs part ≡ over (front ++ (layout_unit body ++ back)) out
  closed xs part behind laid ends stored =
      let all = over_at (start + 4) body out in
      let size : start + 4 + length body ≤ length (front ++ (layout_unit body ++ back)) =
      omega (arith, length-append front (layout_unit body ++ back), length-append (layout_unit body) back) in
      laid_more (front ++ layout_unit body) back all xs part behind laid (length-unit ∙ ends) stored
      ∙ ap (λ (whole : List ℕ). over whole all) (append_assoc front (layout_unit body) back)
      ∙ over-over_at (start + 4) body out within (front ++ (layout_unit body ++ back)) size
