use Rattle.std.proofs.Common.{◌≡◌, ℕ, ◌+◌, ◌*◌, ◌≤◌, ◌<◌, List, length, map, get_or, take, drop, sym, ap, ◌∙◌, arith}
use Rattle.lists.proofs.Fill.{filled_next, filled-same, filled-all}
use Rattle.anc.specs.Words.{byte_of}
use Rattle.sdp.specs.Value.{zero_row}
use Rattle.sdp.specs.Layout.{count, user_length}
use Rattle.sdp.specs.User.{structures_in, mark_of}
use Rattle.sdp.proofs.Slots.{mark-some}
use Rattle.sdp.proofs.Descriptors.{count-front, count-more, descriptor-at, length-descriptors}
use Rattle.subtitling.proofs.Rows.{length-rows_in, row-some, row-none}
use Rattle.subtitling_reader.proofs.Told.{descriptors, all_rows}
use Rattle.subtitling_reader.proofs.rows_in.Goals.{then-user-i-ne0, else-user-i-ne0}
use Rattle.subtitling_reader.proofs.rows_in.Goals as goal

-- a turn: descriptor i
module _ (user : List ℕ) (i : ℕ) (below : i < 5) (whole : length user ≡ user_length (structures_in (map byte_of user))) where
  here : get_or (descriptors user) i 0 ≡ byte_of (get_or user (4 + i) 0)
  here = descriptor-at user i below

  five : length (descriptors user) ≡ 5
  five = length-descriptors user (let long : 9 ≤ length user = omega arith in long)

  inside : i < length (descriptors user)
  inside = omega (arith, five)

  next : count (take (i + 1) (descriptors user)) ≡ count (take i (descriptors user)) + mark_of (get_or (descriptors user) i 0)
  next = count-more (descriptors user) i inside

  -- its structure is within the user words
  fits : (at : ℕ) → at ≡ 9 + 45 * count (take i (descriptors user)) → (byte_of (get_or user (4 + i) 0) ≡ 0 → ⊥) → at + 45 ≤ length user
  fits at e ne =
      let some = mark-some (get_or (descriptors user) i 0) (λ z. ne (sym here ∙ z)) in
      omega (arith, e, next, count-front (descriptors user) (i + 1), whole)

pub row_at-requires : goal.row_at-requires
row_at-requires c =
    let user = c.args.user.now in
    omega (arith, fits user c.loop-i.i c.loop-i-test.true c.requires c.loop-i.at c.loop-i.invariant.place c.if-user-i-ne0.true)

pub loop-i-preserved : goal.loop-i-preserved
loop-i-preserved c =
    let user = c.args.user.now in
    let ds = descriptors user in
    let u = map byte_of user in
    let at = c.loop-i in
    let i = at.i in
    let below = c.loop-i-test.true in
    let within = inside user i below c.requires in
    let placed : i < length (all_rows user) = omega (arith, within, length-rows_in ds (drop 9 u)) in
    elim c.if-user-i-ne0.branch [
      | then-user-i-ne0 w ↦
          let some : get_or ds i 0 ≡ 0 → ⊥ = λ e. w.if-user-i-ne0.true (sym (here user i below c.requires) ∙ e) in
          let row = w.row_at.ensures ∙ row-some u i at.at within at.invariant.place some in
          record {
            place = omega (arith, w.at-is, at.invariant.place, next user i below c.requires, mark-some (get_or ds i 0) some);
            held = w.rows-is ∙ filled_next (all_rows user) 5 zero_row i below placed at.rows w.row_at.result at.invariant.held row;
          }
      | else-user-i-ne0 w ↦
          let none : get_or ds i 0 ≡ 0 = here user i below c.requires ∙ w.if-user-i-ne0.false in
          record {
            place = omega (arith, w.at-is, at.invariant.place, next user i below c.requires, ap mark_of none);
            held = w.rows-is ∙ at.invariant.held ∙ filled-same (all_rows user) 5 zero_row i below placed (row-none ds (drop 9 u) i within none);
          }
    ]

pub returns : goal.returns
returns c =
    let user = c.args.user.now in
    let long : 9 ≤ length user = omega arith in
    let five : length (all_rows user) ≡ 5 = length-rows_in (descriptors user) (drop 9 (map byte_of user)) ∙ length-descriptors user long in
    c.loop-i.invariant.held ∙ filled-all (all_rows user) 5 zero_row five c.loop-i.i c.loop-i-test.false
