-- Each call lays its piece over the output behind those before it, and the pieces with their two sums are the layout.
use Rattle.std.proofs.Common.{◌≡◌, ℕ, ◌+◌, ◌*◌, ◌%◌, ◌<◌, ◌≤◌, List, map, length, sym, ap, ◌∙◌, ap₂, arith}
use Rattle.lists.specs.Part.{part}
use Rattle.lists.specs.Room.{over}
use Rattle.lists.specs.Sum.{sum}
use Rattle.lists.proofs.Lay.{length_rest}
use Rattle.anc.specs.Words.{word_of, byte_of}
use Rattle.sdp.specs.Value.{descriptor, held}
use Rattle.sdp.specs.Layout.{user_length, structures}
use Rattle.subtitling.proofs.Held.{few-structures}
use Rattle.subtitling.proofs.Pieces.{footed, structures_of, length-footed}
use Rattle.subtitling_writer.proofs.Laying.{legal, room, o2, kept2, o3, kept3, o4, laid4, kept4, small-mod, header-sum, user-sum, sealed-laid, word-few, footer-few, added-user}
use Rattle.subtitling_writer.proofs.put.Goals.{After-put_descriptors-descriptors, After-put_structures-structures, After-put_footer-footer}
use Rattle.subtitling_writer.proofs.put.Goals as goal

pub overflow_mul-k : goal.overflow_mul-k
overflow_mul-k c = omega (arith, c.requires.k_value, few-structures c.args.p c.args.rows.now c.requires.typed)

pub overflow_add-k : goal.overflow_add-k
overflow_add-k c = omega (arith, c.requires.k_value, few-structures c.args.p c.args.rows.now c.requires.typed)

pub overflow_cast-k : goal.overflow_cast-k
overflow_cast-k c = omega (arith, c.requires.k_value, few-structures c.args.p c.args.rows.now c.requires.typed)

pub put_header-count-requires : goal.put_header-count-requires
put_header-count-requires c = omega (arith, room c.args.p c.args.rows.now c.args.out.now c.requires.typed c.requires.out_value)

pub put_descriptors-descriptors-requires : goal.put_descriptors-descriptors-requires
put_descriptors-descriptors-requires c =
    let o1 = c.put_header-count.new.out in
    omega (arith, length_rest o1 10, room c.args.p c.args.rows.now c.args.out.now c.requires.typed c.requires.out_value)

pub put_structures-structures-requires-clause-each : goal.put_structures-structures-requires-clause-each
put_structures-structures-requires-clause-each c =
    (legal c.args.p c.args.rows.now c.args.out.now c.requires.typed c.requires.out_value).each

-- the output behind two, three and four pieces is as long as it was
module _ (c : After-put_descriptors-descriptors) where
  two : length (o2 c.args.p c.args.rows.now c.args.out.now c.requires.typed c.requires.out_value c.put_header-count.new.out c.args.k c.requires.k_value c.put_header-count.ensures.out_after c.put_descriptors-descriptors.new.out c.put_descriptors-descriptors.ensures.out_after)
      ≡ length c.args.out.now
  two = kept2 c.args.p c.args.rows.now c.args.out.now c.requires.typed c.requires.out_value c.put_header-count.new.out c.args.k c.requires.k_value c.put_header-count.ensures.out_after c.put_descriptors-descriptors.new.out c.put_descriptors-descriptors.ensures.out_after

pub put_structures-structures-requires-clause-slots_in_bounds : goal.put_structures-structures-requires-clause-slots_in_bounds
put_structures-structures-requires-clause-slots_in_bounds c =
    let p = c.args.p in
    let rows = c.args.rows.now in
    let out = c.args.out.now in
    let behind = o2 p rows out c.requires.typed c.requires.out_value c.put_header-count.new.out c.args.k c.requires.k_value c.put_header-count.ensures.out_after c.put_descriptors-descriptors.new.out c.put_descriptors-descriptors.ensures.out_after in
    omega (arith, length_rest behind 15, two (goal.at.put_structures-structures-requires-clause-slots_in_bounds c).After-put_descriptors-descriptors, room p rows out c.requires.typed c.requires.out_value)

pub overflow_mul-k-2 : goal.overflow_mul-k-2
overflow_mul-k-2 c = omega (arith, c.requires.k_value, few-structures c.args.p c.args.rows.now c.requires.typed)

pub overflow_add-k-2 : goal.overflow_add-k-2
overflow_add-k-2 c = omega (arith, c.requires.k_value, few-structures c.args.p c.args.rows.now c.requires.typed)

pub offset_bounds-out-k : goal.offset_bounds-out-k
offset_bounds-out-k c = omega (arith, c.requires.k_value, few-structures c.args.p c.args.rows.now c.requires.typed)

module _ (c : After-put_structures-structures) where
  abbrev behind3 : List ℕ
  behind3 =
      o3 c.args.p c.args.rows.now c.args.out.now c.requires.typed c.requires.out_value c.put_header-count.new.out c.args.k c.requires.k_value c.put_header-count.ensures.out_after
      c.put_descriptors-descriptors.new.out c.put_descriptors-descriptors.ensures.out_after
      c.put_structures-structures.new.out c.put_structures-structures.ensures.out_after

  -- the footer has its place
  footer-room : 15 + 45 * c.args.k + 3 ≤ length behind3
  footer-room =
      let kept =
      kept3 c.args.p c.args.rows.now c.args.out.now c.requires.typed c.requires.out_value c.put_header-count.new.out c.args.k c.requires.k_value c.put_header-count.ensures.out_after
      c.put_descriptors-descriptors.new.out c.put_descriptors-descriptors.ensures.out_after
      c.put_structures-structures.new.out c.put_structures-structures.ensures.out_after in
      omega (arith, kept, room c.args.p c.args.rows.now c.args.out.now c.requires.typed c.requires.out_value, c.requires.k_value)

pub slice_bounds-put_footer-count : goal.slice_bounds-put_footer-count
slice_bounds-put_footer-count c = omega (arith, footer-room (goal.at.slice_bounds-put_footer-count c).After-put_structures-structures)

pub slice_bounds-put_footer-start : goal.slice_bounds-put_footer-start
slice_bounds-put_footer-start c = omega (arith, footer-room (goal.at.slice_bounds-put_footer-start c).After-put_structures-structures)

pub put_footer-footer-requires-clause-counter_bound : goal.put_footer-footer-requires-clause-counter_bound
put_footer-footer-requires-clause-counter_bound c = omega (arith, (legal c.args.p c.args.rows.now c.args.out.now c.requires.typed c.requires.out_value).count)

pub put_footer-footer-requires-clause-in_bounds : goal.put_footer-footer-requires-clause-in_bounds
put_footer-footer-requires-clause-in_bounds c =
    let at = (goal.at.put_footer-footer-requires-clause-in_bounds c).After-put_structures-structures in
    omega (arith, length_rest (behind3 at) (15 + 45 * c.args.k), footer-room at)

-- behind the footer
module _ (c : After-put_footer-footer) where
  abbrev behind4 : List ℕ
  behind4 =
      o4 c.args.p c.args.rows.now c.args.out.now c.requires.typed c.requires.out_value c.put_header-count.new.out c.args.k c.requires.k_value c.put_header-count.ensures.out_after
      c.put_descriptors-descriptors.new.out c.put_descriptors-descriptors.ensures.out_after
      c.put_structures-structures.new.out c.put_structures-structures.ensures.out_after
      c.put_footer-footer.new.out c.put_footer-footer.ensures.out_after

  laid : behind4 ≡ over (footed c.args.p c.args.rows.now) c.args.out.now
  laid =
      laid4 c.args.p c.args.rows.now c.args.out.now c.requires.typed c.requires.out_value c.put_header-count.new.out c.args.k c.requires.k_value c.put_header-count.ensures.out_after
      c.put_descriptors-descriptors.new.out c.put_descriptors-descriptors.ensures.out_after
      c.put_structures-structures.new.out c.put_structures-structures.ensures.out_after
      c.put_footer-footer.new.out c.put_footer-footer.ensures.out_after

  kept : length behind4 ≡ length c.args.out.now
  kept =
      kept4 c.args.p c.args.rows.now c.args.out.now c.requires.typed c.requires.out_value c.put_header-count.new.out c.args.k c.requires.k_value c.put_header-count.ensures.out_after
      c.put_descriptors-descriptors.new.out c.put_descriptors-descriptors.ensures.out_after
      c.put_structures-structures.new.out c.put_structures-structures.ensures.out_after
      c.put_footer-footer.new.out c.put_footer-footer.ensures.out_after

  long : length (footed c.args.p c.args.rows.now) ≡ 18 + 45 * c.args.k
  long = omega (arith, length-footed c.args.p c.args.rows.now c.requires.typed, c.requires.k_value)

  told-dc : c.put_header-count.result ≡ word_of (user_length (structures_of c.args.p))
  told-dc = c.put_header-count.ensures.value ∙ ap (λ (k : ℕ). word_of (user_length k)) c.requires.k_value

  dc-few : c.put_header-count.result ≤ 1023
  dc-few =
      let byte : user_length c.args.k < 256 = omega (arith, c.requires.k_value, few-structures c.args.p c.args.rows.now c.requires.typed) in
      word-few c.put_header-count.result (user_length c.args.k) c.put_header-count.ensures.value byte

  foot-few : c.put_footer-footer.result ≤ 3069
  foot-few =
      footer-few c.put_footer-footer.result c.args.p.counter c.put_footer-footer.ensures.value (omega (arith, (legal c.args.p c.args.rows.now c.args.out.now c.requires.typed c.requires.out_value).count))

pub overflow_add-user-2 : goal.overflow_add-user-2
overflow_add-user-2 c = omega (arith, dc-few (goal.at.overflow_add-user-2 c).After-put_footer-footer)

pub overflow_add-user-3 : goal.overflow_add-user-3
overflow_add-user-3 c = omega (arith, dc-few (goal.at.overflow_add-user-3 c).After-put_footer-footer)

pub overflow_add-user-4 : goal.overflow_add-user-4
overflow_add-user-4 c =
    let at = (goal.at.overflow_add-user-4 c).After-put_footer-footer in
    omega (arith, dc-few at, foot-few at)

pub overflow_add-count : goal.overflow_add-count
overflow_add-count c = omega (arith, dc-few (goal.at.overflow_add-count c).After-put_footer-footer)

pub put_sums-requires-clause-le_n : goal.put_sums-requires-clause-le_n
put_sums-requires-clause-le_n c =
    let at = (goal.at.put_sums-requires-clause-le_n c).After-put_footer-footer in
    (omega arith, omega (arith, kept at, room c.args.p c.args.rows.now c.args.out.now c.requires.typed c.requires.out_value, c.requires.k_value))

pub put_sums-requires-clause-header_value : goal.put_sums-requires-clause-header_value
put_sums-requires-clause-header_value c =
    let at = (goal.at.put_sums-requires-clause-header_value c).After-put_footer-footer in
    let p = c.args.p in
    let rows = c.args.rows.now in
    small-mod (0x143 + 0x102 + c.put_header-count.result) (sum (part 3 6 (behind4 at)))
    (ap (λ (w : ℕ). 0x143 + 0x102 + w) (told-dc at) ∙ sym (header-sum p rows c.args.out.now (behind4 at) (18 + 45 * c.args.k) (laid at) (long at)))
    (omega (arith, dc-few at))

pub put_sums-requires-clause-user_value : goal.put_sums-requires-clause-user_value
put_sums-requires-clause-user_value c =
    let at = (goal.at.put_sums-requires-clause-user_value c).After-put_footer-footer in
    let p = c.args.p in
    let rows = c.args.rows.now in
    let user =
    added-user _ _ c.put_footer-footer.result c.put_header-count.result _ _ c.put_descriptors-descriptors.ensures.value c.put_structures-structures.ensures.value in
    let same =
    ap₂ (λ (w f : ℕ). (0x151 + 0x115 + w + 0x102 + (sum (map word_of (map byte_of (map descriptor p.slots))) + (sum (map word_of (structures (held p rows).slots)) + f))) % 65536)
    (told-dc at)
    c.put_footer-footer.ensures.value in
    user ∙ same ∙ ap (λ (s : ℕ). s % 65536) (sym (user-sum p rows c.args.out.now (behind4 at) (18 + 45 * c.args.k) (laid at) (long at)))

pub returns : goal.returns
returns c =
    let at = (goal.at.returns c).After-put_footer-footer in
    let p = c.args.p in
    let rows = c.args.rows.now in
    c.put_sums.ensures
    ∙ sealed-laid p rows c.args.out.now (behind4 at) (18 + 45 * c.args.k) c.requires.typed (legal p rows c.args.out.now c.requires.typed c.requires.out_value) (laid at) (long at)
