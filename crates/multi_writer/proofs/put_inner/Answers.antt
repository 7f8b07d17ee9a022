-- Header, user words and NCS are laid one behind the other, and NCS is made from the sums of the others.
use Rattle.std.proofs.Common.{◌≡◌, ℕ, ◌+◌, ◌-◌, ◌%◌, ◌<◌, List, ◌++◌, get_or, drop, set, sym, refl, ap, ◌∙◌, ap₂, arith, refl, ◌%◌}
use borrow.Rule.Slice.PartMut.{put_mid}
use Rattle.lists.specs.Room.{over}
use Rattle.lists.specs.Sum.{sum}
use Rattle.lists.proofs.Lay.{store-next}
use Rattle.anc.specs.Words.{checksum_of}
use Rattle.anc.proofs.Words.{word_low}
use Rattle.multi.specs.Layout.{layout_inner}
use Rattle.multi.specs.Lent.{user_of, inner_of}
use Rattle.multi.specs.Inside.{header_words}
use Rattle.multi.proofs.Writable.{Writable, accepted-head}
use Rattle.multi.proofs.Laid.{user-length, head-laid, length-head-user, laid-behind}
use Rattle.multi_writer.proofs.Summed.{cs-sum, covered-sum, first_word, inner-total}
use Rattle.multi_writer.proofs.put_inner.Goals.{After-cs-word}
use Rattle.multi_writer.proofs.put_inner.Goals as goal

pub put_head-ids-requires : goal.put_head-ids-requires
put_head-ids-requires c =
    let w = accepted-head c.args.words.now c.args.head c.requires.head_value in
    record {
      head_bound = omega (arith, w.line, w.field);
      head_bound_2 = (omega (arith, w.did), omega (arith, w.sdid), c.requires.head_bound);
      in_bounds = omega (arith, c.requires.head_in_bounds);
    }

pub slice_bounds-carry-end : goal.slice_bounds-carry-end
slice_bounds-carry-end c = omega (arith, (accepted-head c.args.words.now c.args.head c.requires.head_value).inside)

-- all is stored but NCS
module _ (c : After-cs-word) where
  abbrev h : List ℕ
  h = c.args.head

  abbrev words : List ℕ
  words = c.args.words.now

  abbrev out : List ℕ
  out = c.args.out.now

  abbrev count : ℕ
  count = get_or h 5 0

  told : Writable words h
  told = accepted-head words h c.requires.head_value

  -- header and user words
  abbrev all : List ℕ
  all = header_words h ++ user_of words h

  abbrev stored : List ℕ
  stored = put_mid 4 (4 + count - 4) c.put_head-ids.new.out c.carry-user.new.out

  carried : stored ≡ over all out
  carried =
      laid-behind (header_words h) (user_of words h) out c.put_head-ids.new.out c.carry-user.new.out 4 count c.put_head-ids.ensures.out_after refl
      (sym (user-length words h c.requires.head_value)) c.carry-user.ensures.out_after

  small-ids : c.put_head-ids.result < 65536
  small-ids =
      omega (
        arith,
        c.put_head-ids.ensures.value,
        word_low (get_or h 2 0) (omega (arith, told.did)),
        word_low (get_or h 3 0) (omega (arith, told.sdid)),
        word_low (get_or h 5 0) c.requires.head_bound,
      )

  -- what NCS covers, as the code adds it up
  abbrev added : ℕ
  added = (c.put_head-ids.result + c.carry-user.result) % 65536

  covered : added ≡ sum (drop 1 all) % 65536
  covered =
      covered-sum words h c.requires.head_value c.put_head-ids.result c.carry-user.result added
      c.put_head-ids.ensures.value small-ids c.carry-user.ensures.value refl

  ncs : c.cs-word.result ≡ checksum_of (drop 1 all)
  ncs = cs-sum (drop 1 all) added c.cs-word.result covered c.cs-word.ensures

  -- and NCS is stored behind them
  exit : set stored (4 + count) c.cs-word.result ≡ over (layout_inner (inner_of words h)) out
  exit =
      ap₂ (λ (xs : List ℕ) (w : ℕ). set xs (4 + count) w) carried ncs
      ∙ store-next all out (checksum_of (drop 1 all)) (4 + count) (length-head-user words h c.requires.head_value) (omega (arith, c.requires.head_in_bounds))
      ∙ ap (λ (laid : List ℕ). over laid out) (sym (head-laid words h c.requires.head_value))

  line : get_or (set stored (4 + count) c.cs-word.result) 0 0 ≡ get_or (header_words h) 0 0
  line = ap (λ (xs : List ℕ). get_or xs 0 0) exit ∙ first_word words h c.requires.head_value

pub returns : goal.returns
returns c =
    let word = (goal.at.returns c).After-cs-word in
    record {
      out_after = exit word;
      value =
          inner-total c.args.words.now c.args.head c.requires.head_value (added word) c.cs-word.result _ _ _ (covered word) (ncs word) (line word) refl refl;
    }
