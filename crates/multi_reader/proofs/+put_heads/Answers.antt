-- Each inner packet's header and all of its words are among those that are left, and its head is the first of the heads that are left.
use Prim.Native.Nat.{ℕ, ◌+◌, ◌%◌, ◌<◌}
use native.Mathlib.Omega.{arith}
use mathlib.Core.Path.{◌∙◌, ap, sym}
use mathlib.Core.List.{List, ◌∷◌}
use lib.ListN.{length, get_or, length-set}
use Rattle.lists.specs.Room.{over_at}
use Rattle.multi.specs.Value.{Inner}
use Rattle.multi.specs.Lent.{heads_of}
use Rattle.multi.specs.Inside.{inners_from}
use Rattle.multi.proofs.Walk.{head_from, header-in, next-accepted, count_next, heads-next, last-next, stored_more, stored_one}
use Rattle.multi_reader.proofs.+put_heads.Goals as goal

-- an inner packet's header is among the words
pub bounds-words-at : goal.bounds-words-at
bounds-words-at t c = omega (arith, header-in c.args.words.now c.args.at c.requires.words_len_bound.1 c.requires.words_value)

pub bounds-words-at-4 : goal.bounds-words-at-4
bounds-words-at-4 t c = omega (arith, header-in c.args.words.now c.args.at c.requires.words_len_bound.1 c.requires.words_value)

pub bounds-heads-i : goal.bounds-heads-i
bounds-heads-i t c =
    omega (arith, count_next c.args.words.now c.args.at c.requires.words_len_bound.1 c.requires.words_value, c.requires.heads_len.1)

pub put_heads-requires : goal.put_heads-requires
put_heads-requires t c =
    let words = c.args.words.now in
    let at = c.args.at in
    let heads = c.args.heads.now in
    let within = c.requires.words_len_bound.1 in
    let h = header-in words at within c.requires.words_value in
    let k = count_next words at within c.requires.words_value in
    let more = next-accepted words at within c.requires.words_value in (
      omega (arith, c.decreases, c.if-next-words.true, h),
      (
        (c.requires.words_len_bound.0, omega (arith, c.if-next-words.true)),
        (more, (length-set heads c.args.i _ ∙ c.requires.heads_len.0, omega (arith, k, c.requires.heads_len.1))),
      ),
    )

pub returns-then-next-words : goal.returns-then-next-words
returns-then-next-words t c =
    let words = c.args.words.now in
    let at = c.args.at in
    let heads = c.args.heads.now in
    let i = c.args.i in
    let within = c.requires.words_len_bound.1 in
    let k = count_next words at within c.requires.words_value in
    let fits : i < length heads = omega (arith, k, c.requires.heads_len.0, c.requires.heads_len.1) in
    let all = heads-next words at within c.requires.words_value in
    let head = head_from at (get_or words at 0) (get_or words (at + 1) 0) (get_or words (at + 2) 0) (get_or words (at + 3) 0) in
    let next = at + 5 + get_or words (at + 3) 0 % 256 in
    let more = heads_of next (inners_from next words) in
    record {
      value = omega (arith, k, c.put_heads.ensures.value);
      heads_after = c.put_heads.ensures.heads_after ∙ stored_more heads i head more fits ∙ sym (ap (λ (hs : List (List ℕ)). over_at i hs heads) all);
    }

pub returns : goal.returns
returns t c =
    let words = c.args.words.now in
    let at = c.args.at in
    let heads = c.args.heads.now in
    let i = c.args.i in
    let within = c.requires.words_len_bound.1 in
    let k = count_next words at within c.requires.words_value in
    let fits : i < length heads = omega (arith, k, c.requires.heads_len.0, c.requires.heads_len.1) in
    let all = heads-next words at within c.requires.words_value in
    let head = head_from at (get_or words at 0) (get_or words (at + 1) 0) (get_or words (at + 2) 0) (get_or words (at + 3) 0) in
    let next = at + 5 + get_or words (at + 3) 0 % 256 in
    let none = last-next words at within c.requires.words_value (omega (arith, c.if-next-words.false)) in
    record {
      value = omega (arith, k, ap length none);
      heads_after =
          stored_one heads i head fits ∙ sym (ap (λ (hs : List (List ℕ)). over_at i hs heads) (all ∙ ap (λ (xs : List Inner). head ∷ heads_of next xs) none));
    }
