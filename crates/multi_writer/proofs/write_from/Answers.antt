-- It stores where the verdict accepts. Header, inner packets and CS are laid one behind the other.
use Rattle.std.proofs.Common.{◌≡◌, ℕ, ◌+◌, ◌-◌, ◌<◌, ◌≤◌, List, [], ◌∷◌, map, length, take, drop, set, sym, refl, ap, ◌∙◌, subst, ap₂, ⊎_elim, arith, ◌%◌, rules}
use mathlib.Core.Path.{subst₃}
use mathlib.Core.Bool.{true≢false}
use Rattle.std.specs.Result.{is_err}
use borrow.Rule.Slice.PartMut.{put_mid}
use Rattle.lists.specs.Room.{over}
use Rattle.lists.proofs.Lay.{length_over, length_rest, store-next, laid_more}
use Rattle.refusal.specs.declared.Refusal.{Refusal}
use Rattle.refusal.specs.Verdict.{Verdict}
use Rattle.refusal.specs.Verdict.{Accepted}
use Rattle.refusal.specs.Numbers.{refusal_of}
use Rattle.refusal.specs.Answers.{Wrote}
use Rattle.refusal.proofs.Acceptance.{told-accepted}
use Rattle.refusal.proofs.Outputs.{wrote_nothing, wrote-laid}
use Rattle.anc.specs.Words.{word_of, checksum_of}
use Rattle.anc.proofs.Words.{word_low}
use Rattle.multi.specs.Layout.{layout_inners, user_words, layout}
use Rattle.multi.specs.Lent.{Told, held}
use Rattle.multi.specs.Writing.{value_verdict}
use Rattle.multi.specs.Inside.{heads_words}
use Rattle.multi.proofs.Whole.{length-user, length-multi}
use Rattle.multi.proofs.Writable.{Holds, accepted-value}
use Rattle.multi.proofs.Laid.{heads-words, front, value-laid}
use Rattle.multi_writer.proofs.Summed.{cs-sum, all-total}
use Rattle.multi_writer.proofs.write_from.Goals.{Start, After-from-refusal, After-user_words-user}
use Rattle.multi_writer.proofs.write_from.Goals as goal

module _ (c : Start) where
  abbrev told : Told
  told = record { priority = c.args.priority; heads = c.args.heads.now; words = c.args.words.now }

  abbrev verdict : Verdict
  verdict = value_verdict told (length c.args.out.now)

-- the verdict is told
answer : (c : After-from-refusal) → c.from-refusal.result ≡ refusal_of (value_verdict (record { priority = c.args.priority; heads = c.args.heads.now; words = c.args.words.now }) (length c.args.out.now))
answer c = c.from-refusal.ensures ∙ ap refusal_of c.judge_value-verdict.ensures

pub returns-then-is_err : goal.returns-then-is_err
returns-then-is_err c =
    let s = (goal.at.returns-then-is_err c).Start in
    let said = answer (goal.at.returns-then-is_err c).After-from-refusal in
    let out = c.args.out.now in
    let laid = layout (held (told s)) in
    subst (λ (r : Refusal). Wrote (verdict s) laid out (record { refusal = r; len = 0 }) out) (sym said)
    (wrote_nothing (verdict s) laid out (λ e. true≢false (c.if-is_err.ensures.value ∙ ap is_err (c.judge_value-verdict.ensures ∙ told-accepted (verdict s) e))))

-- past the test the value is accepted, and its words are counted
module _ (c : After-user_words-user) where
  abbrev heads : List (List ℕ)
  heads = c.args.heads.now

  abbrev out : List ℕ
  out = c.args.out.now

  abbrev t : Told
  t = record { priority = c.args.priority; heads = heads; words = c.args.words.now }

  abbrev inner : List ℕ
  inner = layout_inners (held t).inners

  said : c.from-refusal.result ≡ refusal_of (value_verdict t (length out))
  said = c.from-refusal.ensures ∙ ap refusal_of c.judge_value-verdict.ensures

  accepted : value_verdict t (length out) ≡ Accepted
  accepted = sym c.judge_value-verdict.ensures ∙ search rules

  both : Holds t (length out) × (length (layout (held t)) ≤ length out)
  both = accepted-value t (length out) accepted

  counted : length (user_words (held t)) ≡ 1 + heads_words heads
  counted = length-user (held t) ∙ ap (λ (n : ℕ). 1 + n) (heads-words c.args.words.now heads both.0.heads)

  abbrev user : ℕ
  user = c.user_words-user.result

  exact : user ≡ length (user_words (held t))
  exact = ⊎_elim (λ e. e ∙ sym counted) (λ w. let f : ⊥ = omega (arith, w.1, counted, both.0.few) in absurd f) c.user_words-user.ensures

  few : user ≤ 255
  few = omega (arith, exact, both.0.few)

  size : length inner + 1 ≡ user
  size = omega (arith, exact)

  whole : length (layout (held t)) ≡ 7 + user
  whole = omega (arith, length-multi (held t), length-user (held t), exact)

  room : 7 + user ≤ length out
  room = omega (arith, whole, both.1)

  abbrev header : List ℕ
  header = 0x000 ∷ 0x3FF ∷ 0x3FF ∷ map word_of (0x43 ∷ 0x03 ∷ user ∷ c.args.priority ∷ [])

pub overflow_cast-priority : goal.overflow_cast-priority
overflow_cast-priority c = omega (arith, (both (goal.at.overflow_cast-priority c).After-user_words-user).0.priority)

pub overflow_cast-user : goal.overflow_cast-user
overflow_cast-user c = omega (arith, few (goal.at.overflow_cast-user c).After-user_words-user)

pub put_header-front-requires : goal.put_header-front-requires
put_header-front-requires c = omega (arith, room (goal.at.put_header-front-requires c).After-user_words-user)

-- the header is laid over the output
kept : (xs out header : List ℕ) → xs ≡ over header out → length header ≤ length out → length xs ≡ length out
kept xs out header e h = ap length e ∙ length_over header out h

pub put_inners-inners-requires : goal.put_inners-inners-requires
put_inners-inners-requires c =
    let n = (goal.at.put_inners-inners-requires c).After-user_words-user in
    let xs = c.put_header-front.new.out in
    let long = kept xs (out n) (header n) c.put_header-front.ensures.out_after (omega (arith, room n)) in
    record {
      heads_value = (both n).0.heads;
      heads_bound = omega (arith, counted n, exact n, few n);
      heads_in_bounds = omega (arith, counted n, exact n, length_rest xs 7, long, room n);
    }

-- and the inner packets behind it
module _ (n : After-user_words-user) (xs part : List ℕ) (headed : xs ≡ over (header n) (out n)) (behind : part ≡ over (inner n) (take (length xs - 7) (drop 7 xs))) where
  abbrev all : List ℕ
  all = front n.args.priority (user n) (inner n)

  abbrev stored : List ℕ
  stored = put_mid 7 (length xs - 7) xs part

  laid : stored ≡ over all (out n)
  laid = laid_more (header n) (inner n) (out n) xs part 7 headed refl behind

  sized : length all ≡ 6 + user n
  sized = omega (arith, size n)

  long : length stored ≡ length (out n)
  long = ap length laid ∙ length_over all (out n) (omega (arith, sized, room n))

pub overflow_add-out : goal.overflow_add-out
overflow_add-out c = omega (arith, few (goal.at.overflow_add-out c).After-user_words-user)

pub offset_bounds-out-user : goal.offset_bounds-out-user
offset_bounds-out-user c = omega (arith, few (goal.at.offset_bounds-out-user c).After-user_words-user)

pub bounds-out-user : goal.bounds-out-user
bounds-out-user c =
    let n = (goal.at.bounds-out-user c).After-user_words-user in
    omega (
      arith,
      room n,
      long n c.put_header-front.new.out c.put_inners-inners.new.out c.put_header-front.ensures.out_after c.put_inners-inners.ensures.out_after,
    )

pub overflow_add-result : goal.overflow_add-result
overflow_add-result c = omega (arith, few (goal.at.overflow_add-result c).After-user_words-user)

pub returns : goal.returns
returns c =
    let n = (goal.at.returns c).After-user_words-user in
    let value = t n in
    let o = out n in
    let inners = inner n in
    let first = c.put_header-front in
    let rest = c.put_inners-inners in
    let xs = first.new.out in
    let part = rest.new.out in
    let headed = first.ensures.out_after in
    let behind = rest.ensures.out_after in
    let sum = (first.result + rest.result) % 65536 in
    let words = drop 3 (all n xs part headed behind) in
    let small : first.result < 65536 =
    omega (
      arith,
      first.ensures.value,
      word_low 0x43 (omega arith),
      word_low 0x03 (omega arith),
      word_low (user n) (omega (arith, few n)),
      word_low c.args.priority (omega (arith, (both n).0.priority)),
    ) in
    let cs : c.cs.result ≡ checksum_of words =
    cs-sum words sum c.cs.result
    (all-total (map word_of (0x43 ∷ 0x03 ∷ user n ∷ c.args.priority ∷ [])) inners first.result rest.result sum first.ensures.value small rest.ensures.value refl)
    c.cs.ensures in
    let exit : set (stored n xs part headed behind) (6 + user n) c.cs.result ≡ over (layout (held value)) o =
    ap₂ (λ (ys : List ℕ) (w : ℕ). set ys (6 + user n) w) (laid n xs part headed behind) cs
    ∙ store-next (all n xs part headed behind) o (checksum_of words) (6 + user n) (sized n xs part headed behind) (omega (arith, room n))
    ∙ ap (λ (ys : List ℕ). over ys o) (sym (value-laid value (user n) (exact n))) in
    subst₃ (λ (r : Refusal) (k : ℕ) (end : List ℕ). Wrote (value_verdict value (length o)) (layout (held value)) o (record { refusal = r; len = k }) end)
    (sym (said n))
    (whole n)
    (sym exit)
    (wrote-laid (value_verdict value (length o)) (layout (held value)) o (ap (λ (v : Verdict). (refusal_of v).number) (accepted n)))
