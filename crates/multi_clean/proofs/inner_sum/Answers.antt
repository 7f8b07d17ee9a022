-- `multi_clean::inner_sum` meets its contract: a sum stands behind every test, and CS of what NCS covers is made from it.
use Rattle.std.proofs.Common.{◌≡◌, ℕ, ◌+◌, ◌%◌, ◌≤◌, List, length, get_or, sym, ap, ◌∙◌, arith}
use Rattle.lists.specs.Part.{part}
use Rattle.lists.specs.Sum.{sum}
use Rattle.anc.specs.Words.{checksum_of}
use Rattle.anc.specs.Inside.{cs_of}
use Rattle.anc.proofs.Words.{checksum-sum}
use Rattle.multi.specs.Order.{ncs_at, size_in}
use Rattle.multi.proofs.Clean.{sum-covered, sum-inner, inner-clean}
use Rattle.multi_clean.proofs.inner_sum.Goals.{Else-rest-ncs}
use Rattle.multi_clean.proofs.inner_sum.Goals as goal

pub own_holds-requires : goal.own_holds-requires
own_holds-requires c = record { in_bounds = (c.if-n-lt-HEADER_WORDS.false, omega (arith, c.if-n-ncs.false)); user_value = c.sum-user.ensures }

-- sums modulo 65,536
four : (a b d s u : ℕ) → u ≡ s % 65536 → (((a + b) % 65536 + d) % 65536 + u) % 65536 ≡ (a + b + d + s) % 65536
four a b d s u e = omega arith

two_more : (s a x y : ℕ) → x ≡ s % 65536 → ((x + a) % 65536 + y) % 65536 ≡ (a + s + y) % 65536
two_more s a x y e = omega arith

regrouped : (a b c d : ℕ) → a + b + c + d ≡ a + (b + (c + d))
regrouped a b c d = omega arith

-- all tests are passed
module _ (c : Else-rest-ncs) where
  abbrev u : List ℕ
  u = c.args.rest.now

  abbrev covered : ℕ
  covered = (((get_or u 1 0 + get_or u 2 0) % 65536 + get_or u 3 0) % 65536 + c.sum-user.result) % 65536

  header : 4 ≤ length u
  header = c.if-n-lt-HEADER_WORDS.false

  long : size_in u ≤ length u
  long = omega (arith, c.if-n-ncs.false)

  covers : covered ≡ sum (part 1 (ncs_at u) u) % 65536
  covers =
      let user = sum (part 4 (ncs_at u) u) in
      four (get_or u 1 0) (get_or u 2 0) (get_or u 3 0) user c.sum-user.result c.sum-user.ensures
      ∙ ap (λ (k : ℕ). k % 65536) (regrouped (get_or u 1 0) (get_or u 2 0) (get_or u 3 0) user ∙ sym (sum-covered u header))

  ncs : get_or u (ncs_at u) 0 ≡ checksum_of (part 1 (ncs_at u) u)
  ncs = c.if-rest-ncs.false ∙ c.cs.ensures ∙ ap cs_of covers ∙ sym (checksum-sum (part 1 (ncs_at u) u))

pub returns : goal.returns
returns c =
    let past = (goal.at.returns c).Else-rest-ncs in
    let u = c.args.rest.now in
    record {
      header = header past;
      long = long past;
      total =
          two_more (sum (part 1 (ncs_at u) u)) (get_or u 0 0) (covered past) (get_or u (ncs_at u) 0) (covers past)
          ∙ ap (λ (k : ℕ). k % 65536) (sym (sum-inner u (header past) (long past)));
      holds = inner-clean u (header past) (long past) c.if-rest-ne0.false (c.own_holds.ensures c.if-not-own_holds.false) (ncs past);
    }
