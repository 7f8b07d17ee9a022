-- `scte20_reader::read_flagged` meets its contract: the count, the constructs, then what follows them decide, each as `flag_verdict` says.
use Rattle.std.specs.Prelude.{Ok, Err}
use Rattle.std.proofs.lemmas.Result.{err_from_is_err_and}
use Prim.Native.Nat.{ℕ, ◌+◌, ◌-◌, ◌*◌, ◌/◌, ◌≤◌, ◌<◌}
use native.Mathlib.Omega.{arith}
use mathlib.Core.Path.{◌≡◌, ◌∙◌, ap, ap₂, sym, subst, refl}
use mathlib.Core.List.{List, []}
use lib.ListN.{length, get_or}
use Rattle.lists.specs.Bytes.{Bytes}
use Rattle.lists.proofs.Each.{each-of, each_at}
use Rattle.refusal.specs.Verdict.{Verdict}
use Rattle.refusal.specs.Verdict.{Accepted}
use Rattle.refusal.specs.Checks.{and_then}
use Rattle.refusal.proofs.Checks.{accepted-and_then, refused-first, accepted-first}
use Rattle.bits.specs.Bits.{bits_of}
use Rattle.refusal.specs.Answers.{Judged}
use Rattle.scte20.specs.declared.Numbers.{Numbers}
use Rattle.scte20.specs.Reading.{head_verdict, flag_in, count_in, constructs_verdict, records_at, sampled_verdict, rest_verdict, content_verdict}
use Rattle.scte20.specs.Lent.{ReadsInto}
use Rattle.scte20.proofs.Bytewise.{missing-some, missing-none, count-in}
use Rattle.scte20.proofs.Constructs.{length-records}
use Rattle.scte20.proofs.Contents.{accepted-head}
use Rattle.scte20.proofs.Answers.{refused-into, accepted-into, sampled-long, head-long, flagged-verdict, flagged-value}
use Rattle.scte20.proofs.Lending.{lent-over}
use Rattle.scte20_reader.proofs.read_flagged.Goals.{After-judge_tail}
use Rattle.scte20_reader.proofs.read_flagged.Goals as goal

pub returns-then-body-lt3 : goal.returns-then-body-lt3
returns-then-body-lt3 c =
    let body = c.args.body.now in
    let lent = c.args.records.now in
    let bytes : Bytes body = each-of (λ (b : ℕ). b < 256) 0 body (λ i h. omega (arith, c.type_inv.body i)) in
    let two = head-long body c.requires.body_value in
    let short : 8 * length body < 16 + 5 = omega arith in
    let same = refused-first _ (sym (missing-some body 16 5 short)) refl ∙ sym (flagged-verdict body c.requires.body_value (count_in (bits_of body)) refl c.requires.body_value_2) in
    refused-into body lent bytes _ (sym same)

-- the count is there
module _ (body : List ℕ) (bytes : Bytes body) (head : head_verdict body ≡ Accepted) (flag : flag_in (bits_of body) ≡ 1) (long : 2 < length body) where
  abbrev n_of : ℕ
  n_of = get_or body 2 0 / 8

  few : n_of ≤ 31
  few = omega (arith, each_at (λ (b : ℕ). b < 256) 0 body bytes 2 long)

  counted : n_of ≡ count_in (bits_of body)
  counted = sym (count-in body bytes long)

  -- what is left to judge
  left :
      let xs = bits_of body in
      content_verdict body ≡ and_then (constructs_verdict [] n_of 21 xs) (and_then (sampled_verdict (21 + 26 * n_of) xs) (rest_verdict (25 + 26 * n_of) xs))
  left =
      let whole : 16 + 5 ≤ 8 * length body = omega (arith, long) in
      flagged-verdict body head n_of counted flag ∙ accepted-first _ (sym (missing-none body 16 5 whole)) refl

-- the sampled video count and what follows it, from where the constructs end
followed : (body : List ℕ) (n : ℕ) (tail : Verdict) → let xs = bits_of body in
    tail ≡ and_then (sampled_verdict (21 + 26 * n + 4 - 4) xs) (rest_verdict (21 + 26 * n + 4) xs)
    → tail ≡ and_then (sampled_verdict (21 + 26 * n) xs) (rest_verdict (25 + 26 * n) xs)
followed body n tail told =
    let xs = bits_of body in
    let at : 21 + 26 * n + 4 - 4 ≡ 21 + 26 * n = omega arith in
    let end : 21 + 26 * n + 4 ≡ 25 + 26 * n = omega arith in
    told ∙ ap₂ (λ (a e : ℕ). and_then (sampled_verdict a xs) (rest_verdict e xs)) at end

pub read_constructs-requires-clause-body_len_bound : goal.read_constructs-requires-clause-body_len_bound
read_constructs-requires-clause-body_len_bound c = (accepted-head c.args.body.now c.requires.body_value).short

pub judge_tail-requires-clause-body_len_bound : goal.judge_tail-requires-clause-body_len_bound
judge_tail-requires-clause-body_len_bound c = (accepted-head c.args.body.now c.requires.body_value).short

pub returns-in_err-read_constructs : goal.returns-in_err-read_constructs
returns-in_err-read_constructs c =
    let body = c.args.body.now in
    let lent = c.args.records.now in
    let bytes : Bytes body = each-of (λ (b : ℕ). b < 256) 0 body (λ i h. omega (arith, c.type_inv.body i)) in
    let told = c.in_err-read_constructs.was in
    let p = err_from_is_err_and c.from_residual.result c.from_residual.ensures.1 in
    let same = refused-first _ c.read_constructs.ensures.verdict told ∙ sym (left body bytes c.requires.body_value c.requires.body_value_2 (omega arith)) in
    subst (λ (r : Judged Numbers). ReadsInto body lent r lent) (sym (p.1 ∙ ap Err p.2)) (refused-into body lent bytes _ (sym same ∙ told))

-- the constructs are accepted, and what follows them decides
judged : (c : After-judge_tail) → let body = c.args.body.now in Bytes body → c.judge_tail.result ≡ content_verdict body
judged c bytes =
    let body = c.args.body.now in
    let right = sym c.read_constructs.ensures.verdict ∙ c.in_ok-read_constructs.was in
    followed body (get_or body 2 0 / 8) c.judge_tail.result c.judge_tail.ensures
    ∙ sym (left body bytes c.requires.body_value c.requires.body_value_2 (omega arith) ∙ accepted-first _ (sym right) refl)

pub returns-in_err-judge_tail : goal.returns-in_err-judge_tail
returns-in_err-judge_tail c =
    let body = c.args.body.now in
    let lent = c.args.records.now in
    let bytes : Bytes body = each-of (λ (b : ℕ). b < 256) 0 body (λ i h. omega (arith, c.type_inv.body i)) in
    let p = err_from_is_err_and c.from_residual-in_err-judge_tail.result c.from_residual-in_err-judge_tail.ensures.1 in
    subst (λ (r : Judged Numbers). ReadsInto body lent r lent) (sym (p.1 ∙ ap Err p.2))
    (refused-into body lent bytes _ (sym (judged (goal.at.returns-in_err-judge_tail c).After-judge_tail bytes) ∙ c.in_err-judge_tail.was))

pub overflow_sub-result : goal.overflow_sub-result
overflow_sub-result c =
    let body = c.args.body.now in
    let n = get_or body 2 0 / 8 in
    let both = accepted-and_then (sampled_verdict (21 + 26 * n) (bits_of body)) _ (sym (followed body n c.judge_tail.result c.judge_tail.ensures) ∙ c.in_ok-judge_tail.was) in
    omega (arith, sampled-long (21 + 26 * n) body both.0)

abbrev made : ℕ → ℕ → ℕ → Judged Numbers
made reserved n z = Ok (record { reserved = reserved; vbi_data_flag = 1; n = n; z = z })

pub returns : goal.returns
returns c =
    let body = c.args.body.now in
    let lent = c.args.records.now in
    let bytes : Bytes body = each-of (λ (b : ℕ). b < 256) 0 body (λ i h. omega (arith, c.type_inv.body i)) in
    let long : 2 < length body = omega arith in
    let n = get_or body 2 0 / 8 in
    let head = c.requires.body_value in
    let flag = c.requires.body_value_2 in
    let rs = records_at n 21 (bits_of body) in
    let sized = length-records n 21 (bits_of body) in
    let end : 21 + 26 * n + 4 ≡ 25 + 26 * n = omega arith in
    let two : 2 ≤ length body = omega (arith, long) in
    let value = flagged-value body bytes two n (counted body bytes head flag long) flag in
    let found = c.read_constructs.ensures.left c.in_ok-read_constructs.was ∙ lent-over rs (omega (arith, sized, few body bytes head flag long)) in
    subst (λ (r : Judged Numbers). ReadsInto body lent r c.read_constructs.new.records)
    (ap₂ (λ (k e : ℕ). made (get_or body 1 0 / 2) k (length body - (e + 7) / 8)) sized (sym end))
    (accepted-into body lent bytes _ _ (sym (judged (goal.at.returns c).After-judge_tail bytes) ∙ c.in_ok-judge_tail.was) value found)
