-- `scte20_reader::judge_head` meets its contract: at each return the tests that led there pick that check of `head_verdict`.
use Prim.Native.Nat.{ℕ, ◌+◌, ◌*◌, ◌≤◌, ◌<◌}
use native.Mathlib.Omega.{arith}
use mathlib.Core.Path.{◌≡◌, ◌∙◌, sym}
use mathlib.Core.Bool.{true, false}
use mathlib.Core.List.{List}
use borrow.Author.Tests.{eq-eqb, ne_eqb, lt-ltb, le-ltb}
use mir.Syntax.{w8}
use mir.Val.{Fits}
use lib.ListN.{length, get_or}
use Rattle.lists.specs.Bytes.{Bytes}
use Rattle.lists.proofs.Each.{each-of}
use Rattle.std.proofs.lemmas.Bool.Decides.{nat_tests}
use Rattle.refusal.specs.Verdict.{Refused}
use Rattle.refusal.specs.declared.Reason.TheVariants.{Ends, Unfixed}
use Rattle.refusal.specs.declared.Fixed.TheVariants.{Identifier}
use Rattle.refusal.specs.declared.Item.TheVariants.{Bit}
use Rattle.bits.specs.Bits.{bits_of, field}
use Rattle.bits.proofs.Fields.{field-whole}
use Rattle.scte20.specs.Reading.{head_verdict}
use Rattle.scte20.proofs.Bytewise.{missing-some, missing-none}
use Rattle.scte20_gather.proofs.Heads.{head-decided}
use Rattle.scte20_reader.proofs.judge_head.Goals as goal

pub returns-then-body-gt-MAX_BYTES : goal.returns-then-body-gt-MAX_BYTES
unfolding head_verdict
returns-then-body-gt-MAX_BYTES c = simp (lt-ltb 16384 _ c.if-body-gt-MAX_BYTES.true)

pub returns-then-is_empty : goal.returns-then-is_empty
unfolding head_verdict
returns-then-is_empty c =
    let s = c.args.body.now in
    let ends : 8 * length s < 0 + 8 = grind (arith, nat_tests) in
    simp (le-ltb 16384 _ c.if-body-gt-MAX_BYTES.false, missing-some s 0 8 ends)

-- the first byte is there
module _ (s : List ℕ) (bytes : Bytes s) (short : length s ≤ 16384) (some : 0 < length s) where
  code : field (bits_of s) 0 8 ≡ get_or s 0 0
  code = field-whole s 0 bytes some

  begins : 0 + 8 ≤ 8 * length s
  begins = omega (arith, some)

  other : (get_or s 0 0 ≡ 3 → ⊥) → Refused (Unfixed Identifier) (Bit 0) ≡ head_verdict s
  unfolding head_verdict
  other differs = simp (le-ltb 16384 (length s) short, missing-none s 0 8 begins, ne_eqb (field (bits_of s) 0 8) 3 (λ e. differs (sym code ∙ e)))

  ends : get_or s 0 0 ≡ 3 → length s < 2 → Refused Ends (Bit 8) ≡ head_verdict s
  unfolding head_verdict
  ends same less =
      let past : 8 * length s < 8 + 7 = omega (arith, less) in
      simp (le-ltb 16384 (length s) short, missing-none s 0 8 begins, eq-eqb (field (bits_of s) 0 8) 3 (code ∙ same), missing-some s 8 7 past)

-- the elements are bytes, and there is one
bytes-of : (s : List ℕ) → ((k : ℕ) → Fits w8 (get_or s k 0)) → Bytes s
bytes-of s h = each-of (λ (b : ℕ). b < 256) 0 s (λ i inside. omega (arith, h i))

pub returns-then-body-ne3 : goal.returns-then-body-ne3
returns-then-body-ne3 c =
    let some : 0 < length c.args.body.now = grind (arith, nat_tests) in
    other c.args.body.now (bytes-of _ c.type_inv.body) c.if-body-gt-MAX_BYTES.false some c.if-body-ne3.true

pub returns-then-body-lt2 : goal.returns-then-body-lt2
returns-then-body-lt2 c =
    let some : 0 < length c.args.body.now = grind (arith, nat_tests) in
    ends c.args.body.now (bytes-of _ c.type_inv.body) c.if-body-gt-MAX_BYTES.false some c.if-body-ne3.false c.if-body-lt2.true

-- both bytes are there, and whether the second is the type of a data group decides
pub returns-then-group_type : goal.returns-then-group_type
returns-then-group_type c =
    head-decided c.args.body.now (bytes-of _ c.type_inv.body) c.if-body-gt-MAX_BYTES.false (omega arith) c.if-body-ne3.false true (sym c.group_type.ensures ∙ c.if-group_type.true)

pub returns : goal.returns
returns c =
    head-decided c.args.body.now (bytes-of _ c.type_inv.body) c.if-body-gt-MAX_BYTES.false (omega arith) c.if-body-ne3.false false (sym c.group_type.ensures ∙ c.if-group_type.false)
