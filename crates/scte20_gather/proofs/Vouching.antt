-- A body with flag 1 whose parts were all found right is accepted.
-- Assumes nothing.
use Prim.Native.Nat.{ℕ, ◌+◌, ◌*◌, ◌/◌, ◌%◌, ◌≤◌, ◌<◌}
use native.Mathlib.Omega.{arith}
use mathlib.Core.Path.{◌≡◌, ◌∙◌, sym, subst, refl}
use mathlib.Core.Bool.{false}
use mathlib.Core.List.{List}
use lib.ListN.{length, get_or}
use Rattle.lists.specs.Bytes.{Bytes}
use Rattle.refusal.proofs.Checks.{accepted-first}
use Rattle.bits.specs.Bits.{bits_of}
use Rattle.kind.specs.Ours.{group_type}
use Rattle.scte20.specs.Reading.{flag_in, count_in}
use Rattle.scte20.proofs.Bytewise.{missing-none, flag-in, count-in}
use Rattle.scte20.proofs.Answers.{flagged-verdict}
use Rattle.scte20_gather.specs.Inside.{Numbered, Held, Blank, Gathers}
use Rattle.scte20_gather.proofs.Heads.{head-decided}
use Rattle.scte20_gather.proofs.Held.{held-accepted}
use Rattle.scte20_gather.proofs.Blanks.{blank-sampled, blank-rest}

module _ (body found : List ℕ) (h : Bytes body) (three : 2 < length body) where
  abbrev n_of : ℕ
  n_of = get_or body 2 0 / 8

  pub gathers : (25 + 26 * n_of + 7) / 8 ≤ length body → Numbered body n_of found → Held 31 0 n_of 0 found → Blank body (21 + 26 * n_of)
      → length body ≤ 16384 → get_or body 0 0 ≡ 3 → group_type (get_or body 1 0) ≡ false → get_or body 1 0 % 2 ≡ 1 → Gathers body found
  gathers long numbered held blank short begins no_group flag =
      let xs = bits_of body in
      let n = n_of in
      let counted : n ≡ count_in xs = sym (count-in body h three) in
      let flagged : flag_in xs ≡ 1 = flag-in body h (omega arith) ∙ flag in
      let room : 21 + 26 * n + 4 ≤ 8 * length body = omega arith in
      let count-there : 16 + 5 ≤ 8 * length body = omega arith in
      let inside : 21 + 26 * n < 8 * length body = omega arith in
      let end : 21 + 26 * n ≤ 25 + 26 * n = omega arith in
      record {
        accepted =
            flagged-verdict body (sym (head-decided body h short (omega arith) begins false no_group)) n counted flagged
            ∙ accepted-first _ (sym (missing-none body 16 5 count-there)) refl
            ∙ accepted-first _ (sym (held-accepted body found n numbered (omega arith) held)) refl
            ∙ accepted-first _ (sym (blank-sampled body (21 + 26 * n) h inside blank room)) refl
            ∙ blank-rest body (21 + 26 * n) h inside blank (25 + 26 * n) end;
        flagged = flagged;
        long = subst (λ (k : ℕ). (25 + 26 * k + 7) / 8 ≤ length body) counted long;
        numbered = subst (λ (k : ℕ). Numbered body k found) counted numbered;
      }
