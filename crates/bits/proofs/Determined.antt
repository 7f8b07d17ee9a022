-- For each function, two answers that keep its promise are equal.
-- Assumes nothing.
use Prim.Native.Nat.{ℕ, ◌<◌, min}
use mathlib.Core.Path.{◌≡◌, ◌∙◌, sym, subst}
use mathlib.Core.List.{List, map}
use lib.ListN.{length, take}
use lib.Seq.{ext_get_or}
use Rattle.lists.specs.Room.{over}
use Rattle.bits.specs.Bits.{reversed}
use Rattle.bits.specs.Table.{Reverses, found}
use Rattle.bits.specs.Peek.{peek_of, first_set, leading_of}

pub peek-determined : (s : List ℕ) (at w a b : ℕ) → a ≡ peek_of s at (min w 32) → b ≡ peek_of s at (min w 32) → a ≡ b
peek-determined s at w a b p q = p ∙ sym q

pub reverse-determined : (byte a b : ℕ) → a ≡ reversed byte → b ≡ reversed byte → a ≡ b
reverse-determined byte a b p q = p ∙ sym q

pub reversed-bytes-determined : (a b : List ℕ) → Reverses a → Reverses b → a ≡ b
reversed-bytes-determined a b p q =
    ext_get_or 0 a b (p.whole ∙ sym q.whole) (λ i inside. let byte = subst (λ (n : ℕ). i < n) p.whole inside in p.entry i byte ∙ sym (q.entry i byte))

pub look-up-determined : (s table out exit end : List ℕ)
    → exit ≡ over (take (length out) (map (found table) s)) out → end ≡ over (take (length out) (map (found table) s)) out → exit ≡ end
look-up-determined s table out exit end p q = p ∙ sym q

pub first-set-determined : (s : List ℕ) (from a b : ℕ) → a ≡ first_set s from → b ≡ first_set s from → a ≡ b
first-set-determined s from a b p q = p ∙ sym q

pub leading-determined : (byte a b : ℕ) → a ≡ leading_of byte → b ≡ leading_of byte → a ≡ b
leading-determined byte a b p q = p ∙ sym q
