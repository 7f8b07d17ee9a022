-- Heads in lent memory, and the words that they tell of.
-- Assumes nothing.
use Prim.Native.Nat.{ℕ, suc, ◌+◌, ◌-◌, ◌/◌, ◌%◌, ◌≤◌}
use native.Mathlib.Omega.{arith}
use mathlib.Core.Path.{◌≡◌, ◌∙◌, ap, ap₂, sym, subst, refl}
use mathlib.Core.List.{List, [], ◌∷◌, ◌++◌, map, append_assoc}
use lib.ListN.{length, get_or, take, drop, length-append, length-drop, length-map}
use lib.Seq.{take_at, drop_at, drop-drop}
use Rattle.lists.specs.Each.{Each}
use Rattle.lists.specs.Room.{filled}
use Rattle.anc.specs.Words.{word_of, byte_of, words_verdict, checksum_of}
use Rattle.anc.proofs.Words.{words-bytes, words-accepted}
use Rattle.multi.specs.Value.{Inner, LegalInner, Multi, Legal, inner_words}
use Rattle.multi.specs.Layout.{covered_inner, layout_inner, layout_inners, covered, layout}
use Rattle.multi.specs.Order.{size_in, bytes_in}
use Rattle.multi.specs.Reading.{read_inner}
use Rattle.multi.specs.Lent.{head_of, heads_of, no_head, user_of, inner_of, stored, held, Lent, LegalTold}
use Rattle.multi.proofs.Inner.{length-inner, bytes_count}

pub length-heads : (at : ℕ) (xs : List Inner) → length (heads_of at xs) ≡ length xs
length-heads at [] = refl
length-heads at (x ∷ xs) = ap suc (length-heads (at + inner_words x) xs)

-- the heads in an array are those at its front
pub heads-front : (at : ℕ) (xs : List Inner) (n : ℕ) → length xs ≡ n → take n (filled (heads_of at xs) 50 no_head) ≡ heads_of at xs
heads-front at xs n e = take_at (heads_of at xs) _ n (length-heads at xs ∙ e)

-- ONE INNER PACKET, WHICH BEGINS AT A WORD

module _ (s : List ℕ) (at : ℕ) (x : Inner) (rest : List ℕ) (here : drop at s ≡ layout_inner x ++ rest) where
  abbrev n : ℕ
  n = length x.bytes

  abbrev cs : ℕ
  cs = checksum_of (covered_inner x)

  -- there are all its words
  inside : at + inner_words x ≤ length s
  inside = omega (arith, sym (length-drop at s) ∙ ap length here ∙ length-append (layout_inner x) rest, length-inner x)

  pub next-at : drop (at + inner_words x) s ≡ rest
  next-at = sym (drop-drop (inner_words x) at s) ∙ ap (drop (inner_words x)) here ∙ drop_at (layout_inner x) rest (inner_words x) (length-inner x)

  -- its user words are where its head says
  user : user_of s (head_of at x) ≡ map word_of x.bytes
  user =
      let count : at + 4 + n - (at + 4) ≡ n = omega arith in
      let behind : drop (at + 4) s ≡ map word_of x.bytes ++ ((cs ∷ []) ++ rest) =
      sym (drop-drop 4 at s) ∙ ap (drop 4) here ∙ append_assoc (map word_of x.bytes) (cs ∷ []) rest in
      ap₂ (λ (k : ℕ) (ys : List ℕ). take k ys) count behind ∙ take_at (map word_of x.bytes) ((cs ∷ []) ++ rest) n (length-map x.bytes word_of)

  pub head-inner : LegalInner x → inner_of s (head_of at x) ≡ x
  unfolding inner_of
  head-inner h =
      ap (λ (bs : List ℕ). record { line = x.line; field = x.field; did = x.did; sdid = x.sdid; bytes = bs })
      (ap (map byte_of) user ∙ words-bytes x.bytes h.bytes)

  pub head-lent : LegalInner x → Lent s (head_of at x)
  head-lent h =
      record {
        inside = omega (arith, inside);
        whole = ap (words_verdict 0) user ∙ words-accepted 0 x.bytes h.bytes;
      }

-- ALL OF THEM

module _ (s : List ℕ) where
  pub heads-inners : (at : ℕ) (xs : List Inner) (rest : List ℕ) → drop at s ≡ layout_inners xs ++ rest → Each LegalInner xs → map (inner_of s) (heads_of at xs) ≡ xs
  heads-inners at [] rest here h = refl
  heads-inners at (x ∷ xs) rest here h =
      let mine : drop at s ≡ layout_inner x ++ (layout_inners xs ++ rest) = here ∙ append_assoc (layout_inner x) (layout_inners xs) rest in
      ap₂ (λ (y : Inner) (ys : List Inner). y ∷ ys) (head-inner s at x (layout_inners xs ++ rest) mine h.0)
      (heads-inners (at + inner_words x) xs rest (next-at s at x (layout_inners xs ++ rest) mine) h.1)

  pub heads-lent : (at : ℕ) (xs : List Inner) (rest : List ℕ) → drop at s ≡ layout_inners xs ++ rest → Each LegalInner xs → Each (Lent s) (heads_of at xs)
  heads-lent at [] rest here h = tt
  heads-lent at (x ∷ xs) rest here h =
      let mine : drop at s ≡ layout_inner x ++ (layout_inners xs ++ rest) = here ∙ append_assoc (layout_inner x) (layout_inners xs) rest in
      (head-lent s at x (layout_inners xs ++ rest) mine h.0, heads-lent (at + inner_words x) xs rest (next-at s at x (layout_inners xs ++ rest) mine) h.1)

pub stored-held : (v : Multi) → Legal v → held (stored v) ≡ v
stored-held v h =
    ap (λ (xs : List Inner). record { priority = v.priority; inners = xs })
    (heads-inners (layout v) 7 v.inners (checksum_of (covered v) ∷ []) refl h.each)

pub stored-legal : (v : Multi) → Legal v → LegalTold (stored v)
stored-legal v h =
    record {
      lent = heads-lent (layout v) 7 v.inners (checksum_of (covered v) ∷ []) refl h.each;
      value = subst Legal (sym (stored-held v h)) h;
    }

-- THE HEAD OF WORDS THAT ARE READ

-- as it is stored
abbrev pub head_in : ℕ → List ℕ → List ℕ
head_in at u = (get_or u 0 0 % 32) ∷ (get_or u 0 0 / 32 % 2) ∷ (get_or u 1 0 % 256) ∷ (get_or u 2 0 % 256) ∷ (at + 4) ∷ (get_or u 3 0 % 256) ∷ []

-- the line and the field are in the low byte
low-line : (w : ℕ) → w % 256 % 32 ≡ w % 32
low-line w = omega arith

low_field : (w : ℕ) → w % 256 / 32 % 2 ≡ w / 32 % 2
low_field w = omega arith

pub head-in : (at : ℕ) (u : List ℕ) → size_in u ≤ length u → head_of at (read_inner u) ≡ head_in at u
unfolding read_inner
head-in at u long =
    let w = get_or u 0 0 in
    ap₂ (λ (l f : ℕ). l ∷ f ∷ (get_or u 1 0 % 256) ∷ (get_or u 2 0 % 256) ∷ (at + 4) ∷ length (bytes_in u) ∷ []) (low-line w) (low_field w)
    ∙ ap (λ (n : ℕ). (w % 32) ∷ (w / 32 % 2) ∷ (get_or u 1 0 % 256) ∷ (get_or u 2 0 % 256) ∷ (at + 4) ∷ n ∷ []) (bytes_count u long)
