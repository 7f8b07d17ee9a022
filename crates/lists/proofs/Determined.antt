-- Two outputs that keep the promise of `clear` are equal, and so are two of `copy`.
-- Assumes nothing.
use Prim.Native.Nat.{ℕ}
use mathlib.Core.Path.{◌≡◌, ◌∙◌, sym}
use mathlib.Core.List.{List}
use lib.ListN.{length, take, replicate}
use Rattle.lists.specs.Room.{over}

pub clear-determined : (out exit end : List ℕ) → exit ≡ replicate (length out) 0 → end ≡ replicate (length out) 0 → exit ≡ end
clear-determined out exit end p q = p ∙ sym q

pub copy-determined : (s out exit end : List ℕ) → exit ≡ over (take (length out) s) out → end ≡ over (take (length out) s) out → exit ≡ end
copy-determined s out exit end p q = p ∙ sym q
