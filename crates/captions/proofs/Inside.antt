-- An inner packet of 143, 102 with the flag before its words from NDID on is a subtitling packet.
-- Assumes nothing.
use Prim.Native.Nat.{ℕ}
use mathlib.Core.Path.{◌≡◌, ap, ap₂, ◌∙◌, sym}
use mathlib.Core.List.{◌∷◌, map}
use lib.ListN.{length}
use Rattle.anc.specs.Words.{word_of}
use Rattle.sdp.specs.Value.{Sdp}
use Rattle.sdp.specs.Value as sdp
use Rattle.subtitling.specs.Layout as packet
use Rattle.multi.specs.Value.{Inner, LegalInner}
use Rattle.multi.specs.Layout.{checked, covered_inner}

pub inner-packet : (x : Inner) → LegalInner x → x.did ≡ 0x43 → x.sdid ≡ 0x02
    → (v : Sdp) × sdp.Legal v × (0x000 ∷ 0x3FF ∷ 0x3FF ∷ checked (covered_inner x) ≡ packet.layout v)
inner-packet x h did sdid =
    let own = h.subtitles did sdid in (
      own.0,
      own.1,
      ap₂ (λ (a b : ℕ). 0x000 ∷ 0x3FF ∷ 0x3FF ∷ checked (map word_of (a ∷ b ∷ length x.bytes ∷ x.bytes))) did sdid ∙ ap packet.packet (sym own.2),
    )
