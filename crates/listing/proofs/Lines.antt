-- The lines of records, one more at a time.
-- Assumes nothing.
use Prim.Native.Nat.{ℕ, ◌+◌, ◌<◌}
use native.Mathlib.Numerals.{add-one}
use mathlib.Core.Path.{◌≡◌, ◌∙◌, ap, sym}
use mathlib.Core.List.{List, [], ◌∷◌, ◌++◌, append_assoc, append-nil}
use lib.ListN.{length, get_or, take}
use lib.Seq.{take-suc}
use Rattle.scte20.specs.declared.Record.{Record}
use Rattle.listing.specs.Texts.{record_text, records_text}

records-append : (rs : List Record) (r : Record) → records_text (rs ++ (r ∷ [])) ≡ records_text rs ++ record_text r
records-append [] r = append-nil (record_text r)
records-append (x ∷ rs) r =
    ap (λ (bytes : List ℕ). record_text x ++ bytes) (records-append rs r) ∙ sym (append_assoc (record_text x) (records_text rs) (record_text r))

-- the first i records and the next
pub records-next : (rs : List Record) (i : ℕ) (d : Record) → i < length rs → records_text (take (i + 1) rs) ≡ records_text (take i rs) ++ record_text (get_or rs i d)
records-next rs i d h =
    ap records_text (ap (λ (k : ℕ). take k rs) (add-one i) ∙ take-suc rs i d h) ∙ records-append (take i rs) (get_or rs i d)
