-- `notation::unit_of` meets its contract.
use Rattle.std.proofs.Common.{ℕ, List, ap, sym, refl, ◌≡◌, ◌∙◌, true, length, take, drop}
use Rattle.lists.specs.Room.{filled}
use Rattle.scte20.specs.Value.{blank}
use Rattle.notation.specs.Inside.{word_at}
use Rattle.notation.specs.Value.{are_records, capped_of, is_decimal, records_of}
use Rattle.notation.specs.Words.{words_of}
use Rattle.notation.proofs.Taking.{byte_of, tells, told-some}
use Rattle.notation.proofs.Telling.{told-all}
use Rattle.notation.proofs.unit_of.Goals as goal

pub returns : goal.returns
returns c =
    let text = c.args.text.now in
    let words = words_of text in
    let first = tells is_decimal capped_of text words 0 0 refl (c.in_ok-reserved.reserved, c.in_ok-reserved.flag_at) c.in_ok-reserved.ensures in
    let second = tells is_decimal capped_of text words 1 c.in_ok-reserved.flag_at first.rest (c.in_ok-flag.flag, c.in_ok-flag.z_at) c.in_ok-flag.ensures in
    let third = tells is_decimal capped_of text words 2 c.in_ok-flag.z_at second.rest (c.in_ok-z.z, c.in_ok-z.at) c.in_ok-z.ensures in
    let found = told-some _ _ c.in_ok-entries.entries (sym c.in_ok-entries.ensures) in
    let are : are_records (drop 3 words) ≡ true = sym (ap are_records third.rest) ∙ found.0 in
    let entries =
    found.1 ∙ ap (λ (ws : List (List ℕ)). record { n = length (records_of ws); records = filled (take 31 (records_of ws)) 31 blank }) third.rest
    in
    let reserved = byte_of (word_at 0 words) c.in_ok-reserved.reserved c.narrow.result c.narrow.ensures first.value in
    let flag = byte_of (word_at 1 words) c.in_ok-flag.flag c.narrow-2.result c.narrow-2.ensures second.value in
    told-all text _ (simp (first.told, second.told, third.told, are))
    (λ i. record { reserved = reserved i; vbi_data_flag = flag i; n = (entries i).n; records = (entries i).records; z = third.value i })
