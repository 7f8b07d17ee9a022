-- `scte20_reader::store` meets its contract: what was gathered is the value of the body.
use Rattle.std.specs.Prelude.{Ok}
use Prim.Native.Nat.{ℕ, ◌+◌, ◌-◌, ◌*◌, ◌/◌, ◌≤◌, ◌<◌}
use native.Mathlib.Omega.{arith}
use mathlib.Core.Path.{◌≡◌, ◌∙◌, ap, ap₂, sym, subst}
use mathlib.Core.List.{List}
use lib.ListN.{length, get_or, replicate}
use Rattle.lists.specs.Bytes.{Bytes}
use Rattle.lists.specs.Room.{over}
use Rattle.lists.proofs.Each.{each-of, each_at}
use Rattle.bits.specs.Bits.{bits_of}
use Rattle.scte20.specs.declared.Record.{Record}
use Rattle.refusal.specs.Answers.{Judged}
use Rattle.scte20.specs.declared.Numbers.{Numbers}
use Rattle.scte20.specs.Reading.{count_in, records_at}
use Rattle.scte20.specs.Lent.{records_bytes, ReadsInto}
use Rattle.scte20.proofs.Bytewise.{count-in}
use Rattle.scte20.proofs.Constructs.{length-records}
use Rattle.scte20.proofs.Answers.{accepted-into, flagged-value}
use Rattle.scte20.proofs.Lending.{lent-over}
use Rattle.scte20_gather.specs.Inside.{Numbered, Gathers}
use Rattle.scte20_gather.proofs.Numbering.{numbered-small, numbered-records}
use Rattle.scte20_reader.proofs.store.Goals as goal

module _ (body found : List ℕ) (bytes : Bytes body) (h : Gathers body found) where
  abbrev n_of : ℕ
  n_of = get_or body 2 0 / 8

  three : 2 < length body
  three = omega (arith, h.long)

  few : n_of ≤ 31
  few = omega (arith, each_at (λ (b : ℕ). b < 256) 0 body bytes 2 three)

  counted : n_of ≡ count_in (bits_of body)
  counted = sym (count-in body bytes three)

  long : (25 + 26 * n_of + 7) / 8 ≤ length body
  long = omega (arith, counted, h.long)

  numbered : Numbered body n_of found
  numbered = subst (λ (n : ℕ). Numbered body n found) (sym counted) h.numbered

abbrev made : ℕ → ℕ → ℕ → Judged Numbers
made reserved n z = Ok (record { reserved = reserved; vbi_data_flag = 1; n = n; z = z })

pub returns : goal.returns
returns c =
    let body = c.args.body.now in
    let found = c.args.found.now in
    let bytes : Bytes body = each-of (λ (b : ℕ). b < 256) 0 body (λ i h. omega (arith, c.type_inv.body i)) in
    let n = get_or body 2 0 / 8 in
    let xs = bits_of body in
    let rs = records_at n 21 xs in
    let sized = length-records n 21 xs in
    let end : 21 + 26 * n + 4 ≡ 25 + 26 * n = omega arith in
    let two : 2 ≤ length body = omega (arith, three body found bytes c.requires) in
    let value = flagged-value body bytes two n (counted body found bytes c.requires) c.requires.flagged in
    let fits : 21 + 26 * n ≤ 8 * length body = omega (arith, long body found bytes c.requires) in
    let stored = c.put_records.ensures
    ∙ ap (λ (front : List Record). over (records_bytes front) (replicate 155 0)) (numbered-records body found n (numbered body found bytes c.requires) fits)
    ∙ lent-over rs (omega (arith, sized, few body found bytes c.requires)) in
    subst (λ (r : Judged Numbers). ReadsInto body c.args.records.now r c.put_records.new.records)
    (ap₂ (λ (k e : ℕ). made (get_or body 1 0 / 2) k (length body - (e + 7) / 8)) sized (sym end))
    (accepted-into body c.args.records.now bytes _ _ c.requires.accepted value stored)

pub put_records-requires-clause-small : goal.put_records-requires-clause-small
put_records-requires-clause-small c =
    let body = c.args.body.now in
    let bytes : Bytes body = each-of (λ (b : ℕ). b < 256) 0 body (λ i h. omega (arith, c.type_inv.body i)) in
    numbered-small body c.args.found.now (get_or body 2 0 / 8) (numbered body c.args.found.now bytes c.requires)
