-- `listing::listed` puts a line for each record behind the head: before each turn, those of the records passed stand there.
use Prim.Native.Nat.{ℕ, ◌≤◌, min}
use native.Mathlib.Omega.{arith}
use mathlib.Core.Path.{◌≡◌, ◌∙◌, ap, subst, sym}
use mathlib.Core.List.{List, ◌++◌}
use lib.ListN.{length, take, length-take}
use lib.Seq.{take_all}
use Rattle.std.proofs.lemmas.List.{take_min}
use Rattle.lists.specs.Each.{Each}
use Rattle.lists.proofs.Each.{each_take}
use Rattle.scte20.specs.declared.Record.{Record}
use Rattle.scte20.specs.Value.{blank}
use Rattle.listing.specs.declared.Text.{Text}
use Rattle.listing.specs.Texts.{HoldsText, head_text, records_text}
use Rattle.listing.specs.Inside.{Appends}
use Rattle.listing.proofs.Building.{appends-both, appends-first, appends-none, appends-same}
use Rattle.listing.proofs.Lengths.{ByteRecord, listed-fits}
use Rattle.listing.proofs.Lines.{records-next}
use Rattle.listing.proofs.Types.{typed}
use Rattle.listing.proofs.listed.Goals as goal

-- where the first records have been passed, all that are held
whole : (rs : List Record) (m i n : ℕ) (start t : Text) → (length rs ≡ 31) × Each ByteRecord rs → HoldsText head_text start
    → Appends (records_text (take i (take m rs))) start t → length (take m rs) ≤ i → m ≡ min n 31 → HoldsText (head_text ++ records_text (take n rs)) t
whole rs m i n start t types head behind all e =
    let same : take i (take m rs) ≡ take n rs = take_all i (take m rs) all ∙ ap (λ (k : ℕ). take k rs) e ∙ ap (λ (k : ℕ). take (min n k) rs) (sym types.0) ∙ take_min n rs in
    let few : length (take n rs) ≤ 31 = omega (arith, length-take n rs, types.0) in
    (subst (λ (passed : List Record). Appends (records_text passed) start t) same behind).behind
    head_text head (listed-fits (take n rs) (each_take ByteRecord n rs types.1) few)

pub loop-r-init : goal.loop-r-init
loop-r-init c = appends-none c.with-t.result

pub loop-r-preserved : goal.loop-r-preserved
loop-r-preserved c =
    appends-same (sym (records-next (take c.min.result c.args.unit.records) c.loop-r.r-index blank c.loop-r-test.true)) (appends-both c.loop-r.invariant c.with_record-t.ensures)

pub returns : goal.returns
returns c =
    whole c.args.unit.records c.min.result c.loop-r.r-index c.args.unit.n c.with-t.result c.loop-r.t (typed c.args.unit _ c.well_formed.0)
    (appends-first c.empty.ensures c.with-t.ensures (omega arith)) c.loop-r.invariant c.loop-r-test.false c.min.ensures
