-- `picture_writer::replace_unit` meets its contract: an area that is refused is left so, and in one that is accepted the new unit has a place.
use Prim.Native.Nat.{ℕ, ◌*◌, ◌<◌}
use native.Mathlib.Omega.{arith}
use mathlib.Core.List.{List}
use mathlib.Core.Path.{◌≡◌, ◌∙◌, sym, subst}
use Rattle.refusal.specs.Verdict.{Accepted}
use Rattle.kind.specs.declared.Kind.{Kind}
use Rattle.picture.specs.declared.Old.{Old}
use Rattle.picture.specs.Kinds.{unit_in}
use Rattle.picture.specs.Inside.{ReadsOld}
use Rattle.picture.proofs.Contents.{lent-typed, places-few}
use Rattle.picture.proofs.Spots.{Within, spot-within, replace-refused, replace-accepted}
use Rattle.picture_writer.proofs.replace_unit.Goals as goal

pub returns-in-Err : goal.returns-in-Err
returns-in-Err g c =
    let k = g.C.Content.KIND in
    let records = c.args.records.now in
    let v = g.C.Content.told c.args.v in
    record {
      bytes = c.read_old-old.ensures.bytes;
      typed = lent-typed k v records c.known.ensures (c.told-records ∙ g.met.C.Content.wide);
      wrote =
          replace-refused k c.args.s.now (unit_in k v records) c.args.out.now _ (sym c.read_old-old.ensures.verdict ∙ c.in-Err.is)
          _ c.refused.ensures;
    }

-- the place lies within the area
within : (k : Kind) (s : List ℕ) (old : Old) → ReadsOld k s old → old.verdict ≡ Accepted → Within s old.spot
within k s old reads ok = subst (Within s) (sym reads.place) (spot-within k s (sym reads.verdict ∙ ok))

pub exchange-requires : goal.exchange-requires
exchange-requires g c =
    let s = c.args.s.now in
    let w = within g.C.Content.KIND s _ c.read_old-old.ensures c.in-Ok.is in
    let short : g.row.N * 1 < 9223372036854775808 = omega (arith, g.met.C.Content.wide, places-few g.C.Content.KIND) in
    (short, (w.forward, (w.inside, w.short)))

pub returns-in-Ok : goal.returns-in-Ok
returns-in-Ok g c =
    let k = g.C.Content.KIND in
    let s = c.args.s.now in
    let unit = unit_in k (g.C.Content.told c.args.v) c.args.records.now in
    record {
      bytes = c.read_old-old.ensures.bytes;
      typed = c.exchange.ensures.typed;
      wrote =
          replace-accepted k s unit c.args.out.now c.exchange.result c.exchange.new.out _ (sym c.read_old-old.ensures.verdict ∙ c.in-Ok.is) c.read_old-old.ensures.place
          c.exchange.ensures.wrote;
    }
