-- A turn gathers the unit at i; after the loop no unit is left.
use Rattle.std.proofs.Common.{◌≡◌, ◌∙◌, ap, sym, ℕ, ◌+◌, ◌/◌, ◌≤◌, ◌<◌, List, length, drop, arith}
use lib.ListN.{drop_of_length-le}
use Rattle.lists.proofs.Flat.{length_taken}
use Rattle.refusal.specs.Verdict.{Verdict}
use Rattle.refusal.specs.Checks.{and_then}
use Rattle.line21.specs.Writing.{unit_verdict, units_verdict}
use Rattle.line21.specs.Lent.{access_unit_in, run_in}
use Rattle.line21.proofs.Numbers.{units-from}
use Rattle.line21_judge.proofs.all_hold.Goals as goal

places : (s : List ℕ) → length (run_in s) ≡ length s / 7
places s = length_taken access_unit_in 7 (length s / 7) s

pub loop-i-preserved : goal.loop-i-preserved
loop-i-preserved c clear =
    let run = run_in c.args.units.now in
    let i = c.loop-i.i in
    let inside : i < length run = omega (arith, places c.args.units.now) in
    let both = c.gather-seen.ensures.0 clear in
    c.loop-i.invariant both.0
    ∙ units-from run i inside
    ∙ ap (λ (v : Verdict). and_then v (units_verdict (drop (i + 1) run))) (ap unit_verdict (sym c.unit_in.ensures) ∙ both.1)

pub returns : goal.returns
returns c e =
    let run = run_in c.args.units.now in
    let all : length run ≤ c.loop-i.i = omega (arith, places c.args.units.now) in
    c.loop-i.invariant (c.is_clear.ensures.0 e) ∙ ap units_verdict (drop_of_length-le run all)
