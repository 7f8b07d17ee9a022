-- It stores where the verdict accepts.
use Rattle.std.proofs.Common.{◌≡◌, ◌∙◌, ap, sym, refl, ℕ, ◌/◌, ◌<◌, List, length, arith}
use Rattle.lists.specs.Bytes.{Bytes}
use Rattle.lists.proofs.Each.{each-of}
use Rattle.refusal.specs.declared.Refusal.{Refusal}
use Rattle.refusal.specs.Numbers.{refusal_of}
use Rattle.line21.specs.Lent.{run_in}
use Rattle.line21.proofs.LentUnits.{byte-units}
use Rattle.reel.specs.Writing.{reel, reel_layout}
use Rattle.reel.specs.Lent.{run_verdict}
use Rattle.reel.proofs.Judging.{accepted-run, any-flags, run-whole, run-cut-off}
use Rattle.line21_writer.proofs.Outcomes.{wrote-refused, wrote-all}
use Rattle.line21_writer.proofs.reels.write_reel.Goals as goal
use Rattle.line21_writer.proofs.reels.write_reel.Goals.{After-judge_reel}

module _ (c : After-judge_reel) where
  abbrev flags : ℕ
  flags = c.args.flags

  abbrev size : ℕ
  size = c.args.size

  abbrev run : List ℕ
  run = c.args.units.now

  abbrev out : List ℕ
  out = c.args.out.now

  abbrev laid : List ℕ
  laid = reel_layout (reel flags size (run_in run))

  told : run_verdict flags size run (length out) ≡ c.judge_reel.result
  told = sym (c.judge_reel.ensures ∙ any-flags 0 flags size run (length out))

pub returns-in-Err : goal.returns-in-Err
returns-in-Err c =
    let at = (goal.at.returns-in-Err c).After-judge_reel in
    let bytes : Bytes (run at) = each-of (λ (b : ℕ). b < 256) 0 (run at) (λ i h. omega (arith, c.type_inv.units i)) in
    let refused = told at ∙ c.in-Err.is in
    record {
      bytes = bytes;
      whole = λ e. record {
        byte = omega (arith, c.ranges.flags);
        bytes = byte-units (length (run at) / 7) (run at) bytes;
        wrote = wrote-refused _ (laid at) (out at) _ c.in-Err.why (sym (run-whole (flags at) (size at) (run at) (length (out at)) e) ∙ refused) c.from.ensures;
      };
      cut_off = λ h. record {
        counted = c.from.ensures
            ∙ ap (λ (r : Refusal). record { refusal = r; len = 0 }) (sym (ap refusal_of refused) ∙ run-cut-off (flags at) (size at) (run at) (length (out at)) h);
        left = refl;
      };
    }

pub put_reel-len-requires : goal.put_reel-len-requires
put_reel-len-requires c = told (goal.at.put_reel-len-requires c).After-judge_reel ∙ c.in_default.is

pub returns : goal.returns
returns c =
    let at = (goal.at.returns c).After-judge_reel in
    let bytes : Bytes (run at) = each-of (λ (b : ℕ). b < 256) 0 (run at) (λ i h. omega (arith, c.type_inv.units i)) in
    let accepted = told at ∙ c.in_default.is in
    record {
      bytes = bytes;
      whole = λ e. record {
        byte = omega (arith, c.ranges.flags);
        bytes = byte-units (length (run at) / 7) (run at) bytes;
        wrote = wrote-all _ (laid at) (out at) _ c.put_reel-len.result _ (sym (run-whole (flags at) (size at) (run at) (length (out at)) e) ∙ accepted) c.from-2.ensures c.put_reel-len.ensures.value
            c.put_reel-len.ensures.out_after;
      };
      cut_off = λ h. absurd (h (accepted-run (flags at) (size at) (run at) (length (out at)) accepted).whole);
    }
