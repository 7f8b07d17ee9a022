-- The payloads before unit i are laid over the output, and those from it on are accepted by what is left of it.
use Rattle.std.proofs.Common.{◌≡◌, ◌∙◌, ap, ap₂, sym, refl, ℕ, ◌+◌, ◌-◌, ◌*◌, ◌/◌, ◌≤◌, ◌<◌, List, [], ◌++◌, append_assoc, append-nil, length, take, drop, length-append, length-drop, min, arith}
use borrow.Rule.Slice.PartMut.{put_mid}
use Rattle.lists.specs.Room.{over}
use Rattle.lists.proofs.Flat.{length_taken}
use Rattle.lists.proofs.Lay.{length_over, over-more, rest-whole}
use Rattle.refusal.specs.Verdict.{Accepted}
use Rattle.refusal.proofs.Checks.{accepted-and_then}
use Rattle.line21.specs.declared.Payload.{Payload}
use Rattle.line21.specs.Value.{Line21, held}
use Rattle.line21.specs.Layout.{layout}
use Rattle.line21.specs.Writing.{value_verdict}
use Rattle.line21.specs.Lent.{access_unit_in, run_in, payload_in}
use Rattle.line21.proofs.Numbers.{accepted-value, length-layout-held}
use Rattle.reel.specs.Writing.{reel, reel_layout, reel_verdict}
use Rattle.reel.proofs.Judging.{Judged, accepted-run, verdict-next, layout-next, none_left}
use Rattle.line21_writer.proofs.reels.put_reel.Invariants.{Placed}
use Rattle.line21_writer.proofs.reels.put_reel.Goals as goal
use Rattle.line21_writer.proofs.reels.put_reel.Goals.{Start, After-least-m}

kept : (flags size : ℕ) (s begun out : List ℕ) (at i : ℕ) → Placed flags size s begun out at i → length out ≡ length begun
kept flags size s begun out at i p = ap length p.stands ∙ length_over p.front begun (omega (arith, p.long, p.fits))

-- one turn: m units from unit i on
module _ (flags size : ℕ) (s begun out : List ℕ) (at i m : ℕ) (judged : Judged flags size s (length begun)) (p : Placed flags size s begun out at i)
    (below : i < length s / 7) (next : m ≡ min size (length s / 7 - i)) where
  abbrev value : Payload
  value = payload_in flags m (drop (7 * i) s)

  abbrev piece : List ℕ
  piece = layout (held value)

  few : m ≤ 291
  few = omega (arith, judged.few)

  -- the payload is accepted by the room that is left, and so are the others by what it leaves
  both : (value_verdict value (length begun - at) ≡ Accepted)
      × (reel_verdict (reel flags size (drop (i + m) (run_in s))) (length begun - at - (1 + 5 * m)) ≡ Accepted)
  both = accepted-and_then _ _ (sym (verdict-next flags size judged.some judged.few s i m below next flags (length begun - at)) ∙ p.rest)

  long : length piece ≡ 1 + 5 * m
  long = length-layout-held value (length_taken access_unit_in 7 291 (drop (7 * i) s)) few

  room : length piece ≤ length begun - at
  room = (accepted-value value (length begun - at) both.0).fits

  -- what the writer of one payload asks of the parts that it is lent
  asked : (value_verdict (payload_in flags m (take (length s - 7 * i) (drop (7 * i) s))) (length (take (length out - at) (drop at out))) ≡ Accepted)
      × (7 * m ≤ length (take (length s - 7 * i) (drop (7 * i) s)))
  asked =
      let left : length (take (length out - at) (drop at out)) ≡ length begun - at =
      ap length (rest-whole out at) ∙ length-drop at out ∙ ap (λ (n : ℕ). n - at) (kept flags size s begun out at i p)
      in (
        ap₂ (λ (t : List ℕ) (n : ℕ). value_verdict (payload_in flags m t) n) (rest-whole s (7 * i)) left ∙ both.0,
        omega (arith, ap length (rest-whole s (7 * i)), length-drop (7 * i) s),
      )

  -- the payload stands behind those before it
  laid_more : (part : List ℕ) → part ≡ over (layout (held (payload_in flags m (take (length s - 7 * i) (drop (7 * i) s))))) (take (length out - at) (drop at out))
      → put_mid at (length out - at) out part ≡ over (p.front ++ piece) begun
  laid_more part laid =
      ap (λ (xs : List ℕ). put_mid at (length xs - at) xs part) p.stands
      ∙ over-more p.front piece begun part at p.long
      (laid ∙ ap₂ (λ (t xs : List ℕ). over (layout (held (payload_in flags m t))) (take (length xs - at) (drop at xs))) (rest-whole s (7 * i)) p.stands)

  turned : (part : List ℕ) (len : ℕ)
      → len ≡ length (layout (held (payload_in flags m (take (length s - 7 * i) (drop (7 * i) s)))))
      → part ≡ over (layout (held (payload_in flags m (take (length s - 7 * i) (drop (7 * i) s))))) (take (length out - at) (drop at out))
      → Placed flags size s begun (put_mid at (length out - at) out part) (at + len) (i + m)
  turned part len counted laid =
      let all : len ≡ 1 + 5 * m = counted ∙ ap (λ (t : List ℕ). length (layout (held (payload_in flags m t)))) (rest-whole s (7 * i)) ∙ long in
      let gone : length begun - at - (1 + 5 * m) ≡ length begun - (at + len) = omega arith in
      record {
        inside = omega arith;
        front = p.front ++ piece;
        long = simp length-append (omega (arith, p.long, long));
        fits = omega (arith, room, long, p.fits);
        stands = laid_more part laid;
        whole = p.whole
            ∙ ap (λ (bytes : List ℕ). p.front ++ bytes) (layout-next flags size judged.some judged.few s i m below next)
            ∙ sym (append_assoc p.front piece (reel_layout (reel flags size (drop (i + m) (run_in s)))));
        rest = ap (reel_verdict (reel flags size (drop (i + m) (run_in s)))) (sym gone) ∙ both.1;
      }

judged-whole : (c : Start) → Judged c.args.flags c.args.size c.args.units.now (length c.args.out.now)
judged-whole c = accepted-run _ _ _ _ c.requires

pub loop-left-init : goal.loop-left-init
loop-left-init c =
    let start = (goal.at.loop-left-init c).Start in
    let all : length c.args.out.now - 0 ≡ length c.args.out.now = omega arith in (
      omega arith,
      record {
        inside = omega arith;
        front = [];
        long = refl;
        fits = omega arith;
        stands = refl;
        whole = refl;
        rest = ap (reel_verdict (reel c.args.flags c.args.size (run_in c.args.units.now))) all ∙ (judged-whole start).each;
      },
    )

-- once the next payload's units are counted
module _ (c : After-least-m) (judged : Judged c.args.flags c.args.size c.args.units.now (length c.args.out.now)) where
  below : c.loop-left.i < length c.args.units.now / 7
  below = omega (arith, c.loop-left-test.true, c.loop-left.invariant.0, judged.some)

  next : c.least-m.result ≡ min c.args.size (length c.args.units.now / 7 - c.loop-left.i)
  next = omega (arith, c.least-m.ensures, c.loop-left.invariant.0)

pub write_judged-at-requires-clause-out_value : goal.write_judged-at-requires-clause-out_value
write_judged-at-requires-clause-out_value c =
    let at = goal.at.write_judged-at-requires-clause-out_value c in
    let judged = judged-whole at.Start in
    (asked _ _ _ _ _ _ _ _ judged c.loop-left.invariant.1 (below at.After-least-m judged) (next at.After-least-m judged)).0

pub loop-left-smaller : goal.loop-left-smaller
loop-left-smaller c = omega (arith, c.loop-left-test.true, c.least-m.ensures, (judged-whole (goal.at.loop-left-smaller c).Start).some)

pub loop-left-preserved : goal.loop-left-preserved
loop-left-preserved c =
    let at = goal.at.loop-left-preserved c in
    let judged = judged-whole at.Start in (
      omega (arith, c.least-m.ensures, c.loop-left.invariant.0),
      turned _ _ _ _ _ _ _ _ judged c.loop-left.invariant.1 (below at.After-least-m judged) (next at.After-least-m judged) c.write_judged-at.new.out c.write_judged-at.result
          c.write_judged-at.ensures.value
          c.write_judged-at.ensures.out_after,
    )

-- after the loop the payloads laid are all of them
module _ (flags size : ℕ) (s begun out : List ℕ) (at i : ℕ) (judged : Judged flags size s (length begun)) (p : Placed flags size s begun out at i) (past : i ≡ length s / 7) where
  all : reel_layout (reel flags size (run_in s)) ≡ p.front
  all =
      let none = none_left flags size judged.some judged.few s i (omega (arith, past)) in
      p.whole ∙ ap (λ (vs : List Line21). p.front ++ reel_layout vs) none ∙ append-nil p.front

pub returns-clause-value : goal.returns-clause-value
returns-clause-value c =
    let judged = judged-whole (goal.at.returns-clause-value c).Start in
    let p = c.loop-left.invariant.1 in
    sym p.long ∙ ap length (sym (all _ _ _ _ _ _ _ judged p (omega (arith, c.loop-left-test.false, c.loop-left.invariant.0))))

pub returns-clause-out_after : goal.returns-clause-out_after
returns-clause-out_after c =
    let judged = judged-whole (goal.at.returns-clause-out_after c).Start in
    let p = c.loop-left.invariant.1 in
    p.stands ∙ ap (λ (bytes : List ℕ). over bytes c.args.out.now) (sym (all _ _ _ _ _ _ _ judged p (omega (arith, c.loop-left-test.false, c.loop-left.invariant.0))))
