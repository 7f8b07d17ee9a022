-- A reel beside the single calls that write its payloads one by one.
-- Assumes nothing.
use Prim.Native.Nat.{ℕ, ◌+◌, ◌-◌, ◌≤◌, ◌<◌}
use native.Mathlib.Omega.{arith}
use mathlib.Core.Path.{◌≡◌, ◌∙◌, ap, ap₂, sym, subst, refl}
use mathlib.Core.List.{List, [], ◌∷◌, ◌++◌}
use lib.ListN.{length, take, drop, replicate, length-append, length-drop, length-replicate}
use Rattle.lists.specs.Each.{Each}
use Rattle.lists.specs.Room.{over}
use Rattle.lists.proofs.Each.{each_append, each-replicate, each_map, each_both}
use Rattle.lists.proofs.Lay.{take-over, drop-over, over-over}
use Rattle.refusal.specs.declared.Refusal.{Refusal}
use Rattle.refusal.specs.Verdict.{Verdict}
use Rattle.refusal.specs.Verdict.{Accepted, Refused}
use Rattle.refusal.specs.declared.Written.{Written}
use Rattle.refusal.specs.Checks.{and_then}
use Rattle.refusal.specs.Numbers.{refusal_of}
use Rattle.refusal.specs.Answers.{accepted, counted_of, left_of}
use Rattle.refusal.proofs.Checks.{and_then-refused, refused-not-accepted}
use Rattle.refusal.proofs.Outputs.{wrote-refusal, wrote-accepted, accepted-wrote, success-left, refusal-left}
use Rattle.line21.specs.declared.AccessUnit.{AccessUnit}
use Rattle.line21.specs.Value.{Line21, ByteUnit, Typed, blank, stored, held}
use Rattle.line21.specs.Layout.{layout}
use Rattle.line21.specs.Writing.{value_verdict, Writes}
use Rattle.line21.proofs.Answers.{stored-held}
use Rattle.reel.specs.Cut.{cut}
use Rattle.reel.specs.Writing.{reel, reel_layout, reel_verdict, WritesReel}
use Rattle.reel.specs.OneByOne.{OneByOne, done, stop, more}
use Rattle.reel.proofs.Cutting.{cut-joined, joined-each}
use Rattle.reel.proofs.Judging.{size-accepted}
use Rattle.reel.proofs.Writing.{each-payload, few-each}

-- what the single calls come to: the reel's verdict, and where it accepts its bytes
pub record Comes (vs : List Line21) (out : List ℕ) (refusal : Refusal) (len : ℕ) (exit : List ℕ) : Type 0 where
  pub same : refusal ≡ refusal_of (reel_verdict vs (length out))
  pub counted : refusal.number ≡ 0 → len ≡ length (reel_layout vs)
  pub laid : refusal.number ≡ 0 → exit ≡ over (reel_layout vs) out

-- a single call that was accepted
module _ (v : Line21) (out : List ℕ) (answer : Written) (exit : List ℕ) (w : Writes (stored v) out answer exit) where
  told : answer.refusal ≡ refusal_of (value_verdict (stored v) (length out))
  told = wrote-refusal _ _ _ _ _ w.wrote

  module _ (ok : answer.refusal.number ≡ 0) where
    passes : value_verdict (stored v) (length out) ≡ Accepted
    passes = wrote-accepted _ _ _ _ _ w.wrote ok

    stands : (answer.len ≡ length (layout v)) × (exit ≡ over (layout v) out)
    stands =
        let left = success-left _ _ _ _ _ w.wrote passes in
        let same = ap layout (stored-held v) in
        (ap (λ (x : Written). x.len) left.0 ∙ ap length same, left.1 ∙ ap (λ (bytes : List ℕ). over bytes out) same)

    -- the next call is lent what is behind it
    behind : drop answer.len exit ≡ drop (length (layout v)) out
    behind = ap (drop answer.len) stands.1 ∙ drop-over (layout v) out answer.len (sym stands.0)

    front : take answer.len exit ≡ layout v
    front = ap (take answer.len) stands.1 ∙ take-over (layout v) out answer.len (sym stands.0)

pub one_by_one : {vs : List Line21} {out : List ℕ} {refusal : Refusal} {len : ℕ} {exit : List ℕ}
    → OneByOne vs out refusal len exit → Comes vs out refusal len exit
one_by_one done = record { same = refl; counted = λ e. refl; laid = λ e. refl }
one_by_one (stop {v} {vs} {out} {exit} {answer} w bad) =
    let accepts = accepted-wrote _ _ _ _ _ w.wrote in
    record {
      same = told v out answer exit w ∙ ap refusal_of (sym (and_then-refused _ _ (λ e. bad (accepts e))));
      counted = λ e. absurd (bad e);
      laid = λ e. absurd (bad e);
    }
one_by_one (more {v} {vs} {out} {exit} {rest} {answer} {refusal} {len} w ok others) =
    let next = one_by_one others in
    let left : length (drop answer.len exit) ≡ length out - length (layout v) = ap length (behind v out answer exit w ok) ∙ length-drop (length (layout v)) out in
    record {
      same = next.same
          ∙ ap (λ (room : ℕ). refusal_of (reel_verdict vs room)) left
          ∙ ap (λ (check : Verdict). refusal_of (and_then check (reel_verdict vs (length out - length (layout v))))) (sym (passes v out answer exit w ok));
      counted = λ e. ap₂ (λ (a b : ℕ). a + b) (stands v out answer exit w ok).0 (next.counted e) ∙ sym (length-append (layout v) (reel_layout vs));
      laid = λ e.
          ap₂ (λ (a b : List ℕ). a ++ b) (front v out answer exit w ok) (next.laid e ∙ ap (over (reel_layout vs)) (behind v out answer exit w ok))
          ∙ over-over (layout v) (reel_layout vs) out;
    }

-- the single calls can be made: each has an answer, and keeps its promise
abbrev Held : Line21 → Type 0
Held v = (v.flags < 256) × (length v.units ≤ 291) × Each ByteUnit v.units

typed-stored : (v : Line21) → Held v → Typed (stored v)
typed-stored v h =
    let zeros : ByteUnit blank = record { field1-data1 = omega arith; field1-data2 = omega arith; field2-data1 = omega arith; field2-data2 = omega arith } in
    record {
      byte = h.0;
      places = simp (length-append, length-replicate) (omega (arith, h.1));
      bytes = each_append ByteUnit v.units (replicate (291 - length v.units) blank) h.2 (each-replicate ByteUnit (291 - length v.units) blank zeros);
    }

pub record Runs (vs : List Line21) (out : List ℕ) : Type 0 where
  pub refusal : Refusal
  pub len : ℕ
  pub exit : List ℕ
  pub calls : OneByOne vs out refusal len exit

module _ (v : Line21) (out : List ℕ) where
  abbrev verdict : Verdict
  verdict = value_verdict (stored v) (length out)

  abbrev answer-of : Written
  answer-of = counted_of verdict (layout (held (stored v)))

  abbrev left-of : List ℕ
  left-of = left_of verdict (layout (held (stored v))) out

  call : Held v → Writes (stored v) out answer-of left-of
  call h = record { typed = typed-stored v h; wrote = record { counted = refl; left = refl } }

  -- the first call, and the others behind it where it is accepted
  then : (vs : List Line21) → Held v → ((rest : List ℕ) → Runs vs rest) → (found : Verdict) → verdict ≡ found → Runs (v ∷ vs) out
  then vs h others Accepted e =
      let made = call h in
      let next = others (drop answer-of.len left-of) in
      record {
        refusal = next.refusal;
        len = answer-of.len + next.len;
        exit = take answer-of.len left-of ++ next.exit;
        calls = more made (accepted-wrote _ _ _ _ _ made.wrote e) next.calls;
      }
  then vs h others (Refused reason item) e =
      let made = call h in
      record {
        refusal = answer-of.refusal;
        len = 0;
        exit = left-of;
        calls = stop made (λ z. refused-not-accepted reason item (sym e ∙ wrote-accepted _ _ _ _ _ made.wrote z));
      }

pub runs : (vs : List Line21) → Each Held vs → (out : List ℕ) → Runs vs out
runs [] h out = record { refusal = accepted; len = 0; exit = out; calls = done }
runs (v ∷ vs) h out = then v out vs h.0 (λ rest. runs vs h.1 rest) (verdict v out) refl

pub can-be-made : (flags size : ℕ) (us : List AccessUnit) (out : List ℕ) → flags < 256 → Each ByteUnit us → 1 ≤ size → size ≤ 291
    → (refusal : Refusal) × (len : ℕ) × (end : List ℕ) × OneByOne (reel flags size us) out refusal len end
can-be-made flags size us out byte bytes some few =
    let pieces = joined-each ByteUnit (cut size us) (subst (λ (xs : List AccessUnit). Each ByteUnit xs) (sym (cut-joined size some us)) bytes) in
    let typed = each-payload flags (λ (v : Line21). Each ByteUnit v.units) (cut size us) pieces in
    let same = each-payload flags (λ (v : Line21). v.flags < 256) (cut size us) (each_map (λ (xs : List AccessUnit). Each ByteUnit xs) (λ (xs : List AccessUnit). flags < 256) (λ xs h. byte) (cut size us) pieces) in
    let all = each_both (λ (v : Line21). (v.flags < 256) × (length v.units ≤ 291)) (λ (v : Line21). Each ByteUnit v.units) Held (λ v h b. (h.0, h.1, b)) (reel flags size us)
    (each_both (λ (v : Line21). v.flags < 256) (λ (v : Line21). length v.units ≤ 291) (λ (v : Line21). (v.flags < 256) × (length v.units ≤ 291)) (λ v f n. (f, n)) (reel flags size us) same (few-each flags size us some few))
    typed
    in
    let made = runs (reel flags size us) all out in
    (made.refusal, made.len, made.exit, made.calls)

-- the reel beside them
pub as-one-by-one : (flags size : ℕ) (us : List AccessUnit) (out : List ℕ) (r : Written) (exit : List ℕ)
    → WritesReel flags size us out r exit → 1 ≤ size → size ≤ 291
    → (refusal : Refusal) (len : ℕ) (end : List ℕ) → OneByOne (reel flags size us) out refusal len end
    → (r.refusal ≡ refusal)
    × (refusal.number ≡ 0 → (r.len ≡ len) × (exit ≡ end))
    × ((refusal.number ≡ 0 → ⊥) → (r.len ≡ 0) × (exit ≡ out))
as-one-by-one flags size us out r exit w some few refusal len end calls =
    let comes = one_by_one calls in
    let sized = ap (λ (v : Verdict). and_then v (reel_verdict (reel flags size us) (length out))) (size-accepted size some few) in
    let same : r.refusal ≡ refusal = wrote-refusal _ _ _ _ _ w.wrote ∙ ap refusal_of sized ∙ sym comes.same in
    let number = ap (λ (x : Refusal). x.number) same in (
      same,
      λ e.
          let left = success-left _ _ _ _ _ w.wrote (wrote-accepted _ _ _ _ _ w.wrote (number ∙ e)) in
          (ap (λ (x : Written). x.len) left.0 ∙ sym (comes.counted e), left.1 ∙ sym (comes.laid e)),
      λ bad. refusal-left _ _ _ _ _ w.wrote (λ e. bad (sym number ∙ e)),
    )
