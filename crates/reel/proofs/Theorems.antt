-- The theorems of the reel (docs/RULES.md, "Reel", "Demands" and "Order of checks"). What they speak of is defined in
-- specs/: how a run is cut in Cut; the payloads, their bytes and what writing answers and leaves in Writing; the single
-- calls that write and read its payloads in OneByOne; a run that is lent as bytes in Lent; the checks, as one list, in
-- Order. A payload's value, layout and checks are those of line21, and nothing of them is said anew.
-- How to read it: docs/NOTATION.md.
--
-- `WritesReel flags size us out r exit`: writing the run us as payloads of `size` units to an output that held `out`
-- answers r and leaves `exit`. It is the promise of `captions_reel_write` (reel_units), of a slice of structs.
-- `WritesRun` is the same of a run that is lent as bytes, the promise of `write_reel` (line21_writer). So each theorem
-- speaks of every call.
-- Assumes nothing.
use Prim.Native.Nat.{ℕ, ◌+◌, ◌-◌, ◌*◌, ◌%◌, ◌≤◌, ◌<◌}
use mathlib.Core.Path.{◌≡◌}
use mathlib.Core.Logic.{◌↔◌}
use mathlib.Core.List.{List, [], ◌∷◌, ◌++◌}
use lib.ListN.{length, take, drop}
use Rattle.lists.specs.Each.{Each}
use Rattle.lists.specs.Room.{over}
use Rattle.refusal.specs.declared.Refusal.{Refusal}
use Rattle.refusal.specs.Verdict.{Verdict}
use Rattle.refusal.specs.Verdict.{Accepted}
use Rattle.refusal.specs.declared.Written.{Written}
use Rattle.refusal.specs.Checks.{first}
use Rattle.refusal.specs.Numbers.{refusal_of}
use Rattle.refusal.specs.Answers.{refused, written}
use Rattle.line21.specs.declared.AccessUnit.{AccessUnit}
use Rattle.line21.specs.Value.{Line21, ByteUnit, LegalAccessUnit, stored}
use Rattle.line21.specs.Writing.{unit_verdict, Writes}
use Rattle.line21.specs.Lent.{access_units_bytes, run_in}
use Rattle.line21_judge.specs.Judging.{lent_verdict}
use Rattle.reel.specs.Cut.{cut, joined, Sized}
use Rattle.reel.specs.Writing.{reel, reel_layout, size_verdict, reel_verdict, call_verdict, WritesReel}
use Rattle.reel.specs.OneByOne.{OneByOne, ReadOneByOne}
use Rattle.reel.specs.Lent.{run_verdict, WritesRun}
use Rattle.reel.specs.Order.{reel_checks}
use Rattle.reel.proofs.Cutting as cutting
use Rattle.reel.proofs.Writing as writing
use Rattle.reel.proofs.Single as single
use Rattle.reel.proofs.Back as back
use Rattle.reel.proofs.Sequence as sequence
use Rattle.reel.proofs.Runs as runs

-- THE PAYLOADS OF A RUN

-- The pieces of a run joined are the run, whole and in order.
pub cut-joined : {A : Type 0} (size : ℕ) → 1 ≤ size → (xs : List A) → joined (cut size xs) ≡ xs
cut-joined = cutting.cut-joined

-- Each is full but the last, which has one element at least;
pub cut-sized : {A : Type 0} (size : ℕ) → 1 ≤ size → (xs : List A) → Sized size (cut size xs)
cut-sized = cutting.cut-sized

-- and there is no other way to cut it so.
pub cut-only : {A : Type 0} (size : ℕ) → 1 ≤ size → (ps : List (List A)) → Sized size ps → cut size (joined ps) ≡ ps
cut-only = cutting.cut-only

-- There are as few payloads as hold the run,
pub payload-count : (flags size : ℕ) (us : List AccessUnit) → 1 ≤ size
    → (length us ≤ size * length (cut size us)) × (size * length (cut size us) < length us + size)
payload-count = writing.payload-count

-- and they have a flags byte each, and five bytes for each unit.
pub reel-length : (flags size : ℕ) (us : List AccessUnit) → 1 ≤ size
    → length (reel_layout (reel flags size us)) ≡ length (cut size us) + 5 * length us
reel-length = writing.reel-length

-- WRITING

-- Writing succeeds exactly when the size is 1 to 291, the units are legal, and the result fits the output.
pub writes-exactly : (flags size : ℕ) (us : List AccessUnit) (out : List ℕ) (r : Written) (exit : List ℕ)
    → WritesReel flags size us out r exit
    → r.refusal.number ≡ 0
    ↔ ((1 ≤ size) × (size ≤ 291) × Each LegalAccessUnit us × (length (reel_layout (reel flags size us)) ≤ length out))
writes-exactly = writing.writes-exactly

-- Then exactly the payloads stand at the front of the output, one behind the other, and nothing else changed.
pub written-front : (flags size : ℕ) (us : List AccessUnit) (out : List ℕ) (r : Written) (exit : List ℕ)
    → WritesReel flags size us out r exit → r.refusal.number ≡ 0
    → (r ≡ written (length (reel_layout (reel flags size us)))) × (exit ≡ over (reel_layout (reel flags size us)) out)
written-front = writing.written-front

-- An empty run writes nothing and succeeds, whatever the room.
pub empty-written : (flags size : ℕ) (out : List ℕ) (r : Written) (exit : List ℕ) → WritesReel flags size [] out r exit
    → 1 ≤ size → size ≤ 291 → (r ≡ written 0) × (exit ≡ out)
empty-written = writing.empty-written

-- A size that no payload has is refused first, whatever the run and the room,
pub size-refused : (flags size : ℕ) (us : List AccessUnit) (out : List ℕ) (r : Written) (exit : List ℕ)
    → WritesReel flags size us out r exit → ((1 ≤ size) × (size ≤ 291) → ⊥) → r.refusal ≡ refused 15 0
size-refused = writing.size-refused

-- The checks are made in the order of RULES, one line of `reel_checks` each: the first that finds a fault decides,
pub reel-order : (flags size : ℕ) (us : List AccessUnit) (room : ℕ)
    → call_verdict flags size us room ≡ first (reel_checks flags size us room)
reel-order = sequence.reel-order

-- and the answer tells its number.
pub write-first : (flags size : ℕ) (us : List AccessUnit) (out : List ℕ) (r : Written) (exit : List ℕ)
    → WritesReel flags size us out r exit → r.refusal ≡ refusal_of (first (reel_checks flags size us (length out)))
write-first = sequence.write-first

-- No refusal has a place to tell.
pub write-place : (flags size : ℕ) (us : List AccessUnit) (out : List ℕ) (r : Written) (exit : List ℕ)
    → WritesReel flags size us out r exit → r.refusal.place ≡ 0
write-place = sequence.write-place

-- A refused call counted nothing and changed nothing, whichever payload it was refused for.
pub refused-untouched : (flags size : ℕ) (us : List AccessUnit) (out : List ℕ) (r : Written) (exit : List ℕ)
    → WritesReel flags size us out r exit → (r.refusal.number ≡ 0 → ⊥) → (r.len ≡ 0) × (exit ≡ out)
refused-untouched = writing.refused-untouched

-- ONE BY ONE

-- The call equals single calls that write the payloads one by one, each into the rest of the output: the refusal is
-- that of the first that is refused; without one, so are the length and the output. Where the single calls would have
-- stored payloads before the refusal, the call has stored nothing.
pub as-one-by-one : (flags size : ℕ) (us : List AccessUnit) (out : List ℕ) (r : Written) (exit : List ℕ)
    → WritesReel flags size us out r exit → 1 ≤ size → size ≤ 291
    → (refusal : Refusal) (len : ℕ) (end : List ℕ) → OneByOne (reel flags size us) out refusal len end
    → (r.refusal ≡ refusal)
    × (refusal.number ≡ 0 → (r.len ≡ len) × (exit ≡ end))
    × ((refusal.number ≡ 0 → ⊥) → (r.len ≡ 0) × (exit ≡ out))
as-one-by-one = single.as-one-by-one

-- Those single calls can be made, for every run and output.
pub can-be-made : (flags size : ℕ) (us : List AccessUnit) (out : List ℕ) → flags < 256 → Each ByteUnit us
    → 1 ≤ size → size ≤ 291
    → (refusal : Refusal) × (len : ℕ) × (end : List ℕ) × OneByOne (reel flags size us) out refusal len end
can-be-made = single.can-be-made

-- Where the payloads before it are let through, a payload that its own writer refuses decides, with the number that
-- this writer gives it; what stands behind it is not looked at. So an output too short for payload 1 is told before a
-- unit of payload 2 that is not legal.
pub first-refused : (flags size : ℕ) (us : List AccessUnit) (out : List ℕ) (r : Written) (exit : List ℕ)
    → WritesReel flags size us out r exit → 1 ≤ size → size ≤ 291
    → (before : List Line21) (v : Line21) (behind : List Line21) → reel flags size us ≡ before ++ (v ∷ behind)
    → reel_verdict before (length out) ≡ Accepted
    → (one : Written) (end : List ℕ) → Writes (stored v) (drop (length (reel_layout before)) out) one end
    → (one.refusal.number ≡ 0 → ⊥)
    → r.refusal ≡ one.refusal
first-refused = writing.first-refused

-- Reading payload after payload what was written gives the run back, whole and in order, under its flags byte,
pub read_back : (flags size : ℕ) (us : List AccessUnit) (out : List ℕ) (r : Written) (exit : List ℕ)
    → WritesReel flags size us out r exit → r.refusal.number ≡ 0
    → ReadOneByOne flags (cut (1 + 5 * size) (take r.len exit)) us
read_back = back.read_back

-- and nothing else.
pub read_only : {f g : ℕ} {ss : List (List ℕ)} {us vs : List AccessUnit}
    → ReadOneByOne f ss us → ReadOneByOne g ss vs → us ≡ vs
read_only = back.read_only

-- A RUN OF BYTES

-- A run whose units are lent as bytes, seven each, ends with a unit,
pub run-whole : (us : List AccessUnit) → length (access_units_bytes us) % 7 ≡ 0
run-whole = runs.run-whole

-- and tells these units: `WritesRun` of the bytes is `WritesReel` of the units.
pub run-units : (us : List AccessUnit) → run_in (access_units_bytes us) ≡ us
run-units = runs.run-units

-- A run that ends within a unit is refused with 15, and nothing is stored.
pub cut-off-refused : (flags size : ℕ) (s out : List ℕ) (r : Written) (exit : List ℕ)
    → WritesRun flags size s out r exit → (length s % 7 ≡ 0 → ⊥)
    → (r ≡ record { refusal = refused 15 0; len = 0 }) × (exit ≡ out)
cut-off-refused = runs.cut-off-refused

-- ONE ANSWER

-- Two answers that keep a promise are equal, lent memory too.
pub reel-determined : (flags size : ℕ) (us : List AccessUnit) (out : List ℕ)
    (a : Written) (exit : List ℕ) (b : Written) (end : List ℕ)
    → WritesReel flags size us out a exit → WritesReel flags size us out b end → (a ≡ b) × (exit ≡ end)
reel-determined = runs.reel-determined

pub run-determined : (flags size : ℕ) (s out : List ℕ) (a : Written) (exit : List ℕ) (b : Written) (end : List ℕ)
    → WritesRun flags size s out a exit → WritesRun flags size s out b end → (a ≡ b) × (exit ≡ end)
run-determined = runs.run-determined

-- And so are two verdicts of the functions that judge: the size and a run of bytes here, a payload's units in
-- line21_judge; and the smaller of two numbers.
pub judge-size-determined : (size : ℕ) (a b : Verdict) → a ≡ size_verdict size → b ≡ size_verdict size → a ≡ b
judge-size-determined = runs.judge-size-determined

pub judge-reel-determined : (size : ℕ) (s : List ℕ) (room : ℕ) (a b : Verdict)
    → a ≡ run_verdict 0 size s room → b ≡ run_verdict 0 size s room → a ≡ b
judge-reel-determined = runs.judge-reel-determined

pub judge-value-determined : (m : ℕ) (s : List ℕ) (room : ℕ) (a b : Verdict)
    → a ≡ lent_verdict m s room → b ≡ lent_verdict m s room → a ≡ b
judge-value-determined = runs.judge-value-determined

pub judge-unit-determined : (u : AccessUnit) (a b : Verdict) → a ≡ unit_verdict u → b ≡ unit_verdict u → a ≡ b
judge-unit-determined = runs.judge-unit-determined

pub least-determined : (a b r q : ℕ) → r ≡ a - (a - b) → q ≡ a - (a - b) → r ≡ q
least-determined = runs.least-determined
