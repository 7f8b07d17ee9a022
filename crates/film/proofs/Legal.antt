-- Every access unit that a run sends is a legal one: its flags are bits, its padding is 0, and its bytes are those of records or 0.
-- Assumes nothing.
use Prim.Native.Nat.{ℕ, zero, suc, ◌<◌}
use native.Mathlib.Omega.{arith}
use mathlib.Core.Path.{subst, sym}
use mathlib.Core.Bool.{Bool, true, false}
use mathlib.Core.List.{List, [], ◌∷◌, map}
use Rattle.refusal.specs.Verdict.{Verdict}
use Rattle.refusal.specs.Verdict.{Accepted, Refused}
use Rattle.scte20.specs.declared.Record.{Record}
use Rattle.lists.specs.Each.{Each}
use Rattle.lists.proofs.Each.{each_take, each_append}
use Rattle.fields.specs.Sides.{side}
use Rattle.scte20.specs.Value.{held, ByteRecord}
use Rattle.line21.specs.declared.AccessUnit.{AccessUnit}
use Rattle.line21.specs.Value.{LegalAccessUnit}
use Rattle.film.specs.Slot.{Slot}
use Rattle.film.specs.Slot.{Invalid, Pair}
use Rattle.film.specs.State.{State}
use Rattle.film.specs.State.{Nothing}
use Rattle.film.specs.declared.Shown.{Shown}
use Rattle.film.specs.declared.Answer.{Answer}
use Rattle.film.specs.Display.{Event, odd, even, closing, is_at, pick, slot_of, on_side, field_event, fields_shown, picture_events}
use Rattle.film.specs.Frames.{half_of, access_unit, units_of}
use Rattle.film.specs.Calls.{picture_verdict}
use Rattle.film.specs.Runs.{Call, shows, closes, Step, Keeps, Run, sent_in, call_verdict, call_events, brought, row_of}
use Rattle.film.proofs.Running.{run-sends}

-- the bytes of a slot are bytes
abbrev ByteSlot : Slot → Type 0
ByteSlot Invalid = Unit {0}
ByteSlot (Pair a b) = (a < 256) × (b < 256)

abbrev ByteEvent : Event → Type 0
ByteEvent (odd a) = ByteSlot a
ByteEvent (even b) = ByteSlot b
ByteEvent closing = Unit {0}

slot-holdable : (s : Slot) → ByteSlot s → ((half_of s).cc_valid < 2) × ((half_of s).data_1 < 256) × ((half_of s).data_2 < 256)
slot-holdable Invalid bytes = (omega arith, omega arith, omega arith)
slot-holdable (Pair a b) bytes = (omega arith, bytes.0, bytes.1)

unit-legal : (a b : Slot) → ByteSlot a → ByteSlot b → LegalAccessUnit (access_unit a b)
unit-legal a b p q =
    let one = slot-holdable a p in
    let two = slot-holdable b q in
    record {
      numbers = record { valid_1 = one.0; valid_2 = two.0; pad = omega arith };
      bytes = record { field1-data1 = one.1; field1-data2 = one.2; field2-data1 = two.1; field2-data2 = two.2 };
    }

frames-legal : (row : List Event) → Each ByteEvent row → Each LegalAccessUnit (units_of row)
frames-legal [] bytes = tt
frames-legal (odd a ∷ []) bytes = tt
frames-legal (odd a ∷ even b ∷ rest) bytes = (unit-legal a b bytes.0 bytes.1.0, frames-legal rest bytes.1.1)
frames-legal (odd a ∷ odd b ∷ rest) bytes = (unit-legal a Invalid bytes.0 tt, frames-legal (odd b ∷ rest) bytes.1)
frames-legal (odd a ∷ closing ∷ rest) bytes = (unit-legal a Invalid bytes.0 tt, frames-legal rest bytes.1.1)
frames-legal (even b ∷ rest) bytes = (unit-legal Invalid b tt bytes.0, frames-legal rest bytes.1)
frames-legal (closing ∷ rest) bytes = frames-legal rest bytes.1

picked-bytes : (t : Bool) (this other : Slot) → ByteSlot this → ByteSlot other → ByteSlot (pick t this other)
picked-bytes true this other p q = p
picked-bytes false this other p q = q

slot-bytes : (line field : ℕ) (rs : List Record) → Each ByteRecord rs → ByteSlot (slot_of line field rs)
slot-bytes line field [] bytes = tt
slot-bytes line field (r ∷ rs) bytes =
    picked-bytes (is_at line field r) (Pair r.cc_data_1 r.cc_data_2) (slot_of line field rs) (bytes.0.data-1, bytes.0.data-2)
    (slot-bytes line field rs bytes.1)

side-bytes : (side : ℕ) (slot : Slot) → ByteSlot slot → ByteEvent (on_side side slot)
side-bytes zero slot bytes = bytes
side-bytes (suc n) slot bytes = bytes

fields-bytes : (how : Shown) (rs : List Record) (fields : List ℕ) → Each ByteRecord rs → Each ByteEvent (map (field_event how rs) fields)
fields-bytes how rs [] bytes = tt
fields-bytes how rs (f ∷ fields) bytes =
    (side-bytes (side how.top_field_first f) _ (slot-bytes how.line_offset f rs bytes), fields-bytes how rs fields bytes)

brought-bytes : (verdict : Verdict) (es : List Event) → Each ByteEvent es → Each ByteEvent (brought verdict es)
brought-bytes Accepted es bytes = bytes
brought-bytes (Refused reason item) es bytes = tt

call-bytes : (s : State) (call : Call) (r : Answer) → Keeps s call r → Each ByteEvent (brought (call_verdict call) (call_events call))
call-bytes s (shows how u) r keeps =
    brought-bytes (picture_verdict how u) (picture_events how (held u).records)
    (fields-bytes how (held u).records (fields_shown how.repeat_first_field) (each_take ByteRecord u.n u.records keeps.typed.bytes))
call-bytes s closes r keeps = (tt, tt)

row-bytes : (s : State) (steps : List Step) → Run s steps → Each ByteEvent (row_of steps)
row-bytes s [] run = tt
row-bytes s (step ∷ rest) run =
    each_append ByteEvent (brought (call_verdict step.call) (call_events step.call)) (row_of rest) (call-bytes s step.call step.answer run.0)
    (row-bytes step.answer.state rest run.1)

pub run-legal : (steps : List Step) → Run Nothing steps → Each LegalAccessUnit (sent_in steps)
run-legal steps run =
    subst (λ (us : List AccessUnit). Each LegalAccessUnit us) (sym (run-sends steps run).0) (frames-legal (row_of steps) (row-bytes Nothing steps run))
