-- The calls for GA94: what `picture` proves of a kind, of the numbers as they are passed.
-- Assumes nothing.
use Prim.Native.Nat.{ℕ, ◌*◌, ◌≤◌}
use mathlib.Core.Path.{◌≡◌, ap}
use mathlib.Core.Logic.{◌↔◌}
use mathlib.Core.Bool.{true}
use mathlib.Core.List.{List}
use lib.ListN.{length, take}
use Rattle.lists.specs.Room.{filled, over}
use Rattle.refusal.specs.declared.Written.{Written}
use Rattle.refusal.specs.Answers.{accepted, written}
use Rattle.kind.specs.declared.Kind.TheVariants.{Ga94}
use Rattle.ga94.specs.declared.Numbers.{Numbers}
use Rattle.ga94.specs.Value.{Content}
use Rattle.ga94.specs.Lent.{unit_in}
use Rattle.picture.specs.Value.{Area, captioned}
use Rattle.picture.specs.Value as area
use Rattle.picture.specs.Lent.{Head}
use Rattle.picture.specs.Writing.{unit_bytes, Writes, Replaces}
use Rattle.picture.proofs.Theorems as picture
use Rattle.captions.specs.declared.Ga94Head.{Ga94Head}
use Rattle.captions.specs.Calls.{ga94_head_in, Ga94Reads}
use Rattle.captions.specs.Arguments.{ga94_passed, Fits, FitsIn}

-- an answer with its numbers in it
abbrev apart : Head Ga94 → Ga94Head
apart h =
    record {
      refusal = h.refusal;
      present = h.present;
      process_em_data_flag = h.numbers.process_em_data_flag;
      process_cc_data_flag = h.numbers.process_cc_data_flag;
      additional_data_flag = h.numbers.additional_data_flag;
      em_data = h.numbers.em_data;
      n = h.numbers.n;
      z = h.numbers.z;
    }

pub ga94-read-exactly : (s lent : List ℕ) (r : Ga94Head) (exit : List ℕ) → Ga94Reads s lent r exit
    → r.refusal.number ≡ 0 ↔ ((v : Area Ga94) × area.Legal Ga94 v × (area.layout Ga94 v ≡ s))
ga94-read-exactly s lent r exit p = picture.into-exactly Ga94 s lent (ga94_head_in r) exit p

pub ga94-write-exactly : (v : Numbers) (records out : List ℕ) (r : Written) (exit : List ℕ) → Writes Ga94 (unit_in v records) out r exit
    → r.refusal.number ≡ 0 ↔ Fits Ga94 records out v
ga94-write-exactly v records = picture.writes-exactly Ga94 (unit_in v records)

pub ga94-replace-exactly : (s : List ℕ) (v : Numbers) (records out : List ℕ) (r : Written) (exit : List ℕ) → Replaces Ga94 s (unit_in v records) out r exit
    → r.refusal.number ≡ 0 ↔ FitsIn Ga94 s records out v
ga94-replace-exactly s v records = picture.replaces-exactly Ga94 s (unit_in v records)

pub ga94-written-read : (v : Numbers) (records out : List ℕ) (w : Written) (end : List ℕ) → Writes Ga94 (unit_in v records) out w end
    → w.refusal.number ≡ 0 → length records ≡ 124 → (lent : List ℕ) (r : Ga94Head) (exit : List ℕ) → Ga94Reads (take w.len end) lent r exit
    → (ga94_head_in r ≡ record { refusal = accepted; present = true; numbers = v }) × (exit ≡ filled (take (4 * v.n) records) 124 0)
ga94-written-read v records out w end wrote e long lent r exit read = picture.written-read-into Ga94 v records out w end wrote e long lent (ga94_head_in r) exit read

pub ga94-replaced-read : (x : Area Ga94) → area.Legal Ga94 x → (v : Numbers) (records out : List ℕ) (w : Written) (end : List ℕ)
    → Replaces Ga94 (area.layout Ga94 x) (unit_in v records) out w end → w.refusal.number ≡ 0 → length records ≡ 124
    → (lent : List ℕ) (r : Ga94Head) (exit : List ℕ) → Ga94Reads (take w.len end) lent r exit
    → (ga94_head_in r ≡ record { refusal = accepted; present = true; numbers = v }) × (exit ≡ filled (take (4 * v.n) records) 124 0)
ga94-replaced-read x h v records out w end p e long lent r exit read = picture.replaced-read-into Ga94 x h v records out w end p e long lent (ga94_head_in r) exit read

pub ga94-read-written : (before : List (List ℕ)) (c : Content) (after : List (List ℕ)) → area.Legal Ga94 (captioned before c after)
    → (lent : List ℕ) (a : Ga94Head) (kept : List ℕ) → Ga94Reads (area.layout Ga94 (captioned before c after)) lent a kept
    → (out : List ℕ) (r : Written) (exit : List ℕ) → Writes Ga94 (unit_in (ga94_passed a) kept) out r exit → length (unit_bytes Ga94 c) ≤ length out
    → (r ≡ written (length (unit_bytes Ga94 c))) × (exit ≡ over (unit_bytes Ga94 c) out)
ga94-read-written before c after h lent a kept read out r exit w = picture.read-into-written Ga94 before c after h lent (ga94_head_in a) kept read out r exit w

pub ga94-put-back : (x : Area Ga94) → area.Legal Ga94 x → (lent : List ℕ) (a : Ga94Head) (kept : List ℕ) → Ga94Reads (area.layout Ga94 x) lent a kept
    → a.present ≡ true → (v : Numbers) (records out : List ℕ) (r : Written) (exit : List ℕ)
    → Replaces Ga94 (area.layout Ga94 x) (unit_in v records) out r exit → r.refusal.number ≡ 0
    → (room : List ℕ) (again : Written) (end : List ℕ) → Replaces Ga94 (take r.len exit) (unit_in (ga94_passed a) kept) room again end
    → length (area.layout Ga94 x) ≤ length room → (again ≡ written (length (area.layout Ga94 x))) × (end ≡ over (area.layout Ga94 x) room)
ga94-put-back x h lent a kept read there v records out r exit p e room again end q =
    picture.put-back-into Ga94 x h lent (ga94_head_in a) kept read there (unit_in v records) out r exit p e room again end q

pub ga94-read-determined : (s lent : List ℕ) (a : Ga94Head) (exit : List ℕ) (b : Ga94Head) (end : List ℕ)
    → Ga94Reads s lent a exit → Ga94Reads s lent b end → (a ≡ b) × (exit ≡ end)
ga94-read-determined s lent a exit b end p q =
    let same = picture.read-into-determined Ga94 s lent (ga94_head_in a) exit (ga94_head_in b) end p q in
    (ap apart same.0, same.1)

pub ga94-write-determined : (v : Numbers) (lent out : List ℕ) (a : Written) (exit : List ℕ) (b : Written) (end : List ℕ)
    → Writes Ga94 (unit_in v lent) out a exit → Writes Ga94 (unit_in v lent) out b end → (a ≡ b) × (exit ≡ end)
ga94-write-determined v lent = picture.write-determined Ga94 (unit_in v lent)

pub ga94-replace-determined : (s : List ℕ) (v : Numbers) (lent out : List ℕ) (a : Written) (exit : List ℕ) (b : Written) (end : List ℕ)
    → Replaces Ga94 s (unit_in v lent) out a exit → Replaces Ga94 s (unit_in v lent) out b end → (a ≡ b) × (exit ≡ end)
ga94-replace-determined s v lent = picture.replace-determined Ga94 s (unit_in v lent)
