-- The answer of an area with the records in a lent array: what the C interface lends.
use Rattle.std.specs.Prelude.{ℕ, ◌≡◌, Bool, List}
use Rattle.lists.specs.Bytes.{Bytes}
use Rattle.refusal.specs.declared.Refusal.{Refusal}
use Rattle.refusal.specs.Answers.{lent_of}
use Rattle.kind.specs.declared.Kind.{Kind}
use Rattle.kind.specs.declared.Kind.TheVariants.{Scte20, Ga94}
use Rattle.picture.specs.declared.Answer as scte20-answer
use Rattle.picture.specs.declared.Head as code
use Rattle.scte20.specs.declared.Numbers as scte20-numbers
use Rattle.ga94.specs.declared.Numbers as ga94-numbers
use Rattle.picture.specs.Kinds.{Numbers, numbers_of, bytes_of}
use Rattle.picture.specs.Reading.{area_verdict, Answer, read_of}

-- an answer without the records
pub record Head (k : Kind) : Type 0 where
  pub refusal : Refusal
  pub present : Bool
  pub numbers : Numbers k

abbrev pub head_of : (k : Kind) → Answer k → Head k
head_of k a = record { refusal = a.refusal; present = a.present; numbers = numbers_of k a.unit }

-- the promise of reading into a lent array: the numbers, and all records of the answer in the array, zeros beyond n and
-- where no caption unit stands
pub record ReadsInto (k : Kind) (s lent : List ℕ) (r : Head k) (exit : List ℕ) : Type 0 where
  pub bytes : Bytes s
  pub answer : r ≡ head_of k (read_of k s)
  pub left : exit ≡ lent_of (area_verdict k s) (bytes_of k (read_of k s).unit) lent

-- the answers in the code's structs
abbrev pub answered : scte20-answer.Answer → Answer Scte20
answered r = record { refusal = r.refusal; present = r.present; unit = r.unit }

abbrev pub headed_by : {k : Kind} → {T : Type 0} → (T → Numbers k) → code.Head T → Head k
headed_by told r = record { refusal = r.refusal; present = r.present; numbers = told r.numbers }

abbrev pub headed : code.Head scte20-numbers.Numbers → Head Scte20
headed r = headed_by (λ v. v) r

abbrev pub ga94_headed : code.Head ga94-numbers.Numbers → Head Ga94
ga94_headed r = headed_by (λ v. v) r
