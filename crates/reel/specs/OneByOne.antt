-- The payloads of a reel by single calls: each is lent the output behind what stands, and the first refusal ends it.
-- What a single call does is the promise of line21's own writer and reader, and nothing else.
use Rattle.std.specs.Prelude.{ℕ, ◌+◌, ◌≡◌, List, [], ◌∷◌, ◌++◌, take, drop}
use Rattle.refusal.specs.declared.Refusal.{Refusal}
use Rattle.refusal.specs.declared.Written.{Written}
use Rattle.refusal.specs.Answers.{accepted}
use Rattle.line21.specs.declared.AccessUnit.{AccessUnit}
use Rattle.line21.specs.declared.Answer.{Answer}
use Rattle.line21.specs.Value.{Line21, stored, held}
use Rattle.line21.specs.Reading.{Reads}
use Rattle.line21.specs.Writing.{Writes}

-- writing the payloads of `vs` to an output that held `out` ends with this refusal, has stored so many bytes, and leaves
-- this output
pub data OneByOne : List Line21 → List ℕ → Refusal → ℕ → List ℕ → Type 0 where
  done : {out : List ℕ} → OneByOne [] out accepted 0 out
  stop : {v : Line21} {vs : List Line21} {out exit : List ℕ} {answer : Written}
      → Writes (stored v) out answer exit → (answer.refusal.number ≡ 0 → ⊥)
      → OneByOne (v ∷ vs) out answer.refusal 0 exit
  more : {v : Line21} {vs : List Line21} {out exit rest : List ℕ} {answer : Written} {refusal : Refusal} {len : ℕ}
      → Writes (stored v) out answer exit → answer.refusal.number ≡ 0
      → OneByOne vs (drop answer.len exit) refusal len rest
      → OneByOne (v ∷ vs) out refusal (answer.len + len) (take answer.len exit ++ rest)

-- reading payload after payload gives these units, one behind the other, all under this flags byte; none is refused
pub data ReadOneByOne (flags : ℕ) : List (List ℕ) → List AccessUnit → Type 0 where
  done : ReadOneByOne flags [] []
  more : {s : List ℕ} {ss : List (List ℕ)} {a : Answer} {us : List AccessUnit}
      → Reads s a → a.refusal ≡ accepted → a.payload.flags ≡ flags
      → ReadOneByOne flags ss us
      → ReadOneByOne flags (s ∷ ss) ((held a.payload).units ++ us)
