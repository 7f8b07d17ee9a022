-- What private functions promise each other: where a text's next word stands, and what the words from there on tell. No
-- theorem for a signer speaks of it.
use Rattle.std.specs.Prelude.{ℕ, ◌≤◌, ◌<◌, ◌≡◌, Bool, true, false, List, [], length, take, drop, get_or, Option, Some, None}
use Rattle.lists.specs.Part.{part}
use Rattle.lists.specs.Room.{filled}
use Rattle.scte20.specs.declared.Record.{Record}
use Rattle.scte20.specs.Value.{blank}
use Rattle.notation.specs.declared.Entries.{Entries}
use Rattle.notation.specs.declared.Word.{Word}
use Rattle.notation.specs.Words.{closed, is_space, words_of}
use Rattle.notation.specs.Value.{are_records, is_record, record_of, records_of}

-- from `at` on, r is the first character that is no space, or the end: no word is passed
pub record Skips (text : List ℕ) (at r : ℕ) : Type 0 where
  pub from : at ≤ r
  pub inside : r ≤ length text
  pub same : words_of (drop at text) ≡ words_of (drop r text)
  pub stops : r < length text → is_space (get_or text r 0) ≡ false

-- from `at` on, r is the first character that is a space, or the end: what is passed is a word, if it has a character
pub record EndsWord (text : List ℕ) (at r : ℕ) : Type 0 where
  pub from : at ≤ r
  pub inside : r ≤ length text
  pub passed : words_of (drop at text) ≡ closed (part at r text) (words_of (drop r text))
  pub stops : r < length text → is_space (get_or text r 0) ≡ true

-- w is the first word from `at` on
pub record Finds (text : List ℕ) (at : ℕ) (w : Word) : Type 0 where
  pub from : at ≤ w.start
  pub ordered : w.start ≤ w.end
  pub inside : w.end ≤ length text
  pub first : words_of (drop at text) ≡ closed (part w.start w.end text) (words_of (drop w.end text))
  pub none : w.start ≡ w.end → w.end ≡ length text

-- what is told where it can be read
abbrev pub told_if : {A : Type 0} → Bool → A → Option A
told_if true x = Some x
told_if false x = None

-- the word with index k, of no character where there is none
abbrev pub word_at : ℕ → List (List ℕ) → List ℕ
word_at k words = get_or words k []

-- the first k words from `at` on tell t.0, and t.1 is where the other words begin
pub record Takes {A : Type 0} (are : List (List ℕ) → Bool) (told_of : List (List ℕ) → A) (k : ℕ) (text : List ℕ) (at : ℕ) (t : A × ℕ) : Type 0 where
  pub told : are (words_of (drop at text)) ≡ true
  pub value : t.0 ≡ told_of (words_of (drop at text))
  pub rest : words_of (drop t.1 text) ≡ drop k (words_of (drop at text))
  pub onward : at < t.1
  pub inside : t.1 ≤ length text

-- and where there is no t, they cannot be read
abbrev pub TakesIf : {A : Type 0} → (List (List ℕ) → Bool) → (List (List ℕ) → A) → ℕ → List ℕ → ℕ → Option (A × ℕ) → Type 0
TakesIf are told_of k text at (Some t) = Takes are told_of k text at t
TakesIf are told_of k text at None = are (words_of (drop at text)) ≡ false

-- the first word from `at` on is a number, which, and where the other words begin
abbrev pub TakesWord : (List ℕ → Bool) → (List ℕ → ℕ) → List ℕ → ℕ → Option (ℕ × ℕ) → Type 0
TakesWord is_number number_of text at r = TakesIf (λ words. is_number (word_at 0 words)) (λ words. number_of (word_at 0 words)) 1 text at r

-- whether the first five words are a record, and which
abbrev pub is_entry : List (List ℕ) → Bool
is_entry words = is_record (word_at 0 words) (word_at 1 words) (word_at 2 words) (word_at 3 words) (word_at 4 words)

abbrev pub entry_of : List (List ℕ) → Record
entry_of words = record_of (word_at 0 words) (word_at 1 words) (word_at 2 words) (word_at 3 words) (word_at 4 words)

-- the five words from `at` on are a record, which, and where the other words begin
abbrev pub TakesEntry : List ℕ → ℕ → Option (Record × ℕ) → Type 0
TakesEntry text at r = TakesIf is_entry entry_of 5 text at r

-- what all words tell, where they are records
abbrev pub entries_of : List (List ℕ) → Option Entries
entries_of words =
    told_if (are_records words) (record { n = length (records_of words); records = filled (take 31 (records_of words)) 31 blank })

-- r is what all words from `at` on tell
abbrev pub TakesEntries : List ℕ → ℕ → Option Entries → Type 0
TakesEntries text at r = r ≡ entries_of (words_of (drop at text))
