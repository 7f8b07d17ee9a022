-- Which units of an area are ours, of one kind or the other (RULES, "Picture area"), told by the first bytes of the
-- body. Nothing else in the project says which units are ours.
use Rattle.std.specs.Prelude.{ℕ, Bool, true, false, not, ◌&&◌, ◌||◌, List, [], ◌∷◌, eqb}
use Rattle.kind.specs.declared.Kind.{Kind}
use Rattle.kind.specs.declared.Kind.TheVariants.{Scte20, Ga94}

-- user_data_type of a data group, which is another syntax (003, Table 1): 09 or 0A
abbrev pub group_type : ℕ → Bool
group_type b = eqb b 0x09 || eqb b 0x0A

-- a body that begins with a data group: user_data_length 03, then such a type
abbrev pub grouped : List ℕ → Bool
grouped [] = false
grouped (a ∷ []) = false
grouped (a ∷ b ∷ body) = eqb a 3 && group_type b

-- user_data_type_code 03 (001, 5.4), where no data group begins. 03 alone is ours
abbrev pub typed : List ℕ → Bool
typed [] = false
typed (b ∷ body) = eqb b 3 && not (grouped (b ∷ body))

-- behind ATSC_identifier: user_data_type_code 03, or nothing more
abbrev pub typed_or_ends : List ℕ → Bool
typed_or_ends [] = true
typed_or_ends (b ∷ body) = eqb b 3

-- ATSC_identifier 47 41 39 34 (003, Table 3), and what stands behind it
abbrev pub identified : List ℕ → Bool
identified [] = false
identified (a ∷ []) = false
identified (a ∷ b ∷ []) = false
identified (a ∷ b ∷ c ∷ []) = false
identified (a ∷ b ∷ c ∷ d ∷ body) = eqb a 0x47 && (eqb b 0x41 && (eqb c 0x39 && (eqb d 0x34 && typed_or_ends body)))

-- of the unit's body, what follows its four start bytes
unfoldable pub ours : Kind → List ℕ → Bool
ours Scte20 body = typed body
ours Ga94 body = identified body
