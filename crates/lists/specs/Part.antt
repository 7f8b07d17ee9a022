-- A part of a list, as the code's `&s[from..to]`.
use Rattle.std.specs.Prelude.{ℕ, ◌-◌, List, take, drop}

-- the elements from index `from` up to, not including, index `to`
abbrev pub part : {A : Type 0} → ℕ → ℕ → List A → List A
part from to xs = take (to - from) (drop from xs)
