-- Arrays and outputs that hold something at their front. RULES, "Refusals".
use Rattle.std.specs.Prelude.{ℕ, ◌-◌, List, ◌++◌, length, take, drop, replicate}

-- an array of n places with what it holds at its front: room beyond is blank in every answer
abbrev pub filled : {A : Type 0} → List A → ℕ → A → List A
filled front n blank = front ++ replicate (n - length front) blank

-- an output with something laid over its front: nothing else in it changes
abbrev pub over : {A : Type 0} → List A → List A → List A
over front out = front ++ drop (length front) out

-- the same from index `at` on
abbrev pub over_at : {A : Type 0} → ℕ → List A → List A → List A
over_at at piece out = take at out ++ over piece (drop at out)
