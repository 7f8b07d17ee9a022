-- The values of the upper-case hex digits. Assumes nothing.
use Rattle.std.specs.Prelude.{ℕ, ◌-◌, cond, ltb}

-- 0 to 9 begin at character 48, A to F at 65; any other byte is 16
abbrev pub digit_value : ℕ → ℕ
digit_value b =
    cond (ltb b 48) 16 (cond (ltb b 58) (b - 48) (cond (ltb b 65) 16 (cond (ltb b 71) (b - 55) 16)))
