-- Whether a run fits its output, told by its count of units alone, and whether all its checks are passed. RULES, "Reel".
use Rattle.std.specs.Prelude.{ℕ, ◌≤◌, ◌≡◌, Bool, true, ◌↔◌, List, length}
use Rattle.refusal.specs.Verdict.{Accepted}
use Rattle.line21.specs.declared.AccessUnit.{AccessUnit}
use Rattle.line21.specs.Lent.{run_in}
use Rattle.reel.specs.Writing.{reel, reel_layout, reel_verdict}

-- the promise of `fits`: it tells so of every run of n units
abbrev pub Fits : ℕ → ℕ → ℕ → Bool → Type 0
Fits size n room r =
    (flags : ℕ) (us : List AccessUnit) → length us ≡ n → 1 ≤ size → r ≡ true ↔ length (reel_layout (reel flags size us)) ≤ room

-- the promise of `passes`: after a yes no payload of the run is refused
abbrev pub Vouches : ℕ → List ℕ → ℕ → Bool → Type 0
Vouches size s room r = r ≡ true → 1 ≤ size → size ≤ 291 → reel_verdict (reel 0 size (run_in s)) room ≡ Accepted
