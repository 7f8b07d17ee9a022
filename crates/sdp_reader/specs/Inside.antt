-- What functions promise each other. No theorem for a signer speaks of it.
use Rattle.std.specs.Prelude.{ℕ, ◌%◌, ◌≤◌, ◌≡◌, Bool, true, List, length, slice_index}
use Rattle.refusal.specs.Verdict.{Verdict}
use Rattle.refusal.specs.Verdict.{Accepted}

-- a yes vouches for words wherever they stand in a packet, so that they are accepted at each place; a no says nothing
abbrev pub Vouches : Bool → (ℕ → Verdict) → Type 0
Vouches r verdict = r ≡ true → (place : ℕ) → verdict place ≡ Accepted

-- the user words begin with the bytes 51, 15, LENGTH and 02, and are not too few
pub record Opens (user : List ℕ) : Type 0 where
  pub long : 13 ≤ length user
  pub identifier_51 : slice_index user 0 % 256 ≡ 0x51
  pub identifier_15 : slice_index user 1 % 256 ≡ 0x15
  pub counted : slice_index user 2 % 256 ≡ length user
  pub format : slice_index user 3 % 256 ≡ 0x02
