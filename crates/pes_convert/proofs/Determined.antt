-- Each function's promise fixes its answer and what lent memory holds.
-- Assumes nothing.
use Prim.Native.Nat.{ℕ}
use mathlib.Core.Path.{◌≡◌}
use mathlib.Core.List.{List}
use Rattle.refusal.specs.declared.Written.{Written}
use Rattle.refusal.proofs.Outputs.{wrote-determined}
use Rattle.sdp.specs.declared.Packet.{Packet}
use Rattle.pes_convert.specs.Converting.{Converts, ConvertsValue}

pub convert-determined : (s out : List ℕ) (a : Written) (exit : List ℕ) (b : Written) (end : List ℕ)
    → Converts s out a exit → Converts s out b end → (a ≡ b) × (exit ≡ end)
convert-determined s out a exit b end ca cb = wrote-determined _ _ _ _ _ ca b end cb

pub convert-value-determined : (p : Packet) (rows : List (List ℕ)) (out : List ℕ) (a : Written) (exit : List ℕ) (b : Written) (end : List ℕ)
    → ConvertsValue p rows out a exit → ConvertsValue p rows out b end → (a ≡ b) × (exit ≡ end)
convert-value-determined p rows out a exit b end ca cb = wrote-determined _ _ _ _ _ ca.wrote b end cb.wrote
