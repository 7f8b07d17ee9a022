-- Each function's promise fixes its answer and what lent memory holds.
-- Assumes nothing.
use Prim.Native.Nat.{ℕ}
use mathlib.Core.Path.{◌≡◌, ◌∙◌, sym}
use mathlib.Core.List.{List}
use Rattle.refusal.specs.declared.Written.{Written}
use Rattle.refusal.specs.Verdict.{Verdict}
use Rattle.refusal.proofs.Outputs.{wrote-determined}
use Rattle.sdp.specs.declared.Packet.{Packet}
use Rattle.sdp.specs.Value.{held}
use Rattle.subtitling.specs.declared.Answer.{Answer}
use Rattle.subtitling.specs.Reading.{packet_verdict, Reads, ReadsRows, ReadsInto}
use Rattle.subtitling.specs.Writing.{value_verdict, Writes}

pub judge-determined : (s : List ℕ) (a b : Verdict) → a ≡ packet_verdict s → b ≡ packet_verdict s → a ≡ b
judge-determined s a b ra rb = ra ∙ sym rb

pub read-determined : (s : List ℕ) (a b : Answer) → Reads s a → Reads s b → a ≡ b
read-determined s a b ra rb = ra ∙ sym rb

pub read-rows-determined : (s : List ℕ) (a b : List (List ℕ)) → ReadsRows s a → ReadsRows s b → a ≡ b
read-rows-determined s a b ra rb = ra ∙ sym rb

pub read-into-determined : (s : List ℕ) (lent : List (List ℕ)) (a : Answer) (exit : List (List ℕ)) (b : Answer) (end : List (List ℕ))
    → ReadsInto s lent a exit → ReadsInto s lent b end → (a ≡ b) × (exit ≡ end)
read-into-determined s lent a exit b end ra rb = (ra.answer ∙ sym rb.answer, ra.left ∙ sym rb.left)

pub judge-value-determined : (p : Packet) (rows : List (List ℕ)) (room : ℕ) (a b : Verdict)
    → a ≡ value_verdict (held p rows) room → b ≡ value_verdict (held p rows) room → a ≡ b
judge-value-determined p rows room a b ra rb = ra ∙ sym rb

pub write-determined : (p : Packet) (rows : List (List ℕ)) (out : List ℕ) (a : Written) (exit : List ℕ) (b : Written) (end : List ℕ)
    → Writes p rows out a exit → Writes p rows out b end → (a ≡ b) × (exit ≡ end)
write-determined p rows out a exit b end wa wb = wrote-determined _ _ _ _ _ wa.wrote b end wb.wrote
