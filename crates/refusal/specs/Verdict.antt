-- RULES, "Order of checks": what the checks of one call found. The first that refuses gives the reason, and the item that
-- failed.
use Rattle.std.specs.Prelude.{Result, Ok, Err, ⊤}
use Rattle.refusal.specs.declared.Reason.{Reason}
use Rattle.refusal.specs.declared.Item.{Item}

abbrev pub Verdict : Type 0
Verdict = Result ⊤ (Reason × Item)

pattern abbrev pub Accepted : Verdict
Accepted = Ok tt

pattern abbrev pub Refused : Reason → Item → Verdict
Refused reason item = Err ((reason, item))
