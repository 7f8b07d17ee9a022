-- What one slot sends: an access unit, or nothing.
use Rattle.std.specs.Prelude.{Option, Some, None}
use Rattle.line21.specs.declared.AccessUnit.{AccessUnit}

abbrev pub Gone : Type 0
Gone = Option AccessUnit

pattern abbrev pub Nothing : Gone
Nothing = None

pattern abbrev pub Unit : AccessUnit → Gone
Unit unit = Some unit
