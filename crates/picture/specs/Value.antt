-- A picture area's value, when it is legal, and its bytes, for each kind of caption unit. RULES, "Picture area", "GA94"
-- and "Demands", D-3: foreign units and at most one caption unit of the kind, in order. The layout is from the value
-- alone.
use Rattle.std.specs.Prelude.{ℕ, ◌≤◌, ◌≡◌, false, List, [], ◌∷◌, ◌++◌, length}
use Rattle.lists.specs.Each.{Each}
use Rattle.lists.specs.Bytes.{Bytes}
use Rattle.kind.specs.declared.Kind.{Kind}
use Rattle.kind.specs.Ours.{ours}
use Rattle.units.specs.Layout as units
use Rattle.picture.specs.Kinds.{Content, LegalContent, body_of}

-- the bodies of foreign units alone; or those before a caption unit, its value, and those after it
pub data Area (k : Kind) : Type 0 where
  uncaptioned : List (List ℕ) → Area k
  captioned : List (List ℕ) → Content k → List (List ℕ) → Area k

-- the bodies of all units, in order
abbrev pub bodies : (k : Kind) → Area k → List (List ℕ)
bodies k (uncaptioned foreign) = foreign
bodies k (captioned before c after) = before ++ (body_of k c ∷ after)

abbrev pub layout : (k : Kind) → Area k → List ℕ
layout k v = units.layout (bodies k v)

-- the body of a unit that is not of the kind: any bytes in which no start code appears
pub record Foreign (k : Kind) (s : List ℕ) : Type 0 where
  pub bytes : Bytes s
  pub clean : units.Clean s
  pub other : ours k s ≡ false

abbrev pub LegalBodies : (k : Kind) → Area k → Type 0
LegalBodies k (uncaptioned foreign) = Each (Foreign k) foreign
LegalBodies k (captioned before c after) = Each (Foreign k) before × LegalContent k c × Each (Foreign k) after

-- 0 to 16,384 bytes
pub record Legal (k : Kind) (v : Area k) : Type 0 where
  pub units : LegalBodies k v
  pub short : length (layout k v) ≤ 16384

-- the area with another caption unit: in the place of the one that stands there, or behind all units where none does
abbrev pub replaced : (k : Kind) → Area k → Content k → Area k
replaced k (uncaptioned foreign) c = captioned foreign c []
replaced k (captioned before old after) c = captioned before c after

-- the bodies of the foreign units, in order
abbrev pub foreign_of : (k : Kind) → Area k → List (List ℕ)
foreign_of k (uncaptioned foreign) = foreign
foreign_of k (captioned before c after) = before ++ after
