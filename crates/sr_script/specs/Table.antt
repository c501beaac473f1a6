-- Names in memory.
use Rattle.std.specs.Prelude.{◌≡◌, ℕ, List, [], ◌∷◌}
use denote.Ref.{Bor}
use Rattle.sr_script.specs.Names.{Names}
use Rattle.sr_script.specs.Form.{is_one_of}

-- a table in memory
abbrev pub table_of : List (Bor (List ℕ)) → Names
table_of [] = []
table_of (text ∷ texts) = text.now ∷ table_of texts

-- the same names stand in both lists, if not as often
abbrev pub SameNames : Names → Names → Type 0
SameNames some others = (x : List ℕ) → is_one_of some x ≡ is_one_of others x
