-- Names that may not stand beside one another (ECMA-262 14.2.1, 14.12.1, 15.2.1, 16.1.1, 16.2.1.1).
use Rattle.std.specs.Prelude.{ℕ, max, ◌==◌, Bool, if◌then◌else◌, List, [], ◌∷◌, ◌++◌, Option, None, Some, is_some, is_none}
use Rattle.std.specs.Cmp.Lexicographic.{pointwise}
use Rattle.sr_names.specs.Names.{Names}
use Rattle.sr_names.specs.Strictness.{place_if}

abbrev pub same_name : List ℕ → List ℕ → Bool
same_name x y = pointwise ◌==◌ x y

-- the place of the first of these names that is x
abbrev pub place_of : Names → List ℕ → Option ℕ
place_of [] x = None
place_of (b ∷ bs) x = if same_name x b.name then Some b.from else place_of bs x

-- the places of the names that are among the earlier ones, and of those that one before them equals
abbrev pub repeated : Names → Names → List ℕ
repeated earlier [] = []
repeated earlier (b ∷ bs) = place_if (is_some (place_of earlier b.name)) b.from ++ repeated (earlier ++ b ∷ []) bs

-- the places of names that are among the earlier ones
abbrev pub among : Names → Names → List ℕ
among earlier [] = []
among earlier (b ∷ bs) = place_if (is_some (place_of earlier b.name)) b.from ++ among earlier bs

-- the places of names that are not among the others
abbrev pub missing : Names → Names → List ℕ
missing others [] = []
missing others (b ∷ bs) = place_if (is_none (place_of others b.name)) b.from ++ missing others bs

-- a name that is declared lexically and by `var`: the later one of the two
abbrev pub later : Option ℕ → ℕ → List ℕ
later None at = []
later (Some other) at = max other at ∷ []

abbrev pub clashes : Names → Names → List ℕ
clashes lexical [] = []
clashes lexical (b ∷ bs) = later (place_of lexical b.name) b.from ++ clashes lexical bs

-- a scope with these names that it declares lexically, and those that are declared in it by `var`
abbrev pub scope_faults : Names → Names → List ℕ
scope_faults lexical by_var = repeated [] lexical ++ clashes lexical by_var

-- the names that a loop declares for its body: no `var` in it declares one (14.7.4.1, 14.7.5.1)
abbrev pub loop_faults : Names → Names → List ℕ
loop_faults names by_var = repeated [] names ++ among names by_var
