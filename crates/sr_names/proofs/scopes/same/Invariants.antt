use Rattle.std.proofs.Common.{◌≡◌, [], ◌∷◌, ◌++◌, drop}
use Rattle.sr_names.specs.Scopes.{among}
use Rattle.sr_names.proofs.scopes.same.Given as goal

abbrev pub invariant-loop-other : goal.invariant-loop-other
invariant-loop-other l = l.places ++ among (l.name ∷ []) (drop l.other-index l.names) ≡ l.initial.places ++ among (l.name ∷ []) l.names
