use Rattle.std.proofs.Common.{◌≡◌, ◌++◌, drop, map}
use Rattle.sr_unit.specs.Numbers.{each, numbered}
use Rattle.sr_unit.specs.Parts.{element_numbered, property_numbered, case_numbered, declaration_numbered}
use Rattle.sr_unit.proofs.numbers.+numbers.Given as goal

abbrev pub invariant-trees-loop-one : goal.invariant-trees-loop-one
invariant-trees-loop-one l =
    (l.copies ++ (each (map numbered (drop l.one-index l.trees)) l.next).0 ≡ (each (map numbered l.trees) l.initial.next).0)
    × ((each (map numbered (drop l.one-index l.trees)) l.next).1 ≡ (each (map numbered l.trees) l.initial.next).1)

abbrev pub invariant-elements-loop-one : goal.invariant-elements-loop-one
invariant-elements-loop-one l =
    (l.copies ++ (each (map element_numbered (drop l.one-index l.elements)) l.next).0 ≡ (each (map element_numbered l.elements) l.initial.next).0)
    × ((each (map element_numbered (drop l.one-index l.elements)) l.next).1 ≡ (each (map element_numbered l.elements) l.initial.next).1)

abbrev pub invariant-properties-loop-one : goal.invariant-properties-loop-one
invariant-properties-loop-one l =
    (l.copies ++ (each (map property_numbered (drop l.one-index l.properties)) l.next).0 ≡ (each (map property_numbered l.properties) l.initial.next).0)
    × ((each (map property_numbered (drop l.one-index l.properties)) l.next).1 ≡ (each (map property_numbered l.properties) l.initial.next).1)

abbrev pub invariant-cases-loop-one : goal.invariant-cases-loop-one
invariant-cases-loop-one l =
    (l.copies ++ (each (map case_numbered (drop l.one-index l.cases)) l.next).0 ≡ (each (map case_numbered l.cases) l.initial.next).0)
    × ((each (map case_numbered (drop l.one-index l.cases)) l.next).1 ≡ (each (map case_numbered l.cases) l.initial.next).1)

abbrev pub invariant-declarations-loop-one : goal.invariant-declarations-loop-one
invariant-declarations-loop-one l =
    (l.copies ++ (each (map declaration_numbered (drop l.one-index l.declarations)) l.next).0 ≡ (each (map declaration_numbered l.declarations) l.initial.next).0)
    × ((each (map declaration_numbered (drop l.one-index l.declarations)) l.next).1 ≡ (each (map declaration_numbered l.declarations) l.initial.next).1)
