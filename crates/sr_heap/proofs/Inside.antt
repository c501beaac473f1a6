-- The parts of a heap, as its proofs are given them.
use Rattle.std.specs.Map.{keys_of}
use Rattle.sr_heap.specs.declared.heap.Heap.TheInside.{Inside}
use Rattle.sr_heap.specs.Records.{Parts}

abbrev pub parts : {C B : Type 0} → Inside C B → Parts C B
parts h = record {
  tag = h.tag;
  objects = h.objects.items;
  environments = h.environments.items;
  sources = h.sources;
  lexical = h.lexical;
  var_names = keys_of h.var_names;
}
