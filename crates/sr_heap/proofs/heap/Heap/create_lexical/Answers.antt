use Rattle.sr_heap.specs.Records.{extent_of}
use Rattle.sr_heap.proofs.Inside.{parts}
use Rattle.sr_heap.proofs.heap.Heap.create_lexical.Goals as goal

pub invariant_of-self : goal.invariant_of-self
invariant_of-self g c = record {
  objects = c.self.invariant.objects;
  environments = c.self.invariant.environments;
  lexical = c.create.ensures.live (extent_of (parts c.self.inside)) c.self.invariant.lexical;
}
