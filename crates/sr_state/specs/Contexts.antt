-- Contexts of the code as plain data.
use Rattle.sr_heap.specs.Plain.{scope_of}
use Rattle.sr_model.specs.Tasks as model
use Rattle.sr_state.specs.declared.frame.Context.{Context}

abbrev pub context_of : Context → model.Context
context_of c = record { source = c.source; environment = scope_of c.environment; strict = c.strict }
