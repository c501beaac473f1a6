use Rattle.sr_heap.proofs.descriptors.changed_property.Goals as goal

pub returns-then-is_accessor-clause-live : goal.returns-then-is_accessor-clause-live
returns-then-is_accessor-clause-live c = λ e given there. c.accessor_property.ensures.live e given

pub returns-then-is_data-clause-live : goal.returns-then-is_data-clause-live
returns-then-is_data-clause-live c = λ e given there. c.data_property.ensures.live e given
