use Rattle.object_cases.proofs.cells.descriptor.Goals as goal

pub returns : goal.returns
returns c = λ e. record {
  value = c.in_ok-value_field.ensures e;
  get = c.in_ok-value_field-2.ensures e;
  set = c.in_ok-value_field-3.ensures e;
}
