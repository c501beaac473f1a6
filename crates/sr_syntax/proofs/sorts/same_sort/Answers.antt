use Rattle.std.proofs.Common.{rules, sym, ◌∙◌}
use denote.Enum.Bare.{same_true}
use Rattle.sr_syntax.specs.contracts.sorts.Sort.{the_type}
use Rattle.sr_syntax.specs.Sorts.{same_sort}
use Rattle.sr_syntax.proofs.sorts.same_sort.Goals as goal

pub returns-clause-value : goal.returns-clause-value
unfolding same_sort
returns-clause-value c = search rules

pub returns-clause-same : goal.returns-clause-same
returns-clause-same c is = same_true the_type (search rules) _ _ (sym c.eq.ensures ∙ is)
