-- A name that is there is found as before; one that is not there is found at its place from now on.
use Rattle.std.proofs.Common.{ap, sym, ◌∙◌}
use Rattle.std.specs.Prelude.{is_some}
use Rattle.indexmap.specs.IndexMap.{get}
use Rattle.sr_names.specs.Scopes.{same_name}
use Rattle.sr_names.proofs.Tables.{there, added}
use Rattle.sr_names.proofs.scopes.put_first.Goals as goal

pub returns-then-is_some-clause-finds : goal.returns-then-is_some-clause-finds
returns-then-is_some-clause-finds c names finds =
    there (λ x. get same_name c.args.places.now x) names c.args.name.now finds (ap is_some (sym c.find.ensures) ∙ sym c.is_some.ensures ∙ c.if-is_some.true)

pub returns-clause-finds : goal.returns-clause-finds
returns-clause-finds c names finds =
    let u = c.in_ok-insert.ensures.updates in
    added (λ x. get same_name c.args.places.now x) (λ x. get same_name c.insert.new.self x) names c.args.name.now c.in_ok-clone.field-0 finds
    (ap is_some (sym c.find.ensures) ∙ sym c.is_some.ensures ∙ c.if-is_some.false) c.in_ok-clone.ensures.cases u.0
