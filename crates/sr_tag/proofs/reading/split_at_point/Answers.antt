use Rattle.std.proofs.Common.{sym, subst}
use Rattle.std.proofs.lemmas.List.{take_rest, take_all}
use Rattle.sr_tag.specs.Steps.{HasNoPoint}
use Rattle.sr_tag.proofs.Texts.{no_point_before, boundary_at, position-some, position-none}
use Rattle.sr_tag.proofs.reading.split_at_point.Goals as goal

pub returns-in-Some-clause-no_point : goal.returns-in-Some-clause-no_point
returns-in-Some-clause-no_point c =
    rw (position-some c.args.text.now c.in-Some.at (sym c.in-Some.ensures.value)) (no_point_before c.args.text.now)

pub returns-in-Some-clause-boundary : goal.returns-in-Some-clause-boundary
returns-in-Some-clause-boundary c =
    rw (take_rest c.args.text.now c.in-Some.at, position-some c.args.text.now c.in-Some.at (sym c.in-Some.ensures.value))
    (boundary_at c.args.text.now)

pub returns-in-None-clause-no_point : goal.returns-in-None-clause-no_point
returns-in-None-clause-no_point c =
    subst HasNoPoint (take_all _ c.args.text.now (position-none c.args.text.now (sym c.in-None.ensures.value)))
    (no_point_before c.args.text.now)
