use Rattle.std.proofs.Common.{refl, sym, ◌∙◌, [], inl}
use Rattle.sr_command.specs.Runs.{words_refused, name_not_built}
use Rattle.sr_command.proofs.Ended.{file_reached}
use Rattle.sr_command.proofs.top.run_words.Goals as goal

pub returns-in_default-clause-reaches : goal.returns-in_default-clause-reaches
returns-in_default-clause-reaches g c =
    inl (record { answers = []; gave = refl; course = _; runs = words_refused (sym c.in_default.ensures) }, c.end_with.ensures.comes _)

pub returns-then-is_unbuilt-clause-reaches : goal.returns-then-is_unbuilt-clause-reaches
returns-then-is_unbuilt-clause-reaches g c =
    inl (record { answers = []; gave = refl; course = _; runs = name_not_built (sym c.in-Some.ensures) (sym c.is_unbuilt.ensures ∙ c.if-is_unbuilt.true) }, c.end_not_built.ensures.comes _)

pub returns-clause-reaches : goal.returns-clause-reaches
returns-clause-reaches g c = file_reached _ _ _ _ _ _ _ (sym c.in-Some.ensures) (sym c.is_unbuilt.ensures ∙ c.if-is_unbuilt.false) c.run_file.ensures.reaches
