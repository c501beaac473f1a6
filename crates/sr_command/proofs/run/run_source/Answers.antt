use Rattle.std.proofs.Common.{◌≡◌, ℕ, List, length, ap, ◌∙◌}
use Rattle.sr_ast.specs.declared.reading.SourceCode.{SourceCode}
use Rattle.sr_state.specs.declared.frame.Source.{Source}
use Rattle.sr_machine.specs.Running.{Running, opened, giving, given, source_as}
use Rattle.sr_command.proofs.run.run_source.Goals as goal

-- a source of a text that is given to a run
given_of : (bound : ℕ) (s : SourceCode) (text copy : List ℕ) (before after : Running) → s.units ≡ length text → copy ≡ text → before ≡ opened bound →
    (let x : Source = record { text = copy; code = s } in after ≡ giving x before) → after ≡ given bound (source_as (λ _. s.reading) text)
given_of bound s text copy before after units same opens gives =
    gives ∙ ap (λ (r : Running). let x : Source = record { text = copy; code = s } in giving x r) opens
    ∙ (λ i. let x : Source = record { text = same i; code = record { reading = s.reading; units = units i } } in given bound x)

pub run_to_end-requires : goal.run_to_end-requires
run_to_end-requires g c =
    (c.args.text.now, c.args.code.reading, given_of c.args.asked.bound c.args.code c.args.text.now _ _ _ c.requires c.in_ok-copy.ensures.cases c.in_ok-live.ensures c.give_source.ensures)

pub returns-clause-reaches : goal.returns-clause-reaches
returns-clause-reaches g c =
    c.run_to_end.ensures.reaches c.args.text.now c.args.code.reading
    (given_of c.args.asked.bound c.args.code c.args.text.now _ _ _ c.requires c.in_ok-copy.ensures.cases c.in_ok-live.ensures c.give_source.ensures)
