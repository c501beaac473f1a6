use Rattle.std.proofs.Common.{◌≡◌, true, sym}
use Rattle.sr_command.specs.Words.{is_numeral}
use Rattle.sr_command.proofs.Asked.{no_bound}
use Rattle.sr_command.proofs.words.bound_of.Goals as goal

pub returns-in_default-3 : goal.returns-in_default-3
returns-in_default-3 c =
    let numeral : is_numeral c.args.word.now ≡ true = rw (← c.as_bytes.ensures.value) (cc) in
    sym (no_bound c.args.word.now c.in_default.field-0 numeral c.in_default.ensures.value.0)
