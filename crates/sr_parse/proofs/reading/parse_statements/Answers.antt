use Rattle.sr_parse.proofs.Outcomes.{statements_read}
use Rattle.sr_parse.proofs.reading.parse_statements.Goals as goal

pub returns : goal.returns
returns c =
    statements_read c.args.text.now c.units.result.now c.args.tokens.now c.in_ok-lexemes.lexemes.items c.deref.result.now
    c.new.result c.script.new.tokens c.script.result c.in_ok-lexemes.ensures c.deref.ensures.value c.units.ensures.value c.new.ensures c.script.ensures
