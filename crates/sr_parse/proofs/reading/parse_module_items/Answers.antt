use Rattle.sr_parse.proofs.Outcomes.{module_read}
use Rattle.sr_parse.proofs.reading.parse_module_items.Goals as goal

pub returns : goal.returns
returns c =
    module_read c.args.text.now c.units.result.now c.args.tokens.now c.in_ok-lexemes.lexemes.items c.deref.result.now
    c.new.result c.module_items.new.tokens c.module_items.result c.in_ok-lexemes.ensures c.deref.ensures.value c.units.ensures.value c.new.ensures c.module_items.ensures
