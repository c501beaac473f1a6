use Rattle.sr_syntax.specs.Grammar.{script_of}
use Rattle.sr_parse.proofs.Outcomes.{text_read, text_refused}
use Rattle.sr_parse.proofs.reading.parse_script.Goals as goal

pub returns : goal.returns
returns c =
    text_read script_of c.args.text.now c.in_ok-tokens.tokens.items c.deref.result.now c.parse_statements.result c.in_ok-tokens.ensures.tokens
    c.deref.ensures.value c.parse_statements.ensures

pub returns-in_err-tokens : goal.returns-in_err-tokens
returns-in_err-tokens c = text_refused script_of c.args.text.now c.in_err-tokens.field-0.0 c.from_residual.result c.in_err-tokens.ensures.refused c.from_residual.ensures
