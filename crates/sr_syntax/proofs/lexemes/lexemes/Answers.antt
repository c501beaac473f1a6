use Rattle.sr_syntax.proofs.Aheads.{all_ahead}
use Rattle.sr_syntax.proofs.lexemes.lexemes.Goals as goal

pub returns : goal.returns
returns c =
    all_ahead c.args.text.now c.args.tokens.now c.in_ok-found.found.items c.deref_mut.result.now c.look_ahead.new.lexemes c.in_ok-found.found.len
    c.in_ok-found.found.ok.0 c.deref_mut.ensures.value c.in_ok-look_ahead.ensures c.in_ok-found.ensures
