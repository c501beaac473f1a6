use Rattle.sr_syntax.proofs.Steps.{no_tokens, one_token}
use Rattle.sr_syntax.proofs.lexemes.sorted.Goals as goal

pub loop-token-init : goal.loop-token-init
loop-token-init c = no_tokens c.args.text.now c.in_ok-found.found.items c.in_ok-found.ensures.items

pub loop-token-preserved : goal.loop-token-preserved
loop-token-preserved c =
    one_token c.args.text.now c.args.tokens.now c.loop-token.token-index _ c.loop-token.found.items c.push.new.self.items
    c.in_ok-lexeme_of.field-0 c.loop-token-test.true c.loop-token.invariant c.in_ok-lexeme_of.ensures c.in_ok-push.ensures.items
