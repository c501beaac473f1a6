use Rattle.std.proofs.Common.{◌≡◌, ◌+◌, drop, sym, subst}
use Rattle.std.specs.Prelude.{IfSome}
use Rattle.std.proofs.lemmas.List.{take_rest}
use Rattle.sr_lex.specs.Tokens.{IsTokenOf}
use Rattle.sr_marker.specs.Tokens.{first}
use Rattle.sr_marker.proofs.Firsts.{first_one}
use Rattle.sr_marker.proofs.tokens.token_marker.Goals as goal

pub marker_of-requires-clause-after : goal.marker_of-requires-clause-after
marker_of-requires-clause-after c =
    let is : c.first.result ≡ first (drop (c.loop-i.i + 1) c.args.tokens.now) = rw take_rest at c.first.ensures in
    subst (λ o. IfSome o (IsTokenOf c.args.text.now)) (sym is) (first_one (IsTokenOf c.args.text.now) (c.loop-i.i + 1) c.args.tokens.now c.requires)
