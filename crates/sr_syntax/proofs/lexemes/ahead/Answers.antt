use Rattle.std.proofs.Common.{sym, ◌∙◌}
use Rattle.std.proofs.lemmas.List.{nil_from_length}
use Rattle.sr_syntax.proofs.Closings.{closed, not_closed}
use Rattle.sr_syntax.proofs.lexemes.ahead.Goals as goal

pub returns-in-Some : goal.returns-in-Some
returns-in-Some c ss before = closed ss c.args.closed.now.items c.pop.new.self.items c.args.next c.in-Some.behind c.args.sort before c.in-Some.ensures.items c.in-LeftParenthesis.is

pub returns-in-None : goal.returns-in-None
returns-in-None c ss before =
    not_closed ss c.args.closed.now.items c.pop.new.self.items c.args.next c.args.sort before
    (nil_from_length _ (sym c.args.closed.now.ok.0 ∙ c.in-None.ensures.cases.0)) (nil_from_length _ (sym c.pop.new.self.ok.0 ∙ c.in-None.ensures.cases.1)) c.in-LeftParenthesis.is
