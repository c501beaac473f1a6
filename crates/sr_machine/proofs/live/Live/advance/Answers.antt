use Rattle.std.proofs.Common.{refl, sym, ap}
use Rattle.sr_machine.specs.Running.{Running}
use Rattle.sr_machine.proofs.Advances.{at_going, at_ended, at_printed, at_broken, at_stopped}
use Rattle.sr_machine.proofs.live.Live.advance.Goals as goal

pub returns-in-Ok-Going-clause-going : goal.returns-in-Ok-Going-clause-going
returns-in-Ok-Going-clause-going g c = λ e.
    at_going c.args.self.now.held c.self.inside.state c.step.new.state c.in-Ok-Going.field-0 (sym (ap (λ (r : Running). r.held) c.self.view_is)) c.in-Ok-Going.ensures.steps
    (g.O.Sink.written c.args.out.now) c.in-Ok-Going.field-0-is

pub returns-in-Ok-Ended-clause-going : goal.returns-in-Ok-Ended-clause-going
returns-in-Ok-Ended-clause-going g c = λ e.
    at_ended c.args.self.now.held c.self.inside.state c.step.new.state c.in-Ok-Ended.field-0 (sym (ap (λ (r : Running). r.held) c.self.view_is)) c.in-Ok-Ended.ensures.steps
    c.pop.new.self (g.O.Sink.written c.args.out.now) c.in-Ok-Ended.field-0-is c.pop.ensures

pub returns-in-Ok-Print-clause-going : goal.returns-in-Ok-Print-clause-going
returns-in-Ok-Print-clause-going g c = λ e. let h = c.print.ensures.going e in
    at_printed c.args.self.now.held c.self.inside.state c.step.new.state c.in-Ok-Print.field-0 (sym (ap (λ (r : Running). r.held) c.self.view_is)) c.in-Ok-Print.ensures.steps
    c.in-Ok-Print.text c.print.new.self.held (g.O.Sink.written c.args.out.now) (g.O.Sink.written c.print.new.out) c.in-Ok-Print.field-0-is (ap (λ (r : Running). r.held) h.0) h.1

pub returns-in-Ok-Print-clause-write : goal.returns-in-Ok-Print-clause-write
returns-in-Ok-Print-clause-write g c = λ e none.
    at_broken c.args.self.now.held c.self.inside.state c.step.new.state c.in-Ok-Print.field-0 (sym (ap (λ (r : Running). r.held) c.self.view_is)) c.in-Ok-Print.ensures.steps
    c.in-Ok-Print.text (g.O.Sink.written c.args.out.now) (g.O.Sink.written c.print.new.out) c.in-Ok-Print.field-0-is (c.print.ensures.write e).0

pub returns-in-Ok-Halt-clause-stop : goal.returns-in-Ok-Halt-clause-stop
returns-in-Ok-Halt-clause-stop g c = λ none s e.
    at_stopped c.args.self.now.held c.self.inside.state c.step.new.state c.in-Ok-Halt.field-0 (sym (ap (λ (r : Running). r.held) c.self.view_is)) c.in-Ok-Halt.ensures.steps
    c.in-Ok-Halt.name c.last_source.result c.last_at.result s c.end_by-in-Ok-Halt.result c.step.new.state c.in-Ok-Halt.field-0-is (c.last_source.ensures, c.last_at.ensures) c.end_by-in-Ok-Halt.ensures.answer e refl
