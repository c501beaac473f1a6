use Rattle.std.proofs.Common.{◌≡◌, ◌-◌}
use Rattle.sr_syntax.specs.Modules.{import_names, import_names_from}
use Rattle.sr_parse_stmt.proofs.specifiers.import_names.Given as goal

abbrev pub invariant-loop-turn : goal.invariant-loop-turn
invariant-loop-turn l = import_names l.fn.tokens ≡ import_names_from (l._turn-end - l._turn) l.found l.tokens
