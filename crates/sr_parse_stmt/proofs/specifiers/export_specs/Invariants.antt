use Rattle.std.proofs.Common.{◌≡◌, ◌-◌}
use Rattle.sr_syntax.specs.Modules.{export_specs, export_specs_from}
use Rattle.sr_parse_stmt.proofs.specifiers.export_specs.Given as goal

abbrev pub invariant-loop-turn : goal.invariant-loop-turn
invariant-loop-turn l = export_specs l.fn.tokens ≡ export_specs_from (l._turn-end - l._turn) l.found l.all_names l.tokens
