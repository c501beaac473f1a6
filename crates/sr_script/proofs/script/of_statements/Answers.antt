use Rattle.sr_script.proofs.Built.{has_body, has_no_form, has_directive}
use Rattle.std.proofs.Common.{sym, ◌∙◌}
use Rattle.sr_script.proofs.script.of_statements.Goals as goal

pub returns-in_ok-script-clause-script : goal.returns-in_ok-script-clause-script
returns-in_ok-script-clause-script c =
    has_body c.args.tokens.now c.args.body c.as_slice.result.now c.as_slice-2.result.now c.in_ok-names.names c.into_list.result c.script_fits.result c.in_ok-script.script
    (sym c.begins_with_string.ensures ∙ c.if-begins_with_string.false)
    c.as_slice.ensures c.in_ok-names.ensures c.as_slice-2.ensures c.script_fits.ensures c.if-script_fits.true c.into_list.ensures c.in_ok-script.ensures

pub returns-else-script_fits-clause-no_script : goal.returns-else-script_fits-clause-no_script
returns-else-script_fits-clause-no_script c =
    has_no_form c.args.tokens.now c.args.body c.as_slice.result.now c.as_slice-2.result.now c.in_ok-names.names c.script_fits.result
    c.as_slice.ensures c.in_ok-names.ensures c.as_slice-2.ensures c.script_fits.ensures c.if-script_fits.false

pub returns-then-begins_with_string-clause-no_script : goal.returns-then-begins_with_string-clause-no_script
returns-then-begins_with_string-clause-no_script c =
    has_directive c.args.tokens.now c.args.body c.begins_with_string.result c.begins_with_string.ensures c.if-begins_with_string.true
