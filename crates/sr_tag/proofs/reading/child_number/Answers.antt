use Rattle.std.proofs.Common.{sym, ◌∙◌, subst}
use Rattle.std.specs.Str.Parse.{ParsesUnsigned}
use Rattle.sr_tag.proofs.Numbers.{first_in_range, IsUtf8-child_number, parsed_is_child_number, unparsed_is_no_child_number}
use Rattle.sr_tag.proofs.reading.child_number.Goals as goal

pub returns-then-not-begins_with_digit-clause-none :
    goal.returns-then-not-begins_with_digit-clause-none
returns-then-not-begins_with_digit-clause-none c =
    λ n p same. let first = first_in_range c.args.digits.now n p same in cc

pub returns-in_default-clause-none : goal.returns-in_default-clause-none
returns-in_default-clause-none c =
    λ n p same. c.in_default.ensures.cases.0 (IsUtf8-child_number c.args.digits.now n p same)

pub returns-in-Ok-parse-clause-some : goal.returns-in-Ok-parse-clause-some
returns-in-Ok-parse-clause-some c =
    let parses = subst (λ text. ParsesUnsigned 32 10 text c.parse.result) c.in-Ok.ensures.cases.0 c.parse.ensures.value.0 in
    parsed_is_child_number c.args.digits.now c.in-Ok-parse.number c.parse.result
    (sym c.begins_with_digit.ensures ∙ c.if-not-begins_with_digit.false) parses c.in-Ok-parse.is

pub returns-in-Err-clause-none : goal.returns-in-Err-clause-none
returns-in-Err-clause-none c =
    let parses = subst (λ text. ParsesUnsigned 32 10 text c.parse.result) c.in-Ok.ensures.cases.0 c.parse.ensures.value.0 in
    λ n p same. unparsed_is_no_child_number c.args.digits.now n c.parse.result c.in-Err.field-0 parses c.in-Err.is p same
