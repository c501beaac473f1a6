use Rattle.std.proofs.Common.{◌≡◌, ◌≢◌, get_or, sym, ◌∙◌, arith}
use Rattle.std.proofs.lemmas.Grind.{common_steps}
use Rattle.sr_text.proofs.IndexKeys.{lone_zero, few_digits, digits_of_key, same_from_digits}
use Rattle.sr_text.proofs.numerals.index_of.Goals as goal

pub returns-else-units-eq1-clause-none : goal.returns-else-units-eq1-clause-none
returns-else-units-eq1-clause-none c = λ n key.
    let first : get_or c.args.units.now 0 0 ≡ 48 = grind (arith, common_steps) in
    let alone = lone_zero _ n key first in
    absurd (omega arith)

pub returns-then-units-gt-INDEX_DIGITS-clause-none : goal.returns-then-units-gt-INDEX_DIGITS-clause-none
returns-then-units-gt-INDEX_DIGITS-clause-none c = λ n key. let few = few_digits _ n key in absurd (omega arith)

pub returns-in_err-value-clause-none : goal.returns-in_err-value-clause-none
returns-in_err-value-clause-none c =
    let first : get_or c.args.units.now 0 0 ≢ 48 = grind (arith, common_steps) in
    rw c.from_residual-in_err-value.ensures (λ n key. c.in_err-value.ensures.none n (digits_of_key _ n key first))

pub returns-else-value-clause-none : goal.returns-else-value-clause-none
returns-else-value-clause-none c = λ n key.
    let first : get_or c.args.units.now 0 0 ≢ 48 = grind (arith, common_steps) in
    let same = same_from_digits n c.in_ok-value.value (digits_of_key _ n key first ∙ sym c.in_ok-value.ensures.value) in
    let within = key.within in
    absurd (omega arith)
