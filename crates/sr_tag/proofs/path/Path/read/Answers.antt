use Rattle.std.proofs.Common.{arith, ◌∙◌}
use Rattle.std.proofs.lemmas.Result.{err_from_is_err_and}
use Rattle.sr_tag.proofs.Progress.{the_path, not_long}
use Rattle.sr_tag.proofs.path.Path.read.Goals as goal

pub returns-in_err-of_numbers-clause-too_long : goal.returns-in_err-of_numbers-clause-too_long
returns-in_err-of_numbers-clause-too_long c =
    let p = err_from_is_err_and c.from_residual.result c.from_residual.ensures.1 in
    rw (p.1, p.2)
    (λ too_long. absurd (let never : ⊥ = cc in never), λ long. absurd (not_long c.args.text.now c.read_numbers.new.numbers c.in-Some.count c.in-Some.ensures.some (omega arith) long))

pub returns-clause-only : goal.returns-clause-only
returns-clause-only c = λ p path same.
    c.in_ok-of_numbers.ensures
    ∙ the_path c.args.text.now c.read_numbers.new.numbers p c.in-Some.count c.in-Some.ensures.some (omega arith) path same

pub returns-clause-too_long : goal.returns-clause-too_long
returns-clause-too_long c =
    (λ too_long. absurd (let never : ⊥ = cc in never), λ long. absurd (not_long c.args.text.now c.read_numbers.new.numbers c.in-Some.count c.in-Some.ensures.some (omega arith) long))
