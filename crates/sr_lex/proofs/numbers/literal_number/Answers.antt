use Rattle.std.proofs.Common.{◌≡◌, ◌≤◌, ℕ, List, Some, sym, ap, ◌∙◌, subst, arith}
use Rattle.std.specs.Prelude.{pos}
use Rattle.sr_lex.specs.Numbers.{IsNumber, NumberLiteral}
use Rattle.sr_lex.specs.Scan.{number_value}
use Rattle.sr_lex.proofs.NumberLaws.{literal_read}
use Rattle.sr_lex.proofs.numbers.literal_number.Goals as goal

-- the value that is read is the literal's
read_is : (us : List ℕ) (v : ℕ) → IsNumber us → number_value us ≡ Some v → (v ≤ 9007199254740991) × NumberLiteral us (Some (pos v))
read_is us v l e =
    let r = literal_read l.1 in
    let both : Some r.0 ≡ Some v = sym r.1 ∙ e in
    let same : r.0 ≡ v = cc in
    let most = r.2 in
    (omega arith, subst (NumberLiteral us) (r.3 ∙ ap (λ (n : ℕ). Some (pos n)) same) l.1)

pub unreachable-requires : goal.unreachable-requires
unreachable-requires c = let r = literal_read c.requires.1 in let e : _ ≡ Some r.0 = sym c.in-None.is ∙ c.number_value.ensures ∙ r.1 in cc

pub safe_number-requires : goal.safe_number-requires
safe_number-requires c = (read_is c.args.literal.now c.in-Some.value c.requires (sym c.number_value.ensures ∙ c.in-Some.is)).0

pub returns : goal.returns
returns c = subst (NumberLiteral c.args.literal.now) (sym c.safe_number.ensures) (read_is c.args.literal.now c.in-Some.value c.requires (sym c.number_value.ensures ∙ c.in-Some.is)).1
