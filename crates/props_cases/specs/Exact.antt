-- Keys of the cases that are equal are one.
use Rattle.std.specs.Prelude.{◌≡◌, true}
use Rattle.std.proofs.Common.{ap, sym, true≢false, eqb-true}
use Rattle.std.proofs.lemmas.Slice.Eq.{bytes_eq-Decides}
use Rattle.props_cases.specs.declared.key.CaseKey.{CaseKey}
use Rattle.props_cases.specs.declared.key.CaseKey.TheVariants as key
use Rattle.props_cases.specs.contracts.key.CaseKeyPartialEq.TheImpl as key_eq

pub exact_key : (a b : CaseKey) → key_eq.ghosts.eq a b ≡ true → a ≡ b
exact_key (key.Text s) (key.Text t) e = ap key.Text ((bytes_eq-Decides s t).0 e)
exact_key (key.Symbol m) (key.Symbol n) e = ap key.Symbol (eqb-true m n e)
exact_key (key.Text s) (key.Symbol n) e = absurd (true≢false (sym e))
exact_key (key.Symbol m) (key.Text t) e = absurd (true≢false (sym e))
