-- What derives is read: names that are bound, and parameters.
use Rattle.std.proofs.Common.{◌≡◌, ℕ, suc, true, false, List, [], ◌∷◌, ◌++◌, Option, None, Some, refl, ap, ◌∙◌, arith, if◌then◌else◌}
use Rattle.sr_ast.specs.declared.binding.Binding.{Binding}
use Rattle.sr_ast.specs.declared.binding.Parameters.{Parameters}
use Rattle.sr_syntax.specs.declared.sorts.Sort.TheVariants as k
use Rattle.sr_syntax.specs.declared.sorts.Sort.{Sort}
use Rattle.sr_syntax.specs.declared.sorts.Lexeme.{Lexeme}
use Rattle.sr_syntax.specs.Sorts.{same_sort}
use Rattle.sr_syntax.specs.Input.{Parser, ◌>>=◌, and_then, pure, eat, expect, sees, sort, line_before, place, text, text_of, next}
use Rattle.sr_syntax.specs.Operators.{name}
use Rattle.sr_syntax.specs.Bodies.{binding, parameters_of, rest_parameter, parameters_from, parameters, parameter_list, no_parameters, one_parameter, arrow_token, arrow_parameter, arrow_parameters}
use Rattle.sr_syntax.specs.Statements.{catch_parameter}
use Rattle.sr_grammar.specs.Names.{binding_of, is_arrow, NamesWithCommas, no_names, one_more_name, Params, comma_before, name_before, rest_before, ArrowHead, one_name, in_parentheses, CatchParameter, no_parameter}
use Rattle.sr_grammar.specs.Names as g
use Rattle.sr_grammar.proofs.Steps.{inp}
use Rattle.sr_grammar.proofs.Completing.{is_sort, expect_goes}
use Rattle.sr_grammar.proofs.Taking.{Whatever, Moves, Takes, moves_then, moves_first, moves_on, moves_is, moves_when, moves_now, moves_expect, moves_eat, No, moves_over, Loops, loops_none, loops_more, loops_last}
use Rattle.sr_grammar.proofs.Sorts.{arrow_self, comma_self, ellipsis_no_right_parenthesis, ellipsis_self, identifier_no_ellipsis, identifier_no_left_parenthesis, identifier_no_right_parenthesis, identifier_self, left_parenthesis_no_identifier, left_parenthesis_self, right_parenthesis_no_comma, right_parenthesis_self}

-- a token of a sort is not of another one
pub other_sort : (t : Lexeme) (s v : Sort) → t.sort ≡ s → same_sort s v ≡ false → same_sort t.sort v ≡ false
other_sort t s v c o = ap (λ a. same_sort a v) c ∙ o

pub name_read : (t : Lexeme) → t.sort ≡ k.Identifier → Takes name (t ∷ []) 0 (text_of t.content) Whatever
unfolding name sees sort text next
name_read t c = moves_now (λ r l n q. rw (is_sort k.Identifier t.sort c identifier_self) refl)

pub binding_read : (t : Lexeme) → t.sort ≡ k.Identifier → Takes binding (t ∷ []) 0 (binding_of t) Whatever
unfolding binding name sees sort text next place
binding_read t c = moves_now (λ r l n q. rw (is_sort k.Identifier t.sort c identifier_self) refl)

-- ---- parameters

-- at a name
at_name : (m : ℕ) (xs : List Binding) (t : Lexeme) → t.sort ≡ k.Identifier
    → Moves (parameters_from (suc m) xs) (t ∷ []) 0 (eat k.Comma >>= (λ more. if more then parameters_from m (xs ++ binding_of t ∷ []) else (expect k.RightParenthesis >>= (λ u. pure (parameters_of (xs ++ binding_of t ∷ []) None))))) Whatever
unfolding parameters_from
at_name m xs t c =
    moves_first (moves_over k.RightParenthesis _ _) (λ r q. other_sort t k.Identifier k.RightParenthesis c identifier_no_right_parenthesis)
    (moves_first (moves_over k.Ellipsis _ _) (λ r q. other_sort t k.Identifier k.Ellipsis c identifier_no_ellipsis)
    (moves_on (binding_read t c) _))

names_read : {us : List Lexeme} {xs : List Binding} → NamesWithCommas us xs → Loops parameters_from us 0 [] xs Whatever
names_read no_names = loops_none parameters_from [] Whatever
names_read (one_more_name {us} {xs} w t c u e) =
    loops_more (names_read w) (λ r q. tt) (omega arith) (λ m. moves_then (at_name m xs t c) (λ r q. tt) (moves_eat k.Comma _ _ u e comma_self))

-- behind the last one
last_name : (m : ℕ) (xs : List Binding) (t u : Lexeme) → t.sort ≡ k.Identifier → u.sort ≡ k.RightParenthesis
    → Takes (parameters_from (suc m) xs) (t ∷ u ∷ []) 0 (parameters_of (xs ++ binding_of t ∷ []) None) Whatever
last_name m xs t u c e =
    moves_then (at_name m xs t c) (λ r q. tt) (moves_first (moves_over k.Comma _ _) (λ r q. other_sort u k.RightParenthesis k.Comma e right_parenthesis_no_comma) (moves_expect k.RightParenthesis u e right_parenthesis_self))

last_comma : (m : ℕ) (xs : List Binding) (u : Lexeme) → u.sort ≡ k.RightParenthesis → Takes (parameters_from (suc m) xs) (u ∷ []) 0 (parameters_of xs None) Whatever
unfolding parameters_from
last_comma m xs u c = moves_eat k.RightParenthesis _ _ u c right_parenthesis_self

last_rest : (m : ℕ) (xs : List Binding) (e t u : Lexeme) → e.sort ≡ k.Ellipsis → t.sort ≡ k.Identifier → u.sort ≡ k.RightParenthesis
    → Takes (parameters_from (suc m) xs) (e ∷ t ∷ u ∷ []) 0 (parameters_of xs (Some (binding_of t))) Whatever
unfolding parameters_from rest_parameter
last_rest m xs e t u c i p =
    moves_first (moves_over k.RightParenthesis _ _) (λ r q. other_sort e k.Ellipsis k.RightParenthesis c ellipsis_no_right_parenthesis)
    (moves_then (moves_eat k.Ellipsis _ _ e c ellipsis_self) (λ r q. tt)
    (moves_then (moves_on (binding_read t i) _) (λ r q. tt) (moves_expect k.RightParenthesis u p right_parenthesis_self)))

pub parameters_read : {us : List Lexeme} {ps : Parameters} → Params us ps → Takes parameters us 0 ps Whatever
unfolding parameters
parameters_read (comma_before {us} {xs} w u c) = loops_last (names_read w) (λ r q. tt) (λ m. last_comma m xs u c)
parameters_read (name_before {us} {xs} w t c u e) = loops_last (names_read w) (λ r q. tt) (λ m. last_name m xs t u c e)
parameters_read (rest_before {us} {xs} w e c t i u p) = loops_last (names_read w) (λ r q. tt) (λ m. last_rest m xs e t u c i p)

pub parameter_list_read : (t : Lexeme) {us : List Lexeme} {ps : Parameters} → t.sort ≡ k.LeftParenthesis → Params us ps → Takes parameter_list (t ∷ us) 0 ps Whatever
unfolding parameter_list
parameter_list_read t c w = moves_then (moves_expect k.LeftParenthesis t c left_parenthesis_self) (λ r q. tt) (parameters_read w)

pub no_parameters_read : (p q : Lexeme) → p.sort ≡ k.LeftParenthesis → q.sort ≡ k.RightParenthesis → {A : Type 0} (V : Parser A) → Moves (no_parameters >>= (λ u. V)) (p ∷ q ∷ []) 0 V Whatever
unfolding no_parameters next
no_parameters_read p q c e V = moves_now (λ r l n w. expect_twice r l n)
  where
    expect_twice : (r : List Lexeme) (l n : ℕ) → and_then (and_then (expect k.LeftParenthesis (inp (p ∷ q ∷ r) l n)) (λ u. expect k.RightParenthesis)) (λ u. V) ≡ V (inp r q.to n)
    expect_twice r l n =
        ap (λ o. and_then o (λ u. V)) (expect_goes k.LeftParenthesis p (q ∷ r) l n c left_parenthesis_self (λ u. expect k.RightParenthesis)) ∙ expect_goes k.RightParenthesis q r p.to n e right_parenthesis_self (λ u. V)

pub one_parameter_read : (t u v : Lexeme) → t.sort ≡ k.LeftParenthesis → u.sort ≡ k.Identifier → v.sort ≡ k.RightParenthesis → Takes one_parameter (t ∷ u ∷ v ∷ []) 0 (binding_of u) Whatever
unfolding one_parameter
one_parameter_read t u v c e p =
    moves_then (moves_expect k.LeftParenthesis t c left_parenthesis_self) (λ r q. tt) (moves_then (moves_on (binding_read u e) _) (λ r q. tt) (moves_expect k.RightParenthesis v p right_parenthesis_self))

pub catch_parameter_read : {us : List Lexeme} {p : Option Binding} → CatchParameter us p → Takes catch_parameter us 0 p (No k.LeftParenthesis)
unfolding catch_parameter sees sort
catch_parameter_read no_parameter = moves_now (λ r l n q. rw q refl)
catch_parameter_read (g.one_parameter t c u e v p) =
    moves_is (λ r l n q. rw (is_sort k.LeftParenthesis t.sort c left_parenthesis_self) refl) (moves_when (λ r q. tt) (moves_on (one_parameter_read t u v c e p) (λ x. pure (Some x))))

-- ---- the head of an arrow function

pub head_read : {us : List Lexeme} {ps : Parameters} → ArrowHead us ps → Takes arrow_parameters us 0 ps Whatever
unfolding arrow_parameters arrow_parameter sees sort
head_read (one_name t c a) =
    moves_is (λ r l n q. rw (other_sort t k.Identifier k.LeftParenthesis c identifier_no_left_parenthesis) refl) (moves_on (binding_read t c) (λ x. pure (parameters_of (x ∷ []) None)))
head_read (in_parentheses t c a w) = moves_is (λ r l n q. rw (is_sort k.LeftParenthesis t.sort c left_parenthesis_self) refl) (parameter_list_read t c w)

pub arrow_token_read : (t : Lexeme) → t.sort ≡ k.Arrow → t.line_before ≡ false → {A : Type 0} (V : Parser A) → Moves (arrow_token >>= (λ u. V)) (t ∷ []) 0 V Whatever
unfolding arrow_token sees sort line_before next
arrow_token_read t c e V = moves_now (λ r l n q. rw (is_sort k.Arrow t.sort c arrow_self) (rw e refl))

-- the head begins an arrow function
pub head_begins : {us : List Lexeme} {ps : Parameters} → ArrowHead us ps → (r : List Lexeme) → is_arrow (us ++ r) ≡ true
head_begins (one_name t c a) r = rw (is_sort k.Identifier t.sort c identifier_self) a
head_begins (in_parentheses t c a w) r = rw (other_sort t k.LeftParenthesis k.Identifier c left_parenthesis_no_identifier) (rw (is_sort k.LeftParenthesis t.sort c left_parenthesis_self) a)
