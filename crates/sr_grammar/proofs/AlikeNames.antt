-- Names, parameters and keys are read alike.
use Rattle.std.proofs.Common.{ℕ, zero, suc, Bool, true, false, List, [], ◌∷◌, ◌++◌, None, Some, refl, not, ◌&&◌}
use Rattle.sr_ast.specs.declared.binding.Binding.{Binding}
use Rattle.sr_ast.specs.declared.binding.PropertyName.TheVariants as property_name
use Rattle.sr_ast.specs.declared.operators.Link.{Link}
use Rattle.sr_ast.specs.declared.tree.Node.TheVariants as node
use Rattle.sr_syntax.specs.declared.sorts.Sort.{Sort}
use Rattle.sr_syntax.specs.declared.sorts.Sort.TheVariants as k
use Rattle.sr_syntax.specs.declared.grown.Grown.{Grown}
use Rattle.sr_syntax.specs.Sorts.{same_sort}
use Rattle.sr_syntax.specs.Input.{Parser, sort, text, number, sees, sees_word, line_before, take_text, take_number}
use Rattle.sr_syntax.specs.Operators as operators
use Rattle.sr_syntax.specs.Operators.{name, one_piece, joined, is_in, row_from, row_of, plain_template, member}
use Rattle.sr_syntax.specs.Bodies.{parameters_of, binding, binding_if_there, rest_parameter, parameters_from, parameters, parameter_list, no_parameters, one_parameter, arrow_token, arrow_parameter, arrow_parameters}
use Rattle.sr_syntax.specs.Objects.{key, key_by, shorthand}
use Rattle.sr_syntax.specs.Statements.{label_if_there, continue_, break_, debugger_, catch_parameter}
use Rattle.sr_grammar.proofs.Steps.{inp}
use Rattle.sr_grammar.proofs.Alike.{failed_there, Level, Front, Takes, Plain, level_of, level_then, front_then, end_then, takes_then, level_pure, takes_refuse, level_take, front_take, level_left, level_turns, level_if, level_choose, takes_choose, takes_here, level_peek, plain_sees, plain_line, level_eat, takes_expect, level_expect, level_token, unseen, level_semicolon, level_complete}

-- ---- tokens

plain_text : Plain text
unfolding text
plain_text ts l m n k = refl

plain_number : Plain number
unfolding number
plain_number ts l m n k = refl

pub front_text : Front take_text take_text
front_text = front_take text plain_text

pub level_text : Level take_text take_text
level_text = level_take text plain_text

pub front_number : Front take_number take_number
front_number = front_take number plain_number

pub plain_word : Plain sees_word
unfolding sees_word sort
plain_word ts l m n k = refl

-- ---- names

pub takes_name : Takes name name
unfolding name same_sort
takes_name = takes_choose (sees k.Identifier) (plain_sees k.Identifier) (unseen k.Identifier refl) front_text takes_refuse

pub level_property_name : Level operators.property_name operators.property_name
unfolding operators.property_name
level_property_name = level_choose sees_word plain_word level_text (level_of takes_refuse)

pub takes_binding : Takes binding binding
unfolding binding
takes_binding = takes_here (λ from. front_then takes_name.first (λ called. level_pure (record { name = called; from = from }))) (λ from to. end_then _ _ takes_name.ended)

pub level_binding : Level binding binding
level_binding = level_of takes_binding

pub level_binding_if_there : Level binding_if_there binding_if_there
unfolding binding_if_there
level_binding_if_there = level_choose (sees k.Identifier) (plain_sees k.Identifier) (level_then level_binding (λ x. level_pure (Some x))) (level_pure None)

pub level_label_if_there : Level label_if_there label_if_there
unfolding label_if_there
level_label_if_there = level_choose (λ i. sees k.Identifier i && not (line_before i)) plain (level_then level_text (λ x. level_pure (Some x))) (level_pure None)
  where
    plain : Plain (λ i. sees k.Identifier i && not (line_before i))
    plain ts l m n o = rw (plain_sees k.Identifier ts l m n o) (rw (plain_line ts l m n o) refl)

-- ---- parameters

level_rest_parameter : (found : List Binding) → Level (rest_parameter found) (rest_parameter found)
unfolding rest_parameter
level_rest_parameter found = level_then level_binding (λ last. level_then (level_expect k.RightParenthesis) (λ u. level_pure (parameters_of found (Some last))))

level_parameters_from : (m : ℕ) (found : List Binding) → Level (parameters_from m found) (parameters_from m found)
unfolding parameters_from
level_parameters_from zero found = level_of takes_refuse
level_parameters_from (suc m) found =
    level_then (level_eat k.RightParenthesis) (λ over. level_if over (level_pure (parameters_of found None))
    (level_then (level_eat k.Ellipsis) (λ rest. level_if rest (level_rest_parameter found)
    (level_then level_binding (λ x. level_then (level_eat k.Comma) (λ more. level_if more (level_parameters_from m (found ++ x ∷ []))
    (level_then (level_expect k.RightParenthesis) (λ u. level_pure (parameters_of (found ++ x ∷ []) None)))))))))

level_parameters : Level parameters parameters
unfolding parameters
level_parameters = level_turns (λ m. parameters_from m []) (λ m. parameters_from m []) (λ m. level_parameters_from m [])

takes_parameter_list : Takes parameter_list parameter_list
unfolding parameter_list same_sort
takes_parameter_list = takes_then (takes_expect k.LeftParenthesis refl) (λ u. level_parameters)

pub level_parameter_list : Level parameter_list parameter_list
level_parameter_list = level_of takes_parameter_list

pub level_no_parameters : Level no_parameters no_parameters
unfolding no_parameters
level_no_parameters = level_then (level_expect k.LeftParenthesis) (λ u. level_expect k.RightParenthesis)

pub level_one_parameter : Level one_parameter one_parameter
unfolding one_parameter
level_one_parameter = level_then (level_expect k.LeftParenthesis) (λ u. level_then level_binding (λ x. level_then (level_expect k.RightParenthesis) (λ v. level_pure x)))

pub level_catch_parameter : Level catch_parameter catch_parameter
unfolding catch_parameter
level_catch_parameter = level_choose (sees k.LeftParenthesis) (plain_sees k.LeftParenthesis) (level_then level_one_parameter (λ x. level_pure (Some x))) (level_pure None)

-- ---- heads of arrow functions

pub level_arrow_token : Level arrow_token arrow_token
unfolding arrow_token
level_arrow_token = level_choose (λ i. sees k.Arrow i && not (line_before i)) plain level_token (level_of takes_refuse)
  where
    plain : Plain (λ i. sees k.Arrow i && not (line_before i))
    plain ts l m n o = rw (plain_sees k.Arrow ts l m n o) (rw (plain_line ts l m n o) refl)

takes_arrow_parameter : Takes arrow_parameter arrow_parameter
unfolding arrow_parameter
takes_arrow_parameter = takes_then takes_binding (λ x. level_pure (parameters_of (x ∷ []) None))

pub takes_arrow_parameters : Takes arrow_parameters arrow_parameters
unfolding arrow_parameters same_sort
takes_arrow_parameters = takes_choose (sees k.LeftParenthesis) (plain_sees k.LeftParenthesis) (unseen k.LeftParenthesis refl) takes_parameter_list.first takes_arrow_parameter

-- ---- keys

front_key_by : (b : Bool) (s : Sort) → Front (key_by b s) (key_by b s)
front_key_by true s = front_then front_text (λ called. level_pure (property_name.Text called))
front_key_by false k.Text = front_then front_text (λ called. level_pure (property_name.Text called))
front_key_by false k.Number = front_then front_number (λ value. level_pure (property_name.Number value))
front_key_by false _ = takes_refuse.first

-- at the end none is read
pub takes_key : Takes key key
unfolding key sees_word sort
takes_key = record { first = record { front = λ t ts l m n k. (front_key_by (sees_word (inp (t ∷ ts) l n)) (sort (inp (t ∷ ts) l n))).front t ts l m n k }; ended = record { at_end = λ l m n k. failed_there _ _ } }

-- ---- parts of expressions

pub level_joined : (s : Sort) (x y : Grown) → Level (joined s x y) (joined s x y)
unfolding joined
level_joined s x y = level_complete _ _ _

level_row_from : {p q : Parser Grown} (b : Bool) → Level p q → (level m : ℕ) (x : Grown) → Level (row_from b p level m x) (row_from b q level m x)
unfolding row_from
level_row_from b h level zero x = level_pure x
level_row_from b h level (suc m) x = level_then level_peek (λ s. level_if (is_in b level s)
    (level_then level_token (λ u. level_then h (λ y. level_then (level_joined s x y) (λ both. level_row_from b h level m both)))) (level_pure x))

pub level_row_of : {p q : Parser Grown} (b : Bool) → Level p q → (level : ℕ) (x : Grown) → Level (row_of b p level x) (row_of b q level x)
unfolding row_of
level_row_of {p} {q} b h level x = level_left (λ m. row_from b p level m x) (λ m. row_from b q level m x) (λ m. level_row_from b h level m x)

pub front_plain_template : (from : ℕ) → Front (plain_template from) (plain_template from)
unfolding plain_template
front_plain_template from = front_then front_text (λ text. level_complete (node.Template (one_piece text).texts (one_piece text).trees) from 0)

pub level_member : (l : Link) (of : Grown) → Level (member l of) (member l of)
unfolding member
level_member l of = level_then level_property_name (λ called. level_complete _ _ _)

-- ---- statements of words alone

pub level_continue : (from : ℕ) → Level (continue_ from) (continue_ from)
unfolding continue_
level_continue from = level_then level_label_if_there (λ called. level_then level_semicolon (λ u. level_complete _ _ _))

pub level_break : (from : ℕ) → Level (break_ from) (break_ from)
unfolding break_
level_break from = level_then level_label_if_there (λ called. level_then level_semicolon (λ u. level_complete _ _ _))

pub level_debugger : (from : ℕ) → Level (debugger_ from) (debugger_ from)
unfolding debugger_
level_debugger from = level_then level_semicolon (λ u. level_complete _ _ _)

pub level_shorthand : (from : ℕ) (called : List ℕ) → Level (shorthand from called) (shorthand from called)
unfolding shorthand
level_shorthand from called = level_then (level_complete _ _ _) (λ x. level_pure _)
