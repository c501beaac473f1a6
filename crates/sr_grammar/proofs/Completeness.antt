-- What derives is read.
use Rattle.std.proofs.Common.{◌≡◌, ℕ, Bool, true, false, List, [], ◌∷◌, ◌++◌, Option}
use Rattle.sr_ast.specs.declared.binding.Binding.{Binding}
use Rattle.sr_ast.specs.declared.binding.Parameters.{Parameters}
use Rattle.sr_ast.specs.declared.tree.Declaration.{Declaration}
use Rattle.sr_ast.specs.declared.tree.Property.{Property}
use Rattle.sr_syntax.specs.declared.sorts.Sort.{Sort}
use Rattle.sr_syntax.specs.declared.sorts.Lexeme.{Lexeme}
use Rattle.sr_syntax.specs.declared.grown.Grown.{Grown}
use Rattle.sr_syntax.specs.declared.grown.Grove.{Grove}
use Rattle.sr_syntax.specs.declared.grown.Elements.{Elements}
use Rattle.sr_syntax.specs.declared.grown.Pieces.{Pieces}
use Rattle.sr_syntax.specs.declared.grown.Properties.{Properties}
use Rattle.sr_syntax.specs.declared.grown.Cases.{Cases}
use Rattle.sr_syntax.specs.declared.grown.Part.{Part}
use Rattle.sr_syntax.specs.Objects.{no_properties, properties_from, properties}
use Rattle.sr_syntax.specs.Declarations.{declarations}
use Rattle.sr_syntax.specs.Statements.{condition, statement, item}
use Rattle.sr_syntax.specs.Grammar.{tree}
use Rattle.sr_grammar.specs.Reading.{head}
use Rattle.sr_grammar.specs.Derivations.{Symbol, Derives, Lists, Adds, Commas, Arguments, Array, Substitutions, Function, Body, Object, PropertiesWithCommas, OneProperty, Declares, Declarations, Condition, Perhaps, First, Block, Catch, Finally, Clauses, States, IsItem, Items}
use Rattle.sr_grammar.specs.Derivations as g
use Rattle.sr_grammar.proofs.Starting.{some_tokens}
use Rattle.sr_grammar.proofs.Heights.{expression_low, declarations_low}
use Rattle.sr_grammar.proofs.Completing.{Reads}
use Rattle.sr_grammar.proofs.Claims.{Claim, this_reads, name_reads, null_reads, true_reads, false_reads, number_reads, text_reads, parenthesized_reads, before_reads, after_reads, no_step_reads, unary_reads, no_operator_reads, unraised_reads, raised_reads}
use Rattle.sr_grammar.proofs.RowClaims.{operand_reads, tighter_reads, binary_reads, coalesce_ends, head_reads, coalesce_reads, coalesced_reads, logical_reads, unchosen_reads, chosen_reads, unassigned_reads, assigned_reads, single_reads, ListClaim, one_list, more_list, sequence_reads}
use Rattle.sr_grammar.proofs.Chains.{ArgumentsClaim, bare_reads, chain_reads, one_primary_reads, one_new_reads, named_reads, indexed_reads, called_reads, optional_named_reads, optional_indexed_reads, optional_called_reads, new_called_reads, new_bare_reads, of_member_reads, of_bare_reads, member_primary_reads, member_new_reads, member_named_reads, member_indexed_reads}
use Rattle.sr_grammar.proofs.Listing.{Added, value_added, spread_added, CommasClaim, no_elements_read, one_element_read, one_hole_read, ElementsClaim, comma_last_read, element_last_read, arguments_read, array_reads, plain_template_reads, SubstitutionsClaim, no_substitution_read, one_substitution_read, template_reads}
use Rattle.sr_grammar.proofs.Taking.{Whatever, Like, Takes, Loops}
use Rattle.sr_grammar.proofs.ParameterClaims.{parameter_list_read, catch_parameter_read}
use Rattle.sr_grammar.proofs.FunctionClaims.{ItemClaim, ItemsClaim, items_read, BodyClaim, body_claim, FunctionClaim, function_claim, function_alone_reads, function_named_reads, arrow_reads, expression_arrow_reads}
use Rattle.sr_grammar.proofs.ObjectClaims.{PropertyClaim, shorthand_reads, keyed_reads, method_reads, spread_reads, computed_reads, computed_method_reads, getter_reads, setter_reads, no_properties_read, one_more_property_read, property_comma_last_read, property_last_read, object_reads}
use Rattle.sr_grammar.proofs.DeclarationClaims.{DeclaresClaim, no_value_read, a_value_read, Listed, listed_one, listed_more, HeadClaim, head_one, head_more}
use Rattle.sr_grammar.proofs.SomeTokens.{statement_some}
use Rattle.sr_grammar.proofs.Statings.{states_begin}
use Rattle.sr_grammar.proofs.StatementClaims.{expression_statement_reads, labelled_reads, var_reads, empty_reads, debugger_reads, continue_alone_reads, continue_to_reads, break_alone_reads, break_from_reads, return_alone_reads, return_value_reads, throw_reads, statement_item_reads, lexical_item_reads}
use Rattle.sr_grammar.proofs.BlockClaims.{no_items_read, one_more_item_read, function_item_reads, BlockClaim, block_claim, block_reads, CatchClaim, catch_claim, FinallyClaim, finally_claim, try_catch_reads, try_finally_reads, try_both_reads}
use Rattle.sr_grammar.proofs.LoopClaims.{condition_read, while_reads, if_alone_reads, if_else_reads, do_alone_reads, do_ended_reads}
use Rattle.sr_grammar.proofs.SwitchClaims.{ClausesClaim, no_clauses_read, one_more_case_read, one_default_read, switch_reads}
use Rattle.sr_grammar.proofs.ForClaims.{PerhapsClaim, no_expression_read, an_expression_read, FirstClaim, nothing_first, expression_first, declarations_first, for_reads, for_in_reads, for_of_reads, for_in_target_reads, for_of_target_reads}

mutual
  -- ---- expressions

  pub reads : {d : ℕ} {s : Symbol} {us : List Lexeme} {x : Grown} → Derives d s us x → Claim d s us x
  reads (g.single {d} {b} {us} {x} h) = single_reads b d us x (reads h)
  reads (g.sequence {d} {from} {b} {us} {vs} {xs} {x} w t c h) = sequence_reads b d from us vs t xs x (list_reads w) c (reads h)
  reads (g.unassigned {d} {b} {us} {x} h a) = unassigned_reads b d us x (some_tokens h) a (reads h)
  reads (g.assigned {d} {b} {us} {vs} {x} {y} {op} h a is t c i) = assigned_reads b d us vs t x y op h a (reads h) is c (reads i)
  reads (g.arrow {b} w t c l i) = λ r m n e. (arrow_reads b w t c l (body_reads i)).gets r m n tt
  reads (g.expression_arrow {d} {b} w t c l o h) = (expression_arrow_reads d b w t c l o h (reads h)).gets
  reads (g.unchosen {d} {b} {us} {x} h) = unchosen_reads b d us x (reads h)
  reads (g.chosen {d} {b} {us} {vs} {ws} {x} {y} {z} h t c i u p j) = chosen_reads b d us vs ws t u x y z (reads h) c (reads i) p (reads j)
  reads (g.logical {d} {b} {us} {x} h) = logical_reads b d us x (reads h)
  reads (g.coalesced {d} {b} {us} {x} h) = coalesced_reads b d us x (reads h)
  reads (g.coalesce {d} {b} {us} {vs} {x} {y} h t c i) = coalesce_reads b d us vs t x y (reads h) c (reads i)
  reads (g.head_more {d} {b} {us} {x} h) = λ r l n c. reads h r l n (coalesce_ends b r c)
  reads (g.head_first {d} {b} {us} {x} h) = head_reads b d us x (reads h)
  reads (g.operand {d} {b} {us} {x} h) = operand_reads b d us x (reads h)
  reads (g.tighter {d} {level} {b} {us} {x} h) = tighter_reads b d level us x (reads h)
  reads (g.binary {d} {level} {b} {us} {vs} {x} {y} h t c a i) = binary_reads b d level us vs t x y (reads h) c a (reads i)
  reads (g.unraised {d} {us} {x} h) = unraised_reads d us x (reads h)
  reads (g.raised {d} {us} {vs} {x} {y} h t c i) = raised_reads d us vs t x y h (reads h) c (reads i)
  reads (g.unary {d} {us} {t} {x} {op} c h) = unary_reads d us t x op c (reads h)
  reads (g.no_operator {d} {us} {x} h) = no_operator_reads d us x h (reads h)
  reads (g.before {d} {us} {t} {x} {op} c h is) = before_reads d us t x op c (reads h) is
  reads (g.after {d} {us} {x} {op} h is t c line) = after_reads d us t x op h (reads h) is c line
  reads (g.no_step {d} {us} {x} h) = no_step_reads d us x h (reads h)
  reads (g.bare {d} {us} {x} h is) = bare_reads d us x h (reads h) is
  reads (g.chain {d} {c} {us} {x} h) = chain_reads d c us x h (reads h)
  reads (g.one_primary {d} {us} {x} h) = one_primary_reads d us x h (reads h)
  reads (g.one_new {d} {us} {x} h is) = one_new_reads d us x h (reads h) is
  reads (g.named {d} {c} {us} {x} h t p u w) = named_reads d c us t u x (reads h) p w
  reads (g.indexed {d} {c} {us} {vs} {x} {y} h t p i u q) = indexed_reads d c us vs t u x y (reads h) p (reads i) q
  reads (g.called {d} {c} {us} {vs} {x} {xs} h t p a) = called_reads d c us vs t x xs (reads h) p (arguments_reads a)
  reads (g.optional_named {d} {c} {us} {x} h t p u w) = optional_named_reads d c us t u x (reads h) p w
  reads (g.optional_indexed {d} {c} {us} {vs} {x} {y} h t p w e i u q) = optional_indexed_reads d c us vs t w u x y (reads h) p e (reads i) q
  reads (g.optional_called {d} {c} {us} {vs} {x} {xs} h t p w e a) = optional_called_reads d c us vs t w x xs (reads h) p e (arguments_reads a)
  reads (g.new_called {d} {us} {vs} {t} {x} {xs} c h u e a) = new_called_reads d us vs t u x xs c (reads h) e (arguments_reads a)
  reads (g.new_bare {d} {us} {t} {x} c h) = new_bare_reads d us t x c (reads h)
  reads (g.of_member {d} {us} {x} h) = of_member_reads d us x (reads h)
  reads (g.of_bare {d} {us} {x} h is) = of_bare_reads d us x h (reads h)
  reads (g.member_primary {d} {us} {x} h) = member_primary_reads d us x h (reads h)
  reads (g.member_new {d} {us} {x} h is) = member_new_reads d us x h (reads h) is
  reads (g.member_named {d} {us} {x} h t p u w) = member_named_reads d us t u x (reads h) p w
  reads (g.member_indexed {d} {us} {vs} {x} {y} h t p i u q) = member_indexed_reads d us vs t u x y (reads h) p (reads i) q
  reads (g.this {d} {t} c) = λ r l n. this_reads d t r l n c
  reads (g.name {d} {t} c) = λ r l n. name_reads d t r l n c
  reads (g.null {d} {t} c) = λ r l n. null_reads d t r l n c
  reads (g.true_literal {d} {t} c) = λ r l n. true_reads d t r l n c
  reads (g.false_literal {d} {t} c) = λ r l n. false_reads d t r l n c
  reads (g.number {d} {t} c) = λ r l n. number_reads d t r l n c
  reads (g.text {d} {t} c) = λ r l n. text_reads d t r l n c
  reads (g.plain_template {d} {t} c) = plain_template_reads d t c
  reads (g.template {d} {us} {vs} {t} {all} {x} c w h u e) = template_reads d us vs t u all x c (substitution_reads w) (reads h) e
  reads (g.array {d} {us} {t} {xs} c a) = array_reads d us t xs c (array_elements_read a)
  reads (g.object {d} {t = t} c a) = λ r l n. (object_reads d t c (object_properties_read a)).gets r l n tt
  reads (g.function_alone {t = t} c w) = λ r l n. (function_alone_reads t c (function_reads w)).gets r l n tt
  reads (g.function_named {t = t} {u = u} c e w) = λ r l n. (function_named_reads t u c e (function_reads w)).gets r l n tt
  reads (g.parenthesized {d} {us} {t} {x} c h u e) = parenthesized_reads d t u us x c (reads h) e

  list_reads : {d : ℕ} {b : Bool} {us : List Lexeme} {from : ℕ} {xs : Grove} → Lists b d us from xs → ListClaim b d us from xs
  list_reads (g.one {d} {b} {us} {x} h) = one_list b d us x (reads h)
  list_reads (g.one_more {d} {from} {b} {us} {vs} {xs} {x} w t c h) = more_list b d from us vs t xs x (list_reads w) c (reads h)

  add_reads : {d : ℕ} {us : List Lexeme} {xs ys : Elements} → Adds d us xs ys → Added d us xs ys
  add_reads (g.value {d} {us} {xs} {x} h) = value_added d us xs x h (reads h)
  add_reads (g.spread {d} {us} {xs} {x} t c h) = spread_added d us t xs x c (reads h)

  commas_read : {holes : Bool} {d : ℕ} {us : List Lexeme} {xs : Elements} → Commas holes d us xs → CommasClaim holes d us xs
  commas_read (g.no_elements_yet {d} {holes}) = no_elements_read holes d
  commas_read (g.one_element {d} {holes} {us} {vs} {xs} {ys} w a t c) = one_element_read holes d us vs t xs ys (commas_read w) (add_reads a) c
  commas_read (g.one_hole {d} {us} {xs} w t c) = one_hole_read d us t xs (commas_read w) c

  arguments_reads : {d : ℕ} {us : List Lexeme} {xs : Elements} → Arguments d us xs → ArgumentsClaim d us xs
  arguments_reads (g.comma_at_last {d} {us} {xs} w u c) = arguments_read d (us ++ u ∷ []) xs (comma_last_read false d us u xs (commas_read w) c)
  arguments_reads (g.element_at_last {d} {us} {vs} {xs} {ys} w a u c) = arguments_read d (us ++ (vs ++ u ∷ [])) ys (element_last_read false d us vs u xs ys (commas_read w) (add_reads a) c)

  array_elements_read : {d : ℕ} {us : List Lexeme} {xs : Elements} → Array d us xs → ElementsClaim true d us xs
  array_elements_read (g.array_comma_at_last {d} {us} {xs} w u c) = comma_last_read true d us u xs (commas_read w) c
  array_elements_read (g.array_element_at_last {d} {us} {vs} {xs} {ys} w a u c) = element_last_read true d us vs u xs ys (commas_read w) (add_reads a) c

  substitution_reads : {d : ℕ} {text : List ℕ} {us : List Lexeme} {all : Pieces} → Substitutions d text us all → SubstitutionsClaim d text us all
  substitution_reads (g.no_substitution {d} {text}) = no_substitution_read d text
  substitution_reads (g.one_substitution {d} {text} {us} {vs} {all} {x} w h t c) = one_substitution_read d text us vs t all x (substitution_reads w) (reads h) c

  -- ---- functions

  pub function_reads : {d : ℕ} {us : List Lexeme} {ps : Parameters} {xs : Grove} → Function d us ps xs → FunctionClaim d us ps xs
  function_reads (g.function t c p b) = function_claim t c (parameter_list_read t c p) (body_reads b)

  body_reads : {d : ℕ} {us : List Lexeme} {xs : Grove} → Body d us xs → BodyClaim d us xs
  body_reads (g.body t c u e w) = body_claim t c u e (items_are_read w)

  -- ---- objects

  object_properties_read : {d : ℕ} {us : List Lexeme} {all : Properties} → Object d us all → Takes (properties (tree d)) us all.tall all Whatever
  object_properties_read (g.property_comma_at_last {d} w u c) = property_comma_last_read d u (properties_are_read w) c
  object_properties_read (g.property_at_last {d} w h u c) = property_last_read d u (properties_are_read w) (property_reads h) c

  properties_are_read : {d : ℕ} {us : List Lexeme} {all : Properties} → PropertiesWithCommas d us all → Loops (properties_from (tree d)) us all.tall no_properties all Whatever
  properties_are_read (g.no_properties_yet {d}) = no_properties_read d
  properties_are_read (g.one_more_property w h t c) = one_more_property_read t (properties_are_read w) (property_reads h) c

  property_reads : {d tall : ℕ} {us : List Lexeme} {one : Property} → OneProperty d us one tall → PropertyClaim d us one tall
  property_reads (g.shorthand {d} t c) = shorthand_reads d t c
  property_reads (g.keyed {d} {us} {x} {called} t h p u c i) = keyed_reads d us t u x called h p c (reads i)
  property_reads (g.computed {d} {us} {vs} {x} {y} t c i u e w p j) = computed_reads d us vs t u w x y c (reads i) e p (reads j)
  property_reads (g.spread_property {d} {us} {x} t c i) = spread_reads d us t x c (reads i)
  property_reads (g.method {called = called} t h w) = method_reads t called h (function_reads w)
  property_reads (g.computed_method {d} {us} {vs} {x} t c i u e w) = computed_method_reads d us vs t u x c (reads i) e (function_reads w)
  property_reads (g.getter {called = called} t h c key p e q f b) = getter_reads t c p q called h key e f (body_reads b)
  property_reads (g.setter {called = called} t h c key p e v i q f b) = setter_reads t c p v q called h key e i f (body_reads b)

  -- ---- declarations

  declares_read : {b : Bool} {d : ℕ} {us : List Lexeme} {t : Lexeme} {v : Option Grown} → Declares b d us t v → DeclaresClaim b d us t v
  declares_read (g.no_value {b} {d} t c) = no_value_read b d t c
  declares_read (g.a_value {b} {d} {us} {x} t u c e h) = a_value_read b d us x t u c e (reads h)

  pub declarations_read : {b : Bool} {d tall : ℕ} {us : List Lexeme} {ds : List Declaration} → Declarations b d us ds tall → Listed b d (declarations (tree d) b) us (ds, tall)
  declarations_read (g.one_declaration h) = listed_one (declares_read h)
  declarations_read (g.one_more_declaration {tall = tall} {ds = ds} w t c h) = listed_more (ds, tall) t (declarations_read w) c (declares_read h)

  heads_read : {d tall : ℕ} {us : List Lexeme} {ds : List Declaration} → Declarations false d us ds tall → HeadClaim d us (ds, tall)
  heads_read (g.one_declaration h) = head_one (declares_read h)
  heads_read (g.one_more_declaration w t c h) = head_more t (heads_read w) c (declares_read h)

  -- ---- parts of statements

  condition_reads : {d : ℕ} {us : List Lexeme} {x : Grown} → Condition d us x → Takes (condition (tree d)) us x.height x Whatever
  condition_reads (g.condition {d} {us} {x} t c h u e) = condition_read d us x t u c (reads h) e

  perhaps_reads : {b : Bool} {d : ℕ} {v : Sort} {us : List Lexeme} {x : Part} → Perhaps b d v us x → PerhapsClaim b d v us x
  perhaps_reads (g.no_expression {b} {d} {close} u c) = no_expression_read b d close u c
  perhaps_reads (g.an_expression {b} {d} {close} {us} {x} h u c) = an_expression_read b d close us x u h (reads h) c

  first_reads : {d : ℕ} {us : List Lexeme} {x : Part} → First d us x → FirstClaim d us x
  first_reads (g.first_declarations {d} {tall} {us} {ds} {how} t c w u e) = declarations_first d tall us ds how t u c (heads_read w) e
  first_reads (g.first_expression (g.no_expression {d = d} u c)) = nothing_first d u c
  first_reads (g.first_expression (g.an_expression {d = d} {us = us} {x = x} h u c)) = expression_first d us x u h (reads h) c

  block_is_read : {d : ℕ} {us : List Lexeme} {x : Grown} → Block d us x → BlockClaim d us x
  block_is_read (g.items_in_braces t c u e w) = block_claim t c (items_read u e (items_are_read w))

  catch_reads : {d : ℕ} {us : List Lexeme} {p : Option Binding} {x : Grown} → Catch d us p x → CatchClaim d us p x
  catch_reads (g.catch t c p b) = catch_claim t c (catch_parameter_read p) (block_is_read b)

  finally_reads : {d : ℕ} {us : List Lexeme} {x : Grown} → Finally d us x → FinallyClaim d us x
  finally_reads (g.finally t c b) = finally_claim t c (block_is_read b)

  clauses_read : {d : ℕ} {us ts : List Lexeme} {all : Cases} → Clauses d us ts all → ClausesClaim d us ts all
  clauses_read (g.no_clauses {d} {ts}) = no_clauses_read d ts
  clauses_read (g.one_more_case {d} {vs = vs} {x = x} t w c h u e i) = one_more_case_read d vs x t u (clauses_read w) c (reads h) e (items_are_read i)
  clauses_read (g.one_default {d} t w c f u e i) = one_default_read d t u (clauses_read w) c f e (items_are_read i)

  -- ---- statements and items

  pub statement_is_read : {d : ℕ} {us ts : List Lexeme} {x : Grown} → States d us ts x → Takes (statement (tree d)) us x.height x (Like ts)
  statement_is_read (g.expression_statement {d} {us} {vs} {ts} {x} b a h e) = expression_statement_reads d us vs ts x b a h (reads h) (expression_low true d us ts x) e
  statement_is_read (g.block {ts = ts} b) = block_reads ts (block_is_read b)
  statement_is_read (g.empty {d} {ts} t c) = empty_reads d ts t c
  statement_is_read (g.var {d} {tall} {us} {vs} {ts} {ds} t c w e) = var_reads d tall us vs ts ds t c (declarations_read w).by_end (declarations_low true d us ts ds tall) e
  statement_is_read (g.if_alone {d} {us} {vs} {ts} {x} {y} t c i h e) = if_alone_reads d us vs ts x y t c (condition_reads i) (statement_is_read h) e
  statement_is_read (g.if_else {d} {us} {vs} {ws} {ts} {x} {y} {z} t c i u h e j) = if_else_reads d us vs ws ts x y z t u c (condition_reads i) (statement_is_read h) e (statement_is_read j)
  statement_is_read (g.do_alone {d} {us} {vs} {ts} {x} {y} t c u h q i e) = do_alone_reads d us vs ts x y t u c (statement_is_read h) q (condition_reads i) e
  statement_is_read (g.do_ended {d} {us} {vs} {ts} {x} {y} t c u v h q i e) = do_ended_reads d us vs ts x y t u v c (statement_is_read h) q (condition_reads i) e
  statement_is_read (g.while {d} {us} {vs} {ts} {x} {y} t c i h) = while_reads d us vs ts x y t c (condition_reads i) (statement_is_read h)
  statement_is_read (g.for {d} {us} {vs} {ws} {zs} {ts} {first} {test} {step} {y} t u c e f p q h) =
      for_reads d us vs ws zs ts first test step y t u c e (first_reads f) (perhaps_reads p) (perhaps_reads q) (statement_is_read h)
  statement_is_read (g.for_in {d} {us} {vs} {ts} {x} {y} {how} t u v w i c e f a o h p q j) = for_in_reads d us vs ts x y how t u v w i p c e f a o (reads h) q (statement_is_read j)
  statement_is_read (g.for_of {d} {us} {vs} {ts} {x} {y} {how} t u v w i c e f a o h p q j) = for_of_reads d us vs ts x y how t u v w i p c e f a o (reads h) q (statement_is_read j)
  statement_is_read (g.for_in_target {d} {us} {vs} {ws} {ts} {z} {x} {y} t u c e a is i o h p q j) = for_in_target_reads d us vs ws ts z x y t u i p c e a (reads a) is o (reads h) q (statement_is_read j)
  statement_is_read (g.for_of_target {d} {us} {vs} {ws} {ts} {z} {x} {y} t u c e a is i o h p q j) = for_of_target_reads d us vs ws ts z x y t u i p c e a (reads a) is o (reads h) q (statement_is_read j)
  statement_is_read (g.continue_alone {d} {vs} {ts} t c e) = continue_alone_reads d vs ts t c e
  statement_is_read (g.continue_to {d} {vs} {ts} t u c i l e) = continue_to_reads d vs ts t u c i l e
  statement_is_read (g.break_alone {d} {vs} {ts} t c e) = break_alone_reads d vs ts t c e
  statement_is_read (g.break_from {d} {vs} {ts} t u c i l e) = break_from_reads d vs ts t u c i l e
  statement_is_read (g.return_alone {d} {vs} {ts} t c e) = return_alone_reads d vs ts t c e
  statement_is_read (g.return_value {d} {us} {vs} {ts} {x} t c l h e) = return_value_reads d us vs ts x t c l h (reads h) (expression_low true d us ts x) e
  statement_is_read (g.throw {d} {us} {vs} {ts} {x} t c l h e) = throw_reads d us vs ts x t c l h (reads h) (expression_low true d us ts x) e
  statement_is_read (g.debugger {d} {vs} {ts} t c e) = debugger_reads d vs ts t c e
  statement_is_read (g.switch {d} {us} {vs} {ts} {x} t c i u e v f w) = switch_reads d us vs ts x t u v c (condition_reads i) e f (clauses_read w)
  statement_is_read (g.try_catch {ts = ts} t c b h e) = try_catch_reads ts t c (block_is_read b) (catch_reads h) e
  statement_is_read (g.try_finally {ts = ts} t c b h) = try_finally_reads ts t c (block_is_read b) (finally_reads h)
  statement_is_read (g.try_both {ts = ts} t c b h f) = try_both_reads ts t c (block_is_read b) (catch_reads h) (finally_reads f)
  statement_is_read (g.labelled {d} {us} {ts} {x} t u c a e h) = labelled_reads d us ts x t u c a e (statement_is_read h)

  item_reads : {d : ℕ} {us ts : List Lexeme} {x : Grown} → IsItem d us ts x → ItemClaim d us ts x
  item_reads (g.statement {d} {ts = ts} h) = statement_item_reads d ts (statement_some h) (states_begin h) (statement_is_read h)
  item_reads (g.function_item {ts = ts} t u c e w) = function_item_reads ts t u c e (function_reads w)
  item_reads (g.lexical {d} {tall} {us} {vs} {ts} {ds} {how} t c w e) = lexical_item_reads d tall us vs ts ds how t c (declarations_read w).by_end (declarations_low true d us ts ds tall) e

  items_are_read : {d : ℕ} {us ts : List Lexeme} {xs : Grove} → Items d us ts xs → ItemsClaim d us ts xs
  items_are_read (g.no_items {d} {ts}) = no_items_read d ts
  items_are_read (g.one_more_item w h) = one_more_item_read (items_are_read w) h (item_reads h)

pub item_is_read : {d : ℕ} {us ts : List Lexeme} {x : Grown} → IsItem d us ts x → Takes (item (tree d)) us x.height x (Like ts)
item_is_read h = (item_reads h).alone

-- ---- statements and items, whatever follows that begins alike

pub states_read : {d : ℕ} {us ts : List Lexeme} {x : Grown} → States d us ts x → (r : List Lexeme) (l n : ℕ) → head r ≡ head ts → Reads (statement (tree d)) us x r l n
states_read h = (statement_is_read h).gets

pub item_read : {d : ℕ} {us ts : List Lexeme} {x : Grown} → IsItem d us ts x → (r : List Lexeme) (l n : ℕ) → head r ≡ head ts → Reads (item (tree d)) us x r l n
item_read h = (item_is_read h).gets
