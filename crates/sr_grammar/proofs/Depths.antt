-- What derives still does where more rules may be open.
use Rattle.std.proofs.Common.{◌≡◌, ℕ, zero, suc, ◌+◌, ◌-◌, ◌≤◌, Bool, true, List, Option, subst, arith}
use Rattle.sr_ast.specs.declared.binding.Binding.{Binding}
use Rattle.sr_ast.specs.declared.binding.Parameters.{Parameters}
use Rattle.sr_ast.specs.declared.tree.Declaration.{Declaration}
use Rattle.sr_ast.specs.declared.tree.Property.{Property}
use Rattle.sr_syntax.specs.declared.sorts.Sort.{Sort}
use Rattle.sr_syntax.specs.declared.sorts.Lexeme.{Lexeme}
use Rattle.sr_syntax.specs.declared.grown.Grown.{Grown}
use Rattle.sr_syntax.specs.declared.grown.Grove.{Grove}
use Rattle.sr_syntax.specs.declared.grown.Elements.{Elements}
use Rattle.sr_syntax.specs.declared.grown.Pieces.{Pieces}
use Rattle.sr_syntax.specs.declared.grown.Properties.{Properties}
use Rattle.sr_syntax.specs.declared.grown.Cases.{Cases}
use Rattle.sr_syntax.specs.declared.grown.Part.{Part}
use Rattle.sr_grammar.specs.Derivations as g
use Rattle.sr_grammar.specs.Derivations.{Symbol, Semicolon, Derives, Lists, Adds, Commas, Arguments, Array, Substitutions, Function, Body, Object, PropertiesWithCommas, OneProperty, Declares, Declarations, Condition, Perhaps, First, Block, Catch, Finally, Clauses, States, IsItem, Items}
use Rattle.sr_grammar.proofs.SomeTokens.{some_tokens, declarations_some}
use Rattle.sr_grammar.proofs.Moves.{expression_ends, declarations_ends}

pub onward : (d : ℕ) → d ≤ suc d
onward d = omega arith

-- a semicolon is inserted where one was
pub still : {A B : Type 0} {vs ts : List Lexeme} → (A → B) → Semicolon A vs ts → Semicolon B vs ts
still f (g.written t h) = g.written t h
still f (g.before_brace h) = g.before_brace h
still f (g.before_line h i ends) = g.before_line h i (f ends)

mutual
  deeper : {d : ℕ} {s : Symbol} {us : List Lexeme} {x : Grown} → Derives d s us x → Derives (suc d) s us x
  deeper (g.single h) = g.single (deeper h)
  deeper (g.sequence h t i j) = g.sequence (deeper_list h) t i (deeper j)
  deeper (g.unassigned h i) = g.unassigned (deeper h) i
  deeper (g.assigned h i j t k l) = g.assigned (deeper h) i j t k (deeper l)
  deeper (g.arrow h t i j k) = g.arrow h t i j (deeper_body k)
  deeper (g.expression_arrow h t i j k l) = g.expression_arrow h t i j k (deeper l)
  deeper (g.unchosen h) = g.unchosen (deeper h)
  deeper (g.chosen h t i j u k l) = g.chosen (deeper h) t i (deeper j) u k (deeper l)
  deeper (g.logical h) = g.logical (deeper h)
  deeper (g.coalesced h) = g.coalesced (deeper h)
  deeper (g.coalesce h t i j) = g.coalesce (deeper h) t i (deeper j)
  deeper (g.head_more h) = g.head_more (deeper h)
  deeper (g.head_first h) = g.head_first (deeper h)
  deeper (g.operand h) = g.operand (deeper h)
  deeper (g.tighter h) = g.tighter (deeper h)
  deeper (g.binary h t i j k) = g.binary (deeper h) t i j (deeper k)
  deeper (g.unraised h) = g.unraised (deeper h)
  deeper (g.raised h t i j) = g.raised (deeper h) t i (deeper j)
  deeper (g.unary h i) = g.unary h (deeper i)
  deeper (g.no_operator h) = g.no_operator (deeper h)
  deeper (g.before h i j) = g.before h (deeper i) j
  deeper (g.after h i t j k) = g.after (deeper h) i t j k
  deeper (g.no_step h) = g.no_step (deeper h)
  deeper (g.bare h i) = g.bare (deeper h) i
  deeper (g.chain h) = g.chain (deeper h)
  deeper (g.one_primary h) = g.one_primary (deeper h)
  deeper (g.one_new h i) = g.one_new (deeper h) i
  deeper (g.named h t i u j) = g.named (deeper h) t i u j
  deeper (g.indexed h t i j u k) = g.indexed (deeper h) t i (deeper j) u k
  deeper (g.called h t i j) = g.called (deeper h) t i (deeper_arguments j)
  deeper (g.optional_named h t i u j) = g.optional_named (deeper h) t i u j
  deeper (g.optional_indexed h t i w j k u l) = g.optional_indexed (deeper h) t i w j (deeper k) u l
  deeper (g.optional_called h t i w j k) = g.optional_called (deeper h) t i w j (deeper_arguments k)
  deeper (g.new_called h i u j k) = g.new_called h (deeper i) u j (deeper_arguments k)
  deeper (g.new_bare h i) = g.new_bare h (deeper i)
  deeper (g.of_member h) = g.of_member (deeper h)
  deeper (g.of_bare h i) = g.of_bare (deeper h) i
  deeper (g.member_primary h) = g.member_primary (deeper h)
  deeper (g.member_new h i) = g.member_new (deeper h) i
  deeper (g.member_named h t i u j) = g.member_named (deeper h) t i u j
  deeper (g.member_indexed h t i j u k) = g.member_indexed (deeper h) t i (deeper j) u k
  deeper (g.this h) = g.this h
  deeper (g.name h) = g.name h
  deeper (g.null h) = g.null h
  deeper (g.true_literal h) = g.true_literal h
  deeper (g.false_literal h) = g.false_literal h
  deeper (g.number h) = g.number h
  deeper (g.text h) = g.text h
  deeper (g.plain_template h) = g.plain_template h
  deeper (g.template h i j u k) = g.template h (deeper_substitutions i) (deeper j) u k
  deeper (g.array h i) = g.array h (deeper_array i)
  deeper (g.object h i) = g.object h (deeper_object i)
  deeper (g.function_alone h i) = g.function_alone h (deeper_function i)
  deeper (g.function_named h i j) = g.function_named h i (deeper_function j)
  deeper (g.parenthesized h i u j) = g.parenthesized h (deeper i) u j

  deeper_list : {b : Bool} {d : ℕ} {us : List Lexeme} {from : ℕ} {xs : Grove} → Lists b d us from xs → Lists b (suc d) us from xs
  deeper_list (g.one h) = g.one (deeper h)
  deeper_list (g.one_more h t i j) = g.one_more (deeper_list h) t i (deeper j)

  deeper_adds : {d : ℕ} {us : List Lexeme} {xs ys : Elements} → Adds d us xs ys → Adds (suc d) us xs ys
  deeper_adds (g.value h) = g.value (deeper h)
  deeper_adds (g.spread t h i) = g.spread t h (deeper i)

  deeper_commas : {holes : Bool} {d : ℕ} {us : List Lexeme} {xs : Elements} → Commas holes d us xs → Commas holes (suc d) us xs
  deeper_commas g.no_elements_yet = g.no_elements_yet
  deeper_commas (g.one_element h i t j) = g.one_element (deeper_commas h) (deeper_adds i) t j
  deeper_commas (g.one_hole h t i) = g.one_hole (deeper_commas h) t i

  deeper_arguments : {d : ℕ} {us : List Lexeme} {xs : Elements} → Arguments d us xs → Arguments (suc d) us xs
  deeper_arguments (g.comma_at_last h u i) = g.comma_at_last (deeper_commas h) u i
  deeper_arguments (g.element_at_last h i u j) = g.element_at_last (deeper_commas h) (deeper_adds i) u j

  deeper_array : {d : ℕ} {us : List Lexeme} {xs : Elements} → Array d us xs → Array (suc d) us xs
  deeper_array (g.array_comma_at_last h u i) = g.array_comma_at_last (deeper_commas h) u i
  deeper_array (g.array_element_at_last h i u j) = g.array_element_at_last (deeper_commas h) (deeper_adds i) u j

  deeper_substitutions : {d : ℕ} {text : List ℕ} {us : List Lexeme} {all : Pieces} → Substitutions d text us all → Substitutions (suc d) text us all
  deeper_substitutions g.no_substitution = g.no_substitution
  deeper_substitutions (g.one_substitution h i t j) = g.one_substitution (deeper_substitutions h) (deeper i) t j

  deeper_function : {d : ℕ} {us : List Lexeme} {ps : Parameters} {xs : Grove} → Function d us ps xs → Function (suc d) us ps xs
  deeper_function (g.function t h i j) = g.function t h i (deeper_body j)

  deeper_body : {d : ℕ} {us : List Lexeme} {xs : Grove} → Body d us xs → Body (suc d) us xs
  deeper_body (g.body t h u i j) = g.body t h u i (deeper_items j)

  deeper_object : {d : ℕ} {us : List Lexeme} {all : Properties} → Object d us all → Object (suc d) us all
  deeper_object (g.property_comma_at_last h u i) = g.property_comma_at_last (deeper_properties h) u i
  deeper_object (g.property_at_last h i u j) = g.property_at_last (deeper_properties h) (deeper_property i) u j

  deeper_properties : {d : ℕ} {us : List Lexeme} {all : Properties} → PropertiesWithCommas d us all → PropertiesWithCommas (suc d) us all
  deeper_properties g.no_properties_yet = g.no_properties_yet
  deeper_properties (g.one_more_property h i t j) = g.one_more_property (deeper_properties h) (deeper_property i) t j

  deeper_property : {d : ℕ} {us : List Lexeme} {one : Property} {tall : ℕ} → OneProperty d us one tall → OneProperty (suc d) us one tall
  deeper_property (g.shorthand t h) = g.shorthand t h
  deeper_property (g.keyed t h i u j k) = g.keyed t h i u j (deeper k)
  deeper_property (g.computed t h i u j w k l) = g.computed t h (deeper i) u j w k (deeper l)
  deeper_property (g.spread_property t h i) = g.spread_property t h (deeper i)
  deeper_property (g.method t h i) = g.method t h (deeper_function i)
  deeper_property (g.computed_method t h i u j k) = g.computed_method t h (deeper i) u j (deeper_function k)
  deeper_property (g.getter t h c i p j q k l) = g.getter t h c i p j q k (deeper_body l)
  deeper_property (g.setter t h c i p j v k q l m) = g.setter t h c i p j v k q l (deeper_body m)

  deeper_declared : {b : Bool} {d : ℕ} {us : List Lexeme} {t : Lexeme} {value : Option Grown} → Declares b d us t value → Declares b (suc d) us t value
  deeper_declared (g.no_value t h) = g.no_value t h
  deeper_declared (g.a_value t u h i j) = g.a_value t u h i (deeper j)

  deeper_declarations : {b : Bool} {d : ℕ} {us : List Lexeme} {ds : List Declaration} {tall : ℕ} → Declarations b d us ds tall → Declarations b (suc d) us ds tall
  deeper_declarations (g.one_declaration h) = g.one_declaration (deeper_declared h)
  deeper_declarations (g.one_more_declaration h t i j) = g.one_more_declaration (deeper_declarations h) t i (deeper_declared j)

  deeper_condition : {d : ℕ} {us : List Lexeme} {x : Grown} → Condition d us x → Condition (suc d) us x
  deeper_condition (g.condition t h i u j) = g.condition t h (deeper i) u j

  deeper_perhaps : {b : Bool} {d : ℕ} {close : Sort} {us : List Lexeme} {x : Part} → Perhaps b d close us x → Perhaps b (suc d) close us x
  deeper_perhaps (g.no_expression u h) = g.no_expression u h
  deeper_perhaps (g.an_expression h u i) = g.an_expression (deeper h) u i

  deeper_first : {d : ℕ} {us : List Lexeme} {x : Part} → First d us x → First (suc d) us x
  deeper_first (g.first_declarations t h i u j) = g.first_declarations t h (deeper_declarations i) u j
  deeper_first (g.first_expression h) = g.first_expression (deeper_perhaps h)

  deeper_block : {d : ℕ} {us : List Lexeme} {x : Grown} → Block d us x → Block (suc d) us x
  deeper_block (g.items_in_braces t h u i j) = g.items_in_braces t h u i (deeper_items j)

  deeper_catch : {d : ℕ} {us : List Lexeme} {p : Option Binding} {x : Grown} → Catch d us p x → Catch (suc d) us p x
  deeper_catch (g.catch t h i j) = g.catch t h i (deeper_block j)

  deeper_finally : {d : ℕ} {us : List Lexeme} {x : Grown} → Finally d us x → Finally (suc d) us x
  deeper_finally (g.finally t h i) = g.finally t h (deeper_block i)

  deeper_clauses : {d : ℕ} {us ts : List Lexeme} {all : Cases} → Clauses d us ts all → Clauses (suc d) us ts all
  deeper_clauses g.no_clauses = g.no_clauses
  deeper_clauses (g.one_more_case t h i j u k l) = g.one_more_case t (deeper_clauses h) i (deeper j) u k (deeper_items l)
  deeper_clauses (g.one_default t h i j u k l) = g.one_default t (deeper_clauses h) i j u k (deeper_items l)

  deeper_states : {d : ℕ} {us ts : List Lexeme} {x : Grown} → States d us ts x → States (suc d) us ts x
  deeper_states (g.expression_statement {d} {us} {ts} {x} h i j k) = g.expression_statement h i (deeper j) (still (expression_ends true d (suc d) us ts x (onward d) (some_tokens j)) k)
  deeper_states (g.block h) = g.block (deeper_block h)
  deeper_states (g.empty t h) = g.empty t h
  deeper_states (g.var {d} {tall} {us} {ts} {ds} t h i j) = g.var t h (deeper_declarations i) (still (declarations_ends true d (suc d) us ts (ds, tall) (onward d) (declarations_some i)) j)
  deeper_states (g.if_alone t h i j k) = g.if_alone t h (deeper_condition i) (deeper_states j) k
  deeper_states (g.if_else t h i u j k l) = g.if_else t h (deeper_condition i) u (deeper_states j) k (deeper_states l)
  deeper_states (g.do_alone t h u i j k l) = g.do_alone t h u (deeper_states i) j (deeper_condition k) l
  deeper_states (g.do_ended t h u v i j k l) = g.do_ended t h u v (deeper_states i) j (deeper_condition k) l
  deeper_states (g.while t h i j) = g.while t h (deeper_condition i) (deeper_states j)
  deeper_states (g.for t u h i j k l m) = g.for t u h i (deeper_first j) (deeper_perhaps k) (deeper_perhaps l) (deeper_states m)
  deeper_states (g.for_in t u v w i h j k l m n p o q) = g.for_in t u v w i h j k l m (deeper n) p o (deeper_states q)
  deeper_states (g.for_of t u v w i h j k l m n p o q) = g.for_of t u v w i h j k l m (deeper n) p o (deeper_states q)
  deeper_states (g.for_in_target t u h j k l i m n p o q) = g.for_in_target t u h j (deeper k) l i m (deeper n) p o (deeper_states q)
  deeper_states (g.for_of_target t u h j k l i m n p o q) = g.for_of_target t u h j (deeper k) l i m (deeper n) p o (deeper_states q)
  deeper_states (g.continue_alone t h i) = g.continue_alone t h i
  deeper_states (g.continue_to t u h i j k) = g.continue_to t u h i j k
  deeper_states (g.break_alone t h i) = g.break_alone t h i
  deeper_states (g.break_from t u h i j k) = g.break_from t u h i j k
  deeper_states (g.return_alone t h i) = g.return_alone t h i
  deeper_states (g.return_value {d} {us} {ts} {x} t h i j k) = g.return_value t h i (deeper j) (still (expression_ends true d (suc d) us ts x (onward d) (some_tokens j)) k)
  deeper_states (g.throw {d} {us} {ts} {x} t h i j k) = g.throw t h i (deeper j) (still (expression_ends true d (suc d) us ts x (onward d) (some_tokens j)) k)
  deeper_states (g.debugger t h i) = g.debugger t h i
  deeper_states (g.switch t h i u j v k l) = g.switch t h (deeper_condition i) u j v k (deeper_clauses l)
  deeper_states (g.try_catch t h i j k) = g.try_catch t h (deeper_block i) (deeper_catch j) k
  deeper_states (g.try_finally t h i j) = g.try_finally t h (deeper_block i) (deeper_finally j)
  deeper_states (g.try_both t h i j k) = g.try_both t h (deeper_block i) (deeper_catch j) (deeper_finally k)
  deeper_states (g.labelled t u h i j k) = g.labelled t u h i j (deeper_states k)

  deeper_item : {d : ℕ} {us ts : List Lexeme} {x : Grown} → IsItem d us ts x → IsItem (suc d) us ts x
  deeper_item (g.statement h) = g.statement (deeper_states h)
  deeper_item (g.function_item t u h i j) = g.function_item t u h i (deeper_function j)
  deeper_item (g.lexical {d} {tall} {us} {ts} {ds} t h i j) = g.lexical t h (deeper_declarations i) (still (declarations_ends true d (suc d) us ts (ds, tall) (onward d) (declarations_some i)) j)

  deeper_items : {d : ℕ} {us ts : List Lexeme} {xs : Grove} → Items d us ts xs → Items (suc d) us ts xs
  deeper_items g.no_items = g.no_items
  deeper_items (g.one_more_item h i) = g.one_more_item (deeper_items h) (deeper_item i)

more_steps : (F : ℕ → Type 0) → ((m : ℕ) → F m → F (suc m)) → (d k : ℕ) → F d → F (k + d)
more_steps F step d zero h = let z : d ≡ 0 + d = omega arith in subst F z h
more_steps F step d (suc k) h = let z : suc (k + d) ≡ suc k + d = omega arith in subst F z (step (k + d) (more_steps F step d k h))

pub by_steps : (F : ℕ → Type 0) → ((m : ℕ) → F m → F (suc m)) → (d e : ℕ) → d ≤ e → F d → F e
by_steps F step d e more h = let z : (e - d) + d ≡ e = omega (arith, more) in subst F z (more_steps F step d (e - d) h)

-- as many more as wanted
pub by_more : {s : Symbol} {us : List Lexeme} {x : Grown} (d k : ℕ) → Derives d s us x → Derives (k + d) s us x
by_more {s} {us} {x} d k h = more_steps (λ m. Derives m s us x) (λ m. deeper {d = m}) d k h

pub list_by_more : {b : Bool} {us : List Lexeme} {from : ℕ} {xs : Grove} (d k : ℕ) → Lists b d us from xs → Lists b (k + d) us from xs
list_by_more {b} {us} {from} {xs} d k h = more_steps (λ m. Lists b m us from xs) (λ m. deeper_list {d = m}) d k h

-- as many as wanted
pub lift : {s : Symbol} {us : List Lexeme} {x : Grown} (d e : ℕ) → d ≤ e → Derives d s us x → Derives e s us x
lift {s} {us} {x} d e more h = by_steps (λ m. Derives m s us x) (λ m. deeper {d = m}) d e more h

pub lift_adds : {us : List Lexeme} {xs ys : Elements} (d e : ℕ) → d ≤ e → Adds d us xs ys → Adds e us xs ys
lift_adds {us} {xs} {ys} d e more h = by_steps (λ m. Adds m us xs ys) (λ m. deeper_adds {d = m}) d e more h

pub lift_commas : {holes : Bool} {us : List Lexeme} {xs : Elements} (d e : ℕ) → d ≤ e → Commas holes d us xs → Commas holes e us xs
lift_commas {holes} {us} {xs} d e more h = by_steps (λ m. Commas holes m us xs) (λ m. deeper_commas {d = m}) d e more h

pub lift_arguments : {us : List Lexeme} {xs : Elements} (d e : ℕ) → d ≤ e → Arguments d us xs → Arguments e us xs
lift_arguments {us} {xs} d e more h = by_steps (λ m. Arguments m us xs) (λ m. deeper_arguments {d = m}) d e more h

pub lift_substitutions : {text : List ℕ} {us : List Lexeme} {all : Pieces} (d e : ℕ) → d ≤ e → Substitutions d text us all → Substitutions e text us all
lift_substitutions {text} {us} {all} d e more h = by_steps (λ m. Substitutions m text us all) (λ m. deeper_substitutions {d = m}) d e more h

pub lift_function : {us : List Lexeme} {ps : Parameters} {xs : Grove} (d e : ℕ) → d ≤ e → Function d us ps xs → Function e us ps xs
lift_function {us} {ps} {xs} d e more h = by_steps (λ m. Function m us ps xs) (λ m. deeper_function {d = m}) d e more h

pub lift_properties : {us : List Lexeme} {all : Properties} (d e : ℕ) → d ≤ e → PropertiesWithCommas d us all → PropertiesWithCommas e us all
lift_properties {us} {all} d e more h = by_steps (λ m. PropertiesWithCommas m us all) (λ m. deeper_properties {d = m}) d e more h

pub lift_property : {us : List Lexeme} {one : Property} {tall : ℕ} (d e : ℕ) → d ≤ e → OneProperty d us one tall → OneProperty e us one tall
lift_property {us} {one} {tall} d e more h = by_steps (λ m. OneProperty m us one tall) (λ m. deeper_property {d = m}) d e more h

pub lift_declared : {b : Bool} {us : List Lexeme} {t : Lexeme} {value : Option Grown} (d e : ℕ) → d ≤ e → Declares b d us t value → Declares b e us t value
lift_declared {b} {us} {t} {value} d e more h = by_steps (λ m. Declares b m us t value) (λ m. deeper_declared {d = m}) d e more h

pub lift_declarations : {b : Bool} {us : List Lexeme} {ds : List Declaration} {tall : ℕ} (d e : ℕ) → d ≤ e → Declarations b d us ds tall → Declarations b e us ds tall
lift_declarations {b} {us} {ds} {tall} d e more h = by_steps (λ m. Declarations b m us ds tall) (λ m. deeper_declarations {d = m}) d e more h

pub lift_condition : {us : List Lexeme} {x : Grown} (d e : ℕ) → d ≤ e → Condition d us x → Condition e us x
lift_condition {us} {x} d e more h = by_steps (λ m. Condition m us x) (λ m. deeper_condition {d = m}) d e more h

pub lift_perhaps : {b : Bool} {close : Sort} {us : List Lexeme} {x : Part} (d e : ℕ) → d ≤ e → Perhaps b d close us x → Perhaps b e close us x
lift_perhaps {b} {close} {us} {x} d e more h = by_steps (λ m. Perhaps b m close us x) (λ m. deeper_perhaps {d = m}) d e more h

pub lift_first : {us : List Lexeme} {x : Part} (d e : ℕ) → d ≤ e → First d us x → First e us x
lift_first {us} {x} d e more h = by_steps (λ m. First m us x) (λ m. deeper_first {d = m}) d e more h

pub lift_block : {us : List Lexeme} {x : Grown} (d e : ℕ) → d ≤ e → Block d us x → Block e us x
lift_block {us} {x} d e more h = by_steps (λ m. Block m us x) (λ m. deeper_block {d = m}) d e more h

pub lift_catch : {us : List Lexeme} {p : Option Binding} {x : Grown} (d e : ℕ) → d ≤ e → Catch d us p x → Catch e us p x
lift_catch {us} {p} {x} d e more h = by_steps (λ m. Catch m us p x) (λ m. deeper_catch {d = m}) d e more h

pub lift_clauses : {us ts : List Lexeme} {all : Cases} (d e : ℕ) → d ≤ e → Clauses d us ts all → Clauses e us ts all
lift_clauses {us} {ts} {all} d e more h = by_steps (λ m. Clauses m us ts all) (λ m. deeper_clauses {d = m}) d e more h

pub lift_states : {us ts : List Lexeme} {x : Grown} (d e : ℕ) → d ≤ e → States d us ts x → States e us ts x
lift_states {us} {ts} {x} d e more h = by_steps (λ m. States m us ts x) (λ m. deeper_states {d = m}) d e more h

pub lift_item : {us ts : List Lexeme} {x : Grown} (d e : ℕ) → d ≤ e → IsItem d us ts x → IsItem e us ts x
lift_item {us} {ts} {x} d e more h = by_steps (λ m. IsItem m us ts x) (λ m. deeper_item {d = m}) d e more h

pub lift_items : {us ts : List Lexeme} {xs : Grove} (d e : ℕ) → d ≤ e → Items d us ts xs → Items e us ts xs
lift_items {us} {ts} {xs} d e more h = by_steps (λ m. Items m us ts xs) (λ m. deeper_items {d = m}) d e more h
