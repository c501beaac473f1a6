-- What may follow a statement: only the first token tells, and a closing brace may always stand there.
use Rattle.std.proofs.Common.{◌≡◌, ℕ, true, false, List, [], ◌∷◌, ◌++◌, refl, ap, ◌∙◌}
use Rattle.sr_syntax.specs.declared.sorts.Sort.{Sort}
use Rattle.sr_syntax.specs.declared.sorts.Sort.TheVariants as k
use Rattle.sr_syntax.specs.declared.sorts.Lexeme.{Lexeme}
use Rattle.sr_syntax.specs.declared.grown.Grown.{Grown}
use Rattle.sr_syntax.specs.declared.grown.Grove.{Grove}
use Rattle.sr_syntax.specs.declared.grown.Cases.{Cases}
use Rattle.sr_syntax.specs.Sorts.{same_sort}
use Rattle.sr_syntax.specs.Input.{Parser, sort_at}
use Rattle.sr_syntax.specs.Expressions.{expression}
use Rattle.sr_syntax.specs.Declarations.{declarations}
use Rattle.sr_syntax.specs.Grammar.{tree}
use Rattle.sr_grammar.specs.Reading.{head, EndsThere}
use Rattle.sr_grammar.specs.Derivations.{Semicolon, written, before_brace, before_line, States, IsItem, Items, Clauses}
use Rattle.sr_grammar.specs.Derivations as g
use Rattle.sr_grammar.proofs.Steps.{sort_alike, line_alike}
use Rattle.sr_grammar.proofs.Sorts.{right_brace_no_else, right_brace_no_finally, right_brace_no_semicolon}

-- these may follow in place of those
pub data InPlace (ts rs : List Lexeme) : Type 0 where
  same_first : head rs ≡ head ts → InPlace ts rs
  closing_brace : sort_at rs ≡ k.RightBrace → InPlace ts rs

-- behind other tokens
pub behind_others : {ts rs : List Lexeme} (vs : List Lexeme) → InPlace ts rs → InPlace (vs ++ ts) (vs ++ rs)
behind_others [] p = p
behind_others (v ∷ vs) p = same_first refl

-- no token goes on that did not
still_not : {ts rs : List Lexeme} (s : Sort) → same_sort k.RightBrace s ≡ false → InPlace ts rs → same_sort (sort_at ts) s ≡ false → same_sort (sort_at rs) s ≡ false
still_not {ts} {rs} s other (same_first h) e = ap (λ a. same_sort a s) (sort_alike ts rs h) ∙ e
still_not s other (closing_brace h) e = ap (λ a. same_sort a s) h ∙ other

-- a semicolon that what ends there allows to be left out
pub semicolon_before : {ends other : Type 0} {vs ts rs : List Lexeme} → InPlace ts rs → (head rs ≡ head ts → ends → other) → Semicolon ends vs ts → Semicolon other vs rs
semicolon_before p f (written t c) = written t c
semicolon_before {ts = ts} {rs = rs} (same_first h) f (before_brace c) = before_brace (sort_alike ts rs h ∙ c)
semicolon_before {ts = ts} {rs = rs} (same_first h) f (before_line l c e) = before_line (line_alike ts rs h ∙ l) (ap (λ a. same_sort a k.Semicolon) (sort_alike ts rs h) ∙ c) (f h e)
semicolon_before (closing_brace h) f (before_brace c) = before_brace h
semicolon_before (closing_brace h) f (before_line l c e) = before_brace h

rule_before : {A : Type 0} (rule : Parser A) (us : List Lexeme) {vs ts rs : List Lexeme} {a : A} → InPlace ts rs → Semicolon (EndsThere rule us ts a) vs ts → Semicolon (EndsThere rule us rs a) vs rs
rule_before rule us p s = semicolon_before p (λ h e. λ last size zs same. e last size zs (same ∙ h)) s

plain_before : {vs ts rs : List Lexeme} → InPlace ts rs → Semicolon (Unit {0}) vs ts → Semicolon (Unit {0}) vs rs
plain_before p s = semicolon_before p (λ h e. tt) s

mutual
  pub states_before : {d : ℕ} {us ts rs : List Lexeme} {x : Grown} → InPlace ts rs → States d us ts x → States d us rs x
  states_before p (g.expression_statement {d} {us} b l h s) = g.expression_statement b l h (rule_before (expression (tree d) true) us p s)
  states_before p (g.block b) = g.block b
  states_before p (g.empty t c) = g.empty t c
  states_before p (g.var {d} {us = us} t c h s) = g.var t c h (rule_before (declarations (tree d) true) us p s)
  states_before p (g.if_alone t c q h e) = g.if_alone t c q (states_before p h) (still_not k.Else right_brace_no_else p e)
  states_before p (g.if_else t c q u h e i) = g.if_else t c q u (states_before (same_first refl) h) e (states_before p i)
  states_before p (g.do_alone t c u h e q n) = g.do_alone t c u (states_before (same_first refl) h) e q (still_not k.Semicolon right_brace_no_semicolon p n)
  states_before p (g.do_ended t c u v h e q f) = g.do_ended t c u v (states_before (same_first refl) h) e q f
  states_before p (g.while t c q h) = g.while t c q (states_before p h)
  states_before p (g.for t u c e a q r h) = g.for t u c e a q r (states_before p h)
  states_before p (g.for_in t u v w i c e how f o x q j h) = g.for_in t u v w i c e how f o x q j (states_before p h)
  states_before p (g.for_of t u v w i c e how f o x q j h) = g.for_of t u v w i c e how f o x q j (states_before p h)
  states_before p (g.for_in_target t u c e z is i o x q j h) = g.for_in_target t u c e z is i o x q j (states_before p h)
  states_before p (g.for_of_target t u c e z is i o x q j h) = g.for_of_target t u c e z is i o x q j (states_before p h)
  states_before p (g.continue_alone t c s) = g.continue_alone t c (plain_before p s)
  states_before p (g.continue_to t u c e l s) = g.continue_to t u c e l (plain_before p s)
  states_before p (g.break_alone t c s) = g.break_alone t c (plain_before p s)
  states_before p (g.break_from t u c e l s) = g.break_from t u c e l (plain_before p s)
  states_before p (g.return_alone t c s) = g.return_alone t c (plain_before p s)
  states_before p (g.return_value {d} {us} t c l h s) = g.return_value t c l h (rule_before (expression (tree d) true) us p s)
  states_before p (g.throw {d} {us} t c l h s) = g.throw t c l h (rule_before (expression (tree d) true) us p s)
  states_before p (g.debugger t c s) = g.debugger t c (plain_before p s)
  states_before p (g.switch t c q u e v f w) = g.switch t c q u e v f (clauses_before (same_first refl) w)
  states_before p (g.try_catch t c b h n) = g.try_catch t c b h (still_not k.Finally right_brace_no_finally p n)
  states_before p (g.try_finally t c b h) = g.try_finally t c b h
  states_before p (g.try_both t c b h i) = g.try_both t c b h i
  states_before p (g.labelled t u c a e h) = g.labelled t u c a e (states_before p h)

  pub item_before : {d : ℕ} {us ts rs : List Lexeme} {x : Grown} → InPlace ts rs → IsItem d us ts x → IsItem d us rs x
  item_before p (g.statement h) = g.statement (states_before p h)
  item_before p (g.function_item t u c e f) = g.function_item t u c e f
  item_before p (g.lexical {d} {us = us} t c h s) = g.lexical t c h (rule_before (declarations (tree d) true) us p s)

  pub items_before : {d : ℕ} {us ts rs : List Lexeme} {xs : Grove} → InPlace ts rs → Items d us ts xs → Items d us rs xs
  items_before p g.no_items = g.no_items
  items_before p (g.one_more_item {vs = vs} w h) = g.one_more_item (items_before (behind_others vs p) w) (item_before p h)

  pub clauses_before : {d : ℕ} {us ts rs : List Lexeme} {all : Cases} → InPlace ts rs → Clauses d us ts all → Clauses d us rs all
  clauses_before p g.no_clauses = g.no_clauses
  clauses_before p (g.one_more_case t w c h u e i) = g.one_more_case t (clauses_before (same_first refl) w) c h u e (items_before p i)
  clauses_before p (g.one_default t w c n u e i) = g.one_default t (clauses_before (same_first refl) w) c n u e (items_before p i)
