-- What derives is read: properties and objects.
use Rattle.std.proofs.Common.{◌≡◌, ℕ, suc, ◌+◌, ◌<◌, max, Bool, true, false, List, [], ◌∷◌, ◌++◌, length, Some, refl, ap, ◌∙◌, length-append, arith, if◌then◌else◌}
use Rattle.std.specs.Prelude.{codes}
use Rattle.sr_ast.specs.declared.binding.Parameters.{Parameters}
use Rattle.sr_ast.specs.declared.binding.PropertyName.{PropertyName}
use Rattle.sr_ast.specs.declared.binding.PropertyName.TheVariants as property_name
use Rattle.sr_ast.specs.declared.tree.Node.TheVariants as node
use Rattle.sr_ast.specs.declared.tree.Property.{Property}
use Rattle.sr_ast.specs.declared.tree.Property.TheVariants as property
use Rattle.sr_syntax.specs.declared.grown.Accessor.{Accessor}
use Rattle.sr_syntax.specs.declared.grown.Accessor.TheVariants as accessor
use Rattle.sr_syntax.specs.declared.grown.Properties.{Properties}
use Rattle.sr_syntax.specs.declared.sorts.Sort.TheVariants as k
use Rattle.sr_syntax.specs.declared.sorts.Sort.{Sort}
use Rattle.sr_syntax.specs.declared.sorts.Lexeme.{Lexeme}
use Rattle.sr_syntax.specs.declared.grown.Grown.{Grown}
use Rattle.sr_syntax.specs.declared.grown.Grove.{Grove}
use Rattle.sr_syntax.specs.Sorts.{same_sort}
use Rattle.sr_syntax.specs.Input.{Parser, ◌>>=◌, pure, eat, expect, sees, sort, sort_at, next, complete, text_of}
use Rattle.sr_syntax.specs.Objects.{is_proto, no_properties, with_property, shorthand, value_of_key, method, keyed, named_property, computed_value, computed_method, computed_end, computed, getter, setter, accessor_of, spread_property, plain_by, one_property, properties_from, properties, object}
use Rattle.sr_syntax.specs.Expressions.{primary}
use Rattle.sr_syntax.specs.Grammar.{tree}
use Rattle.sr_grammar.specs.Names.{binding_of, is_text, key_of}
use Rattle.sr_grammar.specs.Derivations.{Assign, whole}
use Rattle.sr_grammar.specs.Continuing.{looseness, Ends}
use Rattle.sr_grammar.proofs.Steps.{inp}
use Rattle.sr_grammar.proofs.Gets.{gets_is}
use Rattle.sr_grammar.proofs.Completing.{is_sort, loose_sort, expect_goes}
use Rattle.sr_grammar.proofs.Claims.{Claim, primary_is}
use Rattle.sr_grammar.proofs.Taking.{Whatever, Follow, Moves, Takes, moves_then, moves_first, moves_last, moves_on, moves_at, moves_is, moves_when, moves_now, moves_whole, moves_whole_on, moves_expect, moves_eat, moves_over, Loops, loops_none, loops_more, loops_last}
use Rattle.sr_grammar.proofs.ParameterClaims.{other_sort, no_parameters_read, one_parameter_read}
use Rattle.sr_grammar.proofs.FunctionClaims.{nest_takes, BodyClaim, body_goes, FunctionClaim, function_goes, function_first}
use Rattle.sr_grammar.proofs.KeyClaims.{opens, closes, Closes, closes_no_key, key_read, key_no_brace, plain_is, named_goes, keyed_goes, word_sort, accessor_read}
use Rattle.sr_grammar.proofs.Sorts.{colon_no_left_parenthesis, colon_self, comma_self, ellipsis_no_identifier, ellipsis_no_right_brace, identifier_no_right_brace, left_bracket_no_identifier, left_bracket_no_right_brace, left_parenthesis_self, right_brace_no_comma, right_brace_self, right_bracket_self}
use Rattle.sr_grammar.proofs.PropertyFacts.{word_of}

closes_ends : (r : List Lexeme) → Closes r → Ends true 15 r
closes_ends [] e = tt
closes_ends (t ∷ ts) e = go t.sort t.line_before e
  where
    go : (s : Sort) (line : Bool) → closes s ≡ true → 15 < looseness true line s
    go k.Comma line e = omega arith
    go k.RightBrace line e = omega arith
    go _ line e = cc

-- ---- a property

-- how a property is read
pub record PropertyClaim (d : ℕ) (us : List Lexeme) (one : Property) (tall : ℕ) : Type 0 where
  pub reads : Takes (one_property (tree d)) us tall (one, tall) Closes
  pub first : (r : List Lexeme) → same_sort (sort_at (us ++ r)) k.RightBrace ≡ false
  pub some : 0 < length us

closes_no_left : (s : Sort) → closes s ≡ true → same_sort s k.LeftParenthesis ≡ false
unfolding same_sort
closes_no_left k.Comma e = refl
closes_no_left k.RightBrace e = refl
closes_no_left _ e = cc

closes_no_colon : (s : Sort) → closes s ≡ true → same_sort s k.Colon ≡ false
unfolding same_sort
closes_no_colon k.Comma e = refl
closes_no_colon k.RightBrace e = refl
closes_no_colon _ e = cc

shorthand_step : (d from : ℕ) (called : List ℕ) → Moves (named_property (tree d) from called) [] 0 (shorthand from called) Closes
unfolding named_property sees sort
shorthand_step d from called = moves_now (λ r l n q. rw (closes_no_left (sort_at r) q) (rw (closes_no_colon (sort_at r) q) refl))

pub shorthand_reads : (d : ℕ) (t : Lexeme) → t.sort ≡ k.Identifier
    → PropertyClaim d (t ∷ []) (property.Named (property_name.Text (text_of t.content)) (whole (node.Name (text_of t.content)) t.from (t ∷ []) 0).tree) 1
unfolding shorthand
shorthand_reads d t c = record {
  reads = moves_whole_on (node.Name (text_of t.content)) t.from 0 (omega arith) (omega arith) (λ x. pure (property.Named (property_name.Text (text_of t.content)) x.tree, x.height))
      (moves_last (named_goes d t c) (λ r q. closes_no_key (sort_at r) q) (shorthand_step d t.from (text_of t.content)));
  first = λ r. other_sort t k.Identifier k.RightBrace c identifier_no_right_brace;
  some = omega arith;
}

colon_step : (d from : ℕ) (called : PropertyName) (u : Lexeme) → is_proto called ≡ false → u.sort ≡ k.Colon → Moves (keyed (tree d) from called) (u ∷ []) 0 (value_of_key (tree d) called) Whatever
unfolding keyed sees sort next
colon_step d from called u p c = moves_now (λ r l n q. rw (other_sort u k.Colon k.LeftParenthesis c colon_no_left_parenthesis) (rw (is_sort k.Colon u.sort c colon_self) (rw p refl)))

pub keyed_reads : (d : ℕ) (us : List Lexeme) (t u : Lexeme) (x : Grown) (called : PropertyName) → key_of t ≡ Some called → is_proto called ≡ false → u.sort ≡ k.Colon → Claim d (Assign true) us x
    → PropertyClaim (suc d) (t ∷ u ∷ us) (property.Named called x.tree) x.height
unfolding value_of_key
keyed_reads d us t u x called h p c i = record {
  reads = moves_at (max 0 (max 0 x.height)) x.height (omega arith)
      (moves_then (keyed_goes (suc d) t called h) (λ r q. ap opens c)
      (moves_then (colon_step (suc d) t.from called u p c) (λ r q. tt)
      (moves_when (λ r q. closes_ends r q) (moves_on (nest_takes d true us x i) (λ x. pure (property.Named called x.tree, x.height))))));
  first = λ r. key_no_brace t called h;
  some = omega arith;
}

method_step : {d : ℕ} {us : List Lexeme} {ps : Parameters} {xs : Grove} (from : ℕ) (called : PropertyName) → FunctionClaim d us ps xs
    → Moves (keyed (tree d) from called) us xs.tall (complete (node.Method called ps xs.trees) from xs.tall >>= (λ x. pure (property.Method x.tree, x.height))) Whatever
unfolding keyed method sees sort
method_step from called w =
    moves_is (λ r l n q. rw (ap (λ s. same_sort s k.LeftParenthesis) (function_first w r) ∙ left_parenthesis_self) refl)
    (function_goes w (λ ps all. complete (node.Method called ps all.trees) from all.tall >>= (λ x. pure (property.Method x.tree, x.height))))

pub method_reads : {d : ℕ} {us : List Lexeme} {ps : Parameters} {xs : Grove} (t : Lexeme) (called : PropertyName) → key_of t ≡ Some called → FunctionClaim d us ps xs
    → PropertyClaim d (t ∷ us) (property.Method (whole (node.Method called ps xs.trees) t.from (t ∷ us) xs.tall).tree) (xs.tall + 1)
method_reads {d} {us} {ps} {xs} t called h w = record {
  reads = moves_when (λ r q. tt) (moves_whole_on (node.Method called ps xs.trees) t.from xs.tall (omega arith) (omega arith) (λ x. pure (property.Method x.tree, x.height))
      (moves_then (keyed_goes d t called h) (λ r q. ap opens (function_first w r)) (method_step t.from called w)));
  first = λ r. key_no_brace t called h;
  some = omega arith;
}

spread_step : (d : ℕ) (t : Lexeme) → t.sort ≡ k.Ellipsis → Moves (one_property (tree d)) (t ∷ []) 0 (spread_property (tree d)) Whatever
unfolding next
spread_step d t c = moves_now (λ r l n q. plain_is d t (other_sort t k.Ellipsis k.Identifier c ellipsis_no_identifier) r l n ∙ ap (λ s. plain_by (tree d) t.from s (inp (t ∷ r) l n)) c)

pub spread_reads : (d : ℕ) (us : List Lexeme) (t : Lexeme) (x : Grown) → t.sort ≡ k.Ellipsis → Claim d (Assign true) us x → PropertyClaim (suc d) (t ∷ us) (property.Spread x.tree) x.height
unfolding spread_property
spread_reads d us t x c i = record {
  reads = moves_at (max 0 x.height) x.height (omega arith)
      (moves_then (spread_step (suc d) t c) (λ r q. tt) (moves_when (λ r q. closes_ends r q) (moves_on (nest_takes d true us x i) (λ x. pure (property.Spread x.tree, x.height)))));
  first = λ r. other_sort t k.Ellipsis k.RightBrace c ellipsis_no_right_brace;
  some = omega arith;
}

-- ---- with a computed key

computed_step : (d : ℕ) (t : Lexeme) → t.sort ≡ k.LeftBracket → Moves (one_property (tree d)) (t ∷ []) 0 (computed (tree d) t.from) Whatever
unfolding next
computed_step d t c = moves_now (λ r l n q. plain_is d t (other_sort t k.LeftBracket k.Identifier c left_bracket_no_identifier) r l n ∙ ap (λ s. plain_by (tree d) t.from s (inp (t ∷ r) l n)) c)

-- up to the bracket, and what is behind it
computed_goes : {h : ℕ} {vs : List Lexeme} {V : Parser (Property × ℕ)} {Q : Follow} (d : ℕ) (us : List Lexeme) (t u : Lexeme) (x : Grown) → t.sort ≡ k.LeftBracket → Claim d (Assign true) us x → u.sort ≡ k.RightBracket
    → Moves (computed_end (tree (suc d)) t.from x) vs h V Q → Moves (one_property (tree (suc d))) (t ∷ (us ++ u ∷ vs)) (max x.height h) V Q
unfolding computed
computed_goes {h} {vs} d us t u x c i e m =
    moves_at (max 0 (max x.height (max 0 h))) (max x.height h) (omega arith)
    (moves_then (computed_step (suc d) t c) (λ r q. tt)
    (moves_then (moves_on (nest_takes d true us x i) _) (λ r q. loose_sort true u k.RightBracket 15 e (λ line. omega arith) (vs ++ r))
    (moves_then (moves_expect k.RightBracket u e right_bracket_self) (λ r q. tt) m)))

computed_colon : (d from : ℕ) (x : Grown) (w : Lexeme) → w.sort ≡ k.Colon → Moves (computed_end (tree d) from x) (w ∷ []) 0 (computed_value (tree d) x) Whatever
unfolding computed_end sees sort
computed_colon d from x w c = moves_now (λ r l n q. rw (other_sort w k.Colon k.LeftParenthesis c colon_no_left_parenthesis) (expect_goes k.Colon w r l n c colon_self (λ u. computed_value (tree d) x)))

pub computed_reads : (d : ℕ) (us vs : List Lexeme) (t u w : Lexeme) (x y : Grown) → t.sort ≡ k.LeftBracket → Claim d (Assign true) us x → u.sort ≡ k.RightBracket → w.sort ≡ k.Colon → Claim d (Assign true) vs y
    → PropertyClaim (suc d) (t ∷ (us ++ u ∷ w ∷ vs)) (property.Computed x.tree y.tree) (max x.height y.height)
unfolding computed_value
computed_reads d us vs t u w x y c i e p j = record {
  reads = computed_goes d us t u x c i e (moves_at (max 0 y.height) y.height (omega arith)
      (moves_then (computed_colon (suc d) t.from x w p) (λ r q. tt) (moves_when (λ r q. closes_ends r q) (moves_on (nest_takes d true vs y j) (λ y. pure (property.Computed x.tree y.tree, max x.height y.height))))));
  first = λ r. other_sort t k.LeftBracket k.RightBrace c left_bracket_no_right_brace;
  some = omega arith;
}

computed_method_step : {d : ℕ} {us : List Lexeme} {ps : Parameters} {xs : Grove} (from : ℕ) (x : Grown) → FunctionClaim d us ps xs
    → Moves (computed_end (tree d) from x) us xs.tall (complete (node.ComputedMethod x.tree ps xs.trees) from (max x.height xs.tall) >>= (λ y. pure (property.Method y.tree, y.height))) Whatever
unfolding computed_end computed_method sees sort
computed_method_step from x w =
    moves_is (λ r l n q. rw (ap (λ s. same_sort s k.LeftParenthesis) (function_first w r) ∙ left_parenthesis_self) refl)
    (function_goes w (λ ps all. complete (node.ComputedMethod x.tree ps all.trees) from (max x.height all.tall) >>= (λ y. pure (property.Method y.tree, y.height))))

pub computed_method_reads : {ps : Parameters} {xs : Grove} (d : ℕ) (us vs : List Lexeme) (t u : Lexeme) (x : Grown) → t.sort ≡ k.LeftBracket → Claim d (Assign true) us x → u.sort ≡ k.RightBracket → FunctionClaim (suc d) vs ps xs
    → PropertyClaim (suc d) (t ∷ (us ++ u ∷ vs)) (property.Method (whole (node.ComputedMethod x.tree ps xs.trees) t.from (t ∷ (us ++ u ∷ vs)) (max x.height xs.tall)).tree) (max x.height xs.tall + 1)
computed_method_reads {ps} {xs} d us vs t u x c i e w = record {
  reads = moves_when (λ r q. tt) (moves_whole_on (node.ComputedMethod x.tree ps xs.trees) t.from (max x.height xs.tall) (omega arith) (omega arith) (λ y. pure (property.Method y.tree, y.height))
      (computed_goes d us t u x c i e (computed_method_step t.from x w)));
  first = λ r. other_sort t k.LeftBracket k.RightBrace c left_bracket_no_right_brace;
  some = omega arith;
}

-- ---- accessors

accessor_moves : {h : ℕ} {us : List Lexeme} {V : Parser (Property × ℕ)} {Q : Follow} (d : ℕ) (which : Accessor) (t c : Lexeme) (called : PropertyName) → is_text (word_of which) t ≡ true → key_of c ≡ Some called
    → Moves (accessor_of (tree d) t.from which) (c ∷ us) h V Q → Moves (one_property (tree d)) (t ∷ c ∷ us) h V Q
accessor_moves {us} d which t c called h key m = record { gets = λ r l n q. gets_is (accessor_of (tree d) t.from which (inp (c ∷ (us ++ r)) t.to n)) (accessor_read d which t c called h key (us ++ r) l n) (m.gets r t.to n q) }

pub getter_reads : {d : ℕ} {us : List Lexeme} {xs : Grove} (t c p q : Lexeme) (called : PropertyName) → is_text (codes "get") t ≡ true → key_of c ≡ Some called → p.sort ≡ k.LeftParenthesis → q.sort ≡ k.RightParenthesis
    → BodyClaim d us xs → PropertyClaim d (t ∷ c ∷ p ∷ q ∷ us) (property.Method (whole (node.Getter called xs.trees) t.from (t ∷ c ∷ p ∷ q ∷ us) xs.tall).tree) (xs.tall + 1)
unfolding getter
getter_reads {d} {us} {xs} t c p q called h key e f w = record {
  reads = moves_when (λ r q. tt) (moves_whole_on (node.Getter called xs.trees) t.from xs.tall (omega arith) (omega arith) (λ x. pure (property.Method x.tree, x.height))
      (accessor_moves d accessor.Getter t c called h key
      (moves_then (moves_on (key_read c called key) _) (λ r q. tt)
      (moves_then (no_parameters_read p q e f _) (λ r q. tt)
      (body_goes w (λ all. complete (node.Getter called all.trees) t.from all.tall >>= (λ x. pure (property.Method x.tree, x.height))))))));
  first = λ r. other_sort t k.Identifier k.RightBrace (word_sort (codes "get") t h) identifier_no_right_brace;
  some = omega arith;
}

pub setter_reads : {d : ℕ} {us : List Lexeme} {xs : Grove} (t c p v q : Lexeme) (called : PropertyName) → is_text (codes "set") t ≡ true → key_of c ≡ Some called
    → p.sort ≡ k.LeftParenthesis → v.sort ≡ k.Identifier → q.sort ≡ k.RightParenthesis → BodyClaim d us xs
    → PropertyClaim d (t ∷ c ∷ p ∷ v ∷ q ∷ us) (property.Method (whole (node.Setter called (binding_of v) xs.trees) t.from (t ∷ c ∷ p ∷ v ∷ q ∷ us) xs.tall).tree) (xs.tall + 1)
unfolding setter
setter_reads {d} {us} {xs} t c p v q called h key e i f w = record {
  reads = moves_when (λ r q. tt) (moves_whole_on (node.Setter called (binding_of v) xs.trees) t.from xs.tall (omega arith) (omega arith) (λ x. pure (property.Method x.tree, x.height))
      (accessor_moves d accessor.Setter t c called h key
      (moves_then (moves_on (key_read c called key) _) (λ r q. tt)
      (moves_then (moves_on (one_parameter_read p v q e i f) _) (λ r q. tt)
      (body_goes w (λ all. complete (node.Setter called (binding_of v) all.trees) t.from all.tall >>= (λ x. pure (property.Method x.tree, x.height))))))));
  first = λ r. other_sort t k.Identifier k.RightBrace (word_sort (codes "set") t h) identifier_no_right_brace;
  some = omega arith;
}

-- ---- objects

property_turn : {d tall : ℕ} {us : List Lexeme} {one : Property} (m : ℕ) (all : Properties) → PropertyClaim d us one tall
    → Moves (properties_from (tree d) (suc m) all) us tall (eat k.Comma >>= (λ more. if more then properties_from (tree d) m (with_property all (one, tall)) else (expect k.RightBrace >>= (λ u. pure (with_property all (one, tall)))))) Closes
unfolding properties_from
property_turn {tall} m all w = moves_at (max 0 tall) tall (omega arith) (moves_first (moves_over k.RightBrace _ _) (λ r q. w.first r) (moves_on w.reads _))

pub no_properties_read : (d : ℕ) → Loops (properties_from (tree d)) [] 0 no_properties no_properties Whatever
no_properties_read d = loops_none (properties_from (tree d)) no_properties Whatever

pub one_more_property_read : {d tall : ℕ} {us vs : List Lexeme} {all : Properties} {one : Property} (t : Lexeme) → Loops (properties_from (tree d)) us all.tall no_properties all Whatever → PropertyClaim d vs one tall → t.sort ≡ k.Comma
    → Loops (properties_from (tree d)) (us ++ (vs ++ t ∷ [])) (with_property all (one, tall)).tall no_properties (with_property all (one, tall)) Whatever
one_more_property_read {tall} {vs = vs} {all} t w h c =
    loops_more w (λ r q. tt) (omega (arith, h.some, length-append vs (t ∷ []))) (λ m. moves_at (max tall 0) tall (omega arith) (moves_then (property_turn m all h) (λ r q. ap closes c) (moves_eat k.Comma _ _ t c comma_self)))

properties_over : (d m : ℕ) (all : Properties) (u : Lexeme) → u.sort ≡ k.RightBrace → Takes (properties_from (tree d) (suc m) all) (u ∷ []) 0 all Whatever
unfolding properties_from
properties_over d m all u c = moves_eat k.RightBrace _ _ u c right_brace_self

pub property_comma_last_read : (d : ℕ) {us : List Lexeme} {all : Properties} (u : Lexeme) → Loops (properties_from (tree d)) us all.tall no_properties all Whatever → u.sort ≡ k.RightBrace
    → Takes (properties (tree d)) (us ++ u ∷ []) all.tall all Whatever
unfolding properties
property_comma_last_read d {all = all} u w c = moves_at (max all.tall 0) all.tall (omega arith) (loops_last w (λ r q. tt) (λ m. properties_over d m all u c))

pub property_last_read : (d : ℕ) {tall : ℕ} {us vs : List Lexeme} {all : Properties} {one : Property} (u : Lexeme) → Loops (properties_from (tree d)) us all.tall no_properties all Whatever → PropertyClaim d vs one tall → u.sort ≡ k.RightBrace
    → Takes (properties (tree d)) (us ++ (vs ++ u ∷ [])) (with_property all (one, tall)).tall (with_property all (one, tall)) Whatever
unfolding properties
property_last_read d {tall} {all = all} u w h c =
    loops_last w (λ r q. tt) (λ m. moves_at (max tall (max 0 0)) tall (omega arith)
    (moves_then (property_turn m all h) (λ r q. ap closes c)
    (moves_first (moves_over k.Comma _ _) (λ r q. other_sort u k.RightBrace k.Comma c right_brace_no_comma) (moves_expect k.RightBrace u c right_brace_self))))

object_step : (d : ℕ) (t : Lexeme) → t.sort ≡ k.LeftBrace → Moves (primary (tree d)) (t ∷ []) 0 (object (tree d) t.from) Whatever
unfolding next
object_step d t c = moves_now (λ r l n q. primary_is d t r l n k.LeftBrace c)

pub object_reads : (d : ℕ) {us : List Lexeme} {all : Properties} (t : Lexeme) → t.sort ≡ k.LeftBrace → Takes (properties (tree d)) us all.tall all Whatever
    → Takes (primary (tree d)) (t ∷ us) (all.tall + 1) (whole (node.Object all.items) t.from (t ∷ us) all.tall) Whatever
unfolding object
object_reads d {us} {all} t c w =
    moves_whole (node.Object all.items) t.from all.tall (omega arith) (omega arith) (moves_then (object_step d t c) (λ r q. tt) (moves_on w (λ all. complete (node.Object all.items) t.from all.tall)))
