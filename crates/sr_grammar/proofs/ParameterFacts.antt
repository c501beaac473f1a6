-- What the rules of names that are bound and of parameters read, and where they fail.
use Rattle.std.proofs.Common.{◌≡◌, ℕ, zero, suc, ◌+◌, ◌≤◌, Bool, true, false, List, [], ◌∷◌, ◌++◌, length, Option, None, Some, Ok, Err, refl, sym, ap, ◌∙◌, subst, arith, ◌⊎◌, inl, inr, if◌then◌else◌}
use Rattle.sr_ast.specs.declared.binding.Binding.{Binding}
use Rattle.sr_ast.specs.declared.binding.Parameters.{Parameters}
use Rattle.sr_syntax.specs.declared.sorts.Sort.TheVariants as k
use Rattle.sr_syntax.specs.declared.sorts.Lexeme.{Lexeme}
use Rattle.sr_syntax.specs.Input.{Input, Outcome, Parser, ◌>>=◌, and_then, pure, eat, expect, sees, after, left, text, text_of, place}
use Rattle.sr_syntax.specs.Operators.{name}
use Rattle.sr_syntax.specs.Bodies.{binding, binding_if_there, parameters_of, rest_parameter, parameters_from, parameters, parameter_list, no_parameters, one_parameter}
use Rattle.sr_grammar.specs.Names.{binding_of, NamesWithCommas, no_names, one_more_name, Params, comma_before, name_before, rest_before}
use Rattle.sr_grammar.proofs.Steps.{inp, Fact, Any, Parses, Both, both, Either, first, second, Never, Nowhere, Pure, nothing, Looked, looked, Taken, taken, Eaten, ate, absent, Expected, expected, Here, here, Chosen, yes, no, ChosenFault, yes_fault, no_fault, map, given, then_any, look, take, place_shallow, eaten, expecting, purely, refused, choose_any, turns, finish, pred, not_both, same_sort_true}
use Rattle.sr_grammar.proofs.Facts.{Mapped, mapped, mapping, token}
use Rattle.sr_grammar.proofs.Lists.{assoc}
use Rattle.sr_grammar.proofs.Beginnings.{begun_more, Wholly, wholly, Partly, partly, carry, begun_whole, Turned, onwards, at_end, Broken, broken, turned_runs, turned_breaks, turned_grows}
use Rattle.sr_grammar.proofs.Peeks.{text_shallow}
use Rattle.sr_grammar.proofs.Choices.{Decided, decided, denied, DecidedFault, decided_fault, denied_fault, deciding, Sees, sees_test, seen_left}
use Rattle.sr_grammar.proofs.Sorts.{end_no_comma, end_no_ellipsis, end_no_identifier, end_no_left_parenthesis, end_no_right_parenthesis}

-- ---- names that are not reserved

-- a name
pub data Called (l n : ℕ) : List Lexeme → List Lexeme → List ℕ → Type 0 where
  called_by : {ts : List Lexeme} {x : List ℕ} (t : Lexeme) → t.sort ≡ k.Identifier → x ≡ text_of t.content → Called l n (t ∷ []) ts x

name_fact : {l n : ℕ} {us ts : List Lexeme} {x : List ℕ} → Decided (Sees k.Identifier) (Taken text) Nowhere l n us ts x → Called l n us ts x
unfolding text
name_fact (decided is (taken t e)) = called_by t (same_sort_true t.sort k.Identifier is) e
name_fact (denied is r) = elim r [ ]

name_fault : {l n : ℕ} {us ts : List Lexeme} → DecidedFault (Sees k.Identifier) Never Here l n us ts → Here l n us ts
name_fault (decided_fault is c) = elim c [ ]
name_fault (denied_fault is h) = h

pub names : {d : ℕ} → Parses (λ e. name) d Any Called Here
unfolding name text
names = map (λ l n us ts x r. name_fact r) (λ l n us ts r. name_fault r)
    (deciding (sees k.Identifier) (Sees k.Identifier) (sees_test k.Identifier) (given (seen_left k.Identifier end_no_identifier) (take text text_shallow)) (given (λ ts m. tt) refused))

-- a name that is bound
pub data Bound (l n : ℕ) : List Lexeme → List Lexeme → Binding → Type 0 where
  bound : {ts : List Lexeme} {x : Binding} (t : Lexeme) → t.sort ≡ k.Identifier → x ≡ binding_of t → Bound l n (t ∷ []) ts x

abbrev binding_at : ℕ → List ℕ → Binding
binding_at from called = record { name = called; from = from }

bound_fact : {l n : ℕ} {us ts : List Lexeme} {x : Binding} → Both (Looked place) (λ from. Mapped Called (binding_at from)) l n us ts x → Bound l n us ts x
unfolding place
bound_fact (both {x = from} (looked e) (mapped called (called_by t c f) is)) = bound t c (is ∙ ap (λ a. binding_at from a) f ∙ ap (λ a. binding_at a (text_of t.content)) e)

bound_fault : {l n : ℕ} {us ts : List Lexeme} → Either Never (Looked place) (λ from. Here) l n us ts → Here l n us ts
bound_fault (first c) = elim c [ ]
bound_fault (second (looked e) h) = h

pub bindings : {d : ℕ} → Parses (λ e. binding) d Any Bound Here
unfolding binding
bindings = map (λ l n us ts x r. bound_fact r) (λ l n us ts r. bound_fault r) (then_any (look place place_shallow) (λ from. mapping names (binding_at from)))

-- a name that is bound, or none where no name comes next
pub data BoundIfThere (l n : ℕ) : List Lexeme → List Lexeme → Option Binding → Type 0 where
  one_bound : {ts : List Lexeme} {o : Option Binding} (t : Lexeme) → t.sort ≡ k.Identifier → o ≡ Some (binding_of t) → BoundIfThere l n (t ∷ []) ts o
  none_bound : {ts : List Lexeme} {o : Option Binding} → Sees k.Identifier ts ≡ false → o ≡ None → BoundIfThere l n [] ts o

if_there_fact : {l n : ℕ} {us ts : List Lexeme} {o : Option Binding} → Decided (Sees k.Identifier) (Mapped Bound (λ x. Some x)) (Pure None) l n us ts o → BoundIfThere l n us ts o
if_there_fact (decided is (mapped x (bound t c e) f)) = one_bound t c (f ∙ ap (λ x. Some x) e)
if_there_fact (denied is (nothing e)) = none_bound is e

if_there_fault : {l n : ℕ} {us ts : List Lexeme} → DecidedFault (Sees k.Identifier) Here Never l n us ts → Here l n us ts
if_there_fault (decided_fault is h) = h
if_there_fault (denied_fault is c) = elim c [ ]

pub bindings_if_there : {d : ℕ} → Parses (λ e. binding_if_there) d Any BoundIfThere Here
unfolding binding_if_there
bindings_if_there = map (λ l n us ts x r. if_there_fact r) (λ l n us ts r. if_there_fault r)
    (deciding (sees k.Identifier) (Sees k.Identifier) (sees_test k.Identifier) (given (λ ts m. tt) (mapping bindings (λ x. Some x))) (given (λ ts m. tt) (purely None)))

-- ---- parameters

abbrev pub ParamsOf : ℕ → List Lexeme → Parameters → Type 0
ParamsOf e us ps = Params us ps

abbrev NamesSoFar : ℕ → List Lexeme → List Lexeme → List Binding → Type 0
NamesSoFar d us ts xs = NamesWithCommas us xs

abbrev ParamsThen : ℕ → List Lexeme → List Lexeme → Parameters → Type 0
ParamsThen d us ts ps = Params us ps

abbrev rest_step : List Binding → Parser (List Binding ⊎ Parameters)
rest_step found = binding >>= (λ last. expect k.RightParenthesis >>= (λ u i. Ok (inr (parameters_of found (Some last)), i)))

abbrev name_step : List Binding → Parser (List Binding ⊎ Parameters)
name_step found = binding >>= (λ x. eat k.Comma >>= (λ more. if more then (λ i. Ok (inl (found ++ x ∷ []), i)) else (expect k.RightParenthesis >>= (λ u i. Ok (inr (parameters_of (found ++ x ∷ []) None), i)))))

abbrev parameter_step : ℕ → List Binding → Parser (List Binding ⊎ Parameters)
parameter_step e found = eat k.RightParenthesis >>= (λ is_over. if is_over then (λ i. Ok (inr (parameters_of found None), i)) else
    (eat k.Ellipsis >>= (λ is_rest. if is_rest then rest_step found else name_step found)))

abbrev RestFact : List Binding → Fact (List Binding ⊎ Parameters)
RestFact found = Both Bound (λ last. Mapped (Expected k.RightParenthesis) (λ u. inr (parameters_of found (Some last))))

abbrev NameFact : List Binding → Fact (List Binding ⊎ Parameters)
NameFact found = Both Bound (λ x. Both (Eaten k.Comma) (λ m. Chosen m (Pure (inl (found ++ x ∷ []))) (Mapped (Expected k.RightParenthesis) (λ u. inr (parameters_of (found ++ x ∷ []) None)))))

abbrev ParameterFact : List Binding → Fact (List Binding ⊎ Parameters)
ParameterFact found = Both (Eaten k.RightParenthesis) (λ b. Chosen b (Pure (inr (parameters_of found None))) (Both (Eaten k.Ellipsis) (λ h. Chosen h (RestFact found) (NameFact found))))

parameter_fact : {d l n : ℕ} {us ts : List Lexeme} {found : List Binding} {o : List Binding ⊎ Parameters} → ParameterFact found l n us ts o → Turned NamesSoFar ParamsThen d found l n us ts o
parameter_fact {found = found} (both (ate t c e) (yes f (nothing is))) = at_end (parameters_of found None) (λ vs w. comma_before w t c) is
parameter_fact (both (ate t c e) (no f r)) = absurd (not_both e f)
parameter_fact (both (absent e o) (yes f r)) = absurd (not_both f e)
parameter_fact {found = found} (both (absent e o) (no f (both (ate t c i) (yes j (both (bound u g h) (mapped v (expected w q) is)))))) =
    at_end (parameters_of found (Some (binding_of u))) (λ vs s. rest_before s t c u g w q) (is ∙ ap (λ x. inr (parameters_of found (Some x))) h)
parameter_fact (both (absent e o) (no f (both (ate t c i) (no j r)))) = absurd (not_both i j)
parameter_fact (both (absent e o) (no f (both (absent i p) (yes j r)))) = absurd (not_both j i)
parameter_fact {found = found} (both (absent e o) (no f (both (absent i p) (no j (both (bound u g h) (both (ate t c q) (yes m (nothing is)))))))) =
    onwards (found ++ binding_of u ∷ []) (λ vs s. one_more_name s u g t c) (omega arith) (is ∙ ap (λ x. inl (found ++ x ∷ [])) h)
parameter_fact (both (absent e o) (no f (both (absent i p) (no j (both b (both (ate t c q) (no m r))))))) = absurd (not_both q m)
parameter_fact (both (absent e o) (no f (both (absent i p) (no j (both b (both (absent q w) (yes m r))))))) = absurd (not_both m q)
parameter_fact {found = found} (both (absent e o) (no f (both (absent i p) (no j (both (bound u g h) (both (absent q w) (no m (mapped v (expected t c) is)))))))) =
    at_end (parameters_of (found ++ binding_of u ∷ []) None) (λ vs s. name_before s u g t c) (is ∙ ap (λ x. inr (parameters_of (found ++ x ∷ []) None)) h)

abbrev ParameterFault : List Lexeme → List Lexeme → ℕ → ℕ → Type 0
ParameterFault us ts l n = Either Never (Eaten k.RightParenthesis) (λ b. ChosenFault b Never (Either Never (Eaten k.Ellipsis) (λ h. ChosenFault h
    (Either Here Bound (λ last. Here)) (Either Here Bound (λ x. Either Never (Eaten k.Comma) (λ m. ChosenFault m Never Here)))))) l n us ts

parameter_fault : {d l n : ℕ} {us ts : List Lexeme} {found : List Binding} → ParameterFault us ts l n → Broken NamesSoFar ParamsOf d found l n us ts
parameter_fault (first c) = elim c [ ]
parameter_fault (second b (yes_fault f c)) = elim c [ ]
parameter_fault (second b (no_fault f (first c))) = elim c [ ]
parameter_fault (second (ate t c e) (no_fault f r)) = absurd (not_both e f)
parameter_fault (second (absent e o) (no_fault f (second (ate t c i) (yes_fault j (first here))))) =
    broken (λ vs s. begun_more 0 vs (t ∷ []) (token k.Identifier ∷ token k.RightParenthesis ∷ []) _ (rest_before s t c (token k.Identifier) refl (token k.RightParenthesis) refl))
parameter_fault (second (absent e o) (no_fault f (second (ate t c i) (yes_fault j (second (bound u g h) here))))) =
    broken (λ vs s. begun_more 0 vs (t ∷ u ∷ []) (token k.RightParenthesis ∷ []) _ (rest_before s t c u g (token k.RightParenthesis) refl))
parameter_fault (second (absent e o) (no_fault f (second (ate t c i) (no_fault j r)))) = absurd (not_both i j)
parameter_fault (second (absent e o) (no_fault f (second (absent i p) (yes_fault j r)))) = absurd (not_both j i)
parameter_fault (second (absent e o) (no_fault f (second (absent i p) (no_fault j (first here))))) =
    broken (λ vs s. begun_more 0 vs [] (token k.RightParenthesis ∷ []) _ (comma_before s (token k.RightParenthesis) refl))
parameter_fault (second (absent e o) (no_fault f (second (absent i p) (no_fault j (second b (first c)))))) = elim c [ ]
parameter_fault (second (absent e o) (no_fault f (second (absent i p) (no_fault j (second b (second m (yes_fault q c))))))) = elim c [ ]
parameter_fault (second (absent e o) (no_fault f (second (absent i p) (no_fault j (second b (second (ate t c q) (no_fault m r))))))) = absurd (not_both q m)
parameter_fault (second (absent e o) (no_fault f (second (absent i p) (no_fault j (second (bound u g h) (second (absent q w) (no_fault m here))))))) =
    broken (λ vs s. begun_more 0 vs (u ∷ []) (token k.RightParenthesis ∷ []) _ (name_before s u g (token k.RightParenthesis) refl))

module _ (d : ℕ) where
  abbrev parameter_again : ℕ → ℕ → List Binding ⊎ Parameters → Parser Parameters
  parameter_again = finish (λ m e found. parameters_from m found) parameter_step 1 d (Turned NamesSoFar ParamsThen d) (Broken NamesSoFar ParamsOf d)

  rest_turn : (m e : ℕ) (found : List Binding) (o : Outcome Binding)
      → and_then o (λ last. expect k.RightParenthesis >>= (λ u. pure (parameters_of found (Some last))))
      ≡ and_then (and_then o (λ last. expect k.RightParenthesis >>= (λ u i. Ok (inr (parameters_of found (Some last)), i)))) (parameter_again m e)
  rest_turn m e found (Ok p) = assoc (expect k.RightParenthesis p.1) (λ u. inr (parameters_of found (Some p.0))) (parameter_again m e)
  rest_turn m e found (Err r) = refl

  more_turn : (m e : ℕ) (found : List Binding) (more : Bool) (i : Input)
      → (if more then parameters_from m found else (expect k.RightParenthesis >>= (λ u. pure (parameters_of found None)))) i
      ≡ and_then ((if more then (λ i. Ok (inl found, i)) else (expect k.RightParenthesis >>= (λ u i. Ok (inr (parameters_of found None), i)))) i) (parameter_again m e)
  more_turn m e found true i = refl
  more_turn m e found false i = assoc (expect k.RightParenthesis i) (λ u. inr (parameters_of found None)) (parameter_again m e)

  name_turn : (m e : ℕ) (found : List Binding) (o : Outcome Binding)
      → and_then o (λ x. eat k.Comma >>= (λ more. if more then parameters_from m (found ++ x ∷ []) else (expect k.RightParenthesis >>= (λ u. pure (parameters_of (found ++ x ∷ []) None)))))
      ≡ and_then (and_then o (λ x. eat k.Comma >>= (λ more. if more then (λ i. Ok (inl (found ++ x ∷ []), i)) else (expect k.RightParenthesis >>= (λ u i. Ok (inr (parameters_of (found ++ x ∷ []) None), i)))))) (parameter_again m e)
  name_turn m e found (Ok p) = more_turn m e (found ++ p.0 ∷ []) (sees k.Comma p.1) (after k.Comma p.1)
  name_turn m e found (Err r) = refl

  kind_turn : (m e : ℕ) (found : List Binding) (is_rest : Bool) (i : Input)
      → (if is_rest then rest_parameter found else (binding >>= (λ x. eat k.Comma >>= (λ more. if more then parameters_from m (found ++ x ∷ []) else (expect k.RightParenthesis >>= (λ u. pure (parameters_of (found ++ x ∷ []) None))))))) i
      ≡ and_then ((if is_rest then rest_step found else name_step found) i) (parameter_again m e)
  unfolding rest_parameter
  kind_turn m e found true i = rest_turn m e found (binding i)
  kind_turn m e found false i = name_turn m e found (binding i)

  over_turn : (m e : ℕ) (found : List Binding) (is_over : Bool) (i : Input)
      → (if is_over then pure (parameters_of found None) else (eat k.Ellipsis >>= (λ is_rest. if is_rest then rest_parameter found
      else (binding >>= (λ x. eat k.Comma >>= (λ more. if more then parameters_from m (found ++ x ∷ []) else (expect k.RightParenthesis >>= (λ u. pure (parameters_of (found ++ x ∷ []) None))))))))) i
      ≡ and_then ((if is_over then (λ i. Ok (inr (parameters_of found None), i)) else (eat k.Ellipsis >>= (λ is_rest. if is_rest then rest_step found else name_step found))) i) (parameter_again m e)
  over_turn m e found true i = refl
  over_turn m e found false i = kind_turn m e found (sees k.Ellipsis i) (after k.Ellipsis i)

  parameter_unrolls : (m e : ℕ) (found : List Binding) (all : List Lexeme) (l n : ℕ) → 1 + length all ≤ m
      → parameters_from m found (inp all l n) ≡ and_then (parameter_step e found (inp all l n)) (parameter_again (pred m) e)
  unfolding parameters_from
  parameter_unrolls zero e found all l n far = absurd (omega arith)
  parameter_unrolls (suc m) e found all l n far = over_turn m e found (sees k.RightParenthesis (inp all l n)) (after k.RightParenthesis (inp all l n))

  parameter_steps : (found : List Binding) → Parses (λ e. parameter_step e found) d Any (Turned NamesSoFar ParamsThen d found) (Broken NamesSoFar ParamsOf d found)
  parameter_steps found = map (λ l n us ts x r. parameter_fact r) (λ l n us ts r. parameter_fault r)
      (then_any (eaten k.RightParenthesis end_no_right_parenthesis) (λ b. choose_any b (purely (inr (parameters_of found None)))
      (then_any (eaten k.Ellipsis end_no_ellipsis) (λ h. choose_any h
      (then_any bindings (λ last. mapping (expecting k.RightParenthesis end_no_right_parenthesis) (λ u. inr (parameters_of found (Some last)))))
      (then_any bindings (λ x. then_any (eaten k.Comma end_no_comma) (λ m. choose_any m (purely (inl (found ++ x ∷ [])))
      (mapping (expecting k.RightParenthesis end_no_right_parenthesis) (λ u. inr (parameters_of (found ++ x ∷ []) None))))))))))

  pub parameterss : Parses (λ e. parameters) d Any (Wholly ParamsOf d) (Partly ParamsOf)
  unfolding parameters left
  parameterss = map (λ l n us ts x r. wholly (turned_runs r [] no_names)) (λ l n us ts r. partly (turned_breaks r [] no_names))
      (turns (λ m e found. parameters_from m found) parameter_step 1 d (Turned NamesSoFar ParamsThen d) (Broken NamesSoFar ParamsOf d)
      parameter_unrolls parameter_steps turned_grows (λ i. left i + 1) (λ all l n. omega arith) [])

-- ---- in parentheses

-- "(" Params ")"
pub data ParamList : ℕ → List Lexeme → Parameters → Type 0 where
  param_list : {e : ℕ} {us : List Lexeme} {ps : Parameters} (t : Lexeme) → t.sort ≡ k.LeftParenthesis → Params us ps → ParamList e (t ∷ us) ps

list_fact : {d l n : ℕ} {us ts : List Lexeme} {ps : Parameters} → Both (Expected k.LeftParenthesis) (λ u. Wholly ParamsOf d) l n us ts ps → Wholly ParamList d l n us ts ps
list_fact (both (expected t c) (wholly h)) = wholly (param_list t c h)

list_fault : {l n : ℕ} {us ts : List Lexeme} → Either Here (Expected k.LeftParenthesis) (λ u. Partly ParamsOf) l n us ts → Partly ParamList l n us ts
list_fault (first here) = partly (begun_more 0 [] [] (token k.LeftParenthesis ∷ token k.RightParenthesis ∷ []) _ (param_list (token k.LeftParenthesis) refl (comma_before no_names (token k.RightParenthesis) refl)))
list_fault (second (expected t c) (partly b)) = partly (carry (t ∷ []) (λ e vs ps h. begun_whole e (t ∷ vs) ps (param_list t c h)) b)

pub parameter_lists : {d : ℕ} → Parses (λ e. parameter_list) d Any (Wholly ParamList d) (Partly ParamList)
unfolding parameter_list
parameter_lists {d} = map (λ l n us ts x r. list_fact r) (λ l n us ts r. list_fault r) (then_any (expecting k.LeftParenthesis end_no_left_parenthesis) (λ u. parameterss d))

-- "(" ")"
pub data EmptyList : ℕ → List Lexeme → Unit {0} → Type 0 where
  empty_list : {e : ℕ} {x : Unit {0}} (t : Lexeme) → t.sort ≡ k.LeftParenthesis → (u : Lexeme) → u.sort ≡ k.RightParenthesis → EmptyList e (t ∷ u ∷ []) x

empty_fact : {d l n : ℕ} {us ts : List Lexeme} {x : Unit {0}} → Both (Expected k.LeftParenthesis) (λ u. Expected k.RightParenthesis) l n us ts x → Wholly EmptyList d l n us ts x
empty_fact (both (expected t c) (expected u e)) = wholly (empty_list t c u e)

empty_fault : {l n : ℕ} {us ts : List Lexeme} → Either Here (Expected k.LeftParenthesis) (λ u. Here) l n us ts → Partly EmptyList l n us ts
empty_fault (first here) = partly (begun_more 0 [] [] (token k.LeftParenthesis ∷ token k.RightParenthesis ∷ []) tt (empty_list (token k.LeftParenthesis) refl (token k.RightParenthesis) refl))
empty_fault (second (expected t c) here) = partly (begun_more 0 [] (t ∷ []) (token k.RightParenthesis ∷ []) tt (empty_list t c (token k.RightParenthesis) refl))

pub empty_lists : {d : ℕ} → Parses (λ e. no_parameters) d Any (Wholly EmptyList d) (Partly EmptyList)
unfolding no_parameters
empty_lists = map (λ l n us ts x r. empty_fact r) (λ l n us ts r. empty_fault r) (then_any (expecting k.LeftParenthesis end_no_left_parenthesis) (λ u. expecting k.RightParenthesis end_no_right_parenthesis))

-- "(" Name ")"
pub data OneParam : ℕ → List Lexeme → Binding → Type 0 where
  one_param : {e : ℕ} (t : Lexeme) → t.sort ≡ k.LeftParenthesis → (u : Lexeme) → u.sort ≡ k.Identifier → (v : Lexeme) → v.sort ≡ k.RightParenthesis → OneParam e (t ∷ u ∷ v ∷ []) (binding_of u)

one_fact : {d l n : ℕ} {us ts : List Lexeme} {x : Binding} → Both (Expected k.LeftParenthesis) (λ u. Both Bound (λ x. Mapped (Expected k.RightParenthesis) (λ u. x))) l n us ts x → Wholly OneParam d l n us ts x
one_fact {d} {l} {n} (both (expected t c) (both (bound u e f) (mapped w (expected {ts} v g) is))) =
    subst (λ x. Wholly OneParam d l n (t ∷ u ∷ v ∷ []) ts x) (sym (is ∙ f)) (wholly (one_param t c u e v g))

one_fault : {l n : ℕ} {us ts : List Lexeme} → Either Here (Expected k.LeftParenthesis) (λ u. Either Here Bound (λ x. Here)) l n us ts → Partly OneParam l n us ts
one_fault (first here) = partly (begun_more 0 [] [] (token k.LeftParenthesis ∷ token k.Identifier ∷ token k.RightParenthesis ∷ []) _
    (one_param (token k.LeftParenthesis) refl (token k.Identifier) refl (token k.RightParenthesis) refl))
one_fault (second (expected t c) (first here)) = partly (begun_more 0 [] (t ∷ []) (token k.Identifier ∷ token k.RightParenthesis ∷ []) _ (one_param t c (token k.Identifier) refl (token k.RightParenthesis) refl))
one_fault (second (expected t c) (second (bound u e f) here)) = partly (begun_more 0 [] (t ∷ u ∷ []) (token k.RightParenthesis ∷ []) _ (one_param t c u e (token k.RightParenthesis) refl))

pub one_params : {d : ℕ} → Parses (λ e. one_parameter) d Any (Wholly OneParam d) (Partly OneParam)
unfolding one_parameter
one_params = map (λ l n us ts x r. one_fact r) (λ l n us ts r. one_fault r)
    (then_any (expecting k.LeftParenthesis end_no_left_parenthesis) (λ u. then_any bindings (λ x. mapping (expecting k.RightParenthesis end_no_right_parenthesis) (λ u. x))))
