-- What a property of an object reads, and where it fails.
use Rattle.std.proofs.Common.{◌≡◌, ℕ, suc, ◌+◌, max, Bool, true, false, not, ◌&&◌, ◌||◌, List, [], ◌∷◌, ◌++◌, Some, Ok, refl, sym, ap, ◌∙◌, subst, append_assoc, append-nil, arith}
use Rattle.std.specs.Prelude.{codes}
use Rattle.sr_ast.specs.declared.tree.Node.{Node}
use Rattle.sr_ast.specs.declared.tree.Node.TheVariants as node
use Rattle.sr_ast.specs.declared.tree.Property.{Property}
use Rattle.sr_ast.specs.declared.tree.Property.TheVariants as property
use Rattle.sr_ast.specs.declared.binding.Parameters.{Parameters}
use Rattle.sr_ast.specs.declared.binding.PropertyName.{PropertyName}
use Rattle.sr_ast.specs.declared.binding.PropertyName.TheVariants as property_name
use Rattle.sr_syntax.specs.declared.sorts.Sort.TheVariants as k
use Rattle.sr_syntax.specs.declared.sorts.Sort.{Sort}
use Rattle.sr_syntax.specs.declared.sorts.Lexeme.{Lexeme}
use Rattle.sr_syntax.specs.declared.grown.Grown.{Grown}
use Rattle.sr_syntax.specs.declared.grown.Grove.{Grove}
use Rattle.sr_syntax.specs.declared.grown.Accessor.{Accessor}
use Rattle.sr_syntax.specs.declared.grown.Accessor.TheVariants as accessor
use Rattle.sr_syntax.specs.Sorts.{same_sort}
use Rattle.sr_syntax.specs.Input.{Input, ◌>>=◌, sees, sort, sort_at, sees_word, text, text_of, number, is_word, complete}
use Rattle.sr_syntax.specs.Bodies.{parameter_list, body}
use Rattle.sr_syntax.specs.Objects.{is_proto, key_by, key, shorthand, value_of_key, method, keyed, named_property, computed_value, computed_method, computed_end, computed}
use Rattle.sr_syntax.specs.Grammar.{tree}
use Rattle.sr_grammar.specs.Names.{is_text, key_of, key_by_word, other_key}
use Rattle.sr_grammar.specs.Derivations.{Derives, Assign, OneProperty, Function, Body}
use Rattle.sr_grammar.specs.Derivations as g
use Rattle.sr_grammar.specs.Reading.{end_after}
use Rattle.sr_grammar.proofs.Steps.{Fact, Fault, Need, Any, Parses, Both, both, Either, first, second, Never, Nowhere, Looked, looked, Taken, taken, Expected, expected, Here, here, Completed, completed, map, map_given, given, then_any, bind, look, take, Shallow, Some_left, sort_shallow, expecting, completing, refused, not_both, same_sort_true, sort_alike, ending, end_append, and_is}
use Rattle.sr_grammar.proofs.Depths.{lift, lift_function}
use Rattle.sr_grammar.proofs.Facts.{Opened, opened, Mapped, mapped, mapping, Start, start, token}
use Rattle.sr_grammar.proofs.Lists.{Nested}
use Rattle.sr_grammar.proofs.Beginnings.{Begun, begun_more, Of, carry, begun_whole, begun_of, Partly, partly}
use Rattle.sr_grammar.proofs.Peeks.{text_shallow, unit_of, unit_shallow, number_shallow}
use Rattle.sr_grammar.proofs.Choices.{not_true, Decided, decided, denied, DecidedFault, decided_fault, denied_fault, deciding, Test, Sees, sees_test}
use Rattle.sr_grammar.proofs.PlainFunctions.{FunctionOf, empty_tokens, empty_function}
use Rattle.sr_grammar.proofs.FunctionFacts.{Bodied, bodied, bodies, Functioned, functioned, functions_then}
use Rattle.sr_grammar.proofs.Sorts.{end_no_colon, end_no_right_bracket}

-- a property, and the depth of its trees
abbrev pub Made : Type 0
Made = Property × ℕ

abbrev pub PropertyOf : ℕ → List Lexeme → Made → Type 0
PropertyOf d us p = OneProperty d us p.0 p.1

-- ---- behind its first token

-- With a first token of that kind, which ends where it does, the tokens are a property.
pub data Behind (C : ℕ → Lexeme → Type 0) (d l n : ℕ) (us ts : List Lexeme) (p : Made) : Type 0 where
  behind : ((t : Lexeme) → C l t → OneProperty d (t ∷ us) p.0 p.1) → Behind C d l n us ts p

-- And they begin one.
pub data NotBehind (C : ℕ → Lexeme → Type 0) (l n : ℕ) (us ts : List Lexeme) : Type 0 where
  not_behind : ((t : Lexeme) → C l t → Begun PropertyOf (t ∷ us)) → NotBehind C l n us ts

-- a key
pub record FirstKey (from : ℕ) (called : PropertyName) (l : ℕ) (t : Lexeme) : Type 0 where
  pub key : key_of t ≡ Some called
  pub at : t.from ≡ from
  pub end : t.to ≡ l

-- a name that is not reserved
pub record FirstName (from : ℕ) (called : List ℕ) (l : ℕ) (t : Lexeme) : Type 0 where
  pub name : t.sort ≡ k.Identifier
  pub text : called ≡ text_of t.content
  pub at : t.from ≡ from
  pub end : t.to ≡ l

-- a bracket
pub record FirstBracket (from l : ℕ) (t : Lexeme) : Type 0 where
  pub bracket : t.sort ≡ k.LeftBracket
  pub at : t.from ≡ from
  pub end : t.to ≡ l

abbrev pub word_of : Accessor → List ℕ
word_of accessor.Getter = codes "get"
word_of accessor.Setter = codes "set"

-- `get` or `set`
pub record FirstWord (which : Accessor) (from : ℕ) (called : List ℕ) (l : ℕ) (t : Lexeme) : Type 0 where
  pub word : is_text (word_of which) t ≡ true
  pub name : FirstName from called l t

key_of_name : {from l : ℕ} {called : List ℕ} {t : Lexeme} → FirstName from called l t → FirstKey from (property_name.Text called) l t
key_of_name {t = t} f = record {
  key = ap (λ s. key_by_word (is_word s) t) f.name ∙ ap (λ c. Some (property_name.Text c)) (sym f.text);
  at = f.at;
  end = f.end;
}

-- ---- methods

abbrev pub as_method : Grown → Made
as_method x = (property.Method x.tree, x.height)

-- a function, and the method that is made of it
data MethodMade (make : Parameters → Grove → Node) (tall : Grove → ℕ) (from d l n : ℕ) (us ts : List Lexeme) (p : Made) : Type 0 where
  method_made : {ps : Parameters} {xs : Grove} → Function d us ps xs → p ≡ as_method (ending (make ps xs) from (end_after l us) (tall xs)) → MethodMade make tall from d l n us ts p

made_fact : {make : Parameters → Grove → Node} {tall : Grove → ℕ} {from d l n : ℕ} {us ts : List Lexeme} {p : Made}
    → Both (Functioned d) (λ q. Mapped (Completed (make q.0 q.1) from (tall q.1)) as_method) l n us ts p → MethodMade make tall from d l n us ts p
made_fact {make} {tall} {from} {d} {l} {n} (both {us} {ts = ts} {y = p} (functioned h b) (mapped x (completed fits is) f)) =
    subst (λ zs. MethodMade make tall from d l n zs ts p) (sym (append-nil us)) (method_made h (f ∙ ap as_method is))

methods_made : (make : Parameters → Grove → Node) (tall : Grove → ℕ) (from d : ℕ) → Nested d
    → Parses (λ e. parameter_list >>= (λ ps. body (tree e) >>= (λ xs. complete (make ps xs) from (tall xs) >>= (λ x i. Ok (as_method x, i))))) d Any (MethodMade make tall from d) (Partly FunctionOf)
methods_made make tall from d nest = map (λ l n us ts x r. made_fact r) (λ l n us ts r. r)
    (functions_then d nest (λ ps xs. complete (make ps xs) from (tall xs) >>= (λ x i. Ok (as_method x, i))) (λ q. mapping (completing (make q.0 q.1) from (tall q.1)) as_method))

-- a body, and what is made of it
pub data BodyMade (make : Grove → Node) (from d l n : ℕ) (us ts : List Lexeme) (p : Made) : Type 0 where
  body_made : {xs : Grove} → Body d us xs → p ≡ as_method (ending (make xs) from (end_after l us) xs.tall) → BodyMade make from d l n us ts p

body_fact : {make : Grove → Node} {from d l n : ℕ} {us ts : List Lexeme} {p : Made}
    → Both (Bodied d) (λ xs. Mapped (Completed (make xs) from xs.tall) as_method) l n us ts p → BodyMade make from d l n us ts p
body_fact {make} {from} {d} {l} {n} (both {us} {ts = ts} {y = p} (bodied h b) (mapped x (completed fits is) f)) =
    subst (λ zs. BodyMade make from d l n zs ts p) (sym (append-nil us)) (body_made h (f ∙ ap as_method is))

body_fault : {d l n : ℕ} {us ts : List Lexeme} → Either (Partly Body) (Bodied d) (λ xs. Never) l n us ts → Partly Body l n us ts
body_fault (first b) = b
body_fault (second r c) = elim c [ ]

pub bodies_made : (make : Grove → Node) (from d : ℕ) → Nested d
    → Parses (λ e. body (tree e) >>= (λ xs. complete (make xs) from xs.tall >>= (λ x i. Ok (as_method x, i)))) d Any (BodyMade make from d) (Partly Body)
bodies_made make from d nest = map (λ l n us ts x r. body_fact r) (λ l n us ts r. body_fault r) (then_any (bodies d nest) (λ xs. mapping (completing (make xs) from xs.tall) as_method))

-- ---- behind a key

-- a method with this key
method_of : {from d l n : ℕ} {us ts : List Lexeme} {p : Made} (called : PropertyName) → MethodMade (λ ps xs. node.Method called ps xs.trees) (λ xs. xs.tall) from d l n us ts p → Behind (FirstKey from called) d l n us ts p
method_of {from} {d} {l} {us = us} {p = p} called (method_made {ps} {xs} h is) = behind (λ t f. subst (λ q. PropertyOf d (t ∷ us) q)
    (sym (is ∙ ap (λ a. as_method (ending (node.Method called ps xs.trees) a (end_after l us) xs.tall)) (sym f.at) ∙ ap (λ a. as_method (ending (node.Method called ps xs.trees) t.from (end_after a us) xs.tall)) (sym f.end)))
    (g.method t f.key h))

method_begins : {from l n : ℕ} {us ts : List Lexeme} {called : PropertyName} → Partly FunctionOf l n us ts → NotBehind (FirstKey from called) l n us ts
method_begins (partly b) = not_behind (λ t f. carry (t ∷ []) (λ e vs p h. begun_whole e (t ∷ vs) _ (g.method t f.key h)) b)

-- a `:` that the key may stand before
abbrev sees_value : PropertyName → Input → Bool
sees_value called i = sees k.Colon i && not (is_proto called)

abbrev SeesValue : PropertyName → List Lexeme → Bool
SeesValue called ts = same_sort (sort_at ts) k.Colon && not (is_proto called)

value_test : (called : PropertyName) → Test (sees_value called) (SeesValue called)
unfolding sees sort
value_test called = record { shows = λ all l n. refl; shallow = λ ts rs same. ap (λ s. same_sort s k.Colon && not (is_proto called)) (sort_alike ts rs same) }

value_left : (called : PropertyName) (ts : List Lexeme) → SeesValue called ts ≡ true → Some_left ts
value_left called [] h = absurd (not_both (and_is (same_sort k.End k.Colon) (not (is_proto called)) h).0 end_no_colon)
value_left called (t ∷ ts) h = tt

abbrev named_value : PropertyName → Grown → Made
named_value called x = (property.Named called x.tree, x.height)

abbrev KeyedFact : ℕ → ℕ → PropertyName → Fact Made
KeyedFact d from called = Decided (Sees k.LeftParenthesis) (MethodMade (λ ps xs. node.Method called ps xs.trees) (λ xs. xs.tall) from d)
    (Decided (SeesValue called) (Both (Taken unit_of) (λ u. Mapped (Opened (Assign true) d) (named_value called))) Nowhere)

keyed_fact : {from d l n : ℕ} {us ts : List Lexeme} {p : Made} (called : PropertyName) → KeyedFact d from called l n us ts p → Behind (FirstKey from called) d l n us ts p
keyed_fact called (decided is r) = method_of called r
keyed_fact called (denied is (decided m (both {vs = us} {y = p} (taken u e) (mapped x (opened {d} h b) f)))) =
    let s = and_is (same_sort u.sort k.Colon) (not (is_proto called)) m in
    behind (λ t w. subst (λ q. PropertyOf (suc d) (t ∷ u ∷ us) q) (sym f) (g.keyed t w.key (not_true (is_proto called) s.1) u (same_sort_true u.sort k.Colon s.0) h))
keyed_fact called (denied is (denied m r)) = elim r [ ]

abbrev KeyedFault : PropertyName → Fault
KeyedFault called = DecidedFault (Sees k.LeftParenthesis) (Partly FunctionOf) (DecidedFault (SeesValue called) (Either Never (Taken unit_of) (λ u. Start (Assign true))) Here)

keyed_fault : {from l n : ℕ} {us ts : List Lexeme} (called : PropertyName) → KeyedFault called l n us ts → NotBehind (FirstKey from called) l n us ts
keyed_fault called (decided_fault is r) = method_begins r
keyed_fault called (denied_fault is (decided_fault m (first c))) = elim c [ ]
keyed_fault called (denied_fault is (decided_fault m (second {vs = us} (taken u e) (start s)))) =
    let b = and_is (same_sort u.sort k.Colon) (not (is_proto called)) m in
    not_behind (λ t f. carry (t ∷ u ∷ []) (λ e vs x h. begun_whole (suc e) (t ∷ u ∷ vs) (named_value called x) (g.keyed t f.key (not_true (is_proto called) b.1) u (same_sort_true u.sort k.Colon b.0) h)) (begun_of s))
keyed_fault called (denied_fault is (denied_fault m here)) = not_behind (λ t f. begun_more 0 (t ∷ []) [] _ _ (g.method t f.key empty_function))

pub keyeds : (from : ℕ) (called : PropertyName) (d : ℕ) → Nested d → Parses (λ e. keyed (tree e) from called) d Any (Behind (FirstKey from called) d) (NotBehind (FirstKey from called))
unfolding keyed method value_of_key
keyeds from called d nest = map (λ l n us ts x r. keyed_fact called r) (λ l n us ts r. keyed_fault called r)
    (deciding (sees k.LeftParenthesis) (Sees k.LeftParenthesis) (sees_test k.LeftParenthesis)
    (given (λ ts m. tt) (methods_made (λ ps xs. node.Method called ps xs.trees) (λ xs. xs.tall) from d nest))
    (given (λ ts m. tt) (deciding (sees_value called) (SeesValue called) (value_test called)
    (then_any (given (value_left called) (take unit_of unit_shallow)) (λ u. mapping (nest.assign true) (named_value called)))
    (given (λ ts m. tt) refused))))

-- ---- behind a name

-- a property of which less is asked at first
pub behind_less : {C E : ℕ → Lexeme → Type 0} {d l n : ℕ} {us ts : List Lexeme} {p : Made} → ((m : ℕ) (t : Lexeme) → E m t → C m t) → Behind C d l n us ts p → Behind E d l n us ts p
behind_less {l = l} less (behind f) = behind (λ t c. f t (less l t c))

pub not_behind_less : {C E : ℕ → Lexeme → Type 0} {l n : ℕ} {us ts : List Lexeme} → ((m : ℕ) (t : Lexeme) → E m t → C m t) → NotBehind C l n us ts → NotBehind E l n us ts
not_behind_less {l = l} less (not_behind f) = not_behind (λ t c. f t (less l t c))

abbrev sees_more : Input → Bool
sees_more i = sees k.LeftParenthesis i || sees k.Colon i

abbrev SeesMore : List Lexeme → Bool
SeesMore ts = same_sort (sort_at ts) k.LeftParenthesis || same_sort (sort_at ts) k.Colon

more_test : Test sees_more SeesMore
unfolding sees sort
more_test = record { shows = λ all l n. refl; shallow = λ ts rs same. ap (λ s. same_sort s k.LeftParenthesis || same_sort s k.Colon) (sort_alike ts rs same) }

-- a name alone
shorthand_fact : {from d l n : ℕ} {us ts : List Lexeme} {p : Made} (called : List ℕ)
    → Mapped (Completed (node.Name called) from 0) (named_value (property_name.Text called)) l n us ts p → Behind (FirstName from called) d l n us ts p
shorthand_fact {from} {d} {l} {p = p} called (mapped x (completed fits is) f) = behind (λ t w. subst (λ q. PropertyOf d (t ∷ []) q)
    (sym (f ∙ ap (named_value (property_name.Text called)) is ∙ ap (λ c. named_value (property_name.Text c) (ending (node.Name c) from l 0)) w.text
    ∙ ap (λ a. named_value (property_name.Text (text_of t.content)) (ending (node.Name (text_of t.content)) a l 0)) (sym w.at)
    ∙ ap (λ a. named_value (property_name.Text (text_of t.content)) (ending (node.Name (text_of t.content)) t.from a 0)) (sym w.end)))
    (g.shorthand t w.name))

named_fact : {from d l n : ℕ} {us ts : List Lexeme} {p : Made} (called : List ℕ)
    → Decided SeesMore (Behind (FirstKey from (property_name.Text called)) d) (Mapped (Completed (node.Name called) from 0) (named_value (property_name.Text called))) l n us ts p → Behind (FirstName from called) d l n us ts p
named_fact called (decided is r) = behind_less (λ m t w. key_of_name w) r
named_fact called (denied is r) = shorthand_fact called r

named_fault : {from l n : ℕ} {us ts : List Lexeme} (called : List ℕ) → DecidedFault SeesMore (NotBehind (FirstKey from (property_name.Text called))) Never l n us ts → NotBehind (FirstName from called) l n us ts
named_fault called (decided_fault is r) = not_behind_less (λ m t w. key_of_name w) r
named_fault called (denied_fault is c) = elim c [ ]

pub named_properties : (from : ℕ) (called : List ℕ) (d : ℕ) → Nested d → Parses (λ e. named_property (tree e) from called) d Any (Behind (FirstName from called) d) (NotBehind (FirstName from called))
unfolding named_property shorthand
named_properties from called d nest = map (λ l n us ts x r. named_fact called r) (λ l n us ts r. named_fault called r)
    (deciding sees_more SeesMore more_test (given (λ ts m. tt) (keyeds from (property_name.Text called) d nest))
    (given (λ ts m. tt) (mapping (completing (node.Name called) from 0) (named_value (property_name.Text called)))))

-- ---- behind a bracket

abbrev of_computed : Grown → Grown → Made
of_computed x y = (property.Computed x.tree y.tree, max x.height y.height)

abbrev makes_computed : Grown → Parameters → Grove → Node
makes_computed x ps xs = node.ComputedMethod x.tree ps xs.trees

abbrev tall_computed : Grown → Grove → ℕ
tall_computed x xs = max x.height xs.tall

abbrev ComputedFact : ℕ → ℕ → Fact Made
ComputedFact d from = Both (Opened (Assign true) d) (λ x. Both (Expected k.RightBracket) (λ u.
    Decided (Sees k.LeftParenthesis) (MethodMade (makes_computed x) (tall_computed x) from d) (Both (Expected k.Colon) (λ w. Mapped (Opened (Assign true) d) (of_computed x)))))

computed_fact : {from d l n : ℕ} {us ts : List Lexeme} {p : Made} → ComputedFact d from l n us ts p → Behind (FirstBracket from) d l n us ts p
computed_fact {from} {l = l} {p = p} (both {us = us} {x = x} (opened {d} h b) (both {vs = vs} (expected u c) (decided is (method_made {ps} {xs} i f)))) = behind (λ t w.
    subst (λ q. PropertyOf (suc d) (t ∷ (us ++ u ∷ vs)) q)
    (sym (f ∙ ap (λ a. as_method (ending (makes_computed x ps xs) a (end_after u.to vs) (tall_computed x xs))) (sym w.at)
    ∙ ap (λ a. as_method (ending (makes_computed x ps xs) t.from a (tall_computed x xs))) (sym (end_append t.to us (u ∷ vs)))))
    (g.computed_method t w.bracket h u c i))
computed_fact (both {us = us} {x = x} (opened {d} h b) (both (expected u c) (denied is (both {vs = vs} (expected v e) (mapped y (opened i q) f))))) = behind (λ t w.
    subst (λ q. PropertyOf (suc d) (t ∷ (us ++ u ∷ v ∷ vs)) q) (sym f) (g.computed t w.bracket h u c v e i))

-- a key that is begun, as that of a method
computed_begins : {us : List Lexeme} (t : Lexeme) → t.sort ≡ k.LeftBracket → Begun (Of (Assign true)) us → Begun PropertyOf (t ∷ us)
computed_begins t c b = carry (t ∷ []) (λ e vs x h. record { depth = suc e; more = token k.RightBracket ∷ empty_tokens; made = _; has = g.computed_method t c h (token k.RightBracket) refl empty_function }) b

begun_as : {m : ℕ} {p : Made} (us vs ws : List Lexeme) → PropertyOf m (us ++ (vs ++ ws)) p → Begun PropertyOf ((us ++ vs) ++ ws)
begun_as {m} {p} us vs ws h = begun_whole m ((us ++ vs) ++ ws) p (subst (λ zs. PropertyOf m zs p) (sym (append_assoc us vs ws)) h)

method_behind : {d : ℕ} {us vs : List Lexeme} {x : Grown} (t u : Lexeme) → t.sort ≡ k.LeftBracket → Derives d (Assign true) us x → u.sort ≡ k.RightBracket → Begun FunctionOf vs → Begun PropertyOf (t ∷ (us ++ u ∷ vs))
method_behind {d} {us} {vs} t u c h e b = subst (λ zs. Begun PropertyOf (t ∷ zs)) (append_assoc us (u ∷ []) vs)
    (carry (t ∷ (us ++ u ∷ [])) (λ m ws p i. begun_as (t ∷ us) (u ∷ []) ws
    (g.computed_method t c (lift d (d + m) (omega arith) h) u e (lift_function m (suc (d + m)) (omega arith) i))) b)

value_behind : {d : ℕ} {us vs : List Lexeme} {x : Grown} (t u w : Lexeme) → t.sort ≡ k.LeftBracket → Derives d (Assign true) us x → u.sort ≡ k.RightBracket → w.sort ≡ k.Colon → Begun (Of (Assign true)) vs → Begun PropertyOf (t ∷ (us ++ u ∷ w ∷ vs))
value_behind {d} {us} {vs} t u w c h e f b = subst (λ zs. Begun PropertyOf (t ∷ zs)) (append_assoc us (u ∷ w ∷ []) vs)
    (carry (t ∷ (us ++ u ∷ w ∷ [])) (λ m ws y i. begun_as (t ∷ us) (u ∷ w ∷ []) ws
    (g.computed t c (lift d (d + m) (omega arith) h) u e w f (lift m (d + m) (omega arith) i))) b)

abbrev ComputedFault : ℕ → Fault
ComputedFault d = Either (Start (Assign true)) (Opened (Assign true) d) (λ x. Either Here (Expected k.RightBracket) (λ u.
    DecidedFault (Sees k.LeftParenthesis) (Partly FunctionOf) (Either Here (Expected k.Colon) (λ w. Start (Assign true)))))

computed_fault : {from d l n : ℕ} {us ts : List Lexeme} → ComputedFault d l n us ts → NotBehind (FirstBracket from) l n us ts
computed_fault (first (start s)) = not_behind (λ t f. computed_begins t f.bracket (begun_of s))
computed_fault (second {us = us} {x = x} (opened {d} h b) (first here)) = not_behind (λ t f. computed_begins t f.bracket (begun_whole d (us ++ []) x (subst (λ zs. Derives d (Assign true) zs x) (sym (append-nil us)) h)))
computed_fault (second (opened h b) (second (expected u c) (decided_fault is (partly s)))) = not_behind (λ t f. method_behind t u f.bracket h c s)
computed_fault (second {us = us} (opened {d} h b) (second (expected u c) (denied_fault is (first here)))) = not_behind (λ t f.
    begun_more (suc d) (t ∷ us) (u ∷ []) _ _ (g.computed_method t f.bracket h u c empty_function))
computed_fault (second (opened h b) (second (expected u c) (denied_fault is (second (expected w e) (start s))))) = not_behind (λ t f. value_behind t u w f.bracket h c e (begun_of s))

pub computeds : (from d : ℕ) → Nested d → Parses (λ e. computed (tree e) from) d Any (Behind (FirstBracket from) d) (NotBehind (FirstBracket from))
unfolding computed computed_end computed_method computed_value
computeds from d nest = map (λ l n us ts x r. computed_fact r) (λ l n us ts r. computed_fault r)
    (then_any (nest.assign true) (λ x. then_any (expecting k.RightBracket end_no_right_bracket) (λ u.
    deciding (sees k.LeftParenthesis) (Sees k.LeftParenthesis) (sees_test k.LeftParenthesis)
    (given (λ ts m. tt) (methods_made (makes_computed x) (tall_computed x) from d nest))
    (given (λ ts m. tt) (then_any (expecting k.Colon end_no_colon) (λ w. mapping (nest.assign true) (of_computed x)))))))

-- ---- keys

-- a key, as behind `get` and `set`
pub data KeyRead (l n : ℕ) : List Lexeme → List Lexeme → PropertyName → Type 0 where
  key_read : {ts : List Lexeme} {x : PropertyName} (c : Lexeme) → key_of c ≡ Some x → KeyRead l n (c ∷ []) ts x

abbrev KeyNeed : Bool → Sort → Need
KeyNeed b s ts = (is_word (sort_at ts) ≡ b) × (sort_at ts ≡ s)

word_left : (s : Sort) (ts : List Lexeme) → KeyNeed true s ts → Some_left ts
word_left s [] m = absurd (not_both m.0 refl)
word_left s (t ∷ ts) m = tt

sort_left : (b : Bool) (s : Sort) → (k.End ≡ s → ⊥) → (ts : List Lexeme) → KeyNeed b s ts → Some_left ts
sort_left b s other [] m = absurd (other m.1)
sort_left b s other (t ∷ ts) m = tt

word_key : {s : Sort} {l n : ℕ} {us ts : List Lexeme} {x : PropertyName} → KeyNeed true s (us ++ ts) → Mapped (Taken text) property_name.Text l n us ts x → KeyRead l n us ts x
unfolding text
word_key m (mapped called (taken t e) is) = key_read t (ap (λ b. key_by_word b t) m.0 ∙ ap (λ c. Some (property_name.Text c)) (sym e) ∙ ap (λ c. Some c) (sym is))

text_key_read : {l n : ℕ} {us ts : List Lexeme} {x : PropertyName} → KeyNeed false k.Text (us ++ ts) → Mapped (Taken text) property_name.Text l n us ts x → KeyRead l n us ts x
unfolding text
text_key_read m (mapped called (taken t e) is) = key_read t (ap (λ b. key_by_word b t) m.0 ∙ ap (λ s. other_key s t) m.1 ∙ ap (λ c. Some (property_name.Text c)) (sym e) ∙ ap (λ c. Some c) (sym is))

number_key_read : {l n : ℕ} {us ts : List Lexeme} {x : PropertyName} → KeyNeed false k.Number (us ++ ts) → Mapped (Taken number) property_name.Number l n us ts x → KeyRead l n us ts x
unfolding number
number_key_read m (mapped value (taken t e) is) = key_read t (ap (λ b. key_by_word b t) m.0 ∙ ap (λ s. other_key s t) m.1 ∙ ap (λ c. Some (property_name.Number c)) (sym e) ∙ ap (λ c. Some c) (sym is))

keys_by : {d : ℕ} (b : Bool) (s : Sort) → Parses (λ e. key_by b s) d (KeyNeed b s) KeyRead Here
unfolding text number
keys_by true s = map_given (λ l n us ts x m r. word_key m r) (λ l n us ts m c. elim c [ ]) (mapping (given (word_left s) (take text text_shallow)) property_name.Text)
keys_by false k.Text = map_given (λ l n us ts x m r. text_key_read m r) (λ l n us ts m c. elim c [ ]) (mapping (given (sort_left false k.Text (λ e. cc)) (take text text_shallow)) property_name.Text)
keys_by false k.Number = map_given (λ l n us ts x m r. number_key_read m r) (λ l n us ts m c. elim c [ ]) (mapping (given (sort_left false k.Number (λ e. cc)) (take number number_shallow)) property_name.Number)
keys_by false _ = given (λ ts m. tt) (map (λ l n us ts x r. elim r [ ]) (λ l n us ts r. r) refused)

word_shallow : Shallow sees_word
unfolding sees_word sort
word_shallow l n ts rs h = ap is_word (sort_alike ts rs h)

pub keys : {d : ℕ} → Parses (λ e. key) d Any KeyRead Here
unfolding key sees_word sort
keys = map (λ l n us ts x r. fact r) (λ l n us ts r. fault r)
    (bind (λ l n us ts b m r. word r) (look sees_word word_shallow) (λ b. bind (λ l n us ts s m r. both_known m r) (given {M = λ ts. is_word (sort_at ts) ≡ b} (λ ts m. tt) (look sort sort_shallow)) (λ s. keys_by b s)))
  where
    fact : {l n : ℕ} {us ts : List Lexeme} {x : PropertyName} → Both (Looked sees_word) (λ b. Both (Looked sort) (λ s. KeyRead)) l n us ts x → KeyRead l n us ts x
    fact (both (looked e) (both (looked f) r)) = r

    fault : {l n : ℕ} {us ts : List Lexeme} → Either Never (Looked sees_word) (λ b. Either Never (Looked sort) (λ s. Here)) l n us ts → Here l n us ts
    fault (first c) = elim c [ ]
    fault (second (looked e) (first c)) = elim c [ ]
    fault (second (looked e) (second (looked f) h)) = h

    word : {l n : ℕ} {us ts : List Lexeme} {b : Bool} → Looked sees_word l n us ts b → is_word (sort_at ts) ≡ b
    word (looked e) = sym e

    both_known : {l n : ℕ} {us ts : List Lexeme} {b : Bool} {s : Sort} → is_word (sort_at (us ++ ts)) ≡ b → Looked sort l n us ts s → KeyNeed b s ts
    both_known m (looked e) = (m, sym e)
