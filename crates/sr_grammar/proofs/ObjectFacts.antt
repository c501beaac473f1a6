-- What the rules of object literals read, and where they fail.
use Rattle.std.proofs.Common.{◌≡◌, ℕ, zero, suc, ◌+◌, ◌≤◌, ◌<◌, Bool, true, false, ◌&&◌, ◌||◌, List, [], ◌∷◌, ◌++◌, length, length-append, Option, None, Some, Ok, Err, refl, sym, ap, ◌∙◌, subst, append-nil, arith, ◌⊎◌, inl, inr, if◌then◌else◌}
use Rattle.std.specs.Prelude.{codes}
use Rattle.std.specs.Str.{bytes_eq}
use Rattle.sr_ast.specs.declared.tree.Node.{Node}
use Rattle.sr_ast.specs.declared.tree.Node.TheVariants as node
use Rattle.sr_ast.specs.declared.tree.Property.TheVariants as property
use Rattle.sr_ast.specs.declared.binding.Binding.{Binding}
use Rattle.sr_ast.specs.declared.binding.PropertyName.{PropertyName}
use Rattle.sr_syntax.specs.declared.sorts.Sort.TheVariants as k
use Rattle.sr_syntax.specs.declared.sorts.Sort.{Sort}
use Rattle.sr_syntax.specs.declared.sorts.Lexeme.{Lexeme}
use Rattle.sr_syntax.specs.declared.grown.Grown.{Grown}
use Rattle.sr_syntax.specs.declared.grown.Grove.{Grove}
use Rattle.sr_syntax.specs.declared.grown.Properties.{Properties}
use Rattle.sr_syntax.specs.declared.grown.Accessor.{Accessor}
use Rattle.sr_syntax.specs.declared.grown.Accessor.TheVariants as accessor
use Rattle.sr_syntax.specs.Sorts.{same_sort}
use Rattle.sr_syntax.specs.Input.{Input, Outcome, Parser, ◌>>=◌, and_then, pure, sees, after, sort, sort_at, sees_word, sees_text, text, text_of, content_at, is_word, place, place_at, left, eat, expect}
use Rattle.sr_syntax.specs.Objects.{sees_key, accessor_by, accessor_word, getter, setter, accessor_of, accessor_or_name, spread_property, plain_by, plain_property, property_by, one_property, no_properties, with_property, properties_from, properties}
use Rattle.sr_syntax.specs.Grammar.{tree}
use Rattle.sr_grammar.specs.Names.{is_text, key_of}
use Rattle.sr_grammar.specs.Derivations.{Assign, PropertiesWithCommas, Object, Body}
use Rattle.sr_grammar.specs.Derivations as g
use Rattle.sr_grammar.specs.Reading.{end_after}
use Rattle.sr_grammar.proofs.Steps.{inp, Fact, Fault, Need, Any, Parses, Both, both, Either, first, second, Never, Pure, nothing, Looked, looked, Taken, taken, Eaten, ate, absent, Expected, expected, Here, here, Chosen, yes, no, ChosenFault, yes_fault, no_fault, map, map_given, given, then_any, bind, look, take, Shallow, Some_left, place_shallow, sort_shallow, eaten, expecting, purely, choose_any, turns, finish, pred, not_both, same_sort_true, sort_alike, content_alike, Begins_at, At, ending, end_append, and_is}
use Rattle.sr_grammar.proofs.Depths.{lift_properties, lift_property}
use Rattle.sr_grammar.proofs.Facts.{Opened, opened, Mapped, mapped, mapping, Start, start, token}
use Rattle.sr_grammar.proofs.Lists.{Nested, assoc}
use Rattle.sr_grammar.proofs.Beginnings.{Begun, begun_more, carry, begun_whole, begun_of, Wholly, wholly, Partly, partly, Turned, onwards, at_end, Broken, broken, turned_runs, turned_breaks, turned_grows}
use Rattle.sr_grammar.proofs.Peeks.{text_shallow, unit_of, unit_shallow}
use Rattle.sr_grammar.proofs.Choices.{Decided, decided, denied, DecidedFault, decided_fault, denied_fault, deciding, Test}
use Rattle.sr_grammar.proofs.ParameterFacts.{EmptyList, empty_list, empty_lists, OneParam, one_param, one_params}
use Rattle.sr_grammar.proofs.PlainFunctions.{empty_body}
use Rattle.sr_grammar.proofs.PropertyFacts.{Made, PropertyOf, Behind, behind, NotBehind, not_behind, FirstKey, FirstName, FirstBracket, FirstWord, word_of, as_method, BodyMade, body_made, bodies_made, keyeds, behind_less, not_behind_less, named_properties, computeds, KeyRead, key_read, keys}
use Rattle.sr_grammar.proofs.Sorts.{end_no_comma, end_no_right_brace}

-- ---- accessors, behind their first word

abbrev gets : PropertyName → Grove → Node
gets called xs = node.Getter called xs.trees

abbrev sets : PropertyName → Binding → Grove → Node
sets called p xs = node.Setter called p xs.trees

getter_of : {d e : ℕ} {us vs : List Lexeme} {x : Unit {0}} {called : PropertyName} {xs : Grove} (t c : Lexeme) → is_text (codes "get") t ≡ true → key_of c ≡ Some called → EmptyList e us x → Body d vs xs
    → PropertyOf d (t ∷ c ∷ (us ++ vs)) (as_method (ending (gets called xs) t.from (end_after c.to (us ++ vs)) xs.tall))
getter_of t c w i (empty_list p q u r) h = g.getter t w c i p q u r h

setter_of : {d e : ℕ} {us vs : List Lexeme} {b : Binding} {called : PropertyName} {xs : Grove} (t c : Lexeme) → is_text (codes "set") t ≡ true → key_of c ≡ Some called → OneParam e us b → Body d vs xs
    → PropertyOf d (t ∷ c ∷ (us ++ vs)) (as_method (ending (sets called b xs) t.from (end_after c.to (us ++ vs)) xs.tall))
setter_of t c w i (one_param p q v r u s) h = g.setter t w c i p q v r u s h

getter_fact : {from d l n : ℕ} {called : List ℕ} {us ts : List Lexeme} {p : Made}
    → Both KeyRead (λ called. Both (Wholly EmptyList d) (λ u. BodyMade (gets called) from d)) l n us ts p → Behind (FirstWord accessor.Getter from called) d l n us ts p
getter_fact {from} {d} {p = p} (both {x = called} (key_read c i) (both {us = us} {vs = vs} (wholly a) (body_made {xs} h f))) = behind (λ t w.
    subst (λ q. PropertyOf d (t ∷ c ∷ (us ++ vs)) q)
    (sym (f ∙ ap (λ a. as_method (ending (gets called xs) a (end_after (end_after c.to us) vs) xs.tall)) (sym w.name.at)
    ∙ ap (λ a. as_method (ending (gets called xs) t.from a xs.tall)) (sym (end_append c.to us vs))))
    (getter_of t c w.word i a h))

setter_fact : {from d l n : ℕ} {called : List ℕ} {us ts : List Lexeme} {p : Made}
    → Both KeyRead (λ called. Both (Wholly OneParam d) (λ b. BodyMade (sets called b) from d)) l n us ts p → Behind (FirstWord accessor.Setter from called) d l n us ts p
setter_fact {from} {d} {p = p} (both {x = called} (key_read c i) (both {us = us} {vs = vs} {x = b} (wholly a) (body_made {xs} h f))) = behind (λ t w.
    subst (λ q. PropertyOf d (t ∷ c ∷ (us ++ vs)) q)
    (sym (f ∙ ap (λ a. as_method (ending (sets called b xs) a (end_after (end_after c.to us) vs) xs.tall)) (sym w.name.at)
    ∙ ap (λ a. as_method (ending (sets called b xs) t.from a xs.tall)) (sym (end_append c.to us vs))))
    (setter_of t c w.word i a h))

getter_fault : {from d l n : ℕ} {called : List ℕ} {us ts : List Lexeme}
    → Either Here KeyRead (λ called. Either (Partly EmptyList) (Wholly EmptyList d) (λ u. Partly Body)) l n us ts → NotBehind (FirstWord accessor.Getter from called) l n us ts
getter_fault (first here) = not_behind (λ t w. begun_whole 0 (t ∷ []) _ (g.shorthand t w.name.name))
getter_fault (second (key_read c i) (first (partly b))) = not_behind (λ t w. carry (t ∷ c ∷ []) (λ e vs x a. record { depth = 0; more = token k.LeftBrace ∷ token k.RightBrace ∷ []; made = _; has = getter_of t c w.word i a empty_body }) b)
getter_fault (second (key_read c i) (second {us = us} (wholly a) (partly b))) = not_behind (λ t w.
    carry (t ∷ c ∷ us) (λ e vs xs h. begun_whole e (t ∷ c ∷ (us ++ vs)) _ (getter_of t c w.word i a h)) b)

setter_fault : {from d l n : ℕ} {called : List ℕ} {us ts : List Lexeme}
    → Either Here KeyRead (λ called. Either (Partly OneParam) (Wholly OneParam d) (λ b. Partly Body)) l n us ts → NotBehind (FirstWord accessor.Setter from called) l n us ts
setter_fault (first here) = not_behind (λ t w. begun_whole 0 (t ∷ []) _ (g.shorthand t w.name.name))
setter_fault (second (key_read c i) (first (partly b))) = not_behind (λ t w. carry (t ∷ c ∷ []) (λ e vs x a. record { depth = 0; more = token k.LeftBrace ∷ token k.RightBrace ∷ []; made = _; has = setter_of t c w.word i a empty_body }) b)
setter_fault (second (key_read c i) (second {us = us} (wholly a) (partly b))) = not_behind (λ t w.
    carry (t ∷ c ∷ us) (λ e vs xs h. begun_whole e (t ∷ c ∷ (us ++ vs)) _ (setter_of t c w.word i a h)) b)

accessors : (which : Accessor) (from : ℕ) (called : List ℕ) (d : ℕ) → Nested d
    → Parses (λ e. accessor_of (tree e) from which) d Any (Behind (FirstWord which from called) d) (NotBehind (FirstWord which from called))
unfolding getter setter
accessors accessor.Getter from called d nest = map (λ l n us ts x r. getter_fact r) (λ l n us ts r. getter_fault r)
    (then_any keys (λ called. then_any empty_lists (λ u. bodies_made (gets called) from d nest)))
accessors accessor.Setter from called d nest = map (λ l n us ts x r. setter_fact r) (λ l n us ts r. setter_fault r)
    (then_any keys (λ called. then_any one_params (λ b. bodies_made (sets called b) from d nest)))

-- ---- behind `get` and `set`

abbrev SeesKey : List Lexeme → Bool
SeesKey ts = is_word (sort_at ts) || (same_sort (sort_at ts) k.Text || same_sort (sort_at ts) k.Number)

key_test : Test sees_key SeesKey
unfolding sees_key sees_word sees sort
key_test = record { shows = λ all l n. refl; shallow = λ ts rs same. rw (sort_alike ts rs same) refl }

word_fact : {which : Accessor} {from d l n : ℕ} {called : List ℕ} {us ts : List Lexeme} {p : Made}
    → Decided SeesKey (Behind (FirstWord which from called) d) (Behind (FirstName from called) d) l n us ts p → Behind (FirstWord which from called) d l n us ts p
word_fact (decided is r) = r
word_fact (denied is r) = behind_less (λ m t w. w.name) r

word_fault : {which : Accessor} {from l n : ℕ} {called : List ℕ} {us ts : List Lexeme}
    → DecidedFault SeesKey (NotBehind (FirstWord which from called)) (NotBehind (FirstName from called)) l n us ts → NotBehind (FirstWord which from called) l n us ts
word_fault (decided_fault is r) = r
word_fault (denied_fault is r) = not_behind_less (λ m t w. w.name) r

accessors_or_names : (which : Accessor) (from : ℕ) (called : List ℕ) (d : ℕ) → Nested d
    → Parses (λ e. accessor_or_name (tree e) from which called) d Any (Behind (FirstWord which from called) d) (NotBehind (FirstWord which from called))
unfolding accessor_or_name
accessors_or_names which from called d nest = map (λ l n us ts x r. word_fact r) (λ l n us ts r. word_fault r)
    (deciding sees_key SeesKey key_test (given (λ ts m. tt) (accessors which from called d nest)) (given (λ ts m. tt) (named_properties from called d nest)))

-- ---- a property by its first token

abbrev Sort_at : Sort → ℕ → Need
Sort_at s from = At (λ s. s) s from

some_left : (s : Sort) (from : ℕ) → (k.End ≡ s → ⊥) → (ts : List Lexeme) → Sort_at s from ts → Some_left ts
some_left s from other [] m = absurd (other m)
some_left s from other (t ∷ ts) m = tt

spread_fact : {d l n : ℕ} {us ts : List Lexeme} {p : Made} (from : ℕ) → Sort_at k.Ellipsis from (us ++ ts)
    → Both (Taken unit_of) (λ u. Mapped (Opened (Assign true) d) (λ x. (property.Spread x.tree, x.height))) l n us ts p → Wholly PropertyOf d l n us ts p
spread_fact {l = l} {n = n} {ts = ts} from m (both {vs = us} (taken t e) (mapped x (opened {d} h b) f)) = subst (λ q. Wholly PropertyOf (suc d) l n (t ∷ us) ts q) (sym f) (wholly (g.spread_property t m.0 h))

abbrev spread_of : Grown → Made
spread_of x = (property.Spread x.tree, x.height)

spread_fault : {l n : ℕ} {us ts : List Lexeme} (from : ℕ) → Sort_at k.Ellipsis from (us ++ ts) → Either Never (Taken unit_of) (λ u. Start (Assign true)) l n us ts → Partly PropertyOf l n us ts
spread_fault from m (first c) = elim c [ ]
spread_fault from m (second (taken t e) (start s)) = partly (carry (t ∷ []) (λ e vs x h. begun_whole (suc e) (t ∷ vs) (spread_of x) (g.spread_property t m.0 h)) (begun_of s))

bracket_fact : {from d l n : ℕ} {us ts : List Lexeme} {p : Made} → Sort_at k.LeftBracket from (us ++ ts) → Both (Taken unit_of) (λ u. Behind (FirstBracket from) d) l n us ts p → Wholly PropertyOf d l n us ts p
bracket_fact m (both (taken t e) (behind f)) = wholly (f t (record { bracket = m.0; at = m.1; end = refl }))

bracket_fault : {from l n : ℕ} {us ts : List Lexeme} → Sort_at k.LeftBracket from (us ++ ts) → Either Never (Taken unit_of) (λ u. NotBehind (FirstBracket from)) l n us ts → Partly PropertyOf l n us ts
bracket_fault m (first c) = elim c [ ]
bracket_fault m (second (taken t e) (not_behind f)) = partly (f t (record { bracket = m.0; at = m.1; end = refl }))

name_fact : {from d l n : ℕ} {us ts : List Lexeme} {p : Made} → Sort_at k.Identifier from (us ++ ts) → Both (Taken text) (λ called. Behind (FirstName from called) d) l n us ts p → Wholly PropertyOf d l n us ts p
unfolding text
name_fact m (both (taken t e) (behind f)) = wholly (f t (record { name = m.0; text = e; at = m.1; end = refl }))

name_fault : {from l n : ℕ} {us ts : List Lexeme} → Sort_at k.Identifier from (us ++ ts) → Either Never (Taken text) (λ called. NotBehind (FirstName from called)) l n us ts → Partly PropertyOf l n us ts
unfolding text
name_fault m (first c) = elim c [ ]
name_fault m (second (taken t e) (not_behind f)) = partly (f t (record { name = m.0; text = e; at = m.1; end = refl }))

key_fact : {from d l n : ℕ} {us ts : List Lexeme} {p : Made} → Begins_at from (us ++ ts) → Both KeyRead (λ called. Behind (FirstKey from called) d) l n us ts p → Wholly PropertyOf d l n us ts p
key_fact m (both {x = called} (key_read c i) (behind f)) = wholly (f c (record { key = i; at = m; end = refl }))

key_fault : {from l n : ℕ} {us ts : List Lexeme} → Begins_at from (us ++ ts) → Either Here KeyRead (λ called. NotBehind (FirstKey from called)) l n us ts → Partly PropertyOf l n us ts
key_fault m (first here) = partly (begun_more 0 [] [] (token k.Identifier ∷ []) _ (g.shorthand (token k.Identifier) refl))
key_fault m (second {x = called} (key_read c i) (not_behind f)) = partly (f c (record { key = i; at = m; end = refl }))

place_at_sort : (s : Sort) (from : ℕ) (ts : List Lexeme) → Sort_at s from ts → Begins_at from ts
place_at_sort s from [] m = tt
place_at_sort s from (t ∷ ts) m = m.1

module _ (d : ℕ) (nest : Nested d) where
  plains_by : (from : ℕ) (s : Sort) → Parses (λ e. plain_by (tree e) from s) d (Sort_at s from) (Wholly PropertyOf d) (Partly PropertyOf)
  unfolding spread_property text
  plains_by from k.Ellipsis = map_given (λ l n us ts x m r. spread_fact from m r) (λ l n us ts m r. spread_fault from m r)
      (then_any (given (some_left k.Ellipsis from (λ e. cc)) (take unit_of unit_shallow)) (λ u. mapping (nest.assign true) spread_of))
  plains_by from k.LeftBracket = map_given (λ l n us ts x m r. bracket_fact m r) (λ l n us ts m r. bracket_fault m r)
      (then_any (given (some_left k.LeftBracket from (λ e. cc)) (take unit_of unit_shallow)) (λ u. computeds from d nest))
  plains_by from k.Identifier = map_given (λ l n us ts x m r. name_fact m r) (λ l n us ts m r. name_fault m r)
      (then_any (given (some_left k.Identifier from (λ e. cc)) (take text text_shallow)) (λ called. named_properties from called d nest))
  plains_by from s = given (place_at_sort s from) (map_given (λ l n us ts x m r. key_fact m r) (λ l n us ts m r. key_fault m r)
      (given (λ ts m. tt) (then_any keys (λ called. keyeds from called d nest))))

  plain_properties : (from : ℕ) → Parses (λ e. plain_property (tree e) from) d (Begins_at from) (Wholly PropertyOf d) (Partly PropertyOf)
  unfolding plain_property sort
  plain_properties from = map (λ l n us ts x r. fact r) (λ l n us ts r. fault r)
      (bind (λ l n us ts s m r. seen m r) (given {M = Begins_at from} (λ ts m. tt) (look sort sort_shallow)) (λ s. plains_by from s))
    where
      fact : {l n : ℕ} {us ts : List Lexeme} {p : Made} → Both (Looked sort) (λ s. Wholly PropertyOf d) l n us ts p → Wholly PropertyOf d l n us ts p
      fact (both (looked e) r) = r

      fault : {l n : ℕ} {us ts : List Lexeme} → Either Never (Looked sort) (λ s. Partly PropertyOf) l n us ts → Partly PropertyOf l n us ts
      fault (first c) = elim c [ ]
      fault (second (looked e) r) = r

      seen : {l n : ℕ} {us ts : List Lexeme} {s : Sort} → Begins_at from (us ++ ts) → Looked sort l n us ts s → Sort_at s from ts
      seen {s = s} m (looked {ts} e) = go ts m e
        where
          go : (ts : List Lexeme) → Begins_at from ts → s ≡ sort_at ts → Sort_at s from ts
          go [] m e = sym e
          go (t ∷ ts) m e = (sym e, m)

-- ---- a property

abbrev SeesText : List ℕ → List Lexeme → Bool
SeesText word ts = same_sort (sort_at ts) k.Identifier && bytes_eq (text_of (content_at ts)) word

abbrev word_seen : List Lexeme → Option Accessor
word_seen ts = accessor_by (SeesText (codes "get") ts) (SeesText (codes "set") ts)

word_shallow : Shallow accessor_word
unfolding accessor_word sees_text
word_shallow l n ts rs h = rw (content_alike ts rs h) (rw (sort_alike ts rs h) refl)

-- the place and the word that were seen
abbrev WordNeed : ℕ → Option Accessor → Need
WordNeed from which ts = Begins_at from ts × (word_seen ts ≡ which)

word_is : (t : Lexeme) (ts : List Lexeme) (which : Accessor) → word_seen (t ∷ ts) ≡ Some which → is_text (word_of which) t ≡ true
word_is t ts which h = go (is_text (codes "get") t) (is_text (codes "set") t) refl refl h
  where
    go : (a b : Bool) → is_text (codes "get") t ≡ a → is_text (codes "set") t ≡ b → accessor_by a b ≡ Some which → is_text (word_of which) t ≡ true
    go true b e f h = let same : accessor.Getter ≡ which = cc in subst (λ w. is_text (word_of w) t ≡ true) same e
    go false true e f h = let same : accessor.Setter ≡ which = cc in subst (λ w. is_text (word_of w) t ≡ true) same f
    go false false e f h = cc

word_left : (from : ℕ) (which : Accessor) (ts : List Lexeme) → WordNeed from (Some which) ts → Some_left ts
unfolding same_sort
word_left from which [] m = let no = m.1 in cc
word_left from which (t ∷ ts) m = tt

first_word : {from l : ℕ} {called : List ℕ} (which : Accessor) (t : Lexeme) (ts : List Lexeme) → WordNeed from (Some which) (t ∷ ts) → called ≡ text_of t.content → t.to ≡ l → FirstWord which from called l t
first_word which t ts m e f =
    let word : is_text (word_of which) t ≡ true = word_is t ts which m.1 in
    let name : t.sort ≡ k.Identifier = same_sort_true t.sort k.Identifier (and_is (same_sort t.sort k.Identifier) (bytes_eq (text_of t.content) (word_of which)) word).0 in
    record { word = word; name = record { name = name; text = e; at = m.0; end = f } }

accessor_fact : {d l n : ℕ} {us ts : List Lexeme} {p : Made} (which : Accessor) (from : ℕ) → WordNeed from (Some which) (us ++ ts)
    → Both (Taken text) (λ called. Behind (FirstWord which from called) d) l n us ts p → Wholly PropertyOf d l n us ts p
unfolding text
accessor_fact which from m (both {vs = us} {ts = ts} (taken t e) (behind f)) = wholly (f t (first_word which t (us ++ ts) m e refl))

accessor_fault : {l n : ℕ} {us ts : List Lexeme} (which : Accessor) (from : ℕ) → WordNeed from (Some which) (us ++ ts)
    → Either Never (Taken text) (λ called. NotBehind (FirstWord which from called)) l n us ts → Partly PropertyOf l n us ts
unfolding text
accessor_fault which from m (first c) = elim c [ ]
accessor_fault which from m (second {vs = us} {ts = ts} (taken t e) (not_behind f)) = partly (f t (first_word which t (us ++ ts) m e refl))

module _ (d : ℕ) (nest : Nested d) where
  properties_by : (from : ℕ) (which : Option Accessor) → Parses (λ e. property_by (tree e) from which) d (WordNeed from which) (Wholly PropertyOf d) (Partly PropertyOf)
  unfolding text
  properties_by from (Some which) = map_given (λ l n us ts x m r. accessor_fact which from m r) (λ l n us ts m r. accessor_fault which from m r)
      (then_any (given (word_left from which) (take text text_shallow)) (λ called. accessors_or_names which from called d nest))
  properties_by from None = given (λ ts m. m.0) (plain_properties d nest from)

  one_properties : Parses (λ e. one_property (tree e)) d Any (Wholly PropertyOf d) (Partly PropertyOf)
  unfolding one_property place accessor_word sees_text
  one_properties = map (λ l n us ts x r. fact r) (λ l n us ts r. fault r)
      (bind (λ l n us ts from m r. begun r) (look place place_shallow) (λ from.
      bind (λ l n us ts which m r. seen from m r) (given {M = Begins_at from} (λ ts m. tt) (look accessor_word word_shallow)) (λ which. properties_by from which)))
    where
      fact : {l n : ℕ} {us ts : List Lexeme} {p : Made} → Both (Looked place) (λ from. Both (Looked accessor_word) (λ which. Wholly PropertyOf d)) l n us ts p → Wholly PropertyOf d l n us ts p
      fact (both (looked e) (both (looked f) r)) = r

      fault : {l n : ℕ} {us ts : List Lexeme} → Either Never (Looked place) (λ from. Either Never (Looked accessor_word) (λ which. Partly PropertyOf)) l n us ts → Partly PropertyOf l n us ts
      fault (first c) = elim c [ ]
      fault (second (looked e) (first c)) = elim c [ ]
      fault (second (looked e) (second (looked f) r)) = r

      begun : {l n from : ℕ} {us ts : List Lexeme} → Looked place l n us ts from → Begins_at from ts
      begun {n = n} {from = from} (looked {ts} e) = go ts e
        where
          go : (ts : List Lexeme) → from ≡ place_at n ts → Begins_at from ts
          go [] e = tt
          go (t ∷ ts) e = sym e

      seen : {l n : ℕ} {us ts : List Lexeme} {which : Option Accessor} (from : ℕ) → Begins_at from (us ++ ts) → Looked accessor_word l n us ts which → WordNeed from which ts
      seen from m (looked e) = (m, sym e)

-- ---- properties

abbrev PropertiesSoFar : ℕ → List Lexeme → List Lexeme → Properties → Type 0
PropertiesSoFar d us ts all = PropertiesWithCommas d us all

abbrev ObjectThen : ℕ → List Lexeme → List Lexeme → Properties → Type 0
ObjectThen d us ts all = Object d us all

abbrev last_step : Properties → Parser (Properties ⊎ Properties)
last_step all = eat k.Comma >>= (λ more. if more then (λ i. Ok (inl all, i)) else (expect k.RightBrace >>= (λ u i. Ok (inr all, i))))

abbrev properties_step : ℕ → Properties → Parser (Properties ⊎ Properties)
properties_step e found = eat k.RightBrace >>= (λ is_over. if is_over then (λ i. Ok (inr found, i)) else (one_property (tree e) >>= (λ x. last_step (with_property found x))))

abbrev LastFact : Properties → Fact (Properties ⊎ Properties)
LastFact all = Both (Eaten k.Comma) (λ b. Chosen b (Pure (inl all)) (Mapped (Expected k.RightBrace) (λ u. inr all)))

abbrev PropertiesFact : ℕ → Properties → Fact (Properties ⊎ Properties)
PropertiesFact d found = Both (Eaten k.RightBrace) (λ b. Chosen b (Pure (inr found)) (Both (Wholly PropertyOf d) (λ x. LastFact (with_property found x))))

some_more : (us : List Lexeme) (t : Lexeme) → 0 < length (us ++ t ∷ [])
some_more us t = omega (arith, length-append us (t ∷ []))

properties_fact : {d l n : ℕ} {us ts : List Lexeme} {found : Properties} {o : Properties ⊎ Properties} → PropertiesFact d found l n us ts o → Turned PropertiesSoFar ObjectThen d found l n us ts o
properties_fact {found = found} (both (ate t c e) (yes f (nothing is))) = at_end found (λ vs w. g.property_comma_at_last w t c) is
properties_fact (both (ate t c e) (no f r)) = absurd (not_both e f)
properties_fact (both (absent e o) (yes f r)) = absurd (not_both f e)
properties_fact {found = found} (both (absent e o) (no f (both {us} {x = x} (wholly h) (both (ate t c i) (yes j (nothing is)))))) =
    onwards (with_property found x) (λ vs w. g.one_more_property w h t c) (some_more us t) is
properties_fact (both (absent e o) (no f (both (wholly h) (both (ate t c i) (no j r))))) = absurd (not_both i j)
properties_fact (both (absent e o) (no f (both (wholly h) (both (absent i p) (yes j r))))) = absurd (not_both j i)
properties_fact {found = found} (both (absent e o) (no f (both {x = x} (wholly h) (both (absent i p) (no j (mapped v (expected u c) is)))))) =
    at_end (with_property found x) (λ vs w. g.property_at_last w h u c) is

-- a property that is begun begins what closes
close_property : {d : ℕ} {vs us : List Lexeme} {found : Properties} → PropertiesWithCommas d vs found → Begun PropertyOf us → Begun Object (vs ++ us)
close_property {d} {vs} {found = found} w b = carry vs (λ e ws p h. begun_more (d + e) vs ws (token k.RightBrace ∷ []) (with_property found p)
    (g.property_at_last (lift_properties d (d + e) (omega arith) w) (lift_property e (d + e) (omega arith) h) (token k.RightBrace) refl)) b

abbrev PropertiesFault : ℕ → Fault
PropertiesFault d = Either Never (Eaten k.RightBrace) (λ b. ChosenFault b Never (Either (Partly PropertyOf) (Wholly PropertyOf d) (λ x. Either Never (Eaten k.Comma) (λ m. ChosenFault m Never Here))))

properties_fault : {d l n : ℕ} {us ts : List Lexeme} {found : Properties} → PropertiesFault d l n us ts → Broken PropertiesSoFar Object d found l n us ts
properties_fault (first c) = elim c [ ]
properties_fault (second b (yes_fault f c)) = elim c [ ]
properties_fault (second (ate t c e) (no_fault f r)) = absurd (not_both e f)
properties_fault (second (absent e o) (no_fault f (first (partly b)))) = broken (λ vs w. close_property w b)
properties_fault (second (absent e o) (no_fault f (second h (first c)))) = elim c [ ]
properties_fault (second (absent e o) (no_fault f (second h (second m (yes_fault j c))))) = elim c [ ]
properties_fault (second (absent e o) (no_fault f (second h (second (ate t c i) (no_fault j r))))) = absurd (not_both i j)
properties_fault {d} (second (absent e o) (no_fault f (second {us} {x = x} (wholly h) (second (absent i p) (no_fault j here))))) =
    broken (λ vs w. close_property w (begun_whole d (us ++ []) x (subst (λ zs. PropertyOf d zs x) (sym (append-nil us)) h)))

module _ (d : ℕ) (nest : Nested d) where
  abbrev properties_again : ℕ → ℕ → Properties ⊎ Properties → Parser Properties
  properties_again = finish (λ m e found. properties_from (tree e) m found) properties_step 1 d (Turned PropertiesSoFar ObjectThen d) (Broken PropertiesSoFar Object d)

  last_turn : (m e : ℕ) (all : Properties) (more : Bool) (i : Input)
      → (if more then properties_from (tree e) m all else (expect k.RightBrace >>= (λ u. pure all))) i
      ≡ and_then ((if more then (λ i. Ok (inl all, i)) else (expect k.RightBrace >>= (λ u i. Ok (inr all, i)))) i) (properties_again m e)
  last_turn m e all true i = refl
  last_turn m e all false i = assoc (expect k.RightBrace i) (λ u. inr all) (properties_again m e)

  property_turn : (m e : ℕ) (found : Properties) (o : Outcome Made)
      → and_then o (λ x. eat k.Comma >>= (λ more. if more then properties_from (tree e) m (with_property found x) else (expect k.RightBrace >>= (λ u. pure (with_property found x)))))
      ≡ and_then (and_then o (λ x. last_step (with_property found x))) (properties_again m e)
  property_turn m e found (Ok p) = last_turn m e (with_property found p.0) (sees k.Comma p.1) (after k.Comma p.1)
  property_turn m e found (Err r) = refl

  over_turn : (m e : ℕ) (found : Properties) (b : Bool) (i : Input)
      → (if b then pure found else (one_property (tree e) >>= (λ x. eat k.Comma >>= (λ more. if more then properties_from (tree e) m (with_property found x) else (expect k.RightBrace >>= (λ u. pure (with_property found x))))))) i
      ≡ and_then ((if b then (λ i. Ok (inr found, i)) else (one_property (tree e) >>= (λ x. last_step (with_property found x)))) i) (properties_again m e)
  over_turn m e found true i = refl
  over_turn m e found false i = property_turn m e found (one_property (tree e) i)

  properties_unroll : (m e : ℕ) (found : Properties) (all : List Lexeme) (l n : ℕ) → 1 + length all ≤ m
      → properties_from (tree e) m found (inp all l n) ≡ and_then (properties_step e found (inp all l n)) (properties_again (pred m) e)
  unfolding properties_from
  properties_unroll zero e found all l n far = absurd (omega arith)
  properties_unroll (suc m) e found all l n far = over_turn m e found (sees k.RightBrace (inp all l n)) (after k.RightBrace (inp all l n))

  properties_steps : (found : Properties) → Parses (λ e. properties_step e found) d Any (Turned PropertiesSoFar ObjectThen d found) (Broken PropertiesSoFar Object d found)
  properties_steps found = map (λ l n us ts x r. properties_fact r) (λ l n us ts r. properties_fault r)
      (then_any (eaten k.RightBrace end_no_right_brace) (λ b. choose_any b (purely (inr found)) (then_any (one_properties d nest) (λ x.
      then_any (eaten k.Comma end_no_comma) (λ m. choose_any m (purely (inl (with_property found x))) (mapping (expecting k.RightBrace end_no_right_brace) (λ u. inr (with_property found x))))))))

  pub propertiess : Parses (λ e. properties (tree e)) d Any (Wholly Object d) (Partly Object)
  unfolding properties left
  propertiess = map (λ l n us ts x r. wholly (turned_runs r [] g.no_properties_yet)) (λ l n us ts r. partly (turned_breaks r [] g.no_properties_yet))
      (turns (λ m e found. properties_from (tree e) m found) properties_step 1 d (Turned PropertiesSoFar ObjectThen d) (Broken PropertiesSoFar Object d)
      properties_unroll properties_steps turned_grows (λ i. left i + 1) (λ all l n. omega arith) no_properties)
