-- What derives is read: the keys of properties, and what stands behind them.
use Rattle.std.proofs.Common.{◌≡◌, ℕ, Bool, true, false, ◌||◌, ◌&&◌, List, [], ◌∷◌, Option, None, Some, Ok, refl, sym, ap, ◌∙◌}
use Rattle.std.specs.Prelude.{codes}
use Rattle.std.specs.Str.{bytes_eq}
use Rattle.std.proofs.lemmas.Slice.Eq.{bytes_eq-Decides}
use Rattle.sr_ast.specs.declared.binding.PropertyName.{PropertyName}
use Rattle.sr_ast.specs.declared.binding.PropertyName.TheVariants as property_name
use Rattle.sr_syntax.specs.declared.grown.Accessor.{Accessor}
use Rattle.sr_syntax.specs.declared.grown.Accessor.TheVariants as accessor
use Rattle.sr_syntax.specs.declared.sorts.Sort.TheVariants as k
use Rattle.sr_syntax.specs.declared.sorts.Sort.{Sort}
use Rattle.sr_syntax.specs.declared.sorts.Lexeme.{Lexeme}
use Rattle.sr_syntax.specs.Sorts.{same_sort}
use Rattle.sr_syntax.specs.Input.{Input, ◌>>=◌, sees, sees_word, sees_text, sort, sort_at, is_word, place, text, text_of, number, next}
use Rattle.sr_syntax.specs.Objects.{key, key_by, sees_key, accessor_by, accessor_word, keyed, named_property, accessor_or_name, accessor_of, plain_by, plain_property, property_by, one_property}
use Rattle.sr_syntax.specs.Grammar.{tree}
use Rattle.sr_grammar.specs.Names.{is_text, key_of, key_by_word, other_key}
use Rattle.sr_grammar.proofs.Steps.{inp, same_sort_true, and_is, some_is}
use Rattle.sr_grammar.proofs.Taking.{Whatever, Follow, Moves, Takes, moves_then, moves_on, moves_is, moves_when, moves_now}
use Rattle.sr_grammar.proofs.PropertyFacts.{word_of}

-- ---- what a key is

-- what stands behind a key, or a name alone
abbrev pub opens : Sort → Bool
opens k.LeftParenthesis = true
opens k.Colon = true
opens _ = false

abbrev pub closes : Sort → Bool
closes k.Comma = true
closes k.RightBrace = true
closes _ = false

abbrev pub Opens : Follow
Opens r = opens (sort_at r) ≡ true

abbrev pub Closes : Follow
Closes r = closes (sort_at r) ≡ true

abbrev is_key : Sort → Bool
is_key s = is_word s || (same_sort s k.Text || same_sort s k.Number)

opens_no_key : (s : Sort) → opens s ≡ true → is_key s ≡ false
unfolding same_sort
opens_no_key k.LeftParenthesis e = refl
opens_no_key k.Colon e = refl
opens_no_key _ e = cc

pub closes_no_key : (s : Sort) → closes s ≡ true → is_key s ≡ false
unfolding same_sort
closes_no_key k.Comma e = refl
closes_no_key k.RightBrace e = refl
closes_no_key _ e = cc

-- ---- a key

key_goes : (t : Lexeme) (called : PropertyName) (r : List Lexeme) (l n : ℕ) (b : Bool) (s : Sort) → is_word t.sort ≡ b → t.sort ≡ s → key_by_word b t ≡ Some called → key_by b s (inp (t ∷ r) l n) ≡ Ok (called, inp r t.to n)
unfolding text number next
key_goes t called r l n true s w c h = some_is (λ a. key_by true s (inp (t ∷ r) l n) ≡ Ok (a, inp r t.to n)) h refl
key_goes t called r l n false s w c h = go s (ap (λ a. other_key a t) (sym c) ∙ h)
  where
    go : (s : Sort) → other_key s t ≡ Some called → key_by false s (inp (t ∷ r) l n) ≡ Ok (called, inp r t.to n)
    go k.Text h = some_is (λ a. key_by false k.Text (inp (t ∷ r) l n) ≡ Ok (a, inp r t.to n)) h refl
    go k.Number h = some_is (λ a. key_by false k.Number (inp (t ∷ r) l n) ≡ Ok (a, inp r t.to n)) h refl
    go _ h = cc

pub key_read : (t : Lexeme) (called : PropertyName) → key_of t ≡ Some called → Takes key (t ∷ []) 0 called Whatever
unfolding key sees_word sort
key_read t called h = moves_now (λ r l n q. key_goes t called r l n (is_word t.sort) t.sort refl refl h)

-- and a key comes
key_seen : (t : Lexeme) (called : PropertyName) (b : Bool) (s : Sort) → is_word s ≡ b → t.sort ≡ s → key_by_word b t ≡ Some called → is_key s ≡ true
unfolding same_sort
key_seen t called true s w c h = rw w refl
key_seen t called false s w c h = rw w (go s (ap (λ a. other_key a t) (sym c) ∙ h))
  where
    go : (s : Sort) → other_key s t ≡ Some called → (same_sort s k.Text || same_sort s k.Number) ≡ true
    go k.Text h = refl
    go k.Number h = refl
    go _ h = cc

pub key_is_seen : (t : Lexeme) (called : PropertyName) → key_of t ≡ Some called → (r : List Lexeme) (l n : ℕ) → sees_key (inp (t ∷ r) l n) ≡ true
unfolding sees_key sees_word sees sort
key_is_seen t called h r l n = key_seen t called (is_word t.sort) t.sort refl refl h

-- no token of this sort is a key
no_key : (t : Lexeme) (called : PropertyName) (v : Sort) → is_word v ≡ false → other_key v t ≡ None → key_of t ≡ Some called → same_sort t.sort v ≡ false
no_key t called v w o h = go (same_sort t.sort v) refl
  where
    go : (b : Bool) → same_sort t.sort v ≡ b → same_sort t.sort v ≡ false
    go true is =
        let c = same_sort_true t.sort v is in
        let none : key_of t ≡ None = ap (λ b. key_by_word b t) (ap is_word c ∙ w) ∙ ap (λ s. other_key s t) c ∙ o in
        let other : None ≡ Some called = sym none ∙ h in cc
    go false is = is

pub key_no_brace : (t : Lexeme) (called : PropertyName) → key_of t ≡ Some called → same_sort t.sort k.RightBrace ≡ false
key_no_brace t called h = no_key t called k.RightBrace refl refl h

key_no_bracket : (t : Lexeme) (called : PropertyName) → key_of t ≡ Some called → same_sort t.sort k.LeftBracket ≡ false
key_no_bracket t called h = no_key t called k.LeftBracket refl refl h

key_no_ellipsis : (t : Lexeme) (called : PropertyName) → key_of t ≡ Some called → same_sort t.sort k.Ellipsis ≡ false
key_no_ellipsis t called h = no_key t called k.Ellipsis refl refl h

-- ---- the beginning of a property

-- a property that begins with no name that is not reserved
pub plain_is : (d : ℕ) (t : Lexeme) → same_sort t.sort k.Identifier ≡ false → (r : List Lexeme) (l n : ℕ) → one_property (tree d) (inp (t ∷ r) l n) ≡ plain_by (tree d) t.from t.sort (inp (t ∷ r) l n)
unfolding one_property plain_property accessor_word sees_text sort place
plain_is d t o r l n = rw o refl

other_by : (d from : ℕ) (s : Sort) (i : Input) → same_sort s k.Ellipsis ≡ false → same_sort s k.LeftBracket ≡ false → same_sort s k.Identifier ≡ false → plain_by (tree d) from s i ≡ (key >>= keyed (tree d) from) i
unfolding same_sort
other_by d from k.Ellipsis i e f h = cc
other_by d from k.LeftBracket i e f h = cc
other_by d from k.Identifier i e f h = cc
other_by d from _ i e f h = refl

-- a key that is no such name
keyed_other : (d : ℕ) (t : Lexeme) (called : PropertyName) → key_of t ≡ Some called → same_sort t.sort k.Identifier ≡ false → Moves (one_property (tree d)) (t ∷ []) 0 (keyed (tree d) t.from called) Whatever
keyed_other d t called h o =
    moves_is (λ r l n q. plain_is d t o r l n ∙ other_by d t.from t.sort (inp (t ∷ r) l n) (key_no_ellipsis t called h) (key_no_bracket t called h) o)
    (moves_on (key_read t called h) (keyed (tree d) t.from))

-- a name that is not reserved
accessor_goes : (d : ℕ) (t : Lexeme) (r : List Lexeme) (l n : ℕ) (o : Option Accessor) → sees_key (inp r t.to n) ≡ false → t.sort ≡ k.Identifier
    → property_by (tree d) t.from o (inp (t ∷ r) l n) ≡ named_property (tree d) t.from (text_of t.content) (inp r t.to n)
unfolding plain_property accessor_or_name text next sort
accessor_goes d t r l n (Some which) f c = rw f refl
accessor_goes d t r l n None f c = ap (λ s. plain_by (tree d) t.from s (inp (t ∷ r) l n)) c

pub named_goes : (d : ℕ) (t : Lexeme) → t.sort ≡ k.Identifier → Moves (one_property (tree d)) (t ∷ []) 0 (named_property (tree d) t.from (text_of t.content)) (λ r. is_key (sort_at r) ≡ false)
unfolding one_property place sees_key sees_word sees sort
named_goes d t c = moves_now (λ r l n q. accessor_goes d t r l n (accessor_word (inp (t ∷ r) l n)) q c)

open_sorts : (s : Sort) → opens s ≡ true → (same_sort s k.LeftParenthesis || same_sort s k.Colon) ≡ true
unfolding same_sort
open_sorts k.LeftParenthesis e = refl
open_sorts k.Colon e = refl
open_sorts _ e = cc

named_keyed : (d : ℕ) (t : Lexeme) (called : PropertyName) → key_of t ≡ Some called → t.sort ≡ k.Identifier → Moves (one_property (tree d)) (t ∷ []) 0 (keyed (tree d) t.from called) Opens
unfolding named_property sees sort
named_keyed d t called h c =
    let same : Some (property_name.Text (text_of t.content)) ≡ Some called = ap (λ s. key_by_word (is_word s) t) (sym c) ∙ h in
    let step : Moves (one_property (tree d)) (t ∷ []) 0 (keyed (tree d) t.from (property_name.Text (text_of t.content))) Opens = moves_first_of (moves_when (λ r q. opens_no_key (sort_at r) q) (named_goes d t c)) in
    some_is (λ a. Moves (one_property (tree d)) (t ∷ []) 0 (keyed (tree d) t.from a) Opens) same step
  where
    moves_first_of : Moves (one_property (tree d)) (t ∷ []) 0 (named_property (tree d) t.from (text_of t.content)) Opens → Moves (one_property (tree d)) (t ∷ []) 0 (keyed (tree d) t.from (property_name.Text (text_of t.content))) Opens
    moves_first_of m = moves_then m (λ r q. q) (moves_now (λ r l n q. rw (open_sorts (sort_at r) q) refl))

-- a key, before `(` or `:`
pub keyed_goes : (d : ℕ) (t : Lexeme) (called : PropertyName) → key_of t ≡ Some called → Moves (one_property (tree d)) (t ∷ []) 0 (keyed (tree d) t.from called) Opens
keyed_goes d t called h = go (same_sort t.sort k.Identifier) refl
  where
    go : (b : Bool) → same_sort t.sort k.Identifier ≡ b → Moves (one_property (tree d)) (t ∷ []) 0 (keyed (tree d) t.from called) Opens
    go true is = named_keyed d t called h (same_sort_true t.sort k.Identifier is)
    go false is = moves_when (λ r q. tt) (keyed_other d t called h is)

-- ---- `get` and `set`

pub word_sort : (word : List ℕ) (t : Lexeme) → is_text word t ≡ true → t.sort ≡ k.Identifier
word_sort word t h = same_sort_true t.sort k.Identifier (and_is (same_sort t.sort k.Identifier) (bytes_eq (text_of t.content) word) h).0

pub word_text : (word : List ℕ) (t : Lexeme) → is_text word t ≡ true → text_of t.content ≡ word
word_text word t h = (bytes_eq-Decides (text_of t.content) word).0 (and_is (same_sort t.sort k.Identifier) (bytes_eq (text_of t.content) word) h).1

word_is : (which : Accessor) (t : Lexeme) → is_text (word_of which) t ≡ true → accessor_by (is_text (codes "get") t) (is_text (codes "set") t) ≡ Some which
word_is accessor.Getter t h = rw h refl
word_is accessor.Setter t h =
    let no : is_text (codes "get") t ≡ false = ap (λ a. same_sort t.sort k.Identifier && bytes_eq a (codes "get")) (word_text (codes "set") t h) ∙ go (same_sort t.sort k.Identifier) in
    rw no (rw h refl)
  where
    go : (b : Bool) → (b && bytes_eq (codes "set") (codes "get")) ≡ false
    go true = refl
    go false = refl

-- before a key
pub accessor_read : (d : ℕ) (which : Accessor) (t c : Lexeme) (called : PropertyName) → is_text (word_of which) t ≡ true → key_of c ≡ Some called
    → (r : List Lexeme) (l n : ℕ) → one_property (tree d) (inp (t ∷ c ∷ r) l n) ≡ accessor_of (tree d) t.from which (inp (c ∷ r) t.to n)
unfolding one_property accessor_word accessor_or_name sees_text sort place next text
accessor_read d which t c called h key r l n =
    ap (λ o. property_by (tree d) t.from o (inp (t ∷ c ∷ r) l n)) (word_is which t h) ∙ rw (key_is_seen c called key r t.to n) refl
