-- What the parts behind an expression read, and where they fail.
use Rattle.std.proofs.Common.{◌≡◌, ℕ, ◌+◌, ◌≤◌, ◌<◌, max, true, false, List, [], ◌∷◌, ◌++◌, length, refl, sym, ap, ◌∙◌, subst, append_assoc, append-nil, length-append, arith}
use Rattle.sr_ast.specs.declared.operators.Link.{Link}
use Rattle.sr_ast.specs.declared.tree.Node.{Node}
use Rattle.sr_ast.specs.declared.tree.Node.TheVariants as node
use Rattle.sr_syntax.specs.declared.sorts.Sort.TheVariants as k
use Rattle.sr_syntax.specs.declared.sorts.Sort.{Sort}
use Rattle.sr_syntax.specs.declared.sorts.Content.TheVariants.{Name}
use Rattle.sr_syntax.specs.declared.sorts.Lexeme.{Lexeme}
use Rattle.sr_syntax.specs.declared.grown.Grown.{Grown}
use Rattle.sr_syntax.specs.declared.grown.Elements.{Elements}
use Rattle.sr_syntax.specs.Input.{Parser, ◌>>◌, take_token, is_word, text_of, max_depth}
use Rattle.sr_syntax.specs.Operators.{member, from_of}
use Rattle.sr_syntax.specs.Expressions.{index, call}
use Rattle.sr_syntax.specs.Grammar.{tree}
use Rattle.sr_grammar.specs.Derivations.{Symbol, Derives, Arguments, Expression, whole}
use Rattle.sr_grammar.specs.Derivations as g
use Rattle.sr_grammar.proofs.Steps.{Fact, Any, Parses, Both, both, Either, first, second, Never, Expected, expected, Here, here, map, then_any, expecting, ending, end_append}
use Rattle.sr_grammar.proofs.Depths.{lift, lift_arguments}
use Rattle.sr_grammar.proofs.Facts.{Derived, derived, Closed, closed, closing, Start, start, token}
use Rattle.sr_grammar.proofs.Lists.{Nested, expressions}
use Rattle.sr_grammar.proofs.Beginnings.{Begun, Of, carry, begun_whole, begun_of}
use Rattle.sr_grammar.proofs.Elements.{Argued, argued, NotArgued, not_argued, arguing}
use Rattle.sr_grammar.proofs.Peeks.{Sorted, Token, one_token, taking, Named, named_by, naming}
use Rattle.sr_grammar.specs.Reading.{end_after}
use Rattle.sr_grammar.proofs.Sorts.{end_no_right_bracket}

-- ---- what a part adds to what stands before it

-- what stands before a part: so many rules that may be open, the tokens and their tree
abbrev pub Before : Type 1
Before = ℕ → List Lexeme → Grown → Type 0

-- Behind what stands before it, this makes a symbol.
pub record Extended (P : Before) (p : Symbol) (of : Grown) (d l n : ℕ) (us ts : List Lexeme) (x : Grown) : Type 0 where
  pub extends : (vs : List Lexeme) → P d vs of → Derives d p (vs ++ us) x
  pub fits : x.height ≤ max_depth
  pub some : 0 < length us

-- And this begins one.
pub data Unextended (P : Before) (p : Symbol) (of : Grown) (d l n : ℕ) (us ts : List Lexeme) : Type 0 where
  unextended : ((vs : List Lexeme) → P d vs of → Begun (Of p) (vs ++ us)) → Unextended P p of d l n us ts

-- with a token of this kind behind it
pub data After (s : Sort) (P : Before) : ℕ → List Lexeme → Grown → Type 0 where
  behind : {e : ℕ} {us : List Lexeme} {x : Grown} → P e us x → (t : Lexeme) → t.sort ≡ s → After s P e (us ++ t ∷ []) x

taken_fact : {P : Before} {p : Symbol} {of : Grown} {s : Sort} {d l n : ℕ} {us ts : List Lexeme} {x : Grown}
    → Both (Token s) (λ u. Extended (After s P) p of d) l n us ts x → Extended P p of d l n us ts x
taken_fact {p = p} {d = d} {x = x} (both {vs = us} (one_token t c) r) = record {
  extends = λ vs h. subst (λ zs. Derives d p zs x) (append_assoc vs (t ∷ []) us) (r.extends (vs ++ t ∷ []) (behind h t c));
  fits = r.fits;
  some = omega arith;
}

taken_fault : {P : Before} {p : Symbol} {of : Grown} {s : Sort} {d l n : ℕ} {us ts : List Lexeme}
    → Either Never (Token s) (λ u. Unextended (After s P) p of d) l n us ts → Unextended P p of d l n us ts
taken_fault (first c) = elim c [ ]
taken_fault {p = p} (second {vs = us} (one_token t c) (unextended f)) = unextended (λ vs h. subst (λ zs. Begun (Of p) zs) (append_assoc vs (t ∷ []) us) (f (vs ++ t ∷ []) (behind h t c)))

-- the token before a part
pub taken_before : {P : Before} {p : Symbol} {of : Grown} {Q : ℕ → Parser Grown} {d : ℕ} (s : Sort) → (k.End ≡ s → ⊥)
    → Parses Q d Any (Extended (After s P) p of d) (Unextended (After s P) p of d) → Parses (λ e. take_token >> Q e) d (Sorted s) (Extended P p of d) (Unextended P p of d)
taken_before s other q = map (λ l n us ts x r. taken_fact r) (λ l n us ts r. taken_fault r) (then_any (taking s other) (λ u. q))

-- a tree that is no deeper than is read
pub fitting : {tall from to : ℕ} {node : Node} {x : Grown} → tall < max_depth → x ≡ ending node from to tall → x.height ≤ max_depth
fitting fits is = subst (λ x. x.height ≤ max_depth) (sym is) (omega (arith, fits))

-- the end of tokens behind others
end_is : (m : ℕ) (vs us : List Lexeme) → 0 < length us → end_after m us ≡ end_after 0 (vs ++ us)
end_is m vs [] some = absurd (omega arith)
end_is m vs (t ∷ us) some = sym (end_append 0 vs (t ∷ us))

extended : {P : Before} {p : Symbol} {of : Grown} {d l n tall from : ℕ} {us ts : List Lexeme} {node : Node} {x : Grown} → 0 < length us
    → tall < max_depth → x ≡ ending node from (end_after l us) tall → ((vs : List Lexeme) → P d vs of → Derives d p (vs ++ us) (whole node from (vs ++ us) tall)) → Extended P p of d l n us ts x
extended {P} {p} {of} {d} {l} {n} {tall} {from} {us} {ts} {node} {x} some fits is f = record {
  extends = λ vs h. subst (λ x. Derives d p (vs ++ us) x) (sym (is ∙ ap (λ a. ending node from a tall) (end_is l vs us some))) (f vs h);
  fits = fitting fits is;
  some = some;
}

-- ---- by a name

-- behind what stands before it a name makes a symbol
pub record Members (P : Before) (p : Symbol) (l : Link) (of : Grown) : Type 0 where
  pub makes : {e : ℕ} {us : List Lexeme} → P e us of → (u : Lexeme) → is_word u.sort ≡ true
      → Derives e p (us ++ u ∷ []) (whole (node.Member l of.tree (text_of u.content)) (from_of of) (us ++ u ∷ []) of.height)

abbrev a_word : Lexeme
a_word = record { sort = k.Identifier; content = Name []; from = 0; to = 0; line_before = false; ahead = k.End }

member_fact : {P : Before} {p : Symbol} {of : Grown} {d m n : ℕ} {us ts : List Lexeme} {x : Grown} (l : Link) → Members P p l of
    → Closed Named (λ called. node.Member l of.tree called) (λ called. from_of of) (λ called. of.height) m n us ts x → Extended P p of d m n us ts x
member_fact {of = of} l makes (closed called (named_by u w e) fits is) =
    extended (omega arith) fits (is ∙ ap (λ called. ending (node.Member l of.tree called) (from_of of) u.to of.height) e) (λ vs h. makes.makes h u w)

member_fault : {P : Before} {p : Symbol} {of : Grown} {d m n : ℕ} {us ts : List Lexeme} (l : Link) → Members P p l of → Here m n us ts → Unextended P p of d m n us ts
member_fault {p = p} {of = of} {d = d} l makes here = unextended (λ vs h. record {
  depth = d;
  more = a_word ∷ [];
  made = _;
  has = subst (λ zs. Derives d p (zs ++ a_word ∷ []) (whole (node.Member l of.tree []) (from_of of) (vs ++ a_word ∷ []) of.height)) (sym (append-nil vs)) (makes.makes h a_word refl);
})

pub members : {P : Before} {p : Symbol} {d : ℕ} (l : Link) (of : Grown) → Members P p l of → Parses (λ e. member l of) d Any (Extended P p of d) (Unextended P p of d)
unfolding member
members l of makes = map (λ m n us ts x r. member_fact l makes r) (λ m n us ts r. member_fault l makes r)
    (closing naming (λ called. node.Member l of.tree called) (λ called. from_of of) (λ called. of.height))

-- ---- by an expression in brackets

pub record Indexes (P : Before) (p : Symbol) (l : Link) (of : Grown) : Type 0 where
  pub makes : {e : ℕ} {us vs : List Lexeme} {y : Grown} → P e us of → Derives e (Expression true) vs y → (u : Lexeme) → u.sort ≡ k.RightBracket
      → Derives e p (us ++ (vs ++ u ∷ [])) (whole (node.Index l of.tree y.tree) (from_of of) (us ++ (vs ++ u ∷ [])) (max of.height y.height))

-- what stands before a part still does where more rules may be open
pub record Lifts (P : Before) (of : Grown) : Type 0 where
  pub lifts : {us : List Lexeme} (d m : ℕ) → d ≤ m → P d us of → P m us of

abbrev IndexFact : ℕ → Link → Grown → Fact Grown
IndexFact d l of = Both (Derived d (Expression true)) (λ y. Closed (Expected k.RightBracket) (λ u. node.Index l of.tree y.tree) (λ u. from_of of) (λ u. max of.height y.height))

index_fact : {P : Before} {p : Symbol} {of : Grown} {d m n : ℕ} {us ts : List Lexeme} {x : Grown} (l : Link) → Indexes P p l of → IndexFact d l of m n us ts x → Extended P p of d m n us ts x
index_fact {of = of} {m = m} l makes (both {us = vs} {x = y} (derived h b) (closed v (expected u c) fits is)) =
    extended (some vs u) fits (is ∙ ap (λ a. ending (node.Index l of.tree y.tree) (from_of of) a (max of.height y.height)) (sym (end_append m vs (u ∷ [])))) (λ ws g. makes.makes g h u c)
  where
    some : (vs : List Lexeme) (u : Lexeme) → 0 < length (vs ++ u ∷ [])
    some [] u = omega arith
    some (v ∷ vs) u = omega arith

-- an expression that is begun begins the part
begin_index : {P : Before} {p : Symbol} {of : Grown} {d : ℕ} {vs us : List Lexeme} (l : Link) → Lifts P of → Indexes P p l of → P d vs of → Begun (Of (Expression true)) us → Begun (Of p) (vs ++ us)
begin_index {P} {p} {of} {d} {vs} {us} l lifts makes h b = carry vs (λ e ws y i.
    let z : Grown = whole (node.Index l of.tree y.tree) (from_of of) (vs ++ (ws ++ token k.RightBracket ∷ [])) (max of.height y.height) in
    record {
      depth = d + e;
      more = token k.RightBracket ∷ [];
      made = z;
      has = subst (λ zs. Derives (d + e) p zs z) (sym (append_assoc vs ws (token k.RightBracket ∷ [])))
          (makes.makes (lifts.lifts d (d + e) (omega arith) h) (lift e (d + e) (omega arith) i) (token k.RightBracket) refl);
    }) b

index_fault : {P : Before} {p : Symbol} {of : Grown} {d m n : ℕ} {us ts : List Lexeme} (l : Link) → Lifts P of → Indexes P p l of
    → Either (Start (Expression true)) (Derived d (Expression true)) (λ y. Here) m n us ts → Unextended P p of d m n us ts
index_fault l lifts makes (first (start s)) = unextended (λ vs h. begin_index l lifts makes h (begun_of s))
index_fault {d = d} l lifts makes (second {us = ws} {x = y} (derived i b) here) =
    unextended (λ vs h. begin_index l lifts makes h (begun_whole d (ws ++ []) y (subst (λ zs. Derives d (Expression true) zs y) (sym (append-nil ws)) i)))

-- ---- by arguments

pub record Calls (P : Before) (p : Symbol) (l : Link) (of : Grown) : Type 0 where
  pub makes : {e : ℕ} {us vs : List Lexeme} {xs : Elements} → P e us of → Arguments e vs xs
      → Derives e p (us ++ vs) (whole (node.Call l of.tree xs.items) (from_of of) (us ++ vs) (max of.height xs.tall))

some_arguments : {d : ℕ} {us : List Lexeme} {xs : Elements} → Arguments d us xs → 0 < length us
some_arguments (g.comma_at_last {us} w u c) = omega (arith, length-append us (u ∷ []))
some_arguments (g.element_at_last {us} {vs} w a u c) = omega (arith, length-append us (vs ++ u ∷ []), length-append vs (u ∷ []))

call_fact : {P : Before} {p : Symbol} {of : Grown} {d m n : ℕ} {us ts : List Lexeme} {x : Grown} (l : Link) → Calls P p l of
    → Closed (Argued d) (λ xs. node.Call l of.tree xs.items) (λ xs. from_of of) (λ xs. max of.height xs.tall) m n us ts x → Extended P p of d m n us ts x
call_fact l makes (closed xs (argued a) fits is) = extended (some_arguments a) fits is (λ vs h. makes.makes h a)

call_fault : {P : Before} {p : Symbol} {of : Grown} {d m n : ℕ} {us ts : List Lexeme} (l : Link) → Lifts P of → Calls P p l of → NotArgued m n us ts → Unextended P p of d m n us ts
call_fault {P} {p} {of} {d} l lifts makes (not_argued b) = unextended (λ vs h. carry vs (λ e ws xs a.
    begun_whole (d + e) (vs ++ ws) (whole (node.Call l of.tree xs.items) (from_of of) (vs ++ ws) (max of.height xs.tall))
    (makes.makes (lifts.lifts d (d + e) (omega arith) h) (lift_arguments e (d + e) (omega arith) a))) b)

module _ (d : ℕ) (nest : Nested d) where
  pub indexes : {P : Before} {p : Symbol} (l : Link) (of : Grown) → Lifts P of → Indexes P p l of → Parses (λ e. index (tree e) l of) d Any (Extended P p of d) (Unextended P p of d)
  unfolding index
  indexes l of lifts makes = map (λ m n us ts x r. index_fact l makes r) (λ m n us ts r. index_fault l lifts makes r)
      (then_any (expressions true d nest) (λ y. closing (expecting k.RightBracket end_no_right_bracket) (λ u. node.Index l of.tree y.tree) (λ u. from_of of) (λ u. max of.height y.height)))

  pub calls : {P : Before} {p : Symbol} (l : Link) (of : Grown) → Lifts P of → Calls P p l of → Parses (λ e. call (tree e) l of) d Any (Extended P p of d) (Unextended P p of d)
  unfolding call
  calls l of lifts makes = map (λ m n us ts x r. call_fact l makes r) (λ m n us ts r. call_fault l lifts makes r)
      (closing (arguing d nest) (λ xs. node.Call l of.tree xs.items) (λ xs. from_of of) (λ xs. max of.height xs.tall))
