-- What parts in any number read, and where they fail.
use Rattle.std.proofs.Common.{◌≡◌, ℕ, zero, suc, ◌+◌, ◌≤◌, Bool, true, false, List, [], ◌∷◌, ◌++◌, length, Ok, refl, sym, ap, ◌∙◌, subst, append-nil, append_assoc, arith, ◌⊎◌, inl, inr, max}
use Rattle.sr_ast.specs.declared.operators.Link.TheVariants as link
use Rattle.sr_ast.specs.declared.tree.Node.{Node}
use Rattle.sr_ast.specs.declared.tree.Node.TheVariants as node
use Rattle.sr_syntax.specs.declared.operators.PartSort.{PartSort}
use Rattle.sr_syntax.specs.declared.operators.PartSort.TheVariants as part
use Rattle.sr_syntax.specs.declared.sorts.Sort.TheVariants as k
use Rattle.sr_syntax.specs.declared.sorts.Sort.{Sort}
use Rattle.sr_syntax.specs.declared.sorts.Lexeme.{Lexeme}
use Rattle.sr_syntax.specs.declared.grown.Grown.{Grown}
use Rattle.sr_syntax.specs.declared.grown.Elements.{Elements}
use Rattle.sr_syntax.specs.Sorts.{same_sort}
use Rattle.sr_syntax.specs.Input.{Input, Parser, ◌>>=◌, ◌>>◌, and_then, take_token, sort, left, is_word, text_of, max_depth}
use Rattle.sr_syntax.specs.Operators.{member, part_sort, link_in, from_of}
use Rattle.sr_syntax.specs.Expressions.{index, call, optional_by, optional, part_by, parts_from, parts, member_part_by, member_parts_from, member_parts}
use Rattle.sr_syntax.specs.Grammar.{tree}
use Rattle.sr_grammar.specs.Derivations.{Symbol, Derives, Arguments, Expression, Chain, Member, Constructor, whole}
use Rattle.sr_grammar.specs.Derivations as g
use Rattle.sr_grammar.proofs.Steps.{inp, Any, Parses, Pure, nothing, map, map_given, given, purely, turns, finish, pred, not_both, done}
use Rattle.sr_grammar.proofs.Depths.{lift}
use Rattle.sr_grammar.proofs.Facts.{Mapped, mapped, mapping}
use Rattle.sr_grammar.proofs.Followers.{Unparted, Uncalled}
use Rattle.sr_grammar.proofs.Lists.{Nested, assoc}
use Rattle.sr_grammar.proofs.Beginnings.{Begun, Of, onward, begun_whole, Turned, onwards, at_end, Broken, broken, turned_runs, turned_breaks, turned_grows}
use Rattle.sr_grammar.proofs.Peeks.{Sorted, by_sort}
use Rattle.sr_grammar.proofs.Parts.{Before, Extended, Unextended, unextended, After, behind, taken_before, Members, Indexes, Calls, Lifts, members, indexes, calls}
use Rattle.sr_grammar.proofs.Sorts.{dot_self, left_bracket_self}

-- ---- the parts of the grammar

-- the same tokens, taken together otherwise
moved : {e from : ℕ} {p : Symbol} {node : Node} (us vs ws : List Lexeme) (tall : ℕ)
    → Derives e p (us ++ (vs ++ ws)) (whole node from (us ++ (vs ++ ws)) tall) → Derives e p ((us ++ vs) ++ ws) (whole node from ((us ++ vs) ++ ws) tall)
moved {e} {from} {p} {node} us vs ws tall h = subst (λ zs. Derives e p zs (whole node from zs tall)) (sym (append_assoc us vs ws)) h

lifts_of : {s : Symbol} {of : Grown} → Lifts (Of s) of
lifts_of = record { lifts = λ d m far h. lift d m far h }

lifts_after : {s : Sort} {P : Before} {of : Grown} → Lifts P of → Lifts (After s P) of
lifts_after {s} {P} {of} l = record { lifts = λ d m far h. go d m far h }
  where
    go : {us : List Lexeme} (d m : ℕ) → d ≤ m → After s P d us of → After s P m us of
    go d m far (behind h t c) = behind (l.lifts d m far h) t c

named : {c : Bool} {of : Grown} → Members (After k.Dot (Of (Chain c))) (Chain c) (link_in c) of
named {c} {of} = record { makes = λ h u w. go h u w }
  where
    go : {e : ℕ} {us : List Lexeme} → (After k.Dot (Of (Chain c))) e us of → (u : Lexeme) → is_word u.sort ≡ true
        → Derives e (Chain c) (us ++ u ∷ []) (whole (node.Member (link_in c) of.tree (text_of u.content)) (from_of of) (us ++ u ∷ []) of.height)
    go (behind {us} h t e) u w = moved us (t ∷ []) (u ∷ []) _ (g.named h t e u w)

indexed : {c : Bool} {of : Grown} → Indexes (After k.LeftBracket (Of (Chain c))) (Chain c) (link_in c) of
indexed {c} {of} = record { makes = λ h i u w. go h i u w }
  where
    go : {e : ℕ} {us vs : List Lexeme} {y : Grown} → (After k.LeftBracket (Of (Chain c))) e us of → Derives e (Expression true) vs y → (u : Lexeme) → u.sort ≡ k.RightBracket
        → Derives e (Chain c) (us ++ (vs ++ u ∷ [])) (whole (node.Index (link_in c) of.tree y.tree) (from_of of) (us ++ (vs ++ u ∷ [])) (max of.height y.height))
    go {vs = vs} (behind {us} h t e) i u w = moved us (t ∷ []) (vs ++ u ∷ []) _ (g.indexed h t e i u w)

called : {c : Bool} {of : Grown} → Calls (After k.LeftParenthesis (Of (Chain c))) (Chain c) (link_in c) of
called {c} {of} = record { makes = λ h a. go h a }
  where
    go : {e : ℕ} {us vs : List Lexeme} {xs : Elements} → (After k.LeftParenthesis (Of (Chain c))) e us of → Arguments e vs xs
        → Derives e (Chain c) (us ++ vs) (whole (node.Call (link_in c) of.tree xs.items) (from_of of) (us ++ vs) (max of.height xs.tall))
    go {vs = vs} (behind {us} h t e) a = moved us (t ∷ []) vs _ (g.called h t e a)

-- behind `?.`
abbrev Asked : Bool → Before
Asked c = After k.QuestionDot (Of (Chain c))

optional_named : {c : Bool} {of : Grown} → Members (Asked c) (Chain true) link.Optional of
optional_named {c} {of} = record { makes = λ h u w. go h u w }
  where
    go : {e : ℕ} {us : List Lexeme} → (Asked c) e us of → (u : Lexeme) → is_word u.sort ≡ true
        → Derives e (Chain true) (us ++ u ∷ []) (whole (node.Member link.Optional of.tree (text_of u.content)) (from_of of) (us ++ u ∷ []) of.height)
    go (behind {us} h t e) u w = moved us (t ∷ []) (u ∷ []) _ (g.optional_named h t e u w)

optional_indexed : {c : Bool} {of : Grown} → Indexes (After k.LeftBracket (Asked c)) (Chain true) link.Optional of
optional_indexed {c} {of} = record { makes = λ h i u w. go h i u w }
  where
    go : {e : ℕ} {us vs : List Lexeme} {y : Grown} → (After k.LeftBracket (Asked c)) e us of → Derives e (Expression true) vs y → (u : Lexeme) → u.sort ≡ k.RightBracket
        → Derives e (Chain true) (us ++ (vs ++ u ∷ [])) (whole (node.Index link.Optional of.tree y.tree) (from_of of) (us ++ (vs ++ u ∷ [])) (max of.height y.height))
    go {vs = vs} (behind (behind {us} h t e) v f) i u w = moved (us ++ t ∷ []) (v ∷ []) (vs ++ u ∷ []) _ (moved us (t ∷ []) (v ∷ (vs ++ u ∷ [])) _ (g.optional_indexed h t e v f i u w))

optional_called : {c : Bool} {of : Grown} → Calls (After k.LeftParenthesis (Asked c)) (Chain true) link.Optional of
optional_called {c} {of} = record { makes = λ h a. go h a }
  where
    go : {e : ℕ} {us vs : List Lexeme} {xs : Elements} → (After k.LeftParenthesis (Asked c)) e us of → Arguments e vs xs
        → Derives e (Chain true) (us ++ vs) (whole (node.Call link.Optional of.tree xs.items) (from_of of) (us ++ vs) (max of.height xs.tall))
    go {vs = vs} (behind (behind {us} h t e) v f) a = moved (us ++ t ∷ []) (v ∷ []) vs _ (moved us (t ∷ []) (v ∷ vs) _ (g.optional_called h t e v f a))

-- of a Member
member_named : {of : Grown} → Members (After k.Dot (Of Member)) Member link.Plain of
member_named {of} = record { makes = λ h u w. go h u w }
  where
    go : {e : ℕ} {us : List Lexeme} → (After k.Dot (Of Member)) e us of → (u : Lexeme) → is_word u.sort ≡ true
        → Derives e Member (us ++ u ∷ []) (whole (node.Member link.Plain of.tree (text_of u.content)) (from_of of) (us ++ u ∷ []) of.height)
    go (behind {us} h t e) u w = moved us (t ∷ []) (u ∷ []) _ (g.member_named h t e u w)

member_indexed : {of : Grown} → Indexes (After k.LeftBracket (Of Member)) Member link.Plain of
member_indexed {of} = record { makes = λ h i u w. go h i u w }
  where
    go : {e : ℕ} {us vs : List Lexeme} {y : Grown} → (After k.LeftBracket (Of Member)) e us of → Derives e (Expression true) vs y → (u : Lexeme) → u.sort ≡ k.RightBracket
        → Derives e Member (us ++ (vs ++ u ∷ [])) (whole (node.Index link.Plain of.tree y.tree) (from_of of) (us ++ (vs ++ u ∷ [])) (max of.height y.height))
    go {vs = vs} (behind {us} h t e) i u w = moved us (t ∷ []) (vs ++ u ∷ []) _ (g.member_indexed h t e i u w)

-- ---- a chain

-- what a chain is so far; without `?.` it is in no optional one
record InChain (has : Bool) (d : ℕ) (us ts : List Lexeme) (p : Bool × Grown) : Type 0 where
  derives : Derives d (Chain p.0) us p.1
  fits : p.1.height ≤ max_depth
  plain : has ≡ false → p.0 ≡ false

pub data SomeChain (has : Bool) : ℕ → List Lexeme → Grown → Type 0 where
  some_chain : {e : ℕ} {us : List Lexeme} {x : Grown} (c : Bool) → Derives e (Chain c) us x → (has ≡ false → c ≡ false) → SomeChain has e us x

abbrev pub WholeChain : Bool → ℕ → List Lexeme → List Lexeme → Grown → Type 0
WholeChain has d us ts x = SomeChain has d us x × (x.height ≤ max_depth)

abbrev chain_by : ℕ → Bool × Grown → PartSort → Parser ((Bool × Grown) ⊎ Grown)
chain_by e p part.Member = (take_token >> member (link_in p.0) p.1) >>= (λ x i. Ok (inl (p.0, x), i))
chain_by e p part.Index = (take_token >> index (tree e) (link_in p.0) p.1) >>= (λ x i. Ok (inl (p.0, x), i))
chain_by e p part.Call = (take_token >> call (tree e) (link_in p.0) p.1) >>= (λ x i. Ok (inl (p.0, x), i))
chain_by e p part.Optional = (take_token >> optional (tree e) p.1) >>= (λ x i. Ok (inl (true, x), i))
chain_by e p part.None = λ i. Ok (inr p.1, i)

abbrev chain_step : Bool → ℕ → Bool × Grown → Parser ((Bool × Grown) ⊎ Grown)
chain_step has e p = (λ i. done (sort i) i) >>= (λ s. chain_by e p (part_sort has s))

chained_fact : {has : Bool} {d l n : ℕ} {us ts : List Lexeme} {p : Bool × Grown} {o : (Bool × Grown) ⊎ Grown} (c : Bool) → ((has ≡ false → p.0 ≡ false) → has ≡ false → c ≡ false)
    → Mapped (Extended (Of (Chain p.0)) (Chain c) p.1 d) (λ x. inl (c, x)) l n us ts o → Turned (InChain has) (WholeChain has) d p l n us ts o
chained_fact c keep (mapped x r is) = onwards (c, x) (λ vs s. record { derives = r.extends vs s.derives; fits = r.fits; plain = keep s.plain }) r.some is

chained_fault : {has : Bool} {d l n : ℕ} {us ts : List Lexeme} {p : Bool × Grown} (c : Bool) → ((has ≡ false → p.0 ≡ false) → has ≡ false → c ≡ false)
    → Unextended (Of (Chain p.0)) (Chain c) p.1 d l n us ts → Broken (InChain has) (SomeChain has) d p l n us ts
chained_fault c keep (unextended f) = broken (λ vs s. onward (λ e us x h. begun_whole e us x (some_chain c h (keep s.plain))) (f vs s.derives))

chain_over : {has : Bool} {d l n : ℕ} {us ts : List Lexeme} {p : Bool × Grown} {o : (Bool × Grown) ⊎ Grown} → Pure (inr p.1) l n us ts o → Turned (InChain has) (WholeChain has) d p l n us ts o
chain_over {has} {d} {p = p} (nothing is) = at_end p.1 (λ vs s. subst (λ zs. WholeChain has d zs [] p.1) (sym (append-nil vs)) (some_chain p.0 s.derives s.plain, s.fits)) is

module _ (d : ℕ) (nest : Nested d) where
  optionals_by : (c : Bool) (of : Grown) (s : Sort) → Parses (λ e. optional_by (tree e) of s) d (Sorted s) (Extended (Asked c) (Chain true) of d) (Unextended (Asked c) (Chain true) of d)
  optionals_by c of k.LeftBracket = taken_before k.LeftBracket (λ e. cc) (indexes d nest link.Optional of (lifts_after (lifts_after lifts_of)) (optional_indexed {c = c}))
  optionals_by c of k.LeftParenthesis = taken_before k.LeftParenthesis (λ e. cc) (calls d nest link.Optional of (lifts_after (lifts_after lifts_of)) (optional_called {c = c}))
  optionals_by c of s = given (λ ts m. tt) (members link.Optional of (optional_named {c = c}))

  optionals : (c : Bool) (of : Grown) → Parses (λ e. optional (tree e) of) d Any (Extended (Asked c) (Chain true) of d) (Unextended (Asked c) (Chain true) of d)
  unfolding optional
  optionals c of = by_sort (λ e s. optional_by (tree e) of s) (optionals_by c of)

  chains_by : (has : Bool) (p : Bool × Grown) (s : Sort) → Parses (λ e. chain_by e p (part_sort has s)) d (Sorted s) (Turned (InChain has) (WholeChain has) d p) (Broken (InChain has) (SomeChain has) d p)
  chains_by has p k.Dot = map (λ l n us ts x r. chained_fact p.0 (λ h. h) r) (λ l n us ts r. chained_fault p.0 (λ h. h) r)
      (mapping (taken_before k.Dot (λ e. cc) (members (link_in p.0) p.1 (named {c = p.0}))) (λ x. inl (p.0, x)))
  chains_by has p k.LeftBracket = map (λ l n us ts x r. chained_fact p.0 (λ h. h) r) (λ l n us ts r. chained_fault p.0 (λ h. h) r)
      (mapping (taken_before k.LeftBracket (λ e. cc) (indexes d nest (link_in p.0) p.1 (lifts_after lifts_of) (indexed {c = p.0}))) (λ x. inl (p.0, x)))
  chains_by has p k.LeftParenthesis = map (λ l n us ts x r. chained_fact p.0 (λ h. h) r) (λ l n us ts r. chained_fault p.0 (λ h. h) r)
      (mapping (taken_before k.LeftParenthesis (λ e. cc) (calls d nest (link_in p.0) p.1 (lifts_after lifts_of) (called {c = p.0}))) (λ x. inl (p.0, x)))
  chains_by true p k.QuestionDot = map (λ l n us ts x r. chained_fact true (λ h e. cc) r) (λ l n us ts r. chained_fault true (λ h e. cc) r)
      (mapping (taken_before k.QuestionDot (λ e. cc) (optionals p.0 p.1)) (λ x. inl (true, x)))
  chains_by has p _ = given (λ ts m. tt) (map (λ l n us ts x r. chain_over r) (λ l n us ts r. elim r [ ]) (purely (inr p.1)))

  chain_steps : (has : Bool) (p : Bool × Grown) → Parses (λ e. chain_step has e p) d Any (Turned (InChain has) (WholeChain has) d p) (Broken (InChain has) (SomeChain has) d p)
  chain_steps has p = by_sort (λ e s. chain_by e p (part_sort has s)) (chains_by has p)

  abbrev chain_again : Bool → ℕ → ℕ → (Bool × Grown) ⊎ Grown → Parser Grown
  chain_again has = finish (λ m e p. parts_from (tree e) has m p.0 p.1) (chain_step has) 0 d (Turned (InChain has) (WholeChain has) d) (Broken (InChain has) (SomeChain has) d)

  chain_turn : (has : Bool) (m e : ℕ) (p : Bool × Grown) (v : PartSort) (i : Input)
      → part_by (tree e) (parts_from (tree e) has m) p.0 p.1 v i ≡ and_then (chain_by e p v i) (chain_again has m e)
  chain_turn has m e p part.Member i = assoc ((take_token >> member (link_in p.0) p.1) i) (λ x. inl (p.0, x)) (chain_again has m e)
  chain_turn has m e p part.Index i = assoc ((take_token >> index (tree e) (link_in p.0) p.1) i) (λ x. inl (p.0, x)) (chain_again has m e)
  chain_turn has m e p part.Call i = assoc ((take_token >> call (tree e) (link_in p.0) p.1) i) (λ x. inl (p.0, x)) (chain_again has m e)
  chain_turn has m e p part.Optional i = assoc ((take_token >> optional (tree e) p.1) i) (λ x. inl (true, x)) (chain_again has m e)
  chain_turn has m e p part.None i = refl

  chain_unrolls : (has : Bool) (m e : ℕ) (p : Bool × Grown) (all : List Lexeme) (l n : ℕ) → 0 + length all ≤ m
      → parts_from (tree e) has m p.0 p.1 (inp all l n) ≡ and_then (chain_step has e p (inp all l n)) (chain_again has (pred m) e)
  unfolding parts_from sort
  chain_unrolls true zero e p [] l n far = refl
  chain_unrolls false zero e p [] l n far = refl
  chain_unrolls has zero e p (t ∷ ts) l n far = absurd (omega arith)
  chain_unrolls has (suc m) e p all l n far = chain_turn has m e p (part_sort has (sort (inp all l n))) (inp all l n)

-- a whole chain, behind its first member
pub data Parted (has : Bool) (of : Grown) (d l n : ℕ) (us ts : List Lexeme) (x : Grown) : Type 0 where
  parted : ((vs : List Lexeme) → Derives d (Chain false) vs of → of.height ≤ max_depth → SomeChain has d (vs ++ us) x × (x.height ≤ max_depth)) → Parted has of d l n us ts x

pub data NotParted (has : Bool) (of : Grown) (d l n : ℕ) (us ts : List Lexeme) : Type 0 where
  not_parted : ((vs : List Lexeme) → Derives d (Chain false) vs of → of.height ≤ max_depth → Begun (SomeChain has) (vs ++ us)) → NotParted has of d l n us ts

pub partings : (d : ℕ) → Nested d → (has : Bool) (of : Grown) → Parses (λ e. parts (tree e) has of) d Any (Parted has of d) (NotParted has of d)
unfolding parts left
partings d nest has of = map
    (λ l n us ts x r. parted (λ vs h b. turned_runs r vs (record { derives = h; fits = b; plain = λ e. refl })))
    (λ l n us ts r. not_parted (λ vs h b. turned_breaks r vs (record { derives = h; fits = b; plain = λ e. refl })))
    (turns (λ m e p. parts_from (tree e) has m p.0 p.1) (chain_step has) 0 d (Turned (InChain has) (WholeChain has) d) (Broken (InChain has) (SomeChain has) d)
    (chain_unrolls d nest has) (chain_steps d nest has) turned_grows left (λ all l n. omega arith) (false, of))

-- ---- a Member

-- What a Member is so far, or a New that no part follows.
pub data InMember (d : ℕ) (us ts : List Lexeme) (x : Grown) : Type 0 where
  in_member : Derives d Member us x → x.height ≤ max_depth → InMember d us ts x
  in_bare : Derives d Constructor us x → x.height ≤ max_depth → Uncalled ts → InMember d us ts x

pub data Built (d : ℕ) (us ts : List Lexeme) (x : Grown) : Type 0 where
  built_member : Derives d Member us x → x.height ≤ max_depth → Unparted ts → Built d us ts x
  built_bare : Derives d Constructor us x → x.height ≤ max_depth → Uncalled ts → Built d us ts x

abbrev member_by : ℕ → Grown → Sort → Parser (Grown ⊎ Grown)
member_by e of k.Dot = (take_token >> member link.Plain of) >>= (λ x i. Ok (inl x, i))
member_by e of k.LeftBracket = (take_token >> index (tree e) link.Plain of) >>= (λ x i. Ok (inl x, i))
member_by e of _ = λ i. Ok (inr of, i)

abbrev member_step : ℕ → Grown → Parser (Grown ⊎ Grown)
member_step e of = (λ i. done (sort i) i) >>= (λ s. member_by e of s)

no_dot_next : {ts : List Lexeme} → Sorted k.Dot ts → Uncalled ts → ⊥
no_dot_next m u = not_both (ap (λ s. same_sort s k.Dot) m ∙ dot_self) u.unparted.no_dot

no_bracket_next : {ts : List Lexeme} → Sorted k.LeftBracket ts → Uncalled ts → ⊥
no_bracket_next m u = not_both (ap (λ s. same_sort s k.LeftBracket) m ∙ left_bracket_self) u.unparted.no_bracket

built_fact : {d l n : ℕ} {us ts : List Lexeme} {of : Grown} {o : Grown ⊎ Grown} → (Uncalled (us ++ ts) → ⊥)
    → Mapped (Extended (Of Member) Member of d) (λ x. inl x) l n us ts o → Turned InMember Built d of l n us ts o
built_fact {d} {us = us} {ts = ts} {of = of} other (mapped x r is) = onwards x (λ vs s. go vs s) r.some is
  where
    go : (vs : List Lexeme) → InMember d vs (us ++ ts) of → InMember d (vs ++ us) ts x
    go vs (in_member h b) = in_member (r.extends vs h) r.fits
    go vs (in_bare h b u) = absurd (other u)

built_fault : {d l n : ℕ} {us ts : List Lexeme} {of : Grown} → (Uncalled (us ++ ts) → ⊥)
    → Unextended (Of Member) Member of d l n us ts → Broken InMember (Of Constructor) d of l n us ts
built_fault {d} {us = us} {ts = ts} {of = of} other (unextended f) = broken (λ vs s. go vs s)
  where
    go : (vs : List Lexeme) → InMember d vs (us ++ ts) of → Begun (Of Constructor) (vs ++ us)
    go vs (in_member h b) = onward (λ e us x h. begun_whole e us x (g.of_member h)) (f vs h)
    go vs (in_bare h b u) = absurd (other u)

built_over : {d l n : ℕ} {us ts : List Lexeme} {of : Grown} {o : Grown ⊎ Grown} → Unparted (us ++ ts) → Pure (inr of) l n us ts o → Turned InMember Built d of l n us ts o
built_over {d} {of = of} u (nothing {ts} is) = at_end of (λ vs s. subst (λ zs. Built d zs ts of) (sym (append-nil vs)) (go vs s)) is
  where
    go : (vs : List Lexeme) → InMember d vs ts of → Built d vs ts of
    go vs (in_member h b) = built_member h b u
    go vs (in_bare h b u) = built_bare h b u

unparted_at : {ts : List Lexeme} (s : Sort) → same_sort s k.Dot ≡ false → same_sort s k.LeftBracket ≡ false → Sorted s ts → Unparted ts
unparted_at s f i m = record { no_dot = ap (λ s. same_sort s k.Dot) m ∙ f; no_bracket = ap (λ s. same_sort s k.LeftBracket) m ∙ i }

module _ (d : ℕ) (nest : Nested d) where
  members_by : (of : Grown) (s : Sort) → Parses (λ e. member_by e of s) d (Sorted s) (Turned InMember Built d of) (Broken InMember (Of Constructor) d of)
  unfolding same_sort
  members_by of k.Dot = map_given (λ l n us ts x m r. built_fact (no_dot_next m) r) (λ l n us ts m r. built_fault (no_dot_next m) r)
      (mapping (taken_before k.Dot (λ e. cc) (members link.Plain of member_named)) (λ x. inl x))
  members_by of k.LeftBracket = map_given (λ l n us ts x m r. built_fact (no_bracket_next m) r) (λ l n us ts m r. built_fault (no_bracket_next m) r)
      (mapping (taken_before k.LeftBracket (λ e. cc) (indexes d nest link.Plain of (lifts_after lifts_of) member_indexed)) (λ x. inl x))
  members_by of s = map_given (λ l n us ts x m r. built_over (unparted_at s refl refl m) r) (λ l n us ts m r. elim r [ ]) (given (λ ts m. tt) (purely (inr of)))

  member_steps : (of : Grown) → Parses (λ e. member_step e of) d Any (Turned InMember Built d of) (Broken InMember (Of Constructor) d of)
  member_steps of = by_sort (λ e s. member_by e of s) (members_by of)

  abbrev member_again : ℕ → ℕ → Grown ⊎ Grown → Parser Grown
  member_again = finish (λ m e of. member_parts_from (tree e) m of) member_step 0 d (Turned InMember Built d) (Broken InMember (Of Constructor) d)

  member_turn : (m e : ℕ) (of : Grown) (s : Sort) (i : Input)
      → member_part_by (tree e) (member_parts_from (tree e) m) of s i ≡ and_then (member_by e of s i) (member_again m e)
  member_turn m e of k.Dot i = assoc ((take_token >> member link.Plain of) i) (λ x. inl x) (member_again m e)
  member_turn m e of k.LeftBracket i = assoc ((take_token >> index (tree e) link.Plain of) i) (λ x. inl x) (member_again m e)
  member_turn m e of _ i = refl

  member_unrolls : (m e : ℕ) (of : Grown) (all : List Lexeme) (l n : ℕ) → 0 + length all ≤ m
      → member_parts_from (tree e) m of (inp all l n) ≡ and_then (member_step e of (inp all l n)) (member_again (pred m) e)
  unfolding member_parts_from sort
  member_unrolls zero e of [] l n far = refl
  member_unrolls zero e of (t ∷ ts) l n far = absurd (omega arith)
  member_unrolls (suc m) e of all l n far = member_turn m e of (sort (inp all l n)) (inp all l n)

pub data MemberParted (of : Grown) (d l n : ℕ) (us ts : List Lexeme) (x : Grown) : Type 0 where
  member_parted : ((vs : List Lexeme) → InMember d vs (us ++ ts) of → Built d (vs ++ us) ts x) → MemberParted of d l n us ts x

pub data NotMemberParted (of : Grown) (d l n : ℕ) (us ts : List Lexeme) : Type 0 where
  not_member_parted : ((vs : List Lexeme) → InMember d vs (us ++ ts) of → Begun (Of Constructor) (vs ++ us)) → NotMemberParted of d l n us ts

pub member_partings : (d : ℕ) → Nested d → (of : Grown) → Parses (λ e. member_parts (tree e) of) d Any (MemberParted of d) (NotMemberParted of d)
unfolding member_parts left
member_partings d nest of = map (λ l n us ts x r. member_parted (λ vs s. turned_runs r vs s)) (λ l n us ts r. not_member_parted (λ vs s. turned_breaks r vs s))
    (turns (λ m e of. member_parts_from (tree e) m of) member_step 0 d (Turned InMember Built d) (Broken InMember (Of Constructor) d)
    (member_unrolls d nest) (member_steps d nest) turned_grows left (λ all l n. omega arith) of)
