-- What `new` reads, and where it fails.
use Rattle.std.proofs.Common.{◌≡◌, ℕ, suc, ◌+◌, max, Bool, true, false, List, [], ◌∷◌, ◌++◌, Some, None, refl, sym, ap, ◌∙◌, subst, append_assoc, append-nil, arith}
use Rattle.sr_ast.specs.declared.tree.Node as nodes
use Rattle.sr_ast.specs.declared.tree.Node.TheVariants as node
use Rattle.sr_syntax.specs.declared.sorts.Sort.TheVariants as k
use Rattle.sr_syntax.specs.declared.sorts.Lexeme.{Lexeme}
use Rattle.sr_syntax.specs.declared.grown.Grown.{Grown}
use Rattle.sr_syntax.specs.declared.grown.Elements.{Elements}
use Rattle.sr_syntax.specs.Sorts.{same_sort}
use Rattle.sr_syntax.specs.Input.{sort, place}
use Rattle.sr_syntax.specs.Operators.{is_bare_new}
use Rattle.sr_syntax.specs.Expressions.{constructor, constructed, new_}
use Rattle.sr_syntax.specs.Grammar.{tree}
use Rattle.sr_grammar.specs.Derivations.{Derives, Arguments, New, Constructor, Member, Primary, whole}
use Rattle.sr_grammar.specs.Derivations as g
use Rattle.sr_grammar.proofs.Steps.{Fact, Any, Parses, Both, both, Either, first, second, Never, Looked, looked, Eaten, ate, absent, Expected, expected, Here, here, Completed, completed, Chosen, yes, no, ChosenFault, yes_fault, no_fault, map, then_any, look, sort_shallow, place_shallow, eaten, expecting, completing, choose_any, not_both, ending, end_append}
use Rattle.sr_grammar.proofs.Depths.{lift, lift_arguments}
use Rattle.sr_grammar.proofs.Facts.{Derived, derived, Closed, closed, closing, Start, start, token}
use Rattle.sr_grammar.proofs.Followers.{Uncalled, DerivedNew, derived_new, OpenedNew, opened_new}
use Rattle.sr_grammar.proofs.Lists.{Nested}
use Rattle.sr_grammar.proofs.Beginnings.{Begun, Of, carry, onward, begun_whole, begun_of, begins_of}
use Rattle.sr_grammar.proofs.Elements.{Argued, argued, NotArgued, not_argued, arguing}
use Rattle.sr_grammar.proofs.Primaries.{primaries}
use Rattle.sr_grammar.proofs.Chained.{InMember, in_member, in_bare, Built, built_member, built_bare, MemberParted, member_parted, NotMemberParted, not_member_parted, member_partings}
use Rattle.sr_grammar.specs.Reading.{end_after}
use Rattle.sr_grammar.proofs.Sorts.{end_no_left_parenthesis, end_no_new, left_parenthesis_self}
use Rattle.sr_grammar.proofs.Parts.{fitting}

-- ---- what `new` makes one of

pub data BuiltFact (d l n : ℕ) (us ts : List Lexeme) (x : Grown) : Type 0 where
  built : Built d us ts x → BuiltFact d l n us ts x

member_so_far : {d l n : ℕ} {us ts : List Lexeme} {x : Grown} → OpenedNew d l n us ts x → InMember d us ts x
member_so_far (opened_new {d} {us = us} {ts = ts} {x = x} h b u) = go (is_bare_new x) refl
  where
    go : (c : Bool) → is_bare_new x ≡ c → InMember (suc d) us ts x
    go true is = in_bare (g.of_bare h is) b (u is)
    go false is = in_member (g.member_new h is) b

constructor_of_new : (e : ℕ) (us : List Lexeme) (x : Grown) → Derives e New us x → Begun (Of Constructor) us
constructor_of_new e us x h = go (is_bare_new x) refl
  where
    go : (c : Bool) → is_bare_new x ≡ c → Begun (Of Constructor) us
    go true is = begun_whole (suc e) us x (g.of_bare h is)
    go false is = begun_whole (suc e) us x (g.of_member (g.member_new h is))

abbrev ConstructorFact : ℕ → Fact Grown
ConstructorFact d = Both (Looked sort) (λ s. Chosen (same_sort s k.New) (Both (OpenedNew d) (λ x. MemberParted x d)) (Both (Derived d Primary) (λ x. MemberParted x d)))

constructor_fact : {d l n : ℕ} {us ts : List Lexeme} {x : Grown} → ConstructorFact d l n us ts x → BuiltFact d l n us ts x
constructor_fact (both (looked e) (yes f (both {us} h (member_parted p)))) = built (p us (member_so_far h))
constructor_fact (both (looked e) (no f (both {us} (derived h b) (member_parted p)))) = built (p us (in_member (g.member_primary h) b))

constructor_fault : {d l n : ℕ} {us ts : List Lexeme}
    → Either Never (Looked sort) (λ s. ChosenFault (same_sort s k.New) (Either (Start New) (OpenedNew d) (λ x. NotMemberParted x d)) (Either (Start Primary) (Derived d Primary) (λ x. NotMemberParted x d))) l n us ts
    → Start Constructor l n us ts
constructor_fault (first c) = elim c [ ]
constructor_fault (second (looked e) (yes_fault f (first (start s)))) = start (begins_of (onward constructor_of_new (begun_of s)))
constructor_fault (second (looked e) (yes_fault f (second {us} h (not_member_parted p)))) = start (begins_of (p us (member_so_far h)))
constructor_fault (second (looked e) (no_fault f (first (start s)))) = start (begins_of (onward (λ e us x h. begun_whole e us x (g.of_member (g.member_primary h))) (begun_of s)))
constructor_fault (second (looked e) (no_fault f (second {us} (derived h b) (not_member_parted p)))) = start (begins_of (p us (in_member (g.member_primary h) b)))

pub constructors : (d : ℕ) → Nested d → Parses (λ e. constructor (tree e)) d Any (BuiltFact d) (Start Constructor)
unfolding constructor
constructors d nest = map (λ l n us ts x r. constructor_fact r) (λ l n us ts r. constructor_fault r)
    (then_any (look sort sort_shallow) (λ s. choose_any (same_sort s k.New) (then_any nest.new (λ x. member_partings d nest x)) (then_any (primaries d nest) (λ x. member_partings d nest x))))

-- ---- its arguments

abbrev ConstructedFact : ℕ → ℕ → Grown → Fact Grown
ConstructedFact d from of = Both (Eaten k.LeftParenthesis) (λ b. Chosen b
    (Closed (Argued d) (λ all. node.New of.tree (Some all.items)) (λ all. from) (λ all. max of.height all.tall))
    (Completed (node.New of.tree None) from of.height))

abbrev ConstructedFault : ℕ → ℕ → List Lexeme → List Lexeme → Type 0
ConstructedFault = Either Never (Eaten k.LeftParenthesis) (λ b. ChosenFault b NotArgued Never)

pub constructeds : (d : ℕ) → Nested d → (from : ℕ) (of : Grown) → Parses (λ e. constructed (tree e) from of) d Any (ConstructedFact d from of) ConstructedFault
unfolding constructed
constructeds d nest from of = then_any (eaten k.LeftParenthesis end_no_left_parenthesis) (λ b. choose_any b
    (closing (arguing d nest) (λ all. node.New of.tree (Some all.items)) (λ all. from) (λ all. max of.height all.tall))
    (completing (node.New of.tree None) from of.height))

-- ---- the whole

with_arguments : (of : Grown) (xs : Elements) (from to : ℕ) → is_bare_new (ending (node.New of.tree (Some xs.items)) from to (max of.height xs.tall)) ≡ true → ⊥
unfolding is_bare_new nodes.out-Node denote.Hole.Carrier.out
with_arguments of xs from to h = cc

no_call_next : {ts : List Lexeme} (t : Lexeme) → t.sort ≡ k.LeftParenthesis → Uncalled (t ∷ ts) → ⊥
no_call_next t c u = not_both (ap (λ s. same_sort s k.LeftParenthesis) c ∙ left_parenthesis_self) u.no_call

new_fact : {d l n from : ℕ} {us vs ts : List Lexeme} {of x : Grown} (t : Lexeme) → t.sort ≡ k.New → from ≡ t.from → Built d us (vs ++ ts) of
    → ConstructedFact d from of (end_after t.to us) n vs ts x → DerivedNew d l n (t ∷ (us ++ vs)) ts x
new_fact {d} {us = us} {of = of} {x = x} t c f (built_member h b p) (both {vs = vs} (ate v i e) (yes j (closed xs (argued a) fits is))) =
    let y : Grown = whole (node.New of.tree (Some xs.items)) t.from (t ∷ (us ++ v ∷ vs)) (max of.height xs.tall) in
    let same : x ≡ y = is ∙ (ap (λ m. ending (node.New of.tree (Some xs.items)) m (end_after v.to vs) (max of.height xs.tall)) f
    ∙ ap (λ m. ending (node.New of.tree (Some xs.items)) t.from m (max of.height xs.tall)) (sym (end_append t.to us (v ∷ vs)))) in
    derived_new (subst (λ z. Derives d New (t ∷ (us ++ v ∷ vs)) z) (sym same) (g.new_called c h v i a)) (fitting fits is)
    (λ bare. absurd (with_arguments of xs t.from (end_after t.to (us ++ v ∷ vs)) (ap is_bare_new (sym same) ∙ bare)))
new_fact t c f (built_bare h b u) (both (ate v i e) (yes j r)) = absurd (no_call_next v i u)
new_fact t c f m (both (ate v i e) (no j r)) = absurd (not_both e j)
new_fact t c f m (both (absent e o) (yes j r)) = absurd (not_both j e)
new_fact {d} {l} {n} {us = us} {of = of} {x = x} t c f m (both (absent e o) (no j (completed {ts} fits is))) =
    subst (λ zs. DerivedNew d l n (t ∷ zs) ts x) (sym (append-nil us)) (derived_new (subst (λ z. Derives d New (t ∷ us) z) (sym same) (g.new_bare c (go m))) (fitting fits is) (λ bare. apart m))
  where
    same : x ≡ whole (node.New of.tree None) t.from (t ∷ us) of.height
    same = is ∙ ap (λ m. ending (node.New of.tree None) m (end_after t.to us) of.height) f

    go : Built d us ts of → Derives d Constructor us of
    go (built_member h b p) = g.of_member h
    go (built_bare h b u) = h

    apart : Built d us ts of → Uncalled ts
    apart (built_member h b p) = record { unparted = p; no_call = o }
    apart (built_bare h b u) = u

new_begins : (t : Lexeme) → t.sort ≡ k.New → {us : List Lexeme} → Begun (Of Constructor) us → Begun (Of New) (t ∷ us)
new_begins t c b = carry (t ∷ []) (λ e vs x h. begun_whole e (t ∷ vs) _ (g.new_bare c h)) b

nothing_begins : Begun (Of New) []
nothing_begins = record { depth = 0; more = token k.New ∷ token k.Identifier ∷ []; made = _; has = g.new_bare refl (g.of_member (g.member_primary (g.name refl))) }

arguments_begin : {d : ℕ} {us vs : List Lexeme} {of : Grown} (t : Lexeme) → t.sort ≡ k.New → Derives d Member us of → (v : Lexeme) → v.sort ≡ k.LeftParenthesis
    → Begun Arguments vs → Begun (Of New) (t ∷ (us ++ v ∷ vs))
arguments_begin {d} {us} {vs} {of = of} t c h v i b = subst (λ zs. Begun (Of New) (t ∷ zs)) (append_assoc us (v ∷ []) vs)
    (carry (t ∷ (us ++ v ∷ [])) (λ e ws xs a.
    let m : ℕ = d + e in
    let z : Grown = whole (node.New of.tree (Some xs.items)) t.from (t ∷ (us ++ v ∷ ws)) (max of.height xs.tall) in
    begun_whole m (t ∷ ((us ++ v ∷ []) ++ ws)) z (subst (λ zs. Derives m New (t ∷ zs) z) (sym (append_assoc us (v ∷ []) ws))
    (g.new_called c (lift d m (omega arith) h) v i (lift_arguments e m (omega arith) a)))) b)

constructed_fault : {d l n : ℕ} {us vs ts : List Lexeme} {of : Grown} (t : Lexeme) → t.sort ≡ k.New → Built d us (vs ++ ts) of → ConstructedFault l n vs ts → Begun (Of New) (t ∷ (us ++ vs))
constructed_fault t c m (first r) = elim r [ ]
constructed_fault t c (built_member h b p) (second (ate v i e) (yes_fault j (not_argued a))) = arguments_begin t c h v i a
constructed_fault t c (built_bare h b u) (second (ate v i e) (yes_fault j r)) = absurd (no_call_next v i u)
constructed_fault t c m (second (absent e o) (yes_fault j r)) = absurd (not_both j e)
constructed_fault t c m (second h (no_fault j r)) = elim r [ ]

abbrev NewFact : ℕ → Fact Grown
NewFact d = Both (Looked place) (λ from. Both (Expected k.New) (λ u. Both (BuiltFact d) (λ of. ConstructedFact d from of)))

whole_fact : {d l n : ℕ} {us ts : List Lexeme} {x : Grown} → NewFact d l n us ts x → DerivedNew d l n us ts x
unfolding place
whole_fact (both (looked e) (both (expected t c) (both (built m) r))) = new_fact t c e m r

whole_fault : {d l n : ℕ} {us ts : List Lexeme}
    → Either Never (Looked place) (λ from. Either Here (Expected k.New) (λ u. Either (Start Constructor) (BuiltFact d) (λ of. ConstructedFault))) l n us ts → Start New l n us ts
whole_fault (first c) = elim c [ ]
whole_fault (second (looked e) (first here)) = start (begins_of nothing_begins)
whole_fault (second (looked e) (second (expected t c) (first (start s)))) = start (begins_of (new_begins t c (begun_of s)))
whole_fault (second (looked e) (second (expected t c) (second (built m) r))) = start (begins_of (constructed_fault t c m r))

pub news : (d : ℕ) → Nested d → Parses (λ e. new_ (tree e)) d Any (DerivedNew d) (Start New)
unfolding new_
news d nest = map (λ l n us ts x r. whole_fact r) (λ l n us ts r. whole_fault r)
    (then_any (look place place_shallow) (λ from. then_any (expecting k.New end_no_new) (λ u. then_any (constructors d nest) (λ of. constructeds d nest from of))))
