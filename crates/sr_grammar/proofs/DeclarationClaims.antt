-- What derives is read: declarations.
use Rattle.std.proofs.Common.{◌≡◌, ℕ, suc, ◌+◌, max, Bool, true, false, List, [], ◌∷◌, ◌++◌, Option, None, Some, Ok, refl, sym, ap, ◌∙◌, subst, append_assoc, length-append, arith}
use Rattle.sr_ast.specs.declared.tree.Declaration.{Declaration}
use Rattle.sr_syntax.specs.declared.sorts.Sort.TheVariants as k
use Rattle.sr_syntax.specs.declared.sorts.Sort.{Sort}
use Rattle.sr_syntax.specs.declared.sorts.Lexeme.{Lexeme}
use Rattle.sr_syntax.specs.declared.grown.Grown.{Grown}
use Rattle.sr_syntax.specs.Input.{Parser, ◌>>=◌, sort_at, place, left, text_of}
use Rattle.sr_syntax.specs.Operators.{name}
use Rattle.sr_syntax.specs.Declarations.{declaration, declarations_from, declarations_behind, declarations}
use Rattle.sr_syntax.specs.Statements.{more_declarations}
use Rattle.sr_syntax.specs.Declarations as p
use Rattle.sr_syntax.specs.Grammar.{tree}
use Rattle.sr_grammar.specs.Derivations.{Assign, declared, value_height}
use Rattle.sr_grammar.specs.Continuing.{Ends}
use Rattle.sr_grammar.proofs.Gets.{not_sort}
use Rattle.sr_grammar.proofs.Completing.{looser, loose_sort}
use Rattle.sr_grammar.proofs.Claims.{Claim}
use Rattle.sr_grammar.proofs.Taking.{Whatever, Moves, Takes, moves_then, moves_last, moves_on, moves_at, moves_to, moves_is, moves_when, moves_tokens, moves_eat, moves_over, Enters, enters_from, enters_at, enters_tokens, loops_none, loops_more, loops_last, zero_max}
use Rattle.sr_grammar.proofs.ParameterClaims.{name_read}
use Rattle.sr_grammar.proofs.FunctionClaims.{nest_takes}
use Rattle.sr_grammar.proofs.Sorts.{assign_self, comma_self, end_no_assign, end_no_comma}

-- what may stand behind the name of a declaration
abbrev pub behind_name : Sort → Bool
behind_name k.Assign = true
behind_name k.Comma = true
behind_name k.Semicolon = true
behind_name _ = false

-- ---- one declaration

-- how a declaration is read, behind its name
pub data DeclaresClaim (has : Bool) (d : ℕ) : List Lexeme → Lexeme → Option Grown → Type 0 where
  declares_claim : {us : List Lexeme} {v : Option Grown} (t : Lexeme) → t.sort ≡ k.Identifier → ((r : List Lexeme) → behind_name (sort_at r) ≡ true → behind_name (sort_at (us ++ r)) ≡ true)
      → Takes (p.declared (tree d) has t.from (text_of t.content)) us (value_height v) (declared t v, value_height v) (Ends has 15) → DeclaresClaim has d (t ∷ us) t v

pub no_value_read : (has : Bool) (d : ℕ) (t : Lexeme) → t.sort ≡ k.Identifier → DeclaresClaim has d (t ∷ []) t None
unfolding p.declared
no_value_read has d t c = declares_claim t c (λ r e. e) (moves_when (λ r e. not_sort has k.Assign 15 end_no_assign (λ line. omega arith) r e) (moves_over k.Assign _ _))

pub a_value_read : (has : Bool) (d : ℕ) (us : List Lexeme) (x : Grown) (t u : Lexeme) → t.sort ≡ k.Identifier → u.sort ≡ k.Assign → Claim d (Assign has) us x → DeclaresClaim has (suc d) (t ∷ u ∷ us) t (Some x)
unfolding p.declared
a_value_read has d us x t u c e h =
    declares_claim t c (λ r q. ap behind_name e)
    (moves_at (max 0 x.height) x.height (zero_max x.height) (moves_then (moves_eat k.Assign _ _ u e assign_self) (λ r q. tt) (moves_on (nest_takes d has us x h) _)))

declaration_read : {has : Bool} {d : ℕ} {us : List Lexeme} {t : Lexeme} {v : Option Grown} → DeclaresClaim has d us t v → Takes (declaration (tree d) has) us (value_height v) (declared t v, value_height v) (Ends has 15)
unfolding declaration place
declaration_read {has} {d} (declares_claim {us} {v} t c after h) =
    moves_at (max 0 (value_height v)) (value_height v) (zero_max (value_height v))
    (moves_is {V = name >>= p.declared (tree d) has t.from} (λ r l n q. refl) (moves_then (moves_on (name_read t c) (p.declared (tree d) has t.from)) (λ r q. tt) h))

-- ---- declarations with commas between

abbrev pub rest_of : Bool → ℕ → ℕ → List Declaration × ℕ → Parser (List Declaration × ℕ)
rest_of has d m found = declarations_from (tree d) has m found.0 found.1

abbrev pub more_of : List Declaration × ℕ → Lexeme → Option Grown → List Declaration × ℕ
more_of found t v = (found.0 ++ declared t v ∷ [], max found.1 (value_height v))

turn_comma : {has : Bool} {d : ℕ} {us : List Lexeme} {t : Lexeme} {v : Option Grown} (m : ℕ) (found : List Declaration × ℕ) (u : Lexeme) → DeclaresClaim has d us t v → u.sort ≡ k.Comma
    → Moves (rest_of has d (suc m) found) (us ++ u ∷ []) (value_height v) (rest_of has d m (more_of found t v)) Whatever
unfolding declarations_from
turn_comma {has} {v = v} m found u h c =
    moves_at (max (value_height v) 0) (value_height v) (omega arith)
    (moves_then (moves_on (declaration_read h) _) (λ r q. loose_sort has u k.Comma 15 c (λ line. omega arith) r) (moves_eat k.Comma _ _ u c comma_self))

turn_end : {has : Bool} {d : ℕ} {us : List Lexeme} {t : Lexeme} {v : Option Grown} (m : ℕ) (found : List Declaration × ℕ) → DeclaresClaim has d us t v
    → Takes (rest_of has d (suc m) found) us (value_height v) (more_of found t v) (Ends has 16)
unfolding declarations_from
turn_end {has} {v = v} m found h =
    moves_at (max (value_height v) 0) (value_height v) (omega arith)
    (moves_last (moves_on (declaration_read h) _) (λ r q. looser has 15 16 (omega arith) r q) (moves_when (λ r e. not_sort has k.Comma 16 end_no_comma (λ line. omega arith) r e) (moves_over k.Comma _ _)))

-- how declarations are read by a parser, before a comma and at the end
pub record Listed (has : Bool) (d : ℕ) (P : Parser (List Declaration × ℕ)) (us : List Lexeme) (found : List Declaration × ℕ) : Type 0 where
  pub by_comma : (u : Lexeme) → u.sort ≡ k.Comma → Enters P (rest_of has d) (us ++ u ∷ []) found.1 found Whatever
  pub by_end : Takes P us found.1 found (Ends has 16)

pub listed_more : {has : Bool} {d : ℕ} {P : Parser (List Declaration × ℕ)} {us vs : List Lexeme} {u : Lexeme} {v : Option Grown} (found : List Declaration × ℕ) (t : Lexeme) → Listed has d P us found → t.sort ≡ k.Comma
    → DeclaresClaim has d vs u v → Listed has d P (us ++ t ∷ vs) (more_of found u v)
listed_more {has} {d} {us = us} {vs} found t w c h = record {
  by_comma = λ q e. enters_tokens (append_assoc us (t ∷ []) (vs ++ q ∷ []) ∙ sym (append_assoc us (t ∷ vs) (q ∷ [])))
      (loops_more (w.by_comma t c) (λ r p. tt) (omega (arith, length-append vs (q ∷ []))) (λ m. turn_comma m found q h e));
  by_end = moves_tokens (append_assoc us (t ∷ []) vs) (loops_last (w.by_comma t c) (λ r p. tt) (λ m. turn_end m found h));
}

pub listed_one : {has : Bool} {d : ℕ} {us : List Lexeme} {t : Lexeme} {v : Option Grown} → DeclaresClaim has d us t v → Listed has d (declarations (tree d) has) us (more_of ([], 0) t v)
unfolding declarations declarations_behind
listed_one {has} {d} {us} h = record {
  by_comma = λ q e. loops_more (loops_none (rest_of has d) ([], 0) Whatever) (λ r p. tt) (omega (arith, length-append us (q ∷ []))) (λ m. turn_comma m ([], 0) q h e);
  by_end = loops_last (loops_none (rest_of has d) ([], 0) Whatever) (λ r p. tt) (λ m. turn_end m ([], 0) h);
}

-- ---- declarations in the head of a `for`, behind the first name

abbrev pub behind_first : ℕ → Lexeme → Parser (List Declaration × ℕ)
behind_first d t = p.declared (tree d) false t.from (text_of t.content) >>= (λ first. more_declarations (tree d) first.0 first.1)

pub data HeadClaim (d : ℕ) : List Lexeme → List Declaration × ℕ → Type 0 where
  head_claim : {us : List Lexeme} {found : List Declaration × ℕ} (t : Lexeme) → t.sort ≡ k.Identifier → ((r : List Lexeme) → behind_name (sort_at r) ≡ true → behind_name (sort_at (us ++ r)) ≡ true)
      → Listed false d (behind_first d t) us found → HeadClaim d (t ∷ us) found

max_zero : (a : ℕ) → max a 0 ≡ max 0 a
max_zero a = omega arith

pub head_one : {d : ℕ} {us : List Lexeme} {t : Lexeme} {v : Option Grown} → DeclaresClaim false d us t v → HeadClaim d us (more_of ([], 0) t v)
unfolding more_declarations declarations_behind
head_one {d} (declares_claim {us} {v} t c after h) = head_claim t c after (record {
  by_comma = λ q e. enters_at (max (value_height v) 0) (max 0 (value_height v)) (max_zero (value_height v)) (enters_from (rest_of false d) (more_of ([], 0) t v)
      (moves_then (moves_on h (λ first. more_declarations (tree d) first.0 first.1)) (λ r w. loose_sort false q k.Comma 15 e (λ line. omega arith) r)
      (moves_to (moves_eat k.Comma _ _ q e comma_self) (λ i. ap (λ a. declarations_from (tree d) false (left i + 1) (declared t v ∷ []) a i) (sym (zero_max (value_height v)))))));
  by_end = moves_at (max (value_height v) 0) (max 0 (value_height v)) (max_zero (value_height v))
      (moves_last (moves_on h (λ first. more_declarations (tree d) first.0 first.1)) (λ r w. looser false 15 16 (omega arith) r w)
      (moves_to (moves_when (λ r e. not_sort false k.Comma 16 end_no_comma (λ line. omega arith) r e) (moves_over k.Comma _ _)) (λ i. ap (λ a. Ok ((declared t v ∷ [], a), i)) (sym (zero_max (value_height v))))));
})

pub head_more : {d : ℕ} {us vs : List Lexeme} {u : Lexeme} {v : Option Grown} {found : List Declaration × ℕ} (t : Lexeme) → HeadClaim d us found → t.sort ≡ k.Comma → DeclaresClaim false d vs u v → HeadClaim d (us ++ t ∷ vs) (more_of found u v)
head_more {vs = vs} t (head_claim {us} {found} w i after l) c h =
    head_claim w i (λ r q. subst (λ zs. behind_name (sort_at zs) ≡ true) (sym (append_assoc us (t ∷ vs) r)) (after (t ∷ (vs ++ r)) (ap behind_name c))) (listed_more found t l c h)
