-- What derives is read: what has parts, and what is made by `new`.
use Rattle.std.proofs.Common.{◌≡◌, ℕ, suc, ◌+◌, ◌≤◌, max, Bool, true, false, List, [], ◌∷◌, ◌++◌, length, None, Some, Ok, refl, sym, ap, ◌∙◌, subst, append_assoc, arith, if◌then◌else◌}
use Rattle.sr_ast.specs.declared.operators.Link.{Link}
use Rattle.sr_ast.specs.declared.operators.Link.TheVariants as link
use Rattle.sr_ast.specs.declared.tree.Node.{Node}
use Rattle.sr_ast.specs.declared.tree.Node.TheVariants as node
use Rattle.sr_ast.specs.declared.tree.Node as tree_of
use denote.Hole.Carrier as hole
use Rattle.sr_syntax.specs.declared.sorts.Sort.TheVariants as k
use Rattle.sr_syntax.specs.declared.sorts.Lexeme.{Lexeme}
use Rattle.sr_syntax.specs.declared.grown.Grown.{Grown}
use Rattle.sr_syntax.specs.declared.grown.Elements.{Elements}
use Rattle.sr_syntax.specs.declared.grown.Goal.TheVariants as goal
use Rattle.sr_syntax.specs.declared.operators.PartSort.TheVariants as part
use Rattle.sr_syntax.specs.Sorts.{same_sort}
use Rattle.sr_syntax.specs.Input.{Parser, ◌>>=◌, and_then, pure, sort, sort_at, place, left, next, complete, text_of, is_word}
use Rattle.sr_syntax.specs.Operators.{from_of, is_target, is_bare_new, link_in, part_sort, member}
use Rattle.sr_syntax.specs.Expressions.{index, call, arguments, optional, primary, parts_from, parts, left_side, member_parts_from, member_parts, constructor, constructed, new_}
use Rattle.sr_syntax.specs.Grammar.{tree}
use Rattle.sr_grammar.specs.Derivations.{Derives, Expression, Left, Chain, New, Constructor, Member, Primary, whole}
use Rattle.sr_grammar.specs.Derivations as g
use Rattle.sr_grammar.specs.Continuing.{Ends}
use Rattle.sr_grammar.proofs.Steps.{inp, done, ending}
use Rattle.sr_grammar.proofs.Gets.{Gets, gets_is, gets_to, gets_then, gets_trans, gets_whole, not_sort}
use Rattle.sr_grammar.proofs.Heads.{primary_head, new_first}
use Rattle.sr_grammar.proofs.Completing.{Stands, stands_then, tail_fits, is_sort, loose_sort, expect_goes, eat_yes, eat_no}
use Rattle.sr_grammar.proofs.Parting.{member_gets, index_gets, call_gets, optional_name, optional_is, parts_end, part_step, part_goes, member_parts_end, member_step, member_goes}
use Rattle.sr_grammar.proofs.Claims.{Claim, stands_move, gets_move, end_at}
use Rattle.sr_grammar.specs.Reading.{end_after}
use Rattle.sr_grammar.proofs.Sorts.{end_no_dot, end_no_left_bracket, end_no_left_parenthesis, left_parenthesis_no_dot, left_parenthesis_no_left_bracket, left_parenthesis_self, new_self}

-- ---- which trees are targets, and a New without Arguments

member_target : (c : Bool) (x : Grown) (called : List ℕ) (from tall : ℕ) (us : List Lexeme) → c ≡ true → is_target (whole (node.Member (link_in c) x.tree called) from us tall) ≡ false
unfolding is_target tree_of.out-Node hole.out
member_target true x called from tall us e = refl
member_target false x called from tall us e = cc

index_target : (c : Bool) (x y : Grown) (from tall : ℕ) (us : List Lexeme) → c ≡ true → is_target (whole (node.Index (link_in c) x.tree y.tree) from us tall) ≡ false
unfolding is_target tree_of.out-Node hole.out
index_target true x y from tall us e = refl
index_target false x y from tall us e = cc

-- an optional chain is no target
chain_target : {d : ℕ} {c : Bool} {us : List Lexeme} {x : Grown} → Derives d (Chain c) us x → c ≡ true → is_target x ≡ false
unfolding is_target tree_of.out-Node hole.out
chain_target (g.one_primary h) e = cc
chain_target (g.one_new h is) e = cc
chain_target (g.named {c} {us} {x} h t p u w) e = member_target c x (text_of u.content) (from_of x) x.height (us ++ t ∷ u ∷ []) e
chain_target (g.indexed {c} {us} {vs} {x} {y} h t p i u q) e = index_target c x y (from_of x) (max x.height y.height) (us ++ t ∷ (vs ++ u ∷ [])) e
chain_target (g.called h t p a) e = refl
chain_target (g.optional_named h t p u w) e = refl
chain_target (g.optional_indexed h t p w q i u c) e = refl
chain_target (g.optional_called h t p w q a) e = refl

bare_new : (x : Grown) (from tall : ℕ) (us : List Lexeme) → is_bare_new (whole (node.New x.tree None) from us tall) ≡ true
unfolding is_bare_new tree_of.out-Node hole.out
bare_new x from tall us = refl

-- ---- how a Left begins

left_new : (d : ℕ) (o : Bool) (ts : List Lexeme) (l n : ℕ) → sort_at ts ≡ k.New
    → left_side (tree d) o (inp ts l n) ≡ and_then (tree d goal.New (inp ts l n)) (λ x. if is_bare_new x then pure x else parts (tree d) o x)
unfolding left_side sort
left_new d o ts l n c =
    ap (λ b. (if b then (tree d goal.New >>= (λ x. if is_bare_new x then pure x else parts (tree d) o x)) else (primary (tree d) >>= parts (tree d) o)) (inp ts l n)) (is_sort k.New (sort_at ts) c new_self)

left_primary : (d : ℕ) (o : Bool) (ts : List Lexeme) (l n : ℕ) → same_sort (sort_at ts) k.New ≡ false → left_side (tree d) o (inp ts l n) ≡ and_then (primary (tree d) (inp ts l n)) (parts (tree d) o)
unfolding left_side sort
left_primary d o ts l n c =
    ap (λ b. (if b then (tree d goal.New >>= (λ x. if is_bare_new x then pure x else parts (tree d) o x)) else (primary (tree d) >>= parts (tree d) o)) (inp ts l n)) c

pub bare_reads : (d : ℕ) (us : List Lexeme) (x : Grown) → Derives d New us x → Claim d New us x → is_bare_new x ≡ true → Claim (suc d) Left us x
unfolding tree
bare_reads d us x derives h is o any r l n e =
    let f : Grown → Parser Grown = λ x. if is_bare_new x then pure x else parts (tree (suc d)) o x in
    gets_is (and_then (new_ (tree d) (inp (us ++ r) l n)) f) (left_new (suc d) o (us ++ r) l n (new_first derives r))
    (gets_to (gets_then (h r l n (λ b. e)) f) (ap (λ b. (if b then pure x else parts (tree (suc d)) o x) (inp r (end_after l us) n)) is))

pub chain_reads : (d : ℕ) (c : Bool) (us : List Lexeme) (x : Grown) → Derives d (Chain c) us x → Claim d (Chain c) us x → Claim d Left us x
chain_reads d c us x derives h o any r l n e =
    let s = h o (λ is. any (chain_target derives is)) r l n in
    gets_to s.gets (parts_end d o c false s.turns x r (end_after l us) n e)

pub one_primary_reads : (d : ℕ) (us : List Lexeme) (x : Grown) → Derives d Primary us x → Claim d Primary us x → Claim d (Chain false) us x
unfolding parts left
one_primary_reads d us x derives h o any r l n = record {
  turns = length r;
  enough = omega arith;
  gets = gets_is (and_then (primary (tree d) (inp (us ++ r) l n)) (parts (tree d) o)) (left_primary d o (us ++ r) l n ((primary_head derives r).new)) (gets_then (h r l n) (parts (tree d) o));
}

pub one_new_reads : (d : ℕ) (us : List Lexeme) (x : Grown) → Derives d New us x → Claim d New us x → is_bare_new x ≡ false → Claim (suc d) (Chain false) us x
unfolding parts left tree
one_new_reads d us x derives h is o any r l n =
    let f : Grown → Parser Grown = λ x. if is_bare_new x then pure x else parts (tree (suc d)) o x in
    record {
      turns = length r;
      enough = omega arith;
      gets = gets_is (and_then (new_ (tree d) (inp (us ++ r) l n)) f) (left_new (suc d) o (us ++ r) l n (new_first derives r))
          (gets_to (gets_then (h r l n (λ b. cc)) f) (ap (λ b. (if b then pure x else parts (tree (suc d)) o x) (inp r (end_after l us) n)) is));
    }

-- ---- parts

-- an index, to its bracket
index_reads : (d : ℕ) (of : Link) (x y : Grown) (vs : List Lexeme) (u : Lexeme) → Claim d (Expression true) vs y → u.sort ≡ k.RightBracket → (r : List Lexeme) (l n : ℕ)
    → Gets (index (tree d) of x (inp ((vs ++ u ∷ []) ++ r) l n)) (max x.height y.height + 1)
    (done (ending (node.Index of x.tree y.tree) (from_of x) (end_after l (vs ++ u ∷ [])) (max x.height y.height)) (inp r (end_after l (vs ++ u ∷ [])) n))
index_reads d of x y vs u h c r l n =
    let tall = max x.height y.height in
    subst (λ zs. Gets (index (tree d) of x (inp zs l n)) (tall + 1) (done (ending (node.Index of x.tree y.tree) (from_of x) (end_after l (vs ++ u ∷ [])) tall) (inp r (end_after l (vs ++ u ∷ [])) n))) (sym (append_assoc vs (u ∷ []) r))
    (gets_move (λ a b. done (ending (node.Index of x.tree y.tree) (from_of x) a tall) (inp r b n)) u.to (end_after l (vs ++ u ∷ [])) (end_after l (vs ++ u ∷ [])) (end_at l vs [] u) (end_at l vs [] u)
    (index_gets d of x y vs u r l n (h (u ∷ r) l n (loose_sort true u k.RightBracket 16 c (λ line. omega arith) r)) c))

-- how Arguments are read
abbrev pub ArgumentsClaim : ℕ → List Lexeme → Elements → Type 0
ArgumentsClaim d us xs = (r : List Lexeme) (l n : ℕ) → Gets (arguments (tree d) (inp (us ++ r) l n)) xs.tall (Ok (xs, inp r (end_after l us) n))

-- one more part, which its own parser reads behind a token
part_reads : (d : ℕ) (c e : Bool) (us vs : List Lexeme) (t : Lexeme) (x : Grown) (nd : Node) (tall : ℕ) (p : Parser Grown) → x.height ≤ tall → Claim d (Chain c) us x
    → ((o : Bool) → (e ≡ true → o ≡ true) → c ≡ true → o ≡ true)
    → ((o : Bool) → (e ≡ true → o ≡ true) → (m : ℕ) (ts : List Lexeme) (l n : ℕ) → parts_from (tree d) o (suc m) c x (inp (t ∷ ts) l n) ≡ and_then (p (inp ts t.to n)) (parts_from (tree d) o m e))
    → ((r : List Lexeme) (l n : ℕ) → Gets (p (inp (vs ++ r) l n)) (tall + 1) (done (ending nd (from_of x) (end_after l vs) tall) (inp r (end_after l vs) n)))
    → Claim d (Chain e) (us ++ t ∷ vs) (whole nd (from_of x) (us ++ t ∷ vs) tall)
part_reads d c e us vs t x nd tall p less h allows step given o any r l n =
    subst (λ zs. Stands (left_side (tree d) o (inp zs l n)) (tall + 1) (λ m. parts_from (tree d) o m e (whole nd (from_of x) (us ++ t ∷ vs) tall) (inp r (end_after l (us ++ t ∷ vs)) n)) r) (sym (append_assoc us (t ∷ vs) r))
    (stands_move (λ a b m. parts_from (tree d) o m e (ending nd (from_of x) a tall) (inp r b n)) (end_after t.to vs) (end_after 0 (us ++ t ∷ vs)) (end_after l (us ++ t ∷ vs)) (end_at 0 us vs t) (end_at l us vs t)
    (stands_then (tall + 1) (omega (arith, less)) (h o (allows o any) (t ∷ (vs ++ r)) l n)
    (λ m far. part_goes d o c e m x (ending nd (from_of x) (end_after t.to vs) tall) t (vs ++ r) r (end_after l us) n (end_after t.to vs) p far (tail_fits vs r)
    (λ m. step o any m (vs ++ r) (end_after l us) n) (given r t.to n))))

dot_part : (o : Bool) → part_sort o k.Dot ≡ part.Member
dot_part true = refl
dot_part false = refl

bracket_part : (o : Bool) → part_sort o k.LeftBracket ≡ part.Index
bracket_part true = refl
bracket_part false = refl

parenthesis_part : (o : Bool) → part_sort o k.LeftParenthesis ≡ part.Call
parenthesis_part true = refl
parenthesis_part false = refl

optional_part : (o : Bool) → o ≡ true → part_sort o k.QuestionDot ≡ part.Optional
optional_part true e = refl
optional_part false e = cc

pub named_reads : (d : ℕ) (c : Bool) (us : List Lexeme) (t u : Lexeme) (x : Grown) → Claim d (Chain c) us x → t.sort ≡ k.Dot → is_word u.sort ≡ true
    → Claim d (Chain c) (us ++ t ∷ u ∷ []) (whole (node.Member (link_in c) x.tree (text_of u.content)) (from_of x) (us ++ t ∷ u ∷ []) x.height)
unfolding next
named_reads d c us t u x h q w =
    part_reads d c c us (u ∷ []) t x (node.Member (link_in c) x.tree (text_of u.content)) x.height (member (link_in c) x) (omega arith) h (λ o any. any)
    (λ o any m ts l n. part_step d o c m x t ts l n part.Member (ap (part_sort o) q ∙ dot_part o)) (λ r l n. member_gets (link_in c) x u r l n w)

pub indexed_reads : (d : ℕ) (c : Bool) (us vs : List Lexeme) (t u : Lexeme) (x y : Grown) → Claim d (Chain c) us x → t.sort ≡ k.LeftBracket → Claim d (Expression true) vs y → u.sort ≡ k.RightBracket
    → Claim d (Chain c) (us ++ t ∷ (vs ++ u ∷ [])) (whole (node.Index (link_in c) x.tree y.tree) (from_of x) (us ++ t ∷ (vs ++ u ∷ [])) (max x.height y.height))
unfolding next
indexed_reads d c us vs t u x y h q i w =
    part_reads d c c us (vs ++ u ∷ []) t x (node.Index (link_in c) x.tree y.tree) (max x.height y.height) (index (tree d) (link_in c) x) (omega arith) h (λ o any. any)
    (λ o any m ts l n. part_step d o c m x t ts l n part.Index (ap (part_sort o) q ∙ bracket_part o)) (index_reads d (link_in c) x y vs u i w)

pub called_reads : (d : ℕ) (c : Bool) (us vs : List Lexeme) (t : Lexeme) (x : Grown) (xs : Elements) → Claim d (Chain c) us x → t.sort ≡ k.LeftParenthesis → ArgumentsClaim d vs xs
    → Claim d (Chain c) (us ++ t ∷ vs) (whole (node.Call (link_in c) x.tree xs.items) (from_of x) (us ++ t ∷ vs) (max x.height xs.tall))
unfolding next
called_reads d c us vs t x xs h q a =
    part_reads d c c us vs t x (node.Call (link_in c) x.tree xs.items) (max x.height xs.tall) (call (tree d) (link_in c) x) (omega arith) h (λ o any. any)
    (λ o any m ts l n. part_step d o c m x t ts l n part.Call (ap (part_sort o) q ∙ parenthesis_part o)) (λ r l n. call_gets d (link_in c) x xs (vs ++ r) r l n (end_after l vs) (a r l n))

-- one behind `?.`
optional_reads : (d : ℕ) (c : Bool) (us vs : List Lexeme) (t : Lexeme) (x : Grown) (nd : Node) (tall : ℕ) → x.height ≤ tall → Claim d (Chain c) us x → t.sort ≡ k.QuestionDot
    → ((r : List Lexeme) (l n : ℕ) → Gets (optional (tree d) x (inp (vs ++ r) l n)) (tall + 1) (done (ending nd (from_of x) (end_after l vs) tall) (inp r (end_after l vs) n)))
    → Claim d (Chain true) (us ++ t ∷ vs) (whole nd (from_of x) (us ++ t ∷ vs) tall)
unfolding next
optional_reads d c us vs t x nd tall less h q given =
    part_reads d c true us vs t x nd tall (optional (tree d) x) less h (λ o any is. any refl)
    (λ o any m ts l n. part_step d o c m x t ts l n part.Optional (ap (part_sort o) q ∙ optional_part o (any refl))) given

pub optional_named_reads : (d : ℕ) (c : Bool) (us : List Lexeme) (t u : Lexeme) (x : Grown) → Claim d (Chain c) us x → t.sort ≡ k.QuestionDot → is_word u.sort ≡ true
    → Claim d (Chain true) (us ++ t ∷ u ∷ []) (whole (node.Member link.Optional x.tree (text_of u.content)) (from_of x) (us ++ t ∷ u ∷ []) x.height)
optional_named_reads d c us t u x h q w =
    optional_reads d c us (u ∷ []) t x (node.Member link.Optional x.tree (text_of u.content)) x.height (omega arith) h q
    (λ r l n. gets_is (member link.Optional x (inp (u ∷ r) l n)) (optional_name d x u r l n w) (member_gets link.Optional x u r l n w))

pub optional_indexed_reads : (d : ℕ) (c : Bool) (us vs : List Lexeme) (t w u : Lexeme) (x y : Grown) → Claim d (Chain c) us x → t.sort ≡ k.QuestionDot → w.sort ≡ k.LeftBracket → Claim d (Expression true) vs y → u.sort ≡ k.RightBracket
    → Claim d (Chain true) (us ++ t ∷ w ∷ (vs ++ u ∷ [])) (whole (node.Index link.Optional x.tree y.tree) (from_of x) (us ++ t ∷ w ∷ (vs ++ u ∷ [])) (max x.height y.height))
unfolding next
optional_indexed_reads d c us vs t w u x y h q p i e =
    optional_reads d c us (w ∷ (vs ++ u ∷ [])) t x (node.Index link.Optional x.tree y.tree) (max x.height y.height) (omega arith) h q
    (λ r l n. gets_is (index (tree d) link.Optional x (inp ((vs ++ u ∷ []) ++ r) w.to n)) (optional_is d x w ((vs ++ u ∷ []) ++ r) l n k.LeftBracket p) (index_reads d link.Optional x y vs u i e r w.to n))

pub optional_called_reads : (d : ℕ) (c : Bool) (us vs : List Lexeme) (t w : Lexeme) (x : Grown) (xs : Elements) → Claim d (Chain c) us x → t.sort ≡ k.QuestionDot → w.sort ≡ k.LeftParenthesis → ArgumentsClaim d vs xs
    → Claim d (Chain true) (us ++ t ∷ w ∷ vs) (whole (node.Call link.Optional x.tree xs.items) (from_of x) (us ++ t ∷ w ∷ vs) (max x.height xs.tall))
unfolding next
optional_called_reads d c us vs t w x xs h q p a =
    optional_reads d c us (w ∷ vs) t x (node.Call link.Optional x.tree xs.items) (max x.height xs.tall) (omega arith) h q
    (λ r l n. gets_is (call (tree d) link.Optional x (inp (vs ++ r) w.to n)) (optional_is d x w (vs ++ r) l n k.LeftParenthesis p) (call_gets d link.Optional x xs (vs ++ r) r w.to n (end_after w.to vs) (a r w.to n)))

-- ---- what stands behind `new`

constructor_new : (d : ℕ) (ts : List Lexeme) (l n : ℕ) → sort_at ts ≡ k.New → constructor (tree d) (inp ts l n) ≡ and_then (tree d goal.New (inp ts l n)) (member_parts (tree d))
unfolding constructor sort
constructor_new d ts l n c = ap (λ b. (if b then (tree d goal.New >>= member_parts (tree d)) else (primary (tree d) >>= member_parts (tree d))) (inp ts l n)) (is_sort k.New (sort_at ts) c new_self)

constructor_primary : (d : ℕ) (ts : List Lexeme) (l n : ℕ) → same_sort (sort_at ts) k.New ≡ false → constructor (tree d) (inp ts l n) ≡ and_then (primary (tree d) (inp ts l n)) (member_parts (tree d))
unfolding constructor sort
constructor_primary d ts l n c = ap (λ b. (if b then (tree d goal.New >>= member_parts (tree d)) else (primary (tree d) >>= member_parts (tree d))) (inp ts l n)) c

pub member_primary_reads : (d : ℕ) (us : List Lexeme) (x : Grown) → Derives d Primary us x → Claim d Primary us x → Claim d Member us x
unfolding member_parts left
member_primary_reads d us x derives h r l n = record {
  turns = length r;
  enough = omega arith;
  gets = gets_is (and_then (primary (tree d) (inp (us ++ r) l n)) (member_parts (tree d))) (constructor_primary d (us ++ r) l n ((primary_head derives r).new)) (gets_then (h r l n) (member_parts (tree d)));
}

pub member_new_reads : (d : ℕ) (us : List Lexeme) (x : Grown) → Derives d New us x → Claim d New us x → is_bare_new x ≡ false → Claim (suc d) Member us x
unfolding member_parts left tree
member_new_reads d us x derives h is r l n = record {
  turns = length r;
  enough = omega arith;
  gets = gets_is (and_then (new_ (tree d) (inp (us ++ r) l n)) (member_parts (tree (suc d)))) (constructor_new (suc d) (us ++ r) l n (new_first derives r)) (gets_then (h r l n (λ b. cc)) (member_parts (tree (suc d))));
}

member_reads : (d : ℕ) (us vs : List Lexeme) (t : Lexeme) (x : Grown) (nd : Node) (tall : ℕ) (p : Parser Grown) → x.height ≤ tall → Claim d Member us x
    → ((m : ℕ) (ts : List Lexeme) (l n : ℕ) → member_parts_from (tree d) (suc m) x (inp (t ∷ ts) l n) ≡ and_then (p (inp ts t.to n)) (member_parts_from (tree d) m))
    → ((r : List Lexeme) (l n : ℕ) → Gets (p (inp (vs ++ r) l n)) (tall + 1) (done (ending nd (from_of x) (end_after l vs) tall) (inp r (end_after l vs) n)))
    → Claim d Member (us ++ t ∷ vs) (whole nd (from_of x) (us ++ t ∷ vs) tall)
member_reads d us vs t x nd tall p less h step given r l n =
    subst (λ zs. Stands (constructor (tree d) (inp zs l n)) (tall + 1) (λ m. member_parts_from (tree d) m (whole nd (from_of x) (us ++ t ∷ vs) tall) (inp r (end_after l (us ++ t ∷ vs)) n)) r) (sym (append_assoc us (t ∷ vs) r))
    (stands_move (λ a b m. member_parts_from (tree d) m (ending nd (from_of x) a tall) (inp r b n)) (end_after t.to vs) (end_after 0 (us ++ t ∷ vs)) (end_after l (us ++ t ∷ vs)) (end_at 0 us vs t) (end_at l us vs t)
    (stands_then (tall + 1) (omega (arith, less)) (h (t ∷ (vs ++ r)) l n)
    (λ m far. member_goes d m x (ending nd (from_of x) (end_after t.to vs) tall) t (vs ++ r) r (end_after l us) n (end_after t.to vs) p far (tail_fits vs r)
    (λ m. step m (vs ++ r) (end_after l us) n) (given r t.to n))))

pub member_named_reads : (d : ℕ) (us : List Lexeme) (t u : Lexeme) (x : Grown) → Claim d Member us x → t.sort ≡ k.Dot → is_word u.sort ≡ true
    → Claim d Member (us ++ t ∷ u ∷ []) (whole (node.Member (link_in false) x.tree (text_of u.content)) (from_of x) (us ++ t ∷ u ∷ []) x.height)
unfolding next
member_named_reads d us t u x h q w =
    member_reads d us (u ∷ []) t x (node.Member (link_in false) x.tree (text_of u.content)) x.height (member link.Plain x) (omega arith) h
    (λ m ts l n. member_step d m x t ts l n k.Dot q) (λ r l n. member_gets link.Plain x u r l n w)

pub member_indexed_reads : (d : ℕ) (us vs : List Lexeme) (t u : Lexeme) (x y : Grown) → Claim d Member us x → t.sort ≡ k.LeftBracket → Claim d (Expression true) vs y → u.sort ≡ k.RightBracket
    → Claim d Member (us ++ t ∷ (vs ++ u ∷ [])) (whole (node.Index (link_in false) x.tree y.tree) (from_of x) (us ++ t ∷ (vs ++ u ∷ [])) (max x.height y.height))
unfolding next
member_indexed_reads d us vs t u x y h q i w =
    member_reads d us (vs ++ u ∷ []) t x (node.Index (link_in false) x.tree y.tree) (max x.height y.height) (index (tree d) link.Plain x) (omega arith) h
    (λ m ts l n. member_step d m x t ts l n k.LeftBracket q) (index_reads d link.Plain x y vs u i w)

-- where no part of a Member begins
no_member_part : (r : List Lexeme) → Ends false 0 r → (same_sort (sort_at r) k.Dot ≡ false) × (same_sort (sort_at r) k.LeftBracket ≡ false)
no_member_part r e = (not_sort false k.Dot 0 end_no_dot (λ line. omega arith) r e, not_sort false k.LeftBracket 0 end_no_left_bracket (λ line. omega arith) r e)

pub of_member_reads : (d : ℕ) (us : List Lexeme) (x : Grown) → Claim d Member us x → Claim d Constructor us x
of_member_reads d us x h r l n e =
    let s = h r l n in
    let no = no_member_part r e in
    gets_to s.gets (member_parts_end d s.turns x r (end_after l us) n no.0 no.1)

pub of_bare_reads : (d : ℕ) (us : List Lexeme) (x : Grown) → Derives d New us x → Claim d New us x → Claim (suc d) Constructor us x
unfolding member_parts left tree
of_bare_reads d us x derives h r l n e =
    let no = no_member_part r e in
    gets_is (and_then (new_ (tree d) (inp (us ++ r) l n)) (member_parts (tree (suc d)))) (constructor_new (suc d) (us ++ r) l n (new_first derives r))
    (gets_to (gets_then (h r l n (λ b. e)) (member_parts (tree (suc d)))) (member_parts_end (suc d) (length r) x r (end_after l us) n no.0 no.1))

new_is : (d : ℕ) (t : Lexeme) (ts : List Lexeme) (l n : ℕ) → t.sort ≡ k.New → new_ (tree d) (inp (t ∷ ts) l n) ≡ and_then (constructor (tree d) (inp ts t.to n)) (constructed (tree d) t.from)
unfolding new_ place
new_is d t ts l n c = expect_goes k.New t ts l n c new_self (λ v. constructor (tree d) >>= constructed (tree d) t.from)

pub new_bare_reads : (d : ℕ) (us : List Lexeme) (t : Lexeme) (x : Grown) → t.sort ≡ k.New → Claim d Constructor us x → Claim d New (t ∷ us) (whole (node.New x.tree None) t.from (t ∷ us) x.height)
unfolding constructed
new_bare_reads d us t x c h r l n any =
    let e = any (bare_new x t.from x.height (t ∷ us)) in
    gets_is (and_then (constructor (tree d) (inp (us ++ r) t.to n)) (constructed (tree d) t.from)) (new_is d t (us ++ r) l n c)
    (gets_trans x.height (x.height + 1) (omega arith) (gets_then (h r t.to n e) (constructed (tree d) t.from))
    (gets_is (complete (node.New x.tree None) t.from x.height (inp r (end_after t.to us) n))
    (eat_no k.LeftParenthesis r (end_after t.to us) n (not_sort false k.LeftParenthesis 0 end_no_left_parenthesis (λ line. omega arith) r e)
    (λ b. if b then (arguments (tree d) >>= (λ all. complete (node.New x.tree (Some all.items)) t.from (max x.height all.tall))) else complete (node.New x.tree None) t.from x.height))
    (gets_whole (node.New x.tree None) t.from x.height r (end_after t.to us) n)))

pub new_called_reads : (d : ℕ) (us vs : List Lexeme) (t u : Lexeme) (x : Grown) (xs : Elements) → t.sort ≡ k.New → Claim d Member us x → u.sort ≡ k.LeftParenthesis → ArgumentsClaim d vs xs
    → Claim d New (t ∷ (us ++ u ∷ vs)) (whole (node.New x.tree (Some xs.items)) t.from (t ∷ (us ++ u ∷ vs)) (max x.height xs.tall))
unfolding constructed
new_called_reads d us vs t u x xs c h q a r l n any =
    let tall = max x.height xs.tall in
    let ts = u ∷ (vs ++ r) in
    let nd = node.New x.tree (Some xs.items) in
    let s = h ts t.to n in
    let member_ = gets_to s.gets (member_parts_end d s.turns x ts (end_after t.to us) n (ap (λ a. same_sort a k.Dot) q ∙ left_parenthesis_no_dot) (ap (λ a. same_sort a k.LeftBracket) q ∙ left_parenthesis_no_left_bracket)) in
    let close : Elements → Parser Grown = λ all. complete (node.New x.tree (Some all.items)) t.from (max x.height all.tall) in
    let given = gets_trans xs.tall (tall + 1) (omega arith) (gets_then (a r u.to n) close) (gets_whole nd t.from tall r (end_after u.to vs) n) in
    let goes = eat_yes k.LeftParenthesis u (vs ++ r) (end_after t.to us) n q left_parenthesis_self
    (λ b. if b then (arguments (tree d) >>= (λ all. complete (node.New x.tree (Some all.items)) t.from (max x.height all.tall))) else complete (node.New x.tree None) t.from x.height) in
    gets_is (and_then (constructor (tree d) (inp ((us ++ u ∷ vs) ++ r) t.to n)) (constructed (tree d) t.from)) (new_is d t ((us ++ u ∷ vs) ++ r) l n c)
    (subst (λ zs. Gets (and_then (constructor (tree d) (inp zs t.to n)) (constructed (tree d) t.from)) (tall + 1) (done (whole nd t.from (t ∷ (us ++ u ∷ vs)) tall) (inp r (end_after t.to (us ++ u ∷ vs)) n))) (sym (append_assoc us (u ∷ vs) r))
    (gets_move (λ a b. done (ending nd t.from a tall) (inp r b n)) (end_after u.to vs) (end_after t.to (us ++ u ∷ vs)) (end_after t.to (us ++ u ∷ vs)) (end_at t.to us vs u) (end_at t.to us vs u)
    (gets_trans x.height (tall + 1) (omega arith) (gets_then member_ (constructed (tree d) t.from)) (gets_is (and_then (arguments (tree d) (inp (vs ++ r) u.to n)) close) goes given))))
