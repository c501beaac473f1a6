-- What stands behind `++` can go on to a target.
use Rattle.std.proofs.Common.{◌≡◌, ℕ, zero, suc, ◌+◌, ◌≤◌, max, Bool, true, false, List, [], ◌∷◌, ◌++◌, Some, refl, sym, subst, append_assoc, append-nil, arith}
use Rattle.sr_ast.specs.declared.operators.UpdateOp.{UpdateOp}
use Rattle.sr_ast.specs.declared.tree.Node as nodes
use Rattle.sr_ast.specs.declared.tree.Node.TheVariants as node
use Rattle.sr_syntax.specs.declared.sorts.Sort.TheVariants as k
use Rattle.sr_syntax.specs.declared.sorts.Lexeme.{Lexeme}
use Rattle.sr_syntax.specs.declared.grown.Grown.{Grown}
use Rattle.sr_syntax.specs.Sorts.{same_sort}
use Rattle.sr_syntax.specs.Input.{max_depth}
use Rattle.sr_syntax.specs.Operators.{update_before, is_target, is_bare_new, no_elements}
use Rattle.sr_grammar.specs.Derivations.{Derives, Assign, Left, Chain, New, Update, whole}
use Rattle.sr_grammar.specs.Derivations as g
use Rattle.sr_grammar.proofs.Steps.{Fact, Fault}
use Rattle.sr_grammar.proofs.Depths.{lift}
use Rattle.sr_grammar.proofs.Facts.{Derived, Start, Fill, filled, token}

-- ---- any expression at all

abbrev pub a_name : Grown
a_name = whole (node.Name []) 0 (token k.Identifier ∷ []) 0

-- a name
pub some_assign : (b : Bool) → Derives 3 (Assign b) (token k.Identifier ∷ []) a_name
unfolding same_sort
some_assign b = g.unassigned (g.unchosen (g.logical (rows_of 10 (g.operand (g.unraised (g.no_operator (g.no_step (g.chain (g.one_primary (g.name {d = 1} refl)))))))))) refl
  where
    rows_of : {d : ℕ} {us : List Lexeme} {x : Grown} (level : ℕ) → Derives d (g.Row b zero) us x → Derives d (g.Row b level) us x
    rows_of zero h = h
    rows_of (suc level) h = g.tighter (rows_of level h)

-- ---- a New, perhaps with Arguments that are to come

-- tokens that may follow make it one with Arguments
pub record Callable (us : List Lexeme) : Type 0 where
  pub depth : ℕ
  pub more : List Lexeme
  pub made : Grown
  pub derives : Derives depth New (us ++ more) made
  pub called : is_bare_new made ≡ false

abbrev no_arguments : List Lexeme
no_arguments = token k.LeftParenthesis ∷ token k.RightParenthesis ∷ []

pub callable : {d : ℕ} {us : List Lexeme} {x : Grown} → Derives d New us x → Callable us
unfolding is_bare_new nodes.out-Node denote.Hole.Carrier.out
callable {d} {x = x} (g.new_called {us} {vs} {t} c h u e a) = record {
  depth = d;
  more = [];
  made = x;
  derives = subst (λ zs. Derives d New zs x) (sym (append-nil (t ∷ (us ++ u ∷ vs)))) (g.new_called c h u e a);
  called = refl;
}
callable {d} (g.new_bare c (g.of_member h)) = record {
  depth = d;
  more = no_arguments;
  made = _;
  derives = g.new_called c h (token k.LeftParenthesis) refl (g.comma_at_last g.no_elements_yet (token k.RightParenthesis) refl);
  called = refl;
}
callable (g.new_bare {us} {t} c (g.of_bare h is)) =
    let inner = callable h in
    let z : Grown = whole (node.New inner.made.tree (Some no_elements.items)) t.from (t ∷ ((us ++ inner.more) ++ no_arguments)) (max inner.made.height no_elements.tall) in
    record {
      depth = suc inner.depth;
      more = inner.more ++ no_arguments;
      made = z;
      derives = subst (λ zs. Derives (suc inner.depth) New (t ∷ zs) z) (append_assoc us inner.more no_arguments)
          (g.new_called c (g.member_new inner.derives inner.called) (token k.LeftParenthesis) refl (g.comma_at_last g.no_elements_yet (token k.RightParenthesis) refl));
      called = refl;
    }

-- a New begins a Chain
pub chain_of_new : {e : ℕ} {vs : List Lexeme} {x : Grown} → Derives e New vs x → Fill (Chain false) vs
chain_of_new h = let c = callable h in record { depth = suc c.depth; more = c.more; made = c.made; derives = g.one_new c.derives c.called }

-- ---- a Left that no optional chain is in

pub data Plain_left : ℕ → List Lexeme → Grown → Type 0 where
  in_chain : {d : ℕ} {us : List Lexeme} {x : Grown} → Derives d (Chain false) us x → Plain_left d us x
  bare_alone : {d : ℕ} {us : List Lexeme} {x : Grown} → Derives d New us x → is_bare_new x ≡ true → Plain_left (suc d) us x

pub left_of_plain : {d : ℕ} {us : List Lexeme} {x : Grown} → Plain_left d us x → Derives d Left us x
left_of_plain (in_chain h) = g.chain h
left_of_plain (bare_alone h is) = g.bare h is

pub chain_of_plain : {d : ℕ} {us : List Lexeme} {x : Grown} → Plain_left d us x → Fill (Chain false) us
chain_of_plain {d} {us} {x} (in_chain h) = filled d us x h
chain_of_plain (bare_alone h is) = chain_of_new h

-- ---- `++` before it

abbrev a_property : List Lexeme
a_property = token k.LeftBracket ∷ token k.Identifier ∷ token k.RightBracket ∷ []

-- with a property of it the operator makes an Update
pub step_of_chain : (op : UpdateOp) (t : Lexeme) → update_before t.sort ≡ Some op → (e : ℕ) (vs : List Lexeme) (x : Grown) → Derives e (Chain false) vs x → Fill Update (t ∷ vs)
unfolding is_target nodes.out-Node denote.Hole.Carrier.out
step_of_chain op t c e vs x h = record {
  depth = 4 + e;
  more = a_property;
  made = _;
  derives = g.before c (g.chain (g.indexed (lift e (4 + e) (omega arith) h) (token k.LeftBracket) refl (lift 4 (4 + e) (omega arith) (g.single (some_assign true))) (token k.RightBracket) refl)) refl;
}

-- ---- what is read of a Left, where it may be in an optional chain, and where not

pub data Plain (d l n : ℕ) (us ts : List Lexeme) (x : Grown) : Type 0 where
  plain : Plain_left d us x → x.height ≤ max_depth → Plain d l n us ts x

abbrev pub LeftFact : Bool → ℕ → Fact Grown
LeftFact true d = Derived d Left
LeftFact false d = Plain d

abbrev pub LeftFault : Bool → Fault
LeftFault true = Start Left
LeftFault false = Start (Chain false)
