-- What the rules read, in the words of the grammar.
use Rattle.std.proofs.Common.{◌≡◌, ℕ, suc, ◌≤◌, ◌<◌, Bool, true, false, List, [], ◌∷◌, ◌++◌, Ok, refl, sym, ap, ◌∙◌, subst, append_assoc, append-nil, arith}
use Rattle.sr_ast.specs.declared.tree.Node.{Node}
use Rattle.sr_syntax.specs.declared.sorts.Content.TheVariants.{Nothing}
use Rattle.sr_syntax.specs.declared.sorts.Sort.{Sort}
use Rattle.sr_syntax.specs.declared.sorts.Sort.TheVariants as k
use Rattle.sr_syntax.specs.declared.sorts.Lexeme.{Lexeme}
use Rattle.sr_syntax.specs.declared.grown.Grown.{Grown}
use Rattle.sr_syntax.specs.Input.{Parser, ◌>>=◌, complete, max_depth, sort_at}
use Rattle.sr_grammar.specs.Derivations.{Symbol, Derives, whole}
use Rattle.sr_grammar.specs.Faults.{Begins}
use Rattle.sr_grammar.proofs.Steps.{Fact, Fault, Need, Parses, Both, both, Either, first, second, Never, Pure, nothing, Completed, completed, ending, map, then_any, purely, completing, end_append}
use Rattle.sr_grammar.specs.Reading.{end_after}

pub data Derived (d : ℕ) (s : Symbol) (l n : ℕ) (us ts : List Lexeme) (x : Grown) : Type 0 where
  derived : Derives d s us x → x.height ≤ max_depth → Derived d s l n us ts x

-- with one fewer that may be open
pub data Opened (s : Symbol) : ℕ → ℕ → ℕ → List Lexeme → List Lexeme → Grown → Type 0 where
  opened : {d l n : ℕ} {us ts : List Lexeme} {x : Grown} → Derives d s us x → x.height ≤ max_depth → Opened s (suc d) l n us ts x

-- ---- what was read, made into something else

pub data Mapped {A C : Type 0} (R : Fact A) (f : A → C) (l n : ℕ) (us ts : List Lexeme) (y : C) : Type 0 where
  mapped : (x : A) → R l n us ts x → y ≡ f x → Mapped R f l n us ts y

pub mapping : {A C : Type 0} {P : ℕ → Parser A} {d : ℕ} {N : Need} {R : Fact A} {B : Fault} → Parses P d N R B → (f : A → C)
    → Parses (λ e. P e >>= (λ x i. Ok (f x, i))) d N (Mapped R f) B
mapping {A} {C} {P} {d} {N} {R} {B} p f = map (λ l n us ts x r. fact r) (λ l n us ts r. fault r) (then_any p (λ x. purely (f x)))
  where
    fact : {l n : ℕ} {us ts : List Lexeme} {y : C} → Both R (λ x. Pure (f x)) l n us ts y → Mapped R f l n us ts y
    fact {l} {n} (both {us} {vs} {ts} {x} {y} r (nothing is)) = subst (λ zs. Mapped R f l n zs ts y) (sym (append-nil us)) (mapped x r is)

    fault : {l n : ℕ} {us ts : List Lexeme} → Either B R (λ x. Never) l n us ts → B l n us ts
    fault (first b) = b
    fault (second r c) = elim c [ ]

pub data Closed {A : Type 0} (R : Fact A) (node : A → Node) (from tall : A → ℕ) (l n : ℕ) (us ts : List Lexeme) (y : Grown) : Type 0 where
  closed : (x : A) → R l n us ts x → tall x < max_depth → y ≡ ending (node x) (from x) (end_after l us) (tall x) → Closed R node from tall l n us ts y

pub closing : {A : Type 0} {P : ℕ → Parser A} {d : ℕ} {N : Need} {R : Fact A} {B : Fault} → Parses P d N R B → (node : A → Node) (from tall : A → ℕ)
    → Parses (λ e. P e >>= (λ x. complete (node x) (from x) (tall x))) d N (Closed R node from tall) B
closing {A} {P} {d} {N} {R} {B} p node from tall = map (λ l n us ts x r. fact r) (λ l n us ts r. fault r) (then_any p (λ x. completing (node x) (from x) (tall x)))
  where
    fact : {l n : ℕ} {us ts : List Lexeme} {y : Grown} → Both R (λ x. Completed (node x) (from x) (tall x)) l n us ts y → Closed R node from tall l n us ts y
    fact {l} {n} (both {us} {vs} {ts} {x} {y} r (completed fits is)) = subst (λ zs. Closed R node from tall l n zs ts y) (sym (append-nil us)) (closed x r fits is)

    fault : {l n : ℕ} {us ts : List Lexeme} → Either B R (λ x. Never) l n us ts → B l n us ts
    fault (first b) = b
    fault (second r c) = elim c [ ]

-- ---- whole trees

pub bare : {d l n : ℕ} {s : Symbol} {us ts : List Lexeme} {x : Grown} → Derived d s l n us ts x → Derived d s l n (us ++ []) ts x
bare {d} {l} {n} {s} {us} {ts} {x} h = subst (λ zs. Derived d s l n zs ts x) (sym (append-nil us)) h

-- another name of the tree
pub known_as : {d l n : ℕ} {s : Symbol} {us ts : List Lexeme} {x y : Grown} → y ≡ x → Derived d s l n us ts x → Derived d s l n us ts y
known_as {d} {l} {n} {s} {us} {ts} {x} {y} is h = subst (λ z. Derived d s l n us ts z) (sym is) h

pub end_behind : (l m : ℕ) (us vs : List Lexeme) (t : Lexeme) → end_after l (us ++ t ∷ vs) ≡ end_after m (us ++ t ∷ vs)
end_behind l m us vs t = end_append l us (t ∷ vs) ∙ sym (end_append m us (t ∷ vs))

-- the tree of these tokens, whatever they begin behind
pub finished : {d l n from tall : ℕ} {s : Symbol} {us ts : List Lexeme} {node : Node} {x : Grown}
    → tall < max_depth → x ≡ ending node from (end_after l us) tall → end_after l us ≡ end_after 0 us → Derives d s us (whole node from us tall) → Derived d s l n us ts x
finished {d} {l} {n} {from} {tall} {s} {us} {ts} {node} {x} fits is at h =
    let same : x ≡ whole node from us tall = is ∙ ap (λ m. ending node from m tall) at in
    subst (λ y. Derived d s l n us ts y) (sym same) (derived h (omega (arith, fits)))

-- ---- tokens that could follow

abbrev pub token : Sort → Lexeme
token s = record { sort = s; content = Nothing; from = 0; to = 0; line_before = false; ahead = k.End }

-- ---- where symbols begin

-- a symbol fails, of which these tokens are the beginning
pub data Start (s : Symbol) (l n : ℕ) (us ts : List Lexeme) : Type 0 where
  start : Begins s us → Start s l n us ts

-- The whole of a symbol from the whole of its part, which stands in these tokens and before more.
pub record Fill (s : Symbol) (vs : List Lexeme) : Type 0 where
  pub depth : ℕ
  pub more : List Lexeme
  pub made : Grown
  pub derives : Derives depth s (vs ++ more) made

pub begins_of_fill : {s : Symbol} {vs : List Lexeme} → Fill s vs → Begins s vs
begins_of_fill f = record { open_at_most = f.depth; more = f.more; made = f.made; derives = f.derives }

pub begin_in : {s p : Symbol} (C : List Lexeme → List Lexeme) → ((us vs : List Lexeme) → C (us ++ vs) ≡ C us ++ vs)
    → ((e : ℕ) (vs : List Lexeme) (x : Grown) → Derives e p vs x → Fill s (C vs)) → (us : List Lexeme) → Begins p us → Begins s (C us)
begin_in {s} {p} C law fill us b =
    let f = fill b.open_at_most (us ++ b.more) b.made b.derives in
    record {
      open_at_most = f.depth;
      more = b.more ++ f.more;
      made = f.made;
      derives = subst (λ zs. Derives f.depth s zs f.made) (ap (λ zs. zs ++ f.more) (law us b.more) ∙ append_assoc (C us) b.more f.more) f.derives;
    }

-- nothing more is wanted
pub filled : {s : Symbol} (e : ℕ) (vs : List Lexeme) (x : Grown) → Derives e s vs x → Fill s vs
filled {s} e vs x h = record { depth = e; more = []; made = x; derives = subst (λ zs. Derives e s zs x) (sym (append-nil vs)) h }

-- the same tokens, as another symbol
pub begin_as : {s p : Symbol} → ((e : ℕ) (vs : List Lexeme) (x : Grown) → Derives e p vs x → Fill s vs) → {us : List Lexeme} → Begins p us → Begins s us
begin_as fill {us} h = begin_in (λ vs. vs) (λ us vs. refl) fill us h

-- behind other tokens
pub begin_behind : {s p : Symbol} (ws : List Lexeme) (t : Lexeme) → ((e : ℕ) (vs : List Lexeme) (x : Grown) → Derives e p vs x → Fill s (ws ++ t ∷ vs))
    → {us : List Lexeme} → Begins p us → Begins s (ws ++ t ∷ us)
begin_behind ws t fill {us} h = begin_in (λ vs. ws ++ t ∷ vs) (λ us vs. sym (append_assoc ws (t ∷ us) vs)) fill us h

-- ---- statements and items

-- a relation between tokens, those that follow, and trees
abbrev pub Relation : Type 1
Relation = ℕ → List Lexeme → List Lexeme → Grown → Type 0

pub data Stood (Is : Relation) (d l n : ℕ) (us ts : List Lexeme) (x : Grown) : Type 0 where
  stood : Is d us ts x → x.height ≤ max_depth → Stood Is d l n us ts x

-- with one fewer that may be open
pub data OpenedOne (Is : Relation) : ℕ → ℕ → ℕ → List Lexeme → List Lexeme → Grown → Type 0 where
  opened_one : {d l n : ℕ} {us ts : List Lexeme} {x : Grown} → Is d us ts x → x.height ≤ max_depth → OpenedOne Is (suc d) l n us ts x

-- no token that goes on with what may stand whole before it
abbrev pub is_calm : Sort → Bool
is_calm k.Else = false
is_calm k.Catch = false
is_calm k.Finally = false
is_calm k.Semicolon = false
is_calm _ = true

-- The tokens begin one: they and more are one before whatever does not go on with it.
pub record BeginsOne (Is : Relation) (us : List Lexeme) : Type 0 where
  pub depth : ℕ
  pub more : List Lexeme
  pub made : Grown
  pub is : (ts : List Lexeme) → is_calm (sort_at ts) ≡ true → Is depth (us ++ more) ts made

pub data StartOne (Is : Relation) (l n : ℕ) (us ts : List Lexeme) : Type 0 where
  start_one : BeginsOne Is us → StartOne Is l n us ts
