-- What tokens begin, and loops that add what each turn reads to what was read before it.
use Rattle.std.proofs.Common.{◌≡◌, ℕ, ◌<◌, List, [], ◌++◌, length, sym, ap, ◌∙◌, subst, append_assoc, append-nil, ◌⊎◌, inl, inr}
use Rattle.sr_syntax.specs.declared.sorts.Lexeme.{Lexeme}
use Rattle.sr_syntax.specs.declared.grown.Grown.{Grown}
use Rattle.sr_grammar.specs.Derivations.{Symbol, Derives}
use Rattle.sr_grammar.proofs.Steps.{Runs, stop, go, Breaks, break, later}
use Rattle.sr_grammar.specs.Faults.{Begins}
use Rattle.sr_grammar.proofs.Lists.{no_left, no_right, same_left, same_right}

-- ---- beginnings

-- The tokens begin what is wanted: they and more are that.
pub record Begun {A : Type 0} (D : ℕ → List Lexeme → A → Type 0) (us : List Lexeme) : Type 0 where
  pub depth : ℕ
  pub more : List Lexeme
  pub made : A
  pub has : D depth (us ++ more) made

-- behind other tokens, where the whole begins something else
pub carry : {A C : Type 0} {D : ℕ → List Lexeme → A → Type 0} {E : ℕ → List Lexeme → C → Type 0} (ws : List Lexeme)
    → ((e : ℕ) (vs : List Lexeme) (x : A) → D e vs x → Begun E (ws ++ vs)) → {us : List Lexeme} → Begun D us → Begun E (ws ++ us)
carry {A} {C} {D} {E} ws f {us} b =
    let c = f b.depth (us ++ b.more) b.made b.has in
    record {
      depth = c.depth;
      more = b.more ++ c.more;
      made = c.made;
      has = subst (λ zs. E c.depth zs c.made) (ap (λ zs. zs ++ c.more) (sym (append_assoc ws us b.more)) ∙ append_assoc (ws ++ us) b.more c.more) c.has;
    }

-- the same tokens
pub onward : {A C : Type 0} {D : ℕ → List Lexeme → A → Type 0} {E : ℕ → List Lexeme → C → Type 0}
    → ((e : ℕ) (vs : List Lexeme) (x : A) → D e vs x → Begun E vs) → {us : List Lexeme} → Begun D us → Begun E us
onward f b = carry [] f b

-- nothing more is wanted
pub begun_whole : {A : Type 0} {D : ℕ → List Lexeme → A → Type 0} (e : ℕ) (us : List Lexeme) (x : A) → D e us x → Begun D us
begun_whole {A} {D} e us x h = record { depth = e; more = []; made = x; has = subst (λ zs. D e zs x) (sym (append-nil us)) h }

-- with more tokens at the end
pub begun_more : {A : Type 0} {D : ℕ → List Lexeme → A → Type 0} (e : ℕ) (us vs more : List Lexeme) (x : A) → D e (us ++ (vs ++ more)) x → Begun D (us ++ vs)
begun_more {A} {D} e us vs more x h = record { depth = e; more = more; made = x; has = subst (λ zs. D e zs x) (sym (append_assoc us vs more)) h }

-- what was read is that, whatever follows
pub data Wholly {A : Type 0} (D : ℕ → List Lexeme → A → Type 0) (d l n : ℕ) (us ts : List Lexeme) (x : A) : Type 0 where
  wholly : D d us x → Wholly D d l n us ts x

-- and where it fails, that was begun
pub data Partly {A : Type 0} (D : ℕ → List Lexeme → A → Type 0) (l n : ℕ) (us ts : List Lexeme) : Type 0 where
  partly : Begun D us → Partly D l n us ts

abbrev pub Of : Symbol → ℕ → List Lexeme → Grown → Type 0
Of s e us x = Derives e s us x

pub begun_of : {s : Symbol} {us : List Lexeme} → Begins s us → Begun (Of s) us
begun_of b = record { depth = b.open_at_most; more = b.more; made = b.made; has = b.derives }

pub begins_of : {s : Symbol} {us : List Lexeme} → Begun (Of s) us → Begins s us
begins_of b = record { open_at_most = b.depth; more = b.more; made = b.made; derives = b.has }

-- ---- loops

-- A turn: what it reads is added to what was read before it, or ends the loop. What was read stands before what comes.
pub data Turned {X A : Type 0} (S : ℕ → List Lexeme → List Lexeme → X → Type 0) (D : ℕ → List Lexeme → List Lexeme → A → Type 0)
    (d : ℕ) (x : X) (l n : ℕ) (us ts : List Lexeme) (o : X ⊎ A) : Type 0 where
  onwards : (y : X) → ((vs : List Lexeme) → S d vs (us ++ ts) x → S d (vs ++ us) ts y) → 0 < length us → o ≡ inl y → Turned S D d x l n us ts o
  at_end : (a : A) → ((vs : List Lexeme) → S d vs (us ++ ts) x → D d (vs ++ us) ts a) → o ≡ inr a → Turned S D d x l n us ts o

-- A turn fails: what was read before it, and what it read, begin something.
pub data Broken {X C : Type 0} (S : ℕ → List Lexeme → List Lexeme → X → Type 0) (E : ℕ → List Lexeme → C → Type 0)
    (d : ℕ) (x : X) (l n : ℕ) (us ts : List Lexeme) : Type 0 where
  broken : ((vs : List Lexeme) → S d vs (us ++ ts) x → Begun E (vs ++ us)) → Broken S E d x l n us ts

pub turned_runs : {X A : Type 0} {S : ℕ → List Lexeme → List Lexeme → X → Type 0} {D : ℕ → List Lexeme → List Lexeme → A → Type 0}
    {d l n : ℕ} {us ts : List Lexeme} {x : X} {a : A}
    → Runs (Turned S D d) x l n us ts a → (vs : List Lexeme) → S d vs (us ++ ts) x → D d (vs ++ us) ts a
turned_runs (stop (onwards y f some is)) = λ vs s. absurd (no_left is)
turned_runs {X} {A} {S} {D} {d} (stop {us} {ts} (at_end b f is)) = λ vs s. subst (λ c. D d (vs ++ us) ts c) (sym (same_right is)) (f vs s)
turned_runs {X} {A} {S} {D} {d} (go {x} {y} {us} {vs = ws} {ts} {a} (onwards z f some is) rest) = λ vs s.
    subst (λ zs. D d zs ts a) (append_assoc vs us ws)
    (turned_runs rest (vs ++ us) (subst (λ y. S d (vs ++ us) (ws ++ ts) y) (sym (same_left is)) (f vs (subst (λ zs. S d vs zs x) (append_assoc us ws ts) s))))
turned_runs (go (at_end b f is) rest) = λ vs s. absurd (no_right is)

pub turned_breaks : {X A C : Type 0} {S : ℕ → List Lexeme → List Lexeme → X → Type 0} {D : ℕ → List Lexeme → List Lexeme → A → Type 0} {E : ℕ → List Lexeme → C → Type 0}
    {d l n : ℕ} {us ts : List Lexeme} {x : X}
    → Breaks (Turned S D d) (Broken S E d) x l n us ts → (vs : List Lexeme) → S d vs (us ++ ts) x → Begun E (vs ++ us)
turned_breaks (break (broken f)) = λ vs s. f vs s
turned_breaks {X} {A} {C} {S} {D} {E} {d} (later {x} {y} {us} {vs = ws} {ts} (onwards z f some is) rest) = λ vs s.
    subst (λ zs. Begun E zs) (append_assoc vs us ws)
    (turned_breaks rest (vs ++ us) (subst (λ y. S d (vs ++ us) (ws ++ ts) y) (sym (same_left is)) (f vs (subst (λ zs. S d vs zs x) (append_assoc us ws ts) s))))
turned_breaks (later (at_end b f is) rest) = λ vs s. absurd (no_right is)

pub turned_grows : {X A : Type 0} {S : ℕ → List Lexeme → List Lexeme → X → Type 0} {D : ℕ → List Lexeme → List Lexeme → A → Type 0} {d : ℕ}
    → (x y : X) (l n : ℕ) (us ts : List Lexeme) → Turned S D d x l n us ts (inl y) → 0 < length us
turned_grows x y l n us ts (onwards z f some is) = some
turned_grows x y l n us ts (at_end b f is) = absurd (no_right is)
