-- What holds between the grammar and the parser.
use Rattle.std.specs.Prelude.{◌≡◌, ℕ, suc, Bool, true, ◌≤◌, ◌<◌, List, [], ◌∷◌, ◌++◌, Ok, Err}
use Rattle.sr_ast.specs.declared.tree.Tree.{Tree}
use Rattle.sr_syntax.specs.declared.sorts.Lexeme.{Lexeme}
use Rattle.sr_syntax.specs.declared.grown.Grown.{Grown}
use Rattle.sr_syntax.specs.declared.grown.Goal.TheVariants as goal
use Rattle.sr_syntax.specs.declared.refusal.Refusal.TheVariants.{Syntax, TooDeep}
use Rattle.sr_syntax.specs.Input.{Input, Parser, start, place_at, max_depth}
use Rattle.sr_syntax.specs.Expressions.{expression}
use Rattle.sr_syntax.specs.Statements.{item}
use Rattle.sr_syntax.specs.Modules.{module_item}
use Rattle.sr_syntax.specs.Grammar.{tree, script_of, module_of}
use Rattle.sr_grammar.specs.Reading.{end_after}
use Rattle.sr_grammar.specs.Derivations.{Derives, Expression}
use Rattle.sr_grammar.specs.Continuing.{EndsExpression}
use Rattle.sr_grammar.specs.Stopping.{Stops}
use Rattle.sr_grammar.specs.Scripts.{Script, Module}
use Rattle.sr_grammar.specs.Faults.{Begins}

-- In the laws of expressions the flag says whether `in` is an operator.

-- What is read derives, with as many rules that may be open at once, and is not deeper than the greatest depth.
abbrev pub Sound : Type 0
Sound = (b : Bool) (d size : ℕ) (ts : List Lexeme) (x : Grown) (i : Input) → expression (tree d) b (start ts size) ≡ Ok (x, i)
    → (us : List Lexeme) × (ts ≡ us ++ i.rest) × Derives d (Expression b) us x × (x.height ≤ max_depth)

-- what is left behind these tokens
abbrev pub behind : List Lexeme → List Lexeme → ℕ → Input
behind us rest size = record { rest = rest; last = end_after 0 us; size = size }

-- What derives and is not deeper than the greatest depth is read, with that tree, before what does not continue it.
abbrev pub Complete : Type 0
Complete = (b : Bool) (d size : ℕ) (us rest : List Lexeme) (x : Grown) → Derives d (Expression b) us x → EndsExpression b rest → x.height ≤ max_depth
    → expression (tree d) b (start (us ++ rest) size) ≡ Ok (x, behind us rest size)

-- What derives and is deeper than the greatest depth is too deep, before what does not continue it.
abbrev pub TooTall : Type 0
TooTall = (b : Bool) (d size : ℕ) (us rest : List Lexeme) (x : Grown) → Derives d (Expression b) us x → EndsExpression b rest → max_depth < x.height
    → expression (tree d) b (start (us ++ rest) size) ≡ Err TooDeep

-- Tokens have one tree at the most, if one that is not deeper than the greatest depth.
abbrev pub Unique : Type 0
Unique = (b : Bool) (d e : ℕ) (us : List Lexeme) (x y : Grown) → Derives d (Expression b) us x → x.height ≤ max_depth → Derives e (Expression b) us y → x ≡ y

-- No expression begins with these tokens and the first of the others, or, where there are no others, is these tokens alone.
abbrev pub Ended : Bool → List Lexeme → List Lexeme → Type 0
Ended b us [] = (e : ℕ) (x : Grown) → Derives e (Expression b) us x → ⊥
Ended b us (t ∷ ts) = (e : ℕ) (vs : List Lexeme) (x : Grown) → Derives e (Expression b) (us ++ t ∷ vs) x → ⊥

-- Where reading fails, the tokens before the place begin an expression; and those up to the token at the place, or to the end,
-- begin none, however much it may have open and however deep it is.
abbrev pub FirstFault : Type 0
FirstFault = (b : Bool) (d size place : ℕ) (ts : List Lexeme) → expression (tree d) b (start ts size) ≡ Err (Syntax place)
    → (us rest : List Lexeme) × (ts ≡ us ++ rest) × (place ≡ place_at size rest) × Begins (Expression b) us × Ended b us rest

-- Where more rules may be open, what was read is read again, and what failed fails at the same place: only what was too deep
-- can have another answer.
abbrev pub MoreOpen : Type 0
MoreOpen = (b : Bool) (d e size : ℕ) (ts : List Lexeme) → d ≤ e
    → ((x : Grown) (i : Input) → expression (tree d) b (start ts size) ≡ Ok (x, i) → expression (tree e) b (start ts size) ≡ Ok (x, i))
    × ((place : ℕ) → expression (tree d) b (start ts size) ≡ Err (Syntax place) → expression (tree e) b (start ts size) ≡ Err (Syntax place))

-- Tokens that are an expression where more rules may be open, no deeper than the greatest depth, and are none where so many may be, are too deep.
abbrev pub OpensTooMany : Type 0
OpensTooMany = (b : Bool) (d e size : ℕ) (us rest : List Lexeme) (x : Grown) → Derives e (Expression b) us x → EndsExpression b rest → x.height ≤ max_depth
    → (Derives d (Expression b) us x → ⊥) → expression (tree d) b (start (us ++ rest) size) ≡ Err TooDeep

-- What is read goes as far as an expression can in which `in` is an operator.
abbrev pub Longest : Type 0
Longest = (d size : ℕ) (ts : List Lexeme) (x : Grown) (i : Input) → expression (tree d) true (start ts size) ≡ Ok (x, i)
    → (us : List Lexeme) × (ts ≡ us ++ i.rest) × Derives d (Expression true) us x × Stops us i.rest

-- ---- statements, items, and items of modules: each rule with its relation

-- a rule, where so many more may be open at once
abbrev pub Rule : Type 0
Rule = ℕ → Parser Grown

-- a statement, which is open itself
abbrev pub a_statement : Rule
a_statement d = tree (suc d) goal.Statement

-- a statement, which counts among those that may be open
abbrev pub a_nested_statement : Rule
a_nested_statement d = tree d goal.Statement

-- an item, which is not open itself, or only as a statement
abbrev pub an_item : Rule
an_item d = item (tree d)

-- an item of a module, in the same way
abbrev pub a_module_item : Rule
a_module_item d = module_item (tree d)

-- a relation between tokens, those that follow, and a tree, where so many more rules may be open at once
abbrev pub Relation : Type 1
Relation = ℕ → List Lexeme → List Lexeme → Grown → Type 0

-- What is read is one before what follows, and is not deeper than the greatest depth.
abbrev pub SoundAs : Rule → Relation → Type 0
SoundAs rule Is = (d size : ℕ) (ts : List Lexeme) (x : Grown) (i : Input) → rule d (start ts size) ≡ Ok (x, i)
    → (us : List Lexeme) × (ts ≡ us ++ i.rest) × Is d us i.rest x × (x.height ≤ max_depth)

-- What is one before what follows and is not deeper than the greatest depth is read, with that tree.
abbrev pub CompleteAs : Rule → Relation → Type 0
CompleteAs rule Is = (d size : ℕ) (us rest : List Lexeme) (x : Grown) → Is d us rest x → x.height ≤ max_depth
    → rule d (start (us ++ rest) size) ≡ Ok (x, behind us rest size)

-- What is one before what follows and is deeper than the greatest depth is too deep.
abbrev pub TooTallAs : Rule → Relation → Type 0
TooTallAs rule Is = (d size : ℕ) (us rest : List Lexeme) (x : Grown) → Is d us rest x → max_depth < x.height
    → rule d (start (us ++ rest) size) ≡ Err TooDeep

-- Tokens have one tree at the most before what follows, if one that is not deeper than the greatest depth.
abbrev pub UniqueAs : Relation → Type 0
UniqueAs Is = (d e : ℕ) (us rest : List Lexeme) (x y : Grown) → Is d us rest x → x.height ≤ max_depth → Is e us rest y → x ≡ y

-- Where more rules may be open, what was read is read again, and what failed fails at the same place.
abbrev pub MoreOpenAs : Rule → Type 0
MoreOpenAs rule = (d e size : ℕ) (ts : List Lexeme) → d ≤ e
    → ((x : Grown) (i : Input) → rule d (start ts size) ≡ Ok (x, i) → rule e (start ts size) ≡ Ok (x, i))
    × ((place : ℕ) → rule d (start ts size) ≡ Err (Syntax place) → rule e (start ts size) ≡ Err (Syntax place))

-- The tokens begin one: they and more are one before some that follow.
abbrev pub BeginsAs : Relation → List Lexeme → Type 0
BeginsAs Is us = (d : ℕ) × (more : List Lexeme) × (rest : List Lexeme) × (x : Grown) × Is d (us ++ more) rest x

-- None begins with these tokens and the first of the others, whatever follows, or, where there are no others, is these tokens alone at the end.
abbrev pub EndedAs : Relation → List Lexeme → List Lexeme → Type 0
EndedAs Is us [] = (e : ℕ) (x : Grown) → Is e us [] x → ⊥
EndedAs Is us (t ∷ ts) = (e : ℕ) (vs rest : List Lexeme) (x : Grown) → Is e (us ++ t ∷ vs) rest x → ⊥

-- Where reading fails, the tokens before the place begin one; and those up to the token at the place, or to the end, begin
-- none, however much it may have open and however deep it is.
abbrev pub FirstFaultAs : Rule → Relation → Type 0
FirstFaultAs rule Is = (d size place : ℕ) (ts : List Lexeme) → rule d (start ts size) ≡ Err (Syntax place)
    → (us rest : List Lexeme) × (ts ≡ us ++ rest) × (place ≡ place_at size rest) × BeginsAs Is us × EndedAs Is us rest

-- ---- whole texts

-- What is read as a script is one.
abbrev pub SoundScript : Type 0
SoundScript = (tokens : List Lexeme) (size : ℕ) (xs : List Tree) → script_of tokens size ≡ Ok xs → Script tokens xs

-- What is read as a module is one.
abbrev pub SoundModule : Type 0
SoundModule = (tokens : List Lexeme) (size : ℕ) (xs : List Tree) → module_of tokens size ≡ Ok xs → Module tokens xs

-- A script is read, with its trees.
abbrev pub CompleteScript : Type 0
CompleteScript = (tokens : List Lexeme) (size : ℕ) (xs : List Tree) → Script tokens xs → script_of tokens size ≡ Ok xs

-- A module is read, with its trees.
abbrev pub CompleteModule : Type 0
CompleteModule = (tokens : List Lexeme) (size : ℕ) (xs : List Tree) → Module tokens xs → module_of tokens size ≡ Ok xs
