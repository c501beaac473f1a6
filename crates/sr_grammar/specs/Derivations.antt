-- The grammar of expressions, functions and statements (ECMA-262 13 to 15), as a relation between tokens and trees.
use Rattle.std.specs.Prelude.{◌≡◌, ℕ, zero, suc, ◌+◌, max, Bool, true, false, List, [], ◌∷◌, ◌++◌, Option, Some, None, codes}
use Rattle.sr_ast.specs.declared.operators.AssignOp.{AssignOp}
use Rattle.sr_ast.specs.declared.operators.UnaryOp.{UnaryOp}
use Rattle.sr_ast.specs.declared.operators.UpdateOp.{UpdateOp}
use Rattle.sr_ast.specs.declared.operators.Link.TheVariants.{Optional}
use Rattle.sr_ast.specs.declared.binding.Binding.{Binding}
use Rattle.sr_ast.specs.declared.binding.Parameters.{Parameters}
use Rattle.sr_ast.specs.declared.binding.HeadKind.{HeadKind}
use Rattle.sr_ast.specs.declared.binding.PropertyName.{PropertyName}
use Rattle.sr_ast.specs.declared.binding.PropertyName.TheVariants as property_name
use Rattle.sr_ast.specs.declared.tree.Tree.{roll-Tree}
use Rattle.sr_ast.specs.declared.tree.Node.{Node}
use Rattle.sr_ast.specs.declared.tree.Node.TheVariants as n
use Rattle.sr_ast.specs.declared.tree.Property.{Property}
use Rattle.sr_ast.specs.declared.tree.Property.TheVariants as property
use Rattle.sr_ast.specs.declared.tree.Declaration.{Declaration, roll-Declaration}
use Rattle.sr_syntax.specs.declared.sorts.Sort.{Sort}
use Rattle.sr_syntax.specs.declared.sorts.Sort.TheVariants as k
use Rattle.sr_syntax.specs.declared.sorts.Lexeme.{Lexeme}
use Rattle.sr_syntax.specs.declared.grown.Grown.{Grown}
use Rattle.sr_syntax.specs.declared.grown.Grove.{Grove}
use Rattle.sr_syntax.specs.declared.grown.Elements.{Elements}
use Rattle.sr_syntax.specs.declared.grown.Pieces.{Pieces}
use Rattle.sr_syntax.specs.declared.grown.Properties.{Properties}
use Rattle.sr_syntax.specs.declared.grown.Cases.{Cases}
use Rattle.sr_syntax.specs.declared.grown.Part.{Part}
use Rattle.sr_syntax.specs.Sorts.{same_sort}
use Rattle.sr_syntax.specs.Input.{text_of, number_of, is_word, place_at, sort_at, line_at}
use Rattle.sr_syntax.specs.Operators.{prefix, update_before, update_after, assignment, row, admits, bit_or_row, or_row, joined_node, from_of, is_target, gives_name, is_bare_new, link_in, tallest, none, with, no_elements, with_value, with_spread, with_hole, one_piece, with_piece, nothing, part_of, statement_node}
use Rattle.sr_syntax.specs.Objects.{is_proto, no_properties, with_property}
use Rattle.sr_syntax.specs.Expressions.{expression}
use Rattle.sr_syntax.specs.Declarations.{declaring, declarations}
use Rattle.sr_syntax.specs.Statements.{no_cases, with_case, with_default}
use Rattle.sr_syntax.specs.Grammar.{tree}
use Rattle.sr_grammar.specs.Reading.{end_after, EndsThere}
use Rattle.sr_grammar.specs.Names.{binding_of, is_text, is_arrow, is_label, declaring_word, lexical_word, Params, ArrowHead, key_of, CatchParameter}

-- What expressions are made of, the loosest first: a flag says whether `in` is an operator outside of brackets, that of a Chain
-- whether it is an optional one, and a number tells the rows of operators apart.
pub data Symbol : Type 0 where
  Expression : Bool → Symbol
  Assign : Bool → Symbol
  Cond : Bool → Symbol
  Short : Bool → Symbol
  Coalesce : Bool → Symbol
  CoalesceHead : Bool → Symbol
  Row : Bool → ℕ → Symbol
  Power : Symbol
  Unary : Symbol
  Update : Symbol
  Left : Symbol
  Chain : Bool → Symbol
  New : Symbol
  Constructor : Symbol
  Member : Symbol
  Primary : Symbol

-- the place of the first of these tokens
abbrev pub start_of : List Lexeme → ℕ
start_of us = place_at 0 us

-- The tree of these tokens, from a place on, above parts of this depth: its own depth is one more.
abbrev pub whole : Node → ℕ → List Lexeme → ℕ → Grown
whole node from us tall = record { tree = roll-Tree (record { node = node; from = from; to = end_after 0 us; number = 0 }); height = tall + 1 }

-- the tree of these tokens, where an operator stands between two operands
abbrev pub joining : Lexeme → Grown → Grown → List Lexeme → Grown
joining t x y us = whole (joined_node t.sort x.tree y.tree) (from_of x) us (max x.height y.height)

-- whether no expression that is a statement begins with this token: `{` or `function` (14.5)
abbrev pub begins_statement : Sort → Bool
begins_statement k.LeftBrace = true
begins_statement k.Function = true
begins_statement _ = false

-- A semicolon, or none where one is inserted: before `}`, and, where what stands before it ends there, before a token on a new
-- line and at the end (12.10).
pub data Semicolon (ends : Type 0) : List Lexeme → List Lexeme → Type 0 where
  written : {ts : List Lexeme} (t : Lexeme) → t.sort ≡ k.Semicolon → Semicolon ends (t ∷ []) ts
  before_brace : {ts : List Lexeme} → sort_at ts ≡ k.RightBrace → Semicolon ends [] ts
  before_line : {ts : List Lexeme} → line_at ts ≡ true → same_sort (sort_at ts) k.Semicolon ≡ false → ends → Semicolon ends [] ts

-- the declaration of the name that a token is, with its value where there is one (14.3)
abbrev pub declared : Lexeme → Option Grown → Declaration
declared t None = roll-Declaration (record { name = text_of t.content; from = t.from; value = None })
declared t (Some x) = roll-Declaration (record { name = text_of t.content; from = t.from; value = Some x.tree })

-- the depth of a value, or 0 where there is none
abbrev pub value_height : Option Grown → ℕ
value_height None = 0
value_height (Some x) = x.height

mutual
  -- The tokens are a symbol, and make the tree, where so many more rules may be open at once: while an Assign, a Power,
  -- a Unary or a New is read it is open.
  pub data Derives : ℕ → Symbol → List Lexeme → Grown → Type 0 where
    -- Expression = Assign ("," Assign)* (13.16)
    single : {d : ℕ} {b : Bool} {us : List Lexeme} {x : Grown} → Derives d (Assign b) us x → Derives (suc d) (Expression b) us x
    sequence : {d from : ℕ} {b : Bool} {us vs : List Lexeme} {xs : Grove} {x : Grown}
        → Lists b (suc d) us from xs → (t : Lexeme) → t.sort ≡ k.Comma → Derives d (Assign b) vs x
        → Derives (suc d) (Expression b) (us ++ t ∷ vs) (whole (n.Sequence (with xs x).trees) from (us ++ t ∷ vs) (with xs x).tall)
    -- Assign = Cond | Target operator Assign | Arrow, where a target may stand in parentheses (13.15)
    unassigned : {d : ℕ} {b : Bool} {us : List Lexeme} {x : Grown} → Derives d (Cond b) us x → is_arrow us ≡ false → Derives d (Assign b) us x
    assigned : {d : ℕ} {b : Bool} {us vs : List Lexeme} {x y : Grown} {op : AssignOp}
        → Derives (suc d) (Cond b) us x → is_arrow us ≡ false → is_target x ≡ true → (t : Lexeme) → assignment t.sort ≡ Some op → Derives d (Assign b) vs y
        → Derives (suc d) (Assign b) (us ++ t ∷ vs)
        (whole (n.Assign op x.tree y.tree (gives_name (start_of us) x)) (from_of x) (us ++ t ∷ vs) (max x.height y.height))
    -- Arrow = (Name | "(" Params ")") "=>" (Body | Assign), with no line end before "=>" (15.3)
    arrow : {d : ℕ} {b : Bool} {us vs : List Lexeme} {ps : Parameters} {xs : Grove}
        → ArrowHead us ps → (t : Lexeme) → t.sort ≡ k.Arrow → t.line_before ≡ false → Body d vs xs
        → Derives d (Assign b) (us ++ t ∷ vs) (whole (n.Arrow ps xs.trees) (start_of us) (us ++ t ∷ vs) xs.tall)
    expression_arrow : {d : ℕ} {b : Bool} {us vs : List Lexeme} {ps : Parameters} {x : Grown}
        → ArrowHead us ps → (t : Lexeme) → t.sort ≡ k.Arrow → t.line_before ≡ false → same_sort (sort_at vs) k.LeftBrace ≡ false → Derives d (Assign b) vs x
        → Derives (suc d) (Assign b) (us ++ t ∷ vs) (whole (n.ExpressionArrow ps x.tree) (start_of us) (us ++ t ∷ vs) x.height)
    -- Cond = Short ["?" Assign ":" Assign]; the Assign between `?` and `:` has `in` (13.14)
    unchosen : {d : ℕ} {b : Bool} {us : List Lexeme} {x : Grown} → Derives d (Short b) us x → Derives d (Cond b) us x
    chosen : {d : ℕ} {b : Bool} {us vs ws : List Lexeme} {x y z : Grown}
        → Derives (suc d) (Short b) us x → (t : Lexeme) → t.sort ≡ k.Question → Derives d (Assign true) vs y
        → (u : Lexeme) → u.sort ≡ k.Colon → Derives d (Assign b) ws z
        → Derives (suc d) (Cond b) (us ++ t ∷ (vs ++ u ∷ ws))
        (whole (n.Cond x.tree y.tree z.tree) (from_of x) (us ++ t ∷ (vs ++ u ∷ ws)) (tallest x.height y.height z.height))
    -- Short = Row of `||` | Coalesce: `??` stands beside no `||` or `&&` without parentheses (13.13)
    logical : {d : ℕ} {b : Bool} {us : List Lexeme} {x : Grown} → Derives d (Row b or_row) us x → Derives d (Short b) us x
    coalesced : {d : ℕ} {b : Bool} {us : List Lexeme} {x : Grown} → Derives d (Coalesce b) us x → Derives d (Short b) us x
    -- Coalesce = CoalesceHead "??" Row of `|`; CoalesceHead = Coalesce | Row of `|`
    coalesce : {d : ℕ} {b : Bool} {us vs : List Lexeme} {x y : Grown}
        → Derives d (CoalesceHead b) us x → (t : Lexeme) → t.sort ≡ k.Coalesce → Derives d (Row b bit_or_row) vs y
        → Derives d (Coalesce b) (us ++ t ∷ vs) (joining t x y (us ++ t ∷ vs))
    head_more : {d : ℕ} {b : Bool} {us : List Lexeme} {x : Grown} → Derives d (Coalesce b) us x → Derives d (CoalesceHead b) us x
    head_first : {d : ℕ} {b : Bool} {us : List Lexeme} {x : Grown} → Derives d (Row b bit_or_row) us x → Derives d (CoalesceHead b) us x
    -- A row = the row below it, or an operator of the row between a row on its left and the row below on its right; below
    -- all rows stands a Power (13.6 to 13.13).
    operand : {d : ℕ} {b : Bool} {us : List Lexeme} {x : Grown} → Derives d Power us x → Derives (suc d) (Row b zero) us x
    tighter : {d level : ℕ} {b : Bool} {us : List Lexeme} {x : Grown} → Derives d (Row b level) us x → Derives d (Row b (suc level)) us x
    binary : {d level : ℕ} {b : Bool} {us vs : List Lexeme} {x y : Grown}
        → Derives d (Row b (suc level)) us x → (t : Lexeme) → row t.sort ≡ suc level → admits b t.sort ≡ true → Derives d (Row b level) vs y
        → Derives d (Row b (suc level)) (us ++ t ∷ vs) (joining t x y (us ++ t ∷ vs))
    -- Power = Unary | Update "**" Power (13.6)
    unraised : {d : ℕ} {us : List Lexeme} {x : Grown} → Derives d Unary us x → Derives (suc d) Power us x
    raised : {d : ℕ} {us vs : List Lexeme} {x y : Grown}
        → Derives d Update us x → (t : Lexeme) → t.sort ≡ k.Power → Derives d Power vs y
        → Derives (suc d) Power (us ++ t ∷ vs) (joining t x y (us ++ t ∷ vs))
    -- Unary = operator Unary | Update (13.5)
    unary : {d : ℕ} {us : List Lexeme} {t : Lexeme} {x : Grown} {op : UnaryOp}
        → prefix t.sort ≡ Some op → Derives d Unary us x
        → Derives (suc d) Unary (t ∷ us) (whole (n.Unary op x.tree) t.from (t ∷ us) x.height)
    no_operator : {d : ℕ} {us : List Lexeme} {x : Grown} → Derives d Update us x → Derives d Unary us x
    -- Update = ("++" | "--") Target | Target ("++" | "--") | Left, with no line end before an operator that follows (13.4)
    before : {d : ℕ} {us : List Lexeme} {t : Lexeme} {x : Grown} {op : UpdateOp}
        → update_before t.sort ≡ Some op → Derives d Left us x → is_target x ≡ true
        → Derives d Update (t ∷ us) (whole (n.Update op x.tree) t.from (t ∷ us) x.height)
    after : {d : ℕ} {us : List Lexeme} {x : Grown} {op : UpdateOp}
        → Derives d Left us x → is_target x ≡ true → (t : Lexeme) → update_after t.sort ≡ Some op → t.line_before ≡ false
        → Derives d Update (us ++ t ∷ []) (whole (n.Update op x.tree) (from_of x) (us ++ t ∷ []) x.height)
    no_step : {d : ℕ} {us : List Lexeme} {x : Grown} → Derives d Left us x → Derives d Update us x
    -- Left = a New without Arguments, which no part follows | Chain (13.3)
    bare : {d : ℕ} {us : List Lexeme} {x : Grown} → Derives d New us x → is_bare_new x ≡ true → Derives (suc d) Left us x
    chain : {d : ℕ} {c : Bool} {us : List Lexeme} {x : Grown} → Derives d (Chain c) us x → Derives d Left us x
    -- Chain = Primary | a New with Arguments | Chain part, where a part is "." name, "[" Expression "]" or Arguments, or "?." before
    -- a name, "[" Expression "]" or Arguments, which makes the chain an optional one (13.3.2, 13.3.6, 13.3.9)
    one_primary : {d : ℕ} {us : List Lexeme} {x : Grown} → Derives d Primary us x → Derives d (Chain false) us x
    one_new : {d : ℕ} {us : List Lexeme} {x : Grown} → Derives d New us x → is_bare_new x ≡ false → Derives (suc d) (Chain false) us x
    named : {d : ℕ} {c : Bool} {us : List Lexeme} {x : Grown}
        → Derives d (Chain c) us x → (t : Lexeme) → t.sort ≡ k.Dot → (u : Lexeme) → is_word u.sort ≡ true
        → Derives d (Chain c) (us ++ t ∷ u ∷ []) (whole (n.Member (link_in c) x.tree (text_of u.content)) (from_of x) (us ++ t ∷ u ∷ []) x.height)
    indexed : {d : ℕ} {c : Bool} {us vs : List Lexeme} {x y : Grown}
        → Derives d (Chain c) us x → (t : Lexeme) → t.sort ≡ k.LeftBracket → Derives d (Expression true) vs y → (u : Lexeme) → u.sort ≡ k.RightBracket
        → Derives d (Chain c) (us ++ t ∷ (vs ++ u ∷ [])) (whole (n.Index (link_in c) x.tree y.tree) (from_of x) (us ++ t ∷ (vs ++ u ∷ [])) (max x.height y.height))
    called : {d : ℕ} {c : Bool} {us vs : List Lexeme} {x : Grown} {xs : Elements}
        → Derives d (Chain c) us x → (t : Lexeme) → t.sort ≡ k.LeftParenthesis → Arguments d vs xs
        → Derives d (Chain c) (us ++ t ∷ vs) (whole (n.Call (link_in c) x.tree xs.items) (from_of x) (us ++ t ∷ vs) (max x.height xs.tall))
    optional_named : {d : ℕ} {c : Bool} {us : List Lexeme} {x : Grown}
        → Derives d (Chain c) us x → (t : Lexeme) → t.sort ≡ k.QuestionDot → (u : Lexeme) → is_word u.sort ≡ true
        → Derives d (Chain true) (us ++ t ∷ u ∷ []) (whole (n.Member Optional x.tree (text_of u.content)) (from_of x) (us ++ t ∷ u ∷ []) x.height)
    optional_indexed : {d : ℕ} {c : Bool} {us vs : List Lexeme} {x y : Grown}
        → Derives d (Chain c) us x → (t : Lexeme) → t.sort ≡ k.QuestionDot → (w : Lexeme) → w.sort ≡ k.LeftBracket
        → Derives d (Expression true) vs y → (u : Lexeme) → u.sort ≡ k.RightBracket
        → Derives d (Chain true) (us ++ t ∷ w ∷ (vs ++ u ∷ []))
        (whole (n.Index Optional x.tree y.tree) (from_of x) (us ++ t ∷ w ∷ (vs ++ u ∷ [])) (max x.height y.height))
    optional_called : {d : ℕ} {c : Bool} {us vs : List Lexeme} {x : Grown} {xs : Elements}
        → Derives d (Chain c) us x → (t : Lexeme) → t.sort ≡ k.QuestionDot → (w : Lexeme) → w.sort ≡ k.LeftParenthesis → Arguments d vs xs
        → Derives d (Chain true) (us ++ t ∷ w ∷ vs) (whole (n.Call Optional x.tree xs.items) (from_of x) (us ++ t ∷ w ∷ vs) (max x.height xs.tall))
    -- New = "new" Member Arguments | "new" Constructor: Arguments behind a Member belong to the innermost New (13.3.5)
    new_called : {d : ℕ} {us vs : List Lexeme} {t : Lexeme} {x : Grown} {xs : Elements}
        → t.sort ≡ k.New → Derives d Member us x → (u : Lexeme) → u.sort ≡ k.LeftParenthesis → Arguments d vs xs
        → Derives d New (t ∷ (us ++ u ∷ vs)) (whole (n.New x.tree (Some xs.items)) t.from (t ∷ (us ++ u ∷ vs)) (max x.height xs.tall))
    new_bare : {d : ℕ} {us : List Lexeme} {t : Lexeme} {x : Grown}
        → t.sort ≡ k.New → Derives d Constructor us x → Derives d New (t ∷ us) (whole (n.New x.tree None) t.from (t ∷ us) x.height)
    -- Constructor = Member | a New without Arguments
    of_member : {d : ℕ} {us : List Lexeme} {x : Grown} → Derives d Member us x → Derives d Constructor us x
    of_bare : {d : ℕ} {us : List Lexeme} {x : Grown} → Derives d New us x → is_bare_new x ≡ true → Derives (suc d) Constructor us x
    -- Member = Primary | a New with Arguments | Member "." name | Member "[" Expression "]"
    member_primary : {d : ℕ} {us : List Lexeme} {x : Grown} → Derives d Primary us x → Derives d Member us x
    member_new : {d : ℕ} {us : List Lexeme} {x : Grown} → Derives d New us x → is_bare_new x ≡ false → Derives (suc d) Member us x
    member_named : {d : ℕ} {us : List Lexeme} {x : Grown}
        → Derives d Member us x → (t : Lexeme) → t.sort ≡ k.Dot → (u : Lexeme) → is_word u.sort ≡ true
        → Derives d Member (us ++ t ∷ u ∷ []) (whole (n.Member (link_in false) x.tree (text_of u.content)) (from_of x) (us ++ t ∷ u ∷ []) x.height)
    member_indexed : {d : ℕ} {us vs : List Lexeme} {x y : Grown}
        → Derives d Member us x → (t : Lexeme) → t.sort ≡ k.LeftBracket → Derives d (Expression true) vs y → (u : Lexeme) → u.sort ≡ k.RightBracket
        → Derives d Member (us ++ t ∷ (vs ++ u ∷ [])) (whole (n.Index (link_in false) x.tree y.tree) (from_of x) (us ++ t ∷ (vs ++ u ∷ [])) (max x.height y.height))
    -- Primary = "this" | Name | literal | Template | Array | Object | Function | "(" Expression ")": parentheses make no tree (13.2)
    this : {d : ℕ} {t : Lexeme} → t.sort ≡ k.This → Derives d Primary (t ∷ []) (whole n.This t.from (t ∷ []) 0)
    name : {d : ℕ} {t : Lexeme} → t.sort ≡ k.Identifier → Derives d Primary (t ∷ []) (whole (n.Name (text_of t.content)) t.from (t ∷ []) 0)
    null : {d : ℕ} {t : Lexeme} → t.sort ≡ k.Null → Derives d Primary (t ∷ []) (whole n.Null t.from (t ∷ []) 0)
    true_literal : {d : ℕ} {t : Lexeme} → t.sort ≡ k.True → Derives d Primary (t ∷ []) (whole (n.Bool true) t.from (t ∷ []) 0)
    false_literal : {d : ℕ} {t : Lexeme} → t.sort ≡ k.False → Derives d Primary (t ∷ []) (whole (n.Bool false) t.from (t ∷ []) 0)
    number : {d : ℕ} {t : Lexeme} → t.sort ≡ k.Number → Derives d Primary (t ∷ []) (whole (n.Num (number_of t.content)) t.from (t ∷ []) 0)
    text : {d : ℕ} {t : Lexeme} → t.sort ≡ k.Text → Derives d Primary (t ∷ []) (whole (n.Text (text_of t.content)) t.from (t ∷ []) 0)
    plain_template : {d : ℕ} {t : Lexeme} → t.sort ≡ k.TemplateWhole
        → Derives d Primary (t ∷ []) (whole (n.Template (one_piece (text_of t.content)).texts (one_piece (text_of t.content)).trees) t.from (t ∷ []) 0)
    template : {d : ℕ} {us vs : List Lexeme} {t : Lexeme} {all : Pieces} {x : Grown} → t.sort ≡ k.TemplateHead
        → Substitutions d (text_of t.content) us all → Derives d (Expression true) vs x → (u : Lexeme) → u.sort ≡ k.TemplateTail
        → Derives d Primary (t ∷ (us ++ (vs ++ u ∷ [])))
        (whole (n.Template (with_piece all x (text_of u.content)).texts (with_piece all x (text_of u.content)).trees) t.from (t ∷ (us ++ (vs ++ u ∷ []))) (with_piece all x (text_of u.content)).tall)
    array : {d : ℕ} {us : List Lexeme} {t : Lexeme} {xs : Elements} → t.sort ≡ k.LeftBracket → Array d us xs
        → Derives d Primary (t ∷ us) (whole (n.Array xs.items) t.from (t ∷ us) xs.tall)
    object : {d : ℕ} {us : List Lexeme} {t : Lexeme} {all : Properties} → t.sort ≡ k.LeftBrace → Object d us all
        → Derives d Primary (t ∷ us) (whole (n.Object all.items) t.from (t ∷ us) all.tall)
    function_alone : {d : ℕ} {us : List Lexeme} {t : Lexeme} {ps : Parameters} {xs : Grove} → t.sort ≡ k.Function → Function d us ps xs
        → Derives d Primary (t ∷ us) (whole (n.Function None ps xs.trees) t.from (t ∷ us) xs.tall)
    function_named : {d : ℕ} {us : List Lexeme} {t u : Lexeme} {ps : Parameters} {xs : Grove} → t.sort ≡ k.Function → u.sort ≡ k.Identifier → Function d us ps xs
        → Derives d Primary (t ∷ u ∷ us) (whole (n.Function (Some (binding_of u)) ps xs.trees) t.from (t ∷ u ∷ us) xs.tall)
    parenthesized : {d : ℕ} {us : List Lexeme} {t : Lexeme} {x : Grown}
        → t.sort ≡ k.LeftParenthesis → Derives d (Expression true) us x → (u : Lexeme) → u.sort ≡ k.RightParenthesis
        → Derives d Primary (t ∷ (us ++ u ∷ [])) x

  -- The tokens are Assigns with commas between, the first from a place on, and make these trees.
  pub data Lists : Bool → ℕ → List Lexeme → ℕ → Grove → Type 0 where
    one : {d : ℕ} {b : Bool} {us : List Lexeme} {x : Grown} → Derives d (Assign b) us x → Lists b (suc d) us (from_of x) (with none x)
    one_more : {d from : ℕ} {b : Bool} {us vs : List Lexeme} {xs : Grove} {x : Grown}
        → Lists b (suc d) us from xs → (t : Lexeme) → t.sort ≡ k.Comma → Derives d (Assign b) vs x → Lists b (suc d) (us ++ t ∷ vs) from (with xs x)

  -- The tokens are one element, ["..."] Assign, which is added to some.
  pub data Adds : ℕ → List Lexeme → Elements → Elements → Type 0 where
    value : {d : ℕ} {us : List Lexeme} {xs : Elements} {x : Grown} → Derives d (Assign true) us x → Adds (suc d) us xs (with_value xs x)
    spread : {d : ℕ} {us : List Lexeme} {xs : Elements} {x : Grown} → (t : Lexeme) → t.sort ≡ k.Ellipsis → Derives d (Assign true) us x
        → Adds (suc d) (t ∷ us) xs (with_spread xs x)

  -- The tokens are elements, each with a comma behind it, and, where there may be holes, as in an Array, commas alone.
  pub data Commas : Bool → ℕ → List Lexeme → Elements → Type 0 where
    no_elements_yet : {d : ℕ} {holes : Bool} → Commas holes d [] no_elements
    one_element : {d : ℕ} {holes : Bool} {us vs : List Lexeme} {xs ys : Elements}
        → Commas holes d us xs → Adds d vs xs ys → (t : Lexeme) → t.sort ≡ k.Comma → Commas holes d (us ++ (vs ++ t ∷ [])) ys
    one_hole : {d : ℕ} {us : List Lexeme} {xs : Elements}
        → Commas true d us xs → (t : Lexeme) → t.sort ≡ k.Comma → Commas true d (us ++ t ∷ []) (with_hole xs)

  -- The tokens behind the first parenthesis of Arguments = "(" elements, with commas between and perhaps at last, ")" (13.3.8)
  pub data Arguments : ℕ → List Lexeme → Elements → Type 0 where
    comma_at_last : {d : ℕ} {us : List Lexeme} {xs : Elements}
        → Commas false d us xs → (u : Lexeme) → u.sort ≡ k.RightParenthesis → Arguments d (us ++ u ∷ []) xs
    element_at_last : {d : ℕ} {us vs : List Lexeme} {xs ys : Elements}
        → Commas false d us xs → Adds d vs xs ys → (u : Lexeme) → u.sort ≡ k.RightParenthesis → Arguments d (us ++ (vs ++ u ∷ [])) ys

  -- The tokens behind the first bracket of Array = "[" elements or nothing, with commas between, "]" (13.2.4): a comma with no
  -- element before it is a hole, and one behind the last element is none.
  pub data Array : ℕ → List Lexeme → Elements → Type 0 where
    array_comma_at_last : {d : ℕ} {us : List Lexeme} {xs : Elements}
        → Commas true d us xs → (u : Lexeme) → u.sort ≡ k.RightBracket → Array d (us ++ u ∷ []) xs
    array_element_at_last : {d : ℕ} {us vs : List Lexeme} {xs ys : Elements}
        → Commas true d us xs → Adds d vs xs ys → (u : Lexeme) → u.sort ≡ k.RightBracket → Array d (us ++ (vs ++ u ∷ [])) ys

  -- The tokens behind the first piece of a template, with this text: Expressions, each with a middle piece behind it (13.2.8).
  pub data Substitutions : ℕ → List ℕ → List Lexeme → Pieces → Type 0 where
    no_substitution : {d : ℕ} {text : List ℕ} → Substitutions d text [] (one_piece text)
    one_substitution : {d : ℕ} {text : List ℕ} {us vs : List Lexeme} {all : Pieces} {x : Grown}
        → Substitutions d text us all → Derives d (Expression true) vs x → (t : Lexeme) → t.sort ≡ k.TemplateMiddle
        → Substitutions d text (us ++ (vs ++ t ∷ [])) (with_piece all x (text_of t.content))

  -- The tokens behind the name of a function, "(" Params ")" Body, with its parameters and the items of its body (15.2)
  pub data Function : ℕ → List Lexeme → Parameters → Grove → Type 0 where
    function : {d : ℕ} {us vs : List Lexeme} {ps : Parameters} {xs : Grove} (t : Lexeme) → t.sort ≡ k.LeftParenthesis → Params us ps → Body d vs xs
        → Function d (t ∷ (us ++ vs)) ps xs

  -- Body = "{" Item* "}" (15.2)
  pub data Body : ℕ → List Lexeme → Grove → Type 0 where
    body : {d : ℕ} {us ts : List Lexeme} {xs : Grove} (t : Lexeme) → t.sort ≡ k.LeftBrace → (u : Lexeme) → u.sort ≡ k.RightBrace → Items d us (u ∷ ts) xs
        → Body d (t ∷ (us ++ u ∷ [])) xs

  -- The tokens behind the first brace of Object = "{" properties, with commas between and perhaps at last, "}" (13.2.5)
  pub data Object : ℕ → List Lexeme → Properties → Type 0 where
    property_comma_at_last : {d : ℕ} {us : List Lexeme} {all : Properties} → PropertiesWithCommas d us all → (u : Lexeme) → u.sort ≡ k.RightBrace
        → Object d (us ++ u ∷ []) all
    property_at_last : {d tall : ℕ} {us vs : List Lexeme} {all : Properties} {one : Property}
        → PropertiesWithCommas d us all → OneProperty d vs one tall → (u : Lexeme) → u.sort ≡ k.RightBrace
        → Object d (us ++ (vs ++ u ∷ [])) (with_property all (one, tall))

  -- properties, each with a comma behind it
  pub data PropertiesWithCommas : ℕ → List Lexeme → Properties → Type 0 where
    no_properties_yet : {d : ℕ} → PropertiesWithCommas d [] no_properties
    one_more_property : {d tall : ℕ} {us vs : List Lexeme} {all : Properties} {one : Property}
        → PropertiesWithCommas d us all → OneProperty d vs one tall → (t : Lexeme) → t.sort ≡ k.Comma
        → PropertiesWithCommas d (us ++ (vs ++ t ∷ [])) (with_property all (one, tall))

  -- a property, and the depth of its trees (13.2.5)
  pub data OneProperty : ℕ → List Lexeme → Property → ℕ → Type 0 where
    -- Name: its value is that of the name
    shorthand : {d : ℕ} (t : Lexeme) → t.sort ≡ k.Identifier
        → OneProperty d (t ∷ []) (property.Named (property_name.Text (text_of t.content)) (whole (n.Name (text_of t.content)) t.from (t ∷ []) 0).tree) 1
    -- key ":" Assign, where the key is not `__proto__`
    keyed : {d : ℕ} {us : List Lexeme} {x : Grown} {called : PropertyName} (t : Lexeme) → key_of t ≡ Some called → is_proto called ≡ false
        → (u : Lexeme) → u.sort ≡ k.Colon → Derives d (Assign true) us x → OneProperty (suc d) (t ∷ u ∷ us) (property.Named called x.tree) x.height
    -- "[" Assign "]" ":" Assign
    computed : {d : ℕ} {us vs : List Lexeme} {x y : Grown} (t : Lexeme) → t.sort ≡ k.LeftBracket → Derives d (Assign true) us x
        → (u : Lexeme) → u.sort ≡ k.RightBracket → (w : Lexeme) → w.sort ≡ k.Colon → Derives d (Assign true) vs y
        → OneProperty (suc d) (t ∷ (us ++ u ∷ w ∷ vs)) (property.Computed x.tree y.tree) (max x.height y.height)
    -- "..." Assign
    spread_property : {d : ℕ} {us : List Lexeme} {x : Grown} (t : Lexeme) → t.sort ≡ k.Ellipsis → Derives d (Assign true) us x
        → OneProperty (suc d) (t ∷ us) (property.Spread x.tree) x.height
    -- key "(" Params ")" Body (15.4)
    method : {d : ℕ} {us : List Lexeme} {called : PropertyName} {ps : Parameters} {xs : Grove} (t : Lexeme) → key_of t ≡ Some called → Function d us ps xs
        → OneProperty d (t ∷ us) (property.Method (whole (n.Method called ps xs.trees) t.from (t ∷ us) xs.tall).tree) (xs.tall + 1)
    -- "[" Assign "]" "(" Params ")" Body
    computed_method : {d : ℕ} {us vs : List Lexeme} {x : Grown} {ps : Parameters} {xs : Grove} (t : Lexeme) → t.sort ≡ k.LeftBracket → Derives d (Assign true) us x
        → (u : Lexeme) → u.sort ≡ k.RightBracket → Function (suc d) vs ps xs
        → OneProperty (suc d) (t ∷ (us ++ u ∷ vs))
        (property.Method (whole (n.ComputedMethod x.tree ps xs.trees) t.from (t ∷ (us ++ u ∷ vs)) (max x.height xs.tall)).tree) (max x.height xs.tall + 1)
    -- "get" key "(" ")" Body
    getter : {d : ℕ} {us : List Lexeme} {called : PropertyName} {xs : Grove} (t : Lexeme) → is_text (codes "get") t ≡ true → (c : Lexeme) → key_of c ≡ Some called
        → (p : Lexeme) → p.sort ≡ k.LeftParenthesis → (q : Lexeme) → q.sort ≡ k.RightParenthesis → Body d us xs
        → OneProperty d (t ∷ c ∷ p ∷ q ∷ us) (property.Method (whole (n.Getter called xs.trees) t.from (t ∷ c ∷ p ∷ q ∷ us) xs.tall).tree) (xs.tall + 1)
    -- "set" key "(" Name ")" Body
    setter : {d : ℕ} {us : List Lexeme} {called : PropertyName} {xs : Grove} (t : Lexeme) → is_text (codes "set") t ≡ true → (c : Lexeme) → key_of c ≡ Some called
        → (p : Lexeme) → p.sort ≡ k.LeftParenthesis → (v : Lexeme) → v.sort ≡ k.Identifier → (q : Lexeme) → q.sort ≡ k.RightParenthesis → Body d us xs
        → OneProperty d (t ∷ c ∷ p ∷ v ∷ q ∷ us)
        (property.Method (whole (n.Setter called (binding_of v) xs.trees) t.from (t ∷ c ∷ p ∷ v ∷ q ∷ us) xs.tall).tree) (xs.tall + 1)

  -- Declaration = Name ["=" Assign] (14.3)
  pub data Declares : Bool → ℕ → List Lexeme → Lexeme → Option Grown → Type 0 where
    no_value : {b : Bool} {d : ℕ} (t : Lexeme) → t.sort ≡ k.Identifier → Declares b d (t ∷ []) t None
    a_value : {b : Bool} {d : ℕ} {us : List Lexeme} {x : Grown} (t u : Lexeme) → t.sort ≡ k.Identifier → u.sort ≡ k.Assign → Derives d (Assign b) us x
        → Declares b (suc d) (t ∷ u ∷ us) t (Some x)

  -- Declarations = Declaration ("," Declaration)*, and the greatest depth among their values
  pub data Declarations : Bool → ℕ → List Lexeme → List Declaration → ℕ → Type 0 where
    one_declaration : {b : Bool} {d : ℕ} {us : List Lexeme} {t : Lexeme} {value : Option Grown} → Declares b d us t value
        → Declarations b d us (declared t value ∷ []) (max 0 (value_height value))
    one_more_declaration : {b : Bool} {d tall : ℕ} {us vs : List Lexeme} {u : Lexeme} {ds : List Declaration} {value : Option Grown}
        → Declarations b d us ds tall → (t : Lexeme) → t.sort ≡ k.Comma → Declares b d vs u value
        → Declarations b d (us ++ t ∷ vs) (ds ++ declared u value ∷ []) (max tall (value_height value))

  -- "(" Expression ")" in a statement
  pub data Condition : ℕ → List Lexeme → Grown → Type 0 where
    condition : {d : ℕ} {us : List Lexeme} {x : Grown} (t : Lexeme) → t.sort ≡ k.LeftParenthesis → Derives d (Expression true) us x
        → (u : Lexeme) → u.sort ≡ k.RightParenthesis → Condition d (t ∷ (us ++ u ∷ [])) x

  -- [Expression] and the token that ends it, in the head of a `for`
  pub data Perhaps : Bool → ℕ → Sort → List Lexeme → Part → Type 0 where
    no_expression : {b : Bool} {d : ℕ} {close : Sort} (u : Lexeme) → u.sort ≡ close → Perhaps b d close (u ∷ []) nothing
    an_expression : {b : Bool} {d : ℕ} {close : Sort} {us : List Lexeme} {x : Grown} → Derives d (Expression b) us x → (u : Lexeme) → u.sort ≡ close
        → Perhaps b d close (us ++ u ∷ []) (part_of x)

  -- the first part in the head of a `for`: ("var" | "let" | "const") Declarations ";" | [Expression] ";", where `in` is no operator
  -- outside of brackets and no semicolon is inserted (14.7.4)
  pub data First : ℕ → List Lexeme → Part → Type 0 where
    first_declarations : {d tall : ℕ} {us : List Lexeme} {ds : List Declaration} {how : HeadKind} (t : Lexeme) → declaring_word t.sort ≡ Some how
        → Declarations false d us ds tall → (u : Lexeme) → u.sort ≡ k.Semicolon
        → First d (t ∷ (us ++ u ∷ [])) (part_of (whole (declaring how ds) t.from (t ∷ (us ++ u ∷ [])) tall))
    first_expression : {d : ℕ} {us : List Lexeme} {x : Part} → Perhaps false d k.Semicolon us x → First d us x

  -- Block = "{" Item* "}" (14.2)
  pub data Block : ℕ → List Lexeme → Grown → Type 0 where
    items_in_braces : {d : ℕ} {us ts : List Lexeme} {xs : Grove} (t : Lexeme) → t.sort ≡ k.LeftBrace → (u : Lexeme) → u.sort ≡ k.RightBrace → Items d us (u ∷ ts) xs
        → Block d (t ∷ (us ++ u ∷ [])) (whole (n.Block xs.trees) t.from (t ∷ (us ++ u ∷ [])) xs.tall)

  -- Catch = "catch" ["(" Name ")"] Block (14.15)
  pub data Catch : ℕ → List Lexeme → Option Binding → Grown → Type 0 where
    catch : {d : ℕ} {us vs : List Lexeme} {p : Option Binding} {x : Grown} (t : Lexeme) → t.sort ≡ k.Catch → CatchParameter us p → Block d vs x
        → Catch d (t ∷ (us ++ vs)) p x

  -- "finally" Block (14.15)
  pub data Finally : ℕ → List Lexeme → Grown → Type 0 where
    finally : {d : ℕ} {us : List Lexeme} {x : Grown} (t : Lexeme) → t.sort ≡ k.Finally → Block d us x → Finally d (t ∷ us) x

  -- The clauses of a `switch` before those tokens that follow, one of them at most with "default" (14.12)
  pub data Clauses : ℕ → List Lexeme → List Lexeme → Cases → Type 0 where
    no_clauses : {d : ℕ} {ts : List Lexeme} → Clauses d [] ts no_cases
    one_more_case : {d : ℕ} {us vs ws ts : List Lexeme} {all : Cases} {x : Grown} {xs : Grove} (t : Lexeme)
        → Clauses d us (t ∷ (vs ++ ts)) all → t.sort ≡ k.Case → Derives d (Expression true) vs x → (u : Lexeme) → u.sort ≡ k.Colon → Items d ws ts xs
        → Clauses d (us ++ t ∷ (vs ++ u ∷ ws)) ts (with_case all x xs)
    one_default : {d : ℕ} {us ws ts : List Lexeme} {all : Cases} {xs : Grove} (t : Lexeme)
        → Clauses d us (t ∷ ts) all → t.sort ≡ k.Default → all.has_default ≡ false → (u : Lexeme) → u.sort ≡ k.Colon → Items d ws ts xs
        → Clauses d (us ++ t ∷ u ∷ ws) ts (with_default all xs)

  -- The tokens are a statement before those that follow, of which only the first one matters, and make the tree, where so many
  -- more rules may be open at once: while a statement is read it is open.
  pub data States : ℕ → List Lexeme → List Lexeme → Grown → Type 0 where
    -- Expression ";", where the expression begins with no `{`, `function` or label (14.5)
    expression_statement : {d : ℕ} {us vs ts : List Lexeme} {x : Grown}
        → begins_statement (sort_at us) ≡ false → is_label us ≡ false → Derives d (Expression true) us x
        → Semicolon (EndsThere (expression (tree d) true) us ts x) vs ts
        → States d (us ++ vs) ts (whole (statement_node (start_of us) x) (from_of x) (us ++ vs) x.height)
    -- Block (14.2)
    block : {d : ℕ} {us ts : List Lexeme} {x : Grown} → Block d us x → States d us ts x
    -- ";" (14.4)
    empty : {d : ℕ} {ts : List Lexeme} (t : Lexeme) → t.sort ≡ k.Semicolon → States d (t ∷ []) ts (whole n.Empty t.from (t ∷ []) 0)
    -- "var" Declarations ";" (14.3.2)
    var : {d tall : ℕ} {us vs ts : List Lexeme} {ds : List Declaration} (t : Lexeme) → t.sort ≡ k.Var
        → Declarations true d us ds tall → Semicolon (EndsThere (declarations (tree d) true) us ts (ds, tall)) vs ts
        → States d (t ∷ (us ++ vs)) ts (whole (n.Var ds) t.from (t ∷ (us ++ vs)) tall)
    -- "if" "(" Expression ")" Statement ["else" Statement], where an `else` belongs to the nearest `if` (14.6)
    if_alone : {d : ℕ} {us vs ts : List Lexeme} {x y : Grown} (t : Lexeme) → t.sort ≡ k.If
        → Condition (suc d) us x → States d vs ts y → same_sort (sort_at ts) k.Else ≡ false
        → States (suc d) (t ∷ (us ++ vs)) ts (whole (n.If x.tree y.tree None) t.from (t ∷ (us ++ vs)) (max x.height y.height))
    if_else : {d : ℕ} {us vs ws ts : List Lexeme} {x y z : Grown} (t : Lexeme) → t.sort ≡ k.If
        → Condition (suc d) us x → (u : Lexeme) → States d vs (u ∷ (ws ++ ts)) y → u.sort ≡ k.Else → States d ws ts z
        → States (suc d) (t ∷ (us ++ (vs ++ u ∷ ws))) ts
        (whole (n.If x.tree y.tree (Some z.tree)) t.from (t ∷ (us ++ (vs ++ u ∷ ws))) (tallest x.height y.height z.height))
    -- "do" Statement "while" "(" Expression ")" [";"]: the semicolon may always be left out (14.7.2, 12.10)
    do_alone : {d : ℕ} {us vs ts : List Lexeme} {x y : Grown} (t : Lexeme) → t.sort ≡ k.Do
        → (u : Lexeme) → States d us (u ∷ (vs ++ ts)) y → u.sort ≡ k.While → Condition (suc d) vs x
        → same_sort (sort_at ts) k.Semicolon ≡ false
        → States (suc d) (t ∷ (us ++ u ∷ vs)) ts (whole (n.Do y.tree x.tree) t.from (t ∷ (us ++ u ∷ vs)) (max y.height x.height))
    do_ended : {d : ℕ} {us vs ts : List Lexeme} {x y : Grown} (t : Lexeme) → t.sort ≡ k.Do
        → (u v : Lexeme) → States d us (u ∷ (vs ++ v ∷ ts)) y → u.sort ≡ k.While → Condition (suc d) vs x → v.sort ≡ k.Semicolon
        → States (suc d) (t ∷ (us ++ u ∷ (vs ++ v ∷ []))) ts
        (whole (n.Do y.tree x.tree) t.from (t ∷ (us ++ u ∷ (vs ++ v ∷ []))) (max y.height x.height))
    -- "while" "(" Expression ")" Statement (14.7.3)
    while : {d : ℕ} {us vs ts : List Lexeme} {x y : Grown} (t : Lexeme) → t.sort ≡ k.While
        → Condition (suc d) us x → States d vs ts y
        → States (suc d) (t ∷ (us ++ vs)) ts (whole (n.While x.tree y.tree) t.from (t ∷ (us ++ vs)) (max x.height y.height))
    -- "for" "(" First [Expression] ";" [Expression] ")" Statement (14.7.4)
    for : {d : ℕ} {us vs ws zs ts : List Lexeme} {first test step : Part} {y : Grown} (t u : Lexeme) → t.sort ≡ k.For → u.sort ≡ k.LeftParenthesis
        → First (suc d) us first → Perhaps true (suc d) k.Semicolon vs test → Perhaps true (suc d) k.RightParenthesis ws step → States d zs ts y
        → States (suc d) (t ∷ u ∷ (us ++ (vs ++ (ws ++ zs)))) ts
        (whole (n.For first.tree test.tree step.tree y.tree) t.from (t ∷ u ∷ (us ++ (vs ++ (ws ++ zs))))
        (max first.height (tallest test.height step.height y.height)))
    -- "for" "(" ("var" | "let" | "const") Name "in" Expression ")" Statement (14.7.5)
    for_in : {d : ℕ} {us vs ts : List Lexeme} {x y : Grown} {how : HeadKind} (t u v w i : Lexeme) → t.sort ≡ k.For → u.sort ≡ k.LeftParenthesis
        → declaring_word v.sort ≡ Some how → w.sort ≡ k.Identifier → i.sort ≡ k.In → Derives (suc d) (Expression true) us x
        → (p : Lexeme) → p.sort ≡ k.RightParenthesis → States d vs ts y
        → States (suc d) (t ∷ u ∷ v ∷ w ∷ i ∷ (us ++ p ∷ vs)) ts
        (whole (n.ForIn (record { kind = how; binding = binding_of w }) x.tree y.tree) t.from (t ∷ u ∷ v ∷ w ∷ i ∷ (us ++ p ∷ vs)) (max x.height y.height))
    -- "for" "(" ("var" | "let" | "const") Name "of" Assign ")" Statement
    for_of : {d : ℕ} {us vs ts : List Lexeme} {x y : Grown} {how : HeadKind} (t u v w i : Lexeme) → t.sort ≡ k.For → u.sort ≡ k.LeftParenthesis
        → declaring_word v.sort ≡ Some how → w.sort ≡ k.Identifier → is_text (codes "of") i ≡ true → Derives d (Assign true) us x
        → (p : Lexeme) → p.sort ≡ k.RightParenthesis → States d vs ts y
        → States (suc d) (t ∷ u ∷ v ∷ w ∷ i ∷ (us ++ p ∷ vs)) ts
        (whole (n.ForOf (record { kind = how; binding = binding_of w }) x.tree y.tree) t.from (t ∷ u ∷ v ∷ w ∷ i ∷ (us ++ p ∷ vs)) (max x.height y.height))
    -- "for" "(" Target "in" Expression ")" Statement
    for_in_target : {d : ℕ} {us vs ws ts : List Lexeme} {z x y : Grown} (t u : Lexeme) → t.sort ≡ k.For → u.sort ≡ k.LeftParenthesis
        → Derives (suc d) (Expression false) us z → is_target z ≡ true → (i : Lexeme) → i.sort ≡ k.In → Derives (suc d) (Expression true) vs x
        → (p : Lexeme) → p.sort ≡ k.RightParenthesis → States d ws ts y
        → States (suc d) (t ∷ u ∷ (us ++ i ∷ (vs ++ p ∷ ws))) ts
        (whole (n.ForInTarget z.tree x.tree y.tree) t.from (t ∷ u ∷ (us ++ i ∷ (vs ++ p ∷ ws))) (tallest z.height x.height y.height))
    -- "for" "(" Target "of" Assign ")" Statement
    for_of_target : {d : ℕ} {us vs ws ts : List Lexeme} {z x y : Grown} (t u : Lexeme) → t.sort ≡ k.For → u.sort ≡ k.LeftParenthesis
        → Derives (suc d) (Expression false) us z → is_target z ≡ true → (i : Lexeme) → is_text (codes "of") i ≡ true → Derives d (Assign true) vs x
        → (p : Lexeme) → p.sort ≡ k.RightParenthesis → States d ws ts y
        → States (suc d) (t ∷ u ∷ (us ++ i ∷ (vs ++ p ∷ ws))) ts
        (whole (n.ForOfTarget z.tree x.tree y.tree) t.from (t ∷ u ∷ (us ++ i ∷ (vs ++ p ∷ ws))) (tallest z.height x.height y.height))
    -- "continue" [Name] ";" and "break" [Name] ";", with no line end before the name (14.8, 14.9)
    continue_alone : {d : ℕ} {vs ts : List Lexeme} (t : Lexeme) → t.sort ≡ k.Continue → Semicolon (Unit {0}) vs ts
        → States d (t ∷ vs) ts (whole (n.Continue None) t.from (t ∷ vs) 0)
    continue_to : {d : ℕ} {vs ts : List Lexeme} (t u : Lexeme) → t.sort ≡ k.Continue → u.sort ≡ k.Identifier → u.line_before ≡ false → Semicolon (Unit {0}) vs ts
        → States d (t ∷ u ∷ vs) ts (whole (n.Continue (Some (text_of u.content))) t.from (t ∷ u ∷ vs) 0)
    break_alone : {d : ℕ} {vs ts : List Lexeme} (t : Lexeme) → t.sort ≡ k.Break → Semicolon (Unit {0}) vs ts
        → States d (t ∷ vs) ts (whole (n.Break None) t.from (t ∷ vs) 0)
    break_from : {d : ℕ} {vs ts : List Lexeme} (t u : Lexeme) → t.sort ≡ k.Break → u.sort ≡ k.Identifier → u.line_before ≡ false → Semicolon (Unit {0}) vs ts
        → States d (t ∷ u ∷ vs) ts (whole (n.Break (Some (text_of u.content))) t.from (t ∷ u ∷ vs) 0)
    -- "return" [Expression] ";", with no line end before the expression (14.10)
    return_alone : {d : ℕ} {vs ts : List Lexeme} (t : Lexeme) → t.sort ≡ k.Return → Semicolon (Unit {0}) vs ts
        → States d (t ∷ vs) ts (whole (n.Return None) t.from (t ∷ vs) 0)
    return_value : {d : ℕ} {us vs ts : List Lexeme} {x : Grown} (t : Lexeme) → t.sort ≡ k.Return → line_at us ≡ false → Derives d (Expression true) us x
        → Semicolon (EndsThere (expression (tree d) true) us ts x) vs ts
        → States d (t ∷ (us ++ vs)) ts (whole (n.Return (Some x.tree)) t.from (t ∷ (us ++ vs)) x.height)
    -- "throw" Expression ";", with no line end before the expression (14.14)
    throw : {d : ℕ} {us vs ts : List Lexeme} {x : Grown} (t : Lexeme) → t.sort ≡ k.Throw → line_at us ≡ false → Derives d (Expression true) us x
        → Semicolon (EndsThere (expression (tree d) true) us ts x) vs ts
        → States d (t ∷ (us ++ vs)) ts (whole (n.Throw x.tree) t.from (t ∷ (us ++ vs)) x.height)
    -- "debugger" ";" (14.16)
    debugger : {d : ℕ} {vs ts : List Lexeme} (t : Lexeme) → t.sort ≡ k.Debugger → Semicolon (Unit {0}) vs ts
        → States d (t ∷ vs) ts (whole n.Debugger t.from (t ∷ vs) 0)
    -- "switch" "(" Expression ")" "{" Clauses "}" (14.12)
    switch : {d : ℕ} {us vs ts : List Lexeme} {x : Grown} {all : Cases} (t : Lexeme) → t.sort ≡ k.Switch → Condition d us x
        → (u : Lexeme) → u.sort ≡ k.LeftBrace → (v : Lexeme) → v.sort ≡ k.RightBrace → Clauses d vs (v ∷ ts) all
        → States d (t ∷ (us ++ u ∷ (vs ++ v ∷ []))) ts (whole (n.Switch x.tree all.items) t.from (t ∷ (us ++ u ∷ (vs ++ v ∷ []))) (max x.height all.tall))
    -- "try" Block (Catch [Finally] | Finally) (14.15)
    try_catch : {d : ℕ} {us vs ts : List Lexeme} {x y : Grown} {p : Option Binding} (t : Lexeme) → t.sort ≡ k.Try → Block d us x → Catch d vs p y
        → same_sort (sort_at ts) k.Finally ≡ false
        → States d (t ∷ (us ++ vs)) ts (whole (n.Try x.tree p (Some y.tree) None) t.from (t ∷ (us ++ vs)) (max x.height y.height))
    try_finally : {d : ℕ} {us vs ts : List Lexeme} {x z : Grown} (t : Lexeme) → t.sort ≡ k.Try → Block d us x → Finally d vs z
        → States d (t ∷ (us ++ vs)) ts (whole (n.Try x.tree None None (Some z.tree)) t.from (t ∷ (us ++ vs)) (tallest x.height 0 z.height))
    try_both : {d : ℕ} {us vs ws ts : List Lexeme} {x y z : Grown} {p : Option Binding} (t : Lexeme) → t.sort ≡ k.Try → Block d us x → Catch d vs p y → Finally d ws z
        → States d (t ∷ (us ++ (vs ++ ws))) ts
        (whole (n.Try x.tree p (Some y.tree) (Some z.tree)) t.from (t ∷ (us ++ (vs ++ ws))) (tallest x.height y.height z.height))
    -- Name ":" Statement (14.13)
    labelled : {d : ℕ} {us ts : List Lexeme} {x : Grown} (t u : Lexeme) → t.sort ≡ k.Identifier → same_sort t.ahead k.Colon ≡ true → u.sort ≡ k.Colon → States d us ts x
        → States (suc d) (t ∷ u ∷ us) ts (whole (n.Labelled (text_of t.content) x.tree) t.from (t ∷ u ∷ us) x.height)

  -- Item = Function | Lexical | Statement, where so many more rules may be open at once: an item that is a statement is open
  -- while it is read, and another one is not (14).
  pub data IsItem : ℕ → List Lexeme → List Lexeme → Grown → Type 0 where
    statement : {d : ℕ} {us ts : List Lexeme} {x : Grown} → States d us ts x → IsItem (suc d) us ts x
    -- "function" Name "(" Params ")" Body (15.2)
    function_item : {d : ℕ} {us ts : List Lexeme} {ps : Parameters} {xs : Grove} (t u : Lexeme) → t.sort ≡ k.Function → u.sort ≡ k.Identifier → Function d us ps xs
        → IsItem d (t ∷ u ∷ us) ts (whole (n.FunctionDeclaration (Some (binding_of u)) ps xs.trees) t.from (t ∷ u ∷ us) xs.tall)
    -- ("let" | "const") Declarations ";" (14.3.1)
    lexical : {d tall : ℕ} {us vs ts : List Lexeme} {ds : List Declaration} {how : HeadKind} (t : Lexeme) → lexical_word t.sort ≡ Some how
        → Declarations true d us ds tall → Semicolon (EndsThere (declarations (tree d) true) us ts (ds, tall)) vs ts
        → IsItem d (t ∷ (us ++ vs)) ts (whole (declaring how ds) t.from (t ∷ (us ++ vs)) tall)

  -- items one after the other, before those tokens that follow
  pub data Items : ℕ → List Lexeme → List Lexeme → Grove → Type 0 where
    no_items : {d : ℕ} {ts : List Lexeme} → Items d [] ts none
    one_more_item : {d : ℕ} {us vs ts : List Lexeme} {xs : Grove} {x : Grown}
        → Items d us (vs ++ ts) xs → IsItem d vs ts x → Items d (us ++ vs) ts (with xs x)
