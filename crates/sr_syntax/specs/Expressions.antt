-- Expressions, rule by rule (ECMA-262 13).
use Rattle.std.specs.Prelude.{ℕ, zero, suc, ◌+◌, max, Bool, true, false, if◌then◌else◌, List, Option, Some, None, Ok}
use Rattle.sr_ast.specs.declared.operators.AssignOp.{AssignOp}
use Rattle.sr_ast.specs.declared.operators.UnaryOp.{UnaryOp}
use Rattle.sr_ast.specs.declared.operators.UpdateOp.{UpdateOp}
use Rattle.sr_ast.specs.declared.operators.Link.{Link}
use Rattle.sr_ast.specs.declared.operators.Link.TheVariants as link
use Rattle.sr_ast.specs.declared.tree.Node.TheVariants as n
use Rattle.sr_syntax.specs.declared.sorts.Sort.{Sort}
use Rattle.sr_syntax.specs.declared.sorts.Sort.TheVariants as k
use Rattle.sr_syntax.specs.declared.grown.Grown.{Grown}
use Rattle.sr_syntax.specs.declared.grown.Grove.{Grove}
use Rattle.sr_syntax.specs.declared.grown.Elements.{Elements}
use Rattle.sr_syntax.specs.declared.grown.Pieces.{Pieces}
use Rattle.sr_syntax.specs.declared.operators.PartSort.{PartSort}
use Rattle.sr_syntax.specs.declared.operators.PartSort.TheVariants as part
use Rattle.sr_syntax.specs.declared.grown.Goal.{Goal}
use Rattle.sr_syntax.specs.declared.grown.Goal.TheVariants as goal
use Rattle.sr_syntax.specs.Sorts.{same_sort}
use Rattle.sr_syntax.specs.Input.{Parser, ◌>>=◌, ◌>>◌, pure, refuse, left, peek, here, take_token, take_text, take_number, eat, expect, complete}
use Rattle.sr_syntax.specs.Operators.{prefix, is_prefix, update_before, bit_or_row, and_row, or_row, coalesce_row, from_of, is_target, gives_name, is_bare_new, link_in, assigns, steps, tallest, none, with, no_elements, with_value, with_spread, with_hole, one_piece, with_piece, joined, row_of, assign_goal, plain_template, member, part_sort}
use Rattle.sr_syntax.specs.Bodies.{function_, begins_arrow, arrow}
use Rattle.sr_syntax.specs.Objects.{object}

-- The parser of what is open while it is read, one level down.
module _ (nest : Goal → Parser Grown) where
  -- ---- expressions

  unfoldable pub sequence_from : Bool → ℕ → Grove → Parser Grove
  sequence_from has_in zero found = pure found
  sequence_from has_in (suc m) found = do
    more ← eat k.Comma
    if more then (do x ← nest (assign_goal has_in); sequence_from has_in m (with found x)) else pure found

  unfoldable pub sequence : Bool → Grove → Parser Grove
  sequence has_in found = λ i. sequence_from has_in (left i) found i

  -- Expr = Assign ("," Assign)* (13.16)
  unfoldable pub expression : Bool → Parser Grown
  expression has_in = do
    first ← nest (assign_goal has_in)
    s ← peek
    if same_sort s k.Comma then (do all ← sequence has_in (with none first); complete (n.Sequence all.trees) (from_of first) all.tall)
        else pure first

  -- "(" Expr ")", behind the first token; it makes no tree (13.2.9)
  unfoldable pub parenthesized : Parser Grown
  parenthesized = do
    inner ← expression true
    expect k.RightParenthesis
    pure inner

  -- an element that is no hole: ["..."] Assign
  unfoldable pub one_element : Elements → Parser Elements
  one_element found = do
    is_spread ← eat k.Ellipsis
    x ← nest goal.Assign
    if is_spread then pure (with_spread found x) else pure (with_value found x)

  unfoldable pub array_from : ℕ → Elements → Parser Elements
  array_from zero found = refuse
  array_from (suc m) found = do
    is_over ← eat k.RightBracket
    if is_over then pure found else (do
      is_hole ← eat k.Comma
      if is_hole then array_from m (with_hole found) else (do
        all ← one_element found
        more ← eat k.Comma
        if more then array_from m all else expect k.RightBracket >> pure all))

  -- Array = "[" Assign, "..." Assign or nothing, by "," "]", behind the first token (13.2.4)
  unfoldable pub elements : Parser Elements
  elements = λ i. array_from (left i + 1) no_elements i

  unfoldable pub array : ℕ → Parser Grown
  array from = do
    all ← elements
    complete (n.Array all.items) from all.tall

  -- the next piece of a template behind an expression: a middle one, or the last one
  abbrev pub piece_by : (Pieces → Parser Pieces) → Pieces → Grown → Sort → Parser Pieces
  piece_by more all x k.TemplateMiddle = take_text >>= (λ text. more (with_piece all x text))
  piece_by more all x k.TemplateTail = take_text >>= (λ text. pure (with_piece all x text))
  piece_by more all x _ = refuse

  unfoldable pub pieces_from : ℕ → Pieces → Parser Pieces
  pieces_from zero all = refuse
  pieces_from (suc m) all = do
    x ← expression true
    s ← peek
    piece_by (pieces_from m) all x s

  unfoldable pub pieces : List ℕ → Parser Pieces
  pieces text = λ i. pieces_from (left i + 1) (one_piece text) i

  -- a template with expressions, behind its first piece (13.2.8)
  unfoldable pub template : ℕ → List ℕ → Parser Grown
  template from text = do
    all ← pieces text
    complete (n.Template all.texts all.trees) from all.tall

  abbrev pub primary_by : ℕ → Sort → Parser Grown
  primary_by from k.This = take_token >> complete n.This from 0
  primary_by from k.Identifier = take_text >>= (λ called. complete (n.Name called) from 0)
  primary_by from k.Null = take_token >> complete n.Null from 0
  primary_by from k.True = take_token >> complete (n.Bool true) from 0
  primary_by from k.False = take_token >> complete (n.Bool false) from 0
  primary_by from k.Number = take_number >>= (λ value. complete (n.Num value) from 0)
  primary_by from k.Text = take_text >>= (λ value. complete (n.Text value) from 0)
  primary_by from k.TemplateWhole = plain_template from
  primary_by from k.TemplateHead = take_text >>= (λ text. template from text)
  primary_by from k.LeftBracket = take_token >> array from
  primary_by from k.LeftBrace = take_token >> object nest from
  primary_by from k.Function = take_token >> function_ nest from
  primary_by from k.LeftParenthesis = take_token >> parenthesized
  primary_by from _ = refuse

  -- Primary = this | Name | literal | Array | Object | FunctionExpr | Template | "(" Expr ")" (13.2)
  unfoldable pub primary : Parser Grown
  primary = do
    from ← here
    s ← peek
    primary_by from s

  unfoldable pub arguments_from : ℕ → Elements → Parser Elements
  arguments_from zero found = refuse
  arguments_from (suc m) found = do
    is_over ← eat k.RightParenthesis
    if is_over then pure found else (do
      all ← one_element found
      more ← eat k.Comma
      if more then arguments_from m all else expect k.RightParenthesis >> pure all)

  -- Args = "(" ["..."] Assign by "," [","] ")", behind the first token (13.3.8)
  unfoldable pub arguments : Parser Elements
  arguments = λ i. arguments_from (left i + 1) no_elements i

  -- a property by an expression, behind the `[` (13.3.2)
  unfoldable pub index : Link → Grown → Parser Grown
  index l of = do
    x ← expression true
    expect k.RightBracket
    complete (n.Index l of.tree x.tree) (from_of of) (max of.height x.height)

  -- a call, behind its first parenthesis (13.3.6)
  unfoldable pub call : Link → Grown → Parser Grown
  call l of = do
    all ← arguments
    complete (n.Call l of.tree all.items) (from_of of) (max of.height all.tall)

  -- what stands behind `?.` (13.3.9)
  abbrev pub optional_by : Grown → Sort → Parser Grown
  optional_by of k.LeftBracket = take_token >> index link.Optional of
  optional_by of k.LeftParenthesis = take_token >> call link.Optional of
  optional_by of _ = member link.Optional of

  unfoldable pub optional : Grown → Parser Grown
  optional of = do
    s ← peek
    optional_by of s

  -- Parts behind a Primary or a New with Args, in any number. In an optional chain they are linked as parts of it.
  abbrev pub part_by : (Bool → Grown → Parser Grown) → Bool → Grown → PartSort → Parser Grown
  part_by more in_chain of part.Member = take_token >> member (link_in in_chain) of >>= more in_chain
  part_by more in_chain of part.Index = take_token >> index (link_in in_chain) of >>= more in_chain
  part_by more in_chain of part.Call = take_token >> call (link_in in_chain) of >>= more in_chain
  part_by more in_chain of part.Optional = take_token >> optional of >>= more true
  part_by more in_chain of part.None = pure of

  unfoldable pub parts_from : Bool → ℕ → Bool → Grown → Parser Grown
  parts_from has_optional zero in_chain of = pure of
  parts_from has_optional (suc m) in_chain of = do
    s ← peek
    part_by (parts_from has_optional m) in_chain of (part_sort has_optional s)

  unfoldable pub parts : Bool → Grown → Parser Grown
  parts has_optional of = λ i. parts_from has_optional (left i) false of i

  -- Left = New | Primary, then parts; a New without Args has none (13.3)
  unfoldable pub left_side : Bool → Parser Grown
  left_side has_optional = do
    s ← peek
    if same_sort s k.New
        then (do x ← nest goal.New; if is_bare_new x then pure x else parts has_optional x)
        else primary >>= parts has_optional

  -- Parts of a Member: "." name and "[" Expr "]", in any number
  abbrev pub member_part_by : (Grown → Parser Grown) → Grown → Sort → Parser Grown
  member_part_by more of k.Dot = take_token >> member link.Plain of >>= more
  member_part_by more of k.LeftBracket = take_token >> index link.Plain of >>= more
  member_part_by more of _ = pure of

  unfoldable pub member_parts_from : ℕ → Grown → Parser Grown
  member_parts_from zero of = pure of
  member_parts_from (suc m) of = do
    s ← peek
    member_part_by (member_parts_from m) of s

  unfoldable pub member_parts : Grown → Parser Grown
  member_parts of = λ i. member_parts_from (left i) of i

  -- Member = (New | Primary), then parts of a Member (13.3)
  unfoldable pub constructor : Parser Grown
  constructor = do
    s ← peek
    if same_sort s k.New then nest goal.New >>= member_parts else primary >>= member_parts

  -- Args of a `new`, behind its Member, or none
  unfoldable pub constructed : ℕ → Grown → Parser Grown
  constructed from of = do
    is_called ← eat k.LeftParenthesis
    if is_called
        then (do all ← arguments; complete (n.New of.tree (Some all.items)) from (max of.height all.tall))
        else complete (n.New of.tree None) from of.height

  -- New = "new" Member [Args]: Args directly behind a Member belong to the innermost New (13.3.5)
  unfoldable pub new_ : Parser Grown
  new_ = do
    from ← here
    expect k.New
    of ← constructor
    constructed from of

  -- ("++" | "--") Target, behind the operator (13.4)
  unfoldable pub stepped : ℕ → UpdateOp → Parser Grown
  stepped from op = do
    of ← left_side false
    if is_target of then complete (n.Update op of.tree) from of.height else refuse

  abbrev pub step_by : Grown → Option UpdateOp → Parser Grown
  step_by of (Some op) = take_token >> complete (n.Update op of.tree) (from_of of) of.height
  step_by of None = pure of

  -- Target ("++" | "--") | Left, with no line end before the operator
  unfoldable pub step_after : Parser Grown
  step_after = do
    of ← left_side true
    op ← (λ i. Ok (steps of i, i))
    step_by of op

  abbrev pub update_by : ℕ → Option UpdateOp → Parser Grown
  update_by from (Some op) = take_token >> stepped from op
  update_by from None = step_after

  unfoldable pub update : Parser Grown
  update = do
    from ← here
    s ← peek
    update_by from (update_before s)

  abbrev pub unary_by : ℕ → Option UnaryOp → Parser Grown
  unary_by from (Some op) = do
    take_token
    x ← nest goal.Unary
    complete (n.Unary op x.tree) from x.height
  unary_by from None = update

  -- Unary = operator Unary | Update (13.5)
  unfoldable pub unary_ : Parser Grown
  unary_ = do
    from ← here
    s ← peek
    unary_by from (prefix s)

  -- `**` and its right operand, if they stand behind an Update
  unfoldable pub raised : Grown → Parser Grown
  raised base = do
    is_raised ← eat k.Power
    if is_raised then (do x ← nest goal.Power; joined k.Power base x) else pure base

  -- Power = Unary | Update "**" Power (13.6)
  unfoldable pub power : Parser Grown
  power = do
    s ← peek
    base ← nest goal.Unary
    if is_prefix s then pure base else raised base

  -- The operators of all rows up to this one. A row's operands are of the rows below it, and the lowest ones are Powers.
  unfoldable pub binary_ : Bool → ℕ → Parser Grown
  binary_ has_in zero = nest goal.Power
  binary_ has_in (suc tighter) = binary_ has_in tighter >>= row_of has_in (binary_ has_in tighter) (suc tighter)

  -- `&&` and then `||`, behind their first operand
  unfoldable pub either : Bool → Grown → Parser Grown
  either has_in x = row_of has_in (binary_ has_in bit_or_row) and_row x >>= row_of has_in (binary_ has_in and_row) or_row

  -- Either `??`, or `||` and `&&`, stand between operands of the rows below them (13.13).
  unfoldable pub short_circuit : Bool → Parser Grown
  short_circuit has_in = do
    first ← binary_ has_in bit_or_row
    s ← peek
    if same_sort s k.Coalesce then row_of has_in (binary_ has_in bit_or_row) coalesce_row first else either has_in first

  unfoldable pub otherwise : Bool → Grown → Grown → Parser Grown
  otherwise has_in test one = do
    other ← nest (assign_goal has_in)
    complete (n.Cond test.tree one.tree other.tree) (from_of test) (tallest test.height one.height other.height)

  -- the second operand of a conditional has `in` (13.14)
  unfoldable pub chosen : Bool → Grown → Parser Grown
  chosen has_in test = do
    one ← nest goal.Assign
    expect k.Colon
    otherwise has_in test one

  -- Cond = Binary ["?" Assign ":" Assign] (13.14)
  unfoldable pub cond_ : Bool → Parser Grown
  cond_ has_in = do
    test ← short_circuit has_in
    is_chosen ← eat k.Question
    if is_chosen then chosen has_in test else pure test

  abbrev pub assign_by : Bool → ℕ → Grown → Option AssignOp → Parser Grown
  assign_by has_in from target (Some op) = do
    take_token
    value ← nest (assign_goal has_in)
    complete (n.Assign op target.tree value.tree (gives_name from target)) (from_of target) (max target.height value.height)
  assign_by has_in from target None = pure target

  -- Cond | Target operator Assign (13.15)
  unfoldable pub assign_or_cond : Bool → Parser Grown
  assign_or_cond has_in = do
    from ← here
    target ← cond_ has_in
    op ← (λ i. Ok (assigns target i, i))
    assign_by has_in from target op

  -- Assign = Arrow | Cond | Target operator Assign (13.15)
  unfoldable pub assign : Bool → Parser Grown
  assign has_in = λ i. if begins_arrow i then arrow nest has_in i else assign_or_cond has_in i
