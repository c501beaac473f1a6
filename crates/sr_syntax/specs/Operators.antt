-- Operators, and what rules make of trees (ECMA-262 13).
use Rattle.std.specs.Prelude.{ℕ, zero, suc, max, Bool, true, false, not, ◌&&◌, if◌then◌else◌, ◌==◌, List, [], ◌∷◌, ◌++◌, Option, Some, None}
use Rattle.sr_ast.specs.declared.operators.BinaryOp.TheVariants as binary
use Rattle.sr_ast.specs.declared.operators.LogicalOp.TheVariants as logical
use Rattle.sr_ast.specs.declared.operators.AssignOp.{AssignOp}
use Rattle.sr_ast.specs.declared.operators.AssignOp.TheVariants.{Plain, Compound, Logical}
use Rattle.sr_ast.specs.declared.operators.UnaryOp.{UnaryOp}
use Rattle.sr_ast.specs.declared.operators.UnaryOp.TheVariants as unary
use Rattle.sr_ast.specs.declared.operators.UpdateOp.{UpdateOp}
use Rattle.sr_ast.specs.declared.operators.UpdateOp.TheVariants as update_op
use Rattle.sr_ast.specs.declared.operators.Link.{Link}
use Rattle.sr_ast.specs.declared.operators.Link.TheVariants as link
use Rattle.sr_ast.specs.declared.tree.Tree.{Tree, out-Tree}
use Rattle.sr_ast.specs.declared.tree.Node.{Node}
use Rattle.sr_ast.specs.declared.tree.Node.TheVariants as n
use Rattle.sr_ast.specs.declared.tree.Element.TheOpen as layer
use Rattle.sr_ast.specs.declared.tree.Element.{Element}
use Rattle.sr_ast.specs.declared.tree.Element.TheVariants as element
use Rattle.sr_ast.specs.Layer.{Layer, layer_of}
use Rattle.sr_syntax.specs.declared.sorts.Sort.{Sort}
use Rattle.sr_syntax.specs.declared.sorts.Sort.TheVariants as k
use Rattle.sr_syntax.specs.declared.grown.Grown.{Grown}
use Rattle.sr_syntax.specs.declared.grown.Grove.{Grove}
use Rattle.sr_syntax.specs.declared.grown.Elements.{Elements}
use Rattle.sr_syntax.specs.declared.grown.Pieces.{Pieces}
use Rattle.sr_syntax.specs.declared.grown.Part.{Part}
use Rattle.sr_syntax.specs.declared.operators.PartSort.{PartSort}
use Rattle.sr_syntax.specs.declared.operators.PartSort.TheVariants as part
use Rattle.sr_syntax.specs.declared.grown.Goal.{Goal}
use Rattle.sr_syntax.specs.declared.grown.Goal.TheVariants as goal
use Rattle.sr_syntax.specs.Sorts.{same_sort}
use Rattle.sr_syntax.specs.Input.{Input, Parser, ◌>>=◌, ◌>>◌, pure, refuse, sort, line_before, left, peek, take_token, take_text, sees, sees_word, complete}

-- ---- operators

-- what stands before its operand (13.5)
abbrev pub prefix : Sort → Option UnaryOp
prefix k.Delete = Some unary.Delete
prefix k.Void = Some unary.Void
prefix k.Typeof = Some unary.Typeof
prefix k.Plus = Some unary.Plus
prefix k.Minus = Some unary.Minus
prefix k.BitNot = Some unary.BitNot
prefix k.Not = Some unary.Not
prefix _ = None

abbrev pub is_prefix_of : Option UnaryOp → Bool
is_prefix_of None = false
is_prefix_of (Some op) = true

-- whether an operator stands before its operand
unfoldable pub is_prefix : Sort → Bool
is_prefix s = is_prefix_of (prefix s)

-- `++` and `--` before their operand (13.4)
abbrev pub update_before : Sort → Option UpdateOp
update_before k.Increment = Some update_op.PreIncrement
update_before k.Decrement = Some update_op.PreDecrement
update_before _ = None

-- and after it
abbrev pub update_after : Sort → Option UpdateOp
update_after k.Increment = Some update_op.PostIncrement
update_after k.Decrement = Some update_op.PostDecrement
update_after _ = None

-- the operators of assignments (13.15)
abbrev pub assignment : Sort → Option AssignOp
assignment k.Assign = Some Plain
assignment k.AssignPower = Some (Compound binary.Power)
assignment k.AssignMultiply = Some (Compound binary.Multiply)
assignment k.AssignDivide = Some (Compound binary.Divide)
assignment k.AssignRemainder = Some (Compound binary.Remainder)
assignment k.AssignAdd = Some (Compound binary.Add)
assignment k.AssignSubtract = Some (Compound binary.Subtract)
assignment k.AssignShiftLeft = Some (Compound binary.ShiftLeft)
assignment k.AssignShiftRight = Some (Compound binary.ShiftRight)
assignment k.AssignShiftRightUnsigned = Some (Compound binary.ShiftRightUnsigned)
assignment k.AssignBitAnd = Some (Compound binary.And)
assignment k.AssignBitXor = Some (Compound binary.Xor)
assignment k.AssignBitOr = Some (Compound binary.Or)
assignment k.AssignAnd = Some (Logical logical.And)
assignment k.AssignOr = Some (Logical logical.Or)
assignment k.AssignCoalesce = Some (Logical logical.Coalesce)
assignment _ = None

-- The row of a binary operator, the tightest first; 0 for none (13.6 to 13.13).
abbrev pub row : Sort → ℕ
row k.Multiply = 1
row k.Divide = 1
row k.Remainder = 1
row k.Plus = 2
row k.Minus = 2
row k.ShiftLeft = 3
row k.ShiftRight = 3
row k.ShiftRightUnsigned = 3
row k.Less = 4
row k.Greater = 4
row k.LessOrEqual = 4
row k.GreaterOrEqual = 4
row k.InstanceOf = 4
row k.In = 4
row k.Equal = 5
row k.NotEqual = 5
row k.StrictEqual = 5
row k.StrictNotEqual = 5
row k.BitAnd = 6
row k.BitXor = 7
row k.BitOr = 8
row k.And = 9
row k.Or = 10
row k.Coalesce = 11
row _ = 0

abbrev pub bit_or_row : ℕ
bit_or_row = 8

abbrev pub and_row : ℕ
and_row = 9

abbrev pub or_row : ℕ
or_row = 10

abbrev pub coalesce_row : ℕ
coalesce_row = 11

-- `in` is no operator where the head of a `for` may be one over keys (14.7)
abbrev pub admits : Bool → Sort → Bool
admits true s = true
admits false s = not (same_sort s k.In)

-- whether an operator stands in a row, where `in` is one or is none
unfoldable pub is_in : Bool → ℕ → Sort → Bool
is_in has_in level s = (row s == level) && admits has_in s

-- what an operator between two operands makes of them
abbrev pub joined_node : Sort → Tree → Tree → Node
joined_node k.Multiply x y = n.Binary binary.Multiply x y
joined_node k.Divide x y = n.Binary binary.Divide x y
joined_node k.Remainder x y = n.Binary binary.Remainder x y
joined_node k.Plus x y = n.Binary binary.Add x y
joined_node k.Minus x y = n.Binary binary.Subtract x y
joined_node k.ShiftLeft x y = n.Binary binary.ShiftLeft x y
joined_node k.ShiftRight x y = n.Binary binary.ShiftRight x y
joined_node k.ShiftRightUnsigned x y = n.Binary binary.ShiftRightUnsigned x y
joined_node k.Less x y = n.Binary binary.Less x y
joined_node k.Greater x y = n.Binary binary.Greater x y
joined_node k.LessOrEqual x y = n.Binary binary.LessOrEqual x y
joined_node k.GreaterOrEqual x y = n.Binary binary.GreaterOrEqual x y
joined_node k.InstanceOf x y = n.Binary binary.InstanceOf x y
joined_node k.In x y = n.Binary binary.In x y
joined_node k.Equal x y = n.Binary binary.Equal x y
joined_node k.NotEqual x y = n.Binary binary.NotEqual x y
joined_node k.StrictEqual x y = n.Binary binary.StrictEqual x y
joined_node k.StrictNotEqual x y = n.Binary binary.StrictNotEqual x y
joined_node k.BitAnd x y = n.Binary binary.And x y
joined_node k.BitXor x y = n.Binary binary.Xor x y
joined_node k.BitOr x y = n.Binary binary.Or x y
joined_node k.And x y = n.Logical logical.And x y
joined_node k.Or x y = n.Logical logical.Or x y
joined_node k.Coalesce x y = n.Logical logical.Coalesce x y
joined_node _ x y = n.Binary binary.Power x y

-- ---- trees

-- where a tree begins
unfoldable pub from_of : Grown → ℕ
from_of x = (out-Tree x.tree).from

-- A target is a name, or a property that is in no optional chain. Parentheses around it make no tree (13.15.1).
abbrev pub is_target_at : Layer → Bool
is_target_at (layer.Name called) = true
is_target_at (layer.Member link.Plain x called) = true
is_target_at (layer.Index link.Plain x y) = true
is_target_at _ = false

unfoldable pub is_target : Grown → Bool
is_target x = is_target_at (layer_of x.tree)

-- a name
abbrev pub is_name_at : Layer → Bool
is_name_at (layer.Name called) = true
is_name_at _ = false

-- A function without a name takes that of a target which is a name and stands in no parentheses, so that it begins where the
-- assignment does (13.15.2).
unfoldable pub gives_name : ℕ → Grown → Bool
gives_name from x = is_name_at (layer_of x.tree) && (from_of x == from)

-- `new` without arguments (13.3.5)
abbrev pub is_bare_new_at : Layer → Bool
is_bare_new_at (layer.New x None) = true
is_bare_new_at _ = false

unfoldable pub is_bare_new : Grown → Bool
is_bare_new x = is_bare_new_at (layer_of x.tree)

-- how a part is linked to what stands before it, within an optional chain or outside
abbrev pub link_in : Bool → Link
link_in true = link.Chained
link_in false = link.Plain

-- the operator of an assignment, where one stands behind a target
unfoldable pub assigns : Grown → Input → Option AssignOp
assigns x i = if is_target x then assignment (sort i) else None

-- `++` or `--`, where one stands behind a target and on its line
unfoldable pub steps : Grown → Input → Option UpdateOp
steps x i = if is_target x && not (line_before i) then update_after (sort i) else None

unfoldable pub tallest : ℕ → ℕ → ℕ → ℕ
tallest a b c = max a (max b c)

abbrev pub none : Grove
none = record { trees = []; tall = 0 }

abbrev pub with : Grove → Grown → Grove
with all one = record { trees = all.trees ++ one.tree ∷ []; tall = max all.tall one.height }

abbrev pub no_elements : Elements
no_elements = record { items = []; tall = 0 }

abbrev pub with_element : Elements → Element → ℕ → Elements
with_element all one height = record { items = all.items ++ one ∷ []; tall = max all.tall height }

abbrev pub with_value : Elements → Grown → Elements
with_value all x = with_element all (element.Value x.tree) x.height

abbrev pub with_spread : Elements → Grown → Elements
with_spread all x = with_element all (element.Spread x.tree) x.height

abbrev pub with_hole : Elements → Elements
with_hole all = with_element all element.Hole 0

-- a template that begins with this text
abbrev pub one_piece : List ℕ → Pieces
one_piece text = record { texts = text ∷ []; trees = []; tall = 0 }

-- with an expression and the text behind it
abbrev pub with_piece : Pieces → Grown → List ℕ → Pieces
with_piece all x text = record { texts = all.texts ++ text ∷ []; trees = all.trees ++ x.tree ∷ []; tall = max all.tall x.height }

abbrev pub nothing : Part
nothing = record { tree = None; height = 0 }

abbrev pub part_of : Grown → Part
part_of x = record { tree = Some x.tree; height = x.height }

-- a name that is not reserved (13.1)
unfoldable pub name : Parser (List ℕ)
name = λ i. if sees k.Identifier i then take_text i else refuse i

-- a name, reserved or not, as that of a property (12.7)
unfoldable pub property_name : Parser (List ℕ)
property_name = λ i. if sees_word i then take_text i else refuse i

unfoldable pub joined : Sort → Grown → Grown → Parser Grown
joined s x y = complete (joined_node s x.tree y.tree) (from_of x) (max x.height y.height)

-- The operators of one row behind a first operand, and the operands between them, to the left.
unfoldable pub row_from : Bool → Parser Grown → ℕ → ℕ → Grown → Parser Grown
row_from has_in operand level zero x = pure x
row_from has_in operand level (suc m) x = do
  s ← peek
  if is_in has_in level s then (do
    take_token
    y ← operand
    both ← joined s x y
    row_from has_in operand level m both)
      else pure x

unfoldable pub row_of : Bool → Parser Grown → ℕ → Grown → Parser Grown
row_of has_in operand level x = λ i. row_from has_in operand level (left i) x i

-- an Assign, with `in` as an operator or without
abbrev pub assign_goal : Bool → Goal
assign_goal true = goal.Assign
assign_goal false = goal.AssignWithoutIn

-- an expression as a statement; a string literal in no parentheses begins where the statement does (14.5, 11.2.1)
abbrev pub statement_node_at : Bool → Tree → Layer → Node
statement_node_at true x (layer.Text value) = n.Directive x
statement_node_at is_bare x l = n.Expression x

unfoldable pub statement_node : ℕ → Grown → Node
statement_node from x = statement_node_at (from_of x == from) x.tree (layer_of x.tree)

-- a template with no expression in it (13.2.8)
unfoldable pub plain_template : ℕ → Parser Grown
plain_template from = do
  text ← take_text
  complete (n.Template (one_piece text).texts (one_piece text).trees) from 0

-- a property by its name, behind the `.` (13.3.2)
unfoldable pub member : Link → Grown → Parser Grown
member l of = do
  called ← property_name
  complete (n.Member l of.tree called) (from_of of) of.height

-- by its first token, the part that stands behind an expression: "." name, "[" Expr "]", Args, or "?." with one of them,
-- which a Target has not
abbrev pub part_sort : Bool → Sort → PartSort
part_sort has_optional k.Dot = part.Member
part_sort has_optional k.LeftBracket = part.Index
part_sort has_optional k.LeftParenthesis = part.Call
part_sort true k.QuestionDot = part.Optional
part_sort has_optional _ = part.None
