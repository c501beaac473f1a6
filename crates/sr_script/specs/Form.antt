-- The scripts that are built.
use Rattle.std.specs.Prelude.{ℕ, Bool, true, false, not, ◌&&◌, List, [], ◌∷◌, Option, None, Some, codes}
use Rattle.std.specs.List.{list_any}
use Rattle.sr_ast.specs.declared.tree.Tree.{Tree, Tree-F, para-Tree}
use Rattle.sr_ast.specs.declared.tree.Case.{Case, Case-F}
use Rattle.sr_ast.specs.declared.tree.Declaration.{Declaration, Declaration-F}
use Rattle.sr_ast.specs.declared.tree.Element.{Element, Element-F}
use Rattle.sr_ast.specs.declared.tree.Element.TheOpen as layer
use Rattle.sr_ast.specs.declared.tree.Node.{Node, Node-F}
use Rattle.sr_ast.specs.declared.tree.Property.{Property, Property-F}
use Rattle.sr_ast.specs.declared.operators.BinaryOp.{BinaryOp}
use Rattle.sr_ast.specs.declared.operators.BinaryOp.TheVariants as binary
use Rattle.sr_ast.specs.declared.operators.UnaryOp.{UnaryOp}
use Rattle.sr_ast.specs.declared.operators.UnaryOp.TheVariants as unary
use Rattle.sr_ast.specs.declared.operators.Link.{Link}
use Rattle.sr_ast.specs.declared.operators.Link.TheVariants as link
use Rattle.sr_ast.specs.Layer.{Layer, layer_of}
use Rattle.sr_model.specs.Values.{same}
use Rattle.sr_script.specs.Names.{Names}

-- whether a name is one of these
abbrev pub is_one_of : Names → List ℕ → Bool
is_one_of names x = list_any (same x) names

-- the names of the global object (ECMA-262 19), as far as it will have them
abbrev pub global_names : Names
global_names =
    codes "globalThis" ∷ codes "NaN" ∷ codes "undefined" ∷ codes "isNaN" ∷ codes "print" ∷ codes "Object" ∷ codes "Function" ∷ codes "Error"
    ∷ codes "TypeError" ∷ codes "RangeError" ∷ codes "SyntaxError" ∷ codes "ReferenceError" ∷ codes "Boolean" ∷ codes "Symbol"
    ∷ codes "Number" ∷ codes "Math" ∷ codes "String" ∷ codes "Array" ∷ codes "Map" ∷ codes "Set" ∷ codes "Promise" ∷ codes "ShadowRealm" ∷ []

-- a name that a script may declare: none of the global object, and not `eval`
unfoldable pub may_declare : List ℕ → Bool
may_declare x = not (is_one_of (codes "eval" ∷ global_names) x)

-- a name that is read: `undefined`, `NaN` or one that is declared
abbrev pub may_read : Names → List ℕ → Bool
may_read names x = is_one_of (codes "undefined" ∷ codes "NaN" ∷ names) x

-- the name of the one function that is called
abbrev pub is_print : List ℕ → Bool
is_print x = same x (codes "print")

-- whether a tree is a name of which this holds
abbrev pub is_name_at : (List ℕ → Bool) → Layer → Bool
is_name_at test (layer.Name x) = test x
is_name_at test l = false

abbrev pub is_name : (List ℕ → Bool) → Tree → Bool
is_name test t = is_name_at test (layer_of t)

-- a part, and whether it is of the form
abbrev pub Fits : Type 0 → Type 0
Fits A = A × Bool

abbrev pub all_fit : {A : Type 0} → List (Fits A) → Bool
all_fit [] = true
all_fit (f ∷ fs) = f.1 && all_fit fs

abbrev pub fits_if_there : {A : Type 0} → Option (Fits A) → Bool
fits_if_there None = true
fits_if_there (Some f) = f.1

-- the operators that ask for properties are not built: `in`, `instanceof` and `delete`
abbrev pub is_built : BinaryOp → Bool
is_built binary.InstanceOf = false
is_built binary.In = false
is_built op = true

abbrev pub is_prefix_built : UnaryOp → Bool
is_prefix_built unary.Delete = false
is_prefix_built op = true

-- nor are optional chains
abbrev pub is_plain : Link → Bool
is_plain link.Plain = true
is_plain l = false

module _ (names : Names) where
  -- an argument is an expression. One after `...` is not built
  abbrev pub element_fits : Element-F (Fits Element) (Fits Node) (Fits Property) (Fits Case) (Fits Declaration) (Fits Tree) → Bool
  element_fits (layer.Value t) = t.1
  element_fits x = false

  -- object literals and `switch` are not built
  abbrev pub property_fits : Property-F (Fits Element) (Fits Node) (Fits Property) (Fits Case) (Fits Declaration) (Fits Tree) → Bool
  property_fits x = false

  abbrev pub case_fits : Case-F (Fits Element) (Fits Node) (Fits Property) (Fits Case) (Fits Declaration) (Fits Tree) → Bool
  case_fits x = false

  -- `print` is called and nothing else, and it stands nowhere else; names are declared, and only these are written. What is not
  -- listed is not built
  abbrev pub node_fits : Node-F (Fits Element) (Fits Node) (Fits Property) (Fits Case) (Fits Declaration) (Fits Tree) → Bool
  node_fits (layer.Name x) = may_read names x
  node_fits (layer.Call l callee xs) = is_plain l && is_name is_print callee.0 && all_fit xs
  node_fits (layer.Assign op t b named) = is_name (is_one_of names) t.0 && b.1
  node_fits (layer.Update op t) = is_name (is_one_of names) t.0
  node_fits (layer.Sequence ts) = all_fit ts
  node_fits (layer.Cond a b c) = a.1 && b.1 && c.1
  node_fits (layer.Logical op a b) = a.1 && b.1
  node_fits (layer.Binary op a b) = is_built op && a.1 && b.1
  node_fits (layer.Unary op a) = is_prefix_built op && a.1
  node_fits layer.Null = true
  node_fits (layer.Bool b) = true
  node_fits (layer.Num n) = true
  node_fits (layer.Text s) = true
  node_fits (layer.Expression a) = a.1
  node_fits (layer.Directive a) = a.1
  node_fits (layer.Var ds) = all_fit ds
  node_fits (layer.Block ss) = all_fit ss
  node_fits layer.Empty = true
  node_fits (layer.If c a b) = c.1 && a.1 && fits_if_there b
  node_fits (layer.Do body test) = body.1 && test.1
  node_fits (layer.While test body) = test.1 && body.1
  node_fits (layer.For first test update body) = fits_if_there first && fits_if_there test && fits_if_there update && body.1
  node_fits (layer.Throw a) = a.1
  node_fits layer.Debugger = true
  node_fits l = false

  abbrev pub declaration_fits : Declaration-F (Fits Element) (Fits Node) (Fits Property) (Fits Case) (Fits Declaration) (Fits Tree) → Bool
  declaration_fits d = may_declare d.name && fits_if_there d.value

  abbrev pub tree_fits : Tree-F (Fits Element) (Fits Node) (Fits Property) (Fits Case) (Fits Declaration) (Fits Tree) → Bool
  tree_fits t = (let f = t.node in f.1)

  -- whether a tree is of the form
  unfoldable pub fits : Tree → Bool
  fits t = para-Tree Bool Bool Bool Bool Bool Bool element_fits node_fits property_fits case_fits declaration_fits tree_fits t

  abbrev pub script_fits : List Tree → Bool
  script_fits [] = true
  script_fits (t ∷ ts) = fits t && script_fits ts
