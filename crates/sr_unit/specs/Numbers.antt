-- The numbers of the trees of a unit, from 0: a tree before its parts, and parts in their order.
use Rattle.std.specs.Prelude.{ℕ, suc, List, [], ◌∷◌, map, Option, None, Some}
use Rattle.sr_ast.specs.declared.tree.Tree.{Tree, Tree-F, roll-Tree, fold-Tree}
use Rattle.sr_ast.specs.declared.tree.Case.{Case, Case-F, roll-Case}
use Rattle.sr_ast.specs.declared.tree.Declaration.{Declaration, Declaration-F, roll-Declaration}
use Rattle.sr_ast.specs.declared.tree.Element.{Element, Element-F}
use Rattle.sr_ast.specs.declared.tree.Element.TheVariants as element
use Rattle.sr_ast.specs.declared.tree.Element.TheOpen as layer
use Rattle.sr_ast.specs.declared.tree.Node.{Node, Node-F}
use Rattle.sr_ast.specs.declared.tree.Node.TheVariants as node
use Rattle.sr_ast.specs.declared.tree.Property.{Property, Property-F}
use Rattle.sr_ast.specs.declared.tree.Property.TheVariants as property

-- with its trees numbered from a number on, and the number that comes next
abbrev pub Numbered : Type 0 → Type 0
Numbered X = ℕ → X × ℕ

infixl 10 ◌>>=◌
abbrev pub ◌>>=◌ : {X Y : Type 0} → Numbered X → (X → Numbered Y) → Numbered Y
p >>= f = λ n. f (p n).0 (p n).1

-- it has no trees
abbrev pub pure : {X : Type 0} → X → Numbered X
pure x = λ n. (x, n)

abbrev pub each : {X : Type 0} → List (Numbered X) → Numbered (List X)
each [] = pure []
each (p ∷ ps) = do x ← p; xs ← each ps; pure (x ∷ xs)

abbrev pub if_there : {X : Type 0} → Option (Numbered X) → Numbered (Option X)
if_there None = pure None
if_there (Some p) = do x ← p; pure (Some x)

-- what stands between commas is no tree
abbrev pub of_element : Element-F (Numbered Element) (Numbered Node) (Numbered Property) (Numbered Case) (Numbered Declaration) (Numbered Tree) → Numbered Element
of_element (layer.Value t) = do x ← t; pure (element.Value x)
of_element (layer.Element::Spread t) = do x ← t; pure (element.Spread x)
of_element layer.Hole = pure element.Hole

abbrev pub of_property : Property-F (Numbered Element) (Numbered Node) (Numbered Property) (Numbered Case) (Numbered Declaration) (Numbered Tree) → Numbered Property
of_property (layer.Named called t) = do x ← t; pure (property.Named called x)
of_property (layer.Computed s t) = do x ← s; y ← t; pure (property.Computed x y)
of_property (layer.Property::Spread t) = do x ← t; pure (property.Spread x)
of_property (layer.Property::Method t) = do x ← t; pure (property.Method x)

abbrev pub of_case : Case-F (Numbered Element) (Numbered Node) (Numbered Property) (Numbered Case) (Numbered Declaration) (Numbered Tree) → Numbered Case
of_case c = do test ← if_there c.test; body ← each c.body; pure (roll-Case (record { test = test; body = body }))

abbrev pub of_declaration : Declaration-F (Numbered Element) (Numbered Node) (Numbered Property) (Numbered Case) (Numbered Declaration) (Numbered Tree) → Numbered Declaration
of_declaration d = do value ← if_there d.value; pure (roll-Declaration (record { name = d.name; from = d.from; value = value }))

abbrev pub of_node : Node-F (Numbered Element) (Numbered Node) (Numbered Property) (Numbered Case) (Numbered Declaration) (Numbered Tree) → Numbered Node
of_node (layer.Sequence ts) = do xs ← each ts; pure (node.Sequence xs)
of_node (layer.Assign op s t named) = do x ← s; y ← t; pure (node.Assign op x y named)
of_node (layer.Cond c s t) = do x ← c; y ← s; z ← t; pure (node.Cond x y z)
of_node (layer.Logical op s t) = do x ← s; y ← t; pure (node.Logical op x y)
of_node (layer.Binary op s t) = do x ← s; y ← t; pure (node.Binary op x y)
of_node (layer.Unary op t) = do x ← t; pure (node.Unary op x)
of_node (layer.Update op t) = do x ← t; pure (node.Update op x)
of_node (layer.Member l t called) = do x ← t; pure (node.Member l x called)
of_node (layer.Index l s t) = do x ← s; y ← t; pure (node.Index l x y)
of_node (layer.Call l t es) = do x ← t; xs ← each es; pure (node.Call l x xs)
of_node (layer.New t None) = do x ← t; pure (node.New x None)
of_node (layer.New t (Some es)) = do x ← t; xs ← each es; pure (node.New x (Some xs))
of_node layer.This = pure node.This
of_node (layer.Name called) = pure (node.Name called)
of_node layer.Null = pure node.Null
of_node (layer.Bool b) = pure (node.Bool b)
of_node (layer.Num value) = pure (node.Num value)
of_node (layer.Text value) = pure (node.Text value)
of_node (layer.Template texts ts) = do xs ← each ts; pure (node.Template texts xs)
of_node (layer.Array es) = do xs ← each es; pure (node.Array xs)
of_node (layer.Object ps) = do xs ← each ps; pure (node.Object xs)
of_node (layer.Node::Method called ps ts) = do xs ← each ts; pure (node.Method called ps xs)
of_node (layer.ComputedMethod t ps ts) = do x ← t; xs ← each ts; pure (node.ComputedMethod x ps xs)
of_node (layer.Getter called ts) = do xs ← each ts; pure (node.Getter called xs)
of_node (layer.Setter called p ts) = do xs ← each ts; pure (node.Setter called p xs)
of_node (layer.Function called ps ts) = do xs ← each ts; pure (node.Function called ps xs)
of_node (layer.Arrow ps ts) = do xs ← each ts; pure (node.Arrow ps xs)
of_node (layer.ExpressionArrow ps t) = do x ← t; pure (node.ExpressionArrow ps x)
of_node (layer.Expression t) = do x ← t; pure (node.Expression x)
of_node (layer.Directive t) = do x ← t; pure (node.Directive x)
of_node (layer.Var ds) = do xs ← each ds; pure (node.Var xs)
of_node (layer.Lexical kind ds) = do xs ← each ds; pure (node.Lexical kind xs)
of_node (layer.FunctionDeclaration called ps ts) = do xs ← each ts; pure (node.FunctionDeclaration called ps xs)
of_node (layer.Block ts) = do xs ← each ts; pure (node.Block xs)
of_node layer.Empty = pure node.Empty
of_node (layer.If c s t) = do x ← c; y ← s; z ← if_there t; pure (node.If x y z)
of_node (layer.Do s c) = do x ← s; y ← c; pure (node.Do x y)
of_node (layer.While c s) = do x ← c; y ← s; pure (node.While x y)
of_node (layer.For a b c s) = do x ← if_there a; y ← if_there b; z ← if_there c; body ← s; pure (node.For x y z body)
of_node (layer.ForIn head s t) = do x ← s; y ← t; pure (node.ForIn head x y)
of_node (layer.ForInTarget a s t) = do x ← a; y ← s; z ← t; pure (node.ForInTarget x y z)
of_node (layer.ForOf head s t) = do x ← s; y ← t; pure (node.ForOf head x y)
of_node (layer.ForOfTarget a s t) = do x ← a; y ← s; z ← t; pure (node.ForOfTarget x y z)
of_node (layer.Continue label) = pure (node.Continue label)
of_node (layer.Break label) = pure (node.Break label)
of_node (layer.Return t) = do x ← if_there t; pure (node.Return x)
of_node (layer.Throw t) = do x ← t; pure (node.Throw x)
of_node layer.Debugger = pure node.Debugger
of_node (layer.Switch t cs) = do x ← t; xs ← each cs; pure (node.Switch x xs)
of_node (layer.Try s p h f) = do x ← s; y ← if_there h; z ← if_there f; pure (node.Try x p y z)
of_node (layer.Labelled label t) = do x ← t; pure (node.Labelled label x)
of_node (layer.Import first others called) = pure (node.Import first others called)
of_node (layer.ExportAll outer called) = pure (node.ExportAll outer called)
of_node (layer.ExportNames names called) = pure (node.ExportNames names called)
of_node (layer.Export t) = do x ← t; pure (node.Export x)
of_node (layer.ExportDefault t) = do x ← t; pure (node.ExportDefault x)

-- a tree takes the next number
abbrev pub of_tree : Tree-F (Numbered Element) (Numbered Node) (Numbered Property) (Numbered Case) (Numbered Declaration) (Numbered Tree) → Numbered Tree
of_tree t = λ n. (roll-Tree (record { node = (t.node (suc n)).0; from = t.from; to = t.to; number = n }), (t.node (suc n)).1)

unfoldable pub numbered : Tree → Numbered Tree
numbered t =
    fold-Tree (Numbered Element) (Numbered Node) (Numbered Property) (Numbered Case) (Numbered Declaration) (Numbered Tree)
    of_element of_node of_property of_case of_declaration of_tree t

-- items in order
abbrev pub numbered_all : List Tree → Numbered (List Tree)
numbered_all ts = each (map numbered ts)
