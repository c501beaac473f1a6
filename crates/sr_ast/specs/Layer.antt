-- What a tree is, one layer of it.
use Rattle.sr_ast.specs.declared.tree.Tree.{Tree}
use Rattle.sr_ast.specs.declared.tree.Case.{Case}
use Rattle.sr_ast.specs.declared.tree.Declaration.{Declaration}
use Rattle.sr_ast.specs.declared.tree.Element.{Element}
use Rattle.sr_ast.specs.declared.tree.Property.{Property}
use Rattle.sr_ast.specs.declared.tree.Node.{Node, Node-F, out-Node}

abbrev pub Layer : Type 0
Layer = Node-F Element Node Property Case Declaration Tree

-- what this tree is
abbrev pub layer_of : Tree → Layer
layer_of t = out-Node t.node
