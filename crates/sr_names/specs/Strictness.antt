-- Strict mode code, and what may not stand in it (ECMA-262 11.2, 12.7.2, 13.1.1).
use Rattle.std.specs.Prelude.{ℕ, ◌-◌, ◌==◌, Bool, true, false, ◌&&◌, ◌||◌, List, [], ◌∷◌, ◌++◌, Option, None, Some, is_some, codes}
use Rattle.std.specs.Str.{bytes_eq}
use Rattle.sr_ast.specs.declared.binding.Binding.{Binding}
use Rattle.sr_ast.specs.declared.operators.UnaryOp.{UnaryOp}
use Rattle.sr_ast.specs.declared.operators.UnaryOp.TheVariants as unary
use Rattle.sr_ast.specs.declared.tree.Tree.{Tree, out-Tree}
use Rattle.sr_ast.specs.declared.tree.Element.TheOpen as layer
use Rattle.sr_ast.specs.Layer.{Layer, layer_of}

-- ---- directives

-- `use strict` as a literal of 12 code units, so that no escape and no line end within it makes it
abbrev pub is_use_strict_at : ℕ → Layer → Bool
is_use_strict_at size (layer.Text value) = bytes_eq value (codes "use strict") && (size == 12)
is_use_strict_at size l = false

unfoldable pub is_use_strict : Tree → Bool
is_use_strict x = is_use_strict_at ((out-Tree x).to - (out-Tree x).from) (layer_of x)

-- the place of the first of the directives at the beginning that says so (11.2.1)
abbrev pub directive_by : Bool → ℕ → Option ℕ → Option ℕ
directive_by true at rest = Some at
directive_by false at rest = rest

abbrev pub directive_at : ℕ → Option ℕ → Layer → Option ℕ
directive_at at rest (layer.Directive x) = directive_by (is_use_strict x) at rest
directive_at at rest l = None

abbrev pub strict_directive : List Tree → Option ℕ
strict_directive [] = None
strict_directive (t ∷ ts) = directive_at (out-Tree t).from (strict_directive ts) (layer_of t)

-- whether one of them says so
abbrev pub says_strict : List Tree → Bool
says_strict ts = is_some (strict_directive ts)

-- ---- names

-- a place, where something is wrong with it
abbrev pub place_if : Bool → ℕ → List ℕ
place_if true at = at ∷ []
place_if false at = []

-- 12.7.2: the names that are reserved in strict mode code alone. (`let` and `yield` are reserved in any code here.)
unfoldable pub is_reserved : List ℕ → Bool
is_reserved x =
    bytes_eq x (codes "implements") || (bytes_eq x (codes "interface") || (bytes_eq x (codes "package") || (bytes_eq x (codes "private")
    || (bytes_eq x (codes "protected") || (bytes_eq x (codes "public") || bytes_eq x (codes "static"))))))

abbrev pub is_eval : List ℕ → Bool
is_eval x = bytes_eq x (codes "eval")

-- 13.1.1, of an IdentifierReference and a LabelIdentifier
abbrev pub reference_faults : Bool → List ℕ → ℕ → List ℕ
reference_faults strict x at = place_if (strict && is_reserved x) at

-- 13.1.1, of a BindingIdentifier: it is not `eval` either
abbrev pub binding_faults : Bool → Binding → List ℕ
binding_faults strict b = place_if (strict && (is_eval b.name || is_reserved b.name)) b.from

abbrev pub bindings_faults : Bool → List Binding → List ℕ
bindings_faults strict [] = []
bindings_faults strict (b ∷ bs) = binding_faults strict b ++ bindings_faults strict bs

-- ---- operands

-- 8.6.4, AssignmentTargetType: `eval` is no target. (13.4.1, 13.15.1, 14.7.5.1)
abbrev pub target_at : Bool → ℕ → Layer → List ℕ
target_at strict at (layer.Name x) = place_if (strict && is_eval x) at
target_at strict at l = []

abbrev pub target_faults : Bool → Tree → List ℕ
target_faults strict t = target_at strict (out-Tree t).from (layer_of t)

-- 13.5.1.1: what is deleted is no name
abbrev pub is_name_at : Layer → Bool
is_name_at (layer.Name x) = true
is_name_at l = false

abbrev pub is_name : Tree → Bool
is_name t = is_name_at (layer_of t)

abbrev pub unary_faults : Bool → UnaryOp → Tree → ℕ → List ℕ
unary_faults strict unary.Delete t at = place_if (strict && is_name t) at
unary_faults strict op t at = []
