-- Object literals (ECMA-262 13.2.5, 15.4).
use Rattle.std.specs.Prelude.{ℕ, zero, suc, ◌+◌, max, Bool, true, false, not, ◌&&◌, ◌||◌, if◌then◌else◌, List, [], ◌∷◌, ◌++◌, Option, Some, None, Ok, codes}
use Rattle.std.specs.Str.{bytes_eq}
use Rattle.sr_ast.specs.declared.tree.Node.TheVariants as n
use Rattle.sr_ast.specs.declared.binding.PropertyName.{PropertyName}
use Rattle.sr_ast.specs.declared.binding.PropertyName.TheVariants as property_name_
use Rattle.sr_ast.specs.declared.tree.Property.{Property}
use Rattle.sr_ast.specs.declared.tree.Property.TheVariants as property
use Rattle.sr_syntax.specs.declared.grown.Properties.{Properties}
use Rattle.sr_syntax.specs.declared.grown.Accessor.{Accessor}
use Rattle.sr_syntax.specs.declared.grown.Accessor.TheVariants as accessor
use Rattle.sr_syntax.specs.declared.sorts.Sort.{Sort}
use Rattle.sr_syntax.specs.declared.sorts.Sort.TheVariants as k
use Rattle.sr_syntax.specs.declared.grown.Grown.{Grown}
use Rattle.sr_syntax.specs.declared.grown.Goal.{Goal}
use Rattle.sr_syntax.specs.declared.grown.Goal.TheVariants as goal
use Rattle.sr_syntax.specs.Input.{Input, Parser, ◌>>=◌, ◌>>◌, pure, refuse, sort, left, peek, here, take_token, take_text, take_number, sees, sees_word, sees_text, eat, expect, complete}
use Rattle.sr_syntax.specs.Bodies.{parameter_list, no_parameters, one_parameter, body}

abbrev pub proto : List ℕ
proto = codes "__proto__"

-- the key `__proto__` stands before no `:`
abbrev pub is_proto : PropertyName → Bool
is_proto (property_name_.Text called) = bytes_eq called proto
is_proto (property_name_.Number value) = false

abbrev pub no_properties : Properties
no_properties = record { items = []; tall = 0 }

abbrev pub with_property : Properties → Property × ℕ → Properties
with_property all one = record { items = all.items ++ one.0 ∷ []; tall = max all.tall one.1 }

abbrev pub text_key : Parser PropertyName
text_key = take_text >>= (λ called. pure (property_name_.Text called))

-- key = Name, String or Number
abbrev pub key_by : Bool → Sort → Parser PropertyName
key_by true s = text_key
key_by false k.Text = text_key
key_by false k.Number = take_number >>= (λ value. pure (property_name_.Number value))
key_by false _ = refuse

unfoldable pub key : Parser PropertyName
key = λ i. key_by (sees_word i) (sort i) i

-- whether a key comes next
unfoldable pub sees_key : Input → Bool
sees_key i = sees_word i || (sees k.Text i || sees k.Number i)

abbrev pub accessor_by : Bool → Bool → Option Accessor
accessor_by true b = Some accessor.Getter
accessor_by false true = Some accessor.Setter
accessor_by false false = None

-- `get` or `set`
unfoldable pub accessor_word : Input → Option Accessor
accessor_word i = accessor_by (sees_text (codes "get") i) (sees_text (codes "set") i)

-- a name alone: its value is that of the name
unfoldable pub shorthand : ℕ → List ℕ → Parser (Property × ℕ)
shorthand from called = do
  x ← complete (n.Name called) from 0
  pure (property.Named (property_name_.Text called) x.tree, x.height)

-- The parser of what is open while it is read, one level down.
module _ (nest : Goal → Parser Grown) where
  -- the value behind a key and ":"
  unfoldable pub value_of_key : PropertyName → Parser (Property × ℕ)
  value_of_key called = do
    x ← nest goal.Assign
    pure (property.Named called x.tree, x.height)

  -- "(" Params ")" Body of a method with this key
  unfoldable pub method : ℕ → PropertyName → Parser (Property × ℕ)
  method from called = do
    ps ← parameter_list
    all ← body nest
    x ← complete (n.Method called ps all.trees) from all.tall
    pure (property.Method x.tree, x.height)

  -- what stands behind a key that is no name, or is reserved: ":" Assign or a method
  unfoldable pub keyed : ℕ → PropertyName → Parser (Property × ℕ)
  keyed from called = λ i.
      if sees k.LeftParenthesis i then method from called i
      else (if sees k.Colon i && not (is_proto called) then (take_token >> value_of_key called) i else refuse i)

  -- a name that is not reserved may stand alone
  unfoldable pub named_property : ℕ → List ℕ → Parser (Property × ℕ)
  named_property from called = λ i.
      if sees k.LeftParenthesis i || sees k.Colon i then keyed from (property_name_.Text called) i
      else shorthand from called i

  unfoldable pub computed_value : Grown → Parser (Property × ℕ)
  computed_value x = do
    y ← nest goal.Assign
    pure (property.Computed x.tree y.tree, max x.height y.height)

  unfoldable pub computed_method : ℕ → Grown → Parser (Property × ℕ)
  computed_method from x = do
    ps ← parameter_list
    all ← body nest
    y ← complete (n.ComputedMethod x.tree ps all.trees) from (max x.height all.tall)
    pure (property.Method y.tree, y.height)

  unfoldable pub computed_end : ℕ → Grown → Parser (Property × ℕ)
  computed_end from x = λ i. if sees k.LeftParenthesis i then computed_method from x i else (expect k.Colon >> computed_value x) i

  -- "[" Assign "]" and ":" Assign or a method, behind the bracket
  unfoldable pub computed : ℕ → Parser (Property × ℕ)
  computed from = do
    x ← nest goal.Assign
    expect k.RightBracket
    computed_end from x

  -- get key "(" ")" Body, or set key "(" Name ")" Body, behind the first word
  unfoldable pub getter : ℕ → Parser (Property × ℕ)
  getter from = do
    called ← key
    no_parameters
    all ← body nest
    x ← complete (n.Getter called all.trees) from all.tall
    pure (property.Method x.tree, x.height)

  unfoldable pub setter : ℕ → Parser (Property × ℕ)
  setter from = do
    called ← key
    p ← one_parameter
    all ← body nest
    x ← complete (n.Setter called p all.trees) from all.tall
    pure (property.Method x.tree, x.height)

  abbrev pub accessor_of : ℕ → Accessor → Parser (Property × ℕ)
  accessor_of from accessor.Getter = getter from
  accessor_of from accessor.Setter = setter from

  -- behind `get` or `set`: an accessor where a key comes next, and else a property of that name
  unfoldable pub accessor_or_name : ℕ → Accessor → List ℕ → Parser (Property × ℕ)
  accessor_or_name from which called = λ i. if sees_key i then accessor_of from which i else named_property from called i

  unfoldable pub spread_property : Parser (Property × ℕ)
  spread_property = do
    x ← nest goal.Assign
    pure (property.Spread x.tree, x.height)

  abbrev pub plain_by : ℕ → Sort → Parser (Property × ℕ)
  plain_by from k.Ellipsis = take_token >> spread_property
  plain_by from k.LeftBracket = take_token >> computed from
  plain_by from k.Identifier = take_text >>= named_property from
  plain_by from _ = key >>= keyed from

  -- a property that begins with neither `get` nor `set`
  unfoldable pub plain_property : ℕ → Parser (Property × ℕ)
  plain_property from = do
    s ← peek
    plain_by from s

  abbrev pub property_by : ℕ → Option Accessor → Parser (Property × ℕ)
  property_by from (Some which) = take_text >>= accessor_or_name from which
  property_by from None = plain_property from

  unfoldable pub one_property : Parser (Property × ℕ)
  one_property = do
    from ← here
    which ← (λ i. Ok (accessor_word i, i))
    property_by from which

  unfoldable pub properties_from : ℕ → Properties → Parser Properties
  properties_from zero found = refuse
  properties_from (suc m) found = do
    is_over ← eat k.RightBrace
    if is_over then pure found else (do
      x ← one_property
      more ← eat k.Comma
      if more then properties_from m (with_property found x) else expect k.RightBrace >> pure (with_property found x))

  unfoldable pub properties : Parser Properties
  properties = λ i. properties_from (left i + 1) no_properties i

  -- Object = "{" properties by "," [","] "}", behind the first token
  unfoldable pub object : ℕ → Parser Grown
  object from = do
    all ← properties
    complete (n.Object all.items) from all.tall
