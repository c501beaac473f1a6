-- The objects that each realm has as it is made, in order, with their kinds, prototypes and properties (ECMA-262 9.3, 17 to 20).
use Rattle.std.specs.Prelude.{ℕ, suc, ℤ, pos, List, [], ◌∷◌, ◌++◌, Bool, true, false, Option, None, Some, option_map, codes}
use Rattle.sr_model.specs.Values.{Text, Value, Simple, Undefined, Num, Str, Object}
use Rattle.sr_model.specs.Keys.{TextKey}
use Rattle.sr_model.specs.Properties.{Descriptor}
use Rattle.sr_model.specs.Kinds.{Kind, Ordinary, BuiltInFunction}
use Rattle.sr_model.specs.Objects as objects
use Rattle.sr_model.specs.Stores.{Store, empty_store}
use Rattle.sr_intrin.specs.declared.names.BuiltIn.{BuiltIn}
use Rattle.sr_intrin.specs.declared.names.BuiltIn.TheVariants as built_in
use Rattle.sr_intrin.specs.declared.names.ErrorName.{ErrorName}
use Rattle.sr_intrin.specs.declared.names.ErrorName.TheVariants as error
use Rattle.sr_intrin.specs.declared.names.Intrinsic.{Intrinsic}
use Rattle.sr_intrin.specs.declared.names.Intrinsic.TheVariants as intrinsic
use Rattle.sr_intrin.specs.Numbers.{number_of}

-- an object of the table: whether it is a function, with its name, and its prototype
pub record Row : Type 0 where
  pub function : Option (BuiltIn × Text)
  pub prototype : Option Intrinsic

abbrev pub ordinary : Option Intrinsic → Row
ordinary to = record { function = None; prototype = to }

abbrev pub function : BuiltIn → Text → Intrinsic → Row
function b name to = record { function = Some (b, name); prototype = Some to }

-- a property of the table: its object, key and value, and whether it may be written and configured. None is enumerable
pub record Entry : Type 0 where
  pub object : Intrinsic
  pub key : Text
  pub value : Value
  pub writable : Bool
  pub configurable : Bool

-- most properties (ECMA-262 17), the length and the name of a function, and what stays as it is
abbrev pub hidden : Intrinsic → Text → Value → Entry
hidden o k v = record { object = o; key = k; value = v; writable = true; configurable = true }

abbrev pub described : Intrinsic → Text → Value → Entry
described o k v = record { object = o; key = k; value = v; writable = false; configurable = true }

abbrev pub fixed : Intrinsic → Text → Value → Entry
fixed o k v = record { object = o; key = k; value = v; writable = false; configurable = false }

-- a value of the table: an object, a number, a text
abbrev pub object : Intrinsic → Value
object o = Object (number_of o)

abbrev pub number : ℕ → Value
number n = Simple (Num (Some (pos n)))

abbrev pub text : Text → Value
text s = Simple (Str s)

-- the text of an error's name (20.5.5)
abbrev pub name_text : ErrorName → Text
name_text error.Error = codes "Error"
name_text error.Type = codes "TypeError"
name_text error.Range = codes "RangeError"
name_text error.Syntax = codes "SyntaxError"
name_text error.Reference = codes "ReferenceError"

-- 20.5.2, 20.5.3, 20.5.6: the properties of the constructor and of the prototype of the errors of a name
abbrev pub error_entries : ErrorName → List Entry
error_entries name =
    (let of = intrinsic.Error name in let prototype = intrinsic.ErrorPrototype name in
    described of (codes "length") (number 1)
    ∷ described of (codes "name") (text (name_text name))
    ∷ fixed of (codes "prototype") (object prototype)
    ∷ hidden prototype (codes "constructor") (object of)
    ∷ hidden prototype (codes "name") (text (name_text name))
    ∷ hidden prototype (codes "message") (text [])
    ∷ [])

-- the objects
unfoldable pub rows : List Row
rows =
    ordinary (Some intrinsic.ObjectPrototype)
    ∷ ordinary None
    ∷ function built_in.FunctionPrototype [] intrinsic.ObjectPrototype
    ∷ function (built_in.Error error.Error) (name_text error.Error) intrinsic.FunctionPrototype
    ∷ ordinary (Some intrinsic.ObjectPrototype)
    ∷ function (built_in.Error error.Type) (name_text error.Type) (intrinsic.Error error.Error)
    ∷ ordinary (Some (intrinsic.ErrorPrototype error.Error))
    ∷ function (built_in.Error error.Range) (name_text error.Range) (intrinsic.Error error.Error)
    ∷ ordinary (Some (intrinsic.ErrorPrototype error.Error))
    ∷ function (built_in.Error error.Syntax) (name_text error.Syntax) (intrinsic.Error error.Error)
    ∷ ordinary (Some (intrinsic.ErrorPrototype error.Error))
    ∷ function (built_in.Error error.Reference) (name_text error.Reference) (intrinsic.Error error.Error)
    ∷ ordinary (Some (intrinsic.ErrorPrototype error.Error))
    ∷ ordinary (Some intrinsic.ObjectPrototype)
    ∷ ordinary (Some intrinsic.ObjectPrototype)
    ∷ ordinary (Some intrinsic.ObjectPrototype)
    ∷ function built_in.Print (codes "print") intrinsic.FunctionPrototype
    ∷ []

-- their properties, of each object in order
unfoldable pub entries : List Entry
entries =
    described intrinsic.FunctionPrototype (codes "length") (number 0)
    ∷ described intrinsic.FunctionPrototype (codes "name") (text [])
    ∷ error_entries error.Error
    ++ error_entries error.Type
    ++ error_entries error.Range
    ++ error_entries error.Syntax
    ++ error_entries error.Reference
    ++ described intrinsic.Print (codes "length") (number 0)
    ∷ described intrinsic.Print (codes "name") (text (codes "print"))
    ∷ hidden intrinsic.Global (codes "globalThis") (object intrinsic.Global)
    ∷ fixed intrinsic.Global (codes "NaN") (Simple (Num None))
    ∷ fixed intrinsic.Global (codes "undefined") (Simple Undefined)
    ∷ hidden intrinsic.Global (codes "print") (object intrinsic.Print)
    ∷ hidden intrinsic.Global (name_text error.Error) (object (intrinsic.Error error.Error))
    ∷ hidden intrinsic.Global (name_text error.Type) (object (intrinsic.Error error.Type))
    ∷ hidden intrinsic.Global (name_text error.Range) (object (intrinsic.Error error.Range))
    ∷ hidden intrinsic.Global (name_text error.Syntax) (object (intrinsic.Error error.Syntax))
    ∷ hidden intrinsic.Global (name_text error.Reference) (object (intrinsic.Error error.Reference))
    ∷ []

-- the kind of an object
abbrev pub kind : {Code : Type 0} → Option (BuiltIn × Text) → Kind Code BuiltIn
kind None = Ordinary
kind (Some f) = BuiltInFunction (record { function = f.0; name = f.1; kept = [] })

-- the descriptor of a property
abbrev pub descriptor : Entry → Descriptor
descriptor e = record { value = Some e.value; writable = Some e.writable; get = None; set = None; enumerable = Some false; configurable = Some e.configurable }

module _ {Code : Type 0} where
  -- the objects are made in order
  abbrev pub make_objects : List Row → List (objects.Object (Kind Code BuiltIn)) → List (objects.Object (Kind Code BuiltIn))
  make_objects [] os = os
  make_objects (r ∷ rs) os = make_objects rs (objects.make_object os (kind r.function) None)

  -- each gets its prototype
  abbrev pub set_prototypes : ℕ → List Row → List (objects.Object (Kind Code BuiltIn)) → List (objects.Object (Kind Code BuiltIn))
  set_prototypes n [] os = os
  set_prototypes n (r ∷ rs) os = set_prototypes (suc n) rs (objects.set_prototype os n (option_map number_of r.prototype))

  -- and its properties
  abbrev pub define_one : Entry → List (objects.Object (Kind Code BuiltIn)) → List (objects.Object (Kind Code BuiltIn))
  define_one e os = objects.define os (number_of e.object) (TextKey e.key) (descriptor e)

  abbrev pub define_all : List Entry → List (objects.Object (Kind Code BuiltIn)) → List (objects.Object (Kind Code BuiltIn))
  define_all [] os = os
  define_all (e ∷ es) os = define_all es (define_one e os)

  -- what a realm keeps as it is made
  unfoldable pub first_store : Store Code BuiltIn
  first_store = record empty_store { objects = define_all entries (set_prototypes 1 rows (make_objects rows [])) }
