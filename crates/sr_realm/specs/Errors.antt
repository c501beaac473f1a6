-- Errors, and how one is made (ECMA-262 20.5).
use Rattle.std.specs.Prelude.{ℕ, false, true, length, ◌++◌, codes, None, Some}
use Rattle.std.specs.Fmt.{decimal}
use Rattle.sr_model.specs.Values.{Text, Simple, Str}
use Rattle.sr_model.specs.Keys.{TextKey}
use Rattle.sr_model.specs.Properties.{Descriptor}
use Rattle.sr_model.specs.Kinds.{Error}
use Rattle.sr_model.specs.Objects.{make_object, define}
use Rattle.sr_model.specs.Stores.{Store}
use Rattle.sr_intrin.specs.declared.names.ErrorName.{ErrorName}
use Rattle.sr_intrin.specs.declared.names.ErrorName.TheVariants as error
use Rattle.sr_intrin.specs.Numbers.{error_prototype}

-- what an error is made of: its name, which its prototype gives it, and its message
pub record ErrorParts : Type 0 where
  pub name : ErrorName
  pub message : Text

-- the property that holds the message
abbrev pub message_property : Text → Descriptor
message_property text = record { value = Some (Simple (Str text)); writable = Some true; get = None; set = None; enumerable = Some false; configurable = Some true }

-- 20.5.1.1, 20.5.6.1.1: a new error, which is the last object
abbrev pub with_error : {Code BuiltIn : Type 0} → ErrorParts → Store Code BuiltIn → Store Code BuiltIn
with_error e s =
    (let os = make_object s.objects Error (Some (error_prototype e.name)) in
    record s { objects = define os (length os) (TextKey (codes "message")) (message_property e.message) })

-- a text that breaks a rule of the grammar, or an early error, at this place (16.1.6 ParseScript)
abbrev pub syntax_message : ℕ → Text
syntax_message at = codes "syntax error at " ++ decimal at

abbrev pub syntax_error : ℕ → ErrorParts
syntax_error at = record { name = error.Syntax; message = syntax_message at }

-- a name that a script declares clashes with what is declared already (16.1.7)
abbrev pub declaration_error : ErrorParts
declaration_error = record { name = error.Syntax; message = codes "syntax error" }

-- a name that is nowhere bound, and one that has no value yet (6.2.5.5, 9.1.1.1.6)
abbrev pub not_defined : Text → ErrorParts
not_defined x = record { name = error.Reference; message = x ++ codes " is not defined" }

abbrev pub not_initialized : Text → ErrorParts
not_initialized x = record { name = error.Reference; message = x ++ codes " is not initialized" }

-- a name whose value stays (9.1.1.1.5)
abbrev pub is_constant : Text → ErrorParts
is_constant x = record { name = error.Type; message = x ++ codes " is constant" }

-- every other TypeError of an algorithm
abbrev pub type_error : ErrorParts
type_error = record { name = error.Type; message = codes "type error" }
