-- What a text is as a script or a module, or why it is none (ECMA-262 16.1, 16.2).
use Rattle.std.specs.Prelude.{◌≡◌, ℕ, List, Option, None, Some, Result, Ok, Err}
use Rattle.sr_text.specs.declared.goal.Goal.{Goal}
use Rattle.sr_text.specs.declared.goal.Goal.TheVariants as goal
use Rattle.sr_text.specs.declared.marker.Marker.{Marker}
use Rattle.sr_lex.specs.declared.token.Token.{Token}
use Rattle.sr_lex.specs.Tokens.{Tokens, FailsAfter}
use Rattle.sr_lex.specs.Failures.{failure_marker}
use Rattle.sr_ast.specs.declared.tree.Tree.{Tree}
use Rattle.sr_ast.specs.declared.refused.Refused.TheVariants as refused
use Rattle.sr_early.specs.Early.{early}
use Rattle.sr_syntax.specs.declared.refusal.Refusal.TheVariants as grammar
use Rattle.sr_syntax.specs.declared.refusal.Refusal as grammar_refusal
use Rattle.sr_parse.specs.Readings.{ReadsStatements, ReadsModule}
use Rattle.sr_marker.specs.Tokens.{token_marker}
use Rattle.sr_marker.specs.Places.{HasPlaceMarker}
use Rattle.sr_marker.specs.Refusals.{least, refusal_at}
use Rattle.sr_unit.specs.declared.refusal.Refusal.{Refusal}
use Rattle.sr_unit.specs.declared.refusal.Refusal.TheVariants.{Refused, Memory}

-- a marker at the place of a failure
abbrev pub marked_at : ℕ → Option Marker → Option (Marker × ℕ)
marked_at at None = None
marked_at at (Some m) = Some (m, at)

-- the refusal of a text in which, behind these tokens, none fits at a place. The grammar is not tried then
abbrev pub no_token : List ℕ → List Token → ℕ → Refusal
no_token text ts at = Refused (refusal_at at (least (token_marker text ts) (marked_at at (failure_marker text at))))

-- The tokens of the text are in the grammar of the goal as these items, or are not.
abbrev pub ReadsTokens : Goal → List ℕ → List Token → Result (List Tree) grammar_refusal.Refusal → Type 0
ReadsTokens goal.Script = ReadsStatements
ReadsTokens goal.Module = ReadsModule

-- What the tokens of the text are, by how the grammar reads them, and by the rules of the static semantics.
pub data Judges (g : Goal) (text : List ℕ) (ts : List Token) : Result (List Tree) grammar_refusal.Refusal → Result (List Tree) Refusal → Type 0 where
  -- it goes on with no token at a place
  fault : {at : ℕ} {m : Option (Marker × ℕ)} → HasPlaceMarker g text ts at m
      → Judges g text ts (Err (grammar.Syntax at)) (Err (Refused (refusal_at at (least (token_marker text ts) m))))
  too_deep : Judges g text ts (Err grammar.TooDeep) (Err (Refused refused.TooDeep))
  memory : Judges g text ts (Err grammar.Memory) (Err Memory)
  -- it reads items that break a rule of the static semantics, first at a place
  early_error : {items : List Tree} {at : ℕ} → early g items ≡ Some at
      → Judges g text ts (Ok items) (Err (Refused (refusal_at at (token_marker text ts))))
  -- it reads items that break none
  unit : {items : List Tree} → early g items ≡ None → Judges g text ts (Ok items) (Ok items)

-- What the text is: the items of a script or a module, or why it is none.
pub data Reads (g : Goal) (text : List ℕ) : Result (List Tree) Refusal → Type 0 where
  no_tokens : {ts : List Token} {at : ℕ} → FailsAfter text ts at → Reads g text (Err (no_token text ts at))
  tokens : {ts : List Token} {read : Result (List Tree) grammar_refusal.Refusal} {outcome : Result (List Tree) Refusal}
      → Tokens text ts → ReadsTokens g text ts read → Judges g text ts read outcome → Reads g text outcome
