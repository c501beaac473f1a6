-- What derives has a token.
use Rattle.std.proofs.Common.{ℕ, ◌<◌, Bool, List, [], ◌∷◌, ◌++◌, length, Option, length-append, arith}
use Rattle.sr_ast.specs.declared.tree.Declaration.{Declaration}
use Rattle.sr_syntax.specs.declared.sorts.Lexeme.{Lexeme}
use Rattle.sr_syntax.specs.declared.grown.Grown.{Grown}
use Rattle.sr_grammar.specs.Derivations as g
use Rattle.sr_grammar.specs.Derivations.{Symbol, Derives, Declares, Declarations, Block, States, IsItem}

-- a token that stands first, or behind others
pub at_first : (t : Lexeme) (us : List Lexeme) → 0 < length (t ∷ us)
at_first t us = omega arith

amid : (us : List Lexeme) (t : Lexeme) (vs : List Lexeme) → 0 < length (us ++ t ∷ vs)
amid us t vs = let e = length-append us (t ∷ vs) in omega (arith, e)

before : (us vs : List Lexeme) → 0 < length us → 0 < length (us ++ vs)
before us vs some = let e = length-append us vs in omega (arith, e, some)

mutual
  pub some_tokens : {d : ℕ} {s : Symbol} {us : List Lexeme} {x : Grown} → Derives d s us x → 0 < length us
  some_tokens (g.single h) = some_tokens h
  some_tokens (g.sequence {us} {vs} h t i j) = amid us t vs
  some_tokens (g.unassigned h i) = some_tokens h
  some_tokens (g.assigned {us} {vs} h i j t k l) = amid us t vs
  some_tokens (g.arrow {us} {vs} h t i j k) = amid us t vs
  some_tokens (g.expression_arrow {us} {vs} h t i j k l) = amid us t vs
  some_tokens (g.unchosen h) = some_tokens h
  some_tokens (g.chosen {us} {vs} {ws} h t i j u k l) = amid us t (vs ++ u ∷ ws)
  some_tokens (g.logical h) = some_tokens h
  some_tokens (g.coalesced h) = some_tokens h
  some_tokens (g.coalesce {us} {vs} h t i j) = amid us t vs
  some_tokens (g.head_more h) = some_tokens h
  some_tokens (g.head_first h) = some_tokens h
  some_tokens (g.operand h) = some_tokens h
  some_tokens (g.tighter h) = some_tokens h
  some_tokens (g.binary {us} {vs} h t i j k) = amid us t vs
  some_tokens (g.unraised h) = some_tokens h
  some_tokens (g.raised {us} {vs} h t i j) = amid us t vs
  some_tokens (g.unary {us} {t} h i) = at_first t us
  some_tokens (g.no_operator h) = some_tokens h
  some_tokens (g.before {us} {t} h i j) = at_first t us
  some_tokens (g.after {us} h i t j k) = amid us t []
  some_tokens (g.no_step h) = some_tokens h
  some_tokens (g.bare h i) = some_tokens h
  some_tokens (g.chain h) = some_tokens h
  some_tokens (g.one_primary h) = some_tokens h
  some_tokens (g.one_new h i) = some_tokens h
  some_tokens (g.named {us} h t i u j) = amid us t (u ∷ [])
  some_tokens (g.indexed {us} {vs} h t i j u k) = amid us t (vs ++ u ∷ [])
  some_tokens (g.called {us} {vs} h t i j) = amid us t vs
  some_tokens (g.optional_named {us} h t i u j) = amid us t (u ∷ [])
  some_tokens (g.optional_indexed {us} {vs} h t i w j k u l) = amid us t (w ∷ (vs ++ u ∷ []))
  some_tokens (g.optional_called {us} {vs} h t i w j k) = amid us t (w ∷ vs)
  some_tokens (g.new_called {us} {vs} {t} h i u j k) = at_first t (us ++ u ∷ vs)
  some_tokens (g.new_bare {us} {t} h i) = at_first t us
  some_tokens (g.of_member h) = some_tokens h
  some_tokens (g.of_bare h i) = some_tokens h
  some_tokens (g.member_primary h) = some_tokens h
  some_tokens (g.member_new h i) = some_tokens h
  some_tokens (g.member_named {us} h t i u j) = amid us t (u ∷ [])
  some_tokens (g.member_indexed {us} {vs} h t i j u k) = amid us t (vs ++ u ∷ [])
  some_tokens (g.this {t} h) = at_first t []
  some_tokens (g.name {t} h) = at_first t []
  some_tokens (g.null {t} h) = at_first t []
  some_tokens (g.true_literal {t} h) = at_first t []
  some_tokens (g.false_literal {t} h) = at_first t []
  some_tokens (g.number {t} h) = at_first t []
  some_tokens (g.text {t} h) = at_first t []
  some_tokens (g.plain_template {t} h) = at_first t []
  some_tokens (g.template {us} {vs} {t} h i j u k) = at_first t (us ++ (vs ++ u ∷ []))
  some_tokens (g.array {us} {t} h i) = at_first t us
  some_tokens (g.object {us} {t} h i) = at_first t us
  some_tokens (g.function_alone {us} {t} h i) = at_first t us
  some_tokens (g.function_named {us} {t} {u} h i j) = at_first t (u ∷ us)
  some_tokens (g.parenthesized {us} {t} h i u j) = at_first t (us ++ u ∷ [])

  pub declared_some : {b : Bool} {d : ℕ} {us : List Lexeme} {t : Lexeme} {value : Option Grown} → Declares b d us t value → 0 < length us
  declared_some (g.no_value t h) = at_first t []
  declared_some (g.a_value {us} t u h i j) = at_first t (u ∷ us)

  pub declarations_some : {b : Bool} {d : ℕ} {us : List Lexeme} {ds : List Declaration} {tall : ℕ} → Declarations b d us ds tall → 0 < length us
  declarations_some (g.one_declaration h) = declared_some h
  declarations_some (g.one_more_declaration {us} {vs} h t i j) = amid us t vs

  pub block_some : {d : ℕ} {us : List Lexeme} {x : Grown} → Block d us x → 0 < length us
  block_some (g.items_in_braces {us} t h u i j) = at_first t (us ++ u ∷ [])

  pub statement_some : {d : ℕ} {us ts : List Lexeme} {x : Grown} → States d us ts x → 0 < length us
  statement_some (g.expression_statement {us} {vs} h i j k) = before us vs (some_tokens j)
  statement_some (g.block h) = block_some h
  statement_some (g.empty t h) = at_first t []
  statement_some (g.var {us} {vs} t h i j) = at_first t (us ++ vs)
  statement_some (g.if_alone {us} {vs} t h i j k) = at_first t (us ++ vs)
  statement_some (g.if_else {us} {vs} {ws} t h i u j k l) = at_first t (us ++ (vs ++ u ∷ ws))
  statement_some (g.do_alone {us} {vs} t h u i j k l) = at_first t (us ++ u ∷ vs)
  statement_some (g.do_ended {us} {vs} t h u v i j k l) = at_first t (us ++ u ∷ (vs ++ v ∷ []))
  statement_some (g.while {us} {vs} t h i j) = at_first t (us ++ vs)
  statement_some (g.for {us} {vs} {ws} {zs} t u h i j k l m) = at_first t (u ∷ (us ++ (vs ++ (ws ++ zs))))
  statement_some (g.for_in {us} {vs} t u v w i h j k l m n p o q) = at_first t (u ∷ v ∷ w ∷ i ∷ (us ++ p ∷ vs))
  statement_some (g.for_of {us} {vs} t u v w i h j k l m n p o q) = at_first t (u ∷ v ∷ w ∷ i ∷ (us ++ p ∷ vs))
  statement_some (g.for_in_target {us} {vs} {ws} t u h j k l i m n p o q) = at_first t (u ∷ (us ++ i ∷ (vs ++ p ∷ ws)))
  statement_some (g.for_of_target {us} {vs} {ws} t u h j k l i m n p o q) = at_first t (u ∷ (us ++ i ∷ (vs ++ p ∷ ws)))
  statement_some (g.continue_alone {vs} t h i) = at_first t vs
  statement_some (g.continue_to {vs} t u h i j k) = at_first t (u ∷ vs)
  statement_some (g.break_alone {vs} t h i) = at_first t vs
  statement_some (g.break_from {vs} t u h i j k) = at_first t (u ∷ vs)
  statement_some (g.return_alone {vs} t h i) = at_first t vs
  statement_some (g.return_value {us} {vs} t h i j k) = at_first t (us ++ vs)
  statement_some (g.throw {us} {vs} t h i j k) = at_first t (us ++ vs)
  statement_some (g.debugger {vs} t h i) = at_first t vs
  statement_some (g.switch {us} {vs} t h i u j v k l) = at_first t (us ++ u ∷ (vs ++ v ∷ []))
  statement_some (g.try_catch {us} {vs} t h i j k) = at_first t (us ++ vs)
  statement_some (g.try_finally {us} {vs} t h i j) = at_first t (us ++ vs)
  statement_some (g.try_both {us} {vs} {ws} t h i j k) = at_first t (us ++ (vs ++ ws))
  statement_some (g.labelled {us} t u h i j k) = at_first t (u ∷ us)

  pub item_some : {d : ℕ} {us ts : List Lexeme} {x : Grown} → IsItem d us ts x → 0 < length us
  item_some (g.statement h) = statement_some h
  item_some (g.function_item {us} t u h i j) = at_first t (u ∷ us)
  item_some (g.lexical {us} {vs} t h i j) = at_first t (us ++ vs)
