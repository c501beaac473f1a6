-- What is an item of a module still is one where more rules may be open.
use Rattle.std.proofs.Common.{ℕ, suc, ◌≤◌, true, List}
use Rattle.sr_syntax.specs.declared.sorts.Lexeme.{Lexeme}
use Rattle.sr_syntax.specs.declared.grown.Grown.{Grown}
use Rattle.sr_grammar.specs.Modules as g
use Rattle.sr_grammar.specs.Modules.{IsModuleItem}
use Rattle.sr_grammar.proofs.SomeTokens.{some_tokens, declarations_some}
use Rattle.sr_grammar.proofs.Moves.{assign_ends, declarations_ends}
use Rattle.sr_grammar.proofs.Depths.{onward, still, by_steps, lift, lift_item, lift_function, lift_declarations}

deeper_module_item : {d : ℕ} {us ts : List Lexeme} {x : Grown} → IsModuleItem d us ts x → IsModuleItem (suc d) us ts x
deeper_module_item (g.item {d} h) = g.item (lift_item d (suc d) (onward d) h)
deeper_module_item (g.import_module t h s i j) = g.import_module t h s i j
deeper_module_item (g.import_default t h u i j k) = g.import_default t h u i j k
deeper_module_item (g.import_default_and t h u i c j k l m) = g.import_default_and t h u i c j k l m
deeper_module_item (g.import_names t h i j k) = g.import_names t h i j k
deeper_module_item (g.export_all t h m i j k l) = g.export_all t h m i j k l
deeper_module_item (g.export_from t h m i j k l) = g.export_from t h m i j k l
deeper_module_item (g.export_names t h m i j k) = g.export_names t h m i j k
deeper_module_item (g.export_declarations {d} {tall} {us} {ts} {ds} t h w i j k) = g.export_declarations t h w i (lift_declarations d (suc d) (onward d) j) (still (declarations_ends true d (suc d) us ts (ds, tall) (onward d) (declarations_some j)) k)
deeper_module_item (g.export_function {d} t h f i u j k) = g.export_function t h f i u j (lift_function d (suc d) (onward d) k)
deeper_module_item (g.export_default_function {d} t h e i f j k) = g.export_default_function t h e i f j (lift_function d (suc d) (onward d) k)
deeper_module_item (g.export_default_named {d} t h e i f j u k l) = g.export_default_named t h e i f j u k (lift_function d (suc d) (onward d) l)
deeper_module_item (g.export_default_value {d} {us} {ts} {x} t h e i j k l) = g.export_default_value t h e i j (lift d (suc d) (onward d) k) (still (assign_ends true d (suc d) us ts x (onward d) (some_tokens k)) l)

pub lift_module_item : {us ts : List Lexeme} {x : Grown} (d e : ℕ) → d ≤ e → IsModuleItem d us ts x → IsModuleItem e us ts x
lift_module_item {us} {ts} {x} d e more h = by_steps (λ m. IsModuleItem m us ts x) (λ m. deeper_module_item {d = m}) d e more h
