use Rattle.std.proofs.Common.{rules, arith, [], ◌∷◌, reverse, ap, ◌∙◌}
use Rattle.std.proofs.lemmas.Grind.{common_steps}
use Rattle.std.proofs.lemmas.List.{reverse-append}
use Rattle.sr_syntax.specs.Bodies.{items_from}
use Rattle.sr_syntax.specs.Grammar.{tree}
use Rattle.sr_syntax.proofs.Turns.{one_more}
use Rattle.sr_parse_expr.proofs.grammar.Grammar.items.Goals.{in-RightBrace+in-Some+in_ok-found-in-Some, in-Function+in_ok-opened-in-Function+in_ok-push-in-Function, in-Let+in_ok-declared_by-in-Let+in_ok-found-in-Let, in-Const+in_ok-declared_by-in-Const+in_ok-found-in-Const, in_default+in_ok-nest-in_default+in_ok-found-in_default}
use Rattle.sr_parse_expr.proofs.grammar.Grammar.items.Goals as goal

pub returns-in_err-found-in-Some : goal.returns-in_err-found-in-Some
unfolding items_from
returns-in_err-found-in-Some g c =
    let e = one_more (λ n. items_from (tree c.args.self.now.depth) n (reverse c.loop-turn.around) c.loop-turn.found c.loop-turn.tokens) _ c.loop-turn._turn c.loop-turn-test.true c.loop-turn.invariant in
    let r = ap reverse c.in-Some.ensures ∙ reverse-append c.pop.new.self (c.in-Some.function ∷ []) in
    first_of (search rules, grind (arith, common_steps))

pub returns-in_err-nest-in_default : goal.returns-in_err-nest-in_default
unfolding items_from
returns-in_err-nest-in_default g c =
    let e = one_more (λ n. items_from (tree c.args.self.now.depth) n (reverse c.loop-turn.around) c.loop-turn.found c.loop-turn.tokens) _ c.loop-turn._turn c.loop-turn-test.true c.loop-turn.invariant in
    first_of (search rules, grind (arith, common_steps))

pub loop-turn-preserved : goal.loop-turn-preserved
unfolding items_from
loop-turn-preserved g c =
    let e = one_more (λ n. items_from (tree c.args.self.now.depth) n (reverse c.loop-turn.around) c.loop-turn.found c.loop-turn.tokens) _ c.loop-turn._turn c.loop-turn-test.true c.loop-turn.invariant in
    elim c.match-peek.branch [
      | in-RightBrace+in-Some+in_ok-found-in-Some w ↦ (let r = ap reverse w.in-Some.ensures ∙ reverse-append w.pop.new.self (w.in-Some.function ∷ []) in first_of (search rules, grind (arith, common_steps)))
      | in-Function+in_ok-opened-in-Function+in_ok-push-in-Function w ↦ first_of (search rules, grind (arith, common_steps))
      | in-Let+in_ok-declared_by-in-Let+in_ok-found-in-Let w ↦ first_of (search rules, grind (arith, common_steps))
      | in-Const+in_ok-declared_by-in-Const+in_ok-found-in-Const w ↦ first_of (search rules, grind (arith, common_steps))
      | in_default+in_ok-nest-in_default+in_ok-found-in_default w ↦ first_of (search rules, grind (arith, common_steps))
    ]
