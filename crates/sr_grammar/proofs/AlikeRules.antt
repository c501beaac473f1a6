-- Where more rules may be open, what was not too deep is read alike.
use Rattle.std.proofs.Common.{ℕ, zero, suc, ◌≤◌, Bool, true, false, arith}
use Rattle.sr_syntax.specs.declared.grown.Goal.{Goal}
use Rattle.sr_syntax.specs.declared.grown.Goal.TheVariants as goal
use Rattle.sr_syntax.specs.Operators.{assign_goal}
use Rattle.sr_syntax.specs.Expressions.{expression, assign}
use Rattle.sr_syntax.specs.Declarations.{declarations}
use Rattle.sr_syntax.specs.Grammar.{tree}
use Rattle.sr_grammar.proofs.Alike.{deep, deep_there, Takes, Front}
use Rattle.sr_grammar.proofs.AlikeDeclarations.{Rules, takes_declarations}
use Rattle.sr_grammar.proofs.AlikeExpressions.{takes_expression, takes_assign, takes_power, takes_unary, takes_new}
use Rattle.sr_grammar.proofs.AlikeStatements.{takes_statement}

nothing_open : (e : ℕ) (g : Goal) → Takes (tree 0 g) (tree e g)
unfolding tree
nothing_open e g = record { first = record { front = λ t ts l m n k. deep }; ended = record { at_end = λ l m n k. deep_there } }

module _ (d e : ℕ) (rules : Rules (tree d) (tree e)) where
  assign_goals : (b : Bool) → Takes (tree (suc d) (assign_goal b)) (tree (suc e) (assign_goal b))
  unfolding tree
  assign_goals true = takes_assign (tree d) (tree e) rules true
  assign_goals false = takes_assign (tree d) (tree e) rules false

  one_more : Rules (tree (suc d)) (tree (suc e))
  unfolding tree
  one_more = record {
    assign = assign_goals;
    power = takes_power (tree d) (tree e) rules;
    unary = takes_unary (tree d) (tree e) rules;
    new = takes_new (tree d) (tree e) rules;
    statement = takes_statement (tree d) (tree e) rules;
  }

pub rules_alike : (d e : ℕ) → d ≤ e → Rules (tree d) (tree e)
rules_alike zero e far = record {
  assign = λ b. nothing_open e (assign_goal b);
  power = nothing_open e goal.Power;
  unary = nothing_open e goal.Unary;
  new = nothing_open e goal.New;
  statement = nothing_open e goal.Statement;
}
rules_alike (suc d) zero far = absurd (omega (arith, far))
rules_alike (suc d) (suc e) far = one_more d e (rules_alike d e (omega (arith, far)))

pub expression_alike : (b : Bool) (d e : ℕ) → d ≤ e → Front (expression (tree d) b) (expression (tree e) b)
expression_alike b d e far = (takes_expression (tree d) (tree e) (rules_alike d e far) b).first

pub assign_alike : (b : Bool) (d e : ℕ) → d ≤ e → Front (assign (tree d) b) (assign (tree e) b)
assign_alike b d e far = (takes_assign (tree d) (tree e) (rules_alike d e far) b).first

pub declarations_alike : (b : Bool) (d e : ℕ) → d ≤ e → Front (declarations (tree d) b) (declarations (tree e) b)
declarations_alike b d e far = (takes_declarations (tree d) (tree e) (rules_alike d e far) b).first
