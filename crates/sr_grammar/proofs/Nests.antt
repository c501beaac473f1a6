-- What the rules that are open while they are read read, and where they fail: each above the others, one level down.
use Rattle.std.proofs.Common.{◌≡◌, ℕ, zero, suc, ◌≤◌, Bool, true, false, List, ◌++◌, arith}
use Rattle.sr_syntax.specs.declared.sorts.Lexeme.{Lexeme}
use Rattle.sr_syntax.specs.declared.grown.Grown.{Grown}
use Rattle.sr_syntax.specs.declared.grown.Goal.{Goal}
use Rattle.sr_syntax.specs.declared.grown.Goal.TheVariants as goal
use Rattle.sr_syntax.specs.declared.refusal.Refusal.TheVariants.{Memory, Syntax, TooDeep}
use Rattle.sr_syntax.specs.Input.{Input, Outcome, place_at}
use Rattle.sr_syntax.specs.Operators.{assign_goal}
use Rattle.sr_syntax.specs.Grammar.{goal_by, tree}
use Rattle.sr_grammar.specs.Derivations.{Symbol, Assign}
use Rattle.sr_grammar.specs.Reading.{end_after}
use Rattle.sr_grammar.proofs.Steps.{inp, Fact, Fault, Any, Parses, done, refusal, refusal_is, deep_memory, fault_at}
use Rattle.sr_grammar.proofs.Facts.{Derived, derived, Opened, opened, Start, Relation, Stood, stood, OpenedOne, opened_one}
use Rattle.sr_grammar.proofs.Followers.{DerivedNew, derived_new, OpenedNew, opened_new}
use Rattle.sr_grammar.proofs.Lists.{Nested}
use Rattle.sr_grammar.proofs.Sides.{news}
use Rattle.sr_grammar.proofs.Operands.{powers, unaries}
use Rattle.sr_grammar.proofs.Assigns.{assigneds}
use Rattle.sr_grammar.proofs.Statements.{statements}

pub opened_again : (o : Goal) (d : ℕ) (i : Input) (r : Outcome Grown) → ((e : ℕ) → d ≤ e → goal_by (tree e) o i ≡ r) → (e : ℕ) → suc d ≤ e → tree e o i ≡ r
unfolding tree
opened_again o d i r again zero more = absurd (omega arith)
opened_again o d i r again (suc e) more = again e (omega arith)

pub opens : {R S : Fact Grown} {B : Fault} (o : Goal) (d : ℕ) → ((l n : ℕ) (us ts : List Lexeme) (x : Grown) → R l n us ts x → S l n us ts x)
    → Parses (λ e. goal_by (tree e) o) d Any R B → Parses (λ e. tree e o) (suc d) Any S B
unfolding tree
opens o d f p = record {
  reads = λ l n all x j q h. let r = p.reads l n all x j q h in record {
    us = r.us;
    ts = r.ts;
    split = r.split;
    left = r.left;
    fact = f l n r.us r.ts x r.fact;
    again = λ e rs more same. opened_again o d (inp (r.us ++ rs) l n) (done x (inp rs (end_after l r.us) n)) (λ e more. r.again e rs more same) e more;
  };
  fails = λ l n all place q h. let r = p.fails l n all place q h in record {
    us = r.us;
    ts = r.ts;
    split = r.split;
    at = r.at;
    fault = r.fault;
    again = λ e rs more same. opened_again o d (inp (r.us ++ rs) l n) (fault_at (place_at n rs)) (λ e more. r.again e rs more same) e more;
  };
  safe = p.safe;
}

pub shut : {S : Fact Grown} {B : Fault} (o : Goal) → Parses (λ e. tree e o) zero Any S B
unfolding tree
shut o = record { reads = λ l n all x j q h. cc; fails = λ l n all place q h. absurd (deep h); safe = λ l n all q h. deep_memory (refusal_is {A = Grown} TooDeep Memory h) }
  where
    deep : {place : ℕ} → refusal {A = Grown} TooDeep ≡ refusal (Syntax place) → ⊥
    deep h = cc

assigned_goals : (has : Bool) (d : ℕ) → Nested d → Parses (λ e. goal_by (tree e) (assign_goal has)) d Any (Derived d (Assign has)) (Start (Assign has))
assigned_goals true d nest = assigneds true d nest
assigned_goals false d nest = assigneds false d nest

now_open : {s : Symbol} {d l n : ℕ} {us ts : List Lexeme} {x : Grown} → Derived d s l n us ts x → Opened s (suc d) l n us ts x
now_open (derived h b) = opened h b

now_new : {d l n : ℕ} {us ts : List Lexeme} {x : Grown} → DerivedNew d l n us ts x → OpenedNew (suc d) l n us ts x
now_new (derived_new h b behind) = opened_new h b behind

pub now_one : {Is : Relation} {d l n : ℕ} {us ts : List Lexeme} {x : Grown} → Stood Is d l n us ts x → OpenedOne Is (suc d) l n us ts x
now_one (stood h b) = opened_one h b

pub nests : (d : ℕ) → Nested d
nests zero = record {
  assign = λ has. shut (assign_goal has);
  power = shut goal.Power;
  unary = shut goal.Unary;
  new = shut goal.New;
  statement = shut goal.Statement;
}
nests (suc d) = record {
  assign = λ has. opens (assign_goal has) d (λ l n us ts x r. now_open r) (assigned_goals has d (nests d));
  power = opens goal.Power d (λ l n us ts x r. now_open r) (powers d (nests d));
  unary = opens goal.Unary d (λ l n us ts x r. now_open r) (unaries d (nests d));
  new = opens goal.New d (λ l n us ts x r. now_new r) (news d (nests d));
  statement = opens goal.Statement d (λ l n us ts x r. now_one r) (statements d (nests d));
}
