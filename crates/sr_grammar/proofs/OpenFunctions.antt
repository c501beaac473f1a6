-- What the items of a body are read as, those of the functions that stand in one another among them, and where reading them fails.
use Rattle.std.proofs.Common.{◌≡◌, ℕ, zero, suc, ◌+◌, ◌≤◌, ◌<◌, List, [], ◌∷◌, ◌++◌, length, Some, Ok, refl, sym, ap, ◌∙◌, subst, append_assoc, append-nil, arith, ◌⊎◌, inl, inr}
use Rattle.sr_ast.specs.declared.tree.Node.TheVariants as node
use Rattle.sr_ast.specs.declared.binding.HeadKind.TheVariants as head_kind
use Rattle.sr_ast.specs.declared.binding.Binding.{Binding}
use Rattle.sr_ast.specs.declared.binding.Parameters.{Parameters}
use Rattle.sr_syntax.specs.declared.sorts.Sort.{Sort}
use Rattle.sr_syntax.specs.declared.sorts.Sort.TheVariants as k
use Rattle.sr_syntax.specs.declared.sorts.Lexeme.{Lexeme}
use Rattle.sr_syntax.specs.declared.grown.Grown.{Grown}
use Rattle.sr_syntax.specs.declared.grown.Grove.{Grove}
use Rattle.sr_syntax.specs.declared.grown.OpenFunction.{OpenFunction}
use Rattle.sr_syntax.specs.declared.grown.Goal.TheVariants as goal
use Rattle.sr_syntax.specs.Input.{Input, Parser, ◌>>=◌, ◌>>◌, and_then, peek, take_token, next, sort, place, left, max_depth}
use Rattle.sr_syntax.specs.Input as input
use Rattle.sr_syntax.specs.Operators.{none, with}
use Rattle.sr_syntax.specs.Declarations.{declared_by}
use Rattle.sr_syntax.specs.Bodies.{items_from, items_by, items, ended, opened, closed}
use Rattle.sr_syntax.specs.Grammar.{tree}
use Rattle.sr_grammar.specs.Names.{binding_of, lexical_word}
use Rattle.sr_grammar.specs.Derivations.{States, IsItem, Items, Body, whole}
use Rattle.sr_grammar.specs.Derivations as g
use Rattle.sr_grammar.specs.Reading.{end_after, head}
use Rattle.sr_grammar.proofs.Steps.{inp, Fact, Fault, Need, Any, Parses, Both, both, Either, first, second, Never, Pure, nothing, Taken, taken, Expected, expected, Here, here, Completed, completed, map, map_given, given, then_any, take, by_first, expecting, completing, purely, turns, finish, pred, ending, end_append}
use Rattle.sr_grammar.proofs.Facts.{Mapped, mapped, mapping, token, Stood, stood, OpenedOne, opened_one, BeginsOne, StartOne, start_one}
use Rattle.sr_grammar.proofs.SomeTokens.{item_some, at_first}
use Rattle.sr_grammar.proofs.Followed.{same_first, items_before}
use Rattle.sr_grammar.proofs.Lists.{Nested, assoc}
use Rattle.sr_grammar.proofs.Beginnings.{Begun, begun_more, Wholly, wholly, Partly, partly, carry, begun_whole, Turned, onwards, at_end, Broken, broken, turned_runs, turned_breaks, turned_grows}
use Rattle.sr_grammar.proofs.Peeks.{unit_of, unit_shallow}
use Rattle.sr_grammar.proofs.ParameterFacts.{Bound, bound, bindings, ParamList, param_list, parameter_lists}
use Rattle.sr_grammar.proofs.PlainFunctions.{Braced, braced, max_fits, begun_item, empty_body, Parts, parameters_begin, body_begins, NamedFunction, named_function, unnamed, name_begins}
use Rattle.sr_grammar.proofs.Standing.{Calm, StartAt, token_needs, behind_first, begins_one, started}
use Rattle.sr_grammar.proofs.Calms.{item_of}
use Rattle.sr_grammar.proofs.Declaring.{declared_bys}
use Rattle.sr_grammar.proofs.Sorts.{end_no_left_brace}

-- ---- items that are no functions

statement_stood : {d l n : ℕ} {us ts : List Lexeme} {x : Grown} → OpenedOne States d l n us ts x → Stood IsItem d l n us ts x
statement_stood (opened_one h b) = stood (g.statement h) b

-- a statement, which is open itself
pub statement_items : (d : ℕ) → Nested d → Parses (λ e. tree e goal.Statement) d Any (Stood IsItem d) (StartOne IsItem)
statement_items d nest = map (λ l n us ts x r. statement_stood r) (λ l n us ts r. start_one (begins_one (item_of (started r)))) nest.statement

pub let_items : (d : ℕ) → Nested d → (from : ℕ) → Parses (λ e. take_token >> declared_by (tree e) head_kind.Let from) d (StartAt k.Let from) (Stood IsItem d) (StartOne IsItem)
let_items d nest from = behind_first k.Let from (λ e. cc) (declared_bys IsItem head_kind.Let k.Let (λ d tall us vs ts ds t q h e. g.lexical {how = head_kind.Let} t (ap lexical_word q) h e) d nest from)

pub const_items : (d : ℕ) → Nested d → (from : ℕ) → Parses (λ e. take_token >> declared_by (tree e) head_kind.Const from) d (StartAt k.Const from) (Stood IsItem d) (StartOne IsItem)
const_items d nest from = behind_first k.Const from (λ e. cc) (declared_bys IsItem head_kind.Const k.Const (λ d tall us vs ts ds t q h e. g.lexical {how = head_kind.Const} t (ap lexical_word q) h e) d nest from)

-- what begins a function behind `function` begins an item
pub function_begins : {us : List Lexeme} (t : Lexeme) → t.sort ≡ k.Function → Begun NamedFunction us → Begun (Calm IsItem) (t ∷ us)
function_begins t v b = carry (t ∷ []) (λ e vs p h. begun t v h) b
  where
    begun : {e : ℕ} {vs : List Lexeme} {p : Parts} (t : Lexeme) → t.sort ≡ k.Function → NamedFunction e vs p → Begun (Calm IsItem) (t ∷ vs)
    begun {e} {vs} t v (named_function u c h) = begun_whole e (t ∷ vs) _ (λ ts calm. g.function_item t u v c h)

-- ---- functions that are open

-- the tokens of a function declaration up to the brace of its body
data Opens : List Lexeme → OpenFunction → Type 0 where
  opens : {us : List Lexeme} {ps : Parameters} {before : Grove} (t u b : Lexeme) → t.sort ≡ k.Function → u.sort ≡ k.Identifier → ParamList 0 us ps → b.sort ≡ k.LeftBrace
      → Opens (t ∷ u ∷ (us ++ b ∷ [])) (record { from = t.from; name = binding_of u; parameters = ps; before = before })

-- its tree, which ends there
abbrev function_tree : OpenFunction → Grove → ℕ → Grown
function_tree f xs end = ending (node.FunctionDeclaration (Some f.name) f.parameters xs.trees) f.from end xs.tall

-- with the items of its body and the brace behind them
whole_function : {d : ℕ} {hs us ts rs : List Lexeme} {f : OpenFunction} {xs : Grove} → Opens hs f → (v : Lexeme) → v.sort ≡ k.RightBrace → Items d us (v ∷ rs) xs
    → IsItem d (hs ++ (us ++ v ∷ [])) ts (function_tree f xs v.to)
whole_function {d} {us = us} {ts = ts} {xs = xs} (opens {before = before} t u b c e (param_list {us = ws} {ps} p q h) i) v j w =
    let zs : List Lexeme = t ∷ u ∷ p ∷ ((ws ++ b ∷ []) ++ (us ++ v ∷ [])) in
    let f : OpenFunction = record { from = t.from; name = binding_of u; parameters = ps; before = before } in
    let end : end_after 0 zs ≡ v.to = end_append p.to (ws ++ b ∷ []) (us ++ v ∷ []) ∙ end_append (end_after p.to (ws ++ b ∷ [])) us (v ∷ []) in
    subst (λ m. IsItem d zs ts (function_tree f xs m)) end
    (subst (λ qs. IsItem d (t ∷ u ∷ p ∷ qs) ts (whole (node.FunctionDeclaration (Some (binding_of u)) ps xs.trees) t.from (t ∷ u ∷ p ∷ qs) xs.tall)) (sym (append_assoc ws (b ∷ []) (us ++ v ∷ [])))
    (g.function_item t u c e (g.function p q h (g.body b i v j w))))

opens_first : {hs : List Lexeme} {f : OpenFunction} → Opens hs f → (rs ts : List Lexeme) → head (hs ++ rs) ≡ head (hs ++ ts)
opens_first (opens t u b c e h i) rs ts = refl

-- the functions that are open, the innermost first, and the items of its body
abbrev Inner : Type 0
Inner = List OpenFunction × Grove

-- the tokens before the items of the innermost body: each function with the items before it
data Outside (d : ℕ) : List Lexeme → List OpenFunction → Type 0 where
  none_open : Outside d [] []
  one_open : {os ws hs : List Lexeme} {around : List OpenFunction} {f : OpenFunction} (rs : List Lexeme) → Outside d os around → Items d ws (hs ++ rs) f.before → f.before.tall ≤ max_depth → Opens hs f
      → Outside d (os ++ (ws ++ hs)) (f ∷ around)

-- and with these items
data Stacked (d : ℕ) (vs ts : List Lexeme) (s : Inner) : Type 0 where
  stacked : {os us : List Lexeme} → vs ≡ os ++ us → Outside d os s.0 → Items d us ts s.1 → s.1.tall ≤ max_depth → Stacked d vs ts s

-- the items and the brace, before those that follow, and no deeper than is read
pub data Itemed (d l n : ℕ) : List Lexeme → List Lexeme → Grove → Type 0 where
  itemed : {vs ts : List Lexeme} {xs : Grove} (u : Lexeme) → u.sort ≡ k.RightBrace → Items d vs (u ∷ ts) xs → xs.tall ≤ max_depth → Itemed d l n (vs ++ u ∷ []) ts xs

-- where items fail: the tokens and more are items and a brace
pub data BeginsItems (l n : ℕ) (us ts : List Lexeme) : Type 0 where
  begins_items : Begun Braced us → BeginsItems l n us ts

-- the same, wherever they begin
data ItemsClosed (d : ℕ) : List Lexeme → List Lexeme → Grove → Type 0 where
  items_closed : {vs ts : List Lexeme} {xs : Grove} (u : Lexeme) → u.sort ≡ k.RightBrace → Items d vs (u ∷ ts) xs → xs.tall ≤ max_depth → ItemsClosed d (vs ++ u ∷ []) ts xs

-- ---- what a turn does

-- one more item
add : {d : ℕ} {vs us ts : List Lexeme} {s : Inner} {x : Grown} → Stacked d vs (us ++ ts) s → IsItem d us ts x → x.height ≤ max_depth → Stacked d (vs ++ us) ts (s.0, with s.1 x)
add {us = us} {s = s} {x = x} (stacked {os} {us = zs} is o w fit) h b = stacked (ap (λ qs. qs ++ us) is ∙ append_assoc os zs us) o (g.one_more_item w h) (max_fits s.1.tall x.height fit b)

-- one more function is open
push : {d : ℕ} {vs hs ts : List Lexeme} {s : Inner} {f : OpenFunction} → Stacked d vs (hs ++ ts) s → Opens hs f → f.before ≡ s.1 → Stacked d (vs ++ hs) ts (f ∷ s.0, none)
push {d} {vs} {hs} {ts} {s} {f} (stacked {os} {us = zs} is o w fit) h e =
    stacked {os = os ++ (zs ++ hs)} {us = []} (ap (λ qs. qs ++ hs) is ∙ append_assoc os zs hs ∙ sym (append-nil (os ++ (zs ++ hs))))
    (one_open ts o (subst (λ xs. Items d zs (hs ++ ts) xs) (sym e) w) (subst (λ xs. xs.tall ≤ max_depth) (sym e) fit) h) g.no_items (omega arith)

regroup : (os ws hs us vs : List Lexeme) (t : Lexeme) → vs ≡ (os ++ (ws ++ hs)) ++ us → vs ++ t ∷ [] ≡ os ++ (ws ++ (hs ++ (us ++ t ∷ [])))
regroup os ws hs us vs t is =
    ap (λ qs. qs ++ t ∷ []) is ∙ append_assoc (os ++ (ws ++ hs)) us (t ∷ []) ∙ append_assoc os (ws ++ hs) (us ++ t ∷ []) ∙ ap (λ qs. os ++ qs) (append_assoc ws hs (us ++ t ∷ []))

-- the innermost function ends
pop : {d : ℕ} {vs ts : List Lexeme} {around : List OpenFunction} {f : OpenFunction} {found : Grove} (t : Lexeme) → t.sort ≡ k.RightBrace → found.tall < max_depth
    → Stacked d vs (t ∷ ts) (f ∷ around, found) → Stacked d (vs ++ t ∷ []) ts (around, with f.before (function_tree f found t.to))
pop {d} {vs} {ts} {f = f} {found = found} t c fits (stacked {us = us} is (one_open {os} {ws} {hs} rs o w b h) i fit) =
    stacked {os = os} {us = ws ++ (hs ++ (us ++ t ∷ []))} (regroup os ws hs us vs t is) o
    (g.one_more_item (items_before (same_first (ap head (append_assoc hs (us ++ t ∷ []) ts) ∙ opens_first h ((us ++ t ∷ []) ++ ts) rs)) w) (whole_function h t c i))
    (max_fits f.before.tall (found.tall + 1) b (omega (arith, fits)))

-- all end
end_all : {d : ℕ} {vs ts : List Lexeme} {found : Grove} (t : Lexeme) → t.sort ≡ k.RightBrace → Stacked d vs (t ∷ ts) ([], found) → ItemsClosed d (vs ++ t ∷ []) ts found
end_all {d} {vs} {ts} {found} t c (stacked is none_open w fit) = subst (λ zs. ItemsClosed d (zs ++ t ∷ []) ts found) (sym is) (items_closed t c w fit)

-- ---- what may still come

within : {d e : ℕ} {ws hs zs : List Lexeme} {f : OpenFunction} {xs : Grove} (rs : List Lexeme) → Items d ws (hs ++ rs) f.before → Opens hs f → Braced e zs xs → Begun Braced ((ws ++ hs) ++ zs)
within {e = e} {ws} {hs} {f = f} {xs = xs} rs w h (braced {us = us} v c i) =
    let zs : List Lexeme = us ++ v ∷ [] in
    let one : BeginsOne IsItem (hs ++ zs) =
    record { depth = e; more = []; made = function_tree f xs v.to; is = λ ts calm. subst (λ qs. IsItem e qs ts (function_tree f xs v.to)) (sym (append-nil (hs ++ zs))) (whole_function h v c i) } in
    subst (λ qs. Begun Braced qs) (sym (append_assoc ws hs zs))
    (begun_item (hs ++ zs) [] (items_before (same_first (ap head (append_assoc hs zs []) ∙ opens_first h (zs ++ []) rs)) w) one)

enclose : {d : ℕ} {os us : List Lexeme} {around : List OpenFunction} → Outside d os around → Begun Braced us → Begun Braced (os ++ us)
enclose none_open b = b
enclose {us = us} (one_open {os} {ws} {hs} rs o w fit h) b =
    subst (λ qs. Begun Braced qs) (sym (append_assoc os (ws ++ hs) us)) (enclose o (carry (ws ++ hs) (λ e zs xs i. within rs w h i) b))

-- an item that is begun, in the innermost body
begun_inside : {d : ℕ} {vs : List Lexeme} {s : Inner} (us ts : List Lexeme) → Stacked d vs (us ++ ts) s → BeginsOne IsItem us → Begun Braced (vs ++ us)
begun_inside us ts (stacked {os} {us = zs} is o w fit) b =
    subst (λ qs. Begun Braced qs) (sym (append_assoc os zs us) ∙ ap (λ qs. qs ++ us) (sym is)) (enclose o (begun_item us ts w b))

-- ---- a turn

abbrev ItemTurn : ℕ → Inner → Fact (Inner ⊎ Grove)
ItemTurn d s = Turned Stacked ItemsClosed d s

abbrev NoItemTurn : ℕ → Inner → Fault
NoItemTurn d s = Broken Stacked Braced d s

one_item : {d l n : ℕ} {us ts : List Lexeme} {s : Inner} {o : Inner ⊎ Grove} → Mapped (Stood IsItem d) (λ x. inl (s.0, with s.1 x)) l n us ts o → ItemTurn d s l n us ts o
one_item {s = s} (mapped x (stood h b) is) = onwards (s.0, with s.1 x) (λ vs q. add q h b) (item_some h) is

no_item : {d l n : ℕ} {us ts : List Lexeme} {s : Inner} → StartOne IsItem l n us ts → NoItemTurn d s l n us ts
no_item {us = us} {ts = ts} (start_one b) = broken (λ vs q. begun_inside us ts q b)

-- ---- the head of a function

abbrev opened_at : ℕ → Grove → Binding → Parameters → OpenFunction
opened_at from before called ps = record { from = from; name = called; parameters = ps; before = before }

abbrev HeadFact : ℕ → ℕ → Grove → Fact OpenFunction
HeadFact d from before = Both Bound (λ called. Both (Wholly ParamList d) (λ ps. Mapped (Expected k.LeftBrace) (λ u. opened_at from before called ps)))

abbrev HeadFault : ℕ → Fault
HeadFault d = Either Here Bound (λ called. Either (Partly ParamList) (Wholly ParamList d) (λ ps. Here))

heads : (d from : ℕ) (before : Grove) → Parses (λ e. opened from before) d Any (HeadFact d from before) (HeadFault d)
unfolding opened
heads d from before = then_any bindings (λ called. then_any parameter_lists (λ ps. mapping (expecting k.LeftBrace end_no_left_brace) (λ u. opened_at from before called ps)))

listed : {d : ℕ} {us : List Lexeme} {ps : Parameters} → ParamList d us ps → ParamList 0 us ps
listed (param_list t c p) = param_list t c p

head_opens : {d l n from : ℕ} {us ts : List Lexeme} {before : Grove} {f : OpenFunction} (t : Lexeme) → t.sort ≡ k.Function → t.from ≡ from → HeadFact d from before l n us ts f → Opens (t ∷ us) f
head_opens {from = from} {before = before} t v at (both {x = called} (bound u c i) (both {us = ws} {x = ps} (wholly h) (mapped w (expected b e) is))) =
    subst (λ f. Opens (t ∷ u ∷ (ws ++ b ∷ [])) f) (sym (is ∙ ap (λ a. opened_at from before a ps) i ∙ ap (λ a. opened_at a before (binding_of u) ps) (sym at))) (opens t u b v c (listed h) e)

head_before : {d l n from : ℕ} {us ts : List Lexeme} {before : Grove} {f : OpenFunction} → HeadFact d from before l n us ts f → f.before ≡ before
head_before (both b (both h (mapped w e is))) = ap (λ f. f.before) is

no_body : Begun Body []
no_body = begun_more 0 [] [] (token k.LeftBrace ∷ token k.RightBrace ∷ []) none empty_body

head_fault : {d l n : ℕ} {us ts : List Lexeme} → HeadFault d l n us ts → Begun NamedFunction us
head_fault (first here) = unnamed
head_fault (second (bound u c i) (first (partly b))) = name_begins u c (parameters_begin b)
head_fault (second (bound u c i) (second (wholly h) here)) = name_begins u c (body_begins h no_body)

function_turn : {d l n from : ℕ} {us ts : List Lexeme} {s : Inner} {o : Inner ⊎ Grove} → StartAt k.Function from (us ++ ts)
    → Mapped (Both (Taken unit_of) (λ u. HeadFact d from s.1)) (λ f. inl (f ∷ s.0, none)) l n us ts o → ItemTurn d s l n us ts o
function_turn {s = s} m (mapped f (both {vs = us} (taken t e) r) is) =
    onwards (f ∷ s.0, none) (λ vs q. push q (head_opens t m.0 m.1 r) (head_before r)) (at_first t us) is

no_function_turn : {d l n : ℕ} {us ts : List Lexeme} {s : Inner} (from : ℕ) → StartAt k.Function from (us ++ ts) → Either Never (Taken unit_of) (λ u. HeadFault d) l n us ts → NoItemTurn d s l n us ts
no_function_turn from m (first c) = elim c [ ]
no_function_turn from m (second (taken t e) r) = no_item (start_one (begins_one (function_begins t m.0 (head_fault r))))

-- ---- the brace

abbrev ended_step : List OpenFunction → Grove → Parser (Inner ⊎ Grove)
ended_step [] found = λ i. Ok (inr found, i)
ended_step (f ∷ around) found = closed f found >>= (λ all i. Ok (inl (around, all), i))

abbrev TreeFact : OpenFunction → Grove → Fact Grove
TreeFact f found = Mapped (Completed (node.FunctionDeclaration (Some f.name) f.parameters found.trees) f.from found.tall) (λ x. with f.before x)

closes : (f : OpenFunction) (found : Grove) {d : ℕ} → Parses (λ e. closed f found) d Any (TreeFact f found) Never
unfolding closed
closes f found = mapping (completing (node.FunctionDeclaration (Some f.name) f.parameters found.trees) f.from found.tall) (λ x. with f.before x)

end_turn : {d l n : ℕ} {us ts : List Lexeme} {found : Grove} {o : Inner ⊎ Grove} (from : ℕ) → StartAt k.RightBrace from (us ++ ts)
    → Both (Taken unit_of) (λ u. Pure (inr found)) l n us ts o → ItemTurn d ([], found) l n us ts o
end_turn {found = found} from m (both (taken t e) (nothing is)) = at_end found (λ vs q. end_all t m.0 q) is

close_turn : {d l n : ℕ} {us ts : List Lexeme} {f : OpenFunction} {around : List OpenFunction} {found : Grove} {o : Inner ⊎ Grove} (from : ℕ) → StartAt k.RightBrace from (us ++ ts)
    → Both (Taken unit_of) (λ u. Mapped (TreeFact f found) (λ all. inl (around, all))) l n us ts o → ItemTurn d (f ∷ around, found) l n us ts o
close_turn {d} {f = f} {around} from m (both {ts = ts} (taken t e) (mapped all (mapped x (completed fits is) j) o)) =
    onwards (around, all) (λ vs q. subst (λ a. Stacked d (vs ++ t ∷ []) ts (around, a)) (sym (j ∙ ap (λ x. with f.before x) is)) (pop t m.0 fits q)) (at_first t []) o

no_end : {d l n : ℕ} {us ts : List Lexeme} {s : Inner} → Either Never (Taken unit_of) (λ u. Never) l n us ts → NoItemTurn d s l n us ts
no_end (first c) = elim c [ ]
no_end (second t c) = elim c [ ]

-- ---- by the first token

abbrev item_step_by : ℕ → Inner → ℕ → Sort → Parser (Inner ⊎ Grove)
item_step_by e s from k.RightBrace = take_token >> ended_step s.0 s.1
item_step_by e s from k.Function = take_token >> opened from s.1 >>= (λ f i. Ok (inl (f ∷ s.0, none), i))
item_step_by e s from k.Let = take_token >> declared_by (tree e) head_kind.Let from >>= (λ x i. Ok (inl (s.0, with s.1 x), i))
item_step_by e s from k.Const = take_token >> declared_by (tree e) head_kind.Const from >>= (λ x i. Ok (inl (s.0, with s.1 x), i))
item_step_by e s from _ = tree e goal.Statement >>= (λ x i. Ok (inl (s.0, with s.1 x), i))

abbrev item_step : ℕ → Inner → Parser (Inner ⊎ Grove)
item_step e s = input.here >>= (λ from. peek >>= (λ v. item_step_by e s from v))

module _ (d : ℕ) (nest : Nested d) where
  ended_steps : (from : ℕ) (around : List OpenFunction) (found : Grove) → Parses (λ e. take_token >> ended_step around found) d (StartAt k.RightBrace from) (ItemTurn d (around, found)) (NoItemTurn d (around, found))
  ended_steps from [] found = map_given (λ l n us ts x m r. end_turn from m r) (λ l n us ts m r. no_end r) (then_any (given (token_needs k.RightBrace from (λ e. cc)) (take unit_of unit_shallow)) (λ u. purely (inr found)))
  ended_steps from (f ∷ around) found = map_given (λ l n us ts x m r. close_turn from m r) (λ l n us ts m r. no_end r)
      (then_any (given (token_needs k.RightBrace from (λ e. cc)) (take unit_of unit_shallow)) (λ u. mapping (closes f found) (λ all. inl (around, all))))

  added : {Q : ℕ → Parser Grown} {N : Need} (s : Inner) → Parses Q d N (Stood IsItem d) (StartOne IsItem) → Parses (λ e. Q e >>= (λ x i. Ok (inl (s.0, with s.1 x), i))) d N (ItemTurn d s) (NoItemTurn d s)
  added s q = map (λ l n us ts x r. one_item r) (λ l n us ts r. no_item r) (mapping q (λ x. inl (s.0, with s.1 x)))

  item_steps_by : (s : Inner) (from : ℕ) (v : Sort) → Parses (λ e. item_step_by e s from v) d (StartAt v from) (ItemTurn d s) (NoItemTurn d s)
  item_steps_by s from k.RightBrace = ended_steps from s.0 s.1
  item_steps_by s from k.Function = map_given (λ l n us ts x m r. function_turn m r) (λ l n us ts m r. no_function_turn from m r)
      (mapping (then_any (given (token_needs k.Function from (λ e. cc)) (take unit_of unit_shallow)) (λ u. heads d from s.1)) (λ f. inl (f ∷ s.0, none)))
  item_steps_by s from k.Let = added s (let_items d nest from)
  item_steps_by s from k.Const = added s (const_items d nest from)
  item_steps_by s from v = given (λ ts m. tt) (added s (statement_items d nest))

  item_steps : (s : Inner) → Parses (λ e. item_step e s) d Any (ItemTurn d s) (NoItemTurn d s)
  item_steps s = by_first (λ v. v) (λ e from v. item_step_by e s from v) (λ from v. item_steps_by s from v)

  abbrev items_again : ℕ → ℕ → Inner ⊎ Grove → Parser Grove
  items_again = finish (λ m e s. items_from (tree e) m s.0 s.1) item_step 1 d (ItemTurn d) (NoItemTurn d)

  ended_turn : (m e : ℕ) (around : List OpenFunction) (found : Grove) (i : Input) → ended (tree e) (items_from (tree e) m) around found i ≡ and_then (ended_step around found i) (items_again m e)
  ended_turn m e [] found i = refl
  ended_turn m e (f ∷ around) found i = assoc (closed f found i) (λ all. inl (around, all)) (items_again m e)

  items_turn : (m e : ℕ) (s : Inner) (from : ℕ) (v : Sort) (i : Input) → items_by (tree e) (items_from (tree e) m) s.0 s.1 from v i ≡ and_then (item_step_by e s from v i) (items_again m e)
  items_turn m e s from k.RightBrace i = ended_turn m e s.0 s.1 (next i)
  items_turn m e s from k.Function i = assoc (opened from s.1 (next i)) (λ f. inl (f ∷ s.0, none)) (items_again m e)
  items_turn m e s from k.Let i = assoc (declared_by (tree e) head_kind.Let from (next i)) (λ x. inl (s.0, with s.1 x)) (items_again m e)
  items_turn m e s from k.Const i = assoc (declared_by (tree e) head_kind.Const from (next i)) (λ x. inl (s.0, with s.1 x)) (items_again m e)
  items_turn m e s from v i = assoc (tree e goal.Statement i) (λ x. inl (s.0, with s.1 x)) (items_again m e)

  items_unroll : (m e : ℕ) (s : Inner) (all : List Lexeme) (l n : ℕ) → 1 + length all ≤ m
      → items_from (tree e) m s.0 s.1 (inp all l n) ≡ and_then (item_step e s (inp all l n)) (items_again (pred m) e)
  unfolding items_from
  items_unroll zero e s all l n far = absurd (omega arith)
  items_unroll (suc m) e s all l n far = items_turn m e s (place (inp all l n)) (sort (inp all l n)) (inp all l n)

  start_items : {ts : List Lexeme} → Stacked d [] ts ([], none)
  start_items = stacked {os = []} {us = []} refl none_open g.no_items (omega arith)

  pub items_read : Parses (λ e. items (tree e)) d Any (Itemed d) BeginsItems
  unfolding items left
  items_read = map (λ l n us ts x r. closed_items (turned_runs r [] start_items)) (λ l n us ts r. begins_items (turned_breaks r [] start_items))
      (turns (λ m e s. items_from (tree e) m s.0 s.1) item_step 1 d (ItemTurn d) (NoItemTurn d) items_unroll item_steps turned_grows (λ i. left i + 1) (λ all l n. omega arith) ([], none))
    where
      closed_items : {l n : ℕ} {us ts : List Lexeme} {xs : Grove} → ItemsClosed d us ts xs → Itemed d l n us ts xs
      closed_items (items_closed u c h b) = itemed u c h b

-- what is read of them, whatever follows
pub braced_of : {d l n : ℕ} {us ts : List Lexeme} {xs : Grove} → Itemed d l n us ts xs → Braced d us xs
braced_of (itemed u c h b) = braced u c h

pub itemed_fits : {d l n : ℕ} {us ts : List Lexeme} {xs : Grove} → Itemed d l n us ts xs → xs.tall ≤ max_depth
itemed_fits (itemed u c h b) = b
