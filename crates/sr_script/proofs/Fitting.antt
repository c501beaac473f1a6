-- A tree is of the form where its node is, by its parts.
use Rattle.std.proofs.Common.{◌≡◌, ℕ, refl, sym, ap, ◌∙◌, Bool, true, false, ◌&&◌, List, [], ◌∷◌, map}
use Rattle.std.specs.Prelude.{Option, None, Some}
use Rattle.std.specs.Option.{option_map}
use Rattle.sr_ast.specs.declared.tree.Tree.{Tree, out-Tree, roll-out-Tree, para-Tree, para-roll-Tree}
use Rattle.sr_ast.specs.declared.tree.Declaration.{Declaration, out-Declaration, roll-out-Declaration, map-Declaration, para-Declaration, para-roll-Declaration}
use Rattle.sr_ast.specs.declared.tree.Case.{Case}
use Rattle.sr_ast.specs.declared.tree.Element.{Element, out-Element, roll-out-Element, para-Element, para-roll-Element}
use Rattle.sr_ast.specs.declared.tree.Property.{Property}
use Rattle.sr_ast.specs.declared.tree.Node.{Node, out-Node, roll-out-Node, para-Node, para-roll-Node}
use Rattle.sr_script.specs.Names.{Names}
use Rattle.sr_script.specs.Form.{Fits, element_fits, node_fits, property_fits, case_fits, declaration_fits, tree_fits, all_fit, fits_if_there, may_declare, fits, script_fits}
use Rattle.sr_script.specs.Parts.{element_with, node_with, property_with, case_with, declaration_with, tree_with, fits_by_parts, element_by_parts}

module _ (names : Names) where
  node_is : (n : Node) → para-Node Bool Bool Bool Bool Bool Bool (element_fits names) (node_fits names) (property_fits names) (case_fits names) (declaration_fits names) (tree_fits names) n ≡ fits_by_parts names n
  unfolding fits
  node_is n =
      ap (para-Node Bool Bool Bool Bool Bool Bool (element_fits names) (node_fits names) (property_fits names) (case_fits names) (declaration_fits names) (tree_fits names)) (sym (roll-out-Node n))
      ∙ para-roll-Node Bool Bool Bool Bool Bool Bool (element_fits names) (node_fits names) (property_fits names) (case_fits names) (declaration_fits names) (tree_fits names) (out-Node n)

  pub element_is : (x : Element) → (let f = element_with names x in f.1) ≡ element_by_parts names x
  unfolding fits
  element_is x =
      ap (para-Element Bool Bool Bool Bool Bool Bool (element_fits names) (node_fits names) (property_fits names) (case_fits names) (declaration_fits names) (tree_fits names)) (sym (roll-out-Element x))
      ∙ para-roll-Element Bool Bool Bool Bool Bool Bool (element_fits names) (node_fits names) (property_fits names) (case_fits names) (declaration_fits names) (tree_fits names) (out-Element x)

  pub fits_is : (t : Tree) → fits names t ≡ fits_by_parts names t.node
  unfolding fits
  fits_is t =
      ap (para-Tree Bool Bool Bool Bool Bool Bool (element_fits names) (node_fits names) (property_fits names) (case_fits names) (declaration_fits names) (tree_fits names)) (sym (roll-out-Tree t))
      ∙ para-roll-Tree Bool Bool Bool Bool Bool Bool (element_fits names) (node_fits names) (property_fits names) (case_fits names) (declaration_fits names) (tree_fits names) (out-Tree t)
      ∙ node_is t.node

  value_is : (name : List ℕ) (from : ℕ) (value : Option Tree)
      → declaration_fits names (map-Declaration Element Node Property Case Declaration Tree (Fits Element) (Fits Node) (Fits Property) (Fits Case) (Fits Declaration) (Fits Tree)
      (element_with names) (node_with names) (property_with names) (case_with names) (declaration_with names) (tree_with names)
      (record { name = name; from = from; value = value }))
      ≡ (may_declare name && fits_if_there (option_map (tree_with names) value))
  value_is name from None = refl
  value_is name from (Some t) = refl

  declaration_is : (d : Declaration) → (let f = declaration_with names d in f.1)
      ≡ (may_declare (let o = out-Declaration d in o.name) && fits_if_there (option_map (tree_with names) (let o = out-Declaration d in o.value)))
  unfolding fits
  declaration_is d =
      let o = out-Declaration d in
      ap (para-Declaration Bool Bool Bool Bool Bool Bool (element_fits names) (node_fits names) (property_fits names) (case_fits names) (declaration_fits names) (tree_fits names)) (sym (roll-out-Declaration d))
      ∙ para-roll-Declaration Bool Bool Bool Bool Bool Bool (element_fits names) (node_fits names) (property_fits names) (case_fits names) (declaration_fits names) (tree_fits names) (out-Declaration d)
      ∙ value_is o.name o.from o.value

  abbrev value_fits : Declaration → Bool
  value_fits d = fits_if_there (option_map (tree_with names) (let o = out-Declaration d in o.value))

  declared : (d : Declaration) (name : List ℕ) (b : Bool) → b ≡ may_declare name → name ≡ (let o = out-Declaration d in o.name)
      → (b && value_fits d) ≡ (let f = declaration_with names d in f.1)
  declared d name b e n = ap (λ x. x && value_fits d) (e ∙ ap may_declare n) ∙ sym (declaration_is d)

  -- a declaration of a name that a script may declare is of the form where its value is
  pub may_be_declared : (d : Declaration) (name : List ℕ) (b c : Bool) → b ≡ may_declare name → name ≡ (let o = out-Declaration d in o.name) → b ≡ true
      → c ≡ value_fits d → c ≡ (let f = declaration_with names d in f.1)
  may_be_declared d name b c e n is h = h ∙ ap (λ x. x && value_fits d) (sym is) ∙ declared d name b e n

  -- and one of another name is not
  pub never_declared : (d : Declaration) (name : List ℕ) (b : Bool) → b ≡ may_declare name → name ≡ (let o = out-Declaration d in o.name) → b ≡ false
      → b ≡ (let f = declaration_with names d in f.1)
  never_declared d name b e n is = is ∙ ap (λ x. x && value_fits d) (sym is) ∙ declared d name b e n

  -- all trees of a script
  pub script_is : (ts : List Tree) → all_fit (map (tree_with names) ts) ≡ script_fits names ts
  script_is [] = refl
  script_is (t ∷ ts) = ap (λ b. fits names t && b) (script_is ts)
