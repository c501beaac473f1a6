-- What derives is read: elements, arguments, arrays and templates.
use Rattle.std.proofs.Common.{◌≡◌, ℕ, zero, suc, ◌+◌, ◌<◌, max, Bool, true, false, List, [], ◌∷◌, ◌++◌, length, Ok, refl, sym, ap, ◌∙◌, subst, append_assoc, length-append, arith, if◌then◌else◌}
use Rattle.sr_ast.specs.declared.tree.Node.TheVariants as node
use Rattle.sr_syntax.specs.declared.sorts.Sort.TheVariants as k
use Rattle.sr_syntax.specs.declared.sorts.Sort.{Sort}
use Rattle.sr_syntax.specs.declared.sorts.Lexeme.{Lexeme}
use Rattle.sr_syntax.specs.declared.grown.Grown.{Grown}
use Rattle.sr_syntax.specs.declared.grown.Elements.{Elements}
use Rattle.sr_syntax.specs.declared.grown.Pieces.{Pieces}
use Rattle.sr_syntax.specs.declared.grown.Goal.TheVariants as goal
use Rattle.sr_syntax.specs.Sorts.{same_sort}
use Rattle.sr_syntax.specs.Input.{Outcome, Parser, ◌>>=◌, and_then, pure, eat, expect, sort, sort_at, left, next, complete, text, text_of}
use Rattle.sr_syntax.specs.Operators.{no_elements, with_value, with_spread, with_hole, one_piece, with_piece, plain_template}
use Rattle.sr_syntax.specs.Expressions.{one_element, array_from, elements, array, arguments_from, arguments, piece_by, pieces_from, pieces, template}
use Rattle.sr_syntax.specs.Grammar.{tree}
use Rattle.sr_grammar.specs.Derivations.{Derives, Expression, Assign, Primary, whole}
use Rattle.sr_grammar.specs.Continuing.{Ends}
use Rattle.sr_grammar.proofs.Steps.{inp, done, ending, end_append}
use Rattle.sr_grammar.proofs.Starting.{starting, starts, not_close}
use Rattle.sr_grammar.proofs.Gets.{Gets, gets_is, gets_to, gets_then, gets_trans, gets_now, gets_max, gets_at, gets_whole}
use Rattle.sr_grammar.proofs.Completing.{Turns, loose_sort, expect_goes, eat_yes, eat_no}
use Rattle.sr_grammar.proofs.Claims.{Claim, gets_move, end_at, primary_is}
use Rattle.sr_grammar.proofs.Chains.{ArgumentsClaim}
use Rattle.sr_grammar.specs.Reading.{end_after}
use Rattle.sr_grammar.proofs.Sorts.{comma_no_right_bracket, comma_self, ellipsis_no_comma, ellipsis_no_right_bracket, ellipsis_no_right_parenthesis, ellipsis_self, right_bracket_no_comma, right_bracket_self, right_parenthesis_no_comma, right_parenthesis_self}

-- ---- one element

-- how an element that is added is read, where no token of another kind begins it
pub record Added (d : ℕ) (us : List Lexeme) (xs ys : Elements) : Type 0 where
  pub height : ℕ
  pub tall : max xs.tall height ≡ ys.tall
  pub first : (v : Sort) → starting v ≡ false → same_sort k.Ellipsis v ≡ false → (r : List Lexeme) → same_sort (sort_at (us ++ r)) v ≡ false
  pub gets : (r : List Lexeme) (l n : ℕ) → Ends true 15 r → Gets (one_element (tree d) xs (inp (us ++ r) l n)) height (Ok (ys, inp r (end_after l us) n))

ellipsis_other : starting k.Ellipsis ≡ false
ellipsis_other = refl

pub value_added : (d : ℕ) (us : List Lexeme) (xs : Elements) (x : Grown) → Derives d (Assign true) us x → Claim d (Assign true) us x → Added (suc d) us xs (with_value xs x)
unfolding one_element tree
value_added d us xs x derives h = record {
  height = x.height;
  tall = refl;
  first = λ v a b r. not_close v (sort_at (us ++ r)) a (starts derives r);
  gets = λ r l n e.
      let f : Grown → Parser Elements = λ x. if false then pure (with_spread xs x) else pure (with_value xs x) in
      gets_is (and_then (tree (suc d) goal.Assign (inp (us ++ r) l n)) f)
      (eat_no k.Ellipsis (us ++ r) l n (not_close k.Ellipsis (sort_at (us ++ r)) ellipsis_other (starts derives r))
      (λ b. tree (suc d) goal.Assign >>= (λ x. if b then pure (with_spread xs x) else pure (with_value xs x))))
      (gets_then (h r l n e) f);
}

pub spread_added : (d : ℕ) (us : List Lexeme) (t : Lexeme) (xs : Elements) (x : Grown) → t.sort ≡ k.Ellipsis → Claim d (Assign true) us x → Added (suc d) (t ∷ us) xs (with_spread xs x)
unfolding one_element tree
spread_added d us t xs x c h = record {
  height = x.height;
  tall = refl;
  first = λ v a b r. ap (λ s. same_sort s v) c ∙ b;
  gets = λ r l n e.
      let f : Grown → Parser Elements = λ x. if true then pure (with_spread xs x) else pure (with_value xs x) in
      gets_is (and_then (tree (suc d) goal.Assign (inp (us ++ r) t.to n)) f)
      (eat_yes k.Ellipsis t (us ++ r) l n c ellipsis_self (λ b. tree (suc d) goal.Assign >>= (λ x. if b then pure (with_spread xs x) else pure (with_value xs x))))
      (gets_then (h r t.to n e) f);
}

-- ---- the turns of arguments, and of arrays, which have holes

abbrev pub turn : Bool → ℕ → ℕ → Elements → Parser Elements
turn false d m xs = arguments_from (tree d) m xs
turn true d m xs = array_from (tree d) m xs

-- what closes them
abbrev pub close : Bool → Sort
close false = k.RightParenthesis
close true = k.RightBracket

-- behind an element: a comma and more, or the end
abbrev behind_one : Bool → ℕ → ℕ → Elements → Parser Elements
behind_one holes d m all = eat k.Comma >>= (λ more. if more then turn holes d m all else (expect (close holes) >>= (λ u. pure all)))

over_goes : (holes : Bool) (d m : ℕ) (xs : Elements) (u : Lexeme) (r : List Lexeme) (l n : ℕ) → 0 < m → u.sort ≡ close holes → turn holes d m xs (inp (u ∷ r) l n) ≡ Ok (xs, inp r u.to n)
unfolding arguments_from array_from
over_goes holes d zero xs u r l n far c = absurd (omega (arith, far))
over_goes false d (suc m) xs u r l n far c =
    eat_yes k.RightParenthesis u r l n c right_parenthesis_self (λ is_over. if is_over then pure xs else (one_element (tree d) xs >>= (λ all. behind_one false d m all)))
over_goes true d (suc m) xs u r l n far c =
    eat_yes k.RightBracket u r l n c right_bracket_self
    (λ is_over. if is_over then pure xs else (eat k.Comma >>= (λ is_hole. if is_hole then array_from (tree d) m (with_hole xs) else (one_element (tree d) xs >>= (λ all. behind_one true d m all)))))

hole_goes : (d m : ℕ) (xs : Elements) (t : Lexeme) (r : List Lexeme) (l n : ℕ) → t.sort ≡ k.Comma → array_from (tree d) (suc m) xs (inp (t ∷ r) l n) ≡ array_from (tree d) m (with_hole xs) (inp r t.to n)
unfolding array_from
hole_goes d m xs t r l n c =
    let body : Bool → Parser Elements = λ is_hole. if is_hole then array_from (tree d) m (with_hole xs) else (one_element (tree d) xs >>= (λ all. behind_one true d m all)) in
    eat_no k.RightBracket (t ∷ r) l n (ap (λ s. same_sort s k.RightBracket) c ∙ comma_no_right_bracket) (λ is_over. if is_over then pure xs else (eat k.Comma >>= body))
    ∙ eat_yes k.Comma t r l n c comma_self body

-- a turn that reads an element
one_goes : (holes : Bool) (d m : ℕ) (us : List Lexeme) (xs ys : Elements) (w : Added d us xs ys) (r : List Lexeme) (l n : ℕ)
    → turn holes d (suc m) xs (inp (us ++ r) l n) ≡ and_then (one_element (tree d) xs (inp (us ++ r) l n)) (behind_one holes d m)
unfolding arguments_from array_from
one_goes false d m us xs ys w r l n =
    eat_no k.RightParenthesis (us ++ r) l n (w.first k.RightParenthesis refl ellipsis_no_right_parenthesis r) (λ is_over. if is_over then pure xs else (one_element (tree d) xs >>= (λ all. behind_one false d m all)))
one_goes true d m us xs ys w r l n =
    let body : Bool → Parser Elements = λ is_hole. if is_hole then array_from (tree d) m (with_hole xs) else (one_element (tree d) xs >>= (λ all. behind_one true d m all)) in
    eat_no k.RightBracket (us ++ r) l n (w.first k.RightBracket refl ellipsis_no_right_bracket r) (λ is_over. if is_over then pure xs else (eat k.Comma >>= body))
    ∙ eat_no k.Comma (us ++ r) l n (w.first k.Comma refl ellipsis_no_comma r) body

one_before_comma : (holes : Bool) (d m : ℕ) (us : List Lexeme) (xs ys : Elements) (w : Added d us xs ys) (t : Lexeme) (r : List Lexeme) (l n : ℕ) → t.sort ≡ k.Comma
    → Gets (turn holes d (suc m) xs (inp (us ++ t ∷ r) l n)) w.height (turn holes d m ys (inp r t.to n))
one_before_comma holes d m us xs ys w t r l n c =
    gets_is (and_then (one_element (tree d) xs (inp (us ++ t ∷ r) l n)) (behind_one holes d m)) (one_goes holes d m us xs ys w (t ∷ r) l n)
    (gets_to (gets_then_any (w.gets (t ∷ r) l n (loose_sort true t k.Comma 15 c (λ line. omega arith) r)) (behind_one holes d m))
    (eat_yes k.Comma t r (end_after l us) n c comma_self (λ more. if more then turn holes d m ys else (expect (close holes) >>= (λ u. pure ys)))))
  where
    gets_then_any : {A C : Type 0} {o v : Outcome A} {h : ℕ} → Gets o h v → (f : A → Parser C) → Gets (and_then o f) h (and_then v f)
    gets_then_any g f = record { fits = λ p. ap (λ o. and_then o f) (g.fits p); deep = λ p. ap (λ o. and_then o f) (g.deep p) }

close_self : (holes : Bool) → same_sort (close holes) (close holes) ≡ true
close_self false = right_parenthesis_self
close_self true = right_bracket_self

close_no_comma : (holes : Bool) → same_sort (close holes) k.Comma ≡ false
close_no_comma false = right_parenthesis_no_comma
close_no_comma true = right_bracket_no_comma

close_ends : (holes : Bool) (u : Lexeme) → u.sort ≡ close holes → (r : List Lexeme) → Ends true 15 (u ∷ r)
close_ends false u c r = loose_sort true u k.RightParenthesis 15 c (λ line. omega arith) r
close_ends true u c r = loose_sort true u k.RightBracket 15 c (λ line. omega arith) r

one_at_last : (holes : Bool) (d m : ℕ) (us : List Lexeme) (xs ys : Elements) (w : Added d us xs ys) (u : Lexeme) (r : List Lexeme) (l n : ℕ) → 0 < m → u.sort ≡ close holes
    → Gets (turn holes d m xs (inp (us ++ u ∷ r) l n)) w.height (Ok (ys, inp r u.to n))
one_at_last holes d zero us xs ys w u r l n far c = absurd (omega (arith, far))
one_at_last holes d (suc m) us xs ys w u r l n far c =
    gets_is (and_then (one_element (tree d) xs (inp (us ++ u ∷ r) l n)) (behind_one holes d m)) (one_goes holes d m us xs ys w (u ∷ r) l n)
    (gets_to (gets_then (w.gets (u ∷ r) l n (close_ends holes u c r)) (behind_one holes d m))
    (eat_no k.Comma (u ∷ r) (end_after l us) n (ap (λ s. same_sort s k.Comma) c ∙ close_no_comma holes) (λ more. if more then turn holes d m ys else (expect (close holes) >>= (λ u. pure ys)))
    ∙ expect_goes (close holes) u r (end_after l us) n c (close_self holes) (λ v. pure ys)))

-- ---- elements with commas behind them

abbrev pub CommasClaim : Bool → ℕ → List Lexeme → Elements → Type 0
CommasClaim holes d us xs = (r : List Lexeme) (l n m : ℕ) → length (us ++ r) < m → Turns (turn holes d m no_elements (inp (us ++ r) l n)) xs.tall (λ m. turn holes d m xs (inp r (end_after l us) n)) r

pub no_elements_read : (holes : Bool) (d : ℕ) → CommasClaim holes d [] no_elements
no_elements_read holes d r l n m far = record { turns = m; enough = far; gets = gets_now 0 refl (omega arith) }

-- the end behind some tokens, some more and a token
end_behind_all : (l : ℕ) (us vs : List Lexeme) (t : Lexeme) → t.to ≡ end_after l (us ++ (vs ++ t ∷ []))
end_behind_all l us vs t = end_at (end_after l us) vs [] t ∙ sym (end_append l us (vs ++ t ∷ []))

split_all : (us vs : List Lexeme) (t : Lexeme) (r : List Lexeme) → (us ++ (vs ++ t ∷ [])) ++ r ≡ us ++ (vs ++ t ∷ r)
split_all us vs t r = append_assoc us (vs ++ t ∷ []) r ∙ ap (λ zs. us ++ zs) (append_assoc vs (t ∷ []) r)

one_turn : (holes : Bool) (d m : ℕ) (us : List Lexeme) (xs ys : Elements) (w : Added d us xs ys) (t : Lexeme) (r : List Lexeme) (l n : ℕ) → length (us ++ t ∷ r) < m → t.sort ≡ k.Comma
    → Turns (turn holes d m xs (inp (us ++ t ∷ r) l n)) w.height (λ m. turn holes d m ys (inp r t.to n)) r
one_turn holes d zero us xs ys w t r l n far c = absurd (omega (arith, far))
one_turn holes d (suc m) us xs ys w t r l n far c = record { turns = m; enough = omega (arith, far, length-append us (t ∷ r)); gets = one_before_comma holes d m us xs ys w t r l n c }

pub one_element_read : (holes : Bool) (d : ℕ) (us vs : List Lexeme) (t : Lexeme) (xs ys : Elements) → CommasClaim holes d us xs → Added d vs xs ys → t.sort ≡ k.Comma → CommasClaim holes d (us ++ (vs ++ t ∷ [])) ys
one_element_read holes d us vs t xs ys w one c r l n m far =
    let split = split_all us vs t r in
    let s = w (vs ++ t ∷ r) l n m (subst (λ zs. length zs < m) split far) in
    let more = one_turn holes d s.turns vs xs ys one t r (end_after l us) n s.enough c in
    record {
      turns = more.turns;
      enough = more.enough;
      gets = subst (λ zs. Gets (turn holes d m no_elements (inp zs l n)) ys.tall (turn holes d more.turns ys (inp r (end_after l (us ++ (vs ++ t ∷ []))) n))) (sym split)
          (gets_at (max xs.tall one.height) ys.tall one.tall
          (gets_to (gets_max xs.tall one.height s.gets more.gets) (ap (λ a. turn holes d more.turns ys (inp r a n)) (end_behind_all l us vs t))));
    }

hole_turn : (d m : ℕ) (xs : Elements) (t : Lexeme) (r : List Lexeme) (l n : ℕ) → length (t ∷ r) < m → t.sort ≡ k.Comma
    → Turns (array_from (tree d) m xs (inp (t ∷ r) l n)) 0 (λ m. array_from (tree d) m (with_hole xs) (inp r t.to n)) r
hole_turn d zero xs t r l n far c = absurd (omega (arith, far))
hole_turn d (suc m) xs t r l n far c = record { turns = m; enough = omega (arith, far); gets = gets_now 0 (hole_goes d m xs t r l n c) (omega arith) }

pub one_hole_read : (d : ℕ) (us : List Lexeme) (t : Lexeme) (xs : Elements) → CommasClaim true d us xs → t.sort ≡ k.Comma → CommasClaim true d (us ++ t ∷ []) (with_hole xs)
one_hole_read d us t xs w c r l n m far =
    let split = append_assoc us (t ∷ []) r in
    let s = w (t ∷ r) l n m (subst (λ zs. length zs < m) split far) in
    let more = hole_turn d s.turns xs t r (end_after l us) n s.enough c in
    record {
      turns = more.turns;
      enough = more.enough;
      gets = subst (λ zs. Gets (array_from (tree d) m no_elements (inp zs l n)) (max xs.tall 0) (array_from (tree d) more.turns (with_hole xs) (inp r (end_after l (us ++ t ∷ [])) n))) (sym split)
          (gets_to (gets_max xs.tall 0 s.gets more.gets) (ap (λ a. array_from (tree d) more.turns (with_hole xs) (inp r a n)) (end_at l us [] t)));
    }

-- ---- all elements, to what closes them

abbrev pub ElementsClaim : Bool → ℕ → List Lexeme → Elements → Type 0
ElementsClaim holes d us xs = (r : List Lexeme) (l n m : ℕ) → length (us ++ r) < m → Gets (turn holes d m no_elements (inp (us ++ r) l n)) xs.tall (Ok (xs, inp r (end_after l us) n))

pub comma_last_read : (holes : Bool) (d : ℕ) (us : List Lexeme) (u : Lexeme) (xs : Elements) → CommasClaim holes d us xs → u.sort ≡ close holes → ElementsClaim holes d (us ++ u ∷ []) xs
comma_last_read holes d us u xs w c r l n m far =
    let split = append_assoc us (u ∷ []) r in
    let s = w (u ∷ r) l n m (subst (λ zs. length zs < m) split far) in
    subst (λ zs. Gets (turn holes d m no_elements (inp zs l n)) xs.tall (Ok (xs, inp r (end_after l (us ++ u ∷ [])) n))) (sym split)
    (gets_to s.gets (over_goes holes d s.turns xs u r (end_after l us) n (omega (arith, s.enough)) c ∙ ap (λ a. Ok (xs, inp r a n)) (end_at l us [] u)))

pub element_last_read : (holes : Bool) (d : ℕ) (us vs : List Lexeme) (u : Lexeme) (xs ys : Elements) → CommasClaim holes d us xs → Added d vs xs ys → u.sort ≡ close holes → ElementsClaim holes d (us ++ (vs ++ u ∷ [])) ys
element_last_read holes d us vs u xs ys w one c r l n m far =
    let split = split_all us vs u r in
    let s = w (vs ++ u ∷ r) l n m (subst (λ zs. length zs < m) split far) in
    subst (λ zs. Gets (turn holes d m no_elements (inp zs l n)) ys.tall (Ok (ys, inp r (end_after l (us ++ (vs ++ u ∷ []))) n))) (sym split)
    (gets_at (max xs.tall one.height) ys.tall one.tall
    (gets_to (gets_max xs.tall one.height s.gets (one_at_last holes d s.turns vs xs ys one u r (end_after l us) n (omega (arith, s.enough)) c)) (ap (λ a. Ok (ys, inp r a n)) (end_behind_all l us vs u))))

pub arguments_read : (d : ℕ) (us : List Lexeme) (xs : Elements) → ElementsClaim false d us xs → ArgumentsClaim d us xs
unfolding arguments left
arguments_read d us xs h r l n = h r l n (length (us ++ r) + 1) (omega arith)

pub array_reads : (d : ℕ) (us : List Lexeme) (t : Lexeme) (xs : Elements) → t.sort ≡ k.LeftBracket → ElementsClaim true d us xs → Claim d Primary (t ∷ us) (whole (node.Array xs.items) t.from (t ∷ us) xs.tall)
unfolding array elements left next
array_reads d us t xs c h r l n =
    let f : Elements → Parser Grown = λ all. complete (node.Array all.items) t.from all.tall in
    gets_is (and_then (elements (tree d) (inp (us ++ r) t.to n)) f) (primary_is d t (us ++ r) l n k.LeftBracket c)
    (gets_trans xs.tall (xs.tall + 1) (omega arith) (gets_then (h r t.to n (length (us ++ r) + 1) (omega arith)) f)
    (gets_whole (node.Array xs.items) t.from xs.tall r (end_after t.to us) n))

-- ---- templates

pub plain_template_reads : (d : ℕ) (t : Lexeme) → t.sort ≡ k.TemplateWhole
    → Claim d Primary (t ∷ []) (whole (node.Template (one_piece (text_of t.content)).texts (one_piece (text_of t.content)).trees) t.from (t ∷ []) 0)
unfolding plain_template text next
plain_template_reads d t c r l n =
    let nd = node.Template (one_piece (text_of t.content)).texts (one_piece (text_of t.content)).trees in
    gets_is (complete nd t.from 0 (inp r t.to n)) (primary_is d t r l n k.TemplateWhole c) (gets_whole nd t.from 0 r t.to n)

abbrev pub SubstitutionsClaim : ℕ → List ℕ → List Lexeme → Pieces → Type 0
SubstitutionsClaim d text us all = (r : List Lexeme) (l n m : ℕ) → length (us ++ r) < m → Turns (pieces_from (tree d) m (one_piece text) (inp (us ++ r) l n)) all.tall (λ m. pieces_from (tree d) m all (inp r (end_after l us) n)) r

pub no_substitution_read : (d : ℕ) (text : List ℕ) → SubstitutionsClaim d text [] (one_piece text)
no_substitution_read d text r l n m far = record { turns = m; enough = far; gets = gets_now 0 refl (omega arith) }

middle_goes : (d m : ℕ) (all : Pieces) (x : Grown) (vs : List Lexeme) (t : Lexeme) (r : List Lexeme) (l n : ℕ) → length (vs ++ t ∷ r) < m → Claim d (Expression true) vs x → t.sort ≡ k.TemplateMiddle
    → Turns (pieces_from (tree d) m all (inp (vs ++ t ∷ r) l n)) x.height (λ m. pieces_from (tree d) m (with_piece all x (text_of t.content)) (inp r t.to n)) r
unfolding pieces_from sort text next
middle_goes d zero all x vs t r l n far h c = absurd (omega (arith, far))
middle_goes d (suc m) all x vs t r l n far h c =
    let f : Grown → Parser Pieces = λ x i. piece_by (tree d) (pieces_from (tree d) m) all x (sort i) i in
    record {
      turns = m;
      enough = omega (arith, far, length-append vs (t ∷ r));
      gets = gets_to (gets_then (h (t ∷ r) l n (loose_sort true t k.TemplateMiddle 16 c (λ line. omega arith) r)) f)
          (ap (λ s. piece_by (tree d) (pieces_from (tree d) m) all x s (inp (t ∷ r) (end_after l vs) n)) c);
    }

tail_goes : (d m : ℕ) (all : Pieces) (x : Grown) (vs : List Lexeme) (u : Lexeme) (r : List Lexeme) (l n : ℕ) → 0 < m → Claim d (Expression true) vs x → u.sort ≡ k.TemplateTail
    → Gets (pieces_from (tree d) m all (inp (vs ++ u ∷ r) l n)) x.height (Ok (with_piece all x (text_of u.content), inp r u.to n))
unfolding pieces_from sort text next
tail_goes d zero all x vs u r l n far h c = absurd (omega (arith, far))
tail_goes d (suc m) all x vs u r l n far h c =
    let f : Grown → Parser Pieces = λ x i. piece_by (tree d) (pieces_from (tree d) m) all x (sort i) i in
    gets_to (gets_then (h (u ∷ r) l n (loose_sort true u k.TemplateTail 16 c (λ line. omega arith) r)) f)
    (ap (λ s. piece_by (tree d) (pieces_from (tree d) m) all x s (inp (u ∷ r) (end_after l vs) n)) c)

pub one_substitution_read : (d : ℕ) (text : List ℕ) (us vs : List Lexeme) (t : Lexeme) (all : Pieces) (x : Grown) → SubstitutionsClaim d text us all → Claim d (Expression true) vs x → t.sort ≡ k.TemplateMiddle
    → SubstitutionsClaim d text (us ++ (vs ++ t ∷ [])) (with_piece all x (text_of t.content))
one_substitution_read d text us vs t all x w h c r l n m far =
    let split = split_all us vs t r in
    let s = w (vs ++ t ∷ r) l n m (subst (λ zs. length zs < m) split far) in
    let more = middle_goes d s.turns all x vs t r (end_after l us) n s.enough h c in
    record {
      turns = more.turns;
      enough = more.enough;
      gets = subst (λ zs. Gets (pieces_from (tree d) m (one_piece text) (inp zs l n)) (max all.tall x.height) (pieces_from (tree d) more.turns (with_piece all x (text_of t.content)) (inp r (end_after l (us ++ (vs ++ t ∷ []))) n))) (sym split)
          (gets_to (gets_max all.tall x.height s.gets more.gets) (ap (λ a. pieces_from (tree d) more.turns (with_piece all x (text_of t.content)) (inp r a n)) (end_behind_all l us vs t)));
    }

pub template_reads : (d : ℕ) (us vs : List Lexeme) (t u : Lexeme) (all : Pieces) (x : Grown) → t.sort ≡ k.TemplateHead → SubstitutionsClaim d (text_of t.content) us all → Claim d (Expression true) vs x → u.sort ≡ k.TemplateTail
    → Claim d Primary (t ∷ (us ++ (vs ++ u ∷ [])))
    (whole (node.Template (with_piece all x (text_of u.content)).texts (with_piece all x (text_of u.content)).trees) t.from (t ∷ (us ++ (vs ++ u ∷ []))) (with_piece all x (text_of u.content)).tall)
unfolding template pieces left text next
template_reads d us vs t u all x c w h e r l n =
    let last = with_piece all x (text_of u.content) in
    let nd = node.Template last.texts last.trees in
    let split = split_all us vs u r in
    let f : Pieces → Parser Grown = λ all. complete (node.Template all.texts all.trees) t.from all.tall in
    let s = w (vs ++ u ∷ r) t.to n (length (us ++ (vs ++ u ∷ r)) + 1) (omega arith) in
    let inside : Gets (pieces (tree d) (text_of t.content) (inp (us ++ (vs ++ u ∷ r)) t.to n)) last.tall (Ok (last, inp r u.to n)) =
    gets_max all.tall x.height s.gets (tail_goes d s.turns all x vs u r (end_after t.to us) n (omega (arith, s.enough)) h e) in
    gets_is (and_then (pieces (tree d) (text_of t.content) (inp ((us ++ (vs ++ u ∷ [])) ++ r) t.to n)) f) (primary_is d t ((us ++ (vs ++ u ∷ [])) ++ r) l n k.TemplateHead c)
    (subst (λ zs. Gets (and_then (pieces (tree d) (text_of t.content) (inp zs t.to n)) f) (last.tall + 1) (done (whole nd t.from (t ∷ (us ++ (vs ++ u ∷ []))) last.tall) (inp r (end_after t.to (us ++ (vs ++ u ∷ []))) n))) (sym split)
    (gets_move (λ a b. done (ending nd t.from a last.tall) (inp r b n)) u.to (end_after t.to (us ++ (vs ++ u ∷ []))) (end_after t.to (us ++ (vs ++ u ∷ []))) (end_behind_all t.to us vs u) (end_behind_all t.to us vs u)
    (gets_trans last.tall (last.tall + 1) (omega arith) (gets_then inside f) (gets_whole nd t.from last.tall r u.to n))))
