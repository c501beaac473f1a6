-- The brackets that are open between two tokens, `{` and `${`, the innermost first (ECMA-262 12.9.6): they tell which `}` ends a
-- substitution.
use Rattle.std.specs.Prelude.{ℕ, ◌-◌, length, slice_index, Bool, true, false, ◌==◌, if◌then◌else◌, List, [], ◌∷◌}
use Rattle.sr_lex.specs.Units.{begins_with}
use Rattle.sr_lex.specs.Templates.{left_brace, right_brace}
use Rattle.sr_lex.specs.declared.token.TokenKind.{TokenKind}
use Rattle.sr_lex.specs.declared.token.TokenKind.TheVariants.{Name, Number, Text, Template, Punctuator}
use Rattle.sr_lex.specs.declared.brackets.Bracket.{Bracket}
use Rattle.sr_lex.specs.declared.brackets.Bracket.TheVariants.{Brace, Substitution}

-- whether the innermost is a `${`
abbrev pub in_substitution : List Bracket → Bool
in_substitution [] = false
in_substitution (Brace ∷ brackets) = false
in_substitution (Substitution ∷ brackets) = true

-- a `}` closes the innermost
abbrev pub close : List Bracket → List Bracket
close [] = []
close (b ∷ brackets) = brackets

-- the last of the units is `{`; of a piece, that it ends with `${`
abbrev pub ends_with_brace : List ℕ → Bool
ends_with_brace us = slice_index us (length us - 1) == left_brace

-- a punctuator that begins with `{` or `}` is that alone
unfoldable pub after_punctuator : List Bracket → List ℕ → List Bracket
after_punctuator brackets us = if begins_with left_brace us then Brace ∷ brackets else (if begins_with right_brace us then close brackets else brackets)

-- a piece that begins with `}` closes the innermost `${`, and one that ends with `${` opens another
unfoldable pub after_piece : List Bracket → List ℕ → List Bracket
after_piece brackets us =
    let outer = if begins_with right_brace us then close brackets else brackets in
    if ends_with_brace us then Substitution ∷ outer else outer

-- the brackets that are open after a token of this kind with these units
abbrev pub brackets_after : List Bracket → TokenKind → List ℕ → List Bracket
brackets_after brackets Name us = brackets
brackets_after brackets Number us = brackets
brackets_after brackets Text us = brackets
brackets_after brackets Template us = after_piece brackets us
brackets_after brackets Punctuator us = after_punctuator brackets us
