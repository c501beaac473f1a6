-- Which sorts of tokens are the same.
use Rattle.std.proofs.Common.{◌≡◌, true, false, refl}
use Rattle.sr_syntax.specs.declared.sorts.Sort.TheVariants as k
use Rattle.sr_syntax.specs.Sorts.{same_sort}

-- ---- a sort is itself

pub arrow_self : same_sort k.Arrow k.Arrow ≡ true
unfolding same_sort
arrow_self = refl

pub assign_self : same_sort k.Assign k.Assign ≡ true
unfolding same_sort
assign_self = refl

pub catch_self : same_sort k.Catch k.Catch ≡ true
unfolding same_sort
catch_self = refl

pub coalesce_self : same_sort k.Coalesce k.Coalesce ≡ true
unfolding same_sort
coalesce_self = refl

pub colon_self : same_sort k.Colon k.Colon ≡ true
unfolding same_sort
colon_self = refl

pub comma_self : same_sort k.Comma k.Comma ≡ true
unfolding same_sort
comma_self = refl

pub dot_self : same_sort k.Dot k.Dot ≡ true
unfolding same_sort
dot_self = refl

pub ellipsis_self : same_sort k.Ellipsis k.Ellipsis ≡ true
unfolding same_sort
ellipsis_self = refl

pub else_self : same_sort k.Else k.Else ≡ true
unfolding same_sort
else_self = refl

pub end_self : same_sort k.End k.End ≡ true
unfolding same_sort
end_self = refl

pub finally_self : same_sort k.Finally k.Finally ≡ true
unfolding same_sort
finally_self = refl

pub function_self : same_sort k.Function k.Function ≡ true
unfolding same_sort
function_self = refl

pub identifier_self : same_sort k.Identifier k.Identifier ≡ true
unfolding same_sort
identifier_self = refl

pub in_self : same_sort k.In k.In ≡ true
unfolding same_sort
in_self = refl

pub left_brace_self : same_sort k.LeftBrace k.LeftBrace ≡ true
unfolding same_sort
left_brace_self = refl

pub left_bracket_self : same_sort k.LeftBracket k.LeftBracket ≡ true
unfolding same_sort
left_bracket_self = refl

pub left_parenthesis_self : same_sort k.LeftParenthesis k.LeftParenthesis ≡ true
unfolding same_sort
left_parenthesis_self = refl

pub new_self : same_sort k.New k.New ≡ true
unfolding same_sort
new_self = refl

pub power_self : same_sort k.Power k.Power ≡ true
unfolding same_sort
power_self = refl

pub question_self : same_sort k.Question k.Question ≡ true
unfolding same_sort
question_self = refl

pub right_brace_self : same_sort k.RightBrace k.RightBrace ≡ true
unfolding same_sort
right_brace_self = refl

pub right_bracket_self : same_sort k.RightBracket k.RightBracket ≡ true
unfolding same_sort
right_bracket_self = refl

pub right_parenthesis_self : same_sort k.RightParenthesis k.RightParenthesis ≡ true
unfolding same_sort
right_parenthesis_self = refl

pub semicolon_self : same_sort k.Semicolon k.Semicolon ≡ true
unfolding same_sort
semicolon_self = refl

pub text_self : same_sort k.Text k.Text ≡ true
unfolding same_sort
text_self = refl

pub while_self : same_sort k.While k.While ≡ true
unfolding same_sort
while_self = refl

-- ---- and no other

pub colon_no_left_parenthesis : same_sort k.Colon k.LeftParenthesis ≡ false
unfolding same_sort
colon_no_left_parenthesis = refl

pub comma_no_right_bracket : same_sort k.Comma k.RightBracket ≡ false
unfolding same_sort
comma_no_right_bracket = refl

pub ellipsis_no_comma : same_sort k.Ellipsis k.Comma ≡ false
unfolding same_sort
ellipsis_no_comma = refl

pub ellipsis_no_identifier : same_sort k.Ellipsis k.Identifier ≡ false
unfolding same_sort
ellipsis_no_identifier = refl

pub ellipsis_no_right_brace : same_sort k.Ellipsis k.RightBrace ≡ false
unfolding same_sort
ellipsis_no_right_brace = refl

pub ellipsis_no_right_bracket : same_sort k.Ellipsis k.RightBracket ≡ false
unfolding same_sort
ellipsis_no_right_bracket = refl

pub ellipsis_no_right_parenthesis : same_sort k.Ellipsis k.RightParenthesis ≡ false
unfolding same_sort
ellipsis_no_right_parenthesis = refl

pub end_no_assign : same_sort k.End k.Assign ≡ false
unfolding same_sort
end_no_assign = refl

pub end_no_catch : same_sort k.End k.Catch ≡ false
unfolding same_sort
end_no_catch = refl

pub end_no_coalesce : same_sort k.End k.Coalesce ≡ false
unfolding same_sort
end_no_coalesce = refl

pub end_no_colon : same_sort k.End k.Colon ≡ false
unfolding same_sort
end_no_colon = refl

pub end_no_comma : same_sort k.End k.Comma ≡ false
unfolding same_sort
end_no_comma = refl

pub end_no_dot : same_sort k.End k.Dot ≡ false
unfolding same_sort
end_no_dot = refl

pub end_no_ellipsis : same_sort k.End k.Ellipsis ≡ false
unfolding same_sort
end_no_ellipsis = refl

pub end_no_else : same_sort k.End k.Else ≡ false
unfolding same_sort
end_no_else = refl

pub end_no_finally : same_sort k.End k.Finally ≡ false
unfolding same_sort
end_no_finally = refl

pub end_no_function : same_sort k.End k.Function ≡ false
unfolding same_sort
end_no_function = refl

pub end_no_identifier : same_sort k.End k.Identifier ≡ false
unfolding same_sort
end_no_identifier = refl

pub end_no_in : same_sort k.End k.In ≡ false
unfolding same_sort
end_no_in = refl

pub end_no_left_brace : same_sort k.End k.LeftBrace ≡ false
unfolding same_sort
end_no_left_brace = refl

pub end_no_left_bracket : same_sort k.End k.LeftBracket ≡ false
unfolding same_sort
end_no_left_bracket = refl

pub end_no_left_parenthesis : same_sort k.End k.LeftParenthesis ≡ false
unfolding same_sort
end_no_left_parenthesis = refl

pub end_no_new : same_sort k.End k.New ≡ false
unfolding same_sort
end_no_new = refl

pub end_no_power : same_sort k.End k.Power ≡ false
unfolding same_sort
end_no_power = refl

pub end_no_question : same_sort k.End k.Question ≡ false
unfolding same_sort
end_no_question = refl

pub end_no_right_brace : same_sort k.End k.RightBrace ≡ false
unfolding same_sort
end_no_right_brace = refl

pub end_no_right_bracket : same_sort k.End k.RightBracket ≡ false
unfolding same_sort
end_no_right_bracket = refl

pub end_no_right_parenthesis : same_sort k.End k.RightParenthesis ≡ false
unfolding same_sort
end_no_right_parenthesis = refl

pub end_no_semicolon : same_sort k.End k.Semicolon ≡ false
unfolding same_sort
end_no_semicolon = refl

pub end_no_text : same_sort k.End k.Text ≡ false
unfolding same_sort
end_no_text = refl

pub end_no_while : same_sort k.End k.While ≡ false
unfolding same_sort
end_no_while = refl

pub finally_no_catch : same_sort k.Finally k.Catch ≡ false
unfolding same_sort
finally_no_catch = refl

pub identifier_no_comma : same_sort k.Identifier k.Comma ≡ false
unfolding same_sort
identifier_no_comma = refl

pub identifier_no_ellipsis : same_sort k.Identifier k.Ellipsis ≡ false
unfolding same_sort
identifier_no_ellipsis = refl

pub identifier_no_in : same_sort k.Identifier k.In ≡ false
unfolding same_sort
identifier_no_in = refl

pub identifier_no_left_parenthesis : same_sort k.Identifier k.LeftParenthesis ≡ false
unfolding same_sort
identifier_no_left_parenthesis = refl

pub identifier_no_right_brace : same_sort k.Identifier k.RightBrace ≡ false
unfolding same_sort
identifier_no_right_brace = refl

pub identifier_no_right_parenthesis : same_sort k.Identifier k.RightParenthesis ≡ false
unfolding same_sort
identifier_no_right_parenthesis = refl

pub left_brace_no_left_parenthesis : same_sort k.LeftBrace k.LeftParenthesis ≡ false
unfolding same_sort
left_brace_no_left_parenthesis = refl

pub left_bracket_no_identifier : same_sort k.LeftBracket k.Identifier ≡ false
unfolding same_sort
left_bracket_no_identifier = refl

pub left_bracket_no_right_brace : same_sort k.LeftBracket k.RightBrace ≡ false
unfolding same_sort
left_bracket_no_right_brace = refl

pub left_parenthesis_no_dot : same_sort k.LeftParenthesis k.Dot ≡ false
unfolding same_sort
left_parenthesis_no_dot = refl

pub left_parenthesis_no_identifier : same_sort k.LeftParenthesis k.Identifier ≡ false
unfolding same_sort
left_parenthesis_no_identifier = refl

pub left_parenthesis_no_left_bracket : same_sort k.LeftParenthesis k.LeftBracket ≡ false
unfolding same_sort
left_parenthesis_no_left_bracket = refl

pub right_brace_no_comma : same_sort k.RightBrace k.Comma ≡ false
unfolding same_sort
right_brace_no_comma = refl

pub right_brace_no_else : same_sort k.RightBrace k.Else ≡ false
unfolding same_sort
right_brace_no_else = refl

pub right_brace_no_finally : same_sort k.RightBrace k.Finally ≡ false
unfolding same_sort
right_brace_no_finally = refl

pub right_brace_no_identifier : same_sort k.RightBrace k.Identifier ≡ false
unfolding same_sort
right_brace_no_identifier = refl

pub right_brace_no_semicolon : same_sort k.RightBrace k.Semicolon ≡ false
unfolding same_sort
right_brace_no_semicolon = refl

pub right_bracket_no_comma : same_sort k.RightBracket k.Comma ≡ false
unfolding same_sort
right_bracket_no_comma = refl

pub right_parenthesis_no_comma : same_sort k.RightParenthesis k.Comma ≡ false
unfolding same_sort
right_parenthesis_no_comma = refl

pub semicolon_no_identifier : same_sort k.Semicolon k.Identifier ≡ false
unfolding same_sort
semicolon_no_identifier = refl

pub semicolon_no_in : same_sort k.Semicolon k.In ≡ false
unfolding same_sort
semicolon_no_in = refl
