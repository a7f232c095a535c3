-- How far each text is read: the longest expression that it begins with, and where reading stops. Both count tokens.
use Rattle.std.proofs.Common.{◌≡◌, ℕ, List, [], ◌∷◌, Option, Some, None, refl, subst}
use Rattle.std.specs.Prelude.{codes, MatchOption}
use Rattle.jr_lex.specs.declared.items.Keyword.TheVariants.{Class, New, Super}
use Rattle.jr_lex.specs.declared.items.Symbol.TheVariants.{CloseParen, Comma, Dot, Equals, Minus as MinusSign, OpenParen, PlusPlus, Plus as PlusSign, Semicolon}
use Rattle.jr_ast.specs.Tree.{Exp}
use Rattle.jr_grammar.specs.Tokens.{Token, word, keyword, integer, symbol}
use Rattle.jr_grammar.specs.Bare.{Bare}
use Rattle.jr_pexpr.specs.Machine.{begun, extended}
use Rattle.jr_grammar.specs.Expressions.{HasNoExpression, HasNoStatementExpression, IsLongestExpression, IsLongestStatementExpression, IsExpressionStop, IsStatementExpressionStop}
use Rattle.jr_pexpr.specs.Expressions.{expression_length, expression_stop, statement_expression_length, statement_expression_stop}
use Rattle.jr_pexpr.proofs.Marks.{length_is_longest, statement_length_is_longest, stop_is_exact, statement_stop_is_exact}

expression_none : (ts : List Token) → expression_length ts ≡ None → HasNoExpression ts
expression_none ts h = subst (λ (o : Option ℕ). MatchOption o (HasNoExpression ts) (λ n. (tree : Exp Bare) × IsLongestExpression ts n tree)) h (length_is_longest ts)

expression_longest : (ts : List Token) (n : ℕ) → expression_length ts ≡ Some n → (tree : Exp Bare) × IsLongestExpression ts n tree
expression_longest ts n h = subst (λ (o : Option ℕ). MatchOption o (HasNoExpression ts) (λ n. (tree : Exp Bare) × IsLongestExpression ts n tree)) h (length_is_longest ts)

stop_of_expression : (ts : List Token) (n : ℕ) → expression_stop ts ≡ n → IsExpressionStop ts n
stop_of_expression ts n h = subst (λ (n : ℕ). IsExpressionStop ts n) h (stop_is_exact ts)

statement_none : (ts : List Token) → statement_expression_length ts ≡ None → HasNoStatementExpression ts
statement_none ts h = subst (λ (o : Option ℕ). MatchOption o (HasNoStatementExpression ts) (λ n. (tree : Exp Bare) × IsLongestStatementExpression ts n tree)) h (statement_length_is_longest ts)

statement_longest : (ts : List Token) (n : ℕ) → statement_expression_length ts ≡ Some n → (tree : Exp Bare) × IsLongestStatementExpression ts n tree
statement_longest ts n h = subst (λ (o : Option ℕ). MatchOption o (HasNoStatementExpression ts) (λ n. (tree : Exp Bare) × IsLongestStatementExpression ts n tree)) h (statement_length_is_longest ts)

statement_stop : (ts : List Token) (n : ℕ) → statement_expression_stop ts ≡ n → IsStatementExpressionStop ts n
statement_stop ts n h = subst (λ (n : ℕ). IsStatementExpressionStop ts n) h (statement_stop_is_exact ts)

-- a+b)c
bracket_closed_too_often : (tree : Exp Bare) × IsLongestExpression (word (codes "a") ∷ symbol PlusSign ∷ word (codes "b") ∷ symbol CloseParen ∷ word (codes "c") ∷ []) 3 tree × IsExpressionStop (word (codes "a") ∷ symbol PlusSign ∷ word (codes "b") ∷ symbol CloseParen ∷ word (codes "c") ∷ []) 3
unfolding begun extended
bracket_closed_too_often = let k = expression_longest (word (codes "a") ∷ symbol PlusSign ∷ word (codes "b") ∷ symbol CloseParen ∷ word (codes "c") ∷ []) 3 refl in (k.0, k.1, stop_of_expression _ _ refl)

-- a+;
operator_without_operand : (tree : Exp Bare) × IsLongestExpression (word (codes "a") ∷ symbol PlusSign ∷ symbol Semicolon ∷ []) 1 tree × IsExpressionStop (word (codes "a") ∷ symbol PlusSign ∷ symbol Semicolon ∷ []) 2
unfolding begun extended
operator_without_operand = let k = expression_longest (word (codes "a") ∷ symbol PlusSign ∷ symbol Semicolon ∷ []) 1 refl in (k.0, k.1, stop_of_expression _ _ refl)

-- ++a+b
all_of_it : (tree : Exp Bare) × IsLongestExpression (symbol PlusPlus ∷ word (codes "a") ∷ symbol PlusSign ∷ word (codes "b") ∷ []) 4 tree × IsExpressionStop (symbol PlusPlus ∷ word (codes "a") ∷ symbol PlusSign ∷ word (codes "b") ∷ []) 4
unfolding begun extended
all_of_it = let k = expression_longest (symbol PlusPlus ∷ word (codes "a") ∷ symbol PlusSign ∷ word (codes "b") ∷ []) 4 refl in (k.0, k.1, stop_of_expression _ _ refl)

-- ++a()+b
-- `++a()` can still go on as `++a().b`
call_where_a_target_is_wanted : (tree : Exp Bare) × IsLongestExpression (symbol PlusPlus ∷ word (codes "a") ∷ symbol OpenParen ∷ symbol CloseParen ∷ symbol PlusSign ∷ word (codes "b") ∷ []) 2 tree × IsExpressionStop (symbol PlusPlus ∷ word (codes "a") ∷ symbol OpenParen ∷ symbol CloseParen ∷ symbol PlusSign ∷ word (codes "b") ∷ []) 4
unfolding begun extended
call_where_a_target_is_wanted = let k = expression_longest (symbol PlusPlus ∷ word (codes "a") ∷ symbol OpenParen ∷ symbol CloseParen ∷ symbol PlusSign ∷ word (codes "b") ∷ []) 2 refl in (k.0, k.1, stop_of_expression _ _ refl)

-- ; a
nothing_begins : HasNoExpression (symbol Semicolon ∷ word (codes "a") ∷ []) × IsExpressionStop (symbol Semicolon ∷ word (codes "a") ∷ []) 0
unfolding begun extended
nothing_begins = (expression_none _ refl, stop_of_expression _ _ refl)

--
nothing_there : HasNoExpression ([]) × IsExpressionStop ([]) 0
unfolding begun extended
nothing_there = (expression_none _ refl, stop_of_expression _ _ refl)

-- a.b.class.c
literal_of_member_class : (tree : Exp Bare) × IsLongestExpression (word (codes "a") ∷ symbol Dot ∷ word (codes "b") ∷ symbol Dot ∷ keyword Class ∷ symbol Dot ∷ word (codes "c") ∷ []) 7 tree × IsExpressionStop (word (codes "a") ∷ symbol Dot ∷ word (codes "b") ∷ symbol Dot ∷ keyword Class ∷ symbol Dot ∷ word (codes "c") ∷ []) 7
unfolding begun extended
literal_of_member_class = let k = expression_longest (word (codes "a") ∷ symbol Dot ∷ word (codes "b") ∷ symbol Dot ∷ keyword Class ∷ symbol Dot ∷ word (codes "c") ∷ []) 7 refl in (k.0, k.1, stop_of_expression _ _ refl)

-- a.b.c.class
three_words_before_class : (tree : Exp Bare) × IsLongestExpression (word (codes "a") ∷ symbol Dot ∷ word (codes "b") ∷ symbol Dot ∷ word (codes "c") ∷ symbol Dot ∷ keyword Class ∷ []) 5 tree × IsExpressionStop (word (codes "a") ∷ symbol Dot ∷ word (codes "b") ∷ symbol Dot ∷ word (codes "c") ∷ symbol Dot ∷ keyword Class ∷ []) 6
unfolding begun extended
three_words_before_class = let k = expression_longest (word (codes "a") ∷ symbol Dot ∷ word (codes "b") ∷ symbol Dot ∷ word (codes "c") ∷ symbol Dot ∷ keyword Class ∷ []) 5 refl in (k.0, k.1, stop_of_expression _ _ refl)

-- (A)b;
cast_read_to_its_end : (tree : Exp Bare) × IsLongestExpression (symbol OpenParen ∷ word (codes "A") ∷ symbol CloseParen ∷ word (codes "b") ∷ symbol Semicolon ∷ []) 4 tree × IsExpressionStop (symbol OpenParen ∷ word (codes "A") ∷ symbol CloseParen ∷ word (codes "b") ∷ symbol Semicolon ∷ []) 4
unfolding begun extended
cast_read_to_its_end = let k = expression_longest (symbol OpenParen ∷ word (codes "A") ∷ symbol CloseParen ∷ word (codes "b") ∷ symbol Semicolon ∷ []) 4 refl in (k.0, k.1, stop_of_expression _ _ refl)

-- (a)(b
parenthesis_open_behind_cast : (tree : Exp Bare) × IsLongestExpression (symbol OpenParen ∷ word (codes "a") ∷ symbol CloseParen ∷ symbol OpenParen ∷ word (codes "b") ∷ []) 3 tree × IsExpressionStop (symbol OpenParen ∷ word (codes "a") ∷ symbol CloseParen ∷ symbol OpenParen ∷ word (codes "b") ∷ []) 5
unfolding begun extended
parenthesis_open_behind_cast = let k = expression_longest (symbol OpenParen ∷ word (codes "a") ∷ symbol CloseParen ∷ symbol OpenParen ∷ word (codes "b") ∷ []) 3 refl in (k.0, k.1, stop_of_expression _ _ refl)

-- m(a,
argument_to_come : (tree : Exp Bare) × IsLongestExpression (word (codes "m") ∷ symbol OpenParen ∷ word (codes "a") ∷ symbol Comma ∷ []) 1 tree × IsExpressionStop (word (codes "m") ∷ symbol OpenParen ∷ word (codes "a") ∷ symbol Comma ∷ []) 4
unfolding begun extended
argument_to_come = let k = expression_longest (word (codes "m") ∷ symbol OpenParen ∷ word (codes "a") ∷ symbol Comma ∷ []) 1 refl in (k.0, k.1, stop_of_expression _ _ refl)

-- m(a,)
argument_missing_at_end : (tree : Exp Bare) × IsLongestExpression (word (codes "m") ∷ symbol OpenParen ∷ word (codes "a") ∷ symbol Comma ∷ symbol CloseParen ∷ []) 1 tree × IsExpressionStop (word (codes "m") ∷ symbol OpenParen ∷ word (codes "a") ∷ symbol Comma ∷ symbol CloseParen ∷ []) 4
unfolding begun extended
argument_missing_at_end = let k = expression_longest (word (codes "m") ∷ symbol OpenParen ∷ word (codes "a") ∷ symbol Comma ∷ symbol CloseParen ∷ []) 1 refl in (k.0, k.1, stop_of_expression _ _ refl)

-- 2147483648+a
greatest_number_without_sign : HasNoExpression (integer 2147483648 ∷ symbol PlusSign ∷ word (codes "a") ∷ []) × IsExpressionStop (integer 2147483648 ∷ symbol PlusSign ∷ word (codes "a") ∷ []) 0
unfolding begun extended
greatest_number_without_sign = (expression_none _ refl, stop_of_expression _ _ refl)

-- a-2147483648
greatest_number_subtracted : (tree : Exp Bare) × IsLongestExpression (word (codes "a") ∷ symbol MinusSign ∷ integer 2147483648 ∷ []) 1 tree × IsExpressionStop (word (codes "a") ∷ symbol MinusSign ∷ integer 2147483648 ∷ []) 2
unfolding begun extended
greatest_number_subtracted = let k = expression_longest (word (codes "a") ∷ symbol MinusSign ∷ integer 2147483648 ∷ []) 1 refl in (k.0, k.1, stop_of_expression _ _ refl)

-- a=b+c=d
sum_to_be_assigned : (tree : Exp Bare) × IsLongestExpression (word (codes "a") ∷ symbol Equals ∷ word (codes "b") ∷ symbol PlusSign ∷ word (codes "c") ∷ symbol Equals ∷ word (codes "d") ∷ []) 5 tree × IsExpressionStop (word (codes "a") ∷ symbol Equals ∷ word (codes "b") ∷ symbol PlusSign ∷ word (codes "c") ∷ symbol Equals ∷ word (codes "d") ∷ []) 5
unfolding begun extended
sum_to_be_assigned = let k = expression_longest (word (codes "a") ∷ symbol Equals ∷ word (codes "b") ∷ symbol PlusSign ∷ word (codes "c") ∷ symbol Equals ∷ word (codes "d") ∷ []) 5 refl in (k.0, k.1, stop_of_expression _ _ refl)

-- new A;
created_without_arguments : HasNoExpression (keyword New ∷ word (codes "A") ∷ symbol Semicolon ∷ []) × IsExpressionStop (keyword New ∷ word (codes "A") ∷ symbol Semicolon ∷ []) 2
unfolding begun extended
created_without_arguments = (expression_none _ refl, stop_of_expression _ _ refl)

-- new a.b.c()
created_of_three_words : HasNoExpression (keyword New ∷ word (codes "a") ∷ symbol Dot ∷ word (codes "b") ∷ symbol Dot ∷ word (codes "c") ∷ symbol OpenParen ∷ symbol CloseParen ∷ []) × IsExpressionStop (keyword New ∷ word (codes "a") ∷ symbol Dot ∷ word (codes "b") ∷ symbol Dot ∷ word (codes "c") ∷ symbol OpenParen ∷ symbol CloseParen ∷ []) 4
unfolding begun extended
created_of_three_words = (expression_none _ refl, stop_of_expression _ _ refl)

-- super+a
super_without_dot : HasNoExpression (keyword Super ∷ symbol PlusSign ∷ word (codes "a") ∷ []) × IsExpressionStop (keyword Super ∷ symbol PlusSign ∷ word (codes "a") ∷ []) 1
unfolding begun extended
super_without_dot = (expression_none _ refl, stop_of_expression _ _ refl)

-- a++ ++
bump_behind_bump : (tree : Exp Bare) × IsLongestExpression (word (codes "a") ∷ symbol PlusPlus ∷ symbol PlusPlus ∷ []) 2 tree × IsExpressionStop (word (codes "a") ∷ symbol PlusPlus ∷ symbol PlusPlus ∷ []) 2
unfolding begun extended
bump_behind_bump = let k = expression_longest (word (codes "a") ∷ symbol PlusPlus ∷ symbol PlusPlus ∷ []) 2 refl in (k.0, k.1, stop_of_expression _ _ refl)

-- (A)++b
cast_before_bump : (tree : Exp Bare) × IsLongestExpression (symbol OpenParen ∷ word (codes "A") ∷ symbol CloseParen ∷ symbol PlusPlus ∷ word (codes "b") ∷ []) 3 tree × IsExpressionStop (symbol OpenParen ∷ word (codes "A") ∷ symbol CloseParen ∷ symbol PlusPlus ∷ word (codes "b") ∷ []) 3
unfolding begun extended
cast_before_bump = let k = expression_longest (symbol OpenParen ∷ word (codes "A") ∷ symbol CloseParen ∷ symbol PlusPlus ∷ word (codes "b") ∷ []) 3 refl in (k.0, k.1, stop_of_expression _ _ refl)

-- a+b;
no_operator_at_the_bottom : HasNoStatementExpression (word (codes "a") ∷ symbol PlusSign ∷ word (codes "b") ∷ symbol Semicolon ∷ []) × IsStatementExpressionStop (word (codes "a") ∷ symbol PlusSign ∷ word (codes "b") ∷ symbol Semicolon ∷ []) 1
unfolding begun extended
no_operator_at_the_bottom = (statement_none _ refl, statement_stop _ _ refl)

-- a=b+c;
assignment_read : (tree : Exp Bare) × IsLongestStatementExpression (word (codes "a") ∷ symbol Equals ∷ word (codes "b") ∷ symbol PlusSign ∷ word (codes "c") ∷ symbol Semicolon ∷ []) 5 tree × IsStatementExpressionStop (word (codes "a") ∷ symbol Equals ∷ word (codes "b") ∷ symbol PlusSign ∷ word (codes "c") ∷ symbol Semicolon ∷ []) 5
unfolding begun extended
assignment_read = let k = statement_longest (word (codes "a") ∷ symbol Equals ∷ word (codes "b") ∷ symbol PlusSign ∷ word (codes "c") ∷ symbol Semicolon ∷ []) 5 refl in (k.0, k.1, statement_stop _ _ refl)

-- (a)b
no_cast_at_the_bottom : HasNoStatementExpression (symbol OpenParen ∷ word (codes "a") ∷ symbol CloseParen ∷ word (codes "b") ∷ []) × IsStatementExpressionStop (symbol OpenParen ∷ word (codes "a") ∷ symbol CloseParen ∷ word (codes "b") ∷ []) 3
unfolding begun extended
no_cast_at_the_bottom = (statement_none _ refl, statement_stop _ _ refl)

-- ((a)b).m()
cast_within_parentheses : (tree : Exp Bare) × IsLongestStatementExpression (symbol OpenParen ∷ symbol OpenParen ∷ word (codes "a") ∷ symbol CloseParen ∷ word (codes "b") ∷ symbol CloseParen ∷ symbol Dot ∷ word (codes "m") ∷ symbol OpenParen ∷ symbol CloseParen ∷ []) 10 tree × IsStatementExpressionStop (symbol OpenParen ∷ symbol OpenParen ∷ word (codes "a") ∷ symbol CloseParen ∷ word (codes "b") ∷ symbol CloseParen ∷ symbol Dot ∷ word (codes "m") ∷ symbol OpenParen ∷ symbol CloseParen ∷ []) 10
unfolding begun extended
cast_within_parentheses = let k = statement_longest (symbol OpenParen ∷ symbol OpenParen ∷ word (codes "a") ∷ symbol CloseParen ∷ word (codes "b") ∷ symbol CloseParen ∷ symbol Dot ∷ word (codes "m") ∷ symbol OpenParen ∷ symbol CloseParen ∷ []) 10 refl in (k.0, k.1, statement_stop _ _ refl)

-- a.b
field_that_can_become_a_call : HasNoStatementExpression (word (codes "a") ∷ symbol Dot ∷ word (codes "b") ∷ []) × IsStatementExpressionStop (word (codes "a") ∷ symbol Dot ∷ word (codes "b") ∷ []) 3
unfolding begun extended
field_that_can_become_a_call = (statement_none _ refl, statement_stop _ _ refl)

-- a++ +b
bump_and_no_more : (tree : Exp Bare) × IsLongestStatementExpression (word (codes "a") ∷ symbol PlusPlus ∷ symbol PlusSign ∷ word (codes "b") ∷ []) 2 tree × IsStatementExpressionStop (word (codes "a") ∷ symbol PlusPlus ∷ symbol PlusSign ∷ word (codes "b") ∷ []) 2
unfolding begun extended
bump_and_no_more = let k = statement_longest (word (codes "a") ∷ symbol PlusPlus ∷ symbol PlusSign ∷ word (codes "b") ∷ []) 2 refl in (k.0, k.1, statement_stop _ _ refl)

-- m()+a
call_and_no_more : (tree : Exp Bare) × IsLongestStatementExpression (word (codes "m") ∷ symbol OpenParen ∷ symbol CloseParen ∷ symbol PlusSign ∷ word (codes "a") ∷ []) 3 tree × IsStatementExpressionStop (word (codes "m") ∷ symbol OpenParen ∷ symbol CloseParen ∷ symbol PlusSign ∷ word (codes "a") ∷ []) 3
unfolding begun extended
call_and_no_more = let k = statement_longest (word (codes "m") ∷ symbol OpenParen ∷ symbol CloseParen ∷ symbol PlusSign ∷ word (codes "a") ∷ []) 3 refl in (k.0, k.1, statement_stop _ _ refl)

-- -m()
no_sign_at_the_bottom : HasNoStatementExpression (symbol MinusSign ∷ word (codes "m") ∷ symbol OpenParen ∷ symbol CloseParen ∷ []) × IsStatementExpressionStop (symbol MinusSign ∷ word (codes "m") ∷ symbol OpenParen ∷ symbol CloseParen ∷ []) 0
unfolding begun extended
no_sign_at_the_bottom = (statement_none _ refl, statement_stop _ _ refl)

-- m(-a)
sign_in_an_argument : (tree : Exp Bare) × IsLongestStatementExpression (word (codes "m") ∷ symbol OpenParen ∷ symbol MinusSign ∷ word (codes "a") ∷ symbol CloseParen ∷ []) 5 tree × IsStatementExpressionStop (word (codes "m") ∷ symbol OpenParen ∷ symbol MinusSign ∷ word (codes "a") ∷ symbol CloseParen ∷ []) 5
unfolding begun extended
sign_in_an_argument = let k = statement_longest (word (codes "m") ∷ symbol OpenParen ∷ symbol MinusSign ∷ word (codes "a") ∷ symbol CloseParen ∷ []) 5 refl in (k.0, k.1, statement_stop _ _ refl)

-- new A().f
-- the field can still become a call or a target
created_and_field : (tree : Exp Bare) × IsLongestStatementExpression (keyword New ∷ word (codes "A") ∷ symbol OpenParen ∷ symbol CloseParen ∷ symbol Dot ∷ word (codes "f") ∷ []) 4 tree × IsStatementExpressionStop (keyword New ∷ word (codes "A") ∷ symbol OpenParen ∷ symbol CloseParen ∷ symbol Dot ∷ word (codes "f") ∷ []) 6
unfolding begun extended
created_and_field = let k = statement_longest (keyword New ∷ word (codes "A") ∷ symbol OpenParen ∷ symbol CloseParen ∷ symbol Dot ∷ word (codes "f") ∷ []) 4 refl in (k.0, k.1, statement_stop _ _ refl)
