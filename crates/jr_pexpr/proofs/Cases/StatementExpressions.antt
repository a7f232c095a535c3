-- Expressions that may be no statement (JLS 14.8). javac refuses them too, where the case says nothing else.
use Rattle.std.proofs.Common.{[], ◌∷◌, refl}
use Rattle.std.specs.Prelude.{codes}
use Rattle.jr_lex.specs.declared.items.Keyword.TheVariants.{Class, New, Super, This}
use Rattle.jr_lex.specs.declared.items.Symbol.TheVariants.{Bang, CloseParen, Dot, Equals, Minus as MinusSign, OpenParen, PlusPlus, Plus as PlusSign}
use Rattle.jr_grammar.specs.Tokens.{word, keyword, integer, symbol}
use Rattle.jr_pexpr.specs.Machine.{begun, extended}
use Rattle.jr_grammar.specs.Expressions.{IsNoStatementExpression}
use Rattle.jr_pexpr.proofs.Cases.Forms.{statement_refused}

-- a
-- javac too: not a statement
name_alone : IsNoStatementExpression (word (codes "a") ∷ [])
unfolding begun extended
name_alone = statement_refused _ refl

-- a.b
-- javac too: not a statement
field_alone : IsNoStatementExpression (word (codes "a") ∷ symbol Dot ∷ word (codes "b") ∷ [])
unfolding begun extended
field_alone = statement_refused _ refl

-- super.a
-- javac too: not a statement
super_field_alone : IsNoStatementExpression (keyword Super ∷ symbol Dot ∷ word (codes "a") ∷ [])
unfolding begun extended
super_field_alone = statement_refused _ refl

-- 1
-- javac too: not a statement
number_alone : IsNoStatementExpression (integer 1 ∷ [])
unfolding begun extended
number_alone = statement_refused _ refl

-- this
-- javac too: not a statement
this_alone : IsNoStatementExpression (keyword This ∷ [])
unfolding begun extended
this_alone = statement_refused _ refl

-- A.class
-- javac too: not a statement
literal_alone : IsNoStatementExpression (word (codes "A") ∷ symbol Dot ∷ keyword Class ∷ [])
unfolding begun extended
literal_alone = statement_refused _ refl

-- (a=b)
-- javac too: not a statement
assignment_in_parentheses : IsNoStatementExpression (symbol OpenParen ∷ word (codes "a") ∷ symbol Equals ∷ word (codes "b") ∷ symbol CloseParen ∷ [])
unfolding begun extended
assignment_in_parentheses = statement_refused _ refl

-- (m())
-- javac too: not a statement
call_in_parentheses : IsNoStatementExpression (symbol OpenParen ∷ word (codes "m") ∷ symbol OpenParen ∷ symbol CloseParen ∷ symbol CloseParen ∷ [])
unfolding begun extended
call_in_parentheses = statement_refused _ refl

-- a+b
-- javac too: not a statement
sum : IsNoStatementExpression (word (codes "a") ∷ symbol PlusSign ∷ word (codes "b") ∷ [])
unfolding begun extended
sum = statement_refused _ refl

-- m()+1
-- javac too: not a statement
sum_of_call : IsNoStatementExpression (word (codes "m") ∷ symbol OpenParen ∷ symbol CloseParen ∷ symbol PlusSign ∷ integer 1 ∷ [])
unfolding begun extended
sum_of_call = statement_refused _ refl

-- a++ +b
-- javac too: not a statement
sum_of_bump : IsNoStatementExpression (word (codes "a") ∷ symbol PlusPlus ∷ symbol PlusSign ∷ word (codes "b") ∷ [])
unfolding begun extended
sum_of_bump = statement_refused _ refl

-- -m()
-- javac too: not a statement
sign : IsNoStatementExpression (symbol MinusSign ∷ word (codes "m") ∷ symbol OpenParen ∷ symbol CloseParen ∷ [])
unfolding begun extended
sign = statement_refused _ refl

-- !m()
-- javac too: not a statement
not_call : IsNoStatementExpression (symbol Bang ∷ word (codes "m") ∷ symbol OpenParen ∷ symbol CloseParen ∷ [])
unfolding begun extended
not_call = statement_refused _ refl

-- (A)m()
-- javac too: not a statement
one_cast : IsNoStatementExpression (symbol OpenParen ∷ word (codes "A") ∷ symbol CloseParen ∷ word (codes "m") ∷ symbol OpenParen ∷ symbol CloseParen ∷ [])
unfolding begun extended
one_cast = statement_refused _ refl

-- new A().f
-- javac too: not a statement
field_of_created : IsNoStatementExpression (keyword New ∷ word (codes "A") ∷ symbol OpenParen ∷ symbol CloseParen ∷ symbol Dot ∷ word (codes "f") ∷ [])
unfolding begun extended
field_of_created = statement_refused _ refl

-- (A)a=b
-- javac's parser takes it; a target is no cast
cast_assigned : IsNoStatementExpression (symbol OpenParen ∷ word (codes "A") ∷ symbol CloseParen ∷ word (codes "a") ∷ symbol Equals ∷ word (codes "b") ∷ [])
unfolding begun extended
cast_assigned = statement_refused _ refl
