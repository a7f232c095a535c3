-- Texts that are no expression, each for one side condition or one form that is left out.
-- Each case has no tree. `javac too` is followed by what javac's parser says of the text; where javac takes it, the case says why
-- it is no expression here.
use Rattle.std.proofs.Common.{[], ◌∷◌, refl}
use Rattle.std.specs.Prelude.{codes}
use Rattle.jr_lex.specs.declared.items.Keyword.TheVariants.{Class, Instanceof, Int, New, Super, This, True}
use Rattle.jr_lex.specs.declared.items.Symbol.TheVariants.{AndEquals, And as AndSign, Arrow, Bang, CloseBrace, CloseBracket, CloseParen, Colon, Comma, Dot, DoubleColon, EqualEqual, Equals, Minus as MinusSign, OpenBrace, OpenBracket, OpenParen, PlusPlus, Plus as PlusSign, Question, ShiftLeft, ShiftLeftEquals, Slash, Star, Tilde}
use Rattle.jr_grammar.specs.Tokens.{word, keyword, integer, symbol}
use Rattle.jr_pexpr.specs.Machine.{begun, extended}
use Rattle.jr_grammar.specs.Expressions.{IsNoExpression}
use Rattle.jr_pexpr.proofs.Cases.Forms.{expression_refused}

-- ((a))=1
-- javac's parser takes it; a target stands in no parentheses
parentheses_assigned : IsNoExpression (symbol OpenParen ∷ symbol OpenParen ∷ word (codes "a") ∷ symbol CloseParen ∷ symbol CloseParen ∷ symbol Equals ∷ integer 1 ∷ [])
unfolding begun extended
parentheses_assigned = expression_refused _ refl

-- (a)++
-- javac takes it; a target stands in no parentheses
parentheses_bumped : IsNoExpression (symbol OpenParen ∷ word (codes "a") ∷ symbol CloseParen ∷ symbol PlusPlus ∷ [])
unfolding begun extended
parentheses_bumped = expression_refused _ refl

-- ++(a)
-- javac takes it; a target stands in no parentheses
parentheses_bumped_before : IsNoExpression (symbol PlusPlus ∷ symbol OpenParen ∷ word (codes "a") ∷ symbol CloseParen ∷ [])
unfolding begun extended
parentheses_bumped_before = expression_refused _ refl

-- m()=a
-- javac's parser takes it; a call is no target
call_assigned : IsNoExpression (word (codes "m") ∷ symbol OpenParen ∷ symbol CloseParen ∷ symbol Equals ∷ word (codes "a") ∷ [])
unfolding begun extended
call_assigned = expression_refused _ refl

-- a+b=c
-- javac's parser takes it; a target is no sum
sum_assigned : IsNoExpression (word (codes "a") ∷ symbol PlusSign ∷ word (codes "b") ∷ symbol Equals ∷ word (codes "c") ∷ [])
unfolding begun extended
sum_assigned = expression_refused _ refl

-- a==b=c
-- javac's parser takes it; a target is no comparison
equality_assigned : IsNoExpression (word (codes "a") ∷ symbol EqualEqual ∷ word (codes "b") ∷ symbol Equals ∷ word (codes "c") ∷ [])
unfolding begun extended
equality_assigned = expression_refused _ refl

-- a=b+c=d
-- javac's parser takes it; a target is no sum
sum_assigned_within : IsNoExpression (word (codes "a") ∷ symbol Equals ∷ word (codes "b") ∷ symbol PlusSign ∷ word (codes "c") ∷ symbol Equals ∷ word (codes "d") ∷ [])
unfolding begun extended
sum_assigned_within = expression_refused _ refl

-- -a=b
-- javac's parser takes it; a target has no sign
sign_assigned : IsNoExpression (symbol MinusSign ∷ word (codes "a") ∷ symbol Equals ∷ word (codes "b") ∷ [])
unfolding begun extended
sign_assigned = expression_refused _ refl

-- (A)a=b
-- javac's parser takes it; a target is no cast
cast_assigned : IsNoExpression (symbol OpenParen ∷ word (codes "A") ∷ symbol CloseParen ∷ word (codes "a") ∷ symbol Equals ∷ word (codes "b") ∷ [])
unfolding begun extended
cast_assigned = expression_refused _ refl

-- this=a
-- javac's parser takes it; `this` is no target
this_assigned : IsNoExpression (keyword This ∷ symbol Equals ∷ word (codes "a") ∷ [])
unfolding begun extended
this_assigned = expression_refused _ refl

-- 1=a
-- javac's parser takes it; a literal is no target
literal_assigned : IsNoExpression (integer 1 ∷ symbol Equals ∷ word (codes "a") ∷ [])
unfolding begun extended
literal_assigned = expression_refused _ refl

-- ++m()
-- javac's parser takes it; a call is no target
call_bumped : IsNoExpression (symbol PlusPlus ∷ word (codes "m") ∷ symbol OpenParen ∷ symbol CloseParen ∷ [])
unfolding begun extended
call_bumped = expression_refused _ refl

-- ++a++
-- javac's parser takes it; what is bumped is a target
bump_bumped : IsNoExpression (symbol PlusPlus ∷ word (codes "a") ∷ symbol PlusPlus ∷ [])
unfolding begun extended
bump_bumped = expression_refused _ refl

-- a++ ++
-- javac's parser takes it; what is bumped is a target
bump_bumped_behind : IsNoExpression (word (codes "a") ∷ symbol PlusPlus ∷ symbol PlusPlus ∷ [])
unfolding begun extended
bump_bumped_behind = expression_refused _ refl

-- ++ ++a
-- javac's parser takes it; what is bumped is a target
bump_bumped_before : IsNoExpression (symbol PlusPlus ∷ symbol PlusPlus ∷ word (codes "a") ∷ [])
unfolding begun extended
bump_bumped_before = expression_refused _ refl

-- a++.b
-- javac too: ';' expected
field_of_bump : IsNoExpression (word (codes "a") ∷ symbol PlusPlus ∷ symbol Dot ∷ word (codes "b") ∷ [])
unfolding begun extended
field_of_bump = expression_refused _ refl

-- ++-a
-- javac's parser takes it; what is bumped is a target
sign_bumped : IsNoExpression (symbol PlusPlus ∷ symbol MinusSign ∷ word (codes "a") ∷ [])
unfolding begun extended
sign_bumped = expression_refused _ refl

-- 2147483648
-- javac too: integer number too large
greatest_alone : IsNoExpression (integer 2147483648 ∷ [])
unfolding begun extended
greatest_alone = expression_refused _ refl

-- -2147483649
-- javac too: integer number too large
beyond_the_least : IsNoExpression (symbol MinusSign ∷ integer 2147483649 ∷ [])
unfolding begun extended
beyond_the_least = expression_refused _ refl

-- -(2147483648)
-- javac too: integer number too large
greatest_in_parentheses : IsNoExpression (symbol MinusSign ∷ symbol OpenParen ∷ integer 2147483648 ∷ symbol CloseParen ∷ [])
unfolding begun extended
greatest_in_parentheses = expression_refused _ refl

-- a-2147483648
-- javac too: integer number too large
greatest_subtracted : IsNoExpression (word (codes "a") ∷ symbol MinusSign ∷ integer 2147483648 ∷ [])
unfolding begun extended
greatest_subtracted = expression_refused _ refl

-- +2147483648
-- javac too: integer number too large
greatest_behind_plus : IsNoExpression (symbol PlusSign ∷ integer 2147483648 ∷ [])
unfolding begun extended
greatest_behind_plus = expression_refused _ refl

-- -(A)2147483648
-- javac too: integer number too large
greatest_behind_cast : IsNoExpression (symbol MinusSign ∷ symbol OpenParen ∷ word (codes "A") ∷ symbol CloseParen ∷ integer 2147483648 ∷ [])
unfolding begun extended
greatest_behind_cast = expression_refused _ refl

-- -!2147483648
-- javac too: integer number too large
greatest_behind_not : IsNoExpression (symbol MinusSign ∷ symbol Bang ∷ integer 2147483648 ∷ [])
unfolding begun extended
greatest_behind_not = expression_refused _ refl

-- (A)++b
-- javac too: ';' expected
bump_behind_cast : IsNoExpression (symbol OpenParen ∷ word (codes "A") ∷ symbol CloseParen ∷ symbol PlusPlus ∷ word (codes "b") ∷ [])
unfolding begun extended
bump_behind_cast = expression_refused _ refl

-- (int)a
-- a cast names a class, `"(" name ")"`
cast_to_int : IsNoExpression (symbol OpenParen ∷ keyword Int ∷ symbol CloseParen ∷ word (codes "a") ∷ [])
unfolding begun extended
cast_to_int = expression_refused _ refl

-- (a.b.c)d
-- a name has one or two words
cast_to_three_words : IsNoExpression (symbol OpenParen ∷ word (codes "a") ∷ symbol Dot ∷ word (codes "b") ∷ symbol Dot ∷ word (codes "c") ∷ symbol CloseParen ∷ word (codes "d") ∷ [])
unfolding begun extended
cast_to_three_words = expression_refused _ refl

-- int.class
-- a class literal is `name . class`
class_literal_of_int : IsNoExpression (keyword Int ∷ symbol Dot ∷ keyword Class ∷ [])
unfolding begun extended
class_literal_of_int = expression_refused _ refl

-- a.b.c.class
-- a name has one or two words
class_literal_of_three_words : IsNoExpression (word (codes "a") ∷ symbol Dot ∷ word (codes "b") ∷ symbol Dot ∷ word (codes "c") ∷ symbol Dot ∷ keyword Class ∷ [])
unfolding begun extended
class_literal_of_three_words = expression_refused _ refl

-- (a).class
-- javac too: <identifier> expected
class_literal_of_parentheses : IsNoExpression (symbol OpenParen ∷ word (codes "a") ∷ symbol CloseParen ∷ symbol Dot ∷ keyword Class ∷ [])
unfolding begun extended
class_literal_of_parentheses = expression_refused _ refl

-- new int()
-- javac too: '[' expected
create_of_int : IsNoExpression (keyword New ∷ keyword Int ∷ symbol OpenParen ∷ symbol CloseParen ∷ [])
unfolding begun extended
create_of_int = expression_refused _ refl

-- new a.b.c()
-- a name has one or two words
create_of_three_words : IsNoExpression (keyword New ∷ word (codes "a") ∷ symbol Dot ∷ word (codes "b") ∷ symbol Dot ∷ word (codes "c") ∷ symbol OpenParen ∷ symbol CloseParen ∷ [])
unfolding begun extended
create_of_three_words = expression_refused _ refl

-- a.new B()
-- `new` stands first
create_within : IsNoExpression (word (codes "a") ∷ symbol Dot ∷ keyword New ∷ word (codes "B") ∷ symbol OpenParen ∷ symbol CloseParen ∷ [])
unfolding begun extended
create_within = expression_refused _ refl

-- new A
-- javac too: '(' or '[' expected
create_without_arguments : IsNoExpression (keyword New ∷ word (codes "A") ∷ [])
unfolding begun extended
create_without_arguments = expression_refused _ refl

-- new A(){}
-- no class bodies behind `new`
create_with_body : IsNoExpression (keyword New ∷ word (codes "A") ∷ symbol OpenParen ∷ symbol CloseParen ∷ symbol OpenBrace ∷ symbol CloseBrace ∷ [])
unfolding begun extended
create_with_body = expression_refused _ refl

-- new A[0]
-- no arrays
create_array : IsNoExpression (keyword New ∷ word (codes "A") ∷ symbol OpenBracket ∷ integer 0 ∷ symbol CloseBracket ∷ [])
unfolding begun extended
create_array = expression_refused _ refl

-- m()()
-- javac too: ';' expected
call_of_call_itself : IsNoExpression (word (codes "m") ∷ symbol OpenParen ∷ symbol CloseParen ∷ symbol OpenParen ∷ symbol CloseParen ∷ [])
unfolding begun extended
call_of_call_itself = expression_refused _ refl

-- (a)()
-- javac too: -> expected
call_of_parentheses : IsNoExpression (symbol OpenParen ∷ word (codes "a") ∷ symbol CloseParen ∷ symbol OpenParen ∷ symbol CloseParen ∷ [])
unfolding begun extended
call_of_parentheses = expression_refused _ refl

-- this()
-- javac reads a call of a constructor; here only `super(..)` is one, and it is no expression
call_of_this : IsNoExpression (keyword This ∷ symbol OpenParen ∷ symbol CloseParen ∷ [])
unfolding begun extended
call_of_this = expression_refused _ refl

-- super
-- javac too: '.' expected
super_alone : IsNoExpression (keyword Super ∷ [])
unfolding begun extended
super_alone = expression_refused _ refl

-- super()
-- javac reads a call of a constructor; here it is a part of a constructor and no expression
super_called : IsNoExpression (keyword Super ∷ symbol OpenParen ∷ symbol CloseParen ∷ [])
unfolding begun extended
super_called = expression_refused _ refl

-- a.super.m()
-- `super` stands first
super_of_name : IsNoExpression (word (codes "a") ∷ symbol Dot ∷ keyword Super ∷ symbol Dot ∷ word (codes "m") ∷ symbol OpenParen ∷ symbol CloseParen ∷ [])
unfolding begun extended
super_of_name = expression_refused _ refl

-- a.this
-- `this` stands first
this_of_name : IsNoExpression (word (codes "a") ∷ symbol Dot ∷ keyword This ∷ [])
unfolding begun extended
this_of_name = expression_refused _ refl

-- a.true
-- javac too: <identifier> expected
literal_behind_dot : IsNoExpression (word (codes "a") ∷ symbol Dot ∷ keyword True ∷ [])
unfolding begun extended
literal_behind_dot = expression_refused _ refl

-- a b
-- javac too: ';' expected
two_names : IsNoExpression (word (codes "a") ∷ word (codes "b") ∷ [])
unfolding begun extended
two_names = expression_refused _ refl

-- a*/b
-- javac too: illegal start of expression
two_operators : IsNoExpression (word (codes "a") ∷ symbol Star ∷ symbol Slash ∷ word (codes "b") ∷ [])
unfolding begun extended
two_operators = expression_refused _ refl

-- *a
-- javac too: illegal start of expression
operator_first : IsNoExpression (symbol Star ∷ word (codes "a") ∷ [])
unfolding begun extended
operator_first = expression_refused _ refl

-- a+
-- javac too: illegal start of expression
operator_last : IsNoExpression (word (codes "a") ∷ symbol PlusSign ∷ [])
unfolding begun extended
operator_last = expression_refused _ refl

-- m(a,)
-- javac too: illegal start of expression
argument_missing : IsNoExpression (word (codes "m") ∷ symbol OpenParen ∷ word (codes "a") ∷ symbol Comma ∷ symbol CloseParen ∷ [])
unfolding begun extended
argument_missing = expression_refused _ refl

-- m(,a)
-- javac too: illegal start of expression
argument_first_missing : IsNoExpression (word (codes "m") ∷ symbol OpenParen ∷ symbol Comma ∷ word (codes "a") ∷ symbol CloseParen ∷ [])
unfolding begun extended
argument_first_missing = expression_refused _ refl

-- (a
-- javac too: ')' expected
parenthesis_open : IsNoExpression (symbol OpenParen ∷ word (codes "a") ∷ [])
unfolding begun extended
parenthesis_open = expression_refused _ refl

-- ()
-- javac too: -> expected
parentheses_empty : IsNoExpression (symbol OpenParen ∷ symbol CloseParen ∷ [])
unfolding begun extended
parentheses_empty = expression_refused _ refl

-- a?b:c
-- no conditional expressions
conditional : IsNoExpression (word (codes "a") ∷ symbol Question ∷ word (codes "b") ∷ symbol Colon ∷ word (codes "c") ∷ [])
unfolding begun extended
conditional = expression_refused _ refl

-- a instanceof B
-- no `instanceof`
instance_test : IsNoExpression (word (codes "a") ∷ keyword Instanceof ∷ word (codes "B") ∷ [])
unfolding begun extended
instance_test = expression_refused _ refl

-- ~a
-- no `~`
complement : IsNoExpression (symbol Tilde ∷ word (codes "a") ∷ [])
unfolding begun extended
complement = expression_refused _ refl

-- a&b
-- no operators on bits
bits : IsNoExpression (word (codes "a") ∷ symbol AndSign ∷ word (codes "b") ∷ [])
unfolding begun extended
bits = expression_refused _ refl

-- a<<b
-- no shifts
shift : IsNoExpression (word (codes "a") ∷ symbol ShiftLeft ∷ word (codes "b") ∷ [])
unfolding begun extended
shift = expression_refused _ refl

-- a&=b
-- no operators on bits
compound_bits : IsNoExpression (word (codes "a") ∷ symbol AndEquals ∷ word (codes "b") ∷ [])
unfolding begun extended
compound_bits = expression_refused _ refl

-- a<<=b
-- no shifts
compound_shift : IsNoExpression (word (codes "a") ∷ symbol ShiftLeftEquals ∷ word (codes "b") ∷ [])
unfolding begun extended
compound_shift = expression_refused _ refl

-- a[0]
-- no arrays
index : IsNoExpression (word (codes "a") ∷ symbol OpenBracket ∷ integer 0 ∷ symbol CloseBracket ∷ [])
unfolding begun extended
index = expression_refused _ refl

-- A::m
-- no method references
method_reference : IsNoExpression (word (codes "A") ∷ symbol DoubleColon ∷ word (codes "m") ∷ [])
unfolding begun extended
method_reference = expression_refused _ refl

-- a->b
-- no lambdas
lambda : IsNoExpression (word (codes "a") ∷ symbol Arrow ∷ word (codes "b") ∷ [])
unfolding begun extended
lambda = expression_refused _ refl
