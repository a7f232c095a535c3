-- Primaries, casts and literals (JLS 3.10, 15.8 to 15.16).
-- The tree of each case is the one that javac's parser makes of the text; where the two differ, the case says why.
use Rattle.std.proofs.Common.{[], ◌∷◌, refl, arith, true, false}
use Rattle.std.specs.Prelude.{codes}
use Rattle.jr_lex.specs.declared.items.Keyword.TheVariants.{Class, False, New, Null, Super, This, True}
use Rattle.jr_lex.specs.declared.items.Symbol.TheVariants.{Bang, CloseParen, Comma, Dot, Equals, Minus as MinusSign, OpenParen, PlusPlus, Plus as PlusSign, Star}
use Rattle.jr_ast.specs.declared.operators.UnOp.TheVariants.{Minus, Not}
use Rattle.jr_ast.specs.declared.operators.BinOp.TheVariants.{Add, Sub, Mul}
use Rattle.jr_ast.specs.declared.operators.BumpOp.TheVariants.{PostInc}
use Rattle.jr_ast.specs.Tree.{number, truth, null, string, field, super_field, this, class_literal, call, super_call, create, paren, cast, unary, bump, binary, assign, no_target, on, end, more}
use Rattle.jr_grammar.specs.Tokens.{word, keyword, integer, text, symbol}
use Rattle.jr_grammar.proofs.Cases.Forms.{BareExpression, w, v, ty, tyin}

-- 1
one_number : BareExpression (integer 1 ∷ [])
    (number tt 1)
one_number = record { shaped = grind arith; spells = refl }

-- 0
number_zero : BareExpression (integer 0 ∷ [])
    (number tt 0)
number_zero = record { shaped = grind arith; spells = refl }

-- "s"
one_string : BareExpression (text (codes "s") ∷ [])
    (string tt (codes "s"))
one_string = record { shaped = grind arith; spells = refl }

-- true
true_literal : BareExpression (keyword True ∷ [])
    (truth tt true)
true_literal = record { shaped = grind arith; spells = refl }

-- false
false_literal : BareExpression (keyword False ∷ [])
    (truth tt false)
false_literal = record { shaped = grind arith; spells = refl }

-- null
null_literal : BareExpression (keyword Null ∷ [])
    (null tt)
null_literal = record { shaped = grind arith; spells = refl }

-- a
name : BareExpression (word (codes "a") ∷ [])
    (v (codes "a"))
name = record { shaped = grind arith; spells = refl }

-- this
this_word : BareExpression (keyword This ∷ [])
    (this tt)
this_word = record { shaped = grind arith; spells = refl }

-- super.a
field_of_super : BareExpression (keyword Super ∷ symbol Dot ∷ word (codes "a") ∷ [])
    (super_field tt (w (codes "a")))
field_of_super = record { shaped = grind arith; spells = refl }

-- super.m()
call_on_super : BareExpression (keyword Super ∷ symbol Dot ∷ word (codes "m") ∷ symbol OpenParen ∷ symbol CloseParen ∷ [])
    (super_call tt (w (codes "m")) end)
call_on_super = record { shaped = grind arith; spells = refl }

-- super.m(a,b)
super_call_with_arguments : BareExpression (keyword Super ∷ symbol Dot ∷ word (codes "m") ∷ symbol OpenParen ∷ word (codes "a") ∷ symbol Comma ∷ word (codes "b") ∷ symbol CloseParen ∷ [])
    (super_call tt (w (codes "m")) (more (v (codes "a")) (more (v (codes "b")) end)))
super_call_with_arguments = record { shaped = grind arith; spells = refl }

-- super.a.b
field_of_super_field : BareExpression (keyword Super ∷ symbol Dot ∷ word (codes "a") ∷ symbol Dot ∷ word (codes "b") ∷ [])
    (field tt (super_field tt (w (codes "a"))) (w (codes "b")))
field_of_super_field = record { shaped = grind arith; spells = refl }

-- A.class
literal_of_class : BareExpression (word (codes "A") ∷ symbol Dot ∷ keyword Class ∷ [])
    (class_literal tt (ty (codes "A")))
literal_of_class = record { shaped = grind arith; spells = refl }

-- a.b.class
class_literal_of_member : BareExpression (word (codes "a") ∷ symbol Dot ∷ word (codes "b") ∷ symbol Dot ∷ keyword Class ∷ [])
    (class_literal tt (tyin (codes "a") (codes "b")))
class_literal_of_member = record { shaped = grind arith; spells = refl }

-- A.class.m()
call_on_class_literal : BareExpression (word (codes "A") ∷ symbol Dot ∷ keyword Class ∷ symbol Dot ∷ word (codes "m") ∷ symbol OpenParen ∷ symbol CloseParen ∷ [])
    (call tt (on (class_literal tt (ty (codes "A")))) (w (codes "m")) end)
call_on_class_literal = record { shaped = grind arith; spells = refl }

-- new A()
created : BareExpression (keyword New ∷ word (codes "A") ∷ symbol OpenParen ∷ symbol CloseParen ∷ [])
    (create tt (ty (codes "A")) end)
created = record { shaped = grind arith; spells = refl }

-- new A.B(1,2).f
create_member_field : BareExpression (keyword New ∷ word (codes "A") ∷ symbol Dot ∷ word (codes "B") ∷ symbol OpenParen ∷ integer 1 ∷ symbol Comma ∷ integer 2 ∷ symbol CloseParen ∷ symbol Dot ∷ word (codes "f") ∷ [])
    (field tt (create tt (tyin (codes "A") (codes "B")) (more (number tt 1) (more (number tt 2) end))) (w (codes "f")))
create_member_field = record { shaped = grind arith; spells = refl }

-- new A().m()
call_on_created : BareExpression (keyword New ∷ word (codes "A") ∷ symbol OpenParen ∷ symbol CloseParen ∷ symbol Dot ∷ word (codes "m") ∷ symbol OpenParen ∷ symbol CloseParen ∷ [])
    (call tt (on (create tt (ty (codes "A")) end)) (w (codes "m")) end)
call_on_created = record { shaped = grind arith; spells = refl }

-- m()
called : BareExpression (word (codes "m") ∷ symbol OpenParen ∷ symbol CloseParen ∷ [])
    (call tt no_target (w (codes "m")) end)
called = record { shaped = grind arith; spells = refl }

-- m(a,b+c,d=e)
call_with_arguments : BareExpression (word (codes "m") ∷ symbol OpenParen ∷ word (codes "a") ∷ symbol Comma ∷ word (codes "b") ∷ symbol PlusSign ∷ word (codes "c") ∷ symbol Comma ∷ word (codes "d") ∷ symbol Equals ∷ word (codes "e") ∷ symbol CloseParen ∷ [])
    (call tt no_target (w (codes "m")) (more (v (codes "a")) (more (binary tt Add (v (codes "b")) (v (codes "c"))) (more (assign tt (v (codes "d")) (v (codes "e"))) end))))
call_with_arguments = record { shaped = grind arith; spells = refl }

-- m(f(a),g())
call_of_call : BareExpression (word (codes "m") ∷ symbol OpenParen ∷ word (codes "f") ∷ symbol OpenParen ∷ word (codes "a") ∷ symbol CloseParen ∷ symbol Comma ∷ word (codes "g") ∷ symbol OpenParen ∷ symbol CloseParen ∷ symbol CloseParen ∷ [])
    (call tt no_target (w (codes "m")) (more (call tt no_target (w (codes "f")) (more (v (codes "a")) end)) (more (call tt no_target (w (codes "g")) end) end)))
call_of_call = record { shaped = grind arith; spells = refl }

-- a.b
one_field : BareExpression (word (codes "a") ∷ symbol Dot ∷ word (codes "b") ∷ [])
    (field tt (v (codes "a")) (w (codes "b")))
one_field = record { shaped = grind arith; spells = refl }

-- O.K.x
fields : BareExpression (word (codes "O") ∷ symbol Dot ∷ word (codes "K") ∷ symbol Dot ∷ word (codes "x") ∷ [])
    (field tt (field tt (v (codes "O")) (w (codes "K"))) (w (codes "x")))
fields = record { shaped = grind arith; spells = refl }

-- a.m()
call_on_name : BareExpression (word (codes "a") ∷ symbol Dot ∷ word (codes "m") ∷ symbol OpenParen ∷ symbol CloseParen ∷ [])
    (call tt (on (v (codes "a"))) (w (codes "m")) end)
call_on_name = record { shaped = grind arith; spells = refl }

-- a.m(b).c
field_of_call : BareExpression (word (codes "a") ∷ symbol Dot ∷ word (codes "m") ∷ symbol OpenParen ∷ word (codes "b") ∷ symbol CloseParen ∷ symbol Dot ∷ word (codes "c") ∷ [])
    (field tt (call tt (on (v (codes "a"))) (w (codes "m")) (more (v (codes "b")) end)) (w (codes "c")))
field_of_call = record { shaped = grind arith; spells = refl }

-- this.a.m()
this_field_call : BareExpression (keyword This ∷ symbol Dot ∷ word (codes "a") ∷ symbol Dot ∷ word (codes "m") ∷ symbol OpenParen ∷ symbol CloseParen ∷ [])
    (call tt (on (field tt (this tt) (w (codes "a")))) (w (codes "m")) end)
this_field_call = record { shaped = grind arith; spells = refl }

-- 1 .x
field_of_number : BareExpression (integer 1 ∷ symbol Dot ∷ word (codes "x") ∷ [])
    (field tt (number tt 1) (w (codes "x")))
field_of_number = record { shaped = grind arith; spells = refl }

-- "s".m()
call_on_string : BareExpression (text (codes "s") ∷ symbol Dot ∷ word (codes "m") ∷ symbol OpenParen ∷ symbol CloseParen ∷ [])
    (call tt (on (string tt (codes "s"))) (w (codes "m")) end)
call_on_string = record { shaped = grind arith; spells = refl }

-- (a)
parentheses : BareExpression (symbol OpenParen ∷ word (codes "a") ∷ symbol CloseParen ∷ [])
    (paren tt (v (codes "a")))
parentheses = record { shaped = grind arith; spells = refl }

-- ((a))
parentheses_twice : BareExpression (symbol OpenParen ∷ symbol OpenParen ∷ word (codes "a") ∷ symbol CloseParen ∷ symbol CloseParen ∷ [])
    (paren tt (paren tt (v (codes "a"))))
parentheses_twice = record { shaped = grind arith; spells = refl }

-- (a).m()
call_on_parentheses : BareExpression (symbol OpenParen ∷ word (codes "a") ∷ symbol CloseParen ∷ symbol Dot ∷ word (codes "m") ∷ symbol OpenParen ∷ symbol CloseParen ∷ [])
    (call tt (on (paren tt (v (codes "a")))) (w (codes "m")) end)
call_on_parentheses = record { shaped = grind arith; spells = refl }

-- (a+b).c
field_of_parentheses : BareExpression (symbol OpenParen ∷ word (codes "a") ∷ symbol PlusSign ∷ word (codes "b") ∷ symbol CloseParen ∷ symbol Dot ∷ word (codes "c") ∷ [])
    (field tt (paren tt (binary tt Add (v (codes "a")) (v (codes "b")))) (w (codes "c")))
field_of_parentheses = record { shaped = grind arith; spells = refl }

-- (A)b
one_cast : BareExpression (symbol OpenParen ∷ word (codes "A") ∷ symbol CloseParen ∷ word (codes "b") ∷ [])
    (cast tt (ty (codes "A")) (v (codes "b")))
one_cast = record { shaped = grind arith; spells = refl }

-- (a.b)c
cast_to_member : BareExpression (symbol OpenParen ∷ word (codes "a") ∷ symbol Dot ∷ word (codes "b") ∷ symbol CloseParen ∷ word (codes "c") ∷ [])
    (cast tt (tyin (codes "a") (codes "b")) (v (codes "c")))
cast_to_member = record { shaped = grind arith; spells = refl }

-- (a)!b
cast_of_not : BareExpression (symbol OpenParen ∷ word (codes "a") ∷ symbol CloseParen ∷ symbol Bang ∷ word (codes "b") ∷ [])
    (cast tt (ty (codes "a")) (unary tt Not (v (codes "b"))))
cast_of_not = record { shaped = grind arith; spells = refl }

-- (A)(b)
cast_of_parentheses : BareExpression (symbol OpenParen ∷ word (codes "A") ∷ symbol CloseParen ∷ symbol OpenParen ∷ word (codes "b") ∷ symbol CloseParen ∷ [])
    (cast tt (ty (codes "A")) (paren tt (v (codes "b"))))
cast_of_parentheses = record { shaped = grind arith; spells = refl }

-- (A)this.f
cast_of_field : BareExpression (symbol OpenParen ∷ word (codes "A") ∷ symbol CloseParen ∷ keyword This ∷ symbol Dot ∷ word (codes "f") ∷ [])
    (cast tt (ty (codes "A")) (field tt (this tt) (w (codes "f"))))
cast_of_field = record { shaped = grind arith; spells = refl }

-- (A)"s"
cast_of_string : BareExpression (symbol OpenParen ∷ word (codes "A") ∷ symbol CloseParen ∷ text (codes "s") ∷ [])
    (cast tt (ty (codes "A")) (string tt (codes "s")))
cast_of_string = record { shaped = grind arith; spells = refl }

-- (A)1
cast_of_number : BareExpression (symbol OpenParen ∷ word (codes "A") ∷ symbol CloseParen ∷ integer 1 ∷ [])
    (cast tt (ty (codes "A")) (number tt 1))
cast_of_number = record { shaped = grind arith; spells = refl }

-- (A)new B()
cast_of_created : BareExpression (symbol OpenParen ∷ word (codes "A") ∷ symbol CloseParen ∷ keyword New ∷ word (codes "B") ∷ symbol OpenParen ∷ symbol CloseParen ∷ [])
    (cast tt (ty (codes "A")) (create tt (ty (codes "B")) end))
cast_of_created = record { shaped = grind arith; spells = refl }

-- (A)super.m()
cast_of_super_call : BareExpression (symbol OpenParen ∷ word (codes "A") ∷ symbol CloseParen ∷ keyword Super ∷ symbol Dot ∷ word (codes "m") ∷ symbol OpenParen ∷ symbol CloseParen ∷ [])
    (cast tt (ty (codes "A")) (super_call tt (w (codes "m")) end))
cast_of_super_call = record { shaped = grind arith; spells = refl }

-- (A)null
cast_of_null : BareExpression (symbol OpenParen ∷ word (codes "A") ∷ symbol CloseParen ∷ keyword Null ∷ [])
    (cast tt (ty (codes "A")) (null tt))
cast_of_null = record { shaped = grind arith; spells = refl }

-- (A)true
cast_of_true : BareExpression (symbol OpenParen ∷ word (codes "A") ∷ symbol CloseParen ∷ keyword True ∷ [])
    (cast tt (ty (codes "A")) (truth tt true))
cast_of_true = record { shaped = grind arith; spells = refl }

-- (A)(B)c
cast_of_cast : BareExpression (symbol OpenParen ∷ word (codes "A") ∷ symbol CloseParen ∷ symbol OpenParen ∷ word (codes "B") ∷ symbol CloseParen ∷ word (codes "c") ∷ [])
    (cast tt (ty (codes "A")) (cast tt (ty (codes "B")) (v (codes "c"))))
cast_of_cast = record { shaped = grind arith; spells = refl }

-- (A)b++
cast_of_bump : BareExpression (symbol OpenParen ∷ word (codes "A") ∷ symbol CloseParen ∷ word (codes "b") ∷ symbol PlusPlus ∷ [])
    (cast tt (ty (codes "A")) (bump tt PostInc (v (codes "b"))))
cast_of_bump = record { shaped = grind arith; spells = refl }

-- (A)b+c
cast_then_sum : BareExpression (symbol OpenParen ∷ word (codes "A") ∷ symbol CloseParen ∷ word (codes "b") ∷ symbol PlusSign ∷ word (codes "c") ∷ [])
    (binary tt Add (cast tt (ty (codes "A")) (v (codes "b"))) (v (codes "c")))
cast_then_sum = record { shaped = grind arith; spells = refl }

-- -(A)b
sign_of_cast : BareExpression (symbol MinusSign ∷ symbol OpenParen ∷ word (codes "A") ∷ symbol CloseParen ∷ word (codes "b") ∷ [])
    (unary tt Minus (cast tt (ty (codes "A")) (v (codes "b"))))
sign_of_cast = record { shaped = grind arith; spells = refl }

-- !(A)b
not_of_cast : BareExpression (symbol Bang ∷ symbol OpenParen ∷ word (codes "A") ∷ symbol CloseParen ∷ word (codes "b") ∷ [])
    (unary tt Not (cast tt (ty (codes "A")) (v (codes "b"))))
not_of_cast = record { shaped = grind arith; spells = refl }

-- ((A)b).m()
call_on_cast : BareExpression (symbol OpenParen ∷ symbol OpenParen ∷ word (codes "A") ∷ symbol CloseParen ∷ word (codes "b") ∷ symbol CloseParen ∷ symbol Dot ∷ word (codes "m") ∷ symbol OpenParen ∷ symbol CloseParen ∷ [])
    (call tt (on (paren tt (cast tt (ty (codes "A")) (v (codes "b"))))) (w (codes "m")) end)
call_on_cast = record { shaped = grind arith; spells = refl }

-- (a)-b
not_a_cast_before_a_sign : BareExpression (symbol OpenParen ∷ word (codes "a") ∷ symbol CloseParen ∷ symbol MinusSign ∷ word (codes "b") ∷ [])
    (binary tt Sub (paren tt (v (codes "a"))) (v (codes "b")))
not_a_cast_before_a_sign = record { shaped = grind arith; spells = refl }

-- (a)+b
not_a_cast_before_a_plus : BareExpression (symbol OpenParen ∷ word (codes "a") ∷ symbol CloseParen ∷ symbol PlusSign ∷ word (codes "b") ∷ [])
    (binary tt Add (paren tt (v (codes "a"))) (v (codes "b")))
not_a_cast_before_a_plus = record { shaped = grind arith; spells = refl }

-- (a.b)-c
not_a_cast_of_a_member_before_a_sign : BareExpression (symbol OpenParen ∷ word (codes "a") ∷ symbol Dot ∷ word (codes "b") ∷ symbol CloseParen ∷ symbol MinusSign ∷ word (codes "c") ∷ [])
    (binary tt Sub (paren tt (field tt (v (codes "a")) (w (codes "b")))) (v (codes "c")))
not_a_cast_of_a_member_before_a_sign = record { shaped = grind arith; spells = refl }

-- -2147483648
least_number : BareExpression (symbol MinusSign ∷ integer 2147483648 ∷ [])
    (unary tt Minus (number tt 2147483648))
least_number = record { shaped = grind arith; spells = refl }

-- - 2147483648
least_number_apart : BareExpression (symbol MinusSign ∷ integer 2147483648 ∷ [])
    (unary tt Minus (number tt 2147483648))
least_number_apart = record { shaped = grind arith; spells = refl }

-- a- -2147483648*b
least_number_in_sum : BareExpression (word (codes "a") ∷ symbol MinusSign ∷ symbol MinusSign ∷ integer 2147483648 ∷ symbol Star ∷ word (codes "b") ∷ [])
    (binary tt Sub (v (codes "a")) (binary tt Mul (unary tt Minus (number tt 2147483648)) (v (codes "b"))))
least_number_in_sum = record { shaped = grind arith; spells = refl }

-- 2147483647
greatest_number : BareExpression (integer 2147483647 ∷ [])
    (number tt 2147483647)
greatest_number = record { shaped = grind arith; spells = refl }

-- -2147483648 .x
-- javac takes the sign of a literal that it touches into the literal: (-2147483648).x. Here a sign takes a whole unary expression, `unary = - unary`, and the literal stands directly behind the sign.
field_of_greatest_number_behind_sign : BareExpression (symbol MinusSign ∷ integer 2147483648 ∷ symbol Dot ∷ word (codes "x") ∷ [])
    (unary tt Minus (field tt (number tt 2147483648) (w (codes "x"))))
field_of_greatest_number_behind_sign = record { shaped = grind arith; spells = refl }

-- -1 .x
-- javac reads (-1).x: it takes a sign that touches a literal into the literal. Here `unary = - unary`.
field_of_number_behind_sign : BareExpression (symbol MinusSign ∷ integer 1 ∷ symbol Dot ∷ word (codes "x") ∷ [])
    (unary tt Minus (field tt (number tt 1) (w (codes "x"))))
field_of_number_behind_sign = record { shaped = grind arith; spells = refl }
