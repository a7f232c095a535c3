-- Trees that break one side condition of expressions each (JLS 15). What their texts are read as instead, if anything, other cases say.
use Rattle.std.proofs.Common.{◌≡◌, List, [], ◌∷◌, refl, arith}
use Rattle.std.specs.Prelude.{codes}
use Rattle.jr_lex.specs.declared.items.Keyword.TheVariants.{Class, Int, New}
use Rattle.jr_lex.specs.declared.items.Symbol.TheVariants.{CloseParen, Dot, Equals, Less, Minus as MinusSign, OpenParen, Percent, PlusPlus, Plus as PlusSign, Star}
use Rattle.jr_ast.specs.declared.operators.UnOp.TheVariants.{Minus}
use Rattle.jr_ast.specs.declared.operators.BinOp.TheVariants.{Lt, Add, Sub, Mul, Rem}
use Rattle.jr_ast.specs.declared.operators.BumpOp.TheVariants.{PreInc, PostInc}
use Rattle.jr_ast.specs.Tree.{Exp, int, number, field, class_literal, call, create, paren, cast, unary, bump, binary, assign, compound, no_target, on, end, more}
use Rattle.jr_grammar.specs.Tokens.{Token, word, keyword, integer, symbol}
use Rattle.jr_grammar.specs.Spelling.{toks}
use Rattle.jr_grammar.specs.Shape.{Shaped}
use Rattle.jr_grammar.specs.Bare.{Bare}
use Rattle.jr_grammar.proofs.Cases.Forms.{w, v, ty}

-- The tree spells the tokens, and is no expression. Of other trees that spell them this says nothing.
record IsExpressionRefused (tokens : List Token) (tree : Exp Bare) : Type 0 where
  pub spells : toks tree ≡ tokens
  pub not_shaped : Shaped tree → ⊥

-- ---- primaries (JLS 15.8, 15.11, 15.12)

-- a+b.c
field_of_a_sum : IsExpressionRefused (word (codes "a") ∷ symbol PlusSign ∷ word (codes "b") ∷ symbol Dot ∷ word (codes "c") ∷ [])
    (field tt (binary tt Add (v (codes "a")) (v (codes "b"))) (w (codes "c")))
field_of_a_sum = record { spells = refl; not_shaped = λ h. grind arith }

-- a+b.m()
call_on_a_sum : IsExpressionRefused (word (codes "a") ∷ symbol PlusSign ∷ word (codes "b") ∷ symbol Dot ∷ word (codes "m") ∷ symbol OpenParen ∷ symbol CloseParen ∷ [])
    (call tt (on (binary tt Add (v (codes "a")) (v (codes "b")))) (w (codes "m")) end)
call_on_a_sum = record { spells = refl; not_shaped = λ h. grind arith }

-- ---- signs, casts and operators (JLS 15.15 to 15.24)

-- -a+b
sign_of_a_sum : IsExpressionRefused (symbol MinusSign ∷ word (codes "a") ∷ symbol PlusSign ∷ word (codes "b") ∷ [])
    (unary tt Minus (binary tt Add (v (codes "a")) (v (codes "b"))))
sign_of_a_sum = record { spells = refl; not_shaped = λ h. grind arith }

-- (A)-b
cast_of_a_sign : IsExpressionRefused (symbol OpenParen ∷ word (codes "A") ∷ symbol CloseParen ∷ symbol MinusSign ∷ word (codes "b") ∷ [])
    (cast tt (ty (codes "A")) (unary tt Minus (v (codes "b"))))
cast_of_a_sign = record { spells = refl; not_shaped = λ h. grind arith }

-- (A)++b
cast_of_a_bump : IsExpressionRefused (symbol OpenParen ∷ word (codes "A") ∷ symbol CloseParen ∷ symbol PlusPlus ∷ word (codes "b") ∷ [])
    (cast tt (ty (codes "A")) (bump tt PreInc (v (codes "b"))))
cast_of_a_bump = record { spells = refl; not_shaped = λ h. grind arith }

-- (int)b
cast_to_int : IsExpressionRefused (symbol OpenParen ∷ keyword Int ∷ symbol CloseParen ∷ word (codes "b") ∷ [])
    (cast tt (int tt) (v (codes "b")))
cast_to_int = record { spells = refl; not_shaped = λ h. grind arith }

-- a-b-c
difference_of_a_difference : IsExpressionRefused (word (codes "a") ∷ symbol MinusSign ∷ word (codes "b") ∷ symbol MinusSign ∷ word (codes "c") ∷ [])
    (binary tt Sub (v (codes "a")) (binary tt Sub (v (codes "b")) (v (codes "c"))))
difference_of_a_difference = record { spells = refl; not_shaped = λ h. grind arith }

-- a+b*c
product_of_a_sum : IsExpressionRefused (word (codes "a") ∷ symbol PlusSign ∷ word (codes "b") ∷ symbol Star ∷ word (codes "c") ∷ [])
    (binary tt Mul (binary tt Add (v (codes "a")) (v (codes "b"))) (v (codes "c")))
product_of_a_sum = record { spells = refl; not_shaped = λ h. grind arith }

-- a%b+c
remainder_by_a_sum : IsExpressionRefused (word (codes "a") ∷ symbol Percent ∷ word (codes "b") ∷ symbol PlusSign ∷ word (codes "c") ∷ [])
    (binary tt Rem (v (codes "a")) (binary tt Add (v (codes "b")) (v (codes "c"))))
remainder_by_a_sum = record { spells = refl; not_shaped = λ h. grind arith }

-- a+b=c
sum_with_an_assignment : IsExpressionRefused (word (codes "a") ∷ symbol PlusSign ∷ word (codes "b") ∷ symbol Equals ∷ word (codes "c") ∷ [])
    (binary tt Add (v (codes "a")) (assign tt (v (codes "b")) (v (codes "c"))))
sum_with_an_assignment = record { spells = refl; not_shaped = λ h. grind arith }

-- ---- targets (JLS 15.14, 15.15, 15.26)

-- a+b=c
assigned_sum : IsExpressionRefused (word (codes "a") ∷ symbol PlusSign ∷ word (codes "b") ∷ symbol Equals ∷ word (codes "c") ∷ [])
    (assign tt (binary tt Add (v (codes "a")) (v (codes "b"))) (v (codes "c")))
assigned_sum = record { spells = refl; not_shaped = λ h. grind arith }

-- (a)=b
assigned_parentheses : IsExpressionRefused (symbol OpenParen ∷ word (codes "a") ∷ symbol CloseParen ∷ symbol Equals ∷ word (codes "b") ∷ [])
    (assign tt (paren tt (v (codes "a"))) (v (codes "b")))
assigned_parentheses = record { spells = refl; not_shaped = λ h. grind arith }

-- m()++
call_counted_up : IsExpressionRefused (word (codes "m") ∷ symbol OpenParen ∷ symbol CloseParen ∷ symbol PlusPlus ∷ [])
    (bump tt PostInc (call tt no_target (w (codes "m")) end))
call_counted_up = record { spells = refl; not_shaped = λ h. grind arith }

-- a<b
-- as `<` with an assignment
compound_relation : IsExpressionRefused (word (codes "a") ∷ symbol Less ∷ word (codes "b") ∷ [])
    (compound tt Lt (v (codes "a")) (v (codes "b")))
compound_relation = record { spells = refl; not_shaped = λ h. grind arith }

-- ---- class names (JLS 15.8.2, 15.9)

-- int.class
literal_of_int : IsExpressionRefused (keyword Int ∷ symbol Dot ∷ keyword Class ∷ [])
    (class_literal tt (int tt))
literal_of_int = record { spells = refl; not_shaped = λ h. grind arith }

-- new int()
created_int : IsExpressionRefused (keyword New ∷ keyword Int ∷ symbol OpenParen ∷ symbol CloseParen ∷ [])
    (create tt (int tt) end)
created_int = record { spells = refl; not_shaped = λ h. grind arith }

-- ---- numbers (JLS 3.10.1)

-- 2147483648
greatest_alone : IsExpressionRefused (integer 2147483648 ∷ [])
    (number tt 2147483648)
greatest_alone = record { spells = refl; not_shaped = λ h. grind arith }

-- a-2147483648
greatest_subtracted : IsExpressionRefused (word (codes "a") ∷ symbol MinusSign ∷ integer 2147483648 ∷ [])
    (binary tt Sub (v (codes "a")) (number tt 2147483648))
greatest_subtracted = record { spells = refl; not_shaped = λ h. grind arith }

-- -(2147483648)
greatest_in_parentheses : IsExpressionRefused (symbol MinusSign ∷ symbol OpenParen ∷ integer 2147483648 ∷ symbol CloseParen ∷ [])
    (unary tt Minus (paren tt (number tt 2147483648)))
greatest_in_parentheses = record { spells = refl; not_shaped = λ h. grind arith }

-- -m(2147483648)
greatest_as_an_argument : IsExpressionRefused (symbol MinusSign ∷ word (codes "m") ∷ symbol OpenParen ∷ integer 2147483648 ∷ symbol CloseParen ∷ [])
    (unary tt Minus (call tt no_target (w (codes "m")) (more (number tt 2147483648) end)))
greatest_as_an_argument = record { spells = refl; not_shaped = λ h. grind arith }

-- -2147483649
beyond_the_greatest : IsExpressionRefused (symbol MinusSign ∷ integer 2147483649 ∷ [])
    (unary tt Minus (number tt 2147483649))
beyond_the_greatest = record { spells = refl; not_shaped = λ h. grind arith }
