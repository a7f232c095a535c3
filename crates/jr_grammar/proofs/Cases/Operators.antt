-- Assignments, binary operators and signs (JLS 15.14 to 15.26).
-- The tree of each case is the one that javac's parser makes of the text; where the two differ, the case says why.
use Rattle.std.proofs.Common.{[], ◌∷◌, refl, arith}
use Rattle.std.specs.Prelude.{codes}
use Rattle.jr_lex.specs.declared.items.Keyword.TheVariants.{Super}
use Rattle.jr_lex.specs.declared.items.Symbol.TheVariants.{AndAnd, Bang, BarBar, CloseParen, Dot, EqualEqual, Equals, Greater, GreaterEqual, Less, LessEqual, MinusEquals, MinusMinus, Minus as MinusSign, NotEqual, OpenParen, Percent, PercentEquals, PlusEquals, PlusPlus, Plus as PlusSign, Slash, SlashEquals, Star, StarEquals}
use Rattle.jr_ast.specs.declared.operators.UnOp.TheVariants.{Plus, Minus, Not}
use Rattle.jr_ast.specs.declared.operators.BinOp.TheVariants.{Or, And, Eq, Ne, Lt, Gt, Le, Ge, Add, Sub, Mul, Div, Rem}
use Rattle.jr_ast.specs.declared.operators.BumpOp.TheVariants.{PreInc, PreDec, PostInc, PostDec}
use Rattle.jr_ast.specs.Tree.{number, field, super_field, call, paren, unary, bump, binary, assign, compound, no_target, on, end}
use Rattle.jr_grammar.specs.Tokens.{word, keyword, integer, symbol}
use Rattle.jr_grammar.proofs.Cases.Forms.{BareExpression, w, v}

-- a=b
assignment : BareExpression (word (codes "a") ∷ symbol Equals ∷ word (codes "b") ∷ [])
    (assign tt (v (codes "a")) (v (codes "b")))
assignment = record { shaped = grind arith; spells = refl }

-- a=b=c
assignment_groups_right : BareExpression (word (codes "a") ∷ symbol Equals ∷ word (codes "b") ∷ symbol Equals ∷ word (codes "c") ∷ [])
    (assign tt (v (codes "a")) (assign tt (v (codes "b")) (v (codes "c"))))
assignment_groups_right = record { shaped = grind arith; spells = refl }

-- a.b=c
assignment_to_field : BareExpression (word (codes "a") ∷ symbol Dot ∷ word (codes "b") ∷ symbol Equals ∷ word (codes "c") ∷ [])
    (assign tt (field tt (v (codes "a")) (w (codes "b"))) (v (codes "c")))
assignment_to_field = record { shaped = grind arith; spells = refl }

-- super.a=b
assignment_to_super_field : BareExpression (keyword Super ∷ symbol Dot ∷ word (codes "a") ∷ symbol Equals ∷ word (codes "b") ∷ [])
    (assign tt (super_field tt (w (codes "a"))) (v (codes "b")))
assignment_to_super_field = record { shaped = grind arith; spells = refl }

-- f().a=b
assignment_to_field_of_call : BareExpression (word (codes "f") ∷ symbol OpenParen ∷ symbol CloseParen ∷ symbol Dot ∷ word (codes "a") ∷ symbol Equals ∷ word (codes "b") ∷ [])
    (assign tt (field tt (call tt no_target (w (codes "f")) end) (w (codes "a"))) (v (codes "b")))
assignment_to_field_of_call = record { shaped = grind arith; spells = refl }

-- a=(b=c)
assignment_in_parentheses : BareExpression (word (codes "a") ∷ symbol Equals ∷ symbol OpenParen ∷ word (codes "b") ∷ symbol Equals ∷ word (codes "c") ∷ symbol CloseParen ∷ [])
    (assign tt (v (codes "a")) (paren tt (assign tt (v (codes "b")) (v (codes "c")))))
assignment_in_parentheses = record { shaped = grind arith; spells = refl }

-- a+=b
compound_plus : BareExpression (word (codes "a") ∷ symbol PlusEquals ∷ word (codes "b") ∷ [])
    (compound tt Add (v (codes "a")) (v (codes "b")))
compound_plus = record { shaped = grind arith; spells = refl }

-- a-=b
compound_minus : BareExpression (word (codes "a") ∷ symbol MinusEquals ∷ word (codes "b") ∷ [])
    (compound tt Sub (v (codes "a")) (v (codes "b")))
compound_minus = record { shaped = grind arith; spells = refl }

-- a*=b
compound_times : BareExpression (word (codes "a") ∷ symbol StarEquals ∷ word (codes "b") ∷ [])
    (compound tt Mul (v (codes "a")) (v (codes "b")))
compound_times = record { shaped = grind arith; spells = refl }

-- a/=b
compound_over : BareExpression (word (codes "a") ∷ symbol SlashEquals ∷ word (codes "b") ∷ [])
    (compound tt Div (v (codes "a")) (v (codes "b")))
compound_over = record { shaped = grind arith; spells = refl }

-- a%=b
compound_rest : BareExpression (word (codes "a") ∷ symbol PercentEquals ∷ word (codes "b") ∷ [])
    (compound tt Rem (v (codes "a")) (v (codes "b")))
compound_rest = record { shaped = grind arith; spells = refl }

-- a+=b-=c
compound_groups_right : BareExpression (word (codes "a") ∷ symbol PlusEquals ∷ word (codes "b") ∷ symbol MinusEquals ∷ word (codes "c") ∷ [])
    (compound tt Add (v (codes "a")) (compound tt Sub (v (codes "b")) (v (codes "c"))))
compound_groups_right = record { shaped = grind arith; spells = refl }

-- a||b||c
or_groups_left : BareExpression (word (codes "a") ∷ symbol BarBar ∷ word (codes "b") ∷ symbol BarBar ∷ word (codes "c") ∷ [])
    (binary tt Or (binary tt Or (v (codes "a")) (v (codes "b"))) (v (codes "c")))
or_groups_left = record { shaped = grind arith; spells = refl }

-- a&&b&&c
and_groups_left : BareExpression (word (codes "a") ∷ symbol AndAnd ∷ word (codes "b") ∷ symbol AndAnd ∷ word (codes "c") ∷ [])
    (binary tt And (binary tt And (v (codes "a")) (v (codes "b"))) (v (codes "c")))
and_groups_left = record { shaped = grind arith; spells = refl }

-- a||b&&c||d
and_before_or : BareExpression (word (codes "a") ∷ symbol BarBar ∷ word (codes "b") ∷ symbol AndAnd ∷ word (codes "c") ∷ symbol BarBar ∷ word (codes "d") ∷ [])
    (binary tt Or (binary tt Or (v (codes "a")) (binary tt And (v (codes "b")) (v (codes "c")))) (v (codes "d")))
and_before_or = record { shaped = grind arith; spells = refl }

-- a==b!=c==d
equality_groups_left : BareExpression (word (codes "a") ∷ symbol EqualEqual ∷ word (codes "b") ∷ symbol NotEqual ∷ word (codes "c") ∷ symbol EqualEqual ∷ word (codes "d") ∷ [])
    (binary tt Eq (binary tt Ne (binary tt Eq (v (codes "a")) (v (codes "b"))) (v (codes "c"))) (v (codes "d")))
equality_groups_left = record { shaped = grind arith; spells = refl }

-- a<b
relations : BareExpression (word (codes "a") ∷ symbol Less ∷ word (codes "b") ∷ [])
    (binary tt Lt (v (codes "a")) (v (codes "b")))
relations = record { shaped = grind arith; spells = refl }

-- a>b
relations_greater : BareExpression (word (codes "a") ∷ symbol Greater ∷ word (codes "b") ∷ [])
    (binary tt Gt (v (codes "a")) (v (codes "b")))
relations_greater = record { shaped = grind arith; spells = refl }

-- a<=b
relations_at_most : BareExpression (word (codes "a") ∷ symbol LessEqual ∷ word (codes "b") ∷ [])
    (binary tt Le (v (codes "a")) (v (codes "b")))
relations_at_most = record { shaped = grind arith; spells = refl }

-- a>=b
relations_at_least : BareExpression (word (codes "a") ∷ symbol GreaterEqual ∷ word (codes "b") ∷ [])
    (binary tt Ge (v (codes "a")) (v (codes "b")))
relations_at_least = record { shaped = grind arith; spells = refl }

-- a<b>c<=d>=e<f
relations_group_left : BareExpression (word (codes "a") ∷ symbol Less ∷ word (codes "b") ∷ symbol Greater ∷ word (codes "c") ∷ symbol LessEqual ∷ word (codes "d") ∷ symbol GreaterEqual ∷ word (codes "e") ∷ symbol Less ∷ word (codes "f") ∷ [])
    (binary tt Lt (binary tt Ge (binary tt Le (binary tt Gt (binary tt Lt (v (codes "a")) (v (codes "b"))) (v (codes "c"))) (v (codes "d"))) (v (codes "e"))) (v (codes "f")))
relations_group_left = record { shaped = grind arith; spells = refl }

-- a<b==c>d
relation_before_equality : BareExpression (word (codes "a") ∷ symbol Less ∷ word (codes "b") ∷ symbol EqualEqual ∷ word (codes "c") ∷ symbol Greater ∷ word (codes "d") ∷ [])
    (binary tt Eq (binary tt Lt (v (codes "a")) (v (codes "b"))) (binary tt Gt (v (codes "c")) (v (codes "d"))))
relation_before_equality = record { shaped = grind arith; spells = refl }

-- a-b-c+d
sums_group_left : BareExpression (word (codes "a") ∷ symbol MinusSign ∷ word (codes "b") ∷ symbol MinusSign ∷ word (codes "c") ∷ symbol PlusSign ∷ word (codes "d") ∷ [])
    (binary tt Add (binary tt Sub (binary tt Sub (v (codes "a")) (v (codes "b"))) (v (codes "c"))) (v (codes "d")))
sums_group_left = record { shaped = grind arith; spells = refl }

-- a/b*c%d/e
products_group_left : BareExpression (word (codes "a") ∷ symbol Slash ∷ word (codes "b") ∷ symbol Star ∷ word (codes "c") ∷ symbol Percent ∷ word (codes "d") ∷ symbol Slash ∷ word (codes "e") ∷ [])
    (binary tt Div (binary tt Rem (binary tt Mul (binary tt Div (v (codes "a")) (v (codes "b"))) (v (codes "c"))) (v (codes "d"))) (v (codes "e")))
products_group_left = record { shaped = grind arith; spells = refl }

-- a+b*c-d
product_before_sum : BareExpression (word (codes "a") ∷ symbol PlusSign ∷ word (codes "b") ∷ symbol Star ∷ word (codes "c") ∷ symbol MinusSign ∷ word (codes "d") ∷ [])
    (binary tt Sub (binary tt Add (v (codes "a")) (binary tt Mul (v (codes "b")) (v (codes "c")))) (v (codes "d")))
product_before_sum = record { shaped = grind arith; spells = refl }

-- a||b&&c==d<e+f*g
all_ranks_up : BareExpression (word (codes "a") ∷ symbol BarBar ∷ word (codes "b") ∷ symbol AndAnd ∷ word (codes "c") ∷ symbol EqualEqual ∷ word (codes "d") ∷ symbol Less ∷ word (codes "e") ∷ symbol PlusSign ∷ word (codes "f") ∷ symbol Star ∷ word (codes "g") ∷ [])
    (binary tt Or (v (codes "a")) (binary tt And (v (codes "b")) (binary tt Eq (v (codes "c")) (binary tt Lt (v (codes "d")) (binary tt Add (v (codes "e")) (binary tt Mul (v (codes "f")) (v (codes "g"))))))))
all_ranks_up = record { shaped = grind arith; spells = refl }

-- a*b+c<d==e&&f||g
all_ranks_down : BareExpression (word (codes "a") ∷ symbol Star ∷ word (codes "b") ∷ symbol PlusSign ∷ word (codes "c") ∷ symbol Less ∷ word (codes "d") ∷ symbol EqualEqual ∷ word (codes "e") ∷ symbol AndAnd ∷ word (codes "f") ∷ symbol BarBar ∷ word (codes "g") ∷ [])
    (binary tt Or (binary tt And (binary tt Eq (binary tt Lt (binary tt Add (binary tt Mul (v (codes "a")) (v (codes "b"))) (v (codes "c"))) (v (codes "d"))) (v (codes "e"))) (v (codes "f"))) (v (codes "g")))
all_ranks_down = record { shaped = grind arith; spells = refl }

-- a=b+c
assignment_of_sum : BareExpression (word (codes "a") ∷ symbol Equals ∷ word (codes "b") ∷ symbol PlusSign ∷ word (codes "c") ∷ [])
    (assign tt (v (codes "a")) (binary tt Add (v (codes "b")) (v (codes "c"))))
assignment_of_sum = record { shaped = grind arith; spells = refl }

-- -a
sign : BareExpression (symbol MinusSign ∷ word (codes "a") ∷ [])
    (unary tt Minus (v (codes "a")))
sign = record { shaped = grind arith; spells = refl }

-- +a
plus_sign : BareExpression (symbol PlusSign ∷ word (codes "a") ∷ [])
    (unary tt Plus (v (codes "a")))
plus_sign = record { shaped = grind arith; spells = refl }

-- - -1
sign_of_sign : BareExpression (symbol MinusSign ∷ symbol MinusSign ∷ integer 1 ∷ [])
    (unary tt Minus (unary tt Minus (number tt 1)))
sign_of_sign = record { shaped = grind arith; spells = refl }

-- + +a
plus_of_plus : BareExpression (symbol PlusSign ∷ symbol PlusSign ∷ word (codes "a") ∷ [])
    (unary tt Plus (unary tt Plus (v (codes "a"))))
plus_of_plus = record { shaped = grind arith; spells = refl }

-- +-+a
mixed_signs : BareExpression (symbol PlusSign ∷ symbol MinusSign ∷ symbol PlusSign ∷ word (codes "a") ∷ [])
    (unary tt Plus (unary tt Minus (unary tt Plus (v (codes "a")))))
mixed_signs = record { shaped = grind arith; spells = refl }

-- -(-a)+1
sign_in_sum : BareExpression (symbol MinusSign ∷ symbol OpenParen ∷ symbol MinusSign ∷ word (codes "a") ∷ symbol CloseParen ∷ symbol PlusSign ∷ integer 1 ∷ [])
    (binary tt Add (unary tt Minus (paren tt (unary tt Minus (v (codes "a"))))) (number tt 1))
sign_in_sum = record { shaped = grind arith; spells = refl }

-- -a*b
sign_before_product : BareExpression (symbol MinusSign ∷ word (codes "a") ∷ symbol Star ∷ word (codes "b") ∷ [])
    (binary tt Mul (unary tt Minus (v (codes "a"))) (v (codes "b")))
sign_before_product = record { shaped = grind arith; spells = refl }

-- a*-b
sign_behind_operator : BareExpression (word (codes "a") ∷ symbol Star ∷ symbol MinusSign ∷ word (codes "b") ∷ [])
    (binary tt Mul (v (codes "a")) (unary tt Minus (v (codes "b"))))
sign_behind_operator = record { shaped = grind arith; spells = refl }

-- a- -b
sum_of_sign : BareExpression (word (codes "a") ∷ symbol MinusSign ∷ symbol MinusSign ∷ word (codes "b") ∷ [])
    (binary tt Sub (v (codes "a")) (unary tt Minus (v (codes "b"))))
sum_of_sign = record { shaped = grind arith; spells = refl }

-- !a
not : BareExpression (symbol Bang ∷ word (codes "a") ∷ [])
    (unary tt Not (v (codes "a")))
not = record { shaped = grind arith; spells = refl }

-- !!a
not_not : BareExpression (symbol Bang ∷ symbol Bang ∷ word (codes "a") ∷ [])
    (unary tt Not (unary tt Not (v (codes "a"))))
not_not = record { shaped = grind arith; spells = refl }

-- !-a
not_of_sign : BareExpression (symbol Bang ∷ symbol MinusSign ∷ word (codes "a") ∷ [])
    (unary tt Not (unary tt Minus (v (codes "a"))))
not_of_sign = record { shaped = grind arith; spells = refl }

-- -!a
sign_of_not : BareExpression (symbol MinusSign ∷ symbol Bang ∷ word (codes "a") ∷ [])
    (unary tt Minus (unary tt Not (v (codes "a"))))
sign_of_not = record { shaped = grind arith; spells = refl }

-- !a==b
not_before_equality : BareExpression (symbol Bang ∷ word (codes "a") ∷ symbol EqualEqual ∷ word (codes "b") ∷ [])
    (binary tt Eq (unary tt Not (v (codes "a"))) (v (codes "b")))
not_before_equality = record { shaped = grind arith; spells = refl }

-- -a.b
sign_of_field : BareExpression (symbol MinusSign ∷ word (codes "a") ∷ symbol Dot ∷ word (codes "b") ∷ [])
    (unary tt Minus (field tt (v (codes "a")) (w (codes "b"))))
sign_of_field = record { shaped = grind arith; spells = refl }

-- ++a
increment : BareExpression (symbol PlusPlus ∷ word (codes "a") ∷ [])
    (bump tt PreInc (v (codes "a")))
increment = record { shaped = grind arith; spells = refl }

-- --a.b
decrement_of_field : BareExpression (symbol MinusMinus ∷ word (codes "a") ∷ symbol Dot ∷ word (codes "b") ∷ [])
    (bump tt PreDec (field tt (v (codes "a")) (w (codes "b"))))
decrement_of_field = record { shaped = grind arith; spells = refl }

-- ++super.a
increment_of_super_field : BareExpression (symbol PlusPlus ∷ keyword Super ∷ symbol Dot ∷ word (codes "a") ∷ [])
    (bump tt PreInc (super_field tt (w (codes "a"))))
increment_of_super_field = record { shaped = grind arith; spells = refl }

-- ++a.m().b
increment_of_field_of_call : BareExpression (symbol PlusPlus ∷ word (codes "a") ∷ symbol Dot ∷ word (codes "m") ∷ symbol OpenParen ∷ symbol CloseParen ∷ symbol Dot ∷ word (codes "b") ∷ [])
    (bump tt PreInc (field tt (call tt (on (v (codes "a"))) (w (codes "m")) end) (w (codes "b"))))
increment_of_field_of_call = record { shaped = grind arith; spells = refl }

-- a++
increment_behind : BareExpression (word (codes "a") ∷ symbol PlusPlus ∷ [])
    (bump tt PostInc (v (codes "a")))
increment_behind = record { shaped = grind arith; spells = refl }

-- a.b--
decrement_behind_field : BareExpression (word (codes "a") ∷ symbol Dot ∷ word (codes "b") ∷ symbol MinusMinus ∷ [])
    (bump tt PostDec (field tt (v (codes "a")) (w (codes "b"))))
decrement_behind_field = record { shaped = grind arith; spells = refl }

-- super.a--
decrement_behind_super_field : BareExpression (keyword Super ∷ symbol Dot ∷ word (codes "a") ∷ symbol MinusMinus ∷ [])
    (bump tt PostDec (super_field tt (w (codes "a"))))
decrement_behind_super_field = record { shaped = grind arith; spells = refl }

-- (a).b++
increment_of_field_of_parentheses : BareExpression (symbol OpenParen ∷ word (codes "a") ∷ symbol CloseParen ∷ symbol Dot ∷ word (codes "b") ∷ symbol PlusPlus ∷ [])
    (bump tt PostInc (field tt (paren tt (v (codes "a"))) (w (codes "b"))))
increment_of_field_of_parentheses = record { shaped = grind arith; spells = refl }

-- -a++
sign_of_bump : BareExpression (symbol MinusSign ∷ word (codes "a") ∷ symbol PlusPlus ∷ [])
    (unary tt Minus (bump tt PostInc (v (codes "a"))))
sign_of_bump = record { shaped = grind arith; spells = refl }

-- - --a
sign_of_bump_before : BareExpression (symbol MinusSign ∷ symbol MinusMinus ∷ word (codes "a") ∷ [])
    (unary tt Minus (bump tt PreDec (v (codes "a"))))
sign_of_bump_before = record { shaped = grind arith; spells = refl }

-- !a++
not_of_bump : BareExpression (symbol Bang ∷ word (codes "a") ∷ symbol PlusPlus ∷ [])
    (unary tt Not (bump tt PostInc (v (codes "a"))))
not_of_bump = record { shaped = grind arith; spells = refl }

-- a+++b
bump_then_sum : BareExpression (word (codes "a") ∷ symbol PlusPlus ∷ symbol PlusSign ∷ word (codes "b") ∷ [])
    (binary tt Add (bump tt PostInc (v (codes "a"))) (v (codes "b")))
bump_then_sum = record { shaped = grind arith; spells = refl }

-- a++ + ++b
bump_then_sum_of_bump : BareExpression (word (codes "a") ∷ symbol PlusPlus ∷ symbol PlusSign ∷ symbol PlusPlus ∷ word (codes "b") ∷ [])
    (binary tt Add (bump tt PostInc (v (codes "a"))) (bump tt PreInc (v (codes "b"))))
bump_then_sum_of_bump = record { shaped = grind arith; spells = refl }
