-- What may be a statement (JLS 14.8).
-- The tree of each case is the one that javac's parser makes of the text; where the two differ, the case says why.
use Rattle.std.proofs.Common.{[], ◌∷◌, refl, arith}
use Rattle.std.specs.Prelude.{codes}
use Rattle.jr_lex.specs.declared.items.Keyword.TheVariants.{Class, New, Super}
use Rattle.jr_lex.specs.declared.items.Symbol.TheVariants.{CloseParen, Dot, Equals, MinusMinus, OpenParen, PlusEquals, PlusPlus, Plus as PlusSign}
use Rattle.jr_ast.specs.declared.operators.BinOp.TheVariants.{Add}
use Rattle.jr_ast.specs.declared.operators.BumpOp.TheVariants.{PreDec, PostInc}
use Rattle.jr_ast.specs.Tree.{string, field, class_literal, call, super_call, create, paren, cast, bump, binary, assign, compound, no_target, on, end, more}
use Rattle.jr_grammar.specs.Tokens.{word, keyword, text, symbol}
use Rattle.jr_grammar.proofs.Cases.Forms.{BareStatementExpression, w, v, ty}

-- a=b+c
assigned : BareStatementExpression (word (codes "a") ∷ symbol Equals ∷ word (codes "b") ∷ symbol PlusSign ∷ word (codes "c") ∷ [])
    (assign tt (v (codes "a")) (binary tt Add (v (codes "b")) (v (codes "c"))))
assigned = record { shaped = grind arith; spells = refl }

-- (a).b=c
assigned_field : BareStatementExpression (symbol OpenParen ∷ word (codes "a") ∷ symbol CloseParen ∷ symbol Dot ∷ word (codes "b") ∷ symbol Equals ∷ word (codes "c") ∷ [])
    (assign tt (field tt (paren tt (v (codes "a"))) (w (codes "b"))) (v (codes "c")))
assigned_field = record { shaped = grind arith; spells = refl }

-- a+=b
compounded : BareStatementExpression (word (codes "a") ∷ symbol PlusEquals ∷ word (codes "b") ∷ [])
    (compound tt Add (v (codes "a")) (v (codes "b")))
compounded = record { shaped = grind arith; spells = refl }

-- a++
bumped : BareStatementExpression (word (codes "a") ∷ symbol PlusPlus ∷ [])
    (bump tt PostInc (v (codes "a")))
bumped = record { shaped = grind arith; spells = refl }

-- --a.b
bumped_before : BareStatementExpression (symbol MinusMinus ∷ word (codes "a") ∷ symbol Dot ∷ word (codes "b") ∷ [])
    (bump tt PreDec (field tt (v (codes "a")) (w (codes "b"))))
bumped_before = record { shaped = grind arith; spells = refl }

-- m()
called : BareStatementExpression (word (codes "m") ∷ symbol OpenParen ∷ symbol CloseParen ∷ [])
    (call tt no_target (w (codes "m")) end)
called = record { shaped = grind arith; spells = refl }

-- a.m(b)
called_on_name : BareStatementExpression (word (codes "a") ∷ symbol Dot ∷ word (codes "m") ∷ symbol OpenParen ∷ word (codes "b") ∷ symbol CloseParen ∷ [])
    (call tt (on (v (codes "a"))) (w (codes "m")) (more (v (codes "b")) end))
called_on_name = record { shaped = grind arith; spells = refl }

-- super.m()
called_on_super : BareStatementExpression (keyword Super ∷ symbol Dot ∷ word (codes "m") ∷ symbol OpenParen ∷ symbol CloseParen ∷ [])
    (super_call tt (w (codes "m")) end)
called_on_super = record { shaped = grind arith; spells = refl }

-- (a+b).m()
called_on_parentheses : BareStatementExpression (symbol OpenParen ∷ word (codes "a") ∷ symbol PlusSign ∷ word (codes "b") ∷ symbol CloseParen ∷ symbol Dot ∷ word (codes "m") ∷ symbol OpenParen ∷ symbol CloseParen ∷ [])
    (call tt (on (paren tt (binary tt Add (v (codes "a")) (v (codes "b"))))) (w (codes "m")) end)
called_on_parentheses = record { shaped = grind arith; spells = refl }

-- ((A)b).m()
called_on_cast : BareStatementExpression (symbol OpenParen ∷ symbol OpenParen ∷ word (codes "A") ∷ symbol CloseParen ∷ word (codes "b") ∷ symbol CloseParen ∷ symbol Dot ∷ word (codes "m") ∷ symbol OpenParen ∷ symbol CloseParen ∷ [])
    (call tt (on (paren tt (cast tt (ty (codes "A")) (v (codes "b"))))) (w (codes "m")) end)
called_on_cast = record { shaped = grind arith; spells = refl }

-- "s".m()
called_on_string : BareStatementExpression (text (codes "s") ∷ symbol Dot ∷ word (codes "m") ∷ symbol OpenParen ∷ symbol CloseParen ∷ [])
    (call tt (on (string tt (codes "s"))) (w (codes "m")) end)
called_on_string = record { shaped = grind arith; spells = refl }

-- A.class.m()
called_on_literal : BareStatementExpression (word (codes "A") ∷ symbol Dot ∷ keyword Class ∷ symbol Dot ∷ word (codes "m") ∷ symbol OpenParen ∷ symbol CloseParen ∷ [])
    (call tt (on (class_literal tt (ty (codes "A")))) (w (codes "m")) end)
called_on_literal = record { shaped = grind arith; spells = refl }

-- new A().m()
called_on_created : BareStatementExpression (keyword New ∷ word (codes "A") ∷ symbol OpenParen ∷ symbol CloseParen ∷ symbol Dot ∷ word (codes "m") ∷ symbol OpenParen ∷ symbol CloseParen ∷ [])
    (call tt (on (create tt (ty (codes "A")) end)) (w (codes "m")) end)
called_on_created = record { shaped = grind arith; spells = refl }

-- new A(a)
created : BareStatementExpression (keyword New ∷ word (codes "A") ∷ symbol OpenParen ∷ word (codes "a") ∷ symbol CloseParen ∷ [])
    (create tt (ty (codes "A")) (more (v (codes "a")) end))
created = record { shaped = grind arith; spells = refl }
