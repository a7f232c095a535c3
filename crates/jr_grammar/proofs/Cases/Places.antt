-- Places: each mark is the span of its node's tokens. The marks are those that javac's parser gives the nodes.
use Rattle.std.proofs.Common.{◌≡◌, ℕ, [], ◌∷◌, Some, None, refl, sym, subst, ◌∙◌, arith}
use Rattle.std.specs.Prelude.{codes}
use Rattle.jr_text.specs.declared.spans.Span.{Span}
use Rattle.jr_lex.specs.declared.items.Keyword.TheVariants.{Class, New, Super, This}
use Rattle.jr_lex.specs.declared.items.Symbol.TheVariants.{Bang, CloseParen, Comma, Dot, Equals, MinusMinus, Minus as MinusSign, OpenParen, PlusEquals, PlusPlus, Plus as PlusSign, Star}
use Rattle.jr_ast.specs.declared.operators.UnOp.TheVariants.{Minus, Not}
use Rattle.jr_ast.specs.declared.operators.BinOp.TheVariants.{Add, Sub, Mul}
use Rattle.jr_ast.specs.declared.operators.BumpOp.TheVariants.{PreDec, PostInc}
use Rattle.jr_ast.specs.Tree.{Exp, named, number, string, name, field, super_field, this, class_literal, call, super_call, create, paren, cast, unary, bump, binary, assign, compound, no_target, on, end, more}
use Rattle.jr_grammar.specs.Tokens.{Token, word, keyword, integer, text, symbol, Placed, kinds}
use Rattle.jr_grammar.specs.Spelling.{toks}
use Rattle.jr_grammar.specs.Shape.{Shaped}
use Rattle.jr_grammar.specs.Layout.{Layout}
use Rattle.jr_grammar.specs.ExpressionLayout.{exp_layout}
use Rattle.jr_grammar.specs.Expressions.{IsMarkedExpression}
use Rattle.jr_grammar.specs.Stands.{Tokens, Stands}
use Rattle.jr_grammar.proofs.Layouts.{lay, lay_stands}
use Rattle.jr_grammar.proofs.ExpressionLayouts.{exp_laid}

abbrev at : ℕ → ℕ → Span
at a b = record { from = a; to = b }

abbrev put : ℕ → ℕ → Token → Placed Span
put a b t = record { mark = at a b; token = t }

-- its marks are those that its parts have over the tokens
marked : (tokens : Tokens) (tree : Exp Span) → Shaped tree → kinds tokens ≡ toks tree → lay (exp_layout tree) tokens ≡ exp_layout tree → IsMarkedExpression tokens tree
marked tokens tree h s e =
    record {
      shaped = h;
      spells = sym s;
      marks = subst (λ (x : Layout Span). Stands x tokens) e (lay_stands (exp_layout tree) tokens (s ∙ sym (exp_laid tree)));
    }

-- a + b*c
sum : IsMarkedExpression (put 0 1 (word (codes "a")) ∷ put 2 3 (symbol PlusSign) ∷ put 4 5 (word (codes "b")) ∷ put 5 6 (symbol Star) ∷ put 6 7 (word (codes "c")) ∷ [])
    (binary (at 0 7) Add (name (at 0 1) (record { mark = (at 0 1); text = codes "a" })) (binary (at 4 7) Mul (name (at 4 5) (record { mark = (at 4 5); text = codes "b" })) (name (at 6 7) (record { mark = (at 6 7); text = codes "c" }))))
sum = marked _ _ (grind arith) refl refl

-- a.b . m( c , 1 ).d
fields_and_a_call : IsMarkedExpression (put 0 1 (word (codes "a")) ∷ put 1 2 (symbol Dot) ∷ put 2 3 (word (codes "b")) ∷ put 4 5 (symbol Dot) ∷ put 6 7 (word (codes "m")) ∷ put 7 8 (symbol OpenParen) ∷ put 9 10 (word (codes "c")) ∷ put 11 12 (symbol Comma) ∷ put 13 14 (integer 1) ∷ put 15 16 (symbol CloseParen) ∷ put 16 17 (symbol Dot) ∷ put 17 18 (word (codes "d")) ∷ [])
    (field (at 0 18) (call (at 0 16) (on (field (at 0 3) (name (at 0 1) (record { mark = (at 0 1); text = codes "a" })) (record { mark = (at 2 3); text = codes "b" }))) (record { mark = (at 6 7); text = codes "m" }) (more (name (at 9 10) (record { mark = (at 9 10); text = codes "c" })) (more (number (at 13 14) 1) end))) (record { mark = (at 17 18); text = codes "d" }))
fields_and_a_call = marked _ _ (grind arith) refl refl

-- m( )
call_alone : IsMarkedExpression (put 0 1 (word (codes "m")) ∷ put 1 2 (symbol OpenParen) ∷ put 3 4 (symbol CloseParen) ∷ [])
    (call (at 0 4) no_target (record { mark = (at 0 1); text = codes "m" }) end)
call_alone = marked _ _ (grind arith) refl refl

-- ( a )
parentheses : IsMarkedExpression (put 0 1 (symbol OpenParen) ∷ put 2 3 (word (codes "a")) ∷ put 4 5 (symbol CloseParen) ∷ [])
    (paren (at 0 5) (name (at 2 3) (record { mark = (at 2 3); text = codes "a" })))
parentheses = marked _ _ (grind arith) refl refl

-- (A.B) ( b )
cast_to_member : IsMarkedExpression (put 0 1 (symbol OpenParen) ∷ put 1 2 (word (codes "A")) ∷ put 2 3 (symbol Dot) ∷ put 3 4 (word (codes "B")) ∷ put 4 5 (symbol CloseParen) ∷ put 6 7 (symbol OpenParen) ∷ put 8 9 (word (codes "b")) ∷ put 10 11 (symbol CloseParen) ∷ [])
    (cast (at 0 11) (named (at 1 4) (Some (record { mark = (at 1 2); text = codes "A" })) (record { mark = (at 3 4); text = codes "B" })) (paren (at 6 11) (name (at 8 9) (record { mark = (at 8 9); text = codes "b" }))))
cast_to_member = marked _ _ (grind arith) refl refl

-- new A . B( 1, "s" ).f
created : IsMarkedExpression (put 0 3 (keyword New) ∷ put 4 5 (word (codes "A")) ∷ put 6 7 (symbol Dot) ∷ put 8 9 (word (codes "B")) ∷ put 9 10 (symbol OpenParen) ∷ put 11 12 (integer 1) ∷ put 12 13 (symbol Comma) ∷ put 14 17 (text (codes "s")) ∷ put 18 19 (symbol CloseParen) ∷ put 19 20 (symbol Dot) ∷ put 20 21 (word (codes "f")) ∷ [])
    (field (at 0 21) (create (at 0 19) (named (at 4 9) (Some (record { mark = (at 4 5); text = codes "A" })) (record { mark = (at 8 9); text = codes "B" })) (more (number (at 11 12) 1) (more (string (at 14 17) (codes "s")) end))) (record { mark = (at 20 21); text = codes "f" }))
created = marked _ _ (grind arith) refl refl

-- super . m( super.a )
super_parts : IsMarkedExpression (put 0 5 (keyword Super) ∷ put 6 7 (symbol Dot) ∷ put 8 9 (word (codes "m")) ∷ put 9 10 (symbol OpenParen) ∷ put 11 16 (keyword Super) ∷ put 16 17 (symbol Dot) ∷ put 17 18 (word (codes "a")) ∷ put 19 20 (symbol CloseParen) ∷ [])
    (super_call (at 0 20) (record { mark = (at 8 9); text = codes "m" }) (more (super_field (at 11 18) (record { mark = (at 17 18); text = codes "a" })) end))
super_parts = marked _ _ (grind arith) refl refl

-- A . class
literal_of_class : IsMarkedExpression (put 0 1 (word (codes "A")) ∷ put 2 3 (symbol Dot) ∷ put 4 9 (keyword Class) ∷ [])
    (class_literal (at 0 9) (named (at 0 1) None (record { mark = (at 0 1); text = codes "A" })))
literal_of_class = marked _ _ (grind arith) refl refl

-- - ! a
signs : IsMarkedExpression (put 0 1 (symbol MinusSign) ∷ put 2 3 (symbol Bang) ∷ put 4 5 (word (codes "a")) ∷ [])
    (unary (at 0 5) Minus (unary (at 2 5) Not (name (at 4 5) (record { mark = (at 4 5); text = codes "a" }))))
signs = marked _ _ (grind arith) refl refl

-- a ++ - -- b.c
bumps : IsMarkedExpression (put 0 1 (word (codes "a")) ∷ put 2 4 (symbol PlusPlus) ∷ put 5 6 (symbol MinusSign) ∷ put 7 9 (symbol MinusMinus) ∷ put 10 11 (word (codes "b")) ∷ put 11 12 (symbol Dot) ∷ put 12 13 (word (codes "c")) ∷ [])
    (binary (at 0 13) Sub (bump (at 0 4) PostInc (name (at 0 1) (record { mark = (at 0 1); text = codes "a" }))) (bump (at 7 13) PreDec (field (at 10 13) (name (at 10 11) (record { mark = (at 10 11); text = codes "b" })) (record { mark = (at 12 13); text = codes "c" }))))
bumps = marked _ _ (grind arith) refl refl

-- a.b = c += this
assignments : IsMarkedExpression (put 0 1 (word (codes "a")) ∷ put 1 2 (symbol Dot) ∷ put 2 3 (word (codes "b")) ∷ put 4 5 (symbol Equals) ∷ put 6 7 (word (codes "c")) ∷ put 8 10 (symbol PlusEquals) ∷ put 11 15 (keyword This) ∷ [])
    (assign (at 0 15) (field (at 0 3) (name (at 0 1) (record { mark = (at 0 1); text = codes "a" })) (record { mark = (at 2 3); text = codes "b" })) (compound (at 6 15) Add (name (at 6 7) (record { mark = (at 6 7); text = codes "c" })) (this (at 11 15))))
assignments = marked _ _ (grind arith) refl refl
