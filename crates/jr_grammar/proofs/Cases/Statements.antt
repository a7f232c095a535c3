-- Statements (JLS 14).
-- The tree of each case is the one that javac's parser makes of the text; where it differs, the case says why.
use Rattle.std.proofs.Common.{[], ◌∷◌, Some, None, refl, arith, true, false}
use Rattle.std.specs.Prelude.{codes}
use Rattle.jr_lex.specs.declared.items.Keyword.TheVariants.{Boolean, Else, Final, If, Int, New, Return, Synchronized, True, While}
use Rattle.jr_lex.specs.declared.items.Symbol.TheVariants.{CloseBrace, CloseParen, Dot, Equals, Less, Minus as MinusSign, OpenBrace, OpenParen, PlusPlus, Plus as PlusSign, Semicolon}
use Rattle.jr_ast.specs.declared.operators.UnOp.TheVariants.{Minus}
use Rattle.jr_ast.specs.declared.operators.BinOp.TheVariants.{Lt, Add}
use Rattle.jr_ast.specs.declared.operators.BumpOp.TheVariants.{PostInc}
use Rattle.jr_ast.specs.Tree.{int, boolean, number, truth, create, paren, unary, bump, binary, assign, call, no_target, end}
use Rattle.jr_ast.specs.StatementTree as S
use Rattle.jr_grammar.specs.Tokens.{word, keyword, integer, symbol}
use Rattle.jr_grammar.proofs.Cases.Forms.{BareStatement, w, v, ty, tyin}
use Rattle.jr_grammar.proofs.Cases.Parts.{IsStatementRefused}

-- int a=1;
local : BareStatement (keyword Int ∷ word (codes "a") ∷ symbol Equals ∷ integer 1 ∷ symbol Semicolon ∷ [])
    (S.local tt false (int tt) (w (codes "a")) (number tt 1))
local = record { shaped = grind arith; spells = refl }

-- final A a=b;
final_local : BareStatement (keyword Final ∷ word (codes "A") ∷ word (codes "a") ∷ symbol Equals ∷ word (codes "b") ∷ symbol Semicolon ∷ [])
    (S.local tt true (ty (codes "A")) (w (codes "a")) (v (codes "b")))
final_local = record { shaped = grind arith; spells = refl }

-- A.B a=new A.B();
local_of_member_class : BareStatement (word (codes "A") ∷ symbol Dot ∷ word (codes "B") ∷ word (codes "a") ∷ symbol Equals ∷ keyword New ∷ word (codes "A") ∷ symbol Dot ∷ word (codes "B") ∷ symbol OpenParen ∷ symbol CloseParen ∷ symbol Semicolon ∷ [])
    (S.local tt false (tyin (codes "A") (codes "B")) (w (codes "a")) (create tt (tyin (codes "A") (codes "B")) end))
local_of_member_class = record { shaped = grind arith; spells = refl }

-- boolean a=true;
boolean_local : BareStatement (keyword Boolean ∷ word (codes "a") ∷ symbol Equals ∷ keyword True ∷ symbol Semicolon ∷ [])
    (S.local tt false (boolean tt) (w (codes "a")) (truth tt true))
boolean_local = record { shaped = grind arith; spells = refl }

-- a=b;
assignment : BareStatement (word (codes "a") ∷ symbol Equals ∷ word (codes "b") ∷ symbol Semicolon ∷ [])
    (S.eval tt (assign tt (v (codes "a")) (v (codes "b"))))
assignment = record { shaped = grind arith; spells = refl }

-- m();
call_statement : BareStatement (word (codes "m") ∷ symbol OpenParen ∷ symbol CloseParen ∷ symbol Semicolon ∷ [])
    (S.eval tt (call tt no_target (w (codes "m")) end))
call_statement = record { shaped = grind arith; spells = refl }

-- new A();
created_statement : BareStatement (keyword New ∷ word (codes "A") ∷ symbol OpenParen ∷ symbol CloseParen ∷ symbol Semicolon ∷ [])
    (S.eval tt (create tt (ty (codes "A")) end))
created_statement = record { shaped = grind arith; spells = refl }

-- a++;
bump_statement : BareStatement (word (codes "a") ∷ symbol PlusPlus ∷ symbol Semicolon ∷ [])
    (S.eval tt (bump tt PostInc (v (codes "a"))))
bump_statement = record { shaped = grind arith; spells = refl }

-- ;
empty_statement : BareStatement (symbol Semicolon ∷ [])
    (S.empty tt)
empty_statement = record { shaped = grind arith; spells = refl }

-- {}
empty_block : BareStatement (symbol OpenBrace ∷ symbol CloseBrace ∷ [])
    (S.block tt S.end)
empty_block = record { shaped = grind arith; spells = refl }

-- {a=b;m();}
block_of_two : BareStatement (symbol OpenBrace ∷ word (codes "a") ∷ symbol Equals ∷ word (codes "b") ∷ symbol Semicolon ∷ word (codes "m") ∷ symbol OpenParen ∷ symbol CloseParen ∷ symbol Semicolon ∷ symbol CloseBrace ∷ [])
    (S.block tt (S.more (S.eval tt (assign tt (v (codes "a")) (v (codes "b")))) (S.more (S.eval tt (call tt no_target (w (codes "m")) end)) S.end)))
block_of_two = record { shaped = grind arith; spells = refl }

-- {int a=1;}
block_of_local : BareStatement (symbol OpenBrace ∷ keyword Int ∷ word (codes "a") ∷ symbol Equals ∷ integer 1 ∷ symbol Semicolon ∷ symbol CloseBrace ∷ [])
    (S.block tt (S.more (S.local tt false (int tt) (w (codes "a")) (number tt 1)) S.end))
block_of_local = record { shaped = grind arith; spells = refl }

-- if(a)m();
if_alone : BareStatement (keyword If ∷ symbol OpenParen ∷ word (codes "a") ∷ symbol CloseParen ∷ word (codes "m") ∷ symbol OpenParen ∷ symbol CloseParen ∷ symbol Semicolon ∷ [])
    (S.branch tt (v (codes "a")) (S.eval tt (call tt no_target (w (codes "m")) end)) S.no_else)
if_alone = record { shaped = grind arith; spells = refl }

-- if(a)m();else n();
if_else : BareStatement (keyword If ∷ symbol OpenParen ∷ word (codes "a") ∷ symbol CloseParen ∷ word (codes "m") ∷ symbol OpenParen ∷ symbol CloseParen ∷ symbol Semicolon ∷ keyword Else ∷ word (codes "n") ∷ symbol OpenParen ∷ symbol CloseParen ∷ symbol Semicolon ∷ [])
    (S.branch tt (v (codes "a")) (S.eval tt (call tt no_target (w (codes "m")) end)) (S.otherwise (S.eval tt (call tt no_target (w (codes "n")) end))))
if_else = record { shaped = grind arith; spells = refl }

-- if(a)if(b)m();else n();
dangling_else : BareStatement (keyword If ∷ symbol OpenParen ∷ word (codes "a") ∷ symbol CloseParen ∷ keyword If ∷ symbol OpenParen ∷ word (codes "b") ∷ symbol CloseParen ∷ word (codes "m") ∷ symbol OpenParen ∷ symbol CloseParen ∷ symbol Semicolon ∷ keyword Else ∷ word (codes "n") ∷ symbol OpenParen ∷ symbol CloseParen ∷ symbol Semicolon ∷ [])
    (S.branch tt (v (codes "a")) (S.branch tt (v (codes "b")) (S.eval tt (call tt no_target (w (codes "m")) end)) (S.otherwise (S.eval tt (call tt no_target (w (codes "n")) end)))) S.no_else)
dangling_else = record { shaped = grind arith; spells = refl }

-- if(a)if(b)m();else n();else k();
dangling_else_twice : BareStatement (keyword If ∷ symbol OpenParen ∷ word (codes "a") ∷ symbol CloseParen ∷ keyword If ∷ symbol OpenParen ∷ word (codes "b") ∷ symbol CloseParen ∷ word (codes "m") ∷ symbol OpenParen ∷ symbol CloseParen ∷ symbol Semicolon ∷ keyword Else ∷ word (codes "n") ∷ symbol OpenParen ∷ symbol CloseParen ∷ symbol Semicolon ∷ keyword Else ∷ word (codes "k") ∷ symbol OpenParen ∷ symbol CloseParen ∷ symbol Semicolon ∷ [])
    (S.branch tt (v (codes "a")) (S.branch tt (v (codes "b")) (S.eval tt (call tt no_target (w (codes "m")) end)) (S.otherwise (S.eval tt (call tt no_target (w (codes "n")) end)))) (S.otherwise (S.eval tt (call tt no_target (w (codes "k")) end))))
dangling_else_twice = record { shaped = grind arith; spells = refl }

-- if(a)if(b)if(c)m();else n();else k();
dangling_else_three_deep : BareStatement (keyword If ∷ symbol OpenParen ∷ word (codes "a") ∷ symbol CloseParen ∷ keyword If ∷ symbol OpenParen ∷ word (codes "b") ∷ symbol CloseParen ∷ keyword If ∷ symbol OpenParen ∷ word (codes "c") ∷ symbol CloseParen ∷ word (codes "m") ∷ symbol OpenParen ∷ symbol CloseParen ∷ symbol Semicolon ∷ keyword Else ∷ word (codes "n") ∷ symbol OpenParen ∷ symbol CloseParen ∷ symbol Semicolon ∷ keyword Else ∷ word (codes "k") ∷ symbol OpenParen ∷ symbol CloseParen ∷ symbol Semicolon ∷ [])
    (S.branch tt (v (codes "a")) (S.branch tt (v (codes "b")) (S.branch tt (v (codes "c")) (S.eval tt (call tt no_target (w (codes "m")) end)) (S.otherwise (S.eval tt (call tt no_target (w (codes "n")) end)))) (S.otherwise (S.eval tt (call tt no_target (w (codes "k")) end)))) S.no_else)
dangling_else_three_deep = record { shaped = grind arith; spells = refl }

-- if(a)while(b)if(c)m();else n();
dangling_else_through_while : BareStatement (keyword If ∷ symbol OpenParen ∷ word (codes "a") ∷ symbol CloseParen ∷ keyword While ∷ symbol OpenParen ∷ word (codes "b") ∷ symbol CloseParen ∷ keyword If ∷ symbol OpenParen ∷ word (codes "c") ∷ symbol CloseParen ∷ word (codes "m") ∷ symbol OpenParen ∷ symbol CloseParen ∷ symbol Semicolon ∷ keyword Else ∷ word (codes "n") ∷ symbol OpenParen ∷ symbol CloseParen ∷ symbol Semicolon ∷ [])
    (S.branch tt (v (codes "a")) (S.loop tt (v (codes "b")) (S.branch tt (v (codes "c")) (S.eval tt (call tt no_target (w (codes "m")) end)) (S.otherwise (S.eval tt (call tt no_target (w (codes "n")) end))))) S.no_else)
dangling_else_through_while = record { shaped = grind arith; spells = refl }

-- if(a)m();else if(b)n();else k();
else_if : BareStatement (keyword If ∷ symbol OpenParen ∷ word (codes "a") ∷ symbol CloseParen ∷ word (codes "m") ∷ symbol OpenParen ∷ symbol CloseParen ∷ symbol Semicolon ∷ keyword Else ∷ keyword If ∷ symbol OpenParen ∷ word (codes "b") ∷ symbol CloseParen ∷ word (codes "n") ∷ symbol OpenParen ∷ symbol CloseParen ∷ symbol Semicolon ∷ keyword Else ∷ word (codes "k") ∷ symbol OpenParen ∷ symbol CloseParen ∷ symbol Semicolon ∷ [])
    (S.branch tt (v (codes "a")) (S.eval tt (call tt no_target (w (codes "m")) end)) (S.otherwise (S.branch tt (v (codes "b")) (S.eval tt (call tt no_target (w (codes "n")) end)) (S.otherwise (S.eval tt (call tt no_target (w (codes "k")) end))))))
else_if = record { shaped = grind arith; spells = refl }

-- if(a)if(b)m();else if(c)n();else k();
dangling_else_through_else : BareStatement (keyword If ∷ symbol OpenParen ∷ word (codes "a") ∷ symbol CloseParen ∷ keyword If ∷ symbol OpenParen ∷ word (codes "b") ∷ symbol CloseParen ∷ word (codes "m") ∷ symbol OpenParen ∷ symbol CloseParen ∷ symbol Semicolon ∷ keyword Else ∷ keyword If ∷ symbol OpenParen ∷ word (codes "c") ∷ symbol CloseParen ∷ word (codes "n") ∷ symbol OpenParen ∷ symbol CloseParen ∷ symbol Semicolon ∷ keyword Else ∷ word (codes "k") ∷ symbol OpenParen ∷ symbol CloseParen ∷ symbol Semicolon ∷ [])
    (S.branch tt (v (codes "a")) (S.branch tt (v (codes "b")) (S.eval tt (call tt no_target (w (codes "m")) end)) (S.otherwise (S.branch tt (v (codes "c")) (S.eval tt (call tt no_target (w (codes "n")) end)) (S.otherwise (S.eval tt (call tt no_target (w (codes "k")) end)))))) S.no_else)
dangling_else_through_else = record { shaped = grind arith; spells = refl }

-- if(a){if(b)m();}else n();
else_behind_block : BareStatement (keyword If ∷ symbol OpenParen ∷ word (codes "a") ∷ symbol CloseParen ∷ symbol OpenBrace ∷ keyword If ∷ symbol OpenParen ∷ word (codes "b") ∷ symbol CloseParen ∷ word (codes "m") ∷ symbol OpenParen ∷ symbol CloseParen ∷ symbol Semicolon ∷ symbol CloseBrace ∷ keyword Else ∷ word (codes "n") ∷ symbol OpenParen ∷ symbol CloseParen ∷ symbol Semicolon ∷ [])
    (S.branch tt (v (codes "a")) (S.block tt (S.more (S.branch tt (v (codes "b")) (S.eval tt (call tt no_target (w (codes "m")) end)) S.no_else) S.end)) (S.otherwise (S.eval tt (call tt no_target (w (codes "n")) end))))
else_behind_block = record { shaped = grind arith; spells = refl }

-- if(a)while(b);else m();
else_behind_while : BareStatement (keyword If ∷ symbol OpenParen ∷ word (codes "a") ∷ symbol CloseParen ∷ keyword While ∷ symbol OpenParen ∷ word (codes "b") ∷ symbol CloseParen ∷ symbol Semicolon ∷ keyword Else ∷ word (codes "m") ∷ symbol OpenParen ∷ symbol CloseParen ∷ symbol Semicolon ∷ [])
    (S.branch tt (v (codes "a")) (S.loop tt (v (codes "b")) (S.empty tt)) (S.otherwise (S.eval tt (call tt no_target (w (codes "m")) end))))
else_behind_while = record { shaped = grind arith; spells = refl }

-- if(a)synchronized(b){if(c);}else;
else_behind_synchronized : BareStatement (keyword If ∷ symbol OpenParen ∷ word (codes "a") ∷ symbol CloseParen ∷ keyword Synchronized ∷ symbol OpenParen ∷ word (codes "b") ∷ symbol CloseParen ∷ symbol OpenBrace ∷ keyword If ∷ symbol OpenParen ∷ word (codes "c") ∷ symbol CloseParen ∷ symbol Semicolon ∷ symbol CloseBrace ∷ keyword Else ∷ symbol Semicolon ∷ [])
    (S.branch tt (v (codes "a")) (S.sync tt (v (codes "b")) (S.more (S.branch tt (v (codes "c")) (S.empty tt) S.no_else) S.end)) (S.otherwise (S.empty tt)))
else_behind_synchronized = record { shaped = grind arith; spells = refl }

-- while(a)m();
while_statement : BareStatement (keyword While ∷ symbol OpenParen ∷ word (codes "a") ∷ symbol CloseParen ∷ word (codes "m") ∷ symbol OpenParen ∷ symbol CloseParen ∷ symbol Semicolon ∷ [])
    (S.loop tt (v (codes "a")) (S.eval tt (call tt no_target (w (codes "m")) end)))
while_statement = record { shaped = grind arith; spells = refl }

-- while(a<b){a++;}
while_block : BareStatement (keyword While ∷ symbol OpenParen ∷ word (codes "a") ∷ symbol Less ∷ word (codes "b") ∷ symbol CloseParen ∷ symbol OpenBrace ∷ word (codes "a") ∷ symbol PlusPlus ∷ symbol Semicolon ∷ symbol CloseBrace ∷ [])
    (S.loop tt (binary tt Lt (v (codes "a")) (v (codes "b"))) (S.block tt (S.more (S.eval tt (bump tt PostInc (v (codes "a")))) S.end)))
while_block = record { shaped = grind arith; spells = refl }

-- return;
return_alone : BareStatement (keyword Return ∷ symbol Semicolon ∷ [])
    (S.return tt None)
return_alone = record { shaped = grind arith; spells = refl }

-- return -(-a)+1;
return_value : BareStatement (keyword Return ∷ symbol MinusSign ∷ symbol OpenParen ∷ symbol MinusSign ∷ word (codes "a") ∷ symbol CloseParen ∷ symbol PlusSign ∷ integer 1 ∷ symbol Semicolon ∷ [])
    (S.return tt (Some (binary tt Add (unary tt Minus (paren tt (unary tt Minus (v (codes "a"))))) (number tt 1))))
return_value = record { shaped = grind arith; spells = refl }

-- return a=b;
return_assignment : BareStatement (keyword Return ∷ word (codes "a") ∷ symbol Equals ∷ word (codes "b") ∷ symbol Semicolon ∷ [])
    (S.return tt (Some (assign tt (v (codes "a")) (v (codes "b")))))
return_assignment = record { shaped = grind arith; spells = refl }

-- synchronized(a){m();}
synchronized_statement : BareStatement (keyword Synchronized ∷ symbol OpenParen ∷ word (codes "a") ∷ symbol CloseParen ∷ symbol OpenBrace ∷ word (codes "m") ∷ symbol OpenParen ∷ symbol CloseParen ∷ symbol Semicolon ∷ symbol CloseBrace ∷ [])
    (S.sync tt (v (codes "a")) (S.more (S.eval tt (call tt no_target (w (codes "m")) end)) S.end))
synchronized_statement = record { shaped = grind arith; spells = refl }

-- if(a)if(b)m();else n();
-- the same tokens with the `else` at the outer `if`
else_to_the_outer_if : IsStatementRefused (keyword If ∷ symbol OpenParen ∷ word (codes "a") ∷ symbol CloseParen ∷ keyword If ∷ symbol OpenParen ∷ word (codes "b") ∷ symbol CloseParen ∷ word (codes "m") ∷ symbol OpenParen ∷ symbol CloseParen ∷ symbol Semicolon ∷ keyword Else ∷ word (codes "n") ∷ symbol OpenParen ∷ symbol CloseParen ∷ symbol Semicolon ∷ [])
    (S.branch tt (v (codes "a")) (S.branch tt (v (codes "b")) (S.eval tt (call tt no_target (w (codes "m")) end)) S.no_else) (S.otherwise (S.eval tt (call tt no_target (w (codes "n")) end))))
else_to_the_outer_if = record { spells = refl; not_shaped = λ h. grind arith }

-- if(a)while(b)if(c)m();else n();
-- the same tokens with the `else` at the outer `if`
else_to_the_outer_if_through_while : IsStatementRefused (keyword If ∷ symbol OpenParen ∷ word (codes "a") ∷ symbol CloseParen ∷ keyword While ∷ symbol OpenParen ∷ word (codes "b") ∷ symbol CloseParen ∷ keyword If ∷ symbol OpenParen ∷ word (codes "c") ∷ symbol CloseParen ∷ word (codes "m") ∷ symbol OpenParen ∷ symbol CloseParen ∷ symbol Semicolon ∷ keyword Else ∷ word (codes "n") ∷ symbol OpenParen ∷ symbol CloseParen ∷ symbol Semicolon ∷ [])
    (S.branch tt (v (codes "a")) (S.loop tt (v (codes "b")) (S.branch tt (v (codes "c")) (S.eval tt (call tt no_target (w (codes "m")) end)) S.no_else)) (S.otherwise (S.eval tt (call tt no_target (w (codes "n")) end))))
else_to_the_outer_if_through_while = record { spells = refl; not_shaped = λ h. grind arith }

-- if(a)if(b)m();else if(c)n();else k();
-- the same tokens with the last `else` at the outer `if`
else_to_the_outer_if_through_else : IsStatementRefused (keyword If ∷ symbol OpenParen ∷ word (codes "a") ∷ symbol CloseParen ∷ keyword If ∷ symbol OpenParen ∷ word (codes "b") ∷ symbol CloseParen ∷ word (codes "m") ∷ symbol OpenParen ∷ symbol CloseParen ∷ symbol Semicolon ∷ keyword Else ∷ keyword If ∷ symbol OpenParen ∷ word (codes "c") ∷ symbol CloseParen ∷ word (codes "n") ∷ symbol OpenParen ∷ symbol CloseParen ∷ symbol Semicolon ∷ keyword Else ∷ word (codes "k") ∷ symbol OpenParen ∷ symbol CloseParen ∷ symbol Semicolon ∷ [])
    (S.branch tt (v (codes "a")) (S.branch tt (v (codes "b")) (S.eval tt (call tt no_target (w (codes "m")) end)) (S.otherwise (S.branch tt (v (codes "c")) (S.eval tt (call tt no_target (w (codes "n")) end)) S.no_else))) (S.otherwise (S.eval tt (call tt no_target (w (codes "k")) end))))
else_to_the_outer_if_through_else = record { spells = refl; not_shaped = λ h. grind arith }

-- if(a)int b=1;
-- javac refuses it too: variable declaration not allowed here
local_behind_if : IsStatementRefused (keyword If ∷ symbol OpenParen ∷ word (codes "a") ∷ symbol CloseParen ∷ keyword Int ∷ word (codes "b") ∷ symbol Equals ∷ integer 1 ∷ symbol Semicolon ∷ [])
    (S.branch tt (v (codes "a")) (S.local tt false (int tt) (w (codes "b")) (number tt 1)) S.no_else)
local_behind_if = record { spells = refl; not_shaped = λ h. grind arith }

-- if(a);else int b=1;
-- javac refuses it too: variable declaration not allowed here
local_behind_else : IsStatementRefused (keyword If ∷ symbol OpenParen ∷ word (codes "a") ∷ symbol CloseParen ∷ symbol Semicolon ∷ keyword Else ∷ keyword Int ∷ word (codes "b") ∷ symbol Equals ∷ integer 1 ∷ symbol Semicolon ∷ [])
    (S.branch tt (v (codes "a")) (S.empty tt) (S.otherwise (S.local tt false (int tt) (w (codes "b")) (number tt 1))))
local_behind_else = record { spells = refl; not_shaped = λ h. grind arith }

-- while(a)int b=1;
-- javac refuses it too: variable declaration not allowed here
local_behind_while : IsStatementRefused (keyword While ∷ symbol OpenParen ∷ word (codes "a") ∷ symbol CloseParen ∷ keyword Int ∷ word (codes "b") ∷ symbol Equals ∷ integer 1 ∷ symbol Semicolon ∷ [])
    (S.loop tt (v (codes "a")) (S.local tt false (int tt) (w (codes "b")) (number tt 1)))
local_behind_while = record { spells = refl; not_shaped = λ h. grind arith }

-- a+b;
-- javac refuses it too: not a statement
sum_statement : IsStatementRefused (word (codes "a") ∷ symbol PlusSign ∷ word (codes "b") ∷ symbol Semicolon ∷ [])
    (S.eval tt (binary tt Add (v (codes "a")) (v (codes "b"))))
sum_statement = record { spells = refl; not_shaped = λ h. grind arith }

-- (m());
-- javac refuses it too: not a statement
call_in_parentheses : IsStatementRefused (symbol OpenParen ∷ word (codes "m") ∷ symbol OpenParen ∷ symbol CloseParen ∷ symbol CloseParen ∷ symbol Semicolon ∷ [])
    (S.eval tt (paren tt (call tt no_target (w (codes "m")) end)))
call_in_parentheses = record { spells = refl; not_shaped = λ h. grind arith }

-- (a)++;
-- javac takes it; a target stands in no parentheses
parentheses_bumped : IsStatementRefused (symbol OpenParen ∷ word (codes "a") ∷ symbol CloseParen ∷ symbol PlusPlus ∷ symbol Semicolon ∷ [])
    (S.eval tt (bump tt PostInc (paren tt (v (codes "a")))))
parentheses_bumped = record { spells = refl; not_shaped = λ h. grind arith }

-- return 2147483648;
-- javac refuses it too: integer number too large
greatest_returned : IsStatementRefused (keyword Return ∷ integer 2147483648 ∷ symbol Semicolon ∷ [])
    (S.return tt (Some (number tt 2147483648)))
greatest_returned = record { spells = refl; not_shaped = λ h. grind arith }

-- if((a)=b);
-- javac's parser takes it; a target stands in no parentheses
condition_no_expression : IsStatementRefused (keyword If ∷ symbol OpenParen ∷ symbol OpenParen ∷ word (codes "a") ∷ symbol CloseParen ∷ symbol Equals ∷ word (codes "b") ∷ symbol CloseParen ∷ symbol Semicolon ∷ [])
    (S.branch tt (assign tt (paren tt (v (codes "a"))) (v (codes "b"))) (S.empty tt) S.no_else)
condition_no_expression = record { spells = refl; not_shaped = λ h. grind arith }

-- synchronized((a)++){}
-- javac takes it; a target stands in no parentheses
lock_no_expression : IsStatementRefused (keyword Synchronized ∷ symbol OpenParen ∷ symbol OpenParen ∷ word (codes "a") ∷ symbol CloseParen ∷ symbol PlusPlus ∷ symbol CloseParen ∷ symbol OpenBrace ∷ symbol CloseBrace ∷ [])
    (S.sync tt (bump tt PostInc (paren tt (v (codes "a")))) S.end)
lock_no_expression = record { spells = refl; not_shaped = λ h. grind arith }

-- int a=2147483648;
-- javac refuses it too: integer number too large
greatest_declared : IsStatementRefused (keyword Int ∷ word (codes "a") ∷ symbol Equals ∷ integer 2147483648 ∷ symbol Semicolon ∷ [])
    (S.local tt false (int tt) (w (codes "a")) (number tt 2147483648))
greatest_declared = record { spells = refl; not_shaped = λ h. grind arith }

-- if(a)b+c;
-- javac refuses it too: not a statement
sum_behind_if : IsStatementRefused (keyword If ∷ symbol OpenParen ∷ word (codes "a") ∷ symbol CloseParen ∷ word (codes "b") ∷ symbol PlusSign ∷ word (codes "c") ∷ symbol Semicolon ∷ [])
    (S.branch tt (v (codes "a")) (S.eval tt (binary tt Add (v (codes "b")) (v (codes "c")))) S.no_else)
sum_behind_if = record { spells = refl; not_shaped = λ h. grind arith }

-- if(a);else b+c;
-- javac refuses it too: not a statement
sum_behind_else : IsStatementRefused (keyword If ∷ symbol OpenParen ∷ word (codes "a") ∷ symbol CloseParen ∷ symbol Semicolon ∷ keyword Else ∷ word (codes "b") ∷ symbol PlusSign ∷ word (codes "c") ∷ symbol Semicolon ∷ [])
    (S.branch tt (v (codes "a")) (S.empty tt) (S.otherwise (S.eval tt (binary tt Add (v (codes "b")) (v (codes "c"))))))
sum_behind_else = record { spells = refl; not_shaped = λ h. grind arith }

-- while(2147483648);
-- javac refuses it too: integer number too large
greatest_as_condition : IsStatementRefused (keyword While ∷ symbol OpenParen ∷ integer 2147483648 ∷ symbol CloseParen ∷ symbol Semicolon ∷ [])
    (S.loop tt (number tt 2147483648) (S.empty tt))
greatest_as_condition = record { spells = refl; not_shaped = λ h. grind arith }

-- while(a)b+c;
-- javac refuses it too: not a statement
sum_behind_while : IsStatementRefused (keyword While ∷ symbol OpenParen ∷ word (codes "a") ∷ symbol CloseParen ∷ word (codes "b") ∷ symbol PlusSign ∷ word (codes "c") ∷ symbol Semicolon ∷ [])
    (S.loop tt (v (codes "a")) (S.eval tt (binary tt Add (v (codes "b")) (v (codes "c")))))
sum_behind_while = record { spells = refl; not_shaped = λ h. grind arith }

-- {a+b;}
-- javac refuses it too: not a statement
sum_in_block : IsStatementRefused (symbol OpenBrace ∷ word (codes "a") ∷ symbol PlusSign ∷ word (codes "b") ∷ symbol Semicolon ∷ symbol CloseBrace ∷ [])
    (S.block tt (S.more (S.eval tt (binary tt Add (v (codes "a")) (v (codes "b")))) S.end))
sum_in_block = record { spells = refl; not_shaped = λ h. grind arith }

-- {;a+b;}
-- javac refuses it too: not a statement
sum_second : IsStatementRefused (symbol OpenBrace ∷ symbol Semicolon ∷ word (codes "a") ∷ symbol PlusSign ∷ word (codes "b") ∷ symbol Semicolon ∷ symbol CloseBrace ∷ [])
    (S.block tt (S.more (S.empty tt) (S.more (S.eval tt (binary tt Add (v (codes "a")) (v (codes "b")))) S.end)))
sum_second = record { spells = refl; not_shaped = λ h. grind arith }

-- synchronized(a){b+c;}
-- javac refuses it too: not a statement
sum_in_synchronized : IsStatementRefused (keyword Synchronized ∷ symbol OpenParen ∷ word (codes "a") ∷ symbol CloseParen ∷ symbol OpenBrace ∷ word (codes "b") ∷ symbol PlusSign ∷ word (codes "c") ∷ symbol Semicolon ∷ symbol CloseBrace ∷ [])
    (S.sync tt (v (codes "a")) (S.more (S.eval tt (binary tt Add (v (codes "b")) (v (codes "c")))) S.end))
sum_in_synchronized = record { spells = refl; not_shaped = λ h. grind arith }
