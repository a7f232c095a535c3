-- Tokens that are no list of statements.
use Rattle.std.proofs.Common.{[], ◌∷◌, refl}
use Rattle.std.specs.Prelude.{codes}
use Rattle.jr_lex.specs.declared.items.Keyword.TheVariants.{Else, If, Int, Return, Synchronized, While}
use Rattle.jr_lex.specs.declared.items.Symbol.TheVariants.{CloseBrace, CloseParen, Equals, OpenBrace, OpenParen, Plus as PlusSign, PlusPlus, Semicolon}
use Rattle.jr_grammar.specs.Tokens.{word, keyword, symbol, integer}
use Rattle.jr_pexpr.specs.Machine.{begun, extended}
use Rattle.jr_pstmt.specs.StatementMachine.{from_ready}
use Rattle.jr_grammar.specs.Units.{AreNoStatements}
use Rattle.jr_punit_laws.proofs.Cases.Forms.{no_statements}

-- if(a)int b=1;
-- javac refuses it too: variable declaration not allowed here
local_behind_if : AreNoStatements (keyword If ∷ symbol OpenParen ∷ word (codes "a") ∷ symbol CloseParen ∷ keyword Int ∷ word (codes "b") ∷ symbol Equals ∷ integer 1 ∷ symbol Semicolon ∷ [])
unfolding begun extended from_ready
local_behind_if = no_statements _ refl

-- if(a);else int b=1;
-- javac refuses it too: variable declaration not allowed here
local_behind_else : AreNoStatements (keyword If ∷ symbol OpenParen ∷ word (codes "a") ∷ symbol CloseParen ∷ symbol Semicolon ∷ keyword Else ∷ keyword Int ∷ word (codes "b") ∷ symbol Equals ∷ integer 1 ∷ symbol Semicolon ∷ [])
unfolding begun extended from_ready
local_behind_else = no_statements _ refl

-- while(a)int b=1;
-- javac refuses it too: variable declaration not allowed here
local_behind_while : AreNoStatements (keyword While ∷ symbol OpenParen ∷ word (codes "a") ∷ symbol CloseParen ∷ keyword Int ∷ word (codes "b") ∷ symbol Equals ∷ integer 1 ∷ symbol Semicolon ∷ [])
unfolding begun extended from_ready
local_behind_while = no_statements _ refl

-- a+b;
-- javac refuses it too: not a statement
sum_statement : AreNoStatements (word (codes "a") ∷ symbol PlusSign ∷ word (codes "b") ∷ symbol Semicolon ∷ [])
unfolding begun extended from_ready
sum_statement = no_statements _ refl

-- (m());
-- javac refuses it too: not a statement
call_in_parentheses : AreNoStatements (symbol OpenParen ∷ word (codes "m") ∷ symbol OpenParen ∷ symbol CloseParen ∷ symbol CloseParen ∷ symbol Semicolon ∷ [])
unfolding begun extended from_ready
call_in_parentheses = no_statements _ refl

-- (a)++;
-- javac takes it; a target stands in no parentheses
parentheses_bumped : AreNoStatements (symbol OpenParen ∷ word (codes "a") ∷ symbol CloseParen ∷ symbol PlusPlus ∷ symbol Semicolon ∷ [])
unfolding begun extended from_ready
parentheses_bumped = no_statements _ refl

-- return 2147483648;
-- javac refuses it too: integer number too large
greatest_returned : AreNoStatements (keyword Return ∷ integer 2147483648 ∷ symbol Semicolon ∷ [])
unfolding begun extended from_ready
greatest_returned = no_statements _ refl

-- if((a)=b);
-- javac's parser takes it; a target stands in no parentheses
condition_no_expression : AreNoStatements (keyword If ∷ symbol OpenParen ∷ symbol OpenParen ∷ word (codes "a") ∷ symbol CloseParen ∷ symbol Equals ∷ word (codes "b") ∷ symbol CloseParen ∷ symbol Semicolon ∷ [])
unfolding begun extended from_ready
condition_no_expression = no_statements _ refl

-- synchronized((a)++){}
-- javac takes it; a target stands in no parentheses
lock_no_expression : AreNoStatements (keyword Synchronized ∷ symbol OpenParen ∷ symbol OpenParen ∷ word (codes "a") ∷ symbol CloseParen ∷ symbol PlusPlus ∷ symbol CloseParen ∷ symbol OpenBrace ∷ symbol CloseBrace ∷ [])
unfolding begun extended from_ready
lock_no_expression = no_statements _ refl

-- int a=2147483648;
-- javac refuses it too: integer number too large
greatest_declared : AreNoStatements (keyword Int ∷ word (codes "a") ∷ symbol Equals ∷ integer 2147483648 ∷ symbol Semicolon ∷ [])
unfolding begun extended from_ready
greatest_declared = no_statements _ refl

-- if(a)b+c;
-- javac refuses it too: not a statement
sum_behind_if : AreNoStatements (keyword If ∷ symbol OpenParen ∷ word (codes "a") ∷ symbol CloseParen ∷ word (codes "b") ∷ symbol PlusSign ∷ word (codes "c") ∷ symbol Semicolon ∷ [])
unfolding begun extended from_ready
sum_behind_if = no_statements _ refl

-- if(a);else b+c;
-- javac refuses it too: not a statement
sum_behind_else : AreNoStatements (keyword If ∷ symbol OpenParen ∷ word (codes "a") ∷ symbol CloseParen ∷ symbol Semicolon ∷ keyword Else ∷ word (codes "b") ∷ symbol PlusSign ∷ word (codes "c") ∷ symbol Semicolon ∷ [])
unfolding begun extended from_ready
sum_behind_else = no_statements _ refl

-- while(2147483648);
-- javac refuses it too: integer number too large
greatest_as_condition : AreNoStatements (keyword While ∷ symbol OpenParen ∷ integer 2147483648 ∷ symbol CloseParen ∷ symbol Semicolon ∷ [])
unfolding begun extended from_ready
greatest_as_condition = no_statements _ refl

-- while(a)b+c;
-- javac refuses it too: not a statement
sum_behind_while : AreNoStatements (keyword While ∷ symbol OpenParen ∷ word (codes "a") ∷ symbol CloseParen ∷ word (codes "b") ∷ symbol PlusSign ∷ word (codes "c") ∷ symbol Semicolon ∷ [])
unfolding begun extended from_ready
sum_behind_while = no_statements _ refl

-- {a+b;}
-- javac refuses it too: not a statement
sum_in_block : AreNoStatements (symbol OpenBrace ∷ word (codes "a") ∷ symbol PlusSign ∷ word (codes "b") ∷ symbol Semicolon ∷ symbol CloseBrace ∷ [])
unfolding begun extended from_ready
sum_in_block = no_statements _ refl

-- {;a+b;}
-- javac refuses it too: not a statement
sum_second : AreNoStatements (symbol OpenBrace ∷ symbol Semicolon ∷ word (codes "a") ∷ symbol PlusSign ∷ word (codes "b") ∷ symbol Semicolon ∷ symbol CloseBrace ∷ [])
unfolding begun extended from_ready
sum_second = no_statements _ refl

-- synchronized(a){b+c;}
-- javac refuses it too: not a statement
sum_in_synchronized : AreNoStatements (keyword Synchronized ∷ symbol OpenParen ∷ word (codes "a") ∷ symbol CloseParen ∷ symbol OpenBrace ∷ word (codes "b") ∷ symbol PlusSign ∷ word (codes "c") ∷ symbol Semicolon ∷ symbol CloseBrace ∷ [])
unfolding begun extended from_ready
sum_in_synchronized = no_statements _ refl
