-- Where reading stops in lists of statements: the first so many tokens begin one, and with the next they begin none.
use Rattle.std.proofs.Common.{[], ◌∷◌, refl}
use Rattle.std.specs.Prelude.{codes}
use Rattle.jr_lex.specs.declared.items.Keyword.TheVariants.{Class, Else, Final, If, Int, New, Public, Return, Super, Synchronized, This, While}
use Rattle.jr_lex.specs.declared.items.Symbol.TheVariants.{CloseBrace, CloseParen, Comma, Dot, Equals, Minus as MinusSign, OpenBrace, OpenBracket, OpenParen, Plus as PlusSign, PlusPlus, Semicolon}
use Rattle.jr_grammar.specs.Tokens.{word, keyword, symbol, integer}
use Rattle.jr_grammar.specs.Units.{IsListStop}
use Rattle.jr_pexpr.specs.Machine.{begun, extended}
use Rattle.jr_pstmt.specs.StatementMachine.{from_ready}
use Rattle.jr_punit_laws.proofs.Cases.Forms.{list_stops}

-- a b=c;
local : IsListStop (word (codes "a") ∷ word (codes "b") ∷ symbol Equals ∷ word (codes "c") ∷ symbol Semicolon ∷ []) 5
unfolding begun extended from_ready
local = list_stops _ _ refl

-- a b c
third_word : IsListStop (word (codes "a") ∷ word (codes "b") ∷ word (codes "c") ∷ []) 2
unfolding begun extended from_ready
third_word = list_stops _ _ refl

-- a.b c=1;
local_of_member_class : IsListStop (word (codes "a") ∷ symbol Dot ∷ word (codes "b") ∷ word (codes "c") ∷ symbol Equals ∷ integer 1 ∷ symbol Semicolon ∷ []) 7
unfolding begun extended from_ready
local_of_member_class = list_stops _ _ refl

-- a.b.c d
word_behind_three : IsListStop (word (codes "a") ∷ symbol Dot ∷ word (codes "b") ∷ symbol Dot ∷ word (codes "c") ∷ word (codes "d") ∷ []) 5
unfolding begun extended from_ready
word_behind_three = list_stops _ _ refl

-- a=b;
assignment : IsListStop (word (codes "a") ∷ symbol Equals ∷ word (codes "b") ∷ symbol Semicolon ∷ []) 4
unfolding begun extended from_ready
assignment = list_stops _ _ refl

-- a.b();
call_on : IsListStop (word (codes "a") ∷ symbol Dot ∷ word (codes "b") ∷ symbol OpenParen ∷ symbol CloseParen ∷ symbol Semicolon ∷ []) 6
unfolding begun extended from_ready
call_on = list_stops _ _ refl

-- a;
word_alone : IsListStop (word (codes "a") ∷ symbol Semicolon ∷ []) 1
unfolding begun extended from_ready
word_alone = list_stops _ _ refl

-- a.b;
field_alone : IsListStop (word (codes "a") ∷ symbol Dot ∷ word (codes "b") ∷ symbol Semicolon ∷ []) 3
unfolding begun extended from_ready
field_alone = list_stops _ _ refl

-- if(a)b c
local_behind_if : IsListStop (keyword If ∷ symbol OpenParen ∷ word (codes "a") ∷ symbol CloseParen ∷ word (codes "b") ∷ word (codes "c") ∷ []) 5
unfolding begun extended from_ready
local_behind_if = list_stops _ _ refl

-- if(a)int
int_behind_if : IsListStop (keyword If ∷ symbol OpenParen ∷ word (codes "a") ∷ symbol CloseParen ∷ keyword Int ∷ []) 4
unfolding begun extended from_ready
int_behind_if = list_stops _ _ refl

-- while(a)final
final_behind_while : IsListStop (keyword While ∷ symbol OpenParen ∷ word (codes "a") ∷ symbol CloseParen ∷ keyword Final ∷ []) 4
unfolding begun extended from_ready
final_behind_while = list_stops _ _ refl

-- if(a);else int
int_behind_else : IsListStop (keyword If ∷ symbol OpenParen ∷ word (codes "a") ∷ symbol CloseParen ∷ symbol Semicolon ∷ keyword Else ∷ keyword Int ∷ []) 6
unfolding begun extended from_ready
int_behind_else = list_stops _ _ refl

-- else
else_first : IsListStop (keyword Else ∷ []) 0
unfolding begun extended from_ready
else_first = list_stops _ _ refl

-- ;else
else_behind_nothing : IsListStop (symbol Semicolon ∷ keyword Else ∷ []) 1
unfolding begun extended from_ready
else_behind_nothing = list_stops _ _ refl

-- if(a);else;else
else_twice : IsListStop (keyword If ∷ symbol OpenParen ∷ word (codes "a") ∷ symbol CloseParen ∷ symbol Semicolon ∷ keyword Else ∷ symbol Semicolon ∷ keyword Else ∷ []) 7
unfolding begun extended from_ready
else_twice = list_stops _ _ refl

-- if(a)while(b);else;
else_through_while : IsListStop (keyword If ∷ symbol OpenParen ∷ word (codes "a") ∷ symbol CloseParen ∷ keyword While ∷ symbol OpenParen ∷ word (codes "b") ∷ symbol CloseParen ∷ symbol Semicolon ∷ keyword Else ∷ symbol Semicolon ∷ []) 11
unfolding begun extended from_ready
else_through_while = list_stops _ _ refl

-- while(a);else
else_behind_while : IsListStop (keyword While ∷ symbol OpenParen ∷ word (codes "a") ∷ symbol CloseParen ∷ symbol Semicolon ∷ keyword Else ∷ []) 5
unfolding begun extended from_ready
else_behind_while = list_stops _ _ refl

-- {;}}
brace_too_many : IsListStop (symbol OpenBrace ∷ symbol Semicolon ∷ symbol CloseBrace ∷ symbol CloseBrace ∷ []) 3
unfolding begun extended from_ready
brace_too_many = list_stops _ _ refl

-- }
brace_first : IsListStop (symbol CloseBrace ∷ []) 0
unfolding begun extended from_ready
brace_first = list_stops _ _ refl

-- if(a)}
brace_behind_if : IsListStop (keyword If ∷ symbol OpenParen ∷ word (codes "a") ∷ symbol CloseParen ∷ symbol CloseBrace ∷ []) 4
unfolding begun extended from_ready
brace_behind_if = list_stops _ _ refl

-- return a b
returned_value : IsListStop (keyword Return ∷ word (codes "a") ∷ word (codes "b") ∷ []) 2
unfolding begun extended from_ready
returned_value = list_stops _ _ refl

-- return)
return_close : IsListStop (keyword Return ∷ symbol CloseParen ∷ []) 1
unfolding begun extended from_ready
return_close = list_stops _ _ refl

-- synchronized(a);
lock_without_block : IsListStop (keyword Synchronized ∷ symbol OpenParen ∷ word (codes "a") ∷ symbol CloseParen ∷ symbol Semicolon ∷ []) 4
unfolding begun extended from_ready
lock_without_block = list_stops _ _ refl

-- synchronized(a){}
lock : IsListStop (keyword Synchronized ∷ symbol OpenParen ∷ word (codes "a") ∷ symbol CloseParen ∷ symbol OpenBrace ∷ symbol CloseBrace ∷ []) 6
unfolding begun extended from_ready
lock = list_stops _ _ refl

-- final int a=1;
final_local : IsListStop (keyword Final ∷ keyword Int ∷ word (codes "a") ∷ symbol Equals ∷ integer 1 ∷ symbol Semicolon ∷ []) 6
unfolding begun extended from_ready
final_local = list_stops _ _ refl

-- final;
final_alone : IsListStop (keyword Final ∷ symbol Semicolon ∷ []) 1
unfolding begun extended from_ready
final_alone = list_stops _ _ refl

-- final a.b.c
final_of_three_words : IsListStop (keyword Final ∷ word (codes "a") ∷ symbol Dot ∷ word (codes "b") ∷ symbol Dot ∷ word (codes "c") ∷ []) 4
unfolding begun extended from_ready
final_of_three_words = list_stops _ _ refl

-- final a.b c=1;
final_of_two_words : IsListStop (keyword Final ∷ word (codes "a") ∷ symbol Dot ∷ word (codes "b") ∷ word (codes "c") ∷ symbol Equals ∷ integer 1 ∷ symbol Semicolon ∷ []) 8
unfolding begun extended from_ready
final_of_two_words = list_stops _ _ refl

-- int a;
local_without_value : IsListStop (keyword Int ∷ word (codes "a") ∷ symbol Semicolon ∷ []) 2
unfolding begun extended from_ready
local_without_value = list_stops _ _ refl

-- int.
int_dot : IsListStop (keyword Int ∷ symbol Dot ∷ []) 1
unfolding begun extended from_ready
int_dot = list_stops _ _ refl

-- a b;
named_without_value : IsListStop (word (codes "a") ∷ word (codes "b") ∷ symbol Semicolon ∷ []) 2
unfolding begun extended from_ready
named_without_value = list_stops _ _ refl

-- a b.
local_dot : IsListStop (word (codes "a") ∷ word (codes "b") ∷ symbol Dot ∷ []) 2
unfolding begun extended from_ready
local_dot = list_stops _ _ refl

-- (a)b
cast : IsListStop (symbol OpenParen ∷ word (codes "a") ∷ symbol CloseParen ∷ word (codes "b") ∷ []) 3
unfolding begun extended from_ready
cast = list_stops _ _ refl

-- (a).b();
parentheses_called_on : IsListStop (symbol OpenParen ∷ word (codes "a") ∷ symbol CloseParen ∷ symbol Dot ∷ word (codes "b") ∷ symbol OpenParen ∷ symbol CloseParen ∷ symbol Semicolon ∷ []) 8
unfolding begun extended from_ready
parentheses_called_on = list_stops _ _ refl

-- a+
sum : IsListStop (word (codes "a") ∷ symbol PlusSign ∷ []) 1
unfolding begun extended from_ready
sum = list_stops _ _ refl

-- -a
sign : IsListStop (symbol MinusSign ∷ word (codes "a") ∷ []) 0
unfolding begun extended from_ready
sign = list_stops _ _ refl

-- ++a;
bump_in_front : IsListStop (symbol PlusPlus ∷ word (codes "a") ∷ symbol Semicolon ∷ []) 3
unfolding begun extended from_ready
bump_in_front = list_stops _ _ refl

-- a++;
bump_behind : IsListStop (word (codes "a") ∷ symbol PlusPlus ∷ symbol Semicolon ∷ []) 3
unfolding begun extended from_ready
bump_behind = list_stops _ _ refl

-- a++.
bump_dot : IsListStop (word (codes "a") ∷ symbol PlusPlus ∷ symbol Dot ∷ []) 2
unfolding begun extended from_ready
bump_dot = list_stops _ _ refl

-- a++b
bump_word : IsListStop (word (codes "a") ∷ symbol PlusPlus ∷ word (codes "b") ∷ []) 2
unfolding begun extended from_ready
bump_word = list_stops _ _ refl

-- super(
super_call : IsListStop (keyword Super ∷ symbol OpenParen ∷ []) 1
unfolding begun extended from_ready
super_call = list_stops _ _ refl

-- super.m();
super_method : IsListStop (keyword Super ∷ symbol Dot ∷ word (codes "m") ∷ symbol OpenParen ∷ symbol CloseParen ∷ symbol Semicolon ∷ []) 6
unfolding begun extended from_ready
super_method = list_stops _ _ refl

-- super.a b
super_as_type : IsListStop (keyword Super ∷ symbol Dot ∷ word (codes "a") ∷ word (codes "b") ∷ []) 3
unfolding begun extended from_ready
super_as_type = list_stops _ _ refl

-- this a
this_as_type : IsListStop (keyword This ∷ word (codes "a") ∷ []) 1
unfolding begun extended from_ready
this_as_type = list_stops _ _ refl

-- new A();
created : IsListStop (keyword New ∷ word (codes "A") ∷ symbol OpenParen ∷ symbol CloseParen ∷ symbol Semicolon ∷ []) 5
unfolding begun extended from_ready
created = list_stops _ _ refl

-- new A b
created_word : IsListStop (keyword New ∷ word (codes "A") ∷ word (codes "b") ∷ []) 2
unfolding begun extended from_ready
created_word = list_stops _ _ refl

-- a()b
call_word : IsListStop (word (codes "a") ∷ symbol OpenParen ∷ symbol CloseParen ∷ word (codes "b") ∷ []) 3
unfolding begun extended from_ready
call_word = list_stops _ _ refl

-- a.class;
class_literal : IsListStop (word (codes "a") ∷ symbol Dot ∷ keyword Class ∷ symbol Semicolon ∷ []) 3
unfolding begun extended from_ready
class_literal = list_stops _ _ refl

-- if a
if_without_parentheses : IsListStop (keyword If ∷ word (codes "a") ∷ []) 1
unfolding begun extended from_ready
if_without_parentheses = list_stops _ _ refl

-- if(a b
condition_of_two_words : IsListStop (keyword If ∷ symbol OpenParen ∷ word (codes "a") ∷ word (codes "b") ∷ []) 3
unfolding begun extended from_ready
condition_of_two_words = list_stops _ _ refl

-- if()
no_condition : IsListStop (keyword If ∷ symbol OpenParen ∷ symbol CloseParen ∷ []) 2
unfolding begun extended from_ready
no_condition = list_stops _ _ refl

-- ;;;
three_empty : IsListStop (symbol Semicolon ∷ symbol Semicolon ∷ symbol Semicolon ∷ []) 3
unfolding begun extended from_ready
three_empty = list_stops _ _ refl

-- a=b c
value_of_two_words : IsListStop (word (codes "a") ∷ symbol Equals ∷ word (codes "b") ∷ word (codes "c") ∷ []) 3
unfolding begun extended from_ready
value_of_two_words = list_stops _ _ refl

-- a[
array : IsListStop (word (codes "a") ∷ symbol OpenBracket ∷ []) 1
unfolding begun extended from_ready
array = list_stops _ _ refl

-- class
class_word : IsListStop (keyword Class ∷ []) 0
unfolding begun extended from_ready
class_word = list_stops _ _ refl

-- {else
else_in_block : IsListStop (symbol OpenBrace ∷ keyword Else ∷ []) 1
unfolding begun extended from_ready
else_in_block = list_stops _ _ refl

-- if(a){}else;
else_behind_block : IsListStop (keyword If ∷ symbol OpenParen ∷ word (codes "a") ∷ symbol CloseParen ∷ symbol OpenBrace ∷ symbol CloseBrace ∷ keyword Else ∷ symbol Semicolon ∷ []) 8
unfolding begun extended from_ready
else_behind_block = list_stops _ _ refl

-- if(a)if(b);else;else;
else_for_each : IsListStop (keyword If ∷ symbol OpenParen ∷ word (codes "a") ∷ symbol CloseParen ∷ keyword If ∷ symbol OpenParen ∷ word (codes "b") ∷ symbol CloseParen ∷ symbol Semicolon ∷ keyword Else ∷ symbol Semicolon ∷ keyword Else ∷ symbol Semicolon ∷ []) 13
unfolding begun extended from_ready
else_for_each = list_stops _ _ refl

-- if(a)if(b);else;else;else
else_too_many : IsListStop (keyword If ∷ symbol OpenParen ∷ word (codes "a") ∷ symbol CloseParen ∷ keyword If ∷ symbol OpenParen ∷ word (codes "b") ∷ symbol CloseParen ∷ symbol Semicolon ∷ keyword Else ∷ symbol Semicolon ∷ keyword Else ∷ symbol Semicolon ∷ keyword Else ∷ []) 13
unfolding begun extended from_ready
else_too_many = list_stops _ _ refl

-- public
modifier : IsListStop (keyword Public ∷ []) 0
unfolding begun extended from_ready
modifier = list_stops _ _ refl

-- a,
comma : IsListStop (word (codes "a") ∷ symbol Comma ∷ []) 1
unfolding begun extended from_ready
comma = list_stops _ _ refl

-- {while(a){b();}}
while_in_block : IsListStop (symbol OpenBrace ∷ keyword While ∷ symbol OpenParen ∷ word (codes "a") ∷ symbol CloseParen ∷ symbol OpenBrace ∷ word (codes "b") ∷ symbol OpenParen ∷ symbol CloseParen ∷ symbol Semicolon ∷ symbol CloseBrace ∷ symbol CloseBrace ∷ []) 12
unfolding begun extended from_ready
while_in_block = list_stops _ _ refl
