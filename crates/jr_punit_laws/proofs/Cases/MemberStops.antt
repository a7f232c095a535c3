-- Members of the class C, which is a member class (`true`) or a top-level one (`false`): where reading stops, and the longest
-- member that the tokens begin with.
use Rattle.std.proofs.Common.{true, false, [], ◌∷◌, refl}
use Rattle.std.specs.Prelude.{codes}
use Rattle.jr_lex.specs.declared.items.Keyword.TheVariants.{Class, Else, Extends, Final, If, Int, Public, Static, Super, Synchronized, Void}
use Rattle.jr_lex.specs.declared.items.Symbol.TheVariants.{CloseBrace, CloseParen, Comma, Dot, Equals, OpenBrace, OpenParen, Semicolon}
use Rattle.jr_grammar.specs.Tokens.{word, keyword, symbol, integer}
use Rattle.jr_grammar.specs.Units.{IsMemberStop, HasNoMember}
use Rattle.jr_pexpr.specs.Machine.{begun, extended}
use Rattle.jr_pstmt.specs.StatementMachine.{from_ready}
use Rattle.jr_punit_laws.proofs.Cases.Forms.{IsMemberLength, member_stops, member_found, no_member}

-- C(){}
constructor : IsMemberStop true (codes "C") (word (codes "C") ∷ symbol OpenParen ∷ symbol CloseParen ∷ symbol OpenBrace ∷ symbol CloseBrace ∷ []) 5
unfolding begun extended from_ready
constructor = member_stops true (codes "C") _ _ refl

constructor_is_longest : IsMemberLength true (codes "C") (word (codes "C") ∷ symbol OpenParen ∷ symbol CloseParen ∷ symbol OpenBrace ∷ symbol CloseBrace ∷ []) 5
unfolding begun extended from_ready
constructor_is_longest = member_found true (codes "C") _ _ refl

-- D(){}
other_constructor : IsMemberStop true (codes "C") (word (codes "D") ∷ symbol OpenParen ∷ symbol CloseParen ∷ symbol OpenBrace ∷ symbol CloseBrace ∷ []) 1
unfolding begun extended from_ready
other_constructor = member_stops true (codes "C") _ _ refl

other_constructor_is_none : HasNoMember true (codes "C") (word (codes "D") ∷ symbol OpenParen ∷ symbol CloseParen ∷ symbol OpenBrace ∷ symbol CloseBrace ∷ [])
unfolding begun extended from_ready
other_constructor_is_none = no_member true (codes "C") _ refl

-- C D(){}
method_of_own_type : IsMemberStop true (codes "C") (word (codes "C") ∷ word (codes "D") ∷ symbol OpenParen ∷ symbol CloseParen ∷ symbol OpenBrace ∷ symbol CloseBrace ∷ []) 6
unfolding begun extended from_ready
method_of_own_type = member_stops true (codes "C") _ _ refl

method_of_own_type_is_longest : IsMemberLength true (codes "C") (word (codes "C") ∷ word (codes "D") ∷ symbol OpenParen ∷ symbol CloseParen ∷ symbol OpenBrace ∷ symbol CloseBrace ∷ []) 6
unfolding begun extended from_ready
method_of_own_type_is_longest = member_found true (codes "C") _ _ refl

-- C.D e;
field_of_member_class : IsMemberStop true (codes "C") (word (codes "C") ∷ symbol Dot ∷ word (codes "D") ∷ word (codes "e") ∷ symbol Semicolon ∷ []) 5
unfolding begun extended from_ready
field_of_member_class = member_stops true (codes "C") _ _ refl

field_of_member_class_is_longest : IsMemberLength true (codes "C") (word (codes "C") ∷ symbol Dot ∷ word (codes "D") ∷ word (codes "e") ∷ symbol Semicolon ∷ []) 5
unfolding begun extended from_ready
field_of_member_class_is_longest = member_found true (codes "C") _ _ refl

-- C.D(
member_class_called : IsMemberStop true (codes "C") (word (codes "C") ∷ symbol Dot ∷ word (codes "D") ∷ symbol OpenParen ∷ []) 3
unfolding begun extended from_ready
member_class_called = member_stops true (codes "C") _ _ refl

member_class_called_is_none : HasNoMember true (codes "C") (word (codes "C") ∷ symbol Dot ∷ word (codes "D") ∷ symbol OpenParen ∷ [])
unfolding begun extended from_ready
member_class_called_is_none = no_member true (codes "C") _ refl

-- void C(){}
method_named_as_class : IsMemberStop true (codes "C") (keyword Void ∷ word (codes "C") ∷ symbol OpenParen ∷ symbol CloseParen ∷ symbol OpenBrace ∷ symbol CloseBrace ∷ []) 6
unfolding begun extended from_ready
method_named_as_class = member_stops true (codes "C") _ _ refl

method_named_as_class_is_longest : IsMemberLength true (codes "C") (keyword Void ∷ word (codes "C") ∷ symbol OpenParen ∷ symbol CloseParen ∷ symbol OpenBrace ∷ symbol CloseBrace ∷ []) 6
unfolding begun extended from_ready
method_named_as_class_is_longest = member_found true (codes "C") _ _ refl

-- void a;
void_field : IsMemberStop true (codes "C") (keyword Void ∷ word (codes "a") ∷ symbol Semicolon ∷ []) 2
unfolding begun extended from_ready
void_field = member_stops true (codes "C") _ _ refl

void_field_is_none : HasNoMember true (codes "C") (keyword Void ∷ word (codes "a") ∷ symbol Semicolon ∷ [])
unfolding begun extended from_ready
void_field_is_none = no_member true (codes "C") _ refl

-- void a=
void_value : IsMemberStop true (codes "C") (keyword Void ∷ word (codes "a") ∷ symbol Equals ∷ []) 2
unfolding begun extended from_ready
void_value = member_stops true (codes "C") _ _ refl

void_value_is_none : HasNoMember true (codes "C") (keyword Void ∷ word (codes "a") ∷ symbol Equals ∷ [])
unfolding begun extended from_ready
void_value_is_none = no_member true (codes "C") _ refl

-- int a;
field : IsMemberStop true (codes "C") (keyword Int ∷ word (codes "a") ∷ symbol Semicolon ∷ []) 3
unfolding begun extended from_ready
field = member_stops true (codes "C") _ _ refl

field_is_longest : IsMemberLength true (codes "C") (keyword Int ∷ word (codes "a") ∷ symbol Semicolon ∷ []) 3
unfolding begun extended from_ready
field_is_longest = member_found true (codes "C") _ _ refl

-- int a=1;
field_with_value : IsMemberStop true (codes "C") (keyword Int ∷ word (codes "a") ∷ symbol Equals ∷ integer 1 ∷ symbol Semicolon ∷ []) 5
unfolding begun extended from_ready
field_with_value = member_stops true (codes "C") _ _ refl

field_with_value_is_longest : IsMemberLength true (codes "C") (keyword Int ∷ word (codes "a") ∷ symbol Equals ∷ integer 1 ∷ symbol Semicolon ∷ []) 5
unfolding begun extended from_ready
field_with_value_is_longest = member_found true (codes "C") _ _ refl

-- int a=1,
two_fields : IsMemberStop true (codes "C") (keyword Int ∷ word (codes "a") ∷ symbol Equals ∷ integer 1 ∷ symbol Comma ∷ []) 4
unfolding begun extended from_ready
two_fields = member_stops true (codes "C") _ _ refl

two_fields_is_none : HasNoMember true (codes "C") (keyword Int ∷ word (codes "a") ∷ symbol Equals ∷ integer 1 ∷ symbol Comma ∷ [])
unfolding begun extended from_ready
two_fields_is_none = no_member true (codes "C") _ refl

-- int(
int_called : IsMemberStop true (codes "C") (keyword Int ∷ symbol OpenParen ∷ []) 1
unfolding begun extended from_ready
int_called = member_stops true (codes "C") _ _ refl

int_called_is_none : HasNoMember true (codes "C") (keyword Int ∷ symbol OpenParen ∷ [])
unfolding begun extended from_ready
int_called_is_none = no_member true (codes "C") _ refl

-- int a b
field_of_two_words : IsMemberStop true (codes "C") (keyword Int ∷ word (codes "a") ∷ word (codes "b") ∷ []) 2
unfolding begun extended from_ready
field_of_two_words = member_stops true (codes "C") _ _ refl

field_of_two_words_is_none : HasNoMember true (codes "C") (keyword Int ∷ word (codes "a") ∷ word (codes "b") ∷ [])
unfolding begun extended from_ready
field_of_two_words_is_none = no_member true (codes "C") _ refl

-- public;
modifier_alone : IsMemberStop true (codes "C") (keyword Public ∷ symbol Semicolon ∷ []) 1
unfolding begun extended from_ready
modifier_alone = member_stops true (codes "C") _ _ refl

modifier_alone_is_none : HasNoMember true (codes "C") (keyword Public ∷ symbol Semicolon ∷ [])
unfolding begun extended from_ready
modifier_alone_is_none = no_member true (codes "C") _ refl

-- final synchronized int a;
modifiers : IsMemberStop true (codes "C") (keyword Final ∷ keyword Synchronized ∷ keyword Int ∷ word (codes "a") ∷ symbol Semicolon ∷ []) 5
unfolding begun extended from_ready
modifiers = member_stops true (codes "C") _ _ refl

modifiers_is_longest : IsMemberLength true (codes "C") (keyword Final ∷ keyword Synchronized ∷ keyword Int ∷ word (codes "a") ∷ symbol Semicolon ∷ []) 5
unfolding begun extended from_ready
modifiers_is_longest = member_found true (codes "C") _ _ refl

-- class D{}
class_in_member_class : IsMemberStop true (codes "C") (keyword Class ∷ word (codes "D") ∷ symbol OpenBrace ∷ symbol CloseBrace ∷ []) 0
unfolding begun extended from_ready
class_in_member_class = member_stops true (codes "C") _ _ refl

class_in_member_class_is_none : HasNoMember true (codes "C") (keyword Class ∷ word (codes "D") ∷ symbol OpenBrace ∷ symbol CloseBrace ∷ [])
unfolding begun extended from_ready
class_in_member_class_is_none = no_member true (codes "C") _ refl

-- class D{}
class : IsMemberStop false (codes "C") (keyword Class ∷ word (codes "D") ∷ symbol OpenBrace ∷ symbol CloseBrace ∷ []) 4
unfolding begun extended from_ready
class = member_stops false (codes "C") _ _ refl

class_is_longest : IsMemberLength false (codes "C") (keyword Class ∷ word (codes "D") ∷ symbol OpenBrace ∷ symbol CloseBrace ∷ []) 4
unfolding begun extended from_ready
class_is_longest = member_found false (codes "C") _ _ refl

-- static class D{class
class_three_deep : IsMemberStop false (codes "C") (keyword Static ∷ keyword Class ∷ word (codes "D") ∷ symbol OpenBrace ∷ keyword Class ∷ []) 4
unfolding begun extended from_ready
class_three_deep = member_stops false (codes "C") _ _ refl

class_three_deep_is_none : HasNoMember false (codes "C") (keyword Static ∷ keyword Class ∷ word (codes "D") ∷ symbol OpenBrace ∷ keyword Class ∷ [])
unfolding begun extended from_ready
class_three_deep_is_none = no_member false (codes "C") _ refl

-- class D{C(
constructor_of_outer_name : IsMemberStop false (codes "C") (keyword Class ∷ word (codes "D") ∷ symbol OpenBrace ∷ word (codes "C") ∷ symbol OpenParen ∷ []) 4
unfolding begun extended from_ready
constructor_of_outer_name = member_stops false (codes "C") _ _ refl

constructor_of_outer_name_is_none : HasNoMember false (codes "C") (keyword Class ∷ word (codes "D") ∷ symbol OpenBrace ∷ word (codes "C") ∷ symbol OpenParen ∷ [])
unfolding begun extended from_ready
constructor_of_outer_name_is_none = no_member false (codes "C") _ refl

-- class D{D(){}}
constructor_of_inner_name : IsMemberStop false (codes "C") (keyword Class ∷ word (codes "D") ∷ symbol OpenBrace ∷ word (codes "D") ∷ symbol OpenParen ∷ symbol CloseParen ∷ symbol OpenBrace ∷ symbol CloseBrace ∷ symbol CloseBrace ∷ []) 9
unfolding begun extended from_ready
constructor_of_inner_name = member_stops false (codes "C") _ _ refl

constructor_of_inner_name_is_longest : IsMemberLength false (codes "C") (keyword Class ∷ word (codes "D") ∷ symbol OpenBrace ∷ word (codes "D") ∷ symbol OpenParen ∷ symbol CloseParen ∷ symbol OpenBrace ∷ symbol CloseBrace ∷ symbol CloseBrace ∷ []) 9
unfolding begun extended from_ready
constructor_of_inner_name_is_longest = member_found false (codes "C") _ _ refl

-- C(){super();super(
super_twice : IsMemberStop true (codes "C") (word (codes "C") ∷ symbol OpenParen ∷ symbol CloseParen ∷ symbol OpenBrace ∷ keyword Super ∷ symbol OpenParen ∷ symbol CloseParen ∷ symbol Semicolon ∷ keyword Super ∷ symbol OpenParen ∷ []) 9
unfolding begun extended from_ready
super_twice = member_stops true (codes "C") _ _ refl

super_twice_is_none : HasNoMember true (codes "C") (word (codes "C") ∷ symbol OpenParen ∷ symbol CloseParen ∷ symbol OpenBrace ∷ keyword Super ∷ symbol OpenParen ∷ symbol CloseParen ∷ symbol Semicolon ∷ keyword Super ∷ symbol OpenParen ∷ [])
unfolding begun extended from_ready
super_twice_is_none = no_member true (codes "C") _ refl

-- C(){super.m();}
super_method_first : IsMemberStop true (codes "C") (word (codes "C") ∷ symbol OpenParen ∷ symbol CloseParen ∷ symbol OpenBrace ∷ keyword Super ∷ symbol Dot ∷ word (codes "m") ∷ symbol OpenParen ∷ symbol CloseParen ∷ symbol Semicolon ∷ symbol CloseBrace ∷ []) 11
unfolding begun extended from_ready
super_method_first = member_stops true (codes "C") _ _ refl

super_method_first_is_longest : IsMemberLength true (codes "C") (word (codes "C") ∷ symbol OpenParen ∷ symbol CloseParen ∷ symbol OpenBrace ∷ keyword Super ∷ symbol Dot ∷ word (codes "m") ∷ symbol OpenParen ∷ symbol CloseParen ∷ symbol Semicolon ∷ symbol CloseBrace ∷ []) 11
unfolding begun extended from_ready
super_method_first_is_longest = member_found true (codes "C") _ _ refl

-- void m(){super(
super_in_method : IsMemberStop true (codes "C") (keyword Void ∷ word (codes "m") ∷ symbol OpenParen ∷ symbol CloseParen ∷ symbol OpenBrace ∷ keyword Super ∷ symbol OpenParen ∷ []) 6
unfolding begun extended from_ready
super_in_method = member_stops true (codes "C") _ _ refl

super_in_method_is_none : HasNoMember true (codes "C") (keyword Void ∷ word (codes "m") ∷ symbol OpenParen ∷ symbol CloseParen ∷ symbol OpenBrace ∷ keyword Super ∷ symbol OpenParen ∷ [])
unfolding begun extended from_ready
super_in_method_is_none = no_member true (codes "C") _ refl

-- C(){super(a,b);}
super_with_two : IsMemberStop true (codes "C") (word (codes "C") ∷ symbol OpenParen ∷ symbol CloseParen ∷ symbol OpenBrace ∷ keyword Super ∷ symbol OpenParen ∷ word (codes "a") ∷ symbol Comma ∷ word (codes "b") ∷ symbol CloseParen ∷ symbol Semicolon ∷ symbol CloseBrace ∷ []) 12
unfolding begun extended from_ready
super_with_two = member_stops true (codes "C") _ _ refl

super_with_two_is_longest : IsMemberLength true (codes "C") (word (codes "C") ∷ symbol OpenParen ∷ symbol CloseParen ∷ symbol OpenBrace ∷ keyword Super ∷ symbol OpenParen ∷ word (codes "a") ∷ symbol Comma ∷ word (codes "b") ∷ symbol CloseParen ∷ symbol Semicolon ∷ symbol CloseBrace ∷ []) 12
unfolding begun extended from_ready
super_with_two_is_longest = member_found true (codes "C") _ _ refl

-- C(){super(a,)
super_with_comma : IsMemberStop true (codes "C") (word (codes "C") ∷ symbol OpenParen ∷ symbol CloseParen ∷ symbol OpenBrace ∷ keyword Super ∷ symbol OpenParen ∷ word (codes "a") ∷ symbol Comma ∷ symbol CloseParen ∷ []) 8
unfolding begun extended from_ready
super_with_comma = member_stops true (codes "C") _ _ refl

super_with_comma_is_none : HasNoMember true (codes "C") (word (codes "C") ∷ symbol OpenParen ∷ symbol CloseParen ∷ symbol OpenBrace ∷ keyword Super ∷ symbol OpenParen ∷ word (codes "a") ∷ symbol Comma ∷ symbol CloseParen ∷ [])
unfolding begun extended from_ready
super_with_comma_is_none = no_member true (codes "C") _ refl

-- C(){super().
super_dot : IsMemberStop true (codes "C") (word (codes "C") ∷ symbol OpenParen ∷ symbol CloseParen ∷ symbol OpenBrace ∷ keyword Super ∷ symbol OpenParen ∷ symbol CloseParen ∷ symbol Dot ∷ []) 7
unfolding begun extended from_ready
super_dot = member_stops true (codes "C") _ _ refl

super_dot_is_none : HasNoMember true (codes "C") (word (codes "C") ∷ symbol OpenParen ∷ symbol CloseParen ∷ symbol OpenBrace ∷ keyword Super ∷ symbol OpenParen ∷ symbol CloseParen ∷ symbol Dot ∷ [])
unfolding begun extended from_ready
super_dot_is_none = no_member true (codes "C") _ refl

-- C(){super;
super_alone : IsMemberStop true (codes "C") (word (codes "C") ∷ symbol OpenParen ∷ symbol CloseParen ∷ symbol OpenBrace ∷ keyword Super ∷ symbol Semicolon ∷ []) 5
unfolding begun extended from_ready
super_alone = member_stops true (codes "C") _ _ refl

super_alone_is_none : HasNoMember true (codes "C") (word (codes "C") ∷ symbol OpenParen ∷ symbol CloseParen ∷ symbol OpenBrace ∷ keyword Super ∷ symbol Semicolon ∷ [])
unfolding begun extended from_ready
super_alone_is_none = no_member true (codes "C") _ refl

-- C(){super()}
super_without_semicolon : IsMemberStop true (codes "C") (word (codes "C") ∷ symbol OpenParen ∷ symbol CloseParen ∷ symbol OpenBrace ∷ keyword Super ∷ symbol OpenParen ∷ symbol CloseParen ∷ symbol CloseBrace ∷ []) 7
unfolding begun extended from_ready
super_without_semicolon = member_stops true (codes "C") _ _ refl

super_without_semicolon_is_none : HasNoMember true (codes "C") (word (codes "C") ∷ symbol OpenParen ∷ symbol CloseParen ∷ symbol OpenBrace ∷ keyword Super ∷ symbol OpenParen ∷ symbol CloseParen ∷ symbol CloseBrace ∷ [])
unfolding begun extended from_ready
super_without_semicolon_is_none = no_member true (codes "C") _ refl

-- C();
constructor_without_body : IsMemberStop true (codes "C") (word (codes "C") ∷ symbol OpenParen ∷ symbol CloseParen ∷ symbol Semicolon ∷ []) 3
unfolding begun extended from_ready
constructor_without_body = member_stops true (codes "C") _ _ refl

constructor_without_body_is_none : HasNoMember true (codes "C") (word (codes "C") ∷ symbol OpenParen ∷ symbol CloseParen ∷ symbol Semicolon ∷ [])
unfolding begun extended from_ready
constructor_without_body_is_none = no_member true (codes "C") _ refl

-- C(int a,)
parameter_missing : IsMemberStop true (codes "C") (word (codes "C") ∷ symbol OpenParen ∷ keyword Int ∷ word (codes "a") ∷ symbol Comma ∷ symbol CloseParen ∷ []) 5
unfolding begun extended from_ready
parameter_missing = member_stops true (codes "C") _ _ refl

parameter_missing_is_none : HasNoMember true (codes "C") (word (codes "C") ∷ symbol OpenParen ∷ keyword Int ∷ word (codes "a") ∷ symbol Comma ∷ symbol CloseParen ∷ [])
unfolding begun extended from_ready
parameter_missing_is_none = no_member true (codes "C") _ refl

-- C(final int a,final D.E b){}
parameters : IsMemberStop true (codes "C") (word (codes "C") ∷ symbol OpenParen ∷ keyword Final ∷ keyword Int ∷ word (codes "a") ∷ symbol Comma ∷ keyword Final ∷ word (codes "D") ∷ symbol Dot ∷ word (codes "E") ∷ word (codes "b") ∷ symbol CloseParen ∷ symbol OpenBrace ∷ symbol CloseBrace ∷ []) 14
unfolding begun extended from_ready
parameters = member_stops true (codes "C") _ _ refl

parameters_is_longest : IsMemberLength true (codes "C") (word (codes "C") ∷ symbol OpenParen ∷ keyword Final ∷ keyword Int ∷ word (codes "a") ∷ symbol Comma ∷ keyword Final ∷ word (codes "D") ∷ symbol Dot ∷ word (codes "E") ∷ word (codes "b") ∷ symbol CloseParen ∷ symbol OpenBrace ∷ symbol CloseBrace ∷ []) 14
unfolding begun extended from_ready
parameters_is_longest = member_found true (codes "C") _ _ refl

-- C(int)
parameter_without_word : IsMemberStop true (codes "C") (word (codes "C") ∷ symbol OpenParen ∷ keyword Int ∷ symbol CloseParen ∷ []) 3
unfolding begun extended from_ready
parameter_without_word = member_stops true (codes "C") _ _ refl

parameter_without_word_is_none : HasNoMember true (codes "C") (word (codes "C") ∷ symbol OpenParen ∷ keyword Int ∷ symbol CloseParen ∷ [])
unfolding begun extended from_ready
parameter_without_word_is_none = no_member true (codes "C") _ refl

-- C(a)
parameter_without_type : IsMemberStop true (codes "C") (word (codes "C") ∷ symbol OpenParen ∷ word (codes "a") ∷ symbol CloseParen ∷ []) 3
unfolding begun extended from_ready
parameter_without_type = member_stops true (codes "C") _ _ refl

parameter_without_type_is_none : HasNoMember true (codes "C") (word (codes "C") ∷ symbol OpenParen ∷ word (codes "a") ∷ symbol CloseParen ∷ [])
unfolding begun extended from_ready
parameter_without_type_is_none = no_member true (codes "C") _ refl

-- C(public
parameter_public : IsMemberStop true (codes "C") (word (codes "C") ∷ symbol OpenParen ∷ keyword Public ∷ []) 2
unfolding begun extended from_ready
parameter_public = member_stops true (codes "C") _ _ refl

parameter_public_is_none : HasNoMember true (codes "C") (word (codes "C") ∷ symbol OpenParen ∷ keyword Public ∷ [])
unfolding begun extended from_ready
parameter_public_is_none = no_member true (codes "C") _ refl

-- ;
semicolon : IsMemberStop true (codes "C") (symbol Semicolon ∷ []) 0
unfolding begun extended from_ready
semicolon = member_stops true (codes "C") _ _ refl

semicolon_is_none : HasNoMember true (codes "C") (symbol Semicolon ∷ [])
unfolding begun extended from_ready
semicolon_is_none = no_member true (codes "C") _ refl

-- }
brace : IsMemberStop true (codes "C") (symbol CloseBrace ∷ []) 0
unfolding begun extended from_ready
brace = member_stops true (codes "C") _ _ refl

brace_is_none : HasNoMember true (codes "C") (symbol CloseBrace ∷ [])
unfolding begun extended from_ready
brace_is_none = no_member true (codes "C") _ refl

-- int a;int
next_member : IsMemberStop true (codes "C") (keyword Int ∷ word (codes "a") ∷ symbol Semicolon ∷ keyword Int ∷ []) 3
unfolding begun extended from_ready
next_member = member_stops true (codes "C") _ _ refl

next_member_is_longest : IsMemberLength true (codes "C") (keyword Int ∷ word (codes "a") ∷ symbol Semicolon ∷ keyword Int ∷ []) 3
unfolding begun extended from_ready
next_member_is_longest = member_found true (codes "C") _ _ refl

-- void m(){a();
method_open : IsMemberStop true (codes "C") (keyword Void ∷ word (codes "m") ∷ symbol OpenParen ∷ symbol CloseParen ∷ symbol OpenBrace ∷ word (codes "a") ∷ symbol OpenParen ∷ symbol CloseParen ∷ symbol Semicolon ∷ []) 9
unfolding begun extended from_ready
method_open = member_stops true (codes "C") _ _ refl

method_open_is_none : HasNoMember true (codes "C") (keyword Void ∷ word (codes "m") ∷ symbol OpenParen ∷ symbol CloseParen ∷ symbol OpenBrace ∷ word (codes "a") ∷ symbol OpenParen ∷ symbol CloseParen ∷ symbol Semicolon ∷ [])
unfolding begun extended from_ready
method_open_is_none = no_member true (codes "C") _ refl

-- void m(){if(a)b();}}
method_closed : IsMemberStop true (codes "C") (keyword Void ∷ word (codes "m") ∷ symbol OpenParen ∷ symbol CloseParen ∷ symbol OpenBrace ∷ keyword If ∷ symbol OpenParen ∷ word (codes "a") ∷ symbol CloseParen ∷ word (codes "b") ∷ symbol OpenParen ∷ symbol CloseParen ∷ symbol Semicolon ∷ symbol CloseBrace ∷ symbol CloseBrace ∷ []) 14
unfolding begun extended from_ready
method_closed = member_stops true (codes "C") _ _ refl

method_closed_is_longest : IsMemberLength true (codes "C") (keyword Void ∷ word (codes "m") ∷ symbol OpenParen ∷ symbol CloseParen ∷ symbol OpenBrace ∷ keyword If ∷ symbol OpenParen ∷ word (codes "a") ∷ symbol CloseParen ∷ word (codes "b") ∷ symbol OpenParen ∷ symbol CloseParen ∷ symbol Semicolon ∷ symbol CloseBrace ∷ symbol CloseBrace ∷ []) 14
unfolding begun extended from_ready
method_closed_is_longest = member_found true (codes "C") _ _ refl

-- void m(){if(a);}else
method_else : IsMemberStop true (codes "C") (keyword Void ∷ word (codes "m") ∷ symbol OpenParen ∷ symbol CloseParen ∷ symbol OpenBrace ∷ keyword If ∷ symbol OpenParen ∷ word (codes "a") ∷ symbol CloseParen ∷ symbol Semicolon ∷ symbol CloseBrace ∷ keyword Else ∷ []) 11
unfolding begun extended from_ready
method_else = member_stops true (codes "C") _ _ refl

method_else_is_longest : IsMemberLength true (codes "C") (keyword Void ∷ word (codes "m") ∷ symbol OpenParen ∷ symbol CloseParen ∷ symbol OpenBrace ∷ keyword If ∷ symbol OpenParen ∷ word (codes "a") ∷ symbol CloseParen ∷ symbol Semicolon ∷ symbol CloseBrace ∷ keyword Else ∷ []) 11
unfolding begun extended from_ready
method_else_is_longest = member_found true (codes "C") _ _ refl

-- class D{public}
inner_modifier : IsMemberStop false (codes "C") (keyword Class ∷ word (codes "D") ∷ symbol OpenBrace ∷ keyword Public ∷ symbol CloseBrace ∷ []) 4
unfolding begun extended from_ready
inner_modifier = member_stops false (codes "C") _ _ refl

inner_modifier_is_none : HasNoMember false (codes "C") (keyword Class ∷ word (codes "D") ∷ symbol OpenBrace ∷ keyword Public ∷ symbol CloseBrace ∷ [])
unfolding begun extended from_ready
inner_modifier_is_none = no_member false (codes "C") _ refl

-- class D extends E.F{}
inner_extends : IsMemberStop false (codes "C") (keyword Class ∷ word (codes "D") ∷ keyword Extends ∷ word (codes "E") ∷ symbol Dot ∷ word (codes "F") ∷ symbol OpenBrace ∷ symbol CloseBrace ∷ []) 8
unfolding begun extended from_ready
inner_extends = member_stops false (codes "C") _ _ refl

inner_extends_is_longest : IsMemberLength false (codes "C") (keyword Class ∷ word (codes "D") ∷ keyword Extends ∷ word (codes "E") ∷ symbol Dot ∷ word (codes "F") ∷ symbol OpenBrace ∷ symbol CloseBrace ∷ []) 8
unfolding begun extended from_ready
inner_extends_is_longest = member_found false (codes "C") _ _ refl

-- class D extends int
inner_extends_int : IsMemberStop false (codes "C") (keyword Class ∷ word (codes "D") ∷ keyword Extends ∷ keyword Int ∷ []) 3
unfolding begun extended from_ready
inner_extends_int = member_stops false (codes "C") _ _ refl

inner_extends_int_is_none : HasNoMember false (codes "C") (keyword Class ∷ word (codes "D") ∷ keyword Extends ∷ keyword Int ∷ [])
unfolding begun extended from_ready
inner_extends_int_is_none = no_member false (codes "C") _ refl

-- int class
class_word_behind_type : IsMemberStop false (codes "C") (keyword Int ∷ keyword Class ∷ []) 1
unfolding begun extended from_ready
class_word_behind_type = member_stops false (codes "C") _ _ refl

class_word_behind_type_is_none : HasNoMember false (codes "C") (keyword Int ∷ keyword Class ∷ [])
unfolding begun extended from_ready
class_word_behind_type_is_none = no_member false (codes "C") _ refl

-- void void
two_types : IsMemberStop true (codes "C") (keyword Void ∷ keyword Void ∷ []) 1
unfolding begun extended from_ready
two_types = member_stops true (codes "C") _ _ refl

two_types_is_none : HasNoMember true (codes "C") (keyword Void ∷ keyword Void ∷ [])
unfolding begun extended from_ready
two_types_is_none = no_member true (codes "C") _ refl

-- void(
void_open : IsMemberStop true (codes "C") (keyword Void ∷ symbol OpenParen ∷ []) 1
unfolding begun extended from_ready
void_open = member_stops true (codes "C") _ _ refl

void_open_is_none : HasNoMember true (codes "C") (keyword Void ∷ symbol OpenParen ∷ [])
unfolding begun extended from_ready
void_open_is_none = no_member true (codes "C") _ refl

-- int m(){a b=c;}
local_in_body : IsMemberStop true (codes "C") (keyword Int ∷ word (codes "m") ∷ symbol OpenParen ∷ symbol CloseParen ∷ symbol OpenBrace ∷ word (codes "a") ∷ word (codes "b") ∷ symbol Equals ∷ word (codes "c") ∷ symbol Semicolon ∷ symbol CloseBrace ∷ []) 11
unfolding begun extended from_ready
local_in_body = member_stops true (codes "C") _ _ refl

local_in_body_is_longest : IsMemberLength true (codes "C") (keyword Int ∷ word (codes "m") ∷ symbol OpenParen ∷ symbol CloseParen ∷ symbol OpenBrace ∷ word (codes "a") ∷ word (codes "b") ∷ symbol Equals ∷ word (codes "c") ∷ symbol Semicolon ∷ symbol CloseBrace ∷ []) 11
unfolding begun extended from_ready
local_in_body_is_longest = member_found true (codes "C") _ _ refl

-- int m(){if(a)b c
declared_behind_if : IsMemberStop true (codes "C") (keyword Int ∷ word (codes "m") ∷ symbol OpenParen ∷ symbol CloseParen ∷ symbol OpenBrace ∷ keyword If ∷ symbol OpenParen ∷ word (codes "a") ∷ symbol CloseParen ∷ word (codes "b") ∷ word (codes "c") ∷ []) 10
unfolding begun extended from_ready
declared_behind_if = member_stops true (codes "C") _ _ refl

declared_behind_if_is_none : HasNoMember true (codes "C") (keyword Int ∷ word (codes "m") ∷ symbol OpenParen ∷ symbol CloseParen ∷ symbol OpenBrace ∷ keyword If ∷ symbol OpenParen ∷ word (codes "a") ∷ symbol CloseParen ∷ word (codes "b") ∷ word (codes "c") ∷ [])
unfolding begun extended from_ready
declared_behind_if_is_none = no_member true (codes "C") _ refl
