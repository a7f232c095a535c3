-- Tokens that are no compilation unit.
use Rattle.std.proofs.Common.{[], ◌∷◌, refl}
use Rattle.std.specs.Prelude.{codes}
use Rattle.jr_lex.specs.declared.items.Keyword.TheVariants.{Class, Extends, Int, Package, Super, Void}
use Rattle.jr_lex.specs.declared.items.Symbol.TheVariants.{CloseBrace, CloseParen, Equals, OpenBrace, OpenParen, Plus as PlusSign, PlusPlus, Semicolon}
use Rattle.jr_grammar.specs.Tokens.{word, keyword, symbol}
use Rattle.jr_grammar.specs.Units.{IsNoUnit}
use Rattle.jr_pexpr.specs.Machine.{begun, extended}
use Rattle.jr_pstmt.specs.StatementMachine.{from_ready}
use Rattle.jr_punit_laws.proofs.Cases.Forms.{no_unit}

-- class A{class B{class C{}}}
-- javac takes it; a class inside a class holds no class
class_in_member_class : IsNoUnit (keyword Class ∷ word (codes "A") ∷ symbol OpenBrace ∷ keyword Class ∷ word (codes "B") ∷ symbol OpenBrace ∷ keyword Class ∷ word (codes "C") ∷ symbol OpenBrace ∷ symbol CloseBrace ∷ symbol CloseBrace ∷ symbol CloseBrace ∷ [])
unfolding begun extended from_ready
class_in_member_class = no_unit _ refl

-- class A{B(){}}
-- javac refuses it too: invalid method declaration; return type required
constructor_of_another_name : IsNoUnit (keyword Class ∷ word (codes "A") ∷ symbol OpenBrace ∷ word (codes "B") ∷ symbol OpenParen ∷ symbol CloseParen ∷ symbol OpenBrace ∷ symbol CloseBrace ∷ symbol CloseBrace ∷ [])
unfolding begun extended from_ready
constructor_of_another_name = no_unit _ refl

-- class A{class B{A(){}}}
-- javac refuses it too: invalid method declaration; return type required
constructor_of_the_outer_name : IsNoUnit (keyword Class ∷ word (codes "A") ∷ symbol OpenBrace ∷ keyword Class ∷ word (codes "B") ∷ symbol OpenBrace ∷ word (codes "A") ∷ symbol OpenParen ∷ symbol CloseParen ∷ symbol OpenBrace ∷ symbol CloseBrace ∷ symbol CloseBrace ∷ symbol CloseBrace ∷ [])
unfolding begun extended from_ready
constructor_of_the_outer_name = no_unit _ refl

-- class A extends int{}
-- javac's parser takes it; a superclass is named
superclass_int : IsNoUnit (keyword Class ∷ word (codes "A") ∷ keyword Extends ∷ keyword Int ∷ symbol OpenBrace ∷ symbol CloseBrace ∷ [])
unfolding begun extended from_ready
superclass_int = no_unit _ refl

-- class A{int a=(b)++;}
-- javac takes it; a target stands in no parentheses
initializer_no_expression : IsNoUnit (keyword Class ∷ word (codes "A") ∷ symbol OpenBrace ∷ keyword Int ∷ word (codes "a") ∷ symbol Equals ∷ symbol OpenParen ∷ word (codes "b") ∷ symbol CloseParen ∷ symbol PlusPlus ∷ symbol Semicolon ∷ symbol CloseBrace ∷ [])
unfolding begun extended from_ready
initializer_no_expression = no_unit _ refl

-- class A{A(){super((a)++);}}
-- javac takes it; a target stands in no parentheses
super_argument_no_expression : IsNoUnit (keyword Class ∷ word (codes "A") ∷ symbol OpenBrace ∷ word (codes "A") ∷ symbol OpenParen ∷ symbol CloseParen ∷ symbol OpenBrace ∷ keyword Super ∷ symbol OpenParen ∷ symbol OpenParen ∷ word (codes "a") ∷ symbol CloseParen ∷ symbol PlusPlus ∷ symbol CloseParen ∷ symbol Semicolon ∷ symbol CloseBrace ∷ symbol CloseBrace ∷ [])
unfolding begun extended from_ready
super_argument_no_expression = no_unit _ refl

-- class A{void m(){(a)=b;}}
-- javac's parser takes it; a target stands in no parentheses
body_no_statement : IsNoUnit (keyword Class ∷ word (codes "A") ∷ symbol OpenBrace ∷ keyword Void ∷ word (codes "m") ∷ symbol OpenParen ∷ symbol CloseParen ∷ symbol OpenBrace ∷ symbol OpenParen ∷ word (codes "a") ∷ symbol CloseParen ∷ symbol Equals ∷ word (codes "b") ∷ symbol Semicolon ∷ symbol CloseBrace ∷ symbol CloseBrace ∷ [])
unfolding begun extended from_ready
body_no_statement = no_unit _ refl

-- class A{A(){a+b;}}
-- javac refuses it too: not a statement
constructor_body_no_statement : IsNoUnit (keyword Class ∷ word (codes "A") ∷ symbol OpenBrace ∷ word (codes "A") ∷ symbol OpenParen ∷ symbol CloseParen ∷ symbol OpenBrace ∷ word (codes "a") ∷ symbol PlusSign ∷ word (codes "b") ∷ symbol Semicolon ∷ symbol CloseBrace ∷ symbol CloseBrace ∷ [])
unfolding begun extended from_ready
constructor_body_no_statement = no_unit _ refl

-- class A{class B extends int{}}
-- javac's parser takes it; a superclass is named
superclass_of_member_class_int : IsNoUnit (keyword Class ∷ word (codes "A") ∷ symbol OpenBrace ∷ keyword Class ∷ word (codes "B") ∷ keyword Extends ∷ keyword Int ∷ symbol OpenBrace ∷ symbol CloseBrace ∷ symbol CloseBrace ∷ [])
unfolding begun extended from_ready
superclass_of_member_class_int = no_unit _ refl

-- class A{int a;B(){}}
-- javac refuses it too: invalid method declaration; return type required
second_member_of_another_name : IsNoUnit (keyword Class ∷ word (codes "A") ∷ symbol OpenBrace ∷ keyword Int ∷ word (codes "a") ∷ symbol Semicolon ∷ word (codes "B") ∷ symbol OpenParen ∷ symbol CloseParen ∷ symbol OpenBrace ∷ symbol CloseBrace ∷ symbol CloseBrace ∷ [])
unfolding begun extended from_ready
second_member_of_another_name = no_unit _ refl

-- class A{class B{int a;A(){}}}
-- javac refuses it too: invalid method declaration; return type required
second_member_of_member_class_of_the_outer_name : IsNoUnit (keyword Class ∷ word (codes "A") ∷ symbol OpenBrace ∷ keyword Class ∷ word (codes "B") ∷ symbol OpenBrace ∷ keyword Int ∷ word (codes "a") ∷ symbol Semicolon ∷ word (codes "A") ∷ symbol OpenParen ∷ symbol CloseParen ∷ symbol OpenBrace ∷ symbol CloseBrace ∷ symbol CloseBrace ∷ symbol CloseBrace ∷ [])
unfolding begun extended from_ready
second_member_of_member_class_of_the_outer_name = no_unit _ refl

-- class A{}class B{A(){}}
-- javac refuses it too: invalid method declaration; return type required
second_class_with_constructor_of_the_first : IsNoUnit (keyword Class ∷ word (codes "A") ∷ symbol OpenBrace ∷ symbol CloseBrace ∷ keyword Class ∷ word (codes "B") ∷ symbol OpenBrace ∷ word (codes "A") ∷ symbol OpenParen ∷ symbol CloseParen ∷ symbol OpenBrace ∷ symbol CloseBrace ∷ symbol CloseBrace ∷ [])
unfolding begun extended from_ready
second_class_with_constructor_of_the_first = no_unit _ refl

-- class A{void m(){int a;}}
-- javac takes it; a local has its value
local_without_value : IsNoUnit (keyword Class ∷ word (codes "A") ∷ symbol OpenBrace ∷ keyword Void ∷ word (codes "m") ∷ symbol OpenParen ∷ symbol CloseParen ∷ symbol OpenBrace ∷ keyword Int ∷ word (codes "a") ∷ symbol Semicolon ∷ symbol CloseBrace ∷ symbol CloseBrace ∷ [])
unfolding begun extended from_ready
local_without_value = no_unit _ refl

-- class A{A(){m();super();}}
-- javac's parser takes it; `super(..)` stands first in a constructor, and is no statement
super_second : IsNoUnit (keyword Class ∷ word (codes "A") ∷ symbol OpenBrace ∷ word (codes "A") ∷ symbol OpenParen ∷ symbol CloseParen ∷ symbol OpenBrace ∷ word (codes "m") ∷ symbol OpenParen ∷ symbol CloseParen ∷ symbol Semicolon ∷ keyword Super ∷ symbol OpenParen ∷ symbol CloseParen ∷ symbol Semicolon ∷ symbol CloseBrace ∷ symbol CloseBrace ∷ [])
unfolding begun extended from_ready
super_second = no_unit _ refl

-- class A{void m(){super();}}
-- javac's parser takes it; `super(..)` stands first in a constructor, and is no statement
super_in_method : IsNoUnit (keyword Class ∷ word (codes "A") ∷ symbol OpenBrace ∷ keyword Void ∷ word (codes "m") ∷ symbol OpenParen ∷ symbol CloseParen ∷ symbol OpenBrace ∷ keyword Super ∷ symbol OpenParen ∷ symbol CloseParen ∷ symbol Semicolon ∷ symbol CloseBrace ∷ symbol CloseBrace ∷ [])
unfolding begun extended from_ready
super_in_method = no_unit _ refl

-- class A{;}
-- javac takes it (JLS 8.1.6); no member is a semicolon alone
semicolon_as_member : IsNoUnit (keyword Class ∷ word (codes "A") ∷ symbol OpenBrace ∷ symbol Semicolon ∷ symbol CloseBrace ∷ [])
unfolding begun extended from_ready
semicolon_as_member = no_unit _ refl

-- package a
-- javac refuses it too: reached end of file while parsing
package_without_its_semicolon : IsNoUnit (keyword Package ∷ word (codes "a") ∷ [])
unfolding begun extended from_ready
package_without_its_semicolon = no_unit _ refl

-- package a class A{}
-- javac refuses it too: ';' expected
package_and_class : IsNoUnit (keyword Package ∷ word (codes "a") ∷ keyword Class ∷ word (codes "A") ∷ symbol OpenBrace ∷ symbol CloseBrace ∷ [])
unfolding begun extended from_ready
package_and_class = no_unit _ refl
