-- Where reading stops in compilation units.
use Rattle.std.proofs.Common.{[], ◌∷◌, refl}
use Rattle.std.specs.Prelude.{codes}
use Rattle.jr_lex.specs.declared.items.Keyword.TheVariants.{Class, Extends, Final, Import, Int, Package, Public, Super}
use Rattle.jr_lex.specs.declared.items.Symbol.TheVariants.{CloseBrace, CloseParen, Dot, OpenBrace, OpenParen, Semicolon}
use Rattle.jr_grammar.specs.Tokens.{word, keyword, symbol}
use Rattle.jr_grammar.specs.Units.{IsUnitStop}
use Rattle.jr_pexpr.specs.Machine.{begun, extended}
use Rattle.jr_pstmt.specs.StatementMachine.{from_ready}
use Rattle.jr_punit_laws.proofs.Cases.Forms.{unit_stops}

--
empty : IsUnitStop ([]) 0
unfolding begun extended from_ready
empty = unit_stops _ _ refl

-- package;
package_without_word : IsUnitStop (keyword Package ∷ symbol Semicolon ∷ []) 1
unfolding begun extended from_ready
package_without_word = unit_stops _ _ refl

-- package a.;
package_dot : IsUnitStop (keyword Package ∷ word (codes "a") ∷ symbol Dot ∷ symbol Semicolon ∷ []) 3
unfolding begun extended from_ready
package_dot = unit_stops _ _ refl

-- package a.b;class A{}
package_and_class : IsUnitStop (keyword Package ∷ word (codes "a") ∷ symbol Dot ∷ word (codes "b") ∷ symbol Semicolon ∷ keyword Class ∷ word (codes "A") ∷ symbol OpenBrace ∷ symbol CloseBrace ∷ []) 9
unfolding begun extended from_ready
package_and_class = unit_stops _ _ refl

-- class A{}package
package_second : IsUnitStop (keyword Class ∷ word (codes "A") ∷ symbol OpenBrace ∷ symbol CloseBrace ∷ keyword Package ∷ []) 4
unfolding begun extended from_ready
package_second = unit_stops _ _ refl

-- class A{};
semicolon_between : IsUnitStop (keyword Class ∷ word (codes "A") ∷ symbol OpenBrace ∷ symbol CloseBrace ∷ symbol Semicolon ∷ []) 4
unfolding begun extended from_ready
semicolon_between = unit_stops _ _ refl

-- int
int_first : IsUnitStop (keyword Int ∷ []) 0
unfolding begun extended from_ready
int_first = unit_stops _ _ refl

-- public package
public_package : IsUnitStop (keyword Public ∷ keyword Package ∷ []) 1
unfolding begun extended from_ready
public_package = unit_stops _ _ refl

-- class A{class B{class
class_three_deep : IsUnitStop (keyword Class ∷ word (codes "A") ∷ symbol OpenBrace ∷ keyword Class ∷ word (codes "B") ∷ symbol OpenBrace ∷ keyword Class ∷ []) 6
unfolding begun extended from_ready
class_three_deep = unit_stops _ _ refl

-- class A extends int
extends_int : IsUnitStop (keyword Class ∷ word (codes "A") ∷ keyword Extends ∷ keyword Int ∷ []) 3
unfolding begun extended from_ready
extends_int = unit_stops _ _ refl

-- class A extends B.C.
extends_three_words : IsUnitStop (keyword Class ∷ word (codes "A") ∷ keyword Extends ∷ word (codes "B") ∷ symbol Dot ∷ word (codes "C") ∷ symbol Dot ∷ []) 6
unfolding begun extended from_ready
extends_three_words = unit_stops _ _ refl

-- import
import_first : IsUnitStop (keyword Import ∷ []) 0
unfolding begun extended from_ready
import_first = unit_stops _ _ refl

-- class A{public}
modifier_before_brace : IsUnitStop (keyword Class ∷ word (codes "A") ∷ symbol OpenBrace ∷ keyword Public ∷ symbol CloseBrace ∷ []) 4
unfolding begun extended from_ready
modifier_before_brace = unit_stops _ _ refl

-- class A{}public
modifier_at_the_end : IsUnitStop (keyword Class ∷ word (codes "A") ∷ symbol OpenBrace ∷ symbol CloseBrace ∷ keyword Public ∷ []) 5
unfolding begun extended from_ready
modifier_at_the_end = unit_stops _ _ refl

-- package a;
package_alone : IsUnitStop (keyword Package ∷ word (codes "a") ∷ symbol Semicolon ∷ []) 3
unfolding begun extended from_ready
package_alone = unit_stops _ _ refl

-- package a
package_open : IsUnitStop (keyword Package ∷ word (codes "a") ∷ []) 2
unfolding begun extended from_ready
package_open = unit_stops _ _ refl

-- package a class
package_and_class_word : IsUnitStop (keyword Package ∷ word (codes "a") ∷ keyword Class ∷ []) 2
unfolding begun extended from_ready
package_and_class_word = unit_stops _ _ refl

-- class A{B(
constructor_of_another_name : IsUnitStop (keyword Class ∷ word (codes "A") ∷ symbol OpenBrace ∷ word (codes "B") ∷ symbol OpenParen ∷ []) 4
unfolding begun extended from_ready
constructor_of_another_name = unit_stops _ _ refl

-- class A{}final class B extends A{int a;B(){super();}}
two_classes : IsUnitStop (keyword Class ∷ word (codes "A") ∷ symbol OpenBrace ∷ symbol CloseBrace ∷ keyword Final ∷ keyword Class ∷ word (codes "B") ∷ keyword Extends ∷ word (codes "A") ∷ symbol OpenBrace ∷ keyword Int ∷ word (codes "a") ∷ symbol Semicolon ∷ word (codes "B") ∷ symbol OpenParen ∷ symbol CloseParen ∷ symbol OpenBrace ∷ keyword Super ∷ symbol OpenParen ∷ symbol CloseParen ∷ symbol Semicolon ∷ symbol CloseBrace ∷ symbol CloseBrace ∷ []) 23
unfolding begun extended from_ready
two_classes = unit_stops _ _ refl

-- int a;
field_outside : IsUnitStop (keyword Int ∷ word (codes "a") ∷ symbol Semicolon ∷ []) 0
unfolding begun extended from_ready
field_outside = unit_stops _ _ refl
