-- Members, classes and compilation units (JLS 7.3, 8).
-- The tree of each case is the one that javac's parser makes of the text; where it differs, the case says why.
use Rattle.std.proofs.Common.{[], ◌∷◌, Some, None, refl, arith, true, false}
use Rattle.std.specs.Prelude.{codes}
use Rattle.jr_lex.specs.declared.items.Keyword.TheVariants.{Boolean, Class, Else, Extends, Final, If, Int, New, Package, Private, Protected, Public, Return, Static, Super, Synchronized, This, Void, Volatile, While}
use Rattle.jr_lex.specs.declared.items.Symbol.TheVariants.{Bang, CloseBrace, CloseParen, Comma, Dot, Equals, OpenBrace, OpenParen, PlusPlus, Plus as PlusSign, Semicolon}
use Rattle.jr_ast.specs.declared.operators.UnOp.TheVariants.{Not}
use Rattle.jr_ast.specs.declared.operators.BinOp.TheVariants.{Add}
use Rattle.jr_ast.specs.declared.operators.BumpOp.TheVariants.{PostInc}
use Rattle.jr_ast.specs.declared.operators.ModWord.TheVariants.{Public as PublicWord, Protected as ProtectedWord, Private as PrivateWord, Static as StaticWord, Final as FinalWord, Volatile as VolatileWord, Synchronized as SynchronizedWord}
use Rattle.jr_ast.specs.Tree.{int, boolean, number, this, super_call, create, paren, unary, bump, binary, assign, call, no_target, end, more}
use Rattle.jr_ast.specs.StatementTree as S
use Rattle.jr_ast.specs.MemberTree as M
use Rattle.jr_grammar.specs.Tokens.{word, keyword, integer, symbol}
use Rattle.jr_grammar.proofs.Cases.Forms.{BareUnit, w, v, ty, tyin}
use Rattle.jr_grammar.proofs.Cases.Parts.{IsUnitRefused, modifier, par}

--
empty_unit : BareUnit ([])
    (record { mark = tt; package_name = []; classes = [] })
empty_unit = record { shaped = grind arith; spells = refl }

-- package a;
package_alone : BareUnit (keyword Package ∷ word (codes "a") ∷ symbol Semicolon ∷ [])
    (record { mark = tt; package_name = w (codes "a") ∷ []; classes = [] })
package_alone = record { shaped = grind arith; spells = refl }

-- package a.b.c;class A{}
package_of_three_words : BareUnit (keyword Package ∷ word (codes "a") ∷ symbol Dot ∷ word (codes "b") ∷ symbol Dot ∷ word (codes "c") ∷ symbol Semicolon ∷ keyword Class ∷ word (codes "A") ∷ symbol OpenBrace ∷ symbol CloseBrace ∷ [])
    (record { mark = tt; package_name = w (codes "a") ∷ w (codes "b") ∷ w (codes "c") ∷ []; classes = (M.class tt [] (w (codes "A")) None M.end) ∷ [] })
package_of_three_words = record { shaped = grind arith; spells = refl }

-- class A{}
class_alone : BareUnit (keyword Class ∷ word (codes "A") ∷ symbol OpenBrace ∷ symbol CloseBrace ∷ [])
    (record { mark = tt; package_name = []; classes = (M.class tt [] (w (codes "A")) None M.end) ∷ [] })
class_alone = record { shaped = grind arith; spells = refl }

-- class A{}class B{}
two_classes : BareUnit (keyword Class ∷ word (codes "A") ∷ symbol OpenBrace ∷ symbol CloseBrace ∷ keyword Class ∷ word (codes "B") ∷ symbol OpenBrace ∷ symbol CloseBrace ∷ [])
    (record { mark = tt; package_name = []; classes = (M.class tt [] (w (codes "A")) None M.end) ∷ (M.class tt [] (w (codes "B")) None M.end) ∷ [] })
two_classes = record { shaped = grind arith; spells = refl }

-- public final class A{}
public_final_class : BareUnit (keyword Public ∷ keyword Final ∷ keyword Class ∷ word (codes "A") ∷ symbol OpenBrace ∷ symbol CloseBrace ∷ [])
    (record { mark = tt; package_name = []; classes = (M.class tt (modifier PublicWord ∷ modifier FinalWord ∷ []) (w (codes "A")) None M.end) ∷ [] })
public_final_class = record { shaped = grind arith; spells = refl }

-- class A extends B{}
superclass : BareUnit (keyword Class ∷ word (codes "A") ∷ keyword Extends ∷ word (codes "B") ∷ symbol OpenBrace ∷ symbol CloseBrace ∷ [])
    (record { mark = tt; package_name = []; classes = (M.class tt [] (w (codes "A")) (Some (ty (codes "B"))) M.end) ∷ [] })
superclass = record { shaped = grind arith; spells = refl }

-- class A extends B.C{}
superclass_of_two_words : BareUnit (keyword Class ∷ word (codes "A") ∷ keyword Extends ∷ word (codes "B") ∷ symbol Dot ∷ word (codes "C") ∷ symbol OpenBrace ∷ symbol CloseBrace ∷ [])
    (record { mark = tt; package_name = []; classes = (M.class tt [] (w (codes "A")) (Some (tyin (codes "B") (codes "C"))) M.end) ∷ [] })
superclass_of_two_words = record { shaped = grind arith; spells = refl }

-- class A extends A{}
its_own_superclass : BareUnit (keyword Class ∷ word (codes "A") ∷ keyword Extends ∷ word (codes "A") ∷ symbol OpenBrace ∷ symbol CloseBrace ∷ [])
    (record { mark = tt; package_name = []; classes = (M.class tt [] (w (codes "A")) (Some (ty (codes "A"))) M.end) ∷ [] })
its_own_superclass = record { shaped = grind arith; spells = refl }

-- class A{int a;}
field : BareUnit (keyword Class ∷ word (codes "A") ∷ symbol OpenBrace ∷ keyword Int ∷ word (codes "a") ∷ symbol Semicolon ∷ symbol CloseBrace ∷ [])
    (record { mark = tt; package_name = []; classes = (M.class tt [] (w (codes "A")) None (M.more (M.field tt [] (int tt) (w (codes "a")) None) M.end)) ∷ [] })
field = record { shaped = grind arith; spells = refl }

-- class A{B.C a=new B.C(1);}
field_with_value : BareUnit (keyword Class ∷ word (codes "A") ∷ symbol OpenBrace ∷ word (codes "B") ∷ symbol Dot ∷ word (codes "C") ∷ word (codes "a") ∷ symbol Equals ∷ keyword New ∷ word (codes "B") ∷ symbol Dot ∷ word (codes "C") ∷ symbol OpenParen ∷ integer 1 ∷ symbol CloseParen ∷ symbol Semicolon ∷ symbol CloseBrace ∷ [])
    (record { mark = tt; package_name = []; classes = (M.class tt [] (w (codes "A")) None (M.more (M.field tt [] (tyin (codes "B") (codes "C")) (w (codes "a")) (Some (create tt (tyin (codes "B") (codes "C")) (more (number tt 1) end)))) M.end)) ∷ [] })
field_with_value = record { shaped = grind arith; spells = refl }

-- class A{private static final boolean a=!b;}
field_with_modifiers : BareUnit (keyword Class ∷ word (codes "A") ∷ symbol OpenBrace ∷ keyword Private ∷ keyword Static ∷ keyword Final ∷ keyword Boolean ∷ word (codes "a") ∷ symbol Equals ∷ symbol Bang ∷ word (codes "b") ∷ symbol Semicolon ∷ symbol CloseBrace ∷ [])
    (record { mark = tt; package_name = []; classes = (M.class tt [] (w (codes "A")) None (M.more (M.field tt (modifier PrivateWord ∷ modifier StaticWord ∷ modifier FinalWord ∷ []) (boolean tt) (w (codes "a")) (Some (unary tt Not (v (codes "b"))))) M.end)) ∷ [] })
field_with_modifiers = record { shaped = grind arith; spells = refl }

-- class A{volatile int a;protected int b;}
volatile_field : BareUnit (keyword Class ∷ word (codes "A") ∷ symbol OpenBrace ∷ keyword Volatile ∷ keyword Int ∷ word (codes "a") ∷ symbol Semicolon ∷ keyword Protected ∷ keyword Int ∷ word (codes "b") ∷ symbol Semicolon ∷ symbol CloseBrace ∷ [])
    (record { mark = tt; package_name = []; classes = (M.class tt [] (w (codes "A")) None (M.more (M.field tt (modifier VolatileWord ∷ []) (int tt) (w (codes "a")) None) (M.more (M.field tt (modifier ProtectedWord ∷ []) (int tt) (w (codes "b")) None) M.end))) ∷ [] })
volatile_field = record { shaped = grind arith; spells = refl }

-- class A{void m(){}}
method : BareUnit (keyword Class ∷ word (codes "A") ∷ symbol OpenBrace ∷ keyword Void ∷ word (codes "m") ∷ symbol OpenParen ∷ symbol CloseParen ∷ symbol OpenBrace ∷ symbol CloseBrace ∷ symbol CloseBrace ∷ [])
    (record { mark = tt; package_name = []; classes = (M.class tt [] (w (codes "A")) None (M.more (M.method tt [] None (w (codes "m")) ([]) S.end) M.end)) ∷ [] })
method = record { shaped = grind arith; spells = refl }

-- class A{int m(int a,final B.C b){return a;}}
method_with_parameters : BareUnit (keyword Class ∷ word (codes "A") ∷ symbol OpenBrace ∷ keyword Int ∷ word (codes "m") ∷ symbol OpenParen ∷ keyword Int ∷ word (codes "a") ∷ symbol Comma ∷ keyword Final ∷ word (codes "B") ∷ symbol Dot ∷ word (codes "C") ∷ word (codes "b") ∷ symbol CloseParen ∷ symbol OpenBrace ∷ keyword Return ∷ word (codes "a") ∷ symbol Semicolon ∷ symbol CloseBrace ∷ symbol CloseBrace ∷ [])
    (record { mark = tt; package_name = []; classes = (M.class tt [] (w (codes "A")) None (M.more (M.method tt [] (Some (int tt)) (w (codes "m")) (par false (int tt) (codes "a") ∷ par true (tyin (codes "B") (codes "C")) (codes "b") ∷ []) (S.more (S.return tt (Some (v (codes "a")))) S.end)) M.end)) ∷ [] })
method_with_parameters = record { shaped = grind arith; spells = refl }

-- class A{public synchronized A m(A a){return this;}}
method_with_modifiers : BareUnit (keyword Class ∷ word (codes "A") ∷ symbol OpenBrace ∷ keyword Public ∷ keyword Synchronized ∷ word (codes "A") ∷ word (codes "m") ∷ symbol OpenParen ∷ word (codes "A") ∷ word (codes "a") ∷ symbol CloseParen ∷ symbol OpenBrace ∷ keyword Return ∷ keyword This ∷ symbol Semicolon ∷ symbol CloseBrace ∷ symbol CloseBrace ∷ [])
    (record { mark = tt; package_name = []; classes = (M.class tt [] (w (codes "A")) None (M.more (M.method tt (modifier PublicWord ∷ modifier SynchronizedWord ∷ []) (Some (ty (codes "A"))) (w (codes "m")) (par false (ty (codes "A")) (codes "a") ∷ []) (S.more (S.return tt (Some (this tt))) S.end)) M.end)) ∷ [] })
method_with_modifiers = record { shaped = grind arith; spells = refl }

-- class A{void A(){}}
method_named_as_class : BareUnit (keyword Class ∷ word (codes "A") ∷ symbol OpenBrace ∷ keyword Void ∷ word (codes "A") ∷ symbol OpenParen ∷ symbol CloseParen ∷ symbol OpenBrace ∷ symbol CloseBrace ∷ symbol CloseBrace ∷ [])
    (record { mark = tt; package_name = []; classes = (M.class tt [] (w (codes "A")) None (M.more (M.method tt [] None (w (codes "A")) ([]) S.end) M.end)) ∷ [] })
method_named_as_class = record { shaped = grind arith; spells = refl }

-- class A{A(){}}
constructor : BareUnit (keyword Class ∷ word (codes "A") ∷ symbol OpenBrace ∷ word (codes "A") ∷ symbol OpenParen ∷ symbol CloseParen ∷ symbol OpenBrace ∷ symbol CloseBrace ∷ symbol CloseBrace ∷ [])
    (record { mark = tt; package_name = []; classes = (M.class tt [] (w (codes "A")) None (M.more (M.constructor tt [] (w (codes "A")) ([]) None S.end) M.end)) ∷ [] })
constructor = record { shaped = grind arith; spells = refl }

-- class A{public A(int a){b=a;}int b;}
constructor_with_parameters : BareUnit (keyword Class ∷ word (codes "A") ∷ symbol OpenBrace ∷ keyword Public ∷ word (codes "A") ∷ symbol OpenParen ∷ keyword Int ∷ word (codes "a") ∷ symbol CloseParen ∷ symbol OpenBrace ∷ word (codes "b") ∷ symbol Equals ∷ word (codes "a") ∷ symbol Semicolon ∷ symbol CloseBrace ∷ keyword Int ∷ word (codes "b") ∷ symbol Semicolon ∷ symbol CloseBrace ∷ [])
    (record { mark = tt; package_name = []; classes = (M.class tt [] (w (codes "A")) None (M.more (M.constructor tt (modifier PublicWord ∷ []) (w (codes "A")) (par false (int tt) (codes "a") ∷ []) None (S.more (S.eval tt (assign tt (v (codes "b")) (v (codes "a")))) S.end)) (M.more (M.field tt [] (int tt) (w (codes "b")) None) M.end))) ∷ [] })
constructor_with_parameters = record { shaped = grind arith; spells = refl }

-- class A{A(int a){super(a);b=a;}}
constructor_calls_super : BareUnit (keyword Class ∷ word (codes "A") ∷ symbol OpenBrace ∷ word (codes "A") ∷ symbol OpenParen ∷ keyword Int ∷ word (codes "a") ∷ symbol CloseParen ∷ symbol OpenBrace ∷ keyword Super ∷ symbol OpenParen ∷ word (codes "a") ∷ symbol CloseParen ∷ symbol Semicolon ∷ word (codes "b") ∷ symbol Equals ∷ word (codes "a") ∷ symbol Semicolon ∷ symbol CloseBrace ∷ symbol CloseBrace ∷ [])
    (record { mark = tt; package_name = []; classes = (M.class tt [] (w (codes "A")) None (M.more (M.constructor tt [] (w (codes "A")) (par false (int tt) (codes "a") ∷ []) (Some (more (v (codes "a")) end)) (S.more (S.eval tt (assign tt (v (codes "b")) (v (codes "a")))) S.end)) M.end)) ∷ [] })
constructor_calls_super = record { shaped = grind arith; spells = refl }

-- class A{A(){super();}}
constructor_calls_super_alone : BareUnit (keyword Class ∷ word (codes "A") ∷ symbol OpenBrace ∷ word (codes "A") ∷ symbol OpenParen ∷ symbol CloseParen ∷ symbol OpenBrace ∷ keyword Super ∷ symbol OpenParen ∷ symbol CloseParen ∷ symbol Semicolon ∷ symbol CloseBrace ∷ symbol CloseBrace ∷ [])
    (record { mark = tt; package_name = []; classes = (M.class tt [] (w (codes "A")) None (M.more (M.constructor tt [] (w (codes "A")) ([]) (Some end) S.end) M.end)) ∷ [] })
constructor_calls_super_alone = record { shaped = grind arith; spells = refl }

-- class A{A(){super.m();}}
constructor_calls_super_method : BareUnit (keyword Class ∷ word (codes "A") ∷ symbol OpenBrace ∷ word (codes "A") ∷ symbol OpenParen ∷ symbol CloseParen ∷ symbol OpenBrace ∷ keyword Super ∷ symbol Dot ∷ word (codes "m") ∷ symbol OpenParen ∷ symbol CloseParen ∷ symbol Semicolon ∷ symbol CloseBrace ∷ symbol CloseBrace ∷ [])
    (record { mark = tt; package_name = []; classes = (M.class tt [] (w (codes "A")) None (M.more (M.constructor tt [] (w (codes "A")) ([]) None (S.more (S.eval tt (super_call tt (w (codes "m")) end)) S.end)) M.end)) ∷ [] })
constructor_calls_super_method = record { shaped = grind arith; spells = refl }

-- class A{static class B{int a;}}
member_class : BareUnit (keyword Class ∷ word (codes "A") ∷ symbol OpenBrace ∷ keyword Static ∷ keyword Class ∷ word (codes "B") ∷ symbol OpenBrace ∷ keyword Int ∷ word (codes "a") ∷ symbol Semicolon ∷ symbol CloseBrace ∷ symbol CloseBrace ∷ [])
    (record { mark = tt; package_name = []; classes = (M.class tt [] (w (codes "A")) None (M.more (M.inner tt (M.class tt (modifier StaticWord ∷ []) (w (codes "B")) None (M.more (M.field tt [] (int tt) (w (codes "a")) None) M.end))) M.end)) ∷ [] })
member_class = record { shaped = grind arith; spells = refl }

-- class A{class B extends A{B(){super();}}A(){}}
member_class_with_constructor : BareUnit (keyword Class ∷ word (codes "A") ∷ symbol OpenBrace ∷ keyword Class ∷ word (codes "B") ∷ keyword Extends ∷ word (codes "A") ∷ symbol OpenBrace ∷ word (codes "B") ∷ symbol OpenParen ∷ symbol CloseParen ∷ symbol OpenBrace ∷ keyword Super ∷ symbol OpenParen ∷ symbol CloseParen ∷ symbol Semicolon ∷ symbol CloseBrace ∷ symbol CloseBrace ∷ word (codes "A") ∷ symbol OpenParen ∷ symbol CloseParen ∷ symbol OpenBrace ∷ symbol CloseBrace ∷ symbol CloseBrace ∷ [])
    (record { mark = tt; package_name = []; classes = (M.class tt [] (w (codes "A")) None (M.more (M.inner tt (M.class tt [] (w (codes "B")) (Some (ty (codes "A"))) (M.more (M.constructor tt [] (w (codes "B")) ([]) (Some end) S.end) M.end))) (M.more (M.constructor tt [] (w (codes "A")) ([]) None S.end) M.end))) ∷ [] })
member_class_with_constructor = record { shaped = grind arith; spells = refl }

-- class A{class B{}class C{}}
two_member_classes : BareUnit (keyword Class ∷ word (codes "A") ∷ symbol OpenBrace ∷ keyword Class ∷ word (codes "B") ∷ symbol OpenBrace ∷ symbol CloseBrace ∷ keyword Class ∷ word (codes "C") ∷ symbol OpenBrace ∷ symbol CloseBrace ∷ symbol CloseBrace ∷ [])
    (record { mark = tt; package_name = []; classes = (M.class tt [] (w (codes "A")) None (M.more (M.inner tt (M.class tt [] (w (codes "B")) None M.end)) (M.more (M.inner tt (M.class tt [] (w (codes "C")) None M.end)) M.end))) ∷ [] })
two_member_classes = record { shaped = grind arith; spells = refl }

-- class A{final public static int a;}
words_in_any_order : BareUnit (keyword Class ∷ word (codes "A") ∷ symbol OpenBrace ∷ keyword Final ∷ keyword Public ∷ keyword Static ∷ keyword Int ∷ word (codes "a") ∷ symbol Semicolon ∷ symbol CloseBrace ∷ [])
    (record { mark = tt; package_name = []; classes = (M.class tt [] (w (codes "A")) None (M.more (M.field tt (modifier FinalWord ∷ modifier PublicWord ∷ modifier StaticWord ∷ []) (int tt) (w (codes "a")) None) M.end)) ∷ [] })
words_in_any_order = record { shaped = grind arith; spells = refl }

-- class A{public public int a;}
-- javac's parser refuses a word that stands twice: "repeated modifier". Here any words may stand; which may is said with the declarations
word_twice : BareUnit (keyword Class ∷ word (codes "A") ∷ symbol OpenBrace ∷ keyword Public ∷ keyword Public ∷ keyword Int ∷ word (codes "a") ∷ symbol Semicolon ∷ symbol CloseBrace ∷ [])
    (record { mark = tt; package_name = []; classes = (M.class tt [] (w (codes "A")) None (M.more (M.field tt (modifier PublicWord ∷ modifier PublicWord ∷ []) (int tt) (w (codes "a")) None) M.end)) ∷ [] })
word_twice = record { shaped = grind arith; spells = refl }

-- class A{int m(){if(a)return 1;else{while(b)n();}return 2;}}
bodies : BareUnit (keyword Class ∷ word (codes "A") ∷ symbol OpenBrace ∷ keyword Int ∷ word (codes "m") ∷ symbol OpenParen ∷ symbol CloseParen ∷ symbol OpenBrace ∷ keyword If ∷ symbol OpenParen ∷ word (codes "a") ∷ symbol CloseParen ∷ keyword Return ∷ integer 1 ∷ symbol Semicolon ∷ keyword Else ∷ symbol OpenBrace ∷ keyword While ∷ symbol OpenParen ∷ word (codes "b") ∷ symbol CloseParen ∷ word (codes "n") ∷ symbol OpenParen ∷ symbol CloseParen ∷ symbol Semicolon ∷ symbol CloseBrace ∷ keyword Return ∷ integer 2 ∷ symbol Semicolon ∷ symbol CloseBrace ∷ symbol CloseBrace ∷ [])
    (record { mark = tt; package_name = []; classes = (M.class tt [] (w (codes "A")) None (M.more (M.method tt [] (Some (int tt)) (w (codes "m")) ([]) (S.more (S.branch tt (v (codes "a")) (S.return tt (Some (number tt 1))) (S.otherwise (S.block tt (S.more (S.loop tt (v (codes "b")) (S.eval tt (call tt no_target (w (codes "n")) end))) S.end)))) (S.more (S.return tt (Some (number tt 2))) S.end))) M.end)) ∷ [] })
bodies = record { shaped = grind arith; spells = refl }

-- class A{class B{class C{}}}
-- javac takes it; a class inside a class holds no class
class_in_member_class : IsUnitRefused (keyword Class ∷ word (codes "A") ∷ symbol OpenBrace ∷ keyword Class ∷ word (codes "B") ∷ symbol OpenBrace ∷ keyword Class ∷ word (codes "C") ∷ symbol OpenBrace ∷ symbol CloseBrace ∷ symbol CloseBrace ∷ symbol CloseBrace ∷ [])
    (record { mark = tt; package_name = []; classes = (M.class tt [] (w (codes "A")) None (M.more (M.inner tt (M.class tt [] (w (codes "B")) None (M.more (M.inner tt (M.class tt [] (w (codes "C")) None M.end)) M.end))) M.end)) ∷ [] })
class_in_member_class = record { spells = refl; not_shaped = λ h. grind arith }

-- class A{B(){}}
-- javac refuses it too: invalid method declaration; return type required
constructor_of_another_name : IsUnitRefused (keyword Class ∷ word (codes "A") ∷ symbol OpenBrace ∷ word (codes "B") ∷ symbol OpenParen ∷ symbol CloseParen ∷ symbol OpenBrace ∷ symbol CloseBrace ∷ symbol CloseBrace ∷ [])
    (record { mark = tt; package_name = []; classes = (M.class tt [] (w (codes "A")) None (M.more (M.constructor tt [] (w (codes "B")) [] None S.end) M.end)) ∷ [] })
constructor_of_another_name = record { spells = refl; not_shaped = λ h. grind arith }

-- class A{class B{A(){}}}
-- javac refuses it too: invalid method declaration; return type required
constructor_of_the_outer_name : IsUnitRefused (keyword Class ∷ word (codes "A") ∷ symbol OpenBrace ∷ keyword Class ∷ word (codes "B") ∷ symbol OpenBrace ∷ word (codes "A") ∷ symbol OpenParen ∷ symbol CloseParen ∷ symbol OpenBrace ∷ symbol CloseBrace ∷ symbol CloseBrace ∷ symbol CloseBrace ∷ [])
    (record { mark = tt; package_name = []; classes = (M.class tt [] (w (codes "A")) None (M.more (M.inner tt (M.class tt [] (w (codes "B")) None (M.more (M.constructor tt [] (w (codes "A")) [] None S.end) M.end))) M.end)) ∷ [] })
constructor_of_the_outer_name = record { spells = refl; not_shaped = λ h. grind arith }

-- class A extends int{}
-- javac's parser takes it; a superclass is named
superclass_int : IsUnitRefused (keyword Class ∷ word (codes "A") ∷ keyword Extends ∷ keyword Int ∷ symbol OpenBrace ∷ symbol CloseBrace ∷ [])
    (record { mark = tt; package_name = []; classes = (M.class tt [] (w (codes "A")) (Some (int tt)) M.end) ∷ [] })
superclass_int = record { spells = refl; not_shaped = λ h. grind arith }

-- class A{int a=(b)++;}
-- javac takes it; a target stands in no parentheses
initializer_no_expression : IsUnitRefused (keyword Class ∷ word (codes "A") ∷ symbol OpenBrace ∷ keyword Int ∷ word (codes "a") ∷ symbol Equals ∷ symbol OpenParen ∷ word (codes "b") ∷ symbol CloseParen ∷ symbol PlusPlus ∷ symbol Semicolon ∷ symbol CloseBrace ∷ [])
    (record { mark = tt; package_name = []; classes = (M.class tt [] (w (codes "A")) None (M.more (M.field tt [] (int tt) (w (codes "a")) (Some (bump tt PostInc (paren tt (v (codes "b")))))) M.end)) ∷ [] })
initializer_no_expression = record { spells = refl; not_shaped = λ h. grind arith }

-- class A{A(){super((a)++);}}
-- javac takes it; a target stands in no parentheses
super_argument_no_expression : IsUnitRefused (keyword Class ∷ word (codes "A") ∷ symbol OpenBrace ∷ word (codes "A") ∷ symbol OpenParen ∷ symbol CloseParen ∷ symbol OpenBrace ∷ keyword Super ∷ symbol OpenParen ∷ symbol OpenParen ∷ word (codes "a") ∷ symbol CloseParen ∷ symbol PlusPlus ∷ symbol CloseParen ∷ symbol Semicolon ∷ symbol CloseBrace ∷ symbol CloseBrace ∷ [])
    (record { mark = tt; package_name = []; classes = (M.class tt [] (w (codes "A")) None (M.more (M.constructor tt [] (w (codes "A")) ([]) (Some (more (bump tt PostInc (paren tt (v (codes "a")))) end)) S.end) M.end)) ∷ [] })
super_argument_no_expression = record { spells = refl; not_shaped = λ h. grind arith }

-- class A{void m(){(a)=b;}}
-- javac's parser takes it; a target stands in no parentheses
body_no_statement : IsUnitRefused (keyword Class ∷ word (codes "A") ∷ symbol OpenBrace ∷ keyword Void ∷ word (codes "m") ∷ symbol OpenParen ∷ symbol CloseParen ∷ symbol OpenBrace ∷ symbol OpenParen ∷ word (codes "a") ∷ symbol CloseParen ∷ symbol Equals ∷ word (codes "b") ∷ symbol Semicolon ∷ symbol CloseBrace ∷ symbol CloseBrace ∷ [])
    (record { mark = tt; package_name = []; classes = (M.class tt [] (w (codes "A")) None (M.more (M.method tt [] None (w (codes "m")) ([]) (S.more (S.eval tt (assign tt (paren tt (v (codes "a"))) (v (codes "b")))) S.end)) M.end)) ∷ [] })
body_no_statement = record { spells = refl; not_shaped = λ h. grind arith }

-- class A{void m(int a,int b,int c){}}
method_with_three_parameters : BareUnit (keyword Class ∷ word (codes "A") ∷ symbol OpenBrace ∷ keyword Void ∷ word (codes "m") ∷ symbol OpenParen ∷ keyword Int ∷ word (codes "a") ∷ symbol Comma ∷ keyword Int ∷ word (codes "b") ∷ symbol Comma ∷ keyword Int ∷ word (codes "c") ∷ symbol CloseParen ∷ symbol OpenBrace ∷ symbol CloseBrace ∷ symbol CloseBrace ∷ [])
    (record { mark = tt; package_name = []; classes = (M.class tt [] (w (codes "A")) None (M.more (M.method tt [] None (w (codes "m")) (par false (int tt) (codes "a") ∷ par false (int tt) (codes "b") ∷ par false (int tt) (codes "c") ∷ []) S.end) M.end)) ∷ [] })
method_with_three_parameters = record { shaped = grind arith; spells = refl }

-- class A{A(){a+b;}}
-- javac refuses it too: not a statement
constructor_body_no_statement : IsUnitRefused (keyword Class ∷ word (codes "A") ∷ symbol OpenBrace ∷ word (codes "A") ∷ symbol OpenParen ∷ symbol CloseParen ∷ symbol OpenBrace ∷ word (codes "a") ∷ symbol PlusSign ∷ word (codes "b") ∷ symbol Semicolon ∷ symbol CloseBrace ∷ symbol CloseBrace ∷ [])
    (record { mark = tt; package_name = []; classes = (M.class tt [] (w (codes "A")) None (M.more (M.constructor tt [] (w (codes "A")) [] None (S.more (S.eval tt (binary tt Add (v (codes "a")) (v (codes "b")))) S.end)) M.end)) ∷ [] })
constructor_body_no_statement = record { spells = refl; not_shaped = λ h. grind arith }

-- class A{class B extends int{}}
-- javac's parser takes it; a superclass is named
superclass_of_member_class_int : IsUnitRefused (keyword Class ∷ word (codes "A") ∷ symbol OpenBrace ∷ keyword Class ∷ word (codes "B") ∷ keyword Extends ∷ keyword Int ∷ symbol OpenBrace ∷ symbol CloseBrace ∷ symbol CloseBrace ∷ [])
    (record { mark = tt; package_name = []; classes = (M.class tt [] (w (codes "A")) None (M.more (M.inner tt (M.class tt [] (w (codes "B")) (Some (int tt)) M.end)) M.end)) ∷ [] })
superclass_of_member_class_int = record { spells = refl; not_shaped = λ h. grind arith }

-- class A{int a;B(){}}
-- javac refuses it too: invalid method declaration; return type required
second_member_of_another_name : IsUnitRefused (keyword Class ∷ word (codes "A") ∷ symbol OpenBrace ∷ keyword Int ∷ word (codes "a") ∷ symbol Semicolon ∷ word (codes "B") ∷ symbol OpenParen ∷ symbol CloseParen ∷ symbol OpenBrace ∷ symbol CloseBrace ∷ symbol CloseBrace ∷ [])
    (record { mark = tt; package_name = []; classes = (M.class tt [] (w (codes "A")) None (M.more (M.field tt [] (int tt) (w (codes "a")) None) (M.more (M.constructor tt [] (w (codes "B")) [] None S.end) M.end))) ∷ [] })
second_member_of_another_name = record { spells = refl; not_shaped = λ h. grind arith }

-- class A{class B{int a;A(){}}}
-- javac refuses it too: invalid method declaration; return type required
second_member_of_member_class_of_the_outer_name : IsUnitRefused (keyword Class ∷ word (codes "A") ∷ symbol OpenBrace ∷ keyword Class ∷ word (codes "B") ∷ symbol OpenBrace ∷ keyword Int ∷ word (codes "a") ∷ symbol Semicolon ∷ word (codes "A") ∷ symbol OpenParen ∷ symbol CloseParen ∷ symbol OpenBrace ∷ symbol CloseBrace ∷ symbol CloseBrace ∷ symbol CloseBrace ∷ [])
    (record { mark = tt; package_name = []; classes = (M.class tt [] (w (codes "A")) None (M.more (M.inner tt (M.class tt [] (w (codes "B")) None (M.more (M.field tt [] (int tt) (w (codes "a")) None) (M.more (M.constructor tt [] (w (codes "A")) [] None S.end) M.end)))) M.end)) ∷ [] })
second_member_of_member_class_of_the_outer_name = record { spells = refl; not_shaped = λ h. grind arith }

-- class A{}class B{A(){}}
-- javac refuses it too: invalid method declaration; return type required
second_class_with_constructor_of_the_first : IsUnitRefused (keyword Class ∷ word (codes "A") ∷ symbol OpenBrace ∷ symbol CloseBrace ∷ keyword Class ∷ word (codes "B") ∷ symbol OpenBrace ∷ word (codes "A") ∷ symbol OpenParen ∷ symbol CloseParen ∷ symbol OpenBrace ∷ symbol CloseBrace ∷ symbol CloseBrace ∷ [])
    (record { mark = tt; package_name = []; classes = (M.class tt [] (w (codes "A")) None M.end) ∷ (M.class tt [] (w (codes "B")) None (M.more (M.constructor tt [] (w (codes "A")) [] None S.end) M.end)) ∷ [] })
second_class_with_constructor_of_the_first = record { spells = refl; not_shaped = λ h. grind arith }
