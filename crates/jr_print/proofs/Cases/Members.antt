-- Members and their texts.
use Rattle.std.proofs.Common.{◌≡◌, [], ◌∷◌, true, false, Some, None, refl}
use Rattle.std.specs.Prelude.{codes}
use Rattle.std.specs.Fmt.{digits}
use Rattle.jr_ast.specs.declared.operators.BinOp.TheVariants.{Add}
use Rattle.jr_ast.specs.declared.operators.ModWord.TheVariants.{Public, Protected, Private, Static, Final, Volatile, Synchronized}
use Rattle.jr_ast.specs.Tree.{int, boolean, paren, binary, end, more}
use Rattle.jr_ast.specs.StatementTree as S
use Rattle.jr_ast.specs.MemberTree as M
use Rattle.jr_print.specs.MemberText.{printed_member}
use Rattle.jr_print.proofs.Cases.Forms.{w, v, n, minus, ty, ty_in, modifier}

method_with_a_body : printed_member (M.method tt [] (Some (int tt)) (w (codes "m")) (record { mark = tt; is_final = false; type = int tt; name = w (codes "a") } ∷ [])
    (S.more (S.return tt (Some (binary tt Add (minus (paren tt (minus (v (codes "a"))))) (n 1)))) S.end)) ≡ codes "int m(int a) { return -(-a) + 1; }"
unfolding digits
method_with_a_body = refl

method_of_nothing : printed_member (M.method tt (modifier Public ∷ modifier Static ∷ modifier Synchronized ∷ []) None (w (codes "m")) [] S.end) ≡ codes "public static synchronized void m() { }"
method_of_nothing = refl

method_of_three : printed_member (M.method tt (modifier Protected ∷ []) (Some (ty (codes "K"))) (w (codes "m"))
    (record { mark = tt; is_final = true; type = int tt; name = w (codes "a") } ∷ record { mark = tt; is_final = false; type = boolean tt; name = w (codes "b") } ∷ record { mark = tt; is_final = false; type = ty_in (codes "O") (codes "K"); name = w (codes "c") } ∷ [])
    (S.more (S.return tt (Some (v (codes "x")))) S.end)) ≡ codes "protected K m(final int a, boolean b, O.K c) { return x; }"
method_of_three = refl

field_alone : printed_member (M.field tt [] (boolean tt) (w (codes "f")) None) ≡ codes "boolean f;"
field_alone = refl

field_with_a_value : printed_member (M.field tt (modifier Private ∷ modifier Volatile ∷ []) (int tt) (w (codes "f")) (Some (n 0))) ≡ codes "private volatile int f = 0;"
unfolding digits
field_with_a_value = refl

empty_class : printed_member (M.inner tt (M.class tt [] (w (codes "K")) None M.end)) ≡ codes "class K { }"
empty_class = refl

class_with_a_constructor : printed_member (M.inner tt (M.class tt (modifier Static ∷ modifier Final ∷ []) (w (codes "K")) (Some (ty (codes "B")))
    (M.more (M.field tt [] (int tt) (w (codes "f")) None)
    (M.more (M.constructor tt [] (w (codes "K")) (record { mark = tt; is_final = false; type = int tt; name = w (codes "a") } ∷ []) (Some (more (v (codes "a")) end)) (S.more (S.empty tt) S.end)) M.end))))
    ≡ codes "static final class K extends B { int f; K(int a) { super(a); ; } }"
class_with_a_constructor = refl

constructor_of_nothing : printed_member (M.constructor tt (modifier Public ∷ []) (w (codes "K")) [] None S.end) ≡ codes "public K() { }"
constructor_of_nothing = refl

constructor_with_super_alone : printed_member (M.constructor tt [] (w (codes "K")) [] (Some end) S.end) ≡ codes "K() { super(); }"
constructor_with_super_alone = refl
