-- Small programs in which a method is pulled up: where its row stands, what is in its way, and which
-- text comes of it.
use Rattle.std.proofs.Common.{◌≡◌, ℕ, true, false, List, [], ◌∷◌, ◌++◌, Some, None, codes, refl}
use Rattle.jr_text.specs.declared.spans.Span.{Span}
use Rattle.jr_text.specs.Splices.{splice}
use Rattle.jr_ast.specs.declared.operators.ModWord.{ModWord}
use Rattle.jr_ast.specs.declared.operators.ModWord.TheVariants.{Static, Synchronized}
use Rattle.jr_ast.specs.Tree as tree
use Rattle.jr_table.specs.Keys.{ClassKey, MethodKey, Ty, int, void}
use Rattle.jr_table.specs.Decls.{MemberKey, method, method_decl, class_decl}
use Rattle.jr_table.specs.Rows.{Row}
use Rattle.jr_table.specs.Prelude.{class_row, ctor_row}
use Rattle.jr_rewrite.specs.Rewritten.{change}
use Rattle.jr_rewrite.specs.Woven.{with_changes}
use Rattle.jr_rewrite.specs.Edited.{entries_of}
use Rattle.jr_member_moves.specs.Places.{field_moved, method_moved, rows_with}
use Rattle.jr_member_parts.specs.InTheWay.{is_in_the_way}
use Rattle.jr_member_moves.specs.Texts.{at_byte, open_monitor}
use Rattle.jr_member_moves.specs.Moves.{is_synchronized}

abbrev span : ℕ → ℕ → Span
span from to = record { from = from; to = to }

abbrev top : List ℕ → ClassKey
top name = record { outer = None; name = name }

abbrev B : ClassKey
B = top (codes "B")

abbrev C : ClassKey
C = top (codes "C")

abbrev m : MemberKey
m = method (record { class = C; name = codes "m"; params = [] })

abbrev method_row : List ModWord → ClassKey → Ty → Row
method_row words of result = record {
  decl = method_decl (record { class = of; name = codes "m"; params = [] });
  modifiers = words;
  type = Some result;
  parent = None;
  has_init = false;
}

-- ---- keys: m goes to B; its overload, another name and another class's m stay

abbrev key_of : ClassKey → List ℕ → List Ty → MethodKey
key_of of name params = record { class = of; name = name; params = params }

its_key_goes : method_moved m B (key_of C (codes "m") []) ≡ key_of B (codes "m") []
its_key_goes = refl

an_overload_stays : method_moved m B (key_of C (codes "m") (int ∷ [])) ≡ key_of C (codes "m") (int ∷ [])
an_overload_stays = refl

another_name_stays : method_moved m B (key_of C (codes "n") []) ≡ key_of C (codes "n") []
another_name_stays = refl

another_class_stays : method_moved m B (key_of (top (codes "D")) (codes "m") []) ≡ key_of (top (codes "D")) (codes "m") []
another_class_stays = refl

a_field_of_its_name_stays : field_moved m B (record { class = C; name = codes "m" }) ≡ record { class = C; name = codes "m" }
a_field_of_its_name_stays = refl

-- ---- class B{static class K{}}class C extends B{static synchronized void m(){}}

abbrev K : ClassKey
K = record { outer = Some (codes "B"); name = codes "K" }

abbrev own : Row
own = method_row (Static ∷ Synchronized ∷ []) C void

abbrev class_rows : List Row
class_rows = class_row [] (codes "B") None ∷ ctor_row [] B
    ∷ (record { decl = class_decl K; modifiers = Static ∷ []; type = None; parent = None; has_init = false })
    ∷ ctor_row [] K ∷ []

abbrev behind_rows : List Row
behind_rows = class_row [] (codes "C") (Some B) ∷ ctor_row [] C ∷ []

-- its row stands behind those of the superclass's body, member classes included, and has lost the
-- word
row_goes_up : rows_with is_synchronized m B own (class_rows ++ (behind_rows ++ own ∷ []))
    ≡ class_rows ++ (method_row (Static ∷ []) B void ∷ behind_rows)
row_goes_up = refl

-- a method of its name and parameters is in its way, and a member type of its name; one of another
-- name isn't
own_key_in_the_way : is_in_the_way B m (method_row [] B int) ≡ true
own_key_in_the_way = refl

type_in_the_way : is_in_the_way B m (record { decl = class_decl (record { outer = Some (codes "B"); name = codes "m" }); modifiers = []; type = None; parent = None; has_init = false }) ≡ true
type_in_the_way = refl

other_type_passes : is_in_the_way B m (record { decl = class_decl K; modifiers = []; type = None; parent = None; has_init = false }) ≡ false
other_type_passes = refl

its_old_place_passes : is_in_the_way B m own ≡ false
its_old_place_passes = refl

-- ---- class B{}class C extends B{static synchronized void m(){}}

abbrev text : List ℕ
text = codes "class B{}class C extends B{static synchronized void m(){}}"

abbrev of_C : tree.TypeName Span
of_C = tree.named (span 27 57) None (record { mark = span 27 57; text = codes "C" })

abbrev locked_text : List ℕ
locked_text = with_changes text (span 27 57) (change (span 34 47) []
    ∷ change (at_byte 56) (open_monitor of_C) ∷ change (at_byte 56) (codes "} ") ∷ [])

-- the word goes with its blank, and the body stands in the old class's monitor
body_is_wrapped : locked_text ≡ codes "static void m(){ synchronized (C.class) {} }"
body_is_wrapped = refl

locked_method_goes_up : splice text (entries_of (change (at_byte 8) (codes " " ++ (locked_text ++ codes " ")) ∷ change (span 27 57) [] ∷ []))
    ≡ codes "class B{ static void m(){ synchronized (C.class) {} } }class C extends B{}"
locked_method_goes_up = refl

-- ---- class B{}class C extends B{int m(){return 1;}}

abbrev plain_text : List ℕ
plain_text = codes "class B{}class C extends B{int m(){return 1;}}"

method_goes_up : splice plain_text (entries_of (change (at_byte 8)
    (codes " " ++ (with_changes plain_text (span 27 45) [] ++ codes " ")) ∷ change (span 27 45) [] ∷ []))
    ≡ codes "class B{ int m(){return 1;} }class C extends B{}"
method_goes_up = refl
