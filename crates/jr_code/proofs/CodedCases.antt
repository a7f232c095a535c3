-- Code of small trees, as theorems. What is expected is what the Java Language Specification says of the text.
use Rattle.std.proofs.Common.{◌≡◌, ℕ, [], ◌∷◌, None, Some, false, true, pos, negsuc, refl, inl, inr}
use Rattle.std.specs.Prelude.{codes}
use Rattle.jr_ast.specs.declared.operators.UnOp.TheVariants.{Minus}
use Rattle.jr_ast.specs.declared.operators.BinOp.TheVariants.{And, Add}
use Rattle.jr_ast.specs.declared.operators.BumpOp.TheVariants.{PostInc}
use Rattle.jr_ast.specs.Tree as tree
use Rattle.jr_runs.specs.Values as value
use Rattle.jr_runs.specs.Core as core
use Rattle.jr_table.specs.Keys.{int, class}
use Rattle.jr_table.specs.Decls.{Decl, field_decl, method_decl}
use Rattle.jr_table.specs.Prelude.{object_key}
use Rattle.jr_table.specs.Found.{one, nothing}
use Rattle.jr_table.specs.Context.{scope_of}
use Rattle.jr_table.specs.Binding.{HasType}
use Rattle.jr_table.specs.LookupSample.{a, q}
use Rattle.jr_table.proofs.BindingSamples.{at_mark, w}
use Rattle.jr_code.specs.Coded.{Code, ExpCode, TargetOf, ReceiverCode, RowCode}
use Rattle.jr_code.proofs.CodedSample.{rows, each, f_key, sf_key, h_key, a_m, a_s, q_m, q_new, in_m, here}
use Rattle.jr_code.proofs.CodedFinds.{word_a, f_found, sf_found, a_is_no_variable, a_named, q_named, object_named, a_sf_found, this_h_found, m_found, a_s_found, super_m_found, q_new_found, f_of_objects, sf_static, h_of_objects, a_m_of_objects, a_s_static, q_m_of_objects, q_below_a, q_below_object, object_not_below_q}

abbrev Codes : tree.Exp ℕ → Code → Type 0
Codes e x = ExpCode at_mark rows in_m 0 e x

-- ---- variables

-- `f`: a field of `this`; `sf`: no object
field_name : Codes (tree.name 3 (w 3 (codes "f"))) (core.read (Some (here 3)) (core.field_of (Some (here 3)) (core.this None) f_key))
unfolding ExpCode
field_name = (core.field_of (Some (here 3)) (core.this None) f_key, (field_decl f_key, f_found, inr (f_of_objects, (core.this None, refl, refl))), refl)

static_name : Codes (tree.name 3 (w 3 (codes "sf"))) (core.read (Some (here 3)) (core.static_field (Some (here 3)) sf_key))
unfolding ExpCode
static_name = (core.static_field (Some (here 3)) sf_key, (field_decl sf_key, sf_found, inl (sf_static, refl)), refl)

-- `this.h`, `this.h++`: what stands in front of a field of an object is evaluated
field_keeps_its_object : Codes (tree.field 1 (tree.this 1) (w 6 (codes "h"))) (core.read (Some (here 1)) (core.field_of (Some (here 6)) (core.this (Some (here 1))) h_key))
unfolding ExpCode
field_keeps_its_object = (core.field_of (Some (here 6)) (core.this (Some (here 1))) h_key, (field_decl h_key, this_h_found, inr (h_of_objects, (core.this (Some (here 1)), refl, refl))), refl)

bumped_field : Codes (tree.bump 0 PostInc (tree.field 1 (tree.this 1) (w 6 (codes "h")))) (core.bump (Some (here 0)) core.post_increment (core.field_of (Some (here 6)) (core.this (Some (here 1))) h_key))
unfolding ExpCode TargetOf
bumped_field = (core.field_of (Some (here 6)) (core.this (Some (here 1))) h_key, (field_decl h_key, this_h_found, inr (h_of_objects, (core.this (Some (here 1)), refl, refl))), refl)

-- `A.sf`: what stands in front of a static field isn't evaluated; it is a class, which has no code
static_field_drops_its_class : Codes (tree.field 0 word_a (w 2 (codes "sf"))) (core.read (Some (here 0)) (core.static_field (Some (here 2)) sf_key))
unfolding ExpCode
static_field_drops_its_class = (core.static_field (Some (here 2)) sf_key, (field_decl sf_key, a_sf_found, inl (sf_static, refl)), refl)

class_has_no_code : (x : Code) → Codes word_a x → ⊥
unfolding ExpCode
class_has_no_code x (t, (d, found, code), is) = not_one d (each.variable (scope_of in_m) (codes "A") (one d) nothing found a_is_no_variable)
  where
    not_one : (d : Decl) → one d ≡ nothing → ⊥
    not_one d e = cc

-- ---- calls

-- `m()`: on `this`, and dispatched
call_is_on_this : Codes (tree.call 0 tree.no_target (w 0 (codes "m")) tree.end) (core.instance_call (Some (here 0)) (core.this None) q_m core.Exps.end)
unfolding ExpCode ReceiverCode RowCode
call_is_on_this = (method_decl q_m, core.Exps.end, m_found, refl, inr (q_m_of_objects, (core.this None, refl, refl)))

-- `A.s()`
static_call_drops_its_class : Codes (tree.call 0 (tree.on word_a) (w 2 (codes "s")) tree.end) (core.static_call (Some (here 2)) a_s core.Exps.end)
unfolding ExpCode RowCode
static_call_drops_its_class = (method_decl a_s, core.Exps.end, a_s_found, refl, inl (a_s_static, refl))

-- `super.m()`: of this very method, and not dispatched
super_call_is_not_dispatched : Codes (tree.super_call 0 (w 6 (codes "m")) tree.end) (core.super_call (Some (here 6)) (core.this None) a_m core.Exps.end)
unfolding ExpCode RowCode
super_call_is_not_dispatched = (method_decl a_m, core.Exps.end, super_m_found, refl, inr (a_m_of_objects, refl))

-- `new Q()`, `A.class`
creation : Codes (tree.create 0 (tree.named 4 None (w 4 (codes "Q"))) tree.end) (core.create (Some (here 0)) q q_new core.Exps.end)
unfolding ExpCode RowCode
creation = (q, q_new, core.Exps.end, (q, q_named, refl), q_new_found, refl, refl)

class_literal : Codes (tree.class_literal 0 (tree.named 0 None (w 0 (codes "A")))) (core.literal (Some (here 0)) (value.class_object a))
unfolding ExpCode
class_literal = (a, (a, a_named, refl), refl)

-- ---- casts and parentheses

-- `(1)`, `(int) 1`, `(A) this`: what can't fail is dropped
parentheses_are_dropped : Codes (tree.paren 0 (tree.paren 1 (tree.this 2))) (core.this (Some (here 2)))
unfolding ExpCode
parentheses_are_dropped = refl

cast_of_an_int_is_dropped : Codes (tree.cast 0 (tree.int 1) (tree.number 6 1)) (core.literal (Some (here 6)) (value.int (pos 1)))
unfolding ExpCode HasType
cast_of_an_int_is_dropped = (int, int, core.literal (Some (here 6)) (value.int (pos 1)), refl, refl, refl, inl (inl refl, refl))

cast_to_a_superclass_is_dropped : Codes (tree.cast 0 (tree.named 1 None (w 1 (codes "A"))) (tree.this 4)) (core.this (Some (here 4)))
unfolding ExpCode HasType
cast_to_a_superclass_is_dropped = (class q, class a, core.this (Some (here 4)), refl, (a, a_named, refl), refl, inl (inr q_below_a, refl))

-- `(Q) (Object) this`: the inner one is dropped, the outer one stays, as an Object need not be a Q
cast_to_a_subclass_stays : Codes (tree.cast 0 (tree.named 1 None (w 1 (codes "Q"))) (tree.cast 4 (tree.named 5 None (w 5 (codes "Object"))) (tree.this 13))) (core.cast (Some (here 0)) q (core.this (Some (here 13))))
unfolding ExpCode HasType
cast_to_a_subclass_stays = (
  class object_key,
  class q,
  core.this (Some (here 13)),
  (object_key, object_named, refl),
  (q, q_named, refl),
  (class q, class object_key, core.this (Some (here 13)), refl, (object_key, object_named, refl), refl, inl (inr q_below_object, refl)),
  inr (object_not_below_q, (q, refl, refl)),
)

-- ---- operators

-- `-2147483648`: the literal wraps (JLS 3.10.1), and so does its negation
least_int : Codes (tree.unary 0 Minus (tree.number 1 2147483648)) (core.signed (Some (here 0)) core.minus (core.literal (Some (here 1)) (value.int (negsuc 2147483647))))
unfolding ExpCode
least_int = (core.literal (Some (here 1)) (value.int (negsuc 2147483647)), refl, refl)

-- `true && false`, `sf += 1`, `sf = 1`
both_need_not_be_evaluated : Codes (tree.binary 0 And (tree.truth 0 true) (tree.truth 8 false)) (core.both (Some (here 0)) (core.literal (Some (here 0)) (value.truth true)) (core.literal (Some (here 8)) (value.truth false)))
unfolding ExpCode
both_need_not_be_evaluated = (core.literal (Some (here 0)) (value.truth true), core.literal (Some (here 8)) (value.truth false), refl, refl, refl)

compound_assignment : Codes (tree.compound 0 Add (tree.name 0 (w 0 (codes "sf"))) (tree.number 6 1)) (core.compound (Some (here 0)) core.add (core.static_field (Some (here 0)) sf_key) (core.literal (Some (here 6)) (value.int (pos 1))))
unfolding ExpCode TargetOf
compound_assignment = (core.add, core.static_field (Some (here 0)) sf_key, core.literal (Some (here 6)) (value.int (pos 1)), refl, (field_decl sf_key, sf_found, inl (sf_static, refl)), refl, refl)

assignment : Codes (tree.assign 0 (tree.name 0 (w 0 (codes "sf"))) (tree.number 5 1)) (core.assign (Some (here 0)) (core.static_field (Some (here 0)) sf_key) (core.literal (Some (here 5)) (value.int (pos 1))))
unfolding ExpCode TargetOf
assignment = (core.static_field (Some (here 0)) sf_key, core.literal (Some (here 5)) (value.int (pos 1)), (field_decl sf_key, sf_found, inl (sf_static, refl)), refl, refl)

-- `"a\tb\\n"`: escapes are read (JLS 3.10.6)
escapes_are_read : Codes (tree.string 0 (97 ∷ 92 ∷ 116 ∷ 98 ∷ 92 ∷ 92 ∷ 110 ∷ [])) (core.literal (Some (here 0)) (value.text (97 ∷ 9 ∷ 98 ∷ 92 ∷ 110 ∷ [])))
unfolding ExpCode
escapes_are_read = refl
