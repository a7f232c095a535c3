-- Spellings that bind, bound again.
use Rattle.std.proofs.Common.{◌≡◌, ℕ, List, Option, Some, None, false, refl, sym, ap, subst, ◌∙◌, inl, inr}
use Rattle.jr_ast.specs.Tree as tree
use Rattle.jr_table.specs.Keys.{ClassKey, Ty, int, boolean, void, null, class}
use Rattle.jr_table.specs.Decls.{Decl, class_decl, field_decl, method_decl, constructor_decl, local_decl}
use Rattle.jr_table.specs.Rows.{Row}
use Rattle.jr_table.specs.Entries.{class_of}
use Rattle.jr_table.specs.Found.{one}
use Rattle.jr_table.specs.Lookup.{FindsVariable, FindsFieldIn, FindsMethodNamed, FindsMethodOf, FindsLeft, FindsLeftOf}
use Rattle.jr_table.specs.LookupLaws.{EachHasOne}
use Rattle.jr_table.specs.Context.{Context, scope_of, NamesClass, WritesType, IsSuperclass}
use Rattle.jr_table.specs.Binding.{HasType, IsClassName, HaveTypes, TargetFinds, CallFinds}
use Rattle.jr_table.specs.BindingLaws.{IsBound}
use Rattle.jr_spell.specs.declared.references.RefForm.{RefForm}
use Rattle.jr_spell.specs.declared.references.RefForm.TheVariants as ref
use Rattle.jr_spell.specs.declared.spellings.Form.{Form}
use Rattle.jr_spell.specs.declared.spellings.Form.TheVariants.{Asked, OnThis, OnSuper, OnCastThis, OnCastOperand, OnClass, OnOuterClass, Class, OuterClass, ClassInFront, OuterClassInFront}
use Rattle.jr_spell.specs.References.{Operand, Reference, class_of_type, class_of_operand}
use Rattle.jr_spell.specs.Binds.{LeadsTo, ThroughValue, ThroughClass, ThroughCast, ThroughSuperclass, BindsAlone, BindsAsked, Binds, front_word, last_word}
use Rattle.jr_spell.specs.Rebound.{IsVariable, IsCall, IsMemberOn, IsMemberOfSuper, IsThis, IsCast, IsClassWords, IsTypeWords, IsAloneTree, IsAskedTree, IsTree, IsAskedType, IsTypeTree, Fits, IsRebound, AreFronts}
use Rattle.jr_spell.proofs.Shapes.{name_rebound, call_rebound, field_rebound, call_on_rebound, class_field_rebound, class_call_rebound, super_field_rebound, super_call_rebound}

module _ {A : Type 0} (rows : List Row) (c : Context) where
  -- the words in front of a dot are the class's name
  words_name : (outer : Option (List ℕ)) (name : List ℕ) (k : ClassKey) (y : tree.Exp A) → LeadsTo rows (scope_of c) outer name k → IsClassWords outer name y → IsClassName rows c y k
  unfolding IsClassName
  words_name None name k y leads (m, w, text, is) = subst (λ e. IsClassName rows c e k) is
      (subst (λ n. FindsLeft rows (scope_of c) n (one (class_decl k))) (sym text) (inr (leads.0, leads.1)))
  words_name (Some outer) name k y leads (l, m, v, w, front, last, is) = subst (λ e. IsClassName rows c e k) is (
    leads.0,
    subst (λ n. FindsLeft rows (scope_of c) n (one (class_decl leads.0))) (sym front) (inr (leads.1.0, leads.1.1)),
    subst (λ n. FindsLeftOf rows (scope_of c) leads.0 n (one (class_decl k))) (sym last) (inr (leads.2.0, leads.2.1)),
  )

  this_type : (y : tree.Exp A) → IsThis y → HasType rows c y (class (scope_of c).class)
  unfolding HasType
  this_type y (m, is) = subst (λ e. HasType rows c e (class (scope_of c).class)) is refl

  this_no_class : (y : tree.Exp A) → IsThis y → (k : ClassKey) → IsClassName rows c y k → ⊥
  unfolding IsClassName
  this_no_class y (m, is) k named = subst (λ e. IsClassName rows c e k) (sym is) named

  cast_type : (k : ClassKey) (e y : tree.Exp A) → NamesClass rows (scope_of c) None k.name k → IsCast k.name e y → HasType rows c y (class k)
  unfolding HasType
  cast_type k e y named (l, m, n, w, text, is) = subst (λ x. HasType rows c x (class k)) is
      (k, subst (λ name. NamesClass rows (scope_of c) None name k) (sym text) named, refl)

  cast_no_class : (name : List ℕ) (e y : tree.Exp A) → IsCast name e y → (k : ClassKey) → IsClassName rows c y k → ⊥
  unfolding IsClassName
  cast_no_class name e y (l, m, n, w, text, is) k named = subst (λ x. IsClassName rows c x k) (sym is) named

  call_named : (name : List ℕ) (args : tree.Exps A) (ts : List Ty) (d : Decl) → HaveTypes rows c args ts → FindsMethodNamed rows (scope_of c) name ts (one d) → CallFinds rows c tree.no_target name args (one d)
  unfolding TargetFinds
  call_named name args ts d types finds = inl (ts, types, finds)

  call_on_value : (y : tree.Exp A) (k : ClassKey) (name : List ℕ) (args : tree.Exps A) (ts : List Ty) (d : Decl) → HasType rows c y (class k) → ((o : ClassKey) → IsClassName rows c y o → ⊥)
      → HaveTypes rows c args ts → FindsMethodOf rows (scope_of c) k name ts (one d) → CallFinds rows c (tree.on y) name args (one d)
  unfolding TargetFinds
  call_on_value y k name args ts d type not_class types finds = inl (k, inr (not_class, type), inl (ts, types, finds))

  call_on_class : (y : tree.Exp A) (k : ClassKey) (name : List ℕ) (args : tree.Exps A) (ts : List Ty) (d : Decl) → IsClassName rows c y k
      → HaveTypes rows c args ts → FindsMethodOf rows (scope_of c) k name ts (one d) → CallFinds rows c (tree.on y) name args (one d)
  unfolding TargetFinds
  call_on_class y k name args ts d named types finds = inl (k, inl named, inl (ts, types, finds))

module _ {A : Type 0} (begins : A → ℕ → ℕ) (rows : List Row) (c : Context) (one_each : EachHasOne rows) (exact : IsBound A rows c) where
  module _ (args : tree.Exps A) (ts : List Ty) (types : HaveTypes rows c args ts) where
    on_value : (d : Decl) (k : ClassKey) (y x : tree.Exp A) → ThroughValue rows (scope_of c) ts k d → HasType rows c y (class k) → ((o : ClassKey) → IsClassName rows c y o → ⊥)
        → IsMemberOn d y args x → IsRebound begins rows c d x
    on_value (field_decl f) k y x through type not_class (m, w, text, is) = subst (IsRebound begins rows c (field_decl f)) is
        (field_rebound begins rows c one_each exact (field_decl f) m y w
        (inl (k, inr (not_class, type), subst (λ n. FindsFieldIn rows (scope_of c) k n (one (field_decl f))) (sym text) through.finds)) not_class through.instance)
    on_value (method_decl f) k y x through type not_class (m, w, text, is) = subst (IsRebound begins rows c (method_decl f)) is
        (call_on_rebound begins rows c one_each exact (method_decl f) m y w args
        (call_on_value rows c y k w.text args ts (method_decl f) type not_class types (subst (λ n. FindsMethodOf rows (scope_of c) k n ts (one (method_decl f))) (sym text) through.finds)) not_class through.instance)
    on_value (class_decl f) k y x through type not_class member = absurd member
    on_value (constructor_decl f) k y x through type not_class member = absurd member
    on_value (local_decl f) k y x through type not_class member = absurd member

    on_class : (d : Decl) (k : ClassKey) (y x : tree.Exp A) → ThroughClass rows (scope_of c) ts k d → IsClassName rows c y k → IsMemberOn d y args x → IsRebound begins rows c d x
    on_class (field_decl f) k y x through named (m, w, text, is) = subst (IsRebound begins rows c (field_decl f)) is
        (class_field_rebound begins rows c one_each exact (field_decl f) m y w k named
        (subst (λ n. FindsFieldIn rows (scope_of c) k n (one (field_decl f))) (sym text) through.finds) through.static)
    on_class (method_decl f) k y x through named (m, w, text, is) = subst (IsRebound begins rows c (method_decl f)) is
        (class_call_rebound begins rows c one_each exact (method_decl f) m y w args k named
        (call_on_class rows c y k w.text args ts (method_decl f) named types (subst (λ n. FindsMethodOf rows (scope_of c) k n ts (one (method_decl f))) (sym text) through.finds)) through.static)
    on_class (class_decl f) k y x through named member = absurd member
    on_class (constructor_decl f) k y x through named member = absurd member
    on_class (local_decl f) k y x through named member = absurd member

    by_super : (d : Decl) (p : ClassKey) (x : tree.Exp A) → c.is_static ≡ false → IsSuperclass rows (scope_of c).class p → ThroughValue rows (scope_of c) ts p d → IsMemberOfSuper d args x
        → IsRebound begins rows c d x
    by_super (field_decl f) p x object over through (m, w, text, is) = subst (IsRebound begins rows c (field_decl f)) is
        (super_field_rebound begins rows c one_each exact (field_decl f) m w
        (inl (p, over, subst (λ n. FindsFieldIn rows (scope_of c) p n (one (field_decl f))) (sym text) through.finds)) object through.instance)
    by_super (method_decl f) p x object over through (m, w, text, is) = subst (IsRebound begins rows c (method_decl f)) is
        (super_call_rebound begins rows c one_each exact (method_decl f) m w args
        (inl (p, over, inl (ts, types, subst (λ n. FindsMethodOf rows (scope_of c) p n ts (one (method_decl f))) (sym text) through.finds))) object through.instance)
    by_super (class_decl f) p x object over through member = absurd member
    by_super (constructor_decl f) p x object over through member = absurd member
    by_super (local_decl f) p x object over through member = absurd member

    simple_variable : (d : Decl) (name : List ℕ) (x : tree.Exp A) → FindsVariable rows (scope_of c) name (one d) → IsVariable name x → IsRebound begins rows c d x
    simple_variable d name x finds (m, w, text, is) = subst (IsRebound begins rows c d) is
        (name_rebound begins rows c one_each exact d m w (subst (λ n. FindsVariable rows (scope_of c) n (one d)) (sym text) finds))

    simple_method : (d : Decl) (name : List ℕ) (x : tree.Exp A) → FindsMethodNamed rows (scope_of c) name ts (one d) → IsCall name args x → IsRebound begins rows c d x
    simple_method d name x finds (m, w, text, is) = subst (IsRebound begins rows c d) is
        (call_rebound begins rows c one_each exact d m w args
        (call_named rows c w.text args ts d types (subst (λ n. FindsMethodNamed rows (scope_of c) n ts (one d)) (sym text) finds)))

  operand_type : (e : tree.Exp A) (p : Operand) (o : ClassKey) (t : Ty) → p.ty ≡ t → class_of_type t ≡ Some o → HasType rows c e p.ty → HasType rows c e (class o)
  operand_type e p o int is h type = absurd cc
  operand_type e p o boolean is h type = absurd cc
  operand_type e p o void is h type = absurd cc
  operand_type e p o null is h type = absurd cc
  operand_type e p o (class k) is h type = let same : k ≡ o = cc in subst (HasType rows c e) (is ∙ ap class same) type

  operand_has : (e : tree.Exp A) (m : Option Operand) (o : ClassKey) → class_of_operand m ≡ Some o → ((p : Operand) → m ≡ Some p → HasType rows c e p.ty) → HasType rows c e (class o)
  operand_has e None o h each = absurd cc
  operand_has e (Some p) o h each = operand_type e p o p.ty refl h (each p refl)

  pub through_rebinds : (r : Reference) (d : Decl) (k : ClassKey) (e : tree.Exp A) (args : tree.Exps A) (x : tree.Exp A) → BindsAsked rows (scope_of c) r d ref.ThroughClass
      → class_of_operand r.operand ≡ Some k → IsClassName rows c e k → HaveTypes rows c args r.args → IsMemberOn d e args x → IsRebound begins rows c d x
  through_rebinds r d k e args x (b, is, found, (q, of_q, through)) of_k named types member =
      let p : Some k ≡ Some q = sym of_k ∙ of_q in
      let same : k ≡ q = cc in
      on_class args r.args types d q e x through (subst (λ (z : ClassKey). IsClassName rows c e z) same named) member

  module _ (r : Reference) (d : Decl) (e : tree.Exp A) (args : tree.Exps A) (fits : Fits begins rows c r e args) where
    on_operand : (x : tree.Exp A) (o : ClassKey) → class_of_operand r.operand ≡ Some o → ThroughValue rows (scope_of c) r.args o d → IsMemberOn d e args x → IsRebound begins rows c d x
    on_operand x o is through member = on_value args r.args fits.have_types d o e x through (operand_has e r.operand o is fits.has_type) fits.value member

    on_cast : (o : ClassKey) (y z x : tree.Exp A) → ThroughCast rows (scope_of c) r.args o d → IsCast (class_of d).name y z → IsMemberOn d z args x → IsRebound begins rows c d x
    on_cast o y z x through cast member =
        on_value args r.args fits.have_types d (class_of d) z x through.member (cast_type rows c (class_of d) y z through.named cast) (cast_no_class rows c (class_of d).name y z cast) member

    on_super : (x : tree.Exp A) → c.is_static ≡ false → ThroughSuperclass rows (scope_of c) r d → IsMemberOfSuper d args x → IsRebound begins rows c d x
    on_super x object (p, over, through) member = by_super args r.args fits.have_types d p x object over through member

    alone : (k : Decl) (x : tree.Exp A) → BindsAlone rows (scope_of c) r d k → IsAloneTree r d e args k x → IsRebound begins rows c d x
    alone (local_decl k) x finds shape = simple_variable args r.args fits.have_types d r.asked x finds shape
    alone (method_decl k) x finds shape = on_super x finds.0 finds.1 shape
    alone (class_decl k) x finds shape = absurd shape
    alone (field_decl k) x finds shape = absurd shape
    alone (constructor_decl k) x finds shape = absurd shape

    asked : (f : RefForm) (x : tree.Exp A) → BindsAsked rows (scope_of c) r d f → IsAskedTree r d e args f x → IsRebound begins rows c d x
    asked ref.FieldSimple x finds shape = simple_variable args r.args fits.have_types d r.asked x finds shape
    asked ref.FieldOn x (o, is, through) shape = on_operand x o is through shape
    asked ref.FieldSuper x finds shape = on_super x finds.0 finds.1 shape
    asked ref.ThroughClass x finds shape = absurd shape
    asked ref.MethodSimple x finds shape = simple_method args r.args fits.have_types d r.asked x finds shape
    asked ref.MethodOn x (o, is, through) shape = on_operand x o is through shape
    asked ref.ClassName x finds shape = absurd shape
    asked ref.ClassInFront x finds shape = absurd shape
    asked ref.AsAsked x finds shape = alone d x finds shape

    pub rebinds : (f : Form) (x : tree.Exp A) → Binds rows (scope_of c) r d f → IsTree r d e args f x → IsRebound begins rows c d x
    rebinds Asked x finds shape = asked r.form x finds shape
    rebinds OnThis x (object, through) (y, this, member) =
        on_value args r.args fits.have_types d (scope_of c).class y x through (this_type rows c y this) (this_no_class rows c y this) member
    rebinds OnSuper x finds shape = on_super x finds.0 finds.1 shape
    rebinds OnCastThis x (object, through) (y, z, this, cast, member) = on_cast (scope_of c).class y z x through cast member
    rebinds OnCastOperand x (o, is, through) (z, cast, member) = on_cast o e z x through cast member
    rebinds OnClass x (leads, through) (y, words, member) =
        on_class args r.args fits.have_types d (class_of d) y x through (words_name rows c None (class_of d).name (class_of d) y leads words) member
    rebinds OnOuterClass x (outer, has, leads, through) (front, y, is, words, member) =
        let e : Some outer ≡ Some front = sym has ∙ is in
        let same : outer ≡ front = cc in
        on_class args r.args fits.have_types d (class_of d) y x through
        (words_name rows c (Some front) (class_of d).name (class_of d) y (subst (λ o. LeadsTo rows (scope_of c) (Some o) (class_of d).name (class_of d)) same leads) words) member
    rebinds Class x finds shape = absurd shape
    rebinds OuterClass x finds shape = absurd shape
    rebinds ClassInFront x finds shape = absurd shape
    rebinds OuterClassInFront x finds shape = absurd shape

module _ {A : Type 0} (rows : List Row) (c : Context) (r : Reference) (d : Decl) where
  written : (outer : Option (List ℕ)) (name : List ℕ) (k : ClassKey) (u : tree.TypeName A) → NamesClass rows (scope_of c) outer name k → IsTypeWords outer name u → WritesType rows (scope_of c) u (class k)
  written None name k u named (m, w, text, is) = subst (λ u. WritesType rows (scope_of c) u (class k)) is
      (k, subst (λ n. NamesClass rows (scope_of c) None n k) (sym text) named, refl)
  written (Some outer) name k u named (m, v, w, front, last, is) = subst (λ u. WritesType rows (scope_of c) u (class k)) is
      (k, subst (λ o. NamesClass rows (scope_of c) (Some o) w.text k) (sym front) (subst (λ n. NamesClass rows (scope_of c) (Some outer) n k) (sym last) named), refl)

  asked_class : (f : RefForm) (u : tree.TypeName A) → BindsAsked rows (scope_of c) r d f → IsAskedType r d f u → WritesType rows (scope_of c) u (class (class_of d))
  asked_class ref.ClassName u named words = written (front_word r.asked) (last_word r.asked) (class_of d) u named words
  asked_class ref.ClassInFront u named words = absurd words
  asked_class ref.FieldSimple u named words = absurd words
  asked_class ref.FieldOn u named words = absurd words
  asked_class ref.FieldSuper u named words = absurd words
  asked_class ref.ThroughClass u named words = absurd words
  asked_class ref.MethodSimple u named words = absurd words
  asked_class ref.MethodOn u named words = absurd words
  asked_class ref.AsAsked u named words = absurd words

  pub class_rebinds : (f : Form) (u : tree.TypeName A) → Binds rows (scope_of c) r d f → IsTypeTree r d f u → WritesType rows (scope_of c) u (class (class_of d))
  class_rebinds Asked u named words = asked_class r.form u named words
  class_rebinds Class u named words = written None (class_of d).name (class_of d) u named words
  class_rebinds OuterClass u (outer, has, named) (front, is, words) =
      let e : Some outer ≡ Some front = sym has ∙ is in
      let same : outer ≡ front = cc in
      written (Some front) (class_of d).name (class_of d) u (subst (λ o. NamesClass rows (scope_of c) (Some o) (class_of d).name (class_of d)) same named) words
  class_rebinds ClassInFront u named words = absurd words
  class_rebinds OuterClassInFront u named words = absurd words
  class_rebinds OnThis u named words = absurd words
  class_rebinds OnSuper u named words = absurd words
  class_rebinds OnCastThis u named words = absurd words
  class_rebinds OnCastOperand u named words = absurd words
  class_rebinds OnClass u named words = absurd words
  class_rebinds OnOuterClass u named words = absurd words

pub fronts_rebind : {A : Type 0} (rows : List Row) (c : Context) → AreFronts A rows c
fronts_rebind {A} rows c = record {
  words = λ outer name k y leads shape. words_name rows c outer name k y leads shape;
  type = λ k e y named cast. cast_type rows c k e y named cast;
  value = λ name e y cast k named. cast_no_class rows c name e y cast k named;
}
