-- The code of an expression that breaks no rule is well typed: it has each type of runs that a value of its type may stand for.
use Rattle.std.proofs.Common.{◌≡◌, ℕ, List, [], ◌∷◌, map, Option, Some, None, Bool, false, refl, sym, ap, subst, ◌∙◌, inl, inr}
use Rattle.std.specs.Prelude.{◌⊎◌, codes, IsTrue, ℤ, pos, option_and_then}
use Rattle.jr_ast.specs.declared.operators.UnOp.{UnOp}
use Rattle.jr_ast.specs.declared.operators.UnOp.TheVariants as sign
use Rattle.jr_ast.specs.declared.operators.BinOp.{BinOp}
use Rattle.jr_ast.specs.declared.operators.BinOp.TheVariants as op
use Rattle.jr_ast.specs.Tree as tree
use Rattle.jr_runs.specs.Values as value
use Rattle.jr_runs.specs.Values.{int_type, boolean_type, reference}
use Rattle.jr_runs.specs.Rows as core_rows
use Rattle.jr_runs.specs.Core as core
use Rattle.jr_runs.specs.Arithmetic.{wrapped}
use Rattle.jr_runs.specs.Translation.{unescaped, sign_of, operation}
use Rattle.jr_runs.specs.Typing as typing
use Rattle.jr_runs.specs.Typing.{Gives, type_of, TargetHas}
use Rattle.jr_runs.proofs.IntRange.{wrapped_fits}
use Rattle.jr_table.specs.Keys.{ClassKey, FieldKey, MethodKey, CtorKey, Ty, int, boolean, void, null, class}
use Rattle.jr_table.specs.Decls.{LocalKey, Decl, field_decl, method_decl, constructor_decl, local_decl}
use Rattle.jr_table.specs.Rows.{Row}
use Rattle.jr_table.specs.Prelude.{top_key}
use Rattle.jr_table.specs.Entries.{IsRowOf}
use Rattle.jr_table.specs.Conditions.{AreRows}
use Rattle.jr_table.specs.Keyed.{IsSubclass, IsAssignable}
use Rattle.jr_table.specs.Found.{one}
use Rattle.jr_table.specs.Scope.{FindsLocal}
use Rattle.jr_table.specs.Lookup.{FindsVariable, find_variable}
use Rattle.jr_table.specs.LookupLaws.{EachHasOne, KeysAreFound}
use Rattle.jr_table.specs.Context.{Context, scope_of, IsTypeOf, IsStaticDecl, IsInstanceDecl, IsSuperclass}
use Rattle.jr_table.specs.Binding.{sign_type, operator_type, HasType, HaveTypes, IsClassName, TargetFinds, FieldFinds, SuperFieldFinds, CallFinds, SuperCallFinds, CreationFinds, Role, value as a_value, left}
use Rattle.jr_table.specs.Somewhere.{Somewhere, InTarget, InRow}
use Rattle.jr_table.specs.ExpressionRules.{ExpBreaks, IsReference, Both, Equates, Takes, TakesOne, Suits, Casts}
use Rattle.jr_table.specs.Meanings.{field_found, call_found, target_found, class_on, own_superclass, types_of, written_type}
use Rattle.jr_table.specs.Meanings as meaning
use Rattle.jr_table.specs.Notes.{is_ty, are_ty, suits, comparable, takes, takes_one}
use Rattle.jr_table.specs.declared.rules.Rule.{Rule}
use Rattle.jr_table.specs.declared.rules.Rule.TheVariants as rule
use Rattle.jr_table.proofs.TypeTests.{both_iff, takes_iff, takes_one_iff, int_iff, assigned_iff, casts_iff}
use Rattle.jr_table.proofs.Typing.{typed}
use Rattle.jr_table.proofs.ReferenceLaws.{field_finds, super_field_finds, call_finds, super_call_finds}
use Rattle.jr_code.specs.RunKeys.{RunKeys, Place}
use Rattle.jr_code.specs.RunRows.{run_type, held_type, param_type, AreRunRows}
use Rattle.jr_code.specs.Coded.{Code, TargetCode, IsOwn, FieldCode, VariableCode, CallCode, SuperCallCode, place, NameTarget, SuperTarget, DottedTarget, ExpCode, TargetOf, ReceiverCode, RowCode}
use Rattle.jr_code.proofs.OneFound.{decided_one, written_once, class_once}
use Rattle.jr_sound_code.proofs.Finding.{AllAssign, PlainThere, FieldThere, VariableThere, MethodThere, variable_there, field_in, method_of, method_named, ctor_of}
use Rattle.jr_sound_code.proofs.Answers.{surely, is_false}
use Rattle.jr_sound_code.proofs.StatementsStand.{CleanExp, CleanRow}
use Rattle.jr_sound_code.proofs.Fitting.{RunTy, parent_above, subclass_trans, Proper, AllProper, ProperRows, assigns_trans, Goes, Claims, itself, goes_class, goes_null, goes_int, goes_boolean, some_run, gives_claim, gives_result, field_type_is}

-- the locals of a place have types, but for the one in whose initializer it stands
abbrev pub LocalsTyped : List Row → Context → List (ℕ × RunTy) → Type 0
LocalsTyped rows c G = (k : LocalKey) (name : List ℕ) → FindsLocal (scope_of c).locals name k → (c.own ≡ Some k → ⊥)
    → (U : RunTy) × (type_of G k.number ≡ Some U) × ((t : Ty) → IsTypeOf rows c (local_decl k) t → run_type t ≡ Some U)

module _ {A : Type 0} (begins : A → ℕ → ℕ) (rows : List Row) (are : AreRows rows) (each : EachHasOne rows) (found : KeysAreFound rows) (R : core_rows.Rows RunKeys) (run : AreRunRows rows R) (proper : ProperRows rows)
    (c : Context) (G : List (ℕ × RunTy)) (C : Option ClassKey) (locals : LocalsTyped rows c G) (object : c.is_static ≡ false → C ≡ Some (scope_of c).class) where
  abbrev Typed : Code → Option RunTy → Type 0
  Typed x T = typing.HasType R G C x T

  abbrev Has : tree.Exp A → Ty → Type 0
  Has e t = HasType rows c e t

  abbrev Wants : tree.Exp A → Option RunTy → Type 0
  Wants e T = Claims rows (Has e) T

  -- ---- literals and `this`

  is_below : (a b : ClassKey) → (a ≡ b) ⊎ IsSubclass rows a b → IsTrue (R.is_subclass a b)
  is_below a b h = (run.is_subclass a b).1 h

  number_typed : (p : Place) (z : ℤ) (T : Option RunTy) → Claims rows (λ t. t ≡ int) T → Typed (core.literal (Some p) (value.int (wrapped z))) T
  number_typed p z None h = tt
  number_typed p z (Some V) (t, is, goes) =
      let same = goes_int rows V (subst (λ (u : Ty). Goes rows u V) is goes) in
      subst (λ (W : RunTy). Typed (core.literal (Some p) (value.int (wrapped z))) (Some W)) (sym same) (wrapped_fits z)

  truth_typed : (p : Place) (b : Bool) (T : Option RunTy) → Claims rows (λ t. t ≡ boolean) T → Typed (core.literal (Some p) (value.truth b)) T
  truth_typed p b None h = tt
  truth_typed p b (Some V) (t, is, goes) =
      let same = goes_boolean rows V (subst (λ (u : Ty). Goes rows u V) is goes) in
      subst (λ (W : RunTy). Typed (core.literal (Some p) (value.truth b)) (Some W)) (sym same) refl

  null_typed : (p : Place) (T : Option RunTy) → Claims rows (λ t. t ≡ null) T → Typed (core.literal (Some p) value.null) T
  null_typed p None h = tt
  null_typed p (Some V) (t, is, goes) =
      let d = goes_null rows V (subst (λ (u : Ty). Goes rows u V) is goes) in
      subst (λ (W : RunTy). Typed (core.literal (Some p) value.null) (Some W)) (sym d.1) refl

  text_typed : (p : Place) (s : List ℕ) (T : Option RunTy) → Claims rows (λ t. t ≡ class (top_key (codes "String"))) T → Typed (core.literal (Some p) (value.text s)) T
  text_typed p s None h = tt
  text_typed p s (Some V) (t, is, goes) =
      let d = goes_class rows (top_key (codes "String")) V (subst (λ (u : Ty). Goes rows u V) is goes) in
      subst (λ (W : RunTy). Typed (core.literal (Some p) (value.text s)) (Some W)) (sym d.1)
      (subst (λ (k : ClassKey). IsTrue (R.is_subclass k d.0)) (sym run.text_class) (is_below (top_key (codes "String")) d.0 d.2))

  object_typed : (k : ClassKey) (T : Option RunTy) → Claims rows (λ t. t ≡ class (top_key (codes "Class"))) T → (at : Option Place) → Typed (core.literal at (value.class_object k)) T
  object_typed k None h at = tt
  object_typed k (Some V) (t, is, goes) at =
      let d = goes_class rows (top_key (codes "Class")) V (subst (λ (u : Ty). Goes rows u V) is goes) in
      subst (λ (W : RunTy). Typed (core.literal at (value.class_object k)) (Some W)) (sym d.1)
      (subst (λ (j : ClassKey). IsTrue (R.is_subclass j d.0)) (sym run.class_class) (is_below (top_key (codes "Class")) d.0 d.2))

  this_gives : (at : Option Place) (T : Option RunTy) → c.is_static ≡ false → Gives R (Some (reference (scope_of c).class)) T → Typed (core.this at) T
  this_gives at T is h = subst (λ (D : Option ClassKey). typing.ThisHas R D T) (sym (object is)) h

  -- `this`, where a class above is wanted
  pub this_above : (at : Option Place) (k : ClassKey) → c.is_static ≡ false → ((scope_of c).class ≡ k) ⊎ IsSubclass rows (scope_of c).class k → Typed (core.this at) (Some (reference k))
  this_above at k is h = this_gives at (Some (reference k)) is (is_below (scope_of c).class k h)

  own_above : (z : Code) → IsOwn z → (k : ClassKey) → c.is_static ≡ false → ((scope_of c).class ≡ k) ⊎ IsSubclass rows (scope_of c).class k → Typed z (Some (reference k))
  own_above z is k no_static h = subst (λ (y : Code). Typed y (Some (reference k))) (sym is) (this_above None k no_static h)

  -- ---- targets

  -- it has just this type, which is that of binding
  abbrev TargetTyped : (Ty → Type 0) → TargetCode → Type 0
  TargetTyped H t = (U : RunTy) × TargetHas R G C t U × ((s : Ty) → H s → run_type s ≡ Some U)

  read_typed : (H : Ty → Type 0) (at : Option Place) (t : TargetCode) → TargetTyped H t → (T : Option RunTy) → Claims rows H T → Typed (core.read at t) T
  read_typed H at t (U, has, is) T h = (U, has, gives_claim rows R run H U is T h)

  field_target : (k : FieldKey) (Operand : Code → Type 0) (p : Place) (t : TargetCode) → FieldCode rows Operand (field_decl k) p t → (IsInstanceDecl rows (field_decl k) → (z : Code) → Operand z → (d : ClassKey) × Typed z (Some (reference d)))
      → TargetTyped (λ s. IsTypeOf rows c (field_decl k) s) t
  field_target k Operand p t (inl (static, is)) operand = (R.field_type k, subst (λ (u : TargetCode). TargetHas R G C u (R.field_type k)) (sym is) refl, field_type_is rows R run proper c k)
  field_target k Operand p t (inr (instance, (z, code, is))) operand =
      let d = operand instance z code in
      (R.field_type k, subst (λ (u : TargetCode). TargetHas R G C u (R.field_type k)) (sym is) (d.0, d.1, refl), field_type_is rows R run proper c k)

  target_by : (H I : Ty → Type 0) (t : TargetCode) → ((s : Ty) → H s → I s) → TargetTyped I t → TargetTyped H t
  target_by H I t f (U, has, is) = (U, has, λ s h. is s (f s h))

  name_target : (r : Role) (b i : ℕ) (m : A) (w : tree.Word A) (t : TargetCode) → CleanExp begins rows c r b (tree.name m w) → NameTarget begins rows c i m w t → TargetTyped (Has (tree.name m w)) t
  unfolding HasType Somewhere
  name_target r b i m w t clean (d, finds, code) = target_by (Has (tree.name m w)) (λ s. IsTypeOf rows c d s) t once (by (variable_there rows are (scope_of c) w.text d finds))
    where
      once : (s : Ty) → Has (tree.name m w) s → IsTypeOf rows c d s
      once s (e, other, is) = subst (λ (z : Decl). IsTypeOf rows c z s) (decided_one (find_variable rows (scope_of c) w.text) (FindsVariable rows (scope_of c) w.text) (found.variable (scope_of c) w.text) e d other finds) is

      of_local : (k : LocalKey) → FindsLocal (scope_of c).locals w.text k → d ≡ local_decl k → TargetTyped (λ s. IsTypeOf rows c d s) t
      of_local k local is =
          let known = locals k w.text local (λ own. clean _ rule.Forward (refl, (local_decl k, subst (λ (z : Decl). FindsVariable rows (scope_of c) w.text (one z)) is finds, own))) in
          let code_is : t ≡ core.local (Some (place begins rows c (begins w.mark (begins m i)))) k.number = subst (λ (z : Decl). VariableCode rows z (place begins rows c (begins w.mark (begins m i))) t) is code in
          (known.0, subst (λ (u : TargetCode). TargetHas R G C u known.0) (sym code_is) known.1, λ s h. known.2 s (subst (λ (z : Decl). IsTypeOf rows c z s) is h))

      of_field : (f : FieldThere rows are d) → (IsInstanceDecl rows d → c.is_static ≡ false) → TargetTyped (λ s. IsTypeOf rows c d s) t
      of_field f no_static =
          target_by (λ s. IsTypeOf rows c d s) (λ s. IsTypeOf rows c (field_decl f.key) s) t (λ s h. subst (λ (z : Decl). IsTypeOf rows c z s) f.is h)
          (field_target f.key IsOwn (place begins rows c (begins w.mark (begins m i))) t (subst (λ (z : Decl). VariableCode rows z (place begins rows c (begins w.mark (begins m i))) t) f.is code)
          (λ instance z own. ((scope_of c).class, own_above z own (scope_of c).class (no_static (subst (IsInstanceDecl rows) (sym f.is) instance)) (inl refl))))

      by : VariableThere rows are (scope_of c) w.text d → TargetTyped (λ s. IsTypeOf rows c d s) t
      by (inl (k, local, is)) = of_local k local is
      by (inr (f, no_static)) = of_field f no_static

  super_target : (r : Role) (b i : ℕ) (m : A) (w : tree.Word A) (t : TargetCode) → CleanExp begins rows c r b (tree.super_field m w) → SuperTarget begins rows c i m w t → TargetTyped (Has (tree.super_field m w)) t
  unfolding HasType Somewhere
  super_target r b i m w t clean (d, finds, code) = target_by (Has (tree.super_field m w)) (λ s. IsTypeOf rows c (field_decl (there finds).key) s) t once
      (field_target (there finds).key IsOwn (place begins rows c (begins w.mark (begins m i))) t (subst (λ (z : Decl). FieldCode rows IsOwn z (place begins rows c (begins w.mark (begins m i))) t) (there finds).is code)
      (λ instance z own. ((scope_of c).class, own_above z own (scope_of c).class (is_false c.is_static (λ is. clean _ rule.StaticContext (inr (is, refl)))) (inl refl))))
    where
      there : SuperFieldFinds rows c w.text (one d) → FieldThere rows are d
      there (inl (k, over, g)) = field_in rows are (scope_of c) k w.text d g
      there (inr (not, is)) = absurd cc

      once : (s : Ty) → Has (tree.super_field m w) s → IsTypeOf rows c (field_decl (there finds).key) s
      once s (e, other, is) = subst (λ (z : Decl). IsTypeOf rows c z s) (decided_one (field_found rows c (own_superclass rows c) w.text) (SuperFieldFinds rows c w.text) (super_field_finds rows are found c w.text) e d other finds ∙ (there finds).is) is

  -- behind a dot, where what stands in front is typed as a class
  dotted_target : (r : Role) (b i : ℕ) (m : A) (e : tree.Exp A) (w : tree.Word A) (t : TargetCode) → ((at : ℕ) (q : Rule) → ExpBreaks begins rows c r b (tree.field m e w) at q → ⊥)
      → ((z : Code) → ExpCode begins rows c (begins m i) e z → (k : ClassKey) → Has e (class k) → Typed z (Some (reference k)))
      → DottedTarget begins rows c (λ z. ExpCode begins rows c (begins m i) e z) i m e w t → TargetTyped (Has (tree.field m e w)) t
  unfolding HasType
  dotted_target r b i m e w t clean operand (d, finds, code) = target_by (Has (tree.field m e w)) (λ s. IsTypeOf rows c (field_decl (there finds).key) s) t once
      (field_target (there finds).key (λ z. ExpCode begins rows c (begins m i) e z) (place begins rows c (begins w.mark (begins m i))) t
      (subst (λ (z : Decl). FieldCode rows (λ y. ExpCode begins rows c (begins m i) e y) z (place begins rows c (begins w.mark (begins m i))) t) (there finds).is code) (on finds))
    where
      there : FieldFinds rows c e w.text (one d) → FieldThere rows are d
      there (inl (k, o, g)) = field_in rows are (scope_of c) k w.text d g
      there (inr (not, is)) = absurd cc

      on : (f : FieldFinds rows c e w.text (one d)) → IsInstanceDecl rows (field_decl (there f).key) → (z : Code) → ExpCode begins rows c (begins m i) e z → (k : ClassKey) × Typed z (Some (reference k))
      on (inl (k, inl named, g)) instance z coded = absurd (clean _ rule.InstanceThroughType (refl, (d, (inl (k, inl named, g), (k, named)), subst (IsInstanceDecl rows) (sym (there (inl (k, inl named, g))).is) instance)))
      on (inl (k, inr (not, has), g)) instance z coded = (k, operand z coded k has)
      on (inr (not, is)) instance z coded = absurd cc

      once : (s : Ty) → Has (tree.field m e w) s → IsTypeOf rows c (field_decl (there finds).key) s
      once s (x, other, is) = subst (λ (z : Decl). IsTypeOf rows c z s) (decided_one (field_found rows c (class_on rows c e) w.text) (FieldFinds rows c e w.text) (field_finds rows are found c e w.text) x d other finds ∙ (there finds).is) is

  -- ---- calls

  result_is : (k : MethodKey) (t : Ty) → IsTypeOf rows c (method_decl k) t → (R.result k ≡ run_type t) × (Proper t ⊎ (t ≡ void))
  result_is k t (j, i, is) = (run.result k j i ∙ ap (λ (o : Option Ty). option_and_then run_type o) is, proper.result k j i t is)

  abbrev RowTyped : core.Exps RunKeys → List RunTy → Type 0
  RowTyped es Ts = typing.HaveTypes R G C es Ts

  static_typed : (H : Ty → Type 0) (k : MethodKey) (j : ℕ) → IsRowOf rows (method_decl k) j → ((t : Ty) → H t → IsTypeOf rows c (method_decl k) t) → IsStaticDecl rows (method_decl k) → (p : Option Place) (es : core.Exps RunKeys) → RowTyped es (map param_type k.params)
      → (T : Option RunTy) → Claims rows H T → Typed (core.static_call p k es) T
  static_typed H k j row once static p es args T h =
      ((run.has_method k).1 (j, row), run.static k static, subst (RowTyped es) (sym (run.params k (j, row))) args, gives_result rows R run H (R.result k) (λ t a. result_is k t (once t a)) T h)

  instance_typed : (H : Ty → Type 0) (k : MethodKey) (j : ℕ) → IsRowOf rows (method_decl k) j → ((t : Ty) → H t → IsTypeOf rows c (method_decl k) t) → IsInstanceDecl rows (method_decl k) → (p : Option Place) (z : Code) → Typed z (Some (reference k.class))
      → (es : core.Exps RunKeys) → RowTyped es (map param_type k.params) → (T : Option RunTy) → Claims rows H T → Typed (core.instance_call p z k es) T
  instance_typed H k j row once instance p z receiver es args T h =
      (k.class, (run.has_method k).1 (j, row), run.instance k instance, receiver, subst (RowTyped es) (sym (run.params k (j, row))) args, gives_result rows R run H (R.result k) (λ t a. result_is k t (once t a)) T h)

  super_typed : (H : Ty → Type 0) (k : MethodKey) (j : ℕ) → IsRowOf rows (method_decl k) j → ((t : Ty) → H t → IsTypeOf rows c (method_decl k) t) → IsInstanceDecl rows (method_decl k) → (p : Option Place) (z : Code) → Typed z (Some (reference k.class))
      → (es : core.Exps RunKeys) → RowTyped es (map param_type k.params) → (T : Option RunTy) → Claims rows H T → Typed (core.super_call p z k es) T
  super_typed H k j row once instance p z receiver es args T h =
      (k.class, (run.has_method k).1 (j, row), run.instance k instance, receiver, subst (RowTyped es) (sym (run.params k (j, row))) args, gives_result rows R run H (R.result k) (λ t a. result_is k t (once t a)) T h)

  -- ---- operators

  whole : (W : RunTy) (t : Ty) → run_type t ≡ Some W → (T : Option RunTy) → Claims rows (λ s. s ≡ t) T → Gives R (Some W) T
  whole W t is T h = gives_claim rows R run (λ s. s ≡ t) W (λ s e. ap run_type e ∙ is) T h

  equal_types : (l r : tree.Exp A) (x z : Code) → Equates rows c l r → ((t : Ty) → Has l t → (V : RunTy) → Goes rows t V → Typed x (Some V)) → ((t : Ty) → Has r t → (V : RunTy) → Goes rows t V → Typed z (Some V))
      → (U : RunTy) × (V : RunTy) × Typed x (Some U) × Typed z (Some V)
  equal_types l r x z (inl both) f g = (int_type, int_type, f int both.0 int_type (itself rows int int_type refl), g int both.1 int_type (itself rows int int_type refl))
  equal_types l r x z (inr (inl both)) f g = (boolean_type, boolean_type, f boolean both.0 boolean_type (itself rows boolean boolean_type refl), g boolean both.1 boolean_type (itself rows boolean boolean_type refl))
  equal_types l r x z (inr (inr (t, u, ht, hu, refs))) f g = let a = some_run rows t refs.0 in let b = some_run rows u refs.1 in (a.0, b.0, f t ht a.0 a.1, g u hu b.0 b.1)

  two : (t : Ty) (W : RunTy) → run_type t ≡ Some W → (l r : tree.Exp A) (x z : Code) → Both rows c t l r → ((t : Ty) → Has l t → (V : RunTy) → Goes rows t V → Typed x (Some V)) → ((t : Ty) → Has r t → (V : RunTy) → Goes rows t V → Typed z (Some V)) → Typed x (Some W) × Typed z (Some W)
  two t W is l r x z both f g = (f t both.0 W (itself rows t W is), g t both.1 W (itself rows t W is))

  binary_typed : (o : BinOp) (p : Place) (l r : tree.Exp A) (x z : Code) → Takes rows c o l r → ((t : Ty) → Has l t → (V : RunTy) → Goes rows t V → Typed x (Some V)) → ((t : Ty) → Has r t → (V : RunTy) → Goes rows t V → Typed z (Some V))
      → (T : Option RunTy) → Claims rows (λ t. t ≡ operator_type o) T → Typed (operation p o x z) T
  binary_typed op.Or p l r x z takes f g T h = let q = two boolean boolean_type refl l r x z takes f g in (q.0, q.1, whole boolean_type boolean refl T h)
  binary_typed op.And p l r x z takes f g T h = let q = two boolean boolean_type refl l r x z takes f g in (q.0, q.1, whole boolean_type boolean refl T h)
  binary_typed op.Eq p l r x z takes f g T h = let q = equal_types l r x z takes f g in (q.0, q.1, q.2, q.3, whole boolean_type boolean refl T h)
  binary_typed op.Ne p l r x z takes f g T h = let q = equal_types l r x z takes f g in (q.0, q.1, q.2, q.3, whole boolean_type boolean refl T h)
  binary_typed op.Lt p l r x z takes f g T h = let q = two int int_type refl l r x z takes f g in (q.0, q.1, whole boolean_type boolean refl T h)
  binary_typed op.Gt p l r x z takes f g T h = let q = two int int_type refl l r x z takes f g in (q.0, q.1, whole boolean_type boolean refl T h)
  binary_typed op.Le p l r x z takes f g T h = let q = two int int_type refl l r x z takes f g in (q.0, q.1, whole boolean_type boolean refl T h)
  binary_typed op.Ge p l r x z takes f g T h = let q = two int int_type refl l r x z takes f g in (q.0, q.1, whole boolean_type boolean refl T h)
  binary_typed op.Add p l r x z takes f g T h = let q = two int int_type refl l r x z takes f g in (q.0, q.1, whole int_type int refl T h)
  binary_typed op.Sub p l r x z takes f g T h = let q = two int int_type refl l r x z takes f g in (q.0, q.1, whole int_type int refl T h)
  binary_typed op.Mul p l r x z takes f g T h = let q = two int int_type refl l r x z takes f g in (q.0, q.1, whole int_type int refl T h)
  binary_typed op.Div p l r x z takes f g T h = let q = two int int_type refl l r x z takes f g in (q.0, q.1, whole int_type int refl T h)
  binary_typed op.Rem p l r x z takes f g T h = let q = two int int_type refl l r x z takes f g in (q.0, q.1, whole int_type int refl T h)

  unary_typed : (o : UnOp) (p : Place) (e : tree.Exp A) (z : Code) → TakesOne rows c o e → ((t : Ty) → Has e t → (V : RunTy) → Goes rows t V → Typed z (Some V)) → (T : Option RunTy) → Claims rows (λ t. t ≡ sign_type o) T
      → Typed (core.signed (Some p) (sign_of o) z) T
  unary_typed sign.Plus p e z takes f T h = (f int takes int_type (itself rows int int_type refl), whole int_type int refl T h)
  unary_typed sign.Minus p e z takes f T h = (f int takes int_type (itself rows int int_type refl), whole int_type int refl T h)
  unary_typed sign.Not p e z takes f T h = (f boolean takes boolean_type (itself rows boolean boolean_type refl), whole boolean_type boolean refl T h)

  -- a target of ints
  int_target : (H : Ty → Type 0) (t : TargetCode) → TargetTyped H t → H int → TargetHas R G C t int_type
  int_target H t (U, has, is) h = let p : Some int_type ≡ Some U = is int h in let q : int_type ≡ U = cc in subst (TargetHas R G C t) (sym q) has

  -- ---- all expressions

  abbrev ExpTyped : Role → ℕ → ℕ → tree.Exp A → Type 0
  ExpTyped r b i e = (x : Code) → ExpCode begins rows c i e x → (T : Option RunTy) → Wants e T → Typed x T

  -- of what is reached by its types
  some_typed : (e : tree.Exp A) (x : Code) → ((T : Option RunTy) → Wants e T → Typed x T) → (t : Ty) → Has e t → (V : RunTy) → Goes rows t V → Typed x (Some V)
  some_typed e x f t h V goes = f (Some V) (t, h, goes)

  call_types : (to : tree.Target A) (w : tree.Word A) (args : tree.Exps A) (d : Decl) (k : MethodKey) → CallFinds rows c to w.text args (one d) → d ≡ method_decl k → (m : A) (t : Ty) → Has (tree.call m to w args) t → IsTypeOf rows c (method_decl k) t
  unfolding HasType
  call_types to w args d k finds is m t (e, other, has) =
      subst (λ (z : Decl). IsTypeOf rows c z t) (decided_one (target_found rows c to w.text (types_of rows c args)) (CallFinds rows c to w.text args) (call_finds rows are found c to w.text args) e d other finds ∙ is) has

  super_call_types : (w : tree.Word A) (args : tree.Exps A) (d : Decl) (k : MethodKey) → SuperCallFinds rows c w.text args (one d) → d ≡ method_decl k → (m : A) (t : Ty) → Has (tree.super_call m w args) t → IsTypeOf rows c (method_decl k) t
  unfolding HasType
  super_call_types w args d k finds is m t (e, other, has) =
      subst (λ (z : Decl). IsTypeOf rows c z t) (decided_one (call_found rows c (own_superclass rows c) w.text (types_of rows c args)) (SuperCallFinds rows c w.text args) (super_call_finds rows are found c w.text args) e d other finds ∙ is) has

  -- arguments, which fit the types of a method
  abbrev ArgsTyped : ℕ → ℕ → tree.Exps A → Type 0
  ArgsTyped b i args = (es : core.Exps RunKeys) → RowCode begins rows c i args es → (ts us : List Ty) → HaveTypes rows c args ts → AllAssign rows ts us → AllProper us → RowTyped es (map param_type us)

  plain_call : (b i : ℕ) (m : A) (w : tree.Word A) (args : tree.Exps A) → ArgsTyped (begins m b) (begins m i) args → (x : Code) → ExpCode begins rows c i (tree.call m tree.no_target w args) x → (T : Option RunTy) → Wants (tree.call m tree.no_target w args) T → Typed x T
  unfolding ExpCode TargetFinds ReceiverCode
  plain_call b i m w args row_typed x (d, es, finds, row, code) T h = by finds refl
    where
      of : (ts : List Ty) → HaveTypes rows c args ts → (n : PlainThere rows are (scope_of c) ts d) → Typed x T
      of ts types n =
          let args_are = row_typed es row ts n.key.params types n.fit (proper.params (method_decl n.key) n.number n.row) in
          cases (subst (λ (z : Decl). CallCode rows (λ y. ReceiverCode begins rows c (begins m i) tree.no_target y) z (place begins rows c (begins w.mark (begins m i))) es x) n.is code) args_are
        where
          cases : CallCode rows (λ y. ReceiverCode begins rows c (begins m i) tree.no_target y) (method_decl n.key) (place begins rows c (begins w.mark (begins m i))) es x → RowTyped es (map param_type n.key.params) → Typed x T
          cases (inl (static, is)) args_are = subst (λ (y : Code). Typed y T) (sym is) (static_typed (Has (tree.call m tree.no_target w args)) n.key n.number n.row (call_types tree.no_target w args d n.key finds n.is m) static (Some (place begins rows c (begins w.mark (begins m i)))) es args_are T h)
          cases (inr (instance, (z, own, is))) args_are =
              let own_instance = subst (IsInstanceDecl rows) (sym n.is) instance in
              subst (λ (y : Code). Typed y T) (sym is) (instance_typed (Has (tree.call m tree.no_target w args)) n.key n.number n.row (call_types tree.no_target w args d n.key finds n.is m) instance (Some (place begins rows c (begins w.mark (begins m i)))) z
              (own_above z own n.key.class (n.object own_instance) (inr (n.above own_instance))) es args_are T h)

      by : (f : CallFinds rows c tree.no_target w.text args (one d)) → f ≡ f → Typed x T
      by (inl (ts, types, g)) same = of ts types (method_named rows are (scope_of c) w.text ts d g)
      by (inr (not, is)) same = absurd cc

  dotted_call : (r : Role) (b i : ℕ) (m : A) (e : tree.Exp A) (w : tree.Word A) (args : tree.Exps A) → ((at : ℕ) (q : Rule) → ExpBreaks begins rows c r b (tree.call m (tree.on e) w args) at q → ⊥)
      → ((z : Code) → ExpCode begins rows c (begins m i) e z → (T : Option RunTy) → Wants e T → Typed z T) → ArgsTyped (begins m b) (begins m i) args
      → (x : Code) → ExpCode begins rows c i (tree.call m (tree.on e) w args) x → (T : Option RunTy) → Wants (tree.call m (tree.on e) w args) T → Typed x T
  unfolding ExpCode TargetFinds ReceiverCode
  dotted_call r b i m e w args clean operand row_typed x (d, es, finds, row, code) T h = by finds
    where
      cases : (k : ClassKey) (n : MethodKey) (j : ℕ) → IsRowOf rows (method_decl n) j → d ≡ method_decl n → IsSubclass rows k n.class → (((o : ClassKey) × IsClassName rows c e o) ⊎ Has e (class k)) → RowTyped es (map param_type n.params)
          → CallCode rows (λ y. ReceiverCode begins rows c (begins m i) (tree.on e) y) (method_decl n) (place begins rows c (begins w.mark (begins m i))) es x → Typed x T
      cases k n j row_is d_is above on args_are (inl (static, is)) = subst (λ (y : Code). Typed y T) (sym is) (static_typed (Has (tree.call m (tree.on e) w args)) n j row_is (call_types (tree.on e) w args d n finds d_is m) static (Some (place begins rows c (begins w.mark (begins m i)))) es args_are T h)
      cases k n j row_is d_is above (inl named) args_are (inr (instance, rest)) = absurd (clean _ rule.InstanceThroughType (refl, (d, (finds, named), subst (IsInstanceDecl rows) (sym d_is) instance)))
      cases k n j row_is d_is above (inr has) args_are (inr (instance, (z, coded, is))) =
          subst (λ (y : Code). Typed y T) (sym is) (instance_typed (Has (tree.call m (tree.on e) w args)) n j row_is (call_types (tree.on e) w args d n finds d_is m) instance (Some (place begins rows c (begins w.mark (begins m i)))) z
          (operand z coded (Some (reference n.class)) (class k, has, (class n.class, inr above, refl))) es args_are T h)

      of : (k : ClassKey) → (((o : ClassKey) × IsClassName rows c e o) ⊎ Has e (class k)) → (ts : List Ty) → HaveTypes rows c args ts → MethodThere rows are k ts d → Typed x T
      of k on ts types n = cases k n.key n.number n.row n.is n.above on (row_typed es row ts n.key.params types n.fit (proper.params (method_decl n.key) n.number n.row))
          (subst (λ (z : Decl). CallCode rows (λ y. ReceiverCode begins rows c (begins m i) (tree.on e) y) z (place begins rows c (begins w.mark (begins m i))) es x) n.is code)

      by : CallFinds rows c (tree.on e) w.text args (one d) → Typed x T
      by (inl (k, inl named, inl (ts, types, g))) = of k (inl (k, named)) ts types (method_of rows are (scope_of c) k w.text ts d g)
      by (inl (k, inr (not, has), inl (ts, types, g))) = of k (inr has) ts types (method_of rows are (scope_of c) k w.text ts d g)
      by (inl (k, on, inr (not, is))) = absurd cc
      by (inr (not, is)) = absurd cc

  own_super : (k : ClassKey) → IsSuperclass rows (scope_of c).class k → IsSubclass rows (scope_of c).class k
  own_super k (j, i, is) = parent_above rows are (scope_of c).class k j i is

  by_super : (r : Role) (b i : ℕ) (m : A) (w : tree.Word A) (args : tree.Exps A) → ((at : ℕ) (q : Rule) → ExpBreaks begins rows c r b (tree.super_call m w args) at q → ⊥) → ArgsTyped (begins m b) (begins m i) args
      → (x : Code) → ExpCode begins rows c i (tree.super_call m w args) x → (T : Option RunTy) → Wants (tree.super_call m w args) T → Typed x T
  unfolding ExpCode
  by_super r b i m w args clean row_typed x (d, es, finds, row, code) T h = by finds
    where
      cases : (k : ClassKey) → IsSuperclass rows (scope_of c).class k → (n : MethodKey) (j : ℕ) → IsRowOf rows (method_decl n) j → d ≡ method_decl n → IsSubclass rows k n.class → RowTyped es (map param_type n.params)
          → SuperCallCode rows (method_decl n) (place begins rows c (begins w.mark (begins m i))) es x → Typed x T
      cases k over n j row_is d_is above args_are (inl (static, is)) = subst (λ (y : Code). Typed y T) (sym is) (static_typed (Has (tree.super_call m w args)) n j row_is (super_call_types w args d n finds d_is m) static (Some (place begins rows c (begins w.mark (begins m i)))) es args_are T h)
      cases k over n j row_is d_is above args_are (inr (instance, is)) =
          subst (λ (y : Code). Typed y T) (sym is) (super_typed (Has (tree.super_call m w args)) n j row_is (super_call_types w args d n finds d_is m) instance (Some (place begins rows c (begins w.mark (begins m i)))) (core.this None)
          (this_above None n.class (is_false c.is_static (λ s. clean _ rule.StaticContext (inr (s, refl)))) (inr (subclass_trans rows are (scope_of c).class k n.class (own_super k over) above))) es args_are T h)

      of : (k : ClassKey) → IsSuperclass rows (scope_of c).class k → (ts : List Ty) → HaveTypes rows c args ts → MethodThere rows are k ts d → Typed x T
      of k over ts types n = cases k over n.key n.number n.row n.is n.above (row_typed es row ts n.key.params types n.fit (proper.params (method_decl n.key) n.number n.row))
          (subst (λ (z : Decl). SuperCallCode rows z (place begins rows c (begins w.mark (begins m i))) es x) n.is code)

      by : SuperCallFinds rows c w.text args (one d) → Typed x T
      by (inl (k, over, inl (ts, types, g))) = of k over ts types (method_of rows are (scope_of c) k w.text ts d g)
      by (inl (k, over, inr (not, is))) = absurd cc
      by (inr (not, is)) = absurd cc

  created : (r : Role) (b i : ℕ) (m : A) (of : tree.TypeName A) (args : tree.Exps A) → ArgsTyped (begins m b) (begins m i) args → (x : Code) → ExpCode begins rows c i (tree.create m of args) x → (T : Option RunTy) → Wants (tree.create m of args) T → Typed x T
  unfolding ExpCode HasType
  created r b i m of args row_typed x (k, q, es, writes, finds, row, is) T h = by finds
    where
      once : (t : Ty) → Has (tree.create m of args) t → t ≡ class k
      once t (j, d, other, g, e) = e ∙ ap class (class_once rows each (scope_of c) of j k other writes)

      by : CreationFinds rows c of args (one (constructor_decl q)) → Typed x T
      by (inl (j, other, inl (ts, types, g))) =
          let n = ctor_of rows are (scope_of c) j ts (constructor_decl q) g in
          let keys : constructor_decl q ≡ constructor_decl n.key = n.is in
          let same : n.key ≡ q = cc in
          let there : IsRowOf rows (constructor_decl q) n.number = subst (λ (z : CtorKey). IsRowOf rows (constructor_decl z) n.number) same n.row in
          let class_is : q.class ≡ k = ap (λ (z : CtorKey). z.class) (sym same) ∙ n.class ∙ class_once rows each (scope_of c) of j k other writes in
          let args_are = row_typed es row ts q.params types (subst (λ (z : CtorKey). AllAssign rows ts z.params) same n.fit) (proper.params (constructor_decl q) n.number there) in
          subst (λ (y : Code). Typed y T) (sym is) (
            (run.has_constructor q).1 (n.number, there),
            run.constructor_class q ∙ class_is,
            subst (RowTyped es) (sym (run.constructor_params q (n.number, there))) args_are,
            gives_claim rows R run (Has (tree.create m of args)) (reference k) (λ t a. ap run_type (once t a)) T h,
          )
      by (inl (j, other, inr (not, e))) = absurd cc
      by (inr (not, e)) = absurd cc

  -- ---- casts

  goes_through : (t u : Ty) (V : RunTy) → IsAssignable rows t u → Goes rows u V → Goes rows t V
  goes_through t u V h (v, g, e) = (v, assigns_trans rows are t u v h g, e)

  cast_typed : (r : Role) (b i : ℕ) (m : A) (of : tree.TypeName A) (e : tree.Exp A) → ((at : ℕ) (q : Rule) → ExpBreaks begins rows c r b (tree.cast m of e) at q → ⊥) → ((z : Code) → ExpCode begins rows c (begins m i) e z → (T : Option RunTy) → Wants e T → Typed z T)
      → (x : Code) → ExpCode begins rows c i (tree.cast m of e) x → (T : Option RunTy) → Wants (tree.cast m of e) T → Typed x T
  unfolding ExpCode HasType
  cast_typed r b i m of e clean operand x (t, u, z, has, writes, coded, inl (sure, is)) T h = subst (λ (y : Code). Typed y T) (sym is) (operand z coded T (by T h))
    where
      by : (T : Option RunTy) → Wants (tree.cast m of e) T → Wants e T
      by None h = tt
      by (Some V) (v, other, goes) = (t, has, goes_through t u V sure (subst (λ (s : Ty). Goes rows s V) (written_once rows each (scope_of c) of v u other writes) goes))
  cast_typed r b i m of e clean operand x (t, u, z, has, writes, coded, inr (fails, (k, class_is, is))) T h = subst (λ (y : Code). Typed y T) (sym is) (by t has (refs casts) (λ s. fails s))
    where
      type_same : (s t : Ty) → Has e s → Has e t → s ≡ t
      type_same s t a b = let p : Some s ≡ Some t = sym ((typed rows are found c e s).1 a) ∙ (typed rows are found c e t).1 b in cc

      casts : Casts rows c of e
      casts = surely (comparable rows (written_type rows (scope_of c) of) (meaning.type_of rows c e)) (Casts rows c of e) (casts_iff rows are found c of e) (λ no_cast. clean _ rule.BadCast (refl, no_cast))

      refs : Casts rows c of e → IsReference t
      refs (v, s, w, other, compare) = subst IsReference (type_same s t other has) compare.1

      by : (t : Ty) → Has e t → IsReference t → (IsAssignable rows t u → ⊥) → Typed (core.cast (Some (place begins rows c (begins m i))) k z) T
      by (class d) has ref never = (
        d,
        operand z coded (Some (reference d)) (class d, has, itself rows (class d) (reference d) refl),
        gives_claim rows R run (Has (tree.cast m of e)) (reference k) (λ v other. ap run_type (written_once rows each (scope_of c) of v u other writes ∙ class_is)) T h,
      )
      by null has ref never = absurd (never (subst (λ (v : Ty). IsAssignable rows null v) (sym class_is) (inr tt)))
      by int has ref never = absurd ref
      by boolean has ref never = absurd ref
      by void has ref never = absurd ref

  -- ---- the induction

  args_end : (ts us : List Ty) → ts ≡ [] → AllAssign rows ts us → us ≡ []
  args_end [] [] e h = refl
  args_end [] (u ∷ us) e h = absurd h
  args_end (t ∷ ts) us e h = absurd cc

  mutual
    unfolding ExpCode TargetOf RowCode HasType HaveTypes Somewhere InTarget InRow

    pub exp_typed : (r : Role) (b i : ℕ) (e : tree.Exp A) → CleanExp begins rows c r b e → (x : Code) → ExpCode begins rows c i e x → (T : Option RunTy) → Wants e T → Typed x T
    exp_typed r b i (tree.number m v) clean x code T h = subst (λ (y : Code). Typed y T) (sym code) (number_typed (place begins rows c (begins m i)) (pos v) T h)
    exp_typed r b i (tree.truth m v) clean x code T h = subst (λ (y : Code). Typed y T) (sym code) (truth_typed (place begins rows c (begins m i)) v T h)
    exp_typed r b i (tree.null m) clean x code T h = subst (λ (y : Code). Typed y T) (sym code) (null_typed (place begins rows c (begins m i)) T h)
    exp_typed r b i (tree.string m s) clean x code T h = subst (λ (y : Code). Typed y T) (sym code) (text_typed (place begins rows c (begins m i)) (unescaped false s) T h)
    exp_typed r b i (tree.this m) clean x code T h =
        subst (λ (y : Code). Typed y T) (sym code)
        (this_gives (Some (place begins rows c (begins m i))) T (is_false c.is_static (λ is. clean _ rule.StaticContext (inr (is, refl)))) (gives_claim rows R run (Has (tree.this m)) (reference (scope_of c).class) (λ t e. ap run_type e) T h))
    exp_typed r b i (tree.class_literal m of) clean x (k, writes, is) T h = subst (λ (y : Code). Typed y T) (sym is) (object_typed k T h (Some (place begins rows c (begins m i))))
    exp_typed r b i (tree.name m w) clean x (t, code, is) T h = subst (λ (y : Code). Typed y T) (sym is) (read_typed (Has (tree.name m w)) (Some (place begins rows c (begins m i))) t (name_target r b i m w t clean code) T h)
    exp_typed r b i (tree.field m e w) clean x (t, code, is) T h = subst (λ (y : Code). Typed y T) (sym is)
        (read_typed (Has (tree.field m e w)) (Some (place begins rows c (begins m i))) t (dotted_target r b i m e w t (λ at q g. clean at q (inl g))
        (λ z coded k has. exp_typed left (begins m b) (begins m i) e (λ at q g. clean at q (inr g)) z coded (Some (reference k)) (class k, has, itself rows (class k) (reference k) refl)) code) T h)
    exp_typed r b i (tree.super_field m w) clean x (t, code, is) T h = subst (λ (y : Code). Typed y T) (sym is) (read_typed (Has (tree.super_field m w)) (Some (place begins rows c (begins m i))) t (super_target r b i m w t clean code) T h)
    exp_typed r b i (tree.call m tree.no_target w args) clean x code T h = plain_call b i m w args (args_typed (begins m b) (begins m i) args (λ at q g. clean at q (inr (inr g)))) x code T h
    exp_typed r b i (tree.call m (tree.on e) w args) clean x code T h =
        dotted_call r b i m e w args (λ at q g. clean at q (inl g)) (λ z coded U want. exp_typed left (begins m b) (begins m i) e (λ at q g. clean at q (inr (inl g))) z coded U want)
        (args_typed (begins m b) (begins m i) args (λ at q g. clean at q (inr (inr g)))) x code T h
    exp_typed r b i (tree.super_call m w args) clean x code T h = by_super r b i m w args (λ at q g. clean at q (inl g)) (args_typed (begins m b) (begins m i) args (λ at q g. clean at q (inr g))) x code T h
    exp_typed r b i (tree.create m of args) clean x code T h = created r b i m of args (args_typed (begins m b) (begins m i) args (λ at q g. clean at q (inr g))) x code T h
    exp_typed r b i (tree.paren m e) clean x code T h = exp_typed a_value (begins m b) (begins m i) e (λ at q g. clean at q (inr g)) x code T h
    exp_typed r b i (tree.cast m of e) clean x code T h =
        cast_typed r b i m of e (λ at q g. clean at q (inl g)) (λ z coded U want. exp_typed a_value (begins m b) (begins m i) e (λ at q g. clean at q (inr g)) z coded U want) x code T h
    exp_typed r b i (tree.unary m o e) clean x (z, coded, is) T h = subst (λ (y : Code). Typed y T) (sym is)
        (unary_typed o (place begins rows c (begins m i)) e z (surely (takes_one o (meaning.type_of rows c e)) (TakesOne rows c o e) (takes_one_iff rows are found c o e) (λ fails. clean _ rule.Operands (inl (refl, fails))))
        (some_typed e z (λ U want. exp_typed a_value (begins m b) (begins m i) e (λ at q g. clean at q (inr g)) z coded U want)) T h)
    exp_typed r b i (tree.bump m o e) clean x (t, code, is) T h = subst (λ (y : Code). Typed y T) (sym is) (
      int_target (Has e) t (target_typed a_value (begins m b) (begins m i) e (λ at q g. clean at q (inr g)) t code) (surely (is_ty int (meaning.type_of rows c e)) (HasType rows c e int) (int_iff rows are found c e) (λ fails. clean _ rule.Operands (inl (refl, fails)))),
      whole int_type int refl T h,
    )
    exp_typed r b i (tree.binary m o y z) clean x (v, u, left_code, right_code, is) T h = subst (λ (n : Code). Typed n T) (sym is)
        (binary_typed o (place begins rows c (begins m i)) y z v u (surely (takes rows o (meaning.type_of rows c y) (meaning.type_of rows c z)) (Takes rows c o y z) (takes_iff rows are found c o y z) (λ fails. clean _ rule.Operands (inl (refl, fails))))
        (some_typed y v (λ U want. exp_typed a_value (begins m b) (begins m i) y (λ at q g. clean at q (inr (inl g))) v left_code U want))
        (some_typed z u (λ U want. exp_typed a_value (begins m b) (begins m i) z (λ at q g. clean at q (inr (inr g))) u right_code U want)) T h)
    exp_typed r b i (tree.assign m y z) clean x (t, u, left_code, right_code, is) T h =
        let target = target_typed a_value (begins m b) (begins m i) y (λ at q g. clean at q (inr (inl g))) t left_code in
        let suited = surely (suits rows (meaning.type_of rows c z) (meaning.type_of rows c y)) (Suits rows c z (HasType rows c y)) (assigned_iff rows are found c y z) (λ fails. clean _ rule.TypeMismatch (inl (refl, fails))) in
        subst (λ (n : Code). Typed n T) (sym is) (
          target.0,
          target.1,
          exp_typed a_value (begins m b) (begins m i) z (λ at q g. clean at q (inr (inr g))) u right_code (Some target.0) (suited.0, suited.2, (suited.1, suited.4, target.2 suited.1 suited.3)),
          gives_claim rows R run (Has y) target.0 target.2 T h,
        )
    exp_typed r b i (tree.compound m o y z) clean x (a, t, u, known, left_code, right_code, is) T h =
        let target = target_typed a_value (begins m b) (begins m i) y (λ at q g. clean at q (inr (inl g))) t left_code in
        let both = surely (are_ty int (meaning.type_of rows c y) (meaning.type_of rows c z)) (Both rows c int y z) (both_iff rows are found c int y z) (λ fails. clean _ rule.Operands (inl (refl, fails))) in
        subst (λ (n : Code). Typed n T) (sym is)
        (int_target (Has y) t target both.0, exp_typed a_value (begins m b) (begins m i) z (λ at q g. clean at q (inr (inr g))) u right_code (Some int_type) (int, both.1, itself rows int int_type refl), whole int_type int refl T h)

    target_typed : (r : Role) (b i : ℕ) (e : tree.Exp A) → CleanExp begins rows c r b e → (t : TargetCode) → TargetOf begins rows c i e t → TargetTyped (Has e) t
    target_typed r b i (tree.name m w) clean t code = name_target r b i m w t clean code
    target_typed r b i (tree.field m e w) clean t code = dotted_target r b i m e w t (λ at q g. clean at q (inl g))
        (λ z coded k has. exp_typed left (begins m b) (begins m i) e (λ at q g. clean at q (inr g)) z coded (Some (reference k)) (class k, has, itself rows (class k) (reference k) refl)) code
    target_typed r b i (tree.super_field m w) clean t code = super_target r b i m w t clean code
    target_typed r b i (tree.number m v) clean t code = absurd code
    target_typed r b i (tree.truth m v) clean t code = absurd code
    target_typed r b i (tree.null m) clean t code = absurd code
    target_typed r b i (tree.string m s) clean t code = absurd code
    target_typed r b i (tree.this m) clean t code = absurd code
    target_typed r b i (tree.class_literal m of) clean t code = absurd code
    target_typed r b i (tree.call m to w args) clean t code = absurd code
    target_typed r b i (tree.super_call m w args) clean t code = absurd code
    target_typed r b i (tree.create m of args) clean t code = absurd code
    target_typed r b i (tree.paren m e) clean t code = absurd code
    target_typed r b i (tree.cast m of e) clean t code = absurd code
    target_typed r b i (tree.unary m o e) clean t code = absurd code
    target_typed r b i (tree.bump m o e) clean t code = absurd code
    target_typed r b i (tree.binary m o y z) clean t code = absurd code
    target_typed r b i (tree.assign m y z) clean t code = absurd code
    target_typed r b i (tree.compound m o y z) clean t code = absurd code

    pub args_typed : (b i : ℕ) (args : tree.Exps A) → CleanRow begins rows c b args → ArgsTyped b i args
    args_typed b i tree.end clean es is ts us types fit all = subst (λ (y : core.Exps RunKeys). RowTyped y (map param_type us)) (sym is) (ap (map param_type) (args_end ts us types fit))
    args_typed b i (tree.more e es) clean xs (y, ys, code, codes, is) [] us types fit all = absurd types
    args_typed b i (tree.more e es) clean xs (y, ys, code, codes, is) (t ∷ ts) [] types fit all = absurd fit
    args_typed b i (tree.more e es) clean xs (y, ys, code, codes, is) (t ∷ ts) (u ∷ us) types fit all = subst (λ (n : core.Exps RunKeys). RowTyped n (map param_type (u ∷ us))) (sym is) (
      param_type u,
      map param_type us,
      refl,
      exp_typed a_value b i e (λ at q g. clean at q (inl g)) y code (Some (param_type u)) (t, types.0, (u, fit.0, all.0.1 ∙ ap (λ (o : Option RunTy). Some (held_type o)) (sym all.0.1))),
      args_typed b i es (λ at q g. clean at q (inr g)) ys codes ts us types.1 fit.1 all.1,
    )
