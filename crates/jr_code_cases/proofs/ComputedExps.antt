-- The code of expressions, computed: what is computed is their code.
use Rattle.std.proofs.Common.{◌≡◌, ℕ, List, Option, Some, None, Bool, true, false, pos, refl, sym, ap, ◌∙◌, inl, inr}
use Rattle.std.specs.Prelude.{option_map, slice_get, option_and_then}
use Rattle.std.specs.List.{list_any}
use Rattle.jr_ast.specs.Tree as tree
use Rattle.jr_runs.specs.Values.{int, truth, null, text, class_object}
use Rattle.jr_runs.specs.Arithmetic.{wrapped}
use Rattle.jr_runs.specs.Core as core
use Rattle.jr_runs.specs.Core.{Arithmetic}
use Rattle.jr_runs.specs.Translation.{unescaped, sign_of, bump_of, arithmetic_of, operation}
use Rattle.jr_table.specs.Keys.{ClassKey, FieldKey, MethodKey, CtorKey, Ty, class}
use Rattle.jr_table.specs.Keys as ty
use Rattle.jr_table.specs.Decls.{Decl, class_decl, field_decl, method_decl, constructor_decl, local_decl}
use Rattle.jr_table.specs.Rows.{Row}
use Rattle.jr_table.specs.Conditions.{AreRows}
use Rattle.jr_table.specs.Entries.{IsRowOf, number_of, is_static_word}
use Rattle.jr_table.specs.Found.{Found, one, nothing, many, not_accessible, from_static}
use Rattle.jr_table.specs.Lookup.{find_variable}
use Rattle.jr_table.specs.LookupLaws.{KeysAreFound}
use Rattle.jr_table.specs.Context.{Context, scope_of}
use Rattle.jr_table.specs.Binding.{word_at}
use Rattle.jr_table.specs.Meanings.{row_of, field_found, call_found, ctor_found, own_superclass, created_class, class_on, target_found, types_of, type_of, written_type}
use Rattle.jr_table.specs.Notes.{assigns}
use Rattle.jr_table.proofs.RowLaws.{number_stands}
use Rattle.jr_table.proofs.RowTypes.{written_iff}
use Rattle.jr_table.proofs.Typing.{created_class_iff, typed}
use Rattle.jr_table.proofs.TypeTests.{assigns_iff}
use Rattle.jr_table.proofs.ReferenceLaws.{super_field_finds, field_finds, call_finds, super_call_finds, creation_finds}
use Rattle.jr_code.specs.RunKeys.{RunKeys, Place}
use Rattle.jr_code.specs.Coded.{Code, TargetCode, IsOwn, FieldCode, VariableCode, CallCode, SuperCallCode, CastCode, NameTarget, SuperTarget, DottedTarget, Reads, ExpCode, TargetOf, ReceiverCode, RowCode}

abbrev Exps : Type 0
Exps = core.Exps RunKeys

-- ---- what there is

pub mapped : {X Y : Type 0} (o : Option X) (f : X → Y) (y : Y) → option_map f o ≡ Some y → (x : X) × (o ≡ Some x) × (y ≡ f x)
mapped None f y e = absurd cc
mapped (Some x) f y e = let is : f x ≡ y = cc in (x, refl, sym is)

abbrev pub pair : {X Y : Type 0} → X → Y → X × Y
pair x y = (x, y)

compound_is : (at : Place) (a : Arithmetic) (p : TargetCode × Code) (t : TargetCode) (z x : Code) → x ≡ core.compound (Some at) a p.0 p.1 → p ≡ pair t z → x ≡ core.compound (Some at) a t z
compound_is at a p t z x is same = is ∙ ap (λ (s : TargetCode × Code). core.compound (Some at) a s.0 s.1) same

abbrev pub of_two : {X Y Z : Type 0} → Option X → Option Y → (X → Y → Z) → Option Z
of_two None o f = None
of_two (Some x) None f = None
of_two (Some x) (Some y) f = Some (f x y)

pub two : {X Y Z : Type 0} (o : Option X) (p : Option Y) (f : X → Y → Z) (z : Z) → of_two o p f ≡ Some z → (x : X) × (y : Y) × (o ≡ Some x) × (p ≡ Some y) × (z ≡ f x y)
two None p f z e = absurd cc
two (Some x) None f z e = absurd cc
two (Some x) (Some y) f z e = let is : f x y ≡ z = cc in (x, y, refl, refl, sym is)

pub inside : {X : Type 0} (x y : X) → Some x ≡ Some y → y ≡ x
inside x y e = let is : x ≡ y = cc in sym is

module _ (rows : List Row) where
  abbrev static_row : Row → Bool
  static_row r = list_any is_static_word r.modifiers

  -- has it the word `static`?
  abbrev static_at : Decl → Option Bool
  static_at d = option_map static_row (row_of rows d)

  static_is : (d : Decl) (b : Bool) → static_at d ≡ Some b → (j : ℕ) × (i : IsRowOf rows d j) × (list_any is_static_word i.row.modifiers ≡ b)
  unfolding row_of
  static_is d b e = by (number_of rows d) refl e
    where
      by : (o : Option ℕ) → number_of rows d ≡ o → option_map static_row (option_and_then (λ j. slice_get rows j) o) ≡ Some b → (j : ℕ) × (i : IsRowOf rows d j) × (list_any is_static_word i.row.modifiers ≡ b)
      by None is e = absurd cc
      by (Some j) is e =
          let i = number_stands rows d j is in
          let t : Some (static_row i.row) ≡ Some b = sym (ap (option_map static_row) i.stands) ∙ e in
          (j, i, sym (inside (static_row i.row) b t))

  -- ---- fields and locals, by what is in front

  abbrev field_by : Option Bool → FieldKey → Place → Option Code → Option TargetCode
  field_by None k p z = None
  field_by (Some true) k p z = Some (core.static_field (Some p) k)
  field_by (Some false) k p None = None
  field_by (Some false) k p (Some z) = Some (core.field_of (Some p) z k)

  abbrev field_target : Found → Place → Option Code → Option TargetCode
  field_target (one (field_decl k)) p z = field_by (static_at (field_decl k)) k p z
  field_target _ p z = None

  abbrev variable : Found → Place → Option TargetCode
  variable (one (local_decl k)) p = Some (core.local (Some p) k.number)
  variable (one (field_decl k)) p = field_by (static_at (field_decl k)) k p (Some (core.this None))
  variable _ p = None

  field_with : (R S : Code → Type 0) → ((y : Code) → R y → S y) → (d : Decl) (p : Place) (t : TargetCode) → FieldCode rows R d p t → FieldCode rows S d p t
  field_with R S h (field_decl k) p t (inl x) = inl x
  field_with R S h (field_decl k) p t (inr (x, (z, r, is))) = inr (x, (z, h z r, is))
  field_with R S h (class_decl k) p t x = x
  field_with R S h (method_decl k) p t x = x
  field_with R S h (constructor_decl k) p t x = x
  field_with R S h (local_decl k) p t x = x

  field_is : (k : FieldKey) (o : Option Bool) → static_at (field_decl k) ≡ o → (p : Place) (z : Option Code) (t : TargetCode) → field_by o k p z ≡ Some t → FieldCode rows (λ y. z ≡ Some y) (field_decl k) p t
  field_is k None is p z t e = absurd cc
  field_is k (Some true) is p z t e = inl (static_is (field_decl k) true is, inside _ t e)
  field_is k (Some false) is p None t e = absurd cc
  field_is k (Some false) is p (Some z) t e = inr (static_is (field_decl k) false is, (z, refl, inside _ t e))

  target_is : (f : Found) (p : Place) (z : Option Code) (t : TargetCode) → field_target f p z ≡ Some t → (d : Decl) × (f ≡ one d) × FieldCode rows (λ y. z ≡ Some y) d p t
  target_is (one (field_decl k)) p z t e = (field_decl k, refl, field_is k (static_at (field_decl k)) refl p z t e)
  target_is (one (class_decl k)) p z t e = absurd cc
  target_is (one (method_decl k)) p z t e = absurd cc
  target_is (one (constructor_decl k)) p z t e = absurd cc
  target_is (one (local_decl k)) p z t e = absurd cc
  target_is nothing p z t e = absurd cc
  target_is (many c d) p z t e = absurd cc
  target_is (not_accessible d) p z t e = absurd cc
  target_is (from_static d) p z t e = absurd cc

  own : (y : Code) → Some (core.this None) ≡ Some y → IsOwn y
  own y e = inside (core.this None) y e

  variable_is : (f : Found) (p : Place) (t : TargetCode) → variable f p ≡ Some t → (d : Decl) × (f ≡ one d) × VariableCode rows d p t
  variable_is (one (local_decl k)) p t e = (local_decl k, refl, inside _ t e)
  variable_is (one (field_decl k)) p t e = (field_decl k, refl, field_with _ IsOwn own (field_decl k) p t (field_is k (static_at (field_decl k)) refl p (Some (core.this None)) t e))
  variable_is (one (class_decl k)) p t e = absurd cc
  variable_is (one (method_decl k)) p t e = absurd cc
  variable_is (one (constructor_decl k)) p t e = absurd cc
  variable_is nothing p t e = absurd cc
  variable_is (many c d) p t e = absurd cc
  variable_is (not_accessible d) p t e = absurd cc
  variable_is (from_static d) p t e = absurd cc

  -- ---- calls and creations

  abbrev method_by : Option Bool → MethodKey → Place → Exps → Option Code → Option Code
  method_by None k p es z = None
  method_by (Some true) k p es z = Some (core.static_call (Some p) k es)
  method_by (Some false) k p es None = None
  method_by (Some false) k p es (Some z) = Some (core.instance_call (Some p) z k es)

  abbrev call_by : Found → Place → Option Exps → Option Code → Option Code
  call_by (one (method_decl k)) p (Some es) z = method_by (static_at (method_decl k)) k p es z
  call_by _ p _ z = None

  abbrev super_method_by : Option Bool → MethodKey → Place → Exps → Option Code
  super_method_by None k p es = None
  super_method_by (Some true) k p es = Some (core.static_call (Some p) k es)
  super_method_by (Some false) k p es = Some (core.super_call (Some p) (core.this None) k es)

  abbrev super_call_by : Found → Place → Option Exps → Option Code
  super_call_by (one (method_decl k)) p (Some es) = super_method_by (static_at (method_decl k)) k p es
  super_call_by _ p _ = None

  abbrev create_by : Option ClassKey → Found → Place → Option Exps → Option Code
  create_by (Some k) (one (constructor_decl q)) p (Some es) = Some (core.create (Some p) k q es)
  create_by _ _ p _ = None

  call_with : (R S : Code → Type 0) → ((y : Code) → R y → S y) → (d : Decl) (p : Place) (es : Exps) (x : Code) → CallCode rows R d p es x → CallCode rows S d p es x
  call_with R S h (method_decl k) p es x (inl y) = inl y
  call_with R S h (method_decl k) p es x (inr (y, (z, r, is))) = inr (y, (z, h z r, is))
  call_with R S h (class_decl k) p es x y = y
  call_with R S h (field_decl k) p es x y = y
  call_with R S h (constructor_decl k) p es x y = y
  call_with R S h (local_decl k) p es x y = y

  method_is : (k : MethodKey) (o : Option Bool) → static_at (method_decl k) ≡ o → (p : Place) (es : Exps) (z : Option Code) (x : Code) → method_by o k p es z ≡ Some x → CallCode rows (λ y. z ≡ Some y) (method_decl k) p es x
  method_is k None is p es z x e = absurd cc
  method_is k (Some true) is p es z x e = inl (static_is (method_decl k) true is, inside _ x e)
  method_is k (Some false) is p es None x e = absurd cc
  method_is k (Some false) is p es (Some z) x e = inr (static_is (method_decl k) false is, (z, refl, inside _ x e))

  super_method_is : (k : MethodKey) (o : Option Bool) → static_at (method_decl k) ≡ o → (p : Place) (es : Exps) (x : Code) → super_method_by o k p es ≡ Some x → SuperCallCode rows (method_decl k) p es x
  super_method_is k None is p es x e = absurd cc
  super_method_is k (Some true) is p es x e = inl (static_is (method_decl k) true is, inside _ x e)
  super_method_is k (Some false) is p es x e = inr (static_is (method_decl k) false is, inside _ x e)

  call_is : (f : Found) (p : Place) (o : Option Exps) (z : Option Code) (x : Code) → call_by f p o z ≡ Some x → (d : Decl) × (es : Exps) × (f ≡ one d) × (o ≡ Some es) × CallCode rows (λ y. z ≡ Some y) d p es x
  call_is (one (method_decl k)) p (Some es) z x e = (method_decl k, es, refl, refl, method_is k (static_at (method_decl k)) refl p es z x e)
  call_is (one (method_decl k)) p None z x e = absurd cc
  call_is (one (class_decl k)) p o z x e = absurd cc
  call_is (one (field_decl k)) p o z x e = absurd cc
  call_is (one (constructor_decl k)) p o z x e = absurd cc
  call_is (one (local_decl k)) p o z x e = absurd cc
  call_is nothing p o z x e = absurd cc
  call_is (many c d) p o z x e = absurd cc
  call_is (not_accessible d) p o z x e = absurd cc
  call_is (from_static d) p o z x e = absurd cc

  super_call_is : (f : Found) (p : Place) (o : Option Exps) (x : Code) → super_call_by f p o ≡ Some x → (d : Decl) × (es : Exps) × (f ≡ one d) × (o ≡ Some es) × SuperCallCode rows d p es x
  super_call_is (one (method_decl k)) p (Some es) x e = (method_decl k, es, refl, refl, super_method_is k (static_at (method_decl k)) refl p es x e)
  super_call_is (one (method_decl k)) p None x e = absurd cc
  super_call_is (one (class_decl k)) p o x e = absurd cc
  super_call_is (one (field_decl k)) p o x e = absurd cc
  super_call_is (one (constructor_decl k)) p o x e = absurd cc
  super_call_is (one (local_decl k)) p o x e = absurd cc
  super_call_is nothing p o x e = absurd cc
  super_call_is (many c d) p o x e = absurd cc
  super_call_is (not_accessible d) p o x e = absurd cc
  super_call_is (from_static d) p o x e = absurd cc

  -- a cast of what has the first type to the second, which it need not be assignable to
  abbrev cast_to : Bool → Ty → Place → Code → Option Code
  cast_to true u p z = Some z
  cast_to false (class k) p z = Some (core.cast (Some p) k z)
  cast_to false _ p z = None

  abbrev cast_by : Option Ty → Option Ty → Place → Option Code → Option Code
  cast_by (Some t) (Some u) p (Some z) = cast_to (assigns rows t u) u p z
  cast_by _ _ p _ = None

  module _ (are : AreRows rows) where
    cast_to_is : (t u : Ty) (b : Bool) → assigns rows t u ≡ b → (p : Place) (z x : Code) → cast_to b u p z ≡ Some x → CastCode rows t u p z x
    cast_to_is t u true is p z x e = inl ((assigns_iff rows are t u).0 is, inside z x e)
    cast_to_is t (class k) false is p z x e = inr (λ h. let f = sym is ∙ (assigns_iff rows are t (class k)).1 h in absurd cc, (k, refl, inside _ x e))
    cast_to_is t ty.int false is p z x e = absurd cc
    cast_to_is t ty.boolean false is p z x e = absurd cc
    cast_to_is t ty.void false is p z x e = absurd cc
    cast_to_is t ty.null false is p z x e = absurd cc

    cast_is : (t u : Option Ty) (p : Place) (z : Option Code) (x : Code) → cast_by t u p z ≡ Some x → (s r : Ty) × (y : Code) × (t ≡ Some s) × (u ≡ Some r) × (z ≡ Some y) × CastCode rows s r p y x
    cast_is (Some t) (Some u) p (Some z) x e = (t, u, z, refl, refl, refl, cast_to_is t u (assigns rows t u) refl p z x e)
    cast_is (Some t) (Some u) p None x e = absurd cc
    cast_is (Some t) None p z x e = absurd cc
    cast_is None u p z x e = absurd cc

  create_is : (c : Option ClassKey) (f : Found) (p : Place) (o : Option Exps) (x : Code) → create_by c f p o ≡ Some x
      → (k : ClassKey) × (q : CtorKey) × (es : Exps) × (c ≡ Some k) × (f ≡ one (constructor_decl q)) × (o ≡ Some es) × (x ≡ core.create (Some p) k q es)
  create_is (Some k) (one (constructor_decl q)) p (Some es) x e = (k, q, es, refl, refl, refl, inside _ x e)
  create_is (Some k) (one (constructor_decl q)) p None x e = absurd cc
  create_is (Some k) (one (class_decl d)) p o x e = absurd cc
  create_is (Some k) (one (field_decl d)) p o x e = absurd cc
  create_is (Some k) (one (method_decl d)) p o x e = absurd cc
  create_is (Some k) (one (local_decl d)) p o x e = absurd cc
  create_is (Some k) nothing p o x e = absurd cc
  create_is (Some k) (many c d) p o x e = absurd cc
  create_is (Some k) (not_accessible d) p o x e = absurd cc
  create_is (Some k) (from_static d) p o x e = absurd cc
  create_is None f p o x e = absurd cc

-- ---- all

module _ {A : Type 0} (begins : A → ℕ → ℕ) (rows : List Row) (c : Context) where
  abbrev spot : ℕ → Place
  spot at = record { member = c.member; at = at }

  abbrev read : ℕ → Option TargetCode → Option Code
  read at t = option_map (λ z. core.read (Some (spot at)) z) t

  abbrev name_target : ℕ → A → tree.Word A → Option TargetCode
  name_target b m w = variable rows (find_variable rows (scope_of c) w.text) (spot (word_at begins m b w))

  abbrev dotted_target : ℕ → A → tree.Exp A → tree.Word A → Option Code → Option TargetCode
  dotted_target b m e w z = field_target rows (field_found rows c (class_on rows c e) w.text) (spot (word_at begins m b w)) z

  abbrev super_target : ℕ → A → tree.Word A → Option TargetCode
  super_target b m w = field_target rows (field_found rows c (own_superclass rows c) w.text) (spot (word_at begins m b w)) (Some (core.this None))

  abbrev mutual
    pub exp_code : (base : ℕ) → tree.Exp A → Option Code
    exp_code b (tree.number m n) = Some (core.literal (Some (spot (begins m b))) (int (wrapped (pos n))))
    exp_code b (tree.truth m v) = Some (core.literal (Some (spot (begins m b))) (truth v))
    exp_code b (tree.null m) = Some (core.literal (Some (spot (begins m b))) null)
    exp_code b (tree.string m s) = Some (core.literal (Some (spot (begins m b))) (text (unescaped false s)))
    exp_code b (tree.this m) = Some (core.this (Some (spot (begins m b))))
    exp_code b (tree.class_literal m of) = option_map (λ k. core.literal (Some (spot (begins m b))) (class_object k)) (created_class rows c of)
    exp_code b (tree.name m w) = read (begins m b) (name_target b m w)
    exp_code b (tree.field m e w) = read (begins m b) (dotted_target b m e w (exp_code (begins m b) e))
    exp_code b (tree.super_field m w) = read (begins m b) (super_target b m w)
    exp_code b (tree.call m to w args) = call_by rows (target_found rows c to w.text (types_of rows c args)) (spot (word_at begins m b w)) (row_code (begins m b) args) (receiver_code (begins m b) to)
    exp_code b (tree.super_call m w args) = super_call_by rows (call_found rows c (own_superclass rows c) w.text (types_of rows c args)) (spot (word_at begins m b w)) (row_code (begins m b) args)
    exp_code b (tree.create m of args) = create_by rows (created_class rows c of) (ctor_found rows c (created_class rows c of) (types_of rows c args)) (spot (begins m b)) (row_code (begins m b) args)
    exp_code b (tree.paren m e) = exp_code (begins m b) e
    exp_code b (tree.cast m of e) = cast_by rows (type_of rows c e) (written_type rows (scope_of c) of) (spot (begins m b)) (exp_code (begins m b) e)
    exp_code b (tree.unary m o e) = option_map (λ z. core.signed (Some (spot (begins m b))) (sign_of o) z) (exp_code (begins m b) e)
    exp_code b (tree.bump m o e) = option_map (λ t. core.bump (Some (spot (begins m b))) (bump_of o) t) (target_code (begins m b) e)
    exp_code b (tree.binary m o l r) = of_two (exp_code (begins m b) l) (exp_code (begins m b) r) (λ y z. operation (spot (begins m b)) o y z)
    exp_code b (tree.assign m l r) = of_two (target_code (begins m b) l) (exp_code (begins m b) r) (λ t z. core.assign (Some (spot (begins m b))) t z)
    exp_code b (tree.compound m o l r) = of_two (arithmetic_of o) (of_two (target_code (begins m b) l) (exp_code (begins m b) r) pair) (λ a p. core.compound (Some (spot (begins m b))) a p.0 p.1)

    pub target_code : (base : ℕ) → tree.Exp A → Option TargetCode
    target_code b (tree.name m w) = name_target b m w
    target_code b (tree.field m e w) = dotted_target b m e w (exp_code (begins m b) e)
    target_code b (tree.super_field m w) = super_target b m w
    target_code b _ = None

    pub receiver_code : (at : ℕ) → tree.Target A → Option Code
    receiver_code at tree.no_target = Some (core.this None)
    receiver_code at (tree.on e) = exp_code at e

    pub row_code : (at : ℕ) → tree.Exps A → Option Exps
    row_code at tree.end = Some core.Exps.end
    row_code at (tree.more e es) = of_two (exp_code at e) (row_code at es) (λ y ys. core.Exps.more y ys)

module _ {A : Type 0} (begins : A → ℕ → ℕ) (rows : List Row) (are : AreRows rows) (found : KeysAreFound rows) (c : Context) where
  name_is : (b : ℕ) (m : A) (w : tree.Word A) (t : TargetCode) → name_target begins rows c b m w ≡ Some t → NameTarget begins rows c b m w t
  name_is b m w t e =
      let v = variable_is rows (find_variable rows (scope_of c) w.text) _ t e in
      (v.0, (found.variable (scope_of c) w.text (one v.0)).0 v.1, v.2)

  dotted_is : (b : ℕ) (m : A) (e : tree.Exp A) (w : tree.Word A) (z : Option Code) (Operand : Code → Type 0) → ((y : Code) → z ≡ Some y → Operand y) → (t : TargetCode) → dotted_target begins rows c b m e w z ≡ Some t
      → DottedTarget begins rows c Operand b m e w t
  dotted_is b m e w z Operand holds t is =
      let v = target_is rows (field_found rows c (class_on rows c e) w.text) _ z t is in
      (v.0, (field_finds rows are found c e w.text (one v.0)).0 v.1, field_with rows (λ y. z ≡ Some y) Operand holds v.0 _ t v.2)

  super_is : (b : ℕ) (m : A) (w : tree.Word A) (t : TargetCode) → super_target begins rows c b m w ≡ Some t → SuperTarget begins rows c b m w t
  super_is b m w t e =
      let v = target_is rows (field_found rows c (own_superclass rows c) w.text) _ (Some (core.this None)) t e in
      (v.0, (super_field_finds rows are found c w.text (one v.0)).0 v.1, field_with rows _ IsOwn (own rows) v.0 _ t v.2)

  read_is : (b : ℕ) (m : A) (o : Option TargetCode) (Target : TargetCode → Type 0) → ((t : TargetCode) → o ≡ Some t → Target t) → (x : Code) → read begins rows c (begins m b) o ≡ Some x → Reads begins rows c b m Target x
  read_is b m o Target holds x e = let h = mapped o _ x e in (h.0, holds h.0 h.1, h.2)

  mutual
    unfolding ExpCode TargetOf ReceiverCode RowCode

    pub exp_is : (b : ℕ) (e : tree.Exp A) (x : Code) → exp_code begins rows c b e ≡ Some x → ExpCode begins rows c b e x
    exp_is b (tree.number m n) x h = inside _ x h
    exp_is b (tree.truth m v) x h = inside _ x h
    exp_is b (tree.null m) x h = inside _ x h
    exp_is b (tree.string m s) x h = inside _ x h
    exp_is b (tree.this m) x h = inside _ x h
    exp_is b (tree.class_literal m of) x h = let p = mapped (created_class rows c of) _ x h in (p.0, (created_class_iff rows are found c of p.0).0 p.1, p.2)
    exp_is b (tree.name m w) x h = read_is b m (name_target begins rows c b m w) _ (λ t e. name_is b m w t e) x h
    exp_is b (tree.field m e w) x h = read_is b m (dotted_target begins rows c b m e w (exp_code begins rows c (begins m b) e)) _
        (λ t is. dotted_is b m e w (exp_code begins rows c (begins m b) e) (λ z. ExpCode begins rows c (begins m b) e z) (λ y i. exp_is (begins m b) e y i) t is) x h
    exp_is b (tree.super_field m w) x h = read_is b m (super_target begins rows c b m w) _ (λ t e. super_is b m w t e) x h
    exp_is b (tree.call m to w args) x h =
        let p = call_is rows (target_found rows c to w.text (types_of rows c args)) _ (row_code begins rows c (begins m b) args) (receiver_code begins rows c (begins m b) to) x h in
        (p.0, p.1, (call_finds rows are found c to w.text args (one p.0)).0 p.2, row_is (begins m b) args p.1 p.3, call_with rows _ (λ z. ReceiverCode begins rows c (begins m b) to z) (λ y i. receiver_is (begins m b) to y i) p.0 _ p.1 x p.4)
    exp_is b (tree.super_call m w args) x h =
        let p = super_call_is rows (call_found rows c (own_superclass rows c) w.text (types_of rows c args)) _ (row_code begins rows c (begins m b) args) x h in
        (p.0, p.1, (super_call_finds rows are found c w.text args (one p.0)).0 p.2, row_is (begins m b) args p.1 p.3, p.4)
    exp_is b (tree.create m of args) x h =
        let p = create_is rows (created_class rows c of) (ctor_found rows c (created_class rows c of) (types_of rows c args)) _ (row_code begins rows c (begins m b) args) x h in
        (p.0, p.1, p.2, (created_class_iff rows are found c of p.0).0 p.3, (creation_finds rows are found c of args (one (constructor_decl p.1))).0 p.4, row_is (begins m b) args p.2 p.5, p.6)
    exp_is b (tree.paren m e) x h = exp_is (begins m b) e x h
    exp_is b (tree.cast m of e) x h =
        let p = cast_is rows are (type_of rows c e) (written_type rows (scope_of c) of) _ (exp_code begins rows c (begins m b) e) x h in
        (p.0, p.1, p.2, (typed rows are found c e p.0).0 p.3, (written_iff rows are found (scope_of c) of p.1).0 p.4, exp_is (begins m b) e p.2 p.5, p.6)
    exp_is b (tree.unary m o e) x h = let p = mapped (exp_code begins rows c (begins m b) e) _ x h in (p.0, exp_is (begins m b) e p.0 p.1, p.2)
    exp_is b (tree.bump m o e) x h = let p = mapped (target_code begins rows c (begins m b) e) _ x h in (p.0, target_of (begins m b) e p.0 p.1, p.2)
    exp_is b (tree.binary m o l r) x h =
        let p = two (exp_code begins rows c (begins m b) l) (exp_code begins rows c (begins m b) r) _ x h in
        (p.0, p.1, exp_is (begins m b) l p.0 p.2, exp_is (begins m b) r p.1 p.3, p.4)
    exp_is b (tree.assign m l r) x h =
        let p = two (target_code begins rows c (begins m b) l) (exp_code begins rows c (begins m b) r) _ x h in
        (p.0, p.1, target_of (begins m b) l p.0 p.2, exp_is (begins m b) r p.1 p.3, p.4)
    exp_is b (tree.compound m o l r) x h =
        let p = two (arithmetic_of o) (of_two (target_code begins rows c (begins m b) l) (exp_code begins rows c (begins m b) r) pair) _ x h in
        let q = two (target_code begins rows c (begins m b) l) (exp_code begins rows c (begins m b) r) pair p.1 p.3 in
        (p.0, q.0, q.1, p.2, target_of (begins m b) l q.0 q.2, exp_is (begins m b) r q.1 q.3, compound_is (spot begins rows c (begins m b)) p.0 p.1 q.0 q.1 x p.4 q.4)

    target_of : (b : ℕ) (e : tree.Exp A) (t : TargetCode) → target_code begins rows c b e ≡ Some t → TargetOf begins rows c b e t
    target_of b (tree.name m w) t h = name_is b m w t h
    target_of b (tree.field m e w) t h = dotted_is b m e w (exp_code begins rows c (begins m b) e) (λ z. ExpCode begins rows c (begins m b) e z) (λ y i. exp_is (begins m b) e y i) t h
    target_of b (tree.number m n) t h = absurd cc
    target_of b (tree.truth m v) t h = absurd cc
    target_of b (tree.null m) t h = absurd cc
    target_of b (tree.string m s) t h = absurd cc
    target_of b (tree.this m) t h = absurd cc
    target_of b (tree.class_literal m of) t h = absurd cc
    target_of b (tree.super_field m w) t h = super_is b m w t h
    target_of b (tree.call m to w args) t h = absurd cc
    target_of b (tree.super_call m w args) t h = absurd cc
    target_of b (tree.create m of args) t h = absurd cc
    target_of b (tree.paren m e) t h = absurd cc
    target_of b (tree.cast m of e) t h = absurd cc
    target_of b (tree.unary m o e) t h = absurd cc
    target_of b (tree.bump m o e) t h = absurd cc
    target_of b (tree.binary m o l r) t h = absurd cc
    target_of b (tree.assign m l r) t h = absurd cc
    target_of b (tree.compound m o l r) t h = absurd cc

    receiver_is : (at : ℕ) (to : tree.Target A) (z : Code) → receiver_code begins rows c at to ≡ Some z → ReceiverCode begins rows c at to z
    receiver_is at tree.no_target z h = inside (core.this None) z h
    receiver_is at (tree.on e) z h = exp_is at e z h

    pub row_is : (at : ℕ) (args : tree.Exps A) (xs : Exps) → row_code begins rows c at args ≡ Some xs → RowCode begins rows c at args xs
    row_is at tree.end xs h = inside core.Exps.end xs h
    row_is at (tree.more e es) xs h =
        let p = two (exp_code begins rows c at e) (row_code begins rows c at es) (λ y ys. core.Exps.more y ys) xs h in
        (p.0, p.1, exp_is at e p.0 p.2, row_is at es p.1 p.3, p.4)
