-- A reference that is spelled as it is taken is bound to the declaration: of any rows and place.
use Rattle.std.proofs.Common.{◌≡◌, ℕ, List, [], ◌∷◌, Option, Some, None, refl, sym, subst, inl, inr}
use Rattle.std.specs.Prelude.{slice_get}
use Rattle.jr_ast.specs.Tree as tree
use Rattle.jr_table.specs.Keys.{ClassKey, FieldKey, MethodKey, Ty, class}
use Rattle.jr_table.specs.Decls.{Decl, class_decl, field_decl, method_decl, local_decl, LocalKey}
use Rattle.jr_table.specs.Rows.{Row}
use Rattle.jr_table.specs.Conditions.{AreRows}
use Rattle.jr_table.specs.Found.{one, nothing}
use Rattle.jr_table.specs.Lookup.{FindsVariable, FindsFieldIn, FindsMethodOf, FindsLeftOf}
use Rattle.jr_table.specs.LookupLaws.{EachHasOne}
use Rattle.jr_table.specs.Context.{Context, scope_of, IsTypeOf}
use Rattle.jr_table.specs.Binding.{HasType, IsClassName, HaveTypes, TargetFinds, CallFinds, Role, value, left, statement, variable, method, BindsItself}
use Rattle.jr_table.specs.BindingLaws.{IsBound}
use Rattle.jr_spell.specs.declared.references.RefForm.{RefForm}
use Rattle.jr_spell.specs.declared.references.RefForm.TheVariants as ref
use Rattle.jr_spell.specs.declared.spellings.Form.{Form}
use Rattle.jr_spell.specs.declared.spellings.Form.TheVariants.{Asked, OnThis, OnSuper, OnCastThis, OnCastOperand, OnClass, OnOuterClass, ClassInFront, OuterClassInFront}
use Rattle.jr_spell.specs.References.{Operand, Reference}
use Rattle.jr_spell.specs.Binds.{Binds}
use Rattle.jr_spell.specs.Rebound.{IsTree, Fits, SpellingsRebind, AreFronts}
use Rattle.jr_rewrite.specs.Respellings.{Front, alone, by_class, front_of}
use Rattle.jr_rewrite.specs.Rewritten.{word_to, operand_to, variable_on, variable_to, super_to, target_of, new_word, cast_tree}
use Rattle.jr_images.specs.Words.{InFront, named_class}
use Rattle.jr_images.specs.Spelling.{renamed, spelled}
use Rattle.jr_images.proofs.Chosen.{outer_front_is, outer_type_is}
use Rattle.jr_images.proofs.Forms.{two_forms, three_forms, front_forms, four_forms, six_forms, with_name}

-- a variable or a call: it has the type of what it is bound to
abbrev pub IsNamed : {A : Type 0} → tree.Exp A → Type 0
IsNamed (tree.name m w) = Unit {0}
IsNamed (tree.field m e w) = Unit {0}
IsNamed (tree.super_field m w) = Unit {0}
IsNamed (tree.call m to w args) = Unit {0}
IsNamed (tree.super_call m w args) = Unit {0}
IsNamed _ = ⊥

same_decl : (x y : Decl) → one x ≡ one y → x ≡ y
same_decl x y e = cc

no_decl : (x : Decl) → one x ≡ nothing → ⊥
no_decl x e = cc

module _ {A : Type 0} (begins : A → ℕ → ℕ) (rows : List Row) (are : AreRows rows) (one_each : EachHasOne rows) (d : Context) (exact : IsBound A rows d)
    (rebind : SpellingsRebind A) (fronts : AreFronts A rows d) where
  -- however it stands and wherever its parent begins, the reference is bound to the declaration; as
  -- a value it has that one's type, and it is the name of no class
  pub record Stands (x : Decl) (y : tree.Exp A) : Type 0 where
    pub reads : (role : Role) (base : ℕ) → (at : ℕ) × BindsItself begins rows d role base y at x
    pub types : (t : Ty) → IsTypeOf rows d x t → HasType rows d y t
    pub apart : ((k : ClassKey) → x ≡ class_decl k → ⊥) → (k : ClassKey) → IsClassName rows d y k → ⊥

  one_name : (e : tree.Exp A) (j k : ClassKey) → IsClassName rows d e j → IsClassName rows d e k → j ≡ k
  one_name e j k a b = let p = (exact.names e j).1 a in let q = (exact.names e k).1 b in cc

  read_type : (x : Decl) (y : tree.Exp A) → IsNamed y → (at : ℕ) → BindsItself begins rows d value 0 y at x → (t : Ty) → IsTypeOf rows d x t → HasType rows d y t
  unfolding HasType
  read_type x (tree.name m w) ok at (q, (place, (sort, finds))) t type = (x, finds, type)
  read_type x (tree.field m e w) ok at (q, (place, (sort, finds))) t type = (x, finds, type)
  read_type x (tree.super_field m w) ok at (q, (place, sort, finds)) t type = (x, finds, type)
  read_type x (tree.call m to w args) ok at (q, (place, sort, finds)) t type = (x, finds, type)
  read_type x (tree.super_call m w args) ok at (q, (place, sort, finds)) t type = (x, finds, type)
  read_type x _ ok at h t type = absurd ok

  no_class : (x : Decl) (y : tree.Exp A) → IsNamed y → (at i : ℕ) → BindsItself begins rows d value 0 y at x → BindsItself begins rows d left 0 y i x
      → ((k : ClassKey) → x ≡ class_decl k → ⊥) → (k : ClassKey) → IsClassName rows d y k → ⊥
  unfolding IsClassName
  no_class x (tree.name m w) ok at i (q, (place, (sort, finds))) other not k (inl (found, some)) = not k (same_decl x (class_decl k) (one_each.variable (scope_of d) w.text (one x) (one (class_decl k)) finds found))
  no_class x (tree.name m w) ok at i (q, (place, (sort, finds))) other not k (inr (none, found)) = no_decl x (one_each.variable (scope_of d) w.text (one x) nothing finds none)
  no_class x (tree.field m e w) ok at i h (q, (place, inl (o, named, sort, finds))) not k (p, other, found) =
      let same = one_name e p o other named in
      not k (same_decl x (class_decl k) (one_each.left_of (scope_of d) o w.text (one x) (one (class_decl k)) finds (subst (λ (z : ClassKey). FindsLeftOf rows (scope_of d) z w.text (one (class_decl k))) same found)))
  no_class x (tree.field m e w) ok at i h (q, (place, inr (none, sort, finds))) not k (p, other, found) = none p other
  no_class x (tree.super_field m w) ok at i h g not k named = named
  no_class x (tree.call m to w args) ok at i h g not k named = named
  no_class x (tree.super_call m w args) ok at i h g not k named = named
  no_class x _ ok at i h g not k named = absurd ok

  stands : (x : Decl) (y : tree.Exp A) → IsNamed y → ((role : Role) (base : ℕ) → (at : ℕ) × BindsItself begins rows d role base y at x) → Stands x y
  stands x y ok reads = record {
    reads = reads;
    types = read_type x y ok (reads value 0).0 (reads value 0).1;
    apart = no_class x y ok (reads value 0).0 (reads left 0).0 (reads value 0).1 (reads left 0).1;
  }

  -- where there is no operand nothing is asked of it
  fits_alone : (m : A) (form : RefForm) (asked : List ℕ) (args : tree.Exps A) (ts : List Ty) → HaveTypes rows d args ts
      → Fits begins rows d (record { form = form; asked = asked; operand = None; front = None; args = ts }) (tree.this m) args
  unfolding IsClassName
  fits_alone m form asked args ts types = record {
    has_type = λ o e. absurd cc;
    value = λ k h. h;
    have_types = types;
  }

  -- an expression that has the class's type, and is no class's name
  fits_value : (form : RefForm) (asked : List ℕ) (k : ClassKey) (e : tree.Exp A) (args : tree.Exps A) (ts : List Ty) → HasType rows d e (class k)
      → ((o : ClassKey) → IsClassName rows d e o → ⊥) → HaveTypes rows d args ts
      → Fits begins rows d (record { form = form; asked = asked; operand = Some (record { ty = class k; text = [] }); front = None; args = ts }) e args
  fits_value form asked k e args ts type apart types = record {
    has_type = λ o q. let p : (class k) ≡ o.ty = cc in subst (λ (x : Ty). HasType rows d e x) p type;
    value = apart;
    have_types = types;
  }

  no_args : HaveTypes {A = A} rows d tree.end []
  unfolding HaveTypes
  no_args = refl

  bound : (r : Reference) (x : Decl) (f : Form) (e : tree.Exp A) (args : tree.Exps A) (y : tree.Exp A) → IsNamed y → Binds rows (scope_of d) r x f → IsTree r x e args f y
      → Fits begins rows d r e args → Stands x y
  bound r x f e args y ok binds shape fits = stands x y ok (λ role base. (rebind begins rows are d r x f e args y binds shape fits).bound role base)

  -- ---- behind the name of a class

  class_field : (m : A) (y : tree.Exp A) (k : ClassKey) (w : tree.Word A) (q : FieldKey) → IsClassName rows d y k → FindsFieldIn rows (scope_of d) k w.text (one (field_decl q))
      → Stands (field_decl q) (tree.field m y w)
  class_field m y k w q named finds = stands (field_decl q) (tree.field m y w) tt by
    where
      by : (role : Role) (base : ℕ) → (at : ℕ) × BindsItself begins rows d role base (tree.field m y w) at (field_decl q)
      by left base = (_, (_, (refl, inl (k, named, refl, inl (finds, λ e. no_decl (field_decl q) e)))))
      by value base = (_, (variable, (refl, (refl, inl (k, inl named, finds)))))
      by statement base = (_, (variable, (refl, (refl, inl (k, inl named, finds)))))

  class_call : (m : A) (y : tree.Exp A) (k : ClassKey) (w : tree.Word A) (args : tree.Exps A) (ts : List Ty) (q : MethodKey) → IsClassName rows d y k → HaveTypes rows d args ts
      → FindsMethodOf rows (scope_of d) k w.text ts (one (method_decl q)) → Stands (method_decl q) (tree.call m (tree.on y) w args)
  unfolding TargetFinds
  class_call m y k w args ts q named types finds = stands (method_decl q) (tree.call m (tree.on y) w args) tt (λ role base. (_, (method, (refl, refl, calls))))
    where
      calls : CallFinds rows d (tree.on y) w.text args (one (method_decl q))
      calls = inl (k, inl named, inl (ts, types, finds))

  -- ---- a local, and a field by its simple name

  module _ (m n : A) (old : List ℕ) where
    pub simple_local : (k : LocalKey) (new : List ℕ) → FindsVariable rows (scope_of d) new (one (local_decl k))
        → Stands (local_decl k) (variable_to m (front_of (renamed old new)) None (word_to (renamed old new) (record { mark = n; text = old })))
    simple_local k new finds = subst (λ (y : tree.Exp A). Stands (local_decl k) y) (sym (with_name (λ front w. variable_to m front None w) old new n))
        (bound (record { form = ref.AsAsked; asked = new; operand = None; front = None; args = [] }) (local_decl k) Asked (tree.this m) tree.end
        (tree.name m (record { mark = n; text = new })) tt finds (m, record { mark = n; text = new }, refl, refl) (fits_alone m ref.AsAsked new tree.end [] no_args))

    module _ (k : FieldKey) where
      abbrev own : Reference
      own = record { form = ref.FieldSimple; asked = k.name; operand = None; front = None; args = [] }

      abbrev FieldTo : Form → Type 0
      FieldTo f = Binds rows (scope_of d) own (field_decl k) f
          → Stands (field_decl k) (variable_to m (front_of (spelled old k.name k.class f)) None (word_to (spelled old k.name k.class f) (record { mark = n; text = old })))

      by_own : (f : Form) (y : tree.Exp A) → IsNamed y → Binds rows (scope_of d) own (field_decl k) f → IsTree own (field_decl k) (tree.this m) tree.end f y → Stands (field_decl k) y
      by_own f y ok binds shape = bound own (field_decl k) f (tree.this m) tree.end y ok binds shape (fits_alone m ref.FieldSimple k.name tree.end [] no_args)

      asked_field : FieldTo Asked
      asked_field binds = subst (λ (y : tree.Exp A). Stands (field_decl k) y) (sym (with_name (λ front w. variable_to m front None w) old k.name n))
          (by_own Asked (tree.name m (record { mark = n; text = k.name })) tt binds (m, record { mark = n; text = k.name }, refl, refl))

      outer_field : (outer : List ℕ) → k.class.outer ≡ Some outer → FieldTo OnOuterClass
      outer_field outer is binds = subst (λ (front : Front). Stands (field_decl k) (variable_to m front None (record { mark = n; text = k.name })))
          (sym (outer_front_is k.class.outer k.class.name outer is))
          (by_own OnOuterClass (tree.field m (tree.field m (tree.name m (new_word m outer)) (new_word m k.class.name)) (record { mark = n; text = k.name })) tt binds
          (outer, tree.field m (tree.name m (new_word m outer)) (new_word m k.class.name), is, (m, m, new_word m outer, new_word m k.class.name, refl, refl, refl), (m, record { mark = n; text = k.name }, refl, refl)))

      pub simple_field : (place : ℕ) (f : Form) → slice_get (Asked ∷ OnThis ∷ OnSuper ∷ OnCastThis ∷ OnClass ∷ OnOuterClass ∷ []) place ≡ Some f → FieldTo f
      simple_field place f there = six_forms FieldTo asked_field
          (λ binds. by_own OnThis (tree.field m (tree.this m) (record { mark = n; text = k.name })) tt binds (tree.this m, (m, refl), (m, record { mark = n; text = k.name }, refl, refl)))
          (λ binds. by_own OnSuper (tree.super_field m (record { mark = n; text = k.name })) tt binds (m, record { mark = n; text = k.name }, refl, refl))
          (λ binds. by_own OnCastThis (tree.field m (cast_tree m k.class.name (tree.this m)) (record { mark = n; text = k.name })) tt binds
          (tree.this m, cast_tree m k.class.name (tree.this m), (m, refl), (m, m, m, new_word m k.class.name, refl, refl), (m, record { mark = n; text = k.name }, refl, refl)))
          (λ binds. by_own OnClass (tree.field m (tree.name m (new_word m k.class.name)) (record { mark = n; text = k.name })) tt binds
          (tree.name m (new_word m k.class.name), (m, new_word m k.class.name, refl, refl), (m, record { mark = n; text = k.name }, refl, refl)))
          (λ binds. outer_field binds.0 binds.1 binds)
          place f there

  -- ---- a field on a value, and by `super`

  module _ (m n : A) (old : List ℕ) (k : FieldKey) where
    module _ (x : tree.Exp A) (o : ClassKey) (type : HasType rows d x (class o)) (apart : (z : ClassKey) → IsClassName rows d x z → ⊥) where
      abbrev on_value : Reference
      on_value = record { form = ref.FieldOn; asked = k.name; operand = Some (record { ty = class o; text = [] }); front = None; args = [] }

      abbrev FieldOnTo : Form → Type 0
      FieldOnTo f = Binds rows (scope_of d) on_value (field_decl k) f
          → Stands (field_decl k) (variable_on m (operand_to m (front_of (spelled old k.name k.class f)) (Some x)) (word_to (spelled old k.name k.class f) (record { mark = n; text = old })))

      by_value : (f : Form) (y : tree.Exp A) → IsNamed y → Binds rows (scope_of d) on_value (field_decl k) f → IsTree on_value (field_decl k) x tree.end f y → Stands (field_decl k) y
      by_value f y ok binds shape = bound on_value (field_decl k) f x tree.end y ok binds shape (fits_value ref.FieldOn k.name o x tree.end [] type apart no_args)

      asked_on : FieldOnTo Asked
      asked_on binds = subst (λ (y : tree.Exp A). Stands (field_decl k) y) (sym (with_name (λ front w. variable_on m (operand_to m front (Some x)) w) old k.name n))
          (by_value Asked (tree.field m x (record { mark = n; text = k.name })) tt binds (m, record { mark = n; text = k.name }, refl, refl))

      pub field_on_value : (place : ℕ) (f : Form) → slice_get (Asked ∷ OnCastOperand ∷ []) place ≡ Some f → FieldOnTo f
      field_on_value place f there = two_forms FieldOnTo OnCastOperand asked_on
          (λ binds. by_value OnCastOperand (tree.field m (cast_tree m k.class.name x) (record { mark = n; text = k.name })) tt binds
          (cast_tree m k.class.name x, (m, m, m, new_word m k.class.name, refl, refl), (m, record { mark = n; text = k.name }, refl, refl)))
          place f there

    abbrev of_super : Reference
    of_super = record { form = ref.FieldSuper; asked = k.name; operand = None; front = None; args = [] }

    abbrev SuperTo : Form → Type 0
    SuperTo f = Binds rows (scope_of d) of_super (field_decl k) f
        → Stands (field_decl k) (super_to m (front_of (spelled old k.name k.class f)) (word_to (spelled old k.name k.class f) (record { mark = n; text = old })))

    by_super_form : (f : Form) (y : tree.Exp A) → IsNamed y → Binds rows (scope_of d) of_super (field_decl k) f → IsTree of_super (field_decl k) (tree.this m) tree.end f y → Stands (field_decl k) y
    by_super_form f y ok binds shape = bound of_super (field_decl k) f (tree.this m) tree.end y ok binds shape (fits_alone m ref.FieldSuper k.name tree.end [] no_args)

    asked_super : SuperTo Asked
    asked_super binds = subst (λ (y : tree.Exp A). Stands (field_decl k) y) (sym (with_name (λ front w. super_to m front w) old k.name n))
        (by_super_form Asked (tree.super_field m (record { mark = n; text = k.name })) tt binds (m, record { mark = n; text = k.name }, refl, refl))

    pub field_by_super : (place : ℕ) (f : Form) → slice_get (Asked ∷ OnCastThis ∷ []) place ≡ Some f → SuperTo f
    field_by_super place f there = two_forms SuperTo OnCastThis asked_super
        (λ binds. by_super_form OnCastThis (tree.field m (cast_tree m k.class.name (tree.this m)) (record { mark = n; text = k.name })) tt binds
        (tree.this m, cast_tree m k.class.name (tree.this m), (m, refl), (m, m, m, new_word m k.class.name, refl, refl), (m, record { mark = n; text = k.name }, refl, refl)))
        place f there

    -- ---- through a class

    module _ (x : tree.Exp A) (o : ClassKey) (words : InFront) where
      abbrev through : Reference
      through = record { form = ref.ThroughClass; asked = k.name; operand = Some (record { ty = class o; text = [] }); front = named_class words; args = [] }

      abbrev ThroughTo : Form → Type 0
      ThroughTo f = (f ≡ Asked → IsClassName rows d x o) → Binds rows (scope_of d) through (field_decl k) f
          → Stands (field_decl k) (variable_on m (operand_to m (front_of (spelled old k.name k.class f)) (Some x)) (word_to (spelled old k.name k.class f) (record { mark = n; text = old })))

      asked_through : ThroughTo Asked
      asked_through named (b, is, found, (q, of, h)) = let same : q ≡ o = cc in
          subst (λ (y : tree.Exp A). Stands (field_decl k) y) (sym (with_name (λ front w. variable_on m (operand_to m front (Some x)) w) old k.name n))
          (class_field m x o (record { mark = n; text = k.name }) k (named refl) (subst (λ (z : ClassKey). FindsFieldIn rows (scope_of d) z k.name (one (field_decl k))) same h.finds))

      pub field_through : (place : ℕ) (f : Form) → slice_get (Asked ∷ OnClass ∷ OnOuterClass ∷ []) place ≡ Some f → ThroughTo f
      field_through place f there = three_forms ThroughTo asked_through
          (λ named h. class_field m (tree.name m (new_word m k.class.name)) k.class (record { mark = n; text = k.name }) k
          (fronts.words None k.class.name k.class (tree.name m (new_word m k.class.name)) h.0 (m, new_word m k.class.name, refl, refl)) h.1.finds)
          (λ named h. subst (λ (front : Front). Stands (field_decl k) (variable_on m (operand_to m front (Some x)) (record { mark = n; text = k.name })))
          (sym (outer_front_is k.class.outer k.class.name h.0 h.1))
          (class_field m (tree.field m (tree.name m (new_word m h.0)) (new_word m k.class.name)) k.class (record { mark = n; text = k.name }) k
          (fronts.words (Some h.0) k.class.name k.class (tree.field m (tree.name m (new_word m h.0)) (new_word m k.class.name)) h.2 (m, m, new_word m h.0, new_word m k.class.name, refl, refl, refl)) h.3.finds))
          place f there

  -- ---- a class in front of a dot

  -- it is the class's name, by whatever words; V is the tree of a choice
  module _ (m n : A) (old : List ℕ) (k : ClassKey) (w : InFront) (on : Option Operand) (V : Front → tree.Word A → tree.Exp A) where
    abbrev in_front : Reference
    in_front = record { form = ref.ClassInFront; asked = k.name; operand = on; front = named_class w; args = [] }

    abbrev new_name : tree.Word A
    new_name = record { mark = n; text = k.name }

    abbrev InFrontTo : Form → Type 0
    InFrontTo f = Binds rows (scope_of d) in_front (class_decl k) f
        → IsClassName rows d (V (front_of (spelled old k.name k f)) (word_to (spelled old k.name k f) (record { mark = n; text = old }))) k

    simple_in_front : V alone new_name ≡ tree.name m new_name → InFrontTo ClassInFront
    simple_in_front by_itself leads = subst (λ (y : tree.Exp A). IsClassName rows d y k) (sym by_itself) (fronts.words None k.name k (tree.name m new_name) leads (m, new_name, refl, refl))

    outer_in_front : ((o : List ℕ) → V (by_class o) new_name ≡ tree.field m (tree.name m (new_word m o)) new_name) → InFrontTo OuterClassInFront
    outer_in_front by_outer (o, is, leads) = subst (λ (front : Front). IsClassName rows d (V front new_name) k) (sym (outer_type_is k.outer k.name o is))
        (subst (λ (y : tree.Exp A). IsClassName rows d y k) (sym (by_outer o))
        (fronts.words (Some o) k.name k (tree.field m (tree.name m (new_word m o)) new_name) leads (m, m, new_word m o, new_name, refl, refl, refl)))

    -- the asked words are looked at where they stand
    pub class_in_front : V alone new_name ≡ tree.name m new_name → ((o : List ℕ) → V (by_class o) new_name ≡ tree.field m (tree.name m (new_word m o)) new_name)
        → (place : ℕ) (f : Form) → slice_get (Asked ∷ ClassInFront ∷ OuterClassInFront ∷ []) place ≡ Some f → (f ≡ Asked → InFrontTo Asked) → InFrontTo f
    class_in_front by_itself by_outer place f there = front_forms (λ x. (x ≡ Asked → InFrontTo Asked) → InFrontTo x) (λ asked. asked refl)
        (λ asked. simple_in_front by_itself) (λ asked. outer_in_front by_outer) place f there

  -- ---- methods

  module _ (m n : A) (old : List ℕ) (k : MethodKey) (args : tree.Exps A) (ts : List Ty) (types : HaveTypes rows d args ts) where
    abbrev call_to : Option (tree.Exp A) → tree.Word A → tree.Exp A
    call_to x w = tree.call m (target_of x) w args

    abbrev simple_call : Reference
    simple_call = record { form = ref.MethodSimple; asked = k.name; operand = None; front = None; args = ts }

    abbrev CallTo : Form → Type 0
    CallTo f = Binds rows (scope_of d) simple_call (method_decl k) f
        → Stands (method_decl k) (call_to (operand_to m (front_of (spelled old k.name k.class f)) None) (word_to (spelled old k.name k.class f) (record { mark = n; text = old })))

    by_call : (f : Form) (y : tree.Exp A) → IsNamed y → Binds rows (scope_of d) simple_call (method_decl k) f → IsTree simple_call (method_decl k) (tree.this m) args f y → Stands (method_decl k) y
    by_call f y ok binds shape = bound simple_call (method_decl k) f (tree.this m) args y ok binds shape (fits_alone m ref.MethodSimple k.name args ts types)

    asked_call : CallTo Asked
    asked_call binds = subst (λ (y : tree.Exp A). Stands (method_decl k) y) (sym (with_name (λ front w. call_to (operand_to m front None) w) old k.name n))
        (by_call Asked (tree.call m tree.no_target (record { mark = n; text = k.name }) args) tt binds (m, record { mark = n; text = k.name }, refl, refl))

    pub call_by_name : (place : ℕ) (f : Form) → slice_get (Asked ∷ OnThis ∷ OnClass ∷ OnOuterClass ∷ []) place ≡ Some f → CallTo f
    call_by_name place f there = four_forms CallTo asked_call
        (λ binds. by_call OnThis (tree.call m (tree.on (tree.this m)) (record { mark = n; text = k.name }) args) tt binds (tree.this m, (m, refl), (m, record { mark = n; text = k.name }, refl, refl)))
        (λ binds. by_call OnClass (tree.call m (tree.on (tree.name m (new_word m k.class.name))) (record { mark = n; text = k.name }) args) tt binds
        (tree.name m (new_word m k.class.name), (m, new_word m k.class.name, refl, refl), (m, record { mark = n; text = k.name }, refl, refl)))
        (λ binds. subst (λ (front : Front). Stands (method_decl k) (call_to (operand_to m front None) (record { mark = n; text = k.name })))
        (sym (outer_front_is k.class.outer k.class.name binds.0 binds.1))
        (by_call OnOuterClass (tree.call m (tree.on (tree.field m (tree.name m (new_word m binds.0)) (new_word m k.class.name))) (record { mark = n; text = k.name }) args) tt binds
        (binds.0, tree.field m (tree.name m (new_word m binds.0)) (new_word m k.class.name), binds.1, (m, m, new_word m binds.0, new_word m k.class.name, refl, refl, refl), (m, record { mark = n; text = k.name }, refl, refl))))
        place f there

    module _ (x : tree.Exp A) (o : ClassKey) (type : HasType rows d x (class o)) (apart : (z : ClassKey) → IsClassName rows d x z → ⊥) where
      abbrev call_on : Reference
      call_on = record { form = ref.MethodOn; asked = k.name; operand = Some (record { ty = class o; text = [] }); front = None; args = ts }

      abbrev CallOnTo : Form → Type 0
      CallOnTo f = Binds rows (scope_of d) call_on (method_decl k) f
          → Stands (method_decl k) (call_to (operand_to m (front_of (spelled old k.name k.class f)) (Some x)) (word_to (spelled old k.name k.class f) (record { mark = n; text = old })))

      by_call_on : (f : Form) (y : tree.Exp A) → IsNamed y → Binds rows (scope_of d) call_on (method_decl k) f → IsTree call_on (method_decl k) x args f y → Stands (method_decl k) y
      by_call_on f y ok binds shape = bound call_on (method_decl k) f x args y ok binds shape (fits_value ref.MethodOn k.name o x args ts type apart types)

      asked_call_on : CallOnTo Asked
      asked_call_on binds = subst (λ (y : tree.Exp A). Stands (method_decl k) y) (sym (with_name (λ front w. call_to (operand_to m front (Some x)) w) old k.name n))
          (by_call_on Asked (tree.call m (tree.on x) (record { mark = n; text = k.name }) args) tt binds (m, record { mark = n; text = k.name }, refl, refl))

      pub call_on_value : (place : ℕ) (f : Form) → slice_get (Asked ∷ OnCastOperand ∷ []) place ≡ Some f → CallOnTo f
      call_on_value place f there = two_forms CallOnTo OnCastOperand asked_call_on
          (λ binds. by_call_on OnCastOperand (tree.call m (tree.on (cast_tree m k.class.name x)) (record { mark = n; text = k.name }) args) tt binds
          (cast_tree m k.class.name x, (m, m, m, new_word m k.class.name, refl, refl), (m, record { mark = n; text = k.name }, refl, refl)))
          place f there

    module _ (x : tree.Exp A) (o : ClassKey) (words : InFront) where
      abbrev call_through : Reference
      call_through = record { form = ref.ThroughClass; asked = k.name; operand = Some (record { ty = class o; text = [] }); front = named_class words; args = ts }

      abbrev CallThroughTo : Form → Type 0
      CallThroughTo f = (f ≡ Asked → IsClassName rows d x o) → Binds rows (scope_of d) call_through (method_decl k) f
          → Stands (method_decl k) (call_to (operand_to m (front_of (spelled old k.name k.class f)) (Some x)) (word_to (spelled old k.name k.class f) (record { mark = n; text = old })))

      asked_call_through : CallThroughTo Asked
      asked_call_through named (b, is, found, (q, of, h)) = let same : q ≡ o = cc in
          subst (λ (y : tree.Exp A). Stands (method_decl k) y) (sym (with_name (λ front w. call_to (operand_to m front (Some x)) w) old k.name n))
          (class_call m x o (record { mark = n; text = k.name }) args ts k (named refl) types (subst (λ (z : ClassKey). FindsMethodOf rows (scope_of d) z k.name ts (one (method_decl k))) same h.finds))

      pub call_through_class : (place : ℕ) (f : Form) → slice_get (Asked ∷ OnClass ∷ OnOuterClass ∷ []) place ≡ Some f → CallThroughTo f
      call_through_class place f there = three_forms CallThroughTo asked_call_through
          (λ named h. class_call m (tree.name m (new_word m k.class.name)) k.class (record { mark = n; text = k.name }) args ts k
          (fronts.words None k.class.name k.class (tree.name m (new_word m k.class.name)) h.0 (m, new_word m k.class.name, refl, refl)) types h.1.finds)
          (λ named h. subst (λ (front : Front). Stands (method_decl k) (call_to (operand_to m front (Some x)) (record { mark = n; text = k.name })))
          (sym (outer_front_is k.class.outer k.class.name h.0 h.1))
          (class_call m (tree.field m (tree.name m (new_word m h.0)) (new_word m k.class.name)) k.class (record { mark = n; text = k.name }) args ts k
          (fronts.words (Some h.0) k.class.name k.class (tree.field m (tree.name m (new_word m h.0)) (new_word m k.class.name)) h.2 (m, m, new_word m h.0, new_word m k.class.name, refl, refl, refl)) types h.3.finds))
          place f there

    -- by `super`
    abbrev super_reference : Reference
    super_reference = record { form = ref.AsAsked; asked = k.name; operand = None; front = None; args = ts }

    pub call_by_super : Binds rows (scope_of d) super_reference (method_decl k) Asked
        → Stands (method_decl k) (tree.super_call m (word_to (renamed old k.name) (record { mark = n; text = old })) args)
    call_by_super binds = subst (λ (y : tree.Exp A). Stands (method_decl k) y) (sym (with_name (λ front w. tree.super_call m w args) old k.name n))
        (bound super_reference (method_decl k) Asked (tree.this m) args (tree.super_call m (record { mark = n; text = k.name }) args) tt binds
        (m, record { mark = n; text = k.name }, refl, refl) (fits_alone m ref.AsAsked k.name args ts types))
