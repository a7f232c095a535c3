-- What each kind of expression means, from what its parts mean.
use Rattle.std.proofs.Common.{◌≡◌, ℕ, List, map, Option, Some, None, Bool, true, false, refl, sym, ap, ◌∙◌}
use Rattle.std.specs.Prelude.{option_map, option_and_then, is_some, ◌&&◌, codes, if◌then◌else◌}
use Rattle.jr_ast.specs.Tree as tree
use Rattle.jr_ast.specs.declared.operators.UnOp.{UnOp}
use Rattle.jr_ast.specs.declared.operators.BinOp.{BinOp}
use Rattle.jr_ast.specs.declared.operators.BumpOp.{BumpOp}
use Rattle.jr_table.specs.declared.entries.Kind.{Kind}
use Rattle.jr_table.specs.declared.entries.Kind.TheVariants as kind
use Rattle.jr_table.specs.Keys.{ClassKey, class}
use Rattle.jr_table.specs.Decls.{Decl, class_decl}
use Rattle.jr_table.specs.Rows.{Row}
use Rattle.jr_table.specs.Prelude.{top_key}
use Rattle.jr_table.specs.Chains.{parent_of}
use Rattle.jr_table.specs.Conditions.{AreRows}
use Rattle.jr_table.specs.Entries.{class_number, kind_of, entries_of}
use Rattle.jr_table.specs.Fields.{find_member_type}
use Rattle.jr_table.specs.Calls.{find_call, find_method, find_ctor}
use Rattle.jr_table.specs.Found.{Found, one, nothing, many, not_accessible, from_static}
use Rattle.jr_table.specs.Scope.{Scope}
use Rattle.jr_table.specs.Lookup.{shown, find_variable, find_type_of, find_field_in}
use Rattle.jr_table.specs.Context.{Context, scope_of}
use Rattle.jr_table.specs.Meanings as pure
use Rattle.jr_table.specs.Meanings.{class_found, type_of_found, or_type, find_left, find_left_of, find_in, find_for, field_found, call_found, plain_call_found, ctor_found, own_superclass, created_class, written_type, type_of, class_name_of, target_found, types_of, class_on, reference, type_references, references}
use Rattle.jr_table.specs.Notes.{breaks, when, test_found, is_final_decl, is_fixed, is_constant_found, is_constant, is_this}
use Rattle.jr_table.specs.declared.rules.Rule.TheVariants as rule
use Rattle.jr_table.proofs.RowLaws.{the_number}
use Rattle.jr_bind_expr.specs.declared.places.Place.{Place}
use Rattle.jr_bind_expr.specs.declared.meanings.Meaning.{Meaning}
use Rattle.jr_bind_expr.specs.Places.{context_of, Knows}
use Rattle.jr_bind_expr.specs.Numbered.{in_class, for_kinds, class_in, class_kind, on_class, sign_kind, operator_kind}
use Rattle.jr_bind_expr.specs.Means.{Means, TargetMeans}
use Rattle.jr_bind_expr.specs.Arms.{Says, NameSays, FieldSays, plain, field_at, left_at, call_answer, super_answer, ctor_answer, created}
use Rattle.jr_bind_expr.proofs.Scoped.{class_is, place_class}
use Rattle.jr_bind_expr.proofs.Numbers.{class_in_is, on_class_is, fields_are, types_are, methods_are, ctors_are, calls_are}
use Rattle.jr_bind_expr.proofs.TypeTests.{sign_is, operator_is}
use Rattle.jr_bind_expr.proofs.Rowing.{string_row, class_row, parent_is}

is_some_of : {X Y : Type 0} (f : X → Y) (o : Option X) → is_some (option_map f o) ≡ is_some o
is_some_of f None = refl
is_some_of f (Some x) = refl

choice : (b : Bool) (f g : Decl → Bool) (x : Found) → (if b then test_found f x else test_found g x) ≡ test_found (λ d. if b then f d else g d) x
choice true f g x = refl
choice false f g x = refl

module _ {A : Type 0} (B : A → ℕ → ℕ) (rows : List Row) (are : AreRows rows) (p : Place) (knows : Knows rows p) where
  abbrev c : Context
  c = context_of p

  abbrev s : Scope
  s = scope_of c

  here : class_number rows s.class ≡ p.class
  here = place_class rows p knows

  pub number_means : (base : ℕ) (m : A) (n : ℕ) (at : ℕ) → at ≡ B m base → Means B rows c base (tree.number m n) (plain at (Some kind.Int) true)
  unfolding type_of class_name_of target_found types_of is_constant
  number_means base m n at e = record { at = e; kind = refl; class = refl; fixed = refl; constant = refl }

  pub truth_means : (base : ℕ) (m : A) (b : Bool) (at : ℕ) → at ≡ B m base → Means B rows c base (tree.truth m b) (plain at (Some kind.Boolean) true)
  unfolding type_of class_name_of target_found types_of is_constant
  truth_means base m b at e = record { at = e; kind = refl; class = refl; fixed = refl; constant = refl }

  pub null_means : (base : ℕ) (m : A) (at : ℕ) → at ≡ B m base → Means B rows c base (tree.null m) (plain at (Some kind.Null) true)
  unfolding type_of class_name_of target_found types_of is_constant
  null_means base m at e = record { at = e; kind = refl; class = refl; fixed = refl; constant = refl }

  pub string_means : (base : ℕ) (m : A) (text : List ℕ) (at : ℕ) → at ≡ B m base → Means B rows c base (tree.string m text) (plain at (Some (kind.Class 2)) true)
  unfolding type_of class_name_of target_found types_of is_constant
  string_means base m text at e = record { at = e; kind = ap (λ n. Some (kind.Class n)) (sym (class_is rows (top_key (codes "String")) 2 (the_number rows are (class_decl (top_key (codes "String"))) 2 (string_row rows are)))); class = refl; fixed = refl; constant = refl }

  pub this_means : (base : ℕ) (m : A) (at : ℕ) → at ≡ B m base → Means B rows c base (tree.this m) (plain at (Some (kind.Class p.class)) false)
  unfolding type_of class_name_of target_found types_of is_constant
  this_means base m at e = record { at = e; kind = ap (λ n. Some (kind.Class n)) (sym here); class = refl; fixed = refl; constant = refl }

  pub class_literal_means : (base : ℕ) (m : A) (of : tree.TypeName A) (at : ℕ) → at ≡ B m base → Means B rows c base (tree.class_literal m of) (plain at (Some (kind.Class 3)) false)
  unfolding type_of class_name_of target_found types_of is_constant
  class_literal_means base m of at e = record { at = e; kind = ap (λ n. Some (kind.Class n)) (sym (class_is rows (top_key (codes "Class")) 3 (the_number rows are (class_decl (top_key (codes "Class"))) 3 (class_row rows are)))); class = refl; fixed = refl; constant = refl }

  pub name_means : (base : ℕ) (m : A) (w : tree.Word A) (begin at : ℕ) (x : Meaning) → begin ≡ B m base → at ≡ B w.mark (B m base) → NameSays rows c begin at w.text x → Means B rows c base (tree.name m w) x
  unfolding type_of class_name_of target_found types_of is_constant
  name_means base m w begin at x e f says = record {
    at = says.begins ∙ e;
    kind = says.kind;
    class = says.class_is;
    fixed = says.fixed ∙ ap (λ n. when (test_found (is_fixed rows c) (find_variable rows s w.text)) (breaks n rule.FinalAssigned)) f;
    constant = says.constant;
  }

  -- what the name behind a dot finds, from what stands before it
  module _ (e : tree.Exp A) (from : ℕ) (x : Meaning) (of : Means B rows c from e x) (name : List ℕ) where
    on_is : on_class x.class x.kind ≡ option_map (class_number rows) (class_on rows c e)
    on_is = (λ i. on_class (of.class i) (of.kind i)) ∙ on_class_is rows (class_name_of rows c e) (type_of rows c e)

    pub field_is : field_at rows p.class (on_class x.class x.kind) name ≡ field_found rows c (class_on rows c e) name
    field_is = ap (λ o. field_at rows p.class o name) on_is ∙ fields_are rows s p.class here (class_on rows c e) name

    member_type_is : (k : ClassKey) → shown rows (find_member_type (entries_of rows) p.class (class_number rows k) name) ≡ find_type_of rows s k name
    member_type_is k = types_are rows s p.class here (Some k) name

    -- as a class before a dot
    left_of : (o : Option ClassKey) (f : Found) → (((k : ClassKey) → o ≡ Some k → f ≡ find_field_in rows s k name)) → class_found (left_at rows p.class (option_map (class_number rows) o) f name) ≡ option_and_then (λ k. class_found (find_left_of rows s k name)) o
    unfolding find_left_of
    left_of None f h = refl
    left_of (Some k) f h = λ i. class_found (or_type (h k refl i) (member_type_is k i))

    found_here : (k : ClassKey) → class_name_of rows c e ≡ Some k → field_at rows p.class (on_class x.class x.kind) name ≡ find_field_in rows s k name
    found_here k h = field_is ∙ (λ i. find_in (pure.on_class (h i) (type_of rows c e)) (λ j. find_field_in rows s j name))

    pub left_here : (k : ClassKey) → class_name_of rows c e ≡ Some k → left_at rows p.class (Some (class_number rows k)) (field_at rows p.class (on_class x.class x.kind) name) name ≡ find_left_of rows s k name
    unfolding find_left_of
    left_here k h = λ i. or_type (found_here k h i) (member_type_is k i)

    pub left_is : class_found (left_at rows p.class x.class (field_at rows p.class (on_class x.class x.kind) name) name) ≡ option_and_then (λ k. class_found (find_left_of rows s k name)) (class_name_of rows c e)
    left_is = ap (λ o. class_found (left_at rows p.class o (field_at rows p.class (on_class x.class x.kind) name) name)) of.class ∙ left_of (class_name_of rows c e) (field_at rows p.class (on_class x.class x.kind) name) found_here

  pub field_means : (base : ℕ) (m : A) (e : tree.Exp A) (w : tree.Word A) (begin at : ℕ) (on_this : Bool) (x y : Meaning) → begin ≡ B m base → at ≡ B w.mark (B m base) → on_this ≡ is_this rows c e → Means B rows c (B m base) e x
      → (let v = field_at rows p.class (on_class x.class x.kind) w.text in FieldSays rows c begin at on_this x.class v (left_at rows p.class x.class v w.text) y) → Means B rows c base (tree.field m e w) y
  unfolding type_of class_name_of target_found types_of is_constant
  field_means base m e w begin at on_this x y f g h of says =
      let v = field_is e (B m base) x of w.text in
      record {
        at = says.begins ∙ f;
        kind = says.kind ∙ ap (λ (z : Found). option_map (kind_of rows) (type_of_found rows c z)) v;
        class = says.class_is ∙ ap (option_map (class_number rows)) (left_is e (B m base) x of w.text);
        fixed = says.fixed ∙ (λ i. when (if h i then test_found (is_fixed rows c) (v i) else test_found (is_final_decl rows c) (v i)) (breaks (g i) rule.FinalAssigned))
            ∙ ap (λ b. when b (breaks (B w.mark (B m base)) rule.FinalAssigned)) (choice (is_this rows c e) (is_fixed rows c) (is_final_decl rows c) (field_found rows c (class_on rows c e) w.text));
        constant = says.constant ∙ (λ i. is_some (of.class i) && is_constant_found rows c (v i)) ∙ ap (λ b. b && is_constant_found rows c (field_found rows c (class_on rows c e) w.text)) (is_some_of (class_number rows) (class_name_of rows c e));
      }

  -- behind `super`
  pub super_field_is : (name : List ℕ) → field_at rows p.class (parent_of (entries_of rows) p.class) name ≡ field_found rows c (own_superclass rows c) name
  super_field_is name = ap (λ o. field_at rows p.class o name) (parent_is rows are p knows) ∙ fields_are rows s p.class here (own_superclass rows c) name

  pub super_field_means : (base : ℕ) (m : A) (w : tree.Word A) (begin at : ℕ) (y : Meaning) → begin ≡ B m base → at ≡ B w.mark (B m base)
      → (let v = field_at rows p.class (parent_of (entries_of rows) p.class) w.text in Says rows c begin at v None (test_found (is_final_decl rows c) v) false y) → Means B rows c base (tree.super_field m w) y
  unfolding type_of class_name_of target_found types_of is_constant
  super_field_means base m w begin at y f g says =
      let v = super_field_is w.text in
      record {
        at = says.begins ∙ f;
        kind = says.kind ∙ ap (λ (z : Found). option_map (kind_of rows) (type_of_found rows c z)) v;
        class = says.class_is;
        fixed = says.fixed ∙ (λ i. when (test_found (is_final_decl rows c) (v i)) (breaks (g i) rule.FinalAssigned));
        constant = says.constant;
      }

  -- calls
  pub call_is : (to : tree.Target A) (from : ℕ) (t : Option Meaning) → TargetMeans B rows c from to t → (name : List ℕ) (args : tree.Exps A) (ts : Option (List Kind)) → ts ≡ option_map (map (kind_of rows)) (types_of rows c args)
      → shown rows (call_answer rows p.class p.is_static t name ts) ≡ target_found rows c to name (types_of rows c args)
  unfolding type_of class_name_of target_found types_of context_of
  call_is tree.no_target from None h name args ts e = ap (λ us. shown rows (for_kinds us (λ vs. find_call (entries_of rows) p.class p.is_static name vs))) e ∙ calls_are rows s p.class here name (types_of rows c args)
  call_is tree.no_target from (Some x) h name args ts e = absurd h
  call_is (tree.on e) from None h name args ts k = absurd h
  call_is (tree.on e) from (Some x) h name args ts k =
      (λ i. shown rows (in_class (on_is e from x h name i) (λ c. for_kinds (k i) (λ us. find_method (entries_of rows) p.class c name us)))) ∙ methods_are rows s p.class here (class_on rows c e) name (types_of rows c args)

  pub call_means : (base : ℕ) (m : A) (to : tree.Target A) (w : tree.Word A) (args : tree.Exps A) (begin at : ℕ) (f : Found) (y : Meaning) → begin ≡ B m base → f ≡ target_found rows c to w.text (types_of rows c args)
      → Says rows c begin at f None false false y → Means B rows c base (tree.call m to w args) y
  unfolding type_of class_name_of target_found types_of is_constant
  call_means base m to w args begin at f y e is says = record {
    at = says.begins ∙ e;
    kind = says.kind ∙ ap (λ (z : Found). option_map (kind_of rows) (type_of_found rows c z)) is;
    class = says.class_is;
    fixed = says.fixed;
    constant = says.constant;
  }

  pub super_call_is : (name : List ℕ) (args : tree.Exps A) (ts : Option (List Kind)) → ts ≡ option_map (map (kind_of rows)) (types_of rows c args)
      → shown rows (super_answer rows p.class name ts) ≡ call_found rows c (own_superclass rows c) name (types_of rows c args)
  super_call_is name args ts e =
      (λ i. shown rows (in_class (parent_is rows are p knows i) (λ c. for_kinds (e i) (λ us. find_method (entries_of rows) p.class c name us)))) ∙ methods_are rows s p.class here (own_superclass rows c) name (types_of rows c args)

  pub super_call_means : (base : ℕ) (m : A) (w : tree.Word A) (args : tree.Exps A) (begin at : ℕ) (f : Found) (y : Meaning) → begin ≡ B m base → f ≡ call_found rows c (own_superclass rows c) w.text (types_of rows c args)
      → Says rows c begin at f None false false y → Means B rows c base (tree.super_call m w args) y
  unfolding type_of class_name_of target_found types_of is_constant
  super_call_means base m w args begin at f y e is says = record {
    at = says.begins ∙ e;
    kind = says.kind ∙ ap (λ (z : Found). option_map (kind_of rows) (type_of_found rows c z)) is;
    class = says.class_is;
    fixed = says.fixed;
    constant = says.constant;
  }

  -- creations
  created_class_is : (of : tree.TypeName A) (t : Option Kind) → t ≡ option_map (kind_of rows) (written_type rows s of) → class_in t ≡ option_map (class_number rows) (created_class rows c of)
  created_class_is of t e = ap class_in e ∙ class_in_is rows (written_type rows s of)

  pub ctor_is : (of : tree.TypeName A) (t : Option Kind) → t ≡ option_map (kind_of rows) (written_type rows s of) → (args : tree.Exps A) (ts : Option (List Kind)) → ts ≡ option_map (map (kind_of rows)) (types_of rows c args)
      → shown rows (ctor_answer rows p.class (class_in t) ts) ≡ ctor_found rows c (created_class rows c of) (types_of rows c args)
  ctor_is of t e args ts k =
      (λ i. shown rows (in_class (created_class_is of t e i) (λ c. for_kinds (k i) (λ us. find_ctor (entries_of rows) p.class c us)))) ∙ ctors_are rows s p.class here (created_class rows c of) (types_of rows c args)

  class_kind_is : (o : Option ClassKey) → class_kind (option_map (class_number rows) o) ≡ option_map (kind_of rows) (option_map class o)
  class_kind_is None = refl
  class_kind_is (Some k) = refl

  created_is : (o : Option ClassKey) (f : Found) → created (class_kind (option_map (class_number rows) o)) f ≡ option_map (kind_of rows) (pure.created o f)
  created_is o (one d) = class_kind_is o
  created_is o nothing = refl
  created_is o (many d e) = refl
  created_is o (not_accessible d) = refl
  created_is o (from_static d) = refl

  pub create_means : (base : ℕ) (m : A) (of : tree.TypeName A) (args : tree.Exps A) (begin : ℕ) (t : Option Kind) (f : Found) → begin ≡ B m base → t ≡ option_map (kind_of rows) (written_type rows s of) → f ≡ ctor_found rows c (created_class rows c of) (types_of rows c args)
      → Means B rows c base (tree.create m of args) (plain begin (created (class_kind (class_in t)) f) false)
  unfolding type_of class_name_of target_found types_of is_constant
  create_means base m of args begin t f e k is = record {
    at = e;
    kind = (λ i. created (class_kind (created_class_is of t k i)) (is i)) ∙ created_is (created_class rows c of) (ctor_found rows c (created_class rows c of) (types_of rows c args));
    class = refl;
    fixed = refl;
    constant = refl;
  }

  -- what has one part, or two
  module _ (base : ℕ) (m : A) (begin : ℕ) (e : begin ≡ B m base) (l : tree.Exp A) (x : Meaning) (of : Means B rows c (B m base) l x) where
    pub paren_means : Means B rows c base (tree.paren m l) (plain begin x.kind x.is_constant)
    unfolding type_of class_name_of target_found types_of is_constant
    paren_means = record { at = e; kind = of.kind; class = refl; fixed = refl; constant = of.constant }

    pub cast_means : (ty : tree.TypeName A) (t : Option Kind) → t ≡ option_map (kind_of rows) (written_type rows s ty) → Means B rows c base (tree.cast m ty l) (plain begin t x.is_constant)
    unfolding type_of class_name_of target_found types_of is_constant
    cast_means ty t k = record { at = e; kind = k; class = refl; fixed = refl; constant = of.constant }

    pub unary_means : (o : UnOp) → Means B rows c base (tree.unary m o l) (plain begin (Some (sign_kind o)) x.is_constant)
    unfolding type_of class_name_of target_found types_of is_constant
    unary_means o = record { at = e; kind = ap Some (sign_is rows o); class = refl; fixed = refl; constant = of.constant }

    pub bump_means : (o : BumpOp) → Means B rows c base (tree.bump m o l) (plain begin (Some kind.Int) false)
    unfolding type_of class_name_of target_found types_of is_constant
    bump_means o = record { at = e; kind = refl; class = refl; fixed = refl; constant = refl }

    module _ (r : tree.Exp A) (y : Meaning) (with : Means B rows c (B m base) r y) where
      pub binary_means : (o : BinOp) → Means B rows c base (tree.binary m o l r) (plain begin (Some (operator_kind o)) (x.is_constant && y.is_constant))
      unfolding type_of class_name_of target_found types_of is_constant
      binary_means o = record { at = e; kind = ap Some (operator_is rows o); class = refl; fixed = refl; constant = λ i. of.constant i && with.constant i }

      pub assign_means : Means B rows c base (tree.assign m l r) (plain begin x.kind false)
      unfolding type_of class_name_of target_found types_of is_constant
      assign_means = record { at = e; kind = of.kind; class = refl; fixed = refl; constant = refl }

      pub compound_means : (o : BinOp) → Means B rows c base (tree.compound m o l r) (plain begin (Some kind.Int) false)
      unfolding type_of class_name_of target_found types_of is_constant
      compound_means o = record { at = e; kind = refl; class = refl; fixed = refl; constant = refl }
