-- Tests of types: by number they say what they say by key, where each class has a row.
use Rattle.std.proofs.Common.{◌≡◌, ℕ, List, Option, Some, None, Bool, true, false, refl, sym, ap, ◌∙◌, eq-eqb, eqb-true}
use Rattle.std.specs.Prelude.{◌&&◌, ◌||◌, ◌==◌, option_map, slice_get}
use Rattle.std.specs.List.{list_any}
use Rattle.jr_ast.specs.declared.operators.UnOp.{UnOp}
use Rattle.jr_ast.specs.declared.operators.UnOp.TheVariants as sign
use Rattle.jr_ast.specs.declared.operators.BinOp.{BinOp}
use Rattle.jr_ast.specs.declared.operators.BinOp.TheVariants as op
use Rattle.jr_table.specs.Keys.{ClassKey, Ty, int, boolean, void, null, class}
use Rattle.jr_table.specs.Decls.{class_decl}
use Rattle.jr_table.specs.Rows.{Row}
use Rattle.jr_table.specs.SameKeys.{same_class, class_decides}
use Rattle.jr_table.specs.Entries.{number_of, kind_of, entries_of}
use Rattle.jr_table.specs.Chains.{chain_of}
use Rattle.jr_table.specs.Calls.{assignable}
use Rattle.jr_table.specs.Binding.{sign_type, operator_type}
use Rattle.jr_table.specs.Notes as pure
use Rattle.jr_table.proofs.RowLaws.{number_stands, some_inside}
use Rattle.jr_bind_expr.specs.Places.{IsRowed, IsRowedIf}
use Rattle.jr_bind_expr.specs.Numbered.{is_int, is_boolean, is_void, is_reference, are_int, are_boolean, suits, comparable, equates, takes, takes_one, sign_kind, operator_kind}
use Rattle.jr_bind_expr.proofs.Scoped.{class_is}

-- two tests that hold of the same
same_test : (a b : Bool) → (a ≡ true → b ≡ true) → (b ≡ true → a ≡ true) → a ≡ b
same_test true true f g = refl
same_test true false f g = sym (f refl)
same_test false true f g = g refl
same_test false false f g = refl

module _ (rows : List Row) where
  pub int_is : (t : Option Ty) → is_int (option_map (kind_of rows) t) ≡ pure.is_ty int t
  int_is None = refl
  int_is (Some int) = refl
  int_is (Some boolean) = refl
  int_is (Some void) = refl
  int_is (Some null) = refl
  int_is (Some (class k)) = refl

  pub boolean_is : (t : Option Ty) → is_boolean (option_map (kind_of rows) t) ≡ pure.is_ty boolean t
  boolean_is None = refl
  boolean_is (Some int) = refl
  boolean_is (Some boolean) = refl
  boolean_is (Some void) = refl
  boolean_is (Some null) = refl
  boolean_is (Some (class k)) = refl

  pub void_is : (t : Option Ty) → is_void (option_map (kind_of rows) t) ≡ pure.is_ty void t
  void_is None = refl
  void_is (Some int) = refl
  void_is (Some boolean) = refl
  void_is (Some void) = refl
  void_is (Some null) = refl
  void_is (Some (class k)) = refl

  pub ints_are : (s t : Option Ty) → are_int (option_map (kind_of rows) s) (option_map (kind_of rows) t) ≡ pure.are_ty int s t
  ints_are s t = λ i. int_is s i && int_is t i

  booleans_are : (s t : Option Ty) → are_boolean (option_map (kind_of rows) s) (option_map (kind_of rows) t) ≡ pure.are_ty boolean s t
  booleans_are s t = λ i. boolean_is s i && boolean_is t i

  reference_is : (t : Ty) → is_reference (kind_of rows t) ≡ pure.is_reference t
  reference_is int = refl
  reference_is boolean = refl
  reference_is void = refl
  reference_is null = refl
  reference_is (class k) = refl

  -- two classes that have rows are one where their numbers are
  pub classes_are : (j k : ClassKey) (a b : ℕ) → number_of rows (class_decl j) ≡ Some a → number_of rows (class_decl k) ≡ Some b → (a == b) ≡ same_class j k
  classes_are j k a b f g = same_test (a == b) (same_class j k) to back
    where
      to : (a == b) ≡ true → same_class j k ≡ true
      to h =
          let r = number_stands rows (class_decl j) a f in
          let s = number_stands rows (class_decl k) b g in
          let row : r.row ≡ s.row = some_inside (slice_get rows b) r.row s.row (ap (slice_get rows) (sym (eqb-true a b h)) ∙ r.stands) s.stands in
          let decls : class_decl j ≡ class_decl k = sym r.declares ∙ ap (λ (x : Row). x.decl) row ∙ s.declares in
          (class_decides j k).1 cc

      back : same_class j k ≡ true → (a == b) ≡ true
      back h =
          let same = (class_decides j k).0 h in
          eq-eqb a b (some_inside (number_of rows (class_decl k)) a b (ap (λ x. number_of rows (class_decl x)) (sym same) ∙ f) g)

  pub assigns_is : (s t : Ty) → IsRowed rows s → IsRowed rows t → assignable (entries_of rows) (kind_of rows s) (kind_of rows t) ≡ pure.assigns rows s t
  unfolding assignable
  assigns_is int int f g = refl
  assigns_is int boolean f g = refl
  assigns_is int void f g = refl
  assigns_is int null f g = refl
  assigns_is int (class k) f g = refl
  assigns_is boolean int f g = refl
  assigns_is boolean boolean f g = refl
  assigns_is boolean void f g = refl
  assigns_is boolean null f g = refl
  assigns_is boolean (class k) f g = refl
  assigns_is void int f g = refl
  assigns_is void boolean f g = refl
  assigns_is void void f g = refl
  assigns_is void null f g = refl
  assigns_is void (class k) f g = refl
  assigns_is null int f g = refl
  assigns_is null boolean f g = refl
  assigns_is null void f g = refl
  assigns_is null null f g = refl
  assigns_is null (class k) f g = refl
  assigns_is (class j) int f g = refl
  assigns_is (class j) boolean f g = refl
  assigns_is (class j) void f g = refl
  assigns_is (class j) null f g = refl
  assigns_is (class j) (class k) (a, f) (b, g) =
      (λ i. (class_is rows j a f i == class_is rows k b g i) || list_any (λ x. x == class_is rows k b g i) (chain_of (entries_of rows) (class_is rows j a f i)))
      ∙ (λ i. classes_are j k a b f g i || list_any (λ x. x == b) (chain_of (entries_of rows) a))
      ∙ sym (λ i. same_class j k || pure.is_below rows (f i) (g i))

  pub suits_is : (s t : Option Ty) → IsRowedIf rows s → IsRowedIf rows t → suits (entries_of rows) (option_map (kind_of rows) s) (option_map (kind_of rows) t) ≡ pure.suits rows s t
  suits_is None None f g = refl
  suits_is None (Some t) f g = refl
  suits_is (Some s) None f g = refl
  suits_is (Some s) (Some t) f g = assigns_is s t f g

  pub comparable_is : (s t : Option Ty) → IsRowedIf rows s → IsRowedIf rows t → comparable (entries_of rows) (option_map (kind_of rows) s) (option_map (kind_of rows) t) ≡ pure.comparable rows s t
  comparable_is None None f g = refl
  comparable_is None (Some t) f g = refl
  comparable_is (Some s) None f g = refl
  comparable_is (Some s) (Some t) f g = λ i. reference_is s i && reference_is t i && (assigns_is s t f g i || assigns_is t s g f i)

  equates_is : (s t : Option Ty) → IsRowedIf rows s → IsRowedIf rows t → equates (entries_of rows) (option_map (kind_of rows) s) (option_map (kind_of rows) t) ≡ pure.equates rows s t
  equates_is s t f g = λ i. ints_are s t i || (booleans_are s t i || comparable_is s t f g i)

  pub takes_is : (o : BinOp) (s t : Option Ty) → IsRowedIf rows s → IsRowedIf rows t → takes (entries_of rows) o (option_map (kind_of rows) s) (option_map (kind_of rows) t) ≡ pure.takes rows o s t
  takes_is op.Or s t f g = booleans_are s t
  takes_is op.And s t f g = booleans_are s t
  takes_is op.Eq s t f g = equates_is s t f g
  takes_is op.Ne s t f g = equates_is s t f g
  takes_is op.Lt s t f g = ints_are s t
  takes_is op.Gt s t f g = ints_are s t
  takes_is op.Le s t f g = ints_are s t
  takes_is op.Ge s t f g = ints_are s t
  takes_is op.Add s t f g = ints_are s t
  takes_is op.Sub s t f g = ints_are s t
  takes_is op.Mul s t f g = ints_are s t
  takes_is op.Div s t f g = ints_are s t
  takes_is op.Rem s t f g = ints_are s t

  pub takes_one_is : (o : UnOp) (t : Option Ty) → takes_one o (option_map (kind_of rows) t) ≡ pure.takes_one o t
  takes_one_is sign.Plus t = int_is t
  takes_one_is sign.Minus t = int_is t
  takes_one_is sign.Not t = boolean_is t

  pub sign_is : (o : UnOp) → sign_kind o ≡ kind_of rows (sign_type o)
  sign_is sign.Plus = refl
  sign_is sign.Minus = refl
  sign_is sign.Not = refl

  pub operator_is : (o : BinOp) → operator_kind o ≡ kind_of rows (operator_type o)
  operator_is op.Add = refl
  operator_is op.Sub = refl
  operator_is op.Mul = refl
  operator_is op.Div = refl
  operator_is op.Rem = refl
  operator_is op.Or = refl
  operator_is op.And = refl
  operator_is op.Eq = refl
  operator_is op.Ne = refl
  operator_is op.Lt = refl
  operator_is op.Gt = refl
  operator_is op.Le = refl
  operator_is op.Ge = refl
