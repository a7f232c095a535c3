-- The types of expressions are of classes that have rows.
use Rattle.std.proofs.Common.{◌≡◌, ℕ, zero, suc, List, [], ◌∷◌, ◌++◌, Option, Some, None, refl, sym, ap, subst, ◌∙◌, inl, inr}
use Rattle.std.specs.Prelude.{slice_get, codes}
use Rattle.jr_ast.specs.declared.operators.UnOp.{UnOp}
use Rattle.jr_ast.specs.declared.operators.UnOp.TheVariants as sign
use Rattle.jr_ast.specs.declared.operators.BinOp.{BinOp}
use Rattle.jr_ast.specs.declared.operators.BinOp.TheVariants as op
use Rattle.jr_ast.specs.declared.operators.ModWord.TheVariants as word
use Rattle.jr_ast.specs.Tree as tree
use Rattle.jr_table.specs.Keys.{ClassKey, Ty, int, boolean, null, class}
use Rattle.jr_table.specs.Decls.{MemberKey, head, field, method, constructor, Decl, class_decl, field_decl, method_decl, constructor_decl, local_decl}
use Rattle.jr_table.specs.Rows.{Row}
use Rattle.jr_table.specs.Prelude.{top_key, object_key, class_row, prelude_rows}
use Rattle.jr_table.specs.Entries.{IsRowOf, params_of}
use Rattle.jr_table.specs.Conditions.{AreRows, TypesName, as_type, as_parameter}
use Rattle.jr_table.specs.Scope.{Scope}
use Rattle.jr_table.specs.Context.{Context, Local, LocalType, known as of_type, written, scope_of, NamesClass, WritesType, IsLocalType, IsTypeOf}
use Rattle.jr_table.specs.Binding.{HasType, sign_type, operator_type}
use Rattle.jr_table.specs.HeadRules.{types_of}
use Rattle.jr_members.specs.WrittenMembers.{decl_of_member}
use Rattle.jr_code.specs.RunRows.{HasRow}
use Rattle.jr_image_code.specs.KnownPlaces.{IsKnown, IsPlace}
use Rattle.jr_image_code.proofs.ExpImages.{shown_row, written_row}
use Rattle.jr_image_code.proofs.MemberImages.{Of}

in_front : (xs ys : List Row) (n : ℕ) (row : Row) → slice_get xs n ≡ Some row → slice_get (xs ++ ys) n ≡ Some row
in_front [] ys n row e = absurd cc
in_front (x ∷ xs) ys zero row e = e
in_front (x ∷ xs) ys (suc n) row e = in_front xs ys n row e

module _ (rows : List Row) (are : AreRows rows) where
  pub prelude_at : (n : ℕ) (row : Row) → slice_get prelude_rows n ≡ Some row → slice_get rows n ≡ Some row
  prelude_at n row e = subst (λ (z : List Row). slice_get z n ≡ Some row) (sym are.prelude) (in_front prelude_rows are.own n row e)

  row_at : (k : ClassKey) (n : ℕ) (row : Row) → slice_get prelude_rows n ≡ Some row → row.decl ≡ class_decl k → IsRowOf rows (class_decl k) n
  row_at k n row e is = record { row = row; stands = prelude_at n row e; declares = is }

  of_class : (k : ClassKey) → HasRow rows (class_decl k) → IsKnown rows (class k)
  of_class k row j e = (let same : k ≡ j = cc in subst (λ (z : ClassKey). (n : ℕ) × IsRowOf rows (class_decl z) n) same row)

  int_known : IsKnown rows int
  int_known k e = absurd cc

  boolean_known : IsKnown rows boolean
  boolean_known k e = absurd cc

  null_known : IsKnown rows null
  null_known k e = absurd cc

  string_known : IsKnown rows (class (top_key (codes "String")))
  string_known = of_class (top_key (codes "String")) (2, row_at (top_key (codes "String")) 2 (class_row (word.Final ∷ []) (codes "String") (Some object_key)) refl refl)

  class_known : IsKnown rows (class (top_key (codes "Class")))
  class_known = of_class (top_key (codes "Class")) (3, row_at (top_key (codes "Class")) 3 (class_row (word.Final ∷ []) (codes "Class") (Some object_key)) refl refl)

  sign_known : (o : UnOp) → IsKnown rows (sign_type o)
  sign_known sign.Plus = int_known
  sign_known sign.Minus = int_known
  sign_known sign.Not = boolean_known

  operator_known : (o : BinOp) → IsKnown rows (operator_type o)
  operator_known op.Add = int_known
  operator_known op.Sub = int_known
  operator_known op.Mul = int_known
  operator_known op.Div = int_known
  operator_known op.Rem = int_known
  operator_known op.Or = boolean_known
  operator_known op.And = boolean_known
  operator_known op.Eq = boolean_known
  operator_known op.Ne = boolean_known
  operator_known op.Lt = boolean_known
  operator_known op.Gt = boolean_known
  operator_known op.Le = boolean_known
  operator_known op.Ge = boolean_known

  -- ---- of rows

  row_type : (j : ℕ) (row : Row) → slice_get rows j ≡ Some row → (t : Ty) → row.type ≡ Some t → IsKnown rows t
  row_type j row stands t is k e = are.named j row k stands (as_type (is ∙ ap Some e))

  names_it : (ts : List Ty) (t : Ty) (k : ClassKey) → Of t ts → t ≡ class k → TypesName ts k
  names_it [] t k here e = absurd here
  names_it (u ∷ us) t k (inl same) e = inl (same ∙ e)
  names_it (u ∷ us) t k (inr later) e = inr (names_it us t k later e)

  -- the types of parameters
  pub parameters_known : (k : MemberKey) → HasRow rows (decl_of_member k) → (t : Ty) → Of t (types_of k) → IsKnown rows t
  parameters_known (head m) row t here k e = absurd here
  parameters_known (field m) row t here k e = absurd here
  parameters_known (method m) (j, i) t here k e =
      are.named j i.row k i.stands (as_parameter (subst (λ (d : Decl). TypesName (params_of d) k) (sym i.declares) (names_it m.params t k here e)))
  parameters_known (constructor m) (j, i) t here k e =
      are.named j i.row k i.stands (as_parameter (subst (λ (d : Decl). TypesName (params_of d) k) (sym i.declares) (names_it m.params t k here e)))

  named_row : (s : Scope) (o : Option (List ℕ)) (name : List ℕ) (k : ClassKey) → NamesClass rows s o name k → (j : ℕ) × IsRowOf rows (class_decl k) j
  named_row s None name k (a, finds, shows) = shown_row rows a (class_decl k) shows
  named_row s (Some outer) name k (i, front, (a, finds, shows)) = shown_row rows a (class_decl k) shows

  -- ---- at a place

  module _ (c : Context) (place : IsPlace rows c) where
    local_known : (l : Local) (n : ℕ) → slice_get c.locals n ≡ Some l → (t : Ty) → IsLocalType rows (scope_of c) l.type t → IsKnown rows t
    local_known l n at t is = by l.type refl is
      where
        by : (x : LocalType) → l.type ≡ x → IsLocalType rows (scope_of c) x t → IsKnown rows t
        by (of_type u) e same = subst (IsKnown rows) (sym same) (place.locals n l at u e)
        by (written outer name) e (k, names, same) = subst (IsKnown rows) (sym same) (of_class k (named_row (scope_of c) outer name k names))

    declared_known : (d : Decl) (t : Ty) → IsTypeOf rows c d t → IsKnown rows t
    declared_known (local_decl k) t (l, knows, is) = local_known l knows.number knows.stands t is
    declared_known (class_decl k) t (j, i, is) = row_type j i.row i.stands t is
    declared_known (field_decl k) t (j, i, is) = row_type j i.row i.stands t is
    declared_known (method_decl k) t (j, i, is) = row_type j i.row i.stands t is
    declared_known (constructor_decl k) t (j, i, is) = row_type j i.row i.stands t is

    by_same : (t u : Ty) → t ≡ u → IsKnown rows u → IsKnown rows t
    by_same t u e h = subst (IsKnown rows) (sym e) h

    pub type_known : {A : Type 0} (e : tree.Exp A) (t : Ty) → HasType rows c e t → IsKnown rows t
    unfolding HasType
    type_known (tree.number m n) t is = by_same t int is int_known
    type_known (tree.truth m b) t is = by_same t boolean is boolean_known
    type_known (tree.null m) t is = by_same t null is null_known
    type_known (tree.string m text) t is = by_same t _ is string_known
    type_known (tree.this m) t is = by_same t (class (scope_of c).class) is (of_class (scope_of c).class place.class)
    type_known (tree.class_literal m of) t is = by_same t _ is class_known
    type_known (tree.name m w) t (d, finds, is) = declared_known d t is
    type_known (tree.field m e w) t (d, finds, is) = declared_known d t is
    type_known (tree.super_field m w) t (d, finds, is) = declared_known d t is
    type_known (tree.call m to w args) t (d, finds, is) = declared_known d t is
    type_known (tree.super_call m w args) t (d, finds, is) = declared_known d t is
    type_known (tree.create m of args) t (k, d, writes, finds, is) = by_same t (class k) is (of_class k (written_row rows (scope_of c) of k writes))
    type_known (tree.paren m e) t is = type_known e t is
    type_known (tree.cast m of e) t is = λ k same. written_row rows (scope_of c) of k (subst (λ (u : Ty). WritesType rows (scope_of c) of u) same is)
    type_known (tree.unary m o e) t is = by_same t (sign_type o) is (sign_known o)
    type_known (tree.bump m o e) t is = by_same t int is int_known
    type_known (tree.binary m o l r) t is = by_same t (operator_type o) is (operator_known o)
    type_known (tree.assign m l r) t is = type_known l t is
    type_known (tree.compound m o l r) t is = by_same t int is int_known
