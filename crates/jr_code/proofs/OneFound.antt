-- What is found is one: a superclass, a written type, what an implicit `super()` and a written one find. And no declaration is
-- static and an instance's.
use Rattle.std.proofs.Common.{◌≡◌, ℕ, List, [], ◌∷◌, Some, None, true, false, sym, ap, subst, ◌∙◌, inl, inr}
use Rattle.std.specs.Prelude.{slice_get}
use Rattle.std.specs.List.{list_any}
use Rattle.jr_ast.specs.Tree as tree
use Rattle.jr_table.specs.Keys.{ClassKey, CtorKey, Ty, class}
use Rattle.jr_table.specs.Decls.{Decl, class_decl, constructor_decl}
use Rattle.jr_table.specs.Rows.{Row}
use Rattle.jr_table.specs.Entries.{IsRowOf, is_static_word}
use Rattle.jr_table.specs.Conditions.{AreRows}
use Rattle.jr_table.specs.Found.{Found, one}
use Rattle.jr_table.specs.Scope.{Scope}
use Rattle.jr_table.specs.Lookup.{FindsTypeOf, FindsCtorOf}
use Rattle.jr_table.specs.LookupLaws.{Decided, EachHasOne}
use Rattle.jr_table.specs.Context.{Context, scope_of, WritesType, IsStaticDecl, IsInstanceDecl, IsSuperclass}
use Rattle.jr_table.specs.Binding.{HasType, HaveTypes, SuperCtorFinds}
use Rattle.jr_table.specs.BindingLaws.{IsBound}
use Rattle.jr_code.specs.CodedMembers.{ImplicitFinds}

pub one_decl : (x y : Decl) → one x ≡ one y → x ≡ y
one_decl x y e = cc

pub decided_one : (found : Found) (Finds : Found → Type 0) → Decided found Finds → (x y : Decl) → Finds (one x) → Finds (one y) → x ≡ y
decided_one found Finds decided x y a b = one_decl x y (sym ((decided (one x)).1 a) ∙ (decided (one y)).1 b)

-- a type is written one way
module _ {A : Type 0} (rows : List Row) (each : EachHasOne rows) (s : Scope) where
  pub written_once : (t : tree.TypeName A) (u v : Ty) → WritesType rows s t u → WritesType rows s t v → u ≡ v
  written_once (tree.int m) u v a b = a ∙ sym b
  written_once (tree.boolean m) u v a b = a ∙ sym b
  written_once (tree.named m None w) u v (j, found, is) (k, other, was) =
      let p = each.type_named s w.text (one (class_decl j)) (one (class_decl k)) found other in
      let same : j ≡ k = cc in is ∙ ap class same ∙ sym was
  written_once (tree.named m (Some o) w) u v (j, (i, front, back), is) (k, (n, first, last), was) =
      let p = each.type_named s o.text (one (class_decl i)) (one (class_decl n)) front first in
      let outer : i ≡ n = cc in
      let q = each.type_of s n w.text (one (class_decl j)) (one (class_decl k)) (subst (λ (z : ClassKey). FindsTypeOf rows s z w.text (one (class_decl j))) outer back) last in
      let same : j ≡ k = cc in is ∙ ap class same ∙ sym was

  pub class_once : (t : tree.TypeName A) (j k : ClassKey) → WritesType rows s t (class j) → WritesType rows s t (class k) → j ≡ k
  class_once t j k a b = let p = written_once t (class j) (class k) a b in cc

module _ (rows : List Row) (are : AreRows rows) where
  -- a declaration has one row
  pub same_row : (d : Decl) (i j : ℕ) (x : IsRowOf rows d i) (y : IsRowOf rows d j) → x.row ≡ y.row
  same_row d i j x y =
      let same : i ≡ j = are.one_each d i j x y in
      let both : Some x.row ≡ Some y.row = sym x.stands ∙ ap (slice_get rows) same ∙ y.stands in
      cc

  pub words_differ : (d : Decl) → IsStaticDecl rows d → IsInstanceDecl rows d → ⊥
  words_differ d (i, x, is) (j, y, lacks) =
      let e : true ≡ false = sym is ∙ ap (λ (r : Row). list_any is_static_word r.modifiers) (same_row d i j x y) ∙ lacks in
      cc

  pub superclass_once : (k p q : ClassKey) → IsSuperclass rows k p → IsSuperclass rows k q → p ≡ q
  superclass_once k p q (i, x, is) (j, y, was) =
      let parents : Some p ≡ Some q = sym is ∙ ap (λ (z : Row). z.parent) (same_row (class_decl k) i j x y) ∙ was in
      cc

  module _ (each : EachHasOne rows) (c : Context) where
    pub implicit_once : (q n : CtorKey) → ImplicitFinds rows c q → ImplicitFinds rows c n → q ≡ n
    implicit_once q n (inl (k, over, found)) (inl (l, above, other)) =
        let same = superclass_once (scope_of c).class k l over above in
        let p = each.ctor_of (scope_of c) l [] (one (constructor_decl q)) (one (constructor_decl n))
        (subst (λ (z : ClassKey). FindsCtorOf rows (scope_of c) z [] (one (constructor_decl q))) same found) other in
        cc
    implicit_once q n (inl (k, over, found)) (inr (not, is)) = absurd cc
    implicit_once q n (inr (not, is)) b = absurd cc

    module _ {A : Type 0} (exact : IsBound A rows c) where
      pub type_once : (e : tree.Exp A) (t u : Ty) → HasType rows c e t → HasType rows c e u → t ≡ u
      type_once e t u a b = let p = (exact.types e t).1 a in let q = (exact.types e u).1 b in cc

      pub types_once : (es : tree.Exps A) (ts us : List Ty) → HaveTypes rows c es ts → HaveTypes rows c es us → ts ≡ us
      unfolding HaveTypes
      types_once tree.end ts us a b = a ∙ sym b
      types_once (tree.more e es) [] us a b = absurd a
      types_once (tree.more e es) (t ∷ ts) [] a b = absurd b
      types_once (tree.more e es) (t ∷ ts) (u ∷ us) a b =
          let first = type_once e t u a.0 b.0 in
          let others = types_once es ts us a.1 b.1 in
          λ i. first i ∷ others i

      pub super_once : (es : tree.Exps A) (x y : Decl) → SuperCtorFinds rows c es (one x) → SuperCtorFinds rows c es (one y) → x ≡ y
      super_once es x y (inl (k, over, inl (ts, types, finds))) (inl (l, above, inl (us, others, found))) =
          let class_same = superclass_once (scope_of c).class k l over above in
          let types_same = types_once es ts us types others in
          one_decl x y (each.ctor_of (scope_of c) l us (one x) (one y)
          (subst (λ (z : ClassKey). FindsCtorOf rows (scope_of c) z us (one x)) class_same (subst (λ (z : List Ty). FindsCtorOf rows (scope_of c) k z (one x)) types_same finds)) found)
      super_once es x y (inl (k, over, inr (not, is))) b = absurd cc
      super_once es x y (inr (not, is)) b = absurd cc
      super_once es x y a (inl (k, over, inr (not, is))) = absurd cc
      super_once es x y a (inr (not, is)) = absurd cc
