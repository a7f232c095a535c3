-- The rows of a program without faults agree with its declarations.
use Rattle.std.proofs.Common.{◌≡◌, ℕ, List, Option, Some, None, refl, sym, ap, subst, ◌∙◌, inl, inr}
use Rattle.jr_table.specs.Keys.{ClassKey}
use Rattle.jr_table.specs.Decls.{class_decl}
use Rattle.jr_table.specs.Rows.{Row}
use Rattle.jr_table.specs.Prelude.{top_key, object_key}
use Rattle.jr_table.specs.Entries.{IsRowOf}
use Rattle.jr_table.specs.Conditions.{AreRows}
use Rattle.jr_table.specs.Context.{IsSuperclass}
use Rattle.jr_table.specs.DeclaredItems.{DeclaredClass, DeclaredItem, class_item}
use Rattle.jr_table.specs.Resolving.{DeclaresClass, IsPreludeSubclass, TopParent, IsParent}
use Rattle.jr_table.specs.ProgramRows.{IsClassRow, AreProgramRows}
use Rattle.jr_table.specs.Faults.{PackageLine, IsClean}
use Rattle.jr_build_rows.proofs.Apart.{In, stands_in, in_stands}
use Rattle.jr_program_laws.proofs.MeansOnce.{parent_once}
use Rattle.jr_program_laws.proofs.RowsOfDeclarations.{gives, class_there, prelude_there, prelude_sub_there}
use Rattle.jr_program_laws.proofs.Agreeing.{Agree, TopsAgree, ParentsAgree}

module _ (rows : List Row) (declarations : List DeclaredItem) (are : AreRows rows) (program : AreProgramRows declarations rows) where
  -- the row of a declared class
  pub class_row : (k : ClassKey) (at : DeclaredClass) → DeclaresClass declarations k at → (r : Row) × In rows r × (r.decl ≡ class_decl k) × IsClassRow declarations at r
  class_row k at d = let g = gives declarations rows program d.number d.file (class_item at) d.stands in (g.0, g.1, g.2.decl ∙ ap class_decl d.is, g.2)

  row_of : (k : ClassKey) (r : Row) → In rows r → r.decl ≡ class_decl k → (j : ℕ) × (i : IsRowOf rows (class_decl k) j) × (i.row ≡ r)
  row_of k r h e = let p = in_stands rows r h in (p.0, record { row = r; stands = p.1; declares = e }, refl)

  pub program_agrees : Agree rows declarations
  program_agrees = record {
    rows_are = are;
    declared_row = λ k at d.
        let g = class_row k at d in
        let p = in_stands rows g.0 g.1 in
        (p.0, record { row = g.0; stands = p.1; declares = g.2 }, g.3.modifiers);
    prelude_row = λ name is.
        let g = prelude_there declarations rows program name is in
        let p = in_stands rows g.0 g.1 in
        (p.0, record { row = g.0; stands = p.1; declares = g.2 });
    row_class = λ k j i. elim (class_there declarations rows program i.row k (stands_in rows j i.row i.stands) i.declares) [
      | inl pre ↦ inr (pre.top, pre.is, pre.shown)
      | inr d ↦ inl (d.2, record { number = d.0; file = d.1; stands = d.3; is = d.4 }, d.5.modifiers)
    ];
  }

  module _ (packages : List (Option PackageLine)) (clean : IsClean packages declarations) where
    superclass_is : (k p : ClassKey) (at : DeclaredClass) → DeclaresClass declarations k at → IsParent declarations k p → IsSuperclass rows k p
    superclass_is k p at d parent =
        let g = class_row k at d in
        let n = in_stands rows g.0 g.1 in
        let own = subst (λ (x : ClassKey). IsParent declarations x g.3.superclass) d.is g.3.is_parent in
        let same = parent_once packages declarations clean k g.3.superclass p own parent in
        (n.0, record { row = g.0; stands = n.1; declares = g.2 }, g.3.parent ∙ ap (λ (x : ClassKey). Some x) same)

    top_of : (k : ClassKey) → k.outer ≡ None → top_key k.name ≡ k
    top_of k e = λ i. record { outer = sym e i; name = k.name }

    prelude_superclass : (name : List ℕ) (p : ClassKey) → IsPreludeSubclass name → p ≡ object_key → IsSuperclass rows (top_key name) p
    prelude_superclass name p sub e =
        let g = prelude_sub_there declarations rows program name sub in
        let n = in_stands rows g.0 g.1 in
        (n.0, record { row = g.0; stands = n.1; declares = g.2 }, g.3 ∙ ap (λ (x : ClassKey). Some x) (sym e))

    parent_up : (k p : ClassKey) → IsParent declarations k p → IsSuperclass rows k p
    parent_up k p (inl (none, inl (at, d, names))) =
        superclass_is k p at (subst (λ (x : ClassKey). DeclaresClass declarations x at) (top_of k none) d) (inl (none, inl (at, d, names)))
    parent_up k p (inl (none, inr (sub, e))) = subst (λ (x : ClassKey). IsSuperclass rows x p) (top_of k none) (prelude_superclass k.name p sub e)
    parent_up k p (inr (outer, at, some, d, names)) = superclass_is k p at d (inr (outer, at, some, d, names))

    some_key : (x y : ClassKey) → Some x ≡ Some y → x ≡ y
    some_key x y e = cc

    parent_down : (k p : ClassKey) → IsSuperclass rows k p → IsParent declarations k p
    parent_down k p (j, i, up) = elim (class_there declarations rows program i.row k (stands_in rows j i.row i.stands) i.declares) [
      | inl pre ↦ inl (pre.top, inr (pre.parent p up))
      | inr d ↦ subst (IsParent declarations k) (some_key d.5.superclass p (sym d.5.parent ∙ up)) (subst (λ (x : ClassKey). IsParent declarations x d.5.superclass) d.4 d.5.is_parent)
    ]

    pub parents_agree : ParentsAgree rows declarations
    parents_agree = record { up = parent_up; down = parent_down }

    top_parent : (name : List ℕ) (p : ClassKey) → IsParent declarations (top_key name) p → TopParent declarations name p
    top_parent name p (inl (none, h)) = h
    top_parent name p (inr (outer, at, some, d, names)) = absurd cc

    pub tops_agree : TopsAgree rows declarations
    tops_agree = record { up = λ name p h. parent_up (top_key name) p (inl (refl, h)); down = λ name p h. top_parent name p (parent_down (top_key name) p h) }
