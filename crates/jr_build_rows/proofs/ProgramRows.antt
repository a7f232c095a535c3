-- The rows of a program without faults are those that its declarations ask.
use Rattle.std.proofs.Common.{◌≡◌, ℕ, zero, suc, ◌+◌, List, [], ◌∷◌, ◌++◌, Option, Some, None, Bool, true, false, refl, sym, ap, subst, ◌∙◌, inl, inr, arith}
use Rattle.std.specs.Prelude.{slice_get, ◌⊎◌, ◌↔◌, option_map, unwrap_or}
use Rattle.jr_table.specs.Keys.{ClassKey, Ty, void}
use Rattle.jr_table.specs.Decls.{method_decl, constructor_decl}
use Rattle.jr_table.specs.Rows.{Row}
use Rattle.jr_table.specs.Prelude.{prelude_rows}
use Rattle.jr_table.specs.ProgramRows.{MeanTypes, MeansResult, IsClassRow, IsFieldRow, IsMethodRow, IsCtorRow, AreRowsOfDeclarations, AreProgramRows}
use Rattle.jr_table.specs.Resolving.{IsParent, Means}
use Rattle.jr_table.specs.DeclaredItems.{Written, DeclaredParam, DeclaredClass, DeclaredField, DeclaredMethod, DeclaredCtor, Item, class_item, field_item, method_item, ctor_item, DeclaredItem}
use Rattle.jr_table.specs.Faults.{At, PackageLine, IsClean, Writes, WritesType}
use Rattle.jr_build_rows.specs.ExactRows.{param_types, result_type, class_row, field_row, method_row, ctor_row, class_rows, rows_of_item, rows_of_declarations}
use Rattle.jr_build_rows.specs.Heads.{AreHeaded}
use Rattle.jr_build_hierarchy.specs.Hierarchies.{Hierarchy, meaning, parent_key}
use Rattle.jr_build_rows.specs.Signatures.{meanings}
use Rattle.jr_build_hierarchy.specs.Superclasses.{HasParents}
use Rattle.jr_build_rows.specs.TypeFaults.{KnowsMeanings}
use Rattle.jr_build_rows.proofs.OwnRows.{type_means, params_mean}
use Rattle.jr_build_rows.proofs.TwiceMemberLaws.{pairs_of}
use Rattle.jr_build_declared.proofs.Earliest.{inside}

module _ (packages : List (Option PackageLine)) (declarations : List DeclaredItem) (h : Hierarchy) (clean : IsClean packages declarations) (means : KnowsMeanings declarations h)
    (extends : (k p : ClassKey) → (parent_key h k ≡ Some p) ↔ IsParent declarations k p) (parents : HasParents declarations) (headed : AreHeaded declarations) where
  mean_types : (k : ClassKey) (ps : List DeclaredParam) (ts : List Ty) → meanings h k ps ≡ Some ts → MeanTypes declarations k ps ts
  mean_types k [] ts e = subst (MeanTypes declarations k []) (inside _ _ e) tt
  mean_types k (p ∷ ps) ts e =
      let x = pairs_of (meaning h k p.type) (meanings h k ps) ts e in
      subst (MeanTypes declarations k (p ∷ ps)) x.4 ((means k p.type x.0).0 x.2, mean_types k ps x.1 x.3)

  class_is : (i f : ℕ) (c : DeclaredClass) → At declarations i f (class_item c) → IsClassRow declarations c (class_row h c)
  class_is i f c at =
      let n = headed.named i f c at in
      let p = parents c.key c (record { number = i; file = f; stands = at.stands; is = refl }) n.0 n.1 in
      record { decl = refl; modifiers = refl; type = refl; superclass = p.0; parent = (extends c.key p.0).1 p.1; is_parent = p.1; has_init = refl }

  field_is : (i f : ℕ) (x : DeclaredField) → At declarations i f (field_item x) → IsFieldRow declarations x (field_row h x)
  field_is i f x at = let t = type_means packages declarations h clean means i f (field_item x) x.of x.type at (refl, refl) in
      record { type = t.0; means = (means x.of x.type t.0).0 t.1; is = λ n. record (field_row h x) { type = t.1 n } }

  params_are : (k : ClassKey) (ps : List DeclaredParam) (ts : List Ty) → meanings h k ps ≡ Some ts → param_types h k ps ≡ ts
  params_are k ps ts e = ap (λ o. unwrap_or o []) e

  result_is : (i f : ℕ) (x : DeclaredMethod) → At declarations i f (method_item x) → (w : Option Written) → x.result ≡ w → (t : Ty) × MeansResult declarations x.of w t × (result_type h x.of w ≡ Some t)
  result_is i f x at None e = (void, refl, refl)
  result_is i f x at (Some w) e = let t = type_means packages declarations h clean means i f (method_item x) x.of w at (refl, inl e) in (t.0, (means x.of w t.0).0 t.1, t.1)

  method_is : (i f : ℕ) (x : DeclaredMethod) → At declarations i f (method_item x) → IsMethodRow declarations x (method_row h x)
  method_is i f x at =
      let r = result_is i f x at x.result refl in
      let ts = params_mean packages declarations h clean means i f (method_item x) x.of at x.params (λ w z. (refl, inr z)) in
      let p = params_are x.of x.params ts.0 ts.1 in
      record {
        result = r.0;
        params = ts.0;
        means = r.1;
        mean = mean_types x.of x.params ts.0 ts.1;
        is = λ n. record (method_row h x) { decl = method_decl (record { class = x.of; name = x.name; params = p n }); type = r.2 n };
      }

  ctor_is : (i f : ℕ) (x : DeclaredCtor) → At declarations i f (ctor_item x) → IsCtorRow declarations x (ctor_row h x)
  ctor_is i f x at =
      let ts = params_mean packages declarations h clean means i f (ctor_item x) x.of at x.params (λ w z. (refl, z)) in
      let p = params_are x.of x.params ts.0 ts.1 in
      record {
        params = ts.0;
        mean = mean_types x.of x.params ts.0 ts.1;
        is = λ n. record (ctor_row h x) { decl = constructor_decl (record { class = x.of; params = p n }) };
      }

  class_step : (file at : ℕ) (key : ClassKey) (words : _) (parent : Option Written) (b : Bool) (ss : List DeclaredItem) (rest : List Row)
      → IsClassRow declarations (record { at = at; key = key; modifiers = words; parent = parent; has_ctor = b }) (class_row h (record { at = at; key = key; modifiers = words; parent = parent; has_ctor = b }))
      → AreRowsOfDeclarations declarations ss rest
      → AreRowsOfDeclarations declarations (record { file = file; item = class_item (record { at = at; key = key; modifiers = words; parent = parent; has_ctor = b }) } ∷ ss)
      (class_rows h (record { at = at; key = key; modifiers = words; parent = parent; has_ctor = b }) b ++ rest)
  class_step file at key words parent true ss rest is more = (_, rest, refl, is, more)
  class_step file at key words parent false ss rest is more = (_, rest, refl, is, more)

  item_step : (i f : ℕ) (item : Item) → At declarations i f item → (ss : List DeclaredItem) (rest : List Row) → AreRowsOfDeclarations declarations ss rest
      → AreRowsOfDeclarations declarations (record { file = f; item = item } ∷ ss) (rows_of_item h item ++ rest)
  item_step i f (class_item c) at ss rest more = class_step f c.at c.key c.modifiers c.parent c.has_ctor ss rest (class_is i f c at) more
  item_step i f (field_item x) at ss rest more = (_, rest, refl, field_is i f x at, more)
  item_step i f (method_item x) at ss rest more = (_, rest, refl, method_is i f x at, more)
  item_step i f (ctor_item x) at ss rest more = (_, rest, refl, ctor_is i f x at, more)

  rest_rows : (n : ℕ) (ss : List DeclaredItem) → ((i : ℕ) (s : DeclaredItem) → slice_get ss i ≡ Some s → slice_get declarations (n + i) ≡ Some s) → AreRowsOfDeclarations declarations ss (rows_of_declarations h ss)
  rest_rows n [] stands = refl
  rest_rows n (s ∷ ss) stands = item_step (n + 0) s.file s.item (record { stands = stands 0 s refl }) ss (rows_of_declarations h ss)
      (rest_rows (n + 1) ss (λ i t e. subst (λ m. slice_get declarations m ≡ Some t) (omega arith) (stands (suc i) t e)))

  pub program_rows : AreProgramRows declarations (prelude_rows ++ rows_of_declarations h declarations)
  program_rows = (rows_of_declarations h declarations, refl, rest_rows 0 declarations (λ i s e. subst (λ m. slice_get declarations m ≡ Some s) (omega arith) e))
