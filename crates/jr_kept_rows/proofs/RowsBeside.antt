-- Rows of the old declarations are rows of the new ones, where these are the same.
use Rattle.std.proofs.Common.{◌≡◌, ℕ, List, [], ◌∷◌, Bool, true, false, sym, ap, subst, ◌∙◌}
use Rattle.std.specs.Prelude.{Option, None, Some, filter}
use Rattle.jr_ast.specs.declared.operators.ModWord.{ModWord}
use Rattle.jr_table.specs.Keys.{ClassKey, Ty}
use Rattle.jr_table.specs.Decls.{class_decl, field_decl, method_decl, constructor_decl}
use Rattle.jr_table.specs.Rows.{Row}
use Rattle.jr_table.specs.DeclaredItems.{Written, DeclaredParam, DeclaredClass, DeclaredField, DeclaredMethod, DeclaredCtor, Item, class_item, field_item, method_item, ctor_item, DeclaredItem}
use Rattle.jr_table.specs.Resolving.{IsParent, Means}
use Rattle.jr_table.specs.ProgramRows.{is_access, MeanTypes, MeansResult, IsClassRow, unwritten_row, IsFieldRow, IsMethodRow, IsCtorRow, AreRowsOfDeclarations, AreProgramRows}
use Rattle.jr_kept_rows.proofs.SameClasses.{ClassesGo, parent_goes, means_goes, result_goes}
use Rattle.jr_kept_rows.proofs.SameItems.{ClassTo, ParamsTo, FieldTo, MethodTo, CtorTo, ItemTo, DeclarationsTo, classes_forth, classes_back}

module _ (ss ts : List DeclaredItem) (to : DeclarationsTo ss ts) where
  abbrev go : ClassesGo ss ts
  go = classes_forth ss ts to

  abbrev back : ClassesGo ts ss
  back = classes_back ss ts to

  mean_to : (k : ClassKey) (ps qs : List DeclaredParam) (us : List Ty) → ParamsTo ps qs → MeanTypes ss k ps us → MeanTypes ts k qs us
  mean_to k [] [] [] h x = x
  mean_to k [] [] (u ∷ us) h x = absurd x
  mean_to k [] (q ∷ qs) us h x = absurd h
  mean_to k (p ∷ ps) [] us h x = absurd h
  mean_to k (p ∷ ps) (q ∷ qs) [] h x = absurd x
  mean_to k (p ∷ ps) (q ∷ qs) (u ∷ us) h x = (means_goes ss ts go back k p.type q.type u h.0 x.0, mean_to k ps qs us h.1 x.1)

  class_row_to : (c d : DeclaredClass) (r : Row) → ClassTo c d → IsClassRow ss c r → IsClassRow ts d r
  class_row_to c d r h is = record {
    decl = is.decl ∙ ap class_decl (sym h.key);
    modifiers = is.modifiers ∙ sym h.words;
    type = is.type;
    superclass = is.superclass;
    parent = is.parent;
    is_parent = subst (λ (k : ClassKey). IsParent ts k is.superclass) (sym h.key) (parent_goes ss ts go back c.key is.superclass is.is_parent);
    has_init = is.has_init;
  }

  unwritten_to : (c d : DeclaredClass) → ClassTo c d → unwritten_row ss c ≡ unwritten_row ts d
  unwritten_to c d h = λ i. record {
    decl = constructor_decl (record { class = sym h.key i; params = [] });
    modifiers = filter is_access (sym h.words i);
    type = None;
    parent = None;
    has_init = false;
  }

  field_row_to : (f h : DeclaredField) (r : Row) → FieldTo f h → IsFieldRow ss f r → IsFieldRow ts h r
  field_row_to f h r x is = record {
    type = is.type;
    means = subst (λ (k : ClassKey). Means ts k h.type is.type) (sym x.of) (means_goes ss ts go back f.of f.type h.type is.type x.type is.means);
    is = is.is ∙ (λ i. record {
      decl = field_decl (record { class = sym x.of i; name = sym x.name i });
      modifiers = sym x.words i;
      type = Some is.type;
      parent = None;
      has_init = sym x.init i;
    });
  }

  method_row_to : (m n : DeclaredMethod) (r : Row) → MethodTo m n → IsMethodRow ss m r → IsMethodRow ts n r
  method_row_to m n r x is = record {
    result = is.result;
    params = is.params;
    means = subst (λ (k : ClassKey). MeansResult ts k n.result is.result) (sym x.of) (result_goes ss ts go back m.of m.result n.result is.result x.result is.means);
    mean = subst (λ (k : ClassKey). MeanTypes ts k n.params is.params) (sym x.of) (mean_to m.of m.params n.params is.params x.params is.mean);
    is = is.is ∙ (λ i. record {
      decl = method_decl (record { class = sym x.of i; name = sym x.name i; params = is.params });
      modifiers = sym x.words i;
      type = Some is.result;
      parent = None;
      has_init = false;
    });
  }

  ctor_row_to : (c d : DeclaredCtor) (r : Row) → CtorTo c d → IsCtorRow ss c r → IsCtorRow ts d r
  ctor_row_to c d r x is = record {
    params = is.params;
    mean = subst (λ (k : ClassKey). MeanTypes ts k d.params is.params) (sym x.of) (mean_to c.of c.params d.params is.params x.params is.mean);
    is = is.is ∙ (λ i. record {
      decl = constructor_decl (record { class = sym x.of i; params = is.params });
      modifiers = sym x.words i;
      type = None;
      parent = None;
      has_init = false;
    });
  }

  -- ---- all rows

  module _ (xs ys : List DeclaredItem) (others : (rest : List Row) → AreRowsOfDeclarations ss xs rest → AreRowsOfDeclarations ts ys rest) (f e : ℕ) where
    class_case : (a b : ℕ) (k l : ClassKey) (m n : List ModWord) (p q : Option Written) (c d : Bool)
        → ClassTo (record { at = a; key = k; modifiers = m; parent = p; has_ctor = c }) (record { at = b; key = l; modifiers = n; parent = q; has_ctor = d })
        → (own : List Row) → AreRowsOfDeclarations ss (record { file = f; item = class_item (record { at = a; key = k; modifiers = m; parent = p; has_ctor = c }) } ∷ xs) own
        → AreRowsOfDeclarations ts (record { file = e; item = class_item (record { at = b; key = l; modifiers = n; parent = q; has_ctor = d }) } ∷ ys) own
    class_case a b k l m n p q true true h own (r, rest, is, row, more) = (r, rest, is, class_row_to _ _ r h row, others rest more)
    class_case a b k l m n p q true false h own are = absurd (let never = h.ctor in cc)
    class_case a b k l m n p q false true h own are = absurd (let never = h.ctor in cc)
    class_case a b k l m n p q false false h own (r, rest, is, row, more) = (
      r,
      rest,
      is ∙ ap (λ (x : Row). r ∷ x ∷ rest) (unwritten_to _ _ h),
      class_row_to _ _ r h row,
      others rest more,
    )

    item_case : (x y : Item) → ItemTo x y → (own : List Row) → AreRowsOfDeclarations ss (record { file = f; item = x } ∷ xs) own → AreRowsOfDeclarations ts (record { file = e; item = y } ∷ ys) own
    item_case (class_item c) (class_item d) h own are = class_case c.at d.at c.key d.key c.modifiers d.modifiers c.parent d.parent c.has_ctor d.has_ctor h own are
    item_case (class_item c) (field_item d) h own are = absurd h
    item_case (class_item c) (method_item d) h own are = absurd h
    item_case (class_item c) (ctor_item d) h own are = absurd h
    item_case (field_item c) (class_item d) h own are = absurd h
    item_case (field_item c) (field_item d) h own (r, rest, is, row, more) = (r, rest, is, field_row_to c d r h row, others rest more)
    item_case (field_item c) (method_item d) h own are = absurd h
    item_case (field_item c) (ctor_item d) h own are = absurd h
    item_case (method_item c) (class_item d) h own are = absurd h
    item_case (method_item c) (field_item d) h own are = absurd h
    item_case (method_item c) (method_item d) h own (r, rest, is, row, more) = (r, rest, is, method_row_to c d r h row, others rest more)
    item_case (method_item c) (ctor_item d) h own are = absurd h
    item_case (ctor_item c) (class_item d) h own are = absurd h
    item_case (ctor_item c) (field_item d) h own are = absurd h
    item_case (ctor_item c) (method_item d) h own are = absurd h
    item_case (ctor_item c) (ctor_item d) h own (r, rest, is, row, more) = (r, rest, is, ctor_row_to c d r h row, others rest more)

  own_rows : (xs ys : List DeclaredItem) → DeclarationsTo xs ys → (own : List Row) → AreRowsOfDeclarations ss xs own → AreRowsOfDeclarations ts ys own
  own_rows [] [] h own are = are
  own_rows [] (t ∷ ys) h own are = absurd h
  own_rows (s ∷ xs) [] h own are = absurd h
  own_rows (s ∷ xs) (t ∷ ys) h own are = item_case xs ys (λ rest more. own_rows xs ys h.2 rest more) s.file t.file s.item t.item h.1 own are

  pub program_rows : (rows : List Row) → AreProgramRows ss rows → AreProgramRows ts rows
  program_rows rows (own, is, are) = (own, is, own_rows ss ts to own are)
