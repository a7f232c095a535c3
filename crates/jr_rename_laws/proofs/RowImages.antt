-- The rows of the new program are the images of the old rows, where no class is renamed.
use Rattle.std.proofs.Common.{◌≡◌, ℕ, suc, List, [], ◌∷◌, ◌++◌, Option, Some, None, Bool, true, false, refl, sym, ap, subst, ◌∙◌}
use Rattle.std.specs.Prelude.{option_map, is_some, filter}
use Rattle.jr_ast.specs.declared.operators.ModWord.{ModWord}
use Rattle.jr_table.specs.Keys.{ClassKey, Ty}
use Rattle.jr_table.specs.Decls.{MemberKey, method, constructor, class_decl, field_decl, method_decl, constructor_decl}
use Rattle.jr_table.specs.Rows.{Row}
use Rattle.jr_table.specs.Prelude.{prelude_rows}
use Rattle.jr_table.specs.DeclaredItems.{Written, DeclaredParam, DeclaredInit, DeclaredClass, DeclaredField, DeclaredMethod, DeclaredCtor, Item, class_item, field_item, method_item, ctor_item, DeclaredItem}
use Rattle.jr_table.specs.Resolving.{IsParent, Means}
use Rattle.jr_table.specs.ProgramRows.{is_access, MeanTypes, MeansResult, IsClassRow, unwritten_row, IsFieldRow, IsMethodRow, IsCtorRow, AreRowsOfDeclarations, AreProgramRows}
use Rattle.jr_table.specs.Faults.{PackageLine, IsClean}
use Rattle.jr_members.proofs.Walking.{map_join}
use Rattle.jr_images.specs.Images.{Renaming, name_to, class_to, type_to, decl_to, row_to, rows_to}
use Rattle.jr_rename_laws.proofs.SameClasses.{ClassesGo, parent_goes, means_goes, result_goes}
use Rattle.jr_rename_laws.proofs.Still.{IsStill, class_same, type_same, types_same, prelude_same}
use Rattle.jr_program_laws.proofs.MeansOnce.{mean_types_once}
use Rattle.jr_rename_laws.proofs.DeclarationImages.{forms_of, ClassTo, ParamsTo, FieldTo, MethodTo, CtorTo, ItemTo, DeclarationsTo, classes_forth, classes_back}

some_form : (x : Option DeclaredInit) → is_some (forms_of x) ≡ is_some x
some_form None = refl
some_form (Some i) = refl

some_same : (x y : Option DeclaredInit) → forms_of y ≡ forms_of x → is_some x ≡ is_some y
some_same x y e = sym (some_form x) ∙ ap is_some (sym e) ∙ some_form y

module _ (g : Renaming) (still : IsStill g) (packages : List (Option PackageLine)) (ss ts : List DeclaredItem) (clean : IsClean packages ss) (to : DeclarationsTo g ss ss ts) where
  abbrev go : ClassesGo ss ts
  go = classes_forth g ss ss ts to

  abbrev back : ClassesGo ts ss
  back = classes_back g ss ss ts to

  pub mean_to : (k : ClassKey) (j : MemberKey) (n : ℕ) (ps qs : List DeclaredParam) (us : List Ty) → ParamsTo g j n ps qs → MeanTypes ss k ps us → MeanTypes ts k qs us
  mean_to k j n [] [] [] h x = x
  mean_to k j n [] [] (u ∷ us) h x = absurd x
  mean_to k j n [] (q ∷ qs) us h x = absurd h
  mean_to k j n (p ∷ ps) [] us h x = absurd h
  mean_to k j n (p ∷ ps) (q ∷ qs) [] h x = absurd x
  mean_to k j n (p ∷ ps) (q ∷ qs) (u ∷ us) h x = (means_goes ss ts go back k p.type q.type u h.0 x.0, mean_to k j (suc n) ps qs us h.2 x.1)

  class_row_to : (c d : DeclaredClass) (r : Row) → ClassTo c d → IsClassRow ss c r → IsClassRow ts d (row_to g r)
  class_row_to c d r h is = record {
    decl = ap (decl_to g) is.decl ∙ ap class_decl (class_same g still c.key ∙ sym h.key);
    modifiers = is.modifiers ∙ sym h.words;
    type = ap (option_map (type_to g)) is.type;
    superclass = is.superclass;
    parent = ap (option_map (class_to g)) is.parent ∙ ap (λ (k : ClassKey). Some k) (class_same g still is.superclass);
    is_parent = subst (λ (k : ClassKey). IsParent ts k is.superclass) (sym h.key) (parent_goes ss ts go back c.key is.superclass is.is_parent);
    has_init = is.has_init;
  }

  unwritten_to : (c d : DeclaredClass) → ClassTo c d → row_to g (unwritten_row ss c) ≡ unwritten_row ts d
  unwritten_to c d h = λ i. record {
    decl = constructor_decl (record { class = (class_same g still c.key ∙ sym h.key) i; params = [] });
    modifiers = filter is_access (sym h.words i);
    type = None;
    parent = None;
    has_init = false;
  }

  field_row_to : (f h : DeclaredField) (r : Row) → FieldTo g f h → IsFieldRow ss f r → IsFieldRow ts h (row_to g r)
  field_row_to f h r x is = record {
    type = is.type;
    means = subst (λ (k : ClassKey). Means ts k h.type is.type) (sym x.of) (means_goes ss ts go back f.of f.type h.type is.type x.type is.means);
    is = ap (row_to g) is.is ∙ (λ i. record {
      decl = field_decl (record { class = (class_same g still f.of ∙ sym x.of) i; name = sym x.name i });
      modifiers = sym x.words i;
      type = Some (type_same g still is.type i);
      parent = None;
      has_init = some_same f.init h.init x.init i;
    });
  }

  method_row_to : (m n : DeclaredMethod) (r : Row) → MethodTo g ss m n → IsMethodRow ss m r → IsMethodRow ts n (row_to g r)
  method_row_to m n r x is =
      let one : is.params ≡ x.types = mean_types_once packages ss clean m.of m.params is.params x.types is.mean x.mean in
      let named : name_to g (method_decl (record { class = m.of; name = m.name; params = is.params })) m.name ≡ n.name =
      ap (λ (us : List Ty). name_to g (method_decl (record { class = m.of; name = m.name; params = us })) m.name) one ∙ sym x.name in
      record {
        result = is.result;
        params = is.params;
        means = subst (λ (k : ClassKey). MeansResult ts k n.result is.result) (sym x.of) (result_goes ss ts go back m.of m.result n.result is.result x.result is.means);
        mean = subst (λ (k : ClassKey). MeanTypes ts k n.params is.params) (sym x.of) (mean_to m.of (method (record { class = m.of; name = m.name; params = x.types })) 0 m.params n.params is.params x.params is.mean);
        is = ap (row_to g) is.is ∙ (λ i. record {
          decl = method_decl (record { class = (class_same g still m.of ∙ sym x.of) i; name = named i; params = types_same g still is.params i });
          modifiers = sym x.words i;
          type = Some (type_same g still is.result i);
          parent = None;
          has_init = false;
        });
      }

  ctor_row_to : (c d : DeclaredCtor) (r : Row) → CtorTo g ss c d → IsCtorRow ss c r → IsCtorRow ts d (row_to g r)
  ctor_row_to c d r x is = record {
    params = is.params;
    mean = subst (λ (k : ClassKey). MeanTypes ts k d.params is.params) (sym x.of) (mean_to c.of (constructor (record { class = c.of; params = x.types })) 0 c.params d.params is.params x.params is.mean);
    is = ap (row_to g) is.is ∙ (λ i. record {
      decl = constructor_decl (record { class = (class_same g still c.of ∙ sym x.of) i; params = types_same g still is.params i });
      modifiers = sym x.words i;
      type = None;
      parent = None;
      has_init = false;
    });
  }

  -- ---- all rows

  module _ (xs ys : List DeclaredItem) (others : (rest : List Row) → AreRowsOfDeclarations ss xs rest → AreRowsOfDeclarations ts ys (rows_to g rest)) (f e : ℕ) where
    class_case : (a b : ℕ) (k l : ClassKey) (m n : List ModWord) (p q : Option Written) (c d : Bool)
        → ClassTo (record { at = a; key = k; modifiers = m; parent = p; has_ctor = c }) (record { at = b; key = l; modifiers = n; parent = q; has_ctor = d })
        → (own : List Row) → AreRowsOfDeclarations ss (record { file = f; item = class_item (record { at = a; key = k; modifiers = m; parent = p; has_ctor = c }) } ∷ xs) own
        → AreRowsOfDeclarations ts (record { file = e; item = class_item (record { at = b; key = l; modifiers = n; parent = q; has_ctor = d }) } ∷ ys) (rows_to g own)
    class_case a b k l m n p q true true h own (r, rest, is, row, more) = (row_to g r, rows_to g rest, ap (rows_to g) is, class_row_to _ _ r h row, others rest more)
    class_case a b k l m n p q true false h own are = absurd (let never = h.ctor in cc)
    class_case a b k l m n p q false true h own are = absurd (let never = h.ctor in cc)
    class_case a b k l m n p q false false h own (r, rest, is, row, more) = (
      row_to g r,
      rows_to g rest,
      ap (rows_to g) is ∙ ap (λ (x : Row). row_to g r ∷ x ∷ rows_to g rest) (unwritten_to _ _ h),
      class_row_to _ _ r h row,
      others rest more,
    )

    item_case : (x y : Item) → ItemTo g ss x y → (own : List Row) → AreRowsOfDeclarations ss (record { file = f; item = x } ∷ xs) own → AreRowsOfDeclarations ts (record { file = e; item = y } ∷ ys) (rows_to g own)
    item_case (class_item c) (class_item d) h own are = class_case c.at d.at c.key d.key c.modifiers d.modifiers c.parent d.parent c.has_ctor d.has_ctor h own are
    item_case (class_item c) (field_item d) h own are = absurd h
    item_case (class_item c) (method_item d) h own are = absurd h
    item_case (class_item c) (ctor_item d) h own are = absurd h
    item_case (field_item c) (class_item d) h own are = absurd h
    item_case (field_item c) (field_item d) h own (r, rest, is, row, more) = (row_to g r, rows_to g rest, ap (rows_to g) is, field_row_to c d r h row, others rest more)
    item_case (field_item c) (method_item d) h own are = absurd h
    item_case (field_item c) (ctor_item d) h own are = absurd h
    item_case (method_item c) (class_item d) h own are = absurd h
    item_case (method_item c) (field_item d) h own are = absurd h
    item_case (method_item c) (method_item d) h own (r, rest, is, row, more) = (row_to g r, rows_to g rest, ap (rows_to g) is, method_row_to c d r h row, others rest more)
    item_case (method_item c) (ctor_item d) h own are = absurd h
    item_case (ctor_item c) (class_item d) h own are = absurd h
    item_case (ctor_item c) (field_item d) h own are = absurd h
    item_case (ctor_item c) (method_item d) h own are = absurd h
    item_case (ctor_item c) (ctor_item d) h own (r, rest, is, row, more) = (row_to g r, rows_to g rest, ap (rows_to g) is, ctor_row_to c d r h row, others rest more)

  own_rows : (xs ys : List DeclaredItem) → DeclarationsTo g ss xs ys → (own : List Row) → AreRowsOfDeclarations ss xs own → AreRowsOfDeclarations ts ys (rows_to g own)
  own_rows [] [] h own are = ap (rows_to g) are
  own_rows [] (t ∷ ys) h own are = absurd h
  own_rows (s ∷ xs) [] h own are = absurd h
  own_rows (s ∷ xs) (t ∷ ys) h own are = item_case xs ys (λ rest more. own_rows xs ys h.2 rest more) s.file t.file s.item t.item h.1 own are

  pub program_rows : (rows : List Row) → AreProgramRows ss rows → AreProgramRows ts (rows_to g rows)
  program_rows rows (own, is, are) = (
    rows_to g own,
    ap (rows_to g) is ∙ map_join (row_to g) prelude_rows own ∙ ap (λ (front : List Row). front ++ rows_to g own) (prelude_same g still),
    own_rows ss ts to own are,
  )
