-- The rows of the new program are the images of the old ones.
use Rattle.std.proofs.Common.{◌≡◌, ℕ, List, [], ◌∷◌, ◌++◌, Option, Some, None, Bool, true, false, refl, sym, ap, subst, ◌∙◌, inl}
use Rattle.std.specs.Prelude.{option_map, filter}
use Rattle.jr_ast.specs.declared.operators.ModWord.{ModWord}
use Rattle.jr_table.specs.Keys.{ClassKey, Ty}
use Rattle.jr_table.specs.Decls.{Decl, class_decl, field_decl, method_decl, constructor_decl}
use Rattle.jr_table.specs.Rows.{Row}
use Rattle.jr_table.specs.Prelude.{prelude_rows}
use Rattle.jr_table.specs.Entries.{class_of}
use Rattle.jr_table.specs.Conditions.{as_declarer}
use Rattle.jr_table.specs.Context.{IsSuperclass}
use Rattle.jr_table.specs.DeclaredItems.{Written, DeclaredParam, DeclaredClass, DeclaredField, DeclaredMethod, DeclaredCtor, Item, class_item, field_item, method_item, ctor_item, DeclaredItem}
use Rattle.jr_table.specs.Resolving.{Means}
use Rattle.jr_table.specs.ProgramRows.{is_access, MeanTypes, MeansResult, IsClassRow, IsFieldRow, IsMethodRow, IsCtorRow, unwritten_row, AreRowsOfDeclarations, AreProgramRows}
use Rattle.jr_build_rows.proofs.Apart.{In, in_right, in_stands}
use Rattle.jr_members.proofs.Walking.{map_join}
use Rattle.jr_images.specs.Images.{Renaming, name_to, class_to, type_to, types_to, decl_to, row_to, rows_to}
use Rattle.jr_program_laws.proofs.Agreeing.{ClassRow}
use Rattle.jr_images.proofs.KeyImages.{keeps_name}
use Rattle.jr_rename_laws.proofs.WrittenTypes.{meant, written_means}
use Rattle.jr_rename_laws.proofs.ItemsBeside.{TypeTo, ResultTo, ParamsTo, ClassTo, FieldTo, MethodTo, CtorTo, ItemTo, DeclarationsTo}
use Rattle.jr_rename_laws.proofs.NewAgreeing.{Both, image_row, image_parent, new_one, new_tops, new_parents}

module _ (rows : List Row) (g : Renaming) (ss ts : List DeclaredItem) (two : Both rows g ss ts) where
  -- what a type of the new program means
  pub type_means : (of : ClassKey) (n : ℕ) → ClassRow rows of n → (w v : Written) → TypeTo rows g of w v → (t : Ty) → Means ss of w t → Means ts (class_to g of) v (type_to g t)
  type_means of n i w v x t m =
      let same = meant rows ss two.agree two.tops two.parents of n i w t x.type m x.old in
      let row = image_row rows g two.keeps ss ts two.agree two.are two.to of n i in
      subst (Means ts (class_to g of) v) (ap (type_to g) (sym same))
      (written_means (rows_to g rows) ts (new_one rows g ss ts two) (new_tops rows g ss ts two) (new_parents rows g ss ts two) (class_to g of) n row v (type_to g x.type) x.new)

  pub params_mean : (of : ClassKey) (n : ℕ) → ClassRow rows of n → (ps qs : List DeclaredParam) → ParamsTo rows g of ps qs → (us : List Ty) → MeanTypes ss of ps us → MeanTypes ts (class_to g of) qs (types_to g us)
  params_mean of n i [] [] h [] m = tt
  params_mean of n i [] [] h (u ∷ us) m = absurd m
  params_mean of n i [] (q ∷ qs) h us m = absurd h
  params_mean of n i (p ∷ ps) [] h us m = absurd h
  params_mean of n i (p ∷ ps) (q ∷ qs) h [] m = absurd m
  params_mean of n i (p ∷ ps) (q ∷ qs) h (u ∷ us) m = (type_means of n i p.type q.type h.0 u m.0, params_mean of n i ps qs h.2 us m.1)

  pub result_means : (of : ClassKey) (n : ℕ) → ClassRow rows of n → (w v : Option Written) → ResultTo rows g of w v → (t : Ty) → MeansResult ss of w t → MeansResult ts (class_to g of) v (type_to g t)
  result_means of n i None None h t m = ap (type_to g) m
  result_means of n i None (Some v) h t m = absurd h
  result_means of n i (Some w) None h t m = absurd h
  result_means of n i (Some w) (Some v) h t m = type_means of n i w v h t m

  -- the class of a row
  pub declarer : (r : Row) (d : Decl) → In rows r → r.decl ≡ d → (c : ℕ) × ClassRow rows (class_of d) c
  declarer r d h e = let n = in_stands rows r h in two.agree.rows_are.named n.0 r (class_of d) n.1 (as_declarer (ap class_of e))

  class_row_to : (c d : DeclaredClass) (r : Row) → ClassTo rows g c d → IsClassRow ss c r → IsClassRow ts d (row_to g r)
  class_row_to c d r h is = record {
    decl = ap (decl_to g) is.decl ∙ ap class_decl (sym h.key);
    modifiers = is.modifiers ∙ sym h.words;
    type = ap (option_map (type_to g)) is.type;
    superclass = class_to g is.superclass;
    parent = ap (option_map (class_to g)) is.parent;
    is_parent = (new_parents rows g ss ts two).down d.key (class_to g is.superclass)
        (subst (λ (k : ClassKey). IsSuperclass (rows_to g rows) k (class_to g is.superclass)) (sym h.key) (image_parent rows g two.keeps ss ts two.agree two.are two.to c.key is.superclass (two.parents.up c.key is.superclass is.is_parent)));
    has_init = is.has_init;
  }

  unwritten_to : (c d : DeclaredClass) → ClassTo rows g c d → row_to g (unwritten_row ss c) ≡ unwritten_row ts d
  unwritten_to c d h = λ i. record {
    decl = constructor_decl (record { class = sym h.key i; params = [] });
    modifiers = filter is_access (sym h.words i);
    type = None;
    parent = None;
    has_init = false;
  }

  field_row_to : (f h : DeclaredField) (r : Row) → In rows r → FieldTo rows g f h → IsFieldRow ss f r → IsFieldRow ts h (row_to g r)
  field_row_to f h r there x is =
      let c = declarer r (field_decl (record { class = f.of; name = f.name })) there (ap (λ (z : Row). z.decl) is.is) in
      let named : name_to g (field_decl (record { class = f.of; name = f.name })) f.name ≡ h.name = keeps_name g (field_decl (record { class = f.of; name = f.name })) f.name (two.keeps.field (record { class = f.of; name = f.name })) ∙ sym x.name in
      record {
        type = type_to g is.type;
        means = subst (λ (k : ClassKey). Means ts k h.type (type_to g is.type)) (sym x.of) (type_means f.of c.0 c.1 f.type h.type x.type is.type is.means);
        is = ap (row_to g) is.is ∙ (λ i. record {
          decl = field_decl (record { class = sym x.of i; name = named i });
          modifiers = sym x.words i;
          type = Some (type_to g is.type);
          parent = None;
          has_init = sym x.init i;
        });
      }

  method_row_to : (m n : DeclaredMethod) (r : Row) → In rows r → MethodTo rows g m n → IsMethodRow ss m r → IsMethodRow ts n (row_to g r)
  method_row_to m n r there x is =
      let c = declarer r (method_decl (record { class = m.of; name = m.name; params = is.params })) there (ap (λ (z : Row). z.decl) is.is) in
      let named : name_to g (method_decl (record { class = m.of; name = m.name; params = is.params })) m.name ≡ n.name =
      keeps_name g (method_decl (record { class = m.of; name = m.name; params = is.params })) m.name (two.keeps.method (record { class = m.of; name = m.name; params = is.params })) ∙ sym x.name in
      record {
        result = type_to g is.result;
        params = types_to g is.params;
        means = subst (λ (k : ClassKey). MeansResult ts k n.result (type_to g is.result)) (sym x.of) (result_means m.of c.0 c.1 m.result n.result x.result is.result is.means);
        mean = subst (λ (k : ClassKey). MeanTypes ts k n.params (types_to g is.params)) (sym x.of) (params_mean m.of c.0 c.1 m.params n.params x.params is.params is.mean);
        is = ap (row_to g) is.is ∙ (λ i. record {
          decl = method_decl (record { class = sym x.of i; name = named i; params = types_to g is.params });
          modifiers = sym x.words i;
          type = Some (type_to g is.result);
          parent = None;
          has_init = false;
        });
      }

  ctor_row_to : (c d : DeclaredCtor) (r : Row) → In rows r → CtorTo rows g c d → IsCtorRow ss c r → IsCtorRow ts d (row_to g r)
  ctor_row_to c d r there x is =
      let n = declarer r (constructor_decl (record { class = c.of; params = is.params })) there (ap (λ (z : Row). z.decl) is.is) in
      record {
        params = types_to g is.params;
        mean = subst (λ (k : ClassKey). MeanTypes ts k d.params (types_to g is.params)) (sym x.of) (params_mean c.of n.0 n.1 c.params d.params x.params is.params is.mean);
        is = ap (row_to g) is.is ∙ (λ i. record {
          decl = constructor_decl (record { class = sym x.of i; params = types_to g is.params });
          modifiers = sym x.words i;
          type = None;
          parent = None;
          has_init = false;
        });
      }

  -- ---- all rows

  abbrev Within : List Row → Type 0
  Within own = (r : Row) → In own r → In rows r

  rest_within : (front rest own : List Row) → own ≡ front ++ rest → Within own → Within rest
  rest_within front rest own e h r x = h r (subst (λ (rs : List Row). In rs r) (sym e) (in_right front rest r x))

  here_within : (r : Row) (rest own : List Row) → own ≡ r ∷ rest → Within own → In rows r
  here_within r rest own e h = h r (subst (λ (rs : List Row). In rs r) (sym e) (inl refl))

  module _ (xs ys : List DeclaredItem) (others : (rest : List Row) → Within rest → AreRowsOfDeclarations ss xs rest → AreRowsOfDeclarations ts ys (rows_to g rest)) (f e : ℕ) where
    class_case : (a b : ℕ) (k l : ClassKey) (m n : List ModWord) (p q : Option Written) (c d : Bool)
        → ClassTo rows g (record { at = a; key = k; modifiers = m; parent = p; has_ctor = c }) (record { at = b; key = l; modifiers = n; parent = q; has_ctor = d })
        → (own : List Row) → Within own → AreRowsOfDeclarations ss (record { file = f; item = class_item (record { at = a; key = k; modifiers = m; parent = p; has_ctor = c }) } ∷ xs) own
        → AreRowsOfDeclarations ts (record { file = e; item = class_item (record { at = b; key = l; modifiers = n; parent = q; has_ctor = d }) } ∷ ys) (rows_to g own)
    class_case a b k l m n p q true true h own w (r, rest, is, row, more) =
        (row_to g r, rows_to g rest, ap (rows_to g) is, class_row_to _ _ r h row, others rest (rest_within (r ∷ []) rest own is w) more)
    class_case a b k l m n p q true false h own w are = absurd (let never = h.ctor in cc)
    class_case a b k l m n p q false true h own w are = absurd (let never = h.ctor in cc)
    class_case a b k l m n p q false false h own w (r, rest, is, row, more) = (
      row_to g r,
      rows_to g rest,
      ap (rows_to g) is ∙ ap (λ (x : Row). row_to g r ∷ x ∷ rows_to g rest) (unwritten_to _ _ h),
      class_row_to _ _ r h row,
      others rest (rest_within (r ∷ unwritten_row ss (record { at = a; key = k; modifiers = m; parent = p; has_ctor = false }) ∷ []) rest own is w) more,
    )

    item_case : (x y : Item) → ItemTo rows g x y → (own : List Row) → Within own → AreRowsOfDeclarations ss (record { file = f; item = x } ∷ xs) own → AreRowsOfDeclarations ts (record { file = e; item = y } ∷ ys) (rows_to g own)
    item_case (class_item c) (class_item d) h own w are = class_case c.at d.at c.key d.key c.modifiers d.modifiers c.parent d.parent c.has_ctor d.has_ctor h own w are
    item_case (class_item c) (field_item d) h own w are = absurd h
    item_case (class_item c) (method_item d) h own w are = absurd h
    item_case (class_item c) (ctor_item d) h own w are = absurd h
    item_case (field_item c) (class_item d) h own w are = absurd h
    item_case (field_item c) (field_item d) h own w (r, rest, is, row, more) =
        (row_to g r, rows_to g rest, ap (rows_to g) is, field_row_to c d r (here_within r rest own is w) h row, others rest (rest_within (r ∷ []) rest own is w) more)
    item_case (field_item c) (method_item d) h own w are = absurd h
    item_case (field_item c) (ctor_item d) h own w are = absurd h
    item_case (method_item c) (class_item d) h own w are = absurd h
    item_case (method_item c) (field_item d) h own w are = absurd h
    item_case (method_item c) (method_item d) h own w (r, rest, is, row, more) =
        (row_to g r, rows_to g rest, ap (rows_to g) is, method_row_to c d r (here_within r rest own is w) h row, others rest (rest_within (r ∷ []) rest own is w) more)
    item_case (method_item c) (ctor_item d) h own w are = absurd h
    item_case (ctor_item c) (class_item d) h own w are = absurd h
    item_case (ctor_item c) (field_item d) h own w are = absurd h
    item_case (ctor_item c) (method_item d) h own w are = absurd h
    item_case (ctor_item c) (ctor_item d) h own w (r, rest, is, row, more) =
        (row_to g r, rows_to g rest, ap (rows_to g) is, ctor_row_to c d r (here_within r rest own is w) h row, others rest (rest_within (r ∷ []) rest own is w) more)

  own_rows : (xs ys : List DeclaredItem) → DeclarationsTo rows g xs ys → (own : List Row) → Within own → AreRowsOfDeclarations ss xs own → AreRowsOfDeclarations ts ys (rows_to g own)
  own_rows [] [] h own w are = ap (rows_to g) are
  own_rows [] (t ∷ ys) h own w are = absurd h
  own_rows (s ∷ xs) [] h own w are = absurd h
  own_rows (s ∷ xs) (t ∷ ys) h own w are = item_case xs ys (λ rest v more. own_rows xs ys h.2 rest v more) s.file t.file s.item t.item h.1 own w are

  pub program_rows : AreProgramRows ss rows → rows_to g prelude_rows ≡ prelude_rows → AreProgramRows ts (rows_to g rows)
  program_rows (own, is, are) stays = (
    rows_to g own,
    ap (rows_to g) is ∙ map_join (row_to g) prelude_rows own ∙ ap (λ (front : List Row). front ++ rows_to g own) stays,
    own_rows ss ts two.to own (λ r x. subst (λ (rs : List Row). In rs r) (sym is) (in_right prelude_rows own r x)) are,
  )
