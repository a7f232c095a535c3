-- What a program declares has a row.
use Rattle.std.proofs.Common.{◌≡◌, ◌<◌, ℕ, zero, suc, length, List, [], ◌∷◌, ◌++◌, Option, Some, Bool, true, false, refl, sym, ap, subst, ◌∙◌}
use Rattle.std.specs.Prelude.{slice_get}
use Rattle.jr_ast.specs.declared.operators.ModWord.{ModWord}
use Rattle.jr_table.specs.Keys.{ClassKey, Ty}
use Rattle.jr_table.specs.Decls.{LocalKey, Decl, class_decl, field_decl, method_decl, local_decl}
use Rattle.jr_table.specs.Rows.{Row}
use Rattle.jr_table.specs.Prelude.{prelude_rows}
use Rattle.jr_table.specs.Entries.{IsRowOf}
use Rattle.jr_table.specs.DeclaredItems.{Written, Item, class_item, field_item, method_item, ctor_item, DeclaredItem}
use Rattle.jr_table.specs.ProgramRows.{MeanTypes, unwritten_row, AreRowsOfDeclarations, AreProgramRows}

-- of so many rows of the prelude
pub early : (i n : ℕ) → length prelude_rows ≡ n → i < n → i < length prelude_rows
early i n e h = subst (λ (m : ℕ). i < m) (sym e) h

abbrev pub RowFor : List Row → Decl → Type 0
RowFor rows d = (i : ℕ) × IsRowOf rows d i

row_here : (r : Row) (rest : List Row) (d : Decl) → r.decl ≡ d → RowFor (r ∷ rest) d
row_here r rest d e = (0, record { row = r; stands = refl; declares = e })

row_behind : (front rest : List Row) (d : Decl) → RowFor rest d → RowFor (front ++ rest) d
row_behind [] rest d h = h
row_behind (x ∷ front) rest d h = let r = row_behind front rest d h in (suc r.0, record { row = r.1.row; stands = r.1.stands; declares = r.1.declares })

row_in : (rows own : List Row) (d : Decl) → rows ≡ own → RowFor own d → RowFor rows d
row_in rows own d e h = subst (λ (x : List Row). RowFor x d) (sym e) h

-- no row is of a local
abbrev pub NoLocals : List Row → Type 0
NoLocals [] = Unit {0}
NoLocals (r ∷ rows) = ((k : LocalKey) → r.decl ≡ local_decl k → ⊥) × NoLocals rows

no_locals_join : (xs ys : List Row) → NoLocals xs → NoLocals ys → NoLocals (xs ++ ys)
no_locals_join [] ys h i = i
no_locals_join (x ∷ xs) ys h i = (h.0, no_locals_join xs ys h.1 i)

pub no_local_at : (rows : List Row) → NoLocals rows → (i : ℕ) (r : Row) → slice_get rows i ≡ Some r → (k : LocalKey) → r.decl ≡ local_decl k → ⊥
no_local_at [] h i r at k e = absurd cc
no_local_at (x ∷ rows) h zero r at k e = let same : x ≡ r = cc in h.0 k (ap (λ (z : Row). z.decl) same ∙ e)
no_local_at (x ∷ rows) h (suc i) r at k e = no_local_at rows h.1 i r at k e

prelude_plain : NoLocals prelude_rows
prelude_plain = (λ k e. absurd cc, (λ k e. absurd cc, (λ k e. absurd cc, (λ k e. absurd cc, (λ k e. absurd cc, (λ k e. absurd cc, (λ k e. absurd cc, (λ k e. absurd cc, tt))))))))

module _ (ss : List DeclaredItem) where
  abbrev pub ItemHas : Item → List Row → Type 0
  ItemHas (class_item c) rows = RowFor rows (class_decl c.key)
  ItemHas (field_item f) rows = RowFor rows (field_decl (record { class = f.of; name = f.name }))
  ItemHas (method_item m) rows = (us : List Ty) × MeanTypes ss m.of m.params us × RowFor rows (method_decl (record { class = m.of; name = m.name; params = us }))
  ItemHas (ctor_item c) rows = Unit {0}

  wider : (x : Item) (front rest : List Row) → ItemHas x rest → ItemHas x (front ++ rest)
  wider (class_item c) front rest h = row_behind front rest (class_decl c.key) h
  wider (field_item f) front rest h = row_behind front rest (field_decl (record { class = f.of; name = f.name })) h
  wider (method_item m) front rest h = (h.0, h.1, row_behind front rest (method_decl (record { class = m.of; name = m.name; params = h.0 })) h.2)
  wider (ctor_item c) front rest h = tt

  -- the rows of the first declaration, and those of the others
  pub record Split (x : Item) (xs : List DeclaredItem) (own : List Row) : Type 0 where
    pub front : List Row
    pub rest : List Row
    pub is : own ≡ front ++ rest
    pub others : AreRowsOfDeclarations ss xs rest
    pub has : ItemHas x own
    pub no_local : NoLocals front

  split_class : (file at : ℕ) (k : ClassKey) (m : List ModWord) (p : Option Written) (b : Bool) (xs : List DeclaredItem) (own : List Row)
      → AreRowsOfDeclarations ss (record { file = file; item = class_item (record { at = at; key = k; modifiers = m; parent = p; has_ctor = b }) } ∷ xs) own
      → Split (class_item (record { at = at; key = k; modifiers = m; parent = p; has_ctor = b })) xs own
  split_class file at k m p true xs own (r, rest, is, row, more) = record { front = r ∷ []; rest = rest; is = is; others = more; has = row_in own (r ∷ rest) (class_decl k) is (row_here r rest (class_decl k) row.decl); no_local = (λ l e. absurd (let p = sym row.decl ∙ e in cc), tt) }
  split_class file at k m p false xs own (r, rest, is, row, more) = record {
    front = r ∷ unwritten_row ss (record { at = at; key = k; modifiers = m; parent = p; has_ctor = false }) ∷ [];
    rest = rest;
    is = is;
    others = more;
    has = row_in own (r ∷ unwritten_row ss (record { at = at; key = k; modifiers = m; parent = p; has_ctor = false }) ∷ rest) (class_decl k) is
        (row_here r (unwritten_row ss (record { at = at; key = k; modifiers = m; parent = p; has_ctor = false }) ∷ rest) (class_decl k) row.decl);
    no_local = (λ l e. absurd (let p = sym row.decl ∙ e in cc), (λ l e. absurd cc, tt));
  }

  split : (file : ℕ) (x : Item) (xs : List DeclaredItem) (own : List Row) → AreRowsOfDeclarations ss (record { file = file; item = x } ∷ xs) own → Split x xs own
  split file (class_item c) xs own are = split_class file c.at c.key c.modifiers c.parent c.has_ctor xs own are
  split file (field_item f) xs own (r, rest, is, row, more) =
      record { front = r ∷ []; rest = rest; is = is; others = more; has = row_in own (r ∷ rest) (field_decl (record { class = f.of; name = f.name })) is (row_here r rest (field_decl (record { class = f.of; name = f.name })) (ap (λ (x : Row). x.decl) row.is)); no_local = (λ l e. absurd (let p = sym (ap (λ (x : Row). x.decl) row.is) ∙ e in cc), tt) }
  split file (method_item m) xs own (r, rest, is, row, more) = record {
    front = r ∷ [];
    rest = rest;
    is = is;
    others = more;
    has = (
      row.params,
      row.mean,
      row_in own (r ∷ rest) (method_decl (record { class = m.of; name = m.name; params = row.params })) is
          (row_here r rest (method_decl (record { class = m.of; name = m.name; params = row.params })) (ap (λ (x : Row). x.decl) row.is)),
    );
    no_local = (λ l e. absurd (let p = sym (ap (λ (x : Row). x.decl) row.is) ∙ e in cc), tt);
  }
  split file (ctor_item c) xs own (r, rest, is, row, more) = record { front = r ∷ []; rest = rest; is = is; others = more; has = tt; no_local = (λ l e. absurd (let p = sym (ap (λ (x : Row). x.decl) row.is) ∙ e in cc), tt) }

  item_row : (xs : List DeclaredItem) (own : List Row) → AreRowsOfDeclarations ss xs own → (i file : ℕ) (x : Item) → slice_get xs i ≡ Some (record { file = file; item = x }) → ItemHas x own
  item_row [] own are i file x e = absurd cc
  item_row (s ∷ xs) own are zero file x e =
      let same : s ≡ record { file = file; item = x } = cc in
      subst (λ (z : Item). ItemHas z own) (ap (λ (z : DeclaredItem). z.item) same) (split s.file s.item xs own are).has
  item_row (s ∷ xs) own are (suc i) file x e =
      let r = split s.file s.item xs own are in
      subst (ItemHas x) (sym r.is) (wider x r.front r.rest (item_row xs r.rest r.others i file x e))

  pub has_row : (rows : List Row) → AreProgramRows ss rows → (i file : ℕ) (x : Item) → slice_get ss i ≡ Some (record { file = file; item = x }) → ItemHas x rows
  has_row rows (own, is, are) i file x e = subst (ItemHas x) (sym is) (wider x prelude_rows own (item_row ss own are i file x e))

  own_plain : (xs : List DeclaredItem) (own : List Row) → AreRowsOfDeclarations ss xs own → NoLocals own
  own_plain [] own are = subst NoLocals (sym are) tt
  own_plain (s ∷ xs) own are =
      let r = split s.file s.item xs own are in
      subst NoLocals (sym r.is) (no_locals_join r.front r.rest r.no_local (own_plain xs r.rest r.others))

  pub no_locals : (rows : List Row) → AreProgramRows ss rows → NoLocals rows
  no_locals rows (own, is, are) = subst NoLocals (sym is) (no_locals_join prelude_rows own prelude_plain (own_plain ss own are))
