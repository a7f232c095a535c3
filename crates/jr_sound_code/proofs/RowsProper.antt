-- The types of a program's rows: a field has a type of values, a method such a one or none, and so have parameters.
use Rattle.std.proofs.Common.{◌≡◌, ℕ, List, [], ◌∷◌, Option, Some, None, Bool, true, false, refl, sym, ap, subst, ◌∙◌, inl, inr}
use Rattle.std.specs.Prelude.{◌⊎◌}
use Rattle.jr_ast.specs.declared.operators.ModWord.{ModWord}
use Rattle.jr_table.specs.Keys.{ClassKey, MethodKey, Ty, void}
use Rattle.jr_table.specs.Decls.{Decl, field_decl, method_decl}
use Rattle.jr_table.specs.Rows.{Row}
use Rattle.jr_table.specs.Prelude.{prelude_rows}
use Rattle.jr_table.specs.Entries.{IsRowOf, params_of}
use Rattle.jr_table.specs.DeclaredItems.{Written, int, boolean, named, DeclaredParam, DeclaredClass, DeclaredField, DeclaredMethod, DeclaredCtor, Item, class_item, field_item, method_item, ctor_item, DeclaredItem}
use Rattle.jr_table.specs.Resolving.{Means}
use Rattle.jr_table.specs.ProgramRows.{MeanTypes, MeansResult, IsClassRow, IsFieldRow, IsMethodRow, IsCtorRow, unwritten_row, AreRowsOfDeclarations, AreProgramRows}
use Rattle.jr_build_rows.proofs.Apart.{In, in_either, stands_in}
use Rattle.jr_code.specs.RunRows.{run_type}
use Rattle.jr_sound_code.proofs.Fitting.{Proper, AllProper, ProperRows}

-- what is proper about a row
record IsProper (r : Row) : Type 0 where
  type : (t : Ty) → r.type ≡ Some t → Proper t ⊎ ((k : MethodKey) × (r.decl ≡ method_decl k) × (t ≡ void))
  params : AllProper (params_of r.decl)

without : (r : Row) → r.type ≡ None → params_of r.decl ≡ [] → IsProper r
without r none empty = record { type = λ t e. (let p = sym none ∙ e in absurd cc); params = subst AllProper (sym empty) tt }

module _ (declarations : List DeclaredItem) where
  pub means_proper : (c : ClassKey) (w : Written) (t : Ty) → Means declarations c w t → Proper t
  means_proper c int t h = (_, ap run_type h)
  means_proper c boolean t h = (_, ap run_type h)
  means_proper c (named at None name) t (q, is, finds) = (_, ap run_type is)
  means_proper c (named at (Some o) name) t (p, q, is, front, back) = (_, ap run_type is)

  pub mean_proper : (c : ClassKey) (ps : List DeclaredParam) (ts : List Ty) → MeanTypes declarations c ps ts → AllProper ts
  mean_proper c [] [] h = tt
  mean_proper c [] (t ∷ ts) h = absurd h
  mean_proper c (p ∷ ps) [] h = absurd h
  mean_proper c (p ∷ ps) (t ∷ ts) h = (means_proper c p.type t h.0, mean_proper c ps ts h.1)

  class_proper : (c : DeclaredClass) (r : Row) → IsClassRow declarations c r → IsProper r
  class_proper c r is = without r is.type (ap params_of is.decl)

  field_proper : (f : DeclaredField) (r : Row) → IsFieldRow declarations f r → IsProper r
  field_proper f r is = subst IsProper (sym is.is) (record {
    type = λ t e. inl (let same : is.type ≡ t = cc in subst Proper same (means_proper f.of f.type is.type is.means));
    params = tt;
  })

  result_proper : (m : DeclaredMethod) (o : Option Written) (t : Ty) → MeansResult declarations m.of o t → Proper t ⊎ (t ≡ void)
  result_proper m None t h = inr h
  result_proper m (Some w) t h = inl (means_proper m.of w t h)

  method_proper : (m : DeclaredMethod) (r : Row) → IsMethodRow declarations m r → IsProper r
  method_proper m r is = subst IsProper (sym is.is) (record {
    type = λ t e. (let same : is.result ≡ t = cc in elim (result_proper m m.result is.result is.means) [
      | inl p ↦ inl (subst Proper same p)
      | inr v ↦ inr (record { class = m.of; name = m.name; params = is.params }, refl, sym same ∙ v)
    ]);
    params = mean_proper m.of m.params is.params is.mean;
  })

  ctor_proper : (c : DeclaredCtor) (r : Row) → IsCtorRow declarations c r → IsProper r
  ctor_proper c r is = subst IsProper (sym is.is) (record { type = λ t e. absurd cc; params = mean_proper c.of c.params is.params is.mean })

  -- the first of these rows, or a later one
  first_proper : (x : Row) (rest own : List Row) → own ≡ x ∷ rest → IsProper x → ((r : Row) → In rest r → IsProper r) → (r : Row) → In own r → IsProper r
  first_proper x rest own is proper later r h = by (subst (λ (z : List Row). In z r) is h)
    where
      by : In (x ∷ rest) r → IsProper r
      by (inl e) = subst IsProper e proper
      by (inr i) = later r i

  class_rows_proper : (file at : ℕ) (k : ClassKey) (ms : List ModWord) (p : Option Written) (b : Bool) (ss : List DeclaredItem) (own : List Row)
      → AreRowsOfDeclarations declarations (record { file = file; item = class_item (record { at = at; key = k; modifiers = ms; parent = p; has_ctor = b }) } ∷ ss) own
      → ((rest : List Row) → AreRowsOfDeclarations declarations ss rest → (r : Row) → In rest r → IsProper r) → (r : Row) → In own r → IsProper r
  class_rows_proper file at k ms p true ss own (x, rest, is, row, more) later r h = first_proper x rest own is (class_proper _ x row) (later rest more) r h
  class_rows_proper file at k ms p false ss own (x, rest, is, row, more) later r h =
      let c : DeclaredClass = record { at = at; key = k; modifiers = ms; parent = p; has_ctor = false } in
      first_proper x (unwritten_row declarations c ∷ rest) own is (class_proper c x row) (first_proper (unwritten_row declarations c) rest (unwritten_row declarations c ∷ rest) refl (without (unwritten_row declarations c) refl refl) (later rest more)) r h

  item_proper : (file : ℕ) (x : Item) (ss : List DeclaredItem) (own : List Row) → AreRowsOfDeclarations declarations (record { file = file; item = x } ∷ ss) own
      → ((rest : List Row) → AreRowsOfDeclarations declarations ss rest → (r : Row) → In rest r → IsProper r) → (r : Row) → In own r → IsProper r
  item_proper file (class_item c) ss own are later r h = class_rows_proper file c.at c.key c.modifiers c.parent c.has_ctor ss own are later r h
  item_proper file (field_item f) ss own (x, rest, is, row, more) later r h = first_proper x rest own is (field_proper f x row) (later rest more) r h
  item_proper file (method_item m) ss own (x, rest, is, row, more) later r h = first_proper x rest own is (method_proper m x row) (later rest more) r h
  item_proper file (ctor_item c) ss own (x, rest, is, row, more) later r h = first_proper x rest own is (ctor_proper c x row) (later rest more) r h

  own_proper : (ss : List DeclaredItem) (own : List Row) → AreRowsOfDeclarations declarations ss own → (r : Row) → In own r → IsProper r
  own_proper [] own are r h = absurd (subst (λ (z : List Row). In z r) are h)
  own_proper (s ∷ ss) own are r h = item_proper s.file s.item ss own are (λ rest more x i. own_proper ss rest more x i) r h

prelude_proper : (r : Row) → In prelude_rows r → IsProper r
prelude_proper r (inl e) = subst IsProper e (without _ refl refl)
prelude_proper r (inr (inl e)) = subst IsProper e (without _ refl refl)
prelude_proper r (inr (inr (inl e))) = subst IsProper e (without _ refl refl)
prelude_proper r (inr (inr (inr (inl e)))) = subst IsProper e (without _ refl refl)
prelude_proper r (inr (inr (inr (inr (inl e))))) = subst IsProper e (without _ refl refl)
prelude_proper r (inr (inr (inr (inr (inr (inl e)))))) = subst IsProper e (without _ refl refl)
prelude_proper r (inr (inr (inr (inr (inr (inr (inl e))))))) = subst IsProper e (record { type = λ t h. inr (_, refl, (let same : void ≡ t = cc in sym same)); params = tt })
prelude_proper r (inr (inr (inr (inr (inr (inr (inr (inl e)))))))) = subst IsProper e (record { type = λ t h. inr (_, refl, (let same : void ≡ t = cc in sym same)); params = tt })
prelude_proper r (inr (inr (inr (inr (inr (inr (inr (inr h)))))))) = absurd h

module _ (declarations : List DeclaredItem) (rows : List Row) (program : AreProgramRows declarations rows) where
  row_proper : (d : Decl) (j : ℕ) (i : IsRowOf rows d j) → IsProper i.row
  row_proper d j i = elim (in_either prelude_rows program.0 i.row (subst (λ (z : List Row). In z i.row) program.1 (stands_in rows j i.row i.stands))) [
    | inl h ↦ prelude_proper i.row h
    | inr h ↦ own_proper declarations declarations program.0 program.2 i.row h
  ]

  pub rows_proper : ProperRows rows
  rows_proper = record {
    field = λ k j i t e. elim ((row_proper (field_decl k) j i).type t e) [
      | inl p ↦ p
      | inr (m, is, v) ↦ (let q = sym i.declares ∙ is in absurd cc)
    ];
    result = λ k j i t e. elim ((row_proper (method_decl k) j i).type t e) [
      | inl p ↦ inl p
      | inr (m, is, v) ↦ inr v
    ];
    params = λ d j i. subst (λ (z : Decl). AllProper (params_of z)) i.declares (row_proper d j i).params;
  }
