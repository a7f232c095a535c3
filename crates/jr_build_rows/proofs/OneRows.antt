-- The declarations of a program ask for one list of rows, where types and superclasses mean one thing each.
use Rattle.std.proofs.Common.{◌≡◌, ℕ, List, [], ◌∷◌, ◌++◌, Some, None, Bool, true, false, refl, sym, ap, subst, ◌∙◌}
use Rattle.std.specs.Prelude.{Option, is_some}
use Rattle.jr_ast.specs.declared.operators.ModWord.{ModWord}
use Rattle.jr_table.specs.Keys.{ClassKey, Ty, void}
use Rattle.jr_table.specs.Decls.{field_decl, method_decl, constructor_decl}
use Rattle.jr_table.specs.Rows.{Row}
use Rattle.jr_table.specs.Prelude.{prelude_rows}
use Rattle.jr_table.specs.ProgramRows.{MeanTypes, MeansResult, IsClassRow, IsFieldRow, IsMethodRow, IsCtorRow, AreRowsOfDeclarations, AreProgramRows, unwritten_row}
use Rattle.jr_table.specs.Resolving.{IsParent, Means}
use Rattle.jr_table.specs.DeclaredItems.{Written, DeclaredParam, DeclaredClass, DeclaredField, DeclaredMethod, DeclaredCtor, Item, class_item, field_item, method_item, ctor_item, DeclaredItem}

module _ (declarations : List DeclaredItem) (means : (k : ClassKey) (w : Written) (t u : Ty) → Means declarations k w t → Means declarations k w u → t ≡ u)
    (parents : (k p q : ClassKey) → IsParent declarations k p → IsParent declarations k q → p ≡ q) where
  types_once : (k : ClassKey) (ps : List DeclaredParam) (ts us : List Ty) → MeanTypes declarations k ps ts → MeanTypes declarations k ps us → ts ≡ us
  types_once k [] [] [] g h = refl
  types_once k [] [] (u ∷ us) g h = absurd h
  types_once k [] (t ∷ ts) us g h = absurd g
  types_once k (p ∷ ps) [] us g h = absurd g
  types_once k (p ∷ ps) (t ∷ ts) [] g h = absurd h
  types_once k (p ∷ ps) (t ∷ ts) (u ∷ us) g h =
      let a = means k p.type t u g.0 h.0 in
      let b = types_once k ps ts us g.1 h.1 in
      λ i. a i ∷ b i

  result_once : (k : ClassKey) (o : Option Written) (t u : Ty) → MeansResult declarations k o t → MeansResult declarations k o u → t ≡ u
  result_once k None t u g h = g ∙ sym h
  result_once k (Some w) t u g h = means k w t u g h

  class_once : (c : DeclaredClass) (r s : Row) → IsClassRow declarations c r → IsClassRow declarations c s → r ≡ s
  class_once c r s g h =
      let d = g.decl ∙ sym h.decl in
      let m = g.modifiers ∙ sym h.modifiers in
      let t = g.type ∙ sym h.type in
      let p = g.parent ∙ ap Some (parents c.key g.superclass h.superclass g.is_parent h.is_parent) ∙ sym h.parent in
      let x = g.has_init ∙ sym h.has_init in
      λ i. record { decl = d i; modifiers = m i; type = t i; parent = p i; has_init = x i }

  abbrev a_field : DeclaredField → Ty → Row
  a_field f t = record { decl = field_decl (record { class = f.of; name = f.name }); modifiers = f.modifiers; type = Some t; parent = None; has_init = is_some f.init }

  field_once : (f : DeclaredField) (r s : Row) → IsFieldRow declarations f r → IsFieldRow declarations f s → r ≡ s
  field_once f r s g h = g.is ∙ ap (a_field f) (means f.of f.type g.type h.type g.means h.means) ∙ sym h.is

  abbrev a_method : DeclaredMethod → Ty → List Ty → Row
  a_method m t ts = record { decl = method_decl (record { class = m.of; name = m.name; params = ts }); modifiers = m.modifiers; type = Some t; parent = None; has_init = false }

  method_once : (m : DeclaredMethod) (r s : Row) → IsMethodRow declarations m r → IsMethodRow declarations m s → r ≡ s
  method_once m r s g h =
      let t = result_once m.of m.result g.result h.result g.means h.means in
      let ts = types_once m.of m.params g.params h.params g.mean h.mean in
      g.is ∙ (λ i. a_method m (t i) (ts i)) ∙ sym h.is

  abbrev a_ctor : DeclaredCtor → List Ty → Row
  a_ctor c ts = record { decl = constructor_decl (record { class = c.of; params = ts }); modifiers = c.modifiers; type = None; parent = None; has_init = false }

  ctor_once : (c : DeclaredCtor) (r s : Row) → IsCtorRow declarations c r → IsCtorRow declarations c s → r ≡ s
  ctor_once c r s g h = g.is ∙ ap (a_ctor c) (types_once c.of c.params g.params h.params g.mean h.mean) ∙ sym h.is

  class_step : (file at : ℕ) (key : ClassKey) (words : List ModWord) (parent : Option Written) (b : Bool) (ss : List DeclaredItem)
      → ((rows others : List Row) → AreRowsOfDeclarations declarations ss rows → AreRowsOfDeclarations declarations ss others → rows ≡ others) → (rows others : List Row)
      → AreRowsOfDeclarations declarations (record { file = file; item = class_item (record { at = at; key = key; modifiers = words; parent = parent; has_ctor = b }) } ∷ ss) rows
      → AreRowsOfDeclarations declarations (record { file = file; item = class_item (record { at = at; key = key; modifiers = words; parent = parent; has_ctor = b }) } ∷ ss) others → rows ≡ others
  class_step file at key words parent true ss rest rows others (r, rs, e, is, more) (s, os, f, is', more') =
      let one = class_once _ r s is is' in
      let all = rest rs os more more' in
      e ∙ (λ i. one i ∷ all i) ∙ sym f
  class_step file at key words parent false ss rest rows others (r, rs, e, is, more) (s, os, f, is', more') =
      let one = class_once _ r s is is' in
      let all = rest rs os more more' in
      e ∙ (λ i. one i ∷ unwritten_row declarations (record { at = at; key = key; modifiers = words; parent = parent; has_ctor = false }) ∷ all i) ∙ sym f

  item_step : (file : ℕ) (item : Item) (ss : List DeclaredItem) → ((rows others : List Row) → AreRowsOfDeclarations declarations ss rows → AreRowsOfDeclarations declarations ss others → rows ≡ others) → (rows others : List Row)
      → AreRowsOfDeclarations declarations (record { file = file; item = item } ∷ ss) rows → AreRowsOfDeclarations declarations (record { file = file; item = item } ∷ ss) others → rows ≡ others
  item_step file (class_item c) ss rest rows others g h = class_step file c.at c.key c.modifiers c.parent c.has_ctor ss rest rows others g h
  item_step file (field_item f) ss rest rows others (r, rs, e, is, more) (s, os, e', is', more') =
      let one = field_once f r s is is' in
      let all = rest rs os more more' in
      e ∙ (λ i. one i ∷ all i) ∙ sym e'
  item_step file (method_item m) ss rest rows others (r, rs, e, is, more) (s, os, e', is', more') =
      let one = method_once m r s is is' in
      let all = rest rs os more more' in
      e ∙ (λ i. one i ∷ all i) ∙ sym e'
  item_step file (ctor_item c) ss rest rows others (r, rs, e, is, more) (s, os, e', is', more') =
      let one = ctor_once c r s is is' in
      let all = rest rs os more more' in
      e ∙ (λ i. one i ∷ all i) ∙ sym e'

  rows_once : (ss : List DeclaredItem) (rows others : List Row) → AreRowsOfDeclarations declarations ss rows → AreRowsOfDeclarations declarations ss others → rows ≡ others
  rows_once [] rows others g h = g ∙ sym h
  rows_once (s ∷ ss) rows others g h = item_step s.file s.item ss (rows_once ss) rows others g h

  pub program_once : (rows others : List Row) → AreProgramRows declarations rows → AreProgramRows declarations others → rows ≡ others
  program_once rows others g h = g.1 ∙ ap (λ own. prelude_rows ++ own) (rows_once declarations g.0 h.0 g.2 h.2) ∙ sym h.1
