-- The rows of a program of top-level classes, computed from what it declares.
use Rattle.std.proofs.lemmas.Bool.{and_parts}
use Rattle.std.proofs.Common.{◌≡◌, ℕ, List, [], ◌∷◌, ◌++◌, Option, Some, None, Bool, true, false, ◌&&◌, refl, inl}
use Rattle.std.specs.Prelude.{is_some, is_none}
use Rattle.jr_ast.specs.declared.operators.ModWord.{ModWord}
use Rattle.jr_table.specs.Keys.{ClassKey, Ty, void}
use Rattle.jr_table.specs.Decls.{class_decl, field_decl, method_decl, constructor_decl}
use Rattle.jr_table.specs.Rows.{Row}
use Rattle.jr_table.specs.Prelude.{prelude_rows, top_key, object_key}
use Rattle.jr_table.specs.DeclaredItems.{Written, int, boolean, named, DeclaredClass, Item, class_item, field_item, method_item, ctor_item, DeclaredItem}
use Rattle.jr_table.specs.Resolving.{TopNames, TopParent, IsParent}
use Rattle.jr_table.specs.ProgramRows.{MeansResult, unwritten_row, IsClassRow, AreRowsOfDeclarations, AreProgramRows}
use Rattle.jr_code_cases.proofs.TopTypes.{find_class, found_class, all_top, meaning, meanings, is_top, top_is, has_meaning, have_meanings, means, mean, none_is}

abbrev pub result_of : Option Written → Ty
result_of None = void
result_of (Some w) = meaning w

abbrev pub named_parent : Option Written → ClassKey
named_parent None = object_key
named_parent (Some int) = object_key
named_parent (Some boolean) = object_key
named_parent (Some (named at outer name)) = top_key name

abbrev pub parent_in : Option DeclaredClass → ClassKey
parent_in None = object_key
parent_in (Some at) = named_parent at.parent

module _ (ds : List DeclaredItem) where
  abbrev pub class_row : DeclaredClass → Row
  class_row c = record { decl = class_decl c.key; modifiers = c.modifiers; type = None; parent = Some (parent_in (find_class ds c.key.name)); has_init = false }

  abbrev pub class_rows : DeclaredClass → Bool → List Row → List Row
  class_rows c true rest = class_row c ∷ rest
  class_rows c false rest = class_row c ∷ unwritten_row ds c ∷ rest

  abbrev pub item_rows : Item → List Row → List Row
  item_rows (class_item c) rest = class_rows c c.has_ctor rest
  item_rows (field_item f) rest = record { decl = field_decl (record { class = f.of; name = f.name }); modifiers = f.modifiers; type = Some (meaning f.type); parent = None; has_init = is_some f.init } ∷ rest
  item_rows (method_item m) rest = record { decl = method_decl (record { class = m.of; name = m.name; params = meanings m.params }); modifiers = m.modifiers; type = Some (result_of m.result); parent = None; has_init = false } ∷ rest
  item_rows (ctor_item c) rest = record { decl = constructor_decl (record { class = c.of; params = meanings c.params }); modifiers = c.modifiers; type = None; parent = None; has_init = false } ∷ rest

  abbrev pub own_rows : List DeclaredItem → List Row
  own_rows [] = []
  own_rows (x ∷ xs) = item_rows x.item (own_rows xs)

  -- ---- what is asked of declarations

  abbrev pub names_parent : Option Written → Bool
  names_parent None = true
  names_parent (Some int) = false
  names_parent (Some boolean) = false
  names_parent (Some (named at None name)) = is_top ds name
  names_parent (Some (named at (Some o) name)) = false

  abbrev pub has_parent : Option DeclaredClass → Bool
  has_parent None = false
  has_parent (Some at) = names_parent at.parent

  abbrev pub has_result : Option Written → Bool
  has_result None = true
  has_result (Some w) = has_meaning ds w

  abbrev pub item_passes : Item → Bool
  item_passes (class_item c) = is_none c.key.outer && has_parent (find_class ds c.key.name)
  item_passes (field_item f) = is_none f.of.outer && has_meaning ds f.type
  item_passes (method_item m) = is_none m.of.outer && (has_result m.result && have_meanings ds m.params)
  item_passes (ctor_item c) = is_none c.of.outer && have_meanings ds c.params

  abbrev pub all_pass : List DeclaredItem → Bool
  all_pass [] = true
  all_pass (x ∷ xs) = item_passes x.item && all_pass xs

  -- ---- and what it gives

  names : (w : Option Written) → names_parent w ≡ true → TopNames ds w (named_parent w)
  names None e = refl
  names (Some int) e = absurd cc
  names (Some boolean) e = absurd cc
  names (Some (named at None name)) e = (refl, top_is ds name e)
  names (Some (named at (Some o) name)) e = absurd cc

  top_parent : (name : List ℕ) (o : Option DeclaredClass) → find_class ds name ≡ o → has_parent o ≡ true → TopParent ds name (parent_in o)
  top_parent name None is e = absurd cc
  top_parent name (Some at) is e = inl (at, found_class ds name at is, names at.parent e)

  pub is_parent : (k : ClassKey) → is_none k.outer && has_parent (find_class ds k.name) ≡ true → IsParent ds k (parent_in (find_class ds k.name))
  is_parent k e = let t = and_parts (is_none k.outer) (has_parent (find_class ds k.name)) e in inl (none_is k.outer t.0, top_parent k.name (find_class ds k.name) refl t.1)

  is_class_row : (c : DeclaredClass) → is_none c.key.outer && has_parent (find_class ds c.key.name) ≡ true → IsClassRow ds c (class_row c)
  is_class_row c e = record { decl = refl; modifiers = refl; type = refl; superclass = parent_in (find_class ds c.key.name); parent = refl; is_parent = is_parent c.key e; has_init = refl }

  module _ (top : all_top ds ≡ true) where
    means_result : (k : ClassKey) → k.outer ≡ None → (w : Option Written) → has_result w ≡ true → MeansResult ds k w (result_of w)
    means_result k outer None e = refl
    means_result k outer (Some w) e = means ds top k outer w e

    abbrev class_of : ℕ → ClassKey → List ModWord → Option Written → Bool → DeclaredClass
    class_of at key mods parent b = record { at = at; key = key; modifiers = mods; parent = parent; has_ctor = b }

    class_are : (at : ℕ) (key : ClassKey) (mods : List ModWord) (parent : Option Written) (b : Bool) (file : ℕ) (xs : List DeclaredItem) (rest : List Row)
        → is_none key.outer && has_parent (find_class ds key.name) ≡ true → AreRowsOfDeclarations ds xs rest
        → AreRowsOfDeclarations ds (record { file = file; item = class_item (class_of at key mods parent b) } ∷ xs) (class_rows (class_of at key mods parent b) b rest)
    class_are at key mods parent true file xs rest e are = (class_row (class_of at key mods parent true), rest, refl, is_class_row (class_of at key mods parent true) e, are)
    class_are at key mods parent false file xs rest e are = (class_row (class_of at key mods parent false), rest, refl, is_class_row (class_of at key mods parent false) e, are)

    item_are : (file : ℕ) (i : Item) (xs : List DeclaredItem) (rest : List Row) → item_passes i ≡ true → AreRowsOfDeclarations ds xs rest → AreRowsOfDeclarations ds (record { file = file; item = i } ∷ xs) (item_rows i rest)
    item_are file (class_item c) xs rest e are = class_are c.at c.key c.modifiers c.parent c.has_ctor file xs rest e are
    item_are file (field_item f) xs rest e are =
        let t = and_parts (is_none f.of.outer) (has_meaning ds f.type) e in
        (_, rest, refl, record { type = meaning f.type; means = means ds top f.of (none_is f.of.outer t.0) f.type t.1; is = refl }, are)
    item_are file (method_item m) xs rest e are =
        let t = and_parts (is_none m.of.outer) (has_result m.result && have_meanings ds m.params) e in
        let u = and_parts (has_result m.result) (have_meanings ds m.params) t.1 in (
          _,
          rest,
          refl,
          record {
            result = result_of m.result;
            params = meanings m.params;
            means = means_result m.of (none_is m.of.outer t.0) m.result u.0;
            mean = mean ds top m.of (none_is m.of.outer t.0) m.params u.1;
            is = refl;
          },
          are,
        )
    item_are file (ctor_item c) xs rest e are =
        let t = and_parts (is_none c.of.outer) (have_meanings ds c.params) e in
        (_, rest, refl, record { params = meanings c.params; mean = mean ds top c.of (none_is c.of.outer t.0) c.params t.1; is = refl }, are)

    own_are : (xs : List DeclaredItem) → all_pass xs ≡ true → AreRowsOfDeclarations ds xs (own_rows xs)
    own_are [] e = refl
    own_are (x ∷ xs) e = let t = and_parts (item_passes x.item) (all_pass xs) e in item_are x.file x.item xs (own_rows xs) t.0 (own_are xs t.1)

    pub rows_are : all_pass ds ≡ true → AreProgramRows ds (prelude_rows ++ own_rows ds)
    rows_are e = (own_rows ds, refl, own_are ds e)
