-- A class in which no constructor is written has the row of one without parameters; and what is written is none of the prelude's.
use Rattle.std.proofs.Common.{◌≡◌, ℕ, zero, suc, ◌+◌, ◌<◌, ◌≤◌, List, [], ◌∷◌, ◌++◌, length, Option, Some, None, Bool, true, false, refl, sym, ap, subst, ◌∙◌, inl, inr, arith}
use Rattle.std.specs.Prelude.{slice_get, Contains}
use Rattle.jr_ast.specs.declared.operators.ModWord.{ModWord}
use Rattle.jr_table.specs.Keys.{ClassKey}
use Rattle.jr_table.specs.Decls.{Decl, constructor_decl}
use Rattle.jr_table.specs.Rows.{Row}
use Rattle.jr_table.specs.Prelude.{prelude_rows}
use Rattle.jr_table.specs.Entries.{IsRowOf, number_of}
use Rattle.jr_table.specs.Conditions.{AreRows}
use Rattle.jr_table.specs.DeclaredItems.{Written, Item, class_item, field_item, method_item, ctor_item, DeclaredItem}
use Rattle.jr_table.specs.ProgramRows.{unwritten_row, AreRowsOfDeclarations, AreProgramRows}
use Rattle.jr_table.proofs.RowLaws.{the_number}
use Rattle.jr_build_rows.proofs.Apart.{In, in_right, in_stands}
use Rattle.jr_members.specs.Parts.{Placed}
use Rattle.jr_members.specs.WrittenMembers.{WrittenMember, decl_of_member, row_count, put_member, members_at, written_members}
use Rattle.jr_members.proofs.Walking as walking
use Rattle.jr_members.proofs.UnitsWalked.{contains_in}
use Rattle.jr_code.specs.RunRows.{HasRow}

module _ (declarations : List DeclaredItem) where
  -- the rows behind those of the first declaration
  record Behind (ss : List DeclaredItem) (own : List Row) : Type 0 where
    rest : List Row
    are : AreRowsOfDeclarations declarations ss rest
    inside : (r : Row) → In rest r → In own r

  one_more : (x : Row) (rest own : List Row) → own ≡ x ∷ rest → (r : Row) → In rest r → In own r
  one_more x rest own is r h = subst (λ (z : List Row). In z r) (sym is) (inr h)

  behind_class : (file at : ℕ) (k : ClassKey) (ms : List ModWord) (p : Option Written) (b : Bool) (ss : List DeclaredItem) (own : List Row)
      → AreRowsOfDeclarations declarations (record { file = file; item = class_item (record { at = at; key = k; modifiers = ms; parent = p; has_ctor = b }) } ∷ ss) own → Behind ss own
  behind_class file at k ms p true ss own (r, rest, is, row, more) = record { rest = rest; are = more; inside = one_more r rest own is }
  behind_class file at k ms p false ss own (r, rest, is, row, more) = record { rest = rest; are = more; inside = λ x h. subst (λ (z : List Row). In z x) (sym is) (inr (inr h)) }

  behind : (file : ℕ) (x : Item) (ss : List DeclaredItem) (own : List Row) → AreRowsOfDeclarations declarations (record { file = file; item = x } ∷ ss) own → Behind ss own
  behind file (class_item c) ss own are = behind_class file c.at c.key c.modifiers c.parent c.has_ctor ss own are
  behind file (field_item f) ss own (r, rest, is, row, more) = record { rest = rest; are = more; inside = one_more r rest own is }
  behind file (method_item m) ss own (r, rest, is, row, more) = record { rest = rest; are = more; inside = one_more r rest own is }
  behind file (ctor_item c) ss own (r, rest, is, row, more) = record { rest = rest; are = more; inside = one_more r rest own is }

  abbrev IsUnwritten : ClassKey → Row → Type 0
  IsUnwritten k r = r.decl ≡ constructor_decl (record { class = k; params = [] })

  abbrev class_of : (file at : ℕ) → ClassKey → List ModWord → Option Written → DeclaredItem
  class_of file at k ms p = record { file = file; item = class_item (record { at = at; key = k; modifiers = ms; parent = p; has_ctor = false }) }

  own_unwritten : (ss : List DeclaredItem) (own : List Row) → AreRowsOfDeclarations declarations ss own → (i file at : ℕ) (k : ClassKey) (ms : List ModWord) (p : Option Written)
      → slice_get ss i ≡ Some (class_of file at k ms p) → (r : Row) × In own r × IsUnwritten k r
  own_unwritten [] own are i file at k ms p e = absurd cc
  own_unwritten (s ∷ ss) own are zero file at k ms p e =
      let same : s ≡ class_of file at k ms p = cc in
      by (subst (λ (z : DeclaredItem). AreRowsOfDeclarations declarations (z ∷ ss) own) same are)
    where
      by : AreRowsOfDeclarations declarations (class_of file at k ms p ∷ ss) own → (r : Row) × In own r × IsUnwritten k r
      by (r, rest, is, row, more) =
          let x = unwritten_row declarations (record { at = at; key = k; modifiers = ms; parent = p; has_ctor = false }) in
          (x, subst (λ (z : List Row). In z x) (sym is) (inr (inl refl)), refl)
  own_unwritten (s ∷ ss) own are (suc i) file at k ms p e =
      let b = behind s.file s.item ss own are in
      let found = own_unwritten ss b.rest b.are i file at k ms p e in
      (found.0, b.inside found.0 found.1, found.2)

pub unwritten_stands : (declarations : List DeclaredItem) (rows : List Row) → AreProgramRows declarations rows → (i file at : ℕ) (k : ClassKey) (ms : List ModWord) (p : Option Written) (has : Bool) → has ≡ false
    → slice_get declarations i ≡ Some (record { file = file; item = class_item (record { at = at; key = k; modifiers = ms; parent = p; has_ctor = has }) }) → HasRow rows (constructor_decl (record { class = k; params = [] }))
unwritten_stands declarations rows program i file at k ms p has none e =
    let found = own_unwritten declarations declarations program.0 program.2 i file at k ms p (e ∙ ap (λ (b : Bool). Some (record { file = file; item = class_item (record { at = at; key = k; modifiers = ms; parent = p; has_ctor = b }) })) none) in
    let there = in_stands rows found.0 (subst (λ (z : List Row). In z found.0) (sym program.1) (in_right prelude_rows program.0 found.0 found.1)) in
    (there.0, record { row = found.0; stands = there.1; declares = found.2 })

-- ---- rows of written members stand behind the prelude's

pub in_front : (xs ys : List Row) (n : ℕ) (row : Row) → slice_get xs n ≡ Some row → slice_get (xs ++ ys) n ≡ Some row
in_front [] ys n row e = absurd cc
in_front (x ∷ xs) ys zero row e = e
in_front (x ∷ xs) ys (suc n) row e = in_front xs ys n row e

-- a row of the prelude
unfoldable pub prelude_row : (rows : List Row) → AreRows rows → (n : ℕ) (row : Row) (d : Decl) → slice_get prelude_rows n ≡ Some row → row.decl ≡ d → IsRowOf rows d n
prelude_row rows are n row d e is = record { row = row; stands = subst (λ (z : List Row). slice_get z n ≡ Some row) (sym are.prelude) (in_front prelude_rows are.own n row e); declares = is }

module _ {A : Type 0} (begins : A → ℕ → ℕ) (rows : List Row) where
  put_low : (row : ℕ) (p : Placed A) (rest : List (WrittenMember A)) (w : WrittenMember A) (o : Option Row) → (walking.In rest w → row ≤ w.row) → walking.In (put_member begins o row p rest) w → row ≤ w.row
  put_low row p rest w None later h = absurd h
  put_low row p rest w (Some r) later (inl e) = (let same : row ≡ w.row = ap (λ (z : WrittenMember A). z.row) e in omega (arith, same))
  put_low row p rest w (Some r) later (inr h) = later h

  low : (row : ℕ) (ps : List (Placed A)) (w : WrittenMember A) → walking.In (members_at begins rows row ps) w → row ≤ w.row
  unfolding members_at
  low row [] w h = absurd h
  low row (p ∷ ps) w h = put_low row p (members_at begins rows (row + row_count begins p.part) ps) w (slice_get rows row) (λ i. let more = low (row + row_count begins p.part) ps w i in omega (arith, more)) h

  -- so what has a row among them isn't written
  pub not_prelude : AreRows rows → (units : List _) (w : WrittenMember A) → Contains (written_members begins rows units) w → number_of rows (decl_of_member w.key) ≡ Some w.row
      → (n : ℕ) → n < length prelude_rows → IsRowOf rows (decl_of_member w.key) n → ⊥
  unfolding written_members
  not_prelude are units w has numbered n less i =
      let from = low (length prelude_rows) _ w (contains_in (written_members begins rows units) w has) in
      let e : Some w.row ≡ Some n = sym numbered ∙ the_number rows are (decl_of_member w.key) n i in
      let same : w.row ≡ n = cc in
      omega (arith, from, less, same)
