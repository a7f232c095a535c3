-- Where the rows of classes stand, so that each class is declared once.
use Rattle.std.proofs.Common.{◌≡◌, ℕ, zero, suc, ◌+◌, ◌<◌, List, [], ◌∷◌, ◌++◌, length, drop, Option, Some, Bool, true, false, refl, sym, ap, subst, ◌∙◌, inl, inr, arith}
use Rattle.std.specs.Prelude.{slice_get}
use Rattle.jr_table.specs.Keys.{ClassKey}
use Rattle.jr_table.specs.Decls.{class_decl}
use Rattle.jr_table.specs.Rows.{Row}
use Rattle.jr_table.specs.Entries.{IsRowOf}
use Rattle.jr_table.specs.Conditions.{AreRows}
use Rattle.jr_table.specs.Prelude.{prelude_rows, top_key}
use Rattle.jr_table.specs.DeclaredItems.{Written, DeclaredClass, Item, class_item, field_item, method_item, ctor_item, DeclaredItem}
use Rattle.jr_table.specs.Resolving.{DeclaresClass}
use Rattle.jr_table.specs.ProgramRows.{AreRowsOfDeclarations, AreProgramRows}
use Rattle.jr_members.proofs.Meaning.{OneClass, Unreserved}

inside : {X : Type 0} (x y : X) → Some x ≡ Some y → x ≡ y
inside x y e = cc

-- what a list has from a place on
pub next_is : {X : Type 0} (xs : List X) (i : ℕ) (x : X) (rest : List X) → drop i xs ≡ x ∷ rest → (slice_get xs i ≡ Some x) × (drop (suc i) xs ≡ rest)
next_is [] zero x rest e = absurd cc
next_is [] (suc i) x rest e = absurd cc
next_is (y ∷ ys) zero x rest e = (cc, cc)
next_is (y ∷ ys) (suc i) x rest e = next_is ys i x rest e

pub get_joined : {X : Type 0} (xs ys : List X) (i : ℕ) → slice_get (xs ++ ys) (length xs + i) ≡ slice_get ys i
get_joined [] ys i = let e : 0 + i ≡ i = omega arith in ap (slice_get ys) e
get_joined (x ∷ xs) ys i = let e : suc (length xs) + i ≡ suc (length xs + i) = omega arith in ap (slice_get (x ∷ (xs ++ ys))) e ∙ get_joined xs ys i

-- how many rows an item has, and all that stand before the one of a number
abbrev class_count : Bool → ℕ
class_count true = 1
class_count false = 2

abbrev count : Item → ℕ
count (class_item c) = class_count c.has_ctor
count (field_item f) = 1
count (method_item m) = 1
count (ctor_item c) = 1

abbrev before : List DeclaredItem → ℕ → ℕ
before [] i = 0
before (s ∷ ss) zero = 0
before (s ∷ ss) (suc i) = count s.item + before ss i

some_count : (x : Item) → 0 < count x
some_count (class_item c) = by c.has_ctor
  where
    by : (b : Bool) → 0 < class_count b
    by true = omega arith
    by false = omega arith
some_count (field_item f) = omega arith
some_count (method_item m) = omega arith
some_count (ctor_item c) = omega arith

apart : (ss : List DeclaredItem) (i j : ℕ) → i < length ss → j < length ss → before ss i ≡ before ss j → i ≡ j
apart [] i j l m e = absurd (omega (arith, l))
apart (s ∷ ss) zero zero l m e = refl
apart (s ∷ ss) zero (suc j) l m e = let c = some_count s.item in absurd (omega (arith, c, e))
apart (s ∷ ss) (suc i) zero l m e = let c = some_count s.item in absurd (omega (arith, c, e))
apart (s ∷ ss) (suc i) (suc j) l m e = ap suc (apart ss i j (omega (arith, l)) (omega (arith, m)) (omega (arith, e)))

module _ (declarations : List DeclaredItem) where
  -- the rows behind an item's, and that of a class
  record Split (x : Item) (ss : List DeclaredItem) (rows : List Row) : Type 0 where
    own : List Row
    rest : List Row
    joins : rows ≡ own ++ rest
    counts : length own ≡ count x
    are : AreRowsOfDeclarations declarations ss rest
    class : (c : DeclaredClass) → x ≡ class_item c → (r : Row) × (slice_get own 0 ≡ Some r) × (r.decl ≡ class_decl c.key)

  same_declaration : (c d : DeclaredClass) → class_item c ≡ class_item d → c ≡ d
  same_declaration c d e = cc

  split_class : (file at : ℕ) (key : ClassKey) (modifiers : List _) (parent : Option Written) (has_ctor : Bool) (ss : List DeclaredItem) (rows : List Row)
      → AreRowsOfDeclarations declarations (record { file = file; item = class_item (record { at = at; key = key; modifiers = modifiers; parent = parent; has_ctor = has_ctor }) } ∷ ss) rows
      → Split (class_item (record { at = at; key = key; modifiers = modifiers; parent = parent; has_ctor = has_ctor })) ss rows
  split_class file at key modifiers parent true ss rows (r, rest, is, row, are) =
      record { own = r ∷ []; rest = rest; joins = is; counts = refl; are = are; class = λ c e. (r, refl, row.decl ∙ ap (λ (x : DeclaredClass). class_decl x.key) (same_declaration _ c e)) }
  split_class file at key modifiers parent false ss rows (r, rest, is, row, are) =
      record { own = _ ∷ _ ∷ []; rest = rest; joins = is; counts = refl; are = are; class = λ c e. (r, refl, row.decl ∙ ap (λ (x : DeclaredClass). class_decl x.key) (same_declaration _ c e)) }

  split : (file : ℕ) (x : Item) (ss : List DeclaredItem) (rows : List Row) → AreRowsOfDeclarations declarations (record { file = file; item = x } ∷ ss) rows → Split x ss rows
  split file (class_item c) ss rows are = split_class file c.at c.key c.modifiers c.parent c.has_ctor ss rows are
  split file (field_item f) ss rows (r, rest, is, row, are) = record { own = r ∷ []; rest = rest; joins = is; counts = refl; are = are; class = λ c e. absurd cc }
  split file (method_item m) ss rows (r, rest, is, row, are) = record { own = r ∷ []; rest = rest; joins = is; counts = refl; are = are; class = λ c e. absurd cc }
  split file (ctor_item k) ss rows (r, rest, is, row, are) = record { own = r ∷ []; rest = rest; joins = is; counts = refl; are = are; class = λ c e. absurd cc }

  -- the row of a class
  class_row : (ss : List DeclaredItem) (rows : List Row) → AreRowsOfDeclarations declarations ss rows → (i file : ℕ) (c : DeclaredClass) → slice_get ss i ≡ Some (record { file = file; item = class_item c })
      → (r : Row) × (slice_get rows (before ss i) ≡ Some r) × (r.decl ≡ class_decl c.key)
  class_row [] rows are i file c e = absurd cc
  class_row (s ∷ ss) rows are zero file c e =
      let p = split s.file s.item ss rows are in
      let q = p.class c (ap (λ (x : DeclaredItem). x.item) (inside s (record { file = file; item = class_item c }) e)) in
      (q.0, ap (λ xs. slice_get xs 0) p.joins ∙ first p.own p.rest q.0 q.1, q.2)
    where
      first : (xs ys : List Row) (x : Row) → slice_get xs 0 ≡ Some x → slice_get (xs ++ ys) 0 ≡ Some x
      first [] ys x e = absurd cc
      first (y ∷ xs) ys x e = e
  class_row (s ∷ ss) rows are (suc i) file c e =
      let p = split s.file s.item ss rows are in
      let q = class_row ss p.rest p.are i file c e in
      (q.0, (λ j. slice_get (p.joins j) (sym p.counts j + before ss i)) ∙ get_joined p.own p.rest (before ss i) ∙ q.1, q.2)

module _ (declarations : List DeclaredItem) (rows : List Row) (are : AreRows rows) (program : AreProgramRows declarations rows) where
  abbrev own : List Row
  own = program.0

  own_row : (i file : ℕ) (c : DeclaredClass) → slice_get declarations i ≡ Some (record { file = file; item = class_item c }) → IsRowOf rows (class_decl c.key) (8 + before declarations i)
  own_row i file c e =
      let q = class_row declarations declarations own program.2 i file c e in
      record { row = q.0; stands = ap (λ xs. slice_get xs (8 + before declarations i)) program.1 ∙ get_joined prelude_rows own (before declarations i) ∙ q.1; declares = q.2 }

  within : (ss : List DeclaredItem) (i : ℕ) (s : DeclaredItem) → slice_get ss i ≡ Some s → i < length ss
  within [] i s e = absurd cc
  within (x ∷ ss) zero s e = omega arith
  within (x ∷ ss) (suc i) s e = let l = within ss i s e in omega (arith, l)

  pub once : OneClass declarations
  once k c d a b =
      let i = subst (λ k. IsRowOf rows (class_decl k) (8 + before declarations a.number)) a.is (own_row a.number a.file c a.stands) in
      let j = subst (λ k. IsRowOf rows (class_decl k) (8 + before declarations b.number)) b.is (own_row b.number b.file d b.stands) in
      let e = are.one_each (class_decl k) (8 + before declarations a.number) (8 + before declarations b.number) i j in
      let same : a.number ≡ b.number = apart declarations a.number b.number (within declarations a.number _ a.stands) (within declarations b.number _ b.stands) (omega (arith, e)) in
      same_declaration declarations c d (ap (λ (x : DeclaredItem). x.item) (inside (record { file = a.file; item = class_item c }) (record { file = b.file; item = class_item d })
      (sym a.stands ∙ ap (slice_get declarations) same ∙ b.stands)))

  -- a class of the prelude
  reserved : (n : ℕ) (name : List ℕ) (r : Row) → n < 8 → slice_get prelude_rows n ≡ Some r → r.decl ≡ class_decl (top_key name)
      → (c : DeclaredClass) → DeclaresClass declarations (top_key name) c → ⊥
  reserved n name r small e is c d =
      let i = subst (λ k. IsRowOf rows (class_decl k) (8 + before declarations d.number)) d.is (own_row d.number d.file c d.stands) in
      let j : IsRowOf rows (class_decl (top_key name)) n = record { row = r; stands = ap (λ xs. slice_get xs n) program.1 ∙ early prelude_rows own n r e; declares = is } in
      let f = are.one_each (class_decl (top_key name)) n (8 + before declarations d.number) j i in
      absurd (omega (arith, small, f))
    where
      early : (xs ys : List Row) (n : ℕ) (r : Row) → slice_get xs n ≡ Some r → slice_get (xs ++ ys) n ≡ Some r
      early [] ys n r e = absurd cc
      early (x ∷ xs) ys zero r e = e
      early (x ∷ xs) ys (suc n) r e = early xs ys n r e

  pub not_reserved : Unreserved declarations
  not_reserved name c d (inl e) = reserved 2 name _ (omega arith) refl (ap (λ n. class_decl (top_key n)) (sym e)) c d
  not_reserved name c d (inr (inl e)) = reserved 3 name _ (omega arith) refl (ap (λ n. class_decl (top_key n)) (sym e)) c d
  not_reserved name c d (inr (inr e)) = reserved 4 name _ (omega arith) refl (ap (λ n. class_decl (top_key n)) (sym e)) c d
