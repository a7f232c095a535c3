-- The rows of a program's declarations: each declaration has its row, and each class that has a row is declared or
-- the prelude's.
use Rattle.std.proofs.Common.{◌≡◌, ℕ, zero, suc, List, [], ◌∷◌, ◌++◌, Option, Some, None, Bool, true, false, refl, sym, ap, subst, ◌∙◌, inl, inr}
use Rattle.std.specs.Prelude.{◌⊎◌, slice_get, codes}
use Rattle.std.specs.List.{list_any}
use Rattle.jr_ast.specs.declared.operators.ModWord.{ModWord}
use Rattle.jr_table.specs.Keys.{ClassKey}
use Rattle.jr_table.specs.Decls.{class_decl}
use Rattle.jr_table.specs.Rows.{Row}
use Rattle.jr_table.specs.Prelude.{prelude_rows, top_key, object_key}
use Rattle.jr_table.specs.Entries.{is_private_word}
use Rattle.jr_table.specs.DeclaredItems.{Written, DeclaredClass, Item, class_item, field_item, method_item, ctor_item, DeclaredItem}
use Rattle.jr_table.specs.Resolving.{IsPreludeClass, IsPreludeSubclass}
use Rattle.jr_table.specs.ProgramRows.{IsClassRow, IsFieldRow, IsMethodRow, IsCtorRow, unwritten_row, AreRowsOfDeclarations, AreProgramRows}
use Rattle.jr_build_rows.proofs.Apart.{In, in_left, in_right, in_either}

pub same_row : (x y : Row) → In (x ∷ []) y → x ≡ y
same_row x y (inl e) = e
same_row x y (inr h) = absurd h

pub class_of_decl : (x y : ClassKey) → class_decl x ≡ class_decl y → x ≡ y
class_of_decl x y e = cc

module _ (declarations : List DeclaredItem) where
  -- an item has its row among these
  abbrev pub Gives : Item → List Row → Type 0
  Gives (class_item c) own = (r : Row) × In own r × IsClassRow declarations c r
  Gives (field_item f) own = (r : Row) × In own r × IsFieldRow declarations f r
  Gives (method_item m) own = (r : Row) × In own r × IsMethodRow declarations m r
  Gives (ctor_item c) own = (r : Row) × In own r × IsCtorRow declarations c r

  -- a row of a class is that of this item
  abbrev pub ClassFrom : Item → Row → ClassKey → Type 0
  ClassFrom x r k = (c : DeclaredClass) × (x ≡ class_item c) × (c.key ≡ k) × IsClassRow declarations c r

  -- the rows of the first declaration, and those of the others
  pub record Split (x : Item) (ss : List DeclaredItem) (own : List Row) : Type 0 where
    pub front : List Row
    pub rest : List Row
    pub is : own ≡ front ++ rest
    pub others : AreRowsOfDeclarations declarations ss rest
    pub gives : Gives x front
    pub only : (r : Row) (k : ClassKey) → In front r → r.decl ≡ class_decl k → ClassFrom x r k

  class_only : (c : DeclaredClass) (s r : Row) (k : ClassKey) → IsClassRow declarations c s → In (s ∷ []) r → r.decl ≡ class_decl k → ClassFrom (class_item c) r k
  class_only c s r k is h e =
      let row = subst (IsClassRow declarations c) (same_row s r h) is in
      (c, refl, class_of_decl c.key k (sym row.decl ∙ e), row)

  two_only : (c : DeclaredClass) (s r : Row) (k : ClassKey) → IsClassRow declarations c s → In (s ∷ unwritten_row declarations c ∷ []) r → r.decl ≡ class_decl k → ClassFrom (class_item c) r k
  two_only c s r k is (inl h) e = class_only c s r k is (inl h) e
  two_only c s r k is (inr h) e = let f = ap (λ (z : Row). z.decl) (same_row (unwritten_row declarations c) r h) ∙ e in absurd cc

  split_class : (file at : ℕ) (k : ClassKey) (ms : List ModWord) (p : Option Written) (b : Bool) (ss : List DeclaredItem) (own : List Row)
      → AreRowsOfDeclarations declarations (record { file = file; item = class_item (record { at = at; key = k; modifiers = ms; parent = p; has_ctor = b }) } ∷ ss) own
      → Split (class_item (record { at = at; key = k; modifiers = ms; parent = p; has_ctor = b })) ss own
  split_class file at k ms p true ss own (r, rest, is, row, more) =
      record { front = r ∷ []; rest = rest; is = is; others = more; gives = (r, inl refl, row); only = λ s j h e. class_only _ r s j row h e }
  split_class file at k ms p false ss own (r, rest, is, row, more) =
      record { front = r ∷ unwritten_row declarations (record { at = at; key = k; modifiers = ms; parent = p; has_ctor = false }) ∷ []; rest = rest; is = is; others = more; gives = (r, inl refl, row); only = λ s j h e. two_only _ r s j row h e }

  split : (file : ℕ) (x : Item) (ss : List DeclaredItem) (own : List Row) → AreRowsOfDeclarations declarations (record { file = file; item = x } ∷ ss) own → Split x ss own
  split file (class_item c) ss own are = split_class file c.at c.key c.modifiers c.parent c.has_ctor ss own are
  split file (field_item f) ss own (r, rest, is, row, more) = record {
    front = r ∷ [];
    rest = rest;
    is = is;
    others = more;
    gives = (r, inl refl, row);
    only = λ s j h e. (let z = sym (ap (λ (y : Row). y.decl) row.is) ∙ ap (λ (y : Row). y.decl) (same_row r s h) ∙ e in absurd cc);
  }
  split file (method_item m) ss own (r, rest, is, row, more) = record {
    front = r ∷ [];
    rest = rest;
    is = is;
    others = more;
    gives = (r, inl refl, row);
    only = λ s j h e. (let z = sym (ap (λ (y : Row). y.decl) row.is) ∙ ap (λ (y : Row). y.decl) (same_row r s h) ∙ e in absurd cc);
  }
  split file (ctor_item c) ss own (r, rest, is, row, more) = record {
    front = r ∷ [];
    rest = rest;
    is = is;
    others = more;
    gives = (r, inl refl, row);
    only = λ s j h e. (let z = sym (ap (λ (y : Row). y.decl) row.is) ∙ ap (λ (y : Row). y.decl) (same_row r s h) ∙ e in absurd cc);
  }

  wider : (x : Item) (front rest : List Row) → Gives x rest → Gives x (front ++ rest)
  wider (class_item c) front rest (r, h, is) = (r, in_right front rest r h, is)
  wider (field_item f) front rest (r, h, is) = (r, in_right front rest r h, is)
  wider (method_item m) front rest (r, h, is) = (r, in_right front rest r h, is)
  wider (ctor_item c) front rest (r, h, is) = (r, in_right front rest r h, is)

  longer : (x : Item) (front rest : List Row) → Gives x front → Gives x (front ++ rest)
  longer (class_item c) front rest (r, h, is) = (r, in_left front rest r h, is)
  longer (field_item f) front rest (r, h, is) = (r, in_left front rest r h, is)
  longer (method_item m) front rest (r, h, is) = (r, in_left front rest r h, is)
  longer (ctor_item c) front rest (r, h, is) = (r, in_left front rest r h, is)

  own_gives : (ss : List DeclaredItem) (own : List Row) → AreRowsOfDeclarations declarations ss own → (i file : ℕ) (x : Item) → slice_get ss i ≡ Some (record { file = file; item = x }) → Gives x own
  own_gives [] own are i file x e = absurd cc
  own_gives (s ∷ ss) own are zero file x e =
      let same : s ≡ record { file = file; item = x } = cc in
      let p = split s.file s.item ss own are in
      subst (λ (z : Item). Gives z own) (ap (λ (z : DeclaredItem). z.item) same) (subst (Gives s.item) (sym p.is) (longer s.item p.front p.rest p.gives))
  own_gives (s ∷ ss) own are (suc i) file x e =
      let p = split s.file s.item ss own are in
      subst (Gives x) (sym p.is) (wider x p.front p.rest (own_gives ss p.rest p.others i file x e))

  -- the declaration that declares a class with a row
  abbrev pub Declared : List DeclaredItem → Row → ClassKey → Type 0
  Declared ss r k = (i : ℕ) × (file : ℕ) × (c : DeclaredClass) × (slice_get ss i ≡ Some (record { file = file; item = class_item c })) × (c.key ≡ k) × IsClassRow declarations c r

  own_declared : (ss : List DeclaredItem) (own : List Row) → AreRowsOfDeclarations declarations ss own → (r : Row) (k : ClassKey) → In own r → r.decl ≡ class_decl k → Declared ss r k
  own_declared [] own are r k h e = absurd (subst (λ (rs : List Row). In rs r) are h)
  own_declared (s ∷ ss) own are r k h e =
      let p = split s.file s.item ss own are in
      by p (own_declared ss p.rest p.others r k) (in_either p.front p.rest r (subst (λ (rs : List Row). In rs r) p.is h))
    where
      by : (p : Split s.item ss own) → (In p.rest r → r.decl ≡ class_decl k → Declared ss r k) → In p.front r ⊎ In p.rest r → Declared (s ∷ ss) r k
      by p go (inl here) = let c = p.only r k here e in (0, s.file, c.0, (λ i. Some (record { file = s.file; item = c.1 i })), c.2, c.3)
      by p go (inr there) = let c = go there e in (suc c.0, c.1, c.2, c.3, c.4, c.5)

-- the rows of the prelude's classes
pub record PreludeRow (r : Row) (k : ClassKey) : Type 0 where
  pub top : k.outer ≡ None
  pub is : IsPreludeClass k.name
  pub shown : list_any is_private_word r.modifiers ≡ false
  pub parent : (p : ClassKey) → r.parent ≡ Some p → IsPreludeSubclass k.name × (p ≡ object_key)

some_is : (x y : ClassKey) → Some x ≡ Some y → x ≡ y
some_is x y e = cc

prelude_of : (name : List ℕ) (k : ClassKey) → class_decl (top_key name) ≡ class_decl k → top_key name ≡ k
prelude_of name k e = class_of_decl (top_key name) k e

object_row : (r : Row) (k : ClassKey) → top_key (codes "Object") ≡ k → r.parent ≡ None → list_any is_private_word r.modifiers ≡ false → PreludeRow r k
object_row r k e none shown = record {
  top = sym (ap (λ (z : ClassKey). z.outer) e);
  is = inl (sym (ap (λ (z : ClassKey). z.name) e));
  shown = shown;
  parent = λ p q. (let z = sym none ∙ q in absurd cc);
}

sub_row : (r : Row) (name : List ℕ) (k : ClassKey) → top_key name ≡ k → IsPreludeSubclass name → r.parent ≡ Some object_key → list_any is_private_word r.modifiers ≡ false → PreludeRow r k
sub_row r name k e sub up shown = record {
  top = sym (ap (λ (z : ClassKey). z.outer) e);
  is = inr (subst IsPreludeSubclass (ap (λ (z : ClassKey). z.name) e) sub);
  shown = shown;
  parent = λ p q. (subst IsPreludeSubclass (ap (λ (z : ClassKey). z.name) e) sub, sym (some_is object_key p (sym up ∙ q)));
}

-- one by one
pub prelude_class : (r : Row) (k : ClassKey) → In prelude_rows r → r.decl ≡ class_decl k → PreludeRow r k
prelude_class r k (inl e) is = subst (λ (z : Row). PreludeRow z k) e (object_row _ k (prelude_of _ k (ap (λ (z : Row). z.decl) e ∙ is)) refl refl)
prelude_class r k (inr (inl e)) is = let z = ap (λ (y : Row). y.decl) e ∙ is in absurd cc
prelude_class r k (inr (inr (inl e))) is = subst (λ (z : Row). PreludeRow z k) e (sub_row _ (codes "String") k (prelude_of _ k (ap (λ (z : Row). z.decl) e ∙ is)) (inl refl) refl refl)
prelude_class r k (inr (inr (inr (inl e)))) is = subst (λ (z : Row). PreludeRow z k) e (sub_row _ (codes "Class") k (prelude_of _ k (ap (λ (z : Row). z.decl) e ∙ is)) (inr (inl refl)) refl refl)
prelude_class r k (inr (inr (inr (inr (inl e))))) is = subst (λ (z : Row). PreludeRow z k) e (sub_row _ (codes "Thread") k (prelude_of _ k (ap (λ (z : Row). z.decl) e ∙ is)) (inr (inr refl)) refl refl)
prelude_class r k (inr (inr (inr (inr (inr (inl e)))))) is = let z = ap (λ (y : Row). y.decl) e ∙ is in absurd cc
prelude_class r k (inr (inr (inr (inr (inr (inr (inl e))))))) is = let z = ap (λ (y : Row). y.decl) e ∙ is in absurd cc
prelude_class r k (inr (inr (inr (inr (inr (inr (inr (inl e)))))))) is = let z = ap (λ (y : Row). y.decl) e ∙ is in absurd cc
prelude_class r k (inr (inr (inr (inr (inr (inr (inr (inr z)))))))) is = absurd z

-- a class of the prelude has a row there
pub prelude_has : (name : List ℕ) → IsPreludeClass name → (r : Row) × In prelude_rows r × (r.decl ≡ class_decl (top_key name))
prelude_has name (inl e) = (_, inl refl, ap (λ (n : List ℕ). class_decl (top_key n)) (sym e))
prelude_has name (inr (inl e)) = (_, inr (inr (inl refl)), ap (λ (n : List ℕ). class_decl (top_key n)) (sym e))
prelude_has name (inr (inr (inl e))) = (_, inr (inr (inr (inl refl))), ap (λ (n : List ℕ). class_decl (top_key n)) (sym e))
prelude_has name (inr (inr (inr e))) = (_, inr (inr (inr (inr (inl refl)))), ap (λ (n : List ℕ). class_decl (top_key n)) (sym e))

-- and its superclass
pub prelude_sub : (name : List ℕ) → IsPreludeSubclass name → (r : Row) × In prelude_rows r × (r.decl ≡ class_decl (top_key name)) × (r.parent ≡ Some object_key)
prelude_sub name (inl e) = (_, inr (inr (inl refl)), ap (λ (n : List ℕ). class_decl (top_key n)) (sym e), refl)
prelude_sub name (inr (inl e)) = (_, inr (inr (inr (inl refl))), ap (λ (n : List ℕ). class_decl (top_key n)) (sym e), refl)
prelude_sub name (inr (inr e)) = (_, inr (inr (inr (inr (inl refl)))), ap (λ (n : List ℕ). class_decl (top_key n)) (sym e), refl)

-- a class with a row is the prelude's or declared
module _ (declarations : List DeclaredItem) (rows : List Row) (program : AreProgramRows declarations rows) where
  pub gives : (i file : ℕ) (x : Item) → slice_get declarations i ≡ Some (record { file = file; item = x }) → Gives declarations x rows
  gives i file x e = subst (Gives declarations x) (sym program.1) (wider declarations x prelude_rows program.0 (own_gives declarations declarations program.0 program.2 i file x e))

  pub class_there : (r : Row) (k : ClassKey) → In rows r → r.decl ≡ class_decl k → PreludeRow r k ⊎ Declared declarations declarations r k
  class_there r k h e = elim (in_either prelude_rows program.0 r (subst (λ (rs : List Row). In rs r) program.1 h)) [
    | inl pre ↦ inl (prelude_class r k pre e)
    | inr own ↦ inr (own_declared declarations declarations program.0 program.2 r k own e)
  ]

  pub prelude_there : (name : List ℕ) → IsPreludeClass name → (r : Row) × In rows r × (r.decl ≡ class_decl (top_key name))
  prelude_there name is = let p = prelude_has name is in (p.0, subst (λ (rs : List Row). In rs p.0) (sym program.1) (in_left prelude_rows program.0 p.0 p.1), p.2)

  pub prelude_sub_there : (name : List ℕ) → IsPreludeSubclass name → (r : Row) × In rows r × (r.decl ≡ class_decl (top_key name)) × (r.parent ≡ Some object_key)
  prelude_sub_there name is = let p = prelude_sub name is in (p.0, subst (λ (rs : List Row). In rs p.0) (sym program.1) (in_left prelude_rows program.0 p.0 p.1), p.2, p.3)
