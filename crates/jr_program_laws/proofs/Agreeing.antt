-- Rows and declarations of one program: classes, whether they are private, what they declare and their
-- superclasses, by the numbers of rows.
use Rattle.std.proofs.Common.{◌≡◌, ℕ, List, [], ◌∷◌, Option, Some, None, true, false, refl, sym, ap, subst, ◌∙◌, inl, inr}
use Rattle.std.specs.Prelude.{◌⊎◌, slice_get, option_and_then}
use Rattle.std.specs.List.{list_any}
use Rattle.jr_table.specs.declared.entries.Entry.{Entry}
use Rattle.jr_table.specs.Keys.{ClassKey}
use Rattle.jr_table.specs.Decls.{Decl, class_decl}
use Rattle.jr_table.specs.Rows.{Row}
use Rattle.jr_table.specs.Prelude.{top_key}
use Rattle.jr_table.specs.Entries.{IsRowOf, number_of, is_private_word, sort_of, name_of, outer_name, top_class, entry_of, entries_of}
use Rattle.jr_table.specs.Conditions.{AreRows, as_outer, as_superclass}
use Rattle.jr_table.specs.Chains.{parent_of, outer_of, GoesUp, IsChain, chain_of}
use Rattle.jr_table.specs.Members.{DeclaresType, IsPrivate, MemberAmong, IsMemberType}
use Rattle.jr_table.specs.Context.{IsSuperclass}
use Rattle.jr_table.specs.DeclaredItems.{DeclaredClass, DeclaredItem}
use Rattle.jr_table.specs.Resolving.{DeclaresClass, IsDeclared, IsTopClass, IsPreludeClass, IsPrivateClass, TopParent, IsParent, member_key}
use Rattle.jr_table.proofs.RowLaws.{number_stands, the_number, entry_stands, row_at, acyclic_rows}
use Rattle.jr_table.proofs.OneEach.{is_class_decl}
use Rattle.jr_build_hierarchy.proofs.ClassNumbers.{has_private, any_private}

-- the classes with rows are those that the declarations declare, and the prelude's
pub record Agree (rows : List Row) (declarations : List DeclaredItem) : Type 0 where
  pub rows_are : AreRows rows
  pub declared_row : (k : ClassKey) (at : DeclaredClass) → DeclaresClass declarations k at → (j : ℕ) × (i : IsRowOf rows (class_decl k) j) × (i.row.modifiers ≡ at.modifiers)
  pub prelude_row : (name : List ℕ) → IsPreludeClass name → (j : ℕ) × IsRowOf rows (class_decl (top_key name)) j
  pub row_class : (k : ClassKey) (j : ℕ) (i : IsRowOf rows (class_decl k) j) → ((at : DeclaredClass) × DeclaresClass declarations k at × (i.row.modifiers ≡ at.modifiers)) ⊎ ((k.outer ≡ None) × IsPreludeClass k.name × (list_any is_private_word i.row.modifiers ≡ false))

-- superclasses of top-level and prelude classes
pub record TopsAgree (rows : List Row) (declarations : List DeclaredItem) : Type 0 where
  pub up : (name : List ℕ) (p : ClassKey) → TopParent declarations name p → IsSuperclass rows (top_key name) p
  pub down : (name : List ℕ) (p : ClassKey) → IsSuperclass rows (top_key name) p → TopParent declarations name p

-- of all classes
pub record ParentsAgree (rows : List Row) (declarations : List DeclaredItem) : Type 0 where
  pub up : (k p : ClassKey) → IsParent declarations k p → IsSuperclass rows k p
  pub down : (k p : ClassKey) → IsSuperclass rows k p → IsParent declarations k p

pub inside : {X : Type 0} (x y : X) → Some x ≡ Some y → x ≡ y
inside x y e = cc

pub then_of : {X Y : Type 0} (f : X → Option Y) (o : Option X) (y : Y) → option_and_then f o ≡ Some y → (x : X) × (o ≡ Some x) × (f x ≡ Some y)
then_of f None y e = absurd cc
then_of f (Some x) y e = (x, refl, e)

class_of_decl : (x y : ClassKey) → class_decl x ≡ class_decl y → x ≡ y
class_of_decl x y e = cc

abbrev pub ClassRow : List Row → ClassKey → ℕ → Type 0
ClassRow rows k j = IsRowOf rows (class_decl k) j

module _ (rows : List Row) (are : AreRows rows) where
  abbrev E : List Entry
  E = entries_of rows

  -- a row has one class, and a class one row
  pub one_key : (j : ℕ) (k l : ClassKey) → ClassRow rows k j → ClassRow rows l j → k ≡ l
  one_key j k l a b = class_of_decl k l (sym a.declares ∙ ap (λ (r : Row). r.decl) (inside a.row b.row (sym a.stands ∙ b.stands)) ∙ b.declares)

  pub one_row : (k : ClassKey) (i j : ℕ) → ClassRow rows k i → ClassRow rows k j → i ≡ j
  one_row k i j a b = are.one_each (class_decl k) i j a b

  entry : (k : ClassKey) (j : ℕ) (i : ClassRow rows k j) → slice_get E j ≡ Some (entry_of rows i.row)
  entry k j i = entry_stands rows j i.row i.stands

  -- superclasses by number
  pub parent_number : (k p : ClassKey) (c m : ℕ) → ClassRow rows k c → IsSuperclass rows k p → ClassRow rows p m → parent_of E c ≡ Some m
  parent_number k p c m i (j, s, up) n =
      let same = one_row k c j i s in
      ap (parent_of E) same ∙ ap (option_and_then (λ (r : Entry). r.parent)) (entry k j s)
      ∙ ap (option_and_then (λ (x : ClassKey). number_of rows (class_decl x))) up ∙ the_number rows are (class_decl p) m n

  pub superclass_row : (k p : ClassKey) → IsSuperclass rows k p → (m : ℕ) × ClassRow rows p m
  superclass_row k p (j, s, up) = are.named j s.row p s.stands (as_superclass up)

  pub number_parent : (k : ClassKey) (c m : ℕ) → ClassRow rows k c → parent_of E c ≡ Some m → (p : ClassKey) × IsSuperclass rows k p × ClassRow rows p m
  number_parent k c m i up =
      let named = then_of (λ (x : ClassKey). number_of rows (class_decl x)) i.row.parent m (sym (ap (option_and_then (λ (r : Entry). r.parent)) (entry k c i)) ∙ up) in
      (named.0, (c, i, named.1), number_stands rows (class_decl named.0) m named.2)

  -- classes around by number
  outer_is : (k : ClassKey) (c : ℕ) (i : ClassRow rows k c) → outer_of E c ≡ option_and_then (λ (name : List ℕ). number_of rows (top_class name)) k.outer
  outer_is k c i = ap (option_and_then (λ (r : Entry). r.outer)) (entry k c i) ∙ ap (λ (d : Decl). option_and_then (λ (name : List ℕ). number_of rows (top_class name)) (outer_name d)) i.declares

  pub no_outer : (k : ClassKey) (c : ℕ) → ClassRow rows k c → k.outer ≡ None → outer_of E c ≡ None
  no_outer k c i none = outer_is k c i ∙ ap (option_and_then (λ (name : List ℕ). number_of rows (top_class name))) none

  pub outer_row : (k : ClassKey) (c : ℕ) (o : List ℕ) → ClassRow rows k c → k.outer ≡ Some o → (e : ℕ) × ClassRow rows (top_key o) e × (outer_of E c ≡ Some e)
  outer_row k c o i some =
      let there = are.named c i.row (top_key o) i.stands (as_outer o (ap outer_name i.declares ∙ some) refl) in
      (there.0, there.1, outer_is k c i ∙ ap (option_and_then (λ (name : List ℕ). number_of rows (top_class name))) some ∙ the_number rows are (class_decl (top_key o)) there.0 there.1)

  -- member classes by number
  pub declares_type : (of name : List ℕ) (c j : ℕ) → ClassRow rows (top_key of) c → ClassRow rows (record { outer = Some of; name = name }) j → DeclaresType E name c j
  declares_type of name c j i q = record {
    row = entry_of rows q.row;
    stands = entry (record { outer = Some of; name = name }) j q;
    type = ap sort_of q.declares;
    outer = ap (λ (d : Decl). option_and_then (λ (n : List ℕ). number_of rows (top_class n)) (outer_name d)) q.declares ∙ the_number rows are (class_decl (top_key of)) c i;
    named = ap name_of q.declares;
  }

  pub type_declared : (k : ClassKey) (name : List ℕ) (c j : ℕ) → ClassRow rows k c → DeclaresType E name c j → (k.outer ≡ None) × ClassRow rows (record { outer = Some k.name; name = name }) j
  type_declared k name c j i d =
      let r = row_at rows j d.row d.stands in
      let q = is_class_decl r.row.decl (ap (λ (e : Entry). e.sort) (sym r.is) ∙ d.type) in
      let around = then_of (λ (n : List ℕ). number_of rows (top_class n)) (outer_name r.row.decl) c (ap (λ (e : Entry). e.outer) (sym r.is) ∙ d.outer) in
      let of = one_key c k (top_key around.0) i (number_stands rows (top_class around.0) c around.2) in
      let outer : q.0.outer ≡ Some k.name = sym (ap outer_name q.1) ∙ around.1 ∙ ap (λ (x : ClassKey). Some x.name) (sym of) in
      let named : q.0.name ≡ name = sym (ap name_of q.1) ∙ ap (λ (e : Entry). e.name) (sym r.is) ∙ d.named in
      (ap (λ (x : ClassKey). x.outer) of, record { row = r.row; stands = r.stands; declares = q.1 ∙ (λ n. class_decl (record { outer = outer n; name = named n })) })

  -- the chain of a class
  pub own_member : (name : List ℕ) (c j : ℕ) → DeclaresType E name c j → IsMemberType E name c j
  own_member name c j d = record { chain = chain_of E c; goes_up = acyclic_rows rows are c; among = by (chain_of E c) (acyclic_rows rows are c) }
    where
      by : (cs : List ℕ) → IsChain E c cs → MemberAmong E (DeclaresType E name) cs j
      by [] h = absurd h
      by (d' ∷ ds) h = inl (subst (λ (n : ℕ). DeclaresType E name n j) h.0 d)

  pub inherited_member : (name : List ℕ) (c m j : ℕ) → parent_of E c ≡ Some m → ((i : ℕ) → DeclaresType E name c i → ⊥) → (IsPrivate E j → ⊥) → IsMemberType E name m j → IsMemberType E name c j
  inherited_member name c m j up none shown member = record {
    chain = c ∷ member.chain;
    goes_up = (refl, subst (λ (o : Option ℕ). GoesUp o member.chain (λ p. IsChain E p member.chain)) (sym up) member.goes_up);
    among = inr (none, member.among, shown);
  }

module _ (rows : List Row) (declarations : List DeclaredItem) (a : Agree rows declarations) where
  pub top_row : (name : List ℕ) → IsTopClass declarations name → (j : ℕ) × ClassRow rows (top_key name) j
  top_row name (inl (at, d)) = let r = a.declared_row (top_key name) at d in (r.0, r.1)
  top_row name (inr is) = a.prelude_row name is

  pub row_top : (name : List ℕ) (j : ℕ) → ClassRow rows (top_key name) j → IsTopClass declarations name
  row_top name j i = elim (a.row_class (top_key name) j i) [
    | inl d ↦ inl (d.0, d.1)
    | inr p ↦ inr p.1
  ]

  pub inner_row : (k : ClassKey) → IsDeclared declarations k → (j : ℕ) × ClassRow rows k j
  inner_row k (at, d) = let r = a.declared_row k at d in (r.0, r.1)

  pub row_inner : (of name : List ℕ) (j : ℕ) → ClassRow rows (record { outer = Some of; name = name }) j → IsDeclared declarations (member_key declarations of name)
  row_inner of name j i = elim (a.row_class (record { outer = Some of; name = name }) j i) [
    | inl d ↦ (d.0, d.1)
    | inr p ↦ (let never = p.0 in absurd cc)
  ]

  -- private classes
  pub private_row : (k : ClassKey) (j : ℕ) → ClassRow rows k j → IsPrivateClass declarations k → IsPrivate (entries_of rows) j
  private_row k j i (at, d, word) =
      let r = a.declared_row k at d in
      let same = one_row rows a.rows_are k j r.0 i r.1 in
      let row : i.row ≡ r.1.row = inside i.row r.1.row (sym i.stands ∙ ap (slice_get rows) same ∙ r.1.stands) in
      record {
        row = entry_of rows i.row;
        stands = entry_stands rows j i.row i.stands;
        private = ap (λ (x : Row). list_any is_private_word x.modifiers) row ∙ ap (list_any is_private_word) r.2 ∙ any_private at.modifiers word;
      }

  pub row_private : (k : ClassKey) (j : ℕ) → ClassRow rows k j → IsPrivate (entries_of rows) j → IsPrivateClass declarations k
  row_private k j i p =
      let e : entry_of rows i.row ≡ p.row = inside (entry_of rows i.row) p.row (sym (entry_stands rows j i.row i.stands) ∙ p.stands) in
      let is : list_any is_private_word i.row.modifiers ≡ true = ap (λ (x : Entry). x.is_private) e ∙ p.private in
      elim (a.row_class k j i) [
        | inl (at, d, words) ↦ (at, d, has_private at.modifiers (ap (list_any is_private_word) (sym words) ∙ is))
        | inr q ↦ (let never = sym is ∙ q.2 in absurd cc)
      ]
