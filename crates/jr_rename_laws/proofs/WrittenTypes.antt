-- A written type as lookup finds it by the rows, seen from the body of a class; and what the declarations
-- say that it means.
use Rattle.std.proofs.Common.{◌≡◌, ℕ, List, [], Some, None, false, sym, ap, subst, ◌∙◌}
use Rattle.jr_table.specs.declared.answers.Answer.TheVariants as number
use Rattle.jr_table.specs.Keys.{ClassKey, Ty, class}
use Rattle.jr_table.specs.Keys as keys
use Rattle.jr_table.specs.Decls.{class_decl}
use Rattle.jr_table.specs.Rows.{Row}
use Rattle.jr_table.specs.Prelude.{top_key}
use Rattle.jr_table.specs.Entries.{entries_of}
use Rattle.jr_table.specs.Members.{IsMemberType}
use Rattle.jr_table.specs.TypeNames.{FindsType}
use Rattle.jr_table.specs.Found.{one}
use Rattle.jr_table.specs.Scope.{Scope}
use Rattle.jr_table.specs.Lookup.{FindsTypeNamed, FindsTypeOf}
use Rattle.jr_table.specs.Context.{NamesClass}
use Rattle.jr_table.specs.DeclaredItems.{Written, int, boolean, named, DeclaredItem}
use Rattle.jr_table.specs.Resolving as meaning
use Rattle.jr_table.specs.Resolving.{MemberNames, HasMemberType, Means}
use Rattle.jr_table.proofs.LookupLaws.{one_answers}
use Rattle.jr_table.proofs.FieldLaws.{one_type_of}
use Rattle.jr_table.proofs.OneEach.{class_stands}
use Rattle.jr_program_laws.proofs.Agreeing.{Agree, TopsAgree, ParentsAgree, ClassRow, one_key}
use Rattle.jr_program_laws.proofs.MemberTypesFound.{type_found, has_found, found_type, found_has, in_top_found, RowWith}

-- in the body of a class
abbrev pub place : ClassKey → Scope
place c = record { class = c; is_static = false; locals = [] }

abbrev pub WrittenAs : List Row → ClassKey → Written → Ty → Type 0
WrittenAs rows c int t = t ≡ keys.int
WrittenAs rows c boolean t = t ≡ keys.boolean
WrittenAs rows c (named at o name) t = (k : ClassKey) × NamesClass rows (place c) o name k × (t ≡ class k)

class_of_decl : (x y : ClassKey) → one (class_decl x) ≡ one (class_decl y) → x ≡ y
class_of_decl x y e = cc

module _ (rows : List Row) (declarations : List DeclaredItem) (a : Agree rows declarations) where
  -- one class is found
  named_once : (s : Scope) (name : List ℕ) (x y : ClassKey) → FindsTypeNamed rows s name (one (class_decl x)) → FindsTypeNamed rows s name (one (class_decl y)) → x ≡ y
  named_once s name x y g h = class_of_decl x y ((one_answers rows a.rows_are).type_named s name (one (class_decl x)) (one (class_decl y)) g h)

  -- what is found by numbers is found by keys
  by_number : (k : ClassKey) (c : ℕ) → ClassRow rows k c → (name : List ℕ) (q : ClassKey) → RowWith rows (λ j. FindsType rows c name (number.One j)) q → FindsTypeNamed rows (place k) name (one (class_decl q))
  by_number k c i name q (j, row, finds) = (number.One j, subst (λ (x : ℕ). FindsType rows x name (number.One j)) (sym (class_stands rows a.rows_are k c i)) finds, row)

  -- a member type that lookup finds is the only one
  of_once : (s : Scope) (o : ClassKey) (e : ℕ) → ClassRow rows o e → (name : List ℕ) (x y : ClassKey) → RowWith rows (IsMemberType (entries_of rows) name e) x → FindsTypeOf rows s o name (one (class_decl y)) → x ≡ y
  of_once s o e i name x y (j, row, member) (number.One n, (there, reached), is) =
      let same : j ≡ n = one_type_of rows a.rows_are name e j n member (subst (λ (z : ℕ). IsMemberType (entries_of rows) name z n) (class_stands rows a.rows_are o e i) there) in
      one_key rows a.rows_are n x y (subst (λ (z : ℕ). ClassRow rows x z) same row) is
  of_once s o e i name x y (j, row, member) (number.Nothing, h, is) = absurd is
  of_once s o e i name x y (j, row, member) (number.Many n m, h, is) = absurd is
  of_once s o e i name x y (j, row, member) (number.NotAccessible n, h, is) = absurd is
  of_once s o e i name x y (j, row, member) (number.FromStatic n, h, is) = absurd is

  module _ (tops : TopsAgree rows declarations) where
    -- what a superclass of a member class is named by, where its qualifier's member type is found
    pub named_in_top : (T : ClassKey → List ℕ → ClassKey → Type 0) → ((c : ClassKey) (n : List ℕ) (q : ClassKey) → T c n q → (e : ℕ) → ClassRow rows c e → RowWith rows (IsMemberType (entries_of rows) n e) q)
        → (of : List ℕ) (e : ℕ) → ClassRow rows (top_key of) e → (w : Written) (p : ClassKey) (t : Ty) → MemberNames declarations T of (Some w) p → WrittenAs rows (top_key of) w t → t ≡ class p
    named_in_top T found of e i int p t names h = absurd names
    named_in_top T found of e i boolean p t names h = absurd names
    named_in_top T found of e i (named at None name) p t names (k, finds, is) =
        is ∙ ap class (named_once (place (top_key of)) name k p finds (by_number (top_key of) e i name p (in_top_found rows declarations a tops of name p names e i)))
    named_in_top T found of e i (named at (Some left) name) p t (x, front, type) (k, (o, first, second), is) =
        let r = in_top_found rows declarations a tops of left x front e i in
        let same : x ≡ o = named_once (place (top_key of)) left x o (by_number (top_key of) e i left x r) first in
        let there = subst (λ (z : ClassKey). FindsTypeOf rows (place (top_key of)) z name (one (class_decl k))) (sym same) second in
        is ∙ ap class (sym (of_once (place (top_key of)) x r.0 r.1 name p k (found x name p type r.0 r.1) there))

    module _ (all : ParentsAgree rows declarations) where
      -- what a type means is what lookup finds
      pub meant : (c : ClassKey) (n : ℕ) → ClassRow rows c n → (w : Written) (u t : Ty) → Means declarations c w u → WrittenAs rows c w t → u ≡ t
      meant c n i int u t m h = m ∙ sym h
      meant c n i boolean u t m h = m ∙ sym h
      meant c n i (named at None name) u t (q, is, finds) (k, there, was) =
          is ∙ ap class (named_once (place c) name q k (by_number c n i name q (type_found rows declarations a tops all c name q finds n i)) there) ∙ sym was
      meant c n i (named at (Some left) name) u t (o, q, is, front, type) (k, (x, first, second), was) =
          let r = type_found rows declarations a tops all c left o front n i in
          let same : o ≡ x = named_once (place c) left o x (by_number c n i left o r) first in
          let there = subst (λ (z : ClassKey). FindsTypeOf rows (place c) z name (one (class_decl k))) (sym same) second in
          is ∙ ap class (of_once (place c) o r.0 r.1 name q k (has_found rows declarations a tops all o name q type r.0 r.1) there) ∙ sym was

      -- and what a member class's superclass is
      pub parent_meant : (of : List ℕ) (e : ℕ) → ClassRow rows (top_key of) e → (w : Written) (p : ClassKey) (t : Ty) → MemberNames declarations (HasMemberType declarations) of (Some w) p → WrittenAs rows (top_key of) w t → t ≡ class p
      parent_meant of e i w p t names h = named_in_top (HasMemberType declarations) (λ c n q type x row. has_found rows declarations a tops all c n q type x row) of e i w p t names h

      -- what lookup finds is what a type means
      named_means : (c : ClassKey) (n : ℕ) → ClassRow rows c n → (name : List ℕ) (k : ClassKey) → FindsTypeNamed rows (place c) name (one (class_decl k)) → meaning.FindsType declarations c name k
      named_means c n i name k (number.One j, finds, row) =
          let r = found_type rows declarations a tops all c name n j (subst (λ (z : ℕ). FindsType rows z name (number.One j)) (class_stands rows a.rows_are c n i) finds) i in
          subst (meaning.FindsType declarations c name) (one_key rows a.rows_are j r.0 k r.1 row) r.2
      named_means c n i name k (number.Nothing, finds, row) = absurd row
      named_means c n i name k (number.Many j m, finds, row) = absurd row
      named_means c n i name k (number.NotAccessible j, finds, row) = absurd row
      named_means c n i name k (number.FromStatic j, finds, row) = absurd row

      of_means : (s : Scope) (o : ClassKey) (e : ℕ) → ClassRow rows o e → (name : List ℕ) (k : ClassKey) → FindsTypeOf rows s o name (one (class_decl k)) → HasMemberType declarations o name k
      of_means s o e i name k (number.One j, (member, reached), row) =
          let r = found_has rows declarations a tops all o name e j (subst (λ (z : ℕ). IsMemberType (entries_of rows) name z j) (class_stands rows a.rows_are o e i) member) i in
          subst (HasMemberType declarations o name) (one_key rows a.rows_are j r.0 k r.1 row) r.2
      of_means s o e i name k (number.Nothing, finds, row) = absurd row
      of_means s o e i name k (number.Many j m, finds, row) = absurd row
      of_means s o e i name k (number.NotAccessible j, finds, row) = absurd row
      of_means s o e i name k (number.FromStatic j, finds, row) = absurd row

      found_row : (s : Scope) (name : List ℕ) (k : ClassKey) → FindsTypeNamed rows s name (one (class_decl k)) → (j : ℕ) × ClassRow rows k j
      found_row s name k (number.One j, finds, row) = (j, row)
      found_row s name k (number.Nothing, finds, row) = absurd row
      found_row s name k (number.Many j m, finds, row) = absurd row
      found_row s name k (number.NotAccessible j, finds, row) = absurd row
      found_row s name k (number.FromStatic j, finds, row) = absurd row

      pub written_means : (c : ClassKey) (n : ℕ) → ClassRow rows c n → (w : Written) (t : Ty) → WrittenAs rows c w t → Means declarations c w t
      written_means c n i int t h = h
      written_means c n i boolean t h = h
      written_means c n i (named at None name) t (k, finds, is) = (k, is, named_means c n i name k finds)
      written_means c n i (named at (Some left) name) t (k, (o, first, second), is) =
          let row = found_row (place c) left o first in
          (o, k, is, named_means c n i left o first, of_means (place c) o row.0 row.1 name k second)
