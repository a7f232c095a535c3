-- Object is found by its name alone, and nothing else by that name.
use Rattle.std.proofs.Common.{◌≡◌, ℕ, List, [], ◌∷◌, Option, Some, refl, sym, ap, subst, ◌∙◌, inl, inr}
use Rattle.std.specs.Prelude.{codes}
use Rattle.jr_table.specs.declared.entries.Entry.{Entry}
use Rattle.jr_table.specs.declared.answers.Answer.TheVariants as number
use Rattle.jr_table.specs.declared.kinds.DeclKind.TheVariants as kind
use Rattle.jr_table.specs.Keys.{ClassKey}
use Rattle.jr_table.specs.Decls.{class_decl}
use Rattle.jr_table.specs.Rows.{Row}
use Rattle.jr_table.specs.Prelude.{top_key, object_key}
use Rattle.jr_table.specs.Entries.{number_of, name_of, outer_name, top_class, entries_of}
use Rattle.jr_table.specs.Conditions.{AreRows}
use Rattle.jr_table.specs.Members.{DeclaresType, MemberAmong}
use Rattle.jr_table.specs.Found.{one}
use Rattle.jr_table.specs.Scope.{Scope}
use Rattle.jr_table.specs.Lookup.{FindsTypeNamed, FindsTypeOf}
use Rattle.jr_table.specs.DeclaredItems.{DeclaredItem}
use Rattle.jr_table.specs.Faults.{PackageLine, IsClean, IsReserved}
use Rattle.jr_table.proofs.RowLaws.{row_at}
use Rattle.jr_program_laws.proofs.Agreeing.{Agree, ClassRow, one_key, then_of}

module _ (rows : List Row) (are : AreRows rows) where
  -- a member class has the name that it is found by, and a class around it
  declared_named : (name : List ℕ) (c j : ℕ) (k : ClassKey) → DeclaresType (entries_of rows) name c j → ClassRow rows k j → (k.name ≡ name) × ((o : List ℕ) × (k.outer ≡ Some o))
  declared_named name c j k d i =
      let r = row_at rows j d.row d.stands in
      let around = then_of (λ (n : List ℕ). number_of rows (top_class n)) (outer_name r.row.decl) c (ap (λ (e : Entry). e.outer) (sym r.is) ∙ d.outer) in
      let same : i.row ≡ r.row = some_row i.row r.row (sym i.stands ∙ r.stands) in
      let decl = sym i.declares ∙ ap (λ (x : Row). x.decl) same in
      (ap name_of decl ∙ ap (λ (e : Entry). e.name) (sym r.is) ∙ d.named, (around.0, ap outer_name decl ∙ around.1))
    where
      some_row : (y z : Row) → Some y ≡ Some z → y ≡ z
      some_row y z h = cc

  among_named : (name : List ℕ) (j : ℕ) (k : ClassKey) → ClassRow rows k j → (chain : List ℕ) → MemberAmong (entries_of rows) (DeclaresType (entries_of rows) name) chain j
      → (k.name ≡ name) × ((o : List ℕ) × (k.outer ≡ Some o))
  among_named name j k i [] h = absurd h
  among_named name j k i (c ∷ cs) (inl own) = declared_named name c j k own i
  among_named name j k i (c ∷ cs) (inr (none, among, free)) = among_named name j k i cs among

  pub object_named : (s : Scope) (name : List ℕ) → FindsTypeNamed rows s name (one (class_decl object_key)) → name ≡ codes "Object"
  object_named s name (number.One j, inl (e, inner, member), row) = let never = (among_named name j object_key row member.chain member.among).1.1 in absurd cc
  object_named s name (number.One j, inr (none, there), row) = ap (λ (k : ClassKey). k.name) (one_key rows are j (top_key name) object_key there row)
  object_named s name (number.Nothing, finds, row) = absurd row
  object_named s name (number.Many i j, finds, row) = absurd row
  object_named s name (number.NotAccessible j, finds, row) = absurd row
  object_named s name (number.FromStatic j, finds, row) = absurd row

  pub object_of : (s : Scope) (o : ClassKey) (name : List ℕ) → FindsTypeOf rows s o name (one (class_decl object_key)) → ⊥
  object_of s o name (number.One j, (member, free), row) = let never = (among_named name j object_key row member.chain member.among).1.1 in cc
  object_of s o name (number.Nothing, finds, row) = row
  object_of s o name (number.Many i j, finds, row) = row
  object_of s o name (number.NotAccessible j, finds, row) = row
  object_of s o name (number.FromStatic j, finds, row) = row

  -- no member class is called so
  pub object_old : (packages : List (Option PackageLine)) (declarations : List DeclaredItem) → IsClean packages declarations → Agree rows declarations → (s : Scope) (k : ClassKey) → FindsTypeNamed rows s (codes "Object") (one (class_decl k)) → k ≡ object_key
  object_old packages declarations clean a s k (number.One j, inl (e, inner, member), row) =
      let named = among_named (codes "Object") j k row member.chain member.among in
      elim (a.row_class k j row) [
        | inl (at, d, words) ↦ absurd (
            let same : at.key.name ≡ codes "Object" = ap (λ (x : ClassKey). x.name) d.is ∙ named.0 in
            clean kind.PreludeName (record { file = d.file; at = at.at }) (d.number, at, record { stands = d.stands }, subst IsReserved (sym same) (inl (inl refl)), refl)
            )
        | inr (top, is, seen) ↦ (let never = sym top ∙ named.1.1 in absurd cc)
      ]
  object_old packages declarations clean a s k (number.One j, inr (none, there), row) = one_key rows are j k object_key row there
  object_old packages declarations clean a s k (number.Nothing, finds, row) = absurd row
  object_old packages declarations clean a s k (number.Many i j, finds, row) = absurd row
  object_old packages declarations clean a s k (number.NotAccessible j, finds, row) = absurd row
  object_old packages declarations clean a s k (number.FromStatic j, finds, row) = absurd row
