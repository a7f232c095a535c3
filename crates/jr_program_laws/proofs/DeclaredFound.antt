-- Each type and superclass that a member of a program declares is found.
use Rattle.std.proofs.Common.{◌≡◌, ℕ, List, Option, false, refl, sym, ap, subst, inl}
use Rattle.jr_ast.specs.Tree as tree
use Rattle.jr_ast.specs.StatementTree as statement
use Rattle.jr_ast.specs.MemberTree as syntax
use Rattle.jr_table.specs.Decls.{MemberKey, field, method, constructor, Decl, field_decl, method_decl, constructor_decl}
use Rattle.jr_table.specs.Rows.{Row}
use Rattle.jr_table.specs.Entries.{class_of, class_of_member}
use Rattle.jr_table.specs.Conditions.{AreRows, as_declarer}
use Rattle.jr_table.specs.Context.{scope_of}
use Rattle.jr_table.specs.HeadRules.{plain}
use Rattle.jr_table.specs.DeclaredItems.{DeclaredItem, member_declarations, declarations_of}
use Rattle.jr_table.specs.ProgramRows.{AreProgramRows}
use Rattle.jr_table.specs.Faults.{PackageLine, IsClean}
use Rattle.jr_table.specs.Errors.{Part, class_part, member_part}
use Rattle.jr_build_rows.proofs.Apart.{In, in_stands}
use Rattle.jr_members.proofs.DeclarationRows.{once, not_reserved}
use Rattle.jr_members.proofs.UnitsWalked.{are_written}
use Rattle.jr_program_laws.specs.FoundTypes.{MaybeParentIsFound, DeclaresFound, DeclaredTypesAreFound}
use Rattle.jr_program_laws.proofs.RowsOfDeclarations.{gives}
use Rattle.jr_program_laws.proofs.Agreeing.{ClassRow}
use Rattle.jr_program_laws.proofs.Programs.{program_agrees, tops_agree, parents_agree}
use Rattle.jr_program_laws.proofs.TypesFound.{type_is, result_is, params_are, parent_is}
use Rattle.jr_program_laws.proofs.StandsDeclared.{StandsDeclared, written_sited}

module _ {A : Type 0} (begins : A → ℕ → ℕ) (packages : List (Option PackageLine)) (rows : List Row) (declarations : List DeclaredItem) (are : AreRows rows) (program : AreProgramRows declarations rows) (clean : IsClean packages declarations) where
  -- the class that declares what a row does
  declarer : (r : Row) (d : Decl) → In rows r → r.decl ≡ d → (c : ℕ) × ClassRow rows (class_of d) c
  declarer r d h e = let n = in_stands rows r h in are.named n.0 r (class_of d) n.1 (as_declarer (ap class_of e))

  in_place : (k : MemberKey) (l : MemberKey) → k ≡ l → (scope_of (plain k false)).class ≡ class_of_member l
  in_place k l e = ap class_of_member e

  field_found : (k : MemberKey) (base : ℕ) (m : A) (mods : List (syntax.Modifier A)) (t : tree.TypeName A) (w : tree.Word A) (init : Option (tree.Exp A))
      → StandsDeclared begins declarations k base (member_part (syntax.field m mods t w init)) → DeclaresFound rows k (member_part (syntax.field m mods t w init))
  unfolding member_declarations
  field_found k base m mods t w init (of, d, there) =
      let s = there _ (inl refl) in
      let g = gives declarations rows program s.0 s.1 _ s.2 in
      let c = declarer g.0 (field_decl (record { class = of; name = w.text })) g.1 (ap (λ (r : Row). r.decl) g.2.is) in
      type_is rows declarations (program_agrees rows declarations are program) (tops_agree rows declarations are program packages clean) (parents_agree rows declarations are program packages clean) begins
      (scope_of (plain k false)) of c.0 (in_place k (field (record { class = of; name = w.text })) d) c.1 (begins m base) t g.2.type g.2.means

  method_found : (k : MemberKey) (base : ℕ) (m : A) (mods : List (syntax.Modifier A)) (t : Option (tree.TypeName A)) (w : tree.Word A) (ps : List (syntax.Param A)) (body : statement.Stmts A)
      → StandsDeclared begins declarations k base (member_part (syntax.method m mods t w ps body)) → DeclaresFound rows k (member_part (syntax.method m mods t w ps body))
  unfolding member_declarations
  method_found k base m mods t w ps body (of, d, there) =
      let s = there _ (inl refl) in
      let g = gives declarations rows program s.0 s.1 _ s.2 in
      let c = declarer g.0 (method_decl (record { class = of; name = w.text; params = g.2.params })) g.1 (ap (λ (r : Row). r.decl) g.2.is) in
      let place = in_place k (method (record { class = of; name = w.text; params = d.0 })) d.2 in (
        result_is rows declarations (program_agrees rows declarations are program) (tops_agree rows declarations are program packages clean) (parents_agree rows declarations are program packages clean) begins
            (scope_of (plain k false)) of c.0 place c.1 (begins m base) t g.2.result g.2.means,
        params_are rows declarations (program_agrees rows declarations are program) (tops_agree rows declarations are program packages clean) (parents_agree rows declarations are program packages clean) begins
            (scope_of (plain k false)) of c.0 place c.1 (begins m base) ps g.2.params g.2.mean,
      )

  ctor_found : (k : MemberKey) (base : ℕ) (m : A) (mods : List (syntax.Modifier A)) (w : tree.Word A) (ps : List (syntax.Param A)) (args : Option (tree.Exps A)) (body : statement.Stmts A)
      → StandsDeclared begins declarations k base (member_part (syntax.constructor m mods w ps args body)) → DeclaresFound rows k (member_part (syntax.constructor m mods w ps args body))
  unfolding member_declarations
  ctor_found k base m mods w ps args body (of, d, there) =
      let s = there _ (inl refl) in
      let g = gives declarations rows program s.0 s.1 _ s.2 in
      let c = declarer g.0 (constructor_decl (record { class = of; params = g.2.params })) g.1 (ap (λ (r : Row). r.decl) g.2.is) in
      let place = in_place k (constructor (record { class = of; params = d.0 })) d.2 in
      params_are rows declarations (program_agrees rows declarations are program) (tops_agree rows declarations are program packages clean) (parents_agree rows declarations are program packages clean) begins
      (scope_of (plain k false)) of c.0 place c.1 (begins m base) ps g.2.params g.2.mean

  head_found : (k : MemberKey) (base : ℕ) (c : syntax.Class A) → StandsDeclared begins declarations k base (class_part c) → DeclaresFound rows k (class_part c)
  head_found k base (syntax.class m mods w t ms) (o, is, (n, file, at)) =
      let g = gives declarations rows program n file _ at in
      let found = parent_is rows declarations (program_agrees rows declarations are program) (tops_agree rows declarations are program packages clean) (parents_agree rows declarations are program packages clean) begins
      (once declarations rows are program) (not_reserved declarations rows are program) o w.text _ (begins m base) t g.2.superclass (record { number = n; file = file; stands = at; is = refl }) refl g.2.is_parent in
      subst (λ (x : Option (List ℕ)). MaybeParentIsFound rows x t) (sym (ap (λ (j : MemberKey). (class_of_member j).outer) is)) found

  all_found : (k : MemberKey) (base : ℕ) (part : Part A) → StandsDeclared begins declarations k base part → DeclaresFound rows k part
  all_found k base (class_part c) h = head_found k base c h
  all_found k base (member_part (syntax.field m mods t w init)) h = field_found k base m mods t w init h
  all_found k base (member_part (syntax.method m mods t w ps body)) h = method_found k base m mods t w ps body h
  all_found k base (member_part (syntax.constructor m mods w ps args body)) h = ctor_found k base m mods w ps args body h
  all_found k base (member_part (syntax.inner m c)) h = tt

pub declared_found : {A : Type 0} → DeclaredTypesAreFound A
declared_found begins packages rows units are program clean w there =
    let written = (are_written begins units rows are program).each w there in
    all_found begins packages rows (declarations_of begins units) are program clean w.key w.base w.part (written_sited begins units w.file w.key w.base w.part written)
