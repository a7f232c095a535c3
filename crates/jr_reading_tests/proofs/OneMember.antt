-- A method of a program of one file may be bound by its key.
use Rattle.std.proofs.Common.{◌≡◌, ℕ, List, length, subst, arith, Result, Ok}
use Rattle.std.specs.Prelude.{IfOk}
use Rattle.std.proofs.lemmas.Option.{slice_get_within}
use Rattle.jr_text.specs.declared.spans.Span.{Span}
use Rattle.jr_lex.specs.declared.items.Item.{Item}
use Rattle.jr_ast.specs.MemberTree as syntax
use Rattle.jr_table.specs.Decls.{MemberKey}
use Rattle.jr_table.specs.Rows.{Row}
use Rattle.jr_table.specs.Conditions.{AreRows}
use Rattle.jr_table.specs.DeclaredItems.{declarations_of}
use Rattle.jr_table.specs.Errors.{Part, InUnits}
use Rattle.jr_members.specs.WrittenLaws.{IsWritten}
use Rattle.jr_members.proofs.Anywhere.{written_member}
use Rattle.jr_bind.specs.Bounds.{BindsOnce, FitsWhole}
use Rattle.jr_program_laws.specs.FileParts.{begins, SuperStands}
use Rattle.jr_program_laws.specs.PlaceLaws.{IsFile, IsPart, PartsArePlaced}
use Rattle.jr_sources.proofs.InFiles.{is_part}
use Rattle.jr_sources.proofs.PartsFit.{whole_fits}

pub of_ok : {X E : Type 0} {r : Result X E} {x : X} → r ≡ Ok x → (P : X → Type 0) → IfOk r P → P x
of_ok e P h = subst (λ z. IfOk z P) e h

module _ (units : List (syntax.Unit Span)) (rows : List Row) where
  abbrev pub CanBind : MemberKey → (base : ℕ) → Part Span → Type 0
  CanBind k base part = FitsWhole begins (λ m at. Unit {0}) base part × BindsOnce begins rows 0 k base part

  pub can_bind : (text : List ℕ) (items : List Item) → IsFile units 0 text items → length units ≡ 1 → AreRows rows → PartsArePlaced → (file : ℕ) (k : MemberKey) (base : ℕ) (part : Part Span) → IsWritten begins units file k base part → SuperStands items part 0 → InUnits begins (declarations_of begins units) CanBind units k
  can_bind text items is one fit placed file k base part w stands =
      let lt = slice_get_within units file w.unit w.stands in
      let first : file ≡ 0 = omega (arith, lt, one) in
      let there : IsPart units 0 k base part = subst (λ (n : ℕ). IsPart units n k base part) first (is_part units file k base part w) in
      written_member begins units CanBind file k base part w (whole_fits begins base part, (placed units 0 text items is k base part there 0 stands rows).one fit)
