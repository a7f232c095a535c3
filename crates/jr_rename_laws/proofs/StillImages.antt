-- The program that a renaming without classes makes.
use Rattle.std.proofs.Common.{ℕ, List}
use Rattle.std.specs.Prelude.{Option}
use Rattle.jr_text.specs.declared.spans.Span.{Span}
use Rattle.jr_ast.specs.MemberTree as syntax
use Rattle.jr_table.specs.Decls.{MemberKey, Decl}
use Rattle.jr_table.specs.Rows.{Row}
use Rattle.jr_table.specs.Context.{Context}
use Rattle.jr_table.specs.DeclaredItems.{DeclaredItem, declarations_of}
use Rattle.jr_table.specs.Faults.{PackageLine}
use Rattle.jr_images.specs.Images.{Renaming}
use Rattle.jr_rename_laws.specs.ImageLaws.{Becomes, AreImages}
use Rattle.jr_rename_laws.proofs.Still.{IsStill}
use Rattle.jr_rename_laws.proofs.DeclarationImages.{DeclarationsTo}
use Rattle.jr_rename_laws.proofs.TypesFound.{named_goes, member_named_goes}
use Rattle.jr_rename_laws.proofs.TypesStay.{TypesKeep}
use Rattle.jr_rename_laws.proofs.TreeImages.{units_go}
use Rattle.jr_rename_laws.proofs.DeclarationsBeside.{all_declarations, member_images}
use Rattle.jr_rename_laws.proofs.RowImages.{program_rows}
use Rattle.jr_rename_laws.proofs.CleanImages.{NamesAreClear, is_clean}
use Rattle.jr_rename_laws.proofs.DeclarationRows.{no_locals}
use Rattle.jr_rename_laws.proofs.FairImages.{KeysApart, fair}

pub still_images : {A B : Type 0} (tells : A → ℕ → Span) (begins' : B → ℕ → ℕ) (d : Decl) (packages : List (Option PackageLine)) (rows : List Row) (super_at : MemberKey → ℕ) (units : List (syntax.Unit A)) (g : Renaming) (news : List (syntax.Unit B))
    → Becomes tells begins' packages rows super_at units d g news → IsStill g → KeysApart g rows
    → ((ts : List DeclaredItem) → DeclarationsTo g (declarations_of (λ m base. (tells m base).from) units) (declarations_of (λ m base. (tells m base).from) units) ts → NamesAreClear g (declarations_of (λ m base. (tells m base).from) units) ts)
    → AreImages tells begins' packages rows units g news
still_images tells begins' d packages rows super_at units g news b still apart names =
    let keep : TypesKeep rows g = record { still = still; named = named_goes g still rows; member = member_named_goes g still rows; whole = b.whole } in
    let ss = declarations_of (λ m base. (tells m base).from) units in
    let ts = declarations_of begins' news in
    let beside = units_go rows g keep tells begins' (λ (c : Context). super_at c.member) ss units b.files b.rewrite b.kept news b.read in
    let to = all_declarations rows g keep tells begins' (λ (c : Context). super_at c.member) ss units news beside in
    record {
      rows_are = program_rows g still packages ss ts b.clean to rows b.of_declarations;
      clean = λ lines same. is_clean g packages lines ss ts b.clean to (names ts to) same;
      fair = fair g still rows apart b.are (no_locals ss rows b.of_declarations) b.whole;
      members = member_images rows g keep tells begins' (λ (c : Context). super_at c.member) ss packages b.clean ts to units news beside;
    }
