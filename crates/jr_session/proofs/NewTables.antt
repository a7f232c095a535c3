-- The rows of the sources that planned edits make are the images of the old ones, where no class is renamed.
use Rattle.std.proofs.Common.{◌≡◌, ℕ, List, [], ◌∷◌, map, length, Option, refl, sym, ap, subst, ◌∙◌, arith}
use Rattle.jr_text.specs.declared.spans.Span.{Span}
use Rattle.jr_text.specs.Edits.{Entry}
use Rattle.jr_ast.specs.Tree as tree
use Rattle.jr_ast.specs.MemberTree.{Class, Unit as UnitTree}
use Rattle.jr_grammar.specs.Layout.{itself}
use Rattle.jr_grammar.specs.Bare.{bare_word}
use Rattle.jr_table.specs.Decls.{Decl}
use Rattle.jr_table.specs.Faults.{PackageLine, names_of, IsClean}
use Rattle.jr_table.specs.ProgramRows.{AreProgramRows}
use Rattle.jr_table.specs.DeclaredItems.{DeclaredItem, declarations_of}
use Rattle.jr_punit_laws.specs.OneReading.{OneReading}
use Rattle.jr_bind.specs.Programs.{Program, units_of}
use Rattle.jr_program_laws.specs.FileParts.{begins}
use Rattle.jr_rewrite.specs.Rewrites.{Choosing, RewritesUnits}
use Rattle.jr_rewrite.specs.Rewritten.{Rewritten}
use Rattle.jr_rename_laws.specs.ImageLaws.{without_marks, AreImages}
use Rattle.jr_images.specs.Images.{rows_to}
use Rattle.jr_plan.proofs.Rename.{rewrite_back}
use Rattle.jr_rename_laws.specs.PlanLaws.{IsPlanIn, IsNoClass, NewTextsRead, NewProgramsStayClean}
use Rattle.jr_sources.specs.FirstFault.{AreRead, AreProgram, package_line, package_lines}
use Rattle.jr_sources.specs.Sources.{Source}
use Rattle.jr_sources.specs.Whole.{IsProgramOf}
use Rattle.jr_sources.proofs.Analysing.{counts}
use Rattle.jr_session.specs.NewTexts.{with_edits}
use Rattle.jr_session.specs.NewTables.{NewTables}
use Rattle.jr_session.specs.Asked.{rename}
use Rattle.jr_session.proofs.NewTrees.{units_are, trees}
use Rattle.jr_session.proofs.PlansRead.{rename_reads}

-- ---- packages

abbrev texts : {A : Type 0} → List (tree.Word A) → List (List ℕ)
texts {A} ns = map (λ (w : tree.Word A). w.text) ns

-- the names of a unit's package
abbrev package_of : {A : Type 0} → UnitTree A → List (List ℕ)
package_of u = texts u.package_name

texts_bare : (ns : List (tree.Word Span)) → texts (map bare_word ns) ≡ texts ns
texts_bare [] = refl
texts_bare (n ∷ ns) = ap (λ (l : List (List ℕ)). n.text ∷ l) (texts_bare ns)

packages_bare : (us : List (UnitTree Span)) → map package_of (map without_marks us) ≡ map package_of us
packages_bare [] = refl
packages_bare (u ∷ us) =
    let first : package_of (without_marks u) ≡ package_of u = texts_bare u.package_name in
    let rest = packages_bare us in
    λ i. first i ∷ rest i

planned_bare : (os : List (Rewritten (UnitTree Span))) → map package_of (map (λ (o : Rewritten (UnitTree Span)). without_marks o.tree) os) ≡ map (λ (o : Rewritten (UnitTree Span)). package_of o.tree) os
planned_bare [] = refl
planned_bare (o ∷ os) =
    let first : package_of (without_marks o.tree) ≡ package_of o.tree = texts_bare o.tree.package_name in
    let rest = planned_bare os in
    λ i. first i ∷ rest i

-- the names of a package line
line_names : (u : UnitTree Span) (word : ℕ) → names_of (package_line u word) ≡ package_of u
line_names u word = by u.mark u.package_name u.classes
  where
    by : (m : Span) (ns : List (tree.Word Span)) (cs : List (Class Span)) → names_of (package_line (record { mark = m; package_name = ns; classes = cs }) word) ≡ texts ns
    by m [] cs = refl
    by m (n ∷ ns) cs = refl

lines_names : (us : List (UnitTree Span)) (words : List ℕ) → length words ≡ length us → map names_of (package_lines us words) ≡ map package_of us
lines_names [] words n = refl
lines_names (u ∷ us) [] n = absurd (omega (arith, n))
lines_names (u ∷ us) (w ∷ words) n =
    let first = line_names u w in
    let rest = lines_names us words (omega (arith, n)) in
    λ i. first i ∷ rest i

-- packages stay
packages_stay : (C : Choosing Span) (declarations : List DeclaredItem) (us : List (UnitTree Span)) (os : List (Rewritten (UnitTree Span))) → RewritesUnits itself C declarations us os → map (λ (o : Rewritten (UnitTree Span)). package_of o.tree) os ≡ map package_of us
packages_stay C declarations [] os h = ap (λ (l : List (Rewritten (UnitTree Span))). map (λ (o : Rewritten (UnitTree Span)). package_of o.tree) l) h
packages_stay C declarations (u ∷ us) os (o, ps, r, rest, are) =
    let first : package_of o.tree ≡ package_of u = ap (λ (x : Rewritten (UnitTree Span)). package_of x.tree) r.2 in
    let more = packages_stay C declarations us ps rest in
    ap (λ (l : List (Rewritten (UnitTree Span))). map (λ (x : Rewritten (UnitTree Span)). package_of x.tree) l) are ∙ (λ i. first i ∷ more i)

-- ---- the table

as_many : (ss : List Source) (us : List (UnitTree Span)) (ws : List ℕ) → AreRead ss us ws → length ws ≡ length us
as_many ss us ws h = (let n = counts ss us ws h in n.1 ∙ sym n.0)

module _ (one : OneReading Span) (read : NewTextsRead) (law : NewProgramsStayClean) (sources : List Source) (p : Program Span) (before : IsProgramOf sources p)
    (text : List ℕ) (number at : ℕ) (new : List ℕ) (edits : List (List Entry)) (renaming : List (Decl × Decl)) (respelled : ℕ) (plan : IsPlanIn p text number at new edits renaming respelled) (kind : IsNoClass plan.planned.found.target)
    (units : List (UnitTree Span)) (words : List ℕ) (are : AreRead (with_edits sources edits) units words)
  where
    abbrev old : List (Option PackageLine)
    old = package_lines before.units before.words

    units_before : units_of p ≡ before.units
    units_before = units_are sources p before

    clean : IsClean old (declarations_of begins (units_of p))
    clean = subst (λ (us : List (UnitTree Span)). IsClean old (declarations_of begins us)) (sym units_before) before.program.clean

    read_as : map without_marks units ≡ map (λ (o : Rewritten (UnitTree Span)). without_marks o.tree) plan.planned.becomes.files
    read_as = trees (rename [] at new) (rename_reads read [] at new) sources p before plan.name text number edits renaming respelled plan.planned one units words are

    images : AreImages itself begins old p.rows (units_of p) plan.planned.found.g units
    images = law p text number at new edits renaming respelled plan kind old clean units read_as

    same : map names_of (package_lines units words) ≡ map names_of old
    same = lines_names units words (as_many (with_edits sources edits) units words are)
        ∙ sym (packages_bare units) ∙ ap (map package_of) read_as ∙ planned_bare plan.planned.becomes.files
        ∙ packages_stay _ _ (units_of p) plan.planned.becomes.files (rewrite_back p plan.planned.found.g plan.planned.becomes) ∙ ap (map package_of) units_before
        ∙ sym (lines_names before.units before.words (as_many sources before.units before.words before.program.read))

    table : AreProgram (with_edits sources edits) units words × AreProgramRows (declarations_of begins units) (rows_to plan.planned.found.g p.rows)
    table = (record { read = are; clean = images.clean (package_lines units words) same }, images.rows_are)

pub new_tables : OneReading Span → NewTextsRead → NewProgramsStayClean → NewTables
new_tables one read law sources p before text number at new edits renaming respelled plan kind units words are =
    table one read law sources p before text number at new edits renaming respelled plan kind units words are
