-- The rows of the program behind a rename are the images of the rows before.
use Rattle.std.proofs.Common.{◌≡◌, ℕ, List, [], ◌∷◌, map, Option, Some, refl, sym, ap, subst, ◌∙◌}
use Rattle.std.specs.Prelude.{slice_get}
use Rattle.std.proofs.lemmas.Option.{slice_get-map}
use Rattle.jr_text.specs.declared.spans.Span.{Span}
use Rattle.jr_text.specs.Edits.{Entry}
use Rattle.jr_lex.specs.Replacing.{IsName}
use Rattle.jr_ast.specs.MemberTree.{Unit as UnitTree}
use Rattle.jr_grammar.specs.Layout.{itself}
use Rattle.jr_grammar.specs.Reads.{Reads}
use Rattle.jr_table.specs.Decls.{Decl, class_decl, field_decl, method_decl, constructor_decl, local_decl}
use Rattle.jr_table.specs.Faults.{PackageLine, names_of, IsClean}
use Rattle.jr_table.specs.ProgramRows.{AreProgramRows}
use Rattle.jr_table.specs.DeclaredItems.{declarations_of}
use Rattle.jr_build_rows.specs.Heads.{UnitsHeads}
use Rattle.jr_bind.specs.Programs.{File, Program, units_of}
use Rattle.jr_program_laws.specs.FileParts.{begins}
use Rattle.jr_rewrite.specs.Rewritten.{Rewritten}
use Rattle.jr_images.specs.Images.{Renaming, rows_to}
use Rattle.jr_rename_laws.specs.ImageLaws.{without_marks, Becomes, AreImages, PlansBecome}
use Rattle.jr_images.specs.TextLaws.{RowsAreNamed, NamesHaveNoDot}
use Rattle.jr_rename_laws.specs.PlanLaws.{IsPlanIn, IsNoClass, NewProgramsAreImages}
use Rattle.jr_rename_laws.specs.ClassLaws.{BuiltRowsAreImages, ConstructorsGiveImages}
use Rattle.jr_images.proofs.Imaging.{map_some}
use Rattle.jr_sources.specs.Sources.{Source}
use Rattle.jr_sources.specs.Whole.{IsProgramOf}
use Rattle.jr_sources.proofs.Analysing.{counts}
use Rattle.jr_sources.proofs.FirstErrors.{rows_once}
use Rattle.jr_sources.proofs.ReadUnits.{units_headed}
use Rattle.jr_sources.proofs.WholeProgram.{units_files}

no_lines : (lines : List (Option PackageLine)) → map names_of lines ≡ [] → lines ≡ []
no_lines [] e = refl
no_lines (l ∷ lines) e = absurd cc

-- no member class of a program holds classes
heads_of : (sources : List Source) (p : Program Span) → IsProgramOf sources p → UnitsHeads (units_of p)
heads_of sources p is =
    let units : units_of p ≡ is.units = ap (λ (fs : List (File Span)). map (λ (f : File Span). f.unit) fs) is.files ∙ units_files sources is.units (counts sources is.units is.words is.program.read).0 in
    subst UnitsHeads (sym units) (units_headed sources is.units is.words is.program.read)

module _ (sources : List Source) (p : Program Span) (before : IsProgramOf sources p) (text : List ℕ) (file at : ℕ) (new : List ℕ) (edits : List (List Entry)) (renaming : List (Decl × Decl)) (respelled : ℕ) (is : IsPlanIn p text file at new edits renaming respelled)
    (named : RowsAreNamed Span) (dots : NamesHaveNoDot) (plans : PlansBecome Span) (images : NewProgramsAreImages) (built : BuiltRowsAreImages Span Span) (ctors : ConstructorsGiveImages Span Span)
    (news : List Source) (q : Program Span) (behind : IsProgramOf news q) (trees : map without_marks (units_of q) ≡ map (λ (o : Rewritten (UnitTree Span)). without_marks o.tree) is.planned.becomes.files)
  where
    abbrev g : Renaming
    g = is.planned.found.g

    reads : (i : ℕ) (unit : UnitTree Span) → slice_get (units_of p) i ≡ Some unit → (bytes : List ℕ) × Reads bytes unit
    reads i unit e =
        let f = map_some (λ (x : File Span). x.unit) (slice_get p.files i) unit (sym (slice_get-map (λ (x : File Span). x.unit) p.files i) ∙ e) in
        let r = is.program.reads i f.0 f.1 in
        (f.0.text, subst (Reads f.0.text) f.2 (record { items = r.items; lexes = r.lexes; is = r.is }))

    abbrev Made : Decl → Type 0
    Made d = Becomes itself begins [] p.rows p.super_at (units_of p) d g (units_of q)

    made : Made is.planned.found.target
    made = plans begins [] p (units_of q) text file at new edits renaming respelled is.planned is.program.are_rows is.program.rows is.program.clean (named begins p.rows (units_of p) reads is.program.rows).1 trees

    once : AreProgramRows (declarations_of begins (units_of q)) (rows_to g p.rows) → q.rows ≡ rows_to g p.rows
    once rows = rows_once [] (declarations_of begins (units_of q)) behind.is.clean q.rows (rows_to g p.rows) behind.is.rows rows

    name_is : IsName g.name
    name_is = subst (λ (n : List ℕ). IsName n) (sym is.planned.found.renames.name) is.name

    abbrev All : Type 0
    All = (q.rows ≡ rows_to g p.rows) × AreImages itself begins [] p.rows (units_of p) g (units_of q)

    no_class : IsNoClass is.planned.found.target → All
    no_class kind = (let are = images p text file at new edits renaming respelled is kind (units_of q) trees in (once are.rows_are, are))

    pub new_rows : All
    new_rows = by is.planned.found.target refl
      where
        by : (d : Decl) → is.planned.found.target ≡ d → All
        by (local_decl k) e = no_class (subst IsNoClass (sym e) tt)
        by (field_decl k) e = no_class (subst IsNoClass (sym e) tt)
        by (method_decl k) e = no_class (subst IsNoClass (sym e) tt)
        by (constructor_decl k) e =
            let r = ctors itself begins [] p.rows q.rows p.super_at (units_of p) k g (units_of q) (record {
              becomes = subst Made e made;
              headed = heads_of sources p before;
              dotless = dots g.name name_is;
              new_rows = behind.is.rows;
              clean = λ lines same. subst (λ (ls : List (Option PackageLine)). IsClean ls (declarations_of begins (units_of q))) (sym (no_lines lines same)) behind.is.clean;
            }) in
            (r.1, r.0)
        by (class_decl k) e =
            built itself begins [] p.rows q.rows p.super_at (units_of p) k g (units_of q) (record { becomes = subst Made e made; heads = heads_of sources p before; whole = dots g.name name_is }) behind.is.rows
