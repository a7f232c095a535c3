-- What the edits of a plan make of sources reads as the planned trees.
use Rattle.std.proofs.Common.{◌≡◌, ℕ, zero, suc, List, [], ◌∷◌, map, length, Some, refl, sym, ap, subst, ◌∙◌, arith}
use Rattle.std.specs.Prelude.{slice_get}
use Rattle.std.proofs.lemmas.List.{length-map}
use Rattle.std.proofs.lemmas.Option.{same_Some, none-some, slice_get_within}
use Rattle.jr_text.specs.declared.spans.Span.{Span}
use Rattle.jr_text.specs.Edits.{Entry}
use Rattle.jr_text.specs.Splices.{splice}
use Rattle.jr_ast.specs.MemberTree.{Unit as UnitTree}
use Rattle.jr_grammar.specs.Bare.{bare_unit}
use Rattle.jr_grammar.specs.Layout.{itself}
use Rattle.jr_grammar.specs.Reads.{Reads}
use Rattle.jr_table.specs.Decls.{Decl}
use Rattle.jr_table.specs.DeclaredItems.{DeclaredItem}
use Rattle.jr_punit_laws.specs.OneReading.{OneReading}
use Rattle.jr_bind.specs.Programs.{File, Program, units_of}
use Rattle.jr_rewrite.specs.Rewrites.{Choosing}
use Rattle.jr_rewrite.specs.Spots.{Spotted}
use Rattle.jr_rewrite.specs.Rewritten.{Rewritten}
use Rattle.jr_rename_laws.specs.ImageLaws.{without_marks}
use Rattle.jr_plan.specs.Reasons.{IsPlanned}
use Rattle.jr_plan.specs.Transforms.{TransformsFiles}
use Rattle.jr_rename_laws.specs.PlanLaws.{IsNewText}
use Rattle.jr_sources.specs.FirstFault.{AreRead}
use Rattle.jr_sources.specs.Sources.{Source}
use Rattle.jr_sources.specs.Whole.{IsProgramOf}
use Rattle.jr_sources.proofs.AllRead.{element, text_there}
use Rattle.jr_sources.proofs.Analysing.{counts, unit_read}
use Rattle.jr_sources.proofs.WholeProgram.{length-files, units_files}
use Rattle.jr_session.specs.NewTexts.{with_edits}
use Rattle.jr_session.specs.PlansRead.{ReadsSo}
use Rattle.jr_session.specs.Requests.{Request, IsGoodName}
use Rattle.jr_session.proofs.Making.{length-edited}
use Rattle.jr_session.proofs.Planning.{file as file_there}

-- ---- new sources

pub with_at : (ss : List Source) (es : List (List Entry)) (i : ℕ) (s : Source) (e : List Entry) → slice_get ss i ≡ Some s → slice_get es i ≡ Some e → slice_get (with_edits ss es) i ≡ Some (record { name = s.name; text = splice s.text e })
with_at [] es i s e at is = absurd (none-some s at)
with_at (x ∷ ss) [] i s e at is = absurd (none-some e is)
with_at (x ∷ ss) (y ∷ es) zero s e at is =
    let a = same_Some x s at in
    let b = same_Some y e is in
    λ j. (let z : Source = a j in Some (record { name = z.name; text = splice z.text (b j) }))
with_at (x ∷ ss) (y ∷ es) (suc i) s e at is = with_at ss es i s e at is

-- ---- the units of a program

count_files : (sources : List Source) (p : Program Span) → IsProgramOf sources p → length p.files ≡ length sources
count_files sources p is = ap length is.files ∙ length-files sources is.units (counts sources is.units is.words is.program.read).0

pub units_are : (sources : List Source) (p : Program Span) (is : IsProgramOf sources p) → units_of p ≡ is.units
units_are sources p is = ap (λ (fs : List (File Span)). map (λ (f : File Span). f.unit) fs) is.files ∙ units_files sources is.units (counts sources is.units is.words is.program.read).0

-- ---- trees

pub many_units : (C : Choosing Span) (declarations : List DeclaredItem) (spots : ℕ → Spotted Span) (us : List (UnitTree Span)) (os : List (Rewritten (UnitTree Span))) → TransformsFiles C declarations spots us os → length os ≡ length us
many_units C declarations spots [] os h = ap length h
many_units C declarations spots (u ∷ us) os (o, ps, r, rest, are) = ap length are ∙ ap suc (many_units C declarations (λ n. spots (suc n)) us ps rest)

same_trees : (us : List (UnitTree Span)) (os : List (Rewritten (UnitTree Span))) → length us ≡ length os
    → ((i : ℕ) (u : UnitTree Span) (o : Rewritten (UnitTree Span)) → slice_get us i ≡ Some u → slice_get os i ≡ Some o → bare_unit u ≡ bare_unit o.tree)
    → map without_marks us ≡ map (λ (o : Rewritten (UnitTree Span)). without_marks o.tree) os
same_trees [] [] n h = refl
same_trees [] (o ∷ os) n h = absurd (omega (arith, n))
same_trees (u ∷ us) [] n h = absurd (omega (arith, n))
same_trees (u ∷ us) (o ∷ os) n h =
    let first = h 0 u o refl refl in
    let rest = same_trees us os (omega (arith, n)) (λ i x y a b. h (suc i) x y a b) in
    λ i. first i ∷ rest i

module _ (ask : Request) (read : ReadsSo ask) (sources : List Source) (p : Program Span) (before : IsProgramOf sources p) (name : IsGoodName ask.name)
    (text : List ℕ) (number : ℕ) (edits : List (List Entry)) (renaming : List (Decl × Decl)) (respelled : ℕ) (plan : IsPlanned p (ask.refactoring p text number) edits renaming respelled)
  where
    -- what the file of a number becomes
    abbrev pub New : ℕ → Source → Type 0
    New i old = (o : Rewritten (UnitTree Span)) × (e : List Entry) × (slice_get plan.becomes.files i ≡ Some o) × (slice_get edits i ≡ Some e) × IsNewText old.text e o.tree

    pub became : (i : ℕ) (old : Source) → slice_get sources i ≡ Some old → New i old
    became i old there =
        let f = file_there sources p before i (slice_get_within sources i old there) in
        let r = read p text number edits renaming respelled before.is name plan i f.0 f.1 in
        let same : f.0.text ≡ old.text = same_Some f.0.text old.text (sym f.2 ∙ text_there sources i old there) in
        (r.0, r.1, r.2, r.3, subst (λ (x : List ℕ). IsNewText x r.1 r.0.tree) same r.4)

    pub trees : OneReading Span → (units : List (UnitTree Span)) (words : List ℕ) → AreRead (with_edits sources edits) units words → map without_marks units ≡ map (λ (o : Rewritten (UnitTree Span)). without_marks o.tree) plan.becomes.files
    trees one units words are =
        let planned = many_units _ _ _ (units_of p) plan.becomes.files plan.becomes.rewritten ∙ length-map p.files (λ (f : File Span). f.unit) ∙ count_files sources p before in
        same_trees units plan.becomes.files (many ∙ sym planned) each
      where
        many : length units ≡ length sources
        many = (counts (with_edits sources edits) units words are).0 ∙ length-edited sources edits

        each : (i : ℕ) (u : UnitTree Span) (o : Rewritten (UnitTree Span)) → slice_get units i ≡ Some u → slice_get plan.becomes.files i ≡ Some o → bare_unit u ≡ bare_unit o.tree
        each i u o there stands =
            let lt = slice_get_within units i u there in
            let total = many in
            let old = element sources i (omega (arith, lt, total)) in
            let b = became i old.0 old.1 in
            let r = unit_read (with_edits sources edits) units words are i u there in
            let same : r.0 ≡ record { name = old.0.name; text = splice old.0.text b.1 } = same_Some r.0 (record { name = old.0.name; text = splice old.0.text b.1 }) (sym r.2 ∙ with_at sources edits i old.0 b.1 old.1 b.3) in
            let reads : Reads (splice old.0.text b.1) u = subst (λ (x : Source). Reads x.text u) same (record { items = r.3.items; lexes = r.3.lexes; is = record { shaped = r.3.is.shaped; spells = r.3.is.spells } }) in
            let tree : b.0 ≡ o = same_Some b.0 o (sym b.2 ∙ stands) in
            one.unit (splice old.0.text b.1) u o.tree reads (subst (λ (x : Rewritten (UnitTree Span)). Reads (splice old.0.text b.1) x.tree) tree b.4.reads)
