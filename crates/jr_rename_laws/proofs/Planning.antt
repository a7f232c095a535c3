-- A plan, as the laws of renaming want it.
use Rattle.std.proofs.Common.{◌≡◌, ℕ, zero, suc, List, [], ◌∷◌, map, Option, Some, refl, sym, ap, subst, ◌∙◌, inl}
use Rattle.std.specs.Prelude.{slice_get, option_map}
use Rattle.std.proofs.lemmas.Option.{slice_get-map, same_Some, none-some}
use Rattle.jr_text.specs.declared.spans.Span.{Span}
use Rattle.jr_text.specs.Edits.{Entry}
use Rattle.jr_lex.specs.Replacing.{IsName}
use Rattle.jr_ast.specs.MemberTree.{Unit as UnitTree}
use Rattle.jr_grammar.specs.Layout.{itself}
use Rattle.jr_grammar.specs.Reads.{Reads}
use Rattle.jr_table.specs.Decls.{Decl, class_decl, field_decl, method_decl, constructor_decl, local_decl}
use Rattle.jr_table.specs.Context.{Context}
use Rattle.jr_table.specs.Faults.{PackageLine, IsClean}
use Rattle.jr_table.specs.DeclaredItems.{DeclaredItem, declarations_of}
use Rattle.jr_names.specs.Refusals.{prelude_method}
use Rattle.jr_bind.specs.Programs.{File, Program, units_of}
use Rattle.jr_program_laws.specs.FileParts.{begins}
use Rattle.jr_rewrite.specs.Edited.{entries_of}
use Rattle.jr_rewrite.specs.RewriteLaws.{IsRewritten}
use Rattle.jr_rewrite.specs.Rewrites.{Choosing, RewritesUnit, RewritesUnits}
use Rattle.jr_rewrite.specs.Rewritten.{Rewritten}
use Rattle.jr_images.specs.Clashes.{IsClear}
use Rattle.jr_images.proofs.Imaging.{map_some}
use Rattle.jr_rename_laws.specs.ImageLaws.{RenamingsStayFair, PlansBecome, LocalsGiveImages, FieldsGiveImages, MethodsGiveImages, Becomes, without_marks, AreImages}
use Rattle.jr_images.specs.OneLocal.{HaveNoDots}
use Rattle.jr_images.specs.Refusals.{HasPreludeMethod}
use Rattle.jr_images.specs.RenameLaws.{IsFair}
use Rattle.jr_images.specs.Spelling.{spelling}
use Rattle.jr_images.specs.TextLaws.{AreNamed, NamesHaveNoDot, RowsAreNamed, RenamedTextsRead}
use Rattle.jr_plan.proofs.Rename.{rewrite_back}
use Rattle.jr_rename_laws.specs.PlanLaws.{IsPlanIn, IsNewText, IsNoClass}

-- each unit is rewritten
pub one_unit : (C : Choosing Span) (declarations : List DeclaredItem) (us : List (UnitTree Span)) (os : List (Rewritten (UnitTree Span))) → RewritesUnits itself C declarations us os → (i : ℕ) (u : UnitTree Span) → slice_get us i ≡ Some u → (o : Rewritten (UnitTree Span)) × (slice_get os i ≡ Some o) × RewritesUnit itself C declarations u o
one_unit C declarations [] os h i u e = absurd (none-some u e)
one_unit C declarations (v ∷ us) os (o, ps, r, rest, are) zero u e = (o, ap (λ (l : List (Rewritten (UnitTree Span))). slice_get l 0) are, subst (λ (x : UnitTree Span). RewritesUnit itself C declarations x o) (same_Some v u e) r)
one_unit C declarations (v ∷ us) os (o, ps, r, rest, are) (suc i) u e =
    let m = one_unit C declarations us ps rest i u e in
    (m.0, ap (λ (l : List (Rewritten (UnitTree Span))). slice_get l (suc i)) are ∙ m.1, m.2)

module _ (p : Program Span) (text : List ℕ) (file at : ℕ) (new : List ℕ) (edits : List (List Entry)) (renaming : List (Decl × Decl)) (respelled : ℕ) (is : IsPlanIn p text file at new edits renaming respelled) (named : RowsAreNamed Span) where
  reads : (i : ℕ) (unit : UnitTree Span) → slice_get (units_of p) i ≡ Some unit → (bytes : List ℕ) × Reads bytes unit
  reads i unit e =
      let f = map_some (λ (x : File Span). x.unit) (slice_get p.files i) unit (sym (slice_get-map (λ (x : File Span). x.unit) p.files i) ∙ e) in
      let r = is.program.reads i f.0 f.1 in
      (f.0.text, subst (Reads f.0.text) f.2 (record { items = r.items; lexes = r.lexes; is = r.is }))

  abbrev names : AreNamed p.rows × HaveNoDots p.rows
  names = named begins p.rows (units_of p) reads is.program.rows

  abbrev name_is : is.planned.found.g.name ≡ new
  name_is = is.planned.found.renames.name

  -- ---- the new texts

  pub new_text : RenamedTextsRead Span → (i : ℕ) (f : File Span) → slice_get p.files i ≡ Some f
      → (o : Rewritten (UnitTree Span)) × (e : List Entry) × (slice_get is.planned.becomes.files i ≡ Some o) × (slice_get edits i ≡ Some e) × IsNewText f.text e o.tree
  new_text law i f stands =
      let C = spelling (λ m b. (itself m b).from) p.rows is.planned.found.g (λ (c : Context). p.super_at c.member) in
      let unit : slice_get (units_of p) i ≡ Some f.unit = slice_get-map (λ (x : File Span). x.unit) p.files i ∙ ap (option_map (λ (x : File Span). x.unit)) stands in
      let o = one_unit C (declarations_of begins (units_of p)) (units_of p) is.planned.becomes.files (rewrite_back p is.planned.found.g is.planned.becomes) i f.unit unit in
      let r : IsRewritten f.text o.0 = law itself p.rows is.planned.found.g (λ (c : Context). p.super_at c.member) (declarations_of begins (units_of p)) f.text f.unit o.0 names.0
      (subst (λ (n : List ℕ). IsName n) (sym name_is) is.name) (is.program.reads i f stands) o.2 in
      let edit : slice_get edits i ≡ Some (entries_of o.0.changes) = ap (λ (l : List (List Entry)). slice_get l i) is.planned.edits_are
      ∙ slice_get-map (λ (x : Rewritten (UnitTree Span)). entries_of x.changes) is.planned.becomes.files i ∙ ap (option_map (λ (x : Rewritten (UnitTree Span)). entries_of x.changes)) o.1 in (
        o.0,
        entries_of o.0.changes,
        o.1,
        edit,
        record {
          are = r.edits;
          fits = r.fits;
          reads = r.reads;
        },
      )

  -- ---- the renaming

  no_method : (told : List ℕ) → HasPreludeMethod p.rows is.planned.found.target told → ⊥
  no_method told h = is.planned.found.no_prelude (prelude_method told) (told, inl h, refl)

  clear : IsClear begins p.rows (units_of p) is.planned.found.target is.planned.found.g.name
  clear = subst (λ (n : List ℕ). IsClear begins p.rows (units_of p) is.planned.found.target n) (sym name_is) is.planned.found.clear

  pub is_fair : RenamingsStayFair Span → NamesHaveNoDot → IsFair p.rows is.planned.found.g
  is_fair law dots = law begins p.rows (units_of p) is.planned.found.target is.planned.found.g is.program.are_rows is.program.rows is.planned.found.renames.renamed is.planned.found.renames.target.own no_method clear names.1
      (dots is.planned.found.g.name (subst (λ (n : List ℕ). IsName n) (sym name_is) is.name))

  -- ---- the new program

  abbrev New : List (UnitTree Span) → Type 0
  New news = map without_marks news ≡ map (λ (o : Rewritten (UnitTree Span)). without_marks o.tree) is.planned.becomes.files

  becomes : PlansBecome Span → (packages : List (Option PackageLine)) → IsClean packages (declarations_of begins (units_of p)) → (news : List (UnitTree Span)) → New news → Becomes itself begins packages p.rows p.super_at (units_of p) is.planned.found.target is.planned.found.g news
  becomes law packages clean news e = law begins packages p news text file at new edits renaming respelled is.planned is.program.are_rows is.program.rows clean names.1 e

  pub are_images : PlansBecome Span → LocalsGiveImages Span Span → FieldsGiveImages Span Span → MethodsGiveImages Span Span → IsNoClass is.planned.found.target → (packages : List (Option PackageLine)) → IsClean packages (declarations_of begins (units_of p)) → (news : List (UnitTree Span)) → New news
      → AreImages itself begins packages p.rows (units_of p) is.planned.found.g news
  are_images plans locals fields methods kind packages clean news e = by is.planned.found.target kind (becomes plans packages clean news e)
    where
      by : (d : Decl) → IsNoClass d → Becomes itself begins packages p.rows p.super_at (units_of p) d is.planned.found.g news → AreImages itself begins packages p.rows (units_of p) is.planned.found.g news
      by (local_decl k) h b = locals itself begins k packages p.rows p.super_at (units_of p) is.planned.found.g news b
      by (field_decl k) h b = fields itself begins k packages p.rows p.super_at (units_of p) is.planned.found.g news b
      by (method_decl k) h b = methods itself begins k packages p.rows p.super_at (units_of p) is.planned.found.g news b
      by (class_decl k) h b = absurd h
      by (constructor_decl k) h b = absurd h
