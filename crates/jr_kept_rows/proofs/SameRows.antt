-- Where files declare the same, their rows are the same.
use Rattle.std.proofs.Common.{◌≡◌, ℕ, suc, List, [], ◌∷◌, Some, refl, sym, ap, subst, ◌∙◌, arith}
use Rattle.std.specs.Prelude.{◌+◌, map, slice_get}
use Rattle.jr_text.specs.declared.spans.Span.{Span}
use Rattle.jr_ast.specs.MemberTree as syntax
use Rattle.jr_ast.specs.Remarked.{map_unit}
use Rattle.jr_grammar.specs.Layout.{itself}
use Rattle.jr_table.specs.DeclaredItems.{DeclaredItem, declarations_of}
use Rattle.jr_table.specs.ProgramRows.{AreProgramRows}
use Rattle.jr_members.specs.WrittenLaws.{IsWritten}
use Rattle.jr_bind.specs.Programs.{Program, IsProgram, units_of}
use Rattle.jr_build_rows.proofs.OneRows.{program_once}
use Rattle.jr_program_laws.specs.FileParts.{begins}
use Rattle.jr_program_laws.proofs.MeansOnce.{means_once, parent_once}
use Rattle.jr_rewrite.specs.Rewritten.{Rewritten}
use Rattle.jr_rewrite.specs.Spots.{Spotted}
use Rattle.jr_rewrite.specs.Rewrites.{TransformsUnit}
use Rattle.jr_plan.specs.Transforms.{Transform, Transformed, TransformsFiles, choosing_of}
use Rattle.jr_one_plans.proofs.DoAlike.{MakeAlike}
use Rattle.jr_rename_laws.specs.ImageLaws.{no_mark}
use Rattle.jr_rename_laws.specs.Beside.{UnitsBeside}
use Rattle.jr_kept_rows.proofs.BareTrees.{cons_head, cons_rest}
use Rattle.jr_kept_rows.proofs.ItemsBeside.{Head, Both, all_declarations}
use Rattle.jr_kept_rows.proofs.RowsBeside.{program_rows}
use Rattle.jr_kept_rows.proofs.Heads.{Laws, LeavesHeads, head_kept, member_kept}
use Rattle.jr_kept_rows.proofs.FilesBeside.{unit_goes}

module _ (laws : Laws) (p : Program Span) (program : IsProgram itself (λ m b. Unit {0}) p) (t : Transform) (leaves : LeavesHeads p t) (alike : MakeAlike t t) where
  abbrev pub ss : List DeclaredItem
  ss = declarations_of begins (units_of p)

  -- files from this number on, as they are numbered from there, and as they are in the program
  files_go : (first : ℕ) (us : List (syntax.Unit Span)) (local : ℕ → Spotted Span) → ((i : ℕ) → local i ≡ t.spots (first + i)) → ((i : ℕ) (u : syntax.Unit Span) → slice_get us i ≡ Some u → slice_get (units_of p) (first + i) ≡ Some u)
      → (os : List (Rewritten (syntax.Unit Span))) → TransformsFiles (choosing_of p t) ss local us os → (vs : List (syntax.Unit Span)) → map (λ (v : syntax.Unit Span). map_unit no_mark v) vs ≡ map (λ (o : Rewritten (syntax.Unit Span)). map_unit no_mark o.tree) os
      → UnitsBeside begins begins Head Both us vs
  files_go first [] local same there os is [] e = tt
  files_go first [] local same there os is (v ∷ vs) e = let f = e ∙ ap (λ (xs : List (Rewritten (syntax.Unit Span))). map (λ (o : Rewritten (syntax.Unit Span)). map_unit no_mark o.tree) xs) is in absurd cc
  files_go first (u ∷ us) local same there os (o, rest, unit, more, is) [] e = let f = e ∙ ap (λ (xs : List (Rewritten (syntax.Unit Span))). map (λ (x : Rewritten (syntax.Unit Span)). map_unit no_mark x.tree) xs) is in absurd cc
  files_go first (u ∷ us) local same there os (o, rest, unit, more, is) (v ∷ vs) e =
      let f = e ∙ ap (λ (xs : List (Rewritten (syntax.Unit Span))). map (λ (x : Rewritten (syntax.Unit Span)). map_unit no_mark x.tree) xs) is in
      let number : first + 0 ≡ first = omega arith in
      let spot : local 0 ≡ t.spots first = same 0 ∙ ap t.spots number in
      let stands : slice_get (units_of p) first ≡ Some u = ap (slice_get (units_of p)) (sym number) ∙ there 0 u refl in (
        unit_goes ss (choosing_of p t) (t.spots first) (alike.spots first) (λ base of xs. leaves.members first base of xs) (λ base outer c. leaves.whole first base outer c)
            (λ k base part. IsWritten begins (units_of p) first k base part)
            (λ outer base m mods w y ms good x made. head_kept laws p program t leaves alike first outer base m mods w y ms good x made)
            (λ k base y good x made. member_kept laws p program t leaves alike first k base y good x made)
            u (λ k base part h. record { unit = u; stands = stands; writes = h }) o
            (subst (λ (S : Spotted Span). TransformsUnit itself (choosing_of p t) S ss u o) spot unit) v (cons_head _ _ _ _ f),
        files_go (suc first) us (λ i. local (suc i)) (λ i. same (suc i) ∙ ap t.spots (omega arith)) (λ i x at. ap (slice_get (units_of p)) (omega arith) ∙ there (suc i) x at) rest more vs (cons_rest _ _ _ _ f),
      )

  module _ (q : Program Span) (behind : IsProgram itself (λ m b. Unit {0}) q) (becomes : Transformed p t)
      (trees : map (λ (v : syntax.Unit Span). map_unit no_mark v) (units_of q) ≡ map (λ (o : Rewritten (syntax.Unit Span)). map_unit no_mark o.tree) becomes.files) where
    pub beside : UnitsBeside begins begins Head Both (units_of p) (units_of q)
    beside = files_go 0 (units_of p) t.spots (λ i. ap t.spots (omega arith)) (λ i u at. ap (slice_get (units_of p)) (omega arith) ∙ at) becomes.files becomes.rewritten (units_of q) trees

    abbrev ts : List DeclaredItem
    ts = declarations_of begins (units_of q)

    pub rows_kept : q.rows ≡ p.rows
    rows_kept =
        let images : AreProgramRows ts p.rows = program_rows ss ts (all_declarations (units_of p) (units_of q) beside) p.rows program.rows in
        program_once ts (λ k w. means_once [] ts behind.clean k w) (λ k. parent_once [] ts behind.clean k) q.rows p.rows behind.rows images
