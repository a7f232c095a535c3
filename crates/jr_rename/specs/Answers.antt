-- The outcome of a rename of a target, exact: the same as what is planned or refused, without the
-- place where the target is named.
use Rattle.std.specs.Prelude.{◌≡◌, ℕ, ◌⊎◌, List, [], Some, None, map, slice_get, sum_by}
use Rattle.jr_text.specs.declared.spans.Span.{Span}
use Rattle.jr_text.specs.Edits.{Entry}
use Rattle.jr_ast.specs.MemberTree as syntax
use Rattle.jr_table.specs.Decls.{Decl}
use Rattle.jr_names.specs.Refusals.{Refusal}
use Rattle.jr_names.specs.Replies.{Outcome, planned, not_planned}
use Rattle.jr_bind.specs.Programs.{Program, units_of}
use Rattle.jr_program_laws.specs.FileParts.{begins}
use Rattle.jr_rewrite.specs.Rewritten.{Rewritten}
use Rattle.jr_rewrite.specs.Edited.{entries_of}
use Rattle.jr_images.specs.Families.{AreRenamed}
use Rattle.jr_images.specs.Images.{Renaming}
use Rattle.jr_images.specs.Clashes.{IsClear}
use Rattle.jr_images.specs.Renames.{pairs_of, Rewrite, OfPrelude, Clashes}
use Rattle.jr_plan.specs.Reasons as reason
use Rattle.jr_plan.specs.Renaming.{rename_of}
use Rattle.jr_grammar.specs.Layout.{itself}

module _ (p : Program Span) where
  -- the target gets the name together with these
  pub record Gives (d : Decl) (new : List ℕ) (g : Renaming) : Type 0 where
    pub renamed : AreRenamed p.rows d g.decls
    pub name : g.name ≡ new

  -- no method of the prelude would change
  abbrev pub SparesPrelude : Decl → (new : List ℕ) → Type 0
  SparesPrelude d new =
      (q : Refusal) → OfPrelude itself p.rows p.super_at (units_of p) d new q → ⊥

  abbrev pub KeepsDispatch : Renaming → Type 0
  KeepsDispatch g = reason.KeepsDispatch p (rename_of p g)

  -- the program is rewritten, and nothing is lost
  pub record Rewrites (g : Renaming) (edits : List (List Entry)) (respelled : ℕ) : Type 0 where
    pub files : List (Rewritten (syntax.Unit Span))
    pub rewrite : Rewrite itself p.rows p.super_at (units_of p) g files
    pub kept : (i : ℕ) (o : Rewritten (syntax.Unit Span)) → slice_get files i ≡ Some o
        → o.losses ≡ []
    pub edits_are : edits
        ≡ map (λ (o : Rewritten (syntax.Unit Span)). entries_of o.changes) files
    pub respelled_is : respelled
        ≡ sum_by (λ (o : Rewritten (syntax.Unit Span)). o.respelled) files

  -- ---- what comes of a renaming

  -- that keeps dispatch
  abbrev pub AnswersKeeping : Renaming → Outcome → Type 0
  AnswersKeeping g (planned edits renaming respelled lost) =
      Rewrites g edits respelled × (renaming ≡ pairs_of p.rows g) × (lost ≡ None)
  AnswersKeeping g (not_planned r) = reason.Loses p (rename_of p g) r

  -- of a target that collides with nothing
  abbrev pub AnswersOf : Renaming → Outcome → Type 0
  AnswersOf g o = ((r : Refusal) × (o ≡ not_planned r) × reason.Overrides p (rename_of p g) r)
      ⊎ (KeepsDispatch g × AnswersKeeping g o)

  -- ---- what comes of a target

  -- whose new name changes no method of the prelude
  abbrev pub AnswersSparing : Decl → (new : List ℕ) → Renaming → Outcome → Type 0
  AnswersSparing d new g o = ((r : Refusal) × (o ≡ not_planned r)
      × Clashes itself p.rows p.super_at (units_of p) d new r)
      ⊎ (IsClear begins p.rows (units_of p) d new × AnswersOf g o)

  abbrev pub Answers : Decl → (new : List ℕ) → Outcome → Type 0
  Answers d new o = (g : Renaming) × Gives d new g
      × (((r : Refusal) × (o ≡ not_planned r)
      × OfPrelude itself p.rows p.super_at (units_of p) d new r)
      ⊎ (SparesPrelude d new × AnswersSparing d new g o))
