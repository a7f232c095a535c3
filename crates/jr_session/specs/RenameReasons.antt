-- Why a rename is refused, each reason by itself: what the step finds before it isn't said here.
use Rattle.std.specs.Prelude.{◌≡◌, ℕ, ◌≤◌, List, map}
use Rattle.jr_text.specs.declared.spans.Span.{Span}
use Rattle.jr_text.specs.Edits.{Entry}
use Rattle.jr_lex.specs.Replacing.{IsName}
use Rattle.jr_ast.specs.MemberTree as syntax
use Rattle.jr_grammar.specs.Layout.{itself}
use Rattle.jr_table.specs.Decls.{Decl}
use Rattle.jr_names.specs.declared.steps.Step.TheVariants as step
use Rattle.jr_names.specs.Refusals.{
  Refusal,
  no_such_file,
  bad_place,
  bad_name,
  source_error,
  would_not_compile,
  too_long,
}
use Rattle.jr_bind.specs.Programs.{Program, units_of}
use Rattle.jr_rewrite.specs.Edited.{entries_of}
use Rattle.jr_rewrite.specs.Rewritten.{Rewritten}
use Rattle.jr_images.specs.Images.{Renaming}
use Rattle.jr_images.specs.Renames as renames
use Rattle.jr_plan.specs.Reasons.{Overrides, Loses}
use Rattle.jr_plan.specs.Renaming.{rename_of}
use Rattle.jr_sources.specs.Asking.{CanStand}
use Rattle.jr_sources.specs.BindingErrors.{IsFirstWrong}
use Rattle.jr_sources.specs.Sources.{IsFile, HasName, LacksFile, texts_of}
use Rattle.jr_sources.specs.Whole.{IsProgramOf}
use Rattle.jr_session.specs.Lengths.{AreTooLong}
use Rattle.jr_session.specs.NewTexts.{with_edits}
use Rattle.jr_session.specs.Refusing.{rank_of}
use Rattle.jr_session.specs.States.{State}

-- ---- 5 to 16: of a program, in which the file of the number has the text

module _ (p : Program Span) (text : List ℕ) (number at : ℕ) (new : List ℕ) where
  -- this is renamed
  abbrev pub Targets : Decl → Renaming → Type 0
  Targets d g = renames.Renames itself p.rows p.super_at (units_of p) text number at new d g

  pub data IsPlanReason (r : Refusal) : Type 0 where
    no_target : renames.LacksTarget itself p.rows p.super_at (units_of p) text number at r
        → IsPlanReason r
    of_prelude : (d : Decl) (g : Renaming) → Targets d g
        → renames.OfPrelude itself p.rows p.super_at (units_of p) d new r → IsPlanReason r
    clashes : (d : Decl) (g : Renaming) → Targets d g
        → renames.Clashes itself p.rows p.super_at (units_of p) d new r → IsPlanReason r
    overrides : (d : Decl) (g : Renaming) → Targets d g → Overrides p (rename_of p g) r
        → IsPlanReason r
    loses : (d : Decl) (g : Renaming) → Targets d g → Loses p (rename_of p g) r → IsPlanReason r

-- ---- all of them

module _ (s : State) (file : List ℕ) (at : ℕ) (new : List ℕ) where
  -- where the target is renamed, these are the edits of each file, also where references are lost
  pub record WouldEdit (edits : List (List Entry)) : Type 0 where
    pub p : Program Span
    pub number : ℕ
    pub text : List ℕ
    pub stands : IsFile s.files number file text
    pub program : IsProgramOf s.files p
    pub target : Decl
    pub g : Renaming
    pub is : Targets p text number at new target g
    pub files : List (Rewritten (syntax.Unit Span))
    pub rewrite : renames.Rewrite itself p.rows p.super_at (units_of p) g files
    pub edits_are : edits ≡ map (λ (o : Rewritten (syntax.Unit Span)). entries_of o.changes) files

  pub data IsReason (r : Refusal) : Type 0 where
    no_file : LacksFile s.files file → r ≡ no_such_file file → IsReason r
    at_no_place : (number : ℕ) (text : List ℕ) → IsFile s.files number file text
        → (CanStand text at → ⊥) → r ≡ bad_place file at → IsReason r
    no_name : (IsName new → ⊥) → r ≡ bad_name new → IsReason r
    wrong : (name : List ℕ) (place : ℕ) (kind : List ℕ) → IsFirstWrong s.files name place kind
        → r ≡ source_error name place kind → IsReason r
    by_plan : (p : Program Span) (number : ℕ) (text : List ℕ) → IsFile s.files number file text
        → IsProgramOf s.files p → IsPlanReason p text number at new r → IsReason r
    long : (edits : List (List Entry)) (len : ℕ) → WouldEdit edits
        → AreTooLong (texts_of (with_edits s.files edits)) len → r ≡ too_long len → IsReason r
    breaks : (edits : List (List Entry)) (number place : ℕ) (name kind : List ℕ)
        → WouldEdit edits → HasName s.files number name
        → IsFirstWrong (with_edits s.files edits) name place kind
        → r ≡ would_not_compile (record { file = number; at = place }) kind → IsReason r

  -- where it stands in the order of refusals
  abbrev pub rank : Refusal → ℕ
  rank r = rank_of (step.Rename file at new) r

  -- it holds, and none before it does
  pub record IsFirstReason (r : Refusal) : Type 0 where
    pub is : IsReason r
    pub first : (q : Refusal) → IsReason q → rank r ≤ rank q
