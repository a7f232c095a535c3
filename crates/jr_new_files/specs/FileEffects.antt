-- What is gathered of the files of a program, exact.
use Rattle.std.specs.Prelude.{◌≡◌, ℕ, List, Some, map, length, slice_get, MatchOption}
use Rattle.jr_text.specs.declared.spans.Span.{Span}
use Rattle.jr_table.specs.Context.{Context}
use Rattle.jr_members.specs.WrittenMembers.{WrittenMember, written_members}
use Rattle.jr_bind.specs.Programs.{Program, units_of}
use Rattle.jr_program_laws.specs.FileParts.{begins}
use Rattle.jr_new_words.specs.Mappings.{Mapping}
use Rattle.jr_new_words.specs.Spelled.{spelling}
use Rattle.jr_new_bodies.specs.declared.outputs.Output as raw
use Rattle.jr_new_bodies.specs.OutputView.{gathered}
use Rattle.jr_new_bodies.specs.Effects.{Effect, both}
use Rattle.jr_new_files.specs.Files.{OneGives, AllGive}
use Rattle.jr_new_files.specs.FileLaws.{AreGathered}
use Rattle.jr_rewrite.specs.Edited.{AreInOrder}
use Rattle.jr_grammar.specs.Layout.{itself}

abbrev pub effects_of : List raw.Output → List Effect
effects_of os = map gathered os

abbrev pub members_of : Program Span → List (WrittenMember Span)
members_of p = written_members begins p.rows (units_of p)

module _ (p : Program Span) (m : Mapping) where
  -- the member adds to each file what it gives there
  pub record IsPut (w : WrittenMember Span) (old new : List Effect) : Type 0 where
    pub as_many : length new ≡ length old
    pub each : (file : ℕ) (e : Effect) → slice_get new file ≡ Some e → (d : Effect) × (f : Effect)
        × (slice_get old file ≡ Some d)
        × OneGives itself (spelling begins p.rows m (λ (c : Context). p.super_at c.member))
        file w f × (e ≡ both d f)

  -- the same of the member of the number, if there is one
  abbrev pub AreNext : (number : ℕ) → (old new : List Effect) → Type 0
  AreNext number old new =
      MatchOption (slice_get (members_of p) number) (new ≡ old) (λ w. IsPut w old new)

  -- so many files, and each has what these members give
  pub record AreSoFar (ws : List (WrittenMember Span)) (es : List Effect) : Type 0 where
    pub as_many : length es ≡ length p.files
    pub each : (file : ℕ) (e : Effect) → slice_get es file ≡ Some e
        → AllGive itself (spelling begins p.rows m (λ (c : Context). p.super_at c.member))
        file ws e

  abbrev pub AreAll : List Effect → Type 0
  AreAll es = AreGathered itself p.rows p.super_at (units_of p) m es

-- the changes of each are in order
abbrev pub AllInOrder : List Effect → Type 0
AllInOrder es = (file : ℕ) (e : Effect) → slice_get es file ≡ Some e → AreInOrder 0 e.changes
