-- What comes of new texts before they are kept. Only private clauses cite this.
use Rattle.std.specs.Prelude.{
  ◌≡◌,
  ◌==◌,
  ℕ,
  List,
  length,
  slice_get,
  Bool,
  true,
  false,
  Option,
  Some,
}
use Rattle.std.specs.List.{list_any}
use Rattle.jr_text.specs.declared.spans.Span.{Span}
use Rattle.jr_bind.specs.Programs.{Program}
use Rattle.jr_sources.specs.declared.analyses.Analysis.{Analysis}
use Rattle.jr_sources.specs.declared.analyses.EarlierAnalysis.{EarlierAnalysis}
use Rattle.jr_sources.specs.Analysed.{IsAnalysis, IsSourceWrong}
use Rattle.jr_sources.specs.BindingErrors.{AreSound, IsFirstWrong}
use Rattle.jr_sources.specs.Sources.{Source}
use Rattle.jr_sources.specs.Whole.{IsProgramOf}
use Rattle.jr_session.specs.declared.changes.Change.{Change}
use Rattle.jr_session.specs.declared.tries.Judged.{Judged}
use Rattle.jr_session.specs.declared.tries.Judged.TheVariants as judges
use Rattle.jr_session.specs.declared.tries.Tried.{Tried}
use Rattle.jr_session.specs.declared.tries.Tried.TheVariants as tries
use Rattle.jr_session.specs.Changes.{put_back, AreOfFiles}

-- the sources are a program without faults and errors
abbrev pub AreSomeProgram : List Source → Type 0
AreSomeProgram sources = (q : Program Span) × IsProgramOf sources q

-- and so nothing is wrong with them
pub record AreWhole (sources : List Source) : Type 0 where
  pub some : AreSomeProgram sources
  pub right : (name : List ℕ) (place : ℕ) (kind : List ℕ) → IsFirstWrong sources name place kind
      → ⊥

-- What is first wrong with the sources, or else what is analysed of them, where they may stay.
abbrev pub IsJudged : List Source → (may_stay : Bool) → Judged → Type 0
IsJudged sources may_stay (judges.Wrong fault) = IsSourceWrong sources fault
IsJudged sources may_stay judges.Crossed = (may_stay ≡ false) × AreWhole sources
IsJudged sources may_stay (judges.Sound analysis) =
    IsAnalysis sources analysis × AreSound sources × (may_stay ≡ true)

-- What is first wrong with the new sources, and the old ones are there again; or nothing is, but
-- they may not stay, and the old ones are there again; or else the new ones are there, with what is
-- analysed of them, and the texts that they had.
abbrev pub IsTried : (sources : List Source) → (changes : List Change) → (may_stay : Bool)
    → (now : List Source) → Tried → Type 0
IsTried sources changes may_stay now (tries.Wrong fault) =
    (now ≡ sources) × IsSourceWrong (put_back sources changes) fault
IsTried sources changes may_stay now tries.Crossed =
    (now ≡ sources) × (may_stay ≡ false) × AreWhole (put_back sources changes)
IsTried sources changes may_stay now (tries.Sound analysis had) =
    (now ≡ put_back sources changes)
    × (put_back now had.items ≡ sources)
    × AreOfFiles (length sources) had.items
    × IsAnalysis now analysis
    × AreSound now
    × (may_stay ≡ true)

-- a text of the file is among those that change
abbrev pub changes_file : List Change → (file : ℕ) → Bool
changes_file changes file = list_any (λ (c : Change). c.file == file) changes

-- a file that is said to stay is none of those that get another text
abbrev pub AreUnchanged : List Change → (stays : List Bool) → Type 0
AreUnchanged changes stays = (file : ℕ) → slice_get stays file ≡ Some true
    → changes_file changes file ≡ false

-- what was analysed, if it was, with these
abbrev pub IsOfAnalysed : Option Analysis → (stays : List Bool) → Option EarlierAnalysis → Type 0
IsOfAnalysed analysed stays given = (e : EarlierAnalysis) → given ≡ Some e
    → (analysed ≡ Some e.analysis) × (e.stays.items ≡ stays)
