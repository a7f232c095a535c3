-- What was analysed of the old sources, behind new ones with which something is wrong. Only private
-- clauses cite this.
use Rattle.std.specs.Prelude.{◌≡◌, Option, Some, None}
use Rattle.jr_sources.specs.declared.analyses.Analysis.{Analysis}
use Rattle.jr_sources.specs.declared.analyses.EarlierAnalysis.{EarlierAnalysis}
use Rattle.jr_sources.specs.Analysed.{IsFilled}
use Rattle.jr_sources.specs.declared.analyses.FormerAnalysis.{FormerAnalysis}
use Rattle.jr_sources.specs.HadBack.{GivesBack, IsSameAnalysis}
use Rattle.jr_session.specs.declared.tries.Judged.{Judged}
use Rattle.jr_session.specs.declared.tries.Judged.TheVariants as judges
use Rattle.jr_session.specs.declared.tries.Tried.{Tried}
use Rattle.jr_session.specs.declared.tries.Tried.TheVariants as tries

-- this is had back, with what was analysed later
abbrev pub IsHadBack : Option FormerAnalysis → (later : Analysis) → (left : Option EarlierAnalysis)
    → Type 0
IsHadBack None later left = left ≡ None
IsHadBack (Some f) later left = (e : EarlierAnalysis) × (left ≡ Some e)
    × GivesBack e later.table later.members.items f

-- it is, where something is wrong or the sources may not stay
abbrev pub IsHadBackBy : Option FormerAnalysis → (later : Analysis)
    → (left : Option EarlierAnalysis) → Judged → Type 0
IsHadBackBy former later left (judges.Wrong fault) = IsHadBack former later left
IsHadBackBy former later left judges.Crossed = IsHadBack former later left
IsHadBackBy former later left (judges.Sound analysis) = Unit {0}

-- what was given is there, and nothing else
abbrev pub IsStillThere : (given left : Option EarlierAnalysis) → Type 0
IsStillThere None left = left ≡ None
IsStillThere (Some e) left = (f : EarlierAnalysis) × (left ≡ Some f)
    × IsSameAnalysis e.analysis f.analysis

-- it is there where something is wrong or the sources may not stay
abbrev pub IsLeftBy : (given left : Option EarlierAnalysis) → Judged → Type 0
IsLeftBy given left (judges.Wrong fault) = IsStillThere given left
IsLeftBy given left judges.Crossed = IsStillThere given left
IsLeftBy given left (judges.Sound analysis) = Unit {0}

abbrev pub IsLeft : (given left : Option EarlierAnalysis) → Tried → Type 0
IsLeft given left (tries.Wrong fault) = IsStillThere given left
IsLeft given left tries.Crossed = IsStillThere given left
IsLeft given left (tries.Sound analysis had) = Unit {0}

-- it is given, if it was analysed
abbrev pub IsGiven : Option Analysis → Option EarlierAnalysis → Type 0
IsGiven analysed given = (a : Analysis) → analysed ≡ Some a
    → (e : EarlierAnalysis) × (given ≡ Some e)

abbrev pub IsAnalysisOf : Option EarlierAnalysis → Option Analysis → Type 0
IsAnalysisOf None analysed = analysed ≡ None
IsAnalysisOf (Some e) analysed = analysed ≡ Some e.analysis

-- what is filled is so where the old sources are there again
abbrev pub StaysFilled : (old new : Option Analysis) → Tried → Type 0
StaysFilled old new (tries.Wrong fault) = IsFilled old → IsFilled new
StaysFilled old new tries.Crossed = IsFilled old → IsFilled new
StaysFilled old new (tries.Sound analysis had) = Unit {0}
