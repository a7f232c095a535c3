-- What was analysed of earlier sources is had back, with what was analysed of later ones by it.
use Rattle.std.specs.Prelude.{◌≡◌, List, Option, Some, None}
use Rattle.jr_table.specs.Rows.{Row}
use Rattle.jr_program.specs.declared.bounds.MemberBound.{MemberBound}
use Rattle.jr_cache.specs.HadBack.{bounds_before}
use Rattle.jr_sources.specs.declared.analyses.Analysis.{Analysis}
use Rattle.jr_sources.specs.declared.analyses.Analysed.{Analysed}
use Rattle.jr_sources.specs.declared.analyses.Analysed.TheVariants as what
use Rattle.jr_sources.specs.declared.analyses.EarlierAnalysis.{EarlierAnalysis}
use Rattle.jr_sources.specs.declared.analyses.FormerAnalysis.{FormerAnalysis}

-- the rows of the earlier sources; none, where the later ones have the same
abbrev pub table_before : Option (List Row) → List Row → List Row
table_before None rows = rows
table_before (Some before) rows = before

-- with the rows and the bounds of the later sources it gives back the earlier analysis
pub record GivesBack (e : EarlierAnalysis) (rows : List Row) (bounds : List MemberBound)
    (f : FormerAnalysis) : Type 0 where
  pub table : table_before f.table rows ≡ e.analysis.table
  pub members : bounds_before f.members bounds ≡ e.analysis.members.items

abbrev pub HasBack : EarlierAnalysis → List Row → List MemberBound → Option FormerAnalysis
    → Type 0
HasBack e rows members former = (f : FormerAnalysis) × (former ≡ Some f)
    × GivesBack e rows members f

-- what was analysed of earlier sources, if it was given, can be had back, and nothing else
abbrev pub CanHaveBack : Option EarlierAnalysis → List Row → List MemberBound
    → Option FormerAnalysis → Type 0
CanHaveBack None rows members former = former ≡ None
CanHaveBack (Some e) rows members former = HasBack e rows members former

-- the same of what comes of an analysis; where that is a fault, all is as it was
abbrev pub IsNotLost : (given left : Option EarlierAnalysis) → Analysed → Type 0
IsNotLost given left (what.Program later former) =
    CanHaveBack given later.table later.members.items former
IsNotLost given left (what.Fault f) = left ≡ given

-- both have the same rows, and the same is bound of their members
pub record IsSameAnalysis (a b : Analysis) : Type 0 where
  pub table : b.table ≡ a.table
  pub members : b.members.items ≡ a.members.items
