-- What was analysed of the old sources is there again.
use Rattle.std.proofs.Common.{◌≡◌, ℕ, List, refl, sym, ap, subst, ◌∙◌}
use Rattle.std.specs.Prelude.{◌↔◌, Option, Some, None, slice_get}
use Rattle.std.proofs.lemmas.Option.{same_Some, none-some}
use Rattle.jr_lex.specs.declared.items.Item.{Item}
use Rattle.jr_table.specs.Decls.{Decl}
use Rattle.jr_table.specs.Rows.{Row}
use Rattle.jr_table.specs.DeclaredItems.{declarations_of}
use Rattle.jr_table.specs.ProgramRows.{AreProgramRows}
use Rattle.jr_table.specs.declared.rules.Rule.{Rule}
use Rattle.jr_members.specs.WrittenMembers.{written_members}
use Rattle.jr_program_laws.specs.FileParts.{begins, BindsAt, BreaksAt, InFile, BeginsToken}
use Rattle.jr_program.specs.declared.bounds.MemberBound.{MemberBound}
use Rattle.jr_program.specs.Members.{AnyOf, MemberRefers, MemberErrs, AreEachBound, AreInFileOrder}
use Rattle.jr_sources.specs.declared.analyses.Analysis.{Analysis}
use Rattle.jr_sources.specs.declared.analyses.Analysed.{Analysed}
use Rattle.jr_sources.specs.declared.analyses.Analysed.TheVariants as what
use Rattle.jr_sources.specs.declared.analyses.EarlierAnalysis.{EarlierAnalysis}
use Rattle.jr_sources.specs.declared.analyses.FormerAnalysis.{FormerAnalysis}
use Rattle.jr_sources.specs.Sources.{Source}
use Rattle.jr_sources.specs.Analysed.{IsAnalysis, IsKeptAnalysis, IsFilled}
use Rattle.jr_sources.specs.HadBack.{HasBack, CanHaveBack, GivesBack, IsSameAnalysis}
use Rattle.jr_session.specs.declared.tries.Judged.{Judged}
use Rattle.jr_session.specs.declared.tries.Judged.TheVariants as judges
use Rattle.jr_session.specs.Trying.{IsOfAnalysed}
use Rattle.jr_session.specs.HadBack.{IsHadBack, IsHadBackBy, IsStillThere, IsLeftBy, IsAnalysisOf}

-- ---- behind a judgement

module _ (later : Analysis) where
  had : (given : Option EarlierAnalysis) (former : Option FormerAnalysis) → CanHaveBack given later.table later.members.items former → (left : Option EarlierAnalysis) → IsHadBack former later left → IsStillThere given left
  had None former can left h = subst (λ (o : Option FormerAnalysis). IsHadBack o later left) can h
  had (Some e) former (f, is, back) left h =
      let r : IsHadBack (Some f) later left = subst (λ (o : Option FormerAnalysis). IsHadBack o later left) is h in
      (r.0, r.1, record { table = sym r.2.table ∙ back.table; members = sym r.2.members ∙ back.members })

  pub left_by : (given : Option EarlierAnalysis) (former : Option FormerAnalysis) → CanHaveBack given later.table later.members.items former → (left : Option EarlierAnalysis) (j : Judged) → IsHadBackBy former later left j → IsLeftBy given left j
  left_by given former can left (judges.Wrong fault) h = had given former can left h
  left_by given former can left judges.Crossed h = had given former can left h
  left_by given former can left (judges.Sound analysis) h = tt

-- nothing was taken
pub still_there : (given left : Option EarlierAnalysis) → left ≡ given → IsStillThere given left
still_there None left e = e
still_there (Some x) left e = (x, e, record { table = refl; members = refl })

-- ---- it is what the sources give

-- what all that is said of an analysis reads of it
abbrev Known : Type 0
Known = List Row × List MemberBound

pub same_analysis : (sources : List Source) (a b : Analysis) → IsSameAnalysis a b → IsAnalysis sources a → IsAnalysis sources b
same_analysis sources a b same is =
    let from : Known = (a.table, a.members.items) in
    let to : Known = (b.table, b.members.items) in
    let path : from ≡ to = λ i. (sym same.table i, sym same.members i) in
    record {
      units = is.units;
      words = is.words;
      program = is.program;
      rows = subst (λ (k : Known). AreProgramRows (declarations_of begins is.units) k.0) path is.rows;
      tokens = is.tokens;
      lexed = is.lexed;
      order = subst (λ (k : Known). AreInFileOrder k.1) path is.order;
      references = subst (λ (k : Known). (file : ℕ) (items : List Item) (at : ℕ) (d : Decl) → slice_get is.tokens file ≡ Some items
          → AnyOf (MemberRefers file at d) k.1 ↔ InFile is.units file (λ w base part. BindsAt k.0 items w base part at d)) path is.references;
      errors = subst (λ (k : Known). (file : ℕ) (items : List Item) (at : ℕ) (r : Rule) → slice_get is.tokens file ≡ Some items
          → AnyOf (MemberErrs file at r) k.1 ↔ InFile is.units file (λ w base part. BreaksAt k.0 items w base part at r)) path is.errors;
      each = subst (λ (k : Known). AreEachBound k.0 is.tokens (written_members begins k.0 is.units) k.1) path is.each;
      placed = subst (λ (k : Known). (file at : ℕ) (r : Rule) → AnyOf (MemberErrs file at r) k.1
          → (items : List Item) × (slice_get is.tokens file ≡ Some items) × BeginsToken items at) path is.placed;
      once = subst (λ (k : Known). (file at : ℕ) (d e : Decl) → AnyOf (MemberRefers file at d) k.1 → AnyOf (MemberRefers file at e) k.1 → d ≡ e) path is.once;
    }

-- what was kept of the sources, taken with the files that stay, and had back
module _ (sources : List Source) (analysed taken : Option Analysis) (kept : IsKeptAnalysis sources analysed) (is : taken ≡ analysed) where
  pub kept_again : (given left : Option EarlierAnalysis) → ((e : EarlierAnalysis) → given ≡ Some e → taken ≡ Some e.analysis) → IsStillThere given left → (new : Option Analysis) → IsAnalysisOf left new → IsKeptAnalysis sources new
  kept_again None left of there new h a e = absurd (none-some a (sym (subst (λ (o : Option EarlierAnalysis). IsAnalysisOf o new) there h) ∙ e))
  kept_again (Some x) left of (f, at, same) new h a e =
      let now : new ≡ Some f.analysis = subst (λ (o : Option EarlierAnalysis). IsAnalysisOf o new) at h in
      subst (IsAnalysis sources) (same_Some f.analysis a (sym now ∙ e)) (same_analysis sources x.analysis f.analysis same (kept x.analysis (sym is ∙ of x refl)))

  pub filled_again : (given left : Option EarlierAnalysis) → ((a : Analysis) → taken ≡ Some a → (e : EarlierAnalysis) × (given ≡ Some e)) → IsStillThere given left → (new : Option Analysis) → IsAnalysisOf left new → IsFilled analysed → IsFilled new
  filled_again None left of there new h (a, e) = let g = of a (is ∙ e) in absurd (none-some g.0 g.1)
  filled_again (Some x) left of (f, at, same) new h filled = (f.analysis, subst (λ (o : Option EarlierAnalysis). IsAnalysisOf o new) at h)
