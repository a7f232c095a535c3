-- The program behind a refactoring, whichever it is: what the refactoring shows of its plan is what
-- the step promises.
use Rattle.std.proofs.Common.{◌≡◌, ℕ, List, map, length, Some, refl, sym, ap, subst, ◌∙◌}
use Rattle.std.specs.Prelude.{slice_get}
use Rattle.jr_text.specs.declared.spans.Span.{Span}
use Rattle.jr_text.specs.Edits.{Entry, AreEdits, FitsIn}
use Rattle.jr_text.specs.Splices.{splice}
use Rattle.jr_text.specs.SpliceLaws.{UntouchedBytesMove}
use Rattle.jr_ast.specs.MemberTree.{Unit as UnitTree}
use Rattle.jr_grammar.specs.Layout.{itself}
use Rattle.jr_table.specs.Keys.{ClassKey, MethodKey}
use Rattle.jr_table.specs.Keyed.{DispatchesTo}
use Rattle.jr_bind.specs.Programs.{Program, IsProgram, units_of}
use Rattle.jr_rewrite.specs.Rewritten.{Rewritten}
use Rattle.jr_program_laws.specs.FileParts.{begins}
use Rattle.jr_rename_laws.specs.ImageLaws.{without_marks}
use Rattle.jr_first_values.specs.Laws.{FirstValuesStand, FirstValuesAreOne}
use Rattle.jr_image_code.specs.KeysIn.{keys_by}
use Rattle.jr_kept_runs.specs.KeepsRuns.{KeepsFirstValues}
use Rattle.jr_kept_runs.specs.Laws.{sources_of}
use Rattle.jr_sound_code.specs.Laws.{ProgramsHaveCode, CodeOfProgramsIsOne, SoundProgramsAreWellTyped}
use Rattle.jr_sources.specs.Sources.{Source}
use Rattle.jr_sources.specs.Whole.{Anywhere, IsProgramOf}
use Rattle.jr_session.specs.NewTexts.{with_edits}
use Rattle.jr_session.specs.Promises.{IsSpliced, HasOneCode, KeepsProgram}
use Rattle.jr_session.specs.Refactored.{IsPlan, Refactors}
use Rattle.jr_session.specs.Requests.{Request, images_by}
use Rattle.jr_session.specs.States.{State}
use Rattle.jr_session.proofs.Making.{length-edited}
use Rattle.jr_session.proofs.NewTrees.{with_at}
use Rattle.jr_session.proofs.TakenBack.{undone_after}

-- ---- code

abbrev pub HasOneCodeEach : Type 0
HasOneCodeEach = (p : Program Span) → IsProgram itself Anywhere p → HasOneCode p

pub one_code : ProgramsHaveCode → CodeOfProgramsIsOne → SoundProgramsAreWellTyped → FirstValuesStand Span → FirstValuesAreOne Span → HasOneCodeEach
one_code have one typed stand once p is =
    let c = have p is in
    let f = stand begins (units_of p) p.rows is.are_rows is.rows is.clean c.0.rows in
    record {
      code = c.0;
      is = c.1;
      one = λ other h. one p is c.0 other c.1 h;
      typed = typed p is c.0 c.1;
      first = f.0;
      firsts = f.1;
      one_first = λ other h k. once begins (units_of p) p.rows is.are_rows is.rows c.0.rows f.0 other f.1 h k;
    }

-- ---- the program

module _ (s t : State) (ask : Request) (names : List (List ℕ)) (n : ℕ) (is : Refactors s ask names n t) where
  abbrev plan : IsPlan s ask is.edits n
  plan = is.whole.short.plan

  abbrev q : Program Span
  q = is.whole.q

  abbrev news : List Source
  news = with_edits s.files is.edits

  -- what a refactoring shows of its plan
  pub record IsShown : Type 0 where
    pub trees : map without_marks (units_of q) ≡ map (λ (o : Rewritten (UnitTree Span)). without_marks o.tree) plan.planned.becomes.files
    pub rows : q.rows ≡ (images_by ask plan.p plan.text plan.number plan.planned.found).rows
    pub dispatch : (of : ClassKey) (m was : MethodKey) → DispatchesTo plan.p.rows of m was
        → DispatchesTo q.rows ((images_by ask plan.p plan.text plan.number plan.planned.found).class_to of) ((images_by ask plan.p plan.text plan.number plan.planned.found).method_to m) ((images_by ask plan.p plan.text plan.number plan.planned.found).method_to was)
    pub first_values : KeepsFirstValues (keys_by (images_by ask plan.p plan.text plan.number plan.planned.found)) (sources_of plan.p) (sources_of q)
    pub own : ask.Keeps plan.p plan.text plan.number plan.planned.found plan.planned.becomes.files is.edits plan.renaming q
    pub fit : (i : ℕ) (old : Source) → slice_get s.files i ≡ Some old → (e : List Entry) × (slice_get is.edits i ≡ Some e) × AreEdits e × FitsIn old.text e

  files_are : t.files ≡ news
  files_are = ap (λ (x : State). x.files) is.becomes

  texts : UntouchedBytesMove → IsShown → (i : ℕ) (old : Source) → slice_get s.files i ≡ Some old → (source : Source) × (e : List Entry) × (slice_get news i ≡ Some source) × (slice_get is.edits i ≡ Some e) × IsSpliced old source e
  texts move h i old there =
      let b = h.fit i old there in (
        record { name = old.name; text = splice old.text b.0 },
        b.0,
        with_at s.files is.edits i old b.0 there b.1,
        b.1,
        record { name = refl; text = refl; are = b.2; fits = b.3; stay = λ k lt away. (move old.text b.0 k b.2 b.3 lt away).1 },
      )

  pub keeps_program : HasOneCodeEach → UntouchedBytesMove → IsShown → KeepsProgram s ask t
  keeps_program coded move h = record {
    p = plan.p;
    before = plan.posed.program;
    q = q;
    behind = subst (λ (ss : List Source). IsProgramOf ss q) (sym files_are) is.whole.program;
    sound = is.whole.program.is.sound;
    number = plan.number;
    text = plan.text;
    asked = plan.posed.asked;
    edits = is.edits;
    renaming = plan.renaming;
    respelled = n;
    plan = plan.planned;
    trees = h.trees;
    rows = h.rows;
    dispatch = h.dispatch;
    first_values = h.first_values;
    own = h.own;
    code_before = coded plan.p plan.posed.program.is;
    code_behind = coded q is.whole.program.is;
    count = ap length files_are ∙ length-edited s.files is.edits;
    texts = λ i old there.
        (let b = texts move h i old there in (b.0, b.1, subst (λ (ss : List Source). slice_get ss i ≡ Some b.0) (sym files_are) b.2, b.3, b.4));
    back = λ answer u gone. undone_after s t ask names n is u answer gone;
  }
