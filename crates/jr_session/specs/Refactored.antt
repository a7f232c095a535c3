-- A refactoring as a step, whichever it is: why it is refused, in the order in which that is asked,
-- and what it does. Each reason is told with what was found before it: that none of the earlier ones
-- holds.
use Rattle.std.specs.Prelude.{◌≡◌, ℕ, ◌≤◌, List}
use Rattle.jr_text.specs.declared.spans.Span.{Span}
use Rattle.jr_text.specs.Edits.{Entry}
use Rattle.jr_sync.specs.declared.sites.DepKind.{DepKind}
use Rattle.jr_table.specs.Decls.{Decl}
use Rattle.jr_bind.specs.Programs.{Program}
use Rattle.jr_names.specs.Refusals.{Refusal, no_such_file, bad_place, bad_name, source_error}
use Rattle.jr_names.specs.Refusals.{would_not_compile, too_long, lost_dependence}
use Rattle.jr_names.specs.Sites.{SiteAt}
use Rattle.jr_plan.specs.Transforms.{Transform}
use Rattle.jr_plan.specs.Reasons.{IsRefused, IsPlanned}
use Rattle.jr_sources.specs.Sources.{IsFile, HasName, LacksFile, texts_of, total_of}
use Rattle.jr_sources.specs.Sources.{total_limit}
use Rattle.jr_sources.specs.BindingErrors.{IsFirstWrong}
use Rattle.jr_sources.specs.Whole.{IsProgramOf}
use Rattle.jr_session.specs.Lengths.{AreWithin, AreTooLong}
use Rattle.jr_session.specs.NewTexts.{with_edits, differing, with_files}
use Rattle.jr_session.specs.Requests.{Request, AreGoodPlaces, IsBadPlace, IsGoodName, IsBadName}
use Rattle.jr_session.specs.States.{State}

module _ (s : State) (ask : Request) where
  -- the file of this number has the text, in which the offsets can stand, and the new name is an
  -- identifier (JLS 3.8)
  pub record IsAsked (number : ℕ) (text : List ℕ) : Type 0 where
    pub stands : IsFile s.files number ask.file text
    pub places : AreGoodPlaces text ask.places
    pub name : IsGoodName ask.name

  -- no source has a fault or an error: this is the program
  pub record IsPosed (p : Program Span) (number : ℕ) (text : List ℕ) : Type 0 where
    pub asked : IsAsked number text
    pub program : IsProgramOf s.files p

  -- the plan: the edits of each file, and how many references are respelled
  pub record IsPlan (edits : List (List Entry)) (respelled : ℕ) : Type 0 where
    pub p : Program Span
    pub number : ℕ
    pub text : List ℕ
    pub posed : IsPosed p number text
    pub renaming : List (Decl × Decl)
    pub planned : IsPlanned p (ask.refactoring p text number) edits renaming respelled

  -- what is done to the program
  abbrev pub transform_of : {edits : List (List Entry)} → {respelled : ℕ} → IsPlan edits respelled
      → Transform
  transform_of plan = (ask.refactoring plan.p plan.text plan.number).transform plan.planned.found

  -- the new texts stay within the limits
  pub record IsShort (edits : List (List Entry)) (respelled : ℕ) : Type 0 where
    pub plan : IsPlan edits respelled
    pub within : AreWithin (texts_of (with_edits s.files edits))
    pub together : total_of (texts_of (with_edits s.files edits)) ≤ total_limit

  -- nothing is first wrong with the new sources, and they are a program again, which is q
  pub record IsWhole (edits : List (List Entry)) (respelled : ℕ) : Type 0 where
    pub short : IsShort edits respelled
    pub sound : (name : List ℕ) (place : ℕ) (kind : List ℕ)
        → IsFirstWrong (with_edits s.files edits) name place kind → ⊥
    pub q : Program Span
    pub program : IsProgramOf (with_edits s.files edits) q

  -- ---- why it is refused, in this order

  pub data RefusesRefactoring (r : Refusal) : Type 0 where
    -- 1: the file isn't in the session
    no_file : LacksFile s.files ask.file → r ≡ no_such_file ask.file → RefusesRefactoring r
    -- 2: an offset is past the end or inside a character, or they aren't in order
    at_no_place : (number at : ℕ) (text : List ℕ) → IsFile s.files number ask.file text
        → IsBadPlace text ask.places at → r ≡ bad_place ask.file at → RefusesRefactoring r
    -- 3: the new name is no identifier
    no_name : (number : ℕ) (text name : List ℕ) → IsFile s.files number ask.file text
        → AreGoodPlaces text ask.places → IsBadName ask.name name → r ≡ bad_name name
        → RefusesRefactoring r
    -- 4: the first fault of the sources, or else the first binding error of their members
    wrong : (number : ℕ) (text : List ℕ) (name : List ℕ) (place : ℕ) (kind : List ℕ)
        → IsAsked number text → IsFirstWrong s.files name place kind
        → r ≡ source_error name place kind → RefusesRefactoring r
    -- 5 to 16, and 24: the plan's own, a change of dispatch, a lost reference
    by_plan : (p : Program Span) (number : ℕ) (text : List ℕ) → IsPosed p number text
        → IsRefused p (ask.refactoring p text number) r → RefusesRefactoring r
    -- 20: a new text, or all together, would be too long; asked before the new texts are read
    long : (edits : List (List Entry)) (respelled len : ℕ) → IsPlan edits respelled
        → AreTooLong (texts_of (with_edits s.files edits)) len → r ≡ too_long len
        → RefusesRefactoring r
    -- 17: what is first wrong with the new sources, at a place of the new text
    breaks : (edits : List (List Entry)) (respelled number place : ℕ) (name kind : List ℕ)
        → IsShort edits respelled → HasName s.files number name
        → IsFirstWrong (with_edits s.files edits) name place kind
        → r ≡ would_not_compile (record { file = number; at = place }) kind → RefusesRefactoring r
    -- 18: two sites, of which one depends on the other, would come in another order
    crosses : (edits : List (List Entry)) (respelled : ℕ) → (whole : IsWhole edits respelled)
        → (kind : DepKind) (first second : SiteAt)
        → (transform_of whole.short.plan).Crosses kind first second
        → r ≡ lost_dependence kind first second → RefusesRefactoring r

  -- ---- or what it does

  -- The new texts are the old ones spliced by the plan's edits, and the texts before can be undone.
  -- The new sources are a program again, and no dependence is lost.
  pub record Refactors (names : List (List ℕ)) (respelled : ℕ) (t : State) : Type 0 where
    pub edits : List (List Entry)
    pub whole : IsWhole edits respelled
    pub dependences : (kind : DepKind) (first second : SiteAt)
        → (transform_of whole.short.plan).Crosses kind first second → ⊥
    pub names_are : names ≡ differing s.files (with_edits s.files edits)
    pub becomes : t ≡ with_files s (with_edits s.files edits)
