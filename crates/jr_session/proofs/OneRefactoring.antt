-- A refactoring has one answer: each reason for which it is refused is one, and rules out the later
-- ones and that it is done.
use Rattle.std.proofs.Common.{◌≡◌, ◌⊎◌, ℕ, ◌≤◌, List, [], ◌∷◌, length, sym, ap, subst, ◌∙◌, inl, inr, arith}
use Rattle.std.specs.Prelude.{Option, Some, None, slice_get}
use Rattle.std.proofs.lemmas.Option.{slice_get_within, get_or_from_slice_get, same_Some}
use Rattle.jr_text.specs.declared.spans.Span.{Span}
use Rattle.jr_text.specs.Edits.{Entry}
use Rattle.jr_text.specs.Texts.{text_limit}
use Rattle.jr_grammar.specs.Layout.{itself}
use Rattle.jr_sync.specs.declared.sites.DepKind.{DepKind}
use Rattle.jr_names.specs.Refusals.{Refusal, no_such_file, bad_place, bad_name, source_error, would_not_compile, too_long, lost_dependence}
use Rattle.jr_names.specs.Sites.{SiteAt}
use Rattle.jr_bind.specs.Programs.{File, Program, IsProgram}
use Rattle.jr_plan.specs.Reasons.{IsRefused, HasOnePlan}
use Rattle.jr_program_laws.specs.PlaceLaws.{PartsArePlaced}
use Rattle.jr_members.specs.WrittenLaws.{MembersAreWritten}
use Rattle.jr_sources.specs.BindingErrors.{IsFirstWrong}
use Rattle.jr_sources.specs.ReadingLaws.{HasOneReading}
use Rattle.jr_sources.specs.Sources.{IsFile, HasName, LacksFile, Differ, texts_of, total_of, total_limit}
use Rattle.jr_sources.specs.Whole.{IsProgramOf, files_of}
use Rattle.jr_sources.proofs.Analysing.{OneItems, read_once}
use Rattle.jr_session.specs.Lengths.{AreWithin, AreTooLong}
use Rattle.jr_session.specs.NewTexts.{with_edits, differing, with_files}
use Rattle.jr_session.specs.Refactored as why
use Rattle.jr_session.specs.Refactored.{IsAsked, IsPosed, IsPlan, IsShort, IsWhole, transform_of, RefusesRefactoring, Refactors}
use Rattle.jr_session.specs.Requests.{Request, CanAllStand, AreGoodPlaces, IsFirstBad, IsFirst, IsBadPlace, IsGoodName, IsBadName}
use Rattle.jr_session.specs.States.{State}
use Rattle.jr_session.proofs.EditLaws.{one_file, one_number, lacks_none, text_of_file}
use Rattle.jr_session.proofs.OneAnswer.{one_length}
use Rattle.jr_session.proofs.OneWrong.{none_wrong, one_wrong}
use Rattle.jr_session.proofs.Planning.{file as file_there}

-- two programs of the same files plan what is asked in one way
abbrev pub IsPlannedOnce : Request → Type 0
IsPlannedOnce ask = (p q : Program Span) → IsProgram itself (λ m b. Unit {0}) p → IsProgram itself (λ m b. Unit {0}) q → p.files ≡ q.files → (number : ℕ) (f : File Span) → slice_get p.files number ≡ Some f → IsGoodName ask.name
    → HasOnePlan p q (ask.refactoring p f.text number) (ask.refactoring q f.text number)

-- ---- places and names

first_bad_one : (text places : List ℕ) (a b : ℕ) → IsFirstBad text places a → IsFirstBad text places b → a ≡ b
first_bad_one text [] a b g h = absurd g
first_bad_one text (from ∷ places) a b (inl g) (inl h) = g.1 ∙ sym h.1
first_bad_one text (from ∷ places) a b (inl g) (inr h) = absurd (g.0 h.0)
first_bad_one text (from ∷ places) a b (inr g) (inl h) = absurd (h.0 g.0)
first_bad_one text (from ∷ places) a b (inr g) (inr h) = first_bad_one text places a b g.1 h.1

first_bad_out : (text places : List ℕ) (a : ℕ) → IsFirstBad text places a → CanAllStand text places → ⊥
first_bad_out text [] a g h = g
first_bad_out text (from ∷ places) a (inl g) h = g.0 h.0
first_bad_out text (from ∷ places) a (inr g) h = first_bad_out text places a g.1 h.1

one_begins : (places : List ℕ) (a b : ℕ) → IsFirst places a → IsFirst places b → a ≡ b
one_begins [] a b g h = absurd g
one_begins (from ∷ places) a b g h = g ∙ sym h

pub one_bad_place : (text places : List ℕ) (a b : ℕ) → IsBadPlace text places a → IsBadPlace text places b → a ≡ b
one_bad_place text places a b (inl g) (inl h) = first_bad_one text places a b g h
one_bad_place text places a b (inl g) (inr h) = absurd (first_bad_out text places a g h.0)
one_bad_place text places a b (inr g) (inl h) = absurd (first_bad_out text places b h g.0)
one_bad_place text places a b (inr g) (inr h) = one_begins places a b g.2 h.2

pub bad_place_out : (text places : List ℕ) (a : ℕ) → IsBadPlace text places a → AreGoodPlaces text places → ⊥
bad_place_out text places a (inl g) h = first_bad_out text places a g h.0
bad_place_out text places a (inr g) h = g.1 h.1

one_bad_name : (o : Option (List ℕ)) (a b : List ℕ) → IsBadName o a → IsBadName o b → a ≡ b
one_bad_name None a b g h = absurd g
one_bad_name (Some name) a b g h = g.1 ∙ sym h.1

pub bad_name_out : (o : Option (List ℕ)) (a : List ℕ) → IsBadName o a → IsGoodName o → ⊥
bad_name_out None a g h = g
bad_name_out (Some name) a g h = g.0 h

-- ---- one reason after the other

-- it is refused for the reason, or else that is passed and it is refused for one of the rest
abbrev pub Then : (Refusal → Type 0) → (Passed : Type 0) → (Refusal → Type 0) → Refusal → Type 0
Then Here Passed Rest r = Here r ⊎ (Passed × Rest r)

abbrev pub IsOne : (Refusal → Type 0) → Type 0
IsOne R = (r q : Refusal) → R r → R q → r ≡ q

abbrev pub RulesOut : (Refusal → Type 0) → Type 0 → Type 0
RulesOut R P = (r : Refusal) → R r → P → ⊥

module _ (Here : Refusal → Type 0) (Passed : Type 0) (Rest : Refusal → Type 0) (apart : RulesOut Here Passed) where
  then_one : IsOne Here → IsOne Rest → IsOne (Then Here Passed Rest)
  then_one here rest r q (inl g) (inl h) = here r q g h
  then_one here rest r q (inl g) (inr h) = absurd (apart r g h.0)
  then_one here rest r q (inr g) (inl h) = absurd (apart q h g.0)
  then_one here rest r q (inr g) (inr h) = rest r q g.1 h.1

  then_out : (P : Type 0) → (P → Passed) → RulesOut Rest P → RulesOut (Then Here Passed Rest) P
  then_out P passes rest r (inl g) p = apart r g (passes p)
  then_out P passes rest r (inr g) p = rest r g.1 p

-- ---- the reasons of a refactoring

module _ (s : State) (ask : Request) where
  abbrev pub HasFile : Type 0
  HasFile = (number : ℕ) × (text : List ℕ) × IsFile s.files number ask.file text

  abbrev pub HasPlace : Type 0
  HasPlace = (number : ℕ) × (text : List ℕ) × IsFile s.files number ask.file text × AreGoodPlaces text ask.places

  abbrev pub HasProgram : Type 0
  HasProgram = (p : Program Span) × IsProgramOf s.files p

  abbrev pub HasPlan : Type 0
  HasPlan = (edits : List (List Entry)) × (respelled : ℕ) × IsPlan s ask edits respelled

  abbrev pub StaysShort : Type 0
  StaysShort = (edits : List (List Entry)) × (respelled : ℕ) × IsShort s ask edits respelled

  abbrev pub StaysWhole : Type 0
  StaysWhole = (edits : List (List Entry)) × (respelled : ℕ) × IsWhole s ask edits respelled

  abbrev pub IsDone : Type 0
  IsDone = (names : List (List ℕ)) × (respelled : ℕ) × (t : State) × Refactors s ask names respelled t

  abbrev pub NoFile : Refusal → Type 0
  NoFile r = LacksFile s.files ask.file × (r ≡ no_such_file ask.file)

  abbrev pub NoPlace : Refusal → Type 0
  NoPlace r = (number : ℕ) × (at : ℕ) × (text : List ℕ) × IsFile s.files number ask.file text × IsBadPlace text ask.places at × (r ≡ bad_place ask.file at)

  abbrev pub NoName : Refusal → Type 0
  NoName r = (name : List ℕ) × IsBadName ask.name name × (r ≡ bad_name name)

  abbrev pub IsWrong : Refusal → Type 0
  IsWrong r = (name : List ℕ) × (place : ℕ) × (kind : List ℕ) × IsFirstWrong s.files name place kind × (r ≡ source_error name place kind)

  abbrev pub ByPlan : Refusal → Type 0
  ByPlan r = (p : Program Span) × (number : ℕ) × (text : List ℕ) × IsPosed s ask p number text × IsRefused p (ask.refactoring p text number) r

  abbrev pub IsLong : Refusal → Type 0
  IsLong r = (edits : List (List Entry)) × (respelled : ℕ) × (len : ℕ) × IsPlan s ask edits respelled × AreTooLong (texts_of (with_edits s.files edits)) len × (r ≡ too_long len)

  abbrev pub WouldBreak : Refusal → Type 0
  WouldBreak r = (edits : List (List Entry)) × (respelled : ℕ) × (number : ℕ) × (place : ℕ) × (name : List ℕ) × (kind : List ℕ) × IsShort s ask edits respelled × HasName s.files number name
      × IsFirstWrong (with_edits s.files edits) name place kind × (r ≡ would_not_compile (record { file = number; at = place }) kind)

  abbrev pub Crosses : Refusal → Type 0
  Crosses r = (edits : List (List Entry)) × (respelled : ℕ) × (whole : IsWhole s ask edits respelled) × (kind : DepKind) × (first : SiteAt) × (second : SiteAt)
      × (transform_of s ask whole.short.plan).Crosses kind first second × (r ≡ lost_dependence kind first second)

  abbrev pub FromBreak : Refusal → Type 0
  FromBreak = Then WouldBreak StaysWhole Crosses

  abbrev pub FromLong : Refusal → Type 0
  FromLong = Then IsLong StaysShort FromBreak

  abbrev pub FromPlan : Refusal → Type 0
  FromPlan = Then ByPlan HasPlan FromLong

  abbrev pub FromWrong : Refusal → Type 0
  FromWrong = Then IsWrong HasProgram FromPlan

  abbrev pub FromName : Refusal → Type 0
  FromName = Then NoName (IsGoodName ask.name) FromWrong

  abbrev pub FromPlace : Refusal → Type 0
  FromPlace = Then NoPlace HasPlace FromName

  abbrev pub Reasons : Refusal → Type 0
  Reasons = Then NoFile HasFile FromPlace

  -- an asked refactoring is past the first three
  asked : (number : ℕ) (text : List ℕ) → IsAsked s ask number text → (r : Refusal) → FromWrong r → Reasons r
  asked number text h r rest = inr ((number, text, h.stands), inr ((number, text, h.stands, h.places), inr (h.name, rest)))

  planned : (edits : List (List Entry)) (respelled : ℕ) → IsPlan s ask edits respelled → (r : Refusal) → FromLong r → Reasons r
  planned edits respelled h r rest = asked h.number h.text h.posed.asked r (inr ((h.p, h.posed.program), inr ((edits, respelled, h), rest)))

  pub reasons : (r : Refusal) → RefusesRefactoring s ask r → Reasons r
  reasons r (why.no_file lacks e) = inl (lacks, e)
  reasons r (why.at_no_place number at text stands no_place e) = inr ((number, text, stands), inl (number, at, text, stands, no_place, e))
  reasons r (why.no_name number text name stands place no_name e) = inr ((number, text, stands), inr ((number, text, stands, place), inl (name, no_name, e)))
  reasons r (why.wrong number text name place kind h first e) = asked number text h r (inl (name, place, kind, first, e))
  reasons r (why.by_plan p number text h is) = asked number text h.asked r (inr ((p, h.program), inl (p, number, text, h, is)))
  reasons r (why.long edits respelled len h too e) = planned edits respelled h r (inl (edits, respelled, len, h, too, e))
  reasons r (why.breaks edits respelled number place name kind h named first e) = planned edits respelled h.plan r (inr ((edits, respelled, h), inl (edits, respelled, number, place, name, kind, h, named, first, e)))
  reasons r (why.crosses edits respelled h kind first second pair e) =
      planned edits respelled h.short.plan r (inr ((edits, respelled, h.short), inr ((edits, respelled, h), (edits, respelled, h, kind, first, second, pair, e))))

-- ---- each is one, and rules out what comes behind it

-- texts that are within the limits aren't too long
within_limits : (texts : List (List ℕ)) (len : ℕ) → AreWithin texts → total_of texts ≤ total_limit → AreTooLong texts len → ⊥
within_limits texts len within together (inl h) =
    let small = within h.number h.text (slice_get_within texts h.number h.text h.stands) in
    let is = get_or_from_slice_get texts h.number h.text h.text h.stands in
    let short : length h.text ≤ text_limit = subst (λ (t : List ℕ). length t ≤ text_limit) is small in
    let long = h.beyond in
    absurd (omega arith)
within_limits texts len within together (inr h) = let long = h.beyond in absurd (omega (arith, together, long))

module _ (reading : HasOneReading) (items_once : OneItems) (placed : PartsArePlaced) (law : MembersAreWritten Span) (s : State) (ask : Request) (plan_once : IsPlannedOnce ask) (differ : Differ s.files) where
  -- ---- before the plan
  no_file_one : IsOne (NoFile s ask)
  no_file_one r q g h = g.1 ∙ sym h.1

  pub no_file_out : RulesOut (NoFile s ask) (HasFile s ask)
  no_file_out r g h = lacks_none s.files h.0 ask.file h.1 g.0 h.2

  pub no_place_one : IsOne (NoPlace s ask)
  no_place_one r q (n, a, t, is, bad, told) (m, b, u, also, worse, tells) =
      let same = one_file s.files n m ask.file t u differ is also in
      told ∙ ap (bad_place ask.file) (one_bad_place u ask.places a b (subst (λ (x : List ℕ). IsBadPlace x ask.places a) same.1 bad) worse) ∙ sym tells

  pub no_place_out : RulesOut (NoPlace s ask) (HasPlace s ask)
  no_place_out r (n, a, t, is, bad, told) h =
      bad_place_out t ask.places a bad (subst (λ (x : List ℕ). AreGoodPlaces x ask.places) (one_file s.files h.0 n ask.file h.1 t differ h.2 is).1 h.3)

  pub no_name_one : IsOne (NoName s ask)
  no_name_one r q g h = g.2 ∙ ap bad_name (one_bad_name ask.name g.0 h.0 g.1 h.1) ∙ sym h.2

  no_name_out : RulesOut (NoName s ask) (IsGoodName ask.name)
  no_name_out r g h = bad_name_out ask.name g.0 g.1 h

  pub wrong_one : IsOne (IsWrong s ask)
  wrong_one r q g h =
      let same = one_wrong reading s.files g.0 h.0 g.1 h.1 g.2 h.2 g.3 h.3 in
      g.4 ∙ (λ i. source_error (same.0 i) (same.1 i) (same.2 i)) ∙ sym h.4

  pub wrong_out : RulesOut (IsWrong s ask) (HasProgram s ask)
  wrong_out r g h = none_wrong reading items_once placed law s.files h.0 h.1 g.0 g.1 g.2 g.3

  -- ---- the plan

  -- the programs of sources have the same files
  pub same_files : (p q : Program Span) → IsProgramOf s.files p → IsProgramOf s.files q → p.files ≡ q.files
  same_files p q g h = g.files ∙ ap (files_of s.files) (read_once reading s.files g.units h.units g.words h.words g.program.read h.program.read).0 ∙ sym h.files

  module _ (p q : Program Span) (n m : ℕ) (a b : List ℕ) (g : IsPosed s ask p n a) (h : IsPosed s ask q m b) where
    same_asked : (n ≡ m) × (a ≡ b)
    same_asked = one_file s.files n m ask.file a b differ g.asked.stands h.asked.stands

    pub once_here : HasOnePlan p q (ask.refactoring p a n) (ask.refactoring q a n)
    once_here =
        let has = text_of_file s.files n ask.file a g.asked.stands in
        let f = file_there s.files p g.program n (slice_get_within s.files n (record { name = ask.file; text = a }) g.asked.stands) in
        let text : f.0.text ≡ a = same_Some f.0.text a (sym f.2 ∙ has) in
        subst (λ (t : List ℕ). HasOnePlan p q (ask.refactoring p t n) (ask.refactoring q t n)) text
        (plan_once p q g.program.is h.program.is (same_files p q g.program h.program) n f.0 f.1 g.asked.name)

    -- what the other says is of its text and number, which are these
    pub once : HasOnePlan p q (ask.refactoring p a n) (ask.refactoring q b m)
    once = subst (λ (k : ℕ). HasOnePlan p q (ask.refactoring p a n) (ask.refactoring q b k)) same_asked.0
        (subst (λ (t : List ℕ). HasOnePlan p q (ask.refactoring p a n) (ask.refactoring q t n)) same_asked.1 once_here)

  by_plan_one : IsOne (ByPlan s ask)
  by_plan_one r q g h = (once g.0 h.0 g.1 h.1 g.2 h.2 g.3 h.3).refusals r q g.4 h.4

  by_plan_out : RulesOut (ByPlan s ask) (HasPlan s ask)
  by_plan_out r g (edits, respelled, h) = (once h.p g.0 h.number g.1 h.text g.2 h.posed g.3).apart edits h.renaming respelled r h.planned g.4

  pub one_plan : (a b : List (List Entry)) (n m : ℕ) → IsPlan s ask a n → IsPlan s ask b m → (a ≡ b) × (n ≡ m)
  one_plan a b n m g h =
      let same = (once g.p h.p g.number h.number g.text h.text g.posed h.posed).plans a b g.renaming h.renaming n m g.planned h.planned in
      (same.0, same.2)

  -- ---- behind it
  pub long_one : IsOne (IsLong s ask)
  long_one r q g h =
      let same = (one_plan g.0 h.0 g.1 h.1 g.3 h.3).0 in
      g.5 ∙ ap too_long (one_length _ g.2 h.2 (subst (λ (es : List (List Entry)). AreTooLong (texts_of (with_edits s.files es)) g.2) same g.4) h.4) ∙ sym h.5

  pub long_out : RulesOut (IsLong s ask) (StaysShort s ask)
  long_out r g (edits, respelled, h) =
      let same = (one_plan g.0 edits g.1 respelled g.3 h.plan).0 in
      within_limits _ g.2 h.within h.together (subst (λ (es : List (List Entry)). AreTooLong (texts_of (with_edits s.files es)) g.2) same g.4)

  pub breaks_one : IsOne (WouldBreak s ask)
  breaks_one r q (es, n, i, a, f, k, short, named, first, told) (fs, m, j, b, h, l, short', named', first', told') =
      let edits = (one_plan es fs n m short.plan short'.plan).0 in
      let same = one_wrong reading (with_edits s.files fs) f h a b k l (subst (λ (xs : List (List Entry)). IsFirstWrong (with_edits s.files xs) f a k) edits first) first' in
      let number : i ≡ j = one_number s.files i j h differ (subst (HasName s.files i) same.0 named) named' in
      told ∙ (λ x. would_not_compile (record { file = number x; at = same.1 x }) (same.2 x)) ∙ sym told'

  pub breaks_out : RulesOut (WouldBreak s ask) (StaysWhole s ask)
  breaks_out r (es, n, i, a, f, k, short, named, first, told) (edits, m, h) =
      let same = (one_plan es edits n m short.plan h.short.plan).0 in
      h.sound f a k (subst (λ (xs : List (List Entry)). IsFirstWrong (with_edits s.files xs) f a k) same first)

  crosses_one : IsOne (Crosses s ask)
  crosses_one r q (es, n, a, k, i, j, pair, told) (fs, m, b, l, x, y, also, tells) =
      let g = a.short.plan in
      let h = b.short.plan in
      let same = (once g.p h.p g.number h.number g.text h.text g.posed h.posed).crossings g.planned.found h.planned.found k l i j x y pair also in
      told ∙ (λ z. lost_dependence (same.0 z) (same.1 z) (same.2 z)) ∙ sym tells

  crosses_out : RulesOut (Crosses s ask) (IsDone s ask)
  crosses_out r (es, n, a, k, i, j, pair, told) (names, m, t, d) =
      let g = a.short.plan in
      let h = d.whole.short.plan in
      d.dependences k i j ((once g.p h.p g.number h.number g.text h.text g.posed h.posed).crossed g.planned.found h.planned.found k i j pair)

  -- ---- all of them
  break_first : IsOne (FromBreak s ask)
  break_first = then_one (WouldBreak s ask) (StaysWhole s ask) (Crosses s ask) breaks_out breaks_one crosses_one

  long_first : IsOne (FromLong s ask)
  long_first = then_one (IsLong s ask) (StaysShort s ask) (FromBreak s ask) long_out long_one break_first

  plan_first : IsOne (FromPlan s ask)
  plan_first = then_one (ByPlan s ask) (HasPlan s ask) (FromLong s ask) by_plan_out by_plan_one long_first

  wrong_first : IsOne (FromWrong s ask)
  wrong_first = then_one (IsWrong s ask) (HasProgram s ask) (FromPlan s ask) wrong_out wrong_one plan_first

  name_first : IsOne (FromName s ask)
  name_first = then_one (NoName s ask) (IsGoodName ask.name) (FromWrong s ask) no_name_out no_name_one wrong_first

  place_first : IsOne (FromPlace s ask)
  place_first = then_one (NoPlace s ask) (HasPlace s ask) (FromName s ask) no_place_out no_place_one name_first

  pub one_refused : (r q : Refusal) → RefusesRefactoring s ask r → RefusesRefactoring s ask q → r ≡ q
  one_refused r q g h = then_one (NoFile s ask) (HasFile s ask) (FromPlace s ask) no_file_out no_file_one place_first r q (reasons s ask r g) (reasons s ask q h)

  break_last : RulesOut (FromBreak s ask) (IsDone s ask)
  break_last = then_out (WouldBreak s ask) (StaysWhole s ask) (Crosses s ask) breaks_out (IsDone s ask) (λ d. (d.3.edits, d.1, d.3.whole)) crosses_out

  long_last : RulesOut (FromLong s ask) (IsDone s ask)
  long_last = then_out (IsLong s ask) (StaysShort s ask) (FromBreak s ask) long_out (IsDone s ask) (λ d. (d.3.edits, d.1, d.3.whole.short)) break_last

  plan_last : RulesOut (FromPlan s ask) (IsDone s ask)
  plan_last = then_out (ByPlan s ask) (HasPlan s ask) (FromLong s ask) by_plan_out (IsDone s ask) (λ d. (d.3.edits, d.1, d.3.whole.short.plan)) long_last

  wrong_last : RulesOut (FromWrong s ask) (IsDone s ask)
  wrong_last = then_out (IsWrong s ask) (HasProgram s ask) (FromPlan s ask) wrong_out (IsDone s ask) (λ d. let h = d.3.whole.short.plan in (h.p, h.posed.program)) plan_last

  name_last : RulesOut (FromName s ask) (IsDone s ask)
  name_last = then_out (NoName s ask) (IsGoodName ask.name) (FromWrong s ask) no_name_out (IsDone s ask) (λ d. d.3.whole.short.plan.posed.asked.name) wrong_last

  place_last : RulesOut (FromPlace s ask) (IsDone s ask)
  place_last = then_out (NoPlace s ask) (HasPlace s ask) (FromName s ask) no_place_out (IsDone s ask) (λ d. let h = d.3.whole.short.plan in (h.number, h.text, h.posed.asked.stands, h.posed.asked.places)) name_last

  pub refused_not_done : (r : Refusal) (names : List (List ℕ)) (respelled : ℕ) (t : State) → RefusesRefactoring s ask r → Refactors s ask names respelled t → ⊥
  refused_not_done r names respelled t g h =
      then_out (NoFile s ask) (HasFile s ask) (FromPlace s ask) no_file_out (IsDone s ask) (λ d. let h = d.3.whole.short.plan in (h.number, h.text, h.posed.asked.stands)) place_last r (reasons s ask r g) (names, respelled, t, h)

  -- and it is done in one way
  pub one_done : (names others : List (List ℕ)) (n m : ℕ) (t u : State) → Refactors s ask names n t → Refactors s ask others m u → (names ≡ others) × (n ≡ m) × (t ≡ u)
  one_done names others n m t u g h =
      let same = one_plan g.edits h.edits n m g.whole.short.plan h.whole.short.plan in (
        g.names_are ∙ ap (λ (es : List (List Entry)). differing s.files (with_edits s.files es)) same.0 ∙ sym h.names_are,
        same.1,
        g.becomes ∙ ap (λ (es : List (List Entry)). with_files s (with_edits s.files es)) same.0 ∙ sym h.becomes,
      )
