-- A rename is refused for exactly the first of its reasons.
use Rattle.std.proofs.Common.{◌≡◌, ◌⊎◌, ◌↔◌, ℕ, ◌<◌, ◌≤◌, List, [], ◌∷◌, map, refl, sym, ap, subst, ◌∙◌, inl, inr, arith}
use Rattle.std.specs.Prelude.{Some, slice_get}
use Rattle.std.proofs.lemmas.Option.{slice_get_within, same_Some}
use Rattle.jr_text.specs.declared.spans.Span.{Span}
use Rattle.jr_text.specs.Edits.{Entry}
use Rattle.jr_ast.specs.MemberTree as syntax
use Rattle.jr_grammar.specs.Layout.{itself}
use Rattle.jr_table.specs.Decls.{Decl}
use Rattle.jr_names.specs.declared.steps.Step.TheVariants as step
use Rattle.jr_names.specs.Refusals.{Refusal, no_such_file, bad_place, bad_name, source_error, would_not_compile, too_long}
use Rattle.jr_names.specs.Replies.{Reply, refused}
use Rattle.jr_members.specs.WrittenLaws.{MembersAreWritten}
use Rattle.jr_bind.specs.Programs.{File, Program, units_of}
use Rattle.jr_program_laws.specs.PlaceLaws.{PartsArePlaced}
use Rattle.jr_rewrite.specs.Edited.{entries_of}
use Rattle.jr_rewrite.specs.Rewritten.{Rewritten}
use Rattle.jr_rename_laws.specs.ImageLaws.{RenamingsStayFair}
use Rattle.jr_images.specs.Images.{Renaming}
use Rattle.jr_images.specs.Renames as renames
use Rattle.jr_images.specs.TextLaws.{RowsAreNamed, NamesHaveNoDot}
use Rattle.jr_plan.proofs.Rename.{rewrite_back}
use Rattle.jr_cursor.specs.TargetLaws.{OneIsTarget}
use Rattle.jr_rename_laws.specs.OnePlan.{PlanIsOne, RewritingIsOne, RefusesSo, PlansSo}
use Rattle.jr_sources.specs.BindingErrors.{IsFirstWrong}
use Rattle.jr_sources.specs.ReadingLaws.{HasOneReading}
use Rattle.jr_sources.specs.Sources.{IsFile, HasName, Differ, texts_of}
use Rattle.jr_sources.specs.Whole.{IsProgramOf}
use Rattle.jr_sources.proofs.Analysing.{OneItems}
use Rattle.jr_session.specs.Lengths.{AreTooLong}
use Rattle.jr_session.specs.NewTexts.{with_edits}
use Rattle.jr_session.specs.Asked.{rename}
use Rattle.jr_session.specs.Refactored as why
use Rattle.jr_session.specs.Refactored.{IsPosed, IsPlan, IsShort, RefusesRefactoring, Refactors}
use Rattle.jr_session.specs.Requests.{Request, AreGoodPlaces}
use Rattle.jr_session.specs.RenameReasons as reason
use Rattle.jr_session.specs.RenameReasons.{Targets, IsPlanReason, WouldEdit, IsReason, IsFirstReason}
use Rattle.jr_session.specs.States.{State}
use Rattle.jr_session.specs.Stepping.{Steps}
use Rattle.jr_session.proofs.EditLaws.{one_file, text_of_file}
use Rattle.jr_session.proofs.OneRefactoring.{IsPlannedOnce, Reasons, FromPlan, NoFile, NoPlace, NoName, IsWrong, IsLong, WouldBreak, reasons, no_file_out, no_place_one, no_place_out, no_name_one, wrong_one, wrong_out, same_files, once_here, long_one, long_out, breaks_one}
use Rattle.jr_session.proofs.AskedSteps.{Answered, rename_answers}
use Rattle.jr_session.proofs.PlanReasons as plans
use Rattle.jr_session.proofs.PlanReasons.{ranked, of_same, refused_rank, reason_rank, reason_of}
use Rattle.jr_session.proofs.Planning.{file as file_there}
use Rattle.jr_session.proofs.RenameRequest.{rename_once, bad_place_is}

-- the edits of a plan are those of the target renamed
would_edit : (s : State) (file : List ℕ) (at : ℕ) (new : List ℕ) (edits : List (List Entry)) (respelled : ℕ) → IsPlan s (rename file at new) edits respelled → WouldEdit s file at new edits
would_edit s file at new edits respelled h = record {
  p = h.p;
  number = h.number;
  text = h.text;
  stands = h.posed.asked.stands;
  program = h.posed.program;
  target = h.planned.found.target;
  g = h.planned.found.g;
  is = h.planned.found.renames;
  files = h.planned.becomes.files;
  rewrite = rewrite_back h.p h.planned.found.g h.planned.becomes;
  edits_are = h.planned.edits_are;
}

-- what it is refused for is a reason
reason_for : (s : State) (file : List ℕ) (at : ℕ) (new : List ℕ) (r : Refusal) → RefusesRefactoring s (rename file at new) r → IsReason s file at new r
reason_for s file at new r (why.no_file lacks e) = reason.no_file lacks e
reason_for s file at new r (why.at_no_place number told text stands bad e) =
    let is = bad_place_is text at told bad in
    reason.at_no_place number text stands is.0 (e ∙ ap (bad_place file) is.1)
reason_for s file at new r (why.no_name number text name stands places bad e) = reason.no_name bad.0 (e ∙ ap bad_name bad.1)
reason_for s file at new r (why.wrong number text name place kind asked first e) = reason.wrong name place kind first e
reason_for s file at new r (why.by_plan p number text posed is) = reason.by_plan p number text posed.asked.stands posed.program (reason_of p file at text number at new r is)
reason_for s file at new r (why.long edits respelled len plan too e) = reason.long edits len (would_edit s file at new edits respelled plan) too e
reason_for s file at new r (why.breaks edits respelled number place name kind short named first e) = reason.breaks edits number place name kind (would_edit s file at new edits respelled short.plan) named first e
reason_for s file at new r (why.crosses edits respelled whole kind first second pair e) = absurd pair

module _ (reading : HasOneReading) (items_once : OneItems) (placed : PartsArePlaced) (law : MembersAreWritten Span) (plan_once : PlanIsOne) (targets : OneIsTarget) (fair_law : RenamingsStayFair Span) (named_law : RowsAreNamed Span) (dots : NamesHaveNoDot) (rewriting : RewritingIsOne)
    (s : State) (file : List ℕ) (at : ℕ) (new : List ℕ) (differ : Differ s.files) where
  abbrev ask : Request
  ask = rename file at new

  ones : IsPlannedOnce ask
  ones = rename_once plan_once file at new

  abbrev rank : Refusal → ℕ
  rank r = ranked file at new r

  is_rank : (r q : Refusal) → r ≡ q → rank r ≡ rank q
  is_rank r q e = of_same file at new r q e

  -- it comes before the other, or is the same
  abbrev Against : Refusal → Refusal → Type 0
  Against r q = (rank r < rank q) ⊎ (r ≡ q)

  -- one of the first four, or the program stands
  split : (r : Refusal) → Reasons s ask r → (rank r ≤ 8) ⊎ FromPlan s ask r
  split r (inl g) = let e = is_rank r (no_such_file file) g.1 in inl (omega (arith, e))
  split r (inr (f, inl g)) = let e = is_rank r (bad_place file g.1) g.5 in inl (omega (arith, e))
  split r (inr (f, inr (h, inl g))) = let e = is_rank r (bad_name g.0) g.2 in inl (omega (arith, e))
  split r (inr (f, inr (h, inr (n, inl g)))) = let e = is_rank r (source_error g.0 g.1 g.2) g.4 in inl (omega (arith, e))
  split r (inr (f, inr (h, inr (n, inr (p, g))))) = inr g

  against_file : (r q : Refusal) → Reasons s ask r → NoFile s ask q → Against r q
  against_file r q (inl g) h = inr (g.1 ∙ sym h.1)
  against_file r q (inr (f, g)) h = absurd (no_file_out reading items_once placed law s ask ones differ q h f)

  against_place : (r q : Refusal) → Reasons s ask r → NoPlace s ask q → Against r q
  against_place r q (inl g) h = let i = is_rank r (no_such_file file) g.1 in let j = is_rank q (bad_place file h.1) h.5 in inl (omega (arith, i, j))
  against_place r q (inr (f, inl g)) h = inr (no_place_one reading items_once placed law s ask ones differ r q g h)
  against_place r q (inr (f, inr (p, g))) h = absurd (no_place_out reading items_once placed law s ask ones differ q h p)

  against_name : (r q : Refusal) → Reasons s ask r → NoName s ask q → Against r q
  against_name r q (inl g) h = let i = is_rank r (no_such_file file) g.1 in let j = is_rank q (bad_name h.0) h.2 in inl (omega (arith, i, j))
  against_name r q (inr (f, inl g)) h = let i = is_rank r (bad_place file g.1) g.5 in let j = is_rank q (bad_name h.0) h.2 in inl (omega (arith, i, j))
  against_name r q (inr (f, inr (p, inl g))) h = inr (no_name_one reading items_once placed law s ask ones differ r q g h)
  against_name r q (inr (f, inr (p, inr (n, g)))) h = absurd (h.1.0 n)

  against_wrong : (r q : Refusal) → Reasons s ask r → IsWrong s ask q → Against r q
  against_wrong r q (inl g) h = let i = is_rank r (no_such_file file) g.1 in let j = is_rank q (source_error h.0 h.1 h.2) h.4 in inl (omega (arith, i, j))
  against_wrong r q (inr (f, inl g)) h = let i = is_rank r (bad_place file g.1) g.5 in let j = is_rank q (source_error h.0 h.1 h.2) h.4 in inl (omega (arith, i, j))
  against_wrong r q (inr (f, inr (p, inl g))) h = let i = is_rank r (bad_name g.0) g.2 in let j = is_rank q (source_error h.0 h.1 h.2) h.4 in inl (omega (arith, i, j))
  against_wrong r q (inr (f, inr (p, inr (n, inl g)))) h = inr (wrong_one reading items_once placed law s ask ones differ r q g h)
  against_wrong r q (inr (f, inr (p, inr (n, inr (is, g))))) h = absurd (wrong_out reading items_once placed law s ask ones differ q h is)

  -- ---- the plan's

  module _ (p q : Program Span) (n m : ℕ) (a b : List ℕ) (g : IsPosed s ask p n a) (stands : IsFile s.files m file b) (is : IsProgramOf s.files q) where
    also : IsPosed s ask q m b
    also =
        let same = one_file s.files n m file a b differ g.asked.stands stands in
        record { asked = record { stands = stands; places = subst (λ (t : List ℕ). AreGoodPlaces t (at ∷ [])) same.1 g.asked.places; name = g.asked.name }; program = is }

    reason_here : (r : Refusal) → IsPlanReason q b m at new r → IsPlanReason q a n at new r
    reason_here r h =
        let same = one_file s.files n m file a b differ g.asked.stands stands in
        subst (λ (k : ℕ). IsPlanReason q a k at new r) (sym same.0) (subst (λ (t : List ℕ). IsPlanReason q t m at new r) (sym same.1) h)

    the_file : (f : File Span) × (slice_get p.files n ≡ Some f) × (f.text ≡ a)
    the_file =
        let f = file_there s.files p g.program n (slice_get_within s.files n (record { name = file; text = a }) g.asked.stands) in
        (f.0, f.1, same_Some f.0.text a (sym f.2 ∙ text_of_file s.files n file a g.asked.stands))

    files_same : p.files ≡ q.files
    files_same = same_files reading items_once placed law s ask ones differ p q g.program is

    against_refused : (r x : Refusal) → RefusesSo a n at new p r → IsPlanReason q b m at new x → Against r x
    against_refused r x u v = by (subst (λ (t : List ℕ). RefusesSo t n at new p r → IsPlanReason q t n at new x → (rank r < rank x) ⊎ RefusesSo t n at new q x) the_file.2
        (plans.against law targets p q g.program.is is.is files_same n at new the_file.0 the_file.1 file at r x) u (reason_here x v))
      where
        by : (rank r < rank x) ⊎ RefusesSo a n at new q x → Against r x
        by (inl lt) = inl lt
        by (inr w) = inr ((once_here reading items_once placed law s ask ones differ p q n m a b g also).refusals r x u w)

    against_planned : (edits : List (List Entry)) (renaming : List (Decl × Decl)) (respelled : ℕ) (x : Refusal) → PlansSo a n at new p edits renaming respelled → IsPlanReason q b m at new x → ⊥
    against_planned edits renaming respelled x u v =
        let w = subst (λ (t : List ℕ). PlansSo t n at new p edits renaming respelled → IsPlanReason q t n at new x → RefusesSo t n at new q x) the_file.2
        (plans.planned_against law targets p q g.program.is is.is files_same n at new the_file.0 the_file.1 file at edits renaming respelled x) u (reason_here x v) in
        (once_here reading items_once placed law s ask ones differ p q n m a b g also).apart edits renaming respelled x u w

    targets_here : (d : Decl) (h : Renaming) → Targets q b m at new d h → Targets q a n at new d h
    targets_here d h x =
        let same = one_file s.files n m file a b differ g.asked.stands stands in
        subst (λ (k : ℕ). Targets q a k at new d h) (sym same.0) (subst (λ (t : List ℕ). Targets q t m at new d h) (sym same.1) x)

    edits_against : (edits : List (List Entry)) (renaming : List (Decl × Decl)) (respelled : ℕ) → PlansSo a n at new p edits renaming respelled → (d : Decl) (h : Renaming) → Targets q b m at new d h
        → (files : List (Rewritten (syntax.Unit Span))) → renames.Rewrite itself q.rows q.super_at (units_of q) h files → edits ≡ map (λ (o : Rewritten (syntax.Unit Span)). entries_of o.changes) files
    edits_against edits renaming respelled u d h x =
        subst (λ (t : List ℕ). PlansSo t n at new p edits renaming respelled → Targets q t n at new d h → (files : List (Rewritten (syntax.Unit Span))) → renames.Rewrite itself q.rows q.super_at (units_of q) h files
        → edits ≡ map (λ (o : Rewritten (syntax.Unit Span)). entries_of o.changes) files) the_file.2
        (λ v y. plans.files_against law targets p q g.program.is is.is files_same n at new the_file.0 the_file.1 file at fair_law named_law dots rewriting g.asked.name edits renaming respelled v d h y) u (targets_here d h x)

  -- the edits that there would be are those of the plan
  plan_to : (es fs : List (List Entry)) (n : ℕ) → IsPlan s ask es n → WouldEdit s file at new fs → es ≡ fs
  plan_to es fs n h w = edits_against h.p w.p h.number w.number h.text w.text h.posed w.stands w.program es h.renaming n h.planned w.target w.g w.is w.files w.rewrite ∙ sym w.edits_are

  never_planned : (edits : List (List Entry)) (respelled : ℕ) → IsPlan s ask edits respelled → (q : Program Span) (m : ℕ) (b : List ℕ) → IsFile s.files m file b → IsProgramOf s.files q → (x : Refusal) → IsPlanReason q b m at new x → ⊥
  never_planned edits respelled h q m b stands is x v = against_planned h.p q h.number m h.text b h.posed stands is edits h.renaming respelled x h.planned v

  against_plan : (r x : Refusal) → (rank r ≤ 8) ⊎ FromPlan s ask r → (q : Program Span) (m : ℕ) (b : List ℕ) → IsFile s.files m file b → IsProgramOf s.files q → IsPlanReason q b m at new x → Against r x
  against_plan r x (inl le) q m b stands is v = let ge = reason_rank q file at b m at new x v in inl (omega (arith, le, ge))
  against_plan r x (inr (inl g)) q m b stands is v = against_refused g.0 q g.1 m g.2 b g.3 stands is r x g.4 v
  against_plan r x (inr (inr ((edits, respelled, h), g))) q m b stands is v = absurd (never_planned edits respelled h q m b stands is x v)

  -- ---- those of the new texts

  module _ (x : Refusal) (fs : List (List Entry)) (would : WouldEdit s file at new fs) where
    module _ (len : ℕ) (too : AreTooLong (texts_of (with_edits s.files fs)) len) (e : x ≡ too_long len) where
      is_long : (es : List (List Entry)) (n : ℕ) → IsPlan s ask es n → IsLong s ask x
      is_long es n h = (fs, n, len, subst (λ (gs : List (List Entry)). IsPlan s ask gs n) (plan_to es fs n h would) h, too, e)

      never_short : (es : List (List Entry)) (n : ℕ) → IsShort s ask es n → ⊥
      never_short es n h = long_out reading items_once placed law s ask ones differ x (is_long es n h.plan) (es, n, h)

      against_long : (r : Refusal) → (rank r ≤ 8) ⊎ FromPlan s ask r → Against r x
      against_long r (inl le) = let j = is_rank x (too_long len) e in inl (omega (arith, le, j))
      against_long r (inr (inl g)) = let le = refused_rank g.0 file at g.2 g.1 at new r g.4 in let j = is_rank x (too_long len) e in inl (omega (arith, le, j))
      against_long r (inr (inr (h, inl g))) = inr (long_one reading items_once placed law s ask ones differ r x g (is_long g.0 g.1 g.3))
      against_long r (inr (inr (h, inr (short, g)))) = absurd (never_short short.0 short.1 short.2)

    module _ (i k : ℕ) (f kind : List ℕ) (named : HasName s.files i f) (first : IsFirstWrong (with_edits s.files fs) f k kind) (e : x ≡ would_not_compile (record { file = i; at = k }) kind) where
      is_break : (es : List (List Entry)) (n : ℕ) → IsShort s ask es n → WouldBreak s ask x
      is_break es n h = (fs, n, i, k, f, kind, subst (λ (gs : List (List Entry)). IsShort s ask gs n) (plan_to es fs n h.plan would) h, named, first, e)

      against_break : (r : Refusal) → (rank r ≤ 8) ⊎ FromPlan s ask r → Against r x
      against_break r (inl le) = let j = is_rank x (would_not_compile (record { file = i; at = k }) kind) e in inl (omega (arith, le, j))
      against_break r (inr (inl g)) = let le = refused_rank g.0 file at g.2 g.1 at new r g.4 in let j = is_rank x (would_not_compile (record { file = i; at = k }) kind) e in inl (omega (arith, le, j))
      against_break r (inr (inr (h, inl g))) = let l = is_rank r (too_long g.2) g.5 in let j = is_rank x (would_not_compile (record { file = i; at = k }) kind) e in inl (omega (arith, l, j))
      against_break r (inr (inr (h, inr (short, inl g)))) = inr (breaks_one reading items_once placed law s ask ones differ r x g (is_break g.0 g.1 g.6))
      against_break r (inr (inr (h, inr (short, inr (whole, g))))) = absurd g.6

  -- ---- all of them

  against : (r q : Refusal) → RefusesRefactoring s ask r → IsReason s file at new q → Against r q
  against r q u (reason.no_file lacks e) = against_file r q (reasons s ask r u) (lacks, e)
  against r q u (reason.at_no_place number text stands no_place e) = against_place r q (reasons s ask r u) (number, at, text, stands, inl (inl (no_place, refl)), e)
  against r q u (reason.no_name no_name e) = against_name r q (reasons s ask r u) (new, (no_name, refl), e)
  against r q u (reason.wrong name place kind first e) = against_wrong r q (reasons s ask r u) (name, place, kind, first, e)
  against r q u (reason.by_plan p number text stands is v) = against_plan r q (split r (reasons s ask r u)) p number text stands is v
  against r q u (reason.long edits len would too e) = against_long q edits would len too e r (split r (reasons s ask r u))
  against r q u (reason.breaks edits number place name kind would named first e) = against_break q edits would number place name kind named first e r (split r (reasons s ask r u))

  module _ (names : List (List ℕ)) (respelled : ℕ) (t : State) (h : Refactors s ask names respelled t) where
    abbrev the_plan : IsPlan s ask h.edits respelled
    the_plan = h.whole.short.plan

    done_not : (q : Refusal) → IsReason s file at new q → ⊥
    done_not q (reason.no_file lacks e) = no_file_out reading items_once placed law s ask ones differ q (lacks, e) (the_plan.number, the_plan.text, the_plan.posed.asked.stands)
    done_not q (reason.at_no_place number text stands no_place e) = no_place_out reading items_once placed law s ask ones differ q (number, at, text, stands, inl (inl (no_place, refl)), e) (the_plan.number, the_plan.text, the_plan.posed.asked.stands, the_plan.posed.asked.places)
    done_not q (reason.no_name no_name e) = no_name the_plan.posed.asked.name
    done_not q (reason.wrong name place kind first e) = wrong_out reading items_once placed law s ask ones differ q (name, place, kind, first, e) (the_plan.p, the_plan.posed.program)
    done_not q (reason.by_plan p number text stands is v) = never_planned h.edits respelled the_plan p number text stands is q v
    done_not q (reason.long edits len would too e) = never_short q edits would len too e h.edits respelled h.whole.short
    done_not q (reason.breaks edits number place name kind would named first e) =
        h.whole.sound name place kind (subst (λ (es : List (List Entry)). IsFirstWrong (with_edits s.files es) name place kind) (sym (plan_to h.edits edits respelled the_plan would)) first)

  pub refused_first : (reply : Reply) (t : State) → Steps s (step.Rename file at new) reply t → (r : Refusal) → (reply ≡ refused r) ↔ IsFirstReason s file at new r
  refused_first reply t steps r = (to, by (rename_answers s file at new reply t steps))
    where
      least : (u : RefusesRefactoring s ask r) (q : Refusal) → Against r q → rank r ≤ rank q
      least u q (inl lt) = omega (arith, lt)
      least u q (inr e) = let same = is_rank r q e in omega (arith, same)

      to : reply ≡ refused r → IsFirstReason s file at new r
      to e =
          let u : RefusesRefactoring s ask r = (subst (λ (x : Reply). Steps s (step.Rename file at new) x t) e steps).0 in
          record { is = reason_for s file at new r u; first = λ q v. least u q (against r q u v) }

      same_as : (x : Refusal) → RefusesRefactoring s ask x → IsFirstReason s file at new r → Against x r → x ≡ r
      same_as x u h (inl lt) = let le = h.first x (reason_for s file at new x u) in absurd (omega (arith, lt, le))
      same_as x u h (inr e) = e

      by : Answered s ask reply t → IsFirstReason s file at new r → reply ≡ refused r
      by (inl (x, e, u, same)) h = e ∙ ap refused (same_as x u h (against x r u h.is))
      by (inr (names, respelled, e, done)) h = absurd (done_not names respelled t done r h.is)
