-- What the machine for members builds over tokens with places has its spans.
use Rattle.std.proofs.Common.{◌≡◌, ℕ, Bool, true, false, List, [], ◌∷◌, ◌++◌, Option, Some, None, refl, sym, ap, subst, ◌∙◌}
use Rattle.std.specs.Prelude.{option_map, IfSome}
use Rattle.std.proofs.lemmas.Bool.{cond_both}
use Rattle.std.proofs.lemmas.Option.{same_Some}
use Rattle.jr_text.specs.declared.spans.Span.{Span}
use Rattle.jr_lex.specs.declared.items.Keyword.TheVariants.{Class as ClassWord}
use Rattle.jr_ast.specs.MemberTree.{Class, Member}
use Rattle.jr_ast.specs.Marks.{class_mark}
use Rattle.jr_grammar.specs.Tokens.{Token, keyword, Placed, kinds}
use Rattle.jr_grammar.specs.Stands.{Tokens, Stands}
use Rattle.jr_grammar.specs.MemberLayout.{class_layout, member_layout}
use Rattle.jr_grammar.specs.Bare.{Bare, bare_member}
use Rattle.jr_pexpr.specs.Marked.{join}
use Rattle.jr_pexpr.specs.Runs as Runs
use Rattle.jr_pexpr.proofs.Maps.{run_map}
use Rattle.jr_pstmt.specs.Cues.{Cue, a_class, cue_token, cue_of}
use Rattle.jr_pstmt.specs.OwnMachine as Own
use Rattle.jr_punit_laws.specs.ClassMachine as C
use Rattle.jr_punit_laws.specs.MemberMachine.{State, own, in_class, start, class_begun, begin_class, inner_step, class_member, step, whole, is_start}
use Rattle.jr_punit_laws.specs.Machines.{member_step, member_whole}
use Rattle.jr_punit_laws.specs.Marked.{span_member_step, span_member_whole, span_member_run}
use Rattle.jr_pstmt.proofs.CueTokens.{cue_back}
use Rattle.jr_pstmt.proofs.Inside.{inner_both}
use Rattle.jr_punit_laws.proofs.OwnComplete.{own_step}
use Rattle.jr_punit_laws.proofs.OwnEnds.{own_unread}
use Rattle.jr_punit_laws.proofs.MemberReads.{member_laws}
use Rattle.jr_punit_laws.proofs.BareMembers.{bare_own, own_step-bare, own_whole-bare, bare_member_state, member_step-bare, member_whole-bare}
use Rattle.jr_punit_laws.proofs.Standing.{Whole, stand_last}
use Rattle.jr_punit_laws.proofs.ParameterStands.{run_stands}
use Rattle.jr_punit_laws.proofs.ExpressionStands.{no_kinds}
use Rattle.jr_punit_laws.proofs.OwnStands.{StoodOwn, own_step_stands, own_whole_stands, lead_open}
use Rattle.jr_punit_laws.proofs.ClassStands.{SpanLaws, StoodClass, class_step_stands, class_whole_stands}

-- ---- member classes

abbrev span_own_step : List ℕ → Own.State Span → Placed Span → Option (Own.State Span)
span_own_step name s p = Own.step join name s p.mark p.token

abbrev span_own_run : List ℕ → Own.State Span → Tokens → Option (Own.State Span)
span_own_run name s ps = Runs.run (Own.State Span) (Placed Span) (Member Span) (span_own_step name) Own.whole s ps

own_builds : (name : List ℕ) (ps : Tokens) (n : Own.State Span) (d : Member Span) → span_own_run name Own.start ps ≡ Some n → Own.whole n ≡ Some d → Stands (member_layout d) ps
own_builds name ps n d h k = own_whole_stands n d ps (run_stands (Own.State Span) (Member Span) (span_own_step name) Own.whole StoodOwn (own_step_stands name) Own.start n ps refl h) k

span_own_unread : (name : List ℕ) (ps : Tokens) → span_own_run name Own.start ps ≡ Some Own.start → ps ≡ []
span_own_unread name ps h =
    no_kinds ps (own_unread name (kinds ps)
    (sym (run_map (Own.State Span) (Placed Span) (Member Span) (Own.State Bare) Token (Member Bare) (span_own_step name) Own.whole (own_step name) Own.whole bare_own (λ p. p.token) bare_member (λ s p. own_step-bare name s p.mark p.token)
    own_whole-bare Own.start ps)
    ∙ ap (option_map bare_own) h))

own_start_is : (s : Own.State Span) → Own.is_start s ≡ true → s ≡ Own.start
own_start_is (Own.modified []) h = refl
own_start_is (Own.modified (m ∷ ms)) h = absurd cc
own_start_is _ h = absurd cc

own_span_laws : SpanLaws (Own.State Span) Own.start Own.is_start (Own.step join) Own.whole
own_span_laws = record { builds = own_builds; unread = span_own_unread; fresh_is = own_start_is }

abbrev StoodInner : C.State Span (Own.State Span) → Tokens → Type 0
StoodInner s ps = StoodClass (Own.State Span) Own.start Own.is_start (Own.step join) Own.whole own_span_laws s ps

inner_step_stands : (s : C.State Span (Own.State Span)) (i : Placed Span) (ps : Tokens) → StoodInner s ps → IfSome (inner_step join s i.mark i.token) (λ (n : C.State Span (Own.State Span)). StoodInner n (ps ++ (i ∷ [])))
inner_step_stands = class_step_stands (Own.State Span) Own.start Own.is_start (Own.step join) Own.whole own_span_laws

inner_whole_stands : (s : C.State Span (Own.State Span)) (c : Class Span) (ps : Tokens) → StoodInner s ps → C.whole s ≡ Some c → Whole (class_layout c) (class_mark c) ps
inner_whole_stands = class_whole_stands (Own.State Span) Own.start Own.is_start (Own.step join) Own.whole own_span_laws

-- ---- members

abbrev StoodMember : State Span → Tokens → Type 0
StoodMember (own s) ps = StoodOwn s ps
StoodMember (in_class s) ps = StoodInner s ps

abbrev After : Tokens → Placed Span → Option (State Span) → Type 0
After ps i o = IfSome o (λ (n : State Span). StoodMember n (ps ++ (i ∷ [])))

begun_stands : (s : Own.State Span) (i : Placed Span) (ps : Tokens) → i.token ≡ keyword ClassWord → StoodOwn s ps → After ps i (class_begun s i.mark)
begun_stands (Own.modified ms) i ps t h = lead_open ms (keyword ClassWord) ps i t h
begun_stands _ i ps t h = tt

class_stands : (nested : Bool) (s : Own.State Span) (i : Placed Span) (q : Cue) (ps : Tokens) → i.token ≡ cue_token q → StoodOwn s ps → After ps i (begin_class nested s i.mark q)
class_stands nested s i a_class ps t h = cond_both nested None (class_begun s i.mark) (After ps i) (λ _. tt) (λ _. begun_stands s i ps t h)
class_stands nested s i _ ps t h = tt

lifted : (f : Own.State Span → State Span) (o : Option (Own.State Span)) (n : Own.State Span) (ps : Tokens) → o ≡ Some n → IfSome o (λ (m : Own.State Span). StoodOwn m ps) → StoodOwn n ps
lifted f o n ps e h = subst (λ (o : Option (Own.State Span)). IfSome o (λ (m : Own.State Span). StoodOwn m ps)) e h

member_step_stands : (nested : Bool) (name : List ℕ) (s : State Span) (i : Placed Span) (ps : Tokens) → StoodMember s ps → After ps i (span_member_step nested name s i)
member_step_stands nested name (own s) i ps h =
    inner_both own (begin_class nested s i.mark (cue_of i.token)) (span_own_step name s i) (After ps i)
    (λ n e. lifted own (span_own_step name s i) n (ps ++ (i ∷ [])) e (own_step_stands name s i ps h))
    (λ _. class_stands nested s i (cue_of i.token) ps (sym (cue_back i.token)) h)
member_step_stands nested name (in_class s) i ps h = go (inner_step join s i.mark i.token) (inner_step_stands s i ps h)
  where
    go : (o : Option (C.State Span (Own.State Span))) → IfSome o (λ (n : C.State Span (Own.State Span)). StoodInner n (ps ++ (i ∷ []))) → After ps i (option_map in_class o)
    go None k = tt
    go (Some n) k = k

member_whole_stands : (s : State Span) (d : Member Span) (ps : Tokens) → StoodMember s ps → span_member_whole s ≡ Some d → Stands (member_layout d) ps
member_whole_stands (own s) d ps h k = own_whole_stands s d ps h k
member_whole_stands (in_class s) d ps h k = go (C.whole s) refl k
  where
    go : (o : Option (Class Span)) → C.whole s ≡ o → option_map class_member o ≡ Some d → Stands (member_layout d) ps
    go None e q = absurd cc
    go (Some c) e q =
        let w = inner_whole_stands s c ps h e in
        subst (λ (r : Member Span). Stands (member_layout r) ps) (same_Some (class_member c) d q) (record { mark = w.mark; parts = stand_last (class_layout c) ps w.stands })

pub member_builds : (nested : Bool) (name : List ℕ) (ps : Tokens) (n : State Span) (d : Member Span) → span_member_run nested name start ps ≡ Some n → span_member_whole n ≡ Some d → Stands (member_layout d) ps
member_builds nested name ps n d h k =
    member_whole_stands n d ps (run_stands (State Span) (Member Span) (span_member_step nested name) span_member_whole StoodMember (member_step_stands nested name) start n ps refl h) k

-- ---- what classes need of members

span_member_unread : (name : List ℕ) (ps : Tokens) → span_member_run false name start ps ≡ Some start → ps ≡ []
span_member_unread name ps h =
    no_kinds ps (member_laws.unread name (kinds ps)
    (sym (run_map (State Span) (Placed Span) (Member Span) (State Bare) Token (Member Bare) (span_member_step false name) span_member_whole (member_step false name) member_whole bare_member_state (λ p. p.token) bare_member
    (λ s p. member_step-bare false name s p.mark p.token) member_whole-bare start ps)
    ∙ ap (option_map bare_member_state) h))

start_is : (s : State Span) → is_start s ≡ true → s ≡ start
start_is (own s) h = ap own (own_start_is s h)
start_is (in_class s) h = absurd cc

pub member_span_laws : SpanLaws (State Span) start is_start (step join false) whole
member_span_laws = record { builds = member_builds false; unread = span_member_unread; fresh_is = start_is }
