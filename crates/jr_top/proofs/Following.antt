-- Steps that a session takes one after another.
use Rattle.std.proofs.Common.{◌≡◌, ◌∙◌, ◌<◌, ℕ, zero, suc, refl, ap, arith, subst, List, [], ◌∷◌, ◌++◌, ◌+◌, get_or, length, map, sym, take, All}
use Rattle.std.proofs.lemmas.List.{length-map, map-append, take_more}
use Rattle.jr_text.specs.declared.spans.Place.{Place}
use Rattle.jr_names.specs.declared.replies.Reply as raw
use Rattle.jr_names.specs.ReplyView.{reply_of}
use Rattle.jr_names.specs.declared.steps.Step.{Step}
use Rattle.jr_names.specs.Replies.{Reply, edited, refactored, shown, undone, redone, refused}
use Rattle.jr_names.specs.Refusals.{Refusal, no_such_file, bad_place, bad_name, source_error, bad_target, prelude_method, conditional, has_return, two_results, many_targets, may_be_null, recursive, assigned, clash, override_changed, lost_binding, would_not_compile, lost_dependence, bad_span, too_long, nothing_to_undo, nothing_to_redo, report_full, too_many_sites}
use Rattle.jr_script.specs.RefusalTexts.{ArePlacesIn, places_of}
use Rattle.jr_script.specs.Reports.{AreRepliesIn, reply_places}
use Rattle.jr_sources.specs.Sources.{Source, names_of}
use Rattle.jr_session.specs.Promises.{Promises}
use Rattle.jr_session.specs.States.{State}
use Rattle.jr_session.specs.Stepping.{Steps}
use Rattle.jr_session.proofs.StepFiles.{step_keeps_names, step_tells}
use Rattle.jr_session.proofs.Telling.{TellsIn}
use Rattle.jr_top.specs.Scripts.{Follow}

-- one step more
pub follow_more : (s : State) (steps : List Step) (replies : List Reply) (t u : State) (step : Step) (reply : Reply) → Follow s steps replies t → Steps t step reply u → Promises t step reply u
    → Follow s (steps ++ step ∷ []) (replies ++ reply ∷ []) u
follow_more s [] [] t u step reply same one promise = (u, subst (λ (v : State). Steps v step reply u) same one, subst (λ (v : State). Promises v step reply u) same promise, refl)
follow_more s [] (r ∷ rs) t u step reply follow one promise = absurd follow
follow_more s (x ∷ xs) [] t u step reply follow one promise = absurd follow
follow_more s (x ∷ xs) (r ∷ rs) t u step reply (between, first, kept, rest) one promise = (between, first, kept, follow_more between xs rs t u step reply rest one promise)

pub follow_step : (s t u : State) (steps : List Step) (i : ℕ) (item : Step) (replies replies' : List raw.Reply) (reply : raw.Reply) → i < length steps → item ≡ get_or steps i item → replies' ≡ replies ++ reply ∷ []
    → Follow s (take i steps) (map reply_of replies) t → Steps t item (reply_of reply) u → Promises t item (reply_of reply) u → Follow s (take (i + 1) steps) (map reply_of replies') u
follow_step s t u steps i item replies replies' reply below is pushed follow one promise =
    let more : take (i + 1) steps ≡ take i steps ++ item ∷ [] = take_more steps i item below ∙ ap (λ x. take i steps ++ x ∷ []) (sym is) in
    let all : map reply_of replies' ≡ map reply_of replies ++ reply_of reply ∷ [] = ap (map reply_of) pushed ∙ map-append reply_of replies (reply ∷ []) in
    subst (λ xs. Follow s xs (map reply_of replies') u) (sym more) (subst (λ rs. Follow s (take i steps ++ item ∷ []) rs u) (sym all)
    (follow_more s (take i steps) (map reply_of replies) t u item (reply_of reply) follow one promise))

-- ---- the names of files

pub names_stay : (s : State) (steps : List Step) (replies : List Reply) (t : State) → Follow s steps replies t → names_of t.files ≡ names_of s.files
names_stay s [] [] t same = ap (λ (u : State). names_of u.files) same
names_stay s [] (r ∷ rs) t follow = absurd follow
names_stay s (x ∷ xs) [] t follow = absurd follow
names_stay s (x ∷ xs) (r ∷ rs) t (between, first, kept, rest) = names_stay between xs rs t rest ∙ step_keeps_names s x r between first

-- ---- places in replies

no_places : (files : List (List ℕ)) → ArePlacesIn files []
no_places files k d below = absurd (omega (arith, below))

one_place : (files : List (List ℕ)) (p : Place) → p.file < length files → ArePlacesIn files (p ∷ [])
one_place files p within zero d below = within
one_place files p within (suc k) d below = absurd (omega (arith, below))

two_places : (files : List (List ℕ)) (p q : Place) → p.file < length files → q.file < length files → ArePlacesIn files (p ∷ q ∷ [])
two_places files p q one other zero d below = one
two_places files p q one other (suc zero) d below = other
two_places files p q one other (suc (suc k)) d below = absurd (omega (arith, below))

-- the places that a refusal tells
told_places : (files : List (List ℕ)) (r : Refusal) → TellsIn (length files) r → ArePlacesIn files (places_of r)
told_places files (no_such_file name) told = no_places files
told_places files (bad_place file at) told = no_places files
told_places files (bad_name name) told = no_places files
told_places files (source_error file at kind) told = no_places files
told_places files (bad_target at need) told = one_place files at told
told_places files (prelude_method method) told = no_places files
told_places files (conditional at) told = one_place files at told
told_places files (has_return at) told = one_place files at told
told_places files (two_results first second) told = no_places files
told_places files (many_targets call method) told = one_place files call told
told_places files (may_be_null at) told = one_place files at told
told_places files (recursive call) told = one_place files call told
told_places files (assigned local at) told = one_place files at told
told_places files (clash with) told = no_places files
told_places files (override_changed class method) told = no_places files
told_places files (lost_binding reference declaration found) told = one_place files reference told
told_places files (would_not_compile at rule) told = one_place files at told
told_places files (lost_dependence kind first second) told = two_places files first.place second.place told.0 told.1
told_places files (bad_span from to) told = no_places files
told_places files (too_long len) told = no_places files
told_places files nothing_to_undo told = no_places files
told_places files nothing_to_redo told = no_places files
told_places files (report_full len) told = no_places files
told_places files (too_many_sites member count) told = no_places files

pub step_places : (s : State) (step : Step) (reply : Reply) (t : State) → Steps s step reply t → ArePlacesIn (names_of s.files) (reply_places reply)
step_places s step edited t one = no_places (names_of s.files)
step_places s step (refactored changed respelled) t one = no_places (names_of s.files)
step_places s step (shown lines) t one = no_places (names_of s.files)
step_places s step undone t one = no_places (names_of s.files)
step_places s step redone t one = no_places (names_of s.files)
step_places s step (refused r) t one =
    told_places (names_of s.files) r (subst (λ n. TellsIn n r) (sym (length-map s.files (λ (f : Source). f.name))) (step_tells s step r t one))

pub replies_in : (files : List (List ℕ)) (s : State) (steps : List Step) (replies : List Reply) (t : State) → names_of s.files ≡ files → Follow s steps replies t → AreRepliesIn files replies
replies_in files s [] [] t names follow k d below = absurd (omega (arith, below))
replies_in files s [] (r ∷ rs) t names follow k d below = absurd follow
replies_in files s (x ∷ xs) [] t names follow k d below = absurd follow
replies_in files s (x ∷ xs) (r ∷ rs) t names (between, first, kept, rest) zero d below = subst (λ ns. ArePlacesIn ns (reply_places r)) names (step_places s x r between first)
replies_in files s (x ∷ xs) (r ∷ rs) t names (between, first, kept, rest) (suc k) d below =
    replies_in files between xs rs t (step_keeps_names s x r between first ∙ names) rest k d (omega (arith, below))
