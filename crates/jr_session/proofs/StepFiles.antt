-- Steps stay in the files of their session: the names, and the places that refusals tell.
use Rattle.std.proofs.Common.{◌≡◌, ◌∙◌, ℕ, zero, suc, refl, ap, List, [], ◌∷◌, length}
use Rattle.jr_names.specs.declared.steps.Step.{Step}
use Rattle.jr_names.specs.declared.steps.Step.TheVariants.{Edit, Rename, ExtractLocal, ExtractMethod, InlineLocal, InlineMethod, PullUp, MoveStatic, MoveInstance, Show, Undo, Redo}
use Rattle.jr_names.specs.Replies.{Reply, edited, refactored, shown, undone, redone, refused}
use Rattle.jr_names.specs.Refusals.{Refusal, no_such_file, bad_place, bad_name, source_error, bad_target, prelude_method, conditional, has_return, two_results, many_targets, may_be_null, recursive, assigned, clash, override_changed, lost_binding, would_not_compile, lost_dependence, bad_span, too_long, nothing_to_undo, nothing_to_redo, report_full, too_many_sites}
use Rattle.jr_sources.specs.Sources.{Source, names_of, with_text}
use Rattle.jr_session.specs.States.{State}
use Rattle.jr_session.specs.Refusing.{Applies, Refuses}
use Rattle.jr_session.specs.Stepping.{IsRefactored, Steps}
use Rattle.jr_session.specs.Asked.{rename, extract}
use Rattle.jr_session.proofs.ExtractRequest.{extract_tells}
use Rattle.jr_session.proofs.RefactoredFiles as refactoring
use Rattle.jr_session.proofs.RefactoredFiles.{refused_places, rename_tells}
use Rattle.jr_session.proofs.Telling.{TellsIn}

with_text_names : (files : List Source) (number : ℕ) (text : List ℕ) → names_of (with_text files number text) ≡ names_of files
with_text_names [] number text = refl
with_text_names (f ∷ fs) zero text = refl
with_text_names (f ∷ fs) (suc number) text = ap (λ ns. f.name ∷ ns) (with_text_names fs number text)

-- a refactoring keeps them
refactored_names : (s : State) (step : Step) (files : List (List ℕ)) (respelled : ℕ) (t : State) → IsRefactored s step files respelled t → names_of t.files ≡ names_of s.files
refactored_names s (Rename file at new) files respelled t is = refactoring.refactored_names s (rename file at new) files respelled t is
refactored_names s (Edit file from to text) files respelled t is = absurd is
refactored_names s (ExtractLocal file from to name) files respelled t is = refactoring.refactored_names s (extract file from to name) files respelled t is
refactored_names s (ExtractMethod file from to name) files respelled t is = absurd is
refactored_names s (InlineLocal file at) files respelled t is = absurd is
refactored_names s (InlineMethod file at) files respelled t is = absurd is
refactored_names s (PullUp file at) files respelled t is = absurd is
refactored_names s (MoveStatic file at class) files respelled t is = absurd is
refactored_names s (MoveInstance file at class name) files respelled t is = absurd is
refactored_names s (Show file what) files respelled t is = absurd is
refactored_names s Undo files respelled t is = absurd is
refactored_names s Redo files respelled t is = absurd is

pub step_keeps_names : (s : State) (step : Step) (reply : Reply) (t : State) → Steps s step reply t → names_of t.files ≡ names_of s.files
step_keeps_names s step edited t (granted, does) = ap (λ (u : State). names_of u.files) does.becomes ∙ with_text_names s.files does.number _
step_keeps_names s step (refactored files respelled) t (granted, does) = refactored_names s step files respelled t does
step_keeps_names s step (shown lines) t (granted, does) = ap (λ (u : State). names_of u.files) does.becomes
step_keeps_names s step undone t (granted, does) = does.1.names
step_keeps_names s step redone t (granted, does) = does.1.names
step_keeps_names s step (refused r) t (first, same) = ap (λ (u : State). names_of u.files) same

refusal_tells : (s : State) (step : Step) (r : Refusal) → Applies s step r → TellsIn (length s.files) r
refusal_tells s step (no_such_file name) applies = tt
refusal_tells s step (bad_place file at) applies = absurd applies
refusal_tells s step (bad_name name) applies = absurd applies
refusal_tells s step (source_error file at kind) applies = tt
refusal_tells s step (bad_target at need) applies = absurd applies
refusal_tells s step (prelude_method method) applies = absurd applies
refusal_tells s step (conditional at) applies = absurd applies
refusal_tells s step (has_return at) applies = absurd applies
refusal_tells s step (two_results first second) applies = absurd applies
refusal_tells s step (many_targets call method) applies = absurd applies
refusal_tells s step (may_be_null at) applies = absurd applies
refusal_tells s step (recursive call) applies = absurd applies
refusal_tells s step (assigned local at) applies = absurd applies
refusal_tells s step (clash with) applies = absurd applies
refusal_tells s step (override_changed class method) applies = absurd applies
refusal_tells s step (lost_binding reference declaration found) applies = absurd applies
refusal_tells s step (would_not_compile at rule) applies = absurd applies
refusal_tells s step (lost_dependence kind first second) applies = absurd applies
refusal_tells s step (bad_span from to) applies = tt
refusal_tells s step (too_long len) applies = tt
refusal_tells s step nothing_to_undo applies = tt
refusal_tells s step nothing_to_redo applies = tt
refusal_tells s step (report_full len) applies = tt
refusal_tells s step (too_many_sites member count) applies = tt

step_refusal : (s : State) (step : Step) (r : Refusal) → Refuses s step r → TellsIn (length s.files) r
step_refusal s (Rename file at new) r h = refused_places s (rename file at new) (rename_tells s file at new) r h
step_refusal s (Edit file from to text) r h = refusal_tells s (Edit file from to text) r h.applies
step_refusal s (ExtractLocal file from to name) r h = refused_places s (extract file from to name) (extract_tells s file from to name) r h
step_refusal s (ExtractMethod file from to name) r h = refusal_tells s (ExtractMethod file from to name) r h.applies
step_refusal s (InlineLocal file at) r h = refusal_tells s (InlineLocal file at) r h.applies
step_refusal s (InlineMethod file at) r h = refusal_tells s (InlineMethod file at) r h.applies
step_refusal s (PullUp file at) r h = refusal_tells s (PullUp file at) r h.applies
step_refusal s (MoveStatic file at class) r h = refusal_tells s (MoveStatic file at class) r h.applies
step_refusal s (MoveInstance file at class name) r h = refusal_tells s (MoveInstance file at class name) r h.applies
step_refusal s (Show file what) r h = refusal_tells s (Show file what) r h.applies
step_refusal s Undo r h = refusal_tells s Undo r h.applies
step_refusal s Redo r h = refusal_tells s Redo r h.applies

pub step_tells : (s : State) (step : Step) (r : Refusal) (t : State) → Steps s step (refused r) t → TellsIn (length s.files) r
step_tells s step r t one = step_refusal s step r one.0
