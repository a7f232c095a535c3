-- A step that asks for a refactoring, whichever it is: what a reply to it says.
use Rattle.std.proofs.Common.{◌≡◌, ◌⊎◌, ℕ, List, refl, subst, inl, inr}
use Rattle.jr_names.specs.declared.steps.Step.{Step}
use Rattle.jr_names.specs.declared.steps.Step.TheVariants as step
use Rattle.jr_names.specs.Refusals.{Refusal}
use Rattle.jr_names.specs.Replies.{Reply, edited, refactored, shown, undone, redone, refused}
use Rattle.jr_session.specs.Asked.{asks_of, rename, extract}
use Rattle.jr_session.specs.Promises.{IsDone}
use Rattle.jr_session.specs.Refactored.{RefusesRefactoring, Refactors}
use Rattle.jr_session.specs.Refusing.{GrantsBy, RefusesBy}
use Rattle.jr_session.specs.Requests.{Request, Asks, refactors}
use Rattle.jr_session.specs.States.{State}
use Rattle.jr_session.specs.Stepping.{Steps, Does, RefactorsBy}

-- ---- a step by what it asks for

abbrev pub StepsFor : Asks → State → Step → Reply → State → Type 0
StepsFor asks s of edited t = GrantsBy asks s of × Does s of edited t
StepsFor asks s of (refactored names n) t = GrantsBy asks s of × RefactorsBy asks s names n t
StepsFor asks s of (shown lines) t = GrantsBy asks s of × Does s of (shown lines) t
StepsFor asks s of undone t = GrantsBy asks s of × Does s of undone t
StepsFor asks s of redone t = GrantsBy asks s of × Does s of redone t
StepsFor asks s of (refused r) t = RefusesBy asks s of r × (t ≡ s)

pub by_asks : (s : State) (of : Step) (r : Reply) (t : State) → Steps s of r t → StepsFor (asks_of of) s of r t
by_asks s of edited t h = h
by_asks s of (refactored names n) t h = h
by_asks s of (shown lines) t h = h
by_asks s of undone t h = h
by_asks s of redone t h = h
by_asks s of (refused r) t h = h

pub from_asks : (s : State) (of : Step) (r : Reply) (t : State) → StepsFor (asks_of of) s of r t → Steps s of r t
from_asks s of edited t h = h
from_asks s of (refactored names n) t h = h
from_asks s of (shown lines) t h = h
from_asks s of undone t h = h
from_asks s of redone t h = h
from_asks s of (refused r) t h = h

-- ---- a refactoring is refused and nothing changes, or it is done

abbrev pub StepsBy : State → Request → Reply → State → Type 0
StepsBy s ask edited t = ⊥
StepsBy s ask (refactored names n) t = Refactors s ask names n t
StepsBy s ask (shown lines) t = ⊥
StepsBy s ask undone t = ⊥
StepsBy s ask redone t = ⊥
StepsBy s ask (refused r) t = RefusesRefactoring s ask r × (t ≡ s)

pub asked : (s : State) (of : Step) (ask : Request) (r : Reply) (t : State) → StepsBy s ask r t → StepsFor (refactors ask) s of r t
asked s of ask edited t h = absurd h
asked s of ask (refactored names n) t h = (tt, h)
asked s of ask (shown lines) t h = absurd h
asked s of ask undone t h = absurd h
asked s of ask redone t h = absurd h
asked s of ask (refused r) t h = h

-- it is none of the steps that ask for nothing
abbrev pub IsRefactoring : Step → Type 0
IsRefactoring (step.Edit file from to text) = ⊥
IsRefactoring (step.Show file of) = ⊥
IsRefactoring step.Undo = ⊥
IsRefactoring step.Redo = ⊥
IsRefactoring _ = Unit {0}

abbrev pub Answered : State → Request → Reply → State → Type 0
Answered s ask r t = ((x : Refusal) × (r ≡ refused x) × RefusesRefactoring s ask x × (t ≡ s))
    ⊎ ((names : List (List ℕ)) × (respelled : ℕ) × (r ≡ refactored names respelled) × Refactors s ask names respelled t)

pub answered : (s : State) (of : Step) → IsRefactoring of → (ask : Request) (r : Reply) (t : State) → StepsFor (refactors ask) s of r t → Answered s ask r t
answered s of is ask edited t h = absurd (subst IsRefactoring h.1.edit.is is)
answered s of is ask (refactored names n) t h = inr (names, n, refl, h.1)
answered s of is ask (shown lines) t h = absurd (subst IsRefactoring h.1.shows.shows.is is)
answered s of is ask undone t h = absurd (subst IsRefactoring h.1.0 is)
answered s of is ask redone t h = absurd (subst IsRefactoring h.1.0 is)
answered s of is ask (refused x) t h = inl (x, refl, h.0, h.1)

pub done_of : (s : State) (ask : Request) (r : Reply) (t : State) → Answered s ask r t → IsDone r → (names : List (List ℕ)) × (n : ℕ) × Refactors s ask names n t
done_of s ask r t (inl h) done = absurd (done h.0 h.1)
done_of s ask r t (inr h) done = (h.0, h.1, h.3)

-- ---- of each

pub rename_answers : (s : State) (file : List ℕ) (at : ℕ) (new : List ℕ) (r : Reply) (t : State) → Steps s (step.Rename file at new) r t → Answered s (rename file at new) r t
rename_answers s file at new r t h = answered s (step.Rename file at new) tt (rename file at new) r t (by_asks s (step.Rename file at new) r t h)

pub extract_answers : (s : State) (file : List ℕ) (from to : ℕ) (new : List ℕ) (r : Reply) (t : State) → Steps s (step.ExtractLocal file from to new) r t → Answered s (extract file from to new) r t
extract_answers s file from to new r t h = answered s (step.ExtractLocal file from to new) tt (extract file from to new) r t (by_asks s (step.ExtractLocal file from to new) r t h)
