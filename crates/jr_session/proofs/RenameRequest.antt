-- A rename as a request: it is planned in one way.
use Rattle.std.proofs.Common.{◌≡◌, ℕ, List, [], ◌∷◌, Some, refl, inl, inr}
use Rattle.jr_text.specs.Edits.{Entry}
use Rattle.jr_rename_laws.specs.OnePlan.{PlanIsOne}
use Rattle.jr_rename_laws.specs.PlanLaws.{IsPlanIn}
use Rattle.jr_names.specs.Refusals.{Refusal}
use Rattle.jr_sources.specs.Asking.{CanStand, IsUnasked}
use Rattle.jr_session.specs.Asked.{rename}
use Rattle.jr_session.specs.Refactored.{IsPlan}
use Rattle.jr_session.specs.Requests.{IsBadPlace, CannotBeAsked}
use Rattle.jr_session.specs.States.{State}
use Rattle.jr_session.proofs.OneRefactoring.{IsPlannedOnce}

pub rename_once : PlanIsOne → (file : List ℕ) (at : ℕ) (new : List ℕ) → IsPlannedOnce (rename file at new)
rename_once law file at new p q is also same number f stands name = law p q is also same number at f stands new name

-- the one place that may be bad
pub bad_place_is : (text : List ℕ) (at told : ℕ) → IsBadPlace text (at ∷ []) told → (CanStand text at → ⊥) × (told ≡ at)
bad_place_is text at told (inl (inl h)) = h
bad_place_is text at told (inl (inr h)) = absurd h.1
bad_place_is text at told (inr h) = absurd (h.1 tt)

-- the plan of a step, as `jr_rename_laws` has it
abbrev pub plan_of : (s : State) (file : List ℕ) (at : ℕ) (new : List ℕ) (edits : List (List Entry)) (respelled : ℕ) → (h : IsPlan s (rename file at new) edits respelled) → IsPlanIn h.p h.text h.number at new edits h.renaming respelled
plan_of s file at new edits respelled h = record { program = h.posed.program.is; name = h.posed.asked.name; planned = h.planned }

pub cannot_rename : (file text : List ℕ) (at : ℕ) (new : List ℕ) (r : Refusal) → IsUnasked file text at new r → CannotBeAsked file text (at ∷ []) (Some new) r
cannot_rename file text at new r (inl h) = inl (at, inl (inl (h.0, refl)), h.1)
cannot_rename file text at new r (inr h) = inr (new, ((h.0, tt), tt), (h.1, refl), h.2)
