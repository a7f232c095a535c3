-- Why a refactoring of a span can't be asked for.
use Rattle.std.proofs.Common.{◌≡◌, ◌⊎◌, ◌<◌, ◌≤◌, ℕ, List, [], ◌∷◌, Some, refl, sym, inl, inr, arith}
use Rattle.std.specs.Prelude.{Option, None, MatchOption}
use Rattle.jr_lex.specs.Replacing.{IsName}
use Rattle.jr_names.specs.declared.refusals.Refusal as raw
use Rattle.jr_names.specs.Refusals.{Refusal, bad_place}
use Rattle.jr_names.specs.RefusalView.{refusal_of}
use Rattle.jr_sources.specs.Asking.{CanStand, IsUnasked}
use Rattle.jr_session.specs.Requests.{AreGoodPlaces, CannotBeAsked}

module _ (file text : List ℕ) (from to : ℕ) (new : List ℕ) where
  abbrev pub Cannot : Refusal → Type 0
  Cannot r = CannotBeAsked file text (from ∷ to ∷ []) (Some new) r

  pub first_is_bad : (CanStand text from → ⊥) → (r : Refusal) → r ≡ bad_place file from → Cannot r
  first_is_bad none r e = inl (from, inl (inl (none, refl)), e)

  pub turned_round : CanStand text from → CanStand text to → to < from → (r : Refusal) → r ≡ bad_place file from → Cannot r
  turned_round a b lt r e = inl (from, inr ((a, (b, tt)), (λ o. let le = o.0 in omega (arith, lt, le)), refl), e)

  -- the second offset is bad, or the name is, where the offsets are in order or the second is bad
  pub second_is_bad : CanStand text from → (CanStand text to → from ≤ to) → (r : Refusal) → IsUnasked file text to new r → Cannot r
  second_is_bad a ordered r (inl h) = inl (to, inl (inr (a, inl (h.0, refl))), h.1)
  second_is_bad a ordered r (inr h) = inr (new, ((a, (h.0, tt)), (ordered h.0, tt)), (h.1, refl), h.2)

  pub all_good : CanStand text from → from ≤ to → CanStand text to × IsName new → AreGoodPlaces text (from ∷ to ∷ []) × IsName new
  all_good a le h = (((a, (h.0, tt)), (le, tt)), h.1)

  -- what is found out: nothing bars it, or why it can't be asked for
  abbrev pub Finds : Option raw.Refusal → Type 0
  Finds found = MatchOption found (AreGoodPlaces text (from ∷ to ∷ []) × IsName new) (λ r. Cannot (refusal_of r))

  pub finds_bad : ((r : Refusal) → r ≡ bad_place file from → Cannot r) → (found : Option raw.Refusal) → MatchOption found ⊥ (λ r. refusal_of r ≡ bad_place file from) → Finds found
  finds_bad why None h = absurd h
  finds_bad why (Some r) h = why (refusal_of r) h

  pub finds_of_second : CanStand text from → (CanStand text to → from ≤ to) → (found : Option raw.Refusal) → MatchOption found (CanStand text to × IsName new) (λ r. IsUnasked file text to new (refusal_of r)) → Finds found
  finds_of_second a ordered None h = all_good a (ordered h.0) h
  finds_of_second a ordered (Some r) h = second_is_bad a ordered (refusal_of r) h
