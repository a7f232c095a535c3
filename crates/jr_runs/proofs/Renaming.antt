-- A program and its image under a map of keys have the same runs.
use Rattle.std.proofs.Common.{◌≡◌, List, [], ◌∷◌, ◌++◌, refl, sym, ap, ◌∙◌}
use Rattle.jr_plans.specs.Follow.{Joins}
use Rattle.jr_runs.specs.Keys.{Keys}
use Rattle.jr_runs.specs.Actions.{Event, Trace}
use Rattle.jr_runs.specs.Core.{Program}
use Rattle.jr_runs.specs.Running.{actions_of}
use Rattle.jr_runs.specs.KeyMaps.{KeyMap, Undoes, action_image, trace_image}
use Rattle.jr_runs.specs.Images.{Spots, Renamed}
use Rattle.jr_runs.specs.Alike.{AlikeExactly}
use Rattle.jr_runs.proofs.ImagePrograms.{Changes, programs_match}
use Rattle.jr_runs.proofs.Halves.{actions_append, alike, starts_match}

module _ {K : Keys} (r : KeyMap K) where
  pub image_append : (t u : Trace K) → trace_image r (t ++ u) ≡ trace_image r t ++ trace_image r u
  image_append [] u = refl
  image_append (x ∷ t) u = ap (λ w. action_image r x ∷ w) (image_append t u)

  -- the actions are the images of the actions, in their order, wherever the code stands that makes them
  abbrev pub Mapped : List (Event K) → List (Event K) → Type 0
  Mapped t u = trace_image r (actions_of t) ≡ actions_of u

  pub mapped_joins : Joins Mapped
  mapped_joins = record {
    none = refl;
    both = λ t u t' u' h g. ap (trace_image r) (actions_append t t') ∙ image_append (actions_of t) (actions_of t') ∙ (λ i. h i ++ g i) ∙ sym (actions_append u u');
  }

  pub mapped_images : (x y : Event K) → y.action ≡ action_image r x.action → Mapped (x ∷ []) (y ∷ [])
  mapped_images x y e = λ i. sym e i ∷ []

-- No statement list is changed.
pub renamed_programs_are_alike : {K : Keys} (r s : KeyMap K) → Undoes r s → Undoes s r → (P Q : Program K) → Renamed r P Q → AlikeExactly r P Q
renamed_programs_are_alike {K = K} r s undoes there P Q h =
    let NoSpot : Spots K = λ a A b b' B. ⊥ in
    let c : Changes r s NoSpot 0 (Mapped r) P Q = record { there = there; joins = mapped_joins r; images = mapped_images r; programs = h } in
    alike r s undoes 0 (Mapped r) (λ u t. u ≡ t) (λ t u e. e) P Q h.rows.field_kind (starts_match r NoSpot 0 (Mapped r) P Q (programs_match r s NoSpot 0 (Mapped r) P Q c (λ Z t answered a stands frame me me' im A b b' B none. absurd none)))
