-- Traces of calm pieces change places where all their accesses may.
use Rattle.std.proofs.Common.{◌≡◌, ◌⊎◌, List, [], ◌∷◌, ◌++◌, Some, None, refl, sym, ap, ◌∙◌, subst, ⊎_elim}
use Rattle.jr_plans.specs.Swaps.{same}
use Rattle.jr_plans.specs.Follow.{Joins}
use Rattle.jr_plans.specs.Finite.{Each}
use Rattle.jr_plans.proofs.Swapping.{swaps_both, two_pieces}
use Rattle.jr_sync.specs.Grid.{is_allowed}
use Rattle.jr_runs.specs.Keys.{Keys}
use Rattle.jr_runs.specs.Actions.{Location, Action, Event, Trace}
use Rattle.jr_runs.specs.Rows.{Rows}
use Rattle.jr_runs.specs.Reordering.{kind_of, location_of, Free, Reordered}
use Rattle.jr_runs.specs.Reordering.{stores as is_storing}
use Rattle.jr_runs.specs.Running.{actions_of}
use Rattle.jr_runs.specs.KeyMaps.{same_keys, action_image, trace_image}
use Rattle.jr_runs.proofs.Halves.{actions_append}
use Rattle.jr_runs.proofs.Renaming.{image_append, Mapped}
use Rattle.jr_runs_held.specs.Footprint.{Access, loads, stores, enters, field_in, Makes, OneMakes, access_kind, access_field, is_store, MayPass, PassesAll, AllMayPass}
use Rattle.jr_runs_held.proofs.Turned.{same_action}

-- what an access's event shows
record Shows {K : Keys} (R : Rows K) (a : Access K) (x : Event K) : Type 0 where
  kind : kind_of x.action ≡ access_kind R a
  place : (at : Location K) → location_of x.action ≡ Some at → access_field a ≡ Some (field_in at)
  store : is_storing x.action ≡ is_store a

some_one : {A : Type 0} (a b : A) → Some a ≡ Some b → a ≡ b
some_one a b e = cc

no_some : {A B : Type 0} (a : A) → None ≡ Some a → B
no_some {A = A} a e = absurd (apart e)
  where
    apart : None ≡ Some a → ⊥
    apart i = cc

module _ {K : Keys} (R : Rows K) where
  shows : (a : Access K) (x : Event K) → Makes R a x → Shows R a x
  shows (loads f) x m = record {
    kind = ap kind_of m.3;
    place = λ at h. ap Some (sym m.2 ∙ ap field_in (some_one m.0 at (sym (ap location_of m.3) ∙ h)));
    store = ap is_storing m.3;
  }
  shows (stores f) x m = record {
    kind = ap kind_of m.3;
    place = λ at h. ap Some (sym m.2 ∙ ap field_in (some_one m.0 at (sym (ap location_of m.3) ∙ h)));
    store = ap is_storing m.3;
  }
  shows enters x m = record { kind = ap kind_of m.1; place = λ at h. no_some at (sym (ap location_of m.1) ∙ h); store = ap is_storing m.1 }

  one_free : (a b : Access K) (x y : Event K) → MayPass R a b → Makes R a x → Makes R b y → Free x.action y.action
  one_free a b x y p m n =
      let u = shows a x m in
      let v = shows b y n in
      record {
        allowed = (λ i. is_allowed (u.kind i) (v.kind i)) ∙ p.allowed;
        apart = λ at h j. let d = p.apart (field_in at) (u.place at h) (v.place at j) in (u.store ∙ d.0, v.store ∙ d.1);
      }

  free_of_all : (a : Access K) (ys : List (Access K)) (x y : Event K) → PassesAll R a ys → Makes R a x → OneMakes R ys y → Free x.action y.action
  free_of_all a [] x y p m n = absurd n
  free_of_all a (b ∷ ys) x y p m n = ⊎_elim (λ i. one_free a b x y p.0 m i) (λ i. free_of_all a ys x y p.1 m i) n

  free : (xs ys : List (Access K)) (x y : Event K) → AllMayPass R xs ys → OneMakes R xs x → OneMakes R ys y → Free x.action y.action
  free [] ys x y p m n = absurd m
  free (a ∷ xs) ys x y p m n = ⊎_elim (λ i. free_of_all a ys x y p.0 i n) (λ i. free xs ys x y p.1 i n) m

  -- an action made by one of these, its keys as they are
  abbrev MadeBy : List (Access K) → Action K → Type 0
  MadeBy xs a = (x : Event K) × OneMakes R xs x × (action_image same_keys x.action ≡ a)

  each_made : (xs : List (Access K)) (u : List (Event K)) → Each (OneMakes R xs) u → Each (MadeBy xs) (trace_image same_keys (actions_of u))
  each_made xs [] h = tt
  each_made xs (x ∷ u) h = ((x, h.0, refl), each_made xs u h.1)

  made_free : (xs ys : List (Access K)) → AllMayPass R xs ys → (a b : Action K) → MadeBy xs a → MadeBy ys b → Free a b
  made_free xs ys p a b m n =
      subst (λ c. Free c b) (sym (same_action m.0.action) ∙ m.2) (subst (λ c. Free m.0.action c) (sym (same_action n.0.action) ∙ n.2) (free xs ys m.0 n.0 p m.1 n.1))

  -- the first piece and then the second, and the second and then the first
  pub pieces_reordered : (xs ys : List (Access K)) → AllMayPass R xs ys → (u v : List (Event K)) → Each (OneMakes R xs) u → Each (OneMakes R ys) v
      → Reordered (trace_image same_keys (actions_of u) ++ trace_image same_keys (actions_of v)) (trace_image same_keys (actions_of v) ++ trace_image same_keys (actions_of u))
  pieces_reordered xs ys p u v h g = two_pieces Free (MadeBy xs) (MadeBy ys) (made_free xs ys p) (trace_image same_keys (actions_of u)) (trace_image same_keys (actions_of v)) (each_made xs u h) (each_made ys v g)

-- ---- relations of traces of the program without the local and the one with it

module _ {K : Keys} where
  abbrev pub image : List (Event K) → Trace K
  image t = trace_image same_keys (actions_of t)

  image_both : (t u : List (Event K)) → image (t ++ u) ≡ image t ++ image u
  image_both t u = ap (trace_image same_keys) (actions_append t u) ∙ image_append same_keys (actions_of t) (actions_of u)

  -- The local comes: from the program without it.
  abbrev pub Comes : List (Event K) → List (Event K) → Type 0
  Comes t u = Reordered (image t) (actions_of u)

  -- The local goes: from the program with it.
  abbrev pub Goes : List (Event K) → List (Event K) → Type 0
  Goes t u = Reordered (actions_of u) (image t)

  pub comes_joins : Joins Comes
  comes_joins = record {
    none = same [];
    both = λ t u t' u' h g. subst (λ w. Reordered (image (t ++ t')) w) (sym (actions_append u u')) (subst (λ w. Reordered w (actions_of u ++ actions_of u')) (sym (image_both t t')) (swaps_both Free (image t) (actions_of u) (image t') (actions_of u') h g));
  }

  pub goes_joins : Joins Goes
  goes_joins = record {
    none = same [];
    both = λ t u t' u' h g. subst (λ w. Reordered w (image (t ++ t'))) (sym (actions_append u u')) (subst (λ w. Reordered (actions_of u ++ actions_of u') w) (sym (image_both t t')) (swaps_both Free (actions_of u) (image t) (actions_of u') (image t') h g));
  }

  pub comes_images : (x y : Event K) → y.action ≡ action_image same_keys x.action → Comes (x ∷ []) (y ∷ [])
  comes_images x y e = subst (λ a. Reordered (action_image same_keys x.action ∷ []) (a ∷ [])) (sym e) (same (action_image same_keys x.action ∷ []))

  pub goes_images : (x y : Event K) → y.action ≡ action_image same_keys x.action → Goes (x ∷ []) (y ∷ [])
  goes_images x y e = subst (λ a. Reordered (a ∷ []) (action_image same_keys x.action ∷ [])) (sym e) (same (action_image same_keys x.action ∷ []))

  module _ (R : Rows K) (xs ys : List (Access K)) (u u' v v' : List (Event K)) (h : Each (OneMakes R xs) u) (g : Each (OneMakes R ys) v) (i : Mapped same_keys u u') (j : Mapped same_keys v v') where
    -- both orders of the images
    first_is : image u ++ image v ≡ image (u ++ v)
    first_is = sym (image_both u v)

    second_is : image v ++ image u ≡ actions_of (v' ++ u')
    second_is = (λ k. j k ++ i k) ∙ sym (actions_append v' u')

    pub comes_crossed : AllMayPass R xs ys → Comes (u ++ v) (v' ++ u')
    comes_crossed p = subst (Reordered (image (u ++ v))) second_is (subst (λ w. Reordered w (image v ++ image u)) first_is (pieces_reordered R xs ys p u v h g))

    pub goes_crossed : AllMayPass R ys xs → Goes (u ++ v) (v' ++ u')
    goes_crossed p = subst (Reordered (actions_of (v' ++ u'))) first_is (subst (λ w. Reordered w (image u ++ image v)) second_is (pieces_reordered R ys xs p v u g h))
