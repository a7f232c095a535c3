-- A map that is one to one on some keys becomes one with an inverse, key by key: behind the map so far the image that the
-- next key has is exchanged with that which it shall have.
use Rattle.std.proofs.Common.{◌≡◌, ◌⊎◌, List, [], ◌∷◌, map, refl, sym, ap, ◌∙◌, subst, inl, inr, ⊎_elim}
use Rattle.jr_runs.specs.Keys.{Keys}
use Rattle.jr_runs.specs.Values.{Value, int, truth, null, text, class_object, object}
use Rattle.jr_runs.specs.Actions.{Location, part, shared, Action, load, store, enter, exit, create, start, Trace}
use Rattle.jr_runs.specs.KeyMaps.{KeyMap, value_image, location_image, action_image, trace_image}
use Rattle.jr_runs.specs.Images.{Among}
use Rattle.jr_runs.specs.OldKeys.{AreTold, OneToOneOn, Extends, ValueWithin, LocationWithin, ActionWithin, TraceWithin, AgreesOn}

module _ {X : Type 0} where
  abbrev chosen : (a b x : X) → (x ≡ a) ⊎ (x ≡ a → ⊥) → (x ≡ b) ⊎ (x ≡ b → ⊥) → X
  chosen a b x (inl e) d = b
  chosen a b x (inr g) (inl e) = a
  chosen a b x (inr g) (inr h) = x

  chosen_first : (a b : X) (d : (a ≡ a) ⊎ (a ≡ a → ⊥)) (e : (a ≡ b) ⊎ (a ≡ b → ⊥)) → chosen a b a d e ≡ b
  chosen_first a b (inl p) e = refl
  chosen_first a b (inr g) e = absurd (g refl)

  chosen_second : (a b : X) (d : (b ≡ a) ⊎ (b ≡ a → ⊥)) (e : (b ≡ b) ⊎ (b ≡ b → ⊥)) → chosen a b b d e ≡ a
  chosen_second a b (inl p) e = p
  chosen_second a b (inr g) (inl p) = refl
  chosen_second a b (inr g) (inr h) = absurd (h refl)

  chosen_itself : (a b x : X) (d : (x ≡ a) ⊎ (x ≡ a → ⊥)) (e : (x ≡ b) ⊎ (x ≡ b → ⊥)) → (x ≡ a → ⊥) → (x ≡ b → ⊥) → chosen a b x d e ≡ x
  chosen_itself a b x (inl p) e i j = absurd (i p)
  chosen_itself a b x (inr g) (inl p) i j = absurd (j p)
  chosen_itself a b x (inr g) (inr h) i j = refl

  module _ (told : AreTold X) where
    -- a and b change places
    abbrev exchange : X → X → X → X
    exchange a b x = chosen a b x (told x a) (told x b)

    at_first : (a b : X) → exchange a b a ≡ b
    at_first a b = chosen_first a b (told a a) (told a b)

    at_second : (a b : X) → exchange a b b ≡ a
    at_second a b = chosen_second a b (told b a) (told b b)

    elsewhere : (a b x : X) → (x ≡ a → ⊥) → (x ≡ b → ⊥) → exchange a b x ≡ x
    elsewhere a b x i j = chosen_itself a b x (told x a) (told x b) i j

    twice : (a b x : X) → exchange a b (exchange a b x) ≡ x
    twice a b x = ⊎_elim
        (λ (p : x ≡ a). subst (λ y. exchange a b (exchange a b y) ≡ y) (sym p) (ap (exchange a b) (at_first a b) ∙ at_second a b))
        (λ (i : x ≡ a → ⊥). ⊎_elim
        (λ (p : x ≡ b). subst (λ y. exchange a b (exchange a b y) ≡ y) (sym p) (ap (exchange a b) (at_second a b) ∙ at_first a b))
        (λ (j : x ≡ b → ⊥). ap (exchange a b) (elsewhere a b x i j) ∙ elsewhere a b x i j) (told x b)) (told x a)

    pub maps_extend : (xs : List X) (f : X → X) → OneToOneOn xs f → Extends xs f
    maps_extend [] f one = record { to = λ x. x; from = λ x. x; back = λ x. refl; there = λ x. refl; agrees = λ x i. absurd i }
    maps_extend (x ∷ xs) f one =
        let e = maps_extend xs f (λ y z i j. one y z (inr i) (inr j)) in
        let same : (y : X) → y ≡ x → exchange (e.to x) (f x) (e.to y) ≡ f y = λ y p. subst (λ z. exchange (e.to x) (f x) (e.to z) ≡ f z) (sym p) (at_first (e.to x) (f x)) in
        record {
          to = λ y. exchange (e.to x) (f x) (e.to y);
          from = λ y. e.from (exchange (e.to x) (f x) y);
          back = λ y. ap e.from (twice (e.to x) (f x) (e.to y)) ∙ e.back y;
          there = λ y. ap (exchange (e.to x) (f x)) (e.there (exchange (e.to x) (f x) y)) ∙ twice (e.to x) (f x) y;
          agrees = λ y m. ⊎_elim (same y)
              (λ (i : Among y xs). ⊎_elim (same y)
              (λ (d : y ≡ x → ⊥). elsewhere (e.to x) (f x) (e.to y) (λ q. d (sym (e.back y) ∙ ap e.from q ∙ e.back x)) (λ q. d (one y x (inr i) (inl refl) (sym (e.agrees y i) ∙ q))) ∙ e.agrees y i)
              (told y x)) m;
        }

    is_among : (x : X) (xs : List X) → Among x xs ⊎ (Among x xs → ⊥)
    is_among x [] = inr (λ h. h)
    is_among x (y ∷ ys) = ⊎_elim (λ (p : x ≡ y). inl (inl p)) (λ (d : x ≡ y → ⊥). ⊎_elim (λ h. inl (inr h)) (λ g. inr (λ h. ⊎_elim d g h)) (is_among x ys)) (told x y)

    image_of : (f : X → X) (y : X) (xs : List X) → Among y (map f xs) → (x : X) × Among x xs × (y ≡ f x)
    image_of f y [] h = absurd h
    image_of f y (x ∷ xs) h = ⊎_elim (λ (p : y ≡ f x). (x, inl refl, p)) (λ i. let d = image_of f y xs i in (d.0, inr d.1, d.2)) h

    pub kinds_extend : {B : Type 0} (xs : List X) (f : X → X) (e : Extends xs f) (old new : X → B) (d : B) → ((x : X) → Among x xs → new (f x) ≡ old x) → ((x : X) → (Among x xs → ⊥) → old x ≡ d) → ((y : X) → (Among y (map f xs) → ⊥) → new y ≡ d)
        → (x : X) → new (e.to x) ≡ old x
    kinds_extend xs f e old new d kept none none' x = ⊎_elim
        (λ (i : Among x xs). ap new (e.agrees x i) ∙ kept x i)
        (λ (g : Among x xs → ⊥). none' (e.to x) (λ h.
        let o = image_of f (e.to x) xs h in
        let same : x ≡ o.0 = sym (e.back x) ∙ ap e.from (o.2 ∙ sym (e.agrees o.0 o.1)) ∙ e.back o.0 in
        g (subst (λ y. Among y xs) (sym same) o.1)) ∙ sym (none x g))
        (is_among x xs)

module _ {K : Keys} (cs : List K.class) (fs : List K.field) (r s : KeyMap K) (a : AgreesOn cs fs r s) where
  same_value : (v : Value K) → ValueWithin cs v → value_image r v ≡ value_image s v
  same_value (int z) h = refl
  same_value (truth b) h = refl
  same_value null h = refl
  same_value (text t) h = refl
  same_value (class_object c) h = ap class_object (a.class c h)
  same_value (object n c) h = ap (object n) (a.class c h)

  same_location : (x : Location K) → LocationWithin cs fs x → location_image r x ≡ location_image s x
  same_location (part o f) h = λ i. part (same_value o h.0 i) (a.field f h.1 i)
  same_location (shared f) h = ap shared (a.field f h)

  same_action : (x : Action K) → ActionWithin cs fs x → action_image r x ≡ action_image s x
  same_action (load kind at v) h = λ i. load kind (same_location at h.0 i) (same_value v h.1 i)
  same_action (store kind at v) h = λ i. store kind (same_location at h.0 i) (same_value v h.1 i)
  same_action (enter o) h = ap enter (same_value o h)
  same_action (exit o) h = ap exit (same_value o h)
  same_action (create o) h = ap create (same_value o h)
  same_action (start o v) h = λ i. start (same_value o h.0 i) (same_value v h.1 i)

  pub same_images : (t : Trace K) → TraceWithin cs fs t → trace_image r t ≡ trace_image s t
  same_images [] h = refl
  same_images (x ∷ t) h = λ i. same_action x h.0 i ∷ same_images t h.1 i
