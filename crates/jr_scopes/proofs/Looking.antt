-- What is found in the list of known locals is the last that has the name or the number.
use Rattle.std.proofs.Common.{◌≡◌, ℕ, List, [], ◌∷◌, map, Option, Some, None, refl, sym, ap, ◌∙◌}
use Rattle.std.proofs.lemmas.Option.{slice_get-map}
use Rattle.std.specs.Prelude.{slice_get, option_map, option_and_then, ◌==◌}
use Rattle.std.specs.Str.{bytes_eq}
use Rattle.jr_scopes.specs.declared.restoring.Known as raw
use Rattle.jr_scopes.specs.Helds.{Held, held_of, last_number, numbered}
use Rattle.jr_scopes.specs.Tracked.{last_place, held_in, name_in, number_in, same_number}
use Rattle.jr_scopes.proofs.LastPlaces.{last_map, last_of_is}

abbrev view : raw.Known → Held
view k = held_of (held_in k)

views : (ks : List raw.Known) → map held_of (map held_in ks) ≡ map view ks
views [] = refl
views (k ∷ ks) = ap (λ hs. view k ∷ hs) (views ks)

some_map : {X Y Z : Type 0} (f : X → Y) (g : Y → Z) (o : Option X) → option_map g (option_map f o) ≡ option_map (λ x. g (f x)) o
some_map f g None = refl
some_map f g (Some x) = refl

then_map : {Y : Type 0} (g : Held → Y) (ks : List raw.Known) (o : Option ℕ) → option_and_then (λ i. option_map g (slice_get (map view ks) i)) o ≡ option_and_then (λ i. option_map (λ k. g (view k)) (slice_get ks i)) o
then_map g ks None = refl
then_map g ks (Some i) = ap (option_map g) (slice_get-map view ks i) ∙ some_map view g (slice_get ks i)

-- the number of the last that has the name
pub number_is : (ks : List raw.Known) (q : List ℕ) (o : Option ℕ) → o ≡ last_place (λ k. bytes_eq (name_in k) q) ks
    → option_and_then (λ i. option_map number_in (slice_get ks i)) o ≡ last_number q (map held_of (map held_in ks))
number_is ks q o h =
    let t = λ (x : Held). bytes_eq x.name q in
    ap (option_and_then (λ i. option_map number_in (slice_get ks i))) (h ∙ sym (last_map view t ks))
    ∙ sym (then_map (λ (x : Held). x.number) ks (last_place t (map view ks)))
    ∙ sym (last_of_is t (λ (x : Held). x.number) (map view ks))
    ∙ ap (last_number q) (sym (views ks))

-- the last that has the number
pub held_is : (ks : List raw.Known) (n : ℕ) (o : Option ℕ) → o ≡ last_place (λ k. same_number (number_in k) n) ks
    → option_and_then (λ i. option_map view (slice_get ks i)) o ≡ numbered n (map held_of (map held_in ks))
held_is ks n o h =
    let t = λ (x : Held). x.number == n in
    ap (option_and_then (λ i. option_map view (slice_get ks i))) (h ∙ sym (last_map view t ks))
    ∙ sym (then_map (λ (x : Held). x) ks (last_place t (map view ks)))
    ∙ sym (last_of_is t (λ (x : Held). x) (map view ks))
    ∙ ap (numbered n) (sym (views ks))
