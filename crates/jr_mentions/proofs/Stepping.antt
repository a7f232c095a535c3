-- Steps of a walk over two tables side by side.
use Rattle.std.proofs.Common.{◌≡◌, ℕ, zero, suc, ◌+◌, ◌≤◌, List, [], ◌∷◌, Some, true, false, map, take, length, refl, ap, sym, subst, ◌∙◌, add-one, arith, inl, inr, ◌⊎◌}
use Rattle.std.specs.Prelude.{slice_get, option_map}
use Rattle.std.specs.List.{AllZip}
use Rattle.jr_table.specs.Decls.{Decl, field_decl, method_decl}
use Rattle.jr_table.specs.Rows.{Row}
use Rattle.jr_mentions.specs.Apart.{is_among, DeclsApart, RowApart, AreApart}
use Rattle.jr_mentions.specs.ApartView.{AreWithin}
use Rattle.jr_mentions.specs.RowSteps.{IsSameRest, DeclStep, RowStep}

pub itself : (names : List (List ℕ)) → AreWithin names names
itself names = λ name h. h

pub nothing_within : (names others : List (List ℕ)) → names ≡ [] → AreWithin names others
nothing_within names others e = λ name h. let no : false ≡ true = subst (λ ns. is_among ns name ≡ true) e h in absurd cc

module _ (names others : List (List ℕ)) (within : AreWithin names others) where
  decls_within : (d e : Decl) → DeclsApart names d e → DeclsApart others d e
  decls_within (field_decl j) (field_decl k) h = record { class = h.class; named = (within j.name h.named.0, within k.name h.named.1) }
  decls_within (method_decl j) (method_decl k) h = record { class = h.class; params = h.params; named = (within j.name h.named.0, within k.name h.named.1) }
  decls_within _ _ h = absurd h

  either_within : (d e : Decl) → (d ≡ e) ⊎ DeclsApart names d e → (d ≡ e) ⊎ DeclsApart others d e
  either_within d e (inl is) = inl is
  either_within d e (inr h) = inr (decls_within d e h)

  row_within : (r s : Row) → RowApart names r s → RowApart others r s
  row_within r s h = record {
    decl = either_within r.decl s.decl h.decl;
    modifiers = h.modifiers;
    type = h.type;
    parent = h.parent;
    has_init = h.has_init;
  }

pub same_row_apart : (names : List (List ℕ)) (r s : Row) → r ≡ s → RowApart names r s
same_row_apart names r s e = record {
  decl = inl (ap (λ (x : Row). x.decl) e);
  modifiers = ap (λ (x : Row). x.modifiers) e;
  type = ap (λ (x : Row). x.type) e;
  parent = ap (λ (x : Row). x.parent) e;
  has_init = ap (λ (x : Row). x.has_init) e;
}

pub other_row_apart : (names others : List (List ℕ)) (r s : Row) → IsSameRest r s → DeclStep names others r.decl s.decl → RowStep names others r s
other_row_apart names others r s rest step = (
  step.0,
  record { decl = inr step.1; modifiers = rest.modifiers; type = rest.type; parent = rest.parent; has_init = rest.has_init },
)

zip_more : {X : Type 0} (R S : X → X → Type 0) → ((x y : X) → R x y → S x y) → (xs ys : List X) (i : ℕ) (x y : X) → slice_get xs i ≡ Some x → slice_get ys i ≡ Some y
    → AllZip R (take i xs) (take i ys) → S x y → AllZip S (take (suc i) xs) (take (suc i) ys)
zip_more R S f [] ys i x y a b h s = absurd cc
zip_more R S f (x' ∷ xs) [] i x y a b h s = absurd cc
zip_more R S f (x' ∷ xs) (y' ∷ ys) zero x y a b h s =
    let e : x ≡ x' = cc in
    let d : y ≡ y' = cc in
    (subst (λ z. S x' z) d (subst (λ z. S z y) e s), tt)
zip_more R S f (x' ∷ xs) (y' ∷ ys) (suc i) x y a b h s = (f x' y' h.0, zip_more R S f xs ys i x y a b h.1 s)

pub get_map : {X Y : Type 0} (f : X → Y) (xs : List X) (n : ℕ) → slice_get (map f xs) n ≡ option_map f (slice_get xs n)
get_map f [] n = refl
get_map f (x ∷ xs) zero = refl
get_map f (x ∷ xs) (suc n) = get_map f xs n

pub length_map : {X Y : Type 0} (f : X → Y) (xs : List X) → length (map f xs) ≡ length xs
length_map f [] = refl
length_map f (x ∷ xs) = ap suc (length_map f xs)

take_all : {X : Type 0} (xs : List X) (i : ℕ) → length xs ≤ i → take i xs ≡ xs
take_all [] zero le = refl
take_all [] (suc i) le = refl
take_all (x ∷ xs) zero le = absurd (omega (arith, le))
take_all (x ∷ xs) (suc i) le = ap (λ ys. x ∷ ys) (take_all xs i (omega (arith, le)))

pub rows_start : {X : Type 0} (f : X → Row) (names : List (List ℕ)) (xs ys : List X) → AreApart names (take 0 (map f xs)) (take 0 (map f ys))
rows_start f names xs ys = tt

module _ {X : Type 0} (f : X → Row) (names : List (List ℕ)) (xs ys : List X) (i : ℕ) where
  abbrev pub FirstApart : Type 0
  FirstApart = AreApart names (take i (map f xs)) (take i (map f ys))

  pub rows_go : (others : List (List ℕ)) (x y : X) → slice_get xs i ≡ Some x → slice_get ys i ≡ Some y → FirstApart → RowStep names others (f x) (f y)
      → AreApart others (take (i + 1) (map f xs)) (take (i + 1) (map f ys))
  rows_go others x y a b h step =
      subst (λ (n : ℕ). AreApart others (take n (map f xs)) (take n (map f ys))) (sym (add-one i))
      (zip_more (RowApart names) (RowApart others) (row_within names others step.0) (map f xs) (map f ys) i (f x) (f y)
      (get_map f xs i ∙ ap (option_map f) a) (get_map f ys i ∙ ap (option_map f) b) h step.1)

  pub rows_end : length xs ≤ i → length xs ≡ length ys → FirstApart → AreApart names (map f xs) (map f ys)
  rows_end past same h =
      let left : take i (map f xs) ≡ map f xs = take_all (map f xs) i (let e = length_map f xs in omega (arith, past, e)) in
      let right : take i (map f ys) ≡ map f ys = take_all (map f ys) i (let e = length_map f ys in omega (arith, past, same, e)) in
      subst (λ zs. AreApart names (map f xs) zs) right (subst (λ zs. AreApart names zs (take i (map f ys))) left h)
