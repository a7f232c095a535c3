-- Names that are set leave no two others.
use Rattle.std.proofs.Common.{◌≡◌, ℕ, zero, suc, ◌<◌, List, [], ◌∷◌, Option, Some, None, Bool, true, false, map, length, refl, ap, sym, subst, ◌∙◌, arith, inl, inr, ◌⊎◌}
use Rattle.std.specs.Prelude.{◌&&◌, ◌||◌, IfNone, slice_get, option_map}
use Rattle.std.specs.List.{AllZip}
use Rattle.std.specs.Str.{bytes_eq}
use Rattle.std.specs.Cmp.Lexicographic.{bytes_decides}
use Rattle.jr_table.specs.Keys.{FieldKey, MethodKey}
use Rattle.jr_table.specs.Rows.{Row}
use Rattle.jr_mentions.specs.Apart.{is_among, AreAmong, DeclsApart, RowApart, AreApart}
use Rattle.jr_mentions.specs.Settling.{Allows, Settles, RulesOut}
use Rattle.jr_mentions.specs.RowSteps.{IsSameRest}
use Rattle.jr_mentions.proofs.NamePairs.{are_among}
use Rattle.jr_mentions.proofs.Stepping.{get_map, length_map}

pub none_to : {X : Type 0} (P Q : Type 0) (o : Option X) → (P → Q) → IfNone o P → IfNone o Q
none_to P Q None f h = f h
none_to P Q (Some x) f h = h

or_either : (a b : Bool) → a || (b || false) ≡ true → (a ≡ true) ⊎ (b ≡ true)
or_either true b h = inl refl
or_either false true h = inr refl
or_either false false h = absurd cc

named_from : (x y n : List ℕ) → (bytes_eq x n ≡ true) ⊎ (bytes_eq y n ≡ true) → (x ≡ n) ⊎ (y ≡ n)
named_from x y n (inl e) = inl ((bytes_decides x n).0 e)
named_from x y n (inr e) = inr ((bytes_decides y n).0 e)

one_of : (x y n : List ℕ) → is_among (x ∷ y ∷ []) n ≡ true → (x ≡ n) ⊎ (y ≡ n)
one_of x y n h = named_from x y n (or_either (bytes_eq x n) (bytes_eq y n) h)

among_by : (names : List (List ℕ)) (x y n : List ℕ) → AreAmong names x y → (x ≡ n) ⊎ (y ≡ n) → is_among names n ≡ true
among_by names x y n h (inl e) = subst (λ m. is_among names m ≡ true) e h.0
among_by names x y n h (inr e) = subst (λ m. is_among names m ≡ true) e h.1

both_by : (names : List (List ℕ)) (x y old new : List ℕ) → AreAmong names x y → AreAmong (x ∷ y ∷ []) old new → AreAmong names old new
both_by names x y old new h p = (among_by names x y old h (one_of x y old p.0), among_by names x y new h (one_of x y new p.1))

same_two : (old new x y : List ℕ) → (old ≡ new → ⊥) → (x ≡ old) ⊎ (y ≡ old) → (x ≡ new) ⊎ (y ≡ new) → AreAmong (old ∷ new ∷ []) x y
same_two old new x y differ (inl e) (inl d) = absurd (differ (sym e ∙ d))
same_two old new x y differ (inl e) (inr d) = (
  subst (λ n. is_among (old ∷ new ∷ []) n ≡ true) (sym e) (are_among old new).0,
  subst (λ n. is_among (old ∷ new ∷ []) n ≡ true) (sym d) (are_among old new).1,
)
same_two old new x y differ (inr e) (inl d) = (
  subst (λ n. is_among (old ∷ new ∷ []) n ≡ true) (sym d) (are_among old new).1,
  subst (λ n. is_among (old ∷ new ∷ []) n ≡ true) (sym e) (are_among old new).0,
)
same_two old new x y differ (inr e) (inr d) = absurd (differ (sym e ∙ d))

pub first_settles : (names others : List (List ℕ)) (old new : List ℕ) → others ≡ old ∷ new ∷ [] → (old ≡ new → ⊥) → Settles names others (λ ns. AreAmong ns old new)
first_settles names others old new two differ x y a p =
    inr (subst (λ ns. AreAmong ns x y) (sym two) (same_two old new x y differ (one_of x y old p.0) (one_of x y new p.1)))

both_are : (a b : Bool) → a ≡ true → b ≡ true → a && b ≡ true
both_are a b e d = ap (λ c. c && b) e ∙ d

none_of : (names : List (List ℕ)) (old new x y : List ℕ) (a b : Bool) → (names ≡ [] → ⊥) → a ≡ is_among names old → b ≡ is_among names new → a && b ≡ false
    → Allows names x y → AreAmong (x ∷ y ∷ []) old new → ⊥
none_of names old new x y a b some e d not_both (inl none) p = some none
none_of names old new x y a b some e d not_both (inr h) p =
    let both = both_by names x y old new h p in
    let all : a && b ≡ true = both_are a b (e ∙ both.0) (d ∙ both.1) in
    let no : false ≡ true = sym not_both ∙ all in
    absurd cc

pub others_ruled_out : (names : List (List ℕ)) (old new : List ℕ) (a b : Bool) → (names ≡ [] → ⊥) → a ≡ is_among names old → b ≡ is_among names new → a && b ≡ false
    → RulesOut names (λ ns. AreAmong ns old new)
others_ruled_out names old new a b some e d not_both x y h p = none_of names old new x y a b some e d not_both h p

pub field_differs : (j k : FieldKey) → (j ≡ k → ⊥) → j.class ≡ k.class → j.name ≡ k.name → ⊥
field_differs j k differ e d = differ (λ i. record { class = e i; name = d i })

pub method_differs : (j k : MethodKey) → (j ≡ k → ⊥) → j.class ≡ k.class → j.params ≡ k.params → j.name ≡ k.name → ⊥
method_differs j k differ e f d = differ (λ i. record { class = e i; name = d i; params = f i })

pub row_rest : (names : List (List ℕ)) (r s : Row) → RowApart names r s → IsSameRest r s
row_rest names r s h = record { modifiers = h.modifiers; type = h.type; parent = h.parent; has_init = h.has_init }

pub decl_differs : (r s : Row) → (r ≡ s → ⊥) → IsSameRest r s → r.decl ≡ s.decl → ⊥
decl_differs r s differ rest e = differ (λ i. record { decl = e i; modifiers = rest.modifiers i; type = rest.type i; parent = rest.parent i; has_init = rest.has_init i })

second : {P Q : Type 0} → (P → ⊥) → P ⊎ Q → Q
second f (inl p) = absurd (f p)
second f (inr q) = q

-- rows that differ declare what differs
pub decls_of : (names : List (List ℕ)) (r s : Row) → (r ≡ s → ⊥) → RowApart names r s → DeclsApart names r.decl s.decl
decls_of names r s differ h = second (decl_differs r s differ (row_rest names r s h)) h.decl

zip_at : {X : Type 0} (R : X → X → Type 0) (xs ys : List X) (i : ℕ) (x y : X) → slice_get xs i ≡ Some x → slice_get ys i ≡ Some y → AllZip R xs ys → R x y
zip_at R [] ys i x y a b h = absurd cc
zip_at R (x' ∷ xs) [] i x y a b h = absurd cc
zip_at R (x' ∷ xs) (y' ∷ ys) zero x y a b h =
    let e : x' ≡ x = cc in
    let d : y' ≡ y = cc in
    subst (λ z. R x z) d (subst (λ z. R z y') e h.0)
zip_at R (x' ∷ xs) (y' ∷ ys) (suc i) x y a b h = zip_at R xs ys i x y a b h.1

zip_length : {X : Type 0} (R : X → X → Type 0) (xs ys : List X) → AllZip R xs ys → length xs ≡ length ys
zip_length R [] [] h = refl
zip_length R [] (y ∷ ys) h = absurd h
zip_length R (x ∷ xs) [] h = absurd h
zip_length R (x ∷ xs) (y ∷ ys) h = ap suc (zip_length R xs ys h.1)

pub none_past : {X : Type 0} (xs : List X) (i : ℕ) → slice_get xs i ≡ None → i < length xs → ⊥
none_past [] i e lt = omega (arith, lt)
none_past (x ∷ xs) zero e lt = absurd cc
none_past (x ∷ xs) (suc i) e lt = none_past xs i e (omega (arith, lt))

module _ {X : Type 0} (f : X → Row) (names : List (List ℕ)) (xs ys : List X) where
  pub apart_length : AreApart names (map f xs) (map f ys) → length xs ≡ length ys
  apart_length h = sym (length_map f xs) ∙ zip_length (RowApart names) (map f xs) (map f ys) h ∙ length_map f ys

  pub apart_at : (i : ℕ) (x y : X) → slice_get xs i ≡ Some x → slice_get ys i ≡ Some y → AreApart names (map f xs) (map f ys) → RowApart names (f x) (f y)
  apart_at i x y a b h = zip_at (RowApart names) (map f xs) (map f ys) i (f x) (f y) (get_map f xs i ∙ ap (option_map f) a) (get_map f ys i ∙ ap (option_map f) b) h

-- two names by which all rows are apart are allowed
abbrev pub AllowsAll : {X : Type 0} (f : X → Row) (names : List (List ℕ)) (xs ys : List X) → Type 0
AllowsAll f names xs ys = (old new : List ℕ) → AreApart (old ∷ new ∷ []) (map f xs) (map f ys) → Allows names old new
