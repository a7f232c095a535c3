-- What stands at a member, and which names an object has.
use Rattle.std.proofs.Common.{◌≡◌, ◌≢◌, ℕ, zero, suc, ◌≤◌, ◌⊎◌, inl, inr, List, [], ◌∷◌, ◌++◌, Bool, true, false, bytes_eq, true≢false, Option, Some, None, IsSome, option_and_then, codes, string_bytes, Contains, refl, sym, ap, ◌∙◌, subst, arith}
use Rattle.std.specs.List.{AllByRecursion}
use Rattle.std.specs.List.Sorted.{IsStrictlySortedBy}
use Rattle.std.specs.Map.{keys_of}
use Rattle.std.specs.Ordering.{nat_cmp, ordering_reverse}
use Rattle.std.specs.String.{string_cmp}
use Rattle.std.specs.Cmp.Lexicographic.{slice_cmp}
use Rattle.std.specs.declared.cmp.Ordering.TheVariants.{Less, Equal, Greater}
use Rattle.std.proofs.lemmas.Cmp.{nat_list_cmp_total, tied_itself}
use Rattle.std.proofs.lemmas.Slice.Eq.{bytes_eq-Decides}
use Rattle.serde_json.specs.Data.{unsigned, negative, float, Data, null, boolean, number, string, array, object, Items, Members}
use Rattle.serde_json.specs.Find.{get, get_member, as_number, as_str, as_u64, as_array, as_object}
use Rattle.serde_json.specs.View.{members_view}
use Rattle.serde_json.proofs.Views.{Entry, member_here, member_later}
use Rattle.jr_script.specs.Rows.{text, offset, shown, column}
use Rattle.jr_script.specs.Steps.{HasOnly}
use Rattle.jr_script.specs.StepFaults.{HasColumn, IsFirstSurplus}

-- ---- values of each kind

pub string_from : (o : Option Data) (s : List ℕ) → option_and_then as_str o ≡ Some s → o ≡ Some (string s)
string_from None s e = absurd (cc)
string_from (Some null) s e = absurd (cc)
string_from (Some (boolean b)) s e = absurd (cc)
string_from (Some (number n)) s e = absurd (cc)
string_from (Some (string t)) s e = cc
string_from (Some (array ds)) s e = absurd (cc)
string_from (Some (object ms)) s e = absurd (cc)

pub number_from : (o : Option Data) (n : ℕ) → option_and_then as_u64 (option_and_then as_number o) ≡ Some n → o ≡ Some (number (unsigned n))
number_from None n e = absurd (cc)
number_from (Some null) n e = absurd (cc)
number_from (Some (boolean b)) n e = absurd (cc)
number_from (Some (number (unsigned m))) n e = cc
number_from (Some (number (negative z))) n e = absurd (cc)
number_from (Some (number (float x))) n e = absurd (cc)
number_from (Some (string t)) n e = absurd (cc)
number_from (Some (array ds)) n e = absurd (cc)
number_from (Some (object ms)) n e = absurd (cc)

pub no_text : (d : Data) (name : List ℕ) → option_and_then as_str (get name d) ≡ None → ¬ HasColumn d (column name text)
no_text d name e h =
    let found : option_and_then as_str (get name d) ≡ Some h.2.0 = ap (option_and_then as_str) (h.1 ∙ ap Some h.2.1) in
    absurd (cc)

-- what is read as a number is none, or is above the greatest offset
pub no_offset : (d : Data) (name : List ℕ) → ((n : ℕ) → n ≤ 4294967295 → option_and_then as_u64 (option_and_then as_number (get name d)) ≢ Some n) → ¬ HasColumn d (column name offset)
no_offset d name none h = none h.2.0 h.2.1 (ap (λ o. option_and_then as_u64 (option_and_then as_number o)) (h.1 ∙ ap Some h.2.2))

none : (s : List ℕ) → Some s ≡ None → ⊥
none s e = cc

pub no_shown : (d : Data) (name : List ℕ) → option_and_then as_str (get name d) ≡ None → ¬ HasColumn d (column name shown)
no_shown d name e h = by h.2
  where
    by : ((h.0 ≡ string (codes "bindings")) ⊎ (h.0 ≡ string (codes "dependences"))) → ⊥
    by (inl is) = none (codes "bindings") (sym (ap (option_and_then as_str) (h.1 ∙ ap Some is)) ∙ e)
    by (inr is) = none (codes "dependences") (sym (ap (option_and_then as_str) (h.1 ∙ ap Some is)) ∙ e)

-- a word that is neither
pub not_shown : (d : Data) (name word : List ℕ) → get name d ≡ Some (string word) → word ≢ codes "bindings" → word ≢ codes "dependences" → ¬ HasColumn d (column name shown)
not_shown d name word there no_bindings no_dependences h = by h.2
  where
    word_of : (s : List ℕ) → h.0 ≡ string s → word ≡ s
    word_of s is = let both : Some (string word) ≡ Some (string s) = sym there ∙ h.1 ∙ ap Some is in cc

    by : ((h.0 ≡ string (codes "bindings")) ⊎ (h.0 ≡ string (codes "dependences"))) → ⊥
    by (inl is) = no_bindings (word_of (codes "bindings") is)
    by (inr is) = no_dependences (word_of (codes "dependences") is)

-- ---- the names of an object

abbrev pub names_in : List Entry → List (List ℕ)
names_in [] = []
names_in (e ∷ es) = string_bytes e.0 ∷ names_in es

Contains-first : {X : Type 0} (x : X) (xs : List X) → Contains (x ∷ xs) x
Contains-first x xs = (0, omega arith, refl)

Contains-later : {X : Type 0} (x y : X) (xs : List X) → Contains xs x → Contains (y ∷ xs) x
Contains-later x y xs h = (suc h.0, omega (arith, h.1), h.2)

Contains-split : {X : Type 0} (x y : X) (xs : List X) → Contains (y ∷ xs) x → (y ≡ x) ⊎ Contains xs x
Contains-split x y xs (zero, l, e) = inl e
Contains-split x y xs (suc k, l, e) = inr (k, omega arith, e)

-- a name that an object has is that of some entry
pub name_from_get : (name : List ℕ) (es : List Entry) → IsSome (get_member name (members_view es)) → Contains (names_in es) name
name_from_get name [] some = absurd (cc)
name_from_get name (e ∷ es) some = by (bytes_eq name (string_bytes e.0)) refl (name_from_get name es)
  where
    by : (b : Bool) → bytes_eq name (string_bytes e.0) ≡ b → (IsSome (get_member name (members_view es)) → Contains (names_in es) name) → Contains (string_bytes e.0 ∷ names_in es) name
    by true is later =
        let same : name ≡ string_bytes e.0 = (bytes_eq-Decides name (string_bytes e.0)).0 is in
        subst (Contains (string_bytes e.0 ∷ names_in es)) (sym same) (Contains-first (string_bytes e.0) (names_in es))
    by false is later =
        let other = λ (h : name ≡ string_bytes e.0). true≢false (sym ((bytes_eq-Decides name (string_bytes e.0)).1 h) ∙ is) in
        let rest : IsSome (get_member name (members_view es)) = subst IsSome (member_later name e es other) some in
        Contains-later name (string_bytes e.0) (names_in es) (later rest)

-- and each entry's name is one of the object's
pub get_from_name : (done : List Entry) (e : Entry) (left : List Entry) → IsSome (get_member (string_bytes e.0) (members_view (done ++ e ∷ left)))
get_from_name [] e left = subst IsSome (sym (member_here (string_bytes e.0) e left refl)) refl
get_from_name (x ∷ done) e left = by (bytes_eq (string_bytes e.0) (string_bytes x.0)) refl (get_from_name done e left)
  where
    by : (b : Bool) → bytes_eq (string_bytes e.0) (string_bytes x.0) ≡ b → IsSome (get_member (string_bytes e.0) (members_view (done ++ e ∷ left))) → IsSome (get_member (string_bytes e.0) (members_view (x ∷ (done ++ e ∷ left))))
    by true is later = subst IsSome (sym (member_here (string_bytes e.0) x (done ++ e ∷ left) ((bytes_eq-Decides (string_bytes e.0) (string_bytes x.0)).0 is))) refl
    by false is later =
        let other = λ (h : string_bytes e.0 ≡ string_bytes x.0). true≢false (sym ((bytes_eq-Decides (string_bytes e.0) (string_bytes x.0)).1 h) ∙ is) in
        subst IsSome (sym (member_later (string_bytes e.0) x (done ++ e ∷ left) other)) later

-- the names of entries that are all among some names
abbrev pub AllAmong : List (List ℕ) → List Entry → Type 0
AllAmong names [] = Unit {0}
AllAmong names (e ∷ es) = Contains names (string_bytes e.0) × AllAmong names es

pub AllAmong-push : (names : List (List ℕ)) (es : List Entry) (e : Entry) → AllAmong names es → Contains names (string_bytes e.0) → AllAmong names (es ++ e ∷ [])
AllAmong-push names [] e h c = (c, tt)
AllAmong-push names (x ∷ es) e h c = (h.0, AllAmong-push names es e h.1 c)

AllAmong-contains : (names : List (List ℕ)) (es : List Entry) (name : List ℕ) → AllAmong names es → Contains (names_in es) name → Contains names name
AllAmong-contains names [] name h c = absurd (omega (arith, c.1))
AllAmong-contains names (e ∷ es) name h c =
    elim (Contains-split name (string_bytes e.0) (names_in es) c) [
      | inl is ↦ subst (Contains names) is h.0
      | inr rest ↦ AllAmong-contains names es name h.1 rest
    ]

pub HasOnly-all : (names : List (List ℕ)) (es : List Entry) → AllAmong names es → (name : List ℕ) → IsSome (get_member name (members_view es)) → Contains names name
HasOnly-all names es h name some = AllAmong-contains names es name h (name_from_get name es some)

-- in order, the first that isn't among the names is the least
never_less : (x y : List ℕ) → slice_cmp nat_cmp x y ≡ Less → slice_cmp nat_cmp y x ≢ Less
never_less x y e h =
    let other : slice_cmp nat_cmp y x ≡ Greater = nat_list_cmp_total.antisymm y x ∙ ap ordering_reverse e in
    absurd (cc)

not_less_itself : (x : List ℕ) → slice_cmp nat_cmp x x ≢ Less
not_less_itself x less = let same : slice_cmp nat_cmp x x ≡ Equal = tied_itself nat_list_cmp_total x in absurd (cc)

above_first : (e : Entry) (es : List Entry) → AllByRecursion (λ y. string_cmp e.0 y ≡ Less) (keys_of es) → (name : List ℕ) → Contains (names_in es) name → slice_cmp nat_cmp name (string_bytes e.0) ≢ Less
above_first e [] h name c = absurd (omega (arith, c.1))
above_first e (x ∷ es) h name c =
    elim (Contains-split name (string_bytes x.0) (names_in es) c) [
      | inl is ↦ subst (λ n. slice_cmp nat_cmp n (string_bytes e.0) ≢ Less) is (never_less (string_bytes e.0) (string_bytes x.0) h.0)
      | inr rest ↦ above_first e es h.1 name rest
    ]

least_left : (names : List (List ℕ)) (done : List Entry) (e : Entry) (left : List Entry) → IsStrictlySortedBy string_cmp (keys_of (done ++ e ∷ left)) → AllAmong names done → (name : List ℕ) → Contains (names_in (done ++ e ∷ left)) name → ¬ Contains names name
    → slice_cmp nat_cmp name (string_bytes e.0) ≢ Less
unfolding IsStrictlySortedBy
least_left names [] e left sorted h name c other =
    elim (Contains-split name (string_bytes e.0) (names_in left) c) [
      | inl is ↦ subst (λ n. slice_cmp nat_cmp n (string_bytes e.0) ≢ Less) is (not_less_itself (string_bytes e.0))
      | inr rest ↦ above_first e left sorted.0 name rest
    ]
least_left names (x ∷ done) e left sorted h name c other =
    elim (Contains-split name (string_bytes x.0) (names_in (done ++ e ∷ left)) c) [
      | inl is ↦ absurd (other (subst (Contains names) is h.0))
      | inr rest ↦ least_left names done e left sorted.1 h.1 name rest other
    ]

pub IsFirstSurplus-at : (d : Data) (names : List (List ℕ)) (done : List Entry) (e : Entry) (left : List Entry) → d ≡ object (members_view (done ++ e ∷ left)) → IsStrictlySortedBy string_cmp (keys_of (done ++ e ∷ left)) → AllAmong names done → ¬ Contains names (string_bytes e.0)
    → IsFirstSurplus d names (string_bytes e.0)
IsFirstSurplus-at d names done e left is sorted h other =
    subst (λ x. IsFirstSurplus x names (string_bytes e.0)) (sym is)
    (record {
      there = get_from_name done e left;
      surplus = other;
      least = λ name some not. least_left names done e left sorted h name (name_from_get name (done ++ e ∷ left) some) not;
    })

pub HasOnly-members : (d : Data) (names : List (List ℕ)) (es : List Entry) → d ≡ object (members_view es) → AllAmong names es → HasOnly d names
HasOnly-members d names es is h = subst (λ x. HasOnly x names) (sym is) (HasOnly-all names es h)

pub object_from : (d : Data) (ms : Members) → Some ms ≡ as_object d → object ms ≡ d
object_from null ms e = absurd (cc)
object_from (boolean b) ms e = absurd (cc)
object_from (number n) ms e = absurd (cc)
object_from (string s) ms e = absurd (cc)
object_from (array ds) ms e = absurd (cc)
object_from (object ns) ms e = cc

pub array_from : (d : Data) (ds : Items) → Some ds ≡ as_array d → array ds ≡ d
array_from null ds e = absurd (cc)
array_from (boolean b) ds e = absurd (cc)
array_from (number n) ds e = absurd (cc)
array_from (string s) ds e = absurd (cc)
array_from (array es) ds e = cc
array_from (object ms) ds e = absurd (cc)
