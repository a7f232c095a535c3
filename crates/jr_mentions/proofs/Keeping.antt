-- Whatever changes names alone changes no chain, no access, and no search for another name.
use Rattle.std.proofs.Common.{◌≡◌, ℕ, zero, suc, List, [], ◌∷◌, map, length, refl, ap, ◌∙◌, Option, Some, None, Bool}
use Rattle.std.specs.Prelude.{option_map, option_and_then, slice_get, if◌then◌else◌}
use Rattle.std.specs.Str.{bytes_eq}
use Rattle.jr_table.specs.declared.entries.Entry.{Entry}
use Rattle.jr_table.specs.Firsts.{first_that}
use Rattle.jr_table.specs.Chains.{parent_of, outer_of, above, climb, chain_of}

-- what a change of entries leaves as it is: all but the names
pub record Keeps (h : Entry → Entry) : Type 0 where
  pub sort : (e : Entry) → (h e).sort ≡ e.sort
  pub class : (e : Entry) → (h e).class ≡ e.class
  pub params : (e : Entry) → (h e).params ≡ e.params
  pub parent : (e : Entry) → (h e).parent ≡ e.parent
  pub outer : (e : Entry) → (h e).outer ≡ e.outer
  pub is_static : (e : Entry) → (h e).is_static ≡ e.is_static
  pub is_private : (e : Entry) → (h e).is_private ≡ e.is_private

-- and it neither gives nor takes this name
abbrev pub KeepsName : (name : List ℕ) (h : Entry → Entry) → Type 0
KeepsName name h = (e : Entry) → bytes_eq (h e).name name ≡ bytes_eq e.name name

pub get_map : {X Y : Type 0} (f : X → Y) (xs : List X) (n : ℕ) → slice_get (map f xs) n ≡ option_map f (slice_get xs n)
get_map f [] n = refl
get_map f (x ∷ xs) zero = refl
get_map f (x ∷ xs) (suc n) = get_map f xs n

pub length_map : {X Y : Type 0} (f : X → Y) (xs : List X) → length (map f xs) ≡ length xs
length_map f [] = refl
length_map f (x ∷ xs) = ap suc (length_map f xs)

-- a field of an entry at a number
pub kept_at : {Y : Type 0} (h : Entry → Entry) (f : Entry → Option Y) → ((e : Entry) → f (h e) ≡ f e)
    → (o : Option Entry) → option_and_then f (option_map h o) ≡ option_and_then f o
kept_at h f same None = refl
kept_at h f same (Some e) = same e

pub first_map : {X : Type 0} (h : X → X) (test test' : X → Bool) → ((x : X) → test (h x) ≡ test' x)
    → (xs : List X) → first_that test (map h xs) ≡ first_that test' xs
first_map h test test' same [] = refl
first_map h test test' same (x ∷ xs) =
    ap (λ b. if b then Some 0 else option_map suc (first_that test (map h xs))) (same x)
    ∙ ap (λ o. if test' x then Some 0 else option_map suc o) (first_map h test test' same xs)

module _ (h : Entry → Entry) (k : Keeps h) (rows : List Entry) where
  pub parent : (c : ℕ) → parent_of (map h rows) c ≡ parent_of rows c
  parent c = ap (option_and_then (λ (e : Entry). e.parent)) (get_map h rows c)
      ∙ kept_at h (λ e. e.parent) k.parent (slice_get rows c)

  pub outer : (c : ℕ) → outer_of (map h rows) c ≡ outer_of rows c
  outer c = ap (option_and_then (λ (e : Entry). e.outer)) (get_map h rows c)
      ∙ kept_at h (λ e. e.outer) k.outer (slice_get rows c)

  above_same : (f g : ℕ → List ℕ) → ((p : ℕ) → f p ≡ g p) → (o : Option ℕ) → above f o ≡ above g o
  above_same f g same None = refl
  above_same f g same (Some p) = same p

  pub climbs : (most c : ℕ) → climb most (map h rows) c ≡ climb most rows c
  climbs zero c = refl
  climbs (suc most) c = ap (λ cs. c ∷ cs)
      (ap (above (λ p. climb most (map h rows) p)) (parent c)
      ∙ above_same (λ p. climb most (map h rows) p) (λ p. climb most rows p) (climbs most) (parent_of rows c))

  pub chain : (c : ℕ) → chain_of (map h rows) c ≡ chain_of rows c
  unfolding chain_of
  chain c = ap (λ n. climb (suc n) (map h rows) c) (length_map h rows) ∙ climbs (suc (length rows)) c
