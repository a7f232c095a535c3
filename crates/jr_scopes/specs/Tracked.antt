-- Locals in scope as contracts see them, and what is kept of them so that they are found at once.
use Rattle.std.specs.Prelude.{
  ◌≡◌,
  ℕ,
  suc,
  ◌<◌,
  ◌≤◌,
  ◌-◌,
  List,
  [],
  ◌∷◌,
  length,
  take,
  map,
  Option,
  Some,
  None,
  option_map,
  Bool,
  ◌==◌,
  slice_get,
  if◌then◌else◌,
}
use Rattle.std.specs.Str.{bytes_eq}
use Rattle.jr_index.specs.Names.{named}
use Rattle.jr_scopes.specs.declared.backwards.TheConstants.{FEW}
use Rattle.jr_scopes.specs.declared.helds.Held as raw_held
use Rattle.jr_scopes.specs.declared.indexing.PlaceIndex.{PlaceIndex}
use Rattle.jr_scopes.specs.declared.locals.Locals as raw
use Rattle.jr_scopes.specs.declared.restoring.Known as raw_known
use Rattle.jr_scopes.specs.Numbers.{placed}
use Rattle.jr_scopes.specs.Helds.{Held, held_of, or_later}

-- the place of the last that passes
abbrev pub last_place : {X : Type 0} → (X → Bool) → List X → Option ℕ
last_place test [] = None
last_place test (x ∷ xs) =
    or_later (option_map suc (last_place test xs)) (if test x then Some 0 else None)

-- What is found under a key is the place of the last that has it, if one has.
abbrev pub FindsLast : {X : Type 0} {K : Type 0} → (X → K) → (K → K → Bool) → (K → Option ℕ)
    → List X → Type 0
FindsLast key same found xs = (q : _) (i : ℕ) →
    last_place (λ x. same (key x) q) xs ≡ Some i → found q ≡ Some i

-- Each element knows the last before it that has its key.
abbrev pub KnowsEarlier : {X : Type 0} {K : Type 0} → (X → K) → (K → K → Bool)
    → (X → Option ℕ) → List X → Type 0
KnowsEarlier key same before xs = (i : ℕ) (x : _) → slice_get xs i ≡ Some x →
    before x ≡ last_place (λ y. same (key y) (key x)) (take i xs)

abbrev pub held_in : raw_known.Known → raw_held.Held
held_in k = k.held

abbrev pub name_in : raw_known.Known → List ℕ
name_in k = k.held.name.now

abbrev pub number_in : raw_known.Known → ℕ
number_in k = k.held.number

abbrev pub same_number : ℕ → ℕ → Bool
same_number m n = m == n

-- the index finds the last of each name and of each number
pub record Finds (index : PlaceIndex) (ks : List raw_known.Known) : Type 0 where
  pub names : FindsLast name_in bytes_eq (named index.names) ks
  pub numbers : FindsLast number_in same_number (placed index.numbers) ks

-- Where there is no index, there are few.
abbrev pub IsIndexed : Option PlaceIndex → List raw_known.Known → Type 0
IsIndexed None ks = length ks ≤ FEW
IsIndexed (Some index) ks = Finds index ks

-- what each knows of those before it holds, with an index or without
pub record Tracked (l : raw.Locals) : Type 0 where
  pub names : KnowsEarlier name_in bytes_eq (λ k. k.named) l.known.items
  pub numbers : KnowsEarlier number_in same_number (λ k. k.numbered) l.known.items
  pub indexed : IsIndexed l.index l.known.items

-- the list, the last declared at the end
abbrev pub locals_of : raw.Locals → List raw_held.Held
locals_of l = map held_in l.known.items

abbrev pub helds_of : raw.Locals → List Held
helds_of l = map held_of (locals_of l)

-- without the last, if there is one
pub record Leaves (old new : raw.Locals) : Type 0 where
  pub shorter : length (locals_of new) ≡ length (locals_of old) - 1
  pub front : (n : ℕ) → n < length (locals_of old)
      → take n (locals_of new) ≡ take n (locals_of old)
