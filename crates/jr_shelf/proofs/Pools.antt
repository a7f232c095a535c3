-- Entries that stand in a pool of bytes, and stay where bytes are appended to it.
use Rattle.std.proofs.Common.{◌≡◌, ℕ, ◌+◌, ◌-◌, ◌≤◌, ◌&&◌, Bool, true, false, List, [], ◌∷◌, ◌++◌, IsTrue, Option, Some, length, map, take, drop, refl, sym, ap, ◌∙◌, subst, arith, append_assoc, length-append, length-drop}
use Rattle.std.proofs.lemmas.List.{take-append-le, drop-append-le}
use Rattle.std.proofs.lemmas.Grind.{common_steps}
use Rattle.std.proofs.lemmas.Bool.Decides.{nat_tests}
use Rattle.std.specs.List.{list_all, slice_range}
use Rattle.jr_shelf.specs.declared.store_logs.Stored.{Stored}
use Rattle.jr_shelf.specs.StoreLog.{entry_in, lies_in}
use Rattle.std.specs.Ordering.{nat_cmp}
use Rattle.std.specs.Cmp.Lexicographic.{slice_cmp}
use Rattle.std.specs.FinMap.{find}
use Rattle.std.specs.Str.{bytes_eq}
use Rattle.jr_shelf.proofs.Lookups.{find-first, find-later}

first_true : (a b : Bool) → IsTrue (a && b) → IsTrue a
first_true true b both = refl
first_true false b both = both

second_true : (a b : Bool) → IsTrue (a && b) → IsTrue b
second_true true b both = both
second_true false b both = cc

both_true : (a b : Bool) → IsTrue a → IsTrue b → IsTrue (a && b)
both_true true b first second = second
both_true false b first second = first

-- where a store that lies in a pool of this length stands
places : (len : ℕ) (stored : Stored) → IsTrue (lies_in len stored) → (stored.start ≤ stored.middle) × (stored.middle ≤ stored.end) × (stored.end ≤ len)
places len stored lies = (grind (arith, nat_tests), grind (arith, nat_tests), grind (arith, nat_tests))

lies_in_longer : (m n : ℕ) (stored : Stored) → m ≤ n → IsTrue (lies_in m stored) → IsTrue (lies_in n stored)
lies_in_longer m n stored longer lies = grind (arith, nat_tests)

-- what is left of the stores lies in the pool
pub rest_lie : (len : ℕ) (left rest : List Stored) (stored : Stored) → IsTrue (list_all (lies_in len) left) → left ≡ stored ∷ rest → IsTrue (list_all (lies_in len) rest)
rest_lie len left rest stored lie split = second_true _ _ (subst (λ all. IsTrue (list_all (lies_in len) all)) split lie)

-- each store that lies in a pool lies in a longer one
pub all_lie_in_longer : (m n : ℕ) (all : List Stored) → m ≤ n → IsTrue (list_all (lies_in m) all) → IsTrue (list_all (lies_in n) all)
all_lie_in_longer m n [] longer lie = refl
all_lie_in_longer m n (stored ∷ all) longer lie = both_true _ _ (lies_in_longer m n stored longer (first_true _ _ lie)) (all_lie_in_longer m n all longer (second_true _ _ lie))

-- one more store that lies in the longer pool
pub all_lie_with : (m n : ℕ) (stored : Stored) (all : List Stored) → m ≤ n → stored.start ≤ stored.middle → stored.middle ≤ stored.end → stored.end ≤ n → IsTrue (list_all (lies_in m) all)
    → IsTrue (list_all (lies_in n) (stored ∷ all))
all_lie_with m n stored all longer name bytes within lie = both_true _ _ (grind (arith, nat_tests)) (all_lie_in_longer m n all longer lie)

slice_range-append : (pool more : List ℕ) (a b : ℕ) → a ≤ b → b ≤ length pool → slice_range (pool ++ more) a b ≡ slice_range pool a b
slice_range-append pool more a b order within =
    let room : b - a ≤ length (drop a pool) = omega (arith, length-drop a pool) in
    ap (take (b - a)) (drop-append-le a pool more (omega arith)) ∙ take-append-le (b - a) (drop a pool) more room

entry_in-append : (pool more : List ℕ) (stored : Stored) → IsTrue (lies_in (length pool) stored) → entry_in (pool ++ more) stored ≡ entry_in pool stored
entry_in-append pool more stored lies =
    let at = places _ stored lies in
    let name = slice_range-append pool more stored.start stored.middle at.0 (omega arith) in
    let bytes = slice_range-append pool more stored.middle stored.end at.1 at.2 in
    λ i. (name i, bytes i)

-- the entries of a pool stay where bytes are appended to it
pub entries-append : (pool more : List ℕ) (all : List Stored) → IsTrue (list_all (lies_in (length pool)) all) → map (entry_in (pool ++ more)) all ≡ map (entry_in pool) all
entries-append pool more [] lie = refl
entries-append pool more (stored ∷ all) lie =
    let first = entry_in-append pool more stored (first_true _ _ lie) in
    let rest = entries-append pool more all (second_true _ _ lie) in
    λ i. first i ∷ rest i

slice_range-last : (front last : List ℕ) (a b : ℕ) → a ≡ length front → b ≡ length front + length last → slice_range (front ++ last) a b ≡ last
slice_range-last front last a b from to = grind (arith, common_steps)

-- the entry whose name and bytes were appended last
pub entry_in-last : (pool name bytes : List ℕ) (stored : Stored) → stored.start ≡ length pool → stored.middle ≡ length pool + length name → stored.end ≡ length pool + length name + length bytes
    → entry_in ((pool ++ name) ++ bytes) stored ≡ (name, bytes)
entry_in-last pool name bytes stored start middle end =
    let long = length-append pool name in
    let first = slice_range-append (pool ++ name) bytes stored.start stored.middle (omega arith) (omega arith) ∙ slice_range-last pool name stored.start stored.middle start middle in
    let second = slice_range-last (pool ++ name) bytes stored.middle stored.end (omega arith) (omega arith) in
    λ i. (first i, second i)

-- of the stores that are left, the first is the one of the name
pub found_first : (name pool : List ℕ) (left rest : List Stored) (stored : Stored) (answer : Option (List ℕ)) → answer ≡ find (slice_cmp nat_cmp) name (map (entry_in pool) left) → left ≡ stored ∷ rest
    → bytes_eq name (slice_range pool stored.start stored.middle) ≡ true → answer ≡ Some (slice_range pool stored.middle stored.end)
found_first name pool left rest stored answer found split same =
    found ∙ ap (λ all. find (slice_cmp nat_cmp) name (map (entry_in pool) all)) split ∙ find-first name (entry_in pool stored) (map (entry_in pool) rest) same

-- of the stores that are left, the first is of another name
pub found_later : (name pool : List ℕ) (left rest : List Stored) (stored : Stored) (answer : Option (List ℕ)) → answer ≡ find (slice_cmp nat_cmp) name (map (entry_in pool) left) → left ≡ stored ∷ rest
    → bytes_eq name (slice_range pool stored.start stored.middle) ≡ false → answer ≡ find (slice_cmp nat_cmp) name (map (entry_in pool) rest)
found_later name pool left rest stored answer found split other =
    found ∙ ap (λ all. find (slice_cmp nat_cmp) name (map (entry_in pool) all)) split ∙ find-later name (entry_in pool stored) (map (entry_in pool) rest) other

-- the entries once a name and bytes were appended, and a store that says where
pub entries-push : (pool named full name bytes : List ℕ) (all after : List Stored) (stored : Stored)
    → IsTrue (list_all (lies_in (length pool)) all) → named ≡ pool ++ name → full ≡ named ++ bytes → after ≡ stored ∷ all
    → stored.start ≡ length pool → stored.middle ≡ length named → stored.end ≡ length full
    → map (entry_in full) after ≡ (name, bytes) ∷ map (entry_in pool) all
entries-push pool named full name bytes all after stored lie appended_name appended_bytes pushed start middle end =
    let whole : full ≡ (pool ++ name) ++ bytes = appended_bytes ∙ ap (λ l. l ++ bytes) appended_name in
    let last = entry_in-last pool name bytes stored start (omega (arith, ap length appended_name, length-append pool name))
    (omega (arith, ap length whole, length-append pool name, length-append (pool ++ name) bytes)) in
    let kept = ap (λ l. map (entry_in l) all) (append_assoc pool name bytes) ∙ entries-append pool (name ++ bytes) all lie in
    ap (map (entry_in full)) pushed ∙ ap (λ l. map (entry_in l) (stored ∷ all)) whole ∙ (λ i. last i ∷ kept i)

-- the stores lie in the pool once a name and bytes were appended
pub lie-push : (pool named full name bytes : List ℕ) (all after : List Stored) (stored : Stored)
    → IsTrue (list_all (lies_in (length pool)) all) → named ≡ pool ++ name → full ≡ named ++ bytes → after ≡ stored ∷ all
    → stored.start ≡ length pool → stored.middle ≡ length named → stored.end ≡ length full
    → IsTrue (list_all (lies_in (length full)) after)
lie-push pool named full name bytes all after stored lie appended_name appended_bytes pushed start middle end =
    let long : length named ≡ length pool + length name = ap length appended_name ∙ length-append pool name in
    let longer : length full ≡ length named + length bytes = ap length appended_bytes ∙ length-append named bytes in
    subst (λ l. IsTrue (list_all (lies_in (length full)) l)) (sym pushed)
    (all_lie_with (length pool) (length full) stored all (omega arith) (omega arith) (omega arith) (omega arith) lie)
