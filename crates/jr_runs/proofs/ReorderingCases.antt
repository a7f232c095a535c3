-- What may change places, as theorems. The cells are those of the JSR-133 Cookbook's grid, read for the actions of JLS 17.4.2.
use Rattle.std.proofs.Common.{◌≡◌, ℕ, false, [], ◌∷◌, Option, Some, None, nat_eq, refl, sym, ap, ◌∙◌, true≢false}
use Rattle.std.proofs.lemmas.Bool.{eq-eqb}
use Rattle.jr_plans.specs.Swaps.{exchange}
use Rattle.jr_runs.specs.Values.{truth}
use Rattle.jr_runs.specs.Actions.{plain, volatile, final, Location, part, shared, Action, load, store, enter, exit, create, start}
use Rattle.jr_runs.specs.Reordering.{Free, Reordered}
use Rattle.jr_runs.proofs.Sample.{K, a1, b2, number}

-- accesses of fields 0 and 7 of a1, and of its volatile field 1
abbrev load_0 : Action K
load_0 = load plain (part a1 0) (number 1)

abbrev store_0 : Action K
store_0 = store plain (part a1 0) (number 2)

abbrev store_7 : Action K
store_7 = store plain (part a1 7) (number 3)

abbrev volatile_load : Action K
volatile_load = load volatile (part a1 1) (number 4)

abbrev volatile_store : Action K
volatile_store = store volatile (part a1 1) (number 5)

no_field_is_two : (f g : ℕ) (at : Location K) → nat_eq f g ≡ false → Some (part a1 f) ≡ Some at → Some (part a1 g) ≡ Some at → ⊥
no_field_is_two f g at e h i = true≢false (sym (eq-eqb f g (ap field_of_option (h ∙ sym i))) ∙ e)
  where
    field_in : Location K → ℕ
    field_in (part o f) = f
    field_in (shared f) = f

    field_of_option : Option (Location K) → ℕ
    field_of_option None = 0
    field_of_option (Some x) = field_in x

no_location : {A : Type 0} (at : Location K) → None ≡ Some at → A
no_location at e = absurd (apart e)
  where
    apart : None ≡ Some at → ⊥
    apart i = cc

-- plain accesses of two fields; two loads of one
plain_accesses_move : Free load_0 store_7
plain_accesses_move = record { allowed = refl; apart = λ at h i. absurd (no_field_is_two 0 7 at refl h i) }

loads_of_one_field_move : Free load_0 load_0
loads_of_one_field_move = record { allowed = refl; apart = λ at h i. (refl, refl) }

-- a load and a store of one field stay, in either order
load_and_store_of_one_field_stay : Free load_0 store_0 → ⊥
load_and_store_of_one_field_stay h = true≢false (h.apart (part a1 0) refl refl).1

store_and_load_of_one_field_stay : Free store_0 load_0 → ⊥
store_and_load_of_one_field_stay h = true≢false (h.apart (part a1 0) refl refl).0

-- into a monitor, and not out of it
access_moves_into_a_monitor : Free store_0 (enter b2)
access_moves_into_a_monitor = record { allowed = refl; apart = λ at h i. no_location at i }

access_moves_back_over_an_exit : Free (exit b2) store_0
access_moves_back_over_an_exit = record { allowed = refl; apart = λ at h i. no_location at h }

access_stays_behind_an_enter : Free (enter b2) store_0 → ⊥
access_stays_behind_an_enter h = true≢false (sym h.allowed)

access_stays_in_front_of_an_exit : Free store_0 (exit b2) → ⊥
access_stays_in_front_of_an_exit h = true≢false (sym h.allowed)

-- behind a volatile load, and in front of a volatile store
access_moves_behind_a_volatile_load : Free load_0 volatile_load
access_moves_behind_a_volatile_load = record { allowed = refl; apart = λ at h i. absurd (no_field_is_two 0 1 at refl h i) }

access_stays_behind_a_volatile_load : Free volatile_load load_0 → ⊥
access_stays_behind_a_volatile_load h = true≢false (sym h.allowed)

access_moves_in_front_of_a_volatile_store : Free volatile_store load_0
access_moves_in_front_of_a_volatile_store = record { allowed = refl; apart = λ at h i. absurd (no_field_is_two 1 0 at refl h i) }

access_stays_in_front_of_a_volatile_store : Free load_0 volatile_store → ⊥
access_stays_in_front_of_a_volatile_store h = true≢false (sym h.allowed)

-- accesses of final fields, allocations and starts stay
final_load_stays : Free (load final (part a1 2) (number 1)) load_0 → ⊥
final_load_stays h = true≢false (sym h.allowed)

allocation_stays : Free load_0 (create b2) → ⊥
allocation_stays h = true≢false (sym h.allowed)

start_stays : Free load_0 (start b2 (truth false)) → ⊥
start_stays h = true≢false (sym h.allowed)

-- `f = 2; synchronized (b) { w = 3; }` may become `synchronized (b) { f = 2; w = 3; }`
store_moves_into_the_block : Reordered (store_0 ∷ enter b2 ∷ store_7 ∷ exit b2 ∷ []) (enter b2 ∷ store_0 ∷ store_7 ∷ exit b2 ∷ [])
store_moves_into_the_block = exchange store_0 (enter b2) (store_7 ∷ exit b2 ∷ []) access_moves_into_a_monitor
