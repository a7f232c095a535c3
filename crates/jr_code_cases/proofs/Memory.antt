-- What loads give, which objects are new and whether a thread was started, computed from the steps before. Of monitors: they
-- are entered where no other thread has done anything.
use Rattle.std.proofs.Common.{◌≡◌, ℕ, zero, suc, List, [], ◌∷◌, Option, Some, None, Bool, true, false, ◌&&◌, refl, sym, ap, subst, ◌∙◌, inl, inr, eq-eqb, eqb-true, arith}
use Rattle.std.specs.Prelude.{nat_eq, nat_lt, not}
use Rattle.std.proofs.lemmas.Bool.{ltb-true, and_parts, and_from}
use Rattle.jr_plans.specs.Swaps.{same}
use Rattle.jr_runs.specs.Values.{Value, int, truth, null, text, class_object, object}
use Rattle.jr_runs.specs.Actions.{FieldKind, Location, part, shared, Action, load, store, enter, exit, create, start, Trace}
use Rattle.jr_runs.specs.Rows.{Rows}
use Rattle.jr_runs.specs.FirstValues.{First, gives, makes, default_of}
use Rattle.jr_runs.specs.Core.{Program}
use Rattle.jr_runs.specs.Running.{Start, Ending, Whole}
use Rattle.jr_histories.specs.Histories.{Thread, begins, started, thread_at, Step, part_of, InitialIs, LastIs, Counts, number_of, made_number, NoneMakes, NoneStarts, OneStarts, MayCome, AllMayCome, OfThreads, Runs, History}
use Rattle.jr_runs.specs.Reordering.{Reordered}
use Rattle.jr_table.specs.Keys.{ClassKey, FieldKey, MethodKey}
use Rattle.jr_table.specs.SameKeys.{same_class, class_decides, same_field, field_decides}
use Rattle.jr_code.specs.RunKeys.{RunKeys}
use Rattle.jr_code_cases.specs.Shown.{alone}

abbrev V : Type 0
V = Value RunKeys

-- the steps before, the latest first
abbrev Steps : Type 0
Steps = List (Step RunKeys)

-- ---- objects and places

abbrev object_in : V → Option (ℕ × ClassKey)
object_in (int z) = None
object_in (truth b) = None
object_in null = None
object_in (text t) = None
object_in (class_object c) = None
object_in (object n c) = Some (n, c)

abbrev same_objects : Option (ℕ × ClassKey) → Option (ℕ × ClassKey) → Option Bool
same_objects None y = None
same_objects (Some x) None = None
same_objects (Some x) (Some y) = Some (nat_eq x.0 y.0 && same_class x.1 y.1)

inside : {X : Type 0} (x y : X) → Some x ≡ Some y → x ≡ y
inside x y e = cc

true_or_false : (a b : Bool) → a ≡ true → a ≡ false → ⊥
true_or_false a b t f = let e = sym t ∙ f in absurd cc

objects_are : (o p : V) → same_objects (object_in o) (object_in p) ≡ Some true → o ≡ p
objects_are (object n c) (object m d) e = let t = and_parts (nat_eq n m) (same_class c d) (inside _ true e) in λ i. object (eqb-true n m t.0 i) ((class_decides c d).0 t.1 i)
objects_are (object n c) (int z) e = absurd cc
objects_are (object n c) (truth b) e = absurd cc
objects_are (object n c) null e = absurd cc
objects_are (object n c) (text t) e = absurd cc
objects_are (object n c) (class_object d) e = absurd cc
objects_are (int z) p e = absurd cc
objects_are (truth b) p e = absurd cc
objects_are null p e = absurd cc
objects_are (text t) p e = absurd cc
objects_are (class_object c) p e = absurd cc

object_self : (o : V) → same_objects (object_in o) (object_in o) ≡ Some false → ⊥
object_self (object n c) e = true_or_false _ true (and_from (nat_eq n n) (same_class c c) (eq-eqb n n refl) ((class_decides c c).1 refl)) (inside _ false e)
object_self (int z) e = absurd cc
object_self (truth b) e = absurd cc
object_self null e = absurd cc
object_self (text t) e = absurd cc
object_self (class_object c) e = absurd cc

abbrev both_same : Option Bool → Bool → Option Bool
both_same None b = None
both_same (Some a) b = Some (a && b)

-- are these one place? None where one is a part of what is no object
abbrev same_place : Location RunKeys → Location RunKeys → Option Bool
same_place (shared f) (shared g) = Some (same_field f g)
same_place (shared f) (part p g) = Some false
same_place (part o f) (shared g) = Some false
same_place (part o f) (part p g) = both_same (same_objects (object_in o) (object_in p)) (same_field f g)

parts_are : (o p : V) (f g : FieldKey) (a : Option Bool) → same_objects (object_in o) (object_in p) ≡ a → both_same a (same_field f g) ≡ Some true → part o f ≡ part p g
parts_are o p f g None is e = absurd cc
parts_are o p f g (Some a) is e =
    let t = and_parts a (same_field f g) (inside _ true e) in
    λ i. part (objects_are o p (is ∙ ap Some t.0) i) ((field_decides f g).0 t.1 i)

place_is : (p q : Location RunKeys) → same_place p q ≡ Some true → p ≡ q
place_is (shared f) (shared g) e = ap shared ((field_decides f g).0 (inside _ true e))
place_is (shared f) (part p g) e = absurd cc
place_is (part o f) (shared g) e = absurd cc
place_is (part o f) (part p g) e = parts_are o p f g (same_objects (object_in o) (object_in p)) refl e

part_self : (o : V) (f : FieldKey) (a : Option Bool) → same_objects (object_in o) (object_in o) ≡ a → both_same a (same_field f f) ≡ Some false → ⊥
part_self o f None is e = absurd cc
part_self o f (Some false) is e = object_self o is
part_self o f (Some true) is e = true_or_false _ true ((field_decides f f).1 refl) (inside _ false e)

place_self : (p : Location RunKeys) → same_place p p ≡ Some false → ⊥
place_self (shared f) e = true_or_false _ true ((field_decides f f).1 refl) (inside _ false e)
place_self (part o f) e = part_self o f (same_objects (object_in o) (object_in o)) refl e

place_differs : (p q : Location RunKeys) → same_place p q ≡ Some false → p ≡ q → ⊥
place_differs p q e is = place_self p (subst (λ (r : Location RunKeys). same_place p r ≡ Some false) (sym is) e)

-- ---- what was stored last

abbrev given : First RunKeys → Option V
given (gives w) = Some w
given (makes c) = None

abbrev by_place : Option Bool → V → Option V → Option V
by_place None v later = None
by_place (Some true) v later = Some v
by_place (Some false) v later = later

module _ (R : Rows RunKeys) (first : FieldKey → First RunKeys) where
  abbrev initial : Location RunKeys → Option V
  initial (part o f) = Some (default_of (R.field_type f))
  initial (shared f) = given (first f)

  abbrev last_by : Action RunKeys → Location RunKeys → Option V → Option V
  last_by (store k p v) at later = by_place (same_place p at) v later
  last_by (load k p v) at later = later
  last_by (enter o) at later = later
  last_by (exit o) at later = later
  last_by (create o) at later = later
  last_by (start o v) at later = later

  abbrev last : Steps → Location RunKeys → Option V
  last [] at = initial at
  last (x ∷ b) at = last_by x.action at (last b at)

  abbrev no_objects : FieldKey → ℕ
  no_objects f = 0

  initial_is : (at : Location RunKeys) (v : V) → initial at ≡ Some v → InitialIs R first no_objects at v
  initial_is (part o f) v e = sym (inside _ v e)
  initial_is (shared f) v e = by (first f) refl e
    where
      by : (x : First RunKeys) → first f ≡ x → given x ≡ Some v → InitialIs R first no_objects (shared f) v
      by (gives w) is h = rw is (sym (inside w v h))
      by (makes c) is h = absurd cc

  store_is : (k : FieldKind) (p at : Location RunKeys) (w v : V) (b : Steps) (a : Option Bool) → same_place p at ≡ a → (last b at ≡ Some v → LastIs R first no_objects b at v) → by_place a w (last b at) ≡ Some v
      → (i : ℕ) → LastIs R first no_objects (record { thread = i; action = store k p w } ∷ b) at v
  store_is k p at w v b None is again e i = absurd cc
  store_is k p at w v b (Some true) is again e i = inl (k, λ j. store k (place_is p at is j) (inside w v e j))
  store_is k p at w v b (Some false) is again e i = inr (λ kind u same. place_differs p at is (ap (location_or p) same), again e)
    where
      location_or : Location RunKeys → Action RunKeys → Location RunKeys
      location_or p (store k q v) = q
      location_or p x = p

  last_by_is : (i : ℕ) (x : Action RunKeys) (b : Steps) (at : Location RunKeys) (v : V) → (last b at ≡ Some v → LastIs R first no_objects b at v) → last_by x at (last b at) ≡ Some v → LastIs R first no_objects (record { thread = i; action = x } ∷ b) at v
  last_by_is i (store k p w) b at v again e = store_is k p at w v b (same_place p at) refl again e i
  last_by_is i (load k p w) b at v again e = inr (λ kind u same. absurd cc, again e)
  last_by_is i (enter o) b at v again e = inr (λ kind u same. absurd cc, again e)
  last_by_is i (exit o) b at v again e = inr (λ kind u same. absurd cc, again e)
  last_by_is i (create o) b at v again e = inr (λ kind u same. absurd cc, again e)
  last_by_is i (start o w) b at v again e = inr (λ kind u same. absurd cc, again e)

  last_is : (b : Steps) (at : Location RunKeys) (v : V) → last b at ≡ Some v → LastIs R first no_objects b at v
  last_is [] at v e = initial_is at v e
  last_is (x ∷ b) at v e = last_by_is x.thread x.action b at v (λ h. last_is b at v h) e

-- ---- which objects are new

abbrev differs : ℕ → Option ℕ → Bool
differs n None = true
differs n (Some m) = not (nat_eq m n)

abbrev fresh : ℕ → Steps → Bool
fresh n [] = true
fresh n (x ∷ b) = differs n (made_number x.action) && fresh n b

differ : (n : ℕ) (o : Option ℕ) → differs n o ≡ true → o ≡ Some n → ⊥
differ n None e is = absurd cc
differ n (Some m) e is = let t = ap not (eq-eqb m n (inside m n is)) in true_or_false _ true e t

none_makes : (n : ℕ) (b : Steps) → fresh n b ≡ true → NoneMakes n b
none_makes n [] e = tt
none_makes n (x ∷ b) e = let t = and_parts (differs n (made_number x.action)) (fresh n b) e in (differ n (made_number x.action) t.0, none_makes n b t.1)

abbrev is_fresh : Option ℕ → Steps → Bool
is_fresh None b = true
is_fresh (Some n) b = fresh n b

-- ---- which threads were started

abbrev started_here : Option Bool → Option Bool → Option Bool
started_here None later = None
started_here (Some true) later = Some true
started_here (Some false) later = later

abbrev was_by : V → Action RunKeys → Option Bool → Option Bool
was_by o (start p v) later = started_here (same_objects (object_in p) (object_in o)) later
was_by o (load k p v) later = later
was_by o (store k p v) later = later
was_by o (enter p) later = later
was_by o (exit p) later = later
was_by o (create p) later = later

abbrev was : V → Steps → Option Bool
was o [] = Some false
was o (x ∷ b) = was_by o x.action (was o b)

abbrev started_or : V → Action RunKeys → V
started_or o (start p v) = p
started_or o _ = o

module _ (o : V) (b : Steps) (i : ℕ) where
  abbrev with : Action RunKeys → Steps
  with x = record { thread = i; action = x } ∷ b

  not_here : (p v : V) (a : Option Bool) → same_objects (object_in p) (object_in o) ≡ a → (was o b ≡ Some false → NoneStarts o b) → started_here a (was o b) ≡ Some false → NoneStarts o (with (start p v))
  not_here p v None is again e = absurd cc
  not_here p v (Some true) is again e = absurd cc
  not_here p v (Some false) is again e = (λ w same. object_self p (subst (λ (q : V). same_objects (object_in p) (object_in q) ≡ Some false) (sym (ap (started_or p) same)) is), again e)

  none_by : (x : Action RunKeys) → (was o b ≡ Some false → NoneStarts o b) → was_by o x (was o b) ≡ Some false → NoneStarts o (with x)
  none_by (start p v) again e = not_here p v (same_objects (object_in p) (object_in o)) refl again e
  none_by (load k p v) again e = (λ w same. absurd cc, again e)
  none_by (store k p v) again e = (λ w same. absurd cc, again e)
  none_by (enter p) again e = (λ w same. absurd cc, again e)
  none_by (exit p) again e = (λ w same. absurd cc, again e)
  none_by (create p) again e = (λ w same. absurd cc, again e)

  is_here : (p v : V) (a : Option Bool) → same_objects (object_in p) (object_in o) ≡ a → (was o b ≡ Some true → OneStarts o b) → started_here a (was o b) ≡ Some true → OneStarts o (with (start p v))
  is_here p v None is again e = absurd cc
  is_here p v (Some true) is again e = inl (v, λ j. start (objects_are p o is j) v)
  is_here p v (Some false) is again e = inr (again e)

  one_by : (x : Action RunKeys) → (was o b ≡ Some true → OneStarts o b) → was_by o x (was o b) ≡ Some true → OneStarts o (with x)
  one_by (start p v) again e = is_here p v (same_objects (object_in p) (object_in o)) refl again e
  one_by (load k p v) again e = inr (again e)
  one_by (store k p v) again e = inr (again e)
  one_by (enter p) again e = inr (again e)
  one_by (exit p) again e = inr (again e)
  one_by (create p) again e = inr (again e)

none_starts : (o : V) (b : Steps) → was o b ≡ Some false → NoneStarts o b
none_starts o [] e = tt
none_starts o (x ∷ b) e = none_by o b x.thread x.action (λ h. none_starts o b h) e

one_starts : (o : V) (b : Steps) → was o b ≡ Some true → OneStarts o b
one_starts o [] e = absurd cc
one_starts o (x ∷ b) e = one_by o b x.thread x.action (λ h. one_starts o b h) e

never_both : (o : V) (b : Steps) → OneStarts o b → NoneStarts o b → ⊥
never_both o [] one none = one
never_both o (x ∷ b) (inl (v, is)) none = none.0 v is
never_both o (x ∷ b) (inr one) none = never_both o b one none.1

abbrev Answers : Option Bool → V → Type 0
Answers None v = ⊥
Answers (Some c) v = v ≡ truth c

answers : (o v : V) (b : Steps) (c : Option Bool) → was o b ≡ c → Answers c v → (v ≡ truth false → NoneStarts o b) × (NoneStarts o b → v ≡ truth false)
answers o v b None is h = absurd h
answers o v b (Some false) is h = (λ e. none_starts o b is, λ e. h)
answers o v b (Some true) is h = (λ e. (let t : truth true ≡ truth false = sym h ∙ e in absurd cc), λ e. absurd (never_both o b (one_starts o b is) e))

-- ---- other threads

abbrev of_one : ℕ → Steps → Bool
of_one i [] = true
of_one i (x ∷ b) = nat_eq x.thread i && of_one i b

no_counts : (i j : ℕ) (a : Action RunKeys) (b : Steps) → of_one i b ≡ true → (j ≡ i → ⊥) → Counts j a b 0
no_counts i j a [] e other = refl
no_counts i j a (x ∷ b) e other = let t = and_parts (nat_eq x.thread i) (of_one i b) e in inr (λ h. other (sym h.0 ∙ eqb-true x.thread i t.0), no_counts i j a b t.1 other)

-- ---- all

module _ (R : Rows RunKeys) (first : FieldKey → First RunKeys) (threads : List (Thread RunKeys)) where
  abbrev ActionChecks : ℕ → Steps → Action RunKeys → Type 0
  ActionChecks i b (load k at v) = last R first b at ≡ Some v
  ActionChecks i b (store k at v) = Unit {0}
  ActionChecks i b (enter o) = of_one i b ≡ true
  ActionChecks i b (exit o) = Unit {0}
  ActionChecks i b (create o) = is_fresh (number_of o) b ≡ true
  ActionChecks i b (start o v) = Answers (was o b) v

  -- a thread with an object was started
  abbrev Begun : Option (Thread RunKeys) → Steps → Type 0
  Begun None b = Unit {0}
  Begun (Some (begins c)) b = Unit {0}
  Begun (Some (started o)) b = was o b ≡ Some true

  abbrev pub AllMay : Steps → Steps → Type 0
  AllMay b [] = Unit {0}
  AllMay b (x ∷ t) = ActionChecks x.thread b x.action × Begun (thread_at threads x.thread) b × AllMay (x ∷ b) t

  new_is : (n : ℕ) (o : Option ℕ) (b : Steps) → is_fresh o b ≡ true → o ≡ Some n → NoneMakes n b
  new_is n None b e is = absurd cc
  new_is n (Some m) b e is = subst (λ (i : ℕ). NoneMakes i b) (inside m n is) (none_makes m b e)

  module _ (i : ℕ) (b : Steps) where
    loaded : (y : Action RunKeys) → ActionChecks i b y → (kind : FieldKind) (at : Location RunKeys) (v : V) → y ≡ load kind at v → LastIs R first (no_objects R first) b at v
    loaded (load k p w) h kind at v is = let place : p ≡ at = cc in let value : w ≡ v = cc in last_is R first b at v (subst (λ (q : Location RunKeys). last R first b q ≡ Some v) place (h ∙ ap Some value))
    loaded (store k p w) h kind at v is = absurd cc
    loaded (enter o) h kind at v is = absurd cc
    loaded (exit o) h kind at v is = absurd cc
    loaded (create o) h kind at v is = absurd cc
    loaded (start o w) h kind at v is = absurd cc

    entered : (y : Action RunKeys) → ActionChecks i b y → (o : V) → y ≡ enter o → (j : ℕ) → (j ≡ i → ⊥) → (n : ℕ) × Counts j (enter o) b n × Counts j (exit o) b n
    entered (enter p) h o is j other = (0, no_counts i j (enter o) b h other, no_counts i j (exit o) b h other)
    entered (load k p w) h o is j other = absurd cc
    entered (store k p w) h o is j other = absurd cc
    entered (exit p) h o is j other = absurd cc
    entered (create p) h o is j other = absurd cc
    entered (start p w) h o is j other = absurd cc

    made : (y : Action RunKeys) → ActionChecks i b y → (n : ℕ) → made_number y ≡ Some n → NoneMakes n b
    made (create o) h n is = new_is n (number_of o) b h is
    made (load k p w) h n is = absurd cc
    made (store k p w) h n is = absurd cc
    made (enter o) h n is = absurd cc
    made (exit o) h n is = absurd cc
    made (start o w) h n is = absurd cc

    begun : (y : Action RunKeys) → ActionChecks i b y → (o v : V) → y ≡ start o v → (v ≡ truth false → NoneStarts o b) × (NoneStarts o b → v ≡ truth false)
    begun (start p w) h o v is = let same : p ≡ o = cc in let value : w ≡ v = cc in subst (λ (q : V). (v ≡ truth false → NoneStarts q b) × (NoneStarts q b → v ≡ truth false)) same (answers p v b (was p b) refl (subst (Answers (was p b)) value h))
    begun (load k p w) h o v is = absurd cc
    begun (store k p w) h o v is = absurd cc
    begun (enter p) h o v is = absurd cc
    begun (exit p) h o v is = absurd cc
    begun (create p) h o v is = absurd cc

    was_begun : (t : Option (Thread RunKeys)) → Begun t b → (o : V) → t ≡ Some (started o) → OneStarts o b
    was_begun None h o is = absurd cc
    was_begun (Some (begins c)) h o is = absurd cc
    was_begun (Some (started p)) h o is = let same : p ≡ o = cc in subst (λ (q : V). OneStarts q b) same (one_starts p b h)

  module _ (gives_all : (f : FieldKey) (c : ClassKey) → first f ≡ makes c → ⊥) where
    may : (b : Steps) (x : Step RunKeys) → ActionChecks x.thread b x.action → Begun (thread_at threads x.thread) b → MayCome R first (no_objects R first) threads b x
    may b x h g = record {
      loads = λ kind at v is. loaded x.thread b x.action h kind at v is;
      enters = λ o is j other. entered x.thread b x.action h o is j other;
      is_new = λ n is. made x.thread b x.action h n is;
      is_not_first = λ n is f c makes none. gives_all f c makes;
      starts = λ o v is. begun x.thread b x.action h o v is;
      was_started = λ o is. was_begun x.thread b (thread_at threads x.thread) g o is;
    }

    all_may : (b t : Steps) → AllMay b t → AllMayCome R first (no_objects R first) threads b t
    all_may b [] h = tt
    all_may b (x ∷ t) h = (may b x h.0 h.1, all_may (x ∷ b) t h.2)

-- each step is one of two threads
abbrev pub of_either : Steps → Bool
of_either [] = true
of_either (x ∷ h) = nat_lt x.thread 2 && of_either h

module _ (P : Program RunKeys) (first : FieldKey → First RunKeys) (gives_all : (f : FieldKey) (c : ClassKey) → first f ≡ makes c → ⊥) (of : MethodKey) where
  -- a thread's run, whose actions are its steps in their order
  Part : Steps → ℕ → Thread RunKeys → Type 0
  Part h i x = (c : Start RunKeys) × Runs P.rows of x c × (u : Trace RunKeys) × (f : Ending RunKeys) × Whole P c u f × Reordered u (part_of i h)

  part_is : (h : Steps) (i : ℕ) (x : Thread RunKeys) (c : Start RunKeys) (u : Trace RunKeys) (f : Ending RunKeys) → Runs P.rows of x c → Whole P c u f → u ≡ part_of i h → Part h i x
  unfolding Part
  part_is h i x c u f runs whole is = (c, runs, u, f, whole, subst (Reordered u) is (same u))

  -- ---- one thread

  module _ (run : Start RunKeys) where
    all_of : (t : Trace RunKeys) → OfThreads (begins run ∷ []) (alone t)
    all_of [] = tt
    all_of (x ∷ t) = ((begins run, refl), all_of t)

    own_part : (t : Trace RunKeys) → t ≡ part_of 0 (alone t)
    own_part [] = refl
    own_part (x ∷ t) = ap (λ (u : Trace RunKeys). x ∷ u) (own_part t)

    none_started : (i : ℕ) (o : V) → thread_at (begins run ∷ []) i ≡ Some (started o) → ⊥
    none_started zero o is = absurd cc
    none_started (suc i) o is = absurd cc

    module _ (t : Trace RunKeys) (e : Ending RunKeys) (whole : Whole P run t e) where
      parts : (i : ℕ) (x : Thread RunKeys) → thread_at (begins run ∷ []) i ≡ Some x → Part (alone t) i x
      parts zero x is = subst (Part (alone t) 0) (inside (begins run) x is) (part_is (alone t) 0 (begins run) run t e refl whole (own_part t))
      parts (suc i) x is = absurd cc

      pub lone_history : AllMay P.rows first (begins run ∷ []) [] (alone t) → History P of first (begins run ∷ []) (alone t)
      unfolding Part
      lone_history checks = record {
        of_threads = all_of t;
        parts = parts;
        own_objects = λ i j o a b. absurd (none_started i o a);
        objects = no_objects P.rows first;
        one_each = λ f g c d a b same. absurd (gives_all f c a);
        steps = all_may P.rows first (begins run ∷ []) gives_all [] (alone t) checks;
      }

  -- ---- a thread that starts another

  module _ (run : Start RunKeys) (o : V) where
    abbrev both_threads : List (Thread RunKeys)
    both_threads = begins run ∷ started o ∷ []

    one_object : (i j : ℕ) (p : V) → thread_at both_threads i ≡ Some (started p) → thread_at both_threads j ≡ Some (started p) → i ≡ j
    one_object zero j p a b = absurd cc
    one_object (suc zero) zero p a b = absurd cc
    one_object (suc zero) (suc zero) p a b = refl
    one_object (suc zero) (suc (suc j)) p a b = absurd cc
    one_object (suc (suc i)) j p a b = absurd cc

    either_thread : (i : ℕ) → nat_lt i 2 ≡ true → (x : Thread RunKeys) × (thread_at both_threads i ≡ Some x)
    either_thread zero e = (begins run, refl)
    either_thread (suc zero) e = (started o, refl)
    either_thread (suc (suc i)) e = absurd (let less = ltb-true (suc (suc i)) 2 e in omega (arith, less))

    all_either : (h : Steps) → of_either h ≡ true → OfThreads both_threads h
    all_either [] e = tt
    all_either (x ∷ h) e = let t = and_parts (nat_lt x.thread 2) (of_either h) e in (either_thread x.thread t.0, all_either h t.1)

    module _ (h : Steps) (t u : Trace RunKeys) (e f : Ending RunKeys) (d : Start RunKeys) (whole : Whole P run t e) (runs : Runs P.rows of (started o) d) (other : Whole P d u f) (own : t ≡ part_of 0 h) (others : u ≡ part_of 1 h) where
      two_parts : (i : ℕ) (x : Thread RunKeys) → thread_at both_threads i ≡ Some x → Part h i x
      two_parts zero x is = subst (Part h 0) (inside (begins run) x is) (part_is h 0 (begins run) run t e refl whole own)
      two_parts (suc zero) x is = subst (Part h 1) (inside (started o) x is) (part_is h 1 (started o) d u f runs other others)
      two_parts (suc (suc i)) x is = absurd cc

      pub two_histories : of_either h ≡ true → AllMay P.rows first both_threads [] h → History P of first both_threads h
      unfolding Part
      two_histories either checks = record {
        of_threads = all_either h either;
        parts = two_parts;
        own_objects = one_object;
        objects = no_objects P.rows first;
        one_each = λ f g c d a b same. absurd (gives_all f c a);
        steps = all_may P.rows first both_threads gives_all [] h checks;
      }
