-- Rows that pass three tests are those of a program: each is the first of its key, each class that one names has a row, and a
-- superclass's row stands in front.
use Rattle.std.proofs.Common.{◌≡◌, ℕ, zero, suc, ◌+◌, ◌<◌, ◌≤◌, ◌^◌, List, [], ◌∷◌, ◌++◌, length, Option, Some, None, Bool, true, false, ◌&&◌, refl, sym, ap, subst, ◌∙◌, inl, inr, arith}
use Rattle.std.specs.Prelude.{slice_get, is_some, nat_lt, nat_eq, option_and_then}
use Rattle.std.proofs.lemmas.Bool.{eqb-true, ltb-true}
use Rattle.jr_table.specs.declared.entries.Entry.{Entry}
use Rattle.jr_table.specs.Keys.{ClassKey, Ty, int, boolean, void, null, class}
use Rattle.jr_table.specs.Decls.{Decl, class_decl}
use Rattle.jr_table.specs.Rows.{Row}
use Rattle.jr_table.specs.Prelude.{prelude_rows, top_key}
use Rattle.jr_table.specs.Entries.{IsRowOf, number_of, class_of, params_of, outer_name, entries_of}
use Rattle.jr_table.specs.Chains.{Climbs}
use Rattle.jr_table.specs.Conditions.{TypesName, Names, as_declarer, as_outer, as_superclass, as_type, as_parameter, AreRows}
use Rattle.jr_table.proofs.RowLaws.{some_inside, number_stands}

both_true : (a b : Bool) → (a && b) ≡ true → (a ≡ true) × (b ≡ true)
both_true true b e = (refl, e)
both_true false b e = absurd cc

five_true : (a b c d e : Bool) → (a && (b && (c && (d && e)))) ≡ true → (a ≡ true) × (b ≡ true) × (c ≡ true) × (d ≡ true) × (e ≡ true)
five_true a b c d e t =
    let p = both_true a (b && (c && (d && e))) t in
    let q = both_true b (c && (d && e)) p.1 in
    let r = both_true c (d && e) q.1 in
    let s = both_true d e r.1 in
    (p.0, q.0, r.0, s.0, s.1)

abbrev is_number : Option ℕ → ℕ → Bool
is_number None n = false
is_number (Some m) n = nat_eq m n

number_is : (o : Option ℕ) (n : ℕ) → is_number o n ≡ true → o ≡ Some n
number_is None n e = absurd cc
number_is (Some m) n e = ap Some (eqb-true m n e)

abbrev is_below : Option ℕ → ℕ → Bool
is_below None n = true
is_below (Some p) n = nat_lt p n

module _ (rows : List Row) where
  -- ---- each is the first of its key

  abbrev pub all_first : (from : ℕ) → List Row → Bool
  all_first from [] = true
  all_first from (r ∷ rs) = is_number (number_of rows r.decl) from && all_first (suc from) rs

  first_at : (from i : ℕ) (rest : List Row) (r : Row) → all_first from rest ≡ true → slice_get rest i ≡ Some r → number_of rows r.decl ≡ Some (from + i)
  first_at from i [] r t e = absurd cc
  first_at from zero (x ∷ xs) r t e =
      let same : x ≡ r = cc in
      let here = number_is (number_of rows x.decl) from (both_true (is_number (number_of rows x.decl) from) (all_first (suc from) xs) t).0 in
      let sum : from ≡ from + 0 = omega arith in
      subst (λ (z : Row). number_of rows z.decl ≡ Some (from + 0)) same (here ∙ ap Some sum)
  first_at from (suc i) (x ∷ xs) r t e =
      let sum : suc from + i ≡ from + suc i = omega arith in
      first_at (suc from) i xs r (both_true (is_number (number_of rows x.decl) from) (all_first (suc from) xs) t).1 e ∙ ap Some sum

  one_each : all_first 0 rows ≡ true → (d : Decl) (i j : ℕ) → IsRowOf rows d i → IsRowOf rows d j → i ≡ j
  one_each t d i j x y = some_inside (number_of rows d) i j (at i x) (at j y)
    where
      at : (n : ℕ) → IsRowOf rows d n → number_of rows d ≡ Some n
      at n r = let sum : 0 + n ≡ n = omega arith in subst (λ (z : Decl). number_of rows z ≡ Some n) r.declares (first_at 0 n rows r.row t r.stands ∙ ap Some sum)

  -- ---- each class that is named has a row

  abbrev has_class : ClassKey → Bool
  has_class k = is_some (number_of rows (class_decl k))

  abbrev has_outer : Option (List ℕ) → Bool
  has_outer None = true
  has_outer (Some name) = has_class (top_key name)

  abbrev has_parent : Option ClassKey → Bool
  has_parent None = true
  has_parent (Some k) = has_class k

  abbrev has_type : Ty → Bool
  has_type int = true
  has_type boolean = true
  has_type void = true
  has_type null = true
  has_type (class k) = has_class k

  abbrev has_result : Option Ty → Bool
  has_result None = true
  has_result (Some t) = has_type t

  abbrev has_types : List Ty → Bool
  has_types [] = true
  has_types (t ∷ ts) = has_type t && has_types ts

  abbrev row_passes : Row → Bool
  row_passes r = has_class (class_of r.decl) && (has_outer (outer_name r.decl) && (has_parent r.parent && (has_result r.type && has_types (params_of r.decl))))

  abbrev pub all_named : List Row → Bool
  all_named [] = true
  all_named (r ∷ rs) = row_passes r && all_named rs

  abbrev Stands : ClassKey → Type 0
  Stands k = (n : ℕ) × IsRowOf rows (class_decl k) n

  class_stands : (k : ClassKey) → has_class k ≡ true → Stands k
  class_stands k t = by (number_of rows (class_decl k)) refl t
    where
      by : (o : Option ℕ) → number_of rows (class_decl k) ≡ o → is_some o ≡ true → Stands k
      by None is t = absurd cc
      by (Some n) is t = (n, number_stands rows (class_decl k) n is)

  type_stands : (ts : List Ty) (k : ClassKey) → has_types ts ≡ true → TypesName ts k → Stands k
  type_stands [] k t named = absurd named
  type_stands (u ∷ us) k t (inl is) = class_stands k (sym (ap has_type is) ∙ (both_true (has_type u) (has_types us) t).0)
  type_stands (u ∷ us) k t (inr later) = type_stands us k (both_true (has_type u) (has_types us) t).1 later

  row_named : (r : Row) (k : ClassKey) → row_passes r ≡ true → Names r k → Stands k
  row_named r k t names = by names
    where
      all : (has_class (class_of r.decl) ≡ true) × (has_outer (outer_name r.decl) ≡ true) × (has_parent r.parent ≡ true) × (has_result r.type ≡ true) × (has_types (params_of r.decl) ≡ true)
      all = five_true (has_class (class_of r.decl)) (has_outer (outer_name r.decl)) (has_parent r.parent) (has_result r.type) (has_types (params_of r.decl)) t

      by : Names r k → Stands k
      by (as_declarer is) = subst Stands is (class_stands (class_of r.decl) all.0)
      by (as_outer name has is) = subst Stands (sym is) (class_stands (top_key name) (sym (ap has_outer has) ∙ all.1))
      by (as_superclass is) = class_stands k (sym (ap has_parent is) ∙ all.2)
      by (as_type is) = class_stands k (sym (ap has_result is) ∙ all.3)
      by (as_parameter named) = type_stands (params_of r.decl) k all.4 named

  named_at : (rest : List Row) (j : ℕ) (r : Row) (k : ClassKey) → all_named rest ≡ true → slice_get rest j ≡ Some r → Names r k → Stands k
  named_at [] j r k t e names = absurd cc
  named_at (x ∷ xs) zero r k t e names = let same : x ≡ r = cc in row_named x k (both_true (row_passes x) (all_named xs) t).0 (subst (λ (z : Row). Names z k) (sym same) names)
  named_at (x ∷ xs) (suc j) r k t e names = named_at xs j r k (both_true (row_passes x) (all_named xs) t).1 e names

-- ---- a superclass stands in front

abbrev pub all_lower : (from : ℕ) → List Entry → Bool
all_lower from [] = true
all_lower from (e ∷ es) = is_below e.parent from && all_lower (suc from) es

lower_at : (from i : ℕ) (rest : List Entry) (p : ℕ) → all_lower from rest ≡ true → option_and_then (λ (r : Entry). r.parent) (slice_get rest i) ≡ Some p → p < from + i
lower_at from i [] p t e = absurd cc
lower_at from zero (x ∷ xs) p t e =
    let here : is_below (Some p) from ≡ true = sym (ap (λ (o : Option ℕ). is_below o from) e) ∙ (both_true (is_below x.parent from) (all_lower (suc from) xs) t).0 in
    let less = ltb-true p from here in
    omega (arith, less)
lower_at from (suc i) (x ∷ xs) p t e = let less = lower_at (suc from) i xs p (both_true (is_below x.parent from) (all_lower (suc from) xs) t).1 e in omega (arith, less)

module _ (es : List Entry) (t : all_lower 0 es ≡ true) where
  climbs_down : (steps c d : ℕ) → Climbs es steps c d → d ≤ c
  climbs_down zero c d same = omega (arith, same)
  climbs_down (suc steps) c d (p, up, rest) =
      let less = lower_at 0 c es p t up in
      let more = climbs_down steps p d rest in
      omega (arith, less, more)

  no_cycle : (c steps : ℕ) → Climbs es (suc steps) c c → ⊥
  no_cycle c steps (p, up, rest) =
      let less = lower_at 0 c es p t up in
      let more = climbs_down steps p c rest in
      omega (arith, less, more)

pub are_rows : (own rows : List Row) → rows ≡ prelude_rows ++ own → all_first rows 0 rows ≡ true → all_named rows rows ≡ true → all_lower 0 (entries_of rows) ≡ true → length rows < 2 ^ 32 → AreRows rows
are_rows own rows is first named lower few = record {
  own = own;
  prelude = is;
  one_each = one_each rows first;
  named = λ j r k e names. named_at rows rows j r k named e names;
  no_cycle = no_cycle (entries_of rows) lower;
  few = few;
}
