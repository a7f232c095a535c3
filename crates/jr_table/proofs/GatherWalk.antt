-- A walk over the rows of one class and one name, while methods are noted.
use Rattle.std.proofs.Common.{◌≡◌, ℕ, suc, ◌<◌, ◌≤◌, List, Option, Some, None, Bool, true, false, refl, sym, ap, subst, ◌∙◌, inl, inr, arith, length}
use Rattle.std.specs.Prelude.{slice_get, ◌⊎◌, ◌&&◌, ◌==◌}
use Rattle.std.specs.Str.{bytes_eq}
use Rattle.std.proofs.lemmas.Option.{slice_get_within}
use Rattle.jr_index.specs.Linked.{NoneBetween, IsFirstFrom}
use Rattle.jr_table.specs.declared.entries.Kind.{Kind}
use Rattle.jr_table.specs.declared.entries.Entry.{Entry}
use Rattle.jr_table.specs.declared.entries.Sort.TheVariants as sort
use Rattle.jr_table.specs.Looking.{is_sort, same_kinds, is_method, own_row}
use Rattle.jr_table.specs.Gathering.{entry_named}
use Rattle.jr_table.proofs.FirstLaws.{first_past}
use Rattle.jr_table.proofs.Testing.{and_both, sort_is, kinds_same}
use Rattle.jr_table.proofs.WantedPlaces.{method_placed}

module _ (rows : List Entry) (at : ℕ) (name : List ℕ) where
  -- the next row of the name; the methods before it were met
  pub record Met (met : List Kind → Bool) (o : Option ℕ) : Type 0 where
    pub from : ℕ
    pub next : IsFirstFrom (entry_named at name) rows from o
    pub before : (k : ℕ) (e : Entry) → k < from → slice_get rows k ≡ Some e → entry_named at name e ≡ true → e.sort ≡ sort.Method → met e.params ≡ true

  pub met_starts : (met : List Kind → Bool) (o : Option ℕ) → IsFirstFrom (entry_named at name) rows 0 o → Met met o
  met_starts met o first = record { from = 0; next = first; before = λ k e lt. absurd (omega (arith, lt)) }

  either : (a b : ℕ) → (a < b) ⊎ (b ≤ a)
  either a b = grind arith

  module _ (met : List Kind → Bool) where
    pub before_next : (from j k : ℕ) (e : Entry) → ((k : ℕ) (e : Entry) → k < from → slice_get rows k ≡ Some e → entry_named at name e ≡ true → e.sort ≡ sort.Method → met e.params ≡ true)
        → NoneBetween (entry_named at name) rows from j → k < j → slice_get rows k ≡ Some e → entry_named at name e ≡ true → e.sort ≡ sort.Method → met e.params ≡ true
    before_next from j k e before none lt here named method = by (either k from)
      where
        by : ((k < from) ⊎ (from ≤ k)) → met e.params ≡ true
        by (inl l) = before k e l here named method
        by (inr l) = let f = none k e l lt here in absurd cc

    pub met_goes_on : (met' : List Kind → Bool) (j : ℕ) (o : Option ℕ) → ((ps : List Kind) → met ps ≡ true → met' ps ≡ true) → ((e : Entry) → slice_get rows j ≡ Some e → e.sort ≡ sort.Method → met' e.params ≡ true)
        → Met met (Some j) → IsFirstFrom (entry_named at name) rows (suc j) o → Met met' o
    met_goes_on met' j o kept here w next = record { from = suc j; next = next; before = before }
      where
        last : (k : ℕ) → k < suc j → (k < j) ⊎ (j ≡ k)
        last k lt = grind arith

        before : (k : ℕ) (e : Entry) → k < suc j → slice_get rows k ≡ Some e → entry_named at name e ≡ true → e.sort ≡ sort.Method → met' e.params ≡ true
        before k e lt stands named method = by (last k lt)
          where
            by : ((k < j) ⊎ (j ≡ k)) → met' e.params ≡ true
            by (inl l) = kept e.params (before_next w.from j k e w.before w.next.2 l stands named method)
            by (inr s) = here e (ap (slice_get rows) s ∙ stands) method

    -- all methods of the name were met
    pub met_all : Met met None → (params : List Kind) → met params ≡ false → own_row rows (is_method name params) at ≡ None
    unfolding own_row
    met_all w params f = first_past (is_method name params at) rows each
      where
        each : (k : ℕ) (e : Entry) → slice_get rows k ≡ Some e → is_method name params at e ≡ false
        each k e here = by (is_method name params at e) refl
          where
            by : (b : Bool) → is_method name params at e ≡ b → b ≡ false
            by false h = refl
            by true h =
                let s = and_both (is_sort e.sort sort.Method && (e.class == at) && bytes_eq e.name name) (same_kinds e.params params) h in
                let a = and_both (is_sort e.sort sort.Method && (e.class == at)) (bytes_eq e.name name) s.0 in
                let m = sort_is e.sort sort.Method (and_both (is_sort e.sort sort.Method) (e.class == at) a.0).0 in
                let t = before_next w.from (length rows) k e w.before w.next (slice_get_within rows k e here) here (method_placed name params at e h) m in
                let same = ap met (sym ((kinds_same e.params params).0 s.1)) ∙ t in
                absurd cc
