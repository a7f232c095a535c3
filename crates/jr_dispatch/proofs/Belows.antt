-- What one row's test says, and results.
use Rattle.std.proofs.Common.{◌≡◌, ℕ, List, Option, Some, None, Bool, true, false, refl, sym, ap, subst, ◌∙◌}
use Rattle.std.specs.Prelude.{◌↔◌, slice_get, Result, Ok, Err}
use Rattle.std.specs.Result.{IfOk}
use Rattle.jr_table.specs.declared.entries.Kind.{Kind}
use Rattle.jr_table.specs.declared.entries.Entry.{Entry}
use Rattle.jr_table.specs.Rows.{Row}
use Rattle.jr_table.specs.Entries.{entries_of}
use Rattle.jr_table.specs.Conditions.{AreRows}
use Rattle.jr_table.specs.Chains.{IsSubclassAt}
use Rattle.jr_table.specs.Members.{DeclaresVirtual}
use Rattle.jr_table.specs.Looking.{is_virtual, own_row}
use Rattle.jr_table.proofs.RowLaws.{acyclic_rows, some_inside}
use Rattle.jr_table.proofs.OneEach.{one_virtual}
use Rattle.jr_dispatch.specs.Highest.{IsBelow}
use Rattle.jr_dispatch.proofs.Connected.{declared_at}
use Rattle.jr_dispatch.proofs.Parting.{own_is}

-- what follows of a value, if there is one
pub ok_then : {A E : Type 0} (r : Result A E) (P Q : A → Type 0) → ((x : A) → P x → Q x) → IfOk r P → IfOk r Q
ok_then (Ok x) P Q f h = f x h
ok_then (Err e) P Q f h = tt

module _ (rows : List Row) (are : AreRows rows) (name : List ℕ) (params : List Kind) (top number : ℕ) where
  abbrev pub Here : Type 0
  Here = IsBelow (entries_of rows) name params top number

  pub no_entry : slice_get (entries_of rows) number ≡ None → Here → ⊥
  no_entry none b = let z = sym none ∙ b.declared.declared.stands in absurd cc

  module _ (e : Entry) (at : slice_get (entries_of rows) number ≡ Some e) where
    same : (b : Here) → b.declared.declared.row ≡ e
    same b = some_inside (slice_get (entries_of rows) number) b.declared.declared.row e b.declared.declared.stands at

    class : (b : Here) → b.class ≡ e.class
    class b = sym b.declared.declared.class ∙ ap (λ (x : Entry). x.class) (same b)

    pub below_name : Here → e.name ≡ name
    below_name b = ap (λ (x : Entry). x.name) (sym (same b)) ∙ b.declared.declared.named

    pub below_class : Here → IsSubclassAt (entries_of rows) e.class top
    below_class b = subst (λ (c : ℕ). IsSubclassAt (entries_of rows) c top) (class b) b.below

    pub below_own : Here → own_row (entries_of rows) (is_virtual name params) e.class ≡ Some number
    below_own b = own_is (entries_of rows) (acyclic_rows rows are) (one_virtual rows are) name params e.class number
        (subst (λ (c : ℕ). DeclaresVirtual (entries_of rows) name params c number) (class b) b.declared)

    pub is_below : own_row (entries_of rows) (is_virtual name params) e.class ≡ Some number → IsSubclassAt (entries_of rows) e.class top → Here
    is_below own s = record { class = e.class; declared = declared_at (entries_of rows) name params e.class number own; below = s }
