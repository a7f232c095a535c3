-- What statements note by numbers is what is said by keys.
use Rattle.std.proofs.Common.{◌≡◌, ℕ, List, ◌++◌, Option, Some, None, Bool, refl, sym, ap, ◌∙◌}
use Rattle.std.specs.Prelude.{slice_get, option_map, option_and_then, is_some, not, ◌&&◌}
use Rattle.jr_ast.specs.Tree as tree
use Rattle.jr_ast.specs.Marks.{exp_mark}
use Rattle.jr_table.specs.declared.entries.Kind.{Kind}
use Rattle.jr_table.specs.declared.rules.Rule.TheVariants as rule
use Rattle.jr_table.specs.Keys.{Ty, int, boolean, void, null, class}
use Rattle.jr_table.specs.Decls.{MemberKey, head, field, method, constructor, Decl, method_decl}
use Rattle.jr_table.specs.Conditions.{AreRows}
use Rattle.jr_table.specs.Rows.{Row}
use Rattle.jr_table.specs.Entries.{number_of, kind_of, entry_of, entries_of}
use Rattle.jr_table.specs.Context.{Context}
use Rattle.jr_table.specs.Meanings.{row_of, type_of}
use Rattle.jr_table.specs.Notes.{breaks, unless, when, is_true_literal, is_class_type, value_type, value_return_notes, returned_type}
use Rattle.jr_table.specs.Notes as notes
use Rattle.jr_table.proofs.RowLaws.{entry_at}
use Rattle.jr_bind_expr.specs.declared.meanings.Meaning.{Meaning}
use Rattle.jr_bind_expr.specs.Abouts.{kind_at}
use Rattle.jr_bind_expr.specs.Numbered.{class_in, is_boolean, suits}
use Rattle.jr_bind_expr.specs.Means.{Means}
use Rattle.jr_bind_expr.specs.Places.{IsRowedIf}
use Rattle.jr_bind_parts.specs.StmtArms.{condition_notes, loop_notes, lock_notes, value_kind, value_notes, init_notes, checked_notes, looped_notes, locked_notes}
use Rattle.jr_bind_expr.proofs.TypeTests.{boolean_is, suits_is}
use Rattle.jr_bind_expr.proofs.Rowing.{row_rowed}

module _ (rows : List Row) where
  -- what a method returns
  pub value_is : (t : Option Ty) → value_kind (option_map (kind_of rows) t) ≡ option_map (kind_of rows) (value_type t)
  value_is None = refl
  value_is (Some int) = refl
  value_is (Some boolean) = refl
  value_is (Some void) = refl
  value_is (Some null) = refl
  value_is (Some (class k)) = refl

  pub row_kind : (d : Decl) (j : ℕ) → number_of rows d ≡ Some j → kind_at (slice_get (entries_of rows) j) ≡ option_map (kind_of rows) (option_and_then (λ (r : Row). r.type) (row_of rows d))
  unfolding row_of
  row_kind d j h = ap kind_at (entry_at rows j) ∙ by (slice_get rows j)
      ∙ sym (ap (λ o. option_map (kind_of rows) (option_and_then (λ (r : Row). r.type) (option_and_then (λ n. slice_get rows n) o))) h)
    where
      by : (o : Option Row) → kind_at (option_map (entry_of rows) o) ≡ option_map (kind_of rows) (option_and_then (λ (r : Row). r.type) o)
      by None = refl
      by (Some r) = refl

  lock_is : (t : Option Ty) → is_some (class_in (option_map (kind_of rows) t)) ≡ is_class_type t
  lock_is None = refl
  lock_is (Some int) = refl
  lock_is (Some boolean) = refl
  lock_is (Some void) = refl
  lock_is (Some null) = refl
  lock_is (Some (class k)) = refl

module _ {A : Type 0} (B : A → ℕ → ℕ) (rows : List Row) (c : Context) (at : ℕ) (e : tree.Exp A) (m : Meaning) (means : Means B rows c at e m) where
  pub checked_is : condition_notes m ≡ checked_notes B rows c at e
  checked_is = λ i. unless ((ap is_boolean means.kind ∙ boolean_is rows (type_of rows c e)) i) (breaks (means.at i) rule.TypeMismatch)

  pub looped_is : (b : Bool) → b ≡ is_true_literal e → loop_notes b m ≡ looped_notes B rows c at e
  looped_is b h = λ i. checked_is i ++ when (not (h i) && means.constant i) (breaks (means.at i) rule.ConstantCondition)

  pub locked_is : lock_notes m ≡ locked_notes B rows c at e
  locked_is = λ i. unless ((ap (λ t. is_some (class_in t)) means.kind ∙ lock_is rows (type_of rows c e)) i) (breaks (means.at i) rule.TypeMismatch)

  pub returned_is : (place : ℕ) (due : Option Ty) → IsRowedIf rows (type_of rows c e) → IsRowedIf rows due
      → value_notes (entries_of rows) place (option_map (kind_of rows) due) m ≡ value_return_notes rows place (B (exp_mark e) at) (type_of rows c e) due
  returned_is place None f g = refl
  returned_is place (Some t) f g = λ i. unless ((ap (λ (k : Option Kind). suits (entries_of rows) k (Some (kind_of rows t))) means.kind ∙ suits_is rows (type_of rows c e) (Some t) f g) i) (breaks (means.at i) rule.TypeMismatch)

  pub init_is : (t : Option Ty) → IsRowedIf rows (type_of rows c e) → IsRowedIf rows t
      → init_notes (entries_of rows) (option_map (kind_of rows) t) m ≡ unless (notes.suits rows (type_of rows c e) t) (breaks (B (exp_mark e) at) rule.TypeMismatch)
  init_is t f g = λ i. unless ((ap (λ (k : Option Kind). suits (entries_of rows) k (option_map (kind_of rows) t)) means.kind ∙ suits_is rows (type_of rows c e) t f g) i) (breaks (means.at i) rule.TypeMismatch)

is_some_of : {X Y : Type 0} (f : X → Y) (o : Option X) → is_some (option_map f o) ≡ is_some o
is_some_of f None = refl
is_some_of f (Some x) = refl

module _ (rows : List Row) where
  pub none_due : (place : ℕ) (due : Option Ty) → when (is_some (option_map (kind_of rows) due)) (breaks place rule.ReturnForm) ≡ when (is_some due) (breaks place rule.ReturnForm)
  none_due place due = ap (λ b. when b (breaks place rule.ReturnForm)) (is_some_of (kind_of rows) due)

  value_rowed : (t : Option Ty) → IsRowedIf rows t → IsRowedIf rows (value_type t)
  value_rowed None h = tt
  value_rowed (Some int) h = tt
  value_rowed (Some boolean) h = tt
  value_rowed (Some void) h = tt
  value_rowed (Some null) h = tt
  value_rowed (Some (class k)) h = h

  pub returned_rowed : AreRows rows → (k : MemberKey) → IsRowedIf rows (returned_type rows k)
  returned_rowed are (method k) = value_rowed (option_and_then (λ (r : Row). r.type) (row_of rows (method_decl k))) (row_rowed rows are (method_decl k))
  returned_rowed are (head k) = tt
  returned_rowed are (field k) = tt
  returned_rowed are (constructor k) = tt
