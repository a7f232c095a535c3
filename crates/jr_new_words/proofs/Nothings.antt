-- What answers show: nothing, or no one declaration; and what lookups without locals find.
use Rattle.std.proofs.Common.{◌≡◌, ℕ, List, [], Option, Some, None, Bool, true, false, refl, sym, ap, ◌∙◌}
use Rattle.std.specs.Prelude.{◌↔◌, ◌||◌, IsTrue}
use Rattle.jr_table.specs.declared.answers.Answer.{Answer}
use Rattle.jr_table.specs.declared.answers.Answer.TheVariants as number
use Rattle.jr_table.specs.Decls.{Decl}
use Rattle.jr_table.specs.Rows.{Row}
use Rattle.jr_table.specs.Entries.{class_number, entries_of}
use Rattle.jr_table.specs.Fields.{find_field}
use Rattle.jr_table.specs.Found.{one, nothing, not_accessible, from_static}
use Rattle.jr_table.specs.Scope.{Scope, last_named}
use Rattle.jr_table.specs.Lookup.{find_variable, local_or, decl_at, shown_one, shown_two, shown}

pub along_iff : {b : Bool} {P Q : Type 0} → IsTrue b ↔ P → Q ↔ P → IsTrue b ↔ Q
along_iff decides same = (λ t. same.1 (decides.0 t), λ q. decides.1 (same.0 q))

module _ (rows : List Row) where
  pub one_nothing : (j : ℕ) → (shown rows (number.One j) ≡ nothing) ↔ (decl_at rows j ≡ None)
  unfolding shown
  one_nothing j = by (decl_at rows j)
    where
      by : (o : Option Decl) → (shown_one one o ≡ nothing) ↔ (o ≡ None)
      by None = (λ e. refl, λ e. refl)
      by (Some d) = (λ e. absurd cc, λ e. absurd cc)

  pub private_nothing : (j : ℕ) → (shown rows (number.NotAccessible j) ≡ nothing) ↔ (decl_at rows j ≡ None)
  unfolding shown
  private_nothing j = by (decl_at rows j)
    where
      by : (o : Option Decl) → (shown_one not_accessible o ≡ nothing) ↔ (o ≡ None)
      by None = (λ e. refl, λ e. refl)
      by (Some d) = (λ e. absurd cc, λ e. absurd cc)

  pub static_nothing : (j : ℕ) → (shown rows (number.FromStatic j) ≡ nothing) ↔ (decl_at rows j ≡ None)
  unfolding shown
  static_nothing j = by (decl_at rows j)
    where
      by : (o : Option Decl) → (shown_one from_static o ≡ nothing) ↔ (o ≡ None)
      by None = (λ e. refl, λ e. refl)
      by (Some d) = (λ e. absurd cc, λ e. absurd cc)

  -- two rows, one of which isn't there
  pub many_nothing : (j k : ℕ) (a b : Bool) → IsTrue a ↔ (decl_at rows j ≡ None) → IsTrue b ↔ (decl_at rows k ≡ None) → IsTrue (a || b) ↔ (shown rows (number.Many j k) ≡ nothing)
  unfolding shown
  many_nothing j k a b = by (decl_at rows j) (decl_at rows k) a b
    where
      by : (o p : Option Decl) (a b : Bool) → IsTrue a ↔ (o ≡ None) → IsTrue b ↔ (p ≡ None) → IsTrue (a || b) ↔ (shown_two o p ≡ nothing)
      by None p true b x y = (λ t. refl, λ e. refl)
      by None p false b x y = let t : false ≡ true = x.1 refl in absurd cc
      by (Some d) None true b x y = (λ t. refl, λ e. refl)
      by (Some d) None false true x y = (λ t. refl, λ e. refl)
      by (Some d) None false false x y = let t : false ≡ true = y.1 refl in absurd cc
      by (Some d) (Some e) true b x y = let n = x.0 refl in absurd cc
      by (Some d) (Some e) false true x y = let n = y.0 refl in absurd cc
      by (Some d) (Some e) false false x y = (λ t. absurd cc, λ q. absurd cc)

  pub none_nothing : shown rows number.Nothing ≡ nothing
  unfolding shown
  none_nothing = refl

  -- no one declaration is shown
  pub nothing_no_one : (d : Decl) → shown rows number.Nothing ≡ one d → ⊥
  unfolding shown
  nothing_no_one d e = cc

  pub many_no_one : (j k : ℕ) (d : Decl) → shown rows (number.Many j k) ≡ one d → ⊥
  unfolding shown
  many_no_one j k d = by (decl_at rows j) (decl_at rows k)
    where
      by : (o p : Option Decl) → shown_two o p ≡ one d → ⊥
      by None p e = cc
      by (Some x) None e = cc
      by (Some x) (Some y) e = cc

  pub private_no_one : (j : ℕ) (d : Decl) → shown rows (number.NotAccessible j) ≡ one d → ⊥
  unfolding shown
  private_no_one j d = by (decl_at rows j)
    where
      by : (o : Option Decl) → shown_one not_accessible o ≡ one d → ⊥
      by None e = cc
      by (Some x) e = cc

  pub static_no_one : (j : ℕ) (d : Decl) → shown rows (number.FromStatic j) ≡ one d → ⊥
  unfolding shown
  static_no_one j d = by (decl_at rows j)
    where
      by : (o : Option Decl) → shown_one from_static o ≡ one d → ⊥
      by None e = cc
      by (Some x) e = cc

  pub shows_one : (j : ℕ) → shown rows (number.One j) ≡ shown_one one (decl_at rows j)
  unfolding shown
  shows_one j = refl

  none_named : (name : List ℕ) → last_named name [] ≡ None
  unfolding last_named
  none_named name = refl

  -- a variable, where there are no locals
  pub bare_variable : (s : Scope) (name : List ℕ) (a : Answer) → a ≡ find_field (entries_of rows) (class_number rows s.class) s.is_static name
      → (let bare : Scope = record { class = s.class; is_static = s.is_static; locals = [] } in find_variable rows bare name ≡ shown rows a)
  unfolding find_variable
  bare_variable s name a is = ap (local_or rows (find_field (entries_of rows) (class_number rows s.class) s.is_static name)) (none_named name) ∙ ap (shown rows) (sym is)
