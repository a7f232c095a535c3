-- What an answer shows, and what is found.
use Rattle.std.proofs.Common.{◌≡◌, ℕ, List, Option, Some, None, Bool, refl, sym, ap, subst, ◌∙◌}
use Rattle.std.specs.Prelude.{◌↔◌, IsTrue}
use Rattle.jr_table.specs.declared.answers.Answer.{Answer}
use Rattle.jr_table.specs.declared.answers.Answer.TheVariants as number
use Rattle.jr_table.specs.Keys.{ClassKey}
use Rattle.jr_table.specs.Decls.{LocalKey, Decl, class_decl, field_decl, method_decl, constructor_decl, local_decl}
use Rattle.jr_table.specs.SameDecls.{same_local, local_decides}
use Rattle.jr_table.specs.Rows.{Row}
use Rattle.jr_table.specs.Found.{Found, one, nothing, many, not_accessible, from_static}
use Rattle.jr_table.specs.Lookup.{Shows, ByKeys, shown, shown_one, shown_two, decl_at}
use Rattle.jr_table.specs.LookupLaws.{Decided}
use Rattle.jr_table.specs.Meanings.{class_found}
use Rattle.jr_spell.proofs.Deciding.{along}

module _ (rows : List Row) (d : Decl) where
  pub nothing_shown : shown rows number.Nothing ≡ one d → ⊥
  unfolding shown
  nothing_shown e = cc

  never_two : (o p : Option Decl) → shown_two o p ≡ one d → ⊥
  never_two None None e = cc
  never_two None (Some b) e = cc
  never_two (Some a) None e = cc
  never_two (Some a) (Some b) e = cc

  never_closed : (o : Option Decl) → shown_one not_accessible o ≡ one d → ⊥
  never_closed None e = cc
  never_closed (Some a) e = cc

  never_static : (o : Option Decl) → shown_one from_static o ≡ one d → ⊥
  never_static None e = cc
  never_static (Some a) e = cc

  pub many_shown : (i j : ℕ) → shown rows (number.Many i j) ≡ one d → ⊥
  unfolding shown
  many_shown i j e = never_two (decl_at rows i) (decl_at rows j) e

  pub closed_shown : (j : ℕ) → shown rows (number.NotAccessible j) ≡ one d → ⊥
  unfolding shown
  closed_shown j e = never_closed (decl_at rows j) e

  pub static_shown : (j : ℕ) → shown rows (number.FromStatic j) ≡ one d → ⊥
  unfolding shown
  static_shown j e = never_static (decl_at rows j) e

module _ (rows : List Row) where
  pub one_shown : (j : ℕ) → shown rows (number.One j) ≡ shown_one one (decl_at rows j)
  unfolding shown
  one_shown j = refl

  no_class_of_two : (o p : Option Decl) → None ≡ class_found (shown_two o p)
  no_class_of_two None None = refl
  no_class_of_two None (Some b) = refl
  no_class_of_two (Some a) None = refl
  no_class_of_two (Some a) (Some b) = refl

  no_class_closed : (o : Option Decl) → None ≡ class_found (shown_one not_accessible o)
  no_class_closed None = refl
  no_class_closed (Some a) = refl

  no_class_static : (o : Option Decl) → None ≡ class_found (shown_one from_static o)
  no_class_static None = refl
  no_class_static (Some a) = refl

  pub no_class_nothing : None ≡ class_found (shown rows number.Nothing)
  unfolding shown
  no_class_nothing = refl

  pub no_class_many : (i j : ℕ) → None ≡ class_found (shown rows (number.Many i j))
  unfolding shown
  no_class_many i j = no_class_of_two (decl_at rows i) (decl_at rows j)

  pub no_class_not_accessible : (j : ℕ) → None ≡ class_found (shown rows (number.NotAccessible j))
  unfolding shown
  no_class_not_accessible j = no_class_closed (decl_at rows j)

  pub no_class_from_static : (j : ℕ) → None ≡ class_found (shown rows (number.FromStatic j))
  unfolding shown
  no_class_from_static j = no_class_static (decl_at rows j)

-- what is found is that class
pub class_is : (f : Found) (k : ClassKey) → (class_found f ≡ Some k) ↔ (f ≡ one (class_decl k))
class_is (one (class_decl c)) k = (λ e. let same : c ≡ k = cc in ap (λ x. one (class_decl x)) same, λ e. let same : c ≡ k = cc in ap Some same)
class_is (one (field_decl c)) k = (λ e. absurd cc, λ e. absurd cc)
class_is (one (method_decl c)) k = (λ e. absurd cc, λ e. absurd cc)
class_is (one (constructor_decl c)) k = (λ e. absurd cc, λ e. absurd cc)
class_is (one (local_decl c)) k = (λ e. absurd cc, λ e. absurd cc)
class_is nothing k = (λ e. absurd cc, λ e. absurd cc)
class_is (many a b) k = (λ e. absurd cc, λ e. absurd cc)
class_is (not_accessible a) k = (λ e. absurd cc, λ e. absurd cc)
class_is (from_static a) k = (λ e. absurd cc, λ e. absurd cc)

-- nothing is found by keys exactly where nothing is found by numbers
pub nothing_is : (rows : List Row) (found : Answer) (Finds : Answer → Type 0) → Decided found Finds
    → (found ≡ number.Nothing) ↔ ByKeys rows Finds nothing
nothing_is rows found Finds exact = (
  λ e. (number.Nothing, (exact number.Nothing).0 e, tt),
  λ x. by x.0 x.1 x.2,
)
  where
    by : (a : Answer) → Finds a → Shows rows a nothing → found ≡ number.Nothing
    by number.Nothing finds shows = (exact number.Nothing).1 finds
    by (number.One j) finds shows = absurd shows
    by (number.Many j k) finds shows = absurd shows
    by (number.NotAccessible j) finds shows = absurd shows
    by (number.FromStatic j) finds shows = absurd shows

module _ (find : Found) (Finds : Found → Type 0) (exact : Decided find Finds) where
  -- a value that is what is found
  pub found_is : (x : Found) → find ≡ x → (d : Found) → (x ≡ d) ↔ Finds d
  found_is x is d = (λ e. (exact d).0 (is ∙ e), λ f. sym is ∙ (exact d).1 f)

  -- a test of what is found
  pub decided : (x : Found) → find ≡ x → (d : Found) (b : Bool) → IsTrue b ↔ (x ≡ d) → IsTrue b ↔ Finds d
  decided x is d b test = let both = found_is x is d in along test both.0 both.1

  -- a test of the class that is found
  pub decided_class : (o : Option ClassKey) → o ≡ class_found find → (k : ClassKey) (b : Bool) → IsTrue b ↔ (o ≡ Some k) → IsTrue b ↔ Finds (one (class_decl k))
  decided_class o is k b test =
      let both = class_is find k in
      along test (λ e. (exact (one (class_decl k))).0 (both.0 (sym is ∙ e))) (λ f. is ∙ both.1 ((exact (one (class_decl k))).1 f))

  -- what holds of the class that is found
  pub of_the_class : (a : ClassKey) → Some a ≡ class_found find → (P : ClassKey → Type 0) (o : ClassKey) → Finds (one (class_decl o)) → P o → P a
  of_the_class a is P o finds holds =
      let e : Some a ≡ Some o = is ∙ (class_is find o).1 ((exact (one (class_decl o))).1 finds) in
      let same : o ≡ a = cc in
      subst P same holds

  pub the_class : (a : ClassKey) → Some a ≡ class_found find → Finds (one (class_decl a))
  the_class a is = (exact (one (class_decl a))).0 ((class_is find a).0 (sym is))

  pub no_class : None ≡ class_found find → (o : ClassKey) → Finds (one (class_decl o)) → ⊥
  no_class is o finds =
      let e : None ≡ Some o = is ∙ (class_is find o).1 ((exact (one (class_decl o))).1 finds) in
      cc

-- the one local is found exactly where it is the other
pub same_found : (j k : LocalKey) (b : Bool) → b ≡ same_local j k → IsTrue b ↔ (one (local_decl k) ≡ one (local_decl j))
same_found j k b is = (
  λ e. ap (λ x. one (local_decl x)) (sym ((local_decides j k).0 (sym is ∙ e))),
  λ e. let same : j ≡ k = cc in is ∙ (local_decides j k).1 same,
)
