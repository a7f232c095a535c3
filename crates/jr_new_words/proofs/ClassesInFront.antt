-- Classes in front of a dot: by the words that they are asked by, and by the two other spellings.
use Rattle.std.proofs.Common.{◌≡◌, ℕ, List, [], Option, Some, None, refl, ap, subst, arith, inl, inr}
use Rattle.jr_table.specs.Keys.{ClassKey}
use Rattle.jr_table.specs.Decls.{Decl, class_decl}
use Rattle.jr_table.specs.Rows.{Row}
use Rattle.jr_table.specs.Found.{Found, one, nothing, many, not_accessible, from_static}
use Rattle.jr_table.specs.Scope.{Scope}
use Rattle.jr_table.specs.Context.{Context}
use Rattle.jr_spell.specs.declared.references.RefForm.TheVariants as ref
use Rattle.jr_spell.specs.declared.spellings.Form.TheVariants.{Asked}
use Rattle.jr_rewrite.specs.Respellings.{Choice}
use Rattle.jr_images.specs.Words.{InFront, class_name, named_class, neither}
use Rattle.jr_images.specs.Spelling.{renamed, reference, behind_words}
use Rattle.jr_new_words.specs.Mappings.{Mapping, class_to, rows_to, scope_to, StandsSo, IsValueOf}
use Rattle.jr_new_words.specs.Taking.{asked, SpellsAt, operand_if, TakesInFront, TakesByName, LosesByName}

-- the asked words are the class's name
pub asked_takes : (rows : List Row) (s : Scope) (w : InFront) (k : ClassKey) (old : List ℕ) (h : Choice) → w ≡ class_name k → h ≡ renamed old k.name → TakesInFront rows s w None k old (Some h)
asked_takes rows s w k old h is e = (Asked, record { place = 0; stands = refl; binds = (ap named_class is, tt); first = λ i f below at b. omega arith }, e)

module _ (rows : List Row) (g : Mapping) (c : Context) (at : ℕ) (old : List ℕ) (k : ClassKey) (on : Option ClassKey) where
  -- what is chosen for class k, whose image is m, and which finds so by its name; behind a class, or
  -- not
  abbrev pub InFrontSpells : (Finds : List ℕ → Found → Type 0) → (m : ClassKey) → Choice → Type 0
  InFrontSpells Finds m h = (w : InFront) × ((f : Found) × Finds m.name f × StandsSo rows g c f w)
      × SpellsAt (rows_to g rows) (scope_to g c) (asked (behind_words w (reference ref.ClassInFront m.name (operand_if on) [])) (class_decl m) m.name) at old (class_decl k) (Finds m.name) h

  -- with the image in place of a value that is it
  pub of_image : (Finds : List ℕ → Found → Type 0) (m : ClassKey) (h : Choice) → m ≡ class_to g k → InFrontSpells Finds m h → InFrontSpells Finds (class_to g k) h
  of_image Finds m h e x = subst (λ (n : ClassKey). InFrontSpells Finds n h) e x

  pub in_front_taken : (Finds : List ℕ → Found → Type 0) (m : ClassKey) (h : Choice) → m ≡ class_to g k → TakesByName rows g c Finds on m old (Some h) → InFrontSpells Finds (class_to g k) h
  in_front_taken Finds m h e (w, stands, takes) = of_image Finds m h e (w, stands, inl takes)

  pub in_front_lost : (Finds : List ℕ → Found → Type 0) (m : ClassKey) (h : Choice) → m ≡ class_to g k → TakesByName rows g c Finds on m old None → LosesByName (Finds m.name) at k h
      → InFrontSpells Finds (class_to g k) h
  in_front_lost Finds m h e (w, stands, none) loss = of_image Finds m h e (w, stands, inr (none, loss))

module _ (rows : List Row) (g : Mapping) (c : Context) where
  -- what is no one declaration stands for nothing
  pub stands_neither : (f : Found) → ((d : Decl) → f ≡ one d → ⊥) → StandsSo rows g c f neither
  stands_neither f never = ((λ b e. never (class_decl b) e), (λ b v. by f b v never))
    where
      by : (f : Found) (b : ClassKey) → IsValueOf rows g c f b → ((d : Decl) → f ≡ one d → ⊥) → ⊥
      by (one d) b v never = never d refl
      by nothing b v never = absurd v
      by (many d e) b v never = absurd v
      by (not_accessible d) b v never = absurd v
      by (from_static d) b v never = absurd v
