-- Classes in front of a dot: the image's name where it leads to the image, or else the loss.
use Rattle.std.proofs.Common.{◌≡◌, ℕ, List, subst, ◌⊎◌, inl, inr}
use Rattle.jr_table.specs.Keys.{ClassKey}
use Rattle.jr_table.specs.Decls.{class_decl}
use Rattle.jr_table.specs.Found.{Found, one}
use Rattle.jr_rewrite.specs.Respellings.{Choice, loses}
use Rattle.jr_images.specs.Spelling.{renamed}
use Rattle.jr_new_words.specs.Taking.{RenamesOrLoses}

-- as in `jr_images: Spelling.SpellsLeft`
abbrev pub LeadsOrLoses : (at : ℕ) → (old : List ℕ) → (k image : ClassKey) → (Leads : Type 0) → (Finds : Found → Type 0) → Choice → Type 0
LeadsOrLoses at old k image Leads Finds h = (Leads × (h ≡ renamed old image.name))
    ⊎ ((Leads → ⊥) × ((f : Found) × Finds f × (h ≡ loses (record { at = at; declaration = class_decl k; found = f }))))

module _ (at : ℕ) (old : List ℕ) (k image : ClassKey) (h : Choice) where
  -- the image is what is found
  pub leads : (Leads : Type 0) (Finds : Found → Type 0) → (f : Found) → Finds f → (f ≡ one (class_decl image) → Leads) → (Leads → f ≡ one (class_decl image))
      → RenamesOrLoses at old k image f h → LeadsOrLoses at old k image Leads Finds h
  leads Leads Finds f finds to from (inl (is, e)) = inl (to is, e)
  leads Leads Finds f finds to from (inr (never, e)) = inr (λ l. never (from l), (f, finds, e))

-- with the image in place of a value that is it
pub image_is : (at : ℕ) (old : List ℕ) (k : ClassKey) (h : Choice) (Leads : ClassKey → Type 0) (Finds : ClassKey → Found → Type 0) (a b : ClassKey) → a ≡ b
    → LeadsOrLoses at old k a (Leads a) (Finds a) h → LeadsOrLoses at old k b (Leads b) (Finds b) h
image_is at old k h Leads Finds a b e x = subst (λ m. LeadsOrLoses at old k m (Leads m) (Finds m) h) e x
