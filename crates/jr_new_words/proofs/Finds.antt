-- The old declaration is the one that is found.
use Rattle.std.proofs.Common.{◌≡◌, Some, None, subst}
use Rattle.jr_table.specs.Found.{Found}
use Rattle.jr_rewrite.specs.Respellings.{Choice}
use Rattle.jr_new_words.specs.Chosen.{ChoosesOf}

pub chooses : {K : Type 0} (one_of : K → Found) (Finds : Found → Type 0) (Spells : K → Choice → Type 0) (f : Found) → Finds f
    → (k : K) → f ≡ one_of k → (h : Choice) → Spells k h → ChoosesOf (λ k. Finds (one_of k)) Spells (Some h)
chooses one_of Finds Spells f finds k is h spells = (k, subst Finds is finds, spells)

-- and where none is, none is chosen
pub chooses_none : {K : Type 0} (one_of : K → Found) (Finds : Found → Type 0) (Spells : K → Choice → Type 0) (f : Found) → Finds f
    → ((a b : Found) → Finds a → Finds b → a ≡ b) → ((k : K) → f ≡ one_of k → ⊥) → ChoosesOf (λ k. Finds (one_of k)) Spells None
chooses_none one_of Finds Spells f finds same never = λ k other. never k (same f (one_of k) finds other)
