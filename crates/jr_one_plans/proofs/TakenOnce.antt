-- The first form that binds is one, and so is the loss where none does.
use Rattle.std.proofs.Common.{◌≡◌, ℕ, ◌<◌, List, Option, Some, None, sym, ap, ◌∙◌, inl, inr}
use Rattle.std.specs.Prelude.{◌⊎◌, slice_get}
use Rattle.std.proofs.lemmas.Bool.{cases_order}
use Rattle.std.proofs.lemmas.Option.{same_Some}
use Rattle.jr_text.specs.declared.spans.Span.{Span}
use Rattle.jr_table.specs.Keys.{ClassKey, Ty, int, boolean, void, null, class}
use Rattle.jr_table.specs.Decls.{LocalKey, Decl, class_decl}
use Rattle.jr_table.specs.Rows.{Row}
use Rattle.jr_table.specs.Entries.{class_of}
use Rattle.jr_table.specs.Found.{Found}
use Rattle.jr_table.specs.Scope.{Scope}
use Rattle.jr_table.specs.LookupLaws.{HasOne}
use Rattle.jr_spell.specs.declared.spellings.Form.{Form}
use Rattle.jr_spell.specs.References.{Reference}
use Rattle.jr_spell.specs.Spellings.{forms}
use Rattle.jr_spell.specs.Taken.{IsTaken}
use Rattle.jr_rewrite.specs.Respellings.{Choice, loses}
use Rattle.jr_images.specs.Regions.{Region}
use Rattle.jr_images.specs.Spelling.{spelled, OfImage, FindsOn, TakenChoice, LeftChoice}
use Rattle.jr_program_laws.specs.FileParts.{begins}

pub taken_once : (rows : List Row) (s : Scope) (r : Reference) (d : Decl) → HasOne (IsTaken rows s r d)
taken_once rows s r d f k x y = by (cases_order x.place y.place)
  where
    by : (x.place ≡ y.place) ⊎ ((x.place < y.place) ⊎ (y.place < x.place)) → f ≡ k
    by (inl e) = same_Some f k (sym x.stands ∙ ap (slice_get (forms r.form d)) e ∙ y.stands)
    by (inr (inl less)) = absurd (y.first x.place f less x.stands x.binds)
    by (inr (inr less)) = absurd (x.first y.place k less y.stands y.binds)

-- a loss with the one thing that is found
pub lost_once : (at : ℕ) (d : Decl) (Finds : Found → Type 0) → HasOne Finds → HasOne (λ (h : Choice). (f : Found) × Finds f × (h ≡ loses (record { at = at; declaration = d; found = f })))
lost_once at d Finds single h k x y = x.2 ∙ ap (λ (f : Found). loses (record { at = at; declaration = d; found = f })) (single x.0 y.0 x.1 y.1) ∙ sym y.2

module _ (rows : List Row) (R : Region Span) where
  pub choice_once : (s : Scope) (at : ℕ) (old new : List ℕ) (d image : Decl) (r : Reference) (Finds : Found → Type 0) → HasOne Finds → HasOne (TakenChoice begins rows R s at old new d image r Finds)
  choice_once s at old new d image r Finds single h k (inl x) (inl y) =
      x.2 ∙ ap (λ (f : Form). spelled old new (class_of image) f) (taken_once R.seen.images.rows s r image x.0 y.0 x.1 y.1) ∙ sym y.2
  choice_once s at old new d image r Finds single h k (inl x) (inr y) = absurd (y.0 x.1.place x.0 x.1.stands x.1.binds)
  choice_once s at old new d image r Finds single h k (inr x) (inl y) = absurd (x.0 y.1.place y.0 y.1.stands y.1.binds)
  choice_once s at old new d image r Finds single h k (inr x) (inr y) = lost_once at d Finds single h k x.1 y.1

  pub left_once : (at : ℕ) (old : List ℕ) (k : ClassKey) (Leads : Type 0) (Finds : Found → Type 0) → HasOne Finds → HasOne (LeftChoice begins rows R at old k Leads Finds)
  left_once at old k Leads Finds single h i (inl x) (inl y) = x.1 ∙ sym y.1
  left_once at old k Leads Finds single h i (inl x) (inr y) = absurd (y.0 x.0)
  left_once at old k Leads Finds single h i (inr x) (inl y) = absurd (x.0 y.0)
  left_once at old k Leads Finds single h i (inr x) (inr y) = lost_once at (class_decl k) Finds single h i x.1 y.1

-- of a local's image, or where it is gone
pub image_once : (o : Option LocalKey) (Kept : LocalKey → Choice → Type 0) (Gone : Choice → Type 0) → ((k : LocalKey) → HasOne (Kept k)) → HasOne Gone → HasOne (λ (h : Choice). OfImage o (λ k. Kept k h) (Gone h))
image_once None Kept Gone kept gone a b x y = gone a b x y
image_once (Some k) Kept Gone kept gone a b x y = kept k a b x y

-- on a value of a type
pub on_once : (t : Ty) (Finds : ClassKey → Found → Type 0) → ((k : ClassKey) → HasOne (Finds k)) → HasOne (FindsOn t Finds)
on_once (class k) Finds each a b x y = each k a b x y
on_once int Finds each a b x y = x ∙ sym y
on_once boolean Finds each a b x y = x ∙ sym y
on_once void Finds each a b x y = x ∙ sym y
on_once null Finds each a b x y = x ∙ sym y
