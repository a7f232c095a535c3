-- The spelling that is taken, as a choice, of any rows and scope.
use Rattle.std.specs.Prelude.{◌≡◌, ℕ, List, [], Option, Some, None, ◌⊎◌}
use Rattle.jr_table.specs.Keys.{ClassKey}
use Rattle.jr_table.specs.Decls.{Decl, class_decl}
use Rattle.jr_table.specs.Rows.{Row}
use Rattle.jr_table.specs.Entries.{class_of}
use Rattle.jr_table.specs.Found.{Found, one}
use Rattle.jr_table.specs.Scope.{Scope}
use Rattle.jr_table.specs.Context.{Context}
use Rattle.jr_spell.specs.declared.references.RefForm.TheVariants as ref
use Rattle.jr_spell.specs.declared.spellings.Form.{Form}
use Rattle.jr_spell.specs.References.{Reference, Operand}
use Rattle.jr_spell.specs.ReferenceView.{reference_of}
use Rattle.jr_spell.specs.Taken.{IsTaken, NoneBinds}
use Rattle.jr_rewrite.specs.Respellings.{Choice, loses}
use Rattle.jr_images.specs.Words.{InFront}
use Rattle.jr_new_words.specs.Mappings.{Mapping, rows_to, scope_to, StandsSo}
use Rattle.jr_images.specs.Spelling.{spelled, renamed, reference, operand_of, behind_words}
use Rattle.jr_new_words.specs.declared.asking.Asked as raw

-- a reference as it is asked: the image of its declaration, and the name of that
pub record Asked : Type 0 where
  pub reference : Reference
  pub target : Decl
  pub name : List ℕ

abbrev pub asked_of : raw.Asked → (target : Decl) → Asked
asked_of a d = record { reference = reference_of a.reference; target = d; name = a.name }

abbrev pub asked : Reference → Decl → List ℕ → Asked
asked r d name = record { reference = r; target = d; name = name }

module _ (rows : List Row) (s : Scope) (a : Asked) where
  -- the choice of the form that is taken; none where none binds
  abbrev pub Takes : (old : List ℕ) → Option Choice → Type 0
  Takes old (Some h) = (f : Form) × IsTaken rows s a.reference a.target f
      × (h ≡ spelled old a.name (class_of a.target) f)
  Takes old None = NoneBinds rows s a.reference a.target

  -- that choice; or else the loss of the old declaration, with what the asked one finds
  abbrev pub SpellsAt : (at : ℕ) → (old : List ℕ) → Decl → (Finds : Found → Type 0) → Choice
      → Type 0
  SpellsAt at old d Finds h = ((f : Form) × IsTaken rows s a.reference a.target f
      × (h ≡ spelled old a.name (class_of a.target) f))
      ⊎ (NoneBinds rows s a.reference a.target × ((f : Found) × Finds f
      × (h ≡ loses (record { at = at; declaration = d; found = f }))))

-- the class that stands in front of a dot, if one does
abbrev pub operand_if : Option ClassKey → Option Operand
operand_if None = None
operand_if (Some k) = operand_of k

-- the same of a class in front of a dot, by words that stand so; behind a class, or not
abbrev pub TakesInFront : List Row → Scope → InFront → (on : Option ClassKey)
    → (image : ClassKey) → (old : List ℕ) → Option Choice → Type 0
TakesInFront rows s w on k old o =
    Takes rows s (asked (behind_words w (reference ref.ClassInFront k.name (operand_if on) []))
    (class_decl k) k.name) old o

-- by the words that its name finds
abbrev pub TakesByName : List Row → Mapping → Context → (Finds : List ℕ → Found → Type 0)
    → (on : Option ClassKey) → (image : ClassKey) → (old : List ℕ) → Option Choice → Type 0
TakesByName rows g c Finds on k old o = (w : InFront)
    × ((f : Found) × Finds k.name f × StandsSo rows g c f w)
    × TakesInFront (rows_to g rows) (scope_to g c) w on k old o

-- the loss of a class, with what is found
abbrev pub LosesByName : (Finds : Found → Type 0) → (at : ℕ) → ClassKey → Choice → Type 0
LosesByName Finds at k h = (f : Found) × Finds f
    × (h ≡ loses (record { at = at; declaration = class_decl k; found = f }))

-- the image's name where the image is what is found; or else the loss
abbrev pub RenamesOrLoses : (at : ℕ) → (old : List ℕ) → (k image : ClassKey) → Found → Choice
    → Type 0
RenamesOrLoses at old k image f h =
    ((f ≡ one (class_decl image)) × (h ≡ renamed old image.name))
    ⊎ (((f ≡ one (class_decl image)) → ⊥)
    × (h ≡ loses (record { at = at; declaration = class_decl k; found = f })))
