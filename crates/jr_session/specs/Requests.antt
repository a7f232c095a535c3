-- What a step asks of a refactoring, and whether that can be asked at all.
use Rattle.std.specs.Prelude.{◌≡◌, ℕ, ◌≤◌, ◌⊎◌, List, [], ◌∷◌, Option, Some, None}
use Rattle.jr_text.specs.declared.spans.Span.{Span}
use Rattle.jr_text.specs.Edits.{Entry}
use Rattle.jr_ast.specs.MemberTree.{Unit as UnitTree}
use Rattle.jr_lex.specs.Replacing.{IsName}
use Rattle.jr_table.specs.Decls.{Decl}
use Rattle.jr_bind.specs.Programs.{Program}
use Rattle.jr_names.specs.Refusals.{Refusal, bad_place, bad_name}
use Rattle.jr_rewrite.specs.Rewritten.{Rewritten}
use Rattle.jr_images.specs.Regions.{Images}
use Rattle.jr_plan.specs.Reasons.{images_in}
use Rattle.jr_plan.specs.Transforms.{Refactoring}
use Rattle.jr_sources.specs.Asking.{CanStand}

-- a refactoring that is asked for: one record for each
pub record Request : Type 1 where
  pub file : List ℕ
  -- offsets in the file's text, in the order of the step
  pub places : List ℕ
  -- the new name, if there is one
  pub name : Option (List ℕ)
  -- the refactoring of a program in which the file, of this number, has this text
  pub refactoring : Program Span → (text : List ℕ) → (number : ℕ) → Refactoring
  -- what it promises besides of the program behind it, where it finds this, makes these files by
  -- these edits, and renames these pairs
  pub Keeps : (p : Program Span) → (text : List ℕ) → (number : ℕ)
      → (refactoring p text number).Found → (files : List (Rewritten (UnitTree Span)))
      → (edits : List (List Entry)) → (pairs : List (Decl × Decl)) → (q : Program Span) → Type 0

-- what becomes of keys and rows, where it finds this
abbrev pub images_by : (ask : Request) → (p : Program Span) → (text : List ℕ) → (number : ℕ)
    → (ask.refactoring p text number).Found → Images
images_by ask p text number found = images_in ((ask.refactoring p text number).transform found)

-- what a step asks for: a refactoring, or none
pub data Asks : Type 1 where
  refactors : Request → Asks
  nothing : Asks

-- ---- places

-- each offset is a character's beginning or the text's end
abbrev pub CanAllStand : (text : List ℕ) → (places : List ℕ) → Type 0
CanAllStand text [] = Unit {0}
CanAllStand text (at ∷ places) = CanStand text at × CanAllStand text places

-- none is greater than the next
abbrev pub AreInOrder : List ℕ → Type 0
AreInOrder [] = Unit {0}
AreInOrder (from ∷ []) = Unit {0}
AreInOrder (from ∷ to ∷ places) = (from ≤ to) × AreInOrder (to ∷ places)

abbrev pub AreGoodPlaces : (text : List ℕ) → (places : List ℕ) → Type 0
AreGoodPlaces text places = CanAllStand text places × AreInOrder places

-- the first that can't stand
abbrev pub IsFirstBad : (text : List ℕ) → (places : List ℕ) → (at : ℕ) → Type 0
IsFirstBad text [] at = ⊥
IsFirstBad text (from ∷ places) at = ((CanStand text from → ⊥) × (at ≡ from))
    ⊎ (CanStand text from × IsFirstBad text places at)

abbrev pub IsFirst : (places : List ℕ) → (at : ℕ) → Type 0
IsFirst [] at = ⊥
IsFirst (from ∷ places) at = at ≡ from

-- refusal 2: that one is told, or where all can stand, but not in this order, the first
abbrev pub IsBadPlace : (text : List ℕ) → (places : List ℕ) → (at : ℕ) → Type 0
IsBadPlace text places at = IsFirstBad text places at
    ⊎ (CanAllStand text places × (AreInOrder places → ⊥) × IsFirst places at)

-- ---- names (JLS 3.8)

abbrev pub IsGoodName : Option (List ℕ) → Type 0
IsGoodName None = Unit {0}
IsGoodName (Some name) = IsName name

-- refusal 3
abbrev pub IsBadName : Option (List ℕ) → (told : List ℕ) → Type 0
IsBadName None told = ⊥
IsBadName (Some name) told = (IsName name → ⊥) × (told ≡ name)

-- ---- 2 and 3, in this order

-- it can't be asked for: an offset is bad, or else the name is
abbrev pub CannotBeAsked : (file text : List ℕ) → (places : List ℕ) → Option (List ℕ) → Refusal
    → Type 0
CannotBeAsked file text places name r =
    ((at : ℕ) × IsBadPlace text places at × (r ≡ bad_place file at))
    ⊎ ((told : List ℕ) × AreGoodPlaces text places × IsBadName name told × (r ≡ bad_name told))
