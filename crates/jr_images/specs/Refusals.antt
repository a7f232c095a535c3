-- Methods of the prelude that a rename would change, and which of the losses of its files is the
-- first.
use Rattle.std.specs.Prelude.{◌≡◌, ℕ, ◌<◌, ◌≤◌, ◌⊎◌, List, ◌∷◌, ◌++◌, Some, slice_get, All}
use Rattle.jr_table.specs.Keys.{MethodKey}
use Rattle.jr_table.specs.Decls.{Decl, method_decl}
use Rattle.jr_table.specs.Rows.{Row}
use Rattle.jr_table.specs.ExpressionRules.{IsObjectMethod}
use Rattle.jr_names.specs.DeclTexts.{decl_text}
use Rattle.jr_rewrite.specs.Respellings.{Loss}
use Rattle.jr_rewrite.specs.Rewritten.{Rewritten}
use Rattle.jr_images.specs.Targets.{IsOfPrelude}
use Rattle.jr_images.specs.Families.{InFamily}

-- ---- methods of the prelude

abbrev pub IsMethod : Decl → Type 0
IsMethod (method_decl k) = Unit {0}
IsMethod _ = ⊥

-- The family has a method of the prelude, whose text is told; or else a method is to get the name
-- of one of Object's, which is told (JLS 4.3.2).
abbrev pub HasPreludeMethod : List Row → Decl → (text : List ℕ) → Type 0
HasPreludeMethod rows (method_decl k) text = (m : MethodKey) × InFamily rows k m
    × IsOfPrelude rows (method_decl m) × (text ≡ decl_text (method_decl m))
HasPreludeMethod rows _ text = ⊥

abbrev pub ChangesPrelude : List Row → Decl → (new text : List ℕ) → Type 0
ChangesPrelude rows d new text = HasPreludeMethod rows d text
    ⊎ (((other : List ℕ) → HasPreludeMethod rows d other → ⊥) × IsMethod d × IsObjectMethod new
    × (text ≡ new))

-- ---- lost references

-- what is lost in the files, by the file's number
pub record IsLost {T : Type 0} (files : List (Rewritten T)) (file : ℕ) (l : Loss) : Type 0 where
  pub of : Rewritten T
  pub stands : slice_get files file ≡ Some of
  pub front : List Loss
  pub back : List Loss
  pub parts : of.losses ≡ front ++ l ∷ back

-- the first by file and place
pub record IsFirstLoss {T : Type 0} (files : List (Rewritten T)) (file : ℕ) (l : Loss) : Type 0
  where
    pub lost : IsLost files file l
    pub first_file : (i : ℕ) (m : Loss) → IsLost files i m → file ≤ i
    pub first_place : All (λ (m : Loss). l.at < m.at) lost.front
    pub others : All (λ (m : Loss). l.at ≤ m.at) lost.back
