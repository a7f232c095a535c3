-- How each kept reference is spelled where keys are mapped so: `jr_images: Spelling` over that region.
use Rattle.std.specs.Prelude.{ℕ, List}
use Rattle.jr_ast.specs.Tree as tree
use Rattle.jr_table.specs.Keys.{ClassKey}
use Rattle.jr_table.specs.Decls.{Decl}
use Rattle.jr_table.specs.Rows.{Row}
use Rattle.jr_table.specs.Found.{Found}
use Rattle.jr_table.specs.Scope.{Scope}
use Rattle.jr_table.specs.Context.{Context}
use Rattle.jr_table.specs.Binding.{Role}
use Rattle.jr_spell.specs.References.{Reference}
use Rattle.jr_rewrite.specs.Respellings.{Choice}
use Rattle.jr_rewrite.specs.Rewrites.{Choosing}
use Rattle.jr_images.specs.Spelling as region
use Rattle.jr_images.specs.Words.{InFront, AreWords}
use Rattle.jr_new_words.specs.Mappings.{Mapping, seen_of, region_of}

module _ {A : Type 0} (rows : List Row) (g : Mapping) (c : Context) where
  abbrev pub WordsStand : tree.Exp A → ClassKey → InFront → Type 0
  WordsStand = AreWords rows (seen_of rows g) c

module _ {A : Type 0} (begins : A → ℕ → ℕ) (rows : List Row) (g : Mapping) where
  abbrev pub Spells : Scope → (at : ℕ) → (old new : List ℕ) → (d image : Decl) → Reference
      → (Finds : Found → Type 0) → Choice → Type 0
  Spells = region.TakenChoice begins rows (region_of rows g)

  abbrev pub VariableSpells : Context → (at : ℕ) → (old : List ℕ) → Choice → Type 0
  VariableSpells = region.VariableChoice begins rows (region_of rows g)

  abbrev pub ClassSpells : Context → Role → (at : ℕ) → (old : List ℕ) → Choice → Type 0
  ClassSpells = region.ClassChoice begins rows (region_of rows g)

  abbrev pub FieldSpells : Context → (at : ℕ) → tree.Exp A → (old : List ℕ) → Choice → Type 0
  FieldSpells = region.FieldChoice begins rows (region_of rows g)

  abbrev pub MemberClassSpells : Context → Role → (at : ℕ) → tree.Exp A → (old : List ℕ)
      → Choice → Type 0
  MemberClassSpells = region.MemberClassChoice begins rows (region_of rows g)

  abbrev pub SuperFieldSpells : Context → (at : ℕ) → (old : List ℕ) → Choice → Type 0
  SuperFieldSpells = region.SuperFieldChoice begins rows (region_of rows g)

  abbrev pub SimpleCallSpells : Context → (at : ℕ) → (old : List ℕ) → tree.Exps A → Choice → Type 0
  SimpleCallSpells = region.SimpleCallChoice begins rows (region_of rows g)

  abbrev pub CallSpells : Context → (at : ℕ) → tree.Exp A → (old : List ℕ) → tree.Exps A
      → Choice → Type 0
  CallSpells = region.CallChoice begins rows (region_of rows g)

  abbrev pub SuperCallSpells : Context → (at : ℕ) → (old : List ℕ) → tree.Exps A → Choice → Type 0
  SuperCallSpells = region.SuperCallChoice begins rows (region_of rows g)

  abbrev pub SuperCtorSpells : (super_at : ℕ) → Context → tree.Exps A → Choice → Type 0
  SuperCtorSpells = region.SuperCtorChoice begins rows (region_of rows g)

  abbrev pub spelling : (super_at : Context → ℕ) → Choosing A
  spelling = region.choosing begins rows (region_of rows g)
