-- What a renaming changes that renames no class: no class, no type, no row of the prelude.
use Rattle.std.proofs.Common.{◌≡◌, ℕ, List, [], ◌∷◌, Option, Some, None, Bool, true, false, refl, sym, ap, ◌∙◌, inl, inr}
use Rattle.std.specs.Prelude.{if◌then◌else◌, ◌||◌, codes, ◌⊎◌, option_map}
use Rattle.std.specs.List.{list_any}
use Rattle.jr_ast.specs.declared.operators.ModWord.{ModWord}
use Rattle.jr_ast.specs.declared.operators.ModWord.TheVariants as word
use Rattle.jr_table.specs.Keys.{ClassKey, Ty, void, class}
use Rattle.jr_table.specs.Decls.{Decl, class_decl, method_decl, constructor_decl}
use Rattle.jr_table.specs.SameDecls.{same_decl, decl_decides}
use Rattle.jr_table.specs.Rows.{Row}
use Rattle.jr_table.specs.Prelude.{prelude_rows, class_row, ctor_row, thread_key, thread_row, top_key, object_key}
use Rattle.jr_images.specs.Families.{Among, AreRenamed, IsRenamedWith}
use Rattle.jr_images.specs.Images.{Renaming, is_renamed, name_to, class_to, type_to, types_to, row_to, rows_to, method_to}
use Rattle.jr_images.proofs.KeyImages as images
use Rattle.jr_images.proofs.KeyImages.{keeps_name}

-- what is in the list is there
pub any_among : (d : Decl) (xs : List Decl) → list_any (same_decl d) xs ≡ true → Among xs d
any_among d [] e = absurd cc
any_among d (x ∷ xs) e = by (same_decl d x) refl (λ f. any_among d xs f)
  where
    by : (b : Bool) → same_decl d x ≡ b → (list_any (same_decl d) xs ≡ true → Among xs d) → (x ≡ d) ⊎ Among xs d
    by true h go = inl (sym ((decl_decides d x).0 h))
    by false h go = inr (go (sym (ap (λ b. b || list_any (same_decl d) xs) h) ∙ e))

among_any : (d : Decl) (xs : List Decl) → Among xs d → list_any (same_decl d) xs ≡ true
among_any d [] h = absurd h
among_any d (x ∷ xs) (inl e) = ap (λ b. b || list_any (same_decl d) xs) ((decl_decides d x).1 (sym e))
among_any d (x ∷ xs) (inr h) = by (same_decl d x) (among_any d xs h)
  where
    by : (b : Bool) → list_any (same_decl d) xs ≡ true → (b || list_any (same_decl d) xs) ≡ true
    by true go = refl
    by false go = go

module _ (rows : List Row) (target : Decl) (g : Renaming) (are : AreRenamed rows target g.decls) where
  pub with_target : (d : Decl) → is_renamed g d ≡ true → IsRenamedWith rows target d
  with_target d e = (are d).0 (any_among d g.decls e)

  pub is_with : (d : Decl) → IsRenamedWith rows target d → is_renamed g d ≡ true
  is_with d h = among_any d g.decls ((are d).1 h)

  pub without_target : (d : Decl) → (IsRenamedWith rows target d → ⊥) → is_renamed g d ≡ false
  without_target d never = by (is_renamed g d) refl
    where
      by : (b : Bool) → is_renamed g d ≡ b → b ≡ false
      by true h = absurd (never (with_target d h))
      by false h = refl

-- no class gets a name, and nothing of the prelude
pub record IsStill (g : Renaming) : Type 0 where
  pub class : (k : ClassKey) → is_renamed g (class_decl k) ≡ false
  pub run : is_renamed g (method_decl (thread_key (codes "run"))) ≡ false
  pub start : is_renamed g (method_decl (thread_key (codes "start"))) ≡ false

pub gets_name : (g : Renaming) (d : Decl) (old : List ℕ) → is_renamed g d ≡ true → name_to g d old ≡ g.name
gets_name g d old h = ap (λ b. if b then g.name else old) h

module _ (g : Renaming) (still : IsStill g) where
  pub class_same : (k : ClassKey) → class_to g k ≡ k
  class_same k = images.class_same g still.class k

  pub type_same : (t : Ty) → type_to g t ≡ t
  type_same t = images.type_same g still.class t

  pub types_same : (ts : List Ty) → types_to g ts ≡ ts
  types_same ts = images.types_same g still.class ts

  thread_same : (name : List ℕ) → is_renamed g (method_decl (thread_key name)) ≡ false → method_to g (thread_key name) ≡ thread_key name
  thread_same name h = λ i. record { class = class_same (top_key (codes "Thread")) i; name = keeps_name g (method_decl (thread_key name)) name h i; params = [] }

  class_row_same : (words : List ModWord) (name : List ℕ) (parent : Option ClassKey) → option_map (class_to g) parent ≡ parent → row_to g (class_row words name parent) ≡ class_row words name parent
  class_row_same words name parent h = λ i. record { decl = class_decl (class_same (top_key name) i); modifiers = words; type = None; parent = h i; has_init = false }

  ctor_row_same : (words : List ModWord) (of : ClassKey) → row_to g (ctor_row words of) ≡ ctor_row words of
  ctor_row_same words of = λ i. record { decl = constructor_decl (record { class = class_same of i; params = [] }); modifiers = words; type = None; parent = None; has_init = false }

  thread_row_same : (words : List ModWord) (name : List ℕ) → is_renamed g (method_decl (thread_key name)) ≡ false → row_to g (thread_row words name) ≡ thread_row words name
  thread_row_same words name h = λ i. record { decl = method_decl (thread_same name h i); modifiers = words; type = Some void; parent = None; has_init = false }

  under_object : option_map (class_to g) (Some object_key) ≡ Some object_key
  under_object = ap (λ (k : ClassKey). Some k) (class_same object_key)

  pub prelude_same : rows_to g prelude_rows ≡ prelude_rows
  prelude_same = λ i.
      class_row_same [] (codes "Object") None refl i
      ∷ ctor_row_same [] object_key i
      ∷ class_row_same (word.Final ∷ []) (codes "String") (Some object_key) under_object i
      ∷ class_row_same (word.Final ∷ []) (codes "Class") (Some object_key) under_object i
      ∷ class_row_same [] (codes "Thread") (Some object_key) under_object i
      ∷ ctor_row_same [] (top_key (codes "Thread")) i
      ∷ thread_row_same (word.Public ∷ []) (codes "run") still.run i
      ∷ thread_row_same (word.Public ∷ []) (codes "start") still.start i
      ∷ []
