-- What is chosen for a reference is chosen for one that is equal to it.
use Rattle.std.proofs.Common.{◌≡◌, ℕ, List, [], subst}
use Rattle.jr_table.specs.Keys.{ClassKey, Ty}
use Rattle.jr_table.specs.Decls.{Decl, class_decl}
use Rattle.jr_table.specs.Rows.{Row}
use Rattle.jr_table.specs.Context.{Context}
use Rattle.jr_spell.specs.References.{Reference}
use Rattle.jr_rewrite.specs.Respellings.{Choice}
use Rattle.jr_new_words.specs.Mappings.{Mapping, class_to, name_to, rows_to, scope_to}
use Rattle.jr_new_words.specs.Taking.{asked, SpellsAt}
use Rattle.jr_new_words.specs.Ways.{Way, type_named, name_in, reference_by, Finds, SpellsTo, MakesType}

module _ (rows : List Row) (g : Mapping) (c : Context) (image : Decl) (w : Way) (ts : List Ty) (at : ℕ) (old : List ℕ) (d : Decl) where
  abbrev pub asked_name : List ℕ
  asked_name = name_in image (name_to g d old)

  module _ (r : Reference) (n : List ℕ) (r_is : r ≡ reference_by w asked_name ts) (n_is : n ≡ asked_name) where
    same : asked r image n ≡ asked (reference_by w asked_name ts) image asked_name
    same = λ i. record { reference = r_is i; target = image; name = n_is i }

    -- what is asked so is that reference
    pub spells_so : (h : Choice) → SpellsAt (rows_to g rows) (scope_to g c) (asked r image n) at old d (Finds (rows_to g rows) (scope_to g c) w n r.args) h → SpellsTo rows g c image w ts at old d h
    spells_so h x = subst (λ a. SpellsAt (rows_to g rows) (scope_to g c) a at old d (Finds (rows_to g rows) (scope_to g c) w a.name a.reference.args) h) same x

-- and for a class that comes with a refactoring, by keys and types that are equal to those
module _ (rows : List Row) (g : Mapping) (c : Context) (at : ℕ) (k own image : ClassKey) (ts : List Ty) where
  abbrev Spelled : (own image : ClassKey) → List Ty → Choice → Type 0
  Spelled own image ts h = SpellsTo rows g c (class_decl image) type_named ts at k.name (class_decl own) h

  pub makes_so : own ≡ k → image ≡ class_to g k → ts ≡ [] → (h : Choice) → Spelled own image ts h → MakesType rows g c at k h
  makes_so own_is image_is none h x =
      subst (λ (o : ClassKey). Spelled o (class_to g k) [] h) own_is
      (subst (λ (i : ClassKey). Spelled own i [] h) image_is
      (subst (λ (us : List Ty). Spelled own image us h) none x))
