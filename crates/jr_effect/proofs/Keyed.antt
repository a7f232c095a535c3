-- Sites whose fields and locals are told apart by their keys are related as the pure sites are.
use Rattle.std.proofs.Common.{◌≡◌, ◌⊎◌, ℕ, false, List, [], ◌∷◌, map, Option, Some, None, sym, ap, subst, ◌∙◌, refl, inl, inr}
use Rattle.std.specs.Prelude.{◌↔◌, ◌&&◌, ◌||◌, IsTrue, option_map}
use Rattle.jr_sync.specs.declared.kinds.Kind.{Kind}
use Rattle.jr_sync.specs.declared.sites.Site.{Site}
use Rattle.jr_sync.specs.declared.sites.Site.TheVariants.{Read, Write, Access, Check, Call, Loop}
use Rattle.jr_sync.specs.declared.sites.DepKind.{DepKind}
use Rattle.jr_sync.specs.declared.sites.DepKind.TheVariants.{Order, Field, Sync, Flow, Anti, Output}
use Rattle.jr_sync.specs.Grid.{is_allowed}
use Rattle.jr_sync.specs.Sites.{is_wild, is_access, is_store, kind_of, field_of, read_of, written_of}
use Rattle.jr_sync.specs.Relations.{Agree, is_ordered, Related}
use Rattle.jr_table.specs.declared.keys.FieldKey as raw_field
use Rattle.jr_table.specs.declared.decls.LocalKey as raw_local
use Rattle.jr_table.specs.Keys.{FieldKey}
use Rattle.jr_table.specs.Decls.{LocalKey}
use Rattle.jr_table.specs.KeyView.{field_key_of, local_key_of}
use Rattle.jr_sites.specs.declared.sites.PlacedSite as raw
use Rattle.jr_sites.specs.SiteView.{site_of, sites_in}
use Rattle.jr_dependences.specs.declared.dependence.Dependence.{Dependence}
use Rattle.jr_dependences.specs.Depends.{DependsIn}
use Rattle.jr_dependences.proofs.Mapped.{depends_mapped}
use Rattle.jr_effect.specs.Plain.{Same}

abbrev Own : Type 0
Own = Site raw_field.FieldKey raw_local.LocalKey

module _ {X Y : Type 0} (R : X → X → Type 0) (f : X → Y) (same : (x y : X) → (R x y ↔ (f x ≡ f y))) where
  agree_forth : (o p : Option X) → Agree R o p → Agree Same (option_map f o) (option_map f p)
  agree_forth None p a = absurd a
  agree_forth (Some x) None a = absurd a
  agree_forth (Some x) (Some y) a = (same x y).0 a

  agree_back : (o p : Option X) → Agree Same (option_map f o) (option_map f p) → Agree R o p
  agree_back None p a = absurd a
  agree_back (Some x) None a = absurd a
  agree_back (Some x) (Some y) a = (same x y).1 a

  -- where the mapped ones have another form
  pub agree_both : (o p : Option X) (u v : Option Y) → u ≡ option_map f o → v ≡ option_map f p → (Agree R o p ↔ Agree Same u v)
  agree_both o p u v is there = (
    λ a. subst (λ (w : Option Y). Agree Same w v) (sym is) (subst (λ (w : Option Y). Agree Same (option_map f o) w) (sym there) (agree_forth o p a)),
    λ a. agree_back o p (subst (λ (w : Option Y). Agree Same w (option_map f p)) is (subst (λ (w : Option Y). Agree Same u w) there a)),
  )

wild_is : (a : Own) → is_wild (site_of a) ≡ is_wild a
wild_is (Read l) = refl
wild_is (Write l) = refl
wild_is (Access k f) = refl
wild_is Check = refl
wild_is Call = refl
wild_is Loop = refl

access_is : (a : Own) → is_access (site_of a) ≡ is_access a
access_is (Read l) = refl
access_is (Write l) = refl
access_is (Access k f) = refl
access_is Check = refl
access_is Call = refl
access_is Loop = refl

store_is : (a : Own) → is_store (site_of a) ≡ is_store a
store_is (Read l) = refl
store_is (Write l) = refl
store_is (Access k f) = refl
store_is Check = refl
store_is Call = refl
store_is Loop = refl

kind_is : (a : Own) → kind_of (site_of a) ≡ kind_of a
kind_is (Read l) = refl
kind_is (Write l) = refl
kind_is (Access k f) = refl
kind_is Check = refl
kind_is Call = refl
kind_is Loop = refl

field_is : (a : Own) → field_of (site_of a) ≡ option_map field_key_of (field_of a)
field_is (Read l) = refl
field_is (Write l) = refl
field_is (Access k f) = refl
field_is Check = refl
field_is Call = refl
field_is Loop = refl

read_is : (a : Own) → read_of (site_of a) ≡ option_map local_key_of (read_of a)
read_is (Read l) = refl
read_is (Write l) = refl
read_is (Access k f) = refl
read_is Check = refl
read_is Call = refl
read_is Loop = refl

written_is : (a : Own) → written_of (site_of a) ≡ option_map local_key_of (written_of a)
written_is (Read l) = refl
written_is (Write l) = refl
written_is (Access k f) = refl
written_is Check = refl
written_is Call = refl
written_is Loop = refl

module _ (F : raw_field.FieldKey → raw_field.FieldKey → Type 0) (G : raw_local.LocalKey → raw_local.LocalKey → Type 0)
    (same_field : (x y : raw_field.FieldKey) → (F x y ↔ (field_key_of x ≡ field_key_of y))) (same_local : (x y : raw_local.LocalKey) → (G x y ↔ (local_key_of x ≡ local_key_of y))) where
  ordered_is : (a b : Own) → is_ordered (site_of a) (site_of b) ≡ is_ordered a b
  ordered_is a b = λ i. (wild_is a i && (wild_is b i || access_is b i)) || (access_is a i && wild_is b i)

  stores_forth : (a b : Own) → (IsTrue (is_store a) ⊎ IsTrue (is_store b)) → IsTrue (is_store (site_of a)) ⊎ IsTrue (is_store (site_of b))
  stores_forth a b (inl e) = inl (store_is a ∙ e)
  stores_forth a b (inr e) = inr (store_is b ∙ e)

  stores_back : (a b : Own) → (IsTrue (is_store (site_of a)) ⊎ IsTrue (is_store (site_of b))) → IsTrue (is_store a) ⊎ IsTrue (is_store b)
  stores_back a b (inl e) = inl (sym (store_is a) ∙ e)
  stores_back a b (inr e) = inr (sym (store_is b) ∙ e)

  pub related_keyed : (kind : DepKind) (a b : Own) → (Related F G kind a b ↔ Related Same Same kind (site_of a) (site_of b))
  related_keyed Order a b = (λ e. ordered_is a b ∙ e, λ e. sym (ordered_is a b) ∙ e)
  related_keyed Field a b =
      let both = agree_both F field_key_of same_field (field_of a) (field_of b) (field_of (site_of a)) (field_of (site_of b)) (field_is a) (field_is b) in
      (λ h. (both.0 h.0, stores_forth a b h.1), λ h. (both.1 h.0, stores_back a b h.1))
  related_keyed Sync a b = (
    λ h. subst (λ (o : Option Kind). Agree (λ k l. is_allowed k l ≡ false) o (kind_of (site_of b))) (sym (kind_is a)) (subst (λ (o : Option Kind). Agree (λ k l. is_allowed k l ≡ false) (kind_of a) o) (sym (kind_is b)) h),
    λ h. subst (λ (o : Option Kind). Agree (λ k l. is_allowed k l ≡ false) o (kind_of b)) (kind_is a) (subst (λ (o : Option Kind). Agree (λ k l. is_allowed k l ≡ false) (kind_of (site_of a)) o) (kind_is b) h),
  )
  related_keyed Flow a b = agree_both G local_key_of same_local (written_of a) (read_of b) (written_of (site_of a)) (read_of (site_of b)) (written_is a) (read_is b)
  related_keyed Anti a b = agree_both G local_key_of same_local (read_of a) (written_of b) (read_of (site_of a)) (written_of (site_of b)) (read_is a) (written_is b)
  related_keyed Output a b = agree_both G local_key_of same_local (written_of a) (written_of b) (written_of (site_of a)) (written_of (site_of b)) (written_is a) (written_is b)

map_both : {X Y Z : Type 0} (f : Y → Z) (g : X → Y) (xs : List X) → map f (map g xs) ≡ map (λ x. f (g x)) xs
map_both f g [] = refl
map_both f g (x ∷ xs) = λ i. f (g x) ∷ map_both f g xs i

-- a row of references to sites, as the dependences of what they point to
pub depends_keyed : (F : raw_field.FieldKey → raw_field.FieldKey → Type 0) (G : raw_local.LocalKey → raw_local.LocalKey → Type 0)
    → ((x y : raw_field.FieldKey) → (F x y ↔ (field_key_of x ≡ field_key_of y))) → ((x y : raw_local.LocalKey) → (G x y ↔ (local_key_of x ≡ local_key_of y)))
    → (sites : List raw.PlacedSite) (row : List Own) → row ≡ map (λ s. s.site) sites → (edges : List (ℕ × ℕ)) (d : Dependence)
    → (DependsIn F G row edges d ↔ DependsIn Same Same (sites_in sites) edges d)
depends_keyed F G same_field same_local sites row is edges d =
    let both = depends_mapped F G Same Same site_of (related_keyed F G same_field same_local) row edges d.kind d.first d.second in
    subst (λ (all : List (Site FieldKey LocalKey)). DependsIn F G row edges d ↔ DependsIn Same Same all edges d)
    (ap (λ r. map site_of r) is ∙ map_both site_of (λ (s : raw.PlacedSite). s.site) sites) both
