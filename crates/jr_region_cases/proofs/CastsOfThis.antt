-- A cast of `this`, in code that stands where `this` has another class: the cast may be dropped in one program alone, where `this` is known to
-- have the class (`jr_runs: to_cast_this`).
use Rattle.std.proofs.Common.{◌≡◌, ℕ, List, Some, sym, subst, ◌∙◌, inl, inr, refl}
use Rattle.jr_text.specs.declared.spans.Span.{Span}
use Rattle.jr_ast.specs.Tree as tree
use Rattle.jr_runs.specs.Keys.{At}
use Rattle.jr_runs.specs.Core as core
use Rattle.jr_runs.specs.Rows as core_rows
use Rattle.jr_runs.specs.KeyMaps.{KeyMap}
use Rattle.jr_runs.specs.Sets.{NumberSet}
use Rattle.jr_runs.specs.Standing.{Self, itself, Standing}
use Rattle.jr_runs.specs.Images.{AllSpots, Among, CastOf, uncast, cast_once, SelfTo, to_cast_this}
use Rattle.jr_table.specs.Keys.{ClassKey, Ty, class}
use Rattle.jr_table.specs.Rows.{Row}
use Rattle.jr_table.specs.Context.{Context}
use Rattle.jr_rewrite.specs.Spots.{Spotted}
use Rattle.jr_rewrite.specs.Rewrites.{Choosing}
use Rattle.jr_images.specs.Regions.{Region}
use Rattle.jr_code.specs.RunKeys.{RunKeys, Place}
use Rattle.jr_code.specs.Coded.{Code, CastCode, ExpCode}
use Rattle.jr_kept_references.specs.InRegions.{rows_in, class_in, type_in}
use Rattle.jr_image_code.specs.SetImages.{through}
use Rattle.jr_image_code.specs.CodedSpots.{CastIs}

module _ {A : Type 0} (tells : A → ℕ → Span) (rows : List Row) (R : Region A) (C : Choosing A) (S : Spotted A) (c d : Context) (r : KeyMap RunKeys) (D : core_rows.Rows RunKeys) (Spot : AllSpots RunKeys) (s : Standing RunKeys) (K : NumberSet)
    (own : s.code.self ≡ itself) (k : ClassKey) (among : Among k s.code.classes) (to : r.class k ≡ class_in R k) where
  -- code that is `this`, cast or not
  old_cast : (t : Ty) (p : Place) (a : At RunKeys) (x v : Code) → x ≡ core.this a → CastCode rows t (class k) p x v → CastOf (λ z. z) s.code.classes (core.this a) v
  old_cast t p a x v this_is (inl (sure, is)) = subst (λ (z : Code). CastOf (λ z. z) s.code.classes (core.this a) z) (sym (is ∙ this_is)) uncast
  old_cast t p a x v this_is (inr (fails, (j, same, is))) =
      let key : k ≡ j = cc in
      subst (λ (z : Code). CastOf (λ z. z) s.code.classes (core.this a) z) (sym (is ∙ (λ i. core.cast (Some p) (sym key i) (this_is i)))) (cast_once (Some p) k (core.this a) among uncast)

  new_cast : (t : Ty) (q : Place) (a : At RunKeys) (z o : Code) → z ≡ core.this a → CastCode (rows_in R) t (type_in R (class k)) q z o → CastOf r.class s.code.classes (core.this a) o
  new_cast t q a z o this_is (inl (sure, is)) = subst (λ (x : Code). CastOf r.class s.code.classes (core.this a) x) (sym (is ∙ this_is)) uncast
  new_cast t q a z o this_is (inr (fails, (j, same, is))) =
      let key : class_in R k ≡ j = cc in
      subst (λ (x : Code). CastOf r.class s.code.classes (core.this a) x) (sym (is ∙ (λ i. core.cast (Some q) (sym (to ∙ key) i) (this_is i)))) (cast_once (Some q) k (core.this a) among uncast)

  cast_of_this : (b : ℕ) (m n : A) (t : Ty) → CastIs tells rows R (through r D Spot s K) C S c d b (tree.this m) (tree.this n) t (class k)
  unfolding ExpCode
  cast_of_this b m n t = inr (λ i p q x z v o old new same old_is new_is. λ A w.
      let here : At RunKeys = Some (record { member = c.member; at = (tells m b).from }) in
      let there : At RunKeys = Some (record { member = d.member; at = (tells n i).from }) in (
        A,
        w,
        to_cast_this A here (core.this there) v o (subst (λ (l : Self). SelfTo {K = RunKeys} l (core.this there)) (sym own) (there, refl)) (old_cast t p here x v old old_is)
            (new_cast (R.type_now c (tree.this m) t) q there z o new new_is),
      ))
