-- Sites that are seen in another way depend on one another as before, if they are related as before.
use Rattle.std.proofs.Common.{◌≡◌, ℕ, List, map, Option, Some, None, sym, ap, subst, ◌∙◌, refl}
use Rattle.std.specs.Prelude.{◌↔◌, slice_get, option_map}
use Rattle.std.proofs.lemmas.Option.{slice_get-map}
use Rattle.jr_sync.specs.declared.sites.Site.{Site}
use Rattle.jr_sync.specs.declared.sites.DepKind.{DepKind}
use Rattle.jr_sync.specs.declared.sites.DepKind.TheVariants.{Order, Field, Sync, Flow, Anti, Output}
use Rattle.jr_sync.specs.Relations.{Related}
use Rattle.jr_flow.specs.Edges.{EdgeOf}
use Rattle.jr_flow.specs.Paths.{PathBetween}
use Rattle.jr_dependences.specs.Depends.{WritesAgain, Stops, Depends}
use Rattle.jr_dependences.proofs.Leading.{same_item}
use Rattle.jr_dependences.proofs.Stopping.{between_both}

-- an item of a mapped list comes from one of the list
pub from_mapped : {X Y : Type 0} (f : X → Y) (o : Option X) (y : Y) → option_map f o ≡ Some y → (x : X) × (o ≡ Some x) × (f x ≡ y)
from_mapped f None y e = absurd (none_some e)
  where
    none_some : {Z : Type 0} {z : Z} → None ≡ Some z → ⊥
    none_some e = cc
from_mapped f (Some x) y e = (x, refl, same_item (f x) y e)

module _ {K L M N : Type 0} (F : K → K → Type 0) (G : L → L → Type 0) (P : M → M → Type 0) (Q : N → N → Type 0) (f : Site K L → Site M N)
    (same : (kind : DepKind) (a b : Site K L) → (Related F G kind a b ↔ Related P Q kind (f a) (f b))) (sites : List (Site K L)) where
  writes_mapped : (a : Site K L) (n : ℕ) → (WritesAgain F G sites a n ↔ WritesAgain P Q (map f sites) (f a) n)
  writes_mapped a n = (forth, back)
    where
      forth : WritesAgain F G sites a n → WritesAgain P Q (map f sites) (f a) n
      forth (s, is, related) = (f s, slice_get-map f sites n ∙ ap (option_map f) is, (same Output a s).0 related)

      back : WritesAgain P Q (map f sites) (f a) n → WritesAgain F G sites a n
      back (t, is, related) =
          let p = from_mapped f (slice_get sites n) t (sym (slice_get-map f sites n) ∙ is) in
          (p.0, p.1, (same Output a p.0).1 (subst (λ (u : Site M N). Related P Q Output (f a) u) (sym p.2) related))

  stops_mapped : (kind : DepKind) (a : Site K L) (n : ℕ) → (Stops F G sites kind a n ↔ Stops P Q (map f sites) kind (f a) n)
  stops_mapped Flow a n = writes_mapped a n
  stops_mapped Order a n = (λ e. e, λ e. e)
  stops_mapped Field a n = (λ e. e, λ e. e)
  stops_mapped Sync a n = (λ e. e, λ e. e)
  stops_mapped Anti a n = (λ e. e, λ e. e)
  stops_mapped Output a n = (λ e. e, λ e. e)

  pub depends_mapped : (edges : List (ℕ × ℕ)) (kind : DepKind) (i j : ℕ) → (Depends F G sites edges kind i j ↔ Depends P Q (map f sites) edges kind i j)
  depends_mapped edges kind i j = (forth, back)
    where
      along : (a : Site K L) → (PathBetween (EdgeOf edges) (Stops F G sites kind a) i j ↔ PathBetween (EdgeOf edges) (Stops P Q (map f sites) kind (f a)) i j)
      along a = between_both (EdgeOf edges) (Stops F G sites kind a) (Stops P Q (map f sites) kind (f a)) (stops_mapped kind a) i j

      forth : Depends F G sites edges kind i j → Depends P Q (map f sites) edges kind i j
      forth (a, b, is, there, related, path) =
          (f a, f b, slice_get-map f sites i ∙ ap (option_map f) is, slice_get-map f sites j ∙ ap (option_map f) there, (same kind a b).0 related, (along a).0 path)

      back : Depends P Q (map f sites) edges kind i j → Depends F G sites edges kind i j
      back (u, v, is, there, related, path) =
          let p = from_mapped f (slice_get sites i) u (sym (slice_get-map f sites i) ∙ is) in
          let q = from_mapped f (slice_get sites j) v (sym (slice_get-map f sites j) ∙ there) in
          let near : Related P Q kind (f p.0) (f q.0) = subst (λ (x : Site M N). Related P Q kind x (f q.0)) (sym p.2) (subst (λ (y : Site M N). Related P Q kind u y) (sym q.2) related) in
          let way : PathBetween (EdgeOf edges) (Stops P Q (map f sites) kind (f p.0)) i j = subst (λ (x : Site M N). PathBetween (EdgeOf edges) (Stops P Q (map f sites) kind x) i j) (sym p.2) path in
          (p.0, q.0, p.1, q.1, (same kind p.0 q.0).1 near, (along p.0).1 way)
