-- What follows edges and may not change places depends on one another.
use Rattle.std.proofs.Common.{◌≡◌, ◌⊎◌, ℕ, true, false, List, Option, Some, None, refl, sym, ap, subst, ◌∙◌, inl, inr, ⊎_elim}
use Rattle.jr_sync.specs.declared.kinds.Kind.{Kind}
use Rattle.jr_sync.specs.declared.kinds.Kind.TheVariants.{Load, Store, VolatileLoad, VolatileStore, Enter, Exit, Still}
use Rattle.jr_sync.specs.declared.sites.DepKind.TheVariants.{Field, Sync}
use Rattle.jr_sync.specs.Grid.{is_allowed}
use Rattle.jr_plans.specs.Numbered.{Numbered}
use Rattle.jr_runs.specs.Keys.{Keys}
use Rattle.jr_runs.specs.Actions.{plain, volatile, final, Location, part, shared, Action, load, store, enter, exit, create, start, Event}
use Rattle.jr_runs.specs.Rows.{Rows}
use Rattle.jr_runs.specs.Reordering.{load_kind, store_kind, kind_of, stores, location_of}
use Rattle.jr_cover.specs.Paths.{Path}
use Rattle.jr_cover.specs.Paths as paths
use Rattle.jr_cover.specs.Ways.{Way, sites_of, Edge}
use Rattle.jr_cover.specs.Sites.{What, reads, writes, loads, enters, exits, creates, checks, calls, loops, Site}
use Rattle.jr_cover.specs.Sites as sites
use Rattle.jr_cover.specs.Covering.{site_at, Does, OfField, FollowEdges}
use Rattle.jr_cover.specs.Crossing.{IsStore}
use Rattle.jr_cover.specs.Dependences.{PathBetween, edge, onward, access, access_of, Stops, Depends, OneFieldActions, Cover}

module _ {K : Keys} (R : Rows K) where
  -- the access of a site has its action's kind; and its field, where it has a location
  pub record Accesses (a : What K) (x : Action K) : Type 0 where
    pub field : Option K.field
    pub is : access_of R a ≡ Some (access (kind_of x) field)
    pub of : (l : Location K) (f : K.field) → location_of x ≡ Some l → OfField l f → field ≡ Some f

  located : (l m : Location K) (f g : K.field) → Some l ≡ Some m → OfField l f → OfField m g → f ≡ g
  located l m f g e h k = same_field l f g h (subst (λ z. OfField z g) (sym (one e)) k)
    where
      one : Some l ≡ Some m → l ≡ m
      one i = cc

      same_field : (l : Location K) (f g : K.field) → OfField l f → OfField l g → f ≡ g
      same_field (part o a) f g h k = sym h ∙ k
      same_field (shared a) f g h k = sym h ∙ k

  none_some : {B : Type 0} (l : Location K) → None ≡ Some l → B
  none_some l e = absurd (apart e)
    where
      apart : None ≡ Some l → ⊥
      apart i = cc

  pub accessed : (a : What K) (x : Action K) → Does R a x → Accesses a x
  accessed (loads f) (load kind from v) d = record { field = Some f; is = ap (λ k. Some (access (load_kind k) (Some f))) (sym d.0); of = λ l g e h. ap (λ z. Some z) (located from l f g e d.1 h) }
  accessed (sites.stores f) (store kind to v) d = record { field = Some f; is = ap (λ k. Some (access (store_kind k) (Some f))) (sym d.0); of = λ l g e h. ap (λ z. Some z) (located to l f g e d.1 h) }
  accessed enters (enter o) d = record { field = None; is = refl; of = λ l g e h. none_some l e }
  accessed exits (exit o) d = record { field = None; is = refl; of = λ l g e h. none_some l e }
  accessed creates (create o) d = record { field = None; is = refl; of = λ l g e h. none_some l e }
  accessed w x d = absurd d

  between : {E : ℕ → ℕ → Type 0} (S : ℕ → Type 0) → ((k : ℕ) → S k → ⊥) → (i j : ℕ) → Path E i j → PathBetween E S i j
  between S n i j (paths.edge a b e) = edge a b e
  between S n i j (paths.onward a b c e p) = onward a b c e (n b) (between S n b c p)

  no_store : {B : Type 0} → false ≡ true → B
  no_store e = absurd (apart e)
    where
      apart : false ≡ true → ⊥
      apart i = cc

  pub store_or_still : (x : Action K) → stores x ≡ true → IsStore (kind_of x) ⊎ (kind_of x ≡ Still)
  store_or_still (store plain to v) e = inl tt
  store_or_still (store volatile to v) e = inl tt
  store_or_still (store final to v) e = inr refl
  store_or_still (load kind from v) e = no_store e
  store_or_still (enter o) e = no_store e
  store_or_still (exit o) e = no_store e
  store_or_still (create o) e = no_store e
  store_or_still (start o v) e = no_store e

  pub still_second : (k : Kind) → is_allowed k Still ≡ false
  still_second Load = refl
  still_second Store = refl
  still_second VolatileLoad = refl
  still_second VolatileStore = refl
  still_second Enter = refl
  still_second Exit = refl
  still_second Still = refl

  pub covers : (Outside : K.place → Type 0) (w : Way (Site K)) (trace : List (Numbered (Event K))) → FollowEdges R Outside w trace → Cover R Outside w trace
  covers Outside w trace follow t u v x y e same nx ny =
      let d = follow t u v x y e same nx ny in (
        d.0,
        d.1,
        d.2,
        d.3,
        d.4,
        d.5,
        d.6,
        d.7,
        d.8,
        by_grid d.0 d.1 d.2 d.3 d.4 d.5 (accessed d.2.what x.action.action d.6.1) (accessed d.3.what y.action.action d.7.1) d.8,
        by_field d.0 d.1 d.2 d.3 d.4 d.5 (accessed d.2.what x.action.action d.6.1) (accessed d.3.what y.action.action d.7.1) d.8,
      )
    where
      by_grid : (i j : ℕ) (a b : Site K) → site_at (sites_of w) i ≡ Some a → site_at (sites_of w) j ≡ Some b → Accesses a.what x.action.action → Accesses b.what y.action.action → Path (Edge 0 w) i j
          → is_allowed (kind_of x.action.action) (kind_of y.action.action) ≡ false → Depends R (sites_of w) (Edge 0 w) Sync i j
      by_grid i j a b ei ej m n p g = (a, b, ei, ej, (kind_of x.action.action, kind_of y.action.action, m.field, n.field, m.is, n.is, g), between (λ k. Stops (sites_of w) Sync a.what k) (λ k s. s) i j p)

      by_field : (i j : ℕ) (a b : Site K) → site_at (sites_of w) i ≡ Some a → site_at (sites_of w) j ≡ Some b → Accesses a.what x.action.action → Accesses b.what y.action.action → Path (Edge 0 w) i j
          → OneFieldActions x.action.action y.action.action → Depends R (sites_of w) (Edge 0 w) Sync i j ⊎ Depends R (sites_of w) (Edge 0 w) Field i j
      by_field i j a b ei ej m n p h = ⊎_elim
          (λ s. ⊎_elim (λ k. inr (field_of (inl k))) (λ k. inl (by_grid i j a b ei ej m n p (ap (λ z. is_allowed z (kind_of y.action.action)) k))) (store_or_still x.action.action s))
          (λ s. ⊎_elim (λ k. inr (field_of (inr k))) (λ k. inl (by_grid i j a b ei ej m n p (ap (λ z. is_allowed (kind_of x.action.action) z) k ∙ still_second (kind_of x.action.action)))) (store_or_still y.action.action s)) h.7
        where
          field_of : IsStore (kind_of x.action.action) ⊎ IsStore (kind_of y.action.action) → Depends R (sites_of w) (Edge 0 w) Field i j
          field_of k = (
            a,
            b,
            ei,
            ej,
            (
              kind_of x.action.action,
              kind_of y.action.action,
              h.2,
              m.is ∙ ap (λ z. Some (access (kind_of x.action.action) z)) (m.of h.0 h.2 h.3 h.5),
              n.is ∙ ap (λ z. Some (access (kind_of y.action.action) z)) (n.of h.1 h.2 h.4 h.6),
              k,
            ),
            between (λ q. Stops (sites_of w) Field a.what q) (λ q s. s) i j p,
          )
