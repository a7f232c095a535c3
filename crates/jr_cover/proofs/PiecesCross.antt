-- Where the footprints of two pieces cross, each action of the one and each of the other may change
-- places.
use Rattle.std.proofs.Common.{◌≡◌, ◌⊎◌, ℕ, zero, suc, Bool, true, false, List, [], ◌∷◌, Option, Some, None, refl, sym, ap, ◌∙◌, inl, inr, ⊎_elim}
use Rattle.jr_sync.specs.declared.kinds.Kind.{Kind}
use Rattle.jr_sync.specs.declared.sites.DepKind.TheVariants.{Field, Sync}
use Rattle.jr_sync.specs.Grid.{is_allowed}
use Rattle.jr_runs.specs.Keys.{Keys}
use Rattle.jr_runs.specs.Actions.{Location, part, shared, Action}
use Rattle.jr_runs.specs.Rows.{Rows}
use Rattle.jr_runs.specs.Reordering.{kind_of, stores, location_of, Free}
use Rattle.jr_cover.specs.Sites as sites
use Rattle.jr_cover.specs.Sites.{What}
use Rattle.jr_cover.specs.Covering.{site_at, OfField}
use Rattle.jr_cover.specs.Dependences.{Access, access, access_of}
use Rattle.jr_cover.specs.Crossing as crossing
use Rattle.jr_cover.specs.Crossing.{IsStore, OfOneField, Crosses}
use Rattle.jr_cover.specs.Footprints.{seen, footprint, CrossingPiecesAreFree}
use Rattle.jr_cover.proofs.Depending.{Accesses, accessed, store_or_still, still_second}

module _ {K : Keys} (R : Rows K) where
  seen_at : (all : List (sites.Site K)) (i : ℕ) (a : sites.Site K) → site_at all i ≡ Some a → site_at (footprint R all) i ≡ Some (seen R a.what)
  seen_at [] i a e = absurd (apart a e)
    where
      apart : {S : Type 0} (s : S) → None ≡ Some s → ⊥
      apart s j = cc
  seen_at (s ∷ all) zero a e = ap (λ (z : Option (sites.Site K)). seen_of z) e
    where
      seen_of : Option (sites.Site K) → Option (crossing.Site K.field ℕ)
      seen_of None = None
      seen_of (Some z) = Some (seen R z.what)
  seen_at (s ∷ all) (suc i) a e = seen_at all i a e

  none_access : {B : Type 0} (x : Access K) → None ≡ Some x → B
  none_access x e = absurd (apart x e)
    where
      apart : {S : Type 0} (s : S) → None ≡ Some s → ⊥
      apart s j = cc

  abbrev an_access : Kind → Option K.field → Option (Access K)
  an_access k f = Some (access k f)

  abbrev as_site : Kind → Option K.field → crossing.Site K.field ℕ
  as_site k f = crossing.access k f

  one_kind : (k l : Kind) (f g : Option K.field) → an_access k f ≡ an_access l g → as_site k f ≡ as_site l g
  one_kind k l f g e = ap (λ z. crossed z) e
    where
      crossed : Option (Access K) → crossing.Site K.field ℕ
      crossed None = crossing.checks
      crossed (Some (access k f)) = crossing.access k f

  as_access : (w : What K) (k : Kind) (f : Option K.field) → access_of R w ≡ Some (access k f) → seen R w ≡ crossing.access k f
  as_access (sites.reads n) k f e = none_access (access k f) e
  as_access (sites.writes n) k f e = none_access (access k f) e
  as_access (sites.loads g) k f e = one_kind _ k _ f e
  as_access (sites.stores g) k f e = one_kind _ k _ f e
  as_access sites.enters k f e = one_kind _ k _ f e
  as_access sites.exits k f e = one_kind _ k _ f e
  as_access sites.creates k f e = one_kind _ k _ f e
  as_access sites.checks k f e = none_access (access k f) e
  as_access sites.calls k f e = none_access (access k f) e
  as_access sites.loops k f e = none_access (access k f) e

  bool_apart : {B : Type 0} → true ≡ false → B
  bool_apart e = absurd (apart e)
    where
      apart : true ≡ false → ⊥
      apart j = cc

  otherwise_true : (b : Bool) → (b ≡ false → ⊥) → b ≡ true
  otherwise_true true n = refl
  otherwise_true false n = absurd (n refl)

  otherwise_false : (b : Bool) → (b ≡ true → ⊥) → b ≡ false
  otherwise_false true n = absurd (n refl)
  otherwise_false false n = refl

  -- the field of a location
  abbrev field_at : Location K → K.field
  field_at (part o f) = f
  field_at (shared f) = f

  its_field : (l : Location K) → OfField l (field_at l)
  its_field (part o f) = refl
  its_field (shared f) = refl

  module _ (before behind : List (sites.Site K)) (cross : Crosses (footprint R before) (footprint R behind)) (i j : ℕ) (a b : sites.Site K) (x y : Action K)
      (at_i : site_at before i ≡ Some a) (at_j : site_at behind j ≡ Some b) (m : Accesses R a.what x) (n : Accesses R b.what y) where
    abbrev first : crossing.Site K.field ℕ
    first = crossing.access (kind_of x) m.field

    abbrev second : crossing.Site K.field ℕ
    second = crossing.access (kind_of y) n.field

    first_at : site_at (footprint R before) i ≡ Some first
    first_at = seen_at before i a at_i ∙ ap (λ z. Some z) (as_access a.what (kind_of x) m.field m.is)

    second_at : site_at (footprint R behind) j ≡ Some second
    second_at = seen_at behind j b at_j ∙ ap (λ z. Some z) (as_access b.what (kind_of y) n.field n.is)

    apart_fields : OfOneField first second → ⊥
    apart_fields h = cross.accesses i j Field (first, second, first_at, second_at, inl (refl, h))

    allowed : is_allowed (kind_of x) (kind_of y) ≡ true
    allowed = otherwise_true (is_allowed (kind_of x) (kind_of y)) (λ e. cross.accesses i j Sync (first, second, first_at, second_at, inr (refl, apart_fields, e)))

    of_one : (l : Location K) → location_of x ≡ Some l → location_of y ≡ Some l → IsStore (kind_of x) ⊎ IsStore (kind_of y) → ⊥
    of_one l e f s = apart_fields (field_at l, m.of l (field_at l) e (its_field l), n.of l (field_at l) f (its_field l), s)

    free : Free x y
    free = record {
      allowed = allowed;
      apart = λ l e f. (
        otherwise_false (stores x) (λ s. ⊎_elim (λ k. of_one l e f (inl k)) (λ k. bool_apart (sym allowed ∙ ap (λ z. is_allowed z (kind_of y)) k)) (store_or_still R x s)),
        otherwise_false (stores y) (λ s. ⊎_elim (λ k. of_one l e f (inr k)) (λ k. bool_apart (sym allowed ∙ ap (λ z. is_allowed (kind_of x) z) k ∙ still_second R (kind_of x))) (store_or_still R y s)),
      );
    }

pub crossing_pieces_are_free : {C F M N L : Type 0} → CrossingPiecesAreFree C F M N L
crossing_pieces_are_free R before behind cross i j a b x y e f d g =
    free R before behind cross i j a b x.action y.action e f (accessed R a.what x.action d.1) (accessed R b.what y.action g.1)
