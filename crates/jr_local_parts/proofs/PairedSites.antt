-- The sites of a pair, in pieces and in the footprints that these have.
use Rattle.std.proofs.Common.{◌≡◌, inl, inr, ℕ, ◌+◌, ◌<◌, List, length, map, Option, Some, None, refl, sym, ap, subst, ◌∙◌}
use Rattle.std.specs.Prelude.{slice_get, option_map}
use Rattle.std.proofs.lemmas.List.{length-map}
use Rattle.std.proofs.lemmas.Option.{slice_get-map, slice_get_within, none-some, same_Some}
use Rattle.std.proofs.lemmas.Simd.{map-map}
use Rattle.jr_text.specs.declared.spans.Place.{Place}
use Rattle.jr_sync.specs.declared.sites.DepKind.{DepKind}
use Rattle.jr_sync.specs.declared.sites.Site.{Site}
use Rattle.jr_sync.specs.declared.sites.Site.TheVariants as site
use Rattle.jr_sync.specs.Crossing.{IsCrossing}
use Rattle.jr_table.specs.declared.keys.FieldKey as raw_field
use Rattle.jr_table.specs.declared.decls.LocalKey as raw_local
use Rattle.jr_table.specs.Keys.{FieldKey}
use Rattle.jr_table.specs.Decls.{LocalKey}
use Rattle.jr_sites.specs.declared.sites.PlacedSite as raw
use Rattle.jr_sites.specs.SiteView as seen
use Rattle.jr_sites.specs.SiteView.{sites_in}
use Rattle.jr_effect.specs.Plain.{Same}
use Rattle.jr_names.specs.SiteView as named
use Rattle.jr_names.specs.Sites.{SiteAt, DepPair}
use Rattle.jr_local_moves.specs.declared.crossings.Piece as raw_piece
use Rattle.jr_local_moves.specs.Pieces.{IsPieceOf, sites_of}
use Rattle.jr_local_footprints.specs.LostPairs.{Stands, IsPair}
use Rattle.jr_local_parts.specs.PieceSites.{IsSiteOf}

-- a site is seen as one
pub seen_so : (s : Site raw_field.FieldKey raw_local.LocalKey) → seen.site_of s ≡ named.site_of s
seen_so (site.Read l) = refl
seen_so (site.Write l) = refl
seen_so (site.Access kind f) = refl
seen_so site.Check = refl
seen_so site.Call = refl
seen_so site.Loop = refl

pub found_so : (sites : List (Site raw_field.FieldKey raw_local.LocalKey)) (n : ℕ) (s : Site raw_field.FieldKey raw_local.LocalKey) → slice_get sites n ≡ Some s → slice_get (map seen.site_of sites) n ≡ Some (named.site_of s)
found_so sites n s is = slice_get-map seen.site_of sites n ∙ ap (option_map seen.site_of) is ∙ ap Some (seen_so s)

taken_from : {X Y : Type 0} (f : X → Y) (o : Option X) (y : Y) → option_map f o ≡ Some y → (x : X) × (o ≡ Some x) × (f x ≡ y)
taken_from f None y e = absurd (none-some y e)
taken_from f (Some x) y e = (x, refl, same_Some (f x) y e)

-- ---- a piece and its footprint

module _ (list : List raw.PlacedSite) (p : raw_piece.Piece) (is : IsPieceOf list p) where
  pub sites_are : sites_of p ≡ sites_in list
  sites_are = ap (map seen.site_of) is.sites ∙ map-map seen.site_of (λ (s : raw.PlacedSite). s.site) list

  pub in_sites : (n : ℕ) → n < length (sites_of p) → n < length p.sites.items
  in_sites n lt = subst (λ (k : ℕ). n < k) (length-map p.sites.items seen.site_of) lt

  pub in_places : (n : ℕ) → n < length (sites_of p) → n < length p.places.items
  in_places n lt =
      subst (λ (k : ℕ). n < k) (ap length sites_are ∙ length-map list (λ (s : raw.PlacedSite). seen.site_of s.site) ∙ sym (length-map list (λ (s : raw.PlacedSite). s.at)) ∙ ap length (sym is.places)) lt

  pub stands_there : (file start n : ℕ) (s : SiteAt) → IsSiteOf file start p n s → Stands file start list n s
  stands_there file start n s h =
      let one = taken_from (λ (x : raw.PlacedSite). seen.site_of x.site) (slice_get list n) s.site (sym (slice_get-map (λ (x : raw.PlacedSite). seen.site_of x.site) list n) ∙ ap (λ (xs : List (Site FieldKey LocalKey)). slice_get xs n) (sym sites_are) ∙ h.site) in
      let at : Some one.0.at ≡ Some h.at = sym (slice_get-map (λ (x : raw.PlacedSite). x.at) list n ∙ ap (option_map (λ (x : raw.PlacedSite). x.at)) one.1) ∙ ap (λ (xs : List ℕ). slice_get xs n) (sym is.places) ∙ h.stands in
      let same : one.0.at ≡ h.at = cc in
      record {
        of = one.0;
        stands = one.1;
        site = one.2;
        place = h.place ∙ ap (λ (k : ℕ). let there : Place = record { file = file; at = start + k } in there) (sym same);
      }

-- ---- two pieces

module _ (before moved : List raw.PlacedSite) (p q : raw_piece.Piece) (one : IsPieceOf before p) (other : IsPieceOf moved q) where
  pub crosses_so : (o : Option (ℕ × ℕ × DepKind)) → IsCrossing Same Same (sites_of p) (sites_of q) o → IsCrossing Same Same (sites_in before) (sites_in moved) o
  crosses_so o h =
      subst (λ (xs : List (Site FieldKey LocalKey)). IsCrossing Same Same xs (sites_in moved) o) (sites_are before p one)
      (subst (λ (ys : List (Site FieldKey LocalKey)). IsCrossing Same Same (sites_of p) ys o) (sites_are moved q other) h)

  -- both sites are there
  pub inside : (x : ℕ × ℕ × DepKind) → IsCrossing Same Same (sites_of p) (sites_of q) (Some x) → (x.0 < length (sites_of p)) × (x.1 < length (sites_of q))
  inside x (inl ((a, b, first, second, finds), least)) = (slice_get_within (sites_of p) x.0 a first, slice_get_within (sites_of q) x.1 b second)
  inside x (inr (inl (wild, ((a, b, first, second, finds), least)))) = (slice_get_within (sites_of p) x.0 a first, slice_get_within (sites_of q) x.1 b second)
  inside x (inr (inr (wild, accesses, ((a, b, first, second, finds), least)))) = (slice_get_within (sites_of p) x.0 a first, slice_get_within (sites_of q) x.1 b second)

  pub is_pair : (file start : ℕ) (x : ℕ × ℕ × DepKind) (d : DepPair) → IsCrossing Same Same (sites_of p) (sites_of q) (Some x) → d.kind ≡ x.2 → IsSiteOf file start p x.0 d.first → IsSiteOf file start q x.1 d.second
      → IsPair file start before moved d
  is_pair file start x d h kind first second = record {
    i = x.0;
    j = x.1;
    crossing = subst (λ (k : DepKind). IsCrossing Same Same (sites_in before) (sites_in moved) (Some (x.0, x.1, k))) (sym kind) (crosses_so (Some x) h);
    first = stands_there before p one file start x.0 d.first first;
    second = stands_there moved q other file start x.1 d.second second;
  }
