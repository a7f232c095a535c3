-- What is listed of the sites of a graph.
use Rattle.std.proofs.Common.{◌≡◌, ◌<◌, ℕ, List, length, get_or, map, arith}
use Rattle.std.specs.Prelude.{◌↔◌, All, AllPairs, Contains, IsTrue}
use Rattle.std.proofs.lemmas.List.{length-map}
use Rattle.std.proofs.lemmas.List.Elements.{Contains-get_or}
use Rattle.std.proofs.lemmas.Option.{slice_get_within}
use Rattle.jr_sync.specs.declared.sites.Site.{Site}
use Rattle.jr_table.specs.declared.keys.FieldKey as raw_field
use Rattle.jr_table.specs.declared.decls.LocalKey as raw_local
use Rattle.jr_table.specs.SameKeys.{same_field, field_decides}
use Rattle.jr_table.specs.SameDecls.{same_local, local_decides}
use Rattle.jr_table.specs.KeyView.{field_key_of, local_key_of}
use Rattle.jr_sites.specs.declared.sites.PlacedSite as raw
use Rattle.jr_sites.specs.declared.sites.SiteGraph.{SiteGraph}
use Rattle.jr_sites.specs.SiteView.{site_of, sites_in}
use Rattle.jr_dependences.specs.declared.dependence.Dependence.{Dependence}
use Rattle.jr_dependences.specs.Depends.{DependsIn}
use Rattle.jr_dependences.specs.Listed.{IsBefore}
use Rattle.jr_effect.specs.Plain.{Same}
use Rattle.jr_effect.proofs.Keyed.{depends_keyed}
use Rattle.jr_dependence_lines.specs.Tallies.{AreAll}

module _ (of : SiteGraph) where
  abbrev pub Holds : Dependence → Type 0
  Holds d = DependsIn Same Same (sites_in of.sites.items) of.graph.edges.items d

  site_count : length (sites_in of.sites.items) ≡ length of.sites.items
  site_count = length-map of.sites.items (λ (s : raw.PlacedSite). site_of s.site)

  -- sites that are told apart by their keys
  pub all_keyed : (row : List (Site raw_field.FieldKey raw_local.LocalKey)) → row ≡ map (λ (s : raw.PlacedSite). s.site) of.sites.items → (list : List Dependence) → AllPairs IsBefore list
      → ((d : Dependence) → (Contains list d ↔ DependsIn (λ x y. IsTrue (same_field (field_key_of x) (field_key_of y))) (λ x y. IsTrue (same_local (local_key_of x) (local_key_of y))) row of.graph.edges.items d))
      → AreAll of list
  all_keyed row is list ordered exact = record {
    ordered = ordered;
    exact = λ d. (λ at. (keyed d).0 ((exact d).0 at), λ holds. (exact d).1 ((keyed d).1 holds));
  }
    where
      keyed : (d : Dependence) → (DependsIn (λ x y. IsTrue (same_field (field_key_of x) (field_key_of y))) (λ x y. IsTrue (same_local (local_key_of x) (local_key_of y))) row of.graph.edges.items d ↔ Holds d)
      keyed d =
          depends_keyed (λ x y. IsTrue (same_field (field_key_of x) (field_key_of y))) (λ x y. IsTrue (same_local (local_key_of x) (local_key_of y)))
          (λ x y. field_decides (field_key_of x) (field_key_of y)) (λ x y. local_decides (local_key_of x) (local_key_of y)) of.sites.items row is of.graph.edges.items d

  -- listed ones stand among the sites
  pub all_within : (n : ℕ) → n ≡ length of.sites.items → (list : List Dependence) → AreAll of list → All (λ d. (d.first < n) × (d.second < n)) list
  all_within n is list h k d lt =
      let e = get_or list k d in
      let holds : Holds e = (h.exact e).0 (Contains-get_or list k d lt) in
      let a = slice_get_within (sites_in of.sites.items) e.first holds.0 holds.2 in
      let b = slice_get_within (sites_in of.sites.items) e.second holds.1 holds.3 in
      let count = site_count in
      (omega (arith, is, count, a), omega (arith, is, count, b))
