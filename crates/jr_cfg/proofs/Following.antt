-- Runs follow the graph whose sites and edges are those of a way.
use Rattle.std.proofs.Common.{◌≡◌, ℕ, zero, suc, List, [], ◌∷◌, Some, refl, ap, ◌∙◌}
use Rattle.std.specs.Prelude.{slice_get, option_map, Result, Ok, Err, IfOk}
use Rattle.std.proofs.lemmas.Option.{slice_get-map}
use Rattle.jr_flow.specs.Edges.{EdgeOf}
use Rattle.jr_flow.specs.Paths as flow
use Rattle.jr_plans.specs.Numbered.{Numbered}
use Rattle.jr_runs.specs.Actions.{Event}
use Rattle.jr_runs.specs.Rows.{Rows}
use Rattle.jr_code.specs.RunKeys.{RunKeys, Place}
use Rattle.jr_cover.specs.Covering.{FollowEdges, site_at}
use Rattle.jr_cover.specs.Paths as cover
use Rattle.jr_cover.specs.Sites.{Site}
use Rattle.jr_cover.specs.Ways.{Way, sites_of, Edge}
use Rattle.jr_sites.specs.declared.sites.SiteGraph.{SiteGraph}
use Rattle.jr_sites.specs.SiteView.{PlacedSite}
use Rattle.jr_cfg.specs.declared.faults.CfgFault.{CfgFault}
use Rattle.jr_cfg.specs.Graphs.{IsGraph, IsAnswer, Stands, FollowGraph}
use Rattle.jr_expr_sites.specs.KnownFacts.{Given}
use Rattle.jr_cfg.specs.Placed.{placed}

site_get : {S : Type 0} (l : List S) (i : ℕ) → slice_get l i ≡ site_at l i
site_get [] i = refl
site_get (s ∷ l) zero = refl
site_get (s ∷ l) (suc i) = site_get l i

module _ (E F : ℕ → ℕ → Type 0) (same : (i j : ℕ) → E i j → F i j) where
  path_goes : (i j : ℕ) → cover.Path E i j → flow.Path F i j
  path_goes i j (cover.Path.edge a b e) = flow.PathBetween.edge a b (same a b e)
  path_goes i j (cover.Path.onward a b c e p) = flow.PathBetween.onward a b c (same a b e) (λ n. n) (path_goes b c p)

module _ (g : Given) (w : Way (Site RunKeys)) (of : SiteGraph) (is : IsGraph g w of) where
  stands : (i : ℕ) (a : Site RunKeys) → site_at (sites_of w) i ≡ Some a → Stands g of i a
  stands i a at =
      ap (λ (l : List PlacedSite). slice_get l i) is.sites ∙ slice_get-map (placed g) (sites_of w) i ∙ ap (option_map (placed g)) (site_get (sites_of w) i ∙ at)

  pub graph_followed : (R : Rows RunKeys) (Outside : Place → Type 0) (trace : List (Numbered (Event RunKeys))) → FollowEdges R Outside w trace → FollowGraph g R Outside of trace
  graph_followed R Outside trace follow t u v x y e own out other_out =
      let f = follow t u v x y e own out other_out in (
        f.0,
        f.1,
        f.2,
        f.3,
        stands f.0 f.2 f.4,
        stands f.1 f.3 f.5,
        f.6,
        f.7,
        path_goes (Edge 0 w) (EdgeOf of.graph.edges.items) (λ i j h. (is.edges i j).1 h) f.0 f.1 f.8,
      )

pub answer_followed : (g : Given) (w : Way (Site RunKeys)) (r : Result SiteGraph CfgFault) (R : Rows RunKeys) (Outside : Place → Type 0) (trace : List (Numbered (Event RunKeys))) → FollowEdges R Outside w trace → IsAnswer g w r
    → IfOk r (λ of. FollowGraph g R Outside of trace)
answer_followed g w (Ok of) R Outside trace follow is = graph_followed g w of is R Outside trace follow
answer_followed g w (Err fault) R Outside trace follow is = tt
