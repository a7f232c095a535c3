-- The dependences of a graph cover the runs of each program that has a member with this graph.
use Rattle.std.specs.Prelude.{ℕ, Bool, List, IsTrue}
use Rattle.jr_runs.specs.Core.{Program}
use Rattle.jr_runs.specs.Running.{Start, run_of}
use Rattle.jr_runs.specs.Values.{Value}
use Rattle.jr_code.specs.RunKeys.{RunKeys, Place}
use Rattle.jr_code.specs.RunRows.{AreRunRows}
use Rattle.jr_cover.specs.Members.{HasMember}
use Rattle.jr_cover.specs.Sites.{Site, Known}
use Rattle.jr_cover.specs.Spots.{Spot}
use Rattle.jr_cover.specs.Ways.{Way}
use Rattle.jr_sites.specs.declared.sites.SiteGraph.{SiteGraph}
use Rattle.jr_dependences.specs.declared.dependence.Dependence.{Dependence}
use Rattle.jr_cfg.specs.Graphs.{IsGraph}
use Rattle.jr_expr_sites.specs.KnownFacts.{Given}
use Rattle.jr_effect.specs.Covers.{CoversTrace}

abbrev pub CoversMembers : SiteGraph → List Dependence → Type 0
CoversMembers of list = (g : Given) (w : Way (Site RunKeys)) → IsGraph g w of
    → (X : Known RunKeys Spot) (P : Program RunKeys) (is_outside : Place → Bool)
    → AreRunRows g.rows P.rows → HasMember X (λ p. IsTrue (is_outside p)) P w
    → (c : Start RunKeys) (answers : List (Value RunKeys)) (fuel : ℕ)
    → CoversTrace P.rows (λ p. IsTrue (is_outside p)) w list (run_of P c answers fuel).trace
