-- When a graph is that of a member's way, and what runs have to do with it.
use Rattle.std.specs.Prelude.{
  ◌≡◌,
  ◌↔◌,
  ◌≤◌,
  ◌<◌,
  ℕ,
  List,
  ◌∷◌,
  ◌++◌,
  map,
  slice_get,
  Some,
  Result,
  Ok,
  Err,
  IfOk,
  IsTrue,
  Bool,
}
use Rattle.jr_text.specs.declared.spans.Span.{Span}
use Rattle.jr_ast.specs.MemberTree.{Member}
use Rattle.jr_table.specs.Keys.{FieldKey}
use Rattle.jr_flow.specs.Edges.{EdgeOf}
use Rattle.jr_flow.specs.Paths.{Path}
use Rattle.jr_plans.specs.Numbered.{Numbered}
use Rattle.jr_runs.specs.Actions.{Event}
use Rattle.jr_runs.specs.Core.{Program}
use Rattle.jr_runs.specs.Rows.{Rows}
use Rattle.jr_runs.specs.Running.{Start, run_of}
use Rattle.jr_runs.specs.Values.{Value}
use Rattle.jr_code.specs.RunKeys.{RunKeys, Place}
use Rattle.jr_cover.specs.Covering.{DoneAt, IsOutside}
use Rattle.jr_cover.specs.Members.{HasMember}
use Rattle.jr_cover.specs.Ways.{Way, sites_of, size, Edge}
use Rattle.jr_cover.specs.Sites.{Site}
use Rattle.jr_sites.specs.declared.sites.SiteGraph.{SiteGraph}
use Rattle.jr_sites.specs.SiteView.{placed_of}
use Rattle.jr_cfg.specs.declared.faults.CfgFault.{CfgFault}
use Rattle.jr_cfg.specs.declared.faults.CfgFault.TheVariants as fault
use Rattle.jr_expr_sites.specs.KnownFacts.{Given, Others, known_of}
use Rattle.jr_cfg.specs.MemberRoutes.{IsKeyOf, NumbersMember, member}
use Rattle.jr_cfg.specs.Placed.{placed}
use Rattle.jr_expr_sites.specs.Routes.{Steps}
use Rattle.jr_expr_sites.specs.Steps.{steps_of}
use Rattle.jr_expr_sites.specs.StepView.{steps_in}

-- the way's sites in evaluation order, and the edges between their numbers
pub record IsGraph (g : Given) (w : Way (Site RunKeys)) (of : SiteGraph) : Type 0 where
  pub few : size w ≤ 1000
  pub sites : map placed_of of.sites.items ≡ map (placed g) (sites_of w)
  pub edges : (i j : ℕ) → EdgeOf of.graph.edges.items i j ↔ Edge 0 w i j

-- too many sites are told exactly, with how many there are
abbrev pub IsAnswer : Given → Way (Site RunKeys) → Result SiteGraph CfgFault → Type 0
IsAnswer g w (Ok of) = IsGraph g w of
IsAnswer g w (Err (fault.TooManySites count)) = (1000 < size w) × (count ≡ size w)
IsAnswer g w (Err fault.Memory) = Unit {0}

-- the site of this number is where that is done
abbrev pub Stands : Given → SiteGraph → (number : ℕ) → Site RunKeys → Type 0
Stands g of i a = slice_get (map placed_of of.sites.items) i ≡ Some (placed g a)

-- Of each two events of one activation that stand in the member, the earlier one is done at a site
-- of the graph, and the later one at one to which a path of at least one edge leads.
abbrev pub FollowGraph : Given → Rows RunKeys → (Place → Type 0) → SiteGraph
    → List (Numbered (Event RunKeys)) → Type 0
FollowGraph g R Outside of trace =
    (t u v : List (Numbered (Event RunKeys))) (x y : Numbered (Event RunKeys))
    → trace ≡ t ++ x ∷ (u ++ y ∷ v) → x.activation ≡ y.activation
    → (IsOutside RunKeys Outside x.action.at → ⊥) → (IsOutside RunKeys Outside y.action.at → ⊥)
    → (i : ℕ) × (j : ℕ) × (a : Site RunKeys) × (b : Site RunKeys)
    × Stands g of i a × Stands g of j b
    × DoneAt R a x.action × DoneAt R b y.action × Path (EdgeOf of.graph.edges.items) i j

-- the steps are those of some way
abbrev pub HasSteps : Given → Steps → Type 0
HasSteps g steps = (w : Way (Site RunKeys)) × (steps_in g.member steps ≡ steps_of w)

-- ---- of a member, whose parent begins at `base`

module _ {A : Type 0} (tells : A → ℕ → Span) (super_at base : ℕ) (g : Given) where
  -- k: the field's key, of a field; o: what else resolved code needs
  abbrev pub IsGraphOfMember : Member A → Result SiteGraph CfgFault → Type 0
  IsGraphOfMember m result = (k : FieldKey) (o : Others) → IsKeyOf g.member k m
      → NumbersMember tells base m o → IsAnswer g (member tells super_at base k m g o) result

  -- In each run of a program that has the member, the actions that stand in it follow the graph.
  abbrev pub RunsFollowGraph : Member A → Result SiteGraph CfgFault → Type 0
  RunsFollowGraph m result = (k : FieldKey) (o : Others) → IsKeyOf g.member k m
      → NumbersMember tells base m o → (P : Program RunKeys) (is_outside : Place → Bool)
      → HasMember (known_of g o) (λ p. IsTrue (is_outside p)) P (member tells super_at base k m g o)
      → (c : Start RunKeys) (answers : List (Value RunKeys)) (fuel : ℕ)
      → IfOk result (λ of. FollowGraph g P.rows (λ p. IsTrue (is_outside p)) of
      (run_of P c answers fuel).trace)
