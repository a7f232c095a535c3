-- Whether one site depends on another, by what is known of paths from the first.
use Rattle.std.proofs.Common.{◌≡◌, ℕ, Bool, List, Option, Some, None, sym, subst, ◌∙◌}
use Rattle.std.specs.Prelude.{IsTrue, ◌↔◌, slice_get}
use Rattle.jr_sync.specs.declared.sites.Site.{Site}
use Rattle.jr_sync.specs.declared.sites.DepKind.{DepKind}
use Rattle.jr_sync.specs.declared.sites.DepKind.TheVariants.{Order, Field, Sync, Flow, Anti, Output}
use Rattle.jr_sync.specs.Relations.{Related}
use Rattle.jr_flow.specs.declared.reach.Reach.{Reach}
use Rattle.jr_flow.specs.declared.reached.Reached.{Reached}
use Rattle.jr_flow.specs.Edges.{EdgeOf}
use Rattle.jr_flow.specs.Pairs.{Comes}
use Rattle.jr_flow.specs.Paths.{PathBetween, Path, edge, onward}
use Rattle.jr_dependences.specs.Depends.{Stops, Depends}
use Rattle.jr_dependences.specs.Known.{LeadsFlow, Gives, TellsFlow, KnowsPaths}

pub same_item : {S : Type 0} (a b : S) → Some a ≡ Some b → a ≡ b
same_item a b e = cc

-- a path between stops is one
forget : (E : ℕ → ℕ → Type 0) (S : ℕ → Type 0) (i j : ℕ) → PathBetween E S i j → Path E i j
forget E S i j (edge a b e) = edge a b e
forget E S i j (onward a b c e free p) = onward a b c e (λ n. n) (forget E S b c p)

module _ {K L : Type 0} (F : K → K → Type 0) (M : L → L → Type 0) (sites : List (Site K L)) (edges : List (ℕ × ℕ)) (first : ℕ) (reach : Reach) where
  -- where no path leads there is no dependence
  pub never_apart : (flow : Option Reached) → KnowsPaths F M sites edges first reach flow → (second : ℕ) → (Comes reach first second → ⊥) → (kind : DepKind) → Depends F M sites edges kind first second → ⊥
  never_apart flow known second apart kind h = apart ((known.paths first second).1 (forget (EdgeOf edges) _ first second h.5))

  module _ (a : Site K L) (is : slice_get sites first ≡ Some a) (second : ℕ) where
    flows : (flow : Option Reached) → TellsFlow F M sites edges first flow → LeadsFlow flow second → PathBetween (EdgeOf edges) (Stops F M sites Flow a) first second
    flows None tells leads = absurd leads
    flows (Some reached) tells leads = (tells a is second).0 leads

    flows_back : (flow : Option Reached) (b : Site K L) → slice_get sites second ≡ Some b → TellsFlow F M sites edges first flow → Related F M Flow a b → PathBetween (EdgeOf edges) (Stops F M sites Flow a) first second
        → LeadsFlow flow second
    flows_back None b there tells related path = absurd (tells a is (second, b, there, related))
    flows_back (Some reached) b there tells related path = (tells a is second).1 path

    path_of : (flow : Option Reached) → KnowsPaths F M sites edges first reach flow → Comes reach first second → (kind : DepKind) → Gives flow kind second
        → PathBetween (EdgeOf edges) (Stops F M sites kind a) first second
    path_of flow h comes Flow gives = flows flow h.flows gives
    path_of flow h comes Order gives = (h.paths first second).0 comes
    path_of flow h comes Field gives = (h.paths first second).0 comes
    path_of flow h comes Sync gives = (h.paths first second).0 comes
    path_of flow h comes Anti gives = (h.paths first second).0 comes
    path_of flow h comes Output gives = (h.paths first second).0 comes

    gives_of : (flow : Option Reached) (b : Site K L) → slice_get sites second ≡ Some b → KnowsPaths F M sites edges first reach flow → (kind : DepKind) → Related F M kind a b
        → PathBetween (EdgeOf edges) (Stops F M sites kind a) first second → Gives flow kind second
    gives_of flow b there h Flow related path = flows_back flow b there h.flows related path
    gives_of flow b there h Order related path = tt
    gives_of flow b there h Field related path = tt
    gives_of flow b there h Sync related path = tt
    gives_of flow b there h Anti related path = tt
    gives_of flow b there h Output related path = tt

    pub depends_is : (flow : Option Reached) (b : Site K L) → slice_get sites second ≡ Some b → KnowsPaths F M sites edges first reach flow → Comes reach first second → (kind : DepKind) (holds : Bool)
        → (IsTrue holds ↔ (Gives flow kind second × Related F M kind a b)) → (IsTrue holds ↔ Depends F M sites edges kind first second)
    depends_is flow b there h comes kind holds means = (forth, back)
      where
        forth : IsTrue holds → Depends F M sites edges kind first second
        forth e = let p = means.0 e in (a, b, is, there, p.1, path_of flow h comes kind p.0)

        back : Depends F M sites edges kind first second → IsTrue holds
        back (x, y, at, at_other, related_to, path) =
            let one : x ≡ a = same_item x a (sym at ∙ is) in
            let other : y ≡ b = same_item y b (sym at_other ∙ there) in
            let near : Related F M kind a b = subst (λ (s : Site K L). Related F M kind a s) other (subst (λ (s : Site K L). Related F M kind s y) one related_to) in
            let way : PathBetween (EdgeOf edges) (Stops F M sites kind a) first second = subst (λ (s : Site K L). PathBetween (EdgeOf edges) (Stops F M sites kind s) first second) one path in
            means.1 (gives_of flow b there h kind near way, near)
