-- What stands at a way's sites doesn't matter to its shapes, its size and its edges.
use Rattle.std.proofs.Common.{◌≡◌, ◌↔◌, ℕ, suc, ◌+◌, ◌∷◌, [], ◌++◌, refl, sym, subst}
use Rattle.jr_cover.specs.Ways.{Way, pass, one, row, fork, leave, turns, inside, size, Edge}
use Rattle.jr_cover.specs.Flows.{Flow, flow_of, row_flow, fork_flow, turns_flow, inside_flow}
use Rattle.jr_cover.proofs.FlowLaws.{In, Pair, flow_is}
use Rattle.jr_way_graph.specs.declared.shapes.Shape.TheVariants as shape
use Rattle.jr_way_graph.specs.Shapes.{shapes_of}

abbrev pub bare : {S : Type 0} → Way S → Way ℕ
bare pass = pass
bare (one s) = one 0
bare (row a b) = row (bare a) (bare b)
bare (fork a b) = fork (bare a) (bare b)
bare leave = leave
bare (turns s c b) = turns 0 (bare c) (bare b)
bare (inside e b x) = inside 0 (bare b) 0

module _ {S : Type 0} where
  pub bare_size : (w : Way S) → size (bare w) ≡ size w
  bare_size pass = refl
  bare_size (one s) = refl
  bare_size (row a b) = λ i. bare_size a i + bare_size b i
  bare_size (fork a b) = λ i. bare_size a i + bare_size b i
  bare_size leave = refl
  bare_size (turns s c b) = λ i. suc (bare_size c i + bare_size b i)
  bare_size (inside e b x) = λ i. suc (suc (bare_size b i))

  pub bare_shapes : (w : Way S) → shapes_of (bare w) ≡ shapes_of w
  bare_shapes pass = refl
  bare_shapes (one s) = refl
  bare_shapes (row a b) = λ i. bare_shapes a i ++ (bare_shapes b i ++ shape.Row ∷ [])
  bare_shapes (fork a b) = λ i. bare_shapes a i ++ (bare_shapes b i ++ shape.Fork ∷ [])
  bare_shapes leave = refl
  bare_shapes (turns s c b) = λ i. shape.Opens ∷ (bare_shapes c i ++ (bare_shapes b i ++ shape.Turns ∷ []))
  bare_shapes (inside e b x) = λ i. shape.Opens ∷ (bare_shapes b i ++ shape.Closes ∷ [])

  bare_flow : (n : ℕ) (w : Way S) → flow_of n (bare w) ≡ flow_of n w
  bare_flow n pass = refl
  bare_flow n (one s) = refl
  bare_flow n (row a b) = λ i. row_flow (bare_flow n a i) (bare_flow (n + bare_size a i) b i)
  bare_flow n (fork a b) = λ i. fork_flow (bare_flow n a i) (bare_flow (n + bare_size a i) b i)
  bare_flow n leave = refl
  bare_flow n (turns s c b) = λ i. turns_flow (bare_size c i) n (bare_flow (suc n) c i) (bare_flow (suc n + bare_size c i) b i)
  bare_flow n (inside e b x) = λ i. inside_flow n (suc n + bare_size b i) (bare_flow (suc n) b i)

  pub bare_edges : (w : Way S) (i j : ℕ) → Edge 0 (bare w) i j ↔ Edge 0 w i j
  bare_edges w i j =
      let less = (flow_is 0 (bare w)).edges i j in
      let more = (flow_is 0 w).edges i j in (
        λ h. more.to (subst (λ (f : Flow). In (Pair i j) f.edges) (bare_flow 0 w) (less.back h)),
        λ h. less.to (subst (λ (f : Flow). In (Pair i j) f.edges) (sym (bare_flow 0 w)) (more.back h)),
      )
