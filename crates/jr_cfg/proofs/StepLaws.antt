-- The steps of a way have its sites and its shapes.
use Rattle.std.proofs.Common.{◌≡◌, ℕ, suc, ◌+◌, List, [], ◌∷◌, ◌++◌, length, map, Option, Some, None, refl, sym, ap, ◌∙◌, arith, ◌<◌, take, get_or}
use Rattle.std.proofs.lemmas.List.{length-map, map_more}
use Rattle.jr_table.specs.Decls.{MemberKey}
use Rattle.jr_code.specs.RunKeys.{RunKeys}
use Rattle.jr_cover.specs.Sites.{Site}
use Rattle.jr_expr_sites.specs.declared.step.Step as raw_step
use Rattle.jr_expr_sites.specs.StepView.{step_of, steps_in}
use Rattle.jr_cover.specs.Ways as way
use Rattle.jr_cover.specs.Ways.{Way, sites_of, size}
use Rattle.jr_way_graph.specs.declared.shapes.Shape.{Shape}
use Rattle.jr_way_graph.specs.declared.shapes.Shape.TheVariants as shape
use Rattle.jr_way_graph.specs.Shapes.{shapes_of}
use Rattle.jr_expr_sites.specs.Steps.{Step, steps_of, with_site, sites_in, shape_of}
use Rattle.jr_expr_sites.specs.Steps as step
use Rattle.jr_cfg.specs.SiteSteps.{site_in}

module _ {S : Type 0} where
  with_append : (x : Step S) (l m : List S) → with_site x (l ++ m) ≡ with_site x l ++ m
  with_append step.pass l m = refl
  with_append (step.site s) l m = refl
  with_append (step.opens s) l m = refl
  with_append step.row l m = refl
  with_append step.fork l m = refl
  with_append step.leave l m = refl
  with_append step.turns l m = refl
  with_append (step.closes s) l m = refl

  pub sites_append : (xs ys : List (Step S)) → sites_in (xs ++ ys) ≡ sites_in xs ++ sites_in ys
  sites_append [] ys = refl
  sites_append (x ∷ xs) ys = ap (with_site x) (sites_append xs ys) ∙ with_append x (sites_in xs) (sites_in ys)

  append_none : (l : List S) → l ++ [] ≡ l
  append_none [] = refl
  append_none (x ∷ l) = ap (λ (m : List S). x ∷ m) (append_none l)

  two_parts : (a b : List (Step S)) (end : Step S) → sites_in (end ∷ []) ≡ [] → sites_in (a ++ (b ++ end ∷ [])) ≡ sites_in a ++ sites_in b
  two_parts a b end none =
      sites_append a (b ++ end ∷ []) ∙ ap (λ (l : List S). sites_in a ++ l) (sites_append b (end ∷ []) ∙ ap (λ (l : List S). sites_in b ++ l) none ∙ append_none (sites_in b))

  pub sites_of_steps : (w : Way S) → sites_in (steps_of w) ≡ sites_of w
  sites_of_steps way.pass = refl
  sites_of_steps (way.one s) = refl
  sites_of_steps (way.row a b) = two_parts (steps_of a) (steps_of b) step.row refl ∙ (λ i. sites_of_steps a i ++ sites_of_steps b i)
  sites_of_steps (way.fork a b) = two_parts (steps_of a) (steps_of b) step.fork refl ∙ (λ i. sites_of_steps a i ++ sites_of_steps b i)
  sites_of_steps way.leave = refl
  sites_of_steps (way.turns s c b) = ap (λ (l : List S). s ∷ l) (two_parts (steps_of c) (steps_of b) step.turns refl ∙ (λ i. sites_of_steps c i ++ sites_of_steps b i))
  sites_of_steps (way.inside e b x) = ap (λ (l : List S). e ∷ l) (sites_append (steps_of b) (step.closes x ∷ []) ∙ ap (λ (l : List S). l ++ x ∷ []) (sites_of_steps b))

  map_append : (xs ys : List (Step S)) → map shape_of (xs ++ ys) ≡ map shape_of xs ++ map shape_of ys
  map_append [] ys = refl
  map_append (x ∷ xs) ys = ap (λ (l : List Shape). shape_of x ∷ l) (map_append xs ys)

  parts : (a b : List (Step S)) (end : Step S) → map shape_of (a ++ (b ++ end ∷ [])) ≡ map shape_of a ++ (map shape_of b ++ shape_of end ∷ [])
  parts a b end = map_append a (b ++ end ∷ []) ∙ ap (λ (l : List Shape). map shape_of a ++ l) (map_append b (end ∷ []))

  pub shapes_of_steps : (w : Way S) → map shape_of (steps_of w) ≡ shapes_of w
  shapes_of_steps way.pass = refl
  shapes_of_steps (way.one s) = refl
  shapes_of_steps (way.row a b) = parts (steps_of a) (steps_of b) step.row ∙ (λ i. shapes_of_steps a i ++ (shapes_of_steps b i ++ shape.Row ∷ []))
  shapes_of_steps (way.fork a b) = parts (steps_of a) (steps_of b) step.fork ∙ (λ i. shapes_of_steps a i ++ (shapes_of_steps b i ++ shape.Fork ∷ []))
  shapes_of_steps way.leave = refl
  shapes_of_steps (way.turns s c b) = ap (λ (l : List Shape). shape.Opens ∷ l) (parts (steps_of c) (steps_of b) step.turns ∙ (λ i. shapes_of_steps c i ++ (shapes_of_steps b i ++ shape.Turns ∷ [])))
  shapes_of_steps (way.inside e b x) = ap (λ (l : List Shape). shape.Opens ∷ l) (map_append (steps_of b) (step.closes x ∷ []) ∙ ap (λ (l : List Shape). l ++ shape.Closes ∷ []) (shapes_of_steps b))

  -- ---- how many sites there are

  pub length_append : (xs ys : List S) → length (xs ++ ys) ≡ length xs + length ys
  length_append [] ys = omega arith
  length_append (x ∷ xs) ys = let e = length_append xs ys in omega (arith, e)

  pub sites_size : (w : Way S) → length (sites_of w) ≡ size w
  sites_size way.pass = refl
  sites_size (way.one s) = refl
  sites_size (way.row a b) = length_append (sites_of a) (sites_of b) ∙ (λ i. sites_size a i + sites_size b i)
  sites_size (way.fork a b) = length_append (sites_of a) (sites_of b) ∙ (λ i. sites_size a i + sites_size b i)
  sites_size way.leave = refl
  sites_size (way.turns s c b) = ap suc (length_append (sites_of c) (sites_of b) ∙ (λ i. sites_size c i + sites_size b i))
  sites_size (way.inside e b x) =
      let l = length_append (sites_of b) (x ∷ []) in
      let n = sites_size b in
      omega (arith, l, n)

  pub steps_size : (w : Way S) → length (sites_in (steps_of w)) ≡ size w
  steps_size w = ap length (sites_of_steps w) ∙ sites_size w

  -- ---- one step more

  abbrev pub listed : Option S → List S
  listed None = []
  listed (Some s) = s ∷ []

  pub one_site : (x : Step S) → sites_in (x ∷ []) ≡ listed (site_in x)
  one_site step.pass = refl
  one_site (step.site s) = refl
  one_site (step.opens s) = refl
  one_site step.row = refl
  one_site step.fork = refl
  one_site step.leave = refl
  one_site step.turns = refl
  one_site (step.closes s) = refl

-- ---- raw steps, one by one

module _ (key : MemberKey) where
  abbrev seen : List raw_step.Step → List (Step (Site RunKeys))
  seen l = steps_in key l

  pub shape_count : (steps : List raw_step.Step) (shapes : List Shape) → shapes ≡ map shape_of (seen steps) → length shapes ≡ length steps
  shape_count steps shapes is = ap length is ∙ length-map (seen steps) shape_of ∙ length-map steps (step_of key)

  -- with one step more
  pub sites_more : (steps : List raw_step.Step) (i : ℕ) (x : raw_step.Step) → i < length steps → x ≡ get_or steps i x → sites_in (seen (take (i + 1) steps)) ≡ sites_in (seen (take i steps)) ++ sites_in (step_of key x ∷ [])
  sites_more steps i x lt is =
      ap sites_in (map_more (step_of key) steps i x lt) ∙ sites_append (seen (take i steps)) (step_of key (get_or steps i x) ∷ [])
      ∙ ap (λ (s : raw_step.Step). sites_in (seen (take i steps)) ++ sites_in (step_of key s ∷ [])) (sym is)

  pub count_more : (steps : List raw_step.Step) (i : ℕ) (x : raw_step.Step) → i < length steps → x ≡ get_or steps i x → (count more : ℕ) → count ≡ length (sites_in (seen (take i steps))) → more ≡ length (sites_in (step_of key x ∷ []))
      → count + more ≡ length (sites_in (seen (take (i + 1) steps)))
  count_more steps i x lt is count more now then_ =
      (λ k. now k + then_ k) ∙ sym (length_append (sites_in (seen (take i steps))) (sites_in (step_of key x ∷ []))) ∙ ap length (sym (sites_more steps i x lt is))
