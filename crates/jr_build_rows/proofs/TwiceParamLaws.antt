-- Parameters of one name, one after another.
use Rattle.std.proofs.Common.{◌≡◌, ℕ, ◌+◌, ◌<◌, ◌≤◌, List, [], ◌∷◌, zero, suc, map, get_or, Option, Some, None, Bool, true, false, cond, length, refl, sym, ap, subst, ◌∙◌, inl, inr, arith}
use Rattle.std.specs.Prelude.{slice_get, ◌⊎◌, nat_eq, option_map}
use Rattle.std.specs.Option.{MatchOption}
use Rattle.std.specs.Cmp.Lexicographic.{pointwise, bytes_decides}
use Rattle.std.proofs.lemmas.Option.{slice_get_within, slice_get-get_or}
use Rattle.jr_index.specs.Names.{named, PutsNumber}
use Rattle.jr_index.specs.declared.names.Names.{Names}
use Rattle.jr_build_declared.specs.declared.declarations.DeclaredParam as raw
use Rattle.jr_build_declared.specs.DeclaredView.{param_declaration_of}
use Rattle.jr_table.specs.DeclaredItems.{DeclaredParam}
use Rattle.jr_table.specs.Faults.{ParamTwice}
use Rattle.jr_build_declared.specs.DeclarationFaults.{IsLeastAt}
use Rattle.jr_build_rows.specs.TypeFaults.{lesser}
use Rattle.jr_build_declared.proofs.Earliest.{inside}
use Rattle.jr_build_rows.proofs.Knowing as knowing
use Rattle.jr_build_rows.proofs.Least.{same_least, least_of}

module _ (ps : List DeclaredParam) where
  abbrev pub Has : ℕ → List ℕ → Type 0
  Has n q = knowing.Has (λ x. x) (pointwise nat_eq) bytes_decides (λ (p : DeclaredParam). Some p.name) ps n q

  abbrev pub Knows : ℕ → List ℕ → Option ℕ → Type 0
  Knows n q o = knowing.Knows (λ x. x) (pointwise nat_eq) bytes_decides (λ (p : DeclaredParam). Some p.name) ps n q o

  -- the second of two of the first n stands there
  pub record TwiceIn (n at : ℕ) : Type 0 where
    pub twice : ParamTwice ps at
    pub within : twice.j < n

  split : (m n : ℕ) → m < n + 1 → (m < n) ⊎ (m ≡ n)
  split m n h = grind arith

  pub none_twice : IsLeastAt (TwiceIn 0) None
  none_twice = λ at t. let l = t.within in omega (arith, l)

  pub none_known : (t : List ℕ → Option ℕ) → ((q : List ℕ) → t q ≡ None) → (q : List ℕ) → Knows 0 q (t q)
  none_known = knowing.none_known (λ x. x) (pointwise nat_eq) bytes_decides (λ (p : DeclaredParam). Some p.name) ps

  pub one_known : (n w : ℕ) (x : DeclaredParam) (old new : List ℕ → Option ℕ) → slice_get ps n ≡ Some x
      → ((q : List ℕ) → new q ≡ cond (pointwise nat_eq x.name q) (Some w) (old q)) → ((q : List ℕ) → Knows n q (old q)) → (q : List ℕ) → Knows (n + 1) q (new q)
  one_known n w x old new here = knowing.one_known (λ x. x) (pointwise nat_eq) bytes_decides (λ (p : DeclaredParam). Some p.name) ps n w x x.name old new here refl

  -- the name of parameter n stood before
  here_or_not : (n : ℕ) (x : DeclaredParam) (before : Option ℕ) → Knows n x.name before → IsLeastAt (λ at. Has n x.name × (at ≡ x.at)) (option_map (λ w. x.at) before)
  here_or_not n x (Some w) has = ((has, refl), λ b h. let e = h.1 in omega (arith, e))
  here_or_not n x None none = λ at h. none h.0

  pub one_more : (n : ℕ) (x : DeclaredParam) (least before : Option ℕ) → slice_get ps n ≡ Some x → Knows n x.name before
      → IsLeastAt (TwiceIn n) least → IsLeastAt (TwiceIn (n + 1)) (lesser least (option_map (λ w. x.at) before))
  one_more n x least before here knows so_far =
      same_least (λ at. TwiceIn n at ⊎ (Has n x.name × (at ≡ x.at))) (TwiceIn (n + 1)) to from (lesser least (option_map (λ w. x.at) before))
      (least_of (TwiceIn n) (λ at. Has n x.name × (at ≡ x.at)) least (option_map (λ w. x.at) before) so_far (here_or_not n x before knows))
    where
      to : (at : ℕ) → (TwiceIn n at ⊎ (Has n x.name × (at ≡ x.at))) → TwiceIn (n + 1) at
      to at (inl t) = record { twice = t.twice; within = let l = t.within in omega (arith, l) }
      to at (inr ((i, y, lt, stands, is), e)) = record {
        twice = record { i = i; j = n; before = lt; first = y; second = x; one = stands; other = here; same = inside _ _ is; place = sym e };
        within = omega arith;
      }

      by : (at : ℕ) (t : TwiceIn (n + 1) at) → ((t.twice.j < n) ⊎ (t.twice.j ≡ n)) → TwiceIn n at ⊎ (Has n x.name × (at ≡ x.at))
      by at t (inl lt) = inl (record { twice = t.twice; within = lt })
      by at t (inr e) =
          let second = inside t.twice.second x (sym t.twice.other ∙ ap (slice_get ps) e ∙ here) in
          let before = t.twice.before in
          inr (
            (t.twice.i, t.twice.first, omega (arith, before, e), t.twice.one, ap Some (t.twice.same ∙ ap (λ (p : DeclaredParam). p.name) second)),
            sym t.twice.place ∙ ap (λ (p : DeclaredParam). p.at) second,
          )

      from : (at : ℕ) → TwiceIn (n + 1) at → TwiceIn n at ⊎ (Has n x.name × (at ≡ x.at))
      from at t = by at t (split t.twice.j n t.within)

  pub at_end : (n : ℕ) → length ps ≤ n → (r : Option ℕ) → IsLeastAt (TwiceIn n) r → IsLeastAt (ParamTwice ps) r
  at_end n past = same_least (TwiceIn n) (ParamTwice ps) (λ at t. t.twice)
      (λ at t. record { twice = t; within = let l = slice_get_within ps t.j t.second t.other in omega (arith, l, past) })

-- what stands at a place of a mapped list
pub map_get : {X Y : Type 0} (f : X → Y) (xs : List X) (i : ℕ) (x : X) → slice_get xs i ≡ Some x → slice_get (map f xs) i ≡ Some (f x)
map_get f [] i x e = absurd cc
map_get f (y ∷ ys) zero x e = ap (λ o. option_map f o) e
map_get f (y ∷ ys) (suc i) x e = map_get f ys i x e

-- the parameters of a method, with `d` past the last
module _ (ps : List raw.DeclaredParam) (i : ℕ) (d : raw.DeclaredParam) (lt : i < length ps) (old new : Names) where
  abbrev one : DeclaredParam
  one = param_declaration_of (get_or ps i d)

  here : slice_get (map param_declaration_of ps) i ≡ Some one
  here = map_get param_declaration_of ps i (get_or ps i d) (slice_get-get_or ps i d lt)

  pub least_more : (least before place r : Option ℕ) → before ≡ named old (get_or ps i d).name.now
      → place ≡ option_map (λ w. (get_or ps i d).at) before → r ≡ lesser least place
      → ((q : List ℕ) → Knows (map param_declaration_of ps) i q (named old q))
      → IsLeastAt (TwiceIn (map param_declaration_of ps) i) least → IsLeastAt (TwiceIn (map param_declaration_of ps) (i + 1)) r
  least_more least before place r e f g known so_far =
      subst (IsLeastAt (TwiceIn (map param_declaration_of ps) (i + 1))) (sym (g ∙ ap (lesser least) f))
      (one_more (map param_declaration_of ps) i one least before here
      (subst (Knows (map param_declaration_of ps) i (get_or ps i d).name.now) (sym e) (known (get_or ps i d).name.now)) so_far)

  pub known_more : PutsNumber old (get_or ps i d).name.now (get_or ps i d).at new
      → ((q : List ℕ) → Knows (map param_declaration_of ps) i q (named old q)) → (q : List ℕ) → Knows (map param_declaration_of ps) (i + 1) q (named new q)
  known_more puts known = one_known (map param_declaration_of ps) i (get_or ps i d).at one (λ q. named old q) (λ q. named new q) here puts known
