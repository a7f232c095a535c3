-- What the dependences on one site after another weigh.
use Rattle.std.proofs.Common.{◌≡◌, ◌<◌, ◌≤◌, ◌+◌, ℕ, suc, List, [], ◌∷◌, ◌++◌, length, refl, sym, ap, subst, ◌∙◌, arith}
use Rattle.std.specs.Prelude.{◌↔◌, slice_index, Contains}
use Rattle.std.specs.List.{sum_by}
use Rattle.std.proofs.lemmas.List.Sums.{sum_by-append, sum_by-cons}
use Rattle.std.proofs.lemmas.Option.{slice_get_within}
use Rattle.jr_dependences.specs.declared.dependence.Dependence.{Dependence}
use Rattle.jr_dependences.specs.Depends.{DependsIn}
use Rattle.jr_dependences.specs.Listed.{IsOn, IsListed}
use Rattle.jr_dependences.specs.Numbers.{SameNumber}
use Rattle.jr_dependences.specs.Summed.{Given, WeighsOn}
use Rattle.jr_dependences.specs.Weights.{weight, pair_weight, WeighTogether, AllWeigh}
use Rattle.jr_dependences.proofs.Adding.{adds_none, adds_then, listed_alone}
use Rattle.jr_dependences.proofs.Asking.{on_before, on_more}

sums_same : (f h : Dependence → ℕ) (list : List Dependence) → ((d : Dependence) → Contains list d → f d ≡ h d) → sum_by f list ≡ sum_by h list
sums_same f h [] same = refl
sums_same f h (d ∷ ds) same =
    let this : f d ≡ h d = same d (0, omega arith, refl) in
    let rest : sum_by f ds ≡ sum_by h ds = sums_same f h ds (λ e at. same e (suc at.0, omega (arith, at.1), at.2)) in
    let one = sum_by-cons f d ds in
    let other = sum_by-cons h d ds in
    omega (arith, this, rest, one, other)

module _ (g : Given) (each : ℕ) where
  abbrev H : Dependence → Type 0
  H d = DependsIn SameNumber SameNumber g.sites g.edges d

  -- those on sites below one
  abbrev pub WeighBelow : (below total : ℕ) → Type 0
  WeighBelow below total = WeighTogether (λ d. d.first < below) H each g.lens total

  pub none_weighed : WeighBelow 0 0
  none_weighed = ([], listed_alone H (λ d. d.first < 0) [] (adds_none H (λ d. d.first < 0) [] (λ x q p. omega (arith, q))), refl)

  pub more_weighed : (n front total more new : ℕ) → front ≡ each + slice_index g.lens n → new ≡ total + more → WeighBelow n total → WeighsOn g n front more → WeighBelow (n + 1) new
  more_weighed n front total more new is sum f s = (
    f.0 ++ s.0,
    listed_alone H (λ d. d.first < n + 1) (f.0 ++ s.0)
        (adds_then H (λ d. d.first < n) (IsOn n) (λ d. d.first < n + 1) [] f.0 (f.0 ++ s.0) (record { added = f.0; is = refl; listed = f.1 }) (record { added = s.0; is = refl; listed = s.1 }) (on_before n) (λ x h. on_more n x)),
    sums,
  )
    where
      one : (d : Dependence) → Contains s.0 d → weight front g.lens d ≡ pair_weight each g.lens d
      one d at =
          let on : d.first ≡ n = ((s.1.exact d).0 at).0 in
          ap (λ k. weight k g.lens d) (is ∙ ap (λ k. each + slice_index g.lens k) (sym on))

      sums : new ≡ sum_by (pair_weight each g.lens) (f.0 ++ s.0)
      sums =
          let there = f.2 in
          let these : more ≡ sum_by (pair_weight each g.lens) s.0 = s.2 ∙ sums_same (weight front g.lens) (pair_weight each g.lens) s.0 one in
          let both = sum_by-append (pair_weight each g.lens) f.0 s.0 in
          omega (arith, sum, there, these, both)

  pub all_weighed : (n total : ℕ) → length g.sites ≤ n → WeighBelow n total → AllWeigh H each g.lens total
  all_weighed n total le h = record {
    list = h.0;
    ordered = h.1.ordered;
    exact = λ d. (λ at. ((h.1.exact d).0 at).1, λ holds. let lt = slice_get_within g.sites d.first holds.0 holds.2 in (h.1.exact d).1 (omega (arith, lt, le), holds));
    is = h.2;
  }

-- the same ones, seen otherwise
pub weigh_as : (H G : Dependence → Type 0) (each : ℕ) (lens : List ℕ) (total : ℕ) → ((d : Dependence) → (H d ↔ G d)) → AllWeigh H each lens total → AllWeigh G each lens total
weigh_as H G each lens total same h = record {
  list = h.list;
  ordered = h.ordered;
  exact = λ d. (λ at. (same d).0 ((h.exact d).0 at), λ holds. (h.exact d).1 ((same d).1 holds));
  is = h.is;
}
