-- Footprints of pieces of a body, and the pair that they lose.
use Rattle.std.proofs.Common.{◌≡◌, ℕ, suc, ◌+◌, ◌-◌, ◌≤◌, Bool, true, false, List, [], ◌∷◌, ◌++◌, map, length, take, Option, Some, None, refl, sym, ap, subst, ◌∙◌, inl, inr, arith, append_assoc, append-nil}
use Rattle.std.specs.Prelude.{IsTrue, slice_get, option_map}
use Rattle.std.specs.List.{take-map}
use Rattle.std.proofs.lemmas.Simd.{map-map}
use Rattle.std.proofs.lemmas.List.{take_at}
use Rattle.std.proofs.lemmas.Option.{same_Some, none-some, slice_get-map}
use Rattle.jr_text.specs.declared.spans.Span.{Span}
use Rattle.jr_text.specs.declared.spans.Place as text
use Rattle.jr_ast.specs.Tree as tree
use Rattle.jr_ast.specs.StatementTree as statement
use Rattle.jr_ast.specs.MemberTree as syntax
use Rattle.jr_ast.specs.Marks.{member_mark}
use Rattle.jr_grammar.specs.Layout.{itself}
use Rattle.jr_sync.specs.declared.sites.DepKind.{DepKind}
use Rattle.jr_sync.specs.declared.sites.Site as shown
use Rattle.jr_sync.specs.Crossing.{IsCrossing}
use Rattle.jr_table.specs.Keys.{ClassKey, FieldKey, MethodKey, CtorKey}
use Rattle.jr_table.specs.Decls.{LocalKey}
use Rattle.jr_bind.specs.Programs.{Program}
use Rattle.jr_names.specs.Sites.{SiteAt, DepPair}
use Rattle.jr_runs.specs.Keys.{Keys}
use Rattle.jr_code.specs.RunKeys.{RunKeys, Place}
use Rattle.jr_cover.specs.Sites.{Site, Known, exp_way, stmt_way, stmts_way}
use Rattle.jr_cover.specs.Ways.{Way, sites_of}
use Rattle.jr_expr_sites.specs.Routes.{begins_by}
use Rattle.jr_sites.specs.declared.sites.PlacedSite as raw
use Rattle.jr_sites.specs.SiteView.{PlacedSite, placed_of, site_of, sites_in}
use Rattle.jr_cfg.specs.Placed.{placed}
use Rattle.jr_pieces.specs.Ways.{StmtWay, ListWay, first, later}
use Rattle.jr_pieces.specs.Before.{StmtEvaluated, stmt_before, list_before, list_through, WhatComesBeforeStandsInFront}
use Rattle.jr_way_places.specs.PlacedWays.{list_step}
use Rattle.jr_local.specs.Bodies.{Body}
use Rattle.jr_local.specs.BodyFacts.{TellsNeverNull, known}
use Rattle.jr_local.specs.Crossing.{Piece, Crossed, action, site_at}
use Rattle.jr_local_footprints.specs.Ranges.{taken, size, own}
use Rattle.jr_local_footprints.specs.Givens.{given_of}
use Rattle.jr_plan.specs.Reasons.{TellsLost}
use Rattle.jr_local_footprints.specs.LostPairs.{AreSitesOf, IsLostPair, Stands}
use Rattle.jr_local_footprints.specs.Laws.{AreBetween, FrontsAreOfBody, PiecesAreLost}
use Rattle.jr_local_footprints.proofs.PlacesBehind.{AllBehind}

-- ---- a footprint's sites and places

module _ (p : Program Span) (file : ℕ) (b : Body) where
  pub footprint_sites : (flags : List Bool) (base : ℕ) (m : syntax.Member Span) → begins_by itself (member_mark m) base ≡ b.at.base → (sites : List (Site RunKeys)) → AllBehind b.at.base sites → (list : List raw.PlacedSite)
      → map placed_of list ≡ map (placed (given_of p b flags base m)) sites → AreSitesOf p file b sites list
  footprint_sites flags base m start sites behind list e = record {
    are = sym (map-map (λ (s : PlacedSite). s.site) (placed (given_of p b flags base m)) sites) ∙ ap (map (λ (s : PlacedSite). s.site)) (sym e) ∙ map-map (λ (s : PlacedSite). s.site) placed_of list;
    places = counted sites behind ∙ sym (map-map (λ (s : PlacedSite). b.at.base + s.at) (placed (given_of p b flags base m)) sites) ∙ ap (map (λ (s : PlacedSite). b.at.base + s.at)) (sym e) ∙ map-map (λ (s : PlacedSite). b.at.base + s.at) placed_of list;
  }
    where
      counted : (ss : List (Site RunKeys)) → AllBehind b.at.base ss → map (λ (s : Site RunKeys). s.at.at) ss ≡ map (λ (s : Site RunKeys). b.at.base + (s.at.at - begins_by itself (member_mark m) base)) ss
      counted [] h = refl
      counted (s ∷ ss) h =
          let low = h.0 in
          let same : s.at.at ≡ b.at.base + (s.at.at - begins_by itself (member_mark m) base) = omega (arith, low, start) in
          λ i. same i ∷ counted ss h.1 i

  -- the first ones
  first_sites : (sites front rest : List (Site RunKeys)) → sites ≡ front ++ rest → (list : List raw.PlacedSite) → AreSitesOf p file b sites list → AreSitesOf p file b front (take (length front) list)
  first_sites sites front rest e list h =
      let n = length front in
      let some : take n sites ≡ front = ap (take n) e ∙ take_at front rest n refl in
      subst (λ (l : List (Site RunKeys)). AreSitesOf p file b l (take n list)) some (record {
        are = sym (take-map (action p file b) n sites) ∙ ap (take n) h.are ∙ take-map (λ (s : raw.PlacedSite). site_of s.site) n list;
        places = sym (take-map (λ (s : Site RunKeys). s.at.at) n sites) ∙ ap (take n) h.places ∙ take-map (λ (s : raw.PlacedSite). b.at.base + s.at) n list;
      })

pub fronts_are_of_body : WhatComesBeforeStandsInFront ClassKey FieldKey MethodKey CtorKey Place Span → FrontsAreOfBody
fronts_are_of_body law p file b test f s d evaluated list h =
    let X = known p b test in
    let r = law X f (statement.more s statement.end) (first s statement.end d) evaluated in
    first_sites p file b (sites_of (stmts_way X (statement.more s statement.end))) (stmt_before X d) (sites_of (exp_way X f) ++ r.rest) r.is list h

-- ---- what comes between

module _ {K : Keys} {A : Type 0} (X : Known K A) {f : tree.Exp A} where
  pub are_between : (b : statement.Stmts A) (d : ListWay f b) → AreBetween X d
  are_between _ (first s ss d) = record {
    before = refl;
    through = sym (append-nil (sites_of (stmt_way X s)));
    within = omega arith;
  }
  are_between _ (later s ss d) =
      let r = are_between ss d in
      let le = r.within in record {
        before = ap (λ (l : List (Site K)). sites_of (stmt_way X s) ++ l) r.before ∙ sym (append_assoc (sites_of (stmt_way X s)) (sites_of (stmts_way X (taken (list_step d) ss))) (stmt_before X (own d).way));
        through = ap (λ (l : List (Site K)). sites_of (stmt_way X s) ++ l) r.through;
        within = omega (arith, le);
      }

-- ---- lost pairs

same_bool : (b c : Bool) → (IsTrue b → IsTrue c) → (IsTrue c → IsTrue b) → b ≡ c
same_bool true true to from = refl
same_bool false false to from = refl
same_bool true false to from = absurd (let e = to refl in cc)
same_bool false true to from = absurd (let e = from refl in cc)

module _ (p : Program Span) (file : ℕ) (b : Body) where
  one_test : (m n : tree.Exp Span → Bool) → TellsNeverNull p b m → TellsNeverNull p b n → m ≡ n
  one_test m n x y = λ i e. same_bool (m e) (n e) (λ t. (y e).1 ((x e).0 t)) (λ t. (x e).1 ((y e).0 t)) i

  abbrev Shown : Type 0
  Shown = shown.Site FieldKey LocalKey

  abbrev place_at : ℕ → text.Place
  place_at n = record { file = file; at = n }

  -- the site of a number
  record SiteThere (sites : List (Site RunKeys)) (number : ℕ) (s : SiteAt) : Type 0 where
    one : Site RunKeys
    stands : slice_get sites number ≡ Some one
    is : site_at p file b one ≡ s

  some_of : {Y Z : Type 0} (f : Y → Z) (o : Option Y) (z : Z) → option_map f o ≡ Some z → (y : Y) × (o ≡ Some y) × (f y ≡ z)
  some_of f None z e = absurd (none-some z e)
  some_of f (Some y) z e = (y, refl, same_Some (f y) z e)

  site_there : (sites : List (Site RunKeys)) (list : List raw.PlacedSite) → AreSitesOf p file b sites list → (number : ℕ) (s : SiteAt) → Stands file b.at.base list number s → SiteThere sites number s
  site_there sites list h number s t =
      let seen : option_map (action p file b) (slice_get sites number) ≡ Some (site_of t.of.site) =
      sym (slice_get-map (action p file b) sites number) ∙ ap (λ (l : List Shown). slice_get l number) h.are ∙ slice_get-map (λ (x : raw.PlacedSite). site_of x.site) list number ∙ ap (option_map (λ (x : raw.PlacedSite). site_of x.site)) t.stands in
      let place : option_map (λ (x : Site RunKeys). x.at.at) (slice_get sites number) ≡ Some (b.at.base + t.of.at) =
      sym (slice_get-map (λ (x : Site RunKeys). x.at.at) sites number) ∙ ap (λ (l : List ℕ). slice_get l number) h.places ∙ slice_get-map (λ (x : raw.PlacedSite). b.at.base + x.at) list number ∙ ap (option_map (λ (x : raw.PlacedSite). b.at.base + x.at)) t.stands in
      let r = some_of (action p file b) (slice_get sites number) (site_of t.of.site) seen in
      let at : r.0.at.at ≡ b.at.base + t.of.at = same_Some r.0.at.at (b.at.base + t.of.at) (ap (option_map (λ (x : Site RunKeys). x.at.at)) (sym r.1) ∙ place) in
      let here : action p file b r.0 ≡ s.site = r.2 ∙ t.site in
      let there : place_at r.0.at.at ≡ s.place = ap place_at at ∙ sym t.place in
      record { one = r.0; stands = r.1; is = λ i. record { place = there i; site = here i } }

  none_and_some : (xs ys : List Shown) (i j : ℕ) (kind : DepKind) → IsCrossing (λ (f g : FieldKey). f ≡ g) (λ (k l : LocalKey). k ≡ l) xs ys None → IsCrossing (λ (f g : FieldKey). f ≡ g) (λ (k l : LocalKey). k ≡ l) xs ys (Some (i, j, kind)) → ⊥
  none_and_some xs ys i j kind none (inl h) = none.ordered i j kind h.0
  none_and_some xs ys i j kind none (inr (inl h)) = none.accesses i j kind h.1.0
  none_and_some xs ys i j kind none (inr (inr h)) = none.locals i j kind h.2.0

  module _ (test : tree.Exp Span → Bool) (tells : TellsNeverNull p b test) (front back : Piece) (before moved : List raw.PlacedSite) (one : AreSitesOf p file b (front (known p b test)) before) (other : AreSitesOf p file b (back (known p b test)) moved) where
    pub lost : (o : Option DepPair) → IsLostPair file b.at.base before moved o → TellsLost (Crossed p file b front back) o
    lost None none = λ kind x y c.
        let same = one_test c.never_null test c.tells tells in
        let there = subst (λ (t : tree.Exp Span → Bool). IsCrossing (λ (f g : FieldKey). f ≡ g) (λ (k l : LocalKey). k ≡ l) (map (action p file b) (front (known p b t))) (map (action p file b) (back (known p b t))) (Some (c.i, c.j, kind))) same c.crossing in
        none_and_some (map (action p file b) (front (known p b test))) (map (action p file b) (back (known p b test))) c.i c.j kind
        (subst (λ (l : List Shown). IsCrossing (λ (f g : FieldKey). f ≡ g) (λ (k l : LocalKey). k ≡ l) l (map (action p file b) (back (known p b test))) None) (sym one.are) (subst (λ (l : List Shown). IsCrossing (λ (f g : FieldKey). f ≡ g) (λ (k l : LocalKey). k ≡ l) (sites_in before) l None) (sym other.are) none)) there
    lost (Some q) pair =
        let x = site_there (front (known p b test)) before one pair.i q.first pair.first in
        let y = site_there (back (known p b test)) moved other pair.j q.second pair.second in
        record {
          never_null = test;
          tells = tells;
          i = pair.i;
          j = pair.j;
          crossing = subst (λ (l : List Shown). IsCrossing (λ (f g : FieldKey). f ≡ g) (λ (k l : LocalKey). k ≡ l) l (map (action p file b) (back (known p b test))) (Some (pair.i, pair.j, q.kind))) (sym one.are) (subst (λ (l : List Shown). IsCrossing (λ (f g : FieldKey). f ≡ g) (λ (k l : LocalKey). k ≡ l) (sites_in before) l (Some (pair.i, pair.j, q.kind))) (sym other.are) pair.crossing);
          one = x.one;
          other = y.one;
          one_stands = x.stands;
          other_stands = y.stands;
          first_is = x.is;
          second_is = y.is;
        }

pub pieces_are_lost : PiecesAreLost
pieces_are_lost p file b test tells front back before moved one other o h = lost p file b test tells front back before moved one other o h
