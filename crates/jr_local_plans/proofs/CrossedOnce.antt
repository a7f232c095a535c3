-- Two pieces of a body lose one pair of sites.
use Rattle.std.proofs.Common.{◌≡◌, ℕ, Bool, true, false, Some, refl, sym, ap, ◌∙◌, subst}
use Rattle.std.specs.Prelude.{IsTrue, map, slice_get}
use Rattle.std.proofs.lemmas.Option.{same_Some}
use Rattle.jr_text.specs.declared.spans.Span.{Span}
use Rattle.jr_ast.specs.Tree as tree
use Rattle.jr_sync.specs.declared.sites.DepKind.{DepKind}
use Rattle.jr_sync.specs.Crossing.{IsCrossing}
use Rattle.jr_table.specs.Keys.{FieldKey}
use Rattle.jr_table.specs.Decls.{LocalKey}
use Rattle.jr_names.specs.Sites.{SiteAt}
use Rattle.jr_bind.specs.Programs.{Program}
use Rattle.jr_code.specs.RunKeys.{RunKeys}
use Rattle.jr_cover.specs.Sites.{Site}
use Rattle.jr_local.specs.Bodies.{Body}
use Rattle.jr_local.specs.BodyFacts.{TellsNeverNull, known}
use Rattle.jr_local.specs.Crossing.{Piece, action, site_at, Crossed}
use Rattle.jr_one_plans.proofs.OneCrossing.{crossing_once}

same_test : (b c : Bool) → (IsTrue b → IsTrue c) → (IsTrue c → IsTrue b) → b ≡ c
same_test true true to from = refl
same_test false false to from = refl
same_test true false to from = absurd (let e = to refl in cc)
same_test false true to from = absurd (let e = from refl in cc)

module _ (p : Program Span) (file : ℕ) (b : Body) where
  one_test : (m n : tree.Exp Span → Bool) → TellsNeverNull p b m → TellsNeverNull p b n → m ≡ n
  one_test m n x y = λ i e. same_test (m e) (n e) (λ t. (y e).1 ((x e).0 t)) (λ t. (x e).1 ((y e).0 t)) i

  -- the sites of a pair, by one test
  record Pair (first second : Piece) (never_null : tree.Exp Span → Bool) (k : DepKind) (x y : SiteAt) : Type 0 where
    i : ℕ
    j : ℕ
    crossing : IsCrossing (λ (f g : FieldKey). f ≡ g) (λ (m n : LocalKey). m ≡ n) (map (action p file b) (first (known p b never_null))) (map (action p file b) (second (known p b never_null))) (Some (i, j, k))
    one : Site RunKeys
    other : Site RunKeys
    one_stands : slice_get (first (known p b never_null)) i ≡ Some one
    other_stands : slice_get (second (known p b never_null)) j ≡ Some other
    first_is : site_at p file b one ≡ x
    second_is : site_at p file b other ≡ y

  pair_of : (first second : Piece) (k : DepKind) (x y : SiteAt) (h : Crossed p file b first second k x y) → Pair first second h.never_null k x y
  pair_of first second k x y h = record {
    i = h.i;
    j = h.j;
    crossing = h.crossing;
    one = h.one;
    other = h.other;
    one_stands = h.one_stands;
    other_stands = h.other_stands;
    first_is = h.first_is;
    second_is = h.second_is;
  }

  pair_once : (first second : Piece) (n : tree.Exp Span → Bool) (k l : DepKind) (x y u v : SiteAt) → Pair first second n k x y → Pair first second n l u v → (k ≡ l) × (x ≡ u) × (y ≡ v)
  pair_once first second n k l x y u v g h =
      let same = crossing_once (λ (f g : FieldKey). f ≡ g) (λ (m n : LocalKey). m ≡ n) (map (action p file b) (first (known p b n))) (map (action p file b) (second (known p b n))) g.i g.j h.i h.j k l g.crossing h.crossing in
      let one : g.one ≡ h.one = same_Some g.one h.one (sym g.one_stands ∙ ap (slice_get (first (known p b n))) same.0 ∙ h.one_stands) in
      let other : g.other ≡ h.other = same_Some g.other h.other (sym g.other_stands ∙ ap (slice_get (second (known p b n))) same.1 ∙ h.other_stands) in
      (same.2, sym g.first_is ∙ ap (site_at p file b) one ∙ h.first_is, sym g.second_is ∙ ap (site_at p file b) other ∙ h.second_is)

  pub crossed_once : (first second : Piece) (k l : DepKind) (x y u v : SiteAt) → Crossed p file b first second k x y → Crossed p file b first second l u v → (k ≡ l) × (x ≡ u) × (y ≡ v)
  crossed_once first second k l x y u v g h =
      pair_once first second g.never_null k l x y u v (pair_of first second k x y g)
      (subst (λ (n : tree.Exp Span → Bool). Pair first second n l u v) (sym (one_test g.never_null h.never_null g.tells h.tells)) (pair_of first second l u v h))
