-- Inline local has one plan, or is refused for one reason.
use Rattle.std.proofs.Common.{◌≡◌, ◌⊎◌, inl, inr, ℕ, ◌<◌, List, None, sym, subst}
use Rattle.std.proofs.lemmas.Bool.{cases_order}
use Rattle.jr_text.specs.declared.spans.Span.{Span}
use Rattle.jr_ast.specs.Tree as tree
use Rattle.jr_sync.specs.declared.sites.DepKind.{DepKind}
use Rattle.jr_table.specs.Decls.{MemberKey}
use Rattle.jr_names.specs.Sites.{SiteAt}
use Rattle.jr_bind.specs.Bounds.{Bound}
use Rattle.jr_bind.specs.Programs.{Program}
use Rattle.jr_cursor.specs.TargetLaws.{OneIsTarget}
use Rattle.jr_cover.specs.Ways.{sites_of}
use Rattle.jr_cover.specs.Sites.{exp_way}
use Rattle.jr_pieces.specs.Ways.{ListWay}
use Rattle.jr_pieces.specs.Before.{between}
use Rattle.jr_pieces.specs.Bars.{list_barred}
use Rattle.jr_local_search.specs.DeclarationLaws.{WaysAreDeclared}
use Rattle.jr_told_ways.specs.Told.{In}
use Rattle.jr_plan.specs.Reasons.{HasOnePlan}
use Rattle.jr_local.specs.Bodies.{begins}
use Rattle.jr_local.specs.Crossing.{Piece, Crossed}
use Rattle.jr_local.specs.Inlining.{Asked}
use Rattle.jr_local.specs.Inlined.{Crosses, inline_local}
use Rattle.jr_one_plans.specs.OneAnswer.{AnswerAlike}
use Rattle.jr_one_plans.proofs.Beside.{beside, IsWhole, is_beside}
use Rattle.jr_one_plans.proofs.DoAlike.{FindAlike, one_plan}
use Rattle.jr_local_plans.specs.OnePlan.{InlineIsOne}
use Rattle.jr_local_plans.proofs.Frames.{frame_of, with_bound, Placed, element_of}
use Rattle.jr_local_plans.proofs.BodiesOnce.{Laws}
use Rattle.jr_local_plans.proofs.SameSites.{crossed_there}
use Rattle.jr_local_plans.proofs.CrossedOnce.{crossed_once}
use Rattle.jr_local_plans.proofs.DeclaredOnce.{bounds_alike}
use Rattle.jr_local_plans.proofs.NamingsAt.{Spot, behind_of, Named, byte_of, ReadAt, way_of}
use Rattle.jr_local_plans.proofs.InlineFound.{named_of, naming_of, spot, one_at_byte, same_key, same_spot, own, found_there, found_here}
use Rattle.jr_local_plans.proofs.InlineMade.{make_alike}

-- the initializer, and what comes between the declaration and a place in the list behind it
abbrev init_of : Placed → Piece
init_of c = λ X. sites_of (exp_way X c.value)

abbrev between_of : (c : Placed) → In (λ (h : tree.Exp Span). ListWay h (element_of c).rest) → Piece
between_of c i = λ X. between X (list_barred begins (behind_of c).base None i.way) i.way

module _ (laws : Laws) (declared : WaysAreDeclared) (targets : OneIsTarget) (p : Program Span) (s : MemberKey → ℕ) (bs : List Bound) (is : IsWhole p) (also : IsWhole (beside p s bs)) (file at : ℕ) where
  abbrev q : Program Span
  q = beside p s bs

  module _ (x : Asked p file at) (y : Asked q file at) where
    same : spot p file at x ≡ spot q file at y
    same = same_spot laws declared targets p s bs is also file at x y

    alike : AnswerAlike x.declared.body.bound y.declared.body.bound
    alike = bounds_alike laws declared p s bs is also file x.key y.key (same_key laws declared targets p s bs is also file at x y) x.declared y.declared

    back : AnswerAlike y.declared.body.bound x.declared.body.bound
    back = record { references = λ n. sym (alike.references n); types = λ path. sym (alike.types path) }

    -- at a place behind the declaration, by what the other program knows of the body
    abbrev CrossIn : (z : Spot) → In (λ (h : tree.Exp Span). ListWay h (element_of z.place).rest) → DepKind → SiteAt → SiteAt → Type 0
    CrossIn z i k a b = Crossed q file (with_bound z.place.frame y.declared.body.bound) (init_of z.place) (between_of z.place i) k a b

    abbrev CrossAt : (z : Spot) → Named p.rows z → DepKind → SiteAt → SiteAt → Type 0
    CrossAt z n k a b = CrossIn z (way_of p.rows z n) k a b

    -- of the first read at which they cross
    abbrev FirstCross : Spot → DepKind → SiteAt → SiteAt → Type 0
    FirstCross z k a b = (n : Named p.rows z) × ReadAt p.rows z n × CrossAt z n k a b
        × ((o : Named p.rows z) → ReadAt p.rows z o → byte_of p.rows z o < byte_of p.rows z n → (other : DepKind) (c d : SiteAt) → CrossAt z o other c d → ⊥)

    abbrev here : Spot
    here = spot p file at x

    -- ---- from this program, and of the other

    cross_there : (n : Named p.rows here) (k : DepKind) (a b : SiteAt) → Crossed p file x.declared.body (init_of here.place) (between_of here.place (way_of p.rows here n)) k a b → CrossAt here n k a b
    cross_there n k a b h = crossed_there p s bs x.declared.body y.declared.body.bound alike file (init_of here.place) (between_of here.place (way_of p.rows here n)) k a b h

    cross_back : (n : Named p.rows here) (k : DepKind) (a b : SiteAt) → CrossAt here n k a b → Crossed p file x.declared.body (init_of here.place) (between_of here.place (way_of p.rows here n)) k a b
    cross_back n k a b h =
        crossed_there q p.super_at p.bounds (with_bound (frame_of x.declared.body) y.declared.body.bound) x.declared.body.bound back file (init_of here.place) (between_of here.place (way_of p.rows here n)) k a b h

    first_here : (k : DepKind) (a b : SiteAt) → Crosses p file at x k a b → FirstCross here k a b
    first_here k a b h =
        (named_of x.declared h.0, h.1, cross_there (named_of x.declared h.0) k a b h.2, λ o r less other c d g. h.3 (naming_of x.declared o) r less other c d (cross_back o other c d g))

    first_there : (k : DepKind) (a b : SiteAt) → Crosses q file at y k a b → FirstCross (spot q file at y) k a b
    first_there k a b h = (named_of y.declared h.0, h.1, h.2, λ o r less other c d g. h.3 (naming_of y.declared o) r less other c d g)

    there_first : (k : DepKind) (a b : SiteAt) → FirstCross (spot q file at y) k a b → Crosses q file at y k a b
    there_first k a b h = (naming_of y.declared h.0, h.1, h.2, λ o r less other c d g. h.3 (named_of y.declared o) r less other c d g)

    -- ---- one pair

    first_once : (k l : DepKind) (a b c d : SiteAt) → FirstCross here k a b → FirstCross here l c d → (k ≡ l) × (a ≡ c) × (b ≡ d)
    first_once k l a b c d g h = by (cases_order (byte_of p.rows here g.0) (byte_of p.rows here h.0))
      where
        by : (byte_of p.rows here g.0 ≡ byte_of p.rows here h.0) ⊎ ((byte_of p.rows here g.0 < byte_of p.rows here h.0) ⊎ (byte_of p.rows here h.0 < byte_of p.rows here g.0)) → (k ≡ l) × (a ≡ c) × (b ≡ d)
        by (inl e) =
            let way = one_at_byte x.declared laws is g.0 h.0 e in
            crossed_once q file (with_bound (frame_of x.declared.body) y.declared.body.bound) (init_of here.place) (between_of here.place (way_of p.rows here g.0)) k l a b c d g.2 (subst (λ i. CrossIn here i l c d) (sym way) h.2)
        by (inr (inl less)) = absurd (h.3 g.0 g.1 less k a b g.2)
        by (inr (inr less)) = absurd (g.3 h.0 h.1 less l c d h.2)

    crossings : (k l : DepKind) (a b c d : SiteAt) → Crosses p file at x k a b → Crosses q file at y l c d → (k ≡ l) × (a ≡ c) × (b ≡ d)
    crossings k l a b c d g h = first_once k l a b c d (first_here k a b g) (subst (λ (z : Spot). FirstCross z l c d) (sym same) (first_there l c d h))

    crossed : (k : DepKind) (a b : SiteAt) → Crosses p file at x k a b → Crosses q file at y k a b
    crossed k a b g = there_first k a b (subst (λ (z : Spot). FirstCross z k a b) same (first_here k a b g))

  find_alike : FindAlike (inline_local p file at) (inline_local q file at)
  find_alike = record {
    own = own laws declared targets p s bs is also file at;
    found_there = found_there laws declared targets p s bs is also file at;
    found_here = found_here laws declared targets p s bs is also file at;
    make = λ x y. make_alike laws declared targets p s bs is also file at x y;
    crossings = λ x y k l i j m n g h. crossings x.asked y.asked k l i j m n g h;
    crossed = λ x y k i j h. crossed x.asked y.asked k i j h;
  }

  one_beside : HasOnePlan p q (inline_local p file at) (inline_local q file at)
  one_beside = one_plan laws.keys laws.one laws.binding laws.written p s bs is also (inline_local p file at) (inline_local q file at) find_alike

pub inline_is_one : Laws → WaysAreDeclared → OneIsTarget → InlineIsOne
inline_is_one laws declared targets p q is also same file at =
    let there = is_beside p q is also same in
    subst (λ (r : Program Span). HasOnePlan p r (inline_local p file at) (inline_local r file at)) there (one_beside laws declared targets p q.super_at q.bounds is (subst IsWhole (sym there) also) file at)
