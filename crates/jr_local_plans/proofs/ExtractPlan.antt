-- Extract local has one plan, or is refused for one reason.
use Rattle.std.proofs.Common.{◌≡◌, ℕ, List, sym, subst}
use Rattle.jr_text.specs.declared.spans.Span.{Span}
use Rattle.jr_sync.specs.declared.sites.DepKind.{DepKind}
use Rattle.jr_table.specs.Decls.{MemberKey}
use Rattle.jr_names.specs.Sites.{SiteAt}
use Rattle.jr_bind.specs.Bounds.{Bound}
use Rattle.jr_bind.specs.Programs.{Program}
use Rattle.jr_cover.specs.Ways.{sites_of}
use Rattle.jr_cover.specs.Sites.{exp_way}
use Rattle.jr_pieces.specs.Before.{stmt_before}
use Rattle.jr_plan.specs.Reasons.{HasOnePlan}
use Rattle.jr_local.specs.Crossing.{Piece, Crossed}
use Rattle.jr_local.specs.Selecting.{Selected}
use Rattle.jr_local.specs.Extracted.{Crosses, extract_local}
use Rattle.jr_one_plans.proofs.Beside.{beside, IsWhole, is_beside}
use Rattle.jr_one_plans.proofs.DoAlike.{FindAlike, one_plan}
use Rattle.jr_local_plans.specs.OnePlan.{ExtractIsOne}
use Rattle.jr_local_plans.proofs.Frames.{frame_of, with_bound, Placed, element_of}
use Rattle.jr_local_plans.proofs.BodiesOnce.{Laws}
use Rattle.jr_local_plans.proofs.SameSites.{crossed_there}
use Rattle.jr_local_plans.proofs.CrossedOnce.{crossed_once}
use Rattle.jr_local_plans.proofs.ExtractFound.{place_of, bounds_alike, one_place, own, found_there, found_here}
use Rattle.jr_local_plans.proofs.ExtractMade.{make_alike}

-- what is evaluated before the expression, and the expression
abbrev before_of : Placed → Piece
before_of c = λ X. stmt_before X (element_of c).way

abbrev own_of : Placed → Piece
own_of c = λ X. sites_of (exp_way X c.value)

module _ (laws : Laws) (p : Program Span) (s : MemberKey → ℕ) (bs : List Bound) (is : IsWhole p) (also : IsWhole (beside p s bs)) (file from to : ℕ) (name : List ℕ) where
  abbrev q : Program Span
  q = beside p s bs

  module _ (x : Selected p file from to) (y : Selected q file from to) where
    place : place_of x ≡ place_of y
    place = one_place laws p s bs is also file from to x y

    -- of the other program, in the same place
    abbrev CrossedAt : Placed → DepKind → SiteAt → SiteAt → Type 0
    CrossedAt c k i j = Crossed q file (with_bound c.frame y.body.bound) (before_of c) (own_of c) k i j

    there : (k : DepKind) (i j : SiteAt) → Crosses p file from to name x k i j → CrossedAt (place_of x) k i j
    there k i j h = crossed_there p s bs x.body y.body.bound (bounds_alike laws p s bs is also file from to x y) file (before_of (place_of x)) (own_of (place_of x)) k i j h

    crossings : (k l : DepKind) (i j m n : SiteAt) → Crosses p file from to name x k i j → Crosses q file from to name y l m n → (k ≡ l) × (i ≡ m) × (j ≡ n)
    crossings k l i j m n h g =
        crossed_once q file (with_bound (frame_of x.body) y.body.bound) (before_of (place_of x)) (own_of (place_of x)) k l i j m n (there k i j h) (subst (λ (c : Placed). CrossedAt c l m n) (sym place) g)

    crossed : (k : DepKind) (i j : SiteAt) → Crosses p file from to name x k i j → Crosses q file from to name y k i j
    crossed k i j h = subst (λ (c : Placed). CrossedAt c k i j) place (there k i j h)

  find_alike : FindAlike (extract_local p file from to name) (extract_local q file from to name)
  find_alike = record {
    own = own laws p s bs is also file from to name;
    found_there = found_there laws p s bs is also file from to name;
    found_here = found_here laws p s bs is also file from to name;
    make = λ x y. make_alike laws p s bs is also file from to name x y;
    crossings = λ x y k l i j m n g h. crossings x.selected y.selected k l i j m n g h;
    crossed = λ x y k i j h. crossed x.selected y.selected k i j h;
  }

  one_beside : HasOnePlan p q (extract_local p file from to name) (extract_local q file from to name)
  one_beside = one_plan laws.keys laws.one laws.binding laws.written p s bs is also (extract_local p file from to name) (extract_local q file from to name) find_alike

pub extract_is_one : Laws → ExtractIsOne
extract_is_one laws p q is also same file from to name =
    let there = is_beside p q is also same in
    subst (λ (r : Program Span). HasOnePlan p r (extract_local p file from to name) (extract_local r file from to name)) there (one_beside laws p q.super_at q.bounds is (subst IsWhole (sym there) also) file from to name)
