-- All that a body has is found by paths from its member, with the ways that it has by its spans.
use Rattle.std.proofs.Common.{◌≡◌, ℕ, zero, suc, ◌+◌, ◌-◌, ◌≤◌, Bool, true, false, List, [], ◌∷◌, ◌++◌, length, take, drop, Option, Some, None, refl, sym, ap, subst, ◌∙◌, arith}
use Rattle.std.specs.Prelude.{IsTrue, slice_get, option_and_then}
use Rattle.jr_text.specs.declared.spans.Span.{Span}
use Rattle.jr_ast.specs.Tree as tree
use Rattle.jr_ast.specs.StatementTree as statement
use Rattle.jr_ast.specs.MemberTree as syntax
use Rattle.jr_ast.specs.Nodes as nodes
use Rattle.jr_ast.specs.Nodes.{Node, node_at, exp_at, child_of, children_of}
use Rattle.jr_grammar.specs.Layout.{itself}
use Rattle.jr_runs.specs.Keys.{Keys}
use Rattle.jr_bind.specs.Bounds.{decl_in}
use Rattle.jr_bind.specs.Programs.{Program}
use Rattle.jr_code.specs.RunKeys.{RunKeys}
use Rattle.jr_cover.specs.Sites.{Known}
use Rattle.jr_cover.specs.Spots.{Spot, onto, spot_exp, spot_stmt, spot_stmts}
use Rattle.jr_expr_sites.specs.KnownFacts.{Others, is_never_null}
use Rattle.jr_expr_sites.specs.Meanings.{meaning_of, variable_of, is_class}
use Rattle.jr_expr_sites.specs.Routes.{spots}
use Rattle.jr_cfg.specs.MemberRoutes.{NumbersMember}
use Rattle.jr_pieces.specs.Ways.{ListWay, first, later}
use Rattle.jr_pieces.specs.Finding.{stmt_path, list_path}
use Rattle.jr_pieces.specs.Nesting.{SpansTellWays, StandingListsAreNested, end_from}
use Rattle.jr_way_places.specs.PlacedWays.{list_step, list_rest}
use Rattle.jr_local_search.proofs.Paths.{list_ends}
use Rattle.jr_piece_sites.specs.Leads.{AreParts, spots_of}
use Rattle.jr_local_moves.specs.SpotWays.{IsSame, StmtCasts, ListCasts}
use Rattle.jr_local_moves.proofs.SpotsSeen.{exp_same, list_same}
use Rattle.jr_local.specs.Bodies.{Body}
use Rattle.jr_local.specs.BodyFacts.{TellsNeverNull, may_fail, words_in}
use Rattle.jr_local_footprints.specs.Ranges.{dropped, taken, size, own}
use Rattle.jr_local_footprints.specs.Givens.{IsMemberOf, FlagsTell, given_of}
use Rattle.jr_local_footprints.specs.SeenPieces.{by_spans, by_spots, whole, ExpIsSeen, StmtsAreSeen, FrontIsSeen, element, held, StandsAt, SomeAreSeen, FrontsAreSeen, IsSeen}
use Rattle.jr_local_footprints.proofs.SpottedWays.{list_spotted, stmt_spotted}
use Rattle.jr_local_footprints.proofs.HeldLists.{get_behind, head_of, node_here, node_onto, way_leads, Held, list_held, same_front}
use Rattle.jr_local_footprints.proofs.BodyTokens.{ListStands, nested_from}
use Rattle.jr_local_footprints.proofs.WordsRise.{words_ascend, position_is}
use Rattle.jr_local_footprints.proofs.BodyCasts.{list_casts}
use Rattle.jr_local_footprints.proofs.Roots.{B, E, RootOf, root_of}

-- ---- some elements of a list

module _ {K : Keys} (X : Known K Span) (Y : Known K Spot) where
  abbrev Casts : statement.Stmts Span → ℕ → List ℕ → ℕ → Type 0
  Casts ss base p i = ListCasts B E X Y ss base p i

  dropped_casts : (n : ℕ) (ss : statement.Stmts Span) (base : ℕ) (p : List ℕ) (i j : ℕ) → j ≡ i + n → Casts ss base p i → Casts (dropped n ss) base p j
  dropped_casts zero ss base p i j e c = let same : i ≡ j = omega (arith, e) in subst (λ (k : ℕ). Casts ss base p k) same c
  dropped_casts (suc n) statement.end base p i j e c = tt
  dropped_casts (suc n) (statement.more s ss) base p i j e c = dropped_casts n ss base p (suc i) j (omega (arith, e)) c.1

  taken_casts : (n : ℕ) (ss : statement.Stmts Span) (base : ℕ) (p : List ℕ) (i : ℕ) → Casts ss base p i → Casts (taken n ss) base p i
  taken_casts zero ss base p i c = tt
  taken_casts (suc n) statement.end base p i c = tt
  taken_casts (suc n) (statement.more s ss) base p i c = (c.0, taken_casts n ss base p (suc i) c.1)

  own_casts : {g : tree.Exp Span} (ss : statement.Stmts Span) (w : ListWay g ss) (base : ℕ) (p : List ℕ) (i j : ℕ) → j ≡ i + list_step w → Casts ss base p i → StmtCasts B E X Y (own w).stmt base (onto p j)
  own_casts _ (first s ss d) base p i j e c = let same : i ≡ j = omega (arith, e) in subst (λ (k : ℕ). StmtCasts B E X Y s base (onto p k)) same c.0
  own_casts _ (later s ss d) base p i j e c = own_casts ss d base p (suc i) j (omega (arith, e)) c.1

module _ (base : ℕ) (p : List ℕ) where
  abbrev Nodes : statement.Stmts Span → ℕ → List (Node Spot)
  Nodes ss i = nodes.stmts (spot_stmts B E ss base p i)

  dropped_nodes : (n : ℕ) (ss : statement.Stmts Span) (i j : ℕ) → j ≡ i + n → drop n (Nodes ss i) ≡ Nodes (dropped n ss) j
  unfolding spot_stmts
  dropped_nodes zero ss i j e = let same : i ≡ j = omega (arith, e) in ap (Nodes ss) same
  dropped_nodes (suc n) statement.end i j e = refl
  dropped_nodes (suc n) (statement.more s ss) i j e = dropped_nodes n ss (suc i) j (omega (arith, e))

  taken_nodes : (n : ℕ) (ss : statement.Stmts Span) (i : ℕ) → take n (Nodes ss i) ≡ Nodes (taken n ss) i
  unfolding spot_stmts
  taken_nodes zero ss i = refl
  taken_nodes (suc n) statement.end i = refl
  taken_nodes (suc n) (statement.more s ss) i = ap (λ (l : List (Node Spot)). nodes.stmt (spot_stmt B E s base (onto p i)) ∷ l) (taken_nodes n ss (suc i))

  nodes_long : (ss : statement.Stmts Span) (i : ℕ) → length (Nodes ss i) ≡ size ss
  unfolding spot_stmts
  nodes_long statement.end i = refl
  nodes_long (statement.more s ss) i = ap suc (nodes_long ss (suc i))

  own_node : {g : tree.Exp Span} (ss : statement.Stmts Span) (w : ListWay g ss) (i j : ℕ) → j ≡ i + list_step w → slice_get (Nodes ss i) (list_step w) ≡ Some (nodes.stmt (spot_stmt B E (own w).stmt base (onto p j)))
  unfolding spot_stmts
  own_node _ (first s ss d) i j e = let same : i ≡ j = omega (arith, e) in ap (λ (k : ℕ). Some (nodes.stmt (spot_stmt B E s base (onto p k)))) same
  own_node _ (later s ss d) i j e = own_node ss d (suc i) j (omega (arith, e))

taken_size : (n : ℕ) (ss : statement.Stmts Span) → n ≤ size ss → size (taken n ss) ≡ n
taken_size zero ss le = refl
taken_size (suc n) statement.end le = absurd (omega (arith, le))
taken_size (suc n) (statement.more s ss) le = ap suc (taken_size n ss (omega (arith, le)))

dropped_size : (n k : ℕ) (ss : statement.Stmts Span) → n + k ≤ size ss → k ≤ size (dropped n ss)
dropped_size zero k ss le = omega (arith, le)
dropped_size (suc n) k statement.end le = absurd (omega (arith, le))
dropped_size (suc n) k (statement.more s ss) le = dropped_size n k ss (omega (arith, le))

own_rest : {g : tree.Exp Span} (ss : statement.Stmts Span) (w : ListWay g ss) → stmt_path (own w).way ≡ list_rest w
own_rest _ (first s ss d) = refl
own_rest _ (later s ss d) = own_rest ss d

take_same : {Z : Type 0} (xs : List Z) (j k n : ℕ) → j ≡ k → take n (drop j xs) ≡ take n (drop k xs)
take_same xs j k n e = ap (λ (i : ℕ). take n (drop i xs)) e

drop_more : {Z : Type 0} (xs : List Z) (i n : ℕ) → drop (i + n) xs ≡ drop n (drop i xs)
drop_more xs zero n = ap (λ (k : ℕ). drop k xs) (let e : 0 + n ≡ n = omega arith in e)
drop_more [] (suc i) n = none i n
  where
    all_none : {Z : Type 0} (n : ℕ) → (let none : List Z = [] in drop n none ≡ none)
    all_none zero = refl
    all_none (suc n) = refl

    none : {Z : Type 0} (i n : ℕ) → (let none : List Z = [] in drop (suc i + n) none ≡ drop n none)
    none i n = all_none (suc i + n) ∙ sym (all_none n)
drop_more (x ∷ xs) (suc i) n = ap (λ (k : ℕ). drop k (x ∷ xs)) (let e : suc i + n ≡ suc (i + n) = omega arith in e) ∙ drop_more xs i n

-- ---- a test and flags that tell the same

same_bool : (b c : Bool) → (IsTrue b → IsTrue c) → (IsTrue c → IsTrue b) → b ≡ c
same_bool true true to from = refl
same_bool false false to from = refl
same_bool true false to from = absurd (let e = to refl in cc)
same_bool false true to from = absurd (let e = from refl in cc)

module _ (tell : SpansTellWays Span) (law : StandingListsAreNested Span) (p : Program Span) (b : Body) (stands : ListStands b.at.base b.list) (base : ℕ) (m : syntax.Member Span) (is : IsMemberOf b base m)
    (flags : List Bool) (flags_tell : FlagsTell p b flags base m) (test : tree.Exp Span → Bool) (tells : TellsNeverNull p b test) (o : Others) (numbers : NumbersMember itself base m o) where
  abbrev X : Known RunKeys Span
  X = by_spans p b test flags base m o

  abbrev Y : Known RunKeys Spot
  Y = by_spots p b test flags base m o

  abbrev all : Node Spot
  all = whole p b test flags base m o

  root : RootOf b base m
  root = root_of b.key base m b.bound b is

  same : IsSame B E X Y
  same = record {
    marks = λ s at path. record {
      first = refl;
      last = refl;
      variable = λ i. variable_of p.rows (meaning_of (decl_in b.bound.references (s.from - sym root.start i)));
      is_class = λ i. is_class (meaning_of (decl_in b.bound.references (s.from - sym root.start i)));
    };
    never_null = λ e at path. same_bool (test e) (is_never_null (given_of p b flags base m) (spots itself path at e)) (λ t. (flags_tell e at path).1 ((tells e).0 t)) (λ t. (tells e).1 ((flags_tell e at path).0 t));
  }

  casts : ListCasts B E X Y b.list b.at.base [] b.front
  casts = list_casts B E X Y b.list b.front cast b.at.next b.list b.at.base [] b.front (root.numbers o numbers) (λ i w e. ap (λ (k : ℕ). b.at.next + k) (position_is (words_in b.list) (words_ascend b.list stands.tokens stands.stands stands.rise) i w e)) (λ f w. (w, refl))
    where
      cast : (s : Span) (t : tree.TypeName Span) (e : tree.Exp Span) (d : ListWay (tree.cast s t e) b.list) (at : ℕ) → X.facts.is_checked s ≡ may_fail p b (Some (list_path b.front d))
      cast s t e d at = ap (may_fail p b) (tell itself (record { from = b.at.base; to = end_from (suc b.at.base) stands.tokens }) (suc b.at.base) b.front b.list (nested_from law b.at.base b.list stands) (tree.cast s t e) d s (list_ends (tree.cast s t e) b.list d b.at.base))

  exps : (f : tree.Exp Span) (d : ListWay f b.list) → ExpIsSeen p b test flags base m o f (list_path b.front d)
  exps f d =
      let r = list_spotted B E X Y same b.list d b.at.base [] b.front casts in record {
        exp = spot_exp B E f r.at r.place;
        at = subst (λ (q : List ℕ). exp_at all q ≡ Some (spot_exp B E f r.at r.place)) r.path (way_leads all (spot_stmts B E b.list b.at.base [] b.front) b.front root.children (spot_exp B E f r.at r.place) r.way);
        way_is = sym (exp_same B E X Y same f r.at r.place r.casts);
      }

  module _ (f : tree.Exp Span) (d : ListWay f b.list) where
    abbrev ss : statement.Stmts Span
    ss = held p b test flags base m o d

    there : Held B E X Y all (element p b test flags base m o d) (list_path b.front d)
    there = list_held B E X Y all b.list d b.at b.at.base [] b.front all (node_here all) root.children casts

    stmts_there : SomeAreSeen p b test flags base m o d there.around there.step
    stmts_there n count le =
        let from = there.step + n in
        let to = from + count in
        let some = taken count (dropped n ss) in
        let same_count : to - from ≡ count = omega arith in
        let are : take count (drop from (children_of there.node)) ≡ nodes.stmts (spot_stmts B E some there.base there.around from) =
        ap (take count) (drop_more (children_of there.node) there.step n ∙ ap (drop n) there.are ∙ dropped_nodes there.base there.around n ss there.step from refl)
        ∙ taken_nodes there.base there.around count (dropped n ss) from in
        record {
          node = there.node;
          at = there.at;
          list = spot_stmts B E some there.base there.around from;
          are = record {
            ordered = (let low : from ≤ to = omega arith in low);
            are = ap (λ (k : ℕ). take k (drop from (children_of there.node))) same_count ∙ are;
            all = nodes_long there.base there.around some from ∙ taken_size count (dropped n ss) (dropped_size n count ss le) ∙ sym same_count;
          };
          way_is = sym (list_same B E X Y same some there.base there.around from (taken_casts X Y count (dropped n ss) there.base there.around from (dropped_casts X Y n ss there.base there.around there.step from refl there.casts)));
        }

    fronts_there : FrontsAreSeen p b test flags base m o d there.around there.step
    fronts_there g w =
        let number = there.step + list_step w in
        let place = onto there.around number in
        let s = (own w).stmt in
        let c = own_casts X Y ss w there.base there.around there.step number refl there.casts in
        let r = stmt_spotted B E X Y same s (own w).way there.base place c in
        let child : child_of there.node number ≡ Some (nodes.stmt (spot_stmt B E s there.base place)) =
        sym (get_behind (children_of there.node) there.step (list_step w) number refl) ∙ ap (λ (l : List (Node Spot)). slice_get l (list_step w)) there.are ∙ own_node there.base there.around ss w there.step number refl in
        record {
          stmt = spot_stmt B E s there.base place;
          at = ap (option_and_then nodes.as_stmt) (node_onto there.around number all there.node (nodes.stmt (spot_stmt B E s there.base place)) there.at child);
          exp = spot_exp B E g r.at r.place;
          way = r.way;
          path = r.path ∙ own_rest ss w;
          before_is = sym r.before;
        }

    module _ (around : List ℕ) (step : ℕ) (stand : StandsAt p b test flags base m o d around step) where
      one_place : (there.around ≡ around) × (there.step ≡ step)
      one_place = same_front there.around around (stmt_path (element p b test flags base m o d).way) there.step step (sym there.path ∙ stand)

      stmts_seen : SomeAreSeen p b test flags base m o d around step
      stmts_seen n count le =
          subst (λ (q : List ℕ). StmtsAreSeen p b test flags base m o (taken count (dropped n ss)) q (step + n) (step + n + count)) one_place.0
          (subst (λ (k : ℕ). StmtsAreSeen p b test flags base m o (taken count (dropped n ss)) there.around (k + n) (k + n + count)) one_place.1 (stmts_there n count le))

      fronts_seen : FrontsAreSeen p b test flags base m o d around step
      fronts_seen g w =
          subst (λ (q : List ℕ). FrontIsSeen p b test flags base m o (own w).way (q ++ (step + list_step w) ∷ []) (list_rest w)) one_place.0
          (subst (λ (k : ℕ). FrontIsSeen p b test flags base m o (own w).way (there.around ++ (k + list_step w) ∷ []) (list_rest w)) one_place.1 (fronts_there g w))

  pub is_seen : IsSeen p b test flags base m o
  is_seen = record {
    exps = exps;
    stmts = λ f d around step stand n count le. stmts_seen f d around step stand n count le;
    fronts = λ f d around step stand g w. fronts_seen f d around step stand g w;
  }
