-- Footprints of what a body has, by the paths to it, have the sites that it has by its spans.
use Rattle.std.proofs.Common.{◌≡◌, ℕ, zero, suc, Bool, List, ◌∷◌, map, Option, Some, None, refl, sym, ap, subst, ◌∙◌}
use Rattle.std.proofs.lemmas.Option.{none-some, same_Some}
use Rattle.jr_text.specs.declared.spans.Span.{Span}
use Rattle.jr_lex.specs.Places.{ItemsPlaced}
use Rattle.jr_ast.specs.Tree as tree
use Rattle.jr_ast.specs.StatementTree as statement
use Rattle.jr_ast.specs.MemberTree as syntax
use Rattle.jr_grammar.specs.Layout.{itself}
use Rattle.jr_members.specs.WrittenLaws.{MembersAreWritten}
use Rattle.jr_bind.specs.Programs.{Program, IsProgram}
use Rattle.jr_code.specs.RunKeys.{RunKeys}
use Rattle.jr_cover.specs.Sites.{Site, exp_way, stmts_way}
use Rattle.jr_cover.specs.Ways.{Way, sites_of}
use Rattle.jr_expr_sites.specs.KnownFacts.{Others}
use Rattle.jr_cfg.specs.MemberRoutes.{NumbersMember}
use Rattle.jr_cfg.specs.Placed.{placed}
use Rattle.jr_sites.specs.declared.sites.PlacedSite as raw
use Rattle.jr_sites.specs.SiteView.{placed_of}
use Rattle.jr_pieces.specs.Ways.{ExpWay, here, in_front, in_target, in_argument, in_super_argument, in_created, in_paren, in_cast, in_unary, in_bump, in_left, in_right, in_assigned, in_value, in_changed, in_change, ExpsWay, first_argument, later_argument}
use Rattle.jr_pieces.specs.Ways.{StmtWay, in_init, in_eval, in_condition, in_then, in_else, in_turning, in_body, in_returned, in_block, in_lock, in_locked, ListWay}
use Rattle.jr_pieces.specs.Ways as ways
use Rattle.jr_pieces.specs.Standings.{Standing, inside, behind, in_other}
use Rattle.jr_pieces.specs.Nearest.{Element, or_element, element_within, nearest}
use Rattle.jr_pieces.specs.Nesting.{SpansTellWays, StandingListsAreNested}
use Rattle.jr_local.specs.Bodies.{begins, Body, HasBody}
use Rattle.jr_local.specs.BodyFacts.{TellsNeverNull, known}
use Rattle.jr_local_footprints.specs.Ranges.{dropped, taken}
use Rattle.jr_local_footprints.specs.Givens.{IsMemberOf, FlagsTell, given_of}
use Rattle.jr_local_footprints.specs.SeenPieces.{held}
use Rattle.jr_local_footprints.specs.Laws.{AreFootprints, FootprintsAreOfBody}
use Rattle.jr_local_footprints.proofs.BodyTokens.{ListStands, body_stands}
use Rattle.jr_local_footprints.proofs.PlacesBehind.{AllBehind, ExpGood, RowGood, StmtGood, StmtsGood, list_good, exp_sites_behind, stmts_sites_behind}
use Rattle.jr_local_footprints.proofs.Roots.{RootOf, root_of}
use Rattle.jr_local_footprints.proofs.SeenBodies.{is_seen}
use Rattle.jr_local_footprints.proofs.Pairs.{footprint_sites}

-- ---- parts stand behind the byte

module _ (lo : ℕ) {f : tree.Exp Span} where
  mutual
    exp_good_there : (e : tree.Exp Span) (d : ExpWay f e) → ExpGood lo e → ExpGood lo f
    exp_good_there _ here h = h
    exp_good_there _ (in_front m e w d) h = exp_good_there e d h.1.0
    exp_good_there _ (in_target m e w es d) h = exp_good_there e d h.1.0
    exp_good_there _ (in_argument m t w es d) h = row_good_there es d h.1.2
    exp_good_there _ (in_super_argument m w es d) h = row_good_there es d h.1.1
    exp_good_there _ (in_created m t es d) h = row_good_there es d h.1
    exp_good_there _ (in_paren m e d) h = exp_good_there e d h.1
    exp_good_there _ (in_cast m t e d) h = exp_good_there e d h.1
    exp_good_there _ (in_unary m o e d) h = exp_good_there e d h.1
    exp_good_there _ (in_bump m o e d) h = exp_good_there e d h.1
    exp_good_there _ (in_left m o x y d) h = exp_good_there x d h.1.0
    exp_good_there _ (in_right m o x y d) h = exp_good_there y d h.1.1
    exp_good_there _ (in_assigned m x y d) h = exp_good_there x d h.1.0
    exp_good_there _ (in_value m x y d) h = exp_good_there y d h.1.1
    exp_good_there _ (in_changed m o x y d) h = exp_good_there x d h.1.0
    exp_good_there _ (in_change m o x y d) h = exp_good_there y d h.1.1

    row_good_there : (es : tree.Exps Span) (d : ExpsWay f es) → RowGood lo es → ExpGood lo f
    row_good_there _ (first_argument e es d) h = exp_good_there e d h.0
    row_good_there _ (later_argument e es d) h = row_good_there es d h.1

  mutual
    stmt_good_there : (s : statement.Stmt Span) (d : StmtWay f s) → StmtGood lo s → ExpGood lo f
    stmt_good_there _ (in_init m is_final t w e d) h = exp_good_there e d h.1
    stmt_good_there _ (in_eval m e d) h = exp_good_there e d h
    stmt_good_there _ (in_condition m c s o d) h = exp_good_there c d h.0
    stmt_good_there _ (in_then m c s o d) h = stmt_good_there s d h.1
    stmt_good_there _ (in_else m c s o d) h = stmt_good_there o d h.2
    stmt_good_there _ (in_turning m c s d) h = exp_good_there c d h.1
    stmt_good_there _ (in_body m c s d) h = stmt_good_there s d h.2
    stmt_good_there _ (in_returned m e d) h = exp_good_there e d h
    stmt_good_there _ (in_block m b d) h = list_good_there b d h
    stmt_good_there _ (in_lock m e b d) h = exp_good_there e d h.1
    stmt_good_there _ (in_locked m e b d) h = list_good_there b d h.2

    list_good_there : (b : statement.Stmts Span) (d : ListWay f b) → StmtsGood lo b → ExpGood lo f
    list_good_there _ (ways.first s ss d) h = stmt_good_there s d h.0
    list_good_there _ (ways.later s ss d) h = list_good_there ss d h.1

  abbrev ElementGood : Element f → Type 0
  ElementGood el = StmtsGood lo (statement.more el.stmt el.rest)

  no_element : (x : Element f) → (let none : Option (Element f) = None in none ≡ Some x) → ⊥
  no_element x e = none-some x e

  mutual
    stmt_held_good : (p : Standing) (s : statement.Stmt Span) (d : StmtWay f s) → StmtGood lo s → (el : Element f) → element_within begins p d ≡ Some el → ElementGood el
    stmt_held_good p _ (in_init m is_final t w e d) h el is = absurd (no_element el is)
    stmt_held_good p _ (in_eval m e d) h el is = absurd (no_element el is)
    stmt_held_good p _ (in_condition m c s o d) h el is = absurd (no_element el is)
    stmt_held_good p _ (in_then m c s o d) h el is = stmt_held_good (inside begins m p) s d h.1 el is
    stmt_held_good p _ (in_else m c s o d) h el is = stmt_held_good (in_other begins m s p) o d h.2 el is
    stmt_held_good p _ (in_turning m c s d) h el is = absurd (no_element el is)
    stmt_held_good p _ (in_body m c s d) h el is = stmt_held_good (inside begins m p) s d h.2 el is
    stmt_held_good p _ (in_returned m e d) h el is = absurd (no_element el is)
    stmt_held_good p _ (in_block m b d) h el is = subst ElementGood (same_Some _ el is) (held_good (inside begins m p) b d h)
    stmt_held_good p _ (in_lock m e b d) h el is = absurd (no_element el is)
    stmt_held_good p _ (in_locked m e b d) h el is = subst ElementGood (same_Some _ el is) (held_good (inside begins m p) b d h.2)

    held_good : (p : Standing) (b : statement.Stmts Span) (d : ListWay f b) → StmtsGood lo b → ElementGood (nearest begins p d)
    held_good p _ (ways.first s ss d) h = by_element (element_within begins p d) refl (λ el is. stmt_held_good p s d h.0 el is)
      where
        by_element : (o : Option (Element f)) → element_within begins p d ≡ o → ((el : Element f) → element_within begins p d ≡ Some el → ElementGood el) → ElementGood (or_element o (record { at = p; stmt = s; rest = ss; way = d }))
        by_element None e go = h
        by_element (Some el) e go = go el e
    held_good p _ (ways.later s ss d) h = held_good (behind begins s p) ss d h.1

dropped_good : (lo n : ℕ) (ss : statement.Stmts Span) → StmtsGood lo ss → StmtsGood lo (dropped n ss)
dropped_good lo zero ss h = h
dropped_good lo (suc n) statement.end h = tt
dropped_good lo (suc n) (statement.more s ss) h = dropped_good lo n ss h.1

taken_good : (lo n : ℕ) (ss : statement.Stmts Span) → StmtsGood lo ss → StmtsGood lo (taken n ss)
taken_good lo zero ss h = tt
taken_good lo (suc n) statement.end h = tt
taken_good lo (suc n) (statement.more s ss) h = (h.0, taken_good lo n ss h.1)

-- ---- so footprints are of the body

pub footprints_are_of_body : ItemsPlaced → MembersAreWritten Span → SpansTellWays Span → StandingListsAreNested Span → FootprintsAreOfBody
footprints_are_of_body placed_items written tell law p program file b has base m is flags flags_tell test tells o numbers =
    let stands = body_stands placed_items written p program file b has in
    let lo = b.at.base in
    let good = list_good lo b.list stands.tokens stands.stands stands.rise stands.behind in
    let root = root_of b.key base m b.bound b is in
    let X = known p b test in
    let g = given_of p b flags base m in
    record {
      seen = is_seen tell law p b stands base m is flags flags_tell test tells o numbers;
      of_expression = λ f d path e list h.
          footprint_sites p file b flags base m root.start (sites_of (exp_way X f)) (exp_sites_behind p b test lo f (list_good_there lo b.list d good)) list
          (h ∙ ap (λ (w : Way (Site RunKeys)). map (placed g) (sites_of w)) e.way_is);
      of_statements = λ f d n count path from to e list h.
          let ss = taken count (dropped n (held p b test flags base m o d)) in
          let some = taken_good lo count (dropped n (held p b test flags base m o d)) (dropped_good lo n (held p b test flags base m o d) (held_good lo b.at b.list d good)) in
          footprint_sites p file b flags base m root.start (sites_of (stmts_way X ss)) (stmts_sites_behind p b test lo ss some) list
          (h ∙ ap (λ (w : Way (Site RunKeys)). map (placed g) (sites_of w)) e.way_is);
    }
