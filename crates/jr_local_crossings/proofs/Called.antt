-- From what calls answer of pieces of a body by their paths to the pair that they lose.
use Rattle.std.proofs.Common.{◌≡◌, ℕ, suc, ◌+◌, ◌≤◌, Bool, List, [], ◌∷◌, ◌++◌, map, length, take, Option, Some, None, refl, sym, ap, subst, ◌∙◌, arith}
use Rattle.std.proofs.lemmas.List.{map-append}
use Rattle.jr_text.specs.declared.spans.Span.{Span}
use Rattle.jr_ast.specs.Tree as tree
use Rattle.jr_ast.specs.StatementTree as statement
use Rattle.jr_ast.specs.MemberTree as syntax
use Rattle.jr_grammar.specs.Layout.{itself}
use Rattle.jr_table.specs.Keys.{FieldKey}
use Rattle.jr_table.specs.Decls.{LocalKey}
use Rattle.jr_sync.specs.declared.sites.Site as shown
use Rattle.jr_bind.specs.Programs.{Program}
use Rattle.jr_code.specs.RunKeys.{RunKeys}
use Rattle.jr_cover.specs.Sites.{Site, Known, exp_way, stmts_way}
use Rattle.jr_cover.specs.Ways.{sites_of}
use Rattle.jr_expr_sites.specs.KnownFacts.{Others, is_never_null}
use Rattle.jr_expr_sites.specs.Routes.{spots}
use Rattle.jr_sites.specs.declared.sites.PlacedSite as raw
use Rattle.jr_sites.specs.SiteView.{sites_in}
use Rattle.jr_pieces.specs.Ways.{ListWay, first, later}
use Rattle.jr_pieces.specs.Finding.{stmt_path, list_path}
use Rattle.jr_pieces.specs.Nearest.{Element, nearest}
use Rattle.jr_pieces.specs.Before.{StmtEvaluated, stmt_before, list_before, between}
use Rattle.jr_way_places.specs.PlacedWays.{list_step, list_rest}
use Rattle.jr_local.specs.Bodies.{begins, Body}
use Rattle.jr_local.specs.BodyFacts.{TellsNeverNull, known}
use Rattle.jr_local.specs.Crossing.{action}
use Rattle.jr_local_footprints.specs.Ranges.{dropped, taken, size, own}
use Rattle.jr_local_footprints.specs.Givens.{FlagsTell, given_of}
use Rattle.jr_local_footprints.specs.LostPairs.{AreSitesOf}
use Rattle.jr_local_footprints.specs.Laws.{AreFootprints, FootprintsAreOfBody, FrontsAreOfBody, ValuesAreEvaluated, HeldValuesAreEvaluated, PiecesAreLost}
use Rattle.jr_local_crossings.specs.Calls.{AnswersExp, AnswersStmts, AnswersFront, AnswersBefore, AnswersBetween, ExtractsLose, InlinesLose}
use Rattle.jr_local_footprints.proofs.Pairs.{are_between}

-- ---- rows of sites

sites_both : (p : Program Span) (file : ℕ) (b : Body) (xs ys : List (Site RunKeys)) (ls rs : List raw.PlacedSite) → AreSitesOf p file b xs ls → AreSitesOf p file b ys rs → AreSitesOf p file b (xs ++ ys) (ls ++ rs)
sites_both p file b xs ys ls rs l r =
    let place = λ (s : Site RunKeys). s.at.at in
    let byte = λ (s : raw.PlacedSite). b.at.base + s.at in
    record {
      are = map-append (action p file b) xs ys ∙ ap (λ (z : List (shown.Site FieldKey LocalKey)). z ++ map (action p file b) ys) l.are ∙ ap (λ (z : List (shown.Site FieldKey LocalKey)). sites_in ls ++ z) r.are ∙ sym (sites_append ls rs);
      places = map-append place xs ys ∙ ap (λ (z : List ℕ). z ++ map place ys) l.places ∙ ap (λ (z : List ℕ). map byte ls ++ z) r.places ∙ sym (map-append byte ls rs);
    }
  where
    sites_append : (us vs : List raw.PlacedSite) → sites_in (us ++ vs) ≡ sites_in us ++ sites_in vs
    sites_append [] vs = refl
    sites_append (u ∷ us) vs = ap (λ (z : List (shown.Site FieldKey LocalKey)). sites_in (u ∷ []) ++ z) (sites_append us vs)

taken_own : {g : tree.Exp Span} (ss : statement.Stmts Span) (w : ListWay g ss) → taken 1 (dropped (list_step w) ss) ≡ statement.more (own w).stmt statement.end
taken_own _ (first s ss d) = refl
taken_own _ (later s ss d) = taken_own ss d

more_fits : (s : statement.Stmt Span) (ss : statement.Stmts Span) (k : ℕ) → k ≤ size ss → 1 + k ≤ size (statement.more s ss)
more_fits s ss k le = omega (arith, le)

more_reaches : (s : statement.Stmt Span) (ss : statement.Stmts Span) (k : ℕ) → k ≤ size ss → suc k ≤ size (statement.more s ss)
more_reaches s ss k le = omega (arith, le)

-- ---- pieces of the list from the nearest element of an expression on

module _ (fronts : FrontsAreOfBody) (p : Program Span) (file : ℕ) (b : Body) (test : tree.Exp Span → Bool) (flags : List Bool) (base : ℕ) (m : syntax.Member Span) (o : Others) (foot : AreFootprints p file b test flags base m o)
    (f : tree.Exp Span) (d : ListWay f b.list) (around : List ℕ) (step : ℕ) (stands : list_path b.front d ≡ around ++ step ∷ stmt_path (nearest begins b.at d).way) where
  abbrev X : Known RunKeys Span
  X = known p b test

  abbrev el : Element f
  el = nearest begins b.at d

  abbrev ss : statement.Stmts Span
  ss = statement.more el.stmt el.rest

  abbrev Has : List (Site RunKeys) → List raw.PlacedSite → Type 0
  Has = AreSitesOf p file b

  abbrev Answered : (from to : ℕ) → List raw.PlacedSite → Type 0
  Answered from to list = AnswersStmts p b flags base m o around from to list

  exp_has : (moved : List raw.PlacedSite) → AnswersExp p b flags base m o (list_path b.front d) moved → Has (sites_of (exp_way X f)) moved
  exp_has moved answers = let e = foot.seen.exps f d in foot.of_expression f d (list_path b.front d) e moved (answers e.exp e.at)

  some_have : (n count from to : ℕ) → from ≡ step + n → to ≡ step + n + count → n + count ≤ size ss → (list : List raw.PlacedSite) → Answered from to list → Has (sites_of (stmts_way X (taken count (dropped n ss)))) list
  some_have n count from to from_is to_is le list answers =
      let s = foot.seen.stmts f d around step stands n count le in
      let answered : Answered (step + n) (step + n + count) list = subst (λ (k : ℕ). Answered (step + n) k list) to_is (subst (λ (k : ℕ). Answered k to list) from_is answers) in
      foot.of_statements f d n count around (step + n) (step + n + count) s list (answered s.node s.at s.list s.are)

  front_is : (g : tree.Exp Span) (w : ListWay g ss) (number : ℕ) → number ≡ step + list_step w → (count : ℕ) → AnswersFront p b flags base m o (around ++ number ∷ []) (list_rest w) count → count ≡ length (stmt_before X (own w).way)
  front_is g w number number_is count answers =
      let s = foot.seen.fronts f d around step stands g w in
      let answered : AnswersFront p b flags base m o (around ++ (step + list_step w) ∷ []) (list_rest w) count = subst (λ (k : ℕ). AnswersFront p b flags base m o (around ++ k ∷ []) (list_rest w) count) number_is answers in
      answered s.stmt s.at s.exp s.way s.path ∙ ap length s.before_is

  before_has : (g : tree.Exp Span) (w : ListWay g ss) (number : ℕ) → number ≡ step + list_step w → suc (list_step w) ≤ size ss → StmtEvaluated X (own w).way → (list : List raw.PlacedSite)
      → AnswersBefore p b flags base m o around number (list_rest w) list → Has (stmt_before X (own w).way) list
  before_has g w number number_is le evaluated list a =
      let to : suc number ≡ step + list_step w + 1 = omega (arith, number_is) in
      let within : list_step w + 1 ≤ size ss = omega (arith, le) in
      let has = some_have (list_step w) 1 number (suc number) number_is to within a.statement a.whole in
      let own_has = subst (λ (z : statement.Stmts Span). Has (sites_of (stmts_way X z)) a.statement) (taken_own ss w) has in
      let count = front_is g w number number_is a.count a.front in
      let first_ones = fronts p file b test g (own w).stmt (own w).way evaluated a.statement own_has in
      subst (Has (stmt_before X (own w).way)) (sym a.is) (subst (λ (n : ℕ). Has (stmt_before X (own w).way) (take n a.statement)) (sym count) first_ones)

  module _ (g : tree.Exp Span) (w : ListWay g el.rest) where
    abbrev there : ListWay g ss
    there = later el.stmt el.rest w

    between_has : StmtEvaluated X (own w).way → (bar : Option ℕ) (list : List raw.PlacedSite) → AnswersBetween p b flags base m o around (suc step) bar w list → Has (between X bar w) list
    between_has evaluated None list a =
        let k = list_step w in
        let cut = are_between X el.rest w in
        let le = cut.within in
        let from : suc step ≡ step + 1 = omega arith in
        let to : suc step + k ≡ step + 1 + k = omega arith in
        let number : suc step + k ≡ step + suc k = omega arith in
        let some : k ≤ size el.rest = omega (arith, le) in
        let fits = more_fits el.stmt el.rest k some in
        let reaches = more_reaches el.stmt el.rest (suc k) le in
        let wholes = some_have 1 k (suc step) (suc step + k) from to fits a.wholes a.are in
        let last = before_has g there (suc step + k) number reaches evaluated a.last a.before in
        subst (Has (list_before X w)) (sym a.is) (subst (λ (z : List (Site RunKeys)). Has z (a.wholes ++ a.last)) (sym cut.before) (sites_both p file b (sites_of (stmts_way X (taken k el.rest))) (stmt_before X (own w).way) a.wholes a.last wholes last))
    between_has evaluated (Some at) list a =
        let k = list_step w in
        let cut = are_between X el.rest w in
        let le = cut.within in
        let from : suc step ≡ step + 1 = omega arith in
        let to : suc (suc step + k) ≡ step + 1 + suc k = omega arith in
        let fits = more_fits el.stmt el.rest (suc k) le in
        subst (λ (z : List (Site RunKeys)). Has z list) (sym cut.through) (some_have 1 (suc k) (suc step) (suc (suc step + k)) from to fits list a)

-- ---- so a pair is lost

-- the test by flags
test_of : (p : Program Span) (b : Body) (flags : List Bool) (base : ℕ) (m : syntax.Member Span) → FlagsTell p b flags base m → (test : tree.Exp Span → Bool) × TellsNeverNull p b test
test_of p b flags base m tell = (λ e. is_never_null (given_of p b flags base m) (spots itself [] 0 e), λ e. tell e 0 [])

pub extracts_lose : FootprintsAreOfBody → ValuesAreEvaluated → FrontsAreOfBody → PiecesAreLost → ExtractsLose
extracts_lose feet values fronts lost p program file b has shaped base m is flags tell o numbers f d used none around step stands before moved a answers q pair =
    let t = test_of p b flags base m tell in
    let foot = feet p program file b has base m is flags tell t.0 t.1 o numbers in
    let el = nearest begins b.at d in
    let w : ListWay f (statement.more el.stmt el.rest) = first el.stmt el.rest el.way in
    let evaluated = values p program file b has shaped t.0 f d used none in
    let number : step ≡ step + 0 = omega arith in
    let low : 0 ≤ size el.rest = omega arith in
    let reaches = more_reaches el.stmt el.rest 0 low in
    let before_is = before_has fronts p file b t.0 flags base m o foot f d around step stands f w step number reaches evaluated before a in
    let moved_is = exp_has fronts p file b t.0 flags base m o foot f d around step stands moved answers in
    lost p file b t.0 t.1 (λ X. stmt_before X el.way) (λ X. sites_of (exp_way X f)) before moved before_is moved_is q pair

pub inlines_lose : FootprintsAreOfBody → HeldValuesAreEvaluated → FrontsAreOfBody → PiecesAreLost → InlinesLose
inlines_lose feet values fronts lost p program file b has shaped base m is flags tell o numbers f d around step stands g w used none bar moved passed answers a q pair =
    let t = test_of p b flags base m tell in
    let foot = feet p program file b has base m is flags tell t.0 t.1 o numbers in
    let el = nearest begins b.at d in
    let evaluated = values p program file b has shaped t.0 f d g (later el.stmt el.rest w) used none in
    let moved_is = exp_has fronts p file b t.0 flags base m o foot f d around step stands moved answers in
    let passed_is = between_has fronts p file b t.0 flags base m o foot f d around step stands g w evaluated bar passed a in
    lost p file b t.0 t.1 (λ X. sites_of (exp_way X f)) (λ X. between X bar w) moved passed moved_is passed_is q pair
