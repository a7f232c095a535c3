use Rattle.std.proofs.Common.{◌≡◌, ℕ, suc, ◌+◌, ◌-◌, ◌≤◌, length, map, option_map, ap, sym, subst, ◌∙◌, arith}
use Rattle.jr_ast.specs.View.{stmts_of}
use Rattle.jr_cover.specs.Spots.{spot_stmts}
use Rattle.jr_expr_sites.specs.StepView.{given}
use Rattle.jr_expr_sites.specs.KnownFacts.{Others, known_of}
use Rattle.jr_expr_sites.specs.Routes.{begins_by, ends_by}
use Rattle.jr_piece_sites.specs.Growth.{count}
use Rattle.jr_cfg.specs.StatementRoutes.{NumberedAll}
use Rattle.jr_piece_sites.specs.Pieces.{locals_up_to}
use Rattle.jr_piece_sites.proofs.Growths as growth
use Rattle.jr_ast.specs.View.{modifier_of, param_of, type_of}
use Rattle.jr_runs.specs.MemberTranslation.{is_synchronized}
use Rattle.jr_piece_sites.specs.Fronts.{method_body}
use Rattle.jr_piece_sites.specs.Parts.{behind}
use Rattle.jr_piece_sites.specs.Pieces.{method_front}
use Rattle.jr_piece_sites.proofs.Places as place
use Rattle.std.proofs.lemmas.List.{length-map}
use Rattle.jr_piece_sites.proofs.member_fronts.method_front.Goals as goal

pub put_method_body-requires : goal.put_method_body-requires
put_method_body-requires g c = record { fits = c.requires.fits }

pub returns-in-None : goal.returns-in-None
returns-in-None g c =
    let T = g.A.Mark.span_from in
    let G = given g.F.Facts.decls g.F.Facts.types c.args.here.now in
    let path = c.args.path.now.steps.items in
    let old = c.args.out.now.items in
    let at = c.args.here.now.start in
    let i = c.args.part in
    let body = stmts_of c.args.body.now in
    let mods = map modifier_of c.args.modifiers.now in
    let ps = map param_of c.args.params.now in
    let n = c.in_ok-number.number in
    let count : n ≡ length ps = c.in_ok-number.ensures in
    let lm = length-map c.args.modifiers.now modifier_of in
    let lp = length-map c.args.params.now param_of in
    let t = option_map type_of c.args.result_type.now in
    let r = c.results.ensures in
    let K = method_front mods t ps in
    let so = NumberedAll T (length ps) path K at body in
    let f = λ (o : Others). method_body (known_of G o) (is_synchronized mods) (spot_stmts (begins_by T) (ends_by T) body at path K) in
    let whole = λ (o : Others). behind 0 K (f o) i in
    let next = length ps + behind 0 K (locals_up_to body) i in
    let h = c.in-None.ensures in
    let off = place.below_front (suc (length c.args.modifiers.now + c.results.result) + length c.args.params.now) K i (omega (arith, lm, lp, r)) h in
    growth.to_as G so so (λ o. 0) whole n next n old old (λ o q. q) (λ o. place.behind_off 0 (f o) K i off) (place.count_off n (length ps) (locals_up_to body) K i count off) (growth.not_moved G so n old)

pub returns-in-Some : goal.returns-in-Some
returns-in-Some g c =
    let T = g.A.Mark.span_from in
    let G = given g.F.Facts.decls g.F.Facts.types c.args.here.now in
    let path = c.args.path.now.steps.items in
    let old = c.args.out.now.items in
    let at = c.args.here.now.start in
    let i = c.args.part in
    let body = stmts_of c.args.body.now in
    let mods = map modifier_of c.args.modifiers.now in
    let ps = map param_of c.args.params.now in
    let n = c.in_ok-number.number in
    let count : n ≡ length ps = c.in_ok-number.ensures in
    let lm = length-map c.args.modifiers.now modifier_of in
    let lp = length-map c.args.params.now param_of in
    let t = option_map type_of c.args.result_type.now in
    let r = c.results.ensures in
    let K = method_front mods t ps in
    let so = NumberedAll T (length ps) path K at body in
    let f = λ (o : Others). method_body (known_of G o) (is_synchronized mods) (spot_stmts (begins_by T) (ends_by T) body at path K) in
    let whole = λ (o : Others). behind 0 K (f o) i in
    let next = length ps + behind 0 K (locals_up_to body) i in
    let new = c.put_method_body.new.out.items in
    let j = c.in-Some.count in
    let first = c.saturating_sub-first.result in
    let same : suc (length c.args.modifiers.now + c.results.result) + length c.args.params.now ≡ K = omega (arith, lm, lp, r) in
    let le : K ≤ i = place.at_least (suc (length c.args.modifiers.now + c.results.result) + length c.args.params.now) K i same c.in-Some.ensures.0 in
    let is : j ≡ i - K = c.in-Some.ensures.1 ∙ ap (λ (q : ℕ). i - q) same in
    let there : first ≡ K = c.saturating_sub-first.ensures ∙ place.taken_off K i j le is in
    let locked = c.is_synchronized-is_locked.ensures in
    growth.if_ok_then c.put_method_body.result (λ k p. growth.to_as G (NumberedAll T n path first at body) so (λ o. method_body (known_of G o) c.is_synchronized-is_locked.result (spot_stmts (begins_by T) (ends_by T) body at path first) j) whole
    (n + locals_up_to body j) next k old new (λ o q. subst (λ (X : Type 0). X) (λ z. NumberedAll T (sym count z) path (sym there z) at body o) q)
    (λ o. (λ z. method_body (known_of G o) (locked z) (spot_stmts (begins_by T) (ends_by T) body at path (there z)) j) ∙ place.behind_at 0 (f o) K i j le is)
    ((λ z. count z + locals_up_to body j) ∙ ap (λ (q : ℕ). length ps + q) (place.behind_at 0 (locals_up_to body) K i j le is)) p) c.put_method_body.ensures
