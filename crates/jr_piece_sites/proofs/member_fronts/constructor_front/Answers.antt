use Rattle.std.proofs.Common.{◌≡◌, ℕ, suc, ◌+◌, ◌-◌, ◌≤◌, length, map, ap, sym, subst, ◌∙◌, arith}
use Rattle.jr_ast.specs.View.{stmts_of}
use Rattle.jr_cover.specs.Spots.{spot_stmts}
use Rattle.jr_expr_sites.specs.StepView.{given}
use Rattle.jr_expr_sites.specs.KnownFacts.{Others, known_of}
use Rattle.jr_expr_sites.specs.Routes.{begins_by, ends_by}
use Rattle.jr_piece_sites.specs.Growth.{count}
use Rattle.jr_cfg.specs.StatementRoutes.{NumberedAll}
use Rattle.jr_piece_sites.proofs.Growths as growth
use Rattle.jr_ast.specs.View.{args_of, modifier_of, param_of}
use Rattle.jr_cover.specs.Spots.{spot_args}
use Rattle.jr_piece_sites.specs.Fronts.{constructor_body}
use Rattle.jr_piece_sites.specs.Parts.{behind}
use Rattle.jr_piece_sites.specs.Pieces.{constructor_front, arguments, constructor_locals}
use Rattle.jr_piece_sites.proofs.Places as place
use Rattle.std.proofs.lemmas.List.{length-map}
use Rattle.jr_piece_sites.proofs.member_fronts.constructor_front.Goals as goal

pub put_constructor_body-requires : goal.put_constructor_body-requires
put_constructor_body-requires g c =
    let e = c.saturating_sub-first.ensures in
    let is = c.in-Some.ensures.1 in
    let le = c.in-Some.ensures.0 in
    record { fits = c.requires.fits; fits_args = c.requires.fits_args; small = place.part_small c.args.part c.in-Some.count c.saturating_sub-first.result (suc (length c.args.modifiers.now + 0) + length c.args.params.now) le is e c.ranges.part.fits }

pub returns-in-None : goal.returns-in-None
returns-in-None g c =
    let T = g.A.Mark.span_from in
    let G = given g.F.Facts.decls g.F.Facts.types c.args.here.now in
    let path = c.args.path.now.steps.items in
    let old = c.args.out.now.items in
    let at = c.args.here.now.start in
    let i = c.args.part in
    let body = stmts_of c.args.body.now in
    let mods = map modifier_of c.args.modifiers.now in
    let ps = map param_of c.args.params.now in
    let n = c.in_ok-number.number in
    let count : n ≡ length ps = c.in_ok-number.ensures in
    let lm = length-map c.args.modifiers.now modifier_of in
    let lp = length-map c.args.params.now param_of in
    let args = args_of c.args.args.now in
    let K = constructor_front mods ps in
    let all = K + arguments args in
    let so = NumberedAll T (length ps) path all at body in
    let f = λ (o : Others). constructor_body (known_of G o) (spot_args (begins_by T) (ends_by T) args at path K) (spot_stmts (begins_by T) (ends_by T) body at path all) in
    let whole = λ (o : Others). behind 0 K (f o) i in
    let next = length ps + behind 0 K (constructor_locals args body) i in
    let h = c.in-None.ensures in
    let off = place.below_front (suc (length c.args.modifiers.now + 0) + length c.args.params.now) K i (omega (arith, lm, lp)) h in
    growth.to_as G so so (λ o. 0) whole n next n old old (λ o q. q) (λ o. place.behind_off 0 (f o) K i off) (place.count_off n (length ps) (constructor_locals args body) K i count off) (growth.not_moved G so n old)

pub returns-in-Some : goal.returns-in-Some
returns-in-Some g c =
    let T = g.A.Mark.span_from in
    let G = given g.F.Facts.decls g.F.Facts.types c.args.here.now in
    let path = c.args.path.now.steps.items in
    let old = c.args.out.now.items in
    let at = c.args.here.now.start in
    let i = c.args.part in
    let body = stmts_of c.args.body.now in
    let mods = map modifier_of c.args.modifiers.now in
    let ps = map param_of c.args.params.now in
    let n = c.in_ok-number.number in
    let count : n ≡ length ps = c.in_ok-number.ensures in
    let lm = length-map c.args.modifiers.now modifier_of in
    let lp = length-map c.args.params.now param_of in
    let args = args_of c.args.args.now in
    let K = constructor_front mods ps in
    let all = K + arguments args in
    let so = NumberedAll T (length ps) path all at body in
    let f = λ (o : Others). constructor_body (known_of G o) (spot_args (begins_by T) (ends_by T) args at path K) (spot_stmts (begins_by T) (ends_by T) body at path all) in
    let whole = λ (o : Others). behind 0 K (f o) i in
    let next = length ps + behind 0 K (constructor_locals args body) i in
    let new = c.put_constructor_body.new.out.items in
    let j = c.in-Some.count in
    let first = c.saturating_sub-first.result in
    let same : suc (length c.args.modifiers.now + 0) + length c.args.params.now ≡ K = omega (arith, lm, lp) in
    let le : K ≤ i = place.at_least (suc (length c.args.modifiers.now + 0) + length c.args.params.now) K i same c.in-Some.ensures.0 in
    let is : j ≡ i - K = c.in-Some.ensures.1 ∙ ap (λ (q : ℕ). i - q) same in
    let there : first ≡ K = c.saturating_sub-first.ensures ∙ place.taken_off K i j le is in
    growth.if_ok_then c.put_constructor_body.result (λ k p. growth.to_as G (NumberedAll T n path (first + arguments args) at body) so (λ o. constructor_body (known_of G o) (spot_args (begins_by T) (ends_by T) args at path first) (spot_stmts (begins_by T) (ends_by T) body at path (first + arguments args)) j) whole
    (n + constructor_locals args body j) next k old new (λ o q. subst (λ (X : Type 0). X) (λ z. NumberedAll T (sym count z) path (sym there z + arguments args) at body o) q)
    (λ o. (λ z. constructor_body (known_of G o) (spot_args (begins_by T) (ends_by T) args at path (there z)) (spot_stmts (begins_by T) (ends_by T) body at path (there z + arguments args)) j) ∙ place.behind_at 0 (f o) K i j le is)
    ((λ z. count z + constructor_locals args body j) ∙ ap (λ (q : ℕ). length ps + q) (place.behind_at 0 (constructor_locals args body) K i j le is)) p) c.put_constructor_body.ensures
