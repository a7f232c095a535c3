use Rattle.std.proofs.Common.{◌≡◌, ◌+◌, Some, length, map, sym, ◌∙◌}
use Rattle.std.proofs.lemmas.List.{length-map}
use Rattle.jr_ast.specs.View.{args_of, stmts_of, modifier_of, param_of}
use Rattle.jr_grammar.specs.Layout.{itself}
use Rattle.jr_cfg.specs.MemberRoutes as route
use Rattle.jr_bodies.proofs.Fronts.{front_of_constructor}
use Rattle.jr_bodies.proofs.codes.ctor_code.Goals as goal

pub returns : goal.returns
returns c =
    let mods = c.args.modifiers.now in
    let ps = c.args.params.now in
    let before : c.in_ok-before.before ≡ route.constructor_front itself (map modifier_of mods) (map param_of ps) =
    c.in_ok-before.ensures ∙ front_of_constructor (map modifier_of mods) (map param_of ps) (length mods) (length ps) (sym (length-map mods modifier_of)) (sym (length-map ps param_of)) in
    let front : c.in_ok-front.front ≡ route.constructor_front itself (map modifier_of mods) (map param_of ps) + route.arguments itself (args_of c.args.args.now) =
    c.in_ok-front.ensures ∙ (λ i. before i + c.count_args.ensures i) in
    λ i. Some (record { params = map param_of ps; list = stmts_of c.args.list.now; front = front i })
