use Rattle.std.proofs.Common.{◌≡◌, Some, length, map, sym, ◌∙◌}
use Rattle.std.specs.Prelude.{option_map}
use Rattle.std.proofs.lemmas.List.{length-map}
use Rattle.jr_ast.specs.View.{type_of, stmts_of, modifier_of, param_of}
use Rattle.jr_grammar.specs.Layout.{itself}
use Rattle.jr_cfg.specs.MemberRoutes as route
use Rattle.jr_bodies.proofs.Fronts.{front_of_method}
use Rattle.jr_bodies.proofs.codes.method_code.Goals as goal

pub returns : goal.returns
returns c =
    let mods = c.args.modifiers.now in
    let ps = c.args.params.now in
    let t = option_map type_of c.args.result_type.now in
    let front : c.in_ok-front.front ≡ route.method_front itself (map modifier_of mods) t (map param_of ps) =
    c.in_ok-front.ensures ∙ front_of_method (map modifier_of mods) t (map param_of ps) c.words_of.result (length mods) (length ps) c.words_of.ensures (sym (length-map mods modifier_of)) (sym (length-map ps param_of)) in
    λ i. Some (record { params = map param_of ps; list = stmts_of c.args.list.now; front = front i })
