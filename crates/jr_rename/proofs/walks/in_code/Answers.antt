use Rattle.std.proofs.Common.{◌≡◌, length, map, ap, sym, ◌∙◌}
use Rattle.std.specs.Prelude.{nat_lt}
use Rattle.std.proofs.lemmas.List.{length-map}
use Rattle.jr_ast.specs.View.{param_of, stmts_of}
use Rattle.jr_rename.specs.Walks.{asked_of, in_params, in_stmts}
use Rattle.jr_rename.proofs.walks.in_code.Goals as goal

pub returns : goal.returns
returns g c =
    let a = asked_of c.args.asked.now in
    let ps = c.args.params.now in
    let body = stmts_of c.args.body.now in
    let count : length ps ≡ length (map param_of ps) = sym (length-map ps param_of) in
    c.in_ok-in_stmts.ensures
    ∙ ap (λ w. in_stmts a w body) (c.in_ok-in_params.ensures ∙ (λ i. in_params a (nat_lt a.number (count i)) c.args.types (c.start-walk.ensures i) (map param_of ps)))
