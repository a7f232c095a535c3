use Rattle.std.proofs.Common.{◌≡◌, ℕ, length, map, sym, subst, ◌∙◌}
use Rattle.std.proofs.lemmas.List.{length-map}
use Rattle.std.proofs.lemmas.Result.{IfOk-at_ok}
use Rattle.jr_ast.specs.View.{param_of, stmts_of}
use Rattle.jr_table.specs.HeadRules.{with_parameters}
use Rattle.jr_new_bodies.specs.OutputView.{gathered}
use Rattle.jr_new_files.specs.Walking.{key_of, rows_of, mapping_of}
use Rattle.jr_new_files.specs.Ready.{BodyReady}
use Rattle.jr_new_files.specs.PartEffects.{BodyGathers}
use Rattle.jr_new_files.proofs.Placing.{body_there, body_back}
use Rattle.jr_new_files.proofs.methods.body.Goals as goal

pub stmts-walked-requires : goal.stmts-walked-requires
stmts-walked-requires c =
    let w = c.args.of.now in
    let x = with_parameters (key_of w) c.args.is_static (map param_of c.args.params.now) in
    let number : c.in_ok-number.number ≡ length (map param_of c.args.params.now) = c.in_ok-number.ensures ∙ sym (length-map c.args.params.now param_of) in
    let body = stmts_of c.args.statements.now in
    record {
      known = c.in_ok-here.ensures.known;
      ready = body_there w c.in_ok-here.here x c.in_ok-here.ensures c.no_path-path.result.steps.items c.no_path-path.ensures c.in_ok-number.number c.args.first c.args.at body
          (subst (λ (n : ℕ). BodyReady (rows_of w) w.bound.now w.from x n c.args.first c.args.at body) (sym number) c.requires.ready);
    }

pub returns-in-Ok : goal.returns-in-Ok
returns-in-Ok c =
    let w = c.args.of.now in
    let x = with_parameters (key_of w) c.args.is_static (map param_of c.args.params.now) in
    let number : c.in_ok-number.number ≡ length (map param_of c.args.params.now) = c.in_ok-number.ensures ∙ sym (length-map c.args.params.now param_of) in
    let body = stmts_of c.args.statements.now in
    let old = gathered c.args.out.now in
    let passes = IfOk-at_ok _ c.in-Ok.is c.stmts-walked.ensures in
    let new = gathered c.stmts-walked.new.out in
    subst (λ (n : ℕ). BodyGathers (rows_of w) (mapping_of w) x n c.args.at body old new) number (body_back w c.in_ok-here.here x c.in_ok-here.ensures c.in_ok-number.number c.args.at body old new passes.gives)
