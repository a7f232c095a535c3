use Rattle.std.proofs.Common.{ℕ, Bool, length, map, sym, subst}
use Rattle.std.proofs.lemmas.Result.{IfOk-weaker}
use Rattle.jr_ast.specs.View.{param_of, stmts_of, modifier_of}
use Rattle.jr_table.specs.HeadRules.{with_parameters, is_static_member}
use Rattle.jr_program_laws.specs.FileParts.{begins}
use Rattle.jr_new_bodies.specs.OutputView.{gathered}
use Rattle.jr_new_files.specs.Walking.{key_of, rows_of, mapping_of}
use Rattle.jr_new_files.specs.Ready.{BodyReady}
use Rattle.jr_new_files.specs.PartEffects.{BodyGathers}
use Rattle.jr_new_files.proofs.methods.method.Goals as goal

pub method_head-requires : goal.method_head-requires
method_head-requires c = record { walked = c.requires.walked; result = c.requires.ready.0; params = c.requires.ready.1.0 }

pub body-requires : goal.body-requires
body-requires c =
    let w = c.args.of.now in
    let ps = map param_of c.args.params.now in
    let xs = stmts_of c.args.statements.now in
    record {
      walked = c.requires.walked;
      ready = subst (λ (b : Bool). BodyReady (rows_of w) w.bound.now w.from (with_parameters (key_of w) b ps) (length ps) c.in_ok-first.first c.args.at xs) (sym c.is_static.ensures)
          (subst (λ (n : ℕ). BodyReady (rows_of w) w.bound.now w.from (with_parameters (key_of w) (is_static_member begins (map modifier_of c.args.modifiers.now)) ps) (length ps) n c.args.at xs) (sym (c.in_ok-first.ensures (rows_of w))) c.requires.ready.1.1);
    }

pub returns : goal.returns
returns c =
    let w = c.args.of.now in
    let ps = map param_of c.args.params.now in
    let xs = stmts_of c.args.statements.now in
    IfOk-weaker c.body.result _ _ (λ _ x. (
      gathered c.method_head.new.out,
      c.in_ok-method_head.ensures,
      subst (λ (b : Bool). BodyGathers (rows_of w) (mapping_of w) (with_parameters (key_of w) b ps) (length ps) c.args.at xs (gathered c.method_head.new.out) (gathered c.body.new.out)) c.is_static.ensures x,
    )) c.body.ensures
