use Rattle.std.proofs.Common.{◌≡◌, ℕ, ◌+◌, false, true, length, map, sym, ap, subst, ◌∙◌}
use Rattle.std.proofs.lemmas.Result.{IfOk-weaker}
use Rattle.jr_ast.specs.View.{param_of, stmts_of, args_of, modifier_of}
use Rattle.jr_table.specs.HeadRules.{with_parameters}
use Rattle.jr_table.specs.TypesAt.{count_super}
use Rattle.jr_new_bodies.specs.OutputView.{gathered}
use Rattle.jr_new_files.specs.Walking.{key_of, rows_of}
use Rattle.jr_new_files.specs.Ready.{BodyReady, MaybeSuperReady}
use Rattle.jr_new_files.proofs.ctors.ctor.Goals as goal

pub ctor_head-requires : goal.ctor_head-requires
ctor_head-requires g c = record { walked = c.requires.walked; ready = c.requires.ready.0 }

pub maybe_super-requires : goal.maybe_super-requires
maybe_super-requires g c =
    let w = c.args.of.now in
    record {
      walked = c.requires.walked;
      file = c.requires.file;
      ready = subst (λ (n : ℕ). MaybeSuperReady (rows_of w) w.bound.now w.from (with_parameters (key_of w) true (map param_of c.args.params.now)) n c.args.span.from (args_of c.args.args.now)) (sym c.in_ok-first.ensures) c.requires.ready.1.0;
      stands = c.requires.stands;
    }

pub body-requires : goal.body-requires
body-requires g c =
    let w = c.args.of.now in
    let ps = map param_of c.args.params.now in
    let args = args_of c.args.args.now in
    let xs = stmts_of c.args.statements.now in
    let behind : c.in_ok-behind.behind ≡ length (map modifier_of c.args.modifiers.now) + 1 + length ps + count_super (rows_of w) args =
    c.in_ok-behind.ensures ∙ (λ i. c.in_ok-first.ensures i + c.in_ok-more.ensures (rows_of w) i) in
    record {
      walked = c.requires.walked;
      ready = subst (λ (n : ℕ). BodyReady (rows_of w) w.bound.now w.from (with_parameters (key_of w) false ps) (length ps) n c.args.span.from xs) (sym behind) c.requires.ready.1.1;
    }

pub returns : goal.returns
returns g c =
    IfOk-weaker c.body.result _ _ (λ _ x. (
      gathered c.ctor_head.new.out,
      gathered c.maybe_super.new.out,
      c.in_ok-ctor_head.ensures c.args.span.from,
      c.in_ok-maybe_super.ensures,
      x,
    )) c.body.ensures
