use Rattle.std.proofs.Common.{◌≡◌, ℕ, List, [], ◌++◌, ap, subst, ◌∙◌}
use Rattle.std.specs.Prelude.{IfOk}
use Rattle.jr_ast.specs.View.{args_of, stmts_of}
use Rattle.jr_cover.specs.Spots.{spot_stmts}
use Rattle.jr_never_null.specs.Flags.{flags_behind}
use Rattle.jr_expr_sites.specs.declared.step.Step as raw_step
use Rattle.jr_expr_sites.specs.KnownFacts.{known_of, meaning_at}
use Rattle.jr_expr_sites.specs.Routes.{begins_by, ends_by}
use Rattle.jr_expr_sites.specs.StepView.{given}
use Rattle.jr_member_graphs.specs.FlagRows.{is_among, behind_nones}
use Rattle.jr_member_graphs.specs.MemberLocals.{stmts_inits}
use Rattle.jr_member_graphs.specs.Notes.{args_locals, stmts_notes}
use Rattle.jr_member_graphs.specs.NotesView.{noted}
use Rattle.jr_member_graphs.specs.OwnFlags.{no_others}
use Rattle.jr_member_graphs.proofs.members.constructor_flags.Goals as goal

pub gather_args-requires : goal.gather_args-requires
gather_args-requires g c = record { fits = c.requires.fits_args }

pub body_flags-requires : goal.body_flags-requires
body_flags-requires g c = record { fits = c.requires.fits }

pub returns : goal.returns
returns g c path first =
    let T = g.A.Mark.span_from in
    let G = given g.F.Facts.decls g.F.Facts.types c.args.here.now in
    let body = stmts_of c.args.body.now in
    let at = c.args.here.now.start in
    let ws = (stmts_notes T (meaning_at G) at body).writes in
    let front = args_locals T (meaning_at G) at (args_of c.args.args.now) in
    let es = behind_nones c.args.params (stmts_inits (spot_stmts (begins_by T) (ends_by T) body at path first)) in
    let put : noted G.member c.gather_args.new.steps.items ≡ front = c.in_ok-gather_args.ensures ∙ ap (λ (l : List raw_step.Step). noted G.member l ++ front) c.new-steps.ensures.items in
    subst (λ (ns : List ℕ). IfOk c.body_flags.result (λ v. v.items ≡ flags_behind (known_of G no_others).facts (is_among (ns ++ ws)) [] es)) put (c.body_flags.ensures path first)
