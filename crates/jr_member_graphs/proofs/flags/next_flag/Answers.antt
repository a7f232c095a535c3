use Rattle.std.proofs.Common.{Bool, not, ap, sym, ◌∙◌}
use Rattle.std.specs.Prelude.{◌&&◌}
use Rattle.jr_ast.specs.Tree as tree
use Rattle.jr_cover.specs.Spots.{Spot}
use Rattle.jr_never_null.specs.Flags.{is_safe}
use Rattle.jr_expr_sites.specs.KnownFacts.{known_of, is_never_null}
use Rattle.jr_expr_sites.specs.StepView.{given}
use Rattle.jr_member_graphs.proofs.MemberFlagging.{never_is_safe}
use Rattle.jr_member_graphs.specs.OwnFlags.{no_others}
use Rattle.jr_member_graphs.proofs.flags.next_flag.Goals as goal

pub is_never_null-requires : goal.is_never_null-requires
is_never_null-requires g c = record { fits = c.requires.fits }

pub returns-then-is_assigned : goal.returns-then-is_assigned
returns-then-is_assigned g c e h =
    let G = given g.F.Facts.decls g.F.Facts.types c.args.here.now in
    ap (λ (b : Bool). not b && is_safe (known_of G no_others).facts G.never_null e) (sym c.if-is_assigned.true)

pub returns : goal.returns
returns g c e h =
    let G = given g.F.Facts.decls g.F.Facts.types c.args.here.now in
    c.is_never_null.ensures h.0 ∙ ap (λ (x : tree.Exp Spot). is_never_null G x) (sym h.1) ∙ never_is_safe G no_others e
    ∙ ap (λ (b : Bool). not b && is_safe (known_of G no_others).facts G.never_null e) (sym c.if-is_assigned.false)
