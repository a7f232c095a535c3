use Rattle.std.proofs.Common.{sym, ap, option_map, ◌∙◌}
use Rattle.jr_ast.specs.View.{expr_of, member_of}
use Rattle.jr_table.specs.Errors.{member_part}
use Rattle.jr_dependence_lines.proofs.SpansFit.{sites_fit}
use Rattle.jr_program_laws.specs.FileParts.{begins}
use Rattle.jr_sources.proofs.PartsFit.{whole_fits}
use Rattle.jr_piece_sites.proofs.Reaching.{to_exp}
use Rattle.jr_reading_tests.proofs.parts.footprint_at.Goals as goal

pub footprint-sites-requires : goal.footprint-sites-requires
footprint-sites-requires g c = record {
  fits = sites_fit c.args.method.now.base (member_of c.args.method.now.of.now) (whole_fits begins c.args.method.now.base (member_part (member_of c.args.method.now.of.now)));
  at = to_exp (member_of c.args.method.now.of.now) c.requires.owner c.path_of-path.result.steps.items _ (sym c.expr_at.ensures ∙ ap (option_map (λ x. expr_of x.now)) c.in-Some.is);
}
