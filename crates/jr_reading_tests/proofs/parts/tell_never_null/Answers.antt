use Rattle.std.proofs.Common.{[], Some}
use Rattle.jr_text.specs.declared.spans.Span.{Span}
use Rattle.jr_ast.specs.MemberTree as syntax
use Rattle.jr_ast.specs.Tree as tree
use Rattle.jr_ast.specs.View.{member_of}
use Rattle.jr_bind_expr.specs.Fits.{FitsExp}
use Rattle.jr_table.specs.Errors.{member_part}
use Rattle.jr_dependence_lines.proofs.SpansFit.{sites_fit}
use Rattle.jr_program_laws.specs.FileParts.{begins}
use Rattle.jr_sources.proofs.PartsFit.{whole_fits}
use Rattle.jr_reading_tests.proofs.parts.tell_never_null.Goals as goal

blank : Span
blank = record { from = 0; to = 0 }

-- an expression fits, as it does where a field begins with it
value_fits : (e : tree.Exp Span) → FitsExp begins (λ m base. Unit {0}) 0 e
unfolding blank
value_fits e =
    (whole_fits begins 0 (member_part (syntax.field blank [] (tree.int blank) (record { mark = blank; text = [] }) (Some e)))).1.2

pub own_flags-requires : goal.own_flags-requires
own_flags-requires g c = record { fits = sites_fit c.args.method.now.base (member_of c.args.method.now.of.now) (whole_fits begins c.args.method.now.base (member_part (member_of c.args.method.now.of.now))) }

pub never_null-never-requires-clause-fits : goal.never_null-never-requires-clause-fits
never_null-never-requires-clause-fits g c = sites_fit c.args.method.now.base (member_of c.args.method.now.of.now) (whole_fits begins c.args.method.now.base (member_part (member_of c.args.method.now.of.now)))

pub never_null-never-requires-clause-fits_value : goal.never_null-never-requires-clause-fits_value
never_null-never-requires-clause-fits_value g c = value_fits _
