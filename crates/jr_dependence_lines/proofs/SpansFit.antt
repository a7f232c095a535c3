-- The places of a member that fit are those of its sites.
use Rattle.std.proofs.Common.{ℕ}
use Rattle.std.specs.Prelude.{Option, Some, None}
use Rattle.jr_text.specs.declared.spans.Span.{Span}
use Rattle.jr_ast.specs.Tree as tree
use Rattle.jr_ast.specs.MemberTree as syntax
use Rattle.jr_table.specs.Errors.{member_part}
use Rattle.jr_bind.specs.Bounds.{FitsWhole}
use Rattle.jr_bind_parts.specs.PartFits.{FitsMaybeArgs}
use Rattle.jr_cfg.specs.MemberRoutes.{FitsSites, FitsArgs}
use Rattle.jr_program_laws.specs.FileParts.{begins}
use Rattle.jr_dependence_lines.specs.MemberLines.{tells}

abbrev Any : Span → ℕ → Type 0
Any m at = Unit {0}

args_fit : (at : ℕ) (args : Option (tree.Exps Span)) → FitsMaybeArgs begins Any at args → FitsArgs tells Any at args
args_fit at None h = tt
args_fit at (Some es) h = h

pub sites_fit : (base : ℕ) (x : syntax.Member Span) → FitsWhole begins Any base (member_part x) → FitsSites tells Any base x
sites_fit base (syntax.field m mods t w init) h = (tt, tt, h.1.2)
sites_fit base (syntax.method m mods t w ps body) h = (tt, tt, h.1.4)
sites_fit base (syntax.constructor m mods w ps args body) h = (tt, tt, args_fit (begins m base) args h.1.3, h.1.4)
sites_fit base (syntax.inner m c) h = tt
