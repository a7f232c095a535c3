use Rattle.std.proofs.Common.{◌+◌, ◌*◌, ◌≡◌, ◌++◌, List, drop, map}
use Rattle.std.specs.Prelude.{option_map}
use Rattle.jr_ast.specs.View.{expr_of, exprs_of, target_of}
use Rattle.jr_ast.proofs.Sizes.{exp_size, exps_size, target_size}
use Rattle.jr_table.specs.Entries.{kind_of}
use Rattle.jr_table.specs.Meanings.{types_of}
use Rattle.jr_table.specs.Notes.{Note}
use Rattle.jr_table.specs.Walks.{args_notes}
use Rattle.jr_bind_expr.specs.Places.{context_of, member_of}
use Rattle.jr_bind_expr.specs.Fits.{FitsExps}
use Rattle.jr_bind_expr.specs.Logs.{notes_of, Adds}
use Rattle.jr_bind_expr.specs.ArgsView.{kinds_of, joined}
use Rattle.jr_bind_expr.specs.TypedSlots.{row_slots}
use Rattle.jr_bind_expr.proofs.walk.+walk.Given as goal

abbrev pub decreases-walk_parts : goal.decreases-walk_parts
decreases-walk_parts g l = 3 * exp_size (expr_of l.of.now)

abbrev pub decreases-walk_expr : goal.decreases-walk_expr
decreases-walk_expr g l = 3 * exp_size (expr_of l.of.now) + 1

abbrev pub decreases-walk_target : goal.decreases-walk_target
decreases-walk_target g l = 3 * target_size (target_of l.of.now) + 2

abbrev pub decreases-walk_args : goal.decreases-walk_args
decreases-walk_args g l = 3 * exps_size (exprs_of l.parts.now) + 2

-- what is left fits, what adds its notes to those so far adds all to those before, and what is made,
-- with what is left, is all
abbrev pub invariant-walk_args-loop-part : goal.invariant-walk_args-loop-part
invariant-walk_args-loop-part g l = record {
  fits : FitsExps (λ m b. (g.A.Mark.span_from m b).from) g.A.Mark.fits_at l.at (exprs_of (drop l.part-index l.parts));
  notes : (last : List Note) → Adds (notes_of l.table (member_of l.place) l.log.items) (args_notes (λ m b. (g.A.Mark.span_from m b).from) l.table (context_of l.place) l.at (exprs_of (drop l.part-index l.parts))) last
      → Adds (notes_of l.table (member_of l.place) l.fn.log.items) (args_notes (λ m b. (g.A.Mark.span_from m b).from) l.table (context_of l.place) l.at (exprs_of l.parts)) last;
  kinds : joined (kinds_of l.kinds) (option_map (map (kind_of l.table)) (types_of l.table (context_of l.place) (exprs_of (drop l.part-index l.parts))))
      ≡ option_map (map (kind_of l.table)) (types_of l.table (context_of l.place) (exprs_of l.parts));
  slots : l.types ++ row_slots l.table (context_of l.place) (exprs_of (drop l.part-index l.parts)) ≡ l.fn.types ++ row_slots l.table (context_of l.place) (exprs_of l.parts);
}
