use Rattle.std.proofs.Common.{sym, ap, ◌∙◌}
use Rattle.std.specs.Prelude.{option_map}
use Rattle.jr_table.specs.KeyView.{decl_of}
use Rattle.jr_bind_expr.proofs.Numbers.{class_shown, other_shown, none_shown}
use Rattle.jr_bind_expr.proofs.rows.class_at.Goals as goal

pub returns-in-None : goal.returns-in-None
returns-in-None c = none_shown c.args.table.now c.args.number (sym c.decl_at.ensures ∙ ap (option_map (λ d. decl_of d.now)) c.in-None.is)

pub returns-then-is_class : goal.returns-then-is_class
returns-then-is_class c = class_shown c.args.table.now c.keeps_rows.ensures c.args.number (decl_of c.in-Some.decl.now) (sym c.decl_at.ensures ∙ ap (option_map (λ d. decl_of d.now)) c.in-Some.is) (sym c.is_class.ensures ∙ c.if-is_class.true)

pub returns-else-is_class : goal.returns-else-is_class
returns-else-is_class c = other_shown c.args.table.now c.args.number (decl_of c.in-Some.decl.now) (sym c.decl_at.ensures ∙ ap (option_map (λ d. decl_of d.now)) c.in-Some.is) (sym c.is_class.ensures ∙ c.if-is_class.false)
