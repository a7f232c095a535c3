-- The pure parts of an expression that references stand for.
use Rattle.std.specs.Prelude.{false}
use Rattle.jr_ast.specs.View.{expr_of, exprs_of}
use Rattle.jr_ast.specs.Tree as tree
use Rattle.jr_piece_sites.specs.declared.parts.Between as raw_between
use Rattle.jr_piece_sites.specs.declared.parts.Between.TheVariants as manner
use Rattle.jr_piece_sites.specs.declared.parts.Parts as raw
use Rattle.jr_piece_sites.specs.declared.parts.Parts.TheVariants as form
use Rattle.jr_piece_sites.specs.Parts as parts

abbrev pub between_of : raw_between.Between → parts.Between
between_of manner.Valued = parts.valued
between_of manner.Assigned = parts.assigned
between_of manner.Changed = parts.changed

abbrev pub parts_view : {A : Type 0} → raw.Parts A → parts.Parts A
parts_view form.Leaf = parts.leaf
parts_view form.Named = parts.named
parts_view (form.Dotted e) = parts.dotted (expr_of e.now)
parts_view (form.One k e) = parts.one k (expr_of e.now)
parts_view (form.Two b l r) = parts.two (between_of b) (expr_of l.now) (expr_of r.now)
parts_view (form.Row c es) = parts.row c tree.no_target (exprs_of es.now)
parts_view (form.On e es) = parts.row false (tree.on (expr_of e.now)) (exprs_of es.now)
