use Rattle.std.proofs.Common.{ℕ, List, [], Some, None, option_map, sym, ap, subst, ◌∙◌}
use Rattle.std.specs.Prelude.{Option}
use Rattle.jr_text.specs.declared.spans.Span.{Span}
use Rattle.jr_ast.specs.Tree as tree
use Rattle.jr_ast.specs.StatementTree as statement
use Rattle.jr_ast.specs.View.{stmts_of}
use Rattle.jr_grammar.specs.Layout.{itself}
use Rattle.jr_pieces.specs.Ways.{ListWay}
use Rattle.jr_pieces.specs.Finding.{list_path}
use Rattle.jr_piece_search.specs.SoughtStatements.{Found, IsFound, NoneHasTheSpan}
use Rattle.jr_piece_search.specs.StatementView.{found_of}
use Rattle.jr_told_ways.specs.Told.{In, IsOneWay, OneWayHasASpan}
use Rattle.jr_local_search.proofs.Paths.{list_ends}
use Rattle.jr_local_uses.specs.Paths.{IsPathOf}
use Rattle.jr_local_uses.proofs.plain.path_of.Goals as goal

path_found : NoneHasTheSpan → OneWayHasASpan Span → (s : Span) (b : statement.Stmts Span) (front : ℕ) (path : List ℕ) (o : Option Found) → IsFound s b front [] path o → IsPathOf b front s path
path_found absent one s b front path None none whole lo nested e way is = absurd (absent s whole lo front b nested none e way is)
path_found absent one s b front path (Some x) found whole lo nested e way is =
    let place = found.1 in
    let ends = list_ends x.value b place.way whole.from ∙ found.0 ∙ sym is ∙ sym (list_ends e b way whole.from) in
    let same : IsOneWay place.way way = one itself whole lo b nested x.value e place.way way ends in
    place.path ∙ ap (λ (z : In (λ (f : tree.Exp Span). ListWay f b)). list_path front z.way) same

pub returns : goal.returns
returns c =
    let s = c.args.span.now in
    let b = stmts_of c.args.code.now.list.now in
    let front = c.args.code.now.front in
    let o = option_map found_of c.in_ok-found.found in
    let new = c.find.new.path.items in
    let found = subst (λ (old : List ℕ). IsFound s b front old new o) c.new-steps.ensures.items c.in_ok-found.ensures in
    path_found c.none_has_the_span.ensures c.one_way_has_a_span.ensures s b front new o found
