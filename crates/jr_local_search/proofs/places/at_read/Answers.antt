use Rattle.std.proofs.Common.{◌≡◌, false, List, Option, map, subst}
use Rattle.std.specs.Prelude.{slice_get}
use Rattle.jr_text.specs.declared.spans.Span.{Span}
use Rattle.jr_ast.specs.View.{stmts_of}
use Rattle.jr_grammar.specs.Layout.{itself}
use Rattle.jr_pieces.specs.Returns.{returns_in_list}
use Rattle.jr_local_search.specs.NamingView.{naming_of}
use Rattle.jr_local_search.specs.Places.{IsReturnBefore}
use Rattle.jr_local_search.proofs.PlaceCases.{at_bar, at_return, may_move}
use Rattle.jr_local_search.proofs.places.at_read.Goals as goal

pub returns-in-Some : goal.returns-in-Some
returns-in-Some c = λ base only.
    at_bar (slice_get (returns_in_list itself base (stmts_of c.args.list.now)) 0) (map naming_of c.args.namings.now) (naming_of c.args.read.now) only c.in-Some.at c.in-Some.is

pub returns-in-Some-return_before : goal.returns-in-Some-return_before
returns-in-Some-return_before c = λ base only.
    let first = slice_get (returns_in_list itself base (stmts_of c.args.list.now)) 0 in
    at_return first (map naming_of c.args.namings.now) (naming_of c.args.read.now) only c.in-Some-return_before.span c.in-None.is
    (subst (λ (o : Option Span). IsReturnBefore first c.args.read.now.span.from o) c.in-Some-return_before.is (c.return_before.ensures base))

pub returns-in-None-return_before : goal.returns-in-None-return_before
returns-in-None-return_before c = λ base only.
    let first = slice_get (returns_in_list itself base (stmts_of c.args.list.now)) 0 in
    c.behind_moves.ensures false first
    (may_move first (map naming_of c.args.namings.now) (naming_of c.args.read.now) only c.in-None.is
    (subst (λ (o : Option Span). IsReturnBefore first c.args.read.now.span.from o) c.in-None-return_before.is (c.return_before.ensures base)))
