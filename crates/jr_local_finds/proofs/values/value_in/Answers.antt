use Rattle.std.proofs.Common.{List, ℕ, sym, subst}
use Rattle.std.specs.Prelude.{option_map}
use Rattle.jr_ast.specs.View.{stmts_of}
use Rattle.jr_piece_search.specs.SoughtStatements.{IsFound}
use Rattle.jr_piece_search.specs.StatementView.{found_of}
use Rattle.jr_local_finds.specs.SoughtValues.{IsSought}
use Rattle.jr_local_finds.proofs.Seeking.{sought}
use Rattle.jr_local_finds.proofs.values.value_in.Goals as goal

pub returns : goal.returns
returns c =
    let s = c.args.span.now in
    let b = stmts_of c.args.code.now.list.now in
    let front = c.args.code.now.front in
    let types = c.args.bound.now.types in
    let o = option_map found_of c.in_ok-found.found in
    let new = c.find.new.path.items in
    let found = subst (λ (old : List ℕ). IsFound s b front old new o) c.new-steps.ensures.items c.in_ok-found.ensures in
    subst (IsSought b front types s) (sym c.chosen.ensures) (sought c.none_has_the_span.ensures c.one_way_has_a_span.ensures b front types s o new found)
