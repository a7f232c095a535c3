use Rattle.std.proofs.Common.{◌≡◌, [], List, ℕ, Option, sym, subst, option_map}
use Rattle.jr_ast.specs.View.{stmts_of}
use Rattle.jr_piece_search.specs.SoughtStatements.{IsFound}
use Rattle.jr_piece_search.specs.StatementView.{found_of}
use Rattle.jr_local_search.specs.Namings.{Naming}
use Rattle.jr_local_search.specs.NamingView.{IsNamedAt, named_in}
use Rattle.jr_local_search.proofs.NameRows.{is_named_at}
use Rattle.jr_local_search.proofs.names.naming_in.Goals as goal

pub returns : goal.returns
returns c =
    let s = c.args.span in
    let b = stmts_of c.args.list.now in
    let o = option_map found_of c.in_ok-found.found in
    let new = c.find.new.path.items in
    let found = subst (λ (old : List ℕ). IsFound s b 0 old new o) c.new-path.ensures.items c.in_ok-found.ensures in
    subst (IsNamedAt s b) (sym c.as_naming.ensures) (is_named_at s b c.spans_tell_ways.ensures o new found)
