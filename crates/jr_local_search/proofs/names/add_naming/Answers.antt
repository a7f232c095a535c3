use Rattle.std.proofs.Common.{◌≡◌, ◌+◌, ◌++◌, map, option_map, arith}
use Rattle.std.proofs.lemmas.Result.{IfOk-weaker}
use Rattle.jr_ast.specs.View.{stmts_of}
use Rattle.jr_local_search.specs.NamingView.{AddsNaming, listed, naming_of}
use Rattle.jr_local_search.proofs.NameRows.{nothing_added, one_added}
use Rattle.jr_local_search.proofs.names.add_naming.Goals as goal

pub returns-then-size-room : goal.returns-then-size-room
returns-then-size-room c =
    let over = c.if-size-room.true in
    nothing_added c.args.at c.args.size (stmts_of c.args.list.now) (map naming_of c.args.namings.now.items) (λ few. omega (arith, over, few))

pub returns : goal.returns
returns c =
    let b = stmts_of c.args.list.now in
    let old = map naming_of c.args.namings.now.items in
    let new = map naming_of c.put_naming.new.namings.items in
    let put = option_map naming_of c.in_ok-naming.naming in
    IfOk-weaker c.put_naming.result (λ x. new ≡ old ++ listed put) (λ x. AddsNaming c.args.at c.args.size b old new) (λ x h. one_added c.args.at c.args.size b old put new c.in_ok-naming.ensures h) c.put_naming.ensures
