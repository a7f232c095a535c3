use Rattle.std.proofs.Common.{List, map, sym, subst}
use Rattle.jr_ast.specs.View.{stmts_of}
use Rattle.jr_local_search.specs.NamingView.{naming_of}
use Rattle.jr_local_search.proofs.NameRows.{Gathered, gathered_none, gathers_read, gathered_all}
use Rattle.jr_local_search.proofs.names.namings.Goals as goal

pub loop-at-init : goal.loop-at-init
loop-at-init c = subst (λ xs. Gathered c.args.places.now c.args.size (stmts_of c.args.list.now) 0 (map naming_of xs)) (sym c.new-namings.ensures.items) (gathered_none c.args.places.now c.args.size (stmts_of c.args.list.now))

pub loop-at-preserved : goal.loop-at-preserved
loop-at-preserved c =
    let l = c.loop-at in
    gathers_read c.args.places.now c.args.size (stmts_of c.args.list.now) l.at-index _ c.loop-at-test.true (map naming_of l.namings.items) (map naming_of c.add_naming.new.namings.items) l.invariant c.in_ok-add_naming.ensures

pub returns : goal.returns
returns c =
    let l = c.loop-at in
    gathered_all c.args.places.now c.args.size (stmts_of c.args.list.now) l.at-index (map naming_of l.namings.items) c.loop-at-test.false l.invariant
