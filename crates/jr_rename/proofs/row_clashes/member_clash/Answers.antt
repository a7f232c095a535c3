use Rattle.std.proofs.Common.{ap, map}
use Rattle.jr_table.specs.KeyView.{decl_of}
use Rattle.jr_rename.specs.RowClashes.{one_takes_place, OneTakesPlace}
use Rattle.jr_rename.proofs.ClashTests.{if_some, one_takes_decides, first_row, no_row}
use Rattle.jr_rename.proofs.row_clashes.member_clash.Goals as goal

pub returns-clause-some : goal.returns-clause-some
returns-clause-some c =
    let ds = map decl_of c.args.renamed.now in
    if_some c.member_hit.result (λ d h. first_row c.args.rows.now (one_takes_place ds c.args.new.now) (OneTakesPlace ds c.args.new.now) (one_takes_decides ds c.args.new.now)
    (decl_of d.now) h.0 h.1 h.2 h.3 (ap decl_of h.4) h.5) c.member_hit.ensures.some

pub returns-clause-none : goal.returns-clause-none
returns-clause-none c = λ e.
    let ds = map decl_of c.args.renamed.now in
    no_row c.args.rows.now (one_takes_place ds c.args.new.now) (OneTakesPlace ds c.args.new.now) (one_takes_decides ds c.args.new.now) (c.member_hit.ensures.none e)
