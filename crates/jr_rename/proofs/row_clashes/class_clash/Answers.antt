use Rattle.jr_table.specs.TypeView.{class_key_of}
use Rattle.jr_table.specs.KeyView.{decl_of}
use Rattle.jr_images.specs.Clashes.{ClassClashes}
use Rattle.jr_rename.specs.RowClashes.{class_clashes}
use Rattle.std.proofs.Common.{ap}
use Rattle.jr_rename.proofs.ClashTests.{if_some, class_clash_decides, first_row, no_row}
use Rattle.jr_rename.proofs.row_clashes.class_clash.Goals as goal

pub returns-clause-some : goal.returns-clause-some
returns-clause-some c =
    let k = class_key_of c.args.key.now in
    if_some c.class_hit.result (λ d h. first_row c.args.rows.now (class_clashes k c.args.new.now) (ClassClashes k c.args.new.now) (class_clash_decides k c.args.new.now)
    (decl_of d.now) h.0 h.1 h.2 h.3 (ap decl_of h.4) h.5) c.class_hit.ensures.some

pub returns-clause-none : goal.returns-clause-none
returns-clause-none c = λ e.
    let k = class_key_of c.args.key.now in
    no_row c.args.rows.now (class_clashes k c.args.new.now) (ClassClashes k c.args.new.now) (class_clash_decides k c.args.new.now) (c.class_hit.ensures.none e)
