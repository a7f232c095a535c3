use Rattle.jr_table.specs.KeyView.{decl_of}
use Rattle.jr_mentions.specs.ApartView.{names_in}
use Rattle.jr_new_files.proofs.Among.{among_goes, among_ends}
use Rattle.jr_new_files.proofs.unaffected.are_among.Goals as goal

pub loop-decl-init : goal.loop-decl-init
loop-decl-init c = λ h. h

pub loop-decl-preserved : goal.loop-decl-preserved
loop-decl-preserved c =
    among_goes decl_of (names_in c.args.names.now) c.args.decls.now c.loop-decl.decl-index c.decl-item.result c.loop-decl-test.true c.decl-item.is (c.is_among.ensures c.if-not-is_among.false) c.loop-decl.invariant

pub returns : goal.returns
returns c = λ t. among_ends decl_of (names_in c.args.names.now) c.args.decls.now c.loop-decl.decl-index c.loop-decl-test.false c.loop-decl.invariant
