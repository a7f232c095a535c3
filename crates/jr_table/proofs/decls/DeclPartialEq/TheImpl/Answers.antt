use Rattle.std.proofs.lemmas.Bool.Decides.{same_from_decides}
use Rattle.jr_table.specs.KeyView.{decl_of}
use Rattle.jr_table.specs.SameDecls.{same_decl, decl_decides}
use Rattle.jr_table.proofs.decls.DeclPartialEq.TheImpl.Goals as goal

pub eq-tells : goal.eq-tells
eq-tells c =
    let left = decl_of c.args.self.now in
    let right = decl_of c.args.other.now in
    same_from_decides c.result (same_decl left right) c.ensures (decl_decides left right)
