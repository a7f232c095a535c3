use Rattle.std.proofs.Common.{sym}
use Rattle.jr_table.specs.KeyView.{method_key_of}
use Rattle.jr_images.proofs.MethodWalks.{no_owner}
use Rattle.jr_images.proofs.method_index.MethodIndex.has.Goals as goal

pub returns-in-None : goal.returns-in-None
returns-in-None c = sym (no_owner c.args.decls.now c.args.self.now (method_key_of c.args.key.now) c.requires (sym c.in-None.ensures))
