use Rattle.std.proofs.Common.{◌≡◌, ◌↔◌, IsTrue, sym, subst}
use Rattle.jr_table.specs.KeyView.{decl_of, local_key_of}
use Rattle.jr_table.specs.Found.{one}
use Rattle.jr_table.specs.Decls.{local_decl}
use Rattle.jr_spell.proofs.Founds.{same_found}
use Rattle.jr_spell.proofs.variables.is_local.Goals as goal

pub returns-in-Local : goal.returns-in-Local
returns-in-Local c =
    let k = local_key_of c.args.key.now in
    subst (λ d. IsTrue c.eq.result ↔ (one (local_decl k) ≡ one (decl_of d))) (sym c.in-Local.is) (same_found (local_key_of c.in-Local.own) k c.eq.result c.eq.ensures)
