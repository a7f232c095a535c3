use Rattle.std.proofs.Common.{List, sym, subst}
use Rattle.jr_table.specs.KeyView.{member_key_of}
use Rattle.jr_bind.specs.declared.sharing.Shared as raw
use Rattle.jr_bind.specs.Targets.{AreShared}
use Rattle.jr_bind.proofs.SharedDecls.{if_there}
use Rattle.jr_bind.proofs.sharing.shared_decl.Goals as goal

pub returns-in-Some-clause-declared : goal.returns-in-Some-clause-declared
returns-in-Some-clause-declared c =
    let rows = c.args.table.now in
    let k = member_key_of c.args.member.now in
    let are = subst (λ (l : List raw.Shared). AreShared rows k l) (sym c.as_slice.ensures.value) c.requires in
    if_there _ _ _ c.in-Some.is (c.in_ok-decl.ensures rows k are)
