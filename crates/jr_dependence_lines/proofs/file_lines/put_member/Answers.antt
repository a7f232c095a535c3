use Rattle.std.proofs.Common.{Some, sym, subst}
use Rattle.std.specs.Prelude.{Err}
use Rattle.jr_ast.specs.View.{member_of}
use Rattle.jr_table.specs.Decls.{MemberKey}
use Rattle.jr_table.specs.Errors.{member_part}
use Rattle.jr_cfg.specs.declared.faults.CfgFault.{CfgFault}
use Rattle.jr_cfg.specs.Graphs.{IsGraphOfMember}
use Rattle.jr_cfg.specs.MemberRoutes.{HasKey}
use Rattle.jr_dependence_lines.specs.MemberLines.{tells}
use Rattle.jr_dependence_lines.specs.Tallies.{PutsPart}
use Rattle.jr_dependence_lines.proofs.MemberSteps.{own_given, graph_put, sites_told}
use Rattle.jr_dependence_lines.proofs.file_lines.put_member.Goals as goal

pub returns-in-Err-TooManySites : goal.returns-in-Err-TooManySites
returns-in-Err-TooManySites c items key is =
    let x = member_of c.args.member.now in
    let b = c.args.bound.now in
    let has : HasKey key x = subst (λ (k : MemberKey). HasKey k x) is.bound.member c.requires.0 in
    let exact =
    subst (λ (f : CfgFault). IsGraphOfMember tells b.super_at c.args.base (own_given c.args.table.now b c.args.base x b.bound.member) x (Err f)) c.in-Err-TooManySites.field-0-is
    c.in-Err-TooManySites.ensures.exact in
    subst (λ n. PutsPart c.args.table.now items key c.args.base (member_part x) c.args.tally.now c.args.tally.now (Some n)) (sym c.in-Err-TooManySites.count-is)
    (sites_told c.args.table.now b c.args.base x items key is has c.in-Err-TooManySites.ensures.tests c.in-Err-TooManySites.count exact c.args.tally.now c.args.tally.now)

pub returns-in_ok-put_bound-in-Ok : goal.returns-in_ok-put_bound-in-Ok
returns-in_ok-put_bound-in-Ok c items key is =
    let x = member_of c.args.member.now in
    let b = c.args.bound.now in
    let has : HasKey key x = subst (λ (k : MemberKey). HasKey k x) is.bound.member c.requires.0 in
    graph_put c.args.table.now b c.args.base x items key is has c.in-Ok.ensures.tests c.in-Ok.graph c.in-Ok.ensures.exact c.args.tally.now c.put_bound.new.tally c.in_ok-put_bound-in-Ok.ensures
