use Rattle.std.proofs.Common.{◌≡◌, ◌∙◌, ◌+◌, suc, drop, refl, sym, add-one}
use Rattle.jr_ast.specs.View.{stmt_of, stmts_of}
use Rattle.jr_table.specs.Context.{after}
use Rattle.jr_new_bodies.specs.Known.{context_of}
use Rattle.jr_local_parts.specs.Descending.{standing, pick as chosen}
use Rattle.jr_local_parts.proofs.Goings.{stays, goes_on, goes_here}
use Rattle.jr_local_parts.proofs.Descents.{pick_here, pick_goes, pick_ends}
use Rattle.jr_local_parts.proofs.elements.pick.Goals as goal

pub pass-requires : goal.pass-requires
pass-requires c = c.loop-of.invariant.goes.known

pub loop-of-init : goal.loop-of-init
loop-of-init c = record { goes = stays c.args.here.now c.requires; is = refl }

pub returns-then-number-wanted : goal.returns-then-number-wanted
returns-then-number-wanted c =
    let l = c.loop-of in
    let p = standing (context_of l.here) l.next c.args.base in
    record {
      goes = l.invariant.goes;
      is = sym (l.invariant.is ∙ pick_here c.args.list.now l.of-index p l.number c.args.wanted c.of-item.result c.loop-of-test.true c.of-item.is c.if-number-wanted.true);
    }

pub loop-of-preserved : goal.loop-of-preserved
loop-of-preserved c =
    let l = c.loop-of in
    let xs = c.args.list.now in
    let x = context_of l.here in
    let p = standing x l.next c.args.base in
    let passed = c.in_ok-next.ensures in
    let new = c.pass.new.here in
    let number : c.in_ok-number.number ≡ suc l.number = c.in_ok-number.ensures ∙ add-one l.number in
    record {
      goes = goes_here c.args.here.now new (after l.next x (stmt_of c.of-item.result)) (goes_on c.args.here.now l.here new x (after l.next x (stmt_of c.of-item.result)) l.invariant.goes passed.goes);
      is = l.invariant.is ∙ pick_goes xs l.of-index p l.number c.args.wanted c.of-item.result c.loop-of-test.true c.of-item.is c.if-number-wanted.false
          ∙ (λ i. chosen (standing (sym passed.goes.context i) (sym passed.number i) c.args.base) (sym number i) c.args.wanted (stmts_of (drop (l.of-index + 1) xs)));
    }

pub returns : goal.returns
returns c =
    let l = c.loop-of in
    let p = standing (context_of l.here) l.next c.args.base in
    record {
      goes = l.invariant.goes;
      is = sym (l.invariant.is ∙ pick_ends c.args.list.now l.of-index p l.number c.args.wanted c.loop-of-test.false);
    }
