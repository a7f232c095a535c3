use Rattle.std.proofs.Common.{inl, inr, refl, ap, sym, option_map, option_and_then, ◌∙◌, arith}
use Rattle.std.specs.Option.{is_some}
use Rattle.jr_ast.specs.Nodes as pure
use Rattle.jr_paths_nodes.specs.NodeView.{node_of}
use Rattle.jr_ast.specs.View.{unit_of}
use Rattle.jr_paths.proofs.LastSteps.{last_start, last_step, last_ends, last_whole, step_node, none_beyond}
use Rattle.jr_paths.proofs.turns.turns_of.Goals as goal
use Rattle.jr_paths.proofs.turns.turns_of.Goals.{then-is_member, else-is_member, then-is_stmt, else-is_stmt}

pub loop-i-init : goal.loop-i-init
unfolding pure.node_at
loop-i-init g c =
    let u = pure.unit (unit_of c.args.unit.now) in
    (refl, last_start (pure.member_at u) c.args.steps.now, last_start (pure.stmt_at u) c.args.steps.now)

pub returns-in-None-clause-members : goal.returns-in-None-clause-members
returns-in-None-clause-members g c =
    let u = pure.unit (unit_of c.args.unit.now) in
    let steps = c.args.steps.now in
    let i = c.loop-i.i in
    let off = step_node u steps (node_of c.loop-i.node) i c.loop-i.invariant.0 c.loop-i-test.true ∙ sym c.child.ensures ∙ ap (option_map node_of) c.in-None.is in
    last_ends (pure.member_at u) steps i c.loop-i.members (omega (c.loop-i-test.true, arith)) c.loop-i.invariant.1
    (λ k far. ap (option_and_then pure.as_member) (none_beyond u steps i off k far))

pub returns-in-None-clause-stmts : goal.returns-in-None-clause-stmts
returns-in-None-clause-stmts g c =
    let u = pure.unit (unit_of c.args.unit.now) in
    let steps = c.args.steps.now in
    let i = c.loop-i.i in
    let off = step_node u steps (node_of c.loop-i.node) i c.loop-i.invariant.0 c.loop-i-test.true ∙ sym c.child.ensures ∙ ap (option_map node_of) c.in-None.is in
    last_ends (pure.stmt_at u) steps i c.loop-i.stmts (omega (c.loop-i-test.true, arith)) c.loop-i.invariant.2
    (λ k far. ap (option_and_then pure.as_stmt) (none_beyond u steps i off k far))

pub loop-i-preserved : goal.loop-i-preserved
loop-i-preserved g c =
    let u = pure.unit (unit_of c.args.unit.now) in
    let steps = c.args.steps.now in
    let i = c.loop-i.i in
    let on = step_node u steps (node_of c.loop-i.node) i c.loop-i.invariant.0 c.loop-i-test.true ∙ sym c.child.ensures ∙ ap (option_map node_of) c.in-Some.is in (
      on,
      last_step (pure.member_at u) steps i c.loop-i.members c.if-is_member.members c.is_member.result
          (c.is_member.ensures ∙ ap (λ o. is_some (option_and_then pure.as_member o)) (sym on)) c.loop-i.invariant.1
          (elim c.if-is_member.branch [ then-is_member w ↦ inl (w.if-is_member.true, w.members-is) | else-is_member w ↦ inr (w.if-is_member.false, w.members-is) ]),
      last_step (pure.stmt_at u) steps i c.loop-i.stmts c.if-is_stmt.stmts c.is_stmt.result
          (c.is_stmt.ensures ∙ ap (λ o. is_some (option_and_then pure.as_stmt o)) (sym on)) c.loop-i.invariant.2
          (elim c.if-is_stmt.branch [ then-is_stmt w ↦ inl (w.if-is_stmt.true, w.stmts-is) | else-is_stmt w ↦ inr (w.if-is_stmt.false, w.stmts-is) ]),
    )

pub returns-clause-members : goal.returns-clause-members
returns-clause-members g c =
    last_whole (pure.member_at (pure.unit (unit_of c.args.unit.now))) c.args.steps.now c.loop-i.i c.loop-i.members c.loop-i.auto.i-end c.loop-i-test.false c.loop-i.invariant.1

pub returns-clause-stmts : goal.returns-clause-stmts
returns-clause-stmts g c =
    last_whole (pure.stmt_at (pure.unit (unit_of c.args.unit.now))) c.args.steps.now c.loop-i.i c.loop-i.stmts c.loop-i.auto.i-end c.loop-i-test.false c.loop-i.invariant.2
