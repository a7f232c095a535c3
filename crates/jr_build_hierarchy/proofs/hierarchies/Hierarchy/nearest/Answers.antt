use Rattle.std.proofs.Common.{◌≡◌, ◌<◌, ◌≤◌, ◌-◌, ◌+◌, length, sym, ◌∙◌, arith}
use Rattle.jr_build_hierarchy.specs.HierarchyView.{hierarchy_of}
use Rattle.jr_build_hierarchy.proofs.HierarchyLaws.{size_is}
use Rattle.jr_build_hierarchy.proofs.Nearest.{own_first, goes_up, at_top, no_turn, first_turn}
use Rattle.jr_build_hierarchy.proofs.hierarchies.Hierarchy.nearest.Goals as goal

pub loop-turn-init : goal.loop-turn-init
loop-turn-init c = first_turn (hierarchy_of c.args.self.now) c.args.name.now (length (hierarchy_of c.args.self.now).keys) c.args.class

pub returns-in-Some : goal.returns-in-Some
returns-in-Some c =
    let h = hierarchy_of c.args.self.now in
    let n = length h.keys in
    let size = size_is c.args.self.now in
    let less : c.loop-turn._turn < n = omega (arith, size, c.len-turn-end.ensures, c.loop-turn-test.true) in
    sym (own_first h c.args.name.now n c.loop-turn._turn c.loop-turn.class c.in-Some.own less (sym c.in-Some.ensures)) ∙ c.loop-turn.invariant

pub returns-in_default-parent_at : goal.returns-in_default-parent_at
returns-in_default-parent_at c =
    let h = hierarchy_of c.args.self.now in
    let n = length h.keys in
    let size = size_is c.args.self.now in
    let less : c.loop-turn._turn < n = omega (arith, size, c.len-turn-end.ensures, c.loop-turn-test.true) in
    sym (at_top h c.args.name.now n c.loop-turn._turn c.loop-turn.class less (sym c.in_default.ensures) (sym c.in_default-parent_at.ensures)) ∙ c.loop-turn.invariant

pub loop-turn-preserved : goal.loop-turn-preserved
loop-turn-preserved c =
    let h = hierarchy_of c.args.self.now in
    let n = length h.keys in
    let size = size_is c.args.self.now in
    let less : c.loop-turn._turn < n = omega (arith, size, c.len-turn-end.ensures, c.loop-turn-test.true) in
    sym (goes_up h c.args.name.now n c.loop-turn._turn c.loop-turn.class c.in-Some-parent_at.parent less (sym c.in_default.ensures) (sym c.in-Some-parent_at.ensures)) ∙ c.loop-turn.invariant

pub returns : goal.returns
returns c =
    let h = hierarchy_of c.args.self.now in
    let n = length h.keys in
    let size = size_is c.args.self.now in
    let past : n ≤ c.loop-turn._turn = omega (arith, size, c.len-turn-end.ensures, c.loop-turn-test.false) in
    sym (no_turn h c.args.name.now n c.loop-turn._turn c.loop-turn.class past) ∙ c.loop-turn.invariant
