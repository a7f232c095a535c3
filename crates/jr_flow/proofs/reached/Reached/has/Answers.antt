use Rattle.std.proofs.Common.{List, ℕ, ◌+◌, ◌*◌, ◌/◌, ◌<◌, length, sym, subst, arith}
use Rattle.jr_flow.proofs.Finding.{inside_last, has_is}
use Rattle.jr_flow.proofs.reached.Reached.has.Goals as goal

pub returns-then-node-self : goal.returns-then-node-self
returns-then-node-self c = (λ e. absurd cc, λ h. let low = h.0 in absurd (omega arith))

pub has-requires : goal.has-requires
has-requires c =
    subst (λ (ws : List ℕ). 64 * c.width_of-width.result * c.width_of-width.result + c.args.node / 64 < length ws) (sym c.deref.ensures.value)
    (inside_last c.args.self.now.size c.width_of-width.result c.args.node c.args.self.now.words.items c.width_of-width.ensures.width c.args.self.now.whole c.if-node-self.false)

pub returns : goal.returns
returns c =
    has_is c.args.self.now.words.items c.deref.result.now c.args.self.now.size c.width_of-width.result c.args.node c.has.result c.deref.ensures.value c.width_of-width.ensures.width
    c.if-node-self.false c.has.ensures
