use Rattle.std.proofs.Common.{List, ℕ, ◌+◌, ◌*◌, ◌/◌, ◌<◌, length, sym, subst, arith}
use Rattle.jr_flow.proofs.Telling.{inside_rows, comes_is}
use Rattle.jr_flow.proofs.reach.Reach.comes.Goals as goal

pub returns-then-from-self : goal.returns-then-from-self
returns-then-from-self c = (λ e. absurd cc, λ h. let low = h.0 in absurd (omega arith))

pub returns-then-to-self : goal.returns-then-to-self
returns-then-to-self c = (λ e. absurd cc, λ h. let low = h.1 in absurd (omega arith))

pub has-requires : goal.has-requires
has-requires c =
    subst (λ (ws : List ℕ). c.args.from * c.width_of.result + c.args.to / 64 < length ws) (sym c.deref.ensures.value)
    (inside_rows c.args.self.now.size c.width_of.result c.args.from c.args.to c.args.self.now.words.items c.width_of.ensures.width c.args.self.now.whole c.if-from-self.false c.if-to-self.false)

pub returns : goal.returns
returns c =
    comes_is c.args.self.now.words.items c.deref.result.now c.args.self.now.size c.width_of.result c.args.from c.args.to c.has.result c.deref.ensures.value c.width_of.ensures.width
    c.if-from-self.false c.if-to-self.false c.has.ensures
