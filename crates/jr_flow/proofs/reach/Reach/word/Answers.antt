use Rattle.std.proofs.Common.{List, ℕ, ◌+◌, ◌*◌, ◌/◌, ◌<◌, length, sym, subst, arith}
use Rattle.std.proofs.lemmas.Nat.Bits.{bit_at-zero}
use Rattle.jr_flow.proofs.Telling.{inside_word, word_is}
use Rattle.jr_flow.proofs.reach.Reach.word.Goals as goal

pub returns-then-from-self : goal.returns-then-from-self
returns-then-from-self c to at = (λ h. let low = h.0 in absurd (omega arith), λ p. let low = p.0 in absurd (omega arith))

pub returns-then-word-width : goal.returns-then-word-width
returns-then-word-width c to at =
    let wide = c.width_of-width.ensures.width in
    (λ h. let low = h.1 in absurd (omega arith), λ p. let low = p.1 in absurd (omega arith))

pub word_at-requires : goal.word_at-requires
word_at-requires c =
    subst (λ (ws : List ℕ). c.args.from * c.width_of-width.result + c.args.word < length ws) (sym c.deref.ensures.value)
    (inside_word c.args.self.now.size c.width_of-width.result c.args.from c.args.word c.args.self.now.words.items c.width_of-width.ensures.width c.args.self.now.whole c.if-from-self.false
    c.if-word-width.false)

pub returns : goal.returns
returns c to at =
    word_is c.args.self.now.words.items c.deref.result.now c.args.self.now.size c.width_of-width.result c.args.from to c.args.word c.word_at.result c.deref.ensures.value
    c.width_of-width.ensures.width c.if-from-self.false at c.word_at.ensures
