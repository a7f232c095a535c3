use Rattle.std.proofs.Common.{length, sym, arith}
use Rattle.std.proofs.lemmas.List.{take_all, length-map}
use Rattle.jr_scopes.specs.Helds.{held_of}
use Rattle.jr_scopes.specs.Tracked.{locals_of}
use Rattle.jr_new_words.specs.Scopes.{locals_in}
use Rattle.jr_new_words.proofs.scopes.Scopes.truncate.Goals as goal

pub cut-requires-clause-within : goal.cut-requires-clause-within
cut-requires-clause-within c =
    let s = c.args.self.now in
    let count = length-map (locals_of s.locals) held_of in
    let is = c.len.ensures in
    omega (arith, count, is, c.if-depth-len.true)

pub returns-else-depth-len-clause-locals : goal.returns-else-depth-len-clause-locals
returns-else-depth-len-clause-locals c =
    let s = c.args.self.now in
    let count = length-map (locals_of s.locals) held_of in
    let is = c.len.ensures in
    sym (take_all c.args.depth (locals_in s) (omega (arith, count, is, c.if-depth-len.false)))
