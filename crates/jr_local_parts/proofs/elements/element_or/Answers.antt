use Rattle.std.proofs.Common.{ap, sym}
use Rattle.jr_local_parts.specs.declared.elements.Reached as raw
use Rattle.jr_local_parts.specs.Descending.{place_of, element_or as pure}
use Rattle.jr_local_parts.proofs.elements.element_or.Goals as goal

pub returns-in-Element : goal.returns-in-Element
returns-in-Element c = λ x. ap (λ (r : raw.Reached). pure (place_of x r) c.args.step c.args.depth c.args.earlier) (sym c.in-Element.is)

pub returns-in-List : goal.returns-in-List
returns-in-List c = λ x. ap (λ (r : raw.Reached). pure (place_of x r) c.args.step c.args.depth c.args.earlier) (sym c.in-List.is)

pub returns-in-Part : goal.returns-in-Part
returns-in-Part c = λ x. ap (λ (r : raw.Reached). pure (place_of x r) c.args.step c.args.depth c.args.earlier) (sym c.in-Part.is)

pub returns-in-Ended : goal.returns-in-Ended
returns-in-Ended c = λ x. ap (λ (r : raw.Reached). pure (place_of x r) c.args.step c.args.depth c.args.earlier) (sym c.in-Ended.is)
