use Rattle.std.proofs.Common.{◌≡◌, List, [], ℕ, take, get_or, sym, ap, ◌∙◌, arith}
use Rattle.std.proofs.lemmas.List.{take_all, take_more}
use Rattle.jr_way_graph.specs.PieceView.{machine_view, stack_view}
use Rattle.jr_way_graph.specs.declared.shapes.Shape.{Shape}
use Rattle.jr_way_graph.specs.declared.shapes.Shape.TheVariants as shape
use Rattle.jr_way_graph.specs.declared.pieces.Piece.{Piece}
use Rattle.jr_way_graph.specs.Pieces.{Machine, run, none, step}
use Rattle.jr_way_graph.proofs.Running.{run_more, step_count}
use Rattle.jr_way_graph.proofs.machine.go.Goals as goal

begun : (ps : List Piece) (es : List (ℕ × ℕ)) → ps ≡ [] → es ≡ [] → record { count = 0; stack = stack_view ps; edges = es } ≡ none
begun ps es e f = λ i. record { count = 0; stack = stack_view (e i); edges = f i }

pub step-requires : goal.step-requires
step-requires c = let few = c.loop-number.invariant.few in omega (arith, few)

pub loop-number-init : goal.loop-number-init
loop-number-init c = record { few = omega arith; runs = begun _ _ c.new.ensures.items c.new-2.ensures.items }

pub loop-number-preserved : goal.loop-number-preserved
loop-number-preserved c =
    let i = c.loop-number.number in
    let xs = c.args.shapes.now in
    let s = get_or xs i shape.Pass in
    let old = machine_view c.loop-number.machine in
    let few = c.loop-number.invariant.few in
    let more = step_count s old in
    let same : c.step.new.self.count ≡ (step s old).count = ap (λ (m : Machine). m.count) c.in_ok-step.ensures in
    record {
      few = omega (arith, few, more, same);
      runs = c.in_ok-step.ensures ∙ ap (step s) c.loop-number.invariant.runs ∙ sym (run_more (take i xs) s none) ∙ ap (λ (l : List Shape). run l none) (sym (take_more xs i shape.Pass c.loop-number-test.true));
    }

pub returns : goal.returns
returns c =
    c.loop-number.invariant.runs ∙ ap (λ (l : List Shape). run l none) (take_all c.loop-number.number c.args.shapes.now (omega arith))
