use Rattle.std.proofs.Common.{◌≡◌, ◌∙◌, ◌+◌, ◌≤◌, ℕ, List, length, get_or, Option, Some, None, sym, ap, subst, arith}
use Rattle.std.specs.Prelude.{option_map}
use Rattle.jr_text.specs.declared.spans.Span.{Span}
use Rattle.jr_ast.specs.View.{unit_of}
use Rattle.jr_ast.specs.MemberTree.{Unit as UnitTree}
use Rattle.jr_grammar.specs.Tokens.{placed_of}
use Rattle.jr_pexpr.specs.TokenView.{token_view}
use Rattle.jr_punit_laws.specs.Marked.{file_of, span_unit_read, span_unit_whole}
use Rattle.jr_punit_laws.specs.UnitMachine as machine
use Rattle.jr_punit.specs.UnitView.{unit_state}
use Rattle.jr_pstmt.proofs.InPlace.{went, stayed}
use Rattle.jr_punit.proofs.UnitWalks.{placed_at}
use Rattle.jr_punit.proofs.UnitParses.{Goes, Stops, goes, skips, stops, read_whole, byte_whole, read_none}
use Rattle.jr_punit.proofs.parsing.read_unit.Goals as goal
use Rattle.jr_punit.proofs.parsing.read_unit.Goals.{in-Some+in-Ok+else-not-goes_on, in_default}

pub token_at-requires : goal.token_at-requires
token_at-requires c = placed_at c.args.text.now c.args.items.now c.loop-i.i c.items_are_placed.ensures.items c.requires.lexed c.loop-i-test.true

pub returns-then-not-goes_on-clause-fault : goal.returns-then-not-goes_on-clause-fault
returns-then-not-goes_on-clause-fault c =
    let bytes = c.args.text.now in
    let items = c.args.items.now in
    let h : Stops bytes items c.loop-i.i (unit_state c.loop-i.state) =
    stops bytes items c.loop-i.i (unit_state c.loop-i.state) (token_view c.in-Some.token) c.loop-i-test.true (sym c.in-Some.ensures) (stayed c.in-Ok.goes_on (unit_state c.step.new.self) _ c.in-Ok.ensures c.if-not-goes_on.true) in
    record {
      read = read_none bytes items c.loop-i.i (unit_state c.loop-i.state) h c.loop-i.invariant.read;
      byte = h.byte ∙ c.loop-i.invariant.byte;
    }

abbrev going : goal.Joined-token_at → Type 0
going c = Goes c.args.text.now c.args.items.now c.loop-i.i (unit_state c.loop-i.state) (unit_state c.match-token_at.state)

goes_on : (c : goal.Joined-token_at) → going c
goes_on c =
    let bytes = c.args.text.now in
    let items = c.args.items.now in
    let i = c.loop-i.i in
    elim c.match-token_at.branch [
      | in-Some+in-Ok+else-not-goes_on w ↦
          subst (λ s. Goes bytes items i (unit_state c.loop-i.state) (unit_state s)) (sym w.state-is)
          (goes bytes items i (unit_state c.loop-i.state) (token_view w.in-Some.token) (unit_state w.step.new.self) c.loop-i-test.true (sym w.in-Some.ensures)
          (went w.in-Ok.goes_on (unit_state w.step.new.self) _ w.in-Ok.ensures w.if-not-goes_on.false))
      | in_default w ↦
          subst (λ s. Goes bytes items i (unit_state c.loop-i.state) (unit_state s)) (sym w.state-is)
          (skips bytes items i (unit_state c.loop-i.state) c.loop-i-test.true (sym c.token_at.ensures ∙ ap (option_map token_view) w.in_default.is))
    ]

pub loop-i-preserved : goal.loop-i-preserved
loop-i-preserved c =
    let g = goes_on c in
    record {
      read = g.read ∙ c.loop-i.invariant.read;
      byte = g.byte ∙ c.loop-i.invariant.byte;
    }

-- the unit that the machine reads, by what was finished
finished : (bytes : List ℕ) (end : ℕ) (s : machine.State Span) (o : Option (UnitTree Span)) → end ≡ length bytes → o ≡ machine.whole (record { from = 0; to = end }) s → span_unit_whole (length bytes) s ≡ o
finished bytes end s o e h = ap (λ (n : ℕ). machine.whole (file_of n) s) (sym e) ∙ sym h

pub returns-in-Some-finish-clause-read : goal.returns-in-Some-finish-clause-read
returns-in-Some-finish-clause-read c =
    let bytes = c.args.text.now in
    read_whole bytes c.args.items.now c.loop-i.i (unit_state c.loop-i.state) (omega (arith, c.loop-i-test.false)) c.loop-i.invariant.read
    ∙ finished bytes c.len-end.result (unit_state c.loop-i.state) (option_map unit_of c.finish.result) c.len-end.ensures.len c.finish.ensures
    ∙ ap (option_map unit_of) c.in-Some-finish.is

pub returns-in-None-clause-fault : goal.returns-in-None-clause-fault
returns-in-None-clause-fault c =
    let bytes = c.args.text.now in
    let items = c.args.items.now in
    record {
      read =
          read_whole bytes items c.loop-i.i (unit_state c.loop-i.state) (omega (arith, c.loop-i-test.false)) c.loop-i.invariant.read
          ∙ finished bytes c.len-end.result (unit_state c.loop-i.state) (option_map unit_of c.finish.result) c.len-end.ensures.len c.finish.ensures
          ∙ ap (option_map unit_of) c.in-None.is;
      byte = c.len-end.ensures.len ∙ byte_whole bytes items c.loop-i.i (unit_state c.loop-i.state) (omega (arith, c.loop-i-test.false)) c.loop-i.invariant.byte;
    }
