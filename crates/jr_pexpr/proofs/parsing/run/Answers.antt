use Rattle.std.proofs.Common.{◌≡◌, ◌∙◌, ◌+◌, ℕ, List, Option, Some, None, get_or, sym, ap, subst, arith}
use Rattle.std.specs.Prelude.{slice_range, option_map}
use Rattle.jr_grammar.specs.Tokens.{placed_of}
use Rattle.jr_pexpr.specs.StateView.{state_view}
use Rattle.jr_pexpr.specs.TokenView.{token_view}
use Rattle.jr_pexpr.specs.Walks.{rule_run}
use Rattle.jr_pexpr.proofs.Walking.{no_item, placed_at, run_token, run_blank, run_halt}
use Rattle.jr_pexpr.proofs.Finds.{Finds}
use Rattle.jr_pexpr.proofs.Readings as R
use Rattle.jr_pexpr.proofs.parsing.run.Goals as goal
use Rattle.jr_pexpr.proofs.parsing.run.Goals.{in-Some+in_ok-next+in-Some-2, in_default}

pub token_at-requires : goal.token_at-requires
token_at-requires c = placed_at c.args.text.now c.args.items.now c.loop-i.i c.items_are_placed.ensures.items c.requires.lexed (omega (arith, c.requires.within))

pub returns-in-None : goal.returns-in-None
returns-in-None c =
    sym (run_halt c.args.rule c.args.text.now c.args.items.now c.loop-i.i c.args.to (state_view c.loop-i.state) (token_view c.in-Some.token) c.loop-i-test.true c.requires.within (sym c.in-Some.ensures)
    (sym c.in_ok-next.ensures ∙ ap (option_map state_view) c.in-None.is))
    ∙ c.loop-i.invariant

pub loop-i-preserved : goal.loop-i-preserved
loop-i-preserved c =
    let r = c.args.rule in
    let bytes = c.args.text.now in
    let items = c.args.items.now in
    let i = c.loop-i.i in
    let left : rule_run r (state_view c.match-token_at.state) (placed_of bytes (slice_range items (i + 1) c.args.to)) ≡ rule_run r (state_view c.loop-i.state) (placed_of bytes (slice_range items i c.args.to)) =
    elim c.match-token_at.branch [
      | in-Some+in_ok-next+in-Some-2 w ↦
          run_token r bytes items i c.args.to (state_view c.loop-i.state) (token_view w.in-Some.token) (state_view c.match-token_at.state) c.loop-i-test.true c.requires.within (sym w.in-Some.ensures)
          (sym w.in_ok-next.ensures ∙ ap (option_map state_view) (w.in-Some-2.is ∙ ap (λ s. Some s) (sym w.state-is)))
      | in_default w ↦
          ap (λ s. rule_run r (state_view s) (placed_of bytes (slice_range items (i + 1) c.args.to))) w.state-is
          ∙ run_blank r bytes items i c.args.to (state_view c.loop-i.state) c.loop-i-test.true c.requires.within (sym c.token_at.ensures ∙ ap (option_map token_view) w.in_default.is)
    ] in
    left ∙ c.loop-i.invariant
