use Rattle.std.proofs.Common.{◌≡◌, ◌∙◌, ◌+◌, ℕ, Bool, true, false, cond, List, Option, Some, None, get_or, sym, ap, subst, arith}
use Rattle.std.specs.Prelude.{is_some, option_map}
use Rattle.jr_pexpr.specs.StateView.{state_view}
use Rattle.jr_pexpr.specs.TokenView.{token_view}
use Rattle.jr_text.specs.declared.spans.Span.{Span}
use Rattle.jr_pexpr.specs.declared.rules.Rule.{Rule}
use Rattle.jr_pexpr.specs.Machine.{State}
use Rattle.jr_pexpr.specs.Walks.{end_at, rule_whole}
use Rattle.jr_pexpr.proofs.Walking.{no_item, placed_at, GoesOn, Halts, by_token, by_blank, by_halt, halted}
use Rattle.jr_pexpr.proofs.walks.walk.Goals as goal
use Rattle.jr_pexpr.proofs.walks.walk.Goals.{in-Some+else-is_end+in_ok-next+in-Some-2+then-is_whole-2, in-Some+else-is_end+in_ok-next+in-Some-2+else-is_whole-2, in_default}

pub token_at-requires : goal.token_at-requires
token_at-requires c = placed_at c.args.text.now c.args.items.now c.loop-i.i c.items_are_placed.ensures.items c.requires.lexed c.loop-i-test.true

abbrev halting : goal.Then-is_whole → Type 0
halting c = Halts c.args.rule c.args.text.now c.args.items.now c.loop-i.i (state_view c.loop-i.state) c.loop-i.end

halts : (c : goal.Then-is_whole) → halting c
halts c =
    let item = get_or c.args.items.now c.loop-i.i no_item in
    by_halt c.args.rule c.args.text.now c.args.items.now c.loop-i.i (state_view c.loop-i.state) c.loop-i.end (token_view c.in-Some.token) c.loop-i-test.true (sym c.in-Some.ensures)
    (halted c.args.rule (state_view c.loop-i.state) item.span (token_view c.in-Some.token) (sym c.is_end.ensures ∙ c.if-is_end.true) (sym c.is_whole.ensures ∙ c.if-is_whole.true))

pub returns-then-is_whole-clause-end : goal.returns-then-is_whole-clause-end
returns-then-is_whole-clause-end c = (halts c).ends ∙ c.loop-i.invariant.end

pub returns-then-is_whole-clause-stop : goal.returns-then-is_whole-clause-stop
returns-then-is_whole-clause-stop c = (halts c).stops ∙ c.loop-i.invariant.stop

pub returns-then-is_whole-clause-whole : goal.returns-then-is_whole-clause-whole
returns-then-is_whole-clause-whole c = ((halts c).last ∙ c.loop-i.invariant.last, sym c.is_whole.ensures ∙ c.if-is_whole.true)

end_by : (r : Rule) (bytes : List ℕ) (n : State Span) (at : ℕ) (end : Option ℕ) (b : Bool) → is_some (rule_whole r n) ≡ b → end_at r bytes n at end ≡ cond b (Some at) end
end_by r bytes n at end b h = ap (λ (b : Bool). cond b (Some at) end) h

abbrev going : goal.Joined-token_at → Type 0
going c = GoesOn c.args.rule c.args.text.now c.args.items.now c.loop-i.i (state_view c.loop-i.state) c.loop-i.end (state_view c.match-token_at.state) c.match-token_at.end

goes_on : (c : goal.Joined-token_at) → going c
goes_on c =
    let r = c.args.rule in
    let bytes = c.args.text.now in
    let items = c.args.items.now in
    let i = c.loop-i.i in
    elim c.match-token_at.branch [
      | in-Some+else-is_end+in_ok-next+in-Some-2+then-is_whole-2 w ↦
          by_token r bytes items i (state_view c.loop-i.state) c.loop-i.end (token_view w.in-Some.token) (state_view c.match-token_at.state) c.match-token_at.end c.loop-i-test.true (sym w.in-Some.ensures)
          (sym w.in_ok-next.ensures ∙ ap (option_map state_view) (w.in-Some-2.is ∙ ap (λ s. Some s) (sym w.state-is)))
          (w.end-is ∙ sym (end_by r bytes (state_view c.match-token_at.state) (i + 1) c.loop-i.end true (ap (λ s. is_some (rule_whole r (state_view s))) w.state-is ∙ sym w.is_whole-in-Some.ensures ∙ w.if-is_whole-2.true)))
      | in-Some+else-is_end+in_ok-next+in-Some-2+else-is_whole-2 w ↦
          by_token r bytes items i (state_view c.loop-i.state) c.loop-i.end (token_view w.in-Some.token) (state_view c.match-token_at.state) c.match-token_at.end c.loop-i-test.true (sym w.in-Some.ensures)
          (sym w.in_ok-next.ensures ∙ ap (option_map state_view) (w.in-Some-2.is ∙ ap (λ s. Some s) (sym w.state-is)))
          (w.end-is ∙ sym (end_by r bytes (state_view c.match-token_at.state) (i + 1) c.loop-i.end false (ap (λ s. is_some (rule_whole r (state_view s))) w.state-is ∙ sym w.is_whole-in-Some.ensures ∙ w.if-is_whole-2.false)))
      | in_default w ↦
          subst (λ s. GoesOn r bytes items i (state_view c.loop-i.state) c.loop-i.end (state_view s) c.match-token_at.end) (sym w.state-is)
          (subst (λ m. GoesOn r bytes items i (state_view c.loop-i.state) c.loop-i.end (state_view c.loop-i.state) m) (sym w.end-is)
          (by_blank r bytes items i (state_view c.loop-i.state) c.loop-i.end c.loop-i-test.true (sym c.token_at.ensures ∙ ap (option_map token_view) w.in_default.is)))
    ]

pub loop-i-preserved : goal.loop-i-preserved
loop-i-preserved c =
    let g = goes_on c in
    record {
      within = omega (arith, c.loop-i-test.true);
      end = g.ends ∙ c.loop-i.invariant.end;
      stop = g.stops ∙ c.loop-i.invariant.stop;
      last = g.last ∙ c.loop-i.invariant.last;
    }
