use Rattle.std.proofs.Common.{◌≡◌, ◌∙◌, ◌≤◌, [], ℕ, List, length, drop, Option, Some, None, sym, ap, subst, arith}
use Rattle.std.specs.Prelude.{IfSome, option_map, slice_get, unwrap_or}
use Rattle.jr_lex.specs.declared.items.Item.{Item}
use Rattle.jr_text.specs.declared.spans.Span.{Span}
use Rattle.jr_ast.specs.Tree.{Exp}
use Rattle.jr_ast.specs.View.{expr_of}
use Rattle.jr_grammar.specs.Tokens.{placed_of}
use Rattle.jr_pexpr.specs.declared.state.State.{State}
use Rattle.jr_pexpr.specs.Machine.{want}
use Rattle.jr_pexpr.specs.Marked.{span_whole}
use Rattle.jr_pexpr.specs.ExpView.{filled, exp_in}
use Rattle.jr_pexpr.specs.StateView.{state_view}
use Rattle.jr_pexpr.specs.Rules.{IsFrom}
use Rattle.jr_pexpr.specs.Walks.{rule_run, walk_end}
use Rattle.jr_pexpr.proofs.Few.{few}
use Rattle.jr_pexpr.proofs.Finds.{Finds, finds, finds_none, stops, stop_within, whole_found, tree_is}
use Rattle.jr_pexpr.proofs.Readings.{reads_from, none_from}
use Rattle.jr_pexpr.proofs.parsing.read_from.Goals as goal

weaker : {A : Type 0} (o : Option A) (P Q : A → Type 0) → ((x : A) → P x → Q x) → IfSome o P → IfSome o Q
weaker (Some x) P Q f h = f x h
weaker None P Q f h = tt

pub tree-requires-clause-within : goal.tree-requires-clause-within
tree-requires-clause-within c =
    (finds c.args.rule c.args.text.now c.args.items.now c.args.from c.in-Some.behind c.requires.from (sym c.in_ok-reach.ensures.end ∙ c.in-Some.is)).within

pub tree-requires-clause-whole : goal.tree-requires-clause-whole
tree-requires-clause-whole c =
    let f = finds c.args.rule c.args.text.now c.args.items.now c.args.from c.in-Some.behind c.requires.from (sym c.in_ok-reach.ensures.end ∙ c.in-Some.is) in
    weaker c.in_ok-reach.reach.whole _ _ (λ s h. whole_found c.args.rule c.args.text.now c.args.items.now c.args.from c.in-Some.behind f (state_view s) h.0 h.1) c.in_ok-reach.ensures.whole

pub overflow_cast-result : goal.overflow_cast-result
overflow_cast-result c =
    let f = finds c.args.rule c.args.text.now c.args.items.now c.args.from c.in-Some.behind c.requires.from (sym c.in_ok-reach.ensures.end ∙ c.in-Some.is) in
    let n = few c.args.text.now c.args.items.now c.items_are_placed.ensures.items c.items_are_placed.ensures.last c.requires.lexed in
    omega (arith, f.within, n, c.len-end.ensures.valid.within)

pub overflow_cast-result-in-Some-2 : goal.overflow_cast-result-in-Some-2
overflow_cast-result-in-Some-2 c =
    let w = stop_within c.args.rule c.args.text.now c.args.items.now c.args.from c.requires.from in
    let n = few c.args.text.now c.args.items.now c.items_are_placed.ensures.items c.items_are_placed.ensures.last c.requires.lexed in
    omega (arith, w, n, c.len-end.ensures.valid.within, c.in_ok-reach.ensures.stop)

pub unreachable-requires : goal.unreachable-requires
unreachable-requires c =
    let f = finds c.args.rule c.args.text.now c.args.items.now c.args.from c.in-Some.behind c.requires.from (sym c.in_ok-reach.ensures.end ∙ c.in-Some.is) in
    let e : None ≡ Some f.tree = ap filled (sym c.in-None-2.is) ∙ c.in_ok-made-in-Some.ensures ∙ tree_is c.args.rule c.args.text.now c.args.items.now c.args.from c.in-Some.behind f in
    cc

pub returns-in-Some-2-clause-read : goal.returns-in-Some-2-clause-read
returns-in-Some-2-clause-read c =
    let r = c.args.rule in
    let bytes = c.args.text.now in
    let items = c.args.items.now in
    let f = finds r bytes items c.args.from c.in-Some.behind c.requires.from (sym c.in_ok-reach.ensures.end ∙ c.in-Some.is) in
    let e : Some (exp_in c.in-Some-2.made) ≡ Some f.tree = ap filled (sym c.in-Some-2.is) ∙ c.in_ok-made-in-Some.ensures ∙ tree_is r bytes items c.args.from c.in-Some.behind f in
    let d : f.tree ≡ exp_in c.in-Some-2.made = cc in
    subst (λ (t : Exp Span). IsFrom r bytes items c.args.from t c.in-Some.behind c.in_ok-reach.reach.stop) (d ∙ ap expr_of (sym c.into_inner.ensures))
    (reads_from r bytes items c.args.from c.in-Some.behind c.in_ok-reach.reach.stop c.marks_are_spans.ensures f (c.in_ok-reach.ensures.stop ∙ stops r bytes items c.args.from c.requires.from))

pub returns-in-None-clause-fault : goal.returns-in-None-clause-fault
returns-in-None-clause-fault c =
    let r = c.args.rule in
    let bytes = c.args.text.now in
    let items = c.args.items.now in
    none_from r bytes items c.args.from c.in_ok-reach.reach.stop c.byte_at.result (finds_none r bytes items c.args.from (sym c.in_ok-reach.ensures.end ∙ c.in-None.is)) (c.in_ok-reach.ensures.stop ∙ stops r bytes items c.args.from c.requires.from)
    (c.byte_at.ensures ∙ ap (λ (k : ℕ). unwrap_or (option_map (λ (i : Item). i.span.from) (slice_get items c.in_ok-reach.reach.stop)) k) c.len-end.ensures.len)
