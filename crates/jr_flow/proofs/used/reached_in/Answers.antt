use Rattle.std.proofs.Common.{◌≡◌, List, [], ℕ, length, sym, subst, ◌∙◌, arith}
use Rattle.std.proofs.lemmas.List.{with_items_is}
use Rattle.jr_flow.specs.Rows.{width_of}
use Rattle.jr_flow.specs.Holding.{HoldsNumbers, HoldsEdges}
use Rattle.jr_flow.specs.Searched.{IsSearched}
use Rattle.jr_flow.proofs.Finding.{finds}
use Rattle.jr_flow.proofs.used.reached_in.Goals as goal

pub returns : goal.returns
returns c edges of node =
    let width = c.width_of-width.result in
    let wide = c.width_of-width.ensures.width in
    let shut = c.in_ok-shut.shut.items in
    let new = c.search.new.rows in
    let size : length new ≡ c.in_ok-words.words.len = omega arith in
    let copied : c.deref_mut.result.now ≡ c.args.rows.now.words.items = c.deref_mut.ensures.value ∙ c.in_ok-words.ensures.items_if_clones_equal (λ x y h. h) ∙ c.deref.ensures.value in
    let held : HoldsEdges width of.none edges c.deref_mut.result.now =
    subst (λ (ws : List ℕ). HoldsEdges width of.none edges ws) (sym copied) (subst (λ (w : ℕ). HoldsEdges w of.none edges c.args.rows.now.words.items) (sym wide) of.holds) in
    let found : IsSearched width edges c.args.from of.none shut new =
    subst (λ (ws : List ℕ). IsSearched width edges c.args.from of.none ws new) c.deref-2.ensures.value (c.search.ensures edges of.none held) in
    finds edges c.args.rows.now.size width of.below wide c.args.stops.now c.args.from of.none shut _
    (subst (λ (w : ℕ). HoldsNumbers w [] of.none) (sym wide) of.empty) c.in_ok-shut.ensures.holds
    (subst (λ (ws : List ℕ). IsSearched width edges c.args.from of.none shut ws) (sym (with_items_is c.in_ok-words.words new size)) found)
    node
