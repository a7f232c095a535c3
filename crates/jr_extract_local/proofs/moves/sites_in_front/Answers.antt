use Rattle.std.proofs.Common.{◌≡◌, ℕ, ◌∙◌, refl}
use Rattle.jr_ast.specs.View.{member_of}
use Rattle.jr_extract_local.proofs.SpansFit.{sites_fit}
use Rattle.jr_extract_local.proofs.Leading.{is_shallow, around_in, outer_in, leads_in, leads_to_parts, around_is, outer_is, inner_is}
use Rattle.jr_extract_local.proofs.Losing.{stmts_answer, front_answers, in_front}
use Rattle.jr_extract_local.proofs.moves.sites_in_front.Goals as goal

pub path_to-requires : goal.path_to-requires
path_to-requires c = around_in c.args.of.now c.args.at.now c.requires

pub path_to-requires-2 : goal.path_to-requires-2
path_to-requires-2 c = outer_in c.args.of.now c.args.at.now c.requires

pub path_behind-requires : goal.path_behind-requires
path_behind-requires c = outer_in c.args.of.now c.args.at.now c.requires

pub sites_before-requires : goal.sites_before-requires
sites_before-requires c = record {
  fits = sites_fit 0 (member_of c.args.of.now.member.now);
  at = leads_in c.args.of.now c.args.at.now c.requires c.in_ok-outer.outer.steps.items c.in_ok-inner.inner.steps.items c.in_ok-outer.ensures c.in_ok-inner.ensures;
}

pub footprint_of-requires : goal.footprint_of-requires
footprint_of-requires c = record {
  fits = sites_fit 0 (member_of c.args.of.now.member.now);
  at = leads_to_parts c.args.of.now c.args.at.now c.requires c.in_ok-around.around.steps.items c.in_ok-behind.behind c.in_ok-around.ensures c.in_ok-behind.ensures;
}

pub returns : goal.returns
returns c = λ p x same h.
    let t = c.args.of.now in
    let at = c.args.at.now in
    let flags = c.args.never_null.now in
    let rows = c.args.table.now in
    in_front p t x at h flags c.in_ok-around.around.steps.items c.in_ok-outer.outer.steps.items c.in_ok-inner.inner.steps.items at.element.step c.in_ok-behind.behind (c.in_ok-around.ensures ∙ around_is p t x at h) (c.in_ok-outer.ensures ∙ outer_is p t x at h) (c.in_ok-inner.ensures ∙ inner_is p t x at h)
    refl c.in_ok-behind.ensures c.in_ok-sites.sites.items c.truncate.new.self.items c.in_ok-count.count c.truncate.ensures.items
    (λ o numbers. stmts_answer p t x rows flags same o c.in_ok-around.around.steps.items at.element.step c.in_ok-behind.behind c.in_ok-sites.sites.items (λ n there ss are. c.in_ok-sites.ensures o numbers n there ss are))
    (λ o numbers. front_answers p t x rows flags same o c.in_ok-outer.outer.steps.items c.in_ok-inner.inner.steps.items c.in_ok-count.count (λ s there e way is. c.in_ok-count.ensures.of_expression o numbers s there e way is))
