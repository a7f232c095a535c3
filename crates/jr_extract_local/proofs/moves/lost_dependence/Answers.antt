use Rattle.std.proofs.Common.{◌≡◌, ◌∙◌, sym}
use Rattle.std.specs.Prelude.{option_map}
use Rattle.std.proofs.lemmas.Result.{IfOk-weaker}
use Rattle.jr_ast.specs.View.{member_of}
use Rattle.jr_names.specs.SiteView.{pair_of}
use Rattle.jr_extract_local.specs.Moves.{IsLost}
use Rattle.jr_extract_local.proofs.SpansFit.{sites_fit}
use Rattle.jr_extract_local.proofs.Leading.{leads_to_value}
use Rattle.jr_extract_local.proofs.Losing.{flags_tell, exp_answers, lost}
use Rattle.jr_extract_local.proofs.moves.lost_dependence.Goals as goal

pub own_flags-requires : goal.own_flags-requires
own_flags-requires c = record { fits = sites_fit 0 (member_of c.args.of.now.member.now) }

pub sites_in_front-requires : goal.sites_in_front-requires
sites_in_front-requires c = c.requires

pub footprint-requires : goal.footprint-requires
footprint-requires c = record {
  fits = sites_fit 0 (member_of c.args.of.now.member.now);
  at = leads_to_value c.args.of.now c.args.at.now c.requires;
}

pub returns : goal.returns
returns c = λ p x same h.
    let t = c.args.of.now in
    let rows = c.args.table.now in
    let flags = c.as_slice-never_null.result.now in
    let tell = flags_tell p t x c.members_are_written.ensures c.own_flags_tell.ensures rows same flags (c.as_slice-never_null.ensures.value ∙ c.in_ok-flags.ensures.exact) in
    let front = c.in_ok-before.ensures p x same h in
    IfOk-weaker c.lost_pair.result _
    (λ q. IsLost x (option_map pair_of q)) (λ q pair. lost p t x c.args.at.now h c.members_are_written.ensures c.extracts_lose.ensures flags tell c.in_ok-before.before.items c.in_ok-moved.moved.items front
    (λ o. exp_answers p t x rows flags same o t.path.now.steps.items c.in_ok-moved.moved.items (λ e there. c.in_ok-moved.ensures o e there)) (option_map pair_of q) pair) c.lost_pair.ensures
