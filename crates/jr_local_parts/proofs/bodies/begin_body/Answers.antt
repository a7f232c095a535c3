use Rattle.std.proofs.Common.{◌≡◌, List, refl, ap, ◌∙◌, map}
use Rattle.std.proofs.lemmas.Result.{IfOk-at_ok}
use Rattle.jr_ast.specs.View.{param_of}
use Rattle.jr_table.specs.Keys.{Ty}
use Rattle.jr_table.specs.Decls.{MemberKey}
use Rattle.jr_table.specs.KeyView.{member_key_of}
use Rattle.jr_table.specs.HeadRules.{with_parameters}
use Rattle.jr_new_words.specs.Scopes.{IsKept, AreBeside}
use Rattle.jr_new_files.specs.Walking.{held_params}
use Rattle.jr_new_files.proofs.Placing.{context_with, no_locals}
use Rattle.jr_local_parts.proofs.bodies.begin_body.Goals as goal

pub push_params-pushed-requires : goal.push_params-pushed-requires
push_params-pushed-requires c =
    record { kept = c.in_ok-scopes.ensures.kept; none = no_locals c.in_ok-scopes.scopes (member_key_of c.member-key.result.now) c.args.of.now.is_static c.in_ok-scopes.ensures.context }

pub returns-in-Ok : goal.returns-in-Ok
returns-in-Ok c =
    let first = c.in_ok-scopes.ensures in
    let old = c.in_ok-scopes.scopes in
    let new = c.push_params-pushed.new.scopes in
    let put = c.push_params-pushed.ensures in
    let kept : IsKept new = IfOk-at_ok _ c.in-Ok.is put.kept in
    let beside : AreBeside old new = IfOk-at_ok _ c.in-Ok.is put.beside in
    let own : new.own ≡ old.own = IfOk-at_ok _ c.in-Ok.is put.own in
    let ps = map param_of c.args.of.now.code.params.now in
    let k = member_key_of c.member-key.result.now in
    let static = c.args.of.now.is_static in
    record {
      known = kept;
      context = context_with old new k static ps first.context beside own (IfOk-at_ok _ c.in-Ok.is put.locals ∙ ap (λ (ts : List Ty). held_params 0 ps ts) c.param_types.ensures) ∙ ap (λ (m : MemberKey). with_parameters m static ps) c.member-key.ensures;
      rows = beside.rows ∙ first.rows;
      mapping = beside.mapping ∙ first.mapping;
      bound = refl;
      from_is = refl;
      spots = refl;
    }
