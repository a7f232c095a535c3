use Rattle.std.proofs.Common.{◌≡◌, List, refl, ap, ◌∙◌, map}
use Rattle.std.proofs.lemmas.Result.{IfOk-at_ok}
use Rattle.jr_ast.specs.View.{param_of}
use Rattle.jr_new_words.specs.Scopes.{IsKept, AreBeside}
use Rattle.jr_table.specs.Keys.{Ty}
use Rattle.jr_new_files.specs.Walking.{key_of, held_params}
use Rattle.jr_new_files.proofs.Placing.{context_with, no_locals}
use Rattle.jr_new_files.proofs.beginnings.here_with.Goals as goal

pub push_params-pushed-requires : goal.push_params-pushed-requires
push_params-pushed-requires c =
    record { kept = c.in_ok-scopes.ensures.kept; none = no_locals c.in_ok-scopes.scopes (key_of c.args.of.now) c.args.is_static c.in_ok-scopes.ensures.context }

pub returns-in-Ok : goal.returns-in-Ok
returns-in-Ok c =
    let first = c.in_ok-scopes.ensures in
    let old = c.in_ok-scopes.scopes in
    let new = c.push_params-pushed.new.scopes in
    let put = c.push_params-pushed.ensures in
    let kept : IsKept new = IfOk-at_ok _ c.in-Ok.is put.kept in
    let beside : AreBeside old new = IfOk-at_ok _ c.in-Ok.is put.beside in
    let own : new.own ≡ old.own = IfOk-at_ok _ c.in-Ok.is put.own in
    let ps = map param_of c.args.params.now in
    record {
      known = kept;
      context = context_with old new (key_of c.args.of.now) c.args.is_static ps first.context beside own (IfOk-at_ok _ c.in-Ok.is put.locals ∙ ap (λ (ts : List Ty). held_params 0 ps ts) c.param_types.ensures);
      rows = beside.rows ∙ first.rows;
      mapping = beside.mapping ∙ first.mapping;
      bound = refl;
      from_is = refl;
      spots = refl;
    }
