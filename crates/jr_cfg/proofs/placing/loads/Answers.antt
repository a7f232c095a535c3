use Rattle.std.proofs.Common.{Some, ap, ◌∙◌}
use Rattle.std.proofs.lemmas.Result.{IfOk-weaker}
use Rattle.jr_sync.specs.declared.sites.Site.TheVariants as shown
use Rattle.jr_table.specs.KeyView.{field_key_of}
use Rattle.jr_expr_sites.specs.Meanings.{field_kind}
use Rattle.jr_cfg.proofs.AccessKinds.{loads_by}
use Rattle.jr_cfg.proofs.placing.loads.Goals as goal

pub returns : goal.returns
returns c = IfOk-weaker c.access.result _ _ (λ s h. h ∙ ap (λ k. shown.Access k (Some (field_key_of c.args.key.now))) (c.access_kind.ensures ∙ loads_by (field_kind c.args.table.now (field_key_of c.args.key.now)))) c.access.ensures
