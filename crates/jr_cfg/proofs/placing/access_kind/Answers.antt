use Rattle.std.proofs.Common.{Some, None, ap, sym, refl, ◌∙◌}
use Rattle.std.specs.Prelude.{option_map}
use Rattle.jr_sync.specs.declared.kinds.Kind.TheVariants.{Still}
use Rattle.jr_table.specs.KeyView.{field_key_of}
use Rattle.jr_cfg.proofs.AccessKinds.{told, by_final, by_volatile, by_plain}
use Rattle.jr_cfg.proofs.placing.access_kind.Goals as goal

pub returns-in-None : goal.returns-in-None
returns-in-None c =
    let rows = c.args.table.now in
    let k = field_key_of c.args.key.now in
    let is = sym (ap (option_map (λ m. m.now)) c.in-None.is) ∙ c.modifiers.ensures in
    told rows k None is c.args.plain c.args.volatile c.args.plain refl

pub returns-then-is_final : goal.returns-then-is_final
returns-then-is_final c =
    let rows = c.args.table.now in
    let k = field_key_of c.args.key.now in
    let ws = c.in-Some.words.now in
    let is = sym (ap (option_map (λ m. m.now)) c.in-Some.is) ∙ c.modifiers.ensures in
    told rows k (Some ws) is c.args.plain c.args.volatile Still (by_final c.args.plain c.args.volatile ws (sym c.is_final.ensures ∙ c.if-is_final.true))

pub returns-then-is_volatile : goal.returns-then-is_volatile
returns-then-is_volatile c =
    let rows = c.args.table.now in
    let k = field_key_of c.args.key.now in
    let ws = c.in-Some.words.now in
    let is = sym (ap (option_map (λ m. m.now)) c.in-Some.is) ∙ c.modifiers.ensures in
    told rows k (Some ws) is c.args.plain c.args.volatile c.args.volatile (by_volatile c.args.plain c.args.volatile ws (sym c.is_final.ensures ∙ c.if-is_final.false) (sym c.is_volatile.ensures ∙ c.if-is_volatile.true))

pub returns-else-is_volatile : goal.returns-else-is_volatile
returns-else-is_volatile c =
    let rows = c.args.table.now in
    let k = field_key_of c.args.key.now in
    let ws = c.in-Some.words.now in
    let is = sym (ap (option_map (λ m. m.now)) c.in-Some.is) ∙ c.modifiers.ensures in
    told rows k (Some ws) is c.args.plain c.args.volatile c.args.plain (by_plain c.args.plain c.args.volatile ws (sym c.is_final.ensures ∙ c.if-is_final.false) (sym c.is_volatile.ensures ∙ c.if-is_volatile.false))
