use Rattle.std.proofs.Common.{◌≡◌, ◌∙◌, ◌∷◌, [], map, sym, ap}
use Rattle.std.specs.Prelude.{option_map}
use Rattle.jr_build_hierarchy.specs.HierarchyView.{hierarchy_of, meaning_of}
use Rattle.jr_build_declared.specs.DeclaredView.{declaration_key_of}
use Rattle.jr_build_rows.proofs.SignatureLaws.{at_start, not_meant, one_meant, at_end, none_is}
use Rattle.jr_build_declared.proofs.DeclarationLists.{map_join}
use Rattle.jr_build_rows.proofs.signatures.meanings_of.Goals as goal

pub loop-param-init : goal.loop-param-init
loop-param-init c = at_start (hierarchy_of c.args.h.now) (declaration_key_of c.args.of.now)
    c.args.params.now (map meaning_of c.new-list.result.items) (ap (map meaning_of) c.new-list.ensures.items)

pub returns-in_default : goal.returns-in_default
returns-in_default c = not_meant (hierarchy_of c.args.h.now) (declaration_key_of c.args.of.now)
    c.args.params.now c.loop-param.param-index _ (map meaning_of c.loop-param.list.items)
    c.loop-param-test.true
    (sym c.means.ensures ∙ ap (option_map meaning_of) (none_is c.means.result c.in_default.not-Some))
    c.loop-param.invariant

pub loop-param-preserved : goal.loop-param-preserved
loop-param-preserved c = one_meant (hierarchy_of c.args.h.now) (declaration_key_of c.args.of.now)
    c.args.params.now c.loop-param.param-index _ (map meaning_of c.loop-param.list.items)
    (map meaning_of c.push.new.self.items) (meaning_of c.in-Some.meaning) c.loop-param-test.true
    (sym (ap (option_map meaning_of) c.in-Some.is) ∙ c.means.ensures)
    (ap (map meaning_of) c.in_ok-push.ensures.items ∙ map_join meaning_of c.loop-param.list.items (c.in-Some.meaning ∷ []))
    c.loop-param.invariant

pub returns : goal.returns
returns c = at_end (hierarchy_of c.args.h.now) (declaration_key_of c.args.of.now) c.args.params.now
    c.loop-param.param-index (map meaning_of c.loop-param.list.items) c.loop-param-test.false
    c.loop-param.invariant
