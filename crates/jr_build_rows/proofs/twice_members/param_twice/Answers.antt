use Rattle.std.proofs.Common.{map, ap, sym, subst, ◌∙◌, refl, length}
use Rattle.std.proofs.lemmas.List.{length-map}
use Rattle.jr_index.specs.Names.{named}
use Rattle.jr_build_declared.specs.DeclarationFaults.{IsLeastAt}
use Rattle.jr_build_declared.specs.DeclaredView.{param_declaration_of}
use Rattle.jr_build_rows.proofs.TwiceParamLaws as params
use Rattle.jr_build_rows.proofs.twice_members.param_twice.Goals as goal

pub loop-param-init : goal.loop-param-init
loop-param-init c = record {
  least = params.none_twice (map param_declaration_of c.args.params.now);
  known = params.none_known (map param_declaration_of c.args.params.now) (λ q. named c.new-names.result q) c.new-names.ensures;
}

pub loop-param-preserved : goal.loop-param-preserved
loop-param-preserved c = record {
  least = params.least_more c.args.params.now c.loop-param.param-index _ c.loop-param-test.true
      c.loop-param.names c.put.new.self c.loop-param.least c.in_ok-before.before c.place_if.result
      c.lesser_of-least.result c.in_ok-before.ensures.before c.place_if.ensures c.lesser_of-least.ensures
      c.loop-param.invariant.known c.loop-param.invariant.least;
  known = params.known_more c.args.params.now c.loop-param.param-index _ c.loop-param-test.true
      c.loop-param.names c.put.new.self c.in_ok-before.ensures.put c.loop-param.invariant.known;
}

pub returns : goal.returns
returns c = params.at_end (map param_declaration_of c.args.params.now) c.loop-param.param-index
    (simp length-map c.loop-param-test.false) c.loop-param.least c.loop-param.invariant.least
