use Rattle.std.proofs.Common.{◌≡◌, length, sym, ap, subst, ◌∙◌}
use Rattle.std.specs.Prelude.{option_map}
use Rattle.std.proofs.lemmas.List.{length-map}
use Rattle.jr_ast.specs.View.{param_of}
use Rattle.jr_bodies.specs.CodeView.{code_of as seen}
use Rattle.jr_local_search.specs.Declarations.{declarations_in, numbered, first_wanted}
use Rattle.jr_local_search.specs.Walking.{declaration_of as declaration}
use Rattle.jr_local_asked.specs.Declaring.{IsOfCode}
use Rattle.jr_local_asked.proofs.Declares.{in_code_is}
use Rattle.jr_local_asked.proofs.declarations.in_code.Goals as goal

pub returns : goal.returns
returns c =
    let code = seen c.args.code in
    let params = c.args.code.params.now in
    let first : c.in_ok-first.first ≡ length code.params = c.in_ok-first.ensures ∙ sym (length-map params param_of) in
    let found = c.in_ok-found.ensures ∙ ap (λ n. first_wanted (numbered c.args.local) (declarations_in n code.list)) first in
    subst (IsOfCode c.args.member c.args.local code) (sym c.listed.ensures)
    (in_code_is c.declarations_have_ways.ensures c.ways_are_declared.ensures c.args.member c.args.local code (option_map declaration c.in_ok-found.found) found)
