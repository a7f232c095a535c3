use Rattle.std.proofs.Common.{Some, option_map, ap, sym, ◌∙◌}
use Rattle.jr_ast.specs.View.{type_of}
use Rattle.jr_ast.specs.Remarked as maps
use Rattle.jr_paths_copies.proofs.marks.maybe_ty.Goals as goal

pub returns-in-None : goal.returns-in-None
returns-in-None g c = λ h k agree. sym (ap (λ o. option_map (maps.map_type k) (option_map type_of o)) c.in-None.is)

pub returns-in_ok-copy-in-Some : goal.returns-in_ok-copy-in-Some
returns-in_ok-copy-in-Some g c = λ h k agree.
    ap Some (c.in_ok-copy-in-Some.ensures h k agree) ∙ sym (ap (λ o. option_map (maps.map_type k) (option_map type_of o)) c.in-Some.is)
