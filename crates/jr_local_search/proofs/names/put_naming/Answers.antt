use Rattle.std.proofs.Common.{◌≡◌, ◌∙◌, ◌++◌, ◌∷◌, [], ap, sym, map, option_map}
use Rattle.std.proofs.lemmas.List.{map_push}
use Rattle.jr_local_search.specs.Namings.{Naming}
use Rattle.jr_local_search.specs.NamingView.{listed, naming_of}
use Rattle.jr_local_search.proofs.NameRows.{plain}
use Rattle.jr_local_search.proofs.names.put_naming.Goals as goal

pub returns-in-None : goal.returns-in-None
returns-in-None c = sym (ap (λ o. map naming_of c.args.namings.now.items ++ listed (option_map naming_of o)) c.in-None.is ∙ plain (map naming_of c.args.namings.now.items))

pub returns-in_ok-push-in-Some : goal.returns-in_ok-push-in-Some
returns-in_ok-push-in-Some c =
    let xs = c.args.namings.now.items in
    ap (map naming_of) c.in_ok-push-in-Some.ensures.items ∙ map_push naming_of xs c.in-Some.naming ∙ ap (λ o. map naming_of xs ++ listed (option_map naming_of o)) (sym c.in-Some.is)
