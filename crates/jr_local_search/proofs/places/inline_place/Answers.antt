use Rattle.std.proofs.Common.{◌≡◌, Bool, List, map, sym, subst}
use Rattle.std.specs.Prelude.{slice_get, MatchOption}
use Rattle.jr_ast.specs.View.{stmts_of}
use Rattle.jr_grammar.specs.Layout.{itself}
use Rattle.jr_pieces.specs.Returns.{returns_in_list}
use Rattle.jr_local_search.specs.Namings.{Naming, IsOnlyRead}
use Rattle.jr_local_search.specs.NamingView.{naming_of}
use Rattle.jr_local_search.specs.Places.{IsInlinePlace}
use Rattle.jr_local_search.specs.PlaceView.{inline_of}
use Rattle.jr_local_search.proofs.PlaceCases.{moves}
use Rattle.jr_local_search.proofs.places.inline_place.Goals as goal

pub returns-then-is_plain : goal.returns-then-is_plain
returns-then-is_plain c = λ base.
    let first = slice_get (returns_in_list itself base (stmts_of c.args.list.now)) 0 in
    c.behind_moves.ensures c.args.is_plain first (moves c.args.is_plain first (map naming_of c.args.namings.now) c.if-is_plain.true)

pub returns-in-None : goal.returns-in-None
returns-in-None c = λ base.
    let xs = map naming_of c.args.namings.now in
    (c.if-is_plain.false, subst (λ o. MatchOption o ((x : Naming) → IsOnlyRead xs x → ⊥) (λ x. IsOnlyRead xs (naming_of x.now))) c.in-None.is c.only_read.ensures)

pub returns-in-Some : goal.returns-in-Some
returns-in-Some c = λ base.
    let first = slice_get (returns_in_list itself base (stmts_of c.args.list.now)) 0 in
    let xs = map naming_of c.args.namings.now in
    let only = subst (λ o. MatchOption o ((x : Naming) → IsOnlyRead xs x → ⊥) (λ x. IsOnlyRead xs (naming_of x.now))) c.in-Some.is c.only_read.ensures in
    subst (λ (q : Bool). IsInlinePlace q first xs (inline_of c.at_read.result)) (sym c.if-is_plain.false) (c.at_read.ensures base only)
