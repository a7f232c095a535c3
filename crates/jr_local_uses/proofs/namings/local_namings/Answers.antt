use Rattle.std.proofs.Common.{ℕ, List, map, ap, subst}
use Rattle.std.proofs.lemmas.Result.{IfOk-weaker}
use Rattle.jr_table.specs.Decls.{local_decl}
use Rattle.jr_table.specs.KeyView.{local_key_of}
use Rattle.jr_bind.specs.Bounds.{Bound, Reference}
use Rattle.jr_local_search.specs.NamingView.{naming_of}
use Rattle.jr_local_asked.specs.DeclaredView.{declared_of}
use Rattle.jr_local_uses.specs.LocalPlaces.{ArePlaces}
use Rattle.jr_local_uses.specs.HeadView.{head_of}
use Rattle.jr_local_uses.proofs.Declaring.{bound_there, bound_is, is_member, start_is, head_is, is_headed}
use Rattle.jr_local_uses.proofs.Behind.{names_are}
use Rattle.jr_local_uses.proofs.namings.local_namings.Goals as goal

pub returns-in-None : goal.returns-in-None
returns-in-None g c = λ file h.
    let p = g.V.View.program c.args.view.now in
    absurd (is_headed p file (local_key_of c.args.asked.now.key) (declared_of c.args.asked.now.declared) h c.declaration_head.result c.declaration_head.ensures c.in-None.is)

pub written_at-written-requires : goal.written_at-written-requires
written_at-written-requires g c =
    let p = g.V.View.program c.args.view.now in
    let t = c.requires.there in
    is_member p t.0 (local_key_of c.args.asked.now.key) (declared_of c.args.asked.now.declared) t.1 c.args.members.now c.requires.members

pub bound-bound-requires : goal.bound-bound-requires
bound-bound-requires g c =
    let p = g.V.View.program c.args.view.now in
    let t = c.requires.there in
    bound_there p t.0 (local_key_of c.args.asked.now.key) (declared_of c.args.asked.now.declared) t.1

pub returns-in_ok-places-in-Some : goal.returns-in_ok-places-in-Some
returns-in_ok-places-in-Some g c = λ file h.
    let p = g.V.View.program c.args.view.now in
    let k = local_key_of c.args.asked.now.key in
    let x = declared_of c.args.asked.now.declared in
    let start = start_is p file k x h c.args.members.now c.requires.members c.written_at-written.result.now c.written_at-written.ensures c.first_byte-start.result c.first_byte-start.ensures in
    let bound = bound_is p file k x h c.bound-bound.result.now c.bound-bound.ensures in
    let places : ArePlaces h.base (local_decl k) h.bound.references c.in_ok-places-in-Some.places.items =
    subst (λ (rs : List Reference). ArePlaces h.base (local_decl k) rs c.in_ok-places-in-Some.places.items) (ap (λ (b : Bound). b.references) bound)
    (subst (λ (n : ℕ). ArePlaces n (local_decl k) c.bound-bound.result.now.references c.in_ok-places-in-Some.places.items) start c.in_ok-places-in-Some.ensures) in
    let head = head_is p file k x h c.declaration_head.result c.in-Some.head c.declaration_head.ensures c.in-Some.is in
    IfOk-weaker c.gathered.result _ _ (λ v are.
    names_are c.names_are_bound.ensures c.ways_go_on.ensures c.bodies_begin_below.ensures c.locals_have_their_names.ensures c.bodies_are_spelled.ensures c.references_have_places.ensures c.one_way_has_a_span.ensures
    p c.keeps_program.ensures file k x h c.in_ok-places-in-Some.places.items places (head_of c.in-Some.head) head (map naming_of v.items) are) c.gathered.ensures
