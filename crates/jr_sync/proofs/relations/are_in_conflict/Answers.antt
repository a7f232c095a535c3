use Rattle.std.specs.Prelude.{IsTrue}
use Rattle.jr_sync.specs.Sites.{field_of, is_store}
use Rattle.jr_sync.specs.Relations.{Agree}
use Rattle.jr_sync.proofs.Agreeing.{agree_along, both}
use Rattle.jr_sync.proofs.relations.are_in_conflict.Goals as goal

pub returns : goal.returns
returns g c =
    both c.agree-of_one_field.result c.is_store.result c.is_store-2.result (is_store c.args.a.now) (is_store c.args.b.now)
    (Agree (λ x y. IsTrue (g.K.PartialEq.eq x y)) (field_of c.args.a.now) (field_of c.args.b.now)) c.is_store.ensures c.is_store-2.ensures
    (agree_along (λ x y. IsTrue (g.K.PartialEq.eq x y)) c.agree-of_one_field.result _ _ (field_of c.args.a.now) (field_of c.args.b.now) c.field_of.ensures c.field_of-2.ensures c.agree-of_one_field.ensures)
