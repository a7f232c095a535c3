-- The pure respellings that Rust values stand for.
use Rattle.jr_rewrite.specs.declared.respellings.Front as raw
use Rattle.jr_rewrite.specs.declared.respellings.Front.TheVariants as variant
use Rattle.jr_rewrite.specs.declared.respellings.Respelling as raw_respelling
use Rattle.jr_rewrite.specs.Respellings.{
  Front,
  same,
  alone,
  by_this,
  by_super,
  by_cast_this,
  by_class,
  by_outer_class,
  by_cast,
  Respelling,
}

abbrev pub front_view : raw.Front → Front
front_view variant.Same = same
front_view variant.Alone = alone
front_view variant.ByThis = by_this
front_view variant.BySuper = by_super
front_view (variant.ByCastThis k) = by_cast_this k.now
front_view (variant.ByClass k) = by_class k.now
front_view (variant.ByOuterClass o k) = by_outer_class o.now k.now
front_view (variant.ByCast k) = by_cast k.now

abbrev pub respelling_view : raw_respelling.Respelling → Respelling
respelling_view r = record { text = r.text.now; front = front_view r.front }
