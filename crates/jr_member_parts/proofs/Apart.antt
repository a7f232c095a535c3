-- Where a local stands for `this` nothing that is named by way of it is rewritten node by node.
use Rattle.std.proofs.Common.{ℕ, zero, suc, List}
use Rattle.jr_text.specs.declared.spans.Span.{Span}
use Rattle.jr_ast.specs.Tree as tree
use Rattle.jr_table.specs.Keys.{ClassKey}
use Rattle.jr_table.specs.Context.{Context}
use Rattle.jr_bind.specs.Programs.{Program}
use Rattle.jr_rewrite.specs.Rewritten.{Rewritten}
use Rattle.jr_rewrite.specs.Spots.{Spotted, SpotsAreApart}
use Rattle.jr_images.specs.Regions.{Region}
use Rattle.jr_member_parts.specs.Receivers.{IsByThis, ByReceiver, receivers_in}

module _ (p : Program Span) (R : Region Span) (name : List ℕ) (of : ClassKey) where
  by_this : (inside : Spotted Span) (c : Context) (base : ℕ) (e : tree.Exp Span) (o : Rewritten (tree.Exp Span)) → ByReceiver p R name of inside c base e o → IsByThis p R name of c e
  by_this inside c base (tree.this m) o h = tt
  by_this inside c base (tree.name m w) o h = (h.0, h.1, h.2)
  by_this inside c base (tree.call m tree.no_target w args) o h = (h.0, h.2, h.3)
  by_this inside c base (tree.super_field m w) o h = tt
  by_this inside c base (tree.super_call m w args) o h = tt
  by_this inside c base (tree.call m (tree.on e) w args) o h = absurd h
  by_this inside c base (tree.number m n) o h = absurd h
  by_this inside c base (tree.truth m b) o h = absurd h
  by_this inside c base (tree.null m) o h = absurd h
  by_this inside c base (tree.string m s) o h = absurd h
  by_this inside c base (tree.field m e w) o h = absurd h
  by_this inside c base (tree.class_literal m t) o h = absurd h
  by_this inside c base (tree.create m t args) o h = absurd h
  by_this inside c base (tree.paren m e) o h = absurd h
  by_this inside c base (tree.cast m t e) o h = absurd h
  by_this inside c base (tree.unary m op e) o h = absurd h
  by_this inside c base (tree.bump m op e) o h = absurd h
  by_this inside c base (tree.binary m op x y) o h = absurd h
  by_this inside c base (tree.assign m x y) o h = absurd h
  by_this inside c base (tree.compound m op x y) o h = absurd h

pub receivers_are_apart : (p : Program Span) (R : Region Span) (name : List ℕ) (of : ClassKey) (n : ℕ) → SpotsAreApart (receivers_in p R name of n)
receivers_are_apart p R name of zero = record {
  part = λ k c r base e o spot stays. spot;
  list = λ n c base xs o spot stays. spot;
  members = λ base of ys o spot stays. spot;
  whole = λ base outer d o spot stays. spot;
}
receivers_are_apart p R name of (suc n) = record {
  part = λ k c r base e o spot stays. stays (by_this p R name of (receivers_in p R name of n) c base e o spot);
  list = λ n c base xs o spot stays. spot;
  members = λ base of ys o spot stays. spot;
  whole = λ base outer d o spot stays. spot;
}
