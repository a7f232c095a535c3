-- The type of an expression is a class that has a row, where classes that are known of locals have.
use Rattle.std.proofs.Common.{◌≡◌, ℕ, zero, suc, List, [], ◌∷◌, Option, Some, None, sym, ap, subst}
use Rattle.std.specs.Prelude.{slice_get}
use Rattle.jr_text.specs.declared.spans.Span.{Span}
use Rattle.jr_ast.specs.declared.operators.UnOp.{UnOp}
use Rattle.jr_ast.specs.declared.operators.UnOp.TheVariants as sign
use Rattle.jr_ast.specs.declared.operators.BinOp.{BinOp}
use Rattle.jr_ast.specs.declared.operators.BinOp.TheVariants as op
use Rattle.jr_ast.specs.Tree as tree
use Rattle.jr_table.specs.declared.answers.Answer.{Answer}
use Rattle.jr_table.specs.declared.answers.Answer.TheVariants as number
use Rattle.jr_table.specs.Keys.{ClassKey, Ty, int, boolean, null, class}
use Rattle.jr_table.specs.Rows.{Row}
use Rattle.jr_table.specs.Decls.{Decl, class_decl, field_decl, method_decl, constructor_decl, local_decl}
use Rattle.jr_table.specs.Entries.{IsRowOf, class_of_member}
use Rattle.jr_table.specs.Conditions.{AreRows, as_type}
use Rattle.jr_table.specs.Found.{one}
use Rattle.jr_table.specs.Scope.{Scope}
use Rattle.jr_table.specs.Lookup.{Shows}
use Rattle.jr_table.specs.Context.{Context, LocalType, known, written, outer_text, NamesClass, WritesType, IsLocalType, IsTypeOf, scope_of}
use Rattle.jr_table.specs.Binding.{sign_type, operator_type, HasType}
use Rattle.jr_bind_expr.proofs.Rowing.{string_row, class_row}
use Rattle.jr_local_walks.specs.Contexts.{Each, IsTyped}
use Rattle.jr_local_premises.proofs.Bodies.{HasRow}

class_is : (a b : ClassKey) → class a ≡ class b → a ≡ b
class_is a b e = cc

no_int : {P : Type 0} (k : ClassKey) → class k ≡ int → P
no_int k e = absurd cc

no_boolean : {P : Type 0} (k : ClassKey) → class k ≡ boolean → P
no_boolean k e = absurd cc

no_null : {P : Type 0} (k : ClassKey) → class k ≡ null → P
no_null k e = absurd cc

some_is : {X : Type 0} {x y : X} → (let a : Option X = Some x in a ≡ Some y) → x ≡ y
some_is e = cc

each_at : {X : Type 0} (F : X → Type 0) (xs : List X) (n : ℕ) (x : X) → Each F xs → slice_get xs n ≡ Some x → F x
each_at F [] n x e is = absurd cc
each_at F (y ∷ xs) zero x e is = subst F (some_is is) e.0
each_at F (y ∷ xs) (suc n) x e is = each_at F xs n x e.1 is

module _ (rows : List Row) (are : AreRows rows) where
  shown : (d : Decl) (a : Answer) → Shows rows a (one d) → (j : ℕ) × IsRowOf rows d j
  shown d (number.One j) shows = (j, shows)
  shown d number.Nothing shows = absurd shows
  shown d (number.Many i j) shows = absurd shows
  shown d (number.NotAccessible j) shows = absurd shows
  shown d (number.FromStatic j) shows = absurd shows

  named : (s : Scope) (outer : Option (List ℕ)) (name : List ℕ) (k : ClassKey) → NamesClass rows s outer name k → HasRow rows k
  named s None name k (a, finds, shows) = shown (class_decl k) a shows
  named s (Some o) name k (q, outer, (a, finds, shows)) = shown (class_decl k) a shows

  of_written : (s : Scope) (u : tree.TypeName Span) (k : ClassKey) → WritesType rows s u (class k) → HasRow rows k
  of_written s (tree.int m) k h = no_int k h
  of_written s (tree.boolean m) k h = no_boolean k h
  of_written s (tree.named m outer w) k (q, names, is) = subst (HasRow rows) (class_is q k (sym is)) (named s (outer_text outer) w.text q names)

  of_local : (s : Scope) (t : LocalType) (k : ClassKey) → ((b : ClassKey) → t ≡ known (class b) → HasRow rows b) → IsLocalType rows s t (class k) → HasRow rows k
  of_local s (known u) k typed is = typed k (ap (λ (t : Ty). known t) (sym is))
  of_local s (written outer name) k typed (q, names, is) = subst (HasRow rows) (class_is q k (sym is)) (named s outer name q names)

  module _ (c : Context) (typed : Each (IsTyped rows) c.locals) where
    of_decl : (d : Decl) (k : ClassKey) → IsTypeOf rows c d (class k) → HasRow rows k
    of_decl (local_decl q) k (l, knows, is) = of_local (scope_of c) l.type k (each_at (IsTyped rows) c.locals knows.number l typed knows.stands) is
    of_decl (class_decl q) k (j, i, is) = are.named j i.row k i.stands (as_type is)
    of_decl (field_decl q) k (j, i, is) = are.named j i.row k i.stands (as_type is)
    of_decl (method_decl q) k (j, i, is) = are.named j i.row k i.stands (as_type is)
    of_decl (constructor_decl q) k (j, i, is) = are.named j i.row k i.stands (as_type is)

    of_sign : (o : UnOp) (k : ClassKey) → class k ≡ sign_type o → HasRow rows k
    of_sign sign.Plus k e = no_int k e
    of_sign sign.Minus k e = no_int k e
    of_sign sign.Not k e = no_boolean k e

    of_operator : (o : BinOp) (k : ClassKey) → class k ≡ operator_type o → HasRow rows k
    of_operator op.Add k e = no_int k e
    of_operator op.Sub k e = no_int k e
    of_operator op.Mul k e = no_int k e
    of_operator op.Div k e = no_int k e
    of_operator op.Rem k e = no_int k e
    of_operator op.Or k e = no_boolean k e
    of_operator op.And k e = no_boolean k e
    of_operator op.Eq k e = no_boolean k e
    of_operator op.Ne k e = no_boolean k e
    of_operator op.Lt k e = no_boolean k e
    of_operator op.Gt k e = no_boolean k e
    of_operator op.Le k e = no_boolean k e
    of_operator op.Ge k e = no_boolean k e

    module _ (own : HasRow rows (class_of_member c.member)) where
      of_type : (e : tree.Exp Span) (k : ClassKey) → HasType rows c e (class k) → HasRow rows k
      unfolding HasType
      of_type (tree.number m n) k h = no_int k h
      of_type (tree.truth m b) k h = no_boolean k h
      of_type (tree.null m) k h = no_null k h
      of_type (tree.string m text) k h = subst (HasRow rows) (sym (class_is k _ h)) (2, string_row rows are)
      of_type (tree.this m) k h = subst (HasRow rows) (sym (class_is k _ h)) own
      of_type (tree.class_literal m of) k h = subst (HasRow rows) (sym (class_is k _ h)) (3, class_row rows are)
      of_type (tree.name m w) k h = of_decl h.0 k h.2
      of_type (tree.field m e w) k h = of_decl h.0 k h.2
      of_type (tree.super_field m w) k h = of_decl h.0 k h.2
      of_type (tree.call m to w args) k h = of_decl h.0 k h.2
      of_type (tree.super_call m w args) k h = of_decl h.0 k h.2
      of_type (tree.create m of args) k (q, d, writes, finds, is) = subst (HasRow rows) (sym (class_is k q is)) (of_written (scope_of c) of q writes)
      of_type (tree.paren m e) k h = of_type e k h
      of_type (tree.cast m of e) k h = of_written (scope_of c) of k h
      of_type (tree.unary m o e) k h = of_sign o k h
      of_type (tree.bump m o e) k h = no_int k h
      of_type (tree.binary m o l r) k h = of_operator o k h
      of_type (tree.assign m l r) k h = of_type l k h
      of_type (tree.compound m o l r) k h = no_int k h

    pub type_rows : HasRow rows (class_of_member c.member) → (e : tree.Exp Span) (t : Ty) → HasType rows c e t → (k : ClassKey) → t ≡ class k → HasRow rows k
    type_rows own e t h k is = of_type own e k (subst (HasType rows c e) is h)
