-- What an expression is to a name's use: a simple name, a name behind a dot or behind `super`, or
-- something else.
use Rattle.jr_ast.specs.Tree as tree
use Rattle.jr_ast.specs.View.{word_of, expr_of}
use Rattle.jr_expr_sites.specs.declared.aims.Aim as raw
use Rattle.jr_expr_sites.specs.declared.aims.Aim.TheVariants as shown

pub data Aim (A : Type 0) : Type 0 where
  named : (w : tree.Word A) → Aim A
  dotted : (e : tree.Exp A) (w : tree.Word A) → Aim A
  on_super : (w : tree.Word A) → Aim A
  other : Aim A

abbrev pub aim_of : {A : Type 0} → tree.Exp A → Aim A
aim_of (tree.name m w) = named w
aim_of (tree.field m e w) = dotted e w
aim_of (tree.super_field m w) = on_super w
aim_of (tree.number m n) = other
aim_of (tree.truth m b) = other
aim_of (tree.null m) = other
aim_of (tree.string m s) = other
aim_of (tree.this m) = other
aim_of (tree.class_literal m t) = other
aim_of (tree.call m t w es) = other
aim_of (tree.super_call m w es) = other
aim_of (tree.create m t es) = other
aim_of (tree.paren m e) = other
aim_of (tree.cast m t e) = other
aim_of (tree.unary m op e) = other
aim_of (tree.bump m op t) = other
aim_of (tree.binary m op l r) = other
aim_of (tree.assign m t e) = other
aim_of (tree.compound m op t e) = other

abbrev pub aim_view : {A : Type 0} → raw.Aim A → Aim A
aim_view (shown.Name w) = named (word_of w.now)
aim_view (shown.Dotted e w) = dotted (expr_of e.now) (word_of w.now)
aim_view (shown.OnSuper w) = on_super (word_of w.now)
aim_view shown.Other = other
