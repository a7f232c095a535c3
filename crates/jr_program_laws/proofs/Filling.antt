-- Each node has a token.
use Rattle.std.proofs.Common.{Some, None, sym, subst}
use Rattle.std.specs.Prelude.{Option}
use Rattle.jr_text.specs.declared.spans.Span.{Span}
use Rattle.jr_ast.specs.declared.operators.BumpOp.TheVariants.{PreInc, PreDec, PostInc, PostDec}
use Rattle.jr_ast.specs.Tree as tree
use Rattle.jr_ast.specs.StatementTree as statement
use Rattle.jr_ast.specs.MemberTree as syntax
use Rattle.jr_grammar.specs.Tokens.{Token}
use Rattle.jr_grammar.specs.Stands.{Tokens, IsAlone, InOrder, IsNode, Stands}
use Rattle.jr_grammar.specs.ExpressionLayout.{word_layout, type_layout, exp_layout}
use Rattle.jr_grammar.specs.StatementLayout.{stmt_layout}
use Rattle.jr_grammar.specs.MemberLayout.{result_layout, class_layout, member_layout}
use Rattle.jr_program_laws.proofs.TokenOrder.{Filled, filled_front, filled_back}

pub record Fills (P : Tokens → Type 0) : Type 0 where
  pub fills : (ps : Tokens) → P ps → Filled ps

pub alone_fills : {t : Token} → Fills (IsAlone t)
alone_fills = record { fills = λ ps h. subst Filled (sym h.alone) tt }

pub front_fills : {P Q : Tokens → Type 0} → Fills P → Fills (InOrder P Q)
front_fills f = record { fills = λ ps h. subst Filled (sym h.whole) (filled_front h.front h.back (f.fills h.front h.first)) }

pub back_fills : {P Q : Tokens → Type 0} → Fills Q → Fills (InOrder P Q)
back_fills f = record { fills = λ ps h. subst Filled (sym h.whole) (filled_back h.front h.back (f.fills h.back h.rest)) }

pub node_fills : {m : Span} {P : Tokens → Type 0} → Fills P → Fills (IsNode m P)
node_fills f = record { fills = λ ps h. f.fills ps h.parts }

pub word_fills : (w : tree.Word Span) → Fills (Stands (word_layout w))
word_fills w = node_fills (front_fills alone_fills)

pub type_fills : (t : tree.TypeName Span) → Fills (Stands (type_layout t))
type_fills (tree.int m) = node_fills (front_fills alone_fills)
type_fills (tree.boolean m) = node_fills (front_fills alone_fills)
type_fills (tree.named m None w) = node_fills (front_fills (word_fills w))
type_fills (tree.named m (Some o) w) = node_fills (front_fills (word_fills o))

pub exp_fills : (e : tree.Exp Span) → Fills (Stands (exp_layout e))
exp_fills (tree.number m n) = node_fills (front_fills alone_fills)
exp_fills (tree.truth m b) = node_fills (front_fills alone_fills)
exp_fills (tree.null m) = node_fills (front_fills alone_fills)
exp_fills (tree.string m s) = node_fills (front_fills alone_fills)
exp_fills (tree.name m w) = node_fills (front_fills (word_fills w))
exp_fills (tree.field m e w) = node_fills (front_fills (exp_fills e))
exp_fills (tree.super_field m w) = node_fills (front_fills alone_fills)
exp_fills (tree.this m) = node_fills (front_fills alone_fills)
exp_fills (tree.class_literal m t) = node_fills (front_fills (type_fills t))
exp_fills (tree.call m to w args) = node_fills (back_fills (front_fills (word_fills w)))
exp_fills (tree.super_call m w args) = node_fills (front_fills alone_fills)
exp_fills (tree.create m t args) = node_fills (front_fills alone_fills)
exp_fills (tree.paren m e) = node_fills (front_fills alone_fills)
exp_fills (tree.cast m t e) = node_fills (front_fills alone_fills)
exp_fills (tree.unary m o e) = node_fills (front_fills alone_fills)
exp_fills (tree.bump m PreInc e) = node_fills (front_fills alone_fills)
exp_fills (tree.bump m PreDec e) = node_fills (front_fills alone_fills)
exp_fills (tree.bump m PostInc e) = node_fills (front_fills (exp_fills e))
exp_fills (tree.bump m PostDec e) = node_fills (front_fills (exp_fills e))
exp_fills (tree.binary m o x y) = node_fills (front_fills (exp_fills x))
exp_fills (tree.assign m x y) = node_fills (front_fills (exp_fills x))
exp_fills (tree.compound m o x y) = node_fills (front_fills (exp_fills x))

pub stmt_fills : (x : statement.Stmt Span) → Fills (Stands (stmt_layout x))
stmt_fills (statement.local m f t w e) = node_fills (back_fills (front_fills (type_fills t)))
stmt_fills (statement.eval m e) = node_fills (front_fills (exp_fills e))
stmt_fills (statement.branch m e x other) = node_fills (front_fills alone_fills)
stmt_fills (statement.loop m e x) = node_fills (front_fills alone_fills)
stmt_fills (statement.return m None) = node_fills (front_fills alone_fills)
stmt_fills (statement.return m (Some e)) = node_fills (front_fills alone_fills)
stmt_fills (statement.block m body) = node_fills (front_fills alone_fills)
stmt_fills (statement.sync m e body) = node_fills (front_fills alone_fills)
stmt_fills (statement.empty m) = node_fills (front_fills alone_fills)

pub class_fills : (c : syntax.Class Span) → Fills (Stands (class_layout c))
class_fills (syntax.class m mods w t ms) = node_fills (back_fills (front_fills alone_fills))

pub result_fills : (t : Option (tree.TypeName Span)) → Fills (Stands (result_layout t))
result_fills None = front_fills alone_fills
result_fills (Some t) = front_fills (type_fills t)

pub member_fills : (x : syntax.Member Span) → Fills (Stands (member_layout x))
member_fills (syntax.field m mods t w init) = node_fills (back_fills (front_fills (type_fills t)))
member_fills (syntax.method m mods t w ps body) = node_fills (back_fills (front_fills (result_fills t)))
member_fills (syntax.constructor m mods w ps args body) = node_fills (back_fills (front_fills (word_fills w)))
member_fills (syntax.inner m c) = node_fills (front_fills (class_fills c))
