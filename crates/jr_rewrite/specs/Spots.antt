-- Spots: where a refactoring rewrites a part of a tree in its own way. Within a spot parts are
-- rewritten again by the same relations, perhaps by other choices.
use Rattle.std.specs.Prelude.{◌⊎◌, ℕ, ◌≤◌, List, Option}
use Rattle.jr_ast.specs.Tree as tree
use Rattle.jr_ast.specs.StatementTree as statement
use Rattle.jr_ast.specs.MemberTree as syntax
use Rattle.jr_grammar.specs.Shape.{
  primary_level,
  unsigned_level,
  level_of,
  IsTarget,
  IsStatementForm,
}
use Rattle.jr_table.specs.Keys.{ClassKey}
use Rattle.jr_table.specs.Binding.{Role}
use Rattle.jr_table.specs.Context.{Context}
use Rattle.jr_rewrite.specs.Respellings.{
  Front,
  same,
  alone,
  by_this,
  by_super,
  by_cast_this,
  by_class,
  by_outer_class,
  by_cast,
}
use Rattle.jr_rewrite.specs.Rewritten.{Rewritten}

-- what the node around asks of an expression: that it binds so tightly, that it can be assigned, or
-- that it can be a statement
pub data Asks : Type 0 where
  level : (least : ℕ) → Asks
  a_target : Asks
  a_statement : Asks

abbrev pub Takes : {A : Type 0} → Asks → tree.Exp A → Type 0
Takes (level least) e = least ≤ level_of e
Takes a_target e = IsTarget e
Takes a_statement e = IsStatementForm e

-- what is asked of what stands in front of a dot, by what is put in front of the word: less of a
-- cast's operand than of what a dot follows (JLS 15.11, 15.16)
abbrev pub operand_asks : Front → Asks
operand_asks same = level primary_level
operand_asks alone = level primary_level
operand_asks by_this = level primary_level
operand_asks by_super = level primary_level
operand_asks (by_cast_this k) = level primary_level
operand_asks (by_class k) = level primary_level
operand_asks (by_outer_class o k) = level primary_level
operand_asks (by_cast k) = level unsigned_level

-- what becomes of an expression of which so much is asked, which stands so where its parent begins
-- at base; of the rest of a list of statements, whose next local has a number; of the rest of the
-- members of a class; and of a class, by the class around it, in front of whose last brace
-- something is put. Each beside what of that kind is rewritten node by node.
pub record Spots (A : Type 0) : Type 1 where
  pub part : Asks → Context → Role → (base : ℕ) → tree.Exp A → Rewritten (tree.Exp A) → Type 0
  pub part_stays : Asks → Context → Role → (base : ℕ) → tree.Exp A → Type 0
  pub list : (next : ℕ) → Context → (base : ℕ) → statement.Stmts A
      → Rewritten (statement.Stmts A) → Type 0
  pub list_stays : (next : ℕ) → Context → (base : ℕ) → statement.Stmts A → Type 0
  pub members : (base : ℕ) → ClassKey → syntax.Members A → Rewritten (syntax.Members A) → Type 0
  pub members_stay : (base : ℕ) → ClassKey → syntax.Members A → Type 0
  pub whole : (base : ℕ) → Option (List ℕ) → syntax.Class A → Rewritten (syntax.Class A) → Type 0
  pub whole_stays : (base : ℕ) → Option (List ℕ) → syntax.Class A → Type 0
  -- whether `this` stays where no spot is; where a local stands for it, it is a spot
  pub this_stays : Type 0

-- all is rewritten node by node, or there are spots
pub data Spotted (A : Type 0) : Type 1 where
  nowhere : Spotted A
  spotted : (spots : Spots A) → Spotted A

-- node by node, or as a spot has it
module _ {A : Type 0} where
  abbrev pub OrThis : Spotted A → (ByNode : Type 0) → Type 0
  OrThis nowhere ByNode = ByNode
  OrThis (spotted s) ByNode = s.this_stays × ByNode

  abbrev pub OrPart : Spotted A → Asks → Context → Role → (base : ℕ) → tree.Exp A
      → Rewritten (tree.Exp A) → (ByNode : Type 0) → Type 0
  OrPart nowhere k c r base e o ByNode = ByNode
  OrPart (spotted s) k c r base e o ByNode =
      (s.part_stays k c r base e × ByNode) ⊎ s.part k c r base e o

  abbrev pub OrList : Spotted A → (next : ℕ) → Context → (base : ℕ) → statement.Stmts A
      → Rewritten (statement.Stmts A) → (ByNode : Type 0) → Type 0
  OrList nowhere n c base xs o ByNode = ByNode
  OrList (spotted s) n c base xs o ByNode =
      (s.list_stays n c base xs × ByNode) ⊎ s.list n c base xs o

  abbrev pub OrMembers : Spotted A → (base : ℕ) → ClassKey → syntax.Members A
      → Rewritten (syntax.Members A) → (ByNode : Type 0) → Type 0
  OrMembers nowhere base of xs o ByNode = ByNode
  OrMembers (spotted s) base of xs o ByNode =
      (s.members_stay base of xs × ByNode) ⊎ s.members base of xs o

  abbrev pub OrClass : Spotted A → (base : ℕ) → Option (List ℕ) → syntax.Class A
      → Rewritten (syntax.Class A) → (ByNode : Type 0) → Type 0
  OrClass nowhere base outer x o ByNode = ByNode
  OrClass (spotted s) base outer x o ByNode =
      (s.whole_stays base outer x × ByNode) ⊎ s.whole base outer x o

-- ---- a spot has to be used

-- where a spot is, nothing of that kind stays: of the two that may come of a place one is left
pub record AreApart {A : Type 0} (s : Spots A) : Type 0 where
  pub part : (k : Asks) (c : Context) (r : Role) (base : ℕ) (e : tree.Exp A)
      (o : Rewritten (tree.Exp A)) → s.part k c r base e o → s.part_stays k c r base e → ⊥
  pub list : (n : ℕ) (c : Context) (base : ℕ) (xs : statement.Stmts A)
      (o : Rewritten (statement.Stmts A)) → s.list n c base xs o → s.list_stays n c base xs → ⊥
  pub members : (base : ℕ) (of : ClassKey) (xs : syntax.Members A)
      (o : Rewritten (syntax.Members A)) → s.members base of xs o → s.members_stay base of xs → ⊥
  pub whole : (base : ℕ) (outer : Option (List ℕ)) (x : syntax.Class A)
      (o : Rewritten (syntax.Class A)) → s.whole base outer x o → s.whole_stays base outer x → ⊥

abbrev pub SpotsAreApart : {A : Type 0} → Spotted A → Type 0
SpotsAreApart nowhere = Unit {0}
SpotsAreApart (spotted s) = AreApart s
