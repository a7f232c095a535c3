-- Marks that tell nested spans: each part's is within that of the whole and isn't all of it, and
-- parts stand one behind the other. So it is of each tree that a text reads as, where the mark of a
-- node tells the span from its first token to its last.
use Rattle.std.specs.Prelude.{◌≡◌, ◌⊎◌, ℕ, ◌<◌, ◌≤◌, [], ◌∷◌, Some, None}
use Rattle.jr_text.specs.declared.spans.Span.{Span}
use Rattle.jr_ast.specs.Tree as tree
use Rattle.jr_ast.specs.StatementTree as statement
use Rattle.jr_grammar.specs.Layout.{spans_from}
use Rattle.jr_grammar.specs.StatementLayout.{stmts_layout}
use Rattle.jr_grammar.specs.Stands.{Tokens, Stands}
use Rattle.jr_pieces.specs.Ways.{ListWay}
use Rattle.jr_pieces.specs.Finding.{exp_span, stmt_span, find_list, list_end, list_path}

-- from the place on, within the whole, which has a byte more
pub record Within (lo : ℕ) (part whole : Span) : Type 0 where
  pub from : lo ≤ part.from
  pub ordered : part.from < part.to
  pub starts : whole.from ≤ part.from
  pub ends : part.to ≤ whole.to
  pub more : (whole.from < part.from) ⊎ (part.to < whole.to)

module _ {A : Type 0} (tells : A → ℕ → Span) where
  abbrev mutual
    pub ExpNested : (base : ℕ) → tree.Exp A → Type 0
    ExpNested base (tree.field m e w) =
        (Within (tells m base).from (exp_span tells (tells m base).from e) (tells m base)
        × ExpNested (tells m base).from e)
    ExpNested base (tree.paren m e) =
        (Within (tells m base).from (exp_span tells (tells m base).from e) (tells m base)
        × ExpNested (tells m base).from e)
    ExpNested base (tree.cast m t e) =
        (Within (tells m base).from (exp_span tells (tells m base).from e) (tells m base)
        × ExpNested (tells m base).from e)
    ExpNested base (tree.unary m o e) =
        (Within (tells m base).from (exp_span tells (tells m base).from e) (tells m base)
        × ExpNested (tells m base).from e)
    ExpNested base (tree.bump m o e) =
        (Within (tells m base).from (exp_span tells (tells m base).from e) (tells m base)
        × ExpNested (tells m base).from e)
    ExpNested base (tree.call m tree.no_target w es) =
        PartsNested (tells m base) (tells m base).from es
    ExpNested base (tree.call m (tree.on e) w es) =
        (Within (tells m base).from (exp_span tells (tells m base).from e) (tells m base)
        × ExpNested (tells m base).from e)
        × PartsNested (tells m base) (exp_span tells (tells m base).from e).to es
    ExpNested base (tree.super_call m w es) = PartsNested (tells m base) (tells m base).from es
    ExpNested base (tree.create m t es) = PartsNested (tells m base) (tells m base).from es
    ExpNested base (tree.binary m o l r) =
        (Within (tells m base).from (exp_span tells (tells m base).from l) (tells m base)
        × ExpNested (tells m base).from l)
        × (Within (exp_span tells (tells m base).from l).to
        (exp_span tells (tells m base).from r) (tells m base)
        × ExpNested (tells m base).from r)
    ExpNested base (tree.assign m l r) =
        (Within (tells m base).from (exp_span tells (tells m base).from l) (tells m base)
        × ExpNested (tells m base).from l)
        × (Within (exp_span tells (tells m base).from l).to
        (exp_span tells (tells m base).from r) (tells m base)
        × ExpNested (tells m base).from r)
    ExpNested base (tree.compound m o l r) =
        (Within (tells m base).from (exp_span tells (tells m base).from l) (tells m base)
        × ExpNested (tells m base).from l)
        × (Within (exp_span tells (tells m base).from l).to
        (exp_span tells (tells m base).from r) (tells m base)
        × ExpNested (tells m base).from r)
    ExpNested base (tree.number m n) = Unit {0}
    ExpNested base (tree.truth m b) = Unit {0}
    ExpNested base (tree.null m) = Unit {0}
    ExpNested base (tree.string m t) = Unit {0}
    ExpNested base (tree.name m w) = Unit {0}
    ExpNested base (tree.super_field m w) = Unit {0}
    ExpNested base (tree.this m) = Unit {0}
    ExpNested base (tree.class_literal m t) = Unit {0}

    -- arguments, the first of which begins at the place or later
    pub PartsNested : (whole : Span) → (lo : ℕ) → tree.Exps A → Type 0
    PartsNested s lo tree.end = Unit {0}
    PartsNested s lo (tree.more e es) =
        (Within lo (exp_span tells s.from e) s × ExpNested s.from e)
        × PartsNested s (exp_span tells s.from e).to es

  -- an expression that begins at the place or later
  abbrev pub PartNested : (whole : Span) → (lo : ℕ) → tree.Exp A → Type 0
  PartNested s lo e = Within lo (exp_span tells s.from e) s × ExpNested s.from e

  abbrev mutual
    pub StmtNested : (base : ℕ) → statement.Stmt A → Type 0
    StmtNested base (statement.local m is_final t w e) =
        PartNested (tells m base) (tells m base).from e
    StmtNested base (statement.eval m e) = PartNested (tells m base) (tells m base).from e
    StmtNested base (statement.branch m c x statement.no_else) =
        PartNested (tells m base) (tells m base).from c
        × (Within (exp_span tells (tells m base).from c).to
        (stmt_span tells (tells m base).from x) (tells m base)
        × StmtNested (tells m base).from x)
    StmtNested base (statement.branch m c x (statement.otherwise y)) =
        PartNested (tells m base) (tells m base).from c
        × (Within (exp_span tells (tells m base).from c).to
        (stmt_span tells (tells m base).from x) (tells m base)
        × StmtNested (tells m base).from x)
        × (Within (stmt_span tells (tells m base).from x).to
        (stmt_span tells (tells m base).from y) (tells m base)
        × StmtNested (tells m base).from y)
    StmtNested base (statement.loop m c x) = PartNested (tells m base) (tells m base).from c
        × (Within (exp_span tells (tells m base).from c).to
        (stmt_span tells (tells m base).from x) (tells m base)
        × StmtNested (tells m base).from x)
    StmtNested base (statement.return m None) = Unit {0}
    StmtNested base (statement.return m (Some e)) = PartNested (tells m base) (tells m base).from e
    StmtNested base (statement.block m b) = ListNested (tells m base) (tells m base).from b
    StmtNested base (statement.sync m e b) = PartNested (tells m base) (tells m base).from e
        × ListNested (tells m base) (exp_span tells (tells m base).from e).to b
    StmtNested base (statement.empty m) = Unit {0}

    pub ListNested : (whole : Span) → (lo : ℕ) → statement.Stmts A → Type 0
    ListNested s lo statement.end = Unit {0}
    ListNested s lo (statement.more x xs) =
        (Within lo (stmt_span tells s.from x) s × StmtNested s.from x)
        × ListNested s (stmt_span tells s.from x).to xs

  -- a statement that begins at the place or later
  abbrev pub StepNested : (whole : Span) → (lo : ℕ) → statement.Stmt A → Type 0
  StepNested s lo x = Within lo (stmt_span tells s.from x) s × StmtNested s.from x

-- ---- the law

-- An expression is found by its span: no other of the list has it. The list stands within a node of
-- the span `whole`, from the place `lo` on, and its elements have numbers from `first` on.
abbrev pub SpansTellWays : (A : Type 0) → Type 0
SpansTellWays A = (tells : A → ℕ → Span) (whole : Span) (lo first : ℕ) (b : statement.Stmts A)
    → ListNested tells whole lo b → (f : tree.Exp A) (d : ListWay f b) (s : Span)
    → list_end tells whole.from d ≡ s
    → find_list tells s whole.from first b ≡ Some (list_path first d)

-- ---- of trees that are read

-- tokens one behind the other, from the place on, each of a byte or more
abbrev pub Rising : ℕ → Tokens → Type 0
Rising lo [] = Unit {0}
Rising lo (p ∷ ps) = (lo ≤ p.mark.from) × (p.mark.from < p.mark.to) × Rising p.mark.to ps

-- where they end
abbrev pub end_from : ℕ → Tokens → ℕ
end_from lo [] = lo
end_from lo (p ∷ ps) = end_from p.mark.to ps

-- Where a list stands in such tokens, within a node and behind its first byte, its spans are
-- nested.
abbrev pub StandingListsAreNested : (A : Type 0) → Type 0
StandingListsAreNested A = (tells : A → ℕ → Span) (whole : Span) (lo : ℕ) (b : statement.Stmts A)
    (ps : Tokens) → Stands (spans_from tells whole.from (stmts_layout b)) ps → whole.from < lo
    → Rising lo ps → end_from lo ps ≤ whole.to → ListNested tells whole lo b
