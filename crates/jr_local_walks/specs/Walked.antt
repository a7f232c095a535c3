-- What a walk of a body says by numbers and spans, extract local asks by trees and contexts: the
-- first leads to the second.
use Rattle.std.specs.Prelude.{◌≡◌, ℕ, ◌+◌, List, [], ◌∷◌, Some, None, length}
use Rattle.jr_text.specs.declared.spans.Span.{Span}
use Rattle.jr_lex.specs.declared.items.Item.{Item}
use Rattle.jr_ast.specs.Tree as tree
use Rattle.jr_ast.specs.StatementTree as statement
use Rattle.jr_ast.specs.Marks.{exp_mark}
use Rattle.jr_grammar.specs.Layout.{itself}
use Rattle.jr_table.specs.Keys.{ClassKey, Ty, class}
use Rattle.jr_table.specs.Decls.{class_decl}
use Rattle.jr_table.specs.Entries.{IsRowOf}
use Rattle.jr_table.specs.Binding.{value}
use Rattle.jr_table.specs.Context.{Context, locals_in, after}
use Rattle.jr_bind.specs.Programs.{Program}
use Rattle.jr_rewrite.specs.Rewritten.{Rewritten}
use Rattle.jr_rewrite.specs.Spots.{level, nowhere, spotted}
use Rattle.jr_rewrite.specs.Rewrites.{
  Choosing,
  TransformsExp,
  TransformsStmt,
  TransformsList,
}
use Rattle.jr_images.specs.Spelling.{choosing}
use Rattle.jr_pieces.specs.Ways.{StmtWay, ListWay}
use Rattle.jr_pieces.specs.Standings.{Standing, at_stmt, at_list}
use Rattle.jr_new_words.specs.Mappings.{Renumbering, region_of}
use Rattle.jr_new_bodies.specs.Spotting.{
  PartSpot,
  at_parts,
  part_at,
  part_out,
  Unseen,
  spots_of,
}
use Rattle.jr_local.specs.Bodies.{begins}
use Rattle.jr_local.specs.Selecting.{Selected, at_value, element}
use Rattle.jr_local.specs.Extracted.{choices, from_there, named, name_spot, Moves}
use Rattle.jr_local.specs.Inlining.{Asked, behind_it}
use Rattle.jr_local.specs.Inlining as inlining
use Rattle.jr_local.specs.Inlined.{Copy, Reads, IsNoRead, read_spot, left_out}
use Rattle.jr_local.specs.Inlined as inlined
use Rattle.jr_local_walks.specs.Mappings.{moved, behind, initializing, without}
use Rattle.jr_local_walks.specs.Contexts.{IsLate, IsOwn, InMember, InOrder, IsBelow}

-- what is chosen by the walk's mapping
abbrev pub walks : Program Span → Renumbering → (super_at : Context → ℕ) → Choosing Span
walks p r super_at = choosing begins p.rows (region_of p.rows (moved p.rows r)) super_at

module _ (p : Program Span) (file from to : ℕ) (name : List ℕ) (x : Selected p file from to) where
  -- the new local's number and member, and the statement with what is known there
  abbrev pub number : ℕ
  number = (element x).at.next

  abbrev pub there : Context
  there = (element x).at.context

  abbrev pub base : ℕ
  base = (element x).at.base

  -- a class that is its type has a row
  abbrev pub HasTypeRow : Type 0
  HasTypeRow = (b : ClassKey) → x.type ≡ class b → (j : ℕ) × IsRowOf p.rows (class_decl b) j

  -- the expression with its changes
  abbrev pub PieceLeads : Type 0
  PieceLeads = (depth : ℕ) (super_at : Context → ℕ) (o : Rewritten (tree.Exp Span))
      → HasTypeRow
      → InOrder p.rows there.member number depth (IsOwn there.member number)
      (at_value x).context
      → TransformsExp itself (walks p (initializing number name x.type depth) super_at) nowhere
      (at_value x).context value (at_value x).base x.value o
      → Moves p file from to name x o

  -- The spot puts the name in the expression's place, and no other expression of the statement has
  -- these bytes.
  pub record NamesPiece (items : List Item) (spot : PartSpot) (u : Unseen Span) : Type 0 where
    pub at : spot.at ≡ exp_mark x.value
    pub puts : (least : ℕ) → part_out spot least (u.part spot.at least)
        ≡ named name items (exp_mark x.value)
    pub alone : (f : tree.Exp Span) (w : StmtWay f (element x).stmt)
        → exp_mark f ≡ exp_mark x.value
        → (f ≡ x.value) × ((at_stmt begins (element x).at w).context ≡ (at_value x).context)

  -- the statement, in which the name takes the expression's place
  abbrev pub FirstLeads : Type 0
  FirstLeads = (depth : ℕ) (super_at : Context → ℕ) (items : List Item) (spot : PartSpot)
      (u : Unseen Span) (o : Rewritten (statement.Stmt Span)) → HasTypeRow
      → InOrder p.rows there.member number depth (IsLate there.member number) there
      → NamesPiece items spot u
      → TransformsStmt itself (walks p (behind number name x.type depth) super_at)
      (spots_of itself u (at_parts (spot ∷ []))) number there base (element x).stmt o
      → TransformsStmt itself (choices p file from to name x (from_there p file from to name x))
      (spotted (name_spot p file from to name x items)) number there base (element x).stmt o

  -- the statements behind it
  abbrev pub RestLeads : Type 0
  RestLeads = (depth : ℕ) (super_at : Context → ℕ) (o : Rewritten (statement.Stmts Span))
      → HasTypeRow
      → InOrder p.rows there.member number depth (IsLate there.member number) there
      → TransformsList itself (walks p (behind number name x.type depth) super_at) nowhere
      (number + locals_in (element x).stmt) (after number there (element x).stmt) base
      (element x).rest o
      → TransformsList itself (choices p file from to name x (from_there p file from to name x))
      nowhere (number + locals_in (element x).stmt) (after number there (element x).stmt) base
      (element x).rest o

  -- at the statement locals are in the order of their numbers
  abbrev pub IsOrderedThere : Type 0
  IsOrderedThere = IsBelow p.rows x.body.key x.body.at
      → InOrder p.rows x.body.key number (length there.locals) (IsLate x.body.key number) there

-- what extract local asks follows from what the walk gathers
abbrev pub ExtractIsWalked : Type 0
ExtractIsWalked = (p : Program Span) (file from to : ℕ) (name : List ℕ)
    (x : Selected p file from to)
    → PieceLeads p file from to name x × FirstLeads p file from to name x
    × RestLeads p file from to name x × IsOrderedThere p file from to name x

-- ---- inline local

module _ (p : Program Span) (file at : ℕ) (x : Asked p file at) (type : Ty) where
  -- what stands behind the declaration
  abbrev pub rest : statement.Stmts Span
  rest = (inlining.element x.declared).rest

  abbrev pub place : Standing
  place = behind_it x.declared

  -- The spots put the copies in the places of the reads that are used for their values, and no
  -- other expression has these bytes.
  pub record PutsCopies (text : List ℕ) (items : List Item) (cs : List Copy) (ps : List PartSpot)
      (u : Unseen Span) : Type 0 where
    pub comes : (f : tree.Exp Span) (w : ListWay f rest) (least : ℕ) (s : PartSpot)
        → part_at (exp_mark f) (at_parts ps) ≡ Some s
        → Reads p file at x type text items cs (level least) (at_list begins place w).context f
        (part_out s least (u.part s.at least))
    pub stays : (f : tree.Exp Span) (w : ListWay f rest) (least : ℕ)
        → part_at (exp_mark f) (at_parts ps) ≡ None
        → IsNoRead p file at x type text items cs (level least) (at_list begins place w).context f

  -- the statements behind the declaration, in which copies take the places of reads
  abbrev pub InlineLeads : Type 0
  InlineLeads = (super_at : Context → ℕ) (text : List ℕ) (items : List Item) (cs : List Copy)
      (ps : List PartSpot) (u : Unseen Span) (o : Rewritten (statement.Stmts Span))
      → InMember p.rows x.key.member place.context → PutsCopies text items cs ps u
      → TransformsList itself (walks p (without x.key.number type) super_at)
      (spots_of itself u (at_parts ps)) place.next place.context place.base rest o
      → TransformsList itself (inlined.choices p file at x type (left_out p file at x type))
      (spotted (read_spot p file at x type text items cs)) place.next place.context place.base
      rest o

abbrev pub InlineIsWalked : Type 0
InlineIsWalked = (p : Program Span) (file at : ℕ) (x : Asked p file at) (type : Ty)
    → InlineLeads p file at x type
