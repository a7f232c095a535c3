-- Walks of the parts, step by step.
use Rattle.std.proofs.Common.{◌≡◌, ℕ, ◌≤◌, List, length, refl, sym, ap, subst, ◌∙◌}
use Rattle.jr_text.specs.declared.spans.Span.{Span}
use Rattle.jr_ast.specs.StatementTree as statement
use Rattle.jr_ast.specs.declared.stmts.Stmt.{Stmt}
use Rattle.jr_ast.specs.Marks.{exp_mark, stmt_mark}
use Rattle.jr_ast.specs.View.{stmt_of, stmts_of}
use Rattle.jr_ast.proofs.Rows.{expr_mark_is, stmt_mark_is}
use Rattle.jr_table.specs.TypeView.{ty_of}
use Rattle.jr_rewrite.specs.Respellings.{Change}
use Rattle.jr_bind.specs.Programs.{Program}
use Rattle.jr_new_words.specs.Mappings.{Renumbering}
use Rattle.jr_new_words.specs.Scopes.{Makes}
use Rattle.jr_new_bodies.specs.declared.here.Here as raw_here
use Rattle.jr_new_bodies.specs.Known.{context_of, mapping_of, IsKnown}
use Rattle.jr_new_bodies.specs.Moves.{Goes}
use Rattle.jr_new_bodies.specs.Effects.{Effect}
use Rattle.jr_new_bodies.specs.Spotting.{PartSpot}
use Rattle.jr_table.specs.Context.{Context}
use Rattle.jr_local_parts.specs.Descending.{entered as entering}
use Rattle.jr_local_ways.specs.Elements.{entered, ElementsHoldIt}
use Rattle.jr_extract_lists.specs.declared.targets.Target as raw
use Rattle.jr_extract_lists.specs.declared.walks.StatementPlace.{StatementPlace}
use Rattle.jr_extract_lists.specs.Targets.{IsTarget}
use Rattle.jr_extract_lists.specs.Walked.{CanWalk, WalksPiece, WalksList, WalksStatements, BeginsFor, IsMade, IsPlaced, AtStatement, it, held, in_initializer, from_there}
use Rattle.jr_extract_lists.specs.WrittenTypes.{CanBeWritten}
use Rattle.jr_local_changes.specs.PieceChanges.{PieceFits, PiecesFit}
use Rattle.jr_extract_lists.proofs.Listing.{type_can_be}
use Rattle.jr_extract_lists.proofs.Places.{list_is, makes_there, at_statement}
use Rattle.jr_extract_lists.proofs.Pieces.{AtPiece, at_piece}

same_first : (s s2 : statement.Stmt Span) (ss ss2 : statement.Stmts Span) → statement.more s ss ≡ statement.more s2 ss2 → s ≡ s2
same_first s s2 ss ss2 e = cc

same_rest : (s s2 : statement.Stmt Span) (ss ss2 : statement.Stmts Span) → statement.more s ss ≡ statement.more s2 ss2 → ss ≡ ss2
same_rest s s2 ss ss2 e = cc

module _ (p : Program Span) (t : raw.Target) (x : IsTarget p t) (s : statement.Stmt Span) (ss : statement.Stmts Span) (is : stmts_of t.list.now ≡ statement.more s ss) where
  pub first_is : s ≡ (held x).stmt
  first_is = same_first s (held x).stmt ss (held x).rest (sym is ∙ list_is p t x)

  pub rest_is : ss ≡ (held x).rest
  rest_is = same_rest s (held x).stmt ss (held x).rest (sym is ∙ list_is p t x)

-- ---- marks

pub first_mark : (p : Program Span) (t : raw.Target) (x : IsTarget p t) (s : Stmt Span) (ss : statement.Stmts Span) → stmts_of t.list.now ≡ statement.more (stmt_of s) ss → s.mark.from ≡ (stmt_mark (held x).stmt).from
first_mark p t x s ss is = ap (λ (m : Span). m.from) (sym (stmt_mark_is s)) ∙ ap (λ (y : statement.Stmt Span). (stmt_mark y).from) (first_is p t x (stmt_of s) ss is)

pub value_mark : (p : Program Span) (t : raw.Target) (x : IsTarget p t) → t.value.now.mark ≡ exp_mark (it x).value
value_mark p t x = sym (expr_mark_is t.value.now) ∙ ap exp_mark x.value

-- wherever the body begins, the walk comes to the statement
abbrev pub Comes : (t : raw.Target) (old new : raw_here.Here) → StatementPlace → Type 0
Comes t old new at = (p : Program Span) (x : IsTarget p t) (q : Renumbering) → BeginsFor q t old → IsPlaced x old new at

-- ---- the expression

entered_is : (n : ℕ) (c : Context) (s : statement.Stmt Span) → entering n c s ≡ entered n s c
entered_is n c (statement.local m f u w e) = refl
entered_is n c (statement.eval m e) = refl
entered_is n c (statement.branch m e y o) = refl
entered_is n c (statement.loop m e y) = refl
entered_is n c (statement.return m e) = refl
entered_is n c (statement.block m b) = refl
entered_is n c (statement.sync m e b) = refl
entered_is n c (statement.empty m) = refl

pub can_walk_piece : (t : raw.Target) (h : raw_here.Here) (r : Renumbering) → WalksPiece t h r → CanWalk t
can_walk_piece t h r (p, (x, (begins, is))) = (p, (x, tt))

pub piece_known : (t : raw.Target) (h new : raw_here.Here) (r : Renumbering) (at : StatementPlace) → WalksPiece t h r → Comes t h new at → IsKnown new
piece_known t h new r at (p, (x, (begins, is))) comes = (comes p x (in_initializer x) begins).goes.known

pub piece_makes : (t : raw.Target) (h new : raw_here.Here) (r : Renumbering) (at : StatementPlace) → WalksPiece t h r → Comes t h new at → Makes (mapping_of new).locals r (length (context_of new).locals)
piece_makes t h new r at (p, (x, (begins, is))) comes =
    subst (λ (q : Renumbering). Makes (mapping_of new).locals q (length (context_of new).locals)) (sym is)
    (makes_there p t x (in_initializer x) (in_initializer x) h new at begins (comes p x (in_initializer x) begins) refl refl (length (context_of new).locals) refl refl)

module _ (holds : ElementsHoldIt Span) (t : raw.Target) (one two three four : raw_here.Here) (at : StatementPlace) (r : Renumbering) (s : statement.Stmt Span) (ss : statement.Stmts Span) (comes : Comes t one two at) (made : IsMade two three r) (is : stmts_of t.list.now ≡ statement.more s ss)
    (goes : Goes three four (entering at.element.next (context_of three) s)) where
  pub the_piece : (p : Program Span) (x : IsTarget p t) → BeginsFor (in_initializer x) t one → r ≡ in_initializer x → AtPiece p t x four
  the_piece p x begins same =
      let h = comes p x (in_initializer x) begins in
      let a = at_statement p t x (in_initializer x) (in_initializer x) one two at begins h refl refl three (subst (λ (q : Renumbering). IsMade two three q) same made) in
      at_piece p t x holds three four at.element.next s a (sym h.place.element_is.next) (first_is p t x s ss is) (subst (λ (c : Context). Goes three four c) (entered_is at.element.next (context_of three) s) goes)

  pub some_piece : WalksPiece t one r → (p : Program Span) × ((x : IsTarget p t) × AtPiece p t x four)
  some_piece (p, (x, (begins, same))) = (p, (x, the_piece p x begins same))

-- ---- the list

pub list_known : (t : raw.Target) (h new : raw_here.Here) (r : Renumbering) (ps : List PartSpot) (e : Effect) (at : StatementPlace) → WalksList t h r ps e → Comes t h new at → IsKnown new
list_known t h new r ps e at (p, (x, (begins, is, puts, moves))) comes = (comes p x (from_there x) begins).goes.known

pub list_makes : (t : raw.Target) (h new : raw_here.Here) (r : Renumbering) (ps : List PartSpot) (e : Effect) (at : StatementPlace) → WalksList t h r ps e → Comes t h new at → Makes (mapping_of new).locals r (length (context_of new).locals)
list_makes t h new r ps e at (p, (x, (begins, is, puts, moves))) comes =
    subst (λ (q : Renumbering). Makes (mapping_of new).locals q (length (context_of new).locals)) (sym is)
    (makes_there p t x (from_there x) (from_there x) h new at begins (comes p x (from_there x) begins) refl refl (length (context_of new).locals) refl refl)

pub list_can : (t : raw.Target) (h : raw_here.Here) (r : Renumbering) (ps : List PartSpot) (e : Effect) → WalksList t h r ps e → CanWalk t
list_can t h r ps e (p, (x, (begins, is, puts, moves))) = (p, (x, tt))

pub list_type : (t : raw.Target) (h : raw_here.Here) (r : Renumbering) (ps : List PartSpot) (e : Effect) → WalksList t h r ps e → CanBeWritten (ty_of t.ty.now)
list_type t h r ps e (p, (x, (begins, is, puts, moves))) = type_can_be p t x

-- the statement begins in the text, and the expression can be cut out with what it becomes by
module _ (fit : PiecesFit) (t : raw.Target) (h : raw_here.Here) (r : Renumbering) (ps : List PartSpot) (e : Effect) where
  pub list_begins : WalksList t h r ps e → (s : statement.Stmt Span) (ss : statement.Stmts Span) → stmts_of t.list.now ≡ statement.more s ss → (at : ℕ) → at ≡ (stmt_mark s).from → at ≤ length t.text.now
  list_begins (p, (x, (begins, same, puts, moves))) s ss is at at_is =
      let it_fits = fit p x.program t.request.file t.request.from t.request.to t.request.name.now (it x) t.text.now t.items.now x.text x.lexes in
      subst (λ (k : ℕ). k ≤ length t.text.now) (sym (at_is ∙ ap (λ (y : statement.Stmt Span). (stmt_mark y).from) (first_is p t x s ss is))) it_fits.begins

  pub list_fits : WalksList t h r ps e → (cs : List Change) → cs ≡ e.changes → PieceFits t.text.now t.value.now.mark cs
  list_fits (p, (x, (begins, same, puts, (o, moves, is)))) cs cs_are =
      let it_fits = fit p x.program t.request.file t.request.from t.request.to t.request.name.now (it x) t.text.now t.items.now x.text x.lexes in
      subst (λ (m : Span). PieceFits t.text.now m cs) (sym (value_mark p t x)) (subst (PieceFits t.text.now (exp_mark (it x).value)) (sym (cs_are ∙ ap (λ (y : Effect). y.changes) is)) (it_fits.piece o moves))

module _ (t : raw.Target) (one two three : raw_here.Here) (at : StatementPlace) (r : Renumbering) (comes : Comes t one two at) (made : IsMade two three r) where
  pub the_list : (p : Program Span) (x : IsTarget p t) → BeginsFor (from_there x) t one → r ≡ from_there x → AtStatement x (from_there x) three
  the_list p x begins same = at_statement p t x (from_there x) (from_there x) one two at begins (comes p x (from_there x) begins) refl refl three (subst (λ (q : Renumbering). IsMade two three q) same made)

  pub some_list : (ps : List PartSpot) (e : Effect) → WalksList t one r ps e → WalksStatements t at.element three ps
  some_list ps e (p, (x, (begins, same, puts, moves))) = (p, (x, (the_list p x begins same, (comes p x (from_there x) begins).place.element_is, puts)))
