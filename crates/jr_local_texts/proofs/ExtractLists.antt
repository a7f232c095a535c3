-- Extract local: the declaration comes in front of the statement, whose expression becomes the name.
use Rattle.std.proofs.Common.{◌≡◌, inl, inr, ℕ, ◌+◌, ◌≤◌, true, false, List, ◌∷◌, ◌++◌, length, Some, refl, sym, ap, ◌∙◌, subst, arith}
use Rattle.jr_text.specs.declared.spans.Span.{Span}
use Rattle.jr_lex.specs.declared.items.TokenKind.{TokenKind}
use Rattle.jr_lex.specs.declared.items.TokenKind.TheVariants.{Mark}
use Rattle.jr_lex.specs.declared.items.Symbol.TheVariants.{Semicolon}
use Rattle.jr_lex.specs.Replacing.{IsName}
use Rattle.jr_lex.specs.Beside.{token_beside}
use Rattle.jr_ast.specs.declared.operators.UnOp.TheVariants.{Plus, Minus, Not}
use Rattle.jr_ast.specs.declared.operators.BinOp.{BinOp}
use Rattle.jr_ast.specs.declared.operators.BinOp.TheVariants as operator
use Rattle.jr_ast.specs.declared.operators.BumpOp.TheVariants.{PreInc, PreDec, PostInc, PostDec}
use Rattle.jr_ast.specs.Tree as tree
use Rattle.jr_ast.specs.StatementTree as statement
use Rattle.jr_ast.specs.Marks.{exp_mark, stmt_mark}
use Rattle.jr_grammar.specs.Tokens.{Token, Placed, placed_of}
use Rattle.jr_grammar.specs.Layout.{itself, spans_from}
use Rattle.jr_grammar.specs.Shape.{primary_level, level_of, rank_of, ShapedBehind}
use Rattle.jr_grammar.specs.Stands.{Tokens, last_to, Stands}
use Rattle.jr_grammar.specs.Spelling.{toks}
use Rattle.jr_grammar.specs.StatementSpelling.{stmt_toks, stmts_toks}
use Rattle.jr_grammar.specs.ExpressionLayout.{exp_layout}
use Rattle.jr_grammar.specs.StatementLayout.{stmts_layout}
use Rattle.jr_grammar.proofs.Layouts.{spans_from-span}
use Rattle.jr_table.specs.Binding.{value}
use Rattle.jr_table.specs.Context.{Context, after, locals_in}
use Rattle.jr_members.specs.WrittenLaws.{MembersAreWritten}
use Rattle.jr_bind.specs.Programs.{Program, IsProgram}
use Rattle.jr_images.specs.NamedImages.{AreNamedImages}
use Rattle.jr_print.specs.ExpressionText.{printed_type}
use Rattle.jr_images.specs.Regions.{Region}
use Rattle.jr_images.specs.TextLaws.{RowsAreNamed}
use Rattle.jr_images.proofs.SuitableSpelling.{choosing_suits}
use Rattle.jr_rewrite.specs.Respellings.{Change}
use Rattle.jr_rewrite.specs.Rewritten.{Rewritten, change, before}
use Rattle.jr_rewrite.specs.Spots.{Asks, level, Takes, nowhere, spotted}
use Rattle.jr_rewrite.specs.Suitable.{AreSuitable}
use Rattle.jr_rewrite.specs.SuitableSpots.{AreSuitableSpots}
use Rattle.jr_rewrite.specs.Woven.{Fronts, Weaving, Weaves, anything, no_indent, token_to, with_changes}
use Rattle.jr_rewrite.proofs.Steps.{Stepped}
use Rattle.jr_rewrite.proofs.Stepping.{both_steps, last_steps}
use Rattle.jr_rewrite.proofs.ExpressionSteps.{exp_steps}
use Rattle.jr_rewrite.proofs.StatementSteps.{stmt_steps, list_steps}
use Rattle.jr_rewrite.proofs.SpotWeaving.{woven_so}
use Rattle.jr_local.specs.Bodies.{begins}
use Rattle.jr_local.specs.Scopes.{same_images}
use Rattle.jr_local.specs.Selecting.{Selected, element, at_value}
use Rattle.jr_local.specs.Extracted.{name_tree, declaration, declaration_text, choices, from_there, of_piece, Moves, name_spot, Puts, Extracts, Found, Fronted}
use Rattle.jr_moved_texts.specs.Spaces.{ending_at}
use Rattle.jr_moved_texts.specs.Moved.{nowhere_weaves}
use Rattle.jr_moved_texts.proofs.Tiling.{text_tiled}
use Rattle.jr_moved_texts.proofs.Boundaries.{in_front}
use Rattle.jr_moved_texts.proofs.Putting.{MayPrecede, precedes}
use Rattle.jr_moved_texts.proofs.Spaced.{Core}
use Rattle.jr_moved_texts.proofs.Cores.{moved_core}
use Rattle.jr_moved_texts.proofs.ExpressionEnds.{exp_head, exp_last}
use Rattle.jr_moved_texts.proofs.TightRuns.{from_anything, run_weaves}
use Rattle.jr_moved_texts.proofs.StandingPieces.{PieceStands, piece_begins, piece_ends, some_kind}
use Rattle.jr_local_texts.proofs.StandingParts.{ElementWithin}
use Rattle.jr_local_texts.proofs.StandingBodies.{exp_mark_is}
use Rattle.jr_local_texts.specs.Fitting.{IsNamedType}
use Rattle.jr_local_texts.proofs.Declarations.{gap_blank, declaration_precedes}
use Rattle.jr_local_texts.proofs.KeptNames.{rows_named, same_named}
use Rattle.jr_local_texts.proofs.ExtractSpots as spots
use Rattle.jr_local_texts.proofs.ExtractSpots.{IsOpen, open_front, token_there}

-- ---- levels

level_low : (o : BinOp) → rank_of o ≤ primary_level
level_low operator.Or = omega arith
level_low operator.And = omega arith
level_low operator.Eq = omega arith
level_low operator.Ne = omega arith
level_low operator.Lt = omega arith
level_low operator.Gt = omega arith
level_low operator.Le = omega arith
level_low operator.Ge = omega arith
level_low operator.Add = omega arith
level_low operator.Sub = omega arith
level_low operator.Mul = omega arith
level_low operator.Div = omega arith
level_low operator.Rem = omega arith

-- nothing binds more tightly than a name
pub no_higher : {A : Type 0} (e : tree.Exp A) → level_of e ≤ primary_level
no_higher (tree.unary m Plus e) = omega arith
no_higher (tree.unary m Minus e) = omega arith
no_higher (tree.unary m Not e) = omega arith
no_higher (tree.bump m PreInc e) = omega arith
no_higher (tree.bump m PreDec e) = omega arith
no_higher (tree.bump m PostInc e) = omega arith
no_higher (tree.bump m PostDec e) = omega arith
no_higher (tree.binary m o l r) = level_low o
no_higher (tree.number m n) = omega arith
no_higher (tree.truth m b) = omega arith
no_higher (tree.null m) = omega arith
no_higher (tree.string m s) = omega arith
no_higher (tree.name m w) = omega arith
no_higher (tree.field m e w) = omega arith
no_higher (tree.super_field m w) = omega arith
no_higher (tree.this m) = omega arith
no_higher (tree.class_literal m t) = omega arith
no_higher (tree.call m t w es) = omega arith
no_higher (tree.super_call m w es) = omega arith
no_higher (tree.create m t es) = omega arith
no_higher (tree.paren m e) = omega arith
no_higher (tree.cast m t e) = omega arith
no_higher (tree.assign m t e) = omega arith
no_higher (tree.compound m o t e) = omega arith

module _ (p : Program Span) (program : IsProgram itself (λ m b. Unit {0}) p) (written : MembersAreWritten Span) (names : RowsAreNamed Span) (file from to : ℕ) (name : List ℕ) (is_name : IsName name)
    (f : Found p file from to name) where
  abbrev pub x : Selected p file from to
  x = f.selected

  abbrev pub F : Fronts
  F = Fronted p file from to name x file

  abbrev all : Tokens
  all = placed_of f.text f.items

  pub fit : (R : Region Span) → R.seen.images ≡ same_images p.rows → AreSuitable (choices p file from to name x R)
  fit R e = choosing_suits begins p.rows R (subst (AreNamedImages p.rows) (sym e) (same_named p.rows (rows_named names p program))) (λ (c : Context). p.super_at c.member)

  -- ---- the name

  abbrev pub W : Weaving
  W = from_anything (Weaves F f.text)

  name_takes : (k : Asks) (e : tree.Exp Span) (least : ℕ) → k ≡ level least → Takes k e → Takes k (name_tree name (exp_mark x.value))
  name_takes k e least is h =
      subst (λ q. Takes q (name_tree name (exp_mark x.value))) (sym is) (omega (arith, no_higher e, subst (λ q. Takes q e) is h))

  pub name_suits : AreSuitableSpots itself (choices p file from to name x (from_there p file from to name x)) W (name_spot p file from to name x f.items)
  name_suits = record {
    part = λ k c r base e o ps s h.
        (let weaves = spots.name_weaves p program written file from to name is_name f base ps (subst (λ y. Stands (spans_from itself base (exp_layout y)) ps) s.0.3 h) in
        (refl, subst (λ z. Weaves F f.text anything ps z.changes (toks z.tree) (token_to (last_to ps))) (sym s.1) weaves));
    part_takes = λ k c r base e o s h. subst (λ z. Takes k z.tree) (sym s.1) (name_takes k e s.0.0 s.0.1 h);
    part_shaped = λ k c r base e o s minus h. subst (λ z. ShapedBehind minus z.tree) (sym s.1) tt;
    list = λ n c base xs o ps s h. absurd s;
    list_shaped = λ n c base xs o s h. absurd s;
    members = λ base of xs o ps s h. absurd s;
    members_shaped = λ base of xs o s nested old new becomes h. absurd s;
    whole = λ base outer y o ps s h. absurd s;
    whole_shaped = λ base outer y o s nested h. absurd s;
  }

  -- ---- the statement's place

  held : ElementWithin (element x) all
  held = spots.held p program written file from to name is_name f

  stands : PieceStands f.text f.items x.value
  stands = spots.value_stands p program written file from to name is_name f

  -- where a statement of a list begins, the list does
  list_begins : (s : statement.Stmt Span) (ss : statement.Stmts Span) (ps : Tokens) → Stands (stmts_layout (statement.more s ss)) ps → (q : Placed Span) × (qs : Tokens) × (ps ≡ q ∷ qs) × ((stmt_mark s).from ≡ q.mark.from)
  list_begins = spots.list_begins p program written file from to name is_name f

  -- what stands in front of it
  opens : (k : TokenKind) → F (stmt_mark (element x).stmt).from k → IsOpen k
  opens k may = elim may [
    | inl token ↦
        (let ends = token_there p file (stmt_mark (element x).stmt).from k f.text f.items f.is_text f.lexes token in
        let b = list_begins (element x).stmt (element x).rest held.among.part held.among.stands in
        let whole : all ≡ held.among.front ++ b.0 ∷ (b.1 ++ held.among.back) = held.among.whole ∙ ap (λ y. held.among.front ++ (y ++ held.among.back)) b.2 in
        open_front k held.among.front (in_front f.text f.items 0 f.text held.among.front b.0 (b.1 ++ held.among.back) k (text_tiled f.text f.items f.lexes) whole
        (subst (λ n. ending_at n f.items ≡ Some k) b.3 ends)) held.front)
    | inr other ↦ absurd (omega (arith, other.1, spots.value_narrow p program written file from to name is_name f, value_behind))
  ]
    where
      value_behind : (stmt_mark (element x).stmt).from ≤ (exp_mark x.value).from
      value_behind = spots.value_behind p program written file from to name is_name f

  -- ---- the initializer

  module _ (piece : Rewritten (tree.Exp Span)) (moves : Moves p file from to name x piece) where
    steps : Stepped nowhere_weaves false (stands.first ∷ stands.run) piece.changes (toks piece.tree)
    steps = exp_steps itself (choices p file from to name x (of_piece p file from to name x)) nowhere nowhere_weaves (fit (of_piece p file from to name x) refl) tt (at_value x).context value (at_value x).base x.value piece (stands.first ∷ stands.run) moves
        (subst (λ l. Stands l (stands.first ∷ stands.run)) (sym (spans_from-span (at_value x).base (exp_layout x.value))) stands.stands)

    pub init_core : Core (with_changes f.text (exp_mark x.value) piece.changes) (toks piece.tree)
    init_core = subst (λ s. Core (with_changes f.text s piece.changes) (toks piece.tree)) (sym (exp_mark_is x.value (stands.first ∷ stands.run) stands.stands))
        (moved_core f.text stands.first stands.run piece.changes (toks piece.tree) (exp_last x.value).kind stands.place (piece_ends stands) (exp_last x.value).no_dot steps (piece_begins stands) (exp_head piece.tree))

    pub init_ends : token_beside init_core.last (Mark Semicolon) ≡ true
    init_ends =
        let same : init_core.last ≡ (exp_last piece.tree).kind = some_kind init_core.last (exp_last piece.tree).kind (sym init_core.last_is ∙ (exp_last piece.tree).is) in
        ap (λ k. token_beside k (Mark Semicolon)) same ∙ (exp_last piece.tree).semicolon

  -- ---- the list

  module _ (named_type : IsNamedType f.type.tree) where
    puts_weave : (n : ℕ) (c : Context) (base : ℕ) (s : statement.Stmt Span) (ss : statement.Stmts Span) (o : Rewritten (statement.Stmts Span)) (ps : Tokens) → s ≡ (element x).stmt
        → Puts p file from to name x f.text f.items f.type n c base s ss o → Stands (spans_from itself base (stmts_layout (statement.more s ss))) ps → Weaves F f.text no_indent ps o.changes (stmts_toks o.tree) no_indent
    puts_weave n c base s ss o ps is puts h = by_place (list_begins s ss ps (subst (λ l. Stands l ps) (spans_from-span base (stmts_layout (statement.more s ss))) h))
      where
        rest_cs : List Change
        rest_cs = puts.first.changes ++ puts.rest.changes

        rest_ts : List Token
        rest_ts = stmt_toks puts.first.tree ++ stmts_toks puts.rest.tree

        stepped : Stepped W true ps rest_cs rest_ts
        stepped = both_steps ps puts.first.changes puts.rest.changes (stmt_toks puts.first.tree) (stmts_toks puts.rest.tree) h
            (λ qs k. stmt_steps itself (choices p file from to name x (from_there p file from to name x)) (spotted (name_spot p file from to name x f.items)) W (fit (from_there p file from to name x) refl) name_suits n c base s puts.first qs puts.first_is k)
            (λ qs k. last_steps qs puts.rest.changes (stmts_toks puts.rest.tree) k
            (λ rs l. list_steps itself (choices p file from to name x (from_there p file from to name x)) nowhere W (fit (from_there p file from to name x) refl) tt (n + locals_in s) (after n c s) base ss puts.rest rs puts.rest_is l))

        within : (stmt_mark s).from ≤ length f.text
        within = subst (λ (y : statement.Stmt Span). (stmt_mark y).from ≤ length f.text) (sym is) (spots.stmt_within p program written file from to name is_name f)

        by_place : (q : Placed Span) × (qs : Tokens) × (ps ≡ q ∷ qs) × ((stmt_mark s).from ≡ q.mark.from) → Weaves F f.text no_indent ps o.changes (stmts_toks o.tree) no_indent
        by_place b =
            let core = init_core puts.piece puts.moves in
            let text : List ℕ = declaration_text name (printed_type f.type.tree) (with_changes f.text (exp_mark x.value) puts.piece.changes) puts.gap in
            let may = declaration_precedes (stmt_mark s) name is_name f.type.tree named_type puts.piece.tree (with_changes f.text (exp_mark x.value) puts.piece.changes) puts.gap core (init_ends puts.piece puts.moves) (gap_blank f.text (stmt_mark s).from puts.gap within puts.is_gap)
            F f.text (stmt_mark s).from (λ k at. opens k (subst (λ (y : statement.Stmt Span). F (stmt_mark y).from k) is at)) in
            let inner = run_weaves F f.text b.0 b.1 rest_cs rest_ts (subst (λ y. Stepped W true y rest_cs rest_ts) b.2 stepped) in
            let whole = precedes F f.text b.0 b.1 text rest_cs (stmt_toks (declaration name (stmt_mark s) f.type.tree puts.piece.tree)) rest_ts no_indent
            (subst (λ m. MayPrecede F f.text m text (stmt_toks (declaration name (stmt_mark s) f.type.tree puts.piece.tree))) b.3 may) inner in
            let placed = subst (λ m. Weaves F f.text anything (b.0 ∷ b.1) (change (record { from = m; to = m }) text ∷ rest_cs) (stmt_toks (declaration name (stmt_mark s) f.type.tree puts.piece.tree) ++ rest_ts) no_indent) (sym b.3) whole in
            let here : Weaves F f.text no_indent (b.0 ∷ b.1) (change (before (stmt_mark s)) text ∷ rest_cs) (stmt_toks (declaration name (stmt_mark s) f.type.tree puts.piece.tree) ++ rest_ts) no_indent =
            λ more ds us w. woven_so no_indent anything tt (placed more ds us w) in
            subst (λ y. Weaves F f.text no_indent y o.changes (stmts_toks o.tree) no_indent) (sym b.2)
            (subst (λ cs. Weaves F f.text no_indent (b.0 ∷ b.1) cs (stmts_toks o.tree) no_indent) (sym puts.changes_are)
            (subst (λ (t : statement.Stmts Span). Weaves F f.text no_indent (b.0 ∷ b.1) (change (before (stmt_mark s)) text ∷ rest_cs) (stmts_toks t) no_indent) (sym puts.tree_is) here))

    pub extract_weaves : (n : ℕ) (c : Context) (base : ℕ) (xs : statement.Stmts Span) (o : Rewritten (statement.Stmts Span)) (ps : Tokens) → Extracts p file from to name x f.text f.items f.type n c base xs o
        → Stands (spans_from itself base (stmts_layout xs)) ps → Weaves F f.text no_indent ps o.changes (stmts_toks o.tree) no_indent
    extract_weaves n c base statement.end o ps w h = absurd w
    extract_weaves n c base (statement.more s ss) o ps w h = puts_weave n c base s ss o ps w.0.2 w.1 h
