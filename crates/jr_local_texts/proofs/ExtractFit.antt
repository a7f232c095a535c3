-- Extract local's spots suit the files' texts.
use Rattle.std.proofs.Common.{◌≡◌, ℕ, ◌+◌, ◌≤◌, Bool, true, false, List, Option, Some, refl, sym, ap, ◌∙◌, subst}
use Rattle.std.specs.Prelude.{nat_eq, slice_get}
use Rattle.std.proofs.lemmas.Bool.{eqb-true}
use Rattle.jr_text.specs.declared.spans.Span.{Span}
use Rattle.jr_lex.specs.Replacing.{IsName}
use Rattle.jr_ast.specs.Tree as tree
use Rattle.jr_ast.specs.StatementTree as statement
use Rattle.jr_grammar.specs.Layout.{itself}
use Rattle.jr_grammar.specs.Shape.{sign_level, level_of, ShapedBehind}
use Rattle.jr_grammar.specs.StatementShape.{StmtShaped, StmtsShaped}
use Rattle.jr_table.specs.Binding.{value}
use Rattle.jr_table.specs.Context.{Context, after, locals_in}
use Rattle.jr_members.specs.WrittenLaws.{MembersAreWritten}
use Rattle.jr_bind.specs.Programs.{File, Program, IsProgram}
use Rattle.jr_images.specs.TextLaws.{RowsAreNamed}
use Rattle.jr_rewrite.specs.Rewritten.{Rewritten}
use Rattle.jr_rewrite.specs.Spots.{nowhere, spotted}
use Rattle.jr_rewrite.specs.SuitableSpots.{AreSuitableSpots, SpotsSuit}
use Rattle.jr_rewrite.specs.Woven.{Fronts, Weaves}
use Rattle.jr_rewrite.proofs.ExpressionShapes.{exp_shaped}
use Rattle.jr_plan.specs.Transforms.{Transform, choosing_of}
use Rattle.jr_local.specs.Selecting.{Selected, element, at_value}
use Rattle.jr_local.specs.Extracted.{choices, around, from_there, of_piece, name_spot, list_spot, spots_if, Moves, Puts, Extracts, Found, Fronted, extract_local}
use Rattle.jr_moved_texts.specs.Moved.{nowhere_weaves}
use Rattle.jr_moved_texts.proofs.StatementShapes.{stmt_shaped, list_shaped}
use Rattle.jr_local_texts.specs.Fitting.{IsNamedType}
use Rattle.jr_local_texts.proofs.ValueShapes.{ShapedThere, behind_minus, stmt_there}
use Rattle.jr_local_texts.proofs.ExtractLists as lists

module _ (p : Program Span) (program : IsProgram itself (λ m b. Unit {0}) p) (written : MembersAreWritten Span) (names : RowsAreNamed Span) (file from to : ℕ) (name : List ℕ) (is_name : IsName name)
    (f : Found p file from to name) (named_type : IsNamedType f.type.tree) where
  abbrev x : Selected p file from to
  x = f.selected

  abbrev F : Fronts
  F = Fronted p file from to name x file

  -- the expression is shaped where it stands, and so as an initializer
  piece_shaped : (s : statement.Stmt Span) → s ≡ (element x).stmt → StmtShaped s → (piece : Rewritten (tree.Exp Span)) → Moves p file from to name x piece → ShapedBehind false piece.tree
  piece_shaped s is h piece moves =
      let there : ShapedThere x.value = stmt_there x.value (element x).stmt (element x).way (subst StmtShaped is h) in
      exp_shaped itself (choices p file from to name x (of_piece p file from to name x)) nowhere nowhere_weaves (lists.fit p program written names file from to name is_name f (of_piece p file from to name x) refl) tt false (at_value x).context value (at_value x).base x.value piece moves
      (by there.minus there.shaped there.tight)
    where
      by : (minus : Bool) → ShapedBehind minus x.value → (minus ≡ true → sign_level ≤ level_of x.value) → ShapedBehind false x.value
      by false shaped tight = shaped
      by true shaped tight = behind_minus p.rows (of_piece p file from to name x) (λ (c : Context). p.super_at c.member) (at_value x).context value (at_value x).base x.value piece moves (tight refl) x.no_greatest shaped

  puts_shaped : (n : ℕ) (c : Context) (base : ℕ) (s : statement.Stmt Span) (ss : statement.Stmts Span) (o : Rewritten (statement.Stmts Span)) → s ≡ (element x).stmt
      → Puts p file from to name x f.text f.items f.type n c base s ss o → StmtsShaped (statement.more s ss) → StmtsShaped o.tree
  puts_shaped n c base s ss o is puts h =
      let fit = lists.fit p program written names file from to name is_name f (from_there p file from to name x) refl in
      subst StmtsShaped (sym puts.tree_is) (
        piece_shaped s is h.0 puts.piece puts.moves,
        (
          stmt_shaped itself (choices p file from to name x (from_there p file from to name x)) (spotted (name_spot p file from to name x f.items)) (lists.W p program written names file from to name is_name f) fit (lists.name_suits p program written names file from to name is_name f) n c base s puts.first puts.first_is h.0,
          list_shaped itself (choices p file from to name x (from_there p file from to name x)) nowhere (lists.W p program written names file from to name is_name f) fit tt (n + locals_in s) (after n c s) base ss puts.rest puts.rest_is h.1,
        ),
      )

  extract_shaped : (n : ℕ) (c : Context) (base : ℕ) (xs : statement.Stmts Span) (o : Rewritten (statement.Stmts Span)) → Extracts p file from to name x f.text f.items f.type n c base xs o → StmtsShaped xs → StmtsShaped o.tree
  extract_shaped n c base statement.end o w h = absurd w
  extract_shaped n c base (statement.more s ss) o w h = puts_shaped n c base s ss o w.0.2 w.1 h

  pub list_suits : AreSuitableSpots itself (choices p file from to name x (around p file from to name x)) (Weaves F f.text) (list_spot p file from to name x f.text f.items f.type)
  list_suits = record {
    part = λ k c r base e o ps s h. absurd s;
    part_takes = λ k c r base e o s h. absurd s;
    part_shaped = λ k c r base e o s minus h. absurd s;
    list = λ n c base xs o ps s h. lists.extract_weaves p program written names file from to name is_name f named_type n c base xs o ps s h;
    list_shaped = λ n c base xs o s h. extract_shaped n c base xs o s h;
    members = λ base of xs o ps s h. absurd s;
    members_shaped = λ base of xs o s nested old new becomes h. absurd s;
    whole = λ base outer y o ps s h. absurd s;
    whole_shaped = λ base outer y o s nested h. absurd s;
  }

  abbrev transform : Transform
  transform = (extract_local p file from to name).transform f

  -- of each file
  pub spots_suit : (n : ℕ) (g : File Span) → slice_get p.files n ≡ Some g → SpotsSuit itself (choosing_of p transform) (Weaves (transform.fronts n) g.text) (transform.spots n)
  spots_suit n g e = by (nat_eq n file) refl
    where
      by : (b : Bool) → nat_eq n file ≡ b → SpotsSuit itself (choosing_of p transform) (Weaves (Fronted p file from to name x n) g.text) (spots_if p file from to name x f.text f.items f.type b)
      by false other = tt
      by true same =
          let is : n ≡ file = eqb-true n file same in
          let found : g ≡ f.is_text.0 = same_file g f.is_text.0 (sym e ∙ ap (slice_get p.files) is ∙ f.is_text.1) in
          let text : f.text ≡ g.text = sym f.is_text.2 ∙ ap (λ (y : File Span). y.text) (sym found) in
          subst (λ m. AreSuitableSpots itself (choices p file from to name x (around p file from to name x)) (Weaves (Fronted p file from to name x m) g.text) (list_spot p file from to name x f.text f.items f.type)) (sym is)
          (subst (λ t. AreSuitableSpots itself (choices p file from to name x (around p file from to name x)) (Weaves F t) (list_spot p file from to name x f.text f.items f.type)) text list_suits)
        where
          same_file : (y z : File Span) → (let a : Option (File Span) = Some y in a ≡ Some z) → y ≡ z
          same_file y z e = cc
