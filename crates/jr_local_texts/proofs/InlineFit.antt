-- Inline local's spots suit the files' texts.
use Rattle.std.proofs.Common.{◌≡◌, inl, inr, ℕ, ◌+◌, Bool, true, false, Option, Some, refl, sym, ap, ◌∙◌, subst, arith}
use Rattle.std.specs.Prelude.{nat_eq, slice_get}
use Rattle.std.proofs.lemmas.Bool.{eqb-true}
use Rattle.jr_text.specs.declared.spans.Span.{Span}
use Rattle.jr_ast.specs.Tree as tree
use Rattle.jr_ast.specs.StatementTree as statement
use Rattle.jr_ast.specs.Marks.{exp_mark}
use Rattle.jr_grammar.specs.Layout.{itself}
use Rattle.jr_grammar.specs.Shape.{ShapedBehind}
use Rattle.jr_grammar.specs.StatementShape.{StmtShaped, StmtsShaped}
use Rattle.jr_table.specs.Binding.{value}
use Rattle.jr_table.specs.Context.{Context, after, locals_in}
use Rattle.jr_members.specs.WrittenLaws.{MembersAreWritten}
use Rattle.jr_bind.specs.Programs.{File, Program, IsProgram}
use Rattle.jr_images.specs.TextLaws.{RowsAreNamed}
use Rattle.jr_rewrite.specs.Rewritten.{Rewritten}
use Rattle.jr_rewrite.specs.Spots.{Asks, level, Takes, nowhere, spotted}
use Rattle.jr_rewrite.specs.SuitableSpots.{AreSuitableSpots, SpotsSuit}
use Rattle.jr_rewrite.specs.Woven.{Fronts, Weaves}
use Rattle.jr_rewrite.proofs.ExpressionShapes.{exp_shaped}
use Rattle.jr_plan.specs.Transforms.{Transform, choosing_of}
use Rattle.jr_local.specs.Scopes.{in_copy}
use Rattle.jr_local.specs.Inlining.{Declared, Naming, at_init, known_at}
use Rattle.jr_local.specs.Inlined.{Copy, in_parentheses, Becomes, left_out, choices, IsCopyAt, read_spot, Inlines, list_spot, spots_if, Found, Fronted, inline_local}
use Rattle.jr_moved_texts.specs.Moved.{nowhere_weaves}
use Rattle.jr_moved_texts.proofs.StatementShapes.{list_shaped}
use Rattle.jr_local_texts.proofs.ExtractLists.{no_higher}
use Rattle.jr_local_texts.proofs.ValueShapes.{shaped_more}
use Rattle.jr_local_texts.proofs.ShapedBodies.{list_element, list_shaped as body_list_shaped}
use Rattle.jr_local_texts.proofs.InlineSpots as spots
use Rattle.jr_local_texts.proofs.InlineLists as lists

module _ (p : Program Span) (program : IsProgram itself (λ m b. Unit {0}) p) (written : MembersAreWritten Span) (names : RowsAreNamed Span) (file at : ℕ) (f : Found p file at) where
  abbrev t : Declared p file f.asked.key
  t = f.asked.declared

  abbrev F : Fronts
  F = Fronted p file at f.asked f.type f.text f.items f.copies f.gone file

  -- the initializer is shaped, in its body's list
  init_shaped : ShapedBehind false t.init
  init_shaped = (subst StmtShaped t.declares.is (list_element t.body.at t.body.list t.declares.way (body_list_shaped p program written file t.body t.has)).0)

  -- a copy is shaped, behind a minus or not
  copy_shaped : (n : Naming t) (copy : Copy) → IsCopyAt p file at f.asked f.type n copy → ShapedBehind false copy.of.tree
  copy_shaped n copy is =
      exp_shaped itself (choices p file at f.asked f.type (in_copy p.rows f.asked.key f.type (known_at t n))) nowhere nowhere_weaves (spots.fit p program written names file at f (in_copy p.rows f.asked.key f.type (known_at t n)) refl) tt false
      (at_init t).context value (at_init t).base t.init copy.of is.1 init_shaped

  read_takes : (k : Asks) (e : tree.Exp Span) (o : Rewritten (tree.Exp Span)) (copy : Copy) (least : ℕ) → k ≡ level least → Becomes f.text f.items (exp_mark t.init) k copy o → Takes k e → Takes k o.tree
  read_takes k e o copy least is (inl d) h = subst (λ (z : Rewritten (tree.Exp Span)). Takes k z.tree) (sym d.1) d.0
  read_takes k e o copy least is (inr d) h =
      subst (λ (z : Rewritten (tree.Exp Span)). Takes k z.tree) (sym d.1)
      (subst (λ q. Takes q (in_parentheses copy)) (sym is) (omega (arith, no_higher e, subst (λ q. Takes q e) is h)))

  read_shaped : (k : Asks) (e : tree.Exp Span) (o : Rewritten (tree.Exp Span)) (copy : Copy) → Becomes f.text f.items (exp_mark t.init) k copy o → ShapedBehind false copy.of.tree → (minus : Bool) → ShapedBehind minus o.tree
  read_shaped k e o copy (inl d) h minus = subst (λ (z : Rewritten (tree.Exp Span)). ShapedBehind minus z.tree) (sym d.1) (shaped_more minus copy.of.tree h)
  read_shaped k e o copy (inr d) h minus = subst (λ (z : Rewritten (tree.Exp Span)). ShapedBehind minus z.tree) (sym d.1) h

  pub read_suits : AreSuitableSpots itself (choices p file at f.asked f.type (left_out p file at f.asked f.type)) (Weaves F f.text) (read_spot p file at f.asked f.type f.text f.items f.copies)
  read_suits = record {
    part = λ k c r base e o ps s h. spots.read_weaves p program written names file at f k c base e o ps s h;
    part_takes = λ k c r base e o s h. read_takes k e o s.2 s.1.1 s.1.2 s.5 h;
    part_shaped = λ k c r base e o s minus h.
        (let m = spots.copy_of p program written names file at f s.0 s.2 s.3 s.4 in
        read_shaped k e o s.2 s.5 (copy_shaped m.0 s.2 m.1) minus);
    list = λ n c base xs o ps s h. absurd s;
    list_shaped = λ n c base xs o s h. absurd s;
    members = λ base of xs o ps s h. absurd s;
    members_shaped = λ base of xs o s nested old new becomes h. absurd s;
    whole = λ base outer y o ps s h. absurd s;
    whole_shaped = λ base outer y o s nested h. absurd s;
  }

  inline_shaped : (n : ℕ) (c : Context) (base : ℕ) (xs : statement.Stmts Span) (o : Rewritten (statement.Stmts Span)) → Inlines p file at f.asked f.type f.text f.items f.copies f.gone n c base xs o → StmtsShaped xs → StmtsShaped o.tree
  inline_shaped n c base statement.end o w h = absurd w
  inline_shaped n c base (statement.more s ss) o w h =
      subst (λ (z : Rewritten (statement.Stmts Span)). StmtsShaped z.tree) (sym w.1.is)
      (list_shaped itself (choices p file at f.asked f.type (left_out p file at f.asked f.type)) (spotted (read_spot p file at f.asked f.type f.text f.items f.copies)) (Weaves F f.text) (spots.fit p program written names file at f (left_out p file at f.asked f.type) refl) read_suits
      (n + locals_in s) (after n c s) base ss w.1.rest w.1.rest_is h.1)

  pub list_suits : AreSuitableSpots itself (choices p file at f.asked f.type (left_out p file at f.asked f.type)) (Weaves F f.text) (list_spot p file at f.asked f.type f.text f.items f.copies f.gone)
  list_suits = record {
    part = λ k c r base e o ps s h. absurd s;
    part_takes = λ k c r base e o s h. absurd s;
    part_shaped = λ k c r base e o s minus h. absurd s;
    list = λ n c base xs o ps s h. lists.inline_weaves p program written names file at f read_suits n c base xs o ps s h;
    list_shaped = λ n c base xs o s h. inline_shaped n c base xs o s h;
    members = λ base of xs o ps s h. absurd s;
    members_shaped = λ base of xs o s nested old new becomes h. absurd s;
    whole = λ base outer y o ps s h. absurd s;
    whole_shaped = λ base outer y o s nested h. absurd s;
  }

  abbrev transform : Transform
  transform = (inline_local p file at).transform f

  -- of each file
  pub spots_suit : (n : ℕ) (g : File Span) → slice_get p.files n ≡ Some g → SpotsSuit itself (choosing_of p transform) (Weaves (transform.fronts n) g.text) (transform.spots n)
  spots_suit n g e = by (nat_eq n file) refl
    where
      by : (b : Bool) → nat_eq n file ≡ b → SpotsSuit itself (choosing_of p transform) (Weaves (Fronted p file at f.asked f.type f.text f.items f.copies f.gone n) g.text) (spots_if p file at f.asked f.type f.text f.items f.copies b f.gone)
      by false other = tt
      by true same =
          let is : n ≡ file = eqb-true n file same in
          let found : g ≡ f.is_text.0 = same_file g f.is_text.0 (sym e ∙ ap (slice_get p.files) is ∙ f.is_text.1) in
          let text : f.text ≡ g.text = sym f.is_text.2 ∙ ap (λ (y : File Span). y.text) (sym found) in
          subst (λ m. AreSuitableSpots itself (choices p file at f.asked f.type (left_out p file at f.asked f.type)) (Weaves (Fronted p file at f.asked f.type f.text f.items f.copies f.gone m) g.text) (list_spot p file at f.asked f.type f.text f.items f.copies f.gone)) (sym is)
          (subst (λ u. AreSuitableSpots itself (choices p file at f.asked f.type (left_out p file at f.asked f.type)) (Weaves F u) (list_spot p file at f.asked f.type f.text f.items f.copies f.gone)) text list_suits)
        where
          same_file : (y z : File Span) → (let a : Option (File Span) = Some y in a ≡ Some z) → y ≡ z
          same_file y z e = cc
