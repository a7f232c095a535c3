-- An expression of a body begins within its member, so two members of a file hold no one span.
use Rattle.std.proofs.Common.{◌≡◌, ℕ, ◌<◌, ◌≤◌, [], ◌++◌, Some, refl, sym, ap, ◌∙◌, subst, inl, arith}
use Rattle.std.specs.Prelude.{slice_get}
use Rattle.std.proofs.lemmas.Option.{same_Some}
use Rattle.jr_text.specs.declared.spans.Span.{Span}
use Rattle.jr_lex.specs.Places.{ItemsPlaced}
use Rattle.jr_ast.specs.Tree as tree
use Rattle.jr_ast.specs.MemberTree as syntax
use Rattle.jr_ast.specs.Marks.{exp_mark}
use Rattle.jr_grammar.specs.Tokens.{placed_of}
use Rattle.jr_grammar.specs.Layout.{itself}
use Rattle.jr_grammar.specs.Stands.{Tokens, first_from, last_to, span_of, Stands, StandInOrder}
use Rattle.jr_grammar.specs.ExpressionLayout.{exp_layout}
use Rattle.jr_grammar.specs.MemberLayout.{unit_layouts}
use Rattle.jr_grammar.proofs.Layouts.{spans_from-span, all_spans_from-span}
use Rattle.jr_table.specs.Decls.{MemberKey}
use Rattle.jr_table.specs.DeclaredItems.{declarations_of}
use Rattle.jr_table.specs.Errors.{Part, class_part, member_part, InClasses}
use Rattle.jr_members.specs.WrittenMembers.{WrittenMember, written_members}
use Rattle.jr_members.specs.WrittenLaws.{MembersAreWritten}
use Rattle.jr_members.proofs.Anywhere.{found_classes}
use Rattle.jr_bind.specs.Bounds.{Bound}
use Rattle.jr_bind.specs.Programs.{Program, units_of}
use Rattle.jr_program_laws.proofs.TokenOrder.{StartsIn, Rising, in_front as starts_in_front, in_back, from_first, to_last, piece_rises, whole_piece}
use Rattle.jr_program_laws.proofs.ItemTokens.{tokens_rise}
use Rattle.jr_program_laws.proofs.PartTokens.{StandsPart, unit_parts}
use Rattle.jr_program_laws.proofs.FileOrder.{unit_order}
use Rattle.jr_program_laws.proofs.MeansOnce.{declares_once}
use Rattle.jr_rewrite.proofs.ExpressionSteps.{exp_some}
use Rattle.jr_pieces.specs.Ways.{ListWay}
use Rattle.jr_pieces.specs.Nearest.{nearest}
use Rattle.jr_local.specs.Bodies.{begins, Body, body_of, HasBody}
use Rattle.jr_local_texts.proofs.StandingParts.{Among, among_first, among_both, stmt_among}
use Rattle.jr_local_texts.proofs.StandingBodies.{exp_mark_is, no_body, body_stands, contains_at, file_of_unit}
use Rattle.jr_one_plans.proofs.Beside.{IsWhole}
use Rattle.jr_local_plans.proofs.OneMember.{HoldsByte, Has, classes_once}

-- ---- tokens

starts_there : (f : tree.Exp Span) (ps : Tokens) (a : Among (Stands (exp_layout f)) ps) → StartsIn ps (exp_mark f).from
starts_there f ps a =
    let some = exp_some itself 0 f a.part (subst (λ l. Stands l a.part) (sym (spans_from-span 0 (exp_layout f))) a.stands) in
    let first : (exp_mark f).from ≡ some.0.mark.from = ap (λ (s : Span). s.from) (exp_mark_is f a.part a.stands) ∙ ap first_from some.2 in
    subst (λ (n : ℕ). StartsIn ps n) (sym first)
    (subst (λ (qs : Tokens). StartsIn qs some.0.mark.from) (sym a.whole)
    (in_back a.front (a.part ++ a.back) some.0.mark.from (starts_in_front a.part a.back some.0.mark.from (subst (λ (qs : Tokens). StartsIn qs some.0.mark.from) (sym some.2) (inl refl)))))

-- a body's part, that holds what begins in its tokens
holds_byte : (k : MemberKey) (base : ℕ) (part : Part Span) (bound : Bound) (b : Body) → body_of k base part bound ≡ Some b → (ps : Tokens) → Rising ps → StandsPart part ps → (at : ℕ) → StartsIn ps at → HoldsByte at part
holds_byte k base (class_part c) bound b e ps rising h at s = absurd (no_body b e)
holds_byte k base (member_part (syntax.field m mods t w init)) bound b e ps rising h at s = absurd (no_body b e)
holds_byte k base (member_part (syntax.inner m c)) bound b e ps rising h at s = absurd (no_body b e)
holds_byte k base (member_part (syntax.method m mods t w qs body)) bound b e ps rising h at s =
    let mark : m ≡ span_of ps = h.mark in
    (subst (λ (z : Span). z.from ≤ at) (sym mark) (from_first ps rising at s), subst (λ (z : Span). at < z.to) (sym mark) (to_last ps rising at s))
holds_byte k base (member_part (syntax.constructor m mods w qs args body)) bound b e ps rising h at s =
    let mark : m ≡ span_of ps = h.mark in
    (subst (λ (z : Span). z.from ≤ at) (sym mark) (from_first ps rising at s), subst (λ (z : Span). at < z.to) (sym mark) (to_last ps rising at s))

module _ (items_placed : ItemsPlaced) (written : MembersAreWritten Span) (p : Program Span) (program : IsWhole p) where
  pub begins_within : (file : ℕ) (b : Body) (h : HasBody p file b) {f : tree.Exp Span} → ListWay f b.list → HoldsByte (exp_mark f).from h.member.part
  begins_within file b h {f} d =
      let w = h.member in
      let is = (written begins (units_of p) p.rows program.are_rows program.rows).each w (contains_at (written_members begins p.rows (units_of p)) h.number w h.written) in
      let g = file_of_unit p w.file is.unit is.stands in
      let r = program.reads w.file g.0 g.1 in
      let all = placed_of g.0.text r.items in
      let stands : StandInOrder (unit_layouts is.unit) all = subst (λ u. StandInOrder (unit_layouts u) all) g.2 (subst (λ x. StandInOrder x all) (all_spans_from-span 0 (unit_layouts g.0.unit)) r.spans) in
      let some = unit_parts all (declarations_of begins (units_of p)) (λ j n q. (n ≡ w.base) × (q ≡ w.part)) is.unit w.key is.writes all (whole_piece all) stands in
      let part = some.2.1 in
      let there : StandsPart w.part part.tokens = subst (λ q. StandsPart q part.tokens) some.2.0.1 part.stands in
      let e = body_stands w.key w.base w.part b.bound b h.is part.tokens there d in
      let value = among_both part.tokens e.among (λ qs k. among_first qs k (stmt_among f (nearest begins b.at d).stmt (nearest begins b.at d).way)) in
      holds_byte w.key w.base w.part b.bound b h.is part.tokens (piece_rises all part.tokens (tokens_rise g.0.text items_placed r.items r.lexes) part.piece) there (exp_mark f).from (starts_there f part.tokens value)

  -- two members of one file that hold one byte are one
  pub member_once : (v w : WrittenMember Span) (i j : ℕ) → slice_get (written_members begins p.rows (units_of p)) i ≡ Some v → slice_get (written_members begins p.rows (units_of p)) j ≡ Some w → v.file ≡ w.file → (at : ℕ) → HoldsByte at v.part → HoldsByte at w.part → v ≡ w
  member_once v w i j first second same at x y =
      let are = written begins (units_of p) p.rows program.are_rows program.rows in
      let here = contains_at (written_members begins p.rows (units_of p)) i v first in
      let there = contains_at (written_members begins p.rows (units_of p)) j w second in
      let a = are.each v here in
      let b = are.each w there in
      let u = a.unit in
      let unit : u ≡ b.unit = same_Some u b.unit (sym a.stands ∙ ap (slice_get (units_of p)) same ∙ b.stands) in
      let g = file_of_unit p v.file u a.stands in
      let r = program.reads v.file g.0 g.1 in
      let all = placed_of g.0.text r.items in
      let stands : StandInOrder (unit_layouts u) all = subst (λ z. StandInOrder (unit_layouts z) all) g.2 (subst (λ z. StandInOrder z all) (all_spans_from-span 0 (unit_layouts g.0.unit)) r.spans) in
      let order = unit_order u all (last_to all) (tokens_rise g.0.text items_placed r.items r.lexes) (λ f. omega arith) stands in
      let ds = declarations_of begins (units_of p) in
      let other = subst (λ (z : syntax.Unit Span). InClasses begins ds (λ k n q. (n ≡ w.base) × (q ≡ w.part)) (begins z.mark 0) z.classes w.key) (sym unit) b.writes in
      are.one v w here there (classes_once ds at (declares_once [] ds program.clean) (begins u.mark 0) u.classes 0 (last_to all) v.key w.key order
      (found_classes begins ds (Has ds at) v.base v.part (begins u.mark 0) u.classes v.key x a.writes) (found_classes begins ds (Has ds at) w.base w.part (begins u.mark 0) u.classes w.key y other))
