-- Where the list of a body stands among its file's tokens.
use Rattle.std.proofs.Common.{◌≡◌, ◌⊎◌, inl, inr, ℕ, List, [], ◌∷◌, ◌++◌, Option, Some, None, refl, sym, ap, ◌∙◌, subst}
use Rattle.std.specs.Prelude.{slice_get, Contains, option_map}
use Rattle.std.proofs.lemmas.List.{append_assoc, append-nil}
use Rattle.std.proofs.lemmas.Option.{none-some, same_Some, slice_get_within, get_or_from_slice_get, slice_get-map}
use Rattle.jr_text.specs.declared.spans.Span.{Span}
use Rattle.jr_lex.specs.declared.items.Item.{Item}
use Rattle.jr_lex.specs.declared.items.Symbol.TheVariants.{OpenBrace, CloseBrace, Semicolon}
use Rattle.jr_lex.specs.Lexes.{Lexes}
use Rattle.jr_lex.proofs.CutLaws.{one_lexing}
use Rattle.jr_ast.specs.declared.operators.BumpOp.TheVariants.{PreInc, PreDec, PostInc, PostDec}
use Rattle.jr_ast.specs.Tree as tree
use Rattle.jr_ast.specs.StatementTree as statement
use Rattle.jr_ast.specs.MemberTree as syntax
use Rattle.jr_ast.specs.Marks.{exp_mark, stmt_mark}
use Rattle.jr_grammar.specs.Tokens.{symbol, placed_of}
use Rattle.jr_grammar.specs.Layout.{itself}
use Rattle.jr_grammar.specs.Stands.{Tokens, IsAlone, InOrder, span_of, Stands, StandInOrder}
use Rattle.jr_grammar.specs.ExpressionLayout.{exp_layout}
use Rattle.jr_grammar.specs.StatementLayout.{stmt_layout, stmts_layout}
use Rattle.jr_grammar.specs.MemberLayout.{parent_call_layout, unit_layouts}
use Rattle.jr_grammar.proofs.Layouts.{all_spans_from-span}
use Rattle.jr_table.specs.Decls.{MemberKey}
use Rattle.jr_table.specs.DeclaredItems.{declarations_of}
use Rattle.jr_table.specs.Errors.{Part, class_part, member_part}
use Rattle.jr_members.specs.WrittenMembers.{written_members}
use Rattle.jr_members.specs.WrittenLaws.{MembersAreWritten}
use Rattle.jr_bind.specs.Bounds.{Bound}
use Rattle.jr_bind.specs.Programs.{File, Program, IsProgram, units_of}
use Rattle.jr_program_laws.proofs.TokenOrder.{whole_piece}
use Rattle.jr_program_laws.proofs.PartTokens.{StandsPart, unit_parts}
use Rattle.jr_pieces.specs.Ways.{ListWay}
use Rattle.jr_pieces.specs.Standings.{Standing}
use Rattle.jr_pieces.specs.Nearest.{Element, nearest}
use Rattle.jr_local.specs.Bodies.{begins, Body, body_of, HasBody}
use Rattle.jr_local.specs.Texts.{HasText}
use Rattle.jr_local_texts.proofs.StandingParts.{among_first, among_rest, LastIs, FirstIs, ListFront, ListBack, last_behind, first_before, ElementAmong, ElementWithin, braced, list_element}

-- ---- marks

pub exp_mark_is : (e : tree.Exp Span) (ps : Tokens) → Stands (exp_layout e) ps → exp_mark e ≡ span_of ps
exp_mark_is (tree.number m n) ps h = h.mark
exp_mark_is (tree.truth m b) ps h = h.mark
exp_mark_is (tree.null m) ps h = h.mark
exp_mark_is (tree.string m s) ps h = h.mark
exp_mark_is (tree.name m w) ps h = h.mark
exp_mark_is (tree.field m e w) ps h = h.mark
exp_mark_is (tree.super_field m w) ps h = h.mark
exp_mark_is (tree.this m) ps h = h.mark
exp_mark_is (tree.class_literal m t) ps h = h.mark
exp_mark_is (tree.call m t w es) ps h = h.mark
exp_mark_is (tree.super_call m w es) ps h = h.mark
exp_mark_is (tree.create m t es) ps h = h.mark
exp_mark_is (tree.paren m e) ps h = h.mark
exp_mark_is (tree.cast m t e) ps h = h.mark
exp_mark_is (tree.unary m o e) ps h = h.mark
exp_mark_is (tree.bump m PreInc e) ps h = h.mark
exp_mark_is (tree.bump m PreDec e) ps h = h.mark
exp_mark_is (tree.bump m PostInc e) ps h = h.mark
exp_mark_is (tree.bump m PostDec e) ps h = h.mark
exp_mark_is (tree.binary m o l r) ps h = h.mark
exp_mark_is (tree.assign m t e) ps h = h.mark
exp_mark_is (tree.compound m o t e) ps h = h.mark

pub stmt_mark_is : (s : statement.Stmt Span) (ps : Tokens) → Stands (stmt_layout s) ps → stmt_mark s ≡ span_of ps
stmt_mark_is (statement.local m f t w e) ps h = h.mark
stmt_mark_is (statement.eval m e) ps h = h.mark
stmt_mark_is (statement.branch m c s o) ps h = h.mark
stmt_mark_is (statement.loop m c s) ps h = h.mark
stmt_mark_is (statement.return m None) ps h = h.mark
stmt_mark_is (statement.return m (Some e)) ps h = h.mark
stmt_mark_is (statement.block m b) ps h = h.mark
stmt_mark_is (statement.sync m e b) ps h = h.mark
stmt_mark_is (statement.empty m) ps h = h.mark

-- ---- a list behind a brace and what a constructor begins with

no_call_or_end : (args : Option (tree.Exps Span)) (ps : Tokens) → Stands (parent_call_layout args) ps → (ps ≡ []) ⊎ LastIs ListFront ps
no_call_or_end None ps h = inl h
no_call_or_end (Some es) ps h =
    inr (subst (LastIs ListFront) (sym h.whole) (last_behind ListFront h.front h.back
    (subst (LastIs ListFront) (sym h.rest.whole) (last_behind ListFront h.rest.front h.rest.back
    (subst (LastIs ListFront) (sym h.rest.rest.whole) (last_behind ListFront h.rest.rest.front h.rest.rest.back
    (subst (LastIs ListFront) (sym h.rest.rest.rest.whole) (last_behind ListFront h.rest.rest.rest.front h.rest.rest.rest.back (last_alone h.rest.rest.rest.back h.rest.rest.rest.rest)))))))))
  where
    last_alone : (ps : Tokens) → InOrder (IsAlone (symbol Semicolon)) (λ qs. qs ≡ []) ps → LastIs ListFront ps
    last_alone ps h =
        let whole : ps ≡ h.first.placed ∷ [] = h.whole ∙ (λ i. h.first.alone i ++ h.rest i) in
        subst (LastIs ListFront) (sym whole) (subst ListFront (sym h.first.is) (inr (inr refl)))

module _ {f : tree.Exp Span} {el : Element f} where
  enclosed : {C L : Tokens → Type 0} (ps : Tokens) → InOrder (IsAlone (symbol OpenBrace)) (InOrder C (InOrder L (InOrder (IsAlone (symbol CloseBrace)) (λ qs. qs ≡ [])))) ps
      → ((qs : Tokens) → C qs → (qs ≡ []) ⊎ LastIs ListFront qs) → ((qs : Tokens) → L qs → ElementAmong el qs) → ElementWithin el ps
  enclosed ps h begin go =
      let inner = h.rest.rest in
      let e = go inner.front inner.first in
      record {
        among = among_rest ps h (λ qs k. among_rest qs k (λ rs l. among_first rs l (λ us i. (go us i).among)));
        front = front_is e.among.front e.front h.rest.front (begin h.rest.front h.rest.first) h.front h.first.alone;
        back = back_is e.among.back e.back inner.back inner.rest;
      }
    where
      open_is : (ys : Tokens) → ys ≡ h.first.placed ∷ [] → LastIs ListFront ys
      open_is ys is = subst (LastIs ListFront) (sym is) (subst ListFront (sym h.first.is) (inl refl))

      front_is : (xs : Tokens) → (xs ≡ []) ⊎ LastIs ListFront xs → (cs : Tokens) → (cs ≡ []) ⊎ LastIs ListFront cs → (ys : Tokens) → ys ≡ h.first.placed ∷ [] → LastIs ListFront (ys ++ (cs ++ xs))
      front_is xs (inr some) cs c ys is = last_behind ListFront ys (cs ++ xs) (last_behind ListFront cs xs some)
      front_is xs (inl none) cs (inr some) ys is = subst (λ x. LastIs ListFront (ys ++ (cs ++ x))) (sym none) (last_behind ListFront ys (cs ++ []) (subst (LastIs ListFront) (sym (append-nil cs)) some))
      front_is xs (inl none) cs (inl neither) ys is = subst (LastIs ListFront) (sym (append-nil ys) ∙ (λ i. ys ++ (sym neither i ++ sym none i))) (open_is ys is)

      back_is : (xs : Tokens) → (xs ≡ []) ⊎ FirstIs ListBack xs → (ys : Tokens) → InOrder (IsAlone (symbol CloseBrace)) (λ qs. qs ≡ []) ys → FirstIs ListBack (xs ++ ys)
      back_is xs (inr some) ys i = first_before ListBack xs ys some
      back_is xs (inl none) ys i =
          subst (λ x. FirstIs ListBack (x ++ ys)) (sym none) (subst (FirstIs ListBack) (sym (i.whole ∙ ap (λ x. x ++ i.back) i.first.alone)) i.first.is)

  through : {P Q : Tokens → Type 0} (ps : Tokens) → InOrder P Q ps → ((qs : Tokens) → Q qs → ElementWithin el qs) → ElementWithin el ps
  through ps h go =
      let e = go h.back h.rest in
      record { among = among_rest ps h (λ qs k. (go qs k).among); front = last_behind ListFront h.front e.among.front e.front; back = e.back }

-- ---- members

pub no_body : (b : Body) → (let none : Option Body = None in none ≡ Some b) → ⊥
no_body b e = cc

pub same_body : (a b : Body) → (let o : Option Body = Some a in o ≡ Some b) → a ≡ b
same_body a b e = cc

pub body_stands : (k : MemberKey) (base : ℕ) (part : Part Span) (bound : Bound) (b : Body) → body_of k base part bound ≡ Some b → (ps : Tokens) → StandsPart part ps
    → {f : tree.Exp Span} (d : ListWay f b.list) → ElementWithin (nearest begins b.at d) ps
body_stands k base (class_part c) bound b e ps h d = absurd (no_body b e)
body_stands k base (member_part (syntax.field m mods t w init)) bound b e ps h d = absurd (no_body b e)
body_stands k base (member_part (syntax.inner m c)) bound b e ps h d = absurd (no_body b e)
body_stands k base (member_part (syntax.method m mods t w qs body)) bound b e ps h {f} d =
    subst (λ (x : Body). (way : ListWay f x.list) → ElementWithin (nearest begins x.at way) ps) (same_body _ b e)
    (λ way. through ps h.parts (λ q1 h1. through q1 h1 (λ q2 h2. through q2 h2 (λ q3 h3. through q3 h3 (λ q4 h4. through q4 h4 (λ q5 h5. through q5 h5 (λ q6 h6. braced_list _ q6 h6 way))))))) d
  where
    braced_list : (at : Standing) (q : Tokens) → InOrder (IsAlone (symbol OpenBrace)) (InOrder (Stands (stmts_layout body)) (InOrder (IsAlone (symbol CloseBrace)) (λ qs. qs ≡ []))) q
        → (way : ListWay f body) → ElementWithin (nearest begins at way) q
    braced_list at q h way = braced q h (list_element at body way)
body_stands k base (member_part (syntax.constructor m mods w qs args body)) bound b e ps h {f} d =
    subst (λ (x : Body). (way : ListWay f x.list) → ElementWithin (nearest begins x.at way) ps) (same_body _ b e)
    (λ way. through ps h.parts (λ q1 h1. through q1 h1 (λ q2 h2. through q2 h2 (λ q3 h3. through q3 h3 (λ q4 h4. through q4 h4 (λ q5 h5. behind_call _ q5 h5 way)))))) d
  where
    behind_call : (at : Standing) (q : Tokens)
        → InOrder (IsAlone (symbol OpenBrace)) (InOrder (Stands (parent_call_layout args)) (InOrder (Stands (stmts_layout body)) (InOrder (IsAlone (symbol CloseBrace)) (λ qs. qs ≡ [])))) q
        → (way : ListWay f body) → ElementWithin (nearest begins at way) q
    behind_call at q h way = enclosed q h (no_call_or_end args) (list_element at body way)

-- ---- files

pub contains_at : {X : Type 0} (xs : List X) (n : ℕ) (x : X) → slice_get xs n ≡ Some x → Contains xs x
contains_at xs n x e = (n, slice_get_within xs n x e, get_or_from_slice_get xs n x x e)

-- the file that a unit is of
pub file_of_unit : (p : Program Span) (n : ℕ) (u : syntax.Unit Span) → slice_get (units_of p) n ≡ Some u → (f : File Span) × (slice_get p.files n ≡ Some f) × (f.unit ≡ u)
file_of_unit p n u e = of (slice_get p.files n) refl
  where
    is : (o : Option (File Span)) → slice_get p.files n ≡ o → option_map (λ (x : File Span). x.unit) o ≡ Some u
    is o there = sym (slice_get-map (λ (x : File Span). x.unit) p.files n ∙ ap (option_map (λ (x : File Span). x.unit)) there) ∙ e

    of : (o : Option (File Span)) → slice_get p.files n ≡ o → (f : File Span) × (slice_get p.files n ≡ Some f) × (f.unit ≡ u)
    of None none = absurd (none-some u (is None none))
    of (Some f) there = (f, there, same_Some f.unit u (is (Some f) there))

-- a file's text has these items, and they are what its unit was read from
pub unit_stands : (p : Program Span) → IsProgram itself (λ m b. Unit {0}) p → (file : ℕ) (text : List ℕ) (items : List Item) → HasText p file text → Lexes text items → (u : syntax.Unit Span) → slice_get (units_of p) file ≡ Some u
    → StandInOrder (unit_layouts u) (placed_of text items)
unit_stands p program file text items has lexes u e =
    let g = has.0 in
    let r = program.reads file g has.1 in
    let same : r.items ≡ items = one_lexing text r.items items (subst (λ t. Lexes t r.items) has.2 r.lexes) lexes in
    let found = file_of_unit p file u e in
    let unit : g.unit ≡ u = ap (λ (x : File Span). x.unit) (same_Some g found.0 (sym has.1 ∙ found.1)) ∙ found.2 in
    let there : StandInOrder (unit_layouts g.unit) (placed_of g.text r.items) = subst (λ x. StandInOrder x (placed_of g.text r.items)) (all_spans_from-span 0 (unit_layouts g.unit)) r.spans in
    subst (λ x. StandInOrder (unit_layouts x) (placed_of text items)) unit
    (subst (λ t. StandInOrder (unit_layouts g.unit) (placed_of t items)) has.2
    (subst (λ x. StandInOrder (unit_layouts g.unit) (placed_of g.text x)) same there))

-- The nearest element of an expression of a body, among its file's tokens.
pub element_stands : (p : Program Span) → IsProgram itself (λ m b. Unit {0}) p → MembersAreWritten Span → (file : ℕ) (text : List ℕ) (items : List Item) → HasText p file text → Lexes text items
    → (b : Body) → HasBody p file b → {f : tree.Exp Span} (d : ListWay f b.list) → ElementWithin (nearest begins b.at d) (placed_of text items)
element_stands p program written file text items has lexes b h d =
    let w = h.member in
    let is = (written begins (units_of p) p.rows program.are_rows program.rows).each w (contains_at (written_members begins p.rows (units_of p)) h.number w h.written) in
    let stands = unit_stands p program file text items has lexes is.unit (ap (slice_get (units_of p)) (sym h.in_file) ∙ is.stands) in
    let all = placed_of text items in
    let some = unit_parts all (declarations_of begins (units_of p)) (λ j n q. (n ≡ w.base) × (q ≡ w.part)) is.unit w.key is.writes all (whole_piece all) stands in
    let piece = some.2.1.piece in
    let e = body_stands w.key w.base w.part b.bound b h.is some.2.1.tokens (subst (λ q. StandsPart q some.2.1.tokens) some.2.0.1 some.2.1.stands) d in
    record {
      among = record {
        front = piece.front ++ e.among.front;
        part = e.among.part;
        back = e.among.back ++ piece.back;
        whole = piece.whole ∙ ap (λ x. piece.front ++ (x ++ piece.back)) e.among.whole ∙ grouped piece.front e.among.front e.among.part e.among.back piece.back;
        stands = e.among.stands;
      };
      front = last_behind ListFront piece.front e.among.front e.front;
      back = first_before ListBack e.among.back piece.back e.back;
    }
  where
    grouped : (a b c d e : Tokens) → a ++ ((b ++ (c ++ d)) ++ e) ≡ (a ++ b) ++ (c ++ (d ++ e))
    grouped a b c d e = simp append_assoc
