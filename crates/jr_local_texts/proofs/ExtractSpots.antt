-- Extract local: the name in the expression's place, and the declaration in front of the statement.
use Rattle.std.proofs.Common.{◌≡◌, inl, inr, ℕ, ◌+◌, ◌<◌, ◌≤◌, false, List, [], ◌∷◌, ◌++◌, length, Option, Some, refl, sym, ap, ◌∙◌, subst, arith}
use Rattle.std.proofs.lemmas.List.{append_assoc, length-append}
use Rattle.jr_text.specs.declared.spans.Span.{Span}
use Rattle.jr_lex.specs.declared.items.Item.{Item}
use Rattle.jr_lex.specs.declared.items.ItemKind.TheVariants.{Token as TokenItem}
use Rattle.jr_lex.specs.declared.items.TokenKind.{TokenKind}
use Rattle.jr_lex.specs.declared.items.TokenKind.TheVariants.{Word, Mark}
use Rattle.jr_lex.specs.declared.items.Symbol.TheVariants.{OpenBrace, CloseBrace, Semicolon}
use Rattle.jr_lex.specs.Characters.{first_passes}
use Rattle.jr_lex.specs.Lexes.{Lexes}
use Rattle.jr_lex.specs.Replacing.{IsName}
use Rattle.jr_lex.specs.Beside.{EndsBefore}
use Rattle.jr_lex.proofs.CutLaws.{one_lexing}
use Rattle.jr_ast.specs.StatementTree as statement
use Rattle.jr_ast.specs.Marks.{exp_mark, stmt_mark}
use Rattle.jr_grammar.specs.Tokens.{word, Placed, placed_of}
use Rattle.jr_grammar.specs.Layout.{itself, spans_from}
use Rattle.jr_grammar.specs.Stands.{Tokens, first_from, last_to, span_of, Stands}
use Rattle.jr_grammar.specs.ExpressionLayout.{exp_layout}
use Rattle.jr_grammar.specs.StatementLayout.{stmts_layout}
use Rattle.jr_grammar.proofs.Layouts.{spans_from-span}
use Rattle.jr_members.specs.WrittenLaws.{MembersAreWritten}
use Rattle.jr_bind.specs.Programs.{File, Program, IsProgram}
use Rattle.jr_rewrite.specs.Woven.{Fronts, Weaves, anything, token_to}
use Rattle.jr_rewrite.specs.Rewritten.{change}
use Rattle.jr_rewrite.proofs.Skipping.{head_same, tail_same}
use Rattle.jr_rewrite.proofs.Stepping.{IsSome}
use Rattle.jr_rewrite.proofs.ExpressionSteps.{exp_some}
use Rattle.jr_local.specs.Texts.{HasText, EndsToken}
use Rattle.jr_local.specs.Selecting.{Selected, element}
use Rattle.jr_local.specs.Extracted.{named, Found, Fronted}
use Rattle.jr_moved_texts.specs.Spaces.{kind_of, ending_at, spaced}
use Rattle.jr_moved_texts.specs.Moved.{EndsWith}
use Rattle.jr_moved_texts.proofs.Tiling.{text_tiled}
use Rattle.jr_moved_texts.proofs.Boundaries.{Behind, FromToken, from_token, behind_others}
use Rattle.jr_moved_texts.proofs.Putting.{MayPut, replaces}
use Rattle.jr_moved_texts.proofs.Spaced.{Fits, spaced_put}
use Rattle.jr_moved_texts.proofs.Cores.{name_core}
use Rattle.jr_moved_texts.proofs.StandingPieces.{PieceStands, piece_stands, ends_there}
use Rattle.jr_local_texts.proofs.StandingParts.{Among, among_first, LastIs, ListFront, ElementWithin, stmt_among, stmt_last}
use Rattle.jr_local_texts.proofs.StandingBodies.{exp_mark_is, stmt_mark_is, element_stands}

-- ---- what stands in front of a statement

-- the token kinds that may have anything behind them
pub data IsOpen : TokenKind → Type 0 where
  brace : IsOpen (Mark OpenBrace)
  closing : IsOpen (Mark CloseBrace)
  semicolon : IsOpen (Mark Semicolon)

pub open_front : (k : TokenKind) (ps : Tokens) → EndsWith k ps → LastIs ListFront ps → IsOpen k
open_front k [] e h = absurd e
open_front k (p ∷ q ∷ ps) e h = open_front k (q ∷ ps) e h
open_front k (p ∷ []) e h = elim h [
  | inl b ↦ subst IsOpen (sym (ap kind_of b) ∙ e) brace
  | inr c ↦ elim c [ inl b ↦ subst IsOpen (sym (ap kind_of b) ∙ e) closing | inr s ↦ subst IsOpen (sym (ap kind_of s) ∙ e) semicolon ]
]

pub never : (text : List ℕ) → first_passes (λ c. false) text ≡ false
never [] = refl
never (c ∷ cs) = refl

pub open_ends : (k : TokenKind) → IsOpen k → (other : List ℕ) → EndsBefore (TokenItem k) other
open_ends _ brace other = never other
open_ends _ closing other = never other
open_ends _ semicolon other = never other

-- a token that ends at the place, of a text by any of its items
pub token_there : (p : Program Span) (file at : ℕ) (k : TokenKind) (text : List ℕ) (items : List Item) → HasText p file text → Lexes text items → EndsToken p file at k → ending_at at items ≡ Some k
token_there p file at k text items has lexes h =
    let file_is : h.is_text.0 ≡ has.0 = same_item (h.is_text.0) has.0 (sym h.is_text.1 ∙ has.1) in
    let same : h.text ≡ text = sym h.is_text.2 ∙ ap (λ (f : File Span). f.text) file_is ∙ has.2 in
    let items_are : h.items ≡ items = one_lexing text h.items items (subst (λ t. Lexes t h.items) same h.lexes) lexes in
    subst (λ is. ending_at at is ≡ Some k) items_are h.ends
  where
    same_item : {X : Type 0} (x y : X) → (let a : Option X = Some x in a ≡ Some y) → x ≡ y
    same_item x y e = cc

-- ---- the expression and its statement in the file

module _ (p : Program Span) (program : IsProgram itself (λ m b. Unit {0}) p) (written : MembersAreWritten Span) (file from to : ℕ) (name : List ℕ) (is_name : IsName name) (f : Found p file from to name) where
  abbrev x : Selected p file from to
  x = f.selected

  abbrev F : Fronts
  F = Fronted p file from to name x file

  pub held : ElementWithin (element x) (placed_of f.text f.items)
  held = element_stands p program written file f.text f.items f.is_text f.lexes x.body x.has x.way

  -- the expression within its list
  value_among : Among (Stands (exp_layout x.value)) held.among.part
  value_among = among_first held.among.part held.among.stands (stmt_among x.value (element x).stmt (element x).way)

  value_whole : placed_of f.text f.items ≡ (held.among.front ++ value_among.front) ++ (value_among.part ++ (value_among.back ++ held.among.back))
  value_whole = held.among.whole ∙ ap (λ y. held.among.front ++ (y ++ held.among.back)) value_among.whole ∙ grouped held.among.front value_among.front value_among.part value_among.back held.among.back
    where
      grouped : (a b c d e : Tokens) → a ++ ((b ++ (c ++ d)) ++ e) ≡ (a ++ b) ++ (c ++ (d ++ e))
      grouped a b c d e = simp append_assoc

  pub value_stands : PieceStands f.text f.items x.value
  value_stands = piece_stands f.text f.items x.value (held.among.front ++ value_among.front) value_among.part (value_among.back ++ held.among.back) f.lexes value_whole value_among.stands

  value_mark : exp_mark x.value ≡ span_of (value_stands.first ∷ value_stands.run)
  value_mark = exp_mark_is x.value (value_stands.first ∷ value_stands.run) value_stands.stands

  pub value_narrow : (exp_mark x.value).from < (exp_mark x.value).to
  value_narrow = subst (λ (s : Span). s.from < s.to) (sym value_mark) value_stands.narrow

  -- ---- where the statement begins

  -- it begins where the list does, and in the text
  pub list_begins : (s : statement.Stmt Span) (ss : statement.Stmts Span) (ps : Tokens) → Stands (stmts_layout (statement.more s ss)) ps → (q : Placed Span) × (qs : Tokens) × (ps ≡ q ∷ qs) × ((stmt_mark s).from ≡ q.mark.from)
  list_begins s ss ps h = by h.front h.whole (stmt_last s h.front h.first) (ap (λ (m : Span). m.from) (stmt_mark_is s h.front h.first))
    where
      by : (front : Tokens) → ps ≡ front ++ h.back → LastIs ListFront front → (stmt_mark s).from ≡ first_from front → (q : Placed Span) × (qs : Tokens) × (ps ≡ q ∷ qs) × ((stmt_mark s).from ≡ q.mark.from)
      by [] e l m = absurd l
      by (q ∷ qs) e l m = (q, qs ++ h.back, e, m)

  -- the text from the statement on
  from_stmt : (q : Placed Span) × (qs : Tokens) × (held.among.part ≡ q ∷ qs) × ((stmt_mark (element x).stmt).from ≡ q.mark.from)
  from_stmt = list_begins (element x).stmt (element x).rest held.among.part held.among.stands

  there : FromToken f.text 0 f.text from_stmt.0 (from_stmt.1 ++ held.among.back)
  there = from_token f.text f.items 0 f.text held.among.front from_stmt.0 (from_stmt.1 ++ held.among.back) (text_tiled f.text f.items f.lexes)
      (held.among.whole ∙ ap (λ y. held.among.front ++ (y ++ held.among.back)) from_stmt.2)

  pub stmt_within : (stmt_mark (element x).stmt).from ≤ length f.text
  stmt_within = omega (arith, from_stmt.3, there.stands, ap length there.whole, length-append there.front there.rest)

  pub value_behind : (stmt_mark (element x).stmt).from ≤ (exp_mark x.value).from
  value_behind = by value_among.front value_among.part value_among.whole (exp_mark_is x.value value_among.part value_among.stands) (exp_some itself 0 x.value value_among.part (subst (λ l. Stands l value_among.part) (sym (spans_from-span 0 (exp_layout x.value))) value_among.stands))
    where
      by : (front part : Tokens) → held.among.part ≡ front ++ (part ++ value_among.back) → exp_mark x.value ≡ span_of part → IsSome part → (stmt_mark (element x).stmt).from ≤ (exp_mark x.value).from
      by [] part e mark some =
          let same : from_stmt.0 ≡ some.0 = head_same _ _ _ _ (sym from_stmt.2 ∙ e ∙ ap (λ y. y ++ value_among.back) some.2) in
          let begins_so : (exp_mark x.value).from ≡ some.0.mark.from = ap (λ (m : Span). m.from) mark ∙ ap first_from some.2 in
          omega (arith, from_stmt.3, begins_so, ap (λ (q : Placed Span). q.mark.from) same)
      by (q ∷ front) part e mark some =
          let begins_so : (exp_mark x.value).from ≡ some.0.mark.from = ap (λ (m : Span). m.from) mark ∙ ap first_from some.2 in
          let parts : from_stmt.0 ∷ from_stmt.1 ≡ q ∷ (front ++ ((some.0 ∷ some.1) ++ value_among.back)) = sym from_stmt.2 ∙ e ∙ ap (λ y. q ∷ (front ++ (y ++ value_among.back))) some.2 in
          let rest : from_stmt.1 ++ held.among.back ≡ front ++ some.0 ∷ (some.1 ++ (value_among.back ++ held.among.back)) = ap (λ y. y ++ held.among.back) (tail_same _ _ _ _ parts) ∙ grouped front (some.0 ∷ some.1) value_among.back held.among.back in
          let later = behind_others f.text there.items_there (0 + length there.front) there.rest from_stmt.0 front some.0 (some.1 ++ (value_among.back ++ held.among.back)) there.tiled (there.placed ∙ ap (λ y. from_stmt.0 ∷ y) rest) in
          omega (arith, from_stmt.3, begins_so, there.stands, later)
        where
          grouped : (a b c d : Tokens) → (a ++ (b ++ c)) ++ d ≡ a ++ (b ++ (c ++ d))
          grouped a b c d = simp append_assoc

  -- ---- the name

  fits : Fits F f.text f.items (exp_mark x.value) Word
  fits = record {
    front = λ k may. elim may [
      | inl token ↦ inl (token_there p file (exp_mark x.value).from k f.text f.items f.is_text f.lexes token)
      | inr named ↦ absurd (omega (arith, value_narrow, named.1))
    ];
    fronts = inr (refl, refl, refl);
    back = λ ahead rest e long none.
        ends_there (subst (λ (s : Span). Behind 0 f.text f.items s.to) (sym value_mark) value_stands.behind) Word refl ahead rest e long none;
  }

  pub name_weaves : (base : ℕ) (ps : Tokens) → Stands (spans_from itself base (exp_layout x.value)) ps
      → Weaves F f.text anything ps (named name f.items (exp_mark x.value)).changes (word name ∷ []) (token_to (last_to ps))
  name_weaves base ps h = by_some ps (exp_some itself base x.value ps h) (subst (λ l. Stands l ps) (spans_from-span base (exp_layout x.value)) h)
    where
      by_some : (ps : Tokens) → IsSome ps → Stands (exp_layout x.value) ps → Weaves F f.text anything ps (change (exp_mark x.value) (spaced f.items (exp_mark x.value) (word name ∷ []) name) ∷ []) (word name ∷ []) (token_to (last_to ps))
      by_some ps some stands =
          subst (λ qs. Weaves F f.text anything qs (change (exp_mark x.value) (spaced f.items (exp_mark x.value) (word name ∷ []) name) ∷ []) (word name ∷ []) (token_to (last_to qs))) (sym some.2)
          (of_run some.0 some.1 (exp_mark_is x.value (some.0 ∷ some.1) (subst (Stands (exp_layout x.value)) some.2 stands)))
        where
          of_run : (q : Placed Span) (qs : Tokens) → exp_mark x.value ≡ span_of (q ∷ qs)
              → Weaves F f.text anything (q ∷ qs) (change (exp_mark x.value) (spaced f.items (exp_mark x.value) (word name ∷ []) name) ∷ []) (word name ∷ []) (token_to (last_to (q ∷ qs)))
          of_run q qs mark =
              let put : MayPut F f.text (exp_mark x.value).from (exp_mark x.value).to (spaced f.items (exp_mark x.value) (word name ∷ []) name) (word name ∷ []) = spaced_put (name_core name is_name) fits in
              let there = subst (λ (s : Span). MayPut F f.text s.from s.to (spaced f.items (exp_mark x.value) (word name ∷ []) name) (word name ∷ [])) mark put in
              subst (λ (s : Span). Weaves F f.text anything (q ∷ qs) (change s (spaced f.items (exp_mark x.value) (word name ∷ []) name) ∷ []) (word name ∷ []) (token_to (last_to (q ∷ qs)))) (sym mark)
              (replaces F f.text q qs (spaced f.items (exp_mark x.value) (word name ∷ []) name) (word name ∷ []) there)
