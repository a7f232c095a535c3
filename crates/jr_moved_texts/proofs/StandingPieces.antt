-- An expression that stands among a text's tokens: its run, and what stands behind it.
use Rattle.std.proofs.Common.{◌≡◌, ℕ, ◌+◌, ◌<◌, true, List, [], ◌∷◌, ◌++◌, length, drop, Option, Some, refl, sym, ap, ◌∙◌, subst, arith}
use Rattle.std.specs.Str.{chars}
use Rattle.std.proofs.lemmas.List.{append_assoc, drop_at}
use Rattle.jr_text.specs.declared.spans.Span.{Span}
use Rattle.jr_lex.specs.declared.items.Item.{Item}
use Rattle.jr_lex.specs.declared.items.ItemKind.TheVariants.{Token as TokenItem}
use Rattle.jr_lex.specs.declared.items.TokenKind.{TokenKind}
use Rattle.jr_lex.specs.declared.items.TokenKind.TheVariants.{Mark}
use Rattle.jr_lex.specs.declared.items.Symbol.TheVariants.{Slash}
use Rattle.jr_lex.specs.Lexes.{Lexes}
use Rattle.jr_lex.specs.Beside.{EndsBefore, token_beside}
use Rattle.jr_ast.specs.Tree as tree
use Rattle.jr_grammar.specs.Tokens.{Placed, placed_of, kinds}
use Rattle.jr_grammar.specs.Layout.{itself}
use Rattle.jr_grammar.specs.Stands.{Tokens, last_to, Stands}
use Rattle.jr_grammar.specs.Spelling.{toks}
use Rattle.jr_grammar.specs.ExpressionLayout.{exp_layout}
use Rattle.jr_grammar.proofs.Layouts.{stands_laid, spans_from-span}
use Rattle.jr_grammar.proofs.ExpressionLayouts.{exp_laid}
use Rattle.jr_rewrite.specs.Woven.{Tiled}
use Rattle.jr_rewrite.proofs.Stepping.{IsSome}
use Rattle.jr_rewrite.proofs.ExpressionSteps.{exp_some}
use Rattle.jr_moved_texts.specs.Spaces.{kind_of, first_kind, last_kind, space, beginning_at}
use Rattle.jr_moved_texts.specs.Moved.{anywhere, EndsWith, RunStands}
use Rattle.jr_moved_texts.proofs.Tiling.{text_tiled}
use Rattle.jr_moved_texts.proofs.Boundaries.{Behind, behind_run, ends_behind, FromToken, from_token}
use Rattle.jr_moved_texts.proofs.ExpressionEnds.{exp_head, exp_last, ends_with}

-- The expression's tokens, among those of the text.
pub record PieceStands (text : List ℕ) (items : List Item) (e : tree.Exp Span) : Type 0 where
  pub front : Tokens
  pub first : Placed Span
  pub run : Tokens
  pub back : Tokens
  pub whole : placed_of text items ≡ front ++ first ∷ (run ++ back)
  pub stands : Stands (exp_layout e) (first ∷ run)
  pub place : RunStands text first run
  pub narrow : first.mark.from < last_to (first ∷ run)
  pub behind : Behind 0 text items (last_to (first ∷ run))

last_append : (ps qs : Tokens) (q : Placed Span) → last_to (ps ++ q ∷ qs) ≡ last_to (q ∷ qs)
last_append [] qs q = refl
last_append (p ∷ []) qs q = refl
last_append (p ∷ r ∷ ps) qs q = last_append (r ∷ ps) qs q

-- from the text's start on
behind_all : (text : List ℕ) (items : List Item) (front : Tokens) (p : Placed Span) (run back : Tokens) → Tiled anywhere 0 text items → placed_of text items ≡ front ++ p ∷ (run ++ back) → Behind 0 text items (last_to (p ∷ run))
behind_all text items [] p run back tiled placed = behind_run text items 0 text p run back tiled placed
behind_all text items (q ∷ front) p run back tiled placed =
    subst (Behind 0 text items) (last_append (q ∷ front) run p)
    (behind_run text items 0 text q (front ++ p ∷ run) back tiled (placed ∙ ap (λ x. q ∷ x) (sym (append_assoc front (p ∷ run) back))))

pub piece_stands : (text : List ℕ) (items : List Item) (e : tree.Exp Span) (front part back : Tokens) → Lexes text items → placed_of text items ≡ front ++ (part ++ back) → Stands (exp_layout e) part → PieceStands text items e
piece_stands text items e front part back lexes whole stands =
    let some : IsSome part = exp_some itself 0 e part (subst (λ x. Stands x part) (sym (spans_from-span 0 (exp_layout e))) stands) in
    let p = some.0 in
    let run = some.1 in
    let all : placed_of text items ≡ front ++ p ∷ (run ++ back) = whole ∙ ap (λ x. front ++ (x ++ back)) some.2 in
    let tiled = text_tiled text items lexes in
    let t : FromToken text 0 text p (run ++ back) = from_token text items 0 text front p (run ++ back) tiled all in
    let here : 0 + length t.front ≡ length t.front = omega arith in
    let b = behind_run text t.items_there (0 + length t.front) t.rest p run back t.tiled t.placed in
    record {
      front = front;
      first = p;
      run = run;
      back = back;
      whole = all;
      stands = subst (Stands (exp_layout e)) some.2 stands;
      place = record {
        pre = t.front;
        post = t.rest;
        items = t.items_there;
        more = back;
        whole = t.whole;
        tiled = subst (λ n. Tiled anywhere n t.rest t.items_there) here t.tiled;
        placed = t.placed;
        from = t.stands ∙ here;
      };
      narrow = omega (arith, b.beyond, t.stands);
      behind = behind_all text items front p run back tiled all;
    }

-- ---- its first and last token

pub some_kind : (k u : TokenKind) → (let a : Option TokenKind = Some k in a ≡ Some u) → k ≡ u
some_kind k u e = cc

pub piece_kinds : (e : tree.Exp Span) (ps : Tokens) → Stands (exp_layout e) ps → kinds ps ≡ toks e
piece_kinds e ps h = stands_laid (exp_layout e) ps h ∙ exp_laid e

pub piece_ends : {text : List ℕ} {items : List Item} {e : tree.Exp Span} (s : PieceStands text items e) → EndsWith (exp_last e).kind (s.first ∷ s.run)
piece_ends {e = e} s = ends_with (exp_last e).kind (s.first ∷ s.run) (ap last_kind (piece_kinds e (s.first ∷ s.run) s.stands) ∙ (exp_last e).is)

pub piece_begins : {text : List ℕ} {items : List Item} {e : tree.Exp Span} (s : PieceStands text items e) → token_beside (Mark Slash) (kind_of s.first.token) ≡ true
piece_begins {e = e} s =
    let same : kind_of s.first.token ≡ (exp_head e).kind = some_kind (kind_of s.first.token) (exp_head e).kind (ap first_kind (piece_kinds e (s.first ∷ s.run) s.stands) ∙ (exp_head e).is) in
    ap (token_beside (Mark Slash)) same ∙ (exp_head e).slash

-- ---- behind it

-- a token ends there where no space is put
pub ends_there : {text : List ℕ} {items : List Item} {to : ℕ} → Behind 0 text items to → (k : TokenKind) → token_beside k (Mark Slash) ≡ true → (ahead rest : List ℕ) → text ≡ ahead ++ rest → length ahead ≡ to
    → space (Some k) (beginning_at to items) ≡ [] → EndsBefore (TokenItem k) (chars rest)
ends_there {text} {items} {to} b k slash ahead rest e long none =
    let same : rest ≡ b.rest = sym (drop_at ahead rest to long) ∙ ap (drop to) (sym e ∙ b.whole) ∙ drop_at b.front b.rest to (omega (arith, b.stands)) in
    subst (λ r. EndsBefore (TokenItem k) (chars r)) (sym same) (ends_behind k b.items_behind to b.rest b.tiled slash (ap (space (Some k)) (sym b.same) ∙ none))
