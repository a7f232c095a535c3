-- Places of a text at which a token begins or ends: which items stand there.
use Rattle.std.proofs.Common.{◌≡◌, ◌≢◌, ℕ, ◌+◌, ◌<◌, ◌≤◌, ◌==◌, true, false, Bool, List, [], ◌∷◌, ◌++◌, length, Option, Some, None, refl, sym, ap, ◌∙◌, subst, arith}
use Rattle.std.specs.Prelude.{if◌then◌else◌}
use Rattle.std.specs.Str.{chars}
use Rattle.std.proofs.lemmas.Bool.{ne_eqb, eq-eqb, eqb-true, both_ways}
use Rattle.std.proofs.lemmas.List.{append_assoc, length-append}
use Rattle.std.proofs.lemmas.Str.{chars-nil, chars-append}
use Rattle.jr_text.specs.declared.spans.Span.{Span}
use Rattle.jr_lex.specs.declared.items.Item.{Item}
use Rattle.jr_lex.specs.declared.items.ItemKind.{ItemKind}
use Rattle.jr_lex.specs.declared.items.ItemKind.TheVariants.{Token as TokenItem, Blank, Comment}
use Rattle.jr_lex.specs.declared.items.TokenKind.{TokenKind}
use Rattle.jr_lex.specs.declared.items.TokenKind.TheVariants.{Word, Keyword, Int, Text, Mark}
use Rattle.jr_lex.specs.declared.items.Symbol.TheVariants.{Slash}
use Rattle.jr_lex.specs.Lexemes.{IsLexeme}
use Rattle.jr_lex.specs.Beside.{EndsBefore, token_beside}
use Rattle.jr_lex.proofs.BesideLaws.{lets_end}
use Rattle.jr_lex.proofs.OneLexeme.{comment_begins}
use Rattle.jr_lex.proofs.ScanMeaning.{no_empty}
use Rattle.jr_grammar.specs.Tokens.{Placed, placed_of}
use Rattle.jr_grammar.specs.Stands.{Tokens, last_to}
use Rattle.jr_rewrite.specs.Woven.{Tiled}
use Rattle.jr_rewrite.proofs.Skipping.{placed_at, placed_token, placed_blank, placed_comment, head_same, tail_same}
use Rattle.jr_moved_texts.specs.Spaces.{kind_of, token_in, ending_at, beginning_at, space}
use Rattle.jr_moved_texts.specs.Moved.{anywhere, EndsWith}
use Rattle.jr_moved_texts.proofs.Tiling.{some_lexeme}
use Rattle.jr_moved_texts.proofs.MovedRuns.{kind_there, not_before, no_tokens}

-- each item has a byte
pub some_width : (bs : List ℕ) → (chars bs ≡ [] → ⊥) → 0 < length bs
some_width [] h = absurd (h chars-nil)
some_width (b ∷ bs) h = omega arith

-- what an item that is a token is
pub token_place : (all : List ℕ) (i : Item) (is : List Item) (of : TokenKind) (q : Placed Span) (qs : Tokens) → i.kind ≡ TokenItem of → placed_of all (i ∷ is) ≡ q ∷ qs → (q.mark ≡ i.span) × (kind_of q.token ≡ of) × (placed_of all is ≡ qs)
token_place all i is of q qs kind placed =
    let whole = sym (placed_token all i is of kind) ∙ placed in
    let same : placed_at all i of ≡ q = head_same _ _ _ _ whole in (
      sym (ap (λ (x : Placed Span). x.mark) same),
      sym (ap (λ (x : Placed Span). kind_of x.token) same) ∙ kind_there all i.span of,
      tail_same _ _ _ _ whole,
    )

-- at the end of a text a token ends
ends_at_end : (k : TokenKind) → EndsBefore (TokenItem k) []
ends_at_end Word = refl
ends_at_end (Keyword k) = refl
ends_at_end (Int n) = refl
ends_at_end Text = tt
ends_at_end (Mark s) = refl

-- ---- behind a run

-- where a run of tokens ends, these items stand behind it
pub record Behind (at : ℕ) (bytes : List ℕ) (items : List Item) (to : ℕ) : Type 0 where
  pub front : List ℕ
  pub rest : List ℕ
  pub items_behind : List Item
  pub whole : bytes ≡ front ++ rest
  pub beyond : at < to
  pub stands : at + length front ≡ to
  pub tiled : Tiled anywhere to rest items_behind
  pub same : beginning_at to items ≡ beginning_at to items_behind

passes_over : (i : Item) (is : List Item) (to : ℕ) → i.span.from < to → beginning_at to (i ∷ is) ≡ beginning_at to is
passes_over i is to lt = ap (λ b. if b then token_in i.kind else beginning_at to is) (ne_eqb i.span.from to (λ e. omega (arith, lt, e)))

pub behind_run : (all : List ℕ) (items : List Item) (at : ℕ) (bytes : List ℕ) (p : Placed Span) (run qs : Tokens) → Tiled anywhere at bytes items → placed_of all items ≡ p ∷ (run ++ qs)
    → Behind at bytes items (last_to (p ∷ run))
behind_run all [] at bytes p run qs tiled placed = absurd (no_tokens p (run ++ qs) placed)
behind_run all (i ∷ is) at bytes p run qs tiled placed =
    by_kind i.kind refl (λ q rs same. behind_run all is (at + length tiled.0) tiled.1 q rs qs tiled.4 same)
  where
    f : List ℕ
    f = tiled.0

    r : List ℕ
    r = tiled.1

    from : i.span.from ≡ at
    from = ap (λ (s : Span). s.from) tiled.3.place

    wide : 0 < length f
    wide = some_width f (some_lexeme tiled.3)

    Again : Type 0
    Again = (q : Placed Span) (rs : Tokens) → placed_of all is ≡ q ∷ (rs ++ qs) → Behind (at + length tiled.0) tiled.1 is (last_to (q ∷ rs))

    further : (to : ℕ) → Behind (at + length tiled.0) tiled.1 is to → Behind at bytes (i ∷ is) to
    further to b = record {
      front = f ++ b.front;
      rest = b.rest;
      items_behind = b.items_behind;
      whole = tiled.2 ∙ ap (λ x. f ++ x) b.whole ∙ sym (append_assoc f b.front b.rest);
      beyond = omega (arith, b.beyond);
      stands = omega (arith, length-append f b.front, b.stands);
      tiled = b.tiled;
      same = passes_over i is to (omega (arith, from, b.beyond)) ∙ b.same;
    }

    by_run : Again → (of : TokenKind) (rs : Tokens) → (p.mark ≡ i.span) × (kind_of p.token ≡ of) × (placed_of all is ≡ rs ++ qs) → Behind at bytes (i ∷ is) (last_to (p ∷ rs))
    by_run again of [] h =
        let to : p.mark.to ≡ at + length f = ap (λ (s : Span). s.to) h.0 ∙ ap (λ (s : Span). s.to) tiled.3.place in
        record {
          front = f;
          rest = r;
          items_behind = is;
          whole = tiled.2;
          beyond = omega (arith, to, wide);
          stands = sym to;
          tiled = subst (λ n. Tiled anywhere n r is) (sym to) tiled.4;
          same = passes_over i is p.mark.to (omega (arith, from, to, wide));
        }
    by_run again of (q ∷ rs) h = further (last_to (q ∷ rs)) (again q rs h.2)

    by_kind : (of : ItemKind) → i.kind ≡ of → Again → Behind at bytes (i ∷ is) (last_to (p ∷ run))
    by_kind (TokenItem of) e again = by_run again of run (token_place all i is of p (run ++ qs) e placed)
    by_kind Blank e again = further (last_to (p ∷ run)) (again p run (sym (placed_blank all i is e) ∙ placed))
    by_kind Comment e again = further (last_to (p ∷ run)) (again p run (sym (placed_comment all i is e) ∙ placed))

-- the space between two tokens, or none
abbrev gap : Bool → List ℕ
gap b = if b then [] else 32 ∷ []

no_gap : (b : Bool) → gap b ≡ [] → b ≡ true
no_gap true h = refl
no_gap false h = absurd (let some : gap false ≡ [] = h in cc)

-- where no space is put, the one may stand directly in front of the other
pub beside_there : (k u : TokenKind) → space (Some k) (Some u) ≡ [] → token_beside k u ≡ true
beside_there k u h = no_gap (token_beside k u) h

-- a token that may have a comment behind it, and what begins there, ends there
pub ends_behind : (k : TokenKind) (items : List Item) (at : ℕ) (rest : List ℕ) → Tiled anywhere at rest items → token_beside k (Mark Slash) ≡ true → space (Some k) (beginning_at at items) ≡ [] → EndsBefore (TokenItem k) (chars rest)
ends_behind k [] at rest tiled slash none = subst (EndsBefore (TokenItem k)) (sym (ap chars tiled ∙ chars-nil)) (ends_at_end k)
ends_behind k (i ∷ is) at rest tiled slash none =
    subst (EndsBefore (TokenItem k)) (sym (ap chars tiled.2 ∙ chars-append tiled.0 tiled.1 tiled.3.is_text)) (by_kind i.kind refl)
  where
    f : List ℕ
    f = chars tiled.0

    r : List ℕ
    r = chars tiled.1

    lexeme : (of : ItemKind) → i.kind ≡ of → IsLexeme of f
    lexeme of e = subst (λ x. IsLexeme x f) e tiled.3.cut.taken.lexeme

    comment : (c : List ℕ) → IsLexeme Comment c → EndsBefore (TokenItem k) (c ++ r)
    comment [] h = absurd (no_empty Comment h)
    comment (c ∷ cs) h = subst (λ x. EndsBefore (TokenItem k) (x ∷ (cs ++ r))) (sym (comment_begins c cs h)) (lets_end (TokenItem k) (TokenItem (Mark Slash)) (47 ∷ []) (cs ++ r) slash refl)

    by_kind : (of : ItemKind) → i.kind ≡ of → EndsBefore (TokenItem k) (f ++ r)
    by_kind (TokenItem u) e =
        let begins : beginning_at at (i ∷ is) ≡ Some u =
        ap (λ b. if b then token_in i.kind else beginning_at at is) (eq-eqb i.span.from at (ap (λ (s : Span). s.from) tiled.3.place)) ∙ ap token_in e in
        lets_end (TokenItem k) (TokenItem u) f r (beside_there k u (sym (ap (space (Some k)) begins) ∙ none)) (lexeme (TokenItem u) e)
    by_kind Blank e = lets_end (TokenItem k) Blank f r refl (lexeme Blank e)
    by_kind Comment e = comment f (lexeme Comment e)

-- ---- in front of a token

pub ends_here : (i : Item) (is : List Item) (to : ℕ) (k : TokenKind) → i.span.to ≡ to → ending_at to (i ∷ is) ≡ Some k → token_in i.kind ≡ Some k
ends_here i is to k e h = sym (ap (λ b. if b then token_in i.kind else ending_at to is) (eq-eqb i.span.to to e)) ∙ h

pub ends_later : (i : Item) (is : List Item) (to : ℕ) (k : TokenKind) → i.span.to ≢ to → ending_at to (i ∷ is) ≡ Some k → ending_at to is ≡ Some k
ends_later i is to k ne h = sym (ap (λ b. if b then token_in i.kind else ending_at to is) (ne_eqb i.span.to to ne)) ∙ h

pub token_kind : (of : ItemKind) (k : TokenKind) → token_in of ≡ Some k → of ≡ TokenItem k
token_kind (TokenItem u) k e = (let same : u ≡ k = cc in ap TokenItem same)
token_kind Blank k e = absurd (let none : Option TokenKind = None in let no : none ≡ Some k = e in cc)
token_kind Comment k e = absurd (let none : Option TokenKind = None in let no : none ≡ Some k = e in cc)

-- no item from a place on ends there
none_ends : (xs : List Item) (n : ℕ) (bs : List ℕ) (place : ℕ) (u : TokenKind) → Tiled anywhere n bs xs → place ≤ n → ending_at place xs ≡ Some u → ⊥
none_ends [] n bs place u t le h = (let none : Option TokenKind = None in let no : none ≡ Some u = h in cc)
none_ends (x ∷ xs) n bs place u t le h =
    let w : 0 < length t.0 = some_width t.0 (some_lexeme t.3) in
    let end : x.span.to ≡ n + length t.0 = ap (λ (s : Span). s.to) t.3.place in
    none_ends xs (n + length t.0) t.1 place u t.4 (omega (arith, le)) (ends_later x xs place u (λ e. omega (arith, e, end, w, le)) h)

-- no token of those that begin with one ends where that begins
none_in_front : (all : List ℕ) (items : List Item) (at : ℕ) (bytes : List ℕ) (q : Placed Span) (qs : Tokens) (k : TokenKind) → Tiled anywhere at bytes items → placed_of all items ≡ q ∷ qs → ending_at q.mark.from items ≡ Some k → ⊥
none_in_front all [] at bytes q qs k tiled placed ends = no_tokens q qs placed
none_in_front all (i ∷ is) at bytes q qs k tiled placed ends = by_place (i.span.to == q.mark.from) refl (λ same h. none_in_front all is (at + length tiled.0) tiled.1 q qs k tiled.4 same h)
  where
    wide : 0 < length tiled.0
    wide = some_width tiled.0 (some_lexeme tiled.3)

    to : i.span.to ≡ at + length tiled.0
    to = ap (λ (s : Span). s.to) tiled.3.place

    from : i.span.from ≡ at
    from = ap (λ (s : Span). s.from) tiled.3.place

    Again : Type 0
    Again = placed_of all is ≡ q ∷ qs → ending_at q.mark.from is ≡ Some k → ⊥

    other : (of : ItemKind) → i.kind ≡ of → i.span.to ≢ q.mark.from → Again → ⊥
    other (TokenItem of) e ne again =
        let place = (token_place all i is of q qs e placed).0 in
        none_ends is (at + length tiled.0) tiled.1 q.mark.from k tiled.4 (omega (arith, ap (λ (s : Span). s.from) place, from)) (ends_later i is q.mark.from k ne ends)
    other Blank e ne again = again (sym (placed_blank all i is e) ∙ placed) (ends_later i is q.mark.from k ne ends)
    other Comment e ne again = again (sym (placed_comment all i is e) ∙ placed) (ends_later i is q.mark.from k ne ends)

    by_place : (b : Bool) → (i.span.to == q.mark.from) ≡ b → Again → ⊥
    by_place true e again =
        let same : i.span.to ≡ q.mark.from = eqb-true i.span.to q.mark.from e in
        let kind : i.kind ≡ TokenItem k = token_kind i.kind k (ends_here i is q.mark.from k same ends) in
        let place = (token_place all i is k q qs kind placed).0 in
        omega (arith, same, to, from, wide, ap (λ (s : Span). s.from) place)
    by_place false e again = other i.kind refl (λ same. both_ways (i.span.to == q.mark.from) e (eq-eqb i.span.to q.mark.from same)) again

-- a token stands behind others, and so behind the place
pub behind_others : (all : List ℕ) (items : List Item) (at : ℕ) (bytes : List ℕ) (p : Placed Span) (ps : Tokens) (q : Placed Span) (qs : Tokens) → Tiled anywhere at bytes items → placed_of all items ≡ p ∷ (ps ++ q ∷ qs) → at < q.mark.from
behind_others all [] at bytes p ps q qs tiled placed = absurd (no_tokens p (ps ++ q ∷ qs) placed)
behind_others all (i ∷ is) at bytes p ps q qs tiled placed = by_kind i.kind refl (λ r rs same. behind_others all is (at + length tiled.0) tiled.1 r rs q qs tiled.4 same)
  where
    wide : 0 < length tiled.0
    wide = some_width tiled.0 (some_lexeme tiled.3)

    Again : Type 0
    Again = (r : Placed Span) (rs : Tokens) → placed_of all is ≡ r ∷ (rs ++ q ∷ qs) → at + length tiled.0 < q.mark.from

    by_run : Again → (rs : Tokens) → placed_of all is ≡ rs ++ q ∷ qs → at < q.mark.from
    by_run again [] h = omega (arith, wide, not_before all is (at + length tiled.0) tiled.1 q qs tiled.4 h)
    by_run again (r ∷ rs) h = omega (arith, wide, again r rs h)

    by_kind : (of : ItemKind) → i.kind ≡ of → Again → at < q.mark.from
    by_kind (TokenItem of) e again = by_run again ps (token_place all i is of p (ps ++ q ∷ qs) e placed).2
    by_kind Blank e again = omega (arith, again p ps (sym (placed_blank all i is e) ∙ placed))
    by_kind Comment e again = omega (arith, again p ps (sym (placed_comment all i is e) ∙ placed))

-- The token that ends where another begins is the last of those in front of it.
pub in_front : (all : List ℕ) (items : List Item) (at : ℕ) (bytes : List ℕ) (ps : Tokens) (q : Placed Span) (qs : Tokens) (k : TokenKind) → Tiled anywhere at bytes items → placed_of all items ≡ ps ++ q ∷ qs
    → ending_at q.mark.from items ≡ Some k → EndsWith k ps
in_front all items at bytes [] q qs k tiled placed ends = none_in_front all items at bytes q qs k tiled placed ends
in_front all [] at bytes (p ∷ ps) q qs k tiled placed ends = absurd (no_tokens p (ps ++ q ∷ qs) placed)
in_front all (i ∷ is) at bytes (p ∷ ps) q qs k tiled placed ends = by_place (i.span.to == q.mark.from) refl (λ r rs same h. in_front all is (at + length tiled.0) tiled.1 (r ∷ rs) q qs k tiled.4 same h)
  where
    to : i.span.to ≡ at + length tiled.0
    to = ap (λ (s : Span). s.to) tiled.3.place

    Again : Type 0
    Again = (r : Placed Span) (rs : Tokens) → placed_of all is ≡ r ∷ (rs ++ q ∷ qs) → ending_at q.mark.from is ≡ Some k → EndsWith k (r ∷ rs)

    other_run : Again → (rs : Tokens) → i.span.to ≢ q.mark.from → placed_of all is ≡ rs ++ q ∷ qs → EndsWith k (p ∷ rs)
    other_run again [] ne h = absurd (none_in_front all is (at + length tiled.0) tiled.1 q qs k tiled.4 h (ends_later i is q.mark.from k ne ends))
    other_run again (r ∷ rs) ne h = again r rs h (ends_later i is q.mark.from k ne ends)

    other : (of : ItemKind) → i.kind ≡ of → i.span.to ≢ q.mark.from → Again → EndsWith k (p ∷ ps)
    other (TokenItem of) e ne again = other_run again ps ne (token_place all i is of p (ps ++ q ∷ qs) e placed).2
    other Blank e ne again = again p ps (sym (placed_blank all i is e) ∙ placed) (ends_later i is q.mark.from k ne ends)
    other Comment e ne again = again p ps (sym (placed_comment all i is e) ∙ placed) (ends_later i is q.mark.from k ne ends)

    this_run : (rs : Tokens) → placed_of all is ≡ rs ++ q ∷ qs → i.span.to ≡ q.mark.from → kind_of p.token ≡ k → EndsWith k (p ∷ rs)
    this_run [] h same is_k = is_k
    this_run (r ∷ rs) h same is_k = absurd (omega (arith, same, to, behind_others all is (at + length tiled.0) tiled.1 r rs q qs tiled.4 h))

    by_place : (b : Bool) → (i.span.to == q.mark.from) ≡ b → Again → EndsWith k (p ∷ ps)
    by_place true e again =
        let same : i.span.to ≡ q.mark.from = eqb-true i.span.to q.mark.from e in
        let kind : i.kind ≡ TokenItem k = token_kind i.kind k (ends_here i is q.mark.from k same ends) in
        let place = token_place all i is k p (ps ++ q ∷ qs) kind placed in
        this_run ps place.2 same place.1
    by_place false e again = other i.kind refl (λ same. both_ways (i.span.to == q.mark.from) e (eq-eqb i.span.to q.mark.from same)) again

-- ---- from a token on

-- a token stands at a place, with these behind it
pub record FromToken (all : List ℕ) (at : ℕ) (bytes : List ℕ) (p : Placed Span) (qs : Tokens) : Type 0 where
  pub front : List ℕ
  pub rest : List ℕ
  pub items_there : List Item
  pub whole : bytes ≡ front ++ rest
  pub stands : p.mark.from ≡ at + length front
  pub tiled : Tiled anywhere (at + length front) rest items_there
  pub placed : placed_of all items_there ≡ p ∷ qs

pub from_token : (all : List ℕ) (items : List Item) (at : ℕ) (bytes : List ℕ) (ps : Tokens) (p : Placed Span) (qs : Tokens) → Tiled anywhere at bytes items → placed_of all items ≡ ps ++ p ∷ qs → FromToken all at bytes p qs
from_token all [] at bytes [] p qs tiled placed = absurd (no_tokens p qs placed)
from_token all [] at bytes (r ∷ ps) p qs tiled placed = absurd (no_tokens r (ps ++ p ∷ qs) placed)
from_token all (i ∷ is) at bytes ps p qs tiled placed = by_kind i.kind refl (λ rs same. from_token all is (at + length tiled.0) tiled.1 rs p qs tiled.4 same)
  where
    f : List ℕ
    f = tiled.0

    Again : Type 0
    Again = (rs : Tokens) → placed_of all is ≡ rs ++ p ∷ qs → FromToken all (at + length tiled.0) tiled.1 p qs

    further : FromToken all (at + length tiled.0) tiled.1 p qs → FromToken all at bytes p qs
    further t =
        let long : at + length (f ++ t.front) ≡ at + length f + length t.front = omega (arith, length-append f t.front) in
        record {
          front = f ++ t.front;
          rest = t.rest;
          items_there = t.items_there;
          whole = tiled.2 ∙ ap (λ x. f ++ x) t.whole ∙ sym (append_assoc f t.front t.rest);
          stands = t.stands ∙ sym long;
          tiled = subst (λ n. Tiled anywhere n t.rest t.items_there) (sym long) t.tiled;
          placed = t.placed;
        }

    nothing : at + length (let none : List ℕ = [] in none) ≡ at
    nothing = omega arith

    by_run : Again → (of : TokenKind) → i.kind ≡ TokenItem of → (rs : Tokens) → placed_of all (i ∷ is) ≡ rs ++ p ∷ qs → FromToken all at bytes p qs
    by_run again of e [] h = record {
      front = [];
      rest = bytes;
      items_there = i ∷ is;
      whole = refl;
      stands = ap (λ (s : Span). s.from) ((token_place all i is of p qs e h).0) ∙ ap (λ (s : Span). s.from) tiled.3.place ∙ sym nothing;
      tiled = subst (λ n. Tiled anywhere n bytes (i ∷ is)) (sym nothing) tiled;
      placed = h;
    }
    by_run again of e (r ∷ rs) h = further (again rs (token_place all i is of r (rs ++ p ∷ qs) e h).2)

    by_kind : (of : ItemKind) → i.kind ≡ of → Again → FromToken all at bytes p qs
    by_kind (TokenItem of) e again = by_run again of e ps placed
    by_kind Blank e again = further (again ps (sym (placed_blank all i is e) ∙ placed))
    by_kind Comment e again = further (again ps (sym (placed_comment all i is e) ∙ placed))
