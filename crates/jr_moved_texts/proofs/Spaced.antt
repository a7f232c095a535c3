-- A text that is cut into tokens comes in place of a run, with a space on either side where its first
-- or last token would run on with what stands there.
use Rattle.std.proofs.Common.{◌≡◌, ◌⊎◌, inl, inr, ℕ, ◌==◌, true, false, Bool, List, [], ◌∷◌, ◌++◌, length, Option, Some, None, refl, sym, ap, ◌∙◌, subst}
use Rattle.std.specs.Prelude.{if◌then◌else◌}
use Rattle.std.specs.Str.{IsUtf8, chars}
use Rattle.std.proofs.lemmas.Bool.{both_ways}
use Rattle.std.proofs.lemmas.List.{append_assoc}
use Rattle.std.proofs.lemmas.Str.{chars-append}
use Rattle.jr_text.specs.declared.spans.Span.{Span}
use Rattle.jr_lex.specs.declared.items.Item.{Item}
use Rattle.jr_lex.specs.declared.items.ItemKind.{ItemKind}
use Rattle.jr_lex.specs.declared.items.ItemKind.TheVariants.{Token as TokenItem, Blank, Comment}
use Rattle.jr_lex.specs.declared.items.TokenKind.{TokenKind}
use Rattle.jr_lex.specs.Characters.{first_passes}
use Rattle.jr_lex.specs.Lexemes.{IsLexeme}
use Rattle.jr_lex.specs.Beside.{EndsBefore, token_beside}
use Rattle.jr_lex.specs.Near.{IsCut, EndsLine}
use Rattle.jr_lex.proofs.BesideLaws.{lets_end}
use Rattle.jr_lex.proofs.OneLexeme.{lexeme_cut, comment_cut}
use Rattle.jr_grammar.specs.Tokens.{Token}
use Rattle.jr_splice.specs.Cutting.{AreCutBefore}
use Rattle.jr_splice.proofs.Gluing.{Glued, glue}
use Rattle.jr_rewrite.proofs.Parts as part
use Rattle.jr_rewrite.specs.Woven.{Fronts, MayFront, YieldsAt}
use Rattle.jr_moved_texts.specs.Spaces.{first_kind, last_kind, space, spaced, ending_at, beginning_at}
use Rattle.jr_moved_texts.specs.Moved.{EndsThere}
use Rattle.jr_moved_texts.proofs.Putting.{MayPut}
use Rattle.jr_moved_texts.proofs.Boundaries.{beside_there}

-- ---- a text of tokens

-- In front of any text in front of which its last token ends the text is cut into the tokens; what may
-- have its first token directly behind it ends there; and it begins with no dot.
pub record Core (text : List ℕ) (ts : List Token) : Type 0 where
  pub head : TokenKind
  pub last : TokenKind
  pub head_is : first_kind ts ≡ Some head
  pub last_is : last_kind ts ≡ Some last
  pub glued : (new : List ℕ) (us : List Token) → Glued new us → EndsThere last (chars new) → Glued (text ++ new) (ts ++ us)
  pub ends : (new : List ℕ) (us : List Token) → Glued new us → EndsThere last (chars new) → (k : TokenKind) → token_beside k head ≡ true → EndsBefore (TokenItem k) (chars (text ++ new))
  pub no_dot : (new : List ℕ) (us : List Token) → Glued new us → EndsThere last (chars new) → first_passes (λ c. c == 46) (chars (text ++ new)) ≡ false

-- ---- spaces

space_text : IsUtf8 (32 ∷ [])
space_text = part.part_is_text part.space tt

space_lexeme : IsLexeme Blank (32 ∷ [])
space_lexeme = part.part_lexeme part.space tt

space_cut : AreCutBefore (record { kind = Blank; text = 32 ∷ [] } ∷ []) []
space_cut = (space_text, subst (λ f. IsCut Blank f []) (sym (part.part_has_chars part.space)) (lexeme_cut Blank (32 ∷ []) [] space_lexeme refl), tt)

pub space_glued : (text : List ℕ) (ts : List Token) → Glued text ts → Glued ((32 ∷ []) ++ text) ts
space_glued text ts g = glue (record { kind = Blank; text = 32 ∷ [] } ∷ []) [] text ts space_cut g tt

behind_space : (text : List ℕ) → chars ((32 ∷ []) ++ text) ≡ 32 ∷ chars text
behind_space text = chars-append (32 ∷ []) text space_text ∙ ap (λ c. c ++ chars text) (part.part_has_chars part.space)

-- a token ends in front of a space
pub ends_in_space : (k : TokenKind) (text : List ℕ) → EndsBefore (TokenItem k) (chars ((32 ∷ []) ++ text))
ends_in_space k text = subst (EndsBefore (TokenItem k)) (sym (behind_space text)) (lets_end (TokenItem k) Blank (32 ∷ []) (chars text) refl space_lexeme)

-- ---- what stands in front

-- each token that may stand there ends in front of the text, which begins with no dot
pub ends_yield : {F : Fronts} {at : ℕ} (old new : List ℕ) → ((k : TokenKind) → F at k → EndsBefore (TokenItem k) new) → first_passes (λ c. c == 46) new ≡ false → YieldsAt F at old new
ends_yield {F} {at} old new ends dot = record { cut = by_kind; no_dot = λ is. absurd (both_ways (first_passes (λ c. c == 46) new) dot is) }
  where
    by_kind : (k : ItemKind) (front : List ℕ) → MayFront F at k → EndsLine k old new → IsCut k front old → (k ≡ Blank) ⊎ IsCut k front new
    by_kind (TokenItem k) front may line c = inr (lexeme_cut (TokenItem k) front new c.taken.lexeme (ends k may))
    by_kind Blank front may line c = inl refl
    by_kind Comment front may line c = inr (comment_cut front old new line c)

-- ---- a text in place of a span

-- What is known of the place: which tokens may stand in front of it, that the last token of what comes
-- may stand where it ends, and that this ends there where no space is put.
pub record Fits (F : Fronts) (bytes : List ℕ) (items : List Item) (at : Span) (last : TokenKind) : Type 0 where
  pub front : (k : TokenKind) → F at.from k → (ending_at at.from items ≡ Some k) ⊎ ((other : List ℕ) → EndsBefore (TokenItem k) other)
  pub fronts : F at.to last
  pub back : (ahead rest : List ℕ) → bytes ≡ ahead ++ rest → length ahead ≡ at.to → space (Some last) (beginning_at at.to items) ≡ [] → EndsBefore (TokenItem last) (chars rest)

-- no space, or one
one_space : (t u : Option TokenKind) → (space t u ≡ []) ⊎ (space t u ≡ 32 ∷ [])
one_space None u = inl refl
one_space (Some t) None = inl refl
one_space (Some t) (Some u) = by (token_beside t u)
  where
    gap : Bool → List ℕ
    gap b = if b then [] else 32 ∷ []

    by : (b : Bool) → (gap b ≡ []) ⊎ (gap b ≡ 32 ∷ [])
    by true = inl refl
    by false = inr refl

module _ {F : Fronts} {bytes : List ℕ} {items : List Item} {at : Span} {text : List ℕ} {ts : List Token} (c : Core text ts) (fits : Fits F bytes items at c.last) where
  -- what stands behind the text
  record Back (new : List ℕ) (us : List Token) : Type 0 where
    tail : List ℕ
    is : space (last_kind ts) (beginning_at at.to items) ++ new ≡ tail
    glued : Glued tail us
    ends : EndsThere c.last (chars tail)

  ends_still : (rest new : List ℕ) → EndsBefore (TokenItem c.last) (chars rest) → YieldsAt F at.to (chars rest) (chars new) → EndsThere c.last (chars new)
  ends_still rest new ends y f lexeme =
      elim (y.cut (TokenItem c.last) f fits.fronts (λ comment line. absurd (no_comment comment)) (lexeme_cut (TokenItem c.last) f (chars rest) lexeme ends)) [
        | inl blank ↦ absurd (no_blank blank)
        | inr cut ↦ cut
      ]
    where
      no_comment : TokenItem c.last ≡ Comment → ⊥
      no_comment e = cc

      no_blank : TokenItem c.last ≡ Blank → ⊥
      no_blank e = cc

  back : (ahead rest new : List ℕ) (us : List Token) → bytes ≡ ahead ++ rest → length ahead ≡ at.to → Glued new us → YieldsAt F at.to (chars rest) (chars new) → Back new us
  back ahead rest new us e l g y = elim (one_space (last_kind ts) (beginning_at at.to items)) [
    | inl none ↦ record {
      tail = new;
      is = ap (λ s. s ++ new) none;
      glued = g;
      ends = ends_still rest new (fits.back ahead rest e l (ap (λ o. space o (beginning_at at.to items)) (sym c.last_is) ∙ none)) y;
    }
    | inr one ↦ record {
      tail = (32 ∷ []) ++ new;
      is = ap (λ s. s ++ new) one;
      glued = space_glued new us g;
      ends = λ f lexeme. lexeme_cut (TokenItem c.last) f (chars ((32 ∷ []) ++ new)) lexeme (ends_in_space c.last new);
    }
  ]

  -- with the space in front
  with_front : (s tail : List ℕ) (us : List Token) → (s ≡ []) ⊎ (s ≡ 32 ∷ []) → Glued tail us → EndsThere c.last (chars tail) → Glued (s ++ (text ++ tail)) (ts ++ us)
  with_front s tail us (inl none) g ends = subst (λ x. Glued (x ++ (text ++ tail)) (ts ++ us)) (sym none) (c.glued tail us g ends)
  with_front s tail us (inr one) g ends = subst (λ x. Glued (x ++ (text ++ tail)) (ts ++ us)) (sym one) (space_glued (text ++ tail) (ts ++ us) (c.glued tail us g ends))

  front_ends : (k : TokenKind) → F at.from k → (tail : List ℕ) (us : List Token) → Glued tail us → EndsThere c.last (chars tail)
      → EndsBefore (TokenItem k) (chars (space (ending_at at.from items) (first_kind ts) ++ (text ++ tail)))
  front_ends k may tail us g ends = elim (fits.front k may) [
    | inr any ↦ any (chars (space (ending_at at.from items) (first_kind ts) ++ (text ++ tail)))
    | inl there ↦ elim (one_space (ending_at at.from items) (first_kind ts)) [
      | inl none ↦ subst (λ x. EndsBefore (TokenItem k) (chars (x ++ (text ++ tail)))) (sym none)
          (c.ends tail us g ends k (beside_there k c.head ((λ i. space (sym there i) (sym c.head_is i)) ∙ none)))
      | inr one ↦ subst (λ x. EndsBefore (TokenItem k) (chars (x ++ (text ++ tail)))) (sym one) (ends_in_space k (text ++ tail))
    ]
  ]

  front_no_dot : (s tail : List ℕ) (us : List Token) → (s ≡ []) ⊎ (s ≡ 32 ∷ []) → Glued tail us → EndsThere c.last (chars tail) → first_passes (λ x. x == 46) (chars (s ++ (text ++ tail))) ≡ false
  front_no_dot s tail us (inl none) g ends = ap (λ x. first_passes (λ y. y == 46) (chars (x ++ (text ++ tail)))) none ∙ c.no_dot tail us g ends
  front_no_dot s tail us (inr one) g ends = ap (λ x. first_passes (λ y. y == 46) (chars (x ++ (text ++ tail)))) one ∙ ap (first_passes (λ y. y == 46)) (behind_space (text ++ tail))

  whole : (new tail : List ℕ) → space (last_kind ts) (beginning_at at.to items) ++ new ≡ tail → spaced items at ts text ++ new ≡ space (ending_at at.from items) (first_kind ts) ++ (text ++ tail)
  whole new tail e = parts (space (ending_at at.from items) (first_kind ts)) text (space (last_kind ts) (beginning_at at.to items)) new ∙ ap (λ x. space (ending_at at.from items) (first_kind ts) ++ (text ++ x)) e
    where
      parts : (a b d n : List ℕ) → (a ++ b ++ d) ++ n ≡ a ++ (b ++ (d ++ n))
      parts a b d n = simp append_assoc

  pub spaced_put : MayPut F bytes at.from at.to (spaced items at ts text) ts
  spaced_put = record {
    glued = λ ahead rest new us e l g y.
        (let b = back ahead rest new us e l g y in
        subst (λ x. Glued x (ts ++ us)) (sym (whole new b.tail b.is)) (with_front (space (ending_at at.from items) (first_kind ts)) b.tail us (one_space (ending_at at.from items) (first_kind ts)) b.glued b.ends));
    yields = λ ahead rest new old us e l g y.
        (let b = back ahead rest new us e l g y in
        subst (λ x. YieldsAt F at.from old (chars x)) (sym (whole new b.tail b.is))
        (ends_yield old (chars (space (ending_at at.from items) (first_kind ts) ++ (text ++ b.tail))) (λ k may. front_ends k may b.tail us b.glued b.ends)
        (front_no_dot (space (ending_at at.from items) (first_kind ts)) b.tail us (one_space (ending_at at.from items) (first_kind ts)) b.glued b.ends)));
  }
