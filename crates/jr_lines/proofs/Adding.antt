-- Lines that are added to others.
use Rattle.std.proofs.Common.{◌≡◌, ℕ, ◌+◌, ◌<◌, List, [], ◌∷◌, ◌++◌, length, get_or, map, Option, Some, None, refl, sym, ap, subst, ◌∙◌, arith, inl, inr, Bool, true, false, eq-eqb, eqb-true}
use Rattle.std.specs.Prelude.{◌⊎◌, ◌↔◌, slice_get, ◌==◌, if◌then◌else◌}
use Rattle.std.proofs.lemmas.List.{map-append}
use Rattle.std.proofs.lemmas.Option.{get_or_from_slice_get, slice_get_within, same_Some}
use Rattle.jr_lex.specs.declared.items.Item.{Item}
use Rattle.jr_lex.specs.Lexes.{Lexes}
use Rattle.jr_lex.specs.Places.{ItemsPlaced}
use Rattle.jr_text.specs.Spans.{part_of}
use Rattle.jr_table.specs.Decls.{Decl}
use Rattle.jr_table.specs.Errors.{Error}
use Rattle.jr_bind.specs.declared.bounds.Reference as raw_reference
use Rattle.jr_bind.specs.declared.errors.BindError as raw_error
use Rattle.jr_bind.specs.Bounds.{Reference, decl_in}
use Rattle.jr_bind.specs.BoundView.{reference_of}
use Rattle.jr_bind.specs.ErrorView.{error_of}
use Rattle.jr_lines.specs.declared.lines.Line as raw
use Rattle.jr_lines.specs.Lines.{Line, reference, broken, Among}
use Rattle.jr_lines.specs.LineView.{line_of, lines_of}
use Rattle.jr_program.specs.Tokens.{IsTokenText}
use Rattle.jr_program.specs.Members.{AnyOf}
use Rattle.jr_lines.specs.MemberLines.{Adds, IsLineAt, IsReferenceAt, HasReference, IsErrorAt, HasError}
use Rattle.jr_program.proofs.Membership.{chain, flip, both, none, regroup, any_iff, any_map}
use Rattle.jr_program.proofs.TokenPlaces.{from_of, one_place}

-- ---- lists of lines

among_push : (ls : List Line) (x l : Line) → Among (ls ++ x ∷ []) l ↔ (Among ls l ⊎ (x ≡ l))
among_push [] x l = (to, back)
  where
    to : ((x ≡ l) ⊎ ⊥) → ⊥ ⊎ (x ≡ l)
    to (inl e) = inr e
    to (inr f) = absurd f

    back : (⊥ ⊎ (x ≡ l)) → (x ≡ l) ⊎ ⊥
    back (inl f) = absurd f
    back (inr e) = inl e
among_push (y ∷ ys) x l = chain (both (λ p. p, λ p. p) (among_push ys x l)) (flip regroup)

pub adds_one : (Has : Line → Type 0) (x : raw.Line) (old new : List raw.Line) → new ≡ old ++ x ∷ [] → ((l : Line) → (line_of x ≡ l) ↔ Has l) → Adds Has (lines_of old) (lines_of new)
adds_one Has x old new e f =
    let is : lines_of new ≡ lines_of old ++ line_of x ∷ [] = ap lines_of e ∙ map-append line_of old (x ∷ []) in
    record { each = λ l. chain (subst (λ ls. Among ls l ↔ (Among (lines_of old) l ⊎ (line_of x ≡ l))) (sym is) (among_push (lines_of old) (line_of x) l)) (both (λ p. p, λ p. p) (f l)) }

pub adds_none : (Has : Line → Type 0) (ls : List Line) → ((l : Line) → Has l → ⊥) → Adds Has ls ls
adds_none Has ls f = record { each = λ l. none (f l) }

pub adds_then : (P Q : Line → Type 0) (xs ys zs : List Line) → Adds P xs ys → Adds Q ys zs → Adds (λ l. P l ⊎ Q l) xs zs
adds_then P Q xs ys zs f g = record { each = λ l. chain (g.each l) (chain (both (f.each l) (λ q. q, λ q. q)) regroup) }

pub adds_as : (P Q : Line → Type 0) (xs ys : List Line) → ((l : Line) → P l ↔ Q l) → Adds P xs ys → Adds Q xs ys
adds_as P Q xs ys f g = record { each = λ l. chain (g.each l) (both (λ p. p, λ p. p) (f l)) }

-- ---- the token at a place

module _ (text : List ℕ) (items : List Item) (law : ItemsPlaced) (lexes : Lexes text items) where
  pub token_once : (at : ℕ) (n m : List ℕ) → IsTokenText text items at n → IsTokenText text items at m → n ≡ m
  token_once at n m t u =
      let a = slice_get_within items t.number t.token t.stands in
      let b = slice_get_within items u.number u.token u.stands in
      let i = get_or_from_slice_get items t.number t.token t.token t.stands in
      let j = get_or_from_slice_get items u.number u.token t.token u.stands in
      let same : t.number ≡ u.number = one_place text items law lexes t.number u.number t.token a b (ap from_of i ∙ t.place ∙ sym u.place ∙ sym (ap from_of j)) in
      let tokens : t.token ≡ u.token = sym i ∙ ap (λ k. get_or items k t.token) same ∙ j in
      t.bytes ∙ ap (λ (x : Item). part_of text x.span) tokens ∙ sym u.bytes

  pub line_at : (at place : ℕ) (d : Decl) (name : List ℕ) → place ≡ at → IsTokenText text items place name → (l : Line) → (reference at name d ≡ l) ↔ IsLineAt text items at d l
  line_at at place d name e t l = (to, back)
    where
      here : IsTokenText text items at name
      here = subst (λ n. IsTokenText text items n name) e t

      to : reference at name d ≡ l → IsLineAt text items at d l
      to h = record { name = name; stands = here; is = sym h }

      back : IsLineAt text items at d l → reference at name d ≡ l
      back h = ap (λ n. reference at n d) (token_once at name h.name here h.stands) ∙ sym h.is

  pub no_line : (at place : ℕ) (d : Decl) → place ≡ at → ((name : List ℕ) → IsTokenText text items place name → ⊥) → (l : Line) → IsLineAt text items at d l → ⊥
  no_line at place d e f l h = f h.name (subst (λ n. IsTokenText text items n h.name) (sym e) h.stands)

module _ (text : List ℕ) (items : List Item) (start : ℕ) (refs : List Reference) where
  pub reference_at : (n : ℕ) (d : Decl) → Some d ≡ decl_in refs n → (l : Line) → IsLineAt text items (start + n) d l ↔ IsReferenceAt text items start refs n l
  reference_at n d e l = (to, back)
    where
      to : IsLineAt text items (start + n) d l → IsReferenceAt text items start refs n l
      to h = record { decl = d; means = sym e; line = h }

      back : IsReferenceAt text items start refs n l → IsLineAt text items (start + n) d l
      back h = let is : h.decl ≡ d = same_Some h.decl d (sym h.means ∙ sym e) in subst (λ x. IsLineAt text items (start + n) x l) is h.line

  pub no_reference : (n : ℕ) → None ≡ decl_in refs n → (l : Line) → IsReferenceAt text items start refs n l → ⊥
  no_reference n e l h = let both : None ≡ Some h.decl = e ∙ h.means in absurd cc

  -- some reference has the place of what is found there
  found_among : (rs : List Reference) (n : ℕ) (d : Decl) → decl_in rs n ≡ Some d → AnyOf (λ (r : Reference). r.at ≡ n) rs
  found_among [] n d h = absurd cc
  found_among (r ∷ rs) n d h = by (r.at == n) refl (λ g. found_among rs n d g)
    where
      by : (b : Bool) → (r.at == n) ≡ b → (decl_in rs n ≡ Some d → AnyOf (λ (x : Reference). x.at ≡ n) rs) → (r.at ≡ n) ⊎ AnyOf (λ (x : Reference). x.at ≡ n) rs
      by true e f = inl (eqb-true r.at n e)
      by false e f = inr (f (sym (ap (λ (b : Bool). if b then Some r.decl else decl_in rs n) e) ∙ h))

  pub has_reference : (l : Line) → AnyOf (λ (r : Reference). IsReferenceAt text items start refs r.at l) refs ↔ HasReference text items start refs l
  has_reference l = (to refs, λ h. back refs h (found_among refs h.place h.has.decl h.has.means))
    where
      to : (rs : List Reference) → AnyOf (λ (r : Reference). IsReferenceAt text items start refs r.at l) rs → HasReference text items start refs l
      to [] h = absurd h
      to (r ∷ rs) (inl h) = record { place = r.at; has = h }
      to (r ∷ rs) (inr h) = to rs h

      back : (rs : List Reference) (h : HasReference text items start refs l) → AnyOf (λ (r : Reference). r.at ≡ h.place) rs → AnyOf (λ (r : Reference). IsReferenceAt text items start refs r.at l) rs
      back [] h f = f
      back (r ∷ rs) h (inl e) = inl (subst (λ n. IsReferenceAt text items start refs n l) (sym e) h.has)
      back (r ∷ rs) h (inr f) = inr (back rs h f)

  -- as they are kept
  pub references_kept : (raws : List raw_reference.Reference) → map reference_of raws ≡ refs → (l : Line) → AnyOf (λ (r : raw_reference.Reference). IsReferenceAt text items start refs r.at l) raws ↔ HasReference text items start refs l
  references_kept raws e l =
      chain (flip (any_map reference_of (λ (r : Reference). IsReferenceAt text items start refs r.at l) raws))
      (subst (λ rs. AnyOf (λ (r : Reference). IsReferenceAt text items start refs r.at l) rs ↔ HasReference text items start refs l) (sym e) (has_reference l))

pub errors_kept : (start : ℕ) (raws : List raw_error.BindError) (errors : List Error) → map error_of raws ≡ errors → (l : Line) → AnyOf (λ (e : raw_error.BindError). IsErrorAt start (error_of e) l) raws ↔ HasError start errors l
errors_kept start raws errors e l =
    chain (flip (any_map error_of (λ (x : Error). IsErrorAt start x l) raws)) (subst (λ es. AnyOf (λ (x : Error). IsErrorAt start x l) (map error_of raws) ↔ AnyOf (λ (x : Error). IsErrorAt start x l) es) e (λ h. h, λ h. h))

pub error_line : (start : ℕ) (e : Error) (l : Line) → (broken (start + e.at) e.rule ≡ l) ↔ IsErrorAt start e l
error_line start e l = (λ h. sym h, λ h. sym h)
