-- The lines of all members of a file.
use Rattle.std.proofs.Common.{◌≡◌, ℕ, ◌+◌, List, [], ◌∷◌, map, refl, sym, ap, subst, ◌∙◌, inl, inr}
use Rattle.std.specs.Prelude.{◌⊎◌, ◌↔◌, Some}
use Rattle.jr_lex.specs.declared.items.Item.{Item}
use Rattle.jr_lex.specs.Lexes.{Lexes}
use Rattle.jr_lex.specs.Places.{ItemsPlaced}
use Rattle.jr_table.specs.Decls.{Decl}
use Rattle.jr_table.specs.Errors.{Error, Among, rule_rank}
use Rattle.jr_table.specs.declared.rules.Rule.{Rule}
use Rattle.jr_bind.specs.Bounds.{decl_in}
use Rattle.jr_program.specs.declared.bounds.MemberBound.{MemberBound}
use Rattle.jr_lines.specs.Lines.{Line, reference, broken, line_at, line_rank, AreInOrder, AreLines, AreApart}
use Rattle.jr_lines.specs.Lines as pure
use Rattle.jr_program.specs.Tokens.{IsTokenText}
use Rattle.jr_program.specs.Members.{AnyOf, MemberRefers, MemberErrs}
use Rattle.jr_lines.specs.MemberLines.{IsLineOf, IsLineAt, IsReferenceAt, HasReference, IsErrorAt, HasError, IsMemberLine}
use Rattle.jr_lines.proofs.LineOrder.{one_rule, rule_some}
use Rattle.jr_program.proofs.Membership.{chain, any_iff, any_with}
use Rattle.jr_lines.proofs.Adding.{token_once}

reference_parts : (at at' : ℕ) (n n' : List ℕ) (d d' : Decl) → reference at n d ≡ reference at' n' d' → (at ≡ at') × (n ≡ n') × (d ≡ d')
reference_parts at at' n n' d d' e = (cc, cc, cc)

broken_parts : (at at' : ℕ) (r r' : Rule) → broken at r ≡ broken at' r' → (at ≡ at') × (r ≡ r')
broken_parts at at' r r' e = (cc, cc)

differ : (at at' : ℕ) (n : List ℕ) (d : Decl) (r : Rule) → reference at n d ≡ broken at' r → ⊥
differ at at' n d r e = cc

module _ (text : List ℕ) (items : List Item) (file : ℕ) where
  no_error : (start : ℕ) (es : List Error) (at : ℕ) (n : List ℕ) (d : Decl) → HasError start es (reference at n d) → ⊥
  no_error start [] at n d h = h
  no_error start (e ∷ es) at n d (inl h) = differ at (start + e.at) n d e.rule h
  no_error start (e ∷ es) at n d (inr h) = no_error start es at n d h

  error_to : (start : ℕ) (es : List Error) (at : ℕ) (r : Rule) → HasError start es (broken at r) → (e : Error) × (at ≡ start + e.at) × (r ≡ e.rule) × Among es e
  error_to start [] at r h = absurd h
  error_to start (e ∷ es) at r (inl h) = let p = broken_parts at (start + e.at) r e.rule h in (e, p.0, p.1, inl refl)
  error_to start (e ∷ es) at r (inr h) = let m = error_to start es at r h in (m.0, m.1, m.2, inr m.3)

  error_back : (start : ℕ) (es : List Error) (at : ℕ) (r : Rule) (e : Error) → at ≡ start + e.at → r ≡ e.rule → Among es e → HasError start es (broken at r)
  error_back start [] at r e a b h = absurd h
  error_back start (x ∷ xs) at r e a b (inl h) = inl ((λ i. broken (a i) (b i)) ∙ ap (λ (y : Error). broken (start + y.at) y.rule) (sym h))
  error_back start (x ∷ xs) at r e a b (inr h) = inr (error_back start xs at r e a b h)

  member_reference : (at : ℕ) (n : List ℕ) (d : Decl) (b : MemberBound) → IsMemberLine text items b file (reference at n d) ↔ (MemberRefers file at d b × IsTokenText text items at n)
  member_reference at n d b = (λ h. to h.0 h.1, back)
    where
      to : b.file ≡ file → (HasReference text items b.start b.bound.references (reference at n d) ⊎ HasError b.start b.bound.errors (reference at n d)) → MemberRefers file at d b × IsTokenText text items at n
      to f (inl h) =
          let p = reference_parts at (b.start + h.place) n h.has.line.name d h.has.decl h.has.line.is in
          ((f, (h.place, p.0, h.has.means ∙ ap Some (sym p.2))), subst (λ k. IsTokenText text items k n) (sym p.0) (subst (IsTokenText text items (b.start + h.place)) (sym p.1) h.has.line.stands))
      to f (inr h) = absurd (no_error b.start b.bound.errors at n d h)

      back : MemberRefers file at d b × IsTokenText text items at n → IsMemberLine text items b file (reference at n d)
      back h = (
        h.0.0,
        inl (record {
          place = h.0.1.0;
          has = record {
            decl = d;
            means = h.0.1.2;
            line = record { name = n; stands = subst (λ k. IsTokenText text items k n) h.0.1.1 h.1; is = ap (λ k. reference k n d) h.0.1.1 };
          };
        }),
      )

  member_error : (at : ℕ) (r : Rule) (b : MemberBound) → IsMemberLine text items b file (broken at r) ↔ MemberErrs file at r b
  member_error at r b = (λ h. to h.0 h.1, back)
    where
      to : b.file ≡ file → (HasReference text items b.start b.bound.references (broken at r) ⊎ HasError b.start b.bound.errors (broken at r)) → MemberErrs file at r b
      to f (inl h) = absurd (differ (b.start + h.place) at h.has.line.name h.has.decl r (sym h.has.line.is))
      to f (inr h) = (f, error_to b.start b.bound.errors at r h)

      back : MemberErrs file at r b → IsMemberLine text items b file (broken at r)
      back h = (h.0, inr (error_back b.start b.bound.errors at r h.1.0 h.1.1 h.1.2 h.1.3))

  pub line_of_members : (bounds : List MemberBound) (l : Line) → AnyOf (λ (b : MemberBound). IsMemberLine text items b file l) bounds ↔ IsLineOf text items bounds file l
  line_of_members bounds (reference at n d) = chain
      (any_iff (λ (b : MemberBound). IsMemberLine text items b file (reference at n d)) (λ (b : MemberBound). MemberRefers file at d b × IsTokenText text items at n) (member_reference at n d) bounds)
      (any_with (MemberRefers file at d) (IsTokenText text items at n) bounds)
  line_of_members bounds (broken at r) = any_iff (λ (b : MemberBound). IsMemberLine text items b file (broken at r)) (MemberErrs file at r) (member_error at r) bounds

  -- no two lines of one place and rank
  module _ (law : ItemsPlaced) (lexes : Lexes text items) (bounds : List MemberBound)
      (once : (at : ℕ) (d e : Decl) → AnyOf (MemberRefers file at d) bounds → AnyOf (MemberRefers file at e) bounds → d ≡ e) where
    apart_lines : (l m : Line) → IsLineOf text items bounds file l → IsLineOf text items bounds file m → line_at l ≡ line_at m → line_rank l ≡ line_rank m → l ≡ m
    apart_lines (reference at n d) (reference at' n' d') h k a r =
        let refers = subst (λ x. AnyOf (MemberRefers file x d') bounds) (sym a) k.0 in
        let stands = subst (λ x. IsTokenText text items x n') (sym a) k.1 in
        let names = token_once text items law lexes at n n' h.1 stands in
        let decls = once at d d' h.0 refers in
        λ i. reference (a i) (names i) (decls i)
    apart_lines (reference at n d) (broken at' r') h k a r = absurd (rule_some r' (sym r))
    apart_lines (broken at r') (reference at' n d) h k a r = absurd (rule_some r' r)
    apart_lines (broken at q) (broken at' q') h k a r = let rules = one_rule q q' r in λ i. broken (a i) (rules i)

    pub lines_apart : (ls : List Line) → ((l : Line) → pure.Among ls l ↔ IsLineOf text items bounds file l) → AreApart ls
    lines_apart ls f l m h k a r = apart_lines l m ((f l).0 h) ((f m).0 k) a r

pub lines_as : (P Q : Line → Type 0) (ls : List Line) → ((l : Line) → P l ↔ Q l) → AreLines P ls → AreLines Q ls
lines_as P Q ls f g = record { in_order = g.in_order; exact = λ l. chain (g.exact l) (f l) }
