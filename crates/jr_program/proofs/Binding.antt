-- What is bound of a member is what its trees have.
use Rattle.std.proofs.Common.{◌≡◌, ℕ, ◌+◌, ◌-◌, ◌<◌, ◌≤◌, List, [], ◌∷◌, ◌++◌, length, take, get_or, map, refl, sym, ap, subst, ◌∙◌, arith, inl, inr}
use Rattle.std.specs.Prelude.{◌⊎◌, ◌↔◌, slice_get, Option, Some, None}
use Rattle.std.proofs.lemmas.List.{take_more, map-append}
use Rattle.std.proofs.lemmas.Option.{same_Some}
use Rattle.jr_text.specs.declared.spans.Span.{Span}
use Rattle.jr_lex.specs.declared.items.Item.{Item}
use Rattle.jr_ast.specs.Tree as tree
use Rattle.jr_ast.specs.MemberTree as syntax
use Rattle.jr_table.specs.Decls.{Decl}
use Rattle.jr_table.specs.Rows.{Row}
use Rattle.jr_table.specs.Errors.{Part, class_part, member_part, part_mark, Breaks, Binds, Error, Among}
use Rattle.jr_table.specs.declared.rules.Rule.{Rule}
use Rattle.jr_members.specs.WrittenMembers.{WrittenMember}
use Rattle.jr_bind.specs.Bounds.{decl_in}
use Rattle.jr_program_laws.specs.FileParts.{begins, IsSuperAt, WithSuper, BindsAt, BreaksAt}
use Rattle.jr_program.specs.declared.bounds.MemberBound.{MemberBound}
use Rattle.jr_program.specs.Members.{AnyOf, IsArgsPlace, IsMemberPlace, IsSuperPlace, MemberRefers, MemberErrs, WrittenRefers, WrittenErrs, CanBind, AreKnown}
use Rattle.jr_program.specs.Members.{IsMemberBound, IsEachBound, AreEachBound}
use Rattle.jr_program.specs.Binding.{CanBindAt, AddsMember}
use Rattle.jr_program.proofs.Membership.{chain, flip, both, none, any_push}

-- ---- the place of `super`

one_super : (items : List Item) (span : Span) (a b : ℕ) → IsSuperAt items span a → IsSuperAt items span b → a ≡ b
one_super items span a b g h =
    let p = g.first b h.there h.within.0 in
    let q = h.first a g.there g.within.0 in
    omega (arith, p, q)

module _ (rows : List Row) (items : List Item) (P : ℕ → Type 0) where
  zero_super : (at : ℕ) → at ≡ 0 → P 0 ↔ P at
  zero_super at e = (subst P (sym e), subst P e)

  with_args : (span : Span) (args : tree.Exps Span) (at : ℕ) → IsSuperAt items span at → ((n : ℕ) × IsSuperAt items span n × P n) ↔ P at
  with_args span args at s = (λ h. subst P (one_super items span h.0 at h.1 s) h.2, λ p. (at, s, p))

  pub with_super : (part : Part Span) (at : ℕ) → IsSuperPlace items part at → WithSuper rows items part P ↔ P at
  with_super (class_part of) at s = zero_super at s
  with_super (member_part (syntax.field m mods t w init)) at s = zero_super at s
  with_super (member_part (syntax.method m mods t w ps body)) at s = zero_super at s
  with_super (member_part (syntax.constructor m mods w ps None body)) at s = zero_super at s
  with_super (member_part (syntax.constructor m mods w ps (Some args) body)) at s = with_args m args at s
  with_super (member_part (syntax.inner m of)) at s = zero_super at s

-- ---- one member

module _ (rows : List Row) (files : List (List Item)) (w : WrittenMember Span) (items : List Item) (stands : slice_get files w.file ≡ Some items) where
  -- the items of the member's file
  same_items : (file : ℕ) (others : List Item) → w.file ≡ file → slice_get files file ≡ Some others → others ≡ items
  same_items file others e h = same_Some others items (sym h ∙ ap (slice_get files) (sym e) ∙ stands)

  -- it has a place
  pub has_place : CanBind rows files w → ((at : ℕ) → IsSuperPlace items w.part at → ⊥) → ⊥
  has_place can lacks = let s = can.stands items stands in lacks s.0 s.1

  -- with its place
  module _ (can : CanBind rows files w) (s : ℕ) (place : IsSuperPlace items w.part s) where
    binds : (at : ℕ) (d : Decl) → BindsAt rows items w.key w.base w.part at d ↔ Binds begins rows s w.key w.base w.part at d
    binds at d = with_super rows items (λ n. Binds begins rows n w.key w.base w.part at d) w.part s place

    breaks : (at : ℕ) (r : Rule) → BreaksAt rows items w.key w.base w.part at r ↔ Breaks begins rows s w.key w.base w.part at r
    breaks at r = with_super rows items (λ n. Breaks begins rows n w.key w.base w.part at r) w.part s place

    pub can_bind : CanBindAt rows s w
    can_bind = record {
      row = can.row;
      fits = can.fits;
      once = λ at d e g h. can.once items stands at d e ((binds at d).1 g) ((binds at e).1 h);
    }

    module _ (b : MemberBound) (is : IsMemberBound rows s w b) (its : b.super_at ≡ s) where
      abbrev start : ℕ
      start = begins (part_mark w.part) w.base

      pub refers : (file at : ℕ) (d : Decl) → MemberRefers file at d b ↔ WrittenRefers rows files file at d w
      refers file at d = (λ h. to h.0 h.1.0 h.1.1 h.1.2, back)
        where
          to : b.file ≡ file → (n : ℕ) → at ≡ b.start + n → decl_in b.bound.references n ≡ Some d → WrittenRefers rows files file at d w
          to e n p m =
              let f : w.file ≡ file = sym is.file ∙ e in
              let bound = (is.bound.declarations n d).0 m in
              let place' : at ≡ start + n = p ∙ ap (λ k. k + n) is.start in
              (f, (items, sym (ap (slice_get files) f) ∙ stands, (binds at d).1 (subst (λ k. Binds begins rows s w.key w.base w.part k d) (sym place') bound)))

          back : WrittenRefers rows files file at d w → MemberRefers file at d b
          back h =
              let there = subst (λ i. BindsAt rows i w.key w.base w.part at d) (same_items file h.1.0 h.0 h.1.1) h.1.2 in
              let low = can.refers_within items stands at d there in
              let n : ℕ = at - start in
              let place' : at ≡ start + n = omega (arith, low) in
              (is.file ∙ h.0, (n, place' ∙ ap (λ k. k + n) (sym is.start), (is.bound.declarations n d).1 (subst (λ k. Binds begins rows s w.key w.base w.part k d) place' ((binds at d).0 there))))

      pub errs : (file at : ℕ) (r : Rule) → MemberErrs file at r b ↔ WrittenErrs rows files file at r w
      errs file at r = (λ h. to h.0 h.1.0 h.1.1 h.1.2 h.1.3, back)
        where
          to : b.file ≡ file → (e : Error) → at ≡ b.start + e.at → r ≡ e.rule → Among b.bound.errors e → WrittenErrs rows files file at r w
          to f e p q m =
              let g : w.file ≡ file = sym is.file ∙ f in
              let broken = (is.bound.errors.exact e).0 m in
              let place' : at ≡ start + e.at = p ∙ ap (λ k. k + e.at) is.start in
              (g, (items, sym (ap (slice_get files) g) ∙ stands, (breaks at r).1 (subst (λ k. Breaks begins rows s w.key w.base w.part k r) (sym place') (subst (λ q'. Breaks begins rows s w.key w.base w.part (start + e.at) q') (sym q) broken))))

          back : WrittenErrs rows files file at r w → MemberErrs file at r b
          back h =
              let there = subst (λ i. BreaksAt rows i w.key w.base w.part at r) (same_items file h.1.0 h.0 h.1.1) h.1.2 in
              let low = can.breaks_within items stands at r there in
              let e : Error = record { at = at - start; rule = r } in
              let place' : at ≡ start + (at - start) = omega (arith, low) in
              (is.file ∙ h.0, (e, place' ∙ ap (λ k. k + (at - start)) (sym is.start), refl, (is.bound.errors.exact e).1 (subst (λ k. Breaks begins rows s w.key w.base w.part k r) place' ((breaks at r).0 there))))

      known : IsEachBound rows files w b
      known = record {
        items = items;
        stands = stands;
        place = subst (IsSuperPlace items w.part) (sym its) place;
        is = subst (λ n. IsMemberBound rows n w b) (sym its) is;
      }

      pub adds_bound : (old new : List MemberBound) → new ≡ old ++ b ∷ [] → AddsMember rows files w old new
      adds_bound old new e = record {
        references = λ file at d. subst (λ (xs : List MemberBound). AnyOf (MemberRefers file at d) xs ↔ (AnyOf (MemberRefers file at d) old ⊎ WrittenRefers rows files file at d w)) (sym e) (chain (any_push (MemberRefers file at d) old b) (both (λ p. p, λ p. p) (refers file at d)));
        errors = λ file at r. subst (λ (xs : List MemberBound). AnyOf (MemberErrs file at r) xs ↔ (AnyOf (MemberErrs file at r) old ⊎ WrittenErrs rows files file at r w)) (sym e) (chain (any_push (MemberErrs file at r) old b) (both (λ p. p, λ p. p) (errs file at r)));
        behind = inr (b, is.file, e);
        each = (b, known, e);
      }

-- ---- one after the other

pub known_none : (rows : List Row) (files : List (List Item)) → AreKnown rows files [] []
known_none rows files = record { references = λ file at d. (λ h. h, λ h. h); errors = λ file at r. (λ h. h, λ h. h) }

pub known_more : (rows : List Row) (files : List (List Item)) (ws : List (WrittenMember Span)) (w : WrittenMember Span) (old new : List MemberBound) → AreKnown rows files ws old → AddsMember rows files w old new → AreKnown rows files (ws ++ w ∷ []) new
known_more rows files ws w old new k a = record {
  references = λ file at d. chain (a.references file at d) (chain (both (k.references file at d) (λ p. p, λ p. p)) (flip (any_push (WrittenRefers rows files file at d) ws w)));
  errors = λ file at r. chain (a.errors file at r) (chain (both (k.errors file at r) (λ p. p, λ p. p)) (flip (any_push (WrittenErrs rows files file at r) ws w)));
}

pub known_step : {A : Type 0} (f : A → WrittenMember Span) (rows : List Row) (files : List (List Item)) (ws : List A) (i : ℕ) (w : A) (old new : List MemberBound) → i < length ws → w ≡ get_or ws i w → AreKnown rows files (map f (take i ws)) old → AddsMember rows files (f w) old new → AreKnown rows files (map f (take (i + 1) ws)) new
known_step f rows files ws i w old new lt is k a =
    let more : map f (take (i + 1) ws) ≡ map f (take i ws) ++ f w ∷ [] = ap (map f) (take_more ws i w lt ∙ ap (λ y. take i ws ++ y ∷ []) (sym is)) ∙ map-append f (take i ws) (w ∷ []) in
    subst (λ xs. AreKnown rows files xs new) (sym more) (known_more rows files (map f (take i ws)) (f w) old new k a)

each_push : (rows : List Row) (files : List (List Item)) (ws : List (WrittenMember Span)) (bs : List MemberBound) (w : WrittenMember Span) (b : MemberBound) → AreEachBound rows files ws bs → IsEachBound rows files w b → AreEachBound rows files (ws ++ w ∷ []) (bs ++ b ∷ [])
each_push rows files [] [] w b h is = (is, tt)
each_push rows files [] (c ∷ bs) w b h is = absurd h
each_push rows files (v ∷ ws) [] w b h is = absurd h
each_push rows files (v ∷ ws) (c ∷ bs) w b h is = (h.0, each_push rows files ws bs w b h.1 is)

pub each_step : {A : Type 0} (f : A → WrittenMember Span) (rows : List Row) (files : List (List Item)) (ws : List A) (i : ℕ) (w : A) (old new : List MemberBound) → i < length ws → w ≡ get_or ws i w → AreEachBound rows files (map f (take i ws)) old → AddsMember rows files (f w) old new → AreEachBound rows files (map f (take (i + 1) ws)) new
each_step f rows files ws i w old new lt is k a =
    let more : map f (take (i + 1) ws) ≡ map f (take i ws) ++ f w ∷ [] = ap (map f) (take_more ws i w lt ∙ ap (λ y. take i ws ++ y ∷ []) (sym is)) ∙ map-append f (take i ws) (w ∷ []) in
    subst (λ xs. AreEachBound rows files xs new) (sym more)
    (subst (λ bs. AreEachBound rows files (map f (take i ws) ++ f w ∷ []) bs) (sym a.each.2) (each_push rows files (map f (take i ws)) old (f w) a.each.0 k a.each.1))
