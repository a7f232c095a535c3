-- Where a file writes a member in whose body a list is held, what comes of the file has the changes of
-- a list that a spot makes.
use Rattle.std.proofs.Common.{◌≡◌, ℕ, zero, suc, List, [], ◌∷◌, ◌++◌, length, Option, Some, None, false, refl, sym, ap, ◌∙◌, subst, inl, inr}
use Rattle.std.specs.Prelude.{slice_get}
use Rattle.std.proofs.lemmas.Option.{same_Some}
use Rattle.jr_text.specs.declared.spans.Span.{Span}
use Rattle.jr_ast.specs.Tree as tree
use Rattle.jr_ast.specs.StatementTree as statement
use Rattle.jr_ast.specs.MemberTree as syntax
use Rattle.jr_grammar.specs.Layout.{itself}
use Rattle.jr_table.specs.Keys.{ClassKey}
use Rattle.jr_table.specs.Decls.{MemberKey}
use Rattle.jr_table.specs.LookupLaws.{HasOne}
use Rattle.jr_table.specs.Context.{Context}
use Rattle.jr_table.specs.HeadRules.{with_parameters, is_static_member}
use Rattle.jr_table.specs.DeclaredItems.{DeclaredItem, class_key}
use Rattle.jr_table.specs.Errors.{Part, class_part, member_part, Declares, InClass, InMembers, InInner, InClasses}
use Rattle.jr_bind.specs.Bounds.{Bound}
use Rattle.jr_rewrite.specs.Rewritten.{Rewritten}
use Rattle.jr_rewrite.specs.Spots.{Spots, Spotted, spotted, OrMembers}
use Rattle.jr_rewrite.specs.Rewrites.{Choosing, TransformsMember, TransformsClass, TransformsMembers, TransformsOne, TransformsClasses, TransformsUnit}
use Rattle.jr_pieces.specs.Ways.{ListWay}
use Rattle.jr_pieces.specs.Standings.{Standing}
use Rattle.jr_pieces.specs.Nearest.{nearest}
use Rattle.jr_plan.specs.Transforms.{TransformsFiles}
use Rattle.jr_local.specs.Bodies.{begins, Body, body_of_member, body_of}
use Rattle.jr_used_spots.proofs.Lists.{HeldAt, Meets, of_left, of_right, meets}

-- spots of lists alone
pub record OfLists (s : Spots Span) : Type 0 where
  pub members : (base : ℕ) (of : ClassKey) (xs : syntax.Members Span) (o : Rewritten (syntax.Members Span)) → s.members base of xs o → ⊥
  pub whole : (base : ℕ) (outer : Option (List ℕ)) (x : syntax.Class Span) (o : Rewritten (syntax.Class Span)) → s.whole base outer x o → ⊥

same_body : (a b : Body) → (let o : Option Body = Some a in o ≡ Some b) → a ≡ b
same_body a b e = cc

no_body : (b : Body) → (let none : Option Body = None in none ≡ Some b) → ⊥
no_body b e = cc

module _ (C : Choosing Span) (s : Spots Span) (only : OfLists s) (Held : ℕ → Context → statement.Stmts Span → Type 0)
    (barred : (n : ℕ) (c : Context) (base : ℕ) (xs : statement.Stmts Span) → Held n c xs → s.list_stays n c base xs → ⊥) (f : tree.Exp Span) where
  -- a way leads from the body to the list
  abbrev pub InBody : Body → Type 0
  InBody b = (way : ListWay f b.list) × HeldAt itself C s Held barred (nearest begins b.at way)

  -- ---- members

  member_meets : (k : MemberKey) (base : ℕ) (x : syntax.Member Span) (bound : Bound) (b : Body) → body_of_member k base x bound ≡ Some b → InBody b
      → (o : Rewritten (syntax.Member Span)) → TransformsMember itself C (spotted s) k base x o → Meets s o.changes
  member_meets k base (syntax.field m mods t w init) bound b e there o v = absurd (no_body b e)
  member_meets k base (syntax.inner m c) bound b e there o v = absurd v
  member_meets k base (syntax.method m mods t w ps body) bound b e there o (p, v, q, z, result, name, params, list, same) =
      let at : Standing = record { next = length ps; context = with_parameters k (is_static_member begins mods) ps; base = begins m base } in
      let inside = subst InBody (sym (same_body _ b e)) there in
      of_right s (p.changes ++ v.changes) (q.changes ++ z.changes) o.changes (ap (λ (r : Rewritten (syntax.Member Span)). r.changes) same)
      (of_right s q.changes z.changes (q.changes ++ z.changes) refl (meets itself C s Held barred at inside.0 inside.1 z list))
  member_meets k base (syntax.constructor m mods w ps args body) bound b e there o (v, q, p, z, name, params, first, list, same) =
      let at : Standing = record { next = length ps; context = with_parameters k false ps; base = begins m base } in
      let inside = subst InBody (sym (same_body _ b e)) there in
      of_right s (v.changes ++ q.changes) (p.changes ++ z.changes) o.changes (ap (λ (r : Rewritten (syntax.Member Span)). r.changes) same)
      (of_right s p.changes z.changes (p.changes ++ z.changes) refl (meets itself C s Held barred at inside.0 inside.1 z list))

  -- ---- the file that writes the member, whose key is one

  module _ (declarations : List DeclaredItem) (keys : (base : ℕ) (of : ClassKey) (x : syntax.Member Span) → HasOne (Declares begins declarations base of x))
      (k : MemberKey) (at : ℕ) (part : Part Span) (bound : Bound) (b : Body) (has : body_of k at part bound ≡ Some b) (there : InBody b) where
    abbrev IsThere : MemberKey → ℕ → Part Span → Type 0
    IsThere j n q = (n ≡ at) × (q ≡ part)

    one_meets : (base : ℕ) (of : ClassKey) (x : syntax.Member Span) → Declares begins declarations base of x k → body_of k base (member_part x) bound ≡ Some b
        → (o : Rewritten (syntax.Member Span)) → TransformsOne itself C (spotted s) declarations base of x o → Meets s o.changes
    unfolding TransformsOne
    one_meets base of (syntax.inner m c) d e o v = absurd d
    one_meets base of (syntax.field m mods t w init) d e o v = absurd (no_body b e)
    one_meets base of (syntax.method m mods t w ps body) d e o (j, declares, v) =
        member_meets k base (syntax.method m mods t w ps body) bound b e there o
        (subst (λ i. TransformsMember itself C (spotted s) i base (syntax.method m mods t w ps body) o) (keys base of (syntax.method m mods t w ps body) j k declares d) v)
    one_meets base of (syntax.constructor m mods w ps args body) d e o (j, declares, v) =
        member_meets k base (syntax.constructor m mods w ps args body) bound b e there o
        (subst (λ i. TransformsMember itself C (spotted s) i base (syntax.constructor m mods w ps args body) o) (keys base of (syntax.constructor m mods w ps args body) j k declares d) v)

    part_has : (n : ℕ) (q : Part Span) → IsThere k n q → body_of k n q bound ≡ Some b
    part_has n q h = (λ i. body_of k (h.0 i) (h.1 i) bound) ∙ has

    mutual
      unfolding InClass InMembers InInner TransformsClass TransformsMembers TransformsOne

      class_meets : (base : ℕ) (outer : Option (List ℕ)) (c : syntax.Class Span) → InClass begins declarations IsThere base outer c k
          → (o : Rewritten (syntax.Class Span)) → TransformsClass itself C (spotted s) declarations base outer c o → Meets s o.changes
      class_meets base outer (syntax.class m mods w t ms) (inl h) o v = absurd (no_body b (part_has base (class_part (syntax.class m mods w t ms)) h.1))
      class_meets base outer (syntax.class m mods w t ms) (inr h) o (p, q, head, inside, same) =
          of_right s p.changes q.changes o.changes (ap (λ (r : Rewritten (syntax.Class Span)). r.changes) same) (members_meet (begins m base) (class_key begins outer w.text) ms h q inside)

      members_meet : (base : ℕ) (of : ClassKey) (xs : syntax.Members Span) → InMembers begins declarations IsThere base of xs k
          → (o : Rewritten (syntax.Members Span)) → OrMembers (spotted s) base of xs o (TransformsMembers itself C (spotted s) declarations base of xs o) → Meets s o.changes
      members_meet base of syntax.end h o v = absurd h
      members_meet base of (syntax.more x xs) h o (inr spot) = absurd (only.members base of (syntax.more x xs) o spot)
      members_meet base of (syntax.more x xs) (inl (inl h)) o (inl (stays, (p, q, one, rest, same))) =
          of_left s p.changes q.changes o.changes (ap (λ (r : Rewritten (syntax.Members Span)). r.changes) same) (one_meets base of x h.0 (part_has base (member_part x) h.1) p one)
      members_meet base of (syntax.more x xs) (inl (inr h)) o (inl (stays, (p, q, one, rest, same))) =
          of_left s p.changes q.changes o.changes (ap (λ (r : Rewritten (syntax.Members Span)). r.changes) same) (inner_meets base of x h p one)
      members_meet base of (syntax.more x xs) (inr h) o (inl (stays, (p, q, one, rest, same))) =
          of_right s p.changes q.changes o.changes (ap (λ (r : Rewritten (syntax.Members Span)). r.changes) same) (members_meet base of xs h q rest)

      inner_meets : (base : ℕ) (of : ClassKey) (x : syntax.Member Span) → InInner begins declarations IsThere base of x k
          → (o : Rewritten (syntax.Member Span)) → TransformsOne itself C (spotted s) declarations base of x o → Meets s o.changes
      inner_meets base of (syntax.inner m c) h o (p, inl (stays, v), same) =
          subst (Meets s) (sym (ap (λ (r : Rewritten (syntax.Member Span)). r.changes) same)) (class_meets (begins m base) (Some of.name) c h p v)
      inner_meets base of (syntax.inner m c) h o (p, inr spot, same) = absurd (only.whole (begins m base) (Some of.name) c p spot)
      inner_meets base of (syntax.field m mods t w init) h o v = absurd h
      inner_meets base of (syntax.method m mods t w ps body) h o v = absurd h
      inner_meets base of (syntax.constructor m mods w ps args body) h o v = absurd h

    classes_meet : (base : ℕ) (cs : List (syntax.Class Span)) → InClasses begins declarations IsThere base cs k
        → (o : Rewritten (List (syntax.Class Span))) → TransformsClasses itself C (spotted s) declarations base cs o → Meets s o.changes
    classes_meet base [] h o v = absurd h
    classes_meet base (c ∷ cs) (inl h) o (p, q, inl (stays, v), rest, same) =
        of_left s p.changes q.changes o.changes (ap (λ (r : Rewritten (List (syntax.Class Span))). r.changes) same) (class_meets base None c h p v)
    classes_meet base (c ∷ cs) (inl h) o (p, q, inr spot, rest, same) = absurd (only.whole base None c p spot)
    classes_meet base (c ∷ cs) (inr h) o (p, q, v, rest, same) =
        of_right s p.changes q.changes o.changes (ap (λ (r : Rewritten (List (syntax.Class Span))). r.changes) same) (classes_meet base cs h q rest)

    pub unit_meets : (u : syntax.Unit Span) → InClasses begins declarations IsThere (begins u.mark 0) u.classes k
        → (o : Rewritten (syntax.Unit Span)) → TransformsUnit itself C (spotted s) declarations u o → Meets s o.changes
    unit_meets u h o (p, v, same) = subst (Meets s) (sym (ap (λ (r : Rewritten (syntax.Unit Span)). r.changes) same)) (classes_meet (begins u.mark 0) u.classes h p v)

-- ---- the file of a number, and what comes of it

pub record Comes (C : Choosing Span) (declarations : List DeclaredItem) (spots : Spotted Span) (u : syntax.Unit Span) (n : ℕ) (os : List (Rewritten (syntax.Unit Span))) : Type 0 where
  pub o : Rewritten (syntax.Unit Span)
  pub stands : slice_get os n ≡ Some o
  pub becomes : TransformsUnit itself C spots declarations u o

pub file_comes : (C : Choosing Span) (declarations : List DeclaredItem) (us : List (syntax.Unit Span)) (os : List (Rewritten (syntax.Unit Span))) (spots : ℕ → Spotted Span) → TransformsFiles C declarations spots us os
    → (n : ℕ) (u : syntax.Unit Span) → slice_get us n ≡ Some u → Comes C declarations (spots n) u n os
file_comes C declarations [] os spots w n u e = absurd (nothing n e)
  where
    nothing : (n : ℕ) → (let none : List (syntax.Unit Span) = [] in slice_get none n ≡ Some u) → ⊥
    nothing n e = cc
file_comes C declarations (x ∷ us) os spots (o, ps, first, rest, are) zero u e =
    record { o = o; stands = ap (λ (l : List (Rewritten (syntax.Unit Span))). slice_get l 0) are; becomes = subst (λ y. TransformsUnit itself C (spots 0) declarations y o) (same_Some x u e) first }
file_comes C declarations (x ∷ us) os spots (o, ps, first, rest, are) (suc n) u e =
    let r = file_comes C declarations us ps (λ i. spots (suc i)) rest n u e in
    record { o = r.o; stands = ap (λ (l : List (Rewritten (syntax.Unit Span))). slice_get l (suc n)) are ∙ r.stands; becomes = r.becomes }
