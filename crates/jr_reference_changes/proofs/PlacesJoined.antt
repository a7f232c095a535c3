-- Places of wholes, by those of their parts.
use Rattle.std.proofs.Common.{◌≡◌, ℕ, ◌+◌, List, [], ◌∷◌, ◌++◌, Bool, true, false, if◌then◌else◌, refl, sym, ap, subst, ◌∙◌, inl, inr, arith, append_assoc}
use Rattle.std.specs.Prelude.{◌⊎◌, ◌↔◌}
use Rattle.std.proofs.lemmas.List.{append-nil}
use Rattle.jr_text.specs.declared.spans.Span.{Span}
use Rattle.jr_rewrite.specs.Respellings.{Front, same, alone, by_this, by_super, by_cast_this, by_class, by_outer_class, by_cast, Choice, stays, becomes, loses, Change, Loss, front_of}
use Rattle.jr_rewrite.specs.Rewritten.{Rewritten, plain, within, joined, losses_of, dotted_changes, qualified_changes, drops_operand, drops_qualifier}
use Rattle.jr_rewrite.specs.Rewrites.{Choosing}
use Rattle.jr_reference_changes.specs.Places.{Place, with_choice, In, IsChosen, edits_at, count_at, losses_all, count_all, IsEditOf, IsOfPlaces}

-- ---- lists

module _ {X : Type 0} (x : X) where
  pub in_either : (xs ys : List X) → In x (xs ++ ys) → In x xs ⊎ In x ys
  in_either [] ys i = inr i
  in_either (z ∷ xs) ys (inl e) = inl (inl e)
  in_either (z ∷ xs) ys (inr i) = elim (in_either xs ys i) [ inl a ↦ inl (inr a) | inr b ↦ inr b ]

  pub in_left : (xs ys : List X) → In x xs → In x (xs ++ ys)
  in_left [] ys i = absurd i
  in_left (z ∷ xs) ys (inl e) = inl e
  in_left (z ∷ xs) ys (inr i) = inr (in_left xs ys i)

  pub in_right : (xs ys : List X) → In x ys → In x (xs ++ ys)
  in_right [] ys i = i
  in_right (z ∷ xs) ys i = inr (in_right xs ys i)

-- ---- what behind a dot is changed

module _ (e w : Span) (inside : List Change) (y : Change) where
  abbrev Dotted : Choice → Type 0
  Dotted h = In y (dotted_changes h e w inside) ↔ (In y inside ⊎ In y (dotted_changes h e w []))

  kept_front : (text : List ℕ) (front : Front) → drops_operand front ≡ false → Dotted (becomes (record { text = text; front = front }))
  kept_front text same d = (λ i. in_either y inside _ i, λ u. elim u [ inl i ↦ in_left y inside _ i | inr i ↦ in_right y inside _ i ])
  kept_front text (by_cast k) d = (into, back)
    where
      into : In y (dotted_changes (becomes (record { text = text; front = by_cast k })) e w inside) → In y inside ⊎ In y (dotted_changes (becomes (record { text = text; front = by_cast k })) e w [])
      into (inl i) = inr (inl i)
      into (inr i) = elim (in_either y inside _ i) [ inl a ↦ inl a | inr b ↦ inr (inr b) ]

      back : In y inside ⊎ In y (dotted_changes (becomes (record { text = text; front = by_cast k })) e w []) → In y (dotted_changes (becomes (record { text = text; front = by_cast k })) e w inside)
      back (inl i) = inr (in_left y inside _ i)
      back (inr (inl i)) = inl i
      back (inr (inr i)) = inr (in_right y inside _ i)
  kept_front text alone d = absurd cc
  kept_front text by_this d = absurd cc
  kept_front text by_super d = absurd cc
  kept_front text (by_cast_this k) d = absurd cc
  kept_front text (by_class k) d = absurd cc
  kept_front text (by_outer_class o k) d = absurd cc

  pub dotted_kept : (h : Choice) → drops_operand (front_of h) ≡ false → Dotted h
  dotted_kept stays d = (λ i. inl i, λ u. elim u [ inl i ↦ i | inr i ↦ absurd i ])
  dotted_kept (loses l) d = (λ i. inl i, λ u. elim u [ inl i ↦ i | inr i ↦ absurd i ])
  dotted_kept (becomes r) d = kept_front r.text r.front d

module _ (e w : Span) (inside : List Change) where
  gone_front : (text : List ℕ) (front : Front) → drops_operand front ≡ true → (let h : Choice = becomes (record { text = text; front = front }) in dotted_changes h e w inside ≡ dotted_changes h e w [])
  gone_front text same d = absurd cc
  gone_front text (by_cast k) d = absurd cc
  gone_front text alone d = refl
  gone_front text by_this d = refl
  gone_front text by_super d = refl
  gone_front text (by_cast_this k) d = refl
  gone_front text (by_class k) d = refl
  gone_front text (by_outer_class o k) d = refl

  pub dotted_gone : (h : Choice) → drops_operand (front_of h) ≡ true → dotted_changes h e w inside ≡ dotted_changes h e w []
  dotted_gone stays d = absurd cc
  dotted_gone (loses l) d = absurd cc
  dotted_gone (becomes r) d = gone_front r.text r.front d

module _ {A : Type 0} (tells : A → ℕ → Span) (e w : Span) (inside : List Change) (y : Change) where
  abbrev Qualified : Choice → Type 0
  Qualified h = In y (qualified_changes tells h e w inside) ↔ (In y inside ⊎ In y (qualified_changes tells h e w []))

  kept_qualifier : (text : List ℕ) (front : Front) → drops_qualifier tells front ≡ false → Qualified (becomes (record { text = text; front = front }))
  kept_qualifier text same d = (λ i. in_either y inside _ i, λ u. elim u [ inl i ↦ in_left y inside _ i | inr i ↦ in_right y inside _ i ])
  kept_qualifier text by_this d = (λ i. in_either y inside _ i, λ u. elim u [ inl i ↦ in_left y inside _ i | inr i ↦ in_right y inside _ i ])
  kept_qualifier text by_super d = (λ i. in_either y inside _ i, λ u. elim u [ inl i ↦ in_left y inside _ i | inr i ↦ in_right y inside _ i ])
  kept_qualifier text (by_cast_this k) d = (λ i. in_either y inside _ i, λ u. elim u [ inl i ↦ in_left y inside _ i | inr i ↦ in_right y inside _ i ])
  kept_qualifier text (by_outer_class o k) d = (λ i. in_either y inside _ i, λ u. elim u [ inl i ↦ in_left y inside _ i | inr i ↦ in_right y inside _ i ])
  kept_qualifier text (by_cast k) d = (λ i. in_either y inside _ i, λ u. elim u [ inl i ↦ in_left y inside _ i | inr i ↦ in_right y inside _ i ])
  kept_qualifier text alone d = absurd cc
  kept_qualifier text (by_class k) d = absurd cc

  pub qualified_kept : (h : Choice) → drops_qualifier tells (front_of h) ≡ false → Qualified h
  qualified_kept stays d = (λ i. inl i, λ u. elim u [ inl i ↦ i | inr i ↦ absurd i ])
  qualified_kept (loses l) d = (λ i. inl i, λ u. elim u [ inl i ↦ i | inr i ↦ absurd i ])
  qualified_kept (becomes r) d = kept_qualifier r.text r.front d

module _ {A : Type 0} (tells : A → ℕ → Span) (e w : Span) (inside : List Change) where
  gone_qualifier : (text : List ℕ) (front : Front) → drops_qualifier tells front ≡ true → (let h : Choice = becomes (record { text = text; front = front }) in qualified_changes tells h e w inside ≡ qualified_changes tells h e w [])
  gone_qualifier text alone d = refl
  gone_qualifier text (by_class k) d = refl
  gone_qualifier text same d = absurd cc
  gone_qualifier text by_this d = absurd cc
  gone_qualifier text by_super d = absurd cc
  gone_qualifier text (by_cast_this k) d = absurd cc
  gone_qualifier text (by_outer_class o k) d = absurd cc
  gone_qualifier text (by_cast k) d = absurd cc

  pub qualified_gone : (h : Choice) → drops_qualifier tells (front_of h) ≡ true → qualified_changes tells h e w inside ≡ qualified_changes tells h e w []
  qualified_gone stays d = absurd cc
  qualified_gone (loses l) d = absurd cc
  qualified_gone (becomes r) d = gone_qualifier r.text r.front d

-- ---- wholes

abbrev pub both : {T U : Type 0} → T → U → T × U
both t u = (t, u)

module _ {A : Type 0} (tells : A → ℕ → Span) (C : Choosing A) where
  abbrev pub Chosen : Type 0
  Chosen = Place A × Choice

  pub losses_both : (xs ys : List Chosen) → losses_all tells C (xs ++ ys) ≡ losses_all tells C xs ++ losses_all tells C ys
  losses_both [] ys = refl
  losses_both (x ∷ xs) ys = ap (λ (z : List Loss). losses_of x.1 ++ z) (losses_both xs ys) ∙ sym (append_assoc (losses_of x.1) (losses_all tells C xs) (losses_all tells C ys))

  pub count_both : (xs ys : List Chosen) → count_all tells C (xs ++ ys) ≡ count_all tells C xs + count_all tells C ys
  count_both [] ys = omega arith
  count_both (x ∷ xs) ys = let rest = count_both xs ys in omega (arith, rest)

  pub edit_either : (y : Change) (xs ys : List Chosen) → IsEditOf tells C (xs ++ ys) y → IsEditOf tells C xs y ⊎ IsEditOf tells C ys y
  edit_either y [] ys i = inr i
  edit_either y (x ∷ xs) ys (inl e) = inl (inl e)
  edit_either y (x ∷ xs) ys (inr i) = elim (edit_either y xs ys i) [ inl a ↦ inl (inr a) | inr b ↦ inr b ]

  pub edit_left : (y : Change) (xs ys : List Chosen) → IsEditOf tells C xs y → IsEditOf tells C (xs ++ ys) y
  edit_left y [] ys i = absurd i
  edit_left y (x ∷ xs) ys (inl e) = inl e
  edit_left y (x ∷ xs) ys (inr i) = inr (edit_left y xs ys i)

  pub edit_right : (y : Change) (xs ys : List Chosen) → IsEditOf tells C ys y → IsEditOf tells C (xs ++ ys) y
  edit_right y [] ys i = i
  edit_right y (x ∷ xs) ys i = inr (edit_right y xs ys i)

  unfoldable pub plain_places : {T : Type 0} (t : T) → IsOfPlaces tells C (λ s. ⊥) (plain t)
  plain_places t = record {
    all = [];
    are = λ s h. (λ i. absurd i, λ x. absurd x.0);
    losses = refl;
    respelled = refl;
    edits = λ y. (λ i. i, λ i. i);
  }

  unfoldable pub moved_places : {T : Type 0} (P : Place A → Type 0) (o p : Rewritten T) → o ≡ p → IsOfPlaces tells C P p → IsOfPlaces tells C P o
  moved_places {T} P o p is x = record {
    all = x.all;
    are = x.are;
    losses = ap (λ (z : Rewritten T). z.losses) is ∙ x.losses;
    respelled = ap (λ (z : Rewritten T). z.respelled) is ∙ x.respelled;
    edits = λ y. subst (λ (cs : List Change). In y cs ↔ IsEditOf tells C x.all y) (sym (ap (λ (z : Rewritten T). z.changes) is)) (x.edits y);
  }

  unfoldable pub alike_places : {T : Type 0} (P Q : Place A → Type 0) (o : Rewritten T) → ((s : Place A) → P s ↔ Q s) → IsOfPlaces tells C P o → IsOfPlaces tells C Q o
  alike_places P Q o alike x = record {
    all = x.all;
    are = λ s h. (λ i. ((alike s).0 ((x.are s h).0 i).0, ((x.are s h).0 i).1), λ u. (x.are s h).1 ((alike s).1 u.0, u.1));
    losses = x.losses;
    respelled = x.respelled;
    edits = x.edits;
  }

  unfoldable pub within_places : {T U : Type 0} (P : Place A → Type 0) (f : T → U) (o : Rewritten T) → IsOfPlaces tells C P o → IsOfPlaces tells C P (within f o)
  within_places P f o x = record { all = x.all; are = x.are; losses = x.losses; respelled = x.respelled; edits = x.edits }

  unfoldable pub joined_places : {T U V : Type 0} (P Q : Place A → Type 0) (f : T → U → V) (o : Rewritten T) (p : Rewritten U) → IsOfPlaces tells C P o → IsOfPlaces tells C Q p → IsOfPlaces tells C (λ s. P s ⊎ Q s) (joined f o p)
  joined_places P Q f o p x z = record {
    all = x.all ++ z.all;
    are = λ s h. (
      λ i. elim (in_either (with_choice s h) x.all z.all i) [ inl a ↦ (inl ((x.are s h).0 a).0, ((x.are s h).0 a).1) | inr b ↦ (inr ((z.are s h).0 b).0, ((z.are s h).0 b).1) ],
      λ u. elim u.0 [ inl a ↦ in_left (with_choice s h) x.all z.all ((x.are s h).1 (a, u.1)) | inr b ↦ in_right (with_choice s h) x.all z.all ((z.are s h).1 (b, u.1)) ],
    );
    losses = (λ i. x.losses i ++ z.losses i) ∙ sym (losses_both x.all z.all);
    respelled = (λ i. x.respelled i + z.respelled i) ∙ sym (count_both x.all z.all);
    edits = λ y. (
      λ i. elim (in_either y o.changes p.changes i) [ inl a ↦ edit_left y x.all z.all ((x.edits y).0 a) | inr b ↦ edit_right y x.all z.all ((z.edits y).0 b) ],
      λ i. elim (edit_either y x.all z.all i) [ inl a ↦ in_left y o.changes p.changes ((x.edits y).1 a) | inr b ↦ in_right y o.changes p.changes ((z.edits y).1 b) ],
    );
  }

  -- what is chosen at a place is one thing
  abbrev pub OneEach : Type 0
  OneEach = (s : Place A) (h k : Choice) → IsChosen tells C s h → IsChosen tells C s k → h ≡ k

  module _ (one : OneEach) (s : Place A) (h : Choice) (chosen : IsChosen tells C s h) where
    pub of_it : (x : Place A) (k : Choice) → (x ≡ s) × IsChosen tells C x k → with_choice s h ≡ with_choice x k
    of_it x k (is, other) = λ i. (sym is i, one s h k chosen (subst (λ (z : Place A). IsChosen tells C z k) is other) i)

    pub is_it : (x : Place A) (k : Choice) → with_choice s h ≡ with_choice x k → (x ≡ s) × IsChosen tells C x k
    is_it x k e = (sym (ap (λ (z : Chosen). z.0) e), subst (λ (z : Chosen). IsChosen tells C z.0 z.1) e chosen)

    unfoldable pub own_places : {T : Type 0} (o : Rewritten T) → o.losses ≡ losses_of h → o.respelled ≡ count_at tells C s h → o.changes ≡ edits_at tells C s h → IsOfPlaces tells C (λ x. x ≡ s) o
    own_places o ls n cs = record {
      all = with_choice s h ∷ [];
      are = λ x k. (λ i. elim i [ inl e ↦ is_it x k e | inr i ↦ absurd i ], λ u. inl (of_it x k u));
      losses = ls ∙ sym (append-nil (losses_of h));
      respelled = omega (arith, n);
      edits = λ y. (λ i. inl (subst (λ (z : List Change). In y z) cs i), λ u. elim u [ inl i ↦ subst (λ (z : List Change). In y z) (sym cs) i | inr i ↦ absurd i ]);
    }

    -- behind what stands in front of a dot, which it drops or keeps
    module _ {T U : Type 0} (P : Place A → Type 0) (Keeps : Type 0) (p : Rewritten T) (o : Rewritten U) (inner : IsOfPlaces tells C P p) where
      abbrev Behind : Place A → Type 0
      Behind x = (Keeps × P x) ⊎ (x ≡ s)

      unfoldable pub behind_places : (drop : Bool) → (drop ≡ false → Keeps) → (drop ≡ true → Keeps → ⊥) → o.losses ≡ (if drop then [] else p.losses) ++ losses_of h → o.respelled ≡ (if drop then 0 else p.respelled) + count_at tells C s h
          → (drop ≡ false → (y : Change) → In y o.changes ↔ (In y p.changes ⊎ In y (edits_at tells C s h))) → (drop ≡ true → o.changes ≡ edits_at tells C s h) → IsOfPlaces tells C Behind o
      behind_places true gives never ls n kept gone = record {
        all = with_choice s h ∷ [];
        are = λ x k. (
          λ i. elim i [ inl e ↦ (inr (is_it x k e).0, (is_it x k e).1) | inr i ↦ absurd i ],
          λ u. elim u.0 [ inl a ↦ absurd (never refl a.0) | inr is ↦ inl (of_it x k (is, u.1)) ],
        );
        losses = ls ∙ sym (append-nil (losses_of h));
        respelled = omega (arith, n);
        edits = λ y. (λ i. inl (subst (λ (z : List Change). In y z) (gone refl) i), λ u. elim u [ inl i ↦ subst (λ (z : List Change). In y z) (sym (gone refl)) i | inr i ↦ absurd i ]);
      }
      behind_places false gives never ls n kept gone = record {
        all = inner.all ++ with_choice s h ∷ [];
        are = λ x k. (
          λ i. elim (in_either (with_choice x k) inner.all (with_choice s h ∷ []) i) [
            | inl a ↦ (inl (gives refl, ((inner.are x k).0 a).0), ((inner.are x k).0 a).1)
            | inr b ↦ elim b [ inl e ↦ (inr (is_it x k e).0, (is_it x k e).1) | inr i ↦ absurd i ]
          ],
          λ u. elim u.0 [ inl a ↦ in_left (with_choice x k) inner.all (with_choice s h ∷ []) ((inner.are x k).1 (a.1, u.1)) | inr is ↦ in_right (with_choice x k) inner.all (with_choice s h ∷ []) (inl (of_it x k (is, u.1))) ],
        );
        losses = ls ∙ (λ i. inner.losses i ++ sym (append-nil (losses_of h)) i) ∙ sym (losses_both inner.all (with_choice s h ∷ []));
        respelled = (let a = inner.respelled in let b = count_both inner.all (with_choice s h ∷ []) in omega (arith, n, a, b));
        edits = λ y. (
          λ i. elim ((kept refl y).0 i) [ inl a ↦ edit_left y inner.all (with_choice s h ∷ []) ((inner.edits y).0 a) | inr b ↦ edit_right y inner.all (with_choice s h ∷ []) (inl b) ],
          λ i. elim (edit_either y inner.all (with_choice s h ∷ []) i) [ inl a ↦ (kept refl y).1 (inl ((inner.edits y).1 a)) | inr b ↦ elim b [ inl e ↦ (kept refl y).1 (inr e) | inr z ↦ absurd z ] ],
        );
      }
