-- The tests of access and of static contexts decide what they are for.
use Rattle.std.proofs.Common.{◌≡◌, ◌≢◌, ℕ, List, Option, Some, None, Bool, true, false, refl, sym, ap, subst, ◌∙◌, inl, inr, eq-eqb, eqb-true}
use Rattle.std.specs.Prelude.{◌⊎◌, ◌↔◌, ◌&&◌, ◌||◌, ◌==◌, not, slice_get, unwrap_or}
use Rattle.jr_table.specs.declared.entries.Entry.{Entry}
use Rattle.jr_table.specs.Chains.{outer_of}
use Rattle.jr_table.specs.Members.{IsPrivate}
use Rattle.jr_table.specs.Looking.{is_private_at}
use Rattle.jr_table.specs.Access.{IsTopAround, IsWithin, IsAccessible, IsInstance, LacksObject, top_around, is_within_entry, is_within, is_accessible, is_instance_entry, lacks_object}
use Rattle.jr_table.proofs.MemberLaws.{private_is, not_private}

module _ (rows : List Entry) where
  top_is : (c : ℕ) → IsTopAround rows c (top_around rows c)
  top_is c = by (outer_of rows c) refl
    where
      by : (o : Option ℕ) → outer_of rows c ≡ o → ((outer_of rows c ≡ None) × (unwrap_or o c ≡ c)) ⊎ (outer_of rows c ≡ Some (unwrap_or o c))
      by None e = inl (e, refl)
      by (Some t) e = inr e

  one_top : (c t : ℕ) → IsTopAround rows c t → t ≡ top_around rows c
  one_top c t (inl (e, s)) = s ∙ sym (ap (λ o. unwrap_or o c) e)
  one_top c t (inr e) = sym (ap (λ o. unwrap_or o c) e)

  within_is : (place j : ℕ) → is_within rows place j ≡ true → IsWithin rows place j
  within_is place j h = of (slice_get rows j) refl h
    where
      of : (o : Option Entry) → slice_get rows j ≡ o → is_within_entry rows place o ≡ true → IsWithin rows place j
      of None e h = absurd cc
      of (Some r) e h =
          let same : top_around rows r.class ≡ top_around rows place = eqb-true (top_around rows r.class) (top_around rows place) h in
          record { row = r; stands = e; top = top_around rows place; around_row = subst (IsTopAround rows r.class) same (top_is r.class); around_place = top_is place }

  is_within_is : (place j : ℕ) → IsWithin rows place j → is_within rows place j ≡ true
  is_within_is place j w =
      let same : top_around rows w.row.class ≡ top_around rows place = sym (one_top w.row.class w.top w.around_row) ∙ one_top place w.top w.around_place in
      ap (is_within_entry rows place) w.stands ∙ eq-eqb (top_around rows w.row.class) (top_around rows place) same

  pub accessible : (place j : ℕ) → (is_accessible rows place j ≡ true) ↔ IsAccessible rows place j
  unfolding is_accessible
  accessible place j = (to (is_private_at rows j) refl, back (is_private_at rows j) refl)
    where
      to : (b : Bool) → is_private_at rows j ≡ b → (not b || is_within rows place j) ≡ true → IsPrivate rows j → IsWithin rows place j
      to true e h p = within_is place j h
      to false e h p = absurd (not_private rows j e p)

      back : (b : Bool) → is_private_at rows j ≡ b → (IsPrivate rows j → IsWithin rows place j) → (not b || is_within rows place j) ≡ true
      back true e h = is_within_is place j (h (private_is rows j e))
      back false e h = refl

  instance_is : (j : ℕ) → is_instance_entry (slice_get rows j) ≡ true → IsInstance rows j
  instance_is j h = of (slice_get rows j) refl h
    where
      static : (b : Bool) → not b ≡ true → b ≡ false
      static true h = absurd cc
      static false h = refl

      of : (o : Option Entry) → slice_get rows j ≡ o → is_instance_entry o ≡ true → IsInstance rows j
      of None e h = absurd cc
      of (Some r) e h = record { row = r; stands = e; instance = static r.is_static h }

  is_instance : (j : ℕ) → IsInstance rows j → is_instance_entry (slice_get rows j) ≡ true
  is_instance j h = ap is_instance_entry h.stands ∙ ap not h.instance

  module _ (place : ℕ) (is_static : Bool) where
    pub lacks : (e j : ℕ) → (lacks_object rows place is_static e j ≡ true) ↔ LacksObject rows place is_static e j
    unfolding lacks_object
    lacks e j = (both (is_instance_entry (slice_get rows j)) refl, λ h. ap (λ b. b && (is_static || not (e == place))) (is_instance j h.0) ∙ back h.1)
      where
        either : (a : Bool) → is_static ≡ a → (b : Bool) → (e == place) ≡ b → (a || not b) ≡ true → (is_static ≡ true) ⊎ (e ≢ place)
        either true x b y h = inl x
        either false x true y h = absurd cc
        either false x false y h = inr (λ z. let t = eq-eqb e place z in absurd cc)

        both : (a : Bool) → is_instance_entry (slice_get rows j) ≡ a → (a && (is_static || not (e == place))) ≡ true → LacksObject rows place is_static e j
        both true x h = (instance_is j x, either is_static refl (e == place) refl h)
        both false x h = absurd cc

        differs : (b : Bool) → (e == place) ≡ b → e ≢ place → not b ≡ true
        differs true x n = absurd (n (eqb-true e place x))
        differs false x n = refl

        or_true : (a b : Bool) → b ≡ true → (a || b) ≡ true
        or_true true b h = refl
        or_true false b h = h

        back : ((is_static ≡ true) ⊎ (e ≢ place)) → (is_static || not (e == place)) ≡ true
        back (inl x) = ap (λ b. b || not (e == place)) x
        back (inr n) = or_true is_static (not (e == place)) (differs (e == place) refl n)
