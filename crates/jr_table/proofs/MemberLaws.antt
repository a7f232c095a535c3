-- What is found by looking for it, class by class, is the member, or the nearest.
use Rattle.std.proofs.Common.{◌≡◌, ℕ, List, [], ◌∷◌, Option, Some, None, Bool, true, false, cond, refl, sym, ap, subst, ◌∙◌, inl, inr}
use Rattle.std.specs.Prelude.{slice_get, MatchOption}
use Rattle.jr_table.specs.declared.entries.Entry.{Entry}
use Rattle.jr_table.specs.Chains.{IsChain, IsAcyclic, chain_of}
use Rattle.jr_table.specs.Members.{IsPrivate, MemberAmong, IsMember, NearestAmong, IsNearest}
use Rattle.jr_table.specs.Looking.{is_private_at, first_of, inherited, own_row, nearest_among, member_among, nearest, member}
use Rattle.jr_table.proofs.Chaining.{one_chain}

-- what an answer says
abbrev pub Says : (ℕ → Type 0) → Option ℕ → Type 0
Says P o = MatchOption o ((j : ℕ) → P j → ⊥) P

module _ (rows : List Entry) where
  pub private_is : (j : ℕ) → is_private_at rows j ≡ true → IsPrivate rows j
  private_is j h = of (slice_get rows j) refl h
    where
      is_private_entry : Option Entry → Bool
      is_private_entry None = false
      is_private_entry (Some e) = e.is_private

      of : (o : Option Entry) → slice_get rows j ≡ o → is_private_entry o ≡ true → IsPrivate rows j
      of None e h = absurd cc
      of (Some r) e h = record { row = r; stands = e; private = h }

  pub is_private : (j : ℕ) → IsPrivate rows j → is_private_at rows j ≡ true
  is_private j p = ap is_private_entry p.stands ∙ p.private
    where
      is_private_entry : Option Entry → Bool
      is_private_entry None = false
      is_private_entry (Some e) = e.is_private

  pub not_private : (j : ℕ) → is_private_at rows j ≡ false → IsPrivate rows j → ⊥
  not_private j h p = let e = is_private j p in absurd cc

  module _ (Own : ℕ → ℕ → Type 0) where
    pub to_nearest : (chain : List ℕ) (j : ℕ) → MemberAmong rows Own chain j → NearestAmong rows Own chain j
    to_nearest [] j h = h
    to_nearest (c ∷ cs) j (inl d) = inl d
    to_nearest (c ∷ cs) j (inr (none, h, visible)) = inr (none, to_nearest cs j h)

    pub to_member : (chain : List ℕ) (j : ℕ) → (IsPrivate rows j → ⊥) → NearestAmong rows Own chain j → MemberAmong rows Own chain j
    to_member [] j visible h = h
    to_member (c ∷ cs) j visible (inl d) = inl d
    to_member (c ∷ cs) j visible (inr (none, h)) = inr (none, to_member cs j visible h, visible)

    module _ (test : ℕ → Entry → Bool) (says : (c : ℕ) → Says (Own c) (own_row rows test c)) (one : (c i j : ℕ) → Own c i → Own c j → i ≡ j) where
      pub one_nearest_among : (chain : List ℕ) (i j : ℕ) → NearestAmong rows Own chain i → NearestAmong rows Own chain j → i ≡ j
      one_nearest_among [] i j h k = absurd h
      one_nearest_among (c ∷ cs) i j (inl d) (inl e) = one c i j d e
      one_nearest_among (c ∷ cs) i j (inl d) (inr (none, k)) = absurd (none i d)
      one_nearest_among (c ∷ cs) i j (inr (none, h)) (inl e) = absurd (none j e)
      one_nearest_among (c ∷ cs) i j (inr (none, h)) (inr (none', k)) = one_nearest_among cs i j h k

      pub among_nearest : (chain : List ℕ) → Says (NearestAmong rows Own chain) (nearest_among rows test chain)
      among_nearest [] = λ j h. h
      among_nearest (c ∷ cs) = by (own_row rows test c) (says c) (nearest_among rows test cs) (among_nearest cs)
        where
          by : (o : Option ℕ) → Says (Own c) o → (p : Option ℕ) → Says (NearestAmong rows Own cs) p → Says (NearestAmong rows Own (c ∷ cs)) (first_of o p)
          by (Some j) d p more = inl d
          by None none None missing = no
            where
              no : (j : ℕ) → NearestAmong rows Own (c ∷ cs) j → ⊥
              no j (inl d) = none j d
              no j (inr (own, h)) = missing j h
          by None none (Some k) h = inr (none, h)

      pub among_members : (chain : List ℕ) → Says (MemberAmong rows Own chain) (member_among rows test chain)
      among_members [] = λ j h. h
      among_members (c ∷ cs) = by (own_row rows test c) (says c) (nearest_among rows test cs) (among_nearest cs)
        where
          by : (o : Option ℕ) → Says (Own c) o → (p : Option ℕ) → Says (NearestAmong rows Own cs) p → Says (MemberAmong rows Own (c ∷ cs)) (first_of o (inherited rows p))
          by (Some j) d p more = inl d
          by None none None missing = no
            where
              no : (j : ℕ) → MemberAmong rows Own (c ∷ cs) j → ⊥
              no j (inl d) = none j d
              no j (inr (own, h, visible)) = missing j (to_nearest cs j h)
          by None none (Some k) h = pick (is_private_at rows k) refl
            where
              pick : (b : Bool) → is_private_at rows k ≡ b → Says (MemberAmong rows Own (c ∷ cs)) (cond b None (Some k))
              pick true e = no
                where
                  no : (j : ℕ) → MemberAmong rows Own (c ∷ cs) j → ⊥
                  no j (inl d) = none j d
                  no j (inr (own, other, visible)) = visible (subst (IsPrivate rows) (one_nearest_among cs k j h (to_nearest cs j other)) (private_is k e))
              pick false e = inr (none, to_member cs k (not_private k e) h, not_private k e)

      module _ (acyclic : IsAcyclic rows) where
        pub nearest_says : (c : ℕ) → Says (IsNearest rows Own c) (nearest rows test c)
        unfolding nearest
        nearest_says c = of (nearest_among rows test (chain_of rows c)) (among_nearest (chain_of rows c))
          where
            of : (o : Option ℕ) → Says (NearestAmong rows Own (chain_of rows c)) o → Says (IsNearest rows Own c) o
            of None none = λ j m. none j (subst (λ (cs : List ℕ). NearestAmong rows Own cs j) (one_chain rows c m.chain (chain_of rows c) m.goes_up (acyclic c)) m.among)
            of (Some j) h = record { chain = chain_of rows c; goes_up = acyclic c; among = h }

        pub member_says : (c : ℕ) → Says (IsMember rows Own c) (member rows test c)
        unfolding member
        member_says c = of (member_among rows test (chain_of rows c)) (among_members (chain_of rows c))
          where
            of : (o : Option ℕ) → Says (MemberAmong rows Own (chain_of rows c)) o → Says (IsMember rows Own c) o
            of None none = λ j m. none j (subst (λ (cs : List ℕ). MemberAmong rows Own cs j) (one_chain rows c m.chain (chain_of rows c) m.goes_up (acyclic c)) m.among)
            of (Some j) h = record { chain = chain_of rows c; goes_up = acyclic c; among = h }

        pub one_nearest : (c i j : ℕ) → IsNearest rows Own c i → IsNearest rows Own c j → i ≡ j
        one_nearest c i j m n = one_nearest_among n.chain i j (subst (λ (cs : List ℕ). NearestAmong rows Own cs i) (one_chain rows c m.chain n.chain m.goes_up n.goes_up) m.among) n.among

        pub one_member : (c i j : ℕ) → IsMember rows Own c i → IsMember rows Own c j → i ≡ j
        one_member c i j m n = one_nearest_among n.chain i j
            (to_nearest n.chain i (subst (λ (cs : List ℕ). MemberAmong rows Own cs i) (one_chain rows c m.chain n.chain m.goes_up n.goes_up) m.among))
            (to_nearest n.chain j n.among)
