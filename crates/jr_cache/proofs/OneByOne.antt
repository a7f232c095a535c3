-- Bounds as members are gone through.
use Rattle.std.proofs.Common.{◌≡◌, ℕ, ◌+◌, ◌<◌, ◌≤◌, List, length, get_or, map, Bool, refl, sym, ap, subst, ◌∙◌, arith, inl, inr}
use Rattle.std.specs.Prelude.{slice_get, slice_set, Some}
use Rattle.std.proofs.lemmas.Bool.{cases_lt}
use Rattle.std.proofs.lemmas.List.{get_or_default, get_or-map, length-map, length-set, get_or-set_same, get_or-set_other}
use Rattle.std.proofs.lemmas.Option.{get_or_from_slice_get}
use Rattle.jr_text.specs.declared.spans.Span.{Span}
use Rattle.jr_lex.specs.declared.items.Item.{Item}
use Rattle.jr_table.specs.Rows.{Row}
use Rattle.jr_members.specs.WrittenMembers.{WrittenMember}
use Rattle.jr_program.specs.declared.bounds.MemberBound.{MemberBound}
use Rattle.jr_program.specs.Members.{IsEachBound}
use Rattle.jr_cache.specs.RebindSteps.{Keeps, RebindsOne, IsRebound, AreRebound, AreOfSameFiles}

module _ (rows : List Row) (files : List (List Item)) (names : List (List ℕ)) (stays : List Bool) (ws : List (WrittenMember Span)) where
  -- those before this number are bound, the others are as they were
  pub record AreReboundTo (i : ℕ) (old new : List MemberBound) : Type 0 where
    pub count : length new ≡ length old
    pub each : (n : ℕ) (w : WrittenMember Span) (b : MemberBound) → n < i → IsRebound rows files names stays (get_or ws n w) (get_or old n b) (get_or new n b)
    pub rest : (n : ℕ) (b : MemberBound) → i ≤ n → get_or new n b ≡ get_or old n b

  pub all_done : (i : ℕ) (old new : List MemberBound) → length ws ≤ i → AreReboundTo i old new → AreRebound rows files names stays ws old new
  all_done i old new le h = record { count = h.count; each = λ n w b lt. h.each n w b (omega (arith, lt, le)) }

  module _ (i : ℕ) (old now next : List MemberBound) (x : WrittenMember Span) (within : i < length old) (there : (d : WrittenMember Span) → get_or ws i d ≡ x) (so_far : AreReboundTo i old now) where
    -- those before it, and this one
    by_cases : (n : ℕ) (P : Type 0) → n < i + 1 → (n < i → P) → (n ≡ i → P) → P
    by_cases n P lt f g = elim (cases_lt n i) [
      | inl less ↦ f less
      | inr le ↦ g (omega (arith, lt, le))
    ]

    kept : (b : MemberBound) → slice_get now i ≡ Some b → Keeps names stays x b → next ≡ now → AreReboundTo (i + 1) old next
    kept b at keeps same = subst (AreReboundTo (i + 1) old) (sym same) (record {
      count = so_far.count;
      each = λ n w c lt. by_cases n (IsRebound rows files names stays (get_or ws n w) (get_or old n c) (get_or now n c)) lt (so_far.each n w c) (λ e. subst (λ k. IsRebound rows files names stays (get_or ws k w) (get_or old k c) (get_or now k c)) (sym e) (inl (
        so_far.rest i c (omega arith),
        subst (λ (v : WrittenMember Span). Keeps names stays v (get_or old i c)) (sym (there w)) (subst (Keeps names stays x) (sym (get_or_from_slice_get now i b c at) ∙ so_far.rest i c (omega arith)) keeps),
      )));
      rest = λ n c le. so_far.rest n c (omega (arith, le));
    })

    put : (b : MemberBound) → IsEachBound rows files x b → next ≡ slice_set now i b → AreReboundTo (i + 1) old next
    put b is set =
        let long = so_far.count in
        let less : i < length now = omega (arith, within, long) in
        subst (AreReboundTo (i + 1) old) (sym set) (record {
          count = length-set now i b ∙ so_far.count;
          each = λ n w c lt. by_cases n (IsRebound rows files names stays (get_or ws n w) (get_or old n c) (get_or (slice_set now i b) n c)) lt
              (λ low. subst (IsRebound rows files names stays (get_or ws n w) (get_or old n c)) (sym (get_or-set_other now i n b c (λ e. omega (arith, low, e)))) (so_far.each n w c low))
              (λ e. subst (λ k. IsRebound rows files names stays (get_or ws k w) (get_or old k c) (get_or (slice_set now i b) k c)) (sym e) (inr (
              subst (λ (v : WrittenMember Span). IsEachBound rows files v (get_or (slice_set now i b) i c)) (sym (there w)) (subst (IsEachBound rows files x) (sym (get_or-set_same now i b c less)) is)
              )));
          rest = λ n c le. get_or-set_other now i n b c (λ e. omega (arith, le, e)) ∙ so_far.rest n c (omega (arith, le));
        })

    pub one_more : RebindsOne rows files names stays x i now next → AreReboundTo (i + 1) old next
    one_more (inl (b, at, keeps, same)) = kept b at keeps same
    one_more (inr (b, is, set)) = put b is set

-- an element among the images
pub image_at : {X : Type 0} (f : X → WrittenMember Span) (xs : List X) (i : ℕ) (x : X) → i < length xs → x ≡ get_or xs i x → (d : WrittenMember Span) → get_or (map f xs) i d ≡ f x
image_at f xs i x lt is d = get_or-map f xs i x d lt ∙ ap f (sym is)

-- the same as images are gone through
module _ {X : Type 0} (f : X → WrittenMember Span) (xs : List X) where
  pub step : (rows : List Row) (files : List (List Item)) (names : List (List ℕ)) (stays : List Bool) (i : ℕ) (old now next : List MemberBound) (x : X) → length xs ≡ length old → i < length xs → x ≡ get_or xs i x
      → AreReboundTo rows files names stays (map f xs) i old now → RebindsOne rows files names stays (f x) i now next → AreReboundTo rows files names stays (map f xs) (i + 1) old next
  step rows files names stays i old now next x count lt is so_far made =
      one_more rows files names stays (map f xs) i old now next (f x) (omega (arith, count, lt)) (image_at f xs i x lt is) so_far made

  pub last : (rows : List Row) (files : List (List Item)) (names : List (List ℕ)) (stays : List Bool) (i : ℕ) (old new : List MemberBound) → length xs ≤ i
      → AreReboundTo rows files names stays (map f xs) i old new → AreRebound rows files names stays (map f xs) old new
  last rows files names stays i old new le h = let many = length-map xs f in all_done rows files names stays (map f xs) i old new (omega (arith, le, many)) h

  -- ---- of one file each, up to a number

  abbrev pub AreSameTo : List MemberBound → (i : ℕ) → Type 0
  AreSameTo bs i = (n : ℕ) (w : WrittenMember Span) (b : MemberBound) → n < i → (get_or (map f xs) n w).file ≡ (get_or bs n b).file

  pub more_same : (bs : List MemberBound) (i : ℕ) (x : X) (c : MemberBound) → i < length xs → i < length bs → (f (get_or xs i x)).file ≡ (get_or bs i c).file → AreSameTo bs i → AreSameTo bs (i + 1)
  more_same bs i x c lt less same so_far n w b below = elim (cases_lt n i) [
    | inl before ↦ so_far n w b before
    | inr le ↦ (let here : n ≡ i = omega (arith, below, le) in
        let first : (get_or (map f xs) i w).file ≡ (f (get_or xs i x)).file = ap (λ (v : WrittenMember Span). v.file) (get_or-map f xs i x w lt) in
        let second : (get_or bs i b).file ≡ (get_or bs i c).file = ap (λ (v : MemberBound). v.file) (get_or_default bs i b c less) in
        subst (λ k. (get_or (map f xs) k w).file ≡ (get_or bs k b).file) (sym here) (first ∙ same ∙ sym second))
  ]

  pub all_same : (bs : List MemberBound) (i : ℕ) → length xs ≡ length bs → length xs ≤ i → AreSameTo bs i → AreOfSameFiles (map f xs) bs
  all_same bs i count le h = let many = length-map xs f in record { count = many ∙ count; file = λ n w b lt. h n w b (omega (arith, le, lt, many)) }

  pub as_many : (bs : List MemberBound) → AreOfSameFiles (map f xs) bs → length xs ≡ length bs
  as_many bs h = let many = length-map xs f in sym many ∙ h.count
