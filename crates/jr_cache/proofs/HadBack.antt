-- What was replaced is put back.
use Rattle.std.proofs.Common.{◌≡◌, ℕ, List, [], ◌∷◌, ◌++◌, length, refl, sym, ap, ◌∙◌, arith}
use Rattle.std.specs.Prelude.{slice_set, slice_get, Some}
use Rattle.std.proofs.lemmas.List.{set-set, set-get_or}
use Rattle.std.proofs.lemmas.Option.{get_or_from_slice_get}
use Rattle.jr_program.specs.declared.bounds.MemberBound.{MemberBound}
use Rattle.jr_cache.specs.declared.former.Replaced.{Replaced}
use Rattle.jr_cache.specs.HadBack.{with_replaced}

pub replaced_more : (xs ys : List Replaced) (bs : List MemberBound) → with_replaced (xs ++ ys) bs ≡ with_replaced xs (with_replaced ys bs)
replaced_more [] ys bs = refl
replaced_more (r ∷ xs) ys bs = ap (λ (cs : List MemberBound). slice_set cs r.number r.bound) (replaced_more xs ys bs)

-- one more is replaced
pub one_replaced : (xs : List Replaced) (bs : List MemberBound) (n : ℕ) (new was : MemberBound) → slice_get bs n ≡ Some was → with_replaced (xs ++ record { number = n; bound = was } ∷ []) (slice_set bs n new) ≡ with_replaced xs bs
one_replaced xs bs n new was is =
    replaced_more xs (record { number = n; bound = was } ∷ []) (slice_set bs n new)
    ∙ ap (λ (cs : List MemberBound). with_replaced xs cs) (set-set bs n new was ∙ ap (λ (b : MemberBound). slice_set bs n b) (sym (get_or_from_slice_get bs n was was is)) ∙ set-get_or bs n was)

-- the last is put back
pub one_back : (rest all : List Replaced) (last : Replaced) (bs cs : List MemberBound) → all ≡ rest ++ last ∷ [] → cs ≡ slice_set bs last.number last.bound → with_replaced rest cs ≡ with_replaced all bs
one_back rest all last bs cs had put =
    ap (λ (ds : List MemberBound). with_replaced rest ds) put ∙ sym (replaced_more rest (last ∷ []) bs) ∙ ap (λ (rs : List Replaced). with_replaced rs bs) (sym had)

pub none_left : (rs : List Replaced) → length rs ≡ 0 → rs ≡ []
none_left [] e = refl
none_left (r ∷ rs) e = absurd (omega (arith, e))
