-- What was bound of a member that is spared, in a file that stays, is bound of it.
use Rattle.std.proofs.Common.{◌≡◌, ℕ, zero, suc, ◌<◌, List, [], ◌∷◌, length, get_or, map, Bool, refl, sym, ap, subst, ◌∙◌, arith, inl, inr}
use Rattle.std.specs.Prelude.{slice_get, Some}
use Rattle.std.proofs.lemmas.Option.{slice_get-get_or}
use Rattle.jr_text.specs.declared.spans.Span.{Span}
use Rattle.jr_lex.specs.declared.items.Item.{Item}
use Rattle.jr_table.specs.Rows.{Row}
use Rattle.jr_table.specs.Conditions.{AreRows}
use Rattle.jr_table.specs.Errors.{part_mark}
use Rattle.jr_members.specs.Parts.{Placed}
use Rattle.jr_members.specs.WrittenMembers.{WrittenMember, written_members}
use Rattle.jr_bind.specs.Bounds.{IsBound}
use Rattle.jr_program_laws.specs.FileParts.{begins}
use Rattle.jr_program.specs.declared.bounds.MemberBound.{MemberBound}
use Rattle.jr_program.specs.Members.{IsSuperPlace, IsEachBound, AreEachBound}
use Rattle.jr_mentions.specs.Apart.{AreApart}
use Rattle.jr_cache.specs.Lasting.{BoundsLast}
use Rattle.jr_cache.specs.Rebinding.{IsRebinding}
use Rattle.jr_cache.specs.RebindSteps.{IsSpared, Keeps, AreOfSameFiles, IsRebound, AreRebound}
use Rattle.jr_cache.proofs.SamePlaces.{file_of, place_of, same_place}
use Rattle.jr_cache.proofs.SideBySide.{all_zip, zip_at, zip_long}

-- bounds of one file each
same_files : (rows : List Row) (files : List (List Item)) (ws : List (WrittenMember Span)) (bs : List MemberBound) (vs : List (WrittenMember Span)) → AreEachBound rows files ws bs → length vs ≡ length bs
    → ((n : ℕ) (v : WrittenMember Span) (b : MemberBound) → n < length vs → (get_or vs n v).file ≡ (get_or bs n b).file) → map file_of ws ≡ map file_of vs
same_files rows files [] [] [] h e f = refl
same_files rows files [] [] (v ∷ vs) h e f = absurd (omega (arith, e))
same_files rows files [] (b ∷ bs) vs h e f = absurd h
same_files rows files (w ∷ ws) [] vs h e f = absurd h
same_files rows files (w ∷ ws) (b ∷ bs) [] h e f = absurd (omega (arith, e))
same_files rows files (w ∷ ws) (b ∷ bs) (v ∷ vs) h e f =
    let here : w.file ≡ v.file = sym h.0.is.file ∙ sym (f 0 v b (omega arith)) in
    let rest = same_files rows files ws bs vs h.1 (omega (arith, e)) (λ n x y lt. f (suc n) x y (omega (arith, lt))) in
    λ i. here i ∷ rest i

module _ (lasts : BoundsLast Span) (names : List (List ℕ)) (before rows : List Row) (are : AreRows before) (are_after : AreRows rows) (apart : AreApart names before rows) where
  keeps_bound : (files_before files : List (List Item)) (w v : WrittenMember Span) → place_of w ≡ place_of v → (b : MemberBound) → IsEachBound before files_before w b → b.bound.member ≡ v.key → IsSpared names v
      → slice_get files_before v.file ≡ slice_get files v.file → IsEachBound rows files v b
  keeps_bound files_before files w v same b e key spared stays =
      let file : w.file ≡ v.file = ap (λ (p : Placed Span). p.file) same in
      let base : w.base ≡ v.base = ap (λ (p : Placed Span). p.base) same in
      let part : w.part ≡ v.part = ap (λ (p : Placed Span). p.part) same in
      let its_key : w.key ≡ v.key = sym e.is.bound.member ∙ key in
      let bound : IsBound begins before b.super_at v.key v.base v.part b.bound =
      subst (λ p. IsBound begins before b.super_at v.key v.base p b.bound) part
      (subst (λ n. IsBound begins before b.super_at v.key n w.part b.bound) base
      (subst (λ k. IsBound begins before b.super_at k w.base w.part b.bound) its_key e.is.bound)) in
      record {
        items = e.items;
        stands = sym stays ∙ ap (slice_get files_before) (sym file) ∙ e.stands;
        place = subst (λ p. IsSuperPlace e.items p b.super_at) part e.place;
        is = record {
          file = e.is.file ∙ file;
          start = e.is.start ∙ (λ i. begins (part_mark (part i)) (base i));
          bound = lasts begins names before rows are are_after apart b.super_at v.key v.base v.part spared.clean spared.avoids b.bound bound;
        };
      }

  pub are_rebound : (files : List (List Item)) (written : List (WrittenMember Span)) (stays : List Bool) (earlier new : List MemberBound) → IsRebinding before rows files written stays earlier
      → AreOfSameFiles written earlier → AreRebound rows files names stays written earlier new → AreEachBound rows files written new
  are_rebound files written stays earlier new again of_files made =
      let ws : List (WrittenMember Span) = written_members begins before again.units_before in
      let long = zip_long (IsEachBound before again.files_before) ws earlier again.bound in
      let count = of_files.count in
      let numbers : map file_of ws ≡ map file_of (written_members begins rows again.units) = same_files before again.files_before ws earlier written again.bound of_files.count of_files.file ∙ ap (map file_of) again.is in
      let kept : (i : ℕ) (v : WrittenMember Span) (b : MemberBound) → i < length written → Keeps names stays (get_or written i v) (get_or earlier i b) → IsEachBound rows files (get_or written i v) (get_or earlier i b) = λ i v b lt k.
      (let x : WrittenMember Span = get_or written i v in
      let within : i < length earlier = omega (arith, lt, count) in
      let w : WrittenMember Span = get_or ws i v in
      let was = zip_at (IsEachBound before again.files_before) ws earlier again.bound i v b within in
      let there : slice_get (written_members begins rows again.units) i ≡ Some x = sym (ap (λ ms. slice_get ms i) again.is) ∙ slice_get-get_or written i v lt in
      let same = same_place begins before rows again.units_before again.units numbers i w x (slice_get-get_or ws i v (omega (arith, within, long))) there (again.unit_stays x.file k.file) in
      keeps_bound again.files_before files w x same (get_or earlier i b) was k.key k.spared (again.items_stay x.file k.file)) in
      let each : (i : ℕ) (v : WrittenMember Span) (b : MemberBound) → i < length written → IsRebound rows files names stays (get_or written i v) (get_or earlier i b) (get_or new i b) → IsEachBound rows files (get_or written i v) (get_or new i b) = λ i v b lt h. elim h [
        | inl k ↦ subst (IsEachBound rows files (get_or written i v)) (sym k.0) (kept i v b lt k.1)
        | inr e ↦ e
      ] in
      all_zip (IsEachBound rows files) written new (count ∙ sym made.count) (λ i v b lt. each i v b lt (made.each i v b lt))
