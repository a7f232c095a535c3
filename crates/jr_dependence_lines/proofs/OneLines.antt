-- Written members have one list of lines, or one first member with too many sites, and never both.
use Rattle.std.proofs.Common.{◌≡◌, ◌<◌, ◌≤◌, ℕ, List, [], ◌∷◌, ◌++◌, sym, ap, subst, ◌∙◌, arith}
use Rattle.jr_text.specs.declared.spans.Span.{Span}
use Rattle.jr_lex.specs.declared.items.Item.{Item}
use Rattle.jr_table.specs.Decls.{MemberKey}
use Rattle.jr_table.specs.Rows.{Row}
use Rattle.jr_table.specs.Errors.{Part, class_part, member_part}
use Rattle.jr_cover.specs.Ways.{size}
use Rattle.jr_members.specs.WrittenMembers.{WrittenMember}
use Rattle.jr_program.specs.Members.{EachOf}
use Rattle.jr_dependence_lines.specs.Lines.{Line}
use Rattle.jr_dependence_lines.specs.LineLaws.{LinesAreOne, LargeIsOne, NeverBoth}
use Rattle.jr_dependence_lines.specs.MemberLines.{PartHasLines, PartHasFewSites, PartHasTooManySites, HasLines, HasFewSites, HasTooManySites, HaveLines}
use Rattle.jr_dependence_lines.specs.WayLines.{AreWayLines, most_sites}
use Rattle.jr_dependence_lines.proofs.OneGiven.{both_hold}
use Rattle.jr_dependence_lines.proofs.OneWay.{one_way_lines}

module _ (rows : List Row) (items : List Item) where
  part_lines : (key : MemberKey) (base : ℕ) (part : Part Span) (xs ys : List Line) → PartHasLines rows items key base part xs → PartHasLines rows items key base part ys → xs ≡ ys
  part_lines key base (class_part c) xs ys h k = h ∙ sym k
  part_lines key base (member_part x) xs ys h k =
      let b = both_hold rows items key base x (λ g w. AreWayLines g w xs) (λ g w. AreWayLines g w ys) h k in
      one_way_lines b.0 b.1 xs ys b.2 b.3

  part_count : (key : MemberKey) (base : ℕ) (part : Part Span) (m n : ℕ) → PartHasTooManySites rows items key base part m → PartHasTooManySites rows items key base part n → m ≡ n
  part_count key base (class_part c) m n h k = absurd h
  part_count key base (member_part x) m n h k =
      let b = both_hold rows items key base x (λ g w. (most_sites < size w) × (m ≡ size w)) (λ g w. (most_sites < size w) × (n ≡ size w)) h k in
      b.2.1 ∙ sym b.3.1

  few_or_many : (key : MemberKey) (base : ℕ) (part : Part Span) (n : ℕ) → PartHasFewSites rows items key base part → PartHasTooManySites rows items key base part n → ⊥
  few_or_many key base (class_part c) n h k = k
  few_or_many key base (member_part x) n h k =
      let b = both_hold rows items key base x (λ g w. size w ≤ most_sites) (λ g w. (most_sites < size w) × (n ≡ size w)) h k in
      let le = b.2 in
      let lt = b.3.0 in
      omega (arith, le, lt)

  pub lines_few : (key : MemberKey) (base : ℕ) (part : Part Span) (lines : List Line) → PartHasLines rows items key base part lines → PartHasFewSites rows items key base part
  lines_few key base (class_part c) lines h = tt
  lines_few key base (member_part x) lines h = record { super_at = h.super_at; given = h.given; known = h.known; holds = λ k o is numbers. (h.holds k o is numbers).few }

  -- ---- several

  pub one_lines : (ws : List (WrittenMember Span)) (xs ys : List Line) → HaveLines rows items ws xs → HaveLines rows items ws ys → xs ≡ ys
  one_lines [] xs ys h k = h ∙ sym k
  one_lines (w ∷ ws) xs ys (a, b, own, rest, is) (c, d, own', rest', is') =
      let front : a ≡ c = part_lines w.key w.base w.part a c own own' in
      let back : b ≡ d = one_lines ws b d rest rest' in
      is ∙ (λ i. front i ++ back i) ∙ sym is'

  pub never_both : (ws front back : List (WrittenMember Span)) (w : WrittenMember Span) (lines : List Line) (n : ℕ) → HaveLines rows items ws lines → ws ≡ front ++ w ∷ back → HasTooManySites rows items w n → ⊥
  never_both [] [] back w lines n h e many = absurd cc
  never_both [] (v ∷ front) back w lines n h e many = absurd cc
  never_both (u ∷ us) [] back w lines n (a, b, own, rest, is) e many =
      let same : u ≡ w = cc in
      few_or_many w.key w.base w.part n (lines_few w.key w.base w.part a (subst (λ (v : WrittenMember Span). HasLines rows items v a) same own)) many
  never_both (u ∷ us) (v ∷ front) back w lines n (a, b, own, rest, is) e many =
      let later : us ≡ front ++ w ∷ back = cc in
      never_both us front back w b n rest later many

  one_large : (f g b d : List (WrittenMember Span)) (v w : WrittenMember Span) (m n : ℕ) → f ++ v ∷ b ≡ g ++ w ∷ d → EachOf (HasFewSites rows items) f → EachOf (HasFewSites rows items) g → HasTooManySites rows items v m → HasTooManySites rows items w n → (v.key ≡ w.key) × (m ≡ n)
  one_large [] [] b d v w m n e few few' many many' =
      let same : v ≡ w = cc in
      (ap (λ (z : WrittenMember Span). z.key) same, part_count w.key w.base w.part m n (subst (λ (z : WrittenMember Span). HasTooManySites rows items z m) same many) many')
  one_large [] (u ∷ g) b d v w m n e few few' many many' =
      let same : v ≡ u = cc in
      absurd (few_or_many u.key u.base u.part m few'.0 (subst (λ (z : WrittenMember Span). HasTooManySites rows items z m) same many))
  one_large (u ∷ f) [] b d v w m n e few few' many many' =
      let same : u ≡ w = cc in
      absurd (few_or_many u.key u.base u.part n few.0 (subst (λ (z : WrittenMember Span). HasTooManySites rows items z n) (sym same) many'))
  one_large (u ∷ f) (z ∷ g) b d v w m n e few few' many many' =
      let rest : f ++ v ∷ b ≡ g ++ w ∷ d = cc in
      one_large f g b d v w m n rest few.1 few'.1 many many'

pub lines_law : LinesAreOne
lines_law rows items ws xs ys h k = one_lines rows items ws xs ys h k

pub large_law : LargeIsOne
large_law rows items ws k l m n h j =
    let one = one_large rows items h.front j.front h.back j.back h.large j.large m n (sym h.split ∙ j.split) h.few j.few h.many j.many in
    (h.is_key ∙ one.0 ∙ sym j.is_key, one.1)

pub both_law : NeverBoth
both_law rows items ws lines k n h j = never_both rows items ws j.front j.back j.large lines n h j.split j.many
