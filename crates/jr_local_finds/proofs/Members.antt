-- From the code of a member to the written members, and to a file.
use Rattle.std.proofs.Common.{◌≡◌, inl, inr, ℕ, ◌+◌, ◌<◌, ◌≤◌, true, false, List, length, map, Option, Some, None, refl, sym, ap, subst, ◌∙◌, arith, eq-or-lt_of_le}
use Rattle.std.specs.Prelude.{slice_get, option_map, is_some}
use Rattle.std.proofs.lemmas.Option.{none-some, same_Some, slice_get_within, slice_get-map}
use Rattle.jr_text.specs.declared.spans.Span.{Span}
use Rattle.jr_grammar.specs.Layout.{itself}
use Rattle.jr_table.specs.Errors.{Part}
use Rattle.jr_members.specs.WrittenMembers.{WrittenMember}
use Rattle.jr_members.specs.declared.keyed.WrittenMember as raw
use Rattle.jr_members.specs.PartView.{written_of}
use Rattle.jr_bind.specs.Bounds.{Bound}
use Rattle.jr_bind.specs.Programs.{Program, IsProgram}
use Rattle.jr_bodies.specs.MemberCode.{Code, code_of}
use Rattle.jr_bodies.specs.Bodies.{Body, HasBody}
use Rattle.jr_bodies.specs.CodedBodies.{body_with}
use Rattle.jr_bodies.specs.BodyLaws.{IsNested, BodiesAreNested}
use Rattle.jr_bodies.proofs.Coded.{same_body, codes_of, no_codes}
use Rattle.jr_local_finds.specs.SoughtValues.{HasNoValue}
use Rattle.jr_local_finds.specs.Chosen.{Chosen, members_of, IsOfCode, IsOfPart, IsOfWritten, HasValue, Lacks, IsInMember, LacksValues}
use Rattle.jr_local_finds.specs.declared.selecting.SelectedValue as raw_selected
use Rattle.jr_local_finds.specs.ValueView.{chosen_of}

-- ---- of one member

module _ (s : Span) (number : ℕ) (b : Bound) (part : Part Span) where
  pub without_code : (let n : Option Code = None in code_of part ≡ n) → IsOfPart s number b part None
  without_code n c e = absurd (none-some c (sym n ∙ e))

  pub with_code : (c : Code) → code_of part ≡ Some c → (o : Option Chosen) → IsOfCode s number b c o → IsOfPart s number b part o
  with_code c is None h = λ d e. subst (λ (x : Code). HasNoValue x.list x.front b.types s) (same_Some c d (sym is ∙ e)) h
  with_code c is (Some x) h = (is ∙ ap Some (sym h.0), h.1, h.2)

module _ (p : Program Span) (file : ℕ) (s : Span) (number : ℕ) where
  pub of_file : (w : WrittenMember Span) → w.file ≡ file → (b : Bound) → slice_get p.bounds number ≡ Some b → (o : Option Chosen) → IsOfPart s number b w.part o → IsOfWritten p file s number w o
  of_file w is b stands None h = λ of d there c e. subst (λ (x : Bound). HasNoValue c.list c.front x.types s) (same_Some b d (sym stands ∙ there)) (h c e)
  of_file w is b stands (Some x) h = (is, b, stands, h.0, h.1, h.2)

  pub of_other : (w : WrittenMember Span) → (w.file ≡ file → ⊥) → IsOfWritten p file s number w None
  of_other w apart of d there c e = absurd (apart of)

  -- where spans of a body are nested
  abbrev LacksNested : Body → Type 0
  LacksNested b = IsNested b.list → Lacks p file s b

  -- a body of the member of the number
  lacks_in : (w : WrittenMember Span) → IsOfWritten p file s number w None → (b : Body) (h : HasBody p file b) → h.number ≡ number → h.member ≡ w → LacksNested b
  lacks_in w none b h same member = by (code_of h.member.part) refl
    where
      bound : slice_get p.bounds number ≡ Some b.bound
      bound = ap (slice_get p.bounds) (sym same) ∙ h.bound

      all : IsOfWritten p file s number h.member None
      all = subst (λ (x : WrittenMember Span). IsOfWritten p file s number x None) (sym member) none

      by : (o : Option Code) → code_of h.member.part ≡ o → LacksNested b
      by None e = absurd (no_codes h.member.key h.member.base h.member.part b.bound b e h.is)
      by (Some c) e =
          let codes = codes_of h.member.key h.member.base h.member.part c e in
          subst LacksNested (same_body (body_with h.member.key codes.is_static codes.at c b.bound) b (sym (codes.is b.bound) ∙ h.is)) (all h.in_file b.bound bound c e)

  module _ (law : BodiesAreNested) (program : IsProgram itself (λ m b. Unit {0}) p) where
    lacks_there : (w : WrittenMember Span) → slice_get (members_of p) number ≡ Some w → IsOfWritten p file s number w None → IsInMember p file s number None
    lacks_there w stands none b h same =
        let member = same_Some h.member w (sym h.written ∙ ap (slice_get (members_of p)) same ∙ stands) in
        lacks_in w none b h same member (law p program file b h)

    has_there : (w : WrittenMember Span) → slice_get (members_of p) number ≡ Some w → (x : Chosen) → IsOfWritten p file s number w (Some x) → HasValue p file s x
    has_there w stands x h =
        let codes = codes_of w.key w.base w.part x.code h.3 in
        record {
          key = w.key;
          is_static = codes.is_static;
          base = codes.at;
          bound = h.1;
          has = record { number = number; member = w; written = stands; in_file = h.0; bound = h.2; is = codes.is h.1 };
          number = sym h.4;
          value = h.5;
        }

    module _ (members : List (raw.WrittenMember Span)) (are : map written_of members ≡ members_of p) where
      stands_there : (w : raw.WrittenMember Span) → slice_get members number ≡ Some w → slice_get (members_of p) number ≡ Some (written_of w)
      stands_there w e = ap (λ (xs : List (WrittenMember Span)). slice_get xs number) (sym are) ∙ slice_get-map written_of members number ∙ ap (option_map written_of) e

      pub in_written_member : (w : raw.WrittenMember Span) → slice_get members number ≡ Some w → (o : Option Chosen) → IsOfWritten p file s number (written_of w) o → IsInMember p file s number o
      in_written_member w e None h = lacks_there (written_of w) (stands_there w e) h
      in_written_member w e (Some x) h = has_there (written_of w) (stands_there w e) x h

      pub in_no_member : (let n : Option (raw.WrittenMember Span) = None in slice_get members number ≡ n) → IsInMember p file s number None
      in_no_member e b h same =
          absurd (none-some h.member (sym (ap (λ (xs : List (WrittenMember Span)). slice_get xs number) (sym are) ∙ slice_get-map written_of members number ∙ ap (option_map written_of) e) ∙ ap (slice_get (members_of p)) (sym same) ∙ h.written))

-- ---- one behind the other

module _ (p : Program Span) (file : ℕ) (s : Span) where
  -- the members below the number have none
  abbrev pub Passed : ℕ → Type 0
  Passed n = (b : Body) (h : HasBody p file b) → h.number < n → Lacks p file s b

  below : (i n : ℕ) → i < n + 1 → i ≤ n
  below i n lt = omega (arith, lt)

  pub passed_more : (n : ℕ) (o : Option raw_selected.SelectedValue) → is_some o ≡ false → IsInMember p file s n (option_map chosen_of o) → Passed n → Passed (n + 1)
  passed_more n (Some x) e h before b g lt = absurd cc
  passed_more n None e h before b g lt = elim (eq-or-lt_of_le (below g.number n lt)) [ inl same ↦ h b g same | inr less ↦ before b g less ]

  pub passed_all : (count n : ℕ) → count ≡ length p.bounds → count ≤ n → Passed n → LacksValues p file s
  passed_all count n is all passed b h =
      let lt = slice_get_within p.bounds h.number b.bound h.bound in
      passed b h (omega (arith, lt, is, all))

  pub has_found : (n : ℕ) (o : Option raw_selected.SelectedValue) → is_some o ≡ true → IsInMember p file s n (option_map chosen_of o) → (x : raw_selected.SelectedValue) × (o ≡ Some x) × HasValue p file s (chosen_of x)
  has_found n None e h = absurd cc
  has_found n (Some x) e h = (x, refl, h)
