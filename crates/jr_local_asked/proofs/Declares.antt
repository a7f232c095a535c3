-- Where a body declares a local: from the code of a member to the written members, and to a file.
use Rattle.std.proofs.Common.{◌≡◌, inl, inr, ℕ, ◌+◌, ◌<◌, ◌≤◌, false, List, length, map, Option, Some, None, refl, sym, ap, subst, ◌∙◌, arith, eq-or-lt_of_le}
use Rattle.std.specs.Prelude.{slice_get, option_map, is_some}
use Rattle.std.proofs.lemmas.Option.{none-some, same_Some, slice_get_within, slice_get-map}
use Rattle.jr_text.specs.declared.spans.Span.{Span}
use Rattle.jr_ast.specs.StatementTree as statement
use Rattle.jr_table.specs.Decls.{MemberKey, LocalKey}
use Rattle.jr_table.specs.Errors.{Part}
use Rattle.jr_members.specs.WrittenMembers.{WrittenMember}
use Rattle.jr_members.specs.declared.keyed.WrittenMember as raw
use Rattle.jr_members.specs.PartView.{written_of}
use Rattle.jr_bind.specs.Programs.{Program, IsProgram}
use Rattle.jr_program.proofs.Standing.{bound_at}
use Rattle.jr_grammar.specs.Layout.{itself}
use Rattle.jr_pieces.specs.Nearest.{nearest}
use Rattle.jr_local_search.specs.Declarations.{Declaration, declarations_in, numbered, first_wanted}
use Rattle.jr_local_search.specs.DeclarationLaws.{DeclarationsHaveWays, WaysAreDeclared}
use Rattle.jr_bodies.specs.MemberCode.{Code, code_of}
use Rattle.jr_bodies.specs.Bodies.{begins, Body, HasBody}
use Rattle.jr_bodies.specs.CodedBodies.{body_with}
use Rattle.jr_bodies.proofs.Coded.{same_body, codes_of, no_codes, key_of}
use Rattle.jr_local_asked.specs.declared.declarations.DeclaredLocal as raw_declared
use Rattle.jr_local_asked.specs.Declaring.{DeclaredLocal, members_of, with_list, listed, IsUndeclared, IsOfCode, IsOfPart, IsOfWritten, IsThere, Lacks, IsInMember, IsNowhere}
use Rattle.jr_local_asked.specs.DeclaredView.{declared_of}

-- ---- of code

list_of_none : (d : Declaration) (b : statement.Stmts Span) → (let n : Option (statement.Stmts Span) = None in d.list ≡ n) → (e : Declaration) → e.list ≡ Some b → d ≡ e → ⊥
list_of_none d b none e some is = none-some b (sym none ∙ ap (λ (x : Declaration). x.list) is ∙ some)

module _ (ways : DeclarationsHaveWays) (declared : WaysAreDeclared) (member local : ℕ) (c : Code) where
  abbrev Found : Option Declaration → Type 0
  Found o = o ≡ first_wanted (numbered local) (declarations_in (length c.params) c.list)

  -- without a declaration that is an element of a list
  undeclared : (o : Option Declaration) → Found o → ((d : Declaration) (b : statement.Stmts Span) → o ≡ Some d → d.list ≡ Some b → ⊥) → IsUndeclared c.list (length c.params) local
  undeclared o found apart f way p next mark is_final type word is number =
      let there = declared c.list f way p mark is_final type word f is in
      let d : Declaration = record {
        number = (nearest begins p way).at.next;
        name = word.text;
        list = Some (statement.more (nearest begins p way).stmt (nearest begins p way).rest);
      } in
      apart d (statement.more (nearest begins p way).stmt (nearest begins p way).rest)
      (found ∙ (λ i. first_wanted (numbered (sym number i)) (declarations_in (sym next i) c.list)) ∙ there) refl

  pub in_code_is : (o : Option Declaration) → Found o → IsOfCode member local c (listed member c o)
  in_code_is None found = undeclared None found (λ d b e l. none-some d e)
  in_code_is (Some d) found = by d.list refl
    where
      by : (l : Option (statement.Stmts Span)) → d.list ≡ l → IsOfCode member local c (with_list member c l)
      by None e = undeclared (Some d) found (λ g b same some. none-some b (sym e ∙ ap (λ (x : Declaration). x.list) (same_Some d g same) ∙ some))
      by (Some b) e = (refl, refl, ways c.list (length c.params) local d b (sym found) e)

-- ---- of one member

module _ (member local : ℕ) (part : Part Span) where
  pub without_code : (let n : Option Code = None in code_of part ≡ n) → IsOfPart member local part None
  without_code n c e = absurd (none-some c (sym n ∙ e))

  pub with_code : (c : Code) → code_of part ≡ Some c → (o : Option DeclaredLocal) → IsOfCode member local c o → IsOfPart member local part o
  with_code c is None h = λ d e. subst (λ (x : Code). IsUndeclared x.list (length x.params) local) (same_Some c d (sym is ∙ e)) h
  with_code c is (Some x) h = (is ∙ ap Some (sym h.0), h.1, h.2)

module _ (file number : ℕ) (k : LocalKey) (w : WrittenMember Span) where
  pub of_its_member : w.file ≡ file → w.key ≡ k.member → (o : Option DeclaredLocal) → IsOfPart number k.number w.part o → IsOfWritten file number k w o
  of_its_member f e None h = λ of key c is. h c is
  of_its_member f e (Some x) h = (f, e, h.0, h.1, h.2)

  pub of_other_file : (w.file ≡ file → ⊥) → IsOfWritten file number k w None
  of_other_file apart of key c is = absurd (apart of)

  pub of_other_member : (w.key ≡ k.member → ⊥) → IsOfWritten file number k w None
  of_other_member apart of key c is = absurd (apart key)

module _ (p : Program Span) (program : IsProgram itself (λ m b. Unit {0}) p) (file : ℕ) (k : LocalKey) (number : ℕ) where
  abbrev Undeclares : Body → Type 0
  Undeclares b = IsUndeclared b.list b.at.next k.number

  lacks_in : (w : WrittenMember Span) → IsOfWritten file number k w None → (b : Body) (h : HasBody p file b) → h.member ≡ w → Lacks p file k b
  lacks_in w none b h member key = by (code_of h.member.part) refl
    where
      all : IsOfWritten file number k h.member None
      all = subst (λ (x : WrittenMember Span). IsOfWritten file number k x None) (sym member) none

      by : (o : Option Code) → code_of h.member.part ≡ o → Undeclares b
      by None e = absurd (no_codes h.member.key h.member.base h.member.part b.bound b e h.is)
      by (Some c) e =
          let codes = codes_of h.member.key h.member.base h.member.part c e in
          subst Undeclares (same_body (body_with h.member.key codes.is_static codes.at c b.bound) b (sym (codes.is b.bound) ∙ h.is))
          (all h.in_file (key_of h.member.key h.member.base h.member.part b.bound b h.is ∙ key) c e)

  lacks_there : (w : WrittenMember Span) → slice_get (members_of p) number ≡ Some w → IsOfWritten file number k w None → IsInMember p file k number None
  lacks_there w stands none b h same =
      lacks_in w none b h (same_Some h.member w (sym h.written ∙ ap (slice_get (members_of p)) same ∙ stands))

  has_there : (w : WrittenMember Span) → slice_get (members_of p) number ≡ Some w → (x : DeclaredLocal) → IsOfWritten file number k w (Some x) → IsThere p file k x
  has_there w stands x h =
      let codes = codes_of w.key w.base w.part x.code h.2 in
      let q = bound_at p.rows p.super_at (members_of p) p.bounds program.bound number w stands in
      record {
        is_static = codes.is_static;
        base = codes.at;
        bound = q.0;
        has = record {
          number = number;
          member = w;
          written = stands;
          in_file = h.0;
          bound = q.1;
          is = codes.is q.0 ∙ ap (λ (z : MemberKey). Some (body_with z codes.is_static codes.at x.code q.0)) h.1;
        };
        number = sym h.3;
        stands = h.4;
      }

  module _ (members : List (raw.WrittenMember Span)) (are : map written_of members ≡ members_of p) where
    stands_there : (w : raw.WrittenMember Span) → slice_get members number ≡ Some w → slice_get (members_of p) number ≡ Some (written_of w)
    stands_there w e = ap (λ (xs : List (WrittenMember Span)). slice_get xs number) (sym are) ∙ slice_get-map written_of members number ∙ ap (option_map written_of) e

    pub in_written_member : (w : raw.WrittenMember Span) → slice_get members number ≡ Some w → (o : Option DeclaredLocal) → IsOfWritten file number k (written_of w) o → IsInMember p file k number o
    in_written_member w e None h = lacks_there (written_of w) (stands_there w e) h
    in_written_member w e (Some x) h = has_there (written_of w) (stands_there w e) x h

    pub in_no_member : (let n : Option (raw.WrittenMember Span) = None in slice_get members number ≡ n) → IsInMember p file k number None
    in_no_member e b h same =
        absurd (none-some h.member (sym (ap (λ (xs : List (WrittenMember Span)). slice_get xs number) (sym are) ∙ slice_get-map written_of members number ∙ ap (option_map written_of) e) ∙ ap (slice_get (members_of p)) (sym same) ∙ h.written))

-- ---- one behind the other

module _ (p : Program Span) (file : ℕ) (k : LocalKey) where
  -- the members below the number don't declare it
  abbrev pub Passed : ℕ → Type 0
  Passed n = (b : Body) (h : HasBody p file b) → h.number < n → Lacks p file k b

  below : (i n : ℕ) → i < n + 1 → i ≤ n
  below i n lt = omega (arith, lt)

  pub passed_more : (n : ℕ) (o : Option raw_declared.DeclaredLocal) → is_some o ≡ false → IsInMember p file k n (option_map declared_of o) → Passed n → Passed (n + 1)
  passed_more n (Some x) e h before b g lt = absurd cc
  passed_more n None e h before b g lt = elim (eq-or-lt_of_le (below g.number n lt)) [ inl same ↦ h b g same | inr less ↦ before b g less ]

  pub passed_all : (count n : ℕ) → count ≡ length p.bounds → count ≤ n → Passed n → IsNowhere p file k
  passed_all count n is all passed b h =
      let lt = slice_get_within p.bounds h.number b.bound h.bound in
      passed b h (omega (arith, lt, is, all))
