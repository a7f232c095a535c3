-- Programs of the same files have the same rows, each written `super(..)` at one place, and of each
-- member the same is known.
use Rattle.std.proofs.Common.{◌≡◌, ℕ, List, [], ◌∷◌, map, Option, Some, None, true, refl, sym, ap, subst, ◌∙◌, inl, inr, zero, suc, le_antisymm}
use Rattle.std.specs.Prelude.{slice_get, option_map, Contains}
use Rattle.std.proofs.lemmas.Option.{none-some, same_Some, slice_get_within, get_or_from_slice_get, slice_get-map}
use Rattle.jr_text.specs.declared.spans.Span.{Span}
use Rattle.jr_ast.specs.MemberTree as syntax
use Rattle.jr_grammar.specs.Layout.{itself}
use Rattle.jr_table.specs.Decls.{MemberKey, head, field, method, constructor, Decl}
use Rattle.jr_table.specs.Rows.{Row}
use Rattle.jr_table.specs.Found.{Found, one}
use Rattle.jr_table.specs.DeclaredItems.{declarations_of}
use Rattle.jr_table.specs.ProgramRows.{AreProgramRows}
use Rattle.jr_table.specs.HeadRules.{DeclarationRefers}
use Rattle.jr_table.specs.Errors.{Part, class_part, member_part, Binds}
use Rattle.jr_build_rows.proofs.OneRows.{program_once}
use Rattle.jr_members.specs.WrittenMembers.{WrittenMember, written_members}
use Rattle.jr_members.specs.WrittenLaws.{IsWritten, MembersAreWritten}
use Rattle.jr_bind.specs.Bounds.{Bound, IsBound}
use Rattle.jr_bind.specs.Programs.{File, Program, IsProgram, AreBound, units_of}
use Rattle.jr_bind.specs.SuperPlaces.{writes_super}
use Rattle.jr_program_laws.specs.FileParts.{begins}
use Rattle.jr_program_laws.proofs.MeansOnce.{means_once, parent_once}
use Rattle.jr_one_plans.specs.OneAnswer.{AnswerAlike, AreOneProgram, FilesHaveOneProgram}

-- the same files and rows, with other places of written `super(..)`, and bounds of its own
abbrev pub beside : Program Span → (MemberKey → ℕ) → List Bound → Program Span
beside p t bs = record { files = p.files; rows = p.rows; super_at = t; bounds = bs }

abbrev pub IsWhole : Program Span → Type 0
IsWhole p = IsProgram itself (λ m b. Unit {0}) p

module _ (p q : Program Span) (is : IsWhole p) (also : IsWhole q) (same : p.files ≡ q.files) where
  units_same : units_of p ≡ units_of q
  units_same = ap (map (λ (f : File Span). f.unit)) same

  pub rows_same : p.rows ≡ q.rows
  rows_same = program_once (declarations_of begins (units_of p)) (λ k w. means_once [] (declarations_of begins (units_of p)) is.clean k w) (λ k. parent_once [] (declarations_of begins (units_of p)) is.clean k) p.rows q.rows is.rows
      (subst (λ (us : List (syntax.Unit Span)). AreProgramRows (declarations_of begins us) q.rows) (sym units_same) also.rows)

  pub is_beside : beside p q.super_at q.bounds ≡ q
  is_beside = λ i. record { files = same i; rows = rows_same i; super_at = q.super_at; bounds = q.bounds }

-- the file that a unit is of
pub file_at : (p : Program Span) (file : ℕ) (unit : syntax.Unit Span) → slice_get (units_of p) file ≡ Some unit → (f : File Span) × (slice_get p.files file ≡ Some f) × (f.unit ≡ unit)
file_at p file unit e = of (slice_get p.files file) refl
  where
    is : (o : Option (File Span)) → slice_get p.files file ≡ o → option_map (λ (x : File Span). x.unit) o ≡ Some unit
    is o there = sym (slice_get-map (λ (x : File Span). x.unit) p.files file ∙ ap (option_map (λ (x : File Span). x.unit)) there) ∙ e

    of : (o : Option (File Span)) → slice_get p.files file ≡ o → (f : File Span) × (slice_get p.files file ≡ Some f) × (f.unit ≡ unit)
    of None none = absurd (none-some unit (is None none))
    of (Some f) there = (f, there, same_Some f.unit unit (is (Some f) there))

-- ---- places of written `super(..)`

module _ (written : MembersAreWritten Span) (p : Program Span) (t : MemberKey → ℕ) (bs : List Bound) (is : IsWhole p) (also : IsWhole (beside p t bs)) where
  pub super_same : (file : ℕ) (k : MemberKey) (base : ℕ) (part : Part Span) → IsWritten begins (units_of p) file k base part → writes_super part ≡ true → p.super_at k ≡ t k
  super_same file k base part h e =
      let m = (written begins (units_of p) p.rows is.are_rows is.rows).all file k base part h in
      let w = m.0 in
      let f = file_at p file h.unit h.stands in
      let there : slice_get p.files w.file ≡ Some f.0 = ap (slice_get p.files) m.2 ∙ f.1 in
      let r = is.reads file f.0 f.1 in
      let writes : writes_super w.part ≡ true = ap (λ (x : Part Span). writes_super x) m.5 ∙ e in
      let x = is.supers w m.1 writes f.0 there r.items r.lexes in
      let y = also.supers w m.1 writes f.0 there r.items r.lexes in
      subst (λ (j : MemberKey). p.super_at j ≡ t j) m.3 (le_antisymm (x.first (t w.key) y.there y.within.0) (y.first (p.super_at w.key) x.there x.within.0))

-- ---- what is bound, by one place or the other

module _ (rows : List Row) (s t : ℕ) where
  refers_to : (k : MemberKey) (base : ℕ) (x : syntax.Member Span) (at : ℕ) (f : Found) → (writes_super (member_part x) ≡ true → s ≡ t) → DeclarationRefers begins rows s k base x at f → DeclarationRefers begins rows t k base x at f
  refers_to k base (syntax.field m mods u w init) at f same h = h
  refers_to k base (syntax.method m mods u w ps body) at f same h = h
  refers_to k base (syntax.constructor m mods w ps args body) at f same (inl h) = inl h
  refers_to k base (syntax.constructor m mods w ps None body) at f same (inr h) = absurd h.1
  refers_to k base (syntax.constructor m mods w ps (Some args) body) at f same (inr h) = inr (h.0 ∙ same refl, h.1)
  refers_to k base (syntax.inner m of) at f same h = absurd h

  pub binds_to : (k : MemberKey) (base : ℕ) (part : Part Span) (at : ℕ) (d : Decl) → (writes_super part ≡ true → s ≡ t) → Binds begins rows s k base part at d → Binds begins rows t k base part at d
  binds_to (head k) base (class_part c) at d same h = h
  binds_to (field k) base (class_part c) at d same h = absurd h
  binds_to (method k) base (class_part c) at d same h = absurd h
  binds_to (constructor k) base (class_part c) at d same h = absurd h
  binds_to (head k) base (member_part x) at d same (inl h) = inl (refers_to (head k) base x at (one d) same h)
  binds_to (head k) base (member_part x) at d same (inr h) = inr h
  binds_to (field k) base (member_part x) at d same (inl h) = inl (refers_to (field k) base x at (one d) same h)
  binds_to (field k) base (member_part x) at d same (inr h) = inr h
  binds_to (method k) base (member_part x) at d same (inl h) = inl (refers_to (method k) base x at (one d) same h)
  binds_to (method k) base (member_part x) at d same (inr h) = inr h
  binds_to (constructor k) base (member_part x) at d same (inl h) = inl (refers_to (constructor k) base x at (one d) same h)
  binds_to (constructor k) base (member_part x) at d same (inr h) = inr h

-- ---- what is known of a member

-- two that answer the same things answer alike
one_option : {X : Type 0} (o p : Option X) → ((x : X) → o ≡ Some x → p ≡ Some x) → ((x : X) → p ≡ Some x → o ≡ Some x) → o ≡ p
one_option None None to from = refl
one_option None (Some x) to from = from x refl
one_option (Some x) p to from = sym (to x refl)

answer_alike : (rows : List Row) (s t : ℕ) (k : MemberKey) (base : ℕ) (part : Part Span) → (writes_super part ≡ true → s ≡ t) → (b c : Bound) → IsBound begins rows s k base part b → IsBound begins rows t k base part c → AnswerAlike b c
answer_alike rows s t k base part same b c x y = record {
  references = λ at. one_option _ _ (λ d e. (y.declarations at d).1 (binds_to rows s t k base part _ d same ((x.declarations at d).0 e)))
      (λ d e. (x.declarations at d).1 (binds_to rows t s k base part _ d (λ w. sym (same w)) ((y.declarations at d).0 e)));
  types = λ path. one_option _ _ (λ u e. (y.types path u).1 ((x.types path u).0 e)) (λ u e. (x.types path u).1 ((y.types path u).0 e));
}

nothing_stands : {X : Type 0} (n : ℕ) (x : X) → (let none : List X = [] in slice_get none n ≡ Some x) → ⊥
nothing_stands n x e = cc

bound_at : (rows : List Row) (s : MemberKey → ℕ) (ws : List (WrittenMember Span)) (bs : List Bound) (n : ℕ) (w : WrittenMember Span) (b : Bound) → AreBound itself (λ (m : Span) (k : ℕ). Unit {0}) rows s ws bs → slice_get ws n ≡ Some w → slice_get bs n ≡ Some b
    → IsBound begins rows (s w.key) w.key w.base w.part b
bound_at rows s [] bs n w b are e f = absurd (nothing_stands n w e)
bound_at rows s (v ∷ ws) [] n w b are e f = absurd (nothing_stands n b f)
bound_at rows s (v ∷ ws) (c ∷ bs) zero w b are e f =
    subst (λ (x : WrittenMember Span). IsBound begins rows (s x.key) x.key x.base x.part b) (same_Some v w e) (subst (λ (x : Bound). IsBound begins rows (s v.key) v.key v.base v.part x) (same_Some c b f) are.0)
bound_at rows s (v ∷ ws) (c ∷ bs) (suc n) w b are e f = bound_at rows s ws bs n w b are.1 e f

contains_at : {X : Type 0} (xs : List X) (n : ℕ) (x : X) → slice_get xs n ≡ Some x → Contains xs x
contains_at xs n x e = (n, slice_get_within xs n x e, get_or_from_slice_get xs n x x e)

module _ (written : MembersAreWritten Span) (p : Program Span) (t : MemberKey → ℕ) (bs : List Bound) (is : IsWhole p) (also : IsWhole (beside p t bs)) where
  bounds_alike : (i j : ℕ) (w : WrittenMember Span) (b c : Bound) → slice_get (written_members begins p.rows (units_of p)) i ≡ Some w → slice_get (written_members begins p.rows (units_of p)) j ≡ Some w → slice_get p.bounds i ≡ Some b → slice_get bs j ≡ Some c
      → AnswerAlike b c
  bounds_alike i j w b c stands also_stands here there =
      let writes = (written begins (units_of p) p.rows is.are_rows is.rows).each w (contains_at (written_members begins p.rows (units_of p)) i w stands) in
      answer_alike p.rows (p.super_at w.key) (t w.key) w.key w.base w.part (super_same written p t bs is also w.file w.key w.base w.part writes) b c
      (bound_at p.rows p.super_at (written_members begins p.rows (units_of p)) p.bounds i w b is.bound stands here) (bound_at p.rows t (written_members begins p.rows (units_of p)) bs j w c also.bound also_stands there)

  pub one_beside : AreOneProgram p (beside p t bs)
  one_beside = record { rows = refl; supers = super_same written p t bs is also; bounds = bounds_alike }

pub one_program : MembersAreWritten Span → FilesHaveOneProgram
one_program written p q is also same =
    let there = is_beside p q is also same in
    subst (AreOneProgram p) there (one_beside written p q.super_at q.bounds is (subst IsWhole (sym there) also))
