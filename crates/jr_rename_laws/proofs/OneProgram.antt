-- Programs of the same files have the same rows, and each written `super(..)` at one place.
use Rattle.std.proofs.Common.{◌≡◌, ℕ, List, [], map, Option, Some, None, true, refl, sym, ap, subst, ◌∙◌, inl, inr, le_antisymm}
use Rattle.std.specs.Prelude.{◌⊎◌, slice_get, option_map}
use Rattle.std.proofs.lemmas.Option.{none-some, same_Some, slice_get-map}
use Rattle.jr_text.specs.declared.spans.Span.{Span}
use Rattle.jr_ast.specs.MemberTree as syntax
use Rattle.jr_grammar.specs.Layout.{itself}
use Rattle.jr_table.specs.Decls.{MemberKey, head, field, method, constructor, Decl}
use Rattle.jr_table.specs.Rows.{Row}
use Rattle.jr_table.specs.Found.{Found, one}
use Rattle.jr_table.specs.DeclaredItems.{declarations_of}
use Rattle.jr_table.specs.ProgramRows.{AreProgramRows}
use Rattle.jr_table.specs.HeadRules.{DeclarationRefers}
use Rattle.jr_table.specs.Errors.{Part, class_part, member_part, Binds}
use Rattle.jr_build_rows.proofs.OneRows.{program_once}
use Rattle.jr_members.specs.WrittenLaws.{IsWritten, MembersAreWritten}
use Rattle.jr_members.proofs.Anywhere.{classes_found, found_classes}
use Rattle.jr_bind.specs.Bounds.{Bound}
use Rattle.jr_bind.specs.Programs.{File, Program, IsProgram, units_of}
use Rattle.jr_bind.specs.SuperPlaces.{writes_super}
use Rattle.jr_program_laws.specs.FileParts.{begins}
use Rattle.jr_program_laws.proofs.MeansOnce.{means_once, parent_once}
use Rattle.jr_images.specs.Targets.{PartDeclares, IsTarget}

-- the same files and rows, with other places of written `super(..)`
abbrev pub beside : Program Span → (MemberKey → ℕ) → List Bound → Program Span
beside p t bs = record { files = p.files; rows = p.rows; super_at = t; bounds = bs }

abbrev pub IsWhole : Program Span → Type 0
IsWhole p = IsProgram itself (λ m b. Unit {0}) p

module _ (p q : Program Span) (is : IsWhole p) (also : IsWhole q) (same : p.files ≡ q.files) where
  units_same : units_of p ≡ units_of q
  units_same = ap (map (λ (f : File Span). f.unit)) same

  rows_same : p.rows ≡ q.rows
  rows_same = program_once (declarations_of begins (units_of p)) (λ k w. means_once [] (declarations_of begins (units_of p)) is.clean k w) (λ k. parent_once [] (declarations_of begins (units_of p)) is.clean k) p.rows q.rows is.rows
      (subst (λ (us : List (syntax.Unit Span)). AreProgramRows (declarations_of begins us) q.rows) (sym units_same) also.rows)

  pub is_beside : beside p q.super_at q.bounds ≡ q
  is_beside = λ i. record { files = same i; rows = rows_same i; super_at = q.super_at; bounds = q.bounds }

-- the file that a unit is of
pub file_at : (p : Program Span) (file : ℕ) (unit : syntax.Unit Span) → slice_get (units_of p) file ≡ Some unit → (f : File Span) × (slice_get p.files file ≡ Some f) × (f.unit ≡ unit)
file_at p file unit e = of (slice_get p.files file) refl
  where
    is : (o : Option (File Span)) → slice_get p.files file ≡ o → option_map (λ (x : File Span). x.unit) o ≡ Some unit
    is o there = sym (slice_get-map (λ (x : File Span). x.unit) p.files file ∙ ap (option_map (λ (x : File Span). x.unit)) there) ∙ e

    of : (o : Option (File Span)) → slice_get p.files file ≡ o → (f : File Span) × (slice_get p.files file ≡ Some f) × (f.unit ≡ unit)
    of None none = absurd (none-some unit (is None none))
    of (Some f) there = (f, there, same_Some f.unit unit (is (Some f) there))

-- ---- places of written `super(..)`

module _ (written : MembersAreWritten Span) (p : Program Span) (t : MemberKey → ℕ) (bs : List Bound) (is : IsWhole p) (also : IsWhole (beside p t bs)) where
  pub super_same : (file : ℕ) (k : MemberKey) (base : ℕ) (part : Part Span) → IsWritten begins (units_of p) file k base part → writes_super part ≡ true → p.super_at k ≡ t k
  super_same file k base part h e =
      let m = (written begins (units_of p) p.rows is.are_rows is.rows).all file k base part h in
      let w = m.0 in
      let f = file_at p file h.unit h.stands in
      let there : slice_get p.files w.file ≡ Some f.0 = ap (slice_get p.files) m.2 ∙ f.1 in
      let r = is.reads file f.0 f.1 in
      let writes : writes_super w.part ≡ true = ap (λ (x : Part Span). writes_super x) m.5 ∙ e in
      let x = is.supers w m.1 writes f.0 there r.items r.lexes in
      let y = also.supers w m.1 writes f.0 there r.items r.lexes in
      subst (λ (j : MemberKey). p.super_at j ≡ t j) m.3 (le_antisymm (x.first (t w.key) y.there y.within.0) (y.first (p.super_at w.key) x.there x.within.0))

-- ---- what is bound, by one place or the other

module _ (rows : List Row) (s t : ℕ) where
  refers_to : (k : MemberKey) (base : ℕ) (x : syntax.Member Span) (at : ℕ) (f : Found) → (writes_super (member_part x) ≡ true → s ≡ t) → DeclarationRefers begins rows s k base x at f → DeclarationRefers begins rows t k base x at f
  refers_to k base (syntax.field m mods u w init) at f same h = h
  refers_to k base (syntax.method m mods u w ps body) at f same h = h
  refers_to k base (syntax.constructor m mods w ps args body) at f same (inl h) = inl h
  refers_to k base (syntax.constructor m mods w ps None body) at f same (inr h) = absurd h.1
  refers_to k base (syntax.constructor m mods w ps (Some args) body) at f same (inr h) = inr (h.0 ∙ same refl, h.1)
  refers_to k base (syntax.inner m of) at f same h = absurd h

  binds_to : (k : MemberKey) (base : ℕ) (part : Part Span) (at : ℕ) (d : Decl) → (writes_super part ≡ true → s ≡ t) → Binds begins rows s k base part at d → Binds begins rows t k base part at d
  binds_to (head k) base (class_part c) at d same h = h
  binds_to (field k) base (class_part c) at d same h = absurd h
  binds_to (method k) base (class_part c) at d same h = absurd h
  binds_to (constructor k) base (class_part c) at d same h = absurd h
  binds_to (head k) base (member_part x) at d same (inl h) = inl (refers_to (head k) base x at (one d) same h)
  binds_to (head k) base (member_part x) at d same (inr h) = inr h
  binds_to (field k) base (member_part x) at d same (inl h) = inl (refers_to (field k) base x at (one d) same h)
  binds_to (field k) base (member_part x) at d same (inr h) = inr h
  binds_to (method k) base (member_part x) at d same (inl h) = inl (refers_to (method k) base x at (one d) same h)
  binds_to (method k) base (member_part x) at d same (inr h) = inr h
  binds_to (constructor k) base (member_part x) at d same (inl h) = inl (refers_to (constructor k) base x at (one d) same h)
  binds_to (constructor k) base (member_part x) at d same (inr h) = inr h

module _ (rows : List Row) (units : List (syntax.Unit Span)) (s t : MemberKey → ℕ) (same : (file : ℕ) (k : MemberKey) (base : ℕ) (part : Part Span) → IsWritten begins units file k base part → writes_super part ≡ true → s k ≡ t k) where
  -- what a word names
  abbrev Has : (MemberKey → ℕ) → (at : ℕ) → Decl → MemberKey → (base : ℕ) → Part Span → Type 0
  Has r at d k base part = PartDeclares begins k base part at d ⊎ Binds begins rows (r k) k base part at d

  pub target_to : (text : List ℕ) (file at : ℕ) (d : Decl) → IsTarget begins rows s units text file at d → IsTarget begins rows t units text file at d
  target_to text file at d x =
      let n = x.names in
      let f = classes_found begins (declarations_of begins units) (Has s x.from d) (begins n.unit.mark 0) n.unit.classes n.member n.names in
      record {
        from = x.from;
        holds = x.holds;
        names = record {
          unit = n.unit;
          stands = n.stands;
          member = n.member;
          names = found_classes begins (declarations_of begins units) (Has t x.from d) f.base f.part (begins n.unit.mark 0) n.unit.classes n.member
              (has_to f.base f.part (record { unit = n.unit; stands = n.stands; writes = f.there }) f.has) f.there;
        };
        own = x.own;
      }
    where
      has_to : (base : ℕ) (part : Part Span) → IsWritten begins units file x.names.member base part → Has s x.from d x.names.member base part → Has t x.from d x.names.member base part
      has_to base part w (inl h) = inl h
      has_to base part w (inr h) = inr (binds_to rows (s x.names.member) (t x.names.member) x.names.member base part x.from d (same file x.names.member base part w) h)
