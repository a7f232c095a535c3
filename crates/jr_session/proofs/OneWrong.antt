-- What is wrong with sources first is one thing, and with a program nothing is.
use Rattle.std.proofs.Common.{◌≡◌, ℕ, zero, suc, ◌+◌, ◌-◌, ◌≤◌, List, [], ◌∷◌, length, map, true, refl, sym, ap, subst, ◌∙◌, inl, inr, arith}
use Rattle.std.specs.Prelude.{Some, None, Contains, slice_get}
use Rattle.std.proofs.lemmas.Option.{slice_get_within, same_Some, none-some}
use Rattle.jr_text.specs.declared.spans.Span.{Span}
use Rattle.jr_lex.specs.declared.items.Item.{Item}
use Rattle.jr_lex.specs.Lexes.{Lexes}
use Rattle.jr_ast.specs.MemberTree.{Unit as UnitTree}
use Rattle.jr_ast.specs.MemberTree as syntax
use Rattle.jr_grammar.specs.Layout.{itself}
use Rattle.jr_grammar.specs.Tokens.{placed_of}
use Rattle.jr_grammar.specs.Units.{IsMarkedUnit}
use Rattle.jr_table.specs.Decls.{MemberKey}
use Rattle.jr_table.specs.Rows.{Row}
use Rattle.jr_table.specs.Errors.{Part, class_part, member_part, part_mark, Error, Breaks, InClasses, InUnits, rule_rank}
use Rattle.jr_table.specs.Names.{rule_name}
use Rattle.jr_table.specs.DeclaredItems.{DeclaredItem, declarations_of}
use Rattle.jr_table.specs.ProgramRows.{AreProgramRows}
use Rattle.jr_table.specs.declared.rules.Rule.{Rule}
use Rattle.jr_members.specs.WrittenLaws.{IsWritten, MembersAreWritten}
use Rattle.jr_members.specs.WrittenMembers.{WrittenMember, written_members}
use Rattle.jr_bind.specs.Programs.{File, Program, units_of, members_of}
use Rattle.jr_bind.specs.SuperPlaces as pure
use Rattle.jr_program_laws.specs.FileParts.{begins, InFile, BreaksAt, SuperStands, IsSuperAt}
use Rattle.jr_program_laws.specs.PlaceLaws.{IsFile, IsPlaced, PartsArePlaced, Owns}
use Rattle.jr_lines.proofs.LineOrder.{one_rule}
use Rattle.jr_sources.specs.BindingErrors.{BreaksRule, IsNoLater, IsFirstWrong}
use Rattle.jr_sources.specs.FirstFault.{package_lines}
use Rattle.jr_sources.specs.ReadingLaws.{HasOneReading}
use Rattle.jr_sources.specs.Sources.{Source, HasName}
use Rattle.jr_sources.specs.Whole.{Anywhere, IsProgramOf}
use Rattle.jr_sources.proofs.AllRead.{text_there}
use Rattle.jr_sources.proofs.Analysing.{OneItems, counts, no_fault, read_once, unit_read}
use Rattle.jr_sources.proofs.FirstErrors.{rows_once}
use Rattle.jr_sources.proofs.InFiles.{in_classes, is_part, written_in}
use Rattle.jr_sources.proofs.WholeProgram.{units_files}
use Rattle.jr_session.proofs.OneFault.{one_first}
use Rattle.jr_session.proofs.Planning.{file as file_there}
use Rattle.jr_session.proofs.Showing.{one_name}

-- ---- what a part has in its file

-- what a part has stands behind its first byte
owns_from : (base : ℕ) (part : Part Span) (at : ℕ) → Owns part at → begins (part_mark part) base ≤ at
owns_from base (class_part (syntax.class m mods w t ms)) at h = h.0.0
owns_from base (member_part x) at h = h.0

there_is : (items : List Item) (span : Span) (at : ℕ) → pure.IsSuperAt items span at → IsSuperAt items span at
there_is items span at h = record {
  there = record { number = h.there.number; token = h.there.token; stands = h.there.stands; is = h.there.is; place = h.there.place };
  within = h.within;
  first = λ other b le. h.first other (record { number = b.number; token = b.token; stands = b.stands; is = b.is; place = b.place }) le;
}

super_stands : (items : List Item) (part : Part Span) (base at : ℕ) → (pure.writes_super part ≡ true → pure.IsSuperAt items (itself (part_mark part) base) at) → SuperStands items part at
super_stands items (class_part of) base at h = tt
super_stands items (member_part (syntax.field m mods t w init)) base at h = tt
super_stands items (member_part (syntax.method m mods t w ps body)) base at h = tt
super_stands items (member_part (syntax.constructor m mods w ps None body)) base at h = tt
super_stands items (member_part (syntax.constructor m mods w ps (Some args) body)) base at h = there_is items m at (h refl)
super_stands items (member_part (syntax.inner m of)) base at h = tt

-- a member of some file
to_units : (declarations : List DeclaredItem) (P : MemberKey → (base : ℕ) → Part Span → Type 0) (us : List (UnitTree Span)) (k : MemberKey) (i : ℕ) (u : UnitTree Span) → slice_get us i ≡ Some u → InClasses begins declarations P (begins u.mark 0) u.classes k → InUnits begins declarations P us k
to_units declarations P [] k i u e h = absurd (none-some u e)
to_units declarations P (v ∷ us) k zero u e h = inl (subst (λ (x : UnitTree Span). InClasses begins declarations P (begins x.mark 0) x.classes k) (sym (same_Some v u e)) h)
to_units declarations P (v ∷ us) k (suc i) u e h = inr (to_units declarations P us k i u e h)

-- ---- no member of a program breaks a rule

module _ (reading : HasOneReading) (items_once : OneItems) (placed : PartsArePlaced) (law : MembersAreWritten Span) (ss : List Source) (p : Program Span) (is : IsProgramOf ss p) where
  units_are : units_of p ≡ is.units
  units_are = ap (map (λ (f : File Span). f.unit)) is.files ∙ units_files ss is.units (counts ss is.units is.words is.program.read).0

  are_rows : AreProgramRows (declarations_of begins is.units) p.rows
  are_rows = subst (λ (us : List (UnitTree Span)). AreProgramRows (declarations_of begins us) p.rows) units_are is.is.rows

  -- of a written member the program says where its `super(..)` stands
  super_there : (w : WrittenMember Span) → Contains (written_members begins p.rows is.units) w → (s : Source) → slice_get ss w.file ≡ Some s → (items : List Item) → Lexes s.text items → SuperStands items w.part (p.super_at w.key)
  super_there w has s stands items lexes =
      let f = file_there ss p is w.file (slice_get_within ss w.file s stands) in
      let text : f.0.text ≡ s.text = same_Some f.0.text s.text (sym f.2 ∙ text_there ss w.file s stands) in
      let there : Contains (members_of itself Anywhere p) w = subst (λ (us : List (UnitTree Span)). Contains (written_members begins p.rows us) w) (sym units_are) has in
      super_stands items w.part w.base (p.super_at w.key)
      (λ writes. is.is.supers w there writes f.0 f.1 items (subst (λ (t : List ℕ). Lexes t items) (sym text) lexes))

  module _ (file at : ℕ) (r : Rule) (h : BreaksRule ss file at r) where
    breaks : InFile is.units file (λ k base part. BreaksAt p.rows h.items k base part at r)
    breaks =
        let units : h.units ≡ is.units = (read_once reading ss h.units is.units h.words is.words h.program.read is.program.read).0 in
        let theirs = subst (λ (us : List (UnitTree Span)). AreProgramRows (declarations_of begins us) h.rows) units h.are_rows in
        let rows : h.rows ≡ p.rows = rows_once (package_lines is.units is.words) (declarations_of begins is.units) is.program.clean h.rows p.rows theirs are_rows in
        subst (λ (us : List (UnitTree Span)). InFile us file (λ k base part. BreaksAt p.rows h.items k base part at r)) units
        (subst (λ (rs : List Row). InFile h.units file (λ k base part. BreaksAt rs h.items k base part at r)) rows h.breaks)

    its_file : (u : UnitTree Span) → slice_get is.units file ≡ Some u → IsFile is.units file h.source.text h.items
    its_file u stands =
        let x = unit_read ss is.units is.words is.program.read file u stands in
        let source : x.0 ≡ h.source = same_Some x.0 h.source (sym x.2 ∙ h.stands) in
        let lexes : Lexes h.source.text x.3.items = subst (λ (s : Source). Lexes s.text x.3.items) source x.3.lexes in
        let items : x.3.items ≡ h.items = items_once h.source.text x.3.items h.items lexes h.lexes in
        let marked : IsMarkedUnit (length x.0.text) (placed_of x.0.text x.3.items) u = x.3.is in
        record {
          unit = u;
          stands = stands;
          lexes = h.lexes;
          is = subst (λ (xs : List Item). IsMarkedUnit (length h.source.text) (placed_of h.source.text xs) u) items
              (subst (λ (s : Source). IsMarkedUnit (length s.text) (placed_of s.text x.3.items) u) source marked);
        }

    -- a member that does breaks it where its part begins or behind it
    of_member : (w : WrittenMember Span) → Contains (written_members begins p.rows is.units) w → w.file ≡ file → IsWritten begins is.units file w.key w.base w.part → BreaksAt p.rows h.items w.key w.base w.part at r → ⊥
    of_member w has same wr there =
        let stands : slice_get ss w.file ≡ Some h.source = ap (slice_get ss) same ∙ h.stands in
        let place : IsPlaced p.rows h.items (p.super_at w.key) w.key w.base w.part =
        placed is.units file h.source.text h.items (its_file wr.unit wr.stands) w.key w.base w.part (is_part is.units file w.key w.base w.part wr) (p.super_at w.key) (super_there w has h.source stands h.items h.lexes) p.rows in
        let b = (place.breaks_there at r).0 there in
        let from = begins (part_mark w.part) w.base in
        let le : from ≤ at = owns_from w.base w.part at (place.breaks_within at r b) in
        let e : Error = record { at = at - from; rule = r } in
        let back : at ≡ from + (at - from) = omega (arith, le) in
        let found : InUnits begins (declarations_of begins is.units) (λ k base part. Breaks begins p.rows (p.super_at k) k base part (begins (part_mark part) base + e.at) e.rule) is.units w.key =
        to_units (declarations_of begins is.units) _ is.units w.key file wr.unit wr.stands
        (in_classes (declarations_of begins is.units) (λ j c q. (c ≡ w.base) × (q ≡ w.part)) (λ k base part. Breaks begins p.rows (p.super_at k) k base part (begins (part_mark part) base + e.at) e.rule) w.key
        (λ c q eq. subst (λ (base : ℕ). Breaks begins p.rows (p.super_at w.key) w.key base q (begins (part_mark q) base + e.at) r) (sym eq.0)
        (subst (λ (part : Part Span). Breaks begins p.rows (p.super_at w.key) w.key w.base part (begins (part_mark part) w.base + e.at) r) (sym eq.1)
        (subst (λ (place : ℕ). Breaks begins p.rows (p.super_at w.key) w.key w.base w.part place r) back b)))
        (begins wr.unit.mark 0) wr.unit.classes wr.writes) in
        is.is.sound w.key e (subst (λ (us : List (UnitTree Span)). InUnits begins (declarations_of begins us) (λ k base part. Breaks begins p.rows (p.super_at k) k base part (begins (part_mark part) base + e.at) e.rule) us w.key) (sym units_are) found)

    none_breaks : ⊥
    none_breaks =
        let x = written_in is.units file (λ k base part. BreaksAt p.rows h.items k base part at r) breaks in
        let written = law begins is.units p.rows is.is.are_rows are_rows in
        let m = written.all file breaks.member x.0 x.1 x.3 in
        let w = m.0 in
        let there : BreaksAt p.rows h.items w.key w.base w.part at r =
        subst (λ (k : MemberKey). BreaksAt p.rows h.items k w.base w.part at r) (sym m.3)
        (subst (λ (b : ℕ). BreaksAt p.rows h.items breaks.member b w.part at r) (sym m.4)
        (subst (λ (q : Part Span). BreaksAt p.rows h.items breaks.member x.0 q at r) (sym m.5) x.2)) in
        of_member w m.1 m.2 (subst (λ (f : ℕ). IsWritten begins is.units f w.key w.base w.part) m.2 (written.each w m.1)) there

  pub none_wrong : (name : List ℕ) (place : ℕ) (kind : List ℕ) → IsFirstWrong ss name place kind → ⊥
  none_wrong name place kind (inl h) = no_fault reading ss is.units is.words is.program name place kind h
  none_wrong name place kind (inr h) = none_breaks h.0 place h.1 h.3.has

-- ---- one first

same_place : (a b : ℕ) (q : Rule) (c d : ℕ) (r : Rule) → IsNoLater a b q c d r → IsNoLater c d r a b q → (a ≡ c) × (b ≡ d) × (rule_rank q ≡ rule_rank r)
same_place a b q c d r (inl g) (inl h) = absurd (omega (arith, g, h))
same_place a b q c d r (inl g) (inr h) = let e = h.0 in absurd (omega (arith, g, e))
same_place a b q c d r (inr g) (inl h) = let e = g.0 in absurd (omega (arith, h, e))
same_place a b q c d r (inr (e, inl g)) (inr (f, inl h)) = absurd (omega (arith, g, h))
same_place a b q c d r (inr (e, inl g)) (inr (f, inr h)) = let i = h.0 in absurd (omega (arith, g, i))
same_place a b q c d r (inr (e, inr g)) (inr (f, inl h)) = let i = g.0 in absurd (omega (arith, h, i))
same_place a b q c d r (inr (e, inr g)) (inr (f, inr h)) = let le = g.1 in let ge = h.1 in (e, g.0, omega (arith, le, ge))

abbrev Same : (f h : List ℕ) (a b : ℕ) (k l : List ℕ) → Type 0
Same f h a b k l = (f ≡ h) × (a ≡ b) × (k ≡ l)

module _ (reading : HasOneReading) (ss : List Source) (f h : List ℕ) (a b : ℕ) (k l : List ℕ) where
  pub one_wrong : IsFirstWrong ss f a k → IsFirstWrong ss h b l → Same f h a b k l
  one_wrong (inl x) (inl y) = one_first reading ss f h a b k l x y
  one_wrong (inl x) (inr y) = let e = y.3.has in absurd (no_fault reading ss e.units e.words e.program f a k x)
  one_wrong (inr x) (inl y) = let e = x.3.has in absurd (no_fault reading ss e.units e.words e.program h b l y)
  one_wrong (inr x) (inr y) =
      let same = same_place x.0 a x.1 y.0 b y.1 (x.3.first y.0 b y.1 y.3.has) (y.3.first x.0 a x.1 x.3.has) in
      let named : HasName ss x.0 h = subst (λ (n : ℕ). HasName ss n h) (sym same.0) y.2 in
      (one_name ss x.0 f h x.2 named, same.1, x.4 ∙ ap rule_name (one_rule x.1 y.1 same.2) ∙ sym y.4)
