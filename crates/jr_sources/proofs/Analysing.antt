-- What is known of the members of sources is what the files' trees have.
use Rattle.std.proofs.Common.{◌≡◌, ℕ, zero, suc, ◌+◌, ◌<◌, ◌≤◌, List, [], ◌∷◌, length, map, refl, sym, ap, subst, ◌∙◌, arith, inl, inr}
use Rattle.std.specs.Prelude.{◌⊎◌, ◌↔◌, Option, Some, None, Contains, slice_get}
use Rattle.std.proofs.lemmas.Option.{slice_get_within, same_Some, none-some}
use Rattle.jr_text.specs.declared.spans.Span.{Span}
use Rattle.jr_lex.specs.declared.items.Item.{Item}
use Rattle.jr_lex.specs.Lexes.{Lexes}
use Rattle.jr_ast.specs.MemberTree.{Unit as UnitTree}
use Rattle.jr_ast.specs.MemberTree as syntax
use Rattle.jr_grammar.specs.Tokens.{placed_of}
use Rattle.jr_grammar.specs.Units.{IsMarkedUnit}
use Rattle.jr_table.specs.Decls.{MemberKey, Decl}
use Rattle.jr_table.specs.Rows.{Row}
use Rattle.jr_table.specs.Conditions.{AreRows}
use Rattle.jr_table.specs.DeclaredItems.{declarations_of}
use Rattle.jr_table.specs.Errors.{Part, class_part, member_part, part_mark}
use Rattle.jr_table.specs.Faults as faults
use Rattle.jr_table.specs.declared.rules.Rule.{Rule}
use Rattle.jr_members.specs.Parts.{Placed, units_parts}
use Rattle.jr_members.specs.WrittenMembers.{WrittenMember, written_members, members_at, put_member, row_count}
use Rattle.jr_members.specs.WrittenLaws.{AreWritten, IsWritten}
use Rattle.jr_program_laws.specs.FileParts.{begins, BindsAt, BreaksAt, InFile, SuperStands, BeginsToken}
use Rattle.jr_program_laws.specs.PlaceLaws.{IsFile, OneIsBound, PartsArePlaced, SupersStand, IsPlaced, Owns}
use Rattle.jr_program.specs.Members.{AnyOf, EachOf, MemberRefers, MemberErrs, WrittenRefers, WrittenErrs, AreKnown, CanBind, IsSuperPlace}
use Rattle.jr_program.specs.declared.bounds.MemberBound.{MemberBound}
use Rattle.jr_sources.specs.ReadingFaults.{ReadsAs}
use Rattle.jr_sources.specs.ReadingLaws.{HasOneReading}
use Rattle.jr_sources.specs.Sources.{Source, texts_of}
use Rattle.jr_sources.specs.FirstFault.{AreRead, AreProgram, package_lines, IsFileFault, IsDeclarationFault, IsFirstFaultOf}
use Rattle.jr_sources.specs.Analysed.{AreLexed, CostsBinding}
use Rattle.jr_sources.specs.MemberCount.{member_count}
use Rattle.jr_sources.proofs.PartsFit.{whole_fits}
use Rattle.jr_sources.proofs.InFiles.{any_from, from_any, each_from, in_file, is_part, written_in}
use Rattle.jr_sources.proofs.AllRead.{element, text_there}
use Rattle.jr_sources.proofs.SourceLaws.{length-texts}

-- ---- the items of texts

pub lexed_count : (ts : List (List ℕ)) (is : List (List Item)) → AreLexed ts is → length is ≡ length ts
lexed_count [] [] h = refl
lexed_count [] (x ∷ xs) h = absurd h
lexed_count (t ∷ ts) [] h = absurd h
lexed_count (t ∷ ts) (x ∷ xs) h = ap suc (lexed_count ts xs h.1)

pub lexed_each : (ts : List (List ℕ)) (is : List (List Item)) → AreLexed ts is → (i : ℕ) (t : List ℕ) (x : List Item) → slice_get ts i ≡ Some t → slice_get is i ≡ Some x → Lexes t x
lexed_each [] is h i t x a b = absurd (none-some t a)
lexed_each (u ∷ ts) [] h i t x a b = absurd h
lexed_each (u ∷ ts) (y ∷ is) h zero t x a b = subst (λ (s : List ℕ). Lexes s x) (same_Some u t a) (subst (Lexes u) (same_Some y x b) h.0)
lexed_each (u ∷ ts) (y ∷ is) h (suc i) t x a b = lexed_each ts is h.1 i t x a b

-- ---- sources that read as units

-- the file of a unit, and what it reads as
pub unit_read : (ss : List Source) (us : List (UnitTree Span)) (ws : List ℕ) → AreRead ss us ws → (i : ℕ) (u : UnitTree Span) → slice_get us i ≡ Some u → (s : Source) × (w : ℕ) × (slice_get ss i ≡ Some s) × ReadsAs s.text u w
unit_read [] us ws h i u e = absurd (none-some u (sym (ap (λ (l : List (UnitTree Span)). slice_get l i) h.0) ∙ e))
unit_read (s ∷ ss) us ws (v, vs, w, xs, eu, ew, r, rest) zero u e =
    let is : v ≡ u = same_Some v u (sym (ap (λ (l : List (UnitTree Span)). slice_get l 0) eu) ∙ e) in
    (s, w, refl, subst (λ (t : UnitTree Span). ReadsAs s.text t w) is r)
unit_read (s ∷ ss) us ws (v, vs, w, xs, eu, ew, r, rest) (suc i) u e =
    let more = unit_read ss vs xs rest i u (sym (ap (λ (l : List (UnitTree Span)). slice_get l (suc i)) eu) ∙ e) in
    (more.0, more.1, more.2, more.3)

-- the same from the file
pub source_read : (ss : List Source) (us : List (UnitTree Span)) (ws : List ℕ) → AreRead ss us ws → (i : ℕ) (s : Source) → slice_get ss i ≡ Some s → (u : UnitTree Span) × (w : ℕ) × (slice_get us i ≡ Some u) × ReadsAs s.text u w
source_read [] us ws h i s e = absurd (none-some s e)
source_read (x ∷ ss) us ws (v, vs, w, xs, eu, ew, r, rest) zero s e =
    let is : x ≡ s = same_Some x s e in
    (v, w, ap (λ (l : List (UnitTree Span)). slice_get l 0) eu, subst (λ (t : Source). ReadsAs t.text v w) is r)
source_read (x ∷ ss) us ws (v, vs, w, xs, eu, ew, r, rest) (suc i) s e =
    let more = source_read ss vs xs rest i s e in
    (more.0, more.1, ap (λ (l : List (UnitTree Span)). slice_get l (suc i)) eu ∙ more.2, more.3)

pub counts : (ss : List Source) (us : List (UnitTree Span)) (ws : List ℕ) → AreRead ss us ws → (length us ≡ length ss) × (length ws ≡ length ss)
counts [] us ws h = (ap length h.0, ap length h.1)
counts (s ∷ ss) us ws (v, vs, w, xs, eu, ew, r, rest) =
    let more = counts ss vs xs rest in
    (ap length eu ∙ ap suc more.0, ap length ew ∙ ap suc more.1)

-- sources read in one way
pub read_once : HasOneReading → (ss : List Source) (us vs : List (UnitTree Span)) (ws xs : List ℕ) → AreRead ss us ws → AreRead ss vs xs → (us ≡ vs) × (ws ≡ xs)
read_once law [] us vs ws xs g h = (g.0 ∙ sym h.0, g.1 ∙ sym h.1)
read_once law (s ∷ ss) us vs ws xs (a, al, b, bl, ea, eb, r, g) (c, cl, d, dl, ec, ed, q, h) =
    let one = law.unit s.text a c b d r q in
    let more = read_once law ss al cl bl dl g h in
    (ea ∙ (λ i. one.0 i ∷ more.0 i) ∙ sym ec, eb ∙ (λ i. one.1 i ∷ more.1 i) ∙ sym ed)

-- a program has no fault
pub no_fault : HasOneReading → (ss : List Source) (us : List (UnitTree Span)) (ws : List ℕ) → AreProgram ss us ws → (file : List ℕ) (at : ℕ) (kind : List ℕ) → IsFirstFaultOf ss file at kind → ⊥
no_fault law ss us ws p file at kind (inl h) =
    let r = source_read ss us ws p.read h.number (record { name = file; text = h.text }) h.stands in
    law.never_both h.text r.0 r.1 h.fault r.3 h.has
no_fault law ss us ws p file at kind (inr h) =
    let one = read_once law ss h.units us h.words ws h.read p.read in
    p.clean h.of h.place (subst (λ (x : List ℕ). faults.HasFault (package_lines us x) (declarations_of begins us) h.of h.place) one.1
    (subst (λ (x : List (UnitTree Span)). faults.HasFault (package_lines x h.words) (declarations_of begins x) h.of h.place) one.0 h.first.has))

-- ---- the parts of a program are as many as its members at most

members_few : (rows : List Row) (row : ℕ) (ps : List (Placed Span)) → length (members_at begins rows row ps) ≤ length ps
unfolding members_at
members_few rows row [] = omega arith
members_few rows row (p ∷ ps) = by (slice_get rows row) (members_few rows (row + row_count begins p.part) ps)
  where
    by : (o : Option Row) → length (members_at begins rows (row + row_count begins p.part) ps) ≤ length ps → length (put_member begins o row p (members_at begins rows (row + row_count begins p.part) ps)) ≤ suc (length ps)
    by None h = omega arith
    by (Some r) h = omega (arith, h)

pub written_few : (rows : List Row) (us : List (UnitTree Span)) → length (written_members begins rows us) ≤ member_count us
unfolding written_members
written_few rows us = members_few rows _ (units_parts begins us)

pub costs : HasOneReading → (ss : List Source) (us : List (UnitTree Span)) (ws : List ℕ) → AreProgram ss us ws → (before after : ℕ) → before ≤ after → after ≤ before + member_count us → CostsBinding ss before after
costs law ss us ws p before after least most = record {
  faulty = λ file at kind f. absurd (no_fault law ss us ws p file at kind f);
  program = λ vs xs q. let one = (read_once law ss us vs ws xs p.read q.read).0 in subst (λ (v : List (UnitTree Span)). after ≤ before + member_count v) one most;
}

pub costs_nothing : (ss : List Source) (n : ℕ) → CostsBinding ss n n
costs_nothing ss n = record { faulty = λ file at kind f. refl; program = λ vs xs q. omega arith }

-- ---- what a part has stands behind its first byte

owns_from : (base : ℕ) (part : Part Span) (at : ℕ) → Owns part at → begins (part_mark part) base ≤ at
owns_from base (class_part (syntax.class m mods w t ms)) at h = h.0.0
owns_from base (member_part x) at h = h.0

super_place : (items : List Item) (part : Part Span) (s : ℕ) → SuperStands items part s → (at : ℕ) × IsSuperPlace items part at
super_place items (class_part of) s h = (0, refl)
super_place items (member_part (syntax.field m mods t w init)) s h = (0, refl)
super_place items (member_part (syntax.method m mods t w ps body)) s h = (0, refl)
super_place items (member_part (syntax.constructor m mods w ps None body)) s h = (0, refl)
super_place items (member_part (syntax.constructor m mods w ps (Some args) body)) s h = (s, h)
super_place items (member_part (syntax.inner m of)) s h = (0, refl)

-- ---- the members of a program

abbrev pub OneItems : Type 0
OneItems = (bytes : List ℕ) (items others : List Item) → Lexes bytes items → Lexes bytes others → items ≡ others

module _ (sources : List Source) (units : List (UnitTree Span)) (words : List ℕ) (program : AreProgram sources units words) (rows : List Row) (fit : AreRows rows)
    (tokens : List (List Item)) (lexed : AreLexed (texts_of sources) tokens) (items_once : OneItems) (placed : PartsArePlaced) (supers : SupersStand) (bound_once : OneIsBound)
    (ws : List (WrittenMember Span)) (law : AreWritten begins units rows ws) where
  -- the file of a unit, and its items
  file_items : (file : ℕ) (u : UnitTree Span) → slice_get units file ≡ Some u → (s : Source) × (items : List Item) × (slice_get sources file ≡ Some s) × (slice_get tokens file ≡ Some items) × IsFile units file s.text items
  file_items file u e =
      let r = unit_read sources units words program.read file u e in
      let lt = slice_get_within sources file r.0 r.2 in
      let n = lexed_count (texts_of sources) tokens lexed in
      let m = length-texts sources in
      let there = element tokens file (omega (arith, lt, n, m)) in
      let lexes : Lexes r.0.text there.0 = lexed_each (texts_of sources) tokens lexed file r.0.text there.0 (text_there sources file r.0 r.2) there.1 in
      let same : r.3.items ≡ there.0 = items_once r.0.text r.3.items there.0 r.3.lexes lexes in
      (r.0, there.0, r.2, there.1, record { unit = u; stands = e; lexes = lexes; is = subst (λ (is : List Item). IsMarkedUnit (length r.0.text) (placed_of r.0.text is) u) same r.3.is })

  is_file : (file : ℕ) (u : UnitTree Span) (items : List Item) → slice_get units file ≡ Some u → slice_get tokens file ≡ Some items → (text : List ℕ) × IsFile units file text items
  is_file file u items e h =
      let r = file_items file u e in
      let same : r.1 ≡ items = same_Some r.1 items (sym r.3 ∙ h) in
      (r.0.text, subst (λ (is : List Item). IsFile units file r.0.text is) same r.4)

  -- what is known of the place of a member
  module _ (w : WrittenMember Span) (has : Contains ws w) (items : List Item) (stands : slice_get tokens w.file ≡ Some items) where
    placed_there : (super_at : ℕ) × IsPlaced rows items super_at w.key w.base w.part
    placed_there =
        let wr = law.each w has in
        let f = is_file w.file wr.unit items wr.stands stands in
        let p = is_part units w.file w.key w.base w.part wr in
        let s = supers units w.file f.0 items f.1 w.key w.base w.part p in
        (s.0, placed units w.file f.0 items f.1 w.key w.base w.part p s.0 s.1 rows)

    once_there : (at : ℕ) (d e : Decl) → BindsAt rows items w.key w.base w.part at d → BindsAt rows items w.key w.base w.part at e → d ≡ e
    once_there at d e g h = let p = placed_there.1 in p.one fit at d e ((p.binds_there at d).0 g) ((p.binds_there at e).0 h)

    refers_there : (at : ℕ) (d : Decl) → BindsAt rows items w.key w.base w.part at d → begins (part_mark w.part) w.base ≤ at
    refers_there at d h = let p = placed_there.1 in owns_from w.base w.part at (p.binds_within at d ((p.binds_there at d).0 h))

    breaks_there : (at : ℕ) (r : Rule) → BreaksAt rows items w.key w.base w.part at r → begins (part_mark w.part) w.base ≤ at
    breaks_there at r h = let p = placed_there.1 in owns_from w.base w.part at (p.breaks_within at r ((p.breaks_there at r).0 h))

  -- a written `super(..)` stands somewhere
  super_there : (w : WrittenMember Span) → Contains ws w → (items : List Item) → slice_get tokens w.file ≡ Some items → (at : ℕ) × IsSuperPlace items w.part at
  super_there w has items stands =
      let wr = law.each w has in
      let f = is_file w.file wr.unit items wr.stands stands in
      let s = supers units w.file f.0 items f.1 w.key w.base w.part (is_part units w.file w.key w.base w.part wr) in
      super_place items w.part s.0 s.1

  can_bind : (w : WrittenMember Span) → Contains ws w → CanBind rows tokens w
  can_bind w has = record {
    row = law.row w has;
    fits = whole_fits begins w.base w.part;
    file = let wr = law.each w has in slice_get_within tokens w.file _ (file_items w.file wr.unit wr.stands).3;
    stands = super_there w has;
    once = once_there w has;
    refers_within = refers_there w has;
    breaks_within = breaks_there w has;
  }

  pub all_bind : EachOf (CanBind rows tokens) ws
  all_bind = each_from (CanBind rows tokens) ws can_bind

  -- ---- what is known of a file
  module _ (bounds : List MemberBound) (known : AreKnown rows tokens ws bounds) where
    module _ (file : ℕ) (items : List Item) (stands : slice_get tokens file ≡ Some items) where
      refers_in : (at : ℕ) (d : Decl) → AnyOf (WrittenRefers rows tokens file at d) ws ↔ InFile units file (λ k base part. BindsAt rows items k base part at d)
      refers_in at d = (to, back)
        where
          to : AnyOf (WrittenRefers rows tokens file at d) ws → InFile units file (λ k base part. BindsAt rows items k base part at d)
          to h =
              let r = from_any (WrittenRefers rows tokens file at d) ws h in
              let w = r.0 in
              let same : r.2.1.0 ≡ items = same_Some r.2.1.0 items (sym r.2.1.1 ∙ stands) in
              let there = subst (λ (is : List Item). BindsAt rows is w.key w.base w.part at d) same r.2.1.2 in
              in_file units file (λ k base part. BindsAt rows items k base part at d) w.key w.base w.part (subst (λ (f : ℕ). IsWritten begins units f w.key w.base w.part) r.2.0 (law.each w r.1)) there

          back : InFile units file (λ k base part. BindsAt rows items k base part at d) → AnyOf (WrittenRefers rows tokens file at d) ws
          back h =
              let r = written_in units file (λ k base part. BindsAt rows items k base part at d) h in
              let m = law.all file h.member r.0 r.1 r.3 in
              any_from (WrittenRefers rows tokens file at d) ws m.0 m.1 (
                m.2,
                (
                  items,
                  stands,
                  (subst (λ (k : MemberKey). BindsAt rows items k m.0.base m.0.part at d) (sym m.3)
                      (subst (λ (b : ℕ). BindsAt rows items h.member b m.0.part at d) (sym m.4) (subst (λ (p : Part Span). BindsAt rows items h.member r.0 p at d) (sym m.5) r.2))),
                ),
              )

      errs_in : (at : ℕ) (q : Rule) → AnyOf (WrittenErrs rows tokens file at q) ws ↔ InFile units file (λ k base part. BreaksAt rows items k base part at q)
      errs_in at q = (to, back)
        where
          to : AnyOf (WrittenErrs rows tokens file at q) ws → InFile units file (λ k base part. BreaksAt rows items k base part at q)
          to h =
              let r = from_any (WrittenErrs rows tokens file at q) ws h in
              let w = r.0 in
              let same : r.2.1.0 ≡ items = same_Some r.2.1.0 items (sym r.2.1.1 ∙ stands) in
              let there = subst (λ (is : List Item). BreaksAt rows is w.key w.base w.part at q) same r.2.1.2 in
              in_file units file (λ k base part. BreaksAt rows items k base part at q) w.key w.base w.part (subst (λ (f : ℕ). IsWritten begins units f w.key w.base w.part) r.2.0 (law.each w r.1)) there

          back : InFile units file (λ k base part. BreaksAt rows items k base part at q) → AnyOf (WrittenErrs rows tokens file at q) ws
          back h =
              let r = written_in units file (λ k base part. BreaksAt rows items k base part at q) h in
              let m = law.all file h.member r.0 r.1 r.3 in
              any_from (WrittenErrs rows tokens file at q) ws m.0 m.1 (
                m.2,
                (
                  items,
                  stands,
                  (subst (λ (k : MemberKey). BreaksAt rows items k m.0.base m.0.part at q) (sym m.3)
                      (subst (λ (b : ℕ). BreaksAt rows items h.member b m.0.part at q) (sym m.4) (subst (λ (p : Part Span). BreaksAt rows items h.member r.0 p at q) (sym m.5) r.2))),
                ),
              )

      pub known_refers : (at : ℕ) (d : Decl) → AnyOf (MemberRefers file at d) bounds ↔ InFile units file (λ k base part. BindsAt rows items k base part at d)
      known_refers at d = (λ h. (refers_in at d).0 ((known.references file at d).0 h), λ h. (known.references file at d).1 ((refers_in at d).1 h))

      pub known_errs : (at : ℕ) (q : Rule) → AnyOf (MemberErrs file at q) bounds ↔ InFile units file (λ k base part. BreaksAt rows items k base part at q)
      known_errs at q = (λ h. (errs_in at q).0 ((known.errors file at q).0 h), λ h. (known.errors file at q).1 ((errs_in at q).1 h))

    -- an error stands at a token
    pub known_token : (file at : ℕ) (q : Rule) → AnyOf (MemberErrs file at q) bounds → (items : List Item) × (slice_get tokens file ≡ Some items) × BeginsToken items at
    known_token file at q h =
        let r = from_any (WrittenErrs rows tokens file at q) ws ((known.errors file at q).0 h) in
        let w = r.0 in
        let items = r.2.1.0 in
        let p = (placed_there w r.1 items (subst (λ (n : ℕ). slice_get tokens n ≡ Some items) (sym r.2.0) r.2.1.1)).1 in
        (items, r.2.1.1, p.breaks_token at q ((p.breaks_there at q).0 r.2.1.2))

    pub known_once : (file at : ℕ) (d e : Decl) → AnyOf (MemberRefers file at d) bounds → AnyOf (MemberRefers file at e) bounds → d ≡ e
    known_once file at d e g h =
        let r = from_any (WrittenRefers rows tokens file at d) ws ((known.references file at d).0 g) in
        let items = r.2.1.0 in
        let stands = r.2.1.1 in
        let wr = law.each r.0 r.1 in
        let f = is_file file wr.unit items (subst (λ (n : ℕ). slice_get units n ≡ Some wr.unit) r.2.0 wr.stands) stands in
        bound_once (package_lines units words) units file f.0 items rows f.1 program.clean fit at d e ((known_refers file items stands at d).0 g) ((known_refers file items stands at e).0 h)
