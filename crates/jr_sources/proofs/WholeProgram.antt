-- Analysed sources of which no member breaks a rule are a whole program.
use Rattle.std.proofs.Common.{◌≡◌, ℕ, zero, suc, ◌+◌, ◌<◌, ◌≤◌, ◌^◌, List, [], ◌∷◌, length, map, true, false, refl, sym, ap, subst, ◌∙◌, arith, inl, inr}
use Rattle.std.specs.Prelude.{◌⊎◌, Option, Some, None, Contains, slice_get, option_map, IfSome}
use Rattle.std.proofs.lemmas.Bool.{cases_Bool, cond-true, cond-false}
use Rattle.std.proofs.lemmas.Option.{same_Some, none-some}
use Rattle.jr_text.specs.declared.spans.Span.{Span}
use Rattle.jr_lex.specs.declared.items.Item.{Item}
use Rattle.jr_lex.specs.Lexes.{Lexes}
use Rattle.jr_ast.specs.MemberTree.{Unit as UnitTree}
use Rattle.jr_ast.specs.MemberTree as syntax
use Rattle.jr_grammar.specs.Tokens.{placed_of}
use Rattle.jr_grammar.specs.Stands.{StandInOrder}
use Rattle.jr_grammar.specs.Layout.{Layouts, itself}
use Rattle.jr_grammar.specs.MemberLayout.{unit_layouts}
use Rattle.jr_grammar.specs.Reads.{ReadsWithSpans}
use Rattle.jr_grammar.proofs.Layouts.{all_spans_from-span}
use Rattle.jr_table.specs.Decls.{MemberKey}
use Rattle.jr_table.specs.Rows.{Row}
use Rattle.jr_table.specs.SameDecls.{same_member, member_decides}
use Rattle.jr_table.specs.Conditions.{AreRows}
use Rattle.jr_table.specs.DeclaredItems.{DeclaredItem, declarations_of}
use Rattle.jr_table.specs.ProgramRows.{AreProgramRows}
use Rattle.jr_table.specs.Faults.{PackageLine, IsClean}
use Rattle.jr_table.specs.declared.kinds.DeclKind.TheVariants as kind
use Rattle.jr_table.specs.declared.rules.Rule.{Rule}
use Rattle.jr_table.specs.Errors.{Part, class_part, member_part, part_mark, Breaks, InClasses, InUnits, IsSound}
use Rattle.jr_members.specs.WrittenMembers.{WrittenMember, written_members}
use Rattle.jr_members.specs.WrittenLaws.{AreWritten}
use Rattle.jr_bind.specs.Bounds.{IsBound}
use Rattle.jr_bind.specs.SuperPlaces as pure
use Rattle.jr_bind.specs.Programs.{File, Program, IsProgram, AreBound, units_of, members_of}
use Rattle.jr_program_laws.specs.FileParts.{begins, IsSuperAt}
use Rattle.jr_program.specs.declared.bounds.MemberBound.{MemberBound}
use Rattle.jr_program.specs.Members.{AnyOf, MemberErrs, IsSuperPlace, IsEachBound, AreEachBound}
use Rattle.jr_sources.specs.declared.analyses.Analysis.{Analysis}
use Rattle.jr_sources.specs.Analysed.{AreLexed, IsAnalysis}
use Rattle.jr_sources.specs.FirstFault.{AreRead, package_lines}
use Rattle.jr_sources.specs.ReadingFaults.{ReadsAs}
use Rattle.jr_sources.specs.Sources.{Source, AreSources, names_of, texts_of}
use Rattle.jr_ast.specs.View.{unit_of}
use Rattle.jr_sources.specs.declared.faults.ReadingFault.{ReadingFault}
use Rattle.jr_sources.specs.declared.kept.Readings.{Readings}
use Rattle.jr_sources.specs.FirstOf.{HaveNone}
use Rattle.jr_sources.specs.KeptReadings.{AreReadings}
use Rattle.jr_sources.specs.ReadingLaws.{HasOneReading}
use Rattle.jr_sources.specs.Whole.{files_of, super_in, program_of, Anywhere, AreWhole, IsProgramOf}
use Rattle.jr_sources.proofs.AllRead.{element, text_there, kept, read_units, lexed_tokens}
use Rattle.jr_sources.proofs.Analysing.{OneItems, counts, lexed_count, lexed_each, read_once, source_read}
use Rattle.jr_sources.proofs.SourceLaws.{length-texts}
use Rattle.jr_sources.proofs.InFiles.{written_in}
use Rattle.jr_sources.proofs.PartsFit.{whole_fits, units_gathered}

-- ---- files

pub file_at : (ss : List Source) (us : List (UnitTree Span)) (ws : List ℕ) → AreRead ss us ws → (i : ℕ) (f : File Span) → slice_get (files_of ss us) i ≡ Some f
    → (s : Source) × (w : ℕ) × (slice_get ss i ≡ Some s) × (slice_get us i ≡ Some f.unit) × (f.text ≡ s.text) × ReadsAs s.text f.unit w
file_at [] us ws h i f e = absurd (none-some f e)
file_at (s ∷ ss) us ws (v, vs, w, xs, eu, ew, r, rest) zero f e =
    let is : record { name = s.name; text = s.text; unit = v } ≡ f = same_Some (record { name = s.name; text = s.text; unit = v }) f (sym (ap (λ (l : List (UnitTree Span)). slice_get (files_of (s ∷ ss) l) 0) eu) ∙ e) in
    let unit : v ≡ f.unit = ap (λ (x : File Span). x.unit) is in
    (s, w, refl, ap (λ (l : List (UnitTree Span)). slice_get l 0) eu ∙ ap (λ (u : UnitTree Span). Some u) unit, sym (ap (λ (x : File Span). x.text) is), subst (λ (u : UnitTree Span). ReadsAs s.text u w) unit r)
file_at (s ∷ ss) us ws (v, vs, w, xs, eu, ew, r, rest) (suc i) f e =
    let more = file_at ss vs xs rest i f (sym (ap (λ (l : List (UnitTree Span)). slice_get (files_of (s ∷ ss) l) (suc i)) eu) ∙ e) in
    (more.0, more.1, more.2, ap (λ (l : List (UnitTree Span)). slice_get l (suc i)) eu ∙ more.3, more.4, more.5)

pub units_files : (ss : List Source) (us : List (UnitTree Span)) → length us ≡ length ss → map (λ (f : File Span). f.unit) (files_of ss us) ≡ us
units_files [] [] n = refl
units_files [] (u ∷ us) n = absurd (omega (arith, n))
units_files (s ∷ ss) [] n = absurd (omega (arith, n))
units_files (s ∷ ss) (u ∷ us) n = ap (λ (l : List (UnitTree Span)). u ∷ l) (units_files ss us (omega (arith, n)))

pub length-files : (ss : List Source) (us : List (UnitTree Span)) → length us ≡ length ss → length (files_of ss us) ≡ length ss
length-files [] us n = refl
length-files (s ∷ ss) [] n = absurd (omega (arith, n))
length-files (s ∷ ss) (u ∷ us) n = ap suc (length-files ss us (omega (arith, n)))

-- each file has items
pub file_within : (ss : List Source) (us : List (UnitTree Span)) (ts : List (List Item)) → length us ≡ length ss → AreLexed (texts_of ss) ts → (file : ℕ) → file < length (files_of ss us) → file < length ts
file_within ss us ts count lexed file lt =
    let n = length-files ss us count in
    let m = length-texts ss in
    let k = lexed_count (texts_of ss) ts lexed in
    omega (arith, n, m, k, lt)

-- those of its text
pub items_files : (ss : List Source) (us : List (UnitTree Span)) (ts : List (List Item)) → AreLexed (texts_of ss) ts → (file : ℕ) (items : List Item) → slice_get ts file ≡ Some items → IfSome (slice_get (files_of ss us) file) (λ (f : File Span). Lexes f.text items)
items_files [] us ts lexed file items e = tt
items_files (s ∷ ss) [] ts lexed file items e = tt
items_files (s ∷ ss) (u ∷ us) [] lexed file items e = absurd lexed
items_files (s ∷ ss) (u ∷ us) (t ∷ ts) lexed zero items e = subst (Lexes s.text) (same_Some t items e) lexed.0
items_files (s ∷ ss) (u ∷ us) (t ∷ ts) lexed (suc file) items e = items_files ss us ts lexed.1 file items e

pub names_files : (ss : List Source) (us : List (UnitTree Span)) → length us ≡ length ss → (i : ℕ) → option_map (λ (f : File Span). f.name) (slice_get (files_of ss us) i) ≡ slice_get (names_of ss) i
names_files [] us n i = refl
names_files (s ∷ ss) [] n i = absurd (omega (arith, n))
names_files (s ∷ ss) (u ∷ us) n zero = refl
names_files (s ∷ ss) (u ∷ us) n (suc i) = names_files ss us (omega (arith, n)) i

pub texts_files : (ss : List Source) (us : List (UnitTree Span)) → length us ≡ length ss → (i : ℕ) → option_map (λ (f : File Span). f.text) (slice_get (files_of ss us) i) ≡ slice_get (texts_of ss) i
texts_files [] us n i = refl
texts_files (s ∷ ss) [] n i = absurd (omega (arith, n))
texts_files (s ∷ ss) (u ∷ us) n zero = refl
texts_files (s ∷ ss) (u ∷ us) n (suc i) = texts_files ss us (omega (arith, n)) i

-- the marks of what is read are its spans
reads_with : (text : List ℕ) (u : UnitTree Span) (w : ℕ) → ReadsAs text u w → ReadsWithSpans itself text u
reads_with text u w h = record {
  items = h.items;
  lexes = h.lexes;
  is = record { shaped = h.is.shaped; spells = h.is.spells };
  spans = subst (λ (ls : Layouts Span). StandInOrder ls (placed_of text h.items)) (sym (all_spans_from-span 0 (unit_layouts u))) h.is.marks;
  file = h.is.file;
}

-- no package line differs where there is none
no_lines : (packages : List (Option PackageLine)) (declarations : List DeclaredItem) → IsClean packages declarations → IsClean [] declarations
no_lines packages declarations h kind.PackageDiffers p f = absurd (none-some f.0 f.2)
no_lines packages declarations h kind.PreludeName p f = h kind.PreludeName p f
no_lines packages declarations h kind.TwiceClass p f = h kind.TwiceClass p f
no_lines packages declarations h kind.NoSuperclass p f = h kind.NoSuperclass p f
no_lines packages declarations h kind.Cycle p f = h kind.Cycle p f
no_lines packages declarations h kind.NoTy p f = h kind.NoTy p f
no_lines packages declarations h kind.TwiceMember p f = h kind.TwiceMember p f
no_lines packages declarations h kind.MemberTypeName p f = h kind.MemberTypeName p f
no_lines packages declarations h kind.BadModifiers p f = h kind.BadModifiers p f
no_lines packages declarations h kind.StaticInit p f = h kind.StaticInit p f

-- ---- where `super(..)` stands

module _ (items : List Item) where
  one_super : (span : Span) (a b : ℕ) → IsSuperAt items span a → IsSuperAt items span b → a ≡ b
  one_super span a b g h =
      let p = g.first b h.there h.within.0 in
      let q = h.first a g.there g.within.0 in
      omega (arith, p, q)

  one_place : (part : Part Span) (a b : ℕ) → IsSuperPlace items part a → IsSuperPlace items part b → a ≡ b
  one_place (class_part of) a b g h = g ∙ sym h
  one_place (member_part (syntax.field m mods t w init)) a b g h = g ∙ sym h
  one_place (member_part (syntax.method m mods t w ps body)) a b g h = g ∙ sym h
  one_place (member_part (syntax.constructor m mods w ps None body)) a b g h = g ∙ sym h
  one_place (member_part (syntax.constructor m mods w ps (Some args) body)) a b g h = one_super m a b g h
  one_place (member_part (syntax.inner m of)) a b g h = g ∙ sym h

  as_super : (span : Span) (at : ℕ) → IsSuperAt items span at → pure.IsSuperAt items span at
  as_super span at h = record {
    there = record { number = h.there.number; token = h.there.token; stands = h.there.stands; is = h.there.is; place = h.there.place };
    within = h.within;
    first = λ other b le. h.first other (record { number = b.number; token = b.token; stands = b.stands; is = b.is; place = b.place }) le;
  }

  written_place : (part : Part Span) (base at : ℕ) → pure.writes_super part ≡ true → IsSuperPlace items part at → pure.IsSuperAt items (itself (part_mark part) base) at
  written_place (class_part of) base at e h = absurd cc
  written_place (member_part (syntax.field m mods t w init)) base at e h = absurd cc
  written_place (member_part (syntax.method m mods t w ps body)) base at e h = absurd cc
  written_place (member_part (syntax.constructor m mods w ps None body)) base at e h = absurd cc
  written_place (member_part (syntax.constructor m mods w ps (Some args) body)) base at e h = as_super m at h
  written_place (member_part (syntax.inner m of)) base at e h = absurd cc

-- ---- one of each

module _ (rows : List Row) (files : List (List Item)) where
  -- what is known of a written member
  its_bound : (ws : List (WrittenMember Span)) (bs : List MemberBound) → AreEachBound rows files ws bs → (w : WrittenMember Span) → Contains ws w → (b : MemberBound) × IsEachBound rows files w b × ((P : MemberBound → Type 0) → P b → AnyOf P bs)
  its_bound [] bs h w (k, lt, is) = absurd (omega (arith, lt))
  its_bound (v ∷ ws) [] h w c = absurd h
  its_bound (v ∷ ws) (b ∷ bs) h w (zero, lt, is) = (b, subst (λ (x : WrittenMember Span). IsEachBound rows files x b) is h.0, λ P p. inl p)
  its_bound (v ∷ ws) (b ∷ bs) h w (suc k, lt, is) =
      let m = its_bound ws bs h.1 w (k, omega (arith, lt), is) in
      (m.0, m.1, λ P p. inr (m.2 P p))

  finds : (ws : List (WrittenMember Span)) (bs : List MemberBound) → AreEachBound rows files ws bs → (k : MemberKey) (n : ℕ)
      → ((v : WrittenMember Span) → Contains ws v → v.key ≡ k → (c : MemberBound) → IsEachBound rows files v c → c.super_at ≡ n)
      → (w : WrittenMember Span) → Contains ws w → w.key ≡ k → super_in bs k ≡ n
  finds [] bs h k n f w (i, lt, is) e = absurd (omega (arith, lt))
  finds (v ∷ ws) [] h k n f w c e = absurd h
  finds (v ∷ ws) (b ∷ bs) h k n f w c e = by (cases_Bool (same_member b.bound.member k)) (λ d. finds ws bs h.1 k n (λ x g q. let lt = g.1 in f x (suc g.0, omega (arith, lt), g.2) q) w d e)
    where
      here : b.bound.member ≡ v.key
      here = h.0.is.bound.member

      left : (same_member b.bound.member k ≡ false) → Contains (v ∷ ws) w → Contains ws w
      left never (zero, lt, is) =
          let same : b.bound.member ≡ k = here ∙ ap (λ (x : WrittenMember Span). x.key) is ∙ e in
          let both : true ≡ false = sym ((member_decides b.bound.member k).1 same) ∙ never in absurd cc
      left never (suc i, lt, is) = (i, omega (arith, lt), is)

      by : ((same_member b.bound.member k ≡ true) ⊎ (same_member b.bound.member k ≡ false)) → (Contains ws w → super_in bs k ≡ n) → super_in (b ∷ bs) k ≡ n
      by (inl yea) rest =
          let key : v.key ≡ k = sym here ∙ (member_decides b.bound.member k).0 yea in
          cond-true (same_member b.bound.member k) b.super_at (super_in bs k) yea ∙ f v (0, omega arith, refl) key b h.0
      by (inr nay) rest = cond-false (same_member b.bound.member k) b.super_at (super_in bs k) nay ∙ rest (left nay c)

  each_bound : (sup : MemberKey → ℕ) (ws : List (WrittenMember Span)) (bs : List MemberBound) → AreEachBound rows files ws bs → ((w : WrittenMember Span) → Contains ws w → (c : MemberBound) → IsEachBound rows files w c → sup w.key ≡ c.super_at)
      → AreBound itself Anywhere rows sup ws (map (λ (b : MemberBound). b.bound) bs)
  each_bound sup [] [] h f = tt
  each_bound sup [] (b ∷ bs) h f = absurd h
  each_bound sup (w ∷ ws) [] h f = absurd h
  each_bound sup (w ∷ ws) (b ∷ bs) h f = (
    subst (λ (n : ℕ). IsBound begins rows n w.key w.base w.part b.bound) (sym (f w (0, omega arith, refl) b h.0)) h.0.is.bound,
    each_bound sup ws bs h.1 (λ x d. let lt = d.1 in f x (suc d.0, omega (arith, lt), d.2)),
  )

-- ---- a member of some file

in_units : (declarations : List DeclaredItem) (P : MemberKey → (base : ℕ) → Part Span → Type 0) (us : List (UnitTree Span)) (k : MemberKey) → InUnits begins declarations P us k → (i : ℕ) × (u : UnitTree Span) × (slice_get us i ≡ Some u) × InClasses begins declarations P (begins u.mark 0) u.classes k
in_units declarations P [] k h = absurd h
in_units declarations P (u ∷ us) k (inl h) = (0, u, refl, h)
in_units declarations P (u ∷ us) k (inr h) = let m = in_units declarations P us k h in (suc m.0, m.1, m.2, m.3)

-- ---- the whole

module _ (sources : List Source) (a : Analysis) (is : IsAnalysis sources a) (valid : AreSources sources) (fit : AreRows a.table) (items_once : OneItems)
    (law : AreWritten begins is.units a.table (written_members begins a.table is.units)) (none : (file at : ℕ) (r : Rule) → AnyOf (MemberErrs file at r) a.members.items → ⊥) where
  abbrev written : List (WrittenMember Span)
  written = written_members begins a.table is.units

  abbrev bounds : List MemberBound
  bounds = a.members.items

  place_is : (w : WrittenMember Span) → Contains written w → (c : MemberBound) → IsEachBound a.table is.tokens w c → super_in bounds w.key ≡ c.super_at
  place_is w has c e = finds a.table is.tokens written bounds is.each w.key c.super_at same w has refl
    where
      same : (v : WrittenMember Span) → Contains written v → v.key ≡ w.key → (d : MemberBound) → IsEachBound a.table is.tokens v d → d.super_at ≡ c.super_at
      same v there key d f =
          let one : v ≡ w = law.one v w there has key in
          let g : IsEachBound a.table is.tokens w d = subst (λ (x : WrittenMember Span). IsEachBound a.table is.tokens x d) one f in
          let items : g.items ≡ e.items = same_Some g.items e.items (sym g.stands ∙ e.stands) in
          one_place e.items w.part d.super_at c.super_at (subst (λ (x : List Item). IsSuperPlace x w.part d.super_at) items g.place) e.place

  sound : IsSound begins a.table (super_in bounds) is.units
  sound k e h =
      let u = in_units (declarations_of begins is.units) _ is.units k h in
      let r = written_in is.units u.0 (λ j base part. Breaks begins a.table (super_in bounds j) j base part (begins (part_mark part) base + e.at) e.rule) (record { unit = u.1; stands = u.2; member = k; has = u.3 }) in
      let m = law.all u.0 k r.0 r.1 r.3 in
      let w = m.0 in
      let b = its_bound a.table is.tokens written bounds is.each w m.1 in
      let breaks : Breaks begins a.table (super_in bounds w.key) w.key w.base w.part (begins (part_mark w.part) w.base + e.at) e.rule =
      subst (λ (j : MemberKey). Breaks begins a.table (super_in bounds j) j w.base w.part (begins (part_mark w.part) w.base + e.at) e.rule) (sym m.3)
      (subst (λ (n : ℕ). Breaks begins a.table (super_in bounds k) k n w.part (begins (part_mark w.part) n + e.at) e.rule) (sym m.4)
      (subst (λ (p : Part Span). Breaks begins a.table (super_in bounds k) k r.0 p (begins (part_mark p) r.0 + e.at) e.rule) (sym m.5) r.2)) in
      let there = subst (λ (n : ℕ). Breaks begins a.table n w.key w.base w.part (begins (part_mark w.part) w.base + e.at) e.rule) (place_is w m.1 b.0 b.1) breaks in
      let among = (b.1.is.bound.errors.exact e).1 there in
      none b.0.file (b.0.start + e.at) e.rule (b.2 (MemberErrs b.0.file (b.0.start + e.at) e.rule) (refl, (e, refl, refl, among)))

  supers : (w : WrittenMember Span) → Contains written w → pure.writes_super w.part ≡ true → (f : File Span) → slice_get (files_of sources is.units) w.file ≡ Some f → (items : List Item) → Lexes f.text items → pure.IsSuperAt items (itself (part_mark w.part) w.base) (super_in bounds w.key)
  supers w has writes f stands items lexes =
      let b = its_bound a.table is.tokens written bounds is.each w has in
      let s = file_at sources is.units is.words is.program.read w.file f stands in
      let own : Lexes s.0.text b.1.items = lexed_each (texts_of sources) is.tokens is.lexed w.file s.0.text b.1.items (text_there sources w.file s.0 s.2) b.1.stands in
      let same : b.1.items ≡ items = items_once s.0.text b.1.items items own (subst (λ (t : List ℕ). Lexes t items) s.4 lexes) in
      subst (λ (n : ℕ). pure.IsSuperAt items (itself (part_mark w.part) w.base) n) (sym (place_is w has b.0 b.1))
      (written_place items w.part w.base b.0.super_at writes (subst (λ (x : List Item). IsSuperPlace x w.part b.0.super_at) same b.1.place))

  abbrev whole : Program Span
  whole = program_of sources is.units a.table bounds

  count : length is.units ≡ length sources
  count = (counts sources is.units is.words is.program.read).0

  units_are : units_of whole ≡ is.units
  units_are = units_files sources is.units count

  members_are : members_of itself Anywhere whole ≡ written
  members_are = ap (λ (us : List (UnitTree Span)). written_members begins a.table us) units_are

  pub is_program : IsProgram itself Anywhere whole
  is_program = record {
    reads = λ number f e. let s = file_at sources is.units is.words is.program.read number f e in subst (λ (t : List ℕ). ReadsWithSpans itself t f.unit) (sym s.4) (reads_with s.0.text f.unit s.1 s.5);
    few = let n = length-files sources is.units count in let few : length sources ≤ 256 = valid.few in omega (arith, n, few);
    heads_fit = units_gathered begins (units_of whole);
    members_fit = λ w has. whole_fits begins w.base w.part;
    are_rows = fit;
    rows = subst (λ (us : List (UnitTree Span)). AreProgramRows (declarations_of begins us) a.table) (sym units_are) is.rows;
    clean = subst (λ (us : List (UnitTree Span)). IsClean [] (declarations_of begins us)) (sym units_are) (no_lines (package_lines is.units is.words) (declarations_of begins is.units) is.program.clean);
    sound = subst (λ (us : List (UnitTree Span)). IsSound begins a.table (super_in bounds) us) (sym units_are) sound;
    supers = λ w has. supers w (subst (λ (ws : List (WrittenMember Span)). Contains ws w) members_are has);
    bound = subst (λ (ws : List (WrittenMember Span)). AreBound itself Anywhere a.table (super_in bounds) ws (map (λ (b : MemberBound). b.bound) bounds)) (sym members_are) (each_bound a.table is.tokens (super_in bounds) written bounds is.each place_is);
  }

  pub are_whole : (us : List (UnitTree Span)) → is.units ≡ us → (tokens : List (List Item)) → AreLexed (texts_of sources) tokens → length bounds < 2 ^ 32 → AreWhole sources us tokens a.table bounds
  are_whole us e tokens lexed few = subst (λ (xs : List (UnitTree Span)). AreWhole sources xs tokens a.table bounds) e (record { many = count; lexed = lexed; few = few; program = is_program })

-- ---- what each text was read as

-- sources that are a program have no fault of their own
none_kept : HasOneReading → (ss : List Source) (r : Readings) → AreReadings (texts_of ss) r → (us : List (UnitTree Span)) (ws : List ℕ) → AreRead ss us ws → HaveNone r.faults.items
none_kept law ss r h us ws read i lt = by there.0 there.1
  where
    there : (f : Option ReadingFault) × (slice_get r.faults.items i ≡ Some f)
    there = element r.faults.items i lt

    source : (s : Source) × (slice_get ss i ≡ Some s)
    source = let n = h.faults in let m = length-texts ss in element ss i (omega (arith, lt, n, m))

    by : (f : Option ReadingFault) → slice_get r.faults.items i ≡ Some f → slice_get r.faults.items i ≡ Some None
    by None e = e
    by (Some f) e =
        let s = source_read ss us ws read i source.0 source.1 in
        let has = kept ss r h i source.0.text (Some f) (text_there ss i source.0 source.1) e in
        absurd (law.never_both source.0.text s.0 s.1 f s.3 has.6)

pub kept_units : HasOneReading → (ss : List Source) (r : Readings) → AreReadings (texts_of ss) r → (us : List (UnitTree Span)) (ws : List ℕ) → AreRead ss us ws → us ≡ map unit_of r.units.items
kept_units law ss r h us ws read = (read_once law ss us (map unit_of r.units.items) ws r.words.items read (read_units ss r h (none_kept law ss r h us ws read))).0

pub kept_lexed : HasOneReading → (ss : List Source) (r : Readings) → AreReadings (texts_of ss) r → (us : List (UnitTree Span)) (ws : List ℕ) → AreRead ss us ws → AreLexed (texts_of ss) r.tokens.items
kept_lexed law ss r h us ws read = lexed_tokens ss r h (none_kept law ss r h us ws read)

-- texts have their items once
lexed_once : OneItems → (ts : List (List ℕ)) (xs ys : List (List Item)) → AreLexed ts xs → AreLexed ts ys → xs ≡ ys
lexed_once once [] [] [] g h = refl
lexed_once once [] [] (y ∷ ys) g h = absurd h
lexed_once once [] (x ∷ xs) ys g h = absurd g
lexed_once once (t ∷ ts) [] ys g h = absurd g
lexed_once once (t ∷ ts) (x ∷ xs) [] g h = absurd h
lexed_once once (t ∷ ts) (x ∷ xs) (y ∷ ys) g h =
    let one = once t x y g.0 h.0 in
    let more = lexed_once once ts xs ys g.1 h.1 in
    λ i. one i ∷ more i

-- what was analysed goes by the tokens that are kept
pub kept_tokens : HasOneReading → OneItems → (ss : List Source) (r : Readings) → AreReadings (texts_of ss) r → (a : Analysis) (is : IsAnalysis ss a) → is.tokens ≡ r.tokens.items
kept_tokens law once ss r h a is = lexed_once once (texts_of ss) is.tokens r.tokens.items is.lexed (lexed_tokens ss r h (none_kept law ss r h is.units is.words is.program.read))

pub program_is : (sources : List Source) (a : Analysis) (is : IsAnalysis sources a) (us : List (UnitTree Span)) → is.units ≡ us → IsProgram itself Anywhere (program_of sources us a.table a.members.items) → IsProgramOf sources (program_of sources us a.table a.members.items)
program_is sources a is us e p = record { units = is.units; words = is.words; program = is.program; files = ap (files_of sources) (sym e); is = p }
