-- A written member of a program has all that a walk over it rests on.
use Rattle.std.proofs.Common.{◌≡◌, ℕ, zero, suc, ◌+◌, ◌-◌, ◌<◌, ◌≤◌, List, [], ◌∷◌, Option, Some, None, Bool, true, false, length, map, get_or, nat_lt, refl, sym, ap, subst, ◌∙◌, inl, inr, arith}
use Rattle.std.specs.Prelude.{◌⊎◌, ◌↔◌, slice_get, Contains, option_map, IfSome, if◌then◌else◌}
use Rattle.std.proofs.lemmas.Bool.{le-ltb}
use Rattle.std.proofs.lemmas.Option.{slice_get-map, slice_get_within, slice_get-get_or}
use Rattle.jr_text.specs.declared.spans.Span.{Span}
use Rattle.jr_lex.specs.declared.items.Item.{Item}
use Rattle.jr_lex.specs.Lexes.{Lexes}
use Rattle.jr_ast.specs.MemberTree as syntax
use Rattle.jr_grammar.specs.Layout.{Layouts, itself, all_spans_from}
use Rattle.jr_grammar.specs.MemberLayout.{unit_layouts}
use Rattle.jr_grammar.specs.Reads.{ReadsWithSpans}
use Rattle.jr_grammar.specs.Stands.{StandInOrder}
use Rattle.jr_grammar.specs.Tokens.{placed_of}
use Rattle.jr_table.specs.Keys.{ClassKey}
use Rattle.jr_table.specs.Decls.{MemberKey, head, Decl}
use Rattle.jr_table.specs.Rows.{Row}
use Rattle.jr_table.specs.DeclaredItems.{declarations_of}
use Rattle.jr_table.specs.LookupLaws.{OneAnswer}
use Rattle.jr_table.specs.Errors.{Part, class_part, member_part, part_mark, Binds, Breaks, InClasses, InClass, InMembers, InInner}
use Rattle.jr_table.specs.declared.rules.Rule.{Rule}
use Rattle.jr_members.specs.WrittenMembers.{WrittenMember, written_members}
use Rattle.jr_members.specs.WrittenLaws.{AreWritten, IsWritten, MembersAreWritten}
use Rattle.jr_members.proofs.Anywhere.{found_classes, written_member}
use Rattle.jr_bind.specs.Bounds.{Bound, IsBound, decl_in}
use Rattle.jr_bind.specs.Programs.{File, Program, IsProgram, AreBound, HasSuperPlace, units_of}
use Rattle.jr_bind.specs.SuperPlaces as bind
use Rattle.jr_program_laws.specs.FileParts.{begins, HasTokenAt, IsSuperAt, SuperStands}
use Rattle.jr_program_laws.specs.PlaceLaws.{IsFile, IsPart, IsPlaced, Owns, PartsArePlaced}
use Rattle.jr_program.proofs.Standing.{map_some, marked_file, begins_super, super_begins, super_at, super_stands, owns_from}
use Rattle.jr_new_bodies.specs.Known.{found_in}
use Rattle.jr_program_laws.specs.FoundTypes.{DeclaredTypesAreFound}
use Rattle.jr_new_files.specs.Ready.{Anywhere, IsReady, IsFirstSuper, PartReady}
use Rattle.jr_new_files.specs.PartLaws.{HasHeadKey, IsSoundMember}
use Rattle.jr_new_files.proofs.Resting.{IsKeyed, StandsIn, part_ready}

-- ---- where a written `super(..)` stands

-- one first word at most
pub one_super : (items : List Item) (span : Span) (a b : ℕ) → IsSuperAt items span a → bind.IsSuperAt items span b → a ≡ b
one_super items span a b x y =
    let up = x.first b (begins_super items b y.there) y.within.0 in
    let down = y.first a (super_begins items a x.there) x.within.0 in
    omega (arith, up, down)

-- ---- keys of written parts

module _ (units : List (syntax.Unit Span)) (b : ℕ) (part : Part Span) where
  abbrev IsThere : MemberKey → (base : ℕ) → Part Span → Type 0
  IsThere k base q = (base ≡ b) × (q ≡ part)

  mutual
    unfolding InClass InMembers InInner

    class_keyed : (base : ℕ) (outer : Option (List ℕ)) (c : syntax.Class Span) (k : MemberKey) → InClass begins (declarations_of begins units) IsThere base outer c k → IsKeyed k part
    class_keyed base outer (syntax.class m mods w t ms) k (inl (e, (at, is))) = subst (IsKeyed k) is (record { outer = outer; name = w.text }, e, refl)
    class_keyed base outer (syntax.class m mods w t ms) k (inr h) = members_keyed (begins m base) (record { outer = outer; name = w.text }) ms k h

    members_keyed : (base : ℕ) (of : ClassKey) (xs : syntax.Members Span) (k : MemberKey) → InMembers begins (declarations_of begins units) IsThere base of xs k → IsKeyed k part
    members_keyed base of syntax.end k h = absurd h
    members_keyed base of (syntax.more (syntax.field m mods t w init) xs) k (inl (inl (d, (at, is)))) = subst (IsKeyed k) is tt
    members_keyed base of (syntax.more (syntax.method m mods t w ps body) xs) k (inl (inl (d, (at, is)))) = subst (IsKeyed k) is tt
    members_keyed base of (syntax.more (syntax.constructor m mods w ps args body) xs) k (inl (inl (d, (at, is)))) = subst (IsKeyed k) is tt
    members_keyed base of (syntax.more (syntax.inner m c) xs) k (inl (inl (d, h))) = absurd d
    members_keyed base of (syntax.more x xs) k (inl (inr h)) = inner_keyed base of x k h
    members_keyed base of (syntax.more x xs) k (inr h) = members_keyed base of xs k h

    inner_keyed : (base : ℕ) (of : ClassKey) (x : syntax.Member Span) (k : MemberKey) → InInner begins (declarations_of begins units) IsThere base of x k → IsKeyed k part
    inner_keyed base of (syntax.inner m c) k h = class_keyed (begins m base) (Some of.name) c k h
    inner_keyed base of (syntax.field m mods t w init) k h = absurd h
    inner_keyed base of (syntax.method m mods t w ps body) k h = absurd h
    inner_keyed base of (syntax.constructor m mods w ps args body) k h = absurd h

  classes_keyed : (base : ℕ) (cs : List (syntax.Class Span)) (k : MemberKey) → InClasses begins (declarations_of begins units) IsThere base cs k → IsKeyed k part
  classes_keyed base [] k h = absurd h
  classes_keyed base (c ∷ cs) k (inl h) = class_keyed base None c k h
  classes_keyed base (c ∷ cs) k (inr h) = classes_keyed base cs k h

head_key : (k : MemberKey) (part : Part Span) → IsKeyed k part → HasHeadKey k part
head_key k (class_part (syntax.class m mods w t ms)) h = (h.0, h.1)
head_key k (member_part x) h = tt

-- ---- members with what is known of them

found_behind : (b : Bound) (from at : ℕ) (d : Decl) → from ≤ at → decl_in b.references (at - from) ≡ Some d → found_in b from at ≡ Some d
found_behind b from at d le is =
    let past : nat_lt at from ≡ false = le-ltb at from le in
    ap (λ (t : Bool). if t then None else decl_in b.references (at - from)) past ∙ is

stands_in : (p : Program Span) (w : WrittenMember Span) → HasSuperPlace itself (λ m b. Unit {0}) p w → StandsIn p w.file w.part (p.super_at w.key)
stands_in p w has = by w.part has
  where
    by : (part : Part Span) → (bind.writes_super part ≡ true → (f : File Span) → slice_get p.files w.file ≡ Some f → (items : List Item) → Lexes f.text items
        → bind.IsSuperAt items (part_mark part) (p.super_at w.key)) → StandsIn p w.file part (p.super_at w.key)
    by (class_part c) h = tt
    by (member_part (syntax.field m mods t v init)) h = tt
    by (member_part (syntax.method m mods t v ps body)) h = tt
    by (member_part (syntax.constructor m mods v ps None body)) h = tt
    by (member_part (syntax.constructor m mods v ps (Some args) body)) h = h refl
    by (member_part (syntax.inner m of)) h = tt

module _ (p : Program Span) (is : IsProgram itself (λ m b. Unit {0}) p) (written : MembersAreWritten Span) (placed : PartsArePlaced) (one : OneAnswer) (found : DeclaredTypesAreFound Span) where
  abbrev units : List (syntax.Unit Span)
  units = units_of p

  abbrev pub ws : List (WrittenMember Span)
  ws = written_members begins p.rows units

  law : AreWritten begins units p.rows ws
  law = written begins units p.rows is.are_rows is.rows

  module _ (w : WrittenMember Span) (has : Contains ws w) where
    wr : IsWritten begins units w.file w.key w.base w.part
    wr = law.each w has

    file_of : (f : File Span) × (slice_get p.files w.file ≡ Some f) × (f.unit ≡ wr.unit)
    file_of = map_some (λ (x : File Span). x.unit) (slice_get p.files w.file) wr.unit (sym (slice_get-map (λ (x : File Span). x.unit) p.files w.file) ∙ wr.stands)

    pub is_file : w.file < length p.files
    is_file = slice_get_within p.files w.file file_of.0 file_of.1

    there : IsPlaced p.rows (subst (λ (u : syntax.Unit Span). ReadsWithSpans itself file_of.0.text u) file_of.2 (is.reads w.file file_of.0 file_of.1)).items (p.super_at w.key) w.key w.base w.part
    there =
        let f = file_of in
        let r = subst (λ (u : syntax.Unit Span). ReadsWithSpans itself f.0.text u) f.2 (is.reads w.file f.0 f.1) in
        let file = marked_file units w.file f.0.text wr.unit wr.stands r in
        let Is : MemberKey → (base : ℕ) → Part Span → Type 0 = λ l b q. (l ≡ w.key) × (b ≡ w.base) × (q ≡ w.part) in
        let part : IsPart units w.file w.key w.base w.part = record {
          unit = wr.unit;
          stands = wr.stands;
          member = w.key;
          has = found_classes begins (declarations_of begins units) Is w.base w.part (begins wr.unit.mark 0) wr.unit.classes w.key (refl, refl, refl) wr.writes;
        } in
        let stands = super_stands r.items w.part (p.super_at w.key) (λ e. is.supers w has e f.0 f.1 r.items r.lexes) in
        placed units w.file f.0.text r.items file w.key w.base w.part part (p.super_at w.key) stands p.rows

    abbrev start : ℕ
    start = (part_mark w.part).from

    back : (at : ℕ) → start ≤ at → start + (at - start) ≡ at
    back at le = omega (arith, le)

    sound_at : (at : ℕ) (r : Rule) → Breaks begins p.rows (p.super_at w.key) w.key w.base w.part at r → ⊥
    sound_at at r h =
        let le = owns_from w.part at (there.breaks_within at r h) in
        is.sound w.key (record { at = at - start; rule = r })
        (written_member begins units (λ k base q. Breaks begins p.rows (p.super_at k) k base q (begins (part_mark q) base + (at - start)) r) w.file w.key w.base w.part wr
        (subst (λ (i : ℕ). Breaks begins p.rows (p.super_at w.key) w.key w.base w.part i r) (sym (back at le)) h))

    refers_at : (b : Bound) → IsBound begins p.rows (p.super_at w.key) w.key w.base w.part b → (at : ℕ) (d : Decl) → Binds begins p.rows (p.super_at w.key) w.key w.base w.part at d
        → found_in b start at ≡ Some d
    refers_at b bound at d h =
        let le = owns_from w.part at (there.binds_within at d h) in
        found_behind b start at d le ((bound.declarations (at - start) d).1 (subst (λ (i : ℕ). Binds begins p.rows (p.super_at w.key) w.key w.base w.part i d) (sym (back at le)) h))

    pub is_ready : (b : Bound) → IsBound begins p.rows (p.super_at w.key) w.key w.base w.part b → IsReady p.rows b start (p.super_at w.key) w.key w.base w.part
    is_ready b bound = record {
      fits = is.members_fit w has;
      sound = sound_at;
      refers = refers_at b bound;
      types = bound.types;
      found = found begins [] p.rows units is.are_rows is.rows is.clean w has;
    }

    pub is_sound : IsSoundMember p w
    is_sound = record {
      sound = sound_at;
      keyed = head_key w.key w.part (classes_keyed units w.base w.part (begins wr.unit.mark 0) wr.unit.classes w.key wr.writes);
      found = found begins [] p.rows units is.are_rows is.rows is.clean w has;
    }

    pub ready : (b : Bound) → IsBound begins p.rows (p.super_at w.key) w.key w.base w.part b → PartReady p w.file p.rows b start w.key w.part
    ready b bound =
        part_ready p w.file p.rows (one p.rows is.are_rows) b start w.key w.base w.part (classes_keyed units w.base w.part (begins wr.unit.mark 0) wr.unit.classes w.key wr.writes) (is_ready b bound) (stands_in p w (is.supers w has))

-- ---- the items of a file that are lent, and where a word `super` stands among them

lent : (files : List (File Span)) (file : ℕ) (items : List Item) → file < length files → IfSome (slice_get files file) (λ (f : File Span). Lexes f.text items) → (f : File Span) × (slice_get files file ≡ Some f) × Lexes f.text items
lent [] file items lt told = absurd (omega (arith, lt))
lent (f ∷ fs) zero items lt told = (f, refl, told)
lent (f ∷ fs) (suc n) items lt told = lent fs n items (omega (arith, lt)) told

module _ (p : Program Span) (file : ℕ) (span : Span) (items : List Item) (is : file < length p.files) (told : IfSome (slice_get p.files file) (λ (f : File Span). Lexes f.text items)) where
  -- they are those of a text
  pub lexed : (text : List ℕ) × Lexes text items
  lexed = let f = lent p.files file items is told in (f.0.text, f.2)

  stands_there : (n : ℕ) → IsFirstSuper p file span n → bind.IsSuperAt items span n
  stands_there n first = let f = lent p.files file items is told in first f.0 f.1 items f.2

  pub no_super : (n at : ℕ) → ((other : ℕ) → IsSuperAt items span other → ⊥) → IsFirstSuper p file span n → at ≡ n
  no_super n at none first = absurd (none n (super_at items span n (stands_there n first)))

  pub the_super : (n at : ℕ) → IsSuperAt items span at → IsFirstSuper p file span n → at ≡ n
  the_super n at here first = one_super items span at n here (stands_there n first)
