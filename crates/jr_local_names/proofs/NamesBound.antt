-- A name in a body finds a local exactly where binding has the local at its first byte.
use Rattle.std.proofs.Common.{◌≡◌, ℕ, ◌+◌, ◌-◌, ◌≤◌, List, Some, refl, sym, subst, ◌∙◌, arith}
use Rattle.std.specs.Prelude.{◌↔◌, slice_get}
use Rattle.std.proofs.lemmas.Option.{slice_get-map}
use Rattle.jr_text.specs.declared.spans.Span.{Span}
use Rattle.jr_ast.specs.Tree as tree
use Rattle.jr_ast.specs.MemberTree as syntax
use Rattle.jr_grammar.specs.Layout.{itself}
use Rattle.jr_grammar.specs.Reads.{ReadsWithSpans}
use Rattle.jr_table.specs.Decls.{MemberKey, Decl, LocalKey, local_decl}
use Rattle.jr_table.specs.DeclaredItems.{declarations_of}
use Rattle.jr_table.specs.Found.{one}
use Rattle.jr_table.specs.Lookup.{FindsVariable}
use Rattle.jr_table.specs.LookupLaws.{KeysFound}
use Rattle.jr_table.specs.Context.{scope_of}
use Rattle.jr_table.specs.Binding.{BindsItself}
use Rattle.jr_table.specs.ExpressionRules.{ExpBreaks}
use Rattle.jr_table.specs.Errors.{Part, part_mark, Breaks, Binds}
use Rattle.jr_table.specs.declared.rules.Rule.{Rule}
use Rattle.jr_members.specs.WrittenMembers.{WrittenMember, written_members}
use Rattle.jr_members.specs.WrittenLaws.{IsWritten, MembersAreWritten}
use Rattle.jr_members.proofs.Anywhere.{found_classes, written_member}
use Rattle.jr_bind.specs.Bounds.{IsBound, decl_in}
use Rattle.jr_bind.specs.Programs.{File, Program, IsProgram, units_of}
use Rattle.jr_program_laws.specs.PlaceLaws.{IsPart, PartsArePlaced}
use Rattle.jr_program.proofs.Standing.{at_contains, map_some, marked_file, super_stands, owns_from}
use Rattle.jr_pieces.specs.Ways.{ListWay}
use Rattle.jr_pieces.specs.Standings.{Standing, at_list}
use Rattle.jr_way_places.specs.PlacedWays.{list_role, WaysAreWalked}
use Rattle.jr_bodies.specs.Bodies.{begins, Body, HasBody}
use Rattle.jr_bodies.proofs.Typed.{is_bound}
use Rattle.jr_local_names.specs.BoundNames.{IsBoundName, NamesAreBound}
use Rattle.jr_local_names.proofs.Finding.{finds_one, binds_local, local_bound}
use Rattle.jr_local_names.proofs.Parts.{part_binds, part_breaks, starts_there}

module _ (written : MembersAreWritten Span) (placed : PartsArePlaced) (p : Program Span) (program : IsProgram itself (λ m b. Unit {0}) p) (file : ℕ) (b : Body) (h : HasBody p file b) where
  abbrev pub w : WrittenMember Span
  w = h.member

  abbrev pub units : List (syntax.Unit Span)
  units = units_of p

  pub is_written : IsWritten begins units w.file w.key w.base w.part
  is_written = (written begins units p.rows program.are_rows program.rows).each w (at_contains (written_members begins p.rows units) h.number w h.written)

  -- what the member binds and breaks stands in it, and one declaration at one place
  pub record Places : Type 0 where
    pub within : (at : ℕ) (d : Decl) → Binds begins p.rows (p.super_at w.key) w.key w.base w.part at d → (part_mark w.part).from ≤ at
    pub breaks_within : (at : ℕ) (k : Rule) → Breaks begins p.rows (p.super_at w.key) w.key w.base w.part at k → (part_mark w.part).from ≤ at
    pub one : (at : ℕ) (d e : Decl) → Binds begins p.rows (p.super_at w.key) w.key w.base w.part at d → Binds begins p.rows (p.super_at w.key) w.key w.base w.part at e → d ≡ e

  pub places : Places
  places =
      let wr = is_written in
      let f = map_some (λ (x : File Span). x.unit) (slice_get p.files w.file) wr.unit (sym (slice_get-map (λ (x : File Span). x.unit) p.files w.file) ∙ wr.stands) in
      let r = subst (λ (u : syntax.Unit Span). ReadsWithSpans itself f.0.text u) f.2 (program.reads w.file f.0 f.1) in
      let here = marked_file units w.file f.0.text wr.unit wr.stands r in
      let Is : MemberKey → (base : ℕ) → Part Span → Type 0 = λ l b q. (l ≡ w.key) × (b ≡ w.base) × (q ≡ w.part) in
      let part : IsPart units w.file w.key w.base w.part = record {
        unit = wr.unit;
        stands = wr.stands;
        member = w.key;
        has = found_classes begins (declarations_of begins units) Is w.base w.part (begins wr.unit.mark 0) wr.unit.classes w.key (refl, refl, refl) wr.writes;
      } in
      let stands = super_stands r.items w.part (p.super_at w.key) (λ e. program.supers w (at_contains (written_members begins p.rows units) h.number w h.written) e f.0 f.1 r.items r.lexes) in
      let there = placed units w.file f.0.text r.items here w.key w.base w.part part (p.super_at w.key) stands p.rows in
      record {
        within = λ at d k. owns_from w.part at (there.binds_within at d k);
        breaks_within = λ at r k. owns_from w.part at (there.breaks_within at r k);
        one = there.one program.are_rows;
      }

  -- it breaks nothing
  pub calm : (at : ℕ) (k : Rule) → Breaks begins p.rows (p.super_at w.key) w.key w.base w.part ((part_mark w.part).from + at) k → ⊥
  calm at k breaks =
      program.sound w.key (record { at = at; rule = k })
      (written_member begins units (λ l base part. Breaks begins p.rows (p.super_at l) l base part (begins (part_mark part) base + at) k) w.file w.key w.base w.part is_written breaks)

  module _ (walked : WaysAreWalked Span) (found : KeysFound) (m : Span) (word : tree.Word Span) (way : ListWay (tree.name m word) b.list) where
    abbrev there : Standing
    there = at_list begins b.at way

    abbrev at : ℕ
    at = word.mark.from

    part_has : (d : Decl) → BindsItself begins p.rows there.context (list_role way) there.base (tree.name m word) at d → Binds begins p.rows (p.super_at w.key) w.key w.base w.part at d
    part_has d k = part_binds p.rows (p.super_at w.key) at w.key w.base w.part d b.bound b h.is ((walked begins p.rows (tree.name m word) b.list b.at way).binds at d k)

    start : (part_mark w.part).from ≡ b.at.base
    start = starts_there w.key w.base w.part b.bound b h.is

    -- the name breaks no rule
    name_calm : (n : ℕ) (k : Rule) → ExpBreaks begins p.rows there.context (list_role way) there.base (tree.name m word) n k → ⊥
    name_calm n k breaks =
        let all = part_breaks p.rows (p.super_at w.key) n w.key w.base w.part k b.bound b h.is ((walked begins p.rows (tree.name m word) b.list b.at way).breaks n k breaks) in
        let le = places.breaks_within n k all in
        let place : (part_mark w.part).from + (n - (part_mark w.part).from) ≡ n = omega (arith, le) in
        calm (n - (part_mark w.part).from) k (subst (λ i. Breaks begins p.rows (p.super_at w.key) w.key w.base w.part i k) (sym place) all)

    -- so it is bound to one declaration
    own : (d : Decl) × BindsItself begins p.rows there.context (list_role way) there.base (tree.name m word) at d
    own = finds_one begins p.rows there.context there.base m word (found p.rows program.are_rows) (list_role way) name_calm

    from_start : b.at.base ≤ at
    from_start = let le = places.within at own.0 (part_has own.0 own.1) in subst (λ n. n ≤ at) start le

    place_is : (part_mark w.part).from + (at - b.at.base) ≡ at
    place_is = let e : (part_mark w.part).from ≡ b.at.base = start in let le : b.at.base ≤ at = from_start in omega (arith, e, le)

    known : IsBound begins p.rows (p.super_at w.key) w.key w.base w.part b.bound
    known = is_bound p program file b h

    local_is : (k : LocalKey) → (decl_in b.bound.references (at - b.at.base) ≡ Some (local_decl k)) ↔ FindsVariable p.rows (scope_of there.context) word.text (one (local_decl k))
    local_is k = (to, back)
      where
        to : decl_in b.bound.references (at - b.at.base) ≡ Some (local_decl k) → FindsVariable p.rows (scope_of there.context) word.text (one (local_decl k))
        to e =
            let bound = subst (λ n. Binds begins p.rows (p.super_at w.key) w.key w.base w.part n (local_decl k)) place_is ((known.declarations (at - b.at.base) (local_decl k)).0 e) in
            let same = places.one at own.0 (local_decl k) (part_has own.0 own.1) bound in
            local_bound begins p.rows there.context there.base m word (list_role way) k (subst (λ d. BindsItself begins p.rows there.context (list_role way) there.base (tree.name m word) at d) same own.1)

        back : FindsVariable p.rows (scope_of there.context) word.text (one (local_decl k)) → decl_in b.bound.references (at - b.at.base) ≡ Some (local_decl k)
        back f =
            let bound = part_has (local_decl k) (binds_local begins p.rows there.context there.base m word (list_role way) k f) in
            (known.declarations (at - b.at.base) (local_decl k)).1 (subst (λ n. Binds begins p.rows (p.super_at w.key) w.key w.base w.part n (local_decl k)) (sym place_is) bound)

    bound_name : IsBoundName p b m word way
    bound_name = record { within = from_start; local = local_is }

pub names_are_bound : MembersAreWritten Span → PartsArePlaced → WaysAreWalked Span → KeysFound → NamesAreBound
names_are_bound written placed walked found p program file b h m word way = bound_name written placed p program file b h walked found m word way
