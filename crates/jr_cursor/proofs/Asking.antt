-- The written members of a file, asked one after another, have what its words name.
use Rattle.std.proofs.Common.{◌≡◌, ℕ, zero, suc, ◌+◌, ◌-◌, ◌≤◌, List, [], ◌∷◌, Option, Some, None, true, map, refl, sym, ap, subst, ◌∙◌, inl, inr, arith}
use Rattle.std.specs.Prelude.{◌⊎◌, slice_get, Contains, option_map}
use Rattle.std.proofs.lemmas.Option.{same_Some, slice_get-map, slice_get-get_or}
use Rattle.jr_text.specs.declared.spans.Span.{Span}
use Rattle.jr_lex.specs.declared.items.Item.{Item}
use Rattle.jr_ast.specs.MemberTree as syntax
use Rattle.jr_grammar.specs.Layout.{Layouts, itself}
use Rattle.jr_grammar.specs.MemberLayout.{unit_layouts}
use Rattle.jr_grammar.specs.Reads.{ReadsWithSpans}
use Rattle.jr_grammar.specs.Stands.{StandInOrder}
use Rattle.jr_grammar.specs.Tokens.{placed_of}
use Rattle.jr_table.specs.Decls.{MemberKey, Decl}
use Rattle.jr_table.specs.Rows.{Row}
use Rattle.jr_table.specs.DeclaredItems.{declarations_of}
use Rattle.jr_table.specs.Errors.{Part, class_part, member_part, part_mark, Binds}
use Rattle.jr_members.specs.WrittenMembers.{WrittenMember, written_members}
use Rattle.jr_members.specs.WrittenLaws.{AreWritten, IsWritten, MembersAreWritten}
use Rattle.jr_members.specs.declared.keyed.WrittenMember as raw
use Rattle.jr_members.specs.PartView.{written_of}
use Rattle.jr_members.proofs.Anywhere.{classes_found, found_classes}
use Rattle.jr_bind.specs.Bounds.{Bound, IsBound}
use Rattle.jr_bind.specs.Programs.{File, Program, IsProgram, AreBound, units_of}
use Rattle.jr_program_laws.specs.FileParts.{begins, HasTokenAt, IsSuperAt, SuperStands}
use Rattle.jr_program_laws.specs.PlaceLaws.{IsFile, IsPart, Owns, PartsArePlaced}
use Rattle.jr_program.proofs.Standing.{at_contains, map_some, marked_file, super_stands, owns_from, bound_at}
use Rattle.jr_images.specs.Targets.{IsOfPrelude, PartDeclares, Names}
use Rattle.jr_cursor.specs.Names.{own_name, local_there, HasThere, HasInFile, Finds}
use Rattle.jr_cursor.specs.Listed.{HasListed}
use Rattle.jr_cursor.proofs.SearchLaws.{numbered}
use Rattle.jr_cursor.proofs.Declaring.{own_declares, local_declares, declares_found}
use Rattle.jr_cursor.proofs.Finding.{finds_to, local_foreign, bound_within, within_bound}

pub contains_at : {X : Type 0} (xs : List X) (x : X) → Contains xs x → (n : ℕ) × (slice_get xs n ≡ Some x)
contains_at xs x (k, lt, is) = (k, slice_get-get_or xs k x lt ∙ ap Some is)

module _ (p : Program Span) (is : IsProgram itself (λ m b. Unit {0}) p) (written : MembersAreWritten Span) (placed : PartsArePlaced) where
  abbrev units : List (syntax.Unit Span)
  units = units_of p

  abbrev ws : List (WrittenMember Span)
  ws = written_members begins p.rows units

  law : AreWritten begins units p.rows ws
  law = written begins units p.rows is.are_rows is.rows

  -- a word that a part declares, or that is bound
  abbrev Has : (at : ℕ) → Decl → MemberKey → (base : ℕ) → Part Span → Type 0
  Has at d k base part = PartDeclares begins k base part at d ⊎ Binds begins p.rows (p.super_at k) k base part at d

  -- what is bound in a member stands behind its first byte
  binds_behind : (w : WrittenMember Span) → Contains ws w → (at : ℕ) (d : Decl) → Binds begins p.rows (p.super_at w.key) w.key w.base w.part at d → (part_mark w.part).from ≤ at
  binds_behind w has at d h =
      let wr = law.each w has in
      let f = map_some (λ (x : File Span). x.unit) (slice_get p.files w.file) wr.unit (sym (slice_get-map (λ (x : File Span). x.unit) p.files w.file) ∙ wr.stands) in
      let r = subst (λ (u : syntax.Unit Span). ReadsWithSpans itself f.0.text u) f.2 (is.reads w.file f.0 f.1) in
      let file = marked_file units w.file f.0.text wr.unit wr.stands r in
      let Is : MemberKey → (base : ℕ) → Part Span → Type 0 = λ l b q. (l ≡ w.key) × (b ≡ w.base) × (q ≡ w.part) in
      let part : IsPart units w.file w.key w.base w.part = record {
        unit = wr.unit;
        stands = wr.stands;
        member = w.key;
        has = found_classes begins (declarations_of begins units) Is w.base w.part (begins wr.unit.mark 0) wr.unit.classes w.key (refl, refl, refl) wr.writes;
      } in
      let stands = super_stands r.items w.part (p.super_at w.key) (λ e. is.supers w has e f.0 f.1 r.items r.lexes) in
      let there = placed units w.file f.0.text r.items file w.key w.base w.part part (p.super_at w.key) stands p.rows in
      owns_from w.part at (there.binds_within at d h)

  -- what is found in a member it has
  found_has : (w : WrittenMember Span) (b : Bound) → IsBound begins p.rows (p.super_at w.key) w.key w.base w.part b → (at : ℕ) (d : Decl) → HasThere at w b d → Has at d w.key w.base w.part
  found_has w b bound at d (inl own) = inl (own_declares at w.key w.base w.part d own)
  found_has w b bound at d (inr (inl local)) = inl (local_declares at w.key w.base w.part d local).0
  found_has w b bound at d (inr (inr there)) =
      let r = bound_within at (part_mark w.part).from b.references d there in
      inr (subst (λ (n : ℕ). Binds begins p.rows (p.super_at w.key) w.key w.base w.part n d) r.1 ((bound.declarations r.0 d).0 r.2))

  -- of what it has one is found
  has_found : (w : WrittenMember Span) → Contains ws w → (b : Bound) → IsBound begins p.rows (p.super_at w.key) w.key w.base w.part b → (at : ℕ) (d : Decl) → Has at d w.key w.base w.part
      → (IsOfPrelude p.rows d → ⊥) → (e : Decl) × HasThere at w b e × (IsOfPrelude p.rows e → ⊥)
  has_found w has b bound at d (inl h) own = by (declares_found at w.key w.base w.part d h)
    where
      by : (own_name at w.key w.part ≡ Some d) ⊎ ((n : ℕ) × (local_there at w.key w.part ≡ Some (numbered w.key n))) → (e : Decl) × HasThere at w b e × (IsOfPrelude p.rows e → ⊥)
      by (inl e) = (d, inl e, own)
      by (inr g) = (numbered w.key g.0, inr (inl g.1), local_foreign p.rows is.are_rows (record { member = w.key; number = g.0 }))
  has_found w has b bound at d (inr h) own =
      let from = (part_mark w.part).from in
      let le = binds_behind w has at d h in
      let place : from + (at - from) ≡ at = omega (arith, le) in
      let g = (bound.declarations (at - from) d).1 (subst (λ (n : ℕ). Binds begins p.rows (p.super_at w.key) w.key w.base w.part n d) (sym place) h) in
      (d, inr (inr (within_bound at from (at - from) b.references d place g)), own)

  -- ---- all members of a file

  module _ (members : List (raw.WrittenMember Span)) (are : map written_of members ≡ ws) (file at : ℕ) where
    abbrev AllNames : Decl → Type 0
    AllNames d = Names begins p.rows p.super_at units file at d

    listed_names : (d : Decl) → HasListed p members file at d → AllNames d
    listed_names d (n, (w, stands, (of, (b, there, has)))) =
        let e : slice_get ws n ≡ Some (written_of w) = ap (λ (xs : List (WrittenMember Span)). slice_get xs n) (sym are) ∙ slice_get-map written_of members n ∙ ap (option_map written_of) stands in
        let q = bound_at p.rows p.super_at ws p.bounds is.bound n (written_of w) e in
        let known = subst (λ (x : Bound). IsBound begins p.rows (p.super_at (written_of w).key) (written_of w).key (written_of w).base (written_of w).part x) (same_Some q.0 b (sym q.1 ∙ there)) q.2 in
        let wr = subst (λ (i : ℕ). IsWritten begins units i (written_of w).key (written_of w).base (written_of w).part) of (law.each (written_of w) (at_contains ws n (written_of w) e)) in
        record {
          unit = wr.unit;
          stands = wr.stands;
          member = (written_of w).key;
          names = found_classes begins (declarations_of begins units) (λ k base part. Has at d k base part) (written_of w).base (written_of w).part (begins wr.unit.mark 0) wr.unit.classes (written_of w).key
              (found_has (written_of w) b known at d has) wr.writes;
        }

    names_listed : (d : Decl) → AllNames d → (IsOfPrelude p.rows d → ⊥) → (e : Decl) × HasListed p members file at e × (IsOfPrelude p.rows e → ⊥)
    names_listed d h own =
        let f = classes_found begins (declarations_of begins units) (λ k base part. Has at d k base part) (begins h.unit.mark 0) h.unit.classes h.member h.names in
        let m = law.all file h.member f.base f.part (record { unit = h.unit; stands = h.stands; writes = f.there }) in
        let w = m.0 in
        let has = subst (λ (k : MemberKey). Has at d k w.base w.part) (sym m.3) (subst (λ (b : ℕ). Has at d h.member b w.part) (sym m.4) (subst (λ (q : Part Span). Has at d h.member f.base q) (sym m.5) f.has)) in
        let there = contains_at ws w m.1 in
        let q = bound_at p.rows p.super_at ws p.bounds is.bound there.0 w there.1 in
        let found = has_found w m.1 q.0 q.2 at d has own in
        let r = map_some written_of (slice_get members there.0) w (sym (slice_get-map written_of members there.0) ∙ ap (λ (xs : List (WrittenMember Span)). slice_get xs there.0) are ∙ there.1) in
        let held = subst (λ (x : WrittenMember Span). HasInFile p file at there.0 x found.0) (sym r.2) (m.2, (q.0, q.1, found.1)) in
        (found.0, (there.0, (r.0, r.1, held)), found.2)

    pub listed_finds : (o : Option Decl) → Finds p.rows (HasListed p members file at) o → Finds p.rows (Names begins p.rows p.super_at (units_of p) file at) o
    listed_finds o h = finds_to p.rows (HasListed p members file at) AllNames o listed_names names_listed h
