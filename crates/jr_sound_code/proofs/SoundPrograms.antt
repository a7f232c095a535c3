-- The written members of a whole program without faults and errors: they have their shape, and break no rule.
use Rattle.std.proofs.Common.{◌≡◌, ℕ, ◌+◌, ◌-◌, ◌≤◌, List, Some, refl, sym, subst, ◌∙◌, arith}
use Rattle.std.specs.Prelude.{slice_get, Contains}
use Rattle.std.proofs.lemmas.Option.{slice_get-map}
use Rattle.jr_text.specs.declared.spans.Span.{Span}
use Rattle.jr_ast.specs.MemberTree as syntax
use Rattle.jr_grammar.specs.Layout.{itself}
use Rattle.jr_grammar.specs.MemberShape.{UnitShaped}
use Rattle.jr_grammar.specs.Reads.{ReadsWithSpans}
use Rattle.jr_table.specs.Decls.{MemberKey}
use Rattle.jr_table.specs.DeclaredItems.{declarations_of}
use Rattle.jr_table.specs.Errors.{Part, part_mark, Breaks}
use Rattle.jr_members.specs.WrittenMembers.{WrittenMember, written_members}
use Rattle.jr_members.specs.WrittenLaws.{AreWritten, IsWritten, MembersAreWritten}
use Rattle.jr_members.proofs.Anywhere.{found_classes, written_member}
use Rattle.jr_bind.specs.Programs.{File, Program, IsProgram, units_of}
use Rattle.jr_program.proofs.Standing.{map_some, marked_file, super_stands, owns_from}
use Rattle.jr_program_laws.specs.FileParts.{begins}
use Rattle.jr_program_laws.specs.PlaceLaws.{IsPart, IsPlaced, PartsArePlaced}
use Rattle.jr_sound_code.specs.Laws.{Anywhere}
use Rattle.jr_sound_code.proofs.MembersStand.{Sound}

module _ (p : Program Span) (is : IsProgram itself Anywhere p) (members : MembersAreWritten Span) (placed : PartsArePlaced) where
  abbrev units : List (syntax.Unit Span)
  units = units_of p

  pub written : AreWritten begins units p.rows (written_members begins p.rows units)
  written = members begins units p.rows is.are_rows is.rows

  file_of : (n : ℕ) (u : syntax.Unit Span) → slice_get units n ≡ Some u → (f : File Span) × (slice_get p.files n ≡ Some f) × (f.unit ≡ u)
  file_of n u e = map_some (λ (x : File Span). x.unit) (slice_get p.files n) u (sym (slice_get-map (λ (x : File Span). x.unit) p.files n) ∙ e)

  pub shaped : (n : ℕ) (u : syntax.Unit Span) → slice_get units n ≡ Some u → UnitShaped u
  shaped n u e = let f = file_of n u e in subst (λ (z : syntax.Unit Span). UnitShaped z) f.2 (is.reads n f.0 f.1).is.shaped

  module _ (w : WrittenMember Span) (has : Contains (written_members begins p.rows units) w) where
    wr : IsWritten begins units w.file w.key w.base w.part
    wr = written.each w has

    reads : ReadsWithSpans itself (file_of w.file wr.unit wr.stands).0.text wr.unit
    reads = let f = file_of w.file wr.unit wr.stands in subst (λ (u : syntax.Unit Span). ReadsWithSpans itself f.0.text u) f.2 (is.reads w.file f.0 f.1)

    there : IsPlaced p.rows reads.items (p.super_at w.key) w.key w.base w.part
    there =
        let f = file_of w.file wr.unit wr.stands in
        let Is : MemberKey → (base : ℕ) → Part Span → Type 0 = λ l b q. (l ≡ w.key) × (b ≡ w.base) × (q ≡ w.part) in
        let part : IsPart units w.file w.key w.base w.part = record {
          unit = wr.unit;
          stands = wr.stands;
          member = w.key;
          has = found_classes begins (declarations_of begins units) Is w.base w.part (begins wr.unit.mark 0) wr.unit.classes w.key (refl, refl, refl) wr.writes;
        } in
        placed units w.file f.0.text reads.items (marked_file units w.file f.0.text wr.unit wr.stands reads) w.key w.base w.part part (p.super_at w.key)
        (super_stands reads.items w.part (p.super_at w.key) (λ e. is.supers w has e f.0 f.1 reads.items reads.lexes)) p.rows

    abbrev start : ℕ
    start = (part_mark w.part).from

    back : (at : ℕ) → start ≤ at → start + (at - start) ≡ at
    back at le = omega (arith, le)

    sound_at : Sound begins p.rows p.super_at w.key w.base w.part
    sound_at at r h =
        let le = owns_from w.part at (there.breaks_within at r h) in
        is.sound w.key (record { at = at - start; rule = r })
        (written_member begins units (λ k base q. Breaks begins p.rows (p.super_at k) k base q (begins (part_mark q) base + (at - start)) r) w.file w.key w.base w.part wr
        (subst (λ (i : ℕ). Breaks begins p.rows (p.super_at w.key) w.key w.base w.part i r) (sym (back at le)) h))

  -- what is written breaks no rule
  pub sound : (file : ℕ) (k : MemberKey) (b : ℕ) (part : Part Span) → IsWritten begins units file k b part → Sound begins p.rows p.super_at k b part
  sound file k b part h =
      let w = written.all file k b part h in
      subst (λ (q : Part Span). Sound begins p.rows p.super_at k b q) w.5 (subst (λ (n : ℕ). Sound begins p.rows p.super_at k n w.0.part) w.4 (subst (λ (j : MemberKey). Sound begins p.rows p.super_at j w.0.base w.0.part) w.3 (sound_at w.0 w.1)))
