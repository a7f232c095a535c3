-- The identifier at a byte names one declaration at most.
use Rattle.std.proofs.Common.{◌≡◌, ℕ, List, [], Some, sym, ap, subst, ◌∙◌, inl, inr}
use Rattle.std.specs.Prelude.{◌⊎◌, slice_get, option_map}
use Rattle.std.proofs.lemmas.Option.{same_Some, slice_get-map}
use Rattle.jr_text.specs.declared.spans.Span.{Span}
use Rattle.jr_lex.specs.declared.items.Item.{Item}
use Rattle.jr_lex.specs.Lexes.{Lexes}
use Rattle.jr_lex.specs.Places.{ItemsPlaced}
use Rattle.jr_ast.specs.MemberTree as syntax
use Rattle.jr_grammar.specs.Layout.{itself}
use Rattle.jr_grammar.specs.Reads.{ReadsWithSpans}
use Rattle.jr_grammar.specs.Tokens.{placed_of}
use Rattle.jr_table.specs.Decls.{MemberKey, Decl}
use Rattle.jr_table.specs.LookupLaws.{KeysFound, OneAnswer}
use Rattle.jr_table.specs.BindingLaws.{AreBound}
use Rattle.jr_table.specs.DeclaredItems.{declarations_of}
use Rattle.jr_table.specs.Errors.{Part, Binds, InClasses}
use Rattle.jr_members.specs.WrittenMembers.{written_members}
use Rattle.jr_members.specs.WrittenLaws.{AreWritten, IsWritten, MembersAreWritten}
use Rattle.jr_members.proofs.Anywhere.{classes_found, found_classes}
use Rattle.jr_bind.specs.Programs.{File, Program, IsProgram, units_of}
use Rattle.jr_program_laws.specs.FileParts.{begins, SuperStands}
use Rattle.jr_program_laws.specs.PlaceLaws.{IsFile}
use Rattle.jr_program_laws.proofs.TokenOrder.{Rising, whole_piece}
use Rattle.jr_program_laws.proofs.ItemTokens.{tokens_rise}
use Rattle.jr_program_laws.proofs.MeansOnce.{declares_once}
use Rattle.jr_program_laws.proofs.SuperPlaces.{part_binds}
use Rattle.jr_program.proofs.Standing.{marked_file, super_stands}
use Rattle.jr_images.specs.Targets.{PartDeclares, Names, IsTarget}
use Rattle.jr_cursor.proofs.Holders.{one_begins}
use Rattle.jr_cursor.proofs.NamedFiles.{PartHas, with_super, with_reference, unit_has}

module _ (placed : ItemsPlaced) (keys : KeysFound) (single : OneAnswer) (bound : AreBound Span) (written : MembersAreWritten Span) (p : Program Span) (is : IsProgram itself (λ m b. Unit {0}) p) where
  abbrev units : List (syntax.Unit Span)
  units = units_of p

  module _ (file : ℕ) (f : File Span) (stands : slice_get p.files file ≡ Some f) where
    unit_stands : slice_get units file ≡ Some f.unit
    unit_stands = slice_get-map (λ (x : File Span). x.unit) p.files file ∙ ap (option_map (λ (x : File Span). x.unit)) stands

    reads : ReadsWithSpans itself f.text f.unit
    reads = is.reads file f stands

    -- where a written `super(..)` of a part stands, the program says
    super_there : (k : MemberKey) (base : ℕ) (part : Part Span) → IsWritten begins units file k base part → SuperStands reads.items part (p.super_at k)
    super_there k base part h =
        let law : AreWritten begins units p.rows (written_members begins p.rows units) = written begins units p.rows is.are_rows is.rows in
        let m = law.all file k base part h in
        let w = m.0 in
        let there : slice_get p.files w.file ≡ Some f = ap (slice_get p.files) m.2 ∙ stands in
        let s = super_stands reads.items w.part (p.super_at w.key) (λ e. is.supers w m.1 e f there reads.items reads.lexes) in
        subst (λ (q : Part Span). SuperStands reads.items q (p.super_at k)) m.5 (subst (λ (j : MemberKey). SuperStands reads.items w.part (p.super_at j)) m.3 s)

    part_has : (at : ℕ) (d : Decl) (k : MemberKey) (base : ℕ) (part : Part Span) → IsWritten begins units file k base part → PartDeclares begins k base part at d ⊎ Binds begins p.rows (p.super_at k) k base part at d
        → PartHas p.rows reads.items k base part at d
    part_has at d k base part w (inl h) = with_super p.rows reads.items k base part (p.super_at k) at d (super_there k base part w) h
    part_has at d k base part w (inr h) = with_reference p.rows reads.items k base part at d ((part_binds p.rows reads.items (p.super_at k) k base part (super_there k base part w) at d).1 h)

    in_unit : (x : IsFile units file f.text reads.items) (at : ℕ) (d : Decl) (h : Names begins p.rows p.super_at units file at d)
        → InClasses begins (declarations_of begins units) (λ k base part. PartHas p.rows reads.items k base part at d) (begins x.unit.mark 0) x.unit.classes h.member
    in_unit x at d h =
        let c =
        classes_found begins (declarations_of begins units) (λ k base part. PartDeclares begins k base part at d ⊎ Binds begins p.rows (p.super_at k) k base part at d) (begins h.unit.mark 0) h.unit.classes h.member h.names in
        let w : IsWritten begins units file h.member c.base c.part = record { unit = h.unit; stands = h.stands; writes = c.there } in
        let has =
        found_classes begins (declarations_of begins units) (λ k base part. PartHas p.rows reads.items k base part at d) c.base c.part (begins h.unit.mark 0) h.unit.classes h.member (part_has at d h.member c.base c.part w c.has) c.there in
        subst (λ (u : syntax.Unit Span). InClasses begins (declarations_of begins units) (λ k base part. PartHas p.rows reads.items k base part at d) (begins u.mark 0) u.classes h.member)
        (same_Some h.unit x.unit (sym h.stands ∙ x.stands)) has

    one_name : (at : ℕ) (d e : Decl) → Names begins p.rows p.super_at units file at d → Names begins p.rows p.super_at units file at e → d ≡ e
    one_name at d e h k =
        let rises : Rising (placed_of f.text reads.items) = tokens_rise f.text placed reads.items reads.lexes in
        let marked = marked_file units file f.text f.unit unit_stands reads in
        let holds =
        (unit_has f.text reads.items rises p.rows is.are_rows (single p.rows is.are_rows) (bound p.rows is.are_rows (keys p.rows is.are_rows)) (declarations_of begins units) (declares_once [] (declarations_of begins units) is.clean) marked.unit).over
        (placed_of f.text reads.items) rises (whole_piece (placed_of f.text reads.items)) marked.is.marks in
        holds.one at d e (h.member, in_unit marked at d h) (k.member, in_unit marked at e k)

    pub one_target : ((bytes : List ℕ) (items others : List Item) → Lexes bytes items → Lexes bytes others → items ≡ others) → (at : ℕ) (d e : Decl) → IsTarget begins p.rows p.super_at units f.text file at d
        → IsTarget begins p.rows p.super_at units f.text file at e → d ≡ e
    one_target once at d e h k =
        let same = one_begins f.text placed once at k.from h.from k.holds h.holds in
        one_name h.from d e h.names (subst (λ (n : ℕ). Names begins p.rows p.super_at units file n e) same k.names)
