-- Sources have one first fault, and a show is refused for one reason.
use Rattle.std.proofs.Common.{◌≡◌, ◌⊎◌, ℕ, ◌+◌, ◌<◌, ◌≤◌, List, sym, ap, subst, ◌∙◌, inl, inr, arith}
use Rattle.std.specs.Prelude.{Option, slice_get}
use Rattle.std.proofs.lemmas.Bool.{cases_order}
use Rattle.std.proofs.lemmas.Option.{same_Some}
use Rattle.jr_text.specs.declared.spans.Span.{Span}
use Rattle.jr_ast.specs.MemberTree.{Unit as UnitTree}
use Rattle.jr_names.specs.declared.steps.What.{What}
use Rattle.jr_names.specs.Refusals.{Refusal, no_such_file, source_error, report_full, too_many_sites}
use Rattle.jr_table.specs.declared.kinds.DeclKind.{DeclKind}
use Rattle.jr_table.specs.Faults.{Place, PackageLine, HasFault as HasDeclFault, IsFirstFault, IsUpTo, rank_of as kind_rank}
use Rattle.jr_table.specs.Names.{kind_name}
use Rattle.jr_table.specs.DeclaredItems.{DeclaredItem, declarations_of}
use Rattle.jr_build.proofs.Cleaning.{same_kind}
use Rattle.jr_program_laws.specs.FileParts.{begins}
use Rattle.jr_lines.specs.Lines.{bytes_of}
use Rattle.jr_sources.specs.declared.faults.ReadingFault.{ReadingFault}
use Rattle.jr_sources.specs.FaultNames.{fault_name}
use Rattle.jr_sources.specs.ReadingFaults.{HasFault}
use Rattle.jr_sources.specs.ReadingLaws.{HasOneReading}
use Rattle.jr_sources.specs.Sources.{Source, Differ}
use Rattle.jr_session.specs.States.{State}
use Rattle.jr_sources.specs.FirstFault.{package_lines, IsFileFault, IsDeclarationFault, IsFirstFaultOf}
use Rattle.jr_session.specs.Refusing.{IsFirstRefusal, rank_of}
use Rattle.jr_session.specs.StepLaws.{HasOneShow}
use Rattle.jr_sources.proofs.Analysing.{read_once, source_read}
use Rattle.jr_session.proofs.ShowSteps.{the_show, MayRefuseShow, show_refusals, would_once, large_once}

-- ---- of declarations

one_place : (p q : Place) → IsUpTo p q → IsUpTo q p → p ≡ q
one_place p q (inl g) (inl h) = absurd (omega (arith, g, h))
one_place p q (inl g) (inr h) = let same = h.0 in absurd (omega (arith, g, same))
one_place p q (inr g) (inl h) = let same = g.0 in absurd (omega (arith, h, same))
one_place p q (inr g) (inr h) =
    let file = g.0 in
    let le = g.1 in
    let ge = h.1 in
    let at : p.at ≡ q.at = omega (arith, le, ge) in
    λ i. record { file = file i; at = at i }

module _ (packages : List (Option PackageLine)) (declarations : List DeclaredItem) where
  first_once : (k l : DeclKind) (p q : Place) → IsFirstFault packages declarations k p → IsFirstFault packages declarations l q → (k ≡ l) × (p ≡ q)
  first_once k l p q g h =
      let le = g.lowest l q h.has in
      let ge = h.lowest k p g.has in
      let rank : kind_rank packages declarations k ≡ kind_rank packages declarations l = omega (arith, le, ge) in
      let kind : k ≡ l = same_kind packages declarations k l rank in
      (kind, one_place p q (g.first q (subst (λ (m : DeclKind). HasDeclFault packages declarations m q) (sym kind) h.has)) (h.first p (subst (λ (m : DeclKind). HasDeclFault packages declarations m p) kind g.has)))

-- ---- of sources

abbrev Same : (f h : List ℕ) (a b : ℕ) (k l : List ℕ) → Type 0
Same f h a b k l = (f ≡ h) × (a ≡ b) × (k ≡ l)

module _ (reading : HasOneReading) (ss : List Source) where
  module _ (f h : List ℕ) (a b : ℕ) (k l : List ℕ) where
    one_file : IsFileFault ss f a k → IsFileFault ss h b l → Same f h a b k l
    one_file x y = by (cases_order x.number y.number)
      where
        by : ((x.number ≡ y.number) ⊎ ((x.number < y.number) ⊎ (y.number < x.number))) → Same f h a b k l
        by (inl e) =
            let source = same_Some (record { name = f; text = x.text }) (record { name = h; text = y.text }) (sym x.stands ∙ ap (slice_get ss) e ∙ y.stands) in
            let text : x.text ≡ y.text = ap (λ (s : Source). s.text) source in
            let fault = reading.fault y.text x.fault y.fault (subst (λ (t : List ℕ). HasFault t x.fault) text x.has) y.has in
            (ap (λ (s : Source). s.name) source, x.place ∙ ap (λ (r : ReadingFault). r.at) fault ∙ sym y.place, x.told ∙ ap (λ (r : ReadingFault). fault_name r.kind) fault ∙ sym y.told)
        by (inr (inl lt)) = absurd (y.first x.number (record { name = f; text = x.text }) x.fault lt x.stands x.has)
        by (inr (inr lt)) = absurd (x.first y.number (record { name = h; text = y.text }) y.fault lt y.stands y.has)

    one_declaration : IsDeclarationFault ss f a k → IsDeclarationFault ss h b l → Same f h a b k l
    one_declaration x y =
        let read = read_once reading ss y.units x.units y.words x.words y.read x.read in
        let first : IsFirstFault (package_lines x.units x.words) (declarations_of begins x.units) y.of y.place =
        subst (λ (ws : List ℕ). IsFirstFault (package_lines x.units ws) (declarations_of begins x.units) y.of y.place) read.1
        (subst (λ (us : List (UnitTree Span)). IsFirstFault (package_lines us y.words) (declarations_of begins us) y.of y.place) read.0 y.first) in
        let same = first_once (package_lines x.units x.words) (declarations_of begins x.units) x.of y.of x.place y.place x.first first in
        let source = same_Some (record { name = f; text = x.text }) (record { name = h; text = y.text }) (sym x.stands ∙ ap (λ (p : Place). slice_get ss p.file) same.1 ∙ y.stands) in
        (ap (λ (s : Source). s.name) source, x.told_at ∙ ap (λ (p : Place). p.at) same.1 ∙ sym y.told_at, x.told ∙ ap kind_name same.0 ∙ sym y.told)

  -- all files read where a declaration is at fault
  never_both : (f h : List ℕ) (a b : ℕ) (k l : List ℕ) → IsFileFault ss f a k → IsDeclarationFault ss h b l → ⊥
  never_both f h a b k l x y =
      let r = source_read ss y.units y.words y.read x.number (record { name = f; text = x.text }) x.stands in
      reading.never_both x.text r.0 r.1 x.fault r.3 x.has

  pub one_first : (f h : List ℕ) (a b : ℕ) (k l : List ℕ) → IsFirstFaultOf ss f a k → IsFirstFaultOf ss h b l → Same f h a b k l
  one_first f h a b k l (inl x) (inl y) = one_file f h a b k l x y
  one_first f h a b k l (inl x) (inr y) = absurd (never_both f h a b k l x y)
  one_first f h a b k l (inr x) (inl y) = absurd (never_both h f b a l k y x)
  one_first f h a b k l (inr x) (inr y) = one_declaration f h a b k l x y

-- ---- of a show

module _ (reading : HasOneReading) (once : HasOneShow) (s : State) (file : List ℕ) (of : What) (differ : Differ s.files) where
  ranked : (q r : Refusal) → q ≡ r → rank_of (the_show file of) q ≡ rank_of (the_show file of) r
  ranked q r e = ap (rank_of (the_show file of)) e

  same_refusal : (q r : Refusal) → rank_of (the_show file of) q ≤ rank_of (the_show file of) r → rank_of (the_show file of) r ≤ rank_of (the_show file of) q → MayRefuseShow s file of q → MayRefuseShow s file of r → q ≡ r
  same_refusal q r le ge (inl g) (inl h) = g.0 ∙ sym h.0
  same_refusal q r le ge (inl g) (inr (inl h)) = let a = ranked q (no_such_file file) g.0 in let b = ranked r (source_error h.0 h.1 h.2) h.3 in absurd (omega arith)
  same_refusal q r le ge (inl g) (inr (inr (inl h))) = let a = ranked q (no_such_file file) g.0 in let b = ranked r (too_many_sites h.0 h.1) h.2 in absurd (omega arith)
  same_refusal q r le ge (inl g) (inr (inr (inr h))) = let a = ranked q (no_such_file file) g.0 in let b = ranked r (report_full h.0) h.1 in absurd (omega arith)
  same_refusal q r le ge (inr (inl g)) (inl h) = let a = ranked q (source_error g.0 g.1 g.2) g.3 in let b = ranked r (no_such_file file) h.0 in absurd (omega arith)
  same_refusal q r le ge (inr (inl g)) (inr (inl h)) =
      let same = one_first reading s.files g.0 h.0 g.1 h.1 g.2 h.2 g.4 h.4 in
      g.3 ∙ (λ i. source_error (same.0 i) (same.1 i) (same.2 i)) ∙ sym h.3
  same_refusal q r le ge (inr (inl g)) (inr (inr (inl h))) = let a = ranked q (source_error g.0 g.1 g.2) g.3 in let b = ranked r (too_many_sites h.0 h.1) h.2 in absurd (omega arith)
  same_refusal q r le ge (inr (inl g)) (inr (inr (inr h))) = let a = ranked q (source_error g.0 g.1 g.2) g.3 in let b = ranked r (report_full h.0) h.1 in absurd (omega arith)
  same_refusal q r le ge (inr (inr (inl g))) (inl h) = let a = ranked q (too_many_sites g.0 g.1) g.2 in let b = ranked r (no_such_file file) h.0 in absurd (omega arith)
  same_refusal q r le ge (inr (inr (inl g))) (inr (inl h)) = let a = ranked q (too_many_sites g.0 g.1) g.2 in let b = ranked r (source_error h.0 h.1 h.2) h.3 in absurd (omega arith)
  same_refusal q r le ge (inr (inr (inl g))) (inr (inr (inl h))) =
      let same = large_once s file of differ once g.0 h.0 g.1 h.1 g.3 h.3 in
      g.2 ∙ (λ i. too_many_sites (same.0 i) (same.1 i)) ∙ sym h.2
  same_refusal q r le ge (inr (inr (inl g))) (inr (inr (inr h))) = let a = ranked q (too_many_sites g.0 g.1) g.2 in let b = ranked r (report_full h.0) h.1 in absurd (omega arith)
  same_refusal q r le ge (inr (inr (inr g))) (inl h) = let a = ranked q (report_full g.0) g.1 in let b = ranked r (no_such_file file) h.0 in absurd (omega arith)
  same_refusal q r le ge (inr (inr (inr g))) (inr (inl h)) = let a = ranked q (report_full g.0) g.1 in let b = ranked r (source_error h.0 h.1 h.2) h.3 in absurd (omega arith)
  same_refusal q r le ge (inr (inr (inr g))) (inr (inr (inl h))) = let a = ranked q (report_full g.0) g.1 in let b = ranked r (too_many_sites h.0 h.1) h.2 in absurd (omega arith)
  same_refusal q r le ge (inr (inr (inr g))) (inr (inr (inr h))) =
      let lines = would_once s file of differ once g.2.0 h.2.0 g.2.1 h.2.1 in
      let len : g.0 ≡ h.0 = g.2.3 ∙ ap (λ (ls : List (List ℕ)). s.shown + bytes_of ls) lines ∙ sym h.2.3 in
      g.1 ∙ ap report_full len ∙ sym h.1

  pub one_show_refusal : (q r : Refusal) → IsFirstRefusal s (the_show file of) q → IsFirstRefusal s (the_show file of) r → q ≡ r
  one_show_refusal q r g h = same_refusal q r (g.first r h.applies) (h.first q g.applies) (show_refusals s file of q g.applies) (show_refusals s file of r h.applies)
