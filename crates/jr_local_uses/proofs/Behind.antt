-- Where a declared local is named behind its declaration: by the places of its references.
--
-- A name that is told stands at such a place, so binding has the local there, and the name finds it
-- where it stands (`told`). A name that finds the local stands at a place of it, has its bytes, and
-- so one that is told has its span; two of one span are one (`by_name`).
use Rattle.std.proofs.Common.{◌≡◌, ℕ, ◌+◌, ◌-◌, ◌<◌, ◌^◌, List, length, Some, None, refl, sym, ap, subst, ◌∙◌, arith}
use Rattle.jr_text.specs.declared.spans.Span.{Span}
use Rattle.jr_ast.specs.Tree as tree
use Rattle.jr_ast.specs.StatementTree as statement
use Rattle.jr_ast.specs.Marks.{exp_mark}
use Rattle.jr_grammar.specs.Layout.{itself}
use Rattle.jr_table.specs.Decls.{LocalKey, local_decl}
use Rattle.jr_table.specs.Found.{one}
use Rattle.jr_table.specs.Lookup.{FindsVariable}
use Rattle.jr_table.specs.Context.{scope_of}
use Rattle.jr_bind.specs.Bounds.{Reference, decl_in}
use Rattle.jr_bind.specs.Programs.{Program, IsProgram}
use Rattle.jr_pieces.specs.Ways.{ListWay}
use Rattle.jr_pieces.specs.Standings.{Standing, at_list}
use Rattle.jr_pieces.specs.Uses.{list_use}
use Rattle.jr_pieces.specs.Bars.{list_barred}
use Rattle.jr_pieces.specs.Nearest.{Element}
use Rattle.jr_told_ways.specs.Told.{In, IsOneWay, OneWayHasASpan}
use Rattle.jr_bodies.specs.Bodies.{begins, Body}
use Rattle.jr_local_search.specs.Namings as search
use Rattle.jr_local_search.specs.Namings.{Among, IsNaming}
use Rattle.jr_local_search.proofs.Paths.{list_ends}
use Rattle.jr_local_moves.specs.ReferencePlaces.{ReferencesHavePlaces}
use Rattle.jr_local_names.specs.BoundNames.{IsBoundName, NamesAreBound}
use Rattle.jr_local_reads.specs.BehindLaws.{GoesOn, WaysGoOn, IsBelow, BodiesBeginBelow, LocalsHaveTheirNames}
use Rattle.jr_local_marks.specs.MarkLaws.{IsSpelledBehind, BodiesAreSpelled}
use Rattle.jr_local.specs.Inlining.{Declared, element, behind_it, Naming}
use Rattle.jr_local_asked.specs.Declaring.{DeclaredLocal, IsThere}
use Rattle.jr_local_uses.specs.LocalPlaces.{ArePlaces}
use Rattle.jr_local_uses.specs.Heads.{Head}
use Rattle.jr_local_uses.specs.LocalNamings.{declared_by, IsTold, AreNamings, AreGathered}
use Rattle.jr_local_uses.proofs.LocalNames.{local_found}
use Rattle.jr_local_uses.proofs.Declaring.{own_head}

module _ (names : NamesAreBound) (on : WaysGoOn) (own : LocalsHaveTheirNames) (spelled : BodiesAreSpelled) (refer : ReferencesHavePlaces) (one_way : OneWayHasASpan Span)
    (p : Program Span) (program : IsProgram itself (λ m b. Unit {0}) p) (file : ℕ) (k : LocalKey) (x : Declared p file k) (below : IsBelow x.body.at) where
  abbrev b : Body
  b = x.body

  abbrev el : Element x.init
  el = element x

  abbrev rs : List Reference
  rs = b.bound.references

  -- what a name in the list finds, where it is the local
  abbrev Finds : (f : tree.Exp Span) → ListWay f el.rest → List ℕ → Type 0
  Finds f e name = FindsVariable p.rows (scope_of (at_list begins (behind_it x) e).context) name (one (local_decl k))

  there : IsSpelledBehind b x.declares.way
  there = spelled p program file b x.has x.init x.declares.way

  goes : (f : tree.Exp Span) (e : ListWay f el.rest) → GoesOn b.at x.declares.way e
  goes f e = on b.list b.at x.init x.declares.way f e

  bound_name : (m : Span) (w : tree.Word Span) (e : ListWay (tree.name m w) el.rest) → IsBoundName p b m w (goes (tree.name m w) e).way
  bound_name m w e = names p program file b x.has m w (goes (tree.name m w) e).way

  abbrev FindsAt : List ℕ → Standing → Type 0
  FindsAt name s = FindsVariable p.rows (scope_of s.context) name (one (local_decl k))

  finds_there : (m : Span) (w : tree.Word Span) (e : ListWay (tree.name m w) el.rest) → decl_in rs (w.mark.from - b.at.base) ≡ Some (local_decl k) → Finds (tree.name m w) e w.text
  finds_there m w e is = subst (FindsAt w.text) (goes (tree.name m w) e).at (((bound_name m w e).local k).0 is)

  bound_there : (m : Span) (w : tree.Word Span) (e : ListWay (tree.name m w) el.rest) → Finds (tree.name m w) e w.text → decl_in rs (w.mark.from - b.at.base) ≡ Some (local_decl k)
  bound_there m w e finds = ((bound_name m w e).local k).1 (subst (FindsAt w.text) (sym (goes (tree.name m w) e).at) finds)

  module _ (places : List ℕ) (are : ArePlaces b.at.base (local_decl k) rs places) where
    -- ---- what is told names the local

    told : (y : search.Naming) → IsNaming el.rest y → Among places y.span.from → (n : Naming x) × IsTold x n y
    told y h among =
        let w : tree.Word Span = record { mark = h.word; text = h.text } in
        let at_word = (there.names y.span w h.way).mark in
        let q = (are.same y.span.from).0 among in
        let r = (refer b.at.base (local_decl k) rs).each q.0 y.span.from q.1 in
        let place : y.span.from ≡ b.at.base + r.0 = r.1 in
        let from : y.span.from ≡ w.mark.from = ap (λ (s : Span). s.from) at_word in
        let at : w.mark.from - b.at.base ≡ r.0 = omega (arith, from, place) in (
          record { at = tree.name y.span w; way = h.way; names = record { mark = y.span; word = w; is = refl; bound = finds_there y.span w h.way (ap (decl_in rs) at ∙ r.2) } },
          record { span = refl; used = sym h.used; barred = sym (h.barred (behind_it x).base) },
        )

    -- ---- what names the local is told

    module _ (size : ℕ) (size_is : size ≡ x.declares.word.mark.to - x.declares.word.mark.from) (ys : List search.Naming) (gathered : AreGathered places size el.rest ys) where
      record IsToldAs (f : tree.Exp Span) (e : ListWay f el.rest) : Type 0 where
        name : search.Naming
        among : Among ys name
        span : exp_mark f ≡ name.span
        used : list_use e ≡ name.usage
        barred : list_barred begins (behind_it x).base None e ≡ name.bar

      abbrev Way : tree.Exp Span → Type 0
      Way f = ListWay f el.rest

      -- one of the same span
      same_told : (f : tree.Exp Span) (e : ListWay f el.rest) (y : search.Naming) → Among ys y → IsNaming el.rest y → y.span ≡ exp_mark f → IsToldAs f e
      same_told f e y among h span =
          let w : tree.Word Span = record { mark = h.word; text = h.text } in
          let nested = there.nested in
          let ends = list_ends (tree.name y.span w) el.rest h.way 0 ∙ span ∙ sym (list_ends f el.rest e 0) in
          let same : IsOneWay h.way e = one_way itself (record { from = 0; to = nested.to }) 1 el.rest nested.nested (tree.name y.span w) f h.way e ends in
          record {
            name = y;
            among = among;
            span = sym span;
            used = sym (h.used ∙ ap (λ (z : In Way). list_use z.way) same);
            barred = sym (h.barred (behind_it x).base ∙ ap (λ (z : In Way). list_barred begins (behind_it x).base None z.way) same);
          }

      by_name : (m : Span) (w : tree.Word Span) (e : ListWay (tree.name m w) el.rest) → Finds (tree.name m w) e w.text → IsToldAs (tree.name m w) e
      by_name m w e finds =
          let s = there.names m w e in
          let at = (refer b.at.base (local_decl k) rs).all (w.mark.from - b.at.base) (bound_there m w e finds) in
          let from : m.from ≡ w.mark.from = ap (λ (z : Span). z.from) s.mark in
          let to : m.to ≡ w.mark.to = ap (λ (z : Span). z.to) s.mark in
          let within = (bound_name m w e).within in
          let begins_so : b.at.base + (w.mark.from - b.at.base) ≡ m.from = omega (arith, within, from) in
          let among : Among places m.from = (are.same m.from).1 (at.0, at.1 ∙ ap Some begins_so) in
          let local = local_found p.rows (scope_of (at_list begins (behind_it x) e).context) w.text k finds in
          let text : x.declares.word.text ≡ w.text = own b.list b.at below x.init x.declares.way x.declares.mark x.declares.is_final x.declares.type x.declares.word x.declares.is (tree.name m w) e w.text k (sym x.declares.number) local in
          let declared = there.declared x.declares.mark x.declares.is_final x.declares.type x.declares.word x.init x.declares.is in
          let long : length x.declares.word.text ≡ length w.text = ap length text in
          let whole = s.whole in
          let ends_so : m.to ≡ m.from + size = omega (arith, size_is, declared, whole, long, from, to) in
          let low = gathered.fit among.0 m.from among.1 in
          let few : m.to < 2 ^ 32 = subst (λ (n : ℕ). n < 2 ^ 32) (sym ends_so) low in
          let nested = there.nested in
          let y = gathered.are.all (record { from = 0; to = nested.to }) 1 nested.nested m w e among ends_so few in
          same_told (tree.name m w) e y.0 y.1 (gathered.are.each y.0 y.1).0 y.2

      is_told : (n : Naming x) → IsToldAs n.at n.way
      is_told n =
          subst (λ (f : tree.Exp Span). (e : ListWay f el.rest) → Finds f e n.names.word.text → IsToldAs f e) (sym n.names.is) (by_name n.names.mark n.names.word) n.way n.names.bound

      pub are_namings : AreNamings x ys
      are_namings = record {
        each = λ y among. let h = gathered.are.each y among in told y h.0 h.1;
        all = λ n. let h = is_told n in (h.name, h.among, record { span = h.span; used = h.used; barred = h.barred });
        rise = gathered.are.rise are.rise;
      }

-- ---- of a local that is there, by the head of its list

pub names_are : NamesAreBound → WaysGoOn → BodiesBeginBelow → LocalsHaveTheirNames → BodiesAreSpelled → ReferencesHavePlaces → OneWayHasASpan Span
    → (p : Program Span) → IsProgram itself (λ m b. Unit {0}) p → (file : ℕ) (k : LocalKey) (x : DeclaredLocal) (h : IsThere p file k x)
    → (places : List ℕ) → ArePlaces h.base (local_decl k) h.bound.references places
    → (head : Head) → head ≡ own_head p file k x h → (ys : List search.Naming) → AreGathered places head.size head.rest ys → AreNamings (declared_by h) ys
names_are names on below own spelled refer one_way p program file k x h places are head is ys gathered =
    let rest : (element (declared_by h)).rest ≡ h.stands.rest = (h.stands.element (declared_by h).body.at (λ i. (declared_by h).body.at.next)).1 in
    are_namings names on own spelled refer one_way p program file k (declared_by h) (below k.member h.is_static h.base x.code.params) places are head.size (ap (λ (z : Head). z.size) is) ys
    (subst (λ (ss : statement.Stmts Span). AreGathered places head.size ss ys) (ap (λ (z : Head). z.rest) is ∙ sym rest) gathered)
