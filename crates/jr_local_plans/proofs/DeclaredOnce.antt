-- What inline local is asked for in two programs of the same files is one local, which is declared in
-- one place.
use Rattle.std.proofs.Common.{◌≡◌, inl, inr, ℕ, zero, suc, ◌<◌, List, [], ◌∷◌, ◌++◌, length, Bool, Option, Some, None, true, sym, ap, ◌∙◌, subst, arith}
use Rattle.std.specs.Prelude.{◌⊎◌, slice_get}
use Rattle.std.proofs.lemmas.Option.{same_Some}
use Rattle.jr_text.specs.declared.spans.Span.{Span}
use Rattle.jr_ast.specs.Tree as tree
use Rattle.jr_ast.specs.StatementTree as statement
use Rattle.jr_ast.specs.MemberTree as syntax
use Rattle.jr_ast.specs.Marks.{exp_mark}
use Rattle.jr_table.specs.Decls.{MemberKey, LocalKey, Decl, local_decl}
use Rattle.jr_table.specs.Rows.{Row}
use Rattle.jr_table.specs.Prelude.{prelude_rows}
use Rattle.jr_table.specs.Conditions.{AreRows}
use Rattle.jr_table.specs.DeclaredItems.{declarations_of}
use Rattle.jr_table.specs.Errors.{Part, Binds}
use Rattle.jr_members.specs.WrittenLaws.{IsWritten}
use Rattle.jr_members.proofs.Anywhere.{classes_found, found_classes}
use Rattle.jr_bind.specs.Bounds.{Bound}
use Rattle.jr_bind.specs.Programs.{File, Program, units_of}
use Rattle.jr_bind.specs.SuperPlaces.{writes_super}
use Rattle.jr_images.specs.Targets.{HoldsIdentifier, PartDeclares, IsOfPrelude, Names, IsTarget}
use Rattle.jr_cursor.specs.TargetLaws.{OneIsTarget}
use Rattle.jr_pieces.specs.Ways.{ListWay}
use Rattle.jr_pieces.specs.Nearest.{nearest}
use Rattle.jr_local_search.specs.Declarations.{Declaration, declarations_in, numbered, first_wanted}
use Rattle.jr_local_search.specs.DeclarationLaws.{WaysAreDeclared}
use Rattle.jr_local.specs.Bodies.{begins}
use Rattle.jr_local.specs.Inlining.{Declared, Asked}
use Rattle.jr_one_plans.specs.OneAnswer.{AnswerAlike}
use Rattle.jr_one_plans.proofs.Beside.{beside, IsWhole, super_same, binds_to}
use Rattle.jr_local_plans.proofs.Frames.{Frame, frame_of, with_bound, Placed, placed}
use Rattle.jr_local_plans.proofs.BodiesOnce.{Laws, AreOneBody, has_there, body_by_key, placed_once}
use Rattle.jr_local_plans.proofs.SameSites.{declares_there}

-- ---- no local is of the prelude

abbrev IsOther : Decl → Type 0
IsOther (local_decl k) = ⊥
IsOther _ = Unit {0}

abbrev AreOthers : List Row → Type 0
AreOthers [] = Unit {0}
AreOthers (r ∷ rs) = IsOther r.decl × AreOthers rs

no_local_in : (xs ys : List Row) (n : ℕ) (r : Row) (k : LocalKey) → AreOthers xs → n < length xs → slice_get (xs ++ ys) n ≡ Some r → r.decl ≡ local_decl k → ⊥
no_local_in [] ys n r k others lt e is = absurd (omega (arith, lt))
no_local_in (x ∷ xs) ys zero r k others lt e is = subst IsOther (ap (λ (z : Row). z.decl) (same_Some x r e) ∙ is) others.0
no_local_in (x ∷ xs) ys (suc n) r k others lt e is = no_local_in xs ys n r k others.1 (omega (arith, lt)) e is

prelude_others : AreOthers prelude_rows
prelude_others = (tt, (tt, (tt, (tt, (tt, (tt, (tt, (tt, tt))))))))

local_foreign : (rows : List Row) → AreRows rows → (k : LocalKey) → IsOfPrelude rows (local_decl k) → ⊥
local_foreign rows fit k h =
    no_local_in prelude_rows fit.own h.0 h.2.row k prelude_others h.1 (sym (ap (λ (rs : List Row). slice_get rs h.0) fit.prelude) ∙ h.2.stands) h.2.declares

-- ---- what a word names, by one place of a written `super(..)` or the other

module _ (rows : List Row) (s t : MemberKey → ℕ) (units : List (syntax.Unit Span)) (same : (file : ℕ) (k : MemberKey) (base : ℕ) (part : Part Span) → IsWritten begins units file k base part → writes_super part ≡ true → s k ≡ t k) where
  abbrev Has : (MemberKey → ℕ) → (at : ℕ) → Decl → MemberKey → (base : ℕ) → Part Span → Type 0
  Has r at d k base part = PartDeclares begins k base part at d ⊎ Binds begins rows (r k) k base part at d

  names_to : (file at : ℕ) (d : Decl) → Names begins rows s units file at d → Names begins rows t units file at d
  names_to file at d n =
      let f = classes_found begins (declarations_of begins units) (Has s at d) (begins n.unit.mark 0) n.unit.classes n.member n.names in
      record {
        unit = n.unit;
        stands = n.stands;
        member = n.member;
        names = found_classes begins (declarations_of begins units) (Has t at d) f.base f.part (begins n.unit.mark 0) n.unit.classes n.member
            (has_to f.base f.part (record { unit = n.unit; stands = n.stands; writes = f.there }) f.has) f.there;
      }
    where
      has_to : (base : ℕ) (part : Part Span) → IsWritten begins units file n.member base part → Has s at d n.member base part → Has t at d n.member base part
      has_to base part w (inl h) = inl h
      has_to base part w (inr h) = inr (binds_to rows (s n.member) (t n.member) n.member base part at d (same file n.member base part w) h)

-- ---- the declaration

-- the initializer's span, of a declaration
abbrev init_mark : statement.Stmt Span → Span
init_mark (statement.local m f t w e) = exp_mark e
init_mark (statement.eval m e) = m
init_mark (statement.branch m c x o) = m
init_mark (statement.loop m c x) = m
init_mark (statement.return m e) = m
init_mark (statement.block m b) = m
init_mark (statement.sync m e b) = m
init_mark (statement.empty m) = m

abbrev head_mark : Option (statement.Stmts Span) → Option Span
head_mark (Some (statement.more x xs)) = Some (init_mark x)
head_mark (Some statement.end) = None
head_mark None = None

abbrev list_of : Option Declaration → Option (statement.Stmts Span)
list_of (Some d) = d.list
list_of None = None

abbrev pub place_of : {p : Program Span} {file : ℕ} {k : LocalKey} → Declared p file k → Placed
place_of x = placed x.body x.init x.declares.way

module _ (laws : Laws) (declared : WaysAreDeclared) where
  -- of one number in one list
  mark_once : (r : Frame) (n : ℕ) (f g : tree.Exp Span) (d : ListWay f r.list) (e : ListWay g r.list) (m o : Span) (a b : Bool) (t u : tree.TypeName Span) (v w : tree.Word Span)
      → (nearest begins r.at d).stmt ≡ statement.local m a t v f → (nearest begins r.at e).stmt ≡ statement.local o b u w g → (nearest begins r.at d).at.next ≡ n → (nearest begins r.at e).at.next ≡ n → exp_mark f ≡ exp_mark g
  mark_once r n f g d e m o a b t u v w x y i j =
      let first = declared r.list f d r.at m a t v f x in
      let second = declared r.list g e r.at o b u w g y in
      let numbers : (nearest begins r.at d).at.next ≡ (nearest begins r.at e).at.next = i ∙ sym j in
      let both = sym first ∙ ap (λ (k : ℕ). first_wanted (numbered k) (declarations_in r.at.next r.list)) numbers ∙ second in
      sym (ap init_mark x) ∙ same_Some _ _ (ap (λ (z : Option Declaration). head_mark (list_of z)) both) ∙ ap init_mark y

  module _ (p : Program Span) (s : MemberKey → ℕ) (bs : List Bound) (is : IsWhole p) (also : IsWhole (beside p s bs)) (file : ℕ) where
    pub declared_there : (k : LocalKey) → Declared p file k → Declared (beside p s bs) file k
    declared_there k x =
        let h = has_there laws p s bs is also file x.body x.has in
        record { body = with_bound (frame_of x.body) h.bound; has = h.has; member = x.member; init = x.init; declares = declares_there p s bs x.body h.bound h.alike k.number x.init x.declares }

    module _ (k j : LocalKey) (same : k ≡ j) (x : Declared p file k) (y : Declared (beside p s bs) file j) where
      one_body : AreOneBody laws p s bs is also x.body y.body
      one_body = body_by_key laws p s bs is also file x.body y.body x.has y.has (x.member ∙ ap (λ (z : LocalKey). z.member) same ∙ sym y.member)

      pub bounds_alike : AnswerAlike x.body.bound y.body.bound
      bounds_alike = one_body.alike

      -- in a frame: a declaration of the number has this span
      abbrev Marks : Frame → Type 0
      Marks r = (g : tree.Exp Span) (e : ListWay g r.list) (o : Span) (b : Bool) (u : tree.TypeName Span) (w : tree.Word Span) → (nearest begins r.at e).stmt ≡ statement.local o b u w g → (nearest begins r.at e).at.next ≡ k.number → exp_mark x.init ≡ exp_mark g

      here : Marks (frame_of x.body)
      here g e o b u w y j =
          mark_once (frame_of x.body) k.number x.init g x.declares.way e x.declares.mark o x.declares.is_final b x.declares.type u x.declares.word w x.declares.is y x.declares.number j

      pub one_place : place_of x ≡ place_of y
      one_place =
          let d = y.declares in
          let mark = subst Marks one_body.frames here y.init d.way d.mark d.is_final d.type d.word d.is (d.number ∙ ap (λ (z : LocalKey). z.number) (sym same)) in
          placed_once laws p s bs is also file x.body y.body x.has one_body.frames x.init y.init x.declares.way d.way mark

-- ---- what is asked for

module _ (laws : Laws) (declared : WaysAreDeclared) (targets : OneIsTarget) (p : Program Span) (s : MemberKey → ℕ) (bs : List Bound) (is : IsWhole p) (also : IsWhole (beside p s bs)) (file at : ℕ) where
  pub asked_there : Asked p file at → Asked (beside p s bs) file at
  asked_there x = record {
    key = x.key;
    asked = record {
      text = x.asked.text;
      from = x.asked.from;
      is_text = x.asked.is_text;
      holds = x.asked.holds;
      names = names_to p.rows p.super_at s (units_of p) (super_same laws.written p s bs is also) file x.asked.from (local_decl x.key) x.asked.names;
    };
    declared = declared_there laws declared p s bs is also file x.key x.declared;
  }

  abbrev Aims : (f : File Span) → LocalKey → Type 0
  Aims f k = IsTarget begins p.rows p.super_at (units_of p) f.text file at (local_decl k)

  aims : (text : List ℕ) (k : LocalKey) (f : File Span) (from : ℕ) → f.text ≡ text → HoldsIdentifier text at from → Names begins p.rows p.super_at (units_of p) file from (local_decl k) → Aims f k
  aims text k f from e holds names = record { from = from; holds = subst (λ (t : List ℕ). HoldsIdentifier t at from) (sym e) holds; names = names; own = local_foreign p.rows is.are_rows k }

  local_key : (j k : LocalKey) → local_decl j ≡ local_decl k → j ≡ k
  local_key j k e = cc

  pub one_key : (x : Asked p file at) (y : Asked (beside p s bs) file at) → x.key ≡ y.key
  one_key x y =
      let a = x.asked in
      let b = y.asked in
      let f = a.is_text.0 in
      let file_is : b.is_text.0 ≡ f = same_Some b.is_text.0 f (sym b.is_text.1 ∙ a.is_text.1) in
      let back = names_to p.rows s p.super_at (units_of p) (λ n k base part w e. sym (super_same laws.written p s bs is also n k base part w e)) file b.from (local_decl y.key) b.names in
      local_key x.key y.key (targets p is file at f a.is_text.1 (local_decl x.key) (local_decl y.key) (aims a.text x.key f a.from a.is_text.2 a.holds a.names)
      (aims b.text y.key f b.from (ap (λ (g : File Span). g.text) (sym file_is) ∙ b.is_text.2) b.holds back))
