-- Of the body of a member: it may be walked, and parameters are in the order of their numbers.
use Rattle.std.proofs.Common.{◌≡◌, false, ℕ, suc, ◌+◌, ◌≤◌, ◌<◌, List, [], ◌∷◌, length, Some, refl, sym, ap, subst, ◌∙◌, inl, inr, arith}
use Rattle.jr_text.specs.declared.spans.Span.{Span}
use Rattle.jr_ast.specs.MemberTree as syntax
use Rattle.jr_grammar.specs.Layout.{itself}
use Rattle.jr_table.specs.Keys.{ClassKey, Ty, class}
use Rattle.jr_table.specs.Rows.{Row}
use Rattle.jr_table.specs.Decls.{MemberKey, class_decl}
use Rattle.jr_table.specs.Decls as decl
use Rattle.jr_table.specs.Entries.{IsRowOf, class_of, class_of_member, params_of}
use Rattle.jr_table.specs.Conditions.{AreRows, TypesName, as_declarer, as_parameter}
use Rattle.jr_table.specs.Context.{known, parameters}
use Rattle.jr_table.specs.HeadRules.{types_of, with_parameters, is_static_member}
use Rattle.jr_table.specs.Errors.{Part, class_part, member_part, part_mark}
use Rattle.jr_table.proofs.RowLaws.{number_stands}
use Rattle.jr_members.specs.WrittenMembers.{decl_of_member, written_members}
use Rattle.jr_members.specs.WrittenLaws.{MembersAreWritten}
use Rattle.jr_bind.specs.Bounds.{Bound}
use Rattle.jr_bind.specs.Programs.{Program, IsProgram, units_of}
use Rattle.jr_program.proofs.Standing.{at_contains}
use Rattle.jr_bodies.specs.Bodies.{begins, Body, body_of, HasBody}
use Rattle.jr_bodies.proofs.Coded.{no_body, same_body, key_of}
use Rattle.jr_bodies.proofs.Typed.{is_bound}
use Rattle.jr_new_bodies.specs.Ready.{StmtsReadyIn}
use Rattle.jr_new_files.specs.Ready.{PartReady}
use Rattle.jr_new_files.specs.PartLaws.{WrittenAreReady}
use Rattle.jr_local_ways.specs.ReadyWays.{ListReadyAt}
use Rattle.jr_local_walks.specs.Contexts.{Each, IsEarly, IsTyped, IsBelow}
use Rattle.jr_local_premises.specs.BodyPremises.{BodiesAreReady, BodiesAreBelow}
use Rattle.jr_local_premises.proofs.Fronts.{of_method, of_constructor}

abbrev Anywhere : Span → ℕ → Type 0
Anywhere m n = Unit {0}

-- ---- it may be walked

abbrev BodyReady : List Row → Body → Type 0
BodyReady rows b = ListReadyAt itself Anywhere rows b.bound b.at.base b.at [] b.front b.list

body_ready : (p : Program Span) (file : ℕ) (k : MemberKey) (base : ℕ) (part : Part Span) (bound : Bound) (b : Body) → body_of k base part bound ≡ Some b → PartReady p file p.rows bound (part_mark part).from k part → BodyReady p.rows b
body_ready p file k base (class_part c) bound b e h = absurd (no_body b e)
body_ready p file k base (member_part (syntax.field m mods t w init)) bound b e h = absurd (no_body b e)
body_ready p file k base (member_part (syntax.inner m c)) bound b e h = absurd (no_body b e)
body_ready p file k base (member_part (syntax.method m mods t w ps body)) bound b e h =
    subst (BodyReady p.rows) (same_body _ b e)
    (subst (λ (n : ℕ). StmtsReadyIn itself Anywhere p.rows bound m.from (length ps) (with_parameters k (is_static_member begins mods) ps) [] n m.from body) (of_method p.rows mods t ps) h.0.1.1)
body_ready p file k base (member_part (syntax.constructor m mods w ps args body)) bound b e h =
    subst (BodyReady p.rows) (same_body _ b e)
    (subst (λ (n : ℕ). StmtsReadyIn itself Anywhere p.rows bound m.from (length ps) (with_parameters k false ps) [] n m.from body) (of_constructor p.rows mods ps args) h.0.1.1)

pub bodies_are_ready : WrittenAreReady → BodiesAreReady
bodies_are_ready law p program file b h =
    let w = h.member in
    let has = at_contains (written_members begins p.rows (units_of p)) h.number w h.written in
    body_ready p w.file w.key w.base w.part b.bound b h.is (law p program w has b.bound (is_bound p program file b h))

-- ---- parameters

early : (k : MemberKey) (n m : ℕ) (ps : List (syntax.Param Span)) (ts : List Ty) → n + length ps ≤ m → Each (IsEarly k m) (parameters k n ps ts)
early k n m [] ts le = tt
early k n m (p ∷ ps) [] le = tt
early k n m (p ∷ ps) (t ∷ ts) le = ((refl, let lt : n < m = omega (arith, le) in lt), early k (suc n) m ps ts (let l : suc n + length ps ≤ m = omega (arith, le) in l))

known_is : (t u : Ty) → known t ≡ known u → t ≡ u
known_is t u e = cc

module _ (rows : List Row) where
  abbrev pub HasRow : ClassKey → Type 0
  HasRow c = (j : ℕ) × IsRowOf rows (class_decl c) j

  typed : (k : MemberKey) (n : ℕ) (ps : List (syntax.Param Span)) (ts : List Ty) → ((c : ClassKey) → TypesName ts c → HasRow c) → Each (IsTyped rows) (parameters k n ps ts)
  typed k n [] ts named = tt
  typed k n (p ∷ ps) [] named = tt
  typed k n (p ∷ ps) (t ∷ ts) named = (λ c e. named c (inl (known_is t (class c) e)), typed k (suc n) ps ts (λ c h. named c (inr h)))

  abbrev AreNamed : MemberKey → Type 0
  AreNamed k = (c : ClassKey) → TypesName (types_of k) c → HasRow c

  below : (k : MemberKey) (base : ℕ) (part : Part Span) (bound : Bound) (b : Body) → body_of k base part bound ≡ Some b → AreNamed k → IsBelow rows b.key b.at
  below k base (class_part c) bound b e named = absurd (no_body b e)
  below k base (member_part (syntax.field m mods t w init)) bound b e named = absurd (no_body b e)
  below k base (member_part (syntax.inner m c)) bound b e named = absurd (no_body b e)
  below k base (member_part (syntax.method m mods t w ps body)) bound b e named =
      subst (λ (x : Body). IsBelow rows x.key x.at) (same_body _ b e) (refl, early k 0 (length ps) ps (types_of k) (let l : 0 + length ps ≤ length ps = omega arith in l), typed k 0 ps (types_of k) named)
  below k base (member_part (syntax.constructor m mods w ps args body)) bound b e named =
      subst (λ (x : Body). IsBelow rows x.key x.at) (same_body _ b e) (refl, early k 0 (length ps) ps (types_of k) (let l : 0 + length ps ≤ length ps = omega arith in l), typed k 0 ps (types_of k) named)

  same_types : (k : MemberKey) → params_of (decl_of_member k) ≡ types_of k
  same_types (decl.head k) = refl
  same_types (decl.field k) = refl
  same_types (decl.method k) = refl
  same_types (decl.constructor k) = refl

  same_class : (k : MemberKey) → class_of (decl_of_member k) ≡ class_of_member k
  same_class (decl.head k) = refl
  same_class (decl.field k) = refl
  same_class (decl.method k) = refl
  same_class (decl.constructor k) = refl

  module _ (are : AreRows rows) (k : MemberKey) (j : ℕ) (i : IsRowOf rows (decl_of_member k) j) where
    -- the row of the member names the types of its parameters, and its class
    are_named : AreNamed k
    are_named c h = are.named j i.row c i.stands (as_parameter (subst (λ (ts : List Ty). TypesName ts c) (sym (ap params_of i.declares ∙ same_types k)) h))

    own_class : HasRow (class_of_member k)
    own_class = are.named j i.row (class_of_member k) i.stands (as_declarer (ap class_of i.declares ∙ same_class k))

module _ (law : MembersAreWritten Span) (p : Program Span) (program : IsProgram itself (λ m n. Unit {0}) p) (file : ℕ) (b : Body) (h : HasBody p file b) where
  -- the key is that of a row
  row_of_body : IsRowOf p.rows (decl_of_member h.member.key) h.member.row
  row_of_body =
      let w = h.member in
      number_stands p.rows (decl_of_member w.key) w.row ((law begins (units_of p) p.rows program.are_rows program.rows).row w (at_contains (written_members begins p.rows (units_of p)) h.number w h.written))

  pub body_below : IsBelow p.rows b.key b.at
  body_below =
      let w = h.member in
      below p.rows w.key w.base w.part b.bound b h.is (are_named p.rows program.are_rows w.key w.row row_of_body)

  pub class_of_body : HasRow p.rows (class_of_member b.key)
  class_of_body =
      let w = h.member in
      subst (λ (k : MemberKey). HasRow p.rows (class_of_member k)) (key_of w.key w.base w.part b.bound b h.is) (own_class p.rows program.are_rows w.key w.row row_of_body)

pub bodies_are_below : MembersAreWritten Span → BodiesAreBelow
bodies_are_below law p program file b h = body_below law p program file b h
