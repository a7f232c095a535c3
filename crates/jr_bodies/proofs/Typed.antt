-- By the path of a way binding knows the type that the expression has where it stands.
use Rattle.std.proofs.Common.{◌≡◌, inl, inr, ℕ, zero, suc, ◌+◌, ◌<◌, true, false, List, ◌∷◌, length, Option, Some, None, refl, sym, ap, subst, ◌∙◌, arith}
use Rattle.std.specs.Prelude.{◌↔◌}
use Rattle.std.proofs.lemmas.Option.{same_Some}
use Rattle.jr_text.specs.declared.spans.Span.{Span}
use Rattle.jr_ast.specs.Tree as tree
use Rattle.jr_ast.specs.MemberTree as syntax
use Rattle.jr_grammar.specs.Layout.{itself}
use Rattle.jr_table.specs.Keys.{Ty}
use Rattle.jr_table.specs.Rows.{Row}
use Rattle.jr_table.specs.Context.{Context}
use Rattle.jr_table.specs.Binding.{HasType}
use Rattle.jr_table.specs.Decls.{MemberKey}
use Rattle.jr_table.specs.HeadRules.{with_parameters, is_static_member}
use Rattle.jr_table.specs.Errors.{Part, class_part, member_part}
use Rattle.jr_table.specs.TypesAt.{TypeInRow, TypeInSuper, TypeInStmts, count_args, count_super, count_type}
use Rattle.jr_expr_types.specs.Slots.{find_type}
use Rattle.jr_members.specs.WrittenMembers.{written_members}
use Rattle.jr_bind.specs.Bounds.{Bound, IsBound, TypeInPart}
use Rattle.jr_bind.specs.Programs.{Program, IsProgram, units_of}
use Rattle.jr_program.proofs.Standing.{bound_at}
use Rattle.jr_cfg.specs.MemberRoutes.{method_front, constructor_front, arguments}
use Rattle.jr_pieces.specs.Standings.{at_list}
use Rattle.jr_pieces.specs.Finding.{list_path}
use Rattle.jr_way_places.specs.PlacedWays.{list_step, list_rest, WaysLeadToTypes}
use Rattle.jr_bodies.specs.Bodies.{begins, Body, body_of, HasBody}
use Rattle.jr_bodies.specs.BodyLaws.{BodiesHaveTypes}
use Rattle.jr_bodies.proofs.Coded.{no_body, same_body}

-- ---- the numbers of parts

front_of_method : (mods : List (syntax.Modifier Span)) (t : Option (tree.TypeName Span)) (ps : List (syntax.Param Span)) (rows : List Row) → length mods + count_type rows t + 1 + length ps ≡ method_front itself mods t ps
front_of_method mods None ps rows = omega arith
front_of_method mods (Some t) ps rows = omega arith

args_long : (rows : List Row) (es : tree.Exps Span) → count_args rows es ≡ arguments itself (Some es)
args_long rows tree.end = refl
args_long rows (tree.more e es) = ap suc (args_long rows es)

super_long : (rows : List Row) (args : Option (tree.Exps Span)) → count_super rows args ≡ arguments itself args
super_long rows None = refl
super_long rows (Some es) = args_long rows es

front_of_constructor : (mods : List (syntax.Modifier Span)) (ps : List (syntax.Param Span)) (rows : List Row) (args : Option (tree.Exps Span))
    → length mods + 1 + length ps + count_super rows args ≡ constructor_front itself mods ps + arguments itself args
front_of_constructor mods ps rows args = let e : count_super rows args ≡ arguments itself args = super_long rows args in omega (arith, e)

-- no part of a row has the number of one behind them
row_ends : (rows : List Row) (c : Context) (es : tree.Exps Span) (step : ℕ) (path : List ℕ) (t : Ty) → TypeInRow rows c es step path t → step < count_args rows es
row_ends rows c tree.end step path t h = absurd h
row_ends rows c (tree.more e es) zero path t h = omega arith
row_ends rows c (tree.more e es) (suc step) path t h = let lt : step < count_args rows es = row_ends rows c es step path t h in omega (arith, lt)

super_ends : (rows : List Row) (c : Context) (args : Option (tree.Exps Span)) (step : ℕ) (path : List ℕ) (t : Ty) → TypeInSuper rows c args step path t → step < count_super rows args
super_ends rows c None step path t h = absurd h
super_ends rows c (Some es) step path t h = row_ends rows c es step path t h

-- ---- members

-- A path that begins with the number of a statement leads to the types that are met in the body.
pub record TypesOf (rows : List Row) (k : MemberKey) (base : ℕ) (part : Part Span) (b : Body) : Type 0 where
  pub types : (step : ℕ) (path : List ℕ) (t : Ty) → TypeInPart begins rows k part ((b.front + step) ∷ path) t ↔ TypeInStmts rows b.at.next b.at.context b.list step path t

same_step : (n m i j : ℕ) → n ≡ m → n + i ≡ m + j → i ≡ j
same_step n m i j e f = omega (arith, e, f)

further : (front n i j : ℕ) (count : ℕ) → front ≡ n + count → front + j ≡ n + i → i < count → ⊥
further front n i j count e f lt = omega (arith, e, f, lt)

types_of : (rows : List Row) (k : MemberKey) (base : ℕ) (part : Part Span) (bound : Bound) (b : Body) → body_of k base part bound ≡ Some b → TypesOf rows k base part b
types_of rows k base (class_part c) bound b e = absurd (no_body b e)
types_of rows k base (member_part (syntax.field m mods t w init)) bound b e = absurd (no_body b e)
types_of rows k base (member_part (syntax.inner m c)) bound b e = absurd (no_body b e)
types_of rows k base (member_part (syntax.method m mods u w ps body)) bound b e =
    subst (TypesOf rows k base (member_part (syntax.method m mods u w ps body))) (same_body _ b e) (record {
      types = λ step path t. (
        λ h. subst (λ i. TypeInStmts rows (length ps) (with_parameters k (is_static_member begins mods) ps) body i path t) (sym (same_step (method_front itself mods u ps) (length mods + count_type rows u + 1 + length ps) step h.0 (sym (front_of_method mods u ps rows)) h.1)) h.2,
        λ h. (step, ap (λ n. n + step) (sym (front_of_method mods u ps rows)), h),
      );
    })
types_of rows k base (member_part (syntax.constructor m mods w ps args body)) bound b e =
    subst (TypesOf rows k base (member_part (syntax.constructor m mods w ps args body))) (same_body _ b e) (record {
      types = λ step path t. (
        λ h. elim h [
          | inl a ↦ absurd (further (constructor_front itself mods ps + arguments itself args) (length mods + 1 + length ps) a.0 step (count_super rows args) (sym (front_of_constructor mods ps rows args)) a.1 (super_ends rows (with_parameters k true ps) args a.0 path t a.2))
          | inr a ↦ subst (λ i. TypeInStmts rows (length ps) (with_parameters k false ps) body i path t) (sym (same_step (constructor_front itself mods ps + arguments itself args) (length mods + 1 + length ps + count_super rows args) step a.0 (sym (front_of_constructor mods ps rows args)) a.1)) a.2
        ],
        λ h. inr (step, ap (λ n. n + step) (sym (front_of_constructor mods ps rows args)), h),
      );
    })

-- ---- bodies of a program

pub is_bound : (p : Program Span) → IsProgram itself (λ m b. Unit {0}) p → (file : ℕ) (b : Body) → (h : HasBody p file b)
    → IsBound begins p.rows (p.super_at h.member.key) h.member.key h.member.base h.member.part b.bound
is_bound p program file b h =
    let w = h.member in
    let q = bound_at p.rows p.super_at (written_members begins p.rows (units_of p)) p.bounds program.bound h.number w h.written in
    subst (λ (x : Bound). IsBound begins p.rows (p.super_at w.key) w.key w.base w.part x) (same_Some q.0 b.bound (sym q.1 ∙ h.bound)) q.2

both : {A B C : Type 0} → A ↔ B → B ↔ C → A ↔ C
both f g = (λ a. g.0 (f.0 a), λ c. f.1 (g.1 c))

pub bodies_have_types : WaysLeadToTypes Span → BodiesHaveTypes
bodies_have_types law p program file b h f way t =
    let w = h.member in
    let known = is_bound p program file b h in
    let leads = law begins p.rows f b.list b.at way in
    let there : list_path b.front way ≡ (b.front + list_step way) ∷ list_rest way = leads.path b.front in
    let in_body = (types_of p.rows w.key w.base w.part b.bound b h.is).types (list_step way) (list_rest way) t in
    subst (λ path. (find_type b.bound.types path ≡ Some t) ↔ HasType p.rows (at_list begins b.at way).context f t) (sym there)
    (both (known.types ((b.front + list_step way) ∷ list_rest way) t) (both in_body (leads.types t)))
