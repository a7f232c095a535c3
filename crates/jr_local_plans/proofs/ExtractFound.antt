-- What extract local finds in two programs of the same files is one, and it is refused alike.
use Rattle.std.proofs.Common.{◌≡◌, inl, inr, ℕ, List, ◌++◌, Option, Some, None, sym, ap, ◌∙◌, subst}
use Rattle.std.proofs.lemmas.Option.{same_Some}
use Rattle.jr_text.specs.declared.spans.Span.{Span}
use Rattle.jr_ast.specs.Tree as tree
use Rattle.jr_ast.specs.StatementTree as statement
use Rattle.jr_table.specs.Keys.{Ty}
use Rattle.jr_table.specs.Decls.{MemberKey, LocalKey, local_decl}
use Rattle.jr_table.specs.Scope.{ScopeLocal}
use Rattle.jr_table.specs.LookupLaws.{HasOne}
use Rattle.jr_table.specs.Context.{Context, scope_of}
use Rattle.jr_table.specs.Binding.{HasType}
use Rattle.jr_names.specs.Refusals.{Refusal, conditional, clash}
use Rattle.jr_bind.specs.Bounds.{Bound}
use Rattle.jr_bind.specs.Programs.{Program}
use Rattle.jr_pieces.specs.Bars.{stmt_barred}
use Rattle.jr_pieces.specs.Declared.{declared_in_list, first_named}
use Rattle.jr_local.specs.Bodies.{begins}
use Rattle.jr_local.specs.Selecting.{Selected, RefusesExtract}
use Rattle.jr_local.specs.Extracted.{Found}
use Rattle.jr_one_plans.specs.OneAnswer.{AnswerAlike}
use Rattle.jr_one_plans.proofs.Beside.{beside, IsWhole}
use Rattle.jr_local_plans.proofs.Frames.{frame_of, with_bound, Placed, placed, element_of, at_of}
use Rattle.jr_local_plans.proofs.BodiesOnce.{Laws, AreOneBody, has_there, body_by_byte, placed_once}

-- the expression that is selected, with its type
pub record Where : Type 0 where
  pub place : Placed
  pub type : Ty

abbrev pub place_of : {p : Program Span} {file from to : ℕ} → Selected p file from to → Placed
place_of x = placed x.body x.value x.way

abbrev pub where_of : {p : Program Span} {file from to : ℕ} → Selected p file from to → Where
where_of x = record { place = place_of x; type = x.type }

abbrev pub bar_of : Placed → Option ℕ
bar_of c = stmt_barred begins (element_of c).at.base None (element_of c).way

abbrev pub taken_of : Placed → List ScopeLocal
taken_of c = (scope_of (element_of c).at.context).locals ++ declared_in_list c.frame.key (element_of c).at.next (statement.more (element_of c).stmt (element_of c).rest)

-- an expression has one type
pub type_once : Laws → (p : Program Span) → IsWhole p → (c : Context) (e : tree.Exp Span) → HasOne (HasType p.rows c e)
type_once laws p is c e t u x y =
    let b = laws.binding p.rows is.are_rows (laws.keys p.rows is.are_rows) c in
    same_Some t u (sym ((b.types e t).1 x) ∙ (b.types e u).1 y)

module _ (laws : Laws) (p : Program Span) (s : MemberKey → ℕ) (bs : List Bound) (is : IsWhole p) (also : IsWhole (beside p s bs)) (file from to : ℕ) where
  pub selected_there : Selected p file from to → Selected (beside p s bs) file from to
  selected_there x =
      let h = has_there laws p s bs is also file x.body x.has in
      record {
        body = with_bound (frame_of x.body) h.bound;
        has = h.has;
        value = x.value;
        way = x.way;
        span = x.span;
        used = x.used;
        no_class = x.no_class;
        type = x.type;
        typed = x.typed;
        no_void = x.no_void;
        no_null = x.no_null;
        no_greatest = x.no_greatest;
      }

  module _ (x : Selected p file from to) (y : Selected (beside p s bs) file from to) where
    one_body : AreOneBody laws p s bs is also x.body y.body
    one_body = body_by_byte laws p s bs is also file x.body y.body x.has y.has x.value y.value x.way y.way (ap (λ (m : Span). m.from) (x.span ∙ sym y.span))

    pub bounds_alike : AnswerAlike x.body.bound y.body.bound
    bounds_alike = one_body.alike

    pub one_place : place_of x ≡ place_of y
    one_place = placed_once laws p s bs is also file x.body y.body x.has one_body.frames x.value y.value x.way y.way (x.span ∙ sym y.span)

    one_type : x.type ≡ y.type
    one_type = type_once laws p is (at_of (place_of x)).context x.value x.type y.type x.typed (subst (λ (c : Placed). HasType p.rows (at_of c).context c.value y.type) (sym one_place) y.typed)

    pub one_where : where_of x ≡ where_of y
    one_where = λ i. record { place = one_place i; type = one_type i }

module _ (laws : Laws) (p : Program Span) (s : MemberKey → ℕ) (bs : List Bound) (is : IsWhole p) (also : IsWhole (beside p s bs)) (file from to : ℕ) (name : List ℕ) where
  abbrev q : Program Span
  q = beside p s bs

  there : Selected p file from to → Selected q file from to
  there x = selected_there laws p s bs is also file from to x

  here : Selected q file from to → Selected p file from to
  here y = selected_there laws q p.super_at p.bounds also is file from to y

  place : (x : Selected p file from to) (y : Selected q file from to) → place_of x ≡ place_of y
  place x y = one_place laws p s bs is also file from to x y

  some_none : (n : ℕ) → (let o : Option ℕ = Some n in o ≡ None) → ⊥
  some_none n e = cc

  key_none : (k : LocalKey) → (let o : Option LocalKey = Some k in o ≡ None) → ⊥
  key_none k e = cc

  barred_apart : (x : Selected p file from to) (y : Selected q file from to) (n : ℕ) → bar_of (place_of x) ≡ Some n → bar_of (place_of y) ≡ None → ⊥
  barred_apart x y n e f = some_none n (sym e ∙ ap bar_of (place x y) ∙ f)

  straight_apart : (x : Selected p file from to) (y : Selected q file from to) (n : ℕ) → bar_of (place_of x) ≡ None → bar_of (place_of y) ≡ Some n → ⊥
  straight_apart x y n e f = some_none n (sym f ∙ sym (ap bar_of (place x y)) ∙ e)

  one_name : (x : Selected p file from to) (y : Selected q file from to) → first_named name (taken_of (place_of x)) ≡ first_named name (taken_of (place_of y))
  one_name x y = ap (λ (c : Placed). first_named name (taken_of c)) (place x y)

  pub own : (r t : Refusal) → RefusesExtract p file from to name r → RefusesExtract q file from to name t → r ≡ t
  own r t (inl u) (inl v) = u.1 ∙ sym v.1
  own r t (inl u) (inr (inl v)) = absurd (u.0 (here v.0))
  own r t (inl u) (inr (inr v)) = absurd (u.0 (here v.0))
  own r t (inr (inl u)) (inl v) = absurd (v.0 (there u.0))
  own r t (inr (inl u)) (inr (inl v)) = u.3 ∙ ap (λ (n : ℕ). conditional (record { file = file; at = n })) (same_Some u.1 v.1 (sym u.2 ∙ ap bar_of (place u.0 v.0) ∙ v.2)) ∙ sym v.3
  own r t (inr (inl u)) (inr (inr v)) = absurd (barred_apart u.0 v.0 u.1 u.2 v.1)
  own r t (inr (inr u)) (inl v) = absurd (v.0 (there u.0))
  own r t (inr (inr u)) (inr (inl v)) = absurd (straight_apart u.0 v.0 v.1 u.1 v.2)
  own r t (inr (inr u)) (inr (inr v)) = u.4 ∙ ap (λ (k : LocalKey). clash (local_decl k)) (same_Some u.2 v.2 (sym u.3 ∙ one_name u.0 v.0 ∙ v.3)) ∙ sym v.4

  pub found_there : (r : Refusal) → RefusesExtract p file from to name r → Found q file from to name → ⊥
  found_there r (inl u) f = u.0 (here f.selected)
  found_there r (inr (inl u)) f = barred_apart u.0 f.selected u.1 u.2 f.free.straight
  found_there r (inr (inr u)) f = key_none u.2 (sym u.3 ∙ one_name u.0 f.selected ∙ f.free.free)

  pub found_here : (r : Refusal) → RefusesExtract q file from to name r → Found p file from to name → ⊥
  found_here r (inl u) f = u.0 (there f.selected)
  found_here r (inr (inl u)) f = straight_apart f.selected u.0 u.1 f.free.straight u.2
  found_here r (inr (inr u)) f = key_none u.2 (sym u.3 ∙ sym (one_name f.selected u.0) ∙ f.free.free)
