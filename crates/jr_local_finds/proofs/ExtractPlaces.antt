-- From the place of a selected expression to what extract local finds.
use Rattle.std.proofs.Common.{◌≡◌, inl, inr, ℕ, List, ◌++◌, length, Option, Some, None, refl, sym, ap, subst, ◌∙◌}
use Rattle.std.specs.Prelude.{slice_get, ◌<◌, codes}
use Rattle.std.proofs.lemmas.Option.{same_Some, slice_get_within}
use Rattle.jr_text.specs.declared.spans.Span.{Span}
use Rattle.jr_ast.specs.Tree as tree
use Rattle.jr_ast.specs.StatementTree as statement
use Rattle.jr_grammar.specs.Layout.{itself}
use Rattle.jr_table.specs.Decls.{MemberKey, LocalKey}
use Rattle.jr_table.specs.Context.{Context, scope_of, after}
use Rattle.jr_names.specs.Refusals.{bad_target}
use Rattle.jr_bind.specs.Bounds.{Bound}
use Rattle.jr_bind.specs.Programs.{Program, IsProgram}
use Rattle.jr_pieces.specs.Ways.{StmtWay, in_init, in_eval, in_condition, in_then, in_else, in_turning, in_body, in_returned, in_block, in_lock, in_locked, ListWay, first, later}
use Rattle.jr_pieces.specs.Standings.{Standing, inside, behind, in_other}
use Rattle.jr_pieces.specs.Nearest.{Element, or_element, element_within, nearest}
use Rattle.jr_pieces.specs.Declared.{declared_in_list, first_named}
use Rattle.jr_way_places.specs.PlacedWays.{TypedAreNoClasses}
use Rattle.jr_local_search.specs.Places.{ExtractPlace, barred, taken, open_for, ExtractsAt}
use Rattle.jr_bodies.specs.Bodies.{begins, entry}
use Rattle.jr_bodies.specs.BodyLaws.{BodiesHaveTypes}
use Rattle.jr_bodies.specs.CodedBodies.{body_with}
use Rattle.jr_bodies.specs.Selecting.{Selected, element, held_list, taken as names_taken}
use Rattle.jr_bodies.proofs.Coded.{key_of}
use Rattle.jr_bodies.proofs.Typed.{is_bound}
use Rattle.jr_local_finds.specs.Chosen.{Chosen, HasValue, LacksValues}
use Rattle.jr_local_finds.specs.Extracts.{Extracted, refused, there, IsSelected, selected_of, Extracts, at_place, IsAnswer}

-- ---- the nearest element is of the same member

after_member : (n : ℕ) (c : Context) (s : statement.Stmt Span) → (after n c s).member ≡ c.member
after_member n c (statement.local m is_final t w e) = refl
after_member n c (statement.eval m e) = refl
after_member n c (statement.branch m e x other) = refl
after_member n c (statement.loop m e x) = refl
after_member n c (statement.return m e) = refl
after_member n c (statement.block m b) = refl
after_member n c (statement.sync m e b) = refl
after_member n c (statement.empty m) = refl

module _ {f : tree.Exp Span} where
  mutual
    within_member : {s : statement.Stmt Span} (p : Standing) (d : StmtWay f s) (x : Element f) (k : MemberKey) → p.context.member ≡ k → x.at.context.member ≡ k → (or_element (element_within begins p d) x).at.context.member ≡ k
    within_member p (in_init m is_final t w e d) x k g h = h
    within_member p (in_eval m e d) x k g h = h
    within_member p (in_condition m c s o d) x k g h = h
    within_member p (in_then m c s o d) x k g h = within_member (inside begins m p) d x k g h
    within_member p (in_else m c s o d) x k g h = within_member (in_other begins m s p) d x k g h
    within_member p (in_turning m c s d) x k g h = h
    within_member p (in_body m c s d) x k g h = within_member (inside begins m p) d x k g h
    within_member p (in_returned m e d) x k g h = h
    within_member p (in_block m b d) x k g h = near_member (inside begins m p) d k g
    within_member p (in_lock m e b d) x k g h = h
    within_member p (in_locked m e b d) x k g h = near_member (inside begins m p) d k g

    near_member : {b : statement.Stmts Span} (p : Standing) (d : ListWay f b) (k : MemberKey) → p.context.member ≡ k → (nearest begins p d).at.context.member ≡ k
    near_member p (first s ss d) k g = within_member p d (record { at = p; stmt = s; rest = ss; way = d }) k g g
    near_member p (later s ss d) k g = near_member (behind begins s p) d k (after_member p.next p.context s ∙ g)

-- ---- what is selected

module _ (p : Program Span) (program : IsProgram itself (λ m b. Unit {0}) p) (types : BodiesHaveTypes) (file from to : ℕ) where
  abbrev span : Span
  span = record { from = from; to = to }

  none_selected : LacksValues p file span → Selected p file from to → ⊥
  none_selected lacks x = lacks x.body x.has x.value x.way x.type (record {
    span = x.span;
    used = x.used;
    typed = (types p program file x.body x.has x.value x.way x.type).1 x.typed;
    no_void = x.no_void;
    no_null = x.no_null;
    no_greatest = x.no_greatest;
  })

  -- 5
  pub refuses_lacking : (name : List ℕ) → LacksValues p file span → (e : Extracted) → e ≡ refused (bad_target (record { file = file; at = from }) (codes "Value")) → Extracts p file from to name e
  refuses_lacking name lacks e is = subst (Extracts p file from to name) (sym is) (inl (none_selected lacks, refl))

  abbrev pub is_selected : TypedAreNoClasses Span → (x : Chosen) → HasValue p file span x → IsSelected p file from to x
  is_selected law x h =
      let body = body_with h.key h.is_static h.base x.code h.bound in
      let typed = (types p program file body h.has x.value.found.value h.value.place.way x.value.type).0 h.value.suits.typed in
      record {
        has = h;
        no_class = λ k n. law p.rows program.are_rows (there p file from to h).context x.value.found.value x.value.type k typed n;
        typed = typed;
      }

-- ---- at its place

module _ (p : Program Span) (file from to : ℕ) (name : List ℕ) (x : Chosen) (s : IsSelected p file from to x) where
  abbrev key : MemberKey
  key = s.has.key

  abbrev chosen : Selected p file from to
  chosen = selected_of p file from to s

  -- of the member that holds it
  in_key : (element chosen).at.context.member ≡ key
  in_key = near_member (entry key s.has.is_static s.has.base x.code.params) s.has.value.place.way key refl

  names : (o : Option LocalKey) → first_named name ((scope_of (element chosen).at.context).locals ++ declared_in_list (element chosen).at.context.member (element chosen).at.next (held_list chosen)) ≡ o
      → first_named name (names_taken chosen) ≡ o
  names o e = sym (ap (λ k. first_named name ((scope_of (element chosen).at.context).locals ++ declared_in_list k (element chosen).at.next (held_list chosen))) in_key) ∙ e

  of_place : (r : ExtractPlace) → ExtractsAt name x.value.found (entry key s.has.is_static s.has.base x.code.params) s.has.value.place.way r → Extracts p file from to name (at_place file key x r)
  of_place (barred at) h = inr (inl (chosen, at, h (element chosen).at.base, refl))
  of_place (taken n) h = inr (inr (chosen, h.0 (element chosen).at.base, record { member = key; number = n }, names (Some (record { member = key; number = n })) (h.1 ∙ ap (λ k. Some (record { member = k; number = n })) in_key), refl))
  of_place (open_for n) h = record { selected = s; free = record { straight = h.0 (element chosen).at.base; free = names None h.1 }; next = h.2 }

  pub of_answer : (e : Extracted) → IsAnswer name file key x e → Extracts p file from to name e
  of_answer e h =
      let begin = entry key s.has.is_static s.has.base x.code.params in
      let place = s.has.value.place in
      let said = h.placed.is place.way begin place.path (place.element begin) (λ base. sym (place.own begin base)) (h.placed.known s.has.is_static s.has.base) in
      subst (Extracts p file from to name) (sym h.is) (of_place h.place said)

-- the written member is one that is bound
pub is_bound_there : (p : Program Span) (file from to : ℕ) (x : Chosen) → HasValue p file (record { from = from; to = to }) x → x.member < length p.bounds
is_bound_there p file from to x h = subst (λ n. n < length p.bounds) h.number (slice_get_within p.bounds h.has.number h.bound h.has.bound)

-- and has its key
pub has_key : (p : Program Span) → IsProgram itself (λ m b. Unit {0}) p → (file from to : ℕ) (x : Chosen) (h : HasValue p file (record { from = from; to = to }) x) → h.bound.member ≡ h.key
has_key p program file from to x h =
    let body = body_with h.key h.is_static h.base x.code h.bound in
    (is_bound p program file body h.has).member ∙ key_of h.has.member.key h.has.member.base h.has.member.part h.bound body h.has.is

pub same_bound : (p : Program Span) (file from to : ℕ) (x : Chosen) (h : HasValue p file (record { from = from; to = to }) x) → (b : Bound) → slice_get p.bounds x.member ≡ Some b → b ≡ h.bound
same_bound p file from to x h b e = same_Some b h.bound (sym e ∙ ap (slice_get p.bounds) (sym h.number) ∙ h.has.bound)
