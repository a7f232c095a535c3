-- Where walks are: at the statement, and there with the new local in scope.
use Rattle.std.proofs.Common.{◌≡◌, ℕ, List, [], ◌∷◌, length, refl, sym, ap, subst, ◌∙◌}
use Rattle.std.specs.Prelude.{Result, Ok, Err, IfOk, OnOk}
use Rattle.std.proofs.lemmas.List.{length-map}
use Rattle.jr_text.specs.declared.spans.Span.{Span}
use Rattle.jr_ast.specs.declared.stmts.Stmt.{Stmt}
use Rattle.jr_ast.specs.Tree as tree
use Rattle.jr_ast.specs.StatementTree as statement
use Rattle.jr_ast.specs.View.{stmts_of}
use Rattle.jr_table.specs.Rows.{Row}
use Rattle.jr_table.specs.Entries.{IsRowOf}
use Rattle.jr_table.specs.Context.{Context}
use Rattle.jr_scopes.specs.Helds.{local_of}
use Rattle.jr_bind.specs.Programs.{Program}
use Rattle.jr_pieces.specs.Ways.{ListWay}
use Rattle.jr_pieces.specs.Standings.{Standing}
use Rattle.jr_pieces.specs.Nearest.{nearest}
use Rattle.jr_pieces.specs.Finding.{list_path}
use Rattle.jr_bodies.specs.Bodies.{begins}
use Rattle.jr_bodies.specs.MemberCode.{Code}
use Rattle.jr_new_words.specs.Mappings.{KeyMapping, renumbered, Renumbering, Mapping, HaveImages}
use Rattle.jr_new_words.specs.Scopes.{AreTables, Makes}
use Rattle.jr_new_words.specs.Scopes as scopes
use Rattle.jr_new_words.specs.declared.scopes.Scopes as raw_scopes
use Rattle.jr_new_bodies.specs.declared.here.Here as raw_here
use Rattle.jr_new_bodies.specs.Known.{rows_of, context_of, mapping_of, IsKnown}
use Rattle.jr_new_bodies.specs.Moves.{Goes}
use Rattle.jr_new_bodies.specs.SpotView.{spotting_of}
use Rattle.jr_local_parts.specs.declared.elements.ElementPlace.{ElementPlace}
use Rattle.jr_local_parts.specs.Descending.{standing}
use Rattle.jr_local_parts.specs.ElementPlaces.{IsAtElement, IsElementPlace}
use Rattle.jr_extract_lists.specs.declared.targets.Target as raw
use Rattle.jr_extract_lists.specs.declared.walks.StatementPlace.{StatementPlace}
use Rattle.jr_extract_lists.specs.Targets.{IsTarget}
use Rattle.jr_extract_lists.specs.Walked.{CanWalk, BeginsFor, IsMade, HasStatement, first_local, it, held, depth, IsPlaced, AtStatement}
use Rattle.jr_extract_lists.proofs.FoundTargets.{bound_is, from_is, entry_is}

-- how many locals are in scope
pub depth_is : (s : raw_scopes.Scopes) → length (scopes.locals_in s) ≡ length (scopes.context_of s).locals
unfolding scopes.context_of
depth_is s = sym (length-map (scopes.locals_in s) (local_of (scopes.member_of s)))

-- where what is known there is what was
pub stays_so : (h : raw_here.Here) → IsKnown h → (c : Context) → c ≡ context_of h → Goes h h c
stays_so h known c is = record { known = known; context = sym is; rows = refl; mapping = refl; bound = refl; from_is = refl; spots = refl }

-- what makes, where it is Ok
pub made_so : {T E : Type 0} (result : Result T E) (h : raw_here.Here) (s : raw_scopes.Scopes) (r : Renumbering) → OnOk result (scopes.IsKept s) → OnOk result (scopes.rows_of s ≡ rows_of h) → OnOk result (scopes.context_of s ≡ context_of h)
    → OnOk result (scopes.mapping_of s ≡ record { keys = (mapping_of h).keys; locals = renumbered r; new = (mapping_of h).new }) → IfOk result (λ u. IsMade h (record { scopes = s; bound = h.bound; from = h.from; spots = h.spots }) r)
made_so (Ok u) h s r kept rows context mapping = record { known = kept; context = context; rows = rows; mapping = mapping; bound = refl; from_is = refl; spots = refl }
made_so (Err e) h s r kept rows context mapping = tt

module _ (p : Program Span) (t : raw.Target) (x : IsTarget p t) where
  -- ---- the program

  pub tables_are : AreTables t.body.tables
  tables_are =
      subst (λ (k : KeyMapping). HaveImages k t.body.tables.before.now t.body.tables.after.now) (sym x.keys)
      (λ d j i. (j, subst (λ (rows : List Row). IsRowOf rows d j) (x.before ∙ sym x.after) i))

  -- ---- the statement

  pub list_is : stmts_of t.list.now ≡ statement.more (held x).stmt (held x).rest
  list_is = x.list ∙ x.found.selected.has.value.place.element (it x).body.at

  pub has_statement : HasStatement t
  has_statement = ((held x).stmt, (held x).rest, list_is)

  pub path_is : t.path.now.steps.items ≡ list_path x.chosen.code.front (it x).way
  path_is = x.path ∙ x.found.selected.has.value.place.path

  -- ---- the way down

  abbrev There : Code → (s : Standing) → (old new : raw_here.Here) → ElementPlace → Type 0
  There c s old new el = (f : tree.Exp Span) (way : ListWay f c.list) → t.path.now.steps.items ≡ list_path c.front way → IsAtElement (nearest begins s way) t.path.now.steps.items old new el

  begun : (old : raw_here.Here) (n : ℕ) (r : Renumbering) → BeginsFor r t old → n ≡ first_local t → standing (context_of old) n t.body.from ≡ (it x).body.at
  begun old n r b first =
      (λ i. record { next = first i; context = b.context i; base = t.body.from }) ∙ entry_is p t x

  at_element : (old new : raw_here.Here) (n : ℕ) (el : ElementPlace) (r : Renumbering) → BeginsFor r t old → n ≡ first_local t → IsElementPlace t.body t.path.now.steps.items n old new el → IsAtElement (held x) t.path.now.steps.items old new el
  at_element old new n el r b first h =
      subst (λ (s : Standing). IsAtElement (nearest begins s (it x).way) t.path.now.steps.items old new el) (begun old n r b first)
      (subst (λ (c : Code). There c (standing (context_of old) n t.body.from) old new el) x.code h (it x).value (it x).way path_is)

  pub placed : (old new : raw_here.Here) (n : ℕ) (el : ElementPlace) (count : ℕ) (r : Renumbering) → BeginsFor r t old → n ≡ first_local t → IsElementPlace t.body t.path.now.steps.items n old new el → count ≡ length (scopes.locals_in new.scopes)
      → IsPlaced x old new (record { element = el; depth = count })
  placed old new n el count r b first h deep =
      let e = at_element old new n el r b first h in
      record {
        goes = e.goes;
        place = record {
          element_is = record { next = e.next; base = e.base; front = e.front; path = e.path_is; steps = e.depth };
          scope = ap (λ (c : Context). length c.locals) (sym e.goes.context) ∙ sym (depth_is new.scopes) ∙ sym deep;
        };
      }

  -- ---- with the new local

  module _ (r : Renumbering) (q : Renumbering) (old mid : raw_here.Here) (at : StatementPlace) (b : BeginsFor q t old) (h : IsPlaced x old mid at) (firsts : q.firsts ≡ r.firsts) (next : q.next ≡ r.next) where
    pub makes_there : (n : ℕ) → n ≡ length (context_of mid).locals → r.depth ≡ depth x → Makes (mapping_of mid).locals r n
    makes_there n is deep =
        subst (λ (m : Mapping). Makes m.locals r n) (sym (h.goes.mapping ∙ b.mapping))
        (firsts, next, refl, deep ∙ sym (ap (λ (c : Context). length c.locals) h.goes.context) ∙ sym is)

    pub at_statement : (new : raw_here.Here) → IsMade mid new r → AtStatement x r new
    at_statement new m = record {
      known = m.known;
      context = m.context ∙ h.goes.context;
      rows = m.rows ∙ h.goes.rows ∙ b.rows ∙ x.before;
      mapping = m.mapping ∙ (λ i. record { keys = ((h.goes.mapping ∙ b.mapping) i).keys; locals = renumbered r; new = ((h.goes.mapping ∙ b.mapping) i).new }) ∙ (λ i. record { keys = x.keys i; locals = renumbered r; new = x.after i });
      bound = m.bound ∙ h.goes.bound ∙ b.bound ∙ bound_is p t x;
      from_is = m.from_is ∙ h.goes.from_is ∙ b.from_is ∙ from_is p t x;
      spots = ap spotting_of (m.spots ∙ h.goes.spots) ∙ b.spots;
    }

-- of some program
pub known_tables : (t : raw.Target) → CanWalk t → AreTables t.body.tables
known_tables t (p, (x, h)) = tables_are p t x

pub known_statement : (t : raw.Target) → CanWalk t → HasStatement t
known_statement t (p, (x, h)) = has_statement p t x

-- a list with a statement is not empty
empty : (l : List (Stmt Span)) → length l ≡ 0 → (s : statement.Stmt Span) (ss : statement.Stmts Span) → stmts_of l ≡ statement.more s ss → ⊥
empty [] none s ss e = cc
empty (x ∷ xs) none s ss e = cc

pub no_statement : (t : raw.Target) → length t.list.now ≡ 0 → HasStatement t → ⊥
no_statement t none (s, ss, e) = empty t.list.now none s ss e
