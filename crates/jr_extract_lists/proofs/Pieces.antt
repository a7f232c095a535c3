-- The expression, as the initializer of the new local.
use Rattle.std.proofs.Common.{◌≡◌, ℕ, ◌+◌, List, sym, ap, subst, ◌∙◌, arith}
use Rattle.jr_text.specs.declared.spans.Span.{Span}
use Rattle.jr_ast.specs.Tree as tree
use Rattle.jr_ast.specs.StatementTree as statement
use Rattle.jr_ast.specs.View.{expr_of}
use Rattle.jr_grammar.specs.Layout.{itself}
use Rattle.jr_table.specs.Rows.{Row}
use Rattle.jr_table.specs.Binding.{value}
use Rattle.jr_table.specs.Context.{Context}
use Rattle.jr_bind.specs.Bounds.{Bound}
use Rattle.jr_bind.specs.Programs.{Program}
use Rattle.jr_rewrite.specs.Rewritten.{Rewritten}
use Rattle.jr_rewrite.specs.Spots.{nowhere}
use Rattle.jr_rewrite.specs.Rewrites.{TransformsExp}
use Rattle.jr_images.specs.Spelling.{choosing as chosen_by}
use Rattle.jr_new_words.specs.Mappings.{Renumbering, Mapping, region_of}
use Rattle.jr_new_bodies.specs.declared.here.Here as raw_here
use Rattle.jr_new_bodies.specs.Known.{rows_of, context_of, mapping_of, IsKnown, ExpReady}
use Rattle.jr_pieces.specs.Finding.{list_path}
use Rattle.jr_new_bodies.specs.Ready.{ExpReadyIn}
use Rattle.jr_new_bodies.specs.Moves.{Goes}
use Rattle.jr_new_bodies.specs.Effects.{Effect, no_effect, both, effect_of}
use Rattle.jr_new_bodies.specs.Spotting.{Spotting, no_spots, Unseen, spots_of}
use Rattle.jr_new_bodies.specs.SpotView.{spotting_of}
use Rattle.jr_new_bodies.specs.Walks.{ExpGathers}
use Rattle.jr_bodies.specs.Bodies.{begins}
use Rattle.jr_local.specs.Selecting.{at_value}
use Rattle.jr_local_ways.specs.Elements.{entered, ElementsHoldIt}
use Rattle.jr_local_ways.specs.Unbased.{SpansHaveNoBase}
use Rattle.jr_local_walks.specs.Mappings.{moved, initializing}
use Rattle.jr_local_walks.specs.Walked.{number, ExtractIsWalked}
use Rattle.jr_local_premises.specs.SelectedPremises.{SelectedAreReady}
use Rattle.jr_extract_lists.specs.declared.targets.Target as raw
use Rattle.jr_extract_lists.specs.Targets.{IsTarget}
use Rattle.jr_extract_lists.specs.Walked.{it, held, depth, in_initializer, AtStatement, IsMoved}
use Rattle.jr_extract_lists.proofs.Places.{path_is}

abbrev pub Anywhere : Span → ℕ → Type 0
Anywhere m n = Unit {0}

zero_plus : (n : ℕ) → 0 + n ≡ n
zero_plus n = omega arith

pub none_both : (e : Effect) → both no_effect e ≡ e
none_both e = λ i. record { changes = e.changes; respelled = zero_plus e.respelled i; losses = e.losses }

-- what a walk knows of a place
pub record Where : Type 0 where
  pub rows : List Row
  pub bound : Bound
  pub from : ℕ
  pub context : Context

abbrev pub where_of : raw_here.Here → Where
where_of h = record { rows = rows_of h; bound = h.bound.now; from = h.from; context = context_of h }

-- what is chosen there
pub record Chooses : Type 0 where
  pub rows : List Row
  pub mapping : Mapping
  pub spots : Spotting
  pub context : Context

abbrev pub chooses_of : raw_here.Here → Chooses
chooses_of h = record { rows = rows_of h; mapping = mapping_of h; spots = spotting_of h.spots; context = context_of h }

module _ (p : Program Span) (t : raw.Target) (x : IsTarget p t) where
  abbrev pub unseen : Unseen Span
  unseen = record { super_at = λ c. p.super_at c.member; part = λ at least. (it x).value }

  -- a place at the expression
  pub record AtPiece (h : raw_here.Here) : Type 0 where
    pub known : IsKnown h
    pub context : context_of h ≡ (at_value (it x)).context
    pub rows : rows_of h ≡ p.rows
    pub mapping : mapping_of h ≡ moved p.rows (in_initializer x)
    pub bound : h.bound.now ≡ (it x).body.bound
    pub from_is : h.from ≡ (it x).body.at.base
    pub spots : spotting_of h.spots ≡ no_spots

  pub at_piece : ElementsHoldIt Span → (h new : raw_here.Here) (n : ℕ) (s : statement.Stmt Span) → AtStatement x (in_initializer x) h → n ≡ (held x).at.next → s ≡ (held x).stmt → Goes h new (entered n s (context_of h)) → AtPiece new
  at_piece holds h new n s a first same g =
      let straight = (holds begins (it x).body.at (it x).body.list (it x).value (it x).way).straight x.found.free.straight in
      record {
        known = g.known;
        context = g.context ∙ (λ i. entered (first i) (same i) (a.context i)) ∙ sym straight;
        rows = g.rows ∙ a.rows;
        mapping = g.mapping ∙ a.mapping;
        bound = g.bound ∙ a.bound;
        from_is = g.from_is ∙ a.from_is;
        spots = ap spotting_of g.spots ∙ a.spots;
      }

  module _ (h : raw_here.Here) (a : AtPiece h) (base : ℕ) where
    where_is : where_of h ≡ record { rows = p.rows; bound = (it x).body.bound; from = (it x).body.at.base; context = (at_value (it x)).context }
    where_is = λ i. record { rows = a.rows i; bound = a.bound i; from = a.from_is i; context = a.context i }

    pub piece_ready : SelectedAreReady → ExpReady itself Anywhere h value t.path.now.steps.items base (expr_of t.value.now)
    piece_ready ready =
        subst (λ (e : tree.Exp Span). ExpReadyIn itself Anywhere (rows_of h) h.bound.now h.from (context_of h) value t.path.now.steps.items base e) (sym x.value)
        (subst (λ (q : List ℕ). ExpReadyIn itself Anywhere (rows_of h) h.bound.now h.from (context_of h) value q base (it x).value) (sym (path_is p t x))
        (subst (λ (w : Where). ExpReadyIn itself Anywhere w.rows w.bound w.from w.context value (list_path x.chosen.code.front (it x).way) base (it x).value) (sym where_is) ((ready p x.program t.request.file t.request.from t.request.to t.request.name.now (it x)).piece base)))

    chooses_is : chooses_of h ≡ record { rows = p.rows; mapping = moved p.rows (in_initializer x); spots = no_spots; context = (at_value (it x)).context }
    chooses_is = λ i. record { rows = a.rows i; mapping = a.mapping i; spots = a.spots i; context = a.context i }

    numbers_are : in_initializer x ≡ initializing (number p t.request.file t.request.from t.request.to t.request.name.now (it x)) t.request.name.now (it x).type (depth x)
    numbers_are = λ i. initializing (sym x.found.next i) t.request.name.now (x.type i) (depth x)

    abbrev Becomes : Chooses → tree.Exp Span → Rewritten (tree.Exp Span) → Type 0
    Becomes w e o = TransformsExp itself (chosen_by begins w.rows (region_of w.rows w.mapping) unseen.super_at) (spots_of itself unseen w.spots) w.context value base e o

    pub piece_moves : SelectedAreReady → ExtractIsWalked → SpansHaveNoBase → (e : Effect) → ExpGathers itself h value base (expr_of t.value.now) no_effect e → IsMoved x e
    piece_moves ready walked unbased e gathers =
        let g = gathers unseen in
        let of = ready p x.program t.request.file t.request.from t.request.to t.request.name.now (it x) in
        let at : Becomes (record { rows = p.rows; mapping = moved p.rows (in_initializer x); spots = no_spots; context = (at_value (it x)).context }) (it x).value g.0 =
        subst (λ (w : Chooses). Becomes w (it x).value g.0) chooses_is (subst (λ (f : tree.Exp Span). Becomes (chooses_of h) f g.0) x.value g.1) in
        let there = unbased p.rows (moved p.rows (in_initializer x)) unseen.super_at (at_value (it x)).context value base (at_value (it x)).base (it x).value g.0 at in
        let so = subst (λ (r : Renumbering). TransformsExp itself (chosen_by begins p.rows (region_of p.rows (moved p.rows r)) unseen.super_at) nowhere (at_value (it x)).context value (at_value (it x)).base (it x).value g.0) numbers_are there in
        (g.0, (walked p t.request.file t.request.from t.request.to t.request.name.now (it x)).0 (depth x) unseen.super_at g.0 of.typed (of.inside x.found.free.straight) so, g.2 ∙ none_both (effect_of g.0))
