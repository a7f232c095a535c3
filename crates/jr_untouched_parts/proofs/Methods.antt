-- Inline method leaves all but the list of the call's statement.
use Rattle.std.proofs.Common.{◌≡◌, ◌≢◌, ℕ, Bool, Some, None, refl, sym, ap, subst, ◌∙◌, inr}
use Rattle.std.specs.Prelude.{nat_eq, Option}
use Rattle.std.proofs.lemmas.Bool.{eq-eqb}
use Rattle.jr_text.specs.declared.spans.Span.{Span}
use Rattle.jr_ast.specs.Tree as tree
use Rattle.jr_ast.specs.StatementTree as statement
use Rattle.jr_grammar.specs.Layout.{itself}
use Rattle.jr_table.specs.Context.{Context, scope_of}
use Rattle.jr_bind.specs.Programs.{Program}
use Rattle.jr_rewrite.specs.Rewritten.{Rewritten}
use Rattle.jr_rewrite.specs.Spots.{Spotted, nowhere, spotted}
use Rattle.jr_rewrite.specs.Rewrites.{TransformsList}
use Rattle.jr_plan.specs.Transforms.{Transform, choosing_of}
use Rattle.jr_pieces.specs.Ways.{StmtWay, in_init, in_eval, in_returned, in_value, here}
use Rattle.jr_pieces.specs.Standings.{Standing}
use Rattle.jr_pieces.specs.Nearest.{Element, element_within}
use Rattle.jr_local.specs.Scopes.{kept_locals}
use Rattle.jr_bodies.specs.Bodies.{begins}
use Rattle.jr_inline_method.specs.Calling.{Call, call_tree, Form, alone, initial, assigned, returned, form_statement, FoundCall}
use Rattle.jr_inline_method.specs.Regions.{callers, behind_all}
use Rattle.jr_inline_method.specs.Inlining as inlining
use Rattle.jr_inline_method.specs.InlineMethod.{Found, inline_method}
use Rattle.jr_untouched_parts.specs.Sights.{SeesTheSame}
use Rattle.jr_untouched_parts.specs.Around.{Place, element, held, IsThere, OneSpot, NoSpot, LeavesRest, ListBecomes}
use Rattle.jr_untouched_parts.specs.Methods.{called_list, BecomesBlock, InlineMethodsAreWhole}
use Rattle.jr_untouched_parts.proofs.HeldWays.{way_of, at_held, nearest_of}
use Rattle.jr_untouched_parts.proofs.LocalSights.{scope_kept, finds_kept, none_kept}
use Rattle.jr_untouched_parts.proofs.Locals.{other_number, no_spot}
use Rattle.jr_untouched_parts.proofs.WholeProgram.{Laws, list_is_whole}

-- from the statement straight to the call
abbrev statement_way : (f : Form) (c : Call) → StmtWay (call_tree c) (form_statement f c)
statement_way (alone m) c = in_eval m (call_tree c) here
statement_way (initial m i t w) c = in_init m i t w (call_tree c) here
statement_way (assigned m n v w) c = in_eval m (tree.assign n (tree.name v w) (call_tree c)) (in_value n (tree.name v w) (call_tree c) here)
statement_way (returned m) c = in_returned m (call_tree c) here

straight_there : (f : Form) (c : Call) (p : Standing) → element_within begins p (statement_way f c) ≡ None
straight_there (alone m) c p = refl
straight_there (initial m i t w) c p = refl
straight_there (assigned m n v w) c p = refl
straight_there (returned m) c p = refl

module _ (p : Program Span) (file at : ℕ) (f : Found p file at) where
  abbrev x : FoundCall p file at
  x = inlining.call p file at f.call

  abbrev w : StmtWay (call_tree x.call) (form_statement x.form x.call)
  w = statement_way x.form x.call

  abbrev call_at : Place p file
  call_at = record { body = x.body; has = x.has; value = call_tree x.call; way = way_of (form_statement x.form x.call) x.rest w x.holds }

  abbrev there : Element (call_tree x.call)
  there = at_held (form_statement x.form x.call) x.rest w begins (straight_there x.form x.call) (inlining.stands p file at f.call)

  is_there : element call_at ≡ there
  is_there = nearest_of (form_statement x.form x.call) x.rest w begins (straight_there x.form x.call) x.body.at x.holds

  abbrev inlines : Transform
  inlines = (inline_method p file at).transform f

  abbrev block_spot : Spotted Span
  block_spot = spotted (inlining.list_spot p file at f.call f.carried.parts f.carried.text f.carried.body_text f.carried.gap)

  spot_there : inlines.spots file ≡ block_spot
  spot_there = ap (λ (b : Bool). inlining.spots_if p file at f.call f.carried.parts f.carried.text f.carried.body_text f.carried.gap b) (eq-eqb file file refl)

  spot_elsewhere : (n : ℕ) → n ≢ file → inlines.spots n ≡ nowhere
  spot_elsewhere n apart = ap (λ (b : Bool). inlining.spots_if p file at f.call f.carried.parts f.carried.text f.carried.body_text f.carried.gap b) (other_number n file apart)

  held_there : (n : ℕ) (c : Context) (xs : statement.Stmts Span) → inlining.IsHeld p file at f.call f.carried.parts f.carried.text f.carried.body_text f.carried.gap n c xs → IsThere call_at n c xs
  held_there n c xs h = record {
    next = h.0 ∙ ap (λ (e : Element (call_tree x.call)). e.at.next) (sym is_there);
    context = h.1 ∙ ap (λ (e : Element (call_tree x.call)). e.at.context) (sym is_there);
    list = h.2 ∙ ap (λ (e : Element (call_tree x.call)). held e) (sym is_there);
  }

  sees : (c : Context) → SeesTheSame (inlining.of_around p file at f.call) c
  sees c =
      let to = callers p (inlining.old p file at f.call) (inlining.first p file at f.call) (inlining.count p file at f.call) (inlining.key p file at f.call) f.call.declared.params (inlining.stands p file at f.call).context in
      let all = scope_kept to c.locals (λ i l at_l. (behind_all (inlining.old p file at f.call) (inlining.first p file at f.call) (inlining.count p file at f.call) l.key, refl)) in
      record {
        locals = kept_locals to (scope_of c).locals;
        scope = refl;
        found = finds_kept to (scope_of c).locals all;
        none = none_kept to (scope_of c).locals all;
        type = λ e t. refl;
        types = λ es ts. refl;
      }

  leaves : LeavesRest inlines call_at
  leaves = record {
    keys = refl;
    sees = λ c around. sees c;
    spot = subst (λ (S : Spotted Span). OneSpot call_at S) (sym spot_there) (record {
      part = λ k c r base e. tt;
      list = λ n c base xs apart h. apart (held_there n c xs h);
      members = λ base of xs. tt;
      whole = λ base outer d. tt;
      this = tt;
    });
    others = λ n apart. subst (λ (S : Spotted Span). NoSpot S) (sym (spot_elsewhere n apart)) no_spot;
  }

  becomes : (o : Rewritten (statement.Stmts Span)) → BecomesBlock p file at f o → ListBecomes inlines call_at o
  becomes o block =
      subst (λ (S : Spotted Span). TransformsList itself (choosing_of p inlines) S (element call_at).at.next (element call_at).at.context (element call_at).at.base (held (element call_at)) o) (sym spot_there)
      (subst (λ (e : Element (call_tree x.call)). TransformsList itself (choosing_of p inlines) block_spot e.at.next e.at.context e.at.base (held e) o) (sym is_there) (inr block))

pub inline_methods_are_whole : Laws → InlineMethodsAreWhole
inline_methods_are_whole laws p program file at f o block =
    list_is_whole laws p program (inlines p file at f) file (call_at p file at f) (leaves p file at f) o (becomes p file at f o block) _ refl
