-- The list from the statement on: the declaration, the statement, and those behind it.
use Rattle.std.proofs.Common.{◌≡◌, ◌≢◌, ℕ, ◌+◌, List, ◌∷◌, ◌++◌, map, Option, refl, sym, ap, subst, ◌∙◌, arith}
use Rattle.jr_text.specs.declared.spans.Span.{Span}
use Rattle.jr_ast.specs.Tree as tree
use Rattle.jr_ast.specs.StatementTree as statement
use Rattle.jr_ast.specs.Marks.{exp_mark, stmt_mark}
use Rattle.jr_table.specs.Keys.{Ty, int, boolean, void, null, class}
use Rattle.jr_table.specs.TypeView.{ty_of}
use Rattle.jr_table.specs.Rows.{Row}
use Rattle.jr_table.specs.Context.{Context}
use Rattle.jr_bind.specs.Programs.{Program}
use Rattle.jr_rewrite.specs.Respellings.{Change}
use Rattle.jr_rewrite.specs.Rewritten.{Rewritten, change}
use Rattle.jr_rewrite.specs.ChangeView.{change_of}
use Rattle.jr_rewrite.specs.Woven.{with_changes}
use Rattle.jr_rewrite.specs.declared.changes.Change as raw_change
use Rattle.jr_layout.specs.Layouts.{IsGap}
use Rattle.std.specs.Prelude.{option_to_list}
use Rattle.jr_new_words.specs.declared.choices.Lost as raw_lost
use Rattle.jr_new_words.specs.ChoiceView.{lost_of}
use Rattle.jr_new_words.specs.Mappings.{Renumbering, Mapping}
use Rattle.jr_new_bodies.specs.declared.here.Here as raw_here
use Rattle.jr_new_bodies.specs.declared.outputs.Output as raw_output
use Rattle.jr_new_bodies.specs.Known.{rows_of, context_of, mapping_of}
use Rattle.jr_new_bodies.specs.Effects.{Effect, both, effect_of}
use Rattle.jr_new_bodies.specs.OutputView.{gathered}
use Rattle.jr_local.specs.Extracted as extracted
use Rattle.jr_local_walks.specs.Mappings.{moved, behind}
use Rattle.jr_local_walks.specs.Walked.{number}
use Rattle.jr_local_premises.specs.SelectedPremises.{SelectedAreReady}
use Rattle.jr_local_premises.specs.TypePremises.{TypesAreWritten}
use Rattle.jr_extract_lists.specs.declared.targets.Target as raw
use Rattle.jr_extract_lists.specs.declared.written_types.WrittenType as raw_type
use Rattle.jr_extract_lists.specs.Targets.{IsTarget}
use Rattle.jr_extract_lists.specs.WrittenTypes.{CanBeWritten, Tells, WritesBy, IsWritten}
use Rattle.jr_extract_lists.specs.Texts.{IsDeclared}
use Rattle.jr_extract_lists.specs.Walked.{it, held, depth, from_there, put_in_front, AtStatement, IsMoved, IsListed, Listed}

-- ---- the type

can_be : (u : Ty) → u ≢ void → u ≢ null → CanBeWritten u
can_be int a b = tt
can_be boolean a b = tt
can_be void a b = a refl
can_be null a b = b refl
can_be (class k) a b = tt

module _ (p : Program Span) (t : raw.Target) (x : IsTarget p t) where
  abbrev name : List ℕ
  name = t.request.name.now

  abbrev file : ℕ
  file = t.request.file

  pub type_can_be : CanBeWritten (ty_of t.ty.now)
  type_can_be = subst CanBeWritten (sym x.type) (can_be (it x).type (it x).no_void (it x).no_null)

  -- where it is written, by its mapping
  record By : Type 0 where
    rows : List Row
    mapping : Mapping
    context : Context

  module _ (ready : SelectedAreReady) (walked : TypesAreWritten) where
    numbers_are : from_there x ≡ behind (number p file t.request.from t.request.to name (it x)) name (it x).type (depth x)
    numbers_are = λ i. behind (sym x.found.next i) name (x.type i) (depth x)

    leads : (m : Span) (u : Ty) (o : Rewritten (tree.TypeName Span)) → WritesBy p.rows (moved p.rows (behind (number p file t.request.from t.request.to name (it x)) name (it x).type (depth x))) (held x).at.context t.request.from m u o
        → extracted.WritesType p.rows (extracted.from_there p file t.request.from t.request.to name (it x)) (held x).at.context t.request.from m u o
    leads m int o w = w
    leads m boolean o w = w
    leads m void o w = w
    leads m null o w = w
    leads m (class k) o (h, makes, is) =
        let of = ready p x.program file t.request.from t.request.to name (it x) in
        (h, walked p file t.request.from t.request.to name (it x) (depth x) k t.request.from h of.typed of.ordered makes, is)

    pub writes : (h : raw_here.Here) → AtStatement x (from_there x) h → (w : raw_type.WrittenType) → IsWritten (rows_of h) (mapping_of h) (context_of h) t.request.from (ty_of t.ty.now) w
        → (o : Rewritten (tree.TypeName Span)) × extracted.Writes p file t.request.from t.request.to name (it x) o × Tells o w
    writes h a w is =
        let g = is (stmt_mark (held x).stmt) in
        let here : By = record { rows = rows_of h; mapping = mapping_of h; context = context_of h } in
        let there : By = record { rows = p.rows; mapping = moved p.rows (from_there x); context = (held x).at.context } in
        let same : here ≡ there = λ i. record { rows = a.rows i; mapping = a.mapping i; context = a.context i } in
        let one = subst (λ (b : By). WritesBy b.rows b.mapping b.context t.request.from (stmt_mark (held x).stmt) (ty_of t.ty.now) g.0) same g.1 in
        let two = subst (λ (r : Renumbering). WritesBy p.rows (moved p.rows r) (held x).at.context t.request.from (stmt_mark (held x).stmt) (ty_of t.ty.now) g.0) numbers_are one in
        let three = subst (λ (u : Ty). WritesBy p.rows (moved p.rows (behind (number p file t.request.from t.request.to name (it x)) name (it x).type (depth x))) (held x).at.context t.request.from (stmt_mark (held x).stmt) u g.0) x.type two in
        (g.0, leads (stmt_mark (held x).stmt) (it x).type g.0 three, g.2)

  -- ---- all of it

  module _ (piece_effect : Effect) (moved_so : IsMoved x piece_effect) (w : raw_type.WrittenType) (type : Rewritten (tree.TypeName Span)) (writes_it : extracted.Writes p file t.request.from t.request.to name (it x) type) (tells : Tells type w) (put : raw_change.Change)
      (at : ℕ) (at_is : at ≡ (stmt_mark (held x).stmt).from) (mark_is : t.value.now.mark ≡ exp_mark (it x).value) (cs : List Change) (cs_are : cs ≡ piece_effect.changes) (declared : IsDeclared t at w cs put) (old new : Effect) (begun : old ≡ put_in_front (change_of put) w.respelled piece_effect)
      (listed : IsListed x old new) where
    abbrev piece : Rewritten (tree.Exp Span)
    piece = moved_so.0

    abbrev whole : Rewritten (statement.Stmts Span)
    whole = record {
      tree = statement.more (extracted.declaration name (stmt_mark (held x).stmt) type.tree piece.tree) (statement.more listed.first.tree listed.rest.tree);
      changes = extracted.put_declaration name (stmt_mark (held x).stmt) type.tree (with_changes t.text.now (exp_mark (it x).value) piece.changes) declared.gap ∷ (listed.first.changes ++ listed.rest.changes);
      respelled = type.respelled + (piece.respelled + (listed.first.respelled + listed.rest.respelled));
      losses = piece.losses ++ (listed.first.losses ++ listed.rest.losses);
    }

    put_is : change_of put ≡ extracted.put_declaration name (stmt_mark (held x).stmt) type.tree (with_changes t.text.now (exp_mark (it x).value) piece.changes) declared.gap
    put_is =
        declared.is
        ∙ (λ i. change (record { from = at_is i; to = at_is i })
        (extracted.declaration_text name (tells.text i) (with_changes t.text.now (mark_is i) ((cs_are ∙ ap (λ (e : Effect). e.changes) moved_so.2) i)) declared.gap))

    effect_is : new ≡ effect_of whole
    effect_is =
        let counted : w.respelled ≡ type.respelled = tells.respelled in
        let more : piece_effect.respelled ≡ piece.respelled = ap (λ (e : Effect). e.respelled) moved_so.2 in
        let count : (w.respelled + piece_effect.respelled) + (listed.first.respelled + listed.rest.respelled) ≡ type.respelled + (piece.respelled + (listed.first.respelled + listed.rest.respelled)) = omega (arith, counted, more) in
        listed.is
        ∙ ap (λ (e : Effect). both e (both (effect_of listed.first) (effect_of listed.rest))) begun
        ∙ (λ i. record { changes = put_is i ∷ (listed.first.changes ++ listed.rest.changes); respelled = count i; losses = (moved_so.2 i).losses ++ (listed.first.losses ++ listed.rest.losses) })

    pub all_listed : (out : raw_output.Output) (lost : Option raw_lost.Lost) → option_to_list lost ≡ w.losses.items → gathered out ≡ new → Listed x piece_effect (record { out = out; lost = lost })
    all_listed out lost one is = record {
      type = type;
      o = whole;
      becomes = record {
        writes = writes_it;
        puts = record {
          piece = piece;
          gap = declared.gap;
          first = listed.first;
          rest = listed.rest;
          moves = moved_so.1;
          is_gap = subst (λ (k : ℕ). IsGap t.text.now k declared.gap) at_is declared.is_gap;
          first_is = listed.first_is;
          rest_is = listed.rest_is;
          tree_is = refl;
          changes_are = refl;
          respelled_is = refl;
          losses_are = refl;
        };
      };
      piece_is = sym moved_so.2;
      out = is ∙ effect_is;
      lost = ap (map lost_of) one ∙ tells.losses;
    }
