-- `int x=f; g(x); { x=f; h=x; } k();`, where the block's statements become a call: behind it x doesn't agree, in front of it x is read. No set of
-- locals agrees throughout, but the old code goes between sets as the image asks for.
use Rattle.std.proofs.Common.{◌≡◌, ℕ, List, [], false, None, refl, inl, not}
use Rattle.std.specs.Prelude.{IsTrue, nat_eq}
use Rattle.jr_runs.specs.Core as core
use Rattle.jr_runs.specs.Rows as core_rows
use Rattle.jr_runs.specs.KeyMaps.{KeyMap}
use Rattle.jr_runs.specs.Sets.{NumberSet, everything}
use Rattle.jr_runs.specs.Standing.{Standing, whole}
use Rattle.jr_runs.specs.Images.{AllSpots, NoExp, StmtsImage, to_spot, BlockTo}
use Rattle.jr_runs.proofs.Locals.{within_one}
use Rattle.jr_table.specs.Keys.{FieldKey, MethodKey}
use Rattle.jr_code.specs.RunKeys.{RunKeys}
use Rattle.jr_code.specs.CodedStatements.{StatementCode, ListCode}
use Rattle.jr_image_code.specs.CodeRelations.{AreExpsRelated, AreStmtsRelated}
use Rattle.jr_image_code.specs.FlowImages.{FlowExp, FlowTarget, FlowExps, Bounds, FlowStmt, FlowList, flowing}
use Rattle.jr_image_code.proofs.Flowing.{exps_flow, stmts_flow}

abbrev none_of : List ℕ
none_of = []

module _ (f h : FieldKey) (g k made : MethodKey) (r : KeyMap RunKeys) (R : core_rows.Rows RunKeys) (has : (n : MethodKey) → IsTrue (R.has_method n)) where
  abbrev read_x : core.Exp RunKeys
  read_x = core.read None (core.local None 0)

  abbrev write_x : StatementCode
  write_x = core.eval None (core.assign None (core.local None 0) (core.read None (core.static_field None f)))

  abbrev write_h : StatementCode
  write_h = core.eval None (core.assign None (core.static_field None h) read_x)

  abbrev tail : ListCode
  tail = core.Stmts.more write_h core.Stmts.end

  abbrev piece : ListCode
  piece = core.Stmts.more write_x tail

  abbrev last_call : (core.Exps RunKeys → core.Exp RunKeys) → ListCode
  last_call call = core.Stmts.more (core.eval None (call core.Exps.end)) core.Stmts.end

  abbrev body : (name : MethodKey → MethodKey) (field : FieldKey → FieldKey) (inner : ListCode) → ListCode
  body name field inner = core.Stmts.more (core.declare None 0 (core.read None (core.static_field None (field f))))
      (core.Stmts.more (core.eval None (core.static_call None (name g) (core.Exps.more read_x core.Exps.end)))
      (core.Stmts.more (core.block None none_of inner)
      (core.Stmts.more (core.eval None (core.static_call None (name k) core.Exps.end)) core.Stmts.end)))

  abbrev old : ListCode
  old = body (λ n. n) (λ n. n) piece

  abbrev call : ListCode
  call = core.Stmts.more (core.eval None (core.static_call None made core.Exps.end)) core.Stmts.end

  abbrev new : ListCode
  new = body r.method r.field call

  -- behind the piece x needn't agree
  abbrev May : Bounds
  May A u B = u ≡ piece → B 0 ≡ false

  abbrev but_x : NumberSet
  but_x i = not (nat_eq 0 i)

  abbrev Spot : AllSpots RunKeys
  Spot = record { exps = λ s. NoExp; lists = λ s A u v B. (u ≡ piece) × (v ≡ call) × (B 0 ≡ false) }

  abbrev stand : Standing RunKeys
  stand = whole 1 (λ n. n)

  piece_flows : FlowList May everything piece but_x
  unfolding FlowExp FlowTarget FlowExps FlowStmt FlowList
  piece_flows = (
    (λ e. refl),
    (
      everything,
      (everything, everything, refl, (refl, tt), (λ i a. within_one everything 0 i a)),
      ((λ e. refl), (but_x, (everything, everything, refl, (refl, refl), (λ i a. refl)), ((λ e. refl), refl))),
    ),
  )

  -- the old code goes from a place at which all agree to one at which all but x do
  old_flows : FlowList May everything old but_x
  unfolding FlowExp FlowTarget FlowExps FlowStmt FlowList
  old_flows = (
    (λ e. refl),
    (
      everything,
      (everything, (refl, tt), (λ i a. within_one everything 0 i a)),
      (
        (λ e. refl),
        (
          everything,
          (everything, (refl, refl), refl),
          ((λ e. refl), (but_x, (everything, (λ i a. a), piece_flows), ((λ e. refl), (but_x, refl, ((λ e. refl), refl))))),
        ),
      ),
    ),
  )

  block_to : BlockTo {K = RunKeys} stand none_of none_of
  block_to = record { all = λ i a b. b; only = λ i a b. b; others = λ j a b. a; known = λ i a b. a }

  E : AreExpsRelated r R (flowing r R Spot stand May)
  E = exps_flow r R Spot stand May

  T : AreStmtsRelated r R (flowing r R Spot stand May)
  T = stmts_flow r R Spot stand May

  -- the piece and its call are related, and so is the whole
  piece_to : (A B : NumberSet) → FlowList May A piece B → StmtsImage r R Spot stand A piece call B
  unfolding FlowStmt FlowList
  piece_to A B flow = to_spot A B piece call (refl, refl, flow.0 refl)

  old_to : StmtsImage r R Spot stand everything old new but_x
  old_to = T.of_more_stmts _ _ _ _ (T.of_declare None None 0 _ _ (inl refl) (λ a. a) (E.of_read None None _ _ (E.of_static_field None None f)))
      (T.of_more_stmts _ _ _ _ (T.of_eval None None _ _ (E.of_static_call None None g _ _ (has g) (E.of_more_exps _ _ _ _ (E.of_read None None _ _ (E.of_local None None 0 (inl refl))) E.of_no_exps)))
      (T.of_more_stmts _ _ _ _ (T.of_block None None none_of none_of piece call block_to piece_to)
      (T.of_more_stmts _ _ _ _ (T.of_eval None None _ _ (E.of_static_call None None k _ _ (has k) E.of_no_exps)) T.of_no_stmts))) everything but_x old_flows
