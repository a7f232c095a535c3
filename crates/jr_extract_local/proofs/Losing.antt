-- From what calls answer of the expression and of its statement to the pair that is lost. Calls are asked over what
-- binding knows of the member of the number, and over a table of the program's rows: both are those of the body
-- (`given_is`), so their clauses are those of `jr_local_crossings: specs/Calls`.
use Rattle.std.proofs.Common.{◌≡◌, ℕ, suc, ◌+◌, Bool, List, [], ◌∷◌, ◌++◌, length, take, Option, Some, refl, sym, ap, subst, ◌∙◌, arith}
use Rattle.jr_text.specs.declared.spans.Span.{Span}
use Rattle.jr_ast.specs.Tree as tree
use Rattle.jr_ast.specs.StatementTree as statement
use Rattle.jr_ast.specs.View.{member_of}
use Rattle.jr_ast.specs.Nodes.{Node, node_at, exp_at, stmt_at}
use Rattle.jr_grammar.specs.Layout.{itself}
use Rattle.jr_expr_types.specs.Slots.{find_type}
use Rattle.jr_table.specs.Rows.{Row}
use Rattle.jr_table.specs.Decls.{MemberKey}
use Rattle.jr_members.specs.WrittenLaws.{MembersAreWritten}
use Rattle.jr_bind.specs.Bounds.{Bound, decl_in}
use Rattle.jr_bind.specs.Programs.{Program}
use Rattle.jr_cover.specs.Spots.{Spot}
use Rattle.jr_expr_sites.specs.KnownFacts.{Given, Others, known_of}
use Rattle.jr_cfg.specs.MemberRoutes.{NumbersMember, known}
use Rattle.jr_cfg.proofs.NumberAt.{has_others}
use Rattle.jr_member_graphs.specs.OwnFlags.{own_flags}
use Rattle.jr_names.specs.Sites.{DepPair}
use Rattle.jr_pieces.specs.Ways.{StmtWay}
use Rattle.jr_pieces.specs.Finding.{stmt_path, list_path}
use Rattle.jr_pieces.specs.Before.{stmt_before}
use Rattle.jr_sites.specs.declared.sites.PlacedSite as raw_site
use Rattle.jr_piece_sites.specs.Footprints.{IsFootprint}
use Rattle.jr_piece_sites.specs.Leads.{AreParts, of_exp, of_stmts}
use Rattle.jr_local_texts.proofs.ShapedBodies.{list_shaped}
use Rattle.jr_local_footprints.specs.Givens.{FlagsTell, given_of}
use Rattle.jr_local_footprints.specs.LostPairs.{IsLostPair}
use Rattle.jr_local_footprints.specs.NullTests.{OwnFlagsTell}
use Rattle.jr_local_crossings.specs.Calls.{AnswersExp, AnswersStmts, AnswersFront, ExtractsLose, member_node}
use Rattle.jr_extract_lists.specs.declared.targets.Target as raw
use Rattle.jr_extract_lists.specs.declared.walks.StatementPlace as raw_place
use Rattle.jr_extract_lists.specs.Targets.{IsTarget}
use Rattle.jr_extract_lists.specs.Walked.{it, held, IsPlaceOf}
use Rattle.jr_extract_local.specs.Moves.{AreInFront, IsLost}
use Rattle.jr_extract_local.proofs.Leading.{body, m, bound_is, key_is, part_is, is_member, from_is, path_is, stands}

module _ (p : Program Span) (t : raw.Target) (x : IsTarget p t) where
  -- what a call is given, by its table and what is bound
  abbrev pub asked : List Row → List Bool → Given
  asked rows flags = let b : Bound = t.body.bound.now in known itself rows b.member (λ at. decl_in b.references at) (λ path. find_type b.types path) flags 0 (m p t x)

  abbrev by_body : List Bool → Given
  by_body flags = given_of p (body p t x) flags 0 (m p t x)

  pub given_is : (rows : List Row) (flags : List Bool) → p.rows ≡ rows → asked rows flags ≡ by_body flags
  given_is rows flags same =
      λ i. known itself (sym same i) (key_is p t x i) (λ at. decl_in (bound_is p t x i).references at) (λ path. find_type (bound_is p t x i).types path) flags 0 (m p t x)

  -- ---- flags

  abbrev flags_of : List Row → MemberKey → Bound → List Bool
  flags_of rows k b = own_flags itself rows k (λ at. decl_in b.references at) (λ path. find_type b.types path) 0 (m p t x)

  pub flags_tell : MembersAreWritten Span → OwnFlagsTell → (rows : List Row) → p.rows ≡ rows → (flags : List Bool) → flags ≡ flags_of rows t.body.bound.now.member t.body.bound.now → FlagsTell p (body p t x) flags 0 (m p t x)
  flags_tell written law rows same flags is =
      let all : flags ≡ flags_of p.rows (body p t x).key (body p t x).bound = is ∙ (λ i. flags_of (sym same i) (key_is p t x i) (bound_is p t x i)) in
      subst (λ (f : List Bool). FlagsTell p (body p t x) f 0 (m p t x)) (sym all)
      (law p x.program t.request.file (body p t x) (it x).has (list_shaped p x.program written t.request.file (body p t x) (it x).has) 0 (m p t x) (part_is p t x) (is_member p t x))

  -- ---- footprints

  module _ (rows : List Row) (flags : List Bool) (same : p.rows ≡ rows) (o : Others) where
    abbrev root : Node Spot
    root = member_node p (body p t x) flags 0 (m p t x) o

    -- of the expression, as `footprint` answers it
    pub exp_answers : (path : List ℕ) (list : List raw_site.PlacedSite) → ((e : tree.Exp Spot) → exp_at root path ≡ Some e → IsFootprint (asked rows flags) o (of_exp e) list) → AnswersExp p (body p t x) flags 0 (m p t x) o path list
    exp_answers path list h e at = subst (λ (g : Given). IsFootprint g o (of_exp e) list) (given_is rows flags same) (h e at)

    -- of statements, as `footprint_of` does
    pub stmts_answer : (path : List ℕ) (from to : ℕ) (list : List raw_site.PlacedSite)
        → ((n : Node Spot) → node_at root path ≡ Some n → (ss : statement.Stmts Spot) → AreParts n from to ss → IsFootprint (asked rows flags) o (of_stmts ss) list) → AnswersStmts p (body p t x) flags 0 (m p t x) o path from to list
    stmts_answer path from to list h n at ss are = subst (λ (g : Given). IsFootprint g o (of_stmts ss) list) (given_is rows flags same) (h n at ss are)

    -- how many stand in front, as `sites_before` does
    pub front_answers : (outer path : List ℕ) (count : ℕ)
        → ((s : statement.Stmt Spot) → stmt_at root outer ≡ Some s → (e : tree.Exp Spot) (way : StmtWay e s) → stmt_path way ≡ path → count ≡ length (stmt_before (known_of (asked rows flags) o) way)) → AnswersFront p (body p t x) flags 0 (m p t x) o outer path count
    front_answers outer path count h s at e way is = h s at e way is ∙ ap (λ (g : Given). length (stmt_before (known_of g o) way)) (given_is rows flags same)

  -- ---- so the pair is lost

  module _ (at : raw_place.StatementPlace) (h : IsPlaceOf x at) where
    pub in_front : (flags : List Bool) (around outer inner : List ℕ) (from to : ℕ) → around ≡ h.element_is.front → outer ≡ h.element_is.front ++ at.element.step ∷ [] → inner ≡ stmt_path (held x).way → from ≡ at.element.step → to ≡ from + 1 → (whole list : List raw_site.PlacedSite) (count : ℕ) → list ≡ take count whole
        → ((o : Others) → NumbersMember itself 0 (m p t x) o → AnswersStmts p (body p t x) flags 0 (m p t x) o around from to whole) → ((o : Others) → NumbersMember itself 0 (m p t x) o → AnswersFront p (body p t x) flags 0 (m p t x) o outer inner count) → AreInFront x h flags list
    in_front flags around outer inner from to around_is outer_is inner_is from_is to_is whole list count is stmts front o numbers =
        let behind : to ≡ suc at.element.step = omega (arith, from_is, to_is) in
        let one = subst (λ (q : List ℕ). AnswersStmts p (body p t x) flags 0 (m p t x) o q from to whole) around_is (stmts o numbers) in
        let two = subst (λ (k : ℕ). AnswersStmts p (body p t x) flags 0 (m p t x) o h.element_is.front k to whole) from_is one in
        let outside = subst (λ (q : List ℕ). AnswersFront p (body p t x) flags 0 (m p t x) o q inner count) outer_is (front o numbers) in
        record {
          statement = whole;
          whole = subst (λ (k : ℕ). AnswersStmts p (body p t x) flags 0 (m p t x) o h.element_is.front at.element.step k whole) behind two;
          count = count;
          front = subst (λ (q : List ℕ). AnswersFront p (body p t x) flags 0 (m p t x) o (h.element_is.front ++ at.element.step ∷ []) q count) inner_is outside;
          is = is;
        }

    pub lost : MembersAreWritten Span → ExtractsLose → (flags : List Bool) → FlagsTell p (body p t x) flags 0 (m p t x) → (before moved : List raw_site.PlacedSite) → AreInFront x h flags before
        → ((o : Others) → AnswersExp p (body p t x) flags 0 (m p t x) o t.path.now.steps.items moved) → (q : Option DepPair) → IsLostPair t.request.file t.body.from before moved q → IsLost x q
    lost written law flags tell before moved front answers q pair =
        let of = t.request.file in
        let o = has_others itself 0 (m p t x) in
        let shaped = list_shaped p x.program written of (body p t x) (it x).has in
        let here = subst (λ (r : List ℕ). AnswersExp p (body p t x) flags 0 (m p t x) o.0 r moved) (path_is p t x) (answers o.0) in
        let told = subst (λ (n : ℕ). IsLostPair of n before moved q) (from_is p t x) pair in
        law p x.program of (body p t x) (it x).has shaped 0 (m p t x) (is_member p t x) flags tell o.0 o.1 (it x).value (it x).way (it x).used (it x).no_class h.element_is.front at.element.step (stands p t x at h) before moved (front o.0 o.1) here q told
