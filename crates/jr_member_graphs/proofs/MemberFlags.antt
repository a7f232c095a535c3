-- The flags of each kind of member, from those of its body.
use Rattle.std.proofs.Common.{◌≡◌, ℕ, suc, ◌+◌, Bool, List, [], ◌∷◌, ◌++◌, map, length, Option, Some, None, refl, sym, ap, ◌∙◌}
use Rattle.jr_text.specs.declared.spans.Span.{Span}
use Rattle.jr_ast.specs.Tree as tree
use Rattle.jr_ast.specs.StatementTree as statement
use Rattle.jr_ast.specs.MemberTree as declared
use Rattle.jr_code.specs.RunKeys.{RunKeys}
use Rattle.jr_ast.specs.Marks.{member_mark}
use Rattle.jr_cfg.specs.MemberRoutes.{FitsSites}
use Rattle.jr_cover.specs.Facts.{Facts}
use Rattle.jr_cover.specs.Spots.{Spot, spot_params, spot_stmts, spot_member, spot_class, spot_members, result_count, args_count}
use Rattle.jr_never_null.specs.Flags.{flags_behind}
use Rattle.jr_expr_sites.specs.KnownFacts.{Given, known_of, meaning_at}
use Rattle.jr_expr_sites.specs.Meanings.{Meaning}
use Rattle.jr_expr_sites.specs.Routes.{begins_by, ends_by}
use Rattle.jr_member_graphs.specs.FlagRows.{is_among, nones, behind_nones}
use Rattle.jr_member_graphs.specs.MemberLocals.{stmts_inits}
use Rattle.jr_member_graphs.specs.Notes.{args_locals, stmts_notes}
use Rattle.jr_member_graphs.specs.OwnFlags.{no_others, flags_of}

module _ {A : Type 0} (tells : A → ℕ → Span) (g : Given) (base : ℕ) (m : A) (at : ℕ) (start : at ≡ begins_by tells m base) where
  abbrev B : A → ℕ → ℕ
  B = begins_by tells

  abbrev E : A → ℕ → ℕ
  E = ends_by tells

  abbrev M : ℕ → Meaning
  M = meaning_at g

  abbrev F : Facts RunKeys Spot
  F = (known_of g no_others).facts

  -- the flags of a body that begins at a byte, whose first statement has a number
  abbrev pub of_body : (ns : ℕ → List ℕ) → (params first at : ℕ) → statement.Stmts A → List Bool
  of_body ns params first k body = flags_behind F (is_among (ns k)) [] (behind_nones params (stmts_inits (spot_stmts B E body k [] first)))

  abbrev no_init : Option (tree.Exp Spot)
  no_init = None

  params_none : (ps : List (declared.Param A)) (k : ℕ) (p : List ℕ) (i : ℕ) → map (λ q. no_init) (spot_params B E ps k p i) ≡ nones (length ps)
  params_none [] k p i = refl
  params_none (x ∷ ps) k p i = ap (λ (l : List (Option (tree.Exp Spot))). None ∷ l) (params_none ps k p (suc i))

  shown : (ns : ℕ → List ℕ) (ps : List (declared.Param A)) (n first i : ℕ) (body : statement.Stmts A) → n ≡ length ps
      → of_body ns n first at body
      ≡ flags_behind F (is_among (ns (B m base))) [] (map (λ q. None) (spot_params B E ps (B m base) [] i) ++ map (λ e. Some e) (stmts_inits (spot_stmts B E body (B m base) [] first)))
  shown ns ps n first i body e =
      (λ j. of_body ns (e j) first (start j) body)
      ∙ ap (λ (l : List (Option (tree.Exp Spot))). flags_behind F (is_among (ns (B m base))) [] (l ++ map (λ x. Some x) (stmts_inits (spot_stmts B E body (B m base) [] first)))) (sym (params_none ps (B m base) [] i))

  pub method_flags : (mods : List (declared.Modifier A)) (t : Option (tree.TypeName A)) (w : tree.Word A) (ps : List (declared.Param A)) (body : statement.Stmts A) (n : ℕ) → n ≡ length ps
      → of_body (λ k. (stmts_notes tells M k body).writes) n (suc (length mods + result_count B E t) + length ps) at body ≡ flags_of tells g base (declared.method m mods t w ps body)
  unfolding spot_member spot_class spot_members
  method_flags mods t w ps body n e = shown (λ k. (stmts_notes tells M k body).writes) ps n (suc (length mods + result_count B E t) + length ps) (suc (length mods + result_count B E t)) body e

  pub constructor_flags : (mods : List (declared.Modifier A)) (w : tree.Word A) (ps : List (declared.Param A)) (args : Option (tree.Exps A)) (body : statement.Stmts A) (n : ℕ) → n ≡ length ps
      → of_body (λ k. args_locals tells M k args ++ (stmts_notes tells M k body).writes) n (suc (length mods) + length ps + args_count B E args) at body ≡ flags_of tells g base (declared.constructor m mods w ps args body)
  unfolding spot_member spot_class spot_members
  constructor_flags mods w ps args body n e = shown (λ k. args_locals tells M k args ++ (stmts_notes tells M k body).writes) ps n (suc (length mods) + length ps + args_count B E args) (suc (length mods)) body e

  pub field_flags : (mods : List (declared.Modifier A)) (t : tree.TypeName A) (w : tree.Word A) (init : Option (tree.Exp A)) → [] ≡ flags_of tells g base (declared.field m mods t w init)
  unfolding spot_member spot_class spot_members
  field_flags mods t w init = refl

  pub inner_flags : (c : declared.Class A) → [] ≡ flags_of tells g base (declared.inner m c)
  unfolding spot_member spot_class spot_members
  inner_flags c = refl

-- the place of a member fits
pub sites_fit : {A : Type 0} (tells : A → ℕ → Span) (F : A → ℕ → Type 0) (base : ℕ) (m : declared.Member A) → FitsSites tells F base m → F (member_mark m) base
sites_fit tells F base (declared.field m mods t w init) h = h.0
sites_fit tells F base (declared.method m mods t w ps body) h = h.0
sites_fit tells F base (declared.constructor m mods w ps args body) h = h.0
sites_fit tells F base (declared.inner m c) h = h
