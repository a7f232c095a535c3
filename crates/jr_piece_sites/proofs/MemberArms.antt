-- What stands in front of a part of each kind of member, where places and parts are shown as they are.
use Rattle.std.proofs.Common.{◌≡◌, ℕ, zero, suc, ◌+◌, ◌-◌, ◌<◌, ◌≤◌, ◌||◌, List, [], ◌∷◌, length, Option, refl, sym, ap, subst, ◌∙◌, arith}
use Rattle.jr_text.specs.declared.spans.Span.{Span}
use Rattle.jr_ast.specs.Tree as tree
use Rattle.jr_ast.specs.StatementTree as statement
use Rattle.jr_ast.specs.MemberTree as declared
use Rattle.jr_ast.specs.declared.exprs.Expr.{Expr}
use Rattle.jr_ast.specs.Nodes.{exps}
use Rattle.jr_ast.specs.View.{exprs_of}
use Rattle.jr_runs.specs.MemberTranslation.{is_synchronized, is_synchronized_word}
use Rattle.jr_cover.specs.Spots.{Spot, spot_exps, spot_stmts, spot_args, spot_modifiers, spot_params, spot_result, spot_member, result_count, args_count}
use Rattle.jr_cfg.specs.Numbering.{NumbersStmts}
use Rattle.jr_cfg.specs.StatementRoutes.{NumberedAll}
use Rattle.jr_expr_sites.specs.KnownFacts.{Given, Others, known_of}
use Rattle.jr_code.specs.RunKeys.{RunKeys}
use Rattle.jr_cover.specs.Sites.{Known}
use Rattle.jr_expr_sites.specs.Routes.{Steps, begins_by, ends_by}
use Rattle.jr_piece_sites.specs.Fronts.{exps_front, stmts_front, method_body, constructor_body, exps_then_front, member_front}
use Rattle.jr_piece_sites.specs.Growth.{GrownTo}
use Rattle.jr_piece_sites.specs.Parts.{behind}
use Rattle.jr_piece_sites.specs.Pieces as piece
use Rattle.jr_piece_sites.specs.Pieces.{method_front, constructor_front, arguments, locals_up_to, exps_then_locals, constructor_locals, member_locals, NumbersPiece}
use Rattle.jr_piece_sites.proofs.Counting.{stays}
use Rattle.jr_piece_sites.proofs.Growths.{to_as}
use Rattle.jr_piece_sites.proofs.Spotting.{method_number, arguments_are, modifiers_size, params_size, result_size}

-- ---- arguments, and then statements

module _ {A : Type 0} (X : Known RunKeys Spot) (begins ends : A → ℕ → ℕ) (at : ℕ) (p : List ℕ) (b : statement.Stmts Spot) where
  pub args_only : (xs : List (Expr A)) (k n : ℕ) → n < length xs → exps_front X (spot_exps begins ends (exprs_of xs) at p k) n ≡ exps_then_front X (spot_exps begins ends (exprs_of xs) at p k) b n
  unfolding spot_exps
  args_only [] k n lt = absurd (omega (arith, lt))
  args_only (x ∷ xs) k zero lt = refl
  args_only (x ∷ xs) k (suc n) lt = let h = args_only xs (suc k) n (omega (arith, lt)) in omega (arith, h)

  pub args_and : (xs : List (Expr A)) (k n j : ℕ) → length xs ≤ n → j ≡ n - length xs → exps_front X (spot_exps begins ends (exprs_of xs) at p k) n + suc (stmts_front X b j) ≡ exps_then_front X (spot_exps begins ends (exprs_of xs) at p k) b n
  unfolding spot_exps
  args_and [] k zero j le is = let same : j ≡ 0 = omega (arith, is) in zero_plus (suc (stmts_front X b j)) ∙ ap (λ (i : ℕ). suc (stmts_front X b i)) same
    where
      zero_plus : (n : ℕ) → 0 + n ≡ n
      zero_plus n = omega arith
  args_and [] k (suc n) j le is = let same : j ≡ suc n = omega (arith, is) in zero_plus (suc (stmts_front X b j)) ∙ ap (λ (i : ℕ). suc (stmts_front X b i)) same
    where
      zero_plus : (n : ℕ) → 0 + n ≡ n
      zero_plus n = omega arith
  args_and (x ∷ xs) k zero j le is = absurd (omega (arith, le))
  args_and (x ∷ xs) k (suc n) j le is = let h = args_and xs (suc k) n j (omega (arith, le)) (omega (arith, is)) in omega (arith, h)

module _ {A : Type 0} (b : statement.Stmts A) where
  pub no_args_locals : (xs : List (Expr A)) (n : ℕ) → n < length xs → 0 ≡ exps_then_locals (exprs_of xs) b n
  no_args_locals [] n lt = absurd (omega (arith, lt))
  no_args_locals (x ∷ xs) zero lt = refl
  no_args_locals (x ∷ xs) (suc n) lt = no_args_locals xs n (omega (arith, lt))

  pub args_locals : (xs : List (Expr A)) (n j : ℕ) → length xs ≤ n → j ≡ n - length xs → locals_up_to b j ≡ exps_then_locals (exprs_of xs) b n
  args_locals [] n j le is = let same : j ≡ n = omega (arith, is) in ap (locals_up_to b) same
  args_locals (x ∷ xs) zero j le is = absurd (omega (arith, le))
  args_locals (x ∷ xs) (suc n) j le is = args_locals xs n j (omega (arith, le)) (omega (arith, is))

pub args_length : {A : Type 0} (xs : List (Expr A)) → length (exps (exprs_of xs)) ≡ length xs
args_length [] = refl
args_length (x ∷ xs) = ap suc (args_length xs)

-- ---- kinds of members

module _ {A : Type 0} (tells : A → ℕ → Span) (base : ℕ) (m : A) (at : ℕ) (start : at ≡ begins_by tells m base) (g : Given) (path : List ℕ) (i : ℕ) (old : Steps) where
  abbrev B : A → ℕ → ℕ
  B = begins_by tells

  abbrev E : A → ℕ → ℕ
  E = ends_by tells

  abbrev pub Whole : declared.Member A → (k : ℕ) → (new : Steps) → Type 0
  Whole x k new = GrownTo g (NumbersPiece tells 0 base path (piece.member x)) (λ o. member_front (known_of g o) (spot_member B E x base path) i) (member_locals x i) k old new

  pub field_put : (mods : List (declared.Modifier A)) (t : tree.TypeName A) (w : tree.Word A) (init : Option (tree.Exp A)) → Whole (declared.field m mods t w init) 0 old
  unfolding spot_member
  field_put mods t w init = record { number = refl; grown = λ o h. stays g old o }

  pub inner_put : (c : declared.Class A) → Whole (declared.inner m c) 0 old
  unfolding spot_member
  inner_put c = record { number = refl; grown = λ o h. stays g old o }

  locked_spots : (mods : List (declared.Modifier A)) (b : ℕ) (p : List ℕ) (k : ℕ) → is_synchronized mods ≡ is_synchronized (spot_modifiers B E mods b p k)
  locked_spots [] b p k = refl
  locked_spots (x ∷ xs) b p k = ap (λ r. is_synchronized_word x.word || r) (locked_spots xs b p (suc k))

  numbers_there : (o : Others) (n k j : ℕ) (body : statement.Stmts A) → path ≡ [] → j ≡ k → NumbersStmts B E o.number n body (B m base) [] j → NumberedAll tells n path k at body o
  numbers_there o n k j body top same h =
      subst (λ (b : ℕ). NumberedAll tells n path k b body o) (sym start) (subst (λ (q : List ℕ). NumbersStmts B E o.number n body (B m base) q k) (sym top) (subst (λ (q : ℕ). NumbersStmts B E o.number n body (B m base) [] q) same h))

  pub method_put : (mods : List (declared.Modifier A)) (t : Option (tree.TypeName A)) (w : tree.Word A) (ps : List (declared.Param A)) (body : statement.Stmts A) (k : ℕ) (new : Steps)
      → GrownTo g (NumberedAll tells (length ps) path (method_front mods t ps) at body) (λ o. behind 0 (method_front mods t ps) (method_body (known_of g o) (is_synchronized mods) (spot_stmts B E body at path (method_front mods t ps))) i)
      (length ps + behind 0 (method_front mods t ps) (locals_up_to body) i) k old new → Whole (declared.method m mods t w ps body) k new
  unfolding spot_member
  method_put mods t w ps body k new h =
      let K = method_front mods t ps in
      let all = suc (length mods + result_count B E t) + length ps in
      let S = B m base in
      let l = modifiers_size tells mods S path 0 in
      let r = result_size tells t S path (length mods) in
      let q = params_size tells ps S path (suc (length mods + result_count B E t)) in
      let same : K ≡ all = sym (method_number tells mods t ps) in
      let front : K ≡ method_front (spot_modifiers B E mods S path 0) (spot_result B E t S path (length mods)) (spot_params B E ps S path (suc (length mods + result_count B E t))) = omega (arith, l, r, q) in
      to_as g (NumberedAll tells (length ps) path K at body) (NumbersPiece tells 0 base path (piece.member (declared.method m mods t w ps body))) (λ o. behind 0 K (method_body (known_of g o) (is_synchronized mods) (spot_stmts B E body at path K)) i)
      (λ o. member_front (known_of g o) (spot_member B E (declared.method m mods t w ps body) base path) i) (length ps + behind 0 K (locals_up_to body) i) (length ps + behind 0 K (locals_up_to body) i) k old new
      (λ o is. numbers_there o (length ps) K all body is.0 (sym same) is.1)
      (λ o. λ j. behind 0 (front j) (method_body (known_of g o) (locked_spots mods S path 0 j) (spot_stmts B E body (start j) path (same j))) i) refl h

  pub constructor_put : (mods : List (declared.Modifier A)) (w : tree.Word A) (ps : List (declared.Param A)) (args : Option (tree.Exps A)) (body : statement.Stmts A) (k : ℕ) (new : Steps)
      → GrownTo g (NumberedAll tells (length ps) path (constructor_front mods ps + arguments args) at body)
      (λ o. behind 0 (constructor_front mods ps) (constructor_body (known_of g o) (spot_args B E args at path (constructor_front mods ps)) (spot_stmts B E body at path (constructor_front mods ps + arguments args))) i)
      (length ps + behind 0 (constructor_front mods ps) (constructor_locals args body) i) k old new → Whole (declared.constructor m mods w ps args body) k new
  unfolding spot_member
  constructor_put mods w ps args body k new h =
      let K = constructor_front mods ps in
      let S = B m base in
      let l = modifiers_size tells mods S path 0 in
      let q = params_size tells ps S path (suc (length mods)) in
      let a = arguments_are tells args in
      let same : K + arguments args ≡ K + args_count B E args = ap (λ (z : ℕ). K + z) (sym a) in
      let front : K ≡ constructor_front (spot_modifiers B E mods S path 0) (spot_params B E ps S path (suc (length mods))) = omega (arith, l, q) in
      to_as g (NumberedAll tells (length ps) path (K + arguments args) at body) (NumbersPiece tells 0 base path (piece.member (declared.constructor m mods w ps args body)))
      (λ o. behind 0 K (constructor_body (known_of g o) (spot_args B E args at path K) (spot_stmts B E body at path (K + arguments args))) i)
      (λ o. member_front (known_of g o) (spot_member B E (declared.constructor m mods w ps args body) base path) i) (length ps + behind 0 K (constructor_locals args body) i) (length ps + behind 0 K (constructor_locals args body) i) k old new
      (λ o is. numbers_there o (length ps) (K + arguments args) (K + args_count B E args) body is.0 (sym same) is.1)
      (λ o. λ j. behind 0 (front j) (constructor_body (known_of g o) (spot_args B E args (start j) path K) (spot_stmts B E body (start j) path (same j))) i) refl h
