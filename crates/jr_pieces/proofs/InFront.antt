-- What is evaluated before an expression, and then the expression itself, stands in front of the
-- sites of the whole.
use Rattle.std.proofs.Common.{◌≡◌, Bool, true, false, List, [], ◌∷◌, ◌++◌, refl, sym, ◌∙◌, ap}
use Rattle.std.proofs.lemmas.List.{append_assoc}
use Rattle.jr_ast.specs.declared.operators.BinOp.{BinOp}
use Rattle.jr_ast.specs.declared.operators.BinOp.TheVariants.{Or, And, Eq, Ne, Lt, Gt, Le, Ge, Add, Sub, Mul, Div, Rem}
use Rattle.jr_ast.specs.Tree as tree
use Rattle.jr_ast.specs.StatementTree as statement
use Rattle.jr_runs.specs.Keys.{Keys}
use Rattle.jr_cover.specs.Ways.{Way, sites_of}
use Rattle.jr_cover.specs.Sites.{What, at_place, Site, Known, unless, exp_way, exps_way, operand_way, operands, stmt_way, stmts_way}
use Rattle.jr_pieces.specs.Ways.{ExpWay, here, in_front, in_target, in_argument, in_super_argument, in_created, in_paren, in_cast, in_unary, in_bump, in_left, in_right, in_assigned, in_value, in_changed, in_change}
use Rattle.jr_pieces.specs.Ways.{ExpsWay, first_argument, later_argument, StmtWay, in_init, in_eval, in_condition, in_then, in_else, in_turning, in_body, in_returned, in_block, in_lock, in_locked, ListWay, first, later}
use Rattle.jr_pieces.specs.Before.{turned, lock_check, entered, exp_before, exps_before, stmt_before, list_before, ExpEvaluated, TargetEvaluated, ExpsEvaluated, StmtEvaluated, ListEvaluated, StandsBehind, WhatComesBeforeStandsInFront}

module _ {K : Keys} where
  alone : (piece : List (Site K)) → StandsBehind [] piece piece
  alone [] = record { rest = []; is = refl }
  alone (s ∷ piece) = let h = alone piece in record { rest = h.rest; is = ap (λ l. s ∷ l) h.is }

  then : {before piece whole : List (Site K)} → StandsBehind before piece whole → (rest : List (Site K))
      → StandsBehind before piece (whole ++ rest)
  then {before = before} {piece = piece} h rest = record {
    rest = h.rest ++ rest;
    is = ap (λ l. l ++ rest) h.is ∙ append_assoc before (piece ++ h.rest) rest
        ∙ ap (λ l. before ++ l) (append_assoc piece h.rest rest);
  }

  behind : (front : List (Site K)) {before piece whole : List (Site K)} → StandsBehind before piece whole
      → StandsBehind (front ++ before) piece (front ++ whole)
  behind front {before = before} {piece = piece} h = record {
    rest = h.rest;
    is = ap (λ l. front ++ l) h.is ∙ sym (append_assoc front before (piece ++ h.rest));
  }

  -- two fronts, grouped to the right in the whole
  behind_two : (one two : List (Site K)) {before piece whole : List (Site K)} → StandsBehind before piece whole
      → StandsBehind ((one ++ two) ++ before) piece (one ++ (two ++ whole))
  behind_two one two {whole = whole} h =
      let k = behind (one ++ two) h in record { rest = k.rest; is = sym (append_assoc one two whole) ∙ k.is }

  -- three
  behind_three : (one two three : List (Site K)) {before piece whole : List (Site K)} → StandsBehind before piece whole
      → StandsBehind ((one ++ (two ++ three)) ++ before) piece (one ++ (two ++ (three ++ whole)))
  behind_three one two three {whole = whole} h =
      let k = behind (one ++ (two ++ three)) h in record {
        rest = k.rest;
        is = sym (append_assoc one (two ++ three) whole ∙ ap (λ l. one ++ l) (append_assoc two three whole)) ∙ k.is;
      }

  no_class : {before piece : List (Site K)} (test : Bool) (w : Way (Site K)) → test ≡ false
      → StandsBehind before piece (sites_of w) → StandsBehind before piece (sites_of (unless test w))
  no_class false w e h = h
  no_class true w e h = absurd (apart e)
    where
      apart : true ≡ false → ⊥
      apart j = cc

-- the right operand of an operator, and the left one
module _ {K : Keys} where
  right_in : (o : BinOp) (l r c : Way (Site K)) {before piece : List (Site K)} → StandsBehind before piece (sites_of r)
      → StandsBehind (sites_of l ++ before) piece (sites_of (operands o l r c))
  right_in Or l r c h = behind (sites_of l) (then h [])
  right_in And l r c h = behind (sites_of l) (then h [])
  right_in Eq l r c h = behind (sites_of l) (then h (sites_of c))
  right_in Ne l r c h = behind (sites_of l) (then h (sites_of c))
  right_in Lt l r c h = behind (sites_of l) (then h (sites_of c))
  right_in Gt l r c h = behind (sites_of l) (then h (sites_of c))
  right_in Le l r c h = behind (sites_of l) (then h (sites_of c))
  right_in Ge l r c h = behind (sites_of l) (then h (sites_of c))
  right_in Add l r c h = behind (sites_of l) (then h (sites_of c))
  right_in Sub l r c h = behind (sites_of l) (then h (sites_of c))
  right_in Mul l r c h = behind (sites_of l) (then h (sites_of c))
  right_in Div l r c h = behind (sites_of l) (then h (sites_of c))
  right_in Rem l r c h = behind (sites_of l) (then h (sites_of c))

  left_in : (o : BinOp) (l r c : Way (Site K)) {before piece : List (Site K)} → StandsBehind before piece (sites_of l)
      → StandsBehind before piece (sites_of (operands o l r c))
  left_in Or l r c h = then h (sites_of r ++ [])
  left_in And l r c h = then h (sites_of r ++ [])
  left_in Eq l r c h = then h (sites_of r ++ sites_of c)
  left_in Ne l r c h = then h (sites_of r ++ sites_of c)
  left_in Lt l r c h = then h (sites_of r ++ sites_of c)
  left_in Gt l r c h = then h (sites_of r ++ sites_of c)
  left_in Le l r c h = then h (sites_of r ++ sites_of c)
  left_in Ge l r c h = then h (sites_of r ++ sites_of c)
  left_in Add l r c h = then h (sites_of r ++ sites_of c)
  left_in Sub l r c h = then h (sites_of r ++ sites_of c)
  left_in Mul l r c h = then h (sites_of r ++ sites_of c)
  left_in Div l r c h = then h (sites_of r ++ sites_of c)
  left_in Rem l r c h = then h (sites_of r ++ sites_of c)

module _ {K : Keys} {A : Type 0} (X : Known K A) (f : tree.Exp A) where
  mutual
    exp_in_front : (e : tree.Exp A) (d : ExpWay f e) → ExpEvaluated X d
        → StandsBehind (exp_before X d) (sites_of (exp_way X f)) (sites_of (exp_way X e))
    exp_in_front _ here v = alone (sites_of (exp_way X f))
    exp_in_front _ (in_front m e w d) (v, u) = then (no_class _ (exp_way X e) v (exp_in_front e d u)) _
    exp_in_front _ (in_target m e w es d) (v, u) = then (no_class _ (exp_way X e) v (exp_in_front e d u)) _
    exp_in_front _ (in_argument m t w es d) v = behind _ (then (exps_in_front es d v) _)
    exp_in_front _ (in_super_argument m w es d) v = then (exps_in_front es d v) _
    exp_in_front _ (in_created m t es d) v =
        behind (sites_of (at_place (X.facts.first m) What.creates)) (then (exps_in_front es d v) (sites_of (at_place (X.facts.first m) What.calls)))
    exp_in_front _ (in_paren m e d) v = exp_in_front e d v
    exp_in_front _ (in_cast m t e d) v = then (exp_in_front e d v) _
    exp_in_front _ (in_unary m o e d) v = exp_in_front e d v
    exp_in_front _ (in_bump m o e d) v = then (target_in_front e d v) _
    exp_in_front _ (in_left m o l r d) v = left_in o (exp_way X l) (exp_way X r) _ (exp_in_front l d v)
    exp_in_front _ (in_right m o l r d) v = right_in o (exp_way X l) (exp_way X r) _ (exp_in_front r d v)
    exp_in_front _ (in_assigned m t e d) v = then (target_in_front t d v) _
    exp_in_front _ (in_value m t e d) v = behind _ (then (exp_in_front e d v) _)
    exp_in_front _ (in_changed m o t e d) v = then (target_in_front t d v) _
    exp_in_front _ (in_change m o t e d) v = behind_two _ _ (then (exp_in_front e d v) _)

    target_in_front : (e : tree.Exp A) (d : ExpWay f e) → TargetEvaluated X d
        → StandsBehind (exp_before X d) (sites_of (exp_way X f)) (sites_of (operand_way X e))
    target_in_front _ (in_front m e w d) (v, u) = no_class _ (exp_way X e) v (exp_in_front e d u)
    target_in_front _ d v = absurd v

    exps_in_front : (es : tree.Exps A) (d : ExpsWay f es) → ExpsEvaluated X d
        → StandsBehind (exps_before X d) (sites_of (exp_way X f)) (sites_of (exps_way X es))
    exps_in_front _ (first_argument e es d) v = then (exp_in_front e d v) _
    exps_in_front _ (later_argument e es d) v = behind _ (exps_in_front es d v)

  mutual
    stmt_in_front : (s : statement.Stmt A) (d : StmtWay f s) → StmtEvaluated X d
        → StandsBehind (stmt_before X d) (sites_of (exp_way X f)) (sites_of (stmt_way X s))
    stmt_in_front _ (in_init m is_final t w e d) v =
        then (exp_in_front e d v) (sites_of (at_place (X.facts.first w.mark) (What.writes (X.facts.number w.mark))))
    stmt_in_front _ (in_eval m e d) v = exp_in_front e d v
    stmt_in_front _ (in_condition m c s o d) v = then (exp_in_front c d v) _
    stmt_in_front _ (in_then m c s o d) v = behind _ (then (stmt_in_front s d v) _)
    stmt_in_front _ (in_else m c s o d) v = behind_two _ _ (stmt_in_front o d v)
    stmt_in_front _ (in_turning m c s d) v = behind (sites_of (turned X m)) (then (exp_in_front c d v) (sites_of (stmt_way X s)))
    stmt_in_front _ (in_body m c s d) v = behind_two (sites_of (turned X m)) (sites_of (exp_way X c)) (stmt_in_front s d v)
    stmt_in_front _ (in_returned m e d) v = then (exp_in_front e d v) []
    stmt_in_front _ (in_block m b d) v = list_in_front b d v
    stmt_in_front _ (in_lock m e b d) v = then (exp_in_front e d v) _
    stmt_in_front _ (in_locked m e b d) v =
        behind_three (sites_of (exp_way X e)) (sites_of (lock_check X m e)) (sites_of (entered X m)) (then (list_in_front b d v) (sites_of (at_place (X.facts.last m) What.exits)))

    list_in_front : (b : statement.Stmts A) (d : ListWay f b) → ListEvaluated X d
        → StandsBehind (list_before X d) (sites_of (exp_way X f)) (sites_of (stmts_way X b))
    list_in_front _ (first s ss d) v = then (stmt_in_front s d v) _
    list_in_front _ (later s ss d) v = behind _ (list_in_front ss d v)

pub what_comes_before_stands_in_front : {C F M N L A : Type 0} → WhatComesBeforeStandsInFront C F M N L A
what_comes_before_stands_in_front X f b d v = list_in_front X f b d v
