-- The image of code, with the sets of locals that agree in the old code.
use Rattle.std.proofs.Common.{◌≡◌, subst}
use Rattle.jr_runs.specs.Keys.{Keys, At}
use Rattle.jr_runs.specs.Rows.{Rows}
use Rattle.jr_runs.specs.Core as core
use Rattle.jr_runs.specs.Core.{Exp, Target, Exps, Stmt, Stmts}
use Rattle.jr_runs.specs.KeyMaps.{KeyMap, value_image}
use Rattle.jr_runs.specs.Sets.{NumberSet}
use Rattle.jr_runs.specs.Standing.{Renumbering, Standing}
use Rattle.jr_runs.specs.Images.{CastOf, uncast, cast_once, ExpTo, to_changed, to_literal, to_this, to_cast_this, to_held, to_held_cast, to_read, to_assign, to_compound, to_bump, to_signed, to_binary, to_both, to_either, to_cast, to_static_call, to_instance_call, to_super_call, to_create, to_super_constructor, TargetTo, to_local, to_static_field, to_field_of, ExpsTo, to_end, to_more, Spots, NoSpot, StmtTo, to_declare, to_eval, to_branch, to_loop, to_return, to_return_nothing, to_block, to_sync, to_empty, StmtsTo, to_no_more, to_list, to_spot}
use Rattle.jr_unused_locals.specs.CodeAgreement.{ExpAgrees, TargetAgrees, ExpsAgree, StmtAgrees, StmtsAgree}
use Rattle.jr_unused_locals.specs.Unused.{HoldsNothing}

module _ {K : Keys} (r : KeyMap K) (R : Rows K) (s : Renumbering K) (none : HoldsNothing s) where
  -- `this`, cast or not, reads and writes no local
  casts_keep : (p : At K) (e : Exp K) → CastOf {K = K} (λ c. c) s.classes (core.this p) e → (A B : NumberSet) → ExpAgrees e A B → A ≡ B
  casts_keep p e uncast A B g = g
  casts_keep p e (cast_once q c x m d) A B g = casts_keep p x d A B g

  mutual
    pub exp_by : {E E' : NumberSet} (e e' : Exp K) → ExpTo r R s E e e' E' → (A B : NumberSet) → ExpAgrees e A B → ExpTo r R s A e e' B
    exp_by e e' (to_literal E p q v) A B g = subst (λ (Z : NumberSet). ExpTo r R s A (core.literal p v) (core.literal q (value_image r v)) Z) g (to_literal A p q v)
    exp_by e e' (to_this E p f d) A B g = subst (λ (Z : NumberSet). ExpTo r R s A (core.this p) f Z) g (to_this A p f d)
    exp_by e e' (to_cast_this E p x f f' d c c') A B g = subst (λ (Z : NumberSet). ExpTo r R s A f f' Z) (casts_keep p f c A B g) (to_cast_this A p x f f' d c c')
    exp_by e e' (to_held E p q f k h) A B g = absurd (none.no_locals f k h)
    exp_by e e' (to_held_cast E p q u c f k h) A B g = absurd (none.no_casts c f k h)
    exp_by e e' (to_read E F p q t t' d h) A B g = to_read A B p q t t' (target_by t t' d A B g.0) g.1
    exp_by e e' (to_assign E F G H p q t t' f f' d v k m) A D g = to_assign A g.0 g.1 D p q t t' f f' (target_by t t' d A g.0 g.2) v (exp_by f f' k g.0 g.1 g.3) g.4
    exp_by e e' (to_compound E F G H p q op t t' f f' d u v k m) A D g = to_compound A g.0 g.1 D p q op t t' f f' (target_by t t' d A g.0 g.2) g.3 v (exp_by f f' k g.0 g.1 g.4) g.5
    exp_by e e' (to_bump E F G p q op t t' d u v m) A C g = to_bump A g.0 C p q op t t' (target_by t t' d A g.0 g.1) g.2 v g.3
    exp_by e e' (to_signed E F p q op f f' d) A B g = to_signed A B p q op f f' (exp_by f f' d A B g)
    exp_by e e' (to_binary E F G p q op a a' b b' d k) A C g = to_binary A g.0 C p q op a a' b b' (exp_by a a' d A g.0 g.1) (exp_by b b' k g.0 C g.2)
    exp_by e e' (to_both E F G H p q a a' b b' d k u v) A D g = to_both A g.0 g.1 D p q a a' b b' (exp_by a a' d A g.0 g.2) (exp_by b b' k g.0 g.1 g.3) g.4 g.5
    exp_by e e' (to_either E F G H p q a a' b b' d k u v) A D g = to_either A g.0 g.1 D p q a a' b b' (exp_by a a' d A g.0 g.2) (exp_by b b' k g.0 g.1 g.3) g.4 g.5
    exp_by e e' (to_cast E F p q c f f' d) A B g = to_cast A B p q c f f' (exp_by f f' d A B g)
    exp_by e e' (to_static_call E F p q m es es' h d) A B g = to_static_call A B p q m es es' h (exps_by es es' d A B g)
    exp_by e e' (to_instance_call E F G p q f f' m es es' h d k) A C g = to_instance_call A g.0 C p q f f' m es es' h (exp_by f f' d A g.0 g.1) (exps_by es es' k g.0 C g.2)
    exp_by e e' (to_super_call E F G p q f f' m es es' h d k) A C g = to_super_call A g.0 C p q f f' m es es' h (exp_by f f' d A g.0 g.1) (exps_by es es' k g.0 C g.2)
    exp_by e e' (to_create E F p q c k es es' h d) A B g = to_create A B p q c k es es' h (exps_by es es' d A B g)
    exp_by e e' (to_super_constructor E F G p q f f' k es es' h d m) A C g = to_super_constructor A g.0 C p q f f' k es es' h (exp_by f f' d A g.0 g.1) (exps_by es es' m g.0 C g.2)
    exp_by e e' (to_changed E F x x' d) A B g = absurd d

    target_by : {E E' : NumberSet} (t t' : Target K) → TargetTo r R s E t t' E' → (A B : NumberSet) → TargetAgrees t A B → TargetTo r R s A t t' B
    target_by t t' (to_local E p q n h) A B g = subst (λ (Z : NumberSet). TargetTo r R s A (core.local p n) (core.local q (s.at n)) Z) g (to_local A p q n h)
    target_by t t' (to_static_field E p q f) A B g = subst (λ (Z : NumberSet). TargetTo r R s A (core.static_field p f) (core.static_field q (r.field f)) Z) g (to_static_field A p q f)
    target_by t t' (to_field_of E F p q e e' f d) A B g = to_field_of A B p q e e' f (exp_by e e' d A B g)

    exps_by : {E E' : NumberSet} (es es' : Exps K) → ExpsTo r R s E es es' E' → (A B : NumberSet) → ExpsAgree es A B → ExpsTo r R s A es es' B
    exps_by es es' (to_end E) A B g = subst (λ (Z : NumberSet). ExpsTo r R s A core.Exps.end core.Exps.end Z) g (to_end A)
    exps_by es es' (to_more E F G e e' fs fs' d k) A C g = to_more A g.0 C e e' fs fs' (exp_by e e' d A g.0 g.1) (exps_by fs fs' k g.0 C g.2)

module _ {K : Keys} (r : KeyMap K) (R : Rows K) (Spot : Spots K) (s : Standing K) (none : HoldsNothing s.code) where
  mutual
    pub stmt_by : {E E' : NumberSet} (a a' : Stmt K) → StmtTo r R (NoSpot {K = K}) s E a a' E' → (A B : NumberSet) → StmtAgrees a A B → StmtTo r R Spot s A a a' B
    stmt_by a a' (to_declare E F G p q n e e' free d w) A C g = to_declare A g.0 C p q n e e' free (exp_by r R s.code none e e' d A g.0 g.1) g.2
    stmt_by a a' (to_eval E F p q e e' d) A B g = to_eval A B p q e e' (exp_by r R s.code none e e' d A B g)
    stmt_by a a' (to_branch E F G H I p q c c' x x' y y' d k m u v) A B g = to_branch A g.0 g.1 g.2 B p q c c' x x' y y' (exp_by r R s.code none c c' d A g.0 g.3) (stmt_by x x' k g.0 g.1 g.4) (stmt_by y y' m g.0 g.2 g.5) g.6 g.7
    stmt_by a a' (to_loop E F G H p q c c' b b' u d k v) A B g = to_loop A g.0 B g.1 p q c c' b b' g.2 (exp_by r R s.code none c c' d g.0 B g.3) (stmt_by b b' k B g.1 g.4) g.5
    stmt_by a a' (to_return E F G p q e e' d) A C g = to_return A g.0 C p q e e' (exp_by r R s.code none e e' d A g.0 g.1)
    stmt_by a a' (to_return_nothing E F p q) A B g = to_return_nothing A B p q
    stmt_by a a' (to_block E F G p q ns ns' b b' d u k) A C g = to_block A g.0 C p q ns ns' b b' d g.1 (stmts_by b b' k g.0 C g.2)
    stmt_by a a' (to_sync E F G p q p' q' e e' b b' d k) A C g = to_sync A g.0 C p q p' q' e e' b b' (exp_by r R s.code none e e' d A g.0 g.1) (stmts_by b b' k g.0 C g.2)
    stmt_by a a' (to_empty E p q) A B g = subst (λ (Z : NumberSet). StmtTo r R Spot s A (core.empty p) (core.empty q) Z) g (to_empty A p q)

    pub stmts_by : {E E' : NumberSet} (b b' : Stmts K) → StmtsTo r R (NoSpot {K = K}) s E b b' E' → (A B : NumberSet) → StmtsAgree b A B → StmtsTo r R Spot s A b b' B
    stmts_by b b' (to_no_more E) A B g = subst (λ (Z : NumberSet). StmtsTo r R Spot s A core.Stmts.end core.Stmts.end Z) g (to_no_more A)
    stmts_by b b' (to_list E F G x x' y y' d k) A C g = to_list A g.0 C x x' y y' (stmt_by x x' d A g.0 g.1) (stmts_by y y' k g.0 C g.2)
    stmts_by b b' (to_spot E F x x' d) A B g = absurd d

-- other spots, where they allow what these did
module _ {K : Keys} (r : KeyMap K) (R : Rows K) (Spot Other : Spots K) (s : Standing K) (allows : (A : NumberSet) (b b' : Stmts K) (B : NumberSet) → Spot s A b b' B → Other s A b b' B) where
  mutual
    other_stmt : {A B : NumberSet} (a a' : Stmt K) → StmtTo r R Spot s A a a' B → StmtTo r R Other s A a a' B
    other_stmt a a' (to_declare A B C p q n e e' free d u) = to_declare A B C p q n e e' free d u
    other_stmt a a' (to_eval A B p q e e' d) = to_eval A B p q e e' d
    other_stmt a a' (to_branch A B C D E p q c c' x x' y y' d f g u v) = to_branch A B C D E p q c c' x x' y y' d (other_stmt x x' f) (other_stmt y y' g) u v
    other_stmt a a' (to_loop A H B C p q c c' b b' u d f v) = to_loop A H B C p q c c' b b' u d (other_stmt b b' f) v
    other_stmt a a' (to_return A B C p q e e' d) = to_return A B C p q e e' d
    other_stmt a a' (to_return_nothing A B p q) = to_return_nothing A B p q
    other_stmt a a' (to_block A B C p q ns ns' b b' d u f) = to_block A B C p q ns ns' b b' d u (other_spots b b' f)
    other_stmt a a' (to_sync A B C p q p' q' e e' b b' d f) = to_sync A B C p q p' q' e e' b b' d (other_spots b b' f)
    other_stmt a a' (to_empty A p q) = to_empty A p q

    pub other_spots : {A B : NumberSet} (b b' : Stmts K) → StmtsTo r R Spot s A b b' B → StmtsTo r R Other s A b b' B
    other_spots b b' (to_no_more A) = to_no_more A
    other_spots b b' (to_list A B C x x' y y' f g) = to_list A B C x x' y y' (other_stmt x x' f) (other_spots y y' g)
    other_spots b b' (to_spot A B x x' d) = to_spot A B x x' (allows A x x' B d)
