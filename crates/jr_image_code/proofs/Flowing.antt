-- An image between all sets that the old code goes between holds of a node where it holds of its parts.
use Rattle.std.proofs.Common.{◌≡◌, ◌<◌, ℕ, refl, sym, subst}
use Rattle.jr_runs.specs.Keys.{At}
use Rattle.jr_runs.specs.Core as core
use Rattle.jr_runs.specs.Rows as core_rows
use Rattle.jr_runs.specs.KeyMaps.{KeyMap}
use Rattle.jr_runs.specs.Sets.{NumberSet, everything}
use Rattle.jr_runs.specs.Standing.{Self, itself, Standing, In, whole}
use Rattle.jr_runs.specs.Images.{Spots, AllSpots, lists_alone, CodeTo, SelfTo, Writable, ExpImage, TargetImage, ExpsImage, StmtImage, StmtsImage, to_literal, to_this, to_read, to_assign, to_compound, to_bump, to_signed, to_binary, to_both, to_either, to_cast, to_static_call, to_instance_call, to_super_call, to_create, to_super_constructor, to_local, to_static_field, to_field_of, to_end, to_more, to_declare, to_eval, to_branch, to_loop, to_return, to_return_nothing, to_block, to_sync, to_empty, to_no_more, to_list}
use Rattle.jr_code.specs.RunKeys.{RunKeys}
use Rattle.jr_code.specs.Coded.{Code, TargetCode}
use Rattle.jr_code.specs.CodedMembers.{MemberCode}
use Rattle.jr_code.specs.CodedStatements.{StatementCode}
use Rattle.jr_image_code.specs.CodeRelations.{IsFreeTarget, AreExpsRelated, AreStmtsRelated}
use Rattle.jr_image_code.specs.FlowImages.{FlowExp, FlowTarget, FlowExps, Bounds, FlowStmt, FlowList, flowing}
use Rattle.jr_image_code.specs.MemberCodes.{CodesTo}

module _ (r : KeyMap RunKeys) (R : core_rows.Rows RunKeys) (Spot : AllSpots RunKeys) (s : Standing RunKeys) (May : Bounds) where
  writable : (t : TargetCode) → IsFreeTarget (λ n. In n s.code.known → ⊥) t → Writable s.code t
  writable (core.local p n) free = free
  writable (core.static_field p f) free = tt
  writable (core.field_of p e f) free = tt

  this_is : s.code.self ≡ itself → (q : At RunKeys) → SelfTo {K = RunKeys} s.code.self (core.this q)
  this_is own q = subst (λ (z : Self). SelfTo {K = RunKeys} z (core.this q)) (sym own) (q, refl)

  -- behind code that writes nothing what agreed agrees
  exp_at : (A B : NumberSet) (x z : Code) → B ≡ A → ExpImage r R (Spot.exps s) s.code A x z A → ExpImage r R (Spot.exps s) s.code A x z B
  exp_at A B x z is h = subst (λ (C : NumberSet). ExpImage r R (Spot.exps s) s.code A x z C) (sym is) h

  target_at : (A B : NumberSet) (t u : TargetCode) → B ≡ A → TargetImage r R (Spot.exps s) s.code A t u A → TargetImage r R (Spot.exps s) s.code A t u B
  target_at A B t u is h = subst (λ (C : NumberSet). TargetImage r R (Spot.exps s) s.code A t u C) (sym is) h

  stmt_at : (A B : NumberSet) (x z : StatementCode) → B ≡ A → StmtImage r R Spot s A x z A → StmtImage r R Spot s A x z B
  stmt_at A B x z is h = subst (λ (C : NumberSet). StmtImage r R Spot s A x z C) (sym is) h

  pub exps_flow : AreExpsRelated r R (flowing r R Spot s May)
  unfolding FlowExp FlowTarget FlowExps
  exps_flow = record {
    of_literal = λ p q v A B is. exp_at A B _ _ is (to_literal A p q v);
    of_this = λ own p q A B is. exp_at A B _ _ is (to_this A p (core.this q) (this_is own q));
    of_read = λ p q t u h A B g. to_read A B p q t u (h A B g.0) g.1;
    of_assign = λ p q t u x z h free i A D g. to_assign A g.0 g.1 D p q t u x z (h A g.0 g.2) (writable t free) (i g.0 g.1 g.3) g.4;
    of_compound = λ p q op t u x z h free i A D g. to_compound A g.0 g.1 D p q op t u x z (h A g.0 g.2) g.3 (writable t free) (i g.0 g.1 g.4) g.5;
    of_bump = λ p q op t u h free A C g. to_bump A g.0 C p q op t u (h A g.0 g.1) g.2 (writable t free) g.3;
    of_signed = λ p q op x z h A B g. to_signed A B p q op x z (h A B g);
    of_binary = λ p q op x z y v h i A C g. to_binary A g.0 C p q op x z y v (h A g.0 g.1) (i g.0 C g.2);
    of_both = λ p q x z y v h i A D g. to_both A g.0 g.1 D p q x z y v (h A g.0 g.2) (i g.0 g.1 g.3) g.4 g.5;
    of_either = λ p q x z y v h i A D g. to_either A g.0 g.1 D p q x z y v (h A g.0 g.2) (i g.0 g.1 g.3) g.4 g.5;
    of_cast = λ p q k x z h A B g. to_cast A B p q k x z (h A B g);
    of_static_call = λ p q k es fs has h A B g. to_static_call A B p q k es fs has (h A B g);
    of_instance_call = λ p q x z k es fs has h i A C g. to_instance_call A g.0 C p q x z k es fs has (h A g.0 g.1) (i g.0 C g.2);
    of_super_call = λ p q x z k es fs has h i A C g. to_super_call A g.0 C p q x z k es fs has (h A g.0 g.1) (i g.0 C g.2);
    of_create = λ p q k c es fs has h A B g. to_create A B p q k c es fs has (h A B g);
    of_super_constructor = λ p q x z c es fs has h i A C g. to_super_constructor A g.0 C p q x z c es fs has (h A g.0 g.1) (i g.0 C g.2);
    of_local = λ p q n mine A B is. target_at A B _ _ is (to_local A p q n mine);
    of_static_field = λ p q f A B is. target_at A B _ _ is (to_static_field A p q f);
    of_field = λ p q x z f h A B g. to_field_of A B p q x z f (h A B g);
    of_no_exps = λ A B is. subst (λ (C : NumberSet). ExpsImage r R (Spot.exps s) s.code A core.Exps.end core.Exps.end C) (sym is) (to_end A);
    of_more_exps = λ x z es fs h i A C g. to_more A g.0 C x z es fs (h A g.0 g.1) (i g.0 C g.2);
  }

  pub stmts_flow : AreStmtsRelated r R (flowing r R Spot s May)
  unfolding FlowStmt FlowList
  stmts_flow = record {
    of_declare = λ p q n x z mine free h A C g. to_declare A g.0 C p q n x z (record { below = mine; unknown = free }) (h A g.0 g.1) g.2;
    of_eval = λ p q x z h A B g. to_eval A B p q x z (h A B g);
    of_branch = λ p q x z t u y v h i j A E g. to_branch A g.0 g.1 g.2 E p q x z t u y v (h A g.0 g.3) (i g.0 g.1 g.4) (j g.0 g.2 g.5) g.6 g.7;
    of_loop = λ p q x z t u h i A B g. to_loop A g.0 B g.1 p q x z t u g.2 (h g.0 B g.3) (i B g.1 g.4) g.5;
    of_return = λ p q x z h A C g. to_return A g.0 C p q x z (h A g.0 g.1);
    of_return_nothing = λ p q A B g. to_return_nothing A B p q;
    of_block = λ p q ns ms t u block h A C g. to_block A g.0 C p q ns ms t u block g.1 (h g.0 C g.2);
    of_sync = λ p q l m x z t u h i A C g. to_sync A g.0 C p q l m x z t u (h A g.0 g.1) (i g.0 C g.2);
    of_empty = λ p q A B is. stmt_at A B _ _ is (to_empty A p q);
    of_no_stmts = λ A B g. subst (λ (C : NumberSet). StmtsImage r R Spot s A core.Stmts.end core.Stmts.end C) (sym g.1) (to_no_more A);
    of_more_stmts = λ t u x z h i A C g. to_list A g.1.0 C t u x z (h A g.1.0 g.1.1) (i g.1.0 C g.1.2);
  }

-- the code of a whole member is an image as the laws on programs ask for, where the old code goes from a place at which all locals agree to
-- some other
module _ (r : KeyMap RunKeys) (R : core_rows.Rows RunKeys) (size : ℕ) (at : ℕ → ℕ) (injective : (i j : ℕ) → i < size → j < size → at i ≡ at j → i ≡ j) (May : Bounds) where
  pub code_flows : (Spot : Spots RunKeys) (old new : MemberCode) → ((i : ℕ) → i < old.params → at i ≡ i) → (B : NumberSet) → FlowList May everything old.body B
      → CodesTo (flowing r R (lists_alone Spot) (whole size at) May) size old new → CodeTo r R Spot old new
  code_flows Spot old new params_stay B flow h = record {
    size = size;
    at = at;
    injective = injective;
    params = h.0;
    params_below = h.1;
    params_stay = params_stay;
    behind = B;
    body = h.2 everything B flow;
  }
