-- An image with sets of agreeing locals holds of a node where it holds of its parts.
use Rattle.std.proofs.Common.{◌≡◌, ◌<◌, ◌≤◌, ℕ, List, Option, refl, sym, subst, arith}
use Rattle.jr_runs.specs.Keys.{At}
use Rattle.jr_runs.specs.Core as core
use Rattle.jr_runs.specs.Rows as core_rows
use Rattle.jr_runs.specs.KeyMaps.{KeyMap}
use Rattle.jr_runs.specs.Sets.{NumberSet, everything, with_one, with_all, Within}
use Rattle.jr_runs.specs.Standing.{Self, itself, Standing, In, whole}
use Rattle.jr_runs.specs.Images.{Among, Spots, AllSpots, lists_alone, CodeTo, MethodTo, SelfTo, Writable, behind_write, to_literal, to_this, to_read, to_assign, to_compound, to_bump, to_signed, to_binary, to_both, to_either, to_cast, to_static_call, to_instance_call, to_super_call, to_create, to_super_constructor, to_local, to_static_field, to_field_of, to_end, to_more, to_declare, to_eval, to_branch, to_loop, to_return, to_return_nothing, to_block, to_sync, to_empty, to_no_more, to_list}
use Rattle.jr_runs.specs.TypedImages.{IsAbove, member, TypedCodeTo}
use Rattle.jr_runs.proofs.Locals.{within_itself, within_one, within_all}
use Rattle.jr_table.specs.Keys.{ClassKey}
use Rattle.jr_code.specs.RunKeys.{RunKeys}
use Rattle.jr_code.specs.Coded.{TargetCode}
use Rattle.jr_code.specs.CodedMembers.{MemberCode}
use Rattle.jr_image_code.specs.CodeRelations.{IsFreeTarget, AreExpsRelated, AreStmtsRelated}
use Rattle.jr_image_code.specs.SetImages.{through}
use Rattle.jr_image_code.specs.MemberCodes.{CodesTo, MethodsTo}

-- what agreed agrees behind a write
behind : (A : NumberSet) (t : TargetCode) → Within A (behind_write A t)
behind A (core.local p n) = within_one A n
behind A (core.static_field p f) = within_itself A
behind A (core.field_of p e f) = within_itself A

module _ (r : KeyMap RunKeys) (R : core_rows.Rows RunKeys) (Spot : AllSpots RunKeys) (s : Standing RunKeys) (K : NumberSet) where
  writable : (t : TargetCode) → IsFreeTarget (λ n. In n s.code.known → ⊥) t → Writable s.code t
  writable (core.local p n) free = free
  writable (core.static_field p f) free = tt
  writable (core.field_of p e f) free = tt

  this_is : s.code.self ≡ itself → (q : At RunKeys) → SelfTo {K = RunKeys} s.code.self (core.this q)
  this_is own q = subst (λ (z : Self). SelfTo {K = RunKeys} z (core.this q)) (sym own) (q, refl)

  pub exps_related : AreExpsRelated r R (through r R Spot s K)
  exps_related = record {
    of_literal = λ p q v A w. (A, w, to_literal A p q v);
    of_this = λ own p q A w. (A, w, to_this A p (core.this q) (this_is own q));
    of_read = λ p q t u h A w. let a = h A w in (a.0, a.1, to_read A a.0 p q t u a.2.0 a.2.1);
    of_assign = λ p q t u x z h free i A w. let a = h A w in let b = i a.0 a.1 in
        (b.0, b.1, to_assign A a.0 b.0 b.0 p q t u x z a.2.0 (writable t free) b.2 (behind b.0 t));
    of_compound = λ p q op t u x z h free i A w. let a = h A w in let b = i a.0 a.1 in
        (b.0, b.1, to_compound A a.0 b.0 b.0 p q op t u x z a.2.0 a.2.1 (writable t free) b.2 (behind b.0 t));
    of_bump = λ p q op t u h free A w. let a = h A w in (a.0, a.1, to_bump A a.0 a.0 p q op t u a.2.0 a.2.1 (writable t free) (behind a.0 t));
    of_signed = λ p q op x z h A w. let a = h A w in (a.0, a.1, to_signed A a.0 p q op x z a.2);
    of_binary = λ p q op x z y v h i A w. let a = h A w in let b = i a.0 a.1 in (b.0, b.1, to_binary A a.0 b.0 p q op x z y v a.2 b.2);
    of_both = λ p q x z y v h i A w. let a = h A w in let b = i a.0 a.1 in (K, within_itself K, to_both A a.0 b.0 K p q x z y v a.2 b.2 a.1 b.1);
    of_either = λ p q x z y v h i A w. let a = h A w in let b = i a.0 a.1 in (K, within_itself K, to_either A a.0 b.0 K p q x z y v a.2 b.2 a.1 b.1);
    of_cast = λ p q k x z h A w. let a = h A w in (a.0, a.1, to_cast A a.0 p q k x z a.2);
    of_static_call = λ p q k es fs has h A w. let a = h A w in (a.0, a.1, to_static_call A a.0 p q k es fs has a.2);
    of_instance_call = λ p q x z k es fs has h i A w. let a = h A w in let b = i a.0 a.1 in (b.0, b.1, to_instance_call A a.0 b.0 p q x z k es fs has a.2 b.2);
    of_super_call = λ p q x z k es fs has h i A w. let a = h A w in let b = i a.0 a.1 in (b.0, b.1, to_super_call A a.0 b.0 p q x z k es fs has a.2 b.2);
    of_create = λ p q k c es fs has h A w. let a = h A w in (a.0, a.1, to_create A a.0 p q k c es fs has a.2);
    of_super_constructor = λ p q x z c es fs has h i A w. let a = h A w in let b = i a.0 a.1 in (b.0, b.1, to_super_constructor A a.0 b.0 p q x z c es fs has a.2 b.2);
    of_local = λ p q n mine A w. (A, w, (to_local A p q n mine.0, w n mine.1));
    of_static_field = λ p q f A w. (A, w, (to_static_field A p q f, tt));
    of_field = λ p q x z f h A w. let a = h A w in (a.0, a.1, (to_field_of A a.0 p q x z f a.2, tt));
    of_no_exps = λ A w. (A, w, to_end A);
    of_more_exps = λ x z es fs h i A w. let a = h A w in let b = i a.0 a.1 in (b.0, b.1, to_more A a.0 b.0 x z es fs a.2 b.2);
  }

  pub stmts_related : AreStmtsRelated r R (through r R Spot s K)
  stmts_related = record {
    of_declare = λ p q n x z mine free h A w. let a = h A w in (
      with_one a.0 n,
      (λ i g. within_one a.0 n i (a.1 i g)),
      to_declare A a.0 (with_one a.0 n) p q n x z (record { below = mine.0; unknown = free }) a.2 (within_itself (with_one a.0 n)),
    );
    of_eval = λ p q x z h A w. let a = h A w in (a.0, a.1, to_eval A a.0 p q x z a.2);
    of_branch = λ p q x z t u y v h i j A w. let a = h A w in let b = i a.0 a.1 in let c = j a.0 a.1 in (K, within_itself K, to_branch A a.0 b.0 c.0 K p q x z t u y v a.2 b.2 c.2 b.1 c.1);
    of_loop = λ p q x z t u h i A w. let a = h K (within_itself K) in let b = i a.0 a.1 in (a.0, a.1, to_loop A K a.0 b.0 p q x z t u w a.2 b.2 b.1);
    of_return = λ p q x z h A w. let a = h A w in (everything, (λ i g. refl), to_return A a.0 everything p q x z a.2);
    of_return_nothing = λ p q A w. (everything, (λ i g. refl), to_return_nothing A everything p q);
    of_block = λ p q ns ms t u block h A w. let b = h (with_all A ns) (λ i g. within_all A ns i (w i g)) in (b.0, b.1, to_block A (with_all A ns) b.0 p q ns ms t u block (within_itself (with_all A ns)) b.2);
    of_sync = λ p q l m x z t u h i A w. let a = h A w in let b = i a.0 a.1 in (b.0, b.1, to_sync A a.0 b.0 p q l m x z t u a.2 b.2);
    of_empty = λ p q A w. (A, w, to_empty A p q);
    of_no_stmts = λ A w. (A, w, to_no_more A);
    of_more_stmts = λ t u x z h i A w. let a = h A w in let b = i a.0 a.1 in (b.0, b.1, to_list A a.0 b.0 t u x z a.2 b.2);
  }

-- ---- members

-- the code of a whole member is an image as the laws on programs ask for
module _ (r : KeyMap RunKeys) (R : core_rows.Rows RunKeys) (size : ℕ) (at : ℕ → ℕ) (injective : (i j : ℕ) → i < size → j < size → at i ≡ at j → i ≡ j) (K : NumberSet) where
  pub code_to : (Spot : Spots RunKeys) (old new : MemberCode) → ((i : ℕ) → i < old.params → at i ≡ i) → CodesTo (through r R (lists_alone Spot) (whole size at) K) size old new → CodeTo r R Spot old new
  code_to Spot old new params_stay h = let body = h.2 everything (λ i g. refl) in record {
    size = size;
    at = at;
    injective = injective;
    params = h.0;
    params_below = h.1;
    params_stay = params_stay;
    behind = body.0;
    body = body.2;
  }

  pub method_to : (Spot : Spots RunKeys) (old new : core.Method RunKeys) → ((i : ℕ) → i < size → at i ≡ i) → MethodsTo (through r R (lists_alone Spot) (whole size at) K) size old new → MethodTo r R Spot old new
  method_to Spot (core.written x) (core.written z) stay h = code_to Spot x z (λ i few. stay i (below_size few h.1)) h
    where
      below_size : {i n : ℕ} → i < n → n ≤ size → i < size
      below_size few fits = omega (arith, few, fits)
  method_to Spot core.starts core.starts stay h = tt
  method_to Spot (core.written x) core.starts stay h = absurd h
  method_to Spot core.starts (core.written z) stay h = absurd h

  -- in a program whose types are known, `this` has these classes
  pub typed_code_to : (Spot : AllSpots RunKeys) (owner : Option ClassKey) (classes : List ClassKey) → ((c : ClassKey) → Among c classes → IsAbove R owner c) → (old new : MemberCode)
      → ((i : ℕ) → i < old.params → at i ≡ i) → CodesTo (through r R Spot (member classes size at) K) size old new → TypedCodeTo r R Spot owner old new
  typed_code_to Spot owner classes above old new params_stay h = let body = h.2 everything (λ i g. refl) in record {
    size = size;
    at = at;
    injective = injective;
    params = h.0;
    params_below = h.1;
    params_stay = params_stay;
    classes = classes;
    above = above;
    behind = body.0;
    body = body.2;
  }
