-- What is found by a path is the type of the expression there, or are those of arguments.
use Rattle.std.proofs.Common.{◌≡◌, ℕ, zero, suc, ◌+◌, List, [], ◌∷◌, ◌++◌, map, drop, length, Option, Some, None, refl, sym, ap, subst, ◌∙◌, inl, inr, add-one, arith}
use Rattle.std.proofs.lemmas.List.{append_assoc, append-nil}
use Rattle.std.specs.Prelude.{◌↔◌, option_map, option_and_then, slice_get}
use Rattle.jr_ast.specs.Tree as tree
use Rattle.jr_ast.specs.declared.exprs.Expr.{Expr}
use Rattle.jr_ast.specs.View.{expr_of, exprs_of}
use Rattle.jr_ast.specs.Nodes.{Node, exp, exps, word, as_exp, node_at, exp_at, exp_children}
use Rattle.jr_table.specs.Keys.{ClassKey, Ty, class}
use Rattle.jr_table.specs.TypeView.{class_key_of}
use Rattle.jr_table.specs.Rows.{Row}
use Rattle.jr_table.specs.Decls.{Decl}
use Rattle.jr_table.specs.Found.{one}
use Rattle.jr_table.specs.Lookup.{FindsCtorOf}
use Rattle.jr_table.specs.Context.{Context, scope_of, WritesType}
use Rattle.jr_table.specs.Binding.{HasType, IsClassName, IsOn, HaveTypes}
use Rattle.jr_table.specs.TypesAt.{TypeBelow, TypeInRow}
use Rattle.jr_table.specs.Meanings.{with_first}
use Rattle.jr_new_bodies.specs.declared.here.Here as raw
use Rattle.jr_new_bodies.specs.declared.meanings.Before as raw_before
use Rattle.jr_new_bodies.specs.declared.meanings.Before.TheVariants as before
use Rattle.jr_new_bodies.specs.Known.{rows_of, type_at, TypesExp, TypesRow, TypesCreation}
use Rattle.jr_new_bodies.specs.MeaningView.{IsValueIn, IsNamed, IsBefore, AreTypes, types_from}

pub iff_then : {P Q R : Type 0} → P ↔ Q → Q ↔ R → P ↔ R
iff_then a b = (λ x. b.0 (a.0 x), λ x. a.1 (b.1 x))

-- ---- the expression itself

module _ {A : Type 0} (rows : List Row) (c : Context) (e : tree.Exp A) where
  pub type_below : (t : Ty) → TypeBelow rows c e [] t ↔ HasType rows c e t
  unfolding node_at
  type_below t = (to, λ has. (e, refl, has))
    where
      inside : (x : tree.Exp A) → Some e ≡ Some x → e ≡ x
      inside x h = cc

      to : TypeBelow rows c e [] t → HasType rows c e t
      to (x, is, has) = subst (λ (y : tree.Exp A). HasType rows c y t) (sym (inside x is)) has

module _ {A : Type 0} (h : raw.Here) (c : Context) where
  pub own_type : (path : List ℕ) (e : tree.Exp A) → TypesExp h c path e → (t : Ty) → (type_at h path ≡ Some t) ↔ HasType (rows_of h) c e t
  own_type path e types t = iff_then (subst (λ p. (type_at h p ≡ Some t) ↔ TypeBelow (rows_of h) c e [] t) (append-nil path) (types [] t)) (type_below (rows_of h) c e t)

  pub value_is : (path : List ℕ) (e : tree.Exp A) (b : raw_before.Before) → IsNamed (rows_of h) c e None → TypesExp h c path e → IsValueIn (type_at h path) b → IsBefore (rows_of h) c e b
  value_is path e (before.Class k) none types is = absurd is
  value_is path e (before.Value k) none types is = (none, (own_type path e types (class (class_key_of k.now))).0 is)
  value_is path e before.Neither none types is = λ k on. elim on [
    | inl named ↦ none k named
    | inr typed ↦ is k ((own_type path e types (class k)).1 typed.1)
  ]

-- ---- parts of a node

module _ (h : raw.Here) (path : List ℕ) where
  -- a part, from what is known of the node
  pub part : (i : ℕ) (P : List ℕ → Ty → Type 0) → ((q : List ℕ) (t : Ty) → (type_at h (path ++ i ∷ q) ≡ Some t) ↔ P q t) → (q : List ℕ) (t : Ty) → (type_at h ((path ++ i ∷ []) ++ q) ≡ Some t) ↔ P q t
  part i P at q t = subst (λ p. (type_at h p ≡ Some t) ↔ P q t) (sym (append_assoc path (i ∷ []) q)) (at q t)

module _ {A : Type 0} (rows : List Row) (c : Context) where
  -- the type of an argument, by its number
  abbrev pub BelowRow : tree.Exps A → (step : ℕ) → List ℕ → Ty → Type 0
  BelowRow es step q t = (x : tree.Exp A) × (option_and_then as_exp (option_and_then (λ n. node_at n q) (slice_get (exps es) step)) ≡ Some x) × HasType rows c x t

  pub row_below : (es : tree.Exps A) (step : ℕ) (q : List ℕ) (t : Ty) → BelowRow es step q t ↔ TypeInRow rows c es step q t
  row_below tree.end step q t = (λ x. let e = x.1 in absurd cc, λ x. absurd x)
  row_below (tree.more e es) zero q t = (λ x. x, λ x. x)
  row_below (tree.more e es) (suc n) q t = row_below es n q t

module _ {A : Type 0} (h : raw.Here) (c : Context) (path : List ℕ) where
  -- the arguments of a node, before which one part stands, or two
  pub row_one : (es : tree.Exps A) → ((step : ℕ) (q : List ℕ) (t : Ty) → (type_at h (path ++ suc step ∷ q) ≡ Some t) ↔ BelowRow (rows_of h) c es step q t) → TypesRow h c path 1 es
  row_one es at n step is lt q t =
      let e : suc step ≡ n = omega (arith, is) in
      iff_then (subst (λ k. (type_at h (path ++ k ∷ q) ≡ Some t) ↔ BelowRow (rows_of h) c es step q t) e (at step q t)) (row_below (rows_of h) c es step q t)

  pub row_two : (es : tree.Exps A) → ((step : ℕ) (q : List ℕ) (t : Ty) → (type_at h (path ++ suc (suc step) ∷ q) ≡ Some t) ↔ BelowRow (rows_of h) c es step q t) → TypesRow h c path 2 es
  row_two es at n step is lt q t =
      let e : suc (suc step) ≡ n = omega (arith, is) in
      iff_then (subst (λ k. (type_at h (path ++ k ∷ q) ≡ Some t) ↔ BelowRow (rows_of h) c es step q t) e (at step q t)) (row_below (rows_of h) c es step q t)

  -- the first of them, and the rest
  pub row_first : (first : ℕ) (e : tree.Exp A) (es : tree.Exps A) → TypesRow h c path first (tree.more e es) → TypesExp h c (path ++ first ∷ []) e
  row_first first e es types = part h path first (λ q t. TypeBelow (rows_of h) c e q t) (λ q t. types first 0 (omega arith) (omega arith) q t)

  pub row_rest : (first : ℕ) (e : tree.Exp A) (es : tree.Exps A) → TypesRow h c path first (tree.more e es) → TypesRow h c path (first + 1) es
  row_rest first e es types n step is lt q t = types n (suc step) (omega (arith, is)) (omega (arith, lt)) q t

-- ---- the types of all arguments

first_none : (x : Option Ty) (y : Option (List Ty)) → with_first x y ≡ Some [] → ⊥
first_none None y e = absurd cc
first_none (Some t) None e = absurd cc
first_none (Some t) (Some ts) e = absurd cc

first_iff : (x : Option Ty) (y : Option (List Ty)) (t : Ty) (ts : List Ty) → (with_first x y ≡ Some (t ∷ ts)) ↔ ((x ≡ Some t) × (y ≡ Some ts))
first_iff None y t ts = (λ e. absurd cc, λ h. let x = h.0 in absurd cc)
first_iff (Some u) None t ts = (λ e. absurd cc, λ h. let x = h.1 in absurd cc)
first_iff (Some u) (Some us) t ts = (λ e. let i : u ≡ t = cc in let j : us ≡ ts = cc in (ap Some i, ap Some j), λ h. let x = h.0 in let y = h.1 in cc)

module _ (h : raw.Here) (path : List ℕ) where
  abbrev pub part_type : ℕ → Option Ty
  part_type n = type_at h (path ++ n ∷ [])

module _ {A : Type 0} (h : raw.Here) (c : Context) (path : List ℕ) where
  types_iff : (parts : List (Expr A)) (first : ℕ) → TypesRow h c path first (exprs_of parts) → (ts : List Ty) → (types_from (part_type h path) first parts ≡ Some ts) ↔ HaveTypes (rows_of h) c (exprs_of parts) ts
  unfolding types_from HaveTypes
  types_iff [] first types ts = (λ e. let i : [] ≡ ts = cc in sym i, λ e. ap Some (sym e))
  types_iff (x ∷ xs) first types [] = (λ e. first_none ((part_type h path) first) (types_from (part_type h path) (suc first) xs) e, λ e. absurd e)
  types_iff (x ∷ xs) first types (t ∷ ts) =
      let one = iff_then (types first 0 (omega arith) (omega arith) [] t) (type_below (rows_of h) c (expr_of x) t) in
      let others = types_iff xs (suc first) (λ n step is lt q u. types n (suc step) (omega (arith, is)) (omega (arith, lt)) q u) ts in
      let both = first_iff ((part_type h path) first) (types_from (part_type h path) (suc first) xs) t ts in
      (λ e. let p = both.0 e in (one.0 p.0, others.0 p.1), λ have. both.1 (one.1 have.0, others.1 have.1))

  pub are_types : (parts : List (Expr A)) (first : ℕ) → TypesRow h c path first (exprs_of parts) → (o : Option (List Ty)) → o ≡ types_from (part_type h path) first parts → AreTypes (rows_of h) c (exprs_of parts) o
  are_types parts first types None is = λ ts have. let e = is ∙ (types_iff parts first types ts).1 have in absurd cc
  are_types parts first types (Some ts) is = (types_iff parts first types ts).0 (sym is)

-- ---- a list of types that grows

abbrev pub with_all : List Ty → Option (List Ty) → Option (List Ty)
with_all xs None = None
with_all xs (Some ys) = Some (xs ++ ys)

pub all_none : (ts : Option (List Ty)) → with_all [] ts ≡ ts
all_none None = refl
all_none (Some ts) = refl

pub all_end : (xs : List Ty) → with_all xs (Some []) ≡ Some xs
all_end xs = ap Some (append-nil xs)

pub all_more : (xs : List Ty) (t : Ty) (ts : Option (List Ty)) → with_all xs (with_first (Some t) ts) ≡ with_all (xs ++ t ∷ []) ts
all_more xs t None = refl
all_more xs t (Some ts) = ap Some (sym (append_assoc xs (t ∷ []) ts))

pub all_lost : (xs : List Ty) (ts : Option (List Ty)) → with_all xs (with_first None ts) ≡ None
all_lost xs None = refl
all_lost xs (Some ts) = refl

-- one by one
module _ {A : Type 0} (f : ℕ → Option Ty) (done : List Ty) (step : ℕ) (rest : List A) (whole : Option (List Ty)) (so_far : with_all done (types_from f step rest) ≡ whole) where
  pub types_lost : (x : A) (xs : List A) → rest ≡ x ∷ xs → f step ≡ None → None ≡ whole
  unfolding types_from
  types_lost x xs is none =
      sym (all_lost done (types_from f (suc step) xs)) ∙ (λ i. with_all done (with_first (sym none i) (types_from f (suc step) xs))) ∙ ap (λ ys. with_all done (types_from f step ys)) (sym is) ∙ so_far

  pub types_go : (x : A) (xs : List A) (t : Ty) (next : ℕ) (more : List Ty) → rest ≡ x ∷ xs → f step ≡ Some t → next ≡ step + 1 → more ≡ done ++ t ∷ [] → with_all more (types_from f next xs) ≡ whole
  unfolding types_from
  types_go x xs t next more is some later put =
      (λ i. with_all (put i) (types_from f ((later ∙ add-one step) i) xs)) ∙ sym (all_more done t (types_from f (suc step) xs))
      ∙ (λ i. with_all done (with_first (sym some i) (types_from f (suc step) xs))) ∙ ap (λ ys. with_all done (types_from f step ys)) (sym is) ∙ so_far

  pub types_end : rest ≡ [] → Some done ≡ whole
  unfolding types_from
  types_end is = sym (all_end done) ∙ ap (λ ys. with_all done (types_from f step ys)) (sym is) ∙ so_far

-- ---- the class of a creation

module _ {A : Type 0} (h : raw.Here) (c : Context) (path : List ℕ) (of : tree.TypeName A) (args : tree.Exps A) (types : TypesCreation h c path of args) where
  pub writes_is : (k : ClassKey) → type_at h path ≡ Some (class k) → WritesType (rows_of h) (scope_of c) of (class k)
  writes_is k is = let x = (types (class k)).0 is in subst (λ u. WritesType (rows_of h) (scope_of c) of u) (sym x.4) x.2

  pub creation_at : (k : ClassKey) (d : Decl) (ts : List Ty) → WritesType (rows_of h) (scope_of c) of (class k) → HaveTypes (rows_of h) c args ts → FindsCtorOf (rows_of h) (scope_of c) k ts (one d) → type_at h path ≡ Some (class k)
  creation_at k d ts writes have finds = (types (class k)).1 (k, d, writes, inl (ts, have, finds), refl)
