-- What a value of a type of binding may stand for, among the types of runs.
use Rattle.std.proofs.Common.{◌≡◌, ℕ, List, [], ◌∷◌, Option, Some, None, refl, sym, ap, subst, ◌∙◌, inl, inr}
use Rattle.std.specs.Prelude.{◌⊎◌, IsTrue, codes, option_and_then}
use Rattle.jr_runs.specs.Values as value
use Rattle.jr_runs.specs.Values.{int_type, boolean_type, reference}
use Rattle.jr_runs.specs.Rows as core
use Rattle.jr_runs.specs.Typing.{Gives}
use Rattle.jr_table.specs.Keys.{ClassKey, FieldKey, MethodKey, Ty, int, boolean, void, null, class}
use Rattle.jr_table.specs.Decls.{Decl, class_decl, field_decl, method_decl}
use Rattle.jr_table.specs.Rows.{Row}
use Rattle.jr_table.specs.declared.entries.Entry.{Entry}
use Rattle.jr_table.specs.Entries.{IsRowOf, number_of, params_of, entries_of}
use Rattle.jr_table.specs.Conditions.{AreRows, as_superclass}
use Rattle.jr_table.specs.Chains.{IsChain, GoesUp, In, IsSubclassAt, parent_of, chain_of}
use Rattle.jr_table.proofs.RowLaws.{entry_stands, acyclic_rows, the_number}
use Rattle.jr_table.specs.Keyed.{IsSubclass, Widens, IsAssignable}
use Rattle.jr_table.specs.Context.{Context, IsTypeOf}
use Rattle.jr_table.specs.ExpressionRules.{IsReference}
use Rattle.jr_table.specs.Prelude.{top_key}
use Rattle.jr_code.specs.RunKeys.{RunKeys}
use Rattle.jr_code.specs.RunRows.{run_type, held_type, AreRunRows}

abbrev pub RunTy : Type 0
RunTy = value.Ty RunKeys

-- a type that values have
abbrev pub Proper : Ty → Type 0
Proper t = (W : RunTy) × (run_type t ≡ Some W)

abbrev pub AllProper : List Ty → Type 0
AllProper [] = Unit {0}
AllProper (t ∷ ts) = Proper t × AllProper ts

-- what the types of a program's rows are
pub record ProperRows (rows : List Row) : Type 0 where
  pub field : (k : FieldKey) (j : ℕ) (i : IsRowOf rows (field_decl k) j) (t : Ty) → i.row.type ≡ Some t → Proper t
  pub result : (k : MethodKey) (j : ℕ) (i : IsRowOf rows (method_decl k) j) (t : Ty) → i.row.type ≡ Some t → Proper t ⊎ (t ≡ void)
  pub params : (d : Decl) (j : ℕ) → IsRowOf rows d j → AllProper (params_of d)

-- ---- superclasses of superclasses

module _ (rows : List Row) (are : AreRows rows) where
  pub subclass_trans : (a b c : ClassKey) → IsSubclass rows a b → IsSubclass rows b c → IsSubclass rows a c
  subclass_trans a b c x y = record {
    c = x.c;
    d = y.d;
    below = x.below;
    over = y.over;
    climbs = climb x.c x.climbs.chain x.climbs.goes_up x.climbs.among;
  }
    where
      same : x.d ≡ y.c
      same = are.one_each (class_decl b) x.d y.c x.over y.below

      up : (o : Option ℕ) (n : ℕ) (ds : List ℕ) → parent_of (entries_of rows) n ≡ o → ((p : ℕ) → IsChain (entries_of rows) p ds → IsSubclassAt (entries_of rows) p y.d) → (ds ≡ [] → ⊥) → GoesUp o ds (λ p. IsChain (entries_of rows) p ds) → IsSubclassAt (entries_of rows) n y.d
      up None n ds is more some h = absurd (some h)
      up (Some p) n ds is more some h =
          let rest = more p h in
          record { chain = n ∷ rest.chain; goes_up = (refl, subst (λ (o : Option ℕ). GoesUp o rest.chain (λ q. IsChain (entries_of rows) q rest.chain)) (sym is) rest.goes_up); among = inr rest.among }

      climb : (n : ℕ) (ds : List ℕ) → IsChain (entries_of rows) n ds → In ds x.d → IsSubclassAt (entries_of rows) n y.d
      climb n [] goes among = absurd among
      climb n (e ∷ ds) goes (inl is) = subst (λ (m : ℕ). IsSubclassAt (entries_of rows) m y.d) (sym (goes.0 ∙ is ∙ same)) y.climbs
      climb n (e ∷ ds) goes (inr later) = up (parent_of (entries_of rows) n) n ds refl (λ p h. climb p ds h later) (λ e. subst (λ (zs : List ℕ). In zs x.d) e later) goes.1

  -- a direct superclass
  pub parent_above : (c p : ClassKey) (j : ℕ) (i : IsRowOf rows (class_decl c) j) → i.row.parent ≡ Some p → IsSubclass rows c p
  parent_above c p j i is = record {
    c = j;
    d = over.0;
    below = i;
    over = over.1;
    climbs = record { chain = j ∷ chain_of (entries_of rows) over.0; goes_up = (refl, subst (λ (o : Option ℕ). GoesUp o (chain_of (entries_of rows) over.0) (λ q. IsChain (entries_of rows) q (chain_of (entries_of rows) over.0))) (sym up) (acyclic_rows rows are over.0)); among = inr (first (chain_of (entries_of rows) over.0) (acyclic_rows rows are over.0)) };
  }
    where
      over : (n : ℕ) × IsRowOf rows (class_decl p) n
      over = are.named j i.row p i.stands (as_superclass is)

      up : parent_of (entries_of rows) j ≡ Some over.0
      up = ap (option_and_then (λ (r : Entry). r.parent)) (entry_stands rows j i.row i.stands) ∙ ap (option_and_then (λ (k : ClassKey). number_of rows (class_decl k))) is ∙ the_number rows are (class_decl p) over.0 over.1

      first : (ds : List ℕ) → IsChain (entries_of rows) over.0 ds → In ds over.0
      first [] h = absurd h
      first (d ∷ ds) h = inl (sym h.0)

  pub assigns_trans : (s t u : Ty) → IsAssignable rows s t → IsAssignable rows t u → IsAssignable rows s u
  assigns_trans s t u (inl e) h = subst (λ (z : Ty). IsAssignable rows z u) (sym e) h
  assigns_trans s t u (inr w) (inl e) = subst (λ (z : Ty). IsAssignable rows s z) e (inr w)
  assigns_trans (class a) (class b) (class c) (inr w) (inr v) = inr (subclass_trans a b c w v)
  assigns_trans null (class b) (class c) (inr w) (inr v) = inr tt
  assigns_trans null (class b) int (inr w) (inr v) = absurd v
  assigns_trans null (class b) boolean (inr w) (inr v) = absurd v
  assigns_trans null (class b) void (inr w) (inr v) = absurd v
  assigns_trans null (class b) null (inr w) (inr v) = absurd v
  assigns_trans (class a) (class b) int (inr w) (inr v) = absurd v
  assigns_trans (class a) (class b) boolean (inr w) (inr v) = absurd v
  assigns_trans (class a) (class b) void (inr w) (inr v) = absurd v
  assigns_trans (class a) (class b) null (inr w) (inr v) = absurd v
  assigns_trans int t u (inr w) h = absurd w
  assigns_trans boolean t u (inr w) h = absurd w
  assigns_trans void t u (inr w) h = absurd w
  assigns_trans null int u (inr w) h = absurd w
  assigns_trans null boolean u (inr w) h = absurd w
  assigns_trans null void u (inr w) h = absurd w
  assigns_trans null null u (inr w) h = absurd w
  assigns_trans (class a) int u (inr w) h = absurd w
  assigns_trans (class a) boolean u (inr w) h = absurd w
  assigns_trans (class a) void u (inr w) h = absurd w
  assigns_trans (class a) null u (inr w) h = absurd w

module _ (rows : List Row) where
  -- a value of the first may stand where one of the second is wanted
  abbrev pub Goes : Ty → RunTy → Type 0
  Goes t V = (u : Ty) × IsAssignable rows t u × (run_type u ≡ Some V)

  -- what is claimed of a value of one of these types
  abbrev pub Claims : (Ty → Type 0) → Option RunTy → Type 0
  Claims H None = Unit {0}
  Claims H (Some V) = (t : Ty) × H t × Goes t V

  pub itself : (t : Ty) (V : RunTy) → run_type t ≡ Some V → Goes t V
  itself t V e = (t, inl refl, e)

  pub goes_class : (k : ClassKey) (V : RunTy) → Goes (class k) V → (d : ClassKey) × (V ≡ reference d) × ((k ≡ d) ⊎ IsSubclass rows k d)
  goes_class k V (u, inl same, e) = (let p : Some (reference k) ≡ Some V = ap run_type same ∙ e in let q : reference k ≡ V = cc in (k, sym q, inl refl))
  goes_class k V (class d, inr w, e) = (let p : Some (reference d) ≡ Some V = e in let q : reference d ≡ V = cc in (d, sym q, inr w))
  goes_class k V (int, inr w, e) = absurd w
  goes_class k V (boolean, inr w, e) = absurd w
  goes_class k V (void, inr w, e) = absurd w
  goes_class k V (null, inr w, e) = absurd w

  pub goes_null : (V : RunTy) → Goes null V → (d : ClassKey) × (V ≡ reference d)
  goes_null V (u, inl same, e) = (let p : None ≡ Some V = ap run_type same ∙ e in absurd cc)
  goes_null V (class d, inr w, e) = (let p : Some (reference d) ≡ Some V = e in let q : reference d ≡ V = cc in (d, sym q))
  goes_null V (int, inr w, e) = absurd w
  goes_null V (boolean, inr w, e) = absurd w
  goes_null V (void, inr w, e) = absurd w
  goes_null V (null, inr w, e) = absurd w

  pub goes_int : (V : RunTy) → Goes int V → V ≡ int_type
  goes_int V (u, inl same, e) = (let p : Some int_type ≡ Some V = ap run_type same ∙ e in cc)
  goes_int V (u, inr w, e) = absurd w

  pub goes_boolean : (V : RunTy) → Goes boolean V → V ≡ boolean_type
  goes_boolean V (u, inl same, e) = (let p : Some boolean_type ≡ Some V = ap run_type same ∙ e in cc)
  goes_boolean V (u, inr w, e) = absurd w

  -- a type of runs for what is compared
  pub some_run : (t : Ty) → IsReference t → (V : RunTy) × Goes t V
  some_run (class k) h = (reference k, itself (class k) (reference k) refl)
  some_run null h = (reference (top_key (codes "Object")), (class (top_key (codes "Object")), inr tt, refl))
  some_run int h = absurd h
  some_run boolean h = absurd h
  some_run void h = absurd h

  module _ (R : core.Rows RunKeys) (run : AreRunRows rows R) where
    below : (c d : ClassKey) → (c ≡ d) ⊎ IsSubclass rows c d → IsTrue (R.is_subclass c d)
    below c d h = (run.is_subclass c d).1 h

    -- a claim of what has the type W
    pub gives : (t : Ty) (W V : RunTy) → run_type t ≡ Some W → Goes t V → Gives R (Some W) (Some V)
    gives t W V e (u, inl same, f) =
        let p : Some W ≡ Some V = sym e ∙ ap run_type same ∙ f in
        let q : W ≡ V = cc in
        subst (λ (z : RunTy). Gives R (Some W) (Some z)) q (by W)
      where
        by : (W : RunTy) → Gives R (Some W) (Some W)
        by int_type = refl
        by boolean_type = refl
        by (reference k) = below k k (inl refl)
    gives (class c) W V e (class d, inr w, f) =
        let p : Some (reference c) ≡ Some W = e in
        let q : Some (reference d) ≡ Some V = f in
        let m : reference c ≡ W = cc in
        let n : reference d ≡ V = cc in
        subst (λ (z : RunTy). Gives R (Some z) (Some V)) m (subst (λ (z : RunTy). Gives R (Some (reference c)) (Some z)) n (below c d (inr w)))
    gives null W V e (u, inr w, f) = absurd cc
    gives void W V e (u, inr w, f) = absurd w
    gives int W V e (u, inr w, f) = absurd w
    gives boolean W V e (u, inr w, f) = absurd w
    gives (class c) W V e (int, inr w, f) = absurd w
    gives (class c) W V e (boolean, inr w, f) = absurd w
    gives (class c) W V e (void, inr w, f) = absurd w
    gives (class c) W V e (null, inr w, f) = absurd w

    pub gives_claim : (H : Ty → Type 0) (W : RunTy) → ((t : Ty) → H t → run_type t ≡ Some W) → (T : Option RunTy) → Claims H T → Gives R (Some W) T
    gives_claim H W is None h = tt
    gives_claim H W is (Some V) (t, h, goes) = gives t W V (is t h) goes

    -- of what may be void, or is a proper type
    pub gives_result : (H : Ty → Type 0) (o : Option RunTy) → ((t : Ty) → H t → (o ≡ run_type t) × (Proper t ⊎ (t ≡ void))) → (T : Option RunTy) → Claims H T → Gives R o T
    gives_result H o is None h = tt
    gives_result H o is (Some V) (t, h, goes) = by (is t h).1
      where
        void_no : t ≡ void → Goes t V → ⊥
        void_no e (u, inl same, f) = (let p : None ≡ Some V = ap run_type (sym e ∙ same) ∙ f in cc)
        void_no e (u, inr w, f) = subst (λ (z : Ty). Widens rows z u) e w

        by : Proper t ⊎ (t ≡ void) → Gives R o (Some V)
        by (inl (W, e)) = subst (λ (z : Option RunTy). Gives R z (Some V)) (sym ((is t h).0 ∙ e)) (gives t W V e goes)
        by (inr e) = absurd (void_no e goes)

    -- the type of a field's values
    pub field_type_is : ProperRows rows → (c : Context) (k : FieldKey) (t : Ty) → IsTypeOf rows c (field_decl k) t → run_type t ≡ Some (R.field_type k)
    field_type_is proper c k t (j, i, is) =
        let W = proper.field k j i t is in
        let held : R.field_type k ≡ W.0 = run.field_type k j i ∙ ap (λ (o : Option Ty). held_type (option_and_then run_type o)) is ∙ ap held_type W.1 in
        W.1 ∙ ap Some (sym held)
