-- Which locals agree before and behind an expression's way, do so before and behind its code.
use Rattle.std.proofs.Common.{◌≡◌, ℕ, ◌+◌, Bool, true, false, ◌||◌, not, IsTrue, Option, Some, None, refl, sym, ◌∙◌, subst}
use Rattle.jr_ast.specs.declared.operators.BinOp.{BinOp}
use Rattle.jr_ast.specs.declared.operators.BinOp.TheVariants.{Or, And, Eq, Ne, Lt, Gt, Le, Ge, Add, Sub, Mul, Div, Rem}
use Rattle.jr_ast.specs.Tree as tree
use Rattle.jr_runs.specs.Keys.{Keys, At}
use Rattle.jr_runs.specs.Core as core
use Rattle.jr_runs.specs.Core.{Exp, Target, Exps, Operator, equal, different, comparison, arithmetic, less, greater, at_most, at_least, add, subtract, multiply, divide, remainder, Arithmetic, Bump}
use Rattle.jr_cover.specs.Facts.{Variable, is_local, is_static_field, is_instance_field, Called, is_static_method, is_instance_method, Created}
use Rattle.jr_runs.specs.Translation.{operation, arithmetic_of, bump_of}
use Rattle.jr_cover.specs.Translation.{exp_code, target_code, exps_code, named_target, field_target, super_target, read_of, assign_of, compound_of, bump_at, call_at, super_call_at, create_at, class_literal_at, cast_at, mark_of_type}
use Rattle.jr_runs.specs.Sets.{NumberSet, Within}
use Rattle.jr_runs.specs.Images.{Readable, behind_write}
use Rattle.jr_cover.specs.Ways.{Way, pass, row, fork, size}
use Rattle.jr_cover.specs.Sites.{What, Site, at_place, Known, unless, is_class_name, load_of, store_of, field_load, field_store, field_check, divisor_check, is_nonzero, divides, mark_of, operands, exp_way, exps_way, operand_way, target_load, target_check, target_store}
use Rattle.jr_unused_locals.specs.SiteLocals.{is_write}
use Rattle.jr_unused_locals.specs.Bindings.{IsThere, UnlessClass, FieldBinds, CallBinds, SuperBinds, CastBinds, ExpBinds, ExpsBind, TargetBinds}
use Rattle.jr_unused_locals.specs.CodeAgreement.{ExpAgrees, TargetAgrees, ExpsAgree}
use Rattle.jr_unused_locals.proofs.Families.{Told, Oks, oks_pass, oks_row, oks_fork, oks_still, oks_read, oks_write, oks_check}

-- what is said of an operand that is no class
not_class : {T : Type 0} (b : Bool) → b ≡ false → UnlessClass b T → T
not_class true e h = absurd (no e)
  where
    no : true ≡ false → ⊥
    no d = cc
not_class false e h = h

module _ {K : Keys} {A : Type 0} (X : Known K A) (r w : ℕ → ℕ → Bool) where
  -- the code agrees wherever its way does
  abbrev Keeps : Way (Site K) → Exp K → Type 0
  Keeps a e = (n : ℕ) → Told r w n a → (B C : NumberSet) → Oks r w n a B C → ExpAgrees e B C

  abbrev KeepsAll : Way (Site K) → Exps K → Type 0
  KeepsAll a es = (n : ℕ) → Told r w n a → (B C : NumberSet) → Oks r w n a B C → ExpsAgree es B C

  -- a way that writes no local, and has no branches
  abbrev Same : Way (Site K) → Type 0
  Same a = (n : ℕ) → Told r w n a → (B C : NumberSet) → Oks r w n a B C → B ≡ C

  pass_same : Same pass
  pass_same n t B C h = oks_pass r w n B C h

  site_same : (p : K.place) (d : What K) → ((x : ℕ) → is_write x d ≡ false) → Same (at_place p d)
  site_same p d q n t B C h = oks_still r w n (record { at = p; what = d }) q t B C h

  check_same : (b : Bool) (p : K.place) → Same (unless b (at_place p What.checks))
  check_same b p n t B C h = oks_check r w n b p t B C h

  row_same : (a b : Way (Site K)) → Same a → Same b → Same (row a b)
  row_same a b u v n t B D h =
      let m = oks_row r w n a b B D h in
      u n t.0 B m.0 m.1 ∙ v (n + size a) t.1 m.0 D m.2

  -- ---- what is read, assigned or bumped

  -- its operand's way, that of a load (with the test for null), that test alone, and that of a store
  record Aims (op load_way check_way store_way : Way (Site K)) (c : Target K) : Type 0 where
    operand : (n : ℕ) → Told r w n op → (B C : NumberSet) → Oks r w n op B C → TargetAgrees c B C
    loaded : (n : ℕ) → Told r w n load_way → (B C : NumberSet) → Oks r w n load_way B C → (B ≡ C) × Readable B c
    checked : Same check_way
    stored : (n : ℕ) → Told r w n store_way → (B C : NumberSet) → Oks r w n store_way B C → Within C (behind_write B c)

  abbrev HasAim : (op load_way check_way store_way : Way (Site K)) → Option (Target K) → Type 0
  HasAim op lw cw sw None = ⊥
  HasAim op lw cw sw (Some c) = Aims op lw cw sw c

  local_aims : (p : K.place) (i : ℕ) → Aims pass (at_place p (What.reads i)) pass (at_place p (What.writes i)) (core.local (Some p) i)
  local_aims p i = record {
    operand = pass_same;
    loaded = λ n t B C h. let u = oks_read r w n p i t B C h in (u.0, subst (λ (Z : NumberSet). IsTrue (Z i)) (sym u.0) u.1);
    checked = pass_same;
    stored = λ n t B C h. oks_write r w n p i t B C h;
  }

  static_aims : (op lw cw sw : Way (Site K)) (p : K.place) (f : K.field) → Same op → Same lw → Same cw → Same sw → Aims op lw cw sw (core.static_field (Some p) f)
  static_aims op lw cw sw p f o l c s = record {
    operand = o;
    loaded = λ n t B C h. (l n t B C h, tt);
    checked = c;
    stored = λ n t B C h. subst (λ (Z : NumberSet). Within Z B) (s n t B C h) (λ x q. q);
  }

  object_aims : (op lw cw sw : Way (Site K)) (p : K.place) (e : Exp K) (f : K.field) → Keeps op e → Same lw → Same cw → Same sw → Aims op lw cw sw (core.field_of (Some p) e f)
  object_aims op lw cw sw p e f o l c s = record {
    operand = o;
    loaded = λ n t B C h. (l n t B C h, tt);
    checked = c;
    stored = λ n t B C h. subst (λ (Z : NumberSet). Within Z B) (s n t B C h) (λ x q. q);
  }

  load_same : (p : K.place) (f : K.field) → Same (at_place p (What.loads f))
  load_same p f = site_same p (What.loads f) (λ x. refl)

  store_same : (p : K.place) (f : K.field) → Same (at_place p (What.stores f))
  store_same p f = site_same p (What.stores f) (λ x. refl)

  call_same : (p : K.place) → Same (at_place p What.calls)
  call_same p = site_same p What.calls (λ x. refl)

  name_aims : (p : K.place) (v : Option (Variable K)) → IsThere v → HasAim pass (load_of p v) pass (store_of p v) (named_target p v)
  name_aims p None h = absurd h
  name_aims p (Some (is_local n)) h = local_aims p n
  name_aims p (Some (is_static_field f)) h = static_aims pass (at_place p (What.loads f)) pass (at_place p (What.stores f)) p f pass_same (load_same p f) pass_same (store_same p f)
  name_aims p (Some (is_instance_field f)) h = object_aims pass (at_place p (What.loads f)) pass (at_place p (What.stores f)) p (core.this None) f pass_same (load_same p f) pass_same (store_same p f)

  super_aims : (p : K.place) (v : Option (Variable K)) → SuperBinds v → HasAim pass (field_load p v) pass (field_store p v) (super_target p v)
  super_aims p None h = absurd h
  super_aims p (Some (is_local n)) h = absurd h
  super_aims p (Some (is_static_field f)) h = static_aims pass (at_place p (What.loads f)) pass (at_place p (What.stores f)) p f pass_same (load_same p f) pass_same (store_same p f)
  super_aims p (Some (is_instance_field f)) h = object_aims pass (at_place p (What.loads f)) pass (at_place p (What.stores f)) p (core.this None) f pass_same (load_same p f) pass_same (store_same p f)

  -- Behind a dot. b: is the left part a class? k: is it never null?
  behind_dot : (b k : Bool) (ew : Way (Site K)) (e : Exp K) (p : K.place) (v : Option (Variable K)) → FieldBinds b v → (b ≡ false → Keeps ew e)
      → HasAim (unless b ew) (row (field_check (unless (b || k) (at_place p What.checks)) v) (field_load p v)) (field_check (unless (b || k) (at_place p What.checks)) v) (field_store p v) (field_target p e v)
  behind_dot true k ew e p None h g = absurd h
  behind_dot false k ew e p None h g = absurd h
  behind_dot true k ew e p (Some (is_local n)) h g = absurd h
  behind_dot false k ew e p (Some (is_local n)) h g = absurd h
  behind_dot true k ew e p (Some (is_static_field f)) h g = static_aims pass (row pass (at_place p (What.loads f))) pass (at_place p (What.stores f)) p f pass_same (row_same pass (at_place p (What.loads f)) pass_same (load_same p f)) pass_same (store_same p f)
  behind_dot false k ew e p (Some (is_static_field f)) h g = absurd h
  behind_dot true k ew e p (Some (is_instance_field f)) h g = absurd h
  behind_dot false k ew e p (Some (is_instance_field f)) h g =
      object_aims ew (row (unless k (at_place p What.checks)) (at_place p (What.loads f))) (unless k (at_place p What.checks)) (at_place p (What.stores f)) p e f (g refl)
      (row_same (unless k (at_place p What.checks)) (at_place p (What.loads f)) (check_same k p) (load_same p f)) (check_same k p) (store_same p f)

  -- ---- uses of a target

  reading : (op lw cw sw : Way (Site K)) (p : K.place) (c : Option (Target K)) → HasAim op lw cw sw c → Keeps (row op lw) (read_of p c)
  reading op lw cw sw p None a n t B D h = absurd a
  reading op lw cw sw p (Some c) a n t B D h =
      let m = oks_row r w n op lw B D h in
      let l = a.loaded (n + size op) t.1 m.0 D m.2 in
      (subst (λ (Z : NumberSet). TargetAgrees c B Z) l.0 (a.operand n t.0 B m.0 m.1), subst (λ (Z : NumberSet). Readable Z c) l.0 l.1)

  assigning : (op lw cw sw ew : Way (Site K)) (p : K.place) (c : Option (Target K)) (e : Exp K) → HasAim op lw cw sw c → Keeps ew e → Keeps (row op (row ew (row cw sw))) (assign_of p c e)
  assigning op lw cw sw ew p None e a g n t B D h = absurd a
  assigning op lw cw sw ew p (Some c) e a g n t B D h =
      let x = oks_row r w n op (row ew (row cw sw)) B D h in
      let y = oks_row r w (n + size op) ew (row cw sw) x.0 D x.2 in
      let z = oks_row r w (n + size op + size ew) cw sw y.0 D y.2 in
      let q : y.0 ≡ z.0 = a.checked (n + size op + size ew) t.1.1.0 y.0 z.0 z.1 in (
        x.0,
        y.0,
        a.operand n t.0 B x.0 x.1,
        g (n + size op) t.1.0 x.0 y.0 y.1,
        subst (λ (Z : NumberSet). Within D (behind_write Z c)) (sym q) (a.stored (n + size op + size ew + size cw) t.1.1.1 z.0 D z.2),
      )

  changing : (op lw cw sw ew dw : Way (Site K)) (p : K.place) (o : Option Arithmetic) (c : Option (Target K)) (e : Exp K) → IsThere o → HasAim op lw cw sw c → Keeps ew e → Same dw → Keeps (row op (row lw (row ew (row dw sw)))) (compound_of p o c e)
  changing op lw cw sw ew dw p None c e i a g d n t B D h = absurd i
  changing op lw cw sw ew dw p (Some o) None e i a g d n t B D h = absurd a
  changing op lw cw sw ew dw p (Some o) (Some c) e i a g d n t B D h =
      let x = oks_row r w n op (row lw (row ew (row dw sw))) B D h in
      let y = oks_row r w (n + size op) lw (row ew (row dw sw)) x.0 D x.2 in
      let l = a.loaded (n + size op) t.1.0 x.0 y.0 y.1 in
      let z = oks_row r w (n + size op + size lw) ew (row dw sw) y.0 D y.2 in
      let u = oks_row r w (n + size op + size lw + size ew) dw sw z.0 D z.2 in
      let q : z.0 ≡ u.0 = d (n + size op + size lw + size ew) t.1.1.1.0 z.0 u.0 u.1 in (
        y.0,
        z.0,
        subst (λ (Z : NumberSet). TargetAgrees c B Z) l.0 (a.operand n t.0 B x.0 x.1),
        subst (λ (Z : NumberSet). Readable Z c) l.0 l.1,
        g (n + size op + size lw) t.1.1.0 y.0 z.0 z.1,
        subst (λ (Z : NumberSet). Within D (behind_write Z c)) (sym q) (a.stored (n + size op + size lw + size ew + size dw) t.1.1.1.1 u.0 D u.2),
      )

  bumping : (op lw cw sw : Way (Site K)) (p : K.place) (o : Bump) (c : Option (Target K)) → HasAim op lw cw sw c → Keeps (row op (row lw sw)) (bump_at p o c)
  bumping op lw cw sw p o None a n t B D h = absurd a
  bumping op lw cw sw p o (Some c) a n t B D h =
      let x = oks_row r w n op (row lw sw) B D h in
      let y = oks_row r w (n + size op) lw sw x.0 D x.2 in
      let l = a.loaded (n + size op) t.1.0 x.0 y.0 y.1 in
      (y.0, subst (λ (Z : NumberSet). TargetAgrees c B Z) l.0 (a.operand n t.0 B x.0 x.1), subst (λ (Z : NumberSet). Readable Z c) l.0 l.1, a.stored (n + size op + size lw) t.1.1 y.0 D y.2)

  name_keeps : (p q : K.place) (v : Option (Variable K)) → IsThere v → Keeps (load_of q v) (read_of p (named_target q v))
  name_keeps p q None i n t B D h = absurd i
  name_keeps p q (Some (is_local m)) i n t B D h = oks_read r w n q m t B D h
  name_keeps p q (Some (is_static_field f)) i n t B D h = (load_same q f n t B D h, tt)
  name_keeps p q (Some (is_instance_field f)) i n t B D h = (load_same q f n t B D h, tt)

  super_keeps : (p q : K.place) (v : Option (Variable K)) → SuperBinds v → Keeps (field_load q v) (read_of p (super_target q v))
  super_keeps p q None i n t B D h = absurd i
  super_keeps p q (Some (is_local m)) i n t B D h = absurd i
  super_keeps p q (Some (is_static_field f)) i n t B D h = (load_same q f n t B D h, tt)
  super_keeps p q (Some (is_instance_field f)) i n t B D h = (load_same q f n t B D h, tt)

  class_literal_keeps : (p : K.place) (c : Option K.class) → Keeps pass (class_literal_at p c)
  class_literal_keeps p None n t B D h = pass_same n t B D h
  class_literal_keeps p (Some c) n t B D h = pass_same n t B D h

  -- ---- calls

  -- the arguments, and what stands around them, which writes nothing
  arguments : (aw cw : Way (Site K)) (es : Exps K) → KeepsAll aw es → Same cw → KeepsAll (row aw cw) es
  arguments aw cw es g s n t B D h =
      let x = oks_row r w n aw cw B D h in
      subst (λ (Z : NumberSet). ExpsAgree es B Z) (s (n + size aw) t.1 x.0 D x.2) (g n t.0 B x.0 x.1)

  behind_nothing : (vw aw : Way (Site K)) (es : Exps K) → Same vw → KeepsAll aw es → KeepsAll (row vw aw) es
  behind_nothing vw aw es s g n t B D h =
      let x = oks_row r w n vw aw B D h in
      subst (λ (Z : NumberSet). ExpsAgree es Z D) (sym (s n t.0 B x.0 x.1)) (g (n + size vw) t.1 x.0 D x.2)

  own_calling : (aw : Way (Site K)) (p : K.place) (m : Option (Called K)) (es : Exps K) → IsThere m → KeepsAll aw es → Keeps (row pass (row aw (row pass (at_place p What.calls)))) (call_at p (core.this None) m es)
  own_calling aw p None es i g n t B D h = absurd i
  own_calling aw p (Some (is_static_method m)) es i g n t B D h =
      behind_nothing pass (row aw (row pass (at_place p What.calls))) es pass_same (arguments aw (row pass (at_place p What.calls)) es g (row_same pass (at_place p What.calls) pass_same (call_same p))) n t B D h
  own_calling aw p (Some (is_instance_method m)) es i g n t B D h =
      (B, refl, behind_nothing pass (row aw (row pass (at_place p What.calls))) es pass_same (arguments aw (row pass (at_place p What.calls)) es g (row_same pass (at_place p What.calls) pass_same (call_same p))) n t B D h)

  calling : (b k : Bool) (ew aw : Way (Site K)) (p : K.place) (e : Exp K) (m : Option (Called K)) (es : Exps K) → CallBinds b m → (b ≡ false → Keeps ew e) → KeepsAll aw es
      → Keeps (row (unless b ew) (row aw (row (unless (b || k) (at_place p What.checks)) (at_place p What.calls)))) (call_at p e m es)
  calling true k ew aw p e None es i v g n t B D h = absurd i
  calling false k ew aw p e None es i v g n t B D h = absurd i
  calling true k ew aw p e (Some (is_static_method m)) es i v g n t B D h =
      behind_nothing pass (row aw (row pass (at_place p What.calls))) es pass_same (arguments aw (row pass (at_place p What.calls)) es g (row_same pass (at_place p What.calls) pass_same (call_same p))) n t B D h
  calling false k ew aw p e (Some (is_static_method m)) es i v g n t B D h = absurd i
  calling true k ew aw p e (Some (is_instance_method m)) es i v g n t B D h = absurd i
  calling false k ew aw p e (Some (is_instance_method m)) es i v g n t B D h =
      let x = oks_row r w n ew (row aw (row (unless k (at_place p What.checks)) (at_place p What.calls))) B D h in
      (x.0, v refl n t.0 B x.0 x.1, arguments aw (row (unless k (at_place p What.checks)) (at_place p What.calls)) es g (row_same (unless k (at_place p What.checks)) (at_place p What.calls) (check_same k p) (call_same p)) (n + size ew) t.1 x.0 D x.2)

  super_calling : (aw : Way (Site K)) (p : K.place) (m : Option (Called K)) (es : Exps K) → IsThere m → KeepsAll aw es → Keeps (row aw (at_place p What.calls)) (super_call_at p m es)
  super_calling aw p None es i g n t B D h = absurd i
  super_calling aw p (Some (is_static_method m)) es i g n t B D h = arguments aw (at_place p What.calls) es g (call_same p) n t B D h
  super_calling aw p (Some (is_instance_method m)) es i g n t B D h = (B, refl, arguments aw (at_place p What.calls) es g (call_same p) n t B D h)

  creating : (aw : Way (Site K)) (p : K.place) (k : Option (Created K)) (es : Exps K) → IsThere k → KeepsAll aw es → Keeps (row (at_place p What.creates) (row aw (at_place p What.calls))) (create_at p k es)
  creating aw p None es i g n t B D h = absurd i
  creating aw p (Some k) es i g n t B D h =
      behind_nothing (at_place p What.creates) (row aw (at_place p What.calls)) es (site_same p What.creates (λ x. refl)) (arguments aw (at_place p What.calls) es g (call_same p)) n t B D h

  -- ---- operators

  both_operands : (lw vw cw : Way (Site K)) (o : Operator) (a b : Exp K) (p : At K) → Keeps lw a → Keeps vw b → Same cw → Keeps (row lw (row vw cw)) (core.binary p o a b)
  both_operands lw vw cw o a b p g k s n t B D h =
      let x = oks_row r w n lw (row vw cw) B D h in
      let y = oks_row r w (n + size lw) vw cw x.0 D x.2 in
      (x.0, g n t.0 B x.0 x.1, subst (λ (Z : NumberSet). ExpAgrees b x.0 Z) (s (n + size lw + size vw) t.1.1 y.0 D y.2) (k (n + size lw) t.1.0 x.0 y.0 y.1))

  -- of `&&` and `||`: what agrees behind the right operand, and past it
  abbrev Parted : (a b : Exp K) → NumberSet → NumberSet → Type 0
  Parted a b B D = (M C : NumberSet) × ExpAgrees a B M × ExpAgrees b M C × Within D M × Within D C

  parted : (lw vw : Way (Site K)) (a b : Exp K) → Keeps lw a → Keeps vw b → (n : ℕ) → Told r w n (row lw (fork vw pass)) → (B D : NumberSet) → Oks r w n (row lw (fork vw pass)) B D → Parted a b B D
  parted lw vw a b g k n t B D h =
      let x = oks_row r w n lw (fork vw pass) B D h in
      let f = oks_fork r w (n + size lw) vw pass x.0 D x.2 in
      (x.0, f.0, g n t.0 B x.0 x.1, k (n + size lw) t.1.0 x.0 f.0 f.2, subst (λ (Z : NumberSet). Within D Z) (sym (pass_same (n + size lw + size vw) tt x.0 f.1 f.3)) f.5, f.4)

  operating : (op : BinOp) (lw vw cw : Way (Site K)) (p : K.place) (a b : Exp K) → Keeps lw a → Keeps vw b → Same cw → Keeps (operands op lw vw cw) (operation p op a b)
  operating Or lw vw cw p a b g k s n t B D h = parted lw vw a b g k n t B D h
  operating And lw vw cw p a b g k s n t B D h = parted lw vw a b g k n t B D h
  operating Eq lw vw cw p a b g k s n t B D h = both_operands lw vw cw equal a b (Some p) g k s n t B D h
  operating Ne lw vw cw p a b g k s n t B D h = both_operands lw vw cw different a b (Some p) g k s n t B D h
  operating Lt lw vw cw p a b g k s n t B D h = both_operands lw vw cw (comparison less) a b (Some p) g k s n t B D h
  operating Gt lw vw cw p a b g k s n t B D h = both_operands lw vw cw (comparison greater) a b (Some p) g k s n t B D h
  operating Le lw vw cw p a b g k s n t B D h = both_operands lw vw cw (comparison at_most) a b (Some p) g k s n t B D h
  operating Ge lw vw cw p a b g k s n t B D h = both_operands lw vw cw (comparison at_least) a b (Some p) g k s n t B D h
  operating Add lw vw cw p a b g k s n t B D h = both_operands lw vw cw (arithmetic add) a b (Some p) g k s n t B D h
  operating Sub lw vw cw p a b g k s n t B D h = both_operands lw vw cw (arithmetic subtract) a b (Some p) g k s n t B D h
  operating Mul lw vw cw p a b g k s n t B D h = both_operands lw vw cw (arithmetic multiply) a b (Some p) g k s n t B D h
  operating Div lw vw cw p a b g k s n t B D h = both_operands lw vw cw (arithmetic divide) a b (Some p) g k s n t B D h
  operating Rem lw vw cw p a b g k s n t B D h = both_operands lw vw cw (arithmetic remainder) a b (Some p) g k s n t B D h

  -- the operand, and what stands behind it, which writes nothing
  behind_it : (ew cw : Way (Site K)) (e : Exp K) → Keeps ew e → Same cw → Keeps (row ew cw) e
  behind_it ew cw e g s n t B D h =
      let x = oks_row r w n ew cw B D h in
      subst (λ (Z : NumberSet). ExpAgrees e B Z) (s (n + size ew) t.1 x.0 D x.2) (g n t.0 B x.0 x.1)

  casting : (ew : Way (Site K)) (p : K.place) (b : Bool) (c : Option K.class) (e : Exp K) → CastBinds b c → Keeps ew e → Keeps (row ew (unless (not b) (at_place p What.checks))) (cast_at p b c e)
  casting ew p false None e i g n t B D h = behind_it ew pass e g pass_same n t B D h
  casting ew p false (Some c) e i g n t B D h = behind_it ew pass e g pass_same n t B D h
  casting ew p true None e i g n t B D h = absurd i
  casting ew p true (Some c) e i g n t B D h = behind_it ew (at_place p What.checks) e g (site_same p What.checks (λ x. refl)) n t B D h

  divisor_same : (op : BinOp) (e : tree.Exp A) → Same (divisor_check X op e)
  divisor_same op e = check_same (not (divides op) || is_nonzero e) (X.facts.first (mark_of e))

  -- ---- expressions

  mutual
    pub exp_keeps : (e : tree.Exp A) → ExpBinds X e → (n : ℕ) → Told r w n (exp_way X e) → (B C : NumberSet) → Oks r w n (exp_way X e) B C → ExpAgrees (exp_code X.facts e) B C
    exp_keeps (tree.number a i) b = pass_same
    exp_keeps (tree.truth a i) b = pass_same
    exp_keeps (tree.null a) b = pass_same
    exp_keeps (tree.string a s) b = pass_same
    exp_keeps (tree.name a u) b = name_keeps (X.facts.first a) (X.facts.first u.mark) (X.facts.variable u.mark) b
    exp_keeps (tree.field a e u) b =
        reading (unless (is_class_name X e) (exp_way X e)) (row (field_check (unless (is_class_name X e || X.never_null e) (at_place (X.facts.first u.mark) What.checks)) (X.facts.variable u.mark)) (field_load (X.facts.first u.mark) (X.facts.variable u.mark)))
        (field_check (unless (is_class_name X e || X.never_null e) (at_place (X.facts.first u.mark) What.checks)) (X.facts.variable u.mark)) (field_store (X.facts.first u.mark) (X.facts.variable u.mark)) (X.facts.first a) (field_target (X.facts.first u.mark) (exp_code X.facts e) (X.facts.variable u.mark))
        (behind_dot (is_class_name X e) (X.never_null e) (exp_way X e) (exp_code X.facts e) (X.facts.first u.mark) (X.facts.variable u.mark) b.0 (λ q. exp_keeps e (not_class (is_class_name X e) q b.1)))
    exp_keeps (tree.super_field a u) b = super_keeps (X.facts.first a) (X.facts.first u.mark) (X.facts.variable u.mark) b
    exp_keeps (tree.this a) b = pass_same
    exp_keeps (tree.class_literal a t) b = class_literal_keeps (X.facts.first a) (X.facts.class (mark_of_type t))
    exp_keeps (tree.call a tree.no_target u es) b = own_calling (exps_way X es) (X.facts.first u.mark) (X.facts.called u.mark) (exps_code X.facts es) b.0 (exps_keep es b.1)
    exp_keeps (tree.call a (tree.on e) u es) b =
        calling (is_class_name X e) (X.never_null e) (exp_way X e) (exps_way X es) (X.facts.first u.mark) (exp_code X.facts e) (X.facts.called u.mark) (exps_code X.facts es) b.0.0 (λ q. exp_keeps e (not_class (is_class_name X e) q b.0.1)) (exps_keep es b.1)
    exp_keeps (tree.super_call a u es) b = super_calling (exps_way X es) (X.facts.first u.mark) (X.facts.called u.mark) (exps_code X.facts es) b.0 (exps_keep es b.1)
    exp_keeps (tree.create a t es) b = creating (exps_way X es) (X.facts.first a) (X.facts.created a) (exps_code X.facts es) b.0 (exps_keep es b.1)
    exp_keeps (tree.paren a e) b = exp_keeps e b
    exp_keeps (tree.cast a t e) b = casting (exp_way X e) (X.facts.first a) (X.facts.is_checked a) (X.facts.class (mark_of_type t)) (exp_code X.facts e) b.0 (exp_keeps e b.1)
    exp_keeps (tree.unary a op e) b = exp_keeps e b
    exp_keeps (tree.bump a op t) b = bumping (operand_way X t) (target_load X t) (target_check X t) (target_store X t) (X.facts.first a) (bump_of op) (target_code X.facts t) (aims t b)
    exp_keeps (tree.binary a op x y) b = operating op (exp_way X x) (exp_way X y) (divisor_check X op y) (X.facts.first a) (exp_code X.facts x) (exp_code X.facts y) (exp_keeps x b.0) (exp_keeps y b.1) (divisor_same op y)
    exp_keeps (tree.assign a t e) b = assigning (operand_way X t) (target_load X t) (target_check X t) (target_store X t) (exp_way X e) (X.facts.first a) (target_code X.facts t) (exp_code X.facts e) (aims t b.0) (exp_keeps e b.1)
    exp_keeps (tree.compound a op t e) b = changing (operand_way X t) (target_load X t) (target_check X t) (target_store X t) (exp_way X e) (divisor_check X op e) (X.facts.first a) (arithmetic_of op) (target_code X.facts t) (exp_code X.facts e) b.0 (aims t b.1) (exp_keeps e b.2) (divisor_same op e)

    exps_keep : (es : tree.Exps A) → ExpsBind X es → (n : ℕ) → Told r w n (exps_way X es) → (B C : NumberSet) → Oks r w n (exps_way X es) B C → ExpsAgree (exps_code X.facts es) B C
    exps_keep tree.end b = pass_same
    exps_keep (tree.more e es) b = λ n t B D h. let x = oks_row r w n (exp_way X e) (exps_way X es) B D h in (x.0, exp_keeps e b.0 n t.0 B x.0 x.1, exps_keep es b.1 (n + size (exp_way X e)) t.1 x.0 D x.2)

    aims : (t : tree.Exp A) → TargetBinds X t → HasAim (operand_way X t) (target_load X t) (target_check X t) (target_store X t) (target_code X.facts t)
    aims (tree.name a u) b = name_aims (X.facts.first u.mark) (X.facts.variable u.mark) b
    aims (tree.field a e u) b = behind_dot (is_class_name X e) (X.never_null e) (exp_way X e) (exp_code X.facts e) (X.facts.first u.mark) (X.facts.variable u.mark) b.0 (λ q. exp_keeps e (not_class (is_class_name X e) q b.1))
    aims (tree.super_field a u) b = super_aims (X.facts.first u.mark) (X.facts.variable u.mark) b
    aims (tree.number a n) b = absurd b
    aims (tree.truth a n) b = absurd b
    aims (tree.null a) b = absurd b
    aims (tree.string a s) b = absurd b
    aims (tree.this a) b = absurd b
    aims (tree.class_literal a t) b = absurd b
    aims (tree.call a t u es) b = absurd b
    aims (tree.super_call a u es) b = absurd b
    aims (tree.create a t es) b = absurd b
    aims (tree.paren a e) b = absurd b
    aims (tree.cast a t e) b = absurd b
    aims (tree.unary a op e) b = absurd b
    aims (tree.bump a op t) b = absurd b
    aims (tree.binary a op l m) b = absurd b
    aims (tree.assign a t e) b = absurd b
    aims (tree.compound a op t e) b = absurd b
