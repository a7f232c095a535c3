-- Where no class gets another name, keys that hold classes alone are their own images; and so is
-- what a member sees.
use Rattle.std.proofs.Common.{◌≡◌, ℕ, zero, suc, List, [], ◌∷◌, ◌++◌, map, Option, Some, None, false, refl, sym, ap, ◌∙◌}
use Rattle.std.specs.Prelude.{slice_get, if◌then◌else◌}
use Rattle.jr_ast.specs.Tree as tree
use Rattle.jr_ast.specs.StatementTree as statement
use Rattle.jr_ast.specs.MemberTree as syntax
use Rattle.jr_table.specs.Keys.{ClassKey, FieldKey, MethodKey, CtorKey, Ty, int, boolean, void, null, class}
use Rattle.jr_table.specs.Decls.{MemberKey, head, field, method, constructor, LocalKey, Decl, class_decl, field_decl, method_decl, local_decl}
use Rattle.jr_table.specs.Prelude.{top_key}
use Rattle.jr_table.specs.Entries.{class_of_member}
use Rattle.jr_table.specs.Scope.{ScopeLocal, FindsLocal}
use Rattle.jr_table.specs.Context.{Context, Local, scope_local, scope_of, in_own, after, local_of, parameters}
use Rattle.jr_table.specs.HeadRules.{plain, types_of, with_parameters}
use Rattle.jr_mentions.specs.Apart.{IsCleanMember}
use Rattle.jr_images.specs.Images.{Renaming, is_renamed, name_to, outer_to, class_to, type_to, types_to, field_to, method_to, ctor_to, member_to, local_to, scope_local_to, scope_to}
use Rattle.jr_images.proofs.KeyImages.{keeps_name, class_same, types_same}
use Rattle.jr_new_files.specs.Spared.{IsSpared}

module _ (g : Renaming) (stays : (k : ClassKey) → is_renamed g (class_decl k) ≡ false) where
  pub field_same : (q : FieldKey) → is_renamed g (field_decl q) ≡ false → field_to g q ≡ q
  field_same q h = λ i. record { class = class_same g stays q.class i; name = keeps_name g (field_decl q) q.name h i }

  pub method_same : (q : MethodKey) → is_renamed g (method_decl q) ≡ false → method_to g q ≡ q
  method_same q h = λ i. record { class = class_same g stays q.class i; name = keeps_name g (method_decl q) q.name h i; params = types_same g stays q.params i }

  pub ctor_same : (q : CtorKey) → ctor_to g q ≡ q
  ctor_same q = λ i. record { class = class_same g stays q.class i; params = types_same g stays q.params i }

  -- a place without locals
  pub plain_scope_same : (k : MemberKey) (is_static : _) → scope_to g (plain k is_static) ≡ scope_of (plain k is_static)
  plain_scope_same k is_static = λ i. record { class = class_same g stays (class_of_member k) i; is_static = is_static; locals = [] }

-- ---- places of one member

-- the locals are the member's
abbrev pub AreOwn : MemberKey → List Local → Type 0
AreOwn k [] = Unit {0}
AreOwn k (l ∷ ls) = (l.key.member ≡ k) × AreOwn k ls

pub record IsWithin (k : MemberKey) (c : Context) : Type 0 where
  pub member : c.member ≡ k
  pub locals : AreOwn k c.locals

own_append : (k : MemberKey) (ls : List Local) (l : Local) → AreOwn k ls → l.key.member ≡ k → AreOwn k (ls ++ l ∷ [])
own_append k [] l h e = (e, tt)
own_append k (x ∷ ls) l h e = (h.0, own_append k ls l h.1 e)

pub within_plain : (k : MemberKey) (is_static : _) → IsWithin k (plain k is_static)
within_plain k is_static = record { member = refl; locals = tt }

module _ {A : Type 0} where
  own_parameters : (k : MemberKey) (n : ℕ) (ps : List (syntax.Param A)) (ts : List Ty) → AreOwn k (parameters k n ps ts)
  own_parameters k n [] ts = tt
  own_parameters k n (p ∷ ps) [] = tt
  own_parameters k n (p ∷ ps) (t ∷ ts) = (refl, own_parameters k (suc n) ps ts)

  pub within_parameters : (k : MemberKey) (is_static : _) (ps : List (syntax.Param A)) → IsWithin k (with_parameters k is_static ps)
  within_parameters k is_static ps = record { member = refl; locals = own_parameters k 0 ps (types_of k) }

  module _ (k : MemberKey) (c : Context) (w : IsWithin k c) where
    pub within_own : (n : ℕ) (f : _) (t : tree.TypeName A) (x : tree.Word A) → IsWithin k (in_own c (local_of c n f t x))
    within_own n f t x = record { member = w.member; locals = own_append k c.locals (local_of c n f t x) w.locals w.member }

    pub within_after : (n : ℕ) (x : statement.Stmt A) → IsWithin k (after n c x)
    within_after n (statement.local m f t x e) = record { member = w.member; locals = own_append k c.locals (local_of c n f t x) w.locals w.member }
    within_after n (statement.eval m e) = w
    within_after n (statement.branch m e x other) = w
    within_after n (statement.loop m e x) = w
    within_after n (statement.return m e) = w
    within_after n (statement.block m body) = w
    within_after n (statement.sync m e body) = w
    within_after n (statement.empty m) = w

own_there : (k : MemberKey) (ls : List Local) → AreOwn k ls → (n : ℕ) (l : ScopeLocal) → slice_get (map scope_local ls) n ≡ Some l → l.key.member ≡ k
own_there k [] h n l e = absurd cc
own_there k (x ∷ ls) h zero l e = let p : scope_local x ≡ l = cc in ap (λ (z : ScopeLocal). z.key.member) (sym p) ∙ h.0
own_there k (x ∷ ls) h (suc n) l e = own_there k ls h.1 n l e

-- a local that a name finds is the member's
pub found_own : (k : MemberKey) (c : Context) → IsWithin k c → (name : List ℕ) (q : LocalKey) → FindsLocal (scope_of c).locals name q → q.member ≡ k
found_own k c w name q f = ap (λ (z : LocalKey). z.member) (sym f.is) ∙ own_there k c.locals w.locals f.place f.local f.stands

module _ (g : Renaming) (names : List (List ℕ)) (k : MemberKey) (spared : IsSpared g names k) (own : IsCleanMember names k) where
  by_member : (m : MemberKey) → IsCleanMember names m → member_to g m ≡ m
  by_member (head q) h = ap head (class_same g spared.class q)
  by_member (field q) h = ap field (field_same g spared.class q (spared.field q h))
  by_member (method q) h = ap method (method_same g spared.class q (spared.method q h))
  by_member (constructor q) h = ap constructor (ctor_same g spared.class q)

  pub member_same : member_to g k ≡ k
  member_same = by_member k own

  pub local_kept : (q : LocalKey) → q.member ≡ k → is_renamed g (local_decl q) ≡ false
  local_kept q e = ap (λ (m : MemberKey). is_renamed g (local_decl (record { member = m; number = q.number }))) e ∙ spared.local q.number

  pub local_same : (q : LocalKey) → q.member ≡ k → local_to g q ≡ q
  local_same q e =
      let p : member_to g q.member ≡ q.member = ap (member_to g) e ∙ member_same ∙ sym e in
      λ i. record { member = p i; number = q.number }

  locals_same : (ls : List Local) → AreOwn k ls → map (scope_local_to g) ls ≡ map scope_local ls
  locals_same [] h = refl
  locals_same (l ∷ ls) h =
      let name = keeps_name g (local_decl l.key) l.name (local_kept l.key h.0) in
      let key = local_same l.key h.0 in
      λ i. record { name = name i; key = key i } ∷ locals_same ls h.1 i

  pub scope_same : (c : Context) → IsWithin k c → scope_to g c ≡ scope_of c
  scope_same c w = λ i. record { class = class_same g spared.class (class_of_member c.member) i; is_static = c.is_static; locals = locals_same c.locals w.locals i }
