-- What is asked of a region and its spots, that the new code stands in a relation to the old one.
use Rattle.std.specs.Prelude.{◌≡◌, ◌⊎◌, ◌↔◌, ◌<◌, ◌≤◌, ℕ, ◌+◌, List, [], Some, Bool, slice_get}
use Rattle.jr_text.specs.declared.spans.Span.{Span}
use Rattle.jr_ast.specs.Tree as tree
use Rattle.jr_ast.specs.StatementTree as statement
use Rattle.jr_runs.specs.KeyMaps.{KeyMap}
use Rattle.jr_runs.specs.Rows as core_rows
use Rattle.jr_table.specs.Keys.{FieldKey, MethodKey, Ty}
use Rattle.jr_table.specs.Decls.{LocalKey, local_decl, field_decl, method_decl}
use Rattle.jr_table.specs.Rows.{Row}
use Rattle.jr_table.specs.Found.{one}
use Rattle.jr_table.specs.Lookup.{FindsVariable}
use Rattle.jr_table.specs.Context.{
  Context,
  Local,
  scope_of,
  locals_in_row,
  IsInstanceDecl,
  WritesType,
}
use Rattle.jr_table.specs.Keyed.{IsAssignable}
use Rattle.jr_table.specs.Binding.{
  Role,
  value,
  HasType,
  CallFinds,
  SuperFieldFinds,
  SuperCallFinds,
}
use Rattle.jr_rewrite.specs.Rewritten.{Rewritten}
use Rattle.jr_grammar.specs.Shape.{unsigned_level}
use Rattle.jr_rewrite.specs.Spots.{Asks, level, a_target, Spotted, nowhere, spotted}
use Rattle.jr_rewrite.specs.Rewrites.{Choosing, TransformsPart, TransformsList}
use Rattle.jr_images.specs.Regions.{Region}
use Rattle.jr_kept_references.specs.InRegions.{rows_in, type_in}
use Rattle.jr_kept_references.specs.AlongSpots.{SpotStands}
use Rattle.jr_kept_references.specs.StatementsAlong.{ListSpotStands}
use Rattle.jr_kept_references.specs.RegionPlaces.{Standing}
use Rattle.jr_code.specs.RunKeys.{RunKeys, Place}
use Rattle.jr_code.specs.Coded.{Code, TargetCode, CastCode, ExpCode, TargetOf}
use Rattle.jr_code.specs.CodedStatements.{numbers, ListCode, StmtsCode}
use Rattle.jr_image_code.specs.KnownPlaces.{IsPlace}
use Rattle.jr_image_code.specs.KeysIn.{keys_by, MapsAs, AreDeclared, WordsStay}
use Rattle.jr_image_code.specs.CodeRelations.{Relations, IsFreeTarget, AreExpsRelated}

-- ---- of a region

-- the relation goes by the region's images
pub record GoesByImages {A : Type 0} (rows : List Row) (R : Region A) (r : KeyMap RunKeys)
    (D : core_rows.Rows RunKeys) (X : Relations) : Type 0 where
  pub maps : MapsAs r (keys_by R.seen.images) rows
  pub has : AreDeclared rows D
  pub words : WordsStay rows R.seen.images
  pub exps : AreExpsRelated r D X

-- a local that is found at the place, and isn't gone, is kept under its image's number
abbrev pub LocalsStay : {A : Type 0} → List Row → Region A → Relations → Context → Type 0
LocalsStay rows R X c = (k m : LocalKey) (name : List ℕ)
    → FindsVariable rows (scope_of c) name (one (local_decl k)) → R.seen.local_to c k ≡ Some m
    → X.mine k.number × (m.number ≡ X.at k.number)

-- ---- of a spot that is an expression

-- what may be rewritten node by node
abbrev pub ThisStays : {A : Type 0} → Spotted A → Type 0
ThisStays nowhere = Unit {0}
ThisStays (spotted s) = s.this_stays

abbrev pub PartStays : {A : Type 0} → Spotted A → Asks → Context → Role → (base : ℕ) → tree.Exp A
    → Type 0
PartStays nowhere k c r base e = Unit {0}
PartStays (spotted s) k c r base e = s.part_stays k c r base e

-- the expression's own reference is on `this`, which isn't written: an instance field by its simple
-- name or by `super`, an instance method called so
abbrev pub IsOnThis : {A : Type 0} → List Row → Context → tree.Exp A → Type 0
IsOnThis rows c (tree.name m w) = (k : FieldKey)
    × FindsVariable rows (scope_of c) w.text (one (field_decl k))
    × IsInstanceDecl rows (field_decl k)
IsOnThis rows c (tree.super_field m w) = (k : FieldKey)
    × SuperFieldFinds rows c w.text (one (field_decl k)) × IsInstanceDecl rows (field_decl k)
IsOnThis rows c (tree.call m tree.no_target w args) = (k : MethodKey)
    × CallFinds rows c tree.no_target w.text args (one (method_decl k))
    × IsInstanceDecl rows (method_decl k)
IsOnThis rows c (tree.super_call m w args) = (k : MethodKey)
    × SuperCallFinds rows c w.text args (one (method_decl k))
    × IsInstanceDecl rows (method_decl k)
IsOnThis rows c _ = ⊥

-- the expression is a local, which is assigned
abbrev pub IsLocal : {A : Type 0} → List Row → Context → tree.Exp A → LocalKey → Type 0
IsLocal rows c (tree.name m w) k = FindsVariable rows (scope_of c) w.text (one (local_decl k))
IsLocal rows c _ k = ⊥

module _ {A : Type 0} (begins : A → ℕ → ℕ) (rows : List Row) (R : Region A) (X : Relations) where
  -- the code of what stands now in an expression's place, wherever it stands, is related to that of
  -- the expression where it stood, whose parent began at b: as a value and as a variable
  abbrev pub ExpsCoded : (c d : Context) → (b : ℕ) → tree.Exp A → tree.Exp A → Type 0
  ExpsCoded c d b e y = (i : ℕ) (x z : Code) → ExpCode begins rows c b e x
      → ExpCode begins (rows_in R) d i y z → X.exp x z

  abbrev pub TargetsCoded : (c d : Context) → (b : ℕ) → tree.Exp A → tree.Exp A → Type 0
  TargetsCoded c d b e y = (i : ℕ) (t u : TargetCode) → TargetOf begins rows c b e t
      → TargetOf begins (rows_in R) d i y u → X.target t u

  abbrev pub AreCoded : (c d : Context) → (b : ℕ) → tree.Exp A → tree.Exp A → Type 0
  AreCoded c d b e y = ExpsCoded c d b e y × TargetsCoded c d b e y

  -- What is asked at a place and the one that stands for it, of what is rewritten node by node:
  -- `this` stays where it is `this`, and so does a member on it; a local that is assigned may be
  -- written. And the code of what a spot makes of an expression, where it loses nothing, is related
  -- to that of the expression.
  pub record SpotsCoded (s : Spotted A) (c d : Context) : Type 0 where
    pub this : ThisStays s → X.own
    pub on_this : (k : Asks) (r : Role) (base : ℕ) (e : tree.Exp A)
        → PartStays s k c r base e → IsOnThis rows c e → X.own
    pub written : (base : ℕ) (e : tree.Exp A) (k : LocalKey)
        → PartStays s a_target c value base e → IsLocal rows c e k → X.free k.number
    pub parts : (k : Asks) (r : Role) (b : ℕ) (e : tree.Exp A) (i : ℕ) (y : tree.Exp A)
        → SpotStands s k c d r b e i y → AreCoded c d b e y
    pub targets : (b : ℕ) (e : tree.Exp A) (i : ℕ) (y : tree.Exp A)
        → SpotStands s a_target c d value b e i y
        → (t : TargetCode) → TargetOf begins rows c b e t → IsFreeTarget X.free t

-- ---- of a cast

module _ {A : Type 0} (tells : A → ℕ → Span) (rows : List Row) (R : Region A) (X : Relations)
    (C : Choosing A) (S : Spotted A) where
  -- A cast that can't fail is dropped (JLS 5.5.1). Of one from type t to type u, whose operand
  -- stands where its parent begins at b and has become y: it is dropped in both programs or in
  -- neither; or the codes of both, whatever they are, are related where those of the operands are.
  abbrev pub CastIs : (c d : Context) → (b : ℕ) → (e y : tree.Exp A) → (t u : Ty) → Type 0
  CastIs c d b e y t u = (IsAssignable rows t u
      ↔ IsAssignable (rows_in R) (R.type_now c e t) (type_in R u))
      ⊎ ((i : ℕ) (p q : Place) (x z v o : Code) → ExpCode (λ m b. (tells m b).from) rows c b e x
      → ExpCode (λ m b. (tells m b).from) (rows_in R) d i y z → X.exp x z
      → CastCode rows t u p x v → CastCode (rows_in R) (R.type_now c e t) (type_in R u) q z o
      → X.exp v o)

  -- asked of casts that are rewritten node by node, and of the types that binding knows there
  abbrev pub CastsCoded : (c d : Context) → Type 0
  CastsCoded c d = (k : Asks) (r : Role) (b : ℕ) (m : A) (of : tree.TypeName A) (e : tree.Exp A)
      (q : Rewritten (tree.Exp A)) (t u : Ty) → PartStays S k c r b (tree.cast m of e)
      → TransformsPart tells C S (level unsigned_level) c value ((tells m b).from) e q
      → q.losses ≡ [] → HasType rows c e t → WritesType rows (scope_of c) of u
      → CastIs c d ((tells m b).from) e q.tree t u

-- ---- of a member's statements

-- the locals in scope have numbers below
abbrev pub AreBelow : ℕ → List Local → Type 0
AreBelow size ls = (i : ℕ) (l : Local) → slice_get ls i ≡ Some l → l.key.number < size

-- the member's old locals have numbers below the size
module _ {A : Type 0} (tells : A → ℕ → Span) (ends : A → ℕ → ℕ) (rows : List Row) (R : Region A)
    (X : Relations) (C : Choosing A) (S : Spotted A) (At : Standing A) (size : ℕ) where
  abbrev pub begins : A → ℕ → ℕ
  begins m b = (tells m b).from

  -- the code of each new list is related to that of the old one
  abbrev pub ListsCoded : (n z : ℕ) (c d : Context) → (b : ℕ) → statement.Stmts A
      → statement.Stmts A → Type 0
  ListsCoded n z c d b xs ys = (i : ℕ) (s t : ListCode) → StmtsCode begins ends rows n c b xs s
      → StmtsCode begins ends (rows_in R) z d i ys t → X.stmts s t

  -- What is asked of places that the tree has: kept locals that are found there have the numbers of
  -- their images, and so has one that is declared there, which may be written; a block unsets its
  -- locals. And the code of what a spot makes of a list is related to that of the list.
  pub record StatementsCoded : Type 0 where
    pub locals : (c d : Context) → At.Known c d → AreBelow size c.locals → LocalsStay rows R X c
    pub declared : (n z : ℕ) (c d : Context) (m : A) (f : Bool) (t : tree.TypeName A)
        (w : tree.Word A) (e : tree.Exp A) → At.Single n z c d (statement.local m f t w e)
        → n < size → X.mine n × X.free n × (z ≡ X.at n)
    pub block : (n z : ℕ) (c d : Context) (b : ℕ) (m : A) (xs : statement.Stmts A)
        (q : Rewritten (statement.Stmts A)) → At.Single n z c d (statement.block m xs)
        → TransformsList tells C S n c b xs q
        → q.losses ≡ [] → n + locals_in_row xs ≤ size
        → X.block (numbers n (locals_in_row xs)) (numbers z (locals_in_row q.tree))
    pub lists : (n z : ℕ) (c d : Context) (b : ℕ) (xs : statement.Stmts A) (i : ℕ)
        (ys : statement.Stmts A) → At.Lists n z c d xs → ListSpotStands S n z c d b xs i ys
        → AreBelow size c.locals → IsPlace rows c → n + locals_in_row xs ≤ size
        → ListsCoded n z c d b xs ys
