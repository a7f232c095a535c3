-- Declarations with which the new one would collide, and which of them is told.
use Rattle.std.specs.Prelude.{◌≡◌, ◌≢◌, ℕ, suc, ◌≤◌, ◌⊎◌, List, Some, None, codes, slice_get}
use Rattle.jr_ast.specs.StatementTree as statement
use Rattle.jr_ast.specs.MemberTree as syntax
use Rattle.jr_table.specs.Keys.{ClassKey}
use Rattle.jr_table.specs.Decls.{
  MemberKey,
  LocalKey,
  Decl,
  class_decl,
  field_decl,
  method_decl,
  local_decl,
}
use Rattle.jr_table.specs.Rows.{Row}
use Rattle.jr_table.specs.Prelude.{top_key}
use Rattle.jr_table.specs.Entries.{IsRowOf, name_of}
use Rattle.jr_table.specs.DeclaredItems.{declarations_of}
use Rattle.jr_table.specs.Context.{Context, Local, local_key}
use Rattle.jr_table.specs.Errors.{Part, member_part, InMember, InUnits}
use Rattle.jr_images.specs.Families.{IsRenamedWith}

-- ---- locals and parameters

module _ {A : Type 0} (begins : A → ℕ → ℕ) where
  -- a local or parameter of this key and name is in scope there (JLS 6.3)
  abbrev pub InScope : Context → LocalKey → (name : List ℕ) → Type 0
  InScope c k name = (i : ℕ) × (l : Local) × (slice_get c.locals i ≡ Some l) × (l.key ≡ k)
      × (l.name ≡ name)

  -- the statement declares local k with this name, and local j, which has that name, is in scope
  abbrev pub DeclaresUnder : (number : ℕ) → Context → statement.Stmt A → (k : LocalKey)
      → (name : List ℕ) → (j : LocalKey) → (other : List ℕ) → Type 0
  DeclaresUnder n c (statement.local m f t w e) k name j other =
      (local_key c n ≡ k) × (w.text ≡ name) × InScope c j other
  DeclaresUnder n c _ k name j other = ⊥

  -- parameter n has this name
  abbrev pub HasParameter : List (syntax.Param A) → (n : ℕ) → (name : List ℕ) → Type 0
  HasParameter ps n name = (p : syntax.Param A) × (slice_get ps n ≡ Some p) × (p.name.text ≡ name)

  abbrev pub OfParameters : List (syntax.Param A) → MemberKey → (k : LocalKey) → (name : List ℕ)
      → (j : LocalKey) → (other : List ℕ) → Type 0
  OfParameters ps i k name j other =
      (k.member ≡ i) × (j.member ≡ i) × HasParameter ps k.number name
      × HasParameter ps j.number other

  abbrev pub InParameters : syntax.Member A → MemberKey → (k : LocalKey) → (name : List ℕ)
      → (j : LocalKey) → (other : List ℕ) → Type 0
  InParameters (syntax.method m mods t w ps body) i k name j other =
      OfParameters ps i k name j other
  InParameters (syntax.constructor m mods w ps args body) i k name j other =
      OfParameters ps i k name j other
  InParameters _ i k name j other = ⊥

  -- local k, which has this name, is declared in the scope of local j, which has the other
  abbrev pub IsUnder : (k : LocalKey) → (name : List ℕ) → (j : LocalKey) → (other : List ℕ)
      → MemberKey → (base : ℕ) → Part A → Type 0
  IsUnder k name j other i base (member_part x) = InParameters x i k name j other
      ⊎ InMember begins (λ c role b e. ⊥) (λ n c b s. DeclaresUnder n c s k name j other)
      (λ b ss. ⊥) i base x
  IsUnder k name j other i base _ = ⊥

  -- the statement declares the local, with this name
  abbrev pub DeclaresLocal : (number : ℕ) → Context → statement.Stmt A → LocalKey → (name : List ℕ)
      → Type 0
  DeclaresLocal n c (statement.local m f t w e) k name = (local_key c n ≡ k) × (w.text ≡ name)
  DeclaresLocal n c _ k name = ⊥

  abbrev pub IsParameter : syntax.Member A → MemberKey → LocalKey → (name : List ℕ) → Type 0
  IsParameter (syntax.method m mods t w ps body) i k name =
      (k.member ≡ i) × HasParameter ps k.number name
  IsParameter (syntax.constructor m mods w ps args body) i k name =
      (k.member ≡ i) × HasParameter ps k.number name
  IsParameter _ i k name = ⊥

  -- a part of a program declares the local or parameter, with this name
  abbrev pub HasLocal : LocalKey → (name : List ℕ) → MemberKey → (base : ℕ) → Part A → Type 0
  HasLocal k name i base (member_part x) = IsParameter x i k name
      ⊎ InMember begins (λ c role b e. ⊥) (λ n c b s. DeclaresLocal n c s k name) (λ b ss. ⊥) i
      base x
  HasLocal k name i base _ = ⊥

-- ---- members and classes

-- a member class of a class
abbrev pub member_class : ClassKey → List ℕ → ClassKey
member_class k name = record { outer = Some k.name; name = name }

-- with the new name a renamed declaration has the place of another of its class: of a field, of a
-- method with the same parameter types, of a member type (JLS 8.3, 8.4, 8.5)
abbrev pub TakesPlace : (renamed : Decl) → (new : List ℕ) → Decl → Type 0
TakesPlace (field_decl f) new d = (d ≡ field_decl (record { class = f.class; name = new }))
    ⊎ ((f.class.outer ≡ None) × (d ≡ class_decl (member_class f.class new)))
TakesPlace (method_decl m) new d = (d ≡ method_decl (record
    { class = m.class; name = new; params = m.params }))
    ⊎ ((m.class.outer ≡ None) × (d ≡ class_decl (member_class m.class new)))
TakesPlace _ new d = ⊥

-- a name of the prelude that no class has
abbrev pub IsReserved : Decl → Type 0
IsReserved d = d ≡ class_decl (top_key (codes "Runnable"))

-- another class has the name, at either level, or the class around declares a field or method of
-- it (JLS 7.6, 8.5)
abbrev pub ClassClashes : ClassKey → (new : List ℕ) → Decl → Type 0
ClassClashes k new (class_decl o) = (o.name ≡ new) × (o ≢ k)
ClassClashes k new (field_decl f) =
    (f.name ≡ new) × (k.outer ≡ Some f.class.name) × (f.class.outer ≡ None)
ClassClashes k new (method_decl m) =
    (m.name ≡ new) × (k.outer ≡ Some m.class.name) × (m.class.outer ≡ None)
ClassClashes k new _ = ⊥

module _ {A : Type 0} (begins : A → ℕ → ℕ) (rows : List Row) (units : List (syntax.Unit A)) where
  abbrev pub IsLocalNamed : LocalKey → (name : List ℕ) → Type 0
  IsLocalNamed k name = (i : MemberKey) × InUnits begins (declarations_of begins units)
      (λ i base part. HasLocal begins k name i base part) units i

  abbrev pub Under : (k : LocalKey) → (name : List ℕ) → (j : LocalKey) → (other : List ℕ) → Type 0
  Under k name j other = (i : MemberKey)
      × InUnits begins (declarations_of begins units) (λ i base part.
      IsUnder begins k name j other i base part) units i

  -- another local of the new name would be in the scope of local k, or hold it in its own (JLS 6.4)
  pub record LocalClashes (k : LocalKey) (new : List ℕ) (j : LocalKey) : Type 0 where
    pub old : List ℕ
    pub named : IsLocalNamed k old
    pub other : k ≢ j
    pub meets : Under k old j new ⊎ Under j new k old

  -- ---- all declarations

  abbrev pub HasRow : Decl → Type 0
  HasRow d = (i : ℕ) × IsRowOf rows d i

  abbrev pub MemberClashes : (target : Decl) → (new : List ℕ) → Decl → Type 0
  MemberClashes target new d = (r : Decl) × IsRenamedWith rows target r × TakesPlace r new d

  -- it has the name already
  abbrev pub IsNamed : (target : Decl) → (name : List ℕ) → Type 0
  IsNamed (local_decl k) name = IsLocalNamed k name
  IsNamed d name = name_of d ≡ name

  -- the new name collides with this declaration
  abbrev pub Collides : (target : Decl) → (new : List ℕ) → Decl → Type 0
  Collides (local_decl k) new d = (j : LocalKey) × LocalClashes k new j × (d ≡ local_decl j)
  Collides (class_decl k) new d = (IsReserved d × (new ≡ codes "Runnable"))
      ⊎ (HasRow d × ClassClashes k new d)
  Collides target new d = HasRow d × MemberClashes target new d

  -- by the number of its row, or of the local; what has no row comes before all
  abbrev pub HasPlace : Decl → ℕ → Type 0
  HasPlace (local_decl j) n = n ≡ j.number
  HasPlace d n = ((i : ℕ) × IsRowOf rows d i × (n ≡ suc i)) ⊎ ((HasRow d → ⊥) × (n ≡ 0))

  -- the first, in file and text order
  pub record IsFirstCollision (target : Decl) (new : List ℕ) (d : Decl) : Type 0 where
    pub collides : Collides target new d
    pub place : ℕ
    pub stands : HasPlace d place
    pub first : (e : Decl) (n : ℕ) → Collides target new e → HasPlace e n → place ≤ n

  -- what is told: the declaration itself, where it has the name already; or else the first that
  -- collides
  abbrev pub ClashesWith : (target : Decl) → (new : List ℕ) → Decl → Type 0
  ClashesWith target new d = (IsNamed target new × (d ≡ target))
      ⊎ ((IsNamed target new → ⊥) × IsFirstCollision target new d)

  -- nothing collides
  pub record IsClear (target : Decl) (new : List ℕ) : Type 0 where
    pub other : IsNamed target new → ⊥
    pub alone : (d : Decl) → Collides target new d → ⊥
