-- Places of the new program beside those of the old one.
use Rattle.std.specs.Prelude.{◌≡◌, ℕ, List, [], ◌∷◌, Some, slice_get}
use Rattle.jr_table.specs.Keys.{Ty}
use Rattle.jr_table.specs.Decls.{local_decl}
use Rattle.jr_table.specs.Rows.{Row}
use Rattle.jr_table.specs.Scope.{Scope}
use Rattle.jr_table.specs.Context.{Context, Local, IsLocalType, scope_of}
use Rattle.jr_images.specs.Images.{Renaming, name_to, type_to, member_to, local_to, rows_to}

module _ (g : Renaming) (rows : List Row) where
  -- local l has become m: it has the image of its key and of its type
  pub record LocalTo (s z : Scope) (l m : Local) : Type 0 where
    pub named : m.name ≡ name_to g (local_decl l.key) l.name
    pub key : m.key ≡ local_to g l.key
    pub final : m.is_final ≡ l.is_final
    pub init : m.has_init ≡ l.has_init
    pub type : (t : Ty) → IsLocalType rows s l.type t
        → IsLocalType (rows_to g rows) z m.type (type_to g t)

  abbrev pub LocalsTo : (s z : Scope) → (ls ms : List Local) → Type 0
  LocalsTo s z [] [] = Unit {0}
  LocalsTo s z (l ∷ ls) (m ∷ ms) = LocalTo s z l m × LocalsTo s z ls ms
  LocalsTo s z _ _ = ⊥

  -- d is known at the place of the new program that stands for one where c is known
  pub record ContextTo (c d : Context) : Type 0 where
    pub member : d.member ≡ member_to g c.member
    pub static : d.is_static ≡ c.is_static
    pub locals : LocalsTo (scope_of c) (scope_of d) c.locals d.locals
    -- those in scope are the member's
    pub own : (i : ℕ) (l : Local) → slice_get c.locals i ≡ Some l → l.key.member ≡ c.member
