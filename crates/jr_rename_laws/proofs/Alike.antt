-- Renamings of the same declarations to one name make the same of each key, row and scope.
use Rattle.std.proofs.Common.{◌≡◌, ℕ, List, [], ◌∷◌, map, filter, not, Option, Decides, if◌then◌else◌, option_map, refl, sym}
use Rattle.std.specs.List.{list_any}
use Rattle.std.proofs.lemmas.Bool.Decides.{Decides-or, Decides-like, same_from_decides}
use Rattle.jr_table.specs.Keys.{ClassKey, MethodKey, Ty, int, boolean, void, null, class}
use Rattle.jr_table.specs.Decls.{MemberKey, head, field, method, constructor, LocalKey, Decl, class_decl, field_decl, method_decl, constructor_decl, local_decl}
use Rattle.jr_table.specs.SameDecls.{same_decl, decl_decides}
use Rattle.jr_table.specs.Rows.{Row}
use Rattle.jr_table.specs.Prelude.{top_key}
use Rattle.jr_table.specs.Entries.{class_of_member}
use Rattle.jr_table.specs.Scope.{Scope}
use Rattle.jr_table.specs.Context.{Context, Local}
use Rattle.jr_images.specs.Families.{Among, AreRenamed}
use Rattle.jr_images.specs.Images.{Renaming, is_renamed, name_to, outer_to, class_to, type_to, types_to, method_to, member_to, local_to, decl_to, row_to, rows_to, scope_to}
use Rattle.jr_images.specs.Renames.{pairs_of}
use Rattle.jr_rename_laws.specs.OnePlan.{AreAlike, BecomeTheSame}

pub renamed_alike : (rows : List Row) (d : Decl) (g h : Renaming) → AreRenamed rows d g.decls → AreRenamed rows d h.decls → g.name ≡ h.name → AreAlike g h
renamed_alike rows d g h x y e = record { members = λ m. (λ a. (y m).1 ((x m).0 a), λ a. (x m).1 ((y m).0 a)); name = e }

among_decides : (d : Decl) (xs : List Decl) → Decides (list_any (same_decl d) xs) (Among xs d)
among_decides d [] = (λ e. absurd cc, λ h. absurd h)
among_decides d (x ∷ xs) = Decides-or (same_decl d x) (list_any (same_decl d) xs) (Decides-like (same_decl d x) (λ e. sym e) (λ e. sym e) (decl_decides d x)) (among_decides d xs)

-- what a renaming makes of what it is asked for
pub record Makes : Type 0 where
  pub names : Decl → (old : List ℕ) → List ℕ
  pub classes : ClassKey → ClassKey
  pub types : List Ty → List Ty
  pub decls : Decl → Decl
  pub rows : List Row → List Row
  pub scopes : Context → Scope

abbrev pub makes : Renaming → Makes
makes g = record { names = name_to g; classes = class_to g; types = types_to g; decls = decl_to g; rows = rows_to g; scopes = scope_to g }

module _ (g h : Renaming) (alike : AreAlike g h) where
  is_same : (d : Decl) → is_renamed g d ≡ is_renamed h d
  is_same d = same_from_decides (is_renamed g d) (is_renamed h d) (among_decides d g.decls)
      (Decides-like (is_renamed h d) (λ a. (alike.members d).1 a) (λ a. (alike.members d).0 a) (among_decides d h.decls))

  name_same : (d : Decl) (old : List ℕ) → name_to g d old ≡ name_to h d old
  name_same d old = λ i. if is_same d i then alike.name i else old

  outer_same : (o : Option (List ℕ)) → outer_to g o ≡ outer_to h o
  outer_same o = λ i. option_map (λ (name : List ℕ). name_same (class_decl (top_key name)) name i) o

  pub class_same : (k : ClassKey) → class_to g k ≡ class_to h k
  class_same k = λ i. record { outer = outer_same k.outer i; name = name_same (class_decl k) k.name i }

  type_same : (t : Ty) → type_to g t ≡ type_to h t
  type_same int = refl
  type_same boolean = refl
  type_same void = refl
  type_same null = refl
  type_same (class k) = λ i. class (class_same k i)

  types_same : (ts : List Ty) → types_to g ts ≡ types_to h ts
  types_same ts = λ i. map (λ (t : Ty). type_same t i) ts

  pub method_same : (k : MethodKey) → method_to g k ≡ method_to h k
  method_same k = λ i. record { class = class_same k.class i; name = name_same (method_decl k) k.name i; params = types_same k.params i }

  member_same : (k : MemberKey) → member_to g k ≡ member_to h k
  member_same (head k) = λ i. head (class_same k i)
  member_same (field k) = λ i. field (record { class = class_same k.class i; name = name_same (field_decl k) k.name i })
  member_same (method k) = λ i. method (method_same k i)
  member_same (constructor k) = λ i. constructor (record { class = class_same k.class i; params = types_same k.params i })

  pub local_same : (k : LocalKey) → local_to g k ≡ local_to h k
  local_same k = λ i. record { member = member_same k.member i; number = k.number }

  decl_same : (d : Decl) → decl_to g d ≡ decl_to h d
  decl_same (class_decl k) = λ i. class_decl (class_same k i)
  decl_same (field_decl k) = λ i. field_decl (record { class = class_same k.class i; name = name_same (field_decl k) k.name i })
  decl_same (method_decl k) = λ i. method_decl (method_same k i)
  decl_same (constructor_decl k) = λ i. constructor_decl (record { class = class_same k.class i; params = types_same k.params i })
  decl_same (local_decl k) = λ i. local_decl (local_same k i)

  row_same : (r : Row) → row_to g r ≡ row_to h r
  row_same r = λ i. record {
    decl = decl_same r.decl i;
    modifiers = r.modifiers;
    type = option_map (λ (t : Ty). type_same t i) r.type;
    parent = option_map (λ (k : ClassKey). class_same k i) r.parent;
    has_init = r.has_init;
  }

  pub rows_same : (rows : List Row) → rows_to g rows ≡ rows_to h rows
  rows_same rows = λ i. map (λ (r : Row). row_same r i) rows

  scope_same : (c : Context) → scope_to g c ≡ scope_to h c
  scope_same c = λ i. record {
    class = class_same (class_of_member c.member) i;
    is_static = c.is_static;
    locals = map (λ (l : Local). record { name = name_same (local_decl l.key) l.name i; key = local_same l.key i }) c.locals;
  }

  pairs_same : (rows : List Row) → pairs_of rows g ≡ pairs_of rows h
  pairs_same rows = λ i. map (λ (r : Row). (r.decl, decl_same r.decl i)) (filter (λ (r : Row). not (same_decl r.decl (decl_same r.decl i))) rows)

  pub become_same : (rows : List Row) → BecomeTheSame rows g h
  become_same rows = record { decls = decl_same; rows_are = rows_same rows; scopes = scope_same; pairs = pairs_same rows }

  pub makes_same : makes g ≡ makes h
  makes_same = λ i. record {
    names = λ d old. name_same d old i;
    classes = λ k. class_same k i;
    types = λ ts. types_same ts i;
    decls = λ d. decl_same d i;
    rows = λ rows. rows_same rows i;
    scopes = λ c. scope_same c i;
  }
