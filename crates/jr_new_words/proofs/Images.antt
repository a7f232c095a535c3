-- What becomes of keys, by how they are mapped: rows that have images, the images of declarations.
use Rattle.std.proofs.Common.{◌≡◌, ℕ, List, [], ◌∷◌, map, Option, Some, None, false, cond, refl, sym, ap, ◌∙◌}
use Rattle.std.specs.Prelude.{option_map, slice_get}
use Rattle.std.proofs.lemmas.Option.{slice_get-map}
use Rattle.jr_table.specs.Keys.{ClassKey, Ty, int, boolean, void, null, class}
use Rattle.jr_table.specs.Decls.{LocalKey, Decl, class_decl, field_decl, method_decl, constructor_decl, local_decl}
use Rattle.jr_table.specs.Rows.{Row}
use Rattle.jr_table.specs.Entries.{IsRowOf}
use Rattle.jr_table.specs.Lookup.{decl_at}
use Rattle.jr_images.specs.Images as renaming
use Rattle.jr_images.specs.Images.{Renaming}
use Rattle.jr_images.specs.Regions as regions
use Rattle.jr_images.specs.Regions.{itself}
use Rattle.jr_new_words.specs.Mappings.{KeyMapping, same_keys, renamed, LocalMapping, all_stay, renumbered, numbered_key, number_by, local_by, type_by, types_by, name_by, is_renamed_by, decl_by, rows_by, BecomesAt, HaveImages, Mapping, seen_of, region_of}

-- the rows of the new program
pub rows_are : (x : KeyMapping) (old new : List Row) → HaveImages x old new → new ≡ rows_by x new old
rows_are same_keys old new h = refl
rows_are (renamed g) old new h = h

-- what isn't renamed keeps its name
pub keeps_name : (x : KeyMapping) (d : Decl) (old : List ℕ) → is_renamed_by x d ≡ false → name_by x d old ≡ old
keeps_name same_keys d old e = refl
keeps_name (renamed g) d old e = ap (λ b. cond b g.name old) e

-- a local that is kept
pub local_is : (x : KeyMapping) (y : LocalMapping) (k : LocalKey) → local_by x y k ≡ option_map (numbered_key x k) (number_by y k.number)
local_is x all_stay k = refl
local_is x (renumbered r) k = refl

-- ---- of a rename

pub type_is : (g : Renaming) (t : Ty) → type_by (renamed g) t ≡ renaming.type_to g t
type_is g int = refl
type_is g boolean = refl
type_is g void = refl
type_is g null = refl
type_is g (class k) = refl

pub types_are : (g : Renaming) (ts : List Ty) → types_by (renamed g) ts ≡ renaming.types_to g ts
types_are g ts = λ i. map (λ t. type_is g t i) ts

pub decl_is : (g : Renaming) (d : Decl) → decl_by (renamed g) d ≡ renaming.decl_to g d
decl_is g (class_decl k) = refl
decl_is g (field_decl k) = refl
decl_is g (method_decl k) = refl
decl_is g (constructor_decl k) = refl
decl_is g (local_decl k) = refl

decl_image : (g : Renaming) (rows : List Row) (j : ℕ) → decl_at (map (renaming.row_to g) rows) j ≡ option_map (decl_by (renamed g)) (decl_at rows j)
decl_image g rows j = ap (option_map (λ (r : Row). r.decl)) (slice_get-map (renaming.row_to g) rows j) ∙ swapped (slice_get rows j)
  where
    swapped : (o : Option Row) → option_map (λ (r : Row). r.decl) (option_map (renaming.row_to g) o) ≡ option_map (decl_by (renamed g)) (option_map (λ (r : Row). r.decl) o)
    swapped None = refl
    swapped (Some r) = ap Some (sym (decl_is g r.decl))

old_decl : (g : Renaming) (o : Option Decl) (d : Decl) → option_map (decl_by (renamed g)) o ≡ Some d → (e : Decl) × (o ≡ Some e) × (decl_by (renamed g) e ≡ d)
old_decl g None d e = absurd cc
old_decl g (Some x) d e = (x, refl, cc)

-- a row has the number of the one whose image it is
pub renamed_becomes : (g : Renaming) (old new : List Row) → new ≡ renaming.rows_to g old → (i j : ℕ) → i ≡ j → BecomesAt (renamed g) old new i j
renamed_becomes g old new are i j is = λ d at.
    let image = sym (decl_image g old i) ∙ ap (λ n. decl_at (renaming.rows_to g old) n) is ∙ ap (λ (rows : List Row). decl_at rows j) (sym are) ∙ at in
    old_decl g (decl_at old i) d image

declared_at : (rows : List Row) (d : Decl) (j : ℕ) → IsRowOf rows d j → decl_at rows j ≡ Some d
declared_at rows d j i = ap (option_map (λ (r : Row). r.decl)) i.stands ∙ ap Some i.declares

pub renamed_class : (g : Renaming) (old new : List Row) → new ≡ renaming.rows_to g old → (k : ClassKey) (j : ℕ) → IsRowOf old (class_decl k) j
    → decl_at new j ≡ Some (class_decl (renaming.class_to g k))
renamed_class g old new are k j row = ap (λ (rows : List Row). decl_at rows j) are ∙ decl_image g old j ∙ ap (option_map (decl_by (renamed g))) (declared_at old (class_decl k) j row)

-- ---- where keys stay

pub same_type : (t : Ty) → type_by same_keys t ≡ t
same_type int = refl
same_type boolean = refl
same_type void = refl
same_type null = refl
same_type (class k) = refl

pub same_types : (ts : List Ty) → types_by same_keys ts ≡ ts
same_types [] = refl
same_types (t ∷ ts) = λ i. same_type t i ∷ same_types ts i

pub same_decl : (d : Decl) → decl_by same_keys d ≡ d
same_decl (class_decl k) = refl
same_decl (field_decl k) = refl
same_decl (method_decl k) = refl
same_decl (constructor_decl k) = refl
same_decl (local_decl k) = refl

pub same_becomes : (old new : List Row) (i j : ℕ) (d : Decl) → decl_at old i ≡ Some d → decl_at new j ≡ Some d → BecomesAt same_keys old new i j
same_becomes old new i j d before after = λ e at.
    let both : Some d ≡ Some e = sym after ∙ at in
    let is : d ≡ e = cc in
    (d, before, same_decl d ∙ is)

pub same_class : (rows : List Row) (k : ClassKey) (j : ℕ) → IsRowOf rows (class_decl k) j → decl_at rows j ≡ Some (class_decl k)
same_class rows k j row = declared_at rows (class_decl k) j row

-- ---- the region of a rename

pub seen_is : (rows : List Row) (g : Renaming) (new : List Row) → (let m : Mapping = record { keys = renamed g; locals = all_stay; new = new } in seen_of rows m ≡ regions.seen_of rows g)
seen_is rows g new = refl

pub region_is : {A : Type 0} (rows : List Row) (g : Renaming) (new : List Row) → (let m : Mapping = record { keys = renamed g; locals = all_stay; new = new } in region_of {A = A} rows m ≡ regions.region_of rows g)
region_is rows g new = λ i. record {
  seen = regions.seen_of rows g;
  type_now = λ c e t. type_is g t i;
  types_now = λ c es ts. types_are g ts i;
  receiver = itself;
}
