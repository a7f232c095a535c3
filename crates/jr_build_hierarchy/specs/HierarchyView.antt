-- The pure hierarchy that Rust values stand for, and meanings.
use Rattle.std.specs.Prelude.{◌≡◌, ℕ, List, Option, Some, None, map, option_map}
use Rattle.jr_table.specs.Keys.{ClassKey, Ty, int, boolean, class}
use Rattle.jr_build_hierarchy.specs.declared.hierarchies.Hierarchy as raw
use Rattle.jr_build_hierarchy.specs.declared.meanings.Meaning as raw_meaning
use Rattle.jr_build_hierarchy.specs.declared.meanings.Meaning.TheVariants as meant
use Rattle.jr_build_declared.specs.declared.declarations.DeclaredKey.{DeclaredKey}
use Rattle.jr_index.specs.Names.{named}
use Rattle.jr_build_declared.specs.KeyIndex.{number_at}
use Rattle.jr_build_declared.specs.DeclaredView.{declaration_key_of}
use Rattle.jr_build_hierarchy.specs.Hierarchies.{Hierarchy}

abbrev pub keys_of : List (Option DeclaredKey) → List (Option ClassKey)
keys_of ks = map (option_map declaration_key_of) ks

unfoldable pub hierarchy_of : raw.Hierarchy → Hierarchy
hierarchy_of h = record {
  keys = keys_of h.keys.items;
  privates = h.privates.items;
  number = number_at h.index;
  inner = named h.inner;
  parents = h.parents.items;
}

abbrev pub meaning_of : raw_meaning.Meaning → Ty
meaning_of meant.Int = int
meaning_of meant.Boolean = boolean
meaning_of (meant.Class k) = class (declaration_key_of k)
