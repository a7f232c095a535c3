-- What a function that gathers declarations says of its list.
use Rattle.std.specs.Prelude.{◌≡◌, ℕ, List, ◌++◌, Result, OnOk, map}
use Rattle.jr_build_declared.specs.declared.declarations.DeclaredItem as raw
use Rattle.jr_table.specs.DeclaredItems.{Item, DeclaredItem}
use Rattle.jr_build_declared.specs.DeclaredView.{declaration_of}

-- the declarations of a file
abbrev pub in_file : ℕ → List Item → List DeclaredItem
in_file file items = map (λ (i : Item). record { file = file; item = i }) items

-- where it is Ok, these declarations have been put behind the others
abbrev pub Gathers : {T E : Type 0} → Result T E → List raw.DeclaredItem → List raw.DeclaredItem → List DeclaredItem
    → Type 0
Gathers result old new more = OnOk result (map declaration_of new ≡ map declaration_of old ++ more)
