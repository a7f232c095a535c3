-- A constructor has its place among the members of its class, under no name.
use Rattle.std.proofs.Common.{◌≡◌, ℕ, List, [], Option, Some, None, true, refl, sym, ap, subst, ◌∙◌, eqb-true, eq-eqb}
use Rattle.std.specs.Prelude.{slice_get, ◌==◌}
use Rattle.std.specs.Str.{bytes_eq}
use Rattle.std.specs.Cmp.Lexicographic.{bytes_decides}
use Rattle.jr_index.specs.Linked.{is_owner, is_at}
use Rattle.jr_table.specs.declared.entries.Entry.{Entry}
use Rattle.jr_table.specs.declared.entries.Sort.TheVariants as sort
use Rattle.jr_table.specs.Decls.{Decl, class_decl, field_decl, method_decl, constructor_decl, local_decl}
use Rattle.jr_table.specs.Rows.{Row}
use Rattle.jr_table.specs.Entries.{sort_of, name_of, entries_of}
use Rattle.jr_table.specs.Looking.{is_sort}
use Rattle.jr_table.specs.Calls.{is_ctor, is_ctor_entry}
use Rattle.jr_table.specs.MemberIndex.{owner_by}
use Rattle.jr_table.specs.Gathering.{entry_named}
use Rattle.jr_table.proofs.RowLaws.{row_at}
use Rattle.jr_table.proofs.Testing.{and_both, and_true, sort_is}

nameless : (d : Decl) → sort_of d ≡ sort.Ctor → name_of d ≡ []
nameless (class_decl k) h = absurd cc
nameless (field_decl k) h = absurd cc
nameless (method_decl k) h = absurd cc
nameless (constructor_decl k) h = refl
nameless (local_decl k) h = absurd cc

pub ctor_placed : (rows : List Row) (c j : ℕ) (e : Entry) → slice_get (entries_of rows) j ≡ Some e → is_ctor (entries_of rows) c j ≡ true → entry_named c [] e ≡ true
unfolding is_ctor
ctor_placed rows c j e at h =
    let b = and_both (is_sort e.sort sort.Ctor) (e.class == c) (sym (ap (is_ctor_entry c) at) ∙ h) in
    let ctor = sort_is e.sort sort.Ctor b.0 in
    let r = row_at rows j e at in
    let name : e.name ≡ [] = ap (λ (x : Entry). x.name) r.is ∙ nameless r.row.decl (sym (ap (λ (x : Entry). x.sort) r.is) ∙ ctor) in
    and_true _ _ (ap (λ o. is_owner o c) (ap (λ s. owner_by s e.class e.outer) ctor ∙ ap Some (eqb-true e.class c b.1)) ∙ eq-eqb c c refl) ((bytes_decides e.name []).1 name)
