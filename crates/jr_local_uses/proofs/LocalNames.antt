-- A variable that is a local is in scope: no field is one.
use Rattle.std.proofs.Common.{◌≡◌, inl, inr, ℕ, List, sym, ap, subst, ◌∙◌}
use Rattle.std.proofs.lemmas.Option.{same_Some}
use Rattle.jr_table.specs.declared.answers.Answer.TheVariants as number
use Rattle.jr_table.specs.declared.entries.Entry.{Entry}
use Rattle.jr_table.specs.declared.entries.Sort.TheVariants as sort
use Rattle.jr_table.specs.Decls.{Decl, LocalKey, class_decl, field_decl, method_decl, constructor_decl, local_decl}
use Rattle.jr_table.specs.Rows.{Row}
use Rattle.jr_table.specs.Entries.{entries_of, sort_of}
use Rattle.jr_table.specs.Found.{one}
use Rattle.jr_table.specs.Scope.{Scope, FindsLocal}
use Rattle.jr_table.specs.Members.{DeclaresField}
use Rattle.jr_table.specs.Lookup.{FindsVariable}
use Rattle.jr_table.proofs.RowLaws.{row_at}
use Rattle.jr_table.proofs.Border.{member_declares}

no_local : (d : Decl) (k : LocalKey) → sort_of d ≡ sort.Field → d ≡ local_decl k → ⊥
no_local (class_decl c) k s e = cc
no_local (field_decl c) k s e = cc
no_local (method_decl c) k s e = cc
no_local (constructor_decl c) k s e = cc
no_local (local_decl c) k s e = cc

same_key : (j k : LocalKey) → one (local_decl j) ≡ one (local_decl k) → j ≡ k
same_key j k e = cc

pub local_found : (rows : List Row) (s : Scope) (name : List ℕ) (k : LocalKey) → FindsVariable rows s name (one (local_decl k)) → FindsLocal s.locals name k
local_found rows s name k (inl (j, finds, is)) = subst (FindsLocal s.locals name) (sym (same_key k j is)) finds
local_found rows s name k (inr (none, (number.One j, finds, shows))) =
    let o = member_declares (entries_of rows) (DeclaresField (entries_of rows) name) finds.2.chain j finds.2.among in
    let r = row_at rows j o.1.row o.1.stands in
    absurd (no_local r.row.decl k (sym (ap (λ (x : Entry). x.sort) r.is) ∙ o.1.field) (ap (λ (x : Row). x.decl) (same_Some r.row shows.row (sym r.stands ∙ shows.stands)) ∙ shows.declares))
local_found rows s name k (inr (none, (number.Nothing, finds, shows))) = absurd shows
local_found rows s name k (inr (none, (number.Many i j, finds, shows))) = absurd shows
local_found rows s name k (inr (none, (number.NotAccessible j, finds, shows))) = absurd shows
local_found rows s name k (inr (none, (number.FromStatic j, finds, shows))) = absurd shows
