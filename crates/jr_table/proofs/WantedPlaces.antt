-- What is looked for has its place among the members of the class.
use Rattle.std.proofs.Common.{◌≡◌, ℕ, List, Some, true, ap, ◌∙◌, eq-eqb, eqb-true}
use Rattle.std.specs.Prelude.{◌&&◌, ◌==◌, not}
use Rattle.std.specs.Str.{bytes_eq}
use Rattle.jr_index.specs.Linked.{is_owner, is_at}
use Rattle.jr_table.specs.declared.entries.Kind.{Kind}
use Rattle.jr_table.specs.declared.entries.Entry.{Entry}
use Rattle.jr_table.specs.declared.entries.Sort.TheVariants as sort
use Rattle.jr_table.specs.declared.wanted.Wanted as raw
use Rattle.jr_table.specs.declared.wanted.Wanted.TheVariants.{Field, Inner, Method, Virtual}
use Rattle.jr_table.specs.Looking.{is_sort, is_number, is_field, is_type, is_method, is_virtual, same_kinds}
use Rattle.jr_table.specs.MemberIndex.{owner_by, member_place}
use Rattle.jr_table.specs.Wanted.{passes, wanted_name}
use Rattle.jr_table.proofs.Testing.{and_both, and_true, sort_is, number_is}

-- a row of this owner and this name
placed : (e : Entry) (c : ℕ) (name : List ℕ) → owner_by e.sort e.class e.outer ≡ Some c → bytes_eq e.name name ≡ true → is_at c name (member_place e) ≡ true
placed e c name owner named = and_true _ _ (ap (λ o. is_owner o c) owner ∙ eq-eqb c c (λ i. c)) named

pub method_placed : (name : List ℕ) (params : List Kind) (c : ℕ) (e : Entry) → is_method name params c e ≡ true → is_at c name (member_place e) ≡ true
method_placed name params c e h =
    let s = and_both (is_sort e.sort sort.Method && (e.class == c) && bytes_eq e.name name) (same_kinds e.params params) h in
    let a = and_both (is_sort e.sort sort.Method && (e.class == c)) (bytes_eq e.name name) s.0 in
    let b = and_both (is_sort e.sort sort.Method) (e.class == c) a.0 in
    placed e c name (ap (λ s. owner_by s e.class e.outer) (sort_is e.sort sort.Method b.0) ∙ ap Some (eqb-true e.class c b.1)) a.1

pub wanted_placed : (w : raw.Wanted) (c : ℕ) (e : Entry) → passes w c e ≡ true → is_at c (wanted_name w) (member_place e) ≡ true
wanted_placed (Field name) c e h =
    let a = and_both (is_sort e.sort sort.Field && (e.class == c)) (bytes_eq e.name name.now) h in
    let b = and_both (is_sort e.sort sort.Field) (e.class == c) a.0 in
    placed e c name.now (ap (λ s. owner_by s e.class e.outer) (sort_is e.sort sort.Field b.0) ∙ ap Some (eqb-true e.class c b.1)) a.1
wanted_placed (Inner name) c e h =
    let a = and_both (is_sort e.sort sort.Class && is_number e.outer c) (bytes_eq e.name name.now) h in
    let b = and_both (is_sort e.sort sort.Class) (is_number e.outer c) a.0 in
    placed e c name.now (ap (λ s. owner_by s e.class e.outer) (sort_is e.sort sort.Class b.0) ∙ number_is e.outer c b.1) a.1
wanted_placed (Method name params) c e h = method_placed name.now params.now c e h
wanted_placed (Virtual name params) c e h =
    let s = and_both (is_method name.now params.now c e && not e.is_private) (not e.is_static) h in
    let a = and_both (is_method name.now params.now c e) (not e.is_private) s.0 in
    method_placed name.now params.now c e a.0
