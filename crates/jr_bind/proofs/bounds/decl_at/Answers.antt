use Rattle.std.proofs.Common.{ltb, Some, None, Bool, refl, sym, ap, ◌∙◌, arith, rules}
use Rattle.std.specs.Prelude.{option_map, if◌then◌else◌}
use Rattle.std.proofs.lemmas.Bool.{eq-eqb, ltb-true, ltb-false}
use Rattle.std.proofs.lemmas.List.Sorted.{IsPartitionPoint-from_clause, IsPartitionedBy-ltb}
use Rattle.jr_table.specs.declared.decls.Decl.{Decl}
use Rattle.jr_table.specs.KeyView.{decl_of}
use Rattle.jr_bind.proofs.Searching.{at_number, decides, neither}
use Rattle.jr_bind.proofs.bounds.decl_at.Goals as goal

pub returns-in-None : goal.returns-in-None
returns-in-None c =
    let xs = c.args.references.now in
    let point = IsPartitionPoint-from_clause (λ r. ltb r.at c.args.at) _ _ c.partition_point-number.ensures.partitioned (IsPartitionedBy-ltb (λ r. r.at) _ c.args.at c.requires) (λ a r q k. search rules) in
    let all = decides xs c.partition_point-number.result c.args.at c.requires (λ k d lt within. ltb-true _ _ (point.0 k d (omega arith) lt)) (λ k d le within. ltb-false _ _ (point.1 k d le within)) in
    sym (all ∙ ap (at_number c.args.at) (sym c.reference_at.ensures ∙ ap (option_map (λ r. r.now)) c.in-None.is))

pub returns-then-reference-at : goal.returns-then-reference-at
returns-then-reference-at c =
    let xs = c.args.references.now in
    let point = IsPartitionPoint-from_clause (λ r. ltb r.at c.args.at) _ _ c.partition_point-number.ensures.partitioned (IsPartitionedBy-ltb (λ r. r.at) _ c.args.at c.requires) (λ a r q k. search rules) in
    let all = decides xs c.partition_point-number.result c.args.at c.requires (λ k d lt within. ltb-true _ _ (point.0 k d (omega arith) lt)) (λ k d le within. ltb-false _ _ (point.1 k d le within)) in
    ap (λ (d : Decl). Some (decl_of d)) c.as_ref.ensures ∙ sym (all ∙ ap (at_number c.args.at) (sym c.reference_at.ensures ∙ ap (option_map (λ r. r.now)) c.in-Some.is) ∙ ap (λ (b : Bool). if b then Some (decl_of c.in-Some.reference.now.decl.value) else None) (eq-eqb _ _ c.if-reference-at.true))

pub returns-else-reference-at : goal.returns-else-reference-at
returns-else-reference-at c =
    let xs = c.args.references.now in
    let point = IsPartitionPoint-from_clause (λ r. ltb r.at c.args.at) _ _ c.partition_point-number.ensures.partitioned (IsPartitionedBy-ltb (λ r. r.at) _ c.args.at c.requires) (λ a r q k. search rules) in
    let all = decides xs c.partition_point-number.result c.args.at c.requires (λ k d lt within. ltb-true _ _ (point.0 k d (omega arith) lt)) (λ k d le within. ltb-false _ _ (point.1 k d le within)) in
    sym (all ∙ ap (at_number c.args.at) (sym c.reference_at.ensures ∙ ap (option_map (λ r. r.now)) c.in-Some.is) ∙ ap (λ (b : Bool). if b then Some (decl_of c.in-Some.reference.now.decl.value) else None) (neither _ _ _ refl c.if-reference-at.false))
