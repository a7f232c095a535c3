use Rattle.std.proofs.Common.{[], codes, refl, sym, subst}
use Rattle.std.specs.Prelude.{IfOk}
use Rattle.std.proofs.lemmas.Result.{IfOk-weaker}
use Rattle.jr_table.specs.TypeView.{ty_of}
use Rattle.jr_table.specs.declared.types.Ty as raw
use Rattle.jr_new_bodies.specs.Known.{context_of, mapping_of, rows_of}
use Rattle.jr_extract_lists.specs.WrittenTypes.{CanBeWritten, IsWritten}
use Rattle.jr_extract_lists.proofs.WrittenTypes.{as_is_so, int_so, boolean_so}
use Rattle.jr_extract_lists.proofs.written_types.written_type.Goals as goal

pub returns-in-Int : goal.returns-in-Int
returns-in-Int c =
    let h = c.args.here.now in
    subst (λ (t : raw.Ty). IfOk c.as_is.result (IsWritten (rows_of h) (mapping_of h) (context_of h) c.args.at (ty_of t))) (sym c.in-Int.is)
    (IfOk-weaker c.as_is.result _ _ (λ w o. int_so (rows_of h) (mapping_of h) (context_of h) c.args.at w (as_is_so (codes "int") c.new.result.items w (codes "int") [] refl c.new.ensures.items o)) c.as_is.ensures)

pub returns-in-Boolean : goal.returns-in-Boolean
returns-in-Boolean c =
    let h = c.args.here.now in
    subst (λ (t : raw.Ty). IfOk c.as_is-in-Boolean.result (IsWritten (rows_of h) (mapping_of h) (context_of h) c.args.at (ty_of t))) (sym c.in-Boolean.is)
    (IfOk-weaker c.as_is-in-Boolean.result _ _ (λ w o. boolean_so (rows_of h) (mapping_of h) (context_of h) c.args.at w (as_is_so (codes "boolean") c.new-in-Boolean.result.items w (codes "boolean") [] refl c.new-in-Boolean.ensures.items o)) c.as_is-in-Boolean.ensures)

pub unreachable-requires : goal.unreachable-requires
unreachable-requires c = subst (λ (t : raw.Ty). CanBeWritten (ty_of t)) c.in-Void.is c.requires.kept

pub unreachable-requires-in-Null : goal.unreachable-requires-in-Null
unreachable-requires-in-Null c = subst (λ (t : raw.Ty). CanBeWritten (ty_of t)) c.in-Null.is c.requires.kept

pub returns-in-Class : goal.returns-in-Class
returns-in-Class c =
    let h = c.args.here.now in
    subst (λ (t : raw.Ty). IfOk c.class_type.result (IsWritten (rows_of h) (mapping_of h) (context_of h) c.args.at (ty_of t))) (sym c.in-Class.is) c.class_type.ensures
