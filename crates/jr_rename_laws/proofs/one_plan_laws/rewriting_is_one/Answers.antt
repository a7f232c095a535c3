use Rattle.std.proofs.Common.{◌≡◌, [], true, sym, subst}
use Rattle.jr_table.specs.Context.{Context}
use Rattle.jr_table.specs.DeclaredItems.{declarations_of}
use Rattle.jr_bind.specs.Programs.{Program, units_of}
use Rattle.jr_bind.specs.SuperPlaces.{writes_super}
use Rattle.jr_grammar.specs.Layout.{itself}
use Rattle.jr_text.specs.declared.spans.Span.{Span}
use Rattle.jr_program_laws.specs.FileParts.{begins}
use Rattle.jr_program_laws.proofs.MeansOnce.{declares_once}
use Rattle.jr_images.specs.Images.{rows_to}
use Rattle.jr_images.specs.Renames.{Rewrite}
use Rattle.jr_images.specs.Spelling.{spelling}
use Rattle.jr_rename_laws.proofs.OneRewriting.{units_one}
use Rattle.jr_rename_laws.proofs.OneChoice.{choices_agree}
use Rattle.jr_rename_laws.proofs.OneProgram.{IsWhole, is_beside, super_same}
use Rattle.jr_rename_laws.proofs.one_plan_laws.rewriting_is_one.Goals as goal

pub returns : goal.returns
returns c p q is also same g h alike fair files others x y =
    let beside = sym (is_beside p q is also same) in
    let supers = super_same c.members_are_written.ensures p q.super_at q.bounds is (subst IsWhole beside also) in
    let bounds = c.types_are_exact.ensures.bound p.rows is.are_rows (c.lookups_are_exact.ensures.keys p.rows is.are_rows) in
    let agree = choices_agree p.rows is.are_rows (c.lookups_are_exact.ensures.one p.rows is.are_rows) bounds g h alike fair.are (c.lookups_are_exact.ensures.one (rows_to g p.rows) fair.are) p.super_at q.super_at in
    units_one itself (λ k part. writes_super part ≡ true → p.super_at k ≡ q.super_at k) (spelling begins p.rows g (λ (k : Context). p.super_at k.member)) (spelling begins p.rows h (λ (k : Context). q.super_at k.member)) agree
    (declarations_of begins (units_of p)) (declares_once [] (declarations_of begins (units_of p)) is.clean) (units_of p) (λ n u stands k base part writes. supers n k base part (record { unit = u; stands = stands; writes = writes })) files others x
    (subst (λ (r : Program Span). Rewrite itself r.rows r.super_at (units_of r) h others) beside y)
