use Rattle.std.proofs.Common.{subst}
use Rattle.jr_table.specs.Decls.{local_decl, field_decl}
use Rattle.jr_table.specs.Found.{one}
use Rattle.jr_table.specs.KeyView.{decl_of}
use Rattle.jr_table.specs.FoundView.{found_of}
use Rattle.jr_table.specs.Lookup.{FindsVariable}
use Rattle.jr_table.specs.Context.{scope_of}
use Rattle.jr_new_words.specs.Scopes.{rows_of, context_of}
use Rattle.jr_new_words.proofs.Founds.{decl_is, no_decl}
use Rattle.jr_new_words.proofs.variables.by_lookup.Goals as goal

pub by_decl-requires-clause-finds : goal.by_decl-requires-clause-finds
by_decl-requires-clause-finds c =
    let s = c.args.scopes.now in
    let f = found_of c.in_ok-found.found in
    subst (FindsVariable (rows_of s) (scope_of (context_of s)) c.args.name.now) (decl_is f (decl_of c.in-Some.decl.now) c.in-Some.ensures) c.in_ok-found.ensures

pub returns-in-None : goal.returns-in-None
returns-in-None c =
    let s = c.args.scopes.now in
    let o = scope_of (context_of s) in
    let f = found_of c.in_ok-found.found in
    let each = c.lookups_are_exact.ensures.one (rows_of s) c.keeps_rows.ensures in (
      λ k h. no_decl f c.in-None.ensures (local_decl k) (each.variable o c.args.name.now f (one (local_decl k)) c.in_ok-found.ensures h),
      λ k h. no_decl f c.in-None.ensures (field_decl k) (each.variable o c.args.name.now f (one (field_decl k)) c.in_ok-found.ensures h),
    )
