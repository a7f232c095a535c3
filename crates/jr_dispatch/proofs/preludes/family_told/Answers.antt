use Rattle.std.proofs.Common.{map, ap, sym, subst}
use Rattle.jr_table.specs.KeyView.{decl_of}
use Rattle.jr_names.specs.DeclTexts.{decl_text}
use Rattle.jr_dispatch.specs.Told.{HasPrelude}
use Rattle.jr_dispatch.proofs.Telling.{has_one, has_none, told_some, told_none}
use Rattle.jr_dispatch.proofs.preludes.family_told.Goals as goal

pub returns-in-Some-clause-some : goal.returns-in-Some-clause-some
returns-in-Some-clause-some c =
    let h = c.in-Some.ensures.some in
    let has = has_one c.args.table.now c.keeps_rows.ensures c.args.family.now h.0 h.1 h.2 h.3 in
    (told_some c.args.table.now c.keeps_rows.ensures c.args.family.now c.args.new.now (decl_text (decl_of c.in-Some.member.now)) _ c.some_text.result
    (subst (HasPrelude c.args.table.now (map decl_of c.args.family.now)) (ap (λ d. decl_text (decl_of d)) (sym h.4)) has) c.some_text.ensures).0

pub returns-in-Some-clause-none : goal.returns-in-Some-clause-none
returns-in-Some-clause-none c =
    let h = c.in-Some.ensures.some in
    let has = has_one c.args.table.now c.keeps_rows.ensures c.args.family.now h.0 h.1 h.2 h.3 in
    (told_some c.args.table.now c.keeps_rows.ensures c.args.family.now c.args.new.now (decl_text (decl_of c.in-Some.member.now)) _ c.some_text.result
    (subst (HasPrelude c.args.table.now (map decl_of c.args.family.now)) (ap (λ d. decl_text (decl_of d)) (sym h.4)) has) c.some_text.ensures).1

pub returns-in-None-clause-some : goal.returns-in-None-clause-some
returns-in-None-clause-some c =
    (told_none c.args.table.now c.keeps_rows.ensures c.args.family.now c.args.new.now _ c.object_method.result
    (has_none c.args.table.now c.keeps_rows.ensures c.args.family.now (c.prelude_member.ensures.none c.in-None.is)) c.object_method.ensures).0

pub returns-in-None-clause-none : goal.returns-in-None-clause-none
returns-in-None-clause-none c =
    (told_none c.args.table.now c.keeps_rows.ensures c.args.family.now c.args.new.now _ c.object_method.result
    (has_none c.args.table.now c.keeps_rows.ensures c.args.family.now (c.prelude_member.ensures.none c.in-None.is)) c.object_method.ensures).1
