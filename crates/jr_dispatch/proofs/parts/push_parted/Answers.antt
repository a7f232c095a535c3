use Rattle.std.proofs.Common.{ℕ, Bool, sym, ap, subst, ◌∙◌}
use Rattle.jr_table.specs.declared.entries.Entry.{Entry}
use Rattle.jr_table.specs.Entries.{entries_of}
use Rattle.jr_table.specs.Looking.{is_virtual, own_row}
use Rattle.jr_table.specs.Wanted.{passes}
use Rattle.jr_dispatch.specs.Changes.{DiffersAbove, AreUnparted}
use Rattle.jr_dispatch.specs.Moves.{is_asked}
use Rattle.jr_dispatch.proofs.Lows.{none_parted_here, one_parted_here, without_old, without_new, asked, programs_of, names_own, is_parted, takes_too, parted_differs, parted_class}
use Rattle.jr_dispatch.proofs.Marking.{method_tests}
use Rattle.jr_dispatch.proofs.parts.push_parted.Goals as goal

pub returns-in_default-clause-lows : goal.returns-in_default-clause-lows
returns-in_default-clause-lows c =
    let old = entries_of c.args.old.now in
    let new = entries_of c.args.new.now in
    none_parted_here old new c.args.number c.args.lows.now.items (λ d. without_old old new c.args.number d (sym c.in_default.ensures))

pub returns-then-not-is_asked-clause-lows : goal.returns-then-not-is_asked-clause-lows
returns-then-not-is_asked-clause-lows c =
    let old = entries_of c.args.old.now in
    let new = entries_of c.args.new.now in
    none_parted_here old new c.args.number c.args.lows.now.items
    (λ d h.
    let t = asked c.args.old.now c.args.new.now c.keeps_rows.ensures c.keeps_rows-2.ensures c.requires.alike c.args.moves.now c.requires.moves c.args.number d c.in-Some.entry.now (sym c.in-Some.ensures) h in
    let s = c.is_asked.ensures ∙ ap (is_asked old new c.args.moves.now) c.as_str.ensures ∙ t in
    let f = c.if-not-is_asked.true in
    absurd cc)

pub returns-in_default-entry-clause-lows : goal.returns-in_default-entry-clause-lows
returns-in_default-entry-clause-lows c =
    let old = entries_of c.args.old.now in
    let new = entries_of c.args.new.now in
    none_parted_here old new c.args.number c.args.lows.now.items (λ d. without_new old new c.args.number d (sym c.in_default-entry.ensures))

pub returns-then-not-is_own-clause-lows : goal.returns-then-not-is_own-clause-lows
returns-then-not-is_own-clause-lows c =
    let old = entries_of c.args.old.now in
    let new = entries_of c.args.new.now in
    let ps = programs_of c.args.old.now c.args.new.now c.keeps_rows.ensures c.keeps_rows-2.ensures c.requires.alike in
    let e = c.in-Some.entry.now in
    none_parted_here old new c.args.number c.args.lows.now.items
    (λ d h.
    let own = names_own old new ps c.args.number e c.in-Some-entry.image.now (sym c.in-Some.ensures) (sym c.in-Some-entry.ensures) h.was h.now h.params d h.names in
    let t = c.is_own.ensures.1 (ap (λ (x : ℕ → Entry → Bool). own_row old x e.class) c.virtual_like-was.ensures ∙ own) in
    let f = c.if-not-is_own.true in
    absurd cc)

pub returns-then-not-differs_above-clause-lows : goal.returns-then-not-differs_above-clause-lows
returns-then-not-differs_above-clause-lows c =
    let old = entries_of c.args.old.now in
    let new = entries_of c.args.new.now in
    let ps = programs_of c.args.old.now c.args.new.now c.keeps_rows.ensures c.keeps_rows-2.ensures c.requires.alike in
    let e = c.in-Some.entry.now in
    none_parted_here old new c.args.number c.args.lows.now.items
    (λ d h.
    let x = parted_differs old new ps c.args.number e c.in-Some-entry.image.now (sym c.in-Some.ensures) (sym c.in-Some-entry.ensures) d h in
    let f = c.in-Some-entry.image.now in
    let y = subst (λ (t : ℕ → Entry → Bool). DiffersAbove old new t (is_virtual f.name f.params) e.class) (sym c.virtual_like-was.ensures) x in
    let t = c.differs_above.ensures.1 (subst (λ (u : ℕ → Entry → Bool). DiffersAbove old new (passes c.virtual_like-was.result) u e.class) (sym c.virtual_like-now.ensures) y) in
    let q = c.if-not-differs_above.true in
    absurd cc)

pub returns-clause-lows : goal.returns-clause-lows
returns-clause-lows c =
    let old = entries_of c.args.old.now in
    let new = entries_of c.args.new.now in
    let ps = programs_of c.args.old.now c.args.new.now c.keeps_rows.ensures c.keeps_rows-2.ensures c.requires.alike in
    let e = c.in-Some.entry.now in
    let f = c.in-Some-entry.image.now in
    let own = sym (ap (λ (x : ℕ → Entry → Bool). own_row old x e.class) c.virtual_like-was.ensures) ∙ c.is_own.ensures.0 c.if-not-is_own.false in
    let x = subst (λ (t : ℕ → Entry → Bool). DiffersAbove old new t (passes c.virtual_like-now.result) e.class) c.virtual_like-was.ensures (c.differs_above.ensures.0 c.if-not-differs_above.false) in
    let differs = subst (λ (u : ℕ → Entry → Bool). DiffersAbove old new (is_virtual e.name e.params) u e.class) c.virtual_like-now.ensures x in
    one_parted_here old new c.args.number e.class c.args.lows.now.items _ c.in_ok-push.ensures.items
    (is_parted old new ps c.args.number e f (sym c.in-Some.ensures) (sym c.in-Some-entry.ensures) own differs)
    (parted_class old new ps c.args.number e f (sym c.in-Some.ensures) (sym c.in-Some-entry.ensures))

-- ---- what the calls ask

pub differs_above-requires-clause-tests : goal.differs_above-requires-clause-tests
differs_above-requires-clause-tests c =
    let old = entries_of c.args.old.now in
    let new = entries_of c.args.new.now in
    let ps = programs_of c.args.old.now c.args.new.now c.keeps_rows.ensures c.keeps_rows-2.ensures c.requires.alike in
    let e = c.in-Some.entry.now in
    let f = c.in-Some-entry.image.now in
    method_tests e.name f.name e.params f.params (takes_too old new ps c.args.number e f (sym c.in-Some.ensures) (sym c.in-Some-entry.ensures)) _ _ c.virtual_like-was.ensures c.virtual_like-now.ensures

pub mark_above-requires-clause-tests : goal.mark_above-requires-clause-tests
mark_above-requires-clause-tests c =
    let old = entries_of c.args.old.now in
    let new = entries_of c.args.new.now in
    let ps = programs_of c.args.old.now c.args.new.now c.keeps_rows.ensures c.keeps_rows-2.ensures c.requires.alike in
    let e = c.in-Some.entry.now in
    let f = c.in-Some-entry.image.now in
    method_tests e.name f.name e.params f.params (takes_too old new ps c.args.number e f (sym c.in-Some.ensures) (sym c.in-Some-entry.ensures)) _ _ c.virtual_like-was.ensures c.virtual_like-now.ensures

pub differs_above-requires-clause-unparted : goal.differs_above-requires-clause-unparted
differs_above-requires-clause-unparted c = subst (AreUnparted (entries_of c.args.old.now) (entries_of c.args.new.now)) (sym c.as_slice.ensures.value) c.requires.unparted

pub mark_above-requires-clause-none : goal.mark_above-requires-clause-none
mark_above-requires-clause-none c = λ d. let t = c.differs_above.ensures.1 d in let q = c.if-not-differs_above.true in absurd cc
