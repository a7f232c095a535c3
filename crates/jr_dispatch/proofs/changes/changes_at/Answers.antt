use Rattle.std.proofs.Common.{◌≡◌, ◌≢◌, ℕ, Bool, Option, sym, ap, subst, ◌∙◌}
use Rattle.jr_table.specs.declared.entries.Entry.{Entry}
use Rattle.jr_table.specs.Entries.{entries_of}
use Rattle.jr_table.specs.Looking.{is_virtual, own_row, nearest}
use Rattle.jr_dispatch.proofs.Lows.{programs_of, is_change, change_below, change_own, change_differs}
use Rattle.jr_dispatch.proofs.changes.changes_at.Goals as goal

pub returns-in_default : goal.returns-in_default
returns-in_default c = (λ t. absurd cc, λ h. let z = c.in_default.ensures ∙ h.names.before.declared.stands in absurd cc)

pub returns-in_default-entry : goal.returns-in_default-entry
returns-in_default-entry c = (λ t. absurd cc, λ h. let z = c.in_default-entry.ensures ∙ h.names.after.declared.stands in absurd cc)

pub returns-then-not-is_subclass_at : goal.returns-then-not-is_subclass_at
returns-then-not-is_subclass_at c =
    let old = entries_of c.args.old.now in
    let new = entries_of c.args.new.now in
    let ps = programs_of c.args.old.now c.args.new.now c.keeps_rows.ensures c.keeps_rows-2.ensures c.requires in (
      λ t. absurd cc,
      λ h.
          let s = change_below old new ps c.args.number c.in-Some.entry.now c.in-Some-entry.image.now (sym c.in-Some.ensures) (sym c.in-Some-entry.ensures) c.args.class h in
          let t = c.is_subclass_at.ensures.1 s in
          let f = c.if-not-is_subclass_at.true in
          absurd cc,
    )

pub returns-then-not-is_own : goal.returns-then-not-is_own
returns-then-not-is_own c =
    let old = entries_of c.args.old.now in
    let new = entries_of c.args.new.now in
    let ps = programs_of c.args.old.now c.args.new.now c.keeps_rows.ensures c.keeps_rows-2.ensures c.requires in
    let e = c.in-Some.entry.now in (
      λ t. absurd cc,
      λ h.
          let own = change_own old new ps c.args.number e c.in-Some-entry.image.now (sym c.in-Some.ensures) (sym c.in-Some-entry.ensures) c.args.class h in
          let t = c.is_own.ensures.1 (ap (λ (x : ℕ → Entry → Bool). own_row old x e.class) c.virtual_like-was.ensures ∙ own) in
          let f = c.if-not-is_own.true in
          absurd cc,
    )

pub returns : goal.returns
returns c =
    let old = entries_of c.args.old.now in
    let new = entries_of c.args.new.now in
    let ps = programs_of c.args.old.now c.args.new.now c.keeps_rows.ensures c.keeps_rows-2.ensures c.requires in
    let e = c.in-Some.entry.now in
    let f = c.in-Some-entry.image.now in
    let was : c.nearest.result ≡ nearest old (is_virtual e.name e.params) c.args.class = c.nearest.ensures ∙ ap (λ (x : ℕ → Entry → Bool). nearest old x c.args.class) c.virtual_like-was.ensures in
    let now : c.nearest-2.result ≡ nearest new (is_virtual f.name f.params) c.args.class = c.nearest-2.ensures ∙ ap (λ (x : ℕ → Entry → Bool). nearest new x c.args.class) c.virtual_like-now.ensures in
    let own = sym (ap (λ (x : ℕ → Entry → Bool). own_row old x e.class) c.virtual_like-was.ensures) ∙ c.is_own.ensures.0 c.if-not-is_own.false in (
      λ t. is_change old new ps c.args.number e f (sym c.in-Some.ensures) (sym c.in-Some-entry.ensures) c.args.class (c.is_subclass_at.ensures.0 c.if-not-is_subclass_at.false) own
          (λ s. c.differ.ensures.0 t (was ∙ s ∙ sym now)),
      λ h. c.differ.ensures.1 (λ s. change_differs old new ps c.args.number e f (sym c.in-Some.ensures) (sym c.in-Some-entry.ensures) c.args.class h (sym was ∙ s ∙ now)),
    )
