-- A part whose notes are the same breaks the same rules, and is bound to the same declarations.
use Rattle.std.proofs.Common.{◌≡◌, ℕ, List, sym, subst}
use Rattle.std.specs.Prelude.{◌↔◌}
use Rattle.jr_table.specs.Decls.{MemberKey}
use Rattle.jr_table.specs.Rows.{Row}
use Rattle.jr_table.specs.LookupLaws.{KeysFound}
use Rattle.jr_table.specs.Errors.{Part}
use Rattle.jr_table.specs.Notes.{Note, refers, breaks, Has}
use Rattle.jr_table.specs.Walks.{part_notes}
use Rattle.jr_table.specs.NotingLaws.{PartIsNoted, PartsAreNoted}
use Rattle.jr_mentions.specs.Lasting.{PartLasts, PartsLast}
use Rattle.jr_mentions.proofs.SamePartNotes.{same_part_notes}

-- two relations that say what stands in one list
carried : (ns ms : List Note) (n : Note) (P Q : Type 0) → ns ≡ ms → (Has ns n ↔ P) → (Has ms n ↔ Q) → P ↔ Q
carried ns ms n P Q e p q = (λ h. q.0 (subst (λ xs. Has xs n) e (p.1 h)), λ h. p.0 (subst (λ xs. Has xs n) (sym e) (q.1 h)))

lasting : {A : Type 0} (begins : A → ℕ → ℕ) (rows after : List Row) (super_at : ℕ) (k : MemberKey) (base : ℕ) (part : Part A)
    → part_notes begins rows super_at k base part ≡ part_notes begins after super_at k base part
    → PartIsNoted begins rows super_at k base part → PartIsNoted begins after super_at k base part → PartLasts begins rows after super_at k base part
lasting begins rows after super_at k base part e p q = record {
  breaks = λ at r. carried (part_notes begins rows super_at k base part) (part_notes begins after super_at k base part) (breaks at r) _ _ e (p.rules at r) (q.rules at r);
  binds = λ at d. carried (part_notes begins rows super_at k base part) (part_notes begins after super_at k base part) (refers at d) _ _ e (p.bindings at d) (q.bindings at d);
}

pub parts_last : (A : Type 0) → KeysFound → PartsAreNoted A → PartsLast A
parts_last A found noted begins names rows after are are' alike super_at k base part this h =
    lasting begins rows after super_at k base part (same_part_notes names rows after alike begins super_at k this base part h)
    (noted begins rows are (found rows are) super_at k base part) (noted begins after are' (found after are') super_at k base part)
