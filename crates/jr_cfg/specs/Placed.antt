-- A site of a member's way as it is handed out: its byte is counted from the member's first, and
-- fields and locals go by their keys.
use Rattle.std.specs.Prelude.{ℕ, ◌-◌}
use Rattle.jr_sync.specs.declared.kinds.Kind.{Kind}
use Rattle.jr_sync.specs.declared.kinds.Kind.TheVariants.{Still}
use Rattle.jr_runs.specs.Actions as field
use Rattle.jr_runs.specs.Actions.{FieldKind}
use Rattle.jr_table.specs.Decls.{MemberKey, LocalKey}
use Rattle.jr_code.specs.RunKeys.{RunKeys}
use Rattle.jr_cover.specs.Sites.{Site}
use Rattle.jr_sites.specs.SiteView.{PlacedSite}
use Rattle.jr_expr_sites.specs.Meanings.{field_kind}
use Rattle.jr_expr_sites.specs.KnownFacts.{Given}
use Rattle.jr_cfg.specs.Seen.{seen}

abbrev pub own_local : MemberKey → ℕ → LocalKey
own_local m n = record { member = m; number = n }

abbrev pub placed : Given → Site RunKeys → PlacedSite
placed g s = record {
  at = s.at.at - g.start;
  site = seen (field_kind g.rows) (λ f. f) (own_local g.member) s.what;
}

-- the kind of an access of a field, by that of a plain and of a volatile one
abbrev pub by_kind : (plain volatile : Kind) → FieldKind → Kind
by_kind p v field.plain = p
by_kind p v field.volatile = v
by_kind p v field.final = Still
