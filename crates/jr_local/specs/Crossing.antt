-- Two pieces of a body that may not change places, as a refusal tells the pair.
use Rattle.std.specs.Prelude.{◌≡◌, ℕ, Bool, List, Some, map, slice_get}
use Rattle.jr_text.specs.declared.spans.Span.{Span}
use Rattle.jr_ast.specs.Tree as tree
use Rattle.jr_sync.specs.declared.sites.DepKind.{DepKind}
use Rattle.jr_sync.specs.declared.sites.Site as shown
use Rattle.jr_sync.specs.Crossing.{IsCrossing}
use Rattle.jr_cover.specs.Sites.{Site, Known, exp_way}
use Rattle.jr_cover.specs.Ways.{sites_of}
use Rattle.jr_cover.specs.Plain.{IsPlain}
use Rattle.jr_table.specs.Keys.{FieldKey}
use Rattle.jr_table.specs.Decls.{LocalKey}
use Rattle.jr_code.specs.RunKeys.{RunKeys}
use Rattle.jr_expr_sites.specs.Meanings.{field_kind}
use Rattle.jr_cfg.specs.Seen.{seen}
use Rattle.jr_cfg.specs.Placed.{own_local}
use Rattle.jr_names.specs.Sites.{SiteAt}
use Rattle.jr_bind.specs.Programs.{Program}
use Rattle.jr_local.specs.Bodies.{Body}
use Rattle.jr_local.specs.BodyFacts.{TellsNeverNull, known}

-- sites of a piece, by what is known of the nodes
abbrev pub Piece : Type 0
Piece = Known RunKeys Span → List (Site RunKeys)

module _ (p : Program Span) (file : ℕ) (b : Body) where
  -- reads of locals are all that the expression does
  pub record DoesReadAlone (e : tree.Exp Span) : Type 0 where
    pub never_null : tree.Exp Span → Bool
    pub tells : TellsNeverNull p b never_null
    pub plain : IsPlain (sites_of (exp_way (known p b never_null) e))

  -- a site without its place, and with it
  abbrev pub action : Site RunKeys → shown.Site FieldKey LocalKey
  action s = seen (field_kind p.rows) (λ f. f) (own_local b.key) s.what

  abbrev pub site_at : Site RunKeys → SiteAt
  site_at s = record { place = record { file = file; at = s.at.at }; site = action s }

  -- the pair that the three tests name, of the first piece in front of the second
  pub record Crossed (first second : Piece) (kind : DepKind) (x y : SiteAt) : Type 0 where
    pub never_null : tree.Exp Span → Bool
    pub tells : TellsNeverNull p b never_null
    pub i : ℕ
    pub j : ℕ
    pub crossing : IsCrossing (λ (f g : FieldKey). f ≡ g) (λ (k l : LocalKey). k ≡ l)
        (map action (first (known p b never_null)))
        (map action (second (known p b never_null))) (Some (i, j, kind))
    pub one : Site RunKeys
    pub other : Site RunKeys
    pub one_stands : slice_get (first (known p b never_null)) i ≡ Some one
    pub other_stands : slice_get (second (known p b never_null)) j ≡ Some other
    pub first_is : site_at one ≡ x
    pub second_is : site_at other ≡ y
