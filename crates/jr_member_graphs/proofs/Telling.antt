-- The flags of a member's own locals tell exactly what is never null in it.
use Rattle.std.proofs.Common.{◌≡◌, ℕ, Bool, true, false, List, [], Option, refl, sym, subst, ◌∙◌}
use Rattle.std.specs.Prelude.{◌↔◌, IsTrue}
use Rattle.std.proofs.lemmas.Bool.{false≢true, false_from_ne_true}
use Rattle.jr_text.specs.declared.spans.Span.{Span}
use Rattle.jr_ast.specs.Tree as tree
use Rattle.jr_ast.specs.MemberTree as declared
use Rattle.jr_runs.specs.Keys.{Keys}
use Rattle.jr_table.specs.Keys.{Ty}
use Rattle.jr_table.specs.Decls.{MemberKey, Decl}
use Rattle.jr_table.specs.Rows.{Row}
use Rattle.jr_code.specs.RunKeys.{RunKeys}
use Rattle.jr_cover.specs.Facts.{Facts}
use Rattle.jr_cover.specs.NeverNullTrees.{NamesLocal, NeverNull, this, create, string, class_literal, paren, local}
use Rattle.jr_cover.specs.Spots.{Spot}
use Rattle.jr_never_null.specs.Flags.{is_safe, init_of}
use Rattle.jr_never_null.proofs.Flagging.{flags_tell}
use Rattle.jr_expr_sites.specs.KnownFacts.{Given, Others, known_of, is_never_null, meaning_at}
use Rattle.jr_cfg.specs.MemberRoutes.{known}
use Rattle.jr_member_graphs.proofs.MemberFlagging.{never_is_safe}
use Rattle.jr_member_graphs.specs.FlagRows.{is_among}
use Rattle.jr_member_graphs.specs.MemberLocals.{inits, Assigns, NeverNullIn}
use Rattle.jr_member_graphs.specs.Notes.{member_locals}
use Rattle.jr_member_graphs.specs.OwnFlags.{spotted, TellsNeverNull, no_others, own}
use Rattle.jr_member_graphs.proofs.Assigned.{member_told}

-- ---- what is never null by the same meanings of names, and where no more is assigned

module _ {K : Keys} {A : Type 0} (F G : Facts K A) (same : (m : A) → F.variable m ≡ G.variable m) where
  names_same : (e : tree.Exp A) (n : ℕ) → NamesLocal G e n → NamesLocal F e n
  names_same (tree.name a w) n h = same w.mark ∙ h
  names_same (tree.paren a e) n h = names_same e n h
  names_same (tree.number a v) n h = h
  names_same (tree.truth a b) n h = h
  names_same (tree.null a) n h = h
  names_same (tree.string a s) n h = h
  names_same (tree.field a e w) n h = h
  names_same (tree.super_field a w) n h = h
  names_same (tree.this a) n h = h
  names_same (tree.class_literal a t) n h = h
  names_same (tree.call a t w es) n h = h
  names_same (tree.super_call a w es) n h = h
  names_same (tree.create a t es) n h = h
  names_same (tree.cast a t e) n h = h
  names_same (tree.unary a op e) n h = h
  names_same (tree.bump a op t) n h = h
  names_same (tree.binary a op l r) n h = h
  names_same (tree.assign a t e) n h = h
  names_same (tree.compound a op t e) n h = h

  module _ (init : ℕ → Option (tree.Exp A)) (a b : ℕ → Bool) (free : (n : ℕ) → a n ≡ false → b n ≡ false) where
    never_kept : (e : tree.Exp A) → NeverNull F init a e → NeverNull G init b e
    never_kept _ (this m) = this m
    never_kept _ (create m t es) = create m t es
    never_kept _ (string m s) = string m s
    never_kept _ (class_literal m t) = class_literal m t
    never_kept _ (paren m e h) = paren m e (never_kept e h)
    never_kept _ (local m w n e means unassigned begins lower h) =
        local m w n e (sym (same w.mark) ∙ means) (free n unassigned) begins (λ k names. lower k (names_same e k names)) (never_kept e h)

-- ---- the member's own

none_true : (b c : Bool) → (c ≡ true → b ≡ true) → b ≡ false → c ≡ false
none_true b c to e = false_from_ne_true c (λ t. absurd (false≢true (sym e ∙ to t)))

module _ {A : Type 0} (tells : A → ℕ → Span) (rows : List Row) (key : MemberKey) (decls : ℕ → Option Decl) (types : List ℕ → Option Ty) (base : ℕ) (m : declared.Member A) where
  abbrev G : Given
  G = own tells rows key decls types base m

  abbrev plain : Given
  plain = known tells rows key decls types [] base m

  abbrev F : Facts RunKeys Spot
  F = (known_of plain no_others).facts

  abbrev assigned : ℕ → Bool
  assigned = is_among (member_locals tells (meaning_at plain) base m)

  abbrev begins : ℕ → Option (tree.Exp Spot)
  begins = init_of (inits (spotted tells base m))

  is_assigned : (o : Others) (n : ℕ) → assigned n ≡ true ↔ Assigns (known_of G o) n (spotted tells base m)
  is_assigned o n = member_told tells G o n m base

  by_rules : (o : Others) (e : tree.Exp Spot) → NeverNull F begins assigned e ↔ NeverNullIn (known_of G o) (spotted tells base m) e
  by_rules o e = (forth, back)
    where
      forth : NeverNull F begins assigned e → NeverNullIn (known_of G o) (spotted tells base m) e
      forth h = record {
        is_assigned = assigned;
        tells = is_assigned o;
        never_null = never_kept F (known_of G o).facts (λ s. refl) begins assigned assigned (λ n u. u) e h;
      }

      back : NeverNullIn (known_of G o) (spotted tells base m) e → NeverNull F begins assigned e
      back h = never_kept (known_of G o).facts F (λ s. refl) begins h.is_assigned assigned
          (λ n. none_true (h.is_assigned n) (assigned n) (λ t. (h.tells n).1 ((is_assigned o n).0 t))) e h.never_null

  pub own_tells : TellsNeverNull tells base G m
  own_tells o e =
      let safe : is_never_null G e ≡ is_safe F G.never_null e = never_is_safe G no_others e in
      let told = flags_tell F assigned (inits (spotted tells base m)) e in
      let rules = by_rules o e in
      (λ t. rules.0 (told.0 (subst IsTrue safe t)), λ h. subst IsTrue (sym safe) (told.1 (rules.1 h)))
