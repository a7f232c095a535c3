-- What a rename does to a program, and its own reasons to be refused.
use Rattle.std.specs.Prelude.{◌≡◌, ℕ, List, map, codes, filter, not}
use Rattle.jr_text.specs.declared.spans.Span.{Span}
use Rattle.jr_ast.specs.MemberTree as syntax
use Rattle.jr_table.specs.Decls.{MemberKey, Decl}
use Rattle.jr_table.specs.SameDecls.{same_decl}
use Rattle.jr_table.specs.Rows.{Row}
use Rattle.jr_table.specs.DeclaredItems.{declarations_of}
use Rattle.jr_table.specs.Context.{Context}
use Rattle.jr_names.specs.Refusals.{Refusal, bad_target, prelude_method, clash}
use Rattle.jr_rewrite.specs.Rewritten.{Rewritten}
use Rattle.jr_rewrite.specs.Rewrites.{RewritesUnits}
use Rattle.jr_images.specs.Targets.{IsTarget, HasNoTarget}
use Rattle.jr_images.specs.Families.{AreRenamed}
use Rattle.jr_images.specs.Images.{Renaming, decl_to}
use Rattle.jr_images.specs.Spelling.{spelling}
use Rattle.jr_images.specs.Clashes.{ClashesWith}
use Rattle.jr_images.specs.Refusals.{ChangesPrelude}

-- each declaration that becomes another, with that one, in the order of the rows
abbrev pub pairs_of : List Row → Renaming → List (Decl × Decl)
pairs_of rows g = map (λ (r : Row). (r.decl, decl_to g r.decl))
    (filter (λ (r : Row). not (same_decl r.decl (decl_to g r.decl))) rows)

module _ {A : Type 0} (tells : A → ℕ → Span) (rows : List Row) (super_at : MemberKey → ℕ)
    (units : List (syntax.Unit A)) where
  -- all files rewritten, where these declarations get the name
  abbrev pub Rewrite : Renaming → List (Rewritten (syntax.Unit A)) → Type 0
  Rewrite g files = RewritesUnits tells
      (spelling (λ m b. (tells m b).from) rows g (λ (c : Context). super_at c.member))
      (declarations_of (λ m b. (tells m b).from) units) units files

  -- what is renamed by the step at a byte of a file that has the text
  pub record Renames (text : List ℕ) (file at : ℕ) (new : List ℕ) (d : Decl) (g : Renaming) : Type 0
    where
      pub target : IsTarget (λ m b. (tells m b).from) rows super_at units text file at d
      pub renamed : AreRenamed rows d g.decls
      pub name : g.name ≡ new

  -- ---- its own refusals, in the order in which they are asked

  abbrev pub LacksTarget : (text : List ℕ) → (file at : ℕ) → Refusal → Type 0
  LacksTarget text file at r =
      HasNoTarget (λ m b. (tells m b).from) rows super_at units text file at
      × (r ≡ bad_target (record { file = file; at = at }) (codes "Declaration"))

  abbrev pub OfPrelude : Decl → (new : List ℕ) → Refusal → Type 0
  OfPrelude d new r = (text : List ℕ) × ChangesPrelude rows d new text × (r ≡ prelude_method text)

  abbrev pub Clashes : Decl → (new : List ℕ) → Refusal → Type 0
  Clashes d new r = (e : Decl) × ClashesWith (λ m b. (tells m b).from) rows units d new e
      × (r ≡ clash e)
