-- What the identifier at a byte names, from what the word that begins there does.
use Rattle.std.proofs.Common.{◌≡◌, ℕ, List, Option, Some, None, subst}
use Rattle.std.specs.Prelude.{slice_get, option_map, MatchOption, IfSome}
use Rattle.std.proofs.lemmas.Option.{none-some, same_Some}
use Rattle.jr_text.specs.declared.spans.Span.{Span}
use Rattle.jr_lex.specs.declared.items.Item.{Item}
use Rattle.jr_lex.specs.Lexes.{Lexes}
use Rattle.jr_lex.specs.Places.{ItemsPlaced}
use Rattle.jr_table.specs.declared.decls.Decl as raw
use Rattle.jr_table.specs.KeyView.{decl_of}
use Rattle.jr_bind.specs.Programs.{File, Program, units_of}
use Rattle.jr_program_laws.specs.FileParts.{begins}
use Rattle.jr_images.specs.Targets.{Names}
use Rattle.jr_cursor.specs.Names.{Finds}
use Rattle.jr_cursor.specs.ProgramTargets.{HasTargetAt, LacksTargetAt}
use Rattle.jr_cursor.specs.Words.{IsHolder}
use Rattle.jr_cursor.proofs.Holders.{one_begins}
use Rattle.jr_cursor.proofs.Holding.{held, holder_of}

pub some_at : {X : Type 0} (P : X → Type 0) (o : Option X) (x : X) → o ≡ Some x → IfSome o P → P x
some_at P None x e h = absurd (none-some x e)
some_at P (Some y) x e h = subst P (same_Some y x e) h

module _ (p : Program Span) (file : ℕ) (items : List Item) (told : IfSome (slice_get p.files file) (λ (f : File Span). Lexes f.text items)) (once : (bytes : List ℕ) (items others : List Item) → Lexes bytes items → Lexes bytes others → items ≡ others) where
  lexes : (f : File Span) → slice_get p.files file ≡ Some f → Lexes f.text items
  lexes f stands = some_at (λ (x : File Span). Lexes x.text items) (slice_get p.files file) f stands told

  -- no identifier holds the byte
  pub none_told : (at : ℕ) → ((from : ℕ) → IsHolder items at from → ⊥) → LacksTargetAt p file at
  none_told at lacks = λ f stands d t. lacks t.from (holder_of f.text items at t.from t.holds (once f.text items t.holds.items (lexes f stands) t.holds.lexes))

  -- one holds it, and begins there
  pub word_told : ItemsPlaced → (at from : ℕ) → IsHolder items at from
      → (o : Option raw.Decl) → Finds p.rows (Names begins p.rows p.super_at (units_of p) file from) (option_map decl_of o)
      → MatchOption o (LacksTargetAt p file at) (λ d. HasTargetAt p file at (decl_of d))
  word_told placed at from word None h = λ f stands d t.
      let same = one_begins f.text placed once at t.from from t.holds (held f.text items at from (lexes f stands) word) in
      h d (subst (λ (n : ℕ). Names begins p.rows p.super_at (units_of p) file n d) same t.names) t.own
  word_told placed at from word (Some d) h = λ f stands.
      record { from = from; holds = held f.text items at from (lexes f stands) word; names = h.0; own = h.1 }
