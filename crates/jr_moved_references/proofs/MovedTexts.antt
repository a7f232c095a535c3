-- What is carried from tokens to tokens, said of a text and of what changes make of it.
use Rattle.std.proofs.Common.{◌≡◌, ℕ, suc, Bool, true, false, List, [], ◌∷◌, ◌++◌, length, map, refl, sym, ap, ◌∙◌, subst}
use Rattle.std.proofs.lemmas.List.{length-map}
use Rattle.jr_text.specs.declared.spans.Span.{Span}
use Rattle.jr_text.specs.Splices.{splice, IsUntouched, moved_to}
use Rattle.jr_lex.specs.declared.items.Item.{Item}
use Rattle.jr_lex.specs.Lexes.{Lexes}
use Rattle.jr_lex.specs.Places.{ItemsPlaced}
use Rattle.jr_ast.specs.Tree as tree
use Rattle.jr_ast.specs.StatementTree as statement
use Rattle.jr_grammar.specs.Bare.{bare, bare_stmt}
use Rattle.jr_grammar.specs.Tokens.{Token, Placed, placed_of, kinds}
use Rattle.jr_grammar.specs.Layout.{Layout, itself, spans_from}
use Rattle.jr_grammar.specs.ExpressionLayout.{exp_layout}
use Rattle.jr_grammar.specs.StatementLayout.{stmt_layout}
use Rattle.jr_grammar.specs.Stands.{Tokens, Stands}
use Rattle.jr_grammar.specs.Reads.{ReadsExpressionWithSpans, ReadsStatementWithSpans}
use Rattle.jr_grammar.proofs.Layouts.{spans_from-span}
use Rattle.jr_table.specs.Decls.{Decl}
use Rattle.jr_table.specs.Rows.{Row}
use Rattle.jr_table.specs.Context.{Context}
use Rattle.jr_table.specs.Binding.{Role}
use Rattle.jr_program_laws.specs.FileParts.{begins}
use Rattle.jr_program_laws.proofs.ItemTokens.{tokens_rise}
use Rattle.jr_rewrite.specs.Respellings.{Change}
use Rattle.jr_rewrite.specs.Rewritten.{Rewritten}
use Rattle.jr_rewrite.specs.Edited.{entries_of}
use Rattle.jr_rewrite.specs.Suitable.{AreSuitable}
use Rattle.jr_rewrite.specs.Rewrites.{RewritesExp, RewritesStmt}
use Rattle.jr_rewrite.specs.Woven.{no_indent}
use Rattle.jr_rewrite.proofs.Steps.{Step, stay, olds, changes, news, Flow, flow_from, start, changes-append}
use Rattle.jr_images.specs.Images.{Renaming, decl_to, rows_to}
use Rattle.jr_images.specs.NamedImages.{AreNamedImages}
use Rattle.jr_images.specs.Regions.{images_of, region_of}
use Rattle.jr_images.specs.RenameLaws.{IsFair}
use Rattle.jr_images.specs.Standing.{ContextTo}
use Rattle.jr_images.proofs.SuitableSpelling.{choosing_suits}
use Rattle.jr_images.proofs.World.{World}
use Rattle.jr_moved_tokens.specs.MovedTokens.{moved_token}
use Rattle.jr_moved_tokens.proofs.StepRuns.{never}
use Rattle.jr_moved_tokens.proofs.MovedTokens.{Carried, stays_carried, untouched_changes}
use Rattle.jr_moved_references.specs.MovedReferences.{RefersInExp, RefersInStmt}
use Rattle.jr_moved_references.proofs.Carrying.{Split, Carries}
use Rattle.jr_moved_references.proofs.KeptAt.{spelled}
use Rattle.jr_moved_references.proofs.KeptNow.{kept_at, types_at}
use Rattle.jr_moved_references.proofs.TypePlaces.{type_carries}
use Rattle.jr_moved_references.proofs.ExpressionPlaces.{exp_carries}
use Rattle.jr_moved_references.proofs.StatementPlaces.{stmt_moves}

-- ---- at the same place of one list

same_at : (a b : Tokens) (p q : Placed Span) (ps qs : Tokens) → length a ≡ length b → a ++ p ∷ ps ≡ b ++ q ∷ qs → p ≡ q
same_at [] [] p q ps qs l e = cc
same_at [] (x ∷ b) p q ps qs l e = absurd (apart (length b) l)
  where
    apart : (n : ℕ) → 0 ≡ suc n → ⊥
    apart n e = cc
same_at (x ∷ a) [] p q ps qs l e = absurd (apart (length a) l)
  where
    apart : (n : ℕ) → suc n ≡ 0 → ⊥
    apart n e = cc
same_at (x ∷ a) (z ∷ b) p q ps qs l e = (let rest : a ++ p ∷ ps ≡ b ++ q ∷ qs = cc in let more : length a ≡ length b = cc in same_at a b p q ps qs more rest)

kinds_long : (ps : Tokens) → length (kinds ps) ≡ length ps
kinds_long ps = length-map ps (λ (p : Placed Span). p.token)

-- steps of expressions begin anywhere, so also where a text does
from_start : (l : Bool) (ss : List Step) → Flow never (start l) ss → Flow never no_indent ss
from_start true ss h = h
from_start false ss h = flow_from never no_indent (start false) ss tt h

module _ (one_cut : (bytes : List ℕ) (items others : List Item) → Lexes bytes items → Lexes bytes others → items ≡ others) (items_placed : ItemsPlaced) where
  -- where a token that stays has moved to
  split_moves : (l : Bool) (bytes : List ℕ) (items others : List Item) (cs : List Change) (at to : ℕ) → Lexes bytes items → Lexes (splice bytes (entries_of cs)) others → Split l (placed_of bytes items) (placed_of (splice bytes (entries_of cs)) others) cs at to
      → to ≡ moved_to (entries_of cs) at
  split_moves l bytes items others cs at to lexes again s =
      let whole : List Step = s.before ++ stay s.placed ∷ s.after in
      let eq : changes s.before ++ changes s.after ≡ cs = sym (changes-append s.before (stay s.placed ∷ s.after)) ∙ s.changes_are in
      let made : Carried (entries_of (changes s.before ++ changes s.after)) (placed_of (splice bytes (entries_of (changes s.before ++ changes s.after))) others) s.before s.placed s.after =
      stays_carried one_cut items_placed bytes items lexes s.before s.placed s.after (from_start l whole s.flow) (sym s.olds_are) others (subst (λ ds. Lexes (splice bytes (entries_of ds)) others) (sym eq) again) in
      let carried = subst (λ ds. Carried (entries_of ds) (placed_of (splice bytes (entries_of ds)) others) s.before s.placed s.after) eq made in
      let long : length s.front ≡ length carried.front = sym (kinds_long s.front) ∙ ap length (s.before_are ∙ sym carried.front_are) ∙ kinds_long carried.front in
      let same : s.other ≡ moved_token (entries_of cs) s.placed = same_at s.front carried.front s.other (moved_token (entries_of cs) s.placed) s.back carried.back long (sym s.new_are ∙ carried.whole) in
      sym s.new_at ∙ ap (λ (p : Placed Span). p.mark.from) same ∙ ap (moved_to (entries_of cs)) s.old_at

  pub text_moves : (l : Bool) (L L' : Tokens → Type 0) (cs : List Change) (Old New : ℕ → Type 0) → Carries l L L' cs Old New → (bytes : List ℕ) (items others : List Item) → Lexes bytes items → Lexes (splice bytes (entries_of cs)) others
      → L (placed_of bytes items) → L' (placed_of (splice bytes (entries_of cs)) others) → (at : ℕ) → Old at → IsUntouched (entries_of cs) at → New (moved_to (entries_of cs) at)
  text_moves l L L' cs Old New x bytes items others lexes again h k at o none =
      let r = x.carry (placed_of bytes items) (placed_of (splice bytes (entries_of cs)) others) (tokens_rise bytes items_placed items lexes) h k at o (untouched_changes cs at none) in
      subst New (split_moves l bytes items others cs at r.0 lexes again r.2) r.1

  module _ (rows : List Row) (g : Renaming) (super_at : Context → ℕ) (fair : IsFair rows g) (named : AreNamedImages rows (images_of rows g)) (worlds : (c d : Context) → ContextTo g rows c d → World Span rows g c d) where
    fit : AreSuitable (spelled rows g super_at)
    fit = choosing_suits begins rows (region_of rows g) named super_at

    pub expressions_move : (c d : Context) → ContextTo g rows c d → (r : Role) (bytes : List ℕ) (e : tree.Exp Span) (o : Rewritten (tree.Exp Span)) (y : tree.Exp Span) → ReadsExpressionWithSpans itself bytes e → RewritesExp itself (spelled rows g super_at) c r 0 e o → o.losses ≡ []
        → ReadsExpressionWithSpans itself (splice bytes (entries_of o.changes)) y → bare y ≡ bare o.tree → (at : ℕ) (x : Decl) → RefersInExp rows c r e at x → IsUntouched (entries_of o.changes) at → RefersInExp (rows_to g rows) d r y (moved_to (entries_of o.changes) at) (decl_to g x)
    expressions_move c d stand r bytes e o y h made none k eq at x refers untouched =
        let w = worlds c d stand in
        text_moves false (Stands (exp_layout e)) (Stands (exp_layout y)) o.changes (λ i. RefersInExp rows c r e i x) (λ i. RefersInExp (rows_to g rows) d r y i (decl_to g x))
        (exp_carries rows g super_at fit x c d (kept_at rows g super_at fair c d stand w) (type_carries rows g super_at fit x c d (types_at rows g super_at fair c d stand w)) r 0 0 e y o made none eq) bytes h.items k.items h.lexes k.lexes
        (subst (λ z. Stands z (placed_of bytes h.items)) (spans_from-span 0 (exp_layout e)) h.spans) (subst (λ z. Stands z (placed_of (splice bytes (entries_of o.changes)) k.items)) (spans_from-span 0 (exp_layout y)) k.spans) at refers untouched

    pub statements_move : (c d : Context) → ContextTo g rows c d → (n : ℕ) (bytes : List ℕ) (s : statement.Stmt Span) (o : Rewritten (statement.Stmt Span)) (y : statement.Stmt Span) → ReadsStatementWithSpans itself bytes s → RewritesStmt itself (spelled rows g super_at) n c 0 s o
        → o.losses ≡ [] → ReadsStatementWithSpans itself (splice bytes (entries_of o.changes)) y → bare_stmt y ≡ bare_stmt o.tree → (at : ℕ) (x : Decl) → RefersInStmt rows c n s at x → IsUntouched (entries_of o.changes) at
        → RefersInStmt (rows_to g rows) d n y (moved_to (entries_of o.changes) at) (decl_to g x)
    statements_move c d stand n bytes s o y h made none k eq at x refers untouched =
        text_moves true (Stands (stmt_layout s)) (Stands (stmt_layout y)) o.changes (λ i. RefersInStmt rows c n s i x) (λ i. RefersInStmt (rows_to g rows) d n y i (decl_to g x))
        (stmt_moves rows g super_at fit fair worlds x n n c d (refl, stand) 0 0 s y o made none eq) bytes h.items k.items h.lexes k.lexes
        (subst (λ z. Stands z (placed_of bytes h.items)) (spans_from-span 0 (stmt_layout s)) h.spans) (subst (λ z. Stands z (placed_of (splice bytes (entries_of o.changes)) k.items)) (spans_from-span 0 (stmt_layout y)) k.spans) at refers untouched
