-- Inline local: a copy of the initializer in the place of a read.
use Rattle.std.proofs.Common.{◌≡◌, ◌⊎◌, inl, inr, ℕ, true, false, List, [], ◌∷◌, ◌++◌, Some, refl, sym, ap, ◌∙◌, subst}
use Rattle.std.specs.Prelude.{codes, slice_get, Contains}
use Rattle.std.proofs.lemmas.Option.{slice_get-get_or}
use Rattle.jr_text.specs.declared.spans.Span.{Span}
use Rattle.jr_lex.specs.declared.items.TokenKind.{TokenKind}
use Rattle.jr_lex.specs.declared.items.TokenKind.TheVariants.{Mark}
use Rattle.jr_lex.specs.declared.items.Symbol.TheVariants.{Slash}
use Rattle.jr_lex.specs.declared.items.ItemKind.TheVariants.{Token as TokenItem}
use Rattle.jr_lex.specs.Beside.{EndsBefore, token_beside}
use Rattle.jr_ast.specs.Tree as tree
use Rattle.jr_ast.specs.Marks.{exp_mark}
use Rattle.jr_grammar.specs.Tokens.{Placed}
use Rattle.jr_grammar.specs.Layout.{itself, spans_from}
use Rattle.jr_grammar.specs.Stands.{Tokens, last_to, span_of, Stands}
use Rattle.jr_grammar.specs.Spelling.{toks}
use Rattle.jr_grammar.specs.ExpressionLayout.{exp_layout}
use Rattle.jr_grammar.proofs.Layouts.{spans_from-span}
use Rattle.jr_table.specs.Binding.{value}
use Rattle.jr_table.specs.Context.{Context}
use Rattle.jr_members.specs.WrittenLaws.{MembersAreWritten}
use Rattle.jr_bind.specs.Programs.{Program, IsProgram}
use Rattle.jr_images.specs.Regions.{Region}
use Rattle.jr_images.specs.NamedImages.{AreNamedImages}
use Rattle.jr_images.specs.TextLaws.{RowsAreNamed}
use Rattle.jr_images.proofs.SuitableSpelling.{choosing_suits}
use Rattle.jr_rewrite.specs.Rewritten.{Rewritten, change}
use Rattle.jr_rewrite.specs.Spots.{Asks, nowhere}
use Rattle.jr_rewrite.specs.Suitable.{AreSuitable}
use Rattle.jr_rewrite.specs.Woven.{Fronts, Weaves, anything, token_to, with_changes}
use Rattle.jr_rewrite.proofs.Steps.{Stepped}
use Rattle.jr_rewrite.proofs.Stepping.{IsSome}
use Rattle.jr_rewrite.proofs.ExpressionSteps.{exp_some, exp_steps}
use Rattle.jr_local.specs.Bodies.{begins}
use Rattle.jr_local.specs.Scopes.{same_images, in_copy}
use Rattle.jr_local.specs.Inlining.{Declared, Naming, at_init, known_at}
use Rattle.jr_local.specs.Inlined.{Copy, in_parentheses, Becomes, choices, IsCopyAt, EndsCopy, Reads, Found, Fronted}
use Rattle.jr_moved_texts.specs.Spaces.{last_kind, ending_at, spaced}
use Rattle.jr_moved_texts.specs.Moved.{nowhere_weaves}
use Rattle.jr_moved_texts.proofs.Boundaries.{Behind}
use Rattle.jr_moved_texts.proofs.Putting.{MayPut, replaces}
use Rattle.jr_moved_texts.proofs.Spaced.{Core, Fits, spaced_put}
use Rattle.jr_moved_texts.proofs.Cores.{moved_core, paren_core}
use Rattle.jr_moved_texts.proofs.ExpressionEnds.{exp_head, exp_last}
use Rattle.jr_moved_texts.proofs.StandingPieces.{PieceStands, ends_there, piece_begins, piece_ends, some_kind}
use Rattle.jr_local_texts.proofs.StandingBodies.{exp_mark_is}
use Rattle.jr_local_texts.proofs.KeptNames.{rows_named, same_named}
use Rattle.jr_local_texts.proofs.ExtractSpots.{open_ends, token_there}
use Rattle.jr_local_texts.proofs.InlineParts as parts

pub copy_at : (cs : List Copy) (c : Copy) (h : Contains cs c) → slice_get cs h.0 ≡ Some c
copy_at cs c h = slice_get-get_or cs h.0 c h.1 ∙ ap (λ (x : Copy). Some x) h.2

module _ (p : Program Span) (program : IsProgram itself (λ m b. Unit {0}) p) (written : MembersAreWritten Span) (names : RowsAreNamed Span) (file at : ℕ) (f : Found p file at) where
  abbrev t : Declared p file f.asked.key
  t = f.asked.declared

  abbrev F : Fronts
  F = Fronted p file at f.asked f.type f.text f.items f.copies f.gone file

  pub fit : (R : Region Span) → R.seen.images ≡ same_images p.rows → AreSuitable (choices p file at f.asked f.type R)
  fit R e = choosing_suits begins p.rows R (subst (AreNamedImages p.rows) (sym e) (same_named p.rows (rows_named names p program))) (λ (c : Context). p.super_at c.member)

  init_stands : PieceStands f.text f.items t.init
  init_stands = parts.init_stands p program written file at f

  read_stands : (n : Naming t) → PieceStands f.text f.items n.at
  read_stands n = parts.read_stands p program written file at f n

  -- ---- copies

  module _ (n : Naming t) (copy : Copy) (is : IsCopyAt p file at f.asked f.type n copy) where
    steps : Stepped nowhere_weaves false (init_stands.first ∷ init_stands.run) copy.of.changes (toks copy.of.tree)
    steps = exp_steps itself (choices p file at f.asked f.type (in_copy p.rows f.asked.key f.type (known_at t n))) nowhere nowhere_weaves (fit (in_copy p.rows f.asked.key f.type (known_at t n)) refl) tt (at_init t).context value (at_init t).base t.init
        copy.of (init_stands.first ∷ init_stands.run) is.1
        (subst (λ l. Stands l (init_stands.first ∷ init_stands.run)) (sym (spans_from-span (at_init t).base (exp_layout t.init))) init_stands.stands)

    pub copy_core : Core (with_changes f.text (exp_mark t.init) copy.of.changes) (toks copy.of.tree)
    copy_core = subst (λ s. Core (with_changes f.text s copy.of.changes) (toks copy.of.tree)) (sym (exp_mark_is t.init (init_stands.first ∷ init_stands.run) init_stands.stands))
        (moved_core f.text init_stands.first init_stands.run copy.of.changes (toks copy.of.tree) (exp_last t.init).kind init_stands.place (piece_ends init_stands) (exp_last t.init).no_dot steps (piece_begins init_stands) (exp_head copy.of.tree))

  -- ---- a read's place

  -- of the tokens that may stand in front of a read none runs on with what comes
  read_front : (n : Naming t) (copy : Copy) → exp_mark n.at ≡ copy.read → (k : TokenKind) → F copy.read.from k
      → (ending_at copy.read.from f.items ≡ Some k) ⊎ ((other : List ℕ) → EndsBefore (TokenItem k) other)
  read_front n copy same k may = elim may [
    | inl token ↦ inl (token_there p file copy.read.from k f.text f.items f.is_text f.lexes token)
    | inr made ↦ elim made.1 [
      | inl ended ↦ absurd (touching ended)
      | inr gone ↦ inr (open_ends k (parts.gone_front p program written file at f k gone.1))
    ]
  ]
    where
      touching : EndsCopy p file at f.asked f.type f.text f.items f.copies copy.read.from k → ⊥
      touching ended =
          let other = f.are_copies.each ended.1.0 ended.0 (copy_at f.copies ended.0 ended.1) in
          parts.reads_apart p program written file at f n other.0
          (ap (λ (s : Span). s.to) other.2.0 ∙ sym ended.2 ∙ sym (ap (λ (s : Span). s.from) same))

  module _ (n : Naming t) (copy : Copy) (contains : Contains f.copies copy) (same : exp_mark n.at ≡ copy.read) (e : tree.Exp Span) (bytes : List ℕ) (core : Core bytes (toks e))
      (ends : (last_kind (toks copy.of.tree) ≡ Some core.last) ⊎ (last_kind (toks (in_parentheses copy)) ≡ Some core.last)) where
    slash : token_beside core.last (Mark Slash) ≡ true
    slash =
        let is : core.last ≡ (exp_last e).kind = some_kind core.last (exp_last e).kind (sym core.last_is ∙ (exp_last e).is) in
        ap (λ k. token_beside k (Mark Slash)) is ∙ (exp_last e).slash

    fits : Fits F f.text f.items copy.read core.last
    fits = record {
      front = read_front n copy same;
      fronts = inr (refl, inl (copy, contains, refl, ends));
      back = λ ahead rest w long none.
          (let s = read_stands n in
          ends_there (subst (λ (m : Span). Behind 0 f.text f.items m.to) (sym (exp_mark_is n.at (s.first ∷ s.run) s.stands) ∙ same) s.behind) core.last slash ahead rest w long none);
    }

    abbrev text : List ℕ
    text = spaced f.items copy.read (toks e) bytes

    pub put_weaves : (base : ℕ) (ps : Tokens) → Stands (spans_from itself base (exp_layout n.at)) ps → Weaves F f.text anything ps (change copy.read text ∷ []) (toks e) (token_to (last_to ps))
    put_weaves base ps h = by_some (exp_some itself base n.at ps h) (subst (λ l. Stands l ps) (spans_from-span base (exp_layout n.at)) h)
      where
        of_run : (q : Placed Span) (qs : Tokens) → copy.read ≡ span_of (q ∷ qs) → Weaves F f.text anything (q ∷ qs) (change copy.read (spaced f.items copy.read (toks e) bytes) ∷ []) (toks e) (token_to (last_to (q ∷ qs)))
        of_run q qs mark =
            let whole : MayPut F f.text copy.read.from copy.read.to (spaced f.items copy.read (toks e) bytes) (toks e) = spaced_put core fits in
            let there = subst (λ (s : Span). MayPut F f.text s.from s.to (spaced f.items copy.read (toks e) bytes) (toks e)) mark whole in
            subst (λ (s : Span). Weaves F f.text anything (q ∷ qs) (change s (spaced f.items copy.read (toks e) bytes) ∷ []) (toks e) (token_to (last_to (q ∷ qs)))) (sym mark)
            (replaces F f.text q qs (spaced f.items copy.read (toks e) bytes) (toks e) there)

        by_some : IsSome ps → Stands (exp_layout n.at) ps → Weaves F f.text anything ps (change copy.read (spaced f.items copy.read (toks e) bytes) ∷ []) (toks e) (token_to (last_to ps))
        by_some some stands =
            subst (λ qs. Weaves F f.text anything qs (change copy.read (spaced f.items copy.read (toks e) bytes) ∷ []) (toks e) (token_to (last_to qs))) (sym some.2)
            (of_run some.0 some.1 (sym same ∙ exp_mark_is n.at (some.0 ∷ some.1) (subst (Stands (exp_layout n.at)) some.2 stands)))

  -- ---- the spot

  pub copy_of : (n : Naming t) (copy : Copy) → Contains f.copies copy → exp_mark n.at ≡ copy.read → (m : Naming t) × IsCopyAt p file at f.asked f.type m copy
  copy_of n copy contains same =
      let found = f.are_copies.each contains.0 copy (copy_at f.copies copy contains) in
      (found.0, found.2)

  pub read_weaves : (k : Asks) (c : Context) (base : ℕ) (e : tree.Exp Span) (o : Rewritten (tree.Exp Span)) (ps : Tokens) → Reads p file at f.asked f.type f.text f.items f.copies k c e o
      → Stands (spans_from itself base (exp_layout e)) ps → Weaves F f.text anything ps o.changes (toks o.tree) (token_to (last_to ps))
  read_weaves k c base e o ps s h = by s.5
    where
      there : Stands (spans_from itself base (exp_layout s.0.at)) ps
      there = subst (λ y. Stands (spans_from itself base (exp_layout y)) ps) s.1.4 h

      by : Becomes f.text f.items (exp_mark t.init) k s.2 o → Weaves F f.text anything ps o.changes (toks o.tree) (token_to (last_to ps))
      by (inl d) =
          let m = copy_of s.0 s.2 s.3 s.4 in
          let core = copy_core m.0 s.2 m.1 in
          subst (λ z. Weaves F f.text anything ps z.changes (toks z.tree) (token_to (last_to ps))) (sym d.1)
          (put_weaves s.0 s.2 s.3 s.4 s.2.of.tree (with_changes f.text (exp_mark t.init) s.2.of.changes) core (inl core.last_is) base ps there)
      by (inr d) =
          let m = copy_of s.0 s.2 s.3 s.4 in
          let core = paren_core (copy_core m.0 s.2 m.1) in
          subst (λ z. Weaves F f.text anything ps z.changes (toks z.tree) (token_to (last_to ps))) (sym d.1)
          (put_weaves s.0 s.2 s.3 s.4 (in_parentheses s.2) (codes "(" ++ with_changes f.text (exp_mark t.init) s.2.of.changes ++ codes ")") core (inr core.last_is) base ps there)
