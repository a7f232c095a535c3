-- A declaration in front of a statement: its text is cut into its tokens, whatever stands behind it.
use Rattle.std.proofs.Common.{◌≡◌, inl, inr, ℕ, ◌≤◌, ◌==◌, true, List, [], ◌∷◌, ◌++◌, length, refl, sym, ap, ◌∙◌, subst, arith}
use Rattle.std.specs.Prelude.{codes, slice_range, slice_index}
use Rattle.std.specs.Str.{chars}
use Rattle.std.proofs.lemmas.Bool.{and_parts, and_from}
use Rattle.std.proofs.lemmas.List.{append_assoc, append-nil}
use Rattle.jr_text.specs.declared.spans.Span.{Span}
use Rattle.jr_lex.specs.declared.items.ItemKind.TheVariants.{Token as TokenItem, Blank}
use Rattle.jr_lex.specs.declared.items.TokenKind.{TokenKind}
use Rattle.jr_lex.specs.declared.items.TokenKind.TheVariants.{Mark}
use Rattle.jr_lex.specs.declared.items.Symbol.TheVariants.{Equals, Semicolon}
use Rattle.jr_lex.specs.Characters.{is_blank, all_pass, first_passes}
use Rattle.jr_lex.specs.Replacing.{IsName}
use Rattle.jr_lex.specs.Beside.{Piece, EndsBefore, token_beside}
use Rattle.jr_lex.specs.Near.{IsCut}
use Rattle.jr_lex.proofs.BesideLaws.{lets_end}
use Rattle.jr_lex.proofs.OneLexeme.{lexeme_cut}
use Rattle.jr_ast.specs.Tree as tree
use Rattle.jr_grammar.specs.Tokens.{Token, word, symbol}
use Rattle.jr_grammar.specs.Spelling.{toks, type_toks}
use Rattle.jr_grammar.specs.StatementSpelling.{stmt_toks}
use Rattle.jr_splice.proofs.Gluing.{Glued, glue}
use Rattle.jr_layout.specs.declared.lines.LineEnd.{LineEnd}
use Rattle.jr_layout.specs.declared.lines.LineEnd.TheVariants.{Lf, Cr, CrLf}
use Rattle.jr_layout.specs.Lines.{line_end_bytes, IsSpaceOrTab}
use Rattle.jr_layout.specs.Layouts.{IsGap}
use Rattle.jr_print.specs.ExpressionText.{printed_type}
use Rattle.jr_rewrite.specs.Woven.{Fronts}
use Rattle.jr_rewrite.proofs.BlankBytes.{blank_text, blank_chars, pass_slice}
use Rattle.jr_local.specs.Extracted.{declaration, declaration_text}
use Rattle.jr_moved_texts.specs.Moved.{EndsThere}
use Rattle.jr_moved_texts.proofs.Spaced.{Core, space_glued, ends_in_space, ends_yield}
use Rattle.jr_moved_texts.proofs.Cores.{name_core, symbol_glued, behind_symbol}
use Rattle.jr_moved_texts.proofs.Putting.{MayPrecede}
use Rattle.jr_local_texts.specs.Fitting.{IsNamedType}
use Rattle.jr_local_texts.proofs.PrintedTypes.{TypeText, type_text, word_ends}
use Rattle.jr_local_texts.proofs.ExtractSpots.{IsOpen, open_ends, never}

-- ---- gaps

both_pass : (xs ys : List ℕ) → all_pass is_blank xs ≡ true → all_pass is_blank ys ≡ true → all_pass is_blank (xs ++ ys) ≡ true
both_pass [] ys h g = g
both_pass (x ∷ xs) ys h g = (let a = and_parts (is_blank x) (all_pass is_blank xs) h in and_from (is_blank x) (all_pass is_blank (xs ++ ys)) a.0 (both_pass xs ys a.1 g))

line_end_blank : (e : LineEnd) → all_pass is_blank (line_end_bytes e) ≡ true
line_end_blank Lf = refl
line_end_blank Cr = refl
line_end_blank CrLf = refl

some_line_end : (e : LineEnd) (xs : List ℕ) → line_end_bytes e ++ xs ≡ [] → ⊥
some_line_end Lf xs h = (let no : 10 ∷ xs ≡ [] = h in cc)
some_line_end Cr xs h = (let no : 13 ∷ xs ≡ [] = h in cc)
some_line_end CrLf xs h = (let no : 13 ∷ (10 ∷ xs) ≡ [] = h in cc)

space_or_tab : (bytes : List ℕ) (k : ℕ) → IsSpaceOrTab bytes k → is_blank (slice_index bytes k) ≡ true
space_or_tab bytes k (inl h) = ap is_blank h.1
space_or_tab bytes k (inr h) = ap is_blank h.1

pub gap_blank : (bytes : List ℕ) (at : ℕ) (gap : List ℕ) → at ≤ length bytes → IsGap bytes at gap → (gap ≡ [] → ⊥) × (all_pass is_blank gap ≡ true)
gap_blank bytes at gap within (inr h) = ((λ e. let some : 32 ∷ [] ≡ [] = sym h.1 ∙ e in cc), ap (all_pass is_blank) h.1)
gap_blank bytes at gap within (inl n) =
    let indent : all_pass is_blank (slice_range bytes n.indent.from n.indent.to) ≡ true =
    pass_slice is_blank bytes n.indent.from n.indent.to (omega (arith, n.indents.stop, n.indents.ordered)) (omega (arith, n.indents.stop, within))
    (λ k from to. space_or_tab bytes k (n.indents.blanks k from (omega (arith, to, n.indents.stop)))) in (
      (λ e. some_line_end n.end (slice_range bytes n.indent.from n.indent.to) (sym n.is ∙ e)),
      ap (all_pass is_blank) n.is ∙ both_pass (line_end_bytes n.end) (slice_range bytes n.indent.from n.indent.to) (line_end_blank n.end) indent,
    )

-- a blank in front of anything
blank_glued : (gap new : List ℕ) (us : List Token) → (gap ≡ [] → ⊥) × (all_pass is_blank gap ≡ true) → Glued new us → Glued (gap ++ new) us
blank_glued gap new us h g =
    let text = blank_text gap h.1 in
    let cut : IsCut Blank (chars gap) [] = subst (λ f. IsCut Blank f []) (sym (blank_chars gap h.1)) (lexeme_cut Blank gap [] h refl) in
    let one : Piece = record { kind = Blank; text = gap } in
    subst (λ t. Glued (t ++ new) us) (append-nil gap) (glue (one ∷ []) [] new us (text, cut, tt) g tt)

-- ---- the declaration

-- the text of an initializer in front of its semicolon
semicolon_ends : (k : TokenKind) → token_beside k (Mark Semicolon) ≡ true → (new : List ℕ) → EndsThere k (chars (codes ";" ++ new))
semicolon_ends k beside new f lexeme =
    lexeme_cut (TokenItem k) f (chars (codes ";" ++ new)) lexeme (subst (EndsBefore (TokenItem k)) (sym (behind_symbol Semicolon new)) (lets_end (TokenItem k) (TokenItem (Mark Semicolon)) (codes ";") (chars new) beside refl))

module _ (at : Span) (name : List ℕ) (is_name : IsName name) (t : tree.TypeName Span) (named : IsNamedType t) (e : tree.Exp Span) (init gap : List ℕ) (core : Core init (toks e)) (ends : token_beside core.last (Mark Semicolon) ≡ true)
    (blank : (gap ≡ [] → ⊥) × (all_pass is_blank gap ≡ true)) where
  -- from the initializer on
  abbrev rest_toks : List Token → List Token
  rest_toks us = toks e ++ (symbol Semicolon ∷ us)

  rest_glued : (new : List ℕ) (us : List Token) → Glued new us → Glued (init ++ (codes ";" ++ (gap ++ new))) (rest_toks us)
  rest_glued new us g =
      let behind = blank_glued gap new us blank g in
      let semicolon : Glued (codes ";" ++ (gap ++ new)) (symbol Semicolon ∷ us) = symbol_glued Semicolon (gap ++ new) us (never (chars (gap ++ new))) behind in
      core.glued (codes ";" ++ (gap ++ new)) (symbol Semicolon ∷ us) semicolon (semicolon_ends core.last ends (gap ++ new))

  -- from behind the name on
  equals_glued : (new : List ℕ) (us : List Token) → Glued new us → Glued ((32 ∷ []) ++ (codes "=" ++ ((32 ∷ []) ++ (init ++ (codes ";" ++ (gap ++ new)))))) (symbol Equals ∷ rest_toks us)
  equals_glued new us g =
      let rest = init ++ (codes ";" ++ (gap ++ new)) in
      let spaced : Glued ((32 ∷ []) ++ rest) (rest_toks us) = space_glued rest (rest_toks us) (rest_glued new us g) in
      space_glued (codes "=" ++ ((32 ∷ []) ++ rest)) (symbol Equals ∷ rest_toks us) (symbol_glued Equals ((32 ∷ []) ++ rest) (rest_toks us) (ends_in_space (Mark Equals) rest) spaced)

  name_glued : (new : List ℕ) (us : List Token) → Glued new us → Glued (name ++ ((32 ∷ []) ++ (codes "=" ++ ((32 ∷ []) ++ (init ++ (codes ";" ++ (gap ++ new))))))) (word name ∷ symbol Equals ∷ rest_toks us)
  name_glued new us g =
      let rest = codes "=" ++ ((32 ∷ []) ++ (init ++ (codes ";" ++ (gap ++ new)))) in
      (name_core name is_name).glued ((32 ∷ []) ++ rest) (symbol Equals ∷ rest_toks us) (equals_glued new us g) (word_ends rest)

  all_text : (new : List ℕ) → declaration_text name (printed_type t) init gap ++ new ≡ printed_type t ++ ((32 ∷ []) ++ (name ++ ((32 ∷ []) ++ (codes "=" ++ ((32 ∷ []) ++ (init ++ (codes ";" ++ (gap ++ new))))))))
  all_text new = grouped (printed_type t) name init gap new
    where
      grouped : (a b c d n : List ℕ) → (a ++ codes " " ++ b ++ codes " = " ++ c ++ codes ";" ++ d) ++ n ≡ a ++ ((32 ∷ []) ++ (b ++ ((32 ∷ []) ++ (codes "=" ++ ((32 ∷ []) ++ (c ++ (codes ";" ++ (d ++ n))))))))
      grouped a b c d n = simp append_assoc

  all_toks : (us : List Token) → stmt_toks (declaration name at t e) ++ us ≡ type_toks t ++ (word name ∷ symbol Equals ∷ rest_toks us)
  all_toks us = grouped (type_toks t) (toks e) us
    where
      grouped : (a b c : List Token) → (a ++ (word name ∷ symbol Equals ∷ (b ++ (symbol Semicolon ∷ [])))) ++ c ≡ a ++ (word name ∷ symbol Equals ∷ (b ++ (symbol Semicolon ∷ c)))
      grouped a b c = simp append_assoc

  whole : (new : List ℕ) (us : List Token) → Glued new us → TypeText t (name ++ ((32 ∷ []) ++ (codes "=" ++ ((32 ∷ []) ++ (init ++ (codes ";" ++ (gap ++ new))))))) (word name ∷ symbol Equals ∷ rest_toks us)
  whole new us g = type_text t named (name ++ ((32 ∷ []) ++ (codes "=" ++ ((32 ∷ []) ++ (init ++ (codes ";" ++ (gap ++ new))))))) (word name ∷ symbol Equals ∷ rest_toks us) (name_glued new us g)

  pub declaration_glued : (new : List ℕ) (us : List Token) → Glued new us → Glued (declaration_text name (printed_type t) init gap ++ new) (stmt_toks (declaration name at t e) ++ us)
  declaration_glued new us g =
      subst (λ x. Glued x (stmt_toks (declaration name at t e) ++ us)) (sym (all_text new))
      (subst (Glued (printed_type t ++ ((32 ∷ []) ++ (name ++ ((32 ∷ []) ++ (codes "=" ++ ((32 ∷ []) ++ (init ++ (codes ";" ++ (gap ++ new)))))))))) (sym (all_toks us)) (whole new us g).glued)

  -- it may come where nothing that runs on with it stands in front
  pub declaration_precedes : (F : Fronts) (bytes : List ℕ) (place : ℕ) → ((k : TokenKind) → F place k → IsOpen k) → MayPrecede F bytes place (declaration_text name (printed_type t) init gap) (stmt_toks (declaration name at t e))
  declaration_precedes F bytes place opens = record {
    glued = declaration_glued;
    yields = λ new old us g. ends_yield old (chars (declaration_text name (printed_type t) init gap ++ new)) (λ k may. open_ends k (opens k may) (chars (declaration_text name (printed_type t) init gap ++ new)))
        (ap (λ x. first_passes (λ c. c == 46) (chars x)) (all_text new) ∙ (whole new us g).no_dot);
  }
