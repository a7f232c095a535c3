-- A written type's printed text, and a space behind it, are cut into its tokens.
use Rattle.std.proofs.Common.{◌≡◌, inr, ℕ, ◌==◌, false, List, [], ◌∷◌, ◌++◌, Some, None, refl, sym, ap, ◌∙◌, subst}
use Rattle.std.specs.Prelude.{codes}
use Rattle.std.specs.Str.{chars}
use Rattle.std.proofs.lemmas.List.{append_assoc}
use Rattle.std.proofs.lemmas.Str.{chars-append}
use Rattle.jr_lex.specs.declared.items.ItemKind.TheVariants.{Token as TokenItem}
use Rattle.jr_lex.specs.declared.items.TokenKind.TheVariants.{Word, Keyword, Mark}
use Rattle.jr_lex.specs.declared.items.Keyword.{Keyword as KeywordName}
use Rattle.jr_lex.specs.declared.items.Keyword.TheVariants.{Int, Boolean}
use Rattle.jr_lex.specs.declared.items.Symbol.TheVariants.{Dot}
use Rattle.jr_lex.specs.Characters.{first_passes}
use Rattle.jr_lex.specs.Words.{keyword_text}
use Rattle.jr_lex.specs.Beside.{EndsBefore}
use Rattle.jr_lex.specs.Near.{IsCut}
use Rattle.jr_lex.proofs.BesideLaws.{lets_end}
use Rattle.jr_lex.proofs.OneLexeme.{lexeme_cut}
use Rattle.jr_ast.specs.Tree as tree
use Rattle.jr_grammar.specs.Tokens.{Token, word, keyword, symbol}
use Rattle.jr_grammar.specs.Spelling.{type_toks}
use Rattle.jr_splice.proofs.Gluing.{Glued}
use Rattle.jr_print.specs.ExpressionText.{printed_type}
use Rattle.jr_rewrite.proofs.Parts as part
use Rattle.jr_rewrite.proofs.Weaving.{kept_glued}
use Rattle.jr_moved_texts.specs.Moved.{EndsThere}
use Rattle.jr_local_texts.specs.Fitting.{IsNamedType}
use Rattle.jr_moved_texts.proofs.Spaced.{space_glued, ends_in_space}
use Rattle.jr_moved_texts.proofs.Cores.{name_core, symbol_glued, behind_symbol, lexeme_no_dot}

abbrev spaced : List ℕ → List ℕ
spaced new = (32 ∷ []) ++ new

pub word_ends : (new : List ℕ) → EndsThere Word (chars (spaced new))
word_ends new f lexeme = lexeme_cut (TokenItem Word) f (chars (spaced new)) lexeme (ends_in_space Word new)

pub record TypeText {A : Type 0} (t : tree.TypeName A) (new : List ℕ) (us : List Token) : Type 0 where
  pub glued : Glued (printed_type t ++ spaced new) (type_toks t ++ us)
  pub no_dot : first_passes (λ c. c == 46) (chars (printed_type t ++ spaced new)) ≡ false

keyword_type : (k : KeywordName) (new : List ℕ) (us : List Token) → Glued new us → Glued (keyword_text k ++ spaced new) (keyword k ∷ us) × (first_passes (λ c. c == 46) (chars (keyword_text k ++ spaced new)) ≡ false)
keyword_type k new us g =
    let are : chars (keyword_text k) ≡ keyword_text k = part.part_has_chars (part.key k) in
    let text = part.part_is_text (part.key k) tt in
    let cut : IsCut (TokenItem (Keyword k)) (chars (keyword_text k)) (chars (spaced new)) =
    subst (λ f. IsCut (TokenItem (Keyword k)) f (chars (spaced new))) (sym are) (lexeme_cut (TokenItem (Keyword k)) (keyword_text k) (chars (spaced new)) refl (ends_in_space (Keyword k) new)) in (
      kept_glued (TokenItem (Keyword k)) (keyword_text k) (chars (spaced new)) (spaced new) us text cut (space_glued new us g) (inr cut),
      ap (first_passes (λ c. c == 46)) (chars-append (keyword_text k) (spaced new) text ∙ ap (λ c. c ++ chars (spaced new)) are) ∙ lexeme_no_dot (Keyword k) (keyword_text k) (chars (spaced new)) refl refl,
    )

pub type_text : {A : Type 0} (t : tree.TypeName A) → IsNamedType t → (new : List ℕ) (us : List Token) → Glued new us → TypeText t new us
type_text (tree.int m) n new us g = (let k = keyword_type Int new us g in record { glued = k.0; no_dot = k.1 })
type_text (tree.boolean m) n new us g = (let k = keyword_type Boolean new us g in record { glued = k.0; no_dot = k.1 })
type_text (tree.named m None w) n new us g =
    let c = name_core w.text n in
    let behind = space_glued new us g in
    record { glued = c.glued (spaced new) us behind (word_ends new); no_dot = c.no_dot (spaced new) us behind (word_ends new) }
type_text (tree.named m (Some o) w) n new us g =
    let c = name_core o.text n.0 in
    let d = name_core w.text n.1 in
    let behind = space_glued new us g in
    let inner = d.glued (spaced new) us behind (word_ends new) in
    let dot_ends = d.ends (spaced new) us behind (word_ends new) (Mark Dot) refl in
    let dotted : Glued (codes "." ++ (w.text ++ spaced new)) (symbol Dot ∷ word w.text ∷ us) = symbol_glued Dot (w.text ++ spaced new) (word w.text ∷ us) dot_ends inner in
    let ends : EndsThere Word (chars (codes "." ++ (w.text ++ spaced new))) =
    λ f lexeme. lexeme_cut (TokenItem Word) f (chars (codes "." ++ (w.text ++ spaced new))) lexeme
    (subst (EndsBefore (TokenItem Word)) (sym (behind_symbol Dot (w.text ++ spaced new))) (lets_end (TokenItem Word) (TokenItem (Mark Dot)) (codes ".") (chars (w.text ++ spaced new)) refl refl)) in
    let whole : (o.text ++ codes "." ++ w.text) ++ spaced new ≡ o.text ++ (codes "." ++ (w.text ++ spaced new)) = grouped o.text (codes ".") w.text (spaced new) in
    record {
      glued = subst (λ t. Glued t (word o.text ∷ symbol Dot ∷ word w.text ∷ us)) (sym whole) (c.glued (codes "." ++ (w.text ++ spaced new)) (symbol Dot ∷ word w.text ∷ us) dotted ends);
      no_dot = ap (λ t. first_passes (λ x. x == 46) (chars t)) whole ∙ c.no_dot (codes "." ++ (w.text ++ spaced new)) (symbol Dot ∷ word w.text ∷ us) dotted ends;
    }
  where
    grouped : (a b c d : List ℕ) → (a ++ b ++ c) ++ d ≡ a ++ (b ++ (c ++ d))
    grouped a b c d = simp append_assoc
