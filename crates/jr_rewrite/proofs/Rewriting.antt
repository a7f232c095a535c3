-- The text of a rewritten file reads as its new tree.
use Rattle.std.proofs.Common.{◌≡◌, ℕ, List, [], ◌∷◌, sym, ap, ◌∙◌, subst}
use Rattle.jr_text.specs.declared.spans.Span.{Span}
use Rattle.jr_text.specs.Splices.{splice}
use Rattle.jr_lex.specs.declared.items.Item.{Item}
use Rattle.jr_lex.specs.declared.items.ItemKind.{ItemKind}
use Rattle.jr_lex.specs.declared.items.ItemKind.TheVariants.{Token as TokenItem, Blank, Comment}
use Rattle.jr_lex.specs.Lexes.{Lexes}
use Rattle.jr_lex.specs.Beside.{join_pieces, items_from}
use Rattle.jr_ast.specs.MemberTree.{Unit as UnitTree}
use Rattle.jr_grammar.specs.Tokens.{tokens_of, placed_of}
use Rattle.jr_grammar.specs.MemberSpelling.{unit_toks}
use Rattle.jr_grammar.specs.MemberShape.{UnitShaped}
use Rattle.jr_grammar.specs.Bare.{Bare, no_mark, bare_unit}
use Rattle.jr_grammar.specs.Reads.{Reads, ReadsWithSpans}
use Rattle.jr_grammar.proofs.RemarkedShape.{unit_ignores_marks}
use Rattle.jr_splice.proofs.Cut.{pieces_lex, pieces_spell}
use Rattle.jr_table.specs.Keys.{ClassKey}
use Rattle.jr_table.specs.DeclaredItems.{DeclaredItem}
use Rattle.jr_rewrite.specs.Respellings.{Change}
use Rattle.jr_rewrite.specs.Rewritten.{Rewritten}
use Rattle.jr_rewrite.specs.Edited.{entries_of}
use Rattle.jr_rewrite.specs.Suitable.{AreSuitable, all_suitable}
use Rattle.jr_rewrite.specs.Spots.{Spotted, nowhere}
use Rattle.jr_rewrite.specs.Rewrites.{Choosing, TransformsUnit, RewritesUnit}
use Rattle.jr_rewrite.specs.Woven.{Fronts, MayFront, Fronted, Woven, Weaves}
use Rattle.jr_rewrite.specs.SuitableSpots.{SpotsSuit}
use Rattle.jr_rewrite.specs.RewriteLaws.{IsRewritten, RewritingsRead, RewritingsAreOne}
use Rattle.jr_rewrite.proofs.Tiles.{lexes_tiled}
use Rattle.jr_rewrite.proofs.Woven.{steps_woven}
use Rattle.jr_rewrite.proofs.Entries.{splice_is, fits, edits, in_order}
use Rattle.jr_rewrite.proofs.Steps.{news}
use Rattle.jr_rewrite.proofs.MemberSteps.{unit_steps}
use Rattle.jr_rewrite.proofs.MemberShapes.{unit_shaped}

-- what is woven reads as a tree of its tokens
woven_reads : {A : Type 0} {F : Fronts} (bytes : List ℕ) (cs : List Change) (u : UnitTree A) → Woven F bytes [] bytes cs (unit_toks u) → UnitShaped u → Reads (splice bytes (entries_of cs)) u
woven_reads bytes cs u w shaped =
    let text : splice bytes (entries_of cs) ≡ join_pieces w.pieces = splice_is bytes cs w.fit ∙ w.text_is in
    let items : List Item = items_from 0 w.pieces in
    record {
      items = items;
      lexes = subst (λ t. Lexes t items) (sym text) (pieces_lex w.pieces w.cut);
      is = record { shaped = shaped; spells = sym (ap (λ t. tokens_of t items) text ∙ pieces_spell w.pieces ∙ w.tokens_are) };
    }

-- for any choices and spots that suit
pub transformed_reads : {A : Type 0} (tells : A → ℕ → Span) (C : Choosing A) (S : Spotted A) (F : Fronts) (bytes : List ℕ) → AreSuitable C → SpotsSuit tells C (Weaves F bytes) S
    → (declarations : List DeclaredItem) (u : UnitTree A) (o : Rewritten (UnitTree A))
    → (h : ReadsWithSpans tells bytes u) → Fronted F h.items → TransformsUnit tells C S declarations u o → IsRewritten bytes o
transformed_reads tells C S F bytes fit suit declarations u o h fronted w =
    let s = unit_steps tells C S (Weaves F bytes) fit suit declarations u o (placed_of bytes h.items) (ap (λ (z : Span). z.from) h.file) w h.spans in
    let all = steps_woven F bytes s.steps h.items s.flow (lexes_tiled F bytes h.items fronted h.lexes) (sym s.olds_are) in
    let woven : Woven F bytes [] bytes o.changes (unit_toks o.tree) =
    subst (λ ts. Woven F bytes [] bytes o.changes ts) s.news_are (subst (λ cs. Woven F bytes [] bytes cs (news s.steps)) s.changes_are all) in
    record {
      in_order = in_order 0 bytes o.changes woven.fit;
      edits = edits bytes o.changes woven.fit;
      fits = fits bytes o.changes woven.fit;
      reads = woven_reads bytes o.changes o.tree woven (unit_shaped tells C S (Weaves F bytes) fit suit declarations u o w h.is.shaped);
    }

-- where anything may stand in front of anything
all_fronted : (items : List Item) → Fronted (λ at k. Unit {0}) items
all_fronted [] = tt
all_fronted (item ∷ items) = (by_kind item.kind, all_fronted items)
  where
    by_kind : (k : ItemKind) → MayFront (λ at k. Unit {0}) item.span.to k
    by_kind (TokenItem k) = tt
    by_kind Blank = tt
    by_kind Comment = tt

-- for any choices that suit, without spots
pub rewritten_reads : {A : Type 0} (tells : A → ℕ → Span) (C : Choosing A) → AreSuitable C → (declarations : List DeclaredItem) (bytes : List ℕ) (u : UnitTree A) (o : Rewritten (UnitTree A))
    → ReadsWithSpans tells bytes u → RewritesUnit tells C declarations u o → IsRewritten bytes o
rewritten_reads tells C fit declarations bytes u o h w = transformed_reads tells C nowhere (λ at k. Unit {0}) bytes fit tt declarations u o h (all_fronted h.items) w

all_are_suitable : {A : Type 0} (new_name : ClassKey → List ℕ → List ℕ) → AreSuitable (all_suitable {A = A} new_name)
all_are_suitable {A} new_name = record {
  expression = λ c r base e h suits. suits;
  qualifier = λ c base t h suits. suits;
  type = λ c base t h suits. suits;
  parent_qualifier = λ outer base t h suits. suits;
  parent = λ outer base t h suits. suits;
  declared = λ d w h suits. suits.0;
  one_name = λ k v w g h same a b. a.1 ∙ ap (new_name k) same ∙ sym b.1;
}

pub rewritings_read : {A : Type 0} (tells : A → ℕ → Span) → RewritingsRead tells
rewritings_read tells new_name declarations bytes u o h w = rewritten_reads tells (all_suitable new_name) (all_are_suitable new_name) declarations bytes u o h w

-- ---- read again

pub rewritings_are_one : (A B : Type 0) → ((bytes : List ℕ) (items others : List Item) → Lexes bytes items → Lexes bytes others → items ≡ others) → RewritingsAreOne A B
rewritings_are_one A B one_cut one_unit bytes o other h reads =
    let new : List ℕ = splice bytes (entries_of o.changes) in
    let marks = unit_ignores_marks {A = A} {B = Bare} in
    let others = unit_ignores_marks {A = B} {B = Bare} in
    let items : reads.items ≡ h.reads.items = one_cut new reads.items h.reads.items reads.lexes h.reads.lexes in
    one_unit (bare_unit other) (bare_unit o.tree) ((others.shape no_mark other).1 reads.is.shaped) ((marks.shape no_mark o.tree).1 h.reads.is.shaped)
    (others.spelling no_mark other ∙ reads.is.spells ∙ ap (tokens_of new) items ∙ sym h.reads.is.spells ∙ sym (marks.spelling no_mark o.tree))
