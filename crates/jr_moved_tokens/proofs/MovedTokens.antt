-- A token that stays stands in the new text where the changes in front of it have moved it: the
-- lexemes of the steps in front of it, its own, and those of the steps behind it are all lexemes of
-- the new text.
use Rattle.std.proofs.Common.{◌≡◌, ℕ, suc, ◌+◌, ◌-◌, ◌≤◌, ◌<◌, Bool, true, false, List, [], ◌∷◌, ◌++◌, length, drop, Option, None, Some, refl, sym, ap, ◌∙◌, subst, arith, inl, inr}
use Rattle.std.specs.Prelude.{◌⊎◌}
use Rattle.std.specs.List.{AllByRecursion}
use Rattle.std.specs.Str.{chars}
use Rattle.std.proofs.lemmas.List.{append_assoc, append-nil, length-append, drop_at}
use Rattle.std.proofs.lemmas.List.Elements.{recursion_from_All}
use Rattle.jr_text.specs.declared.spans.Span.{Span}
use Rattle.jr_text.specs.Spans.{LiesIn}
use Rattle.jr_text.specs.Edits.{Entry}
use Rattle.jr_text.specs.Splices.{splice, IsUntouched, moved_to}
use Rattle.jr_lex.specs.declared.items.Item.{Item}
use Rattle.jr_lex.specs.declared.items.ItemKind.{ItemKind}
use Rattle.jr_lex.specs.declared.items.ItemKind.TheVariants.{Token as TokenItem, Blank, Comment}
use Rattle.jr_lex.specs.Lexes.{Lexes, span_of as between}
use Rattle.jr_lex.specs.Places.{ItemsPlaced}
use Rattle.jr_lex.specs.Beside.{Piece, join_pieces, items_from}
use Rattle.jr_grammar.specs.Tokens.{Token, Placed, with_placed, placed_of, kinds}
use Rattle.jr_grammar.specs.Stands.{Tokens, first_from, last_to, span_of}
use Rattle.jr_grammar.specs.Reads.{ReadsWithSpans}
use Rattle.jr_ast.specs.MemberTree.{Unit as UnitTree}
use Rattle.jr_table.specs.Keys.{ClassKey}
use Rattle.jr_table.specs.DeclaredItems.{DeclaredItem}
use Rattle.jr_program_laws.proofs.TokenOrder.{StartsIn, Rising, Filled, in_front, rising_front, rising_back, from_first, to_last, last_before}
use Rattle.jr_program_laws.proofs.ItemTokens.{tokens_rise}
use Rattle.jr_rewrite.specs.Respellings.{Change}
use Rattle.jr_rewrite.specs.Rewritten.{Rewritten}
use Rattle.jr_rewrite.specs.Edited.{entries_from, entries_of}
use Rattle.jr_rewrite.specs.Suitable.{AreSuitable, all_suitable}
use Rattle.jr_rewrite.specs.Spots.{nowhere}
use Rattle.jr_rewrite.specs.Rewrites.{Choosing, RewritesUnit}
use Rattle.jr_splice.specs.Cutting.{own_token, tokens_in}
use Rattle.jr_splice.proofs.Cut.{AreCut, pieces_lex}
use Rattle.jr_rewrite.specs.Woven.{MayFront, Fronted, Behind, anything, no_indent, token_to, join_changes, Fit}
use Rattle.jr_rewrite.proofs.Tiles.{lexes_tiled}
use Rattle.jr_rewrite.proofs.Entries.{splice_is}
use Rattle.jr_rewrite.proofs.Steps.{Step, stay, cast, swap, close, weave, step_olds, olds, changes, news, BeginWordLike, Flow, Stepped, changes-append}
use Rattle.jr_rewrite.proofs.MemberSteps.{unit_steps}
use Rattle.jr_moved_tokens.specs.MovedTokens.{Among, moved_token, UntouchedTokensMove}
use Rattle.jr_moved_tokens.proofs.Runs.{Follows, follows_same, EndBy, Runs, less, behind, sooner, join_past, join-append, piece}
use Rattle.jr_moved_tokens.proofs.StepRuns.{all, never, AtToken, NextToken, to_token, AtEnd, to_end, Reached, steps_run, begins_at, ends_at, whole_behind, tiled_behind, behind_are, own, stays_cut, stays_followed}
use Rattle.jr_moved_tokens.proofs.PiecePlaces.{placed_from, pieces_placed, placed-append, kinds_placed, put_in, taken_out, put-append, taken-append, joined_length, moved_behind}

-- ---- the new text's lexemes, where a token stays

-- in front of it, its own, and behind it
pub record Sides (bytes : List ℕ) (sb : List Step) (p : Placed Span) (sa : List Step) : Type 0 where
  pub before : List Piece
  pub after : List Piece
  pub kind : ItemKind
  pub text : List ℕ
  pub fit : Fit 0 bytes (changes sb ++ changes sa)
  pub cut : AreCut (before ++ piece kind text ∷ after)
  pub text_is : join_changes 0 bytes (changes sb ++ changes sa) ≡ join_pieces (before ++ piece kind text ∷ after)
  pub before_are : tokens_in before ≡ news sb
  pub after_are : tokens_in after ≡ news sa
  pub own_is : own_token kind text ≡ Some p.token
  pub long : length text ≡ p.mark.to - p.mark.from
  pub moved : length (join_pieces before) ≡ moved_to (entries_of (changes sb ++ changes sa)) p.mark.from

-- the same run, of changes and tokens that are equal
runs_as : {bytes pre post front rest : List ℕ} {starts ends : Bool} (cs ds : List Change) (ts us : List Token) → cs ≡ ds → ts ≡ us → Runs bytes starts pre post ends front rest cs ts → Runs bytes starts pre post ends front rest ds us
runs_as {bytes = bytes} {pre = pre} {post = post} {front = front} {rest = rest} {starts = starts} {ends = ends} cs ds ts us e f r = subst (λ c. Runs bytes starts pre post ends front rest c us) e (subst (λ t. Runs bytes starts pre post ends front rest cs t) f r)

-- from a place to the first token behind some steps
module _ (bytes : List ℕ) (sb : List Step) (p : Placed Span) (sa : List Step) (items : List Item) (flow : Flow never no_indent (sb ++ stay p ∷ sa)) (lexes : Lexes bytes items) (fronted : Fronted all items) (placed : placed_of bytes items ≡ olds (sb ++ stay p ∷ sa)) where
  reached : Reached bytes [] bytes (changes sb) (news sb) (stay p ∷ sa)
  reached = steps_run bytes sb (stay p ∷ sa) no_indent flow items [] bytes refl (lexes_tiled all bytes items fronted lexes) placed tt

  next : NextToken bytes reached.front reached.rest (p ∷ olds sa)
  next = to_token reached.items bytes reached.front reached.rest p (olds sa) reached.whole reached.tiled reached.placed

  abbrev at : AtToken bytes next.front next.rest (p ∷ olds sa)
  at = next.at

  abbrev pre : List ℕ
  pre = next.front

  abbrev front : List ℕ
  front = at.front

  first : Runs bytes false [] bytes true pre next.rest (changes sb) (news sb)
  first = runs_as (changes sb ++ []) (changes sb) (news sb ++ []) (news sb) (append-nil (changes sb)) (append-nil (news sb)) (behind reached.runs (less true next.runs))

  last : Reached bytes (pre ++ front) at.rest (changes sa) (news sa) []
  last = steps_run bytes sa [] (token_to p.mark.to) (subst (λ ss. Flow never (token_to p.mark.to) ss) (sym (append-nil sa)) reached.flow) at.items (pre ++ front) at.rest
      (whole_behind bytes pre next.rest p (olds sa) at) (tiled_behind bytes pre next.rest p (olds sa) at) (behind_are bytes pre next.rest p (olds sa) at ∙ ap olds (sym (append-nil sa))) (ends_at bytes pre next.rest p (olds sa) at)

  end : AtEnd bytes last.front last.rest
  end = to_end last.items bytes last.front last.rest last.whole last.tiled last.placed

  final : Runs bytes false (pre ++ front) at.rest true end.front [] (changes sa) (news sa)
  final = runs_as (changes sa ++ []) (changes sa) (news sa ++ []) (news sa) (append-nil (changes sa)) (append-nil (news sa)) (behind last.runs (less true end.runs))

  at_end : Fit (length end.front) bytes []
  at_end = omega (arith, ap length end.whole, length-append end.front [])

  final_fit : Fit (length (pre ++ front)) bytes (changes sa)
  final_fit = subst (Fit (length (pre ++ front)) bytes) (append-nil (changes sa)) (final.fit [] at_end)

  final_text : join_changes (length (pre ++ front)) bytes (changes sa) ≡ join_pieces final.pieces
  final_text =
      ap (join_changes (length (pre ++ front)) bytes) (sym (append-nil (changes sa)))
      ∙ final.text_is [] at_end
      ∙ ap (λ t. join_pieces final.pieces ++ t) (ap (drop (length end.front)) end.whole ∙ drop_at end.front [] (length end.front) refl)
      ∙ append-nil (join_pieces final.pieces)

  final_cut : AreCut final.pieces
  final_cut = subst AreCut (append-nil final.pieces) (final.cut [] tt (follows_same true (chars [])))

  final_follows : Follows false (chars at.rest) (chars (join_pieces final.pieces))
  final_follows = subst (λ ps. Follows false (chars at.rest) (chars (join_pieces ps))) (append-nil final.pieces) (final.follows [] tt (follows_same true (chars [])))

  abbrev own_piece : Piece
  own_piece = piece at.item.kind front

  all_cut : AreCut (first.pieces ++ own_piece ∷ final.pieces)
  all_cut = first.cut (own_piece ∷ final.pieces) (stays_cut bytes pre next.rest p (olds sa) at final.pieces final_cut final_follows) (stays_followed bytes pre next.rest p (olds sa) at (join_pieces final.pieces) final_follows)

  here_fit : Fit (length pre) bytes (changes sa)
  here_fit = sooner (length (pre ++ front)) (length pre) bytes (changes sa) (omega (arith, length-append pre front)) final_fit

  here_text : join_changes (length pre) bytes (changes sa) ≡ front ++ join_pieces final.pieces
  here_text = join_past bytes pre front at.rest (changes sa) (at.whole ∙ ap (λ t. pre ++ t) at.parts) final_fit ∙ ap (λ t. front ++ t) final_text

  all_text : join_changes 0 bytes (changes sb ++ changes sa) ≡ join_pieces first.pieces ++ join_changes (length pre) bytes (changes sa)
  all_text = first.text_is (changes sa) here_fit

  begins : p.mark.from ≡ length pre
  begins = begins_at bytes pre next.rest p (olds sa) at

  ends : p.mark.to ≡ length (pre ++ front)
  ends = ends_at bytes pre next.rest p (olds sa) at

  grown : length (join_pieces first.pieces) + taken_out (changes sb) ≡ length pre + put_in (changes sb)
  grown =
      let whole = joined_length 0 bytes (changes sb ++ changes sa) (first.fit (changes sa) here_fit) in
      let rest = joined_length (length pre) bytes (changes sa) here_fit in
      let parts : length (join_changes 0 bytes (changes sb ++ changes sa)) ≡ length (join_pieces first.pieces) + length (join_changes (length pre) bytes (changes sa)) = ap length all_text ∙ length-append (join_pieces first.pieces) (join_changes (length pre) bytes (changes sa)) in
      let puts = put-append (changes sb) (changes sa) in
      let takes = taken-append (changes sb) (changes sa) in
      omega arith

  pub sides : (p.mark.from < p.mark.to) → Sides bytes sb p sa
  sides some = record {
    before = first.pieces;
    after = final.pieces;
    kind = at.item.kind;
    text = front;
    fit = first.fit (changes sa) here_fit;
    cut = all_cut;
    text_is = all_text ∙ ap (λ t. join_pieces first.pieces ++ t) here_text ∙ sym (join-append first.pieces (own_piece ∷ final.pieces));
    before_are = first.tokens_are;
    after_are = final.tokens_are;
    own_is = own bytes pre next.rest p (olds sa) at;
    long = omega (arith, begins, ends, length-append pre front);
    moved = sym (ap (moved_to (entries_of (changes sb ++ changes sa))) begins ∙ moved_behind (length pre) (length (pre ++ front)) (length (join_pieces first.pieces)) bytes (changes sb) (changes sa) (omega (arith, begins, ends, some)) first.ended final_fit grown);
  }

-- ---- the new text's tokens

-- these tokens of the new text, that of the token that stays, and these
pub record Carried (es : List Entry) (news' : Tokens) (sb : List Step) (p : Placed Span) (sa : List Step) : Type 0 where
  pub front : Tokens
  pub back : Tokens
  pub whole : news' ≡ front ++ moved_token es p ∷ back
  pub front_are : kinds front ≡ news sb
  pub back_are : kinds back ≡ news sa

module _ (one_cut : (bytes : List ℕ) (items others : List Item) → Lexes bytes items → Lexes bytes others → items ≡ others) where
  pub sides_carried : (bytes : List ℕ) (sb : List Step) (p : Placed Span) (sa : List Step) → Sides bytes sb p sa
      → (items : List Item) → Lexes (splice bytes (entries_of (changes sb ++ changes sa))) items
      → Carried (entries_of (changes sb ++ changes sa)) (placed_of (splice bytes (entries_of (changes sb ++ changes sa))) items) sb p sa
  sides_carried bytes sb p sa s items lexes =
      let es : List Entry = entries_of (changes sb ++ changes sa) in
      let new : List ℕ = splice bytes es in
      let ps : List Piece = s.before ++ piece s.kind s.text ∷ s.after in
      let n : ℕ = length (join_pieces s.before) in
      let text : new ≡ join_pieces ps = splice_is bytes (changes sb ++ changes sa) s.fit ∙ s.text_is in
      let same : items ≡ items_from 0 ps = one_cut new items (items_from 0 ps) lexes (subst (λ t. Lexes t (items_from 0 ps)) (sym text) (pieces_lex ps s.cut)) in
      let zero_n : 0 + n ≡ moved_to es p.mark.from = (let e : 0 + n ≡ n = omega arith in e ∙ s.moved) in
      let placed : placed_of new items ≡ placed_from 0 ps = (λ i. placed_of (text i) (same i)) ∙ pieces_placed ps [] in
      let here : placed_from (0 + n) (piece s.kind s.text ∷ s.after) ≡ moved_token es p ∷ placed_from (0 + n + length s.text) s.after =
      ap (λ o. with_placed (between (0 + n) (0 + n + length s.text)) o (placed_from (0 + n + length s.text) s.after)) s.own_is
      ∙ (λ i. record { mark = between (zero_n i) (zero_n i + s.long i); token = p.token } ∷ placed_from (0 + n + length s.text) s.after) in
      record {
        front = placed_from 0 s.before;
        back = placed_from (0 + n + length s.text) s.after;
        whole = placed ∙ placed-append s.before (piece s.kind s.text ∷ s.after) 0 ∙ ap (λ qs. placed_from 0 s.before ++ qs) here;
        front_are = kinds_placed s.before 0 ∙ s.before_are;
        back_are = kinds_placed s.after (0 + n + length s.text) ∙ s.after_are;
      }

  all_fronted : (items : List Item) → Fronted all items
  all_fronted [] = tt
  all_fronted (item ∷ items) = (by_kind item.kind, all_fronted items)
    where
      by_kind : (k : ItemKind) → MayFront all item.span.to k
      by_kind (TokenItem k) = tt
      by_kind Blank = tt
      by_kind Comment = tt

  module _ (items_placed : ItemsPlaced) where
    own_width : (sb sa : List Step) (p : Placed Span) → Rising (olds (sb ++ stay p ∷ sa)) → p.mark.from < p.mark.to
    own_width [] sa p h = h.0
    own_width (s ∷ sb) sa p h = own_width sb sa p (rising_back (step_olds s) (olds (sb ++ stay p ∷ sa)) h)

    -- a token that stays among steps
    pub stays_carried : (bytes : List ℕ) (items : List Item) → Lexes bytes items → (sb : List Step) (p : Placed Span) (sa : List Step) → Flow never no_indent (sb ++ stay p ∷ sa) → placed_of bytes items ≡ olds (sb ++ stay p ∷ sa)
        → (others : List Item) → Lexes (splice bytes (entries_of (changes sb ++ changes sa))) others
        → Carried (entries_of (changes sb ++ changes sa)) (placed_of (splice bytes (entries_of (changes sb ++ changes sa))) others) sb p sa
    stays_carried bytes items lexes sb p sa flow placed others again =
        let wide = own_width sb sa p (subst Rising placed (tokens_rise bytes items_placed items lexes)) in
        sides_carried bytes sb p sa (sides bytes sb p sa items flow lexes (all_fronted items) placed wide) others again

-- ---- a token whose first byte no change touches stays

abbrev pub Untouched : List Change → ℕ → Type 0
Untouched [] k = Unit {0}
Untouched (c ∷ cs) k = (LiesIn k c.span → ⊥) × Untouched cs k

pub untouched_back : (cs ds : List Change) (k : ℕ) → Untouched (cs ++ ds) k → Untouched ds k
untouched_back [] ds k h = h
untouched_back (c ∷ cs) ds k h = untouched_back cs ds k h.1

pub untouched_front : (cs ds : List Change) (k : ℕ) → Untouched (cs ++ ds) k → Untouched cs k
untouched_front [] ds k h = tt
untouched_front (c ∷ cs) ds k h = (h.0, untouched_front cs ds k h.1)

pub untouched_changes : (cs : List Change) (k : ℕ) → IsUntouched (entries_of cs) k → Untouched cs k
untouched_changes cs k h = go 0 cs (recursion_from_All (λ (e : Entry). ¬ LiesIn k e.span) (entries_of cs) h)
  where
    go : (n : ℕ) (ds : List Change) → AllByRecursion (λ (e : Entry). ¬ LiesIn k e.span) (entries_from n ds) → Untouched ds k
    go n [] u = tt
    go n (d ∷ ds) u = (u.0, go (suc n) ds u.1)

-- where it is known where the last token ended, no other begins in front of that
abbrev IsBehind : Behind → Tokens → Type 0
IsBehind anything ps = Unit {0}
IsBehind no_indent ps = Unit {0}
IsBehind (token_to n) ps = (at : ℕ) → StartsIn ps at → n ≤ at

among_starts : (p : Placed Span) (ps : Tokens) → Among p ps → StartsIn ps p.mark.from
among_starts p [] h = absurd h
among_starts p (q ∷ ps) (inl e) = inl (sym (ap (λ (x : Placed Span). x.mark.from) e))
among_starts p (q ∷ ps) (inr h) = inr (among_starts p ps h)

among_either : (p : Placed Span) (ps qs : Tokens) → Among p (ps ++ qs) → Among p ps ⊎ Among p qs
among_either p [] qs h = inr h
among_either p (q ∷ ps) qs (inl e) = inl (inl e)
among_either p (q ∷ ps) qs (inr h) = elim (among_either p ps qs h) [ inl a ↦ inl (inr a) | inr b ↦ inr b ]

begun : (run : Tokens) → BeginWordLike run → Filled run
begun [] h = absurd h
begun (p ∷ run) h = tt

-- the step at which it stays, among all
abbrev Stays : Placed Span → List Step → Type 0
Stays p ss = (sb : List Step) × (sa : List Step) × (ss ≡ sb ++ stay p ∷ sa)

further : (p : Placed Span) (s : Step) (ss : List Step) → Stays p ss → Stays p (s ∷ ss)
further p s ss h = (s ∷ h.0, h.1, ap (λ (xs : List Step). s ∷ xs) h.2)

pub stay_of : (p : Placed Span) (ss : List Step) (last : Behind) → Flow never last ss → Rising (olds ss) → IsBehind last (olds ss) → Among p (olds ss) → Untouched (changes ss) p.mark.from → Stays p ss
stay_of p [] last flow rising here there none = absurd there
stay_of p (stay q ∷ ss) last flow rising here (inl e) none = ([], ss, ap (λ (x : Placed Span). stay x ∷ ss) e)
stay_of p (stay q ∷ ss) last flow rising here (inr there) none = further p (stay q) ss (stay_of p ss (token_to q.mark.to) flow rising.2 rising.1 there none)
stay_of p (cast k at ∷ ss) last flow rising here there none = further p (cast k at) ss (stay_of p ss anything flow.2 rising tt there none.1)
stay_of p (swap run f x ∷ ss) last flow rising here there none =
    elim (among_either p run (olds ss) there) [
      | inl inside ↦ (let starts = among_starts p run inside in let rises = rising_front run (olds ss) rising in absurd (none.0 (from_first run rises p.mark.from starts, to_last run rises p.mark.from starts)))
      | inr behind ↦ further p (swap run f x) ss
          (stay_of p ss (token_to (last_to run)) flow.1 (rising_back run (olds ss) rising) (λ at s. last_before run (olds ss) rising (begun run flow.0.begins) at s) behind none.1)
    ]
stay_of p (close at d q x ∷ ss) last flow rising here there none =
    let run : Tokens = d ∷ q ∷ [] in
    let known : IsBehind (token_to at) (run ++ olds ss) = subst (λ l. IsBehind l (run ++ olds ss)) flow.0 here in
    elim (among_either p run (olds ss) there) [
      | inl inside ↦
          (let starts = among_starts p run inside in
          let rises = rising_front run (olds ss) rising in
          let from : at ≤ p.mark.from = known p.mark.from (in_front run (olds ss) p.mark.from starts) in
          absurd (none.0 (from, to_last run rises p.mark.from starts)))
      | inr behind ↦ further p (close at d q x) ss (stay_of p ss (token_to q.mark.to) flow.3 (rising_back run (olds ss) rising) (λ i s. last_before run (olds ss) rising tt i s) behind none.1)
    ]
stay_of p (weave f run cs ts b ∷ ss) last flow rising here there none = absurd flow.2

-- ---- of a file

all_are_suitable : {A : Type 0} (new_name : ClassKey → List ℕ → List ℕ) → AreSuitable (all_suitable {A = A} new_name)
all_are_suitable {A} new_name = record {
  expression = λ c r base e h suits. suits;
  qualifier = λ c base t h suits. suits;
  type = λ c base t h suits. suits;
  parent_qualifier = λ outer base t h suits. suits;
  parent = λ outer base t h suits. suits;
  declared = λ d w h suits. suits.0;
  one_name = λ k v w g h same a b. a.1 ∙ ap (new_name k) same ∙ sym b.1;
}

among_at : (p : Placed Span) (front back ps : Tokens) → ps ≡ front ++ p ∷ back → Among p ps
among_at p front back ps e = subst (Among p) (sym e) (go front)
  where
    go : (qs : Tokens) → Among p (qs ++ p ∷ back)
    go [] = inl refl
    go (q ∷ qs) = inr (go qs)

module _ (one_cut : (bytes : List ℕ) (items others : List Item) → Lexes bytes items → Lexes bytes others → items ≡ others) (items_placed : ItemsPlaced) where
  -- by whatever choices suit
  pub tokens_move : {A : Type 0} (tells : A → ℕ → Span) (C : Choosing A) → AreSuitable C → (declarations : List DeclaredItem) (bytes : List ℕ) (u : UnitTree A) (o : Rewritten (UnitTree A)) → (h : ReadsWithSpans tells bytes u)
      → RewritesUnit tells C declarations u o → (items : List Item) → Lexes (splice bytes (entries_of o.changes)) items → (p : Placed Span) → Among p (placed_of bytes h.items)
      → IsUntouched (entries_of o.changes) p.mark.from → Among (moved_token (entries_of o.changes) p) (placed_of (splice bytes (entries_of o.changes)) items)
  tokens_move tells C fit declarations bytes u o h w items lexes p there none =
      let s : Stepped never true (placed_of bytes h.items) o.changes _ = unit_steps tells C nowhere never fit tt declarations u o (placed_of bytes h.items) (ap (λ (z : Span). z.from) h.file) w h.spans in
      let rises = subst Rising (sym s.olds_are) (tokens_rise bytes items_placed h.items h.lexes) in
      let stays = stay_of p s.steps no_indent s.flow rises tt (subst (Among p) (sym s.olds_are) there) (subst (λ cs. Untouched cs p.mark.from) (sym s.changes_are) (untouched_changes o.changes p.mark.from none)) in
      let sb = stays.0 in
      let sa = stays.1 in
      let changes_are : changes sb ++ changes sa ≡ o.changes = sym (changes-append sb (stay p ∷ sa)) ∙ ap changes (sym stays.2) ∙ s.changes_are in
      let carried = stays_carried one_cut items_placed bytes h.items h.lexes sb p sa (subst (λ ss. Flow never no_indent ss) stays.2 s.flow) (sym s.olds_are ∙ ap olds stays.2) items
      (subst (λ cs. Lexes (splice bytes (entries_of cs)) items) (sym changes_are) lexes) in
      subst (λ cs. Among (moved_token (entries_of cs) p) (placed_of (splice bytes (entries_of cs)) items)) changes_are
      (among_at (moved_token (entries_of (changes sb ++ changes sa)) p) carried.front carried.back _ carried.whole)

  pub untouched_tokens_move : {A : Type 0} (tells : A → ℕ → Span) → UntouchedTokensMove tells
  untouched_tokens_move tells new_name declarations bytes u o h w items lexes p there none = tokens_move tells (all_suitable new_name) (all_are_suitable new_name) declarations bytes u o h w items lexes p there none
