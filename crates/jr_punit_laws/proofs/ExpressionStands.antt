-- What the machines for expressions build over tokens with places, as it is needed here.
use Rattle.std.proofs.Common.{◌≡◌, [], ◌∷◌, ◌++◌, Option, Some, None, refl, sym, ap, subst, ◌∙◌}
use Rattle.std.specs.Prelude.{option_and_then}
use Rattle.std.proofs.lemmas.List.{append-nil}
use Rattle.std.proofs.lemmas.Option.{none-some, same_Some}
use Rattle.jr_text.specs.declared.spans.Span.{Span}
use Rattle.jr_ast.specs.Tree.{TypeName, named, Exp, name, field, bump}
use Rattle.jr_ast.specs.Marks.{type_mark, exp_mark}
use Rattle.jr_ast.specs.declared.operators.BumpOp.TheVariants.{PreInc, PreDec, PostInc, PostDec}
use Rattle.jr_grammar.specs.Tokens.{Placed, kinds}
use Rattle.jr_grammar.specs.Stands.{Tokens, span_of, Stands}
use Rattle.jr_grammar.specs.ExpressionLayout.{word_layout, type_layout, exp_layout}
use Rattle.jr_pexpr.specs.Machine as E
use Rattle.jr_pexpr.specs.Marked.{span_whole, span_run, span_statement_whole, span_statement_run}
use Rattle.jr_pexpr.specs.Runs as Runs
use Rattle.jr_pexpr.proofs.Scans.{run-append}
use Rattle.jr_pexpr.proofs.Marks.{marks_stand, run_kept, kept_whole, bare_run_of}
use Rattle.jr_punit_laws.proofs.Expressions.{exp_unread}
use Rattle.jr_pexpr.specs.Starts.{type_read}
use Rattle.jr_punit_laws.proofs.Standing.{IsMore, joined, Whole}

-- one token more
module _ (S T : Type 0) (step : S → Placed Span → Option S) (whole : S → Option T) where
  pub span_run_one : (s m n : S) (ts : Tokens) (t : Placed Span) → Runs.run S (Placed Span) T step whole s ts ≡ Some m → step m t ≡ Some n → Runs.run S (Placed Span) T step whole s (ts ++ (t ∷ [])) ≡ Some n
  span_run_one s m n ts t h k =
      run-append S (Placed Span) T step whole s ts (t ∷ []) ∙ ap (option_and_then (λ (r : S). Runs.run S (Placed Span) T step whole r (t ∷ []))) h ∙ ap (option_and_then (λ (r : S). Some r)) k

exp_node : (e : Exp Span) (ps : Tokens) → Stands (exp_layout e) ps → exp_mark e ≡ span_of ps
exp_node (bump m PreInc e) ps h = h.mark
exp_node (bump m PreDec e) ps h = h.mark
exp_node (bump m PostInc e) ps h = h.mark
exp_node (bump m PostDec e) ps h = h.mark
exp_node _ ps h = h.mark

abbrev StoodExp : Exp Span → Tokens → Type 0
StoodExp e ps = Whole (exp_layout e) (exp_mark e) ps

run_more : (b : Tokens) (s : E.State Span) (e : Exp Span) → span_run (E.want []) b ≡ Some s → span_whole s ≡ Some e → IsMore b
run_more [] s e h k = absurd (none-some e (ap span_whole (same_Some (E.want []) s h) ∙ k))
run_more (i ∷ b) s e h k = tt

pub exp_whole_stands : (b : Tokens) (s : E.State Span) (e : Exp Span) → span_run (E.want []) b ≡ Some s → span_whole s ≡ Some e → StoodExp e b
exp_whole_stands b s e h k =
    let l = (marks_stand b s e h k).0 in
    record { stands = l; more = run_more b s e h k; mark = exp_node e b l }

pub eval_whole_stands : (b : Tokens) (s : E.State Span) (e : Exp Span) → span_statement_run (E.want []) b ≡ Some s → span_statement_whole s ≡ Some e → StoodExp e b
eval_whole_stands b s e h k = exp_whole_stands b s e (run_kept (E.want []) b s h) (kept_whole (span_whole s) e k)

-- a name is a type over the same tokens
abbrev StoodName : TypeName Span → Tokens → Type 0
StoodName t ps = Whole (type_layout t) (type_mark t) ps

named_stands : (e : Exp Span) (t : TypeName Span) (b : Tokens) → E.name_type e ≡ Some t → StoodExp e b → StoodName t b
named_stands (name m w) t b h k = subst (λ (t : TypeName Span). StoodName t b) (same_Some (named m None w) t h) (record { stands = record { mark = k.stands.mark; parts = k.stands.parts }; more = k.more; mark = k.mark })
named_stands (field m (name n o) w) t b h k =
    let p = k.stands.parts in
    subst (λ (t : TypeName Span). StoodName t b) (same_Some (named m (Some o) w) t h)
    (record {
      stands = record {
        mark = k.stands.mark;
        parts = record {
          front = p.front;
          back = p.back;
          whole = p.whole;
          first = joined (Stands (word_layout o)) p.first.parts (λ c d f g. subst (Stands (word_layout o)) (sym (ap (λ (x : Tokens). c ++ x) g ∙ append-nil c)) f);
          rest = p.rest;
        };
      };
      more = k.more;
      mark = k.mark;
    })
named_stands _ t b h k = absurd cc

pub type_read_stands : (b : Tokens) (s : E.State Span) (t : TypeName Span) → span_statement_run (E.want []) b ≡ Some s → type_read s ≡ Some t → StoodName t b
type_read_stands b (E.have [] e) t h k = named_stands e t b k (exp_whole_stands b (E.have [] e) e (run_kept (E.want []) b (E.have [] e) h) refl)
type_read_stands b (E.have (f ∷ fs) e) t h k = absurd cc
type_read_stands b _ t h k = absurd cc

-- where nothing is begun, nothing was read
pub no_kinds : (ps : Tokens) → kinds ps ≡ [] → ps ≡ []
no_kinds [] h = refl
no_kinds (p ∷ ps) h = absurd cc

pub span_unread : (ps : Tokens) → span_run (E.want []) ps ≡ Some (E.want []) → ps ≡ []
span_unread ps h = no_kinds ps (exp_unread (kinds ps) (bare_run_of ps (E.want []) h))
