-- What is found is the longest expression or statement expression, and where reading stops.
use Rattle.std.proofs.Common.{◌≡◌, ℕ, suc, zero, List, [], ◌∷◌, take, Option, Some, None, refl, sym, ap, subst, ◌∙◌}
use Rattle.std.specs.Prelude.{MatchOption, option_map}
use Rattle.jr_text.specs.declared.spans.Span.{Span}
use Rattle.jr_lex.specs.declared.items.Item.{Item}
use Rattle.jr_ast.specs.Tree.{Exp}
use Rattle.jr_grammar.specs.Tokens.{Token, Placed, kinds}
use Rattle.jr_grammar.specs.Stands.{Tokens}
use Rattle.jr_grammar.specs.Spelling.{toks}
use Rattle.jr_grammar.specs.Shape.{Shaped, ShapedStatement}
use Rattle.jr_grammar.specs.Bare.{Bare, bare}
use Rattle.jr_grammar.specs.Expressions.{IsLongestExpression, IsLongestStatementExpression, HasNoExpression, HasNoStatementExpression, IsExpressionStop, IsStatementExpressionStop, IsMarkedExpression, IsMarkedStatementExpression}
use Rattle.jr_pexpr.specs.declared.rules.Rule.{Rule}
use Rattle.jr_pexpr.specs.declared.rules.Rule.TheVariants.{Expression, StatementExpression}
use Rattle.jr_pexpr.specs.Machine.{State, want}
use Rattle.jr_pexpr.specs.Marked.{span_run, span_whole, span_statement_run, span_statement_whole}
use Rattle.jr_pexpr.specs.BareMachine.{bare_state, bare_step, bare_whole, bare_run, bare_statement_step, bare_statement_whole, bare_statement_run}
use Rattle.jr_pexpr.specs.Expressions.{BuildsMarked, expression_length, statement_expression_length}
use Rattle.jr_pexpr.specs.Parsing.{StopsAt, tokens_from, item_of_token, byte_of_item}
use Rattle.jr_pexpr.specs.Rules.{IsFrom, IsNoneFor}
use Rattle.jr_pexpr.specs.Walks.{rule_length, rule_stop}
use Rattle.jr_pexpr.proofs.Found.{longest_is}
use Rattle.jr_pexpr.proofs.Reading.{start, reads, sound, closes}
use Rattle.jr_pexpr.proofs.Statements.{statement_reads, statement_sound, statement_closes}
use Rattle.jr_pexpr.proofs.Marks.{steps_alike, length_is_longest, statement_length_is_longest, stop_is_exact, statement_stop_is_exact, bare_run_of, bare_whole_of, bare_statement_run_of, bare_statement_whole_of}
use Rattle.jr_pexpr.proofs.Finds.{Finds}

kinds-take : (n : ℕ) (ps : Tokens) → kinds (take n ps) ≡ take n (kinds ps)
kinds-take zero ps = refl
kinds-take (suc n) [] = refl
kinds-take (suc n) (p ∷ ps) = ap (λ (ts : List Token). p.token ∷ ts) (kinds-take n ps)

-- two runs that end whole end in one tree
one_end : (o : Option (State Bare)) (s n : State Bare) (whole : State Bare → Option (Exp Bare)) (d e : Exp Bare) → o ≡ Some s → o ≡ Some n → whole s ≡ Some d → whole n ≡ Some e → d ≡ e
one_end o s n whole d e p q v w =
    let b : Some s ≡ Some n = sym p ∙ q in
    let c : s ≡ n = cc in
    let x : Some d ≡ Some e = sym v ∙ ap whole c ∙ w in
    cc

longest_expression : (ts : Tokens) (n : ℕ) (s : State Span) (e : Exp Span) → rule_length Expression (want []) ts ≡ Some n → span_run (want []) (take n ts) ≡ Some s → span_whole s ≡ Some e → IsLongestExpression (kinds ts) n (bare e)
longest_expression ts n s e h k w =
    let l = longest_is (State Bare) (Exp Bare) bare_step bare_whole start toks Shaped reads sound closes (kinds ts) n (sym (steps_alike.length ts) ∙ h) in
    let same = one_end (bare_run (want []) (kinds (take n ts))) l.2.0 (bare_state s) bare_whole l.0 (bare e) (ap (bare_run (want [])) (kinds-take n ts) ∙ l.2.1) (bare_run_of (take n ts) s k) l.2.2 (bare_whole_of s e w) in
    subst (λ (d : Exp Bare). IsLongestExpression (kinds ts) n d) same l.1

longest_statement : (ts : Tokens) (n : ℕ) (s : State Span) (e : Exp Span) → rule_length StatementExpression (want []) ts ≡ Some n → span_statement_run (want []) (take n ts) ≡ Some s → span_statement_whole s ≡ Some e
    → IsLongestStatementExpression (kinds ts) n (bare e)
longest_statement ts n s e h k w =
    let l = longest_is (State Bare) (Exp Bare) bare_statement_step bare_statement_whole start toks ShapedStatement statement_reads statement_sound statement_closes (kinds ts) n (sym (steps_alike.statement_length ts) ∙ h) in
    let same = one_end (bare_statement_run (want []) (kinds (take n ts))) l.2.0 (bare_state s) bare_statement_whole l.0 (bare e) (ap (bare_statement_run (want [])) (kinds-take n ts) ∙ l.2.1) (bare_statement_run_of (take n ts) s k) l.2.2
    (bare_statement_whole_of s e w) in
    subst (λ (d : Exp Bare). IsLongestStatementExpression (kinds ts) n d) same l.1

-- ---- where reading stops

stops_expression : (bytes : List ℕ) (items : List Item) (from stop : ℕ) → stop ≡ item_of_token items from (rule_stop Expression (want []) (tokens_from bytes items from))
    → StopsAt IsLongestExpression HasNoExpression IsExpressionStop IsMarkedExpression bytes items from stop
stops_expression bytes items from stop e =
    let ts = tokens_from bytes items from in
    record {
      tokens_read = rule_stop Expression (want []) ts;
      exact = subst (IsExpressionStop (kinds ts)) (sym (steps_alike.stop ts)) (stop_is_exact (kinds ts));
      item = e;
    }

stops_statement : (bytes : List ℕ) (items : List Item) (from stop : ℕ) → stop ≡ item_of_token items from (rule_stop StatementExpression (want []) (tokens_from bytes items from))
    → StopsAt IsLongestStatementExpression HasNoStatementExpression IsStatementExpressionStop IsMarkedStatementExpression bytes items from stop
stops_statement bytes items from stop e =
    let ts = tokens_from bytes items from in
    record {
      tokens_read = rule_stop StatementExpression (want []) ts;
      exact = subst (IsStatementExpressionStop (kinds ts)) (sym (steps_alike.statement_stop ts)) (statement_stop_is_exact (kinds ts));
      item = e;
    }

-- ---- what a rule reads

pub reads_from : (r : Rule) (bytes : List ℕ) (items : List Item) (from b stop : ℕ) → BuildsMarked → (f : Finds r bytes items from b) → stop ≡ item_of_token items from (rule_stop r (want []) (tokens_from bytes items from)) → IsFrom r bytes items from f.tree b stop
reads_from Expression bytes items from b stop m f e =
    let ts = tokens_from bytes items from in
    record {
      tokens_taken = f.taken;
      longest = longest_expression ts f.taken f.state f.tree f.found f.run_to f.is_whole;
      marked = m.expression (take f.taken ts) f.state f.tree f.run_to f.is_whole;
      ends = f.ends;
      stops = stops_expression bytes items from stop e;
    }
reads_from StatementExpression bytes items from b stop m f e =
    let ts = tokens_from bytes items from in
    record {
      tokens_taken = f.taken;
      longest = longest_statement ts f.taken f.state f.tree f.found f.run_to f.is_whole;
      marked = m.statement (take f.taken ts) f.state f.tree f.run_to f.is_whole;
      ends = f.ends;
      stops = stops_statement bytes items from stop e;
    }

none_of : {A : Type 0} (o : Option A) (P : Type 0) (Q : A → Type 0) → o ≡ None → MatchOption o P Q → P
none_of o P Q e h = subst (λ (o : Option _). MatchOption o P Q) e h

pub none_from : (r : Rule) (bytes : List ℕ) (items : List Item) (from stop at : ℕ) → rule_length r (want []) (tokens_from bytes items from) ≡ None → stop ≡ item_of_token items from (rule_stop r (want []) (tokens_from bytes items from))
    → at ≡ byte_of_item bytes items stop → IsNoneFor r bytes items from at
none_from Expression bytes items from stop at h e p =
    let ts = tokens_from bytes items from in
    record {
      none = none_of (expression_length (kinds ts)) (HasNoExpression (kinds ts)) (λ n. (tree : Exp Bare) × IsLongestExpression (kinds ts) n tree) (sym (steps_alike.length ts) ∙ h) (length_is_longest (kinds ts));
      stop = stop;
      stops = stops_expression bytes items from stop e;
      byte = p;
    }
none_from StatementExpression bytes items from stop at h e p =
    let ts = tokens_from bytes items from in
    record {
      none = none_of (statement_expression_length (kinds ts)) (HasNoStatementExpression (kinds ts)) (λ n. (tree : Exp Bare) × IsLongestStatementExpression (kinds ts) n tree) (sym (steps_alike.statement_length ts) ∙ h) (statement_length_is_longest (kinds ts));
      stop = stop;
      stops = stops_statement bytes items from stop e;
      byte = p;
    }
