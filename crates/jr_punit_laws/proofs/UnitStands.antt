-- What the machine for units builds over tokens with places has its spans.
use Rattle.std.proofs.Common.{◌≡◌, ℕ, Bool, true, false, cond, List, [], ◌∷◌, ◌++◌, Option, Some, None, refl, sym, ap, subst, ◌∙◌}
use Rattle.std.specs.Prelude.{option_map, unwrap_or, IfSome}
use Rattle.std.proofs.lemmas.Option.{same_Some}
use Rattle.jr_text.specs.declared.spans.Span.{Span}
use Rattle.jr_lex.specs.declared.items.Keyword.TheVariants.{Package}
use Rattle.jr_lex.specs.declared.items.Symbol.TheVariants.{Dot, Semicolon}
use Rattle.jr_ast.specs.Tree.{Word}
use Rattle.jr_ast.specs.MemberTree.{Class, Unit as UnitTree}
use Rattle.jr_grammar.specs.Tokens.{Token, keyword, symbol, Placed, kinds}
use Rattle.jr_grammar.specs.Layout.{token, row, Layouts, done as nothing, ◌then◌}
use Rattle.jr_grammar.specs.Stands.{Tokens, InOrder, Stands, StandInOrder}
use Rattle.jr_grammar.specs.ExpressionLayout.{word_layout}
use Rattle.jr_grammar.specs.MemberLayout.{class_layout, more_words_layout, package_layout, classes_layout, unit_layouts}
use Rattle.jr_grammar.specs.Bare.{Bare, bare_class}
use Rattle.jr_pexpr.specs.Machine as E
use Rattle.jr_pexpr.specs.Marked.{join}
use Rattle.jr_pexpr.specs.Runs as Runs
use Rattle.jr_pexpr.proofs.Maps.{run_map}
use Rattle.jr_pstmt.specs.Cues.{Cue, a_word, a_package, a_dot, a_semicolon, cue_token, cue_of}
use Rattle.jr_punit_laws.specs.ClassMachine as C
use Rattle.jr_punit_laws.specs.MemberMachine as M
use Rattle.jr_punit_laws.specs.UnitMachine.{ClassState, State, start, in_package, worded, in_classes, class_step, behind_class, class_read, from_classes, from_start, from_package, from_worded, cue_step, is_between, unit_of}
use Rattle.jr_punit_laws.specs.Marked.{file_of, span_unit_step, span_unit_whole, span_unit_run}
use Rattle.jr_pstmt.proofs.CueTokens.{cue_back}
use Rattle.jr_punit_laws.proofs.Standing.{behind, grow, joined, stand_one, stand_last, last_stands, stand_word, stand_both, alone}
use Rattle.jr_punit_laws.proofs.ParameterStands.{run_stands}
use Rattle.jr_punit_laws.proofs.ExpressionStands.{span_run_one, no_kinds}
use Rattle.jr_punit_laws.proofs.ClassStands.{StoodClass, class_step_stands, class_whole_stands}
use Rattle.jr_punit_laws.proofs.MemberStands.{member_span_laws}
use Rattle.jr_punit_laws.proofs.UnitReads.{TopState as BareTop, top_step, top_unread}
use Rattle.jr_punit_laws.proofs.BareMembers.{bare_top, top_step-bare, top_whole-bare}

-- ---- top-level classes

abbrev Top : Type 0
Top = ClassState Span

abbrev span_top_step : Top → Placed Span → Option Top
span_top_step s p = class_step join s p.mark p.token

abbrev span_top_run : Top → Tokens → Option Top
span_top_run s ps = Runs.run Top (Placed Span) (Class Span) span_top_step C.whole s ps

abbrev StoodTop : Top → Tokens → Type 0
StoodTop s ps = StoodClass (M.State Span) M.start M.is_start (M.step join false) M.whole member_span_laws s ps

top_builds : (ps : Tokens) (n : Top) (c : Class Span) → span_top_run C.start ps ≡ Some n → C.whole n ≡ Some c → Stands (class_layout c) ps
top_builds ps n c h k =
    (class_whole_stands (M.State Span) M.start M.is_start (M.step join false) M.whole member_span_laws n c ps
    (run_stands Top (Class Span) span_top_step C.whole StoodTop (class_step_stands (M.State Span) M.start M.is_start (M.step join false) M.whole member_span_laws) C.start n ps refl h)
    k).stands

span_top_unread : (ps : Tokens) → span_top_run C.start ps ≡ Some C.start → ps ≡ []
span_top_unread ps h =
    no_kinds ps (top_unread (kinds ps)
    (sym (run_map Top (Placed Span) (Class Span) BareTop Token (Class Bare) span_top_step C.whole top_step C.whole bare_top (λ p. p.token) bare_class (λ s p. top_step-bare s p.mark p.token) top_whole-bare C.start ps) ∙ ap (option_map bare_top) h))

-- ---- what has been read

abbrev Words : Type 0
Words = List (Word Span)

abbrev AllClasses : Type 0
AllClasses = List (Class Span)

-- words, each with a dot behind it
abbrev dotted_parts : Words → Layouts Span
dotted_parts [] = nothing
dotted_parts (w ∷ ws) = word_layout w then token (symbol Dot) then dotted_parts ws

abbrev words_parts : Words → Layouts Span
words_parts [] = nothing
words_parts (w ∷ ws) = word_layout w then more_words_layout ws then nothing

abbrev IsMoreWords : Words → Type 0
IsMoreWords [] = ⊥
IsMoreWords (w ∷ ws) = Unit {0}

more_words : (ws : Words) (w : Word Span) → IsMoreWords (ws ++ (w ∷ []))
more_words [] w = tt
more_words (v ∷ ws) w = tt

abbrev Stood : State Span → Tokens → Type 0
Stood start ps = ps ≡ []
Stood (in_package ws) ps = StandInOrder (token (keyword Package) then dotted_parts ws) ps
Stood (worded ws) ps = IsMoreWords ws × StandInOrder (token (keyword Package) then words_parts ws) ps
Stood (in_classes ws cs s) ps = InOrder (Stands (package_layout ws)) (InOrder (Stands (classes_layout cs)) (λ (b : Tokens). span_top_run C.start b ≡ Some s)) ps

abbrev After : Tokens → Placed Span → Option (State Span) → Type 0
After ps i o = IfSome o (λ (n : State Span). Stood n (ps ++ (i ∷ [])))

-- ---- packages

one_word : (w : Word Span) (b : Tokens) → Stands (word_layout w) b → StandInOrder (word_layout w then row nothing then nothing) b
one_word w b k = alone k (behind [] [] refl refl)

more_word : (ws : Words) (w : Word Span) (c b : Tokens) → StandInOrder (token (symbol Dot) then dotted_parts ws) c → Stands (word_layout w) b → Stands (more_words_layout (ws ++ (w ∷ []))) (c ++ b)
more_word [] w c b h k = grow b h (λ d g. subst (λ (x : Tokens). StandInOrder (word_layout w then row nothing then nothing) (x ++ b)) (sym g) (one_word w b k))
more_word (v ∷ ws) w c b h k = grow b h (λ d g. grow b g (λ e l. stand_last (more_words_layout (ws ++ (w ∷ []))) (e ++ b) (more_word ws w e b l k)))

words_one : (ws : Words) (w : Word Span) (a b : Tokens) → StandInOrder (dotted_parts ws) a → Stands (word_layout w) b → StandInOrder (words_parts (ws ++ (w ∷ []))) (a ++ b)
words_one [] w a b h k = subst (λ (x : Tokens). StandInOrder (words_parts (w ∷ [])) (x ++ b)) (sym h) (one_word w b k)
words_one (v ∷ ws) w a b h k = grow b h (λ c g. stand_last (more_words_layout (ws ++ (w ∷ []))) (c ++ b) (more_word ws w c b g k))

more_dot : (ws : Words) (c : Tokens) (i : Placed Span) → i.token ≡ symbol Dot → Stands (more_words_layout ws) c → StandInOrder (token (symbol Dot) then dotted_parts ws) (c ++ (i ∷ []))
more_dot [] c i t h = subst (λ (x : Tokens). StandInOrder (token (symbol Dot) then nothing) (x ++ (i ∷ []))) (sym h) (stand_one (symbol Dot) i t)
more_dot (w ∷ ws) c i t h = grow (i ∷ []) h (λ d g. grow (i ∷ []) g (λ e l. more_dot ws e i t (last_stands (more_words_layout ws) e l)))

words_dot : (ws : Words) (c : Tokens) (i : Placed Span) → i.token ≡ symbol Dot → IsMoreWords ws → StandInOrder (words_parts ws) c → StandInOrder (dotted_parts ws) (c ++ (i ∷ []))
words_dot [] c i t n h = absurd n
words_dot (w ∷ ws) c i t n h = grow (i ∷ []) h (λ d g. more_dot ws d i t (last_stands (more_words_layout ws) d g))

package_ended : (ws : Words) (ps : Tokens) (i : Placed Span) → i.token ≡ symbol Semicolon → IsMoreWords ws → StandInOrder (token (keyword Package) then words_parts ws) ps → Stands (package_layout ws) (ps ++ (i ∷ []))
package_ended [] ps i t n h = absurd n
package_ended (w ∷ ws) ps i t n h = stand_both (token (keyword Package) then words_parts (w ∷ ws)) (token (symbol Semicolon) then nothing) ps (i ∷ []) h (stand_one (symbol Semicolon) i t)

package_stands : (ws : Words) (i : Placed Span) (q : Cue) (ps : Tokens) → i.token ≡ cue_token q → Stood (in_package ws) ps → After ps i (from_package ws i.mark q)
package_stands ws i (a_word w) ps t h =
    let v = E.marked i.mark w in (more_words ws v, grow (i ∷ []) h (λ c g. words_one ws v c (i ∷ []) g (stand_word v i t refl)))
package_stands ws i _ ps t h = tt

worded_stands : (ws : Words) (i : Placed Span) (q : Cue) (ps : Tokens) → i.token ≡ cue_token q → Stood (worded ws) ps → After ps i (from_worded ws q)
worded_stands ws i a_dot ps t h = grow (i ∷ []) h.1 (λ c g. words_dot ws c i t h.0 g)
worded_stands ws i a_semicolon ps t h = alone (package_ended ws ps i t h.0 h.1) (behind [] [] refl refl)
worded_stands ws i _ ps t h = tt

-- ---- classes

classes_one : (cs : AllClasses) (c : Class Span) (a b : Tokens) → Stands (classes_layout cs) a → Stands (class_layout c) b → Stands (classes_layout (cs ++ (c ∷ []))) (a ++ b)
classes_one [] c a b h k = subst (λ (x : Tokens). Stands (classes_layout (c ∷ [])) (x ++ b)) (sym h) (alone k (behind [] [] refl refl))
classes_one (d ∷ cs) c a b h k = grow b h (λ x g. stand_last (classes_layout (cs ++ (c ∷ []))) (x ++ b) (classes_one cs c x b (last_stands (classes_layout cs) x g) k))

read_stands : (ws : Words) (cs : AllClasses) (s n : Top) (i : Placed Span) (ps : Tokens) → Stood (in_classes ws cs s) ps → span_top_step s i ≡ Some n → Stood (class_read ws cs n) (ps ++ (i ∷ []))
read_stands ws cs s n i ps h e = go (C.whole n) refl
  where
    reached : (c : Tokens) → span_top_run C.start c ≡ Some s → span_top_run C.start (c ++ (i ∷ [])) ≡ Some n
    reached c r = span_run_one Top (Class Span) span_top_step C.whole C.start s n c i r e

    go : (o : Option (Class Span)) → C.whole n ≡ o → Stood (unwrap_or (option_map (behind_class ws cs) o) (in_classes ws cs n)) (ps ++ (i ∷ []))
    go None w = grow (i ∷ []) h (λ b g. grow (i ∷ []) g (λ c r. reached c r))
    go (Some d) w =
        grow (i ∷ []) h (λ b g. alone
        (joined (Stands (classes_layout (cs ++ (d ∷ [])))) (grow {R = Stands (class_layout d)} (i ∷ []) g (λ c r. top_builds (c ++ (i ∷ [])) n d (reached c r) w)) (λ x y f r. classes_one cs d x y f r))
        refl)

classes_stands : (ws : Words) (cs : AllClasses) (s : Top) (i : Placed Span) (ps : Tokens) → Stood (in_classes ws cs s) ps → After ps i (from_classes join ws cs s i.mark i.token)
classes_stands ws cs s i ps h = go (span_top_step s i) refl
  where
    go : (o : Option Top) → span_top_step s i ≡ o → After ps i (option_map (class_read ws cs) o)
    go None e = tt
    go (Some n) e = read_stands ws cs s n i ps h e

start_stands : (i : Placed Span) (q : Cue) (ps : Tokens) → i.token ≡ cue_token q → ps ≡ [] → After ps i (from_start join i.mark i.token q)
start_stands i a_package ps t h = subst (λ (x : Tokens). StandInOrder (token (keyword Package) then nothing) (x ++ (i ∷ []))) (sym h) (stand_one (keyword Package) i t)
start_stands i q ps t h = classes_stands [] [] C.start i ps (subst (Stood (in_classes [] [] C.start)) (sym h) (behind [] [] refl (behind [] [] refl refl)))

cue_stands : (s : State Span) (i : Placed Span) (q : Cue) (ps : Tokens) → i.token ≡ cue_token q → Stood s ps → After ps i (cue_step join s i.mark i.token q)
cue_stands start i q ps t h = start_stands i q ps t h
cue_stands (in_package ws) i q ps t h = package_stands ws i q ps t h
cue_stands (worded ws) i q ps t h = worded_stands ws i q ps t h
cue_stands (in_classes ws cs s) i q ps t h = classes_stands ws cs s i ps h

step_stands : (s : State Span) (i : Placed Span) (ps : Tokens) → Stood s ps → After ps i (span_unit_step s i)
step_stands s i ps h = cue_stands s i (cue_of i.token) ps (sym (cue_back i.token)) h

-- ---- what is whole

between_is : (s : Top) → is_between s ≡ true → s ≡ C.start
between_is (C.modified []) h = refl
between_is (C.modified (m ∷ ms)) h = absurd cc
between_is _ h = absurd cc

abbrev IsBuilt : ℕ → Tokens → UnitTree Span → Type 0
IsBuilt size ps u = StandInOrder (unit_layouts u) ps × (u.mark ≡ file_of size)

classes_whole : (size : ℕ) (ws : Words) (cs : AllClasses) (s : Top) (u : UnitTree Span) (ps : Tokens) → Stood (in_classes ws cs s) ps → span_unit_whole size (in_classes ws cs s) ≡ Some u → IsBuilt size ps u
classes_whole size ws cs s u ps h k = go (is_between s) refl k
  where
    all_read : is_between s ≡ true → (b : Tokens) → InOrder (Stands (classes_layout cs)) (λ (b : Tokens). span_top_run C.start b ≡ Some s) b → StandInOrder (classes_layout cs then nothing) b
    all_read f b g = record { front = g.front; back = g.back; whole = g.whole; first = g.first; rest = span_top_unread g.back (g.rest ∙ ap (λ (n : Top). Some n) (between_is s f)) }

    go : (o : Bool) → is_between s ≡ o → cond o (Some (unit_of (file_of size) ws cs)) None ≡ Some u → IsBuilt size ps u
    go false e q = absurd cc
    go true e q = subst (IsBuilt size ps) (same_Some (unit_of (file_of size) ws cs) u q) (record { front = h.front; back = h.back; whole = h.whole; first = h.first; rest = all_read e h.back h.rest }, refl)

unit_whole_stands : (size : ℕ) (s : State Span) (u : UnitTree Span) (ps : Tokens) → Stood s ps → span_unit_whole size s ≡ Some u → IsBuilt size ps u
unit_whole_stands size start u ps h k =
    subst (IsBuilt size ps) (same_Some (unit_of (file_of size) [] []) u k) (subst (StandInOrder (unit_layouts (unit_of (file_of size) [] []))) (sym h) (behind [] [] refl (behind [] [] refl refl)), refl)
unit_whole_stands size (in_package ws) u ps h k = absurd cc
unit_whole_stands size (worded ws) u ps h k = absurd cc
unit_whole_stands size (in_classes ws cs s) u ps h k = classes_whole size ws cs s u ps h k

pub unit_builds : (size : ℕ) (ps : Tokens) (n : State Span) (u : UnitTree Span) → span_unit_run size start ps ≡ Some n → span_unit_whole size n ≡ Some u → IsBuilt size ps u
unit_builds size ps n u h k = unit_whole_stands size n u ps (run_stands (State Span) (UnitTree Span) span_unit_step (span_unit_whole size) Stood step_stands start n ps refl h) k
