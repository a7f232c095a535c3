-- What the machine for classes builds over tokens with places has its spans, where what the machine for members builds has.
use Rattle.std.proofs.Common.{◌≡◌, ℕ, Bool, true, List, [], ◌∷◌, ◌++◌, Option, Some, None, refl, sym, ap, subst, ◌∙◌}
use Rattle.std.specs.Prelude.{option_and_then, option_map, unwrap_or, IfSome}
use Rattle.std.proofs.lemmas.Bool.{cond_both}
use Rattle.std.proofs.lemmas.List.{append-nil}
use Rattle.std.proofs.lemmas.Option.{same_Some}
use Rattle.jr_text.specs.declared.spans.Span.{Span}
use Rattle.jr_lex.specs.declared.items.Keyword.TheVariants.{Class as ClassWord, Extends}
use Rattle.jr_lex.specs.declared.items.Symbol.TheVariants.{OpenBrace, CloseBrace}
use Rattle.jr_ast.specs.Tree.{Word, TypeName}
use Rattle.jr_ast.specs.MemberTree.{Modifier, Class, Member, Members, end, more}
use Rattle.jr_ast.specs.Marks.{class_mark}
use Rattle.jr_grammar.specs.Tokens.{Token, keyword, symbol, Placed}
use Rattle.jr_grammar.specs.Layout.{Layout, token, Layouts, done as nothing, ◌then◌}
use Rattle.jr_grammar.specs.Stands.{Tokens, InOrder, Stands}
use Rattle.jr_grammar.specs.ExpressionLayout.{word_layout, type_layout}
use Rattle.jr_grammar.specs.MemberLayout.{modifiers_layout, extends_layout, class_layout, member_layout, members_layout}
use Rattle.jr_pexpr.specs.Machine as E
use Rattle.jr_pexpr.specs.Marked.{join}
use Rattle.jr_pexpr.specs.Runs as Runs
use Rattle.jr_pexpr.proofs.Found.{at_some}
use Rattle.jr_pstmt.specs.Cues.{Cue, a_word, a_modifier, a_class, an_extends, an_open_brace, at_close_brace, cue_token, cue_of}
use Rattle.jr_pstmt.specs.TypeMachine as T
use Rattle.jr_pstmt.specs.OwnMachine.{Lead}
use Rattle.jr_punit_laws.specs.ClassMachine as C
use Rattle.jr_punit_laws.specs.ClassMachine.{Head, State, modified, at_class, named, in_parent, in_members, done, start, with_member, head_of, class_of, from_modified, from_class, whole}
use Rattle.jr_pstmt.proofs.CueTokens.{cue_back, open_brace_both, close_brace_both}
use Rattle.jr_pstmt.proofs.Inside.{inner_both}
use Rattle.jr_punit_laws.proofs.Standing.{behind, grow, joined, mapped, stand_token, stand_one, stand_last, last_stands, stand_word, Whole, Open, open_more, closes, opens, ended_at, alone}
use Rattle.jr_punit_laws.proofs.TypeStands.{StoodType, type_step_stands}
use Rattle.jr_punit_laws.proofs.ExpressionStands.{span_run_one}
use Rattle.jr_punit_laws.proofs.OwnStands.{modifiers_one, lead_open}

-- what is needed of the machine for members
pub record SpanLaws (S : Type 0) (fresh : S) (is_fresh : S → Bool) (step : List ℕ → S → Span → Token → Option S) (member_whole : S → Option (Member Span)) : Type 0 where
  pub builds : (name : List ℕ) (ps : Tokens) (n : S) (d : Member Span) → Runs.run S (Placed Span) (Member Span) (λ s p. step name s p.mark p.token) member_whole fresh ps ≡ Some n → member_whole n ≡ Some d → Stands (member_layout d) ps
  pub unread : (name : List ℕ) (ps : Tokens) → Runs.run S (Placed Span) (Member Span) (λ s p. step name s p.mark p.token) member_whole fresh ps ≡ Some fresh → ps ≡ []
  pub fresh_is : (s : S) → is_fresh s ≡ true → s ≡ fresh

module _ (S : Type 0) (fresh : S) (is_fresh : S → Bool) (step : List ℕ → S → Span → Token → Option S) (member_whole : S → Option (Member Span)) (laws : SpanLaws S fresh is_fresh step member_whole) where
  abbrev member_step : List ℕ → S → Placed Span → Option S
  member_step name s p = step name s p.mark p.token

  abbrev member_run : List ℕ → S → Tokens → Option S
  member_run name s ps = Runs.run S (Placed Span) (Member Span) (member_step name) member_whole s ps

  abbrev mods : Lead Span → Layout Span
  mods l = modifiers_layout l.modifiers

  abbrev named_parts : Lead Span → Word Span → Layouts Span
  named_parts l w = mods l then token (keyword ClassWord) then word_layout w then nothing

  abbrev class_parts : Head Span → Layouts Span
  class_parts h = mods h.lead then token (keyword ClassWord) then word_layout h.word then extends_layout h.parent then token (symbol OpenBrace) then nothing

  abbrev pub StoodClass : State Span S → Tokens → Type 0
  StoodClass (modified ms) ps = Stands (modifiers_layout ms) ps
  StoodClass (at_class l) ps = Open l.start (mods l then token (keyword ClassWord) then nothing) ps
  StoodClass (named l w) ps = Open l.start (named_parts l w) ps
  StoodClass (in_parent l w s) ps = InOrder (Open l.start (named_parts l w)) (InOrder (Stands (token (keyword Extends))) (StoodType s)) ps
  StoodClass (in_members h all s) ps = InOrder (Open h.lead.start (class_parts h)) (InOrder (Stands (members_layout all)) (λ (b : Tokens). member_run h.word.text fresh b ≡ Some s)) ps
  StoodClass (done c) ps = Whole (class_layout c) (class_mark c) ps

  abbrev After : Tokens → Placed Span → Option (State Span S) → Type 0
  After ps i o = IfSome o (λ (n : State Span S). StoodClass n (ps ++ (i ∷ [])))

  abbrev Next : Tokens → Placed Span → Token → Option (State Span S) → Type 0
  Next ps i k o = i.token ≡ k → After ps i o

  modified_stands : (ms : List (Modifier Span)) (i : Placed Span) (q : Cue) (ps : Tokens) → i.token ≡ cue_token q → Stands (modifiers_layout ms) ps → After ps i (from_modified ms i.mark q)
  modified_stands ms i (a_modifier w) ps t h = modifiers_one ms w ps i t h
  modified_stands ms i a_class ps t h = lead_open ms (keyword ClassWord) ps i t h
  modified_stands ms i _ ps t h = tt

  at_class_stands : (l : Lead Span) (i : Placed Span) (q : Cue) (ps : Tokens) → i.token ≡ cue_token q → StoodClass (at_class l) ps → After ps i (from_class l i.mark q)
  at_class_stands l i (a_word w) ps t h = open_more (word_layout (E.marked i.mark w) then nothing) (i ∷ []) h (stand_last (word_layout (E.marked i.mark w)) (i ∷ []) (stand_word (E.marked i.mark w) i t refl))
  at_class_stands l i _ ps t h = tt

  -- the brace behind the head
  opened_stands : (l : Lead Span) (w : Word Span) (parent : Option (TypeName Span)) (ps : Tokens) → Open l.start (class_parts (head_of l w parent)) ps → StoodClass (C.opened Span S join fresh is_fresh step member_whole l w parent) ps
  opened_stands l w parent ps h = alone h (behind [] [] refl refl)

  named_stands : (l : Lead Span) (w : Word Span) (i : Placed Span) (q : Cue) (ps : Tokens) → i.token ≡ cue_token q → StoodClass (named l w) ps → After ps i (C.from_named Span S join fresh is_fresh step member_whole l w q)
  named_stands l w i an_extends ps t h = behind ps (i ∷ []) h (behind (i ∷ []) [] (stand_token (keyword Extends) i t) refl)
  named_stands l w i an_open_brace ps t h =
      opened_stands l w None (ps ++ (i ∷ [])) (open_more (extends_layout None then token (symbol OpenBrace) then nothing) (i ∷ []) h (behind [] (i ∷ []) refl (stand_one (symbol OpenBrace) i t)))
  named_stands l w i _ ps t h = tt

  behind_parent_stands : (l : Lead Span) (w : Word Span) (s : T.State Span) (i : Placed Span) (q : Cue) (ps : Tokens) → i.token ≡ cue_token q → StoodClass (in_parent l w s) ps
      → After ps i (option_and_then (C.behind_parent Span S join fresh is_fresh step member_whole l w q) (T.whole s))
  behind_parent_stands l w (T.have ty) i q ps t h =
      open_brace_both q (C.opened Span S join fresh is_fresh step member_whole l w (Some ty)) (Next ps i)
      (λ c. opened_stands l w (Some ty) (ps ++ (i ∷ []))
      (opens (extends_layout (Some ty) then token (symbol OpenBrace) then nothing)
      (grow (i ∷ []) h (λ b k. behind b (i ∷ []) (mapped k (λ x m. stand_last (type_layout ty) x m.stands)) (stand_one (symbol OpenBrace) i c)))))
      (λ k c. tt) t
  behind_parent_stands l w (T.want b) i q ps t h = tt
  behind_parent_stands l w (T.dotted o) i q ps t h = tt

  parent_stands : (l : Lead Span) (w : Word Span) (s : T.State Span) (i : Placed Span) (q : Cue) (ps : Tokens) → i.token ≡ cue_token q → StoodClass (in_parent l w s) ps
      → After ps i (C.from_parent Span S join fresh is_fresh step member_whole l w s i.mark q)
  parent_stands l w s i q ps t h =
      inner_both (in_parent l w) (option_and_then (C.behind_parent Span S join fresh is_fresh step member_whole l w q) (T.whole s)) (T.cue_step join s i.mark q) (After ps i)
      (λ n e. grow (i ∷ []) h (λ b k. grow (i ∷ []) k (λ c g. at_some (T.cue_step join s i.mark q) n (λ (n : T.State Span). StoodType n (c ++ (i ∷ []))) e (type_step_stands s i q c t g))))
      (λ _. behind_parent_stands l w s i q ps t h)

  -- ---- members

  members_with : (ds : Members Span) (d : Member Span) (a b : Tokens) → Stands (members_layout ds) a → Stands (member_layout d) b → Stands (members_layout (with_member ds d)) (a ++ b)
  members_with end d a b h k = subst (λ (c : Tokens). Stands (members_layout (more d end)) (c ++ b)) (sym h) (alone k (behind [] [] refl refl))
  members_with (more e ds) d a b h k = grow b h (λ c g. stand_last (members_layout (with_member ds d)) (c ++ b) (members_with ds d c b (last_stands (members_layout ds) c g) k))

  read_stands : (h : Head Span) (all : Members Span) (s n : S) (i : Placed Span) (ps : Tokens) → StoodClass (in_members h all s) ps → member_step h.word.text s i ≡ Some n
      → StoodClass (C.member_read Span S join fresh is_fresh step member_whole h all n) (ps ++ (i ∷ []))
  read_stands h all s n i ps k e = go (member_whole n) refl
    where
      reached : (c : Tokens) → member_run h.word.text fresh c ≡ Some s → member_run h.word.text fresh (c ++ (i ∷ [])) ≡ Some n
      reached c r = span_run_one S (Member Span) (member_step h.word.text) member_whole fresh s n c i r e

      go : (o : Option (Member Span)) → member_whole n ≡ o → StoodClass (unwrap_or (option_map (C.behind_member Span S join fresh is_fresh step member_whole h all) o) (in_members h all n)) (ps ++ (i ∷ []))
      go None w = grow (i ∷ []) k (λ b g. grow (i ∷ []) g (λ c r. reached c r))
      go (Some d) w =
          grow (i ∷ []) k (λ b g. alone
          (joined (Stands (members_layout (with_member all d)))
          (grow {R = Stands (member_layout d)} (i ∷ []) g (λ c r. laws.builds h.word.text (c ++ (i ∷ [])) n d (reached c r) w))
          (λ x y f r. members_with all d x y f r))
          refl)

  closed_stands : (h : Head Span) (all : Members Span) (s : S) (i : Placed Span) (q : Cue) (ps : Tokens) → i.token ≡ cue_token q → StoodClass (in_members h all s) ps
      → After ps i (C.closed Span S join fresh is_fresh step member_whole h all s i.mark q)
  closed_stands h all s i q ps t k =
      cond_both (is_fresh s) (at_close_brace q (done (class_of join h i.mark all))) None (After ps i)
      (λ f. close_brace_both q (done (class_of join h i.mark all)) (Next ps i)
      (λ c. closes i.mark (members_layout all then token (symbol CloseBrace) then nothing) (grow (i ∷ []) k (λ b g. ended_at i b (behind b (i ∷ []) (whole_list f b g) (stand_one (symbol CloseBrace) i c)))))
      (λ k c. tt) t)
      (λ _. tt)
    where
      whole_list : is_fresh s ≡ true → (b : Tokens) → InOrder (Stands (members_layout all)) (λ (b : Tokens). member_run h.word.text fresh b ≡ Some s) b → Stands (members_layout all) b
      whole_list f b g =
          joined (Stands (members_layout all)) g
          (λ x y r e. subst (Stands (members_layout all)) (sym (ap (λ (z : Tokens). x ++ z) (laws.unread h.word.text y (e ∙ ap (λ (n : S). Some n) (laws.fresh_is s f))) ∙ append-nil x)) r)

  members_stands : (h : Head Span) (all : Members Span) (s : S) (i : Placed Span) (q : Cue) (ps : Tokens) → i.token ≡ cue_token q → StoodClass (in_members h all s) ps
      → After ps i (C.from_members Span S join fresh is_fresh step member_whole h all s i.mark i.token q)
  members_stands h all s i q ps t k =
      inner_both (C.member_read Span S join fresh is_fresh step member_whole h all) (C.closed Span S join fresh is_fresh step member_whole h all s i.mark q) (member_step h.word.text s i) (After ps i)
      (λ n e. read_stands h all s n i ps k e)
      (λ _. closed_stands h all s i q ps t k)

  cue_stands : (s : State Span S) (i : Placed Span) (q : Cue) (ps : Tokens) → i.token ≡ cue_token q → StoodClass s ps → After ps i (C.cue_step Span S join fresh is_fresh step member_whole s i.mark i.token q)
  cue_stands (modified ms) i q ps t h = modified_stands ms i q ps t h
  cue_stands (at_class l) i q ps t h = at_class_stands l i q ps t h
  cue_stands (named l w) i q ps t h = named_stands l w i q ps t h
  cue_stands (in_parent l w s) i q ps t h = parent_stands l w s i q ps t h
  cue_stands (in_members r all s) i q ps t h = members_stands r all s i q ps t h
  cue_stands (done c) i q ps t h = tt

  pub class_step_stands : (s : State Span S) (i : Placed Span) (ps : Tokens) → StoodClass s ps → IfSome (C.step Span S join fresh is_fresh step member_whole s i.mark i.token) (λ (n : State Span S). StoodClass n (ps ++ (i ∷ [])))
  class_step_stands s i ps h = cue_stands s i (cue_of i.token) ps (sym (cue_back i.token)) h

  pub class_whole_stands : (s : State Span S) (c : Class Span) (ps : Tokens) → StoodClass s ps → whole s ≡ Some c → Whole (class_layout c) (class_mark c) ps
  class_whole_stands (done d) c ps h k = subst (λ (r : Class Span). Whole (class_layout r) (class_mark r) ps) (same_Some d c k) h
  class_whole_stands _ c ps h k = absurd cc
