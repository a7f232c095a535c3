-- The steps of a show, from what its body finds.
use Rattle.std.proofs.Common.{◌≡◌, ◌⊎◌, ℕ, ◌+◌, ◌<◌, ◌≤◌, List, refl, sym, ap, subst, ◌∙◌, inl, inr, arith}
use Rattle.jr_names.specs.declared.steps.Step.{Step}
use Rattle.jr_names.specs.declared.steps.Step.TheVariants as step
use Rattle.jr_names.specs.declared.steps.What.{What}
use Rattle.jr_names.specs.declared.steps.What.TheVariants as what
use Rattle.jr_table.specs.Decls.{MemberKey}
use Rattle.jr_names.specs.Replies.{shown}
use Rattle.jr_names.specs.Refusals.{Refusal, no_such_file, bad_place, bad_name, source_error, bad_target, prelude_method, conditional, has_return, two_results, many_targets, may_be_null, recursive, assigned, clash, override_changed, lost_binding, would_not_compile, lost_dependence, bad_span, too_long, nothing_to_undo, nothing_to_redo, report_full, too_many_sites}
use Rattle.jr_lines.specs.Lines.{bytes_of}
use Rattle.jr_sources.specs.Sources.{LacksFile, IsFile, Differ}
use Rattle.jr_session.specs.States.{State}
use Rattle.jr_sources.specs.FirstFault.{IsFirstFaultOf}
use Rattle.jr_session.specs.Dependences.{AreDependenceTexts, IsLargeMember}
use Rattle.jr_session.specs.Shows.{AreShownTexts, shown_limit}
use Rattle.jr_session.specs.Refusing.{Applies, IsShowOf, WouldShow, MeetsLarge, IsFirstRefusal, IsGranted, rank_of}
use Rattle.jr_session.specs.Stepping.{Steps}
use Rattle.jr_session.specs.StepLaws.{HasOneShow}
use Rattle.jr_session.proofs.EditLaws.{one_number, lacks_none, name_of_file}

abbrev pub the_show : List ℕ → What → Step
the_show file of = step.Show file of

abbrev pub IsFull : State → (file : List ℕ) → What → Refusal → Type 0
IsFull s file of r = (len : ℕ) × (r ≡ report_full len) × ((lines : List (List ℕ)) × WouldShow s (the_show file of) lines × (shown_limit < s.shown + bytes_of lines) × (len ≡ s.shown + bytes_of lines))

abbrev pub MayRefuseShow : State → (file : List ℕ) → What → Refusal → Type 0
MayRefuseShow s file of r = ((r ≡ no_such_file file) × LacksFile s.files file)
    ⊎ (((name : List ℕ) × (at : ℕ) × (kind : List ℕ) × (r ≡ source_error name at kind) × IsFirstFaultOf s.files name at kind)
    ⊎ (((member : MemberKey) × (count : ℕ) × (r ≡ too_many_sites member count) × MeetsLarge s (the_show file of) member count)
    ⊎ IsFull s file of r))

pub no_edit : (file other text : List ℕ) (of : What) (from to : ℕ) → the_show file of ≡ step.Edit other from to text → ⊥
no_edit file other text of from to e = cc

pub no_undo : (file : List ℕ) (of : What) → the_show file of ≡ step.Undo → ⊥
no_undo file of e = cc

pub no_redo : (file : List ℕ) (of : What) → the_show file of ≡ step.Redo → ⊥
no_redo file of e = cc

pub show_refusals : (s : State) (file : List ℕ) (of : What) (r : Refusal) → Applies s (the_show file of) r → MayRefuseShow s file of r
show_refusals s file of (no_such_file a) h = inl (ap no_such_file h.0, subst (LacksFile s.files) h.0 h.1)
show_refusals s file of (bad_place a b) h = absurd h
show_refusals s file of (bad_name a) h = absurd h
show_refusals s file of (source_error a b d) h = inr (inl (a, b, d, refl, h.1))
show_refusals s file of (bad_target a b) h = absurd h
show_refusals s file of (prelude_method a) h = absurd h
show_refusals s file of (conditional a) h = absurd h
show_refusals s file of (has_return a) h = absurd h
show_refusals s file of (two_results a b) h = absurd h
show_refusals s file of (many_targets a b) h = absurd h
show_refusals s file of (may_be_null a) h = absurd h
show_refusals s file of (recursive a) h = absurd h
show_refusals s file of (assigned a b) h = absurd h
show_refusals s file of (clash a) h = absurd h
show_refusals s file of (override_changed a b) h = absurd h
show_refusals s file of (lost_binding a b d) h = absurd h
show_refusals s file of (would_not_compile a b) h = absurd h
show_refusals s file of (lost_dependence a b d) h = absurd h
show_refusals s file of (bad_span f t) h = absurd (no_edit file h.edit.file h.text of f t h.edit.is)
show_refusals s file of (too_long len) h = absurd (no_edit file h.1.edit.file h.1.text of h.1.span.from h.1.span.to h.1.edit.is)
show_refusals s file of nothing_to_undo h = absurd (no_undo file of h.0)
show_refusals s file of nothing_to_redo h = absurd (no_redo file of h.0)
show_refusals s file of (report_full a) h = inr (inr (inr (a, refl, h)))
show_refusals s file of (too_many_sites a b) h = inr (inr (inl (a, b, refl, h)))

-- ---- its lines

same_file : (file other : List ℕ) (of it : What) → the_show file of ≡ the_show other it → other ≡ file
same_file file other of it e = cc

same_what : (file other : List ℕ) (of it : What) → the_show file of ≡ the_show other it → it ≡ of
same_what file other of it e = cc

bindings_only : what.Dependences ≡ what.Bindings → ⊥
bindings_only e = cc

-- a show is of one file, of which one thing is shown
one_shown : (s : State) (file : List ℕ) (of : What) → Differ s.files → (a b : What) (n m : ℕ) → IsShowOf s (the_show file of) a n → IsShowOf s (the_show file of) b m → n ≡ m
one_shown s file of differ a b n m g h =
    let x : IsFile s.files n file g.text = subst (λ (f : List ℕ). IsFile s.files n f g.text) (same_file file g.file of a g.is) g.stands in
    let y : IsFile s.files m file h.text = subst (λ (f : List ℕ). IsFile s.files m f h.text) (same_file file h.file of b h.is) h.stands in
    one_number s.files n m file differ (name_of_file s.files n file g.text x) (name_of_file s.files m file h.text y)

-- a show of a file has one list of lines
pub would_once : (s : State) (file : List ℕ) (of : What) → Differ s.files → HasOneShow → (xs ys : List (List ℕ)) → WouldShow s (the_show file of) xs → WouldShow s (the_show file of) ys → xs ≡ ys
would_once s file of differ once xs ys g h =
    let n : g.number ≡ h.number = one_shown s file of differ g.shown h.shown g.number h.number g.shows h.shows in
    let a : AreShownTexts s.files h.number of xs = subst (λ (k : ℕ). AreShownTexts s.files k of xs) n (subst (λ (w : What). AreShownTexts s.files g.number w xs) (same_what file g.shows.file of g.shown g.shows.is) g.lines_are) in
    let b : AreShownTexts s.files h.number of ys = subst (λ (w : What). AreShownTexts s.files h.number w ys) (same_what file h.shows.file of h.shown h.shows.is) h.lines_are in
    once.lines s.files h.number of xs ys a b

-- or one first member that is too large
pub large_once : (s : State) (file : List ℕ) (of : What) → Differ s.files → HasOneShow → (k l : MemberKey) (m n : ℕ) → MeetsLarge s (the_show file of) k m → MeetsLarge s (the_show file of) l n → (k ≡ l) × (m ≡ n)
large_once s file of differ once k l m n g h =
    let number : g.number ≡ h.number = one_shown s file of differ what.Dependences what.Dependences g.number h.number g.shows h.shows in
    once.large s.files h.number k l m n (subst (λ (i : ℕ). IsLargeMember s.files i k m) number g.large) h.large

-- and never both
pub lines_or_large : (s : State) (file : List ℕ) (of : What) → Differ s.files → HasOneShow → (xs : List (List ℕ)) (k : MemberKey) (n : ℕ) → WouldShow s (the_show file of) xs → MeetsLarge s (the_show file of) k n → ⊥
lines_or_large s file of differ once xs k n g h =
    let number : g.number ≡ h.number = one_shown s file of differ g.shown what.Dependences g.number h.number g.shows h.shows in
    let is : g.shown ≡ what.Dependences = same_what file g.shows.file of g.shown g.shows.is ∙ sym (same_what file h.shows.file of what.Dependences h.shows.is) in
    let a : AreDependenceTexts s.files h.number xs = subst (λ (i : ℕ). AreDependenceTexts s.files i xs) number (subst (λ (w : What). AreShownTexts s.files g.number w xs) is g.lines_are) in
    once.never_both s.files h.number xs k n a h.large

-- of bindings no member is too large
pub bindings_small : (s : State) (file : List ℕ) (k : MemberKey) (n : ℕ) → MeetsLarge s (the_show file what.Bindings) k n → ⊥
bindings_small s file k n h = bindings_only (same_what file h.shows.file what.Bindings what.Dependences h.shows.is)

-- ---- the file isn't there

pub show_missing : (s : State) (file : List ℕ) (of : What) → LacksFile s.files file → IsFirstRefusal s (the_show file of) (no_such_file file)
show_missing s file of lacks = record { applies = (refl, lacks); first = λ q h. by q (show_refusals s file of q h) }
  where
    by : (q : Refusal) → MayRefuseShow s file of q → 2 ≤ rank_of (the_show file of) q
    by q (inl h) = subst (λ (r : Refusal). 2 ≤ rank_of (the_show file of) r) (sym h.0) (omega arith)
    by q (inr (inl h)) = subst (λ (r : Refusal). 2 ≤ rank_of (the_show file of) r) (sym h.3) (omega arith)
    by q (inr (inr (inl h))) = subst (λ (r : Refusal). 2 ≤ rank_of (the_show file of) r) (sym h.2) (omega arith)
    by q (inr (inr (inr h))) = subst (λ (r : Refusal). 2 ≤ rank_of (the_show file of) r) (sym h.1) (omega arith)

-- ---- it is

module _ (s : State) (file text : List ℕ) (of : What) (number : ℕ) (stands : IsFile s.files number file text) where
  there : LacksFile s.files file → ⊥
  there lacks = lacks_none s.files number file text lacks stands

  shows : IsShowOf s (the_show file of) of number
  shows = record { file = file; is = refl; text = text; stands = stands }

  pub show_fault : (name : List ℕ) (at : ℕ) (kind : List ℕ) → IsFirstFaultOf s.files name at kind → IsFirstRefusal s (the_show file of) (source_error name at kind)
  show_fault name at kind fault = record { applies = (tt, fault); first = λ q h. by q (show_refusals s file of q h) }
    where
      by : (q : Refusal) → MayRefuseShow s file of q → 8 ≤ rank_of (the_show file of) q
      by q (inl h) = absurd (there h.1)
      by q (inr (inl h)) = subst (λ (r : Refusal). 8 ≤ rank_of (the_show file of) r) (sym h.3) (omega arith)
      by q (inr (inr (inl h))) = subst (λ (r : Refusal). 8 ≤ rank_of (the_show file of) r) (sym h.2) (omega arith)
      by q (inr (inr (inr h))) = subst (λ (r : Refusal). 8 ≤ rank_of (the_show file of) r) (sym h.1) (omega arith)

  module _ (clean : (name : List ℕ) (at : ℕ) (kind : List ℕ) → IsFirstFaultOf s.files name at kind → ⊥) where
    module _ (lines : List (List ℕ)) (are : AreShownTexts s.files number of lines)
        (small : (k : MemberKey) (n : ℕ) → MeetsLarge s (the_show file of) k n → ⊥) where
      would : WouldShow s (the_show file of) lines
      would = record { shown = of; number = number; shows = shows; lines_are = are }

      pub show_full : (len : ℕ) → shown_limit < s.shown + bytes_of lines → len ≡ s.shown + bytes_of lines → IsFirstRefusal s (the_show file of) (report_full len)
      show_full len beyond is = record { applies = (lines, would, beyond, is); first = λ q h. by q (show_refusals s file of q h) }
        where
          by : (q : Refusal) → MayRefuseShow s file of q → 46 ≤ rank_of (the_show file of) q
          by q (inl h) = absurd (there h.1)
          by q (inr (inl h)) = absurd (clean h.0 h.1 h.2 h.4)
          by q (inr (inr (inl h))) = absurd (small h.0 h.1 h.3)
          by q (inr (inr (inr h))) = subst (λ (r : Refusal). 46 ≤ rank_of (the_show file of) r) (sym h.1) (omega arith)

      module _ (differ : Differ s.files) (once : HasOneShow) where
        -- the lines of any show of the file are these
        only : (others : List (List ℕ)) → WouldShow s (the_show file of) others → others ≡ lines
        only others w = would_once s file of differ once others lines w would

        pub show_granted : s.shown + bytes_of lines ≤ shown_limit → IsGranted s (the_show file of)
        show_granted within r h = by r (show_refusals s file of r h)
          where
            by : (q : Refusal) → MayRefuseShow s file of q → ⊥
            by q (inl h) = there h.1
            by q (inr (inl h)) = clean h.0 h.1 h.2 h.4
            by q (inr (inr (inl h))) = small h.0 h.1 h.3
            by q (inr (inr (inr h))) =
                let lt : shown_limit < s.shown + bytes_of lines = subst (λ (ls : List (List ℕ)). shown_limit < s.shown + bytes_of ls) (only h.2.0 h.2.1) h.2.2 in
                omega (arith, lt, within)

        pub shown_step : (t : State) → s.shown + bytes_of lines ≤ shown_limit → t ≡ record { files = s.files; undo = s.undo; redo = s.redo; shown = s.shown + bytes_of lines } → Steps s (the_show file of) (shown lines) t
        shown_step t within e = (show_granted within, record { shows = would; becomes = e })

    -- a member is too large
    pub show_large : (is : of ≡ what.Dependences) (member : MemberKey) (count : ℕ) → IsLargeMember s.files number member count → IsFirstRefusal s (the_show file of) (too_many_sites member count)
    show_large is member count large = record {
      applies = record { number = number; shows = subst (λ (w : What). IsShowOf s (the_show file of) w number) is shows; large = large };
      first = λ q h. by q (show_refusals s file of q h);
    }
      where
        by : (q : Refusal) → MayRefuseShow s file of q → 9 ≤ rank_of (the_show file of) q
        by q (inl h) = absurd (there h.1)
        by q (inr (inl h)) = absurd (clean h.0 h.1 h.2 h.4)
        by q (inr (inr (inl h))) = subst (λ (r : Refusal). 9 ≤ rank_of (the_show file of) r) (sym h.2) (omega arith)
        by q (inr (inr (inr h))) = subst (λ (r : Refusal). 9 ≤ rank_of (the_show file of) r) (sym h.1) (omega arith)

-- where a show of dependences has lines, no member is too large
pub lines_small : (s : State) (file text : List ℕ) (number : ℕ) (stands : IsFile s.files number file text) → Differ s.files → HasOneShow → (lines : List (List ℕ)) → AreDependenceTexts s.files number lines
    → (k : MemberKey) (n : ℕ) → MeetsLarge s (the_show file what.Dependences) k n → ⊥
lines_small s file text number stands differ once lines are k n h =
    lines_or_large s file what.Dependences differ once lines k n (record { shown = what.Dependences; number = number; shows = shows s file text what.Dependences number stands; lines_are = are }) h
