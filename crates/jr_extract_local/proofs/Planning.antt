-- What is planned, and what is refused, of a target: the list of its statement becomes this, so the program does
-- (`jr_untouched_parts: extracts_are_whole`).
use Rattle.std.proofs.Common.{◌≡◌, ◌≢◌, ℕ, ◌<◌, List, [], ◌++◌, length, map, Option, Some, None, refl, sym, ap, subst, ◌∙◌}
use Rattle.std.specs.Prelude.{option_map, option_to_list, slice_get}
use Rattle.std.proofs.lemmas.Option.{slice_get_within}
use Rattle.jr_text.specs.declared.spans.Span.{Span}
use Rattle.jr_text.specs.Edits.{Entry}
use Rattle.jr_ast.specs.StatementTree as statement
use Rattle.jr_ast.specs.Tree as tree
use Rattle.jr_table.specs.Decls.{Decl}
use Rattle.jr_names.specs.Refusals.{Refusal, lost_binding}
use Rattle.jr_names.specs.Replies.{Outcome, planned, not_planned}
use Rattle.jr_names.specs.Sites.{DepPair}
use Rattle.jr_lex.specs.Replacing.{IsName}
use Rattle.jr_bind.specs.Programs.{Program}
use Rattle.jr_rewrite.specs.Respellings.{Loss, Change}
use Rattle.jr_rewrite.specs.Rewritten.{Rewritten}
use Rattle.jr_rewrite.specs.Edited.{AreInOrder, entries_of}
use Rattle.jr_rewrite.specs.ChangeView.{changes_of}
use Rattle.jr_rewrite.specs.declared.changes.Change as raw_change
use Rattle.jr_plan.specs.Transforms.{Lost, kept_lost, all_lost}
use Rattle.jr_plan.specs.Reasons.{IsFirstLost, IsPlanned, IsRefused, loses, by_itself}
use Rattle.jr_new_words.specs.declared.choices.Lost as raw_lost
use Rattle.jr_new_words.specs.ChoiceView.{lost_of}
use Rattle.jr_new_bodies.specs.Effects.{Effect, effect_of}
use Rattle.jr_new_bodies.specs.OutputView.{gathered, losses_in}
use Rattle.jr_local.specs.Extracted.{Found, extract_local, lost_type}
use Rattle.jr_local_parts.specs.Answers.{AreFileEdits, IsFirst}
use Rattle.jr_untouched_parts.specs.Around.{IsWhole}
use Rattle.jr_untouched_parts.specs.Locals.{ExtractsAreWhole, ExtractsAreInOrder}
use Rattle.jr_extract_lists.specs.declared.targets.Target as raw
use Rattle.jr_extract_lists.specs.declared.walks.ListOutput as raw_list
use Rattle.jr_extract_lists.specs.declared.walks.StatementPlace as raw_place
use Rattle.jr_extract_lists.specs.Targets.{IsTarget}
use Rattle.jr_extract_lists.specs.Walked.{it, HasPlace, IsKeptList, IsOfList, Listed, Puts}
use Rattle.jr_extract_local.specs.Moves.{IsLost}
use Rattle.jr_extract_local.specs.Plans.{AnswersFound}
use Rattle.jr_extract_local.proofs.FirstLosses as losses

module _ (p : Program Span) (t : raw.Target) (x : IsTarget p t) where
  abbrev file : ℕ
  file = t.request.file

  abbrev from : ℕ
  from = t.request.from

  abbrev to : ℕ
  to = t.request.to

  abbrev name : List ℕ
  name = t.request.name.now

  -- the file is there
  pub in_files : file < length p.files
  in_files = slice_get_within p.files file x.text.0 x.text.1

  module _ (type : Rewritten (tree.TypeName Span)) (o : Rewritten (statement.Stmts Span)) (becomes : Puts x type o) where
    abbrev found : Found p file from to name
    found = record {
      selected = it x;
      free = x.found.free;
      text = t.text.now;
      items = t.items.now;
      is_text = x.text;
      lexes = x.lexes;
      type = type;
      writes = becomes.writes;
    }

    abbrev Whole : Type 0
    Whole = IsWhole p ((extract_local p file from to name).transform found) (lost_type p file from to name found) file o

    whole : ExtractsAreWhole → Whole
    whole law = law p x.program file from to name found o becomes.puts

    in_order : ExtractsAreInOrder → IsName name → type.losses ≡ [] → AreInOrder 0 o.changes
    in_order law is none = law p x.program file from to name is found none o becomes.puts

    -- ---- nothing is lost

    abbrev plan : Whole → type.losses ≡ [] → o.losses ≡ [] → (edits : List (List Entry)) → AreFileEdits (length p.files) file (entries_of o.changes) edits → (respelled : ℕ) → respelled ≡ o.respelled → IsPlanned p (extract_local p file from to name) edits [] respelled
    plan w no_type none edits are respelled counted = record {
      found = found;
      dispatch = w.dispatch;
      becomes = w.becomes;
      kept_all = w.lost ∙ (λ i. kept_lost file (none i) ++ map (losses.made_lost file) (no_type i));
      edits_are = w.edits edits are.many are.own are.others;
      renaming_is = sym w.renaming;
      respelled_is = counted ∙ sym w.respelled;
    }

    -- ---- something is

    refused : Whole → (other : Option Loss) → map (losses.made_lost file) (option_to_list other) ≡ lost_type p file from to name found → (l : Loss) → IsFirst o.losses other (Some l)
        → IsRefused p (extract_local p file from to name) (lost_binding (record { file = file; at = l.at }) l.declaration l.found)
    refused w other same l first =
        let told = losses.told file o.losses other l first in
        let all : kept_lost file o.losses ++ map (losses.made_lost file) (option_to_list other) ≡ all_lost w.becomes.files w.becomes.also_lost = ap (λ (ls : List Lost). kept_lost file o.losses ++ ls) same ∙ sym w.lost in
        loses found w.dispatch
        (w.becomes, told.lost, subst (λ (ls : List Lost). IsFirstLost ls told.lost) all told.first, (λ i. lost_binding (record { file = sym told.in_file i; at = (sym told.loss_is i).at }) (sym told.loss_is i).declaration (sym told.loss_is i).found))

  -- ---- as calls have them

  -- changes of a list in which nothing is lost are in order
  pub are_in_order : ExtractsAreInOrder → IsName name → (changes : List raw_change.Change) (n : ℕ) → IsKeptList x changes n → AreInOrder 0 (changes_of changes)
  are_in_order law is changes n k = subst (AreInOrder 0) (sym k.changes_are) (in_order k.type k.o k.becomes law is k.kept_type)

  pub plans : ExtractsAreWhole → (changes : List raw_change.Change) (n : ℕ) → IsKeptList x changes n → (count : ℕ) → count ≡ length p.files → (edits : List (List Entry)) → AreFileEdits count file (entries_of (changes_of changes)) edits → (respelled : ℕ) → respelled ≡ n
      → (lost : Option DepPair) → IsLost x lost → AnswersFound p t (planned edits [] respelled lost)
  plans law changes n k count many edits are respelled counted lost told =
      let here : AreFileEdits (length p.files) file (entries_of k.o.changes) edits = subst (λ (cs : List Change). AreFileEdits (length p.files) file (entries_of cs) edits) k.changes_are (subst (λ (c : ℕ). AreFileEdits c file (entries_of (changes_of changes)) edits) many are) in
      (plan k.type k.o k.becomes (whole k.type k.o k.becomes law) k.kept_type k.kept edits here respelled (counted ∙ k.respelled_is), told)

  made_of_type : (l : Option raw_lost.Lost) (ls : List Loss) → map lost_of (option_to_list l) ≡ ls → option_to_list (option_map lost_of l) ≡ ls
  made_of_type None ls e = e
  made_of_type (Some l) ls e = e

  module _ (piece : Effect) (l : raw_list.ListOutput) (h : Listed x piece l) where
    losses_are : losses_in l.out.losses.items ≡ h.o.losses
    losses_are = ap (λ (e : Effect). e.losses) h.out

    pub refuses : ExtractsAreWhole → (kept : List raw_lost.Lost) → kept ≡ l.out.losses.items → (first : Loss) → IsFirst (losses_in kept) (option_map lost_of l.lost) (Some first)
        → AnswersFound p t (not_planned (lost_binding (record { file = file; at = first.at }) first.declaration first.found))
    refuses law kept same first is =
        let here : IsFirst h.o.losses (option_map lost_of l.lost) (Some first) = subst (λ (ls : List Loss). IsFirst ls (option_map lost_of l.lost) (Some first)) (ap losses_in same ∙ losses_are) is in
        refused h.type h.o h.becomes (whole h.type h.o h.becomes law) (option_map lost_of l.lost) (ap (map (losses.made_lost file)) (made_of_type l.lost h.type.losses h.lost)) first here

    none_of_type : (o : Option raw_lost.Lost) (ls : List Loss) → map lost_of (option_to_list o) ≡ ls → option_map lost_of o ≡ None → ls ≡ []
    none_of_type None ls e none = sym e
    none_of_type (Some y) ls e none = absurd cc

    pub keeps : IsFirst (losses_in l.out.losses.items) (option_map lost_of l.lost) None → IsKeptList x l.out.changes.items l.out.respelled
    keeps none = record {
      type = h.type;
      o = h.o;
      becomes = h.becomes;
      kept_type = none_of_type l.lost h.type.losses h.lost none.1;
      kept = sym losses_are ∙ none.0;
      changes_are = ap (λ (e : Effect). e.changes) h.out;
      respelled_is = ap (λ (e : Effect). e.respelled) h.out;
    }

-- of some target of the program, as calls ask it
pub some_place : (p : Program Span) (t : raw.Target) (at : raw_place.StatementPlace) (changes : List raw_change.Change) (n : ℕ) → IsOfList p t at changes n → HasPlace t at
some_place p t at changes n (x, place, kept) = (p, (x, place))
