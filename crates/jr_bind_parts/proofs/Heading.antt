-- What the head of a class notes, by numbers, is what is said by keys.
use Rattle.std.proofs.Common.{◌≡◌, ℕ, List, [], ◌∷◌, ◌++◌, ◌+◌, ◌<◌, ◌≤◌, length, get_or, drop, map, Option, Some, None, Bool, true, false, cond, refl, sym, ap, ◌∙◌, append_assoc}
use Rattle.std.proofs.lemmas.List.{map-append, drop_more, drop_all}
use Rattle.std.specs.Prelude.{slice_get, option_map, option_and_then, is_some, not, ◌&&◌}
use Rattle.jr_ast.specs.Tree as tree
use Rattle.jr_ast.specs.MemberTree as syntax
use Rattle.jr_ast.specs.Marks.{type_mark}
use Rattle.jr_ast.specs.declared.parts.TypeRef.{TypeRef}
use Rattle.jr_ast.specs.declared.parts.TypeKind.{TypeKind}
use Rattle.jr_ast.specs.declared.parts.TypeKind.TheVariants as kind
use Rattle.jr_ast.specs.declared.members.Member.{Member}
use Rattle.jr_ast.specs.View.{type_of, type_kind, member_of, members_of}
use Rattle.jr_table.specs.declared.answers.Answer.{Answer}
use Rattle.jr_table.specs.declared.answers.Answer.TheVariants.{One, Nothing}
use Rattle.jr_table.specs.declared.rules.Rule.{Rule}
use Rattle.jr_table.specs.declared.rules.Rule.TheVariants as rule
use Rattle.jr_table.specs.Keys.{ClassKey}
use Rattle.jr_table.specs.Decls.{MemberKey, head, class_decl}
use Rattle.jr_table.specs.Rows.{Row}
use Rattle.jr_table.specs.Prelude.{top_key}
use Rattle.jr_table.specs.Found.{Found, one, nothing, many, not_accessible, from_static}
use Rattle.jr_table.specs.Conditions.{AreRows, as_superclass, as_outer}
use Rattle.jr_table.specs.Entries.{number_of, class_number, entry_of, entries_of, top_class, outer_name}
use Rattle.jr_table.specs.Chains.{parent_of, outer_of}
use Rattle.jr_table.specs.Lookup.{shown_one, shown}
use Rattle.jr_table.specs.Context.{scope_of}
use Rattle.jr_table.specs.HeadRules.{plain}
use Rattle.jr_table.specs.DeclaredItems.{writes_ctor}
use Rattle.jr_table.specs.Meanings.{row_of, superclass_of, own_superclass, type_references}
use Rattle.jr_table.specs.Notes.{breaks, when, test_found}
use Rattle.jr_table.specs.HeadNotes.{top_found, declared_notes, parent_references, is_final_super, lacks_super_ctor, head_notes}
use Rattle.jr_table.proofs.RowLaws.{the_number, number_stands, entry_at}
use Rattle.jr_bind_expr.specs.declared.args.Args as raw_args
use Rattle.jr_bind_expr.specs.declared.findings.Note as raw
use Rattle.jr_bind_expr.specs.declared.findings.Note.TheVariants.{Breaks}
use Rattle.jr_bind_expr.specs.ArgsView.{kinds_of}
use Rattle.jr_bind_expr.specs.Arms.{PutsWhen, ctor_answer, one_decl}
use Rattle.jr_bind_expr.specs.Findings.{note_of}
use Rattle.jr_bind_expr.specs.Logs.{notes_of}
use Rattle.jr_bind_parts.specs.Heads.{is_final_at, is_ctor_member, parent_notes, PutsOfClass, PutsTop, IsSuperCtor, IsLacking}
use Rattle.jr_bind_parts.specs.DeclaredTypes.{PutsReferences}
use Rattle.jr_bind_expr.proofs.Scoped.{class_is}
use Rattle.jr_bind_expr.proofs.Numbers.{ctors_are}

module _ (rows : List Row) where
  pub top_none : (name : List ℕ) → number_of rows (top_class name) ≡ None → shown rows Nothing ≡ top_found rows name
  unfolding shown
  top_none name h = sym (ap (λ o. cond (is_some o) (one (top_class name)) nothing) h)

  pub top_some : (name : List ℕ) (j : ℕ) → number_of rows (top_class name) ≡ Some j → shown rows (One j) ≡ top_found rows name
  unfolding shown
  top_some name j h =
      let r = number_stands rows (top_class name) j h in
      ap (λ o. shown_one one (option_map (λ (x : Row). x.decl) o)) r.stands ∙ ap one r.declares
      ∙ sym (ap (λ o. cond (is_some o) (one (top_class name)) nothing) h)

  -- one note of a rule more, or none
  pub puts_when : (m : MemberKey) (is_broken : Bool) (at : ℕ) (r : Rule) (old new : List raw.Note) → PutsWhen is_broken at r old new → notes_of rows m new ≡ notes_of rows m old ++ when is_broken (breaks at r)
  puts_when m is_broken at r old new h = ap (map (note_of rows m)) h ∙ map-append (note_of rows m) old _ ∙ ap (λ ns. notes_of rows m old ++ ns) (by is_broken)
    where
      by : (b : Bool) → map (note_of rows m) (cond b (Breaks at r ∷ []) []) ≡ when b (breaks at r)
      by true = refl
      by false = refl

  -- the row of a class
  module _ (k : ClassKey) (j : ℕ) (here : number_of rows (class_decl k) ≡ Some j) where
    pub final_is : is_final_at rows (parent_of (entries_of rows) j) ≡ is_final_super rows (superclass_of rows k)
    unfolding row_of
    final_is = ap (λ e. is_final_at rows (option_and_then (λ x. x.parent) e)) (entry_at rows j) ∙ by (slice_get rows j)
        ∙ sym (ap (λ o. is_final_super rows (option_and_then (λ (r : Row). r.parent) (option_and_then (λ n. slice_get rows n) o))) here)
      where
        up : (o : Option ClassKey) → is_final_at rows (option_and_then (λ p. number_of rows (class_decl p)) o) ≡ is_final_super rows o
        up None = refl
        up (Some p) = refl

        by : (o : Option Row) → is_final_at rows (option_and_then (λ x. x.parent) (option_map (entry_of rows) o)) ≡ is_final_super rows (option_and_then (λ (r : Row). r.parent) o)
        by None = refl
        by (Some r) = up r.parent

    -- the superclass, and the class around
    module _ (are : AreRows rows) where
      pub parent_is : parent_of (entries_of rows) j ≡ option_map (class_number rows) (superclass_of rows k)
      unfolding row_of
      parent_is = ap (option_and_then (λ x. x.parent)) (entry_at rows j) ∙ by (slice_get rows j) refl
          ∙ sym (ap (λ o. option_map (class_number rows) (option_and_then (λ (r : Row). r.parent) (option_and_then (λ n. slice_get rows n) o))) here)
        where
          named : (r : Row) → slice_get rows j ≡ Some r → (o : Option ClassKey) → r.parent ≡ o → option_and_then (λ p. number_of rows (class_decl p)) o ≡ option_map (class_number rows) o
          named r at None e = refl
          named r at (Some p) e = let n = are.named j r p at (as_superclass e) in let is = the_number rows are (class_decl p) n.0 n.1 in is ∙ ap Some (sym (class_is rows p n.0 is))

          by : (o : Option Row) → slice_get rows j ≡ o → option_and_then (λ x. x.parent) (option_map (entry_of rows) o) ≡ option_map (class_number rows) (option_and_then (λ (r : Row). r.parent) o)
          by None e = refl
          by (Some r) e = named r e r.parent refl

      pub outer_is : outer_of (entries_of rows) j ≡ option_map (λ name. class_number rows (top_key name)) k.outer
      outer_is =
          let r = number_stands rows (class_decl k) j here in
          ap (option_and_then (λ x. x.outer)) (entry_at rows j ∙ ap (option_map (entry_of rows)) r.stands)
          ∙ named r.row r.stands (outer_name r.row.decl) refl ∙ ap (λ d. option_map (λ name. class_number rows (top_key name)) (outer_name d)) r.declares
        where
          named : (r : Row) → slice_get rows j ≡ Some r → (o : Option (List ℕ)) → outer_name r.decl ≡ o
              → option_and_then (λ name. number_of rows (top_class name)) o ≡ option_map (λ name. class_number rows (top_key name)) o
          named r at None e = refl
          named r at (Some name) e = let n = are.named j r (top_key name) at (as_outer name e refl) in let is = the_number rows are (top_class name) n.0 n.1 in is ∙ ap Some (sym (class_is rows (top_key name) n.0 is))

  -- constructors of the superclass
  pub super_is : AreRows rows → (class : ℕ) (args : raw_args.Args) (a : Answer) → a ≡ ctor_answer rows class (parent_of (entries_of rows) class) (kinds_of args) → IsSuperCtor rows class args a
  super_is are class args a is = λ c ts here kinds.
      ap (shown rows) (is ∙ (λ i. ctor_answer rows class (parent_is (scope_of c).class class here are i) (kinds i)))
      ∙ ctors_are rows (scope_of c) class (class_is rows (scope_of c).class class here) (own_superclass rows c) ts

  one_test : (f : Found) → not (is_some (one_decl f)) ≡ not (test_found (λ d. true) f)
  one_test (one d) = refl
  one_test nothing = refl
  one_test (many d e) = refl
  one_test (not_accessible d) = refl
  one_test (from_static d) = refl

  pub lacking_is : (class : ℕ) (args : raw_args.Args) (a : Answer) (b : Bool) → kinds_of args ≡ Some [] → IsSuperCtor rows class args a → b ≡ not (is_some (one_decl (shown rows a))) → IsLacking rows class b
  lacking_is class args a b none is h = λ c here.
      h ∙ ap (λ f. not (is_some (one_decl f))) (is c (Some []) here none) ∙ one_test _

module _ {A : Type 0} (B : A → ℕ → ℕ) (rows : List Row) where
  pub named_top : (are : AreRows rows) (class base : ℕ) (t : tree.TypeName A) (old new : List raw.Note) → outer_of (entries_of rows) class ≡ None → PutsTop B rows base t old new
      → PutsOfClass rows class (λ k. declared_notes (parent_references B rows k.outer base t)) old new
  named_top are class base t old new none h = λ m k here.
      h m ∙ ap (λ o. notes_of rows m old ++ declared_notes (parent_references B rows o base t)) (by k.outer (sym none ∙ outer_is rows k class here are))
    where
      by : (o : Option (List ℕ)) → None ≡ option_map (λ name. class_number rows (top_key name)) o → None ≡ o
      by None e = refl
      by (Some name) e = absurd cc

  pub named_inner : (are : AreRows rows) (class outer base : ℕ) (t : tree.TypeName A) (old new : List raw.Note) → outer_of (entries_of rows) class ≡ Some outer
      → PutsReferences rows outer (λ c. type_references B rows c base t) old new
      → PutsOfClass rows class (λ k. declared_notes (parent_references B rows k.outer base t)) old new
  named_inner are class outer base t old new some h = λ m k here. by m k.outer (sym some ∙ outer_is rows k class here are)
    where
      by : (m : MemberKey) (o : Option (List ℕ)) → Some outer ≡ option_map (λ name. class_number rows (top_key name)) o → notes_of rows m new ≡ notes_of rows m old ++ declared_notes (parent_references B rows o base t)
      by m None e = absurd cc
      by m (Some name) e = let same : class_number rows (top_key name) ≡ outer = cc in h m (plain (head (top_key name)) false) same

  pub with_final : (class at : ℕ) (t : tree.TypeName A) (place : ℕ) (is_broken : Bool) (old mid new : List raw.Note)
      → PutsOfClass rows class (λ k. declared_notes (parent_references B rows k.outer at t)) old mid
      → is_broken ≡ is_final_at rows (parent_of (entries_of rows) class) → place ≡ B (type_mark t) at
      → PutsWhen is_broken place rule.FinalClass mid new
      → PutsOfClass rows class (λ k. parent_notes B rows k at (Some t)) old new
  with_final class at t place is_broken old mid new h broken is put = λ m k here.
      puts_when rows m is_broken place rule.FinalClass mid new put
      ∙ (λ i. h m k here i ++ when ((broken ∙ final_is rows k class here) i) (breaks (is i) rule.FinalClass))
      ∙ append_assoc (notes_of rows m old) (declared_notes (parent_references B rows k.outer at t)) _

  pub head_is : (class base at : ℕ) (mark : A) (mods : List (syntax.Modifier A)) (w : tree.Word A) (t : Option (tree.TypeName A)) (ms : syntax.Members A) (place : ℕ) (writes lacks : Bool) (old mid new : List raw.Note)
      → at ≡ B mark base
      → PutsOfClass rows class (λ k. parent_notes B rows k at t) old mid
      → IsLacking rows class lacks → writes ≡ writes_ctor B ms → place ≡ B w.mark at
      → PutsWhen (not writes && lacks) place rule.SuperCtor mid new
      → PutsOfClass rows class (λ k. head_notes B rows k base (syntax.class mark mods w t ms)) old new
  head_is class base at mark mods w t ms place writes lacks old mid new start h lacking wrote is put = λ m k here.
      puts_when rows m (not writes && lacks) place rule.SuperCtor mid new put
      ∙ (λ i. h m k here i ++ when (not (wrote i) && lacking (plain (head k) false) here i) (breaks (is i) rule.SuperCtor))
      ∙ append_assoc (notes_of rows m old) (parent_notes B rows k at t) _
      ∙ (λ i. notes_of rows m old ++ (parent_notes B rows k (start i) t ++ when (not (writes_ctor B ms) && lacks_super_ctor rows (plain (head k) false)) (breaks (B w.mark (start i)) rule.SuperCtor)))
      ∙ by m k t
    where
      by : (m : MemberKey) (k : ClassKey) (t : Option (tree.TypeName A)) → notes_of rows m old ++ (parent_notes B rows k (B mark base) t ++ when (not (writes_ctor B ms) && lacks_super_ctor rows (plain (head k) false)) (breaks (B w.mark (B mark base)) rule.SuperCtor))
          ≡ notes_of rows m old ++ head_notes B rows k base (syntax.class mark mods w t ms)
      by m k None = refl
      by m k (Some u) = refl

-- marks and members

pub type_mark_is : {A : Type 0} (t : TypeRef A) → type_mark (type_of t) ≡ t.mark
type_mark_is {A} t = by t.kind
  where
    by : (k : TypeKind A) → type_mark (type_kind t.mark k) ≡ t.mark
    by kind.Int = refl
    by kind.Boolean = refl
    by (kind.Named o n) = refl

module _ {A : Type 0} (B : A → ℕ → ℕ) where
  members_left : (xs : List (Member A)) (i : ℕ) (x : Member A) → i < length xs → x ≡ get_or xs i x → members_of (drop i xs) ≡ syntax.more (member_of x) (members_of (drop (i + 1) xs))
  members_left xs i x lt is = ap members_of (drop_more xs i x lt) ∙ ap (λ (y : Member A). syntax.more (member_of y) (members_of (drop (i + 1) xs))) (sym is)

  here : (x : syntax.Member A) (xs : syntax.Members A) → is_ctor_member x ≡ true → true ≡ writes_ctor B (syntax.more x xs)
  here (syntax.constructor m mods w ps args body) xs h = refl
  here (syntax.field m mods t w init) xs h = absurd cc
  here (syntax.method m mods t w ps body) xs h = absurd cc
  here (syntax.inner m of) xs h = absurd cc

  behind : (x : syntax.Member A) (xs : syntax.Members A) → is_ctor_member x ≡ false → writes_ctor B xs ≡ writes_ctor B (syntax.more x xs)
  behind (syntax.constructor m mods w ps args body) xs h = absurd cc
  behind (syntax.field m mods t w init) xs h = refl
  behind (syntax.method m mods t w ps body) xs h = refl
  behind (syntax.inner m of) xs h = refl

  pub ctor_here : (xs : List (Member A)) (i : ℕ) (x : Member A) → i < length xs → x ≡ get_or xs i x → is_ctor_member (member_of x) ≡ true → true ≡ writes_ctor B (members_of (drop i xs))
  ctor_here xs i x lt is h = here (member_of x) (members_of (drop (i + 1) xs)) h ∙ ap (writes_ctor B) (sym (members_left xs i x lt is))

  pub ctor_behind : (xs : List (Member A)) (i : ℕ) (x : Member A) → i < length xs → x ≡ get_or xs i x → is_ctor_member (member_of x) ≡ false → writes_ctor B (members_of (drop (i + 1) xs)) ≡ writes_ctor B (members_of (drop i xs))
  ctor_behind xs i x lt is h = behind (member_of x) (members_of (drop (i + 1) xs)) h ∙ ap (writes_ctor B) (sym (members_left xs i x lt is))

  pub no_ctor : (xs : List (Member A)) (i : ℕ) → length xs ≤ i → false ≡ writes_ctor B (members_of (drop i xs))
  no_ctor xs i past = ap (λ (ys : List (Member A)). writes_ctor B (members_of ys)) (sym (drop_all i xs past))
