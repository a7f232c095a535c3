-- What the machines say of the trees.
use Rattle.std.proofs.Common.{◌≡◌, ℕ, List, Option, Some, None, refl, sym, ap, ◌∙◌}
use Rattle.std.specs.Prelude.{option_and_then, MatchOption}
use Rattle.jr_ast.specs.StatementTree.{Stmts}
use Rattle.jr_ast.specs.MemberTree.{Member, Unit as UnitTree}
use Rattle.jr_grammar.specs.Tokens.{Token}
use Rattle.jr_grammar.specs.StatementSpelling.{stmts_toks}
use Rattle.jr_grammar.specs.StatementShape.{StmtsShaped}
use Rattle.jr_grammar.specs.MemberSpelling.{member_toks, unit_toks}
use Rattle.jr_grammar.specs.MemberShape.{MemberShaped, UnitShaped}
use Rattle.jr_grammar.specs.Units.{OneUnit, OneMember, IsLongestMember, HasNoMember, OneList}
use Rattle.jr_grammar.specs.Bare.{Bare}
use Rattle.jr_pexpr.specs.Runs.{run}
use Rattle.jr_pexpr.proofs.Found.{both_some, one_tree_of, longest_is, longest_none, stop_is}
use Rattle.jr_pstmt.specs.StatementMachine as Statements
use Rattle.jr_punit_laws.specs.MemberMachine as Members
use Rattle.jr_punit_laws.specs.UnitMachine as Units
use Rattle.jr_punit_laws.specs.Machines.{list_step, list_whole, list_read, member_step, member_whole, member_read, member_length, unit_step, unit_whole, unit_read}
use Rattle.jr_punit_laws.specs.Exact.{ListIsRead, ListStopIsExact, MemberIsRead, MemberLengthIsLongest, MemberStopIsExact, UnitIsRead, UnitStopIsExact}
use Rattle.jr_punit_laws.proofs.StatementEnds.{list_answers, list_sound, list_closes}
use Rattle.jr_punit_laws.proofs.MemberReads.{member_answers, member_sound, member_closes}
use Rattle.jr_punit_laws.proofs.UnitReads.{unit_answers, unit_sound, unit_closes}

-- what a machine reads is the tree that the tokens are, and nothing else is one
module _ (S T : Type 0) (step : S → Token → Option S) (whole : S → Option T) (start : S) (spelled : T → List Token) (IsMeant : T → Type 0) (reads : (e : T) → IsMeant e → option_and_then whole (run S Token T step whole start (spelled e)) ≡ Some e)
    (sound : (ts : List Token) (n : S) (e : T) → run S Token T step whole start ts ≡ Some n → whole n ≡ Some e → IsMeant e × (spelled e ≡ ts)) where
  decides : (ts : List Token) → MatchOption (option_and_then whole (run S Token T step whole start ts)) ((e : T) → IsMeant e → spelled e ≡ ts → ⊥) (λ e. IsMeant e × (spelled e ≡ ts))
  decides ts = go (option_and_then whole (run S Token T step whole start ts)) refl
    where
      go : (o : Option T) → option_and_then whole (run S Token T step whole start ts) ≡ o → MatchOption o ((e : T) → IsMeant e → spelled e ≡ ts → ⊥) (λ e. IsMeant e × (spelled e ≡ ts))
      go None h = λ e m s. let q : Some e ≡ None = sym (reads e m) ∙ ap (λ (us : List Token). option_and_then whole (run S Token T step whole start us)) s ∙ h in cc
      go (Some e) h = let r = both_some whole (run S Token T step whole start ts) e h in sound ts r.0 e r.1 r.2

matched : {T : Type 0} (o : Option T) (P Q : Type 0) (F G : T → Type 0) → (P → Q) → ((x : T) → F x → G x) → MatchOption o P F → MatchOption o Q G
matched None P Q F G f g h = f h
matched (Some x) P Q F G f g h = g x h

-- ---- lists of statements

pub one_list : OneList
one_list = one_tree_of (Statements.State Bare) (Stmts Bare) list_step list_whole Statements.start stmts_toks StmtsShaped list_answers list_sound list_closes

pub list_is_read : ListIsRead
list_is_read ts =
    matched (list_read ts) _ _ _ _ (λ f ss h. f ss h.shaped h.spells) (λ ss h. record { shaped = h.0; spells = h.1 })
    (decides (Statements.State Bare) (Stmts Bare) list_step list_whole Statements.start stmts_toks StmtsShaped list_answers list_sound ts)

pub list_stop_is_exact : ListStopIsExact
list_stop_is_exact = stop_is (Statements.State Bare) (Stmts Bare) list_step list_whole Statements.start stmts_toks StmtsShaped list_answers list_sound list_closes

-- ---- members

pub one_member : OneMember
one_member nested name =
    one_tree_of (Members.State Bare) (Member Bare) (member_step nested name) member_whole Members.start member_toks (MemberShaped nested name) (member_answers nested name) (member_sound nested name) (member_closes nested name)

pub member_is_read : MemberIsRead
member_is_read nested name ts =
    matched (member_read nested name ts) _ _ _ _ (λ f d h. f d h.shaped h.spells) (λ d h. record { shaped = h.0; spells = h.1 })
    (decides (Members.State Bare) (Member Bare) (member_step nested name) member_whole Members.start member_toks (MemberShaped nested name) (member_answers nested name) (member_sound nested name) ts)

pub member_is_longest : MemberLengthIsLongest
member_is_longest nested name ts = go (member_length nested name ts) refl
  where
    go : (o : Option ℕ) → member_length nested name ts ≡ o → MatchOption o (HasNoMember nested name ts) (λ n. (member : Member Bare) × IsLongestMember nested name ts n member)
    go None h =
        longest_none (Members.State Bare) (Member Bare) (member_step nested name) member_whole Members.start member_toks (MemberShaped nested name) (member_answers nested name) (member_sound nested name) (member_closes nested name) ts h
    go (Some n) h =
        let r = longest_is (Members.State Bare) (Member Bare) (member_step nested name) member_whole Members.start member_toks (MemberShaped nested name) (member_answers nested name) (member_sound nested name) (member_closes nested name) ts n h in
        (r.0, r.1)

pub member_stop_is_exact : MemberStopIsExact
member_stop_is_exact nested name =
    stop_is (Members.State Bare) (Member Bare) (member_step nested name) member_whole Members.start member_toks (MemberShaped nested name) (member_answers nested name) (member_sound nested name) (member_closes nested name)

-- ---- units

pub one_unit : OneUnit
one_unit = one_tree_of (Units.State Bare) (UnitTree Bare) unit_step unit_whole Units.start unit_toks UnitShaped unit_answers unit_sound unit_closes

pub unit_is_read : UnitIsRead
unit_is_read ts =
    matched (unit_read ts) _ _ _ _ (λ f u h. f u h.shaped h.spells) (λ u h. record { shaped = h.0; spells = h.1 })
    (decides (Units.State Bare) (UnitTree Bare) unit_step unit_whole Units.start unit_toks UnitShaped unit_answers unit_sound ts)

pub unit_stop_is_exact : UnitStopIsExact
unit_stop_is_exact = stop_is (Units.State Bare) (UnitTree Bare) unit_step unit_whole Units.start unit_toks UnitShaped unit_answers unit_sound unit_closes
