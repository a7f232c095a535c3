-- What holds of all steps.
use Rattle.std.specs.Prelude.{◌≡◌, ◌↔◌, ℕ, List}
use Rattle.jr_table.specs.Decls.{MemberKey}
use Rattle.jr_names.specs.declared.steps.What.{What}
use Rattle.jr_names.specs.declared.steps.Step.{Step}
use Rattle.jr_names.specs.declared.steps.Step.TheVariants as step
use Rattle.jr_names.specs.Refusals.{Refusal}
use Rattle.jr_names.specs.Replies.{Reply, refused}
use Rattle.jr_sources.specs.Sources.{Source, Differ}
use Rattle.jr_session.specs.States.{State}
use Rattle.jr_session.specs.Dependences.{AreDependenceTexts, IsLargeMember}
use Rattle.jr_session.specs.Shows.{AreShownTexts}
use Rattle.jr_session.specs.RenameReasons.{IsFirstReason}
use Rattle.jr_session.specs.Serving.{IsServed}
use Rattle.jr_session.specs.Stepping.{Steps}

-- a step that is answered has one reply and one state behind it, where each file has a name of its
-- own
abbrev pub HasOneAnswer : Type 0
HasOneAnswer = (s : State) (of : Step) (r q : Reply) (t u : State) → Differ s.files → IsServed of
    → Steps s of r t → Steps s of q u → (r ≡ q) × (t ≡ u)

-- The sources alone say which lines a file has, and of dependences whether a member is too large.
pub record HasOneShow : Type 0 where
  pub lines : (sources : List Source) (number : ℕ) (of : What) (xs ys : List (List ℕ))
      → AreShownTexts sources number of xs → AreShownTexts sources number of ys → xs ≡ ys
  pub large : (sources : List Source) (number : ℕ) (k l : MemberKey) (m n : ℕ)
      → IsLargeMember sources number k m → IsLargeMember sources number l n → (k ≡ l) × (m ≡ n)
  pub never_both : (sources : List Source) (number : ℕ) (xs : List (List ℕ)) (k : MemberKey)
      (n : ℕ) → AreDependenceTexts sources number xs → IsLargeMember sources number k n → ⊥

-- a rename is refused for exactly the first of its reasons
abbrev pub RenamesAreRefusedFirst : Type 0
RenamesAreRefusedFirst = (s : State) (file : List ℕ) (at : ℕ) (new : List ℕ) (reply : Reply)
    (t : State) → Differ s.files → Steps s (step.Rename file at new) reply t
    → (r : Refusal) → (reply ≡ refused r) ↔ IsFirstReason s file at new r
