-- Kinds of faults, one after another.
use Rattle.std.proofs.Common.{◌≡◌, ℕ, zero, suc, ◌+◌, ◌<◌, ◌≤◌, List, Option, Some, None, refl, sym, ap, subst, ◌∙◌, inl, inr, arith}
use Rattle.std.specs.Prelude.{◌⊎◌, Result, Ok, Err, OnOk, IfOk, IfErr}
use Rattle.jr_build.specs.declared.faults.BuildFault.{BuildFault}
use Rattle.jr_table.specs.declared.kinds.DeclKind.{DeclKind}
use Rattle.jr_table.specs.declared.kinds.DeclKind.TheVariants as kind
use Rattle.jr_table.specs.DeclaredItems.{DeclaredItem}
use Rattle.jr_table.specs.Faults.{Place, PackageLine, HasFault, IsFirstFault, IsClean, IsUpTo, rank_of}
use Rattle.jr_build.specs.Builds.{IsCleanBelow}
use Rattle.jr_build_places.specs.Places.{IsEarliest}

module _ (packages : List (Option PackageLine)) (declarations : List DeclaredItem) where
  -- each rank is of one kind
  kind_of : ℕ → DeclKind
  kind_of (suc zero) = kind.PackageDiffers
  kind_of (suc (suc zero)) = kind.PreludeName
  kind_of (suc (suc (suc zero))) = kind.TwiceClass
  kind_of (suc (suc (suc (suc zero)))) = kind.NoSuperclass
  kind_of (suc (suc (suc (suc (suc zero))))) = kind.Cycle
  kind_of (suc (suc (suc (suc (suc (suc zero)))))) = kind.NoTy
  kind_of (suc (suc (suc (suc (suc (suc (suc zero))))))) = kind.TwiceMember
  kind_of (suc (suc (suc (suc (suc (suc (suc (suc zero)))))))) = kind.MemberTypeName
  kind_of (suc (suc (suc (suc (suc (suc (suc (suc (suc zero))))))))) = kind.BadModifiers
  kind_of _ = kind.StaticInit

  of_rank : (k : DeclKind) → kind_of (rank_of packages declarations k) ≡ k
  unfolding kind_of
  of_rank kind.PackageDiffers = refl
  of_rank kind.PreludeName = refl
  of_rank kind.TwiceClass = refl
  of_rank kind.NoSuperclass = refl
  of_rank kind.Cycle = refl
  of_rank kind.NoTy = refl
  of_rank kind.TwiceMember = refl
  of_rank kind.MemberTypeName = refl
  of_rank kind.BadModifiers = refl
  of_rank kind.StaticInit = refl

  pub same_kind : (j k : DeclKind) → rank_of packages declarations j ≡ rank_of packages declarations k → j ≡ k
  same_kind j k e = sym (of_rank j) ∙ ap kind_of e ∙ of_rank k

  split : (m n : ℕ) → m < n + 1 → (m < n) ⊎ (m ≡ n)
  split m n h = grind arith

  -- one kind more has no fault
  pub next_clean : (k : DeclKind) → IsCleanBelow packages declarations (rank_of packages declarations k) → IsEarliest (HasFault packages declarations k) None
      → IsCleanBelow packages declarations (rank_of packages declarations k + 1)
  next_clean k below none l p lt has = elim (split (rank_of packages declarations l) (rank_of packages declarations k) lt) [
    | inl less ↦ below l p less has
    | inr same ↦ none p (subst (λ m. HasFault packages declarations m p) (same_kind l k same) has)
  ]

  or_less : (m n : ℕ) → (n ≤ m) ⊎ (m < n)
  or_less m n = grind arith

  pub first_fault : (k : DeclKind) (p : Place) → IsCleanBelow packages declarations (rank_of packages declarations k) → IsEarliest (HasFault packages declarations k) (Some p)
      → IsFirstFault packages declarations k p
  first_fault k p below earliest = record {
    has = earliest.0;
    lowest = λ l q has. elim (or_less (rank_of packages declarations l) (rank_of packages declarations k)) [
      | inl le ↦ le
      | inr less ↦ absurd (below l q less has)
    ];
    first = earliest.1;
  }

  pub none_first : IsCleanBelow packages declarations 1
  none_first k p lt has = by k lt
    where
      by : (l : DeclKind) → rank_of packages declarations l < 1 → ⊥
      by kind.PackageDiffers h = omega (arith, h)
      by kind.PreludeName h = omega (arith, h)
      by kind.TwiceClass h = omega (arith, h)
      by kind.NoSuperclass h = omega (arith, h)
      by kind.Cycle h = omega (arith, h)
      by kind.NoTy h = omega (arith, h)
      by kind.TwiceMember h = omega (arith, h)
      by kind.MemberTypeName h = omega (arith, h)
      by kind.BadModifiers h = omega (arith, h)
      by kind.StaticInit h = omega (arith, h)

  pub all_clean : IsCleanBelow packages declarations 11 → IsClean packages declarations
  all_clean below k p has = below k p (by k) has
    where
      by : (l : DeclKind) → rank_of packages declarations l < 11
      by kind.PackageDiffers = omega arith
      by kind.PreludeName = omega arith
      by kind.TwiceClass = omega arith
      by kind.NoSuperclass = omega arith
      by kind.Cycle = omega arith
      by kind.NoTy = omega arith
      by kind.TwiceMember = omega arith
      by kind.MemberTypeName = omega arith
      by kind.BadModifiers = omega arith
      by kind.StaticInit = omega arith

-- what a result that is an error says
module _ {T : Type 0} (r : Result T BuildFault) where
  pub err_clean : (X : Type 0) (y : BuildFault) → r ≡ Err y → OnOk r X
  err_clean X y e = subst (λ (s : Result T BuildFault). OnOk s X) (sym e) tt

  pub err_rows : (P : T → Type 0) (y : BuildFault) → r ≡ Err y → IfOk r P
  err_rows P y e = subst (λ (s : Result T BuildFault). IfOk s P) (sym e) tt

  pub err_fault : (Q : BuildFault → Type 0) (x y : BuildFault) → r ≡ Err y → y ≡ x → Q x → IfErr r Q
  err_fault Q x y e is q = subst (λ (s : Result T BuildFault). IfErr s Q) (sym (e ∙ ap Err is)) q

pub on_ok_any : {T E : Type 0} (r : Result T E) (X : Type 0) → X → OnOk r X
on_ok_any (Ok t) X x = x
on_ok_any (Err e) X x = tt

pub if_ok_is : {T E : Type 0} (r : Result T E) (P Q : T → Type 0) → ((t : T) → P t → Q t) → IfOk r P → IfOk r Q
if_ok_is (Ok t) P Q f p = f t p
if_ok_is (Err e) P Q f p = tt

pub if_err_is : {T E : Type 0} (r : Result T E) (P Q : E → Type 0) → ((e : E) → P e → Q e) → IfErr r P → IfErr r Q
if_err_is (Ok t) P Q f p = tt
if_err_is (Err e) P Q f p = f e p
