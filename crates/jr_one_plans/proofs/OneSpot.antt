-- Two lists of spots that make the same: where one is, the other is, and what comes of the place is
-- one; so it is of what is rewritten there, node by node or by a spot.
use Rattle.std.proofs.Common.{◌≡◌, ℕ, List, Option, sym, subst, inl, inr}
use Rattle.jr_ast.specs.Tree as tree
use Rattle.jr_ast.specs.StatementTree as statement
use Rattle.jr_ast.specs.MemberTree as syntax
use Rattle.jr_table.specs.Keys.{ClassKey}
use Rattle.jr_table.specs.Binding.{Role, left}
use Rattle.jr_table.specs.Context.{Context}
use Rattle.jr_rewrite.specs.Respellings.{Choice, front_of}
use Rattle.jr_rewrite.specs.Rewritten.{Rewritten}
use Rattle.jr_rewrite.specs.Spots.{Asks, operand_asks, Spots, Spotted, nowhere, spotted, OrPart, OrList, OrMembers, OrClass}

pub record SpotsAgree {A : Type 0} (s t : Spots A) : Type 0 where
  pub part : (k : Asks) (c : Context) (r : Role) (base : ℕ) (e : tree.Exp A) (o p : Rewritten (tree.Exp A)) → s.part k c r base e o → t.part k c r base e p → o ≡ p
  pub part_here : (k : Asks) (c : Context) (r : Role) (base : ℕ) (e : tree.Exp A) (o : Rewritten (tree.Exp A)) → s.part k c r base e o → t.part_stays k c r base e → ⊥
  pub part_there : (k : Asks) (c : Context) (r : Role) (base : ℕ) (e : tree.Exp A) (o : Rewritten (tree.Exp A)) → t.part k c r base e o → s.part_stays k c r base e → ⊥
  pub list : (n : ℕ) (c : Context) (base : ℕ) (xs : statement.Stmts A) (o p : Rewritten (statement.Stmts A)) → s.list n c base xs o → t.list n c base xs p → o ≡ p
  pub list_here : (n : ℕ) (c : Context) (base : ℕ) (xs : statement.Stmts A) (o : Rewritten (statement.Stmts A)) → s.list n c base xs o → t.list_stays n c base xs → ⊥
  pub list_there : (n : ℕ) (c : Context) (base : ℕ) (xs : statement.Stmts A) (o : Rewritten (statement.Stmts A)) → t.list n c base xs o → s.list_stays n c base xs → ⊥
  pub members : (base : ℕ) (of : ClassKey) (xs : syntax.Members A) (o p : Rewritten (syntax.Members A)) → s.members base of xs o → t.members base of xs p → o ≡ p
  pub members_here : (base : ℕ) (of : ClassKey) (xs : syntax.Members A) (o : Rewritten (syntax.Members A)) → s.members base of xs o → t.members_stay base of xs → ⊥
  pub members_there : (base : ℕ) (of : ClassKey) (xs : syntax.Members A) (o : Rewritten (syntax.Members A)) → t.members base of xs o → s.members_stay base of xs → ⊥
  pub whole : (base : ℕ) (outer : Option (List ℕ)) (x : syntax.Class A) (o p : Rewritten (syntax.Class A)) → s.whole base outer x o → t.whole base outer x p → o ≡ p
  pub whole_here : (base : ℕ) (outer : Option (List ℕ)) (x : syntax.Class A) (o : Rewritten (syntax.Class A)) → s.whole base outer x o → t.whole_stays base outer x → ⊥
  pub whole_there : (base : ℕ) (outer : Option (List ℕ)) (x : syntax.Class A) (o : Rewritten (syntax.Class A)) → t.whole base outer x o → s.whole_stays base outer x → ⊥

abbrev pub SpottedAgree : {A : Type 0} → Spotted A → Spotted A → Type 0
SpottedAgree nowhere nowhere = Unit {0}
SpottedAgree nowhere (spotted t) = ⊥
SpottedAgree (spotted s) nowhere = ⊥
SpottedAgree (spotted s) (spotted t) = SpotsAgree s t

module _ {A : Type 0} where
  pub or_part : (S T : Spotted A) → SpottedAgree S T → {N M : Type 0} (k : Asks) (c : Context) (r : Role) (base : ℕ) (e : tree.Exp A) (o p : Rewritten (tree.Exp A)) → OrPart S k c r base e o N → OrPart T k c r base e p M → (N → M → o ≡ p) → o ≡ p
  or_part nowhere nowhere agree k c r base e o p x y go = go x y
  or_part nowhere (spotted t) agree k c r base e o p x y go = absurd agree
  or_part (spotted s) nowhere agree k c r base e o p x y go = absurd agree
  or_part (spotted s) (spotted t) agree k c r base e o p (inl x) (inl y) go = go x.1 y.1
  or_part (spotted s) (spotted t) agree k c r base e o p (inl x) (inr y) go = absurd (agree.part_there k c r base e p y x.0)
  or_part (spotted s) (spotted t) agree k c r base e o p (inr x) (inl y) go = absurd (agree.part_here k c r base e o x y.0)
  or_part (spotted s) (spotted t) agree k c r base e o p (inr x) (inr y) go = agree.part k c r base e o p x y

  -- the operand of a dot, of which so much is asked as what is chosen behind it asks
  pub or_operand : (S T : Spotted A) → SpottedAgree S T → {N M : Type 0} (h i : Choice) → h ≡ i → (c : Context) (base : ℕ) (e : tree.Exp A) (o p : Rewritten (tree.Exp A)) → OrPart S (operand_asks (front_of h)) c left base e o N
      → OrPart T (operand_asks (front_of i)) c left base e p M → (N → M → o ≡ p) → o ≡ p
  or_operand S T agree {M = M} h i same c base e o p x y go =
      or_part S T agree (operand_asks (front_of h)) c left base e o p x (subst (λ (j : Choice). OrPart T (operand_asks (front_of j)) c left base e p M) (sym same) y) go

  pub or_list : (S T : Spotted A) → SpottedAgree S T → {N M : Type 0} (n : ℕ) (c : Context) (base : ℕ) (xs : statement.Stmts A) (o p : Rewritten (statement.Stmts A)) → OrList S n c base xs o N → OrList T n c base xs p M → (N → M → o ≡ p) → o ≡ p
  or_list nowhere nowhere agree n c base xs o p x y go = go x y
  or_list nowhere (spotted t) agree n c base xs o p x y go = absurd agree
  or_list (spotted s) nowhere agree n c base xs o p x y go = absurd agree
  or_list (spotted s) (spotted t) agree n c base xs o p (inl x) (inl y) go = go x.1 y.1
  or_list (spotted s) (spotted t) agree n c base xs o p (inl x) (inr y) go = absurd (agree.list_there n c base xs p y x.0)
  or_list (spotted s) (spotted t) agree n c base xs o p (inr x) (inl y) go = absurd (agree.list_here n c base xs o x y.0)
  or_list (spotted s) (spotted t) agree n c base xs o p (inr x) (inr y) go = agree.list n c base xs o p x y

  pub or_members : (S T : Spotted A) → SpottedAgree S T → {N M : Type 0} (base : ℕ) (of : ClassKey) (xs : syntax.Members A) (o p : Rewritten (syntax.Members A)) → OrMembers S base of xs o N → OrMembers T base of xs p M → (N → M → o ≡ p) → o ≡ p
  or_members nowhere nowhere agree base of xs o p x y go = go x y
  or_members nowhere (spotted t) agree base of xs o p x y go = absurd agree
  or_members (spotted s) nowhere agree base of xs o p x y go = absurd agree
  or_members (spotted s) (spotted t) agree base of xs o p (inl x) (inl y) go = go x.1 y.1
  or_members (spotted s) (spotted t) agree base of xs o p (inl x) (inr y) go = absurd (agree.members_there base of xs p y x.0)
  or_members (spotted s) (spotted t) agree base of xs o p (inr x) (inl y) go = absurd (agree.members_here base of xs o x y.0)
  or_members (spotted s) (spotted t) agree base of xs o p (inr x) (inr y) go = agree.members base of xs o p x y

  pub or_class : (S T : Spotted A) → SpottedAgree S T → {N M : Type 0} (base : ℕ) (outer : Option (List ℕ)) (q : syntax.Class A) (o p : Rewritten (syntax.Class A)) → OrClass S base outer q o N → OrClass T base outer q p M → (N → M → o ≡ p) → o ≡ p
  or_class nowhere nowhere agree base outer q o p x y go = go x y
  or_class nowhere (spotted t) agree base outer q o p x y go = absurd agree
  or_class (spotted s) nowhere agree base outer q o p x y go = absurd agree
  or_class (spotted s) (spotted t) agree base outer q o p (inl x) (inl y) go = go x.1 y.1
  or_class (spotted s) (spotted t) agree base outer q o p (inl x) (inr y) go = absurd (agree.whole_there base outer q p y x.0)
  or_class (spotted s) (spotted t) agree base outer q o p (inr x) (inl y) go = absurd (agree.whole_here base outer q o x y.0)
  or_class (spotted s) (spotted t) agree base outer q o p (inr x) (inr y) go = agree.whole base outer q o p x y
