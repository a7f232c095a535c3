-- What an expression notes itself: all its lists together are what the relations say.
use Rattle.std.proofs.Common.{◌≡◌, ℕ, List, ◌++◌, true, refl, sym, subst, inl, inr}
use Rattle.std.specs.Prelude.{◌⊎◌, ◌↔◌}
use Rattle.jr_ast.specs.Tree as tree
use Rattle.jr_table.specs.Decls.{Decl}
use Rattle.jr_table.specs.Rows.{Row}
use Rattle.jr_table.specs.Conditions.{AreRows}
use Rattle.jr_table.specs.LookupLaws.{KeysAreFound}
use Rattle.jr_table.specs.Context.{Context}
use Rattle.jr_table.specs.Binding.{Role, variable, type, method, BindsItself}
use Rattle.jr_table.specs.ExpressionRules.{NamesObject, ExpBreaks}
use Rattle.jr_table.specs.Meanings.{references}
use Rattle.jr_table.specs.Notes.{refers, breaks, Has, own_notes, reference_notes, object_notes, member_notes, operand_notes, target_notes, forward_notes, call_notes}
use Rattle.jr_table.proofs.RowTypes.{chain}
use Rattle.jr_table.proofs.Breaking.{two, OperandRules, objects, operands}
use Rattle.jr_table.proofs.BreakingReferences.{FoundRule, found_rule, rule_found, rule_many, rule_private, rule_static, found_break, found_bind}
use Rattle.jr_table.proofs.BreakingMembers.{MemberRules, members, CallRules, calls}
use Rattle.jr_table.proofs.BreakingFinals.{TargetRules, targets, ForwardRules, forwards}
use Rattle.jr_table.proofs.BindingNothing.{none_of, objects_bind, members_bind, operands_bind, targets_bind, forwards_bind, calls_bind}
use Rattle.jr_table.specs.declared.rules.Rule.{Rule}
use Rattle.jr_table.specs.declared.rules.Rule.TheVariants as rule

module _ (rows : List Row) (fit : AreRows rows) (found : KeysAreFound rows) (c : Context) where
  module _ {A : Type 0} (begins : A → ℕ → ℕ) (role : Role) (base : ℕ) where
    abbrev ObjectRule : tree.Exp A → (at : ℕ) → Rule → Type 0
    ObjectRule e at r = NamesObject begins rows c role base e at × (r ≡ rule.StaticContext) × (c.is_static ≡ true)

    -- what the lists note, one behind the other
    abbrev Rules : tree.Exp A → (at : ℕ) → Rule → Type 0
    Rules e at r = FoundRule begins rows c role base e at r ⊎ (ObjectRule e at r ⊎ (MemberRules rows fit found c begins role base e at r ⊎ (OperandRules rows fit found c begins role base e at r
        ⊎ (TargetRules rows fit found c begins role base e at r ⊎ (ForwardRules rows fit found c begins role base e at r ⊎ CallRules rows fit found c begins role base e at r)))))

    all_lists : (e : tree.Exp A) (at : ℕ) (r : Rule) → Has (own_notes begins rows c role base e) (breaks at r) ↔ Rules e at r
    unfolding own_notes
    all_lists e at r = two (reference_notes (references begins rows c role base e)) _ (breaks at r) _ _ (found_break begins rows c role base fit found e at r)
        (two (object_notes begins rows c role base e) _ (breaks at r) _ _ (objects rows fit found c begins role base e at r)
        (two (member_notes begins rows c role base e) _ (breaks at r) _ _ (members rows fit found c begins role base e at r)
        (two (operand_notes begins rows c role base e) _ (breaks at r) _ _ (operands rows fit found c begins role base e at r)
        (two (target_notes begins rows c role base e) _ (breaks at r) _ _ (targets rows fit found c begins role base e at r)
        (two (forward_notes begins rows c role base e) (call_notes begins rows c role base e) (breaks at r) _ _ (forwards rows fit found c begins role base e at r) (calls rows fit found c begins role base e at r))))))

    -- a rule of a list is one of the expression
    at_rule : (e : tree.Exp A) (at : ℕ) (q r : Rule) → r ≡ q → ExpBreaks begins rows c role base e at q → ExpBreaks begins rows c role base e at r
    at_rule e at q r is h = subst (λ p. ExpBreaks begins rows c role base e at p) (sym is) h

    is_broken : (e : tree.Exp A) (at : ℕ) (r : Rule) → Rules e at r → ExpBreaks begins rows c role base e at r
    is_broken e at r (inl h) = found_rule begins rows c role base e at r h
    is_broken e at r (inr (inl (names, is, s))) = at_rule e at rule.StaticContext r is (inr (s, names))
    is_broken e at r (inr (inr (inl (inl (is, h))))) = at_rule e at rule.StaticThroughValue r is h
    is_broken e at r (inr (inr (inl (inr (is, h))))) = at_rule e at rule.InstanceThroughType r is h
    is_broken e at r (inr (inr (inr (inl (inl (is, h)))))) = at_rule e at rule.TypeMismatch r is h
    is_broken e at r (inr (inr (inr (inl (inr (inl (is, h))))))) = at_rule e at rule.Operands r is h
    is_broken e at r (inr (inr (inr (inl (inr (inr (is, h))))))) = at_rule e at rule.BadCast r is h
    is_broken e at r (inr (inr (inr (inr (inl (is, h)))))) = at_rule e at rule.FinalAssigned r is h
    is_broken e at r (inr (inr (inr (inr (inr (inl (is, h))))))) = at_rule e at rule.Forward r is h
    is_broken e at r (inr (inr (inr (inr (inr (inr (inl (is, h)))))))) = at_rule e at rule.VoidValue r is h
    is_broken e at r (inr (inr (inr (inr (inr (inr (inr (is, h)))))))) = at_rule e at rule.ObjectMethod r is h

    -- a rule of the expression is one of a list
    in_list : (e : tree.Exp A) (at : ℕ) (r : Rule) → ExpBreaks begins rows c role base e at r → Rules e at r
    in_list e at rule.NoVariable h = inl (rule_found begins rows c role base e at variable h)
    in_list e at rule.NoType h = inl (rule_found begins rows c role base e at type h)
    in_list e at rule.NoMethod h = inl (rule_found begins rows c role base e at method h)
    in_list e at rule.Ambiguous h = inl (rule_many begins rows c role base e at h)
    in_list e at rule.Private h = inl (rule_private begins rows c role base e at h)
    in_list e at rule.StaticContext (inl h) = inl (rule_static begins rows c role base e at h)
    in_list e at rule.StaticContext (inr (s, names)) = inr (inl (names, refl, s))
    in_list e at rule.StaticThroughValue h = inr (inr (inl (inl (refl, h))))
    in_list e at rule.InstanceThroughType h = inr (inr (inl (inr (refl, h))))
    in_list e at rule.TypeMismatch h = inr (inr (inr (inl (inl (refl, h)))))
    in_list e at rule.Operands h = inr (inr (inr (inl (inr (inl (refl, h))))))
    in_list e at rule.BadCast h = inr (inr (inr (inl (inr (inr (refl, h))))))
    in_list e at rule.FinalAssigned h = inr (inr (inr (inr (inl (refl, h)))))
    in_list e at rule.Redeclared h = absurd h
    in_list e at rule.Forward h = inr (inr (inr (inr (inr (inl (refl, h))))))
    in_list e at rule.VoidValue h = inr (inr (inr (inr (inr (inr (inl (refl, h)))))))
    in_list e at rule.ReturnForm h = absurd h
    in_list e at rule.MissingReturn h = absurd h
    in_list e at rule.Unreachable h = absurd h
    in_list e at rule.ConstantCondition h = absurd h
    in_list e at rule.Override h = absurd h
    in_list e at rule.SuperCtor h = absurd h
    in_list e at rule.FinalClass h = absurd h
    in_list e at rule.ObjectMethod h = inr (inr (inr (inr (inr (inr (inr (refl, h)))))))
    in_list e at rule.Deep h = absurd h

    -- an expression notes the rules that it breaks itself
    pub expression_breaks : (e : tree.Exp A) (at : ℕ) (r : Rule) → Has (own_notes begins rows c role base e) (breaks at r) ↔ ExpBreaks begins rows c role base e at r
    expression_breaks e at r = chain (all_lists e at r) (λ h. is_broken e at r h, λ h. in_list e at r h)

    -- the lists of rules note no reference
    no_reference : (e : tree.Exp A) (at : ℕ) (d : Decl) → Has (object_notes begins rows c role base e ++ (member_notes begins rows c role base e ++ (operand_notes begins rows c role base e
        ++ (target_notes begins rows c role base e ++ (forward_notes begins rows c role base e ++ call_notes begins rows c role base e))))) (refers at d) → ⊥
    no_reference e at d = none_of (object_notes begins rows c role base e) _ (refers at d) (objects_bind begins rows c role base e at d)
        (none_of (member_notes begins rows c role base e) _ (refers at d) (members_bind begins rows c role base e at d)
        (none_of (operand_notes begins rows c role base e) _ (refers at d) (operands_bind begins rows c role base e at d)
        (none_of (target_notes begins rows c role base e) _ (refers at d) (targets_bind begins rows c role base e at d)
        (none_of (forward_notes begins rows c role base e) (call_notes begins rows c role base e) (refers at d) (forwards_bind begins rows c role base e at d) (calls_bind begins rows c role base e at d)))))

    -- and what its references are bound to
    pub expression_binds : (e : tree.Exp A) (at : ℕ) (d : Decl) → Has (own_notes begins rows c role base e) (refers at d) ↔ BindsItself begins rows c role base e at d
    unfolding own_notes
    expression_binds e at d = chain (two (reference_notes (references begins rows c role base e)) _ (refers at d) _ ⊥ (found_bind begins rows c role base fit found e at d) (λ h. no_reference e at d h, λ h. absurd h)) (first_only, λ h. inl h)
      where
        first_only : (BindsItself begins rows c role base e at d ⊎ ⊥) → BindsItself begins rows c role base e at d
        first_only (inl h) = h
        first_only (inr h) = absurd h
