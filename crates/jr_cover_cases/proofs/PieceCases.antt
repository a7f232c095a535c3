-- Small pieces and members: what they read, how many actions they have, and what is known of the
-- locals of `void m(A p) { A a = this; A b = p; b = p; }`, whose parameter is local 0.
use Rattle.std.proofs.Common.{◌≡◌, ◌<◌, ℕ, zero, suc, Bool, true, false, [], ◌∷◌, Option, Some, None, nat_eq, refl, sym, ap, subst, ◌∙◌, inl, inr, ⊎_elim, arith}
use Rattle.jr_ast.specs.Tree as tree
use Rattle.jr_ast.specs.StatementTree as statement
use Rattle.jr_cover.specs.Ways.{sites_of}
use Rattle.jr_cover.specs.Sites.{What, reads, writes, calls, Site, exp_way, stmt_way}
use Rattle.jr_cover.specs.Covering.{site_at}
use Rattle.jr_cover.specs.Unread.{ReadsNone}
use Rattle.jr_cover.specs.Finishing.{NoCallNoLoop, accesses}
use Rattle.jr_cover.specs.NeverNullMembers.{IsBound, LocalsAre}
use Rattle.jr_cover.proofs.Apart.{none_some, same_one, false_true}
use Rattle.jr_cover_cases.specs.Samples.{K, X, word, name, class_type, at}

abbrev doing : What K → What K → Type 0
doing w v = w ≡ v

read_is_no_write : (a b : ℕ) → doing (reads a) (writes b) → ⊥
read_is_no_write a b e = cc

write_is_no_read : (a b : ℕ) → doing (writes a) (reads b) → ⊥
write_is_no_read a b e = cc

one_write : (a b : ℕ) → doing (writes a) (writes b) → a ≡ b
one_write a b e = cc

one_read : (a b : ℕ) → doing (reads a) (reads b) → a ≡ b
one_read a b e = cc

-- ---- `b = p`: the read of p, then the write of b

abbrev assigned : tree.Exp ℕ
assigned = tree.assign 63 (name 2) (name 0)

assigned_sites : sites_of (exp_way X assigned) ≡ at 0 (reads 0) ∷ at 2 (writes 2) ∷ []
assigned_sites = refl

-- it may be done beside any value of b, and not beside any of p
b_is_unread : ReadsNone {K = K} (λ n. nat_eq n 2) (sites_of (exp_way X assigned))
b_is_unread zero s n e q = let i = one_read 0 n (ap (λ (z : Site K). z.what) (same_one _ s e) ∙ q) in subst (λ z. nat_eq z 2 ≡ false) i refl
b_is_unread (suc zero) s n e q = absurd (write_is_no_read 2 n (ap (λ (z : Site K). z.what) (same_one _ s e) ∙ q))
b_is_unread (suc (suc i)) s n e q = none_some s e

p_is_read : ReadsNone {K = K} (λ n. nat_eq n 0) (sites_of (exp_way X assigned)) → ⊥
p_is_read h = false_true (sym (h 0 (at 0 (reads 0)) 0 refl refl))

-- ---- actions

-- `synchronized(this){F=1;}` has three: the monitor is entered, the store, the exit
monitor_has_three : accesses (sites_of (stmt_way X (statement.sync 30 (tree.this 51) (statement.more (statement.eval 31 (tree.assign 32 (name 12) (tree.number 33 1))) statement.end)))) ≡ 3
monitor_has_three = refl

-- a piece with a call has no such bound
call_has_no_bound : NoCallNoLoop (sites_of (exp_way X (tree.call 34 tree.no_target (word 35) tree.end))) → ⊥
call_has_no_bound h = (h 0 (at 35 calls) refl).0 refl

-- ---- the locals of the member

abbrev body : statement.Stmts ℕ
body = statement.more (statement.local 60 false class_type (word 1) (tree.this 51)) (statement.more (statement.local 61 false class_type (word 2) (name 0)) (statement.more (statement.eval 62 assigned) statement.end))

abbrev init : ℕ → Option (tree.Exp ℕ)
init zero = None
init (suc zero) = Some (tree.this 51)
init (suc (suc zero)) = Some (name 0)
init (suc (suc (suc n))) = None

abbrev is_assigned : ℕ → Bool
is_assigned n = nat_eq n 2

written_in_it : (n i : ℕ) (s : Site K) → site_at (sites_of (exp_way X assigned)) i ≡ Some s → s.what ≡ writes n → is_assigned n ≡ true
written_in_it n zero s e q = absurd (read_is_no_write 0 n (ap (λ (z : Site K). z.what) (same_one _ s e) ∙ q))
written_in_it n (suc zero) s e q = let i = one_write 2 n (ap (λ (z : Site K). z.what) (same_one _ s e) ∙ q) in subst (λ z. nat_eq z 2 ≡ true) i refl
written_in_it n (suc (suc i)) s e q = none_some s e

-- a read alone writes nothing
not_written_in_read : (n i : ℕ) (s : Site K) → site_at (sites_of (exp_way X (name 0))) i ≡ Some s → s.what ≡ writes n → ⊥
not_written_in_read n zero s e q = read_is_no_write 0 n (ap (λ (z : Site K). z.what) (same_one _ s e) ∙ q)
not_written_in_read n (suc i) s e q = none_some s e

each_is_bound : (n : ℕ) (e : tree.Exp ℕ) → init n ≡ Some e → IsBound X.facts e
each_is_bound zero e i = none_some e i
each_is_bound (suc zero) e i = subst (λ z. IsBound X.facts z) (same_one (tree.this 51) e i) tt
each_is_bound (suc (suc zero)) e i = subst (λ z. IsBound X.facts z) (same_one (name 0) e i) tt
each_is_bound (suc (suc (suc n))) e i = none_some e i

no_parameter : (n : ℕ) → n < 1 → init n ≡ None
no_parameter zero h = refl
no_parameter (suc n) h = absurd (omega (arith, h))

locals_are : LocalsAre X init is_assigned 1 None body
locals_are = record {
  declares = λ n e h. ⊎_elim
      (λ d. subst (λ z. init z ≡ Some e) d.0 (ap (λ z. Some z) d.1))
      (λ g. ⊎_elim (λ d. subst (λ z. init z ≡ Some e) d.0 (ap (λ z. Some z) d.1)) (λ k. ⊎_elim (λ d. absurd d) (λ d. absurd d) k) g) h;
  assigns = λ n h. ⊎_elim
      (λ d. absurd d)
      (λ g. ⊎_elim (λ d. none_some d.1 d.2) (λ k. ⊎_elim
      (λ d. absurd (not_written_in_read n d.0 d.1 d.2 d.3))
      (λ l. ⊎_elim (λ d. written_in_it n d.0 d.1 d.2 d.3) (λ d. absurd d) l) k) g) h;
  parameters = no_parameter;
  bound = each_is_bound;
}

-- that no local is assigned isn't so
some_local_is_assigned : LocalsAre X init (λ n. false) 1 None body → ⊥
some_local_is_assigned h = false_true (h.assigns 2 (inr (inr (inr (inl (1, at 2 (writes 2), refl, refl))))))

-- and neither is it that `a` is a parameter, whatever it begins with
first_local_is_no_parameter : (other : ℕ → Option (tree.Exp ℕ)) → LocalsAre X other is_assigned 2 None body → ⊥
first_local_is_no_parameter other h = none_some (tree.this 51) (sym (h.parameters 1 (omega arith)) ∙ h.declares 1 (tree.this 51) (inl (refl, refl)))
