-- What is gathered of the files, member by member.
use Rattle.std.proofs.Common.{◌≡◌, ℕ, zero, suc, ◌+◌, List, [], ◌∷◌, ◌++◌, Some, length, refl, sym, ap, ◌∙◌, arith}
use Rattle.std.specs.Prelude.{slice_get, option_map, map}
use Rattle.std.proofs.lemmas.List.{append_assoc, append-nil, length-append}
use Rattle.std.proofs.lemmas.Option.{slice_get-map}
use Rattle.jr_text.specs.declared.spans.Span.{Span}
use Rattle.jr_members.specs.WrittenMembers.{WrittenMember}
use Rattle.jr_rewrite.specs.Rewrites.{Choosing}
use Rattle.jr_new_bodies.specs.Effects.{Effect, no_effect, both}
use Rattle.jr_new_files.specs.Files.{OneGives, AllGive}

-- ---- effects one behind the other

pub both_nothing : (e : Effect) → both e no_effect ≡ e
both_nothing e = λ i. record {
  changes = append-nil e.changes i;
  respelled = (let h : e.respelled + 0 ≡ e.respelled = omega arith in h) i;
  losses = append-nil e.losses i;
}

both_assoc : (a b c : Effect) → both (both a b) c ≡ both a (both b c)
both_assoc a b c = λ i. record {
  changes = append_assoc a.changes b.changes c.changes i;
  respelled = (let h : a.respelled + b.respelled + c.respelled ≡ a.respelled + (b.respelled + c.respelled) = omega arith in h) i;
  losses = append_assoc a.losses b.losses c.losses i;
}

nothing_first : (e : Effect) → both no_effect e ≡ e
nothing_first e = λ i. record {
  changes = e.changes;
  respelled = (let h : 0 + e.respelled ≡ e.respelled = omega arith in h) i;
  losses = e.losses;
}

module _ (C : Choosing Span) (tells : Span → ℕ → Span) where
  -- one more
  pub all_join : (file : ℕ) (ws : List (WrittenMember Span)) (w : WrittenMember Span) (e f : Effect) → AllGive tells C file ws e → OneGives tells C file w f → AllGive tells C file (ws ++ w ∷ []) (both e f)
  all_join file [] w e f h one = (f, no_effect, one, refl, ap (λ (x : Effect). both x f) h ∙ nothing_first f ∙ sym (both_nothing f))
  all_join file (v ∷ ws) w e f (d, rest, first, others, is) one =
      (d, both rest f, first, all_join file ws w rest f others one, ap (λ (x : Effect). both x f) is ∙ both_assoc d rest f)

-- what is so of each, of one of them
pub of_one : {X Y : Type 0} (f : X → Y) (P : Y → Type 0) (xs : List X) → ((n : ℕ) (y : Y) → slice_get (map f xs) n ≡ Some y → P y) → (n : ℕ) (x : X) → slice_get xs n ≡ Some x → P (f x)
of_one f P xs all n x e = all n (f x) (slice_get-map f xs n ∙ ap (option_map f) e)

-- so many, and each is nothing
abbrev pub AreNothing : List Effect → (n : ℕ) → Type 0
AreNothing es n = (length es ≡ n) × ((file : ℕ) (e : Effect) → slice_get es file ≡ Some e → e ≡ no_effect)

-- one more that gives nothing
pub push_nothing : (es : List Effect) (n : ℕ) → length es ≡ n → ((file : ℕ) (e : Effect) → slice_get es file ≡ Some e → e ≡ no_effect) → (x : Effect) → x ≡ no_effect
    → (length (es ++ x ∷ []) ≡ n + 1) × ((file : ℕ) (e : Effect) → slice_get (es ++ x ∷ []) file ≡ Some e → e ≡ no_effect)
push_nothing es n len all x is = (length-append es (x ∷ []) ∙ (let h : length es + 1 ≡ n + 1 = omega (arith, len) in h), last es all)
  where
    last : (es : List Effect) → ((file : ℕ) (e : Effect) → slice_get es file ≡ Some e → e ≡ no_effect) → (file : ℕ) (e : Effect) → slice_get (es ++ x ∷ []) file ≡ Some e → e ≡ no_effect
    last [] all zero e s = let same : x ≡ e = cc in sym same ∙ is
    last [] all (suc file) e s = absurd cc
    last (y ∷ es) all zero e s = all zero e s
    last (y ∷ es) all (suc file) e s = last es (λ i d t. all (suc i) d t) file e s
