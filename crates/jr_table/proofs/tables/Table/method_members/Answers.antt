use Rattle.std.proofs.Common.{◌≡◌, ◌<◌, ◌≤◌, ◌+◌, ℕ, zero, suc, List, [], ◌∷◌, ◌++◌, take, get_or, refl, sym, ap, ◌∙◌, map, subst, length, arith}
use Rattle.std.specs.Prelude.{option_to_list}
use Rattle.jr_table.specs.Decls.{class_decl}
use Rattle.jr_table.specs.TypeView.{class_key_of}
use Rattle.jr_table.specs.KeyView.{method_key_of}
use Rattle.jr_table.specs.Entries.{method_at, entries_of}
use Rattle.jr_table.specs.Calls.{methods_named}
use Rattle.jr_table.specs.MethodLists.{AreMethods}
use Rattle.jr_table.proofs.RowLaws.{number_none, as_many}
use Rattle.jr_table.proofs.Gathered.{Gathered, keys_at, keys_more, passing_gathered, are_methods, no_methods}
use Rattle.jr_table.proofs.tables.Table.method_members.Goals as goal

take_one : (xs : List ℕ) (i : ℕ) → i < length xs → take (i + 1) xs ≡ take i xs ++ get_or xs i 0 ∷ []
take_one [] i lt = absurd (omega (arith, lt))
take_one (x ∷ xs) zero lt = refl
take_one (x ∷ xs) (suc i) lt =
    let e : suc i + 1 ≡ suc (i + 1) = omega arith in
    ap (λ n. take n (x ∷ xs)) e ∙ ap (λ ys. x ∷ ys) (take_one xs i (omega (arith, lt)))

take_all : (xs : List ℕ) (i : ℕ) → length xs ≤ i → take i xs ≡ xs
take_all [] zero le = refl
take_all [] (suc i) le = refl
take_all (x ∷ xs) zero le = absurd (omega (arith, le))
take_all (x ∷ xs) (suc i) le = ap (λ ys. x ∷ ys) (take_all xs i (omega (arith, le)))

pub returns-in_default : goal.returns-in_default
returns-in_default c =
    subst (AreMethods c.args.self.now (class_key_of c.args.class.now) c.args.name.now) (sym (ap (map method_key_of) c.new-keys.ensures.items))
    (no_methods c.args.self.now (class_key_of c.args.class.now) c.args.name.now (λ n r. number_none c.args.self.now (class_decl (class_key_of c.args.class.now)) (sym c.in_default.ensures) n r))

pub loop-number-preserved : goal.loop-number-preserved
loop-number-preserved c =
    let rows = c.args.self.now in
    let items = c.deref-number-items.result.now in
    let i = c.loop-number.number-index in
    c.in_ok-push_method.ensures
    ∙ ap (λ ks. ks ++ option_to_list (method_at rows (get_or items i 0))) c.loop-number.invariant
    ∙ sym (keys_more rows (take i items) (get_or items i 0))
    ∙ ap (keys_at rows) (sym (take_one items i c.loop-number-test.true))

pub returns : goal.returns
unfolding methods_named
returns c =
    let rows = c.args.self.now in
    let items = c.deref-number-items.result.now in
    let name = c.args.name.now in
    let numbers = c.deref-number-items.ensures.value ∙ c.in_ok-numbers.ensures ∙ ap (λ q. methods_named (entries_of rows) q c.in-Some.class) c.as_str.ensures in
    let keys = c.loop-number.invariant ∙ ap (keys_at rows) (take_all items c.loop-number.number-index c.loop-number-test.false ∙ numbers) in
    are_methods rows c.keeps_rows.ensures (class_key_of c.args.class.now) c.in-Some.class name (length (entries_of rows)) (map method_key_of c.loop-number.keys.items) (sym c.in-Some.ensures) (let e = as_many rows in omega (arith, e))
    (subst (Gathered rows c.in-Some.class name (length (entries_of rows))) (sym keys) (passing_gathered rows c.keeps_rows.ensures c.in-Some.class name (length (entries_of rows))))
