-- What the name of a type finds is a class, and what a creation finds a constructor.
use Rattle.std.proofs.Common.{◌≡◌, ℕ, List, [], ◌∷◌, Option, Some, None, map, refl, sym, ap, ◌∙◌, inl, inr}
use Rattle.std.specs.Prelude.{slice_get}
use Rattle.jr_table.specs.declared.answers.Answer.TheVariants as number
use Rattle.jr_table.specs.declared.entries.Entry.{Entry}
use Rattle.jr_table.specs.declared.entries.Sort.TheVariants as sort
use Rattle.jr_table.specs.declared.entries.Kind.{Kind}
use Rattle.jr_table.specs.Keys.{ClassKey, CtorKey, Ty}
use Rattle.jr_table.specs.Decls.{Decl, class_decl, field_decl, method_decl, constructor_decl, local_decl}
use Rattle.jr_table.specs.Rows.{Row}
use Rattle.jr_table.specs.Entries.{IsRowOf, class_number, kind_of, sort_of, top_class, entry_of, entries_of}
use Rattle.jr_table.specs.Found.{one, nothing}
use Rattle.jr_table.specs.Scope.{Scope}
use Rattle.jr_table.specs.Members.{DeclaresType, MemberAmong, IsMemberType}
use Rattle.jr_table.specs.Calls.{IsCtorCandidate}
use Rattle.jr_table.specs.Lookup.{FindsTypeNamed, FindsTypeOf, FindsCtorOf}
use Rattle.jr_table.specs.Binding.{TypeRefers, CreationFinds}
use Rattle.jr_table.specs.Context.{Context, scope_of}
use Rattle.jr_ast.specs.Tree as tree
use Rattle.jr_table.proofs.RowLaws.{some_inside, entry_stands}

of_class : (d : Decl) → sort_of d ≡ sort.Class → (k : ClassKey) × (d ≡ class_decl k)
of_class (class_decl k) e = (k, refl)
of_class (field_decl k) e = absurd cc
of_class (method_decl k) e = absurd cc
of_class (constructor_decl k) e = absurd cc
of_class (local_decl k) e = absurd cc

of_ctor : (d : Decl) → sort_of d ≡ sort.Ctor → (k : CtorKey) × (d ≡ constructor_decl k)
of_ctor (constructor_decl k) e = (k, refl)
of_ctor (class_decl k) e = absurd cc
of_ctor (field_decl k) e = absurd cc
of_ctor (method_decl k) e = absurd cc
of_ctor (local_decl k) e = absurd cc

module _ (rows : List Row) where
  -- the sort of a row's entry is its declaration's
  sort_is : (d : Decl) (j : ℕ) (e : Entry) → IsRowOf rows d j → slice_get (entries_of rows) j ≡ Some e → e.sort ≡ sort_of d
  sort_is d j e is at =
      ap (λ (x : Entry). x.sort) (some_inside (slice_get (entries_of rows) j) e (entry_of rows is.row) at (entry_stands rows j is.row is.stands)) ∙ ap sort_of is.declares

  among_has : (Own : ℕ → ℕ → Type 0) (cs : List ℕ) (j : ℕ) → MemberAmong (entries_of rows) Own cs j → (c : ℕ) × Own c j
  among_has Own [] j h = absurd h
  among_has Own (c ∷ cs) j (inl own) = (c, own)
  among_has Own (c ∷ cs) j (inr (none, more, shown)) = among_has Own cs j more

  type_sort : (name : List ℕ) (c j : ℕ) (d : Decl) → IsMemberType (entries_of rows) name c j → IsRowOf rows d j → sort_of d ≡ sort.Class
  type_sort name c j d m is = let o = among_has (DeclaresType (entries_of rows) name) m.chain j m.among in sym (sort_is d j o.1.row is o.1.stands) ∙ o.1.type

  same_row : (d e : Decl) (j : ℕ) → IsRowOf rows d j → IsRowOf rows e j → d ≡ e
  same_row d e j a b = sym a.declares ∙ ap (λ (r : Row). r.decl) (some_inside (slice_get rows j) a.row b.row a.stands b.stands) ∙ b.declares

  pub found_type : (s : Scope) (name : List ℕ) (d : Decl) → FindsTypeNamed rows s name (one d) → (k : ClassKey) × (d ≡ class_decl k)
  found_type s name d (number.One j, inl (e, inner, member), shows) = of_class d (type_sort name e j d member shows)
  found_type s name d (number.One j, inr (none, is), shows) = (record { outer = None; name = name }, same_row d (top_class name) j shows is)
  found_type s name d (number.Nothing, finds, shows) = absurd shows
  found_type s name d (number.Many i j, finds, shows) = absurd shows
  found_type s name d (number.NotAccessible j, finds, shows) = absurd shows
  found_type s name d (number.FromStatic j, finds, shows) = absurd shows

  pub found_inner : (s : Scope) (of : ClassKey) (name : List ℕ) (d : Decl) → FindsTypeOf rows s of name (one d) → (k : ClassKey) × (d ≡ class_decl k)
  found_inner s of name d (number.One j, finds, shows) = of_class d (type_sort name (class_number rows of) j d finds.0 shows)
  found_inner s of name d (number.Nothing, finds, shows) = absurd shows
  found_inner s of name d (number.Many i j, finds, shows) = absurd shows
  found_inner s of name d (number.NotAccessible j, finds, shows) = absurd shows
  found_inner s of name d (number.FromStatic j, finds, shows) = absurd shows

  ctor_sort : (c : ℕ) (args : List Kind) (j : ℕ) (d : Decl) → IsCtorCandidate (entries_of rows) c args j → IsRowOf rows d j → sort_of d ≡ sort.Ctor
  ctor_sort c args j d m is = sym (sort_is d j m.own.row is m.own.stands) ∙ m.own.constructor

  found_ctor : (s : Scope) (of : ClassKey) (ts : List Ty) (d : Decl) → FindsCtorOf rows s of ts (one d) → (k : CtorKey) × (d ≡ constructor_decl k)
  found_ctor s of ts d (number.One j, finds, shows) = of_ctor d (ctor_sort (class_number rows of) (map (kind_of rows) ts) j d finds.best.own.0 shows)
  found_ctor s of ts d (number.Nothing, finds, shows) = absurd shows
  found_ctor s of ts d (number.Many i j, finds, shows) = absurd shows
  found_ctor s of ts d (number.NotAccessible j, finds, shows) = absurd shows
  found_ctor s of ts d (number.FromStatic j, finds, shows) = absurd shows

  pub found_creation : {A : Type 0} (c : Context) (t : tree.TypeName A) (args : tree.Exps A) (d : Decl) → CreationFinds rows c t args (one d) → (k : CtorKey) × (d ≡ constructor_decl k)
  found_creation c t args d (inl (k, writes, inl (ts, have, finds))) = found_ctor (scope_of c) k ts d finds
  found_creation c t args d (inl (k, writes, inr (never, is))) = absurd cc
  found_creation c t args d (inr (never, is)) = absurd cc

  -- a reference in a type's name finds a class
  pub refers_class : {A : Type 0} (begins : A → ℕ → ℕ) (c : Context) (b : ℕ) (t : tree.TypeName A) (at : ℕ) (d : Decl) → TypeRefers begins rows c b t at (one d) → (k : ClassKey) × (d ≡ class_decl k)
  refers_class begins c b (tree.int m) at d h = absurd h
  refers_class begins c b (tree.boolean m) at d h = absurd h
  refers_class begins c b (tree.named m None w) at d h = found_type (scope_of c) w.text d h.1
  refers_class begins c b (tree.named m (Some o) w) at d (inl h) = found_type (scope_of c) o.text d h.1
  refers_class begins c b (tree.named m (Some o) w) at d (inr (here, inl (k, named, finds))) = found_inner (scope_of c) k w.text d finds
  refers_class begins c b (tree.named m (Some o) w) at d (inr (here, inr (never, is))) = absurd cc
