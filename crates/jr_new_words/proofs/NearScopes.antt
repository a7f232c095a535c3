-- A spelling binds in a scope exactly where it binds in one that is near it.
use Rattle.std.proofs.Common.{◌≡◌, ℕ, List, Option, Some, None, sym, ap, subst, ◌∙◌}
use Rattle.std.specs.Prelude.{unwrap_or}
use Rattle.jr_table.specs.Keys.{ClassKey, Ty}
use Rattle.jr_table.specs.Decls.{Decl, class_decl, field_decl, method_decl, constructor_decl, local_decl}
use Rattle.jr_table.specs.Rows.{Row}
use Rattle.jr_table.specs.Entries.{class_of, class_number, entries_of}
use Rattle.jr_table.specs.Found.{Found, one, nothing}
use Rattle.jr_table.specs.Fields.{find_field}
use Rattle.jr_table.specs.Scope.{Scope, ScopeLocal, last_named}
use Rattle.jr_table.specs.Lookup.{FindsVariable, find_variable, local_or}
use Rattle.jr_table.specs.LookupLaws.{KeysAreFound}
use Rattle.jr_table.specs.Context.{NamesClass}
use Rattle.jr_spell.specs.declared.references.RefForm.{RefForm}
use Rattle.jr_spell.specs.declared.references.RefForm.TheVariants as ref
use Rattle.jr_spell.specs.declared.spellings.Form.{Form}
use Rattle.jr_spell.specs.declared.spellings.Form.TheVariants.{Asked, OnThis, OnSuper, OnCastThis, OnCastOperand, OnClass, OnOuterClass, Class, OuterClass, ClassInFront, OuterClassInFront}
use Rattle.jr_spell.specs.References.{Reference, class_of_operand}
use Rattle.jr_spell.specs.Binds.{LeadsTo, FindsMember, ThroughValue, ThroughClass, ThroughCast, BindsConstructor, BehindOperand, BindsAlone, BindsAsked, Binds, front_word, last_word}
use Rattle.jr_spell.specs.Taken.{IsTaken, NoneBinds}
use Rattle.jr_new_words.specs.Near.{IsNear}

-- with other locals
abbrev pub with_locals : Scope → List ScopeLocal → Scope
with_locals s ls = record { class = s.class; is_static = s.is_static; locals = ls }

-- a name finds the same of two lists of locals
abbrev pub SameLast : (ls ms : List ScopeLocal) → List ℕ → Type 0
SameLast ls ms name = last_named name ls ≡ last_named name ms

record Agree (ls ms : List ScopeLocal) (first : List ℕ) (k : ClassKey) : Type 0 where
  of_first : SameLast ls ms first
  of_name : SameLast ls ms k.name
  of_outer : (o : List ℕ) → k.outer ≡ Some o → SameLast ls ms o

module _ (rows : List Row) (keys : KeysAreFound rows) (s : Scope) (ls ms : List ScopeLocal) where
  same_variable : (name : List ℕ) → SameLast ls ms name → find_variable rows (with_locals s ms) name ≡ find_variable rows (with_locals s ls) name
  unfolding find_variable
  same_variable name e = ap (local_or rows (find_field (entries_of rows) (class_number rows s.class) s.is_static name)) (sym e)

  variable : (name : List ℕ) → SameLast ls ms name → (f : Found) → FindsVariable rows (with_locals s ls) name f → FindsVariable rows (with_locals s ms) name f
  variable name e f h = (keys.variable (with_locals s ms) name f).0 (same_variable name e ∙ (keys.variable (with_locals s ls) name f).1 h)

  leads : (outer : Option (List ℕ)) (name : List ℕ) (k : ClassKey) → SameLast ls ms (unwrap_or outer name) → LeadsTo rows (with_locals s ls) outer name k → LeadsTo rows (with_locals s ms) outer name k
  leads None name k e (free, type) = (variable name e nothing free, type)
  leads (Some outer) name k e (o, (free, type), within) = (o, (variable outer e nothing free, type), within)

  names : (outer : Option (List ℕ)) (name : List ℕ) (k : ClassKey) → NamesClass rows (with_locals s ls) outer name k → NamesClass rows (with_locals s ms) outer name k
  names None name k h = h
  names (Some outer) name k h = h

  member : (args : List Ty) (k : ClassKey) (d : Decl) → FindsMember rows (with_locals s ls) args k d → FindsMember rows (with_locals s ms) args k d
  member args k (field_decl f) h = h
  member args k (method_decl m) h = h
  member args k (class_decl c) h = absurd h
  member args k (constructor_decl c) h = absurd h
  member args k (local_decl l) h = absurd h

  value : (args : List Ty) (k : ClassKey) (d : Decl) → ThroughValue rows (with_locals s ls) args k d → ThroughValue rows (with_locals s ms) args k d
  value args k d v = record { finds = member args k d v.finds; instance = v.instance }

  through : (args : List Ty) (k : ClassKey) (d : Decl) → ThroughClass rows (with_locals s ls) args k d → ThroughClass rows (with_locals s ms) args k d
  through args k d v = record { finds = member args k d v.finds; static = v.static }

  cast : (args : List Ty) (o : ClassKey) (d : Decl) → ThroughCast rows (with_locals s ls) args o d → ThroughCast rows (with_locals s ms) args o d
  cast args o d v = record { above = v.above; named = v.named; member = value args (class_of d) d v.member }

  module _ (r : Reference) (d : Decl) where
    constructor : (o : Option ClassKey) → BindsConstructor rows (with_locals s ls) r d o → BindsConstructor rows (with_locals s ms) r d o
    constructor (Some o) h = h
    constructor None h = h

    behind : (o : Option ClassKey) → BehindOperand rows (with_locals s ls) r d o → BehindOperand rows (with_locals s ms) r d o
    behind (Some o) h = h
    behind None h = h

    alone : (e : Decl) → SameLast ls ms r.asked → BindsAlone rows (with_locals s ls) r d e → BindsAlone rows (with_locals s ms) r d e
    alone (local_decl k) same h = variable r.asked same (one d) h
    alone (method_decl k) same (object, (p, super, v)) = (object, (p, super, value r.args p d v))
    alone (constructor_decl k) same h = constructor (class_of_operand r.operand) h
    alone (class_decl k) same h = absurd h
    alone (field_decl k) same h = absurd h

    asked : (f : RefForm) → SameLast ls ms r.asked → BindsAsked rows (with_locals s ls) r d f → BindsAsked rows (with_locals s ms) r d f
    asked ref.FieldSimple same h = variable r.asked same (one d) h
    asked ref.FieldOn same (o, is, v) = (o, is, value r.args o d v)
    asked ref.FieldSuper same (object, (p, super, v)) = (object, (p, super, value r.args p d v))
    asked ref.ThroughClass same (b, is, found, (o, has, v)) = (b, is, through r.args b d found, (o, has, through r.args o d v))
    asked ref.MethodSimple same h = h
    asked ref.MethodOn same (o, is, v) = (o, is, value r.args o d v)
    asked ref.ClassName same h = names (front_word r.asked) (last_word r.asked) (class_of d) h
    asked ref.ClassInFront same h = (h.0, behind (class_of_operand r.operand) h.1)
    asked ref.AsAsked same h = alone d same h

    binds : Agree ls ms r.asked (class_of d) → (f : Form) → Binds rows (with_locals s ls) r d f → Binds rows (with_locals s ms) r d f
    binds agree Asked h = asked r.form agree.of_first h
    binds agree OnThis (object, v) = (object, value r.args s.class d v)
    binds agree OnSuper (object, (p, super, v)) = (object, (p, super, value r.args p d v))
    binds agree OnCastThis (object, v) = (object, cast r.args s.class d v)
    binds agree OnCastOperand (o, is, v) = (o, is, cast r.args o d v)
    binds agree OnClass (to, v) = (leads None (class_of d).name (class_of d) agree.of_name to, through r.args (class_of d) d v)
    binds agree OnOuterClass (outer, is, to, v) = (outer, is, leads (Some outer) (class_of d).name (class_of d) (agree.of_outer outer is) to, through r.args (class_of d) d v)
    binds agree Class h = h
    binds agree OuterClass h = h
    binds agree ClassInFront h = leads None (class_of d).name (class_of d) agree.of_name h
    binds agree OuterClassInFront (outer, is, to) = (outer, is, leads (Some outer) (class_of d).name (class_of d) (agree.of_outer outer is) to)

agree_back : (ls ms : List ScopeLocal) (first : List ℕ) (k : ClassKey) → Agree ls ms first k → Agree ms ls first k
agree_back ls ms first k agree = record {
  of_first = sym agree.of_first;
  of_name = sym agree.of_name;
  of_outer = λ o is. sym (agree.of_outer o is);
}

module _ (rows : List Row) (keys : KeysAreFound rows) (near s : Scope) (r : Reference) (d : Decl)
    (is_near : IsNear near s r.asked (class_of d)) where
  agree : Agree near.locals s.locals r.asked (class_of d)
  agree = record { of_first = is_near.of_first; of_name = is_near.of_name; of_outer = is_near.of_outer }

  there : near ≡ with_locals s near.locals
  there = λ i. record { class = is_near.class i; is_static = is_near.is_static i; locals = near.locals }

  forth : (f : Form) → Binds rows (with_locals s near.locals) r d f → Binds rows s r d f
  forth f h = binds rows keys s near.locals s.locals r d agree f h

  back : (f : Form) → Binds rows s r d f → Binds rows (with_locals s near.locals) r d f
  back f h = binds rows keys s s.locals near.locals r d (agree_back near.locals s.locals r.asked (class_of d) agree) f h

  taken_there : (f : Form) → IsTaken rows (with_locals s near.locals) r d f → IsTaken rows s r d f
  taken_there f t = record {
    place = t.place;
    stands = t.stands;
    binds = forth f t.binds;
    first = λ i g below at b. t.first i g below at (back g b);
  }

  none_there : NoneBinds rows (with_locals s near.locals) r d → NoneBinds rows s r d
  none_there none = λ i g at b. none i g at (back g b)

  -- what is taken in the near one is taken in the other
  pub near_taken : (f : Form) → IsTaken rows near r d f → IsTaken rows s r d f
  near_taken f t = taken_there f (subst (λ x. IsTaken rows x r d f) there t)

  pub near_none : NoneBinds rows near r d → NoneBinds rows s r d
  near_none none = none_there (subst (λ x. NoneBinds rows x r d) there none)

-- what a name finds as a variable that finds the same local in both
pub same_local_variable : (rows : List Row) (keys : KeysAreFound rows) (near s : Scope) (name : List ℕ) → near.class ≡ s.class → near.is_static ≡ s.is_static
    → last_named name near.locals ≡ last_named name s.locals → (f : Found) → FindsVariable rows near name f → FindsVariable rows s name f
same_local_variable rows keys near s name in_class is_static last f h =
    let there : near ≡ with_locals s near.locals = λ i. record { class = in_class i; is_static = is_static i; locals = near.locals } in
    variable rows keys s near.locals s.locals name last f (subst (λ (x : Scope). FindsVariable rows x name f) there h)
