-- What stands in front of a reference that is kept: what stood there, rewritten; or `this`,
-- `super`, a cast of one of these; or the name of a class. So `x` never becomes `e().x`.
use Rattle.std.specs.Prelude.{◌≡◌, ◌⊎◌, ℕ, List, [], Some, None}
use Rattle.jr_text.specs.declared.spans.Span.{Span}
use Rattle.jr_text.specs.Edits.{Entry}
use Rattle.jr_ast.specs.Tree as tree
use Rattle.jr_ast.specs.MemberTree.{Unit as UnitTree}
use Rattle.jr_grammar.specs.Layout.{itself}
use Rattle.jr_table.specs.Keys.{ClassKey}
use Rattle.jr_table.specs.Decls.{Decl}
use Rattle.jr_table.specs.Rows.{Row}
use Rattle.jr_table.specs.Scope.{Scope}
use Rattle.jr_table.specs.Context.{Context}
use Rattle.jr_table.specs.DeclaredItems.{declarations_of}
use Rattle.jr_table.specs.Binding.{Role, left}
use Rattle.jr_bind.specs.Programs.{Program, units_of}
use Rattle.jr_program_laws.specs.FileParts.{begins}
use Rattle.jr_spell.specs.Binds.{LeadsTo}
use Rattle.jr_rewrite.specs.Rewritten.{Rewritten}
use Rattle.jr_rewrite.specs.Rewrites.{Choosing, RewritesExp}
use Rattle.jr_rewrite.specs.AlongMembers.{AlongUnits}
use Rattle.jr_images.specs.Images.{Renaming, member_to}
use Rattle.jr_images.specs.Regions.{Region}
use Rattle.jr_images.specs.RenameLaws.{trees_of}
use Rattle.jr_plan.specs.Transforms.{choosing_of}
use Rattle.jr_plan.specs.Renaming.{rename_of}
use Rattle.jr_rename_laws.specs.PlanLaws.{IsPlanIn}

module _ {A : Type 0} where
  -- the words are the name of a class there, and of no variable or field (JLS 6.4.2, 6.5.2)
  abbrev pub NamesClassThere : List Row → Scope → tree.Exp A → Type 0
  NamesClassThere rows s (tree.name m v) = (k : ClassKey) × LeadsTo rows s None v.text k
  NamesClassThere rows s (tree.field m (tree.name j u) v) =
      (k : ClassKey) × LeadsTo rows s (Some u.text) v.text k
  NamesClassThere rows s _ = ⊥

  abbrev pub IsThis : tree.Exp A → Type 0
  IsThis y = (m : A) × (y ≡ tree.this m)

  -- `((K) x)`
  abbrev pub IsCastOf : (Is : tree.Exp A → Type 0) → tree.Exp A → Type 0
  IsCastOf Is y = (k l j : A) × (w : tree.Word A) × (x : tree.Exp A)
      × (y ≡ tree.paren k (tree.cast l (tree.named j None w) x)) × Is x

module _ {A : Type 0} (tells : A → ℕ → Span) (R : Region A) (C : Choosing A) where
  abbrev pub IsClassThere : Context → tree.Exp A → Type 0
  IsClassThere c y = NamesClassThere R.seen.images.rows (R.seen.scope c) y

  -- it is what stands now in the place of e, of which nothing is lost
  abbrev pub Becomes : Context → Role → (base : ℕ) → tree.Exp A → tree.Exp A → Type 0
  Becomes c r base e y = (o : Rewritten (tree.Exp A)) × RewritesExp tells C c r base e o
      × (o.losses ≡ []) × (y ≡ o.tree)

  -- in front of a dot, where e stood
  abbrev pub IsOperandOf : Context → (base : ℕ) → tree.Exp A → tree.Exp A → Type 0
  IsOperandOf c base e y = Becomes c left base e y
      ⊎ (IsCastOf (λ x. Becomes c left base e x) y ⊎ IsClassThere c y)

  -- a variable or a class, where nothing stood in front
  abbrev pub SimpleBecomes : Context → tree.Exp A → Type 0
  SimpleBecomes c y = ((k : A) × (v : tree.Word A) × (y ≡ tree.name k v))
      ⊎ (((k : A) × (v : tree.Word A) × (y ≡ tree.super_field k v))
      ⊎ ((k : A) × (x : tree.Exp A) × (v : tree.Word A) × (y ≡ tree.field k x v)
      × (IsThis x ⊎ (IsCastOf (λ z. IsThis z) x ⊎ IsClassThere c x))))

  -- what an expression, which stands so, has become by its own reference
  abbrev pub IsFronted : Context → Role → (base : ℕ) → tree.Exp A → tree.Exp A → Type 0
  IsFronted c r b (tree.name m w) y = SimpleBecomes c y
  IsFronted c r b (tree.super_field m w) y =
      ((k : A) × (v : tree.Word A) × (y ≡ tree.super_field k v))
      ⊎ ((k : A) × (x : tree.Exp A) × (v : tree.Word A) × (y ≡ tree.field k x v)
      × IsCastOf (λ z. IsThis z) x)
  -- a class in front of a further dot may lose what stood in front of it
  IsFronted c r b (tree.field m e w) y = ((k : A) × (x : tree.Exp A) × (v : tree.Word A)
      × (y ≡ tree.field k x v) × IsOperandOf c (tells m b).from e x)
      ⊎ ((r ≡ left) × ((k : A) × (v : tree.Word A) × (y ≡ tree.name k v) × IsClassThere c y))
  IsFronted c r b (tree.call m tree.no_target w args) y = (k : A) × (to : tree.Target A)
      × (v : tree.Word A) × (es : tree.Exps A) × (y ≡ tree.call k to v es)
      × ((to ≡ tree.no_target)
      ⊎ ((x : tree.Exp A) × (to ≡ tree.on x) × (IsThis x ⊎ IsClassThere c x)))
  IsFronted c r b (tree.call m (tree.on e) w args) y = (k : A) × (x : tree.Exp A)
      × (v : tree.Word A) × (es : tree.Exps A) × (y ≡ tree.call k (tree.on x) v es)
      × IsOperandOf c (tells m b).from e x
  IsFronted c r b _ y = Unit {0}

-- so it is at each place of the files, side by side with those that a rename makes of them
abbrev pub AreFronted : (p : Program Span) → (g : Renaming) → (files : List (Rewritten (UnitTree Span)))
    → Type 0
AreFronted p g files = AlongUnits begins begins (λ c d r b e i y.
    IsFronted itself (rename_of p g).region (choosing_of p (rename_of p g)) c r b e y)
    (λ c d b t i u. Unit {0}) (λ c d es ys. Unit {0}) (λ o b t i u. Unit {0}) (member_to g)
    (declarations_of begins (units_of p)) (units_of p) (trees_of files)

-- whatever rename is planned
abbrev pub FrontsStay : Type 0
FrontsStay = (p : Program Span) (text : List ℕ) (file at : ℕ) (new : List ℕ)
    (edits : List (List Entry)) (renaming : List (Decl × Decl)) (respelled : ℕ)
    → (is : IsPlanIn p text file at new edits renaming respelled)
    → AreFronted p is.planned.found.g is.planned.becomes.files
