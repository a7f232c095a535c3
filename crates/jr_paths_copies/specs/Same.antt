-- Trees that are the same but for their marks.
use Rattle.std.specs.Prelude.{◌≡◌, List, Option, map, option_map}
use Rattle.jr_ast.specs.Tree as tree
use Rattle.jr_ast.specs.StatementTree as statement
use Rattle.jr_ast.specs.MemberTree as member
use Rattle.jr_ast.specs.Remarked.{map_word, map_modifier, map_type, map_param}
use Rattle.jr_ast.specs.Remarked.{map_exp, map_target, map_exps, map_stmt, map_else, map_stmts}
use Rattle.jr_ast.specs.Remarked.{map_member, map_class, map_members, map_unit}

-- h and k agree on each mark and each mark that R allows for it
abbrev pub Agree : {A B C : Type 0} → (A → B → Type 0) → (B → C) → (A → C) → Type 0
Agree {A} {B} R h k = (a : A) (b : B) → R a b → h b ≡ k a

-- the same but for its marks, of which R relates the old and the new
module _ {A B : Type 0} (R : A → B → Type 0) where
  abbrev pub SameWord : tree.Word A → tree.Word B → Type 0
  SameWord t t' = (h : B → Option B) (k : A → Option B) → Agree R h k → map_word h t' ≡ map_word k t

  abbrev pub SameType : tree.TypeName A → tree.TypeName B → Type 0
  SameType t t' = (h : B → Option B) (k : A → Option B) → Agree R h k → map_type h t' ≡ map_type k t

  abbrev pub SameModifiers : List (member.Modifier A) → List (member.Modifier B) → Type 0
  SameModifiers t t' = (h : B → Option B) (k : A → Option B) → Agree R h k
      → map (map_modifier h) t' ≡ map (map_modifier k) t

  abbrev pub SameParam : member.Param A → member.Param B → Type 0
  SameParam t t' = (h : B → Option B) (k : A → Option B) → Agree R h k
      → map_param h t' ≡ map_param k t

  abbrev pub SameExp : tree.Exp A → tree.Exp B → Type 0
  SameExp t t' = (h : B → Option B) (k : A → Option B) → Agree R h k → map_exp h t' ≡ map_exp k t

  abbrev pub SameTarget : tree.Target A → tree.Target B → Type 0
  SameTarget t t' = (h : B → Option B) (k : A → Option B) → Agree R h k
      → map_target h t' ≡ map_target k t

  abbrev pub SameExps : tree.Exps A → tree.Exps B → Type 0
  SameExps t t' = (h : B → Option B) (k : A → Option B) → Agree R h k → map_exps h t' ≡ map_exps k t

  abbrev pub SameStmt : statement.Stmt A → statement.Stmt B → Type 0
  SameStmt t t' = (h : B → Option B) (k : A → Option B) → Agree R h k → map_stmt h t' ≡ map_stmt k t

  abbrev pub SameElse : statement.Else A → statement.Else B → Type 0
  SameElse t t' = (h : B → Option B) (k : A → Option B) → Agree R h k → map_else h t' ≡ map_else k t

  abbrev pub SameStmts : statement.Stmts A → statement.Stmts B → Type 0
  SameStmts t t' = (h : B → Option B) (k : A → Option B) → Agree R h k
      → map_stmts h t' ≡ map_stmts k t

  abbrev pub SameMember : member.Member A → member.Member B → Type 0
  SameMember t t' = (h : B → Option B) (k : A → Option B) → Agree R h k
      → map_member h t' ≡ map_member k t

  abbrev pub SameMembers : member.Members A → member.Members B → Type 0
  SameMembers t t' = (h : B → Option B) (k : A → Option B) → Agree R h k
      → map_members h t' ≡ map_members k t

  abbrev pub SameClass : member.Class A → member.Class B → Type 0
  SameClass t t' = (h : B → Option B) (k : A → Option B) → Agree R h k
      → map_class h t' ≡ map_class k t

  abbrev pub SameUnit : member.Unit A → member.Unit B → Type 0
  SameUnit t t' = (h : B → Option B) (k : A → Option B) → Agree R h k → map_unit h t' ≡ map_unit k t

  abbrev pub SameModifier : member.Modifier A → member.Modifier B → Type 0
  SameModifier t t' = (h : B → Option B) (k : A → Option B) → Agree R h k
      → map_modifier h t' ≡ map_modifier k t

  abbrev pub SameWords : List (tree.Word A) → List (tree.Word B) → Type 0
  SameWords t t' = (h : B → Option B) (k : A → Option B) → Agree R h k
      → map (map_word h) t' ≡ map (map_word k) t

  abbrev pub SameParams : List (member.Param A) → List (member.Param B) → Type 0
  SameParams t t' = (h : B → Option B) (k : A → Option B) → Agree R h k
      → map (map_param h) t' ≡ map (map_param k) t

  abbrev pub SameClasses : List (member.Class A) → List (member.Class B) → Type 0
  SameClasses t t' = (h : B → Option B) (k : A → Option B) → Agree R h k
      → map (map_class h) t' ≡ map (map_class k) t

  abbrev pub SameMaybeType : Option (tree.TypeName A) → Option (tree.TypeName B) → Type 0
  SameMaybeType t t' = (h : B → Option B) (k : A → Option B) → Agree R h k
      → option_map (map_type h) t' ≡ option_map (map_type k) t

  abbrev pub SameMaybeExp : Option (tree.Exp A) → Option (tree.Exp B) → Type 0
  SameMaybeExp t t' = (h : B → Option B) (k : A → Option B) → Agree R h k
      → option_map (map_exp h) t' ≡ option_map (map_exp k) t

  abbrev pub SameMaybeExps : Option (tree.Exps A) → Option (tree.Exps B) → Type 0
  SameMaybeExps t t' = (h : B → Option B) (k : A → Option B) → Agree R h k
      → option_map (map_exps h) t' ≡ option_map (map_exps k) t
