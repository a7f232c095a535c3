-- The method that stays where its body goes to a static method of another class: it calls that one
-- with `this` and its parameters (JLS 8.4.3.2, 15.12).
use Rattle.std.specs.Prelude.{◌≡◌, ℕ, ◌+◌, List, [], ◌∷◌, ◌++◌, Option, Some, None, codes, if◌then◌else◌}
use Rattle.jr_text.specs.declared.spans.Span.{Span}
use Rattle.jr_ast.specs.Tree as tree
use Rattle.jr_ast.specs.StatementTree as statement
use Rattle.jr_ast.specs.MemberTree as syntax
use Rattle.jr_grammar.specs.Layout.{itself}
use Rattle.jr_table.specs.Keys.{ClassKey, MethodKey}
use Rattle.jr_table.specs.Decls.{class_decl, method_decl}
use Rattle.jr_table.specs.Rows.{Row}
use Rattle.jr_table.specs.Lookup.{FindsLeft, FindsMethodOf}
use Rattle.jr_table.specs.Context.{Context}
use Rattle.jr_spell.specs.declared.references.RefForm.TheVariants as ref
use Rattle.jr_rewrite.specs.Respellings.{Choice, front_of, front_text}
use Rattle.jr_rewrite.specs.Rewritten.{
  count_of,
  losses_of,
  new_word,
  operand_to,
  target_of,
  drops_operand,
  operand_respelled,
  operand_losses,
}
use Rattle.jr_images.specs.Words.{InFront, FindsBehind, FirstWord}
use Rattle.jr_images.specs.Regions.{Region}
use Rattle.jr_images.specs.Spelling.{TakenChoice, there, reference, behind_words, operand_of}
use Rattle.jr_local.specs.Bodies.{begins}
use Rattle.jr_member_parts.specs.MadeCalls.{Made, made_front}

-- ---- the arguments

abbrev pub more_args : Span → List (syntax.Param Span) → tree.Exps Span
more_args m [] = tree.end
more_args m (p ∷ ps) = tree.more (tree.name m (new_word m p.name.text)) (more_args m ps)

abbrev pub more_args_text : List (syntax.Param Span) → List ℕ
more_args_text [] = []
more_args_text (p ∷ ps) = codes ", " ++ (p.name.text ++ more_args_text ps)

-- ---- the call

-- `f` is chosen for the class, `h` for the method, which may bring a class of its own in front
abbrev pub made_call : (f h : Choice) → Span → (of name : List ℕ) → List (syntax.Param Span)
    → Made (tree.Exp Span)
made_call f h m of name ps = record {
  tree = tree.call m
      (target_of (operand_to m (front_of h) (Some (made_front f m of).tree)))
      (new_word m name) (tree.more (tree.this m) (more_args m ps));
  text = (if drops_operand (front_of h) then front_text (front_of h)
      else (made_front f m of).text ++ codes ".")
      ++ (name ++ (codes "(this" ++ (more_args_text ps ++ codes ")")));
  respelled = operand_respelled itself h (made_front f m of).respelled + count_of h;
  losses = operand_losses itself h (made_front f m of).losses ++ losses_of h;
}

-- of a method with a result, or of a `void` one
abbrev pub call_statement : Span → Option (tree.TypeName Span) → tree.Exp Span
    → statement.Stmt Span
call_statement m None e = statement.eval m e
call_statement m (Some t) e = statement.return m (Some e)

abbrev pub call_word : Option (tree.TypeName Span) → List ℕ
call_word None = []
call_word (Some t) = codes "return "

abbrev pub body_of_call : Span → Option (tree.TypeName Span) → Made (tree.Exp Span)
    → Made (statement.Stmts Span)
body_of_call m t e = record {
  tree = statement.more (call_statement m t e.tree) statement.end;
  text = codes "{ " ++ (call_word t ++ (e.text ++ codes "; }"));
  respelled = e.respelled;
  losses = e.losses;
}

-- ---- how it is spelled, from a place c of the old program

module _ (rows : List Row) (R : Region Span) (new : MethodKey) where
  abbrev pub FrontChoice : Context → (at : ℕ) → InFront → Choice → Type 0
  FrontChoice c at v h = TakenChoice begins rows R (there begins rows R c) at new.class.name
      new.class.name (class_decl new.class) (class_decl new.class)
      (behind_words v (reference ref.ClassInFront new.class.name None []))
      (FindsLeft R.seen.images.rows (there begins rows R c) new.class.name) h

  abbrev pub NameChoice : Context → (at : ℕ) → InFront → Choice → Type 0
  NameChoice c at v h = TakenChoice begins rows R (there begins rows R c) at new.name new.name
      (method_decl new) (method_decl new)
      (behind_words v (reference ref.ThroughClass new.name (operand_of new.class) new.params))
      (FindsBehind v (λ (k : ClassKey) f. FindsMethodOf R.seen.images.rows
      (there begins rows R c) k new.name new.params f)) h

  -- with these parameters and result; its losses have the place `at`
  abbrev pub Delegates : Context → (at : ℕ) → Span → Option (tree.TypeName Span)
      → List (syntax.Param Span) → Made (statement.Stmts Span) → Type 0
  Delegates c at m t ps o = (v : InFront) × FirstWord R.seen c new.class v
      × (f : Choice) × FrontChoice c at v f × (h : Choice) × NameChoice c at v h
      × (o ≡ body_of_call m t (made_call f h m new.class.name new.name ps))
