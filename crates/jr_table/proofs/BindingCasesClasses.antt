-- Errors of small programs, by place and rule: of classes and of their members.
use Rattle.std.proofs.Common.{◌≡◌, [], ◌∷◌, Some, None, true, false, refl}
use Rattle.std.specs.Prelude.{codes}
use Rattle.jr_ast.specs.declared.operators.ModWord.TheVariants as word
use Rattle.jr_ast.specs.Tree as tree
use Rattle.jr_ast.specs.StatementTree as statement
use Rattle.jr_ast.specs.MemberTree as syntax
use Rattle.jr_table.specs.Entries.{number_of, entries_of}
use Rattle.jr_table.specs.Chains.{chain_of}
use Rattle.jr_table.specs.Looking.{own_row, nearest, member}
use Rattle.jr_table.specs.Access.{is_accessible, lacks_object}
use Rattle.jr_table.specs.Calls.{assignable, as_specific, is_named, is_ctor, methods_named, ctors_in, choose_at, find_method, find_ctor, find_call}
use Rattle.jr_table.specs.Fields.{find_field, find_field_of, find_member_type}
use Rattle.jr_table.specs.TypeNames.{find_type}
use Rattle.jr_table.specs.Scope.{last_named}
use Rattle.jr_table.specs.Lookup.{shown, find_variable, find_type_named, find_type_of, find_field_in, find_method_named, find_method_of, find_ctor_of}
use Rattle.jr_table.specs.Context.{locals_in, locals_in_else, locals_in_row}
use Rattle.jr_table.specs.Meanings.{row_of, find_left, find_left_of, type_of, class_name_of, target_found, types_of}
use Rattle.jr_table.specs.Notes.{breaks, own_notes, is_constant, is_true_literal, completes, else_completes, list_completes, own_stmt_notes}
use Rattle.jr_table.specs.Walks.{notes_of, target_notes, args_notes, stmt_notes, else_notes, stmts_notes, member_notes}
use Rattle.jr_table.specs.declared.rules.Rule.TheVariants as rule
use Rattle.jr_table.proofs.BindingSamples.{w, modifier, param, class_rows, members_rows, member_rows, class_notes, members_notes, one_notes, errors}

-- `class A{public void m(){}}class B extends A{void m(){}}`: javac refuses it
case_131 : errors 0 ((syntax.class 0 ([]) (w 6 (codes "A")) None (syntax.more (syntax.method 8
    ((modifier 8 word.Public) ∷ []) None (w 20 (codes "m")) ([]) statement.end) syntax.end)) ∷
    (syntax.class 26 ([]) (w 32 (codes "B")) (Some (tree.named 42 None (w 42 (codes "A"))))
    (syntax.more (syntax.method 44 ([]) None (w 49 (codes "m")) ([]) statement.end) syntax.end)) ∷
    []) ≡ breaks 49 rule.Override ∷ []
unfolding is_accessible lacks_object assignable as_specific is_named is_ctor methods_named ctors_in choose_at find_method find_ctor find_call find_field find_field_of find_member_type last_named find_type shown find_variable find_type_named find_type_of find_field_in find_method_named find_method_of find_ctor_of own_row nearest member number_of entries_of chain_of row_of find_left find_left_of type_of class_name_of target_found types_of own_notes is_constant is_true_literal completes else_completes list_completes own_stmt_notes notes_of target_notes args_notes stmt_notes else_notes stmts_notes member_notes locals_in locals_in_else locals_in_row class_rows members_rows member_rows class_notes members_notes one_notes
case_131 = refl

-- `class A{public void m(){}}class B extends A{public void m(){}}`: javac takes it
case_132 : errors 0 ((syntax.class 0 ([]) (w 6 (codes "A")) None (syntax.more (syntax.method 8
    ((modifier 8 word.Public) ∷ []) None (w 20 (codes "m")) ([]) statement.end) syntax.end)) ∷
    (syntax.class 26 ([]) (w 32 (codes "B")) (Some (tree.named 42 None (w 42 (codes "A"))))
    (syntax.more (syntax.method 44 ((modifier 44 word.Public) ∷ []) None (w 56 (codes "m")) ([])
    statement.end) syntax.end)) ∷ []) ≡ []
unfolding is_accessible lacks_object assignable as_specific is_named is_ctor methods_named ctors_in choose_at find_method find_ctor find_call find_field find_field_of find_member_type last_named find_type shown find_variable find_type_named find_type_of find_field_in find_method_named find_method_of find_ctor_of own_row nearest member number_of entries_of chain_of row_of find_left find_left_of type_of class_name_of target_found types_of own_notes is_constant is_true_literal completes else_completes list_completes own_stmt_notes notes_of target_notes args_notes stmt_notes else_notes stmts_notes member_notes locals_in locals_in_else locals_in_row class_rows members_rows member_rows class_notes members_notes one_notes
case_132 = refl

-- `class A{void m(){}}class B extends A{static void m(){}}`: javac refuses it
case_133 : errors 0 ((syntax.class 0 ([]) (w 6 (codes "A")) None (syntax.more (syntax.method 8
    ([]) None (w 13 (codes "m")) ([]) statement.end) syntax.end)) ∷ (syntax.class 19 ([]) (w 25
    (codes "B")) (Some (tree.named 35 None (w 35 (codes "A")))) (syntax.more (syntax.method 37
    ((modifier 37 word.Static) ∷ []) None (w 49 (codes "m")) ([]) statement.end) syntax.end)) ∷
    []) ≡ breaks 49 rule.Override ∷ []
unfolding is_accessible lacks_object assignable as_specific is_named is_ctor methods_named ctors_in choose_at find_method find_ctor find_call find_field find_field_of find_member_type last_named find_type shown find_variable find_type_named find_type_of find_field_in find_method_named find_method_of find_ctor_of own_row nearest member number_of entries_of chain_of row_of find_left find_left_of type_of class_name_of target_found types_of own_notes is_constant is_true_literal completes else_completes list_completes own_stmt_notes notes_of target_notes args_notes stmt_notes else_notes stmts_notes member_notes locals_in locals_in_else locals_in_row class_rows members_rows member_rows class_notes members_notes one_notes
case_133 = refl

-- `class A{static void m(){}}class B extends A{static void m(){}}`: javac takes it
case_134 : errors 0 ((syntax.class 0 ([]) (w 6 (codes "A")) None (syntax.more (syntax.method 8
    ((modifier 8 word.Static) ∷ []) None (w 20 (codes "m")) ([]) statement.end) syntax.end)) ∷
    (syntax.class 26 ([]) (w 32 (codes "B")) (Some (tree.named 42 None (w 42 (codes "A"))))
    (syntax.more (syntax.method 44 ((modifier 44 word.Static) ∷ []) None (w 56 (codes "m")) ([])
    statement.end) syntax.end)) ∷ []) ≡ []
unfolding is_accessible lacks_object assignable as_specific is_named is_ctor methods_named ctors_in choose_at find_method find_ctor find_call find_field find_field_of find_member_type last_named find_type shown find_variable find_type_named find_type_of find_field_in find_method_named find_method_of find_ctor_of own_row nearest member number_of entries_of chain_of row_of find_left find_left_of type_of class_name_of target_found types_of own_notes is_constant is_true_literal completes else_completes list_completes own_stmt_notes notes_of target_notes args_notes stmt_notes else_notes stmts_notes member_notes locals_in locals_in_else locals_in_row class_rows members_rows member_rows class_notes members_notes one_notes
case_134 = refl

-- `class A{void m(){}}class B extends A{int m(){return 1;}}`: javac refuses it
case_135 : errors 0 ((syntax.class 0 ([]) (w 6 (codes "A")) None (syntax.more (syntax.method 8
    ([]) None (w 13 (codes "m")) ([]) statement.end) syntax.end)) ∷ (syntax.class 19 ([]) (w 25
    (codes "B")) (Some (tree.named 35 None (w 35 (codes "A")))) (syntax.more (syntax.method 37
    ([]) (Some (tree.int 37)) (w 41 (codes "m")) ([]) (statement.more (statement.return 45 (Some
    (tree.number 52 1))) statement.end)) syntax.end)) ∷ []) ≡ breaks 41 rule.Override ∷ []
unfolding is_accessible lacks_object assignable as_specific is_named is_ctor methods_named ctors_in choose_at find_method find_ctor find_call find_field find_field_of find_member_type last_named find_type shown find_variable find_type_named find_type_of find_field_in find_method_named find_method_of find_ctor_of own_row nearest member number_of entries_of chain_of row_of find_left find_left_of type_of class_name_of target_found types_of own_notes is_constant is_true_literal completes else_completes list_completes own_stmt_notes notes_of target_notes args_notes stmt_notes else_notes stmts_notes member_notes locals_in locals_in_else locals_in_row class_rows members_rows member_rows class_notes members_notes one_notes
case_135 = refl

-- `class A{void m(){}}class B extends A{int m(int a){return 1;}}`: javac takes it
case_136 : errors 0 ((syntax.class 0 ([]) (w 6 (codes "A")) None (syntax.more (syntax.method 8
    ([]) None (w 13 (codes "m")) ([]) statement.end) syntax.end)) ∷ (syntax.class 19 ([]) (w 25
    (codes "B")) (Some (tree.named 35 None (w 35 (codes "A")))) (syntax.more (syntax.method 37
    ([]) (Some (tree.int 37)) (w 41 (codes "m")) ((param 43 false (tree.int 43) (w 47 (codes
    "a"))) ∷ []) (statement.more (statement.return 50 (Some (tree.number 57 1))) statement.end))
    syntax.end)) ∷ []) ≡ []
unfolding is_accessible lacks_object assignable as_specific is_named is_ctor methods_named ctors_in choose_at find_method find_ctor find_call find_field find_field_of find_member_type last_named find_type shown find_variable find_type_named find_type_of find_field_in find_method_named find_method_of find_ctor_of own_row nearest member number_of entries_of chain_of row_of find_left find_left_of type_of class_name_of target_found types_of own_notes is_constant is_true_literal completes else_completes list_completes own_stmt_notes notes_of target_notes args_notes stmt_notes else_notes stmts_notes member_notes locals_in locals_in_else locals_in_row class_rows members_rows member_rows class_notes members_notes one_notes
case_136 = refl

-- `class A{final void m(){}}class B extends A{void m(){}}`: javac refuses it
case_137 : errors 0 ((syntax.class 0 ([]) (w 6 (codes "A")) None (syntax.more (syntax.method 8
    ((modifier 8 word.Final) ∷ []) None (w 19 (codes "m")) ([]) statement.end) syntax.end)) ∷
    (syntax.class 25 ([]) (w 31 (codes "B")) (Some (tree.named 41 None (w 41 (codes "A"))))
    (syntax.more (syntax.method 43 ([]) None (w 48 (codes "m")) ([]) statement.end) syntax.end)) ∷
    []) ≡ breaks 48 rule.Override ∷ []
unfolding is_accessible lacks_object assignable as_specific is_named is_ctor methods_named ctors_in choose_at find_method find_ctor find_call find_field find_field_of find_member_type last_named find_type shown find_variable find_type_named find_type_of find_field_in find_method_named find_method_of find_ctor_of own_row nearest member number_of entries_of chain_of row_of find_left find_left_of type_of class_name_of target_found types_of own_notes is_constant is_true_literal completes else_completes list_completes own_stmt_notes notes_of target_notes args_notes stmt_notes else_notes stmts_notes member_notes locals_in locals_in_else locals_in_row class_rows members_rows member_rows class_notes members_notes one_notes
case_137 = refl

-- `class A{void m(){}}class B extends A{final void m(){}}`: javac takes it
case_138 : errors 0 ((syntax.class 0 ([]) (w 6 (codes "A")) None (syntax.more (syntax.method 8
    ([]) None (w 13 (codes "m")) ([]) statement.end) syntax.end)) ∷ (syntax.class 19 ([]) (w 25
    (codes "B")) (Some (tree.named 35 None (w 35 (codes "A")))) (syntax.more (syntax.method 37
    ((modifier 37 word.Final) ∷ []) None (w 48 (codes "m")) ([]) statement.end) syntax.end)) ∷ [])
    ≡ []
unfolding is_accessible lacks_object assignable as_specific is_named is_ctor methods_named ctors_in choose_at find_method find_ctor find_call find_field find_field_of find_member_type last_named find_type shown find_variable find_type_named find_type_of find_field_in find_method_named find_method_of find_ctor_of own_row nearest member number_of entries_of chain_of row_of find_left find_left_of type_of class_name_of target_found types_of own_notes is_constant is_true_literal completes else_completes list_completes own_stmt_notes notes_of target_notes args_notes stmt_notes else_notes stmts_notes member_notes locals_in locals_in_else locals_in_row class_rows members_rows member_rows class_notes members_notes one_notes
case_138 = refl

-- `class A{private void m(){}}class B extends A{static int m(){return 1;}}`: javac takes it
case_139 : errors 0 ((syntax.class 0 ([]) (w 6 (codes "A")) None (syntax.more (syntax.method 8
    ((modifier 8 word.Private) ∷ []) None (w 21 (codes "m")) ([]) statement.end) syntax.end)) ∷
    (syntax.class 27 ([]) (w 33 (codes "B")) (Some (tree.named 43 None (w 43 (codes "A"))))
    (syntax.more (syntax.method 45 ((modifier 45 word.Static) ∷ []) (Some (tree.int 52)) (w 56
    (codes "m")) ([]) (statement.more (statement.return 60 (Some (tree.number 67 1)))
    statement.end)) syntax.end)) ∷ []) ≡ []
unfolding is_accessible lacks_object assignable as_specific is_named is_ctor methods_named ctors_in choose_at find_method find_ctor find_call find_field find_field_of find_member_type last_named find_type shown find_variable find_type_named find_type_of find_field_in find_method_named find_method_of find_ctor_of own_row nearest member number_of entries_of chain_of row_of find_left find_left_of type_of class_name_of target_found types_of own_notes is_constant is_true_literal completes else_completes list_completes own_stmt_notes notes_of target_notes args_notes stmt_notes else_notes stmts_notes member_notes locals_in locals_in_else locals_in_row class_rows members_rows member_rows class_notes members_notes one_notes
case_139 = refl

-- `class A{A m(){return null;}}class B extends A{B m(){return null;}}`: javac takes it
case_140 : errors 0 ((syntax.class 0 ([]) (w 6 (codes "A")) None (syntax.more (syntax.method 8
    ([]) (Some (tree.named 8 None (w 8 (codes "A")))) (w 10 (codes "m")) ([]) (statement.more
    (statement.return 14 (Some (tree.null 21))) statement.end)) syntax.end)) ∷ (syntax.class 28
    ([]) (w 34 (codes "B")) (Some (tree.named 44 None (w 44 (codes "A")))) (syntax.more
    (syntax.method 46 ([]) (Some (tree.named 46 None (w 46 (codes "B")))) (w 48 (codes "m")) ([])
    (statement.more (statement.return 52 (Some (tree.null 59))) statement.end)) syntax.end)) ∷ [])
    ≡ breaks 48 rule.Override ∷ []
unfolding is_accessible lacks_object assignable as_specific is_named is_ctor methods_named ctors_in choose_at find_method find_ctor find_call find_field find_field_of find_member_type last_named find_type shown find_variable find_type_named find_type_of find_field_in find_method_named find_method_of find_ctor_of own_row nearest member number_of entries_of chain_of row_of find_left find_left_of type_of class_name_of target_found types_of own_notes is_constant is_true_literal completes else_completes list_completes own_stmt_notes notes_of target_notes args_notes stmt_notes else_notes stmts_notes member_notes locals_in locals_in_else locals_in_row class_rows members_rows member_rows class_notes members_notes one_notes
case_140 = refl

-- `class A extends Thread{void run(){}}`: javac refuses it
case_141 : errors 0 ((syntax.class 0 ([]) (w 6 (codes "A")) (Some (tree.named 16 None (w 16 (codes
    "Thread")))) (syntax.more (syntax.method 23 ([]) None (w 28 (codes "run")) ([]) statement.end)
    syntax.end)) ∷ []) ≡ breaks 28 rule.Override ∷ []
unfolding is_accessible lacks_object assignable as_specific is_named is_ctor methods_named ctors_in choose_at find_method find_ctor find_call find_field find_field_of find_member_type last_named find_type shown find_variable find_type_named find_type_of find_field_in find_method_named find_method_of find_ctor_of own_row nearest member number_of entries_of chain_of row_of find_left find_left_of type_of class_name_of target_found types_of own_notes is_constant is_true_literal completes else_completes list_completes own_stmt_notes notes_of target_notes args_notes stmt_notes else_notes stmts_notes member_notes locals_in locals_in_else locals_in_row class_rows members_rows member_rows class_notes members_notes one_notes
case_141 = refl

-- `class A extends Thread{public void run(){}}`: javac takes it
case_142 : errors 0 ((syntax.class 0 ([]) (w 6 (codes "A")) (Some (tree.named 16 None (w 16 (codes
    "Thread")))) (syntax.more (syntax.method 23 ((modifier 23 word.Public) ∷ []) None (w 35 (codes
    "run")) ([]) statement.end) syntax.end)) ∷ []) ≡ []
unfolding is_accessible lacks_object assignable as_specific is_named is_ctor methods_named ctors_in choose_at find_method find_ctor find_call find_field find_field_of find_member_type last_named find_type shown find_variable find_type_named find_type_of find_field_in find_method_named find_method_of find_ctor_of own_row nearest member number_of entries_of chain_of row_of find_left find_left_of type_of class_name_of target_found types_of own_notes is_constant is_true_literal completes else_completes list_completes own_stmt_notes notes_of target_notes args_notes stmt_notes else_notes stmts_notes member_notes locals_in locals_in_else locals_in_row class_rows members_rows member_rows class_notes members_notes one_notes
case_142 = refl

-- `class A{A(int a){}}class B extends A{}`: javac refuses it
case_143 : errors 0 ((syntax.class 0 ([]) (w 6 (codes "A")) None (syntax.more (syntax.constructor
    8 ([]) (w 8 (codes "A")) ((param 10 false (tree.int 10) (w 14 (codes "a"))) ∷ []) None
    statement.end) syntax.end)) ∷ (syntax.class 19 ([]) (w 25 (codes "B")) (Some (tree.named 35
    None (w 35 (codes "A")))) syntax.end) ∷ []) ≡ breaks 25 rule.SuperCtor ∷ []
unfolding is_accessible lacks_object assignable as_specific is_named is_ctor methods_named ctors_in choose_at find_method find_ctor find_call find_field find_field_of find_member_type last_named find_type shown find_variable find_type_named find_type_of find_field_in find_method_named find_method_of find_ctor_of own_row nearest member number_of entries_of chain_of row_of find_left find_left_of type_of class_name_of target_found types_of own_notes is_constant is_true_literal completes else_completes list_completes own_stmt_notes notes_of target_notes args_notes stmt_notes else_notes stmts_notes member_notes locals_in locals_in_else locals_in_row class_rows members_rows member_rows class_notes members_notes one_notes
case_143 = refl

-- `class A{A(int a){}}class B extends A{B(){super(1);}}`: javac takes it
case_144 : errors 41 ((syntax.class 0 ([]) (w 6 (codes "A")) None (syntax.more (syntax.constructor
    8 ([]) (w 8 (codes "A")) ((param 10 false (tree.int 10) (w 14 (codes "a"))) ∷ []) None
    statement.end) syntax.end)) ∷ (syntax.class 19 ([]) (w 25 (codes "B")) (Some (tree.named 35
    None (w 35 (codes "A")))) (syntax.more (syntax.constructor 37 ([]) (w 37 (codes "B")) ([])
    (Some (tree.more (tree.number 47 1) tree.end)) statement.end) syntax.end)) ∷ []) ≡ []
unfolding is_accessible lacks_object assignable as_specific is_named is_ctor methods_named ctors_in choose_at find_method find_ctor find_call find_field find_field_of find_member_type last_named find_type shown find_variable find_type_named find_type_of find_field_in find_method_named find_method_of find_ctor_of own_row nearest member number_of entries_of chain_of row_of find_left find_left_of type_of class_name_of target_found types_of own_notes is_constant is_true_literal completes else_completes list_completes own_stmt_notes notes_of target_notes args_notes stmt_notes else_notes stmts_notes member_notes locals_in locals_in_else locals_in_row class_rows members_rows member_rows class_notes members_notes one_notes
case_144 = refl

-- `class A{A(int a){}}class B extends A{B(){}}`: javac refuses it
case_145 : errors 0 ((syntax.class 0 ([]) (w 6 (codes "A")) None (syntax.more (syntax.constructor
    8 ([]) (w 8 (codes "A")) ((param 10 false (tree.int 10) (w 14 (codes "a"))) ∷ []) None
    statement.end) syntax.end)) ∷ (syntax.class 19 ([]) (w 25 (codes "B")) (Some (tree.named 35
    None (w 35 (codes "A")))) (syntax.more (syntax.constructor 37 ([]) (w 37 (codes "B")) ([])
    None statement.end) syntax.end)) ∷ []) ≡ breaks 37 rule.SuperCtor ∷ []
unfolding is_accessible lacks_object assignable as_specific is_named is_ctor methods_named ctors_in choose_at find_method find_ctor find_call find_field find_field_of find_member_type last_named find_type shown find_variable find_type_named find_type_of find_field_in find_method_named find_method_of find_ctor_of own_row nearest member number_of entries_of chain_of row_of find_left find_left_of type_of class_name_of target_found types_of own_notes is_constant is_true_literal completes else_completes list_completes own_stmt_notes notes_of target_notes args_notes stmt_notes else_notes stmts_notes member_notes locals_in locals_in_else locals_in_row class_rows members_rows member_rows class_notes members_notes one_notes
case_145 = refl

-- `class A{A(){}}class B extends A{B(){}}`: javac takes it
case_146 : errors 0 ((syntax.class 0 ([]) (w 6 (codes "A")) None (syntax.more (syntax.constructor
    8 ([]) (w 8 (codes "A")) ([]) None statement.end) syntax.end)) ∷ (syntax.class 14 ([]) (w 20
    (codes "B")) (Some (tree.named 30 None (w 30 (codes "A")))) (syntax.more (syntax.constructor
    32 ([]) (w 32 (codes "B")) ([]) None statement.end) syntax.end)) ∷ []) ≡ []
unfolding is_accessible lacks_object assignable as_specific is_named is_ctor methods_named ctors_in choose_at find_method find_ctor find_call find_field find_field_of find_member_type last_named find_type shown find_variable find_type_named find_type_of find_field_in find_method_named find_method_of find_ctor_of own_row nearest member number_of entries_of chain_of row_of find_left find_left_of type_of class_name_of target_found types_of own_notes is_constant is_true_literal completes else_completes list_completes own_stmt_notes notes_of target_notes args_notes stmt_notes else_notes stmts_notes member_notes locals_in locals_in_else locals_in_row class_rows members_rows member_rows class_notes members_notes one_notes
case_146 = refl

-- `final class A{}class B extends A{}`: javac refuses it
case_147 : errors 0 ((syntax.class 0 ((modifier 0 word.Final) ∷ []) (w 12 (codes "A")) None
    syntax.end) ∷ (syntax.class 15 ([]) (w 21 (codes "B")) (Some (tree.named 31 None (w 31 (codes
    "A")))) syntax.end) ∷ []) ≡ breaks 31 rule.FinalClass ∷ []
unfolding is_accessible lacks_object assignable as_specific is_named is_ctor methods_named ctors_in choose_at find_method find_ctor find_call find_field find_field_of find_member_type last_named find_type shown find_variable find_type_named find_type_of find_field_in find_method_named find_method_of find_ctor_of own_row nearest member number_of entries_of chain_of row_of find_left find_left_of type_of class_name_of target_found types_of own_notes is_constant is_true_literal completes else_completes list_completes own_stmt_notes notes_of target_notes args_notes stmt_notes else_notes stmts_notes member_notes locals_in locals_in_else locals_in_row class_rows members_rows member_rows class_notes members_notes one_notes
case_147 = refl

-- `class A{}class B extends A{}`: javac takes it
case_148 : errors 0 ((syntax.class 0 ([]) (w 6 (codes "A")) None syntax.end) ∷ (syntax.class 9
    ([]) (w 15 (codes "B")) (Some (tree.named 25 None (w 25 (codes "A")))) syntax.end) ∷ []) ≡ []
unfolding is_accessible lacks_object assignable as_specific is_named is_ctor methods_named ctors_in choose_at find_method find_ctor find_call find_field find_field_of find_member_type last_named find_type shown find_variable find_type_named find_type_of find_field_in find_method_named find_method_of find_ctor_of own_row nearest member number_of entries_of chain_of row_of find_left find_left_of type_of class_name_of target_found types_of own_notes is_constant is_true_literal completes else_completes list_completes own_stmt_notes notes_of target_notes args_notes stmt_notes else_notes stmts_notes member_notes locals_in locals_in_else locals_in_row class_rows members_rows member_rows class_notes members_notes one_notes
case_148 = refl

-- `class B extends String{}`: javac refuses it
case_149 : errors 0 ((syntax.class 0 ([]) (w 6 (codes "B")) (Some (tree.named 16 None (w 16 (codes
    "String")))) syntax.end) ∷ []) ≡ breaks 6 rule.SuperCtor ∷ breaks 16 rule.FinalClass ∷ []
unfolding is_accessible lacks_object assignable as_specific is_named is_ctor methods_named ctors_in choose_at find_method find_ctor find_call find_field find_field_of find_member_type last_named find_type shown find_variable find_type_named find_type_of find_field_in find_method_named find_method_of find_ctor_of own_row nearest member number_of entries_of chain_of row_of find_left find_left_of type_of class_name_of target_found types_of own_notes is_constant is_true_literal completes else_completes list_completes own_stmt_notes notes_of target_notes args_notes stmt_notes else_notes stmts_notes member_notes locals_in locals_in_else locals_in_row class_rows members_rows member_rows class_notes members_notes one_notes
case_149 = refl

-- `class A{boolean equals(int a){return true;}}`: javac takes it
case_150 : errors 0 ((syntax.class 0 ([]) (w 6 (codes "A")) None (syntax.more (syntax.method 8
    ([]) (Some (tree.boolean 8)) (w 16 (codes "equals")) ((param 23 false (tree.int 23) (w 27
    (codes "a"))) ∷ []) (statement.more (statement.return 30 (Some (tree.truth 37 true)))
    statement.end)) syntax.end)) ∷ []) ≡ breaks 16 rule.ObjectMethod ∷ []
unfolding is_accessible lacks_object assignable as_specific is_named is_ctor methods_named ctors_in choose_at find_method find_ctor find_call find_field find_field_of find_member_type last_named find_type shown find_variable find_type_named find_type_of find_field_in find_method_named find_method_of find_ctor_of own_row nearest member number_of entries_of chain_of row_of find_left find_left_of type_of class_name_of target_found types_of own_notes is_constant is_true_literal completes else_completes list_completes own_stmt_notes notes_of target_notes args_notes stmt_notes else_notes stmts_notes member_notes locals_in locals_in_else locals_in_row class_rows members_rows member_rows class_notes members_notes one_notes
case_150 = refl

-- `class A{boolean equal(int a){return true;}}`: javac takes it
case_151 : errors 0 ((syntax.class 0 ([]) (w 6 (codes "A")) None (syntax.more (syntax.method 8
    ([]) (Some (tree.boolean 8)) (w 16 (codes "equal")) ((param 22 false (tree.int 22) (w 26
    (codes "a"))) ∷ []) (statement.more (statement.return 29 (Some (tree.truth 36 true)))
    statement.end)) syntax.end)) ∷ []) ≡ []
unfolding is_accessible lacks_object assignable as_specific is_named is_ctor methods_named ctors_in choose_at find_method find_ctor find_call find_field find_field_of find_member_type last_named find_type shown find_variable find_type_named find_type_of find_field_in find_method_named find_method_of find_ctor_of own_row nearest member number_of entries_of chain_of row_of find_left find_left_of type_of class_name_of target_found types_of own_notes is_constant is_true_literal completes else_completes list_completes own_stmt_notes notes_of target_notes args_notes stmt_notes else_notes stmts_notes member_notes locals_in locals_in_else locals_in_row class_rows members_rows member_rows class_notes members_notes one_notes
case_151 = refl

-- `class A{void m(){hashCode();}}`: javac takes it
case_152 : errors 0 ((syntax.class 0 ([]) (w 6 (codes "A")) None (syntax.more (syntax.method 8
    ([]) None (w 13 (codes "m")) ([]) (statement.more (statement.eval 17 (tree.call 17
    tree.no_target (w 17 (codes "hashCode")) tree.end)) statement.end)) syntax.end)) ∷ []) ≡
    breaks 17 rule.NoMethod ∷ breaks 17 rule.ObjectMethod ∷ []
unfolding is_accessible lacks_object assignable as_specific is_named is_ctor methods_named ctors_in choose_at find_method find_ctor find_call find_field find_field_of find_member_type last_named find_type shown find_variable find_type_named find_type_of find_field_in find_method_named find_method_of find_ctor_of own_row nearest member number_of entries_of chain_of row_of find_left find_left_of type_of class_name_of target_found types_of own_notes is_constant is_true_literal completes else_completes list_completes own_stmt_notes notes_of target_notes args_notes stmt_notes else_notes stmts_notes member_notes locals_in locals_in_else locals_in_row class_rows members_rows member_rows class_notes members_notes one_notes
case_152 = refl

-- `class A{int f;static class K{}int m(){int A=1;return A.f;}}`: javac refuses it
case_153 : errors 0 ((syntax.class 0 ([]) (w 6 (codes "A")) None (syntax.more (syntax.field 8 ([])
    (tree.int 8) (w 12 (codes "f")) None) (syntax.more (syntax.inner 14 (syntax.class 14
    ((modifier 14 word.Static) ∷ []) (w 27 (codes "K")) None syntax.end)) (syntax.more
    (syntax.method 30 ([]) (Some (tree.int 30)) (w 34 (codes "m")) ([]) (statement.more
    (statement.local 38 false (tree.int 38) (w 42 (codes "A")) (tree.number 44 1)) (statement.more
    (statement.return 46 (Some (tree.field 53 (tree.name 53 (w 53 (codes "A"))) (w 55 (codes
    "f"))))) statement.end))) syntax.end)))) ∷ []) ≡ breaks 53 rule.TypeMismatch ∷ breaks 55
    rule.NoVariable ∷ []
unfolding is_accessible lacks_object assignable as_specific is_named is_ctor methods_named ctors_in choose_at find_method find_ctor find_call find_field find_field_of find_member_type last_named find_type shown find_variable find_type_named find_type_of find_field_in find_method_named find_method_of find_ctor_of own_row nearest member number_of entries_of chain_of row_of find_left find_left_of type_of class_name_of target_found types_of own_notes is_constant is_true_literal completes else_completes list_completes own_stmt_notes notes_of target_notes args_notes stmt_notes else_notes stmts_notes member_notes locals_in locals_in_else locals_in_row class_rows members_rows member_rows class_notes members_notes one_notes
case_153 = refl

-- `class A{static A a;int f;int m(){return A.a.f;}}`: javac takes it
case_154 : errors 0 ((syntax.class 0 ([]) (w 6 (codes "A")) None (syntax.more (syntax.field 8
    ((modifier 8 word.Static) ∷ []) (tree.named 15 None (w 15 (codes "A"))) (w 17 (codes "a"))
    None) (syntax.more (syntax.field 19 ([]) (tree.int 19) (w 23 (codes "f")) None) (syntax.more
    (syntax.method 25 ([]) (Some (tree.int 25)) (w 29 (codes "m")) ([]) (statement.more
    (statement.return 33 (Some (tree.field 40 (tree.field 40 (tree.name 40 (w 40 (codes "A"))) (w
    42 (codes "a"))) (w 44 (codes "f"))))) statement.end)) syntax.end)))) ∷ []) ≡ []
unfolding is_accessible lacks_object assignable as_specific is_named is_ctor methods_named ctors_in choose_at find_method find_ctor find_call find_field find_field_of find_member_type last_named find_type shown find_variable find_type_named find_type_of find_field_in find_method_named find_method_of find_ctor_of own_row nearest member number_of entries_of chain_of row_of find_left find_left_of type_of class_name_of target_found types_of own_notes is_constant is_true_literal completes else_completes list_completes own_stmt_notes notes_of target_notes args_notes stmt_notes else_notes stmts_notes member_notes locals_in locals_in_else locals_in_row class_rows members_rows member_rows class_notes members_notes one_notes
case_154 = refl

-- `class A{static class K{static K k;int f;}int m(){return A.K.k.f;}}`: javac takes it
case_155 : errors 0 ((syntax.class 0 ([]) (w 6 (codes "A")) None (syntax.more (syntax.inner 8
    (syntax.class 8 ((modifier 8 word.Static) ∷ []) (w 21 (codes "K")) None (syntax.more
    (syntax.field 23 ((modifier 23 word.Static) ∷ []) (tree.named 30 None (w 30 (codes "K"))) (w
    32 (codes "k")) None) (syntax.more (syntax.field 34 ([]) (tree.int 34) (w 38 (codes "f"))
    None) syntax.end)))) (syntax.more (syntax.method 41 ([]) (Some (tree.int 41)) (w 45 (codes
    "m")) ([]) (statement.more (statement.return 49 (Some (tree.field 56 (tree.field 56
    (tree.field 56 (tree.name 56 (w 56 (codes "A"))) (w 58 (codes "K"))) (w 60 (codes "k"))) (w 62
    (codes "f"))))) statement.end)) syntax.end))) ∷ []) ≡ []
unfolding is_accessible lacks_object assignable as_specific is_named is_ctor methods_named ctors_in choose_at find_method find_ctor find_call find_field find_field_of find_member_type last_named find_type shown find_variable find_type_named find_type_of find_field_in find_method_named find_method_of find_ctor_of own_row nearest member number_of entries_of chain_of row_of find_left find_left_of type_of class_name_of target_found types_of own_notes is_constant is_true_literal completes else_completes list_completes own_stmt_notes notes_of target_notes args_notes stmt_notes else_notes stmts_notes member_notes locals_in locals_in_else locals_in_row class_rows members_rows member_rows class_notes members_notes one_notes
case_155 = refl

-- `class A{static class K{}int m(){return A.L.f;}}`: javac refuses it
case_156 : errors 0 ((syntax.class 0 ([]) (w 6 (codes "A")) None (syntax.more (syntax.inner 8
    (syntax.class 8 ((modifier 8 word.Static) ∷ []) (w 21 (codes "K")) None syntax.end))
    (syntax.more (syntax.method 24 ([]) (Some (tree.int 24)) (w 28 (codes "m")) ([])
    (statement.more (statement.return 32 (Some (tree.field 39 (tree.field 39 (tree.name 39 (w 39
    (codes "A"))) (w 41 (codes "L"))) (w 43 (codes "f"))))) statement.end)) syntax.end))) ∷ []) ≡
    breaks 39 rule.TypeMismatch ∷ breaks 41 rule.NoType ∷ breaks 43 rule.NoVariable ∷ []
unfolding is_accessible lacks_object assignable as_specific is_named is_ctor methods_named ctors_in choose_at find_method find_ctor find_call find_field find_field_of find_member_type last_named find_type shown find_variable find_type_named find_type_of find_field_in find_method_named find_method_of find_ctor_of own_row nearest member number_of entries_of chain_of row_of find_left find_left_of type_of class_name_of target_found types_of own_notes is_constant is_true_literal completes else_completes list_completes own_stmt_notes notes_of target_notes args_notes stmt_notes else_notes stmts_notes member_notes locals_in locals_in_else locals_in_row class_rows members_rows member_rows class_notes members_notes one_notes
case_156 = refl

-- `class A{Z f;Z m(Z a){return a;}}`: javac refuses it, as a fault of the declarations; no rule of a member is broken
case_157 : errors 0 ((syntax.class 0 ([]) (w 6 (codes "A")) None (syntax.more (syntax.field 8 ([])
    (tree.named 8 None (w 8 (codes "Z"))) (w 10 (codes "f")) None) (syntax.more (syntax.method 12
    ([]) (Some (tree.named 12 None (w 12 (codes "Z")))) (w 14 (codes "m")) ((param 16 false
    (tree.named 16 None (w 16 (codes "Z"))) (w 18 (codes "a"))) ∷ []) (statement.more
    (statement.return 21 (Some (tree.name 28 (w 28 (codes "a"))))) statement.end)) syntax.end))) ∷
    []) ≡ []
unfolding is_accessible lacks_object assignable as_specific is_named is_ctor methods_named ctors_in choose_at find_method find_ctor find_call find_field find_field_of find_member_type last_named find_type shown find_variable find_type_named find_type_of find_field_in find_method_named find_method_of find_ctor_of own_row nearest member number_of entries_of chain_of row_of find_left find_left_of type_of class_name_of target_found types_of own_notes is_constant is_true_literal completes else_completes list_completes own_stmt_notes notes_of target_notes args_notes stmt_notes else_notes stmts_notes member_notes locals_in locals_in_else locals_in_row class_rows members_rows member_rows class_notes members_notes one_notes
case_157 = refl

-- `class O{private static class K{}}class A{O.K f;O.K m(O.K a){return a;}}`: javac refuses it
case_158 : errors 0 ((syntax.class 0 ([]) (w 6 (codes "O")) None (syntax.more (syntax.inner 8
    (syntax.class 8 ((modifier 8 word.Private) ∷ (modifier 16 word.Static) ∷ []) (w 29 (codes
    "K")) None syntax.end)) syntax.end)) ∷ (syntax.class 33 ([]) (w 39 (codes "A")) None
    (syntax.more (syntax.field 41 ([]) (tree.named 41 (Some (w 41 (codes "O"))) (w 43 (codes
    "K"))) (w 45 (codes "f")) None) (syntax.more (syntax.method 47 ([]) (Some (tree.named 47 (Some
    (w 47 (codes "O"))) (w 49 (codes "K")))) (w 51 (codes "m")) ((param 53 false (tree.named 53
    (Some (w 53 (codes "O"))) (w 55 (codes "K"))) (w 57 (codes "a"))) ∷ []) (statement.more
    (statement.return 60 (Some (tree.name 67 (w 67 (codes "a"))))) statement.end)) syntax.end))) ∷
    []) ≡ breaks 43 rule.Private ∷ breaks 49 rule.Private ∷ breaks 55 rule.Private ∷ []
unfolding is_accessible lacks_object assignable as_specific is_named is_ctor methods_named ctors_in choose_at find_method find_ctor find_call find_field find_field_of find_member_type last_named find_type shown find_variable find_type_named find_type_of find_field_in find_method_named find_method_of find_ctor_of own_row nearest member number_of entries_of chain_of row_of find_left find_left_of type_of class_name_of target_found types_of own_notes is_constant is_true_literal completes else_completes list_completes own_stmt_notes notes_of target_notes args_notes stmt_notes else_notes stmts_notes member_notes locals_in locals_in_else locals_in_row class_rows members_rows member_rows class_notes members_notes one_notes
case_158 = refl

-- `class O{private static class K{}static class L{K f;K m(K a){return a;}}}`: javac takes it
case_159 : errors 0 ((syntax.class 0 ([]) (w 6 (codes "O")) None (syntax.more (syntax.inner 8
    (syntax.class 8 ((modifier 8 word.Private) ∷ (modifier 16 word.Static) ∷ []) (w 29 (codes
    "K")) None syntax.end)) (syntax.more (syntax.inner 32 (syntax.class 32 ((modifier 32
    word.Static) ∷ []) (w 45 (codes "L")) None (syntax.more (syntax.field 47 ([]) (tree.named 47
    None (w 47 (codes "K"))) (w 49 (codes "f")) None) (syntax.more (syntax.method 51 ([]) (Some
    (tree.named 51 None (w 51 (codes "K")))) (w 53 (codes "m")) ((param 55 false (tree.named 55
    None (w 55 (codes "K"))) (w 57 (codes "a"))) ∷ []) (statement.more (statement.return 60 (Some
    (tree.name 67 (w 67 (codes "a"))))) statement.end)) syntax.end)))) syntax.end))) ∷ []) ≡ []
unfolding is_accessible lacks_object assignable as_specific is_named is_ctor methods_named ctors_in choose_at find_method find_ctor find_call find_field find_field_of find_member_type last_named find_type shown find_variable find_type_named find_type_of find_field_in find_method_named find_method_of find_ctor_of own_row nearest member number_of entries_of chain_of row_of find_left find_left_of type_of class_name_of target_found types_of own_notes is_constant is_true_literal completes else_completes list_completes own_stmt_notes notes_of target_notes args_notes stmt_notes else_notes stmts_notes member_notes locals_in locals_in_else locals_in_row class_rows members_rows member_rows class_notes members_notes one_notes
case_159 = refl

-- `class O{private static class K{}}class A{static class B extends O.K{}}`: javac refuses it
case_160 : errors 0 ((syntax.class 0 ([]) (w 6 (codes "O")) None (syntax.more (syntax.inner 8
    (syntax.class 8 ((modifier 8 word.Private) ∷ (modifier 16 word.Static) ∷ []) (w 29 (codes
    "K")) None syntax.end)) syntax.end)) ∷ (syntax.class 33 ([]) (w 39 (codes "A")) None
    (syntax.more (syntax.inner 41 (syntax.class 41 ((modifier 41 word.Static) ∷ []) (w 54 (codes
    "B")) (Some (tree.named 64 (Some (w 64 (codes "O"))) (w 66 (codes "K")))) syntax.end))
    syntax.end)) ∷ []) ≡ breaks 54 rule.SuperCtor ∷ breaks 66 rule.Private ∷ []
unfolding is_accessible lacks_object assignable as_specific is_named is_ctor methods_named ctors_in choose_at find_method find_ctor find_call find_field find_field_of find_member_type last_named find_type shown find_variable find_type_named find_type_of find_field_in find_method_named find_method_of find_ctor_of own_row nearest member number_of entries_of chain_of row_of find_left find_left_of type_of class_name_of target_found types_of own_notes is_constant is_true_literal completes else_completes list_completes own_stmt_notes notes_of target_notes args_notes stmt_notes else_notes stmts_notes member_notes locals_in locals_in_else locals_in_row class_rows members_rows member_rows class_notes members_notes one_notes
case_160 = refl
