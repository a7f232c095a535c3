-- Errors of small programs, by place and rule: of returning and of reaching.
use Rattle.std.proofs.Common.{◌≡◌, [], ◌∷◌, Some, None, true, false, refl}
use Rattle.std.specs.Prelude.{codes}
use Rattle.jr_ast.specs.declared.operators.ModWord.TheVariants as word
use Rattle.jr_ast.specs.declared.operators.BinOp.TheVariants as op
use Rattle.jr_ast.specs.Tree as tree
use Rattle.jr_ast.specs.StatementTree as statement
use Rattle.jr_ast.specs.MemberTree as syntax
use Rattle.jr_table.specs.Entries.{number_of, entries_of}
use Rattle.jr_table.specs.Chains.{chain_of}
use Rattle.jr_table.specs.Looking.{own_row, nearest, member}
use Rattle.jr_table.specs.Access.{is_accessible, lacks_object}
use Rattle.jr_table.specs.Calls.{assignable, as_specific, is_named, is_ctor, methods_named, ctors_in, choose_at, find_method, find_ctor, find_call}
use Rattle.jr_table.specs.Fields.{find_field, find_field_of, find_member_type}
use Rattle.jr_table.specs.TypeNames.{find_type}
use Rattle.jr_table.specs.Scope.{last_named}
use Rattle.jr_table.specs.Lookup.{shown, find_variable, find_type_named, find_type_of, find_field_in, find_method_named, find_method_of, find_ctor_of}
use Rattle.jr_table.specs.Context.{locals_in, locals_in_else, locals_in_row}
use Rattle.jr_table.specs.Meanings.{row_of, find_left, find_left_of, type_of, class_name_of, target_found, types_of}
use Rattle.jr_table.specs.Notes.{breaks, own_notes, is_constant, is_true_literal, completes, else_completes, list_completes, own_stmt_notes}
use Rattle.jr_table.specs.Walks.{notes_of, target_notes, args_notes, stmt_notes, else_notes, stmts_notes, member_notes}
use Rattle.jr_table.specs.declared.rules.Rule.TheVariants as rule
use Rattle.jr_table.proofs.BindingSamples.{w, modifier, param, class_rows, members_rows, member_rows, class_notes, members_notes, one_notes, errors}

-- `class A{void m(){return 1;}}`: javac refuses it
case_97 : errors 0 ((syntax.class 0 ([]) (w 6 (codes "A")) None (syntax.more (syntax.method 8 ([])
    None (w 13 (codes "m")) ([]) (statement.more (statement.return 17 (Some (tree.number 24 1)))
    statement.end)) syntax.end)) ∷ []) ≡ breaks 17 rule.ReturnForm ∷ []
unfolding is_accessible lacks_object assignable as_specific is_named is_ctor methods_named ctors_in choose_at find_method find_ctor find_call find_field find_field_of find_member_type last_named find_type shown find_variable find_type_named find_type_of find_field_in find_method_named find_method_of find_ctor_of own_row nearest member number_of entries_of chain_of row_of find_left find_left_of type_of class_name_of target_found types_of own_notes is_constant is_true_literal completes else_completes list_completes own_stmt_notes notes_of target_notes args_notes stmt_notes else_notes stmts_notes member_notes locals_in locals_in_else locals_in_row class_rows members_rows member_rows class_notes members_notes one_notes
case_97 = refl

-- `class A{void m(){return;}}`: javac takes it
case_98 : errors 0 ((syntax.class 0 ([]) (w 6 (codes "A")) None (syntax.more (syntax.method 8 ([])
    None (w 13 (codes "m")) ([]) (statement.more (statement.return 17 None) statement.end))
    syntax.end)) ∷ []) ≡ []
unfolding is_accessible lacks_object assignable as_specific is_named is_ctor methods_named ctors_in choose_at find_method find_ctor find_call find_field find_field_of find_member_type last_named find_type shown find_variable find_type_named find_type_of find_field_in find_method_named find_method_of find_ctor_of own_row nearest member number_of entries_of chain_of row_of find_left find_left_of type_of class_name_of target_found types_of own_notes is_constant is_true_literal completes else_completes list_completes own_stmt_notes notes_of target_notes args_notes stmt_notes else_notes stmts_notes member_notes locals_in locals_in_else locals_in_row class_rows members_rows member_rows class_notes members_notes one_notes
case_98 = refl

-- `class A{int m(){return;}}`: javac refuses it
case_99 : errors 0 ((syntax.class 0 ([]) (w 6 (codes "A")) None (syntax.more (syntax.method 8 ([])
    (Some (tree.int 8)) (w 12 (codes "m")) ([]) (statement.more (statement.return 16 None)
    statement.end)) syntax.end)) ∷ []) ≡ breaks 16 rule.ReturnForm ∷ []
unfolding is_accessible lacks_object assignable as_specific is_named is_ctor methods_named ctors_in choose_at find_method find_ctor find_call find_field find_field_of find_member_type last_named find_type shown find_variable find_type_named find_type_of find_field_in find_method_named find_method_of find_ctor_of own_row nearest member number_of entries_of chain_of row_of find_left find_left_of type_of class_name_of target_found types_of own_notes is_constant is_true_literal completes else_completes list_completes own_stmt_notes notes_of target_notes args_notes stmt_notes else_notes stmts_notes member_notes locals_in locals_in_else locals_in_row class_rows members_rows member_rows class_notes members_notes one_notes
case_99 = refl

-- `class A{A(){return 1;}}`: javac refuses it
case_100 : errors 0 ((syntax.class 0 ([]) (w 6 (codes "A")) None (syntax.more (syntax.constructor
    8 ([]) (w 8 (codes "A")) ([]) None (statement.more (statement.return 12 (Some (tree.number 19
    1))) statement.end)) syntax.end)) ∷ []) ≡ breaks 12 rule.ReturnForm ∷ []
unfolding is_accessible lacks_object assignable as_specific is_named is_ctor methods_named ctors_in choose_at find_method find_ctor find_call find_field find_field_of find_member_type last_named find_type shown find_variable find_type_named find_type_of find_field_in find_method_named find_method_of find_ctor_of own_row nearest member number_of entries_of chain_of row_of find_left find_left_of type_of class_name_of target_found types_of own_notes is_constant is_true_literal completes else_completes list_completes own_stmt_notes notes_of target_notes args_notes stmt_notes else_notes stmts_notes member_notes locals_in locals_in_else locals_in_row class_rows members_rows member_rows class_notes members_notes one_notes
case_100 = refl

-- `class A{A(){return;}}`: javac takes it
case_101 : errors 0 ((syntax.class 0 ([]) (w 6 (codes "A")) None (syntax.more (syntax.constructor
    8 ([]) (w 8 (codes "A")) ([]) None (statement.more (statement.return 12 None) statement.end))
    syntax.end)) ∷ []) ≡ []
unfolding is_accessible lacks_object assignable as_specific is_named is_ctor methods_named ctors_in choose_at find_method find_ctor find_call find_field find_field_of find_member_type last_named find_type shown find_variable find_type_named find_type_of find_field_in find_method_named find_method_of find_ctor_of own_row nearest member number_of entries_of chain_of row_of find_left find_left_of type_of class_name_of target_found types_of own_notes is_constant is_true_literal completes else_completes list_completes own_stmt_notes notes_of target_notes args_notes stmt_notes else_notes stmts_notes member_notes locals_in locals_in_else locals_in_row class_rows members_rows member_rows class_notes members_notes one_notes
case_101 = refl

-- `class A{int m(){}}`: javac refuses it
case_102 : errors 0 ((syntax.class 0 ([]) (w 6 (codes "A")) None (syntax.more (syntax.method 8
    ([]) (Some (tree.int 8)) (w 12 (codes "m")) ([]) statement.end) syntax.end)) ∷ []) ≡ breaks 12
    rule.MissingReturn ∷ []
unfolding is_accessible lacks_object assignable as_specific is_named is_ctor methods_named ctors_in choose_at find_method find_ctor find_call find_field find_field_of find_member_type last_named find_type shown find_variable find_type_named find_type_of find_field_in find_method_named find_method_of find_ctor_of own_row nearest member number_of entries_of chain_of row_of find_left find_left_of type_of class_name_of target_found types_of own_notes is_constant is_true_literal completes else_completes list_completes own_stmt_notes notes_of target_notes args_notes stmt_notes else_notes stmts_notes member_notes locals_in locals_in_else locals_in_row class_rows members_rows member_rows class_notes members_notes one_notes
case_102 = refl

-- `class A{int m(boolean b){if(b)return 1;}}`: javac refuses it
case_103 : errors 0 ((syntax.class 0 ([]) (w 6 (codes "A")) None (syntax.more (syntax.method 8
    ([]) (Some (tree.int 8)) (w 12 (codes "m")) ((param 14 false (tree.boolean 14) (w 22 (codes
    "b"))) ∷ []) (statement.more (statement.branch 25 (tree.name 28 (w 28 (codes "b")))
    (statement.return 30 (Some (tree.number 37 1))) statement.no_else) statement.end))
    syntax.end)) ∷ []) ≡ breaks 12 rule.MissingReturn ∷ []
unfolding is_accessible lacks_object assignable as_specific is_named is_ctor methods_named ctors_in choose_at find_method find_ctor find_call find_field find_field_of find_member_type last_named find_type shown find_variable find_type_named find_type_of find_field_in find_method_named find_method_of find_ctor_of own_row nearest member number_of entries_of chain_of row_of find_left find_left_of type_of class_name_of target_found types_of own_notes is_constant is_true_literal completes else_completes list_completes own_stmt_notes notes_of target_notes args_notes stmt_notes else_notes stmts_notes member_notes locals_in locals_in_else locals_in_row class_rows members_rows member_rows class_notes members_notes one_notes
case_103 = refl

-- `class A{int m(boolean b){if(b)return 1;else return 2;}}`: javac takes it
case_104 : errors 0 ((syntax.class 0 ([]) (w 6 (codes "A")) None (syntax.more (syntax.method 8
    ([]) (Some (tree.int 8)) (w 12 (codes "m")) ((param 14 false (tree.boolean 14) (w 22 (codes
    "b"))) ∷ []) (statement.more (statement.branch 25 (tree.name 28 (w 28 (codes "b")))
    (statement.return 30 (Some (tree.number 37 1))) (statement.otherwise (statement.return 44
    (Some (tree.number 51 2))))) statement.end)) syntax.end)) ∷ []) ≡ []
unfolding is_accessible lacks_object assignable as_specific is_named is_ctor methods_named ctors_in choose_at find_method find_ctor find_call find_field find_field_of find_member_type last_named find_type shown find_variable find_type_named find_type_of find_field_in find_method_named find_method_of find_ctor_of own_row nearest member number_of entries_of chain_of row_of find_left find_left_of type_of class_name_of target_found types_of own_notes is_constant is_true_literal completes else_completes list_completes own_stmt_notes notes_of target_notes args_notes stmt_notes else_notes stmts_notes member_notes locals_in locals_in_else locals_in_row class_rows members_rows member_rows class_notes members_notes one_notes
case_104 = refl

-- `class A{int m(boolean b){while(true){}}}`: javac takes it
case_105 : errors 0 ((syntax.class 0 ([]) (w 6 (codes "A")) None (syntax.more (syntax.method 8
    ([]) (Some (tree.int 8)) (w 12 (codes "m")) ((param 14 false (tree.boolean 14) (w 22 (codes
    "b"))) ∷ []) (statement.more (statement.loop 25 (tree.truth 31 true) (statement.block 36
    statement.end)) statement.end)) syntax.end)) ∷ []) ≡ []
unfolding is_accessible lacks_object assignable as_specific is_named is_ctor methods_named ctors_in choose_at find_method find_ctor find_call find_field find_field_of find_member_type last_named find_type shown find_variable find_type_named find_type_of find_field_in find_method_named find_method_of find_ctor_of own_row nearest member number_of entries_of chain_of row_of find_left find_left_of type_of class_name_of target_found types_of own_notes is_constant is_true_literal completes else_completes list_completes own_stmt_notes notes_of target_notes args_notes stmt_notes else_notes stmts_notes member_notes locals_in locals_in_else locals_in_row class_rows members_rows member_rows class_notes members_notes one_notes
case_105 = refl

-- `class A{int m(boolean b){while((true)){}}}`: javac takes it
case_106 : errors 0 ((syntax.class 0 ([]) (w 6 (codes "A")) None (syntax.more (syntax.method 8
    ([]) (Some (tree.int 8)) (w 12 (codes "m")) ((param 14 false (tree.boolean 14) (w 22 (codes
    "b"))) ∷ []) (statement.more (statement.loop 25 (tree.paren 31 (tree.truth 32 true))
    (statement.block 38 statement.end)) statement.end)) syntax.end)) ∷ []) ≡ []
unfolding is_accessible lacks_object assignable as_specific is_named is_ctor methods_named ctors_in choose_at find_method find_ctor find_call find_field find_field_of find_member_type last_named find_type shown find_variable find_type_named find_type_of find_field_in find_method_named find_method_of find_ctor_of own_row nearest member number_of entries_of chain_of row_of find_left find_left_of type_of class_name_of target_found types_of own_notes is_constant is_true_literal completes else_completes list_completes own_stmt_notes notes_of target_notes args_notes stmt_notes else_notes stmts_notes member_notes locals_in locals_in_else locals_in_row class_rows members_rows member_rows class_notes members_notes one_notes
case_106 = refl

-- `class A{int m(boolean b){while(b){return 1;}}}`: javac refuses it
case_107 : errors 0 ((syntax.class 0 ([]) (w 6 (codes "A")) None (syntax.more (syntax.method 8
    ([]) (Some (tree.int 8)) (w 12 (codes "m")) ((param 14 false (tree.boolean 14) (w 22 (codes
    "b"))) ∷ []) (statement.more (statement.loop 25 (tree.name 31 (w 31 (codes "b")))
    (statement.block 33 (statement.more (statement.return 34 (Some (tree.number 41 1)))
    statement.end))) statement.end)) syntax.end)) ∷ []) ≡ breaks 12 rule.MissingReturn ∷ []
unfolding is_accessible lacks_object assignable as_specific is_named is_ctor methods_named ctors_in choose_at find_method find_ctor find_call find_field find_field_of find_member_type last_named find_type shown find_variable find_type_named find_type_of find_field_in find_method_named find_method_of find_ctor_of own_row nearest member number_of entries_of chain_of row_of find_left find_left_of type_of class_name_of target_found types_of own_notes is_constant is_true_literal completes else_completes list_completes own_stmt_notes notes_of target_notes args_notes stmt_notes else_notes stmts_notes member_notes locals_in locals_in_else locals_in_row class_rows members_rows member_rows class_notes members_notes one_notes
case_107 = refl

-- `class A{int m(){synchronized(this){return 1;}}}`: javac takes it
case_108 : errors 0 ((syntax.class 0 ([]) (w 6 (codes "A")) None (syntax.more (syntax.method 8
    ([]) (Some (tree.int 8)) (w 12 (codes "m")) ([]) (statement.more (statement.sync 16 (tree.this
    29) (statement.more (statement.return 35 (Some (tree.number 42 1))) statement.end))
    statement.end)) syntax.end)) ∷ []) ≡ []
unfolding is_accessible lacks_object assignable as_specific is_named is_ctor methods_named ctors_in choose_at find_method find_ctor find_call find_field find_field_of find_member_type last_named find_type shown find_variable find_type_named find_type_of find_field_in find_method_named find_method_of find_ctor_of own_row nearest member number_of entries_of chain_of row_of find_left find_left_of type_of class_name_of target_found types_of own_notes is_constant is_true_literal completes else_completes list_completes own_stmt_notes notes_of target_notes args_notes stmt_notes else_notes stmts_notes member_notes locals_in locals_in_else locals_in_row class_rows members_rows member_rows class_notes members_notes one_notes
case_108 = refl

-- `class A{int m(){{return 1;}}}`: javac takes it
case_109 : errors 0 ((syntax.class 0 ([]) (w 6 (codes "A")) None (syntax.more (syntax.method 8
    ([]) (Some (tree.int 8)) (w 12 (codes "m")) ([]) (statement.more (statement.block 16
    (statement.more (statement.return 17 (Some (tree.number 24 1))) statement.end))
    statement.end)) syntax.end)) ∷ []) ≡ []
unfolding is_accessible lacks_object assignable as_specific is_named is_ctor methods_named ctors_in choose_at find_method find_ctor find_call find_field find_field_of find_member_type last_named find_type shown find_variable find_type_named find_type_of find_field_in find_method_named find_method_of find_ctor_of own_row nearest member number_of entries_of chain_of row_of find_left find_left_of type_of class_name_of target_found types_of own_notes is_constant is_true_literal completes else_completes list_completes own_stmt_notes notes_of target_notes args_notes stmt_notes else_notes stmts_notes member_notes locals_in locals_in_else locals_in_row class_rows members_rows member_rows class_notes members_notes one_notes
case_109 = refl

-- `class A{int m(boolean b){if(b){return 1;}else{}}}`: javac refuses it
case_110 : errors 0 ((syntax.class 0 ([]) (w 6 (codes "A")) None (syntax.more (syntax.method 8
    ([]) (Some (tree.int 8)) (w 12 (codes "m")) ((param 14 false (tree.boolean 14) (w 22 (codes
    "b"))) ∷ []) (statement.more (statement.branch 25 (tree.name 28 (w 28 (codes "b")))
    (statement.block 30 (statement.more (statement.return 31 (Some (tree.number 38 1)))
    statement.end)) (statement.otherwise (statement.block 45 statement.end))) statement.end))
    syntax.end)) ∷ []) ≡ breaks 12 rule.MissingReturn ∷ []
unfolding is_accessible lacks_object assignable as_specific is_named is_ctor methods_named ctors_in choose_at find_method find_ctor find_call find_field find_field_of find_member_type last_named find_type shown find_variable find_type_named find_type_of find_field_in find_method_named find_method_of find_ctor_of own_row nearest member number_of entries_of chain_of row_of find_left find_left_of type_of class_name_of target_found types_of own_notes is_constant is_true_literal completes else_completes list_completes own_stmt_notes notes_of target_notes args_notes stmt_notes else_notes stmts_notes member_notes locals_in locals_in_else locals_in_row class_rows members_rows member_rows class_notes members_notes one_notes
case_110 = refl

-- `class A{int m(){return 1;;}}`: javac refuses it
case_111 : errors 0 ((syntax.class 0 ([]) (w 6 (codes "A")) None (syntax.more (syntax.method 8
    ([]) (Some (tree.int 8)) (w 12 (codes "m")) ([]) (statement.more (statement.return 16 (Some
    (tree.number 23 1))) (statement.more (statement.empty 25) statement.end))) syntax.end)) ∷ [])
    ≡ breaks 25 rule.Unreachable ∷ []
unfolding is_accessible lacks_object assignable as_specific is_named is_ctor methods_named ctors_in choose_at find_method find_ctor find_call find_field find_field_of find_member_type last_named find_type shown find_variable find_type_named find_type_of find_field_in find_method_named find_method_of find_ctor_of own_row nearest member number_of entries_of chain_of row_of find_left find_left_of type_of class_name_of target_found types_of own_notes is_constant is_true_literal completes else_completes list_completes own_stmt_notes notes_of target_notes args_notes stmt_notes else_notes stmts_notes member_notes locals_in locals_in_else locals_in_row class_rows members_rows member_rows class_notes members_notes one_notes
case_111 = refl

-- `class A{int m(){;return 1;}}`: javac takes it
case_112 : errors 0 ((syntax.class 0 ([]) (w 6 (codes "A")) None (syntax.more (syntax.method 8
    ([]) (Some (tree.int 8)) (w 12 (codes "m")) ([]) (statement.more (statement.empty 16)
    (statement.more (statement.return 17 (Some (tree.number 24 1))) statement.end))) syntax.end))
    ∷ []) ≡ []
unfolding is_accessible lacks_object assignable as_specific is_named is_ctor methods_named ctors_in choose_at find_method find_ctor find_call find_field find_field_of find_member_type last_named find_type shown find_variable find_type_named find_type_of find_field_in find_method_named find_method_of find_ctor_of own_row nearest member number_of entries_of chain_of row_of find_left find_left_of type_of class_name_of target_found types_of own_notes is_constant is_true_literal completes else_completes list_completes own_stmt_notes notes_of target_notes args_notes stmt_notes else_notes stmts_notes member_notes locals_in locals_in_else locals_in_row class_rows members_rows member_rows class_notes members_notes one_notes
case_112 = refl

-- `class A{void m(){while(true){}m();}}`: javac refuses it
case_113 : errors 0 ((syntax.class 0 ([]) (w 6 (codes "A")) None (syntax.more (syntax.method 8
    ([]) None (w 13 (codes "m")) ([]) (statement.more (statement.loop 17 (tree.truth 23 true)
    (statement.block 28 statement.end)) (statement.more (statement.eval 30 (tree.call 30
    tree.no_target (w 30 (codes "m")) tree.end)) statement.end))) syntax.end)) ∷ []) ≡ breaks 30
    rule.Unreachable ∷ []
unfolding is_accessible lacks_object assignable as_specific is_named is_ctor methods_named ctors_in choose_at find_method find_ctor find_call find_field find_field_of find_member_type last_named find_type shown find_variable find_type_named find_type_of find_field_in find_method_named find_method_of find_ctor_of own_row nearest member number_of entries_of chain_of row_of find_left find_left_of type_of class_name_of target_found types_of own_notes is_constant is_true_literal completes else_completes list_completes own_stmt_notes notes_of target_notes args_notes stmt_notes else_notes stmts_notes member_notes locals_in locals_in_else locals_in_row class_rows members_rows member_rows class_notes members_notes one_notes
case_113 = refl

-- `class A{void m(boolean b){while(b){}m(b);}}`: javac takes it
case_114 : errors 0 ((syntax.class 0 ([]) (w 6 (codes "A")) None (syntax.more (syntax.method 8
    ([]) None (w 13 (codes "m")) ((param 15 false (tree.boolean 15) (w 23 (codes "b"))) ∷ [])
    (statement.more (statement.loop 26 (tree.name 32 (w 32 (codes "b"))) (statement.block 34
    statement.end)) (statement.more (statement.eval 36 (tree.call 36 tree.no_target (w 36 (codes
    "m")) (tree.more (tree.name 38 (w 38 (codes "b"))) tree.end))) statement.end))) syntax.end)) ∷
    []) ≡ []
unfolding is_accessible lacks_object assignable as_specific is_named is_ctor methods_named ctors_in choose_at find_method find_ctor find_call find_field find_field_of find_member_type last_named find_type shown find_variable find_type_named find_type_of find_field_in find_method_named find_method_of find_ctor_of own_row nearest member number_of entries_of chain_of row_of find_left find_left_of type_of class_name_of target_found types_of own_notes is_constant is_true_literal completes else_completes list_completes own_stmt_notes notes_of target_notes args_notes stmt_notes else_notes stmts_notes member_notes locals_in locals_in_else locals_in_row class_rows members_rows member_rows class_notes members_notes one_notes
case_114 = refl

-- `class A{void m(boolean b){if(b)return;else return;m(b);}}`: javac refuses it
case_115 : errors 0 ((syntax.class 0 ([]) (w 6 (codes "A")) None (syntax.more (syntax.method 8
    ([]) None (w 13 (codes "m")) ((param 15 false (tree.boolean 15) (w 23 (codes "b"))) ∷ [])
    (statement.more (statement.branch 26 (tree.name 29 (w 29 (codes "b"))) (statement.return 31
    None) (statement.otherwise (statement.return 43 None))) (statement.more (statement.eval 50
    (tree.call 50 tree.no_target (w 50 (codes "m")) (tree.more (tree.name 52 (w 52 (codes "b")))
    tree.end))) statement.end))) syntax.end)) ∷ []) ≡ breaks 50 rule.Unreachable ∷ []
unfolding is_accessible lacks_object assignable as_specific is_named is_ctor methods_named ctors_in choose_at find_method find_ctor find_call find_field find_field_of find_member_type last_named find_type shown find_variable find_type_named find_type_of find_field_in find_method_named find_method_of find_ctor_of own_row nearest member number_of entries_of chain_of row_of find_left find_left_of type_of class_name_of target_found types_of own_notes is_constant is_true_literal completes else_completes list_completes own_stmt_notes notes_of target_notes args_notes stmt_notes else_notes stmts_notes member_notes locals_in locals_in_else locals_in_row class_rows members_rows member_rows class_notes members_notes one_notes
case_115 = refl

-- `class A{void m(boolean b){if(b)return;m(b);}}`: javac takes it
case_116 : errors 0 ((syntax.class 0 ([]) (w 6 (codes "A")) None (syntax.more (syntax.method 8
    ([]) None (w 13 (codes "m")) ((param 15 false (tree.boolean 15) (w 23 (codes "b"))) ∷ [])
    (statement.more (statement.branch 26 (tree.name 29 (w 29 (codes "b"))) (statement.return 31
    None) statement.no_else) (statement.more (statement.eval 38 (tree.call 38 tree.no_target (w 38
    (codes "m")) (tree.more (tree.name 40 (w 40 (codes "b"))) tree.end))) statement.end)))
    syntax.end)) ∷ []) ≡ []
unfolding is_accessible lacks_object assignable as_specific is_named is_ctor methods_named ctors_in choose_at find_method find_ctor find_call find_field find_field_of find_member_type last_named find_type shown find_variable find_type_named find_type_of find_field_in find_method_named find_method_of find_ctor_of own_row nearest member number_of entries_of chain_of row_of find_left find_left_of type_of class_name_of target_found types_of own_notes is_constant is_true_literal completes else_completes list_completes own_stmt_notes notes_of target_notes args_notes stmt_notes else_notes stmts_notes member_notes locals_in locals_in_else locals_in_row class_rows members_rows member_rows class_notes members_notes one_notes
case_116 = refl

-- `class A{void m(boolean b){if(true)return;m(b);}}`: javac takes it
case_117 : errors 0 ((syntax.class 0 ([]) (w 6 (codes "A")) None (syntax.more (syntax.method 8
    ([]) None (w 13 (codes "m")) ((param 15 false (tree.boolean 15) (w 23 (codes "b"))) ∷ [])
    (statement.more (statement.branch 26 (tree.truth 29 true) (statement.return 34 None)
    statement.no_else) (statement.more (statement.eval 41 (tree.call 41 tree.no_target (w 41
    (codes "m")) (tree.more (tree.name 43 (w 43 (codes "b"))) tree.end))) statement.end)))
    syntax.end)) ∷ []) ≡ []
unfolding is_accessible lacks_object assignable as_specific is_named is_ctor methods_named ctors_in choose_at find_method find_ctor find_call find_field find_field_of find_member_type last_named find_type shown find_variable find_type_named find_type_of find_field_in find_method_named find_method_of find_ctor_of own_row nearest member number_of entries_of chain_of row_of find_left find_left_of type_of class_name_of target_found types_of own_notes is_constant is_true_literal completes else_completes list_completes own_stmt_notes notes_of target_notes args_notes stmt_notes else_notes stmts_notes member_notes locals_in locals_in_else locals_in_row class_rows members_rows member_rows class_notes members_notes one_notes
case_117 = refl

-- `class A{void m(){{return;};}}`: javac refuses it
case_118 : errors 0 ((syntax.class 0 ([]) (w 6 (codes "A")) None (syntax.more (syntax.method 8
    ([]) None (w 13 (codes "m")) ([]) (statement.more (statement.block 17 (statement.more
    (statement.return 18 None) statement.end)) (statement.more (statement.empty 26)
    statement.end))) syntax.end)) ∷ []) ≡ breaks 26 rule.Unreachable ∷ []
unfolding is_accessible lacks_object assignable as_specific is_named is_ctor methods_named ctors_in choose_at find_method find_ctor find_call find_field find_field_of find_member_type last_named find_type shown find_variable find_type_named find_type_of find_field_in find_method_named find_method_of find_ctor_of own_row nearest member number_of entries_of chain_of row_of find_left find_left_of type_of class_name_of target_found types_of own_notes is_constant is_true_literal completes else_completes list_completes own_stmt_notes notes_of target_notes args_notes stmt_notes else_notes stmts_notes member_notes locals_in locals_in_else locals_in_row class_rows members_rows member_rows class_notes members_notes one_notes
case_118 = refl

-- `class A{void m(){while(false){}}}`: javac refuses it
case_119 : errors 0 ((syntax.class 0 ([]) (w 6 (codes "A")) None (syntax.more (syntax.method 8
    ([]) None (w 13 (codes "m")) ([]) (statement.more (statement.loop 17 (tree.truth 23 false)
    (statement.block 29 statement.end)) statement.end)) syntax.end)) ∷ []) ≡ breaks 23
    rule.ConstantCondition ∷ []
unfolding is_accessible lacks_object assignable as_specific is_named is_ctor methods_named ctors_in choose_at find_method find_ctor find_call find_field find_field_of find_member_type last_named find_type shown find_variable find_type_named find_type_of find_field_in find_method_named find_method_of find_ctor_of own_row nearest member number_of entries_of chain_of row_of find_left find_left_of type_of class_name_of target_found types_of own_notes is_constant is_true_literal completes else_completes list_completes own_stmt_notes notes_of target_notes args_notes stmt_notes else_notes stmts_notes member_notes locals_in locals_in_else locals_in_row class_rows members_rows member_rows class_notes members_notes one_notes
case_119 = refl

-- `class A{void m(){while(true){}}}`: javac takes it
case_120 : errors 0 ((syntax.class 0 ([]) (w 6 (codes "A")) None (syntax.more (syntax.method 8
    ([]) None (w 13 (codes "m")) ([]) (statement.more (statement.loop 17 (tree.truth 23 true)
    (statement.block 28 statement.end)) statement.end)) syntax.end)) ∷ []) ≡ []
unfolding is_accessible lacks_object assignable as_specific is_named is_ctor methods_named ctors_in choose_at find_method find_ctor find_call find_field find_field_of find_member_type last_named find_type shown find_variable find_type_named find_type_of find_field_in find_method_named find_method_of find_ctor_of own_row nearest member number_of entries_of chain_of row_of find_left find_left_of type_of class_name_of target_found types_of own_notes is_constant is_true_literal completes else_completes list_completes own_stmt_notes notes_of target_notes args_notes stmt_notes else_notes stmts_notes member_notes locals_in locals_in_else locals_in_row class_rows members_rows member_rows class_notes members_notes one_notes
case_120 = refl

-- `class A{void m(){while(1<2){}}}`: javac takes it
case_121 : errors 0 ((syntax.class 0 ([]) (w 6 (codes "A")) None (syntax.more (syntax.method 8
    ([]) None (w 13 (codes "m")) ([]) (statement.more (statement.loop 17 (tree.binary 23 op.Lt
    (tree.number 23 1) (tree.number 25 2)) (statement.block 27 statement.end)) statement.end))
    syntax.end)) ∷ []) ≡ breaks 23 rule.ConstantCondition ∷ []
unfolding is_accessible lacks_object assignable as_specific is_named is_ctor methods_named ctors_in choose_at find_method find_ctor find_call find_field find_field_of find_member_type last_named find_type shown find_variable find_type_named find_type_of find_field_in find_method_named find_method_of find_ctor_of own_row nearest member number_of entries_of chain_of row_of find_left find_left_of type_of class_name_of target_found types_of own_notes is_constant is_true_literal completes else_completes list_completes own_stmt_notes notes_of target_notes args_notes stmt_notes else_notes stmts_notes member_notes locals_in locals_in_else locals_in_row class_rows members_rows member_rows class_notes members_notes one_notes
case_121 = refl

-- `class A{void m(){final boolean b=true;while(b){}}}`: javac takes it
case_122 : errors 0 ((syntax.class 0 ([]) (w 6 (codes "A")) None (syntax.more (syntax.method 8
    ([]) None (w 13 (codes "m")) ([]) (statement.more (statement.local 17 true (tree.boolean 23)
    (w 31 (codes "b")) (tree.truth 33 true)) (statement.more (statement.loop 38 (tree.name 44 (w
    44 (codes "b"))) (statement.block 46 statement.end)) statement.end))) syntax.end)) ∷ []) ≡
    breaks 44 rule.ConstantCondition ∷ []
unfolding is_accessible lacks_object assignable as_specific is_named is_ctor methods_named ctors_in choose_at find_method find_ctor find_call find_field find_field_of find_member_type last_named find_type shown find_variable find_type_named find_type_of find_field_in find_method_named find_method_of find_ctor_of own_row nearest member number_of entries_of chain_of row_of find_left find_left_of type_of class_name_of target_found types_of own_notes is_constant is_true_literal completes else_completes list_completes own_stmt_notes notes_of target_notes args_notes stmt_notes else_notes stmts_notes member_notes locals_in locals_in_else locals_in_row class_rows members_rows member_rows class_notes members_notes one_notes
case_122 = refl

-- `class A{void m(){boolean b=true;while(b){}}}`: javac takes it
case_123 : errors 0 ((syntax.class 0 ([]) (w 6 (codes "A")) None (syntax.more (syntax.method 8
    ([]) None (w 13 (codes "m")) ([]) (statement.more (statement.local 17 false (tree.boolean 17)
    (w 25 (codes "b")) (tree.truth 27 true)) (statement.more (statement.loop 32 (tree.name 38 (w
    38 (codes "b"))) (statement.block 40 statement.end)) statement.end))) syntax.end)) ∷ []) ≡ []
unfolding is_accessible lacks_object assignable as_specific is_named is_ctor methods_named ctors_in choose_at find_method find_ctor find_call find_field find_field_of find_member_type last_named find_type shown find_variable find_type_named find_type_of find_field_in find_method_named find_method_of find_ctor_of own_row nearest member number_of entries_of chain_of row_of find_left find_left_of type_of class_name_of target_found types_of own_notes is_constant is_true_literal completes else_completes list_completes own_stmt_notes notes_of target_notes args_notes stmt_notes else_notes stmts_notes member_notes locals_in locals_in_else locals_in_row class_rows members_rows member_rows class_notes members_notes one_notes
case_123 = refl

-- `class A{void m(final boolean b){while(b){}}}`: javac takes it
case_124 : errors 0 ((syntax.class 0 ([]) (w 6 (codes "A")) None (syntax.more (syntax.method 8
    ([]) None (w 13 (codes "m")) ((param 15 true (tree.boolean 21) (w 29 (codes "b"))) ∷ [])
    (statement.more (statement.loop 32 (tree.name 38 (w 38 (codes "b"))) (statement.block 40
    statement.end)) statement.end)) syntax.end)) ∷ []) ≡ []
unfolding is_accessible lacks_object assignable as_specific is_named is_ctor methods_named ctors_in choose_at find_method find_ctor find_call find_field find_field_of find_member_type last_named find_type shown find_variable find_type_named find_type_of find_field_in find_method_named find_method_of find_ctor_of own_row nearest member number_of entries_of chain_of row_of find_left find_left_of type_of class_name_of target_found types_of own_notes is_constant is_true_literal completes else_completes list_completes own_stmt_notes notes_of target_notes args_notes stmt_notes else_notes stmts_notes member_notes locals_in locals_in_else locals_in_row class_rows members_rows member_rows class_notes members_notes one_notes
case_124 = refl

-- `class A{static final int c=1;void m(){while(A.c<2){}}}`: javac takes it
case_125 : errors 0 ((syntax.class 0 ([]) (w 6 (codes "A")) None (syntax.more (syntax.field 8
    ((modifier 8 word.Static) ∷ (modifier 15 word.Final) ∷ []) (tree.int 21) (w 25 (codes "c"))
    (Some (tree.number 27 1))) (syntax.more (syntax.method 29 ([]) None (w 34 (codes "m")) ([])
    (statement.more (statement.loop 38 (tree.binary 44 op.Lt (tree.field 44 (tree.name 44 (w 44
    (codes "A"))) (w 46 (codes "c"))) (tree.number 48 2)) (statement.block 50 statement.end))
    statement.end)) syntax.end))) ∷ []) ≡ breaks 44 rule.ConstantCondition ∷ []
unfolding is_accessible lacks_object assignable as_specific is_named is_ctor methods_named ctors_in choose_at find_method find_ctor find_call find_field find_field_of find_member_type last_named find_type shown find_variable find_type_named find_type_of find_field_in find_method_named find_method_of find_ctor_of own_row nearest member number_of entries_of chain_of row_of find_left find_left_of type_of class_name_of target_found types_of own_notes is_constant is_true_literal completes else_completes list_completes own_stmt_notes notes_of target_notes args_notes stmt_notes else_notes stmts_notes member_notes locals_in locals_in_else locals_in_row class_rows members_rows member_rows class_notes members_notes one_notes
case_125 = refl

-- `class A{static int c=1;void m(){while(A.c<2){}}}`: javac takes it
case_126 : errors 0 ((syntax.class 0 ([]) (w 6 (codes "A")) None (syntax.more (syntax.field 8
    ((modifier 8 word.Static) ∷ []) (tree.int 15) (w 19 (codes "c")) (Some (tree.number 21 1)))
    (syntax.more (syntax.method 23 ([]) None (w 28 (codes "m")) ([]) (statement.more
    (statement.loop 32 (tree.binary 38 op.Lt (tree.field 38 (tree.name 38 (w 38 (codes "A"))) (w
    40 (codes "c"))) (tree.number 42 2)) (statement.block 44 statement.end)) statement.end))
    syntax.end))) ∷ []) ≡ []
unfolding is_accessible lacks_object assignable as_specific is_named is_ctor methods_named ctors_in choose_at find_method find_ctor find_call find_field find_field_of find_member_type last_named find_type shown find_variable find_type_named find_type_of find_field_in find_method_named find_method_of find_ctor_of own_row nearest member number_of entries_of chain_of row_of find_left find_left_of type_of class_name_of target_found types_of own_notes is_constant is_true_literal completes else_completes list_completes own_stmt_notes notes_of target_notes args_notes stmt_notes else_notes stmts_notes member_notes locals_in locals_in_else locals_in_row class_rows members_rows member_rows class_notes members_notes one_notes
case_126 = refl

-- `class A{final int c=1;void m(){while(this.c<2){}}}`: javac takes it
case_127 : errors 0 ((syntax.class 0 ([]) (w 6 (codes "A")) None (syntax.more (syntax.field 8
    ((modifier 8 word.Final) ∷ []) (tree.int 14) (w 18 (codes "c")) (Some (tree.number 20 1)))
    (syntax.more (syntax.method 22 ([]) None (w 27 (codes "m")) ([]) (statement.more
    (statement.loop 31 (tree.binary 37 op.Lt (tree.field 37 (tree.this 37) (w 42 (codes "c")))
    (tree.number 44 2)) (statement.block 46 statement.end)) statement.end)) syntax.end))) ∷ []) ≡
    []
unfolding is_accessible lacks_object assignable as_specific is_named is_ctor methods_named ctors_in choose_at find_method find_ctor find_call find_field find_field_of find_member_type last_named find_type shown find_variable find_type_named find_type_of find_field_in find_method_named find_method_of find_ctor_of own_row nearest member number_of entries_of chain_of row_of find_left find_left_of type_of class_name_of target_found types_of own_notes is_constant is_true_literal completes else_completes list_completes own_stmt_notes notes_of target_notes args_notes stmt_notes else_notes stmts_notes member_notes locals_in locals_in_else locals_in_row class_rows members_rows member_rows class_notes members_notes one_notes
case_127 = refl

-- `class A{final int c=1;void m(){while(c<2){}}}`: javac takes it
case_128 : errors 0 ((syntax.class 0 ([]) (w 6 (codes "A")) None (syntax.more (syntax.field 8
    ((modifier 8 word.Final) ∷ []) (tree.int 14) (w 18 (codes "c")) (Some (tree.number 20 1)))
    (syntax.more (syntax.method 22 ([]) None (w 27 (codes "m")) ([]) (statement.more
    (statement.loop 31 (tree.binary 37 op.Lt (tree.name 37 (w 37 (codes "c"))) (tree.number 39 2))
    (statement.block 41 statement.end)) statement.end)) syntax.end))) ∷ []) ≡ breaks 37
    rule.ConstantCondition ∷ []
unfolding is_accessible lacks_object assignable as_specific is_named is_ctor methods_named ctors_in choose_at find_method find_ctor find_call find_field find_field_of find_member_type last_named find_type shown find_variable find_type_named find_type_of find_field_in find_method_named find_method_of find_ctor_of own_row nearest member number_of entries_of chain_of row_of find_left find_left_of type_of class_name_of target_found types_of own_notes is_constant is_true_literal completes else_completes list_completes own_stmt_notes notes_of target_notes args_notes stmt_notes else_notes stmts_notes member_notes locals_in locals_in_else locals_in_row class_rows members_rows member_rows class_notes members_notes one_notes
case_128 = refl

-- `class A{void m(){while(A.class==A.class){}}}`: javac takes it
case_129 : errors 0 ((syntax.class 0 ([]) (w 6 (codes "A")) None (syntax.more (syntax.method 8
    ([]) None (w 13 (codes "m")) ([]) (statement.more (statement.loop 17 (tree.binary 23 op.Eq
    (tree.class_literal 23 (tree.named 23 None (w 23 (codes "A")))) (tree.class_literal 32
    (tree.named 32 None (w 32 (codes "A"))))) (statement.block 40 statement.end)) statement.end))
    syntax.end)) ∷ []) ≡ []
unfolding is_accessible lacks_object assignable as_specific is_named is_ctor methods_named ctors_in choose_at find_method find_ctor find_call find_field find_field_of find_member_type last_named find_type shown find_variable find_type_named find_type_of find_field_in find_method_named find_method_of find_ctor_of own_row nearest member number_of entries_of chain_of row_of find_left find_left_of type_of class_name_of target_found types_of own_notes is_constant is_true_literal completes else_completes list_completes own_stmt_notes notes_of target_notes args_notes stmt_notes else_notes stmts_notes member_notes locals_in locals_in_else locals_in_row class_rows members_rows member_rows class_notes members_notes one_notes
case_129 = refl

-- `class A{void m(){while((Object)null==null){}}}`: javac takes it
case_130 : errors 0 ((syntax.class 0 ([]) (w 6 (codes "A")) None (syntax.more (syntax.method 8
    ([]) None (w 13 (codes "m")) ([]) (statement.more (statement.loop 17 (tree.binary 23 op.Eq
    (tree.cast 23 (tree.named 24 None (w 24 (codes "Object"))) (tree.null 31)) (tree.null 37))
    (statement.block 42 statement.end)) statement.end)) syntax.end)) ∷ []) ≡ breaks 23
    rule.ConstantCondition ∷ []
unfolding is_accessible lacks_object assignable as_specific is_named is_ctor methods_named ctors_in choose_at find_method find_ctor find_call find_field find_field_of find_member_type last_named find_type shown find_variable find_type_named find_type_of find_field_in find_method_named find_method_of find_ctor_of own_row nearest member number_of entries_of chain_of row_of find_left find_left_of type_of class_name_of target_found types_of own_notes is_constant is_true_literal completes else_completes list_completes own_stmt_notes notes_of target_notes args_notes stmt_notes else_notes stmts_notes member_notes locals_in locals_in_else locals_in_row class_rows members_rows member_rows class_notes members_notes one_notes
case_130 = refl
