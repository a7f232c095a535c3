-- `unfolding computing` lets `refl` compute a text's items, what it declares, what is looked up in it, its code and what it breaks.
use Rattle.unicode_ident.proofs.Computing.{unicode_ident}
use Rattle.jr_lex.specs.Characters.{is_word_start, is_word_part}
use Rattle.jr_lex.specs.Scan.{scan, extended, keyword_of}
use Rattle.jr_table.specs.Entries.{number_of, entries_of}
use Rattle.jr_table.specs.Chains.{chain_of}
use Rattle.jr_table.specs.Looking.{own_row, nearest, member}
use Rattle.jr_table.specs.Access.{is_accessible, lacks_object}
use Rattle.jr_table.specs.Calls.{assignable, as_specific, is_named, is_ctor, methods_named, ctors_in, choose_at, find_method, find_ctor, find_call}
use Rattle.jr_table.specs.Fields.{find_field, find_field_of, find_member_type}
use Rattle.jr_table.specs.TypeNames.{find_type}
use Rattle.jr_table.specs.Scope.{last_named}
use Rattle.jr_table.specs.Lookup.{shown, find_variable, find_type_named, find_type_of, find_field_in, find_method_named, find_method_of, find_ctor_of}
use Rattle.jr_table.specs.Meanings.{row_of, find_left, find_left_of, type_of, class_name_of, target_found, types_of}
use Rattle.jr_table.specs.Context.{locals_in, locals_in_else, locals_in_row}
use Rattle.jr_table.specs.DeclaredItems.{member_declarations, class_declarations, members_declarations, declarations_of}
use Rattle.jr_table.specs.Notes.{is_constant, own_notes, is_true_literal, list_completes, own_stmt_notes}
use Rattle.jr_table.specs.Walks.{notes_of, stmts_notes, member_notes}
use Rattle.jr_code.specs.CodedStatements.{numbers}
use Rattle.jr_code.specs.CodedFields.{ClassFirsts, MembersFirsts, MemberFirst}

unfoldable pub computing : Unit {0}
unfolding unicode_ident is_word_start is_word_part scan extended keyword_of number_of entries_of chain_of own_row nearest member is_accessible lacks_object assignable as_specific is_named is_ctor methods_named ctors_in choose_at find_method find_ctor find_call find_field find_field_of find_member_type find_type last_named shown find_variable find_type_named find_type_of find_field_in find_method_named find_method_of find_ctor_of row_of find_left find_left_of type_of class_name_of target_found types_of locals_in locals_in_else locals_in_row member_declarations class_declarations members_declarations declarations_of is_constant own_notes is_true_literal list_completes own_stmt_notes notes_of stmts_notes member_notes numbers ClassFirsts MembersFirsts MemberFirst
computing = tt
