use Rattle.jr_new_words.proofs.staying_by.is_method_on_class.Goals as goal

pub returns-then-is_class_member : goal.returns-then-is_class_member
returns-then-is_class_member c = λ t. (c.is_method.ensures t, c.is_class_member.ensures c.if-is_class_member.true)
