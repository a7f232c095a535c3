use Rattle.jr_new_words.proofs.staying_by.is_method_on_value.Goals as goal

pub returns-then-is_value_member : goal.returns-then-is_value_member
returns-then-is_value_member c = λ t. (c.is_method.ensures t, c.is_value_member.ensures c.if-is_value_member.true)
