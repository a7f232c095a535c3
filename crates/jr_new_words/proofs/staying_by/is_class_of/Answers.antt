use Rattle.jr_new_words.proofs.staying_by.is_class_of.Goals as goal

pub returns-then-is_one_word : goal.returns-then-is_one_word
returns-then-is_one_word c = λ t. (c.eq.ensures.0 t, c.is_one_word.ensures c.if-is_one_word.true)
