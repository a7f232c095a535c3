use Rattle.jr_new_words.proofs.staying_by.is_method_behind.Goals as goal

pub returns-then-names_class : goal.returns-then-names_class
returns-then-names_class c = λ t.
    let h = c.is_method_on_class.ensures t in
    (c.names_class.ensures.0 c.if-names_class.true, h.0, h.1)
