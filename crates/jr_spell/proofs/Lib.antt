-- `Deciding`, `Trying`: the tests in order are the first spelling that binds. `Parents`, `Dots`,
-- `Founds`, `StaticWords`: superclasses, words of classes, what is found, static members. `Shapes`,
-- `Rebinding`: a spelling as a tree, and what binding says of it. `Cases`: single spellings.
mod Parents
mod Deciding
mod Founds
mod StaticWords
mod Dots
mod Trying
mod Shapes
mod Rebinding
mod Cases
