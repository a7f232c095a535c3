-- `GoingOn`: ways behind an element. `Below`: numbers of the locals in scope. `Named`: their names.
pub mod GoingOn
pub mod Below
pub mod Named
