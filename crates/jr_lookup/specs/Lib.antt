pub mod LocalView
pub mod ScopeView
