pub mod Declaring
pub mod DeclaredView
pub mod Asking
pub mod AskedView
