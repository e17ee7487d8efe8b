pub mod Digits
pub mod Window
pub mod Records
pub mod Texts
