pub mod Past
pub mod Within
