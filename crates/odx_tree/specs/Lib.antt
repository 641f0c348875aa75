pub mod Below
pub mod Places
pub mod Tree
pub mod Laws
