pub mod Places
pub mod Times
