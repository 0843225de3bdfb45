pub mod Sound
pub mod Loans
pub mod Places
pub mod Seats
pub mod Rule
pub mod OneWord
pub mod TestPermits
