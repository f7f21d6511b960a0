pub mod Exchange
pub mod Local
pub mod Tables
pub mod Verdicts
