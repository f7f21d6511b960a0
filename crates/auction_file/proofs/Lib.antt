pub mod Cells
pub mod NamesRead
pub mod Turns
pub mod Distinct
pub mod Openings
pub mod TermsRead
