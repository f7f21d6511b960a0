pub mod AtPlace
pub mod FirstTriple
pub mod Local
pub mod LocalStep
pub mod Points
pub mod Spots
pub mod Totals
