pub mod Lists
pub mod Demands
pub mod Spelling
pub mod Covering
pub mod Opening
pub mod Beginning
pub mod Giving
