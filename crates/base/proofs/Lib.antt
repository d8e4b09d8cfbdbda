pub mod Cases
pub mod Lists
pub mod Numbers
pub mod Arms
pub mod Places
pub mod Fronts
