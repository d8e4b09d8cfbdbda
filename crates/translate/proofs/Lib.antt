pub mod ByNumber
pub mod Tables
pub mod Narrowness
pub mod Translating
