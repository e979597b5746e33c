-- What a copy did for each destination that it clears, with the steps that were for it.
pub mod Phases
pub mod Going
pub mod Keeping
pub mod Run
