-- The steps of a call of a run, as its trace tells them.
pub mod TypedCalls
pub mod StepMakes
pub mod SinceOpening
pub mod OpenedFiles
pub mod BegunFiles
pub mod OpenedCalls
pub mod KnownSides
pub mod BegunCalls
