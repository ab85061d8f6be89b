mod Fronts
mod RunLines
mod Listed
mod Answered
mod Rereading
mod Walking
mod MakingFiles
mod SameRuns
mod Splits
mod Outside
mod Unchanged
pub mod Noting
mod Statuses
mod ComparedOut
mod CutOut
mod CanonicalOut
