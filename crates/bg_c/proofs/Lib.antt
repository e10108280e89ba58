mod Values
mod HandleSteps
mod StatusCodes
mod Fresh
mod EntryLines
mod Shown
