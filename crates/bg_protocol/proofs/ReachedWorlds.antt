-- Lemmas of worlds that a run leads to.
pub mod Running
pub mod FineOutcomes
pub mod NoRefusals
pub mod Upheld
pub mod Starting
pub mod Numbered
pub mod DiceWords
pub mod NoFailures
pub mod Simulating
pub mod NodeSteps
pub mod Interleaved
