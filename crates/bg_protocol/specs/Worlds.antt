-- Worlds and nodes: what contracts see of them, which are reached, and what holds of these.
pub mod Views
pub mod Calls
pub mod WorldState
pub mod WorldRuns
pub mod World
pub mod TwoSteps
pub mod HeldKeepers
pub mod UnderWay
pub mod Nodes
pub mod Interleavings
pub mod Starts
pub mod NotRefused
pub mod Upholds
pub mod WorldLaws
pub mod DiceWords
pub mod Simulations
