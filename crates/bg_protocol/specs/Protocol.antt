-- The protocol, from the state of all parties to whole runs.
pub mod Roles
pub mod Datagrams
pub mod Slots
pub mod State
pub mod Frames
pub mod DueStep
pub mod RefereeTakeStep
pub mod FollowerTakeStep
pub mod TakeStep
pub mod ChooseStep
pub mod RestartStep
pub mod SaveStep
pub mod TickStep
pub mod Step
pub mod Runs
