-- What holds of every state that a run reaches.
pub mod Agreement
pub mod Shown
pub mod Claims
pub mod Headline
pub mod Refusals
pub mod Survival
pub mod GivenBack
