-- That each call over honest devices is a step of the protocol.
pub mod Sides
pub mod Hands
pub mod DueRows
pub mod RefereeRows
pub mod LearnRows
pub mod FollowerRows
pub mod EarlyRows
pub mod ChooseRows
pub mod SaveCases
pub mod SaveRows
pub mod SendCases
pub mod TickRows
pub mod RestartCases
pub mod RestartRows
pub mod Goes
