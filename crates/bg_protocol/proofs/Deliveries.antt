-- Lemmas of devices.
pub mod Inboxes
pub mod Arrivals
pub mod KeptTexts
pub mod Unplanned
