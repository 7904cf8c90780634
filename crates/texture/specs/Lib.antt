-- Event lists (7.4.1, Annex B): sentences, the reader, and what the code answers.
pub mod Events
pub mod EventsReader
pub mod Places
pub mod Answer
pub mod Outcomes
pub mod Inside
