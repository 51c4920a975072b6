pub mod Event
pub mod AnswerLine
pub mod Log
pub mod Read
